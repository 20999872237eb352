-- The greatest number of reads of the mount of a table with a log.
use Rattle.std.proofs.Common.{◌≡◌, ℕ, ◌+◌, ◌≤◌, Option, Some, None, refl, arith}
use Rattle.fl_model.specs.Bare.{bare, bare_table}
use Rattle.fl_model.specs.MountLimit.{part_mount_limit, log_mount_limit, mount_limit}
use Rattle.fl_model.specs.Record.{Plan}
use Rattle.fl_model.specs.Ring.{Ring, Shape}
use Rattle.fl_model.specs.Table.{Table, LogRing, shape_of}
use Rattle.fl_model.proofs.Bare.{bare-tables}

-- the log's mount reads what that of a ring does, and then at most its newest page
pub log-more : (shape : Shape) (o : Option Ring) (ring : Ring) → o ≡ Some ring → log_mount_limit shape o ≡ part_mount_limit shape o + 1
log-more shape None ring e = cc
log-more shape (Some r) ring e = refl

sum-within : (all front rest old mid new : ℕ) → all ≡ front + rest → mid ≤ old + front → new ≤ mid + rest → new ≤ old + all
sum-within all front rest old mid new sum before after = omega (arith, sum, before, after)

-- the table is mounted, and then its log
pub limit-behind : (plan : Plan) (table : Table) (old mid new : ℕ) → mid ≤ old + mount_limit (bare plan) (bare_table table) → new ≤ mid + log_mount_limit (shape_of plan LogRing) table.log → new ≤ old + mount_limit plan table
limit-behind plan table old mid new before after =
    sum-within (mount_limit plan table) (mount_limit (bare plan) (bare_table table)) (log_mount_limit (shape_of plan LogRing) table.log) old mid new (bare-tables.mount_limit plan table) before after

-- .. or the table alone
pub limit-alone : (plan : Plan) (table : Table) (old new : ℕ) → new ≤ old + mount_limit (bare plan) (bare_table table) → new ≤ old + mount_limit plan table
limit-alone plan table old new before = limit-behind plan table old new new before (omega arith)

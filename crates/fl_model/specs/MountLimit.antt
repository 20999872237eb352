-- The greatest number of reads of the mount of a table whose index entries are full.
use Rattle.std.specs.Prelude.{ℕ, ◌+◌, ◌*◌, not, ◌==◌, Option, option_map, unwrap_or, List, [], ◌∷◌, length, count_by, if◌then◌else◌}
use Rattle.std.specs.List.{fold}
use Rattle.fl_model.specs.Record.{Plan}
use Rattle.fl_model.specs.Ring.{Shape, Ring}
use Rattle.fl_model.specs.Table.{Table, RingName, DataRing, IndexRing, VarRing, LogRing, shape_of}
use Rattle.fl_model.specs.Limits.{is_listed, numbers_of}
use Rattle.fl_model.specs.Mount.{renumber, rings_of}
use Rattle.fl_model.specs.Within.{all_done, effect_within, repair_within}

-- the table when a ring was mounted, where no operation of it failed, and when these rings were
abbrev pub repaired : Plan → RingName → Table → Table
repaired plan ring table =
    let numbered = renumber plan ring table in all_done (effect_within plan) (repair_within plan ring numbered) numbered

abbrev pub all_repaired : Plan → List RingName → Table → Table
all_repaired plan [] table = table
all_repaired plan (ring ∷ rings) table = all_repaired plan rings (repaired plan ring table)

-- the void pages behind the last page with a count
abbrev pub voids_at_end : List ℕ → ℕ
voids_at_end counts = fold (λ n count. if count == 0 then n + 1 else 0) 0 counts

-- the greatest number of reads of a ring's mount: the last page of each block, the head, the block ahead, and back to the
-- newest page that isn't void
abbrev pub ring_mount_limit : Shape → Ring → ℕ
ring_mount_limit shape ring = shape.blocks + 2 * shape.pages + 1 + voids_at_end ring.counts

-- .. of one that may be missing
abbrev pub part_mount_limit : Shape → Option Ring → ℕ
part_mount_limit shape ring = unwrap_or (option_map (ring_mount_limit shape) ring) 0

-- .. of a log, whose newest page with rows is then read for its records
abbrev pub log_mount_limit : Shape → Option Ring → ℕ
log_mount_limit shape ring = unwrap_or (option_map (λ r. ring_mount_limit shape r + 1) ring) 0

-- how many pages a ring keeps that may be missing
abbrev pub kept_in : Option Ring → ℕ
kept_in ring = unwrap_or (option_map (λ (r : Ring). length r.counts) ring) 0

-- the greatest number of reads of such a mount, from the table before it and after its repairs: those of its rings, each
-- kept index page, the kept data pages that no kept index page lists, the newest data page with rows, and that of the log;
-- the seal of the records that the log has alone reads nothing
abbrev pub full_mount_limit : Plan → Table → Table → ℕ
full_mount_limit plan before after =
    ring_mount_limit (shape_of plan DataRing) before.rows + part_mount_limit (shape_of plan IndexRing) before.index + part_mount_limit (shape_of plan VarRing) before.var
    + log_mount_limit (shape_of plan LogRing) before.log + kept_in after.index + count_by (λ number. not (is_listed plan after number)) (numbers_of after) + 1

-- .. and as the repairs leave the table
abbrev pub mount_limit : Plan → Table → ℕ
mount_limit plan table = full_mount_limit plan table (all_repaired plan (rings_of plan) table)

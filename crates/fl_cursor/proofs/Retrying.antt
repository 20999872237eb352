-- The reads of a cursor that goes on after steps that failed.
use Rattle.std.proofs.Common.{ℕ, ◌+◌, ◌*◌, ◌≤◌, List, [], ◌∷◌, arith}
use Rattle.std.proofs.Math.Nat.{add-mul}
use Rattle.fl_frame.specs.Contents.{Contents}
use Rattle.fl_cursor.specs.Cursor.{IsTold}
use Rattle.fl_cursor.specs.Reads.{most_of}
use Rattle.fl_cursor.specs.Retried.{StepEnd, Went, Failed, StepsEach, failed_among, ReadOnceForEachFault}
use Rattle.fl_cursor.specs.declared.cursor.Cursor.{Cursor}

-- what the cursor may still read, and one limit for each step that failed
steps_within : (KNOTS SLOTS : ℕ) (contents : Contents) (ends : List StepEnd) (reads reads_now limit : ℕ) (old new : Cursor KNOTS SLOTS) → IsTold old contents → most_of old contents ≤ limit
    → StepsEach contents ends reads old reads_now new → reads_now ≤ reads + most_of old contents + failed_among ends * limit
steps_within K S contents [] reads reads_now limit old new told few steps = omega (arith, steps.0)
steps_within K S contents (Went taken ∷ ends) reads reads_now limit old new told few (between, mid, goes, steps) =
    let rest = steps_within K S contents ends between reads_now limit mid new (goes.told told) (omega (arith, goes.fewer told, few)) steps in
    omega (arith, goes.most told, rest)
steps_within K S contents (Failed ∷ ends) reads reads_now limit old new told few (between, mid, fails, steps) =
    let rest = steps_within K S contents ends between reads_now limit mid new (fails.told told) (omega (arith, fails.fewer told, few)) steps in
    omega (arith, fails.most told, fails.fewer told, few, rest, add-mul (failed_among ends) 1 limit)

pub read_once : ReadOnceForEachFault
read_once K S contents ends reads reads_now limit old new told few steps =
    omega (arith, steps_within K S contents ends reads reads_now limit old new told few steps, few, add-mul (failed_among ends) 1 limit)

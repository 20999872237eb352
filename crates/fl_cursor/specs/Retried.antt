-- Steps of a cursor one after another, of which some fail.
use Rattle.std.specs.Prelude.{◌≡◌, ℕ, ◌+◌, ◌*◌, ◌≤◌, Bool, List, [], ◌∷◌}
use Rattle.fl_frame.specs.Contents.{Contents}
use Rattle.fl_cursor.specs.Cursor.{IsTold}
use Rattle.fl_cursor.specs.Going.{Goes, Fails}
use Rattle.fl_cursor.specs.Reads.{most_of}
use Rattle.fl_cursor.specs.declared.cursor.Cursor.{Cursor}

-- a step took a row or came to the end, or a read of it failed
pub data StepEnd : Type 0 where
  Went : (taken : Bool) → StepEnd
  Failed : StepEnd

-- Steps over a flash that holds this, as the clauses `goes` and `fails` of a step have each. The count of reads rose from one number
-- to another.
abbrev pub StepsEach : {KNOTS SLOTS : ℕ} → Contents → List StepEnd → ℕ → Cursor KNOTS SLOTS → ℕ → Cursor KNOTS SLOTS → Type 0
StepsEach contents [] reads old reads_now new = (reads_now ≡ reads) × (new ≡ old)
StepsEach {KNOTS} {SLOTS} contents (Went taken ∷ ends) reads old reads_now new =
    (between : ℕ) × (mid : Cursor KNOTS SLOTS) × Goes taken contents reads old between mid × StepsEach contents ends between mid reads_now new
StepsEach {KNOTS} {SLOTS} contents (Failed ∷ ends) reads old reads_now new =
    (between : ℕ) × (mid : Cursor KNOTS SLOTS) × Fails contents reads old between mid × StepsEach contents ends between mid reads_now new

abbrev pub failed_among : List StepEnd → ℕ
failed_among [] = 0
failed_among (Went taken ∷ ends) = failed_among ends
failed_among (Failed ∷ ends) = failed_among ends + 1

-- If a cursor has a limit on its reads, all its steps together keep to that limit, and to as much again for each step that failed.
abbrev pub ReadOnceForEachFault : Type 0
ReadOnceForEachFault =
    (KNOTS SLOTS : ℕ) (contents : Contents) (ends : List StepEnd) (reads reads_now limit : ℕ) (old new : Cursor KNOTS SLOTS) →
    IsTold old contents → most_of old contents ≤ limit → StepsEach contents ends reads old reads_now new →
    reads_now ≤ reads + (failed_among ends + 1) * limit

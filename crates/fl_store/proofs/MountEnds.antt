-- What a mount that failed leaves, told otherwise.
use Rattle.std.proofs.Common.{ℕ, Option, List}
use Rattle.fl_base.specs.Causes.{Rose}
use Rattle.fl_model.specs.Record.{Plan}
use Rattle.fl_model.specs.Table.{Table}
use Rattle.fl_store.specs.MountEnds.{MountFails, Told}

abbrev Counted : Option (List ℕ) → Option (List ℕ) → ℕ → ℕ → Told
Counted written written_now faults faults_now = record { written = written; written_now = written_now; faults = faults; faults_now = faults_now }

-- what stands at the end in other words, and the faults of another medium
pub fails-seen : (plans : List Plan) (tables : List Table) (name : List ℕ) (written written_now : Option (List ℕ)) (a a_now b b_now : ℕ) (Holds Stands : List Table → Type 0) → (Rose a a_now → Rose b b_now) → ((ts : List Table) → Holds ts → Stands ts) →
    MountFails plans tables name (Counted written written_now a a_now) Holds → MountFails plans tables name (Counted written written_now b b_now) Stands
fails-seen plans tables name written written_now a a_now b b_now Holds Stands rises seen h =
    record { named = h.named; rose = h.rose; risen = λ r. rises (h.risen r); end = h.end; did = h.did; holds = seen _ h.holds; nothing = h.nothing }

-- Images that have a table with a name.
use Rattle.std.specs.Prelude.{◌≡◌, ℕ, ◌<◌, Bool, true, List, length}
use Rattle.std.specs.List.{list_any}
use Rattle.fl_image.specs.Header.{IsAccepted}
use Rattle.fl_image.specs.Image.{IsImageOf}
use Rattle.fl_model.specs.Record.{Plan, bytes_equal}
use Rattle.fl_words.specs.Config.{Lines}

-- a table of these has the name
abbrev pub has_name : List ℕ → List Plan → Bool
has_name name plans = list_any (λ plan. bytes_equal plan.name name) plans

-- the bytes are an image, and one of its tables has the name, or none has
pub record IsImageWith (bytes : List ℕ) (name : List ℕ) (has : Bool) : Type 0 where
  pub lines : Lines
  pub accepted : IsAccepted lines
  pub image : IsImageOf bytes lines
  pub named : has_name name lines.plans ≡ has

-- .. which has more tables than this number
abbrev pub IsImageOver : List ℕ → List ℕ → ℕ → Type 0
IsImageOver bytes name table = (found : IsImageWith bytes name true) × (table < length found.lines.plans)

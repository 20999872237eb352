-- What a call that writes a text to a sink leaves there.
use Rattle.std.specs.Prelude.{ℕ, List, Option, Result, Ok, Err}
use Rattle.fl_base.specs.Causes.{Appends, AppendsFront}

-- the text was appended, or a front of it where the sink failed
abbrev pub Written : {E : Type 0} → Option (List ℕ) → Option (List ℕ) → Result (Unit {0}) E → List ℕ → Type 0
Written before now (Ok done) text = Appends before now text
Written before now (Err failed) text = AppendsFront before now text

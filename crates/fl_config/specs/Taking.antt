-- What a line does to the configuration so far.
use Rattle.std.specs.Prelude.{◌≡◌, Result, Ok, Err, IsSomeAnd}
use Rattle.fl_words.specs.Command.{Command}
use Rattle.fl_words.specs.Config.{Lines, configured}
use Rattle.fl_plan.specs.declared.refusal.ConfigRefusal.{ConfigRefusal}
use Rattle.fl_plan.specs.Refusal.{fault_of}

-- it is taken, or refused for the first reason that applies, and then changes nothing
abbrev pub Takes : Lines → Command → Result (Unit {0}) ConfigRefusal → Lines → Type 0
Takes old line (Ok done) new = configured old line ≡ Ok new
Takes old line (Err refusal) new = IsSomeAnd (fault_of refusal) (λ fault. configured old line ≡ Err fault) × (new ≡ old)

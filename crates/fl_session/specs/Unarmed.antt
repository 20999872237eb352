-- Commands on a flash on which no cut is armed.
use Rattle.std.specs.Prelude.{◌≡◌, ℕ, Bool, true, false, Option, None, Result, List}
use Rattle.std.specs.List.{AllByRecursion}
use Rattle.fl_base.specs.declared.stream.SinkFailed.{SinkFailed}
use Rattle.fl_script.specs.Written.{Written}
use Rattle.fl_words.specs.Command.{Command, Cut}
use Rattle.fl_words.specs.Reply.{Reply, PowerLost, texts}
use Rattle.fl_session.specs.Caused.{Caused, IsPowered, State}
use Rattle.fl_session.specs.CausedEach.{CausedEach}

abbrev pub is_cut : Command → Bool
is_cut (Cut n kind) = true
is_cut command = false

abbrev pub IsNoLoss : Reply → Type 0
IsNoLoss said = said ≡ PowerLost → ⊥

-- replies were written, and none of them is `power lost`
pub record SaysNoLoss {E : Type 0} (told told_now : Option (List ℕ)) (result : Result (Unit {0}) E) : Type 0 where
  pub replies : List Reply
  pub written : Written told told_now result (texts replies)
  pub none : AllByRecursion IsNoLoss replies

-- Commands of which none is a cut leave none armed where none was. Where none is armed, and the power is on while something is mounted,
-- no command says `power lost`. So no run of commands does in which no cut is armed, over any bytes.
pub record UncutLosesNoPower : Type 0 where
  pub unarmed : (commands : List Command) (old new : State) (told told_now : Option (List ℕ)) → AllByRecursion (λ (command : Command). is_cut command ≡ false) commands → old.flash.armed ≡ None → CausedEach commands old new told told_now →
      new.flash.armed ≡ None
  pub never : (command : Command) (old new : State) (told told_now : Option (List ℕ)) (result : Result (Unit {0}) SinkFailed) → IsPowered old → old.flash.armed ≡ None → Caused {E = SinkFailed} command old new told told_now result →
      SaysNoLoss {E = SinkFailed} told told_now result

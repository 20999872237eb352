-- Commands that were run from each state for which a session stood, one more after another.
use Rattle.std.proofs.Common.{◌≡◌, ℕ, ◌^◌, ◌<◌, ◌≤◌, Option, Result, Ok, Err, List, [], ◌∷◌, ◌++◌, length, sym, ◌∙◌, ap, subst, arith}
use Rattle.fl_flash.specs.Flash.{FlashState, Stays}
use Rattle.fl_model.specs.Record.{Config}
use Rattle.fl_words.specs.Command.{Command}
use Rattle.fl_machine.specs.Machine.{Machine}
use Rattle.fl_machine.specs.Run.{end_of}
use Rattle.fl_machine.specs.Small.{AreTables}
use Rattle.fl_model.specs.Work.{Device}
use Rattle.fl_frame.specs.Device.{SameDevice}
use Rattle.fl_session.specs.Execute.{Executes, IsReady, RanAll, RanPart}
use Rattle.fl_session.specs.Run.{around_of}
use Rattle.fl_session.proofs.NextCommand.{RanSoFar, none-counted, ran-into, ran-more}
use Rattle.fl_session.proofs.WholeReads.{reads-within}

-- these commands were run between two states of the flash, whose count of reads has no more than theirs
abbrev pub RanTo : Config → (Machine → Type 0) → (Machine → Type 0) → FlashState → FlashState → Option (List ℕ) → Option (List ℕ) → List Command → Type 0
RanTo config stands stands_now f now told told_now commands =
    (old : Machine) → stands old → IsReady config old → RanSoFar config old commands stands_now f.media.content now.media.content f.media.faults now.media.faults now.work.reads told told_now

pub ran_to-none : (config : Config) (stands : Machine → Type 0) (f : FlashState) (told : Option (List ℕ)) → f.work.reads ≡ 0 → RanTo config stands stands f f told told []
ran_to-none config stands f told unread = λ old s ready. none-counted config old stands f.media.content f.media.faults f.work.reads told unread s

-- what one command does from each state for which a session stands, whose tables have their plans
pub record OneCommand (E : Type 0) (config : Config) (command : Command) (stands stands_now : Machine → Type 0) (f now : FlashState) (told told_now : Option (List ℕ)) (result : Result (Unit {0}) E) : Type 0 where
  pub hold : (m : Machine) → stands m → AreTables config.plans m.tables
  pub later : f.media.faults ≤ now.media.faults
  pub executes : (m : Machine) → stands m → Executes {E = E} config m command stands_now f now told told_now result

executed : {E : Type 0} (config : Config) (command : Command) (stands stands_now : Machine → Type 0) (f now : FlashState) (told told_now : Option (List ℕ)) (result result_is : Result (Unit {0}) E) → result ≡ result_is →
    OneCommand E config command stands stands_now f now told told_now result → (m : Machine) → stands m → Executes {E = E} config m command stands_now f now told told_now result_is
executed {E} config command stands stands_now f now told told_now result result_is is h m s = subst (λ r. Executes {E = E} config m command stands_now f now told told_now r) is (h.executes m s)

-- .. and one more
pub ran_to-next : {E : Type 0} (config : Config) (command : Command) (stands stands_mid stands_now : Machine → Type 0) (f mid now : FlashState) (told told_mid told_now : Option (List ℕ)) (result : Result (Unit {0}) E) → result ≡ Ok tt →
    OneCommand E config command stands_mid stands_now mid now told_mid told_now result → (commands : List Command) → length commands < 2 ^ 32 → RanTo config stands stands_mid f mid told told_mid commands →
    RanTo config stands stands_now f now told told_now (commands ++ command ∷ [])
ran_to-next {E} config command stands stands_mid stands_now f mid now told told_mid told_now result is goes commands few h = λ old s ready.
    ran-more {E = E} config old commands command stands_mid stands_now f.media.content f.media.faults mid now told told_mid told_now ready (omega (arith, few)) goes.hold (h old s ready) goes.later
    (executed config command stands_mid stands_now mid now told_mid told_now result (Ok tt) is goes)

-- what the flash counted from the first command on, and the state after the last one
pub record CountsAll (stands_now : Machine → Type 0) (f now : FlashState) : Type 0 where
  pub goes : Stays f now
  pub device : (m : Machine) → stands_now m → SameDevice now m.device

-- .. as the last one
pub ran_to-all : {E : Type 0} (config : Config) (command : Command) (stands stands_mid stands_now : Machine → Type 0) (f mid now : FlashState) (told told_mid told_now : Option (List ℕ)) (result : Result (Unit {0}) E) → result ≡ Ok tt →
    OneCommand E config command stands_mid stands_now mid now told_mid told_now result → CountsAll stands_now f now → (commands : List Command) → length commands < 2 ^ 32 → RanTo config stands stands_mid f mid told told_mid commands →
    RanAll (around_of config f.media now.media told told_now) stands stands_now (commands ++ command ∷ [])
ran_to-all {E} config command stands stands_mid stands_now f mid now told told_mid told_now result is goes counts commands few h = λ old s ready.
    let all = ran_to-next {E = E} config command stands stands_mid stands_now f mid now told told_mid told_now result is goes commands few h old s ready in
    (all.0, reads-within old all.0.moments f now counts.goes all.1 (counts.device (end_of old all.0.moments) all.0.stands_after).programs)

-- .. in whose reply the sink failed
pub ran_to-into : {E : Type 0} (config : Config) (command : Command) (stands stands_mid stands_now : Machine → Type 0) (f mid now : FlashState) (told told_mid told_now : Option (List ℕ)) (result : Result (Unit {0}) E) (error : E) → result ≡ Err error →
    OneCommand E config command stands_mid stands_now mid now told_mid told_now result → CountsAll stands_now f now → (commands : List Command) → RanTo config stands stands_mid f mid told told_mid commands →
    RanPart (around_of config f.media now.media told told_now) stands stands_now (commands ++ command ∷ [])
ran_to-into {E} config command stands stands_mid stands_now f mid now told told_mid told_now result error is goes counts commands h = λ old s ready.
    let into = ran-into {E = E} config old commands command stands_mid stands_now f.media.content f.media.faults mid now told told_mid told_now error ready goes.hold (h old s ready) goes.later
    (executed config command stands_mid stands_now mid now told_mid told_now result (Err error) is goes) in
    let after = into.0.stands_after in
    (into.0, reads-within old into.0.moments f now counts.goes into.1 (ap (λ (d : Device). d.programs) (sym after.2.device) ∙ (counts.device after.0 after.1).programs))

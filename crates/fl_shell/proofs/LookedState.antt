-- A session's memory and flash are only looked at, and something is written.
use Rattle.std.proofs.Common.{◌≡◌, inl, inr, ℕ, Option, Result, Ok, Err, List, ◌++◌, refl, sym, ◌∙◌, subst}
use Rattle.fl_base.proofs.Appended.{appends-append, front-behind}
use Rattle.fl_frame.proofs.ContentsInTurn.{OnlyReads-same, OnlyReads-then}
use Rattle.fl_script.specs.declared.reply.Reply.{Reply}
use Rattle.fl_session.specs.Caused.{OnlyLooks, State}
use Rattle.fl_session.specs.Told.{OldestSays}
use Rattle.fl_shell.specs.Caused.{WritesSome}

pub looks-same : (s : State) → OnlyLooks s s s.notes
looks-same s = record { entries = refl; mounted = refl; notes_are = refl; reads = OnlyReads-same s.flash }

pub looks-as : (old new : State) → new ≡ old → OnlyLooks old new old.notes
looks-as old new same = subst (λ (s : State). OnlyLooks old s old.notes) (sym same) (looks-same old)

pub looks-then : (a b c : State) → OnlyLooks a b a.notes → OnlyLooks b c b.notes → OnlyLooks a c a.notes
looks-then a b c first then = record {
  entries = then.entries ∙ first.entries;
  mounted = then.mounted ∙ first.mounted;
  notes_are = then.notes_are ∙ first.notes_are;
  reads = OnlyReads-then _ _ _ first.reads then.reads;
}

-- the oldest blob is asked for
pub oldest-looks : (old new : State) (name : List ℕ) (result : Result (Option ℕ) Reply) → OldestSays old new name result → OnlyLooks old new old.notes
oldest-looks old new name result (inl refused) = looks-as old new refused.3
oldest-looks old new name result (inr asked) = asked.4

-- ---- something is written, and something behind it

pub some-then : {E : Type 0} (a b c : Option (List ℕ)) (result : Result (Unit {0}) E) → WritesSome {E = E} a b (Ok tt) → WritesSome {E = E} b c result → WritesSome {E = E} a c result
some-then {E} a b c (Ok done) first then = (first.0 ++ then.0, appends-append a b c first.0 then.0 first.1 then.1)
some-then {E} a b c (Err failed) first then = (first.0 ++ then.0, front-behind a b c first.0 then.0 first.1 then.1)

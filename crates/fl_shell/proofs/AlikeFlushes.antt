-- A flush from a state for which a session stands but for its cursors.
use Rattle.std.proofs.Common.{◌≡◌, ℕ, ◌≤◌, Bool, true, false, Option, Some, None, List, [], ◌∷◌, ◌++◌, map, refl, sym, ◌∙◌, subst}
use Rattle.std.specs.Prelude.{MatchBool, MatchOption}
use Rattle.fl_flash.specs.Flash.{FlashState}
use Rattle.fl_model.specs.Record.{Config}
use Rattle.fl_model.specs.Table.{flushed, lose}
use Rattle.fl_model.specs.Work.{Outcome, Finished, CutShort, Failed, Progress, changed_at}
use Rattle.fl_words.specs.Command as command
use Rattle.fl_words.specs.Command.{Command}
use Rattle.fl_words.specs.Medium.{IsImage}
use Rattle.fl_words.specs.Reply as reply
use Rattle.fl_words.specs.Reply.{Reply}
use Rattle.fl_machine.specs.Machine.{Machine, OpenCursor, stopped}
use Rattle.fl_machine.specs.Reads.{none_read}
use Rattle.fl_machine.specs.Run.{end_of}
use Rattle.fl_machine.specs.Stays.{CommandStays, MomentStays, TablesStay}
use Rattle.fl_machine.specs.Step.{EndsAs, FlushStep, Located, Moment, Says, Step, StepOf, located}
use Rattle.fl_session.specs.Execute.{IsAlike, IsReady, StandsAlike}
use Rattle.fl_session.proofs.ExecutedCommand.{alike-same}
use Rattle.fl_shell.specs.Flushing.{FlushesOne}
use Rattle.fl_shell.specs.Talk.{IsDone, RanOver, pending_rows}
use Rattle.fl_shell.proofs.Ran.{over-more}

-- ---- states that are alike but for their cursors

abbrev with_cursors : Machine → List (Option OpenCursor) → Machine
with_cursors a cursors = record a { cursors = cursors }

alike-is : (a b : Machine) → IsAlike a b → with_cursors a b.cursors ≡ b
alike-is a b h = rw (h.cost, h.tables, h.mounted, h.device) refl

alike-as : (a b c : Machine) → c ≡ b → IsAlike a b → IsAlike a c
alike-as a b c is h = subst (IsAlike a) (sym is) h

with-alike : (a : Machine) (cursors : List (Option OpenCursor)) → IsAlike a (with_cursors a cursors)
with-alike a cursors = record { cost = refl; tables = refl; mounted = refl; device = refl }

-- as many rows are pending in both
pub pending-stands : (config : Config) (stands : Machine → Type 0) (m : Machine) (n : ℕ) → ((x : Machine) → stands x → n ≡ pending_rows config x) → StandsAlike stands m → n ≡ pending_rows config m
pending-stands config stands m n told h =
    told h.0 h.1 ∙ subst (λ x. pending_rows config x ≡ pending_rows config m) (alike-is m h.0 h.2) refl

-- ---- the flush from the one, as it goes from the other

says-alike : (a : Machine) (cursors : List (Option OpenCursor)) (moment : Moment) (replies : List Reply) → Says moment replies (with_cursors a cursors) → Says (record moment { after = a }) replies a × IsAlike a moment.after
says-alike a cursors moment replies s = (
  record { replies_are = s.replies_are; after_is = refl; last_is = s.last_is },
  alike-as a (with_cursors a cursors) moment.after s.after_is (with-alike a cursors),
)

ends-alike : (o : Outcome) (a new : Machine) (cursors : List (Option OpenCursor)) (moment : Moment) (end : Progress) → EndsAs o (with_cursors a cursors) moment end [] (reply.Done ∷ []) (with_cursors new cursors) →
    (after : Machine) × EndsAs o a (record moment { after = after }) end [] (reply.Done ∷ []) new × IsAlike after moment.after
ends-alike Finished a new cursors moment end e = let s = says-alike new cursors moment (reply.Done ∷ []) e in (new, s.0, s.1)
ends-alike (CutShort last) a new cursors moment end e =
    let after = stopped (record a { device = end.device; tables = end.tables }) in
    (after, record { replies_are = e.replies_are; after_is = refl; last_is = e.last_is }, alike-as after after moment.after e.after_is (alike-same after))
ends-alike (Failed last) a new cursors moment end e =
    let after = stopped (record a { device = end.device; tables = end.tables }) in
    (after, record { replies_are = e.replies_are; after_is = refl; last_is = e.last_is }, alike-as after after moment.after e.after_is (alike-same after))

flush-alike : (config : Config) (a : Machine) (cursors : List (Option OpenCursor)) (moment : Moment) (name : List ℕ) → StepOf config (with_cursors a cursors) moment (command.Flush name) →
    (after : Machine) × StepOf config a (record moment { after = after }) (command.Flush name) × IsAlike after moment.after
flush-alike config a cursors moment name step = by_mounted a.mounted (located config a name) step
  where
    by_mounted : (on : Bool) (at : Option Located) →
        MatchBool on (MatchOption at (Says moment (reply.NoTable ∷ []) (with_cursors a cursors)) (FlushStep config (with_cursors a cursors) moment)) (Says moment (reply.NotMounted ∷ []) (with_cursors a cursors)) →
        (after : Machine) × MatchBool on (MatchOption at (Says (record moment { after = after }) (reply.NoTable ∷ []) a) (FlushStep config a (record moment { after = after }))) (Says (record moment { after = after }) (reply.NotMounted ∷ []) a)
        × IsAlike after moment.after
    by_mounted false at s = let x = says-alike a cursors moment (reply.NotMounted ∷ []) s in (a, x.0, x.1)
    by_mounted true None s = let x = says-alike a cursors moment (reply.NoTable ∷ []) s in (a, x.0, x.1)
    by_mounted true (Some at) s =
        let x = ends-alike s.0.outcome a (record a { device = s.0.device; tables = changed_at at.place (flushed at.plan) a.tables }) cursors moment s.0 s.2 in
        (x.0, (s.0, s.1, x.1), x.2)

-- .. and what it leaves of the medium
command-stays : (config : Config) (a after after' : Machine) (cursors : List (Option OpenCursor)) (c : Command) (name bytes now : List ℕ) → c ≡ command.Flush name → IsAlike after after' →
    CommandStays config (with_cursors a cursors) c after' bytes now → CommandStays config a c after bytes now
command-stays config a after after' cursors c name bytes now is alike h =
    let h' : CommandStays config (with_cursors a cursors) (command.Flush name) after' bytes now = subst (λ x. CommandStays config (with_cursors a cursors) x after' bytes now) is h in
    subst (λ x. CommandStays config a x after bytes now) (sym is) (subst (λ tables. MatchBool a.mounted (TablesStay config bytes now a.tables tables) (now ≡ bytes)) alike.tables h')

flush-stays : (config : Config) (a after : Machine) (cursors : List (Option OpenCursor)) (moment : Moment) (name bytes now : List ℕ) → moment.command ≡ command.Flush name → IsAlike after moment.after →
    MomentStays config (with_cursors a cursors) moment bytes now → MomentStays config a (record moment { after = after }) bytes now
flush-stays config a after cursors moment name bytes now is alike h = record {
  image = subst (λ tables. IsImage config now (map lose tables)) alike.tables h.image;
  idle = h.idle;
  stays = λ calm done. command-stays config a after moment.after cursors moment.command name bytes now is alike (h.stays calm done);
}

-- a run goes on by a flush
pub flush-goes_on : (config : Config) (old : Machine) (moments : List Moment) (name : List ℕ) (stands stands_now : Machine → Type 0) (content : List ℕ) (faults : ℕ) (flash flash_now : FlashState) (done : Bool) → IsReady config old → flash.media.faults ≤ flash_now.media.faults →
    RanOver config old moments (StandsAlike stands) content flash.media.content faults flash.media.faults → ((m : Machine) → stands m → FlushesOne config m name stands_now flash flash_now done) →
    (moment : Moment) × (moment.command ≡ command.Flush name) × (done ≡ true → IsDone moment) × (done ≡ false → IsDone moment → ⊥) × none_read moment
    × RanOver config old (moments ++ moment ∷ []) (StandsAlike stands_now) content flash_now.media.content faults flash_now.media.faults
flush-goes_on config old moments name stands stands_now content faults flash flash_now done ready later h flush =
    let end = end_of old moments in
    let s = h.stands_after in
    let f = flush s.0 s.1 in
    let e = f.executes in
    let same : with_cursors end s.0.cursors ≡ s.0 = alike-is end s.0 s.2 in
    let stepped : StepOf config s.0 e.moment (command.Flush name) = subst (λ c. StepOf config s.0 e.moment c) e.command_is e.step in
    let x = flush-alike config end s.0.cursors e.moment name (subst (λ m. StepOf config m e.moment (command.Flush name)) (sym same) stepped) in
    let moment : Moment = record e.moment { after = x.0 } in
    let step : Step config end moment = subst (λ c. StepOf config end moment c) (sym e.command_is) x.1 in
    let stays = flush-stays config end x.0 s.0.cursors e.moment name flash.media.content flash_now.media.content e.command_is x.2
    (subst (λ m. MomentStays config m e.moment flash.media.content flash_now.media.content) (sym same) e.stays) in
    let here : StandsAlike stands_now x.0 = (e.after, e.stands_after, alike-as x.0 e.moment.after e.after e.same x.2) in (
      moment,
      e.command_is,
      f.is_done,
      f.is_undone,
      e.reads.0,
      over-more config old moments moment (StandsAlike stands) (StandsAlike stands_now) content flash.media.content flash_now.media.content faults flash.media.faults flash_now.media.faults ready h step stays later e.rose here,
    )

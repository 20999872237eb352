-- The answers to lines go on by one line.
use Rattle.std.proofs.Common.{◌≡◌, ℕ, ◌+◌, ◌^◌, ◌<◌, ◌≤◌, true, false, inl, inr, Option, Some, None, Ok, Err, List, [], ◌∷◌, ◌++◌, length, refl, sym, ◌∙◌, ap, subst, append-nil, length-append, arith}
use Rattle.std.specs.List.{AllByRecursion}
use Rattle.std.proofs.lemmas.Grind.{flat_map-append}
use Rattle.std.proofs.lemmas.Bool.{false≢true}
use Rattle.fl_base.specs.Causes.{Appends, AppendsFront, Rose}
use Rattle.fl_base.proofs.Appended.{appends-append, appends-none}
use Rattle.fl_base.proofs.Risen.{rose-front, rose-back}
use Rattle.fl_flash.specs.Flash.{FlashState}
use Rattle.fl_model.specs.Record.{Config}
use Rattle.fl_model.proofs.Lists.{each-weaker, each-push}
use Rattle.fl_words.specs.Command.{Command}
use Rattle.fl_machine.specs.Machine.{Machine}
use Rattle.fl_machine.specs.Run.{end_of, risen_in}
use Rattle.fl_machine.specs.Script.{RoseBy}
use Rattle.fl_machine.specs.Small.{AreTables}
use Rattle.fl_machine.specs.Step.{Moment}
use Rattle.fl_session.specs.Execute.{IsReady, StandsAlike}
use Rattle.fl_shell.specs.Flushing.{RanThese}
use Rattle.fl_shell.specs.Talk.{Turn, Answers, AnswersEach, HasCauses, RanOver, moments_of, moments_onto, answers_of, after_turn}
use Rattle.fl_shell.specs.Talking.{Answered, TalkedSoFar}
use Rattle.fl_shell.specs.Turning.{Turns, Says, Executed}
use Rattle.fl_shell.proofs.Ran.{over-more, ran-begins, ran-goes_on, ran-looked, ran-over, ran-reads, ran-stands}

moments-onto : (o : Option Moment) (front others : List Moment) → moments_onto o (front ++ others) ≡ moments_onto o front ++ others
moments-onto None front others = refl
moments-onto (Some m) front others = refl

-- the moments and the answers of some turns and one more
pub moments-more : (turns : List Turn) (turn : Turn) → moments_of (turns ++ turn ∷ []) ≡ moments_of turns ++ moments_onto turn.moment []
moments-more [] turn = refl
moments-more (t ∷ turns) turn = ap (moments_onto t.moment) (moments-more turns turn) ∙ moments-onto t.moment (moments_of turns) (moments_onto turn.moment [])

pub answers-more : (turns : List Turn) (turn : Turn) → answers_of (turns ++ turn ∷ []) ≡ answers_of turns ++ turn.answer
answers-more turns turn = flat_map-append (λ (t : Turn). t.answer) turns (turn ∷ []) ∙ ap (λ ys. answers_of turns ++ ys) (append-nil turn.answer)

-- the state behind a turn and others
after-moments : (old : Machine) (turn : Turn) (turns : List Turn) → end_of (after_turn old turn) (moments_of turns) ≡ end_of old (moments_onto turn.moment (moments_of turns))
after-moments old turn turns = by_moment turn.moment
  where
    by_moment : (o : Option Moment) → end_of (end_of old (moments_onto o [])) (moments_of turns) ≡ end_of old (moments_onto o (moments_of turns))
    by_moment None = refl
    by_moment (Some m) = refl

-- each line was answered, and so was one more
pub each-more : (config : Config) (old : Machine) (lines : List (List ℕ)) (turns : List Turn) (line : List ℕ) (turn : Turn) → AnswersEach config old lines turns → Answers config (end_of old (moments_of turns)) line turn → AnswersEach config old (lines ++ line ∷ []) (turns ++ turn ∷ [])
each-more config old [] [] line turn each more = (more, tt)
each-more config old [] (t ∷ turns) line turn each more = absurd each
each-more config old (l ∷ lines) [] line turn each more = absurd each
each-more config old (l ∷ lines) (t ∷ turns) line turn each more =
    (each.0, each-more config (after_turn old t) lines turns line turn each.1 (subst (λ m. Answers config m line turn) (sym (after-moments old t turns)) more))

-- before any line
pub talked-none : (config : Config) (old : Machine) (stands : Machine → Type 0) (flash : FlashState) (told : Option (List ℕ)) → flash.work.reads ≡ 0 → stands old → TalkedSoFar config old [] stands flash.media.content flash.media.faults flash told told
talked-none config old stands flash told unread here = record { turns = []; each = tt; runs = ran-begins config old stands flash unread here; causes = tt; told_all = appends-none told }

-- ---- reads that failed beside commands

-- a count that rose after others did
rose-since : (n faults mid now : ℕ) → RoseBy n faults mid → Rose mid now → Rose faults now
rose-since n faults mid now h rose = elim h [ inl a ↦ omega (arith, a, rose) | inr b ↦ omega (arith, b, rose) ]

-- their causes stay, as the medium fails more often
cause-later : (faults mid now : ℕ) (turn : Turn) → mid ≤ now → HasCauses faults mid turn → HasCauses faults now turn
cause-later faults mid now turn later h = λ e. rose-front faults mid now later (h e)

pub causes-later : (faults mid now : ℕ) (turns : List Turn) → mid ≤ now → AllByRecursion (HasCauses faults mid) turns → AllByRecursion (HasCauses faults now) turns
causes-later faults mid now turns later all = each-weaker (HasCauses faults mid) (HasCauses faults now) (λ turn h. cause-later faults mid now turn later h) turns all

-- .. and are those of counts from before
pub causes-earlier : (before mid now : ℕ) (turns : List Turn) → before ≤ mid → AllByRecursion (HasCauses mid now) turns → AllByRecursion (HasCauses before now) turns
causes-earlier before mid now turns le all = each-weaker (HasCauses mid now) (HasCauses before now) (λ turn h e. rose-back before mid now le (h e)) turns all

causes-more : (faults mid now : ℕ) (turns : List Turn) (turn : Turn) → mid ≤ now → AllByRecursion (HasCauses faults mid) turns → HasCauses faults now turn → AllByRecursion (HasCauses faults now) (turns ++ turn ∷ [])
causes-more faults mid now turns turn later all more = each-push (HasCauses faults now) turns turn (causes-later faults mid now turns later all) more

-- a line to which the machine executes nothing
talked-silent : {E : Type 0} (config : Config) (old : Machine) (lines : List (List ℕ)) (stands stands_now : Machine → Type 0) (content : List ℕ) (faults : ℕ) (flash flash_now : FlashState) (told told_mid told_now : Option (List ℕ)) (line : List ℕ) →
    IsReady config old → ((m : Machine) → stands m → AreTables config.plans m.tables) → flash.media.faults ≤ flash_now.media.faults →
    TalkedSoFar config old lines stands content faults flash told told_mid → ((m : Machine) → stands m → Says {E = E} config m line stands_now flash flash_now told_mid told_now (Ok tt)) →
    TalkedSoFar config old (lines ++ line ∷ []) stands_now content faults flash_now told told_now
talked-silent config old lines stands stands_now content faults flash flash_now told told_mid told_now line ready hold later h says =
    let here = ran-stands config old (length lines) (moments_of h.turns) stands content faults flash h.runs in
    let s = says (end_of old (moments_of h.turns)) here in
    let turn : Turn = record { moment = None; answer = s.answer; unread = s.unread } in
    let same : moments_of h.turns ≡ moments_of (h.turns ++ turn ∷ []) = sym (moments-more h.turns turn ∙ append-nil (moments_of h.turns)) in
    let runs = ran-looked config old (length lines) (moments_of h.turns) s.unread stands stands_now content faults flash flash_now ready hold later h.runs s.few s.looked in
    record {
      turns = h.turns ++ turn ∷ [];
      each = each-more config old lines h.turns line turn h.each s.answers;
      runs = subst (λ n. RanThese config old n (moments_of (h.turns ++ turn ∷ [])) stands_now content faults flash_now) (sym (length-append lines (line ∷ [])))
          (subst (λ ms. RanThese config old (length lines + 1) ms stands_now content faults flash_now) same runs);
      causes = causes-more faults flash.media.faults flash_now.media.faults h.turns turn later h.causes (λ e. rose-since (risen_in h.runs.ran.moments) faults flash.media.faults flash_now.media.faults h.runs.ran.rose (s.looked.cause e));
      told_all = subst (λ text. Appends told told_now text) (sym (answers-more h.turns turn)) (appends-append told told_mid told_now (answers_of h.turns) s.answer h.told_all s.written);
    }

-- .. and one for which it executes a command
talked-command : {E : Type 0} (config : Config) (old : Machine) (lines : List (List ℕ)) (stands stands_now : Machine → Type 0) (content : List ℕ) (faults : ℕ) (flash flash_now : FlashState) (told told_mid told_now : Option (List ℕ)) (line : List ℕ) (c : Command) →
    IsReady config old → TalkedSoFar config old lines stands content faults flash told told_mid → length lines < 2 ^ 44 + 2 ^ 10 → ((m : Machine) → stands m → AreTables config.plans m.tables) → flash.media.faults ≤ flash_now.media.faults →
    ((m : Machine) → stands m → Executed {E = E} config m line c stands_now flash flash_now told_mid told_now (Ok tt)) →
    TalkedSoFar config old (lines ++ line ∷ []) stands_now content faults flash_now told told_now
talked-command {E} config old lines stands stands_now content faults flash flash_now told told_mid told_now line c ready h few hold later turn_at =
    let Turned : Moment → Type 0 = λ moment. (answer : List ℕ) × Answers config (end_of old (moments_of h.turns)) line (record { moment = Some moment; answer = answer; unread = [] }) × Appends told_mid told_now answer in
    let g = ran-goes_on {E = E} config old (length lines) (moments_of h.turns) c stands stands_now content faults flash flash_now Turned ready few hold later h.runs (λ m here. (turn_at m here).executes)
    (λ m here is. let t = turn_at m here in (t.answer, subst (λ x. Answers config x line (record { moment = Some t.executes.moment; answer = t.answer; unread = [] })) is t.answers, t.written)) in
    let answer = g.1.0 in
    let turn : Turn = record { moment = Some g.0; answer = answer; unread = [] } in
    record {
      turns = h.turns ++ turn ∷ [];
      each = each-more config old lines h.turns line turn h.each g.1.1;
      runs = subst (λ n. RanThese config old n (moments_of (h.turns ++ turn ∷ [])) stands_now content faults flash_now) (sym (length-append lines (line ∷ [])))
          (subst (λ ms. RanThese config old (length lines + 1) ms stands_now content faults flash_now) (sym (moments-more h.turns turn)) g.3);
      causes = causes-more faults flash.media.faults flash_now.media.faults h.turns turn later h.causes (λ e. absurd (false≢true e));
      told_all = subst (λ text. Appends told told_now text) (sym (answers-more h.turns turn)) (appends-append told told_mid told_now (answers_of h.turns) answer h.told_all g.1.2);
    }

-- a line is answered
pub talked-more : (E : Type 0) (config : Config) (old : Machine) (lines : List (List ℕ)) (stands stands_now : Machine → Type 0) (content : List ℕ) (faults : ℕ) (flash flash_now : FlashState) (told told_mid told_now : Option (List ℕ)) (line : List ℕ) (o : Option Command) →
    IsReady config old → TalkedSoFar config old lines stands content faults flash told told_mid → length lines < 2 ^ 44 + 2 ^ 10 → ((m : Machine) → stands m → AreTables config.plans m.tables) → flash.media.faults ≤ flash_now.media.faults →
    ((m : Machine) → stands m → Turns {E = E} config m line o stands_now flash flash_now told_mid told_now (Ok tt)) →
    TalkedSoFar config old (lines ++ line ∷ []) stands_now content faults flash_now told told_now
talked-more E config old lines stands stands_now content faults flash flash_now told told_mid told_now line None ready h few hold later turn_at =
    talked-silent {E = E} config old lines stands stands_now content faults flash flash_now told told_mid told_now line ready hold later h turn_at
talked-more E config old lines stands stands_now content faults flash flash_now told told_mid told_now line (Some c) ready h few hold later turn_at =
    talked-command {E = E} config old lines stands stands_now content faults flash flash_now told told_mid told_now line c ready h few hold later turn_at

-- all answers are written
pub answered-whole : (config : Config) (old : Machine) (lines : List (List ℕ)) (stands : Machine → Type 0) (content : List ℕ) (faults : ℕ) (flash : FlashState) (told told_now : Option (List ℕ)) →
    TalkedSoFar config old lines stands content faults flash told told_now → Answered config old lines true (StandsAlike stands) content flash.media.content faults flash.media.faults told told_now
answered-whole config old lines stands content faults flash told told_now h = record {
  turns = h.turns;
  each = h.each;
  ran = ran-over config old (length lines) (moments_of h.turns) stands content faults flash h.runs;
  causes = h.causes;
  before = h.turns;
  text = answers_of h.turns;
  written = (refl, refl);
  told_all = h.told_all;
  reads = ran-reads config old (length lines) (moments_of h.turns) stands content faults flash h.runs;
}

-- the sink fails in an answer
pub answered-into : {E : Type 0} (config : Config) (old : Machine) (lines : List (List ℕ)) (stands stands_now : Machine → Type 0) (content : List ℕ) (faults : ℕ) (flash flash_now : FlashState) (told told_mid told_now : Option (List ℕ)) (line : List ℕ) (o : Option Command) (error : E) →
    IsReady config old → ((m : Machine) → stands m → AreTables config.plans m.tables) → flash.media.faults ≤ flash_now.media.faults → TalkedSoFar config old lines stands content faults flash told told_mid →
    ((m : Machine) → stands m → Turns {E = E} config m line o stands_now flash flash_now told_mid told_now (Err error)) →
    Answered config old (lines ++ line ∷ []) false (StandsAlike stands_now) content flash_now.media.content faults flash_now.media.faults told told_now
answered-into {E} config old lines stands stands_now content faults flash flash_now told told_mid told_now line o error ready hold later h turn_at =
    by_command o (turn_at (end_of old (moments_of h.turns)) (ran-stands config old (length lines) (moments_of h.turns) stands content faults flash h.runs))
  where
    Over : List Moment → Type 0
    Over moments = RanOver config old moments (StandsAlike stands_now) content flash_now.media.content faults flash_now.media.faults

    into : (turn : Turn) → Answers config (end_of old (moments_of h.turns)) line turn → Over (moments_of h.turns ++ moments_onto turn.moment []) → HasCauses faults flash_now.media.faults turn → AppendsFront told_mid told_now turn.answer →
        Answered config old (lines ++ line ∷ []) false (StandsAlike stands_now) content flash_now.media.content faults flash_now.media.faults told told_now
    into turn answers ran cause wrote = record {
      turns = h.turns ++ turn ∷ [];
      each = each-more config old lines h.turns line turn h.each answers;
      ran = subst Over (sym (moments-more h.turns turn)) ran;
      causes = causes-more faults flash.media.faults flash_now.media.faults h.turns turn later h.causes cause;
      before = h.turns;
      text = answers_of h.turns ++ wrote.0;
      written = (turn, wrote.0, refl, wrote.1, refl);
      told_all = appends-append told told_mid told_now (answers_of h.turns) wrote.0 h.told_all wrote.2;
      reads = ran-reads config old (length lines) (moments_of h.turns) stands content faults flash h.runs;
    }

    by_command : (o : Option Command) → Turns {E = E} config (end_of old (moments_of h.turns)) line o stands_now flash flash_now told_mid told_now (Err error) →
        Answered config old (lines ++ line ∷ []) false (StandsAlike stands_now) content flash_now.media.content faults flash_now.media.faults told told_now
    by_command None s =
        let runs = ran-looked config old (length lines) (moments_of h.turns) s.unread stands stands_now content faults flash flash_now ready hold later h.runs s.few s.looked in
        into (record { moment = None; answer = s.answer; unread = s.unread }) s.answers
        (subst Over (sym (append-nil (moments_of h.turns))) (ran-over config old (length lines + 1) (moments_of h.turns) stands_now content faults flash_now runs))
        (λ e. rose-since (risen_in h.runs.ran.moments) faults flash.media.faults flash_now.media.faults h.runs.ran.rose (s.looked.cause e)) s.written
    by_command (Some c) s =
        let e = s.executes in
        let over = ran-over config old (length lines) (moments_of h.turns) stands content faults flash h.runs in
        into (record { moment = Some e.moment; answer = s.answer; unread = [] }) s.answers
        (over-more config old (moments_of h.turns) e.moment (StandsAlike stands) (StandsAlike stands_now) content flash.media.content flash_now.media.content faults flash.media.faults flash_now.media.faults ready over e.step e.stays later e.rose (e.after, e.stands_after, e.alike))
        (λ e. absurd (false≢true e)) s.written

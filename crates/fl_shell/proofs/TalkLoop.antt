-- The loop over the lines, step by step.
use Rattle.std.proofs.Common.{◌≡◌, ℕ, ◌+◌, ◌^◌, ◌<◌, ◌≤◌, Bool, true, false, inl, inr, Option, Some, None, Result, Ok, Err, List, [], ◌∷◌, ◌++◌, length, refl, sym, ◌∙◌, ap, subst, append_assoc, append-nil, length-append, arith}
use Rattle.std.specs.Prelude.{if◌then◌else◌}
use Rattle.fl_base.specs.Causes.{Appends}
use Rattle.fl_flash.specs.Flash.{FlashState}
use Rattle.fl_lines.specs.Stream.{LinesState}
use Rattle.fl_lines.specs.declared.lines.LinesFault.{LinesFault}
use Rattle.fl_lines.specs.declared.lines.LinesFault.TheVariants.{Failed, Long}
use Rattle.fl_model.specs.Record.{Config}
use Rattle.fl_words.specs.Grammar.{lines_of}
use Rattle.fl_machine.specs.Machine.{Machine}
use Rattle.fl_machine.specs.Run.{end_of}
use Rattle.fl_machine.specs.Script.{runs}
use Rattle.fl_machine.specs.Small.{AreTables}
use Rattle.fl_ends.specs.declared.shell.ShellStatus.TheVariants.{Done, OutWrite}
use Rattle.fl_session.specs.Execute.{IsReady, StandsAlike}
use Rattle.fl_shell.specs.Reading.{AsksNext, IsGivenAs, IsLeft, rest_in}
use Rattle.fl_shell.specs.Statuses.{reading_status}
use Rattle.fl_shell.specs.Talk.{Answers, AnswersAs, AnswersRun, Turn, answers_of, moments_of}
use Rattle.fl_shell.specs.Talking.{Answered, OfFront, TalkEnds, TalkedSoFar, with_hand}
use Rattle.fl_shell.specs.Turning.{Says, Turns, TurnsIf, command_by, command_for}
use Rattle.fl_shell.proofs.LongLines.{long-own, long-runs}
use Rattle.fl_shell.proofs.Ran.{ran-kept, ran-stands}
use Rattle.fl_shell.proofs.AnsweredLines.{answered-into, answered-whole, causes-later, talked-more, talked-none}

-- ---- a line that is too long

long-answers : (config : Config) (old : Machine) (line given : List ℕ) (turn : Turn) → 4096 < length given → 4096 < length line → Answers config old given turn → Answers config old line turn
long-answers config old line given turn long longer h =
    let run : AnswersRun (runs given) turn = subst (λ o. AnswersAs config old o given turn) (long-own given long) h in
    let none : AnswersRun None turn = subst (λ o. AnswersRun o turn) (long-runs given long) run in
    subst (λ o. AnswersAs config old o line turn) (sym (long-own line longer)) (subst (λ o. AnswersRun o turn) (sym (long-runs line longer)) none)

long-command : (line : List ℕ) → 4096 < length line → command_for line ≡ None
long-command line long = ap (λ o. command_by o line) (long-own line long) ∙ long-runs line long

long-as : {E : Type 0} (config : Config) (old : Machine) (line given : List ℕ) (stands : Machine → Type 0) (flash flash_now : FlashState) (told told_now : Option (List ℕ)) (result : Result (Unit {0}) E) → 4096 < length given → 4096 < length line →
    Turns {E = E} config old given (command_for given) stands flash flash_now told told_now result → Turns {E = E} config old line (command_for line) stands flash flash_now told told_now result
long-as {E} config old line given stands flash flash_now told told_now result long longer h =
    let s : Says {E = E} config old given stands flash flash_now told told_now result = subst (λ o. Turns {E = E} config old given o stands flash flash_now told told_now result) (long-command given long) h in
    let says : Says {E = E} config old line stands flash flash_now told told_now result =
    record { unread = s.unread; few = s.few; looked = s.looked; answer = s.answer; answers = long-answers config old line given (record { moment = None; answer = s.answer; unread = s.unread }) long longer s.answers; written = s.written } in
    subst (λ o. Turns {E = E} config old line o stands flash flash_now told told_now result) (sym (long-command line longer)) says

-- what is answered to a line is so to the line as it was given
turns-as : {E : Type 0} (config : Config) (old : Machine) (line given : List ℕ) (stands : Machine → Type 0) (flash flash_now : FlashState) (told told_now : Option (List ℕ)) (result : Result (Unit {0}) E) → IsGivenAs line given →
    Turns {E = E} config old given (command_for given) stands flash flash_now told told_now result → Turns {E = E} config old line (command_for line) stands flash flash_now told told_now result
turns-as {E} config old line given stands flash flash_now told told_now result (inl same) h = subst (λ l. Turns {E = E} config old l (command_for l) stands flash flash_now told told_now result) same h
turns-as {E} config old line given stands flash flash_now told told_now result (inr w) h =
    long-as {E = E} config old line given stands flash flash_now told told_now result w.0 (omega (arith, w.0, ap length w.1.1, length-append given w.1.0)) h

-- ---- the loop

-- a line is in hand or none, and those before it were answered
pub record InHand (config : Config) (old : Machine) (all : List (List ℕ)) (total : ℕ) (stands : Machine → Type 0) (content : List ℕ) (faults : ℕ) (flash : FlashState) (told told_now : Option (List ℕ)) (has_line : Bool) (state : LinesState) (left : Option (List ℕ)) : Type 0 where
  pub given : List (List ℕ)
  pub hand : List ℕ
  pub hand_is : IsGivenAs hand state.line
  pub rest : List ℕ
  pub rest_told : left ≡ Some rest
  pub within : IsLeft state rest (2 ^ 44) total
  pub order : given ++ with_hand has_line hand (lines_of (rest_in state rest)) ≡ all
  pub so_far : TalkedSoFar config old given stands content faults flash told told_now
  pub few : length given + (if has_line then 1 else 0) + state.most ≤ 2 ^ 44 + 1

-- the lines before those that are left were answered
pub record Between (config : Config) (old : Machine) (all : List (List ℕ)) (total : ℕ) (stands : Machine → Type 0) (content : List ℕ) (faults : ℕ) (flash : FlashState) (told told_now : Option (List ℕ)) (state : LinesState) (left : Option (List ℕ)) : Type 0 where
  pub given : List (List ℕ)
  pub rest : List ℕ
  pub rest_told : left ≡ Some rest
  pub within : IsLeft state rest (2 ^ 44) total
  pub order : given ++ lines_of (rest_in state rest) ≡ all
  pub so_far : TalkedSoFar config old given stands content faults flash told told_now
  pub few : length given + state.most ≤ 2 ^ 44 + 1

-- before any line
pub hand-first : (config : Config) (old : Machine) (total : ℕ) (stands : Machine → Type 0) (flash : FlashState) (told : Option (List ℕ)) (in_hand : Bool) (state : LinesState) (left_now : Option (List ℕ)) (left hand : List ℕ) →
    flash.work.reads ≡ 0 → stands old → state.most ≤ 2 ^ 44 → left_now ≡ Some left → IsLeft state left (2 ^ 44) total → IsGivenAs hand state.line →
    InHand config old (with_hand in_hand hand (lines_of (rest_in state left))) total stands flash.media.content flash.media.faults flash told told in_hand state left_now
hand-first config old total stands flash told in_hand state left_now left hand unread here few told_left within is = record {
  given = [];
  hand = hand;
  hand_is = is;
  rest = left;
  rest_told = told_left;
  within = within;
  order = refl;
  so_far = talked-none config old stands flash told unread here;
  few = one in_hand;
}
  where
    one : (b : Bool) → 0 + (if b then 1 else 0) + state.most ≤ 2 ^ 44 + 1
    one true = omega (arith, few)
    one false = omega (arith, few)

-- the line in hand is answered
pub hand-answered : (E : Type 0) (config : Config) (old : Machine) (all : List (List ℕ)) (total : ℕ) (stands stands_now : Machine → Type 0) (content : List ℕ) (faults : ℕ) (flash flash_now : FlashState) (told told_mid told_now : Option (List ℕ)) (has_line : Bool) (state : LinesState) (left : Option (List ℕ)) →
    IsReady config old → ((m : Machine) → stands m → AreTables config.plans m.tables) → flash.media.faults ≤ flash_now.media.faults → InHand config old all total stands content faults flash told told_mid has_line state left →
    ((m : Machine) → stands m → TurnsIf {E = E} has_line config m state.line (command_for state.line) stands_now flash flash_now told_mid told_now (Ok tt)) →
    Between config old all total stands_now content faults flash_now told told_now state left
hand-answered E config old all total stands stands_now content faults flash flash_now told told_mid told_now true state left ready hold later h turn_at =
    let few : length h.given < 2 ^ 44 + 2 ^ 10 = omega (arith, h.few) in
    record {
      given = h.given ++ h.hand ∷ [];
      rest = h.rest;
      rest_told = h.rest_told;
      within = h.within;
      order = append_assoc h.given (h.hand ∷ []) (lines_of (rest_in state h.rest)) ∙ h.order;
      so_far = talked-more E config old h.given stands stands_now content faults flash flash_now told told_mid told_now h.hand (command_for h.hand) ready h.so_far few hold later
          (λ m here. turns-as {E = E} config m h.hand state.line stands_now flash flash_now told_mid told_now (Ok tt) h.hand_is (turn_at m here));
      few = omega (arith, h.few, length-append h.given (h.hand ∷ []));
    }
hand-answered E config old all total stands stands_now content faults flash flash_now told told_mid told_now false state left ready hold later h turn_at =
    let here = ran-stands config old (length h.given) (moments_of h.so_far.turns) stands content faults flash h.so_far.runs in
    let t = turn_at (end_of old (moments_of h.so_far.turns)) here in
    record {
      given = h.given;
      rest = h.rest;
      rest_told = h.rest_told;
      within = h.within;
      order = h.order;
      so_far = record {
        turns = h.so_far.turns;
        each = h.so_far.each;
        runs = ran-kept config old (length h.given) (moments_of h.so_far.turns) stands stands_now content faults flash flash_now h.so_far.runs t.0 t.1;
        causes = causes-later faults flash.media.faults flash_now.media.faults h.so_far.turns later h.so_far.causes;
        told_all = subst (λ told_x. Appends told told_x (answers_of h.so_far.turns)) (sym t.2) h.so_far.told_all;
      };
      few = omega (arith, h.few);
    }

-- the sink fails in its answer
pub hand-into : {E : Type 0} (config : Config) (old : Machine) (all : List (List ℕ)) (total : ℕ) (stands stands_now : Machine → Type 0) (content : List ℕ) (faults : ℕ) (flash flash_now : FlashState) (told told_mid told_now left_now : Option (List ℕ)) (has_line : Bool) (state : LinesState) (left : Option (List ℕ)) (error : E) →
    IsReady config old → ((m : Machine) → stands m → AreTables config.plans m.tables) → flash.media.faults ≤ flash_now.media.faults → InHand config old all total stands content faults flash told told_mid has_line state left →
    ((m : Machine) → stands m → TurnsIf {E = E} has_line config m state.line (command_for state.line) stands_now flash flash_now told_mid told_now (Err error)) →
    TalkEnds config old all total (StandsAlike stands_now) content flash_now.media.content faults flash_now.media.faults told told_now left_now OutWrite
hand-into {E} config old all total stands stands_now content faults flash flash_now told told_mid told_now left_now true state left error ready hold later h turn_at = (
  h.given ++ h.hand ∷ [],
  lines_of (rest_in state h.rest),
  append_assoc h.given (h.hand ∷ []) (lines_of (rest_in state h.rest)) ∙ h.order,
  answered-into {E = E} config old h.given stands stands_now content faults flash flash_now told told_mid told_now h.hand (command_for h.hand) error ready hold later h.so_far
      (λ m here. turns-as {E = E} config m h.hand state.line stands_now flash flash_now told_mid told_now (Err error) h.hand_is (turn_at m here)),
)
hand-into {E} config old all total stands stands_now content faults flash flash_now told told_mid told_now left_now false state left error ready hold later h turn_at =
    let t = turn_at (end_of old (moments_of h.so_far.turns)) (ran-stands config old (length h.given) (moments_of h.so_far.turns) stands content faults flash h.so_far.runs) in
    let wrong : Err error ≡ Ok tt = t.3 in
    cc

-- .. and the next one is given
pub between-next : (config : Config) (old : Machine) (all : List (List ℕ)) (total : ℕ) (stands : Machine → Type 0) (content : List ℕ) (faults : ℕ) (flash : FlashState) (told told_now : Option (List ℕ)) (state new : LinesState) (left left_now : Option (List ℕ)) (source source_now : ℕ) →
    Between config old all total stands content faults flash told told_now state left → AsksNext state left source (Ok true) new left_now source_now → InHand config old all total stands content faults flash told told_now true new left_now
between-next config old all total stands content faults flash told told_now state new left left_now source source_now h asks =
    let g = asks.gives h.rest h.rest_told (2 ^ 44) total h.within in
    let line = g.2.1 in
    record {
      given = h.given;
      hand = line.0;
      hand_is = line.1;
      rest = g.0;
      rest_told = g.1;
      within = g.2.0;
      order = ap (λ ls. h.given ++ ls) (sym line.2) ∙ h.order;
      so_far = h.so_far;
      few = omega (arith, h.few, asks.shrinks refl);
    }

-- .. or none is left
pub between-done : (config : Config) (old : Machine) (all : List (List ℕ)) (total : ℕ) (stands : Machine → Type 0) (content : List ℕ) (faults : ℕ) (flash : FlashState) (told told_now : Option (List ℕ)) (state new : LinesState) (left left_now : Option (List ℕ)) (source source_now : ℕ) →
    Between config old all total stands content faults flash told told_now state left → AsksNext state left source (Ok false) new left_now source_now →
    TalkEnds config old all total (StandsAlike stands) content flash.media.content faults flash.media.faults told told_now left_now Done
between-done config old all total stands content faults flash told told_now state new left left_now source source_now h asks =
    let g = asks.gives h.rest h.rest_told (2 ^ 44) total h.within in
    let same : h.given ≡ all = sym (append-nil h.given) ∙ (ap (λ ls. h.given ++ ls) (sym g.2.0) ∙ h.order) in (
      subst (λ lines. Answered config old lines true (StandsAlike stands) content flash.media.content faults flash.media.faults told told_now) same (answered-whole config old h.given stands content faults flash told told_now h.so_far),
      g.1 ∙ ap Some g.2.1,
    )

-- .. or the input fails
pub between-failed : (config : Config) (old : Machine) (all : List (List ℕ)) (total : ℕ) (stands : Machine → Type 0) (content : List ℕ) (faults : ℕ) (flash : FlashState) (told told_now : Option (List ℕ)) (state new : LinesState) (left left_now : Option (List ℕ)) (source source_now : ℕ) (fault : LinesFault) →
    Between config old all total stands content faults flash told told_now state left → AsksNext state left source (Err fault) new left_now source_now →
    TalkEnds config old all total (StandsAlike stands) content flash.media.content faults flash.media.faults told told_now left_now (reading_status fault)
between-failed config old all total stands content faults flash told told_now state new left left_now source source_now fault h asks = by_fault fault asks
  where
    front : OfFront all (λ lines. Answered config old lines true (StandsAlike stands) content flash.media.content faults flash.media.faults told told_now)
    front = (h.given, lines_of (rest_in state h.rest), h.order, answered-whole config old h.given stands content faults flash told told_now h.so_far)

    by_fault : (fault : LinesFault) → AsksNext state left source (Err fault) new left_now source_now → TalkEnds config old all total (StandsAlike stands) content flash.media.content faults flash.media.faults told told_now left_now (reading_status fault)
    by_fault Failed asks = front
    by_fault Long asks = let g = asks.gives h.rest h.rest_told (2 ^ 44) total h.within in (g.2, front)

-- nothing is left to be answered
pub talk-ended : (config : Config) (old : Machine) (total : ℕ) (stands : Machine → Type 0) (flash : FlashState) (told left_now : Option (List ℕ)) (left : List ℕ) → flash.work.reads ≡ 0 → stands old → left_now ≡ Some left → left ≡ [] →
    TalkEnds config old [] total (StandsAlike stands) flash.media.content flash.media.content flash.media.faults flash.media.faults told told left_now Done
talk-ended config old total stands flash told left_now left unread here is none =
    (answered-whole config old [] stands flash.media.content flash.media.faults flash told told (talked-none config old stands flash told unread here), is ∙ ap Some none)

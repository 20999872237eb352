-- The answer to one line, by what it asks.
use Rattle.std.proofs.Common.{◌≡◌, ℕ, true, Option, Some, None, Result, Ok, Err, List, [], ◌∷◌, refl, sym, ◌∙◌, ap, subst, arith}
use Rattle.std.specs.Prelude.{MatchOption, OnErr, OnOk}
use Rattle.fl_base.specs.Causes.{Appends, AppendsFront}
use Rattle.fl_flash.specs.Flash.{FlashState}
use Rattle.fl_model.specs.Record.{Config}
use Rattle.fl_words.specs.Command as command
use Rattle.fl_words.specs.Command.{Command}
use Rattle.fl_words.specs.Grammar as grammar
use Rattle.fl_words.specs.Grammar.{command_of}
use Rattle.fl_words.specs.Reply.{texts}
use Rattle.fl_machine.specs.Machine.{Machine}
use Rattle.fl_machine.specs.Reads.{OnColumns, none_read}
use Rattle.fl_machine.specs.Script.{runs, runs_read, runs_command}
use Rattle.fl_machine.specs.Step.{Located, Moment, no_column}
use Rattle.fl_machine.proofs.Costs.{on-table-weaker}
use Rattle.fl_reason.specs.Reason.{Explains, configures}
use Rattle.fl_reason.specs.declared.line.LineReason.{LineReason}
use Rattle.fl_reason.specs.declared.line.LineReason.TheVariants.{TooLong, Unknown, Form, Number, Late}
use Rattle.fl_script.specs.Written.{Written}
use Rattle.fl_session.specs.Cost.{ReadsAsStated, ReadsScan}
use Rattle.fl_session.specs.Execute.{Executes}
use Rattle.fl_queries.specs.Keys.{all_keys}
use Rattle.fl_shell.specs.Own.{Own, Describe, First, own_of}
use Rattle.fl_shell.specs.Refusal.{Refuses}
use Rattle.fl_shell.specs.Talk.{AnswersAs, AnswersRun, Turn, description, first_text, groups_of}
use Rattle.fl_shell.specs.Turning.{Describes, Executed, Looked, Says, TellsFirst, Turns, command_by, command_for}
use Rattle.fl_shell.proofs.TableFlushes.{unsaid}

-- nothing was read
pub looked-none : (config : Config) (m : Machine) (stands : Machine → Type 0) (flash : FlashState) → stands m → Looked config m [] stands flash flash
looked-none config m stands flash here = record { stays = here; content = refl; reads = λ most few. omega arith; cause = λ e. cc }

-- a line to which nothing is executed
pub silent-turn : {E : Type 0} (config : Config) (m : Machine) (line : List ℕ) (own : Own) (stands : Machine → Type 0) (flash : FlashState) (told told_now : Option (List ℕ)) (result : Result (Unit {0}) E) (answer : List ℕ) →
    own_of line ≡ Some own → command_by (Some own) line ≡ None → AnswersAs config m (Some own) line (record { moment = None; answer = answer; unread = [] }) → stands m → Written told told_now result answer →
    Turns {E = E} config m line (command_by (Some own) line) stands flash flash told told_now result
silent-turn {E} config m line own stands flash told told_now result answer own_is none answers here written =
    let turn : Turn = record { moment = None; answer = answer; unread = [] } in
    let says : Says {E = E} config m line stands flash flash told told_now result = record { unread = []; few = omega arith; looked = looked-none config m stands flash here; answer = answer; answers = subst (λ o. AnswersAs config m o line turn) (sym own_is) answers; written = written } in
    subst (λ o. Turns {E = E} config m line o stands flash flash told told_now result) (sym none) says

-- .. but for which pages may be read
pub describe-turn : {E : Type 0} (config : Config) (m : Machine) (line : List ℕ) (stands : Machine → Type 0) (flash flash_now : FlashState) (told told_now : Option (List ℕ)) (result : Result (Unit {0}) E) →
    own_of line ≡ Some Describe → Describes {E = E} config m stands flash flash_now told told_now result → Turns {E = E} config m line (command_by (Some Describe) line) stands flash flash_now told told_now result
describe-turn {E} config m line stands flash flash_now told told_now result own_is h =
    let turn : Turn = record { moment = None; answer = description config m h.unread; unread = h.unread } in
    record { unread = h.unread; few = h.few; looked = h.looked; answer = description config m h.unread; answers = subst (λ o. AnswersAs config m o line turn) (sym own_is) (refl, refl); written = h.written }

-- a line that is no command
pub refused-turn : {E : Type 0} (config : Config) (m : Machine) (line : List ℕ) (stands : Machine → Type 0) (flash : FlashState) (told told_now : Option (List ℕ)) (result : Result (Unit {0}) E) →
    own_of line ≡ None → runs line ≡ None → stands m → Refuses told told_now result → Turns {E = E} config m line (runs line) stands flash flash told told_now result
refused-turn {E} config m line stands flash told told_now result own_is none here refuses =
    let turn : Turn = record { moment = None; answer = refuses.0; unread = [] } in
    let run : AnswersRun (runs line) turn = subst (λ o. AnswersRun o turn) (sym none) (refl, refuses.1) in
    let says : Says {E = E} config m line stands flash flash told told_now result = record { unread = []; few = omega arith; looked = looked-none config m stands flash here; answer = refuses.0; answers = subst (λ o. AnswersAs config m o line turn) (sym own_is) run; written = refuses.2 } in
    subst (λ o. Turns {E = E} config m line o stands flash flash told told_now result) (sym none) says

-- .. and one that is
pub ran-turn : {E : Type 0} (config : Config) (m : Machine) (line : List ℕ) (c : Command) (stands : Machine → Type 0) (flash flash_now : FlashState) (told told_now : Option (List ℕ)) (result : Result (Unit {0}) E) →
    own_of line ≡ None → runs line ≡ Some c → Executes {E = E} config m c stands flash flash_now told told_now result → Turns {E = E} config m line (runs line) stands flash flash_now told told_now result
ran-turn {E} config m line c stands flash flash_now told told_now result own_is is e =
    let turn : Turn = record { moment = Some e.moment; answer = texts e.moment.replies; unread = [] } in
    let run : AnswersRun (runs line) turn = subst (λ o. AnswersRun o turn) (sym is) (e.moment, refl, e.command_is, refl) in
    let executed : Executed {E = E} config m line c stands flash flash_now told told_now result = record {
      executes = unsaid {E = E} config m c stands flash flash_now told told_now result e;
      answer = texts e.moment.replies;
      answers = subst (λ o. AnswersAs config m o line turn) (sym own_is) run;
      written = by_result result e.told_all e.told_front;
    } in
    subst (λ o. Turns {E = E} config m line o stands flash flash_now told told_now result) (sym is) executed
  where
    by_result : (r : Result (Unit {0}) E) → OnOk r (Appends told told_now (texts e.moment.replies)) → OnErr r (AppendsFront told told_now (texts e.moment.replies)) → Written told told_now r (texts e.moment.replies)
    by_result (Ok done) all front = all
    by_result (Err failed) all front = front

-- the groups that were asked for, where their answer isn't written whole
stated-cut : {E : Type 0} (config : Config) (m : Machine) (moment : Moment) (name : List ℕ) (flash : FlashState) (error : E) → ReadsAsStated {E = E} config m moment flash (Ok tt) (groups_of name) → ReadsAsStated {E = E} config m moment flash (Err error) (groups_of name)
stated-cut {E} config m moment name flash error h =
    on-table-weaker config m moment name (OnColumns moment (0 ∷ []) (ReadsScan {E = E} config moment all_keys None flash (Ok tt))) (OnColumns moment (0 ∷ []) (ReadsScan {E = E} config moment all_keys None flash (Err error)))
    (λ at k. by_lacked at (no_column at.plan (0 ∷ [])) k) h
  where
    by_lacked : (at : Located) (lacked : Option ℕ) → MatchOption lacked (ReadsScan {E = E} config moment all_keys None flash (Ok tt) at) (λ column. none_read moment) → MatchOption lacked (ReadsScan {E = E} config moment all_keys None flash (Err error) at) (λ column. none_read moment)
    by_lacked at None k = record { within = k.within; least = tt; failed = k.failed }
    by_lacked at (Some column) k = k

groups-cut : {E : Type 0} (config : Config) (m : Machine) (name : List ℕ) (stands : Machine → Type 0) (flash flash_now : FlashState) (result : Result (Unit {0}) E) →
    (e : Executes {E = E} config m (groups_of name) stands flash flash_now None None (Ok tt)) → (executes : Executes {E = E} config m (groups_of name) stands flash flash_now None None result) × (executes.moment ≡ e.moment)
groups-cut config m name stands flash flash_now (Ok done) e = (e, refl)
groups-cut {E} config m name stands flash flash_now (Err error) e = (
  record {
    moment = e.moment;
    command_is = e.command_is;
    step = e.step;
    after = e.after;
    stands_after = e.stands_after;
    alike = e.alike;
    same = tt;
    reads = e.reads;
    stated = stated-cut {E = E} config m e.moment name flash_now error e.stated;
    stays = e.stays;
    rose = e.rose;
    told_all = tt;
    told_front = ([], (texts e.moment.replies, refl), tt);
  },
  refl,
)

-- the first key is asked for
pub first-turn : {E : Type 0} (config : Config) (m : Machine) (line name : List ℕ) (stands : Machine → Type 0) (flash flash_now : FlashState) (told told_now : Option (List ℕ)) (result : Result (Unit {0}) E) →
    own_of line ≡ Some (First name) → TellsFirst {E = E} config m name stands flash flash_now told told_now result → Turns {E = E} config m line (Some (groups_of name)) stands flash flash_now told told_now result
first-turn {E} config m line name stands flash flash_now told told_now result own_is h =
    let g = groups-cut {E = E} config m name stands flash flash_now result h.executes in
    let moment = g.0.moment in
    let answer = first_text moment.replies in
    let turn : Turn = record { moment = Some moment; answer = answer; unread = [] } in
    record {
      executes = g.0;
      answer = answer;
      answers = subst (λ o. AnswersAs config m o line turn) (sym own_is) (moment, refl, g.0.command_is, refl);
      written = subst (λ (x : Moment). Written told told_now result (first_text x.replies)) (sym g.1) h.written;
    }

-- ---- why a line is no command

configured-none : (c : Command) → configures c ≡ true → runs_command c ≡ None
configured-none (command.Device page block) e = refl
configured-none (command.Table line) e = refl
configured-none c e = cc

explained-none : (read : Result Command grammar.LineFault) (reason : LineReason) → Explains read (Some reason) → runs_read read ≡ None
explained-none read TooLong h = ap runs_read h
explained-none read (Unknown word) h = ap runs_read h
explained-none read (Form shape) h = ap runs_read h
explained-none read (Number shape) h = ap runs_read h
explained-none read Late h = ap runs_read h.1 ∙ configured-none h.0 h.2

pub refused-none : (line : List ℕ) (reason : LineReason) → Explains (command_of line) (Some reason) → runs line ≡ None
refused-none line reason h = explained-none (command_of line) reason h

pub runs-some : (line : List ℕ) (c : Command) → command_of line ≡ Ok c → runs_command c ≡ Some c → runs line ≡ Some c
runs-some line c read runnable = ap runs_read read ∙ runnable

-- nothing is read of a line that is a command
pub no-fault : {A : Type 0} (line : List ℕ) (fault : grammar.LineFault) → Explains (command_of line) None → command_of line ≡ Err fault → A
no-fault line fault h wrong = let same : Ok h.0 ≡ Err fault = sym h.1 ∙ wrong in cc

-- ---- by what the line asks

pub turn-for : {E : Type 0} (config : Config) (m : Machine) (line : List ℕ) (o : Option Own) (stands : Machine → Type 0) (flash flash_now : FlashState) (told told_now : Option (List ℕ)) (result : Result (Unit {0}) E) →
    own_of line ≡ o → Turns {E = E} config m line (command_by o line) stands flash flash_now told told_now result → Turns {E = E} config m line (command_for line) stands flash flash_now told told_now result
turn-for {E} config m line o stands flash flash_now told told_now result is h = subst (λ x. Turns {E = E} config m line (command_by x line) stands flash flash_now told told_now result) (sym is) h

pub turn-as : {E : Type 0} (config : Config) (m : Machine) (line : List ℕ) (own known : Own) (stands : Machine → Type 0) (flash flash_now : FlashState) (told told_now : Option (List ℕ)) (result : Result (Unit {0}) E) →
    own ≡ known → own_of line ≡ Some own → (own_of line ≡ Some known → Turns {E = E} config m line (command_by (Some known) line) stands flash flash_now told told_now result) → Turns {E = E} config m line (command_by (Some own) line) stands flash flash_now told told_now result
turn-as {E} config m line own known stands flash flash_now told told_now result is own_is h =
    subst (λ x. Turns {E = E} config m line (command_by (Some x) line) stands flash flash_now told told_now result) (sym is) (h (own_is ∙ ap (λ x. Some x) is))

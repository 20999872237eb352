-- The leading lines are taken one after another.
use Rattle.std.specs.Prelude.{IsSomeAnd}
use Rattle.std.proofs.Common.{Bor, ◌≡◌, ℕ, ◌^◌, ◌<◌, Bool, true, false, inl, inr, IsTrue, Option, Some, None, Result, Ok, Err, List, [], ◌∷◌, ◌++◌, length, refl, sym, ◌∙◌, ap, subst, append_assoc, append-nil, length-append, arith}
use Rattle.fl_base.specs.Causes.{Appends, HasCause}
use Rattle.fl_base.proofs.Appended.{appends-append, appends-none}
use Rattle.fl_config.specs.Whole.{is_whole}
use Rattle.fl_lines.specs.Stream.{LinesState}
use Rattle.fl_lines.specs.declared.lines.LinesFault.{LinesFault}
use Rattle.fl_lines.specs.declared.lines.LinesFault.TheVariants.{Failed, Long}
use Rattle.fl_plan.specs.Refusal.{fault_of}
use Rattle.fl_reason.specs.Reason.{TakesOr}
use Rattle.fl_reason.specs.declared.config.ConfigReason.{ConfigReason}
use Rattle.fl_words.specs.Command.{Command}
use Rattle.fl_words.specs.Config.{ConfigFault, Lines, configured, no_lines}
use Rattle.fl_words.specs.Grammar.{LineFault, command_of, lines_of}
use Rattle.fl_words.proofs.Lines.{too_long-command}
use Rattle.fl_script.specs.CommandView.{command_view}
use Rattle.fl_script.specs.Written.{Written}
use Rattle.fl_script.specs.declared.command.Command as script
use Rattle.fl_ends.specs.declared.shell.ShellStatus.TheVariants.{OutWrite, Unconfigured}
use Rattle.fl_shell.specs.Begin.{Step, Ends, Refuses, IsEnded, Leads, LeadsBy, LeadsTo, step_asked, step_command, step_config, step_of, step_own}
use Rattle.fl_shell.specs.Leading.{LeadsAs, LeavesOn, Led, TakesBy, going_on}
use Rattle.fl_shell.specs.OwnView.{own_view}
use Rattle.fl_shell.specs.Refusal.{Refuses as Refused, line_of}
use Rattle.fl_shell.specs.Reading.{AsksNext, IsGivenAs, IsLeft, rest_in}
use Rattle.fl_shell.specs.Statuses.{reading_status}
use Rattle.fl_shell.specs.Talking.{lines_from}
use Rattle.fl_shell.specs.declared.begin.Begun.{Begun}
use Rattle.fl_shell.specs.declared.begin.Step as begin
use Rattle.fl_shell.specs.declared.own.Own as code
use Rattle.fl_shell.specs.declared.talk.Next.TheVariants.{InHand, Ended}
use Rattle.fl_shell.proofs.LongLines.{long-own}

-- one line more
leads-more : (before mid after : Lines) (lines : List (List ℕ)) (answers line answer : List ℕ) → Leads before lines answers mid → LeadsTo mid (step_of mid line) answer after → Leads before (lines ++ line ∷ []) (answers ++ answer) after
leads-more before mid after [] answers line answer h more =
    (answer, [], after, ap (λ a. a ++ answer) h.0 ∙ sym (append-nil answer), subst (λ x. LeadsTo x (step_of x line) answer after) h.1 more, (refl, refl))
leads-more before mid after (l ∷ lines) answers line answer h more =
    (h.0, h.1 ++ answer, h.2, ap (λ a. a ++ answer) h.3 ∙ append_assoc h.0 h.1 answer, h.4, leads-more h.2 mid after lines h.1 line answer h.5 more)

long-step : (made : Lines) (line : List ℕ) → 4096 < length line → step_of made line ≡ Refuses
long-step made line long = ap (λ o. step_own made o line) (long-own line long) ∙ ap (step_command made) (too_long-command line long)

-- a line goes on as it was given
step-same : (made : Lines) (line given : List ℕ) → IsGivenAs line given → step_of made given ≡ step_of made line
step-same made line given (inl same) = ap (step_of made) same
step-same made line given (inr w) = long-step made given w.0 ∙ sym (long-step made line (omega (arith, w.0, ap length w.1.1, length-append given w.1.0)))

-- ---- a line

-- a line of a configuration is refused
adds-refused : {E : Type 0} (lines new : Lines) (c : Command) (reason : ConfigReason) (told told_now : Option (List ℕ)) (result : Result (Unit {0}) E) → TakesOr lines c (Some reason) new → Refused told told_now result →
    LeadsBy {E = E} lines (step_config (configured lines c)) new told told_now result
adds-refused {E} lines new c reason told told_now result takes refused = by_fault (fault_of reason.refusal) takes.0
  where
    by_fault : (o : Option ConfigFault) → IsSomeAnd o (λ fault. configured lines c ≡ Err fault) → LeadsBy {E = E} lines (step_config (configured lines c)) new told told_now result
    by_fault None h = absurd h
    by_fault (Some fault) h = subst (λ r. LeadsBy {E = E} lines (step_config r) new told told_now result) (sym h) (refused.0, (refused.1, takes.1), refused.2)

-- .. or taken
adds-taken : (E : Type 0) (lines new : Lines) (c : Command) (told : Option (List ℕ)) → TakesOr lines c None new → LeadsBy {E = E} lines (step_config (configured lines c)) new told told (Ok tt)
adds-taken E lines new c told takes = subst (λ r. LeadsBy {E = E} lines (step_config r) new told told (Ok tt)) (sym takes) ([], (refl, refl), appends-none told)

pub adds : (E : Type 0) (lines new : Lines) (c : Command) (o : Option ConfigReason) (told : Option (List ℕ)) → o ≡ None → TakesOr lines c o new → LeadsBy {E = E} lines (step_config (configured lines c)) new told told (Ok tt)
adds E lines new c o told none takes = adds-taken E lines new c told (subst (λ x. TakesOr lines c x new) none takes)

pub adds-not : {E : Type 0} (lines new : Lines) (c : Command) (o : Option ConfigReason) (reason : ConfigReason) (told told_now : Option (List ℕ)) (result : Result (Unit {0}) E) → o ≡ Some reason → TakesOr lines c o new → Refused told told_now result →
    LeadsBy {E = E} lines (step_config (configured lines c)) new told told_now result
adds-not {E} lines new c o reason told told_now result some takes refused = adds-refused {E = E} lines new c reason told told_now result (subst (λ x. TakesOr lines c x new) some takes) refused

-- what would end a configuration that isn't whole is refused
pub ends-refused : {E : Type 0} (lines : Lines) (told told_now : Option (List ℕ)) (result : Result (Unit {0}) E) → (IsTrue (is_whole lines) → ⊥) → Refused told told_now result → LeadsBy {E = E} lines Ends lines told told_now result
ends-refused lines told told_now result unwhole refused = (refused.0, (refused.1, refl, unwhole), refused.2)

-- .. and the lines go on
pub takes-on : {E : Type 0} (before after : Lines) (step : Step) (told told_now : Option (List ℕ)) (answered : Result (Unit {0}) E) (result : Result begin.Step E) → result ≡ going_on answered → LeadsBy {E = E} before step after told told_now answered →
    TakesBy {E = E} before step result after told told_now
takes-on {E} before after step told told_now (Ok done) result is h = subst (λ r. TakesBy {E = E} before step r after told told_now) (sym is) h
takes-on {E} before after step told told_now (Err failed) result is h = subst (λ r. TakesBy {E = E} before step r after told told_now) (sym is) h

pub caused-on : {E : Type 0} (faults now : ℕ) (answered : Result (Unit {0}) E) (result : Result begin.Step E) → result ≡ going_on answered → HasCause faults now answered → HasCause faults now result
caused-on {E} faults now (Ok done) result is h = subst (λ (r : Result begin.Step E). HasCause faults now r) (sym is) (record { later = h.later; failed = tt })
caused-on {E} faults now (Err failed) result is h = subst (λ (r : Result begin.Step E). HasCause faults now r) (sym is) (record { later = h.later; failed = h.failed })

-- ---- by what the line is

pub asked-other : (own : code.Own) → ((word : Bor (List ℕ)) → own ≡ code.TheVariants.Echo word → ⊥) → ((form : _) → own ≡ code.TheVariants.Misformed form → ⊥) → step_asked (own_view own) ≡ Ends
asked-other (code.TheVariants.Echo word) other formed = absurd (other word refl)
asked-other (code.TheVariants.Misformed form) other formed = absurd (formed form refl)
asked-other own other formed = refl

pub echo-step : {E : Type 0} (made : Lines) (own : code.Own) (word : Bor (List ℕ)) (told told_now : Option (List ℕ)) (result : Result (Unit {0}) E) → own ≡ code.TheVariants.Echo word → Written told told_now result (line_of word.now) →
    LeadsBy {E = E} made (step_asked (own_view own)) made told told_now result
echo-step {E} made own word told told_now result is wrote = subst (λ o. LeadsBy {E = E} made (step_asked (own_view o)) made told told_now result) (sym is) (line_of word.now, (refl, refl), wrote)

pub misformed-step : {E : Type 0} {form : _} (made : Lines) (own : code.Own) (told told_now : Option (List ℕ)) (result : Result (Unit {0}) E) → own ≡ code.TheVariants.Misformed form → Refused told told_now result →
    LeadsBy {E = E} made (step_asked (own_view own)) made told told_now result
misformed-step {E} made own told told_now result is refused = subst (λ o. LeadsBy {E = E} made (step_asked (own_view o)) made told told_now result) (sym is) (refused.0, (refused.1, refl), refused.2)

-- ---- by the command

pub nothing-step : (E : Type 0) (made : Lines) (c : script.Command) (room : List ℕ) (told : Option (List ℕ)) → c ≡ script.TheVariants.Nothing → LeadsBy {E = E} made (step_command made (Ok (command_view c room))) made told told (Ok tt)
nothing-step E made c room told is = subst (λ x. LeadsBy {E = E} made (step_command made (Ok (command_view x room))) made told told (Ok tt)) (sym is) ([], (refl, refl), appends-none told)

pub device-step : {page block : ℕ} (made : Lines) (c : script.Command) (room : List ℕ) → c ≡ script.TheVariants.Device page block → step_config (configured made (command_view c room)) ≡ step_command made (Ok (command_view c room))
device-step made c room is = subst (λ x. step_config (configured made (command_view x room)) ≡ step_command made (Ok (command_view x room))) (sym is) refl

pub table-step : {name : _} {key rows index var bits : ℕ} {base : _} {width error blob : ℕ} {full : Bool} {log : Option ℕ} (made : Lines) (c : script.Command) (room : List ℕ) → c ≡ script.TheVariants.Table name key rows index var bits base width error blob full log →
    step_config (configured made (command_view c room)) ≡ step_command made (Ok (command_view c room))
table-step made c room is = subst (λ x. step_config (configured made (command_view x room)) ≡ step_command made (Ok (command_view x room))) (sym is) refl

-- another ends the configuration
pub command-other : (made : Lines) (c : script.Command) (room : List ℕ) → (c ≡ script.TheVariants.Nothing → ⊥) → ((page block : ℕ) → c ≡ script.TheVariants.Device page block → ⊥) →
    ((name : _) (key rows index var bits : ℕ) (base : _) (width error blob : ℕ) (full : Bool) (log : Option ℕ) → c ≡ script.TheVariants.Table name key rows index var bits base width error blob full log → ⊥) → step_command made (Ok (command_view c room)) ≡ Ends
command-other made script.TheVariants.Nothing room n d t = absurd (n refl)
command-other made (script.TheVariants.Device page block) room n d t = absurd (d page block refl)
command-other made (script.TheVariants.Table name key rows index var bits base width error blob full log) room n d t = absurd (t name key rows index var bits base width error blob full log refl)
command-other made c room n d t = refl

-- a line that is no command
pub refused-step : {E : Type 0} (made : Lines) (line : List ℕ) (fault : LineFault) (told told_now : Option (List ℕ)) (result : Result (Unit {0}) E) → command_of line ≡ Err fault → Refused told told_now result → LeadsBy {E = E} made (step_command made (command_of line)) made told told_now result
refused-step {E} made line fault told told_now result is refused = subst (λ r. LeadsBy {E = E} made (step_command made r) made told told_now result) (sym is) (refused.0, (refused.1, refl), refused.2)

-- ---- the loop

-- the lines before those that are left were answered
pub record LedSoFar (all : List (List ℕ)) (total : ℕ) (made : Lines) (state : LinesState) (left told told_now : Option (List ℕ)) : Type 0 where
  pub given : List (List ℕ)
  pub rest : List ℕ
  pub rest_told : left ≡ Some rest
  pub within : IsLeft state rest (2 ^ 44) total
  pub order : given ++ lines_of (rest_in state rest) ≡ all
  pub led : Led given made told told_now

-- .. and the next one was given
pub record LedToLine (all : List (List ℕ)) (total : ℕ) (made : Lines) (state : LinesState) (left told told_now : Option (List ℕ)) : Type 0 where
  pub given : List (List ℕ)
  pub hand : List ℕ
  pub hand_is : IsGivenAs hand state.line
  pub rest : List ℕ
  pub rest_told : left ≡ Some rest
  pub within : IsLeft state rest (2 ^ 44) total
  pub order : given ++ hand ∷ lines_of (rest_in state rest) ≡ all
  pub led : Led given made told told_now

pub led-first : (total : ℕ) (state : LinesState) (left_now told : Option (List ℕ)) (left : List ℕ) → left_now ≡ Some left → IsLeft state left (2 ^ 44) total → LedSoFar (lines_of (rest_in state left)) total no_lines state left_now told told
led-first total state left_now told left is within =
    record { given = []; rest = left; rest_told = is; within = within; order = refl; led = record { answers = []; leads = (refl, refl); written = appends-none told } }

pub led-next : (all : List (List ℕ)) (total : ℕ) (made : Lines) (state new : LinesState) (left left_now told told_now : Option (List ℕ)) (source source_now : ℕ) → LedSoFar all total made state left told told_now → AsksNext state left source (Ok true) new left_now source_now →
    LedToLine all total made new left_now told told_now
led-next all total made state new left left_now told told_now source source_now h asks =
    let g = asks.gives h.rest h.rest_told (2 ^ 44) total h.within in
    let line = g.2.1 in
    record { given = h.given; hand = line.0; hand_is = line.1; rest = g.0; rest_told = g.1; within = g.2.0; order = ap (λ ls. h.given ++ ls) (sym line.2) ∙ h.order; led = h.led }

-- the line is answered
pub led-more : (E : Type 0) (all : List (List ℕ)) (total : ℕ) (made after : Lines) (state : LinesState) (left told told_mid told_now : Option (List ℕ)) → LedToLine all total made state left told told_mid → LeadsBy {E = E} made (step_of made state.line) after told_mid told_now (Ok tt) →
    LedSoFar all total after state left told told_now
led-more E all total made after state left told told_mid told_now h by = record {
  given = h.given ++ h.hand ∷ [];
  rest = h.rest;
  rest_told = h.rest_told;
  within = h.within;
  order = append_assoc h.given (h.hand ∷ []) (lines_of (rest_in state h.rest)) ∙ h.order;
  led = record {
    answers = h.led.answers ++ by.0;
    leads = leads-more no_lines made after h.given h.led.answers h.hand by.0 h.led.leads (subst (λ s. LeadsTo made s by.0 after) (step-same made h.hand state.line h.hand_is) by.1);
    written = appends-append told told_mid told_now h.led.answers by.0 h.led.written by.2;
  };
}

-- .. but for the end of its answer
pub led-into : {E : Type 0} (all : List (List ℕ)) (total : ℕ) (made after : Lines) (state new : LinesState) (left left_now told told_mid told_now : Option (List ℕ)) (error : E) → LedToLine all total made state left told told_mid → LeadsBy {E = E} made (step_of made state.line) after told_mid told_now (Err error) →
    LeadsAs all total (Err OutWrite) new left_now told told_now
led-into all total made after state new left left_now told told_mid told_now error h by = (
  h.given ++ h.hand ∷ [],
  lines_of (rest_in state h.rest),
  append_assoc h.given (h.hand ∷ []) (lines_of (rest_in state h.rest)) ∙ h.order,
  record {
    before = h.given;
    last = h.hand;
    split = refl;
    made = made;
    answers = h.led.answers;
    leads = h.led.leads;
    after = after;
    answer = by.0;
    leads_last = subst (λ s. LeadsTo made s by.0 after) (step-same made h.hand state.line h.hand_is) by.1;
    front = by.2.0;
    is_front = by.2.1;
    written = appends-append told told_mid told_now h.led.answers by.2.0 h.led.written by.2.2;
  },
)

-- the line ends the configuration
pub led-ends : (all : List (List ℕ)) (total : ℕ) (begun : Begun) (state : LinesState) (left told told_mid told_now : Option (List ℕ)) → begun.next ≡ InHand → LedToLine all total begun.config state left told told_mid → step_of begun.config state.line ≡ Ends → IsTrue (is_whole begun.config) → told_now ≡ told_mid →
    LeadsAs all total (Ok begun) state left told told_now
led-ends all total begun state left told told_mid told_now next h ends is_whole same =
    let leaves : LeavesOn begun total state left = record { rest = h.rest; rest_told = h.rest_told; ended = λ e. cc; within = λ e. h.within; hand = h.hand; hand_is = h.hand_is } in
    let others = ap (λ n. lines_from n h.hand (lines_of (rest_in state h.rest))) next in
    record {
      leaves = leaves;
      front = h.given;
      split = ap (λ ls. h.given ++ ls) others ∙ h.order;
      led = record { answers = h.led.answers; leads = h.led.leads; written = subst (λ t. Appends told t h.led.answers) (sym same) h.led.written };
      is_ended = subst (IsEnded begun.config) (sym others) (sym (step-same begun.config h.hand state.line h.hand_is) ∙ ends, is_whole);
    }

-- the input ends
pub led-ended : (all : List (List ℕ)) (total : ℕ) (begun : Begun) (state new : LinesState) (left left_now told told_now : Option (List ℕ)) (source source_now : ℕ) → begun.next ≡ Ended → LedSoFar all total begun.config state left told told_now → AsksNext state left source (Ok false) new left_now source_now →
    LeadsAs all total (Ok begun) new left_now told told_now
led-ended all total begun state new left left_now told told_now source source_now next h asks =
    let g = asks.gives h.rest h.rest_told (2 ^ 44) total h.within in
    let leaves : LeavesOn begun total new left_now = record { rest = g.0; rest_told = g.1; ended = λ e. g.2.1; within = λ e. absurd (e next); hand = new.line; hand_is = inl refl } in
    let others = ap (λ n. lines_from n new.line (lines_of (rest_in new g.0))) next in
    record {
      leaves = leaves;
      front = h.given;
      split = ap (λ ls. h.given ++ ls) (others ∙ sym g.2.0) ∙ h.order;
      led = h.led;
      is_ended = subst (IsEnded begun.config) (sym others) tt;
    }

pub led-unended : (all : List (List ℕ)) (total : ℕ) (made : Lines) (state new : LinesState) (left left_now told told_now : Option (List ℕ)) (source source_now : ℕ) → (IsTrue (is_whole made) → ⊥) → LedSoFar all total made state left told told_now → AsksNext state left source (Ok false) new left_now source_now →
    LeadsAs all total (Err Unconfigured) new left_now told told_now
led-unended all total made state new left left_now told told_now source source_now unwhole h asks =
    let g = asks.gives h.rest h.rest_told (2 ^ 44) total h.within in
    let same : h.given ≡ all = sym (append-nil h.given) ∙ (ap (λ ls. h.given ++ ls) (sym g.2.0) ∙ h.order) in
    ((made, subst (λ lines. Led lines made told told_now) same h.led, unwhole), g.1 ∙ ap Some g.2.1)

pub led-failed : (all : List (List ℕ)) (total : ℕ) (made : Lines) (state new : LinesState) (left left_now told told_now : Option (List ℕ)) (source source_now : ℕ) (fault : LinesFault) → LedSoFar all total made state left told told_now → AsksNext state left source (Err fault) new left_now source_now →
    LeadsAs all total (Err (reading_status fault)) new left_now told told_now
led-failed all total made state new left left_now told told_now source source_now Failed h asks = (h.given, lines_of (rest_in state h.rest), h.order, (made, h.led))
led-failed all total made state new left left_now told told_now source source_now Long h asks =
    let g = asks.gives h.rest h.rest_told (2 ^ 44) total h.within in
    (g.2, (h.given, lines_of (rest_in state h.rest), h.order, (made, h.led)))

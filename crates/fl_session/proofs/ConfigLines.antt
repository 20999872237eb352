-- The lines of a configuration, one after another.
use Rattle.std.proofs.Common.{◌≡◌, ℕ, ◌+◌, ◌<◌, Bool, true, false, Option, Some, None, Result, Ok, Err, List, [], ◌∷◌, ◌++◌, length, drop, refl, sym, ◌∙◌, ap, subst, append_assoc, append-nil, length-append, arith, if◌then◌else◌, IfOk, IfErr}
use Rattle.fl_ends.specs.declared.run.Status.{Status}
use Rattle.fl_ends.specs.declared.run.Status.TheVariants.{Line, ScriptRead, Config as BadConfiguration, ScriptLong}
use Rattle.fl_session.specs.declared.begin.Begun.{Begun}
use Rattle.std.proofs.lemmas.Bool.{le-ltb, ltb-false, false≢true, true≢false}
use Rattle.fl_words.specs.Command as words
use Rattle.fl_words.specs.Grammar as grammar
use Rattle.fl_words.specs.Grammar.{command_of}
use Rattle.fl_words.specs.Config.{Lines, no_lines, whole}
use Rattle.fl_words.proofs.Lines.{too_long-command}
use Rattle.fl_machine.specs.Script.{Unended, BadLine, BadConfig, start_with, start_from, start_of, ended}
use Rattle.fl_script.specs.declared.command.Command as code
use Rattle.fl_script.specs.CommandView.{command_view}
use Rattle.fl_lines.specs.Texts.{most_bytes, lines_read, lines_within, is_long}
use Rattle.fl_session.specs.ScriptEnds.{start_in}
use Rattle.fl_lines.specs.Given.{Given}
use Rattle.fl_lines.specs.Stream.{LinesState, Gives, TakesPart, TakesAhead}
use Rattle.fl_session.specs.Taken.{TakesLine, TakesBegin, IsUnended}
use Rattle.fl_lines.specs.Taken.{TakesFew}
use Rattle.std.proofs.lemmas.List.{drop_all}
use Rattle.fl_session.specs.Next.{NextCommand, EndsThere, IsRefused}
use Rattle.fl_session.specs.Loop.{Tail}
use Rattle.fl_session.specs.Begin.{IsFresh, GoesOn, EndsIt, Refuses, AtCommand, AtEnd, EndsInConfig, EndsBegin, BeginsAt, ConfiguresBy, HoldsFirst}
use Rattle.fl_lines.specs.declared.lines.LinesFault.{LinesFault}
use Rattle.fl_lines.specs.declared.lines.LinesFault.TheVariants.{Failed, Long}
use Rattle.fl_lines.proofs.LinesInTurn.{given-few, given-over, given-none, given-all, given-taken, given-most}
use Rattle.fl_session.proofs.AcceptedLines.{Configures, configures-none, configures-end, configures-line, configures-more}
use Rattle.fl_session.proofs.Loops.{NextLine, fits, too_long, next_line}

-- the lines that were given are lines of the configuration
pub record Configured (knots : ℕ) (text : List ℕ) (now : Lines) (number : ℕ) (state : LinesState) (left : Option (List ℕ)) : Type 0 where
  pub before : List (List ℕ)
  pub left_is : List ℕ
  pub left_told : left ≡ Some left_is
  pub reading : Given most_bytes text before state.closed state.most (state.ahead ++ left_is)
  pub configures : Configures knots before now
  pub numbered : number ≡ length before + 1

pub configured-first : (knots : ℕ) (text : List ℕ) (now : Lines) (state : LinesState) (left : Option (List ℕ)) → now ≡ no_lines → IsFresh state → left ≡ Some text → Configured knots text now 1 state left
configured-first knots text now state left none fresh told = record {
  before = [];
  left_is = text;
  left_told = told;
  reading =
      subst (λ m. Given most_bytes text [] state.closed m (state.ahead ++ text)) (sym fresh.most)
      (subst (λ a. Given most_bytes text [] state.closed most_bytes (a ++ text)) (sym fresh.ahead) (given-none most_bytes text state.closed (λ c. absurd (true≢false (sym c ∙ fresh.is_open)))));
  configures = subst (λ l. Configures knots [] l) (sym none) (configures-none knots);
  numbered = refl;
}

-- the text as a tail, for the next line of it
abbrev whole_tail : List ℕ → Tail
whole_tail text = record { number = 0; first = []; text = text; taken = 0; most = most_bytes; closed = false }

the_next : (text : List ℕ) (given : List (List ℕ)) (old new : LinesState) (left left_now : List ℕ) →
    Given most_bytes text given old.closed old.most (old.ahead ++ left) → Gives old (old.ahead ++ left) (Ok true) new left_now → NextLine (whole_tail text) given new (new.ahead ++ left_now)
the_next text given old new left left_now g gives = next_line (whole_tail text) given old new left left_now g (λ e. absurd (false≢true e)) gives

not_long : (c : words.Command) → Ok c ≡ Err grammar.TooLong → ⊥
not_long c e = cc

-- a line that goes on
goes_on : (knots : ℕ) (text : List ℕ) (now next : Lines) (number : ℕ) (old new : LinesState) (left : Option (List ℕ)) (left_now : List ℕ) (c : words.Command) →
    (h : Configured knots text now number old left) → command_of new.line ≡ Ok c → GoesOn now c next → Given most_bytes text (h.before ++ new.line ∷ []) new.closed new.most (new.ahead ++ left_now) →
    Configured knots text next (number + 1) new (Some left_now)
goes_on knots text now next number old new left left_now c h reads goes g = record {
  before = h.before ++ new.line ∷ [];
  left_is = left_now;
  left_told = refl;
  reading = g;
  configures = configures-more knots h.before now next new.line (Ok c) h.configures reads (λ others. goes knots (length h.before + 1) new.line others (λ n. start_from knots (length h.before + 1 + 1) n others));
  numbered = omega (arith, h.numbered, length-append h.before (new.line ∷ []));
}

-- what was given with a command: its line is given whole
pub given-command : (knots : ℕ) (text : List ℕ) (now : Lines) (number : ℕ) (old new : LinesState) (left left_now : Option (List ℕ)) (f f_now : ℕ) (c : code.Command) (room : List ℕ) →
    (h : Configured knots text now number old left) → NextCommand old left f number (Ok (Some c)) room new left_now f_now →
    (l : List ℕ) × (left_now ≡ Some l) × Given most_bytes text (h.before ++ new.line ∷ []) new.closed new.most (new.ahead ++ l)
given-command knots text now number old new left left_now f f_now c room h n =
    let g = n.advances.gives h.left_is h.left_told h.reading.ended in
    let k : Gives old (old.ahead ++ h.left_is) (Ok true) new g.0 = subst (λ r. Gives old (old.ahead ++ h.left_is) r new g.0) n.next.0 g.2 in (
      g.0,
      g.1,
      elim (the_next text h.before old new h.left_is g.0 h.reading k) [
        | fits x is_open ↦ x
        | too_long t long ↦ absurd (not_long (command_view c room) (sym n.next.1.reads ∙ too_long-command new.line long))
      ],
    )

pub configured-more : (knots : ℕ) (text : List ℕ) (now next : Lines) (number : ℕ) (old new : LinesState) (left left_now : Option (List ℕ)) (f f_now : ℕ) (c : code.Command) (room : List ℕ) →
    Configured knots text now number old left → NextCommand old left f number (Ok (Some c)) room new left_now f_now → GoesOn now (command_view c room) next →
    Configured knots text next (number + 1) new left_now
configured-more knots text now next number old new left left_now f f_now c room h n goes =
    let g = given-command knots text now number old new left left_now f f_now c room h n in
    subst (λ l. Configured knots text next (number + 1) new l) (sym g.1)
    (goes_on knots text now next number old new left g.0 (command_view c room) h n.next.1.reads goes g.2)

unended : (knots : ℕ) (lines : List (List ℕ)) (now : Lines) → Configures knots lines now → IsUnended (start_of knots lines)
unended knots lines now h = subst IsUnended (sym (configures-end knots lines now h)) tt

-- what was taken with a command
next-few : (knots : ℕ) (text : List ℕ) (now : Lines) (number : ℕ) (old new : LinesState) (left left_now : Option (List ℕ)) (f f_now : ℕ) (c : code.Command) (room : List ℕ) →
    (h : Configured knots text now number old left) → NextCommand old left f number (Ok (Some c)) room new left_now f_now → TakesFew text h.before left_now
next-few knots text now number old new left left_now f f_now c room h n =
    let g = n.advances.gives h.left_is h.left_told h.reading.ended in
    let t : TakesAhead old (old.ahead ++ h.left_is) (Ok true) g.0 = subst (λ r. TakesAhead old (old.ahead ++ h.left_is) r g.0) n.next.0 g.3 in
    subst (λ l. TakesFew text h.before l) (sym g.1) (given-few most_bytes text h.before old h.left_is g.0 h.reading t)

-- .. with a line of the configuration, or the one behind it
line-takes : (knots : ℕ) (text : List ℕ) (now : Lines) (number : ℕ) (old : LinesState) (left : Option (List ℕ)) (left_now : List ℕ) →
    (h : Configured knots text now number old left) → TakesAhead old (old.ahead ++ h.left_is) (Ok true) left_now → TakesLine text number (Some left_now)
line-takes knots text now number old left left_now h t = record {
  before = h.before;
  others = lines_within old.most (old.ahead ++ h.left_is);
  split = h.reading.lines;
  number_is = h.numbered;
  few = given-few most_bytes text h.before old h.left_is left_now h.reading t;
}

begin-takes : (knots : ℕ) (text : List ℕ) (now : Lines) (number : ℕ) (old new : LinesState) (left left_now : Option (List ℕ)) (f f_now : ℕ) (c : code.Command) (room : List ℕ) →
    (h : Configured knots text now number old left) → NextCommand old left f number (Ok (Some c)) room new left_now f_now → TakesBegin knots text left_now
begin-takes knots text now number old new left left_now f f_now c room h n = record {
  before = h.before;
  others = lines_within old.most (old.ahead ++ h.left_is);
  split = h.reading.lines;
  unended = unended knots h.before now h.configures;
  few = next-few knots text now number old new left left_now f f_now c room h n;
}

-- a command ends the configuration
pub at-command : (knots : ℕ) (text : List ℕ) (now next : Lines) (number : ℕ) (old new : LinesState) (left left_now : Option (List ℕ)) (f f_now : ℕ) (c : code.Command) (room : List ℕ) →
    Configured knots text now number old left → NextCommand old left f number (Ok (Some c)) room new left_now f_now → EndsIt now (command_view c room) next →
    AtCommand knots text next number new left_now
at-command knots text now next number old new left left_now f f_now c room h n e =
    let g = given-command knots text now number old new left left_now f f_now c room h n in
    record {
      before = h.before;
      left = g.0;
      left_is = g.1;
      given = g.2;
      numbered = h.numbered;
      unended = unended knots h.before now h.configures;
      few = next-few knots text now number old new left left_now f f_now c room h n;
      starts = λ others.
          configures-line knots h.before now new.line others (Ok (command_view c room)) h.configures n.next.1.reads
          ∙ (e.ends knots (length h.before + 1) new.line others (λ x. start_from knots (length h.before + 1 + 1) x others)
          ∙ (ap (λ (l : Lines). start_with (whole knots l) (length h.before + 1) (new.line ∷ others)) (sym e.same)
          ∙ ap (λ m. start_with (whole knots next) m (new.line ∷ others)) (sym h.numbered)));
    }

pub at-end : (knots : ℕ) (text : List ℕ) (now : Lines) (number : ℕ) (old new : LinesState) (left left_now : Option (List ℕ)) (f f_now : ℕ) (room : List ℕ) →
    Configured knots text now number old left → NextCommand old left f number (Ok None) room new left_now f_now → AtEnd knots text now number left_now
at-end knots text now number old new left left_now f f_now room h n =
    let g = n.advances.gives h.left_is h.left_told h.reading.ended in
    let k : old.ahead ++ h.left_is ≡ [] = subst (λ r. Gives old (old.ahead ++ h.left_is) r new g.0) n.next g.2 in
    let all = given-all most_bytes text h.before old.closed old.most (old.ahead ++ h.left_is) h.reading k in
    let nothing : g.0 ≡ [] = subst (λ r. TakesAhead old (old.ahead ++ h.left_is) r g.0) n.next g.3 in
    let parts : text ≡ h.reading.begin ++ [] = h.reading.parts ∙ ap (λ r. h.reading.begin ++ r) k in
    let all_taken : drop (length text) text ≡ [] = drop_all (length text) text (omega arith) in
    let short = ltb-false most_bytes (length text) all.1 in
    record {
      nothing = g.1 ∙ ap Some nothing;
      takes = record {
        before = h.before;
        others = [];
        split = all.0 ∙ sym (append-nil h.before);
        unended = unended knots h.before now h.configures;
        few = record {
          taken = length text;
          within = omega arith;
          few = omega (arith, ap length parts, length-append h.reading.begin [], h.reading.size, short);
          left = g.1 ∙ ap Some (nothing ∙ sym all_taken);
        };
      };
      short = short;
      starts = ap (start_of knots) all.0 ∙ (configures-end knots h.before now h.configures ∙ ap (λ m. Unended (whole knots now) m) (sym h.numbered));
    }

-- the start of a script from its lines
start-bad_line : (knots : ℕ) (text : List ℕ) (n : ℕ) → start_of knots (lines_read text) ≡ BadLine n → start_in knots text ≡ BadLine n
start-bad_line knots text n e = by_test (is_long text)
  where
    by_test : (b : Bool) → (if b then start_of knots (lines_read text) else ended (start_of knots (lines_read text))) ≡ BadLine n
    by_test true = e
    by_test false = ap ended e

pub start-bad_config : (knots : ℕ) (text : List ℕ) (n : ℕ) → start_of knots (lines_read text) ≡ BadConfig n → start_in knots text ≡ BadConfig n
start-bad_config knots text n e = by_test (is_long text)
  where
    by_test : (b : Bool) → (if b then start_of knots (lines_read text) else ended (start_of knots (lines_read text))) ≡ BadConfig n
    by_test true = e
    by_test false = ap ended e

-- a line is refused by the grammar
bad_line : (knots : ℕ) (text : List ℕ) (now : Lines) (number : ℕ) (state : LinesState) (left : Option (List ℕ)) (line : List ℕ) (others : List (List ℕ)) (r : Result words.Command grammar.LineFault) →
    (h : Configured knots text now number state left) → lines_read text ≡ h.before ++ line ∷ others → command_of line ≡ r → IsRefused r → start_in knots text ≡ BadLine number
bad_line knots text now number state left line others (Ok c) h lines e bad = absurd bad
bad_line knots text now number state left line others (Err fault) h lines e bad =
    start-bad_line knots text number
    (ap (start_of knots) lines
    ∙ (configures-line knots h.before now line others (Err fault) h.configures e
    ∙ ap (λ m. BadLine m) (sym h.numbered)))

refused_line : (knots : ℕ) (text : List ℕ) (now : Lines) (number : ℕ) (old new : LinesState) (left : Option (List ℕ)) (left_now : List ℕ) →
    (h : Configured knots text now number old left) → Gives old (old.ahead ++ h.left_is) (Ok true) new left_now → IsRefused (command_of new.line) → start_in knots text ≡ BadLine number
refused_line knots text now number old new left left_now h gives bad =
    elim (the_next text h.before old new h.left_is left_now h.reading gives) [
      | fits g is_open ↦
          bad_line knots text now number old left new.line (lines_within new.most (new.ahead ++ left_now)) (command_of new.line) h
          (g.lines ∙ append_assoc h.before (new.line ∷ []) (lines_within new.most (new.ahead ++ left_now))) refl bad
      | too_long t long ↦ bad_line knots text now number old left t.line t.others (Err grammar.TooLong) h t.lines (too_long-command t.line t.long) tt
    ]

source_failed : (knots : ℕ) (text : List ℕ) (now : Lines) (number : ℕ) (old new : LinesState) (left : Option (List ℕ)) (left_now : List ℕ) →
    (h : Configured knots text now number old left) → TakesPart old (old.ahead ++ h.left_is) new left_now → EndsInConfig knots text (Some left_now)
source_failed knots text now number old new left left_now h part =
    let g : Given most_bytes text h.before false old.most (old.ahead ++ h.left_is) = subst (λ b. Given most_bytes text h.before b old.most (old.ahead ++ h.left_is)) part.open_before h.reading in
    let t = given-taken most_bytes text h.before old.most (old.ahead ++ h.left_is) new.ahead left_now g part.split part.one part.fits part.short in
    record {
      taken = t.taken;
      within = t.within;
      few = t.few;
      short = t.short;
      left = ap Some (sym t.left_is);
      unended = subst (λ ls. IsUnended (start_of knots ls)) (sym t.whole) (unended knots h.before now h.configures);
    }

too_many : (knots : ℕ) (text : List ℕ) (now : Lines) (number : ℕ) (old new : LinesState) (left : Option (List ℕ)) (more : List ℕ) →
    (h : Configured knots text now number old left) → TakesPart old (old.ahead ++ h.left_is) new more → length new.ahead ≡ old.most → 0 < length more →
    (most_bytes < length text) × IsUnended (start_of knots (lines_read text))
too_many knots text now number old new left more h part full some =
    let g : Given most_bytes text h.before false old.most (old.ahead ++ h.left_is) = subst (λ b. Given most_bytes text h.before b old.most (old.ahead ++ h.left_is)) part.open_before h.reading in
    let t = given-most most_bytes text h.before old.most (old.ahead ++ h.left_is) new.ahead more g part.split part.one full part.short some in
    (t.1, subst (λ ls. IsUnended (start_of knots ls)) (sym t.0) (unended knots h.before now h.configures))

ends-cases : (knots : ℕ) (text : List ℕ) (now : Lines) (number : ℕ) (old new : LinesState) (left : Option (List ℕ)) (left_now : List ℕ) (given : Result Bool LinesFault) (status : Status) →
    (h : Configured knots text now number old left) → Gives old (old.ahead ++ h.left_is) given new left_now → TakesAhead old (old.ahead ++ h.left_is) given left_now → EndsThere given new.line number (IsRefused (command_of new.line)) status →
    EndsBegin knots text (Some left_now) status
ends-cases knots text now number old new left left_now (Ok true) (Line n) h gives takes e =
    (refused_line knots text now number old new left left_now h gives e.1 ∙ ap (λ m. BadLine m) (sym e.0), subst (λ m. TakesLine text m (Some left_now)) (sym e.0) (line-takes knots text now number old left left_now h takes))
ends-cases knots text now number old new left left_now (Ok true) status h gives takes e = absurd e
ends-cases knots text now number old new left left_now (Ok false) status h gives takes e = absurd e
ends-cases knots text now number old new left left_now (Err Failed) ScriptRead h gives takes e = source_failed knots text now number old new left left_now h gives
ends-cases knots text now number old new left left_now (Err Failed) status h gives takes e = absurd e
ends-cases knots text now number old new left left_now (Err Long) ScriptLong h gives takes e =
    let many = too_many knots text now number old new left gives.0 h gives.1 gives.2 gives.3 in
    (many.0, many.1, given-over most_bytes text h.before old h.left_is left_now h.reading gives.1.open_before takes)
ends-cases knots text now number old new left left_now (Err Long) status h gives takes e = absurd e

-- the script ends before the configuration does
pub ends-begin : (knots : ℕ) (text : List ℕ) (now : Lines) (number : ℕ) (old new : LinesState) (left left_now : Option (List ℕ)) (f f_now : ℕ) (room : List ℕ) (status : Status) →
    Configured knots text now number old left → NextCommand old left f number (Err status) room new left_now f_now → EndsBegin knots text left_now status
ends-begin knots text now number old new left left_now f f_now room status h n =
    let g = n.advances.gives h.left_is h.left_told h.reading.ended in
    subst (λ l. EndsBegin knots text l status) (sym g.1) (ends-cases knots text now number old new left g.0 n.given status h g.2 g.3 n.next)

-- a line of the configuration is refused
pub ends-refused : (knots : ℕ) (text : List ℕ) (now : Lines) (number n : ℕ) (old new : LinesState) (left left_now : Option (List ℕ)) (f f_now : ℕ) (c : code.Command) (room : List ℕ) →
    Configured knots text now number old left → NextCommand old left f number (Ok (Some c)) room new left_now f_now → Refuses now (command_view c room) → n ≡ number →
    (start_in knots text ≡ BadConfig n) × TakesBegin knots text left_now
ends-refused knots text now number n old new left left_now f f_now c room h next bad e =
    let g = given-command knots text now number old new left left_now f f_now c room h next in
    let others = lines_within new.most (new.ahead ++ g.0) in (
      start-bad_config knots text n
          (ap (start_of knots) (g.2.lines ∙ append_assoc h.before (new.line ∷ []) others)
          ∙ (configures-line knots h.before now new.line others (Ok (command_view c room)) h.configures next.next.1.reads
          ∙ (bad knots (length h.before + 1) new.line others (λ x. start_from knots (length h.before + 1 + 1) x others)
          ∙ ap (λ m. BadConfig m) (sym (e ∙ h.numbered))))),
      begin-takes knots text now number old new left left_now f f_now c room h next,
    )

-- what was taken with the command that ended the configuration
pub command-takes : (knots : ℕ) (text : List ℕ) (now : Lines) (number : ℕ) (state : LinesState) (left_now : Option (List ℕ)) → AtCommand knots text now number state left_now → TakesBegin knots text left_now
command-takes knots text now number state left_now a = record {
  before = a.before;
  others = state.line ∷ lines_within state.most (state.ahead ++ a.left);
  split = a.given.lines ∙ append_assoc a.before (state.line ∷ []) (lines_within state.most (state.ahead ++ a.left));
  unended = a.unended;
  few = a.few;
}

-- the configuration is incomplete where a command ends it, and where the script does
pub ends-incomplete : (knots : ℕ) (text : List ℕ) (now : Lines) (number : ℕ) (state : LinesState) (left_now : Option (List ℕ)) → AtCommand knots text now number state left_now → whole knots now ≡ None → (start_in knots text ≡ BadConfig 0) × TakesBegin knots text left_now
ends-incomplete knots text now number state left_now a none =
    let others = lines_within state.most (state.ahead ++ a.left) in (
      start-bad_config knots text 0
          (ap (start_of knots) (a.given.lines ∙ append_assoc a.before (state.line ∷ []) others)
          ∙ (a.starts others ∙ ap (λ w. start_with w number (state.line ∷ others)) none)),
      command-takes knots text now number state left_now a,
    )

pub ends-empty : (knots : ℕ) (text : List ℕ) (now : Lines) (number : ℕ) (left_now : Option (List ℕ)) → AtEnd knots text now number left_now → whole knots now ≡ None → (start_in knots text ≡ BadConfig 0) × TakesBegin knots text left_now
ends-empty knots text now number left_now a none = (
  ap (λ b. if b then start_of knots (lines_read text) else ended (start_of knots (lines_read text))) (le-ltb most_bytes (length text) a.short)
      ∙ ap ended (a.starts ∙ ap (λ w. Unended w number) none),
  a.takes,
)

-- how reading ends where the configuration does
pub finish-begins : (r : Result Begun Status) (first : Option code.Command) (number : ℕ) (P : Type 0) (Q : ℕ → List ℕ → Type 0) (now : Lines) (state : LinesState) (left : Option (List ℕ)) →
    IfOk r (λ b. (b ≡ record { first = first; number = number }) × P) → ((knots : ℕ) (text : List ℕ) → Q knots text → BeginsAt knots text now first number state left) →
    IfOk r (λ b. (knots : ℕ) (text : List ℕ) → Q knots text → BeginsAt knots text now b.first b.number state left)
finish-begins (Ok b) first number P Q now state left h f =
    subst (λ (x : Begun). (knots : ℕ) (text : List ℕ) → Q knots text → BeginsAt knots text now x.first x.number state left) (sym h.0) f
finish-begins (Err e) first number P Q now state left h f = tt

pub finish-holds : (r : Result Begun Status) (first : Option code.Command) (number : ℕ) (P : Type 0) (room : List ℕ) (state : LinesState) →
    IfOk r (λ b. (b ≡ record { first = first; number = number }) × P) → HoldsFirst first number room state → IfOk r (λ b. HoldsFirst b.first b.number room state)
finish-holds (Ok b) first number P room state h holds = subst (λ (x : Begun). HoldsFirst x.first x.number room state) (sym h.0) holds
finish-holds (Err e) first number P room state h holds = tt

pub finish-ends : (r : Result Begun Status) (N : Type 0) (Q : ℕ → List ℕ → Type 0) (left : Option (List ℕ)) →
    IfErr r (λ status. (status ≡ BadConfiguration 0) × N) → (N → (knots : ℕ) (text : List ℕ) → Q knots text → (start_in knots text ≡ BadConfig 0) × TakesBegin knots text left) →
    IfErr r (λ status. (knots : ℕ) (text : List ℕ) → Q knots text → EndsBegin knots text left status)
finish-ends (Ok b) N Q left h f = tt
finish-ends (Err status) N Q left h f =
    subst (λ (x : Status). (knots : ℕ) (text : List ℕ) → Q knots text → EndsBegin knots text left x) (sym h.0) (f h.1)

-- a line of the configuration ends the reading
pub configure-ends : (knots : ℕ) (text : List ℕ) (now next : Lines) (number : ℕ) (old new : LinesState) (left left_now : Option (List ℕ)) (f f_now : ℕ) (c : code.Command) (room : List ℕ) (status : Status) →
    Configured knots text now number old left → NextCommand old left f number (Ok (Some c)) room new left_now f_now → ConfiguresBy now (command_view c room) number (Err status) next →
    EndsBegin knots text left_now status
configure-ends knots text now next number old new left left_now f f_now c room (BadConfiguration n) h nx e =
    ends-refused knots text now number n old new left left_now f f_now c room h nx e.1 e.0
configure-ends knots text now next number old new left left_now f f_now c room status h nx e = absurd e

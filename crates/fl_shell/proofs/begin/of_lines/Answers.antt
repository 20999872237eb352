use Rattle.std.proofs.Common.{◌≡◌, ◌∙◌, IsTrue, Ok, Err, true, false, refl, sym, ap, le_trans, subst, rules}
use Rattle.std.proofs.Math.Nat.{le_refl}
use Rattle.std.proofs.lemmas.Bool.{false≢true}
use Rattle.fl_base.specs.declared.stream.SinkFailed.{SinkFailed}
use Rattle.fl_base.proofs.Risen.{rose-back}
use Rattle.fl_words.specs.Grammar.{lines_of}
use Rattle.fl_config.specs.Whole.{is_whole}
use Rattle.fl_shell.specs.Begin.{Ends, LeadsBy, step_of}
use Rattle.fl_shell.specs.Statuses.{IsOfLines}
use Rattle.fl_shell.specs.Leading.{LeadsAs, TakesBy}
use Rattle.fl_shell.specs.declared.begin.Step as code
use Rattle.fl_shell.specs.Reading.{AsksNext, rest_in}
use Rattle.fl_shell.proofs.FailedReads.{fewer-left, ok-err, reading-lines, reading-rose, reading-write, same-err, unconfigured-read, unconfigured-write, written-read}
use Rattle.fl_shell.proofs.LeadingLines.{LedSoFar, LedToLine, led-first, led-next, led-more, led-into, led-ends, led-ended, led-unended, led-failed}
use Rattle.fl_shell.proofs.begin.of_lines.Goals as goal

pub lines-init : goal.lines-init
lines-init g c = record {
  source_later = le_refl _;
  sink_later = le_refl _;
  fewer = le_refl _;
  led = λ left total told within.
      subst (λ made. LedSoFar (lines_of (rest_in c.args.lines.now left)) total made c.args.lines.now (g.S.Source.left c.args.input.now) (g.K.Sink.written c.args.out.now) (g.K.Sink.written c.args.out.now)) (sym c.new-config.ensures)
      (led-first total c.args.lines.now (g.S.Source.left c.args.input.now) (g.K.Sink.written c.args.out.now) left told within);
}

pub returns-in-Err-clause-leads : goal.returns-in-Err-clause-leads
returns-in-Err-clause-leads g c = λ left total told within.
    let S = g.S.Source in
    let K = g.K.Sink in
    let n = c.next_line.new in
    let all = lines_of (rest_in c.args.lines.now left) in
    subst (λ status. LeadsAs all total (Err status) n.lines (S.left n.input) (K.written c.args.out.now) (K.written c.lines.out)) (sym c.status_of.ensures)
    (led-failed all total c.lines.config c.lines.lines n.lines (S.left c.lines.input) (S.left n.input) (K.written c.args.out.now) (K.written c.lines.out) (S.faults c.lines.input) (S.faults n.input) c.in-Err.fault (c.lines.invariant.led left total told within) c.in-Err.ensures)

pub returns-in-Ok-false-clause-leads : goal.returns-in-Ok-false-clause-leads
returns-in-Ok-false-clause-leads g c = λ left total told within.
    let S = g.S.Source in
    let K = g.K.Sink in
    let n = c.next_line.new in
    let all = lines_of (rest_in c.args.lines.now left) in
    let given : c.in-Ok-false.field-0 ≡ false = c.in-Ok-false.field-0-test in
    let asks : AsksNext c.lines.lines (S.left c.lines.input) (S.faults c.lines.input) (Ok false) n.lines (S.left n.input) (S.faults n.input) =
    subst (λ b. AsksNext c.lines.lines (S.left c.lines.input) (S.faults c.lines.input) (Ok b) n.lines (S.left n.input) (S.faults n.input)) given c.in-Ok-false.ensures in
    led-ended all total _ c.lines.lines n.lines (S.left c.lines.input) (S.left n.input) (K.written c.args.out.now) (K.written c.lines.out) (S.faults c.lines.input) (S.faults n.input) refl (c.lines.invariant.led left total told within) asks

pub returns-in-Ok-false-2-clause-leads : goal.returns-in-Ok-false-2-clause-leads
returns-in-Ok-false-2-clause-leads g c = λ left total told within.
    let S = g.S.Source in
    let K = g.K.Sink in
    let n = c.next_line.new in
    let all = lines_of (rest_in c.args.lines.now left) in
    let given : c.in-Ok-false-2.field-0 ≡ false = search rules in
    let asks : AsksNext c.lines.lines (S.left c.lines.input) (S.faults c.lines.input) (Ok false) n.lines (S.left n.input) (S.faults n.input) =
    subst (λ r. AsksNext c.lines.lines (S.left c.lines.input) (S.faults c.lines.input) r n.lines (S.left n.input) (S.faults n.input)) (c.in-Ok-false-2.is ∙ ap Ok given) c.next_line.ensures in
    led-unended all total c.lines.config c.lines.lines n.lines (S.left c.lines.input) (S.left n.input) (K.written c.args.out.now) (K.written c.lines.out) (S.faults c.lines.input) (S.faults n.input)
    (λ w. false≢true (sym c.if-is_complete.false ∙ (c.is_complete.ensures.exact ∙ w))) (c.lines.invariant.led left total told within) asks

pub lines-preserved : goal.lines-preserved
lines-preserved g c =
    let S = g.S.Source in
    let K = g.K.Sink in
    let n = c.next_line.new in
    let x = c.take_line.new in
    let given : c.in-Ok-true.field-0 ≡ true = c.in-Ok-true.field-0-test in
    let asks : AsksNext c.lines.lines (S.left c.lines.input) (S.faults c.lines.input) (Ok true) n.lines (S.left n.input) (S.faults n.input) =
    subst (λ b. AsksNext c.lines.lines (S.left c.lines.input) (S.faults c.lines.input) (Ok b) n.lines (S.left n.input) (S.faults n.input)) given c.in-Ok-true.ensures in
    let on : c.in-Ok-GoesOn.field-0 ≡ code.TheVariants.GoesOn = c.in-Ok-GoesOn.field-0-is in
    let takes : LeadsBy {E = SinkFailed} c.lines.config (step_of c.lines.config c.line.result.now) x.config (K.written c.lines.out) (K.written x.out) (Ok tt) =
    subst (λ s. TakesBy {E = SinkFailed} c.lines.config (step_of c.lines.config c.line.result.now) (Ok s) x.config (K.written c.lines.out) (K.written x.out)) on c.in-Ok-GoesOn.ensures.takes in
    record {
      source_later = le_trans c.lines.invariant.source_later asks.later;
      sink_later = le_trans c.lines.invariant.sink_later c.take_line.ensures.cause.later;
      fewer = fewer-left _ _ _ (asks.shrinks refl) c.lines.invariant.fewer;
      led = λ left total told within.
          let all = lines_of (rest_in c.args.lines.now left) in
          let to_line = led-next all total c.lines.config c.lines.lines n.lines (S.left c.lines.input) (S.left n.input) (K.written c.args.out.now) (K.written c.lines.out) (S.faults c.lines.input) (S.faults n.input) (c.lines.invariant.led left total told within) asks in
          led-more SinkFailed all total c.lines.config x.config n.lines (S.left n.input) (K.written c.args.out.now) (K.written c.lines.out) (K.written x.out) to_line
          (subst (λ line. LeadsBy {E = SinkFailed} c.lines.config (step_of c.lines.config line) x.config (K.written c.lines.out) (K.written x.out) (Ok tt)) c.line.ensures takes);
    }

pub returns-in-Ok-Ends-clause-leads : goal.returns-in-Ok-Ends-clause-leads
returns-in-Ok-Ends-clause-leads g c = λ left total told within.
    let S = g.S.Source in
    let K = g.K.Sink in
    let n = c.next_line.new in
    let x = c.take_line.new in
    let all = lines_of (rest_in c.args.lines.now left) in
    let given : c.in-Ok-true.field-0 ≡ true = c.in-Ok-true.field-0-test in
    let asks : AsksNext c.lines.lines (S.left c.lines.input) (S.faults c.lines.input) (Ok true) n.lines (S.left n.input) (S.faults n.input) =
    subst (λ b. AsksNext c.lines.lines (S.left c.lines.input) (S.faults c.lines.input) (Ok b) n.lines (S.left n.input) (S.faults n.input)) given c.in-Ok-true.ensures in
    let over : c.in-Ok-Ends.field-0 ≡ code.TheVariants.Ends = c.in-Ok-Ends.field-0-is in
    let takes : TakesBy {E = SinkFailed} c.lines.config (step_of c.lines.config c.line.result.now) (Ok code.TheVariants.Ends) x.config (K.written c.lines.out) (K.written x.out) =
    subst (λ s. TakesBy {E = SinkFailed} c.lines.config (step_of c.lines.config c.line.result.now) (Ok s) x.config (K.written c.lines.out) (K.written x.out)) over c.in-Ok-Ends.ensures.takes in
    let to_line = led-next all total c.lines.config c.lines.lines n.lines (S.left c.lines.input) (S.left n.input) (K.written c.args.out.now) (K.written c.lines.out) (S.faults c.lines.input) (S.faults n.input) (c.lines.invariant.led left total told within) asks in
    led-ends all total _ n.lines (S.left n.input) (K.written c.args.out.now) (K.written c.lines.out) (K.written x.out) refl (subst (λ made. LedToLine all total made n.lines (S.left n.input) (K.written c.args.out.now) (K.written c.lines.out)) (sym takes.2) to_line)
    (subst (λ made. step_of made n.lines.line ≡ Ends) (sym takes.2) (subst (λ line. step_of c.lines.config line ≡ Ends) c.line.ensures takes.0)) (subst (λ made. IsTrue (is_whole made)) (sym takes.2) takes.1) takes.3

pub returns-in-Err-take_line-clause-leads : goal.returns-in-Err-take_line-clause-leads
returns-in-Err-take_line-clause-leads g c = λ left total told within.
    let S = g.S.Source in
    let K = g.K.Sink in
    let n = c.next_line.new in
    let x = c.take_line.new in
    let all = lines_of (rest_in c.args.lines.now left) in
    let given : c.in-Ok-true.field-0 ≡ true = c.in-Ok-true.field-0-test in
    let asks : AsksNext c.lines.lines (S.left c.lines.input) (S.faults c.lines.input) (Ok true) n.lines (S.left n.input) (S.faults n.input) =
    subst (λ b. AsksNext c.lines.lines (S.left c.lines.input) (S.faults c.lines.input) (Ok b) n.lines (S.left n.input) (S.faults n.input)) given c.in-Ok-true.ensures in
    let to_line = led-next all total c.lines.config c.lines.lines n.lines (S.left c.lines.input) (S.left n.input) (K.written c.args.out.now) (K.written c.lines.out) (S.faults c.lines.input) (S.faults n.input) (c.lines.invariant.led left total told within) asks in
    led-into {E = SinkFailed} all total c.lines.config x.config n.lines n.lines (S.left n.input) (S.left n.input) (K.written c.args.out.now) (K.written c.lines.out) (K.written x.out) c.in-Err-take_line.field-0 to_line
    (subst (λ line. LeadsBy {E = SinkFailed} c.lines.config (step_of c.lines.config line) x.config (K.written c.lines.out) (K.written x.out) (Err c.in-Err-take_line.field-0)) c.line.ensures c.in-Err-take_line.ensures.takes)

-- ---- the input ended behind a whole configuration

pub returns-in-Ok-false-clause-fewer : goal.returns-in-Ok-false-clause-fewer
returns-in-Ok-false-clause-fewer g c = λ more. absurd (more refl)

pub returns-in-Ok-false-clause-whole : goal.returns-in-Ok-false-clause-whole
returns-in-Ok-false-clause-whole g c = sym c.is_complete.ensures.exact ∙ c.if-is_complete.true

pub returns-in-Ok-false-clause-statuses : goal.returns-in-Ok-false-clause-statuses
returns-in-Ok-false-clause-statuses g c = tt

pub returns-in-Ok-false-clause-read : goal.returns-in-Ok-false-clause-read
returns-in-Ok-false-clause-read g c = λ e. absurd (ok-err _ _ e)

pub returns-in-Ok-false-clause-write : goal.returns-in-Ok-false-clause-write
returns-in-Ok-false-clause-write g c = λ e. absurd (ok-err _ _ e)

pub returns-in-Ok-false-clause-later : goal.returns-in-Ok-false-clause-later
returns-in-Ok-false-clause-later g c = (le_trans c.lines.invariant.source_later c.next_line.ensures.later, c.lines.invariant.sink_later)

-- .. or before it was whole

pub returns-in-Ok-false-2-clause-fewer : goal.returns-in-Ok-false-2-clause-fewer
returns-in-Ok-false-2-clause-fewer g c = tt

pub returns-in-Ok-false-2-clause-whole : goal.returns-in-Ok-false-2-clause-whole
returns-in-Ok-false-2-clause-whole g c = tt

pub returns-in-Ok-false-2-clause-statuses : goal.returns-in-Ok-false-2-clause-statuses
returns-in-Ok-false-2-clause-statuses g c = tt

pub returns-in-Ok-false-2-clause-read : goal.returns-in-Ok-false-2-clause-read
returns-in-Ok-false-2-clause-read g c = λ e. absurd (unconfigured-read (same-err _ _ _ refl e))

pub returns-in-Ok-false-2-clause-write : goal.returns-in-Ok-false-2-clause-write
returns-in-Ok-false-2-clause-write g c = λ e. absurd (unconfigured-write (same-err _ _ _ refl e))

pub returns-in-Ok-false-2-clause-later : goal.returns-in-Ok-false-2-clause-later
returns-in-Ok-false-2-clause-later g c = (le_trans c.lines.invariant.source_later c.next_line.ensures.later, c.lines.invariant.sink_later)

-- .. or no line is read

pub returns-in-Err-clause-fewer : goal.returns-in-Err-clause-fewer
returns-in-Err-clause-fewer g c = tt

pub returns-in-Err-clause-whole : goal.returns-in-Err-clause-whole
returns-in-Err-clause-whole g c = tt

pub returns-in-Err-clause-statuses : goal.returns-in-Err-clause-statuses
returns-in-Err-clause-statuses g c = subst IsOfLines (sym c.status_of.ensures) (reading-lines c.in-Err.fault)

pub returns-in-Err-clause-read : goal.returns-in-Err-clause-read
returns-in-Err-clause-read g c = λ e.
    reading-rose c.in-Err.fault c.status_of.result _ _ _ c.status_of.ensures c.lines.invariant.source_later (λ is. c.in-Err.ensures.failed (ap Err is)) (same-err _ _ _ refl e)

pub returns-in-Err-clause-write : goal.returns-in-Err-clause-write
returns-in-Err-clause-write g c = λ e. absurd (reading-write c.in-Err.fault c.status_of.result c.status_of.ensures (same-err _ _ _ refl e))

pub returns-in-Err-clause-later : goal.returns-in-Err-clause-later
returns-in-Err-clause-later g c = (le_trans c.lines.invariant.source_later c.next_line.ensures.later, c.lines.invariant.sink_later)

-- ---- a line ends the configuration

pub returns-in-Ok-Ends-clause-fewer : goal.returns-in-Ok-Ends-clause-fewer
returns-in-Ok-Ends-clause-fewer g c = λ more. fewer-left _ _ _ (c.in-Ok-true.ensures.shrinks (ap Ok c.in-Ok-true.field-0-test)) c.lines.invariant.fewer

pub returns-in-Ok-Ends-clause-whole : goal.returns-in-Ok-Ends-clause-whole
returns-in-Ok-Ends-clause-whole g c =
    let K = g.K.Sink in
    let x = c.take_line.new in
    let takes : TakesBy {E = SinkFailed} c.lines.config (step_of c.lines.config c.line.result.now) (Ok code.TheVariants.Ends) x.config (K.written c.lines.out) (K.written x.out) =
    subst (λ s. TakesBy {E = SinkFailed} c.lines.config (step_of c.lines.config c.line.result.now) (Ok s) x.config (K.written c.lines.out) (K.written x.out)) c.in-Ok-Ends.field-0-is c.in-Ok-Ends.ensures.takes in
    subst (λ made. IsTrue (is_whole made)) (sym takes.2) takes.1

pub returns-in-Ok-Ends-clause-statuses : goal.returns-in-Ok-Ends-clause-statuses
returns-in-Ok-Ends-clause-statuses g c = tt

pub returns-in-Ok-Ends-clause-read : goal.returns-in-Ok-Ends-clause-read
returns-in-Ok-Ends-clause-read g c = λ e. absurd (ok-err _ _ e)

pub returns-in-Ok-Ends-clause-write : goal.returns-in-Ok-Ends-clause-write
returns-in-Ok-Ends-clause-write g c = λ e. absurd (ok-err _ _ e)

pub returns-in-Ok-Ends-clause-later : goal.returns-in-Ok-Ends-clause-later
returns-in-Ok-Ends-clause-later g c = (le_trans c.lines.invariant.source_later c.next_line.ensures.later, le_trans c.lines.invariant.sink_later c.take_line.ensures.cause.later)

-- .. or its answer isn't written

pub returns-in-Err-take_line-clause-fewer : goal.returns-in-Err-take_line-clause-fewer
returns-in-Err-take_line-clause-fewer g c = tt

pub returns-in-Err-take_line-clause-whole : goal.returns-in-Err-take_line-clause-whole
returns-in-Err-take_line-clause-whole g c = tt

pub returns-in-Err-take_line-clause-statuses : goal.returns-in-Err-take_line-clause-statuses
returns-in-Err-take_line-clause-statuses g c = tt

pub returns-in-Err-take_line-clause-read : goal.returns-in-Err-take_line-clause-read
returns-in-Err-take_line-clause-read g c = λ e. absurd (written-read (same-err _ _ _ refl e))

pub returns-in-Err-take_line-clause-write : goal.returns-in-Err-take_line-clause-write
returns-in-Err-take_line-clause-write g c = λ e. rose-back _ _ _ c.lines.invariant.sink_later c.in-Err-take_line.ensures.cause.failed

pub returns-in-Err-take_line-clause-later : goal.returns-in-Err-take_line-clause-later
returns-in-Err-take_line-clause-later g c = (le_trans c.lines.invariant.source_later c.next_line.ensures.later, le_trans c.lines.invariant.sink_later c.take_line.ensures.cause.later)

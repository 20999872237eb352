use Rattle.std.proofs.Common.{arith, le_trans, sym, subst}
use Rattle.std.proofs.lemmas.Result.{IfErr-weaker, IfOk-weaker}
use Rattle.fl_base.proofs.Risen.{rose-back}
use Rattle.fl_script.specs.CommandView.{command_view}
use Rattle.fl_session.specs.Begin.{IsOfScript}
use Rattle.fl_session.proofs.ConfigLines.{configured-first, configured-more, at-command, at-end, ends-begin, ends-incomplete, ends-empty, configure-ends, finish-begins, finish-ends, finish-holds}
use Rattle.fl_session.proofs.FailedReads.{config-read, configure-read, configure-script, numbered-on, read-failed, read-script}
use Rattle.fl_session.proofs.begin.read_config.Goals as goal

pub lines-init : goal.lines-init
lines-init g c = record {
  numbered = omega (arith, c.requires.fresh.most);
  later = omega arith;
  configured = λ knots text told. configured-first knots text _ _ _ c.requires.first c.requires.fresh told;
}

pub returns-in-Ok-false-clause-begins : goal.returns-in-Ok-false-clause-begins
returns-in-Ok-false-clause-begins g c =
    let n = rw c.in-Ok-Some.field-0-is at c.in-Ok-Some.ensures in
    let e = rw c.in-Ok-false.field-0-test at c.in-Ok-false.ensures in
    finish-begins _ _ _ _ _ _ _ _ c.finish.ensures.ok
    (λ knots text told. at-command knots text _ _ _ _ _ _ _ _ _ _ _ (c.lines.invariant.configured knots text told) n e)

pub returns-in-Ok-false-clause-ends : goal.returns-in-Ok-false-clause-ends
returns-in-Ok-false-clause-ends g c =
    let n = rw c.in-Ok-Some.field-0-is at c.in-Ok-Some.ensures in
    let e = rw c.in-Ok-false.field-0-test at c.in-Ok-false.ensures in
    finish-ends _ _ _ _ c.finish.ensures.incomplete
    (λ none knots text told. ends-incomplete knots text _ _ _ _ (at-command knots text _ _ _ _ _ _ _ _ _ _ _ (c.lines.invariant.configured knots text told) n e) (none knots))

pub returns-in-Err-configure-clause-ends : goal.returns-in-Err-configure-clause-ends
returns-in-Err-configure-clause-ends g c = λ knots text told.
    let n = rw c.in-Ok-Some.field-0-is at c.in-Ok-Some.ensures in
    configure-ends knots text _ _ _ _ _ _ _ _ _ _ _ c.in-Err-configure.status (c.lines.invariant.configured knots text told) n c.in-Err-configure.ensures

pub returns-in-Ok-None-clause-begins : goal.returns-in-Ok-None-clause-begins
returns-in-Ok-None-clause-begins g c =
    let n = rw c.in-Ok-None.field-0-is at c.in-Ok-None.ensures in
    finish-begins _ _ _ _ _ _ _ _ c.finish-in-Ok-None.ensures.ok
    (λ knots text told. at-end knots text _ _ _ _ _ _ _ _ _ (c.lines.invariant.configured knots text told) n)

pub returns-in-Ok-None-clause-ends : goal.returns-in-Ok-None-clause-ends
returns-in-Ok-None-clause-ends g c =
    let n = rw c.in-Ok-None.field-0-is at c.in-Ok-None.ensures in
    finish-ends _ _ _ _ c.finish-in-Ok-None.ensures.incomplete
    (λ none knots text told. ends-empty knots text _ _ _ (at-end knots text _ _ _ _ _ _ _ _ _ (c.lines.invariant.configured knots text told) n) (none knots))

pub returns-in-Err-clause-ends : goal.returns-in-Err-clause-ends
returns-in-Err-clause-ends g c = λ knots text told.
    ends-begin knots text _ _ _ _ _ _ _ _ _ c.in-Err.status (c.lines.invariant.configured knots text told) c.in-Err.ensures

pub lines-preserved : goal.lines-preserved
lines-preserved g c =
    let n = rw c.in-Ok-Some.field-0-is at c.in-Ok-Some.ensures in
    let e = rw c.in-Ok-true.field-0-test at c.in-Ok-true.ensures in
    let shrinks = n.advances.shrinks n.next.0 in
    record {
      numbered = omega (arith, c.lines.invariant.numbered, shrinks);
      later = le_trans c.lines.invariant.later n.advances.later;
      configured = λ knots text told. configured-more knots text _ _ _ _ _ _ _ _ _ _ _ (c.lines.invariant.configured knots text told) n e;
    }

pub configure-requires : goal.configure-requires
configure-requires g c = let n = rw c.in-Ok-Some.field-0-is at c.in-Ok-Some.ensures in n.next.1.within

pub overflow_add-number : goal.overflow_add-number
overflow_add-number g c = omega (arith, c.lines.invariant.numbered)

-- ---- the configuration ended

pub returns-in-Ok-false-clause-whole : goal.returns-in-Ok-false-clause-whole
returns-in-Ok-false-clause-whole g c = IfOk-weaker c.finish.result _ _ (λ b h. h.1) c.finish.ensures.ok

pub returns-in-Ok-false-clause-in_hand : goal.returns-in-Ok-false-clause-in_hand
returns-in-Ok-false-clause-in_hand g c =
    let n = rw c.in-Ok-Some.field-0-is at c.in-Ok-Some.ensures in
    let e = rw c.in-Ok-false.field-0-test at c.in-Ok-false.ensures in
    finish-holds c.finish.result _ c.lines.number _ _ _ c.finish.ensures.ok
    (record { reads = n.next.1.reads; runnable = e.runnable }, numbered-on c.lines.number _ _ c.lines.invariant.numbered (n.advances.shrinks n.next.0))

pub returns-in-Ok-false-clause-read : goal.returns-in-Ok-false-clause-read
returns-in-Ok-false-clause-read g c = IfErr-weaker c.finish.result _ _ (λ status h e. absurd (config-read 0 status h.0 e)) c.finish.ensures.incomplete

pub returns-in-Ok-false-clause-statuses : goal.returns-in-Ok-false-clause-statuses
returns-in-Ok-false-clause-statuses g c = IfErr-weaker c.finish.result _ _ (λ status h. subst IsOfScript (sym h.0) tt) c.finish.ensures.incomplete

pub returns-in-Ok-false-clause-later : goal.returns-in-Ok-false-clause-later
returns-in-Ok-false-clause-later g c = le_trans c.lines.invariant.later c.next_command.ensures.advances.later

pub returns-in-Ok-None-clause-whole : goal.returns-in-Ok-None-clause-whole
returns-in-Ok-None-clause-whole g c = IfOk-weaker c.finish-in-Ok-None.result _ _ (λ b h. h.1) c.finish-in-Ok-None.ensures.ok

pub returns-in-Ok-None-clause-in_hand : goal.returns-in-Ok-None-clause-in_hand
returns-in-Ok-None-clause-in_hand g c =
    finish-holds c.finish-in-Ok-None.result _ c.lines.number _ _ _ c.finish-in-Ok-None.ensures.ok tt

pub returns-in-Ok-None-clause-read : goal.returns-in-Ok-None-clause-read
returns-in-Ok-None-clause-read g c = IfErr-weaker c.finish-in-Ok-None.result _ _ (λ status h e. absurd (config-read 0 status h.0 e)) c.finish-in-Ok-None.ensures.incomplete

pub returns-in-Ok-None-clause-statuses : goal.returns-in-Ok-None-clause-statuses
returns-in-Ok-None-clause-statuses g c = IfErr-weaker c.finish-in-Ok-None.result _ _ (λ status h. subst IsOfScript (sym h.0) tt) c.finish-in-Ok-None.ensures.incomplete

pub returns-in-Ok-None-clause-later : goal.returns-in-Ok-None-clause-later
returns-in-Ok-None-clause-later g c = le_trans c.lines.invariant.later c.next_command.ensures.advances.later

-- ---- a line of it is refused

pub returns-in-Err-configure-clause-whole : goal.returns-in-Err-configure-clause-whole
returns-in-Err-configure-clause-whole g c = tt

pub returns-in-Err-configure-clause-in_hand : goal.returns-in-Err-configure-clause-in_hand
returns-in-Err-configure-clause-in_hand g c = tt

pub returns-in-Err-configure-clause-begins : goal.returns-in-Err-configure-clause-begins
returns-in-Err-configure-clause-begins g c = tt

pub returns-in-Err-configure-clause-read : goal.returns-in-Err-configure-clause-read
returns-in-Err-configure-clause-read g c = λ e. absurd (configure-read c.lines.config (command_view c.in-Ok-Some.command c.next_command.new.room) c.lines.number c.in-Err-configure.status c.configure.new.config c.in-Err-configure.ensures e)

pub returns-in-Err-configure-clause-statuses : goal.returns-in-Err-configure-clause-statuses
returns-in-Err-configure-clause-statuses g c = configure-script c.lines.config (command_view c.in-Ok-Some.command c.next_command.new.room) c.lines.number c.in-Err-configure.status c.configure.new.config c.in-Err-configure.ensures

pub returns-in-Err-configure-clause-later : goal.returns-in-Err-configure-clause-later
returns-in-Err-configure-clause-later g c = le_trans c.lines.invariant.later c.next_command.ensures.advances.later

-- .. or isn't read

pub returns-in-Err-clause-whole : goal.returns-in-Err-clause-whole
returns-in-Err-clause-whole g c = tt

pub returns-in-Err-clause-in_hand : goal.returns-in-Err-clause-in_hand
returns-in-Err-clause-in_hand g c = tt

pub returns-in-Err-clause-begins : goal.returns-in-Err-clause-begins
returns-in-Err-clause-begins g c = tt

pub returns-in-Err-clause-read : goal.returns-in-Err-clause-read
returns-in-Err-clause-read g c = λ e.
    let n = c.in-Err.ensures in
    rose-back _ _ _ c.lines.invariant.later (n.advances.failed (read-failed n.given _ _ _ c.in-Err.status n.next e))

pub returns-in-Err-clause-statuses : goal.returns-in-Err-clause-statuses
returns-in-Err-clause-statuses g c =
    let n = c.in-Err.ensures in
    read-script n.given _ _ _ c.in-Err.status n.next

pub returns-in-Err-clause-later : goal.returns-in-Err-clause-later
returns-in-Err-clause-later g c = le_trans c.lines.invariant.later c.in-Err.ensures.advances.later

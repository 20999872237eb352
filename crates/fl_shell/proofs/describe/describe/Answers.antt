use Rattle.std.proofs.Common.{◌<◌, ◌≤◌, Ok, Err, List, length, refl, sym, ◌∙◌, subst, take_all, le_trans, arith}
use Rattle.std.proofs.lemmas.Result.{err_from_is_err_and}
use Rattle.fl_base.specs.declared.stream.SinkFailed.{SinkFailed}
use Rattle.fl_frame.proofs.CallsInTurn.{goes-same, stays, stays-then}
use Rattle.fl_model.specs.Record.{Plan}
use Rattle.fl_image.proofs.Made.{made-by}
use Rattle.fl_shell.proofs.DescribedImage.{SentSoFar, sent-first, sent-more, sent-into, sent-all, device-failed}
use Rattle.fl_words.specs.Reply as reply
use Rattle.fl_words.specs.Reply.{text}
use Rattle.fl_shell.proofs.LookedState.{looks-same, looks-then, some-then}
use Rattle.fl_shell.proofs.describe.describe.Goals as goal

pub returns-in_err-write_all-clause-text : goal.returns-in_err-write_all-clause-text
returns-in_err-write_all-clause-text g c = λ configured m makes here.
    let p = err_from_is_err_and c.from_residual.result c.from_residual.ensures.1 in
    let device = (made-by c.args.config.now configured makes).device_is in
    rw p.1 (device-failed configured m _ _ c.bytes.result.now (g.K.Sink.written c.args.out.now) (g.K.Sink.written c.write_all.new.out) _ here (c.bytes.ensures.text ∙ c.device_line.ensures configured.geometry device) c.in_err-write_all.ensures.text)

pub returns-in_err-write_table-clause-text : goal.returns-in_err-write_table-clause-text
returns-in_err-write_table-clause-text g c = λ configured m makes here.
    let E = g.E.Executor in
    let p = err_from_is_err_and c.from_residual-in_err-write_table.result c.from_residual-in_err-write_table.ensures.1 in
    let within : c.tables.at < length c.args.config.now.plans = omega (arith, c.tables-at-end.ensures.exact) in
    let few : length c.args.config.now.plans ≤ 4 = omega (arith, c.tables-at-end.ensures.exact, c.tables-at-end.ensures.few) in
    let so_far = c.tables.invariant.sent configured m makes here in
    rw p.1 (sent-into configured m c.args.config.now.plans c.tables.at (E.stands c.tables.session configured) (E.stands c.write_table.new.session configured) (E.flash c.args.session.now) (E.flash c.tables.session) (E.flash c.write_table.new.session)
    (g.K.Sink.written c.args.out.now) (g.K.Sink.written c.tables.out) (g.K.Sink.written c.write_table.new.out) _ (sym (made-by c.args.config.now configured makes).plans_are) few within c.tables.invariant.goes.faults c.write_table.ensures.goes.faults
    so_far (c.in_err-write_table.ensures.text configured m so_far.looked.stays))

pub tables-init : goal.tables-init
tables-init g c = record {
  sound = c.requires.sound;
  goes = stays _ _ (goes-same _);
  later = c.in_ok-write_all.ensures.cause.later;
  looks = looks-same _;
  some = (c.bytes.result.now, c.in_ok-write_all.ensures.text);
  sent = λ configured m makes here.
      let device = (made-by c.args.config.now configured makes).device_is in
      sent-first configured m c.args.config.now.plans _ _ c.bytes.result.now (g.K.Sink.written c.args.out.now) (g.K.Sink.written c.write_all.new.out) here (c.bytes.ensures.text ∙ c.device_line.ensures configured.geometry device) c.in_ok-write_all.ensures.text;
}

pub tables-preserved : goal.tables-preserved
tables-preserved g c =
    let E = g.E.Executor in
    let within : c.tables.at < length c.args.config.now.plans = omega (arith, c.tables-at-end.ensures.exact) in
    record {
      sound = c.write_table.ensures.sound;
      goes = stays-then _ _ _ c.tables.invariant.goes c.write_table.ensures.goes;
      later = le_trans c.tables.invariant.later c.in_ok-write_table.ensures.cause.later;
      looks = looks-then _ _ _ c.tables.invariant.looks c.write_table.ensures.looks;
      some = some-then {E = SinkFailed} (g.K.Sink.written c.args.out.now) (g.K.Sink.written c.tables.out) (g.K.Sink.written c.write_table.new.out) (Ok tt) c.tables.invariant.some c.in_ok-write_table.ensures.told;
      sent = λ configured m makes here.
          let so_far = c.tables.invariant.sent configured m makes here in
          sent-more SinkFailed configured m c.args.config.now.plans c.tables.at (E.stands c.tables.session configured) (E.stands c.write_table.new.session configured) (E.flash c.args.session.now) (E.flash c.tables.session) (E.flash c.write_table.new.session)
          (g.K.Sink.written c.args.out.now) (g.K.Sink.written c.tables.out) (g.K.Sink.written c.write_table.new.out) within c.tables.invariant.goes.faults c.write_table.ensures.goes.faults
          so_far (c.in_ok-write_table.ensures.text configured m so_far.looked.stays);
    }

pub returns-clause-text : goal.returns-clause-text
returns-clause-text g c = λ configured m makes here.
    let E = g.E.Executor in
    let plans = c.args.config.now.plans in
    let few : length c.args.config.now.plans ≤ 4 = omega (arith, c.tables-at-end.ensures.exact, c.tables-at-end.ensures.few) in
    let so_far = subst (λ (ps : List Plan). SentSoFar configured m ps (E.stands c.tables.session configured) (E.flash c.args.session.now) (E.flash c.tables.session) (g.K.Sink.written c.args.out.now) (g.K.Sink.written c.tables.out))
    (take_all c.tables.at plans (omega (arith, c.tables-at-end.ensures.exact))) (c.tables.invariant.sent configured m makes here) in
    sent-all configured m plans c.tables-count.result (E.stands c.tables.session configured) (E.flash c.args.session.now) (E.flash c.tables.session) _ (g.K.Sink.written c.args.out.now) (g.K.Sink.written c.tables.out) (g.K.Sink.written c.write_reply.new.out) c.write_reply.result
    (sym (made-by c.args.config.now configured makes).plans_are) few c.tables-count.ensures.exact refl so_far c.write_reply.ensures.text

pub returns-in_err-write_all-clause-looks : goal.returns-in_err-write_all-clause-looks
returns-in_err-write_all-clause-looks g c = looks-same _

pub returns-in_err-write_table-clause-looks : goal.returns-in_err-write_table-clause-looks
returns-in_err-write_table-clause-looks g c = looks-then _ _ _ c.tables.invariant.looks c.write_table.ensures.looks

pub returns-clause-looks : goal.returns-clause-looks
returns-clause-looks g c = c.tables.invariant.looks

pub returns-in_err-write_all-clause-told : goal.returns-in_err-write_all-clause-told
returns-in_err-write_all-clause-told g c =
    let p = err_from_is_err_and c.from_residual.result c.from_residual.ensures.1 in
    rw p.1 (c.bytes.result.now, c.in_err-write_all.ensures.text)

pub returns-in_err-write_table-clause-told : goal.returns-in_err-write_table-clause-told
returns-in_err-write_table-clause-told g c =
    let p = err_from_is_err_and c.from_residual-in_err-write_table.result c.from_residual-in_err-write_table.ensures.1 in
    rw p.1 (some-then {E = SinkFailed} (g.K.Sink.written c.args.out.now) (g.K.Sink.written c.tables.out) (g.K.Sink.written c.write_table.new.out) (Err p.0) c.tables.invariant.some c.in_err-write_table.ensures.told)

pub returns-clause-told : goal.returns-clause-told
returns-clause-told g c =
    some-then {E = SinkFailed} (g.K.Sink.written c.args.out.now) (g.K.Sink.written c.tables.out) (g.K.Sink.written c.write_reply.new.out) c.write_reply.result c.tables.invariant.some (text (reply.EndCount c.tables-count.result), c.write_reply.ensures.text)

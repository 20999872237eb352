use Rattle.std.proofs.Common.{sym, ◌∙◌}
use Rattle.fl_script.proofs.SinkPieces.{written-err}
use Rattle.fl_session.proofs.LoadLines.{front-first, front-second}
use Rattle.fl_session.proofs.load.Loaded.write.Goals as goal

pub returns-in_err-write_reply-clause-text : goal.returns-in_err-write_reply-clause-text
returns-in_err-write_reply-clause-text g c =
    written-err _ _ c.from_residual.result _ c.from_residual.ensures.0 (front-first _ _ c.args.self.now.count c.args.self.now.outcome c.in_err-write_reply.ensures.text)

pub returns-in_err-write_reply-2-clause-text : goal.returns-in_err-write_reply-2-clause-text
returns-in_err-write_reply-2-clause-text g c =
    written-err _ _ c.from_residual-in_err-write_reply-2.result _ c.from_residual-in_err-write_reply-2.ensures.0
    (front-second _ _ _ c.args.self.now.count c.args.self.now.outcome _ (sym c.is_err.ensures.value ∙ c.if-is_err.true) c.put_reply.ensures c.in_ok-write_reply.ensures.text c.in_err-write_reply-2.ensures.text)

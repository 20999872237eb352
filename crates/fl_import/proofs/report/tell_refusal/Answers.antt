use Rattle.std.proofs.Common.{Err, ◌∙◌}
use Rattle.fl_store.specs.Replies.{put_reply}
use Rattle.fl_words.specs.Reply.{text}
use Rattle.fl_import.specs.Report.{number_text}
use Rattle.fl_import.proofs.OneLine.{told-behind, told-front}
use Rattle.fl_import.proofs.report.tell_refusal.Goals as goal

pub returns-in_err-write_all-clause-text : goal.returns-in_err-write_all-clause-text
returns-in_err-write_all-clause-text g c =
    told-front _ _ c.from_residual.result (number_text c.args.number) (text (put_reply (Err c.args.refusal))) _ c.from_residual.ensures.0 (c.bytes.ensures ∙ c.add_line_number.ensures.text) c.in_err-write_all.ensures.text

pub returns-clause-text : goal.returns-clause-text
returns-clause-text g c =
    told-behind _ _ _ c.write_reply.result (number_text c.args.number) (text (put_reply (Err c.args.refusal))) _ _ (c.bytes.ensures ∙ c.add_line_number.ensures.text) c.in_ok-write_all.ensures.text c.put_reply.ensures c.write_reply.ensures.text

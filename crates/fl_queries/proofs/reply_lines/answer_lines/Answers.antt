use Rattle.fl_frame.specs.Contents.{contents_of}
use Rattle.fl_queries.specs.Lines.{AreMade}
use Rattle.fl_queries.proofs.AnyLines.{given-as, list-ended}
use Rattle.fl_queries.proofs.CountedLines.{counted-listed}
use Rattle.fl_queries.proofs.reply_lines.answer_lines.Goals as goal

pub returns-clause-says : goal.returns-clause-says
returns-clause-says g c =
    list-ended (g.L.ReplyLines.made c.args.form c.args.lines.now c.list_lines-listed.new.lines) (g.L.ReplyLines.sound c.args.lines.now (contents_of (g.F.Flash.state c.args.flash.now))) (g.L.ReplyLines.passes c.args.lines.now (contents_of (g.F.Flash.state c.args.flash.now))) (g.F.Flash.state c.args.flash.now) (g.F.Flash.state c.list_lines-listed.new.flash) _ _ _ _ c.list_lines-listed.result c.list_lines-listed.ensures.sound
    (given-as (AreMade (g.L.ReplyLines.made c.args.form c.args.lines.now c.list_lines-listed.new.lines) (g.L.ReplyLines.told c.args.lines.now (contents_of (g.F.Flash.state c.args.flash.now))) (g.L.ReplyLines.lines c.args.lines.now c.args.form (contents_of (g.F.Flash.state c.args.flash.now)))) (g.L.ReplyLines.made c.args.form c.args.lines.now c.list_lines-listed.new.lines) _ _ _ _ c.list_lines-listed.result (λ lines h. h.made) c.list_lines-listed.ensures.lines) c.list_lines-listed.ensures.unread c.end_list.ensures.says

pub returns-clause-counted : goal.returns-clause-counted
returns-clause-counted g c = λ t few on.
    counted-listed (g.L.ReplyLines.made c.args.form c.args.lines.now c.list_lines-listed.new.lines) (g.L.ReplyLines.told c.args.lines.now (contents_of (g.F.Flash.state c.args.flash.now))) (g.L.ReplyLines.passes c.args.lines.now (contents_of (g.F.Flash.state c.args.flash.now))) (g.L.ReplyLines.lines c.args.lines.now c.args.form (contents_of (g.F.Flash.state c.args.flash.now))) (g.L.ReplyLines.most c.args.lines.now (contents_of (g.F.Flash.state c.args.flash.now))) (g.L.ReplyLines.least c.args.lines.now (contents_of (g.F.Flash.state c.args.flash.now))) _ (g.K.Sink.written c.list_lines-listed.new.out) _
    (g.F.Flash.state c.args.flash.now) (g.F.Flash.state c.list_lines-listed.new.flash) _ t on few c.list_lines-listed.result c.list_lines-listed.ensures.lines (c.list_lines-listed.ensures.whole t) (c.list_lines-listed.ensures.good t) (c.list_lines-listed.ensures.reads t) c.list_lines-listed.ensures.unread c.end_list.ensures.says

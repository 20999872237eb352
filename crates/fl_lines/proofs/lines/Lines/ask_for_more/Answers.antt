use Rattle.fl_base.specs.declared.stream.SourceFailed.{SourceFailed}
use Rattle.fl_lines.proofs.Pieces.{advances-over}
use Rattle.fl_lines.proofs.lines.Lines.ask_for_more.Goals as goal

pub returns-in-Ok-clause-advances : goal.returns-in-Ok-clause-advances
returns-in-Ok-clause-advances g c =
    advances-over SourceFailed _ _ _ _ _ c.in-Ok.field-0 c.read.new.into c.requires.most c.requires.one c.requires.short c.requires.is_open c.in-Ok.ensures.cause.later c.in-Ok.ensures.bytes c.in-Ok.ensures.count c.read.auto.into c.in-Ok.field-0-test.1

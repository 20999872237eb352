use Rattle.fl_command.proofs.NameText.{name-text}
use Rattle.fl_command.proofs.pending_line.text_of.Goals as goal

pub returns-in-Err : goal.returns-in-Err
returns-in-Err c = absurd (c.in-Err.ensures.cases.0 (name-text _ c.bytes.ensures.name))

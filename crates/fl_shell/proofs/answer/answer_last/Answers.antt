use Rattle.std.proofs.Common.{Some, None, Ok, Err}
use Rattle.fl_shell.proofs.answer.answer_last.Goals as goal

pub returns-in-Ok-Some-clause-told : goal.returns-in-Ok-Some-clause-told
returns-in-Ok-Some-clause-told g c = record { key = Ok (Some c.in-Ok-Some.key); tells = rw c.in-Ok-Some.field-0-is at c.in-Ok-Some.ensures.cause; written = c.write_key.ensures.text }

pub returns-in-Ok-None-clause-told : goal.returns-in-Ok-None-clause-told
returns-in-Ok-None-clause-told g c = record { key = Ok None; tells = rw c.in-Ok-None.field-0-is at c.in-Ok-None.ensures.cause; written = c.write_reply.ensures.text }

pub returns-in-Err-clause-told : goal.returns-in-Err-clause-told
returns-in-Err-clause-told g c = record { key = Err c.in-Err.refusal; tells = c.in-Err.ensures.cause; written = c.write_reply-in-Err.ensures.text }

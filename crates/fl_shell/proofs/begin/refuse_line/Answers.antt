use Rattle.std.proofs.Common.{subst}
use Rattle.fl_words.specs.Grammar.{command_of}
use Rattle.fl_reason.specs.Reason.{Explains}
use Rattle.fl_shell.proofs.LineAnswer.{no-fault}
use Rattle.fl_shell.proofs.begin.refuse_line.Goals as goal

pub returns-in-Some-clause-refuses : goal.returns-in-Some-clause-refuses
returns-in-Some-clause-refuses g c = λ fault is. c.refuse.ensures.text

pub returns-in-None-clause-refuses : goal.returns-in-None-clause-refuses
returns-in-None-clause-refuses g c = λ fault is. no-fault c.args.line.now fault (subst (λ r. Explains (command_of c.args.line.now) r) c.in-None.is c.line_reason.ensures) is

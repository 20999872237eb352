use Rattle.std.proofs.Common.{sym}
use Rattle.fl_shell.proofs.Header.{header-other}
use Rattle.fl_shell.proofs.begin.header_status.Goals as goal

pub returns-in_default : goal.returns-in_default
returns-in_default c = sym (header-other c.args.status c.in_default.not-NotImage)

use Rattle.fl_csv.proofs.BareLines.{bare-line}
use Rattle.fl_csv.proofs.bare_lines.Goals as goal

pub returns : goal.returns
returns c = bare-line

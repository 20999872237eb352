use Rattle.std.proofs.Common.{◌≡◌, Err, ap}
use Rattle.fl_ends.specs.declared.shell.ShellStatus.TheVariants.{NotImage}
use Rattle.fl_shell.proofs.Header.{header-causes, header-none}
use Rattle.fl_shell.proofs.begin.of_header.Goals as goal

pub returns-in-Err-clause-none : goal.returns-in-Err-clause-none
returns-in-Err-clause-none g c = λ e tells.
    let ends : c.header_status.result ≡ NotImage = cc in
    c.in-Err.ensures.none (ap Err (header-none c.in-Err.status c.header_status.result c.header_status.ensures ends)) tells

pub returns-in-Err-clause-statuses : goal.returns-in-Err-clause-statuses
returns-in-Err-clause-statuses g c =
    header-causes c.in-Err.status c.header_status.result (g.M.Media.state c.args.media.now).faults (g.M.Media.state c.config_of_image.new.media).faults c.header_status.ensures c.in-Err.ensures.statuses (λ e. c.in-Err.ensures.device (ap Err e))

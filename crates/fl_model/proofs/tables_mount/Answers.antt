use Rattle.fl_model.proofs.MountAmongTables.{mounts-along}
use Rattle.fl_model.proofs.tables_mount.Goals as goal

pub returns : goal.returns
returns c = mounts-along

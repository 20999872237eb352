use Rattle.fl_export.proofs.ReadBack.{export-back}
use Rattle.fl_export.proofs.exports_read_back.Goals as goal

pub returns : goal.returns
returns c = export-back

use Rattle.fl_base.proofs.Fields.{two_read, four_read, eight_read}
use Rattle.fl_base.proofs.field.fields_read_back.Goals as goal

pub returns : goal.returns
returns c = record { two = two_read; four = four_read; eight = eight_read }

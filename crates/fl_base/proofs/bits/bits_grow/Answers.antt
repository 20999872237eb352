use Rattle.fl_base.proofs.BitsGrow.{bits-half, bits-le, bits-twice, has-bits}
use Rattle.fl_base.proofs.bits.bits_grow.Goals as goal

pub returns : goal.returns
returns c = record { has = has-bits; ascends = bits-le; halves = bits-half; doubles = bits-twice }

use Rattle.fl_base.proofs.OneByte.{shift-tells}
use Rattle.fl_base.proofs.bytes.each_is.Goals as goal

pub returns-then-first-value : goal.returns-then-first-value
returns-then-first-value c =
    shift-tells c.args.value c.in-Some.first.now c.args.bytes.now c.in-Some.others.now c.eq.result c.in-Some.ensures.cases.0 c.if-first-value.true c.eq.ensures

use Rattle.std.proofs.Common.{ap}
use Rattle.fl_model.specs.Record.{RowLayout}
use Rattle.fl_session.proofs.LoadedValues.{signs-more}
use Rattle.fl_session.proofs.generator.Generator.new.Goals as goal

pub loop-i-preserved : goal.loop-i-preserved
loop-i-preserved c =
    let more = signs-more _ _ c.loop-i.i _ _ _ _ (ap (λ (l : RowLayout). l.columns) c.schema.ensures.exact) c.column.ensures c.is_signed.ensures c.loop-i.invariant.count c.loop-i.invariant.signed c.push.ensures.items in
    record { count = more.0; signed = more.1 }

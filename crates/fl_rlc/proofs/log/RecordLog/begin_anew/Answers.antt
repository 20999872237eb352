use Rattle.std.proofs.Common.{arith}
use Rattle.fl_rlc.proofs.Writers.{kept-clear}
use Rattle.fl_rlc.proofs.log.RecordLog.begin_anew.Goals as goal

pub invariant_of-self : goal.invariant_of-self
invariant_of-self c =
    let v = c.args.self.now in
    let k = kept-clear v.rows c.clear.new.self c.clear.ensures.exact c.clear.ensures.size (record { begin = v.rows_begin; room = v.rows_room; rest = v.blank_rest }) in
    record { served = v.served; some_blocks = v.some_blocks; body = omega (arith, c.clear.ensures.size, v.body); rows_begin = k.begin; rows_room = k.room; blank_rest = k.rest; lies = v.lies }

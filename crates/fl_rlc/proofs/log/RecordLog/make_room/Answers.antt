use Rattle.std.proofs.Common.{◌≡◌, ◌+◌, Bool, true, cond, nat_lt, [], length, sym, ◌∙◌, subst, arith}
use Rattle.fl_model.specs.Record.{layout_len}
use Rattle.fl_page.specs.Writer.{Gathers}
use Rattle.fl_schema.specs.Schema.{layout_of}
use Rattle.fl_rlc.proofs.Writers.{kept-clear}
use Rattle.fl_rlc.proofs.log.RecordLog.make_room.Goals as goal

pub returns-then-is_full-clause-rows : goal.returns-then-is_full-clause-rows
returns-then-is_full-clause-rows c = λ rows gathers.
    let layout = layout_of c.args.schema.now in
    let full : nat_lt (length c.args.self.now.rows.body) (c.args.self.now.rows.end + layout_len (layout_of c.args.schema.now)) ≡ true = sym c.is_full.ensures.room ∙ c.if-is_full.true in
    subst (λ (b : Bool). Gathers layout (cond b [] rows) c.clear.new.self) (sym full) (c.clear.ensures.empty layout rows gathers layout)

pub invariant_of-self : goal.invariant_of-self
invariant_of-self c =
    let v = c.args.self.now in
    let k = kept-clear v.rows c.clear.new.self c.clear.ensures.exact c.clear.ensures.size (record { begin = v.rows_begin; room = v.rows_room; rest = v.blank_rest }) in
    record { served = v.served; some_blocks = v.some_blocks; body = omega (arith, c.clear.ensures.size, v.body); rows_begin = k.begin; rows_room = k.room; blank_rest = k.rest; lies = v.lies }

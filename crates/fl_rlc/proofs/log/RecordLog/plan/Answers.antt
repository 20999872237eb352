use Rattle.std.proofs.Common.{◌≡◌, ◌*◌, false, [], arith}
use Rattle.std.proofs.lemmas.Option.{none-some}
use Rattle.fl_model.specs.Record.{RowLayout, layout_len}
use Rattle.fl_page.specs.Writer.{Gathers}
use Rattle.fl_page.specs.WriterState.{WriterState}
use Rattle.fl_parts.proofs.Writers.{gathers-blank}
use Rattle.fl_rlc.proofs.log.RecordLog.plan.Goals as goal

-- a page without rows
none-end : (w : WriterState) (layout : RowLayout) → Gathers layout [] w → w.end ≡ 16
none-end w layout h = let none : 0 * layout_len layout ≡ 0 = omega arith in omega (arith, h.end, none)

pub invariant_of-result : goal.invariant_of-result
invariant_of-result c =
    let w = c.in_ok-new.field-0 in
    let plain : RowLayout = record { key_bytes = 8; columns = []; blobs = false } in
    let gathers = c.in_ok-new.ensures.empty plain in
    let end = none-end w plain gathers in
    record {
      served = c.requires.served;
      some_blocks = c.requires.blocks;
      body = c.in_ok-new.ensures.size;
      rows_begin = omega (arith, end);
      rows_room = omega (arith, end, c.in_ok-new.ensures.size, c.requires.served.page_least);
      blank_rest = gathers-blank plain w gathers;
      lies = λ r is. absurd (none-some r is);
    }

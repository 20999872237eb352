use Rattle.std.proofs.Common.{arith, ap, refl, None, ◌≡◌, ℕ, sym, subst, []}
use Rattle.fl_parts.proofs.Writers.{rest-clear, gathers-none, end-none}
use Rattle.fl_find.specs.Index.{IndexOf}
use Rattle.fl_model.specs.Record.{layout_len}
use Rattle.fl_ring.specs.declared.ring.Ring.{Ring}
use Rattle.fl_schema.specs.Schema.{layout_of}
use Rattle.fl_parts.proofs.BlobsOfTable as blobbing
use Rattle.fl_parts.proofs.IndexOfTable.{none-is, none-there, plan-same}
use Rattle.fl_parts.proofs.Sizes.{index-fits}
use Rattle.fl_table.proofs.table.Table.forget.Goals as goal

pub returns-clause-forgotten : goal.returns-clause-forgotten
returns-clause-forgotten g c =
    let t = c.args.self.now in
    record {
      down = refl;
      calm = refl;
      none = ap (λ w. w.count) c.clear.ensures.exact;
      last = refl;
      empty = λ layout. gathers-none layout c.clear.new.self (ap (λ w. w.count) c.clear.ensures.exact) (ap (λ w. w.end) c.clear.ensures.exact)
          (rest-clear t.writer c.clear.new.self c.clear.ensures.exact (omega (arith, t.rows_end)) t.rows_room t.blank_rest);
      bits = refl;
      ends = refl;
      index = subst (λ (n : ℕ). IndexOf n [] c.clear-2.new.self) (sym c.clear-2.ensures.error) c.clear-2.ensures.none;
    }

pub invariant_of-self : goal.invariant_of-self
invariant_of-self g c =
    let t = c.args.self.now in
    let none : c.clear.new.self.count ≡ 0 = ap (λ w. w.count) c.clear.ensures.exact in
    let first : c.clear.new.self.end ≡ 16 = ap (λ w. w.end) c.clear.ensures.exact in
    record {
      few_knots = t.few_knots;
      few_slots = t.few_slots;
      served = t.served;
      some_blocks = t.some_blocks;
      few_blocks = t.few_blocks;
      some_columns = t.some_columns;
      few_columns = t.few_columns;
      some_row = t.some_row;
      room_for_row = t.room_for_row;
      has_blobs = t.has_blobs;
      blobs_fit = t.blobs_fit;
      page = omega (arith, c.clear.ensures.size, t.page);
      rows_end = end-none c.clear.new.self (layout_len (layout_of t.schema)) none first;
      rows_room = omega (arith, first, c.clear.ensures.size, t.page, t.room_for_row);
      blank_rest = rest-clear t.writer c.clear.new.self c.clear.ensures.exact (omega (arith, t.rows_end)) t.rows_room t.blank_rest;
      counted = t.counted;
      lies = λ ring is. absurd (none-there {X = Ring} None ring refl is);
      left = λ ring is. absurd (none-there {X = Ring} None ring refl is);
      few_pages = t.few_pages;
      running = λ is. absurd (none-is {X = Ring} None refl is);
      follow = λ ring is. absurd (none-there {X = Ring} None ring refl is);
      pages_left = λ some. absurd (omega (arith, some, none));
      blobs_running = λ is. absurd (none-is {X = Ring} None refl is);
      blobs_left = λ is. absurd (none-is {X = Ring} None refl is);
    }

pub returns-clause-same : goal.returns-clause-same
returns-clause-same g c = record {
  geometry = refl;
  layout = refl;
  place = refl;
  buckets = refl;
  error = c.clear-2.ensures.error;
  bitmaps = plan-same c.args.self.now.bitmaps;
  blobs = blobbing.plan-same c.args.self.now.blobs;
  limit = refl;
}

pub returns-clause-bitmaps : goal.returns-clause-bitmaps
returns-clause-bitmaps g c = refl

pub returns-clause-blobs : goal.returns-clause-blobs
returns-clause-blobs g c = refl

pub clear-requires-2 : goal.clear-requires-2
clear-requires-2 g c = index-fits g.row.KNOTS g.row.SLOTS c.args.self.now.few_knots c.args.self.now.few_slots

use Rattle.std.proofs.Common.{Option, sym, subst, ◌∙◌, arith, ap}
use Rattle.fl_base.specs.declared.types.RingPlace.{RingPlace}
use Rattle.fl_index.specs.declared.index.BitmapIndex.{BitmapIndex}
use Rattle.fl_var.specs.declared.var_data.VarData.{VarData}
use Rattle.fl_parts.specs.Bitmaps.{LieOn}
use Rattle.fl_parts.specs.Blobs as variable
use Rattle.fl_parts.proofs.IndexOfTable.{none-there}
use Rattle.fl_parts.proofs.Sizes.{table-fits}
use Rattle.fl_table.proofs.table.Table.unmount.Goals as goal

pub returns-clause-lies : goal.returns-clause-lies
returns-clause-lies g c = λ f lies.
    let same = c.forget.ensures.same in
    record {
      geometry = lies.geometry ∙ sym same.geometry;
      within = omega (arith, lies.within, ap (λ (p : RingPlace). p.first_block) same.place, ap (λ (p : RingPlace). p.blocks) same.place);
      few = lies.few;
      ring = λ ring is. absurd (none-there c.forget.new.self.ring ring c.forget.ensures.forgotten.down is);
      bitmaps = subst (λ (o : Option BitmapIndex). LieOn o f) (sym c.forget.ensures.bitmaps) lies.bitmaps;
      blobs = subst (λ (o : Option VarData). variable.LieOn o f) (sym c.forget.ensures.blobs) lies.blobs;
    }

pub forget-requires : goal.forget-requires
forget-requires g c = table-fits g.row.KNOTS g.row.SLOTS c.args.self.now.few_knots c.args.self.now.few_slots

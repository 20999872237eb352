-- The index of a table that stands with its flash.
use Rattle.std.proofs.Common.{◌≡◌, ℕ, ◌+◌, Option, Some, IsTrue, sym, ◌∙◌, subst}
use Rattle.fl_bitmap.specs.Widths.{is_bits}
use Rattle.fl_flash.specs.Flash.{FlashState}
use Rattle.fl_index.specs.declared.index.BitmapIndex.{BitmapIndex}
use Rattle.fl_model.specs.Record.{Plan}
use Rattle.fl_model.specs.Table as model
use Rattle.fl_index.specs.Standing as standing
use Rattle.fl_parts.specs.Bitmaps.{ArePlanned, Stand}
use Rattle.fl_table.specs.Standing.{Stands}
use Rattle.fl_table.specs.declared.table.Table.{Table}

module _ {KNOTS SLOTS : ℕ} (t : Table KNOTS SLOTS) (f : FlashState) (first : ℕ) (plan : Plan) (table : model.Table) (stands : Stands t f first plan table) (index : BitmapIndex) (is : t.bitmaps ≡ Some index) where
  pub index-stands : standing.Stands index f (first + plan.data_blocks) plan table
  index-stands = subst (λ (o : Option BitmapIndex). Stand o f (first + plan.data_blocks) plan table) is stands.bitmaps

  pub some-bits : plan.bits ≡ 0 → ⊥
  some-bits none =
      let planned = subst (λ (o : Option BitmapIndex). ArePlanned o (first + plan.data_blocks) plan) is stands.planned.index in
      no (subst (λ n. IsTrue (is_bits n)) (sym planned.bits ∙ none) index.some_bits)
    where
      no : IsTrue (is_bits 0) → ⊥
      no e = cc

-- What a table in memory has of its plan's layout.
use Rattle.std.proofs.Common.{◌≡◌, ℕ, length, sym, ◌∙◌, ap}
use Rattle.fl_model.specs.Record.{Plan, RowLayout, has_var}
use Rattle.fl_table.specs.BlobAt.{has_blobs}
use Rattle.fl_table.specs.Look.{layout_in}
use Rattle.fl_table.specs.Memory.{IsPlanned}
use Rattle.fl_table.specs.declared.table.Table.{Table}

module _ {KNOTS SLOTS : ℕ} (t : Table KNOTS SLOTS) (first : ℕ) (plan : Plan) (planned : IsPlanned t first plan) where
  -- it has blobs where its plan has variable data
  pub blobs-as : has_blobs t ≡ has_var plan
  blobs-as = sym t.has_blobs ∙ sym (ap (λ (l : RowLayout). l.blobs) planned.layout)

  -- .. and the columns of its plan
  pub columns-as : length (layout_in t).columns ≡ length plan.columns
  columns-as = sym (ap (λ (l : RowLayout). length l.columns) planned.layout)

use Rattle.std.proofs.Common.{◌≡◌, ℕ, ◌<◌, Some, List, length, get_or, slice_get, sym, subst}
use Rattle.fl_schema.specs.Schema.{types_of}
use Rattle.fl_schema.specs.declared.column.ColumnType.TheVariants.{U8}
use Rattle.fl_schema.specs.declared.schema.PlacedColumn.{PlacedColumn}
use Rattle.fl_schema.proofs.Places.{length-types_in, type-at, columns-fit}
use Rattle.fl_schema.proofs.schema.Schema.column.Goals as goal

pub deref-requires : goal.deref-requires
deref-requires g c = columns-fit g.row.COLS c.args.self.now.few

pub bounds-deref-i : goal.bounds-deref-i
bounds-deref-i g c = subst (λ (cs : List PlacedColumn). c.args.i < length cs) (sym c.deref.ensures.0) (subst (λ (n : ℕ). c.args.i < n) (length-types_in c.args.self.now.columns.items) c.requires)

pub returns : goal.returns
returns g c =
    subst (λ (cs : List PlacedColumn). slice_get (types_of c.args.self.now) c.args.i ≡ Some (get_or cs c.args.i (record { of = U8; at = 0 })).of) (sym c.deref.ensures.0)
    (type-at c.args.self.now.columns.items c.args.i (record { of = U8; at = 0 }) (subst (λ (n : ℕ). c.args.i < n) (length-types_in c.args.self.now.columns.items) c.requires))

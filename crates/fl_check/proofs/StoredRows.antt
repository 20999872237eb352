-- Rows that their bytes tell fit a table, whatever bytes are read of their blobs.
use Rattle.std.proofs.Common.{◌≡◌, ℕ, ◌==◌, ◌&&◌, ◌||◌, nat_lt, Bool, true, false, Option, Some, None, IfSome, option_map, List, [], ◌∷◌, map, length, refl, sym, ◌∙◌, ap, arith}
use Rattle.std.specs.List.{AllByRecursion}
use Rattle.std.proofs.lemmas.Bool.{eqb-true, le-ltb, and_parts}
use Rattle.fl_base.specs.declared.types.BlobRef.{BlobRef}
use Rattle.fl_model.specs.Facts.{FitsPlan, BlobFits}
use Rattle.fl_model.specs.Record.{Plan, row_layout}
use Rattle.fl_model.specs.Row.{Row, FitsReference, FitsBytes, IsStorable}
use Rattle.fl_rules.specs.DataPage.{is_plain, are_plain}
use Rattle.fl_rules.proofs.TablePages.{ReadsAll, entry_by}

module _ (plan : Plan) (read : BlobRef → List ℕ) (all : ReadsAll read) where
  entry-fits : (row : Row) → is_plain row.blob ≡ true → IsStorable (row_layout plan) row → FitsPlan plan (entry_by read row)
  entry-fits row plain is = record { key = is.fits.key; as_many = is.fits.as_many; values = is.fits.values; blob = by_blob row.blob plain is.fits.blob is.bytes }
    where
      by_blob : (o : Option BlobRef) → is_plain o ≡ true → IfSome o (FitsReference (row_layout plan)) → IfSome o FitsBytes →
          BlobFits plan (entry_by read (record { key = row.key; values = row.values; blob = o })) (option_map read o)
      by_blob None plain fits bytes = (refl, refl)
      by_blob (Some at) plain fits bytes = (fits.0, omega (arith, bytes.2, many), bytes.1, empty)
        where
          many : length (read at) ≡ at.length
          many = all at

          empty : length (read at) ≡ 0 → (at.page ≡ 0) × (at.offset ≡ 0)
          empty none =
              let short : nat_lt 0 at.length ≡ false = le-ltb 0 at.length (omega (arith, none, many)) in
              let zeros = and_parts (at.page == 0) (at.offset == 0) (sym (ap (λ (b : Bool). b || ((at.page == 0) && (at.offset == 0))) short) ∙ plain) in
              (eqb-true at.page 0 zeros.0, eqb-true at.offset 0 zeros.1)

  pub rows-fit : (rows : List Row) → are_plain rows ≡ true → AllByRecursion (IsStorable (row_layout plan)) rows → AllByRecursion (FitsPlan plan) (map (entry_by read) rows)
  rows-fit [] plain each = tt
  rows-fit (row ∷ rows) plain each = let both = and_parts (is_plain row.blob) (are_plain rows) plain in (entry-fits row both.0 each.0, rows-fit rows both.1 each.1)

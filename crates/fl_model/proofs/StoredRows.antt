-- The row of a record that fits its plan can be stored: it tells its blob's bytes, as their pages have numbers.
use Rattle.std.proofs.Common.{◌≡◌, ℕ, suc, ◌+◌, ◌^◌, ◌<◌, Option, Some, None, option_map, List, [], ◌∷◌, length, map, refl, sym, subst, arith}
use Rattle.std.specs.List.{AllByRecursion}
use Rattle.fl_model.specs.Facts.{FitsPlan, BlobFits}
use Rattle.fl_model.specs.Record.{Plan, row_layout}
use Rattle.fl_model.specs.Row.{Row, IsStorable, stored_row}
use Rattle.fl_model.specs.Table.{Entry}
use Rattle.fl_model.proofs.BlobEnds.{AreNumbered}

abbrev pub row_of_blob : Entry → Option (List ℕ) → Row
row_of_blob entry o = record { key = entry.kept.key; values = entry.kept.values; blob = option_map (λ bytes. record { page = entry.page; offset = entry.offset; length = length bytes }) o }

pub stored-row : (plan : Plan) (entry : Entry) → FitsPlan plan entry → ((blob : List ℕ) → entry.kept.blob ≡ Some blob → 0 < length blob → entry.page + 1 < 2 ^ 32) → IsStorable (row_layout plan) (stored_row entry)
stored-row plan entry h numbered = by_blob entry.kept.blob refl h.blob
  where
    by_length : (xs : List ℕ) → entry.kept.blob ≡ Some xs → (length xs ≡ 0 → (entry.page ≡ 0) × (entry.offset ≡ 0)) → entry.page + 1 < 2 ^ 32
    by_length [] e none = omega (arith, (none refl).0)
    by_length (x ∷ xs) e none = numbered (x ∷ xs) e (omega arith)

    by_blob : (o : Option (List ℕ)) → entry.kept.blob ≡ o → BlobFits plan entry o → IsStorable (row_layout plan) (stored_row entry)
    by_blob None e b =
        subst (λ (o : Option (List ℕ)). IsStorable (row_layout plan) (row_of_blob entry o)) (sym e)
        (record { fits = record { key = h.key; as_many = h.as_many; values = h.values; blob = tt }; bytes = tt })
    by_blob (Some bytes) e b =
        let page = by_length bytes e b.3 in
        subst (λ (o : Option (List ℕ)). IsStorable (row_layout plan) (row_of_blob entry o)) (sym e)
        (record {
          fits = record { key = h.key; as_many = h.as_many; values = h.values; blob = (b.0, λ at offset len. omega (arith, at, page)) };
          bytes = (omega (arith, page), b.2, b.1);
        })

pub all-stored : (plan : Plan) (entries : List Entry) → AreNumbered entries → AllByRecursion (FitsPlan plan) entries → AllByRecursion (IsStorable (row_layout plan)) (map stored_row entries)
all-stored plan [] numbered h = tt
all-stored plan (entry ∷ entries) numbered h =
    (stored-row plan entry h.0 (λ blob is some. numbered 0 entry blob refl is some), all-stored plan entries (λ i. numbered (suc i)) h.1)

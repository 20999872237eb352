-- What is told of a page fits the fields of a full entry, by the plan of its table.
use Rattle.std.proofs.Common.{◌≡◌, ℕ, suc, ◌+◌, ◌-◌, ◌^◌, ◌<◌, ◌≤◌, Bool, true, false, ◌==◌, cond, max, Option, Some, None, IfSome, List, [], ◌∷◌, length, map, take, drop, refl, ◌∙◌, ap, subst, arith}
use Rattle.std.specs.List.{AllByRecursion, slice_get, fold, sum}
use Rattle.std.proofs.Math.Nat.{div-le_self}
use Rattle.std.proofs.lemmas.Bool.{false≢true}
use Rattle.std.proofs.lemmas.List.{length-take}
use Rattle.fl_model.specs.Facts.{BlobFits, FitsPlan, is_some_ring}
use Rattle.fl_model.specs.Image.{rows_at}
use Rattle.fl_model.specs.Record.{Plan, has_var, key_limit, row_len, rows_per_page}
use Rattle.fl_model.specs.Ring as rings
use Rattle.fl_model.specs.Table as model
use Rattle.fl_model.specs.Table.{Entry, blob_len, end_of_blobs, first_key, lose, written}
use Rattle.fl_model.proofs.Lists.{each-at, each-drop, each-take}
use Rattle.fl_parts.specs.Blobs.{AreLed}
use Rattle.fl_parts.proofs.Loose.{IsLoose}
use Rattle.fl_parts.proofs.RowsFound.{rows-lose}

pub first-within : (plan : Plan) (entries : List Entry) → AllByRecursion (FitsPlan plan) entries → first_key entries ≤ key_limit plan
first-within plan [] h = omega arith
first-within plan (entry ∷ entries) h = h.0.key

-- ---- the end of blobs

abbrev end_of : Entry → ℕ
end_of entry = cond (blob_len entry.kept == 0) 0 (entry.page + 1)

pub each-from : {X : Type 0} (P : X → Type 0) (xs : List X) → ((i : ℕ) (x : X) → slice_get xs i ≡ Some x → P x) → AllByRecursion P xs
each-from P [] h = tt
each-from P (x ∷ xs) h = (h 0 x refl, each-from P xs (λ i y e. h (suc i) y e))

ends-within : (most so_far : ℕ) (entries : List Entry) → so_far ≤ most → AllByRecursion (λ entry. end_of entry ≤ most) entries → fold max so_far (map end_of entries) ≤ most
ends-within most so_far [] le h = le
ends-within most so_far (entry ∷ entries) le h = ends-within most (max so_far (end_of entry)) entries (let one = h.0 in omega (arith, le, one)) h.1

module _ (plan : Plan) (table : model.Table) (facts : IsLoose plan table) where
  end-at : (i : ℕ) (entry : Entry) → slice_get (written table) i ≡ Some entry → FitsPlan plan entry → (o : Option (List ℕ)) → entry.kept.blob ≡ o → end_of entry ≤ 4294967295
  end-at i entry e fits None is = rw is (omega arith)
  end-at i entry e fits (Some []) is = rw is (omega arith)
  end-at i entry e fits (Some (byte ∷ bytes)) is =
      let most = no-more (blob_len entry.kept == 0) (entry.page + 1) in
      let within = by_ring table.var facts.blobs.has facts.blobs.led facts.blobs.number in
      omega (arith, most, within)
    where
      no-more : (b : Bool) (n : ℕ) → cond b 0 n ≤ n
      no-more true n = omega arith
      no-more false n = omega arith

      has : has_var plan ≡ true
      has = (subst (BlobFits plan entry) is fits.blob).0

      by_ring : (var : Option rings.Ring) → is_some_ring var ≡ has_var plan → IfSome var (λ ring. AreLed plan ring (written table)) → IfSome var (λ ring. ring.next + cond ring.torn 1 0 ≤ 4294967295) → entry.page + 1 ≤ 4294967295
      by_ring None some led number = absurd (false≢true (some ∙ has))
      by_ring (Some ring) some led number = let lt = (led i entry (byte ∷ bytes) e is (omega arith)).0 in omega (arith, lt, number)

  pub ends-fit : (n rows : ℕ) → slice_get table.rows.counts n ≡ Some rows → end_of_blobs (rows_at table n rows) < 2 ^ 32
  ends-fit n rows e =
      let fit = each-take (FitsPlan plan) (length table.entries - table.pending) table.entries facts.kept.fit in
      let each = each-from (λ entry. end_of entry ≤ 4294967295) (written table) (λ i entry at. end-at i entry at (each-at (FitsPlan plan) (written table) i entry fit at) entry.kept.blob refl) in
      let those = each-take (λ entry. end_of entry ≤ 4294967295) rows (drop (sum (take n table.rows.counts)) (written table)) (each-drop (λ entry. end_of entry ≤ 4294967295) (sum (take n table.rows.counts)) (written table) each) in
      let within = ends-within 4294967295 0 (rows_at (lose table) n rows) (omega arith) those in
      let same = ap end_of_blobs (rows-lose table n rows e facts.kept.counted) in
      omega (arith, within, same)

  pub count-fits : plan.geometry.page ≤ 4096 → (n rows : ℕ) → slice_get table.rows.counts n ≡ Some rows → length (rows_at table n rows) < 2 ^ 16
  count-fits size n rows e =
      let few = each-at (λ count. count ≤ rows_per_page plan) table.rows.counts n rows facts.kept.few_rows e in
      let most = div-le_self (plan.geometry.page - 24) (row_len plan) in
      let taken = length-take rows (drop (sum (take n table.rows.counts)) table.entries) in
      omega (arith, few, most, taken, size)

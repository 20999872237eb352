-- The end of the blobs of rows, read one row after another, and that of records.
use Rattle.std.proofs.Common.{◌≡◌, ℕ, zero, suc, ◌+◌, ◌^◌, ◌<◌, ◌≤◌, Bool, true, false, cond, ◌==◌, Option, Some, None, List, [], ◌∷◌, ◌++◌, length, map, take, max, refl, sym, ◌∙◌, ap, arith}
use Rattle.std.specs.List.{slice_get, fold}
use Rattle.std.proofs.lemmas.List.{map-append, take_all}
use Rattle.std.proofs.lemmas.List.Sums.{fold-append}
use Rattle.std.proofs.lemmas.Option.{none-some, same_Some}
use Rattle.fl_model.specs.Mount.{blob_end}
use Rattle.fl_model.specs.Row.{Row, stored_row}
use Rattle.fl_model.specs.Table.{Table, Entry, blob_len, end_of_blobs}
use Rattle.fl_model.specs.BlobEnds.{reference_end, blobs_end}

-- rows behind others
pub ends-append : (so_far : ℕ) (rows others : List Row) → blobs_end so_far (rows ++ others) ≡ blobs_end (blobs_end so_far rows) others
ends-append so_far rows others = ap (fold max so_far) (map-append (λ (row : Row). reference_end row.blob) rows others) ∙ fold-append max so_far (map (λ (row : Row). reference_end row.blob) rows) (map (λ (row : Row). reference_end row.blob) others)

-- one row more
pub ends-next : (so_far : ℕ) (rows : List Row) (i : ℕ) (row : Row) → slice_get rows i ≡ Some row → blobs_end so_far (take (i + 1) rows) ≡ max (blobs_end so_far (take i rows)) (reference_end row.blob)
ends-next so_far [] i row e = absurd (none-some row e)
ends-next so_far (x ∷ rows) zero row e = ap (λ (r : Row). max so_far (reference_end r.blob)) (same_Some x row e)
ends-next so_far (x ∷ rows) (suc i) row e =
    ap (λ k. blobs_end so_far (take k (x ∷ rows))) (let k : suc i + 1 ≡ suc (i + 1) = omega arith in k) ∙ ends-next (max so_far (reference_end x.blob)) rows i row e

pub ends-all : (so_far : ℕ) (rows : List Row) (n : ℕ) → length rows ≤ n → blobs_end so_far (take n rows) ≡ blobs_end so_far rows
ends-all so_far rows n le = ap (blobs_end so_far) (take_all n rows le)

-- the greatest of some and of what came before them
max-before : (so_far first : ℕ) (ends : List ℕ) → fold max (max so_far first) ends ≡ max so_far (fold max first ends)
max-before so_far first [] = refl
max-before so_far first (end ∷ ends) = ap (λ n. fold max n ends) (let e : max (max so_far first) end ≡ max so_far (max first end) = omega arith in e) ∙ max-before so_far (max first end) ends

pub ends-max : (so_far : ℕ) (rows : List Row) → blobs_end so_far rows ≡ max so_far (blobs_end 0 rows)
ends-max so_far rows =
    ap (λ n. fold max n (map (λ (row : Row). reference_end row.blob) rows)) (let e : so_far ≡ max so_far 0 = omega arith in e) ∙ max-before so_far 0 (map (λ (row : Row). reference_end row.blob) rows)

-- in the model's words
end-of : (entry : Entry) → reference_end (stored_row entry).blob ≡ cond (blob_len entry.kept == 0) 0 (entry.page + 1)
end-of entry = by_blob entry.kept.blob refl
  where
    by_blob : (o : Option (List ℕ)) → entry.kept.blob ≡ o → reference_end (stored_row entry).blob ≡ cond (blob_len entry.kept == 0) 0 (entry.page + 1)
    by_blob None e = rw e refl
    by_blob (Some bytes) e = rw e refl

pub ends-of : (entries : List Entry) → blobs_end 0 (map stored_row entries) ≡ end_of_blobs entries
ends-of entries = ap (fold max 0) (same entries)
  where
    same : (entries : List Entry) →
        map (λ (row : Row). reference_end row.blob) (map stored_row entries) ≡ map (λ (entry : Entry). cond (blob_len entry.kept == 0) 0 (entry.page + 1)) entries
    same [] = refl
    same (x ∷ xs) = ap (λ n. n ∷ map (λ (row : Row). reference_end row.blob) (map stored_row xs)) (end-of x) ∙ ap (λ ns. cond (blob_len x.kept == 0) 0 (x.page + 1) ∷ ns) (same xs)

pub ends-model : (table : Table) → blobs_end 0 (map stored_row table.entries) ≡ blob_end table
ends-model table = ends-of table.entries

-- one record more
pub ends-push : (entries : List Entry) (entry : Entry) → end_of_blobs (entries ++ entry ∷ []) ≡ max (end_of_blobs entries) (reference_end (stored_row entry).blob)
ends-push entries entry =
    sym (ends-of (entries ++ entry ∷ []))
    ∙ (ap (blobs_end 0) (map-append stored_row entries (entry ∷ []))
    ∙ (ends-append 0 (map stored_row entries) (stored_row entry ∷ []) ∙ ap (λ n. max n (reference_end (stored_row entry).blob)) (ends-of entries)))

-- the blobs of these records begin on pages whose numbers fit
abbrev pub AreNumbered : List Entry → Type 0
AreNumbered entries = (i : ℕ) (entry : Entry) (blob : List ℕ) → slice_get entries i ≡ Some entry → entry.kept.blob ≡ Some blob → 0 < length blob → entry.page + 1 < 2 ^ 32

-- .. and so do their ends
pub ends-few : (entries : List Entry) → AreNumbered entries → end_of_blobs entries < 2 ^ 32
ends-few entries = all 0 entries (omega arith)
  where
    one : (x : Entry) (o : Option (List ℕ)) → x.kept.blob ≡ o → ((blob : List ℕ) → x.kept.blob ≡ Some blob → 0 < length blob → x.page + 1 < 2 ^ 32) → cond (blob_len x.kept == 0) 0 (x.page + 1) < 2 ^ 32
    one x None e h = rw e (omega arith)
    one x (Some []) e h = rw e (omega arith)
    one x (Some (byte ∷ bytes)) e h = by_test (blob_len x.kept == 0) (h (byte ∷ bytes) e (omega arith))
      where
        by_test : (b : Bool) → x.page + 1 < 2 ^ 32 → cond b 0 (x.page + 1) < 2 ^ 32
        by_test true few = omega arith
        by_test false few = few

    all : (so_far : ℕ) (xs : List Entry) → so_far < 2 ^ 32 → AreNumbered xs → fold max so_far (map (λ (entry : Entry). cond (blob_len entry.kept == 0) 0 (entry.page + 1)) xs) < 2 ^ 32
    all so_far [] few h = few
    all so_far (x ∷ xs) few h =
        let here = one x x.kept.blob refl (λ blob is some. h 0 x blob refl is some) in
        all (max so_far (cond (blob_len x.kept == 0) 0 (x.page + 1))) xs (omega (arith, here, few)) (λ i. h (suc i))

-- Where the blobs of a table end, and the numbers of their ring where its pages are all void.
use Rattle.std.proofs.Common.{◌≡◌, ℕ, zero, suc, ◌+◌, ◌-◌, ◌*◌, ◌<◌, ◌≤◌, ◌⊎◌, inl, inr, Bool, true, false, cond, ◌==◌, nat_lt, Option, Some, None, List, [], ◌∷◌, length, max, map, refl, sym, ◌∙◌, ap, arith}
use Rattle.std.specs.Prelude.{option_map}
use Rattle.std.specs.List.{slice_get, list_any, fold}
use Rattle.std.proofs.lemmas.Bool.{ne_eqb, false≢true}
use Rattle.std.proofs.lemmas.Option.{none-some, same_Some}
use Rattle.fl_model.specs.Agrees.{reach_of, BlobsOf}
use Rattle.fl_model.specs.Mount.{renumber, renumbered, blob_end, least_alike}
use Rattle.fl_model.specs.Record.{Plan}
use Rattle.fl_model.specs.Ring.{Ring, IsShape, oldest, sealed, erased}
use Rattle.fl_model.specs.Table.{Table, Entry, VarRing, shape_of, with_ring, seal_page, blob_len}
use Rattle.fl_model.proofs.StandingPages.{stands-not}
use Rattle.fl_model.proofs.Lists.{slice_get-mapped, any-at}
use Rattle.fl_parts.specs.Blobs.{AreIn, AreLed}
use Rattle.fl_parts.proofs.VarFacts.{blobs-as, blobs-none, in-voided, led-voided, var-voided, numbered-sealed}

-- the greatest of numbers is none below any of them
fold-least : (a : ℕ) (xs : List ℕ) → a ≤ fold max a xs
fold-least a [] = omega arith
fold-least a (x ∷ xs) = let k = fold-least (max a x) xs in omega (arith, k)

fold-each : (a : ℕ) (xs : List ℕ) (i x : ℕ) → slice_get xs i ≡ Some x → x ≤ fold max a xs
fold-each a [] i x e = absurd (none-some x e)
fold-each a (y ∷ ys) zero x e = let k = fold-least (max a y) ys in omega (arith, k, same_Some y x e)
fold-each a (y ∷ ys) (suc i) x e = fold-each (max a y) ys i x e

-- .. and at most what all of them are
fold-most : (a n : ℕ) (xs : List ℕ) → a ≤ n → ((i x : ℕ) → slice_get xs i ≡ Some x → x ≤ n) → fold max a xs ≤ n
fold-most a n [] le each = le
fold-most a n (x ∷ xs) le each = fold-most (max a x) n xs (let k = each 0 x refl in omega (arith, le, k)) (λ i y e. each (suc i) y e)

got-map : {A B : Type 0} (f : A → B) (xs : List A) (i : ℕ) (y : B) → slice_get (map f xs) i ≡ Some y → (x : A) × (slice_get xs i ≡ Some x) × (f x ≡ y)
got-map f [] i y e = cc
got-map f (x ∷ xs) zero y e = (x, refl, is e)
  where
    is : Some (f x) ≡ Some y → f x ≡ y
    is k = cc
got-map f (x ∷ xs) (suc i) y e = got-map f xs i y e

-- the end of an entry's blob
abbrev end_of : Entry → ℕ
end_of entry = cond (blob_len entry.kept == 0) 0 (entry.page + 1)

has-end : (entry : Entry) (blob : List ℕ) → entry.kept.blob ≡ Some blob → 0 < length blob → end_of entry ≡ entry.page + 1
has-end entry blob e some =
    let len : blob_len entry.kept ≡ length blob = rw e refl in
    ap (λ (b : Bool). cond b 0 (entry.page + 1)) (ne_eqb (blob_len entry.kept) 0 (λ k. omega (arith, k, len, some)))

pub blob-below : (table : Table) (i : ℕ) (entry : Entry) (blob : List ℕ) → slice_get table.entries i ≡ Some entry → entry.kept.blob ≡ Some blob → 0 < length blob → entry.page < blob_end table
blob-below table i entry blob e k some =
    let le = fold-each 0 (map end_of table.entries) i (end_of entry) (slice_get-mapped end_of table.entries i entry e) in
    omega (arith, le, has-end entry blob k some)

-- where each blob begins before a page, so does their end
pub blob_end-most : (table : Table) (n : ℕ) → ((i : ℕ) (entry : Entry) (blob : List ℕ) → slice_get table.entries i ≡ Some entry → entry.kept.blob ≡ Some blob → 0 < length blob → entry.page < n) → blob_end table ≤ n
blob_end-most table n before = fold-most 0 n (map end_of table.entries) (omega arith) each
  where
    by_blob : (i : ℕ) (entry : Entry) → slice_get table.entries i ≡ Some entry → (o : Option (List ℕ)) → entry.kept.blob ≡ o → end_of entry ≤ n
    by_blob i entry e None k = rw k (omega arith)
    by_blob i entry e (Some []) k = rw k (omega arith)
    by_blob i entry e (Some (x ∷ xs)) k = let lt = before i entry (x ∷ xs) e k (omega arith) in omega (arith, lt, has-end entry (x ∷ xs) k (omega arith))

    each : (i m : ℕ) → slice_get (map end_of table.entries) i ≡ Some m → m ≤ n
    each i m e =
        let found = got-map end_of table.entries i m e in
        let le = by_blob i found.0 found.1 found.0.kept.blob refl in
        omega (arith, le, found.2)

-- blobs that begin on written pages begin before the next page
pub held-below : (plan : Plan) (ring : Ring) (table : Table) → AreLed plan ring table.entries → blob_end table ≤ ring.next
held-below plan ring table led = blob_end-most table ring.next (λ i entry blob e k some. (led i entry blob e k some).0)

-- where all pages are void, they were given up
old-void : (plan : Plan) (ring : Ring) (entry : Entry) (blob : List ℕ) → list_any (nat_lt 0) ring.counts ≡ false →
    (entry.page < oldest ring) ⊎ ((oldest ring ≤ entry.page) × (slice_get ring.counts (entry.page - oldest ring) ≡ Some 1) × (entry.page + reach_of plan entry blob < ring.next)) → entry.page < oldest ring
old-void plan ring entry blob void (inl lt) = lt
old-void plan ring entry blob void (inr w) = absurd (false≢true (sym void ∙ any-at (nat_lt 0) ring.counts (entry.page - oldest ring) 1 w.1 refl))

pub held-old : (plan : Plan) (ring : Ring) (table : Table) → list_any (nat_lt 0) ring.counts ≡ false → AreIn plan ring table.entries → blob_end table ≤ oldest ring
held-old plan ring table void inside = blob_end-most table (oldest ring) (λ i entry blob e k some. old-void plan ring entry blob void (inside i entry blob e k some))

-- ---- what a mount keeps of the ring

-- .. and where no blob began on a void page, that none does
pub record IsMounting (Left : Type 0) (plan : Plan) (table : Table) (ring : Ring) : Type 0 where
  pub is : table.var ≡ Some ring
  pub numbered : length ring.counts ≤ ring.next
  pub led : AreLed plan ring table.entries
  pub inside : Left → AreIn plan ring table.entries
  pub stand : BlobsOf plan table ring

pub mounting-erased : (Left : Type 0) (plan : Plan) (table : Table) (ring : Ring) → IsMounting Left plan table ring → IsMounting Left plan (with_ring VarRing erased table) (erased ring)
mounting-erased Left plan table ring h = record {
  is = ap (option_map erased) h.is;
  numbered = h.numbered;
  led = h.led;
  inside = h.inside;
  stand = blobs-as plan table (with_ring VarRing erased table) ring (erased ring) (λ i entry e. (i, e)) (λ page. refl) (λ number. refl) h.stand;
}

pub mounting-voided : (Left : Type 0) (plan : Plan) (table : Table) (ring : Ring) → IsShape (shape_of plan VarRing) → IsMounting Left plan table ring → IsMounting Left plan (seal_page plan VarRing 0 table) (sealed (shape_of plan VarRing) 0 ring)
mounting-voided Left plan table ring shape h = record {
  is = ap (option_map (sealed (shape_of plan VarRing) 0)) h.is;
  numbered = numbered-sealed (shape_of plan VarRing) 0 ring shape h.numbered;
  led = led-voided plan ring table.entries shape h.numbered h.led;
  inside = λ left. in-voided plan ring table.entries shape h.numbered (h.inside left);
  stand = var-voided plan table ring shape h.is h.numbered h.led h.stand;
}

-- a ring whose pages are all void, with its numbers behind those that blobs name
abbrev behind_blobs : Plan → Table → Ring → Ring
behind_blobs plan table ring = record ring { next = least_alike (plan.var_blocks * plan.geometry.block) ring.next (blob_end table + length ring.counts) }

-- where all pages are void, no blob stands, and the numbers begin behind them
pub mounting-renumbered : (Left : Type 0) (plan : Plan) (table : Table) (ring : Ring) → IsMounting Left plan table ring → IsMounting Left plan (renumber plan VarRing table) (renumbered (shape_of plan VarRing) (blob_end table) ring)
mounting-renumbered Left plan table ring h =
    let is : (renumber plan VarRing table).var ≡ Some (renumbered (shape_of plan VarRing) (blob_end table) ring) = ap (option_map (renumbered (shape_of plan VarRing) (blob_end table))) h.is in
    by_any (list_any (nat_lt 0) ring.counts) refl is
  where
    higher : blob_end table + length ring.counts ≤ least_alike (plan.var_blocks * plan.geometry.block) ring.next (blob_end table + length ring.counts)
    higher = omega arith

    below : (i : ℕ) (entry : Entry) (blob : List ℕ) → slice_get table.entries i ≡ Some entry → entry.kept.blob ≡ Some blob → 0 < length blob → entry.page < oldest (behind_blobs plan table ring)
    below i entry blob e k some = let lt = blob-below table i entry blob e k some in omega (arith, lt, higher)

    by_any : (b : Bool) → list_any (nat_lt 0) ring.counts ≡ b → (renumber plan VarRing table).var ≡ Some (cond b ring (behind_blobs plan table ring)) → IsMounting Left plan (renumber plan VarRing table) (cond b ring (behind_blobs plan table ring))
    by_any true e is = record {
      is = is;
      numbered = h.numbered;
      led = h.led;
      inside = h.inside;
      stand = blobs-as plan table (renumber plan VarRing table) ring ring (λ i entry e. (i, e)) (λ page. refl) (λ number. refl) h.stand;
    }
    by_any false e is = record {
      is = is;
      numbered = omega (arith, higher);
      led = λ i entry blob e k some.
          let lt = below i entry blob e k some in
          (omega (arith, lt), λ here. absurd (false≢true (sym (stands-not (behind_blobs plan table ring) entry.page lt) ∙ here)));
      inside = λ left i entry blob e k some. inl (below i entry blob e k some);
      stand = blobs-none plan (renumber plan VarRing table) (behind_blobs plan table ring) (λ i entry blob e k some. below i entry blob e k some);
    }

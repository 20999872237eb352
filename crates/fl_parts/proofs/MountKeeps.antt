-- What a mount does to the data ring, and what it keeps of the facts of its table: of those on which it rests, and of all of them.
use Rattle.std.proofs.Common.{◌≡◌, ℕ, ◌+◌, ◌-◌, ◌*◌, ◌%◌, ◌<◌, ◌≤◌, ◌⊎◌, inl, inr, Bool, true, false, cond, nat_lt, Option, Some, None, List, [], ◌∷◌, length, take, drop, refl, sym, ◌∙◌, ap, subst, arith, IsTrue}
use Rattle.std.proofs.Math.Nat.{mod-lt, add-mod_right, mul-le-mul_right}
use Rattle.std.proofs.lemmas.Bool.{cases_lt, false≢true}
use Rattle.std.specs.List.{slice_get, sum, list_any}
use Rattle.fl_base.proofs.Tests.{and_false}
use Rattle.fl_model.specs.Facts.{is_some_ring, counts_in}
use Rattle.fl_model.specs.Index.{IndexPage}
use Rattle.fl_model.specs.Mount.{index_end, least_alike, renumber}
use Rattle.fl_model.specs.Record.{Plan, has_index}
use Rattle.fl_model.specs.Ring.{IsShape, Ring, IsRing, oldest, sealed, given_up, erased}
use Rattle.fl_model.specs.Table.{Table, Entry, DataRing, shape_of, with_ring, seal_page, spent_from, full_pages, written}
use Rattle.fl_model.proofs.EntriesStayTold.{telling-stays}
use Rattle.fl_model.proofs.Kept.{AreKept}
use Rattle.fl_model.proofs.RingFactsStay.{ring-sealed}
use Rattle.fl_model.proofs.Sealed.{sealed-next, sealed-torn, kept-sealed, entries_after}
use Rattle.fl_model.proofs.TableSeals.{all-written}
use Rattle.fl_ring.proofs.Modulo.{apart}
use Rattle.fl_ring.proofs.SamePlaces.{least_is_alike}
use Rattle.fl_parts.specs.Mountable.{AreVoid}
use Rattle.fl_parts.proofs.BlobTables.{AreInPages}
use Rattle.fl_parts.proofs.Loose.{IsLoose, IsStrict, led-as, listed-as, listed-end, loose-of, plain-from}
use Rattle.fl_parts.proofs.Plain.{IsPlainTable, least-below, pages-front, pages-rest, sealed-oldest, stand-as, stand_given, tell-none}
use Rattle.fl_parts.proofs.VarFacts.{front-of, rest-of}

-- the block ahead is erased
pub loose-erase : (plan : Plan) (table : Table) → IsLoose plan table → IsLoose plan (with_ring DataRing erased table)
loose-erase plan table h = record {
  plain = h.plain;
  bare = h.bare;
  rows = record {
    not_negative = h.rows.not_negative;
    whole_blocks = h.rows.whole_blocks;
    whole_rounds = h.rows.whole_rounds;
    kept = h.rows.kept;
    kept_at_end = h.rows.kept_at_end;
    dirty_at_end = λ d. absurd (false≢true d);
    not_both = λ both. and_false table.rows.torn both;
  };
  kept = h.kept;
  index = listed-as plan table table.entries (erased table.rows) table.pending table.buffered table.waiting table.points h.index h.index.listed h.index.tell h.index.wait;
  blobs = led-as plan table table.entries (erased table.rows) table.pending table.waiting table.points (λ i entry e. (i, e)) (stand-as plan table (with_ring DataRing erased table) refl (λ ring number. refl) h.blobs.stand) h.blobs;
  number = h.number;
}

-- a torn page is voided
pub loose-void : (plan : Plan) (table : Table) → IsShape (shape_of plan DataRing) → IsLoose plan table → table.pending ≡ 0 → table.waiting ≡ [] → table.rows.torn ≡ true → table.rows.dirty ≡ false →
    IsLoose plan (seal_page plan DataRing 0 table)
loose-void plan table shape h none idle torn clean =
    let ring = sealed (shape_of plan DataRing) 0 table.rows in
    let after = seal_page plan DataRing 0 table in
    let next : ring.next ≡ table.rows.next + 1 = sealed-next (shape_of plan DataRing) 0 table.rows in
    let whole = sealed-torn (shape_of plan DataRing) 0 table.rows in
    let few : table.rows.next + 1 ≤ 4294967295 = subst (λ b. table.rows.next + (cond b 1 0) ≤ 4294967295) torn h.number in
    record {
      plain = h.plain;
      bare = h.bare;
      rows = ring-sealed (shape_of plan DataRing) 0 table.rows shape h.rows clean;
      kept = subst (λ n. AreKept plan (entries_after (shape_of plan DataRing) 0 table.rows table.entries) ring.counts n) (sym none)
          (kept-sealed plan (shape_of plan DataRing) 0 table.rows table.entries (subst (λ n. AreKept plan table.entries table.rows.counts n) none h.kept) (omega arith));
      index = listed-as plan table after.entries ring table.pending table.buffered table.waiting table.points h.index (omega (arith, h.index.listed, next))
          (λ k page e. telling-stays.sealed plan table 0 page.first page.entries h.rows.not_negative (let end = listed-end plan table h.index k page e in omega (arith, end, h.index.listed)) (h.index.tell k page e))
          (tell-none plan after (ring.next - length table.waiting) table.waiting idle);
      blobs = led-as plan table after.entries ring table.pending table.waiting table.points within (stand_given plan table table 0 refl (λ ring number. refl) h.blobs.stand) h.blobs;
      number = rw (whole, next) (omega (arith, few));
    }
  where
    within : (i : ℕ) (entry : Entry) → slice_get (take (length (seal_page plan DataRing 0 table).entries - table.pending) (seal_page plan DataRing 0 table).entries) i ≡ Some entry → (j : ℕ) × (slice_get (written table) j ≡ Some entry)
    within i entry e =
        let gone = sum (given_up (shape_of plan DataRing) 0 table.rows) in
        let f = front-of (length (seal_page plan DataRing 0 table).entries - table.pending) (drop gone table.entries) i entry e in
        let r = rest-of gone table.entries f.0 entry f.1 in
        (r.0, ap (λ (es : List Entry). slice_get es r.0) (all-written table none) ∙ r.1)

pub plain-void : (plan : Plan) (table : Table) → IsShape (shape_of plan DataRing) → IsPlainTable plan table → table.pending ≡ 0 → table.waiting ≡ [] → table.rows.torn ≡ true → table.rows.dirty ≡ false →
    IsPlainTable plan (seal_page plan DataRing 0 table)
plain-void plan table shape h none idle torn clean =
    let ring = sealed (shape_of plan DataRing) 0 table.rows in
    let after = seal_page plan DataRing 0 table in
    let next : ring.next ≡ table.rows.next + 1 = sealed-next (shape_of plan DataRing) 0 table.rows in
    let whole = sealed-torn (shape_of plan DataRing) 0 table.rows in
    let few : table.rows.next + 1 ≤ 4294967292 = subst (λ b. table.rows.next + (cond b 1 0) ≤ 4294967292) torn h.number in
    let older = sealed-oldest (shape_of plan DataRing) 0 table.rows h.rows.not_negative in
    plain-from plan after (loose-void plan table shape (loose-of plan table h) none idle torn clean) (record {
      few_pending = h.few_pending;
      waiting = h.index.waiting;
      number = rw (whole, next) (omega (arith, few));
      number_pending = λ some. absurd (some none);
      index = h.index.number;
      index_pending = h.index.number_pending;
      listed = λ lt kept.
          let was = h.index.number_listed (omega (arith, lt, older)) (omega (arith, lt, older, h.index.listed)) in
          let was_one : table.rows.next + 1 ≤ spent_from + 1 = subst (λ b. table.rows.next + (cond b 1 0) ≤ spent_from + 1) torn was in
          rw (whole, next) (omega (arith, was_one));
      blobs = pages-front plan table after.entries (length after.entries - table.pending) (pages-rest plan table table.entries (sum (given_up (shape_of plan DataRing) 0 table.rows))
          (subst (AreInPages plan table) (all-written table none) h.blobs.blobs));
      var = h.blobs.number;
      var_pending = h.blobs.number_pending;
    })

-- the next number of a ring whose pages are all void goes up by no more than the ring's room
least_near : (room next least : ℕ) → 0 < room → next < least → least < next + room → least_alike room next least ≤ next + room
least_near room next least some low high = by_order (cases_lt (next + room) (least_alike room next least))
  where
    small : (next % room + room - least % room) % room < room
    small = mod-lt (next % room + room - least % room) some

    by_order : (next + room < least_alike room next least) ⊎ (least_alike room next least ≤ next + room) → least_alike room next least ≤ next + room
    by_order (inl lt) = absurd (apart room (next + room) (least_alike room next least) lt (omega (arith, small, high)) (add-mod_right next room ∙ sym (least_is_alike room next least some)))
    by_order (inr le) = le

-- the next number of a data ring whose pages are all void
abbrev next_alike : Plan → Table → ℕ
next_alike plan table = least_alike (plan.data_blocks * plan.geometry.block) table.rows.next (index_end plan table + length table.rows.counts)

-- the data ring is renumbered
module _ (plan : Plan) (table : Table) (shape : IsShape (shape_of plan DataRing)) (most : IsTrue (has_index plan) → plan.data_blocks * plan.geometry.block + 6 ≤ 65536) (few : length table.rows.counts < plan.data_blocks * plan.geometry.block)
    (h : IsLoose plan table) (ring : IsRing (shape_of plan DataRing) (renumber plan DataRing table).rows) (idle : table.waiting ≡ []) where
  some : 0 < plan.data_blocks * plan.geometry.block
  some = let k : 3 * plan.geometry.block ≤ plan.data_blocks * plan.geometry.block = mul-le-mul_right plan.geometry.block shape.blocks in omega (arith, k, shape.pages)

  indexed : 0 < index_end plan table → IsTrue (has_index plan)
  indexed lt = by_index table.index h.index.has h.index.each (has_some table.index_pages lt)
    where
      has_some : (pages : List IndexPage) → 0 < index_end plan (record table { index_pages = pages }) → 0 < length pages
      has_some [] lt = absurd (omega (arith, lt))
      has_some (x ∷ xs) lt = omega arith

      by_index : (o : Option Ring) → is_some_ring o ≡ has_index plan → length table.index_pages ≡ full_pages (counts_in o) → 0 < length table.index_pages → IsTrue (has_index plan)
      by_index None e k lt = absurd (omega (arith, k, lt))
      by_index (Some r) e k lt = sym e

  -- it is the same or less, or follows the pages that the index lists
  number : (n : ℕ) → 4294967292 ≤ n → table.rows.next + (cond table.rows.torn 1 0) ≤ n → (oldest table.rows < index_end plan table → 0 < length table.rows.counts → table.rows.next + (cond table.rows.torn 1 0) ≤ spent_from + 1) →
      next_alike plan table + (cond table.rows.torn 1 0) ≤ n
  number n least_n fits listed = elim (cases_lt table.rows.next (index_end plan table + length table.rows.counts)) [
    | inl above ↦
        let near = least_near (plan.data_blocks * plan.geometry.block) table.rows.next (index_end plan table + length table.rows.counts) some above (omega (arith, few, h.index.listed)) in
        let was = listed (omega (arith, above, h.rows.not_negative)) (omega (arith, above, h.index.listed)) in
        let m = most (indexed (omega (arith, above, h.rows.not_negative))) in
        omega (arith, near, was, m, least_n)
    | inr low ↦ let below = least-below (plan.data_blocks * plan.geometry.block) table.rows.next (index_end plan table + length table.rows.counts) some low in omega (arith, below, fits)
  ]

  least : index_end plan table + length table.rows.counts ≤ next_alike plan table
  least = omega arith

  abbrev anew : Table
  anew = record table { rows = record table.rows { next = next_alike plan table } }

  pub loose-renumber : (AreVoid table.rows.counts → oldest table.rows < index_end plan table → 0 < length table.rows.counts → table.rows.next + (cond table.rows.torn 1 0) ≤ spent_from + 1) → IsLoose plan (renumber plan DataRing table)
  loose-renumber behind = by_test (list_any (nat_lt 0) table.rows.counts) refl ring
    where
      by_test : (t : Bool) → list_any (nat_lt 0) table.rows.counts ≡ t → IsRing (shape_of plan DataRing) (cond t table.rows (record table.rows { next = next_alike plan table })) → IsLoose plan (record table { rows = cond t table.rows (record table.rows { next = next_alike plan table }) })
      by_test true is r = h
      by_test false is r = record {
        plain = h.plain;
        bare = h.bare;
        rows = r;
        kept = h.kept;
        index = listed-as plan table table.entries (record table.rows { next = next_alike plan table }) table.pending table.buffered table.waiting table.points h.index (omega (arith, least, ap length idle))
            (λ k page e j n lt here. let end = listed-end plan table h.index k page e in absurd (omega (arith, lt, here, end, least)))
            (tell-none plan anew (next_alike plan table - length table.waiting) table.waiting idle);
        blobs = led-as plan table table.entries (record table.rows { next = next_alike plan table }) table.pending table.waiting table.points (λ i entry e. (i, e)) (stand-as plan table anew refl (λ ring number. refl) h.blobs.stand) h.blobs;
        number = number 4294967295 (omega arith) h.number (behind is);
      }

  pub plain-renumber : IsPlainTable plan table → table.pending ≡ 0 → IsPlainTable plan (renumber plan DataRing table)
  plain-renumber p none = plain-from plan (renumber plan DataRing table) (loose-renumber (λ void. p.index.number_listed)) (by_test (list_any (nat_lt 0) table.rows.counts))
    where
      by_test : (t : Bool) → IsStrict plan (record table { rows = cond t table.rows (record table.rows { next = next_alike plan table }) })
      by_test true = record {
        few_pending = p.few_pending;
        waiting = p.index.waiting;
        number = p.number;
        number_pending = p.number_pending;
        index = p.index.number;
        index_pending = p.index.number_pending;
        listed = p.index.number_listed;
        blobs = p.blobs.blobs;
        var = p.blobs.number;
        var_pending = p.blobs.number_pending;
      }
      by_test false = record {
        few_pending = p.few_pending;
        waiting = p.index.waiting;
        number = number 4294967292 (omega arith) p.number p.index.number_listed;
        number_pending = λ some. absurd (some none);
        index = p.index.number;
        index_pending = p.index.number_pending;
        listed = λ lt more. absurd (omega (arith, lt, least));
        blobs = p.blobs.blobs;
        var = p.blobs.number;
        var_pending = p.blobs.number_pending;
      }

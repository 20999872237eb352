-- The calls of a lookup, and what they leave in the buffer.
use Rattle.std.proofs.Common.{◌≡◌, ◌⊎◌, inl, inr, ℕ, zero, suc, ◌+◌, ◌-◌, ◌<◌, ◌≤◌, Bool, true, false, cond, ◌==◌, nat_lt, Option, Some, None, Result, Ok, Err, OnOk, ◌∷◌, take, refl, sym, ◌∙◌, ap, subst, arith}
use Rattle.std.proofs.lemmas.Bool.{cases_lt, lt-ltb, false≢true, le-ltb}
use Rattle.std.proofs.lemmas.List.Sums.{sum_by-cons}
use Rattle.std.specs.List.{slice_get, range_with_len, count_by}
use Rattle.std.specs.Option.{option_map, unwrap_or}
use Rattle.std.proofs.lemmas.Option.{none-some, same_Some}
use Rattle.fl_base.proofs.Tests.{zero_case}
use Rattle.fl_flash.specs.Buffer.{BufferState}
use Rattle.fl_flash.specs.Flash.{FlashState, page_at}
use Rattle.fl_model.specs.Record.{Plan}
use Rattle.fl_model.specs.Table.{Table, full_pages, firsts}
use Rattle.fl_page.specs.declared.fault.ReadFault.{ReadFault}
use Rattle.fl_page.specs.declared.fault.ReadFault.TheVariants.{Flash, BadPage}
use Rattle.fl_ring.specs.Place.{shape_of, oldest_of, next_of}
use Rattle.fl_ring.specs.Ring.{Shape, place}
use Rattle.fl_ring.specs.declared.ring.Ring.{Ring}
use Rattle.fl_index.specs.declared.index.BitmapIndex.{BitmapIndex}
use Rattle.fl_index.specs.Looking.{looked_at, listing_by, IsHeld, IsFresh, IfRead, ends_above, unread, HoldsLast, IsScanning, ScansOn}
use Rattle.fl_index.specs.Memory.{first_in, is_waiting, next_in, oldest_in, per_page, listing_in, place_in}
use Rattle.fl_index.specs.Page.{page_number}
use Rattle.fl_index.specs.declared.page.Found.{Found}
use Rattle.fl_index.specs.Standing.{Stands}
use Rattle.fl_model.proofs.FullPages.{full-below}
use Rattle.fl_index.proofs.Held.{listed-by, listed-first}
use Rattle.fl_index.proofs.ListingPages.{IsListing, listing-is}
use Rattle.fl_index.proofs.LookupsOfTable.{KeptPage, kept-page, ListingPage, listing-page, PageIs, page-is, X_is}

pub some-of : {A : Type 0} (b : Bool) (x y : A) → ◌≡◌ {A = Option A} (cond b (Some x) None) (Some y) → (b ≡ true) × (y ≡ x)
some-of {A} true x y h = (refl, sym (same_Some x y h))
some-of {A} false x y h = absurd (none-some y h)

pub none-of : {A : Type 0} (b : Bool) (x : A) → ◌≡◌ {A = Option A} (cond b (Some x) None) None → b ≡ false
none-of {A} true x h = absurd (none h)
  where
    none : ◌≡◌ {A = Option A} (Some x) None → ⊥
    none e = cc
none-of false x h = refl

pub read-any : (result : Result (Option Found) ReadFault) (P : Type 0) → P → IfRead result P
read-any (Ok found) P p = p
read-any (Err (Flash fault)) P p = tt
read-any (Err (BadPage bad)) P p = p

pub ok-any : (result : Result (Option Found) ReadFault) (P : Type 0) → P → OnOk result P
ok-any (Ok found) P p = p
ok-any (Err fault) P p = tt

module _ (t : BitmapIndex) (ring : Ring) (has : t.ring ≡ Some ring) where
  pub place-same : (page : ℕ) → place (shape_of ring) page ≡ place_in t page
  place-same page = ap (λ (r : Shape). place r page) (t.lies ring has)

  pub next-same : next_in t ≡ next_of ring
  next-same = ap (λ (o : Option Ring). unwrap_or (option_map (λ r. next_of r) o) 0) has

  pub oldest-same : oldest_in t ≡ oldest_of ring
  oldest-same = ap (λ (o : Option Ring). unwrap_or (option_map (λ r. oldest_of r) o) 0) has

  module _ (number page : ℕ) (old : BufferState) (listing : listing_by t number old ≡ Some page) where
    pub looked-here : is_waiting t number ≡ false → looked_at t number old ≡ Some page
    looked-here waits = ap (λ b. cond b None (listing_by t number old)) waits ∙ listing

    pub kept-here : (oldest_in t ≤ page) × (page < next_in t)
    kept-here = (listed-by t number page old listing).kept

    pub listing-here : (f : FlashState) (first : ℕ) (plan : Plan) (table : Table) → Stands t f first plan table → listing_in t number ≡ Some page
    listing-here f first plan table stands = listed-first t f first plan table stands number page (listed-by t number page old listing)

    module _ (f : FlashState) (new : BufferState) where
      pub held-is : old.holds ≡ Some (place (shape_of ring) page) → page_number old.bytes ≡ page → IsHeld t page old
      held-is holds is = record { kept = kept-here; place = holds ∙ ap (λ (n : ℕ). Some n) (place-same page); number_is = is }

      -- the page's bytes are in the buffer
      pub here-bytes : IsFresh t f old →
          (new.bytes ≡ page_at f (place (shape_of ring) page)) ⊎ ((old.holds ≡ Some (place (shape_of ring) page)) × (page_number old.bytes ≡ page) × (new ≡ old)) → new.bytes ≡ page_at f (place_in t page)
      here-bytes fresh (inl e) = e ∙ ap (page_at f) (place-same page)
      here-bytes fresh (inr h) = ap (λ (b : BufferState). b.bytes) h.2 ∙ fresh page (held-is h.0 h.1)

-- pages from one on: those before a page that passes the test are fewer
count-later : (p : ℕ → Bool) (n m from page : ℕ) → from + n ≡ page → p page ≡ true → count_by p (range_with_len (page + 1) m) + 1 ≤ count_by p (range_with_len from (n + suc m))
count-later p zero m from page e h =
    let one = sum_by-cons (λ x. cond (p x) 1 0) page (range_with_len (page + 1) m) in
    let some : ◌≡◌ {A = ℕ} (cond (p page) 1 0) 1 = ap (λ (b : Bool). cond b 1 0) h in
    let same : count_by p (range_with_len from (0 + suc m)) ≡ count_by p (page ∷ range_with_len (page + 1) m) =
    ap (λ k. count_by p (range_with_len from k)) (let s : 0 + suc m ≡ suc m = omega arith in s) ∙ ap (λ a. count_by p (range_with_len a (suc m))) (omega (arith, e)) in
    omega (arith, one, some, same)
count-later p (suc n) m from page e h =
    let rest = count-later p n m (from + 1) page (omega (arith, e)) h in
    let one = sum_by-cons (λ x. cond (p x) 1 0) from (range_with_len (from + 1) (n + suc m)) in
    let same : count_by p (range_with_len from (suc n + suc m)) ≡ count_by p (from ∷ range_with_len (from + 1) (n + suc m)) =
    ap (λ k. count_by p (range_with_len from k)) (let s : suc n + suc m ≡ suc (n + suc m) = omega arith in s) in
    omega (arith, one, same, rest)

pub unread-later : (t : BitmapIndex) (number from page : ℕ) → from ≤ page → page < next_in t → ends_above (per_page t) number (first_in t page) ≡ true → unread t number (page + 1) + 1 ≤ unread t number from
unread-later t number from page low high h =
    let n = page - from in
    let m = next_in t - (page + 1) in
    subst (λ k. unread t number (page + 1) + 1 ≤ count_by (λ n. ends_above (per_page t) number (first_in t n)) (range_with_len from k)) (let s : n + suc m ≡ next_in t - from = omega (arith, low, high) in s)
    (count-later (λ n. ends_above (per_page t) number (first_in t n)) n m from page (omega (arith, low)) h)

module _ (t : BitmapIndex) (f : FlashState) (first : ℕ) (plan : Plan) (table : Table) (stands : Stands t f first plan table) (number page : ℕ) (listing : listing_in t number ≡ Some page) where
  at-page : IsListing (per_page t) (first_in t) number (oldest_in t) (next_in t - oldest_in t) page
  at-page = listing-is (per_page t) (first_in t) number (next_in t - oldest_in t) (oldest_in t) page listing

  pub within : (oldest_in t ≤ page) × (page < next_in t)
  within = (at-page.low, omega (arith, at-page.high, at-page.low))

  l : ListingPage t f first plan table stands number page
  l = listing-page t f first plan table stands number page within.0 within.1 at-page.here

  pub ends : ends_above (per_page t) number (first_in t page) ≡ true
  ends = ap (ends_above (per_page t) number) l.memory ∙ lt-ltb number (l.first_page + per_page t) (omega (arith, l.high, X_is t f first plan table stands))

  -- the kept index pages before it end at or below the number
  pub before-it : (k : ℕ) → oldest_in t ≤ k → k < page → ends_above (per_page t) number (first_in t k) ≡ false
  before-it k low high = by_first (first_in t k) refl (kept-page t f first plan table stands k low (omega (arith, high, within.1)))
    where
      zero_none : (c : ℕ) → (0 < c) ⊎ (c ≤ 0)
      zero_none c = cases_lt 0 c

      by_first : (x : Option ℕ) → first_in t k ≡ x → KeptPage t f first plan table stands k → ends_above (per_page t) number x ≡ false
      by_first None e p = refl
      by_first (Some x) e p = by_count (cases_lt 0 p.c)
        where
          by_count : (0 < p.c) ⊎ (p.c ≤ 0) → nat_lt number (x + per_page t) ≡ false
          by_count (inr z) = let c0 : p.c ≡ 0 = omega (arith, z) in absurd (none-some x (sym (p.memory ∙ ap (λ c. cond (c == 0) None (slice_get (firsts table) (full_pages (take p.i stands.in_ring.ring.counts)))) c0) ∙ e))
          by_count (inl some) =
              let is : slice_get (firsts table) (full_pages (take p.i stands.in_ring.ring.counts)) ≡ Some x = sym (zero_case p.c some (slice_get (firsts table) (full_pages (take p.i stands.in_ring.ring.counts)))) ∙ (sym p.memory ∙ e) in
              let less : full_pages (take p.i stands.in_ring.ring.counts) < full_pages (take l.kept.i stands.in_ring.ring.counts) =
              let k = full-below stands.in_ring.ring.counts p.i l.kept.i p.c (omega (arith, p.at, l.kept.at, high)) p.here some in omega (arith, k) in
              let apart = stands.in_ring.facts.firsts _ _ x l.first_page less is l.listed in
              le-ltb number (x + per_page t) (omega (arith, apart, l.low, X_is t f first plan table stands))

  module _ (old after : BufferState) (bytes : after.bytes ≡ page_at f (place_in t page)) where
    here : PageIs t f first plan table stands number page after.bytes
    here = page-is t f first plan table stands number page listing after.bytes bytes

    -- the scan goes on
    pub scans-on : (from : ℕ) (a b : FlashState) → IsScanning t number from old → b.work.reads ≤ a.work.reads + 1 → after.holds ≡ Some (place_in t page) →
        (IsHeld t page old → (b ≡ a) × (after ≡ old)) → ScansOn t number from a b after
    scans-on from a b scanning reads holds held = by_buffer scanning
      where
        is_held : IsHeld t page after
        is_held = record { kept = within; place = holds; number_is = here.is.good.number_is }

        read : from ≤ page → ScansOn t number from a b after
        read low = record {
          next = page + 1;
          scanning = inr (page, refl, record { is_held = is_held; before = before-it });
          once = omega (arith, reads, unread-later t number from page low within.1 ends);
          fewer = omega (arith, unread-later t number from page low within.1 ends);
        }

        stays : (h : ℕ) → from ≡ h + 1 → HoldsLast t number h old → h ≡ page → ScansOn t number from a b after
        stays h e last same =
            let s = held (subst (λ n. IsHeld t n old) same last.is_held) in
            record {
              next = from;
              scanning = inr (h, e, subst (λ (x : BufferState). HoldsLast t number h x) (sym s.1) last);
              once = let r = ap (λ (x : FlashState). x.work.reads) s.0 in omega (arith, r);
              fewer = omega arith;
            }

        by_buffer : IsScanning t number from old → ScansOn t number from a b after
        by_buffer (inl none) = read (omega (arith, none.1, within.0))
        by_buffer (inr h) = elim (cases_lt page h.0) [
          | inl below ↦ absurd (false≢true (sym (h.2.before page within.0 below) ∙ ends))
          | inr above ↦ elim (cases_lt h.0 page) [ inl more ↦ read (omega (arith, h.1, more)) | inr last ↦ stays h.0 h.1 h.2 (omega (arith, above, last)) ]
        ]

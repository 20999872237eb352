-- The index page in a buffer, and that it is the only one that lists a data page.
use Rattle.std.proofs.Common.{◌≡◌, inl, inr, ℕ, ◌-◌, ◌<◌, ◌≤◌, Bool, true, false, cond, ◌&&◌, nat_le, nat_lt, Option, Some, None, refl, sym, ◌∙◌, ap, arith}
use Rattle.std.proofs.lemmas.Bool.{cases_lt, leb-true, ltb-true, eqb-true, false≢true, and_parts}
use Rattle.fl_flash.specs.Buffer.{BufferState}
use Rattle.fl_flash.specs.Flash.{FlashState}
use Rattle.fl_model.specs.Record.{Plan}
use Rattle.fl_model.specs.Table.{Table}
use Rattle.fl_index.specs.declared.index.BitmapIndex.{BitmapIndex}
use Rattle.fl_index.specs.Looking.{IsHeld, is_page, is_kept, held_lists, listing_by}
use Rattle.fl_index.specs.Memory.{first_in, next_in, oldest_in, per_page, lists, listing_in, place_in}
use Rattle.fl_index.specs.Page.{page_number}
use Rattle.fl_index.specs.Standing.{Stands}
use Rattle.fl_model.proofs.FullPages.{full-below}
use Rattle.fl_index.proofs.ListingPages.{listing-is, listing-no}
use Rattle.fl_index.proofs.LookupsOfTable.{ListingPage, listing-page}

pub page-some : (number : ℕ) (o : Option ℕ) → is_page number o ≡ true → o ≡ Some number
page-some number None e = absurd (false≢true e)
page-some number (Some page) e = ap (λ (n : ℕ). Some n) (eqb-true page number e)

-- the page in the buffer is kept
pub kept-held : (t : BitmapIndex) (buf : BufferState) → is_kept t buf ≡ true → IsHeld t (page_number buf.bytes) buf
kept-held t buf e =
    let b = and_parts (nat_le (oldest_in t) (page_number buf.bytes) && nat_lt (page_number buf.bytes) (next_in t)) (is_page (place_in t (page_number buf.bytes)) buf.holds) e in
    let c = and_parts (nat_le (oldest_in t) (page_number buf.bytes)) (nat_lt (page_number buf.bytes) (next_in t)) b.0 in
    record {
      kept = (leb-true (oldest_in t) (page_number buf.bytes) c.0, ltb-true (page_number buf.bytes) (next_in t) c.1);
      place = page-some (place_in t (page_number buf.bytes)) buf.holds b.1;
      number_is = refl;
    }

-- what is looked at is kept and lists the data page
pub record IsListed (t : BitmapIndex) (number page : ℕ) : Type 0 where
  pub kept : (oldest_in t ≤ page) × (page < next_in t)
  pub here : lists (per_page t) number (first_in t page) ≡ true

pub listed-in : (t : BitmapIndex) (number page : ℕ) → listing_in t number ≡ Some page → IsListed t number page
listed-in t number page e =
    let at = listing-is (per_page t) (first_in t) number (next_in t - oldest_in t) (oldest_in t) page e in
    record { kept = (at.low, omega (arith, at.low, at.high)); here = at.here }

pub listed-by : (t : BitmapIndex) (number page : ℕ) (buf : BufferState) → listing_by t number buf ≡ Some page → IsListed t number page
listed-by t number page buf e = by_held (held_lists t number buf) refl e
  where
    same : {n : ℕ} → ◌≡◌ {A = Option ℕ} (Some n) (Some page) → n ≡ page
    same e = cc

    by_held : (b : Bool) → held_lists t number buf ≡ b → cond b (Some (page_number buf.bytes)) (listing_in t number) ≡ Some page → IsListed t number page
    by_held false h e = listed-in t number page e
    by_held true h e =
        let b = and_parts (is_kept t buf) (lists (per_page t) number (first_in t (page_number buf.bytes))) h in
        let at = same e in
        record {
          kept = let k = (kept-held t buf b.0).kept in (omega (arith, k.0, at), omega (arith, k.1, at));
          here = ap (λ n. lists (per_page t) number (first_in t n)) (sym at) ∙ b.1;
        }

-- no index page lists it
pub none-by : (t : BitmapIndex) (number : ℕ) (buf : BufferState) → listing_by t number buf ≡ None → listing_in t number ≡ None
none-by t number buf e = by_held (held_lists t number buf) e
  where
    none : {n : ℕ} → ◌≡◌ {A = Option ℕ} (Some n) None → ⊥
    none e = cc

    by_held : (b : Bool) → cond b (Some (page_number buf.bytes)) (listing_in t number) ≡ None → listing_in t number ≡ None
    by_held false e = e
    by_held true e = absurd (none e)

module _ (t : BitmapIndex) (f : FlashState) (first : ℕ) (plan : Plan) (table : Table) (stands : Stands t f first plan table) where
  one-lists : (number a b : ℕ) → ListingPage t f first plan table stands number a → ListingPage t f first plan table stands number b → a < b → ⊥
  one-lists number a b la lb lt =
      let less = full-below stands.in_ring.ring.counts la.kept.i lb.kept.i la.kept.c (omega (arith, la.kept.at, lb.kept.at, lt)) la.kept.here la.some in
      let apart = stands.in_ring.facts.firsts _ _ la.first_page lb.first_page (omega (arith, less)) la.listed lb.listed in
      omega (arith, apart, lb.low, la.high)

  -- the page that lists a data page is the first that does
  pub listed-first : (number page : ℕ) → IsListed t number page → listing_in t number ≡ Some page
  listed-first number page l = by_listing (listing_in t number) refl
    where
      by_listing : (o : Option ℕ) → listing_in t number ≡ o → o ≡ Some page
      by_listing None e =
          absurd (false≢true (sym (listing-no (per_page t) (first_in t) number (next_in t - oldest_in t) (oldest_in t) page e l.kept.0 (omega (arith, l.kept.0, l.kept.1))) ∙ l.here))
      by_listing (Some other) e =
          let k = listed-in t number other e in
          let a = listing-page t f first plan table stands number other k.kept.0 k.kept.1 k.here in
          let b = listing-page t f first plan table stands number page l.kept.0 l.kept.1 l.here in
          elim (cases_lt other page) [
            | inl less ↦ absurd (one-lists number other page a b less)
            | inr le ↦ elim (cases_lt page other) [
              | inl less ↦ absurd (one-lists number page other b a less)
              | inr ge ↦ let same : other ≡ page = omega (arith, le, ge) in ap (λ (n : ℕ). Some n) same
            ]
          ]

-- What a mount comes to as it reads.
use Rattle.std.proofs.Common.{◌≡◌, ℕ, zero, suc, ◌+◌, ◌-◌, ◌≤◌, Bool, true, false, cond, Option, Some, None, List, [], sym, ◌∙◌, ap, subst, refl, arith}
use Rattle.std.specs.Option.{is_none}
use Rattle.fl_flash.specs.Flash.{FlashState, page_at}
use Rattle.fl_model.specs.Layout.{Full}
use Rattle.fl_model.specs.Record.{RowLayout}
use Rattle.fl_frame.specs.Reads.{OnlyReads}
use Rattle.fl_ring.specs.Place.{shape_of, next_of, oldest_of}
use Rattle.fl_ring.specs.Ring.{place}
use Rattle.fl_ring.specs.declared.ring.Ring.{Ring}
use Rattle.fl_frame.proofs.ReadsInTurn.{same_page}
use Rattle.fl_find.specs.Index.{IndexOf}
use Rattle.fl_find.specs.declared.index.KeyIndex.{KeyIndex}
use Rattle.fl_index.specs.Memory.{form_in, next_in, oldest_in, per_page, place_in}
use Rattle.fl_index.specs.declared.index.BitmapIndex.{BitmapIndex}
use Rattle.fl_parts.specs.ByEntries.{Come, entry, unlisted_of, first_some, checks_from}
use Rattle.fl_parts.specs.Coming.{AreRowsOf, AreUnlisted, ComesBy, ComesTo, come_of, index_pages_of}
use Rattle.fl_parts.specs.Knowing.{KnowsWith, IsWithin}

-- the kept data pages stay where pages are only read
pub rows-still : (t : Come) (layout : RowLayout) (ring : Ring) (f g : FlashState) (n : ℕ) → OnlyReads f n g → AreRowsOf t layout ring f → AreRowsOf t layout ring g
rows-still t layout ring f g n reads is = record {
  layout_is = is.layout_is;
  rows = λ number. is.rows number ∙ sym (same_page f g n (place (shape_of ring) number) reads);
  oldest = is.oldest;
  pages = is.pages;
}

-- one page more that is listed or not
pub more-unlisted : (t : Come) (m number after : ℕ) → number ≡ t.oldest + m → after ≡ suc m → unlisted_of t t.oldest after ≡ unlisted_of t t.oldest m + cond (is_none (entry t number)) 1 0
more-unlisted t m number after at more = ap (unlisted_of t t.oldest) more ∙ ap (λ p. unlisted_of t t.oldest m + cond (is_none (entry t p)) 1 0) (sym at)

-- .. and so many more that no index page lists
pub unlisted-more : (t : Come) (n m : ℕ) → AreUnlisted t (t.oldest + n) → n + m ≤ t.pages → unlisted_of t t.oldest (n + m) ≡ unlisted_of t t.oldest n + m
unlisted-more t n zero none le = let e : n + 0 ≡ n = omega arith in omega (arith, ap (unlisted_of t t.oldest) e)
unlisted-more t n (suc m) none le =
    let before = unlisted-more t n m none (omega (arith, le)) in
    let here : entry t (t.oldest + (n + m)) ≡ None = none (t.oldest + (n + m)) (omega arith) (omega (arith, le)) in
    let one = more-unlisted t (n + m) (t.oldest + (n + m)) (n + suc m) refl (omega arith) in
    let bit : ◌≡◌ {A = ℕ} (cond (is_none (entry t (t.oldest + (n + m)))) 1 0) 1 = ap (λ (o : Option Full). cond (is_none o) 1 0) here in
    omega (arith, before, one, bit)

-- .. and more pages don't have fewer
pub unlisted-rises : (t : Come) (n m : ℕ) → n ≤ m → unlisted_of t t.oldest n ≤ unlisted_of t t.oldest m
unlisted-rises t n m le = let e : n + (m - n) ≡ m = omega (arith, le) in omega (arith, by_more (m - n), ap (unlisted_of t t.oldest) e)
  where
    by_more : (k : ℕ) → unlisted_of t t.oldest n ≤ unlisted_of t t.oldest (n + k)
    by_more zero = let e : n + 0 ≡ n = omega arith in omega (arith, ap (unlisted_of t t.oldest) e)
    by_more (suc k) = omega (arith, by_more k, more-unlisted t (n + k) (t.oldest + (n + k)) (n + suc k) refl (omega arith))

-- the pages that no index page lists are those before a number and all from there on, where none lists one from there on
pub unlisted-behind : (t : Come) (from next : ℕ) → AreUnlisted t from → t.oldest ≤ from → from ≤ next → t.oldest + t.pages ≡ next → unlisted_of t t.oldest t.pages ≡ unlisted_of t t.oldest (from - t.oldest) + (next - from)
unlisted-behind t from next none low high ends =
    let at : t.oldest + (from - t.oldest) ≡ from = omega (arith, low) in
    let all : (from - t.oldest) + (next - from) ≡ t.pages = omega (arith, low, high, ends) in
    sym (ap (unlisted_of t t.oldest) all) ∙ unlisted-more t (from - t.oldest) (next - from) (subst (AreUnlisted t) (sym at) none) (omega (arith, all))

-- the kept data pages of a mount
pub come-rows : (layout : RowLayout) (most : ℕ) (bitmaps : Option BitmapIndex) (ring : Ring) (f : FlashState) → AreRowsOf (come_of layout most bitmaps ring f) layout ring f
come-rows layout most None ring f = record { layout_is = refl; rows = λ number. refl; oldest = refl; pages = refl }
come-rows layout most (Some index) ring f = record { layout_is = refl; rows = λ number. refl; oldest = refl; pages = refl }

-- .. and how many rows a data page may have
pub come-most : (layout : RowLayout) (most : ℕ) (bitmaps : Option BitmapIndex) (ring : Ring) (f : FlashState) → (come_of layout most bitmaps ring f).most ≡ most
come-most layout most None ring f = refl
come-most layout most (Some index) ring f = refl

-- it comes to the same where the pages stand
pub come-as : (layout : RowLayout) (most : ℕ) (bitmaps : Option BitmapIndex) (ring : Ring) (f g : FlashState) → page_at g ≡ page_at f → come_of layout most bitmaps ring g ≡ come_of layout most bitmaps ring f
come-as layout most None ring f g e =
    ap (λ (page : ℕ → List ℕ). record {
      form = record { width = 0; full = false };
      per_page = 0;
      most = most;
      layout = layout;
      index = λ (number : ℕ). [];
      index_oldest = 0;
      index_pages = 0;
      rows = λ (number : ℕ). page (place (shape_of ring) number);
      oldest = oldest_of ring;
      pages = next_of ring - oldest_of ring;
    }) e
come-as layout most (Some index) ring f g e =
    ap (λ (page : ℕ → List ℕ). record {
      form = form_in index;
      per_page = per_page index;
      most = most;
      layout = layout;
      index = λ (number : ℕ). page (place_in index number);
      index_oldest = oldest_in index;
      index_pages = index_pages_of (Some index);
      rows = λ (number : ℕ). page (place (shape_of ring) number);
      oldest = oldest_of ring;
      pages = next_of ring - oldest_of ring;
    }) e

-- a mount comes to what a flash holds
pub comes-of : (layout : RowLayout) (most : ℕ) (bitmaps : Option BitmapIndex) (ring : Ring) (f : FlashState) → ComesTo (come_of layout most bitmaps ring f) layout most bitmaps ring f
comes-of layout most None ring f = (record { layout_is = refl; rows = λ number. refl; oldest = refl; pages = refl }, refl)
comes-of layout most (Some index) ring f = by_form (form_in index).full refl
  where
    rows_are : AreRowsOf (come_of layout most (Some index) ring f) layout ring f
    rows_are = record { layout_is = refl; rows = λ number. refl; oldest = refl; pages = refl }

    by_form : (full : Bool) → (form_in index).full ≡ full → ComesBy full (come_of layout most (Some index) ring f) layout most index ring f
    by_form true e = record {
      rows_are = rows_are;
      most_is = refl;
      form = refl;
      full_is = e;
      per = refl;
      index_oldest = refl;
      index_pages = ap (λ b. cond b (next_in index - oldest_in index) 0) e;
      index = λ number. refl;
    }
    by_form false e = (rows_are, ap (λ b. cond b (next_in index - oldest_in index) 0) e)

-- .. the kept data pages among it
pub rows-come : (t : Come) (layout : RowLayout) (most : ℕ) (bitmaps : Option BitmapIndex) (ring : Ring) (f : FlashState) → ComesTo t layout most bitmaps ring f → AreRowsOf t layout ring f
rows-come t layout most None ring f h = h.0
rows-come t layout most (Some index) ring f h = by_form (form_in index).full h
  where
    by_form : (full : Bool) → ComesBy full t layout most index ring f → AreRowsOf t layout ring f
    by_form true h = h.rows_are
    by_form false h = h.0

-- before any page came
pub knows-nothing : {KNOTS SLOTS : ℕ} (error : ℕ) (t : Come) (counts : List ℕ) (index : KeyIndex KNOTS SLOTS) → IndexOf error [] index →
    KnowsWith error t 0 0 (record { rows = 0; voids = 0; last = None; blob_end = 0; newest = None; fault = None }) counts index
knows-nothing error t counts index empty = record {
  knows = record {
    counted = record { fine = λ i lt. absurd (omega (arith, lt)); rows = refl; last = refl; noted = λ i low lt. absurd (omega (arith, lt)) };
    voids = refl;
    blob_end = refl;
    fault = refl;
    cause = ap (λ k. first_some (checks_from t 0 0 k)) (let e : t.index_pages ≡ t.index_pages - 0 = omega arith in e);
  };
  points = empty;
}

pub nothing-within : (oldest : ℕ) → IsWithin oldest 0 (record { rows = 0; voids = 0; last = None; blob_end = 0; newest = None; fault = None })
nothing-within oldest = record { rows = omega arith; voids = omega arith; newest = tt }

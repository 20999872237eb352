-- What is remembered of the index pages that a mount reads.
use Rattle.std.proofs.Common.{◌≡◌, ℕ, ◌+◌, ◌-◌, ◌<◌, ◌≤◌, ◌⊎◌, inl, inr, suc, zero, Bool, true, false, cond, refl, Option, List, sym, ◌∙◌, ap, subst, arith}
use Rattle.std.specs.Prelude.{◌/◌, ◌%◌, [], ◌∷◌, ◌++◌, max, Some, None, slice_index_or, vec_len}
use Rattle.std.proofs.lemmas.Bool.{cases_lt, eqb-true, and_parts}
use Rattle.fl_base.specs.declared.types.Geometry.{Geometry}
use Rattle.fl_flash.specs.Flash.{FlashState, page_at}
use Rattle.fl_index.specs.Finding.{pages_of}
use Rattle.fl_index.specs.Loading.{IsLoaded}
use Rattle.fl_index.specs.Memory.{first_in, form_in, len_in, next_in, oldest_in, per_page, place_in, ring_shape, IsSamePlan, IsSameRing}
use Rattle.fl_index.specs.Page.{first_on, form_len, IsGoodPage}
use Rattle.fl_index.specs.declared.index.BitmapIndex.{BitmapIndex}
use Rattle.fl_index.specs.declared.load.Loaded.{Loaded}
use Rattle.fl_index.specs.declared.load.Loaded.TheVariants.{Nothing, Listing, Bad}
use Rattle.fl_index.specs.declared.page.EntryForm.{EntryForm}
use Rattle.fl_index.proofs.HeaderPages.{first-on, no-first-on}
use Rattle.fl_mark.specs.Mark.{state_of_page}
use Rattle.fl_mark.specs.declared.page_state.PageState.TheVariants.{Committed}
use Rattle.fl_frame.specs.Reads.{OnlyReads}
use Rattle.fl_ring.specs.Mounting.{shape_at}
use Rattle.fl_ring.specs.Ring as rings
use Rattle.fl_ring.specs.Ring.{Shape, room}
use Rattle.fl_ring.proofs.Modulo.{apart}
use Rattle.fl_frame.proofs.ReadsInTurn.{same_page}
use Rattle.fl_model.specs.Record.{RowLayout}
use Rattle.fl_model.specs.Table.{first_of}
use Rattle.fl_ring.specs.Newest.{commits}
use Rattle.fl_ring.specs.declared.ring.Ring.{Ring}
use Rattle.fl_parts.specs.Bitmaps.{AreSamePlan, AreSameRing, room_of}
use Rattle.fl_parts.specs.ByEntries.{Come, checks_from, first_some, index_check, index_page, is_committed, is_fit, mount_fault, page_checks, seen_before}
use Rattle.fl_parts.specs.Coming.{AreRemembered, FirstsKnown, IsFineListing, RememberedBy, come_of, index_pages_of}
use Rattle.fl_parts.specs.IndexMount.{RemembersKept, RemembersPages}
use Rattle.fl_parts.proofs.IndexPages.{unfit-check}
use Rattle.fl_parts.proofs.ListedPages.{are-full}

-- it stays where the ring does
pub same-first : (old new : BitmapIndex) (number : ℕ) → IsSameRing old new → first_in new number ≡ first_in old number
same-first old new number still = ap (λ firsts. slice_index_or firsts.items (number % vec_len firsts) None) still.firsts

-- of a page that was loaded, unless it is bad
pub first-loaded : (index now : BitmapIndex) (number : ℕ) (page : List ℕ) (l : Loaded) → IsLoaded index number page l now → (state_of_page page ≡ Committed → IsGoodPage (per_page index) number page) → first_in now number ≡ first_on page
first-loaded index now number page Nothing h fine = h.1.remembered ∙ sym (no-first-on page h.0)
first-loaded index now number page (Listing first) h fine = h.remembered ∙ (ap (λ (n : ℕ). Some n) h.first_is ∙ sym (first-on page h.committed))
first-loaded index now number page (Bad first bad) h fine = absurd (h.1 (fine h.0))

-- one more is read
module _ (index old now : BitmapIndex) (f g : FlashState) (n from page : ℕ) (same : IsSamePlan index old) (reads : OnlyReads f n g) (before : AreRemembered index f from page old)
    (others : (m : ℕ) → (place_in old m ≡ place_in old page → ⊥) → first_in now m ≡ first_in old m) (here : IsFineListing old g page → first_in now page ≡ first_on (pages_of old g page)) where
  form : form_in old ≡ form_in index
  form = ap (λ bits. record { width = bits / 8; full = old.full }) same.bits ∙ ap (λ full. record { width = index.bits / 8; full = full }) same.full

  per : per_page old ≡ per_page index
  per = ap (λ (e : EntryForm). (old.geometry.page - 24) / form_len e) form ∙ ap (λ (x : Geometry). (x.page - 24) / len_in index) same.geometry

  shape : ring_shape old ≡ ring_shape index
  shape = ap (λ p. shape_at p old.geometry) same.place ∙ ap (shape_at index.place) same.geometry

  bytes : pages_of old g page ≡ pages_of index f page
  bytes = ap (λ (s : Shape). page_at g (rings.place s page)) shape ∙ same_page f g n (place_in index page) reads

  pub remembers-more : AreRemembered index f from (page + 1) now
  remembers-more number low high few fine = by_place (cases_lt number page)
    where
      by_place : (number < page) ⊎ (page ≤ number) → first_in now number ≡ first_on (pages_of index f number)
      by_place (inl lt) =
          let rooms : room (ring_shape old) ≡ room (ring_shape index) = ap room shape in
          others number (λ e. apart (room (ring_shape old)) number page lt (omega (arith, rooms, few)) (omega (arith, e))) ∙ before number low lt (omega (arith, few)) fine
      by_place (inr ge) =
          let at : number ≡ page = omega (arith, ge, high) in
          let fine' : IsFineListing old g page =
          λ committed. subst (λ (p : List ℕ). IsGoodPage (per_page old) page p) (sym bytes) (subst (λ k. IsGoodPage k page (pages_of index f page)) (sym per) (subst (IsFineListing index f) at fine (ap state_of_page (sym bytes) ∙ committed))) in
          ap (first_in now) at ∙ (here fine' ∙ (ap first_on bytes ∙ ap (λ k. first_on (pages_of index f k)) (sym at)))

-- all were read
pub full-firsts : (index old now : BitmapIndex) (f : FlashState) → (form_in index).full ≡ true → IsSameRing old now → RememberedBy true index f old → RememberedBy (form_in index).full index f now
full-firsts index old now f full still h = subst (λ (b : Bool). RememberedBy b index f now) (sym full) (λ number low high few fine. same-first old now number still ∙ h number low high few fine)

-- entries aren't full
pub bare-firsts : (bitmaps now : Option BitmapIndex) (f : FlashState) → are-full bitmaps ≡ false → AreSamePlan bitmaps now → FirstsKnown bitmaps f now
bare-firsts None now f bare same = tt
bare-firsts (Some index) None f bare same = absurd same
bare-firsts (Some index) (Some now) f bare same = subst (λ (b : Bool). RememberedBy b index f now) (sym bare) tt

pub firsts-then : (a b c : Option BitmapIndex) (f : FlashState) → FirstsKnown a f b → AreSameRing b c → FirstsKnown a f c
firsts-then None b c f h still = tt
firsts-then (Some x) None c f h still = absurd h
firsts-then (Some x) (Some y) None f h still = absurd still
firsts-then (Some x) (Some y) (Some z) f h still = by_form (form_in x).full h
  where
    by_form : (b : Bool) → RememberedBy b x f y → RememberedBy b x f z
    by_form true h = λ number low high few fine. same-first y z number still ∙ h number low high few fine
    by_form false h = tt

-- ---- nothing is wrong with the kept pages, so no index page is bad

none-both : {X : Type 0} (a b : Option X) → first_of a b ≡ None → (a ≡ None) × (b ≡ None)
none-both None b h = (refl, h)
none-both (Some x) b h = absurd (cc h)

none-behind : {X : Type 0} (xs ys : List (Option X)) → first_some (xs ++ ys) ≡ None → first_some ys ≡ None
none-behind [] ys h = h
none-behind (x ∷ xs) ys h = none-behind xs ys (none-both x (first_some (xs ++ ys)) h).1

checks-none : (t : Come) (j k done left : ℕ) → first_some (checks_from t k done left) ≡ None → k ≤ j → j < k + left → index_check t j ≡ None
checks-none t j k done zero h low high = absurd (omega (arith, low, high))
checks-none t j k done (suc left) h low high =
    let seen = max done (seen_before t k) in
    let both = none-both (index_check t k) (first_some (checks_from t (k + 1) seen left)) (none-behind (page_checks t done seen) (index_check t k ∷ checks_from t (k + 1) seen left) h) in
    by_place both.0 (λ (lt : k < j). checks-none t j (k + 1) seen left both.1 (omega (arith, lt)) (omega (arith, high))) (cases_lt k j)
  where
    by_place : index_check t k ≡ None → (k < j → index_check t j ≡ None) → (k < j) ⊎ (j ≤ k) → index_check t j ≡ None
    by_place here behind (inl lt) = behind lt
    by_place here behind (inr ge) = ap (index_check t) (let e : j ≡ k = omega (arith, ge, low) in e) ∙ here

good-page : (t : Come) (k : ℕ) → index_check t k ≡ None → is_committed (index_page t k) ≡ true → IsGoodPage t.per_page (t.index_oldest + k) (index_page t k)
good-page t k none committed = by_test (is_fit t k) refl
  where
    by_test : (b : Bool) → is_fit t k ≡ b → IsGoodPage t.per_page (t.index_oldest + k) (index_page t k)
    by_test true e =
        let both = and_parts _ _ (and_parts _ _ e).0 in
        record { number_is = eqb-true _ _ both.0; full = eqb-true _ _ both.1 }
    by_test false e = absurd (cc (sym none ∙ unfit-check t k committed e))

pub kept-firsts : (layout : RowLayout) (most : ℕ) (bitmaps now : Option BitmapIndex) (ring : Ring) (f : FlashState) → mount_fault (come_of layout most bitmaps ring f) ≡ None → index_pages_of bitmaps ≤ room_of bitmaps → FirstsKnown bitmaps f now → RemembersKept bitmaps f now
kept-firsts layout most None now ring f fine few h = tt
kept-firsts layout most (Some index) None ring f fine few h = absurd h
kept-firsts layout most (Some index) (Some now) ring f fine few h = by_form (form_in index).full refl h
  where
    t : Come
    t = come_of layout most (Some index) ring f

    by_form : (b : Bool) → (form_in index).full ≡ b → RememberedBy b index f now → RemembersPages b index f now
    by_form true e h = λ number low high.
        let pages : index_pages_of (Some index) ≡ next_in index - oldest_in index = ap (λ b. cond b (next_in index - oldest_in index) 0) e in
        let k = number - oldest_in index in
        let at : oldest_in index + k ≡ number = omega (arith, low) in
        let none : index_check t k ≡ None = checks-none t k 0 0 t.index_pages fine (omega arith) (omega (arith, pages, low, high)) in
        h number low high (omega (arith, pages, few, low)) (subst (IsFineListing index f) at (λ committed. good-page t k none (ap commits committed)))
    by_form false e h = tt

-- the pages stand where they are only read
pub firsts-read : (bitmaps now : Option BitmapIndex) (f g : FlashState) (n : ℕ) → OnlyReads f n g → RemembersKept bitmaps f now → RemembersKept bitmaps g now
firsts-read None now f g n reads h = tt
firsts-read (Some index) None f g n reads h = absurd h
firsts-read (Some index) (Some now) f g n reads h = by_form (form_in index).full h
  where
    by_form : (b : Bool) → RemembersPages b index f now → RemembersPages b index g now
    by_form true h = λ number low high. h number low high ∙ ap first_on (sym (same_page f g n (place_in index number) reads))
    by_form false h = tt

-- its ring has as many pages where the plan is the same
pub room-same : (was now : Option BitmapIndex) → AreSamePlan was now → room_of now ≡ room_of was
room-same None None same = refl
room-same None (Some now) same = absurd same
room-same (Some was) None same = absurd same
room-same (Some was) (Some now) same = ap (λ p. room (shape_at p now.geometry)) same.place ∙ ap (λ (g : Geometry). room (shape_at was.place g)) same.geometry

-- Pages that are found one by one.
use Rattle.std.proofs.Common.{◌≡◌, ℕ, suc, ◌+◌, ◌<◌, ◌≤◌, Bool, List, [], ◌∷◌, ◌++◌, length, refl, sym, ◌∙◌, ap, arith}
use Rattle.std.specs.Prelude.{if◌then◌else◌}
use Rattle.std.proofs.lemmas.Bool.{lt-ltb, le-ltb}
use Rattle.fl_model.specs.Record.{RowLayout}
use Rattle.fl_page.specs.Header.{page_number}
use Rattle.fl_salvage.specs.Pages.{AreFew, found_at, found_in, none_passed, numbers_at, page_of, passed_at, with_number, with_passed}
use Rattle.fl_salvage.specs.declared.found.PageFound.{PageFound}
use Rattle.fl_salvage.specs.declared.found.PageFound.TheVariants.{Rows, Blank, Missing, Torn, Void, Misplaced, Unformed}
use Rattle.fl_salvage.specs.declared.passed_over.PassedOver.{PassedOver}
use Rattle.fl_salvage.specs.declared.ring.RingPages.{RingPages}

pub few-none : AreFew 0 none_passed
few-none = record { missing = omega arith; torn = omega arith; void = omega arith; misplaced = omega arith; unformed = omega arith }

-- the image ends before the page at a place, or has it
module _ (layout : RowLayout) (ring : RingPages) (bytes : List ℕ) (place : ℕ) where
  abbrev found_by : Bool → PageFound
  found_by short = if short then Missing else found_in layout ring place (page_of ring bytes place)

  pub found-missing : length (page_of ring bytes place) < ring.size → Missing ≡ found_at layout ring bytes place
  found-missing short = sym (ap found_by (lt-ltb (length (page_of ring bytes place)) ring.size short))

  pub found-there : length (page_of ring bytes place) ≡ ring.size → found_in layout ring place (page_of ring bytes place) ≡ found_at layout ring bytes place
  found-there whole =
      let least : ring.size ≤ length (page_of ring bytes place) = omega (arith, whole) in
      sym (ap found_by (le-ltb (length (page_of ring bytes place)) ring.size least))

-- the page at the next place is counted as what it is found to be
pub passed-next : (layout : RowLayout) (ring : RingPages) (bytes : List ℕ) (place : ℕ) (found : PageFound) (passed now : PassedOver) → found ≡ found_at layout ring bytes place
    → passed ≡ passed_at layout ring bytes place → now ≡ with_passed found passed → now ≡ passed_at layout ring bytes (place + 1)
passed-next layout ring bytes place found passed now is before now_is =
    let e : place + 1 ≡ suc place = omega arith in
    rw e (now_is ∙ ap (λ (f : PageFound). with_passed f passed) is ∙ ap (with_passed (found_at layout ring bytes place)) before)

-- only the number of a page with rows counts
agree : (ring : RingPages) (bytes : List ℕ) (place : ℕ) (found : PageFound) (page numbers : List ℕ) → (found ≡ Rows → page ≡ page_of ring bytes place)
    → with_number found (page_number page) numbers ≡ with_number found (page_number (page_of ring bytes place)) numbers
agree ring bytes place Rows page numbers same = ap (λ (p : List ℕ). numbers ++ page_number p ∷ []) (same refl)
agree ring bytes place Blank page numbers same = refl
agree ring bytes place Missing page numbers same = refl
agree ring bytes place Torn page numbers same = refl
agree ring bytes place Void page numbers same = refl
agree ring bytes place Misplaced page numbers same = refl
agree ring bytes place Unformed page numbers same = refl

-- .. and it is among those of the pages with rows, if it has some
pub numbers-next : (layout : RowLayout) (ring : RingPages) (bytes : List ℕ) (place : ℕ) (found : PageFound) (page numbers now : List ℕ) → found ≡ found_at layout ring bytes place
    → (found ≡ Rows → page ≡ page_of ring bytes place) → numbers ≡ numbers_at layout ring bytes place → now ≡ with_number found (page_number page) numbers → now ≡ numbers_at layout ring bytes (place + 1)
numbers-next layout ring bytes place found page numbers now is same before now_is =
    let e : place + 1 ≡ suc place = omega arith in
    rw e (now_is ∙ agree ring bytes place found page numbers same
    ∙ ap (λ (f : PageFound). with_number f (page_number (page_of ring bytes place)) numbers) is
    ∙ ap (with_number (found_at layout ring bytes place) (page_number (page_of ring bytes place))) before)

-- Bytes that stand whole on pages one after another.
use Rattle.std.proofs.Common.{◌≡◌, ℕ, zero, suc, ◌+◌, ◌-◌, ◌*◌, ◌/◌, ◌<◌, ◌≤◌, Bool, true, false, cond, ◌==◌, List, Result, Err, refl, sym, ◌∙◌, ap, subst, arith}
use Rattle.std.proofs.Math.Nat.{add-div_left, mod-lt, div-lt_iff_lt-mul}
use Rattle.std.proofs.lemmas.Nat.{div-add-mod'}
use Rattle.std.proofs.lemmas.Bool.{eqb-true}
use Rattle.fl_flash.specs.Flash.{FlashState}
use Rattle.fl_model.specs.Layout.{committed}
use Rattle.fl_page.specs.Header.{page_count}
use Rattle.fl_page.specs.declared.fault.BadPage.{BadPage}
use Rattle.fl_page.specs.declared.fault.ReadFault.{ReadFault}
use Rattle.fl_page.specs.declared.fault.ReadFault.TheVariants as fault
use Rattle.fl_frame.specs.Reads.{OnlyReads}
use Rattle.fl_ring.specs.Ring.{place}
use Rattle.fl_ring.proofs.Founds.{same_pages}
use Rattle.fl_mark.specs.Mark.{state_of_page}
use Rattle.fl_mark.specs.declared.page_state.PageState.TheVariants.{Committed}
use Rattle.fl_page.specs.Page.{bad_page}
use Rattle.std.specs.Prelude.{if◌then◌else◌}
use Rattle.fl_var.specs.Blobs.{IsWhole, IsBadLater}
use Rattle.fl_var.specs.Content.{content_body, HasContent}
use Rattle.fl_var.specs.Memory.{next_in, waiting_in, room_in, var_shape, image_in}
use Rattle.fl_var.specs.Reading.{Steps, IfBad, NoneBad}
use Rattle.fl_var.specs.declared.var_data.VarData.{VarData}

-- reads change no page
pub images-same : (v : VarData) (f g : FlashState) (n : ℕ) → OnlyReads f n g → image_in v g ≡ image_in v f
images-same v f g n reads =
    ap {B = ℕ → List ℕ} (λ (page : ℕ → List ℕ). λ (number : ℕ). cond (number == next_in v) (committed (content_body (room_in v) number (waiting_in v))) (page (place (var_shape v) number))) (same_pages f g n reads)

-- the same bytes from a later place of the same page on
pub whole-same : (image : ℕ → List ℕ) (next room number from left from' left' : ℕ) → from + left ≡ from' + left' → IsWhole image next room number from left → IsWhole image next room number from' left'
whole-same image next room number from left from' left' e h = record {
  good = λ j le. h.good j (subst (λ n. j ≤ (n - 1) / room) (sym e) le);
  full = λ j lt. h.full j (subst (λ n. j < (n - 1) / room) (sym e) lt);
  ends = subst (λ n. n ≤ (n - 1) / room * room + page_count (image (number + (n - 1) / room))) e h.ends;
}

-- where a page was given to its end, and bytes are left
module _ (image : ℕ → List ℕ) (next room number from left : ℕ) (h : IsWhole image next room number from left) (done : page_count (image number) ≡ from) (some : 1 ≤ left) where
  pub whole-further : 1 ≤ (from + left - 1) / room
  whole-further = by_pages ((from + left - 1) / room) refl
    where
      by_pages : (q : ℕ) → (from + left - 1) / room ≡ q → 1 ≤ (from + left - 1) / room
      by_pages zero e =
          let at : number + 0 ≡ number = omega arith in
          let ends : from + left ≤ 0 * room + page_count (image (number + 0)) = subst (λ q. from + left ≤ q * room + page_count (image (number + q))) e h.ends in
          let here = ap (λ n. page_count (image n)) at in
          absurd (omega (arith, ends, here, done, some))
      by_pages (suc q) e = omega (arith, e)

  -- the next page has content
  pub whole-good : (number + 1 ≤ next) × HasContent (number + 1) (image (number + 1))
  whole-good = h.good 1 whole-further

  pub whole-full : from ≡ room
  whole-full =
      let at : number + 0 ≡ number = omega arith in
      sym done ∙ (ap (λ n. page_count (image n)) (sym at) ∙ h.full 0 (omega (arith, whole-further)))

  pub whole-pages : 0 < room → (from + left - 1) / room ≡ (0 + left - 1) / room + 1
  whole-pages wide =
      let split : from + left - 1 ≡ room + (0 + left - 1) = omega (arith, whole-full, some) in
      ap (λ n. n / room) split ∙ add-div_left (0 + left - 1) wide

  -- the bytes left stand whole from the next page on
  pub whole-next : 0 < room → IsWhole image next room (number + 1) 0 left
  whole-next wide =
      let pages = whole-pages wide in
      let full = whole-full in
      record {
        good = λ j le.
            let at : number + (j + 1) ≡ number + 1 + j = omega arith in
            subst (λ n. (n ≤ next) × HasContent n (image n)) at (h.good (j + 1) (omega (arith, le, pages)));
        full = λ j lt.
            let at : number + (j + 1) ≡ number + 1 + j = omega arith in
            subst (λ n. page_count (image n) ≡ room) at (h.full (j + 1) (omega (arith, lt, pages)));
        ends =
            let q = (0 + left - 1) / room in
            let at : number + (q + 1) ≡ number + 1 + q = omega arith in
            let ends : from + left ≤ (q + 1) * room + page_count (image (number + (q + 1))) = subst (λ q. from + left ≤ q * room + page_count (image (number + q))) pages h.ends in
            let last = ap (λ n. page_count (image n)) at in
            let more : (q + 1) * room ≡ q * room + room = omega arith in
            omega (arith, ends, last, full, more);
      }

-- a later page that has content isn't bad
pub later-good : (v : VarData) (f : FlashState) (number : ℕ) (e : ReadFault) → (number ≤ next_in v) × HasContent number (image_in v f number) → IfBad (IsBadLater v f number) e → NoneBad {T = Unit {0}} (Err e)
later-good v f number (fault.Flash e) good bad = tt
later-good v f number (fault.BadPage b) good bad = absurd ((bad.here good.0).0 good.1)

pub none-bad : (v : VarData) (f : FlashState) (number : ℕ) (e : ReadFault) → HasContent number (image_in v f number) →
    IfBad (λ (bad : BadPage). (state_of_page (image_in v f number) ≡ Committed) × (HasContent number (image_in v f number) → ⊥) × (bad ≡ bad_page number (image_in v f number))) e → NoneBad {T = Unit {0}} (Err e)
none-bad v f number (fault.Flash e) good bad = tt
none-bad v f number (fault.BadPage b) good bad = absurd (bad.1 good)

-- one page less is left after a turn
pub pages-turned : (left from room before now : ℕ) → 1 ≤ left → (from + left - 1) / room ≡ (0 + left - 1) / room + 1 → now ≤ before + 1 →
    now + (if left == 0 then 0 else (0 + left - 1) / room) ≤ before + (if left == 0 then 0 else (from + left - 1) / room)
pages-turned left from room before now some pages reads = by_test (left == 0) refl
  where
    by_test : (b : Bool) → (left == 0) ≡ b → now + cond b 0 ((0 + left - 1) / room) ≤ before + cond b 0 ((from + left - 1) / room)
    by_test true e = absurd (omega (arith, eqb-true left 0 e, some))
    by_test false e = omega (arith, pages, reads)

pub none-bad-any : (e : ReadFault) → NoneBad {T = Unit {0}} (Err e) → NoneBad {T = Bool} (Err e)
none-bad-any (fault.Flash e) h = tt
none-bad-any (fault.BadPage b) h = h

-- a fault leaves the bytes
pub steps-err : (result : Result Bool ReadFault) (e : ReadFault) (before chunk after : List ℕ) → result ≡ Err e → after ≡ before → Steps result before chunk after
steps-err result e before chunk after is same = subst (λ (x : Result Bool ReadFault). Steps x before chunk after) (sym is) same

-- bytes from inside a page on reach into few others
pub pages-few : (left from room : ℕ) → from < room → (if left == 0 then 0 else (from + left - 1) / room) ≤ left / room + 1
pages-few left from room inside = by_test (left == 0)
  where
    wide : 0 < room
    wide = omega (arith, inside)

    less : (from + left - 1) / room < left / room + 2
    less =
        let more : (left / room + 2) * room ≡ left / room * room + 2 * room = omega arith in
        (div-lt_iff_lt-mul wide).1 (omega (arith, more, div-add-mod' left room, mod-lt left wide, inside))

    by_test : (b : Bool) → cond b 0 ((from + left - 1) / room) ≤ left / room + 1
    by_test true = omega arith
    by_test false = omega (arith, less)

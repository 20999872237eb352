-- The pages on which bytes go on, seen from a page before.
use Rattle.std.proofs.Common.{◌≡◌, ℕ, suc, ◌+◌, ◌-◌, ◌<◌, ◌≤◌, true, List, length, ◌∙◌, ap, subst, arith, inl, inr, length-append}
use Rattle.std.proofs.lemmas.Bool.{cases_lt, lt-ltb}
use Rattle.fl_flash.specs.Flash.{FlashState}
use Rattle.fl_page.specs.Page.{bad_page}
use Rattle.fl_page.specs.declared.fault.BadPage.{BadPage}
use Rattle.fl_var.specs.Blobs.{contents_from, GoesOnTo, IsReadable, AreThere, IsBadLater, IsBadBehind}
use Rattle.fl_var.specs.Content.{content_of, HasContent}
use Rattle.fl_var.specs.Memory.{next_in, image_in}
use Rattle.fl_var.specs.Reading.{Reads, IsBadAhead, has_here}
use Rattle.fl_var.specs.declared.reader.BlobReader.{BlobReader}
use Rattle.fl_var.specs.declared.var_data.VarData.{VarData}

-- the content before a later page is that of the first one, and of those behind it
contents-split : (image : ℕ → List ℕ) (page number : ℕ) → page < number →
    length (contents_from image page (number - page)) ≡ length (content_of (image page)) + length (contents_from image (page + 1) (number - (page + 1)))
contents-split image page number lt =
    let more : number - page ≡ suc (number - (page + 1)) = omega (arith, lt) in
    ap (λ (n : ℕ). length (contents_from image page n)) more ∙ length-append (content_of (image page)) (contents_from image (page + 1) (number - (page + 1)))

-- bytes that end in the content of a page don't go on
ends-here : (image : ℕ → List ℕ) (page end number : ℕ) → end ≤ length (content_of (image page)) → GoesOnTo image page end number → ⊥
ends-here image page end number within goes = omega (arith, within, goes.1, contents-split image page number goes.0)

-- a page behind this one and not behind the next is the next
at-next : (image : ℕ → List ℕ) (next page number : ℕ) → IsReadable image next (page + 1) → page < number → number ≤ page + 1 → IsReadable image next number
at-next image next page number good low high =
    let same : page + 1 ≡ number = omega (arith, low, high) in
    subst (IsReadable image next) same good

-- a page was given to its end, and the reader turns to the next one, which is there
pub there-turned : (image : ℕ → List ℕ) (next page end left : ℕ) → length (content_of (image page)) ≡ end → IsReadable image next (page + 1) → AreThere image next (page + 1) (0 + left) → AreThere image next page (end + left)
there-turned image next page end left done good there = record {
  each = λ number goes. elim (cases_lt (page + 1) number) [
    | inl lt ↦ there.each number (lt, omega (arith, goes.1, done, contents-split image page number goes.0))
    | inr ge ↦ at-next image next page number good goes.0 ge
  ];
}

pub bad-turned : (v : VarData) (f : FlashState) (page end left : ℕ) (bad : BadPage) → length (content_of (image_in v f page)) ≡ end → IsReadable (image_in v f) (next_in v) (page + 1) →
    IsBadBehind v f (page + 1) (0 + left) bad → IsBadBehind v f page (end + left) bad
bad-turned v f page end left bad done good h =
    let later : page < h.number = omega (arith, h.goes_on.0) in
    record {
      number = h.number;
      goes_on = (later, omega (arith, h.goes_on.1, done, contents-split (image_in v f) page h.number later));
      before = λ n low high. elim (cases_lt (page + 1) n) [
        | inl lt ↦ h.before n lt high
        | inr ge ↦ at-next (image_in v f) (next_in v) page n good low ge
      ];
      is_bad = h.is_bad;
    }

-- bytes of a page were taken
pub there-taken : (image : ℕ → List ℕ) (next page end left n : ℕ) → end + n ≤ length (content_of (image page)) → n ≤ left →
    (0 < left - n → AreThere image next page (end + n + (left - n))) → AreThere image next page (end + left)
there-taken image next page end left n within few there = elim (cases_lt n left) [
  | inl lt ↦
      let same : end + n + (left - n) ≡ end + left = omega (arith, lt) in
      subst (AreThere image next page) same (there (omega (arith, lt)))
  | inr ge ↦ record { each = λ number goes. absurd (ends-here image page (end + left) number (omega (arith, within, ge)) goes) }
]

pub bad-taken : (v : VarData) (f : FlashState) (page end left n : ℕ) (bad : BadPage) → n ≤ left → IsBadBehind v f page (end + n + (left - n)) bad → IsBadBehind v f page (end + left) bad
bad-taken v f page end left n bad few h =
    let same : end + n + (left - n) ≡ end + left = omega (arith, few) in
    subst (λ (e : ℕ). IsBadBehind v f page e bad) same h

-- the same pages
pub bad-seen : (v : VarData) (f g : FlashState) → image_in v g ≡ image_in v f → (page end : ℕ) (bad : BadPage) → IsBadBehind v g page end bad → IsBadBehind v f page end bad
bad-seen v f g images page end bad h = record {
  number = h.number;
  goes_on = subst (λ (image : ℕ → List ℕ). GoesOnTo image page end h.number) images h.goes_on;
  before = λ n low high. subst (λ (image : ℕ → List ℕ). IsReadable image (next_in v) n) images (h.before n low high);
  is_bad = record {
    behind = h.is_bad.behind;
    here = λ within. subst (λ (image : ℕ → List ℕ). (HasContent h.number (image h.number) → ⊥) × (bad ≡ bad_page h.number (image h.number))) images (h.is_bad.here within);
  };
}

-- where a page was given to its end, and bytes are left, these go on to the next one, which is the first that may be bad
pub next-bad : (r : BlobReader) (f : FlashState) (bad : BadPage) → Reads r f → 1 ≤ r.left → (has_here r ≡ true → ⊥) → IsBadLater r.var.now f (r.page + 1) bad → IsBadAhead r f bad
next-bad r f bad reads some given later =
    let size = reads.size (omega (arith, some)) in
    let done : r.used ≤ r.end = elim (cases_lt r.end r.used) [ inl lt ↦ absurd (given (lt-ltb r.end r.used lt)) | inr ge ↦ ge ] in
    let behind : r.page < r.page + 1 = omega arith in
    let one : r.page + 1 - (r.page + 1) ≡ 0 = omega arith in
    let none : length (contents_from (image_in r.var.now f) (r.page + 1) (r.page + 1 - (r.page + 1))) ≡ 0 = ap (λ (n : ℕ). length (contents_from (image_in r.var.now f) (r.page + 1) n)) one in
    record {
      number = r.page + 1;
      goes_on = (behind, omega (arith, contents-split (image_in r.var.now f) r.page (r.page + 1) behind, none, size, done, some));
      before = λ n low high. absurd (omega (arith, low, high));
      is_bad = later;
    }

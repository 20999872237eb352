-- Readers of blobs at the exits of their calls: where nothing is left, where a page was given to its end, and where the next one is bad.
use Rattle.std.proofs.Common.{◌≡◌, ℕ, ◌+◌, ◌-◌, ◌/◌, ◌<◌, ◌≤◌, Bool, true, false, cond, ◌==◌, Option, Some, None, unwrap_or, Result, Ok, Err, List, [], length, take, drop, slice_range, inl, inr, refl, sym, ◌∙◌, ap, arith, length-drop, pos_of_ne-zero}
use Rattle.std.specs.Prelude.{option_map, nat_lt, if◌then◌else◌}
use Rattle.std.proofs.lemmas.Bool.{eqb-true, lt-ltb, le-ltb}
use Rattle.fl_base.specs.declared.types.BlobRef.{BlobRef}
use Rattle.fl_flash.specs.Flash.{FlashState}
use Rattle.fl_mark.specs.Mark.{state_of_page}
use Rattle.fl_mark.specs.declared.page_state.PageState.TheVariants.{Committed}
use Rattle.fl_page.specs.Header.{page_number, page_count}
use Rattle.fl_page.specs.Page.{bad_page}
use Rattle.fl_page.specs.declared.fault.BadPage.{BadPage}
use Rattle.fl_page.specs.declared.fault.ReadFault.{ReadFault}
use Rattle.fl_page.specs.declared.fault.ReadFault.TheVariants as fault
use Rattle.fl_model.proofs.Lists.{take_none}
use Rattle.fl_ring.specs.declared.ring.Ring.{Ring}
use Rattle.fl_ring.specs.Place.{next_of, oldest_of}
use Rattle.fl_var.specs.Blobs.{IsGone, IsBadFirst, IsBadLater, end_fault}
use Rattle.fl_var.specs.Content.{HasContent}
use Rattle.fl_var.specs.Memory.{next_in, oldest_in, waiting_in, page_in, image_in, present}
use Rattle.fl_var.specs.Reading.{IfBad, Opens}
use Rattle.fl_var.specs.declared.var_data.VarData.{VarData}
use Rattle.fl_var.proofs.PageImages.{image-other}

-- numbers
pub least : (n : ℕ) → 0 ≤ n
least n = omega arith

pub some-left : (n : ℕ) → 1 ≤ n → 0 < n
some-left n some = omega (arith, some)

pub none-and-some : (n : ℕ) → n ≡ 0 → 1 ≤ n → ⊥
none-and-some n none some = omega (arith, none, some)

pub not-further : (page next : ℕ) → page ≡ next → page + 1 ≤ next → ⊥
not-further page next is le = omega (arith, is, le)

pub more-none : (n : ℕ) → n ≡ 0 → false ≡ nat_lt 0 n
more-none n none = sym (le-ltb 0 n (omega (arith, none)))

pub more-some : (n : ℕ) → (n ≡ 0 → ⊥) → true ≡ nat_lt 0 n
more-some n some = sym (lt-ltb 0 n (some-left n (pos_of_ne-zero some)))

-- no bytes
pub take-none : (n : ℕ) (xs : List ℕ) → n ≡ 0 → take n xs ≡ []
take-none n xs none = ap (λ (k : ℕ). take k xs) none ∙ take_none xs

pub no-slice : (xs : List ℕ) (begin end : ℕ) → begin ≡ end → slice_range xs begin end ≡ []
no-slice xs begin end same = take-none (end - begin) (drop begin xs) (omega (arith, same))

pub no-chunk : (xs : List ℕ) (begin end before after : ℕ) → begin ≡ end → after ≡ before → before ≡ length (slice_range xs begin end) + after
no-chunk xs begin end before after same left = omega (arith, ap length (no-slice xs begin end same), left)

-- another read into the buffer: what is present of a page is as long
pub present-still : (v : VarData) (page n : ℕ) (before after : List ℕ) → length after ≡ length before → n ≤ length (present v page before) → n ≤ length (present v page after)
present-still v page n before after size within = by_test (page == next_in v) within
  where
    by_test : (b : Bool) → n ≤ length (cond b (waiting_in v) (drop 8 before)) → n ≤ length (cond b (waiting_in v) (drop 8 after))
    by_test true le = le
    by_test false le = omega (arith, le, size, length-drop 8 before, length-drop 8 after)

-- a page more was read for the bytes left
pub one-more-read : (left from room before now : ℕ) → 1 ≤ left → 1 ≤ (from + left - 1) / room → now ≤ before + 1 → now ≤ before + (if left == 0 then 0 else (from + left - 1) / room)
one-more-read left from room before now some further reads = by_test (left == 0) refl
  where
    by_test : (b : Bool) → (left == 0) ≡ b → now ≤ before + cond b 0 ((from + left - 1) / room)
    by_test true e = absurd (omega (arith, eqb-true left 0 e, some))
    by_test false e = omega (arith, further, reads)

-- the kept pages begin before the next one
pub oldest-before : (v : VarData) → oldest_in v ≤ next_in v
oldest-before v = by_ring v.ring
  where
    by_ring : (o : Option Ring) → unwrap_or (option_map (λ (r : Ring). oldest_of r) o) 0 ≤ unwrap_or (option_map (λ (r : Ring). next_of r) o) 0
    by_ring None = omega arith
    by_ring (Some ring) = ring.ordered

-- why a later page is bad: there is none, or it isn't committed, or it has no content
pub ends-behind : (v : VarData) (f : FlashState) (page : ℕ) (bad : BadPage) → page ≡ next_in v → bad ≡ end_fault v → IsBadLater v f (page + 1) bad
ends-behind v f page bad is same = record { behind = λ lt. same; here = λ le. absurd (omega (arith, le, is)) }

pub uncommitted-bad : (v : VarData) (f : FlashState) (number : ℕ) (bad : BadPage) (bytes : List ℕ) → (number < next_in v) × (state_of_page (page_in v f number) ≡ Committed → ⊥) → bytes ≡ image_in v f number → bad ≡ bad_page number bytes →
    IsBadLater v f number bad
uncommitted-bad v f number bad bytes other is same =
    let less = other.0 in
    record {
      behind = λ lt. absurd (omega (arith, lt, less));
      here = λ le. (λ has. other.1 (ap state_of_page (sym (image-other v f number (λ e. omega (arith, e, less)))) ∙ has.committed), same ∙ ap (bad_page number) is);
    }

pub later-bad : (v : VarData) (f : FlashState) (number : ℕ) (e : ReadFault) → number ≤ next_in v →
    IfBad (λ (bad : BadPage). (state_of_page (image_in v f number) ≡ Committed) × (HasContent number (image_in v f number) → ⊥) × (bad ≡ bad_page number (image_in v f number))) e → IfBad (IsBadLater v f number) e
later-bad v f number (fault.Flash e) within h = tt
later-bad v f number (fault.BadPage bad) within h = record { behind = λ lt. absurd (omega (arith, lt, within)); here = λ le. (h.1, h.2) }

-- a blob is gone
pub gone-before : (v : VarData) (f : FlashState) (at : BlobRef) → 1 ≤ at.length → at.page < oldest_in v → IsGone v f at
gone-before v f at some lt = record { some = some-left at.length some; sealed = omega (arith, lt, oldest-before v); lost = inl lt }

pub gone-uncommitted : (v : VarData) (f : FlashState) (at : BlobRef) → 1 ≤ at.length → (at.page < next_in v) × (state_of_page (page_in v f at.page) ≡ Committed → ⊥) → IsGone v f at
gone-uncommitted v f at some other = record { some = some-left at.length some; sealed = other.0; lost = inr other.1 }

-- .. and is not, where its first page is kept and committed
pub not-gone : (v : VarData) (f : FlashState) (at : BlobRef) → oldest_in v ≤ at.page → state_of_page (image_in v f at.page) ≡ Committed → IsGone v f at → ⊥
not-gone v f at kept committed gone = elim gone.lost [
  | inl lt ↦ omega (arith, lt, kept)
  | inr not ↦ let sealed = gone.sealed in not (ap state_of_page (sym (image-other v f at.page (λ e. omega (arith, e, sealed)))) ∙ committed)
]

-- why its first page is bad: it is behind all pages, or has no content, or less than stands before the blob
pub bad-behind : (v : VarData) (f : FlashState) (at : BlobRef) (bad : BadPage) → 1 ≤ at.length → next_in v < at.page → bad ≡ end_fault v → (IsGone v f at → ⊥) × IsBadFirst v f at bad
bad-behind v f at bad some behind same = (
  λ gone. let sealed = gone.sealed in absurd (omega (arith, sealed, behind)),
  record { some = some-left at.length some; behind = λ lt. same; here = λ le. absurd (omega (arith, le, behind)) },
)

pub bad-first : (v : VarData) (f : FlashState) (at : BlobRef) (e : ReadFault) → 1 ≤ at.length → oldest_in v ≤ at.page → at.page ≤ next_in v →
    IfBad (λ (bad : BadPage). (state_of_page (image_in v f at.page) ≡ Committed) × (HasContent at.page (image_in v f at.page) → ⊥) × (bad ≡ bad_page at.page (image_in v f at.page))) e →
    IfBad (λ (bad : BadPage). (IsGone v f at → ⊥) × IsBadFirst v f at bad) e
bad-first v f at (fault.Flash e) some kept within h = tt
bad-first v f at (fault.BadPage bad) some kept within h = (
  not-gone v f at kept h.0,
  record { some = some-left at.length some; behind = λ lt. absurd (omega (arith, lt, within)); here = λ le. (h.0, h.2, λ has. absurd (h.1 has)) },
)

pub bad-short : (v : VarData) (f : FlashState) (at : BlobRef) (used : ℕ) → 1 ≤ at.length → oldest_in v ≤ at.page → at.page ≤ next_in v → used ≤ at.offset → HasContent at.page (image_in v f at.page) × (used ≡ page_count (image_in v f at.page)) →
    (IsGone v f at → ⊥) × IsBadFirst v f at (record { wanted = at.page; found = at.page; count = used })
bad-short v f at used some kept within few good =
    let count = good.1 in (
      not-gone v f at kept good.0.committed,
      record {
        some = some-left at.length some;
        behind = λ lt. absurd (omega (arith, lt, within));
        here = λ le. (
          good.0.committed,
          ap (λ (n : ℕ). record { wanted = at.page; found = n; count = used }) (sym good.0.number_is)
              ∙ ap (λ (n : ℕ). record { wanted = at.page; found = page_number (image_in v f at.page); count = n }) count,
          λ has. omega (arith, count, few),
        );
      },
    )

-- answers that differ
pub same-ok : {a b : Bool} → ◌≡◌ {A = Result Bool ReadFault} (Ok a) (Ok b) → a ≡ b
same-ok e = cc

pub err-ok : (e : ReadFault) {b : Bool} → ◌≡◌ {A = Result Bool ReadFault} (Err e) (Ok b) → ⊥
err-ok e k = cc

-- how an opening ends that failed
pub opens-err : (v : VarData) (f : FlashState) (at : BlobRef) (e : ReadFault) → IfBad (λ (bad : BadPage). (IsGone v f at → ⊥) × IsBadFirst v f at bad) e → Opens v f at (Err e)
opens-err v f at (fault.Flash e) h = tt
opens-err v f at (fault.BadPage bad) h = h

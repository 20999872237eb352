-- The pages of a head, one after another, and the marks that they make.
use Rattle.std.proofs.Common.{◌≡◌, ℕ, List, ◌+◌, ◌-◌, ◌*◌, ◌<◌, ◌≤◌, min, cond, Bool, true, false, ◌==◌, sym, ◌∙◌, ap, subst, arith}
use Rattle.std.proofs.Math.Nat.{mul-le-mul_right}
use Rattle.fl_flash.specs.Flash.{FlashState, page_at}
use Rattle.fl_mark.specs.Mark.{state_of_page}
use Rattle.fl_mark.specs.declared.page_state.PageState.{PageState}
use Rattle.fl_ring.specs.declared.front.Front.{Front}
use Rattle.fl_ring.specs.declared.scan.Scan.{Scan}
use Rattle.fl_ring.specs.Finding.{kept_pages}
use Rattle.fl_ring.specs.Front.{IsFront, blanks}
use Rattle.fl_ring.specs.Head.{counts_full, heads, page_in}
use Rattle.fl_frame.specs.Reads.{OnlyReads}
use Rattle.fl_ring.specs.Ring.{Shape, IsShape, room}
use Rattle.fl_ring.specs.Scan.{Scanned}
use Rattle.fl_ring.proofs.Founds.{same_pages}
use Rattle.fl_ring.proofs.Modulo.{more, last_block}
use Rattle.fl_rules.specs.Marks.{IsOrdered, AreMarks, AreWithin}
use Rattle.fl_rules.specs.declared.marks.HeadPages.{HeadPages}

-- one page more is in order
pub stepped_for : (page : ℕ → List ℕ) (r : Shape) (head i count : ℕ) (old new : Front) (state : PageState) → count ≡ r.per_block
    → ((st : ℕ → PageState) → IsFront st count i old → state ≡ st i → IsFront st count (i + 1) new)
    → IsFront (λ k. state_of_page (page (page_in r head k))) r.per_block i old → state ≡ state_of_page (page (page_in r head i)) → IsFront (λ k. state_of_page (page (page_in r head k))) r.per_block (i + 1) new
stepped_for page r head i count old new state e step is here =
    subst (λ (n : ℕ). IsFront (λ k. state_of_page (page (page_in r head k))) n (i + 1) new) e
    (step (λ k. state_of_page (page (page_in r head k))) (subst (λ (n : ℕ). IsFront (λ k. state_of_page (page (page_in r head k))) n i old) (sym e) is) here)

-- a page that should be blank isn't
pub gap_for : (page : ℕ → List ℕ) (r : Shape) (head i : ℕ) (old new : Front) (state : PageState) → i < r.per_block → new ≡ old → (old.sealed < i) × (blanks state ≡ false)
    → state ≡ state_of_page (page (page_in r head i)) → IsFront (λ k. state_of_page (page (page_in r head k))) r.per_block i old → IsOrdered page r head (record { front = new; ordered = i })
gap_for page r head i old new state lt same gap here is = record {
  within = omega (arith, lt);
  front = subst (IsFront (λ k. state_of_page (page (page_in r head k))) r.per_block i) (sym same) is;
  gap = λ before. (subst (λ (x : Front). x.sealed < i) (sym same) gap.0, ap blanks (sym here) ∙ gap.1);
}

-- all pages are in order
pub ordered_for : (page : ℕ → List ℕ) (r : Shape) (head i count : ℕ) (front : Front) → count ≡ r.per_block → i ≤ count → count ≤ i
    → IsFront (λ k. state_of_page (page (page_in r head k))) r.per_block i front → IsOrdered page r head (record { front = front; ordered = count })
ordered_for page r head i count front e le ge is = record {
  within = omega (arith, e);
  front = subst (λ (n : ℕ). IsFront (λ k. state_of_page (page (page_in r head k))) r.per_block n front) (let all : i ≡ count = omega (arith, le, ge) in all) is;
  gap = λ before. absurd (omega (arith, before, e));
}

-- the marks by the scan of the blocks and the pages of the head
pub marks_for : (f g : FlashState) (r : Shape) (n : ℕ) (scan : Scan) (count head full_blocks kept per_block : ℕ) (pages : HeadPages)
    → OnlyReads f n g → 0 < r.blocks → Scanned (counts_full r (page_at f)) r.blocks r.blocks scan → ((full : ℕ → Bool) → (B : ℕ) → 0 < B → Scanned full B B scan → count ≡ heads full B) → count ≡ 1
    → head ≡ scan.head → full_blocks ≡ scan.fulls → kept ≡ kept_pages r full_blocks pages.front.sealed → per_block ≡ r.per_block → IsOrdered (page_at g) r head pages
    → AreMarks (page_at f) r (record { head = head; pages = pages; at = head * per_block + pages.front.sealed; kept = kept })
marks_for f g r n scan count head full_blocks kept per_block pages reads some scanned counts one_head head_is fulls_is kept_is size ordered =
    let here = head_is ∙ scanned.head in
    record {
      one_head = sym (counts (counts_full r (page_at f)) r.blocks some scanned) ∙ one_head;
      head = here;
      ordered = subst (λ (page : ℕ → List ℕ). IsOrdered page r head pages) (same_pages f g n reads) ordered;
      at = ap (λ (k : ℕ). head * k + pages.front.sealed) size;
      kept = kept_is ∙ ap (λ (k : ℕ). kept_pages r k pages.front.sealed) (fulls_is ∙ scanned.fulls);
    }

-- of all blocks one at least isn't kept whole
most_kept : (r : Shape) (full_blocks sealed : ℕ) → 3 ≤ r.blocks → kept_pages r full_blocks sealed + r.per_block ≤ room r + sealed
most_kept r full_blocks sealed some =
    let few : min full_blocks (cond (sealed == r.per_block - 1) (r.blocks - 2) (r.blocks - 1)) ≤ r.blocks - 1 = by (sealed == r.per_block - 1) in
    let up : min full_blocks (cond (sealed == r.per_block - 1) (r.blocks - 2) (r.blocks - 1)) * r.per_block ≤ (r.blocks - 1) * r.per_block = mul-le-mul_right r.per_block few in
    omega (arith, up, last_block r.blocks r.per_block (omega (arith, some)))
  where
    by : (b : Bool) → min full_blocks (cond b (r.blocks - 2) (r.blocks - 1)) ≤ r.blocks - 1
    by true = omega arith
    by false = omega arith

pub within_for : (r : Shape) → IsShape r → (head : ℕ) (pages : HeadPages) (per_block full_blocks kept : ℕ) → head < r.blocks → pages.front.sealed < r.per_block → pages.ordered ≤ r.per_block
    → per_block ≡ r.per_block → kept ≡ kept_pages r full_blocks pages.front.sealed → kept < room r
    → AreWithin r (record { head = head; pages = pages; at = head * per_block + pages.front.sealed; kept = kept })
within_for r shape head pages per_block full_blocks kept low sealed ordered size kept_is few =
    let at_is : head * per_block + pages.front.sealed ≡ head * r.per_block + pages.front.sealed = ap (λ (k : ℕ). head * k + pages.front.sealed) size in
    let up : (head + 1) * r.per_block ≤ r.blocks * r.per_block = mul-le-mul_right r.per_block (omega (arith, low)) in
    record {
      head = low;
      sealed = sealed;
      ordered = ordered;
      at = omega (arith, at_is, up, more head r.per_block, sealed);
      kept = few;
      few = omega (arith, kept_is, most_kept r full_blocks pages.front.sealed shape.blocks);
    }

-- A flash that stands for a ring has numbers.
use Rattle.std.proofs.Common.{◌≡◌, ◌⊎◌, inl, inr, ℕ, zero, suc, ◌+◌, ◌*◌, ◌/◌, ◌%◌, Option, Some, None, List, refl, sym, ◌∙◌, ap, arith}
use Rattle.std.proofs.lemmas.Bool.{cases_Bool, cases_lt}
use Rattle.fl_flash.specs.Flash.{FlashState, page_at}
use Rattle.fl_mark.specs.Mark.{state_of_page}
use Rattle.fl_ring.specs.declared.front.Front.{Front}
use Rattle.fl_ring.specs.declared.newest.Newest.{Newest}
use Rattle.fl_ring.specs.Finding.{kept_pages}
use Rattle.fl_ring.specs.Head.{counts_full, fulls}
use Rattle.fl_ring.specs.Mounting.{IsGood}
use Rattle.fl_ring.specs.Newest.{commits, number_of, page_back, NoneBefore, IsNewest}
use Rattle.fl_ring.specs.Ring.{Shape, RingState, IsShape}
use Rattle.fl_ring.proofs.Found.{head_found}
use Rattle.fl_ring.proofs.Good.{front_there}
use Rattle.fl_rules.specs.Marks.{AreMarks}
use Rattle.fl_rules.specs.Numbering.{HasNumbering}
use Rattle.fl_rules.specs.Numbers.{NewestOf, next_of}
use Rattle.fl_rules.specs.declared.marks.Marks.{Marks}
use Rattle.fl_check.proofs.GoodNumbers.{good_place, good_each, good_left}
use Rattle.fl_check.proofs.GoodStates.{good_states}

-- of some pages one is the newest committed one, or none is committed
newest_or_none : (page : ℕ → List ℕ) (r : Shape) (at kept : ℕ) → NoneBefore page r at (kept + 1) ⊎ ((newest : Newest) × IsNewest page r at kept newest)
newest_or_none page r at zero = inl (λ k some few. absurd (let never : ⊥ = omega (arith, some, few) in never))
newest_or_none page r at (suc kept) = elim (newest_or_none page r at kept) [
  | inl none ↦ elim (cases_Bool (commits (state_of_page (page (page_back r at (suc kept)))))) [
    | inl yes_committed ↦ inr (
      (record { number = number_of (page (page_back r at (suc kept))); back = suc kept }),
      (record { some = omega arith; within = omega arith; committed = yes_committed; others = λ k some few. none k some (omega (arith, few)); number = refl }),
    )
    | inr not_committed ↦ inl (λ k some few. elim (cases_lt k (suc kept)) [
      | inl before ↦ none k some (omega (arith, before))
      | inr past ↦ let e : k ≡ suc kept = omega (arith, past, few) in ap (λ (n : ℕ). commits (state_of_page (page (page_back r at n)))) e ∙ not_committed
    ])
  ]
  | inr found ↦ inr (
    found.0,
    (record { some = found.1.some; within = omega (arith, found.1.within); committed = found.1.committed; others = found.1.others; number = found.1.number }),
  )
]

module _ (f : FlashState) (r : Shape) (at_least : ℕ) (s : RingState) (shape : IsShape r) (good : IsGood f r at_least s) where
  abbrev head : ℕ
  head = s.next / r.per_block % r.blocks

  abbrev front : Front
  front = record { sealed = s.next % r.per_block; torn = s.torn }

  abbrev marks_of : Marks
  marks_of = record {
    head = head;
    pages = record { front = front; ordered = r.per_block };
    at = head * r.per_block + front.sealed;
    kept = kept_pages r (fulls (counts_full r (page_at f)) r.blocks) front.sealed;
  }

  are_marks : AreMarks (page_at f) r marks_of
  are_marks =
      let found = head_found r s shape good.on.ring (page_at f) good.on in
      record {
        one_head = found.0;
        head = sym found.1;
        ordered = record {
          within = omega arith;
          front = front_there r s shape good.on.ring (page_at f) good.on;
          gap = λ few. absurd (let never : ⊥ = omega (arith, few) in never);
        };
        at = refl;
        kept = refl;
      }

  numbering_by : (newest : Option Newest) → NewestOf (page_at f) r marks_of newest → HasNumbering (page_at f) r at_least
  numbering_by newest is = record {
    m = marks_of;
    next = next_of r marks_of at_least newest;
    is = record {
      marks = are_marks;
      states = good_states r s shape (page_at f) good.on marks_of are_marks;
      numbers = record {
        newest = newest;
        newest_is = is;
        fits = good_place f r at_least s shape good marks_of are_marks newest is;
        next_is = refl;
        each = good_each f r at_least s shape good marks_of are_marks newest is;
        left = good_left f r at_least s shape good marks_of are_marks newest is;
      };
    };
  }

  pub good_numbering : HasNumbering (page_at f) r at_least
  good_numbering = elim (newest_or_none (page_at f) r marks_of.at marks_of.kept) [
    | inl none ↦ numbering_by None none
    | inr found ↦ numbering_by (Some found.0) found.1
  ]

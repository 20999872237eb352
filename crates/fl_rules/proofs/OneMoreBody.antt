-- The bodies of the kept pages, from the oldest on: each has the form, or one is the first that hasn't.
use Rattle.std.proofs.Common.{◌≡◌, ℕ, ◌+◌, ◌-◌, ◌<◌, ◌≤◌, false, true, List, sym, ◌∙◌, subst, arith}
use Rattle.std.proofs.lemmas.Bool.{false≢true}
use borrow.Author.Count.{below_more}
use Rattle.fl_mark.specs.Mark.{state_of_page}
use Rattle.fl_ring.specs.Newest.{commits}
use Rattle.fl_ring.specs.Ring.{Shape}
use Rattle.fl_rules.specs.Bodies.{HasBody}
use Rattle.fl_rules.specs.Claims.{AllBelow, FailsFirst}
use Rattle.fl_rules.specs.Marks.{kept_page}
use Rattle.fl_rules.specs.declared.numbering.Numbering.{Numbering}

module _ (Form : ℕ → List ℕ → Type 0) (page : ℕ → List ℕ) (r : Shape) (n : Numbering) (i : ℕ) where
  pub all_formed : i ≡ 0 → AllBelow (HasBody Form page r n) i
  all_formed none k lt = absurd (omega (arith, none, lt))

  pub one_formed : AllBelow (HasBody Form page r n) i → HasBody Form page r n i → AllBelow (HasBody Form page r n) (i + 1)
  one_formed before here = below_more (HasBody Form page r n) i before here

  -- its number would be below 0
  pub not_due : (n.marks.kept - i ≤ n.next → ⊥) → HasBody Form page r n i
  not_due none = λ number is committed. absurd (none (omega (arith, is)))

  pub not_committed : commits (state_of_page (page (kept_page r n.marks i))) ≡ false → HasBody Form page r n i
  not_committed stands = λ number is committed. absurd (false≢true (sym stands ∙ committed))

  pub formed : (number : ℕ) → number + (n.marks.kept - i) ≡ n.next → Form number (page (kept_page r n.marks i)) → HasBody Form page r n i
  formed number is form = λ k also committed. subst (λ (m : ℕ). Form m (page (kept_page r n.marks i))) (one_number number k (n.marks.kept - i) n.next is also) form
    where
      one_number : (a b back next : ℕ) → a + back ≡ next → b + back ≡ next → a ≡ b
      one_number a b back next x y = omega (arith, x, y)

  pub unformed : i < n.marks.kept → AllBelow (HasBody Form page r n) i → (number : ℕ) → number + (n.marks.kept - i) ≡ n.next → commits (state_of_page (page (kept_page r n.marks i))) ≡ true →
      (Form number (page (kept_page r n.marks i)) → ⊥) → FailsFirst (HasBody Form page r n) n.marks.kept i
  unformed within before number is committed other = record { within = within; before = before; here = λ has. other (has number is committed) }

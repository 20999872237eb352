-- The rule on the bodies of a ring's pages: each committed page has the form of its ring.
use Rattle.std.specs.Prelude.{◌≡◌, ℕ, ◌+◌, ◌-◌, true, List}
use Rattle.fl_mark.specs.Mark.{state_of_page}
use Rattle.fl_ring.specs.Newest.{commits}
use Rattle.fl_ring.specs.Ring.{Shape}
use Rattle.fl_rules.specs.Claims.{AllBelow}
use Rattle.fl_rules.specs.Marks.{kept_page, IsFirstKept}
use Rattle.fl_rules.specs.declared.numbering.Numbering.{Numbering}

-- The i-th kept page has the form of a page with its number, where it is committed. Of a page whose number would be below 0
-- this says nothing: the rule on the numbers refuses it.
abbrev pub HasBody : (ℕ → List ℕ → Type 0) → (ℕ → List ℕ) → Shape → Numbering → ℕ → Type 0
HasBody Form page r n i =
    (number : ℕ) → number + (n.marks.kept - i) ≡ n.next → commits (state_of_page (page (kept_page r n.marks i))) ≡ true → Form number (page (kept_page r n.marks i))

abbrev pub HaveBodies : (ℕ → List ℕ → Type 0) → (ℕ → List ℕ) → Shape → Numbering → Type 0
HaveBodies Form page r n = AllBelow (HasBody Form page r n) n.marks.kept

-- the oldest kept page that hasn't
abbrev pub BodiesBreak : (ℕ → List ℕ → Type 0) → (ℕ → List ℕ) → Shape → Numbering → ℕ → Type 0
BodiesBreak Form page r n p = IsFirstKept (HasBody Form page r n) r n.marks p

-- Laws on the rules of a ring.
use Rattle.std.specs.Prelude.{◌≡◌, ℕ}
use Rattle.fl_flash.specs.Flash.{FlashState, page_at}
use Rattle.fl_ring.specs.Numbers.{renumbered}
use Rattle.fl_ring.specs.Ring.{Shape, RingState, count}
use Rattle.fl_rules.specs.Numbering.{IsNumbered, HasNumbering, BreaksFirst}
use Rattle.fl_rules.specs.Rest.{IsRestBlank}
use Rattle.fl_rules.specs.declared.marks.Marks.{Marks}
use Rattle.fl_rules.specs.declared.rule.Rule.{Rule}

-- No page breaks a rule, the rules tell numbers, and these are those of the ring before it is repaired.
pub record KeepsRules (f : FlashState) (r : Shape) (at_least : ℕ) (s : RingState) : Type 0 where
  pub unbroken : (rule : Rule) (p : ℕ) → BreaksFirst (page_at f) r at_least rule p → ⊥
  pub found : HasNumbering (page_at f) r at_least
  pub kept : (m : Marks) (next : ℕ) → IsNumbered (page_at f) r at_least m next → m.kept ≡ count s
  pub next : (m : Marks) (next : ℕ) → IsNumbered (page_at f) r at_least m next → next ≡ (renumbered r at_least s).next
  pub rest : (m : Marks) (next : ℕ) → IsNumbered (page_at f) r at_least m next → IsRestBlank (page_at f) r m

-- What is told of each rule of a ring. One that rests on a rule that doesn't hold isn't looked at: all rest on that on the head,
-- that on the bodies also on the numbers, and that on the keys also on the bodies.
use Rattle.std.specs.Prelude.{◌≡◌, ℕ, Option, Some, None, MatchOption, List}
use Rattle.fl_ring.specs.Ring.{Shape}
use Rattle.fl_rules.specs.Bodies.{HaveBodies, BodiesBreak}
use Rattle.fl_check.specs.Faults.{headless, with_keys}
use Rattle.fl_rules.specs.Marks.{HasOneHead, AreMarks}
use Rattle.fl_rules.specs.Numbers.{HaveNumbers, NumbersBreak}
use Rattle.fl_rules.specs.Rest.{IsRestBlank, RestBreaks}
use Rattle.fl_rules.specs.RingRules.{KeyOrder, HaveKeys, BreakKeys}
use Rattle.fl_rules.specs.States.{HaveStates, StatesBreak}
use Rattle.fl_check.specs.declared.faults.RingFaults.{RingFaults}
use Rattle.fl_rules.specs.declared.marks.Marks.{Marks}
use Rattle.fl_rules.specs.declared.numbering.Numbering.{Numbering}

-- `told` are the marks and the numbers of a ring whose rules on the head, the numbers and the bodies hold, and none else
module _ (Form : ℕ → List ℕ → Type 0) (page : ℕ → List ℕ) (r : Shape) where
  -- of a ring with these numbers: the rule on the bodies
  abbrev pub BodiesTold : Numbering → Option ℕ → Option Numbering → Type 0
  BodiesTold n None told = HaveBodies Form page r n × (told ≡ Some n)
  BodiesTold n (Some p) told = BodiesBreak Form page r n p × (told ≡ None)

  pub record NumbersHold (m : Marks) (at_least : ℕ) (body : Option ℕ) (told : Option Numbering) : Type 0 where
    pub next : ℕ
    pub numbers : HaveNumbers page r m at_least next
    pub bodies : BodiesTold (record { marks = m; next = next }) body told

  -- of a ring with these marks: that on the numbers
  abbrev pub NumbersTold : Marks → ℕ → Option ℕ → Option ℕ → Option Numbering → Type 0
  NumbersTold m at_least None body told = NumbersHold m at_least body told
  NumbersTold m at_least (Some p) body told = NumbersBreak page r m at_least p × (body ≡ None) × (told ≡ None)

  pub record HeadHolds (at_least : ℕ) (faults : RingFaults) (told : Option Numbering) : Type 0 where
    pub m : Marks
    pub marks : AreMarks page r m
    pub state : MatchOption faults.state (HaveStates page r m) (λ p. StatesBreak page r m p)
    pub numbers : NumbersTold m at_least faults.number faults.body told
    pub keys : faults.keys ≡ None
    pub rest : MatchOption faults.rest (IsRestBlank page r m) (λ p. RestBreaks page r m p)

  abbrev pub HeadTold : ℕ → Option ℕ → RingFaults → Option Numbering → Type 0
  HeadTold at_least None faults told = HeadHolds at_least faults told
  HeadTold at_least (Some p) faults told = (HasOneHead page r → ⊥) × (p ≡ r.first) × (faults ≡ headless p) × (told ≡ None)

  -- the rules of a ring but that on keys
  abbrev pub RingTold : ℕ → RingFaults → Option Numbering → Type 0
  RingTold at_least faults told = HeadTold at_least faults.head faults told

-- that on the keys
abbrev pub KeysTold : KeyOrder → (ℕ → List ℕ) → Shape → Option Numbering → Option ℕ → Type 0
KeysTold order page r None keys = keys ≡ None
KeysTold order page r (Some n) keys = MatchOption keys (HaveKeys order page r n) (λ p. BreakKeys order page r n p)

-- all rules of a ring of rows
pub record RowsTold (Form : ℕ → List ℕ → Type 0) (order : KeyOrder) (page : ℕ → List ℕ) (r : Shape) (at_least : ℕ) (faults : RingFaults) (told : Option Numbering) : Type 0 where
  pub ring : RingTold Form page r at_least (with_keys None faults) told
  pub keys : KeysTold order page r told faults.keys

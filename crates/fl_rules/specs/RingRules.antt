-- The rules of one ring, one after another: on its head, its states and its numbers, on the bodies of its pages, on their
-- keys, and on the pages that aren't kept.
use Rattle.std.specs.Prelude.{ℕ, None, List}
use Rattle.fl_model.specs.Record.{RowLayout}
use Rattle.fl_page.specs.Page.{rows_in, IsGoodPage}
use Rattle.fl_page.specs.Steps.{Ascends}
use Rattle.fl_ring.specs.Ring.{Shape}
use Rattle.fl_rules.specs.Bodies.{HaveBodies, BodiesBreak}
use Rattle.fl_rules.specs.Rising.{KeysAscend, KeysBreak}
use Rattle.fl_rules.specs.Numbering.{IsNumbered, BreaksFirst}
use Rattle.fl_rules.specs.Rest.{IsRestBlank, RestBreaks}
use Rattle.fl_rules.specs.declared.numbering.Numbering.{Numbering}
use Rattle.fl_rules.specs.declared.rule.Rule.{Rule}
use Rattle.fl_rules.specs.declared.rule.Rule.TheVariants.{Head, State, Number, Body, Keys, Entry, Blob, Rest}

-- its committed pages have the form of its bodies
pub record IsFormed (Form : ℕ → List ℕ → Type 0) (page : ℕ → List ℕ) (r : Shape) (at_least : ℕ) (n : Numbering) : Type 0 where
  pub numbered : IsNumbered page r at_least n.marks n.next
  pub bodies : HaveBodies Form page r n

-- how the keys of a ring's rows ascend: its pages have no rows, or the keys ascend from page to page, or in each page by itself
pub data KeyOrder : Type 0 where
  NoRows : KeyOrder
  OverPages : (layout : RowLayout) → KeyOrder
  WithinPages : (layout : RowLayout) → KeyOrder

-- a page of rows with ascending keys
abbrev pub IsAscending : RowLayout → ℕ → List ℕ → Type 0
IsAscending layout number page = IsGoodPage layout number page × Ascends None (rows_in layout page)

abbrev pub HaveKeys : KeyOrder → (ℕ → List ℕ) → Shape → Numbering → Type 0
HaveKeys NoRows page r n = Unit {0}
HaveKeys (OverPages layout) page r n = KeysAscend layout page r n.marks
HaveKeys (WithinPages layout) page r n = HaveBodies (IsAscending layout) page r n

abbrev pub BreakKeys : KeyOrder → (ℕ → List ℕ) → Shape → Numbering → ℕ → Type 0
BreakKeys NoRows page r n p = ⊥
BreakKeys (OverPages layout) page r n p = KeysBreak layout page r n.marks p
BreakKeys (WithinPages layout) page r n p = BodiesBreak (IsAscending layout) page r n p

-- all its rules hold
pub record IsRingSound (Form : ℕ → List ℕ → Type 0) (order : KeyOrder) (page : ℕ → List ℕ) (r : Shape) (at_least : ℕ) (n : Numbering) : Type 0 where
  pub formed : IsFormed Form page r at_least n
  pub keys : HaveKeys order page r n
  pub rest : IsRestBlank page r n.marks

-- the first that doesn't hold is that on the bodies
pub record BreaksBodies (Form : ℕ → List ℕ → Type 0) (page : ℕ → List ℕ) (r : Shape) (at_least p : ℕ) : Type 0 where
  pub n : Numbering
  pub numbered : IsNumbered page r at_least n.marks n.next
  pub breaks : BodiesBreak Form page r n p

-- .. or that on the keys
pub record BreaksKeys (Form : ℕ → List ℕ → Type 0) (order : KeyOrder) (page : ℕ → List ℕ) (r : Shape) (at_least p : ℕ) : Type 0 where
  pub n : Numbering
  pub formed : IsFormed Form page r at_least n
  pub breaks : BreakKeys order page r n p

-- .. or that on the pages that aren't kept
pub record BreaksRest (Form : ℕ → List ℕ → Type 0) (order : KeyOrder) (page : ℕ → List ℕ) (r : Shape) (at_least p : ℕ) : Type 0 where
  pub n : Numbering
  pub formed : IsFormed Form page r at_least n
  pub keys : HaveKeys order page r n
  pub breaks : RestBreaks page r n.marks p

-- the first rule of the ring that doesn't hold, and the page that breaks it first
abbrev pub BreaksRing : (ℕ → List ℕ → Type 0) → KeyOrder → (ℕ → List ℕ) → Shape → ℕ → Rule → ℕ → Type 0
BreaksRing Form order page r at_least Head p = BreaksFirst page r at_least Head p
BreaksRing Form order page r at_least State p = BreaksFirst page r at_least State p
BreaksRing Form order page r at_least Number p = BreaksFirst page r at_least Number p
BreaksRing Form order page r at_least Body p = BreaksBodies Form page r at_least p
BreaksRing Form order page r at_least Keys p = BreaksKeys Form order page r at_least p
BreaksRing Form order page r at_least Entry p = ⊥
BreaksRing Form order page r at_least Blob p = ⊥
BreaksRing Form order page r at_least Rest p = BreaksRest Form order page r at_least p

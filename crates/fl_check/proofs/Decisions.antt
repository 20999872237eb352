-- Checks of which one thing passes or one is told, and never both: one check after another is such a check.
use Rattle.std.proofs.Common.{◌≡◌, ◌⊎◌, inl, inr, ℕ, refl, sym, ◌∙◌, ap, subst}
use Rattle.fl_rules.specs.declared.rule.Breach.{Breach}
use Rattle.fl_rules.specs.declared.rule.Rule.{Rule}

pub record Decided {X B : Type 0} (Passes : X → Type 0) (Breaks : B → Type 0) : Type 0 where
  pub one : (x y : X) → Passes x → Passes y → x ≡ y
  pub first : (b c : B) → Breaks b → Breaks c → b ≡ c
  pub either : (x : X) (b : B) → Passes x → Breaks b → ⊥

-- the check before passes, and the one after it breaks
pub record After {X B : Type 0} (Passes : X → Type 0) (Breaks : X → B → Type 0) (b : B) : Type 0 where
  pub x : X
  pub passes : Passes x
  pub breaks : Breaks x b

pub then_decided : {X Y Z B : Type 0} (P : X → Type 0) (F : B → Type 0) (Q : X → Y → Type 0) (G : X → B → Type 0) (R : Z → Type 0) (H : B → Type 0) (left : Z → X) (right : Z → Y)
    → Decided P F → ((x : X) → Decided (Q x) (G x)) → ((z w : Z) → left z ≡ left w → right z ≡ right w → z ≡ w)
    → ((z : Z) → R z → P (left z) × Q (left z) (right z)) → ((b : B) → H b → F b ⊎ After P G b) → Decided R H
then_decided {X} {Y} {Z} {B} P F Q G R H left right before after joins splits leads = record {
  one = one;
  first = λ b c h k. first b c (leads b h) (leads c k);
  either = λ z b h k. either z b (splits z h) (leads b k);
}
  where
    one : (z w : Z) → R z → R w → z ≡ w
    one z w h k =
        let same = before.one (left z) (left w) (splits z h).0 (splits w k).0 in
        joins z w same ((after (left w)).one (right z) (right w) (subst (λ (x : X). Q x (right z)) same (splits z h).1) (splits w k).1)

    first : (b c : B) → F b ⊎ After P G b → F c ⊎ After P G c → b ≡ c
    first b c (inl h) (inl k) = before.first b c h k
    first b c (inl h) (inr k) = absurd (before.either k.x b k.passes h)
    first b c (inr h) (inl k) = absurd (before.either h.x c h.passes k)
    first b c (inr h) (inr k) =
        (after k.x).first b c (subst (λ (x : X). G x b) (before.one h.x k.x h.passes k.passes) h.breaks) k.breaks

    either : (z : Z) (b : B) → P (left z) × Q (left z) (right z) → F b ⊎ After P G b → ⊥
    either z b h (inl k) = before.either (left z) b h.0 k
    either z b h (inr k) =
        (after (left z)).either (right z) b h.1 (subst (λ (x : X). G x b) (before.one k.x (left z) k.passes h.0) k.breaks)

-- a check that passes nothing on
pub then_claimed : {X B : Type 0} (P : X → Type 0) (F : B → Type 0) (C : X → Type 0) (G : X → B → Type 0) (R : X → Type 0) (H : B → Type 0)
    → Decided P F → ((x : X) → Decided (λ (u : Unit {0}). C x) (G x)) → ((x : X) → R x → P x × C x) → ((b : B) → H b → F b ⊎ After P G b) → Decided R H
then_claimed {X} P F C G R H before after splits leads =
    then_decided P F (λ (x : X) (u : Unit {0}). C x) G R H (λ (x : X). x) (λ (x : X). tt) before after (λ x y same u. same) splits leads

pub breach_same : (b c : Breach) → b.rule ≡ c.rule → b.page ≡ c.page → b ≡ c
breach_same b c rule page = ap (λ (r : Rule). at r b.page) rule ∙ ap (λ (p : ℕ). at c.rule p) page
  where
    at : Rule → ℕ → Breach
    at r p = record { rule = r; page = p }

-- one rule, and the pages that break it
pub rule_decided : {X : Type 0} (rule : Rule) (P : X → Type 0) (Breaks : ℕ → Type 0) → ((x y : X) → P x → P y → x ≡ y) → ((p q : ℕ) → Breaks p → Breaks q → p ≡ q) → ((x : X) (p : ℕ) → P x → Breaks p → ⊥)
    → Decided P (λ (b : Breach). (b.rule ≡ rule) × Breaks b.page)
rule_decided rule P Breaks one first either = record {
  one = one;
  first = λ b c h k. breach_same b c (h.0 ∙ sym k.0) (first b.page c.page h.1 k.1);
  either = λ x b h k. either x b.page h k.1;
}

pub claim_decided : (rule : Rule) (C : Type 0) (Breaks : ℕ → Type 0) → ((p q : ℕ) → Breaks p → Breaks q → p ≡ q) → ((p : ℕ) → C → Breaks p → ⊥)
    → Decided (λ (u : Unit {0}). C) (λ (b : Breach). (b.rule ≡ rule) × Breaks b.page)
claim_decided rule C Breaks first either = rule_decided rule (λ (u : Unit {0}). C) Breaks (λ x y h k. refl) first (λ x p. either p)

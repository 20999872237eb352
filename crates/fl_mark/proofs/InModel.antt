-- The states of a page in the words of the store's model.
use Rattle.std.proofs.Common.{◌≡◌, ◌↔◌, ℕ, ◌-◌, ◌≤◌, Bool, true, false, ◌&&◌, not, IsTrue, if◌then◌else◌, List, length, take, drop, replicate, refl, sym, ◌∙◌, ap, subst, arith, length-drop}
use Rattle.std.proofs.lemmas.List.{drop-replicate, take_all}
use Rattle.fl_model.specs.Layout as model
use Rattle.fl_mark.specs.declared.page_state.PageState.{PageState}
use Rattle.fl_mark.specs.declared.page_state.PageState.TheVariants.{Blank, Torn, Committed, Void}
use Rattle.fl_base.specs.Bytes.{all_are}
use Rattle.fl_base.proofs.OneByte.{all_same}
use Rattle.fl_mark.specs.Mark.{commit_field, void_field, state_of_page}
use Rattle.fl_mark.specs.InModel.{IsModelState}

-- a state by three tests: each byte is FF, the commit field is zero, the void field is FF
abbrev by_tests : Bool → Bool → Bool → PageState
by_tests blank zero ones = if blank then Blank else if zero then Committed else if ones then Torn else Void

record Agree (blank zero ones : Bool) : Type 0 where
  is_blank : (by_tests blank zero ones ≡ Blank) ↔ IsTrue blank
  is_committed : (by_tests blank zero ones ≡ Committed) ↔ IsTrue zero
  is_void : (by_tests blank zero ones ≡ Void) ↔ IsTrue (not zero && not ones)
  is_torn : (by_tests blank zero ones ≡ Torn) ↔ ((blank ≡ false) × (zero ≡ false) × ((not zero && not ones) ≡ false))

agree : (blank zero ones : Bool) → (blank ≡ true → (zero ≡ false) × (ones ≡ true)) → Agree blank zero ones
agree true true ones apart = absurd (cc ((apart refl).0))
agree true false false apart = absurd (cc ((apart refl).1))
agree true false true apart = record {
  is_blank = (λ e. refl, λ e. refl);
  is_committed = (λ e. absurd cc, λ e. absurd cc);
  is_void = (λ e. absurd cc, λ e. absurd cc);
  is_torn = (λ e. absurd cc, λ e. absurd (cc (e.0)));
}
agree false true ones apart = record {
  is_blank = (λ e. absurd cc, λ e. absurd cc);
  is_committed = (λ e. refl, λ e. refl);
  is_void = (λ e. absurd cc, λ e. absurd cc);
  is_torn = (λ e. absurd cc, λ e. absurd (cc (e.1)));
}
agree false false true apart = record {
  is_blank = (λ e. absurd cc, λ e. absurd cc);
  is_committed = (λ e. absurd cc, λ e. absurd cc);
  is_void = (λ e. absurd cc, λ e. absurd cc);
  is_torn = (λ e. (refl, refl, refl), λ e. refl);
}
agree false false false apart = record {
  is_blank = (λ e. absurd cc, λ e. absurd cc);
  is_committed = (λ e. absurd cc, λ e. absurd cc);
  is_void = (λ e. refl, λ e. refl);
  is_torn = (λ e. absurd cc, λ e. absurd (cc (e.2)));
}

-- the marks of a blank page are FF too
blank_marks : (page : List ℕ) → 8 ≤ length page → all_are 255 page ≡ true → (all_are 0 (commit_field page) ≡ false) × (all_are 255 (void_field page) ≡ true)
blank_marks page le e =
    let n = length page in
    let four : n - 4 - (n - 8) ≡ 4 = omega arith in
    let last : n - (n - 4) ≡ 4 = omega arith in
    let low : n - (n - 8) ≡ 8 = omega arith in
    let commit : commit_field page ≡ replicate 4 255 =
    ap (λ (k : ℕ). take k (drop (n - 8) page)) four ∙ ap (λ (l : List ℕ). take 4 (drop (n - 8) l)) (all_same 255 page e)
    ∙ ap (λ (l : List ℕ). take 4 l) (drop-replicate (n - 8) n 255) ∙ ap (λ (k : ℕ). take 4 (replicate k 255)) low in
    let void : void_field page ≡ replicate 4 255 =
    ap (λ (k : ℕ). take k (drop (n - 4) page)) last ∙ ap (λ (l : List ℕ). take 4 (drop (n - 4) l)) (all_same 255 page e)
    ∙ ap (λ (l : List ℕ). take 4 l) (drop-replicate (n - 4) n 255) ∙ ap (λ (k : ℕ). take 4 (replicate k 255)) last in
    (ap (λ (l : List ℕ). all_are 0 l) {x = commit_field page} {y = replicate 4 255} commit, ap (λ (l : List ℕ). all_are 255 l) {x = void_field page} {y = replicate 4 255} void)

pub model_state : (page : List ℕ) → 8 ≤ length page → IsModelState page
model_state page le =
    let n = length page in
    let four : 4 ≡ n - 4 - (n - 8) = omega arith in
    let last : n - (n - 4) ≡ 4 = omega arith in
    let commit : model.commit_field page ≡ commit_field page = ap (λ (k : ℕ). take k (drop (n - 8) page)) four in
    let void : model.void_field page ≡ void_field page = sym (take_all (n - (n - 4)) (drop (n - 4) page) (omega (arith, length-drop {A = ℕ}))) in
    let zero : model.is_committed page ≡ all_are 0 (commit_field page) = ap (λ (l : List ℕ). all_are 0 l) commit in
    let ones : all_are 255 (model.void_field page) ≡ all_are 255 (void_field page) = ap (λ (l : List ℕ). all_are 255 l) void in
    let given : model.is_void page ≡ (not (all_are 0 (commit_field page)) && not (all_are 255 (void_field page))) =
    ap (λ (b : Bool). not b && not (all_are 255 (model.void_field page))) zero ∙ ap (λ (b : Bool). not (all_are 0 (commit_field page)) && not b) ones in
    let a = agree (all_are 255 page) (all_are 0 (commit_field page)) (all_are 255 (void_field page)) (blank_marks page le) in
    record {
      blank = a.is_blank;
      committed = subst (λ (b : Bool). (state_of_page page ≡ Committed) ↔ IsTrue b) (sym zero) a.is_committed;
      void = subst (λ (b : Bool). (state_of_page page ≡ Void) ↔ IsTrue b) (sym given) a.is_void;
      torn =
          subst (λ (b : Bool). (state_of_page page ≡ Torn) ↔ ((model.is_blank page ≡ false) × (b ≡ false) × (model.is_void page ≡ false))) (sym zero)
          (subst (λ (b : Bool). (state_of_page page ≡ Torn) ↔ ((model.is_blank page ≡ false) × (all_are 0 (commit_field page) ≡ false) × (b ≡ false))) (sym given) a.is_torn);
    }

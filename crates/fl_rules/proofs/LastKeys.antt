-- The keys of pages, one after another.
use Rattle.std.proofs.Common.{◌≡◌, ℕ, zero, suc, ◌+◌, ◌<◌, true, false, inl, inr, refl, Option, Some, List, [], ◌∷◌, length, ap, sym, ◌∙◌, subst, arith}
use Rattle.std.proofs.lemmas.Bool.{cases_eq}
use Rattle.std.specs.List.{slice_get}
use Rattle.fl_mark.specs.Mark.{state_of_page}
use Rattle.fl_model.specs.Record.{RowLayout}
use Rattle.fl_model.specs.Row.{Row}
use Rattle.fl_page.specs.Page.{rows_in}
use Rattle.fl_ring.specs.Newest.{commits}
use Rattle.fl_ring.specs.Ring.{Shape}
use Rattle.fl_rules.specs.Claims.{AllBelow}
use Rattle.fl_rules.specs.Marks.{kept_page}
use Rattle.fl_rules.specs.Rising.{last_in, last_after, last_key, HasRows, RisesFrom, Rises, HaveRows, KeysBreak}
use Rattle.fl_rules.specs.Stop.{breach}
use Rattle.fl_rules.specs.declared.marks.Marks.{Marks}
use Rattle.fl_rules.specs.declared.rule.Breach.{Breach}
use Rattle.fl_rules.specs.declared.rule.Rule.TheVariants.{Keys}

-- the last key is that of the last row
pub last_at : (rows : List Row) (before : Option ℕ) (n : ℕ) (row : Row) → length rows ≡ suc n → slice_get rows n ≡ Some row → last_in before rows ≡ Some row.key
last_at [] before n row len e = absurd (omega (arith, len))
last_at (r ∷ []) before zero row len e = let same : r ≡ row = cc in ap (λ (x : Row). Some x.key) same
last_at (r ∷ []) before (suc n) row len e = absurd (omega (arith, len))
last_at (r ∷ (x ∷ rows)) before zero row len e = absurd (omega (arith, len))
last_at (r ∷ (x ∷ rows)) before (suc n) row len e = last_at (x ∷ rows) (Some r.key) n row (omega (arith, len)) e

-- a committed page's last key counts
pub after_committed : (layout : RowLayout) (page : List ℕ) (before : Option ℕ) (rows : List Row) (key : ℕ) → commits (state_of_page page) ≡ true → rows ≡ rows_in layout page
    → last_in before rows ≡ Some key → Some key ≡ last_after layout page before
after_committed layout page before rows key committed same last = rw committed (sym last ∙ ap (last_in before) same)

-- no other's does
pub after_other : (layout : RowLayout) (page : List ℕ) (before : Option ℕ) → commits (state_of_page page) ≡ false → before ≡ last_after layout page before
after_other layout page before other = rw other refl

-- the last key of one page more
pub last_more : (layout : RowLayout) (page : ℕ → List ℕ) (r : Shape) (m : Marks) (i : ℕ) → last_key layout page r m (i + 1) ≡ last_after layout (page (kept_page r m i)) (last_key layout page r m i)
last_more layout page r m i = let e : i + 1 ≡ suc i = omega arith in ap (last_key layout page r m) e

-- the i-th kept page, by its bytes and the last key before it
module _ (layout : RowLayout) (page : ℕ → List ℕ) (r : Shape) (m : Marks) (i : ℕ) (last : Option ℕ) (bytes : List ℕ) (same : bytes ≡ page (kept_page r m i)) (known : last ≡ last_key layout page r m i) where
  pub last_for : (now : Option ℕ) → now ≡ last_after layout bytes last → now ≡ last_key layout page r m (i + 1)
  last_for now e =
      e ∙ ap (λ (l : List ℕ). last_after layout l last) same ∙ ap (λ (o : Option ℕ). last_after layout (page (kept_page r m i)) o) known
      ∙ sym (last_more layout page r m i)

  pub rises_for : RisesFrom layout last bytes → Rises layout page r m i
  rises_for rises = subst (λ (o : Option ℕ). RisesFrom layout o (page (kept_page r m i))) known (subst (λ (l : List ℕ). RisesFrom layout last l) same rises)

  pub rise_more : AllBelow (Rises layout page r m) i → RisesFrom layout last bytes → AllBelow (Rises layout page r m) (i + 1)
  rise_more before rises = λ k lt. elim (cases_eq k i) [
    | inl here ↦ subst (Rises layout page r m) (sym here) (rises_for rises)
    | inr other ↦ before k (omega (arith, other, lt))
  ]

  pub falls_for : (b : Breach) (p : ℕ) → i < m.kept → AllBelow (Rises layout page r m) i → (HasRows layout bytes → RisesFrom layout last bytes → ⊥) → HaveRows layout page r m
      → b ≡ breach Keys p → p ≡ kept_page r m i → (b.rule ≡ Keys) × KeysBreak layout page r m b.page
  falls_for b p within before falls rows is at = (
    ap (λ (x : Breach). x.rule) is,
    record {
      i = i;
      first = record {
        within = within;
        before = before;
        here = λ rises. falls (subst (HasRows layout) (sym same) (rows i within))
            (subst (λ (l : List ℕ). RisesFrom layout last l) (sym same) (subst (λ (o : Option ℕ). RisesFrom layout o (page (kept_page r m i))) (sym known) rises));
      };
      is = ap (λ (x : Breach). x.page) is ∙ at;
    },
  )

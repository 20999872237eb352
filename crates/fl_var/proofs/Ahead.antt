-- The block ahead of a ring after a seal.
use Rattle.std.proofs.Common.{◌≡◌, ℕ, ◌+◌, ◌-◌, ◌*◌, Bool, true, false, IsTrue, Option, Some, None, Ok, List, inl, inr, refl, sym, ◌∙◌, ap, subst, arith}
use Rattle.std.specs.Prelude.{IsErr}
use Rattle.std.proofs.lemmas.Bool.{true≢false}
use Rattle.fl_base.specs.declared.types.Geometry.{Geometry}
use Rattle.fl_flash.specs.Flash.{FlashState, page_at, blank}
use Rattle.fl_flash.specs.declared.flash.FlashFault.{FlashFault}
use Rattle.fl_ring.specs.Place.{LiesOn, next_of, oldest_of, shape_of}
use Rattle.fl_ring.specs.Repairing.{ahead_first}
use Rattle.fl_ring.specs.Ring.{is_due_at}
use Rattle.fl_ring.specs.Sealing.{ErasesWhere, SealCalls, SealsLast}
use Rattle.fl_ring.specs.declared.ring.Ring.{Ring}
use Rattle.fl_var.specs.Ahead.{AheadBlank, IsAhead}

-- A seal was whole: its last call erased the block ahead, where the oldest block goes.
module _ (ring : Ring) (body : List ℕ) (old new : FlashState) (lies : LiesOn ring old) (told : IsTrue old.media.tells) where
  abbrev due : Bool
  due = is_due_at (shape_of ring) (next_of ring + 1) (next_of ring + 1 - oldest_of ring)

  erased : (u : Unit {0}) (s : SealsLast (shape_of ring) (next_of ring) due body old (Ok u) new) (page : ℕ) → IsAhead ring page → (b : Bool) → due ≡ b → ErasesWhere (shape_of ring) (next_of ring) b s.marked (Ok u) new → page_at new page ≡ blank (shape_of ring).size
  erased u s page ahead true is e =
      let geometry : s.marked.geometry ≡ old.geometry = s.mark_then.goes.geometry ∙ s.body_first.goes.geometry in
      let block : s.marked.geometry.block ≡ (shape_of ring).per_block = ap (λ (g : Geometry). g.block) geometry ∙ lies.block in
      let size : s.marked.geometry.page ≡ (shape_of ring).size = ap (λ (g : Geometry). g.page) geometry ∙ lies.page in
      let first : e.block * s.marked.geometry.block ≡ ahead_first (shape_of ring) (next_of ring + 1) = ap (λ n. e.block * n) block ∙ e.at in
      let at : page ≡ e.block * s.marked.geometry.block + (page - ahead_first (shape_of ring) (next_of ring + 1)) = omega (arith, first, ahead.1) in
      let here = (e.erases.ok (subst IsTrue (sym (s.mark_then.goes.tells ∙ s.body_first.goes.tells)) told)).here (page - ahead_first (shape_of ring) (next_of ring + 1)) (omega (arith, ahead.1, ahead.2, block)) in
      ap (page_at new) at ∙ (here ∙ ap blank size)
  erased u s page ahead false is e = absurd (true≢false (sym ahead.0 ∙ is))

  seal-ahead : (u : Unit {0}) → SealCalls (shape_of ring) (next_of ring) due body old (Ok u) new → (page : ℕ) → IsAhead ring page → page_at new page ≡ blank (shape_of ring).size
  seal-ahead u (inl s) page ahead = erased u s page ahead due refl s.erase_last
  seal-ahead u (inr (inl m)) page ahead = absurd (not_err m.fails)
    where
      not_err : IsErr {T = Unit {0}} {E = FlashFault} (Ok u) → ⊥
      not_err e = cc
  seal-ahead u (inr (inr b)) page ahead = absurd (not_err b.fails)
    where
      not_err : IsErr {T = Unit {0}} {E = FlashFault} (Ok u) → ⊥
      not_err e = cc

  -- .. of a ring that may not have been mounted
  pub held-ahead : (held : Option Ring) → held ≡ Some ring → (u : Unit {0}) → SealCalls (shape_of ring) (next_of ring) due body old (Ok u) new → AheadBlank held (λ page. ⊥) (page_at new)
  held-ahead held is u calls = subst (λ (o : Option Ring). AheadBlank o (λ page. ⊥) (page_at new)) (sym is) (λ page ahead not. seal-ahead u calls page ahead)

-- calls behind it leave what they don't change
pub ahead-later : (held : Option Ring) (Changed May : ℕ → Type 0) (old new : ℕ → List ℕ) → ((page : ℕ) → (May page → ⊥) → Changed page → ⊥) → ((page : ℕ) → (May page → ⊥) → new page ≡ old page) → AheadBlank held Changed old → AheadBlank held May new
ahead-later None Changed May old new wider stands h = tt
ahead-later (Some ring) Changed May old new wider stands h = λ page ahead not. stands page not ∙ h page ahead (wider page not)

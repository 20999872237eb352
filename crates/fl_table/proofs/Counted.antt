-- What is known of the kept pages once the pending rows were sealed.
use Rattle.std.proofs.Common.{◌≡◌, ℕ, ◌-◌, false, Some, List, ◌∷◌, [], ◌++◌, sym, ◌∙◌, ap, subst}
use Rattle.std.specs.List.{slice_get}
use Rattle.fl_find.specs.Index.{IndexOf, is_further, knots_in}
use Rattle.fl_find.specs.declared.index.KeyIndex.{KeyIndex}
use Rattle.fl_model.specs.Row.{Row}
use Rattle.fl_spline.specs.Points.{IsFurther}
use Rattle.fl_table.specs.Stored.{voids_from}

-- the first of some rows
pub first-is : (rows : List Row) (row first : Row) → slice_get (row ∷ rows) 0 ≡ Some first → row ≡ first
first-is rows row first e = cc

-- the void pages of the same range, by the same notes
pub voids-left : (voids gone old from to begin end : ℕ) (counts items : List ℕ) → voids ≡ old - gone → gone ≡ voids_from counts from to → counts ≡ items → from ≡ begin → to ≡ end → voids ≡ old - voids_from items begin end
voids-left voids gone old from to begin end counts items left told same first last =
    left ∙ ap (λ (n : ℕ). old - n)
    (told ∙ (ap (λ (l : List ℕ). voids_from l from to) same ∙ (ap (λ (n : ℕ). voids_from items n to) first ∙ ap (λ (n : ℕ). voids_from items begin n) last)))

module _ {KNOTS SLOTS : ℕ} (index new : KeyIndex KNOTS SLOTS) (key number first next : ℕ) (key_is : key ≡ first) (number_is : number ≡ next) where
  -- the same page is learned by the same key
  pub learned-as : ((error : ℕ) (points : List (ℕ × ℕ)) → IndexOf error points index → IsFurther points (key, number) → IndexOf error (points ++ (key, number) ∷ []) new) →
      (error : ℕ) (points : List (ℕ × ℕ)) → IndexOf error points index → IsFurther points (first, next) → IndexOf error (points ++ (first, next) ∷ []) new
  learned-as learns error points of further =
      subst (λ (k : ℕ). IndexOf error (points ++ (k, next) ∷ []) new) key_is
      (subst (λ (n : ℕ). IndexOf error (points ++ (key, n) ∷ []) new) number_is
      (learns error points of (subst (λ (n : ℕ). IsFurther points (key, n)) (sym number_is) (subst (λ (k : ℕ). IsFurther points (k, next)) (sym key_is) further))))

  -- .. or left out
  pub left-out-as : (is_further (knots_in index) (key, number) ≡ false → new ≡ index) → is_further (knots_in index) (first, next) ≡ false → new ≡ index
  left-out-as leaves behind =
      leaves (ap (λ (k : ℕ). is_further (knots_in index) (k, number)) key_is ∙ (ap (λ (n : ℕ). is_further (knots_in index) (first, n)) number_is ∙ behind))

-- Lines whose numbers rise, listed one after another.
use Rattle.std.proofs.Common.{◌≡◌, ℕ, true, Option, Some, List, [], ◌∷◌, ◌++◌, subst}
use Rattle.fl_model.specs.Query.{is_above}
use Rattle.fl_words.specs.Reply.{Reply}
use Rattle.fl_queries.specs.Rising.{AreRising, RiseTo}

module _ (IsLine : ℕ → Reply → Type 0) where
  pub are-rising : (above now : Option ℕ) (lines : List Reply) → RiseTo IsLine above now lines → AreRising IsLine above lines
  are-rising above now [] h = tt
  are-rising above now (line ∷ lines) h = (h.0, h.1, h.2, are-rising (Some h.0) now lines h.3)

  -- one more was listed
  pub rise-more : (above mid now : Option ℕ) (lines : List Reply) (line : Reply) (number : ℕ) → IsLine number line → is_above mid number ≡ true → now ≡ Some number → RiseTo IsLine above mid lines → RiseTo IsLine above now (lines ++ line ∷ [])
  rise-more above mid now [] line number is more behind h = (number, is, h number more, λ later passes. subst (λ (o : Option ℕ). is_above o later ≡ true) behind passes)
  rise-more above mid now (x ∷ lines) line number is more behind h = (h.0, h.1, h.2, rise-more (Some h.0) mid now lines line number is more behind h.3)

  -- no more was
  pub rise-on : (above mid now : Option ℕ) (lines : List Reply) → ((number : ℕ) → is_above now number ≡ true → is_above mid number ≡ true) → RiseTo IsLine above mid lines → RiseTo IsLine above now lines
  rise-on above mid now [] falls h = λ number passes. h number (falls number passes)
  rise-on above mid now (x ∷ lines) falls h = (h.0, h.1, h.2, rise-on (Some h.0) mid now lines falls h.3)

-- The configuration that is given where there is no image.
use Rattle.std.proofs.Common.{◌≡◌, ℕ, inr, Option, Some, None, IfSome, Result, Ok, Err, IfOk, List, refl}
use Rattle.fl_image.specs.declared.status.ToolStatus.{ToolStatus}
use Rattle.fl_words.specs.Config.{Lines}
use Rattle.fl_salvage.specs.Given.{IsConfigured, IsGiven, IsNoImage}

pub given-configured : (result : Result Lines ToolStatus) (bytes : List ℕ) (left : Option (List ℕ)) (Tells : Type 0) → (Tells → IsNoImage bytes)
    → IfOk result (λ config. (text : List ℕ) → left ≡ Some text → IsGiven text config) → IfOk result (λ config. Tells → IsConfigured bytes left config)
given-configured (Ok config) bytes left Tells none given = λ tells. inr (none tells, by_left left given)
  where
    by_left : (o : Option (List ℕ)) → ((text : List ℕ) → o ≡ Some text → IsGiven text config) → IfSome o (λ text. IsGiven text config)
    by_left None g = tt
    by_left (Some text) g = g text refl
given-configured (Err status) bytes left Tells none given = tt

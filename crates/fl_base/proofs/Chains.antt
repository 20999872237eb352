-- Texts that are appended one after another.
use Rattle.std.proofs.Common.{◌≡◌, ℕ, Result, Ok, Err, List, ◌++◌, ◌∙◌, ap, append_assoc}
use Rattle.std.specs.Prelude.{OnOk}

-- one more, behind those since a first one
pub more : (l r b x y : List ℕ) → x ≡ l ++ r → y ≡ x ++ b → y ≡ l ++ (r ++ b)
more l r b x y ex ey = ey ∙ ap (λ (t : List ℕ). t ++ b) ex ∙ append_assoc l r b

-- .. and the last, where there was memory for it
pub last : {T E : Type 0} (result : Result T E) (l r b x y : List ℕ) → x ≡ l ++ r → OnOk result (y ≡ x ++ b) → OnOk result (y ≡ l ++ (r ++ b))
last (Ok done) l r b x y ex ey = more l r b x y ex ey
last (Err e) l r b x y ex ey = tt

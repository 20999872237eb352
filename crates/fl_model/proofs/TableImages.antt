-- The tables of an image, each by its place.
use Rattle.std.proofs.Common.{◌≡◌, ℕ, zero, suc, ◌+◌, Some, List, [], ◌∷◌, length, refl, ap, subst, arith}
use Rattle.std.specs.List.{slice_get}
use Rattle.std.proofs.lemmas.Option.{none-some}
use Rattle.fl_model.specs.Image.{AreTableImages, IsTableImage}
use Rattle.fl_model.specs.Record.{Plan, Config}
use Rattle.fl_model.specs.Table.{Table}

pub images-many : (config : Config) (content : List ℕ) (place : ℕ) (plans : List Plan) (tables : List Table) → AreTableImages config content place plans tables → length tables ≡ length plans
images-many config content place [] [] h = refl
images-many config content place [] (table ∷ tables) h = absurd h
images-many config content place (plan ∷ plans) [] h = absurd h
images-many config content place (plan ∷ plans) (table ∷ tables) h = ap suc (images-many config content (place + 1) plans tables h.1)

pub images-at : (config : Config) (content : List ℕ) (place : ℕ) (plans : List Plan) (tables : List Table) → AreTableImages config content place plans tables → (i : ℕ) (plan : Plan) (table : Table) → slice_get plans i ≡ Some plan → slice_get tables i ≡ Some table →
    IsTableImage config content (place + i) plan table
images-at config content place [] tables h i plan table e k = absurd (none-some plan e)
images-at config content place (p ∷ plans) [] h i plan table e k = absurd h
images-at config content place (p ∷ plans) (t ∷ tables) h zero plan table e k =
    let plan_is : p ≡ plan = cc in
    let table_is : t ≡ table = cc in
    subst (λ q. IsTableImage config content q plan table) (let m : place ≡ place + 0 = omega arith in m)
    (subst (λ x. IsTableImage config content place x table) plan_is (subst (λ x. IsTableImage config content place p x) table_is h.0))
images-at config content place (p ∷ plans) (t ∷ tables) h (suc i) plan table e k =
    subst (λ q. IsTableImage config content q plan table) (let m : place + 1 + i ≡ place + suc i = omega arith in m) (images-at config content (place + 1) plans tables h.1 i plan table e k)

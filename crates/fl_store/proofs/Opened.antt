-- What stays of a medium that is looked at, and the configuration that it tells.
use Rattle.std.proofs.Common.{◌≡◌, ◌⊎◌, inl, inr, ℕ, IsTrue, Option, Some, Err, List, length, take, sym, ◌∙◌, ap, subst, arith, length-take}
use Rattle.fl_base.specs.declared.types.Geometry.{Geometry}
use Rattle.fl_config.specs.Whole.{Makes}
use Rattle.fl_flash.specs.Media.{MediaState}
use Rattle.fl_image.specs.Header.{IsAccepted, IsMade}
use Rattle.fl_image.specs.Image.{IsImageOf, OnlyLooksAt}
use Rattle.fl_image.specs.declared.status.ToolStatus.{ToolStatus}
use Rattle.fl_image.specs.declared.status.ToolStatus.TheVariants.{NotImage, Device}
use Rattle.fl_image.proofs.ReadBack.{one-header}
use Rattle.fl_model.specs.Image.{medium_len}
use Rattle.fl_model.specs.Record.{Plan, Config}
use Rattle.fl_model.specs.Table.{Table}
use Rattle.fl_words.specs.Config.{Lines}
use Rattle.fl_words.specs.Medium.{IsImage, header}
use Rattle.fl_store.specs.Found.{Finds}
use Rattle.fl_store.specs.MountEnds.{Keeps}
use Rattle.fl_image.proofs.Made.{made-by}

pub looks-keeps : (old new : MediaState) → OnlyLooksAt old new → Keeps old new
looks-keeps old new looks = record {
  tells = looks.tells;
  len = ap (λ (l : List ℕ). length l) looks.content;
  head = λ t. ap (λ (l : List ℕ). take 1024 l) looks.content;
  later = looks.later;
}

pub keeps-then : (a b c : MediaState) → OnlyLooksAt a b → Keeps b c → Keeps a c
keeps-then a b c looks keeps = record {
  tells = keeps.tells ∙ looks.tells;
  len = keeps.len ∙ ap (λ (l : List ℕ). length l) looks.content;
  head = λ t. keeps.head (subst IsTrue (sym looks.tells) t) ∙ ap (λ (l : List ℕ). take 1024 l) looks.content;
  later = omega (arith, looks.later, keeps.later);
}

-- ---- the configuration that the image tells is the one that made it

same-made : {X : Type 0} (of : Geometry → List Plan → X) (lines : Lines) (a b : Config) → Makes lines a → Makes lines b → of a.geometry a.plans ≡ of b.geometry b.plans
same-made of lines a b x y =
    let p = made-by lines a x in
    let q = made-by lines b y in
    let geometry : a.geometry ≡ b.geometry = let k : ◌≡◌ {A = Option Geometry} (Some a.geometry) (Some b.geometry) = sym p.device_is ∙ q.device_is in cc in
    ap (λ (g : Geometry). of g a.plans) geometry ∙ ap (of b.geometry) (sym p.plans_are ∙ q.plans_are)

pub made-image : (config : Config) (made : IsMade config) (content : List ℕ) (tables : List Table) → IsImage config content tables → IsImageOf content made.lines
made-image config made content tables image = record {
  head = record { whole = (made-by made.lines config made.makes).whole; text = λ other makes. image.head ∙ same-made (λ g plans. header (record { geometry = g; plans = plans; knots = 0 })) made.lines config other made.makes makes };
  size = λ other makes. image.len ∙ same-made (λ g plans. medium_len (record { geometry = g; plans = plans; knots = 0 })) made.lines config other made.makes makes;
}

pub same-lines : (config : Config) (made : IsMade config) (content : List ℕ) (tables : List Table) (lines : Lines) → IsImage config content tables → IsAccepted lines → IsImageOf content lines → Makes lines config
same-lines config made content tables lines image accepted is =
    let same : lines ≡ made.lines = one-header (take 1024 content) lines made.lines (let k = length-take 1024 content in omega (arith, k)) accepted is.head made.accepted (made-image config made content tables image).head in
    subst (λ (l : Lines). Makes l config) (sym same) made.makes

-- .. and no other reason than the medium keeps it from being found
pub finds-not : (config : Config) (made : IsMade config) (content : List ℕ) (tables : List Table) (status : ToolStatus) → IsImage config content tables → (status ≡ NotImage) ⊎ (status ≡ Device) →
    (status ≡ NotImage → (lines : Lines) → IsAccepted lines → IsImageOf content lines → ⊥) → Finds config (Err status)
finds-not config made content tables status image (inl is) none = absurd (none is made.lines made.accepted (made-image config made content tables image))
finds-not config made content tables status image (inr is) none = inr is

-- How the check of an image ends.
use Rattle.std.proofs.Common.{◌≡◌, ◌⊎◌, ℕ, ◌*◌, ◌^◌, ◌<◌, Bool, true, false, nat_lt, IsTrue, Option, Some, None, IfSome, inl, inr, List, refl, sym, subst, arith}
use Rattle.std.specs.Prelude.{sum_by}
use Rattle.std.proofs.lemmas.Bool.{ltb-false, or_parts}
use base.Fml.{GName}
use Rattle.fl_base.specs.declared.types.Geometry.{Geometry}
use Rattle.fl_flash.specs.declared.flash.Work.{Work}
use Rattle.fl_base.specs.declared.types.RingPlace.{RingPlace}
use Rattle.fl_base.proofs.Appended.{appends-none}
use Rattle.fl_flash.specs.Flash.{FlashState}
use Rattle.fl_flash.specs.Media.{MediaState}
use Rattle.fl_flash.specs.Sim.{on_medium}
use Rattle.fl_model.specs.Record.{blocks_of}
use Rattle.fl_words.specs.Config.{Lines, too_large}
use Rattle.fl_plan.specs.declared.table_config.TableConfig.{TableConfig}
use Rattle.fl_image.specs.Header.{IsAccepted}
use Rattle.fl_image.specs.Image.{IsImageOf}
use Rattle.fl_image_check.specs.Checking.{IsOver, ChecksBy, ImageChecked, TablesEndBy}
use Rattle.fl_image_check.specs.declared.extent.Extent.{Extent}
use Rattle.fl_image_check.specs.declared.extent.Extent.TheVariants.{FirstFault, AllTables}
use Rattle.fl_check.specs.declared.faults.TableRules.{TableRules}
use Rattle.fl_check.specs.declared.finding.Finding.{Finding}
use Rattle.fl_image.specs.declared.status.ToolStatus.{ToolStatus}
use Rattle.fl_image.specs.declared.status.ToolStatus.TheVariants.{Done, InputRead, OutWrite, InputLong, NoMemory, NotImage, Device, BadImage, NoTable, BadInput, Unsound}

-- the flash on the medium has the device of the lines
pub over-of : (lines : Lines) (geometry : Geometry) (blocks : ℕ) (origin : GName) (work : Work) (medium : MediaState) (f : FlashState) → f ≡ on_medium geometry blocks 1024 origin true None 0 work medium
    → lines.device ≡ Some geometry → blocks ≡ sum_by blocks_of lines.plans → IfSome lines.device (λ g. too_large g lines.plans ≡ false) → IsOver lines f
over-of lines geometry blocks origin work medium f is device all fits =
    let few : too_large geometry lines.plans ≡ false = subst (λ (o : Option Geometry). IfSome o (λ g. too_large g lines.plans ≡ false)) device fits in
    let pages = ltb-false 65536 (sum_by blocks_of lines.plans * geometry.block)
    (or_parts (nat_lt 65536 (sum_by blocks_of lines.plans * geometry.block)) (nat_lt 67108864 (sum_by blocks_of lines.plans * geometry.block * geometry.page)) few).0 in
    subst (λ (g : FlashState). IsOver lines g) (sym is)
    (record {
      device = device;
      blocks = all;
      few = subst (λ (n : ℕ). n * geometry.block < 2 ^ 32) (sym all) (omega (arith, pages));
      start = refl;
      on = refl;
    })

-- what was found over that flash was found in the bytes of the medium
pub ends-over : (Ends : List ℕ → ToolStatus → Type 0) (status : ToolStatus) (tells : Bool)
    (geometry : Geometry) (blocks : ℕ) (origin : GName) (work : Work) (medium : MediaState) (f : FlashState) (bytes : List ℕ) → f ≡ on_medium geometry blocks 1024 origin true None 0 work medium
    → medium.content ≡ bytes → medium.tells ≡ tells → IsTrue tells → (IsTrue f.media.tells → Ends f.media.content status) → Ends bytes status
ends-over Ends status tells geometry blocks origin work medium f bytes is same telling t ends =
    let over : IsTrue medium.tells → Ends medium.content status = subst (λ (g : FlashState). IsTrue g.media.tells → Ends g.media.content status) is ends in
    subst (λ (l : List ℕ). Ends l status) same (over (subst IsTrue (sym telling) t))

module _ (Ends : Lines → ToolStatus → Type 0) (bytes : List ℕ) where
  -- the check ended in its tables
  pub image-ends : (told told_now : Option (List ℕ)) (status : ToolStatus) → (status ≡ NotImage → ⊥) → ImageChecked bytes (λ lines. Ends lines status) → ChecksBy Ends bytes told told_now status
  image-ends told told_now Done other h = h
  image-ends told told_now Unsound other h = h
  image-ends told told_now OutWrite other h = h
  image-ends told told_now NoMemory other h = inr h
  image-ends told told_now Device other h = inr h
  image-ends told told_now NotImage other h = absurd (other refl)
  image-ends told told_now (BadImage table) other h = h
  image-ends told told_now NoTable other h = h
  image-ends told told_now InputRead other h = h
  image-ends told told_now InputLong other h = h
  image-ends told told_now (BadInput number) other h = h

  -- .. or before the first
  pub early-ends : (told : Option (List ℕ)) (status : ToolStatus) → (status ≡ NotImage) ⊎ (status ≡ Device)
      → (status ≡ NotImage → (lines : Lines) → IsAccepted lines → IsImageOf bytes lines → ⊥) → ChecksBy Ends bytes told told status
  early-ends told status (inl is) none = subst (λ (s : ToolStatus). ChecksBy Ends bytes told told s) (sym is) (none is, appends-none told)
  early-ends told status (inr is) none = subst (λ (s : ToolStatus). ChecksBy Ends bytes told told s) (sym is) (inl (appends-none told))

-- a status of the tables isn't that of no image
pub ends-known : (extent : Extent) (Finds : TableConfig → Option RingPlace → FlashState → Finding → Type 0) (Rules : TableConfig → Option RingPlace → FlashState → TableRules → Type 0) (lines : Lines) (bytes : List ℕ) (told told_now : Option (List ℕ))
    → TablesEndBy extent Finds Rules lines bytes told told_now NotImage → ⊥
ends-known FirstFault Finds Rules lines bytes told told_now h = h
ends-known AllTables Finds Rules lines bytes told told_now h = h

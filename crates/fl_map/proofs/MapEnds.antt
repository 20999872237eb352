-- How the map of an image ends.
use Rattle.std.proofs.Common.{◌≡◌, ◌⊎◌, ℕ, suc, ◌+◌, Bool, true, IsTrue, Option, None, inl, inr, List, sym, subst, arith}
use base.Fml.{GName}
use Rattle.fl_base.specs.Causes.{Appends, AppendsFront}
use Rattle.fl_base.specs.declared.types.Geometry.{Geometry}
use Rattle.fl_base.proofs.Appended.{appends-none}
use Rattle.fl_flash.specs.declared.flash.Work.{Work}
use Rattle.fl_flash.specs.Flash.{FlashState}
use Rattle.fl_flash.specs.Media.{MediaState}
use Rattle.fl_flash.specs.Sim.{on_medium}
use Rattle.fl_words.specs.Config.{Lines}
use Rattle.fl_image.specs.Header.{IsAccepted}
use Rattle.fl_image.specs.Image.{IsImageOf}
use Rattle.fl_image.specs.declared.status.ToolStatus.{ToolStatus}
use Rattle.fl_image.specs.declared.status.ToolStatus.TheVariants.{Done, OutWrite, NotImage, Device}
use Rattle.fl_map.specs.declared.drawing.Drawing.{Drawing}
use Rattle.fl_map.specs.Drawn.{Drawn}
use Rattle.fl_map.specs.Map.{AreDrawn, IsDrawnNext, IsMapOf, MapEnds}

pub drawn-next : (drawing : Drawing) (lines : Lines) (bytes : List ℕ) (n : ℕ) (before now : Drawn) → AreDrawn drawing lines bytes n before → IsDrawnNext drawing lines bytes n before now →
    AreDrawn drawing lines bytes (n + 1) now
drawn-next drawing lines bytes n before now are next = let e : n + 1 ≡ suc n = omega arith in rw e (before, are, next)

-- what is said of the bytes of the flash on a medium is said of those of the medium
pub over-medium : (P : List ℕ → Type 0) (bytes : List ℕ) (tells : Bool) (geometry : Geometry) (blocks : ℕ) (origin : GName) (work : Work) (medium : MediaState) (f : FlashState) →
    f ≡ on_medium geometry blocks 1024 origin true None 0 work medium → medium.content ≡ bytes → medium.tells ≡ tells → IsTrue tells → (IsTrue f.media.tells → P f.media.content) → P bytes
over-medium P bytes tells geometry blocks origin work medium f is same telling t ends =
    let over : IsTrue medium.tells → P medium.content = subst (λ (g : FlashState). IsTrue g.media.tells → P g.media.content) is ends in
    subst P same (over (subst IsTrue (sym telling) t))

-- before the bytes are an image
pub early-ends : (drawing : Drawing) (bytes : List ℕ) (told : Option (List ℕ)) (status : ToolStatus) → (status ≡ NotImage) ⊎ (status ≡ Device)
    → (status ≡ NotImage → (lines : Lines) → IsAccepted lines → IsImageOf bytes lines → ⊥) → MapEnds drawing bytes told told status
early-ends drawing bytes told status (inl is) none = subst (λ (s : ToolStatus). MapEnds drawing bytes told told s) (sym is) (none is, appends-none told)
early-ends drawing bytes told status (inr is) none = subst (λ (s : ToolStatus). MapEnds drawing bytes told told s) (sym is) (appends-none told)

-- .. and when it is written
pub written-ends : (drawing : Drawing) (bytes text : List ℕ) (told told_now : Option (List ℕ)) (status : ToolStatus) → (status ≡ Done) ⊎ (status ≡ OutWrite) → IsMapOf drawing bytes text
    → (status ≡ Done → Appends told told_now text) → (status ≡ OutWrite → AppendsFront told told_now text) → MapEnds drawing bytes told told_now status
written-ends drawing bytes text told told_now status (inl is) map done part = subst (λ (s : ToolStatus). MapEnds drawing bytes told told_now s) (sym is) (text, map, done is)
written-ends drawing bytes text told told_now status (inr is) map done part = subst (λ (s : ToolStatus). MapEnds drawing bytes told told_now s) (sym is) (text, map, part is)

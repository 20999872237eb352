-- A blob that is placed, where there is one and the table has variable data.
use Rattle.std.proofs.Common.{◌≡◌, ℕ, Option, Some, None, List, length, refl, sym, ◌∙◌, ap, subst, ◌≤◌, arith}
use Rattle.fl_base.specs.declared.types.BlobRef.{BlobRef}
use Rattle.fl_parts.specs.Blobs.{HasPlaced, HavePlaced, placed_in}
use Rattle.fl_var.specs.Placing.{reference_in, pages_placed}
use Rattle.fl_var.specs.declared.var_data.VarData.{VarData}
use Rattle.fl_flash.specs.Flash.{FlashState}
use Rattle.fl_ring.specs.Written.{Writes}
use Rattle.fl_ring.proofs.Written.{writes-wider}
use Rattle.fl_parts.specs.Blobs as variable
use Rattle.fl_var.specs.Memory.{IsOnRing}

no-bytes : (bytes : List ℕ) → ◌≡◌ {A = Option (List ℕ)} (Some bytes) None → ⊥
no-bytes bytes e = cc

-- a table without variable data places no blob
pub none-kept : (blob : Option (List ℕ)) (blobs now : Option VarData) → blobs ≡ None → now ≡ None → (None ≡ placed_in blob blobs) × HavePlaced blob blobs now
none-kept None blobs now is same = (refl, same ∙ sym is)
none-kept (Some bytes) blobs now is same =
    subst (λ (o : Option VarData). (None ≡ placed_in (Some bytes) o) × HavePlaced (Some bytes) o now) (sym is) (refl, same)

-- .. and there is none to place
pub none-placed : (blob : Option (List ℕ)) (blobs now : Option VarData) → blob ≡ None → now ≡ blobs → (None ≡ placed_in blob blobs) × HavePlaced blob blobs now
none-placed None blobs now none same = (refl, same)
none-placed (Some bytes) blobs now none same = absurd (no-bytes bytes none)

-- one was placed
pub one-placed : (blob : Option (List ℕ)) (blobs : Option VarData) (bytes : List ℕ) (var now : VarData) (at : BlobRef) → blob ≡ Some bytes → blobs ≡ Some var → at ≡ reference_in var (length bytes) → HasPlaced bytes var now →
    (Some at ≡ placed_in blob blobs) × HavePlaced blob blobs (Some now)
one-placed blob blobs bytes var now at b v is placed =
    subst (λ (o : Option (List ℕ)). (Some at ≡ placed_in o blobs) × HavePlaced o blobs (Some now)) (sym b)
    (subst (λ (o : Option VarData). (Some at ≡ placed_in (Some bytes) o) × HavePlaced (Some bytes) o (Some now)) (sym v) (ap (λ (r : BlobRef). Some r) is, placed))

-- a number is at most itself
pub same : (n : ℕ) → n ≤ n
same n = omega arith

-- a blob of a ring of variable data
pub fill-writes : (blob : Option (List ℕ)) (blobs : Option VarData) (bytes : List ℕ) (var : VarData) (f g : FlashState) → blob ≡ Some bytes → blobs ≡ Some var → Writes (IsOnRing var) 0 (pages_placed var (length bytes)) f g →
    Writes (variable.MayFill blob blobs) 0 (variable.pages_for blobs blob) f g
fill-writes blob blobs bytes var f g b v h =
    subst (λ (o : Option (List ℕ)). Writes (variable.MayFill o blobs) 0 (variable.pages_for blobs o) f g) (sym b)
    (subst (λ (o : Option VarData). Writes (variable.MayFill (Some bytes) o) 0 (variable.pages_for o (Some bytes)) f g) (sym v)
    (writes-wider (IsOnRing var) (variable.MayFill (Some bytes) (Some var)) 0 0 (pages_placed var (length bytes)) (pages_placed var (length bytes)) f g (λ page may. may) (same 0) (same (pages_placed var (length bytes))) h))

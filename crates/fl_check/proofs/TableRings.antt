-- The rings of a table that fits on a flash, by their places.
use Rattle.std.proofs.Common.{◌≡◌, ℕ, ◌+◌, ◌*◌, ◌<◌, ◌≤◌, Option, Some, None, IfSome, sym, ◌∙◌, ap, subst, arith}
use Rattle.fl_base.specs.declared.types.Geometry.{Geometry}
use Rattle.fl_base.specs.declared.types.RingPlace.{RingPlace}
use Rattle.fl_flash.specs.Flash.{FlashState}
use Rattle.fl_plan.specs.Limits.{IsRingSize}
use Rattle.fl_plan.specs.Plan.{blocks_in}
use Rattle.fl_plan.specs.declared.table_config.TableConfig.{TableConfig}
use Rattle.fl_ring.specs.Mounting.{shape_at}
use Rattle.fl_ring.specs.Ring.{Shape}
use Rattle.fl_rules.specs.Marks.{AreWithin}
use Rattle.fl_check.specs.Whole.{Fits, IfWithin, shape_in}
use Rattle.fl_rules.specs.declared.marks.Marks.{Marks}
use Rattle.fl_rules.specs.declared.numbering.Numbering.{Numbering}

module _ (config : TableConfig) (f : FlashState) (fits : Fits config f) (place : RingPlace) (r : Shape) (at : r ≡ shape_at place f.geometry) where
  pub shape_is : r ≡ shape_in config place
  shape_is = at ∙ ap (λ (g : Geometry). shape_at place g) (sym fits.geometry)

  -- room for a page of the configuration is room for one of the ring
  pub room_in : {n : ℕ} → n ≡ config.geometry.page → n ≡ r.size
  room_in is = is ∙ sym (ap (λ (s : Shape). s.size) shape_is)

  pub room_back : {n : ℕ} → n ≡ r.size → n ≡ config.geometry.page
  room_back is = is ∙ ap (λ (s : Shape). s.size) shape_is

  pub within : (m : Marks) → AreWithin (shape_in config place) m → AreWithin r m
  within m is = subst (λ (s : Shape). AreWithin s m) (sym shape_is) is

-- a ring that a table may not have
module _ (o : Option RingPlace) (place : RingPlace) (there : o ≡ Some place) where
  pub some_blocks : IfSome o IsRingSize → 3 ≤ place.blocks
  some_blocks sizes = (subst (λ (x : Option RingPlace). IfSome x IsRingSize) there sizes).0

  pub some_lies : (blocks : ℕ) → IfSome o (λ place. place.first_block + place.blocks ≤ blocks) → place.first_block + place.blocks ≤ blocks
  some_lies blocks lies = subst (λ (x : Option RingPlace). IfSome x (λ place. place.first_block + place.blocks ≤ blocks)) there lies

  pub some_room : (block n : ℕ) → blocks_in o * block ≤ n → place.blocks * block ≤ n
  some_room block n few = subst (λ (x : Option RingPlace). blocks_in x * block ≤ n) there few

pub kept_room : {kept room n : ℕ} → kept < room → room ≤ n → kept ≤ n
kept_room kept few = omega (arith, kept, few)

-- the kept pages of a ring that a table may not have, where they are told
module _ (config : TableConfig) (o : Option RingPlace) where
  pub within_there : (x : Option Numbering) (place : RingPlace) (n : Numbering) → o ≡ Some place → x ≡ Some n → IfWithin config o x → AreWithin (shape_in config place) n.marks
  within_there x place n e is holds = subst (λ (y : Option Numbering). IfWithin config (Some place) y) is (subst (λ (p : Option RingPlace). IfWithin config p x) e holds)

  pub if_there : (place : RingPlace) (r : Shape) (x : Option Numbering) → o ≡ Some place → r ≡ shape_in config place → IfSome x (λ n. AreWithin r n.marks) → IfWithin config o x
  if_there place r None e is holds = subst (λ (p : Option RingPlace). IfWithin config p None) (sym e) tt
  if_there place r (Some n) e is holds = subst (λ (p : Option RingPlace). IfWithin config p (Some n)) (sym e) (subst (λ (s : Shape). AreWithin s n.marks) is holds)

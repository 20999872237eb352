-- An index lies on a flash as long as calls leave its plan, and the flash its geometry.
use Rattle.std.proofs.Common.{◌≡◌, ◌+◌, ◌≤◌, Option, Some, None, sym, ◌∙◌, subst}
use Rattle.std.specs.Option.{ForSome}
use Rattle.std.proofs.lemmas.Option.{none-some, same_Some}
use Rattle.fl_base.specs.declared.types.RingPlace.{RingPlace}
use Rattle.fl_flash.specs.Flash.{FlashState, Goes}
use Rattle.fl_frame.proofs.CallsInTurn.{few-goes}
use Rattle.fl_ring.specs.Place.{LiesOn as LiesIn}
use Rattle.fl_ring.specs.declared.ring.Ring.{Ring}
use Rattle.fl_index.specs.declared.index.BitmapIndex.{BitmapIndex}
use Rattle.fl_index.specs.Memory.{IsSamePlan, LiesOn}

pub lies-later : (old new : BitmapIndex) (f g : FlashState) → IsSamePlan old new → LiesOn old f → Goes f g → ForSome new.ring (λ r. LiesIn r g) → LiesOn new g
lies-later old new f g same lies goes ring = record {
  geometry = goes.geometry ∙ (lies.geometry ∙ sym same.geometry);
  within = subst (λ (p : RingPlace). p.first_block + p.blocks ≤ g.blocks) (sym same.place) (subst (λ n. old.place.first_block + old.place.blocks ≤ n) (sym goes.blocks) lies.within);
  few = few-goes f g goes lies.few;
  ring = ring;
}

-- there is no ring in memory, or this one
pub no-ring : (o : Option Ring) (g : FlashState) → o ≡ None → ForSome o (λ r. LiesIn r g)
no-ring o g none r has = absurd (none-some r (sym none ∙ has))

pub this-ring : (ring : Ring) (g : FlashState) → LiesIn ring g → ForSome (Some ring) (λ r. LiesIn r g)
this-ring ring g lies r has = subst (λ (x : Ring). LiesIn x g) (same_Some ring r has) lies

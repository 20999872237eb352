-- What calls of a flash leave of it, one after another.
use Rattle.std.proofs.Common.{◌≡◌, ℕ, ◌+◌, ◌*◌, ◌^◌, ◌<◌, Bool, true, Option, IsTrue, take, drop, refl, sym, ◌∙◌, ap, subst, arith}
use Rattle.fl_base.specs.declared.types.Geometry.{Geometry}
use Rattle.fl_flash.specs.declared.armed.Armed.{Armed}
use Rattle.fl_flash.specs.Flash.{FlashState, pages, CutComes, Goes, Stays, StaysWith}
use Rattle.fl_flash.specs.Places.{extent}
use Rattle.fl_flash.proofs.Counts.{counted-same, counted-then}
pub use Rattle.fl_flash.proofs.PowerOff.{goes-same}

-- calls leave a flash its pages
pub few-goes : {Power : Type 0} (old new : FlashState) → StaysWith Power old new → pages old < 2 ^ 32 → pages new < 2 ^ 32
few-goes old new goes few = subst (λ n. n < 2 ^ 32) (sym (ap (λ n. n * new.geometry.block) goes.blocks ∙ ap (λ (x : Geometry). old.blocks * x.block) goes.geometry)) few

-- what is done to a flash by calls leaves at least what stays whatever is done
pub stays : {Power : Type 0} (old new : FlashState) → StaysWith Power old new → Stays old new
stays old new s = record {
  geometry = s.geometry;
  blocks = s.blocks;
  start = s.start;
  origin = s.origin;
  tells = s.tells;
  size = s.size;
  front = s.front;
  back = s.back;
  cuts = s.cuts;
  faults = s.faults;
  power = tt;
  counted = s.counted;
}

-- the power was switched, or a cut armed
pub stays-set : (f : FlashState) (is_on : Bool) (armed : Option Armed) → Stays f (record f { is_on = is_on; armed = armed })
stays-set f is_on armed = record {
  geometry = refl;
  blocks = refl;
  start = refl;
  origin = refl;
  tells = refl;
  size = refl;
  front = λ told. refl;
  back = λ told. refl;
  cuts = omega arith;
  faults = omega arith;
  power = tt;
  counted = counted-same f (record f { is_on = is_on; armed = armed }) refl refl;
}

-- the power was switched on
pub goes-on : (f : FlashState) → Goes f (record f { is_on = true })
goes-on f = record {
  geometry = refl;
  blocks = refl;
  start = refl;
  origin = refl;
  tells = refl;
  size = refl;
  front = λ told. refl;
  back = λ told. refl;
  cuts = omega arith;
  faults = omega arith;
  power = λ none. record { unarmed = none; on = λ on. refl; cuts = refl };
  counted = counted-same f (record f { is_on = true }) refl refl;
}

module _ {First Second : Type 0} (a b c : FlashState) (x : StaysWith First a b) (y : StaysWith Second b c) where
  ends : b.start + extent b.geometry b.blocks ≡ a.start + extent a.geometry a.blocks
  ends = ap (λ (n : ℕ). n + extent b.geometry b.blocks) x.start ∙ ap (λ (n : ℕ). a.start + extent b.geometry n) x.blocks ∙ ap (λ (g : Geometry). a.start + extent g a.blocks) x.geometry

  -- one after another
  both : {Power : Type 0} → Power → StaysWith Power a c
  both power = record {
    geometry = y.geometry ∙ x.geometry;
    blocks = y.blocks ∙ x.blocks;
    start = y.start ∙ x.start;
    origin = y.origin ∙ x.origin;
    tells = y.tells ∙ x.tells;
    size = y.size ∙ x.size;
    front = λ told. ap (λ (n : ℕ). take n c.media.content) (sym x.start) ∙ y.front (subst IsTrue (sym x.tells) told) ∙ ap (λ (n : ℕ). take n b.media.content) x.start ∙ x.front told;
    back = λ told. ap (λ (n : ℕ). drop n c.media.content) (sym ends) ∙ y.back (subst IsTrue (sym x.tells) told) ∙ ap (λ (n : ℕ). drop n b.media.content) ends ∙ x.back told;
    cuts = omega (arith, x.cuts, y.cuts);
    faults = omega (arith, x.faults, y.faults);
    power = power;
    counted = counted-then a b c x.counted y.counted;
  }

pub stays-then : {First Second : Type 0} (a b c : FlashState) → StaysWith First a b → StaysWith Second b c → Stays a c
stays-then a b c x y = both a b c x y tt

pub goes-then : (a b c : FlashState) → Goes a b → Goes b c → Goes a c
goes-then a b c x y = both a b c x y (λ none.
    let first = x.power none in
    let second = y.power first.unarmed in
    record { unarmed = second.unarmed; on = λ on. second.on (first.on on); cuts = second.cuts ∙ first.cuts })

-- a cut that came in a later call came in all of them
pub cut-later : (a b c : FlashState) → Goes a b → CutComes b c → CutComes a c
cut-later a b c x cut = record { armed = λ none. cut.armed (x.power none).unarmed; counted = omega (arith, x.cuts, cut.counted) }

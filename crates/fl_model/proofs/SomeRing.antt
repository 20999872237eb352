-- Whether a table has a ring.
use Rattle.std.proofs.Common.{◌≡◌, true, false, Option, Some, None, refl}
use Rattle.fl_model.specs.Ring.{Ring}
use Rattle.fl_model.specs.Facts.{is_some_ring}

pub no-ring : (o : Option Ring) → is_some_ring o ≡ false → o ≡ None
no-ring None e = refl
no-ring (Some ring) e = cc

pub some-ring : (o : Option Ring) → is_some_ring o ≡ true → (ring : Ring) × (o ≡ Some ring)
some-ring None e = cc
some-ring (Some ring) e = (ring, refl)

-- What state a page is in, by a test of its state.
use Rattle.std.proofs.Common.{◌≡◌, true, refl}
use Rattle.fl_mark.specs.declared.page_state.PageState.{PageState}
use Rattle.fl_mark.specs.declared.page_state.PageState.TheVariants.{Blank, Torn, Committed, Void}
use Rattle.fl_ring.specs.Newest.{commits}

pub committed-is : (s : PageState) → commits s ≡ true → s ≡ Committed
committed-is Blank e = cc
committed-is Torn e = cc
committed-is Committed e = refl
committed-is Void e = cc

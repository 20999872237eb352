use Rattle.std.proofs.Common.{◌∙◌}
use Rattle.fl_flash.specs.Flash.{page_at}
use Rattle.fl_check.proofs.StandingRingHasNumbers.{good_numbering}
use Rattle.fl_check.proofs.GoodNumbers.{good_next}
use Rattle.fl_check.proofs.GoodStates.{kept_is, good_rest}
use Rattle.fl_check.proofs.Kept.{unbroken}
use Rattle.fl_check.proofs.laws.rings_keep_rules.Goals as goal

pub returns : goal.returns
returns c = λ f r at_least s shape good. record {
  unbroken = unbroken f r at_least s shape good;
  found = good_numbering f r at_least s shape good;
  kept = λ m next is. kept_is r s shape (page_at f) good.on m is.marks;
  next = λ m next is. is.numbers.next_is ∙ good_next f r at_least s shape good m is.marks is.numbers.newest is.numbers.newest_is;
  rest = λ m next is. good_rest r s shape (page_at f) good.on m is.marks;
}

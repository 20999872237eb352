use Rattle.std.proofs.Common.{ℕ, ◌-◌, ◌<◌, ◌≤◌}
use Rattle.fl_page.specs.Page.{key_at}
use Rattle.fl_page.specs.View.{page_of, layout_of_page, count_of}
use Rattle.fl_page.proofs.view.PageView.seek.Given as goal

abbrev pub invariant-loop-low : goal.invariant-loop-low
invariant-loop-low g l = record {
  order : l.low ≤ l.high;
  within : l.high ≤ count_of l.self;
  below : ((i j : ℕ) → i ≤ j → j < count_of l.self → key_at (layout_of_page l.self) (page_of l.self) i ≤ key_at (layout_of_page l.self) (page_of l.self) j) →
      (i : ℕ) → i < l.low → key_at (layout_of_page l.self) (page_of l.self) i < l.key;
  at_least : l.high < count_of l.self → l.key ≤ key_at (layout_of_page l.self) (page_of l.self) l.high;
}

abbrev pub decreases-loop-low : goal.decreases-loop-low
decreases-loop-low g l = l.high - l.low

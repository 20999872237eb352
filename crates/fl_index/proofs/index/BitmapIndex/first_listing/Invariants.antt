use Rattle.std.proofs.Common.{◌≡◌, ◌≤◌, ◌-◌, None}
use Rattle.fl_index.specs.Memory.{per_page, first_in, listing_from, oldest_in}
use Rattle.fl_index.proofs.index.BitmapIndex.first_listing.Given as goal

abbrev pub invariant-loop-page : goal.invariant-loop-page
invariant-loop-page l = record {
  from : oldest_in l.self ≤ l.page;
  none : listing_from (per_page l.self) (first_in l.self) l.number (oldest_in l.self) (l.page - oldest_in l.self) ≡ None;
}

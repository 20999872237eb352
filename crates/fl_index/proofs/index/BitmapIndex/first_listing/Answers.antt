use Rattle.std.proofs.Common.{◌≡◌, refl, ◌+◌, ◌-◌, arith}
use Rattle.fl_index.specs.Memory.{per_page, first_in, oldest_in, next_in}
use Rattle.fl_index.proofs.ListingPages.{listing-found, listing-none}
use Rattle.fl_index.proofs.Lookups.{next-same}
use Rattle.fl_index.proofs.index.BitmapIndex.first_listing.Goals as goal

pub returns-in-Some-clause-some : goal.returns-in-Some-clause-some
returns-in-Some-clause-some c =
    let t = c.args.self.now in
    let page = c.loop-page.page in
    let is : c.in-Some.listing.page ≡ page = c.in-Some.ensures.some.0 in
    let entry = c.in-Some.ensures.some.1 in
    let next = next-same t c.args.ring.now c.requires.mine in
    let found = listing-found (per_page t) (first_in t) c.args.number (page - oldest_in t) (next_in t - oldest_in t) (oldest_in t) page c.loop-page.invariant.none
    (omega (arith, c.loop-page.invariant.from)) (omega (arith, c.loop-page.invariant.from, c.loop-page-test.true, next)) entry.0 in
    search (is, found, entry)

pub loop-page-preserved : goal.loop-page-preserved
loop-page-preserved c =
    let t = c.args.self.now in
    let page = c.loop-page.page in
    record {
      from = omega (arith, c.loop-page.invariant.from);
      none = listing-none (per_page t) (first_in t) c.args.number (page - oldest_in t) (page + 1 - oldest_in t) (oldest_in t) page c.loop-page.invariant.none
          (omega (arith, c.loop-page.invariant.from)) (omega (arith, c.loop-page.invariant.from)) (c.in_default.ensures.none refl);
    }

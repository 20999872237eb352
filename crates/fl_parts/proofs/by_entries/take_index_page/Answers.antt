use Rattle.std.proofs.Common.{rules, ◌≡◌, ◌+◌, Some, arith, refl, sym, ◌∙◌, subst}
use Rattle.std.proofs.Math.Nat.{le_refl}
use Rattle.std.proofs.lemmas.Result.{err_from_is_err_and, IfErr-weaker, IfOk-weaker}
use Rattle.fl_index.specs.Finding.{pages_of}
use Rattle.fl_index.specs.Loading.{IsLoaded, Loads}
use Rattle.fl_index.specs.declared.load.Loaded.{Loaded}
use Rattle.fl_parts.specs.ByEntries.{mount_fault}
use Rattle.fl_parts.specs.Faults.{IfPage}
use Rattle.fl_parts.specs.KeptSteps.{KnowsTaken}
use Rattle.fl_parts.specs.declared.mount_fault.MountFault.{MountFault}
use Rattle.fl_parts.proofs.Firsts.{same-first, first-loaded}
use Rattle.fl_parts.proofs.IndexOfTable.{still-lies, still-next, still-oldest}
use Rattle.fl_parts.proofs.IndexTaken.{bad-keeps, bad-only, bad-refused, bad-taken, nothing-taken, running-same, taken-by}
use Rattle.fl_parts.proofs.KeptParts.{err-page, err-refused}
use Rattle.fl_parts.proofs.ListedPages.{below-same}
use Rattle.fl_parts.proofs.Untouched.{no-success}
use Rattle.fl_parts.proofs.by_entries.take_index_page.Goals as goal

-- ---- the read failed

pub returns-in_err-load-clause-knows : goal.returns-in_err-load-clause-knows
returns-in_err-load-clause-knows g c = λ told error layout t k n next h.
    let p = err_from_is_err_and c.from_residual.result c.from_residual.ensures.1 in
    rw (p.1, p.2) (tt, tt)

pub returns-in_err-load-clause-taken : goal.returns-in_err-load-clause-taken
returns-in_err-load-clause-taken g c = no-success _ _ c.from_residual.result c.from_residual.ensures.1

pub returns-in_err-load-clause-leaves : goal.returns-in_err-load-clause-leaves
returns-in_err-load-clause-leaves g c = let e = c.in_err-load.ensures in record { same = e.same; running = e.ring.0; oldest = e.ring.1; next = e.ring.2; lies = e.lies; reads = e.reads }

pub returns-in_err-load-clause-keeps : goal.returns-in_err-load-clause-keeps
returns-in_err-load-clause-keeps g c = record { size = refl; error = refl; room = c.in_err-load.ensures.room; none = c.in_err-load.ensures.holds }

pub returns-in_err-load-clause-fails : goal.returns-in_err-load-clause-fails
returns-in_err-load-clause-fails g c =
    let p = err_from_is_err_and c.from_residual.result c.from_residual.ensures.1 in
    rw (p.1, p.2) (record { only = refl; fails = c.in_err-load.ensures.fails })

-- ---- the page isn't committed

pub returns-in-Nothing-clause-knows : goal.returns-in-Nothing-clause-knows
returns-in-Nothing-clause-knows g c = λ told error layout t k n next h.
    let f = g.F.Flash.state c.args.flash.now in
    let index = c.args.bitmaps.now in
    let loaded = subst (λ (l : Loaded). IsLoaded index c.args.page (pages_of index f c.args.page) l c.load.new.self) c.in-Nothing.is (c.in_ok-load.ensures.loaded told) in
    (nothing-taken error t k n c.args.page c.args.end layout c.args.limit c.args.ring.now f index c.args.known.now c.args.counts.now c.args.index.now next h c.load.new.self loaded, tt)

pub returns-in-Nothing-clause-taken : goal.returns-in-Nothing-clause-taken
returns-in-Nothing-clause-taken g c = record {
  remembers = λ told fine. first-loaded c.args.bitmaps.now c.load.new.self c.args.page _ _ (c.in_ok-load.ensures.loaded told) fine;
  others = c.in_ok-load.ensures.others;
  stands = λ first plan table told stands.
      subst (λ (l : Loaded). Loads first plan table c.args.page l c.load.new.self (g.F.Flash.state c.load.new.flash)) c.in-Nothing.is (c.in_ok-load.ensures.stands first plan table told stands);
  within = λ oldest n h. h;
  newest = le_refl _;
}

pub returns-in-Nothing-clause-leaves : goal.returns-in-Nothing-clause-leaves
returns-in-Nothing-clause-leaves g c = let e = c.in_ok-load.ensures in record { same = e.same; running = e.ring.0; oldest = e.ring.1; next = e.ring.2; lies = e.lies; reads = e.reads }

pub returns-in-Nothing-clause-keeps : goal.returns-in-Nothing-clause-keeps
returns-in-Nothing-clause-keeps g c = record { size = refl; error = refl; room = c.in_ok-load.ensures.room; none = c.in_ok-load.ensures.holds }

pub returns-in-Nothing-clause-fails : goal.returns-in-Nothing-clause-fails
returns-in-Nothing-clause-fails g c = tt

-- ---- it is bad

pub returns-in-Bad-clause-knows : goal.returns-in-Bad-clause-knows
returns-in-Bad-clause-knows g c = λ told error layout t k n next h.
    let f = g.F.Flash.state c.args.flash.now in
    let index = c.args.bitmaps.now in
    let loaded = subst (λ (l : Loaded). IsLoaded index c.args.page (pages_of index f c.args.page) l c.load.new.self) c.in-Bad.is (c.in_ok-load.ensures.loaded told) in (
      IfOk-weaker c.end_after_bad.result _ (λ after. KnowsTaken error t k n c.args.end after c.end_after_bad.new.known c.args.counts.now c.args.index.now c.load.new.self)
          (λ after is. bad-taken error t k n c.args.page c.args.end layout c.args.limit c.args.ring.now f index c.args.known.now c.args.counts.now c.args.index.now next h c.load.new.self c.in-Bad.first c.in-Bad.bad loaded after c.end_after_bad.new.known is.0 is.1 is.2)
          c.end_after_bad.ensures.waits,
      IfErr-weaker c.end_after_bad.result _ _
          (λ e is. subst (λ (e : MountFault). IfPage (λ (e : MountFault). mount_fault t ≡ Some e) e) (sym is.1)
          (bad-refused error t k n c.args.page c.args.end layout c.args.limit c.args.ring.now f index c.args.known.now c.args.counts.now c.args.index.now next h c.load.new.self c.in-Bad.first c.in-Bad.bad loaded is.0)) c.end_after_bad.ensures.refused,
    )

pub returns-in-Bad-clause-taken : goal.returns-in-Bad-clause-taken
returns-in-Bad-clause-taken g c = taken-by c.args.page c.args.bitmaps.now (g.F.Flash.state c.args.flash.now) c.args.known.now c.load.new.self c.end_after_bad.new.known (g.F.Flash.state c.load.new.flash) c.end_after_bad.result
    (bad-keeps _ c.args.known.now c.end_after_bad.new.known _ c.end_after_bad.result c.end_after_bad.ensures.within c.end_after_bad.ensures.waits)
    (λ told fine. first-loaded c.args.bitmaps.now c.load.new.self c.args.page _ _ (c.in_ok-load.ensures.loaded told) fine) c.in_ok-load.ensures.others
    (λ first plan table told stands. absurd (subst (λ (l : Loaded). Loads first plan table c.args.page l c.load.new.self (g.F.Flash.state c.load.new.flash)) c.in-Bad.is (c.in_ok-load.ensures.stands first plan table told stands)))

pub returns-in-Bad-clause-leaves : goal.returns-in-Bad-clause-leaves
returns-in-Bad-clause-leaves g c = let e = c.in_ok-load.ensures in record { same = e.same; running = e.ring.0; oldest = e.ring.1; next = e.ring.2; lies = e.lies; reads = e.reads }

pub returns-in-Bad-clause-keeps : goal.returns-in-Bad-clause-keeps
returns-in-Bad-clause-keeps g c = record { size = refl; error = refl; room = c.in_ok-load.ensures.room; none = c.in_ok-load.ensures.holds }

pub returns-in-Bad-clause-fails : goal.returns-in-Bad-clause-fails
returns-in-Bad-clause-fails g c = err-refused (g.F.Flash.state c.args.flash.now) (g.F.Flash.state c.load.new.flash) c.end_after_bad.result (bad-only _ c.end_after_bad.result _ c.end_after_bad.ensures.refused)

-- ---- it lists data pages

pub take_listing-requires : goal.take_listing-requires
take_listing-requires g c = (search (rules, arith), (c.requires.order, (c.requires.some, c.requires.few)))

pub returns-in-Listing-clause-knows : goal.returns-in-Listing-clause-knows
returns-in-Listing-clause-knows g c = λ told error layout t k n next h.
    let f = g.F.Flash.state c.args.flash.now in
    let index = c.args.bitmaps.now in
    let loaded = subst (λ (l : Loaded). IsLoaded index c.args.page (pages_of index f c.args.page) l c.load.new.self) c.in-Listing.is (c.in_ok-load.ensures.loaded told) in
    let took = c.take_listing.ensures.knows error layout t k n f index next c.in_ok-load.ensures.same loaded h in
    (took.0, err-page (λ (e : MountFault). mount_fault t ≡ Some e) c.take_listing.result took.1)

pub returns-in-Listing-clause-taken : goal.returns-in-Listing-clause-taken
returns-in-Listing-clause-taken g c =
    let flash = g.F.Flash.state c.load.new.flash in
    let left = c.take_listing.ensures.leaves in
    taken-by c.args.page c.args.bitmaps.now (g.F.Flash.state c.args.flash.now) c.args.known.now c.take_listing.new.bitmaps c.take_listing.new.known flash c.take_listing.result c.take_listing.ensures.known
    (λ told fine. same-first c.load.new.self c.take_listing.new.bitmaps c.args.page left.still ∙ first-loaded c.args.bitmaps.now c.load.new.self c.args.page _ _ (c.in_ok-load.ensures.loaded told) fine)
    (λ n apart. same-first c.load.new.self c.take_listing.new.bitmaps n left.still ∙ c.in_ok-load.ensures.others n apart)
    (λ first plan table told stands.
    let loaded = subst (λ (l : Loaded). Loads first plan table c.args.page l c.load.new.self flash) c.in-Listing.is (c.in_ok-load.ensures.stands first plan table told stands) in
    below-same c.load.new.self c.take_listing.new.bitmaps flash flash (c.args.page + 1) first plan table left.same left.still refl loaded.0)

pub returns-in-Listing-clause-leaves : goal.returns-in-Listing-clause-leaves
returns-in-Listing-clause-leaves g c =
    let e = c.in_ok-load.ensures in
    let left = c.take_listing.ensures.leaves in
    let loaded = c.load.new.self in
    let now = c.take_listing.new.bitmaps in
    record {
      same = record { geometry = left.same.geometry ∙ e.same.geometry; place = left.same.place ∙ e.same.place; bits = left.same.bits ∙ e.same.bits; full = left.same.full ∙ e.same.full };
      running = running-same loaded now left.still ∙ e.ring.0;
      oldest = still-oldest (Some loaded) (Some now) left.still ∙ e.ring.1;
      next = still-next (Some loaded) (Some now) left.still ∙ e.ring.2;
      lies = still-lies (Some loaded) (Some now) (g.F.Flash.state c.load.new.flash) left.same left.still e.lies;
      reads = e.reads;
    }

pub returns-in-Listing-clause-keeps : goal.returns-in-Listing-clause-keeps
returns-in-Listing-clause-keeps g c = record { size = c.take_listing.ensures.size; error = c.take_listing.ensures.error; room = c.in_ok-load.ensures.room; none = c.in_ok-load.ensures.holds }

pub returns-in-Listing-clause-fails : goal.returns-in-Listing-clause-fails
returns-in-Listing-clause-fails g c = err-refused (g.F.Flash.state c.args.flash.now) (g.F.Flash.state c.load.new.flash) c.take_listing.result c.take_listing.ensures.only

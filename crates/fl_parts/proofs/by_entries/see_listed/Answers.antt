use Rattle.std.proofs.Common.{rules, ◌+◌, ◌-◌, ◌<◌, arith, refl, sym, ◌∙◌, subst, le_trans}
use Rattle.std.proofs.lemmas.Result.{err_from_is_err_and, IfErr-weaker}
use Rattle.fl_index.specs.Memory.{oldest_in, next_in}
use Rattle.fl_index.specs.Standing.{StandsBelow}
use Rattle.fl_frame.proofs.ReadsInTurn.{more_reads, told_still, none_read}
use Rattle.fl_frame.specs.Reads.{OnlyReads}
use Rattle.fl_ring.specs.Place.{next_of, oldest_of}
use Rattle.fl_schema.specs.Schema.{layout_of}
use Rattle.fl_parts.specs.Coming.{AreRemembered}
use Rattle.fl_parts.specs.KeptSteps.{FailsReading, HasCome, HasComeBy, IsRefusedFirst, KnowsListed}
use Rattle.fl_parts.proofs.Firsts.{remembers-more}
use Rattle.fl_parts.proofs.IndexRounds.{all-listed, at-end, begin-is, data-last, data-more, data-within, few-rows, few-seen, few-taken, index-more, index-within, le-behind, le-by, le-on, leaves-read, leaves-then, lt-by, none-before, nothing-is, page-next, page-passed, pages-before, pages-behind}
use Rattle.fl_parts.proofs.KeptParts.{come-keeps, come-none, come-then, fails-then, keeps-none, keeps-then, may-still, some-places}
use Rattle.fl_parts.proofs.ListedPages.{HasPassed, any-ok, below-read, in-order, index-lies-read, passed-none}
use Rattle.fl_parts.proofs.SparedReads.{ok-two}
use Rattle.fl_parts.proofs.Untouched.{no-success}
use Rattle.fl_parts.proofs.by_entries.see_listed.Goals as goal

pub loop-page-init : goal.loop-page-init
loop-page-init g c =
    let flash = g.F.Flash.state c.args.flash.now in
    let bitmaps = c.args.bitmaps.now in
    let ring = c.args.ring.now in
    let begin = begin-is _ _ _ _ c.next_number-next.ensures.exact c.pages.ensures.exact (in-order bitmaps) in
    let number = c.oldest-number.ensures in
    record {
      from = le-by _ _ begin;
      most = le_trans (le-by _ _ (sym begin)) (in-order bitmaps);
      come = come-none ring c.oldest-number.result _ flash c.args.known.now (subst (λ n. HasCome ring n c.args.known.now) (sym number) c.requires.come);
      leaves = record { same = record { geometry = refl; place = refl; bits = refl; full = refl }; running = refl; oldest = refl; next = refl; lies = c.requires.index_lies; reads = none_read flash _ };
      keeps = keeps-none c.args.counts.now c.args.index.now c.args.buf.now c.requires.may.none;
      stands = λ first plan table told h. subst (λ k. StandsBelow k bitmaps flash first plan table) (sym begin) h;
      remembers = λ told number low high. absurd (none-before _ _ _ begin low high);
      passed = λ told few error t is h.
          subst (λ k. HasPassed error t k c.oldest-number.result 0 flash.work.reads flash.work.reads c.args.known.now c.args.counts.now c.args.index.now bitmaps) (nothing-is _ _ begin)
          (subst (λ n. HasPassed error t 0 n 0 flash.work.reads flash.work.reads c.args.known.now c.args.counts.now c.args.index.now bitmaps) (is.rows_are.oldest ∙ sym number)
          (passed-none error t flash.work.reads c.args.known.now c.args.counts.now c.args.index.now bitmaps h));
    }

pub see_pages-requires : goal.see_pages-requires
see_pages-requires g c =
    let inv = c.loop-page.invariant in
    (search (rules, arith), (may-still c.requires.may inv.leaves.reads inv.keeps, inv.come.come))

pub see_pages-requires-2 : goal.see_pages-requires-2
see_pages-requires-2 g c =
    let inv = c.loop-page.invariant in
    (search (rules, arith), (may-still c.requires.may inv.leaves.reads inv.keeps, inv.come.come))

pub take_index_page-requires : goal.take_index_page-requires
take_index_page-requires g c =
    let inv = c.loop-page.invariant in
    let saw = c.in_ok-number.ensures in
    let may = may-still (may-still c.requires.may inv.leaves.reads inv.keeps) saw.reads saw.keeps in
    let lt = subst (λ n. c.loop-page.page < n) c.next_number-next.ensures.exact c.loop-page-test.true in
    let small : c.in_ok-number.number < 4294967296 = search (rules, arith) in (
      search (rules, arith),
      (
        index-lies-read c.loop-page.bitmaps (g.F.Flash.state c.loop-page.flash) (g.F.Flash.state c.see_pages.new.flash) _ saw.reads inv.leaves.lies,
        (
          may.room,
          (
            (le_trans (le-by _ _ (sym inv.leaves.oldest)) inv.from, lt-by _ _ _ lt inv.leaves.next),
            (le_trans saw.come.come.low saw.come.come.high, (some-places may, few-rows c.args.ring.now c.in_ok-number.number c.see_pages.new.known saw.come.come small)),
          ),
        ),
      ),
    )

pub loop-page-preserved : goal.loop-page-preserved
loop-page-preserved g c =
    let inv = c.loop-page.invariant in
    let saw = c.in_ok-number.ensures in
    let took = c.in_ok-end.ensures in
    let old = g.F.Flash.state c.args.flash.now in
    let flash = g.F.Flash.state c.loop-page.flash in
    let mid = g.F.Flash.state c.see_pages.new.flash in
    let new = g.F.Flash.state c.take_index_page.new.flash in
    let layout = layout_of c.args.schema.now in
    let ring = c.args.ring.now in
    let page = c.loop-page.page in
    let start = c.args.bitmaps.now in
    let lt = subst (λ n. page < n) c.next_number-next.ensures.exact c.loop-page-test.true in
    let number = c.in_ok-number.number in
    let pages = data-more page (oldest_in start) c.loop-page.number (oldest_of ring) number c.loop-page.end (next_of ring) inv.come.come.low saw.to in
    let one = index-more page (oldest_in start) number (oldest_of ring) inv.from in
    let read = subst (λ n. OnlyReads flash (n - c.loop-page.number) mid) (sym saw.to) saw.reads in
    let left = leaves-read _ pages inv.leaves read in
    record {
      from = le-on _ _ inv.from;
      most = le-behind _ _ _ lt refl;
      come = come-keeps _ one (come-then _ pages inv.come saw.come) took.taken.within took.taken.newest took.leaves.reads;
      leaves = leaves-then _ one left took.leaves;
      keeps = keeps-then (keeps-then inv.keeps saw.keeps) took.keeps;
      stands = λ first plan table told h. took.taken.stands first plan table (told_still old mid _ left.reads told) (below-read c.loop-page.bitmaps flash mid _ page first plan table saw.reads (inv.stands first plan table told h));
      remembers = λ told. remembers-more start c.loop-page.bitmaps c.take_index_page.new.bitmaps old mid _ (oldest_in start) page inv.leaves.same left.reads (inv.remembers told) took.taken.others (took.taken.remembers (told_still old mid _ left.reads told));
      passed = λ told few error t is h.
          let passed = inv.passed told few error t is h in
          let k = page - oldest_in start in
          let seen = saw.knows error t k
          (pages-before error t layout c.args.limit ring start old c.args.counts.now told few is page c.loop-page.number c.loop-page.end _ flash c.loop-page.known c.loop-page.counts c.loop-page.index c.loop-page.bitmaps inv.leaves inv.keeps.size inv.from inv.come.come.low inv.come.come.high passed lt) passed.knows in
          let next = page-next error t layout c.args.limit ring start old c.args.counts.now told few is page c.loop-page.number c.loop-page.end _ flash c.loop-page.known c.loop-page.counts c.loop-page.index c.loop-page.bitmaps inv.leaves inv.keeps.size inv.from inv.come.come.low inv.come.come.high passed mid seen.2 number saw.to _ c.see_pages.new.counts saw.reads saw.keeps.size lt in
          let taken = (took.knows (told_still old mid _ left.reads told) error layout t k (number - t.oldest) next seen.0).0 in
          page-passed error t layout c.args.limit ring start old c.args.counts.now told few is page c.loop-page.number c.loop-page.end _ flash c.loop-page.known c.loop-page.counts c.loop-page.index c.loop-page.bitmaps inv.leaves inv.keeps.size inv.from inv.come.come.low inv.come.come.high passed mid seen.2 number saw.to
          c.in_ok-end.end new.work.reads c.take_index_page.new.known c.take_index_page.new.counts c.take_index_page.new.index c.take_index_page.new.bitmaps taken took.leaves.reads.reads;
    }

-- ---- a data page fails

pub returns-in_err-number-clause-knows : goal.returns-in_err-number-clause-knows
returns-in_err-number-clause-knows g c = λ told few error t is h.
    let p = err_from_is_err_and c.from_residual.result c.from_residual.ensures.1 in
    let inv = c.loop-page.invariant in
    let saw = c.in_err-number.ensures in
    let old = g.F.Flash.state c.args.flash.now in
    let flash = g.F.Flash.state c.loop-page.flash in
    let mid = g.F.Flash.state c.see_pages.new.flash in
    let layout = layout_of c.args.schema.now in
    let ring = c.args.ring.now in
    let page = c.loop-page.page in
    let start = c.args.bitmaps.now in
    let lt = subst (λ n. page < n) c.next_number-next.ensures.exact c.loop-page-test.true in
    let passed = inv.passed told few error t is h in
    let seen = saw.knows error t (page - oldest_in start)
    (pages-before error t layout c.args.limit ring start old c.args.counts.now told few is page c.loop-page.number c.loop-page.end _ flash c.loop-page.known c.loop-page.counts c.loop-page.index c.loop-page.bitmaps inv.leaves inv.keeps.size inv.from inv.come.come.low inv.come.come.high passed lt) passed.knows in
    let few_all = few-seen error t layout c.args.limit ring start old c.args.counts.now told few is page c.loop-page.number c.loop-page.end _ flash c.loop-page.known c.loop-page.counts c.loop-page.index c.loop-page.bitmaps inv.leaves inv.keeps.size inv.from inv.come.come.low inv.come.come.high passed mid seen.2 inv.most in
    rw (p.1, p.2) (tt, record { refused = seen.1; few = few_all })

pub returns-in_err-number-clause-come : goal.returns-in_err-number-clause-come
returns-in_err-number-clause-come g c = no-success _ _ c.from_residual.result c.from_residual.ensures.1

pub returns-in_err-number-clause-index : goal.returns-in_err-number-clause-index
returns-in_err-number-clause-index g c = no-success _ _ c.from_residual.result c.from_residual.ensures.1

pub returns-in_err-number-clause-leaves : goal.returns-in_err-number-clause-leaves
returns-in_err-number-clause-leaves g c =
    let inv = c.loop-page.invariant in
    leaves-read _ (data-within _ _ _ _ _ _ _ inv.most inv.come.come.low inv.come.come.high) inv.leaves c.in_err-number.ensures.reads

pub returns-in_err-number-clause-keeps : goal.returns-in_err-number-clause-keeps
returns-in_err-number-clause-keeps g c = keeps-then c.loop-page.invariant.keeps c.in_err-number.ensures.keeps

pub returns-in_err-number-clause-fails : goal.returns-in_err-number-clause-fails
returns-in_err-number-clause-fails g c =
    let p = err_from_is_err_and c.from_residual.result c.from_residual.ensures.1 in
    rw (p.1, p.2) (fails-then c.loop-page.invariant.leaves.reads c.in_err-number.ensures.fails)

-- ---- an index page fails

pub returns-in_err-end-clause-knows : goal.returns-in_err-end-clause-knows
returns-in_err-end-clause-knows g c = λ told few error t is h.
    let p = err_from_is_err_and c.from_residual-in_err-end.result c.from_residual-in_err-end.ensures.1 in
    let inv = c.loop-page.invariant in
    let saw = c.in_ok-number.ensures in
    let took = c.in_err-end.ensures in
    let old = g.F.Flash.state c.args.flash.now in
    let flash = g.F.Flash.state c.loop-page.flash in
    let mid = g.F.Flash.state c.see_pages.new.flash in
    let layout = layout_of c.args.schema.now in
    let ring = c.args.ring.now in
    let page = c.loop-page.page in
    let start = c.args.bitmaps.now in
    let lt = subst (λ n. page < n) c.next_number-next.ensures.exact c.loop-page-test.true in
    let number = c.in_ok-number.number in
    let k = page - oldest_in start in
    let passed = inv.passed told few error t is h in
    let reads = more_reads old flash mid _ _ inv.leaves.reads saw.reads in
    let seen = saw.knows error t k
    (pages-before error t layout c.args.limit ring start old c.args.counts.now told few is page c.loop-page.number c.loop-page.end _ flash c.loop-page.known c.loop-page.counts c.loop-page.index c.loop-page.bitmaps inv.leaves inv.keeps.size inv.from inv.come.come.low inv.come.come.high passed lt) passed.knows in
    let next = page-next error t layout c.args.limit ring start old c.args.counts.now told few is page c.loop-page.number c.loop-page.end _ flash c.loop-page.known c.loop-page.counts c.loop-page.index c.loop-page.bitmaps inv.leaves inv.keeps.size inv.from inv.come.come.low inv.come.come.high passed mid seen.2 number saw.to _ c.see_pages.new.counts saw.reads saw.keeps.size lt in
    let few_all = few-taken error t layout c.args.limit ring start old c.args.counts.now told few is page c.loop-page.number c.loop-page.end _ flash c.loop-page.known c.loop-page.counts c.loop-page.index c.loop-page.bitmaps inv.leaves inv.keeps.size inv.from inv.come.come.low inv.come.come.high passed mid seen.2 _ lt took.leaves.reads.reads in
    rw (p.1, p.2) (tt, record { refused = (took.knows (told_still old mid _ reads told) error layout t k (number - t.oldest) next seen.0).1; few = few_all })

pub returns-in_err-end-clause-come : goal.returns-in_err-end-clause-come
returns-in_err-end-clause-come g c = no-success _ _ c.from_residual-in_err-end.result c.from_residual-in_err-end.ensures.1

pub returns-in_err-end-clause-index : goal.returns-in_err-end-clause-index
returns-in_err-end-clause-index g c = no-success _ _ c.from_residual-in_err-end.result c.from_residual-in_err-end.ensures.1

pub returns-in_err-end-clause-leaves : goal.returns-in_err-end-clause-leaves
returns-in_err-end-clause-leaves g c =
    let inv = c.loop-page.invariant in
    let saw = c.in_ok-number.ensures in
    let flash = g.F.Flash.state c.loop-page.flash in
    let mid = g.F.Flash.state c.see_pages.new.flash in
    let lt = subst (λ n. c.loop-page.page < n) c.next_number-next.ensures.exact c.loop-page-test.true in
    let pages = data-more c.loop-page.page (oldest_in c.args.bitmaps.now) c.loop-page.number (oldest_of c.args.ring.now) c.in_ok-number.number c.loop-page.end (next_of c.args.ring.now) inv.come.come.low saw.to in
    let read = subst (λ n. OnlyReads flash (n - c.loop-page.number) mid) (sym saw.to) saw.reads in
    leaves-then _ (index-within _ _ _ _ _ _ inv.from lt saw.come.come.low saw.come.come.high) (leaves-read _ pages inv.leaves read) c.in_err-end.ensures.leaves

pub returns-in_err-end-clause-keeps : goal.returns-in_err-end-clause-keeps
returns-in_err-end-clause-keeps g c = keeps-then (keeps-then c.loop-page.invariant.keeps c.in_ok-number.ensures.keeps) c.in_err-end.ensures.keeps

pub returns-in_err-end-clause-fails : goal.returns-in_err-end-clause-fails
returns-in_err-end-clause-fails g c =
    let p = err_from_is_err_and c.from_residual-in_err-end.result c.from_residual-in_err-end.ensures.1 in
    rw (p.1, p.2) (fails-then c.loop-page.invariant.leaves.reads (fails-then c.in_ok-number.ensures.reads c.in_err-end.ensures.fails))

-- ---- all index pages were taken

pub returns-clause-knows : goal.returns-clause-knows
returns-clause-knows g c = λ told few error t is h.
    let inv = c.loop-page.invariant in
    let saw = c.see_pages-2.ensures in
    let old = g.F.Flash.state c.args.flash.now in
    let flash = g.F.Flash.state c.loop-page.flash in
    let new = g.F.Flash.state c.see_pages-2.new.flash in
    let layout = layout_of c.args.schema.now in
    let ring = c.args.ring.now in
    let page = c.loop-page.page in
    let start = c.args.bitmaps.now in
    let last = at-end _ _ _ c.next_number-next.ensures.exact inv.most c.loop-page-test.false in
    let passed = inv.passed told few error t is h in
    let seen = saw.knows error t (page - oldest_in start)
    (pages-behind error t layout c.args.limit ring start old c.args.counts.now told few is page c.loop-page.number c.loop-page.end _ flash c.loop-page.known c.loop-page.counts c.loop-page.index c.loop-page.bitmaps inv.leaves inv.keeps.size inv.from inv.come.come.low inv.come.come.high passed last) passed.knows in
    let few_all = few-seen error t layout c.args.limit ring start old c.args.counts.now told few is page c.loop-page.number c.loop-page.end _ flash c.loop-page.known c.loop-page.counts c.loop-page.index c.loop-page.bitmaps inv.leaves inv.keeps.size inv.from inv.come.come.low inv.come.come.high passed new seen.2 inv.most in (
      ok-two c.see_pages-2.result _ _ (λ number. KnowsListed error t number old.work.reads new.work.reads c.see_pages-2.new.known c.see_pages-2.new.counts c.see_pages-2.new.index)
          (λ to at knows. all-listed error t layout c.args.limit ring start old c.args.counts.now told few is page c.loop-page.number c.loop-page.end _ flash c.loop-page.known c.loop-page.counts c.loop-page.index c.loop-page.bitmaps inv.leaves inv.keeps.size inv.from inv.come.come.low inv.come.come.high passed new seen.2 to at last
          c.see_pages-2.new.known c.see_pages-2.new.counts c.see_pages-2.new.index knows) saw.to seen.0,
      IfErr-weaker c.see_pages-2.result _ (λ e. IsRefusedFirst t old.work.reads new.work.reads e) (λ e is. record { refused = is; few = few_all }) seen.1,
    )

pub returns-clause-come : goal.returns-clause-come
returns-clause-come g c =
    let inv = c.loop-page.invariant in
    let saw = c.see_pages-2.ensures in
    let ring = c.args.ring.now in
    let first = oldest_in c.args.bitmaps.now in
    let last = at-end _ _ _ c.next_number-next.ensures.exact inv.most c.loop-page-test.false in
    ok-two c.see_pages-2.result _ _
    (λ number. HasComeBy ring number (next_in c.args.bitmaps.now - first + (number - oldest_of ring)) (g.F.Flash.state c.args.flash.now) c.args.known.now c.see_pages-2.new.known (g.F.Flash.state c.see_pages-2.new.flash))
    (λ to at come. come-then _ (data-last c.loop-page.page first (next_in c.args.bitmaps.now) c.loop-page.number (oldest_of ring) to c.loop-page.end (next_of ring) last inv.come.come.low at) inv.come come) saw.to saw.come

pub returns-clause-index : goal.returns-clause-index
returns-clause-index g c =
    let inv = c.loop-page.invariant in
    let old = g.F.Flash.state c.args.flash.now in
    let first = oldest_in c.args.bitmaps.now in
    let last = at-end _ _ _ c.next_number-next.ensures.exact inv.most c.loop-page-test.false in
    any-ok c.see_pages-2.result (record {
      remembers = λ told. subst (λ k. AreRemembered c.args.bitmaps.now old first k c.loop-page.bitmaps) last (inv.remembers told);
      stands = λ block plan table told h.
          subst (λ k. StandsBelow k c.loop-page.bitmaps (g.F.Flash.state c.see_pages-2.new.flash) block plan table) last
          (below-read c.loop-page.bitmaps (g.F.Flash.state c.loop-page.flash) (g.F.Flash.state c.see_pages-2.new.flash) _ c.loop-page.page block plan table c.see_pages-2.ensures.reads (inv.stands block plan table told h));
    })

pub returns-clause-leaves : goal.returns-clause-leaves
returns-clause-leaves g c =
    let inv = c.loop-page.invariant in
    leaves-read _ (data-within _ _ _ _ _ _ _ inv.most inv.come.come.low inv.come.come.high) inv.leaves c.see_pages-2.ensures.reads

pub returns-clause-keeps : goal.returns-clause-keeps
returns-clause-keeps g c = keeps-then c.loop-page.invariant.keeps c.see_pages-2.ensures.keeps

pub returns-clause-fails : goal.returns-clause-fails
returns-clause-fails g c = IfErr-weaker c.see_pages-2.result _ (λ e. FailsReading (g.F.Flash.state c.args.flash.now) e (g.F.Flash.state c.see_pages-2.new.flash)) (λ e h. fails-then c.loop-page.invariant.leaves.reads h) c.see_pages-2.ensures.fails

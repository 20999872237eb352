use Rattle.std.proofs.Common.{◌≡◌, ◌%◌, ◌≤◌, ℕ, IsTrue, length, length-set, ◌+◌, ◌-◌, arith, sym, ◌∙◌, ap, subst}
use Rattle.std.proofs.lemmas.Result.{err_from_is_err_and}
use Rattle.fl_base.specs.declared.types.Geometry.{Geometry}
use Rattle.fl_flash.specs.Flash.{page_at}
use Rattle.fl_frame.specs.Reads.{OnlyReads}
use Rattle.fl_ring.specs.Place.{oldest_of}
use Rattle.fl_ring.proofs.Exists.{page_exists}
use Rattle.fl_frame.proofs.ReadsInTurn.{more_reads, told_still, same_page}
use Rattle.fl_index.specs.Headers.{AreRemembered, kept_page}
use Rattle.fl_index.specs.Page.{first_on}
use Rattle.fl_index.proofs.HeaderPages.{remembered-more}
use Rattle.fl_ring.specs.Place.{next_of}
use Rattle.fl_ring.proofs.ReadsInTurn.{fewer_reads, fails_later}
use Rattle.fl_index.proofs.Limits.{one-more}
use Rattle.fl_index.proofs.mount.read_firsts.Goals as goal

pub read_first-requires-clause-exists : goal.read_first-requires-clause-exists
read_first-requires-clause-exists g c =
    page_exists c.args.ring.now (g.F.Flash.state c.args.flash.now) (g.F.Flash.state c.loop-number.flash) _ c.place_of.result c.requires.lies c.loop-number.invariant.reads c.place_of.ensures.within

pub loop-number-preserved : goal.loop-number-preserved
loop-number-preserved g c =
    let old = g.F.Flash.state c.args.flash.now in
    let flash = g.F.Flash.state c.loop-number.flash in
    let new = g.F.Flash.state c.read_first.new.flash in
    let ring = c.args.ring.now in
    let number = c.loop-number.number in
    let from = oldest_of ring in
    let n = number - oldest_of ring in
    let m = number + 1 - oldest_of ring in
    let pages = kept_page ring old in
    let inv = c.loop-number.invariant in
    let first = c.in_ok-first.first in
    let same : page_at flash c.place_of.result ≡ pages number = same_page old flash n c.place_of.result inv.reads ∙ ap (page_at old) c.place_of.ensures.place in
    record {
      from = omega (arith, inv.from);
      reads = subst (λ k. OnlyReads old k new) (let e : n + 1 ≡ m = omega (arith, inv.from) in e) (more_reads old flash new n 1 inv.reads c.in_ok-first.ensures.reads);
      room = c.in_ok-first.ensures.room ∙ inv.room;
      none = c.in_ok-first.ensures.none;
      size = length-set c.loop-number.firsts (number % length c.loop-number.firsts) first ∙ inv.size;
      firsts = λ fits told.
          remembered-more pages from n number m (omega (arith, inv.from)) (omega (arith, inv.from)) c.loop-number.firsts first (omega (arith, fits, inv.size))
          (c.in_ok-first.ensures.first (told_still old flash n inv.reads told) ∙ ap first_on same) (inv.firsts (omega (arith, fits)) told);
    }

pub read_first-requires-clause-room : goal.read_first-requires-clause-room
read_first-requires-clause-room g c = c.loop-number.invariant.room ∙ (c.requires.room ∙ ap (λ (x : Geometry). x.page) (sym c.loop-number.invariant.reads.goes.geometry))

pub returns-in_err-first-clause-room : goal.returns-in_err-first-clause-room
returns-in_err-first-clause-room g c = c.in_err-first.ensures.room ∙ c.loop-number.invariant.room

pub returns-in_err-first-clause-none : goal.returns-in_err-first-clause-none
returns-in_err-first-clause-none g c = c.in_err-first.ensures.none

pub returns-in_err-first-clause-size : goal.returns-in_err-first-clause-size
returns-in_err-first-clause-size g c = c.loop-number.invariant.size

pub returns-in_err-first-clause-firsts : goal.returns-in_err-first-clause-firsts
returns-in_err-first-clause-firsts g c =
    let p = err_from_is_err_and c.from_residual.result c.from_residual.ensures.1 in
    rw p.1 tt

pub returns-in_err-first-clause-power : goal.returns-in_err-first-clause-power
returns-in_err-first-clause-power g c =
    let p = err_from_is_err_and c.from_residual.result c.from_residual.ensures.1 in
    rw p.1 tt

pub returns-clause-room : goal.returns-clause-room
returns-clause-room g c = c.loop-number.invariant.room

pub returns-clause-none : goal.returns-clause-none
returns-clause-none g c = c.loop-number.invariant.none

pub returns-clause-size : goal.returns-clause-size
returns-clause-size g c = c.loop-number.invariant.size

pub returns-in_err-first-clause-reads : goal.returns-in_err-first-clause-reads
returns-in_err-first-clause-reads g c =
    let old = g.F.Flash.state c.args.flash.now in
    let flash = g.F.Flash.state c.loop-number.flash in
    let new = g.F.Flash.state c.read_first.new.flash in
    let n = c.loop-number.number - oldest_of c.args.ring.now in
    fewer_reads old new (n + 1) _ (more_reads old flash new n 1 c.loop-number.invariant.reads c.read_first.ensures.reads) (one-more _ c.loop-number.number _ _ c.loop-number.invariant.from c.loop-number-test.true c.next_number-number-end.ensures)

pub returns-in_err-first-clause-fails : goal.returns-in_err-first-clause-fails
returns-in_err-first-clause-fails g c =
    let old = g.F.Flash.state c.args.flash.now in
    let flash = g.F.Flash.state c.loop-number.flash in
    let new = g.F.Flash.state c.read_first.new.flash in
    let n = c.loop-number.number - oldest_of c.args.ring.now in
    let p = err_from_is_err_and c.from_residual.result c.from_residual.ensures.1 in
    rw (p.1, p.2) (fails_later old flash new n c.in_err-first.field-0.0 c.loop-number.invariant.reads c.in_err-first.ensures.fails)

pub returns-clause-reads : goal.returns-clause-reads
returns-clause-reads g c =
    let ring = c.args.ring.now in
    let all : c.loop-number.number ≡ next_of ring = omega arith in
    subst (λ (n : ℕ). OnlyReads (g.F.Flash.state c.args.flash.now) (n - oldest_of ring) (g.F.Flash.state c.loop-number.flash)) all c.loop-number.invariant.reads

pub returns-clause-firsts : goal.returns-clause-firsts
returns-clause-firsts g c =
    let ring = c.args.ring.now in
    let old = g.F.Flash.state c.args.flash.now in
    let all : c.loop-number.number ≡ next_of ring = omega arith in
    subst (λ (n : ℕ). n - oldest_of ring ≤ length c.args.firsts.now → IsTrue old.media.tells → AreRemembered (kept_page ring old) (oldest_of ring) (n - oldest_of ring) c.loop-number.firsts) all c.loop-number.invariant.firsts

use Rattle.std.proofs.Common.{rules, arith}
use Rattle.std.proofs.lemmas.Result.{err_from_is_err_and}
use Rattle.fl_find.specs.Index.{error_in}
use Rattle.fl_frame.proofs.ReadsInTurn.{told_still}
use Rattle.fl_schema.specs.Schema.{layout_of}
use Rattle.fl_parts.proofs.Firsts.{firsts-then}
use Rattle.fl_parts.proofs.KeptParts.{fails-then, few-still, keeps-then, may-still}
use Rattle.fl_parts.proofs.KeptSteps.{begins, few-first, few-rest, kept-then, none-yet, wait-unlisted}
use Rattle.fl_parts.proofs.ListedPages.{ring-read, ring-stays}
use Rattle.fl_parts.proofs.MountProgress.{rows-come, rows-still}
use Rattle.fl_parts.proofs.Untouched.{no-success}
use Rattle.fl_parts.proofs.kept.read_within.Goals as goal

pub read_listed-requires : goal.read_listed-requires
read_listed-requires g c =
    let come = none-yet c.args.ring.now c.nothing-known.result c.nothing-known.ensures in
    (search (rules, arith), (c.requires.may, (c.requires.bitmaps_lie, (c.requires.running, (c.requires.idle, come)))))

pub read_rest-requires : goal.read_rest-requires
read_rest-requires g c =
    let listed = c.in_ok-from.ensures in
    (search (rules, arith), (may-still c.requires.may listed.leaves.reads listed.keeps, (listed.come.come, (listed.index.idle, c.requires.end))))

pub returns-in_err-from-clause-knows : goal.returns-in_err-from-clause-knows
returns-in_err-from-clause-knows g c = λ told few t comes.
    let p = err_from_is_err_and c.from_residual.result c.from_residual.ensures.1 in
    let error = error_in c.args.index.now in
    let first = (c.in_err-from.ensures.knows told few error t comes (begins error t c.nothing-known.result c.args.counts.now c.args.index.now c.nothing-known.ensures c.requires.empty)).1 in
    rw (p.1, p.2) (tt, first.refused, few-first _ _ first.few)

pub returns-in_err-from-clause-found : goal.returns-in_err-from-clause-found
returns-in_err-from-clause-found g c = no-success _ _ c.from_residual.result c.from_residual.ensures.1

pub returns-in_err-from-clause-leaves : goal.returns-in_err-from-clause-leaves
returns-in_err-from-clause-leaves g c = c.in_err-from.ensures.leaves

pub returns-in_err-from-clause-keeps : goal.returns-in_err-from-clause-keeps
returns-in_err-from-clause-keeps g c = c.in_err-from.ensures.keeps

pub returns-in_err-from-clause-fails : goal.returns-in_err-from-clause-fails
returns-in_err-from-clause-fails g c =
    let p = err_from_is_err_and c.from_residual.result c.from_residual.ensures.1 in
    rw (p.1, p.2) c.in_err-from.ensures.fails

pub returns-in_err-read_rest-clause-knows : goal.returns-in_err-read_rest-clause-knows
returns-in_err-read_rest-clause-knows g c = λ told few t comes.
    let p = err_from_is_err_and c.from_residual-in_err-read_rest.result c.from_residual-in_err-read_rest.ensures.1 in
    let f = g.F.Flash.state c.args.flash.now in
    let first = g.F.Flash.state c.read_listed.new.flash in
    let layout = layout_of c.args.schema.now in
    let ring = c.args.ring.now in
    let error = error_in c.args.index.now in
    let listed = c.in_ok-from.ensures in
    let rest = c.in_err-read_rest.ensures in
    let rows = rows-come t layout c.args.limit c.args.bitmaps.now ring f comes in
    let knows = (listed.knows told few error t comes (begins error t c.nothing-known.result c.args.counts.now c.args.index.now c.nothing-known.ensures c.requires.empty)).0 in
    let read = rest.knows (told_still f first _ listed.leaves.reads told) (few-still _ few listed.keeps) error t (rows-still t layout ring f first _ listed.leaves.reads rows) knows.listed.unlisted knows.knows in
    rw (p.1, p.2) (tt, read.1, few-rest t layout ring f first (g.F.Flash.state c.read_rest.new.flash) c.in_ok-from.from c.read_listed.new.known rows knows.listed.unlisted listed.come.come knows.few rest.leaves.reads.reads)

pub returns-in_err-read_rest-clause-found : goal.returns-in_err-read_rest-clause-found
returns-in_err-read_rest-clause-found g c = no-success _ _ c.from_residual-in_err-read_rest.result c.from_residual-in_err-read_rest.ensures.1

pub returns-in_err-read_rest-clause-leaves : goal.returns-in_err-read_rest-clause-leaves
returns-in_err-read_rest-clause-leaves g c =
    let listed = c.in_ok-from.ensures in
    kept-then c.args.bitmaps.now c.read_listed.new.bitmaps c.read_rest.new.bitmaps c.args.ring.now (g.F.Flash.state c.args.flash.now) (g.F.Flash.state c.read_listed.new.flash) (g.F.Flash.state c.read_rest.new.flash) c.in_ok-from.from c.nothing-known.result c.read_listed.new.known
    c.nothing-known.ensures listed.leaves listed.come c.in_err-read_rest.ensures.leaves

pub returns-in_err-read_rest-clause-keeps : goal.returns-in_err-read_rest-clause-keeps
returns-in_err-read_rest-clause-keeps g c = keeps-then c.in_ok-from.ensures.keeps c.in_err-read_rest.ensures.keeps

pub returns-in_err-read_rest-clause-fails : goal.returns-in_err-read_rest-clause-fails
returns-in_err-read_rest-clause-fails g c =
    let p = err_from_is_err_and c.from_residual-in_err-read_rest.result c.from_residual-in_err-read_rest.ensures.1 in
    rw (p.1, p.2) (fails-then c.in_ok-from.ensures.leaves.reads c.in_err-read_rest.ensures.fails)

pub returns-clause-knows : goal.returns-clause-knows
returns-clause-knows g c = λ told few t comes.
    let f = g.F.Flash.state c.args.flash.now in
    let first = g.F.Flash.state c.read_listed.new.flash in
    let layout = layout_of c.args.schema.now in
    let ring = c.args.ring.now in
    let error = error_in c.args.index.now in
    let listed = c.in_ok-from.ensures in
    let rest = c.in_ok-read_rest.ensures in
    let rows = rows-come t layout c.args.limit c.args.bitmaps.now ring f comes in
    let knows = (listed.knows told few error t comes (begins error t c.nothing-known.result c.args.counts.now c.args.index.now c.nothing-known.ensures c.requires.empty)).0 in
    let read = rest.knows (told_still f first _ listed.leaves.reads told) (few-still _ few listed.keeps) error t (rows-still t layout ring f first _ listed.leaves.reads rows) knows.listed.unlisted knows.knows in
    let waits = rest.rest.waits (told_still f first _ listed.leaves.reads told) in (
      (
        read.0,
        wait-unlisted t layout ring f first c.args.end c.in_ok-from.from c.args.bitmaps.now c.read_listed.new.bitmaps c.read_rest.new.bitmaps _ rows listed.leaves.same listed.leaves.reads knows.listed listed.come.come.low rest.rest.many waits,
      ),
      tt,
      few-rest t layout ring f first (g.F.Flash.state c.read_rest.new.flash) c.in_ok-from.from c.read_listed.new.known rows knows.listed.unlisted listed.come.come knows.few rest.leaves.reads.reads,
    )

pub returns-clause-found : goal.returns-clause-found
returns-clause-found g c =
    let f = g.F.Flash.state c.args.flash.now in
    let first = g.F.Flash.state c.read_listed.new.flash in
    let new = g.F.Flash.state c.read_rest.new.flash in
    let listed = c.in_ok-from.ensures in
    let rest = c.in_ok-read_rest.ensures in
    record {
      counted = rest.rest.counted;
      follow = rest.rest.follow;
      remembers = λ told. firsts-then c.args.bitmaps.now c.read_listed.new.bitmaps c.read_rest.new.bitmaps f (listed.index.remembers told) rest.leaves.still;
      stands = λ block plan table told h.
          ring-read c.read_rest.new.bitmaps first new _ block plan table rest.leaves.reads
          (ring-stays c.read_listed.new.bitmaps c.read_rest.new.bitmaps first block plan table rest.leaves.same rest.leaves.still (listed.index.stands block plan table told h));
    }

pub returns-clause-leaves : goal.returns-clause-leaves
returns-clause-leaves g c =
    let listed = c.in_ok-from.ensures in
    kept-then c.args.bitmaps.now c.read_listed.new.bitmaps c.read_rest.new.bitmaps c.args.ring.now (g.F.Flash.state c.args.flash.now) (g.F.Flash.state c.read_listed.new.flash) (g.F.Flash.state c.read_rest.new.flash) c.in_ok-from.from c.nothing-known.result c.read_listed.new.known
    c.nothing-known.ensures listed.leaves listed.come c.in_ok-read_rest.ensures.leaves

pub returns-clause-keeps : goal.returns-clause-keeps
returns-clause-keeps g c = keeps-then c.in_ok-from.ensures.keeps c.in_ok-read_rest.ensures.keeps

pub returns-clause-fails : goal.returns-clause-fails
returns-clause-fails g c = tt

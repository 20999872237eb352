use Rattle.std.proofs.Common.{rules, ◌≡◌, ◌≤◌, ℕ, ◌<◌, arith, sym, ◌∙◌, ap, subst}
use Rattle.std.proofs.lemmas.Result.{err_from_is_err_and, IfErr-weaker, on_ok_weaker}
use Rattle.fl_flash.specs.Flash.{page_at}
use Rattle.fl_frame.proofs.ReadsInTurn.{told_still}
use Rattle.fl_ring.specs.Place.{next_of, shape_of}
use Rattle.fl_ring.specs.Ring.{place}
use Rattle.fl_schema.specs.Schema.{layout_of}
use Rattle.fl_parts.specs.Bitmaps.{first_to_wait}
use Rattle.fl_parts.specs.Coming.{WaitBetween}
use Rattle.fl_parts.specs.KeptSteps.{FailsReading, ReadsRest}
use Rattle.fl_parts.specs.Reading.{WaitFrom}
use Rattle.fl_parts.proofs.IndexOfTable.{plan-then, ring-then}
use Rattle.fl_parts.proofs.KeptParts.{fails-then, few-at, few-still, keeps-then, may-still, more-waiting, reads-then, waits-on}
use Rattle.fl_parts.proofs.MountProgress.{rows-still}
use Rattle.fl_parts.proofs.NotedEntries.{gathers-end, wait-between, wait-for, waits-from}
use Rattle.fl_parts.proofs.Untouched.{no-success}
use Rattle.fl_parts.proofs.kept.read_rest.Goals as goal

pub first_to_wait-first-requires-clause-end : goal.first_to_wait-first-requires-clause-end
first_to_wait-first-requires-clause-end g c = subst (λ (n : ℕ). c.args.end ≤ n) (sym c.next_number.ensures) c.requires.end

pub first_to_wait-first-requires-clause-oldest : goal.first_to_wait-first-requires-clause-oldest
first_to_wait-first-requires-clause-oldest g c = subst (λ (n : ℕ). c.args.from ≤ n) (sym c.next_number.ensures) c.requires.come.high

pub read_pages-requires : goal.read_pages-requires
read_pages-requires g c =
    let ring = c.args.ring.now in
    let anew = c.restart.ensures in
    let there = c.first_to_wait-first.ensures ∙ ap (first_to_wait c.args.bitmaps.now c.args.end c.args.from) c.next_number.ensures in
    (search (rules, arith), (c.requires.may, (c.requires.come, wait-for c.args.bitmaps.now c.restart.new.bitmaps c.args.end c.args.from (next_of ring) c.first_to_wait-first.result there c.requires.end c.requires.come.high anew.same anew.idle anew.next)))

pub read_newest-requires : goal.read_newest-requires
read_newest-requires g c =
    let read = c.in_ok-read_pages.ensures in
    let small = subst (λ n. n < 4294967296) c.next_number.ensures c.next_number.type_inv in
    (search (rules, arith), (may-still c.requires.may read.leaves.reads read.keeps, few-at read.noted.come small))

pub returns-in_err-read_pages-clause-knows : goal.returns-in_err-read_pages-clause-knows
returns-in_err-read_pages-clause-knows g c = λ told few error t is end h.
    let p = err_from_is_err_and c.from_residual.result c.from_residual.ensures.1 in
    rw (p.1, p.2) (tt, (c.in_err-read_pages.ensures.knows told few error t is end h).1)

pub returns-in_err-read_pages-clause-rest : goal.returns-in_err-read_pages-clause-rest
returns-in_err-read_pages-clause-rest g c = no-success _ _ c.from_residual.result c.from_residual.ensures.1

pub returns-in_err-read_pages-clause-leaves : goal.returns-in_err-read_pages-clause-leaves
returns-in_err-read_pages-clause-leaves g c =
    let anew = c.restart.ensures in
    let left = c.in_err-read_pages.ensures.leaves in
    record {
      same = plan-then c.args.bitmaps.now c.restart.new.bitmaps c.read_pages.new.bitmaps anew.same left.same;
      still = ring-then c.args.bitmaps.now c.restart.new.bitmaps c.read_pages.new.bitmaps anew.still left.still;
      reads = more-waiting _ left.reads;
    }

pub returns-in_err-read_pages-clause-keeps : goal.returns-in_err-read_pages-clause-keeps
returns-in_err-read_pages-clause-keeps g c = c.in_err-read_pages.ensures.keeps

pub returns-in_err-read_pages-clause-fails : goal.returns-in_err-read_pages-clause-fails
returns-in_err-read_pages-clause-fails g c =
    let p = err_from_is_err_and c.from_residual.result c.from_residual.ensures.1 in
    rw (p.1, p.2) c.in_err-read_pages.ensures.fails

pub returns-clause-knows : goal.returns-clause-knows
returns-clause-knows g c = λ told few error t is end h.
    let f = g.F.Flash.state c.args.flash.now in
    let then = g.F.Flash.state c.read_pages.new.flash in
    let read = c.in_ok-read_pages.ensures in
    c.read_newest.ensures.knows (told_still f then _ read.leaves.reads told) (few-still _ few read.keeps) error t (rows-still t (layout_of c.args.schema.now) c.args.ring.now f then _ read.leaves.reads is) (read.knows told few error t is end h).0

pub returns-clause-rest : goal.returns-clause-rest
returns-clause-rest g c =
    let ring = c.args.ring.now in
    let layout = layout_of c.args.schema.now in
    let f = g.F.Flash.state c.args.flash.now in
    let begun = c.restart.new.bitmaps in
    let now = c.read_pages.new.bitmaps in
    let there = c.first_to_wait-first.result in
    let anew = c.restart.ensures in
    let noted = c.in_ok-read_pages.ensures.noted in
    let at : there ≡ first_to_wait c.args.bitmaps.now c.args.end c.args.from (next_of ring) = c.first_to_wait-first.ensures ∙ ap (first_to_wait c.args.bitmaps.now c.args.end c.args.from) c.next_number.ensures in
    on_ok_weaker c.read_newest.result
    (λ counted. let rest : ReadsRest layout ring c.args.end c.args.from c.args.bitmaps.now f now c.read_newest.new.known = record {
      counted = counted;
      follow = gathers-end begun now c.args.from (next_of ring) (wait-for c.args.bitmaps.now begun c.args.end c.args.from (next_of ring) there at c.requires.end c.requires.come.high anew.same anew.idle anew.next) noted.gathered;
      many = subst (λ k. WaitBetween k (next_of ring) now) at (wait-between begun now (next_of ring) there anew.idle anew.next noted.gathered);
      waits = λ told.
          subst (λ n. WaitFrom layout (λ number. page_at f (place (shape_of ring) number)) n (next_of ring) now) at
          (waits-from layout begun now (λ number. page_at f (place (shape_of ring) number)) (next_of ring) there anew.idle anew.next anew.waits (noted.waits told));
    } in rest) c.read_newest.ensures.counted

pub returns-clause-leaves : goal.returns-clause-leaves
returns-clause-leaves g c =
    let anew = c.restart.ensures in
    let read = c.in_ok-read_pages.ensures in
    record {
      same = plan-then c.args.bitmaps.now c.restart.new.bitmaps c.read_pages.new.bitmaps anew.same read.leaves.same;
      still = ring-then c.args.bitmaps.now c.restart.new.bitmaps c.read_pages.new.bitmaps anew.still read.leaves.still;
      reads = reads-then _ (waits-on _ _ _ read.noted.newest) read.leaves.reads c.read_newest.ensures.reads;
    }

pub returns-clause-keeps : goal.returns-clause-keeps
returns-clause-keeps g c = keeps-then c.in_ok-read_pages.ensures.keeps c.read_newest.ensures.keeps

pub returns-clause-fails : goal.returns-clause-fails
returns-clause-fails g c = IfErr-weaker c.read_newest.result _ (λ e. FailsReading (g.F.Flash.state c.args.flash.now) e (g.F.Flash.state c.read_newest.new.flash)) (λ e h. fails-then c.in_ok-read_pages.ensures.leaves.reads h) c.read_newest.ensures.fails

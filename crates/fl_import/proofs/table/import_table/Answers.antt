use Rattle.std.proofs.Common.{◌≡◌, false, IsTrue, Err, sym, ◌∙◌, subst}
use Rattle.fl_base.proofs.Risen.{rose-back}
use Rattle.fl_flash.specs.Flash.{page_at}
use Rattle.fl_frame.proofs.WatchedInTurn.{unarmed-then}
use Rattle.fl_frame.proofs.CallsInTurn.{goes-then}
use Rattle.fl_image.specs.declared.status.ToolStatus.TheVariants.{Device}
use Rattle.fl_store.proofs.Outsides.{outside-then}
use Rattle.fl_store.proofs.CallsInTurn.{same-on}
use Rattle.fl_import.specs.Steps.{IsOfTable, is_broken}
use Rattle.fl_import.proofs.LastFlush.{failed-ends, broken-is, flush-broken, flush-ended, flush-of, flush-read, flush-rose, flush-write, lines, all-ends, all-ended, all-of, all-read, all-rose, all-write}
use Rattle.fl_store.proofs.Works.{works-watched}
use Rattle.fl_import.proofs.table.import_table.Goals as goal

pub returns-then-is_broken-clause-ends : goal.returns-then-is_broken-clause-ends
returns-then-is_broken-clause-ends g c = λ text first plan t is form works.
    let e : c.take_lines-all.result ≡ Err Device = broken-is c.take_lines-all.result (sym c.is_broken.ensures ∙ c.if-is_broken.true) in
    failed-ends c.args.gone c.take_lines-all.new.taken first plan t text c.take_lines-all.new.table (g.F.Flash.state c.take_lines-all.new.flash) (g.K.Sink.written c.args.out.now) (g.K.Sink.written c.take_lines-all.new.out) (g.S.Source.left c.take_lines-all.new.input)
    (rw e at (c.take_lines-all.ensures.ends text first plan t is form works))

pub returns-then-is_broken-clause-ended : goal.returns-then-is_broken-clause-ended
returns-then-is_broken-clause-ended g c = λ text is.
    let e : c.take_lines-all.result ≡ Err Device = broken-is c.take_lines-all.result (sym c.is_broken.ensures ∙ c.if-is_broken.true) in
    rw e at (c.take_lines-all.ensures.ended text is)

pub returns-then-is_broken-clause-device : goal.returns-then-is_broken-clause-device
returns-then-is_broken-clause-device g c = λ is. c.take_lines-all.ensures.device (broken-is c.take_lines-all.result (sym c.is_broken.ensures ∙ c.if-is_broken.true))

pub returns-in-Ok-clause-ends : goal.returns-in-Ok-clause-ends
returns-in-Ok-clause-ends g c = λ text first plan t is form works.
    let m = g.F.Flash.state c.take_lines-all.new.flash in
    let h = g.F.Flash.state c.flush.new.flash in
    let other : is_broken c.take_lines-all.result ≡ false = sym c.is_broken.ensures ∙ c.if-is_broken.false in
    let ends = c.take_lines-all.ensures.ends text first plan t is form works in
    let going = lines c.args.gone c.take_lines-all.new.taken first plan t text c.take_lines-all.new.table c.flush.new.self m h (g.K.Sink.written c.args.out.now) (g.K.Sink.written c.take_lines-all.new.out) (g.K.Sink.written c.told.new.out) (g.S.Source.left c.take_lines-all.new.input) c.take_lines-all.result other ends in
    all-ends c.args.gone c.take_lines-all.new.taken g.K.Sink.written g.K.Sink.faults c.args.out.now c.take_lines-all.new.out c.told.new.out c.told.result first plan t text c.take_lines-all.new.table c.flush.new.self m h (g.S.Source.left c.take_lines-all.new.input) c.take_lines-all.result other ends
    c.take_lines-all.ensures.statuses c.told.ensures.none c.told.ensures.counts c.flush.ensures.flash.goes
    (rw c.in-Ok.is at (c.flush.ensures.flush first plan _ _ going.works.device (works-watched first plan _ c.take_lines-all.new.table c.flush.new.self m h going.works) going.works.stands))

pub returns-in-Ok-clause-ended : goal.returns-in-Ok-clause-ended
returns-in-Ok-clause-ended g c = λ text is.
    all-ended c.args.gone c.take_lines-all.new.taken g.K.Sink.written g.K.Sink.faults c.args.out.now c.take_lines-all.new.out c.told.new.out c.told.result c.args.form.columns c.args.form.blobs text (g.S.Source.left c.take_lines-all.new.input) c.take_lines-all.result
    c.take_lines-all.ensures.statuses c.told.ensures.none c.told.ensures.counts (c.take_lines-all.ensures.ended text is)

pub returns-in-Ok-clause-device : goal.returns-in-Ok-clause-device
returns-in-Ok-clause-device g c = λ is.
    all-rose c.args.gone c.take_lines-all.new.taken g.K.Sink.written g.K.Sink.faults c.args.out.now c.take_lines-all.new.out c.told.new.out c.told.result _ _ c.take_lines-all.result c.told.ensures.none c.told.ensures.counts (sym c.is_broken.ensures ∙ c.if-is_broken.false) is

pub returns-in-Ok-clause-statuses : goal.returns-in-Ok-clause-statuses
returns-in-Ok-clause-statuses g c =
    all-of c.args.gone c.take_lines-all.new.taken g.K.Sink.written g.K.Sink.faults c.args.out.now c.take_lines-all.new.out c.told.new.out c.told.result c.take_lines-all.result c.take_lines-all.ensures.statuses c.told.ensures.none c.told.ensures.counts

pub returns-in-Ok-clause-read : goal.returns-in-Ok-clause-read
returns-in-Ok-clause-read g c =
    all-read c.args.gone c.take_lines-all.new.taken g.K.Sink.written g.K.Sink.faults c.args.out.now c.take_lines-all.new.out c.told.new.out c.told.result c.take_lines-all.result c.told.ensures.none c.told.ensures.counts c.take_lines-all.ensures.read

pub returns-in-Ok-clause-write : goal.returns-in-Ok-clause-write
returns-in-Ok-clause-write g c =
    all-write c.args.gone c.take_lines-all.new.taken g.K.Sink.written g.K.Sink.faults c.args.out.now c.take_lines-all.new.out c.told.new.out c.told.result c.take_lines-all.result c.told.ensures.none c.told.ensures.counts c.take_lines-all.ensures.later.1 c.take_lines-all.ensures.write

pub returns-in-Ok-clause-outside : goal.returns-in-Ok-clause-outside
returns-in-Ok-clause-outside g c = λ tells.
    outside-then c.args.table.now c.take_lines-all.new.table (page_at (g.F.Flash.state c.args.flash.now)) (page_at (g.F.Flash.state c.take_lines-all.new.flash)) (page_at (g.F.Flash.state c.flush.new.flash)) c.take_lines-all.ensures.same (c.take_lines-all.ensures.outside tells)
    (c.flush.ensures.flash.outside (subst IsTrue (sym c.take_lines-all.ensures.goes.tells) tells))

pub returns-in-Ok-clause-goes : goal.returns-in-Ok-clause-goes
returns-in-Ok-clause-goes g c = goes-then _ _ _ c.take_lines-all.ensures.goes c.flush.ensures.flash.goes

pub returns-in-Ok-clause-same : goal.returns-in-Ok-clause-same
returns-in-Ok-clause-same g c = same-on _ _ _ c.take_lines-all.ensures.same c.flush.ensures.table.same

pub returns-in-Err-clause-ends : goal.returns-in-Err-clause-ends
returns-in-Err-clause-ends g c = λ text first plan t is form works.
    let m = g.F.Flash.state c.take_lines-all.new.flash in
    let h = g.F.Flash.state c.flush.new.flash in
    let other : is_broken c.take_lines-all.result ≡ false = sym c.is_broken.ensures ∙ c.if-is_broken.false in
    let ends = c.take_lines-all.ensures.ends text first plan t is form works in
    let told = g.K.Sink.written c.args.out.now in
    let mid = g.K.Sink.written c.take_lines-all.new.out in
    let rest = g.S.Source.left c.take_lines-all.new.input in
    let going = lines c.args.gone c.take_lines-all.new.taken first plan t text c.take_lines-all.new.table c.flush.new.self m h told mid mid rest c.take_lines-all.result other ends in
    rw c.flush_status.ensures (flush-broken c.args.gone c.take_lines-all.new.taken first plan t text c.take_lines-all.new.table c.flush.new.self m h told mid mid rest c.take_lines-all.result other ends c.in-Err.fault
    (rw c.in-Err.is at (c.flush.ensures.flush first plan _ _ going.works.device (works-watched first plan _ c.take_lines-all.new.table c.flush.new.self m h going.works) going.works.stands)))

pub returns-in-Err-clause-ended : goal.returns-in-Err-clause-ended
returns-in-Err-clause-ended g c = λ text is.
    rw c.flush_status.ensures (flush-ended c.args.form.columns c.args.form.blobs text (g.S.Source.left c.take_lines-all.new.input) c.take_lines-all.result c.in-Err.fault (c.take_lines-all.ensures.ended text is))

pub returns-in-Err-clause-device : goal.returns-in-Err-clause-device
returns-in-Err-clause-device g c = λ is.
    rose-back (g.F.Flash.state c.args.flash.now).media.faults (g.F.Flash.state c.take_lines-all.new.flash).media.faults (g.F.Flash.state c.flush.new.flash).media.faults c.take_lines-all.ensures.goes.faults
    (flush-rose (g.F.Flash.state c.take_lines-all.new.flash) (g.F.Flash.state c.flush.new.flash) c.in-Err.fault (unarmed-then _ _ c.requires.unarmed c.take_lines-all.ensures.goes) (rw c.in-Err.is at c.flush.ensures.flash.cause) (sym c.flush_status.ensures ∙ is))

pub returns-in-Err-clause-read : goal.returns-in-Err-clause-read
returns-in-Err-clause-read g c = λ is. absurd (flush-read c.in-Err.fault (sym c.flush_status.ensures ∙ is))

pub returns-in-Err-clause-write : goal.returns-in-Err-clause-write
returns-in-Err-clause-write g c = λ is. absurd (flush-write c.in-Err.fault (sym c.flush_status.ensures ∙ is))

pub returns-in-Err-clause-statuses : goal.returns-in-Err-clause-statuses
returns-in-Err-clause-statuses g c = subst IsOfTable (sym c.flush_status.ensures) (flush-of c.in-Err.fault)

pub returns-in-Err-clause-outside : goal.returns-in-Err-clause-outside
returns-in-Err-clause-outside g c = λ tells.
    outside-then c.args.table.now c.take_lines-all.new.table (page_at (g.F.Flash.state c.args.flash.now)) (page_at (g.F.Flash.state c.take_lines-all.new.flash)) (page_at (g.F.Flash.state c.flush.new.flash)) c.take_lines-all.ensures.same (c.take_lines-all.ensures.outside tells)
    (c.flush.ensures.flash.outside (subst IsTrue (sym c.take_lines-all.ensures.goes.tells) tells))

pub returns-in-Err-clause-goes : goal.returns-in-Err-clause-goes
returns-in-Err-clause-goes g c = goes-then _ _ _ c.take_lines-all.ensures.goes c.flush.ensures.flash.goes

pub returns-in-Err-clause-same : goal.returns-in-Err-clause-same
returns-in-Err-clause-same g c = same-on _ _ _ c.take_lines-all.ensures.same c.flush.ensures.table.same

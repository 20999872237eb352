use Rattle.std.proofs.Common.{IsTrue, refl, sym, ◌∙◌, subst}
use Rattle.std.proofs.lemmas.Result.{err_from_is_err_and}
use Rattle.fl_flash.specs.Flash.{page_at}
use Rattle.fl_frame.proofs.CallsInTurn.{goes-then}
use Rattle.fl_frame.proofs.WatchedInTurn.{watched-first, watched-then}
use Rattle.fl_frame.specs.Contents.{contents_of}
use Rattle.fl_page.specs.declared.fault.ReadFault.TheVariants as read
use Rattle.fl_store.proofs.CallsInTurn.{same-on}
use Rattle.fl_store.proofs.Outsides.{outside-then}
use Rattle.fl_table.specs.declared.faults.PutRefusal.TheVariants as put
use Rattle.fl_ship.specs.Rows.{AreTaken}
use Rattle.fl_ship.specs.declared.fault.ShipFault.TheVariants.{Read, Put}
use Rattle.fl_ship.proofs.Faults.{done-not-failed, flush-caused-later, flush-not-put, flush-not-read, flush-stops}
use Rattle.fl_ship.proofs.LastFlush.{ship-done, ship-unput, ship-unflushed, work-done, work-unput, work-unflushed}
use Rattle.fl_ship.proofs.rows.ship_rows.Goals as goal

pub returns-in_err-shipped-clause-ships : goal.returns-in_err-shipped-clause-ships
returns-in_err-shipped-clause-ships g c = λ first plan t works.
    let p = err_from_is_err_and c.from_residual.result c.from_residual.ensures.1 in
    rw (p.1, p.2) (ship-unput first plan t _ _ c.put_rows.new.to c.put_rows.new.to (g.B.Flash.state c.put_rows.new.onto) (g.B.Flash.state c.put_rows.new.onto) c.in_err-shipped.field-0.0 (c.in_err-shipped.ensures.puts first plan t works))

pub returns-in_err-shipped-clause-cut : goal.returns-in_err-shipped-clause-cut
returns-in_err-shipped-clause-cut g c = λ first plan t rose device w stands.
    let p = err_from_is_err_and c.from_residual.result c.from_residual.ensures.1 in
    rw (p.1, p.2) (work-unput first plan t _ _ c.put_rows.new.to c.put_rows.new.to (g.B.Flash.state c.put_rows.new.onto) (g.B.Flash.state c.put_rows.new.onto)
    (AreTaken (g.R.Rows.told c.args.rows.now (contents_of (g.A.Flash.state c.args.from.now))) c.args.count (g.R.Rows.left c.args.rows.now (contents_of (g.A.Flash.state c.args.from.now))) (g.R.Rows.left c.put_rows.new.rows (contents_of (g.A.Flash.state c.args.from.now)))) rose device c.in_err-shipped.field-0.0
    (c.in_err-shipped.ensures.cut first plan t rose device w stands))

pub returns-in_err-shipped-clause-unread : goal.returns-in_err-shipped-clause-unread
returns-in_err-shipped-clause-unread g c =
    let p = err_from_is_err_and c.from_residual.result c.from_residual.ensures.1 in
    rw (p.1, p.2) c.in_err-shipped.ensures.unread

pub returns-in_err-flush_copy-clause-ships : goal.returns-in_err-flush_copy-clause-ships
returns-in_err-flush_copy-clause-ships g c = λ first plan t works.
    let p = err_from_is_err_and c.from_residual-in_err-flush_copy.result c.from_residual-in_err-flush_copy.ensures.1 in
    let rows = c.in_ok-shipped.ensures.puts first plan t works in
    rw (p.1, p.2) (ship-unflushed first plan t _ _ c.put_rows.new.to c.flush_copy.new.to (g.B.Flash.state c.put_rows.new.onto) (g.B.Flash.state c.flush_copy.new.onto) c.in_ok-shipped.shipped rows c.in_err-flush_copy.field-0.0
    (c.in_err-flush_copy.ensures.flushes first plan rows.after (rows.works refl)))

pub returns-in_err-flush_copy-clause-cut : goal.returns-in_err-flush_copy-clause-cut
returns-in_err-flush_copy-clause-cut g c = λ first plan t rose device w stands.
    let p = err_from_is_err_and c.from_residual-in_err-flush_copy.result c.from_residual-in_err-flush_copy.ensures.1 in
    let f = g.B.Flash.state c.args.onto.now in
    let mid = g.B.Flash.state c.put_rows.new.onto in
    let new = g.B.Flash.state c.flush_copy.new.onto in
    let rows = c.in_ok-shipped.ensures.cut first plan t rose device (watched-first f mid new rose device w c.flush_copy.ensures.goes) stands in
    let works = rows.works in
    rw (p.1, p.2) (work-unflushed first plan t _ _ c.put_rows.new.to c.flush_copy.new.to mid new (AreTaken (g.R.Rows.told c.args.rows.now (contents_of (g.A.Flash.state c.args.from.now))) c.args.count (g.R.Rows.left c.args.rows.now (contents_of (g.A.Flash.state c.args.from.now))) (g.R.Rows.left c.put_rows.new.rows (contents_of (g.A.Flash.state c.args.from.now)))) rose device c.in_ok-shipped.shipped rows c.in_err-flush_copy.field-0.0 c.in_err-flush_copy.ensures.cause
    (c.in_err-flush_copy.ensures.cut first plan works.now.state rose works.now.device (watched-then f mid new rose device works.now.device w c.put_rows.ensures.goes works.ends.1 works.counts) (works.stands works.ends.0)))

pub returns-in_err-flush_copy-clause-outside : goal.returns-in_err-flush_copy-clause-outside
returns-in_err-flush_copy-clause-outside g c = λ tells.
    let p = c.put_rows.ensures in
    outside-then c.args.to.now c.put_rows.new.to (page_at (g.B.Flash.state c.args.onto.now)) (page_at (g.B.Flash.state c.put_rows.new.onto)) (page_at (g.B.Flash.state c.flush_copy.new.onto)) p.same (p.outside tells)
    (c.flush_copy.ensures.outside (subst IsTrue (sym p.goes.tells) tells))

pub returns-in_err-flush_copy-clause-same : goal.returns-in_err-flush_copy-clause-same
returns-in_err-flush_copy-clause-same g c = same-on _ _ _ c.put_rows.ensures.same c.flush_copy.ensures.same

pub returns-clause-ships : goal.returns-clause-ships
returns-clause-ships g c = λ first plan t works.
    let rows = c.in_ok-shipped.ensures.puts first plan t works in
    ship-done first plan t _ _ c.put_rows.new.to c.flush_copy.new.to (g.B.Flash.state c.put_rows.new.onto) (g.B.Flash.state c.flush_copy.new.onto) c.in_ok-shipped.shipped rows
    (c.in_ok-flush_copy.ensures.flushes first plan rows.after (rows.works refl))

pub returns-clause-cut : goal.returns-clause-cut
returns-clause-cut g c = λ first plan t rose device w stands.
    let f = g.B.Flash.state c.args.onto.now in
    let mid = g.B.Flash.state c.put_rows.new.onto in
    let new = g.B.Flash.state c.flush_copy.new.onto in
    let rows = c.in_ok-shipped.ensures.cut first plan t rose device (watched-first f mid new rose device w c.flush_copy.ensures.goes) stands in
    let works = rows.works in
    work-done first plan t _ _ c.put_rows.new.to c.flush_copy.new.to mid new (AreTaken (g.R.Rows.told c.args.rows.now (contents_of (g.A.Flash.state c.args.from.now))) c.args.count (g.R.Rows.left c.args.rows.now (contents_of (g.A.Flash.state c.args.from.now))) (g.R.Rows.left c.put_rows.new.rows (contents_of (g.A.Flash.state c.args.from.now)))) rose device c.in_ok-shipped.shipped rows
    (c.in_ok-flush_copy.ensures.cut first plan works.now.state rose works.now.device (watched-then f mid new rose device works.now.device w c.put_rows.ensures.goes works.ends.1 works.counts) (works.stands works.ends.0))

pub returns-clause-above : goal.returns-clause-above
returns-clause-above g c = λ last key is above. c.in_ok-shipped.ensures.above last key (sym c.flush_copy.ensures.last ∙ is) above

pub returns-clause-outside : goal.returns-clause-outside
returns-clause-outside g c = λ tells.
    let p = c.put_rows.ensures in
    outside-then c.args.to.now c.put_rows.new.to (page_at (g.B.Flash.state c.args.onto.now)) (page_at (g.B.Flash.state c.put_rows.new.onto)) (page_at (g.B.Flash.state c.flush_copy.new.onto)) p.same (p.outside tells)
    (c.flush_copy.ensures.outside (subst IsTrue (sym p.goes.tells) tells))

pub returns-in_err-flush_copy-clause-goes : goal.returns-in_err-flush_copy-clause-goes
returns-in_err-flush_copy-clause-goes g c = goes-then _ _ _ c.put_rows.ensures.goes c.flush_copy.ensures.goes

pub returns-clause-goes : goal.returns-clause-goes
returns-clause-goes g c = goes-then _ _ _ c.put_rows.ensures.goes c.flush_copy.ensures.goes

-- ---- the rows weren't put

pub returns-in_err-shipped-clause-none_bad : goal.returns-in_err-shipped-clause-none_bad
returns-in_err-shipped-clause-none_bad g c = let p = err_from_is_err_and c.from_residual.result c.from_residual.ensures.1 in rw (p.1, p.2) c.in_err-shipped.ensures.none_bad

pub returns-in_err-shipped-clause-cause : goal.returns-in_err-shipped-clause-cause
returns-in_err-shipped-clause-cause g c = let p = err_from_is_err_and c.from_residual.result c.from_residual.ensures.1 in rw (p.1, p.2) c.in_err-shipped.ensures.cause

pub returns-in_err-shipped-clause-bad_page : goal.returns-in_err-shipped-clause-bad_page
returns-in_err-shipped-clause-bad_page g c = let p = err_from_is_err_and c.from_residual.result c.from_residual.ensures.1 in rw (p.1, p.2) c.in_err-shipped.ensures.bad_page

pub returns-in_err-shipped-clause-spent : goal.returns-in_err-shipped-clause-spent
returns-in_err-shipped-clause-spent g c = let p = err_from_is_err_and c.from_residual.result c.from_residual.ensures.1 in rw (p.1, p.2) c.in_err-shipped.ensures.spent

pub returns-in_err-shipped-clause-numbers : goal.returns-in_err-shipped-clause-numbers
returns-in_err-shipped-clause-numbers g c = let p = err_from_is_err_and c.from_residual.result c.from_residual.ensures.1 in rw (p.1, p.2) c.in_err-shipped.ensures.numbers

pub returns-in_err-shipped-clause-running : goal.returns-in_err-shipped-clause-running
returns-in_err-shipped-clause-running g c = let p = err_from_is_err_and c.from_residual.result c.from_residual.ensures.1 in rw (p.1, p.2) c.in_err-shipped.ensures.running

pub returns-in_err-shipped-clause-number : goal.returns-in_err-shipped-clause-number
returns-in_err-shipped-clause-number g c = λ told. let p = err_from_is_err_and c.from_residual.result c.from_residual.ensures.1 in rw p.1 tt

pub returns-in_err-shipped-clause-left : goal.returns-in_err-shipped-clause-left
returns-in_err-shipped-clause-left g c = λ told. let p = err_from_is_err_and c.from_residual.result c.from_residual.ensures.1 in rw p.1 tt

pub returns-in_err-shipped-clause-few : goal.returns-in_err-shipped-clause-few
returns-in_err-shipped-clause-few g c = let p = err_from_is_err_and c.from_residual.result c.from_residual.ensures.1 in rw p.1 tt

pub returns-in_err-shipped-clause-above : goal.returns-in_err-shipped-clause-above
returns-in_err-shipped-clause-above g c = let p = err_from_is_err_and c.from_residual.result c.from_residual.ensures.1 in rw p.1 tt

pub returns-in_err-shipped-clause-rows : goal.returns-in_err-shipped-clause-rows
returns-in_err-shipped-clause-rows g c = c.put_rows.ensures.rows

pub returns-in_err-shipped-clause-reads : goal.returns-in_err-shipped-clause-reads
returns-in_err-shipped-clause-reads g c = c.put_rows.ensures.reads

pub returns-in_err-shipped-clause-reads_only : goal.returns-in_err-shipped-clause-reads_only
returns-in_err-shipped-clause-reads_only g c = c.put_rows.ensures.reads_only

pub returns-in_err-shipped-clause-goes : goal.returns-in_err-shipped-clause-goes
returns-in_err-shipped-clause-goes g c = c.put_rows.ensures.goes

pub returns-in_err-shipped-clause-outside : goal.returns-in_err-shipped-clause-outside
returns-in_err-shipped-clause-outside g c = c.put_rows.ensures.outside

pub returns-in_err-shipped-clause-same : goal.returns-in_err-shipped-clause-same
returns-in_err-shipped-clause-same g c = c.put_rows.ensures.same

pub returns-in_err-shipped-clause-lies : goal.returns-in_err-shipped-clause-lies
returns-in_err-shipped-clause-lies g c = c.put_rows.ensures.lies

-- ---- the flush failed

pub returns-in_err-flush_copy-clause-none_bad : goal.returns-in_err-flush_copy-clause-none_bad
returns-in_err-flush_copy-clause-none_bad g c = λ told bad is.
    let p = err_from_is_err_and c.from_residual-in_err-flush_copy.result c.from_residual-in_err-flush_copy.ensures.1 in
    flush-not-read (g.A.Flash.state c.args.from.now) (g.A.Flash.state c.put_rows.new.from) (g.B.Flash.state c.put_rows.new.onto) (g.B.Flash.state c.flush_copy.new.onto) c.in_err-flush_copy.field-0.0 c.in_err-flush_copy.ensures.cause (read.BadPage bad) (rw (p.1, p.2) at is)

pub returns-in_err-flush_copy-clause-number : goal.returns-in_err-flush_copy-clause-number
returns-in_err-flush_copy-clause-number g c = λ told. let p = err_from_is_err_and c.from_residual-in_err-flush_copy.result c.from_residual-in_err-flush_copy.ensures.1 in rw p.1 tt

pub returns-in_err-flush_copy-clause-left : goal.returns-in_err-flush_copy-clause-left
returns-in_err-flush_copy-clause-left g c = λ told. let p = err_from_is_err_and c.from_residual-in_err-flush_copy.result c.from_residual-in_err-flush_copy.ensures.1 in rw p.1 tt

pub returns-in_err-flush_copy-clause-cause : goal.returns-in_err-flush_copy-clause-cause
returns-in_err-flush_copy-clause-cause g c =
    let p = err_from_is_err_and c.from_residual-in_err-flush_copy.result c.from_residual-in_err-flush_copy.ensures.1 in
    rw (p.1, p.2) (flush-caused-later (g.A.Flash.state c.args.from.now) (g.A.Flash.state c.put_rows.new.from) (g.B.Flash.state c.put_rows.new.onto) (g.B.Flash.state c.flush_copy.new.onto) c.in_err-flush_copy.field-0.0 c.in_err-flush_copy.ensures.cause (g.B.Flash.state c.args.onto.now) c.put_rows.ensures.goes c.in_ok-shipped.ensures.power)

pub returns-in_err-flush_copy-clause-bad_page : goal.returns-in_err-flush_copy-clause-bad_page
returns-in_err-flush_copy-clause-bad_page g c = λ bad is.
    let p = err_from_is_err_and c.from_residual-in_err-flush_copy.result c.from_residual-in_err-flush_copy.ensures.1 in
    absurd (flush-not-read (g.A.Flash.state c.args.from.now) (g.A.Flash.state c.put_rows.new.from) (g.B.Flash.state c.put_rows.new.onto) (g.B.Flash.state c.flush_copy.new.onto) c.in_err-flush_copy.field-0.0 c.in_err-flush_copy.ensures.cause (read.BadPage bad) (rw (p.1, p.2) at is))

pub returns-in_err-flush_copy-clause-spent : goal.returns-in_err-flush_copy-clause-spent
returns-in_err-flush_copy-clause-spent g c = λ is.
    let p = err_from_is_err_and c.from_residual-in_err-flush_copy.result c.from_residual-in_err-flush_copy.ensures.1 in
    absurd (flush-not-put (g.A.Flash.state c.args.from.now) (g.A.Flash.state c.put_rows.new.from) (g.B.Flash.state c.put_rows.new.onto) (g.B.Flash.state c.flush_copy.new.onto) c.in_err-flush_copy.field-0.0 c.in_err-flush_copy.ensures.cause put.Spent (rw (p.1, p.2) at is))

pub returns-in_err-flush_copy-clause-numbers : goal.returns-in_err-flush_copy-clause-numbers
returns-in_err-flush_copy-clause-numbers g c = λ is.
    let p = err_from_is_err_and c.from_residual-in_err-flush_copy.result c.from_residual-in_err-flush_copy.ensures.1 in
    absurd (flush-not-put (g.A.Flash.state c.args.from.now) (g.A.Flash.state c.put_rows.new.from) (g.B.Flash.state c.put_rows.new.onto) (g.B.Flash.state c.flush_copy.new.onto) c.in_err-flush_copy.field-0.0 c.in_err-flush_copy.ensures.cause put.Spent (rw (p.1, p.2) at is))

pub returns-in_err-flush_copy-clause-unread : goal.returns-in_err-flush_copy-clause-unread
returns-in_err-flush_copy-clause-unread g c = λ told fault is.
    let p = err_from_is_err_and c.from_residual-in_err-flush_copy.result c.from_residual-in_err-flush_copy.ensures.1 in
    absurd (flush-not-read (g.A.Flash.state c.args.from.now) (g.A.Flash.state c.put_rows.new.from) (g.B.Flash.state c.put_rows.new.onto) (g.B.Flash.state c.flush_copy.new.onto) c.in_err-flush_copy.field-0.0 c.in_err-flush_copy.ensures.cause fault (rw (p.1, p.2) at is))

pub returns-in_err-flush_copy-clause-few : goal.returns-in_err-flush_copy-clause-few
returns-in_err-flush_copy-clause-few g c = let p = err_from_is_err_and c.from_residual-in_err-flush_copy.result c.from_residual-in_err-flush_copy.ensures.1 in rw p.1 tt

pub returns-in_err-flush_copy-clause-above : goal.returns-in_err-flush_copy-clause-above
returns-in_err-flush_copy-clause-above g c = let p = err_from_is_err_and c.from_residual-in_err-flush_copy.result c.from_residual-in_err-flush_copy.ensures.1 in rw p.1 tt

pub returns-in_err-flush_copy-clause-running : goal.returns-in_err-flush_copy-clause-running
returns-in_err-flush_copy-clause-running g c =
    let p = err_from_is_err_and c.from_residual-in_err-flush_copy.result c.from_residual-in_err-flush_copy.ensures.1 in
    rw (p.1, p.2) (c.in_err-flush_copy.ensures.running ∙ sym (flush-stops (g.A.Flash.state c.args.from.now) (g.A.Flash.state c.put_rows.new.from) (g.B.Flash.state c.put_rows.new.onto) (g.B.Flash.state c.flush_copy.new.onto) c.in_err-flush_copy.field-0.0 c.in_err-flush_copy.ensures.cause))

pub returns-in_err-flush_copy-clause-rows : goal.returns-in_err-flush_copy-clause-rows
returns-in_err-flush_copy-clause-rows g c = c.put_rows.ensures.rows

pub returns-in_err-flush_copy-clause-reads : goal.returns-in_err-flush_copy-clause-reads
returns-in_err-flush_copy-clause-reads g c = c.put_rows.ensures.reads

pub returns-in_err-flush_copy-clause-reads_only : goal.returns-in_err-flush_copy-clause-reads_only
returns-in_err-flush_copy-clause-reads_only g c = c.put_rows.ensures.reads_only

pub returns-in_err-flush_copy-clause-lies : goal.returns-in_err-flush_copy-clause-lies
returns-in_err-flush_copy-clause-lies g c = c.flush_copy.ensures.lies

-- ---- all is done

pub returns-clause-none_bad : goal.returns-clause-none_bad
returns-clause-none_bad g c = λ told bad is. done-not-failed c.in_ok-shipped.shipped (Read (read.BadPage bad)) is

pub returns-clause-bad_page : goal.returns-clause-bad_page
returns-clause-bad_page g c = λ bad is. absurd (done-not-failed c.in_ok-shipped.shipped (Read (read.BadPage bad)) is)

pub returns-clause-spent : goal.returns-clause-spent
returns-clause-spent g c = λ is. absurd (done-not-failed c.in_ok-shipped.shipped (Put put.Spent) is)

pub returns-clause-numbers : goal.returns-clause-numbers
returns-clause-numbers g c = λ is. absurd (done-not-failed c.in_ok-shipped.shipped (Put put.Spent) is)

pub returns-clause-unread : goal.returns-clause-unread
returns-clause-unread g c = λ told fault is. absurd (done-not-failed c.in_ok-shipped.shipped (Read fault) is)

pub returns-clause-number : goal.returns-clause-number
returns-clause-number g c = c.in_ok-shipped.ensures.number

pub returns-clause-few : goal.returns-clause-few
returns-clause-few g c = c.in_ok-shipped.ensures.few

pub returns-clause-left : goal.returns-clause-left
returns-clause-left g c = c.in_ok-shipped.ensures.left

pub returns-clause-running : goal.returns-clause-running
returns-clause-running g c = c.in_ok-flush_copy.ensures.running

pub returns-clause-rows : goal.returns-clause-rows
returns-clause-rows g c = c.put_rows.ensures.rows

pub returns-clause-reads : goal.returns-clause-reads
returns-clause-reads g c = c.put_rows.ensures.reads

pub returns-clause-reads_only : goal.returns-clause-reads_only
returns-clause-reads_only g c = c.put_rows.ensures.reads_only

pub returns-clause-same : goal.returns-clause-same
returns-clause-same g c = same-on _ _ _ c.put_rows.ensures.same c.flush_copy.ensures.same

pub returns-clause-lies : goal.returns-clause-lies
returns-clause-lies g c = c.flush_copy.ensures.lies

-- ---- what the calls ask for

pub put_rows-requires-clause-ready : goal.put_rows-requires-clause-ready
put_rows-requires-clause-ready g c = c.requires.ready

pub put_rows-requires-clause-form : goal.put_rows-requires-clause-form
put_rows-requires-clause-form g c = c.requires.form

pub put_rows-requires-clause-no_blobs : goal.put_rows-requires-clause-no_blobs
put_rows-requires-clause-no_blobs g c = c.requires.no_blobs

pub put_rows-requires-clause-running : goal.put_rows-requires-clause-running
put_rows-requires-clause-running g c = c.requires.running

pub put_rows-requires-clause-lies : goal.put_rows-requires-clause-lies
put_rows-requires-clause-lies g c = c.requires.lies

pub put_rows-requires-clause-above : goal.put_rows-requires-clause-above
put_rows-requires-clause-above g c = c.requires.above

pub flush_copy-requires-clause-running : goal.flush_copy-requires-clause-running
flush_copy-requires-clause-running g c = c.in_ok-shipped.ensures.running

pub flush_copy-requires-clause-lies : goal.flush_copy-requires-clause-lies
flush_copy-requires-clause-lies g c = c.put_rows.ensures.lies

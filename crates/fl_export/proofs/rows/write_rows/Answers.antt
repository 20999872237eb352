use Rattle.std.proofs.Common.{◌≡◌, true, false, inl, inr, Ok, Err, refl, sym, ◌∙◌, ap, subst, arith}
use Rattle.std.specs.Borrow.{Bor}
use Rattle.fl_cursor.specs.Cursor.{table_of, present_of, has_ended, IfBad, MayBeBad}
use Rattle.fl_cursor.specs.Going.{Goes, Fails}
use Rattle.fl_cursor.proofs.StepsOfRows.{steps-after}
use Rattle.fl_cursor.proofs.Whole.{keeps-then}
use Rattle.fl_frame.specs.Contents.{Contents, contents_of}
use Rattle.fl_page.proofs.ReadsInTurn.{IsCaused-later}
use Rattle.fl_frame.proofs.ContentsInTurn.{OnlyReads-same, OnlyReads-then}
use Rattle.fl_schema.specs.Schema.{row_of}
use Rattle.fl_table.specs.declared.table.Table.{Table}
use Rattle.fl_store.proofs.Called.{err-is}
use Rattle.fl_export.specs.Writing.{IsBadIn}
use Rattle.fl_export.proofs.Unread.{unread-later, bad-more, bad-read}
use Rattle.fl_store.proofs.TablesOnlyRead.{tells-read, lies-read, page-read, stands-read}
use Rattle.fl_export.proofs.WrittenRecords.{far-none, far-next, far-stopped, far-unread, far-all, row-smaller}
use Rattle.fl_export.proofs.rows.write_rows.Goals as goal

pub rows-init : goal.rows-init
rows-init g c = record {
  counts = OnlyReads-same _;
  keeps = record { table = refl; rows_name = refl; rows_room = refl; index_name = refl; index_room = refl };
  ready = c.requires.ready;
  space = refl;
  later = omega arith;
  far = λ first plan t entries tells stands told left among. far-none plan t entries c.args.cursor.now (contents_of (g.F.Flash.state c.args.flash.now)) (g.K.Sink.written c.args.out.now) told left among;
}

pub returns-in_err-advance-clause-counts : goal.returns-in_err-advance-clause-counts
returns-in_err-advance-clause-counts g c = OnlyReads-then _ _ _ c.rows.invariant.counts c.advance.ensures.reads_only

pub returns-in_err-advance-clause-unread : goal.returns-in_err-advance-clause-unread
returns-in_err-advance-clause-unread g c =
    rw (err-is c.from_residual.result _ c.from_residual.ensures.1) (IsCaused-later (g.F.Flash.state c.args.flash.now) (g.F.Flash.state c.rows.flash) (g.F.Flash.state c.advance.new.flash) c.in_err-advance.field-0.0 c.rows.invariant.counts c.in_err-advance.ensures.cause)

pub returns-in_err-advance-clause-writes : goal.returns-in_err-advance-clause-writes
returns-in_err-advance-clause-writes g c = λ first plan t entries tells stands told left among.
    let inv = c.rows.invariant in
    let held = contents_of (g.F.Flash.state c.args.flash.now) in
    let mid = c.rows.cursor in
    let new = c.advance.new.self in
    let fails = subst (λ (k : Contents). Fails k (g.F.Flash.state c.rows.flash).work.reads c.rows.cursor (g.F.Flash.state c.advance.new.flash).work.reads c.advance.new.self) inv.counts.contents c.in_err-advance.ensures.fails in
    let bad = subst (λ (k : Contents). IfBad (MayBeBad (table_of c.rows.cursor) k) c.in_err-advance.field-0.0) inv.counts.contents c.in_err-advance.ensures.bad_page in
    let far = inv.far first plan t entries tells stands told left among in
    let steps = steps-after mid new held ((g.F.Flash.state c.rows.flash).work.reads) ((g.F.Flash.state c.advance.new.flash).work.reads) (Err c.in_err-advance.field-0.0) tt fails bad tt far.ready in
    rw (err-is c.from_residual.result _ c.from_residual.ensures.1) (far-unread plan t entries mid new held (g.K.Sink.written c.args.out.now) (g.K.Sink.written c.rows.out) far (present_of new) c.in_err-advance.field-0.0 steps)

pub returns-in_err-advance-clause-bad : goal.returns-in_err-advance-clause-bad
returns-in_err-advance-clause-bad g c =
    let inv = c.rows.invariant in
    let e = c.in_err-advance.field-0.0 in
    let same : table_of c.rows.cursor ≡ c.args.table.now = ap (λ (t : Bor (Table 64 64)). t.now) inv.keeps.table ∙ c.requires.same in
    let bad = subst (λ (k : Contents). IfBad (MayBeBad (table_of c.rows.cursor) k) c.in_err-advance.field-0.0) inv.counts.contents c.in_err-advance.ensures.bad_page in
    rw (err-is c.from_residual.result _ c.from_residual.ensures.1) (bad-read e (MayBeBad (table_of c.rows.cursor) (contents_of (g.F.Flash.state c.args.flash.now))) (IsBadIn c.args.table.now (contents_of (g.F.Flash.state c.args.flash.now)))
    (λ b h. inl (subst (λ (t : Table 64 64). MayBeBad t (contents_of (g.F.Flash.state c.args.flash.now)) b) same h)) bad)

pub returns-in_err-write_row-clause-bad : goal.returns-in_err-write_row-clause-bad
returns-in_err-write_row-clause-bad g c =
    rw (err-is c.from_residual-in_err-write_row.result _ c.from_residual-in_err-write_row.ensures.1) (bad-more c.in_err-write_row.field-0.0 _ (IsBadIn c.args.table.now (contents_of (g.F.Flash.state c.args.flash.now))) (λ b h. inr h) c.in_err-write_row.ensures.bad)

pub write_row-requires-clause-lies : goal.write_row-requires-clause-lies
write_row-requires-clause-lies g c = lies-read (g.F.Flash.state c.args.flash.now) (g.F.Flash.state c.advance.new.flash) (OnlyReads-then _ _ _ c.rows.invariant.counts c.advance.ensures.reads_only) c.args.table.now c.requires.lies

pub write_row-requires-clause-room : goal.write_row-requires-clause-room
write_row-requires-clause-room g c = c.rows.invariant.space ∙ (c.requires.room ∙ sym (page-read (g.F.Flash.state c.args.flash.now) (g.F.Flash.state c.advance.new.flash) (OnlyReads-then _ _ _ c.rows.invariant.counts c.advance.ensures.reads_only)))

pub returns-in_err-write_row-clause-counts : goal.returns-in_err-write_row-clause-counts
returns-in_err-write_row-clause-counts g c = OnlyReads-then _ _ _ (OnlyReads-then _ _ _ c.rows.invariant.counts c.advance.ensures.reads_only) c.write_row.ensures.counts

pub returns-in_err-write_row-clause-unread : goal.returns-in_err-write_row-clause-unread
returns-in_err-write_row-clause-unread g c =
    rw (err-is c.from_residual-in_err-write_row.result _ c.from_residual-in_err-write_row.ensures.1) (unread-later (g.F.Flash.state c.args.flash.now) (g.F.Flash.state c.advance.new.flash) (g.F.Flash.state c.write_row.new.flash) c.in_err-write_row.field-0.0 (OnlyReads-then _ _ _ c.rows.invariant.counts c.advance.ensures.reads_only) c.in_err-write_row.ensures.unread)

pub returns-in_err-write_row-clause-writes : goal.returns-in_err-write_row-clause-writes
returns-in_err-write_row-clause-writes g c = λ first plan t entries tells stands told left among.
    let inv = c.rows.invariant in
    let held = contents_of (g.F.Flash.state c.args.flash.now) in
    let mid = c.rows.cursor in
    let new = c.advance.new.self in
    let only = OnlyReads-then (g.F.Flash.state c.args.flash.now) (g.F.Flash.state c.rows.flash) (g.F.Flash.state c.advance.new.flash) inv.counts c.advance.ensures.reads_only in
    let goes = subst (λ (k : Contents). Goes true k (g.F.Flash.state c.rows.flash).work.reads c.rows.cursor (g.F.Flash.state c.advance.new.flash).work.reads c.advance.new.self) inv.counts.contents (rw c.if-branch.true at c.in_ok-advance.ensures.goes) in
    let far = inv.far first plan t entries tells stands told left among in
    rw (err-is c.from_residual-in_err-write_row.result _ c.from_residual-in_err-write_row.ensures.1) (far-stopped plan t entries mid new held (g.K.Sink.written c.args.out.now) (g.K.Sink.written c.rows.out) far (row_of c.row.result) (present_of c.advance.new.self) (g.K.Sink.written c.write_row.new.out) c.in_err-write_row.field-0.0
    c.row.ensures.row (goes.gives far.ready)
    (λ place entry here is. c.in_err-write_row.ensures.writes first plan t place entry (tells-read _ _ only tells) (stands-read _ _ only c.args.table.now first plan t stands) here is))

pub rows-preserved : goal.rows-preserved
rows-preserved g c =
    let inv = c.rows.invariant in
    let held = contents_of (g.F.Flash.state c.args.flash.now) in
    let mid = c.rows.cursor in
    let new = c.advance.new.self in
    let only = OnlyReads-then (g.F.Flash.state c.args.flash.now) (g.F.Flash.state c.rows.flash) (g.F.Flash.state c.advance.new.flash) inv.counts c.advance.ensures.reads_only in
    let goes = subst (λ (k : Contents). Goes true k (g.F.Flash.state c.rows.flash).work.reads c.rows.cursor (g.F.Flash.state c.advance.new.flash).work.reads c.advance.new.self) inv.counts.contents (rw c.if-branch.true at c.in_ok-advance.ensures.goes) in
    record {
      counts = OnlyReads-then _ _ _ only c.write_row.ensures.counts;
      keeps = keeps-then c.args.cursor.now mid new inv.keeps goes.keeps;
      ready = goes.ready held inv.ready;
      space = c.write_row.ensures.room ∙ inv.space;
      later = omega (arith, inv.later, c.write_row.ensures.later);
      far = λ first plan t entries tells stands told left among.
          let far = inv.far first plan t entries tells stands told left among in
          far-next plan t entries mid new held (g.K.Sink.written c.args.out.now) (g.K.Sink.written c.rows.out) far (row_of c.row.result) (present_of c.advance.new.self) (g.K.Sink.written c.write_row.new.out)
          c.row.ensures.row (goes.gives far.ready) (goes.told far.ready)
          (λ place entry here is. c.in_ok-write_row.ensures.writes first plan t place entry (tells-read _ _ only tells) (stands-read _ _ only c.args.table.now first plan t stands) here is);
    }

pub rows-smaller : goal.rows-smaller
rows-smaller g c =
    let goes = rw c.if-branch.true at c.in_ok-advance.ensures.goes in
    row-smaller c.rows.cursor c.advance.new.self goes.notes

pub returns-clause-counts : goal.returns-clause-counts
returns-clause-counts g c = OnlyReads-then _ _ _ c.rows.invariant.counts c.advance.ensures.reads_only

pub returns-clause-keeps : goal.returns-clause-keeps
returns-clause-keeps g c =
    let goes = rw c.if-branch.false at c.in_ok-advance.ensures.goes in
    keeps-then c.args.cursor.now c.rows.cursor c.advance.new.self c.rows.invariant.keeps goes.keeps

pub returns-clause-writes : goal.returns-clause-writes
returns-clause-writes g c = λ first plan t entries tells stands told left among.
    let inv = c.rows.invariant in
    let held = contents_of (g.F.Flash.state c.args.flash.now) in
    let mid = c.rows.cursor in
    let new = c.advance.new.self in
    let goes = subst (λ (k : Contents). Goes false k (g.F.Flash.state c.rows.flash).work.reads c.rows.cursor (g.F.Flash.state c.advance.new.flash).work.reads c.advance.new.self) inv.counts.contents (rw c.if-branch.false at c.in_ok-advance.ensures.goes) in
    let end : has_ended c.advance.new.self ≡ true = rw c.if-branch.false at c.in_ok-advance.ensures.end in
    let far = inv.far first plan t entries tells stands told left among in
    let steps = steps-after mid new held ((g.F.Flash.state c.rows.flash).work.reads) ((g.F.Flash.state c.advance.new.flash).work.reads) (Ok false) goes tt tt end far.ready in
    far-all plan t entries mid new held (g.K.Sink.written c.args.out.now) (g.K.Sink.written c.rows.out) far steps.0

use Rattle.std.proofs.Common.{rules, ◌∙◌, List, ℕ, ◌≤◌, Result, Ok, Err, length, map, refl, sym, ap, subst, le_trans}
use Rattle.fl_base.specs.Causes.{HasCause}
use Rattle.fl_base.proofs.Risen.{rose-back}
use Rattle.fl_cursor.specs.Asked.{asked_by}
use Rattle.fl_frame.specs.Contents.{contents_of}
use Rattle.fl_model.specs.Query as query
use Rattle.fl_script.specs.Written.{Written}
use Rattle.fl_cursor.specs.Cursor.{mark_of, table_of, left_of, IsTold, MayBeBad}
use Rattle.fl_table.specs.declared.table.Table.{Table}
use Rattle.fl_queries.specs.Lines.{AreMade}
use Rattle.fl_queries.specs.ListSays.{EndsNext, GivesLines, PassesNoBad}
use Rattle.fl_queries.specs.Nexts.{ending_of}
use Rattle.fl_queries.specs.Rows.{row_reply}
use Rattle.fl_queries.specs.RowsGiven.{MovesOver}
use Rattle.fl_queries.proofs.AnyLines.{given-as, list-ends, list-fails}
use Rattle.fl_queries.proofs.NextRows.{nexts-given, nexts-fault, reads-within}
use Rattle.fl_queries.proofs.RowLines.{lines-stored}
use Rattle.fl_queries.proofs.RowsInTurn.{moves-by}
use Rattle.fl_queries.proofs.Resumed.{is-standing, left-there, nexts-by}
use Rattle.fl_flash.specs.Buffer.{BufferState}
use Rattle.fl_table.specs.Look.{layout_in}
use Rattle.fl_table.proofs.PlannedLayout.{blobs-as}
use Rattle.fl_queries.proofs.cursors.next_rows.Goals as goal

-- the cause of an error is one from an earlier count on
cause-earlier : {E : Type 0} (before mid now : ℕ) (result : Result (Unit {0}) E) → before ≤ mid → HasCause mid now result → HasCause before now result
cause-earlier before mid now (Ok done) le h = record { later = le_trans le h.later; failed = tt }
cause-earlier before mid now (Err e) le h = record { later = le_trans le h.later; failed = rose-back before mid now le h.failed }

pub returns-in-Ok-clause-nexts : goal.returns-in-Ok-clause-nexts
returns-in-Ok-clause-nexts g c = λ first plan t tells on stands.
    let reaches = g.met.F.Flash.reaches c.args.flash.now in
    let told = c.resume-cursor.ensures.told (contents_of (g.F.Flash.state c.args.flash.now)) (is-standing c.args.table.now (g.F.Flash.state c.args.flash.now) first plan t tells reaches c.requires.lies stands) in
    let limit = c.resume-cursor.ensures.limit (g.F.Flash.state c.args.flash.now) first plan t tells reaches c.requires.lies stands in
    let within = reads-within plan t c.resume-cursor.result (contents_of (g.F.Flash.state c.args.flash.now)) _ _ c.resume-cursor.ensures.mark limit (c.list_lines-given.ensures.reads told).within in
    let lines = ap (map (row_reply c.form_of-form.result.blobs)) (left-there c.args.table.now (g.F.Flash.state c.args.flash.now) first plan t tells reaches c.requires.lies stands c.resume-cursor.result c.resume-cursor.ensures.table)
    ∙ lines-stored plan c.form_of-form.result.blobs (query.left_of (asked_by (mark_of c.resume-cursor.result)) t.entries) (c.form_of-form.ensures.blobs ∙ blobs-as c.args.table.now first plan stands.planned) in
    nexts-by c.resume-cursor.ensures.mark (sym c.park.ensures.mark)
    (nexts-given plan c.form_of-form.result.blobs t c.args.count (mark_of c.resume-cursor.result) (mark_of c.list_lines-given.new.lines) (IsTold c.resume-cursor.result (contents_of (g.F.Flash.state c.args.flash.now))) (MayBeBad (table_of c.resume-cursor.result) (contents_of (g.F.Flash.state c.args.flash.now))) (map (row_reply c.form_of-form.result.blobs) (left_of c.resume-cursor.result (contents_of (g.F.Flash.state c.args.flash.now)))) _ (g.K.Sink.written c.list_lines-given.new.out) _ (g.F.Flash.state c.args.flash.now) (g.F.Flash.state c.list_lines-given.new.flash) _ told lines within
    c.in-Ok.given c.in-Ok.ensures.lines (c.in-Ok.ensures.whole told) (subst (λ (l : List ℕ). Written (g.K.Sink.written c.list_lines-given.new.out) (g.K.Sink.written c.write_reply.new.out) c.write_reply.result l) c.ending.ensures c.write_reply.ensures.text))

pub returns-in-Ok-clause-lines : goal.returns-in-Ok-clause-lines
returns-in-Ok-clause-lines g c =
    moves-by (EndsNext c.args.count c.args.mark.now c.args.table.now (g.F.Flash.state c.args.flash.now) (g.F.Flash.state c.list_lines-given.new.flash)) _ _ _ _ _ _ _ _ c.form_of-form.ensures.blobs c.resume-cursor.ensures.mark _ (sym c.park.ensures.mark)
    (list-ends (MovesOver c.form_of-form.result.blobs (mark_of c.resume-cursor.result) (mark_of c.list_lines-given.new.lines)) (ending_of c.args.count) c.args.count (PassesNoBad c.args.mark.now c.args.table.now (g.F.Flash.state c.args.flash.now)) (MayBeBad c.args.table.now (contents_of (g.F.Flash.state c.args.flash.now))) (g.F.Flash.state c.args.flash.now) (g.F.Flash.state c.list_lines-given.new.flash) _ _ _ _ c.in-Ok.given
    (λ less. c.resume-cursor.ensures.sound (contents_of (g.F.Flash.state c.args.flash.now)) (c.in-Ok.ensures.sound less))
    (subst (λ (t : Table 64 64). GivesLines (MovesOver c.form_of-form.result.blobs (mark_of c.resume-cursor.result) (mark_of c.list_lines-given.new.lines)) (MayBeBad t (contents_of (g.F.Flash.state c.args.flash.now))) c.args.count (g.K.Sink.written c.args.out.now) (g.K.Sink.written c.list_lines-given.new.out) (Ok c.in-Ok.given)) c.resume-cursor.ensures.table
    (given-as (AreMade (MovesOver c.form_of-form.result.blobs (mark_of c.resume-cursor.result) (mark_of c.list_lines-given.new.lines)) (IsTold c.resume-cursor.result (contents_of (g.F.Flash.state c.args.flash.now))) (map (row_reply c.form_of-form.result.blobs) (left_of c.resume-cursor.result (contents_of (g.F.Flash.state c.args.flash.now))))) (MovesOver c.form_of-form.result.blobs (mark_of c.resume-cursor.result) (mark_of c.list_lines-given.new.lines)) (MayBeBad (table_of c.resume-cursor.result) (contents_of (g.F.Flash.state c.args.flash.now))) _ _ _ (Ok c.in-Ok.given) (λ lines h. h.made) c.in-Ok.ensures.lines))
    (subst (λ (l : List ℕ). Written (g.K.Sink.written c.list_lines-given.new.out) (g.K.Sink.written c.write_reply.new.out) c.write_reply.result l) c.ending.ensures c.write_reply.ensures.text))

pub returns-in-Err-clause-lines : goal.returns-in-Err-clause-lines
returns-in-Err-clause-lines g c =
    moves-by (EndsNext c.args.count c.args.mark.now c.args.table.now (g.F.Flash.state c.args.flash.now) (g.F.Flash.state c.list_lines-given.new.flash)) _ _ _ _ _ _ _ _ c.form_of-form.ensures.blobs c.resume-cursor.ensures.mark _ (sym c.park.ensures.mark)
    (list-fails (MovesOver c.form_of-form.result.blobs (mark_of c.resume-cursor.result) (mark_of c.list_lines-given.new.lines)) (ending_of c.args.count) c.args.count (PassesNoBad c.args.mark.now c.args.table.now (g.F.Flash.state c.args.flash.now)) (MayBeBad c.args.table.now (contents_of (g.F.Flash.state c.args.flash.now))) (g.F.Flash.state c.args.flash.now) (g.F.Flash.state c.list_lines-given.new.flash) _ _ _ _ c.in-Err.fault
    (subst (λ (t : Table 64 64). GivesLines (MovesOver c.form_of-form.result.blobs (mark_of c.resume-cursor.result) (mark_of c.list_lines-given.new.lines)) (MayBeBad t (contents_of (g.F.Flash.state c.args.flash.now))) c.args.count (g.K.Sink.written c.args.out.now) (g.K.Sink.written c.list_lines-given.new.out) (Err c.in-Err.fault)) c.resume-cursor.ensures.table
    (given-as (AreMade (MovesOver c.form_of-form.result.blobs (mark_of c.resume-cursor.result) (mark_of c.list_lines-given.new.lines)) (IsTold c.resume-cursor.result (contents_of (g.F.Flash.state c.args.flash.now))) (map (row_reply c.form_of-form.result.blobs) (left_of c.resume-cursor.result (contents_of (g.F.Flash.state c.args.flash.now))))) (MovesOver c.form_of-form.result.blobs (mark_of c.resume-cursor.result) (mark_of c.list_lines-given.new.lines)) (MayBeBad (table_of c.resume-cursor.result) (contents_of (g.F.Flash.state c.args.flash.now))) _ _ _ (Err c.in-Err.fault) (λ lines h. h.made) c.in-Err.ensures.lines))
    c.in-Err.ensures.unread c.write_fault.ensures.says)

pub returns-in-Err-clause-nexts : goal.returns-in-Err-clause-nexts
returns-in-Err-clause-nexts g c = λ first plan t tells on stands.
    let reaches = g.met.F.Flash.reaches c.args.flash.now in
    let told = c.resume-cursor.ensures.told (contents_of (g.F.Flash.state c.args.flash.now)) (is-standing c.args.table.now (g.F.Flash.state c.args.flash.now) first plan t tells reaches c.requires.lies stands) in
    let limit = c.resume-cursor.ensures.limit (g.F.Flash.state c.args.flash.now) first plan t tells reaches c.requires.lies stands in
    let within = reads-within plan t c.resume-cursor.result (contents_of (g.F.Flash.state c.args.flash.now)) _ _ c.resume-cursor.ensures.mark limit (c.list_lines-given.ensures.reads told).within in
    let lines = ap (map (row_reply c.form_of-form.result.blobs)) (left-there c.args.table.now (g.F.Flash.state c.args.flash.now) first plan t tells reaches c.requires.lies stands c.resume-cursor.result c.resume-cursor.ensures.table)
    ∙ lines-stored plan c.form_of-form.result.blobs (query.left_of (asked_by (mark_of c.resume-cursor.result)) t.entries) (c.form_of-form.ensures.blobs ∙ blobs-as c.args.table.now first plan stands.planned) in
    nexts-by c.resume-cursor.ensures.mark (sym c.park.ensures.mark)
    (nexts-fault plan c.form_of-form.result.blobs t c.args.count (mark_of c.resume-cursor.result) (mark_of c.list_lines-given.new.lines) (IsTold c.resume-cursor.result (contents_of (g.F.Flash.state c.args.flash.now))) (MayBeBad (table_of c.resume-cursor.result) (contents_of (g.F.Flash.state c.args.flash.now))) (map (row_reply c.form_of-form.result.blobs) (left_of c.resume-cursor.result (contents_of (g.F.Flash.state c.args.flash.now)))) _ (g.K.Sink.written c.list_lines-given.new.out) _ (g.F.Flash.state c.args.flash.now) (g.F.Flash.state c.list_lines-given.new.flash) _ told lines within
    c.in-Err.fault c.in-Err.ensures.lines (c.in-Err.ensures.good told) on c.in-Err.ensures.unread c.write_fault.ensures.says)

pub resume-cursor-requires : goal.resume-cursor-requires
resume-cursor-requires g c = (search rules, (search rules, c.requires.running))

pub list_lines-given-requires : goal.list_lines-given-requires
list_lines-given-requires g c = record {
  ready = c.resume-cursor.ensures.ready (g.F.Flash.state c.args.flash.now) c.requires.lies c.requires.room.0 c.requires.room.1;
  fits = (c.form_of-form.ensures.columns ∙ ap (λ (t : Table 64 64). length (layout_in t).columns) (sym c.resume-cursor.ensures.table), c.form_of-form.ensures.few);
}

pub returns-in-Ok-clause-counts : goal.returns-in-Ok-clause-counts
returns-in-Ok-clause-counts g c = c.list_lines-given.ensures.reads_only

pub returns-in-Ok-clause-rows : goal.returns-in-Ok-clause-rows
returns-in-Ok-clause-rows g c = ap (λ (b : BufferState). length b.bytes) c.park.ensures.rows_buf ∙ ((c.list_lines-given.ensures.stays_ready (contents_of (g.F.Flash.state c.args.flash.now)) (c.resume-cursor.ensures.ready (g.F.Flash.state c.args.flash.now) c.requires.lies c.requires.room.0 c.requires.room.1)).rows_room ∙ sym (c.resume-cursor.ensures.ready (g.F.Flash.state c.args.flash.now) c.requires.lies c.requires.room.0 c.requires.room.1).rows_room ∙ ap (λ (b : BufferState). length b.bytes) c.resume-cursor.ensures.rows_page)

pub returns-in-Ok-clause-index : goal.returns-in-Ok-clause-index
returns-in-Ok-clause-index g c = ap (λ (b : BufferState). length b.bytes) c.park.ensures.index_buf ∙ ((c.list_lines-given.ensures.stays_ready (contents_of (g.F.Flash.state c.args.flash.now)) (c.resume-cursor.ensures.ready (g.F.Flash.state c.args.flash.now) c.requires.lies c.requires.room.0 c.requires.room.1)).index_room ∙ sym (c.resume-cursor.ensures.ready (g.F.Flash.state c.args.flash.now) c.requires.lies c.requires.room.0 c.requires.room.1).index_room ∙ ap (λ (b : BufferState). length b.bytes) c.resume-cursor.ensures.index_forget)

pub returns-in-Ok-clause-right : goal.returns-in-Ok-clause-right
returns-in-Ok-clause-right g c = (refl, refl)

pub returns-in-Err-clause-counts : goal.returns-in-Err-clause-counts
returns-in-Err-clause-counts g c = c.list_lines-given.ensures.reads_only

pub returns-in-Err-clause-rows : goal.returns-in-Err-clause-rows
returns-in-Err-clause-rows g c = ap (λ (b : BufferState). length b.bytes) c.park.ensures.rows_buf ∙ ((c.list_lines-given.ensures.stays_ready (contents_of (g.F.Flash.state c.args.flash.now)) (c.resume-cursor.ensures.ready (g.F.Flash.state c.args.flash.now) c.requires.lies c.requires.room.0 c.requires.room.1)).rows_room ∙ sym (c.resume-cursor.ensures.ready (g.F.Flash.state c.args.flash.now) c.requires.lies c.requires.room.0 c.requires.room.1).rows_room ∙ ap (λ (b : BufferState). length b.bytes) c.resume-cursor.ensures.rows_page)

pub returns-in-Err-clause-index : goal.returns-in-Err-clause-index
returns-in-Err-clause-index g c = ap (λ (b : BufferState). length b.bytes) c.park.ensures.index_buf ∙ ((c.list_lines-given.ensures.stays_ready (contents_of (g.F.Flash.state c.args.flash.now)) (c.resume-cursor.ensures.ready (g.F.Flash.state c.args.flash.now) c.requires.lies c.requires.room.0 c.requires.room.1)).index_room ∙ sym (c.resume-cursor.ensures.ready (g.F.Flash.state c.args.flash.now) c.requires.lies c.requires.room.0 c.requires.room.1).index_room ∙ ap (λ (b : BufferState). length b.bytes) c.resume-cursor.ensures.index_forget)

pub returns-in-Err-clause-right : goal.returns-in-Err-clause-right
returns-in-Err-clause-right g c = (refl, refl)

pub returns-in-Ok-clause-cause : goal.returns-in-Ok-clause-cause
returns-in-Ok-clause-cause g c = cause-earlier _ _ _ c.write_reply.result c.list_lines-given.ensures.cause.later c.write_reply.ensures.cause

pub returns-in-Err-clause-cause : goal.returns-in-Err-clause-cause
returns-in-Err-clause-cause g c = c.write_fault.ensures.cause (g.K.Sink.faults c.args.out.now) c.list_lines-given.ensures.cause.later c.in-Err.ensures.cause.failed

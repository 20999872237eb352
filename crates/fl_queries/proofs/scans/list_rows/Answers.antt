use Rattle.std.proofs.Common.{rules, ◌≡◌, ◌-◌, ◌^◌, ◌<◌, length, map, refl, sym, ◌∙◌, ap, subst, arith}
use Rattle.std.proofs.lemmas.List.{length-map}
use Rattle.std.proofs.lemmas.Result.{IfOk-weaker}
use Rattle.fl_cursor.specs.Asked.{asked_by}
use Rattle.fl_cursor.specs.Cursor.{mark_of, table_of, left_of, IsReady, IsTold, MayBeBad}
use Rattle.fl_cursor.specs.Reads.{most_of, least_of}
use Rattle.fl_cursor.specs.Sound.{IsSoundAhead, IsSoundOver}
use Rattle.fl_cursor.specs.declared.bookmark.Bookmark.{Bookmark}
use Rattle.fl_frame.specs.Contents.{contents_of}
use Rattle.fl_machine.specs.Step.{rows_of}
use Rattle.fl_model.specs.Query.{selected}
use Rattle.fl_table.specs.declared.table.Table.{Table}
use Rattle.fl_queries.specs.Lines.{AreMade}
use Rattle.fl_queries.specs.ListSays.{mark_on, EndsScan, GivesLines, PassesNoBad}
use Rattle.fl_queries.specs.Rows.{row_reply}
use Rattle.fl_queries.specs.RowsGiven.{MovesOver}
use Rattle.fl_queries.proofs.AnyLines.{given-as, list-ended}
use Rattle.fl_queries.proofs.CountedLines.{counted-listed}
use Rattle.fl_queries.proofs.OperatorLines.{first-same, second-same}
use Rattle.fl_queries.proofs.Ranged.{counted-ranged, ranged}
use Rattle.fl_queries.proofs.RowLines.{lines-stored}
use Rattle.fl_queries.proofs.RowsInTurn.{rows-by}
use Rattle.fl_table.specs.Look.{layout_in}
use Rattle.fl_table.proofs.PlannedLayout.{blobs-as}
use Rattle.fl_queries.proofs.scans.list_rows.Goals as goal

pub returns-clause-cause : goal.returns-clause-cause
returns-clause-cause g c = c.end_list.ensures.cause _ (record { later = c.list_lines-listed.ensures.cause.later; failed = c.list_lines-listed.ensures.cause.failed })

pub returns-clause-lines : goal.returns-clause-lines
returns-clause-lines g c =
    rows-by (EndsScan (mark_on c.args.table.now c.args.range c.args.span) c.args.table.now (g.F.Flash.state c.args.flash.now) (g.F.Flash.state c.list_lines-listed.new.flash)) _ _ _ _ _ _ _ (mark_of c.list_lines-listed.new.lines) c.form_of-form.ensures.blobs c.begin-cursor.ensures.mark
    (list-ended (MovesOver c.form_of-form.result.blobs (mark_of c.begin-cursor.result) (mark_of c.list_lines-listed.new.lines)) (PassesNoBad (mark_on c.args.table.now c.args.range c.args.span) c.args.table.now (g.F.Flash.state c.args.flash.now)) (MayBeBad c.args.table.now (contents_of (g.F.Flash.state c.args.flash.now))) (g.F.Flash.state c.args.flash.now) (g.F.Flash.state c.list_lines-listed.new.flash) _ _ _ _ c.list_lines-listed.result
    (IfOk-weaker c.list_lines-listed.result (λ given. given < 2 ^ 64 - 1 → IsSoundAhead c.begin-cursor.result (contents_of (g.F.Flash.state c.args.flash.now))) (λ given. given < 2 ^ 64 - 1 → PassesNoBad (mark_on c.args.table.now c.args.range c.args.span) c.args.table.now (g.F.Flash.state c.args.flash.now)) (λ given sound less. subst (λ (m : Bookmark). IsSoundOver c.args.table.now (contents_of (g.F.Flash.state c.args.flash.now)) (asked_by m)) c.begin-cursor.ensures.mark (c.begin-cursor.ensures.sound (contents_of (g.F.Flash.state c.args.flash.now)) (sound less))) c.list_lines-listed.ensures.sound)
    (subst (λ (t : Table 64 64). GivesLines (MovesOver c.form_of-form.result.blobs (mark_of c.begin-cursor.result) (mark_of c.list_lines-listed.new.lines)) (MayBeBad t (contents_of (g.F.Flash.state c.args.flash.now))) (2 ^ 64 - 1) (g.K.Sink.written c.args.out.now) (g.K.Sink.written c.list_lines-listed.new.out) c.list_lines-listed.result) c.begin-cursor.ensures.table
    (given-as (AreMade (MovesOver c.form_of-form.result.blobs (mark_of c.begin-cursor.result) (mark_of c.list_lines-listed.new.lines)) (IsTold c.begin-cursor.result (contents_of (g.F.Flash.state c.args.flash.now))) (map (row_reply c.form_of-form.result.blobs) (left_of c.begin-cursor.result (contents_of (g.F.Flash.state c.args.flash.now))))) (MovesOver c.form_of-form.result.blobs (mark_of c.begin-cursor.result) (mark_of c.list_lines-listed.new.lines)) (MayBeBad (table_of c.begin-cursor.result) (contents_of (g.F.Flash.state c.args.flash.now))) _ _ _ c.list_lines-listed.result (λ lines h. h.made) c.list_lines-listed.ensures.lines))
    c.list_lines-listed.ensures.unread c.end_list.ensures.says)

pub returns-clause-scans : goal.returns-clause-scans
returns-clause-scans g c = λ first plan t tells on stands.
    let over = ranged c.begin-cursor.result c.begin-cursor.result c.args.table.now (g.F.Flash.state c.args.flash.now) first plan t c.args.range c.args.span refl tells (g.met.F.Flash.reaches c.args.flash.now) c.requires.lies stands c.begin-cursor.ensures.told c.begin-cursor.ensures.left c.begin-cursor.ensures.limit c.begin-cursor.ensures.least in
    let lines : map (row_reply c.form_of-form.result.blobs) (left_of c.begin-cursor.result (contents_of (g.F.Flash.state c.args.flash.now))) ≡ rows_of plan (selected c.args.range c.args.span t.entries) =
    ap (map (row_reply c.form_of-form.result.blobs)) over.left ∙ lines-stored plan c.form_of-form.result.blobs (selected c.args.range c.args.span t.entries) (c.form_of-form.ensures.blobs ∙ blobs-as c.args.table.now first plan stands.planned) in
    let few : length (map (row_reply c.form_of-form.result.blobs) (left_of c.begin-cursor.result (contents_of (g.F.Flash.state c.args.flash.now)))) < 2 ^ 64 - 1 =
    omega (arith, length-map (left_of c.begin-cursor.result (contents_of (g.F.Flash.state c.args.flash.now))) (row_reply c.form_of-form.result.blobs), over.few) in
    counted-ranged over _ _ lines
    (counted-listed (MovesOver c.form_of-form.result.blobs (mark_of c.begin-cursor.result) (mark_of c.list_lines-listed.new.lines)) (IsTold c.begin-cursor.result (contents_of (g.F.Flash.state c.args.flash.now))) (MayBeBad (table_of c.begin-cursor.result) (contents_of (g.F.Flash.state c.args.flash.now))) (map (row_reply c.form_of-form.result.blobs) (left_of c.begin-cursor.result (contents_of (g.F.Flash.state c.args.flash.now)))) (most_of c.begin-cursor.result (contents_of (g.F.Flash.state c.args.flash.now))) (least_of c.begin-cursor.result (contents_of (g.F.Flash.state c.args.flash.now))) _ (g.K.Sink.written c.list_lines-listed.new.out) _ (g.F.Flash.state c.args.flash.now) (g.F.Flash.state c.list_lines-listed.new.flash) _ over.told on few
    c.list_lines-listed.result c.list_lines-listed.ensures.lines (c.list_lines-listed.ensures.whole over.told) (c.list_lines-listed.ensures.good over.told) (c.list_lines-listed.ensures.reads over.told) c.list_lines-listed.ensures.unread c.end_list.ensures.says)

pub begin-cursor-requires : goal.begin-cursor-requires
begin-cursor-requires g c = (search rules, (search rules, c.requires.running))

pub list_lines-listed-requires : goal.list_lines-listed-requires
list_lines-listed-requires g c = record {
  ready = c.begin-cursor.ensures.ready (g.F.Flash.state c.args.flash.now) c.requires.lies c.requires.room.0 c.requires.room.1;
  fits = (c.form_of-form.ensures.columns ∙ ap (λ (t : Table 64 64). length (layout_in t).columns) (sym c.begin-cursor.ensures.table), c.form_of-form.ensures.few);
}

pub returns-clause-counts : goal.returns-clause-counts
returns-clause-counts g c = c.list_lines-listed.ensures.reads_only

pub returns-clause-right : goal.returns-clause-right
returns-clause-right g c = (refl, refl)

pub returns-clause-rows : goal.returns-clause-rows
returns-clause-rows g c =
    let rows_same = first-same c.list_lines-listed.ensures.names in
    let index_same = second-same c.list_lines-listed.ensures.names in
    let ready : IsReady c.list_lines-listed.new.lines (contents_of (g.F.Flash.state c.args.flash.now)) = c.list_lines-listed.ensures.stays_ready (contents_of (g.F.Flash.state c.args.flash.now)) (c.begin-cursor.ensures.ready (g.F.Flash.state c.args.flash.now) c.requires.lies c.requires.room.0 c.requires.room.1) in
    let began : IsReady c.begin-cursor.result (contents_of (g.F.Flash.state c.args.flash.now)) = (c.begin-cursor.ensures.ready (g.F.Flash.state c.args.flash.now) c.requires.lies c.requires.room.0 c.requires.room.1) in
    search rules

pub returns-clause-index : goal.returns-clause-index
returns-clause-index g c =
    let rows_same = first-same c.list_lines-listed.ensures.names in
    let index_same = second-same c.list_lines-listed.ensures.names in
    let ready : IsReady c.list_lines-listed.new.lines (contents_of (g.F.Flash.state c.args.flash.now)) = c.list_lines-listed.ensures.stays_ready (contents_of (g.F.Flash.state c.args.flash.now)) (c.begin-cursor.ensures.ready (g.F.Flash.state c.args.flash.now) c.requires.lies c.requires.room.0 c.requires.room.1) in
    let began : IsReady c.begin-cursor.result (contents_of (g.F.Flash.state c.args.flash.now)) = (c.begin-cursor.ensures.ready (g.F.Flash.state c.args.flash.now) c.requires.lies c.requires.room.0 c.requires.room.1) in
    search rules

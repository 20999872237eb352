use Rattle.std.proofs.Common.{rules, ◌≡◌, ℕ, ℤ, ◌-◌, ◌^◌, ◌<◌, ◌≤◌, Option, None, List, [], ◌∷◌, length, map, filter, slice_index, sym, ◌∙◌, ap, subst, arith, FitsSigned}
use Rattle.std.proofs.lemmas.Int.{to_z-of_z}
use Rattle.std.specs.Int.{w64}
use Rattle.std.proofs.lemmas.List.{length-map}
use Rattle.std.specs.List.{AllByRecursion}
use Rattle.fl_cursor.specs.Asked.{above_of, above_range, asked_by}
use Rattle.fl_cursor.specs.Cursor.{table_of, asked_of, present_of, left_of, IsReady}
use Rattle.fl_cursor.specs.declared.bookmark.Bookmark.{Bookmark}
use Rattle.fl_cursor.specs.declared.cursor.Cursor.{Cursor}
use Rattle.fl_frame.specs.Contents.{contents_of}
use Rattle.fl_machine.specs.Step.{group_reply}
use Rattle.fl_model.specs.Operators.{Group, aggregate, column_of, project}
use Rattle.fl_model.specs.Query.{selected}
use Rattle.fl_model.specs.Record.{Record}
use Rattle.fl_model.specs.Row.{Row}
use Rattle.fl_model.proofs.Lists.{length-filter-le}
use Rattle.fl_ops.specs.Columns.{Comparison, HasColumn, record_of, records_of, row_passes}
use Rattle.fl_ops.specs.Groups.{groups_left}
use Rattle.fl_ops.specs.Project.{columns_of}
use Rattle.fl_ops.specs.Select.{comparison_of, input_of}
use Rattle.fl_store.proofs.TablesOnlyRead.{lies-read}
use Rattle.fl_table.specs.Look.{layout_in}
use Rattle.fl_table.specs.declared.table.Table.{Table}
use Rattle.fl_table.proofs.PlannedLayout.{blobs-as}
use Rattle.fl_words.specs.Reply.{Fields}
use Rattle.fl_queries.specs.Asked.{asked_records, lacked_column}
use Rattle.fl_queries.specs.ListSays.{EndsAt, IsFields, IsGroup, ListSays}
use Rattle.fl_queries.specs.Operators.{columns_by, IsFit}
use Rattle.fl_queries.specs.Rising.{AreRising, IsRow}
use Rattle.fl_queries.specs.Rows.{row_reply}
use Rattle.fl_queries.specs.declared.operators.Operator.{Operator}
use Rattle.fl_queries.proofs.AnyLines.{lists-as, lists-range}
use Rattle.fl_queries.proofs.Fields.{lacks-none}
use Rattle.fl_queries.proofs.GroupLines.{grouped-records, groups-fewer}
use Rattle.fl_queries.proofs.OperatorLines.{first-same, projected-fields, second-same, selected-lines}
use Rattle.fl_queries.proofs.Ranged.{counted-ranged, ranged}
use Rattle.fl_queries.proofs.RisingLines.{are-rising}
use Rattle.fl_queries.proofs.operators.operate.Goals as goal

pub begin-cursor-requires : goal.begin-cursor-requires
begin-cursor-requires g c = (search rules, (search rules, c.requires.running))

-- ---- the rows that pass a comparison

pub new-rows-requires : goal.new-rows-requires
new-rows-requires g c =
    let none : lacked_column (layout_in c.args.table.now) (c.in-Select.comparison.column ∷ []) ≡ None = subst (λ (operator : Operator). lacked_column (layout_in c.args.table.now) (columns_by operator) ≡ None) c.in-Select.is c.requires.columns in
    let within : c.in-Select.comparison.column ≤ length (layout_in c.args.table.now).columns = lacks-none (layout_in c.args.table.now) (c.in-Select.comparison.column ∷ []) 0 none (omega arith) in
    let here : HasColumn (layout_in (table_of c.begin-cursor.result)) c.in-Select.comparison.column = subst (λ (t : Table 64 64). HasColumn (layout_in t) c.in-Select.comparison.column) (sym c.begin-cursor.ensures.table) within in
    here

pub answer_lines-requires : goal.answer_lines-requires
answer_lines-requires g c = record {
  ready = subst (λ (k : Cursor 64 64). IsReady k (contents_of (g.F.Flash.state c.args.flash.now))) (sym c.new-rows.ensures.rows) (c.begin-cursor.ensures.ready (g.F.Flash.state c.args.flash.now) c.requires.lies c.requires.room.0 c.requires.room.1);
  fits = (c.form_of-form.ensures.columns ∙ ap (λ (t : Table 64 64). length (layout_in t).columns) (sym (ap table_of c.new-rows.ensures.rows ∙ c.begin-cursor.ensures.table)), c.form_of-form.ensures.few);
}

pub returns-in-Select-clause-counted : goal.returns-in-Select-clause-counted
returns-in-Select-clause-counted g c = λ first plan t tells on stands.
    let over = ranged c.new-rows.result.rows c.begin-cursor.result c.args.table.now (g.F.Flash.state c.args.flash.now) first plan t c.args.range None c.new-rows.ensures.rows tells (g.met.F.Flash.reaches c.args.flash.now) c.requires.lies stands c.begin-cursor.ensures.told c.begin-cursor.ensures.left c.begin-cursor.ensures.limit c.begin-cursor.ensures.least in
    let fits : FitsSigned w64 c.in-Select.comparison.value = search rules in
    let asked : comparison_of c.new-rows.result ≡ record { column = c.in-Select.comparison.column; op = c.in-Select.comparison.op; value = c.in-Select.comparison.value } =
    (c.new-rows.ensures.comparison ∙ ap (λ (v : ℤ). record { column = c.in-Select.comparison.column; op = c.in-Select.comparison.op; value = v }) (to_z-of_z w64 c.in-Select.comparison.value fits)) in
    let lines = ap (λ (k : Comparison). map (row_reply c.form_of-form.result.blobs) (filter (row_passes k) (left_of c.new-rows.result.rows (contents_of (g.F.Flash.state c.args.flash.now))))) asked
    ∙ (ap (λ (xs : List Row). map (row_reply c.form_of-form.result.blobs) (filter (row_passes (record { column = c.in-Select.comparison.column; op = c.in-Select.comparison.op; value = c.in-Select.comparison.value })) xs)) over.left
    ∙ selected-lines plan c.form_of-form.result.blobs (record { column = c.in-Select.comparison.column; op = c.in-Select.comparison.op; value = c.in-Select.comparison.value }) (selected c.args.range None t.entries) (c.form_of-form.ensures.blobs ∙ blobs-as c.args.table.now first plan stands.planned)) in
    let rows = left_of c.new-rows.result.rows (contents_of (g.F.Flash.state c.args.flash.now)) in
    let few : length (map (row_reply c.form_of-form.result.blobs) (filter (row_passes (comparison_of c.new-rows.result)) (left_of c.new-rows.result.rows (contents_of (g.F.Flash.state c.args.flash.now))))) < 2 ^ 64 - 1 =
    omega (arith, over.few, length-filter-le (row_passes (comparison_of c.new-rows.result)) rows, length-map (filter (row_passes (comparison_of c.new-rows.result)) (left_of c.new-rows.result.rows (contents_of (g.F.Flash.state c.args.flash.now)))) (row_reply c.form_of-form.result.blobs)) in
    rw c.in-Select.is (counted-ranged over _ _ lines (c.answer_lines.ensures.counted over.told few on))

pub returns-in-Select-clause-says : goal.returns-in-Select-clause-says
returns-in-Select-clause-says g c =
    let above : above_of (asked_of (input_of c.new-rows.result)) ≡ above_range c.args.range.low None = ap (λ (k : Cursor 64 64). above_of (asked_of k)) c.new-rows.ensures.rows ∙ ap (λ (m : Bookmark). above_of (asked_by m)) c.begin-cursor.ensures.mark in
    rw c.in-Select.is (lists-range c.new-rows.result.rows c.begin-cursor.result c.args.table.now c.args.range (g.F.Flash.state c.args.flash.now) (g.F.Flash.state c.answer_lines.new.flash) c.new-rows.ensures.rows c.begin-cursor.ensures.table c.begin-cursor.ensures.mark c.begin-cursor.ensures.sound (AreRising IsRow (above_range c.args.range.low None)) _ _ _
    (subst (λ (o : Option ℕ). ListSays (AreRising IsRow o) (EndsAt c.new-rows.result.rows (g.F.Flash.state c.args.flash.now) (g.F.Flash.state c.answer_lines.new.flash)) (g.K.Sink.written c.args.out.now) (g.K.Sink.written c.answer_lines.new.out) c.answer_lines.result) above
    (lists-as _ (AreRising IsRow (above_of (asked_of (input_of c.new-rows.result)))) _ _ _ _ c.answer_lines.ensures.says (λ lines h. are-rising IsRow (above_of (asked_of (input_of c.new-rows.result))) _ lines h))))

-- ---- columns of each row

pub places_of-places-requires : goal.places_of-places-requires
places_of-places-requires g c = subst IsFit c.in-Project.is c.requires.fit

pub new-fields-requires : goal.new-fields-requires
new-fields-requires g c = λ i lt.
    let none : lacked_column (layout_in c.args.table.now) c.in-Project.columns.now ≡ None = subst (λ (operator : Operator). lacked_column (layout_in c.args.table.now) (columns_by operator) ≡ None) c.in-Project.is c.requires.columns in
    let same : c.as_slice.result.now ≡ c.in-Project.columns.now = c.as_slice.ensures.value ∙ c.places_of-places.ensures in
    let there : i < length c.in-Project.columns.now = omega (arith, lt, ap (λ (cs : List ℕ). length cs) same) in
    subst (λ (cs : List ℕ). HasColumn (layout_in (table_of c.begin-cursor.result)) (slice_index cs i)) (sym same)
    (subst (λ (t : Table 64 64). HasColumn (layout_in t) (slice_index c.in-Project.columns.now i)) (sym c.begin-cursor.ensures.table) (lacks-none (layout_in c.args.table.now) c.in-Project.columns.now i none there))

pub answer_lines-requires-in-Project : goal.answer_lines-requires-in-Project
answer_lines-requires-in-Project g c =
    let many : length c.places_of-places.result.items ≡ length c.in-Project.columns.now = ap (λ (cs : List ℕ). length cs) c.places_of-places.ensures in
    let few : length c.in-Project.columns.now ≤ 8 = subst IsFit c.in-Project.is c.requires.fit in
    let made = ap (λ (cs : List ℕ). length cs) (c.new-fields.ensures.columns ∙ c.as_slice.ensures.value) in
    record {
      ready = subst (λ (k : Cursor 64 64). IsReady k (contents_of (g.F.Flash.state c.args.flash.now))) (sym c.new-fields.ensures.rows) (c.begin-cursor.ensures.ready (g.F.Flash.state c.args.flash.now) c.requires.lies c.requires.room.0 c.requires.room.1);
      fits = (c.len.ensures.value ∙ sym made, omega (arith, c.len.ensures.value, many, few));
    }

pub returns-in-Project-clause-counted : goal.returns-in-Project-clause-counted
returns-in-Project-clause-counted g c = λ first plan t tells on stands.
    let over = ranged c.new-fields.result.rows c.begin-cursor.result c.args.table.now (g.F.Flash.state c.args.flash.now) first plan t c.args.range None c.new-fields.ensures.rows tells (g.met.F.Flash.reaches c.args.flash.now) c.requires.lies stands c.begin-cursor.ensures.told c.begin-cursor.ensures.left c.begin-cursor.ensures.limit c.begin-cursor.ensures.least in
    let columns : columns_of c.new-fields.result ≡ c.in-Project.columns.now = c.new-fields.ensures.columns ∙ (c.as_slice.ensures.value ∙ c.places_of-places.ensures) in
    let rows : project (columns_of c.new-fields.result) (records_of (left_of c.new-fields.result.rows (contents_of (g.F.Flash.state c.args.flash.now)))) ≡ project c.in-Project.columns.now (asked_records c.args.range t) =
    ap (λ (cs : List ℕ). project cs (records_of (left_of c.new-fields.result.rows (contents_of (g.F.Flash.state c.args.flash.now))))) columns
    ∙ (ap (λ (rows : List Row). project c.in-Project.columns.now (records_of rows)) over.left ∙ projected-fields c.in-Project.columns.now (selected c.args.range None t.entries)) in
    let left = left_of c.new-fields.result.rows (contents_of (g.F.Flash.state c.args.flash.now)) in
    let few : length (map Fields (project (columns_of c.new-fields.result) (records_of (left_of c.new-fields.result.rows (contents_of (g.F.Flash.state c.args.flash.now)))))) < 2 ^ 64 - 1 =
    omega (arith, over.few, length-map (project (columns_of c.new-fields.result) (records_of left)) Fields, length-map (records_of left) (λ (item : Record). map (column_of item) (columns_of c.new-fields.result)), length-map left record_of) in
    rw c.in-Project.is (counted-ranged over _ _ (ap (λ (l : List (List ℤ)). map Fields l) rows) (c.answer_lines-in-Project.ensures.counted over.told few on))

pub returns-in-Project-clause-says : goal.returns-in-Project-clause-says
returns-in-Project-clause-says g c =
    let columns : columns_of c.new-fields.result ≡ c.in-Project.columns.now = c.new-fields.ensures.columns ∙ (c.as_slice.ensures.value ∙ c.places_of-places.ensures) in
    rw c.in-Project.is (lists-range c.new-fields.result.rows c.begin-cursor.result c.args.table.now c.args.range (g.F.Flash.state c.args.flash.now) (g.F.Flash.state c.answer_lines-in-Project.new.flash) c.new-fields.ensures.rows c.begin-cursor.ensures.table c.begin-cursor.ensures.mark c.begin-cursor.ensures.sound (AllByRecursion (IsFields (length c.in-Project.columns.now))) _ _ _
    (subst (λ (cs : List ℕ). ListSays (AllByRecursion (IsFields (length cs))) (EndsAt c.new-fields.result.rows (g.F.Flash.state c.args.flash.now) (g.F.Flash.state c.answer_lines-in-Project.new.flash)) (g.K.Sink.written c.args.out.now) (g.K.Sink.written c.answer_lines-in-Project.new.out) c.answer_lines-in-Project.result) columns
    (lists-as _ (AllByRecursion (IsFields (length (columns_of c.new-fields.result)))) _ _ _ _ c.answer_lines-in-Project.ensures.says (λ lines h. h.1))))

-- ---- groups of rows

pub new-groups-requires : goal.new-groups-requires
new-groups-requires g c =
    let none : lacked_column (layout_in c.args.table.now) (c.in-Aggregate.column ∷ []) ≡ None = subst (λ (operator : Operator). lacked_column (layout_in c.args.table.now) (columns_by operator) ≡ None) c.in-Aggregate.is c.requires.columns in
    let within : c.in-Aggregate.column ≤ length (layout_in c.args.table.now).columns = lacks-none (layout_in c.args.table.now) (c.in-Aggregate.column ∷ []) 0 none (omega arith) in
    let here : HasColumn (layout_in (table_of c.begin-cursor.result)) c.in-Aggregate.column = subst (λ (t : Table 64 64). HasColumn (layout_in t) c.in-Aggregate.column) (sym c.begin-cursor.ensures.table) within in
    record { column = here; width = subst IsFit c.in-Aggregate.is c.requires.fit }

pub answer_lines-requires-in-Aggregate : goal.answer_lines-requires-in-Aggregate
answer_lines-requires-in-Aggregate g c = record { ready = subst (λ (k : Cursor 64 64). IsReady k (contents_of (g.F.Flash.state c.args.flash.now))) (sym c.new-groups.ensures.rows) (c.begin-cursor.ensures.ready (g.F.Flash.state c.args.flash.now) c.requires.lies c.requires.room.0 c.requires.room.1); fits = tt }

pub returns-in-Aggregate-clause-counted : goal.returns-in-Aggregate-clause-counted
returns-in-Aggregate-clause-counted g c = λ first plan t tells on stands.
    let over = ranged c.new-groups.result.rows c.begin-cursor.result c.args.table.now (g.F.Flash.state c.args.flash.now) first plan t c.args.range None c.new-groups.ensures.rows tells (g.met.F.Flash.reaches c.args.flash.now) c.requires.lies stands c.begin-cursor.ensures.told c.begin-cursor.ensures.left c.begin-cursor.ensures.limit c.begin-cursor.ensures.least in
    let rows = left_of c.new-groups.result.rows (contents_of (g.F.Flash.state c.args.flash.now)) in
    let made : groups_left c.new-groups.result (present_of c.new-groups.result.rows) (left_of c.new-groups.result.rows (contents_of (g.F.Flash.state c.args.flash.now))) ≡ aggregate c.in-Aggregate.column c.in-Aggregate.width (records_of (left_of c.new-groups.result.rows (contents_of (g.F.Flash.state c.args.flash.now)))) =
    c.new-groups.ensures.groups (present_of c.new-groups.result.rows) (left_of c.new-groups.result.rows (contents_of (g.F.Flash.state c.args.flash.now))) in
    let groups = made ∙ (ap (λ (l : List Row). aggregate c.in-Aggregate.column c.in-Aggregate.width (records_of l)) over.left ∙ grouped-records c.in-Aggregate.column c.in-Aggregate.width (selected c.args.range None t.entries)) in
    let few : length (groups_left c.new-groups.result (present_of c.new-groups.result.rows) (left_of c.new-groups.result.rows (contents_of (g.F.Flash.state c.args.flash.now)))) < 2 ^ 63 =
    omega (arith, ap (λ (l : List Group). length l) made, groups-fewer c.in-Aggregate.column c.in-Aggregate.width (records_of rows), length-map rows record_of, over.few) in
    let many : length (map group_reply (groups_left c.new-groups.result (present_of c.new-groups.result.rows) (left_of c.new-groups.result.rows (contents_of (g.F.Flash.state c.args.flash.now))))) < 2 ^ 64 - 1 =
    omega (arith, few, length-map (groups_left c.new-groups.result (present_of c.new-groups.result.rows) (left_of c.new-groups.result.rows (contents_of (g.F.Flash.state c.args.flash.now)))) group_reply) in
    rw c.in-Aggregate.is (counted-ranged over _ _ (ap (λ (l : List Group). map group_reply l) groups) (c.answer_lines-in-Aggregate.ensures.counted over.told many on))

pub returns-in-Aggregate-clause-says : goal.returns-in-Aggregate-clause-says
returns-in-Aggregate-clause-says g c =
    rw c.in-Aggregate.is (lists-range c.new-groups.result.rows c.begin-cursor.result c.args.table.now c.args.range (g.F.Flash.state c.args.flash.now) (g.F.Flash.state c.answer_lines-in-Aggregate.new.flash) c.new-groups.ensures.rows c.begin-cursor.ensures.table c.begin-cursor.ensures.mark c.begin-cursor.ensures.sound (AllByRecursion IsGroup) _ _ _ c.answer_lines-in-Aggregate.ensures.says)

-- ---- each of them

pub returns-in-Select-clause-reads_only : goal.returns-in-Select-clause-reads_only
returns-in-Select-clause-reads_only g c = c.answer_lines.ensures.reads_only

pub returns-in-Select-clause-lies : goal.returns-in-Select-clause-lies
returns-in-Select-clause-lies g c = lies-read _ _ c.answer_lines.ensures.reads_only _ c.requires.lies

pub returns-in-Select-clause-cause : goal.returns-in-Select-clause-cause
returns-in-Select-clause-cause g c = c.answer_lines.ensures.cause

pub returns-in-Project-clause-reads_only : goal.returns-in-Project-clause-reads_only
returns-in-Project-clause-reads_only g c = c.answer_lines-in-Project.ensures.reads_only

pub returns-in-Project-clause-lies : goal.returns-in-Project-clause-lies
returns-in-Project-clause-lies g c = lies-read _ _ c.answer_lines-in-Project.ensures.reads_only _ c.requires.lies

pub returns-in-Project-clause-cause : goal.returns-in-Project-clause-cause
returns-in-Project-clause-cause g c = c.answer_lines-in-Project.ensures.cause

pub returns-in-Aggregate-clause-reads_only : goal.returns-in-Aggregate-clause-reads_only
returns-in-Aggregate-clause-reads_only g c = c.answer_lines-in-Aggregate.ensures.reads_only

pub returns-in-Aggregate-clause-lies : goal.returns-in-Aggregate-clause-lies
returns-in-Aggregate-clause-lies g c = lies-read _ _ c.answer_lines-in-Aggregate.ensures.reads_only _ c.requires.lies

pub returns-in-Aggregate-clause-cause : goal.returns-in-Aggregate-clause-cause
returns-in-Aggregate-clause-cause g c = c.answer_lines-in-Aggregate.ensures.cause

pub returns-in-Select-clause-room : goal.returns-in-Select-clause-room
returns-in-Select-clause-room g c =
    let rows_same = first-same c.answer_lines.ensures.names in
    let index_same = second-same c.answer_lines.ensures.names in
    let ready : IsReady c.answer_lines.new.lines.rows (contents_of (g.F.Flash.state c.args.flash.now)) = c.answer_lines.ensures.stays_ready (contents_of (g.F.Flash.state c.args.flash.now)) (subst (λ (k : Cursor 64 64). IsReady k (contents_of (g.F.Flash.state c.args.flash.now))) (sym c.new-rows.ensures.rows) (c.begin-cursor.ensures.ready (g.F.Flash.state c.args.flash.now) c.requires.lies c.requires.room.0 c.requires.room.1)) in
    search rules

pub returns-in-Project-clause-room : goal.returns-in-Project-clause-room
returns-in-Project-clause-room g c =
    let rows_same = first-same c.answer_lines-in-Project.ensures.names in
    let index_same = second-same c.answer_lines-in-Project.ensures.names in
    let ready : IsReady c.answer_lines-in-Project.new.lines.rows (contents_of (g.F.Flash.state c.args.flash.now)) = c.answer_lines-in-Project.ensures.stays_ready (contents_of (g.F.Flash.state c.args.flash.now)) (subst (λ (k : Cursor 64 64). IsReady k (contents_of (g.F.Flash.state c.args.flash.now))) (sym c.new-fields.ensures.rows) (c.begin-cursor.ensures.ready (g.F.Flash.state c.args.flash.now) c.requires.lies c.requires.room.0 c.requires.room.1)) in
    search rules

pub returns-in-Aggregate-clause-room : goal.returns-in-Aggregate-clause-room
returns-in-Aggregate-clause-room g c =
    let rows_same = first-same c.answer_lines-in-Aggregate.ensures.names in
    let index_same = second-same c.answer_lines-in-Aggregate.ensures.names in
    let ready : IsReady c.answer_lines-in-Aggregate.new.lines.groups.rows (contents_of (g.F.Flash.state c.args.flash.now)) = c.answer_lines-in-Aggregate.ensures.stays_ready (contents_of (g.F.Flash.state c.args.flash.now)) (subst (λ (k : Cursor 64 64). IsReady k (contents_of (g.F.Flash.state c.args.flash.now))) (sym c.new-groups.ensures.rows) (c.begin-cursor.ensures.ready (g.F.Flash.state c.args.flash.now) c.requires.lies c.requires.room.0 c.requires.room.1)) in
    search rules

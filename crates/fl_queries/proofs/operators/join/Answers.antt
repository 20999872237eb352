use Rattle.std.proofs.Common.{rules, ◌+◌, ◌-◌, ◌<◌, ◌≤◌, ◌^◌, None, List, length, map, refl, ◌∙◌, ap, subst, arith}
use Rattle.std.proofs.lemmas.List.{length-map}
use Rattle.fl_cursor.specs.Cursor.{left_of, IsReady}
use Rattle.fl_cursor.specs.Reads.{most_of}
use Rattle.fl_machine.specs.Step.{pair_reply}
use Rattle.fl_model.specs.Limits.{scan_limit}
use Rattle.fl_model.specs.Operators.{key_join}
use Rattle.fl_model.specs.Query.{selected}
use Rattle.fl_model.specs.Row.{Row, stored_row}
use Rattle.fl_ops.specs.Columns.{record_of, records_of}
use Rattle.fl_frame.specs.Contents.{contents_of}
use Rattle.fl_words.specs.Reply.{Reply}
use Rattle.fl_queries.specs.Lines.{Counted}
use Rattle.fl_queries.specs.Paired.{pair_lines}
use Rattle.fl_queries.proofs.AnyLines.{lists-pairs}
use Rattle.fl_queries.proofs.CountedLines.{counted-wider}
use Rattle.fl_queries.proofs.PairLines.{joined-records, pairs-fewer}
use Rattle.fl_queries.proofs.OperatorLines.{first-same, second-same, third-same, fourth-same}
use Rattle.fl_queries.proofs.Ranged.{ranged}
use Rattle.fl_cursor.specs.Asked.{asked_by}
use Rattle.fl_cursor.specs.declared.bookmark.Bookmark.{Bookmark}
use Rattle.fl_cursor.specs.Sound.{IsSoundOver}
use Rattle.fl_queries.specs.ListSays.{mark_on}
use Rattle.fl_queries.proofs.operators.join.Goals as goal

pub returns-clause-counted : goal.returns-clause-counted
returns-clause-counted g c = λ first second a b t u tells on stands_left stands_right.
    let left = ranged c.begin-left_rows.result c.begin-left_rows.result c.args.left.now (g.F.Flash.state c.args.flash.now) first a t c.args.range None refl tells (g.met.F.Flash.reaches c.args.flash.now) c.requires.left_lies stands_left c.begin-left_rows.ensures.told c.begin-left_rows.ensures.left c.begin-left_rows.ensures.limit c.begin-left_rows.ensures.least in
    let right = ranged c.begin-right_rows.result c.begin-right_rows.result c.args.right.now (g.F.Flash.state c.args.flash.now) second b u c.args.range None refl tells (g.met.F.Flash.reaches c.args.flash.now) c.requires.right_lies stands_right c.begin-right_rows.ensures.told c.begin-right_rows.ensures.left c.begin-right_rows.ensures.limit c.begin-right_rows.ensures.least in
    let rows = left_of c.begin-left_rows.result (contents_of (g.F.Flash.state c.args.flash.now)) in
    let others = left_of c.begin-right_rows.result (contents_of (g.F.Flash.state c.args.flash.now)) in
    let lines = ap (λ (l : List Row). pair_lines l (left_of c.begin-right_rows.result (contents_of (g.F.Flash.state c.args.flash.now)))) left.left
    ∙ (ap (λ (l : List Row). pair_lines (map stored_row (selected c.args.range None t.entries)) l) right.left ∙ joined-records (selected c.args.range None t.entries) (selected c.args.range None u.entries)) in
    let few : length (pair_lines (left_of c.begin-left_rows.result (contents_of (g.F.Flash.state c.args.flash.now))) (left_of c.begin-right_rows.result (contents_of (g.F.Flash.state c.args.flash.now)))) < 2 ^ 64 - 1 =
    omega (arith, length-map (key_join (records_of rows) (records_of others)) pair_reply, pairs-fewer (records_of rows) (records_of others), length-map rows record_of, left.few) in
    let limit : most_of c.begin-left_rows.result (contents_of (g.F.Flash.state c.args.flash.now)) + most_of c.begin-right_rows.result (contents_of (g.F.Flash.state c.args.flash.now))
    ≤ scan_limit 64 a t c.args.range None c.args.range.low + scan_limit 64 b u c.args.range None c.args.range.low = omega (arith, left.limit, right.limit) in
    subst (λ (l : List Reply). Counted l (scan_limit 64 a t c.args.range None c.args.range.low + scan_limit 64 b u c.args.range None c.args.range.low) 0 (g.K.Sink.written c.args.out.now) (g.K.Sink.written c.answer_lines.new.out)
    (g.F.Flash.state c.args.flash.now).media.faults (g.F.Flash.state c.answer_lines.new.flash).media.faults (g.F.Flash.state c.args.flash.now).work.reads (g.F.Flash.state c.answer_lines.new.flash).work.reads c.answer_lines.result) lines
    (counted-wider _ _ _ (scan_limit 64 a t c.args.range None c.args.range.low + scan_limit 64 b u c.args.range None c.args.range.low) 0 _ _ _ _ _ _ _ limit (omega arith) (c.answer_lines.ensures.counted (left.told, right.told) few on))

pub answer_lines-requires : goal.answer_lines-requires
answer_lines-requires g c = record {
  ready = (
    c.begin-left_rows.ensures.ready (g.F.Flash.state c.args.flash.now) c.requires.left_lies c.requires.room.0 c.requires.room.1,
    c.begin-right_rows.ensures.ready (g.F.Flash.state c.args.flash.now) c.requires.right_lies c.requires.room.2 c.requires.room.3,
  );
  fits = search rules;
}

pub returns-clause-says : goal.returns-clause-says
returns-clause-says g c =
    lists-pairs c.begin-left_rows.result c.begin-right_rows.result (mark_on c.args.left.now c.args.range None) (mark_on c.args.right.now c.args.range None) c.args.left.now c.args.right.now (g.F.Flash.state c.args.flash.now) (g.F.Flash.state c.answer_lines.new.flash)
    c.begin-left_rows.ensures.table c.begin-right_rows.ensures.table
    (λ s. subst (λ (m : Bookmark). IsSoundOver c.args.left.now (contents_of (g.F.Flash.state c.args.flash.now)) (asked_by m)) c.begin-left_rows.ensures.mark (c.begin-left_rows.ensures.sound (contents_of (g.F.Flash.state c.args.flash.now)) s))
    (λ s. subst (λ (m : Bookmark). IsSoundOver c.args.right.now (contents_of (g.F.Flash.state c.args.flash.now)) (asked_by m)) c.begin-right_rows.ensures.mark (c.begin-right_rows.ensures.sound (contents_of (g.F.Flash.state c.args.flash.now)) s)) _ _ _ c.answer_lines.ensures.says

pub returns-clause-reads_only : goal.returns-clause-reads_only
returns-clause-reads_only g c = c.answer_lines.ensures.reads_only

pub returns-clause-cause : goal.returns-clause-cause
returns-clause-cause g c = c.answer_lines.ensures.cause

pub begin-left_rows-requires : goal.begin-left_rows-requires
begin-left_rows-requires g c = (search rules, (search rules, c.requires.left_running))

pub begin-right_rows-requires : goal.begin-right_rows-requires
begin-right_rows-requires g c = (search rules, (search rules, c.requires.right_running))

pub returns-clause-room : goal.returns-clause-room
returns-clause-room g c =
    let left_rows = first-same c.answer_lines.ensures.names in
    let left_index = second-same c.answer_lines.ensures.names in
    let right_rows = third-same c.answer_lines.ensures.names in
    let right_index = fourth-same c.answer_lines.ensures.names in
    let ready = c.answer_lines.ensures.stays_ready (contents_of (g.F.Flash.state c.args.flash.now)) (c.begin-left_rows.ensures.ready (g.F.Flash.state c.args.flash.now) c.requires.left_lies c.requires.room.0 c.requires.room.1, c.begin-right_rows.ensures.ready (g.F.Flash.state c.args.flash.now) c.requires.right_lies c.requires.room.2 c.requires.room.3) in
    let left_ready : IsReady c.answer_lines.new.lines.left (contents_of (g.F.Flash.state c.args.flash.now)) = ready.0 in
    let right_ready : IsReady c.answer_lines.new.lines.right (contents_of (g.F.Flash.state c.args.flash.now)) = ready.1 in
    search rules

-- A cursor over the rows of a range that has just begun, over a flash that stands for its table.
use Rattle.std.proofs.Common.{◌≡◌, ℕ, ◌+◌, ◌^◌, ◌<◌, ◌≤◌, IsTrue, Option, Result, List, length, map, sym, ap, subst, arith}
use Rattle.std.proofs.lemmas.List.{length-map}
use Rattle.fl_base.specs.declared.types.KeyRange.{KeyRange}
use Rattle.fl_base.specs.declared.types.Span.{Span}
use Rattle.fl_cursor.specs.Cursor.{left_of, IsStanding, IsTold}
use Rattle.fl_cursor.specs.Reads.{most_of, least_of}
use Rattle.fl_cursor.specs.declared.cursor.Cursor.{Cursor}
use Rattle.fl_flash.specs.Flash.{FlashState}
use Rattle.fl_flash.specs.Places.{extent}
use Rattle.fl_frame.specs.Contents.{Contents, contents_of}
use Rattle.fl_model.specs.Limits.{scan_limit, least_reads}
use Rattle.fl_model.specs.Query.{selected}
use Rattle.fl_model.specs.Record.{Plan}
use Rattle.fl_model.specs.Row.{Row, stored_row}
use Rattle.fl_model.specs.Table as model
use Rattle.fl_table.specs.Memory.{LiesOn}
use Rattle.fl_table.specs.Standing.{Stands}
use Rattle.fl_table.specs.declared.table.Table.{Table}
use Rattle.fl_words.specs.Reply.{Reply}
use Rattle.fl_queries.specs.Lines.{Counted}
use Rattle.fl_queries.proofs.CountedLines.{counted-wider}
use Rattle.fl_queries.proofs.Few.{few-selected}
use Rattle.fl_queries.proofs.Resumed.{is-standing}

-- Its rows are those that the model selects, which are few, and it reads as many pages as a scan of them may.
pub record Ranged (cursor : Cursor 64 64) (f : FlashState) (plan : Plan) (table : model.Table) (range : KeyRange) (span : Option Span) : Type 0 where
  pub told : IsTold cursor (contents_of f)
  pub left : left_of cursor (contents_of f) ≡ map stored_row (selected range span table.entries)
  pub few : length (left_of cursor (contents_of f)) < 2 ^ 63
  pub limit : most_of cursor (contents_of f) ≤ scan_limit 64 plan table range span range.low
  pub least : least_reads plan table range span ≤ least_of cursor (contents_of f)

-- this holds over each flash that stands for the table
abbrev pub WhereStands : Table 64 64 → (FlashState → Plan → model.Table → Type 0) → Type 0
WhereStands t Holds = (f : FlashState) (first : ℕ) (plan : Plan) (table : model.Table) → IsTrue f.media.tells → f.start + extent f.geometry f.blocks ≤ length f.media.content → LiesOn t f → Stands t f first plan table → Holds f plan table

pub ranged : (input cursor : Cursor 64 64) (t : Table 64 64) (f : FlashState) (first : ℕ) (plan : Plan) (table : model.Table) (range : KeyRange) (span : Option Span) → input ≡ cursor →
    IsTrue f.media.tells → f.start + extent f.geometry f.blocks ≤ length f.media.content → LiesOn t f → Stands t f first plan table →
    ((contents : Contents) → IsStanding t contents → IsTold cursor contents) → WhereStands t (λ f plan table. left_of cursor (contents_of f) ≡ map stored_row (selected range span table.entries)) →
    WhereStands t (λ f plan table. most_of cursor (contents_of f) ≤ scan_limit 64 plan table range span range.low) → WhereStands t (λ f plan table. least_reads plan table range span ≤ least_of cursor (contents_of f)) →
    Ranged input f plan table range span
ranged input cursor t f first plan table range span same tells reaches lies stands told left limit least =
    let rows : left_of cursor (contents_of f) ≡ map stored_row (selected range span table.entries) = left f first plan table tells reaches lies stands in
    subst (λ (k : Cursor 64 64). Ranged k f plan table range span) (sym same) (record {
      told = told (contents_of f) (is-standing t f first plan table tells reaches lies stands);
      left = rows;
      few = omega (arith, ap (λ (l : List Row). length l) rows, length-map (selected range span table.entries) stored_row, few-selected t f first plan table stands range span);
      limit = limit f first plan table tells reaches lies stands;
      least = least f first plan table tells reaches lies stands;
    })

-- lines of its rows that were listed are those of the records that the model selects
pub counted-ranged : {E : Type 0} {cursor : Cursor 64 64} {f : FlashState} {plan : Plan} {table : model.Table} {range : KeyRange} {span : Option Span} {told now : Option (List ℕ)} {faults faults_now reads reads_now : ℕ} {result : Result (Unit {0}) E} →
    Ranged cursor f plan table range span → (lines others : List Reply) → lines ≡ others → Counted lines (most_of cursor (contents_of f)) (least_of cursor (contents_of f)) told now faults faults_now reads reads_now result →
    Counted others (scan_limit 64 plan table range span range.low) (least_reads plan table range span) told now faults faults_now reads reads_now result
counted-ranged {E} {cursor} {f} {plan} {table} {range} {span} {told} {now} {faults} {faults_now} {reads} {reads_now} {result} over lines others same h =
    subst (λ (l : List Reply). Counted l (scan_limit 64 plan table range span range.low) (least_reads plan table range span) told now faults faults_now reads reads_now result) same
    (counted-wider lines _ _ (scan_limit 64 plan table range span range.low) (least_reads plan table range span) _ _ _ _ _ _ _ over.limit over.least h)

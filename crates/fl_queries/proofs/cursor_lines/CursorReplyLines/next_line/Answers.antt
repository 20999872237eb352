use Rattle.std.proofs.Common.{◌∙◌, Bool, Result, IfErr, [], ◌∷◌, length, sym, ap, subst, arith}
use Rattle.fl_cursor.specs.Cursor.{mark_of, IfBad, MayBeBad}
use Rattle.fl_cursor.proofs.StepsOfRows.{told-after, kept-after, ready-after, steps-after, most-after, least-after, none-left}
use Rattle.fl_frame.specs.Contents.{contents_of}
use Rattle.fl_queries.specs.Rows.{row_reply}
use Rattle.fl_queries.proofs.LineSteps.{here-true, moves-line, steps-rows}
use Rattle.std.specs.Borrow.{Bor, GName}
use Rattle.fl_page.specs.declared.fault.ReadFault.{ReadFault}
use Rattle.fl_table.specs.Look.{layout_in}
use Rattle.fl_table.specs.declared.table.Table.{Table}
use Rattle.fl_queries.proofs.cursor_lines.CursorReplyLines.next_line.Goals as goal

pub returns-clause-here : goal.returns-clause-here
returns-clause-here g c = here-true c.advance.result _ c.advance.ensures.here

pub returns-clause-makes : goal.returns-clause-makes
returns-clause-makes g c = λ form first before h. moves-line form.blobs (mark_of first) c.args.self.now c.advance.new.self before (contents_of (g.F.Flash.state c.args.flash.now)) (g.F.Flash.state c.args.flash.now).work.reads (g.F.Flash.state c.advance.new.flash).work.reads
    c.advance.result c.advance.ensures.goes c.advance.ensures.fails h

pub returns-clause-stays_told : goal.returns-clause-stays_told
returns-clause-stays_told g c = told-after c.args.self.now c.advance.new.self (contents_of (g.F.Flash.state c.args.flash.now)) (g.F.Flash.state c.args.flash.now).work.reads (g.F.Flash.state c.advance.new.flash).work.reads
    c.advance.result c.advance.ensures.goes c.advance.ensures.fails

pub returns-clause-steps : goal.returns-clause-steps
returns-clause-steps g c = λ form told. steps-rows (row_reply form.blobs) c.advance.result _ _ _ (steps-after c.args.self.now c.advance.new.self (contents_of (g.F.Flash.state c.args.flash.now)) (g.F.Flash.state c.args.flash.now).work.reads (g.F.Flash.state c.advance.new.flash).work.reads
    c.advance.result c.advance.ensures.goes c.advance.ensures.fails c.advance.ensures.bad_page c.advance.ensures.end told)

pub returns-clause-most : goal.returns-clause-most
returns-clause-most g c = most-after c.args.self.now c.advance.new.self (contents_of (g.F.Flash.state c.args.flash.now)) (g.F.Flash.state c.args.flash.now).work.reads (g.F.Flash.state c.advance.new.flash).work.reads
    c.advance.result c.advance.ensures.goes c.advance.ensures.fails

pub returns-clause-least : goal.returns-clause-least
returns-clause-least g c = least-after c.args.self.now c.advance.new.self (contents_of (g.F.Flash.state c.args.flash.now)) (g.F.Flash.state c.args.flash.now).work.reads (g.F.Flash.state c.advance.new.flash).work.reads
    c.advance.result c.advance.ensures.goes

pub returns-clause-none_left : goal.returns-clause-none_left
returns-clause-none_left g c = λ told. none-left c.args.self.now c.advance.new.self (contents_of (g.F.Flash.state c.args.flash.now)) (g.F.Flash.state c.args.flash.now).work.reads (g.F.Flash.state c.advance.new.flash).work.reads
    c.advance.result c.advance.ensures.end

pub returns-clause-reads_only : goal.returns-clause-reads_only
returns-clause-reads_only g c = c.advance.ensures.reads_only

pub returns-clause-cause : goal.returns-clause-cause
returns-clause-cause g c = c.advance.ensures.cause

pub returns-clause-sound : goal.returns-clause-sound
returns-clause-sound g c = c.advance.ensures.sound

pub returns-clause-all_sound : goal.returns-clause-all_sound
returns-clause-all_sound g c = c.advance.ensures.all_sound

pub returns-clause-fits : goal.returns-clause-fits
returns-clause-fits g c = λ form h. (h.0 ∙ ap (λ (t : Bor (Table 64 64)). length (layout_in t.now).columns) (sym (kept-after c.args.self.now c.advance.new.self (contents_of (g.F.Flash.state c.args.flash.now)) (g.F.Flash.state c.args.flash.now).work.reads (g.F.Flash.state c.advance.new.flash).work.reads c.advance.result c.advance.ensures.goes c.advance.ensures.fails).table), h.1)

pub returns-clause-names : goal.returns-clause-names
returns-clause-names g c =
    let k = (kept-after c.args.self.now c.advance.new.self (contents_of (g.F.Flash.state c.args.flash.now)) (g.F.Flash.state c.args.flash.now).work.reads (g.F.Flash.state c.advance.new.flash).work.reads c.advance.result c.advance.ensures.goes c.advance.ensures.fails) in
    ap (λ (n : GName). n ∷ c.advance.new.self.index_buf.ghost_name ∷ []) k.rows_name ∙ ap (λ (n : GName). c.args.self.now.rows_buf.ghost_name ∷ n ∷ []) k.index_name

pub returns-clause-stays_ready : goal.returns-clause-stays_ready
returns-clause-stays_ready g c = ready-after c.args.self.now c.advance.new.self (contents_of (g.F.Flash.state c.args.flash.now)) (g.F.Flash.state c.args.flash.now).work.reads (g.F.Flash.state c.advance.new.flash).work.reads c.advance.result c.advance.ensures.goes c.advance.ensures.fails

pub returns-clause-bad_page : goal.returns-clause-bad_page
returns-clause-bad_page g c = λ bad is. subst (λ (r : Result Bool ReadFault). IfErr r (IfBad (MayBeBad c.args.self.now.table.now (contents_of (g.F.Flash.state c.args.flash.now))))) is c.advance.ensures.bad_page

pub returns-clause-same_test : goal.returns-clause-same_test
returns-clause-same_test g c = λ contents bad. subst (λ (t : Bor (Table 64 64)). MayBeBad t.now contents bad) (kept-after c.args.self.now c.advance.new.self (contents_of (g.F.Flash.state c.args.flash.now)) (g.F.Flash.state c.args.flash.now).work.reads (g.F.Flash.state c.advance.new.flash).work.reads c.advance.result c.advance.ensures.goes c.advance.ensures.fails).table

pub advance-requires : goal.advance-requires
advance-requires g c = (omega arith, c.requires)

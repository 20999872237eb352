use Rattle.fl_frame.specs.Contents.{contents_of}
use Rattle.fl_cursor.proofs.StepsOfRows.{told-after, steps-after, most-after, least-after, none-left, kept-after, ready-after, key-after, falls-never}
use Rattle.std.proofs.Common.{Bool, Result, IfErr, [], ◌∷◌, sym, ◌∙◌, ap, subst, arith}
use Rattle.std.specs.Borrow.{Bor, GName}
use Rattle.fl_page.specs.declared.fault.ReadFault.{ReadFault}
use Rattle.fl_table.specs.Look.{layout_in}
use Rattle.fl_table.specs.declared.table.Table.{Table}
use Rattle.fl_cursor.specs.Cursor.{IfBad, MayBeBad}
use Rattle.fl_cursor.proofs.rows.CursorRows.step.Goals as goal

pub returns-clause-stays_told : goal.returns-clause-stays_told
returns-clause-stays_told g c = told-after c.args.self.now c.advance.new.self (contents_of (g.F.Flash.state c.args.flash.now)) (g.F.Flash.state c.args.flash.now).work.reads (g.F.Flash.state c.advance.new.flash).work.reads
    c.advance.result c.advance.ensures.goes c.advance.ensures.fails

pub returns-clause-steps : goal.returns-clause-steps
returns-clause-steps g c = steps-after c.args.self.now c.advance.new.self (contents_of (g.F.Flash.state c.args.flash.now)) (g.F.Flash.state c.args.flash.now).work.reads (g.F.Flash.state c.advance.new.flash).work.reads
    c.advance.result c.advance.ensures.goes c.advance.ensures.fails c.advance.ensures.bad_page c.advance.ensures.end

pub returns-clause-most : goal.returns-clause-most
returns-clause-most g c = most-after c.args.self.now c.advance.new.self (contents_of (g.F.Flash.state c.args.flash.now)) (g.F.Flash.state c.args.flash.now).work.reads (g.F.Flash.state c.advance.new.flash).work.reads
    c.advance.result c.advance.ensures.goes c.advance.ensures.fails

pub returns-clause-least : goal.returns-clause-least
returns-clause-least g c = least-after c.args.self.now c.advance.new.self (contents_of (g.F.Flash.state c.args.flash.now)) (g.F.Flash.state c.args.flash.now).work.reads (g.F.Flash.state c.advance.new.flash).work.reads
    c.advance.result c.advance.ensures.goes

pub returns-clause-none_left : goal.returns-clause-none_left
returns-clause-none_left g c = λ told. none-left c.args.self.now c.advance.new.self (contents_of (g.F.Flash.state c.args.flash.now)) (g.F.Flash.state c.args.flash.now).work.reads (g.F.Flash.state c.advance.new.flash).work.reads
    c.advance.result c.advance.ensures.end

pub advance-requires : goal.advance-requires
advance-requires g c = (omega arith, c.requires)

pub returns-clause-reads_only : goal.returns-clause-reads_only
returns-clause-reads_only g c = c.advance.ensures.reads_only

pub returns-clause-cause : goal.returns-clause-cause
returns-clause-cause g c = c.advance.ensures.cause

pub returns-clause-here : goal.returns-clause-here
returns-clause-here g c = c.advance.ensures.here

pub returns-clause-end : goal.returns-clause-end
returns-clause-end g c = c.advance.ensures.end

pub returns-clause-stays_ended : goal.returns-clause-stays_ended
returns-clause-stays_ended g c = c.advance.ensures.stays_ended

pub returns-clause-sound : goal.returns-clause-sound
returns-clause-sound g c = c.advance.ensures.sound

pub returns-clause-all_sound : goal.returns-clause-all_sound
returns-clause-all_sound g c = c.advance.ensures.all_sound

pub returns-clause-names : goal.returns-clause-names
returns-clause-names g c =
    let k = (kept-after c.args.self.now c.advance.new.self (contents_of (g.F.Flash.state c.args.flash.now)) (g.F.Flash.state c.args.flash.now).work.reads (g.F.Flash.state c.advance.new.flash).work.reads c.advance.result c.advance.ensures.goes c.advance.ensures.fails) in
    ap (λ (n : GName). n ∷ c.advance.new.self.index_buf.ghost_name ∷ []) k.rows_name ∙ ap (λ (n : GName). c.args.self.now.rows_buf.ghost_name ∷ n ∷ []) k.index_name

pub returns-clause-schema : goal.returns-clause-schema
returns-clause-schema g c = ap (λ (t : Bor (Table g.row.KNOTS g.row.SLOTS)). layout_in t.now) (kept-after c.args.self.now c.advance.new.self (contents_of (g.F.Flash.state c.args.flash.now)) (g.F.Flash.state c.args.flash.now).work.reads (g.F.Flash.state c.advance.new.flash).work.reads c.advance.result c.advance.ensures.goes c.advance.ensures.fails).table

pub returns-clause-stays_ready : goal.returns-clause-stays_ready
returns-clause-stays_ready g c = ready-after c.args.self.now c.advance.new.self (contents_of (g.F.Flash.state c.args.flash.now)) (g.F.Flash.state c.args.flash.now).work.reads (g.F.Flash.state c.advance.new.flash).work.reads c.advance.result c.advance.ensures.goes c.advance.ensures.fails

pub returns-clause-key : goal.returns-clause-key
returns-clause-key g c = key-after c.args.self.now c.advance.new.self (contents_of (g.F.Flash.state c.args.flash.now)) (g.F.Flash.state c.args.flash.now).work.reads (g.F.Flash.state c.advance.new.flash).work.reads c.advance.result c.advance.ensures.goes

pub returns-clause-never_falls : goal.returns-clause-never_falls
returns-clause-never_falls g c = falls-never c.args.self.now c.advance.new.self (contents_of (g.F.Flash.state c.args.flash.now)) (g.F.Flash.state c.args.flash.now).work.reads (g.F.Flash.state c.advance.new.flash).work.reads c.advance.result c.advance.ensures.goes c.advance.ensures.fails

pub returns-clause-bad_page : goal.returns-clause-bad_page
returns-clause-bad_page g c = λ bad is. subst (λ (r : Result Bool ReadFault). IfErr r (IfBad (MayBeBad c.args.self.now.table.now (contents_of (g.F.Flash.state c.args.flash.now))))) is c.advance.ensures.bad_page

pub returns-clause-same_test : goal.returns-clause-same_test
returns-clause-same_test g c =
    λ contents bad.
    let table = (kept-after c.args.self.now c.advance.new.self (contents_of (g.F.Flash.state c.args.flash.now)) (g.F.Flash.state c.args.flash.now).work.reads (g.F.Flash.state c.advance.new.flash).work.reads c.advance.result c.advance.ensures.goes c.advance.ensures.fails).table in
    (subst (λ (t : Bor (Table g.row.KNOTS g.row.SLOTS)). MayBeBad t.now contents bad) table, subst (λ (t : Bor (Table g.row.KNOTS g.row.SLOTS)). MayBeBad t.now contents bad) (sym table))

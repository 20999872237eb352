use Rattle.std.proofs.Common.{◌∙◌, ap, subst, arith}
use Rattle.fl_schema.specs.Schema.{layout_of, row_of}
use Rattle.fl_table.specs.Finding.{IsRowAt, row_in, row_of_place}
use Rattle.fl_table.specs.declared.find.RowAt.{RowAt}
use Rattle.fl_parts.proofs.RowsFound.{row-within, row-viewed}
use Rattle.fl_table.proofs.Finds.{row-shown}
use Rattle.fl_table.proofs.table.Table.row_at.Goals as goal

pub row-requires : goal.row-requires
row-requires g c =
    let here = subst (λ (p : RowAt). IsRowAt c.args.self.now c.args.buf.now p) c.in-InPage.is c.requires.here in
    (omega arith, row-within (layout_of c.args.self.now.schema) c.args.buf.now.bytes c.view.result c.in-InPage.at.row here.2 c.view.ensures.rows)

pub returns-in-InPage-clause-stands : goal.returns-in-InPage-clause-stands
returns-in-InPage-clause-stands g c = λ f first plan table stands.
    let here = subst (λ (p : RowAt). IsRowAt c.args.self.now c.args.buf.now p) c.in-InPage.is c.requires.here in
    ap (row_of_place plan table c.args.buf.now) c.in-InPage.is
    ∙ row-shown c.args.self.now first plan c.args.buf.now.bytes c.view.result c.in-InPage.at.row (row_of c.row.result) stands.planned here.2 c.view.ensures.rows c.row.ensures.row

pub returns-in-Pending-clause-stands : goal.returns-in-Pending-clause-stands
returns-in-Pending-clause-stands g c = λ f first plan table stands. ap (row_of_place plan table c.args.buf.now) c.in-Pending.is ∙ c.pending_row.ensures.stands f first plan table stands

pub returns-in-InPage-clause-row : goal.returns-in-InPage-clause-row
returns-in-InPage-clause-row g c =
    let here = subst (λ (p : RowAt). IsRowAt c.args.self.now c.args.buf.now p) c.in-InPage.is c.requires.here in
    ap (row_in c.args.self.now c.args.buf.now) c.in-InPage.is
    ∙ row-viewed (layout_of c.args.self.now.schema) c.args.buf.now.bytes c.view.result c.in-InPage.at.row (row_of c.row.result) here.2 c.view.ensures.rows c.row.ensures.row

pub returns-in-Pending-clause-row : goal.returns-in-Pending-clause-row
returns-in-Pending-clause-row g c = ap (row_in c.args.self.now c.args.buf.now) c.in-Pending.is ∙ c.pending_row.ensures.row

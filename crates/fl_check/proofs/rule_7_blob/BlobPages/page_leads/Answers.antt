use Rattle.std.proofs.Common.{◌≡◌, ℕ, List, sym, ◌∙◌, subst, refl, arith}
use Rattle.fl_model.specs.Row.{Row}
use Rattle.fl_page.specs.Header.{page_number}
use Rattle.fl_page.specs.Page.{IsGoodPage, rows_in}
use Rattle.fl_page.specs.View.{rows_of}
use Rattle.fl_ring.specs.Place.{shape_of}
use Rattle.fl_schema.proofs.References.{field_4}
use Rattle.fl_schema.specs.Schema.{layout_of}
use Rattle.fl_rules.specs.References.{RowsLead}
use Rattle.fl_check.proofs.RowsLead.{viewed, refused, view_rows}
use Rattle.fl_check.proofs.rule_7_blob.BlobPages.page_leads.Goals as goal

pub returns-in-Err-clause-yes : goal.returns-in-Err-clause-yes
returns-in-Err-clause-yes g c = λ yes page measured good.
    let layout = layout_of c.args.schema.now in
    let bytes = c.args.bytes.now in
    let number : c.get_u32.result ≡ page_number bytes = c.get_u32.ensures ∙ field_4 bytes 0 0 0 4 refl refl (omega (arith, c.requires)) in
    let bad = refused layout c.get_u32.result bytes c.of.result c.in-Err.field-0 c.in-Err.is c.of.ensures in
    absurd (bad.1 (subst (λ (k : ℕ). IsGoodPage layout k bytes) (sym number) good))

pub returns-in-Ok-clause-yes : goal.returns-in-Ok-clause-yes
returns-in-Ok-clause-yes g c = λ yes page measured good.
    let layout = layout_of c.args.schema.now in
    let v = viewed layout c.get_u32.result c.args.bytes.now c.of.result c.in-Ok.view c.in-Ok.is c.of.ensures in
    let same : rows_of c.in-Ok.view ≡ rows_in layout c.args.bytes.now = view_rows c.in-Ok.view layout c.args.bytes.now v.0 v.1 v.2 in
    subst (λ (rows : List Row). RowsLead page (shape_of c.args.self.now.ring.now) c.args.self.now.numbering rows) same (c.rows_lead.ensures.yes yes page measured)

pub returns-in-Ok-clause-no : goal.returns-in-Ok-clause-no
returns-in-Ok-clause-no g c = λ no page measured all.
    let layout = layout_of c.args.schema.now in
    let v = viewed layout c.get_u32.result c.args.bytes.now c.of.result c.in-Ok.view c.in-Ok.is c.of.ensures in
    let same : rows_of c.in-Ok.view ≡ rows_in layout c.args.bytes.now = view_rows c.in-Ok.view layout c.args.bytes.now v.0 v.1 v.2 in
    c.rows_lead.ensures.no no page measured (subst (λ (rows : List Row). RowsLead page (shape_of c.args.self.now.ring.now) c.args.self.now.numbering rows) (sym same) all)

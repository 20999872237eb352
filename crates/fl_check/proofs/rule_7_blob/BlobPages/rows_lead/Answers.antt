use Rattle.std.proofs.Common.{◌≡◌, length, arith}
use Rattle.fl_page.specs.View.{rows_of, count_of}
use Rattle.fl_ring.specs.Place.{shape_of}
use Rattle.fl_schema.specs.Schema.{row_of}
use Rattle.fl_page.proofs.RowsFrom.{length-rows_from}
use Rattle.fl_check.proofs.RowsLead.{row_not, row_next}
use Rattle.fl_check.proofs.rule_7_blob.BlobPages.rows_lead.Goals as goal

pub returns-then-not-blob_leads-clause-no : goal.returns-then-not-blob_leads-clause-no
returns-then-not-blob_leads-clause-no g c = λ no page measured.
    let rows = rows_of c.args.view.now in
    let many : length rows ≡ count_of c.args.view.now = length-rows_from (count_of c.args.view.now) _ _ in
    row_not page (shape_of c.args.self.now.ring.now) c.args.self.now.numbering rows c.loop-i.i (row_of c.row.result) c.row.ensures.row c.blob.result c.blob.ensures
    (omega (arith, many, c.rows-i-end.ensures, c.loop-i-test.true)) (c.blob_leads.ensures.no c.if-not-blob_leads.true page measured)

pub loop-i-preserved : goal.loop-i-preserved
loop-i-preserved g c = record {
  rows = λ page measured. row_next page (shape_of c.args.self.now.ring.now) c.args.self.now.numbering (rows_of c.args.view.now) c.loop-i.i (row_of c.row.result) c.row.ensures.row c.blob.result c.blob.ensures
      (c.blob_leads.ensures.yes c.if-not-blob_leads.false page measured) (c.loop-i.invariant.rows page measured);
}

pub returns-clause-yes : goal.returns-clause-yes
returns-clause-yes g c = λ yes page measured i lt.
    let many : length (rows_of c.args.view.now) ≡ count_of c.args.view.now = length-rows_from (count_of c.args.view.now) _ _ in
    c.loop-i.invariant.rows page measured i (omega (arith, many, lt, c.rows-i-end.ensures, c.loop-i-test.false))

use Rattle.std.proofs.Common.{arith}
use Rattle.fl_ring.specs.Place.{shape_of}
use Rattle.fl_check.proofs.RowsLead.{lead_none, lead_empty, lead_some, lead_not}
use Rattle.fl_check.proofs.rule_7_blob.BlobPages.blob_leads.Goals as goal

pub returns-then-at-eq0-clause-yes : goal.returns-then-at-eq0-clause-yes
returns-then-at-eq0-clause-yes c = λ yes page measured.
    lead_empty page (shape_of c.args.self.now.ring.now) c.args.self.now.numbering c.args.blob c.in-Some.at c.in-Some.is c.if-at-eq0.true

pub returns-in-None-clause-yes : goal.returns-in-None-clause-yes
returns-in-None-clause-yes c = λ yes page measured. lead_none page (shape_of c.args.self.now.ring.now) c.args.self.now.numbering c.args.blob c.in-None.is

pub returns-else-at-eq0-clause-yes : goal.returns-else-at-eq0-clause-yes
returns-else-at-eq0-clause-yes c = λ yes page measured.
    lead_some page (shape_of c.args.self.now.ring.now) c.args.self.now.numbering c.args.blob c.in-Some.at c.in-Some.is (c.leads.ensures.yes yes page measured)

pub returns-else-at-eq0-clause-no : goal.returns-else-at-eq0-clause-no
returns-else-at-eq0-clause-no c = λ no page measured.
    lead_not page (shape_of c.args.self.now.ring.now) c.args.self.now.numbering c.args.blob c.in-Some.at c.in-Some.is (let other = c.if-at-eq0.false in omega (arith, other)) (c.leads.ensures.no no page measured)

use Rattle.std.proofs.Common.{ℕ, List}
use Rattle.fl_page.specs.View.{rows_of}
use Rattle.fl_ring.specs.Place.{shape_of}
use Rattle.fl_rules.specs.Claims.{AllBelow}
use Rattle.fl_rules.specs.Reaches.{AreMeasured}
use Rattle.fl_rules.specs.References.{RowLeads}
use Rattle.fl_check.proofs.rule_7_blob.BlobPages.rows_lead.Given as goal

abbrev pub invariant-loop-i : goal.invariant-loop-i
invariant-loop-i g l = record {
  rows : (page : ℕ → List ℕ) → AreMeasured page (shape_of l.self.ring.now) l.self.numbering.marks.at l.self.numbering.marks.kept l.self.reaches.now →
      AllBelow (RowLeads page (shape_of l.self.ring.now) l.self.numbering (rows_of l.view)) l.i;
}

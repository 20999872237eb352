use Rattle.fl_ring.proofs.Counts.{counts_begun, counts_sealed, counts_voided, counts_erased, counts_renumbered, counts_ring}
use Rattle.fl_ring.proofs.laws.steps_are_the_models.Goals as goal

pub returns : goal.returns
returns c = λ r count_of s. record {
  begins = counts_begun count_of s;
  seals = counts_sealed count_of r s;
  voids = counts_voided count_of r s;
  erases = counts_erased count_of s;
  renumbers = λ at_least some. counts_renumbered count_of r at_least s some;
  facts = counts_ring count_of r s;
}

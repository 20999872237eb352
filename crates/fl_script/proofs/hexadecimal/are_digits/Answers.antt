use Rattle.std.proofs.Common.{ℕ, eqb, ap, ◌∙◌, arith, w8}
use Rattle.std.proofs.lemmas.Simd.{bitmask_splat}
use Rattle.fl_script.proofs.Lanes.{none_set}
use Rattle.fl_script.proofs.hexadecimal.are_digits.Goals as goal

pub returns : goal.returns
returns c = ap (λ m. eqb m 0) (bitmask_splat {X = ℕ} w8 eqb c.args.values 32 16 c.fits-values.0 (omega arith)) ∙ none_set (λ x. eqb x 16) c.args.values

use Rattle.std.proofs.Common.{ℕ, bit_or, refl, ◌∙◌}
use Rattle.std.proofs.lemmas.Simd.{zip2_splat, zip2_of_maps, splat_is_map}
use Rattle.fl_script.proofs.Lanes.{alike, chosen}
use Rattle.fl_script.proofs.hexadecimal.digit_values.Goals as goal

pub returns : goal.returns
returns c =
    let v = c.args.digits in
    let long = c.fits-digits.0 in
    let numbers = zip2_splat {Y = ℕ} _ v 32 48 long in
    let letters = zip2_of_maps _ _ _ v (zip2_splat {Y = ℕ} bit_or v 32 32 long) (splat_is_map v 32 97 long) in
    let least = chosen _ _ _ v (zip2_of_maps _ _ _ v letters (splat_is_map v 32 6 long)) letters (splat_is_map v 32 6 long) in
    chosen _ _ _ v (zip2_of_maps _ _ _ v numbers (splat_is_map v 32 10 long)) numbers (zip2_of_maps _ _ _ v least (splat_is_map v 32 10 long))
    ∙ alike _ _ refl v c.fits-digits.1

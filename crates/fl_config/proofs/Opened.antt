-- How the opening of an image ends.
use Rattle.std.proofs.Common.{◌≡◌, ℕ, ◌+◌, ◌-◌, ◌≤◌, IsTrue, Result, Ok, Err, List, [], length, take, slice_range, inr, arith, sym, ◌∙◌, ap, subst}
use Rattle.fl_flash.specs.Media.{MediaState, next_count}
use Rattle.fl_config.specs.declared.image.ImageRefusal.{ImageRefusal}
use Rattle.fl_config.specs.declared.image.ImageRefusal.TheVariants.{Media, Other}
use Rattle.fl_config.specs.Opening.{Compares, Differs, Opens}

pub range-front : (xs : List ℕ) (n : ℕ) → slice_range xs 0 (0 + n) ≡ take n xs
range-front xs n = let same : 0 + n - 0 ≡ n = omega arith in ap (λ (k : ℕ). take k xs) same

-- what was read is the header, or differs from it
pub find-opens : (len : ℕ) (head own : List ℕ) (result : Result (Unit {0}) ImageRefusal) (old new : MediaState) → (old.content ≡ [] → ⊥) → length old.content ≡ len →
    new.tells ≡ old.tells → new.content ≡ old.content → new.reads ≡ next_count old.reads → old.faults ≤ new.faults →
    (IsTrue old.tells → own ≡ take 1024 old.content) → Compares head own result → Opens len head old result new
find-opens len head own (Ok done) old new some long tells same reads later read compared =
    inr (record { some = some; len_is = long; head_is = λ t. sym (read t) ∙ sym compared; same = same; tells = tells; reads = reads; later = later })
find-opens len head own (Err Media) old new some long tells same reads later read compared = absurd compared
find-opens len head own (Err (Other a b at)) old new some long tells same reads later read compared =
    record { some = some; other = inr (long, λ t. subst (λ (l : List ℕ). Differs head l at a b) (read t) compared); same = same; tells = tells; reads = omega (arith, reads); later = later }

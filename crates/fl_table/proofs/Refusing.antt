-- Which of several refusals is the first that applies.
use Rattle.std.proofs.Common.{◌≡◌, ℕ, Bool, true, false, ◌||◌, nat_le, max, Option, Some, None, is_some, option_map, unwrap_or, refl, arith}
use Rattle.std.proofs.lemmas.Bool.Decides.{nat_tests}
use Rattle.std.specs.Bool.{then_some}
use Rattle.fl_model.specs.Table.{spent_from}
use Rattle.fl_ring.specs.Place.{next_of}
use Rattle.fl_ring.specs.declared.ring.Ring.{Ring}
use Rattle.fl_table.specs.Refusal.{or_else, refused_if}
use Rattle.fl_table.specs.declared.faults.PutRefusal.{PutRefusal}

-- the first two, where the table is running
pub by-key : (stopped key columns value blob spent : Option PutRefusal) → is_some stopped ≡ false → is_some key ≡ true →
    key ≡ or_else stopped (or_else key (or_else columns (or_else value (or_else blob spent))))
by-key None (Some refusal) columns value blob spent none some = refl
by-key None None columns value blob spent none some = cc
by-key (Some refusal) key columns value blob spent none some = cc

pub by-columns : (stopped key columns value blob spent : Option PutRefusal) → is_some stopped ≡ false → is_some key ≡ false → is_some columns ≡ true →
    columns ≡ or_else stopped (or_else key (or_else columns (or_else value (or_else blob spent))))
by-columns None None (Some refusal) value blob spent none kept some = refl
by-columns None None None value blob spent none kept some = cc
by-columns None (Some refusal) columns value blob spent none kept some = cc
by-columns (Some refusal) key columns value blob spent none kept some = cc

pub by-rest : (stopped key columns rest : Option PutRefusal) → is_some stopped ≡ false → is_some key ≡ false → is_some columns ≡ false →
    rest ≡ or_else stopped (or_else key (or_else columns rest))
by-rest None None None rest none kept many = refl
by-rest None None (Some refusal) rest none kept many = cc
by-rest None (Some refusal) columns rest none kept many = cc
by-rest (Some refusal) key columns rest none kept many = cc

pub by-value : (value blob spent : Option PutRefusal) → is_some value ≡ true → value ≡ or_else value (or_else blob spent)
by-value (Some refusal) blob spent some = refl
by-value None blob spent some = cc

pub by-blob : (value blob spent : Option PutRefusal) → is_some value ≡ false → is_some blob ≡ true → blob ≡ or_else value (or_else blob spent)
by-blob None (Some refusal) spent none some = refl
by-blob None None spent none some = cc
by-blob (Some refusal) blob spent none some = cc

pub by-spent : (value blob spent : Option PutRefusal) → is_some value ≡ false → is_some blob ≡ false → spent ≡ or_else value (or_else blob spent)
by-spent None None spent none least = refl
by-spent None (Some refusal) spent none least = cc
by-spent (Some refusal) blob spent none least = cc

pub then-refused : (b : Bool) (refusal : PutRefusal) → then_some b refusal ≡ refused_if b refusal
then-refused true refusal = refl
then-refused false refusal = refl

-- a limit that the greatest of three numbers reaches, one of them reaches
pub reached : (limit a b c : ℕ) → nat_le limit (max (max a b) c) ≡ (nat_le limit a || nat_le limit b || nat_le limit c)
reached limit a b c = grind (arith, nat_tests)

-- a ring that isn't there has no number that is spent
pub spent-ring : (o : Option Ring) → nat_le spent_from (unwrap_or (option_map (λ ring. next_of ring) o) 0) ≡ unwrap_or (option_map (λ ring. nat_le spent_from (next_of ring)) o) false
spent-ring None = refl
spent-ring (Some ring) = refl

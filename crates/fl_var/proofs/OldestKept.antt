-- Which page is the oldest one that a ring of variable data keeps after seals.
use Rattle.std.proofs.Common.{◌≡◌, ℕ, zero, suc, ◌+◌, ◌-◌, ◌≤◌, ◌==◌, Bool, cond, Option, Some, unwrap_or, sym, ◌∙◌, ap, arith}
use Rattle.std.specs.Prelude.{option_map}
use Rattle.std.proofs.lemmas.Bool.{ne_eqb}
use Rattle.fl_ring.specs.Place as place_words
use Rattle.fl_ring.specs.Ring.{Shape, is_due_at}
use Rattle.fl_ring.specs.declared.ring.Ring.{Ring}
use Rattle.fl_var.specs.Memory.{next_in, oldest_in, oldest_after, oldest_through, var_shape, IsSamePlan}
use Rattle.fl_var.specs.declared.var_data.VarData.{VarData}
use Rattle.fl_var.proofs.Joins.{same-shape}

-- after a seal of the ring
pub sealed-oldest : (v : VarData) (ring : Ring) → v.ring ≡ Some ring → place_words.shape_of ring ≡ var_shape v → place_words.oldest_after ring ≡ oldest_after v 1
sealed-oldest v ring is shape =
    ap (λ (r : Shape). oldest_through r (place_words.next_of ring) (place_words.oldest_of ring) 1) shape
    ∙ ap (λ (o : Option Ring). oldest_through (var_shape v) (unwrap_or (option_map (λ r. place_words.next_of r) o) 0) (unwrap_or (option_map (λ r. place_words.oldest_of r) o) 0) 1) (sym is)

-- .. of a ring that wasn't sealed
pub oldest-same : (a b : VarData) → b.ring ≡ a.ring → oldest_in b ≡ oldest_in a
oldest-same a b e = ap (λ (o : Option Ring). unwrap_or (option_map (λ r. place_words.oldest_of r) o) 0) e

-- one seal more
through-more : (r : Shape) (next oldest n : ℕ) → oldest_through r next oldest (suc n) ≡ oldest_through r (next + n) (oldest_through r next oldest n) 1
through-more r next oldest n =
    ap (λ k. cond (is_due_at r k (k - oldest_through r next oldest n)) (oldest_through r next oldest n + r.per_block) (oldest_through r next oldest n)) (let e : next + suc n ≡ next + n + 1 = omega arith in e)

-- .. and so many more
through-both : (r : Shape) (next oldest m n : ℕ) → oldest_through r next oldest (m + n) ≡ oldest_through r (next + m) (oldest_through r next oldest m) n
through-both r next oldest m zero = ap (oldest_through r next oldest) (let e : m + 0 ≡ m = omega arith in e)
through-both r next oldest m (suc n) =
    ap (oldest_through r next oldest) (let e : m + suc n ≡ suc (m + n) = omega arith in e)
    ∙ (through-more r next oldest (m + n)
    ∙ (ap (λ k. oldest_through r k (oldest_through r next oldest (m + n)) 1) (let e : next + (m + n) ≡ next + m + n = omega arith in e)
    ∙ (ap (λ k. oldest_through r (next + m + n) k 1) (through-both r next oldest m n) ∙ sym (through-more r (next + m) (oldest_through r next oldest m) n))))

-- seals, and others behind them
pub after-then : (first v w : VarData) (n k : ℕ) → IsSamePlan first v → next_in v ≡ next_in first + n → oldest_in v ≡ oldest_after first n → oldest_in w ≡ oldest_after v k → oldest_in w ≡ oldest_after first (n + k)
after-then first v w n k same next kept more =
    more
    ∙ (ap (λ (r : Shape). oldest_through r (next_in v) (oldest_in v) k) (same-shape first v same)
    ∙ (ap (λ m. oldest_through (var_shape first) m (oldest_in v) k) next
    ∙ (ap (λ m. oldest_through (var_shape first) (next_in first + n) m k) kept ∙ sym (through-both (var_shape first) (next_in first) (oldest_in first) n k))))

-- bytes that wait fill a page
pub rest-one : (n : ℕ) → 1 ≤ n → ◌≡◌ {A = ℕ} (cond (n == 0) 0 1) 1
rest-one n some = ap {B = ℕ} (λ (b : Bool). cond b 0 1) (ne_eqb n 0 (λ e. omega (arith, e, some)))

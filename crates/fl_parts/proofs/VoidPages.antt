-- The void pages of a data ring, as pages are sealed and given up.
use Rattle.std.proofs.Common.{◌≡◌, ℕ, ◌+◌, ◌-◌, ◌*◌, ◌%◌, ◌<◌, ◌≤◌, Bool, true, false, cond, ◌==◌, List, [], ◌∷◌, ◌++◌, length, take, drop, refl, ◌∙◌, ap, arith, length-append, length-drop}
use Rattle.std.proofs.lemmas.Bool.{ltb-true, ne_eqb}
use Rattle.std.proofs.lemmas.List.{drop-append-le}
use Rattle.std.proofs.lemmas.List.Sums.{sum_by-append, sum_by-take-drop}
use Rattle.std.proofs.Math.Nat.{mul-le-mul_right}
use Rattle.std.specs.List.{count_by}
use Rattle.fl_model.proofs.Lists.{and_right}
use Rattle.fl_model.specs.Record.{Plan}
use Rattle.fl_model.specs.Ring as model
use Rattle.fl_model.specs.Table.{Table, DataRing, shape_of, after_seal}

-- how many of these counts are zero
abbrev pub voids_in : List ℕ → ℕ
voids_in counts = count_by (λ count. count == 0) counts

-- a page with rows isn't void
voids-push : (counts : List ℕ) (rows : ℕ) → 0 < rows → voids_in (counts ++ rows ∷ []) ≡ voids_in counts
voids-push counts rows some =
    let test : (rows == 0) ≡ false = ne_eqb rows 0 (λ e. omega (arith, some, e)) in
    let one : voids_in (rows ∷ []) ≡ 0 = ap (λ (b : Bool). 0 + cond b 1 0) test in
    omega (arith, sum_by-append (λ (n : ℕ). cond (n == 0) 1 0) counts (rows ∷ []), one)

-- the void pages that go with a seal, and those that stay
module _ (plan : Plan) (table : Table) (shape : model.IsShape (shape_of plan DataRing)) (facts : model.IsRing (shape_of plan DataRing) table.rows) (some : 0 < table.pending) where
  pub record GivesUp (ring : model.Ring) : Type 0 where
    pub few : model.oldest ring - model.oldest table.rows ≤ length table.rows.counts
    pub voids : voids_in table.rows.counts ≡ voids_in (take (model.oldest ring - model.oldest table.rows) table.rows.counts) + voids_in ring.counts

  more : length (table.rows.counts ++ table.pending ∷ []) ≡ length table.rows.counts + 1
  more = length-append table.rows.counts (table.pending ∷ [])

  pub gives-up : GivesUp (after_seal plan DataRing table).rows
  gives-up = by_test (model.is_full (shape_of plan DataRing) (model.extended table.pending table.rows)) refl
    where
      take_none : (xs : List ℕ) → voids_in (take 0 xs) ≡ 0
      take_none [] = refl
      take_none (x ∷ xs) = refl

      by_test : (b : Bool) → model.is_full (shape_of plan DataRing) (model.extended table.pending table.rows) ≡ b →
          GivesUp (model.erased (cond b (record (model.extended table.pending table.rows) { counts = drop plan.geometry.block (table.rows.counts ++ table.pending ∷ []); dirty = true }) (model.extended table.pending table.rows)))
      by_test true e =
          let all = table.rows.counts ++ table.pending ∷ [] in
          let lt = ltb-true ((plan.data_blocks - 1) * plan.geometry.block - 1) (length (table.rows.counts ++ table.pending ∷ [])) (and_right (((table.rows.next + 1) % plan.geometry.block) == plan.geometry.block - 1) _ e) in
          let two : 2 * plan.geometry.block ≤ (plan.data_blocks - 1) * plan.geometry.block = mul-le-mul_right plan.geometry.block (let k : 2 ≤ plan.data_blocks - 1 = omega (arith, shape.blocks) in k) in
          let enough : plan.geometry.block ≤ length table.rows.counts = omega (arith, lt, two, more, shape.pages) in
          let left = length-drop plan.geometry.block (table.rows.counts ++ table.pending ∷ []) in
          let gone : table.rows.next + 1 - length (drop plan.geometry.block (table.rows.counts ++ table.pending ∷ [])) - model.oldest table.rows ≡ plan.geometry.block =
          omega (arith, left, more, enough, facts.not_negative) in
          let stay : voids_in (drop plan.geometry.block (table.rows.counts ++ table.pending ∷ [])) ≡ voids_in (drop plan.geometry.block table.rows.counts) =
          ap (λ (l : List ℕ). voids_in l) (drop-append-le plan.geometry.block table.rows.counts (table.pending ∷ []) enough) ∙ voids-push (drop plan.geometry.block table.rows.counts) table.pending some in
          let both = sum_by-take-drop (λ (n : ℕ). cond (n == 0) 1 0) table.rows.counts plan.geometry.block in
          record {
            few = omega (arith, gone, enough);
            voids = omega (arith, ap (λ k. voids_in (take k table.rows.counts)) gone, stay, both);
          }
      by_test false e =
          let gone : table.rows.next + 1 - length (table.rows.counts ++ table.pending ∷ []) - model.oldest table.rows ≡ 0 = omega (arith, more, facts.not_negative) in
          record {
            few = omega (arith, gone);
            voids = omega (arith, ap (λ k. voids_in (take k table.rows.counts)) gone, take_none table.rows.counts, voids-push table.rows.counts table.pending some);
          }

use Rattle.std.proofs.Common.{◌≡◌, ℕ, ◌%◌, ◌<◌, Some, length, get_or, ap, sym, ◌∙◌, subst, arith}
use Rattle.std.specs.Prelude.{vec_len}
use Rattle.std.proofs.lemmas.List.{get_or_read}
use Rattle.std.proofs.Math.Nat.{mod-lt}
use Rattle.fl_table.specs.Look.{rows_noted}
use Rattle.fl_table.specs.declared.table.Table.{Table}
use Rattle.fl_table.proofs.MemoryTells.{noted-is}
use Rattle.fl_parts.proofs.Writers.{some-room}
use Rattle.fl_table.proofs.table.Table.rows_of.Goals as goal

-- there is a count for each page of the ring, which has some
module _ {KNOTS SLOTS : ℕ} (t : Table KNOTS SLOTS) (len : ℕ) (is : len ≡ vec_len t.counts) where
  some-counts : 0 < len
  some-counts = omega (arith, is, t.counted, some-room t.place.blocks t.geometry.block t.some_blocks t.served.block_least)

  within-counts : (number : ℕ) → number % len < length t.counts.items
  within-counts number = omega (arith, mod-lt number some-counts, is, t.counts.ok.0)

  below-counts : (number : ℕ) → number % len < vec_len t.counts
  below-counts number = subst (λ (n : ℕ). number % len < n) is (mod-lt number some-counts)

pub nonzero_rem-at : goal.nonzero_rem-at
nonzero_rem-at g c = some-counts c.args.self.now c.len.result c.len.ensures

pub index-requires : goal.index-requires
index-requires g c = below-counts c.args.self.now c.len.result c.len.ensures c.args.number

pub returns-clause-stands : goal.returns-clause-stands
returns-clause-stands g c = λ f first plan table stands low high.
    let t = c.args.self.now in
    let number = c.args.number in
    let read : c.index.result.now ≡ get_or t.counts.items (number % c.len.result) 0 = get_or_read t.counts.items _ _ (within-counts t c.len.result c.len.ensures number) c.index.ensures 0 in
    let same : rows_noted t number ≡ c.from.result = ap (λ n. get_or t.counts.items (number % n) 0) (sym c.len.ensures) ∙ (sym read ∙ sym c.from.ensures) in
    noted-is t f first plan table stands number low high ∙ ap (λ (n : ℕ). Some n) same

pub returns-clause-exact : goal.returns-clause-exact
returns-clause-exact g c =
    let t = c.args.self.now in
    let number = c.args.number in
    c.from.ensures ∙ (get_or_read t.counts.items _ _ (within-counts t c.len.result c.len.ensures number) c.index.ensures 0 ∙ ap (λ n. get_or t.counts.items (number % n) 0) c.len.ensures)

use Rattle.std.proofs.Common.{◌≡◌, ℕ, ◌+◌, ◌-◌, ◌≤◌, ◌==◌, cond, map, ap, sym, ◌∙◌, subst, arith}
use Rattle.std.proofs.lemmas.List.FromFn.{sum_by-map-range_with_len_more}
use Rattle.std.specs.List.{sum, count_by, range_with_len}
use Rattle.fl_table.specs.Look.{oldest_in, rows_noted}
use Rattle.fl_table.specs.Memory.{next_in}
use Rattle.fl_table.specs.declared.counts.TableCounts.{TableCounts}
use Rattle.fl_table.proofs.MemoryTells.{counts-is, counts-told, counts-lost}
use Rattle.fl_parts.proofs.Sizes.{table-fits}
use Rattle.fl_parts.proofs.Voids.{is-void, not-void, voids_few}
use Rattle.fl_table.proofs.table.Table.counts.Goals as goal
use Rattle.fl_table.proofs.table.Table.counts.Goals.{then-rows-eq0, else-rows-eq0}

pub loop-number-preserved : goal.loop-number-preserved
loop-number-preserved g c =
    let t = c.args.self.now in
    let number = c.loop-number.number in
    let n = number - oldest_in t in
    let inv = c.loop-number.invariant in
    let rows = c.rows_of-rows.result in
    let more : number + 1 - oldest_in t ≡ n + 1 = omega (arith, inv.from) in
    let here : oldest_in t + n ≡ number = omega (arith, inv.from) in
    let all : sum (map (rows_noted t) (range_with_len (oldest_in t) (number + 1 - oldest_in t))) ≡ sum (map (rows_noted t) (range_with_len (oldest_in t) n)) + rows_noted t number =
    ap (λ k. sum (map (rows_noted t) (range_with_len (oldest_in t) k))) more ∙ sum_by-map-range_with_len_more (λ x. x) (rows_noted t) (oldest_in t) n number here in
    let gone : count_by (λ count. count == 0) (map (rows_noted t) (range_with_len (oldest_in t) (number + 1 - oldest_in t)))
    ≡ count_by (λ count. count == 0) (map (rows_noted t) (range_with_len (oldest_in t) n)) + cond (rows_noted t number == 0) 1 0 =
    ap (λ k. count_by (λ count. count == 0) (map (rows_noted t) (range_with_len (oldest_in t) k))) more
    ∙ sum_by-map-range_with_len_more (λ x. cond (x == 0) 1 0) (rows_noted t) (oldest_in t) n number here in
    let rows_is : c.if-rows-eq0.counts.rows ≡ c.loop-number.counts.rows + rows = elim c.if-rows-eq0.branch [
      | then-rows-eq0 w ↦ omega (arith, ap (λ (x : TableCounts). x.rows) w.counts-is, c.from-in-loop-number.ensures)
      | else-rows-eq0 w ↦ omega (arith, ap (λ (x : TableCounts). x.rows) w.counts-is, c.from-in-loop-number.ensures)
    ] in
    let pending_is : c.if-rows-eq0.counts.pending ≡ c.loop-number.counts.pending = elim c.if-rows-eq0.branch [
      | then-rows-eq0 w ↦ ap (λ (x : TableCounts). x.pending) w.counts-is
      | else-rows-eq0 w ↦ ap (λ (x : TableCounts). x.pending) w.counts-is
    ] in
    let pages_is : c.if-rows-eq0.counts.pages ≡ c.loop-number.counts.pages = elim c.if-rows-eq0.branch [
      | then-rows-eq0 w ↦ ap (λ (x : TableCounts). x.pages) w.counts-is
      | else-rows-eq0 w ↦ ap (λ (x : TableCounts). x.pages) w.counts-is
    ] in
    let voids_is : c.if-rows-eq0.counts.voids ≡ c.loop-number.counts.voids + cond (rows == 0) 1 0 = elim c.if-rows-eq0.branch [
      | then-rows-eq0 w ↦ is-void rows c.loop-number.counts.voids c.if-rows-eq0.counts.voids w.if-rows-eq0.true (ap (λ (x : TableCounts). x.voids) w.counts-is)
      | else-rows-eq0 w ↦ not-void rows c.loop-number.counts.voids c.if-rows-eq0.counts.voids w.if-rows-eq0.false (ap (λ (x : TableCounts). x.voids) w.counts-is)
    ] in
    let void = ap {B = ℕ} (λ (k : ℕ). cond (k == 0) 1 0) c.rows_of-rows.ensures.exact in
    record {
      from = omega (arith, inv.from);
      rows = omega (arith, rows_is, inv.rows, all, c.rows_of-rows.ensures.exact);
      pending = pending_is ∙ inv.pending;
      pages = pages_is ∙ inv.pages;
      voids = voids_is ∙ (omega (arith, inv.voids, gone, void));
      rows_few = omega (arith, rows_is, inv.rows_few, c.rows_of-rows.ensures.few, more);
      voids_few = omega (arith, voids_few rows c.loop-number.counts.voids c.if-rows-eq0.counts.voids voids_is, inv.voids_few, more);
    }

pub returns-clause-stands : goal.returns-clause-stands
returns-clause-stands g c = λ f first plan table stands.
    let t = c.args.self.now in
    let inv = c.loop-number.invariant in
    let last : c.loop-number.number - oldest_in t ≡ next_in t - oldest_in t =
    omega (arith, c.loop-number-test.false, c.loop-number.auto.number-end, c.oldest-oldest.ensures.exact, c.next_number-next.ensures.exact, c.next_number-next.ensures.ordered) in
    counts-told t c.loop-number.counts (c.loop-number.number - oldest_in t) last inv.rows inv.pending inv.pages inv.voids ∙ counts-is t f first plan table stands

pub returns-clause-exact : goal.returns-clause-exact
returns-clause-exact g c =
    let t = c.args.self.now in
    let inv = c.loop-number.invariant in
    let last : c.loop-number.number - oldest_in t ≡ next_in t - oldest_in t =
    omega (arith, c.loop-number-test.false, c.loop-number.auto.number-end, c.oldest-oldest.ensures.exact, c.next_number-next.ensures.exact, c.next_number-next.ensures.ordered) in
    counts-told t c.loop-number.counts (c.loop-number.number - oldest_in t) last inv.rows inv.pending inv.pages inv.voids

pub oldest-oldest-requires : goal.oldest-oldest-requires
oldest-oldest-requires g c = table-fits g.row.KNOTS g.row.SLOTS c.args.self.now.few_knots c.args.self.now.few_slots

pub next_number-next-requires : goal.next_number-next-requires
next_number-next-requires g c = table-fits g.row.KNOTS g.row.SLOTS c.args.self.now.few_knots c.args.self.now.few_slots

pub pending_rows-pending-requires : goal.pending_rows-pending-requires
pending_rows-pending-requires g c = table-fits g.row.KNOTS g.row.SLOTS c.args.self.now.few_knots c.args.self.now.few_slots

pub rows_of-rows-requires : goal.rows_of-rows-requires
rows_of-rows-requires g c = table-fits g.row.KNOTS g.row.SLOTS c.args.self.now.few_knots c.args.self.now.few_slots

pub returns-clause-stopped : goal.returns-clause-stopped
returns-clause-stopped g c = λ down. returns-clause-exact g c ∙ counts-lost c.args.self.now down

pub overflow_sub-counts : goal.overflow_sub-counts
overflow_sub-counts g c = subst (λ (n : ℕ). n ≤ c.next_number-next.result) (sym c.oldest-oldest.ensures.exact) c.next_number-next.ensures.ordered

use Rattle.std.proofs.Common.{ℕ, ◌-◌, ◌≤◌, sym, ◌∙◌, ap, subst, ◌≡◌, Bool, true, false}
use Rattle.std.specs.Prelude.{if◌then◌else◌}
use Rattle.fl_find.specs.Index.{most_reads}
use Rattle.fl_table.specs.Finding.{is_pending_in, limit_in}
use Rattle.fl_table.specs.Look.{oldest_in}
use Rattle.fl_table.specs.declared.table.Table.{Table}
use Rattle.fl_table.specs.Memory.{next_in}
use Rattle.fl_parts.proofs.RowsFound.{limit-pending}
use Rattle.fl_table.proofs.Finds.{limit-told}
use Rattle.fl_table.proofs.MemoryTells.{pages-is}
use Rattle.fl_parts.proofs.Sizes.{table-fits, index-fits}
use Rattle.fl_table.proofs.table.Table.lookup_limit.Goals as goal

module _ {KNOTS SLOTS : ℕ} (t : Table KNOTS SLOTS) (key : ℕ) where
  none : is_pending_in t key ≡ true → 0 ≡ limit_in t key
  none is = sym (ap (λ (b : Bool). if b then 0 else most_reads t.index (next_in t - oldest_in t) t.voids key) is)

  told : is_pending_in t key ≡ false → (limit : ℕ) → limit ≡ most_reads t.index (next_in t - oldest_in t) t.voids key → limit ≡ limit_in t key
  told is limit e = e ∙ sym (ap (λ (b : Bool). if b then 0 else most_reads t.index (next_in t - oldest_in t) t.voids key) is)

  pages : (next oldest : ℕ) → next ≡ next_in t → oldest ≡ oldest_in t → most_reads t.index (next - oldest) t.voids key ≡ most_reads t.index (next_in t - oldest_in t) t.voids key
  pages next oldest e f = ap (λ n. most_reads t.index (n - oldest) t.voids key) e ∙ ap (λ n. most_reads t.index (next_in t - n) t.voids key) f

pub returns : goal.returns
returns g c = record {
  exact = told c.args.self.now c.args.key (sym c.is_pending_key.ensures.exact ∙ c.if-is_pending_key.false) _ (c.lookup_limit.ensures ∙ pages c.args.self.now c.args.key _ _ c.next_number.ensures.exact c.oldest.ensures.exact);
  stands = λ f first plan table stands.
      c.lookup_limit.ensures
      ∙ limit-told c.args.self.now f first plan table c.args.key (c.next_number.result - c.oldest.result) stands (sym (c.is_pending_key.ensures.stands f first plan table stands) ∙ c.if-is_pending_key.false)
      (ap (λ n. n - c.oldest.result) c.next_number.ensures.exact ∙ (ap (λ n. next_in c.args.self.now - n) c.oldest.ensures.exact ∙ pages-is c.args.self.now f first plan table stands));
}

pub returns-then-is_pending_key : goal.returns-then-is_pending_key
returns-then-is_pending_key g c = record {
  exact = none c.args.self.now c.args.key (sym c.is_pending_key.ensures.exact ∙ c.if-is_pending_key.true);
  stands = λ f first plan table stands. limit-pending _ plan table c.args.key (sym (c.is_pending_key.ensures.stands f first plan table stands) ∙ c.if-is_pending_key.true);
}

pub is_pending_key-requires : goal.is_pending_key-requires
is_pending_key-requires g c = table-fits g.row.KNOTS g.row.SLOTS c.args.self.now.few_knots c.args.self.now.few_slots

pub next_number-requires : goal.next_number-requires
next_number-requires g c = table-fits g.row.KNOTS g.row.SLOTS c.args.self.now.few_knots c.args.self.now.few_slots

pub oldest-requires : goal.oldest-requires
oldest-requires g c = table-fits g.row.KNOTS g.row.SLOTS c.args.self.now.few_knots c.args.self.now.few_slots

pub overflow_sub-pages : goal.overflow_sub-pages
overflow_sub-pages g c = subst (λ (n : ℕ). n ≤ c.next_number.result) (sym c.oldest.ensures.exact) c.next_number.ensures.ordered

pub lookup_limit-requires : goal.lookup_limit-requires
lookup_limit-requires g c = index-fits g.row.KNOTS g.row.SLOTS c.args.self.now.few_knots c.args.self.now.few_slots

use Rattle.std.proofs.Common.{◌≡◌, ℕ, ◌+◌, ◌-◌, ◌/◌, ◌<◌, ◌≤◌, List, ap, sym, ◌∙◌, subst, lit≤, le_refl, le_trans, le_antisymm, le-add_right, le_of_lt, lt_of_le_of_lt, lt_of_lt_of_le, lt_irrefl}
use Rattle.fl_model.specs.Record.{RowLayout}
use Rattle.fl_model.specs.Row.{row_in}
use Rattle.fl_schema.specs.Schema.{bytes_of}
use Rattle.fl_page.specs.Page.{key_at}
use Rattle.fl_page.specs.View.{page_of, layout_of_page, count_of}
use Rattle.fl_page.proofs.Views.{middle-less, search-above, search-below, none-before, from-none, more-than, up-to}
use Rattle.fl_page.proofs.view.PageView.seek.Goals as goal

pub loop-low-init : goal.loop-low-init
loop-low-init g c = record {
  order = from-none _;
  within = le_refl _;
  below = λ rising i less. none-before i less;
  at_least = λ less. absurd (lt_irrefl _ less);
}

pub overflow_sub-middle : goal.overflow_sub-middle
overflow_sub-middle g c = c.loop-low.invariant.order

pub row-requires : goal.row-requires
row-requires g c = (lit≤ tt, lt_of_lt_of_le (middle-less c.loop-low.low c.loop-low.high c.loop-low-test.true) c.loop-low.invariant.within)

pub loop-low-smaller-then-key : goal.loop-low-smaller-then-key
loop-low-smaller-then-key g c = search-above _ _ _ (le-add_right _ _) (middle-less c.loop-low.low c.loop-low.high c.loop-low-test.true)

pub loop-low-smaller : goal.loop-low-smaller
loop-low-smaller g c = search-below _ _ _ (le-add_right _ _) (middle-less c.loop-low.low c.loop-low.high c.loop-low-test.true)

pub loop-low-preserved-then-key : goal.loop-low-preserved-then-key
loop-low-preserved-then-key g c =
    let i = c.loop-low.invariant in
    let middle = c.loop-low.low + (c.loop-low.high - c.loop-low.low) / 2 in
    let less = middle-less c.loop-low.low c.loop-low.high c.loop-low-test.true in
    let key : c.key.result ≡ key_at (layout_of_page c.args.self.now) (page_of c.args.self.now) (c.loop-low.low + (c.loop-low.high - c.loop-low.low) / 2)
    = c.key.ensures ∙ ap (λ (layout : RowLayout). (row_in layout (bytes_of c.row.result)).key) c.row.ensures.layout ∙ ap (λ (bytes : List ℕ). (row_in (layout_of_page c.args.self.now) bytes).key) c.row.ensures.bytes in
    record {
      order = more-than less;
      within = i.within;
      below = λ rising j lt. lt_of_le_of_lt (rising j middle (up-to lt) (lt_of_lt_of_le less i.within)) (subst (λ (n : ℕ). n < c.args.key) key c.if-key.true);
      at_least = i.at_least;
    }

pub loop-low-preserved : goal.loop-low-preserved
loop-low-preserved g c =
    let i = c.loop-low.invariant in
    let less = middle-less c.loop-low.low c.loop-low.high c.loop-low-test.true in
    let key : c.key.result ≡ key_at (layout_of_page c.args.self.now) (page_of c.args.self.now) (c.loop-low.low + (c.loop-low.high - c.loop-low.low) / 2)
    = c.key.ensures ∙ ap (λ (layout : RowLayout). (row_in layout (bytes_of c.row.result)).key) c.row.ensures.layout ∙ ap (λ (bytes : List ℕ). (row_in (layout_of_page c.args.self.now) bytes).key) c.row.ensures.bytes in
    record {
      order = le-add_right _ _;
      within = le_trans (le_of_lt less) i.within;
      below = i.below;
      at_least = λ before. subst (λ (n : ℕ). c.args.key ≤ n) key c.if-key.false;
    }

pub returns-clause-within : goal.returns-clause-within
returns-clause-within g c = le_trans c.loop-low.invariant.order c.loop-low.invariant.within

pub returns-clause-below : goal.returns-clause-below
returns-clause-below g c = c.loop-low.invariant.below

pub returns-clause-at_least : goal.returns-clause-at_least
returns-clause-at_least g c = λ less.
    let i = c.loop-low.invariant in
    let same = le_antisymm i.order c.loop-low-test.false in
    subst (λ (n : ℕ). c.args.key ≤ key_at (layout_of_page c.args.self.now) (page_of c.args.self.now) n) (sym same) (i.at_least (subst (λ (n : ℕ). n < count_of c.args.self.now) same less))

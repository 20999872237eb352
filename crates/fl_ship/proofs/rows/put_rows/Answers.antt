use Rattle.std.proofs.Common.{ℕ, ◌+◌, ◌<◌, ◌≤◌, true, false, Some, Ok, Err, ◌∷◌, IsTrue, refl, sym, ◌∙◌, ap, subst, arith}
use Rattle.std.proofs.Math.Nat.{le_of_lt, le_refl}
use Rattle.std.proofs.lemmas.Result.{err_from_is_err_and}
use Rattle.fl_flash.specs.Flash.{page_at}
use Rattle.fl_frame.proofs.CallsInTurn.{goes-same, goes-then}
use Rattle.fl_model.specs.Record.{RowLayout}
use Rattle.fl_model.specs.Row.{Row}
use Rattle.fl_ops.proofs.ContinuedRows.{Continues-then}
use Rattle.fl_frame.specs.Contents.{Contents, contents_of}
use Rattle.fl_page.specs.Steps.{Steps}
use Rattle.fl_page.specs.declared.fault.ReadFault.TheVariants as read
use Rattle.fl_page.proofs.ReadsInTurn.{IsCaused-later}
use Rattle.fl_frame.proofs.ContentsInTurn.{OnlyReads-same, OnlyReads-then}
use Rattle.fl_rlc.specs.Table.{table_in}
use Rattle.fl_schema.specs.Schema.{row_of}
use Rattle.fl_table.specs.Look.{last_key_in}
use Rattle.fl_store.proofs.CallsInTurn.{same-plan, same-on}
use Rattle.fl_store.proofs.Outsides.{outside-then}
use Rattle.fl_table.specs.declared.faults.PutRefusal.TheVariants as put
use Rattle.fl_ship.specs.Rows.{AreTaken}
use Rattle.fl_ship.specs.declared.fault.ShipFault.TheVariants.{Read, Put}
use Rattle.fl_ship.proofs.Faults.{done-not-failed, goes-on-refused, put-caused-later, put-not-read, read-not-put, reads-behind, reads-whole, same-read, told-good}
use Rattle.fl_ship.proofs.RowsSoFar.{above-next, far-none, far-more, left-behind, number-end, put-end, put-refused, put-unread, put-whole, taken-behind, unread-behind, work-end, work-refused, work-unread, work-whole}
use Rattle.fl_ship.proofs.Numbers.{few-left, risen-more, risen-none, same-refusal}
use Rattle.fl_ship.proofs.rows.put_rows.Goals as goal

pub puts-init : goal.puts-init
puts-init g c = record {
  counts = OnlyReads-same _;
  goes = goes-same _;
  same = same-plan c.args.to.now;
  lies = c.requires.lies;
  outside = λ tells page rows index blobs log. refl;
  running = c.requires.running;
  power = λ on. on;
  above = c.requires.above;
  input = record {
    same_names = refl;
    same_schema = refl;
    never_falls = λ key is. is;
    stays_ready = λ contents is. is;
    same_test = λ contents bad. (λ is. is, λ is. is);
    stays_told = λ is. is;
  };
  reads = λ told. omega arith;
  numbers = risen-none c.args.to.now;
  far = far-none _ _ _ _;
}

pub returns-in_err-step-clause-puts : goal.returns-in_err-step-clause-puts
returns-in_err-step-clause-puts g c = λ first plan t works.
    let p = err_from_is_err_and c.from_residual.result c.from_residual.ensures.1 in
    rw (p.1, p.2) (put-unread _ _ _ _ c.args.count _ _ _ _ c.puts.invariant.far (omega (arith, c.puts-test.true)) first plan t works c.in_err-step.field-0.0)

pub returns-in_err-step-clause-cut : goal.returns-in_err-step-clause-cut
returns-in_err-step-clause-cut g c = λ first plan t rose device w stands.
    let inv = c.puts.invariant in
    let fault = c.in_err-step.field-0.0 in
    let taken : ℕ → Type 0 = AreTaken (g.R.Rows.told c.args.rows.now (contents_of (g.A.Flash.state c.args.from.now))) c.args.count (g.R.Rows.left c.args.rows.now (contents_of (g.A.Flash.state c.args.from.now))) (g.R.Rows.left c.step.new.self (contents_of (g.A.Flash.state c.args.from.now))) in
    let steps = subst (λ (k : Contents). g.R.Rows.told c.puts.rows k → Steps (Err fault) (g.R.Rows.left c.puts.rows k) (g.R.RowHere.present c.step.new.self) (g.R.Rows.left c.step.new.self k)) inv.counts.contents
    c.in_err-step.ensures.steps in
    let p = err_from_is_err_and c.from_residual.result c.from_residual.ensures.1 in
    rw (p.1, p.2) (work-unread _ _ _ _ c.args.count _ _ _ _ inv.far (omega (arith, c.puts-test.true)) first plan t taken rose device w stands fault
    (taken-behind _ _ _ _ c.args.count _ _ _ _ inv.far (omega (arith, c.puts-test.true)) fault (g.R.RowHere.present c.step.new.self) _ (λ told. steps (inv.input.stays_told told)) c.puts-test.true))

pub returns-in_err-step-clause-cause : goal.returns-in_err-step-clause-cause
returns-in_err-step-clause-cause g c =
    let p = err_from_is_err_and c.from_residual.result c.from_residual.ensures.1 in
    rw (p.1, p.2) (IsCaused-later (g.A.Flash.state c.args.from.now) (g.A.Flash.state c.puts.from) (g.A.Flash.state c.step.new.flash) c.in_err-step.field-0.0 c.puts.invariant.counts c.in_err-step.ensures.cause)

pub returns-in_err-step-clause-unread : goal.returns-in_err-step-clause-unread
returns-in_err-step-clause-unread g c = λ told fault is.
    let inv = c.puts.invariant in
    let steps = subst (λ (k : Contents). g.R.Rows.told c.puts.rows k → Steps (Err c.in_err-step.field-0.0) (g.R.Rows.left c.puts.rows k) (g.R.RowHere.present c.step.new.self) (g.R.Rows.left c.step.new.self k)) inv.counts.contents
    c.in_err-step.ensures.steps in
    unread-behind _ _ _ _ c.args.count _ _ _ _ inv.far (omega (arith, c.puts-test.true)) c.in_err-step.field-0.0 (g.R.RowHere.present c.step.new.self) _ (λ told. steps (inv.input.stays_told told)) c.puts-test.true told

pub returns-in_err-step-clause-reads_only : goal.returns-in_err-step-clause-reads_only
returns-in_err-step-clause-reads_only g c = OnlyReads-then _ _ _ c.puts.invariant.counts c.step.ensures.reads_only

pub returns-then-not-branch-clause-puts : goal.returns-then-not-branch-clause-puts
returns-then-not-branch-clause-puts g c = λ first plan t works.
    let inv = c.puts.invariant in
    put-end _ _ _ _ c.args.count _ _ _ _ inv.far (omega (arith, c.puts-test.true)) first plan t works
    (λ told.
    let steps = subst (λ (k : Contents). g.R.Rows.told c.puts.rows k → Steps (Ok false) (g.R.Rows.left c.puts.rows k) (g.R.RowHere.present c.step.new.self) (g.R.Rows.left c.step.new.self k)) inv.counts.contents
    (rw c.if-not-branch.true at c.in_ok-step.ensures.steps) in
    (steps (inv.input.stays_told told)).0)

pub returns-then-not-branch-clause-cut : goal.returns-then-not-branch-clause-cut
returns-then-not-branch-clause-cut g c = λ first plan t rose device w stands.
    let inv = c.puts.invariant in
    work-end _ _ _ _ c.args.count _ _ _ _ inv.far (omega (arith, c.puts-test.true)) first plan t (AreTaken (g.R.Rows.told c.args.rows.now (contents_of (g.A.Flash.state c.args.from.now))) c.args.count (g.R.Rows.left c.args.rows.now (contents_of (g.A.Flash.state c.args.from.now))) (g.R.Rows.left c.step.new.self (contents_of (g.A.Flash.state c.args.from.now)))) rose device w stands
    (λ told.
    let steps = subst (λ (k : Contents). g.R.Rows.told c.puts.rows k → Steps (Ok false) (g.R.Rows.left c.puts.rows k) (g.R.RowHere.present c.step.new.self) (g.R.Rows.left c.step.new.self k)) inv.counts.contents
    (rw c.if-not-branch.true at c.in_ok-step.ensures.steps) in
    (steps (inv.input.stays_told told)).0)

pub returns-then-not-branch-clause-above : goal.returns-then-not-branch-clause-above
returns-then-not-branch-clause-above g c = λ last key is above. c.puts.invariant.above last key is (c.step.ensures.never_falls key above)

pub returns-then-not-branch-clause-reads_only : goal.returns-then-not-branch-clause-reads_only
returns-then-not-branch-clause-reads_only g c = OnlyReads-then _ _ _ c.puts.invariant.counts c.step.ensures.reads_only

pub put_row-requires-clause-above : goal.put_row-requires-clause-above
put_row-requires-clause-above g c = λ last is.
    let key = rw c.if-not-branch.false at c.in_ok-step.ensures.key in
    subst (λ (r : Row). last < r.key) (sym c.row.ensures.row) (c.puts.invariant.above last (g.R.RowHere.present c.step.new.self).key is key.1)

pub returns-in_err-put_row-clause-puts : goal.returns-in_err-put_row-clause-puts
returns-in_err-put_row-clause-puts g c = λ first plan t works.
    let inv = c.puts.invariant in
    let p = err_from_is_err_and c.from_residual-in_err-put_row.result c.from_residual-in_err-put_row.ensures.1 in
    let e = c.in_err-put_row.ensures in
    rw (p.1, p.2) (put-refused _ _ _ _ c.args.count _ _ _ _ inv.far (omega (arith, c.puts-test.true)) (row_of c.row.result) (g.R.Rows.left c.step.new.self (contents_of (g.A.Flash.state c.args.from.now)))
    c.put_row.new.to (g.B.Flash.state c.put_row.new.onto) inv.goes c.put_row.ensures.goes
    (λ told.
    let steps = subst (λ (k : Contents). g.R.Rows.told c.puts.rows k → Steps (Ok true) (g.R.Rows.left c.puts.rows k) (g.R.RowHere.present c.step.new.self) (g.R.Rows.left c.step.new.self k)) inv.counts.contents
    (rw c.if-not-branch.false at c.in_ok-step.ensures.steps) in
    steps (inv.input.stays_told told) ∙ ap (λ (r : Row). r ∷ g.R.Rows.left c.step.new.self (contents_of (g.A.Flash.state c.args.from.now))) (sym c.row.ensures.row))
    c.puts-test.true c.in_err-put_row.field-0.0 e.cause e.refused e.ends first plan t works)

pub returns-in_err-put_row-clause-cut : goal.returns-in_err-put_row-clause-cut
returns-in_err-put_row-clause-cut g c = λ first plan t rose device w stands.
    let inv = c.puts.invariant in
    let e = c.in_err-put_row.ensures in
    let p = err_from_is_err_and c.from_residual-in_err-put_row.result c.from_residual-in_err-put_row.ensures.1 in
    rw (p.1, p.2) (work-refused _ _ _ _ c.args.count _ _ _ _ inv.far (omega (arith, c.puts-test.true)) (row_of c.row.result) (g.R.Rows.left c.step.new.self (contents_of (g.A.Flash.state c.args.from.now)))
    c.put_row.new.to (g.B.Flash.state c.put_row.new.onto) inv.goes c.put_row.ensures.goes
    (λ told.
    let steps = subst (λ (k : Contents). g.R.Rows.told c.puts.rows k → Steps (Ok true) (g.R.Rows.left c.puts.rows k) (g.R.RowHere.present c.step.new.self) (g.R.Rows.left c.step.new.self k)) inv.counts.contents
    (rw c.if-not-branch.false at c.in_ok-step.ensures.steps) in
    steps (inv.input.stays_told told) ∙ ap (λ (r : Row). r ∷ g.R.Rows.left c.step.new.self (contents_of (g.A.Flash.state c.args.from.now))) (sym c.row.ensures.row))
    c.puts-test.true c.in_err-put_row.field-0.0 e.cause e.refused e.ends first plan t (AreTaken (g.R.Rows.told c.args.rows.now (contents_of (g.A.Flash.state c.args.from.now))) c.args.count (g.R.Rows.left c.args.rows.now (contents_of (g.A.Flash.state c.args.from.now))) (g.R.Rows.left c.step.new.self (contents_of (g.A.Flash.state c.args.from.now)))) rose device w stands)

pub returns-in_err-put_row-clause-rows : goal.returns-in_err-put_row-clause-rows
returns-in_err-put_row-clause-rows g c =
    let inv = c.puts.invariant in
    let s = c.step.ensures in
    Continues-then _ _ _ inv.input (record {
      same_names = s.names;
      same_schema = s.schema;
      never_falls = s.never_falls;
      stays_ready = s.stays_ready;
      same_test = s.same_test;
      stays_told = subst (λ (k : Contents). g.R.Rows.told c.puts.rows k → g.R.Rows.told c.step.new.self k) inv.counts.contents s.stays_told;
    })

pub returns-in_err-put_row-clause-reads_only : goal.returns-in_err-put_row-clause-reads_only
returns-in_err-put_row-clause-reads_only g c = OnlyReads-then _ _ _ c.puts.invariant.counts c.step.ensures.reads_only

pub returns-in_err-put_row-clause-outside : goal.returns-in_err-put_row-clause-outside
returns-in_err-put_row-clause-outside g c = λ tells.
    let i = c.puts.invariant in
    outside-then c.args.to.now c.puts.to (page_at (g.B.Flash.state c.args.onto.now)) (page_at (g.B.Flash.state c.puts.onto)) (page_at (g.B.Flash.state c.put_row.new.onto)) i.same (i.outside tells)
    (c.put_row.ensures.outside (subst IsTrue (sym i.goes.tells) tells))

pub returns-in_err-put_row-clause-same : goal.returns-in_err-put_row-clause-same
returns-in_err-put_row-clause-same g c = same-on _ _ _ c.puts.invariant.same c.put_row.ensures.same

pub puts-preserved : goal.puts-preserved
puts-preserved g c =
    let inv = c.puts.invariant in
    let s = c.step.ensures in
    let p = c.put_row.ensures in
    let e = c.in_ok-put_row.ensures in
    let key = rw c.if-not-branch.false at c.in_ok-step.ensures.key in
    record {
      counts = OnlyReads-then _ _ _ inv.counts s.reads_only;
      goes = goes-then _ _ _ inv.goes p.goes;
      same = same-on _ _ _ inv.same p.same;
      lies = p.lies;
      outside = λ tells. outside-then c.args.to.now c.puts.to (page_at (g.B.Flash.state c.args.onto.now)) (page_at (g.B.Flash.state c.puts.onto)) (page_at (g.B.Flash.state c.put_row.new.onto)) inv.same (inv.outside tells)
          (p.outside (subst IsTrue (sym inv.goes.tells) tells));
      running = e.running;
      power = λ on. e.power (inv.power on);
      above = λ last other is above. above-next (last_key_in (table_in c.put_row.new.to)) (g.R.RowHere.above c.step.new.self) (g.R.RowHere.present c.step.new.self).key last other (e.last ∙ ap (λ (r : Row). Some r.key) c.row.ensures.row) key.0 is above;
      input = Continues-then _ _ _ inv.input (record {
        same_names = s.names;
        same_schema = s.schema;
        never_falls = s.never_falls;
        stays_ready = s.stays_ready;
        same_test = s.same_test;
        stays_told = subst (λ (k : Contents). g.R.Rows.told c.puts.rows k → g.R.Rows.told c.step.new.self k) inv.counts.contents s.stays_told;
      });
      reads = λ told.
          let before = inv.reads told in
          let more = subst (λ (k : Contents). g.R.Rows.told c.puts.rows k → (g.A.Flash.state c.step.new.flash).work.reads + g.R.Rows.most c.step.new.self k ≤ (g.A.Flash.state c.puts.from).work.reads + g.R.Rows.most c.puts.rows k) inv.counts.contents
          c.in_ok-step.ensures.most (inv.input.stays_told told) in
          omega (arith, before, more);
      numbers = risen-more c.args.to.now c.puts.to c.put_row.new.to c.puts.shipped inv.numbers e.numbers;
      far = far-more _ _ _ _ c.args.count _ _ _ _ inv.far (omega (arith, c.puts-test.true)) (row_of c.row.result) (g.R.Rows.left c.step.new.self (contents_of (g.A.Flash.state c.args.from.now)))
          c.put_row.new.to (g.B.Flash.state c.put_row.new.onto) inv.goes p.goes
          (λ told.
          let steps = subst (λ (k : Contents). g.R.Rows.told c.puts.rows k → Steps (Ok true) (g.R.Rows.left c.puts.rows k) (g.R.RowHere.present c.step.new.self) (g.R.Rows.left c.step.new.self k)) inv.counts.contents
          (rw c.if-not-branch.false at c.in_ok-step.ensures.steps) in
          steps (inv.input.stays_told told) ∙ ap (λ (r : Row). r ∷ g.R.Rows.left c.step.new.self (contents_of (g.A.Flash.state c.args.from.now))) (sym c.row.ensures.row)) e.ends;
    }

pub returns-clause-puts : goal.returns-clause-puts
returns-clause-puts g c = λ first plan t works. put-whole _ _ _ _ c.args.count _ _ _ _ c.puts.invariant.far (omega arith) first plan t works (omega arith)

pub returns-clause-cut : goal.returns-clause-cut
returns-clause-cut g c = λ first plan t rose device w stands.
    work-whole _ _ _ _ c.args.count _ _ _ _ c.puts.invariant.far (omega arith) first plan t (AreTaken (g.R.Rows.told c.args.rows.now (contents_of (g.A.Flash.state c.args.from.now))) c.args.count (g.R.Rows.left c.args.rows.now (contents_of (g.A.Flash.state c.args.from.now))) (g.R.Rows.left c.puts.rows (contents_of (g.A.Flash.state c.args.from.now)))) rose device w stands
    (omega arith)

pub returns-in_err-put_row-clause-goes : goal.returns-in_err-put_row-clause-goes
returns-in_err-put_row-clause-goes g c = goes-then _ _ _ c.puts.invariant.goes c.put_row.ensures.goes

-- ---- a read failed

pub returns-in_err-step-clause-none_bad : goal.returns-in_err-step-clause-none_bad
returns-in_err-step-clause-none_bad g c = λ told bad is.
    let inv = c.puts.invariant in
    let steps = subst (λ (k : Contents). g.R.Rows.told c.puts.rows k → Steps (Err c.in_err-step.field-0.0) (g.R.Rows.left c.puts.rows k) (g.R.RowHere.present c.step.new.self) (g.R.Rows.left c.step.new.self k)) inv.counts.contents c.in_err-step.ensures.steps in
    let p = err_from_is_err_and c.from_residual.result c.from_residual.ensures.1 in
    told-good c.in_err-step.field-0.0 bad _ _ _ (steps (inv.input.stays_told told)) (rw (p.1, p.2) at is)

pub returns-in_err-step-clause-number : goal.returns-in_err-step-clause-number
returns-in_err-step-clause-number g c = λ told. let p = err_from_is_err_and c.from_residual.result c.from_residual.ensures.1 in rw p.1 tt

pub returns-in_err-step-clause-bad_page : goal.returns-in_err-step-clause-bad_page
returns-in_err-step-clause-bad_page g c = λ bad is.
    let inv = c.puts.invariant in
    let p = err_from_is_err_and c.from_residual.result c.from_residual.ensures.1 in
    (inv.input.same_test (contents_of (g.A.Flash.state c.args.from.now)) bad).0 (subst (λ (k : Contents). g.R.Rows.passes c.puts.rows k bad) inv.counts.contents (c.in_err-step.ensures.bad_page bad (same-read c.in_err-step.field-0.0 (read.BadPage bad) (rw (p.1, p.2) at is))))

pub returns-in_err-step-clause-spent : goal.returns-in_err-step-clause-spent
returns-in_err-step-clause-spent g c = λ is.
    let p = err_from_is_err_and c.from_residual.result c.from_residual.ensures.1 in
    absurd (read-not-put c.in_err-step.field-0.0 put.Spent (rw (p.1, p.2) at is))

pub returns-in_err-step-clause-numbers : goal.returns-in_err-step-clause-numbers
returns-in_err-step-clause-numbers g c = λ is.
    let p = err_from_is_err_and c.from_residual.result c.from_residual.ensures.1 in
    absurd (read-not-put c.in_err-step.field-0.0 put.Spent (rw (p.1, p.2) at is))

pub returns-in_err-step-clause-few : goal.returns-in_err-step-clause-few
returns-in_err-step-clause-few g c = let p = err_from_is_err_and c.from_residual.result c.from_residual.ensures.1 in rw p.1 tt

pub returns-in_err-step-clause-running : goal.returns-in_err-step-clause-running
returns-in_err-step-clause-running g c = let p = err_from_is_err_and c.from_residual.result c.from_residual.ensures.1 in rw (p.1, p.2) c.puts.invariant.running

pub returns-in_err-step-clause-power : goal.returns-in_err-step-clause-power
returns-in_err-step-clause-power g c = let p = err_from_is_err_and c.from_residual.result c.from_residual.ensures.1 in rw p.1 tt

pub returns-in_err-step-clause-rows : goal.returns-in_err-step-clause-rows
returns-in_err-step-clause-rows g c =
    let inv = c.puts.invariant in
    let s = c.step.ensures in
    Continues-then _ _ _ inv.input (record {
      same_names = s.names;
      same_schema = s.schema;
      never_falls = s.never_falls;
      stays_ready = s.stays_ready;
      same_test = s.same_test;
      stays_told = subst (λ (k : Contents). g.R.Rows.told c.puts.rows k → g.R.Rows.told c.step.new.self k) inv.counts.contents s.stays_told;
    })

pub returns-in_err-step-clause-left : goal.returns-in_err-step-clause-left
returns-in_err-step-clause-left g c = λ told. let p = err_from_is_err_and c.from_residual.result c.from_residual.ensures.1 in rw p.1 tt

pub returns-in_err-step-clause-above : goal.returns-in_err-step-clause-above
returns-in_err-step-clause-above g c = let p = err_from_is_err_and c.from_residual.result c.from_residual.ensures.1 in rw p.1 tt

pub returns-in_err-step-clause-reads : goal.returns-in_err-step-clause-reads
returns-in_err-step-clause-reads g c = λ told.
    let inv = c.puts.invariant in
    let step = subst (λ (k : Contents). g.R.Rows.told c.puts.rows k → (g.A.Flash.state c.step.new.flash).work.reads + 0 ≤ (g.A.Flash.state c.puts.from).work.reads + g.R.Rows.most c.puts.rows k) inv.counts.contents c.in_err-step.ensures.most (inv.input.stays_told told) in
    reads-behind (g.A.Flash.state c.args.from.now).work.reads (g.A.Flash.state c.puts.from).work.reads (g.A.Flash.state c.step.new.flash).work.reads (g.R.Rows.most c.puts.rows (contents_of (g.A.Flash.state c.args.from.now))) 0 (g.R.Rows.most c.args.rows.now (contents_of (g.A.Flash.state c.args.from.now))) step (inv.reads told)

pub returns-in_err-step-clause-goes : goal.returns-in_err-step-clause-goes
returns-in_err-step-clause-goes g c = c.puts.invariant.goes

pub returns-in_err-step-clause-outside : goal.returns-in_err-step-clause-outside
returns-in_err-step-clause-outside g c = c.puts.invariant.outside

pub returns-in_err-step-clause-same : goal.returns-in_err-step-clause-same
returns-in_err-step-clause-same g c = c.puts.invariant.same

pub returns-in_err-step-clause-lies : goal.returns-in_err-step-clause-lies
returns-in_err-step-clause-lies g c = c.puts.invariant.lies

-- ---- no row is left

pub returns-then-not-branch-clause-none_bad : goal.returns-then-not-branch-clause-none_bad
returns-then-not-branch-clause-none_bad g c = λ told bad is. done-not-failed c.puts.shipped (Read (read.BadPage bad)) is

pub returns-then-not-branch-clause-number : goal.returns-then-not-branch-clause-number
returns-then-not-branch-clause-number g c = λ told.
    let inv = c.puts.invariant in
    number-end _ _ _ _ c.args.count _ _ _ _ inv.far (le_of_lt c.puts-test.true) (λ told.
    let steps = subst (λ (k : Contents). g.R.Rows.told c.puts.rows k → Steps (Ok false) (g.R.Rows.left c.puts.rows k) (g.R.RowHere.present c.step.new.self) (g.R.Rows.left c.step.new.self k)) inv.counts.contents (rw c.if-not-branch.true at c.in_ok-step.ensures.steps) in
    (steps (inv.input.stays_told told)).0) told

pub returns-then-not-branch-clause-bad_page : goal.returns-then-not-branch-clause-bad_page
returns-then-not-branch-clause-bad_page g c = λ bad is. absurd (done-not-failed c.puts.shipped (Read (read.BadPage bad)) is)

pub returns-then-not-branch-clause-spent : goal.returns-then-not-branch-clause-spent
returns-then-not-branch-clause-spent g c = λ is. absurd (done-not-failed c.puts.shipped (Put put.Spent) is)

pub returns-then-not-branch-clause-numbers : goal.returns-then-not-branch-clause-numbers
returns-then-not-branch-clause-numbers g c = λ is. absurd (done-not-failed c.puts.shipped (Put put.Spent) is)

pub returns-then-not-branch-clause-few : goal.returns-then-not-branch-clause-few
returns-then-not-branch-clause-few g c = le_of_lt c.puts-test.true

pub returns-then-not-branch-clause-running : goal.returns-then-not-branch-clause-running
returns-then-not-branch-clause-running g c = c.puts.invariant.running

pub returns-then-not-branch-clause-power : goal.returns-then-not-branch-clause-power
returns-then-not-branch-clause-power g c = c.puts.invariant.power

pub returns-then-not-branch-clause-rows : goal.returns-then-not-branch-clause-rows
returns-then-not-branch-clause-rows g c =
    let inv = c.puts.invariant in
    let s = c.step.ensures in
    Continues-then _ _ _ inv.input (record {
      same_names = s.names;
      same_schema = s.schema;
      never_falls = s.never_falls;
      stays_ready = s.stays_ready;
      same_test = s.same_test;
      stays_told = subst (λ (k : Contents). g.R.Rows.told c.puts.rows k → g.R.Rows.told c.step.new.self k) inv.counts.contents s.stays_told;
    })

pub returns-then-not-branch-clause-left : goal.returns-then-not-branch-clause-left
returns-then-not-branch-clause-left g c = λ told.
    let inv = c.puts.invariant in
    let steps = subst (λ (k : Contents). g.R.Rows.told c.puts.rows k → Steps (Ok false) (g.R.Rows.left c.puts.rows k) (g.R.RowHere.present c.step.new.self) (g.R.Rows.left c.step.new.self k)) inv.counts.contents (rw c.if-not-branch.true at c.in_ok-step.ensures.steps) in
    let end = steps (inv.input.stays_told told) in
    end.1 ∙ (sym end.0 ∙ left-behind _ _ _ _ c.args.count _ _ _ _ inv.far (le_of_lt c.puts-test.true) told)

pub returns-then-not-branch-clause-unread : goal.returns-then-not-branch-clause-unread
returns-then-not-branch-clause-unread g c = λ told fault is. absurd (done-not-failed c.puts.shipped (Read fault) is)

pub returns-then-not-branch-clause-reads : goal.returns-then-not-branch-clause-reads
returns-then-not-branch-clause-reads g c = λ told.
    let inv = c.puts.invariant in
    let step = subst (λ (k : Contents). g.R.Rows.told c.puts.rows k → (g.A.Flash.state c.step.new.flash).work.reads + g.R.Rows.most c.step.new.self k ≤ (g.A.Flash.state c.puts.from).work.reads + g.R.Rows.most c.puts.rows k) inv.counts.contents c.in_ok-step.ensures.most (inv.input.stays_told told) in
    reads-behind (g.A.Flash.state c.args.from.now).work.reads (g.A.Flash.state c.puts.from).work.reads (g.A.Flash.state c.step.new.flash).work.reads (g.R.Rows.most c.puts.rows (contents_of (g.A.Flash.state c.args.from.now))) (g.R.Rows.most c.step.new.self (contents_of (g.A.Flash.state c.args.from.now))) (g.R.Rows.most c.args.rows.now (contents_of (g.A.Flash.state c.args.from.now))) step (inv.reads told)

pub returns-then-not-branch-clause-goes : goal.returns-then-not-branch-clause-goes
returns-then-not-branch-clause-goes g c = c.puts.invariant.goes

pub returns-then-not-branch-clause-outside : goal.returns-then-not-branch-clause-outside
returns-then-not-branch-clause-outside g c = c.puts.invariant.outside

pub returns-then-not-branch-clause-same : goal.returns-then-not-branch-clause-same
returns-then-not-branch-clause-same g c = c.puts.invariant.same

pub returns-then-not-branch-clause-lies : goal.returns-then-not-branch-clause-lies
returns-then-not-branch-clause-lies g c = c.puts.invariant.lies

-- ---- a put is refused

pub returns-in_err-put_row-clause-none_bad : goal.returns-in_err-put_row-clause-none_bad
returns-in_err-put_row-clause-none_bad g c = λ told bad is.
    let p = err_from_is_err_and c.from_residual-in_err-put_row.result c.from_residual-in_err-put_row.ensures.1 in
    put-not-read c.in_err-put_row.field-0.0 (read.BadPage bad) (rw (p.1, p.2) at is)

pub returns-in_err-put_row-clause-number : goal.returns-in_err-put_row-clause-number
returns-in_err-put_row-clause-number g c = λ told. let p = err_from_is_err_and c.from_residual-in_err-put_row.result c.from_residual-in_err-put_row.ensures.1 in rw p.1 tt

pub returns-in_err-put_row-clause-bad_page : goal.returns-in_err-put_row-clause-bad_page
returns-in_err-put_row-clause-bad_page g c = λ bad is.
    let p = err_from_is_err_and c.from_residual-in_err-put_row.result c.from_residual-in_err-put_row.ensures.1 in
    absurd (put-not-read c.in_err-put_row.field-0.0 (read.BadPage bad) (rw (p.1, p.2) at is))

pub returns-in_err-put_row-clause-numbers : goal.returns-in_err-put_row-clause-numbers
returns-in_err-put_row-clause-numbers g c = λ is.
    let p = err_from_is_err_and c.from_residual-in_err-put_row.result c.from_residual-in_err-put_row.ensures.1 in
    few-left c.args.to.now c.puts.to c.puts.shipped c.args.count c.puts.invariant.numbers c.puts-test.true
    (c.in_err-put_row.ensures.spent_ring (same-refusal c.in_err-put_row.field-0.0 put.Spent (rw (p.1, p.2) at is)))

pub returns-in_err-put_row-clause-few : goal.returns-in_err-put_row-clause-few
returns-in_err-put_row-clause-few g c = let p = err_from_is_err_and c.from_residual-in_err-put_row.result c.from_residual-in_err-put_row.ensures.1 in rw p.1 tt

pub returns-in_err-put_row-clause-power : goal.returns-in_err-put_row-clause-power
returns-in_err-put_row-clause-power g c = let p = err_from_is_err_and c.from_residual-in_err-put_row.result c.from_residual-in_err-put_row.ensures.1 in rw p.1 tt

pub returns-in_err-put_row-clause-above : goal.returns-in_err-put_row-clause-above
returns-in_err-put_row-clause-above g c = let p = err_from_is_err_and c.from_residual-in_err-put_row.result c.from_residual-in_err-put_row.ensures.1 in rw p.1 tt

pub returns-in_err-put_row-clause-left : goal.returns-in_err-put_row-clause-left
returns-in_err-put_row-clause-left g c = λ told. let p = err_from_is_err_and c.from_residual-in_err-put_row.result c.from_residual-in_err-put_row.ensures.1 in rw p.1 tt

pub returns-in_err-put_row-clause-unread : goal.returns-in_err-put_row-clause-unread
returns-in_err-put_row-clause-unread g c = λ told fault is.
    let p = err_from_is_err_and c.from_residual-in_err-put_row.result c.from_residual-in_err-put_row.ensures.1 in
    absurd (put-not-read c.in_err-put_row.field-0.0 fault (rw (p.1, p.2) at is))

pub returns-in_err-put_row-clause-reads : goal.returns-in_err-put_row-clause-reads
returns-in_err-put_row-clause-reads g c = λ told.
    let inv = c.puts.invariant in
    let step = subst (λ (k : Contents). g.R.Rows.told c.puts.rows k → (g.A.Flash.state c.step.new.flash).work.reads + g.R.Rows.most c.step.new.self k ≤ (g.A.Flash.state c.puts.from).work.reads + g.R.Rows.most c.puts.rows k) inv.counts.contents c.in_ok-step.ensures.most (inv.input.stays_told told) in
    reads-behind (g.A.Flash.state c.args.from.now).work.reads (g.A.Flash.state c.puts.from).work.reads (g.A.Flash.state c.step.new.flash).work.reads (g.R.Rows.most c.puts.rows (contents_of (g.A.Flash.state c.args.from.now))) (g.R.Rows.most c.step.new.self (contents_of (g.A.Flash.state c.args.from.now))) (g.R.Rows.most c.args.rows.now (contents_of (g.A.Flash.state c.args.from.now))) step (inv.reads told)

pub returns-in_err-put_row-clause-lies : goal.returns-in_err-put_row-clause-lies
returns-in_err-put_row-clause-lies g c = c.put_row.ensures.lies

-- ---- all that were asked for are put

pub returns-clause-none_bad : goal.returns-clause-none_bad
returns-clause-none_bad g c = λ told bad is. done-not-failed c.args.count (Read (read.BadPage bad)) is

pub returns-clause-bad_page : goal.returns-clause-bad_page
returns-clause-bad_page g c = λ bad is. absurd (done-not-failed c.args.count (Read (read.BadPage bad)) is)

pub returns-clause-spent : goal.returns-clause-spent
returns-clause-spent g c = λ is. absurd (done-not-failed c.args.count (Put put.Spent) is)

pub returns-clause-numbers : goal.returns-clause-numbers
returns-clause-numbers g c = λ is. absurd (done-not-failed c.args.count (Put put.Spent) is)

pub returns-clause-few : goal.returns-clause-few
returns-clause-few g c = le_refl c.args.count

pub returns-clause-unread : goal.returns-clause-unread
returns-clause-unread g c = λ told fault is. absurd (done-not-failed c.args.count (Read fault) is)

pub returns-clause-running : goal.returns-clause-running
returns-clause-running g c = c.puts.invariant.running

pub returns-clause-power : goal.returns-clause-power
returns-clause-power g c = c.puts.invariant.power

pub returns-clause-above : goal.returns-clause-above
returns-clause-above g c = c.puts.invariant.above

pub returns-clause-goes : goal.returns-clause-goes
returns-clause-goes g c = c.puts.invariant.goes

pub returns-clause-outside : goal.returns-clause-outside
returns-clause-outside g c = c.puts.invariant.outside

pub returns-clause-same : goal.returns-clause-same
returns-clause-same g c = c.puts.invariant.same

pub returns-clause-lies : goal.returns-clause-lies
returns-clause-lies g c = c.puts.invariant.lies

pub returns-clause-rows : goal.returns-clause-rows
returns-clause-rows g c = c.puts.invariant.input

pub returns-clause-reads_only : goal.returns-clause-reads_only
returns-clause-reads_only g c = c.puts.invariant.counts

pub returns-clause-reads : goal.returns-clause-reads
returns-clause-reads g c = λ told. reads-whole (g.A.Flash.state c.puts.from).work.reads (g.R.Rows.most c.puts.rows (contents_of (g.A.Flash.state c.args.from.now))) ((g.A.Flash.state c.args.from.now).work.reads + g.R.Rows.most c.args.rows.now (contents_of (g.A.Flash.state c.args.from.now))) (c.puts.invariant.reads told)

-- ---- what the calls ask for, and what a refused put leaves

pub step-requires : goal.step-requires
step-requires g c =
    let inv = c.puts.invariant in
    subst (λ (k : Contents). g.R.Rows.ready c.puts.rows k) (sym inv.counts.contents) (inv.input.stays_ready _ c.requires.ready)

pub row-requires : goal.row-requires
row-requires g c = rw c.if-not-branch.false at c.in_ok-step.ensures.here

pub put_row-requires-clause-form : goal.put_row-requires-clause-form
put_row-requires-clause-form g c = c.row.ensures.schema ∙ (c.step.ensures.schema ∙ (c.puts.invariant.input.same_schema ∙ (c.requires.form ∙ sym c.puts.invariant.same.table.layout)))

pub put_row-requires-clause-no_blobs : goal.put_row-requires-clause-no_blobs
put_row-requires-clause-no_blobs g c = ap (λ (l : RowLayout). l.blobs) c.puts.invariant.same.table.layout ∙ c.requires.no_blobs

pub put_row-requires-clause-running : goal.put_row-requires-clause-running
put_row-requires-clause-running g c = c.puts.invariant.running

pub put_row-requires-clause-lies : goal.put_row-requires-clause-lies
put_row-requires-clause-lies g c = c.puts.invariant.lies

pub returns-in_err-put_row-clause-cause : goal.returns-in_err-put_row-clause-cause
returns-in_err-put_row-clause-cause g c =
    let inv = c.puts.invariant in
    let p = err_from_is_err_and c.from_residual-in_err-put_row.result c.from_residual-in_err-put_row.ensures.1 in
    rw (p.1, p.2) (put-caused-later (g.A.Flash.state c.args.from.now) (g.A.Flash.state c.step.new.flash) (g.B.Flash.state c.args.onto.now) (g.B.Flash.state c.puts.onto) (g.B.Flash.state c.put_row.new.onto) c.in_err-put_row.field-0.0 inv.goes inv.power c.in_err-put_row.ensures.cause)

pub returns-in_err-put_row-clause-running : goal.returns-in_err-put_row-clause-running
returns-in_err-put_row-clause-running g c =
    let p = err_from_is_err_and c.from_residual-in_err-put_row.result c.from_residual-in_err-put_row.ensures.1 in
    rw (p.1, p.2) (c.in_err-put_row.ensures.running ∙ goes-on-refused (g.B.Flash.state c.puts.onto) (g.B.Flash.state c.put_row.new.onto) c.in_err-put_row.field-0.0 c.in_err-put_row.ensures.cause)

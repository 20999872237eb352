use Rattle.std.proofs.Common.{◌≡◌, ◌↔◌, ℕ, ◌+◌, true, Option, Some, drop, length, refl, sym, subst, ◌∙◌, ap, arith}
use Rattle.std.proofs.lemmas.Bool.{lt-ltb}
use Rattle.fl_model.specs.Query.{is_above}
use Rattle.fl_page.specs.Steps.{Ascends}
use Rattle.fl_page.specs.View.{rows_of, count_of}
use Rattle.fl_schema.specs.Schema.{row_of}
use Rattle.fl_page.proofs.RowsFrom.{length-rows_from}
use Rattle.fl_rules.proofs.PageRows.{ascends-next, ascends-bad, ascends-end}
use Rattle.fl_rules.proofs.keys.keys_ascend.Goals as goal
use Rattle.fl_rules.proofs.keys.keys_ascend.Goals.{in-Some+else-key-before, in_default}

pub returns-then-key-before : goal.returns-then-key-before
returns-then-key-before g c =
    let rows = rows_of c.args.view.now in
    let row = row_of c.row.result in
    let key : c.key-key.result ≡ row.key = c.key-key.ensures in
    let Same : Option ℕ → Type 0 = λ last. Ascends c.args.above (rows_of c.args.view.now) ↔ Ascends last (drop c.loop-i.i (rows_of c.args.view.now)) in (
      λ is. absurd (cc is),
      λ all. absurd (ascends-bad c.args.above c.in-Some.before rows c.loop-i.i row c.row.ensures.row (omega (arith, key, c.if-key-before.true)) (subst Same c.in-Some.is c.loop-i.invariant) all),
    )

pub loop-i-preserved : goal.loop-i-preserved
loop-i-preserved g c =
    let rows = rows_of c.args.view.now in
    let row = row_of c.row.result in
    let key : c.key-key.result ≡ row.key = c.key-key.ensures in
    let up : is_above c.loop-i.last row.key ≡ true = elim c.match-last.branch [
      | in-Some+else-key-before w ↦ ap (λ (o : Option ℕ). is_above o row.key) w.in-Some.is ∙ lt-ltb w.in-Some.before row.key (omega (arith, key, w.if-key-before.false))
      | in_default w ↦ ap (λ (o : Option ℕ). is_above o row.key) w.in_default.is
    ] in
    let Same : ℕ → Type 0 = λ k. Ascends c.args.above (rows_of c.args.view.now) ↔ Ascends (Some k) (drop (c.loop-i.i + 1) (rows_of c.args.view.now)) in
    subst Same (sym key) (ascends-next c.args.above c.loop-i.last rows c.loop-i.i row c.row.ensures.row up c.loop-i.invariant)

pub returns : goal.returns
returns g c =
    let rows = rows_of c.args.view.now in
    let many : length rows ≡ count_of c.args.view.now = length-rows_from (count_of c.args.view.now) _ _ in (
      λ is. ascends-end c.args.above c.loop-i.last rows c.loop-i.i (omega (arith, many, c.rows-i-end.ensures, c.loop-i-test.false)) c.loop-i.invariant,
      λ all. refl,
    )

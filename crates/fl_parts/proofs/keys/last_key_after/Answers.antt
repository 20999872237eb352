use Rattle.std.proofs.Common.{◌≡◌, ℕ, ◌+◌, ◌≤◌, true, drop, Option, Some, length, ap, sym, ◌∙◌, arith}
use Rattle.std.proofs.lemmas.Bool.{lt-ltb}
use Rattle.fl_page.specs.View.{rows_of, count_of}
use Rattle.fl_schema.specs.Schema.{row_of}
use Rattle.fl_page.proofs.RowsFrom.{length-rows_from}
use Rattle.fl_parts.specs.Reading.{rises, keys_fault, last_in}
use Rattle.fl_parts.specs.declared.mount_fault.MountFault.TheVariants.{BadKeys}
use Rattle.fl_parts.proofs.KeyRows.{keys-next, keys-bad, keys-end, last-next, last-end}
use Rattle.fl_parts.proofs.keys.last_key_after.Goals as goal
use Rattle.fl_parts.proofs.keys.last_key_after.Goals.{in-Some+else-key-before, in_default}

pub returns-then-key-before-clause-fault : goal.returns-then-key-before-clause-fault
returns-then-key-before-clause-fault c =
    let rows = rows_of c.args.view in
    let row = row_of c.row.result in
    let key : c.key-key.result ≡ row.key = c.key-key.ensures in
    keys-bad c.args.number c.loop-i.i rows row c.in-Some.before c.args.last c.row.ensures.row (omega (arith, key, c.if-key-before.true))
    (c.loop-i.invariant.keys ∙ ap (λ (o : Option ℕ). keys_fault c.args.number o (drop c.loop-i.i rows)) c.in-Some.is)
    ∙ ap (λ k. Some (BadKeys c.args.number c.in-Some.before k)) (sym key)

pub loop-i-preserved : goal.loop-i-preserved
loop-i-preserved c =
    let rows = rows_of c.args.view in
    let row = row_of c.row.result in
    let key : c.key-key.result ≡ row.key = c.key-key.ensures in
    let up : rises c.loop-i.so_far row.key ≡ true = elim c.match-so_far.branch [
      | in-Some+else-key-before w ↦ ap (λ (o : Option ℕ). rises o row.key) w.in-Some.is ∙ lt-ltb w.in-Some.before row.key (omega (arith, key, w.if-key-before.false))
      | in_default w ↦ ap (λ (o : Option ℕ). rises o row.key) w.in_default.is
    ] in
    record {
      keys = keys-next c.args.number c.loop-i.i rows row c.loop-i.so_far c.args.last c.row.ensures.row up c.loop-i.invariant.keys ∙ ap (λ k. keys_fault c.args.number (Some k) (drop (c.loop-i.i + 1) rows)) (sym key);
      last = last-next c.loop-i.i rows row c.loop-i.so_far c.args.last c.row.ensures.row c.loop-i.invariant.last ∙ ap (λ k. last_in (Some k) (drop (c.loop-i.i + 1) rows)) (sym key);
    }

pub returns-clause-last : goal.returns-clause-last
returns-clause-last c =
    let rows = rows_of c.args.view in
    let many : length rows ≡ count_of c.args.view = length-rows_from (count_of c.args.view) _ _ in
    let le : length rows ≤ c.loop-i.i = omega (arith, many, c.rows-i-end.ensures, c.loop-i-test.false) in
    (keys-end c.args.number c.loop-i.i rows c.loop-i.so_far c.args.last le c.loop-i.invariant.keys, last-end c.loop-i.i rows c.loop-i.so_far c.args.last le c.loop-i.invariant.last)

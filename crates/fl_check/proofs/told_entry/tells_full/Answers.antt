use Rattle.std.proofs.Common.{◌≡◌, length, sym, ◌∙◌}
use Rattle.std.proofs.lemmas.Bool.{eqb-true, eq-eqb, true≢false}
use Rattle.fl_page.specs.View.{count_of, rows_of}
use Rattle.fl_schema.specs.Schema.{row_of}
use Rattle.fl_page.proofs.RowsFrom.{length-rows_from}
use Rattle.fl_check.proofs.FullEntries.{full-told, key-told, count-told, end-told}
use Rattle.fl_check.proofs.told_entry.tells_full.Goals.{then-full-key, else-full-key}
use Rattle.fl_check.proofs.told_entry.tells_full.Goals as goal

pub returns-then-from-rows : goal.returns-then-from-rows
returns-then-from-rows c =
    let rows = rows_of c.args.view.now in
    let row = row_of c.row.result in
    let many : length (rows_of c.args.view.now) ≡ count_of c.args.view.now = length-rows_from (count_of c.args.view.now) _ _ in
    elim c.if-full-key.branch [
      | then-full-key w ↦ (
        λ end. full-told rows row c.args.full c.row.ensures.row (w.if-full-key.true ∙ c.key.ensures)
            (sym w.from.ensures ∙ eqb-true w.from.result w.rows.result (sym w.value-is ∙ c.if-from-rows.true) ∙ w.rows.ensures ∙ sym many)
            (sym c.from-then-from-rows.ensures ∙ eqb-true c.from-then-from-rows.result c.blobs_end.result end ∙ c.blobs_end.ensures),
        λ is. eq-eqb c.from-then-from-rows.result c.blobs_end.result (c.from-then-from-rows.ensures ∙ end-told rows row c.args.full c.row.ensures.row is ∙ sym c.blobs_end.ensures),
      )
      | else-full-key w ↦ absurd (w.if-full-key.false (eqb-true c.args.full.first_key c.key.result (sym w.value-is ∙ c.if-from-rows.true)))
    ]

pub returns-else-from-rows : goal.returns-else-from-rows
returns-else-from-rows c =
    let rows = rows_of c.args.view.now in
    let row = row_of c.row.result in
    let many : length (rows_of c.args.view.now) ≡ count_of c.args.view.now = length-rows_from (count_of c.args.view.now) _ _ in
    elim c.if-full-key.branch [
      | then-full-key w ↦ (
        λ yes. absurd (true≢false (sym yes ∙ c.if-from-rows.false)),
        λ is. w.value-is ∙ eq-eqb w.from.result w.rows.result (w.from.ensures ∙ count-told rows row c.args.full c.row.ensures.row is ∙ many ∙ sym w.rows.ensures),
      )
      | else-full-key w ↦ (
        λ yes. absurd (true≢false (sym yes ∙ c.if-from-rows.false)),
        λ is. w.value-is ∙ eq-eqb c.args.full.first_key c.key.result (key-told rows row c.args.full c.row.ensures.row is ∙ sym c.key.ensures),
      )
    ]

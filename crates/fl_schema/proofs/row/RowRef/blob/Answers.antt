use Rattle.std.proofs.Common.{◌≡◌, ℕ, ◌+◌, Bool, if◌then◌else◌, length, drop, arith, ap, ◌∙◌}
use Rattle.fl_model.specs.Record.{columns_len}
use Rattle.fl_model.specs.Row.{reference_in}
use Rattle.fl_schema.specs.Form.{key_width, columns_in}
use Rattle.fl_schema.proofs.row.RowRef.blob.Goals as goal

pub returns : goal.returns
returns c =
    let row = c.args.self.now in
    let base = key_width row.kind.key + columns_len (columns_in row.kind.columns.now) in
    let total : length row.bytes.now ≡ base + 10 = row.whole ∙ ap (λ (b : Bool). base + (if b then 10 else 0)) c.if-not-self.false in
    rw c.if-not-self.false (c.read_reference.ensures ∙ ap (λ (k : ℕ). reference_in (drop k row.bytes.now)) (omega arith))

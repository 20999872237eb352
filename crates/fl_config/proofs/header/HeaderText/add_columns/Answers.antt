use Rattle.std.proofs.Common.{◌++◌, ◌∷◌, [], get_or, length, arith, ap, ◌∙◌, length-append}
use Rattle.fl_schema.specs.declared.column.ColumnType.TheVariants.{U8}
use Rattle.fl_config.proofs.Texts.{names-next, names-begin, name_of-short}
use Rattle.fl_config.proofs.header.HeaderText.add_columns.Goals as goal
use Rattle.fl_config.proofs.header.HeaderText.add_columns.Goals.{then-i-gt0, else-i-gt0}

pub loop-i-preserved : goal.loop-i-preserved
loop-i-preserved c =
    let named = c.as_bytes.ensures.value ∙ c.name.ensures in
    let few = name_of-short (get_or c.args.columns.now c.loop-i.i U8) in
    let len = ap (λ l. length l) named in
    let sizes = ap (λ l. length l) c.add-in-loop-i.ensures ∙ length-append c.if-i-gt0.self c.as_bytes.result.now in
    elim c.if-i-gt0.branch [
      | then-i-gt0 w ↦ record {
        text = names-next c.args.columns.now c.loop-i.i U8 c.args.self.now c.loop-i.self c.if-i-gt0.self c.add-in-loop-i.new.self c.as_bytes.result.now c.loop-i-test.true w.if-i-gt0.true
            c.loop-i.invariant.text (w.self-is ∙ w.add-then-i-gt0.ensures) c.add-in-loop-i.ensures named;
        short = omega (arith, c.loop-i.invariant.short, few, len, sizes, ap (λ l. length l) w.self-is, ap (λ l. length l) w.add-then-i-gt0.ensures, length-append c.loop-i.self (44 ∷ []));
      }
      | else-i-gt0 w ↦ record {
        text = names-begin c.args.columns.now c.loop-i.i U8 c.args.self.now c.loop-i.self c.add-in-loop-i.new.self c.as_bytes.result.now c.loop-i-test.true (omega (arith, w.if-i-gt0.false))
            c.loop-i.invariant.text (c.add-in-loop-i.ensures ∙ ap (λ l. l ++ c.as_bytes.result.now) w.self-is) named;
        short = omega (arith, c.loop-i.invariant.short, few, len, sizes, ap (λ l. length l) w.self-is);
      }
    ]

use Rattle.std.proofs.Common.{◌++◌, ◌∷◌, [], ℤ, w64, FitsSigned, ap, sym, ◌∙◌, arith, rules}
use Rattle.std.proofs.lemmas.Int.{to_z-of_z}
use Rattle.std.specs.Fmt.{decimal, signed_decimal}
use Rattle.fl_words.specs.Reply.{spaced, note_text}
use Rattle.fl_script.specs.ReplyView.{note_view}
use Rattle.fl_script.proofs.RowTexts.{spaced-last, spaced-none, key-before}
use Rattle.fl_script.proofs.row_line.RowLine.show.Goals as goal

pub put_value-requires : goal.put_value-requires
put_value-requires c = omega (arith, c.loop-last.invariant.short, c.requires, c.in-Some.ensures.cases.1)

pub loop-last-preserved : goal.loop-last-preserved
loop-last-preserved c =
    let front = c.in-Some.front.now in
    let last = c.in-Some.last.now in
    let done = c.loop-last.self in
    let word : FitsSigned w64 c.in-Some.last.now = search rules in
    record {
      text = ap (λ t. spaced front ++ t) c.put_value.ensures.text ∙ ap (λ (z : ℤ). spaced front ++ (32 ∷ (signed_decimal z ++ done))) (to_z-of_z w64 last word)
          ∙ spaced-last front last done ∙ ap (λ l. spaced l ++ done) (sym c.in-Some.ensures.cases.0) ∙ c.loop-last.invariant.text;
      short = omega (arith, c.loop-last.invariant.short, c.put_value.ensures.short, c.in-Some.ensures.cases.1);
    }

pub put_digits-requires : goal.put_digits-requires
put_digits-requires c = omega (arith, c.loop-last.invariant.short, c.requires)

pub put-requires : goal.put-requires
put-requires c = omega (arith, c.loop-last.invariant.short, c.requires, c.put_digits.ensures.short)

pub returns : goal.returns
returns c =
    c.put.ensures ∙ ap (λ l. 114 ∷ 111 ∷ 119 ∷ 32 ∷ l) (c.put_digits.ensures.text
    ∙ key-before (decimal c.args.key) (spaced c.loop-last.left.now) (spaced c.args.values.now) (spaced-none c.loop-last.left.now c.in_default.ensures.cases) (note_text (note_view c.args.note)) (10 ∷ []) c.loop-last.self c.loop-last.invariant.text)

use Rattle.std.proofs.Common.{sym, ◌∙◌, arith}
use Rattle.fl_script.proofs.LineForms.{others_short, as_line, by_fault}
use Rattle.fl_script.proofs.read.read_line.Goals as goal

pub command-result-requires-clause-short : goal.command-result-requires-clause-short
command-result-requires-clause-short c =
    others_short _ _ _ _ c.in-Some.ensures.cases.0 c.words_in-count.ensures.short (omega (arith, c.without_return.ensures.short, c.if-bytes-gt-LINE_BYTES.false))

pub returns-then-is_err-clause-command : goal.returns-then-is_err-clause-command
returns-then-is_err-clause-command c =
    by_fault c.command-result.result _ _ (sym c.is_err.ensures.value ∙ c.if-is_err.true) ∙ c.command-result.ensures.command
    ∙ sym (as_line _ _ _ _ _ c.if-bytes-gt-LINE_BYTES.false c.without_return.ensures.trimmed c.words_in-count.ensures.words c.in-Some.ensures.cases.0 (sym c.starts_with.ensures.value ∙ c.if-starts_with.false))

pub returns-else-is_err-clause-command : goal.returns-else-is_err-clause-command
returns-else-is_err-clause-command c =
    c.command-result.ensures.command
    ∙ sym (as_line _ _ _ _ _ c.if-bytes-gt-LINE_BYTES.false c.without_return.ensures.trimmed c.words_in-count.ensures.words c.in-Some.ensures.cases.0 (sym c.starts_with.ensures.value ∙ c.if-starts_with.false))

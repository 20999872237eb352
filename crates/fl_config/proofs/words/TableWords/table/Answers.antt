use Rattle.std.proofs.Common.{◌++◌}
use Rattle.std.proofs.lemmas.Result.{IfOk-from_err}
use Rattle.fl_plan.proofs.Faults.{tells-first, tells-then, none-both}
use Rattle.fl_config.specs.Lines.{key_faults, word_faults, number_faults}
use Rattle.fl_config.specs.Words.{line_of}
use Rattle.fl_config.proofs.Told.{tells-err}
use Rattle.fl_config.proofs.words.TableWords.table.Goals as goal

pub returns-in_err-key-clause-refusal : goal.returns-in_err-key-clause-refusal
returns-in_err-key-clause-refusal c =
    let line = line_of c.args.self.now in
    tells-first _ _ (key_faults line) (word_faults line.columns ++ number_faults c.args.geometry line) c.from_residual.ensures.1 c.in_err-key.ensures.refusal

pub returns-in_err-columns-clause-refusal : goal.returns-in_err-columns-clause-refusal
returns-in_err-columns-clause-refusal c =
    let line = line_of c.args.self.now in
    tells-then _ (key_faults line) (word_faults line.columns ++ number_faults c.args.geometry line) c.in_ok-key.ensures.refusal
    (tells-first _ _ (word_faults line.columns) (number_faults c.args.geometry line) c.from_residual-in_err-columns.ensures.1 c.in_err-columns.ensures.refusal)

pub returns-in_err-check_numbers-clause-refusal : goal.returns-in_err-check_numbers-clause-refusal
returns-in_err-check_numbers-clause-refusal c =
    let line = line_of c.args.self.now in
    tells-then _ (key_faults line) (word_faults line.columns ++ number_faults c.args.geometry line) c.in_ok-key.ensures.refusal
    (tells-then _ (word_faults line.columns) (number_faults c.args.geometry line) c.in_ok-columns.ensures.refusal
    (tells-err _ _ _ c.from_residual-in_err-check_numbers.ensures.1 c.in_err-check_numbers.ensures.refusal))

pub returns-clause-refusal : goal.returns-clause-refusal
returns-clause-refusal c =
    let line = line_of c.args.self.now in
    none-both (key_faults line) (word_faults line.columns ++ number_faults c.args.geometry line) c.in_ok-key.ensures.refusal
    (none-both (word_faults line.columns) (number_faults c.args.geometry line) c.in_ok-columns.ensures.refusal c.in_ok-check_numbers.ensures.refusal)

pub returns-in_err-key-clause-table : goal.returns-in_err-key-clause-table
returns-in_err-key-clause-table c = IfOk-from_err _ _ c.from_residual.ensures.0

pub returns-in_err-columns-clause-table : goal.returns-in_err-columns-clause-table
returns-in_err-columns-clause-table c = IfOk-from_err _ _ c.from_residual-in_err-columns.ensures.0

pub returns-in_err-check_numbers-clause-table : goal.returns-in_err-check_numbers-clause-table
returns-in_err-check_numbers-clause-table c = IfOk-from_err _ _ c.from_residual-in_err-check_numbers.ensures.0

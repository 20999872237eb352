use Rattle.fl_csv.proofs.CsvReads.{next, none}
use Rattle.fl_csv.proofs.row.is_one.Goals as goal

pub returns-then-not-branch : goal.returns-then-not-branch
returns-then-not-branch c = λ text fresh. none _ _ _ text fresh (rw c.if-not-branch.true at c.in_ok-read.ensures)

pub returns : goal.returns
returns c = λ text fresh. next _ _ _ text fresh _ _ c.in_ok-read-2.field-0 (rw c.if-not-branch.false at c.in_ok-read.ensures) c.in_ok-read-2.ensures

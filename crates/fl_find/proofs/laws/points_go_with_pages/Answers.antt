use Rattle.fl_find.proofs.Points.{further, seals}
use Rattle.fl_find.proofs.laws.points_go_with_pages.Goals as goal

pub returns-clause-further : goal.returns-clause-further
returns-clause-further c = λ plan table key facts points first. further plan table facts points key first

pub returns-clause-seals : goal.returns-clause-seals
returns-clause-seals c = λ plan table shape facts points some. seals plan table facts shape points some

use Rattle.fl_map.proofs.Ends.{none-if, none-on}
use Rattle.fl_map.proofs.ring.read_ring.Goals as goal

pub unnumbered-ring-requires-clause-lies : goal.unnumbered-ring-requires-clause-lies
unnumbered-ring-requires-clause-lies g c = c.requires.lies

pub unnumbered-ring-requires-clause-few : goal.unnumbered-ring-requires-clause-few
unnumbered-ring-requires-clause-few g c = c.requires.few

pub read_pages-requires-clause-lies : goal.read_pages-requires-clause-lies
read_pages-requires-clause-lies g c = c.unnumbered-ring.ensures.lies

pub read_pages-requires-clause-short : goal.read_pages-requires-clause-short
read_pages-requires-clause-short g c = c.requires.short

pub returns-in_err-figures-clause-states : goal.returns-in_err-figures-clause-states
returns-in_err-figures-clause-states g c = none-on c.from_residual.result _ c.from_residual.ensures.0

pub returns-in_err-figures-clause-few : goal.returns-in_err-figures-clause-few
returns-in_err-figures-clause-few g c = none-on c.from_residual.result _ c.from_residual.ensures.0

pub returns-in_err-figures-clause-note : goal.returns-in_err-figures-clause-note
returns-in_err-figures-clause-note g c = none-if c.from_residual.result _ c.from_residual.ensures.0

pub returns-in_err-figures-clause-some : goal.returns-in_err-figures-clause-some
returns-in_err-figures-clause-some g c = none-if c.from_residual.result _ c.from_residual.ensures.0

pub returns-in_err-head-clause-states : goal.returns-in_err-head-clause-states
returns-in_err-head-clause-states g c = none-on c.from_residual-in_err-head.result _ c.from_residual-in_err-head.ensures.0

pub returns-in_err-head-clause-few : goal.returns-in_err-head-clause-few
returns-in_err-head-clause-few g c = none-on c.from_residual-in_err-head.result _ c.from_residual-in_err-head.ensures.0

pub returns-in_err-head-clause-note : goal.returns-in_err-head-clause-note
returns-in_err-head-clause-note g c = none-if c.from_residual-in_err-head.result _ c.from_residual-in_err-head.ensures.0

pub returns-in_err-head-clause-some : goal.returns-in_err-head-clause-some
returns-in_err-head-clause-some g c = none-if c.from_residual-in_err-head.result _ c.from_residual-in_err-head.ensures.0

pub returns-clause-few : goal.returns-clause-few
returns-clause-few g c = c.in_ok-figures.ensures.few

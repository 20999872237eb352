use Rattle.fl_queries.proofs.OperatorLines.{first-same, second-same}
use Rattle.fl_queries.proofs.oldest.first_of.Goals as goal

pub returns-clause-counts : goal.returns-clause-counts
returns-clause-counts g c = c.first_kept.ensures.counts

pub returns-clause-rows_name : goal.returns-clause-rows_name
returns-clause-rows_name g c = first-same c.first_kept.ensures.names

pub returns-clause-index_name : goal.returns-clause-index_name
returns-clause-index_name g c = second-same c.first_kept.ensures.names

pub returns-clause-ready : goal.returns-clause-ready
returns-clause-ready g c = c.first_kept.ensures.ready _ c.requires

pub returns-clause-finds : goal.returns-clause-finds
returns-clause-finds g c = c.first_kept.ensures.finds

pub returns-clause-reads : goal.returns-clause-reads
returns-clause-reads g c = c.first_kept.ensures.reads

pub returns-clause-bad_page : goal.returns-clause-bad_page
returns-clause-bad_page g c = c.first_kept.ensures.bad_page

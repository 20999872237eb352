use Rattle.std.proofs.lemmas.Result.{err_from_is_err_and}
use Rattle.fl_map.proofs.Ends.{none-if}
use Rattle.fl_map.proofs.ring.only_head.Goals as goal

pub scan_blocks-requires-clause-lies : goal.scan_blocks-requires-clause-lies
scan_blocks-requires-clause-lies g c = c.requires.lies

pub scan_blocks-requires-clause-room : goal.scan_blocks-requires-clause-room
scan_blocks-requires-clause-room g c = c.requires.room

pub returns-in_err-scan-clause-reads : goal.returns-in_err-scan-clause-reads
returns-in_err-scan-clause-reads g c = c.scan_blocks.ensures.reads

pub returns-in_err-scan-clause-room : goal.returns-in_err-scan-clause-room
returns-in_err-scan-clause-room g c = c.scan_blocks.ensures.room

pub returns-then-heads-ne1-clause-reads : goal.returns-then-heads-ne1-clause-reads
returns-then-heads-ne1-clause-reads g c = c.scan_blocks.ensures.reads

pub returns-then-heads-ne1-clause-room : goal.returns-then-heads-ne1-clause-room
returns-then-heads-ne1-clause-room g c = c.scan_blocks.ensures.room

pub returns-clause-reads : goal.returns-clause-reads
returns-clause-reads g c = c.scan_blocks.ensures.reads

pub returns-clause-room : goal.returns-clause-room
returns-clause-room g c = c.scan_blocks.ensures.room

pub returns-in_err-scan-clause-head : goal.returns-in_err-scan-clause-head
returns-in_err-scan-clause-head g c = none-if c.from_residual.result _ c.from_residual.ensures.0

pub returns-in_err-scan-clause-within : goal.returns-in_err-scan-clause-within
returns-in_err-scan-clause-within g c = none-if c.from_residual.result _ c.from_residual.ensures.0

pub returns-in_err-scan-clause-fails : goal.returns-in_err-scan-clause-fails
returns-in_err-scan-clause-fails g c = let p = err_from_is_err_and c.from_residual.result c.from_residual.ensures.1 in rw (p.1, p.2) c.in_err-scan.ensures.fails

pub returns-clause-within : goal.returns-clause-within
returns-clause-within g c = rw c.head.ensures c.in_ok-scan.ensures.head

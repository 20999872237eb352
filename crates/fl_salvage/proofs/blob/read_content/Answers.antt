use Rattle.std.proofs.lemmas.Result.{err_from_is_err_and}
use Rattle.fl_salvage.proofs.blob.read_content.Goals as goal

pub read-requires-clause-within : goal.read-requires-clause-within
read-requires-clause-within g c = c.requires.ring

pub read-requires-clause-room : goal.read-requires-clause-room
read-requires-clause-room g c = c.requires.room

pub returns-in_err-read-clause-looks : goal.returns-in_err-read-clause-looks
returns-in_err-read-clause-looks g c = c.read.ensures.looks

pub returns-in_err-read-clause-room : goal.returns-in_err-read-clause-room
returns-in_err-read-clause-room g c = c.read.ensures.room

pub returns-in_err-read-clause-content : goal.returns-in_err-read-clause-content
returns-in_err-read-clause-content g c =
    let p = err_from_is_err_and c.from_residual.result c.from_residual.ensures.1 in
    rw p.1 tt

pub returns-in_err-read-clause-within : goal.returns-in_err-read-clause-within
returns-in_err-read-clause-within g c =
    let p = err_from_is_err_and c.from_residual.result c.from_residual.ensures.1 in
    rw p.1 tt

pub returns-in_err-read-clause-cause : goal.returns-in_err-read-clause-cause
returns-in_err-read-clause-cause g c =
    let p = err_from_is_err_and c.from_residual.result c.from_residual.ensures.1 in
    rw (p.1, p.2) c.in_err-read.ensures.cause

pub returns-then-not-branch-clause-looks : goal.returns-then-not-branch-clause-looks
returns-then-not-branch-clause-looks g c = c.read.ensures.looks

pub returns-then-not-branch-clause-room : goal.returns-then-not-branch-clause-room
returns-then-not-branch-clause-room g c = c.read.ensures.room

pub returns-clause-looks : goal.returns-clause-looks
returns-clause-looks g c = c.read.ensures.looks

pub returns-clause-room : goal.returns-clause-room
returns-clause-room g c = c.read.ensures.room

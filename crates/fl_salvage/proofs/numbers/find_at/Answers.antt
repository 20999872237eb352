use Rattle.std.proofs.Common.{◌∙◌, Bool, List, ℕ, Ok, ap}
use Rattle.std.proofs.lemmas.Result.{err_from_is_err_and}
use Rattle.fl_salvage.specs.Pages.{found_in}
use Rattle.fl_schema.specs.Schema.{layout_of}
use Rattle.fl_salvage.proofs.CountedPages.{found-missing, found-there}
use Rattle.fl_salvage.proofs.numbers.find_at.Goals as goal

pub read-requires-clause-within : goal.read-requires-clause-within
read-requires-clause-within g c = c.requires.ring

pub read-requires-clause-place : goal.read-requires-clause-place
read-requires-clause-place g c = c.requires.place

pub read-requires-clause-room : goal.read-requires-clause-room
read-requires-clause-room g c = c.requires.room

pub returns-in_err-read-clause-looks : goal.returns-in_err-read-clause-looks
returns-in_err-read-clause-looks g c = c.read.ensures.looks

pub returns-in_err-read-clause-room : goal.returns-in_err-read-clause-room
returns-in_err-read-clause-room g c = c.read.ensures.room

pub returns-in_err-read-clause-found : goal.returns-in_err-read-clause-found
returns-in_err-read-clause-found g c =
    let p = err_from_is_err_and c.from_residual.result c.from_residual.ensures.1 in
    rw p.1 tt

pub returns-in_err-read-clause-page : goal.returns-in_err-read-clause-page
returns-in_err-read-clause-page g c =
    let p = err_from_is_err_and c.from_residual.result c.from_residual.ensures.1 in
    rw p.1 tt

pub returns-in_err-read-clause-cause : goal.returns-in_err-read-clause-cause
returns-in_err-read-clause-cause g c =
    let p = err_from_is_err_and c.from_residual.result c.from_residual.ensures.1 in
    rw (p.1, p.2) c.in_err-read.ensures.cause

pub returns-then-not-branch-clause-looks : goal.returns-then-not-branch-clause-looks
returns-then-not-branch-clause-looks g c = c.read.ensures.looks

pub returns-then-not-branch-clause-room : goal.returns-then-not-branch-clause-room
returns-then-not-branch-clause-room g c = c.read.ensures.room

pub returns-then-not-branch-clause-found : goal.returns-then-not-branch-clause-found
returns-then-not-branch-clause-found g c =
    λ tells. found-missing (layout_of c.args.schema.now) c.args.ring (g.M.Media.state c.args.media.now).content c.args.place
    (c.in_ok-read.ensures.missing (ap (λ (b : Bool). Ok b) c.if-not-branch.true))

pub returns-clause-looks : goal.returns-clause-looks
returns-clause-looks g c = c.read.ensures.looks

pub returns-clause-room : goal.returns-clause-room
returns-clause-room g c = c.read.ensures.room

pub returns-clause-found : goal.returns-clause-found
returns-clause-found g c =
    λ tells. c.found_in.ensures
    ∙ ap (λ (page : List ℕ). found_in (layout_of c.args.schema.now) c.args.ring c.args.place page) (c.in_ok-read.ensures.bytes (ap (λ (b : Bool). Ok b) c.if-not-branch.false) tells)
    ∙ found-there (layout_of c.args.schema.now) c.args.ring (g.M.Media.state c.args.media.now).content c.args.place (c.in_ok-read.ensures.there (ap (λ (b : Bool). Ok b) c.if-not-branch.false))

pub returns-clause-page : goal.returns-clause-page
returns-clause-page g c = λ tells found. c.in_ok-read.ensures.bytes (ap (λ (b : Bool). Ok b) c.if-not-branch.false) tells

use Rattle.std.proofs.Common.{ℕ, MatchOption, Option, subst}
use Rattle.fl_flash.specs.Flash.{page_at}
use Rattle.fl_check.specs.Entries.{HaveEntries, EntriesBreak}
use Rattle.fl_check.specs.Whole.{shape_in, rows_shape, indexing}
use Rattle.fl_check.proofs.Halts.{if_found, if_failed}
use Rattle.fl_check.proofs.Wholes.{of_ring, entries_fault, in_ring, no_ring}
use Rattle.fl_frame.proofs.ReadsInTurn.{looks_none}
use Rattle.fl_rules.specs.Marks.{AreWithin}
use Rattle.std.proofs.lemmas.Result.{err_from_is_err_and, on_ok_weaker}
use Rattle.fl_check.proofs.table.Checked.check_index_entries.Goals as goal

pub returns-clause-sound : goal.returns-clause-sound
returns-clause-sound g c =
    let page = page_at (g.F.Flash.state c.args.flash.now) in
    let config = c.args.self.now.config.now in
    let place = c.in-Some.place in
    let n = c.in-Some-index.n in
    on_ok_weaker c.found.result
    (λ is told. of_ring (λ place n. HaveEntries page (shape_in config place) (rows_shape config) (indexing config n c.args.t.rows)) config.index c.args.t.index place n c.in-Some.is c.in-Some-index.is
    (subst (λ (o : Option ℕ). MatchOption o (HaveEntries page (shape_in config place) (rows_shape config) (indexing config n c.args.t.rows))
    (λ p. EntriesBreak page (shape_in config place) (rows_shape config) (indexing config n c.args.t.rows) p)) is (c.in_ok-broken.ensures.entries told)))
    c.found.ensures.ok

pub returns-clause-broken : goal.returns-clause-broken
returns-clause-broken g c =
    let page = page_at (g.F.Flash.state c.args.flash.now) in
    let config = c.args.self.now.config.now in
    let place = c.in-Some.place in
    let n = c.in-Some-index.n in
    if_found _ _ c.found.result
    (λ fault is told rings. entries_fault config c.args.self.now.log page c.args.t rings place n fault c.in-Some.is c.in-Some-index.is is.1 is.2
    (subst (λ (o : Option ℕ). MatchOption o (HaveEntries page (shape_in config place) (rows_shape config) (indexing config n c.args.t.rows))
    (λ p. EntriesBreak page (shape_in config place) (rows_shape config) (indexing config n c.args.t.rows) p)) is.0 (c.in_ok-broken.ensures.entries told)))
    c.found.ensures.found

pub find_misentered-requires-clause-fits : goal.find_misentered-requires-clause-fits
find_misentered-requires-clause-fits g c = c.requires.fits

pub find_misentered-requires-clause-place : goal.find_misentered-requires-clause-place
find_misentered-requires-clause-place g c = c.in-Some.is

pub find_misentered-requires-clause-listing : goal.find_misentered-requires-clause-listing
find_misentered-requires-clause-listing g c = c.requires.listing

pub find_misentered-requires-clause-room : goal.find_misentered-requires-clause-room
find_misentered-requires-clause-room g c = c.requires.room

pub find_misentered-requires-clause-index : goal.find_misentered-requires-clause-index
find_misentered-requires-clause-index g c = in_ring (λ place n. AreWithin (shape_in c.args.self.now.config.now place) n.marks) c.args.self.now.config.now.index c.args.t.index c.in-Some.place c.in-Some-index.n c.in-Some.is c.in-Some-index.is c.requires.index

pub find_misentered-requires-clause-rows : goal.find_misentered-requires-clause-rows
find_misentered-requires-clause-rows g c = c.requires.rows

pub returns-in_default-clause-looks : goal.returns-in_default-clause-looks
returns-in_default-clause-looks g c = looks_none (g.F.Flash.state c.args.flash.now)

pub returns-in_default-clause-listing : goal.returns-in_default-clause-listing
returns-in_default-clause-listing g c = c.requires.listing

pub returns-in_default-clause-room : goal.returns-in_default-clause-room
returns-in_default-clause-room g c = c.requires.room

pub returns-in_default-clause-sound : goal.returns-in_default-clause-sound
returns-in_default-clause-sound g c =
    λ told. no_ring (λ place n. AreWithin (shape_in c.args.self.now.config.now place) n.marks)
    (λ place n. HaveEntries (page_at (g.F.Flash.state c.args.flash.now)) (shape_in c.args.self.now.config.now place) (rows_shape c.args.self.now.config.now) (indexing c.args.self.now.config.now n c.args.t.rows)) c.args.self.now.config.now.index c.args.t.index c.in_default.is c.requires.index

pub returns-in_err-broken-clause-looks : goal.returns-in_err-broken-clause-looks
returns-in_err-broken-clause-looks g c = c.find_misentered.ensures.looks

pub returns-in_err-broken-clause-listing : goal.returns-in_err-broken-clause-listing
returns-in_err-broken-clause-listing g c = c.find_misentered.ensures.listing

pub returns-in_err-broken-clause-room : goal.returns-in_err-broken-clause-room
returns-in_err-broken-clause-room g c = c.find_misentered.ensures.room

pub returns-in_err-broken-clause-sound : goal.returns-in_err-broken-clause-sound
returns-in_err-broken-clause-sound g c =
    let p = err_from_is_err_and c.from_residual.result c.from_residual.ensures.1 in
    rw p.1 tt

pub returns-in_err-broken-clause-broken : goal.returns-in_err-broken-clause-broken
returns-in_err-broken-clause-broken g c =
    let p = err_from_is_err_and c.from_residual.result c.from_residual.ensures.1 in
    rw (p.1, p.2) tt

pub returns-in_err-broken-clause-fails : goal.returns-in_err-broken-clause-fails
returns-in_err-broken-clause-fails g c =
    let p = err_from_is_err_and c.from_residual.result c.from_residual.ensures.1 in
    rw (p.1, p.2) c.in_err-broken.ensures.fails

pub returns-clause-looks : goal.returns-clause-looks
returns-clause-looks g c = c.find_misentered.ensures.looks

pub returns-clause-listing : goal.returns-clause-listing
returns-clause-listing g c = c.find_misentered.ensures.listing

pub returns-clause-room : goal.returns-clause-room
returns-clause-room g c = c.find_misentered.ensures.room

pub returns-clause-fails : goal.returns-clause-fails
returns-clause-fails g c = if_failed _ _ c.found.result (λ e none. absurd none) c.found.ensures.failed

use Rattle.fl_check.proofs.BlobsKnown.{all_lead, one_misleads}
use Rattle.fl_check.proofs.Halts.{if_found, if_failed}
use Rattle.fl_flash.specs.Flash.{page_at}
use Rattle.fl_rules.specs.Claims.{AllBelow}
use Rattle.fl_rules.specs.References.{PageLeads}
use Rattle.fl_check.specs.Whole.{shape_in, rows_shape, layout_in}
use Rattle.fl_frame.proofs.ReadsInTurn.{looks_none}
use Rattle.fl_check.proofs.Wholes.{in_ring, no_ring}
use Rattle.fl_rules.specs.Marks.{AreWithin}
use Rattle.std.proofs.lemmas.Result.{err_from_is_err_and, on_ok_weaker}
use Rattle.fl_check.proofs.table.Checked.check_blobs.Goals as goal

pub returns-clause-sound : goal.returns-clause-sound
returns-clause-sound g c =
    let f = g.F.Flash.state c.args.flash.now in
    on_ok_weaker c.found.result
    (λ is told rings. all_lead c.args.self.now.config.now c.args.self.now.log f c.args.t c.requires.fits c.in-Some.place c.in-Some-var.n c.in-Some.is c.in-Some-var.is rings c.in_ok-broken.broken (c.in_ok-broken.ensures.blobs told) is)
    c.found.ensures.ok

pub returns-clause-broken : goal.returns-clause-broken
returns-clause-broken g c =
    let f = g.F.Flash.state c.args.flash.now in
    if_found _ _ c.found.result
    (λ fault is told rings entries. one_misleads c.args.self.now.config.now c.args.self.now.log f c.args.t c.requires.fits c.in-Some.place c.in-Some-var.n c.in-Some.is c.in-Some-var.is rings c.in_ok-broken.broken
    (c.in_ok-broken.ensures.blobs told) fault is.0 is.1 is.2 entries)
    c.found.ensures.found

pub find_misled-requires-clause-fits : goal.find_misled-requires-clause-fits
find_misled-requires-clause-fits g c = c.requires.fits

pub find_misled-requires-clause-place : goal.find_misled-requires-clause-place
find_misled-requires-clause-place g c = c.in-Some.is

pub find_misled-requires-clause-listed : goal.find_misled-requires-clause-listed
find_misled-requires-clause-listed g c = c.requires.listed

pub find_misled-requires-clause-room : goal.find_misled-requires-clause-room
find_misled-requires-clause-room g c = c.requires.room

pub find_misled-requires-clause-rows : goal.find_misled-requires-clause-rows
find_misled-requires-clause-rows g c = c.requires.rows

pub find_misled-requires-clause-var : goal.find_misled-requires-clause-var
find_misled-requires-clause-var g c = in_ring (λ place n. AreWithin (shape_in c.args.self.now.config.now place) n.marks) c.args.self.now.config.now.var c.args.t.var c.in-Some.place c.in-Some-var.n c.in-Some.is c.in-Some-var.is c.requires.var

pub returns-in_default-clause-looks : goal.returns-in_default-clause-looks
returns-in_default-clause-looks g c = looks_none (g.F.Flash.state c.args.flash.now)

pub returns-in_default-clause-sound : goal.returns-in_default-clause-sound
returns-in_default-clause-sound g c =
    λ told rings. no_ring (λ place n. AreWithin (shape_in c.args.self.now.config.now place) n.marks)
    (λ place n. AllBelow (PageLeads (layout_in c.args.self.now.config.now) (page_at (g.F.Flash.state c.args.flash.now)) (rows_shape c.args.self.now.config.now) c.args.t.rows.marks (shape_in c.args.self.now.config.now place) n) c.args.t.rows.marks.kept) c.args.self.now.config.now.var c.args.t.var c.in_default.is c.requires.var

pub returns-in_err-broken-clause-looks : goal.returns-in_err-broken-clause-looks
returns-in_err-broken-clause-looks g c = c.find_misled.ensures.looks

pub returns-in_err-broken-clause-sound : goal.returns-in_err-broken-clause-sound
returns-in_err-broken-clause-sound g c =
    let p = err_from_is_err_and c.from_residual.result c.from_residual.ensures.1 in
    rw p.1 tt

pub returns-in_err-broken-clause-broken : goal.returns-in_err-broken-clause-broken
returns-in_err-broken-clause-broken g c =
    let p = err_from_is_err_and c.from_residual.result c.from_residual.ensures.1 in
    rw (p.1, p.2) tt

pub returns-in_err-broken-clause-fails : goal.returns-in_err-broken-clause-fails
returns-in_err-broken-clause-fails g c =
    let p = err_from_is_err_and c.from_residual.result c.from_residual.ensures.1 in
    rw (p.1, p.2) c.in_err-broken.ensures.fails

pub returns-clause-looks : goal.returns-clause-looks
returns-clause-looks g c = c.find_misled.ensures.looks

pub returns-clause-fails : goal.returns-clause-fails
returns-clause-fails g c = if_failed _ _ c.found.result (λ e none. absurd none) c.found.ensures.failed

use Rattle.std.proofs.Common.{Err, sym, ap, subst}
use Rattle.std.proofs.lemmas.Result.{err_from_is_err_and}
use Rattle.fl_image.specs.declared.status.ToolStatus.{ToolStatus}
use Rattle.fl_image.proofs.MediaLooks.{looks-same}
use Rattle.fl_ship.specs.Ends.{ShipEnds}
use Rattle.fl_ship.specs.Fits.{StatusFits}
use Rattle.fl_ship.specs.Media.{bytes_of}
use Rattle.fl_ship.specs.Tables.{told_of}
use Rattle.fl_ship.specs.declared.status.ShipStatus.{ShipStatus}
use Rattle.fl_ship.specs.declared.side.Side.TheVariants.{Copy, Source}
use Rattle.fl_ship.proofs.Causes.{fits-look, fits-source}
use Rattle.fl_ship.proofs.ImageEnds.{look-ends, source-ends}
use Rattle.fl_ship.proofs.Prepared.{early, ends, fits, no-device, ready}
use Rattle.fl_ship.proofs.ready.make_ready.Goals as goal

pub returns-in-Err-clause-ends : goal.returns-in-Err-clause-ends
returns-in-Err-clause-ends g c = λ config sources copies count told tells copy_tells made image stands.
    let old = g.M.Media.state c.args.media.now in
    let new = g.M.Media.state c.on.new.media in
    let copy = g.C.Media.state c.args.copy.now in
    subst (λ (s : ShipStatus). ShipEnds config sources copies c.args.name count (told_of old new copy copy told told) (bytes_of old new copy copy) s) (sym c.source_status.ensures)
    (source-ends config sources copies c.args.name count old new copy copy told image stands c.in-Err.ensures.looks (looks-same copy) c.in-Err.status (c.in-Err.ensures.finds config sources tells made image)
    (λ e. c.in-Err.ensures.device (ap (λ (s : ToolStatus). Err s) e)))

pub returns-in-Err-clause-fits : goal.returns-in-Err-clause-fits
returns-in-Err-clause-fits g c = λ tells copy_tells.
    let bytes = (g.M.Media.state c.args.media.now).content in
    let copy = (g.C.Media.state c.args.copy.now).content in
    subst (StatusFits bytes copy c.args.name) (sym c.source_status.ensures) (fits-source bytes copy c.args.name c.in-Err.status c.in-Err.ensures.statuses (λ e. c.in-Err.ensures.none (ap (λ (s : ToolStatus). Err s) e) tells))

-- the copy isn't one of the same configuration, or its medium failed
pub returns-in_err-look_at_copy-clause-ends : goal.returns-in_err-look_at_copy-clause-ends
returns-in_err-look_at_copy-clause-ends g c =
    let p = err_from_is_err_and c.from_residual.result c.from_residual.ensures.1 in
    rw (p.1, p.2) (λ config sources copies count told tells copy_tells made image stands.
    look-ends config sources copies c.args.name count (g.M.Media.state c.args.media.now) (g.M.Media.state c.on.new.media) (g.C.Media.state c.args.copy.now) (g.C.Media.state c.look_at_copy.new.copy) told image stands
    c.in-Ok.ensures.looks c.look_at_copy.ensures.looks c.in-Ok.found.config (c.in-Ok.ensures.image tells).0 (c.in-Ok.ensures.finds config sources tells made image) c.in_err-look_at_copy.field-0.0 c.in_err-look_at_copy.ensures.statuses
    (λ e. c.in_err-look_at_copy.ensures.other (ap (λ (s : ShipStatus). Err s) e) copy_tells) (λ e. c.in_err-look_at_copy.ensures.device (ap (λ (s : ShipStatus). Err s) e)))

pub returns-in_err-look_at_copy-clause-fits : goal.returns-in_err-look_at_copy-clause-fits
returns-in_err-look_at_copy-clause-fits g c =
    let p = err_from_is_err_and c.from_residual.result c.from_residual.ensures.1 in
    rw (p.1, p.2) (λ tells copy_tells.
    let is = c.in-Ok.ensures.image tells in
    fits-look (g.M.Media.state c.args.media.now).content (g.C.Media.state c.args.copy.now).content c.args.name c.in-Ok.found.config is.0 is.1 c.in_err-look_at_copy.field-0.0 c.in_err-look_at_copy.ensures.statuses
    (λ e. c.in_err-look_at_copy.ensures.other (ap (λ (s : ShipStatus). Err s) e) copy_tells))

pub returns-clause-ready : goal.returns-clause-ready
returns-clause-ready g c =
    ready c.in-Ok.found c.args.name c.in-Ok.ensures.layout (g.M.Media.state c.args.media.now) (g.C.Media.state c.args.copy.now) c.in-Ok.ensures.image c.in_ok-look_at_copy.ensures.own
    c.in-Ok.ensures.whole c.in-Ok.ensures.finds c.in-Ok.ensures.size c.in_ok-look_at_copy.ensures.size c.prepared.result c.prepared.ensures.ready

pub returns-clause-early : goal.returns-clause-early
returns-clause-early g c = early c.in-Ok.found c.args.name c.prepared.result c.prepared.ensures.refused

pub returns-clause-ends : goal.returns-clause-ends
returns-clause-ends g c =
    ends c.in-Ok.found c.args.name c.in-Ok.ensures.layout (g.M.Media.state c.args.media.now) (g.M.Media.state c.on.new.media) (g.C.Media.state c.args.copy.now) (g.C.Media.state c.look_at_copy.new.copy)
    c.in-Ok.ensures.looks c.look_at_copy.ensures.looks c.in-Ok.ensures.finds c.prepared.result c.prepared.ensures.refused

pub returns-clause-fits : goal.returns-clause-fits
returns-clause-fits g c =
    fits c.in-Ok.found c.args.name c.in-Ok.ensures.layout (g.M.Media.state c.args.media.now) (g.C.Media.state c.args.copy.now) c.in-Ok.ensures.image c.in_ok-look_at_copy.ensures.own
    c.prepared.result c.prepared.ensures.refused

pub returns-clause-device : goal.returns-clause-device
returns-clause-device g c = λ is. absurd (no-device c.in-Ok.found c.args.name c.prepared.result Source c.prepared.ensures.refused is)

pub returns-clause-copy_device : goal.returns-clause-copy_device
returns-clause-copy_device g c = λ is. absurd (no-device c.in-Ok.found c.args.name c.prepared.result Copy c.prepared.ensures.refused is)

pub returns-clause-looks : goal.returns-clause-looks
returns-clause-looks g c = c.in-Ok.ensures.looks

pub returns-clause-copy_looks : goal.returns-clause-copy_looks
returns-clause-copy_looks g c = c.look_at_copy.ensures.looks

pub returns-clause-copy_unread : goal.returns-clause-copy_unread
returns-clause-copy_unread g c = c.look_at_copy.ensures.unread

use Rattle.std.proofs.Common.{◌≡◌, sym, ◌∙◌, ap}
use Rattle.std.proofs.lemmas.Result.{err_from_is_err_and, IfErr-weaker}
use Rattle.fl_base.specs.declared.types.Geometry.{Geometry}
use Rattle.fl_ring.specs.Mounting.{shape_at}
use Rattle.fl_ring.specs.Place.{shape_of}
use Rattle.fl_schema.specs.Schema.{layout_of}
use Rattle.fl_check.specs.Whole.{shape_in, rows_shape}
use Rattle.fl_check.proofs.BlobsKnown.{misled_told}
use Rattle.fl_frame.proofs.ReadsInTurn.{looks_by, looks_more}
use Rattle.fl_rules.proofs.LooksChangeNothing.{fails_later}
use Rattle.fl_check.proofs.PlacesStay.{fits_still}
use Rattle.fl_check.proofs.RulesTold.{if_ok_both}
use Rattle.fl_frame.specs.Causes.{ReadFails}
use Rattle.fl_check.proofs.TableRings.{room_in, within, some_blocks, some_lies, some_room, kept_room}
use Rattle.fl_check.proofs.table.Checked.find_misled.Goals as goal

pub returns-clause-blobs : goal.returns-clause-blobs
returns-clause-blobs g c =
    let f = g.F.Flash.state c.args.flash.now in
    let mid = g.F.Flash.state c.find_reaches.new.flash in
    let config = c.args.self.now.config.now in
    let place = c.args.place in
    let n = c.args.var in
    let looks = looks_by f mid n.marks.kept c.find_reaches.ensures.reads in
    let r_is : shape_of c.unnumbered-ring.result ≡ shape_in config place = c.unnumbered-ring.ensures.shape ∙ ap (λ (x : Geometry). shape_at place x) (sym c.requires.fits.geometry) in
    let d_is : shape_of c.unnumbered-data.result ≡ rows_shape config =
    c.unnumbered-data.ensures.shape ∙ ap (λ (x : Geometry). shape_at config.rows x) (sym (fits_still config f mid looks c.requires.fits).geometry) in
    if_ok_both _ _ _ c.find_misleading.result
    (λ broken none some. misled_told c.args.rows n broken config f mid place (layout_of c.args.self.now.schema) (shape_of c.unnumbered-data.result) (shape_of c.unnumbered-ring.result) c.find_reaches.new.reaches
    looks c.args.self.now.layout d_is r_is c.in_ok-find_reaches.ensures.reaches none some)
    c.find_misleading.ensures.none c.find_misleading.ensures.some

pub returns-in_err-find_reaches-clause-looks : goal.returns-in_err-find_reaches-clause-looks
returns-in_err-find_reaches-clause-looks g c = looks_by (g.F.Flash.state c.args.flash.now) (g.F.Flash.state c.find_reaches.new.flash) c.args.var.marks.kept c.find_reaches.ensures.reads

pub returns-in_err-find_reaches-clause-blobs : goal.returns-in_err-find_reaches-clause-blobs
returns-in_err-find_reaches-clause-blobs g c =
    let p = err_from_is_err_and c.from_residual.result c.from_residual.ensures.1 in
    rw p.1 tt

pub returns-in_err-find_reaches-clause-fails : goal.returns-in_err-find_reaches-clause-fails
returns-in_err-find_reaches-clause-fails g c =
    let p = err_from_is_err_and c.from_residual.result c.from_residual.ensures.1 in
    rw (p.1, p.2) c.in_err-find_reaches.ensures.fails

pub returns-clause-looks : goal.returns-clause-looks
returns-clause-looks g c =
    let f = g.F.Flash.state c.args.flash.now in
    let mid = g.F.Flash.state c.find_reaches.new.flash in
    let looks = looks_by f mid c.args.var.marks.kept c.find_reaches.ensures.reads in
    let late = g.F.Flash.state c.find_misleading.new.flash in
    looks_more f mid late looks (looks_by mid late c.args.rows.kept c.find_misleading.ensures.reads)

pub returns-clause-fails : goal.returns-clause-fails
returns-clause-fails g c =
    let f = g.F.Flash.state c.args.flash.now in
    let mid = g.F.Flash.state c.find_reaches.new.flash in
    let looks = looks_by f mid c.args.var.marks.kept c.find_reaches.ensures.reads in
    let late = g.F.Flash.state c.find_misleading.new.flash in
    IfErr-weaker c.find_misleading.result (λ e. ReadFails mid e late) (λ e. ReadFails f e late) (λ e. fails_later f mid late e looks) c.find_misleading.ensures.fails

pub unnumbered-ring-requires-clause-blocks : goal.unnumbered-ring-requires-clause-blocks
unnumbered-ring-requires-clause-blocks g c = some_blocks c.args.self.now.config.now.var c.args.place c.requires.place c.requires.fits.limits.var

pub unnumbered-ring-requires-clause-lies : goal.unnumbered-ring-requires-clause-lies
unnumbered-ring-requires-clause-lies g c = some_lies c.args.self.now.config.now.var c.args.place c.requires.place (g.F.Flash.state c.args.flash.now).blocks c.requires.fits.var

pub unnumbered-ring-requires-clause-few : goal.unnumbered-ring-requires-clause-few
unnumbered-ring-requires-clause-few g c = c.requires.fits.few

pub find_reaches-requires-clause-lies : goal.find_reaches-requires-clause-lies
find_reaches-requires-clause-lies g c = c.unnumbered-ring.ensures.lies

pub find_reaches-requires-clause-room : goal.find_reaches-requires-clause-room
find_reaches-requires-clause-room g c =
    room_in c.args.self.now.config.now (g.F.Flash.state c.args.flash.now) c.requires.fits c.args.place (shape_of c.unnumbered-ring.result) c.unnumbered-ring.ensures.shape c.requires.room

pub find_reaches-requires-clause-within : goal.find_reaches-requires-clause-within
find_reaches-requires-clause-within g c =
    within c.args.self.now.config.now (g.F.Flash.state c.args.flash.now) c.requires.fits c.args.place (shape_of c.unnumbered-ring.result) c.unnumbered-ring.ensures.shape c.args.var.marks c.requires.var

pub find_reaches-requires-clause-listed : goal.find_reaches-requires-clause-listed
find_reaches-requires-clause-listed g c =
    let config = c.args.self.now.config.now in
    kept_room c.requires.var.kept (some_room config.var c.args.place c.requires.place config.geometry.block _ c.requires.listed)

use Rattle.std.proofs.Common.{◌≡◌, subst}
use Rattle.std.proofs.lemmas.Result.{IfOk-weaker}
use Rattle.fl_flash.specs.Flash.{page_at}
use Rattle.fl_frame.proofs.ReadsInTurn.{looks_by}
use Rattle.fl_model.specs.Record.{RowLayout}
use Rattle.fl_ring.specs.Place.{shape_of}
use Rattle.fl_ring.specs.Ring.{Shape}
use Rattle.fl_schema.specs.Schema.{layout_of}
use Rattle.fl_rules.specs.Rising.{HaveRows}
use Rattle.fl_rules.specs.Tally.{tally_of}
use Rattle.fl_check.specs.Whole.{rows_shape}
use Rattle.fl_check.proofs.TableRings.{shape_is, room_in, room_back, within}
use Rattle.fl_check.proofs.table.Checked.tally_rows.Goals as goal

pub unnumbered-ring-requires-clause-blocks : goal.unnumbered-ring-requires-clause-blocks
unnumbered-ring-requires-clause-blocks g c = c.requires.fits.limits.rows.0

pub unnumbered-ring-requires-clause-lies : goal.unnumbered-ring-requires-clause-lies
unnumbered-ring-requires-clause-lies g c = c.requires.fits.rows

pub unnumbered-ring-requires-clause-few : goal.unnumbered-ring-requires-clause-few
unnumbered-ring-requires-clause-few g c = c.requires.fits.few

pub tally_pages-requires-clause-lies : goal.tally_pages-requires-clause-lies
tally_pages-requires-clause-lies g c = c.unnumbered-ring.ensures.lies

pub tally_pages-requires-clause-room : goal.tally_pages-requires-clause-room
tally_pages-requires-clause-room g c =
    let config = c.args.self.now.config.now in
    room_in config (g.F.Flash.state c.args.flash.now) c.requires.fits config.rows (shape_of c.unnumbered-ring.result) c.unnumbered-ring.ensures.shape c.requires.room

pub tally_pages-requires-clause-within : goal.tally_pages-requires-clause-within
tally_pages-requires-clause-within g c =
    let config = c.args.self.now.config.now in
    within config (g.F.Flash.state c.args.flash.now) c.requires.fits config.rows (shape_of c.unnumbered-ring.result) c.unnumbered-ring.ensures.shape c.args.rows.marks c.requires.within

pub returns-clause-looks : goal.returns-clause-looks
returns-clause-looks g c = looks_by (g.F.Flash.state c.args.flash.now) (g.F.Flash.state c.tally_pages.new.flash) c.args.rows.marks.kept c.tally_pages.ensures.reads

pub returns-clause-room : goal.returns-clause-room
returns-clause-room g c =
    let config = c.args.self.now.config.now in
    room_back config (g.F.Flash.state c.args.flash.now) c.requires.fits config.rows (shape_of c.unnumbered-ring.result) c.unnumbered-ring.ensures.shape c.tally_pages.ensures.room

pub returns-clause-tally : goal.returns-clause-tally
returns-clause-tally g c =
    let f = g.F.Flash.state c.args.flash.now in
    let config = c.args.self.now.config.now in
    let layout = layout_of c.args.self.now.schema in
    let m = c.args.rows.marks in
    let same = shape_is config f c.requires.fits config.rows (shape_of c.unnumbered-ring.result) c.unnumbered-ring.ensures.shape in
    IfOk-weaker c.tally_pages.result _ _
    (λ tally is told.
    subst (λ (l : RowLayout). HaveRows l (page_at f) (rows_shape config) m → tally ≡ tally_of l (page_at f) (rows_shape config) m m.kept) c.args.self.now.layout
    (subst (λ (r : Shape). HaveRows layout (page_at f) r m → tally ≡ tally_of layout (page_at f) r m m.kept) same (is told)))
    c.tally_pages.ensures.tally

pub returns-clause-fails : goal.returns-clause-fails
returns-clause-fails g c = c.tally_pages.ensures.fails

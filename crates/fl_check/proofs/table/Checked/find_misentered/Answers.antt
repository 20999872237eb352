use Rattle.std.proofs.Common.{◌≡◌, MatchOption, sym, ◌∙◌, ap, subst, IsTrue, Option, is_some, refl}
use Rattle.fl_base.specs.declared.types.Geometry.{Geometry}
use Rattle.fl_flash.specs.Flash.{page_at}
use Rattle.fl_index.specs.declared.page.EntryForm.{EntryForm}
use Rattle.fl_model.specs.Record.{RowLayout}
use Rattle.fl_ring.specs.Mounting.{shape_at}
use Rattle.fl_ring.specs.Place.{shape_of}
use Rattle.fl_ring.specs.Ring.{Shape}
use Rattle.fl_schema.specs.Schema.{layout_of}
use Rattle.fl_check.specs.Entries.{IndexOver, HaveEntries, EntriesBreak}
use Rattle.fl_check.specs.Whole.{shape_in, rows_shape, layout_in}
use Rattle.fl_check.proofs.RulesTold.{if_ok_both, told_of}
use Rattle.fl_frame.proofs.ReadsInTurn.{looks_by}
use Rattle.fl_check.proofs.TableRings.{room_in, room_back, within, some_blocks, some_lies}
use Rattle.fl_base.specs.declared.types.RingPlace.{RingPlace}
use Rattle.fl_check.proofs.table.Checked.find_misentered.Goals as goal

pub returns-clause-entries : goal.returns-clause-entries
returns-clause-entries g c =
    let page = page_at (g.F.Flash.state c.args.flash.now) in
    let config = c.args.self.now.config.now in
    let place = c.args.place in
    let listings : shape_of c.unnumbered-index.result ≡ shape_in config place = c.unnumbered-index.ensures.shape ∙ ap (λ (x : Geometry). shape_at place x) (sym c.requires.fits.geometry) in
    let before : shape_of c.unnumbered-rows.result ≡ rows_shape config = c.unnumbered-rows.ensures.shape ∙ ap (λ (x : Geometry). shape_at config.rows x) (sym c.requires.fits.geometry) in
    let of : EntryForm → RowLayout → IndexOver = λ form layout. record { form = form; layout = layout; index = c.args.index.marks; rows = c.args.rows } in
    if_ok_both _ _ _ c.check_entries.result
    (λ broken none some told.
    subst (λ (form : EntryForm). MatchOption broken (HaveEntries page (shape_in config place) (rows_shape config) (of form (layout_in config))) (λ p. EntriesBreak page (shape_in config place) (rows_shape config) (of form (layout_in config)) p))
    c.entry_form.ensures.exact
    (subst (λ (layout : RowLayout). MatchOption broken (HaveEntries page (shape_in config place) (rows_shape config) (of c.entry_form.result layout))
    (λ p. EntriesBreak page (shape_in config place) (rows_shape config) (of c.entry_form.result layout) p)) c.args.self.now.layout
    (subst (λ (r : Shape). MatchOption broken (HaveEntries page (shape_in config place) r (of c.entry_form.result (layout_of c.args.self.now.schema)))
    (λ p. EntriesBreak page (shape_in config place) r (of c.entry_form.result (layout_of c.args.self.now.schema)) p)) before
    (subst (λ (r : Shape). MatchOption broken (HaveEntries page r (shape_of c.unnumbered-rows.result) (of c.entry_form.result (layout_of c.args.self.now.schema)))
    (λ p. EntriesBreak page r (shape_of c.unnumbered-rows.result) (of c.entry_form.result (layout_of c.args.self.now.schema)) p)) listings
    (told_of broken _ _ (none told) (some told))))))
    c.check_entries.ensures.none c.check_entries.ensures.some

pub unnumbered-index-requires-clause-blocks : goal.unnumbered-index-requires-clause-blocks
unnumbered-index-requires-clause-blocks g c = some_blocks c.args.self.now.config.now.index c.args.place c.requires.place c.requires.fits.limits.index

pub unnumbered-index-requires-clause-lies : goal.unnumbered-index-requires-clause-lies
unnumbered-index-requires-clause-lies g c = some_lies c.args.self.now.config.now.index c.args.place c.requires.place (g.F.Flash.state c.args.flash.now).blocks c.requires.fits.index

pub unnumbered-index-requires-clause-few : goal.unnumbered-index-requires-clause-few
unnumbered-index-requires-clause-few g c = c.requires.fits.few

pub unnumbered-rows-requires-clause-blocks : goal.unnumbered-rows-requires-clause-blocks
unnumbered-rows-requires-clause-blocks g c = c.requires.fits.limits.rows.0

pub unnumbered-rows-requires-clause-lies : goal.unnumbered-rows-requires-clause-lies
unnumbered-rows-requires-clause-lies g c = c.requires.fits.rows

pub unnumbered-rows-requires-clause-few : goal.unnumbered-rows-requires-clause-few
unnumbered-rows-requires-clause-few g c = c.requires.fits.few

pub check_entries-requires-clause-listing : goal.check_entries-requires-clause-listing
check_entries-requires-clause-listing g c =
    room_in c.args.self.now.config.now (g.F.Flash.state c.args.flash.now) c.requires.fits c.args.place (shape_of c.unnumbered-index.result) c.unnumbered-index.ensures.shape c.requires.listing

pub check_entries-requires-clause-room : goal.check_entries-requires-clause-room
check_entries-requires-clause-room g c =
    let config = c.args.self.now.config.now in
    room_in config (g.F.Flash.state c.args.flash.now) c.requires.fits config.rows (shape_of c.unnumbered-rows.result) c.unnumbered-rows.ensures.shape c.requires.room

pub check_entries-requires-clause-index_within : goal.check_entries-requires-clause-index_within
check_entries-requires-clause-index_within g c =
    within c.args.self.now.config.now (g.F.Flash.state c.args.flash.now) c.requires.fits c.args.place (shape_of c.unnumbered-index.result) c.unnumbered-index.ensures.shape c.args.index.marks c.requires.index

pub check_entries-requires-clause-rows_within : goal.check_entries-requires-clause-rows_within
check_entries-requires-clause-rows_within g c =
    let config = c.args.self.now.config.now in
    within config (g.F.Flash.state c.args.flash.now) c.requires.fits config.rows (shape_of c.unnumbered-rows.result) c.unnumbered-rows.ensures.shape c.args.rows.marks c.requires.rows

pub returns-clause-looks : goal.returns-clause-looks
returns-clause-looks g c = looks_by (g.F.Flash.state c.args.flash.now) (g.F.Flash.state c.check_entries.new.flash) _ c.check_entries.ensures.reads

pub returns-clause-listing : goal.returns-clause-listing
returns-clause-listing g c =
    room_back c.args.self.now.config.now (g.F.Flash.state c.args.flash.now) c.requires.fits c.args.place (shape_of c.unnumbered-index.result) c.unnumbered-index.ensures.shape c.check_entries.ensures.listing

pub returns-clause-room : goal.returns-clause-room
returns-clause-room g c =
    let config = c.args.self.now.config.now in
    room_back config (g.F.Flash.state c.args.flash.now) c.requires.fits config.rows (shape_of c.unnumbered-rows.result) c.unnumbered-rows.ensures.shape c.check_entries.ensures.room

pub returns-clause-fails : goal.returns-clause-fails
returns-clause-fails g c = c.check_entries.ensures.fails

pub entry_form-requires-clause-limits : goal.entry_form-requires-clause-limits
entry_form-requires-clause-limits g c = c.requires.fits.limits

pub entry_form-requires-clause-index : goal.entry_form-requires-clause-index
entry_form-requires-clause-index g c = subst (λ (o : Option RingPlace). IsTrue (is_some o)) (sym c.requires.place) refl

pub check_entries-requires-clause-index : goal.check_entries-requires-clause-index
check_entries-requires-clause-index g c = c.unnumbered-index.ensures.lies

pub check_entries-requires-clause-rows : goal.check_entries-requires-clause-rows
check_entries-requires-clause-rows g c = c.unnumbered-rows.ensures.lies

pub check_entries-requires-clause-some : goal.check_entries-requires-clause-some
check_entries-requires-clause-some g c = c.entry_form.ensures.some

pub check_entries-requires-clause-few : goal.check_entries-requires-clause-few
check_entries-requires-clause-few g c = c.entry_form.ensures.few

use Rattle.std.proofs.Common.{◌≡◌, ℕ, Some, Option, IsTrue, refl, sym, ◌∙◌, ap, subst}
use Rattle.std.specs.Prelude.{is_some}
use Rattle.fl_base.specs.declared.types.RingPlace.{RingPlace}
use Rattle.fl_flash.specs.Flash.{page_at}
use Rattle.fl_ring.specs.Place.{shape_of}
use Rattle.fl_ring.specs.Ring.{Shape}
use Rattle.fl_index.specs.declared.page.EntryForm.{EntryForm}
use Rattle.fl_rules.specs.Tally.{listed_to}
use Rattle.fl_rules.specs.declared.numbering.Numbering.{Numbering}
use Rattle.fl_check.specs.Entries.{entries_in}
use Rattle.fl_check.specs.Whole.{end_in, form_in}
use Rattle.fl_check.proofs.TableRings.{shape_is, room_in, room_back, within, some_blocks, some_lies, within_there}
use Rattle.fl_frame.proofs.ReadsInTurn.{looks_none, looks_by}
use Rattle.std.proofs.lemmas.Option.{none-some}
use Rattle.std.proofs.lemmas.Result.{IfOk-weaker}
use Rattle.fl_check.proofs.table.Checked.find_index_end.Goals as goal

pub unnumbered-ring-requires-clause-blocks : goal.unnumbered-ring-requires-clause-blocks
unnumbered-ring-requires-clause-blocks g c = some_blocks c.args.self.now.config.now.index c.in-Some.place c.in-Some.is c.requires.fits.limits.index

pub unnumbered-ring-requires-clause-lies : goal.unnumbered-ring-requires-clause-lies
unnumbered-ring-requires-clause-lies g c = some_lies c.args.self.now.config.now.index c.in-Some.place c.in-Some.is (g.F.Flash.state c.args.flash.now).blocks c.requires.fits.index

pub unnumbered-ring-requires-clause-few : goal.unnumbered-ring-requires-clause-few
unnumbered-ring-requires-clause-few g c = c.requires.fits.few

pub entry_form-requires-clause-limits : goal.entry_form-requires-clause-limits
entry_form-requires-clause-limits g c = c.requires.fits.limits

pub entry_form-requires-clause-index : goal.entry_form-requires-clause-index
entry_form-requires-clause-index g c = subst (λ (o : Option RingPlace). IsTrue (is_some o)) (sym c.in-Some.is) refl

pub entries_in-per_page-requires-clause-some : goal.entries_in-per_page-requires-clause-some
entries_in-per_page-requires-clause-some g c = c.entry_form.ensures.some

pub entries_in-per_page-requires-clause-few : goal.entries_in-per_page-requires-clause-few
entries_in-per_page-requires-clause-few g c = c.entry_form.ensures.few

pub find_end-requires-clause-lies : goal.find_end-requires-clause-lies
find_end-requires-clause-lies g c = c.unnumbered-ring.ensures.lies

pub find_end-requires-clause-room : goal.find_end-requires-clause-room
find_end-requires-clause-room g c = room_in c.args.self.now.config.now (g.F.Flash.state c.args.flash.now) c.requires.fits c.in-Some.place (shape_of c.unnumbered-ring.result) c.unnumbered-ring.ensures.shape c.requires.room

pub find_end-requires-clause-within : goal.find_end-requires-clause-within
find_end-requires-clause-within g c =
    within c.args.self.now.config.now (g.F.Flash.state c.args.flash.now) c.requires.fits c.in-Some.place (shape_of c.unnumbered-ring.result) c.unnumbered-ring.ensures.shape c.in-Some-index.n.marks
    (within_there c.args.self.now.config.now c.args.self.now.config.now.index c.args.index c.in-Some.place c.in-Some-index.n c.in-Some.is c.in-Some-index.is c.requires.within)

pub returns-in_default-clause-looks : goal.returns-in_default-clause-looks
returns-in_default-clause-looks g c = looks_none (g.F.Flash.state c.args.flash.now)

pub returns-in_default-clause-room : goal.returns-in_default-clause-room
returns-in_default-clause-room g c = c.requires.room

pub returns-in_default-clause-end : goal.returns-in_default-clause-end
returns-in_default-clause-end g c = λ told. sym (ap (λ (o : Option RingPlace). end_in c.args.self.now.config.now (page_at (g.F.Flash.state c.args.flash.now)) o c.args.index) c.in_default.is)

pub returns-in_default-clause-none : goal.returns-in_default-clause-none
returns-in_default-clause-none g c = λ none. (refl, refl)

pub returns-in_default-index-clause-looks : goal.returns-in_default-index-clause-looks
returns-in_default-index-clause-looks g c = looks_none (g.F.Flash.state c.args.flash.now)

pub returns-in_default-index-clause-room : goal.returns-in_default-index-clause-room
returns-in_default-index-clause-room g c = c.requires.room

pub returns-in_default-index-clause-end : goal.returns-in_default-index-clause-end
returns-in_default-index-clause-end g c =
    λ told. sym (ap (λ (o : Option RingPlace). end_in c.args.self.now.config.now (page_at (g.F.Flash.state c.args.flash.now)) o c.args.index) c.in-Some.is
    ∙ ap (λ (x : Option Numbering). end_in c.args.self.now.config.now (page_at (g.F.Flash.state c.args.flash.now)) (Some c.in-Some.place) x) c.in_default-index.is)

pub returns-in_default-index-clause-none : goal.returns-in_default-index-clause-none
returns-in_default-index-clause-none g c = λ none. (refl, refl)

pub returns-clause-looks : goal.returns-clause-looks
returns-clause-looks g c = looks_by (g.F.Flash.state c.args.flash.now) (g.F.Flash.state c.find_end.new.flash) _ c.find_end.ensures.reads

pub returns-clause-room : goal.returns-clause-room
returns-clause-room g c = room_back c.args.self.now.config.now (g.F.Flash.state c.args.flash.now) c.requires.fits c.in-Some.place (shape_of c.unnumbered-ring.result) c.unnumbered-ring.ensures.shape c.find_end.ensures.room

pub returns-clause-end : goal.returns-clause-end
returns-clause-end g c =
    let page = page_at (g.F.Flash.state c.args.flash.now) in
    let config = c.args.self.now.config.now in
    let place = c.in-Some.place in
    let n = c.in-Some-index.n in
    let per_page : c.entries_in-per_page.result ≡ entries_in config.geometry.page (form_in config) =
    c.entries_in-per_page.ensures.exact ∙ ap (λ (form : EntryForm). entries_in config.geometry.page form) c.entry_form.ensures.exact in
    IfOk-weaker c.find_end.result _ _
    (λ end is told. is told
    ∙ ap (λ (k : ℕ). listed_to k page (shape_of c.unnumbered-ring.result) n.marks n.marks.kept) per_page
    ∙ ap (λ (r : Shape). listed_to (entries_in config.geometry.page (form_in config)) page r n.marks n.marks.kept) (shape_is c.args.self.now.config.now (g.F.Flash.state c.args.flash.now) c.requires.fits place (shape_of c.unnumbered-ring.result) c.unnumbered-ring.ensures.shape)
    ∙ sym (ap (λ (o : Option RingPlace). end_in config page o c.args.index) c.in-Some.is ∙ ap (λ (x : Option Numbering). end_in config page (Some place) x) c.in-Some-index.is))
    c.find_end.ensures.end

pub returns-clause-fails : goal.returns-clause-fails
returns-clause-fails g c = c.find_end.ensures.fails

pub returns-clause-none : goal.returns-clause-none
returns-clause-none g c = λ none. absurd (none-some c.in-Some.place (sym none ∙ c.in-Some.is))

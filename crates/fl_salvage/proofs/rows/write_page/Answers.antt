use Rattle.std.proofs.Common.{◌≡◌, ℕ, Bool, Ok, List, length, le_refl, sym, ◌∙◌, ap, subst}
use Rattle.std.proofs.Math.Nat.{mod-lt}
use Rattle.std.proofs.lemmas.List.{with_items_is}
use Rattle.std.proofs.lemmas.Result.{err_from_is_err_and, IfErr-weaker}
use Rattle.fl_base.proofs.Appended.{front-none}
use Rattle.fl_page.specs.Header.{page_count}
use Rattle.fl_page.specs.Page.{IsGoodPage}
use Rattle.fl_page.specs.View.{page_of, layout_of_page, count_of, rows_of}
use Rattle.fl_rules.proofs.DataPages.{rows_seen}
use Rattle.fl_salvage.specs.Faults.{IsCaused}
use Rattle.fl_salvage.specs.Pages.{numbered}
use Rattle.fl_salvage.specs.Text.{form_of}
use Rattle.fl_script.proofs.SinkPieces.{written-err}
use Rattle.fl_image.proofs.MediaLooks.{looks-then}
use Rattle.fl_salvage.proofs.MediaOnlyRead.{tells-on, caused-later}
use Rattle.fl_salvage.proofs.PageTexts.{missing-text, unformed-text, page-written}
use Rattle.fl_salvage.proofs.rows.write_page.Goals as goal

pub read-requires-clause-within : goal.read-requires-clause-within
read-requires-clause-within g c = c.args.table.now.rows_are

pub read-requires-clause-place : goal.read-requires-clause-place
read-requires-clause-place g c = mod-lt c.args.number c.args.table.now.rows_are.some

pub read-requires-clause-room : goal.read-requires-clause-room
read-requires-clause-room g c = ap (λ (l : List ℕ). length l) c.deref_mut.ensures.value ∙ c.requires.rooms.rows

pub returns-in_err-read-clause-looks : goal.returns-in_err-read-clause-looks
returns-in_err-read-clause-looks g c = c.read.ensures.looks

pub returns-in_err-read-clause-rooms : goal.returns-in_err-read-clause-rooms
returns-in_err-read-clause-rooms g c =
    let filled : length c.read.new.page ≡ c.args.rooms.now.page.len = c.read.ensures.room ∙ sym c.requires.rooms.rows ∙ sym c.args.rooms.now.page.ok.0 in
    record { rows = ap (λ (l : List ℕ). length l) (with_items_is c.args.rooms.now.page c.read.new.page filled) ∙ c.read.ensures.room; blob = c.requires.rooms.blob }

pub returns-in_err-read-clause-later : goal.returns-in_err-read-clause-later
returns-in_err-read-clause-later g c = le_refl (g.K.Sink.faults c.args.out.now)

pub returns-in_err-read-clause-writes : goal.returns-in_err-read-clause-writes
returns-in_err-read-clause-writes g c tells = written-err _ _ _ _ c.from_residual.ensures.0 (front-none (g.K.Sink.written c.args.out.now) _)

pub returns-in_err-read-clause-cause : goal.returns-in_err-read-clause-cause
returns-in_err-read-clause-cause g c =
    let p = err_from_is_err_and c.from_residual.result c.from_residual.ensures.1 in
    rw (p.1, p.2) c.in_err-read.ensures.cause

pub returns-then-not-branch-clause-looks : goal.returns-then-not-branch-clause-looks
returns-then-not-branch-clause-looks g c = c.read.ensures.looks

pub returns-then-not-branch-clause-later : goal.returns-then-not-branch-clause-later
returns-then-not-branch-clause-later g c = le_refl (g.K.Sink.faults c.args.out.now)

pub returns-then-not-branch-clause-writes : goal.returns-then-not-branch-clause-writes
returns-then-not-branch-clause-writes g c tells =
    missing-text (form_of c.args.table.now) (g.M.Media.state c.args.media.now).content c.args.number (g.K.Sink.written c.args.out.now)
    (c.in_ok-read.ensures.missing (ap (λ (b : Bool). Ok b) c.if-not-branch.true))

pub returns-in_default-clause-looks : goal.returns-in_default-clause-looks
returns-in_default-clause-looks g c = c.read.ensures.looks

pub returns-in_default-clause-later : goal.returns-in_default-clause-later
returns-in_default-clause-later g c = le_refl (g.K.Sink.faults c.args.out.now)

pub returns-in_default-clause-writes : goal.returns-in_default-clause-writes
returns-in_default-clause-writes g c tells =
    let filled : length c.read.new.page ≡ c.args.rooms.now.page.len = c.read.ensures.room ∙ sym c.requires.rooms.rows ∙ sym c.args.rooms.now.page.ok.0 in
    let form = form_of c.args.table.now in
    let bytes = (g.M.Media.state c.args.media.now).content in
    let seen : c.deref.result.now ≡ numbered c.args.table.now.rows (g.M.Media.state c.args.media.now).content c.args.number =
    c.deref.ensures.value ∙ with_items_is c.args.rooms.now.page c.read.new.page filled ∙ c.in_ok-read.ensures.bytes (ap (λ (b : Bool). Ok b) c.if-not-branch.false) tells in
    unformed-text form bytes c.args.number (g.K.Sink.written c.args.out.now) (c.in_ok-read.ensures.there (ap (λ (b : Bool). Ok b) c.if-not-branch.false))
    (λ good. c.in_default.ensures.1 (subst (IsGoodPage form.layout c.args.number) (sym seen) good))

pub write_rows-requires-clause-room : goal.write_rows-requires-clause-room
write_rows-requires-clause-room g c = c.requires.rooms.blob

pub write_rows-requires-clause-layout : goal.write_rows-requires-clause-layout
write_rows-requires-clause-layout g c = c.in-Ok.ensures.1

pub returns-clause-looks : goal.returns-clause-looks
returns-clause-looks g c = looks-then _ _ _ c.read.ensures.looks c.write_rows.ensures.looks

pub returns-clause-rooms : goal.returns-clause-rooms
returns-clause-rooms g c =
    let filled : length c.read.new.page ≡ c.args.rooms.now.page.len = c.read.ensures.room ∙ sym c.requires.rooms.rows ∙ sym c.args.rooms.now.page.ok.0 in
    record { rows = ap (λ (l : List ℕ). length l) (with_items_is c.args.rooms.now.page c.read.new.page filled) ∙ c.read.ensures.room; blob = c.write_rows.ensures.room }

pub returns-clause-later : goal.returns-clause-later
returns-clause-later g c = c.write_rows.ensures.later

pub returns-clause-writes : goal.returns-clause-writes
returns-clause-writes g c tells =
    let filled : length c.read.new.page ≡ c.args.rooms.now.page.len = c.read.ensures.room ∙ sym c.requires.rooms.rows ∙ sym c.args.rooms.now.page.ok.0 in
    let form = form_of c.args.table.now in
    let bytes = (g.M.Media.state c.args.media.now).content in
    let seen : c.deref.result.now ≡ numbered c.args.table.now.rows (g.M.Media.state c.args.media.now).content c.args.number =
    c.deref.ensures.value ∙ with_items_is c.args.rooms.now.page c.read.new.page filled ∙ c.in_ok-read.ensures.bytes (ap (λ (b : Bool). Ok b) c.if-not-branch.false) tells in
    page-written form bytes c.args.number (g.K.Sink.written c.args.out.now) (g.K.Sink.written c.write_rows.new.out) c.write_rows.result (g.M.Media.state c.read.new.media).content (rows_of c.in-Ok.view)
    c.read.ensures.looks.content (c.in_ok-read.ensures.there (ap (λ (b : Bool). Ok b) c.if-not-branch.false)) (subst (IsGoodPage form.layout c.args.number) seen c.in-Ok.ensures.3)
    (rows_seen form.layout (layout_of_page c.in-Ok.view) (numbered form.rows bytes c.args.number) (page_of c.in-Ok.view) (count_of c.in-Ok.view) (c.in-Ok.ensures.0 ∙ seen) c.in-Ok.ensures.1 (c.in-Ok.ensures.2 ∙ ap page_count seen))
    (c.write_rows.ensures.writes (tells-on _ _ c.read.ensures.looks tells))

pub returns-clause-cause : goal.returns-clause-cause
returns-clause-cause g c =
    IfErr-weaker c.write_rows.result (IsCaused (g.M.Media.state c.read.new.media) (g.M.Media.state c.write_rows.new.media) (g.K.Sink.faults c.args.out.now) (g.K.Sink.faults c.write_rows.new.out)) (IsCaused (g.M.Media.state c.args.media.now) (g.M.Media.state c.write_rows.new.media) (g.K.Sink.faults c.args.out.now) (g.K.Sink.faults c.write_rows.new.out))
    (λ e. caused-later (g.M.Media.state c.args.media.now) (g.M.Media.state c.read.new.media) (g.M.Media.state c.write_rows.new.media) (g.K.Sink.faults c.args.out.now) (g.K.Sink.faults c.args.out.now) (g.K.Sink.faults c.write_rows.new.out) e c.read.ensures.looks (le_refl (g.K.Sink.faults c.args.out.now))) c.write_rows.ensures.cause

pub returns-then-not-branch-clause-rooms : goal.returns-then-not-branch-clause-rooms
returns-then-not-branch-clause-rooms g c =
    let filled : length c.read.new.page ≡ c.args.rooms.now.page.len = c.read.ensures.room ∙ sym c.requires.rooms.rows ∙ sym c.args.rooms.now.page.ok.0 in
    record { rows = ap (λ (l : List ℕ). length l) (with_items_is c.args.rooms.now.page c.read.new.page filled) ∙ c.read.ensures.room; blob = c.requires.rooms.blob }

pub returns-in_default-clause-rooms : goal.returns-in_default-clause-rooms
returns-in_default-clause-rooms g c =
    let filled : length c.read.new.page ≡ c.args.rooms.now.page.len = c.read.ensures.room ∙ sym c.requires.rooms.rows ∙ sym c.args.rooms.now.page.ok.0 in
    record { rows = ap (λ (l : List ℕ). length l) (with_items_is c.args.rooms.now.page c.read.new.page filled) ∙ c.read.ensures.room; blob = c.requires.rooms.blob }

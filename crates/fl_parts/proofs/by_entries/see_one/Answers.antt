use Rattle.std.proofs.Common.{rules, ◌≡◌, ◌-◌, Option, Some, sym, ◌∙◌, ap, arith, refl, le-add_right}
use Rattle.std.specs.Prelude.{option_map}
use Rattle.std.proofs.lemmas.Result.{err_from_is_err_and}
use Rattle.fl_flash.specs.Flash.{page_at}
use Rattle.fl_frame.proofs.ReadsInTurn.{no_reads, none_read}
use Rattle.fl_index.specs.Page.{full_view}
use Rattle.fl_index.specs.declared.page.Full as code
use Rattle.fl_ring.proofs.Exists.{page_exists}
use Rattle.fl_ring.specs.Place.{oldest_of}
use Rattle.fl_schema.specs.Schema.{layout_of}
use Rattle.fl_parts.specs.ByEntries.{entry, mount_fault}
use Rattle.fl_parts.specs.Knowing.{IsUnlisted}
use Rattle.fl_parts.specs.declared.mount_fault.MountFault.{MountFault}
use Rattle.fl_parts.proofs.KeptParts.{at-place, err-page, err-refused, few-read, few-rest, one-listed, one-read, some-places}
use Rattle.fl_parts.proofs.ListedPages.{any-ok}
use Rattle.fl_parts.proofs.Untouched.{no-success}
use Rattle.fl_parts.proofs.by_entries.see_one.Goals as goal

pub see_entry-requires : goal.see_entry-requires
see_entry-requires g c = (search (rules, arith), (some-places c.requires.may, (few-rest _ c.requires.few.rows, c.requires.few.voids)))

pub returns-in-Some-clause-knows : goal.returns-in-Some-clause-knows
returns-in-Some-clause-knows g c = λ told error t k n rows is tells h.
    let entry_is = tells ∙ (ap (option_map full_view) (sym c.listed.ensures) ∙ ap (λ (o : Option code.Full). option_map full_view o) c.in-Some.is) in
    let saw = c.see_entry.ensures.knows error t k n h is entry_is in
    (saw.0, err-page (λ (e : MountFault). mount_fault t ≡ Some e) c.see_entry.result saw.1, le-add_right _ _)

pub returns-in-Some-clause-come : goal.returns-in-Some-clause-come
returns-in-Some-clause-come g c =
    let come = c.requires.come in
    let ring = c.args.ring.now in
    let within = c.see_entry.ensures.within (oldest_of ring) (c.args.number - oldest_of ring) come.within (at-place (oldest_of ring) c.args.number come.low) in
    any-ok c.see_entry.result (one-listed ring c.args.number (g.F.Flash.state c.args.flash.now) c.args.known.now c.see_entry.new.known come c.requires.before within)

pub returns-in-Some-clause-reads : goal.returns-in-Some-clause-reads
returns-in-Some-clause-reads g c = none_read (g.F.Flash.state c.args.flash.now) 1

pub returns-in-Some-clause-keeps : goal.returns-in-Some-clause-keeps
returns-in-Some-clause-keeps g c = record { size = c.see_entry.ensures.size; error = c.see_entry.ensures.error; room = refl; none = c.requires.may.none }

pub returns-in-Some-clause-fails : goal.returns-in-Some-clause-fails
returns-in-Some-clause-fails g c =
    let f = g.F.Flash.state c.args.flash.now in
    err-refused f f c.see_entry.result c.see_entry.ensures.only

pub read_page-requires : goal.read_page-requires
read_page-requires g c =
    let f = g.F.Flash.state c.args.flash.now in
    let may = c.requires.may in
    (search (rules, arith), (may.row, (page_exists c.args.ring.now f f 0 c.place_of-at.result may.lies (no_reads f) c.place_of-at.ensures.within, (may.room, (some-places may, c.requires.few)))))

pub returns-in_err-read_page-clause-knows : goal.returns-in_err-read_page-clause-knows
returns-in_err-read_page-clause-knows g c = λ told error t k n rows is tells h.
    let p = err_from_is_err_and c.from_residual.result c.from_residual.ensures.1 in
    let f = g.F.Flash.state c.args.flash.now in
    let read = c.in_err-read_page.ensures in
    let none = tells ∙ (ap (option_map full_view) (sym c.listed.ensures) ∙ ap (λ (o : Option code.Full). option_map full_view o) c.in_default.is) in
    let un : IsUnlisted t (layout_of c.args.schema.now) c.args.number (page_at f c.place_of-at.result) = record { layout_is = rows.layout_is; bytes_are = rows.rows c.args.number ∙ sym (ap (page_at f) c.place_of-at.ensures.place); none = none } in
    rw (p.1, p.2) (tt, (read.knows told error t k n h is un).1, few-read (entry t c.args.number) _ _ none read.reads.reads)

pub returns-in_err-read_page-clause-come : goal.returns-in_err-read_page-clause-come
returns-in_err-read_page-clause-come g c = no-success _ _ c.from_residual.result c.from_residual.ensures.1

pub returns-in_err-read_page-clause-reads : goal.returns-in_err-read_page-clause-reads
returns-in_err-read_page-clause-reads g c = c.in_err-read_page.ensures.reads

pub returns-in_err-read_page-clause-keeps : goal.returns-in_err-read_page-clause-keeps
returns-in_err-read_page-clause-keeps g c = c.in_err-read_page.ensures.keeps

pub returns-in_err-read_page-clause-fails : goal.returns-in_err-read_page-clause-fails
returns-in_err-read_page-clause-fails g c =
    let p = err_from_is_err_and c.from_residual.result c.from_residual.ensures.1 in
    rw (p.1, p.2) c.in_err-read_page.ensures.fails

pub returns-clause-knows : goal.returns-clause-knows
returns-clause-knows g c = λ told error t k n rows is tells h.
    let f = g.F.Flash.state c.args.flash.now in
    let read = c.in_ok-read_page.ensures in
    let none = tells ∙ (ap (option_map full_view) (sym c.listed.ensures) ∙ ap (λ (o : Option code.Full). option_map full_view o) c.in_default.is) in
    let un : IsUnlisted t (layout_of c.args.schema.now) c.args.number (page_at f c.place_of-at.result) = record { layout_is = rows.layout_is; bytes_are = rows.rows c.args.number ∙ sym (ap (page_at f) c.place_of-at.ensures.place); none = none } in
    ((read.knows told error t k n h is un).0, tt, few-read (entry t c.args.number) _ _ none read.reads.reads)

pub returns-clause-come : goal.returns-clause-come
returns-clause-come g c =
    let read = c.in_ok-read_page.ensures in
    one-read c.args.ring.now c.args.number (g.F.Flash.state c.args.flash.now) (g.F.Flash.state c.read_page.new.flash) c.args.known.now c.read_page.new.known c.requires.come c.requires.before read.counted read.reads

pub returns-clause-reads : goal.returns-clause-reads
returns-clause-reads g c = c.in_ok-read_page.ensures.reads

pub returns-clause-keeps : goal.returns-clause-keeps
returns-clause-keeps g c = c.in_ok-read_page.ensures.keeps

pub returns-clause-fails : goal.returns-clause-fails
returns-clause-fails g c = tt

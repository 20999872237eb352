use Rattle.std.proofs.Common.{ℕ, List}
use Rattle.std.proofs.lemmas.Result.{err_from_is_err_and}
use Rattle.fl_frame.proofs.ReadsInTurn.{looks_more}
use Rattle.fl_check.specs.Whole.{AreRingsSound, AreEntriesSound, AreReferencesSound, IsFirstFault}
use Rattle.fl_rules.proofs.LooksChangeNothing.{seen, fails_later}
use Rattle.fl_check.proofs.PlacesStay.{fits_still}
use Rattle.fl_check.proofs.Halts.{failed_so, found_so}
use Rattle.fl_rules.proofs.Results.{no_fault, same_fault}
use Rattle.fl_check.proofs.table.Checked.check.Goals as goal

pub returns-in_err-check_index_entries-clause-looks : goal.returns-in_err-check_index_entries-clause-looks
returns-in_err-check_index_entries-clause-looks g c = looks_more _ _ _ c.check_rings.ensures.looks c.check_index_entries.ensures.looks

pub returns-in_err-check_blobs-clause-looks : goal.returns-in_err-check_blobs-clause-looks
returns-in_err-check_blobs-clause-looks g c = looks_more _ _ _ (looks_more _ _ _ c.check_rings.ensures.looks c.check_index_entries.ensures.looks) c.check_blobs.ensures.looks

pub returns-clause-looks : goal.returns-clause-looks
returns-clause-looks g c = looks_more _ _ _ (looks_more _ _ _ c.check_rings.ensures.looks c.check_index_entries.ensures.looks) c.check_blobs.ensures.looks

pub returns-clause-sound : goal.returns-clause-sound
returns-clause-sound g c = λ told.
    let config = c.args.self.now.config.now in
    let log = c.args.self.now.log in
    let first = g.F.Flash.state c.args.flash.now in
    let second = g.F.Flash.state c.check_rings.new.flash in
    let third = g.F.Flash.state c.check_index_entries.new.flash in
    let numbers = c.in_ok-rings.rings.numbers in
    let looks = c.check_rings.ensures.looks in
    let later = looks_more first second third looks c.check_index_entries.ensures.looks in
    let rings = c.in_ok-rings.ensures.sound told in
    record {
      rings = rings;
      entries = seen first second (λ (page : ℕ → List ℕ). AreEntriesSound config page numbers) looks c.in_ok-check_index_entries.ensures.sound told;
      references = seen first third (λ (page : ℕ → List ℕ). AreRingsSound config log page numbers → AreReferencesSound config page numbers) later c.in_ok-check_blobs.ensures.sound told rings;
    }

pub check_rings-requires-clause-fits : goal.check_rings-requires-clause-fits
check_rings-requires-clause-fits g c = c.requires.fits

pub check_rings-requires-clause-room : goal.check_rings-requires-clause-room
check_rings-requires-clause-room g c = c.requires.room

pub check_rings-requires-clause-log : goal.check_rings-requires-clause-log
check_rings-requires-clause-log g c = c.requires.log

pub returns-in_err-rings-clause-sound : goal.returns-in_err-rings-clause-sound
returns-in_err-rings-clause-sound g c =
    let p = err_from_is_err_and c.from_residual.result c.from_residual.ensures.1 in
    rw p.1 tt

pub returns-in_err-rings-clause-tally : goal.returns-in_err-rings-clause-tally
returns-in_err-rings-clause-tally g c =
    let p = err_from_is_err_and c.from_residual.result c.from_residual.ensures.1 in
    rw p.1 tt

pub returns-in_err-rings-clause-fails : goal.returns-in_err-rings-clause-fails
returns-in_err-rings-clause-fails g c =
    let p = err_from_is_err_and c.from_residual.result c.from_residual.ensures.1 in
    rw (p.1, p.2) c.in_err-rings.ensures.fails

pub check_index_entries-requires-clause-fits : goal.check_index_entries-requires-clause-fits
check_index_entries-requires-clause-fits g c = fits_still c.args.self.now.config.now (g.F.Flash.state c.args.flash.now) (g.F.Flash.state c.check_rings.new.flash) c.check_rings.ensures.looks c.requires.fits

pub check_index_entries-requires-clause-room : goal.check_index_entries-requires-clause-room
check_index_entries-requires-clause-room g c = c.check_rings.ensures.room

pub check_index_entries-requires-clause-listing : goal.check_index_entries-requires-clause-listing
check_index_entries-requires-clause-listing g c = c.requires.listing

pub returns-in_err-check_index_entries-clause-sound : goal.returns-in_err-check_index_entries-clause-sound
returns-in_err-check_index_entries-clause-sound g c =
    let p = err_from_is_err_and c.from_residual-in_err-check_index_entries.result c.from_residual-in_err-check_index_entries.ensures.1 in
    rw p.1 tt

pub returns-in_err-check_index_entries-clause-tally : goal.returns-in_err-check_index_entries-clause-tally
returns-in_err-check_index_entries-clause-tally g c =
    let p = err_from_is_err_and c.from_residual-in_err-check_index_entries.result c.from_residual-in_err-check_index_entries.ensures.1 in
    rw p.1 tt

pub returns-in_err-check_index_entries-clause-fails : goal.returns-in_err-check_index_entries-clause-fails
returns-in_err-check_index_entries-clause-fails g c =
    let p = err_from_is_err_and c.from_residual-in_err-check_index_entries.result c.from_residual-in_err-check_index_entries.ensures.1 in
    rw (p.1, p.2) (failed_so _ _ c.in_err-check_index_entries.field-0.0 (λ e fails. fails_later (g.F.Flash.state c.args.flash.now) (g.F.Flash.state c.check_rings.new.flash) (g.F.Flash.state c.check_index_entries.new.flash) e c.check_rings.ensures.looks fails) c.in_err-check_index_entries.ensures.fails)

pub check_blobs-requires-clause-fits : goal.check_blobs-requires-clause-fits
check_blobs-requires-clause-fits g c = fits_still c.args.self.now.config.now (g.F.Flash.state c.args.flash.now) (g.F.Flash.state c.check_index_entries.new.flash) (looks_more _ _ _ c.check_rings.ensures.looks c.check_index_entries.ensures.looks) c.requires.fits

pub check_blobs-requires-clause-room : goal.check_blobs-requires-clause-room
check_blobs-requires-clause-room g c = c.check_index_entries.ensures.room

pub check_blobs-requires-clause-listed : goal.check_blobs-requires-clause-listed
check_blobs-requires-clause-listed g c = c.requires.listed

pub returns-in_err-check_blobs-clause-sound : goal.returns-in_err-check_blobs-clause-sound
returns-in_err-check_blobs-clause-sound g c =
    let p = err_from_is_err_and c.from_residual-in_err-check_blobs.result c.from_residual-in_err-check_blobs.ensures.1 in
    rw p.1 tt

pub returns-in_err-check_blobs-clause-tally : goal.returns-in_err-check_blobs-clause-tally
returns-in_err-check_blobs-clause-tally g c =
    let p = err_from_is_err_and c.from_residual-in_err-check_blobs.result c.from_residual-in_err-check_blobs.ensures.1 in
    rw p.1 tt

pub returns-in_err-check_blobs-clause-fails : goal.returns-in_err-check_blobs-clause-fails
returns-in_err-check_blobs-clause-fails g c =
    let p = err_from_is_err_and c.from_residual-in_err-check_blobs.result c.from_residual-in_err-check_blobs.ensures.1 in
    rw (p.1, p.2) (failed_so _ _ c.in_err-check_blobs.field-0.0 (λ e fails. fails_later (g.F.Flash.state c.args.flash.now) (g.F.Flash.state c.check_index_entries.new.flash) (g.F.Flash.state c.check_blobs.new.flash) e (looks_more _ _ _ c.check_rings.ensures.looks c.check_index_entries.ensures.looks) fails) c.in_err-check_blobs.ensures.fails)

pub returns-in_err-rings-clause-looks : goal.returns-in_err-rings-clause-looks
returns-in_err-rings-clause-looks g c = c.check_rings.ensures.looks

pub returns-in_err-rings-clause-broken : goal.returns-in_err-rings-clause-broken
returns-in_err-rings-clause-broken g c =
    let p = err_from_is_err_and c.from_residual.result c.from_residual.ensures.1 in
    rw (p.1, p.2) c.in_err-rings.ensures.broken

pub returns-in_err-rings-clause-off : goal.returns-in_err-rings-clause-off
returns-in_err-rings-clause-off g c =
    let p = err_from_is_err_and c.from_residual.result c.from_residual.ensures.1 in
    rw (p.1, p.2) (λ off. let both = c.in_err-rings.ensures.off off in (same_fault both.0, both.1))

pub check_index_entries-requires-clause-index : goal.check_index_entries-requires-clause-index
check_index_entries-requires-clause-index g c = c.in_ok-rings.ensures.index

pub check_index_entries-requires-clause-rows : goal.check_index_entries-requires-clause-rows
check_index_entries-requires-clause-rows g c = c.in_ok-rings.ensures.rows

pub check_blobs-requires-clause-rows : goal.check_blobs-requires-clause-rows
check_blobs-requires-clause-rows g c = c.in_ok-rings.ensures.rows

pub check_blobs-requires-clause-var : goal.check_blobs-requires-clause-var
check_blobs-requires-clause-var g c = c.in_ok-rings.ensures.var

pub returns-clause-tally : goal.returns-clause-tally
returns-clause-tally g c = c.in_ok-rings.ensures.tally

pub returns-in_err-check_index_entries-clause-off : goal.returns-in_err-check_index_entries-clause-off
returns-in_err-check_index_entries-clause-off g c = λ off. absurd (no_fault (c.in_ok-rings.ensures.off off).0)

pub returns-in_err-check_blobs-clause-off : goal.returns-in_err-check_blobs-clause-off
returns-in_err-check_blobs-clause-off g c = λ off. absurd (no_fault (c.in_ok-rings.ensures.off off).0)

pub returns-clause-off : goal.returns-clause-off
returns-clause-off g c = λ off. absurd (no_fault (c.in_ok-rings.ensures.off off).0)

pub returns-in_err-check_index_entries-clause-broken : goal.returns-in_err-check_index_entries-clause-broken
returns-in_err-check_index_entries-clause-broken g c =
    let config = c.args.self.now.config.now in
    let log = c.args.self.now.log in
    let first = g.F.Flash.state c.args.flash.now in
    let second = g.F.Flash.state c.check_rings.new.flash in
    let numbers = c.in_ok-rings.rings.numbers in
    let looks = c.check_rings.ensures.looks in
    let p = err_from_is_err_and c.from_residual-in_err-check_index_entries.result c.from_residual-in_err-check_index_entries.ensures.1 in
    rw (p.1, p.2) (found_so _ _ c.in_err-check_index_entries.field-0.0
    (λ fault is told. seen first second (λ (page : ℕ → List ℕ). AreRingsSound config log page numbers → IsFirstFault config log page fault.ring fault.page fault.rule) looks is told (c.in_ok-rings.ensures.sound told))
    c.in_err-check_index_entries.ensures.broken)

pub returns-in_err-check_blobs-clause-broken : goal.returns-in_err-check_blobs-clause-broken
returns-in_err-check_blobs-clause-broken g c =
    let config = c.args.self.now.config.now in
    let log = c.args.self.now.log in
    let first = g.F.Flash.state c.args.flash.now in
    let second = g.F.Flash.state c.check_rings.new.flash in
    let numbers = c.in_ok-rings.rings.numbers in
    let looks = c.check_rings.ensures.looks in
    let third = g.F.Flash.state c.check_index_entries.new.flash in
    let later = looks_more first second third looks c.check_index_entries.ensures.looks in
    let p = err_from_is_err_and c.from_residual-in_err-check_blobs.result c.from_residual-in_err-check_blobs.ensures.1 in
    rw (p.1, p.2) (found_so _ _ c.in_err-check_blobs.field-0.0
    (λ fault is told. seen first third (λ (page : ℕ → List ℕ). AreRingsSound config log page numbers → AreEntriesSound config page numbers → IsFirstFault config log page fault.ring fault.page fault.rule) later is told
    (c.in_ok-rings.ensures.sound told) (seen first second (λ (page : ℕ → List ℕ). AreEntriesSound config page numbers) looks c.in_ok-check_index_entries.ensures.sound told))
    c.in_err-check_blobs.ensures.broken)

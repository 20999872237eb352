use Rattle.std.proofs.Common.{◌≡◌, ℕ, IsTrue, ap, subst, sym, ◌∙◌}
use Rattle.std.proofs.lemmas.Result.{err_from_is_err_and}
use Rattle.fl_flash.specs.Flash.{page_at}
use Rattle.fl_rules.specs.ContentPage.{IsContentPage}
use Rattle.fl_rules.specs.RingRules.{NoRows, IsRingSound, OverPages, BreaksRing}
use Rattle.fl_check.specs.Whole.{OfRing, shape_in, tally_in, AreRowsSound, IsVarSound, IsLogSound, BreaksVarBy, BreaksLogRing, IsRowsForm, rows_shape, layout_in, index_end}
use Rattle.fl_check.specs.declared.finding.RingName.TheVariants.{Var, Log, Data}
use Rattle.fl_rules.specs.declared.tally.Tally.{Tally}
use Rattle.fl_check.proofs.Halts.{found_so, failed_so}
use Rattle.fl_frame.proofs.ReadsInTurn.{looks_more}
use Rattle.fl_rules.proofs.LooksChangeNothing.{seen, fails_later}
use Rattle.fl_check.proofs.PlacesStay.{fits_still, log_still}
use Rattle.fl_check.proofs.RingsKnown.{rows_known, tally_known}
use Rattle.fl_check.proofs.Wholes.{var_fault, log_fault, index_fault, rows_fault}
use Rattle.fl_rules.proofs.Results.{no_fault, same_fault}
use Rattle.fl_check.proofs.PowersOff.{by_ring, off_still}
use Rattle.fl_check.proofs.table.Checked.check_rings.Goals as goal

pub returns-in_err-var-clause-broken : goal.returns-in_err-var-clause-broken
returns-in_err-var-clause-broken g c =
    let config = c.args.self.now.config.now in
    let first = g.F.Flash.state c.args.flash.now in
    let listed = g.F.Flash.state c.check_index.new.flash in
    let ended = g.F.Flash.state c.find_index_end.new.flash in
    let index = c.in_ok-index.index in
    let rows = c.in_ok-rows.rows in
    let rows_sound : IsTrue first.media.tells → AreRowsSound config (page_at first) index rows =
    rows_known config first listed ended index c.in_ok-end.end rows c.check_index.ensures.looks c.find_index_end.ensures.looks c.in_ok-end.ensures.end c.in_ok-rows.ensures.sound in
    let numbered = g.F.Flash.state c.check_data.new.flash in
    let to_data = looks_more first ended numbered (looks_more first listed ended c.check_index.ensures.looks c.find_index_end.ensures.looks) c.check_data.ensures.looks in
    let tally_is : IsTrue first.media.tells → c.in_ok-tally.tally ≡ tally_in config (page_at first) rows =
    λ told. tally_known config first numbered index rows c.in_ok-tally.tally c.requires.fits to_data c.in_ok-tally.ensures.tally (rows_sound told) told in
    let tallied = g.F.Flash.state c.tally_rows.new.flash in
    let to_tally = looks_more first numbered tallied to_data c.tally_rows.ensures.looks in
    let least : IsTrue first.media.tells → c.in_ok-tally.tally.blob_end ≡ (tally_in config (page_at first) rows).blob_end =
    λ told. ap (λ (tally : Tally). tally.blob_end) (tally_is told) in
    let p = err_from_is_err_and c.from_residual-in_err-var.result c.from_residual-in_err-var.ensures.1 in
    rw (p.1, p.2) (found_so _ _ c.in_err-var.field-0.0
    (λ fault is told. var_fault config c.args.self.now.log (page_at first) index rows c.in_ok-tally.tally.blob_end fault (c.in_ok-index.ensures.sound told) (rows_sound told) (least told)
    (seen first tallied (λ page. (fault.ring ≡ Var) × BreaksVarBy config page c.in_ok-tally.tally.blob_end fault.page fault.rule) to_tally is told))
    c.in_err-var.ensures.broken)

pub returns-in_err-log-clause-broken : goal.returns-in_err-log-clause-broken
returns-in_err-log-clause-broken g c =
    let config = c.args.self.now.config.now in
    let first = g.F.Flash.state c.args.flash.now in
    let listed = g.F.Flash.state c.check_index.new.flash in
    let ended = g.F.Flash.state c.find_index_end.new.flash in
    let index = c.in_ok-index.index in
    let rows = c.in_ok-rows.rows in
    let rows_sound : IsTrue first.media.tells → AreRowsSound config (page_at first) index rows =
    rows_known config first listed ended index c.in_ok-end.end rows c.check_index.ensures.looks c.find_index_end.ensures.looks c.in_ok-end.ensures.end c.in_ok-rows.ensures.sound in
    let numbered = g.F.Flash.state c.check_data.new.flash in
    let to_data = looks_more first ended numbered (looks_more first listed ended c.check_index.ensures.looks c.find_index_end.ensures.looks) c.check_data.ensures.looks in
    let tally_is : IsTrue first.media.tells → c.in_ok-tally.tally ≡ tally_in config (page_at first) rows =
    λ told. tally_known config first numbered index rows c.in_ok-tally.tally c.requires.fits to_data c.in_ok-tally.ensures.tally (rows_sound told) told in
    let tallied = g.F.Flash.state c.tally_rows.new.flash in
    let to_tally = looks_more first numbered tallied to_data c.tally_rows.ensures.looks in
    let least : IsTrue first.media.tells → c.in_ok-tally.tally.blob_end ≡ (tally_in config (page_at first) rows).blob_end =
    λ told. ap (λ (tally : Tally). tally.blob_end) (tally_is told) in
    let var = c.in_ok-var.var in
    let var_sound : IsTrue first.media.tells → IsVarSound config (page_at first) rows var =
    λ told. subst (λ (k : ℕ). OfRing (λ place n. IsRingSound (λ number bytes. IsContentPage number bytes) NoRows (page_at first) (shape_in config place) k n) config.var var) (least told)
    (seen first tallied (λ page. OfRing (λ place n. IsRingSound (λ number bytes. IsContentPage number bytes) NoRows page (shape_in config place) c.in_ok-tally.tally.blob_end n) config.var var)
    to_tally c.in_ok-var.ensures.sound told) in
    let seen_var = g.F.Flash.state c.check_var.new.flash in
    let to_var = looks_more first tallied seen_var to_tally c.check_var.ensures.looks in
    let p = err_from_is_err_and c.from_residual-in_err-log.result c.from_residual-in_err-log.ensures.1 in
    rw (p.1, p.2) (found_so _ _ c.in_err-log.field-0.0
    (λ fault is told. log_fault config c.args.self.now.log (page_at first) index rows var fault (c.in_ok-index.ensures.sound told) (rows_sound told) (var_sound told)
    (seen first seen_var (λ page. (fault.ring ≡ Log) × BreaksLogRing config c.args.self.now.log page fault.page fault.rule) to_var is told))
    c.in_err-log.ensures.broken)

pub returns-clause-sound : goal.returns-clause-sound
returns-clause-sound g c = λ told.
    let config = c.args.self.now.config.now in
    let first = g.F.Flash.state c.args.flash.now in
    let listed = g.F.Flash.state c.check_index.new.flash in
    let ended = g.F.Flash.state c.find_index_end.new.flash in
    let index = c.in_ok-index.index in
    let rows = c.in_ok-rows.rows in
    let rows_sound : IsTrue first.media.tells → AreRowsSound config (page_at first) index rows =
    rows_known config first listed ended index c.in_ok-end.end rows c.check_index.ensures.looks c.find_index_end.ensures.looks c.in_ok-end.ensures.end c.in_ok-rows.ensures.sound in
    let numbered = g.F.Flash.state c.check_data.new.flash in
    let to_data = looks_more first ended numbered (looks_more first listed ended c.check_index.ensures.looks c.find_index_end.ensures.looks) c.check_data.ensures.looks in
    let tally_is : IsTrue first.media.tells → c.in_ok-tally.tally ≡ tally_in config (page_at first) rows =
    λ told. tally_known config first numbered index rows c.in_ok-tally.tally c.requires.fits to_data c.in_ok-tally.ensures.tally (rows_sound told) told in
    let tallied = g.F.Flash.state c.tally_rows.new.flash in
    let to_tally = looks_more first numbered tallied to_data c.tally_rows.ensures.looks in
    let least : IsTrue first.media.tells → c.in_ok-tally.tally.blob_end ≡ (tally_in config (page_at first) rows).blob_end =
    λ told. ap (λ (tally : Tally). tally.blob_end) (tally_is told) in
    let var = c.in_ok-var.var in
    let var_sound : IsTrue first.media.tells → IsVarSound config (page_at first) rows var =
    λ told. subst (λ (k : ℕ). OfRing (λ place n. IsRingSound (λ number bytes. IsContentPage number bytes) NoRows (page_at first) (shape_in config place) k n) config.var var) (least told)
    (seen first tallied (λ page. OfRing (λ place n. IsRingSound (λ number bytes. IsContentPage number bytes) NoRows page (shape_in config place) c.in_ok-tally.tally.blob_end n) config.var var)
    to_tally c.in_ok-var.ensures.sound told) in
    let seen_var = g.F.Flash.state c.check_var.new.flash in
    let to_var = looks_more first tallied seen_var to_tally c.check_var.ensures.looks in
    record {
      index = c.in_ok-index.ensures.sound told;
      rows = rows_sound told;
      var = var_sound told;
      logged = seen first seen_var (λ page. IsLogSound config c.args.self.now.log page c.in_ok-log.log) to_var c.in_ok-log.ensures.sound told;
    }

pub returns-clause-tally : goal.returns-clause-tally
returns-clause-tally g c =
    let config = c.args.self.now.config.now in
    let first = g.F.Flash.state c.args.flash.now in
    let listed = g.F.Flash.state c.check_index.new.flash in
    let ended = g.F.Flash.state c.find_index_end.new.flash in
    let index = c.in_ok-index.index in
    let rows = c.in_ok-rows.rows in
    let rows_sound : IsTrue first.media.tells → AreRowsSound config (page_at first) index rows =
    rows_known config first listed ended index c.in_ok-end.end rows c.check_index.ensures.looks c.find_index_end.ensures.looks c.in_ok-end.ensures.end c.in_ok-rows.ensures.sound in
    let numbered = g.F.Flash.state c.check_data.new.flash in
    let to_data = looks_more first ended numbered (looks_more first listed ended c.check_index.ensures.looks c.find_index_end.ensures.looks) c.check_data.ensures.looks in
    let tally_is : IsTrue first.media.tells → c.in_ok-tally.tally ≡ tally_in config (page_at first) rows =
    λ told. tally_known config first numbered index rows c.in_ok-tally.tally c.requires.fits to_data c.in_ok-tally.ensures.tally (rows_sound told) told in
    tally_is

pub returns-in_err-end-clause-looks : goal.returns-in_err-end-clause-looks
returns-in_err-end-clause-looks g c = looks_more _ _ _ c.check_index.ensures.looks c.find_index_end.ensures.looks

pub returns-in_err-rows-clause-looks : goal.returns-in_err-rows-clause-looks
returns-in_err-rows-clause-looks g c = looks_more _ _ _ (looks_more _ _ _ c.check_index.ensures.looks c.find_index_end.ensures.looks) c.check_data.ensures.looks

pub returns-in_err-tally-clause-looks : goal.returns-in_err-tally-clause-looks
returns-in_err-tally-clause-looks g c = looks_more _ _ _ (looks_more _ _ _ (looks_more _ _ _ c.check_index.ensures.looks c.find_index_end.ensures.looks) c.check_data.ensures.looks) c.tally_rows.ensures.looks

pub returns-in_err-var-clause-looks : goal.returns-in_err-var-clause-looks
returns-in_err-var-clause-looks g c = looks_more _ _ _ (looks_more _ _ _ (looks_more _ _ _ (looks_more _ _ _ c.check_index.ensures.looks c.find_index_end.ensures.looks) c.check_data.ensures.looks) c.tally_rows.ensures.looks) c.check_var.ensures.looks

pub returns-in_err-log-clause-looks : goal.returns-in_err-log-clause-looks
returns-in_err-log-clause-looks g c = looks_more _ _ _ (looks_more _ _ _ (looks_more _ _ _ (looks_more _ _ _ (looks_more _ _ _ c.check_index.ensures.looks c.find_index_end.ensures.looks) c.check_data.ensures.looks) c.tally_rows.ensures.looks) c.check_var.ensures.looks) c.check_log.ensures.looks

pub returns-clause-looks : goal.returns-clause-looks
returns-clause-looks g c = looks_more _ _ _ (looks_more _ _ _ (looks_more _ _ _ (looks_more _ _ _ (looks_more _ _ _ c.check_index.ensures.looks c.find_index_end.ensures.looks) c.check_data.ensures.looks) c.tally_rows.ensures.looks) c.check_var.ensures.looks) c.check_log.ensures.looks

pub check_index-requires-clause-fits : goal.check_index-requires-clause-fits
check_index-requires-clause-fits g c = c.requires.fits

pub check_index-requires-clause-room : goal.check_index-requires-clause-room
check_index-requires-clause-room g c = c.requires.room

pub returns-in_err-index-clause-room : goal.returns-in_err-index-clause-room
returns-in_err-index-clause-room g c = c.check_index.ensures.room

pub returns-in_err-index-clause-index : goal.returns-in_err-index-clause-index
returns-in_err-index-clause-index g c =
    let p = err_from_is_err_and c.from_residual.result c.from_residual.ensures.1 in
    rw p.1 tt

pub returns-in_err-index-clause-rows : goal.returns-in_err-index-clause-rows
returns-in_err-index-clause-rows g c =
    let p = err_from_is_err_and c.from_residual.result c.from_residual.ensures.1 in
    rw p.1 tt

pub returns-in_err-index-clause-var : goal.returns-in_err-index-clause-var
returns-in_err-index-clause-var g c =
    let p = err_from_is_err_and c.from_residual.result c.from_residual.ensures.1 in
    rw p.1 tt

pub returns-in_err-index-clause-sound : goal.returns-in_err-index-clause-sound
returns-in_err-index-clause-sound g c =
    let p = err_from_is_err_and c.from_residual.result c.from_residual.ensures.1 in
    rw p.1 tt

pub returns-in_err-index-clause-tally : goal.returns-in_err-index-clause-tally
returns-in_err-index-clause-tally g c =
    let p = err_from_is_err_and c.from_residual.result c.from_residual.ensures.1 in
    rw p.1 tt

pub returns-in_err-index-clause-fails : goal.returns-in_err-index-clause-fails
returns-in_err-index-clause-fails g c =
    let p = err_from_is_err_and c.from_residual.result c.from_residual.ensures.1 in
    rw (p.1, p.2) c.in_err-index.ensures.fails

pub find_index_end-requires-clause-fits : goal.find_index_end-requires-clause-fits
find_index_end-requires-clause-fits g c = fits_still c.args.self.now.config.now (g.F.Flash.state c.args.flash.now) (g.F.Flash.state c.check_index.new.flash) c.check_index.ensures.looks c.requires.fits

pub find_index_end-requires-clause-room : goal.find_index_end-requires-clause-room
find_index_end-requires-clause-room g c = c.check_index.ensures.room

pub returns-in_err-end-clause-room : goal.returns-in_err-end-clause-room
returns-in_err-end-clause-room g c = c.find_index_end.ensures.room

pub returns-in_err-end-clause-index : goal.returns-in_err-end-clause-index
returns-in_err-end-clause-index g c =
    let p = err_from_is_err_and c.from_residual-in_err-end.result c.from_residual-in_err-end.ensures.1 in
    rw p.1 tt

pub returns-in_err-end-clause-rows : goal.returns-in_err-end-clause-rows
returns-in_err-end-clause-rows g c =
    let p = err_from_is_err_and c.from_residual-in_err-end.result c.from_residual-in_err-end.ensures.1 in
    rw p.1 tt

pub returns-in_err-end-clause-var : goal.returns-in_err-end-clause-var
returns-in_err-end-clause-var g c =
    let p = err_from_is_err_and c.from_residual-in_err-end.result c.from_residual-in_err-end.ensures.1 in
    rw p.1 tt

pub returns-in_err-end-clause-sound : goal.returns-in_err-end-clause-sound
returns-in_err-end-clause-sound g c =
    let p = err_from_is_err_and c.from_residual-in_err-end.result c.from_residual-in_err-end.ensures.1 in
    rw p.1 tt

pub returns-in_err-end-clause-tally : goal.returns-in_err-end-clause-tally
returns-in_err-end-clause-tally g c =
    let p = err_from_is_err_and c.from_residual-in_err-end.result c.from_residual-in_err-end.ensures.1 in
    rw p.1 tt

pub returns-in_err-end-clause-fails : goal.returns-in_err-end-clause-fails
returns-in_err-end-clause-fails g c =
    let p = err_from_is_err_and c.from_residual-in_err-end.result c.from_residual-in_err-end.ensures.1 in
    rw (p.1, p.2) (fails_later (g.F.Flash.state c.args.flash.now) (g.F.Flash.state c.check_index.new.flash) (g.F.Flash.state c.find_index_end.new.flash) c.in_err-end.field-0.0 c.check_index.ensures.looks c.in_err-end.ensures.fails)

pub returns-in_err-end-clause-broken : goal.returns-in_err-end-clause-broken
returns-in_err-end-clause-broken g c =
    let p = err_from_is_err_and c.from_residual-in_err-end.result c.from_residual-in_err-end.ensures.1 in
    rw (p.1, p.2) tt

pub check_data-requires-clause-fits : goal.check_data-requires-clause-fits
check_data-requires-clause-fits g c = fits_still c.args.self.now.config.now (g.F.Flash.state c.args.flash.now) (g.F.Flash.state c.find_index_end.new.flash) (looks_more _ _ _ c.check_index.ensures.looks c.find_index_end.ensures.looks) c.requires.fits

pub check_data-requires-clause-room : goal.check_data-requires-clause-room
check_data-requires-clause-room g c = c.find_index_end.ensures.room

pub returns-in_err-rows-clause-room : goal.returns-in_err-rows-clause-room
returns-in_err-rows-clause-room g c = c.check_data.ensures.room

pub returns-in_err-rows-clause-index : goal.returns-in_err-rows-clause-index
returns-in_err-rows-clause-index g c =
    let p = err_from_is_err_and c.from_residual-in_err-rows.result c.from_residual-in_err-rows.ensures.1 in
    rw p.1 tt

pub returns-in_err-rows-clause-rows : goal.returns-in_err-rows-clause-rows
returns-in_err-rows-clause-rows g c =
    let p = err_from_is_err_and c.from_residual-in_err-rows.result c.from_residual-in_err-rows.ensures.1 in
    rw p.1 tt

pub returns-in_err-rows-clause-var : goal.returns-in_err-rows-clause-var
returns-in_err-rows-clause-var g c =
    let p = err_from_is_err_and c.from_residual-in_err-rows.result c.from_residual-in_err-rows.ensures.1 in
    rw p.1 tt

pub returns-in_err-rows-clause-sound : goal.returns-in_err-rows-clause-sound
returns-in_err-rows-clause-sound g c =
    let p = err_from_is_err_and c.from_residual-in_err-rows.result c.from_residual-in_err-rows.ensures.1 in
    rw p.1 tt

pub returns-in_err-rows-clause-tally : goal.returns-in_err-rows-clause-tally
returns-in_err-rows-clause-tally g c =
    let p = err_from_is_err_and c.from_residual-in_err-rows.result c.from_residual-in_err-rows.ensures.1 in
    rw p.1 tt

pub returns-in_err-rows-clause-fails : goal.returns-in_err-rows-clause-fails
returns-in_err-rows-clause-fails g c =
    let p = err_from_is_err_and c.from_residual-in_err-rows.result c.from_residual-in_err-rows.ensures.1 in
    rw (p.1, p.2) (failed_so _ _ c.in_err-rows.field-0.0 (λ e fails. fails_later (g.F.Flash.state c.args.flash.now) (g.F.Flash.state c.find_index_end.new.flash) (g.F.Flash.state c.check_data.new.flash) e (looks_more _ _ _ c.check_index.ensures.looks c.find_index_end.ensures.looks) fails) c.in_err-rows.ensures.fails)

pub tally_rows-requires-clause-fits : goal.tally_rows-requires-clause-fits
tally_rows-requires-clause-fits g c = fits_still c.args.self.now.config.now (g.F.Flash.state c.args.flash.now) (g.F.Flash.state c.check_data.new.flash) (looks_more _ _ _ (looks_more _ _ _ c.check_index.ensures.looks c.find_index_end.ensures.looks) c.check_data.ensures.looks) c.requires.fits

pub tally_rows-requires-clause-room : goal.tally_rows-requires-clause-room
tally_rows-requires-clause-room g c = c.check_data.ensures.room

pub returns-in_err-tally-clause-room : goal.returns-in_err-tally-clause-room
returns-in_err-tally-clause-room g c = c.tally_rows.ensures.room

pub returns-in_err-tally-clause-index : goal.returns-in_err-tally-clause-index
returns-in_err-tally-clause-index g c =
    let p = err_from_is_err_and c.from_residual-in_err-tally.result c.from_residual-in_err-tally.ensures.1 in
    rw p.1 tt

pub returns-in_err-tally-clause-rows : goal.returns-in_err-tally-clause-rows
returns-in_err-tally-clause-rows g c =
    let p = err_from_is_err_and c.from_residual-in_err-tally.result c.from_residual-in_err-tally.ensures.1 in
    rw p.1 tt

pub returns-in_err-tally-clause-var : goal.returns-in_err-tally-clause-var
returns-in_err-tally-clause-var g c =
    let p = err_from_is_err_and c.from_residual-in_err-tally.result c.from_residual-in_err-tally.ensures.1 in
    rw p.1 tt

pub returns-in_err-tally-clause-sound : goal.returns-in_err-tally-clause-sound
returns-in_err-tally-clause-sound g c =
    let p = err_from_is_err_and c.from_residual-in_err-tally.result c.from_residual-in_err-tally.ensures.1 in
    rw p.1 tt

pub returns-in_err-tally-clause-tally : goal.returns-in_err-tally-clause-tally
returns-in_err-tally-clause-tally g c =
    let p = err_from_is_err_and c.from_residual-in_err-tally.result c.from_residual-in_err-tally.ensures.1 in
    rw p.1 tt

pub returns-in_err-tally-clause-fails : goal.returns-in_err-tally-clause-fails
returns-in_err-tally-clause-fails g c =
    let p = err_from_is_err_and c.from_residual-in_err-tally.result c.from_residual-in_err-tally.ensures.1 in
    rw (p.1, p.2) (fails_later (g.F.Flash.state c.args.flash.now) (g.F.Flash.state c.check_data.new.flash) (g.F.Flash.state c.tally_rows.new.flash) c.in_err-tally.field-0.0 (looks_more _ _ _ (looks_more _ _ _ c.check_index.ensures.looks c.find_index_end.ensures.looks) c.check_data.ensures.looks) c.in_err-tally.ensures.fails)

pub returns-in_err-tally-clause-broken : goal.returns-in_err-tally-clause-broken
returns-in_err-tally-clause-broken g c =
    let p = err_from_is_err_and c.from_residual-in_err-tally.result c.from_residual-in_err-tally.ensures.1 in
    rw (p.1, p.2) tt

pub check_var-requires-clause-fits : goal.check_var-requires-clause-fits
check_var-requires-clause-fits g c = fits_still c.args.self.now.config.now (g.F.Flash.state c.args.flash.now) (g.F.Flash.state c.tally_rows.new.flash) (looks_more _ _ _ (looks_more _ _ _ (looks_more _ _ _ c.check_index.ensures.looks c.find_index_end.ensures.looks) c.check_data.ensures.looks) c.tally_rows.ensures.looks) c.requires.fits

pub check_var-requires-clause-room : goal.check_var-requires-clause-room
check_var-requires-clause-room g c = c.tally_rows.ensures.room

pub returns-in_err-var-clause-room : goal.returns-in_err-var-clause-room
returns-in_err-var-clause-room g c = c.check_var.ensures.room

pub returns-in_err-var-clause-index : goal.returns-in_err-var-clause-index
returns-in_err-var-clause-index g c =
    let p = err_from_is_err_and c.from_residual-in_err-var.result c.from_residual-in_err-var.ensures.1 in
    rw p.1 tt

pub returns-in_err-var-clause-rows : goal.returns-in_err-var-clause-rows
returns-in_err-var-clause-rows g c =
    let p = err_from_is_err_and c.from_residual-in_err-var.result c.from_residual-in_err-var.ensures.1 in
    rw p.1 tt

pub returns-in_err-var-clause-var : goal.returns-in_err-var-clause-var
returns-in_err-var-clause-var g c =
    let p = err_from_is_err_and c.from_residual-in_err-var.result c.from_residual-in_err-var.ensures.1 in
    rw p.1 tt

pub returns-in_err-var-clause-sound : goal.returns-in_err-var-clause-sound
returns-in_err-var-clause-sound g c =
    let p = err_from_is_err_and c.from_residual-in_err-var.result c.from_residual-in_err-var.ensures.1 in
    rw p.1 tt

pub returns-in_err-var-clause-tally : goal.returns-in_err-var-clause-tally
returns-in_err-var-clause-tally g c =
    let p = err_from_is_err_and c.from_residual-in_err-var.result c.from_residual-in_err-var.ensures.1 in
    rw p.1 tt

pub returns-in_err-var-clause-fails : goal.returns-in_err-var-clause-fails
returns-in_err-var-clause-fails g c =
    let p = err_from_is_err_and c.from_residual-in_err-var.result c.from_residual-in_err-var.ensures.1 in
    rw (p.1, p.2) (failed_so _ _ c.in_err-var.field-0.0 (λ e fails. fails_later (g.F.Flash.state c.args.flash.now) (g.F.Flash.state c.tally_rows.new.flash) (g.F.Flash.state c.check_var.new.flash) e (looks_more _ _ _ (looks_more _ _ _ (looks_more _ _ _ c.check_index.ensures.looks c.find_index_end.ensures.looks) c.check_data.ensures.looks) c.tally_rows.ensures.looks) fails) c.in_err-var.ensures.fails)

pub check_log-requires-clause-log : goal.check_log-requires-clause-log
check_log-requires-clause-log g c = log_still c.args.self.now.log (g.F.Flash.state c.args.flash.now) (g.F.Flash.state c.check_var.new.flash) (looks_more _ _ _ (looks_more _ _ _ (looks_more _ _ _ (looks_more _ _ _ c.check_index.ensures.looks c.find_index_end.ensures.looks) c.check_data.ensures.looks) c.tally_rows.ensures.looks) c.check_var.ensures.looks) c.requires.log

pub check_log-requires-clause-room : goal.check_log-requires-clause-room
check_log-requires-clause-room g c = c.check_var.ensures.room

pub returns-in_err-log-clause-room : goal.returns-in_err-log-clause-room
returns-in_err-log-clause-room g c = c.check_log.ensures.room

pub returns-in_err-log-clause-index : goal.returns-in_err-log-clause-index
returns-in_err-log-clause-index g c =
    let p = err_from_is_err_and c.from_residual-in_err-log.result c.from_residual-in_err-log.ensures.1 in
    rw p.1 tt

pub returns-in_err-log-clause-rows : goal.returns-in_err-log-clause-rows
returns-in_err-log-clause-rows g c =
    let p = err_from_is_err_and c.from_residual-in_err-log.result c.from_residual-in_err-log.ensures.1 in
    rw p.1 tt

pub returns-in_err-log-clause-var : goal.returns-in_err-log-clause-var
returns-in_err-log-clause-var g c =
    let p = err_from_is_err_and c.from_residual-in_err-log.result c.from_residual-in_err-log.ensures.1 in
    rw p.1 tt

pub returns-in_err-log-clause-sound : goal.returns-in_err-log-clause-sound
returns-in_err-log-clause-sound g c =
    let p = err_from_is_err_and c.from_residual-in_err-log.result c.from_residual-in_err-log.ensures.1 in
    rw p.1 tt

pub returns-in_err-log-clause-tally : goal.returns-in_err-log-clause-tally
returns-in_err-log-clause-tally g c =
    let p = err_from_is_err_and c.from_residual-in_err-log.result c.from_residual-in_err-log.ensures.1 in
    rw p.1 tt

pub returns-in_err-log-clause-fails : goal.returns-in_err-log-clause-fails
returns-in_err-log-clause-fails g c =
    let p = err_from_is_err_and c.from_residual-in_err-log.result c.from_residual-in_err-log.ensures.1 in
    rw (p.1, p.2) (failed_so _ _ c.in_err-log.field-0.0 (λ e fails. fails_later (g.F.Flash.state c.args.flash.now) (g.F.Flash.state c.check_var.new.flash) (g.F.Flash.state c.check_log.new.flash) e (looks_more _ _ _ (looks_more _ _ _ (looks_more _ _ _ (looks_more _ _ _ c.check_index.ensures.looks c.find_index_end.ensures.looks) c.check_data.ensures.looks) c.tally_rows.ensures.looks) c.check_var.ensures.looks) fails) c.in_err-log.ensures.fails)

pub returns-clause-room : goal.returns-clause-room
returns-clause-room g c = c.check_log.ensures.room

pub returns-in_err-index-clause-looks : goal.returns-in_err-index-clause-looks
returns-in_err-index-clause-looks g c = c.check_index.ensures.looks

pub returns-in_err-index-clause-off : goal.returns-in_err-index-clause-off
returns-in_err-index-clause-off g c =
    let p = err_from_is_err_and c.from_residual.result c.from_residual.ensures.1 in
    rw (p.1, p.2) (λ off. by_ring c.args.self.now.config.now.index _
    (λ some. let both = c.in_err-index.ensures.off some off in (same_fault both.0, both.1))
    (λ none. absurd (no_fault (sym (c.in_err-index.ensures.none none).0))))

pub returns-in_err-end-clause-off : goal.returns-in_err-end-clause-off
returns-in_err-end-clause-off g c =
    let p = err_from_is_err_and c.from_residual-in_err-end.result c.from_residual-in_err-end.ensures.1 in
    rw (p.1, p.2) (λ off. by_ring c.args.self.now.config.now.index _
    (λ some. absurd (no_fault (c.in_ok-index.ensures.off some off).0))
    (λ none. absurd (no_fault (sym (c.in_err-end.ensures.none none).0))))

pub returns-in_err-rows-clause-off : goal.returns-in_err-rows-clause-off
returns-in_err-rows-clause-off g c =
    let p = err_from_is_err_and c.from_residual-in_err-rows.result c.from_residual-in_err-rows.ensures.1 in
    rw (p.1, p.2) (λ off. by_ring c.args.self.now.config.now.index _
    (λ some. absurd (no_fault (c.in_ok-index.ensures.off some off).0))
    (λ none.
    let both = c.in_err-rows.ensures.off (off_still (g.F.Flash.state c.args.flash.now) (g.F.Flash.state c.check_index.new.flash) (g.F.Flash.state c.find_index_end.new.flash) c.check_index.ensures.looks c.find_index_end.ensures.looks off) in
    (same_fault both.0, both.1 ∙ (c.in_ok-end.ensures.none none).1 ∙ (c.in_ok-index.ensures.none none).1)))

pub returns-in_err-tally-clause-off : goal.returns-in_err-tally-clause-off
returns-in_err-tally-clause-off g c = λ off. absurd (no_fault (c.in_ok-rows.ensures.off (off_still (g.F.Flash.state c.args.flash.now) (g.F.Flash.state c.check_index.new.flash) (g.F.Flash.state c.find_index_end.new.flash) c.check_index.ensures.looks c.find_index_end.ensures.looks off)).0)

pub returns-in_err-var-clause-off : goal.returns-in_err-var-clause-off
returns-in_err-var-clause-off g c = λ off. absurd (no_fault (c.in_ok-rows.ensures.off (off_still (g.F.Flash.state c.args.flash.now) (g.F.Flash.state c.check_index.new.flash) (g.F.Flash.state c.find_index_end.new.flash) c.check_index.ensures.looks c.find_index_end.ensures.looks off)).0)

pub returns-in_err-log-clause-off : goal.returns-in_err-log-clause-off
returns-in_err-log-clause-off g c = λ off. absurd (no_fault (c.in_ok-rows.ensures.off (off_still (g.F.Flash.state c.args.flash.now) (g.F.Flash.state c.check_index.new.flash) (g.F.Flash.state c.find_index_end.new.flash) c.check_index.ensures.looks c.find_index_end.ensures.looks off)).0)

pub returns-clause-off : goal.returns-clause-off
returns-clause-off g c = λ off. absurd (no_fault (c.in_ok-rows.ensures.off (off_still (g.F.Flash.state c.args.flash.now) (g.F.Flash.state c.check_index.new.flash) (g.F.Flash.state c.find_index_end.new.flash) c.check_index.ensures.looks c.find_index_end.ensures.looks off)).0)

pub tally_rows-requires-clause-within : goal.tally_rows-requires-clause-within
tally_rows-requires-clause-within g c = c.in_ok-rows.ensures.within

pub check_log-requires-clause-fits : goal.check_log-requires-clause-fits
check_log-requires-clause-fits g c = fits_still c.args.self.now.config.now (g.F.Flash.state c.args.flash.now) (g.F.Flash.state c.check_var.new.flash) (looks_more _ _ _ (looks_more _ _ _ (looks_more _ _ _ (looks_more _ _ _ c.check_index.ensures.looks c.find_index_end.ensures.looks) c.check_data.ensures.looks) c.tally_rows.ensures.looks) c.check_var.ensures.looks) c.requires.fits

pub returns-clause-index : goal.returns-clause-index
returns-clause-index g c = c.in_ok-index.ensures.within

pub returns-clause-rows : goal.returns-clause-rows
returns-clause-rows g c = c.in_ok-rows.ensures.within

pub returns-clause-var : goal.returns-clause-var
returns-clause-var g c = c.in_ok-var.ensures.within

pub returns-in_err-index-clause-broken : goal.returns-in_err-index-clause-broken
returns-in_err-index-clause-broken g c =
    let config = c.args.self.now.config.now in
    let first = g.F.Flash.state c.args.flash.now in
    let p = err_from_is_err_and c.from_residual.result c.from_residual.ensures.1 in
    rw (p.1, p.2) (found_so _ _ c.in_err-index.field-0.0 (λ fault is told. index_fault config c.args.self.now.log (page_at first) fault (is told)) c.in_err-index.ensures.broken)

pub returns-in_err-rows-clause-broken : goal.returns-in_err-rows-clause-broken
returns-in_err-rows-clause-broken g c =
    let config = c.args.self.now.config.now in
    let first = g.F.Flash.state c.args.flash.now in
    let listed = g.F.Flash.state c.check_index.new.flash in
    let ended = g.F.Flash.state c.find_index_end.new.flash in
    let index = c.in_ok-index.index in
    let to_end = looks_more first listed ended c.check_index.ensures.looks c.find_index_end.ensures.looks in
    let p = err_from_is_err_and c.from_residual-in_err-rows.result c.from_residual-in_err-rows.ensures.1 in
    rw (p.1, p.2) (found_so _ _ c.in_err-rows.field-0.0
    (λ fault is told. rows_fault config c.args.self.now.log (page_at first) index c.in_ok-end.end fault (c.in_ok-index.ensures.sound told)
    (seen first listed (λ page. c.in_ok-end.end ≡ index_end config page index) c.check_index.ensures.looks c.in_ok-end.ensures.end told)
    (seen first ended (λ page. (fault.ring ≡ Data) × BreaksRing (IsRowsForm config) (OverPages (layout_in config)) page (rows_shape config) c.in_ok-end.end fault.rule fault.page) to_end is told))
    c.in_err-rows.ensures.broken)

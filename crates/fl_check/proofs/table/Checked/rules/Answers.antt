use Rattle.std.proofs.Common.{◌≡◌, ℕ, Option, None, IfSome, sym, ap, subst, ◌∙◌}
use Rattle.std.proofs.lemmas.Result.{err_from_is_err_and}
use Rattle.fl_flash.specs.Flash.{page_at}
use Rattle.fl_rules.specs.ContentPage.{IsContentPage}
use Rattle.fl_rules.specs.DataPage.{IsDataPage}
use Rattle.fl_check.specs.Faults.{with_keys}
use Rattle.fl_rules.specs.Marks.{AreWithin}
use Rattle.fl_rules.specs.Rising.{HaveRows}
use Rattle.fl_rules.specs.RingRules.{OverPages, WithinPages}
use Rattle.fl_check.specs.Ruled.{RingTold, RowsTold}
use Rattle.fl_check.specs.Rules.{OfToldRing, EntriesTold, BlobsTold, HaveContent, AreTold, in_order, tally_told}
use Rattle.fl_check.specs.Whole.{IfWithin, shape_in, rows_shape, layout_in, index_end, IsRowsForm}
use Rattle.fl_check.specs.declared.faults.TableFaults.{TableFaults}
use Rattle.fl_rules.specs.declared.numbering.Numbering.{Numbering}
use Rattle.fl_rules.specs.declared.tally.Tally.{Tally}
use Rattle.fl_frame.proofs.ReadsInTurn.{looks_more}
use Rattle.fl_rules.proofs.LooksChangeNothing.{seen, fails_later}
use Rattle.fl_check.proofs.PlacesStay.{fits_still, log_still}
use Rattle.fl_check.proofs.TableTold.{rows_told, content_told, if_in_order, none_within, no_content, are_rules}
use Rattle.fl_rules.proofs.Results.{no_fault, same_fault}
use Rattle.fl_check.proofs.PowersOff.{by_ring, off_still}
use Rattle.std.proofs.lemmas.Bool.{false≢true}
use Rattle.fl_check.proofs.table.Checked.rules.Goals as goal

pub rule_entries-requires-clause-rows : goal.rule_entries-requires-clause-rows
rule_entries-requires-clause-rows g c =
    let rows = c.in_ok-rows.rows in
    let r = rows_shape c.args.self.now.config.now in
    subst (λ (x : Option Numbering). IfSome x (λ n. AreWithin r n.marks)) (sym c.in_order-listed.ensures)
    (if_in_order (λ (x : Option Numbering). IfSome x (λ n. AreWithin r n.marks)) rows.faults.state rows.numbering tt c.in_ok-rows.ensures.within)

pub rule_blobs-requires-clause-rows : goal.rule_blobs-requires-clause-rows
rule_blobs-requires-clause-rows g c =
    let rows = c.in_ok-rows.rows in
    let r = rows_shape c.args.self.now.config.now in
    subst (λ (x : Option Numbering). IfSome x (λ n. AreWithin r n.marks)) (sym c.in_order-listed.ensures)
    (if_in_order (λ (x : Option Numbering). IfSome x (λ n. AreWithin r n.marks)) rows.faults.state rows.numbering tt c.in_ok-rows.ensures.within)

pub rule_blobs-requires-clause-var : goal.rule_blobs-requires-clause-var
rule_blobs-requires-clause-var g c =
    let var = c.in_ok-var.var in
    let config = c.args.self.now.config.now in
    subst (λ (x : Option Numbering). IfWithin config config.var x) (sym c.in_order-content.ensures)
    (if_in_order (λ (x : Option Numbering). IfWithin config config.var x) var.faults.state var.numbering (none_within config config.var) c.in_ok-var.ensures.within)

pub returns-clause-rules : goal.returns-clause-rules
returns-clause-rules g c = λ told.
    let config = c.args.self.now.config.now in
    let f0 = g.F.Flash.state c.args.flash.now in
    let f1 = g.F.Flash.state c.rule_index.new.flash in
    let f2 = g.F.Flash.state c.find_index_end.new.flash in
    let f3 = g.F.Flash.state c.rule_rows.new.flash in
    let f4 = g.F.Flash.state c.tally_told.new.flash in
    let f5 = g.F.Flash.state c.rule_var.new.flash in
    let f6 = g.F.Flash.state c.rule_log.new.flash in
    let f7 = g.F.Flash.state c.rule_entries.new.flash in
    let index = c.in_ok-index.index in
    let end = c.in_ok-end.end in
    let rows = c.in_ok-rows.rows in
    let tally = c.in_ok-tally.tally in
    let var = c.in_ok-var.var in
    let log = c.in_ok-log.log in
    let place = c.args.self.now.log in
    let entry = c.in_ok-entry.entry in
    let blob = c.in_ok-blob.blob in
    let listed = c.in_order-listed.result in
    let blobs = c.in_order-content.result in
    let to1 = c.rule_index.ensures.looks in
    let to2 = looks_more f0 f1 f2 to1 c.find_index_end.ensures.looks in
    let to3 = looks_more f0 f2 f3 to2 c.rule_rows.ensures.looks in
    let to4 = looks_more f0 f3 f4 to3 c.tally_told.ensures.looks in
    let to5 = looks_more f0 f4 f5 to4 c.rule_var.ensures.looks in
    let to6 = looks_more f0 f5 f6 to5 c.rule_log.ensures.looks in
    let to7 = looks_more f0 f6 f7 to6 c.rule_entries.ensures.looks in
    let end_is : end ≡ index_end config (page_at f0) index.numbering = seen f0 f1 (λ page. end ≡ index_end config page index.numbering) to1 c.in_ok-end.ensures.end told in
    let in_rows : RowsTold (IsRowsForm config) (OverPages (layout_in config)) (page_at f0) (rows_shape config) (index_end config (page_at f0) index.numbering) rows.faults rows.numbering =
    subst (λ (k : ℕ). RowsTold (IsRowsForm config) (OverPages (layout_in config)) (page_at f0) (rows_shape config) k rows.faults rows.numbering) end_is
    (seen f0 f2 (λ page. RowsTold (IsRowsForm config) (OverPages (layout_in config)) page (rows_shape config) end rows.faults rows.numbering) to2 c.in_ok-rows.ensures.rules told) in
    let have = rows_told config f0 (index_end config (page_at f0) index.numbering) (with_keys None rows.faults) rows.numbering c.requires.fits in_rows.ring in
    let tally_is : tally ≡ tally_told config (page_at f0) rows.numbering =
    seen f0 f3 (λ page. IfSome rows.numbering (λ n. HaveRows (layout_in config) page (rows_shape config) n.marks) → tally ≡ tally_told config page rows.numbering) to3 c.in_ok-tally.ensures.tally told have in
    let least : tally.blob_end ≡ (tally_told config (page_at f0) rows.numbering).blob_end = ap (λ (x : Tally). x.blob_end) tally_is in
    let in_var : OfToldRing (λ place faults n. RingTold (λ number bytes. IsContentPage number bytes) (page_at f0) (shape_in config place) (tally_told config (page_at f0) rows.numbering).blob_end faults n) config.var var.faults var.numbering =
    subst (λ (k : ℕ). OfToldRing (λ place faults n. RingTold (λ number bytes. IsContentPage number bytes) (page_at f0) (shape_in config place) k faults n) config.var var.faults var.numbering) least
    (seen f0 f4 (λ page. OfToldRing (λ place faults n. RingTold (λ number bytes. IsContentPage number bytes) page (shape_in config place) tally.blob_end faults n) config.var var.faults var.numbering) to4
    c.in_ok-var.ensures.rules told) in
    let content = content_told config f0 (tally_told config (page_at f0) rows.numbering).blob_end config.var var.faults var.numbering c.requires.fits in_var in
    let faults : TableFaults = record { index = index.faults; rows = rows.faults; var = var.faults; log = log.faults; entry = entry; blob = blob } in
    let a : AreTold config place (page_at f0) faults = record {
      index = index.numbering;
      rows = rows.numbering;
      var = var.numbering;
      logged = log.numbering;
      in_index = c.in_ok-index.ensures.rules told;
      in_rows = in_rows;
      in_var = in_var;
      in_log = seen f0 f5
          (λ page. OfToldRing (λ place faults n. RowsTold (λ number bytes. IsDataPage (layout_in config) None number bytes) (WithinPages (layout_in config)) page (shape_in config place) 0 faults n) place log.faults log.numbering) to5
          c.in_ok-log.ensures.rules told;
      entry = subst (λ (x : Option Numbering). EntriesTold config (page_at f0) config.index index.numbering x entry) c.in_order-listed.ensures
          (seen f0 f6 (λ page. EntriesTold config page config.index index.numbering listed entry) to6 c.in_ok-entry.ensures.entries told);
      blob = subst (λ (x : Option Numbering). BlobsTold config (page_at f0) config.var x (in_order rows.faults.state rows.numbering) blob) c.in_order-content.ensures
          (subst (λ (x : Option Numbering). BlobsTold config (page_at f0) config.var blobs x blob) c.in_order-listed.ensures
          (seen f0 f7 (λ page. IfSome listed (λ n. HaveRows (layout_in config) page (rows_shape config) n.marks) → HaveContent config page config.var blobs → BlobsTold config page config.var blobs listed blob)
          to7 c.in_ok-blob.ensures.blobs told
          (subst (λ (x : Option Numbering). IfSome x (λ n. HaveRows (layout_in config) (page_at f0) (rows_shape config) n.marks)) (sym c.in_order-listed.ensures)
          (if_in_order (λ (x : Option Numbering). IfSome x (λ n. HaveRows (layout_in config) (page_at f0) (rows_shape config) n.marks)) rows.faults.state rows.numbering tt have))
          (subst (λ (x : Option Numbering). HaveContent config (page_at f0) config.var x) (sym c.in_order-content.ensures)
          (if_in_order (λ (x : Option Numbering). HaveContent config (page_at f0) config.var x) var.faults.state var.numbering (no_content config (page_at f0) config.var) content))));
    } in
    rw c.rules_of.ensures (are_rules config place (page_at f0) faults a tally tally_is)

pub returns-in_err-end-clause-looks : goal.returns-in_err-end-clause-looks
returns-in_err-end-clause-looks g c = looks_more _ _ _ c.rule_index.ensures.looks c.find_index_end.ensures.looks

pub returns-in_err-rows-clause-looks : goal.returns-in_err-rows-clause-looks
returns-in_err-rows-clause-looks g c = looks_more _ _ _ (looks_more _ _ _ c.rule_index.ensures.looks c.find_index_end.ensures.looks) c.rule_rows.ensures.looks

pub returns-in_err-tally-clause-looks : goal.returns-in_err-tally-clause-looks
returns-in_err-tally-clause-looks g c = looks_more _ _ _ (looks_more _ _ _ (looks_more _ _ _ c.rule_index.ensures.looks c.find_index_end.ensures.looks) c.rule_rows.ensures.looks) c.tally_told.ensures.looks

pub returns-in_err-var-clause-looks : goal.returns-in_err-var-clause-looks
returns-in_err-var-clause-looks g c = looks_more _ _ _ (looks_more _ _ _ (looks_more _ _ _ (looks_more _ _ _ c.rule_index.ensures.looks c.find_index_end.ensures.looks) c.rule_rows.ensures.looks) c.tally_told.ensures.looks) c.rule_var.ensures.looks

pub returns-in_err-log-clause-looks : goal.returns-in_err-log-clause-looks
returns-in_err-log-clause-looks g c = looks_more _ _ _ (looks_more _ _ _ (looks_more _ _ _ (looks_more _ _ _ (looks_more _ _ _ c.rule_index.ensures.looks c.find_index_end.ensures.looks) c.rule_rows.ensures.looks) c.tally_told.ensures.looks) c.rule_var.ensures.looks) c.rule_log.ensures.looks

pub returns-in_err-entry-clause-looks : goal.returns-in_err-entry-clause-looks
returns-in_err-entry-clause-looks g c = looks_more _ _ _ (looks_more _ _ _ (looks_more _ _ _ (looks_more _ _ _ (looks_more _ _ _ (looks_more _ _ _ c.rule_index.ensures.looks c.find_index_end.ensures.looks) c.rule_rows.ensures.looks) c.tally_told.ensures.looks) c.rule_var.ensures.looks) c.rule_log.ensures.looks) c.rule_entries.ensures.looks

pub returns-in_err-blob-clause-looks : goal.returns-in_err-blob-clause-looks
returns-in_err-blob-clause-looks g c = looks_more _ _ _ (looks_more _ _ _ (looks_more _ _ _ (looks_more _ _ _ (looks_more _ _ _ (looks_more _ _ _ (looks_more _ _ _ c.rule_index.ensures.looks c.find_index_end.ensures.looks) c.rule_rows.ensures.looks) c.tally_told.ensures.looks) c.rule_var.ensures.looks) c.rule_log.ensures.looks) c.rule_entries.ensures.looks) c.rule_blobs.ensures.looks

pub returns-clause-looks : goal.returns-clause-looks
returns-clause-looks g c = looks_more _ _ _ (looks_more _ _ _ (looks_more _ _ _ (looks_more _ _ _ (looks_more _ _ _ (looks_more _ _ _ (looks_more _ _ _ c.rule_index.ensures.looks c.find_index_end.ensures.looks) c.rule_rows.ensures.looks) c.tally_told.ensures.looks) c.rule_var.ensures.looks) c.rule_log.ensures.looks) c.rule_entries.ensures.looks) c.rule_blobs.ensures.looks

pub rule_index-requires-clause-fits : goal.rule_index-requires-clause-fits
rule_index-requires-clause-fits g c = c.requires.fits

pub rule_index-requires-clause-room : goal.rule_index-requires-clause-room
rule_index-requires-clause-room g c = c.requires.room

pub returns-in_err-index-clause-rules : goal.returns-in_err-index-clause-rules
returns-in_err-index-clause-rules g c =
    let p = err_from_is_err_and c.from_residual.result c.from_residual.ensures.1 in
    rw p.1 tt

pub returns-in_err-index-clause-fails : goal.returns-in_err-index-clause-fails
returns-in_err-index-clause-fails g c =
    let p = err_from_is_err_and c.from_residual.result c.from_residual.ensures.1 in
    rw (p.1, p.2) c.in_err-index.ensures.fails

pub find_index_end-requires-clause-fits : goal.find_index_end-requires-clause-fits
find_index_end-requires-clause-fits g c = fits_still c.args.self.now.config.now (g.F.Flash.state c.args.flash.now) (g.F.Flash.state c.rule_index.new.flash) c.rule_index.ensures.looks c.requires.fits

pub find_index_end-requires-clause-room : goal.find_index_end-requires-clause-room
find_index_end-requires-clause-room g c = c.rule_index.ensures.room

pub returns-in_err-end-clause-rules : goal.returns-in_err-end-clause-rules
returns-in_err-end-clause-rules g c =
    let p = err_from_is_err_and c.from_residual-in_err-end.result c.from_residual-in_err-end.ensures.1 in
    rw p.1 tt

pub returns-in_err-end-clause-fails : goal.returns-in_err-end-clause-fails
returns-in_err-end-clause-fails g c =
    let p = err_from_is_err_and c.from_residual-in_err-end.result c.from_residual-in_err-end.ensures.1 in
    rw (p.1, p.2) (fails_later (g.F.Flash.state c.args.flash.now) (g.F.Flash.state c.rule_index.new.flash) (g.F.Flash.state c.find_index_end.new.flash) c.in_err-end.field-0.0 c.rule_index.ensures.looks c.in_err-end.ensures.fails)

pub rule_rows-requires-clause-fits : goal.rule_rows-requires-clause-fits
rule_rows-requires-clause-fits g c = fits_still c.args.self.now.config.now (g.F.Flash.state c.args.flash.now) (g.F.Flash.state c.find_index_end.new.flash) (looks_more _ _ _ c.rule_index.ensures.looks c.find_index_end.ensures.looks) c.requires.fits

pub rule_rows-requires-clause-room : goal.rule_rows-requires-clause-room
rule_rows-requires-clause-room g c = c.find_index_end.ensures.room

pub returns-in_err-rows-clause-rules : goal.returns-in_err-rows-clause-rules
returns-in_err-rows-clause-rules g c =
    let p = err_from_is_err_and c.from_residual-in_err-rows.result c.from_residual-in_err-rows.ensures.1 in
    rw p.1 tt

pub returns-in_err-rows-clause-fails : goal.returns-in_err-rows-clause-fails
returns-in_err-rows-clause-fails g c =
    let p = err_from_is_err_and c.from_residual-in_err-rows.result c.from_residual-in_err-rows.ensures.1 in
    rw (p.1, p.2) (fails_later (g.F.Flash.state c.args.flash.now) (g.F.Flash.state c.find_index_end.new.flash) (g.F.Flash.state c.rule_rows.new.flash) c.in_err-rows.field-0.0 (looks_more _ _ _ c.rule_index.ensures.looks c.find_index_end.ensures.looks) c.in_err-rows.ensures.fails)

pub tally_told-requires-clause-fits : goal.tally_told-requires-clause-fits
tally_told-requires-clause-fits g c = fits_still c.args.self.now.config.now (g.F.Flash.state c.args.flash.now) (g.F.Flash.state c.rule_rows.new.flash) (looks_more _ _ _ (looks_more _ _ _ c.rule_index.ensures.looks c.find_index_end.ensures.looks) c.rule_rows.ensures.looks) c.requires.fits

pub tally_told-requires-clause-room : goal.tally_told-requires-clause-room
tally_told-requires-clause-room g c = c.rule_rows.ensures.room

pub returns-in_err-tally-clause-rules : goal.returns-in_err-tally-clause-rules
returns-in_err-tally-clause-rules g c =
    let p = err_from_is_err_and c.from_residual-in_err-tally.result c.from_residual-in_err-tally.ensures.1 in
    rw p.1 tt

pub returns-in_err-tally-clause-fails : goal.returns-in_err-tally-clause-fails
returns-in_err-tally-clause-fails g c =
    let p = err_from_is_err_and c.from_residual-in_err-tally.result c.from_residual-in_err-tally.ensures.1 in
    rw (p.1, p.2) (fails_later (g.F.Flash.state c.args.flash.now) (g.F.Flash.state c.rule_rows.new.flash) (g.F.Flash.state c.tally_told.new.flash) c.in_err-tally.field-0.0 (looks_more _ _ _ (looks_more _ _ _ c.rule_index.ensures.looks c.find_index_end.ensures.looks) c.rule_rows.ensures.looks) c.in_err-tally.ensures.fails)

pub rule_var-requires-clause-fits : goal.rule_var-requires-clause-fits
rule_var-requires-clause-fits g c = fits_still c.args.self.now.config.now (g.F.Flash.state c.args.flash.now) (g.F.Flash.state c.tally_told.new.flash) (looks_more _ _ _ (looks_more _ _ _ (looks_more _ _ _ c.rule_index.ensures.looks c.find_index_end.ensures.looks) c.rule_rows.ensures.looks) c.tally_told.ensures.looks) c.requires.fits

pub rule_var-requires-clause-room : goal.rule_var-requires-clause-room
rule_var-requires-clause-room g c = c.tally_told.ensures.room

pub returns-in_err-var-clause-rules : goal.returns-in_err-var-clause-rules
returns-in_err-var-clause-rules g c =
    let p = err_from_is_err_and c.from_residual-in_err-var.result c.from_residual-in_err-var.ensures.1 in
    rw p.1 tt

pub returns-in_err-var-clause-fails : goal.returns-in_err-var-clause-fails
returns-in_err-var-clause-fails g c =
    let p = err_from_is_err_and c.from_residual-in_err-var.result c.from_residual-in_err-var.ensures.1 in
    rw (p.1, p.2) (fails_later (g.F.Flash.state c.args.flash.now) (g.F.Flash.state c.tally_told.new.flash) (g.F.Flash.state c.rule_var.new.flash) c.in_err-var.field-0.0 (looks_more _ _ _ (looks_more _ _ _ (looks_more _ _ _ c.rule_index.ensures.looks c.find_index_end.ensures.looks) c.rule_rows.ensures.looks) c.tally_told.ensures.looks) c.in_err-var.ensures.fails)

pub rule_log-requires-clause-log : goal.rule_log-requires-clause-log
rule_log-requires-clause-log g c = log_still c.args.self.now.log (g.F.Flash.state c.args.flash.now) (g.F.Flash.state c.rule_var.new.flash) (looks_more _ _ _ (looks_more _ _ _ (looks_more _ _ _ (looks_more _ _ _ c.rule_index.ensures.looks c.find_index_end.ensures.looks) c.rule_rows.ensures.looks) c.tally_told.ensures.looks) c.rule_var.ensures.looks) c.requires.log

pub rule_log-requires-clause-room : goal.rule_log-requires-clause-room
rule_log-requires-clause-room g c = c.rule_var.ensures.room

pub returns-in_err-log-clause-rules : goal.returns-in_err-log-clause-rules
returns-in_err-log-clause-rules g c =
    let p = err_from_is_err_and c.from_residual-in_err-log.result c.from_residual-in_err-log.ensures.1 in
    rw p.1 tt

pub returns-in_err-log-clause-fails : goal.returns-in_err-log-clause-fails
returns-in_err-log-clause-fails g c =
    let p = err_from_is_err_and c.from_residual-in_err-log.result c.from_residual-in_err-log.ensures.1 in
    rw (p.1, p.2) (fails_later (g.F.Flash.state c.args.flash.now) (g.F.Flash.state c.rule_var.new.flash) (g.F.Flash.state c.rule_log.new.flash) c.in_err-log.field-0.0 (looks_more _ _ _ (looks_more _ _ _ (looks_more _ _ _ (looks_more _ _ _ c.rule_index.ensures.looks c.find_index_end.ensures.looks) c.rule_rows.ensures.looks) c.tally_told.ensures.looks) c.rule_var.ensures.looks) c.in_err-log.ensures.fails)

pub rule_entries-requires-clause-fits : goal.rule_entries-requires-clause-fits
rule_entries-requires-clause-fits g c = fits_still c.args.self.now.config.now (g.F.Flash.state c.args.flash.now) (g.F.Flash.state c.rule_log.new.flash) (looks_more _ _ _ (looks_more _ _ _ (looks_more _ _ _ (looks_more _ _ _ (looks_more _ _ _ c.rule_index.ensures.looks c.find_index_end.ensures.looks) c.rule_rows.ensures.looks) c.tally_told.ensures.looks) c.rule_var.ensures.looks) c.rule_log.ensures.looks) c.requires.fits

pub rule_entries-requires-clause-room : goal.rule_entries-requires-clause-room
rule_entries-requires-clause-room g c = c.rule_log.ensures.room

pub rule_entries-requires-clause-listing : goal.rule_entries-requires-clause-listing
rule_entries-requires-clause-listing g c = c.requires.listing

pub returns-in_err-entry-clause-rules : goal.returns-in_err-entry-clause-rules
returns-in_err-entry-clause-rules g c =
    let p = err_from_is_err_and c.from_residual-in_err-entry.result c.from_residual-in_err-entry.ensures.1 in
    rw p.1 tt

pub returns-in_err-entry-clause-fails : goal.returns-in_err-entry-clause-fails
returns-in_err-entry-clause-fails g c =
    let p = err_from_is_err_and c.from_residual-in_err-entry.result c.from_residual-in_err-entry.ensures.1 in
    rw (p.1, p.2) (fails_later (g.F.Flash.state c.args.flash.now) (g.F.Flash.state c.rule_log.new.flash) (g.F.Flash.state c.rule_entries.new.flash) c.in_err-entry.field-0.0 (looks_more _ _ _ (looks_more _ _ _ (looks_more _ _ _ (looks_more _ _ _ (looks_more _ _ _ c.rule_index.ensures.looks c.find_index_end.ensures.looks) c.rule_rows.ensures.looks) c.tally_told.ensures.looks) c.rule_var.ensures.looks) c.rule_log.ensures.looks) c.in_err-entry.ensures.fails)

pub rule_blobs-requires-clause-fits : goal.rule_blobs-requires-clause-fits
rule_blobs-requires-clause-fits g c = fits_still c.args.self.now.config.now (g.F.Flash.state c.args.flash.now) (g.F.Flash.state c.rule_entries.new.flash) (looks_more _ _ _ (looks_more _ _ _ (looks_more _ _ _ (looks_more _ _ _ (looks_more _ _ _ (looks_more _ _ _ c.rule_index.ensures.looks c.find_index_end.ensures.looks) c.rule_rows.ensures.looks) c.tally_told.ensures.looks) c.rule_var.ensures.looks) c.rule_log.ensures.looks) c.rule_entries.ensures.looks) c.requires.fits

pub rule_blobs-requires-clause-room : goal.rule_blobs-requires-clause-room
rule_blobs-requires-clause-room g c = c.rule_entries.ensures.room

pub rule_blobs-requires-clause-listed : goal.rule_blobs-requires-clause-listed
rule_blobs-requires-clause-listed g c = c.requires.listed

pub returns-in_err-blob-clause-rules : goal.returns-in_err-blob-clause-rules
returns-in_err-blob-clause-rules g c =
    let p = err_from_is_err_and c.from_residual-in_err-blob.result c.from_residual-in_err-blob.ensures.1 in
    rw p.1 tt

pub returns-in_err-blob-clause-fails : goal.returns-in_err-blob-clause-fails
returns-in_err-blob-clause-fails g c =
    let p = err_from_is_err_and c.from_residual-in_err-blob.result c.from_residual-in_err-blob.ensures.1 in
    rw (p.1, p.2) (fails_later (g.F.Flash.state c.args.flash.now) (g.F.Flash.state c.rule_entries.new.flash) (g.F.Flash.state c.rule_blobs.new.flash) c.in_err-blob.field-0.0 (looks_more _ _ _ (looks_more _ _ _ (looks_more _ _ _ (looks_more _ _ _ (looks_more _ _ _ (looks_more _ _ _ c.rule_index.ensures.looks c.find_index_end.ensures.looks) c.rule_rows.ensures.looks) c.tally_told.ensures.looks) c.rule_var.ensures.looks) c.rule_log.ensures.looks) c.rule_entries.ensures.looks) c.in_err-blob.ensures.fails)

pub returns-in_err-index-clause-looks : goal.returns-in_err-index-clause-looks
returns-in_err-index-clause-looks g c = c.rule_index.ensures.looks

pub returns-in_err-index-clause-off : goal.returns-in_err-index-clause-off
returns-in_err-index-clause-off g c =
    let p = err_from_is_err_and c.from_residual.result c.from_residual.ensures.1 in
    rw (p.1, p.2) (λ off. by_ring c.args.self.now.config.now.index _
    (λ some. let both = c.in_err-index.ensures.off some off in (same_fault both.0, both.1))
    (λ none. absurd (false≢true (c.in_err-index.ensures.none none).0)))

pub returns-in_err-end-clause-off : goal.returns-in_err-end-clause-off
returns-in_err-end-clause-off g c =
    let p = err_from_is_err_and c.from_residual-in_err-end.result c.from_residual-in_err-end.ensures.1 in
    rw (p.1, p.2) (λ off. by_ring c.args.self.now.config.now.index _
    (λ some. absurd (no_fault (c.in_ok-index.ensures.off some off).0))
    (λ none. absurd (no_fault (sym (c.in_err-end.ensures.none none).0))))

pub returns-in_err-rows-clause-off : goal.returns-in_err-rows-clause-off
returns-in_err-rows-clause-off g c =
    let p = err_from_is_err_and c.from_residual-in_err-rows.result c.from_residual-in_err-rows.ensures.1 in
    rw (p.1, p.2) (λ off. by_ring c.args.self.now.config.now.index _
    (λ some. absurd (no_fault (c.in_ok-index.ensures.off some off).0))
    (λ none.
    let both = c.in_err-rows.ensures.off (off_still (g.F.Flash.state c.args.flash.now) (g.F.Flash.state c.rule_index.new.flash) (g.F.Flash.state c.find_index_end.new.flash) c.rule_index.ensures.looks c.find_index_end.ensures.looks off) in
    (same_fault both.0, both.1 ∙ (c.in_ok-end.ensures.none none).1 ∙ (c.in_ok-index.ensures.none none).1)))

pub returns-in_err-tally-clause-off : goal.returns-in_err-tally-clause-off
returns-in_err-tally-clause-off g c = λ off. absurd (no_fault (c.in_ok-rows.ensures.off (off_still (g.F.Flash.state c.args.flash.now) (g.F.Flash.state c.rule_index.new.flash) (g.F.Flash.state c.find_index_end.new.flash) c.rule_index.ensures.looks c.find_index_end.ensures.looks off)).0)

pub returns-in_err-var-clause-off : goal.returns-in_err-var-clause-off
returns-in_err-var-clause-off g c = λ off. absurd (no_fault (c.in_ok-rows.ensures.off (off_still (g.F.Flash.state c.args.flash.now) (g.F.Flash.state c.rule_index.new.flash) (g.F.Flash.state c.find_index_end.new.flash) c.rule_index.ensures.looks c.find_index_end.ensures.looks off)).0)

pub returns-in_err-log-clause-off : goal.returns-in_err-log-clause-off
returns-in_err-log-clause-off g c = λ off. absurd (no_fault (c.in_ok-rows.ensures.off (off_still (g.F.Flash.state c.args.flash.now) (g.F.Flash.state c.rule_index.new.flash) (g.F.Flash.state c.find_index_end.new.flash) c.rule_index.ensures.looks c.find_index_end.ensures.looks off)).0)

pub returns-in_err-entry-clause-off : goal.returns-in_err-entry-clause-off
returns-in_err-entry-clause-off g c = λ off. absurd (no_fault (c.in_ok-rows.ensures.off (off_still (g.F.Flash.state c.args.flash.now) (g.F.Flash.state c.rule_index.new.flash) (g.F.Flash.state c.find_index_end.new.flash) c.rule_index.ensures.looks c.find_index_end.ensures.looks off)).0)

pub returns-in_err-blob-clause-off : goal.returns-in_err-blob-clause-off
returns-in_err-blob-clause-off g c = λ off. absurd (no_fault (c.in_ok-rows.ensures.off (off_still (g.F.Flash.state c.args.flash.now) (g.F.Flash.state c.rule_index.new.flash) (g.F.Flash.state c.find_index_end.new.flash) c.rule_index.ensures.looks c.find_index_end.ensures.looks off)).0)

pub returns-clause-off : goal.returns-clause-off
returns-clause-off g c = λ off. absurd (no_fault (c.in_ok-rows.ensures.off (off_still (g.F.Flash.state c.args.flash.now) (g.F.Flash.state c.rule_index.new.flash) (g.F.Flash.state c.find_index_end.new.flash) c.rule_index.ensures.looks c.find_index_end.ensures.looks off)).0)

pub find_index_end-requires-clause-within : goal.find_index_end-requires-clause-within
find_index_end-requires-clause-within g c = c.in_ok-index.ensures.within

pub tally_told-requires-clause-within : goal.tally_told-requires-clause-within
tally_told-requires-clause-within g c = c.in_ok-rows.ensures.within

pub rule_log-requires-clause-fits : goal.rule_log-requires-clause-fits
rule_log-requires-clause-fits g c = fits_still c.args.self.now.config.now (g.F.Flash.state c.args.flash.now) (g.F.Flash.state c.rule_var.new.flash) (looks_more _ _ _ (looks_more _ _ _ (looks_more _ _ _ (looks_more _ _ _ c.rule_index.ensures.looks c.find_index_end.ensures.looks) c.rule_rows.ensures.looks) c.tally_told.ensures.looks) c.rule_var.ensures.looks) c.requires.fits

pub rule_entries-requires-clause-index : goal.rule_entries-requires-clause-index
rule_entries-requires-clause-index g c = c.in_ok-index.ensures.within

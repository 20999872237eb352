use Rattle.std.proofs.Common.{◌≡◌, IfSome, sym, ◌∙◌, ap, subst}
use Rattle.fl_base.specs.declared.types.Geometry.{Geometry}
use Rattle.fl_flash.specs.Flash.{page_at}
use Rattle.fl_model.specs.Record.{RowLayout}
use Rattle.fl_ring.specs.Mounting.{shape_at}
use Rattle.fl_ring.specs.Place.{shape_of}
use Rattle.fl_ring.specs.Ring.{Shape}
use Rattle.fl_rules.specs.DataPage.{IsDataPage}
use Rattle.fl_check.specs.Faults.{with_keys}
use Rattle.fl_rules.specs.Rising.{HaveRows}
use Rattle.fl_rules.specs.RingRules.{OverPages}
use Rattle.fl_check.specs.Ruled.{RingTold, KeysTold, RowsTold}
use Rattle.fl_check.specs.Whole.{rows_shape, layout_in, IsRowsForm}
use Rattle.fl_check.specs.declared.faults.RingFaults.{RingFaults}
use Rattle.fl_rules.proofs.LooksChangeNothing.{seen, fails_later}
use Rattle.fl_check.proofs.PlacesStay.{fits_still}
use Rattle.fl_check.proofs.TableTold.{keyless, rows_told}
use Rattle.std.proofs.lemmas.Result.{err_from_is_err_and}
use Rattle.fl_frame.proofs.ReadsInTurn.{looks_more}
use Rattle.fl_check.proofs.TableRings.{room_in, room_back}
use Rattle.fl_rules.proofs.Results.{no_fault, same_fault}
use Rattle.fl_check.proofs.table.Checked.rule_rows.Goals as goal

pub returns-clause-rules : goal.returns-clause-rules
returns-clause-rules g c = λ told.
    let f = g.F.Flash.state c.args.flash.now in
    let mid = g.F.Flash.state c.rule_ring.new.flash in
    let config = c.args.self.now.config.now in
    let buckets = c.args.self.now.config.now.buckets in
    let at_least = c.args.at_least in
    let faults = c.in_ok-told.told.faults in
    let n = c.in_ok-told.told.numbering in
    let keys = c.in_ok-keys.keys in
    let r = shape_of c.unnumbered-ring.result in
    let before : r ≡ rows_shape config = c.unnumbered-ring.ensures.shape ∙ ap (λ (x : Geometry). shape_at config.rows x) (sym c.requires.fits.geometry) in
    let ring : RingTold (IsRowsForm config) (page_at f) (rows_shape config) at_least faults n =
    subst (λ (s : Shape). RingTold (λ number bytes. IsDataPage (layout_in config) buckets number bytes) (page_at f) s at_least faults n) before
    (subst (λ (l : RowLayout). RingTold (λ number bytes. IsDataPage l buckets number bytes) (page_at f) r at_least faults n) c.args.self.now.layout (c.in_ok-told.ensures.rules told)) in
    let have = rows_told config f at_least faults n c.requires.fits ring in
    let known : KeysTold (OverPages (layout_in config)) (page_at f) (rows_shape config) n keys =
    seen f mid (λ page. IfSome n (λ n. HaveRows (layout_in config) page (rows_shape config) n.marks) → KeysTold (OverPages (layout_in config)) page (rows_shape config) n keys) c.rule_ring.ensures.looks c.in_ok-keys.ensures.keys told have in
    let rows : RowsTold (IsRowsForm config) (OverPages (layout_in config)) (page_at f) (rows_shape config) at_least (with_keys keys faults) n =
    record { ring = keyless (IsRowsForm config) (page_at f) (rows_shape config) at_least keys faults n ring; keys = known } in
    subst (λ (x : RingFaults). RowsTold (IsRowsForm config) (OverPages (layout_in config)) (page_at f) (rows_shape config) at_least x n) (sym c.with_keys.ensures) rows

pub unnumbered-ring-requires-clause-blocks : goal.unnumbered-ring-requires-clause-blocks
unnumbered-ring-requires-clause-blocks g c = c.requires.fits.limits.rows.0

pub unnumbered-ring-requires-clause-lies : goal.unnumbered-ring-requires-clause-lies
unnumbered-ring-requires-clause-lies g c = c.requires.fits.rows

pub unnumbered-ring-requires-clause-few : goal.unnumbered-ring-requires-clause-few
unnumbered-ring-requires-clause-few g c = c.requires.fits.few

pub rule_ring-requires-clause-lies : goal.rule_ring-requires-clause-lies
rule_ring-requires-clause-lies g c = c.unnumbered-ring.ensures.lies

pub rule_ring-requires-clause-room : goal.rule_ring-requires-clause-room
rule_ring-requires-clause-room g c =
    let config = c.args.self.now.config.now in
    room_in config (g.F.Flash.state c.args.flash.now) c.requires.fits config.rows (shape_of c.unnumbered-ring.result) c.unnumbered-ring.ensures.shape c.requires.room

pub returns-in_err-told-clause-looks : goal.returns-in_err-told-clause-looks
returns-in_err-told-clause-looks g c = c.rule_ring.ensures.looks

pub returns-in_err-told-clause-room : goal.returns-in_err-told-clause-room
returns-in_err-told-clause-room g c =
    let config = c.args.self.now.config.now in
    room_back config (g.F.Flash.state c.args.flash.now) c.requires.fits config.rows (shape_of c.unnumbered-ring.result) c.unnumbered-ring.ensures.shape c.rule_ring.ensures.room

pub returns-in_err-told-clause-within : goal.returns-in_err-told-clause-within
returns-in_err-told-clause-within g c =
    let p = err_from_is_err_and c.from_residual.result c.from_residual.ensures.1 in
    rw p.1 tt

pub returns-in_err-told-clause-rules : goal.returns-in_err-told-clause-rules
returns-in_err-told-clause-rules g c =
    let p = err_from_is_err_and c.from_residual.result c.from_residual.ensures.1 in
    rw p.1 tt

pub returns-in_err-told-clause-fails : goal.returns-in_err-told-clause-fails
returns-in_err-told-clause-fails g c =
    let p = err_from_is_err_and c.from_residual.result c.from_residual.ensures.1 in
    rw (p.1, p.2) c.in_err-told.ensures.fails

pub rule_keys-requires-clause-fits : goal.rule_keys-requires-clause-fits
rule_keys-requires-clause-fits g c = fits_still c.args.self.now.config.now (g.F.Flash.state c.args.flash.now) (g.F.Flash.state c.rule_ring.new.flash) c.rule_ring.ensures.looks c.requires.fits

pub rule_keys-requires-clause-room : goal.rule_keys-requires-clause-room
rule_keys-requires-clause-room g c =
    let config = c.args.self.now.config.now in
    room_back config (g.F.Flash.state c.args.flash.now) c.requires.fits config.rows (shape_of c.unnumbered-ring.result) c.unnumbered-ring.ensures.shape c.rule_ring.ensures.room

pub returns-in_err-keys-clause-looks : goal.returns-in_err-keys-clause-looks
returns-in_err-keys-clause-looks g c = looks_more _ _ _ c.rule_ring.ensures.looks c.rule_keys.ensures.looks

pub returns-in_err-keys-clause-room : goal.returns-in_err-keys-clause-room
returns-in_err-keys-clause-room g c = c.rule_keys.ensures.room

pub returns-in_err-keys-clause-within : goal.returns-in_err-keys-clause-within
returns-in_err-keys-clause-within g c =
    let p = err_from_is_err_and c.from_residual-in_err-keys.result c.from_residual-in_err-keys.ensures.1 in
    rw p.1 tt

pub returns-in_err-keys-clause-rules : goal.returns-in_err-keys-clause-rules
returns-in_err-keys-clause-rules g c =
    let p = err_from_is_err_and c.from_residual-in_err-keys.result c.from_residual-in_err-keys.ensures.1 in
    rw p.1 tt

pub returns-in_err-keys-clause-fails : goal.returns-in_err-keys-clause-fails
returns-in_err-keys-clause-fails g c =
    let p = err_from_is_err_and c.from_residual-in_err-keys.result c.from_residual-in_err-keys.ensures.1 in
    rw (p.1, p.2) (fails_later (g.F.Flash.state c.args.flash.now) (g.F.Flash.state c.rule_ring.new.flash) (g.F.Flash.state c.rule_keys.new.flash) c.in_err-keys.field-0.0 c.rule_ring.ensures.looks c.in_err-keys.ensures.fails)

pub returns-clause-looks : goal.returns-clause-looks
returns-clause-looks g c = looks_more _ _ _ c.rule_ring.ensures.looks c.rule_keys.ensures.looks

pub returns-clause-room : goal.returns-clause-room
returns-clause-room g c = c.rule_keys.ensures.room

pub returns-clause-fails : goal.returns-clause-fails
returns-clause-fails g c = tt

pub returns-in_err-told-clause-off : goal.returns-in_err-told-clause-off
returns-in_err-told-clause-off g c =
    let p = err_from_is_err_and c.from_residual.result c.from_residual.ensures.1 in
    rw (p.1, p.2) (λ off. let both = c.in_err-told.ensures.off off in (same_fault both.0, both.1))

pub returns-in_err-keys-clause-off : goal.returns-in_err-keys-clause-off
returns-in_err-keys-clause-off g c = λ off. absurd (no_fault (c.in_ok-told.ensures.off off).0)

pub returns-clause-off : goal.returns-clause-off
returns-clause-off g c = λ off. absurd (no_fault (c.in_ok-told.ensures.off off).0)

use Rattle.std.proofs.Common.{◌≡◌, sym, ◌∙◌, ap, subst}
use Rattle.std.proofs.lemmas.Result.{IfOk-weaker}
use Rattle.fl_base.specs.declared.types.Geometry.{Geometry}
use Rattle.fl_flash.specs.Flash.{page_at}
use Rattle.fl_model.specs.Record.{RowLayout}
use Rattle.fl_ring.specs.Mounting.{shape_at}
use Rattle.fl_ring.specs.Place.{shape_of}
use Rattle.fl_ring.specs.Ring.{Shape}
use Rattle.fl_rules.specs.DataPage.{IsDataPage}
use Rattle.fl_rules.specs.RingRules.{OverPages, IsRingSound, BreaksRing}
use Rattle.fl_rules.specs.Stop.{breach}
use Rattle.fl_check.specs.Whole.{rows_shape, layout_in}
use Rattle.fl_check.proofs.Halts.{if_found, ok_of, found_of, if_failed, failed_of}
use Rattle.fl_check.proofs.TableRings.{shape_is, room_in, room_back}
use Rattle.fl_flash.specs.declared.flash.FlashFault.TheVariants.{PowerLost}
use Rattle.fl_rules.specs.Marks.{AreWithin}
use Rattle.fl_check.proofs.table.Checked.check_data.Goals as goal

pub returns-clause-sound : goal.returns-clause-sound
returns-clause-sound g c =
    let f = g.F.Flash.state c.args.flash.now in
    let config = c.args.self.now.config.now in
    let buckets = c.args.self.now.config.now.buckets in
    let before : shape_of c.unnumbered-ring.result ≡ rows_shape c.args.self.now.config.now = c.unnumbered-ring.ensures.shape ∙ ap (λ (x : Geometry). shape_at config.rows x) (sym c.requires.fits.geometry) in
    IfOk-weaker c.in_ring.result _ _
    (λ n is told. subst (λ (r : Shape). IsRingSound (λ number bytes. IsDataPage (layout_in config) buckets number bytes) (OverPages (layout_in config)) (page_at f) r c.args.at_least n) before
    (subst (λ (l : RowLayout). IsRingSound (λ number bytes. IsDataPage l buckets number bytes) (OverPages l) (page_at f) (shape_of c.unnumbered-ring.result) c.args.at_least n) c.args.self.now.layout
    (ok_of c.check_rows.result _ n is c.check_rows.ensures.sound told)))
    c.in_ring.ensures.ok

pub returns-clause-broken : goal.returns-clause-broken
returns-clause-broken g c =
    let f = g.F.Flash.state c.args.flash.now in
    let config = c.args.self.now.config.now in
    let buckets = c.args.self.now.config.now.buckets in
    let before : shape_of c.unnumbered-ring.result ≡ rows_shape c.args.self.now.config.now = c.unnumbered-ring.ensures.shape ∙ ap (λ (x : Geometry). shape_at config.rows x) (sym c.requires.fits.geometry) in
    if_found _ _ c.in_ring.result
    (λ fault is told. (
      is.0,
      subst (λ (r : Shape). BreaksRing (λ number bytes. IsDataPage (layout_in config) buckets number bytes) (OverPages (layout_in config)) (page_at f) r c.args.at_least fault.rule fault.page) before
          (subst (λ (l : RowLayout). BreaksRing (λ number bytes. IsDataPage l buckets number bytes) (OverPages l) (page_at f) (shape_of c.unnumbered-ring.result) c.args.at_least fault.rule fault.page) c.args.self.now.layout
          (found_of c.check_rows.result _ (breach fault.rule fault.page) is.1 c.check_rows.ensures.broken told)),
    ))
    c.in_ring.ensures.found

pub unnumbered-ring-requires-clause-blocks : goal.unnumbered-ring-requires-clause-blocks
unnumbered-ring-requires-clause-blocks g c = c.requires.fits.limits.rows.0

pub unnumbered-ring-requires-clause-lies : goal.unnumbered-ring-requires-clause-lies
unnumbered-ring-requires-clause-lies g c = c.requires.fits.rows

pub unnumbered-ring-requires-clause-few : goal.unnumbered-ring-requires-clause-few
unnumbered-ring-requires-clause-few g c = c.requires.fits.few

pub check_rows-requires-clause-lies : goal.check_rows-requires-clause-lies
check_rows-requires-clause-lies g c = c.unnumbered-ring.ensures.lies

pub check_rows-requires-clause-room : goal.check_rows-requires-clause-room
check_rows-requires-clause-room g c = room_in c.args.self.now.config.now (g.F.Flash.state c.args.flash.now) c.requires.fits c.args.self.now.config.now.rows (shape_of c.unnumbered-ring.result) c.unnumbered-ring.ensures.shape c.requires.room

pub returns-clause-looks : goal.returns-clause-looks
returns-clause-looks g c = c.check_rows.ensures.looks

pub returns-clause-room : goal.returns-clause-room
returns-clause-room g c = room_back c.args.self.now.config.now (g.F.Flash.state c.args.flash.now) c.requires.fits c.args.self.now.config.now.rows (shape_of c.unnumbered-ring.result) c.unnumbered-ring.ensures.shape c.check_rows.ensures.room

pub returns-clause-within : goal.returns-clause-within
returns-clause-within g c =
    IfOk-weaker c.in_ring.result _ _
    (λ n is. subst (λ (r : Shape). AreWithin r n.marks) (shape_is c.args.self.now.config.now (g.F.Flash.state c.args.flash.now) c.requires.fits c.args.self.now.config.now.rows (shape_of c.unnumbered-ring.result) c.unnumbered-ring.ensures.shape)
    (ok_of c.check_rows.result _ n is c.check_rows.ensures.within))
    c.in_ring.ensures.ok

pub returns-clause-fails : goal.returns-clause-fails
returns-clause-fails g c = if_failed _ _ c.in_ring.result (λ e is. failed_of c.check_rows.result _ e is c.check_rows.ensures.fails) c.in_ring.ensures.failed

pub returns-clause-off : goal.returns-clause-off
returns-clause-off g c = λ off. let both = c.check_rows.ensures.off off in (c.in_ring.ensures.lost PowerLost both.0, both.1)

use Rattle.std.proofs.Common.{◌≡◌, None, sym, ◌∙◌, ap, subst, Option}
use Rattle.std.proofs.lemmas.Result.{IfOk-weaker}
use Rattle.fl_base.specs.declared.types.Geometry.{Geometry}
use Rattle.fl_flash.specs.Flash.{page_at}
use Rattle.fl_model.specs.Record.{RowLayout}
use Rattle.fl_ring.specs.Mounting.{shape_at}
use Rattle.fl_ring.specs.Place.{shape_of}
use Rattle.fl_ring.specs.Ring.{Shape}
use Rattle.fl_rules.specs.DataPage.{IsDataPage}
use Rattle.fl_rules.specs.RingRules.{WithinPages}
use Rattle.fl_check.specs.Ruled.{RowsTold}
use Rattle.fl_check.specs.Whole.{shape_in, layout_in, LogFits}
use Rattle.fl_check.proofs.TableTold.{at_place}
use Rattle.fl_base.specs.declared.types.RingPlace.{RingPlace}
use Rattle.fl_check.proofs.TableRings.{room_in, room_back}
use Rattle.fl_frame.proofs.ReadsInTurn.{looks_none}
use Rattle.fl_check.proofs.table.Checked.rule_log.Goals as goal

pub returns-clause-rules : goal.returns-clause-rules
returns-clause-rules g c =
    let page = page_at (g.F.Flash.state c.args.flash.now) in
    let config = c.args.self.now.config.now in
    let place = c.in-Some.place in
    let before : shape_of c.unnumbered-ring.result ≡ shape_in config place = c.unnumbered-ring.ensures.shape ∙ ap (λ (x : Geometry). shape_at place x) (sym c.requires.fits.geometry) in
    IfOk-weaker c.rule_log.result _ _
    (λ told is known. at_place (λ place faults n. RowsTold (λ number bytes. IsDataPage (layout_in config) None number bytes) (WithinPages (layout_in config)) page (shape_in config place) 0 faults n) c.args.self.now.log place
    told.faults told.numbering c.in-Some.is
    (subst (λ (r : Shape). RowsTold (λ number bytes. IsDataPage (layout_in config) None number bytes) (WithinPages (layout_in config)) page r 0 told.faults told.numbering) before
    (subst (λ (l : RowLayout). RowsTold (λ number bytes. IsDataPage l None number bytes) (WithinPages l) page (shape_of c.unnumbered-ring.result) 0 told.faults told.numbering) c.args.self.now.layout (is known))))
    c.rule_log.ensures.rules

pub unnumbered-ring-requires-clause-blocks : goal.unnumbered-ring-requires-clause-blocks
unnumbered-ring-requires-clause-blocks g c = (subst (λ (o : Option RingPlace). LogFits o (g.F.Flash.state c.args.flash.now)) c.in-Some.is c.requires.log).0.0

pub unnumbered-ring-requires-clause-lies : goal.unnumbered-ring-requires-clause-lies
unnumbered-ring-requires-clause-lies g c = (subst (λ (o : Option RingPlace). LogFits o (g.F.Flash.state c.args.flash.now)) c.in-Some.is c.requires.log).1

pub unnumbered-ring-requires-clause-few : goal.unnumbered-ring-requires-clause-few
unnumbered-ring-requires-clause-few g c = c.requires.fits.few

pub rule_log-requires-clause-lies : goal.rule_log-requires-clause-lies
rule_log-requires-clause-lies g c = c.unnumbered-ring.ensures.lies

pub rule_log-requires-clause-room : goal.rule_log-requires-clause-room
rule_log-requires-clause-room g c = room_in c.args.self.now.config.now (g.F.Flash.state c.args.flash.now) c.requires.fits c.in-Some.place (shape_of c.unnumbered-ring.result) c.unnumbered-ring.ensures.shape c.requires.room

pub returns-in_default-clause-looks : goal.returns-in_default-clause-looks
returns-in_default-clause-looks g c = looks_none (g.F.Flash.state c.args.flash.now)

pub returns-in_default-clause-room : goal.returns-in_default-clause-room
returns-in_default-clause-room g c = c.requires.room

pub returns-in_default-clause-rules : goal.returns-in_default-clause-rules
returns-in_default-clause-rules g c = λ told. rw c.in_default.is (c.of_no_ring.ensures.faults, c.of_no_ring.ensures.none)

pub returns-clause-looks : goal.returns-clause-looks
returns-clause-looks g c = c.rule_log.ensures.looks

pub returns-clause-room : goal.returns-clause-room
returns-clause-room g c = room_back c.args.self.now.config.now (g.F.Flash.state c.args.flash.now) c.requires.fits c.in-Some.place (shape_of c.unnumbered-ring.result) c.unnumbered-ring.ensures.shape c.rule_log.ensures.room

pub returns-clause-fails : goal.returns-clause-fails
returns-clause-fails g c = c.rule_log.ensures.fails

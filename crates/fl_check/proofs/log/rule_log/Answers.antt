use Rattle.std.proofs.Common.{sym, subst}
use Rattle.fl_flash.specs.Flash.{page_at}
use Rattle.fl_ring.specs.Place.{shape_of}
use Rattle.fl_schema.specs.Schema.{layout_of}
use Rattle.fl_rules.specs.DataPage.{IsDataPage}
use Rattle.fl_check.specs.Faults.{with_keys}
use Rattle.fl_rules.specs.RingRules.{WithinPages}
use Rattle.fl_check.specs.Ruled.{KeysTold, RowsTold}
use Rattle.fl_check.specs.declared.faults.RingFaults.{RingFaults}
use Rattle.fl_rules.proofs.LooksChangeNothing.{seen, fails_later}
use Rattle.fl_check.proofs.TableTold.{keyless}
use Rattle.std.proofs.lemmas.Result.{err_from_is_err_and}
use Rattle.fl_frame.proofs.ReadsInTurn.{looks_more}
use Rattle.fl_ring.proofs.Exists.{lies_still}
use Rattle.fl_check.proofs.PowersOff.{schema-fits}
use Rattle.fl_check.proofs.log.rule_log.Goals as goal

pub returns-clause-rules : goal.returns-clause-rules
returns-clause-rules g c = λ told.
    let f = g.F.Flash.state c.args.flash.now in
    let mid = g.F.Flash.state c.rule_ring.new.flash in
    let layout = layout_of c.args.form.now.schema.now in
    let buckets = c.args.form.now.buckets in
    let faults = c.in_ok-told.told.faults in
    let n = c.in_ok-told.told.numbering in
    let keys = c.in_ok-keys.keys in
    let r = shape_of c.args.ring.now in
    let ring = c.in_ok-told.ensures.rules told in
    let known : KeysTold (WithinPages layout) (page_at f) r n keys = seen f mid (λ page. KeysTold (WithinPages layout) page r n keys) c.rule_ring.ensures.looks c.in_ok-keys.ensures.keys told in
    let rows : RowsTold (λ number bytes. IsDataPage layout buckets number bytes) (WithinPages layout) (page_at f) r 0 (with_keys keys faults) n =
    record { ring = keyless (λ number bytes. IsDataPage layout buckets number bytes) (page_at f) r 0 keys faults n ring; keys = known } in
    subst (λ (x : RingFaults). RowsTold (λ number bytes. IsDataPage layout buckets number bytes) (WithinPages layout) (page_at f) r 0 x n) (sym c.with_keys.ensures) rows

pub rule_ring-requires-clause-lies : goal.rule_ring-requires-clause-lies
rule_ring-requires-clause-lies g c = c.requires.lies

pub rule_ring-requires-clause-room : goal.rule_ring-requires-clause-room
rule_ring-requires-clause-room g c = c.requires.room

pub returns-in_err-told-clause-looks : goal.returns-in_err-told-clause-looks
returns-in_err-told-clause-looks g c = c.rule_ring.ensures.looks

pub returns-in_err-told-clause-room : goal.returns-in_err-told-clause-room
returns-in_err-told-clause-room g c = c.rule_ring.ensures.room

pub returns-in_err-told-clause-rules : goal.returns-in_err-told-clause-rules
returns-in_err-told-clause-rules g c =
    let p = err_from_is_err_and c.from_residual.result c.from_residual.ensures.1 in
    rw p.1 tt

pub returns-in_err-told-clause-fails : goal.returns-in_err-told-clause-fails
returns-in_err-told-clause-fails g c =
    let p = err_from_is_err_and c.from_residual.result c.from_residual.ensures.1 in
    rw (p.1, p.2) c.in_err-told.ensures.fails

pub returns-in_err-keys-clause-looks : goal.returns-in_err-keys-clause-looks
returns-in_err-keys-clause-looks g c = looks_more _ _ _ c.rule_ring.ensures.looks c.rule_order.ensures.looks

pub returns-in_err-keys-clause-room : goal.returns-in_err-keys-clause-room
returns-in_err-keys-clause-room g c = c.rule_order.ensures.room

pub returns-in_err-keys-clause-rules : goal.returns-in_err-keys-clause-rules
returns-in_err-keys-clause-rules g c =
    let p = err_from_is_err_and c.from_residual-in_err-keys.result c.from_residual-in_err-keys.ensures.1 in
    rw p.1 tt

pub returns-in_err-keys-clause-fails : goal.returns-in_err-keys-clause-fails
returns-in_err-keys-clause-fails g c =
    let p = err_from_is_err_and c.from_residual-in_err-keys.result c.from_residual-in_err-keys.ensures.1 in
    rw (p.1, p.2) (fails_later (g.F.Flash.state c.args.flash.now) (g.F.Flash.state c.rule_ring.new.flash) (g.F.Flash.state c.rule_order.new.flash) c.in_err-keys.field-0.0 c.rule_ring.ensures.looks c.in_err-keys.ensures.fails)

pub returns-clause-looks : goal.returns-clause-looks
returns-clause-looks g c = looks_more _ _ _ c.rule_ring.ensures.looks c.rule_order.ensures.looks

pub returns-clause-room : goal.returns-clause-room
returns-clause-room g c = c.rule_order.ensures.room

pub rule_order-requires : goal.rule_order-requires
rule_order-requires g c = (schema-fits, (lies_still c.args.ring.now (g.F.Flash.state c.args.flash.now) (g.F.Flash.state c.rule_ring.new.flash) c.requires.lies c.rule_ring.ensures.looks.goes, (c.rule_ring.ensures.room, c.in_ok-told.ensures.within)))

use Rattle.std.proofs.Common.{Option, IsTrue, sym, subst, IfSome, None, refl}
use Rattle.std.proofs.lemmas.Result.{IfOk-weaker}
use Rattle.fl_flash.specs.Flash.{page_at}
use Rattle.fl_ring.specs.Place.{shape_of}
use Rattle.fl_schema.specs.Schema.{layout_of}
use Rattle.fl_rules.specs.Bodies.{HaveBodies, BodiesBreak}
use Rattle.fl_rules.specs.RingRules.{WithinPages, IsAscending}
use Rattle.fl_check.specs.Ruled.{KeysTold}
use Rattle.fl_rules.specs.declared.numbering.Numbering.{Numbering}
use Rattle.fl_rules.specs.declared.rule.Rule.TheVariants.{Keys}
use Rattle.fl_check.proofs.RulesTold.{if_told, fails_told}
use Rattle.fl_rules.proofs.Stops.{if_broken}
use Rattle.fl_rules.specs.Marks.{AreWithin}
use Rattle.fl_frame.proofs.ReadsInTurn.{looks_none, looks_by}
use Rattle.fl_check.proofs.log.rule_order.Goals as goal

pub returns-clause-keys : goal.returns-clause-keys
returns-clause-keys g c =
    let f = g.F.Flash.state c.args.flash.now in
    let page = page_at f in
    let r = shape_of c.args.ring.now in
    let n = c.in-Some.n in
    let layout = layout_of c.args.schema.now in
    IfOk-weaker c.first_page.result _ _
    (λ keys is told. subst (λ (x : Option Numbering). KeysTold (WithinPages layout) page r x keys) (sym c.in-Some.is) (is told tt))
    (if_told c.check_forms.result c.first_page.result (IsTrue f.media.tells) (Unit {0}) (HaveBodies (λ number bytes. IsAscending layout number bytes) page r n) Keys (λ p. BodiesBreak (λ number bytes. IsAscending layout number bytes) page r n p)
    c.first_page.ensures c.check_forms.ensures.bodies (if_broken _ _ c.check_forms.result (λ b breaks told needs. breaks told) c.check_forms.ensures.broken))

pub check_forms-requires-clause-lies : goal.check_forms-requires-clause-lies
check_forms-requires-clause-lies g c = c.requires.lies

pub check_forms-requires-clause-room : goal.check_forms-requires-clause-room
check_forms-requires-clause-room g c = c.requires.room

pub check_forms-requires-clause-within : goal.check_forms-requires-clause-within
check_forms-requires-clause-within g c = subst (λ (o : Option Numbering). IfSome o (λ n. AreWithin (shape_of c.args.ring.now) n.marks)) c.in-Some.is c.requires.within

pub returns-in_default-clause-looks : goal.returns-in_default-clause-looks
returns-in_default-clause-looks g c = looks_none (g.F.Flash.state c.args.flash.now)

pub returns-in_default-clause-room : goal.returns-in_default-clause-room
returns-in_default-clause-room g c = c.requires.room

pub returns-in_default-clause-keys : goal.returns-in_default-clause-keys
returns-in_default-clause-keys g c = λ told. subst (λ (x : Option Numbering). KeysTold (WithinPages (layout_of c.args.schema.now)) (page_at (g.F.Flash.state c.args.flash.now)) (shape_of c.args.ring.now) x None) (sym c.in_default.is) refl

pub returns-clause-looks : goal.returns-clause-looks
returns-clause-looks g c = looks_by (g.F.Flash.state c.args.flash.now) (g.F.Flash.state c.check_forms.new.flash) _ c.check_forms.ensures.reads

pub returns-clause-room : goal.returns-clause-room
returns-clause-room g c = c.check_forms.ensures.room

pub returns-clause-fails : goal.returns-clause-fails
returns-clause-fails g c = fails_told c.check_forms.result c.first_page.result _ c.first_page.ensures c.check_forms.ensures.fails

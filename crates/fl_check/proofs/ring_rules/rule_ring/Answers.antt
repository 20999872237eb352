use Rattle.std.proofs.lemmas.Result.{IfErr-weaker}
use Rattle.fl_frame.specs.Causes.{ReadFails}
use Rattle.fl_frame.proofs.ReadsInTurn.{looks_by, looks_more}
use Rattle.fl_rules.proofs.LooksChangeNothing.{fails_later}
use Rattle.fl_ring.proofs.Exists.{lies_still}
use Rattle.fl_rules.proofs.Results.{no_fault}
use Rattle.std.proofs.Common.{◌≡◌, Result, Err, refl}
use Rattle.fl_flash.specs.declared.flash.FlashFault.{FlashFault}
use Rattle.fl_rules.specs.declared.rule.Stop.{Stop}
use Rattle.fl_rules.specs.declared.rule.Breach.{Breach}
use Rattle.fl_rules.specs.declared.rule.Stop.TheVariants.{Flash, Broken}
use Rattle.fl_check.proofs.ring_rules.rule_ring.Goals as goal

broken-flash : {A : Type 0} {b : Breach} {e : FlashFault} → ◌≡◌ {A = Result A Stop} (Err (Broken b)) (Err (Flash e)) → ⊥
broken-flash h = cc

flash-of : {A B : Type 0} {d e : FlashFault} → ◌≡◌ {A = Result A Stop} (Err (Flash d)) (Err (Flash e)) → ◌≡◌ {A = Result B FlashFault} (Err d) (Err e)
flash-of {d = d} {e = e} h = let same : d ≡ e = cc in rw same refl

pub read_marks-requires-clause-lies : goal.read_marks-requires-clause-lies
read_marks-requires-clause-lies g c = c.requires.lies

pub read_marks-requires-clause-room : goal.read_marks-requires-clause-room
read_marks-requires-clause-room g c = c.requires.room

pub rule_marked-requires-clause-lies : goal.rule_marked-requires-clause-lies
rule_marked-requires-clause-lies g c = lies_still c.args.ring.now (g.F.Flash.state c.args.flash.now) (g.F.Flash.state c.read_marks.new.flash) c.requires.lies c.read_marks.ensures.reads.goes

pub rule_marked-requires-clause-room : goal.rule_marked-requires-clause-room
rule_marked-requires-clause-room g c = c.read_marks.ensures.room

pub rule_marked-requires-clause-within : goal.rule_marked-requires-clause-within
rule_marked-requires-clause-within g c = c.in-Ok.ensures.within

pub returns-in-Ok-clause-looks : goal.returns-in-Ok-clause-looks
returns-in-Ok-clause-looks g c = looks_more (g.F.Flash.state c.args.flash.now) (g.F.Flash.state c.read_marks.new.flash) (g.F.Flash.state c.rule_marked.new.flash) (looks_by (g.F.Flash.state c.args.flash.now) (g.F.Flash.state c.read_marks.new.flash) _ c.read_marks.ensures.reads) c.rule_marked.ensures.looks

pub returns-in-Ok-clause-room : goal.returns-in-Ok-clause-room
returns-in-Ok-clause-room g c = c.rule_marked.ensures.room

pub returns-in-Ok-clause-within : goal.returns-in-Ok-clause-within
returns-in-Ok-clause-within g c = c.rule_marked.ensures.within

pub returns-in-Ok-clause-fails : goal.returns-in-Ok-clause-fails
returns-in-Ok-clause-fails g c =
    IfErr-weaker c.rule_marked.result (λ e. ReadFails (g.F.Flash.state c.read_marks.new.flash) e (g.F.Flash.state c.rule_marked.new.flash)) (λ e. ReadFails (g.F.Flash.state c.args.flash.now) e (g.F.Flash.state c.rule_marked.new.flash))
    (λ e. fails_later (g.F.Flash.state c.args.flash.now) (g.F.Flash.state c.read_marks.new.flash) (g.F.Flash.state c.rule_marked.new.flash) e (looks_by (g.F.Flash.state c.args.flash.now) (g.F.Flash.state c.read_marks.new.flash) _ c.read_marks.ensures.reads)) c.rule_marked.ensures.fails

pub returns-in-Ok-clause-off : goal.returns-in-Ok-clause-off
returns-in-Ok-clause-off g c = λ off. absurd (no_fault (c.in-Ok.ensures.off off).0)

pub returns-in-Err-Broken-clause-looks : goal.returns-in-Err-Broken-clause-looks
returns-in-Err-Broken-clause-looks g c = looks_by (g.F.Flash.state c.args.flash.now) (g.F.Flash.state c.read_marks.new.flash) _ c.read_marks.ensures.reads

pub returns-in-Err-Broken-clause-room : goal.returns-in-Err-Broken-clause-room
returns-in-Err-Broken-clause-room g c = c.read_marks.ensures.room

pub returns-in-Err-Flash-clause-looks : goal.returns-in-Err-Flash-clause-looks
returns-in-Err-Flash-clause-looks g c = looks_by (g.F.Flash.state c.args.flash.now) (g.F.Flash.state c.read_marks.new.flash) _ c.read_marks.ensures.reads

pub returns-in-Err-Flash-clause-room : goal.returns-in-Err-Flash-clause-room
returns-in-Err-Flash-clause-room g c = c.read_marks.ensures.room

pub returns-in-Err-Flash-clause-fails : goal.returns-in-Err-Flash-clause-fails
returns-in-Err-Flash-clause-fails g c = rw c.in-Err-Flash.fault-is (rw c.in-Err-Flash.field-0-is at c.in-Err-Flash.ensures.fails)

pub returns-in-Err-Broken-clause-off : goal.returns-in-Err-Broken-clause-off
returns-in-Err-Broken-clause-off g c = λ off. absurd (broken-flash ((rw c.in-Err-Broken.field-0-is at c.in-Err-Broken.ensures.off) off).0)

pub returns-in-Err-Flash-clause-off : goal.returns-in-Err-Flash-clause-off
returns-in-Err-Flash-clause-off g c = rw c.in-Err-Flash.fault-is (λ off. let both = (rw c.in-Err-Flash.field-0-is at c.in-Err-Flash.ensures.off) off in (flash-of both.0, both.1))

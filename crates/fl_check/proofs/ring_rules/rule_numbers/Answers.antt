use Rattle.std.proofs.Common.{ℕ, List, Option, refl, sym, subst}
use Rattle.std.proofs.lemmas.Result.{IfErr-weaker}
use Rattle.fl_flash.specs.Flash.{page_at}
use Rattle.fl_frame.specs.Causes.{ReadFails}
use Rattle.fl_ring.specs.Place.{shape_of}
use Rattle.fl_ring.proofs.Exists.{lies_still}
use Rattle.fl_check.specs.Ruled.{BodiesTold, NumbersTold}
use Rattle.fl_rules.specs.declared.numbering.Numbering.{Numbering}
use Rattle.fl_frame.proofs.ReadsInTurn.{looks_by, looks_more}
use Rattle.fl_rules.proofs.LooksChangeNothing.{seen, fails_later}
use Rattle.fl_check.proofs.RulesTold.{if_ok_both}
use Rattle.fl_check.proofs.ring_rules.rule_numbers.Goals as goal

pub check_numbers-requires-clause-lies : goal.check_numbers-requires-clause-lies
check_numbers-requires-clause-lies g c = c.requires.lies

pub check_numbers-requires-clause-room : goal.check_numbers-requires-clause-room
check_numbers-requires-clause-room g c = c.requires.room

pub check_numbers-requires-clause-within : goal.check_numbers-requires-clause-within
check_numbers-requires-clause-within g c = c.requires.within

pub rule_bodies-requires-clause-lies : goal.rule_bodies-requires-clause-lies
rule_bodies-requires-clause-lies g c = lies_still c.args.ring.now (g.F.Flash.state c.args.flash.now) (g.F.Flash.state c.check_numbers.new.flash) c.requires.lies c.check_numbers.ensures.reads.goes

pub rule_bodies-requires-clause-room : goal.rule_bodies-requires-clause-room
rule_bodies-requires-clause-room g c = c.check_numbers.ensures.room

pub rule_bodies-requires-clause-within : goal.rule_bodies-requires-clause-within
rule_bodies-requires-clause-within g c = c.requires.within

pub returns-in-Ok-clause-looks : goal.returns-in-Ok-clause-looks
returns-in-Ok-clause-looks g c =
    let f = g.F.Flash.state c.args.flash.now in
    let mid = g.F.Flash.state c.check_numbers.new.flash in
    looks_more f mid (g.F.Flash.state c.rule_bodies.new.flash) (looks_by f mid _ c.check_numbers.ensures.reads) c.rule_bodies.ensures.looks

pub returns-in-Ok-clause-room : goal.returns-in-Ok-clause-room
returns-in-Ok-clause-room g c = c.rule_bodies.ensures.room

pub returns-in-Ok-clause-within : goal.returns-in-Ok-clause-within
returns-in-Ok-clause-within g c = c.rule_bodies.ensures.within

pub returns-in-Ok-clause-numbers : goal.returns-in-Ok-clause-numbers
returns-in-Ok-clause-numbers g c =
    let f = g.F.Flash.state c.args.flash.now in
    let mid = g.F.Flash.state c.check_numbers.new.flash in
    let holds = g.B.Form.holds c.args.form.now in
    let r = shape_of c.args.ring.now in
    let m = c.args.marks in
    let n : Numbering = record { marks = m; next = c.in-Ok.next } in
    let first = looks_by f mid _ c.check_numbers.ensures.reads in
    if_ok_both _ _ _ c.rule_bodies.result
    (λ answer none bodies told. subst (λ (number : Option ℕ). NumbersTold holds (page_at f) r m c.args.at_least number answer.body answer.numbering) (sym none) (record {
      next = c.in-Ok.next;
      numbers = c.in-Ok.ensures.numbers told;
      bodies = seen f mid (λ (page : ℕ → List ℕ). BodiesTold holds page r n answer.body answer.numbering) first bodies told;
    }))
    c.rule_bodies.ensures.number c.rule_bodies.ensures.bodies

pub returns-in-Ok-clause-fails : goal.returns-in-Ok-clause-fails
returns-in-Ok-clause-fails g c =
    let f = g.F.Flash.state c.args.flash.now in
    let mid = g.F.Flash.state c.check_numbers.new.flash in
    let late = g.F.Flash.state c.rule_bodies.new.flash in
    IfErr-weaker c.rule_bodies.result (λ e. ReadFails mid e late) (λ e. ReadFails f e late)
    (λ e. fails_later f mid late e (looks_by f mid _ c.check_numbers.ensures.reads)) c.rule_bodies.ensures.fails

pub returns-in-Err-Broken-clause-looks : goal.returns-in-Err-Broken-clause-looks
returns-in-Err-Broken-clause-looks g c = looks_by (g.F.Flash.state c.args.flash.now) (g.F.Flash.state c.check_numbers.new.flash) _ c.check_numbers.ensures.reads

pub returns-in-Err-Broken-clause-room : goal.returns-in-Err-Broken-clause-room
returns-in-Err-Broken-clause-room g c = c.check_numbers.ensures.room

pub returns-in-Err-Broken-clause-numbers : goal.returns-in-Err-Broken-clause-numbers
returns-in-Err-Broken-clause-numbers g c = λ told. rw c.in-Err-Broken.breach-is (((rw c.in-Err-Broken.field-0-is at c.in-Err-Broken.ensures.broken) told).1, refl, refl)

pub returns-in-Err-Flash-clause-looks : goal.returns-in-Err-Flash-clause-looks
returns-in-Err-Flash-clause-looks g c = looks_by (g.F.Flash.state c.args.flash.now) (g.F.Flash.state c.check_numbers.new.flash) _ c.check_numbers.ensures.reads

pub returns-in-Err-Flash-clause-room : goal.returns-in-Err-Flash-clause-room
returns-in-Err-Flash-clause-room g c = c.check_numbers.ensures.room

pub returns-in-Err-Flash-clause-fails : goal.returns-in-Err-Flash-clause-fails
returns-in-Err-Flash-clause-fails g c = rw c.in-Err-Flash.fault-is (rw c.in-Err-Flash.field-0-is at c.in-Err-Flash.ensures.fails)

use Rattle.std.proofs.Common.{◌≡◌, ◌<◌, ℕ, Bool, true, false, IsTrue, Ok, Err, List, length, refl, sym, subst, arith, rules}
use Rattle.fl_base.specs.Causes.{Appends}
use Rattle.fl_image_check.specs.Checking.{FindsBy, TableEnds, Tells, TellsOne}
use Rattle.fl_frame.proofs.ReadsInTurn.{looks_more, looks_none}
use Rattle.fl_image_check.proofs.ToldTables.{over-on, sound-none, sound-next, unsound-next, ends-all, ends-failed, ends-fault, not-first}
use Rattle.fl_image_check.proofs.tables.check_tables.Goals as goal

pub loop-i-init : goal.loop-i-init
loop-i-init g c = record {
  looks = looks_none (g.F.Flash.state c.args.flash.now);
  told = λ t. sound-none c.args.extent (FindsBy c.args.extent g.C.CheckTable.finds g.C.CheckTable.rules) c.args.config.now (g.F.Flash.state c.args.flash.now).media.content (g.K.Sink.written c.args.out.now);
  first = λ e. refl;
  later = omega arith;
}

pub tell_table-requires-clause-over : goal.tell_table-requires-clause-over
tell_table-requires-clause-over g c = over-on c.args.config.now (g.F.Flash.state c.args.flash.now) (g.F.Flash.state c.loop-i.flash) c.requires.over c.loop-i.invariant.looks

pub returns-in-Err-clause-ends : goal.returns-in-Err-clause-ends
returns-in-Err-clause-ends g c t =
    let finds = g.C.CheckTable.finds in
    let by_rules = g.C.CheckTable.rules in
    let lines = c.args.config.now in
    let bytes = (g.F.Flash.state c.args.flash.now).media.content in
    let extent = c.args.extent in
    let all = c.loop-i.sound in
    let n = c.loop-i.i in
    let first = g.K.Sink.written c.args.out.now in
    let mid = g.K.Sink.written c.loop-i.out in
    let now = g.K.Sink.written c.tell_table.new.out in
    let looks = c.loop-i.invariant.looks in
    let told : IsTrue (g.F.Flash.state c.loop-i.flash).media.tells = subst IsTrue (sym looks.goes.tells) t in
    let lt : n < length lines.plans = search (rules, arith) in
    ends-failed finds by_rules lines bytes first mid now n all extent c.in-Err.status c.loop-i.invariant.first lt (c.loop-i.invariant.told t) c.in-Err.ensures.statuses
    (subst (λ (l : List ℕ). TableEnds extent (FindsBy extent finds by_rules) lines l n mid now (Err c.in-Err.status)) looks.same (c.in-Err.ensures.told told))

pub returns-then-not-goes_on-clause-ends : goal.returns-then-not-goes_on-clause-ends
returns-then-not-goes_on-clause-ends g c t =
    let finds = g.C.CheckTable.finds in
    let by_rules = g.C.CheckTable.rules in
    let lines = c.args.config.now in
    let bytes = (g.F.Flash.state c.args.flash.now).media.content in
    let extent = c.args.extent in
    let all = c.loop-i.sound in
    let n = c.loop-i.i in
    let first = g.K.Sink.written c.args.out.now in
    let mid = g.K.Sink.written c.loop-i.out in
    let now = g.K.Sink.written c.tell_table.new.out in
    let looks = c.loop-i.invariant.looks in
    let told : IsTrue (g.F.Flash.state c.loop-i.flash).media.tells = subst IsTrue (sym looks.goes.tells) t in
    let one : TellsOne extent (FindsBy extent finds by_rules) lines bytes n false (λ text. Appends mid now text) =
    subst (λ (b : Bool). TellsOne extent (FindsBy extent finds by_rules) lines bytes n b (λ text. Appends mid now text)) c.if-is_sound.false
    (subst (λ (l : List ℕ). TableEnds extent (FindsBy extent finds by_rules) lines l n mid now (Ok c.in-Ok.is_sound)) looks.same (c.in-Ok.ensures.told told)) in
    ends-fault finds by_rules lines bytes first mid now n all extent c.if-not-goes_on.ensures.ends c.loop-i.invariant.first (c.loop-i.invariant.told t) one

pub loop-i-preserved-then-is_sound : goal.loop-i-preserved-then-is_sound
loop-i-preserved-then-is_sound g c = record {
  looks = looks_more (g.F.Flash.state c.args.flash.now) (g.F.Flash.state c.loop-i.flash) (g.F.Flash.state c.tell_table.new.flash) c.loop-i.invariant.looks c.tell_table.ensures.looks;
  told = λ t.
      let finds = g.C.CheckTable.finds in
      let by_rules = g.C.CheckTable.rules in
      let lines = c.args.config.now in
      let bytes = (g.F.Flash.state c.args.flash.now).media.content in
      let extent = c.args.extent in
      let all = c.loop-i.sound in
      let n = c.loop-i.i in
      let first = g.K.Sink.written c.args.out.now in
      let mid = g.K.Sink.written c.loop-i.out in
      let now = g.K.Sink.written c.tell_table.new.out in
      let looks = c.loop-i.invariant.looks in
      let told : IsTrue (g.F.Flash.state c.loop-i.flash).media.tells = subst IsTrue (sym looks.goes.tells) t in
      let one : TellsOne extent (FindsBy extent finds by_rules) lines bytes n true (λ text. Appends mid now text) =
      subst (λ (b : Bool). TellsOne extent (FindsBy extent finds by_rules) lines bytes n b (λ text. Appends mid now text)) c.if-is_sound.true
      (subst (λ (l : List ℕ). TableEnds extent (FindsBy extent finds by_rules) lines l n mid now (Ok c.in-Ok.is_sound)) looks.same (c.in-Ok.ensures.told told)) in
      sound-next extent (FindsBy extent finds by_rules) lines bytes first mid now n all (c.loop-i.invariant.told t) one;
  first = c.loop-i.invariant.first;
  later = omega (arith, c.loop-i.invariant.later, c.tell_table.ensures.later);
}

pub loop-i-preserved : goal.loop-i-preserved
loop-i-preserved g c = record {
  looks = looks_more (g.F.Flash.state c.args.flash.now) (g.F.Flash.state c.loop-i.flash) (g.F.Flash.state c.tell_table.new.flash) c.loop-i.invariant.looks c.tell_table.ensures.looks;
  told = λ t.
      let finds = g.C.CheckTable.finds in
      let by_rules = g.C.CheckTable.rules in
      let lines = c.args.config.now in
      let bytes = (g.F.Flash.state c.args.flash.now).media.content in
      let extent = c.args.extent in
      let all = c.loop-i.sound in
      let n = c.loop-i.i in
      let first = g.K.Sink.written c.args.out.now in
      let mid = g.K.Sink.written c.loop-i.out in
      let now = g.K.Sink.written c.tell_table.new.out in
      let looks = c.loop-i.invariant.looks in
      let told : IsTrue (g.F.Flash.state c.loop-i.flash).media.tells = subst IsTrue (sym looks.goes.tells) t in
      let one : TellsOne extent (FindsBy extent finds by_rules) lines bytes n false (λ text. Appends mid now text) =
      subst (λ (b : Bool). TellsOne extent (FindsBy extent finds by_rules) lines bytes n b (λ text. Appends mid now text)) c.if-is_sound.false
      (subst (λ (l : List ℕ). TableEnds extent (FindsBy extent finds by_rules) lines l n mid now (Ok c.in-Ok.is_sound)) looks.same (c.in-Ok.ensures.told told)) in
      unsound-next extent (FindsBy extent finds by_rules) lines bytes first mid now n all (c.loop-i.invariant.told t) one;
  first = λ e. absurd (not-first c.args.extent c.if-not-goes_on.ensures.on e);
  later = omega (arith, c.loop-i.invariant.later, c.tell_table.ensures.later);
}

pub returns-clause-ends : goal.returns-clause-ends
returns-clause-ends g c t =
    let finds = g.C.CheckTable.finds in
    let by_rules = g.C.CheckTable.rules in
    let lines = c.args.config.now in
    let bytes = (g.F.Flash.state c.args.flash.now).media.content in
    let extent = c.args.extent in
    let all = c.loop-i.sound in
    let n = c.loop-i.i in
    let first = g.K.Sink.written c.args.out.now in
    let now = g.K.Sink.written c.loop-i.out in
    let same : n ≡ length lines.plans = search (rules, arith) in
    let told = subst (λ (k : ℕ). Tells extent (FindsBy extent finds by_rules) lines bytes first now k all) same (c.loop-i.invariant.told t) in
    rw c.whole_status.ensures (ends-all finds by_rules lines bytes first now extent all c.loop-i.invariant.first told)

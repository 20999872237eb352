use Rattle.std.proofs.Common.{◌+◌, ◌*◌, true, Ok, Err, refl, sym, subst}
use Rattle.fl_flash.specs.declared.flash.FlashFault.TheVariants.{Media}
use Rattle.fl_flash.specs.declared.media.PairFailed.{PairFailed}
use Rattle.fl_flash.specs.declared.media.PairFailed.TheVariants.{Second}
use Rattle.fl_flash.specs.Flash.{FlashState, ProgramsPair}
use Rattle.fl_flash.specs.Media.{next_count}
use Rattle.fl_flash.specs.Programs.{ProgramsBoth}
use Rattle.fl_flash.specs.Sim.{on_medium}
use Rattle.fl_flash.proofs.Pairs.{first_fails, both_done, second_fails}
use Rattle.fl_flash.proofs.sim.SimFlashFlash.program_pair.Goals as goal

pub returns-in-Ok : goal.returns-in-Ok
returns-in-Ok g c =
    let self = c.args.self.now in
    let before : FlashState = on_medium self.geometry self.blocks self.start self.media.ghost_name true self.armed self.cuts self.work (g.M.Media.state self.media.now) in
    rw (c.saturating_add-self-in-Ok.ensures, c.if-not-may_join.ensures.on refl)
    (subst (λ (f : FlashState). ProgramsPair before c.args.page c.args.first.now c.args.second.now (Ok c.in-Ok.field-0) (record f { work = record f.work { programs = next_count f.work.programs } })) (sym c.program_two-done.ensures.same)
    (rw (c.saturating_add-self.ensures, c.if-not-may_join.ensures.on refl)
    (both_done self.geometry self.blocks self.start self.media.ghost_name self.armed self.cuts self.work (g.M.Media.state self.media.now) (c.if-not-may_join.ensures.unarmed refl) c.args.page c.args.first.now c.args.second.now
    c.requires.exists c.requires.range self.reach (g.M.Media.state c.program_two-done.new.self.media.now) (Ok c.in-Ok.field-0) c.in-Ok.ensures.both c.in-Ok.field-0 refl)))

pub returns-in-Err-First : goal.returns-in-Err-First
returns-in-Err-First g c =
    let self = c.args.self.now in
    let old = g.M.Media.state self.media.now in
    let new = g.M.Media.state c.program_two-done.new.self.media.now in
    let at = self.start + c.args.page * self.geometry.page in
    let ended : ProgramsBoth old at c.args.first.now c.args.second.now (Err c.in-Err-First.field-0) new = rw c.in-Err-First.is at c.program_two-done.ensures.both in
    let which = rw c.in-Err-First.is at c.in-Err-First.field-0-is in
    let failed = subst (λ (e : PairFailed). ProgramsBoth old at c.args.first.now c.args.second.now (Err e) new) which ended in
    rw (c.program_two-done.ensures.same, c.saturating_add-self.ensures, c.if-not-may_join.ensures.on refl)
    (first_fails self.geometry self.blocks self.start self.media.ghost_name self.armed self.cuts self.work old (c.if-not-may_join.ensures.unarmed refl) c.args.page c.args.first.now c.args.second.now
    c.requires.exists c.requires.range self.reach new failed)

pub returns-in-Err-Second : goal.returns-in-Err-Second
returns-in-Err-Second g c =
    let self = c.args.self.now in
    let old = g.M.Media.state self.media.now in
    let new = g.M.Media.state c.program_two-done.new.self.media.now in
    let at = self.start + c.args.page * self.geometry.page in
    let before : FlashState = on_medium self.geometry self.blocks self.start self.media.ghost_name true self.armed self.cuts self.work old in
    let ended : ProgramsBoth old at c.args.first.now c.args.second.now (Err c.in-Err-Second.field-0) new = rw c.in-Err-Second.is at c.program_two-done.ensures.both in
    let which = rw c.in-Err-Second.is at c.in-Err-Second.field-0-is in
    let failed = subst (λ (e : PairFailed). ProgramsBoth old at c.args.first.now c.args.second.now (Err e) new) which ended in
    rw (c.saturating_add-self-in-Err-Second.ensures, c.if-not-may_join.ensures.on refl)
    (subst (λ (f : FlashState). ProgramsPair before c.args.page c.args.first.now c.args.second.now (Err Media) (record f { work = record f.work { programs = next_count f.work.programs } })) (sym c.program_two-done.ensures.same)
    (rw (c.saturating_add-self.ensures, c.if-not-may_join.ensures.on refl)
    (second_fails self.geometry self.blocks self.start self.media.ghost_name self.armed self.cuts self.work old (c.if-not-may_join.ensures.unarmed refl) c.args.page c.args.first.now c.args.second.now
    c.requires.exists c.requires.range self.reach new (Err Second) failed Second refl)))

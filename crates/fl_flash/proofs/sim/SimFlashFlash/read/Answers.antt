use Rattle.std.proofs.Common.{ℕ, ◌+◌, ◌*◌, ◌^◌, ◌≤◌, ◌<◌, List, length, sym, ◌∙◌, ap, subst, rules}
use Rattle.fl_flash.specs.declared.flash.Work.{Work}
use Rattle.fl_flash.specs.Places.{page_of, extent}
use Rattle.fl_flash.specs.Sim.{on_medium, AreBlank}
use Rattle.fl_flash.proofs.Pages.{page_within}
use Rattle.fl_flash.proofs.PowerOff.{read_off}
use Rattle.fl_flash.proofs.Seen.{rows_fit, begin_fits, whole_range}
use Rattle.fl_flash.proofs.SimReads.{reads_ok, reads_failed}
use Rattle.fl_flash.proofs.sim.SimFlashFlash.read.Goals as goal

pub returns-then-not-self : goal.returns-then-not-self
returns-then-not-self g c =
    let self = c.args.self.now in
    read_off (on_medium self.geometry self.blocks self.start self.media.ghost_name self.on self.armed self.cuts self.work (g.M.Media.state self.media.now)) c.if-not-self.true c.args.page _ _ (search rules) (search rules)

pub overflow_mul-at : goal.overflow_mul-at
overflow_mul-at g c =
    let self = c.args.self.now in
    rows_fit self.start self.geometry.page c.args.page (self.blocks * self.geometry.block) 0 self.geometry.page _ c.requires.exists (whole_range self.geometry.page) self.reach self.fits

pub overflow_add-at : goal.overflow_add-at
overflow_add-at g c =
    let self = c.args.self.now in
    begin_fits self.start self.geometry.page c.args.page (self.blocks * self.geometry.block) 0 self.geometry.page _ c.requires.exists (whole_range self.geometry.page) self.reach self.fits

pub load-requires : goal.load-requires
load-requires g c =
    let self = c.args.self.now in
    subst (λ (n : ℕ). self.start + c.args.page * self.geometry.page + n ≤ length (g.M.Media.state self.media.now).content) (sym c.requires.room)
    (page_within self.start self.geometry.page c.args.page (self.blocks * self.geometry.block) _ c.requires.exists self.reach)

pub invariant_of-self : goal.invariant_of-self
invariant_of-self g c =
    let self = c.args.self.now in
    let read = c.load.ensures.read in
    record {
      reach = subst (λ (l : List ℕ). self.start + extent self.geometry self.blocks ≤ length l) (sym read.content) self.reach;
      fits = subst (λ (l : List ℕ). length l < 2 ^ 64) (sym read.content) self.fits;
      served = self.served;
      room = self.room;
      flags = self.flags;
      known = λ told. subst (λ (l : List ℕ). AreBlank self.clean.items (self.blocks * self.geometry.block) (page_of l self.start self.geometry.page) self.geometry.page) (sym read.content) (self.known (sym read.tells ∙ told));
    }

pub returns-in-Ok : goal.returns-in-Ok
returns-in-Ok g c =
    let self = c.args.self.now in
    rw c.if-not-self.false
    (reads_ok self.geometry self.blocks self.start self.media.ghost_name self.armed self.cuts self.work _ _ _ c.args.page _ c.load.new.self c.load.result
    (ap (λ (n : ℕ). let w : Work = record self.work { reads = n } in w) c.saturating_add-self.ensures) c.load.ensures.read c.load.ensures.size c.requires.room c.in-Ok.field-0 c.in-Ok.is c.in-Ok.ensures.holds)

pub returns-in-Err : goal.returns-in-Err
returns-in-Err g c =
    let self = c.args.self.now in
    rw c.if-not-self.false
    (reads_failed self.geometry self.blocks self.start self.media.ghost_name self.armed self.cuts self.work _ _ _ c.args.page _ c.load.new.self c.load.result
    (ap (λ (n : ℕ). let w : Work = record self.work { reads = n } in w) c.saturating_add-self.ensures) c.load.ensures.read c.load.ensures.size c.requires.room c.in-Err.field-0 c.in-Err.is c.in-Err.ensures.none)

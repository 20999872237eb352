use Rattle.std.proofs.Common.{Ok, Err, refl, sym, ◌∙◌, ap, subst, arith}
use Rattle.fl_base.specs.declared.types.Geometry.{Geometry}
use Rattle.fl_ring.specs.Mounting as ring_mounting
use Rattle.fl_ring.specs.Mounting.{shape_at, HasNumbers, IsGood}
use Rattle.fl_ring.specs.Numbers.{renumbered}
use Rattle.fl_ring.specs.declared.fault.RingFault.{RingFault}
use Rattle.fl_var.proofs.States.{state_of}
use Rattle.std.proofs.lemmas.Result.{err_from_is_err_and}
use Rattle.fl_var.proofs.MountsInTable.{few-read, good, mount-well, mount-badly, mount-fault}
use Rattle.fl_var.proofs.SealsInTable.{pages-size}
use Rattle.fl_var.proofs.var_data.VarData.mount.Goals as goal

pub returns-in_err-ring-clause-ends : goal.returns-in_err-ring-clause-ends
returns-in_err-ring-clause-ends g c = λ plan table rose device watched rests least_is.
    let v = c.args.self.now in
    let f = g.F.Flash.state c.args.flash.now in
    let h = g.F.Flash.state c.mount.new.flash in
    let lies = c.requires.lies in
    let e = c.in_err-ring.field-0.0 in
    let goes = c.in_err-ring.ensures.mounts.beside.goes in
    let sizes = pages-size v f (g.met.F.Flash.reaches c.args.flash.now) lies.geometry lies.within in
    let later = pages-size v h (g.met.F.Flash.reaches c.mount.new.flash) (goes.geometry ∙ lies.geometry) (omega (arith, goes.blocks, lies.within)) in
    let s = state_of rests.ring table.var_pages in
    let is_good = subst (λ (x : Geometry). IsGood f (shape_at v.place x) c.args.at_least s) (sym lies.geometry) (good v f h plan table c.args.at_least rests least_is sizes later watched.told) in
    let ends = subst (λ (x : Geometry). ring_mounting.MountEnds (shape_at v.place x) rose device (renumbered (shape_at v.place x) c.args.at_least s) (Err e) h) lies.geometry (c.in_err-ring.ensures.mounts.ends s rose device is_good watched) in
    let p = err_from_is_err_and c.from_residual.result c.from_residual.ensures.1 in
    mount-fault plan table rose device v _ h _ _ c.from_residual.result e (p.1 ∙ ap (λ (x : RingFault). Err x) p.2) ends
    (λ fault. mount-badly v f h plan table c.args.at_least rests least_is sizes later rose device fault v)

pub returns-clause-ends : goal.returns-clause-ends
returns-clause-ends g c = λ plan table rose device watched rests least_is.
    let v = c.args.self.now in
    let f = g.F.Flash.state c.args.flash.now in
    let h = g.F.Flash.state c.mount.new.flash in
    let lies = c.requires.lies in
    let goes = c.in_ok-ring.ensures.mounts.beside.goes in
    let sizes = pages-size v f (g.met.F.Flash.reaches c.args.flash.now) lies.geometry lies.within in
    let later = pages-size v h (g.met.F.Flash.reaches c.mount.new.flash) (goes.geometry ∙ lies.geometry) (omega (arith, goes.blocks, lies.within)) in
    let s = state_of rests.ring table.var_pages in
    let is_good = subst (λ (x : Geometry). IsGood f (shape_at v.place x) c.args.at_least s) (sym lies.geometry) (good v f h plan table c.args.at_least rests least_is sizes later watched.told) in
    let ends = subst (λ (x : Geometry). ring_mounting.MountEnds (shape_at v.place x) rose device (renumbered (shape_at v.place x) c.args.at_least s) (Ok c.in_ok-ring.ring) h) lies.geometry (c.in_ok-ring.ensures.mounts.ends s rose device is_good watched) in
    mount-well v f h plan table c.args.at_least rests least_is sizes later rose device _ c.in_ok-ring.ring ends refl (record { geometry = refl; place = refl }) refl c.clear.ensures.content

pub returns-clause-found : goal.returns-clause-found
returns-clause-found g c = record {
  ring = c.in_ok-ring.ring;
  ring_is = refl;
  numbers = subst (λ (x : Geometry). HasNumbers (g.F.Flash.state c.args.flash.now) (shape_at c.args.self.now.place x) c.args.at_least c.in_ok-ring.ring (g.F.Flash.state c.mount.new.flash)) c.requires.lies.geometry c.in_ok-ring.ensures.mounts.found;
}

pub returns-in_err-ring-clause-reads : goal.returns-in_err-ring-clause-reads
returns-in_err-ring-clause-reads g c = λ plan table told rests.
    let v = c.args.self.now in
    let f = g.F.Flash.state c.args.flash.now in
    let lies = c.requires.lies in
    few-read v f (g.F.Flash.state c.mount.new.flash) plan table rests lies.geometry (pages-size v f (g.met.F.Flash.reaches c.args.flash.now) lies.geometry lies.within) (λ s on. c.in_err-ring.ensures.mounts.reads s told on)

pub returns-clause-reads : goal.returns-clause-reads
returns-clause-reads g c = λ plan table told rests.
    let v = c.args.self.now in
    let f = g.F.Flash.state c.args.flash.now in
    let lies = c.requires.lies in
    few-read v f (g.F.Flash.state c.mount.new.flash) plan table rests lies.geometry (pages-size v f (g.met.F.Flash.reaches c.args.flash.now) lies.geometry lies.within) (λ s on. c.in_ok-ring.ensures.mounts.reads s told on)

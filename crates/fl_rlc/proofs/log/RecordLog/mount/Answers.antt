use Rattle.std.proofs.Common.{◌≡◌, Ok, Err, refl, sym, ◌∙◌, ap, subst, arith}
use Rattle.std.proofs.lemmas.Result.{err_from_is_err_and}
use Rattle.std.proofs.lemmas.Option.{none-some, same_Some}
use Rattle.fl_base.specs.declared.types.Geometry.{Geometry}
use Rattle.fl_flash.specs.Flash.{page_at}
use Rattle.fl_model.specs.Table.{log_pages}
use Rattle.fl_ring.specs.Mounting as ring_mounting
use Rattle.fl_ring.specs.Mounting.{shape_at, HasNumbers, IsGood}
use Rattle.fl_ring.specs.Newest.{NewestAmong}
use Rattle.fl_ring.specs.Numbers.{renumbered}
use Rattle.fl_ring.specs.Place.{next_of, oldest_of, shape_of}
use Rattle.fl_ring.specs.Ring.{Shape}
use Rattle.fl_ring.specs.declared.fault.RingFault.{RingFault}
use Rattle.fl_ring.specs.declared.ring.Ring.{Ring}
use Rattle.fl_rlc.proofs.MountsInTable.{few-read, good, mount-well, mount-badly, mount-fault}
use Rattle.fl_rlc.proofs.SealsInTable.{pages-size}
use Rattle.fl_rlc.proofs.States.{state_of}
use Rattle.fl_rlc.proofs.Writers.{kept-clear}
use Rattle.fl_rlc.proofs.log.RecordLog.mount.Goals as goal

pub invariant_of-self : goal.invariant_of-self
invariant_of-self g c =
    let v = c.args.self.now in
    let k = kept-clear v.rows c.clear.new.self c.clear.ensures.exact c.clear.ensures.size (record { begin = v.rows_begin; room = v.rows_room; rest = v.blank_rest }) in
    record { served = v.served; some_blocks = v.some_blocks; body = omega (arith, c.clear.ensures.size, v.body); rows_begin = k.begin; rows_room = k.room; blank_rest = k.rest; lies = λ r is. absurd (none-some r is) }

pub invariant_of-self-2 : goal.invariant_of-self-2
invariant_of-self-2 g c =
    let v = c.args.self.now in
    let k = kept-clear v.rows c.clear.new.self c.clear.ensures.exact c.clear.ensures.size (record { begin = v.rows_begin; room = v.rows_room; rest = v.blank_rest }) in
    record {
      served = v.served;
      some_blocks = v.some_blocks;
      body = omega (arith, c.clear.ensures.size, v.body);
      rows_begin = k.begin;
      rows_room = k.room;
      blank_rest = k.rest;
      lies = λ r is. subst (λ (x : Ring). shape_of x ≡ shape_at v.place v.geometry) (same_Some _ _ is) (c.in_ok-ring.ensures.mounts.shape ∙ ap (shape_at v.place) c.requires.lies.geometry);
    }

pub returns-in_err-ring-clause-ends : goal.returns-in_err-ring-clause-ends
returns-in_err-ring-clause-ends g c = λ first plan table rose device watched rests.
    let v = c.args.self.now in
    let f = g.F.Flash.state c.args.flash.now in
    let h = g.F.Flash.state c.mount_with_newest.new.flash in
    let lies = c.requires.lies in
    let e = c.in_err-ring.field-0.0 in
    let goes = c.in_err-ring.ensures.mounts.beside.goes in
    let sizes = pages-size v f (g.met.F.Flash.reaches c.args.flash.now) lies.geometry lies.within in
    let later = pages-size v h (g.met.F.Flash.reaches c.mount_with_newest.new.flash) (goes.geometry ∙ lies.geometry) (omega (arith, goes.blocks, lies.within)) in
    let s = state_of plan rests.ring (log_pages table) in
    let is_good = subst (λ (x : Geometry). IsGood f (shape_at v.place x) 0 s) (sym lies.geometry) (good v f h first plan table rests sizes later watched.told) in
    let ends = subst (λ (x : Geometry). ring_mounting.MountEnds (shape_at v.place x) rose device (renumbered (shape_at v.place x) 0 s) (Err e) h) lies.geometry (c.in_err-ring.ensures.mounts.ends s rose device is_good watched) in
    let p = err_from_is_err_and c.from_residual.result c.from_residual.ensures.1 in
    mount-fault first plan table rose device v _ h _ _ c.from_residual.result e (p.1 ∙ ap (λ (x : RingFault). Err x) p.2) ends
    (λ fault. mount-badly v f h first plan table rests sizes later rose device fault v)

pub returns-clause-ends : goal.returns-clause-ends
returns-clause-ends g c = λ first plan table rose device watched rests.
    let v = c.args.self.now in
    let f = g.F.Flash.state c.args.flash.now in
    let h = g.F.Flash.state c.mount_with_newest.new.flash in
    let lies = c.requires.lies in
    let goes = c.in_ok-ring.ensures.mounts.beside.goes in
    let sizes = pages-size v f (g.met.F.Flash.reaches c.args.flash.now) lies.geometry lies.within in
    let later = pages-size v h (g.met.F.Flash.reaches c.mount_with_newest.new.flash) (goes.geometry ∙ lies.geometry) (omega (arith, goes.blocks, lies.within)) in
    let s = state_of plan rests.ring (log_pages table) in
    let is_good = subst (λ (x : Geometry). IsGood f (shape_at v.place x) 0 s) (sym lies.geometry) (good v f h first plan table rests sizes later watched.told) in
    let ends = subst (λ (x : Geometry). ring_mounting.MountEnds (shape_at v.place x) rose device (renumbered (shape_at v.place x) 0 s) (Ok c.in_ok-ring.ring) h) lies.geometry (c.in_ok-ring.ensures.mounts.ends s rose device is_good watched) in
    mount-well v f h first plan table rests sizes later rose device c.in_ok-ring.newest _ c.in_ok-ring.ring ends refl (record { geometry = refl; place = refl }) refl

pub returns-clause-found : goal.returns-clause-found
returns-clause-found g c =
    let v = c.args.self.now in
    let f = g.F.Flash.state c.args.flash.now in
    let h = g.F.Flash.state c.mount_with_newest.new.flash in
    let ring = c.in_ok-ring.ring in
    record {
      ring = c.in_ok-ring.ring;
      ring_is = refl;
      numbers = subst (λ (x : Geometry). HasNumbers f (shape_at v.place x) 0 c.in_ok-ring.ring h) c.requires.lies.geometry c.in_ok-ring.ensures.mounts.found;
      newest_is = λ told. subst (λ (r : Shape). NewestAmong (page_at h) r (oldest_of c.in_ok-ring.ring) (next_of c.in_ok-ring.ring) c.in_ok-ring.newest) (c.in_ok-ring.ensures.mounts.shape ∙ ap (shape_at v.place) c.requires.lies.geometry) (c.in_ok-ring.ensures.newest told);
    }

pub returns-in_err-ring-clause-reads : goal.returns-in_err-ring-clause-reads
returns-in_err-ring-clause-reads g c = λ first plan table told rests.
    let v = c.args.self.now in
    let f = g.F.Flash.state c.args.flash.now in
    let lies = c.requires.lies in
    few-read v f (g.F.Flash.state c.mount_with_newest.new.flash) first plan table rests lies.geometry (pages-size v f (g.met.F.Flash.reaches c.args.flash.now) lies.geometry lies.within)
    (λ s on. c.in_err-ring.ensures.mounts.reads s told on)

pub returns-clause-reads : goal.returns-clause-reads
returns-clause-reads g c = λ first plan table told rests.
    let v = c.args.self.now in
    let f = g.F.Flash.state c.args.flash.now in
    let lies = c.requires.lies in
    few-read v f (g.F.Flash.state c.mount_with_newest.new.flash) first plan table rests lies.geometry (pages-size v f (g.met.F.Flash.reaches c.args.flash.now) lies.geometry lies.within)
    (λ s on. c.in_ok-ring.ensures.mounts.reads s told on)

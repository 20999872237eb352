use Rattle.std.proofs.Common.{rules, ◌≡◌, ℕ, ◌+◌, true, IsTrue, Some, List, length, refl, sym, ◌∙◌, ap, subst, arith, slice_get, length-set, take_all}
use Rattle.std.proofs.lemmas.Option.{slice_get_within}
use Rattle.fl_base.specs.declared.types.Geometry.{Geometry}
use Rattle.fl_base.proofs.Risen.{rose-front, rose-back}
use Rattle.fl_flash.specs.Flash.{page_at}
use Rattle.fl_frame.specs.Watched.{IsWatched}
use Rattle.fl_rlc.specs.Table.{NothingWaits, is_running}
use Rattle.fl_rlc.specs.declared.table.LoggedTable.{LoggedTable}
use Rattle.fl_frame.proofs.CallsInTurn.{goes-same, goes-then}
use Rattle.fl_parts.specs.IndexMount.{FewRepairs}
use Rattle.fl_parts.proofs.MountParts.{mount-cause-later}
use Rattle.fl_store.proofs.Called.{entry-at}
use Rattle.fl_store.specs.Mounting.{MountsInTurn, OutsideStands, repairs_of}
use Rattle.fl_store.specs.Tables.{first_of}
use Rattle.fl_store.specs.declared.tables.Entry.{Entry}
use Rattle.fl_store.proofs.InTurn.{turn-before, turn-more, repairs-none, repairs-more, outside-none, outside-more}
use Rattle.fl_store.proofs.TablesLie.{each-more, lie-with}
use Rattle.fl_store.proofs.Planned.{names-still, names-with, plans-still, plans-with}
use Rattle.fl_store.proofs.MountedSoFar.{mounted-none, mounted-more, mounted-err, mounted-all, own, was, was_at, stood}
use Rattle.fl_store.proofs.TableRepairs.{known-before, known-there, left-next, left-none}
use Rattle.fl_store.proofs.TablesReads.{reads-more, reads-most, limit-more, limit-most}
use Rattle.fl_store.proofs.MountStops.{name-after, stops-at}
use Rattle.fl_store.proofs.TablesChanged.{set-elsewhere}
use Rattle.fl_store.proofs.tables.Tables.mount.Goals as goal

pub loop-i-init : goal.loop-i-init
loop-i-init g c = record {
  lie = c.requires.lie;
  room = c.requires.room;
  same_room = refl;
  as_many = refl;
  same = plans-still c.args.self.now.entries.items;
  names = names-still c.args.self.now.entries.items;
  goes = goes-same _;
  power = λ on. on;
  running = λ j entry lt e. absurd (omega (arith, lt));
  none = λ j entry lt e. absurd (omega (arith, lt));
  ahead = λ j le. refl;
  reads = λ told. omega arith;
  in_turn = λ told. refl;
  repairs = repairs-none c.args.self.now.entries.items (g.F.Flash.state c.args.flash.now);
  outside = λ told. outside-none c.args.self.now.entries.items (page_at (g.F.Flash.state c.args.flash.now));
  leaves = λ told plans tables stand known. left-none plans (g.F.Flash.state c.args.flash.now).geometry (page_at (g.F.Flash.state c.args.flash.now));
  so_far = λ plans tables rose device told on counts stand risen. (mounted-none plans tables rose device c.args.self.now.entries.items (g.F.Flash.state c.args.flash.now) counts on stand, omega arith);
}

pub mount-requires : goal.mount-requires
mount-requires g c =
    (search rules, (c.loop-i.invariant.lie c.loop-i.i c.index_mut.result.now (entry-at c.loop-i.self.entries.items c.loop-i.i c.index_mut.result.now (omega (arith, c.loop-i-test.true, c.len-i-end.ensures, c.args.self.now.entries.ok.0, c.loop-i.invariant.as_many)) c.index_mut.ensures.value), c.loop-i.invariant.same_room ∙ (c.requires.room ∙ ap (λ (g : Geometry). g.page) (sym c.loop-i.invariant.goes.geometry))))

pub returns-in-Err-clause-lie : goal.returns-in-Err-clause-lie
returns-in-Err-clause-lie g c =
    lie-with c.loop-i.self.entries.items c.loop-i.i c.index_mut.result.now c.mount.new.self (g.F.Flash.state c.loop-i.flash) (g.F.Flash.state c.mount.new.flash) (entry-at c.loop-i.self.entries.items c.loop-i.i c.index_mut.result.now (omega (arith, c.loop-i-test.true, c.len-i-end.ensures, c.args.self.now.entries.ok.0, c.loop-i.invariant.as_many)) c.index_mut.ensures.value) c.mount.ensures.flash.goes c.loop-i.invariant.lie c.mount.ensures.memory.lies

pub returns-in-Err-clause-ends : goal.returns-in-Err-clause-ends
returns-in-Err-clause-ends g c = λ plans tables rose device watched stand.
    let f = g.F.Flash.state c.args.flash.now in
    let m = g.F.Flash.state c.loop-i.flash in
    let n = g.F.Flash.state c.mount.new.flash in
    let i = c.loop-i.invariant in
    let p = c.mount.ensures in
    let here = entry-at c.loop-i.self.entries.items c.loop-i.i c.index_mut.result.now (omega (arith, c.loop-i-test.true, c.len-i-end.ensures, c.args.self.now.entries.ok.0, c.loop-i.invariant.as_many)) c.index_mut.ensures.value in
    let told : IsTrue m.media.tells = subst IsTrue (sym i.goes.tells) watched.told in
    let so_far = (i.so_far plans tables rose device watched.told watched.on watched.counts stand (λ r. watched.risen (rose-front f.media.faults m.media.faults n.media.faults p.flash.goes.faults r))).0 in
    let sees : IsWatched m n rose so_far.now = record { told = told; on = so_far.power; risen = λ r. watched.risen (rose-back f.media.faults m.media.faults n.media.faults i.goes.faults r); counts = so_far.counts } in
    let at = own plans tables rose device c.loop-i.i c.loop-i.self.entries.items c.index_mut.result.now c.mount.new.self m n so_far here p.flash.goes p.memory.same (p.flash.outside told) in
    let before = was plans tables rose device c.loop-i.i c.loop-i.self.entries.items c.index_mut.result.now c.mount.new.self m n so_far here p.flash.goes p.memory.same (p.flash.outside told) in
    let stands = stood plans tables rose device c.loop-i.i c.loop-i.self.entries.items c.index_mut.result.now c.mount.new.self m n so_far here p.flash.goes p.memory.same (p.flash.outside told) in
    mounted-err plans tables rose device c.loop-i.i c.loop-i.self.entries.items c.index_mut.result.now c.mount.new.self m n so_far here p.flash.goes p.memory.same (p.flash.outside told) c.in-Err.fault
    (c.in-Err.ensures.ends (first_of plans c.loop-i.i) at.plan before rose so_far.now sees stands.planned stands.on_flash)

pub returns-in-Err-clause-limit : goal.returns-in-Err-clause-limit
returns-in-Err-clause-limit g c = λ plans tables rose device watched stand.
    let f = g.F.Flash.state c.args.flash.now in
    let m = g.F.Flash.state c.loop-i.flash in
    let n = g.F.Flash.state c.mount.new.flash in
    let i = c.loop-i.invariant in
    let p = c.mount.ensures in
    let here = entry-at c.loop-i.self.entries.items c.loop-i.i c.index_mut.result.now (omega (arith, c.loop-i-test.true, c.len-i-end.ensures, c.args.self.now.entries.ok.0, c.loop-i.invariant.as_many)) c.index_mut.ensures.value in
    let told : IsTrue m.media.tells = subst IsTrue (sym i.goes.tells) watched.told in
    let first = i.so_far plans tables rose device watched.told watched.on watched.counts stand (λ r. watched.risen (rose-front f.media.faults m.media.faults n.media.faults p.flash.goes.faults r)) in
    let so_far = first.0 in
    let sees : IsWatched m n rose so_far.now = record { told = told; on = so_far.power; risen = λ r. watched.risen (rose-back f.media.faults m.media.faults n.media.faults i.goes.faults r); counts = so_far.counts } in
    let at = own plans tables rose device c.loop-i.i c.loop-i.self.entries.items c.index_mut.result.now c.mount.new.self m n so_far here p.flash.goes p.memory.same (p.flash.outside told) in
    let before = was plans tables rose device c.loop-i.i c.loop-i.self.entries.items c.index_mut.result.now c.mount.new.self m n so_far here p.flash.goes p.memory.same (p.flash.outside told) in
    let stands = stood plans tables rose device c.loop-i.i c.loop-i.self.entries.items c.index_mut.result.now c.mount.new.self m n so_far here p.flash.goes p.memory.same (p.flash.outside told) in
    let here_was = was_at plans tables rose device c.loop-i.i c.loop-i.self.entries.items c.index_mut.result.now c.mount.new.self m n so_far here p.flash.goes p.memory.same (p.flash.outside told) in
    limit-most plans tables (c.loop-i.i + 1) f n
    (limit-more plans tables c.loop-i.i at.plan before c.index_mut.result.now.table (first_of plans c.loop-i.i) f m n at.plan_is here_was stands.planned first.1 (p.flash.reads told)
    (p.limit (first_of plans c.loop-i.i) at.plan before rose so_far.now sees stands.planned stands.on_flash))

pub returns-in-Err-clause-stops : goal.returns-in-Err-clause-stops
returns-in-Err-clause-stops g c =
    let here = entry-at c.loop-i.self.entries.items c.loop-i.i c.index_mut.result.now (omega (arith, c.loop-i-test.true, c.len-i-end.ensures, c.args.self.now.entries.ok.0, c.loop-i.invariant.as_many)) c.index_mut.ensures.value in
    stops-at c.args.self.now.entries.items c.loop-i.self.entries.items c.index_mut.result.now c.mount.new.self (record { at = c.loop-i.i; name = c.index.result.now.name; fault = c.in-Err.fault }) here
    (name-after c.loop-i.self.entries.items c.loop-i.i c.index_mut.result.now c.mount.new.self c.index.result.now here c.index.ensures) c.in-Err.ensures.memory.mounted
    c.loop-i.invariant.running c.loop-i.invariant.ahead

pub returns-in-Err-clause-refused : goal.returns-in-Err-clause-refused
returns-in-Err-clause-refused g c = λ told.
    let i = c.loop-i.invariant in
    let here = entry-at c.loop-i.self.entries.items c.loop-i.i c.index_mut.result.now (omega (arith, c.loop-i-test.true, c.len-i-end.ensures, c.args.self.now.entries.ok.0, c.loop-i.invariant.as_many)) c.index_mut.ensures.value in
    record {
      entry = c.index_mut.result.now;
      here = sym (i.ahead c.loop-i.i (omega arith)) ∙ here;
      named = name-after c.loop-i.self.entries.items c.loop-i.i c.index_mut.result.now c.mount.new.self c.index.result.now here c.index.ensures;
      left = g.F.Flash.state c.loop-i.flash;
      before = turn-before c.loop-i.i c.args.self.now.entries.items c.loop-i.self.entries.items c.index_mut.result.now c.mount.new.self (g.F.Flash.state c.args.flash.now) (g.F.Flash.state c.loop-i.flash) (i.in_turn told);
      refused = c.in-Err.ensures.refused (subst IsTrue (sym i.goes.tells) told);
    }

pub returns-in-Err-clause-repairs : goal.returns-in-Err-clause-repairs
returns-in-Err-clause-repairs g c =
    let i = c.loop-i.invariant in
    repairs-more c.args.self.now.entries.items c.loop-i.i c.index_mut.result.now (g.F.Flash.state c.args.flash.now) (g.F.Flash.state c.loop-i.flash) (g.F.Flash.state c.mount.new.flash)
    (sym (i.ahead c.loop-i.i (omega arith)) ∙ (entry-at c.loop-i.self.entries.items c.loop-i.i c.index_mut.result.now (omega (arith, c.loop-i-test.true, c.len-i-end.ensures, c.args.self.now.entries.ok.0, c.loop-i.invariant.as_many)) c.index_mut.ensures.value)) i.repairs c.mount.ensures.flash.repairs

pub returns-in-Err-clause-outside : goal.returns-in-Err-clause-outside
returns-in-Err-clause-outside g c = λ told.
    let i = c.loop-i.invariant in
    outside-more c.args.self.now.entries.items c.loop-i.i c.index_mut.result.now (page_at (g.F.Flash.state c.args.flash.now)) (page_at (g.F.Flash.state c.loop-i.flash)) (page_at (g.F.Flash.state c.mount.new.flash))
    (sym (i.ahead c.loop-i.i (omega arith)) ∙ (entry-at c.loop-i.self.entries.items c.loop-i.i c.index_mut.result.now (omega (arith, c.loop-i-test.true, c.len-i-end.ensures, c.args.self.now.entries.ok.0, c.loop-i.invariant.as_many)) c.index_mut.ensures.value)) (i.outside told) (c.mount.ensures.flash.outside (subst IsTrue (sym i.goes.tells) told))

pub returns-in-Err-clause-cause : goal.returns-in-Err-clause-cause
returns-in-Err-clause-cause g c =
    mount-cause-later (g.F.Flash.state c.args.flash.now) (g.F.Flash.state c.loop-i.flash) (g.F.Flash.state c.mount.new.flash) c.loop-i.invariant.goes c.loop-i.invariant.power c.in-Err.fault c.in-Err.ensures.flash.cause

pub returns-in-Err-clause-goes : goal.returns-in-Err-clause-goes
returns-in-Err-clause-goes g c = goes-then _ _ _ c.loop-i.invariant.goes c.mount.ensures.flash.goes

pub loop-i-preserved : goal.loop-i-preserved
loop-i-preserved g c =
    let f = g.F.Flash.state c.args.flash.now in
    let m = g.F.Flash.state c.loop-i.flash in
    let n = g.F.Flash.state c.mount.new.flash in
    let i = c.loop-i.invariant in
    let p = c.mount.ensures in
    let here = entry-at c.loop-i.self.entries.items c.loop-i.i c.index_mut.result.now (omega (arith, c.loop-i-test.true, c.len-i-end.ensures, c.args.self.now.entries.ok.0, c.loop-i.invariant.as_many)) c.index_mut.ensures.value in
    let was_here : slice_get c.args.self.now.entries.items c.loop-i.i ≡ Some c.index_mut.result.now = sym (i.ahead c.loop-i.i (omega arith)) ∙ here in
    record {
      lie = lie-with c.loop-i.self.entries.items c.loop-i.i c.index_mut.result.now c.mount.new.self m n here p.flash.goes i.lie p.memory.lies;
      room = p.buffer.room ∙ (i.room ∙ ap (λ (x : Geometry). x.page) (sym p.flash.goes.geometry));
      same_room = p.buffer.room ∙ i.same_room;
      as_many = length-set c.loop-i.self.entries.items c.loop-i.i (record { name = c.index_mut.result.now.name; table = c.mount.new.self }) ∙ i.as_many;
      same = plans-with c.args.self.now.entries.items c.loop-i.self.entries.items c.loop-i.i c.index_mut.result.now c.mount.new.self here p.memory.same i.same;
      names = names-with c.args.self.now.entries.items c.loop-i.self.entries.items c.loop-i.i c.index_mut.result.now c.mount.new.self here i.names;
      goes = goes-then f m n i.goes p.flash.goes;
      power = λ on. c.in_default.ensures.flash.power (i.power on);
      running = each-more (λ (t : LoggedTable 64 64). is_running t ≡ true) c.loop-i.self.entries.items c.loop-i.i c.index_mut.result.now c.mount.new.self here i.running c.in_default.ensures.memory.mounted;
      none = each-more (λ (t : LoggedTable 64 64). NothingWaits t) c.loop-i.self.entries.items c.loop-i.i c.index_mut.result.now c.mount.new.self here i.none c.in_default.ensures.memory.empty;
      ahead = λ j le. set-elsewhere c.loop-i.self.entries.items c.loop-i.i j (record { name = c.index_mut.result.now.name; table = c.mount.new.self }) (λ is. absurd (omega (arith, le, is))) ∙ i.ahead j (omega (arith, le));
      reads = λ told. reads-more c.args.self.now.entries.items c.loop-i.i c.index_mut.result.now f m n was_here (i.reads told) (p.flash.reads (subst IsTrue (sym i.goes.tells) told));
      in_turn = λ told. turn-more c.loop-i.i c.args.self.now.entries.items c.loop-i.self.entries.items c.index_mut.result.now c.mount.new.self c.in_default.field-0 f m n was_here here p.memory.same
          (c.in_default.ensures.found (subst IsTrue (sym i.goes.tells) told)) (i.in_turn told);
      repairs = repairs-more c.args.self.now.entries.items c.loop-i.i c.index_mut.result.now f m n was_here i.repairs p.flash.repairs;
      outside = λ told. outside-more c.args.self.now.entries.items c.loop-i.i c.index_mut.result.now (page_at f) (page_at m) (page_at n) was_here (i.outside told) (p.flash.outside (subst IsTrue (sym i.goes.tells) told));
      leaves = λ told plans tables stand known.
          left-next plans tables c.args.self.now.entries.items c.loop-i.i c.index_mut.result.now f m n stand was_here (i.leaves told plans tables stand (known-before c.args.self.now.entries.items f m n p.flash.goes known))
          (λ plan table. c.in_default.ensures.leaves (subst IsTrue (sym i.goes.tells) told) (first_of plans c.loop-i.i) plan table
          (known-there c.args.self.now.entries.items c.loop-i.i c.index_mut.result.now f m n was_here
          (λ rose device w.
          let so_far = (i.so_far plans tables rose device w.told w.on w.counts stand (λ r. w.risen (rose-front f.media.faults m.media.faults n.media.faults p.flash.goes.faults r))).0 in
          (so_far.now, record { told = subst IsTrue (sym i.goes.tells) w.told; on = so_far.power; risen = λ r. w.risen (rose-back f.media.faults m.media.faults n.media.faults i.goes.faults r); counts = so_far.counts })) known));
      so_far = λ plans tables rose device told on counts stand risen.
          let told' : IsTrue m.media.tells = subst IsTrue (sym i.goes.tells) told in
          let first = i.so_far plans tables rose device told on counts stand (λ r. risen (rose-front f.media.faults m.media.faults n.media.faults p.flash.goes.faults r)) in
          let so_far = first.0 in
          let sees : IsWatched m n rose so_far.now = record { told = told'; on = so_far.power; risen = λ r. risen (rose-back f.media.faults m.media.faults n.media.faults i.goes.faults r); counts = so_far.counts } in
          let at = own plans tables rose device c.loop-i.i c.loop-i.self.entries.items c.index_mut.result.now c.mount.new.self m n so_far here p.flash.goes p.memory.same (p.flash.outside told') in
          let before = was plans tables rose device c.loop-i.i c.loop-i.self.entries.items c.index_mut.result.now c.mount.new.self m n so_far here p.flash.goes p.memory.same (p.flash.outside told') in
          let stands = stood plans tables rose device c.loop-i.i c.loop-i.self.entries.items c.index_mut.result.now c.mount.new.self m n so_far here p.flash.goes p.memory.same (p.flash.outside told') in
          let here_was = was_at plans tables rose device c.loop-i.i c.loop-i.self.entries.items c.index_mut.result.now c.mount.new.self m n so_far here p.flash.goes p.memory.same (p.flash.outside told') in (
            mounted-more plans tables rose device c.loop-i.i c.loop-i.self.entries.items c.index_mut.result.now c.mount.new.self m n so_far here p.flash.goes p.memory.same (p.flash.outside told') c.in_default.field-0
                (c.in_default.ensures.ends (first_of plans c.loop-i.i) at.plan before rose so_far.now sees stands.planned stands.on_flash),
            limit-more plans tables c.loop-i.i at.plan before c.index_mut.result.now.table (first_of plans c.loop-i.i) f m n at.plan_is here_was stands.planned first.1 (p.flash.reads told')
                (p.limit (first_of plans c.loop-i.i) at.plan before rose so_far.now sees stands.planned stands.on_flash),
          );
    }

pub returns-clause-running : goal.returns-clause-running
returns-clause-running g c = λ j entry e.
    c.loop-i.invariant.running j entry (omega (arith, slice_get_within c.loop-i.self.entries.items j entry e, c.loop-i-test.false, c.len-i-end.ensures, c.args.self.now.entries.ok.0, c.loop-i.invariant.as_many)) e

pub returns-clause-none : goal.returns-clause-none
returns-clause-none g c = λ j entry e.
    c.loop-i.invariant.none j entry (omega (arith, slice_get_within c.loop-i.self.entries.items j entry e, c.loop-i-test.false, c.len-i-end.ensures, c.args.self.now.entries.ok.0, c.loop-i.invariant.as_many)) e

pub returns-clause-ends : goal.returns-clause-ends
returns-clause-ends g c = λ plans tables rose device watched stand.
    let all : c.loop-i.i ≡ length c.loop-i.self.entries.items = omega (arith, c.loop-i-test.false, c.loop-i.auto.i-end, c.len-i-end.ensures, c.args.self.now.entries.ok.0, c.loop-i.invariant.as_many) in
    mounted-all plans tables rose device c.loop-i.i c.loop-i.self.entries.items (g.F.Flash.state c.loop-i.flash) all (c.loop-i.invariant.so_far plans tables rose device watched.told watched.on watched.counts stand watched.risen).0

pub returns-clause-limit : goal.returns-clause-limit
returns-clause-limit g c = λ plans tables rose device watched stand.
    limit-most plans tables c.loop-i.i (g.F.Flash.state c.args.flash.now) (g.F.Flash.state c.loop-i.flash) (c.loop-i.invariant.so_far plans tables rose device watched.told watched.on watched.counts stand watched.risen).1

pub returns-clause-found : goal.returns-clause-found
returns-clause-found g c = λ told.
    let all : c.loop-i.i ≡ length c.args.self.now.entries.items = omega (arith, c.loop-i-test.false, c.loop-i.auto.i-end, c.len-i-end.ensures, c.args.self.now.entries.ok.0) in
    subst (λ (n : ℕ). MountsInTurn n c.args.self.now.entries.items c.loop-i.self.entries.items (g.F.Flash.state c.args.flash.now) (g.F.Flash.state c.loop-i.flash)) all (c.loop-i.invariant.in_turn told)

pub returns-clause-repairs : goal.returns-clause-repairs
returns-clause-repairs g c =
    let all : c.loop-i.i ≡ length c.args.self.now.entries.items = omega (arith, c.loop-i-test.false, c.loop-i.auto.i-end, c.len-i-end.ensures, c.args.self.now.entries.ok.0) in
    subst (λ (es : List Entry). FewRepairs (repairs_of es) (g.F.Flash.state c.args.flash.now) (g.F.Flash.state c.loop-i.flash)) (take_all c.loop-i.i c.args.self.now.entries.items (omega (arith, all))) c.loop-i.invariant.repairs

pub returns-clause-outside : goal.returns-clause-outside
returns-clause-outside g c = λ told.
    let all : c.loop-i.i ≡ length c.args.self.now.entries.items = omega (arith, c.loop-i-test.false, c.loop-i.auto.i-end, c.len-i-end.ensures, c.args.self.now.entries.ok.0) in
    subst (λ (es : List Entry). OutsideStands es (page_at (g.F.Flash.state c.args.flash.now)) (page_at (g.F.Flash.state c.loop-i.flash))) (take_all c.loop-i.i c.args.self.now.entries.items (omega (arith, all))) (c.loop-i.invariant.outside told)

pub returns-in-Err-clause-reads : goal.returns-in-Err-clause-reads
returns-in-Err-clause-reads g c = λ told.
    let i = c.loop-i.invariant in
    let more = reads-more c.args.self.now.entries.items c.loop-i.i c.index_mut.result.now (g.F.Flash.state c.args.flash.now) (g.F.Flash.state c.loop-i.flash) (g.F.Flash.state c.mount.new.flash)
    (sym (i.ahead c.loop-i.i (omega arith)) ∙ (entry-at c.loop-i.self.entries.items c.loop-i.i c.index_mut.result.now (omega (arith, c.loop-i-test.true, c.len-i-end.ensures, c.args.self.now.entries.ok.0, c.loop-i.invariant.as_many)) c.index_mut.ensures.value)) (i.reads told) (c.mount.ensures.flash.reads (subst IsTrue (sym i.goes.tells) told)) in
    reads-most c.args.self.now.entries.items (c.loop-i.i + 1) (g.F.Flash.state c.args.flash.now) (g.F.Flash.state c.mount.new.flash) more

pub returns-clause-reads : goal.returns-clause-reads
returns-clause-reads g c = λ told. reads-most c.args.self.now.entries.items c.loop-i.i (g.F.Flash.state c.args.flash.now) (g.F.Flash.state c.loop-i.flash) (c.loop-i.invariant.reads told)

pub returns-clause-repaired : goal.returns-clause-repaired
returns-clause-repaired g c = λ told plans tables stand known page within. (c.loop-i.invariant.leaves told plans tables stand known).each page

pub returns-clause-power : goal.returns-clause-power
returns-clause-power g c = c.loop-i.invariant.power

pub returns-in-Err-clause-same : goal.returns-in-Err-clause-same
returns-in-Err-clause-same g c =
    plans-with c.args.self.now.entries.items c.loop-i.self.entries.items c.loop-i.i c.index_mut.result.now c.mount.new.self (entry-at c.loop-i.self.entries.items c.loop-i.i c.index_mut.result.now (omega (arith, c.loop-i-test.true, c.len-i-end.ensures, c.args.self.now.entries.ok.0, c.loop-i.invariant.as_many)) c.index_mut.ensures.value) c.mount.ensures.memory.same c.loop-i.invariant.same

pub returns-clause-same : goal.returns-clause-same
returns-clause-same g c = c.loop-i.invariant.same

pub returns-in-Err-clause-names : goal.returns-in-Err-clause-names
returns-in-Err-clause-names g c =
    names-with c.args.self.now.entries.items c.loop-i.self.entries.items c.loop-i.i c.index_mut.result.now c.mount.new.self (entry-at c.loop-i.self.entries.items c.loop-i.i c.index_mut.result.now (omega (arith, c.loop-i-test.true, c.len-i-end.ensures, c.args.self.now.entries.ok.0, c.loop-i.invariant.as_many)) c.index_mut.ensures.value) c.loop-i.invariant.names

pub returns-clause-names : goal.returns-clause-names
returns-clause-names g c = c.loop-i.invariant.names

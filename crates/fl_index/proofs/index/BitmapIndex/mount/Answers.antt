use Rattle.std.proofs.Common.{◌≡◌, ◌+◌, ◌-◌, ◌*◌, ◌≤◌, ◌++◌, Option, Some, is_some, length, take, drop, arith, refl, sym, ◌∙◌, ap, subst, IsTrue}
use Rattle.std.proofs.lemmas.Bool.{true≢false}
use Rattle.std.proofs.lemmas.Option.{none-some, same_Some}
use Rattle.std.proofs.lemmas.Result.{err_from_is_err_and}
use Rattle.fl_base.specs.declared.types.Geometry.{Geometry}
use Rattle.fl_base.specs.declared.types.RingPlace.{RingPlace}
use Rattle.fl_ring.specs.Place.{shape_of, next_of, oldest_of}
use Rattle.fl_ring.specs.declared.ring.Ring.{Ring}
use Rattle.fl_ring.specs.Ring.{Shape}
use Rattle.fl_index.specs.Memory.{oldest_in}
use Rattle.fl_index.specs.Standing.{RemembersAll, RemembersBelow}
use Rattle.fl_index.specs.Headers.{AreRemembered, kept_page}
use Rattle.fl_index.proofs.WaitingEntries.{written-back}
use Rattle.fl_index.proofs.Memories.{planned-same}
use Rattle.fl_ring.proofs.Exists.{lies_still}
use Rattle.fl_index.proofs.Lies.{lies-later, no-ring, this-ring}
use Rattle.fl_index.proofs.MountCalls.{refuses-index, unread-pages, found-few, finds-index, outside-stands, few-all, few-found}
use Rattle.fl_frame.proofs.CallsInTurn.{goes-then}
use Rattle.fl_frame.proofs.ReadsInTurn.{cause_of_read}
use Rattle.fl_frame.proofs.WatchedInTurn.{cause-later, watched-first, risen-later}
use Rattle.fl_index.proofs.MountEnded.{fails-alike, never-fails, reads-fail, mounts-well}
use Rattle.fl_index.proofs.SealEnds.{planned-shape, planned-large, planned-ring, lies-size}
use Rattle.fl_index.proofs.index.BitmapIndex.mount.Goals as goal

pub returns-in_err-end-clause-refused : goal.returns-in_err-end-clause-refused
returns-in_err-end-clause-refused g c =
    let t = c.args.self.now in
    let found = c.find.new.self in
    let old = g.F.Flash.state c.args.flash.now in
    let mid = g.F.Flash.state c.find.new.flash in
    let p = err_from_is_err_and c.from_residual.result c.from_residual.ensures.1 in
    rw (p.1, p.2) (λ told. refuses-index t old mid c.in_err-end.field-0.0 (c.in_err-end.ensures.refused told))

pub read_firsts-requires-clause-firsts : goal.read_firsts-requires-clause-firsts
read_firsts-requires-clause-firsts g c =
    let found = c.find.new.self in
    let has : found.ring ≡ Some c.in-Some.ring = sym c.take.ensures.value ∙ c.in-Some.is in
    ap length c.deref_mut.ensures.value ∙ (sym found.firsts.ok.0 ∙ (found.remembered ∙ sym (ap (λ (r : Shape). r.blocks * r.per_block) (found.lies c.in-Some.ring has))))

pub returns-in_err-read_firsts-clause-ends : goal.returns-in_err-read_firsts-clause-ends
returns-in_err-read_firsts-clause-ends g c = λ first plan table rose device watched planned rests.
    let t = c.args.self.now in
    let found = c.find.new.self in
    let old = g.F.Flash.state c.args.flash.now in
    let mid = g.F.Flash.state c.find.new.flash in
    let new = g.F.Flash.state c.read_firsts.new.flash in
    let ring = c.in-Some.ring in
    let end = c.in_ok-end.end in
    let same = c.find.ensures.same in
    let goes = c.find.ensures.beside.goes in
    let has : found.ring ≡ Some ring = sym c.take.ensures.value ∙ c.in-Some.is in
    let reads = c.in_err-read_firsts.ensures.reads in
    let w = c.in_ok-end.ensures.ends first plan table rose device (watched-first old mid new rose device watched reads.goes) planned rests in
    let p = err_from_is_err_and c.from_residual-in_err-read_firsts.result c.from_residual-in_err-read_firsts.ensures.1 in
    rw (p.1, p.2) (reads-fail first plan table rose device found mid new (next_of ring - oldest_of ring) end w reads c.in_err-read_firsts.field-0.0 found c.in_err-read_firsts.ensures.fails (risen-later old mid new rose device watched goes))

pub returns-in_err-read_firsts-clause-refused : goal.returns-in_err-read_firsts-clause-refused
returns-in_err-read_firsts-clause-refused g c =
    let t = c.args.self.now in
    let found = c.find.new.self in
    let old = g.F.Flash.state c.args.flash.now in
    let mid = g.F.Flash.state c.find.new.flash in
    let new = g.F.Flash.state c.read_firsts.new.flash in
    let ring = c.in-Some.ring in
    let end = c.in_ok-end.end in
    let same = c.find.ensures.same in
    let goes = c.find.ensures.beside.goes in
    let has : found.ring ≡ Some ring = sym c.take.ensures.value ∙ c.in-Some.is in
    let p = err_from_is_err_and c.from_residual-in_err-read_firsts.result c.from_residual-in_err-read_firsts.ensures.1 in
    rw (p.1, p.2) (λ told. unread-pages t found old mid new end (c.in_ok-end.ensures.found told) ring same has c.in_err-read_firsts.ensures.reads c.in_err-read_firsts.field-0.0 c.in_err-read_firsts.ensures.fails)

pub returns-in_err-read_firsts-clause-outside : goal.returns-in_err-read_firsts-clause-outside
returns-in_err-read_firsts-clause-outside g c = λ told.
    let t = c.args.self.now in
    let found = c.find.new.self in
    let old = g.F.Flash.state c.args.flash.now in
    let mid = g.F.Flash.state c.find.new.flash in
    let new = g.F.Flash.state c.read_firsts.new.flash in
    let ring = c.in-Some.ring in
    let end = c.in_ok-end.end in
    let same = c.find.ensures.same in
    let goes = c.find.ensures.beside.goes in
    let has : found.ring ≡ Some ring = sym c.take.ensures.value ∙ c.in-Some.is in
    outside-stands t found old mid new end (c.in_ok-end.ensures.found told) ring same has c.in_err-read_firsts.ensures.reads (c.find.ensures.beside.outside told)

pub returns-in_err-read_firsts-clause-reads : goal.returns-in_err-read_firsts-clause-reads
returns-in_err-read_firsts-clause-reads g c = λ told.
    let t = c.args.self.now in
    let found = c.find.new.self in
    let old = g.F.Flash.state c.args.flash.now in
    let mid = g.F.Flash.state c.find.new.flash in
    let new = g.F.Flash.state c.read_firsts.new.flash in
    let ring = c.in-Some.ring in
    let end = c.in_ok-end.end in
    let same = c.find.ensures.same in
    let goes = c.find.ensures.beside.goes in
    let has : found.ring ≡ Some ring = sym c.take.ensures.value ∙ c.in-Some.is in
    few-all t found old mid new end (c.in_ok-end.ensures.found told) ring same has c.in_err-read_firsts.ensures.reads c.find.ensures.beside told

pub returns-clause-ends : goal.returns-clause-ends
returns-clause-ends g c = λ first plan table rose device watched planned rests.
    let t = c.args.self.now in
    let found = c.find.new.self in
    let old = g.F.Flash.state c.args.flash.now in
    let mid = g.F.Flash.state c.find.new.flash in
    let new = g.F.Flash.state c.read_firsts.new.flash in
    let ring = c.in-Some.ring in
    let end = c.in_ok-end.end in
    let same = c.find.ensures.same in
    let goes = c.find.ensures.beside.goes in
    let has : found.ring ≡ Some ring = sym c.take.ensures.value ∙ c.in-Some.is in
    let reads = c.in_ok-read_firsts.ensures.reads in
    let lies = c.requires.lies in
    let w = c.in_ok-end.ensures.ends first plan table rose device (watched-first old mid new rose device watched reads.goes) planned rests in
    let told = subst IsTrue (sym goes.tells) watched.told in
    let sizes = lies-size t mid first plan planned (goes.geometry ∙ lies.geometry) (omega (arith, goes.blocks, lies.within)) (g.met.F.Flash.reaches c.find.new.flash) in
    let back : take found.firsts.len (c.read_firsts.new.firsts ++ drop (length c.read_firsts.new.firsts) found.firsts.items) ≡ c.read_firsts.new.firsts =
    written-back found.firsts.len found.firsts.items c.read_firsts.new.firsts c.read_firsts.new.firsts refl (c.in_ok-read_firsts.ensures.size ∙ ap length c.deref_mut.ensures.value) found.firsts.ok.0 in
    mounts-well first plan table rose device found mid new (next_of ring - oldest_of ring) end w reads ring _
    (planned-same t _ first plan planned (record { geometry = same.geometry; place = same.place; bits = same.bits; full = same.full })) (found.lies ring has ∙ planned-ring found first plan (planned-same t found first plan planned same))
    sizes (planned-shape t first plan planned) (planned-large t first plan planned) (omega (arith, ap (λ (x : Geometry). x.page) planned.geometry, t.served.page_greatest)) has refl c.find.ensures.idle
    (λ fits. subst (λ xs. AreRemembered (kept_page ring mid) (oldest_of ring) (next_of ring - oldest_of ring) xs) (sym back)
    (c.in_ok-read_firsts.ensures.firsts (subst (λ n. next_of ring - oldest_of ring ≤ n) (ap length back ∙ c.in_ok-read_firsts.ensures.size) fits) told))

pub returns-clause-found : goal.returns-clause-found
returns-clause-found g c = λ told.
    let t = c.args.self.now in
    let found = c.find.new.self in
    let old = g.F.Flash.state c.args.flash.now in
    let mid = g.F.Flash.state c.find.new.flash in
    let new = g.F.Flash.state c.read_firsts.new.flash in
    let ring = c.in-Some.ring in
    let end = c.in_ok-end.end in
    let same = c.find.ensures.same in
    let goes = c.find.ensures.beside.goes in
    let has : found.ring ≡ Some ring = sym c.take.ensures.value ∙ c.in-Some.is in
    let reads = c.in_ok-read_firsts.ensures.reads in
    let h = c.in_ok-end.ensures.found told in
    let told_mid = subst IsTrue (sym goes.tells) told in
    let back : take found.firsts.len (c.read_firsts.new.firsts ++ drop (length c.read_firsts.new.firsts) found.firsts.items) ≡ c.read_firsts.new.firsts =
    written-back found.firsts.len found.firsts.items c.read_firsts.new.firsts c.read_firsts.new.firsts refl (c.in_ok-read_firsts.ensures.size ∙ ap length c.deref_mut.ensures.value) found.firsts.ok.0 in
    let fits = found-few t found old mid new end h ring same has reads told in
    let rooms : found.place.blocks * found.geometry.block ≡ t.place.blocks * t.geometry.block = ap (λ (p : RingPlace). p.blocks * found.geometry.block) same.place ∙ ap (λ (x : Geometry). t.place.blocks * x.block) same.geometry in
    finds-index t found old mid new end h ring same has reads _ refl
    (subst (λ xs. AreRemembered (kept_page ring mid) (oldest_of ring) (next_of ring - oldest_of ring) xs) (sym back)
    (c.in_ok-read_firsts.ensures.firsts (omega (arith, fits, rooms, found.remembered, found.firsts.ok.0, ap length c.deref_mut.ensures.value)) told_mid))

pub returns-clause-outside : goal.returns-clause-outside
returns-clause-outside g c = λ told.
    let t = c.args.self.now in
    let found = c.find.new.self in
    let old = g.F.Flash.state c.args.flash.now in
    let mid = g.F.Flash.state c.find.new.flash in
    let new = g.F.Flash.state c.read_firsts.new.flash in
    let ring = c.in-Some.ring in
    let end = c.in_ok-end.end in
    let same = c.find.ensures.same in
    let goes = c.find.ensures.beside.goes in
    let has : found.ring ≡ Some ring = sym c.take.ensures.value ∙ c.in-Some.is in
    outside-stands t found old mid new end (c.in_ok-end.ensures.found told) ring same has c.in_ok-read_firsts.ensures.reads (c.find.ensures.beside.outside told)

pub returns-clause-reads : goal.returns-clause-reads
returns-clause-reads g c = λ told.
    let t = c.args.self.now in
    let found = c.find.new.self in
    let old = g.F.Flash.state c.args.flash.now in
    let mid = g.F.Flash.state c.find.new.flash in
    let new = g.F.Flash.state c.read_firsts.new.flash in
    let ring = c.in-Some.ring in
    let end = c.in_ok-end.end in
    let same = c.find.ensures.same in
    let goes = c.find.ensures.beside.goes in
    let has : found.ring ≡ Some ring = sym c.take.ensures.value ∙ c.in-Some.is in
    few-all t found old mid new end (c.in_ok-end.ensures.found told) ring same has c.in_ok-read_firsts.ensures.reads c.find.ensures.beside told

pub find-requires-clause-lies : goal.find-requires-clause-lies
find-requires-clause-lies g c = c.requires.lies

pub find-requires-clause-room : goal.find-requires-clause-room
find-requires-clause-room g c = c.requires.room

pub returns-in_err-end-clause-goes : goal.returns-in_err-end-clause-goes
returns-in_err-end-clause-goes g c = c.find.ensures.beside.goes

pub returns-in_err-end-clause-same : goal.returns-in_err-end-clause-same
returns-in_err-end-clause-same g c = c.find.ensures.same

pub returns-in_err-end-clause-lies : goal.returns-in_err-end-clause-lies
returns-in_err-end-clause-lies g c = c.find.ensures.lies

pub returns-in_err-end-clause-room : goal.returns-in_err-end-clause-room
returns-in_err-end-clause-room g c = c.find.ensures.room

pub returns-in_err-end-clause-holds : goal.returns-in_err-end-clause-holds
returns-in_err-end-clause-holds g c = c.find.ensures.holds

pub returns-in_err-end-clause-idle : goal.returns-in_err-end-clause-idle
returns-in_err-end-clause-idle g c = c.find.ensures.idle

pub returns-in_err-end-clause-outside : goal.returns-in_err-end-clause-outside
returns-in_err-end-clause-outside g c = c.find.ensures.beside.outside

pub returns-in_err-end-clause-ends : goal.returns-in_err-end-clause-ends
returns-in_err-end-clause-ends g c =
    let p = err_from_is_err_and c.from_residual.result c.from_residual.ensures.1 in
    rw (p.1, p.2) (λ first plan table rose device watched planned rests.
    fails-alike (RemembersBelow (oldest_in c.find.new.self)) RemembersAll first plan table rose device c.in_err-end.field-0.0 c.find.new.self (g.F.Flash.state c.find.new.flash) (c.in_err-end.ensures.ends first plan table rose device watched planned rests))

pub returns-in_err-end-clause-running : goal.returns-in_err-end-clause-running
returns-in_err-end-clause-running g c =
    let p = err_from_is_err_and c.from_residual.result c.from_residual.ensures.1 in
    rw p.1 c.in_err-end.ensures.running

pub returns-in_err-end-clause-cause : goal.returns-in_err-end-clause-cause
returns-in_err-end-clause-cause g c =
    let p = err_from_is_err_and c.from_residual.result c.from_residual.ensures.1 in
    rw (p.1, p.2) c.in_err-end.ensures.cause

pub returns-in_err-end-clause-off : goal.returns-in_err-end-clause-off
returns-in_err-end-clause-off g c =
    let p = err_from_is_err_and c.from_residual.result c.from_residual.ensures.1 in
    rw (p.1, p.2) c.in_err-end.ensures.off

pub returns-in_err-end-clause-found : goal.returns-in_err-end-clause-found
returns-in_err-end-clause-found g c =
    let p = err_from_is_err_and c.from_residual.result c.from_residual.ensures.1 in
    rw p.1 tt

pub returns-in_err-end-clause-power : goal.returns-in_err-end-clause-power
returns-in_err-end-clause-power g c =
    let p = err_from_is_err_and c.from_residual.result c.from_residual.ensures.1 in
    rw p.1 tt

pub returns-in_err-end-clause-repairs : goal.returns-in_err-end-clause-repairs
returns-in_err-end-clause-repairs g c = record { programs = c.find.ensures.beside.few_programs; erases = c.find.ensures.beside.few_erases }

pub read_firsts-requires-clause-lies : goal.read_firsts-requires-clause-lies
read_firsts-requires-clause-lies g c = c.find.ensures.lies.ring c.in-Some.ring (sym c.take.ensures.value ∙ c.in-Some.is)

pub read_firsts-requires-clause-room : goal.read_firsts-requires-clause-room
read_firsts-requires-clause-room g c = c.find.ensures.room ∙ (c.requires.room ∙ ap (λ (x : Geometry). x.page) (sym c.find.ensures.beside.goes.geometry))

pub read_firsts-requires-clause-none : goal.read_firsts-requires-clause-none
read_firsts-requires-clause-none g c = c.find.ensures.holds

pub returns-in_err-read_firsts-clause-goes : goal.returns-in_err-read_firsts-clause-goes
returns-in_err-read_firsts-clause-goes g c = goes-then (g.F.Flash.state c.args.flash.now) (g.F.Flash.state c.find.new.flash) (g.F.Flash.state c.read_firsts.new.flash) c.find.ensures.beside.goes c.in_err-read_firsts.ensures.reads.goes

pub returns-in_err-read_firsts-clause-same : goal.returns-in_err-read_firsts-clause-same
returns-in_err-read_firsts-clause-same g c = let same = c.find.ensures.same in record { geometry = same.geometry; place = same.place; bits = same.bits; full = same.full }

pub returns-in_err-read_firsts-clause-room : goal.returns-in_err-read_firsts-clause-room
returns-in_err-read_firsts-clause-room g c = c.in_err-read_firsts.ensures.room ∙ c.find.ensures.room

pub returns-in_err-read_firsts-clause-holds : goal.returns-in_err-read_firsts-clause-holds
returns-in_err-read_firsts-clause-holds g c = c.in_err-read_firsts.ensures.none

pub returns-in_err-read_firsts-clause-running : goal.returns-in_err-read_firsts-clause-running
returns-in_err-read_firsts-clause-running g c =
    let p = err_from_is_err_and c.from_residual-in_err-read_firsts.result c.from_residual-in_err-read_firsts.ensures.1 in
    rw p.1 (ap (λ (o : Option Ring). is_some o) c.take.ensures.after)

pub returns-in_err-read_firsts-clause-idle : goal.returns-in_err-read_firsts-clause-idle
returns-in_err-read_firsts-clause-idle g c = c.find.ensures.idle

pub returns-in_err-read_firsts-clause-found : goal.returns-in_err-read_firsts-clause-found
returns-in_err-read_firsts-clause-found g c =
    let p = err_from_is_err_and c.from_residual-in_err-read_firsts.result c.from_residual-in_err-read_firsts.ensures.1 in
    rw p.1 tt

pub returns-in_err-read_firsts-clause-power : goal.returns-in_err-read_firsts-clause-power
returns-in_err-read_firsts-clause-power g c =
    let p = err_from_is_err_and c.from_residual-in_err-read_firsts.result c.from_residual-in_err-read_firsts.ensures.1 in
    rw p.1 tt

pub returns-in_err-read_firsts-clause-repairs : goal.returns-in_err-read_firsts-clause-repairs
returns-in_err-read_firsts-clause-repairs g c =
    let old = g.F.Flash.state c.args.flash.now in
    record {
      programs = subst (λ n. n ≤ old.work.programs + 1) (sym c.in_err-read_firsts.ensures.reads.programs) c.find.ensures.beside.few_programs;
      erases = subst (λ n. n ≤ old.work.erases + 1) (sym c.in_err-read_firsts.ensures.reads.erases) c.find.ensures.beside.few_erases;
    }

pub returns-in_err-read_firsts-clause-cause : goal.returns-in_err-read_firsts-clause-cause
returns-in_err-read_firsts-clause-cause g c =
    let p = err_from_is_err_and c.from_residual-in_err-read_firsts.result c.from_residual-in_err-read_firsts.ensures.1 in
    rw (p.1, p.2) (cause-later (g.F.Flash.state c.args.flash.now) (g.F.Flash.state c.find.new.flash) (g.F.Flash.state c.read_firsts.new.flash) c.find.ensures.beside.goes (λ on. c.in_ok-end.ensures.power) c.in_err-read_firsts.field-0.0 (cause_of_read (g.F.Flash.state c.find.new.flash) (g.F.Flash.state c.read_firsts.new.flash) c.in_err-read_firsts.field-0.0 c.in_err-read_firsts.ensures.fails))

pub returns-clause-goes : goal.returns-clause-goes
returns-clause-goes g c = goes-then (g.F.Flash.state c.args.flash.now) (g.F.Flash.state c.find.new.flash) (g.F.Flash.state c.read_firsts.new.flash) c.find.ensures.beside.goes c.in_ok-read_firsts.ensures.reads.goes

pub returns-clause-same : goal.returns-clause-same
returns-clause-same g c = let same = c.find.ensures.same in record { geometry = same.geometry; place = same.place; bits = same.bits; full = same.full }

pub returns-clause-room : goal.returns-clause-room
returns-clause-room g c = c.in_ok-read_firsts.ensures.room ∙ c.find.ensures.room

pub returns-clause-holds : goal.returns-clause-holds
returns-clause-holds g c = c.in_ok-read_firsts.ensures.none

pub returns-clause-running : goal.returns-clause-running
returns-clause-running g c = refl

pub returns-clause-idle : goal.returns-clause-idle
returns-clause-idle g c = c.find.ensures.idle

pub returns-clause-repairs : goal.returns-clause-repairs
returns-clause-repairs g c =
    let old = g.F.Flash.state c.args.flash.now in
    record {
      programs = subst (λ n. n ≤ old.work.programs + 1) (sym c.in_ok-read_firsts.ensures.reads.programs) c.find.ensures.beside.few_programs;
      erases = subst (λ n. n ≤ old.work.erases + 1) (sym c.in_ok-read_firsts.ensures.reads.erases) c.find.ensures.beside.few_erases;
    }

pub returns-clause-power : goal.returns-clause-power
returns-clause-power g c = c.in_ok-read_firsts.ensures.power c.in_ok-end.ensures.power

pub invariant_of-self : goal.invariant_of-self
invariant_of-self g c =
    let t = c.find.new.self in
    record {
      served = t.served;
      some_blocks = t.some_blocks;
      few_blocks = t.few_blocks;
      some_bits = t.some_bits;
      remembered = t.remembered;
      page = t.page;
      blank_rest = t.blank_rest;
      few = t.few;
      left = t.left;
      lies = λ r has. absurd (none-some r (sym c.take.ensures.after ∙ has));
    }

pub invariant_of-self-2 : goal.invariant_of-self-2
invariant_of-self-2 g c =
    let t = c.find.new.self in
    record {
      served = t.served;
      some_blocks = t.some_blocks;
      few_blocks = t.few_blocks;
      some_bits = t.some_bits;
      remembered = t.remembered;
      page = t.page;
      blank_rest = t.blank_rest;
      few = t.few;
      left = t.left;
      lies = λ r has. ap (λ (x : Ring). shape_of x) (sym (same_Some c.in-Some.ring r has)) ∙ t.lies c.in-Some.ring (sym c.take.ensures.value ∙ c.in-Some.is);
    }

pub returns-in_err-read_firsts-clause-lies : goal.returns-in_err-read_firsts-clause-lies
returns-in_err-read_firsts-clause-lies g c =
    lies-later c.args.self.now _ (g.F.Flash.state c.args.flash.now) (g.F.Flash.state c.read_firsts.new.flash) (record { geometry = c.find.ensures.same.geometry; place = c.find.ensures.same.place; bits = c.find.ensures.same.bits; full = c.find.ensures.same.full })
    c.requires.lies (goes-then (g.F.Flash.state c.args.flash.now) (g.F.Flash.state c.find.new.flash) (g.F.Flash.state c.read_firsts.new.flash) c.find.ensures.beside.goes c.in_err-read_firsts.ensures.reads.goes) (no-ring c.take.new.self (g.F.Flash.state c.read_firsts.new.flash) c.take.ensures.after)

pub returns-clause-lies : goal.returns-clause-lies
returns-clause-lies g c =
    lies-later c.args.self.now _ (g.F.Flash.state c.args.flash.now) (g.F.Flash.state c.read_firsts.new.flash) (record { geometry = c.find.ensures.same.geometry; place = c.find.ensures.same.place; bits = c.find.ensures.same.bits; full = c.find.ensures.same.full })
    c.requires.lies (goes-then (g.F.Flash.state c.args.flash.now) (g.F.Flash.state c.find.new.flash) (g.F.Flash.state c.read_firsts.new.flash) c.find.ensures.beside.goes c.in_ok-read_firsts.ensures.reads.goes) (this-ring c.in-Some.ring (g.F.Flash.state c.read_firsts.new.flash) (lies_still c.in-Some.ring (g.F.Flash.state c.find.new.flash) (g.F.Flash.state c.read_firsts.new.flash) (c.find.ensures.lies.ring c.in-Some.ring (sym c.take.ensures.value ∙ c.in-Some.is)) c.in_ok-read_firsts.ensures.reads.goes))

pub returns-in_err-read_firsts-clause-off : goal.returns-in_err-read_firsts-clause-off
returns-in_err-read_firsts-clause-off g c = λ off. absurd (never-fails c.in_ok-end.end _ (c.in_ok-end.ensures.off off).0)

pub returns-clause-off : goal.returns-clause-off
returns-clause-off g c = λ off. absurd (never-fails c.in_ok-end.end _ (c.in_ok-end.ensures.off off).0)

pub unreachable-requires : goal.unreachable-requires
unreachable-requires g c = absurd (true≢false (sym c.in_ok-end.ensures.running ∙ ap (λ (o : Option Ring). is_some o) (sym c.take.ensures.value ∙ c.in_default.is)))

pub unreachable-unreachable : goal.unreachable-unreachable
unreachable-unreachable g c = c.unreachable.type_inv

pub returns-in_err-end-clause-reads : goal.returns-in_err-end-clause-reads
returns-in_err-end-clause-reads g c = λ told. few-found c.args.self.now (g.F.Flash.state c.args.flash.now) (g.F.Flash.state c.find.new.flash) c.find.ensures.beside

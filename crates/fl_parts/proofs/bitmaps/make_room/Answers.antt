use Rattle.std.proofs.Common.{◌≡◌, ◌+◌, ◌<◌, ◌==◌, cond, Option, Some, Result, Ok, Err, OnOk, true, inl, inr, sym, subst, arith}
use Rattle.fl_flash.specs.Flash.{FlashState}
use Rattle.fl_index.specs.declared.index.BitmapIndex.{BitmapIndex}
use Rattle.fl_flash.specs.declared.flash.FlashFault.{FlashFault}
use Rattle.fl_parts.specs.Bitmaps.{IsRoomMade, MakesRoomOf, MaySeal, RoomMade, rings_of}
use Rattle.std.proofs.lemmas.Bool.{cases_lt}
use Rattle.fl_index.specs.Memory as memory
use Rattle.fl_index.specs.Memory.{first_waiting, waiting_in, per_page}
use Rattle.fl_parts.proofs.CallsOff.{off-either}
use Rattle.fl_ring.specs.Written.{Writes}
use Rattle.fl_ring.proofs.Written.{writes-none, writes-wider}
use Rattle.fl_parts.proofs.bitmaps.make_room.Goals as goal

-- room was made for one more
room-made : (old new : BitmapIndex) (result : Result (Unit {0}) FlashFault) → OnOk result (memory.is_running new ≡ true) → OnOk result (waiting_in new < per_page new) → OnOk result (first_waiting new + waiting_in new ≡ first_waiting old + waiting_in old) →
    OnOk result (memory.next_in new ≡ cond (waiting_in old == per_page old) (memory.next_in old + 1) (memory.next_in old)) → OnOk result (memory.oldest_in new ≡ cond (waiting_in old == per_page old) (memory.oldest_after old) (memory.oldest_in old)) →
    OnOk result (memory.FirstsGoOn old new) → OnOk result (IsRoomMade old new)
room-made old new (Ok u) running room same number oldest firsts = record { running = running; room = room; same = same; number = number; oldest = oldest; firsts = firsts }
room-made old new (Err e) running room same number oldest firsts = tt

pub returns-in-Some-clause-ends : goal.returns-in-Some-clause-ends
returns-in-Some-clause-ends g c = λ first plan table rose device.
    subst (λ (o : Option BitmapIndex). MakesRoomOf o (g.F.Flash.state c.args.flash.now) first plan table rose device c.make_room.result (Some c.make_room.new.self) (g.F.Flash.state c.make_room.new.flash))
    (sym c.in-Some.is) (λ watched stands. c.make_room.ensures.ends first plan table rose device watched stands)

pub returns-in-Some-clause-off : goal.returns-in-Some-clause-off
returns-in-Some-clause-off g c =
    let index = c.in-Some.index in
    off-either (g.F.Flash.state c.args.flash.now) (g.F.Flash.state c.make_room.new.flash) c.make_room.result tt (elim (cases_lt (waiting_in index) (per_page index)) [
      | inl less ↦ let still = c.make_room.ensures.nothing less in inl (still.0, still.2)
      | inr full ↦ inr (c.make_room.ensures.off full)
    ])

pub returns-in-Some-clause-writes : goal.returns-in-Some-clause-writes
returns-in-Some-clause-writes g c =
    let index = c.in-Some.index in
    let f = g.F.Flash.state c.args.flash.now in
    let h = g.F.Flash.state c.make_room.new.flash in
    subst (λ (o : Option BitmapIndex). Writes (MaySeal o) 0 (rings_of o) f h) (sym c.in-Some.is) (elim (cases_lt (waiting_in index) (per_page index)) [
      | inl less ↦ subst (λ (s : FlashState). Writes (MaySeal (Some index)) 0 1 f s) (sym (c.make_room.ensures.nothing less).2) (writes-none (MaySeal (Some index)) 1 f)
      | inr most ↦ let full : waiting_in index ≡ per_page index = omega (arith, most, index.few) in
          writes-wider (memory.MaySeal index) (MaySeal (Some index)) 0 0 1 1 f h (λ page may. (full, may)) (omega arith) (omega arith) c.make_room.ensures.writes
    ])

pub returns-in-None-clause-writes : goal.returns-in-None-clause-writes
returns-in-None-clause-writes g c = writes-none (MaySeal c.args.bitmaps.now) (rings_of c.args.bitmaps.now) (g.F.Flash.state c.args.flash.now)

pub returns-in-Some-clause-made : goal.returns-in-Some-clause-made
returns-in-Some-clause-made g c =
    let index = c.in-Some.index in
    let e = c.make_room.ensures in
    subst (λ (o : Option BitmapIndex). OnOk c.make_room.result (RoomMade o (Some c.make_room.new.self))) (sym c.in-Some.is)
    (room-made index c.make_room.new.self c.make_room.result e.running e.room e.next e.number e.oldest e.firsts)

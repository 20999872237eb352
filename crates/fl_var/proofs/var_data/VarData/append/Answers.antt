use Rattle.std.proofs.Common.{◌≡◌, ◌≤◌, inl, inr, true, ◌⊎◌, sym, Ok, Err, length, refl, ◌∙◌, ap, subst, arith, ℕ, List}
use Rattle.std.proofs.lemmas.Bool.{cases_Bool}
use Rattle.std.proofs.lemmas.Result.{err_from_is_err_and}
use Rattle.fl_flash.specs.Flash.{FlashState, OffChangesNothing}
use Rattle.fl_flash.specs.declared.flash.FlashFault.{FlashFault}
use Rattle.fl_frame.proofs.CallsInTurn.{goes-then, goes-same}
use Rattle.fl_model.specs.Table.{with_record}
use Rattle.fl_ring.proofs.Written.{writes-none}
use Rattle.fl_var.specs.Memory.{next_in, oldest_after, waiting_in, IsOnRing}
use Rattle.fl_var.specs.Placing.{is_full_in, pages_placed}
use Rattle.fl_var.specs.declared.var_data.VarData.{VarData}
use Rattle.fl_frame.proofs.WatchedInTurn.{watched-first}
use Rattle.fl_var.proofs.Placed.{joined-has, joined-bytes, buffered-room, watched-second, place-none, place-err, place-breaks_room, place-breaks, placed-whole, room-for, full-placed, next-split, oldest-split, reads-split, waits-split, waits-none, placed-none, room-writes, writes-split}
use Rattle.fl_var.proofs.BufferedBytes.{cause-err, off-err, ok-on, lost-on}
use Rattle.std.proofs.Math.Nat.{le-add_right}
use Rattle.fl_base.specs.declared.types.BlobRef.{BlobRef}
use Rattle.fl_base.proofs.Tests.{some_from}
use Rattle.fl_var.proofs.ByMemory.{none-there, left-one, left-then, reference-none, reference-mid, plan-then, outside-then, err-done, done-err}
use Rattle.fl_var.proofs.var_data.VarData.append.Goals as goal

pub returns-then-is_empty-clause-ends : goal.returns-then-is_empty-clause-ends
returns-then-is_empty-clause-ends g c = λ plan item table rose device watched stands blob_is.
    let none = none-there (length c.args.bytes.now) c.is_empty.result c.is_empty.ensures c.if-is_empty.true in
    place-none plan item table rose device c.args.self.now (g.F.Flash.state c.args.flash.now) c.args.bytes.now none blob_is watched stands

pub returns-in_err-make_room-clause-ends : goal.returns-in_err-make_room-clause-ends
returns-in_err-make_room-clause-ends g c = λ plan item table rose device watched stands blob_is.
    let v = c.args.self.now in
    let f = g.F.Flash.state c.args.flash.now in
    let h = g.F.Flash.state c.make_room.new.flash in
    let bytes = c.args.bytes.now in
    let some : 1 ≤ length c.args.bytes.now = some_from (length c.args.bytes.now) (sym c.is_empty.ensures ∙ c.if-is_empty.false) in
    let p = err_from_is_err_and c.from_residual.result c.from_residual.ensures.1 in
    place-err plan item table rose device v f c.from_residual.result _ h c.in_err-make_room.field-0.0 (p.1 ∙ ap (λ (x : FlashFault). Err x) p.2)
    (place-breaks_room v f plan item table bytes stands blob_is some h rose device c.in_err-make_room.field-0.0
    (c.in_err-make_room.ensures.ends plan (with_record plan item table) bytes rose device watched (joined-has v f plan item table bytes stands blob_is) (joined-bytes v f plan item table bytes stands blob_is)))

pub returns-in_err-write-clause-ends : goal.returns-in_err-write-clause-ends
returns-in_err-write-clause-ends g c = λ plan item table rose device watched stands blob_is.
    let v = c.args.self.now in
    let mid = c.make_room.new.self in
    let f = g.F.Flash.state c.args.flash.now in
    let mid_f = g.F.Flash.state c.make_room.new.flash in
    let h = g.F.Flash.state c.write.new.flash in
    let bytes = c.args.bytes.now in
    let e = c.in_ok-make_room.ensures in
    let some : 1 ≤ length c.args.bytes.now = some_from (length c.args.bytes.now) (sym c.is_empty.ensures ∙ c.if-is_empty.false) in
    let second = c.in_err-write.ensures.goes in
    let a = e.ends plan (with_record plan item table) bytes rose device (watched-first f mid_f h rose device watched second) (joined-has v f plan item table bytes stands blob_is) (joined-bytes v f plan item table bytes stands blob_is) in
    let p = err_from_is_err_and c.from_residual-in_err-write.result c.from_residual-in_err-write.ensures.1 in
    let b = c.in_err-write.ensures.ends plan _ rose a.now.device (watched-second v f plan item table bytes stands blob_is mid some e.same e.waits mid_f h rose device watched e.goes a) a.has
    (buffered-room v f plan item table bytes stands blob_is mid some e.same e.waits) in
    place-err plan item table rose device v f c.from_residual-in_err-write.result _ h c.in_err-write.field-0.0 (p.1 ∙ ap (λ (x : FlashFault). Err x) p.2)
    (place-breaks v f plan item table bytes stands blob_is mid some e.same e.waits mid_f h rose device watched e.goes a c.in_err-write.field-0.0 b)

pub returns-in_err-write-clause-cause : goal.returns-in_err-write-clause-cause
returns-in_err-write-clause-cause g c =
    let p = err_from_is_err_and c.from_residual-in_err-write.result c.from_residual-in_err-write.ensures.1 in
    let e = c.in_ok-make_room.ensures in
    cause-err (g.F.Flash.state c.args.flash.now) (g.F.Flash.state c.make_room.new.flash) (g.F.Flash.state c.write.new.flash) c.from_residual-in_err-write.result c.in_err-write.field-0.0 (p.1 ∙ ap (λ (x : FlashFault). Err x) p.2)
    e.goes e.power c.in_err-write.ensures.cause

pub returns-clause-ends : goal.returns-clause-ends
returns-clause-ends g c = λ plan item table rose device watched stands blob_is.
    let v = c.args.self.now in
    let mid = c.make_room.new.self in
    let f = g.F.Flash.state c.args.flash.now in
    let mid_f = g.F.Flash.state c.make_room.new.flash in
    let h = g.F.Flash.state c.write.new.flash in
    let bytes = c.args.bytes.now in
    let e = c.in_ok-make_room.ensures in
    let w = c.in_ok-write.ensures in
    let some : 1 ≤ length c.args.bytes.now = some_from (length c.args.bytes.now) (sym c.is_empty.ensures ∙ c.if-is_empty.false) in
    let a = e.ends plan (with_record plan item table) bytes rose device (watched-first f mid_f h rose device watched w.goes) (joined-has v f plan item table bytes stands blob_is) (joined-bytes v f plan item table bytes stands blob_is) in
    let b = w.ends plan _ rose a.now.device (watched-second v f plan item table bytes stands blob_is mid some e.same e.waits mid_f h rose device watched e.goes a) a.has
    (buffered-room v f plan item table bytes stands blob_is mid some e.same e.waits) in
    let page : c.next_number.result ≡ next_in c.make_room.new.self = c.next_number.ensures in
    let offset : length c.content.result.now ≡ length (waiting_in c.make_room.new.self) = ap length c.content.ensures.content in
    let at = ap (λ n. record { page = n; offset = length c.content.result.now; length = length c.args.bytes.now }) page ∙ ap (λ n. record { page = next_in c.make_room.new.self; offset = n; length = length c.args.bytes.now }) offset in
    placed-whole v f plan item table bytes stands blob_is mid some e.same e.waits mid_f h rose device watched e.goes a c.write.new.self b _ at e.next w.waits

pub returns-clause-power : goal.returns-clause-power
returns-clause-power g c = elim c.in_ok-write.ensures.power [
  | inl same ↦ subst (λ (x : FlashState). (x ≡ g.F.Flash.state c.args.flash.now) ⊎ (x.is_on ≡ true)) (sym same) c.in_ok-make_room.ensures.power
  | inr on ↦ inr on
]

pub returns-clause-quiet : goal.returns-clause-quiet
returns-clause-quiet g c = λ room.
    let v = c.args.self.now in
    let some : 1 ≤ length c.args.bytes.now = some_from (length c.args.bytes.now) (sym c.is_empty.ensures ∙ c.if-is_empty.false) in
    let left = room-for v (length c.args.bytes.now) some room in
    let still = c.in_ok-make_room.ensures.quiet left.0 in
    let none : pages_placed c.make_room.new.self (length c.args.bytes.now) ≡ 0 = ap (λ (x : VarData). pages_placed x (length c.args.bytes.now)) still.1 ∙ left.1 in
    let here = ap (λ n. record { page = n; offset = length c.content.result.now; length = length c.args.bytes.now }) c.next_number.ensures ∙ ap (λ (l : List ℕ). record { page = next_in c.make_room.new.self; offset = length l; length = length c.args.bytes.now }) c.content.ensures.content in
    let at = here ∙ reference-mid c.args.self.now c.make_room.new.self (length c.args.bytes.now) some c.in_ok-make_room.ensures.next c.in_ok-make_room.ensures.waits in
    (ap (λ (at : BlobRef). Ok at) at, (c.in_ok-write.ensures.quiet none).1 ∙ still.2)

pub returns-then-is_empty-clause-waits : goal.returns-then-is_empty-clause-waits
returns-then-is_empty-clause-waits g c =
    let none = none-there (length c.args.bytes.now) c.is_empty.result c.is_empty.ensures c.if-is_empty.true in
    waits-none c.args.self.now c.args.bytes.now none

pub returns-clause-waits : goal.returns-clause-waits
returns-clause-waits g c =
    let some : 1 ≤ length c.args.bytes.now = some_from (length c.args.bytes.now) (sym c.is_empty.ensures ∙ c.if-is_empty.false) in
    let e = c.in_ok-make_room.ensures in
    waits-split c.args.self.now c.make_room.new.self c.args.bytes.now some e.same e.waits (waiting_in c.write.new.self) c.in_ok-write.ensures.waits

pub returns-then-is_empty-clause-oldest : goal.returns-then-is_empty-clause-oldest
returns-then-is_empty-clause-oldest g c =
    let none = none-there (length c.args.bytes.now) c.is_empty.result c.is_empty.ensures c.if-is_empty.true in
    sym (ap (oldest_after c.args.self.now) (placed-none c.args.self.now (length c.args.bytes.now) none))

pub returns-clause-oldest : goal.returns-clause-oldest
returns-clause-oldest g c =
    let some : 1 ≤ length c.args.bytes.now = some_from (length c.args.bytes.now) (sym c.is_empty.ensures ∙ c.if-is_empty.false) in
    let e = c.in_ok-make_room.ensures in
    oldest-split c.args.self.now c.make_room.new.self c.args.bytes.now some e.same e.waits c.write.new.self e.next e.oldest c.in_ok-write.ensures.oldest

pub returns-then-is_empty-clause-next : goal.returns-then-is_empty-clause-next
returns-then-is_empty-clause-next g c =
    let none = none-there (length c.args.bytes.now) c.is_empty.result c.is_empty.ensures c.if-is_empty.true in
    omega (arith, placed-none c.args.self.now (length c.args.bytes.now) none)

pub returns-clause-next : goal.returns-clause-next
returns-clause-next g c =
    let some : 1 ≤ length c.args.bytes.now = some_from (length c.args.bytes.now) (sym c.is_empty.ensures ∙ c.if-is_empty.false) in
    let e = c.in_ok-make_room.ensures in
    next-split c.args.self.now c.make_room.new.self c.args.bytes.now some e.same e.waits (next_in c.write.new.self) e.next c.in_ok-write.ensures.next

pub returns-in_err-make_room-clause-media_reads : goal.returns-in_err-make_room-clause-media_reads
returns-in_err-make_room-clause-media_reads g c =
    let some : 1 ≤ length c.args.bytes.now = some_from (length c.args.bytes.now) (sym c.is_empty.ensures ∙ c.if-is_empty.false) in
    elim (cases_Bool (is_full_in c.args.self.now)) [
      | inl full ↦ omega (arith, c.in_err-make_room.ensures.media_reads, full-placed c.args.self.now c.args.bytes.now some full)
      | inr not_full ↦ absurd (err-done c.in_err-make_room.field-0.0 (c.in_err-make_room.ensures.quiet not_full).0)
    ]

pub returns-in_err-write-clause-media_reads : goal.returns-in_err-write-clause-media_reads
returns-in_err-write-clause-media_reads g c =
    let some : 1 ≤ length c.args.bytes.now = some_from (length c.args.bytes.now) (sym c.is_empty.ensures ∙ c.if-is_empty.false) in
    let e = c.in_ok-make_room.ensures in
    reads-split c.args.self.now c.make_room.new.self c.args.bytes.now some e.same e.waits _ _ _ (λ not_full. ap (λ (x : FlashState). x.media.reads) (e.quiet not_full).2) e.media_reads c.in_err-write.ensures.media_reads

pub returns-clause-media_reads : goal.returns-clause-media_reads
returns-clause-media_reads g c =
    let some : 1 ≤ length c.args.bytes.now = some_from (length c.args.bytes.now) (sym c.is_empty.ensures ∙ c.if-is_empty.false) in
    let e = c.in_ok-make_room.ensures in
    reads-split c.args.self.now c.make_room.new.self c.args.bytes.now some e.same e.waits _ _ _ (λ not_full. ap (λ (x : FlashState). x.media.reads) (e.quiet not_full).2) e.media_reads c.in_ok-write.ensures.media_reads

pub returns-in_err-write-clause-quiet : goal.returns-in_err-write-clause-quiet
returns-in_err-write-clause-quiet g c = λ room.
    let v = c.args.self.now in
    let some : 1 ≤ length c.args.bytes.now = some_from (length c.args.bytes.now) (sym c.is_empty.ensures ∙ c.if-is_empty.false) in
    let left = room-for v (length c.args.bytes.now) some room in
    let still = c.in_ok-make_room.ensures.quiet left.0 in
    let none : pages_placed c.make_room.new.self (length c.args.bytes.now) ≡ 0 = ap (λ (x : VarData). pages_placed x (length c.args.bytes.now)) still.1 ∙ left.1 in
    absurd (err-done c.in_err-write.field-0.0 (c.in_err-write.ensures.quiet none).0)

pub returns-then-is_empty-clause-off : goal.returns-then-is_empty-clause-off
returns-then-is_empty-clause-off g c = λ some.
    let none = none-there (length c.args.bytes.now) c.is_empty.result c.is_empty.ensures c.if-is_empty.true in
    absurd (omega (arith, some, placed-none c.args.self.now (length c.args.bytes.now) none))

pub returns-in_err-make_room-clause-off : goal.returns-in_err-make_room-clause-off
returns-in_err-make_room-clause-off g c = λ some.
    let p = err_from_is_err_and c.from_residual.result c.from_residual.ensures.1 in
    elim (cases_Bool (is_full_in c.args.self.now)) [
      | inl full ↦ off-err (g.F.Flash.state c.args.flash.now) (g.F.Flash.state c.make_room.new.flash) _ c.from_residual.result c.in_err-make_room.field-0.0 refl (p.1 ∙ ap (λ (x : FlashFault). Err x) p.2) (c.in_err-make_room.ensures.off full)
      | inr not_full ↦ absurd (err-done c.in_err-make_room.field-0.0 (c.in_err-make_room.ensures.quiet not_full).0)
    ]

pub returns-in_err-write-clause-off : goal.returns-in_err-write-clause-off
returns-in_err-write-clause-off g c = λ some down.
    let v = c.args.self.now in
    let e = c.in_ok-make_room.ensures in
    let p = err_from_is_err_and c.from_residual-in_err-write.result c.from_residual-in_err-write.ensures.1 in
    elim (cases_Bool (is_full_in c.args.self.now)) [
      | inl full ↦ absurd (ok-on _ _ _ (e.off full) down)
      | inr not_full ↦
          let still = e.quiet not_full in
          let pages : 1 ≤ pages_placed c.make_room.new.self (length c.args.bytes.now) =
          omega (arith, some, ap (λ (x : VarData). pages_placed x (length c.args.bytes.now)) still.1) in
          off-err (g.F.Flash.state c.args.flash.now) (g.F.Flash.state c.write.new.flash) _ c.from_residual-in_err-write.result c.in_err-write.field-0.0 refl (p.1 ∙ ap (λ (x : FlashFault). Err x) p.2)
          (subst (λ (x : FlashState). OffChangesNothing {T = Unit {0}} x (Err c.in_err-write.field-0.0) (g.F.Flash.state c.write.new.flash)) still.2 (c.in_err-write.ensures.off pages)) down
    ]

pub returns-clause-off : goal.returns-clause-off
returns-clause-off g c = λ some down.
    let v = c.args.self.now in
    let e = c.in_ok-make_room.ensures in
    elim (cases_Bool (is_full_in c.args.self.now)) [
      | inl full ↦ absurd (ok-on _ _ _ (e.off full) down)
      | inr not_full ↦
          let still = e.quiet not_full in
          let pages : 1 ≤ pages_placed c.make_room.new.self (length c.args.bytes.now) =
          omega (arith, some, ap (λ (x : VarData). pages_placed x (length c.args.bytes.now)) still.1) in
          absurd (ok-on _ _ _ (c.in_ok-write.ensures.off pages) (ap (λ (x : FlashState). x.is_on) still.2 ∙ down))
    ]

pub returns-in_err-make_room-clause-lost : goal.returns-in_err-make_room-clause-lost
returns-in_err-make_room-clause-lost g c = λ lost.
    let p = err_from_is_err_and c.from_residual.result c.from_residual.ensures.1 in
    c.in_err-make_room.ensures.lost (lost-on (Err c.in_err-make_room.field-0.0) c.from_residual.result c.in_err-make_room.field-0.0 refl (p.1 ∙ ap (λ (e : FlashFault). Err e) p.2) lost)

pub returns-in_err-write-clause-lost : goal.returns-in_err-write-clause-lost
returns-in_err-write-clause-lost g c = λ lost.
    let p = err_from_is_err_and c.from_residual-in_err-write.result c.from_residual-in_err-write.ensures.1 in
    c.in_err-write.ensures.lost (lost-on (Err c.in_err-write.field-0.0) c.from_residual-in_err-write.result c.in_err-write.field-0.0 refl (p.1 ∙ ap (λ (e : FlashFault). Err e) p.2) lost)

pub returns-in_err-write-clause-goes : goal.returns-in_err-write-clause-goes
returns-in_err-write-clause-goes g c = goes-then _ _ _ c.make_room.ensures.goes c.write.ensures.goes

pub returns-clause-goes : goal.returns-clause-goes
returns-clause-goes g c = goes-then _ _ _ c.make_room.ensures.goes c.write.ensures.goes

pub returns-then-is_empty-clause-writes : goal.returns-then-is_empty-clause-writes
returns-then-is_empty-clause-writes g c = writes-none (IsOnRing c.args.self.now) (pages_placed c.args.self.now (length c.args.bytes.now)) (g.F.Flash.state c.args.flash.now)

pub returns-in_err-make_room-clause-writes : goal.returns-in_err-make_room-clause-writes
returns-in_err-make_room-clause-writes g c =
    let some : 1 ≤ length c.args.bytes.now = some_from (length c.args.bytes.now) (sym c.is_empty.ensures ∙ c.if-is_empty.false) in
    room-writes c.args.self.now c.args.bytes.now some _ _ c.in_err-make_room.ensures.writes

pub returns-in_err-write-clause-writes : goal.returns-in_err-write-clause-writes
returns-in_err-write-clause-writes g c =
    let some : 1 ≤ length c.args.bytes.now = some_from (length c.args.bytes.now) (sym c.is_empty.ensures ∙ c.if-is_empty.false) in
    let e = c.in_ok-make_room.ensures in
    writes-split c.args.self.now c.make_room.new.self c.args.bytes.now some e.same e.waits _ _ _ e.goes.tells e.writes c.in_err-write.ensures.writes

pub returns-clause-writes : goal.returns-clause-writes
returns-clause-writes g c =
    let some : 1 ≤ length c.args.bytes.now = some_from (length c.args.bytes.now) (sym c.is_empty.ensures ∙ c.if-is_empty.false) in
    let e = c.in_ok-make_room.ensures in
    writes-split c.args.self.now c.make_room.new.self c.args.bytes.now some e.same e.waits _ _ _ e.goes.tells e.writes c.in_ok-write.ensures.writes

pub returns-then-is_empty-clause-goes : goal.returns-then-is_empty-clause-goes
returns-then-is_empty-clause-goes g c = goes-same (g.F.Flash.state c.args.flash.now)

pub returns-then-is_empty-clause-same : goal.returns-then-is_empty-clause-same
returns-then-is_empty-clause-same g c = record { geometry = refl; place = refl }

pub returns-then-is_empty-clause-lies : goal.returns-then-is_empty-clause-lies
returns-then-is_empty-clause-lies g c = c.requires.lies

pub returns-then-is_empty-clause-mounted : goal.returns-then-is_empty-clause-mounted
returns-then-is_empty-clause-mounted g c = c.requires.mounted

pub returns-then-is_empty-clause-power : goal.returns-then-is_empty-clause-power
returns-then-is_empty-clause-power g c = inl refl

pub returns-then-is_empty-clause-reference : goal.returns-then-is_empty-clause-reference
returns-then-is_empty-clause-reference g c = reference-none c.args.self.now (length c.args.bytes.now) (none-there (length c.args.bytes.now) c.is_empty.result c.is_empty.ensures c.if-is_empty.true)

pub returns-then-is_empty-clause-quiet : goal.returns-then-is_empty-clause-quiet
returns-then-is_empty-clause-quiet g c = λ room. (ap (λ (at : BlobRef). Ok at) (reference-none c.args.self.now (length c.args.bytes.now) (none-there (length c.args.bytes.now) c.is_empty.result c.is_empty.ensures c.if-is_empty.true)), refl)

pub returns-then-is_empty-clause-media_reads : goal.returns-then-is_empty-clause-media_reads
returns-then-is_empty-clause-media_reads g c = le-add_right (g.F.Flash.state c.args.flash.now).media.reads (pages_placed c.args.self.now (length c.args.bytes.now))

pub returns-then-is_empty-clause-outside : goal.returns-then-is_empty-clause-outside
returns-then-is_empty-clause-outside g c = λ told q far. refl

pub returns-then-is_empty-clause-reads : goal.returns-then-is_empty-clause-reads
returns-then-is_empty-clause-reads g c = refl

pub returns-then-is_empty-clause-lost : goal.returns-then-is_empty-clause-lost
returns-then-is_empty-clause-lost g c = λ lost. absurd (done-err _ _ lost)

pub returns-in_err-make_room-clause-goes : goal.returns-in_err-make_room-clause-goes
returns-in_err-make_room-clause-goes g c = c.make_room.ensures.goes

pub returns-in_err-make_room-clause-same : goal.returns-in_err-make_room-clause-same
returns-in_err-make_room-clause-same g c = c.make_room.ensures.same

pub returns-in_err-make_room-clause-lies : goal.returns-in_err-make_room-clause-lies
returns-in_err-make_room-clause-lies g c = c.make_room.ensures.lies

pub returns-in_err-make_room-clause-outside : goal.returns-in_err-make_room-clause-outside
returns-in_err-make_room-clause-outside g c = c.make_room.ensures.outside

pub returns-in_err-make_room-clause-reads : goal.returns-in_err-make_room-clause-reads
returns-in_err-make_room-clause-reads g c = c.make_room.ensures.reads

pub returns-in_err-make_room-clause-mounted : goal.returns-in_err-make_room-clause-mounted
returns-in_err-make_room-clause-mounted g c =
    let p = err_from_is_err_and c.from_residual.result c.from_residual.ensures.1 in
    rw p.1 c.in_err-make_room.ensures.mounted

pub returns-in_err-make_room-clause-power : goal.returns-in_err-make_room-clause-power
returns-in_err-make_room-clause-power g c =
    let p = err_from_is_err_and c.from_residual.result c.from_residual.ensures.1 in
    rw p.1 tt

pub returns-in_err-make_room-clause-reference : goal.returns-in_err-make_room-clause-reference
returns-in_err-make_room-clause-reference g c =
    let p = err_from_is_err_and c.from_residual.result c.from_residual.ensures.1 in
    rw p.1 tt

pub returns-in_err-make_room-clause-waits : goal.returns-in_err-make_room-clause-waits
returns-in_err-make_room-clause-waits g c =
    let p = err_from_is_err_and c.from_residual.result c.from_residual.ensures.1 in
    rw p.1 tt

pub returns-in_err-make_room-clause-next : goal.returns-in_err-make_room-clause-next
returns-in_err-make_room-clause-next g c =
    let p = err_from_is_err_and c.from_residual.result c.from_residual.ensures.1 in
    rw p.1 tt

pub returns-in_err-make_room-clause-oldest : goal.returns-in_err-make_room-clause-oldest
returns-in_err-make_room-clause-oldest g c =
    let p = err_from_is_err_and c.from_residual.result c.from_residual.ensures.1 in
    rw p.1 tt

pub returns-in_err-make_room-clause-quiet : goal.returns-in_err-make_room-clause-quiet
returns-in_err-make_room-clause-quiet g c =
    λ room.
    let left = room-for c.args.self.now (length c.args.bytes.now) (some_from (length c.args.bytes.now) (sym c.is_empty.ensures ∙ c.if-is_empty.false)) room in
    absurd (err-done c.in_err-make_room.field-0.0 (c.in_err-make_room.ensures.quiet left.0).0)

pub returns-in_err-make_room-clause-cause : goal.returns-in_err-make_room-clause-cause
returns-in_err-make_room-clause-cause g c =
    let p = err_from_is_err_and c.from_residual.result c.from_residual.ensures.1 in
    rw (p.1, p.2) c.in_err-make_room.ensures.cause

pub returns-in_err-write-clause-same : goal.returns-in_err-write-clause-same
returns-in_err-write-clause-same g c = plan-then c.args.self.now c.make_room.new.self c.write.new.self c.make_room.ensures.same c.write.ensures.same

pub returns-in_err-write-clause-lies : goal.returns-in_err-write-clause-lies
returns-in_err-write-clause-lies g c = c.write.ensures.lies

pub returns-in_err-write-clause-outside : goal.returns-in_err-write-clause-outside
returns-in_err-write-clause-outside g c = outside-then c.args.self.now c.make_room.new.self (g.F.Flash.state c.args.flash.now) (g.F.Flash.state c.make_room.new.flash) (g.F.Flash.state c.write.new.flash) c.make_room.ensures.same c.make_room.ensures.goes c.make_room.ensures.outside c.write.ensures.outside

pub returns-in_err-write-clause-reads : goal.returns-in_err-write-clause-reads
returns-in_err-write-clause-reads g c = c.write.ensures.reads ∙ c.make_room.ensures.reads

pub returns-clause-same : goal.returns-clause-same
returns-clause-same g c = plan-then c.args.self.now c.make_room.new.self c.write.new.self c.make_room.ensures.same c.write.ensures.same

pub returns-clause-lies : goal.returns-clause-lies
returns-clause-lies g c = c.write.ensures.lies

pub returns-clause-outside : goal.returns-clause-outside
returns-clause-outside g c = outside-then c.args.self.now c.make_room.new.self (g.F.Flash.state c.args.flash.now) (g.F.Flash.state c.make_room.new.flash) (g.F.Flash.state c.write.new.flash) c.make_room.ensures.same c.make_room.ensures.goes c.make_room.ensures.outside c.write.ensures.outside

pub returns-clause-reads : goal.returns-clause-reads
returns-clause-reads g c = c.write.ensures.reads ∙ c.make_room.ensures.reads

pub returns-in_err-write-clause-mounted : goal.returns-in_err-write-clause-mounted
returns-in_err-write-clause-mounted g c =
    let p = err_from_is_err_and c.from_residual-in_err-write.result c.from_residual-in_err-write.ensures.1 in
    rw p.1 c.in_err-write.ensures.mounted

pub returns-in_err-write-clause-power : goal.returns-in_err-write-clause-power
returns-in_err-write-clause-power g c =
    let p = err_from_is_err_and c.from_residual-in_err-write.result c.from_residual-in_err-write.ensures.1 in
    rw p.1 tt

pub returns-in_err-write-clause-reference : goal.returns-in_err-write-clause-reference
returns-in_err-write-clause-reference g c =
    let p = err_from_is_err_and c.from_residual-in_err-write.result c.from_residual-in_err-write.ensures.1 in
    rw p.1 tt

pub returns-in_err-write-clause-waits : goal.returns-in_err-write-clause-waits
returns-in_err-write-clause-waits g c =
    let p = err_from_is_err_and c.from_residual-in_err-write.result c.from_residual-in_err-write.ensures.1 in
    rw p.1 tt

pub returns-in_err-write-clause-next : goal.returns-in_err-write-clause-next
returns-in_err-write-clause-next g c =
    let p = err_from_is_err_and c.from_residual-in_err-write.result c.from_residual-in_err-write.ensures.1 in
    rw p.1 tt

pub returns-in_err-write-clause-oldest : goal.returns-in_err-write-clause-oldest
returns-in_err-write-clause-oldest g c =
    let p = err_from_is_err_and c.from_residual-in_err-write.result c.from_residual-in_err-write.ensures.1 in
    rw p.1 tt

pub returns-clause-mounted : goal.returns-clause-mounted
returns-clause-mounted g c = c.in_ok-write.ensures.mounted

pub returns-clause-lost : goal.returns-clause-lost
returns-clause-lost g c = λ lost. absurd (done-err _ _ lost)

pub make_room-requires-clause-mounted : goal.make_room-requires-clause-mounted
make_room-requires-clause-mounted g c = c.requires.mounted

pub make_room-requires-clause-lies : goal.make_room-requires-clause-lies
make_room-requires-clause-lies g c = c.requires.lies

pub make_room-requires-clause-left : goal.make_room-requires-clause-left
make_room-requires-clause-left g c = left-one (next_in c.args.self.now) c.requires.left

pub write-requires-clause-mounted : goal.write-requires-clause-mounted
write-requires-clause-mounted g c = c.in_ok-make_room.ensures.mounted

pub write-requires-clause-lies : goal.write-requires-clause-lies
write-requires-clause-lies g c = c.make_room.ensures.lies

pub write-requires-clause-some : goal.write-requires-clause-some
write-requires-clause-some g c = some_from (length c.args.bytes.now) (sym c.is_empty.ensures ∙ c.if-is_empty.false)

pub write-requires-clause-few : goal.write-requires-clause-few
write-requires-clause-few g c = c.requires.few

pub write-requires-clause-room : goal.write-requires-clause-room
write-requires-clause-room g c = c.in_ok-make_room.ensures.room

pub write-requires-clause-left : goal.write-requires-clause-left
write-requires-clause-left g c = left-then (is_full_in c.args.self.now) (next_in c.args.self.now) (next_in c.make_room.new.self) c.in_ok-make_room.ensures.next c.requires.left

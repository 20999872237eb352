use Rattle.std.proofs.Common.{◌≡◌, ◌-◌, ◌<◌, ◌≤◌, ℕ, Result, Ok, Err, [], ◌∷◌, length, refl, sym, ◌∙◌, ap, subst, arith, List, Option, ◌+◌, ◌^◌}
use Rattle.std.proofs.lemmas.Result.{err_from_is_err_and}
use Rattle.fl_flash.specs.Flash.{page_at}
use Rattle.fl_flash.specs.declared.flash.FlashFault.{FlashFault}
use Rattle.fl_model.specs.Table.{VarRing}
use Rattle.fl_ring.specs.Written.{done}
use Rattle.fl_ring.proofs.Written.{held-writes, page-as}
use Rattle.fl_ring.specs.Operations.{change, seal_kinds}
use Rattle.fl_ring.specs.Place.{next_of, shape_of, StandsFor, LiesOn}
use Rattle.fl_ring.specs.Ring.{Shape, OutsideStands, oldest, place, sealed}
use Rattle.fl_ring.specs.Sealing.{Performed}
use Rattle.fl_var.specs.Content.{content_body}
use Rattle.fl_var.specs.Memory.{next_in, waiting_in, room_in, var_shape}
use Rattle.fl_var.proofs.SealsInTable.{seal-breaks, seal-finishes, seal-err, ready, pages-size, next-is}
use Rattle.fl_var.proofs.Ahead.{held-ahead}
use Rattle.fl_var.proofs.OldestKept.{sealed-oldest}
use Rattle.fl_var.proofs.States.{state_of}
use Rattle.fl_var.proofs.BufferedBytes.{seal-power, seal-lost, lost-on, off-err}
use Rattle.std.specs.Option.{is_some}
use Rattle.std.proofs.lemmas.Bool.{true≢false}
use Rattle.std.proofs.lemmas.Option.{none-some, same_Some}
use Rattle.fl_ring.specs.Mounting.{shape_at}
use Rattle.fl_ring.specs.declared.ring.Ring.{Ring}
use Rattle.fl_var.proofs.PageLooks.{lies-later}
use Rattle.fl_var.proofs.ByMemory.{room-still, room-cleared, done-err}
use Rattle.fl_var.proofs.var_data.VarData.seal.Goals as goal

pub returns-in_err-seal-clause-ends : goal.returns-in_err-seal-clause-ends
returns-in_err-seal-clause-ends g c = λ plan table rose device watched has waits.
    let v = c.args.self.now in
    let f = g.F.Flash.state c.args.flash.now in
    let h = g.F.Flash.state c.seal.new.flash in
    let ring = c.in-Some.ring in
    let body = c.body.result.now in
    let lies = c.requires.lies in
    let goes = c.in_err-seal.ensures.flash.goes in
    let ring_is = sym c.take.ensures.value ∙ c.in-Some.is in
    let sizes = pages-size v f (g.met.F.Flash.reaches c.args.flash.now) lies.geometry lies.within in
    let later = pages-size v h (g.met.F.Flash.reaches c.seal.new.flash) (goes.geometry ∙ lies.geometry) (omega (arith, goes.blocks, lies.within)) in
    let room : length c.args.self.now.waiting.body - 8 ≡ room_in c.args.self.now = omega (arith, v.page) in
    let number : c.next_number.result ≡ next_in c.args.self.now = c.next_number.ensures ∙ sym (next-is v ring ring_is) in
    let body_is : c.body.result.now ≡ content_body (room_in c.args.self.now) (next_in c.args.self.now) (waiting_in c.args.self.now) =
    c.body.ensures ∙ (c.finish.ensures.body ∙ (ap (λ n. content_body n c.next_number.result (waiting_in v)) room ∙ ap (λ n. content_body (room_in v) n (waiting_in v)) number)) in
    let is = ready v f h plan table has body sizes later body_is waits c.requires.some c.requires.left ring ring_is in
    let s = state_of has.ring table.var_pages in
    let done = c.in_err-seal.ensures.seals s rose device is watched in
    let p = err_from_is_err_and c.from_residual.result c.from_residual.ensures.1 in
    seal-err plan (VarRing ∷ []) table rose device v f _ h c.from_residual.result c.in_err-seal.field-0.0 (p.1 ∙ ap (λ (e : FlashFault). Err e) p.2)
    (seal-breaks v f h plan table has body sizes later body_is waits c.requires.some c.requires.left rose device c.in_err-seal.field-0.0
    (subst (λ (x : Shape). Performed x (change x body) rose (seal_kinds x s body) device s (Err c.in_err-seal.field-0.0) h) (v.lies ring ring_is) done.performed))

pub returns-in_err-seal-clause-outside : goal.returns-in_err-seal-clause-outside
returns-in_err-seal-clause-outside g c = λ told.
    let ring_is = sym c.take.ensures.value ∙ c.in-Some.is in
    subst (λ (x : Shape). OutsideStands x (page_at (g.F.Flash.state c.args.flash.now)) (page_at (g.F.Flash.state c.seal.new.flash))) (c.args.self.now.lies c.in-Some.ring ring_is) (c.in_err-seal.ensures.flash.outside told)

pub returns-clause-outside : goal.returns-clause-outside
returns-clause-outside g c = λ told.
    let ring_is = sym c.take.ensures.value ∙ c.in-Some.is in
    subst (λ (x : Shape). OutsideStands x (page_at (g.F.Flash.state c.args.flash.now)) (page_at (g.F.Flash.state c.seal.new.flash))) (c.args.self.now.lies c.in-Some.ring ring_is) (c.in_ok-seal.ensures.flash.outside told)

pub returns-clause-ends : goal.returns-clause-ends
returns-clause-ends g c = λ plan table rose device watched has waits.
    let v = c.args.self.now in
    let f = g.F.Flash.state c.args.flash.now in
    let h = g.F.Flash.state c.seal.new.flash in
    let ring = c.in-Some.ring in
    let body = c.body.result.now in
    let lies = c.requires.lies in
    let goes = c.in_ok-seal.ensures.flash.goes in
    let ring_is = sym c.take.ensures.value ∙ c.in-Some.is in
    let sizes = pages-size v f (g.met.F.Flash.reaches c.args.flash.now) lies.geometry lies.within in
    let later = pages-size v h (g.met.F.Flash.reaches c.seal.new.flash) (goes.geometry ∙ lies.geometry) (omega (arith, goes.blocks, lies.within)) in
    let room : length c.args.self.now.waiting.body - 8 ≡ room_in c.args.self.now = omega (arith, v.page) in
    let number : c.next_number.result ≡ next_in c.args.self.now = c.next_number.ensures ∙ sym (next-is v ring ring_is) in
    let body_is : c.body.result.now ≡ content_body (room_in c.args.self.now) (next_in c.args.self.now) (waiting_in c.args.self.now) =
    c.body.ensures ∙ (c.finish.ensures.body ∙ (ap (λ n. content_body n c.next_number.result (waiting_in v)) room ∙ ap (λ n. content_body (room_in v) n (waiting_in v)) number)) in
    let is = ready v f h plan table has body sizes later body_is waits c.requires.some c.requires.left ring ring_is in
    let s = state_of has.ring table.var_pages in
    let done = c.in_ok-seal.ensures.seals s rose device is watched in
    let both = subst (λ (x : Shape). (p : Performed x (change x body) rose (seal_kinds x s body) device s (Ok c.in_ok-seal.field-0) h) × StandsFor c.seal.new.self p.now.state) (v.lies ring ring_is) (done.performed, done.stands) in
    let stays = subst (λ (x : Shape). (n : ℕ) → oldest (sealed x s body) ≤ n → n < s.next → page_at h (place x n) ≡ page_at f (place x n)) (v.lies ring ring_is) (c.in_ok-seal.ensures.flash.keeps watched.told s is) in
    seal-finishes v f h plan table has body sizes later body_is waits c.requires.some c.requires.left rose device c.in_ok-seal.field-0 _ c.seal.new.self both.0 both.1 refl (record { geometry = refl; place = refl }) refl stays

pub returns-clause-power : goal.returns-clause-power
returns-clause-power g c = seal-power (shape_of c.in-Some.ring) _ _ c.body.result.now (g.F.Flash.state c.args.flash.now) (g.F.Flash.state c.seal.new.flash) _ c.in_ok-seal.ensures.flash.calls

pub returns-in_err-seal-clause-lost : goal.returns-in_err-seal-clause-lost
returns-in_err-seal-clause-lost g c = λ lost.
    let p = err_from_is_err_and c.from_residual.result c.from_residual.ensures.1 in
    seal-lost _ _ _ _ _ _ (Err c.in_err-seal.field-0.0) c.in_err-seal.ensures.flash.calls (lost-on (Err c.in_err-seal.field-0.0) c.from_residual.result c.in_err-seal.field-0.0 refl (p.1 ∙ ap (λ (e : FlashFault). Err e) p.2) lost)

pub returns-in_err-seal-clause-writes : goal.returns-in_err-seal-clause-writes
returns-in_err-seal-clause-writes g c =
    let v = c.args.self.now in
    let ring_is = sym c.take.ensures.value ∙ c.in-Some.is in
    let p = err_from_is_err_and c.from_residual.result c.from_residual.ensures.1 in
    let none : done c.from_residual.result ≡ 0 = ap (λ (x : Result (Unit {0}) FlashFault). done x) p.1 in
    held-writes v.ring c.in-Some.ring 0 (done c.from_residual.result) _ _ ring_is (omega (arith, none)) c.in_err-seal.ensures.flash.writes

pub returns-clause-writes : goal.returns-clause-writes
returns-clause-writes g c =
    let v = c.args.self.now in
    let ring_is = sym c.take.ensures.value ∙ c.in-Some.is in
    held-writes v.ring c.in-Some.ring 1 1 _ _ ring_is (omega arith) c.in_ok-seal.ensures.flash.writes

pub returns-clause-ahead : goal.returns-clause-ahead
returns-clause-ahead g c = λ told.
    let ring_is = sym c.take.ensures.value ∙ c.in-Some.is in
    held-ahead c.in-Some.ring c.body.result.now (g.F.Flash.state c.args.flash.now) (g.F.Flash.state c.seal.new.flash) (c.requires.lies.ring c.in-Some.ring ring_is) told c.args.self.now.ring ring_is c.in_ok-seal.field-0 c.in_ok-seal.ensures.flash.calls

pub returns-in_err-seal-clause-ahead : goal.returns-in_err-seal-clause-ahead
returns-in_err-seal-clause-ahead g c = let p = err_from_is_err_and c.from_residual.result c.from_residual.ensures.1 in rw p.1 tt

pub returns-clause-oldest : goal.returns-clause-oldest
returns-clause-oldest g c =
    let v = c.args.self.now in
    let ring_is = sym c.take.ensures.value ∙ c.in-Some.is in
    c.in_ok-seal.ensures.memory.kept_from ∙ sealed-oldest v c.in-Some.ring ring_is (v.lies c.in-Some.ring ring_is)

pub returns-in_err-seal-clause-page : goal.returns-in_err-seal-clause-page
returns-in_err-seal-clause-page g c = let p = err_from_is_err_and c.from_residual.result c.from_residual.ensures.1 in rw p.1 tt

pub returns-clause-page : goal.returns-clause-page
returns-clause-page g c = λ told.
    let v = c.args.self.now in
    let ring = c.in-Some.ring in
    let ring_is = sym c.take.ensures.value ∙ c.in-Some.is in
    let room : length c.args.self.now.waiting.body - 8 ≡ room_in c.args.self.now = omega (arith, v.page) in
    let number : c.next_number.result ≡ next_in c.args.self.now = c.next_number.ensures ∙ sym (next-is v ring ring_is) in
    let body_is : c.body.result.now ≡ content_body (room_in c.args.self.now) (next_in c.args.self.now) (waiting_in c.args.self.now) =
    c.body.ensures ∙ (c.finish.ensures.body ∙ (ap (λ n. content_body n c.next_number.result (waiting_in v)) room ∙ ap (λ n. content_body (room_in v) n (waiting_in v)) number)) in
    page-as (shape_of ring) (var_shape v) (next_of ring) (next_in v) c.body.result.now (content_body (room_in v) (next_in v) (waiting_in v)) (page_at (g.F.Flash.state c.args.flash.now)) (page_at (g.F.Flash.state c.seal.new.flash))
    (v.lies ring ring_is) (sym (next-is v ring ring_is)) body_is (c.in_ok-seal.ensures.flash.page told)

pub unreachable-requires : goal.unreachable-requires
unreachable-requires g c = absurd (true≢false (sym c.requires.mounted ∙ ap (λ (o : Option Ring). is_some o) (sym c.take.ensures.value ∙ c.in_default.is)))

pub unreachable-unreachable : goal.unreachable-unreachable
unreachable-unreachable g c = c.unreachable.type_inv

pub finish-requires : goal.finish-requires
finish-requires g c = record { blank = c.args.self.now.blank }

pub clear-requires : goal.clear-requires
clear-requires g c = record { blank = c.finish.ensures.blank }

pub seal-requires-clause-lies : goal.seal-requires-clause-lies
seal-requires-clause-lies g c = c.requires.lies.ring c.in-Some.ring (sym c.take.ensures.value ∙ c.in-Some.is)

pub seal-requires-clause-body : goal.seal-requires-clause-body
seal-requires-clause-body g c = ap (λ (l : List ℕ). length l + 8) c.body.ensures ∙ (ap (λ n. n + 8) c.finish.ensures.size ∙ (c.args.self.now.page ∙ sym (ap (λ (s : Shape). s.size) (c.args.self.now.lies c.in-Some.ring (sym c.take.ensures.value ∙ c.in-Some.is)))))

pub seal-requires-clause-left : goal.seal-requires-clause-left
seal-requires-clause-left g c = subst (λ n. n + 1 < 2 ^ 32) (next-is c.args.self.now c.in-Some.ring (sym c.take.ensures.value ∙ c.in-Some.is)) c.requires.left

pub invariant_of-self : goal.invariant_of-self
invariant_of-self g c =
    record {
      served = c.args.self.now.served;
      some_blocks = c.args.self.now.some_blocks;
      page = ap (λ n. n + 8) c.finish.ensures.size ∙ c.args.self.now.page;
      room = room-still c.args.self.now.waiting c.finish.new.self c.finish.ensures.fill c.finish.ensures.size c.args.self.now.room;
      blank = c.finish.ensures.blank;
      lies = λ ring is. absurd (none-some ring (sym c.take.ensures.after ∙ is));
    }

pub invariant_of-self-2 : goal.invariant_of-self-2
invariant_of-self-2 g c =
    record {
      served = c.args.self.now.served;
      some_blocks = c.args.self.now.some_blocks;
      page = ap (λ n. n + 8) (c.clear.ensures.size ∙ c.finish.ensures.size) ∙ c.args.self.now.page;
      room = room-cleared c.args.self.now c.clear.new.self c.clear.ensures.fill (c.clear.ensures.size ∙ c.finish.ensures.size);
      blank = c.clear.ensures.blank;
      lies = λ ring is. subst (λ (x : Ring). shape_of x ≡ shape_at c.args.self.now.place c.args.self.now.geometry) (same_Some _ ring is) (c.in_ok-seal.ensures.memory.same ∙ c.args.self.now.lies c.in-Some.ring (sym c.take.ensures.value ∙ c.in-Some.is));
    }

pub returns-in_err-seal-clause-goes : goal.returns-in_err-seal-clause-goes
returns-in_err-seal-clause-goes g c = c.seal.ensures.flash.goes

pub returns-in_err-seal-clause-reads : goal.returns-in_err-seal-clause-reads
returns-in_err-seal-clause-reads g c = c.seal.ensures.flash.reads

pub returns-in_err-seal-clause-media_reads : goal.returns-in_err-seal-clause-media_reads
returns-in_err-seal-clause-media_reads g c = c.seal.ensures.flash.media_reads

pub returns-in_err-seal-clause-same : goal.returns-in_err-seal-clause-same
returns-in_err-seal-clause-same g c = record { geometry = refl; place = refl }

pub returns-clause-goes : goal.returns-clause-goes
returns-clause-goes g c = c.seal.ensures.flash.goes

pub returns-clause-reads : goal.returns-clause-reads
returns-clause-reads g c = c.seal.ensures.flash.reads

pub returns-clause-media_reads : goal.returns-clause-media_reads
returns-clause-media_reads g c = c.seal.ensures.flash.media_reads

pub returns-clause-same : goal.returns-clause-same
returns-clause-same g c = record { geometry = refl; place = refl }

pub returns-in_err-seal-clause-lies : goal.returns-in_err-seal-clause-lies
returns-in_err-seal-clause-lies g c =
    let lies = lies-later c.args.self.now (g.F.Flash.state c.args.flash.now) (g.F.Flash.state c.seal.new.flash) c.requires.lies c.seal.ensures.flash.goes in
    record { geometry = lies.geometry; within = lies.within; few = lies.few; ring = λ ring is. absurd (none-some ring (sym c.take.ensures.after ∙ is)) }

pub returns-clause-lies : goal.returns-clause-lies
returns-clause-lies g c =
    let lies = lies-later c.args.self.now (g.F.Flash.state c.args.flash.now) (g.F.Flash.state c.seal.new.flash) c.requires.lies c.seal.ensures.flash.goes in
    record { geometry = lies.geometry; within = lies.within; few = lies.few; ring = λ ring is. subst (λ (x : Ring). LiesOn x (g.F.Flash.state c.seal.new.flash)) (same_Some _ ring is) c.in_ok-seal.ensures.memory.lies }

pub returns-in_err-seal-clause-mounted : goal.returns-in_err-seal-clause-mounted
returns-in_err-seal-clause-mounted g c =
    let p = err_from_is_err_and c.from_residual.result c.from_residual.ensures.1 in
    rw p.1 (ap (λ (o : Option Ring). is_some o) c.take.ensures.after)

pub returns-in_err-seal-clause-next : goal.returns-in_err-seal-clause-next
returns-in_err-seal-clause-next g c =
    let p = err_from_is_err_and c.from_residual.result c.from_residual.ensures.1 in
    rw p.1 tt

pub returns-in_err-seal-clause-oldest : goal.returns-in_err-seal-clause-oldest
returns-in_err-seal-clause-oldest g c =
    let p = err_from_is_err_and c.from_residual.result c.from_residual.ensures.1 in
    rw p.1 tt

pub returns-in_err-seal-clause-power : goal.returns-in_err-seal-clause-power
returns-in_err-seal-clause-power g c =
    let p = err_from_is_err_and c.from_residual.result c.from_residual.ensures.1 in
    rw p.1 tt

pub returns-in_err-seal-clause-empty : goal.returns-in_err-seal-clause-empty
returns-in_err-seal-clause-empty g c =
    let p = err_from_is_err_and c.from_residual.result c.from_residual.ensures.1 in
    rw p.1 tt

pub returns-in_err-seal-clause-off : goal.returns-in_err-seal-clause-off
returns-in_err-seal-clause-off g c =
    let p = err_from_is_err_and c.from_residual.result c.from_residual.ensures.1 in
    off-err (g.F.Flash.state c.args.flash.now) (g.F.Flash.state c.seal.new.flash) (Err c.in_err-seal.field-0.0) c.from_residual.result c.in_err-seal.field-0.0 refl (p.1 ∙ ap (λ (e : FlashFault). Err e) p.2) c.in_err-seal.ensures.flash.off

pub returns-in_err-seal-clause-cause : goal.returns-in_err-seal-clause-cause
returns-in_err-seal-clause-cause g c =
    let p = err_from_is_err_and c.from_residual.result c.from_residual.ensures.1 in
    rw (p.1, p.2) c.in_err-seal.ensures.flash.cause

pub returns-clause-mounted : goal.returns-clause-mounted
returns-clause-mounted g c = refl

pub returns-clause-next : goal.returns-clause-next
returns-clause-next g c = c.in_ok-seal.ensures.memory.next ∙ ap (λ n. n + 1) (sym (next-is c.args.self.now c.in-Some.ring (sym c.take.ensures.value ∙ c.in-Some.is)))

pub returns-clause-empty : goal.returns-clause-empty
returns-clause-empty g c = c.clear.ensures.content

pub returns-clause-off : goal.returns-clause-off
returns-clause-off g c = c.in_ok-seal.ensures.flash.off

pub returns-clause-lost : goal.returns-clause-lost
returns-clause-lost g c = λ lost. absurd (done-err tt _ lost)

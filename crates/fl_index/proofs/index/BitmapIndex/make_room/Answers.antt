use Rattle.std.proofs.Common.{ℕ, ◌<◌, Bool, Some, cond, refl, sym, ap, subst, arith, not-le_of_lt}
use Rattle.std.proofs.lemmas.Bool.{ne_eqb}
use Rattle.fl_ring.specs.Written.{done}
use Rattle.fl_ring.proofs.Written.{writes-none, writes-fewer}
use Rattle.fl_index.specs.Memory.{first_in, first_waiting, next_in, MaySeal}
use Rattle.fl_index.proofs.Rooms.{makes-nothing, makes-room}
use Rattle.fl_frame.proofs.CallsInTurn.{goes-same}
use Rattle.fl_index.proofs.Limits.{still-room}
use Rattle.fl_index.proofs.index.BitmapIndex.make_room.Goals as goal

pub returns-then-self-capacity-clause-ends : goal.returns-then-self-capacity-clause-ends
returns-then-self-capacity-clause-ends g c = λ first plan table rose device watched stands.
    makes-nothing c.args.self.now (g.F.Flash.state c.args.flash.now) first plan table rose device watched stands (omega (arith, c.if-self-capacity.true, c.capacity.ensures))

pub returns-clause-ends : goal.returns-clause-ends
returns-clause-ends g c = λ first plan table rose device watched stands.
    makes-room c.args.self.now (g.F.Flash.state c.args.flash.now) first plan table rose device stands (omega (arith, c.if-self-capacity.false, c.capacity.ensures, c.args.self.now.few)) c.seal.result c.seal.new.self (g.F.Flash.state c.seal.new.flash)
    (c.seal.ensures.ends first plan table rose device watched stands)

pub returns-then-self-capacity-clause-firsts : goal.returns-then-self-capacity-clause-firsts
returns-then-self-capacity-clause-firsts g c = λ number low high fits.
    let t = c.args.self.now in
    let before : number < next_in t = high in
    sym (ap (λ (b : Bool). cond b (Some (first_waiting t)) (first_in t number)) (ne_eqb number (next_in t) (λ e. omega (arith, e, before))))

pub returns-clause-firsts : goal.returns-clause-firsts
returns-clause-firsts g c = c.seal.ensures.firsts

pub returns-then-self-capacity-clause-writes : goal.returns-then-self-capacity-clause-writes
returns-then-self-capacity-clause-writes g c = writes-none (MaySeal c.args.self.now) 1 (g.F.Flash.state c.args.flash.now)

pub returns-clause-writes : goal.returns-clause-writes
returns-clause-writes g c = writes-fewer (MaySeal c.args.self.now) (done c.seal.result) 1 _ _ c.seal.ensures.writes

pub returns-then-self-capacity-clause-goes : goal.returns-then-self-capacity-clause-goes
returns-then-self-capacity-clause-goes g c = goes-same (g.F.Flash.state c.args.flash.now)

pub returns-then-self-capacity-clause-same : goal.returns-then-self-capacity-clause-same
returns-then-self-capacity-clause-same g c = record { geometry = refl; place = refl; bits = refl; full = refl }

pub returns-then-self-capacity-clause-lies : goal.returns-then-self-capacity-clause-lies
returns-then-self-capacity-clause-lies g c = c.requires.lies

pub returns-then-self-capacity-clause-room : goal.returns-then-self-capacity-clause-room
returns-then-self-capacity-clause-room g c = subst (λ (n : ℕ). c.args.self.now.waiting < n) c.capacity.ensures.exact c.if-self-capacity.true

pub returns-then-self-capacity-clause-next : goal.returns-then-self-capacity-clause-next
returns-then-self-capacity-clause-next g c = refl

pub returns-then-self-capacity-clause-number : goal.returns-then-self-capacity-clause-number
returns-then-self-capacity-clause-number g c = still-room _ _ _ _ (subst (λ (n : ℕ). c.args.self.now.waiting < n) c.capacity.ensures.exact c.if-self-capacity.true)

pub returns-then-self-capacity-clause-oldest : goal.returns-then-self-capacity-clause-oldest
returns-then-self-capacity-clause-oldest g c = still-room _ _ _ _ (subst (λ (n : ℕ). c.args.self.now.waiting < n) c.capacity.ensures.exact c.if-self-capacity.true)

pub returns-then-self-capacity-clause-nothing : goal.returns-then-self-capacity-clause-nothing
returns-then-self-capacity-clause-nothing g c = λ room. (refl, refl, refl)

pub returns-then-self-capacity-clause-running : goal.returns-then-self-capacity-clause-running
returns-then-self-capacity-clause-running g c = c.requires.running

pub returns-then-self-capacity-clause-outside : goal.returns-then-self-capacity-clause-outside
returns-then-self-capacity-clause-outside g c = λ told q out. refl

pub returns-then-self-capacity-clause-reads : goal.returns-then-self-capacity-clause-reads
returns-then-self-capacity-clause-reads g c = refl

pub returns-then-self-capacity-clause-power : goal.returns-then-self-capacity-clause-power
returns-then-self-capacity-clause-power g c = λ on. on

pub returns-then-self-capacity-clause-off : goal.returns-then-self-capacity-clause-off
returns-then-self-capacity-clause-off g c = λ full. absurd (not-le_of_lt (subst (λ (n : ℕ). c.args.self.now.waiting < n) c.capacity.ensures.exact c.if-self-capacity.true) full)

pub seal-requires-clause-running : goal.seal-requires-clause-running
seal-requires-clause-running g c = c.requires.running

pub seal-requires-clause-lies : goal.seal-requires-clause-lies
seal-requires-clause-lies g c = c.requires.lies

pub seal-requires-clause-left : goal.seal-requires-clause-left
seal-requires-clause-left g c = c.requires.left

pub returns-clause-goes : goal.returns-clause-goes
returns-clause-goes g c = c.seal.ensures.goes

pub returns-clause-same : goal.returns-clause-same
returns-clause-same g c = c.seal.ensures.same

pub returns-clause-lies : goal.returns-clause-lies
returns-clause-lies g c = c.seal.ensures.lies

pub returns-clause-running : goal.returns-clause-running
returns-clause-running g c = c.seal.ensures.running

pub returns-clause-broken : goal.returns-clause-broken
returns-clause-broken g c = c.seal.ensures.broken

pub returns-clause-outside : goal.returns-clause-outside
returns-clause-outside g c = c.seal.ensures.outside

pub returns-clause-reads : goal.returns-clause-reads
returns-clause-reads g c = c.seal.ensures.reads

pub returns-clause-media_reads : goal.returns-clause-media_reads
returns-clause-media_reads g c = c.seal.ensures.media_reads

pub returns-clause-cause : goal.returns-clause-cause
returns-clause-cause g c = c.seal.ensures.cause

pub returns-clause-power : goal.returns-clause-power
returns-clause-power g c = c.seal.ensures.power

pub returns-clause-off : goal.returns-clause-off
returns-clause-off g c = λ full. c.seal.ensures.off

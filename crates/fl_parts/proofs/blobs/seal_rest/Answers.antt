use Rattle.std.proofs.Common.{◌≡◌, ◌⊎◌, inl, inr, ℕ, List, [], ◌∷◌, length, Ok, OnOk, Option, Some, IfSome, IsTrue, ◌≤◌, refl, sym, ap, subst, arith}
use Rattle.fl_parts.specs.Blobs.{RestEndsOf, oldest_after, MaySeal, rings_of}
use Rattle.fl_parts.proofs.BlobSteps.{rest-ends}
use Rattle.fl_flash.specs.Flash.{FlashState, OffChangesNothing, page_at}
use Rattle.fl_parts.proofs.CallsOff.{off-either}
use Rattle.fl_var.specs.Memory as memory
use Rattle.fl_var.specs.Memory.{oldest_in, waiting_in, BytesAhead, BytesPaged}
use Rattle.fl_parts.proofs.blobs.seal_rest.Goals as goal
use Rattle.fl_ring.specs.Written.{Writes}
use Rattle.fl_ring.proofs.Written.{writes-none, writes-wider}
use Rattle.fl_var.specs.declared.var_data.VarData.{VarData}

pub returns-in-Some-clause-ends : goal.returns-in-Some-clause-ends
returns-in-Some-clause-ends g c = λ first plan table rose device.
    let f = g.F.Flash.state c.args.flash.now in
    let h = g.F.Flash.state c.seal_rest.new.flash in
    let e = c.seal_rest.ensures in
    let is : c.args.blobs.now ≡ Some c.in-Some.var = c.in-Some.is in
    subst (λ (o : Option VarData). RestEndsOf o f first plan table rose device c.seal_rest.result (Some c.seal_rest.new.self) h) (sym is)
    (λ watched stands. rest-ends c.in-Some.var c.seal_rest.new.self f h first plan table e.same stands rose device c.seal_rest.result (e.ends plan table rose device watched stands.in_pages))

pub returns-in-Some-clause-oldest : goal.returns-in-Some-clause-oldest
returns-in-Some-clause-oldest g c = subst (λ (o : Option VarData). OnOk c.seal_rest.result (oldest_in c.seal_rest.new.self ≡ oldest_after o)) (sym c.in-Some.is) c.seal_rest.ensures.oldest

pub returns-in-Some-clause-off : goal.returns-in-Some-clause-off
returns-in-Some-clause-off g c =
    off-either (g.F.Flash.state c.args.flash.now) (g.F.Flash.state c.seal_rest.new.flash) c.seal_rest.result tt (by_bytes (waiting_in c.in-Some.var) refl)
  where
    by_bytes : (bytes : List ℕ) → waiting_in c.in-Some.var ≡ bytes →
        ((c.seal_rest.result ≡ Ok tt) × (g.F.Flash.state c.seal_rest.new.flash ≡ g.F.Flash.state c.args.flash.now)) ⊎ OffChangesNothing (g.F.Flash.state c.args.flash.now) c.seal_rest.result (g.F.Flash.state c.seal_rest.new.flash)
    by_bytes [] none = inl (c.seal_rest.ensures.quiet none)
    by_bytes (x ∷ xs) some = inr (c.seal_rest.ensures.off (omega (arith, ap length some)))

pub returns-in-Some-clause-writes : goal.returns-in-Some-clause-writes
returns-in-Some-clause-writes g c =
    let is : c.args.blobs.now ≡ Some c.in-Some.var = c.in-Some.is in
    subst (λ (o : Option VarData). Writes (MaySeal o) 0 (rings_of o) (g.F.Flash.state c.args.flash.now) (g.F.Flash.state c.seal_rest.new.flash)) (sym is) (by_bytes (waiting_in c.in-Some.var) refl)
  where
    by_bytes : (bytes : List ℕ) → waiting_in c.in-Some.var ≡ bytes → Writes (MaySeal (Some c.in-Some.var)) 0 1 (g.F.Flash.state c.args.flash.now) (g.F.Flash.state c.seal_rest.new.flash)
    by_bytes [] none =
        subst (λ (s : FlashState). Writes (MaySeal (Some c.in-Some.var)) 0 1 (g.F.Flash.state c.args.flash.now) s) (sym (c.seal_rest.ensures.quiet none).1) (writes-none (MaySeal (Some c.in-Some.var)) 1 (g.F.Flash.state c.args.flash.now))
    by_bytes (x ∷ xs) some =
        let waits : 1 ≤ length (waiting_in c.in-Some.var) = omega (arith, ap length some) in
        writes-wider (memory.MaySeal c.in-Some.var) (MaySeal (Some c.in-Some.var)) 0 0 1 1 (g.F.Flash.state c.args.flash.now) (g.F.Flash.state c.seal_rest.new.flash) (λ page may. (waits, may)) (omega arith) (omega arith) c.seal_rest.ensures.writes

pub returns-in-None-clause-writes : goal.returns-in-None-clause-writes
returns-in-None-clause-writes g c = writes-none (MaySeal c.args.blobs.now) (rings_of c.args.blobs.now) (g.F.Flash.state c.args.flash.now)

pub returns-in-Some-clause-page : goal.returns-in-Some-clause-page
returns-in-Some-clause-page g c =
    subst (λ (o : Option VarData). IfSome o (λ var. 1 ≤ length (waiting_in var) → OnOk c.seal_rest.result (IsTrue (g.F.Flash.state c.args.flash.now).media.tells → BytesPaged var (page_at (g.F.Flash.state c.args.flash.now)) (page_at (g.F.Flash.state c.seal_rest.new.flash))))) (sym c.in-Some.is)
    c.seal_rest.ensures.page

pub returns-in-Some-clause-ahead : goal.returns-in-Some-clause-ahead
returns-in-Some-clause-ahead g c =
    subst (λ (o : Option VarData). IfSome o (λ var. 1 ≤ length (waiting_in var) → OnOk c.seal_rest.result (IsTrue (g.F.Flash.state c.args.flash.now).media.tells → BytesAhead var (λ page. ⊥) (page_at (g.F.Flash.state c.seal_rest.new.flash))))) (sym c.in-Some.is)
    c.seal_rest.ensures.ahead

pub returns-in-None-clause-ahead : goal.returns-in-None-clause-ahead
returns-in-None-clause-ahead g c = rw c.in-None.is tt

pub returns-in-None-clause-page : goal.returns-in-None-clause-page
returns-in-None-clause-page g c = rw c.in-None.is tt

-- The tables are flushed one after another at the end, whatever bytes the flash has.
use Rattle.std.proofs.Common.{◌≡◌, ℕ, ◌+◌, ◌<◌, ◌≤◌, Bool, true, false, IfSome, List, [], ◌∷◌, ◌++◌, length, map, take, refl, sym, ◌∙◌, ap, subst, take_all, arith}
use Rattle.std.specs.Prelude.{◌&&◌, if◌then◌else◌}
use Rattle.std.specs.List.{slice_get}
use Rattle.std.proofs.lemmas.List.{map-append}
use Rattle.std.proofs.Math.Bool.{and-true, and_assoc}
use Rattle.fl_model.specs.Record.{Plan}
use Rattle.fl_session.specs.Caused.{State}
use Rattle.fl_shell.specs.Caused.{CausesFlush, CausesFlushes, PendingAre, PendingIs}
use Rattle.fl_shell.proofs.TableFlushes.{plan-more}

-- the names of tables
abbrev pub names : List Plan → List (List ℕ)
names plans = map (λ (plan : Plan). plan.name) plans

-- .. and of one more
pub names-more : (plans : List Plan) (at : ℕ) (name : List ℕ) → at < length plans → IfSome (slice_get plans at) (λ plan. name ≡ plan.name) → names (take (at + 1) plans) ≡ names (take at plans) ++ name ∷ []
names-more plans at name lt is =
    let r = plan-more plans at name lt is in
    ap names r.2 ∙ (map-append (λ (plan : Plan). plan.name) (take at plans) (r.0 ∷ []) ∙ ap (λ n. names (take at plans) ++ n ∷ []) (sym r.1))

pub all-named : (plans : List Plan) (at : ℕ) → length plans ≤ at → names (take at plans) ≡ names plans
all-named plans at end = ap names (take_all at plans end)

-- how many rows are pending, with those of one more table
pub pending-more : (s : State) (all : List (List ℕ)) (name : List ℕ) (rows one : ℕ) → PendingAre s all rows → PendingIs s name one → PendingAre s (all ++ name ∷ []) (rows + one)
pending-more s [] name rows one h is = (one, 0, is, refl, omega (arith, h))
pending-more s (first ∷ all) name rows one h is = (h.0, h.1 + one, h.2, pending-more s all name h.1 one h.3 is, omega (arith, h.4))

-- .. and one more is flushed
pub flushes-more : (all : List (List ℕ)) (name : List ℕ) (old mid new : State) (done one : Bool) → CausesFlushes all old mid done → CausesFlush mid new name one → CausesFlushes (all ++ name ∷ []) old new (done && one)
flushes-more [] name old mid new done one h flush = (
  new,
  one,
  true,
  subst (λ s. CausesFlush s new name one) h.0 flush,
  (refl, refl),
  ap (λ (b : Bool). b && one) h.1 ∙ sym (and-true one),
)
flushes-more (first ∷ all) name old mid new done one h flush = (
  h.0,
  h.1,
  h.2 && one,
  h.3,
  flushes-more all name h.0 mid new h.2 one h.4 flush,
  ap (λ (b : Bool). b && one) h.5 ∙ and_assoc h.1 h.2 one,
)

-- a flag that goes on while each is done
pub both-is : (a b : Bool) → (if a then b else false) ≡ (a && b)
both-is true b = refl
both-is false b = refl

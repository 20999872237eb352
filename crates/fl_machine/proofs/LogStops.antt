-- A table with a log that stops between two operations: what is found of it.
use Rattle.std.proofs.Common.{◌≡◌, ℕ, ◌-◌, ◌<◌, Bool, true, false, cond, not, ◌&&◌, ◌==◌, Option, Some, None, IfSome, List, [], ◌∷◌, ◌++◌, length, take, drop, filter, refl, sym, ◌∙◌, ap, subst, arith, ◌⊎◌, inl, inr, length-append, IsTrue, eq-eqb}
use Rattle.std.specs.List.{AllByRecursion, last_or}
use Rattle.std.specs.Option.{option_map, unwrap_or}
use Rattle.std.proofs.lemmas.List.{append_assoc}
use Rattle.std.proofs.Math.Seq.{take-append_seam}
use Rattle.std.proofs.lemmas.Bool.{eqb-true}
use Rattle.std.proofs.lemmas.Option.{none-some}
use Rattle.fl_model.specs.Table.{Entry, is_after}
use Rattle.fl_model.specs.Log.{last_key}
use Rattle.fl_model.proofs.Lists.{last_or-push, drop_none, each-front}
use Rattle.fl_machine.specs.Found.{LoggedPast}
use Rattle.fl_machine.proofs.Logs.{Core, front_of, rest_of, owed_of, IsFine, EndsFull, IsReady, IsJoining, Phase, past_in, lost, IsOwedFound, RestsAs, filter_all, splits, front-all, rest-length, owed-lost, fine-lost, Idle, Ready, Joining}

-- an operation that isn't done leaves what the log has
pub ready-owed : (c : Core) → IsReady c → owed_of c ≡ rest_of c
ready-owed c h = ap (λ (es : List Entry). filter (λ e. is_after (front_of c) e) es) h.same ∙ filter_all (λ e. is_after (front_of c) e) (rest_of c) h.above

pub held-pending : (c : Core) (g : ℕ) → 0 < c.pending → (past_in c g).held ≡ c.entries
held-pending c g some = by_test (c.pending == 0) refl
  where
    by_test : (b : Bool) → (c.pending == 0) ≡ b → cond b (c.entries ++ owed_of c) c.entries ≡ c.entries
    by_test true e = let z = eqb-true c.pending 0 e in absurd (omega (arith, z, some))
    by_test false e = refl

pub owing-pending : (c : Core) (g : ℕ) → 0 < c.pending → (past_in c g).pending ≡ c.pending
owing-pending c g some = by_test (c.pending == 0) refl
  where
    by_test : (b : Bool) → (c.pending == 0) ≡ b → cond b (length (owed_of c)) c.pending ≡ c.pending
    by_test true e = let z = eqb-true c.pending 0 e in absurd (omega (arith, z, some))
    by_test false e = refl

-- where the log doesn't have the last record
pub unlogged-joining : (c : Core) (g : ℕ) → IsFine c → (h : IsJoining c) → IsTrue (past_in c g).unlogged
unlogged-joining c g fine h = by_tests (c.pending == 0) refl (last_or None c.logged) refl
  where
    some : 0 < c.pending
    some = let n = rest-length c fine in let m : length (rest_of c) ≡ length (h.front ++ h.new ∷ []) = ap (λ (zs : List Entry). length zs) h.is in omega (arith, n, m, length-append h.front (h.new ∷ []))

    last_is : last_key c.entries ≡ h.new.kept.key
    last_is =
        let whole : c.entries ≡ (front_of c ++ h.front) ++ h.new ∷ [] = sym (splits c) ∙ (ap (λ (es : List Entry). front_of c ++ es) h.is ∙ sym (append_assoc (front_of c) h.front (h.new ∷ []))) in
        ap (λ (o : Option Entry). unwrap_or (option_map (λ (e : Entry). e.kept.key) o) 0) (ap (last_or None) whole ∙ last_or-push None (front_of c ++ h.front) h.new)

    last_in : (es : List Entry) (o : Option Entry) (last : Entry) → AllByRecursion (λ e. e.kept.key < h.new.kept.key) es → IfSome o (λ e. e.kept.key < h.new.kept.key) → last_or o es ≡ Some last → last.kept.key < h.new.kept.key
    last_in [] None last a k e = absurd (none-some last e)
    last_in [] (Some x) last a k e = let same : x ≡ last = cc in subst (λ (y : Entry). y.kept.key < h.new.kept.key) same k
    last_in (x ∷ xs) o last a k e = last_in xs (Some x) last a.1 a.0 e

    differ : (last : Entry) → last_or None c.logged ≡ Some last → (last.kept.key == last_key c.entries) ≡ false
    differ last e = by_eq (last.kept.key == last_key c.entries) refl
      where
        by_eq : (b : Bool) → (last.kept.key == last_key c.entries) ≡ b → b ≡ false
        by_eq true q = let same = eqb-true last.kept.key (last_key c.entries) q in let less = last_in c.logged None last h.behind tt e in absurd (omega (arith, same, last_is, less))
        by_eq false q = refl

    by_tests : (b : Bool) → (c.pending == 0) ≡ b → (o : Option Entry) → last_or None c.logged ≡ o → IsTrue (not b && not (unwrap_or (option_map (λ (last : Entry). last.kept.key == last_key c.entries) o) false))
    by_tests true e o k = let z = eqb-true c.pending 0 e in absurd (omega (arith, z, some))
    by_tests false e None k = refl
    by_tests false e (Some last) k = rw (differ last k) refl

-- a list cut before its last part
pub take_seam : (held es more : List Entry) (n : ℕ) → held ≡ es ++ more → n ≡ length more → take (length held - n) held ≡ es
take_seam held es more n e k =
    let len : length held - n ≡ length es = let m : length held ≡ length (es ++ more) = ap (λ (zs : List Entry). length zs) e in omega (arith, m, k, length-append es more) in
    ap (λ i. take i held) len ∙ (ap (take (length es)) e ∙ take-append_seam es more)

pub drop_zero : (n : ℕ) (es : List Entry) → n ≡ 0 → drop n es ≡ es
drop_zero n es e = ap (λ k. drop k es) e ∙ drop_none es

-- all that is held is found, where it is in data pages or owed
pub owed-found : (past : LoggedPast) (c : Core) (es more : List Entry) → past.given_up ≡ 0 → past.held ≡ es ++ more → past.pending ≡ length more → c.entries ≡ es → owed_of c ≡ more → IsOwedFound past c
owed-found past c es more none held pending is owes =
    let first : drop past.given_up (take (length past.held - past.pending) past.held) ≡ es = drop_zero past.given_up (take (length past.held - past.pending) past.held) none ∙ take_seam past.held es more past.pending held pending in
    inr (inl (is ∙ sym first, inl ((ap (λ xs. xs ++ owed_of c) is ∙ ap (λ ys. es ++ ys) owes) ∙ sym (drop_zero past.given_up past.held none ∙ held))))

-- .. or all but the last
behind-found : (past : LoggedPast) (c : Core) (es front : List Entry) (new : Entry) → past.given_up ≡ 0 → past.held ≡ es ++ (front ++ new ∷ []) → past.pending ≡ length (front ++ new ∷ []) → IsTrue past.unlogged →
    c.entries ≡ es → owed_of c ≡ front → IsOwedFound past c
behind-found past c es front new none held pending unlogged is owes =
    let first : drop past.given_up (take (length past.held - past.pending) past.held) ≡ es = drop_zero past.given_up (take (length past.held - past.pending) past.held) none ∙ take_seam past.held es (front ++ new ∷ []) past.pending held pending in
    let cut : take (length past.held - 1) past.held ≡ es ++ front = take_seam past.held (es ++ front) (new ∷ []) 1 (held ∙ sym (append_assoc es front (new ∷ []))) (omega arith) in
    inr (inl (is ∙ sym first, inr (unlogged, (ap (λ xs. xs ++ owed_of c) is ∙ ap (λ ys. es ++ ys) owes) ∙ sym (drop_zero past.given_up (take (length past.held - 1) past.held) none ∙ cut))))

joining-owed : (c : Core) → (h : IsJoining c) → owed_of c ≡ h.front
joining-owed c h = by_case h.logged
  where
    by_case : ((c.logged ≡ h.front) × EndsFull c) ⊎ ((h.front ≡ []) × (owed_of c ≡ []) × (c.torn ≡ false)) → owed_of c ≡ h.front
    by_case (inl k) = ap (λ (es : List Entry). filter (λ e. is_after (front_of c) e) es) k.0 ∙ filter_all (λ e. is_after (front_of c) e) h.front (each-front (λ e. IsTrue (is_after (front_of c) e)) h.front (h.new ∷ []) h.above)
    by_case (inr k) = k.1 ∙ sym k.0

pub joining-some : (c : Core) → IsFine c → IsJoining c → 0 < c.pending
joining-some c fine h =
    let n = rest-length c fine in
    let m : length (rest_of c) ≡ length (h.front ++ h.new ∷ []) = ap (λ (zs : List Entry). length zs) h.is in
    omega (arith, n, m, length-append h.front (h.new ∷ []))

-- what a table is found as that stops before an operation, or that ends its session
pub rests-here : (c : Core) (g : ℕ) → g ≡ 0 → IsFine c → Phase c → RestsAs (past_in c g) (lost c)
rests-here c g gone fine phase = record { fine = fine-lost c fine; none = refl; found = by_phase phase }
  where
    idle : c.pending ≡ 0 → IsOwedFound (past_in c g) (lost c)
    idle none =
        let b : (c.pending == 0) ≡ true = eq-eqb c.pending 0 none in
        owed-found (past_in c g) (lost c) c.entries (owed_of c) gone (ap (λ t. cond t (c.entries ++ owed_of c) c.entries) b) (ap (λ t. cond t (length (owed_of c)) c.pending) b) (front-all c none) (owed-lost c)

    by_phase : Phase c → IsOwedFound (past_in c g) (lost c)
    by_phase (Idle h) = idle h.none
    by_phase (Ready h) =
        owed-found (past_in c g) (lost c) (front_of c) (rest_of c) gone (held-pending c g h.some ∙ sym (splits c)) (owing-pending c g h.some ∙ sym (rest-length c fine)) refl (owed-lost c ∙ ready-owed c h)
    by_phase (Joining h) =
        let some = joining-some c fine h in
        behind-found (past_in c g) (lost c) (front_of c) h.front h.new gone (held-pending c g some ∙ (sym (splits c) ∙ ap (λ (es : List Entry). front_of c ++ es) h.is))
        (owing-pending c g some ∙ (sym (rest-length c fine) ∙ ap (λ (zs : List Entry). length zs) h.is)) (unlogged-joining c g fine h) refl (owed-lost c ∙ joining-owed c h)

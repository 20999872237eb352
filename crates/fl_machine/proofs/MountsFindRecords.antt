-- Each mount that succeeds finds the records: by induction on the run.
use Rattle.std.proofs.Common.{◌≡◌, ◌≢◌, ℕ, zero, suc, ◌+◌, ◌-◌, ◌<◌, Bool, true, false, cond, Some, List, [], ◌∷◌, ◌++◌, length, map, take, drop, refl, sym, ◌∙◌, ap, subst, arith, ◌⊎◌, inl, inr, length-drop}
use Rattle.std.specs.List.{slice_get, AllByRecursion}
use Rattle.std.proofs.Math.Seq.{take-length}
use Rattle.fl_model.specs.Record.{Plan, has_index, has_var, has_log}
use Rattle.fl_model.specs.Table.{Table, Entry, RingName, DataRing, IndexRing, VarRing, LogRing, lose}
use Rattle.fl_model.specs.Work.{Kind, Body, Mark, VoidMark, Erase, effect, Operation, done, Leaves, Either}
use Rattle.fl_model.specs.Mount.{Turn, Of, Replay, turns_from}
use Rattle.fl_model.proofs.Lists.{drop-in-take}
use Rattle.fl_machine.specs.Found.{trimmed, HasRoom}
use Rattle.fl_machine.proofs.Places.{RelAt, both-refl, rel-changed_by}
use Rattle.fl_machine.proofs.Effects.{Numbered, SamePages, same-refl, trims-same, effect-other, effect-body, effect-erase, effect-void, effect-mark}
use Rattle.fl_machine.proofs.MountsAtPlace.{TrimsFrom, HasTurns, room_at}

-- the turns of a configuration: the data ring at p has one turn, where the table has no log
abbrev pub turns_by : ℕ → Bool → Bool → Bool → List (ℕ × Turn) → List (ℕ × Turn)
turns_by place a b l rest =
    map (λ (turn : Turn). (place, turn)) (map (λ (ring : RingName). Of ring) (cond a (IndexRing ∷ []) [] ++ DataRing ∷ [] ++ cond b (VarRing ∷ []) []) ++ cond l (Of LogRing ∷ Replay ∷ []) []) ++ rest

log_by : (p place : ℕ) (had l : Bool) (rest : List (ℕ × Turn)) → place ≢ p → HasTurns p had rest → HasTurns p had (map (λ (turn : Turn). (place, turn)) (cond l (Of LogRing ∷ Replay ∷ []) []) ++ rest)
log_by p place true true rest n h = (tt, (n, h))
log_by p place true false rest n h = h
log_by p place false true rest n h = inl (tt, inl (n, h))
log_by p place false false rest n h = h

others_by : (p place : ℕ) (had a b l : Bool) (rest : List (ℕ × Turn)) → place ≢ p → HasTurns p had rest → HasTurns p had (turns_by place a b l rest)
others_by p place true true true l rest n h = (tt, (n, (tt, log_by p place true l rest n h)))
others_by p place true true false l rest n h = (tt, (n, log_by p place true l rest n h))
others_by p place true false true l rest n h = (n, (tt, log_by p place true l rest n h))
others_by p place true false false l rest n h = (n, log_by p place true l rest n h)
others_by p place false true true l rest n h = inl (tt, inl (n, inl (tt, log_by p place false l rest n h)))
others_by p place false true false l rest n h = inl (tt, inl (n, log_by p place false l rest n h))
others_by p place false false true l rest n h = inl (n, inl (tt, log_by p place false l rest n h))
others_by p place false false false l rest n h = inl (n, log_by p place false l rest n h)

turn_by : (p : ℕ) (a b : Bool) (rest : List (ℕ × Turn)) → HasTurns p true rest → HasTurns p false (turns_by p a b false rest)
turn_by p true true rest h = inl (tt, inr (refl, (tt, h)))
turn_by p true false rest h = inl (tt, inr (refl, h))
turn_by p false true rest h = inr (refl, (tt, h))
turn_by p false false rest h = inr (refl, h)

no_turn : (p place : ℕ) (plans : List Plan) → p < place → HasTurns p true (turns_from place plans)
no_turn p place [] h = tt
no_turn p place (plan ∷ plans) h =
    others_by p place true (has_index plan) (has_var plan) (has_log plan) (turns_from (place + 1) plans) (omega arith) (no_turn p (place + 1) plans (omega arith))

one_turn : (p place k : ℕ) (plans : List Plan) → p ≡ place + k → ((plan : Plan) → slice_get plans k ≡ Some plan → has_log plan ≡ false) → HasTurns p false (turns_from place plans)
one_turn p place k [] e h = tt
one_turn p place zero (plan ∷ plans) e h =
    let here : place ≡ p = omega (arith, e) in
    subst (λ q. HasTurns q false (turns_from place (plan ∷ plans))) here
    (subst (λ (l : Bool). HasTurns place false (turns_by place (has_index plan) (has_var plan) l (turns_from (place + 1) plans))) (sym (h plan refl))
    (turn_by place (has_index plan) (has_var plan) (turns_from (place + 1) plans) (no_turn place (place + 1) plans (omega arith))))
one_turn p place (suc k) (plan ∷ plans) e h =
    others_by p place false (has_index plan) (has_var plan) (has_log plan) (turns_from (place + 1) plans) (omega (arith, e)) (one_turn p (place + 1) k plans (omega (arith, e)) h)

pub has-turns : (p : ℕ) (plans : List Plan) → ((plan : Plan) → slice_get plans p ≡ Some plan → has_log plan ≡ false) → HasTurns p false (turns_from 0 plans)
has-turns p plans h = one_turn p 0 p plans (omega arith) h

-- a table that goes on to another and is then lost
abbrev pub LosesTo : Table → Table → Type 0
LosesTo old new =
    Numbered old →
    ((lose new).entries ≡ drop (trimmed old.rows new.rows) old.entries)
    ⊎ ((lose new).entries ≡ drop (trimmed old.rows new.rows) (take (length old.entries - old.pending) old.entries))

loses-trims : (x y : Table) → TrimsFrom x y → LosesTo x y
loses-trims x y t n =
    let h = t n in
    let k = trimmed x.rows y.rows in
    inr (ap (λ (p : ℕ). take (length y.entries - p) y.entries) h.pending
    ∙ (ap (λ (es : List Entry). take (length es - x.pending) es) h.entries
    ∙ (ap (λ (m : ℕ). take m (drop k x.entries)) (let e : length (drop k x.entries) - x.pending ≡ (length x.entries - x.pending) - k = simp length-drop (omega arith) in e)
    ∙ sym (drop-in-take k (length x.entries - x.pending) x.entries))))

loses-same : (x y : Table) → SamePages x y → LosesTo x y
loses-same x y h = loses-trims x y (λ n. trims-same x y h)

effect-loses : (plan : Plan) (ring : RingName) (kind : Kind) (x : Table) → HasRoom plan → LosesTo x (effect plan ring kind x)
effect-loses plan DataRing Body x room = loses-same x _ (effect-body plan x)
effect-loses plan DataRing Mark x room = λ n.
    let y = effect plan DataRing Mark x in
    inl (ap (λ (m : ℕ). take m y.entries) (let e : length y.entries - 0 ≡ length y.entries = omega arith in e) ∙ (take-length y.entries ∙ effect-mark plan x room n))
effect-loses plan DataRing VoidMark x room = loses-trims x _ (λ n. effect-void plan x room n)
effect-loses plan DataRing Erase x room = loses-same x _ (effect-erase plan x)
effect-loses plan IndexRing kind x room = loses-same x _ (effect-other plan IndexRing kind x (λ e. cc))
effect-loses plan VarRing kind x room = loses-same x _ (effect-other plan VarRing kind x (λ e. cc))
effect-loses plan LogRing kind x room = loses-same x _ (effect-other plan LogRing kind x (λ e. cc))

pub left-loses : (plans : List Plan) (p : ℕ) (operation : Operation) (last left : List Table) → AllByRecursion HasRoom plans → Leaves Either last (done plans operation last) left → RelAt LosesTo p last left
left-loses plans p operation last left room (inl e) =
    subst (λ (ts : List Table). RelAt LosesTo p last ts) (sym e) (both-refl LosesTo (λ x. loses-same x x (same-refl x)) (slice_get last p))
left-loses plans p operation last left room (inr e) =
    subst (λ (ts : List Table). RelAt LosesTo p last ts) (sym e)
    (rel-changed_by LosesTo (λ x. loses-same x x (same-refl x)) operation.table p _ plans last
    (λ plan x q f g. effect-loses plan operation.ring operation.kind x (room_at plans p plan room (subst (λ n. slice_get plans n ≡ Some plan) q f))))

-- What a mount leaves at one place: entries are gone just with their pages.
use Rattle.std.proofs.Common.{◌≡◌, ◌≢◌, ◌≤◌, length, ℕ, zero, suc, Bool, true, false, cond, Option, Some, None, List, [], ◌∷◌, ◌++◌, refl, sym, ap, subst, ◌⊎◌, inl, inr}
use Rattle.std.specs.List.{slice_get, AllByRecursion}
use Rattle.std.specs.Option.{option_map, unwrap_or}
use Rattle.std.proofs.lemmas.Option.{none-some, same_Some}
use Rattle.fl_model.specs.Record.{Plan}
use Rattle.fl_model.specs.Table.{Table, RingName, DataRing, IndexRing, VarRing, LogRing, is_torn, is_dirty, seal_page, seal_buffer, with_ring, shape_of, table_seals, owed, is_rows_spent}
use Rattle.fl_model.specs.Ring.{Ring, erased}
use Rattle.fl_model.specs.Work.{Body, Mark, operations_of, VoidMark, Erase, effect, Operation, done, Device, Progress, Outcome, Finished, CutShort, Failed, Performs, PerformsFirst, Leaves, Either, cut_now, counted, repair_operations, changed_by}
use Rattle.fl_base.specs.declared.types.CutKind.{CutKind}
use Rattle.fl_model.specs.Mount.{Turn, Of, Replay, turned, turn_operations, ready, Mounts, MountEnd, Mounted, Stopped, Unread, GoesOn, renumber, turned_at, operations_at, at_least_of}
use Rattle.fl_model.proofs.Lists.{each-front}
use Rattle.fl_machine.specs.Found.{HasRoom}
use Rattle.fl_machine.proofs.Places.{RelAt, both-trans, both-weaker, rel-changed_by}
use Rattle.fl_machine.proofs.Effects.{Numbered, StaysNumbered, SamePages, Trims, same-refl, trims-same, same-trims, trims-then-same, numbered-same, renumber-other, renumber-trims, repair-trims}
use Rattle.fl_machine.proofs.Trimmed.{renumbers-renumbered}
use Rattle.fl_machine.proofs.Performed.{performs-numbered, performs-quiet, either_ending, ends-stay, IsOther, AllQuiet, rel-trans, same_trans, IsQuiet}

-- a plan of the list
pub room_at : (plans : List Plan) (n : ℕ) (plan : Plan) → AllByRecursion HasRoom plans → slice_get plans n ≡ Some plan → HasRoom plan
room_at [] n plan h e = absurd (none-some plan e)
room_at (q ∷ plans) zero plan h e = subst HasRoom (same_Some q plan e) h.0
room_at (q ∷ plans) (suc n) plan h e = room_at plans n plan h.1 e

-- entries are gone just with their pages, where no number was negative
abbrev pub TrimsFrom : Table → Table → Type 0
TrimsFrom old new = Numbered old → Trims old new

-- the data ring of the table at p has had its turn, or not yet
abbrev pub Phase : Bool → Table → Table → Type 0
Phase false = SamePages
Phase true = TrimsFrom

-- the void mark of the data ring at p
abbrev pub void_at : ℕ → Operation
void_at p = record { table = p; ring = DataRing; kind = VoidMark }

-- a turn of another table, or of another ring than its data ring
abbrev pub IsOtherTurn : ℕ → Turn → ℕ → Type 0
IsOtherTurn p (Of ring) n = IsOther p ring n
IsOtherTurn p Replay n = n ≢ p

-- operations of a repair: perhaps a void mark first, and then nothing that moves pages
abbrev pub AtMostOneVoid : ℕ → List Operation → Type 0
AtMostOneVoid p operations = AllQuiet p operations ⊎ ((others : List Operation) × (operations ≡ void_at p ∷ others) × AllQuiet p others)

one_void_front : (p : ℕ) (front others : List Operation) → AtMostOneVoid p (front ++ others) → AtMostOneVoid p front
one_void_front p [] others h = inl tt
one_void_front p (operation ∷ front) others (inl h) = inl (each-front (IsQuiet p) (operation ∷ front) others h)
one_void_front p (operation ∷ front) others (inr h) =
    let first : operation ≡ void_at p = cc (h.1) in
    let rest : front ++ others ≡ h.0 = cc (h.1) in
    inr (front, ap (λ o. o ∷ front) first, each-front (IsQuiet p) front others (subst (AllQuiet p) (sym rest) h.2))

repair_by : (p : ℕ) (torn dirty : Bool) → AtMostOneVoid p ((cond torn (void_at p ∷ []) []) ++ (cond dirty (record { table = p; ring = DataRing; kind = Erase } ∷ []) []))
repair_by p true true = inr (record { table = p; ring = DataRing; kind = Erase } ∷ [], refl, (inr (refl, refl), tt))
repair_by p true false = inr ([], refl, tt)
repair_by p false true = inl (inr (refl, refl), tt)
repair_by p false false = inl tt

other_by : (p n : ℕ) (ring : RingName) (torn dirty : Bool) → IsOther p ring n → AllQuiet p ((cond torn (record { table = n; ring = ring; kind = VoidMark } ∷ []) []) ++ (cond dirty (record { table = n; ring = ring; kind = Erase } ∷ []) []))
other_by p n ring true true h = (inl h, (inl h, tt))
other_by p n ring true false h = (inl h, tt)
other_by p n ring false true h = (inl h, tt)
other_by p n ring false false h = tt

-- operations of another table
other-elsewhere : (p n : ℕ) (ring : RingName) → n ≢ p → IsOther p ring n
other-elsewhere p n DataRing h = h
other-elsewhere p n IndexRing h = tt
other-elsewhere p n VarRing h = tt
other-elsewhere p n LogRing h = tt

elsewhere-quiet : (p n : ℕ) → n ≢ p → (plan : Plan) (rings : List RingName) (table : Table) → AllQuiet p (operations_of plan n rings table)
elsewhere-quiet p n h plan [] table = tt
elsewhere-quiet p n h plan (ring ∷ rings) table = by_dirty (is_dirty ring (seal_buffer plan ring table)) (elsewhere-quiet p n h plan rings (with_ring ring erased (seal_buffer plan ring table)))
  where
    by_dirty : (d : Bool) → AllQuiet p (operations_of plan n rings (with_ring ring erased (seal_buffer plan ring table))) →
        AllQuiet p ((record { table = n; ring = ring; kind = Body } ∷ record { table = n; ring = ring; kind = Mark } ∷ (cond d (record { table = n; ring = ring; kind = Erase } ∷ []) []))
        ++ operations_of plan n rings (with_ring ring erased (seal_buffer plan ring table)))
    by_dirty true q = (inl (other-elsewhere p n ring h), (inl (other-elsewhere p n ring h), (inl (other-elsewhere p n ring h), q)))
    by_dirty false q = (inl (other-elsewhere p n ring h), (inl (other-elsewhere p n ring h), q))

repairs_here : (plans : List Plan) (p : ℕ) (tables : List Table) → AtMostOneVoid p (operations_at plans (p, Of DataRing) tables)
repairs_here plans p tables = by_plan (slice_get plans p) (slice_get tables p)
  where
    by_plan : (plan : Option Plan) (table : Option Table) → AtMostOneVoid p (unwrap_or (option_map (λ plan. unwrap_or (option_map (repair_operations plan p DataRing) table) []) plan) [])
    by_plan None table = inl tt
    by_plan (Some plan) None = inl tt
    by_plan (Some plan) (Some table) =
        repair_by p (is_torn DataRing table) (is_dirty DataRing (cond (is_torn DataRing table) (seal_page plan DataRing 0 table) table))

repairs_other : (plans : List Plan) (p n : ℕ) (turn : Turn) (tables : List Table) → IsOtherTurn p turn n → AllQuiet p (operations_at plans (n, turn) tables)
repairs_other plans p n turn tables h = by_plan (slice_get plans n) (slice_get tables n)
  where
    by_turn : (turn : Turn) → IsOtherTurn p turn n → (plan : Plan) (table : Table) → AllQuiet p (turn_operations plan n turn table)
    by_turn (Of ring) h plan table = other_by p n ring (is_torn ring table) (is_dirty ring (cond (is_torn ring table) (seal_page plan ring 0 table) table)) h
    by_turn Replay h plan table = elsewhere-quiet p n h plan (table_seals plan table) table

    by_plan : (plan : Option Plan) (table : Option Table) → AllQuiet p (unwrap_or (option_map (λ plan. unwrap_or (option_map (turn_operations plan n turn) table) []) plan) [])
    by_plan None table = tt
    by_plan (Some plan) None = tt
    by_plan (Some plan) (Some table) = by_turn turn h plan table

-- two changes at one place are one
changed-twice : {P X : Type 0} (n : ℕ) (f g : P → X → X) (plans : List P) (xs : List X) → changed_by n g plans (changed_by n f plans xs) ≡ changed_by n (λ plan x. g plan (f plan x)) plans xs
changed-twice n f g [] xs = refl
changed-twice n f g (plan ∷ plans) [] = refl
changed-twice zero f g (plan ∷ plans) (x ∷ xs) = refl
changed-twice (suc n) f g (plan ∷ plans) (x ∷ xs) = ap (λ ys. x ∷ ys) (changed-twice n f g plans xs)

-- renumbering
joined-rows : (x : Table) (b : Bool) → (cond b x (record x { entries = x.entries ++ owed x; pending = length (owed x) })).rows ≡ x.rows
joined-rows x true = refl
joined-rows x false = refl

renumbered-numbered : (plans : List Plan) (p n : ℕ) (turn : Turn) (tables : List Table) → RelAt StaysNumbered p tables (turned_at plans (n, turn) tables)
renumbered-numbered plans p n turn tables = rel-changed_by StaysNumbered (λ x h. h) n p _ plans tables (λ plan x e f g. stays plan x turn)
  where
    stays : (plan : Plan) (x : Table) (turn : Turn) → StaysNumbered x (turned plan turn x)
    stays plan x (Of DataRing) h = (renumbers-renumbered (shape_of plan DataRing) (at_least_of plan DataRing x) x.rows).numbered h
    stays plan x (Of IndexRing) h = h
    stays plan x (Of VarRing) h = h
    stays plan x (Of LogRing) h = h
    stays plan x Replay h = subst (λ (r : Ring). length r.counts ≤ r.next) (sym (joined-rows (ready plan x) (is_rows_spent (ready plan x)))) h

renumbered-here : (plans : List Plan) (p : ℕ) (tables : List Table) → RelAt TrimsFrom p tables (turned_at plans (p, Of DataRing) tables)
renumbered-here plans p tables =
    rel-changed_by TrimsFrom (λ x h. trims-same x x (same-refl x)) p p _ plans tables (λ plan x e f g h. renumber-trims plan x)

renumbered-other : (plans : List Plan) (p n : ℕ) (turn : Turn) (tables : List Table) → IsOtherTurn p turn n → RelAt SamePages p tables (turned_at plans (n, turn) tables)
renumbered-other plans p n turn tables h = rel-changed_by SamePages same-refl n p _ plans tables (λ plan x e f g. elsewhere turn h plan x e)
  where
    elsewhere : (turn : Turn) → IsOtherTurn p turn n → (plan : Plan) (x : Table) → n ≡ p → SamePages x (turned plan turn x)
    elsewhere (Of DataRing) h plan x e = absurd (h e)
    elsewhere (Of IndexRing) h plan x e = renumber-other plan IndexRing x (λ e. cc)
    elsewhere (Of VarRing) h plan x e = renumber-other plan VarRing x (λ e. cc)
    elsewhere (Of LogRing) h plan x e = renumber-other plan LogRing x (λ e. cc)
    elsewhere Replay h plan x e = absurd (h e)

voided-here : (plans : List Plan) (p : ℕ) (tables : List Table) → AllByRecursion HasRoom plans → RelAt TrimsFrom p tables (done plans (void_at p) (turned_at plans (p, Of DataRing) tables))
voided-here plans p tables room =
    subst (λ (ts : List Table). RelAt TrimsFrom p tables ts) (sym (changed-twice p (λ plan x. renumber plan DataRing x) (λ plan x. effect plan DataRing VoidMark x) plans tables))
    (rel-changed_by TrimsFrom (λ x h. trims-same x x (same-refl x)) p p _ plans tables (λ plan x e f g h. repair-trims plan x (room_at plans p plan room f) h))

trims_same_trans : (p : ℕ) (xs ys zs : List Table) → RelAt TrimsFrom p xs ys → RelAt SamePages p ys zs → RelAt TrimsFrom p xs zs
trims_same_trans p xs ys zs h k = both-trans TrimsFrom SamePages TrimsFrom (λ x y z a b n. trims-then-same x y z (a n) b) _ _ _ h k

same_trims_trans : (p : ℕ) (xs ys zs : List Table) → RelAt SamePages p xs ys → RelAt TrimsFrom p ys zs → RelAt TrimsFrom p xs zs
same_trims_trans p xs ys zs h k = both-trans SamePages TrimsFrom TrimsFrom (λ x y z a b n. same-trims x y z a (b (numbered-same x y a n))) _ _ _ h k

-- the first operation was done and the others go on, or it failed and left one of its ends
performs-first : (plans : List Plan) (rose : Bool) (operation : Operation) (operations : List Operation) (device : Device) (tables : List Table) (end : Progress) →
    Performs plans rose (operation ∷ operations) device tables end →
    Leaves Either tables (done plans operation tables) end.tables ⊎ Performs plans rose operations (counted operation.kind device) (done plans operation tables) end
performs-first plans rose operation operations device tables end h = first (cut_now device) h
  where
    first : (now : Option CutKind) → PerformsFirst plans rose now operation device tables end (Performs plans rose operations (counted operation.kind device) (done plans operation tables) end) →
        Leaves Either tables (done plans operation tables) end.tables ⊎ Performs plans rose operations (counted operation.kind device) (done plans operation tables) end
    first (Some kind) h = inl (either_ending rose kind operation.kind tables (done plans operation tables) end.tables h.2)
    first None (inl h) = inl h.3
    first None (inr h) = inr h

-- a turn of the data ring at p
turn-here : (plans : List Plan) (rose : Bool) (operations : List Operation) (device : Device) (tables : List Table) (end : Progress) (p : ℕ) → AllByRecursion HasRoom plans →
    AtMostOneVoid p operations → Performs plans rose operations device (turned_at plans (p, Of DataRing) tables) end → RelAt TrimsFrom p tables end.tables
turn-here plans rose operations device tables end p room (inl q) h =
    trims_same_trans p tables (turned_at plans (p, Of DataRing) tables) end.tables (renumbered-here plans p tables)
    (performs-quiet plans rose operations device (turned_at plans (p, Of DataRing) tables) end p q h)
turn-here plans rose operations device tables end p room (inr q) h =
    let h' = subst (λ (ops : List Operation). Performs plans rose ops device (turned_at plans (p, Of DataRing) tables) end) q.1 h in
    by_end (performs-first plans rose (void_at p) q.0 device (turned_at plans (p, Of DataRing) tables) end h')
  where
    left : Leaves Either (turned_at plans (p, Of DataRing) tables) (done plans (void_at p) (turned_at plans (p, Of DataRing) tables)) end.tables → RelAt TrimsFrom p tables end.tables
    left (inl e) = subst (λ (ts : List Table). RelAt TrimsFrom p tables ts) (sym e) (renumbered-here plans p tables)
    left (inr e) = subst (λ (ts : List Table). RelAt TrimsFrom p tables ts) (sym e) (voided-here plans p tables room)

    by_end : Leaves Either (turned_at plans (p, Of DataRing) tables) (done plans (void_at p) (turned_at plans (p, Of DataRing) tables)) end.tables
        ⊎ Performs plans rose q.0 (counted VoidMark device) (done plans (void_at p) (turned_at plans (p, Of DataRing) tables)) end → RelAt TrimsFrom p tables end.tables
    by_end (inl k) = left k
    by_end (inr k) =
        trims_same_trans p tables (done plans (void_at p) (turned_at plans (p, Of DataRing) tables)) end.tables (voided-here plans p tables room)
        (performs-quiet plans rose q.0 _ (done plans (void_at p) (turned_at plans (p, Of DataRing) tables)) end p q.2 k)

-- a turn of another ring
turn-other : (plans : List Plan) (rose : Bool) (operations : List Operation) (device : Device) (tables : List Table) (end : Progress) (p n : ℕ) (turn : Turn) → IsOtherTurn p turn n →
    AllQuiet p operations → Performs plans rose operations device (turned_at plans (n, turn) tables) end → RelAt SamePages p tables end.tables
turn-other plans rose operations device tables end p n turn other q h =
    same_trans p tables (turned_at plans (n, turn) tables) end.tables (renumbered-other plans p n turn tables other)
    (performs-quiet plans rose operations device (turned_at plans (n, turn) tables) end p q h)

-- the data ring at p has at most one turn, and none any more once it had it
abbrev pub HasTurns : ℕ → Bool → List (ℕ × Turn) → Type 0
HasTurns p had [] = Unit {0}
HasTurns p true (at ∷ rings) = IsOtherTurn p at.1 at.0 × HasTurns p true rings
HasTurns p false (at ∷ rings) = (IsOtherTurn p at.1 at.0 × HasTurns p false rings) ⊎ ((at ≡ (p, Of DataRing)) × HasTurns p true rings)

-- what a mount leaves, however it ended: trimmed tables
abbrev pub MountLeaves : List Plan → ℕ → List Table → MountEnd → Type 0
MountLeaves plans p start (Mounted end) = RelAt TrimsFrom p start end.tables × RelAt StaysNumbered p start end.tables
MountLeaves plans p start (Unread end) = RelAt TrimsFrom p start end.tables × RelAt StaysNumbered p start end.tables
MountLeaves plans p start (Stopped end) = RelAt TrimsFrom p start end.tables × RelAt StaysNumbered p start end.tables

abbrev pub PhaseAt : ℕ → Bool → List Table → List Table → Type 0
PhaseAt p had start tables = RelAt (Phase had) p start tables

trims_at : (p : ℕ) (had : Bool) (start tables : List Table) → PhaseAt p had start tables → RelAt TrimsFrom p start tables
trims_at p true start tables h = h
trims_at p false start tables h = both-weaker SamePages TrimsFrom (λ x y s n. trims-same x y s) _ _ h

phase-other : (p : ℕ) (had : Bool) (start tables after : List Table) → PhaseAt p had start tables → RelAt SamePages p tables after → PhaseAt p had start after
phase-other p true start tables after h k = trims_same_trans p start tables after h k
phase-other p false start tables after h k = same_trans p start tables after h k

-- one turn
turn : (plans : List Plan) (rose : Bool) (at : ℕ × Turn) (rings : List (ℕ × Turn)) (operations : List Operation) (device : Device) (tables start : List Table) (end : Progress) (p : ℕ) (had : Bool) →
    AllByRecursion HasRoom plans → HasTurns p had (at ∷ rings) →
    ((n : ℕ) (turn : Turn) → (n, turn) ≡ at → IsOtherTurn p turn n → AllQuiet p operations) →
    ((n : ℕ) → (p, Of DataRing) ≡ at → AtMostOneVoid p operations) →
    PhaseAt p had start tables → Performs plans rose operations device (turned_at plans at tables) end →
    (now : Bool) × HasTurns p now rings × PhaseAt p now start end.tables
turn plans rose at rings operations device tables start end p true room turns quiet void phase h =
    (true, turns.1, phase-other p true start tables end.tables phase (turn-other plans rose operations device tables end p at.0 at.1 turns.0 (quiet at.0 at.1 refl turns.0) h))
turn plans rose at rings operations device tables start end p false room (inl turns) quiet void phase h =
    (false, turns.1, phase-other p false start tables end.tables phase (turn-other plans rose operations device tables end p at.0 at.1 turns.0 (quiet at.0 at.1 refl turns.0) h))
turn plans rose at rings operations device tables start end p false room (inr turns) quiet void phase h = (
  true,
  turns.1,
  same_trims_trans p start tables end.tables phase
      (turn-here plans rose operations device tables end p room (void 0 (sym turns.0))
      (subst (λ (a : ℕ × Turn). Performs plans rose operations device (turned_at plans a tables) end) turns.0 h)),
)

-- the operations of a turn, or a front of them
turn_quiet : (plans : List Plan) (p : ℕ) (at : ℕ × Turn) (tables : List Table) (n : ℕ) (turn : Turn) → (n, turn) ≡ at → IsOtherTurn p turn n → AllQuiet p (operations_at plans at tables)
turn_quiet plans p at tables n turn e h = subst (λ (a : ℕ × Turn). AllQuiet p (operations_at plans a tables)) e (repairs_other plans p n turn tables h)

turn_void : (plans : List Plan) (p : ℕ) (at : ℕ × Turn) (tables : List Table) → (p, Of DataRing) ≡ at → AtMostOneVoid p (operations_at plans at tables)
turn_void plans p at tables e = subst (λ (a : ℕ × Turn). AtMostOneVoid p (operations_at plans a tables)) e (repairs_here plans p tables)

pub mounts-leave : (plans : List Plan) (rose : Bool) (rings : List (ℕ × Turn)) (device : Device) (start tables : List Table) (how : MountEnd) (p : ℕ) (had : Bool) →
    AllByRecursion HasRoom plans → HasTurns p had rings → PhaseAt p had start tables → RelAt StaysNumbered p start tables →
    Mounts plans rose rings device tables how → MountLeaves plans p start how
mounts-leave plans rose [] device start tables how p had room turns phase numbered h =
    subst (MountLeaves plans p start) (sym h) (trims_at p had start tables phase, numbered)
mounts-leave plans rose (at ∷ rings) device start tables how p had room turns phase numbered (inl h) =
    let unread = h.1 in
    let repairs = operations_at plans at (turned_at plans at tables) in
    let ends = performs-numbered plans rose unread.front device (turned_at plans at tables) h.0 p unread.did in
    let t = turn plans rose at rings unread.front device tables start h.0 p had room turns
    (λ n turn e other. each-front (IsQuiet p) unread.front unread.others (subst (AllQuiet p) unread.split (turn_quiet plans p at (turned_at plans at tables) n turn e other)))
    (λ n e. one_void_front p unread.front unread.others (subst (AtMostOneVoid p) unread.split (turn_void plans p at (turned_at plans at tables) e)))
    phase unread.did in
    subst (MountLeaves plans p start) (sym h.2) (
      trims_at p t.0 start h.0.tables t.2,
      rel-trans p start tables h.0.tables numbered (rel-trans p tables (turned_at plans at tables) h.0.tables (renumbered-numbered plans p at.0 at.1 tables)
          (ends-stay plans p (turned_at plans at tables) h.0.tables h.0.outcome ends)),
    )
mounts-leave plans rose (at ∷ rings) device start tables how p had room turns phase numbered (inr h) =
    let repairs = operations_at plans at (turned_at plans at tables) in
    let ends = performs-numbered plans rose repairs device (turned_at plans at tables) h.0 p h.1 in
    let t = turn plans rose at rings repairs device tables start h.0 p had room turns
    (λ n turn e other. turn_quiet plans p at (turned_at plans at tables) n turn e other)
    (λ n e. turn_void plans p at (turned_at plans at tables) e)
    phase h.1 in
    let stays = rel-trans p start tables h.0.tables numbered (rel-trans p tables (turned_at plans at tables) h.0.tables (renumbered-numbered plans p at.0 at.1 tables)
    (ends-stay plans p (turned_at plans at tables) h.0.tables h.0.outcome ends)) in
    goes_on h.0.outcome h.2 (trims_at p t.0 start h.0.tables t.2, stays)
    (λ rest. mounts-leave plans rose rings h.0.device start h.0.tables how p t.0 room t.1 t.2 stays rest)
  where
    goes_on : (o : Outcome) → GoesOn o h.0 how (Mounts plans rose rings h.0.device h.0.tables how) →
        RelAt TrimsFrom p start h.0.tables × RelAt StaysNumbered p start h.0.tables →
        (Mounts plans rose rings h.0.device h.0.tables how → MountLeaves plans p start how) → MountLeaves plans p start how
    goes_on Finished g left rest = rest g
    goes_on (CutShort last) g left rest = subst (MountLeaves plans p start) (sym g) left
    goes_on (Failed last) g left rest = subst (MountLeaves plans p start) (sym g) left

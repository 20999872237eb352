-- Operations of all tables, seen at a table with a log: those of other tables leave it, and its own stop well.
use Rattle.std.proofs.Common.{◌≡◌, ◌≢◌, ℕ, zero, suc, ◌+◌, Bool, true, false, Option, Some, None, List, [], ◌∷◌, ◌++◌, map, refl, sym, ◌∙◌, ap, subst, arith, ◌⊎◌, inl, inr, IsTrue}
use Rattle.std.specs.List.{slice_get, AllByRecursion}
use Rattle.std.specs.Option.{option_map, unwrap_or}
use Rattle.std.proofs.lemmas.Option.{none-some}
use Rattle.fl_base.specs.declared.types.CutKind.{CutKind}
use Rattle.fl_model.specs.Record.{Plan, has_index, has_var, has_log}
use Rattle.fl_model.specs.Table.{Table, RingName, DataRing, IndexRing, VarRing, LogRing}
use Rattle.fl_model.specs.Work.{Kind, effect, Operation, done, Leaves, Either, Device, Progress, Outcome, Finished, CutShort, Failed, Performs, PerformsFirst, cut_now, counted, changed_by}
use Rattle.fl_model.specs.Within.{effect_within, all_done, at_place, turn_within}
use Rattle.fl_model.specs.Mount.{Turn, Of, Replay, turned, turned_at, operations_at, turn_operations, turns_from, Mounts, MountEnd, Mounted, Stopped, Unread, GoesOn}
use Rattle.fl_model.proofs.Among.{turn-at, changed-by, changed-there}
use Rattle.fl_model.proofs.Lists.{each-front}
use Rattle.fl_machine.specs.Found.{HasRoom, LoggedPast}
use Rattle.fl_machine.proofs.Performed.{either_ending}
use Rattle.fl_machine.proofs.Logs.{Core, core, RestsAs}
use Rattle.fl_machine.proofs.LogOperations.{Goes}
use Rattle.fl_machine.proofs.LogMounts.{Halts, TurnGoes, IsAfter, IsDone, start-mid, mid-halts, done-halts, after-halts, calm-index, calm-var, data-turn, log-turn, replay-turn}
use Rattle.fl_machine.proofs.MountsFindRecords.{turns_by}

-- ---- one place

abbrev pub AllAt : ℕ → List Operation → Type 0
AllAt n operations = AllByRecursion (λ (o : Operation). o.table ≡ n) operations

abbrev pub strip : Operation → RingName × Kind
strip o = (o.ring, o.kind)

pub all-at : (n : ℕ) (ws : List (RingName × Kind)) → AllAt n (map (at_place n) ws)
all-at n [] = tt
all-at n (w ∷ ws) = (refl, all-at n ws)

pub strip-at : (n : ℕ) (ws : List (RingName × Kind)) → map strip (map (at_place n) ws) ≡ ws
strip-at n [] = refl
strip-at n (w ∷ ws) = ap (λ xs. w ∷ xs) (strip-at n ws)

changed_by-elsewhere : {P X : Type 0} (n p : ℕ) (f : P → X → X) (plans : List P) (xs : List X) → n ≢ p → slice_get (changed_by n f plans xs) p ≡ slice_get xs p
changed_by-elsewhere n p f [] xs h = refl
changed_by-elsewhere n p f (q ∷ qs) [] h = refl
changed_by-elsewhere zero zero f (q ∷ qs) (x ∷ xs) h = absurd (h refl)
changed_by-elsewhere zero (suc p) f (q ∷ qs) (x ∷ xs) h = refl
changed_by-elsewhere (suc n) zero f (q ∷ qs) (x ∷ xs) h = refl
changed_by-elsewhere (suc n) (suc p) f (q ∷ qs) (x ∷ xs) h = changed_by-elsewhere n p f qs xs (λ e. h (ap suc e))

pub changed_by-there : {P X : Type 0} (p : ℕ) (f : P → X → X) (plans : List P) (xs : List X) (plan : P) (x : X) → slice_get plans p ≡ Some plan → slice_get xs p ≡ Some x → slice_get (changed_by p f plans xs) p ≡ Some (f plan x)
changed_by-there p f plans xs plan x e k = ap (λ ys. slice_get ys p) (changed-by p f plans xs plan x e k) ∙ changed-there p x (f plan x) xs k

-- an operation of this table, and of another
done-here : (plans : List Plan) (p : ℕ) (o : Operation) (tables : List Table) (plan : Plan) (t : Table) → o.table ≡ p → slice_get plans p ≡ Some plan → slice_get tables p ≡ Some t →
    slice_get (done plans o tables) p ≡ Some (effect plan o.ring o.kind t)
done-here plans p o tables plan t here e k =
    ap (λ n. slice_get (changed_by n (λ plan table. effect plan o.ring o.kind table) plans tables) p) here ∙ changed_by-there p (λ plan table. effect plan o.ring o.kind table) plans tables plan t e k

done-elsewhere : (plans : List Plan) (p n : ℕ) (o : Operation) (tables : List Table) → o.table ≡ n → n ≢ p → slice_get (done plans o tables) p ≡ slice_get tables p
done-elsewhere plans p n o tables there h =
    ap (λ m. slice_get (changed_by m (λ plan table. effect plan o.ring o.kind table) plans tables) p) there ∙ changed_by-elsewhere n p (λ plan table. effect plan o.ring o.kind table) plans tables h

-- ---- operations that end, or of which one fails

-- an operation failed, and the table rests as it should
pub record HaltsAt (p : ℕ) (Stop : Core → Core → Type 0) (last left : List Table) : Type 0 where
  pub before : Table
  pub after : Table
  pub before_is : slice_get last p ≡ Some before
  pub after_is : slice_get left p ≡ Some after
  pub stops : Stop (core before) (core after)

abbrev pub EndsAt : ℕ → (Core → Core → Type 0) → Table → List Table → Outcome → Type 0
EndsAt p Stop final left Finished = slice_get left p ≡ Some final
EndsAt p Stop final left (CutShort last) = HaltsAt p Stop last left
EndsAt p Stop final left (Failed last) = HaltsAt p Stop last left

pub performs-here : (plans : List Plan) (rose : Bool) (operations : List Operation) (device : Device) (tables : List Table) (end : Progress) (p : ℕ) (plan : Plan) (t : Table) (Stop : Core → Core → Type 0) →
    slice_get plans p ≡ Some plan → AllAt p operations → slice_get tables p ≡ Some t → Goes plan Stop (map strip operations) t → Performs plans rose operations device tables end →
    EndsAt p Stop (all_done (effect_within plan) (map strip operations) t) end.tables end.outcome
performs-here plans rose [] device tables end p plan t Stop e at k goes h =
    subst (λ (o : Outcome). EndsAt p Stop t end.tables o) (sym h.0) (ap (λ (ts : List Table). slice_get ts p) h.2 ∙ k)
performs-here plans rose (o ∷ operations) device tables end p plan t Stop e at k goes h =
    first (cut_now device) h (performs-here plans rose operations (counted o.kind device) (done plans o tables) end p plan (effect plan o.ring o.kind t) Stop e at.1 there goes.2)
  where
    there : slice_get (done plans o tables) p ≡ Some (effect plan o.ring o.kind t)
    there = done-here plans p o tables plan t at.0 e k

    leaves : Leaves Either tables (done plans o tables) end.tables → HaltsAt p Stop tables end.tables
    leaves (inl s) = record { before = t; after = t; before_is = k; after_is = ap (λ (ts : List Table). slice_get ts p) s ∙ k; stops = goes.0 }
    leaves (inr s) = record { before = t; after = effect plan o.ring o.kind t; before_is = k; after_is = ap (λ (ts : List Table). slice_get ts p) s ∙ there; stops = goes.1 }

    first : (now : Option CutKind) → PerformsFirst plans rose now o device tables end (Performs plans rose operations (counted o.kind device) (done plans o tables) end) →
        (Performs plans rose operations (counted o.kind device) (done plans o tables) end → EndsAt p Stop (all_done (effect_within plan) (map strip operations) (effect plan o.ring o.kind t)) end.tables end.outcome) →
        EndsAt p Stop (all_done (effect_within plan) (map strip operations) (effect plan o.ring o.kind t)) end.tables end.outcome
    first (Some kind) h go =
        subst (λ (x : Outcome). EndsAt p Stop (all_done (effect_within plan) (map strip operations) (effect plan o.ring o.kind t)) end.tables x) (sym h.0)
        (leaves (either_ending rose kind o.kind tables (done plans o tables) end.tables h.2))
    first None (inl h) go = subst (λ (x : Outcome). EndsAt p Stop (all_done (effect_within plan) (map strip operations) (effect plan o.ring o.kind t)) end.tables x) (sym h.1) (leaves h.3)
    first None (inr h) go = go h

pub performs-elsewhere : (plans : List Plan) (rose : Bool) (operations : List Operation) (device : Device) (tables : List Table) (end : Progress) (p n : ℕ) (t : Table) (Stop : Core → Core → Type 0) →
    n ≢ p → AllAt n operations → slice_get tables p ≡ Some t → Stop (core t) (core t) → Performs plans rose operations device tables end → EndsAt p Stop t end.tables end.outcome
performs-elsewhere plans rose [] device tables end p n t Stop other at k stops h =
    subst (λ (o : Outcome). EndsAt p Stop t end.tables o) (sym h.0) (ap (λ (ts : List Table). slice_get ts p) h.2 ∙ k)
performs-elsewhere plans rose (o ∷ operations) device tables end p n t Stop other at k stops h =
    first (cut_now device) h (performs-elsewhere plans rose operations (counted o.kind device) (done plans o tables) end p n t Stop other at.1 there stops)
  where
    there : slice_get (done plans o tables) p ≡ Some t
    there = done-elsewhere plans p n o tables at.0 other ∙ k

    leaves : Leaves Either tables (done plans o tables) end.tables → HaltsAt p Stop tables end.tables
    leaves (inl s) = record { before = t; after = t; before_is = k; after_is = ap (λ (ts : List Table). slice_get ts p) s ∙ k; stops = stops }
    leaves (inr s) = record { before = t; after = t; before_is = k; after_is = ap (λ (ts : List Table). slice_get ts p) s ∙ there; stops = stops }

    first : (now : Option CutKind) → PerformsFirst plans rose now o device tables end (Performs plans rose operations (counted o.kind device) (done plans o tables) end) →
        (Performs plans rose operations (counted o.kind device) (done plans o tables) end → EndsAt p Stop t end.tables end.outcome) → EndsAt p Stop t end.tables end.outcome
    first (Some kind) h go = subst (λ (x : Outcome). EndsAt p Stop t end.tables x) (sym h.0) (leaves (either_ending rose kind o.kind tables (done plans o tables) end.tables h.2))
    first None (inl h) go = subst (λ (x : Outcome). EndsAt p Stop t end.tables x) (sym h.1) (leaves h.3)
    first None (inr h) go = go h

-- ---- mounts

-- a front of operations that stop well, and what it leaves
pub goes-front : (plan : Plan) (Stop : Core → Core → Type 0) (xs ys : List (RingName × Kind)) (t : Table) → Goes plan Stop (xs ++ ys) t → (let u = all_done (effect_within plan) (xs ++ ys) t in Stop (core u) (core u)) →
    Goes plan Stop xs t × (let u = all_done (effect_within plan) xs t in Stop (core u) (core u))
goes-front plan Stop [] [] t h last = (tt, last)
goes-front plan Stop [] (y ∷ ys) t h last = (tt, h.0)
goes-front plan Stop (x ∷ xs) ys t h last = let g = goes-front plan Stop xs ys (effect_within plan x t) h.2 last in ((h.0, h.1, g.0), g.1)

-- how far a mount has come with a table
pub data Stage : Type 0 where
  Start Middle Ready : Stage

abbrev pub next_stage : Stage → Turn → Option Stage
next_stage Start (Of IndexRing) = Some Start
next_stage Start (Of DataRing) = Some Middle
next_stage Middle (Of VarRing) = Some Middle
next_stage Middle (Of LogRing) = Some Middle
next_stage Middle Replay = Some Ready
next_stage stage turn = None

-- the turns that are left bring it to its end
abbrev pub LogTurns : ℕ → Stage → List (ℕ × Turn) → Type 0
LogTurns p Ready [] = Unit {0}
LogTurns p Start [] = ⊥
LogTurns p Middle [] = ⊥
LogTurns p stage (at ∷ turns) = ((at.0 ≢ p) × LogTurns p stage turns) ⊎ ((at.0 ≡ p) × ((next : Stage) × (next_stage stage at.1 ≡ Some next) × LogTurns p next turns))

-- what holds of the table there
abbrev pub AtStage : LoggedPast → Core → Stage → Table → Type 0
AtStage past x Start t = core t ≡ x
AtStage past x Middle t = IsAfter past x (core t)
AtStage past x Ready t = IsDone past x t

pub stage-halts : (past : LoggedPast) (x : Core) (stage : Stage) (t : Table) (c : Core) → RestsAs past x → AtStage past x stage t → Halts past x c (core t)
stage-halts past x Start t c rests h = subst (λ (d : Core). Halts past x c d) (sym h) (mid-halts past x c x (start-mid past x rests))
stage-halts past x Middle t c rests h = after-halts past x c (core t) h
stage-halts past x Ready t c rests h = done-halts past x c t h

same_stage : (P : Stage → Type 0) (a b : Stage) → Some a ≡ Some b → P a → P b
same_stage P a b e h = let s : a ≡ b = cc in subst P s h

stage-turn : (plan : Plan) (past : LoggedPast) (x : Core) (stage next : Stage) (turn : Turn) (t : Table) → HasRoom plan → IsTrue (has_log plan) → RestsAs past x → next_stage stage turn ≡ Some next → AtStage past x stage t →
    TurnGoes plan (Halts past x) (AtStage past x next) (turn_within plan turn (turned plan turn t)) (turned plan turn t)
stage-turn plan past x Start next (Of IndexRing) t room logged rests e h =
    same_stage (λ s. TurnGoes plan (Halts past x) (AtStage past x s) (turn_within plan (Of IndexRing) (turned plan (Of IndexRing) t)) (turned plan (Of IndexRing) t)) Start next e
    (let u = turned plan (Of IndexRing) t in calm-index plan (Halts past x) (AtStage past x Start) u (stage-halts past x Start u (core u) rests h) (λ w s. s ∙ h))
stage-turn plan past x Start next (Of DataRing) t room logged rests e h =
    same_stage (λ s. TurnGoes plan (Halts past x) (AtStage past x s) (turn_within plan (Of DataRing) (turned plan (Of DataRing) t)) (turned plan (Of DataRing) t)) Middle next e
    (subst (λ (y : Core). RestsAs past y → TurnGoes plan (Halts past y) (λ u. IsAfter past y (core u)) (turn_within plan (Of DataRing) (turned plan (Of DataRing) t)) (turned plan (Of DataRing) t)) h (λ r. data-turn plan past t room r) rests)
stage-turn plan past x Middle next (Of VarRing) t room logged rests e h =
    same_stage (λ s. TurnGoes plan (Halts past x) (AtStage past x s) (turn_within plan (Of VarRing) (turned plan (Of VarRing) t)) (turned plan (Of VarRing) t)) Middle next e
    (let u = turned plan (Of VarRing) t in calm-var plan (Halts past x) (AtStage past x Middle) u (after-halts past x (core u) (core u) h) (λ w s. subst (IsAfter past x) (sym s) h))
stage-turn plan past x Middle next (Of LogRing) t room logged rests e h =
    same_stage (λ s. TurnGoes plan (Halts past x) (AtStage past x s) (turn_within plan (Of LogRing) (turned plan (Of LogRing) t)) (turned plan (Of LogRing) t)) Middle next e (log-turn plan past x t room logged h)
stage-turn plan past x Middle next Replay t room logged rests e h =
    same_stage (λ s. TurnGoes plan (Halts past x) (AtStage past x s) (turn_within plan Replay (turned plan Replay t)) (turned plan Replay t)) Ready next e (replay-turn plan past x t room h)
stage-turn plan past x Start next (Of VarRing) t room logged rests e h = absurd (none-some next e)
stage-turn plan past x Start next (Of LogRing) t room logged rests e h = absurd (none-some next e)
stage-turn plan past x Start next Replay t room logged rests e h = absurd (none-some next e)
stage-turn plan past x Middle next (Of IndexRing) t room logged rests e h = absurd (none-some next e)
stage-turn plan past x Middle next (Of DataRing) t room logged rests e h = absurd (none-some next e)
stage-turn plan past x Ready next (Of IndexRing) t room logged rests e h = absurd (none-some next e)
stage-turn plan past x Ready next (Of DataRing) t room logged rests e h = absurd (none-some next e)
stage-turn plan past x Ready next (Of VarRing) t room logged rests e h = absurd (none-some next e)
stage-turn plan past x Ready next (Of LogRing) t room logged rests e h = absurd (none-some next e)
stage-turn plan past x Ready next Replay t room logged rests e h = absurd (none-some next e)

-- the operations of a turn are those of one table
at-by : (n : ℕ) (turn : Turn) (plan : Option Plan) (table : Option Table) → AllAt n (unwrap_or (option_map (λ plan. unwrap_or (option_map (turn_operations plan n turn) table) []) plan) [])
at-by n turn None table = tt
at-by n turn (Some plan) None = tt
at-by n turn (Some plan) (Some table) = subst (AllAt n) (sym (turn-at plan n turn table)) (all-at n (turn_within plan turn table))

operations-at-one : (plans : List Plan) (at : ℕ × Turn) (tables : List Table) → AllAt at.0 (operations_at plans at tables)
operations-at-one plans at tables = at-by at.0 at.1 (slice_get plans at.0) (slice_get tables at.0)

strip-here : (plans : List Plan) (p : ℕ) (turn : Turn) (tables : List Table) (plan : Plan) (t : Table) → slice_get plans p ≡ Some plan → slice_get tables p ≡ Some t → map strip (operations_at plans (p, turn) tables) ≡ turn_within plan turn t
strip-here plans p turn tables plan t e k =
    ap (λ (o : Option Plan). map strip (unwrap_or (option_map (λ plan. unwrap_or (option_map (turn_operations plan p turn) (slice_get tables p)) []) o) [])) e
    ∙ (ap (λ (o : Option Table). map strip (unwrap_or (option_map (turn_operations plan p turn) o) [])) k
    ∙ (ap (map strip) (turn-at plan p turn t) ∙ strip-at p (turn_within plan turn t)))

-- what a mount leaves of it
pub record LeftBy (p : ℕ) (past : LoggedPast) (x : Core) (left : List Table) : Type 0 where
  pub table : Table
  pub is : slice_get left p ≡ Some table
  pub halts : Halts past x x (core table)

abbrev pub LogLeft : ℕ → LoggedPast → Core → MountEnd → Type 0
LogLeft p past x (Mounted end) = (t : Table) × (slice_get end.tables p ≡ Some t) × IsDone past x t
LogLeft p past x (Stopped end) = LeftBy p past x end.tables
LogLeft p past x (Unread end) = LeftBy p past x end.tables

-- the next turn, of this table or of another
pub record TurnEnds (p : ℕ) (past : LoggedPast) (x : Core) (turns : List (ℕ × Turn)) (left : List Table) (outcome : Outcome) : Type 0 where
  pub stage : Stage
  pub turns_left : LogTurns p stage turns
  pub table : Table
  pub ends : EndsAt p (Halts past x) table left outcome
  pub there : AtStage past x stage table

map-strip-append : (xs ys : List Operation) → map strip (xs ++ ys) ≡ map strip xs ++ map strip ys
map-strip-append [] ys = refl
map-strip-append (x ∷ xs) ys = ap (λ zs. strip x ∷ zs) (map-strip-append xs ys)

turn-ends : (plans : List Plan) (rose : Bool) (at : ℕ × Turn) (turns : List (ℕ × Turn)) (device : Device) (tables : List Table) (end : Progress) (p : ℕ) (plan : Plan) (past : LoggedPast) (x : Core) (stage : Stage) (t : Table) →
    HasRoom plan → IsTrue (has_log plan) → RestsAs past x → slice_get plans p ≡ Some plan → slice_get tables p ≡ Some t → AtStage past x stage t →
    ((at.0 ≢ p) × LogTurns p stage turns) ⊎ ((at.0 ≡ p) × ((next : Stage) × (next_stage stage at.1 ≡ Some next) × LogTurns p next turns)) →
    Performs plans rose (operations_at plans at (turned_at plans at tables)) device (turned_at plans at tables) end → TurnEnds p past x turns end.tables end.outcome
turn-ends plans rose at turns device tables end p plan past x stage t room logged rests e k h (inl (other, left)) did =
    let there = changed_by-elsewhere at.0 p (λ plan table. turned plan at.1 table) plans tables other ∙ k in
    record {
      stage = stage;
      turns_left = left;
      table = t;
      there = h;
      ends = performs-elsewhere plans rose (operations_at plans at (turned_at plans at tables)) device (turned_at plans at tables) end p at.0 t (Halts past x) other (operations-at-one plans at (turned_at plans at tables)) there (stage-halts past x stage t (core t) rests h) did;
    }
turn-ends plans rose at turns device tables end p plan past x stage t room logged rests e k h (inr (here, (next, moves, left))) did = at-place at here moves did
  where
    at-place : (at : ℕ × Turn) → at.0 ≡ p → next_stage stage at.1 ≡ Some next → Performs plans rose (operations_at plans at (turned_at plans at tables)) device (turned_at plans at tables) end → TurnEnds p past x turns end.tables end.outcome
    at-place at here moves did = subst (λ (n : ℕ). Performs plans rose (operations_at plans (n, at.1) (turned_at plans (n, at.1) tables)) device (turned_at plans (n, at.1) tables) end → TurnEnds p past x turns end.tables end.outcome) (sym here) (λ did. placed at.1 moves did) did
      where
        placed : (turn : Turn) → next_stage stage turn ≡ Some next → Performs plans rose (operations_at plans (p, turn) (turned_at plans (p, turn) tables)) device (turned_at plans (p, turn) tables) end → TurnEnds p past x turns end.tables end.outcome
        placed turn moves did =
            let u = turned plan turn t in
            let there : slice_get (turned_at plans (p, turn) tables) p ≡ Some u = changed_by-there p (λ plan table. turned plan turn table) plans tables plan t e k in
            let g = stage-turn plan past x stage next turn t room logged rests moves h in
            let is = strip-here plans p turn (turned_at plans (p, turn) tables) plan u e there in
            let goes = subst (λ (ws : List (RingName × Kind)). Goes plan (Halts past x) ws u) (sym is) g.goes in
            record {
              stage = next;
              turns_left = left;
              table = all_done (effect_within plan) (map strip (operations_at plans (p, turn) (turned_at plans (p, turn) tables))) u;
              there = subst (λ (ws : List (RingName × Kind)). AtStage past x next (all_done (effect_within plan) ws u)) (sym is) g.after;
              ends = performs-here plans rose (operations_at plans (p, turn) (turned_at plans (p, turn) tables)) device (turned_at plans (p, turn) tables) end p plan u (Halts past x) e (operations-at-one plans (p, turn) (turned_at plans (p, turn) tables)) there goes did;
            }

-- .. of which a read fails
turn-unread : (plans : List Plan) (rose : Bool) (at : ℕ × Turn) (turns : List (ℕ × Turn)) (front others : List Operation) (device : Device) (tables : List Table) (end : Progress) (p : ℕ) (plan : Plan) (past : LoggedPast) (x : Core) (stage : Stage) (t : Table) →
    HasRoom plan → IsTrue (has_log plan) → RestsAs past x → slice_get plans p ≡ Some plan → slice_get tables p ≡ Some t → AtStage past x stage t →
    ((at.0 ≢ p) × LogTurns p stage turns) ⊎ ((at.0 ≡ p) × ((next : Stage) × (next_stage stage at.1 ≡ Some next) × LogTurns p next turns)) →
    operations_at plans at (turned_at plans at tables) ≡ front ++ others → Performs plans rose front device (turned_at plans at tables) end → end.outcome ≡ Finished → LeftBy p past x end.tables
turn-unread plans rose at turns front others device tables end p plan past x stage t room logged rests e k h (inl (other, left)) split did finished =
    let there = changed_by-elsewhere at.0 p (λ plan table. turned plan at.1 table) plans tables other ∙ k in
    let all = each-front (λ (o : Operation). o.table ≡ at.0) front others (subst (AllAt at.0) split (operations-at-one plans at (turned_at plans at tables))) in
    let ends = performs-elsewhere plans rose front device (turned_at plans at tables) end p at.0 t (Halts past x) other all there (stage-halts past x stage t (core t) rests h) did in
    record { table = t; is = subst (λ (o : Outcome). EndsAt p (Halts past x) t end.tables o) finished ends; halts = stage-halts past x stage t x rests h }
turn-unread plans rose at turns front others device tables end p plan past x stage t room logged rests e k h (inr (here, (next, moves, left))) split did finished = at-place at here moves split did
  where
    at-place : (at : ℕ × Turn) → at.0 ≡ p → next_stage stage at.1 ≡ Some next → operations_at plans at (turned_at plans at tables) ≡ front ++ others → Performs plans rose front device (turned_at plans at tables) end → LeftBy p past x end.tables
    at-place at here moves split did =
        subst (λ (n : ℕ). operations_at plans (n, at.1) (turned_at plans (n, at.1) tables) ≡ front ++ others → Performs plans rose front device (turned_at plans (n, at.1) tables) end → LeftBy p past x end.tables) (sym here) (λ s d. placed at.1 moves s d) split did
      where
        placed : (turn : Turn) → next_stage stage turn ≡ Some next → operations_at plans (p, turn) (turned_at plans (p, turn) tables) ≡ front ++ others → Performs plans rose front device (turned_at plans (p, turn) tables) end → LeftBy p past x end.tables
        placed turn moves split did =
            let u = turned plan turn t in
            let there : slice_get (turned_at plans (p, turn) tables) p ≡ Some u = changed_by-there p (λ plan table. turned plan turn table) plans tables plan t e k in
            let g = stage-turn plan past x stage next turn t room logged rests moves h in
            let is : turn_within plan turn u ≡ map strip front ++ map strip others = sym (strip-here plans p turn (turned_at plans (p, turn) tables) plan u e there) ∙ (ap (map strip) split ∙ map-strip-append front others) in
            let goes = subst (λ (ws : List (RingName × Kind)). Goes plan (Halts past x) ws u) is g.goes in
            let last = subst (λ (ws : List (RingName × Kind)). AtStage past x next (all_done (effect_within plan) ws u)) is g.after in
            let w = all_done (effect_within plan) (map strip front ++ map strip others) u in
            let f = goes-front plan (Halts past x) (map strip front) (map strip others) u goes (stage-halts past x next w (core w) rests last) in
            let all = each-front (λ (o : Operation). o.table ≡ p) front others (subst (AllAt p) split (operations-at-one plans (p, turn) (turned_at plans (p, turn) tables))) in
            let ends = performs-here plans rose front device (turned_at plans (p, turn) tables) end p plan u (Halts past x) e all there f.0 did in
            record { table = all_done (effect_within plan) (map strip front) u; is = subst (λ (o : Outcome). EndsAt p (Halts past x) (all_done (effect_within plan) (map strip front) u) end.tables o) finished ends; halts = f.1 }

choice : (p : ℕ) (at : ℕ × Turn) (rest : List (ℕ × Turn)) (stage : Stage) → LogTurns p stage (at ∷ rest) →
    ((at.0 ≢ p) × LogTurns p stage rest) ⊎ ((at.0 ≡ p) × ((next : Stage) × (next_stage stage at.1 ≡ Some next) × LogTurns p next rest))
choice p at rest Start h = h
choice p at rest Middle h = h
choice p at rest Ready h = h

-- the whole mount
pub mounts-logged : (plans : List Plan) (rose : Bool) (turns : List (ℕ × Turn)) (device : Device) (tables : List Table) (how : MountEnd) (p : ℕ) (plan : Plan) (past : LoggedPast) (x : Core) (stage : Stage) (t : Table) →
    HasRoom plan → IsTrue (has_log plan) → RestsAs past x → slice_get plans p ≡ Some plan → LogTurns p stage turns → slice_get tables p ≡ Some t → AtStage past x stage t → Mounts plans rose turns device tables how → LogLeft p past x how
mounts-logged plans rose [] device tables how p plan past x Start t room logged rests e turns k h did = absurd turns
mounts-logged plans rose [] device tables how p plan past x Middle t room logged rests e turns k h did = absurd turns
mounts-logged plans rose [] device tables how p plan past x Ready t room logged rests e turns k h did = subst (LogLeft p past x) (sym did) (t, k, h)
mounts-logged plans rose (at ∷ rest) device tables how p plan past x stage t room logged rests e turns k h (inl (end, unread, is)) =
    subst (LogLeft p past x) (sym is) (turn-unread plans rose at rest unread.front unread.others device tables end p plan past x stage t room logged rests e k h (choice p at rest stage turns) unread.split unread.did unread.outcome)
mounts-logged plans rose (at ∷ rest) device tables how p plan past x stage t room logged rests e turns k h (inr (end, did, goes)) =
    let ends = turn-ends plans rose at rest device tables end p plan past x stage t room logged rests e k h (choice p at rest stage turns) did in
    by_outcome end.outcome ends.ends goes (λ there m. mounts-logged plans rose rest end.device end.tables how p plan past x ends.stage ends.table room logged rests e ends.turns_left there ends.there m)
  where
    by_outcome : (o : Outcome) {final : Table} → EndsAt p (Halts past x) final end.tables o → GoesOn o end how (Mounts plans rose rest end.device end.tables how) →
        (slice_get end.tables p ≡ Some final → Mounts plans rose rest end.device end.tables how → LogLeft p past x how) → LogLeft p past x how
    by_outcome Finished ends g go = go ends g
    by_outcome (CutShort last) ends g go = subst (LogLeft p past x) (sym g) (record { table = ends.after; is = ends.after_is; halts = ends.stops })
    by_outcome (Failed last) ends g go = subst (LogLeft p past x) (sym g) (record { table = ends.after; is = ends.after_is; halts = ends.stops })

-- the turns of a configuration bring a table with a log to its end
skip : (p : ℕ) (stage : Stage) (place : ℕ) (turn : Turn) (rest : List (ℕ × Turn)) → place ≢ p → LogTurns p stage rest → LogTurns p stage ((place, turn) ∷ rest)
skip p Start place turn rest n h = inl (n, h)
skip p Middle place turn rest n h = inl (n, h)
skip p Ready place turn rest n h = inl (n, h)

skip-all : (p : ℕ) (stage : Stage) (place : ℕ) (ts : List Turn) (rest : List (ℕ × Turn)) → place ≢ p → LogTurns p stage rest → LogTurns p stage (map (λ (turn : Turn). (place, turn)) ts ++ rest)
skip-all p stage place [] rest n h = h
skip-all p stage place (turn ∷ ts) rest n h = skip p stage place turn _ n (skip-all p stage place ts rest n h)

own-turns : (p : ℕ) (a b : Bool) (rest : List (ℕ × Turn)) → LogTurns p Ready rest → LogTurns p Start (turns_by p a b true rest)
own-turns p true true rest h = inr (refl, (Start, refl, inr (refl, (Middle, refl, inr (refl, (Middle, refl, inr (refl, (Middle, refl, inr (refl, (Ready, refl, h))))))))))
own-turns p true false rest h = inr (refl, (Start, refl, inr (refl, (Middle, refl, inr (refl, (Middle, refl, inr (refl, (Ready, refl, h))))))))
own-turns p false true rest h = inr (refl, (Middle, refl, inr (refl, (Middle, refl, inr (refl, (Middle, refl, inr (refl, (Ready, refl, h))))))))
own-turns p false false rest h = inr (refl, (Middle, refl, inr (refl, (Middle, refl, inr (refl, (Ready, refl, h))))))

turns-over : (p place : ℕ) (plans : List Plan) → (p ≡ place → ⊥) → ((k : ℕ) → p ≡ place + k → ⊥) → LogTurns p Ready (turns_from place plans)
turns-over p place [] h all = tt
turns-over p place (plan ∷ plans) h all = skip-all p Ready place _ (turns_from (place + 1) plans) (λ e. h (sym e)) (turns-over p (place + 1) plans (λ e. all 1 e) (λ k e. all (k + 1) (omega (arith, e))))

log-turns-from : (p place k : ℕ) (plans : List Plan) (plan : Plan) → p ≡ place + k → slice_get plans k ≡ Some plan → IsTrue (has_log plan) → LogTurns p Start (turns_from place plans)
log-turns-from p place k [] plan e s l = absurd (none-some plan s)
log-turns-from p place zero (q ∷ plans) plan e s l =
    let here : place ≡ p = omega (arith, e) in
    let same : q ≡ plan = cc in
    subst (λ n. LogTurns n Start (turns_from place (q ∷ plans))) here
    (subst (λ (b : Bool). LogTurns place Start (turns_by place (has_index q) (has_var q) b (turns_from (place + 1) plans))) (sym (subst (λ (r : Plan). has_log r ≡ true) (sym same) l))
    (own-turns place (has_index q) (has_var q) (turns_from (place + 1) plans) (turns-over place (place + 1) plans (λ z. absurd (omega (arith, z))) (λ m z. absurd (omega (arith, z))))))
log-turns-from p place (suc k) (q ∷ plans) plan e s l =
    skip-all p Start place _ (turns_from (place + 1) plans) (λ z. absurd (omega (arith, z, e))) (log-turns-from p (place + 1) k plans plan (omega (arith, e)) s l)

pub log-turns : (p : ℕ) (plans : List Plan) (plan : Plan) → slice_get plans p ≡ Some plan → IsTrue (has_log plan) → LogTurns p Start (turns_from 0 plans)
log-turns p plans plan e l = log-turns-from p 0 p plans plan (omega arith) e l

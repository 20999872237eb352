-- What lists of operations leave at one place, whether they end or one fails.
use Rattle.std.proofs.Common.{◌≡◌, ◌≢◌, ℕ, Bool, cond, Option, Some, None, List, [], ◌∷◌, sym, subst, ◌⊎◌, inl, inr}
use Rattle.std.specs.List.{slice_get, AllByRecursion}
use Rattle.fl_base.specs.declared.types.CutKind.{CutKind}
use Rattle.fl_model.specs.Record.{Record, Plan}
use Rattle.fl_model.specs.Table.{Table, RingName, DataRing, IndexRing, VarRing, LogRing, put_joined, put_record, join_seals, make_room_seals}
use Rattle.fl_model.specs.Puts.{Puts, PutGoesOn, room_operations, join_operations}
use Rattle.fl_model.specs.Work.{Kind, Erase, effect, Operation, done, Ending, AsBefore, AsAfter, Either, Leaves, ending_of, Device, Progress, Outcome, Finished, CutShort, Failed, Performs, PerformsFirst, cut_now, counted, changed_at}
use Rattle.fl_model.proofs.Lists.{each-weaker}
use Rattle.fl_machine.proofs.Places.{RelAt, both-refl, both-trans, rel-changed_by, rel-changed_at}
use Rattle.fl_machine.proofs.Effects.{StaysNumbered, SamePages, same-refl, same-trans, effect-other, effect-numbered, effect-erase, after_seals-numbered}

-- either end of an operation
pub leaves_either : {S : Type 0} (ending : Ending) (before after left : S) → Leaves ending before after left → Leaves Either before after left
leaves_either AsBefore before after left h = inl h
leaves_either AsAfter before after left h = inr h
leaves_either Either before after left h = h

-- an operation failed: the tables before it are not negative in their numbers, and it left one of its ends
pub record FailsAt (plans : List Plan) (p : ℕ) (start last left : List Table) : Type 0 where
  pub numbered : RelAt StaysNumbered p start last
  pub operation : Operation
  pub leaves : Leaves Either last (done plans operation last) left

-- where operations ended, no page number is negative; where one failed, neither before it
abbrev pub EndsNumbered : List Plan → ℕ → List Table → List Table → Outcome → Type 0
EndsNumbered plans p start left Finished = RelAt StaysNumbered p start left
EndsNumbered plans p start left (CutShort last) = FailsAt plans p start last left
EndsNumbered plans p start left (Failed last) = FailsAt plans p start last left

pub same_trans : (p : ℕ) (xs ys zs : List Table) → RelAt SamePages p xs ys → RelAt SamePages p ys zs → RelAt SamePages p xs zs
same_trans p xs ys zs h k = both-trans SamePages SamePages SamePages same-trans _ _ _ h k

numbered_trans : (x y z : Table) → StaysNumbered x y → StaysNumbered y z → StaysNumbered x z
numbered_trans x y z h k n = k (h n)

pub done-numbered : (plans : List Plan) (p : ℕ) (operation : Operation) (tables : List Table) → RelAt StaysNumbered p tables (done plans operation tables)
done-numbered plans p operation tables =
    rel-changed_by StaysNumbered (λ x h. h) operation.table p _ plans tables (λ plan x e f g. effect-numbered plan operation.ring operation.kind x)

pub rel-trans : (p : ℕ) (xs ys zs : List Table) → RelAt StaysNumbered p xs ys → RelAt StaysNumbered p ys zs → RelAt StaysNumbered p xs zs
rel-trans p xs ys zs h k = both-trans StaysNumbered StaysNumbered StaysNumbered numbered_trans _ _ _ h k

pub ends-after : (plans : List Plan) (p : ℕ) (start mid left : List Table) (outcome : Outcome) → RelAt StaysNumbered p start mid → EndsNumbered plans p mid left outcome → EndsNumbered plans p start left outcome
ends-after plans p start mid left Finished h k = rel-trans p start mid left h k
ends-after plans p start mid left (CutShort last) h k = record { numbered = rel-trans p start mid last h k.numbered; operation = k.operation; leaves = k.leaves }
ends-after plans p start mid left (Failed last) h k = record { numbered = rel-trans p start mid last h k.numbered; operation = k.operation; leaves = k.leaves }

pub either_ending : (b : Bool) (kind : CutKind) (k : Kind) (before after left : List Table) → Leaves (cond b Either (ending_of kind k)) before after left → Leaves Either before after left
either_ending b kind k before after left h = leaves_either (cond b Either (ending_of kind k)) before after left h

-- operations each of which keeps the tables so keep them so together, however they end
module _ (R : List Table → List Table → Type 0) (same : (xs : List Table) → R xs xs) (join : (xs ys zs : List Table) → R xs ys → R ys zs → R xs zs) (plans : List Plan) (rose : Bool) where
  pub performs-rel : (operations : List Operation) (device : Device) (tables : List Table) (end : Progress) → AllByRecursion (λ o. (xs : List Table) → R xs (done plans o xs)) operations →
      Performs plans rose operations device tables end → R tables end.tables
  performs-rel [] device tables end all h = subst (R tables) (sym h.2) (same tables)
  performs-rel (o ∷ operations) device tables end all h = first (cut_now device) h (performs-rel operations (counted o.kind device) (done plans o tables) end all.1)
    where
      left : Leaves Either tables (done plans o tables) end.tables → R tables end.tables
      left (inl e) = subst (R tables) (sym e) (same tables)
      left (inr e) = subst (R tables) (sym e) (all.0 tables)

      first : (now : Option CutKind) → PerformsFirst plans rose now o device tables end (Performs plans rose operations (counted o.kind device) (done plans o tables) end) →
          (Performs plans rose operations (counted o.kind device) (done plans o tables) end → R (done plans o tables) end.tables) → R tables end.tables
      first (Some kind) h go = left (either_ending rose kind o.kind tables (done plans o tables) end.tables h.2)
      first None (inl h) go = left h.3
      first None (inr h) go = join tables (done plans o tables) end.tables (all.0 tables) (go h)

-- no page number is negative after an operation that failed, and after operations however they ended
pub left-numbered : (plans : List Plan) (p : ℕ) (start last left : List Table) → FailsAt plans p start last left → RelAt StaysNumbered p last left
left-numbered plans p start last left fails = by_end fails.leaves
  where
    by_end : (left ≡ last) ⊎ (left ≡ done plans fails.operation last) → RelAt StaysNumbered p last left
    by_end (inl e) = subst (λ (ts : List Table). RelAt StaysNumbered p last ts) (sym e) (both-refl StaysNumbered (λ x h. h) (slice_get last p))
    by_end (inr e) = subst (λ (ts : List Table). RelAt StaysNumbered p last ts) (sym e) (done-numbered plans p fails.operation last)

pub ends-stay : (plans : List Plan) (p : ℕ) (start left : List Table) (outcome : Outcome) → EndsNumbered plans p start left outcome → RelAt StaysNumbered p start left
ends-stay plans p start left Finished h = h
ends-stay plans p start left (CutShort last) h = rel-trans p start last left h.numbered (left-numbered plans p start last left h)
ends-stay plans p start left (Failed last) h = rel-trans p start last left h.numbered (left-numbered plans p start last left h)

stays : (p : ℕ) (xs : List Table) → RelAt StaysNumbered p xs xs
stays p xs = both-refl StaysNumbered (λ x h. h) (slice_get xs p)

pub performs-numbered : (plans : List Plan) (rose : Bool) (operations : List Operation) (device : Device) (tables : List Table) (end : Progress) (p : ℕ) →
    Performs plans rose operations device tables end → EndsNumbered plans p tables end.tables end.outcome
performs-numbered plans rose [] device tables end p h =
    subst (λ o. EndsNumbered plans p tables end.tables o) (sym h.0) (subst (λ (ts : List Table). RelAt StaysNumbered p tables ts) (sym h.2) (stays p tables))
performs-numbered plans rose (operation ∷ operations) device tables end p h =
    first (cut_now device) h (performs-numbered plans rose operations (counted operation.kind device) (done plans operation tables) end p)
  where
    first : (now : Option CutKind) → PerformsFirst plans rose now operation device tables end (Performs plans rose operations (counted operation.kind device) (done plans operation tables) end) →
        (Performs plans rose operations (counted operation.kind device) (done plans operation tables) end → EndsNumbered plans p (done plans operation tables) end.tables end.outcome) →
        EndsNumbered plans p tables end.tables end.outcome
    first (Some kind) h go =
        subst (λ o. EndsNumbered plans p tables end.tables o) (sym h.0)
        (record { numbered = stays p tables; operation = operation; leaves = either_ending rose kind operation.kind tables (done plans operation tables) end.tables h.2 })
    first None (inl h) go =
        subst (λ o. EndsNumbered plans p tables end.tables o) (sym h.1)
        (record { numbered = stays p tables; operation = operation; leaves = h.3 })
    first None (inr h) go = ends-after plans p tables (done plans operation tables) end.tables end.outcome (done-numbered plans p operation tables) (go h)

-- no page number is negative after a put
put-numbered : (plan : Plan) (item : Record) (x : Table) → StaysNumbered x (put_joined plan item x)
put-numbered plan item x h = after_seals-numbered plan (make_room_seals plan x) x h

pub logged-numbered : (plan : Plan) (item : Record) (x : Table) → StaysNumbered x (put_record plan item x)
logged-numbered plan item x h = after_seals-numbered plan (join_seals plan (put_joined plan item x)) (put_joined plan item x) (put-numbered plan item x h)

pub puts-numbered : (plans : List Plan) (rose : Bool) (plan : Plan) (place : ℕ) (item : Record) (table : Table) (device : Device) (tables : List Table) (end : Progress) (p : ℕ) →
    Puts plans rose plan place item table device tables end → EndsNumbered plans p tables end.tables end.outcome
puts-numbered plans rose plan place item table device tables end p (mid, did, goes) =
    by_outcome mid.outcome (performs-numbered plans rose (room_operations plan place table) device tables mid p did) goes
  where
    -- the seals ended, and nothing more was done
    ended : (o : Outcome) → EndsNumbered plans p tables mid.tables mid.outcome → end ≡ mid → EndsNumbered plans p tables end.tables end.outcome
    ended o h e = subst (λ (x : Progress). EndsNumbered plans p tables x.tables x.outcome) (sym e) h

    by_outcome : (o : Outcome) → EndsNumbered plans p tables mid.tables mid.outcome → PutGoesOn o mid end (Performs plans rose (join_operations plan place item table) mid.device (changed_at place (put_joined plan item) tables) end) →
        EndsNumbered plans p tables end.tables end.outcome
    by_outcome Finished h g =
        ends-after plans p tables (changed_at place (put_joined plan item) tables) end.tables end.outcome
        (rel-changed_at StaysNumbered (λ x h. h) place p (put_joined plan item) tables (λ x e. put-numbered plan item x))
        (performs-numbered plans rose (join_operations plan place item table) mid.device (changed_at place (put_joined plan item) tables) end p g)
    by_outcome (CutShort last) h g = ended (CutShort last) h g
    by_outcome (Failed last) h g = ended (Failed last) h g

-- an operation of another ring than the data ring at p
abbrev pub IsOther : ℕ → RingName → ℕ → Type 0
IsOther p DataRing n = n ≢ p
IsOther p IndexRing n = Unit {0}
IsOther p VarRing n = Unit {0}
IsOther p LogRing n = Unit {0}

pub effect-elsewhere : (p n : ℕ) (plan : Plan) (ring : RingName) (kind : Kind) (x : Table) → IsOther p ring n → n ≡ p → SamePages x (effect plan ring kind x)
effect-elsewhere p n plan DataRing kind x h e = absurd (h e)
effect-elsewhere p n plan IndexRing kind x h e = effect-other plan IndexRing kind x (λ e. cc)
effect-elsewhere p n plan VarRing kind x h e = effect-other plan VarRing kind x (λ e. cc)
effect-elsewhere p n plan LogRing kind x h e = effect-other plan LogRing kind x (λ e. cc)

-- operations none of which is on the data ring at p, or erases alone, leave its pages, also where one fails
abbrev pub IsQuiet : ℕ → Operation → Type 0
IsQuiet p operation = IsOther p operation.ring operation.table ⊎ ((operation.ring ≡ DataRing) × (operation.kind ≡ Erase))

abbrev pub AllQuiet : ℕ → List Operation → Type 0
AllQuiet p operations = AllByRecursion (IsQuiet p) operations

pub done-quiet : (plans : List Plan) (p : ℕ) (operation : Operation) (tables : List Table) → IsQuiet p operation → RelAt SamePages p tables (done plans operation tables)
done-quiet plans p operation tables h =
    rel-changed_by SamePages same-refl operation.table p _ plans tables (λ plan x e f g. quiet plan x e h)
  where
    quiet : (plan : Plan) (x : Table) → operation.table ≡ p → IsQuiet p operation → SamePages x (effect plan operation.ring operation.kind x)
    quiet plan x e (inl h) = effect-elsewhere p operation.table plan operation.ring operation.kind x h e
    quiet plan x e (inr h) = rw (h.0, h.1) (effect-erase plan x)

pub performs-quiet : (plans : List Plan) (rose : Bool) (operations : List Operation) (device : Device) (tables : List Table) (end : Progress) (p : ℕ) →
    AllQuiet p operations → Performs plans rose operations device tables end → RelAt SamePages p tables end.tables
performs-quiet plans rose operations device tables end p q h =
    performs-rel (RelAt SamePages p) (λ xs. both-refl SamePages same-refl (slice_get xs p)) (same_trans p) plans rose operations device tables end
    (each-weaker (IsQuiet p) (λ o. (xs : List Table) → RelAt SamePages p xs (done plans o xs)) (λ o q xs. done-quiet plans p o xs q) operations q) h

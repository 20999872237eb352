-- The operations of all tables, seen at the place of one: the pages that they seal of it.
use Rattle.std.proofs.Common.{◌≡◌, ◌≢◌, ℕ, Bool, Some, List, [], ◌∷◌, ◌++◌, map, sym, ◌∙◌, subst}
use Rattle.std.specs.List.{slice_get}
use Rattle.std.proofs.lemmas.List.{append_assoc}
use Rattle.fl_model.specs.Puts.{PutGoesOn, Puts, join_operations}
use Rattle.fl_model.specs.Record.{Plan, Record}
use Rattle.fl_model.specs.Table.{RingName, Table, flushed, join_seals, make_room_seals, put_joined, put_record}
use Rattle.fl_model.specs.Within.{at_place, seals_within}
use Rattle.fl_model.specs.Work.{CutShort, Device, Failed, Finished, Operation, Outcome, Performs, Progress, changed_at, operations_of}
use Rattle.fl_model.proofs.Among.{seals-at, changed_at-elsewhere, changed_at-there}
use Rattle.fl_machine.proofs.LogMoves.{EndsAt, all-at, performs-elsewhere, performs-here, strip-at}
use Rattle.fl_machine.proofs.LogOperations.{Goes}
use Rattle.fl_machine.proofs.Logs.{core}
use Rattle.fl_shipped.specs.Growing.{flush_pages, paged_records, put_pages, waiting_records}
use Rattle.fl_shipped.proofs.SealedPages.{Halts, IsUnderway, SealedIn, flush-goes, join-goes, put-joins, room-goes}
use Rattle.fl_shipped.proofs.Orders.{InOrder}

-- what seals leave of a table, wherever one of them fails
module _ (Bad : Type 0) (start : List Record) (first : ℕ) (pages : List (List Record)) where
  -- so many of the pages are sealed in this table there
  pub record At (p : ℕ) (done : List (List Record)) (all : List Record) (tables : List Table) (t : Table) : Type 0 where
    pub is : slice_get tables p ≡ Some t
    pub has : SealedIn Bad start first done all (core t)

  -- some of them are
  pub record LeftAt (p : ℕ) (tables : List Table) : Type 0 where
    pub table : Table
    pub is : slice_get tables p ≡ Some table
    pub has : IsUnderway Bad start first pages (paged_records table) (waiting_records table) table.rows.next

  pub left-at : (p : ℕ) (done others : List (List Record)) (all : List Record) (tables : List Table) (t : Table) → pages ≡ done ++ others → At p done all tables t → LeftAt p tables
  left-at p done others all tables t e at = record { table = t; is = at.is; has = record { done = done; others = others; all = all; split = e; has = at.has } }

  -- operations failed well, if they did
  abbrev pub FailsWell : ℕ → List Table → Outcome → Type 0
  FailsWell p left Finished = Unit {0}
  FailsWell p left (CutShort last) = LeftAt p left
  FailsWell p left (Failed last) = LeftAt p left

  fails-well : (p : ℕ) (t : Table) (left : List Table) (o : Outcome) → EndsAt p (Halts Bad start first pages) t left o → FailsWell p left o
  fails-well p t left Finished h = tt
  fails-well p t left (CutShort last) h = record { table = h.after; is = h.after_is; has = h.stops }
  fails-well p t left (Failed last) h = record { table = h.after; is = h.after_is; has = h.stops }

  -- seals of this table, and of another
  pub seals-here : (plans : List Plan) (rose : Bool) (p : ℕ) (plan : Plan) (rings : List RingName) (t : Table) (device : Device) (tables : List Table) (end : Progress) → slice_get plans p ≡ Some plan → slice_get tables p ≡ Some t →
      Goes plan (Halts Bad start first pages) (seals_within plan rings t) t → Performs plans rose (operations_of plan p rings t) device tables end → FailsWell p end.tables end.outcome
  seals-here plans rose p plan rings t device tables end e k goes did =
      let within = seals_within plan rings t in
      fails-well p _ end.tables end.outcome
      (performs-here plans rose (map (at_place p) within) device tables end p plan t (Halts Bad start first pages) e (all-at p within) k (subst (λ (ops : List _). Goes plan (Halts Bad start first pages) ops t) (sym (strip-at p within)) goes)
      (subst (λ (ops : List Operation). Performs plans rose ops device tables end) (seals-at plan p rings t) did))

  pub seals-elsewhere : (plans : List Plan) (rose : Bool) (p n : ℕ) (plan : Plan) (rings : List RingName) (u t : Table) (device : Device) (tables : List Table) (end : Progress) → n ≢ p → slice_get tables p ≡ Some t →
      Halts Bad start first pages (core t) (core t) → Performs plans rose (operations_of plan n rings u) device tables end → FailsWell p end.tables end.outcome
  seals-elsewhere plans rose p n plan rings u t device tables end other k halts did =
      let within = seals_within plan rings u in
      fails-well p t end.tables end.outcome
      (performs-elsewhere plans rose (map (at_place n) within) device tables end p n t (Halts Bad start first pages) other (all-at n within) k halts
      (subst (λ (ops : List Operation). Performs plans rose ops device tables end) (seals-at plan n rings u) did))

  -- a put of this table, and of another
  pub puts-here : (plans : List Plan) (rose : Bool) (p : ℕ) (plan : Plan) (item : Record) (t : Table) (device : Device) (tables : List Table) (end : Progress) (done others : List (List Record)) (all : List Record) → slice_get plans p ≡ Some plan →
      pages ≡ done ++ (put_pages plan t ++ others) → InOrder Bad (all ++ item ∷ []) → At p done all tables t → Puts plans rose plan p item t device tables end → FailsWell p end.tables end.outcome
  puts-here plans rose p plan item t device tables end done others all e split order at (mid, did, goes) =
      by_outcome mid.outcome (seals-here plans rose p plan (make_room_seals plan t) t device tables mid e at.is (room-goes Bad start first pages plan t done others all split at.has).goes did) goes
    where
      by_outcome : (o : Outcome) → FailsWell p mid.tables mid.outcome → PutGoesOn o mid end (Performs plans rose (join_operations plan p item t) mid.device (changed_at p (put_joined plan item) tables) end) → FailsWell p end.tables end.outcome
      by_outcome Finished h g =
          let with_item = put_joined plan item t in
          seals-here plans rose p plan (join_seals plan with_item) with_item mid.device (changed_at p (put_joined plan item) tables) end e (changed_at-there p (put_joined plan item) tables t at.is)
          (join-goes Bad start first pages plan with_item (done ++ put_pages plan t) others (all ++ item ∷ []) (split ∙ sym (append_assoc done (put_pages plan t) others)) (put-joins Bad start first pages plan item t done others all split order at.has)).goes g
      by_outcome (CutShort last) h g = subst (λ (x : Progress). FailsWell p x.tables x.outcome) (sym g) h
      by_outcome (Failed last) h g = subst (λ (x : Progress). FailsWell p x.tables x.outcome) (sym g) h

  pub puts-elsewhere : (plans : List Plan) (rose : Bool) (p n : ℕ) (plan : Plan) (item : Record) (u t : Table) (device : Device) (tables : List Table) (end : Progress) → n ≢ p → slice_get tables p ≡ Some t →
      Halts Bad start first pages (core t) (core t) → Puts plans rose plan n item u device tables end → FailsWell p end.tables end.outcome
  puts-elsewhere plans rose p n plan item u t device tables end other k halts (mid, did, goes) =
      by_outcome mid.outcome (seals-elsewhere plans rose p n plan (make_room_seals plan u) u t device tables mid other k halts did) goes
    where
      by_outcome : (o : Outcome) → FailsWell p mid.tables mid.outcome → PutGoesOn o mid end (Performs plans rose (join_operations plan n item u) mid.device (changed_at n (put_joined plan item) tables) end) → FailsWell p end.tables end.outcome
      by_outcome Finished h g =
          seals-elsewhere plans rose p n plan (join_seals plan (put_joined plan item u)) (put_joined plan item u) t mid.device (changed_at n (put_joined plan item) tables) end other (changed_at-elsewhere n p (put_joined plan item) tables other ∙ k) halts g
      by_outcome (CutShort last) h g = subst (λ (x : Progress). FailsWell p x.tables x.outcome) (sym g) h
      by_outcome (Failed last) h g = subst (λ (x : Progress). FailsWell p x.tables x.outcome) (sym g) h

  -- .. and where they are done
  pub put-there : (p : ℕ) (plan : Plan) (item : Record) (t : Table) (tables : List Table) (done others : List (List Record)) (all : List Record) → pages ≡ done ++ (put_pages plan t ++ others) → InOrder Bad (all ++ item ∷ []) → At p done all tables t →
      At p (done ++ put_pages plan t) (all ++ item ∷ []) (changed_at p (put_record plan item) tables) (put_record plan item t)
  put-there p plan item t tables done others all split order at = record {
    is = changed_at-there p (put_record plan item) tables t at.is;
    has = (join-goes Bad start first pages plan (put_joined plan item t) (done ++ put_pages plan t) others (all ++ item ∷ []) (split ∙ sym (append_assoc done (put_pages plan t) others)) (put-joins Bad start first pages plan item t done others all split order at.has)).has;
  }

  pub flush-there : (p : ℕ) (plan : Plan) (t : Table) (tables : List Table) (done others : List (List Record)) (all : List Record) → pages ≡ done ++ (flush_pages t ++ others) → At p done all tables t →
      At p (done ++ flush_pages t) all (changed_at p (flushed plan) tables) (flushed plan t)
  flush-there p plan t tables done others all split at = record {
    is = changed_at-there p (flushed plan) tables t at.is;
    has = (flush-goes Bad start first pages plan t done others all split at.has).has;
  }

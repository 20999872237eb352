-- Puts and flushes keep what is known of a table with a log.
use Rattle.std.proofs.Common.{◌≡◌, ◌≢◌, ℕ, zero, suc, ◌+◌, Bool, true, false, cond, Some, None, List, [], ◌∷◌, map, refl, sym, ◌∙◌, ap, subst, arith, ◌⊎◌, inl, inr, IsTrue}
use Rattle.std.specs.List.{slice_get, AllByRecursion}
use Rattle.std.proofs.lemmas.Option.{none-some, same_Some}
use Rattle.fl_base.specs.Generator.{next_random}
use Rattle.fl_model.specs.Record.{Plan, Record, Config, has_log, bytes_equal}
use Rattle.fl_model.specs.Table.{Table, refusal_of, put_joined, put_record, join_seals, flushed, table_seals, make_room_seals}
use Rattle.fl_model.specs.Work.{Operation, Progress, Outcome, Finished, CutShort, Failed, Device, Performs, operations_of, changed_at}
use Rattle.fl_model.specs.Within.{at_place, seals_within}
use Rattle.fl_model.specs.Puts.{Puts, PutGoesOn, join_operations}
use Rattle.fl_model.proofs.Among.{seals-at, changed_at-elsewhere, changed_at-there}
use Rattle.fl_words.specs.Command as command
use Rattle.fl_words.specs.Command.{Command}
use Rattle.fl_words.specs.Reply as reply
use Rattle.fl_words.specs.Reply.{Reply}
use Rattle.fl_machine.specs.Machine.{Machine}
use Rattle.fl_machine.specs.Step.{Moment, StepOf, Says, EndsAs, Located, located, located_from, PutStep, FlushStep, LoadsFrom, LoadsOn, load_record}
use Rattle.fl_machine.specs.Found.{HasRoom, LoggedPast, logged_passing, logged_past_on}
use Rattle.fl_machine.proofs.StepCases.{IsQuiet, quiet-step, with-option}
use Rattle.fl_machine.proofs.MountsAtPlace.{room_at}
use Rattle.fl_machine.proofs.Logs.{core}
use Rattle.fl_machine.proofs.RecordsChange.{Rows, GoesFrom, from-last}
use Rattle.fl_machine.proofs.LogOperations as sealing
use Rattle.fl_machine.proofs.LogOperations.{Goes}
use Rattle.fl_machine.proofs.LogTables.{Between, between-fine, between-phase, between-kept, stops-here, flush-goes, flush-between, put-goes, put-joined, join-goes-on}
use Rattle.fl_machine.proofs.LogMoves.{HaltsAt, EndsAt, all-at, strip-at, performs-here, performs-elsewhere}
use Rattle.fl_machine.proofs.LoggedStates.{Stands, IsLogKept, rows_at, LogKeepsAll, stands-now}
use Rattle.fl_machine.proofs.LoggedPasses.{log-pass, log-working, log-stopped}

-- a table by its name stands at its place
pub record IsLocated (plans : List Plan) (list : List Table) (at : Located) (place : ℕ) : Type 0 where
  pub plan : slice_get plans place ≡ Some at.plan
  pub table : slice_get list place ≡ Some at.table

located-by : (start : ℕ) (plans : List Plan) (list : List Table) (name : List ℕ) (at : Located) → located_from start plans list name ≡ Some at → (k : ℕ) × (at.place ≡ start + k) × IsLocated plans list at k
located-by start [] list name at e = absurd (none-some at e)
located-by start (plan ∷ plans) [] name at e = absurd (none-some at e)
located-by start (plan ∷ plans) (t ∷ list) name at e = by_name (bytes_equal plan.name name) e (λ g. located-by (start + 1) plans list name at g)
  where
    by_name : (b : Bool) → cond b (Some (record { place = start; plan = plan; table = t })) (located_from (start + 1) plans list name) ≡ Some at →
        (located_from (start + 1) plans list name ≡ Some at → (k : ℕ) × (at.place ≡ (start + 1) + k) × IsLocated plans list at k) → (k : ℕ) × (at.place ≡ start + k) × IsLocated (plan ∷ plans) (t ∷ list) at k
    by_name true e go =
        let same : record { place = start; plan = plan; table = t } ≡ at = cc (e) in
        (zero, (let q : at.place ≡ start = ap (λ (a : Located). a.place) (sym same) in omega (arith, q)), record { plan = ap (λ (a : Located). Some a.plan) same; table = ap (λ (a : Located). Some a.table) same })
    by_name false e go = let r = go e in (suc r.0, (let q = r.1 in omega (arith, q)), record { plan = r.2.plan; table = r.2.table })

pub located-is : (config : Config) (old : Machine) (name : List ℕ) (at : Located) → located config old name ≡ Some at → IsLocated config.plans old.tables at at.place
located-is config old name at e =
    let r = located-by 0 config.plans old.tables name at e in
    let same : r.0 ≡ at.place = let q = r.1 in omega (arith, q) in
    subst (IsLocated config.plans old.tables at) same r.2

-- two places
places : (n p : ℕ) → (n ≡ p) ⊎ (n ≢ p)
places zero zero = inl refl
places zero (suc p) = inr (λ e. absurd (omega (arith, e)))
places (suc n) zero = inr (λ e. absurd (omega (arith, e)))
places (suc n) (suc p) = elim (places n p) [ inl e ↦ inl (ap suc e) | inr h ↦ inr (λ e. h (omega (arith, e))) ]

module _ (start : Rows) where
  -- operations failed well
  abbrev pub FailsWell : ℕ → List Table → Outcome → Type 0
  FailsWell p left Finished = Unit {0}
  FailsWell p left (CutShort last) = HaltsAt p (sealing.Stops (GoesFrom start)) last left
  FailsWell p left (Failed last) = HaltsAt p (sealing.Stops (GoesFrom start)) last left

  fails-well : (p : ℕ) (t : Table) (left : List Table) (o : Outcome) → EndsAt p (sealing.Stops (GoesFrom start)) t left o → FailsWell p left o
  fails-well p t left Finished h = tt
  fails-well p t left (CutShort last) h = h
  fails-well p t left (Failed last) h = h

  -- seals of this table, and of another
  seals-here : (plans : List Plan) (rose : Bool) (p : ℕ) (plan : Plan) (rings : List _) (u t : Table) (device : Device) (list : List Table) (end : Progress) → slice_get plans p ≡ Some plan → slice_get list p ≡ Some t → u ≡ t →
      Goes plan (sealing.Stops (GoesFrom start)) (seals_within plan rings t) t → Performs plans rose (operations_of plan p rings u) device list end → FailsWell p end.tables end.outcome
  seals-here plans rose p plan rings u t device list end e k same goes did =
      let ops : operations_of plan p rings u ≡ map (at_place p) (seals_within plan rings t) = seals-at plan p rings u ∙ ap (λ (x : Table). map (at_place p) (seals_within plan rings x)) same in
      let ws = seals_within plan rings t in
      fails-well p _ end.tables end.outcome
      (performs-here plans rose (map (at_place p) ws) device list end p plan t (sealing.Stops (GoesFrom start)) e (all-at p ws) k (subst (λ (ops : List _). Goes plan (sealing.Stops (GoesFrom start)) ops t) (sym (strip-at p ws)) goes)
      (subst (λ (xs : List Operation). Performs plans rose xs device list end) ops did))

  seals-elsewhere : (plans : List Plan) (rose : Bool) (p n : ℕ) (plan : Plan) (rings : List _) (u t : Table) (device : Device) (list : List Table) (end : Progress) → n ≢ p → slice_get list p ≡ Some t → Between (GoesFrom start) t →
      Performs plans rose (operations_of plan n rings u) device list end → FailsWell p end.tables end.outcome
  seals-elsewhere plans rose p n plan rings u t device list end other k between did =
      let ws = seals_within plan rings u in
      fails-well p t end.tables end.outcome
      (performs-elsewhere plans rose (map (at_place n) ws) device list end p n t (sealing.Stops (GoesFrom start)) other (all-at n ws) k (stops-here (GoesFrom start) (from-last start) (core t) (between-fine t between) (between-phase t between) (between-kept t between))
      (subst (λ (xs : List Operation). Performs plans rose xs device list end) (seals-at plan n rings u) did))

  -- a put of this table, and of another
  puts-here : (plans : List Plan) (rose : Bool) (p : ℕ) (plan : Plan) (item : Record) (t : Table) (device : Device) (list : List Table) (end : Progress) → HasRoom plan → IsTrue (has_log plan) →
      slice_get plans p ≡ Some plan → slice_get list p ≡ Some t → Between (GoesFrom start) t → refusal_of plan t item ≡ None → Puts plans rose plan p item t device list end → FailsWell p end.tables end.outcome
  puts-here plans rose p plan item t device list end room logged e k between ok (mid, did, goes) = by_outcome mid.outcome (seals-here plans rose p plan (make_room_seals plan t) t t device list mid e k refl (put-goes (GoesFrom start) (from-last start) plan t item room between ok) did) goes
    where
      by_outcome : (o : Outcome) → FailsWell p mid.tables mid.outcome → PutGoesOn o mid end (Performs plans rose (join_operations plan p item t) mid.device (changed_at p (put_joined plan item) list) end) → FailsWell p end.tables end.outcome
      by_outcome Finished h g =
          seals-here plans rose p plan (join_seals plan (put_joined plan item t)) (put_joined plan item t) (put_joined plan item t) mid.device (changed_at p (put_joined plan item) list) end e (changed_at-there p (put_joined plan item) list t k) refl
          (join-goes-on (GoesFrom start) (from-last start) plan (put_joined plan item t) room logged (put-joined (GoesFrom start) (from-last start) plan t item room between ok)).0 g
      by_outcome (CutShort last) h g = subst (λ (x : Progress). FailsWell p x.tables x.outcome) (sym g) h
      by_outcome (Failed last) h g = subst (λ (x : Progress). FailsWell p x.tables x.outcome) (sym g) h

  puts-elsewhere : (plans : List Plan) (rose : Bool) (p n : ℕ) (plan : Plan) (item : Record) (u t : Table) (device : Device) (list : List Table) (end : Progress) → n ≢ p → slice_get list p ≡ Some t → Between (GoesFrom start) t →
      Puts plans rose plan n item u device list end → FailsWell p end.tables end.outcome
  puts-elsewhere plans rose p n plan item u t device list end other k between (mid, did, goes) =
      by_outcome mid.outcome (seals-elsewhere plans rose p n plan (make_room_seals plan u) u t device list mid other k between did) goes
    where
      by_outcome : (o : Outcome) → FailsWell p mid.tables mid.outcome → PutGoesOn o mid end (Performs plans rose (join_operations plan n item u) mid.device (changed_at n (put_joined plan item) list) end) → FailsWell p end.tables end.outcome
      by_outcome Finished h g =
          seals-elsewhere plans rose p n plan (join_seals plan (put_joined plan item u)) (put_joined plan item u) t mid.device (changed_at n (put_joined plan item) list) end other (changed_at-elsewhere n p (put_joined plan item) list other ∙ k) between g
      by_outcome (CutShort last) h g = subst (λ (x : Progress). FailsWell p x.tables x.outcome) (sym g) h
      by_outcome (Failed last) h g = subst (λ (x : Progress). FailsWell p x.tables x.outcome) (sym g) h

  -- a put at some place
  record PutKeeps (p : ℕ) (new left : List Table) (o : Outcome) : Type 0 where
    stands : Stands (GoesFrom start) p new
    fails : FailsWell p left o

  put-keeps : (plans : List Plan) (rose : Bool) (p n : ℕ) (own plan : Plan) (item : Record) (u : Table) (device : Device) (list : List Table) (end : Progress) → AllByRecursion HasRoom plans → IsTrue (has_log own) →
      slice_get plans p ≡ Some own → slice_get plans n ≡ Some plan → slice_get list n ≡ Some u → Stands (GoesFrom start) p list → refusal_of plan u item ≡ None → Puts plans rose plan n item u device list end →
      PutKeeps p (changed_at n (put_record plan item) list) end.tables end.outcome
  put-keeps plans rose p n own plan item u device list end room logged e k is stands ok did = by_place (places n p)
    where
      t : Table
      t = stands.table

      own_room : HasRoom own
      own_room = room_at plans p own room e

      elsewhere : n ≢ p → PutKeeps p (changed_at n (put_record plan item) list) end.tables end.outcome
      elsewhere other = record {
        stands = record { table = t; is = changed_at-elsewhere n p (put_record plan item) list other ∙ stands.is; between = stands.between };
        fails = puts-elsewhere plans rose p n plan item u t device list end other stands.is stands.between did;
      }

      -- the plan and the table are its own
      here : (q : Plan) (w : Table) → slice_get plans p ≡ Some q → slice_get list p ≡ Some w → refusal_of q w item ≡ None → Puts plans rose q p item w device list end → PutKeeps p (changed_at p (put_record q item) list) end.tables end.outcome
      here q w eq ew ok did =
          let plan_is : own ≡ q = same_Some own q (sym e ∙ eq) in
          let table_is : t ≡ w = same_Some t w (sym stands.is ∙ ew) in
          let q_log : IsTrue (has_log q) = subst (λ (r : Plan). IsTrue (has_log r)) plan_is logged in
          let q_room : HasRoom q = subst HasRoom plan_is own_room in
          let w_between : Between (GoesFrom start) w = subst (Between (GoesFrom start)) table_is stands.between in
          record {
            stands = record {
              table = put_record q item w;
              is = changed_at-there p (put_record q item) list w ew;
              between = (join-goes-on (GoesFrom start) (from-last start) q (put_joined q item w) q_room q_log (put-joined (GoesFrom start) (from-last start) q w item q_room w_between ok)).1;
            };
            fails = puts-here plans rose p q item w device list end q_room q_log eq ew w_between ok did;
          }

      by_place : (n ≡ p) ⊎ (n ≢ p) → PutKeeps p (changed_at n (put_record plan item) list) end.tables end.outcome
      by_place (inr other) = elsewhere other
      by_place (inl same) =
          subst (λ (m : ℕ). PutKeeps p (changed_at m (put_record plan item) list) end.tables end.outcome) (sym same)
          (here plan u (ap (λ (m : ℕ). slice_get plans m) (sym same) ∙ k) (ap (λ (m : ℕ). slice_get list m) (sym same) ∙ is) ok (subst (λ (m : ℕ). Puts plans rose plan m item u device list end) same did))

  -- a flush at some place
  flush-keeps : (plans : List Plan) (rose : Bool) (p n : ℕ) (own plan : Plan) (u : Table) (device : Device) (list : List Table) (end : Progress) → AllByRecursion HasRoom plans →
      slice_get plans p ≡ Some own → slice_get plans n ≡ Some plan → slice_get list n ≡ Some u → Stands (GoesFrom start) p list → Performs plans rose (operations_of plan n (table_seals plan u) u) device list end →
      PutKeeps p (changed_at n (flushed plan) list) end.tables end.outcome
  flush-keeps plans rose p n own plan u device list end room e k is stands did = by_place (places n p)
    where
      t : Table
      t = stands.table

      here : (w : Table) → slice_get plans p ≡ Some plan → slice_get list p ≡ Some w → Performs plans rose (operations_of plan p (table_seals plan w) w) device list end → PutKeeps p (changed_at p (flushed plan) list) end.tables end.outcome
      here w eq ew did =
          let table_is : t ≡ w = same_Some t w (sym stands.is ∙ ew) in
          let w_between : Between (GoesFrom start) w = subst (Between (GoesFrom start)) table_is stands.between in
          let p_room : HasRoom plan = room_at plans p plan room eq in
          record {
            stands = record { table = flushed plan w; is = changed_at-there p (flushed plan) list w ew; between = flush-between (GoesFrom start) (from-last start) plan w p_room w_between };
            fails = seals-here plans rose p plan (table_seals plan w) w w device list end eq ew refl (flush-goes (GoesFrom start) (from-last start) plan w p_room w_between) did;
          }

      by_place : (n ≡ p) ⊎ (n ≢ p) → PutKeeps p (changed_at n (flushed plan) list) end.tables end.outcome
      by_place (inr other) = record {
        stands = record { table = t; is = changed_at-elsewhere n p (flushed plan) list other ∙ stands.is; between = stands.between };
        fails = seals-elsewhere plans rose p n plan (table_seals plan u) u t device list end other stands.is stands.between did;
      }
      by_place (inl same) =
          subst (λ (m : ℕ). PutKeeps p (changed_at m (flushed plan) list) end.tables end.outcome) (sym same)
          (here u (ap (λ (m : ℕ). slice_get plans m) (sym same) ∙ k) (ap (λ (m : ℕ). slice_get list m) (sym same) ∙ is) (subst (λ (m : ℕ). Performs plans rose (operations_of plan m (table_seals plan u) u) device list end) same did))

-- they ended so
log-ends : (p : ℕ) (past : LoggedPast) (old new : Machine) (moment : Moment) (c : Command) (end : Progress) (o : Outcome) (ok : List Reply) → c ≢ command.Mount → old.mounted ≡ true → new.mounted ≡ true → Stands (GoesFrom (rows_at p old.tables)) p new.tables →
    FailsWell (rows_at p old.tables) p end.tables o → EndsAs o old moment end [] ok new → LogKeepsAll p past old moment c
log-ends p past old new moment c end Finished ok other was now stands fails h =
    log-working p past old moment c new.tables other h.last_is (ap (λ (m : Machine). m.tables) h.after_is) was (ap (λ (m : Machine). m.mounted) h.after_is ∙ now) stands
log-ends p past old new moment c end (CutShort last) ok other was now stands fails h = log-stopped p past old moment c end last _ other was fails h
log-ends p past old new moment c end (Failed last) ok other was now stands fails h = log-stopped p past old moment c end last _ other was fails h

-- a command that isn't a mount and leaves the past
abbrev pub IsPlain : ℕ → LoggedPast → Machine → Moment → Command → Type 0
IsPlain p past old moment c = (c ≢ command.Mount) × (logged_past_on p past old moment None c ≡ logged_passing p past old.tables moment.after.tables)

pub log-says : (p : ℕ) (past : LoggedPast) (old new : Machine) (moment : Moment) (c : Command) (replies : List Reply) → IsPlain p past old moment c → new.tables ≡ old.tables → new.mounted ≡ old.mounted →
    IsLogKept p past old → Says moment replies new → LogKeepsAll p past old moment c
log-says p past old new moment c replies plain same mounted kept says =
    log-pass p past old moment c plain.0 plain.1 says.last_is (ap (λ (m : Machine). m.tables) says.after_is ∙ same) (ap (λ (m : Machine). m.mounted) says.after_is ∙ mounted) kept

pub log-quiet : (config : Config) (p : ℕ) (past : LoggedPast) (old : Machine) (moment : Moment) (c : Command) → IsQuiet c → IsPlain p past old moment c → IsLogKept p past old → StepOf config old moment c → LogKeepsAll p past old moment c
log-quiet config p past old moment c quiet plain kept h =
    let left = quiet-step config old moment c quiet h in
    log-pass p past old moment c plain.0 plain.1 left.last left.tables left.mounted kept

pub log-put : (config : Config) (p : ℕ) (own : Plan) (past : LoggedPast) (old : Machine) (moment : Moment) (c : Command) (item : Record) (at : Located) → AllByRecursion HasRoom config.plans → slice_get config.plans p ≡ Some own → IsTrue (has_log own) →
    IsPlain p past old moment c → old.mounted ≡ true → IsLocated config.plans old.tables at at.place → IsLogKept p past old → PutStep config old moment item at → LogKeepsAll p past old moment c
log-put config p own past old moment c item at room e logged plain mounted where_is kept h =
    with-option (refusal_of at.plan at.table item) _ _ _
    (λ ok k.
    let keeps = put-keeps (rows_at p old.tables) config.plans moment.rose p at.place own at.plan item at.table old.device old.tables k.0 room logged e where_is.plan where_is.table (stands-now p old.tables (kept.session mounted)) ok k.1 in
    log-ends p past old _ moment c k.0 k.0.outcome (reply.Done ∷ []) plain.0 mounted mounted keeps.stands keeps.fails k.2)
    (λ refusal ok says. log-says p past old old moment c _ plain refl refl kept says) h

pub log-flush : (config : Config) (p : ℕ) (own : Plan) (past : LoggedPast) (old : Machine) (moment : Moment) (c : Command) (at : Located) → AllByRecursion HasRoom config.plans → slice_get config.plans p ≡ Some own →
    IsPlain p past old moment c → old.mounted ≡ true → IsLocated config.plans old.tables at at.place → IsLogKept p past old → FlushStep config old moment at → LogKeepsAll p past old moment c
log-flush config p own past old moment c at room e plain mounted where_is kept h =
    let keeps = flush-keeps (rows_at p old.tables) config.plans moment.rose p at.place own at.plan at.table old.device old.tables h.0 room e where_is.plan where_is.table (stands-now p old.tables (kept.session mounted)) h.1 in
    log-ends p past old _ moment c h.0 h.0.outcome (reply.Done ∷ []) plain.0 mounted mounted keeps.stands keeps.fails h.2

pub log-loads : (config : Config) (p : ℕ) (own : Plan) (past : LoggedPast) (old : Machine) (moment : Moment) (c : Command) (plan : Plan) (place step seed turns i s loaded : ℕ) (device : Device) (list : List Table) →
    AllByRecursion HasRoom config.plans → slice_get config.plans p ≡ Some own → IsTrue (has_log own) → c ≢ command.Mount → old.mounted ≡ true → slice_get config.plans place ≡ Some plan → Stands (GoesFrom (rows_at p old.tables)) p list →
    LoadsFrom config old moment plan place step seed turns i s loaded device list → LogKeepsAll p past old moment c
log-loads config p own past old moment c plan place step seed zero i s loaded device list room e logged other mounted k stands h =
    log-working p past old moment c list other h.last_is (ap (λ (m : Machine). m.tables) h.after_is) mounted (ap (λ (m : Machine). m.mounted) h.after_is ∙ mounted) stands
log-loads config p own past old moment c plan place step seed (suc turns) i s loaded device list room e logged other mounted k stands h =
    with-option (slice_get list place) _ _ _
    (λ q says. log-working p past old moment c list other says.last_is (ap (λ (m : Machine). m.tables) says.after_is) mounted (ap (λ (m : Machine). m.mounted) says.after_is ∙ mounted) stands)
    (λ table q g. with-option (refusal_of plan table (load_record plan table step seed i s)) _ _ _
    (λ ok m.
    let item = load_record plan table step seed i s in
    let keeps = put-keeps (rows_at p old.tables) config.plans moment.rose p place own plan item table device list m.0 room logged e k q stands ok m.1 in
    goes_on m.0 m.0.outcome keeps.fails _ (λ rest. log-loads config p own past old moment c plan place step seed turns (i + 1) (next_random s) (loaded + 1) m.0.device _ room e logged other mounted k keeps.stands rest) m.2)
    (λ refusal ok says. log-working p past old moment c list other says.last_is (ap (λ (m : Machine). m.tables) says.after_is) mounted (ap (λ (m : Machine). m.mounted) says.after_is ∙ mounted) stands) g) h
  where
    goes_on : (end : Progress) (o : Outcome) → FailsWell (rows_at p old.tables) p end.tables o → (others : Type 0) → (others → LogKeepsAll p past old moment c) → LoadsOn o old moment end loaded others → LogKeepsAll p past old moment c
    goes_on end Finished fails others rest h = rest h
    goes_on end (CutShort last) fails others rest h = log-stopped p past old moment c end last _ other mounted fails h
    goes_on end (Failed last) fails others rest h = log-stopped p past old moment c end last _ other mounted fails h

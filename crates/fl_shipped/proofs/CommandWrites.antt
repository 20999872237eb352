-- What a command writes into a table: puts, flushes and loads.
use Rattle.std.proofs.Common.{◌≡◌, ◌≢◌, ℕ, zero, suc, ◌+◌, ◌-◌, ◌<◌, ◌≤◌, true, cond, Option, Some, None, List, [], ◌∷◌, ◌++◌, length, map, take, drop, refl, sym, ◌∙◌, ap, subst, arith, ◌⊎◌, inl, inr, MatchOption}
use Rattle.std.specs.List.{last_or, slice_get}
use Rattle.std.specs.Option.{is_some, option_map}
use Rattle.std.proofs.lemmas.Bool.{cases_eq, cases_lt}
use Rattle.std.proofs.lemmas.List.{append-nil, append_assoc}
use Rattle.std.proofs.lemmas.Option.{slice_get-map, none-some, same_Some}
use Rattle.std.proofs.Math.Seq.{drop-length, take-append_seam, take-length}
use Rattle.fl_base.specs.Generator.{next_random}
use Rattle.fl_model.specs.Puts.{Puts}
use Rattle.fl_model.specs.Record.{Config, Plan, Record}
use Rattle.fl_model.specs.Table.{Entry, Table, flushed, lose, put_record, refusal_of, table_seals, written}
use Rattle.fl_model.specs.Work.{CutShort, Device, Failed, Finished, Outcome, Progress, changed_at}
use Rattle.fl_model.proofs.Lists.{take_none}
use Rattle.fl_model.proofs.Among.{changed_at-elsewhere}
use Rattle.fl_words.specs.Command as command
use Rattle.fl_words.specs.Command.{Command}
use Rattle.fl_words.specs.Reply as reply
use Rattle.fl_words.specs.Reply.{Reply}
use Rattle.fl_machine.specs.Machine.{Machine}
use Rattle.fl_machine.specs.Step.{EndsAs, FlushStep, LoadStep, LoadsFrom, LoadsOn, Located, Moment, PutStep, Says, located, load_record, refused}
use Rattle.fl_machine.proofs.Logs.{core}
use Rattle.fl_machine.proofs.LoggedPuts.{IsLocated, located-is}
use Rattle.fl_machine.proofs.StepCases.{with-option}
use Rattle.fl_shipped.specs.Growing.{flush_pages, load_pages, paged_records, put_pages, waiting_records, sealed_pages, written_by}
use Rattle.fl_shipped.proofs.SealedPages.{Halts, HasSealed, IsUnderway, flush-goes, joined, order-takes, put-some, records}
use Rattle.fl_shipped.proofs.Orders.{DropsFrom, InOrder, order-front, order-push}
use Rattle.fl_shipped.specs.Ascending.{TakesLower, first_put, named_by}
use Rattle.fl_shipped.proofs.PagesAtPlace.{At, FailsWell, LeftAt, flush-there, left-at, put-there, puts-elsewhere, puts-here, seals-elsewhere, seals-here}

-- ---- what is known of a table between two commands

-- its pages have all that was written, but for the oldest, and the keys of that and of what waits ascend
pub record Kept (Bad : Type 0) (written : List Record) (t : Table) : Type 0 where
  pub kept : DropsFrom written (paged_records t)
  pub order : InOrder Bad (written ++ waiting_records t)

begins : (Bad : Type 0) (written : List Record) (x : Table) → Kept Bad written x → HasSealed Bad written x.rows.next [] (written ++ waiting_records x) (paged_records x) (waiting_records x) x.rows.next
begins Bad written x h = record {
  next_is = omega arith;
  kept = subst (λ (rs : List Record). DropsFrom rs (paged_records x)) (sym (append-nil written)) h.kept;
  all_is = ap (λ (rs : List Record). rs ++ waiting_records x) (sym (append-nil written));
  order = h.order;
}

-- the table at p after a moment, by what was written in it
pub record StepKeeps (Bad : Type 0) (plan : Plan) (p : ℕ) (written : List Record) (x : Table) (m : Moment) (c : Command) : Type 0 where
  pub table : Table
  pub is : slice_get m.after.tables p ≡ Some table
  pub kept : Kept Bad (written ++ written_by plan x table c) table

-- nothing was, where it has as many page numbers
none-written : (plan : Plan) (x y : Table) (c : Command) → y.rows.next ≡ x.rows.next → written_by plan x y c ≡ []
none-written plan x y c e =
    let z : y.rows.next - x.rows.next ≡ 0 = omega (arith, e) in
    ap (λ n. joined (take n (sealed_pages plan x c))) z ∙ ap joined (take_none (sealed_pages plan x c))

pub kept-none : (Bad : Type 0) (plan : Plan) (written : List Record) (x y : Table) (c : Command) → written_by plan x y c ≡ [] → Kept Bad written y → Kept Bad (written ++ written_by plan x y c) y
kept-none Bad plan written x y c none h = subst (λ (rs : List Record). Kept Bad rs y) (sym (ap (λ (rs : List Record). written ++ rs) none ∙ append-nil written)) h

-- what is in no page is lost
pub lost-keeps : (Bad : Type 0) (written : List Record) (t : Table) → Kept Bad written t → Kept Bad written (lose t)
lost-keeps Bad all t h =
    let z : length (written t) - 0 ≡ length (written t) = omega arith in
    let paged : paged_records (lose t) ≡ paged_records t = ap records (ap (λ n. take n (written t)) z ∙ take-length (written t)) in
    let waiting : waiting_records (lose t) ≡ [] = ap records (ap (λ n. drop n (written t)) z ∙ drop-length (written t)) in
    record {
      kept = subst (DropsFrom all) (sym paged) h.kept;
      order = subst (InOrder Bad) (sym (ap (λ (rs : List Record). all ++ rs) waiting ∙ append-nil all)) (order-front Bad all (waiting_records t) h.order);
    }

-- what a command writes, by the pages that it has to write
abbrev Writes : Type 0 → Plan → List Record → Table → Command → List (List Record) → Type 0
Writes Bad plan written x c pages = (y : Table) → IsUnderway Bad written x.rows.next pages (paged_records y) (waiting_records y) y.rows.next → Kept Bad (written ++ written_by plan x y c) y

writes-by : (Bad : Type 0) (plan : Plan) (written : List Record) (x y : Table) (c : Command) (pages : List (List Record)) (h : IsUnderway Bad written x.rows.next pages (paged_records y) (waiting_records y) y.rows.next) →
    written_by plan x y c ≡ joined h.done → Kept Bad (written ++ written_by plan x y c) y
writes-by Bad plan written x y c pages h e =
    let all : written ++ joined h.done ≡ written ++ written_by plan x y c = ap (λ (rs : List Record). written ++ rs) (sym e) in
    record {
      kept = subst (λ (rs : List Record). DropsFrom rs (paged_records y)) all h.has.kept;
      order = subst (InOrder Bad) (h.has.all_is ∙ ap (λ (rs : List Record). rs ++ waiting_records y) all) h.has.order;
    }

writes-here : (Bad : Type 0) (plan : Plan) (written : List Record) (x : Table) (c : Command) → Writes Bad plan written x c (sealed_pages plan x c)
writes-here Bad plan written x c y h =
    let n = h.has.next_is in
    let many : y.rows.next - x.rows.next ≡ length h.done = omega (arith, n) in
    writes-by Bad plan written x y c (sealed_pages plan x c) h
    (ap (λ k. joined (take k (sealed_pages plan x c))) many ∙ (ap (λ (ps : List (List Record)). joined (take (length h.done) ps)) h.split ∙ ap joined (take-append_seam h.done h.others)))

writes-elsewhere : (Bad : Type 0) (plan : Plan) (written : List Record) (x : Table) (c : Command) → Writes Bad plan written x c []
writes-elsewhere Bad plan written x c y h =
    let none : h.done ≡ [] = empty h.done h.others h.split in
    let n = h.has.next_is in
    let l : length h.done ≡ 0 = ap (λ (ps : List (List Record)). length ps) none in
    writes-by Bad plan written x y c [] h (none-written plan x y c (omega (arith, n, l)) ∙ ap joined (sym none))
  where
    empty : (done others : List (List Record)) → [] ≡ done ++ others → done ≡ []
    empty [] others e = refl
    empty (d ∷ done) others e = absurd (some e)
      where
        some : [] ≡ d ∷ (done ++ others) → ⊥
        some e = cc

-- ---- a moment

module _ (Bad : Type 0) (config : Config) (p : ℕ) (plan : Plan) (written : List Record) (x : Table) (old : Machine) (m : Moment) where
  -- one that leaves the table
  pub step-stays : (c : Command) (new : Machine) → slice_get old.tables p ≡ Some x → Kept Bad written x → m.after ≡ new → new.tables ≡ old.tables → StepKeeps Bad plan p written x m c
  step-stays c new k h e s = record {
    table = x;
    is = ap (λ (machine : Machine). slice_get machine.tables p) e ∙ (ap (λ (ts : List Table). slice_get ts p) s ∙ k);
    kept = kept-none Bad plan written x x c (none-written plan x x c refl) h;
  }

  -- one that went on, and one in which an operation failed
  step-done : (c : Command) (pages : List (List Record)) (new : Machine) → Writes Bad plan written x c pages → LeftAt Bad written x.rows.next pages p new.tables → m.after ≡ new → StepKeeps Bad plan p written x m c
  step-done c pages new writes h e = record {
    table = h.table;
    is = ap (λ (machine : Machine). slice_get machine.tables p) e ∙ h.is;
    kept = writes h.table h.has;
  }

  step-lost : (c : Command) (pages : List (List Record)) (left : List Table) → Writes Bad plan written x c pages → LeftAt Bad written x.rows.next pages p left → m.after.tables ≡ map lose left → StepKeeps Bad plan p written x m c
  step-lost c pages left writes h e = record {
    table = lose h.table;
    is = ap (λ (ts : List Table). slice_get ts p) e ∙ (slice_get-map lose left p ∙ ap (option_map lose) h.is);
    kept = lost-keeps Bad (written ++ written_by plan x h.table c) h.table (writes h.table h.has);
  }

  step-ends : (c : Command) (new : Machine) (pages : List (List Record)) (end : Progress) (o : Outcome) (before ok : List Reply) → Writes Bad plan written x c pages →
      LeftAt Bad written x.rows.next pages p new.tables → FailsWell Bad written x.rows.next pages p end.tables o → EndsAs o old m end before ok new → StepKeeps Bad plan p written x m c
  step-ends c new pages end Finished before ok writes done fails e = step-done c pages new writes done e.after_is
  step-ends c new pages end (CutShort last) before ok writes done fails e = step-lost c pages end.tables writes fails (ap (λ (machine : Machine). machine.tables) e.after_is)
  step-ends c new pages end (Failed last) before ok writes done fails e = step-lost c pages end.tables writes fails (ap (λ (machine : Machine). machine.tables) e.after_is)

  at-first : (pages : List (List Record)) (tables : List Table) → Kept Bad written x → slice_get tables p ≡ Some x → At Bad written x.rows.next pages p [] (written ++ waiting_records x) tables x
  at-first pages tables h k = record { is = k; has = begins Bad written x h }

  elsewhere-halts : Kept Bad written x → Halts Bad written x.rows.next [] (core x) (core x)
  elsewhere-halts h = record { done = []; others = []; all = written ++ waiting_records x; split = refl; has = begins Bad written x h }

  elsewhere-left : (tables : List Table) → Kept Bad written x → slice_get tables p ≡ Some x → LeftAt Bad written x.rows.next [] p tables
  elsewhere-left tables h k = left-at Bad written x.rows.next [] p [] [] (written ++ waiting_records x) tables x refl (at-first [] tables h k)

  -- the plan and the table of a command at this place
  is-here : (at : Located) → slice_get config.plans p ≡ Some plan → slice_get old.tables p ≡ Some x → IsLocated config.plans old.tables at at.place → at.place ≡ p → at ≡ record { place = p; plan = plan; table = x }
  is-here at e k where_is same =
      let q : at.plan ≡ plan = same_Some at.plan plan (sym (subst (λ n. slice_get config.plans n ≡ Some at.plan) same where_is.plan) ∙ e) in
      let t : at.table ≡ x = same_Some at.table x (sym (subst (λ n. slice_get old.tables n ≡ Some at.table) same where_is.table) ∙ k) in
      rw (same, q, t) refl

  -- the first record of a table without one has a key above all that was written, or not
  order-first : (name : List ℕ) (item : Record) → (TakesLower config p plan written old m → Bad) → old.mounted ≡ true → located config old name ≡ Some (record { place = p; plan = plan; table = x }) →
      named_by m.command ≡ name → first_put plan x m.command ≡ Some item → refusal_of plan x item ≡ None → Kept Bad written x → x.entries ≡ [] → InOrder Bad ((written ++ waiting_records x) ++ item ∷ [])
  order-first name item bad mounted here named puts ok h empty =
      subst (λ (rs : List Record). InOrder Bad (rs ++ item ∷ [])) (sym all) (by_last (last_or None written) refl)
    where
      nothing : (n : ℕ) (es : List Entry) → es ≡ [] → drop n es ≡ []
      nothing zero [] e = refl
      nothing (suc n) [] e = refl
      nothing n (w ∷ es) e = absurd (some e)
        where
          some : w ∷ es ≡ [] → ⊥
          some e = cc

      waiting : waiting_records x ≡ []
      waiting = ap records (nothing (length x.entries - x.pending) x.entries empty)

      all : written ++ waiting_records x ≡ written
      all = ap (λ (rs : List Record). written ++ rs) waiting ∙ append-nil written

      order : InOrder Bad written
      order = subst (InOrder Bad) all h.order

      by_last : (o : Option Record) → last_or None written ≡ o → InOrder Bad (written ++ item ∷ [])
      by_last None q = order-push Bad written item order (λ last k. absurd (none-some last (sym q ∙ k)))
      by_last (Some last) q = by_order (cases_lt last.key item.key)
        where
          by_order : (last.key < item.key) ⊎ (item.key ≤ last.key) → InOrder Bad (written ++ item ∷ [])
          by_order (inl lt) = order-push Bad written item order (λ other k. let same : other ≡ last = cc (sym k ∙ q) in let e = ap (λ (r : Record). r.key) same in omega (arith, e, lt))
          by_order (inr le) = inr (bad (record {
            mounted = mounted;
            table = x;
            at = ap (located config old) named ∙ here;
            empty = empty;
            item = item;
            puts = puts;
            accepted = ok;
            last = last;
            last_is = q;
            lower = le;
          }))

  -- ---- puts and flushes

  pub put-keeps : (name : List ℕ) (item : Record) (at : Located) → let c = command.Put name item.key item.values item.blob in
      m.command ≡ c → (TakesLower config p plan written old m → Bad) → old.mounted ≡ true → located config old name ≡ Some at → slice_get config.plans p ≡ Some plan → slice_get old.tables p ≡ Some x → Kept Bad written x →
      PutStep config old m item at → StepKeeps Bad plan p written x m c
  put-keeps name item at same bad mounted found e k kept h = by_place (cases_eq at.place p)
    where
      c : Command
      c = command.Put name item.key item.values item.blob

      here : located config old name ≡ Some (record { place = p; plan = plan; table = x }) → PutStep config old m item (record { place = p; plan = plan; table = x }) → StepKeeps Bad plan p written x m c
      here located_here h =
          with-option (refusal_of plan x item) _ _ _
          (λ ok g.
          let pages = put_pages plan x in
          let split : pages ≡ [] ++ (put_pages plan x ++ []) = sym (append-nil (put_pages plan x)) in
          let all = written ++ waiting_records x in
          let first = at-first pages old.tables kept k in
          let order = order-takes Bad written x.rows.next [] all plan item x first.has ok (order-first name item bad mounted located_here (ap named_by same) (ap (first_put plan x) same) ok kept) in
          step-ends c _ pages g.0 g.0.outcome [] (reply.Done ∷ []) (writes-here Bad plan written x c)
          (left-at Bad written x.rows.next pages p (put_pages plan x) [] (all ++ item ∷ []) _ (put_record plan item x) split (put-there Bad written x.rows.next pages p plan item x old.tables [] [] all split order first))
          (puts-here Bad written x.rows.next pages config.plans m.rose p plan item x old.device old.tables g.0 [] [] all e split order first g.1) g.2)
          (λ refusal ok says. step-stays c old k kept says.after_is refl) h

      elsewhere : at.place ≢ p → StepKeeps Bad plan p written x m c
      elsewhere other =
          with-option (refusal_of at.plan at.table item) _ _ _
          (λ ok g.
          step-ends c _ [] g.0 g.0.outcome [] (reply.Done ∷ []) (writes-elsewhere Bad plan written x c)
          (elsewhere-left _ kept (changed_at-elsewhere at.place p (put_record at.plan item) old.tables other ∙ k))
          (puts-elsewhere Bad written x.rows.next [] config.plans m.rose p at.place at.plan item at.table x old.device old.tables g.0 other k (elsewhere-halts kept) g.1) g.2)
          (λ refusal ok says. step-stays c old k kept says.after_is refl) h

      by_place : (at.place ≡ p) ⊎ (at.place ≡ p → ⊥) → StepKeeps Bad plan p written x m c
      by_place (inl there) =
          let q = is-here at e k (located-is config old name at found) there in
          here (found ∙ ap (λ (l : Located). Some l) q) (subst (PutStep config old m item) q h)
      by_place (inr other) = elsewhere other

  pub flush-keeps : (name : List ℕ) (at : Located) → located config old name ≡ Some at → slice_get config.plans p ≡ Some plan → slice_get old.tables p ≡ Some x → Kept Bad written x →
      FlushStep config old m at → StepKeeps Bad plan p written x m (command.Flush name)
  flush-keeps name at found e k kept h = by_place (cases_eq at.place p)
    where
      c : Command
      c = command.Flush name

      here : FlushStep config old m (record { place = p; plan = plan; table = x }) → StepKeeps Bad plan p written x m c
      here g =
          let pages = flush_pages x in
          let split : pages ≡ [] ++ (flush_pages x ++ []) = sym (append-nil (flush_pages x)) in
          let all = written ++ waiting_records x in
          let first = at-first pages old.tables kept k in
          step-ends c _ pages g.0 g.0.outcome [] (reply.Done ∷ []) (writes-here Bad plan written x c)
          (left-at Bad written x.rows.next pages p (flush_pages x) [] all _ (flushed plan x) split (flush-there Bad written x.rows.next pages p plan x old.tables [] [] all split first))
          (seals-here Bad written x.rows.next pages config.plans m.rose p plan (table_seals plan x) x old.device old.tables g.0 e k (flush-goes Bad written x.rows.next pages plan x [] [] all split first.has).goes g.1) g.2

      elsewhere : at.place ≢ p → StepKeeps Bad plan p written x m c
      elsewhere other =
          step-ends c _ [] h.0 h.0.outcome [] (reply.Done ∷ []) (writes-elsewhere Bad plan written x c)
          (elsewhere-left _ kept (changed_at-elsewhere at.place p (flushed at.plan) old.tables other ∙ k))
          (seals-elsewhere Bad written x.rows.next [] config.plans m.rose p at.place at.plan (table_seals at.plan at.table) at.table x old.device old.tables h.0 other k (elsewhere-halts kept) h.1) h.2

      by_place : (at.place ≡ p) ⊎ (at.place ≡ p → ⊥) → StepKeeps Bad plan p written x m c
      by_place (inl there) = here (subst (FlushStep config old m) (is-here at e k (located-is config old name at found) there) h)
      by_place (inr other) = elsewhere other

  -- ---- loads

  load-next : (step seed turns i s : ℕ) (t : Table) → refusal_of plan t (load_record plan t step seed i s) ≡ None →
      load_pages plan step seed (suc turns) i s t ≡ put_pages plan t ++ load_pages plan step seed turns (i + 1) (next_random s) (put_record plan (load_record plan t step seed i s) t)
  load-next step seed turns i s t ok =
      ap (λ (o : Option _). cond (is_some o) [] (put_pages plan t ++ load_pages plan step seed turns (i + 1) (next_random s) (put_record plan (load_record plan t step seed i s) t))) ok

  loads-here : (c : Command) (step seed turns i s loaded : ℕ) (device : Device) (tables : List Table) (done : List (List Record)) (all : List Record) (t : Table) → slice_get config.plans p ≡ Some plan →
      sealed_pages plan x c ≡ done ++ load_pages plan step seed turns i s t → (0 < turns → refusal_of plan t (load_record plan t step seed i s) ≡ None → t.entries ≡ [] → InOrder Bad (all ++ load_record plan t step seed i s ∷ [])) →
      At Bad written x.rows.next (sealed_pages plan x c) p done all tables t → LoadsFrom config old m plan p step seed turns i s loaded device tables → StepKeeps Bad plan p written x m c
  loads-here c step seed zero i s loaded device tables done all t e split new at h =
      step-done c (sealed_pages plan x c) _ (writes-here Bad plan written x c) (left-at Bad written x.rows.next (sealed_pages plan x c) p done [] all tables t split at) h.after_is
  loads-here c step seed (suc turns) i s loaded device tables done all t e split new at h =
      with-option (slice_get tables p) _ _ _ (λ q says. stops says.after_is)
      (λ u q g. turn (subst Turn (sym (same_Some t u (sym at.is ∙ q))) g) (λ next_device left split at rest.
      loads-here c step seed turns (i + 1) (next_random s) (loaded + 1) next_device left (done ++ put_pages plan t) (all ++ item ∷ []) (put_record plan item t) e split (λ some ok empty. absurd (put-some plan item t empty)) at rest)) h
    where
      pages : List (List Record)
      pages = sealed_pages plan x c

      item : Record
      item = load_record plan t step seed i s

      -- the pages that are left behind those of this put
      others : List (List Record)
      others = load_pages plan step seed turns (i + 1) (next_random s) (put_record plan item t)

      Turn : Table → Type 0
      Turn u =
          MatchOption (refusal_of plan u (load_record plan u step seed i s))
          ((end : Progress) × Puts config.plans m.rose plan p (load_record plan u step seed i s) u device tables end
          × LoadsOn end.outcome old m end loaded
          (LoadsFrom config old m plan p step seed turns (i + 1) (next_random s) (loaded + 1) end.device (changed_at p (put_record plan (load_record plan u step seed i s)) tables)))
          (λ refusal. Says m (reply.Loaded loaded ∷ refused refusal ∷ []) (record old { device = device; tables = tables }))

      stops : m.after ≡ record old { device = device; tables = tables } → StepKeeps Bad plan p written x m c
      stops e = step-done c pages _ (writes-here Bad plan written x c) (left-at Bad written x.rows.next pages p done (load_pages plan step seed (suc turns) i s t) all tables t split at) e

      goes_on : (end : Progress) (o : Outcome) → FailsWell Bad written x.rows.next pages p end.tables o → (rest : Type 0) → (rest → StepKeeps Bad plan p written x m c) → LoadsOn o old m end loaded rest → StepKeeps Bad plan p written x m c
      goes_on end Finished fails rest go g = go g
      goes_on end (CutShort last) fails rest go g = step-lost c pages end.tables (writes-here Bad plan written x c) fails (ap (λ (machine : Machine). machine.tables) g.after_is)
      goes_on end (Failed last) fails rest go g = step-lost c pages end.tables (writes-here Bad plan written x c) fails (ap (λ (machine : Machine). machine.tables) g.after_is)

      turn : Turn t →
          ((next_device : Device) (left : List Table) → pages ≡ (done ++ put_pages plan t) ++ others → At Bad written x.rows.next pages p (done ++ put_pages plan t) (all ++ item ∷ []) left (put_record plan item t) →
          LoadsFrom config old m plan p step seed turns (i + 1) (next_random s) (loaded + 1) next_device left → StepKeeps Bad plan p written x m c) → StepKeeps Bad plan p written x m c
      turn g go =
          with-option (refusal_of plan t item) _ _ _
          (λ ok g.
          let next : pages ≡ done ++ (put_pages plan t ++ others) = split ∙ ap (λ (ps : List (List Record)). done ++ ps) (load-next step seed turns i s t ok) in
          let order = order-takes Bad written x.rows.next done all plan item t at.has ok (new (omega arith) ok) in
          goes_on g.0 g.0.outcome (puts-here Bad written x.rows.next pages config.plans m.rose p plan item t device tables g.0 done others all e next order at g.1) _
          (λ rest. go g.0.device (changed_at p (put_record plan item) tables) (next ∙ sym (append_assoc done (put_pages plan t) others)) (put-there Bad written x.rows.next pages p plan item t tables done others all next order at) rest) g.2)
          (λ refusal ok says. stops says.after_is) g

  loads-elsewhere : (c : Command) (n : ℕ) (q : Plan) (step seed turns i s loaded : ℕ) (device : Device) (tables : List Table) → n ≢ p → slice_get tables p ≡ Some x → Kept Bad written x →
      LoadsFrom config old m q n step seed turns i s loaded device tables → StepKeeps Bad plan p written x m c
  loads-elsewhere c n q step seed zero i s loaded device tables other k kept h = step-done c [] _ (writes-elsewhere Bad plan written x c) (elsewhere-left tables kept k) h.after_is
  loads-elsewhere c n q step seed (suc turns) i s loaded device tables other k kept h =
      with-option (slice_get tables n) _ _ _ (λ none says. stops says.after_is)
      (λ u there g. with-option (refusal_of q u (load_record q u step seed i s)) _ _ _
      (λ ok g.
      let item = load_record q u step seed i s in
      goes_on g.0 g.0.outcome (puts-elsewhere Bad written x.rows.next [] config.plans m.rose p n q item u x device tables g.0 other k (elsewhere-halts kept) g.1) _
      (λ rest. loads-elsewhere c n q step seed turns (i + 1) (next_random s) (loaded + 1) g.0.device (changed_at n (put_record q item) tables) other (changed_at-elsewhere n p (put_record q item) tables other ∙ k) kept rest) g.2)
      (λ refusal ok says. stops says.after_is) g) h
    where
      stops : m.after ≡ record old { device = device; tables = tables } → StepKeeps Bad plan p written x m c
      stops e = step-done c [] _ (writes-elsewhere Bad plan written x c) (elsewhere-left tables kept k) e

      goes_on : (end : Progress) (o : Outcome) → FailsWell Bad written x.rows.next [] p end.tables o → (rest : Type 0) → (rest → StepKeeps Bad plan p written x m c) → LoadsOn o old m end loaded rest → StepKeeps Bad plan p written x m c
      goes_on end Finished fails rest go g = go g
      goes_on end (CutShort last) fails rest go g = step-lost c [] end.tables (writes-elsewhere Bad plan written x c) fails (ap (λ (machine : Machine). machine.tables) g.after_is)
      goes_on end (Failed last) fails rest go g = step-lost c [] end.tables (writes-elsewhere Bad plan written x c) fails (ap (λ (machine : Machine). machine.tables) g.after_is)

  pub load-keeps : (name : List ℕ) (count step seed : ℕ) (at : Located) → m.command ≡ command.Load name count step seed → (TakesLower config p plan written old m → Bad) → old.mounted ≡ true → located config old name ≡ Some at →
      slice_get config.plans p ≡ Some plan → slice_get old.tables p ≡ Some x → Kept Bad written x → LoadStep config old m count step seed at → StepKeeps Bad plan p written x m (command.Load name count step seed)
  load-keeps name count step seed at same bad mounted found e k kept h = by_place (cases_eq at.place p)
    where
      by_place : (at.place ≡ p) ⊎ (at.place ≡ p → ⊥) → StepKeeps Bad plan p written x m (command.Load name count step seed)
      by_place (inl there) =
          let q = is-here at e k (located-is config old name at found) there in
          loads-here (command.Load name count step seed) step seed count 1 (next_random seed) 0 old.device old.tables [] (written ++ waiting_records x) x e refl
          (first count same (found ∙ ap (λ (l : Located). Some l) q)) (at-first _ old.tables kept k) (subst (LoadStep config old m count step seed) q h)
        where
          first : (count : ℕ) → m.command ≡ command.Load name count step seed → located config old name ≡ Some (record { place = p; plan = plan; table = x }) → 0 < count →
              let item = load_record plan x step seed 1 (next_random seed) in refusal_of plan x item ≡ None → x.entries ≡ [] → InOrder Bad ((written ++ waiting_records x) ++ item ∷ [])
          first zero same here some ok empty = absurd (omega (arith, some))
          first (suc turns) same here some ok empty = order-first name (load_record plan x step seed 1 (next_random seed)) bad mounted here (ap named_by same) (ap (first_put plan x) same) ok kept empty
      by_place (inr other) = loads-elsewhere (command.Load name count step seed) at.place at.plan step seed count 1 (next_random seed) 0 old.device old.tables other k kept h

-- A table with a log keeps what was put: by induction on the run.
use Rattle.std.proofs.Common.{◌≡◌, ℕ, ◌+◌, ◌-◌, ◌≤◌, Bool, true, false, cond, nat_lt, nat_le, Option, Some, None, IfSome, MatchOption, MatchBool, List, [], ◌∷◌, ◌++◌, length, take, drop, filter, refl, sym, ◌∙◌, ap, subst, arith, ◌⊎◌, inl, inr, IsTrue, length-append, length-drop}
use Rattle.std.specs.List.{slice_get, AllByRecursion, last_or, sum}
use Rattle.std.specs.Option.{option_map, unwrap_or}
use Rattle.std.proofs.lemmas.Bool.{leb-true, true≢false, le-ltb}
use Rattle.std.proofs.lemmas.List.{append-nil, take-append-drop, drop-append-le, drop-drop, append_assoc}
use Rattle.std.proofs.Math.Seq.{drop-append_seam}
use Rattle.std.proofs.lemmas.List.Elements.{filter-append}
use Rattle.fl_model.specs.Record.{Plan, Config, has_log}
use Rattle.fl_model.specs.Ring.{Ring, oldest}
use Rattle.fl_model.specs.Table.{Table, Entry, is_after, owed}
use Rattle.fl_model.specs.Log.{last_key}
use Rattle.fl_model.specs.Mount.{MountEnd, Mounts, turns_from}
use Rattle.fl_model.proofs.Lists.{drop_none, take_none, each-weaker, each-drop, drop-in-take}
use Rattle.fl_words.specs.Command.{Command}
use Rattle.fl_words.specs.Reply as reply
use Rattle.fl_machine.specs.Machine.{Machine}
use Rattle.fl_machine.specs.Step.{Moment, StepOf, Says, EndsMount}
use Rattle.fl_machine.specs.Run.{Run}
use Rattle.fl_machine.specs.Found.{trimmed, ring_at, HasRoom, IsLoggedAtRest, IsMounting, LoggedPast, past_of, nothing_held, logged_stop_at, logged_passing, logged_past_after, IsLoggedFound}
use Rattle.fl_machine.specs.Keeping.{sure, unsure, sure_at, tables_of, newer, PutSoFar, given_up_by, session_adds, mount_gives_up, standing_at, put_after, kept_of, IsKept, KeepsPuts, PutsAreKept}
use Rattle.fl_machine.proofs.Logs.{Tops, filter_all, filter_none}
use Rattle.fl_machine.proofs.LogSeals.{is_last, last-key}
use Rattle.fl_machine.proofs.RecordsChange.{GoesOn}
use Rattle.fl_machine.proofs.LoggedStates.{IsLogKept, InSession, LogKeeps, stands-tops, stands-full}
use Rattle.fl_machine.proofs.LoggedSteps.{log-step, log-start}

-- ---- the new records of a moment

-- none of some records whose last has the greatest key came after them
none-newer : (es : List Entry) → Tops es → AllByRecursion (λ e. is_after es e ≡ false) es
none-newer es tops = by_last (is_last es)
  where
    by_last : (es ≡ []) ⊎ ((w : Entry) × (last_or None es ≡ Some w)) → AllByRecursion (λ e. is_after es e ≡ false) es
    by_last (inl e) = subst (AllByRecursion (λ e. is_after es e ≡ false)) (sym e) tt
    by_last (inr (w, e)) =
        each-weaker (λ x. x.kept.key ≤ last_key es) (λ x. is_after es x ≡ false)
        (λ x m.
        ap (λ (o : Option Entry). unwrap_or (option_map (λ (l : Entry). nat_lt l.kept.key x.kept.key) o) true) e
        ∙ le-ltb w.kept.key x.kept.key (let key = last-key es w e in omega (arith, m, key)))
        es tops

newer-is : (xs ys : List Entry) → Tops xs → (h : GoesOn xs ys) → newer xs ys ≡ h.new
newer-is xs ys tops h =
    ap (filter (λ e. is_after xs e)) h.is
    ∙ (filter-append (λ e. is_after xs e) (drop h.gone xs) h.new
    ∙ (ap (λ (es : List Entry). es ++ filter (λ e. is_after xs e) h.new) (filter_none (λ e. is_after xs e) (drop h.gone xs) (each-drop (λ e. is_after xs e ≡ false) h.gone xs (none-newer xs tops)))
    ∙ filter_all (λ e. is_after xs e) h.new h.above))

-- ---- what was put so far

-- it ends with these, and those before them were given up
pub record EndsWith (put : PutSoFar) (es : List Entry) : Type 0 where
  pub front : List Entry
  pub is : put.held ≡ front ++ es
  pub given_up : put.given_up ≡ length front

-- where no session is, a table's past goes on from it
pub record Follows (put : PutSoFar) (past : LoggedPast) : Type 0 where
  pub gone : ℕ
  pub few : gone ≤ length put.held
  pub given_up : put.given_up ≡ gone + past.given_up
  pub sure : drop gone put.held ≡ sure past
  pub failed : put.failed ≡ unsure past
  pub pending : put.pending ≡ past.pending

pub record IsSoFar (p : ℕ) (put : PutSoFar) (past : LoggedPast) (machine : Machine) : Type 0 where
  pub session : machine.mounted ≡ true → EndsWith put (sure_at p machine.tables)
  pub resting : machine.mounted ≡ false → Follows put past

trimmed-same : (ring : Ring) → trimmed ring ring ≡ 0
trimmed-same ring = let zero : oldest ring - oldest ring ≡ 0 = omega arith in ap (λ (n : ℕ). sum (take n ring.counts)) zero ∙ ap sum (take_none ring.counts)

-- a moment of a session
module _ (p : ℕ) (put : PutSoFar) (now : LoggedPast) (old : Machine) (moment : Moment) (h : InSession p now old moment) where
  abbrev xs : List Entry
  xs = sure_at p old.tables

  abbrev ys : List Entry
  ys = sure_at p (tables_of moment)

  abbrev held : List Entry
  held = put.held ++ newer xs ys

  abbrev on : GoesOn xs ys
  on = h.goes.adds.goes_on

  -- those before the ones that stand
  abbrev before : EndsWith put xs → List Entry
  before ends = ends.front ++ take on.gone xs

  held-ends : Tops xs → (ends : EndsWith put xs) → held ≡ before ends ++ ys
  held-ends tops ends =
      ap (λ (es : List Entry). put.held ++ es) (newer-is xs ys tops on)
      ∙ (ap (λ (es : List Entry). es ++ on.new) (ends.is ∙ (ap (λ (es : List Entry). ends.front ++ es) (sym (take-append-drop on.gone xs)) ∙ sym (append_assoc ends.front (take on.gone xs) (drop on.gone xs))))
      ∙ (append_assoc (before ends) (drop on.gone xs) on.new ∙ ap (λ (es : List Entry). before ends ++ es) (sym on.is)))

  held-front : Tops xs → (ends : EndsWith put xs) → length held - length ys ≡ length (before ends)
  held-front tops ends = let l = length-append (before ends) ys in let m : length held ≡ length (before ends ++ ys) = ap (λ (es : List Entry). length es) (held-ends tops ends) in omega (arith, l, m)

  -- just those of the pages that went
  gone-is : Tops xs → sum (ring_at p old.tables).counts ≤ length xs → EndsWith put xs →
      given_up_by (ring_at p old.tables) (ring_at p (tables_of moment)) put.given_up (length held - length ys) ≡ length held - length ys
  gone-is tops full ends = by_test (nat_le pages (length (ring_at p old.tables).counts)) refl
    where
      pages : ℕ
      pages = oldest (ring_at p (tables_of moment)) - oldest (ring_at p old.tables)

      by_test : (b : Bool) → nat_le pages (length (ring_at p old.tables).counts) ≡ b →
          cond b (put.given_up + trimmed (ring_at p old.tables) (ring_at p (tables_of moment))) (length held - length ys) ≡ length held - length ys
      by_test false e = refl
      by_test true e =
          let exact = h.goes.exact full (leb-true pages (length (ring_at p old.tables).counts) e) in
          let size = exact.size in
          let given_up = ends.given_up in
          let new : length (newer xs ys) ≡ length on.new = ap (λ (es : List Entry). length es) (newer-is xs ys tops on) in
          let old_held : length put.held ≡ length (ends.front ++ xs) = ap (λ (es : List Entry). length es) ends.is in
          omega (arith, size, given_up, new, old_held, length-append put.held (newer xs ys), length-append ends.front xs)

  session-goes : Tops xs → sum (ring_at p old.tables).counts ≤ length xs → EndsWith put xs → IsSoFar p (session_adds p put old moment) now moment.after
  session-goes tops full ends = record {
    session = λ m.
        let same : moment.after.tables ≡ tables_of moment = sym (ap (λ (o : Option (List Table)). unwrap_or o moment.after.tables) (h.last m)) in
        subst (λ (list : List Table). EndsWith (record { held = held; failed = unsure (logged_stop_at p (tables_of moment)); pending = (logged_stop_at p (tables_of moment)).pending; given_up = gone + trimmed (ring_at p (tables_of moment)) (ring_at p list) }) (sure_at p list)) (sym same) (record {
          front = before ends;
          is = held-ends tops ends;
          given_up = let went = gone-is tops full ends in let none = trimmed-same (ring_at p (tables_of moment)) in let l = held-front tops ends in omega (arith, went, none, l);
        });
    resting = λ m.
        let s = h.stops m in
        record {
          gone = length held - length ys;
          few = omega arith;
          given_up = ap (λ (g : ℕ). g + trimmed (ring_at p (tables_of moment)) (ring_at p moment.after.tables)) (gone-is tops full ends) ∙ ap (λ (g : ℕ). (length held - length ys) + g) (sym s.given_up);
          sure = ap (λ (n : ℕ). drop n held) (held-front tops ends) ∙ (ap (drop (length (before ends))) (held-ends tops ends) ∙ drop-append_seam (before ends) ys) ∙ s.sure;
          failed = s.unsure;
          pending = s.pending;
        };
  }
    where
      gone : ℕ
      gone = given_up_by (ring_at p old.tables) (ring_at p (tables_of moment)) put.given_up (length held - length ys)

-- a moment without one
rest-goes : (p : ℕ) (put : PutSoFar) (past : LoggedPast) (old : Machine) (moment : Moment) → Follows put past →
    Follows (mount_gives_up p put old moment) (logged_passing p past old.tables moment.after.tables)
rest-goes p put past old moment h = record {
  gone = h.gone;
  few = h.few;
  given_up = let g = h.given_up in omega (arith, g);
  sure = h.sure;
  failed = h.failed;
  pending = h.pending;
}

-- ---- what a mount finds

halves : (past : LoggedPast) → sure past ++ unsure past ≡ past.held
halves past = by_test past.unlogged
  where
    by_test : (u : Bool) → cond u (take (length past.held - 1) past.held) past.held ++ cond u (drop (length past.held - 1) past.held) [] ≡ past.held
    by_test true = take-append-drop (length past.held - 1) past.held
    by_test false = append-nil past.held

found-kept : (put : PutSoFar) (past : LoggedPast) (t : Table) → Follows put past → IsLoggedFound past t → IsKept put t
found-kept put past t h found = record { all = by_all found.all; paid = elim found.paid [ inl e ↦ inl e | inr e ↦ inr (e.0, first-of e.1) ] }
  where
    -- the past's less its own is this less its own
    less : (es : List Entry) → drop put.given_up es ≡ drop past.given_up (drop h.gone es)
    less es = ap (λ (n : ℕ). drop n es) h.given_up ∙ sym (drop-drop past.given_up h.gone es)

    -- all of the past are all of these
    whole : kept_of put ≡ drop past.given_up past.held
    whole =
        less (put.held ++ put.failed)
        ∙ ap (drop past.given_up)
        (drop-append-le h.gone put.held put.failed h.few ∙ (ap (λ (es : List Entry). es ++ put.failed) h.sure ∙ (ap (λ (es : List Entry). sure past ++ es) h.failed ∙ halves past)))

    first-of : t.entries ≡ drop past.given_up (take (length past.held - past.pending) past.held) → t.entries ≡ take (length (kept_of put) - put.pending) (kept_of put)
    first-of e =
        let len : length (kept_of put) ≡ length past.held - past.given_up = ap (λ (es : List Entry). length es) whole ∙ length-drop past.given_up past.held in
        let pending = h.pending in
        let same : (length past.held - past.pending) - past.given_up ≡ length (kept_of put) - put.pending = omega (arith, len, pending) in
        e ∙ (drop-in-take past.given_up (length past.held - past.pending) past.held ∙ (ap (λ (n : ℕ). take n (drop past.given_up past.held)) same ∙ ap (take (length (kept_of put) - put.pending)) (sym whole)))

    by_all : (t.entries ++ owed t ≡ drop past.given_up past.held) ⊎ (IsTrue past.unlogged × (t.entries ++ owed t ≡ drop past.given_up (take (length past.held - 1) past.held))) →
        (t.entries ++ owed t ≡ drop put.given_up put.held) ⊎ (t.entries ++ owed t ≡ kept_of put)
    by_all (inl e) = inr (e ∙ sym whole)
    by_all (inr (unlogged, e)) =
        let cut : sure past ≡ take (length past.held - 1) past.held = ap (λ (u : Bool). cond u (take (length past.held - 1) past.held) past.held) unlogged in
        inl (e ∙ sym (less put.held ∙ ap (drop past.given_up) (h.sure ∙ cut)))

match-some : {X : Type 0} (P Q : X → Type 0) (o : Option X) → ((x : X) → P x → Q x) → MatchOption o ⊥ P → MatchOption o ⊥ Q
match-some P Q None w h = h
match-some P Q (Some x) w h = w x h

-- a mount that succeeds begins without a session
mounts-anew : (config : Config) (old : Machine) (moment : Moment) → StepOf config old moment moment.command → IsMounting moment → old.mounted ≡ false
mounts-anew config old moment step m = by_test old.mounted refl (subst (λ (c : Command). StepOf config old moment c) m.mounts step)
  where
    already : reply.AlreadyMounted ∷ [] ≡ reply.Done ∷ [] → ⊥
    already e = cc

    by_test : (b : Bool) → old.mounted ≡ b → MatchBool b (Says moment (reply.AlreadyMounted ∷ []) old) ((how : MountEnd) × Mounts config.plans moment.rose (turns_from 0 config.plans) old.device old.tables how × EndsMount config old moment how) → old.mounted ≡ false
    by_test true e says = absurd (already (sym says.replies_are ∙ m.succeeds))
    by_test false e h = e

-- ---- each run

goes : (p : ℕ) (put : PutSoFar) (past now : LoggedPast) (old : Machine) (moment : Moment) → IsLogKept p past old → IsSoFar p put past old → LogKeeps p past now old moment moment.command →
    IsSoFar p (put_after p put old moment) now moment.after
goes p put past now old moment kept so_far keeps = by_old old.mounted refl
  where
    without : PutSoFar
    without = cond moment.after.mounted (standing_at p moment.after.tables) (mount_gives_up p put old moment)

    by_after : old.mounted ≡ false → (b : Bool) → moment.after.mounted ≡ b → IsSoFar p (cond b (standing_at p moment.after.tables) (mount_gives_up p put old moment)) now moment.after
    by_after off true e = record { session = λ m. record { front = []; is = refl; given_up = refl }; resting = λ m. absurd (true≢false (sym e ∙ m)) }
    by_after off false e = record {
      session = λ m. absurd (true≢false (sym m ∙ e));
      resting = λ m. subst (Follows (mount_gives_up p put old moment)) (sym (keeps.passes off)) (rest-goes p put past old moment (so_far.resting off));
    }

    by_old : (b : Bool) → old.mounted ≡ b → IsSoFar p (put_after p put old moment) now moment.after
    by_old true e =
        subst (λ (b : Bool). IsSoFar p (cond b (session_adds p put old moment) without) now moment.after) (sym e)
        (session-goes p put now old moment (keeps.session e) (stands-tops p old.tables (kept.session e)) (stands-full p old.tables (kept.session e)) (so_far.session e))
    by_old false e =
        subst (λ (b : Bool). IsSoFar p (cond b (session_adds p put old moment) without) now moment.after) (sym e)
        (by_after e moment.after.mounted refl)

keeps-run : (config : Config) (p : ℕ) (own : Plan) (put : PutSoFar) (past : LoggedPast) (old : Machine) (moments : List Moment) → AllByRecursion HasRoom config.plans → slice_get config.plans p ≡ Some own → IsTrue (has_log own) →
    IsLogKept p past old → IsSoFar p put past old → Run config old moments → KeepsPuts p put old moments
keeps-run config p own put past old [] room e l kept so_far run = tt
keeps-run config p own put past old (moment ∷ moments) room e l kept so_far run =
    let keeps = log-step config p own past old moment moment.command room e l kept run.0 in (
      λ m.
          let off = mounts-anew config old moment run.0 m in
          let found = subst (λ (q : LoggedPast). MatchOption (slice_get moment.after.tables p) ⊥ (IsLoggedFound q)) (keeps.passes off) (keeps.finds m.mounts m.succeeds) in
          match-some (IsLoggedFound (logged_passing p past old.tables moment.after.tables)) (IsKept (mount_gives_up p put old moment)) (slice_get moment.after.tables p)
          (λ t h. found-kept (mount_gives_up p put old moment) (logged_passing p past old.tables moment.after.tables) t (rest-goes p put past old moment (so_far.resting off)) h) found,
      keeps-run config p own (put_after p put old moment) (logged_past_after p past old moment) moment.after moments room e l keeps.kept (goes p put past (logged_past_after p past old moment) old moment kept so_far keeps) run.1,
    )

pub keeps-puts : PutsAreKept
keeps-puts config old moments place room off rest logs run = by_plan (slice_get config.plans place) refl
  where
    by_table : (plan : Plan) → slice_get config.plans place ≡ Some plan → IsTrue (has_log plan) → (o : Option Table) → slice_get old.tables place ≡ o → MatchOption o ⊥ IsLoggedAtRest →
        KeepsPuts place (standing_at place old.tables) old moments
    by_table plan e l None q h = absurd h
    by_table plan e l (Some t) q h =
        let s = log-start place old t off rest q h in
        keeps-run config place plan (standing_at place old.tables) (logged_stop_at place old.tables) old moments room e l s.0
        (record {
          session = λ m. absurd (true≢false (sym m ∙ off));
          resting = λ m. record {
            gone = 0;
            few = omega arith;
            given_up = let z : (logged_stop_at place old.tables).given_up ≡ 0 = ap (λ (o : Option Table). (unwrap_or (option_map past_of o) nothing_held).given_up) q in omega (arith, z);
            sure = drop_none (sure_at place old.tables);
            failed = sym s.1;
            pending = refl;
          };
        }) run

    by_plan : (o : Option Plan) → slice_get config.plans place ≡ o → IfSome o (λ plan. IsTrue (has_log plan) → KeepsPuts place (standing_at place old.tables) old moments)
    by_plan None e = tt
    by_plan (Some plan) e = λ l.
        by_table plan e l (slice_get old.tables place) refl (subst (λ (o : Option Plan). IfSome o (λ plan. IsTrue (has_log plan) → MatchOption (slice_get old.tables place) ⊥ IsLoggedAtRest)) e logs l)

-- After each event the copy's table has a part of all that was ever written into the source's.
use Rattle.std.proofs.Common.{◌≡◌, ℕ, suc, ◌+◌, Bool, true, false, cond, Option, Some, List, [], ◌∷◌, ◌++◌, length, map, drop, refl, sym, ◌∙◌, ap, subst, ◌⊎◌, inl, inr, arith}
use Rattle.std.specs.List.{slice_get}
use Rattle.std.specs.Option.{unwrap_or}
use Rattle.std.proofs.lemmas.List.{append-nil}
use Rattle.std.proofs.Math.Seq.{drop-length, take-length}
use Rattle.std.proofs.lemmas.Option.{none-some}
use Rattle.fl_image.specs.Header.{IsMade}
use Rattle.fl_machine.specs.Machine.{Machine, begins, fresh_tables}
use Rattle.fl_machine.specs.Run.{Run, end_of}
use Rattle.fl_machine.specs.Script.{StandsFor}
use Rattle.fl_machine.specs.Step.{Located, Moment, located_from}
use Rattle.fl_machine.proofs.LoggedPuts.{located-is}
use Rattle.fl_model.specs.Record.{Config, Plan, Record, bytes_equal}
use Rattle.fl_model.specs.Ship as model
use Rattle.fl_model.specs.Ship.{CopyRests, IsPart, KeepsOf, Shipment, records_in}
use Rattle.fl_model.specs.Table.{Table, fresh_table, lose}
use Rattle.fl_model.proofs.ShipWork.{Drops, drops-none, drops-trans}
use Rattle.fl_ship.specs.Ends.{IsHalfMade, is_shipped}
use Rattle.fl_ship.specs.Laws.{AreSteps, shipment_of}
use Rattle.fl_ship.specs.declared.side.Side.TheVariants.{Copy}
use Rattle.fl_ship.specs.declared.status.ShipStatus.TheVariants.{Device}
use Rattle.fl_ship.proofs.Steps.{copies-rest, lost-there, no-log, ships-are-steps}
use Rattle.fl_words.specs.Command.{Command}
use Rattle.fl_words.specs.Medium.{IsImage}
use Rattle.fl_shipped.specs.Growing.{written_in}
use Rattle.fl_shipped.specs.Shipped.{AllHappen, CopiesOfImagesAreParts, CopyEmptied, CopyRuns, CopyRunsOver, Event, Happens, HasPart, KeepParts, Media, RunsTo, Ships, ShipsOver, SourceRuns, Stand, State, Writes, bytes_of, empty_media, first_state}
use Rattle.fl_shipped.proofs.RunsGrow.{ascends-on, begins-kept, run-keeps}
use Rattle.fl_shipped.proofs.Orders.{DropsFrom, drops-from, from-drop, from-more}
use Rattle.fl_shipped.proofs.Pasts.{Past, past-begins, past-more, past-on, past-part}

-- the table of a name, and other tables at its place
record IsPlace (start : ℕ) (plans : List Plan) (name : List ℕ) (a : Located) : Type 0 where
  k : ℕ
  place_is : a.place ≡ start + k
  there : (ys : List Table) (t : Table) → slice_get ys k ≡ Some t → located_from start plans ys name ≡ Some (record { place = a.place; plan = a.plan; table = t })

is-place : (start : ℕ) (plans : List Plan) (xs : List Table) (name : List ℕ) (a : Located) → located_from start plans xs name ≡ Some a → IsPlace start plans name a
is-place start [] xs name a e = absurd (none-some a e)
is-place start (plan ∷ plans) [] name a e = absurd (none-some a e)
is-place start (plan ∷ plans) (x ∷ xs) name a e = by_name (bytes_equal plan.name name) refl e (is-place (start + 1) plans xs name a)
  where
    by_name : (b : Bool) → bytes_equal plan.name name ≡ b → cond b (Some (record { place = start; plan = plan; table = x })) (located_from (start + 1) plans xs name) ≡ Some a →
        (located_from (start + 1) plans xs name ≡ Some a → IsPlace (start + 1) plans name a) → IsPlace start (plan ∷ plans) name a
    by_name true q e go = record { k = 0; place_is = (let p = ap (λ (l : Located). l.place) same in omega (arith, p)); there = there }
      where
        same : a ≡ record { place = start; plan = plan; table = x }
        same = cc (e)

        there : (ys : List Table) (t : Table) → slice_get ys 0 ≡ Some t → located_from start (plan ∷ plans) ys name ≡ Some (record { place = a.place; plan = a.plan; table = t })
        there [] t g = absurd (none-some t g)
        there (y ∷ ys) t g =
            let found : located_from start (plan ∷ plans) (y ∷ ys) name ≡ Some (record { place = start; plan = plan; table = y }) =
            ap (λ (b : Bool). cond b (Some (record { place = start; plan = plan; table = y })) (located_from (start + 1) plans ys name)) q in
            let here : Some (record { place = start; plan = plan; table = y }) ≡ Some (record { place = start; plan = plan; table = t }) = ap (λ (u : Table). Some (record { place = start; plan = plan; table = u })) (cc (g)) in
            let is : Some (record { place = start; plan = plan; table = t }) ≡ Some (record { place = a.place; plan = a.plan; table = t }) = ap (λ (l : Located). Some (record { place = l.place; plan = l.plan; table = t })) (sym same) in
            found ∙ (here ∙ is)
    by_name false q e go = record { k = suc next.k; place_is = (let p = next.place_is in omega (arith, p)); there = there }
      where
        next : IsPlace (start + 1) plans name a
        next = go e

        there : (ys : List Table) (t : Table) → slice_get ys (suc next.k) ≡ Some t → located_from start (plan ∷ plans) ys name ≡ Some (record { place = a.place; plan = a.plan; table = t })
        there [] t g = absurd (none-some t g)
        there (y ∷ ys) t g =
            ap (λ (b : Bool). cond b (Some (record { place = start; plan = plan; table = y })) (located_from (start + 1) plans ys name)) q ∙ next.there ys t g

located-other : (plans : List Plan) (xs ys : List Table) (name : List ℕ) (a : Located) (t : Table) → located_from 0 plans xs name ≡ Some a → slice_get ys a.place ≡ Some t →
    located_from 0 plans ys name ≡ Some (record { place = a.place; plan = a.plan; table = t })
located-other plans xs ys name a t e g =
    let found = is-place 0 plans xs name a e in
    let same : a.place ≡ found.k = let p = found.place_is in omega (arith, p) in
    found.there ys t (subst (λ n. slice_get ys n ≡ Some t) same g)

-- a copy that is left without its oldest records, or with none
keeps-oldest : (held left : List Record) (given_up : ℕ) → left ≡ drop given_up held → KeepsOf held [] left
keeps-oldest held left given_up e = record {
  given_up = given_up;
  first = length (held ++ []);
  kept = e ∙ ap (drop given_up) (sym (take-length (held ++ []) ∙ append-nil held));
}

rests : (ever source held left : List Record) → KeepsOf held [] left → CopyRests (shipment_of ever source held) (shipment_of ever source left)
rests ever source held left k = record { ever = refl; mounted = (drops-none source).gone; source = (drops-none source).is; copy = k }

module _ (config : Config) (name : List ℕ) (place : ℕ) (plan : Plan) (made : IsMade config)
    (located : located_from 0 config.plans (fresh_tables config) name ≡ Some (record { place = place; plan = plan; table = fresh_table plan })) (shipped : is_shipped plan ≡ true) where
  plan-is : slice_get config.plans place ≡ Some plan
  plan-is = (located-is config (begins (fresh_tables config)) name (record { place = place; plan = plan; table = fresh_table plan }) located).plan

  fresh-there : slice_get (fresh_tables config) place ≡ Some (fresh_table plan)
  fresh-there = (located-is config (begins (fresh_tables config)) name (record { place = place; plan = plan; table = fresh_table plan }) located).table

  -- what is known of the media between two events
  record Now (media : Media) (state : State) : Type 0 where
    stand : Stand config media state
    source : Table
    here : slice_get state.sources place ≡ Some source
    copy : Table
    copy_here : slice_get state.copies place ≡ Some copy
    past : Past (shipment_of state.ever (records_in source) (records_in copy))
    -- the source's table has the last of all that was written
    end : Drops state.ever (records_in source)

  has-part : (media : Media) (state : State) → Now media state → HasPart place plan state
  has-part media state now a =
      subst (λ (t : Table). IsPart (records_in t) state.ever) (sym (ap (λ (o : Option Table). unwrap_or o (fresh_table plan)) now.copy_here))
      (past-part (shipment_of state.ever (records_in now.source) (records_in now.copy)) now.past a)

  -- .. and after one
  record After (media : Media) (event : Event) (before : State) : Type 0 where
    state : State
    writes : Writes config place plan before event state
    now : Now media state

  -- ---- runs

  -- a table that had nothing in memory, after a run
  record RunLeaves (x : Table) (old : Machine) (moments : List Moment) : Type 0 where
    table : Table
    there : slice_get (map lose (end_of old moments).tables) place ≡ Some (lose table)
    rests : x.pending ≡ 0
    given_up : ℕ
    is : records_in (lose table) ≡ drop given_up (records_in x ++ written_in plan place old moments)

  run-leaves : (bytes : List ℕ) (tables : List Table) (x : Table) (moments : List Moment) → StandsFor config bytes (begins tables) → slice_get tables place ≡ Some x → Run config (begins tables) moments → RunLeaves x (begins tables) moments
  run-leaves bytes tables x moments stands k run =
      let none = copies-rest config bytes tables place x stands k in
      let start = begins-kept (Unit {0}) (records_in x) x none (drops-none (records_in x)) (inr tt) in
      let left = run-keeps (Unit {0}) config place plan (records_in x) x (begins tables) moments (λ h. tt) plan-is (no-log plan shipped) k start run in
      record {
        table = left.table;
        there = lost-there place (end_of (begins tables) moments).tables left.table left.is;
        rests = none;
        given_up = left.kept.kept.given_up;
        is = left.kept.kept.is;
      }

  source-runs : (commands : List Command) (before after : Media) (state : State) → Now before state → Happens config name place plan before (SourceRuns commands) after → After after (SourceRuns commands) state
  source-runs commands before after state now (runs, same) = record {
    state = record { sources = map lose (end_of (begins state.sources) r.moments).tables; copies = state.copies; ever = state.ever ++ written_in plan place (begins state.sources) r.moments };
    writes = record {
      moments = r.moments;
      commands_are = r.commands_are;
      run = r.run;
      sources = refl;
      ever = refl;
      keys = λ ascends. ascends-on config (begins state.sources) r.moments place plan now.source state.ever plan-is (no-log plan shipped) now.here kept.rests now.end ascends r.run;
    };
    now = record {
      stand = record {
        source = inr (map lose (end_of (begins state.sources) r.moments).tables, r.stands_after, refl);
        copy = subst (λ (bytes : List ℕ). StandsFor config bytes (begins state.copies)) (sym same) now.stand.copy;
      };
      source = lose kept.table;
      here = kept.there;
      copy = now.copy;
      copy_here = now.copy_here;
      past = past-more (shipment_of state.ever (records_in now.source) (records_in now.copy)) _ (written_in plan place (begins state.sources) r.moments) refl
          (inl (record { more = written_in plan place (begins state.sources) r.moments; given_up = kept.given_up; ever = refl; source = kept.is; copy = refl })) now.past;
      end = record { gone = end.given_up; is = end.is };
    };
  }
    where
      r : RunsTo config commands (begins state.sources) after.source
      r = runs (begins state.sources) now.stand.source

      kept : RunLeaves now.source (begins state.sources) r.moments
      kept = run-leaves before.source state.sources now.source r.moments now.stand.source now.here r.run

      end : DropsFrom (state.ever ++ written_in plan place (begins state.sources) r.moments) (records_in (lose kept.table))
      end =
          let more = written_in plan place (begins state.sources) r.moments in
          from-drop (state.ever ++ more) (records_in now.source ++ more) (records_in (lose kept.table)) kept.given_up
          (from-more state.ever (records_in now.source) more (drops-from state.ever (records_in now.source) now.end.gone now.end.is)) kept.is

  copy-runs : (commands : List Command) (before after : Media) (state : State) → Now before state → CopyRunsOver config place plan commands before after → After after (CopyRuns commands) state
  copy-runs commands before after state now h = record {
    state = record { sources = state.sources; copies = map lose (end_of (begins state.copies) r.moments).tables; ever = state.ever };
    writes = refl;
    now = record {
      stand = record {
        source = subst (λ (bytes : List ℕ). StandsFor config bytes (begins state.sources)) (sym h.source) now.stand.source;
        copy = inr (map lose (end_of (begins state.copies) r.moments).tables, r.stands_after, refl);
      };
      source = now.source;
      here = now.here;
      copy = lose kept.table;
      copy_here = kept.there;
      past = past-on (shipment_of state.ever (records_in now.source) (records_in now.copy)) _ refl
          (inr (inr (rests state.ever (records_in now.source) (records_in now.copy) (records_in (lose kept.table)) (keeps-oldest (records_in now.copy) (records_in (lose kept.table)) kept.given_up
          (kept.is ∙ ap (drop kept.given_up) (ap (λ (rs : List Record). records_in now.copy ++ rs) (h.nothing (begins state.copies) now.stand.copy) ∙ append-nil (records_in now.copy))))))) now.past;
      end = now.end;
    };
  }
    where
      r : RunsTo config commands (begins state.copies) after.copy
      r = h.runs (begins state.copies) now.stand.copy

      kept : RunLeaves now.copy (begins state.copies) r.moments
      kept = run-leaves before.copy state.copies now.copy r.moments now.stand.copy now.copy_here r.run

  copy-emptied : (before after : Media) (state : State) → Now before state → Happens config name place plan before CopyEmptied after → After after CopyEmptied state
  copy-emptied before after state now (same, none) = record {
    state = record { sources = state.sources; copies = fresh_tables config; ever = state.ever };
    writes = refl;
    now = record {
      stand = record { source = subst (λ (bytes : List ℕ). StandsFor config bytes (begins state.sources)) (sym same) now.stand.source; copy = inl (none, refl) };
      source = now.source;
      here = now.here;
      copy = fresh_table plan;
      copy_here = fresh-there;
      past = past-on (shipment_of state.ever (records_in now.source) (records_in now.copy)) _ refl
          (inr (inr (rests state.ever (records_in now.source) (records_in now.copy) [] (keeps-oldest (records_in now.copy) [] (length (records_in now.copy)) (sym (drop-length (records_in now.copy))))))) now.past;
      end = now.end;
    };
  }

  -- ---- ships

  -- nothing is done with an empty source
  refused : (count : ℕ) (before after : Media) (state : State) → Now before state → after ≡ before → After after (Ships count) state
  refused count before after state now same = record { state = state; writes = refl; now = subst (λ (m : Media). Now m state) (sym same) now }

  shipped-on : (count : ℕ) (before after : Media) (state : State) (now : Now before state) → AreSteps config place state.ever now.source now.copy (bytes_of before after) → After after (Ships count) state
  shipped-on count before after state now steps = record {
    state = record { sources = steps.sources_now; copies = steps.copies_now; ever = state.ever };
    writes = refl;
    now = record {
      stand = record { source = inr (steps.sources_now, steps.image, refl); copy = steps.copy_image };
      source = steps.source_now;
      here = steps.here;
      copy = steps.copy_now;
      copy_here = steps.copy_here;
      past = past-on mounted _ refl (inr steps.ships) (past-on (shipment_of state.ever (records_in now.source) (records_in now.copy)) mounted refl (inr (inr steps.rests)) now.past);
      end = drops-trans state.ever (records_in now.source) (records_in steps.source_now) now.end (source_drops steps.ships);
    };
  }
    where
      mounted : Shipment
      mounted = shipment_of state.ever (records_in now.source) steps.mounted

      source_drops : model.Ships mounted (shipment_of state.ever (records_in steps.source_now) (records_in steps.copy_now)) ⊎ CopyRests mounted (shipment_of state.ever (records_in steps.source_now) (records_in steps.copy_now)) →
          Drops (records_in now.source) (records_in steps.source_now)
      source_drops (inl s) = record { gone = s.mounted; is = s.source }
      source_drops (inr r) = record { gone = r.mounted; is = r.source }

  ships : (count : ℕ) (before after : Media) (state : State) → Now before state → ShipsOver config name count before after → After after (Ships count) state
  ships count before after state now h = by_source now.stand.source
    where
      by_steps : ((h.status ≡ Device Copy) × IsHalfMade config (bytes_of before after) h.told) ⊎ AreSteps config place state.ever now.source now.copy (bytes_of before after) → After after (Ships count) state
      by_steps (inl half) = absurd (h.made half.0 half.1)
      by_steps (inr steps) = shipped-on count before after state now steps

      by_image : IsImage config before.source state.sources → After after (Ships count) state
      by_image image =
          by_steps (ships-are-steps config state.sources state.copies name count h.told (bytes_of before after) h.status place plan now.source now.copy state.ever made image now.stand.copy
          (located-other config.plans (fresh_tables config) state.sources name (record { place = place; plan = plan; table = fresh_table plan }) now.source located now.here) now.copy_here
          (h.ends state.sources state.copies image now.stand.copy))

      by_source : StandsFor config before.source (begins state.sources) → After after (Ships count) state
      by_source (inl (none, same)) = refused count before after state now (h.refused none)
      by_source (inr (tables, image, same)) = by_image (subst (λ (ts : List Table). IsImage config before.source ts) (sym (ap (λ (machine : Machine). machine.tables) same)) image)

  -- ---- each event, and all of them

  happens : (event : Event) (before after : Media) (state : State) → Now before state → Happens config name place plan before event after → After after event state
  happens (SourceRuns commands) before after state now h = source-runs commands before after state now h
  happens (Ships count) before after state now h = ships count before after state now h
  happens (CopyRuns commands) before after state now h = copy-runs commands before after state now h
  happens CopyEmptied before after state now h = copy-emptied before after state now h

  keep-parts : (steps : List (Event × Media)) (before : Media) (state : State) → Now before state → AllHappen config name place plan before steps → KeepParts config place plan state steps
  keep-parts [] before state now h = tt
  keep-parts (step ∷ steps) before state now h =
      let after = happens step.0 before step.1 state now h.0 in
      (after.state, after.now.stand, after.writes, has-part step.1 after.state after.now, keep-parts steps step.1 after.state after.now h.1)

  first-now : Now empty_media (first_state config)
  first-now = record {
    stand = record { source = inl (refl, refl); copy = inl (refl, refl) };
    source = fresh_table plan;
    here = fresh-there;
    copy = fresh_table plan;
    copy_here = fresh-there;
    past = past-begins;
    end = drops-none [];
  }

pub copies-are-parts : CopiesOfImagesAreParts
copies-are-parts config name place plan steps made located shipped h = keep-parts config name place plan made located shipped steps empty_media (first_state config) (first-now config name place plan made located shipped) h

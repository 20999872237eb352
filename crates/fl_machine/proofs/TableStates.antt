-- What is known of a table in each state, and kept by commands that leave it or fail on it.
use Rattle.std.proofs.Common.{◌≡◌, ◌≢◌, ℕ, ◌+◌, ◌-◌, Bool, true, false, cond, Option, Some, None, List, [], ◌∷◌, length, map, take, drop, refl, sym, ◌∙◌, ap, subst, inl, inr, zero-add, IfSome}
use Rattle.std.specs.List.{slice_get, AllByRecursion}
use Rattle.std.specs.Option.{option_map, unwrap_or}
use Rattle.std.proofs.lemmas.List.{drop-drop}
use Rattle.std.proofs.Math.Seq.{drop-nil}
use Rattle.std.proofs.lemmas.Option.{slice_get-map}
use Rattle.std.proofs.lemmas.Bool.{true≢false}
use Rattle.fl_model.specs.Record.{Config}
use Rattle.fl_model.specs.Ring.{fresh}
use Rattle.fl_model.specs.Table.{Table, Entry, lose}
use Rattle.fl_model.specs.Work.{Progress}
use Rattle.fl_model.proofs.TableSeals.{all-written}
use Rattle.fl_words.specs.Command as command
use Rattle.fl_words.specs.Command.{Command}
use Rattle.fl_words.specs.Reply as reply
use Rattle.fl_words.specs.Reply.{Reply}
use Rattle.fl_machine.specs.Machine.{Machine}
use Rattle.fl_machine.specs.Step.{Moment, Stops}
use Rattle.fl_machine.specs.Found.{trimmed, entries_at, pending_at, ring_at, Past, stop_at, passing, past_on, IsFound, HasRoom}
use Rattle.fl_machine.proofs.Places.{Both, RelAt, both-refl, rel-map}
use Rattle.fl_machine.proofs.Effects.{Numbered, StaysNumbered, same-refl, trims-same}
use Rattle.fl_machine.proofs.Performed.{FailsAt, left-numbered}
use Rattle.fl_machine.proofs.MountsAtPlace.{TrimsFrom}
use Rattle.fl_machine.proofs.MountsFindRecords.{LosesTo, left-loses}

-- nothing is pending, and what is there is found
pub record IsResting (p : ℕ) (past : Past) (tables : List Table) : Type 0 where
  pub pending : pending_at p tables ≡ 0
  pub found : IsFound past (entries_at p tables)

-- what holds of the table at p in each state
pub record IsKept (p : ℕ) (past : Past) (machine : Machine) : Type 0 where
  pub numbered : IfSome (slice_get machine.tables p) Numbered
  pub resting : machine.mounted ≡ false → IsResting p past machine.tables

numbered_by : (a b : Option Table) → Both StaysNumbered a b → IfSome a Numbered → IfSome b Numbered
numbered_by None None h n = tt
numbered_by (Some x) (Some y) h n = h n
numbered_by None (Some y) h n = absurd h
numbered_by (Some x) None h n = absurd h

pub numbered-after : (p : ℕ) (xs ys : List Table) → RelAt StaysNumbered p xs ys → IfSome (slice_get xs p) Numbered → IfSome (slice_get ys p) Numbered
numbered-after p xs ys h n = numbered_by (slice_get xs p) (slice_get ys p) h n

-- what is trimmed of tables is found less that
found_more : (past : Past) (t : ℕ) (es fs : List Entry) → IsFound past es → fs ≡ drop t es → IsFound (record past { given_up = past.given_up + t }) fs
found_more past t es fs (inl h) e = inl (e ∙ (ap (drop t) h ∙ drop-drop t past.given_up past.held))
found_more past t es fs (inr h) e = inr (e ∙ (ap (drop t) h ∙ drop-drop t past.given_up (take (length past.held - past.pending) past.held)))

rest_by : (past : Past) (a b : Option Table) → Both TrimsFrom a b → IfSome a Numbered →
    unwrap_or (option_map (λ (x : Table). x.pending) a) 0 ≡ 0 → IsFound past (unwrap_or (option_map (λ (x : Table). x.entries) a) []) →
    (unwrap_or (option_map (λ (x : Table). x.pending) b) 0 ≡ 0)
    × IsFound (record past { given_up = past.given_up + trimmed (unwrap_or (option_map (λ (x : Table). x.rows) a) fresh) (unwrap_or (option_map (λ (x : Table). x.rows) b) fresh) }) (unwrap_or (option_map (λ (x : Table). x.entries) b) [])
rest_by past None None h n z f = (refl, found_more past (trimmed fresh fresh) [] [] f (sym (drop-nil (trimmed fresh fresh))))
rest_by past (Some x) (Some y) h n z f = ((h n).pending ∙ z, found_more past (trimmed x.rows y.rows) x.entries y.entries f (h n).entries)
rest_by past None (Some y) h n z f = absurd h
rest_by past (Some x) None h n z f = absurd h

pub rest-pass : (p : ℕ) (past : Past) (xs ys : List Table) → RelAt TrimsFrom p xs ys → IfSome (slice_get xs p) Numbered → IsResting p past xs → IsResting p (passing p past xs ys) ys
rest-pass p past xs ys h n r =
    let both = rest_by past (slice_get xs p) (slice_get ys p) h n r.pending r.found in
    record { pending = both.0; found = both.1 }

-- an operation failed, and the rest is lost
lost_by : (a b : Option Table) → Both LosesTo a b → IfSome a Numbered →
    let past : Past = record { held = unwrap_or (option_map (λ (x : Table). x.entries) a) []; pending = unwrap_or (option_map (λ (x : Table). x.pending) a) 0; given_up = 0 } in
    (unwrap_or (option_map (λ (x : Table). x.pending) (option_map lose b)) 0 ≡ 0)
    × IsFound (record past { given_up = 0 + trimmed (unwrap_or (option_map (λ (x : Table). x.rows) a) fresh) (unwrap_or (option_map (λ (x : Table). x.rows) (option_map lose b)) fresh) }) (unwrap_or (option_map (λ (x : Table). x.entries) (option_map lose b)) [])
lost_by None None h n = (refl, inl (sym (drop-nil (0 + trimmed fresh fresh))))
lost_by (Some x) (Some y) h n = (
  refl,
  elim (h n) [
    | inl e ↦ inl (e ∙ ap (λ t. drop t x.entries) (sym (zero-add (trimmed x.rows y.rows))))
    | inr e ↦ inr (e ∙ ap (λ t. drop t (take (length x.entries - x.pending) x.entries)) (sym (zero-add (trimmed x.rows y.rows))))
  ],
)
lost_by None (Some y) h n = absurd h
lost_by (Some x) None h n = absurd h

lost-rest : (p : ℕ) (last left : List Table) → RelAt LosesTo p last left → IfSome (slice_get last p) Numbered → IsResting p (passing p (stop_at p last) last (map lose left)) (map lose left)
lost-rest p last left h n =
    let both = lost_by (slice_get last p) (slice_get left p) h n in
    let e = slice_get-map lose left p in
    record {
      pending = ap (λ (o : Option Table). unwrap_or (option_map (λ (x : Table). x.pending) o) 0) e ∙ both.0;
      found = subst (λ (o : Option Table). IsFound (record (stop_at p last) { given_up = 0 + trimmed (ring_at p last) (unwrap_or (option_map (λ (x : Table). x.rows) o) fresh) }) (unwrap_or (option_map (λ (x : Table). x.entries) o) [])) (sym e) both.1;
    }

-- no page number is negative after the loss
pub lose-numbered : (p : ℕ) (tables : List Table) → RelAt StaysNumbered p tables (map lose tables)
lose-numbered p tables = rel-map StaysNumbered p lose tables (λ x h. h)

pub numbered-lost : (p : ℕ) (last left : List Table) → RelAt StaysNumbered p last left → IfSome (slice_get last p) Numbered → IfSome (slice_get (map lose left) p) Numbered
numbered-lost p last left h n = numbered-after p left (map lose left) (lose-numbered p left) (numbered-after p last left h n)

-- what a step keeps, and what it finds where it is a mount that succeeds
pub record Keeps (p : ℕ) (past : Past) (moment : Moment) (c : Command) : Type 0 where
  pub kept : IsKept p past moment.after
  pub finds : c ≡ command.Mount → moment.replies ≡ reply.Done ∷ [] → IsFound past (entries_at p moment.after.tables)

abbrev pub KeepsAll : ℕ → Past → Machine → Moment → Command → Type 0
KeepsAll p past old moment c = Keeps p (past_on p past old moment moment.last c) moment c

-- it went on to tables that are trimmed at most, in a session or in none
pub keeps-pass : (p : ℕ) (past : Past) (old : Machine) (moment : Moment) (c : Command) → c ≢ command.Mount → past_on p past old moment None c ≡ passing p past old.tables moment.after.tables →
    moment.last ≡ None → moment.after.tables ≡ old.tables → moment.after.mounted ≡ old.mounted → IsKept p past old → KeepsAll p past old moment c
keeps-pass p past old moment c other is last tables mounted kept =
    subst (λ (l : Option (List Table)). Keeps p (past_on p past old moment l c) moment c) (sym last)
    (subst (λ (q : Past). Keeps p q moment c) (sym is) (record {
      kept = record {
        numbered = subst (λ (ts : List Table). IfSome (slice_get ts p) Numbered) (sym tables) kept.numbered;
        resting = λ m. rest-pass p past old.tables moment.after.tables
            (subst (λ (ts : List Table). RelAt TrimsFrom p old.tables ts) (sym tables) (both-refl TrimsFrom (λ x h. trims-same x x (same-refl x)) (slice_get old.tables p)))
            kept.numbered (kept.resting (sym mounted ∙ m));
      };
      finds = λ e r. absurd (other e);
    }))

-- it went on within a session
pub keeps-working : (p : ℕ) (past : Past) (old : Machine) (moment : Moment) (c : Command) (new : List Table) → c ≢ command.Mount →
    moment.after.tables ≡ new → moment.after.mounted ≡ true → RelAt StaysNumbered p old.tables new → IsKept p past old → KeepsAll p past old moment c
keeps-working p past old moment c new other tables mounted stays kept = record {
  kept = record {
    numbered = subst (λ (ts : List Table). IfSome (slice_get ts p) Numbered) (sym tables) (numbered-after p old.tables new stays kept.numbered);
    resting = λ m. absurd (true≢false (sym mounted ∙ m));
  };
  finds = λ e r. absurd (other e);
}

-- an operation of a session failed
pub keeps-stopped : (config : Config) (p : ℕ) (past : Past) (old : Machine) (moment : Moment) (c : Command) (end : Progress) (last : List Table) (replies : List Reply) → AllByRecursion HasRoom config.plans →
    old.mounted ≡ true → FailsAt config.plans p old.tables last end.tables → Stops old moment end last replies → IsKept p past old → KeepsAll p past old moment c
keeps-stopped config p past old moment c end last replies room mounted fails stops kept =
    let tables : moment.after.tables ≡ map lose end.tables = ap (λ (m : Machine). m.tables) stops.after_is in
    let numbered = numbered-after p old.tables last fails.numbered kept.numbered in
    let rest = lost-rest p last end.tables (left-loses config.plans p fails.operation last end.tables room fails.leaves) numbered in
    let rested : IsResting p (passing p (stop_at p last) last moment.after.tables) moment.after.tables =
    subst (λ (ts : List Table). IsResting p (passing p (stop_at p last) last ts) ts) (sym tables) rest in
    let is : past_on p past old moment (Some last) c ≡ passing p (stop_at p last) last moment.after.tables =
    ap (λ (b : Bool). cond b (passing p (stop_at p last) last moment.after.tables) (passing p past old.tables moment.after.tables)) mounted in
    subst (λ (l : Option (List Table)). Keeps p (past_on p past old moment l c) moment c) (sym stops.last_is)
    (subst (λ (q : Past). Keeps p q moment c) (sym is) (record {
      kept = record {
        numbered = subst (λ (ts : List Table). IfSome (slice_get ts p) Numbered) (sym tables) (numbered-lost p last end.tables (left-numbered config.plans p old.tables last end.tables fails) numbered);
        resting = λ m. rested;
      };
      finds = λ e r. rested.found;
    }))

-- what is lost of trimmed tables without pending entries is nothing
pub lost_trims : (a b : Option Table) → Both TrimsFrom a b → unwrap_or (option_map (λ (x : Table). x.pending) a) 0 ≡ 0 → Both TrimsFrom a (option_map lose b)
lost_trims None None h z = tt
lost_trims (Some x) (Some y) h z = λ n. record { entries = all-written y ((h n).pending ∙ z) ∙ (h n).entries; pending = sym z }
lost_trims None (Some y) h z = absurd h
lost_trims (Some x) None h z = absurd h

-- an operation of a mount failed: there was no session
pub keeps-no_session : (p : ℕ) (past : Past) (old : Machine) (moment : Moment) (end : Progress) (last : List Table) (replies : List Reply) → old.mounted ≡ false →
    RelAt TrimsFrom p old.tables end.tables → RelAt StaysNumbered p old.tables end.tables → Stops old moment end last replies → IsKept p past old → KeepsAll p past old moment command.Mount
keeps-no_session p past old moment end last replies off trims stays stops kept =
    let tables : moment.after.tables ≡ map lose end.tables = ap (λ (m : Machine). m.tables) stops.after_is in
    let lost : RelAt TrimsFrom p old.tables (map lose end.tables) =
    subst (λ (o : Option Table). Both TrimsFrom (slice_get old.tables p) o) (sym (slice_get-map lose end.tables p))
    (lost_trims (slice_get old.tables p) (slice_get end.tables p) trims (kept.resting off).pending) in
    let rested : IsResting p (passing p past old.tables moment.after.tables) moment.after.tables =
    subst (λ (ts : List Table). IsResting p (passing p past old.tables ts) ts) (sym tables) (rest-pass p past old.tables (map lose end.tables) lost kept.numbered (kept.resting off)) in
    let is : past_on p past old moment (Some last) command.Mount ≡ passing p past old.tables moment.after.tables =
    ap (λ (b : Bool). cond b (passing p (stop_at p last) last moment.after.tables) (passing p past old.tables moment.after.tables)) off in
    subst (λ (l : Option (List Table)). Keeps p (past_on p past old moment l command.Mount) moment command.Mount) (sym stops.last_is)
    (subst (λ (q : Past). Keeps p q moment command.Mount) (sym is) (record {
      kept = record {
        numbered = subst (λ (ts : List Table). IfSome (slice_get ts p) Numbered) (sym tables) (numbered-lost p old.tables end.tables stays kept.numbered);
        resting = λ m. rested;
      };
      finds = λ e r. rested.found;
    }))

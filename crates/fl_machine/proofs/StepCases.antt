-- The cases of a step: its session and its table are there, or it says so and leaves the machine.
use Rattle.std.proofs.Common.{◌≡◌, ℕ, Bool, true, false, Option, Some, None, List, [], ◌∷◌, refl, ap, ◌∙◌, MatchOption, MatchBool}
use Rattle.std.specs.List.{slice_get}
use Rattle.fl_model.specs.Record.{Config}
use Rattle.fl_words.specs.Command as command
use Rattle.fl_words.specs.Command.{Command}
use Rattle.fl_words.specs.Reply as reply
use Rattle.fl_words.specs.Reply.{Reply}
use Rattle.fl_machine.specs.Machine.{Machine}
use Rattle.fl_machine.specs.Step.{Moment, StepOf, Says, WhenMounted, WithTable, Located, located, cursor_at, no_column}

pub with-mounted : (old : Machine) (moment : Moment) (P Q : Type 0) → (old.mounted ≡ true → P → Q) → (Says moment (reply.NotMounted ∷ []) old → Q) → WhenMounted old moment P → Q
with-mounted old moment P Q does says h = by_test old.mounted refl h
  where
    by_test : (b : Bool) → old.mounted ≡ b → MatchBool b P (Says moment (reply.NotMounted ∷ []) old) → Q
    by_test true e h = does e h
    by_test false e h = says h

pub with-option : {X : Type 0} (o : Option X) (A Q : Type 0) (B : X → Type 0) → (o ≡ None → A → Q) → ((x : X) → o ≡ Some x → B x → Q) → MatchOption o A B → Q
with-option o A Q B none some h = by_case o refl h
  where
    by_case : (q : Option _) → o ≡ q → MatchOption q A B → Q
    by_case None e h = none e h
    by_case (Some x) e h = some x e h

pub with-table : (config : Config) (old : Machine) (moment : Moment) (name : List ℕ) (P : Located → Type 0) (Q : Type 0) →
    ((at : Located) → located config old name ≡ Some at → old.mounted ≡ true → P at → Q) → ((replies : List Reply) → Says moment replies old → Q) → WithTable config old moment name P → Q
with-table config old moment name P Q does says h =
    with-mounted old moment _ Q
    (λ m k. with-option (located config old name) _ Q P (λ e s. says (reply.NoTable ∷ []) s) (λ at e k. does at e m k) k)
    (λ s. says (reply.NotMounted ∷ []) s) h

-- ---- commands that leave the tables and the session

abbrev pub IsQuiet : Command → Type 0
IsQuiet command.Mount = ⊥
IsQuiet command.Off = ⊥
IsQuiet (command.Put name key values blob) = ⊥
IsQuiet (command.Flush name) = ⊥
IsQuiet (command.Load name count step seed) = ⊥
IsQuiet c = Unit {0}

pub record Leaves (old : Machine) (moment : Moment) : Type 0 where
  pub last : moment.last ≡ None
  pub tables : moment.after.tables ≡ old.tables
  pub mounted : moment.after.mounted ≡ old.mounted
  pub programs : moment.after.device.programs ≡ old.device.programs
  pub erases : moment.after.device.erases ≡ old.device.erases

module _ (config : Config) (old : Machine) (moment : Moment) where
  leaves : (new : Machine) → new.tables ≡ old.tables → new.mounted ≡ old.mounted → new.device.programs ≡ old.device.programs → new.device.erases ≡ old.device.erases →
      moment.after ≡ new → moment.last ≡ None → Leaves old moment
  leaves new tables mounted programs erases e last = record {
    last = last;
    tables = ap (λ (m : Machine). m.tables) e ∙ tables;
    mounted = ap (λ (m : Machine). m.mounted) e ∙ mounted;
    programs = ap (λ (m : Machine). m.device.programs) e ∙ programs;
    erases = ap (λ (m : Machine). m.device.erases) e ∙ erases;
  }

  said : (replies : List Reply) → Says moment replies old → Leaves old moment
  said replies h = leaves old refl refl refl refl h.after_is h.last_is

  pub quiet-step : (c : Command) → IsQuiet c → StepOf config old moment c → Leaves old moment
  quiet-step command.Nothing q h = said _ h
  quiet-step command.Mount q h = absurd q
  quiet-step command.Off q h = absurd q
  quiet-step (command.Cut n kind) q h = leaves _ refl refl refl refl h.after_is h.last_is
  quiet-step (command.Put name key values blob) q h = absurd q
  quiet-step (command.Flush name) q h = absurd q
  quiet-step (command.Get name key) q h = with-table config old moment name _ _ (λ at e m k. leaves _ refl refl refl refl k.0 k.1) said h
  quiet-step (command.Blob name key) q h = with-table config old moment name _ _ (λ at e m k. leaves _ refl refl refl refl k.0 k.1) said h
  quiet-step (command.Scan name range span) q h = with-table config old moment name _ _ (λ at e m k. leaves _ refl refl refl refl k.0 k.1) said h
  quiet-step (command.Open cursor name range span) q h = with-table config old moment name _ _ (λ at e m s. leaves _ refl refl refl refl s.after_is s.last_is) said h
  quiet-step (command.Next cursor count) q h =
      with-mounted old moment _ _
      (λ m k. with-option (cursor_at old cursor) _ _ _ (λ e s. said _ s)
      (λ open_cursor e n. with-option (slice_get config.plans open_cursor.table) _ _ _ (λ e s. said _ s)
      (λ plan e n. with-option (slice_get old.tables open_cursor.table) _ _ _ (λ e s. said _ s)
      (λ table e n. leaves _ refl refl refl refl n.1.2 n.0) n) n) k) (said _) h
  quiet-step (command.Close cursor) q h =
      with-mounted old moment _ _
      (λ m k. with-option (cursor_at old cursor) _ _ _ (λ e s. said _ s) (λ open_cursor e s. leaves _ refl refl refl refl s.after_is s.last_is) k) (said _) h
  quiet-step (command.Select name range column op value) q h =
      with-table config old moment name _ _ (λ at e m k. with-option (no_column at.plan (column ∷ [])) _ _ _ (λ e k. leaves _ refl refl refl refl k.0 k.1) (λ column e s. said _ s) k) said h
  quiet-step (command.Project name range columns) q h =
      with-table config old moment name _ _ (λ at e m k. with-option (no_column at.plan columns) _ _ _ (λ e k. leaves _ refl refl refl refl k.0 k.1) (λ column e s. said _ s) k) said h
  quiet-step (command.Agg name range column width) q h =
      with-table config old moment name _ _ (λ at e m k. with-option (no_column at.plan (column ∷ [])) _ _ _ (λ e k. leaves _ refl refl refl refl k.0 k.1) (λ column e s. said _ s) k) said h
  quiet-step (command.Join left right range) q h =
      with-table config old moment left _ _ (λ a e m k. with-table config old moment right _ _ (λ b e m k. leaves _ refl refl refl refl k.0 k.1) said k) said h
  quiet-step (command.Stat name) q h = with-table config old moment name _ _ (λ at e m s. said _ s) said h
  quiet-step command.Cost q h = said _ h
  quiet-step (command.Load name count step seed) q h = absurd q
  quiet-step (command.Device page block) q h = absurd h
  quiet-step (command.Table line) q h = absurd h

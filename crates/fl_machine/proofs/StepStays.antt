-- What stays so of the machine through a step, where neither writes change it nor the begin and the end of a session.
use Rattle.std.proofs.Common.{◌≡◌, ℕ, zero, suc, ◌+◌, Bool, true, false, Option, Some, List, [], ◌∷◌, take, sym, subst, MatchOption, MatchBool, slice_set}
use Rattle.std.specs.List.{slice_get}
use Rattle.fl_base.specs.Generator.{next_random}
use Rattle.fl_model.specs.Record.{Plan, Record, Config}
use Rattle.fl_model.specs.Table.{Table, refusal_of}
use Rattle.fl_model.specs.Work.{Device, Progress, Outcome, Finished, CutShort, Failed}
use Rattle.fl_model.specs.Mount.{turns_from, Mounts, MountEnd, Mounted, Stopped, Unread}
use Rattle.fl_model.specs.Query.{left_of, moved}
use Rattle.fl_words.specs.Command as command
use Rattle.fl_words.specs.Command.{Command}
use Rattle.fl_words.specs.Reply as reply
use Rattle.fl_words.specs.Reply.{Reply}
use Rattle.fl_machine.specs.Machine.{Machine, OpenCursor, stopped, no_cursors}
use Rattle.fl_machine.specs.Step.{Moment, StepOf, Says, EndsAs, EndsMount, WhenMounted, WithTable, Located, PutStep, LoadsFrom, LoadsOn, NextStep, cursor_at, no_column, load_record}
use Rattle.fl_machine.proofs.StepCases.{with-mounted, with-option, with-table}

pub record Stays (old : Machine) (P : Machine → Type 0) : Type 0 where
  pub writes : (device : Device) (tables : List Table) → P (record old { device = device; tables = tables })
  pub stops : (device : Device) (tables : List Table) → P (stopped (record old { device = device; tables = tables }))
  pub mounts : (device : Device) (tables : List Table) → P (record old { device = device; tables = tables; mounted = true; cursors = no_cursors })

-- commands that neither measure a cost nor open, move or close a cursor
abbrev pub IsOther : Command → Type 0
IsOther (command.Get name key) = ⊥
IsOther (command.Scan name range span) = ⊥
IsOther (command.Open cursor name range span) = ⊥
IsOther (command.Next cursor count) = ⊥
IsOther (command.Close cursor) = ⊥
IsOther c = Unit {0}

module _ (old : Machine) (P : Machine → Type 0) (stays : Stays old P) (config : Config) (m : Moment) where
  pub after-is : (new : Machine) → P new → m.after ≡ new → P m.after
  after-is new so e = subst P (sym e) so

  same : P old
  same = stays.writes old.device old.tables

  pub says-so : (replies : List Reply) → Says m replies old → P m.after
  says-so replies h = after-is old same h.after_is

  ends-so : (o : Outcome) (end : Progress) (before ok : List Reply) (new : Machine) → P new → EndsAs o old m end before ok new → P m.after
  ends-so Finished end before ok new so h = after-is new so h.after_is
  ends-so (CutShort last) end before ok new so h = after-is _ (stays.stops end.device end.tables) h.after_is
  ends-so (Failed last) end before ok new so h = after-is _ (stays.stops end.device end.tables) h.after_is

  pub on-table : (name : List ℕ) (Q : Located → Type 0) → WithTable config old m name Q → ((at : Located) → Q at → P m.after) → P m.after
  on-table name Q h go = with-table config old m name Q _ (λ at e b q. go at q) says-so h

  pub on-cursor : (n : ℕ) (Q : OpenCursor → Type 0) → WhenMounted old m (MatchOption (cursor_at old n) (Says m (reply.NoCursor ∷ []) old) Q) →
      ((open_cursor : OpenCursor) → cursor_at old n ≡ Some open_cursor → Q open_cursor → P m.after) → P m.after
  on-cursor n Q h go = with-mounted old m _ _ (λ b k. with-option (cursor_at old n) _ _ _ (λ e s. says-so _ s) go k) (says-so _) h

  pub next-so : (n count : ℕ) (open_cursor : OpenCursor) →
      ((table : Table) (g : ℕ) → P (record old { cursors = slice_set old.cursors n (Some (record open_cursor { cursor = moved open_cursor.cursor (take g (take count (left_of open_cursor.cursor table.entries))) })) })) →
      NextStep config old m n count open_cursor → P m.after
  next-so n count open_cursor so h =
      with-option (slice_get config.plans open_cursor.table) _ _ _ (λ e s. says-so _ s)
      (λ plan e k. with-option (slice_get old.tables open_cursor.table) _ _ _ (λ e s. says-so _ s) (λ table e k. after-is _ (so table k.1.0) k.1.2) k) h

  on-columns : (o : Option ℕ) (Q : Type 0) → MatchOption o Q (λ column. Says m (reply.NoColumn column ∷ []) old) → (Q → P m.after) → P m.after
  on-columns o Q h go = with-option o _ _ _ (λ e q. go q) (λ column e s. says-so _ s) h

  put-so : (item : Record) (at : Located) → PutStep config old m item at → P m.after
  put-so item at h =
      with-option (refusal_of at.plan at.table item) _ _ _ (λ e k. ends-so k.0.outcome k.0 [] (reply.Done ∷ []) _ (stays.writes k.0.device _) k.2) (λ refusal e s. says-so _ s) h

  mount-so : (how : MountEnd) → EndsMount config old m how → P m.after
  mount-so (Mounted end) h = after-is _ (stays.mounts end.device _) h.after_is
  mount-so (Stopped end) h = ends-so end.outcome end [] [] old same h
  mount-so (Unread end) h = after-is _ (stays.writes end.device _) h.after_is

  loads-so : (plan : Plan) (place step seed turns i s loaded : ℕ) (device : Device) (tables : List Table) → LoadsFrom config old m plan place step seed turns i s loaded device tables → P m.after
  loads-so plan place step seed zero i s loaded device tables h = after-is _ (stays.writes device tables) h.after_is
  loads-so plan place step seed (suc turns) i s loaded device tables h =
      with-option (slice_get tables place) _ _ _ (λ e says. after-is _ (stays.writes device tables) says.after_is)
      (λ table e k. with-option (refusal_of plan table (load_record plan table step seed i s)) _ _ _
      (λ e put. by_outcome put.0.outcome put.0 _ put.2 (loads-so plan place step seed turns (i + 1) (next_random s) (loaded + 1) put.0.device _))
      (λ refusal e says. after-is _ (stays.writes device tables) says.after_is) k) h
    where
      by_outcome : (o : Outcome) (end : Progress) (Q : Type 0) → LoadsOn o old m end loaded Q → (Q → P m.after) → P m.after
      by_outcome Finished end Q h go = go h
      by_outcome (CutShort last) end Q h go = after-is _ (stays.stops end.device end.tables) h.after_is
      by_outcome (Failed last) end Q h go = after-is _ (stays.stops end.device end.tables) h.after_is

  pub other-so : (c : Command) → IsOther c → StepOf config old m c → P m.after
  other-so command.Nothing q h = says-so _ h
  other-so command.Mount q h = by_test old.mounted h
    where
      by_test : (b : Bool) → MatchBool b (Says m (reply.AlreadyMounted ∷ []) old)
          ((how : MountEnd) × Mounts config.plans m.rose (turns_from 0 config.plans) old.device old.tables how × EndsMount config old m how) → P m.after
      by_test true h = says-so _ h
      by_test false (how, did, ends) = mount-so how ends
  other-so command.Off q h = after-is _ (stays.stops old.device old.tables) h.after_is
  other-so (command.Cut n kind) q h = after-is _ (stays.writes _ old.tables) h.after_is
  other-so (command.Put name key values blob) q h = on-table name _ h (put-so (record { key = key; values = values; blob = blob }))
  other-so (command.Flush name) q h = on-table name _ h (λ at k. ends-so k.0.outcome k.0 [] (reply.Done ∷ []) _ (stays.writes k.0.device _) k.2)
  other-so (command.Get name key) q h = absurd q
  other-so (command.Blob name key) q h = on-table name _ h (λ at k. after-is _ same k.0)
  other-so (command.Scan name range span) q h = absurd q
  other-so (command.Open cursor name range span) q h = absurd q
  other-so (command.Next cursor count) q h = absurd q
  other-so (command.Close cursor) q h = absurd q
  other-so (command.Select name range column op value) q h = on-table name _ h (λ at k. on-columns (no_column at.plan (column ∷ [])) _ k (λ k. after-is _ same k.0))
  other-so (command.Project name range columns) q h = on-table name _ h (λ at k. on-columns (no_column at.plan columns) _ k (λ k. after-is _ same k.0))
  other-so (command.Agg name range column width) q h = on-table name _ h (λ at k. on-columns (no_column at.plan (column ∷ [])) _ k (λ k. after-is _ same k.0))
  other-so (command.Join left right range) q h = on-table left _ h (λ a k. on-table right _ k (λ b k. after-is _ same k.0))
  other-so (command.Stat name) q h = on-table name _ h (λ at s. says-so _ s)
  other-so command.Cost q h = says-so _ h
  other-so (command.Load name count step seed) q h = on-table name _ h (λ at k. loads-so at.plan at.place step seed count 1 (next_random seed) 0 old.device old.tables k)
  other-so (command.Device page block) q h = absurd h
  other-so (command.Table line) q h = absurd h

-- Wherever the mount of a table with a log ends, the records of its log are as they should.
use Rattle.std.proofs.Common.{◌≡◌, Bool, true, false, Some, [], ◌∷◌, ◌++◌, length, refl, sym, subst}
use Rattle.std.proofs.lemmas.Option.{same_Some}
use Rattle.fl_model.specs.Facts.{IsTable}
use Rattle.fl_model.specs.Mount.{turns_of, turns_from, Mounted, Stopped, Unread}
use Rattle.fl_model.specs.Record.{Plan, has_log}
use Rattle.fl_model.specs.Ring.{Ring}
use Rattle.fl_model.specs.Table.{Table, owed}
use Rattle.fl_model.specs.Within.{TableMounts, TableMounted, TableStopped, TableUnread, with_table, progress_at}
use Rattle.fl_model.specs.Work.{Device, Finished, PartProgress, Progress}
use Rattle.fl_model.proofs.MountAmongTables.{mounts-along}
use Rattle.fl_machine.specs.Found.{HasRoom, LoggedPast}
use Rattle.fl_machine.proofs.LogMounts.{IsDone}
use Rattle.fl_machine.proofs.LogMoves.{LeftBy, Start, log-turns, mounts-logged}
use Rattle.fl_machine.proofs.Logs.{core, IsFine, RestsAs, lost}
use Rattle.fl_machine.proofs.LogStops.{owed-found}
use Rattle.fl_rlc.proofs.KeptRecords.{fine-of}

module _ (plan : Plan) (table : Table) (ring : Ring) (ring_is : table.log ≡ Some ring) (facts : IsTable plan table) (none : table.pending ≡ 0) (room : HasRoom plan) (has : has_log plan ≡ true) where
  abbrev pub past : LoggedPast
  past = record { held = table.entries ++ owed table; pending = length (owed table); unlogged = false; given_up = 0 }

  rests : RestsAs (record { held = table.entries ++ owed table; pending = length (owed table); unlogged = false; given_up = 0 }) (core table)
  rests = record { fine = fine-of plan table ring ring_is facts; none = none; found = owed-found past (core table) table.entries (owed table) refl refl refl refl refl }

  -- it succeeds
  pub mounted-done : (rose : Bool) (device : Device) (now : PartProgress Table) → TableMounts plan rose (turns_of plan) device table (TableMounted now) →
      IsDone (record { held = table.entries ++ owed table; pending = length (owed table); unlogged = false; given_up = 0 }) (core table) now.state
  mounted-done rose device now did =
      let end : Progress = record { outcome = Finished; device = now.device; tables = with_table 0 (table ∷ []) now.state } in
      let all = mounts-along (plan ∷ []) plan 0 rose (turns_of plan) [] device (table ∷ []) table (TableMounted now) refl refl did (Mounted end) refl in
      let k = mounts-logged (plan ∷ []) rose (turns_from 0 (plan ∷ [])) device (table ∷ []) (Mounted end) 0 plan past (core table) Start table room has rests refl (log-turns 0 (plan ∷ []) plan refl has) refl refl all in
      subst (IsDone past (core table)) (same_Some _ _ (sym k.1)) k.2

  left-fine : (now : PartProgress Table) → LeftBy 0 (record { held = table.entries ++ owed table; pending = length (owed table); unlogged = false; given_up = 0 }) (core table) (with_table 0 (table ∷ []) now.state) → IsFine (lost (core now.state))
  left-fine now h = subst (λ (t : Table). IsFine (lost (core t))) (same_Some _ _ (sym h.is)) h.halts.fine

  -- an operation of it failed
  pub stopped-fine : (rose : Bool) (device : Device) (now : PartProgress Table) → TableMounts plan rose (turns_of plan) device table (TableStopped now) → IsFine (lost (core now.state))
  stopped-fine rose device now did =
      let all = mounts-along (plan ∷ []) plan 0 rose (turns_of plan) [] device (table ∷ []) table (TableStopped now) refl refl did in
      left-fine now (mounts-logged (plan ∷ []) rose (turns_from 0 (plan ∷ [])) device (table ∷ []) (Stopped (progress_at 0 (table ∷ []) now)) 0 plan past (core table) Start table room has rests refl (log-turns 0 (plan ∷ []) plan refl has) refl refl all)

  -- .. or a read
  pub unread-fine : (rose : Bool) (device : Device) (now : PartProgress Table) → TableMounts plan rose (turns_of plan) device table (TableUnread now) → IsFine (lost (core now.state))
  unread-fine rose device now did =
      let all = mounts-along (plan ∷ []) plan 0 rose (turns_of plan) [] device (table ∷ []) table (TableUnread now) refl refl did in
      left-fine now (mounts-logged (plan ∷ []) rose (turns_from 0 (plan ∷ [])) device (table ∷ []) (Unread (progress_at 0 (table ∷ []) now)) 0 plan past (core table) Start table room has rests refl (log-turns 0 (plan ∷ []) plan refl has) refl refl all)

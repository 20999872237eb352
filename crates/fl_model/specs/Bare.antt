-- A table without its log, and what it does seen with the log beside it.
use Rattle.std.specs.Prelude.{◌≡◌, ◌+◌, ◌++◌, Bool, Option, None, List, [], map}
use Rattle.std.specs.List.{AllByRecursion}
use Rattle.fl_model.specs.Record.{Record, Plan}
use Rattle.fl_model.specs.Ring.{Ring}
use Rattle.fl_model.specs.Table.{Table, Entry, RingName, LogRing, shape_of, make_room_seals, put_joined, join_seals, log_seals, flushed, refusal_of, first_of, refuse_if, Spent, is_ring_spent}
use Rattle.fl_model.specs.Work.{Device, PartEnd, Whole, CutIn, FailedIn, PartProgress}
use Rattle.fl_model.specs.Within.{seals_within, TablePerforms, TableMountEnd, TableMounted, TableStopped, TableUnread, TableMounts}
use Rattle.fl_model.specs.Mount.{Of, ready}
use Rattle.fl_model.specs.MountLimit.{log_mount_limit, mount_limit}

abbrev pub bare : Plan → Plan
bare plan = record plan { log_blocks = 0 }

abbrev pub bare_table : Table → Table
bare_table table = record table { log = None; logged = []; logged_before = [] }

-- the log of a table
pub record Log : Type 0 where
  pub ring : Option Ring
  pub records : List Entry
  pub before : List (List Entry)

abbrev pub log_of : Table → Log
log_of table = record { ring = table.log; records = table.logged; before = table.logged_before }

-- .. beside another table
abbrev pub beside : Log → Table → Table
beside log table = record table { log = log.ring; logged = log.records; logged_before = log.before }

abbrev pub end_beside : Log → PartEnd Table → PartEnd Table
end_beside log Whole = Whole
end_beside log (CutIn before) = CutIn (beside log before)
end_beside log (FailedIn before) = FailedIn (beside log before)

abbrev pub progress_beside : Log → PartProgress Table → PartProgress Table
progress_beside log now = record { end = end_beside log now.end; device = now.device; state = beside log now.state }

abbrev pub mount_beside : Log → TableMountEnd → TableMountEnd
mount_beside log (TableMounted now) = TableMounted (progress_beside log now)
mount_beside log (TableStopped now) = TableStopped (progress_beside log now)
mount_beside log (TableUnread now) = TableUnread (progress_beside log now)

-- rings other than the log
abbrev pub IsBare : RingName → Type 0
IsBare LogRing = ⊥
IsBare ring = Unit {0}

abbrev pub AreBare : List RingName → Type 0
AreBare rings = AllByRecursion IsBare rings

-- What the bare table does to its rings, the table with its log does, and the log stays.
pub record BareTables : Type 0 where
  pub performs : (plan : Plan) (rose : Bool) (rings : List RingName) (device : Device) (table : Table) (now : PartProgress Table) (log : Log) → AreBare rings →
      TablePerforms (bare plan) rose (seals_within (bare plan) rings table) device table now →
      TablePerforms plan rose (seals_within plan rings (beside log table)) device (beside log table) (progress_beside log now)
  -- a put: its seals before the record joins are those of the bare table, and so are those after it, before that of the log
  pub make_room_seals : (plan : Plan) (table : Table) (log : Log) → make_room_seals plan (beside log table) ≡ make_room_seals (bare plan) table
  pub put_joined : (plan : Plan) (item : Record) (table : Table) (log : Log) → put_joined plan item (beside log table) ≡ beside log (put_joined (bare plan) item table)
  pub join_seals : (plan : Plan) (table : Table) (log : Log) → join_seals plan (beside log table) ≡ join_seals (bare plan) table ++ log_seals plan
  -- .. and its refusals are, before that of a log whose numbers are spent
  pub refusals : (plan : Plan) (item : Record) (table : Table) (log : Log) →
      refusal_of plan (beside log table) item ≡ first_of (refusal_of (bare plan) (bare_table table) item) (refuse_if (is_ring_spent log.ring) Spent)
  pub flushed : (plan : Plan) (table : Table) (log : Log) → flushed plan (beside log table) ≡ beside log (flushed (bare plan) table)
  pub mounts : (plan : Plan) (rose : Bool) (rings : List RingName) (device : Device) (table : Table) (how : TableMountEnd) (log : Log) → AreBare rings →
      TableMounts (bare plan) rose (map (λ ring. Of ring) rings) device table how →
      TableMounts plan rose (map (λ ring. Of ring) rings) device (beside log table) (mount_beside log how)
  pub ready : (plan : Plan) (table : Table) (log : Log) → ready plan (beside log table) ≡ beside log (ready (bare plan) table)
  -- a mount by full index entries reads what that of the bare table reads, and then its log
  pub mount_limit : (plan : Plan) (table : Table) → mount_limit plan table ≡ mount_limit (bare plan) (bare_table table) + log_mount_limit (shape_of plan LogRing) table.log

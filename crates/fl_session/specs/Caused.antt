-- What a command answers and leaves, and why, over any bytes and on any medium.
use Rattle.std.specs.Prelude.{◌≡◌, ◌⊎◌, ℕ, ◌+◌, ◌-◌, ◌*◌, ◌<◌, ◌≤◌, Bool, true, false, not, is_ok, IsTrue, Option, None, Some, option_map, Result, Ok, Err, OnOk, IfErr, List, [], ◌∷◌, length, slice_get, ℤ}
use Rattle.std.specs.List.{AllByRecursion}
use Rattle.fl_base.specs.declared.types.CutKind.{CutKind}
use Rattle.fl_base.specs.declared.types.KeyRange.{KeyRange}
use Rattle.fl_base.specs.declared.types.Span.{Span}
use Rattle.fl_cursor.specs.Asked.{above_range}
use Rattle.fl_cursor.specs.declared.bookmark.Bookmark.{Bookmark}
use Rattle.fl_flash.specs.Flash.{FlashState, Goes, page_at}
use Rattle.fl_flash.specs.declared.flash.FlashFault.TheVariants.{PowerLost}
use Rattle.fl_flash.specs.declared.tear.Tear.TheVariants.{Kind}
use Rattle.fl_machine.specs.Step.{cost_reply}
use Rattle.fl_frame.specs.Contents.{OnlyReads}
use Rattle.fl_ring.specs.Written as tried
use Rattle.fl_rlc.specs.Paged.{HasMadePage, PutLogged}
use Rattle.fl_rlc.specs.Refusal.{NeedsNoOperation, put_refusal}
use Rattle.fl_rlc.specs.Rows.{AreBegun, HaveLogged}
use Rattle.fl_rlc.specs.Table as logged
use Rattle.fl_rlc.specs.Table.{IsSamePlan, MayPut, log_in, rings_in, table_in}
use Rattle.fl_rlc.specs.declared.table.LoggedTable.{LoggedTable}
use Rattle.fl_script.specs.Written.{Written}
use Rattle.fl_frame.specs.Causes.{CausedBy}
use Rattle.fl_table.specs.Causes.{flush_breaks, put_breaks}
use Rattle.fl_table.specs.BlobAt.{data_in, has_blobs}
use Rattle.fl_parts.specs.Blobs.{most_pages}
use Rattle.fl_table.specs.Look.{counts_in, last_key_in, layout_in}
use Rattle.fl_table.specs.Memory.{pending_in, HasRoom, MaySeal}
use Rattle.fl_table.specs.Mounting.{rings_in as table_rings}
use Rattle.fl_table.specs.Paged.{HasFlushed}
use Rattle.fl_table.specs.Refusal.{RefusesAs}
use Rattle.fl_table.specs.Stored.{IsEmptied, Stores}
use Rattle.fl_table.specs.declared.faults.FlushFault.{FlushFault}
use Rattle.fl_table.specs.declared.faults.FlushFault.TheVariants as flush
use Rattle.fl_table.specs.declared.faults.PutRefusal.{PutRefusal}
use Rattle.fl_table.specs.declared.faults.PutRefusal.TheVariants as put
use Rattle.fl_store.specs.MountsOver.{MountsOver}
use Rattle.fl_store.specs.Replies.{flush_reply, put_reply}
use Rattle.fl_store.specs.Tables.{Names, entries_with}
use Rattle.fl_store.specs.declared.tables.BadMount.{BadMount}
use Rattle.fl_store.specs.declared.tables.Entry.{Entry}
use Rattle.fl_words.specs.Command.{Command, Nothing, Device, Table as TableOf, Mount, Off, Cut, Put, Flush, Get, Blob, Scan, Open, Next, Close, Select, Project, Agg, Join, Stat, Cost, Load}
use Rattle.fl_words.specs.Reply as reply
use Rattle.fl_words.specs.Reply.{Reply, text, texts}
use Rattle.fl_queries.specs.LookSays.{LookSays, ReadsFew}
use Rattle.fl_queries.specs.ListSays.{mark_on, EndsRange, EndsPairs, EndsNext, EndsScan, IsFields, IsGroup, IsPair, ListSays}
use Rattle.fl_queries.specs.Asked.{lacked_column}
use Rattle.fl_queries.specs.BlobSays.{AnswersBlob, BlobSays, IsBadNamed, MayBeBadFor}
use Rattle.fl_queries.specs.Rising.{AreRising, IsRow}
use Rattle.fl_queries.specs.RowsGiven.{AreRows, MovesOver}
use Rattle.fl_session.specs.Answer.{IsReached, load_replies, mount_reply}
use Rattle.fl_session.specs.Cost.{cost_of}
use Rattle.fl_session.specs.LoadSays.{LoadFails, PutsRecords}
use Rattle.fl_session.specs.Notes.{with_cursor, without_cursors}
use Rattle.fl_session.specs.declared.cost.Cost.TheVariants.{OfGet, OfScan}
use Rattle.fl_session.specs.declared.notes.Notes.{Notes}
use Rattle.fl_session.specs.declared.notes.TableCursor.{TableCursor}

-- what a session has in memory, and its flash
pub record State : Type 0 where
  pub entries : List Entry
  pub mounted : Bool
  pub notes : Notes
  pub flash : FlashState

abbrev pub state_of : List Entry → Bool → Notes → FlashState → State
state_of entries mounted notes flash = record { entries = entries; mounted = mounted; notes = notes; flash = flash }

-- where something is mounted the power is on
abbrev pub IsPowered : State → Type 0
IsPowered s = s.mounted ≡ true → s.flash.is_on ≡ true

-- ---- one reply

-- a reply of which this holds was written, or a front of it where the sink failed
pub record Writes {E : Type 0} (told told_now : Option (List ℕ)) (result : Result (Unit {0}) E) (Holds : Reply → Type 0) : Type 0 where
  pub reply : Reply
  pub written : Written told told_now result (text reply)
  pub holds : Holds reply

-- ---- a table by its name

-- Nothing is mounted, or no table has the name: just then a command on it is refused, and changes nothing.
abbrev pub IsRefused : State → State → List ℕ → Reply → Type 0
IsRefused old new name said =
    (((old.mounted ≡ false) × (said ≡ reply.NotMounted)) ⊎ ((old.mounted ≡ true) × Names old.entries name None × (said ≡ reply.NoTable))) × (new ≡ old)

-- The table of this name is here, and mounted.
pub record IsHere (old : State) (name : List ℕ) (at : ℕ) (entry : Entry) : Type 0 where
  pub reached : IsReached old.entries old.mounted name at
  pub here : slice_get old.entries at ≡ Some entry

-- a command on it is refused, or this holds of it
abbrev pub OnTable : State → State → List ℕ → (ℕ → Entry → Reply → Type 0) → Reply → Type 0
OnTable old new name Holds said = IsRefused old new name said ⊎ ((at : ℕ) × (entry : Entry) × IsHere old name at entry × Holds at entry said)

-- the tables and the flash were only looked at, and these are the notes now
pub record OnlyLooks (old new : State) (notes : Notes) : Type 0 where
  pub entries : new.entries ≡ old.entries
  pub mounted : new.mounted ≡ old.mounted
  pub notes_are : new.notes ≡ notes
  pub reads : OnlyReads old.flash new.flash

-- how many pages the flash counts as read in a command
abbrev pub reads_in : State → State → ℕ
reads_in old new = new.flash.work.reads - old.flash.work.reads

-- .. and what a get or a scan read was noted
abbrev pub NotesGet : State → State → Type 0
NotesGet old new = (limit : ℕ) × OnlyLooks old new (record old.notes { cost = OfGet (reads_in old new) limit })

abbrev pub NotesScan : State → State → Type 0
NotesScan old new = OnlyLooks old new (record old.notes { cost = OfScan (reads_in old new) })

-- ---- the commands

-- The power goes on, and no cursor is open afterwards. Where no cut is armed the power isn't lost.
pub record MountsAll (old new : State) (said : Reply) : Type 0 where
  pub down : old.mounted ≡ false
  pub outcome : Result (Unit {0}) BadMount
  pub said_is : said ≡ mount_reply outcome
  pub mounts : MountsOver old.entries new.entries (record old.flash { is_on = true }) outcome new.flash
  pub mounted : new.mounted ≡ is_ok outcome
  pub notes : new.notes ≡ without_cursors old.notes
  pub goes : Goes old.flash new.flash

abbrev pub MountSays : State → State → Reply → Type 0
MountSays old new said = ((old.mounted ≡ true) × (said ≡ reply.AlreadyMounted) × (new ≡ old)) ⊎ MountsAll old new said

-- What a call on the table at this place leaves: another state of that table, with the same plan, and outside its rings the
-- bytes that were there. It reads no page; the medium may be read where a page is sealed. Where no cut is armed it loses no power.
pub record LeavesTable (old new : State) (at : ℕ) (entry : Entry) (breaks : Bool) : Type 0 where
  pub now : LoggedTable 64 64
  pub same : IsSamePlan entry.table now
  pub entries : new.entries ≡ entries_with old.entries at entry now
  pub mounted : new.mounted ≡ not breaks
  pub notes : new.notes ≡ old.notes
  pub unread : new.flash.work.reads ≡ old.flash.work.reads
  pub goes : Goes old.flash new.flash
  pub outside : IsTrue old.flash.media.tells → logged.OutsideStands entry.table (page_at old.flash) (page_at new.flash)

-- A fault of the flash has its cause, and any other refusal changes nothing. A table of a mounted session runs, so none is refused as
-- stopped.
abbrev pub PutFails : State → State → PutRefusal → Type 0
PutFails old new (put.Flash fault) = CausedBy old.flash fault new.flash
PutFails old new put.Stopped = ⊥
PutFails old new _ = new ≡ old

-- A put is refused exactly as its table says. Else the record is the last one, and pending, where their page was full the only one,
-- and with a log a page of it was sealed; it needs the flash only if the table has a log, the page of pending rows is full or its blob
-- fills pages, and tries a seal of each ring at most, and those of the pages that the blob fills.
pub record PutSays (old new : State) (key : ℕ) (values : List ℤ) (blob : Option (List ℕ)) (at : ℕ) (entry : Entry) (said : Reply) : Type 0 where
  pub outcome : Result (Unit {0}) PutRefusal
  pub said_is : said ≡ put_reply outcome
  pub exact : RefusesAs (put_refusal entry.table key values (option_map (λ bytes. length bytes) blob)) outcome
  pub fails : IfErr outcome (PutFails old new)
  pub leaves : LeavesTable old new at entry (put_breaks outcome)
  pub last : OnOk outcome (last_key_in (table_in leaves.now) ≡ Some key)
  pub stores : OnOk outcome (Stores (table_in entry.table) key values blob (table_in leaves.now))
  pub logs : OnOk outcome (HaveLogged (layout_in (table_in entry.table)) (record { key = key; values = values; blob = None }) (log_in entry.table) (log_in leaves.now))
  pub power : OnOk outcome (old.flash.is_on ≡ true → new.flash.is_on ≡ true)
  pub quiet : put_refusal entry.table key values (option_map (λ bytes. length bytes) blob) ≡ None → NeedsNoOperation entry.table blob → (outcome ≡ Ok tt) × (new.flash ≡ old.flash)
  pub off : put_refusal entry.table key values (option_map (λ bytes. length bytes) blob) ≡ None → (NeedsNoOperation entry.table blob → ⊥) →
      old.flash.is_on ≡ false → (outcome ≡ Err (put.Flash PowerLost)) × (new.flash ≡ old.flash)
  pub log_page : OnOk outcome (PutLogged entry.table (record { key = key; values = values; blob = None }) old.flash new.flash)
  pub sealed : OnOk outcome ((HasRoom (table_in entry.table) → ⊥) → HasMadePage entry.table blob old.flash new.flash)
  pub writes : tried.Writes (MayPut entry.table blob) 0 (rings_in entry.table + most_pages (data_in (table_in entry.table)) blob) old.flash new.flash
  pub media_reads : new.flash.media.reads ≤ old.flash.media.reads + rings_in entry.table + most_pages (data_in (table_in entry.table)) blob

-- only a fault of the flash fails it
abbrev pub FlushFails : FlashState → FlashState → FlushFault → Type 0
FlushFails f g (flush.Flash fault) = CausedBy f fault g
FlushFails f g flush.Stopped = ⊥

-- A flush changes nothing where no row is pending. Else none is afterwards, they are the next page, and the ring of a log is as
-- it was. The last record is the one that it was, however the flush ends, and a seal of each ring of the table was tried at most; of
-- pending rows one was whole.
pub record FlushSays (old new : State) (at : ℕ) (entry : Entry) (said : Reply) : Type 0 where
  pub outcome : Result (Unit {0}) FlushFault
  pub said_is : said ≡ flush_reply outcome
  pub fails : IfErr outcome (FlushFails old.flash new.flash)
  pub none : pending_in (table_in entry.table) ≡ 0 → (outcome ≡ Ok tt) × (new ≡ old)
  pub leaves : LeavesTable old new at entry (flush_breaks outcome)
  pub flushed : OnOk outcome (pending_in (table_in leaves.now) ≡ 0)
  pub last : last_key_in (table_in leaves.now) ≡ last_key_in (table_in entry.table)
  pub seals : OnOk outcome (1 ≤ pending_in (table_in entry.table) → IsEmptied (table_in entry.table) (table_in leaves.now))
  pub begins : OnOk outcome (1 ≤ pending_in (table_in entry.table) → AreBegun (log_in entry.table) (log_in leaves.now))
  pub power : OnOk outcome (old.flash.is_on ≡ true → new.flash.is_on ≡ true)
  pub off : 1 ≤ pending_in (table_in entry.table) → old.flash.is_on ≡ false → (outcome ≡ Err (flush.Flash PowerLost)) × (new.flash ≡ old.flash)
  pub writes : tried.Writes (MaySeal (table_in entry.table)) 0 (table_rings (table_in entry.table)) old.flash new.flash
  pub sealed : OnOk outcome (1 ≤ pending_in (table_in entry.table) → HasFlushed (table_in entry.table) old.flash new.flash)
  pub media_reads : new.flash.media.reads ≤ old.flash.media.reads + rings_in entry.table

-- what the table has in memory, and what the flash counted
abbrev pub StatSays : State → State → ℕ → Entry → Reply → Type 0
StatSays old new at entry said = (new ≡ old) × (let counts = counts_in (table_in entry.table) in
    said ≡ reply.Stat counts.rows counts.pending counts.pages counts.voids old.flash.work.programs old.flash.work.erases)

-- a cursor on the table is open there from then on, and nothing else is another
abbrev pub OpenSays : State → State → ℕ → KeyRange → Option Span → ℕ → Entry → Reply → Type 0
OpenSays old new cursor range span at entry said =
    (said ≡ reply.Done) × (new ≡ record old { notes = with_cursor old.notes cursor (Some (record { table = at; mark = mark_on (table_in entry.table) range span })) })

-- the cursor with this number isn't open, or it is
abbrev pub IsClosed : State → ℕ → Type 0
IsClosed old n = slice_get old.notes.cursors n ≡ Some None

abbrev pub IsOpen : State → ℕ → TableCursor → Type 0
IsOpen old n held = slice_get old.notes.cursors n ≡ Some (Some held)

-- a cursor that is open isn't from then on
abbrev pub CloseSays : State → State → ℕ → Reply → Type 0
CloseSays old new cursor said =
    ((old.mounted ≡ false) × (said ≡ reply.NotMounted) × (new ≡ old))
    ⊎ ((old.mounted ≡ true) × IsClosed old cursor × (said ≡ reply.NoCursor) × (new ≡ old))
    ⊎ ((old.mounted ≡ true) × ((held : TableCursor) × IsOpen old cursor held) × (said ≡ reply.Done) × (new ≡ record old { notes = with_cursor old.notes cursor None }))

-- the row of a key is looked up
abbrev pub GetSays : State → State → ℕ → ℕ → Entry → Reply → Type 0
GetSays old new key at entry said = LookSays (table_in entry.table) key old.flash new.flash said × ReadsFew (table_in entry.table) old.flash new.flash × NotesGet old new

-- the power goes off, and nothing is mounted from then on
abbrev pub OffSays : State → State → Reply → Type 0
OffSays old new said = (said ≡ reply.Done) × (new ≡ record old { mounted = false; flash = record old.flash { is_on = false } })

-- a cut is armed, and nothing else is another
abbrev pub CutSays : State → State → ℕ → CutKind → Reply → Type 0
CutSays old new n kind said = (said ≡ reply.Done) × (new ≡ record old { flash = record old.flash { armed = Some (record { left = n; tear = Kind kind }) } })

-- what the last get or scan cost
abbrev pub CostSays : State → State → Reply → Type 0
CostSays old new said = (said ≡ cost_reply (cost_of old.notes.cost)) × (new ≡ old)

-- ---- commands that list

-- the command is refused by one reply, or this holds of the table
abbrev pub Lists : {E : Type 0} → State → State → List ℕ → Option (List ℕ) → Option (List ℕ) → Result (Unit {0}) E → (Entry → Type 0) → Type 0
Lists old new name told told_now result Holds =
    Writes told told_now result (IsRefused old new name) ⊎ ((at : ℕ) × (entry : Entry) × IsHere old name at entry × Holds entry)

-- it is refused since the table lacks this column, or it only looks, and lists lines of which this holds
abbrev pub IfLacks : {E : Type 0} → State → State → KeyRange → (List Reply → Type 0) → Entry → Option (List ℕ) → Option (List ℕ) → Result (Unit {0}) E → Option ℕ → Type 0
IfLacks old new range AreLines entry told told_now result (Some column) = Writes told told_now result (λ said. (said ≡ reply.NoColumn column) × (new ≡ old))
IfLacks old new range AreLines entry told told_now result None = OnlyLooks old new old.notes × ListSays AreLines (EndsRange range (table_in entry.table) old.flash new.flash) told told_now result

-- an open cursor lists rows that it has still to give, and moves behind them
pub record NextMoves {E : Type 0} (old new : State) (cursor count : ℕ) (told told_now : Option (List ℕ)) (result : Result (Unit {0}) E) : Type 0 where
  pub held : TableCursor
  pub is_open : IsOpen old cursor held
  pub entry : Entry
  pub here : slice_get old.entries held.table ≡ Some entry
  pub mark : Bookmark
  pub lists : ListSays (MovesOver (has_blobs (table_in entry.table)) held.mark mark) (EndsNext count held.mark (table_in entry.table) old.flash new.flash) told told_now result
  pub looks : OnlyLooks old new (with_cursor old.notes cursor (Some (record held { mark = mark })))

abbrev pub NextLooks : {E : Type 0} → State → State → ℕ → ℕ → Option (List ℕ) → Option (List ℕ) → Result (Unit {0}) E → Type 0
NextLooks old new cursor count told told_now result =
    ((old.mounted ≡ false) × Writes told told_now result (λ said. (said ≡ reply.NotMounted) × (new ≡ old)))
    ⊎ ((old.mounted ≡ true) × IsClosed old cursor × Writes told told_now result (λ said. (said ≡ reply.NoCursor) × (new ≡ old)))
    ⊎ ((old.mounted ≡ true) × NextMoves old new cursor count told told_now result)

-- a load puts all the records that are asked for, or goes up to one that isn't put
abbrev pub LoadCounts : ℕ → ℕ → Result (Unit {0}) PutRefusal → Type 0
LoadCounts asked count (Ok done) = count ≡ asked
LoadCounts asked count (Err refusal) = count < asked

-- a load puts its records one after another, and tells how many were put, and why the next one wasn't
pub record LoadSays {E : Type 0} (old new : State) (asked step seed at : ℕ) (entry : Entry) (told told_now : Option (List ℕ)) (result : Result (Unit {0}) E) : Type 0 where
  pub count : ℕ
  pub outcome : Result (Unit {0}) PutRefusal
  pub written : Written told told_now result (texts (load_replies count outcome))
  pub counted : LoadCounts asked count outcome
  pub leaves : LeavesTable old new at entry (put_breaks outcome)
  pub puts : PutsRecords step seed count entry.table old.flash outcome leaves.now new.flash
  pub fails : IfErr outcome (LoadFails old.flash new.flash)
  pub power : put_breaks outcome ≡ false → old.flash.is_on ≡ true → new.flash.is_on ≡ true
  pub media_reads : new.flash.media.reads ≤ old.flash.media.reads + (count + 1) * rings_in entry.table

-- ---- any command

-- What a command of a script answers and leaves: a reply that refuses it has its cause in memory, and so has the only one of a
-- command that lists nothing. A list has lines of one kind, and behind them one that ends it, which has its cause too. A command
-- that doesn't put, flush or mount changes no byte. Where no cut is armed, only `off` takes the power, and only `cut` arms one.
abbrev pub Caused : {E : Type 0} → Command → State → State → Option (List ℕ) → Option (List ℕ) → Result (Unit {0}) E → Type 0
Caused Mount old new told told_now result = Writes told told_now result (MountSays old new)
Caused Off old new told told_now result = Writes told told_now result (OffSays old new)
Caused (Cut n kind) old new told told_now result = Writes told told_now result (CutSays old new n kind)
Caused (Put name key values blob) old new told told_now result = Writes told told_now result (OnTable old new name (PutSays old new key values blob))
Caused (Flush name) old new told told_now result = Writes told told_now result (OnTable old new name (FlushSays old new))
Caused (Stat name) old new told told_now result = Writes told told_now result (OnTable old new name (StatSays old new))
Caused Cost old new told told_now result = Writes told told_now result (CostSays old new)
Caused (Open cursor name range span) old new told told_now result = Writes told told_now result (OnTable old new name (OpenSays old new cursor range span))
Caused (Close cursor) old new told told_now result = Writes told told_now result (CloseSays old new cursor)
Caused (Get name key) old new told told_now result = Writes told told_now result (OnTable old new name (GetSays old new key))
Caused (Blob name key) old new told told_now result = Lists old new name told told_now result (λ entry. OnlyLooks old new old.notes × BlobSays (AnswersBlob (table_in entry.table) key old.flash) (MayBeBadFor (table_in entry.table) key old.flash) (IsBadNamed (table_in entry.table) key old.flash) old.flash new.flash told told_now result)
Caused (Scan name range span) old new told told_now result = Lists old new name told told_now result (λ entry. NotesScan old new × ListSays (AreRows (has_blobs (table_in entry.table)) (mark_on (table_in entry.table) range span)) (EndsScan (mark_on (table_in entry.table) range span) (table_in entry.table) old.flash new.flash) told told_now result)
Caused (Next cursor count) old new told told_now result = NextLooks old new cursor count told told_now result
Caused (Select name range column op value) old new told told_now result = Lists old new name told told_now result (λ entry. IfLacks old new range (AreRising IsRow (above_range range.low None)) entry told told_now result (lacked_column (layout_in (table_in entry.table)) (column ∷ [])))
Caused (Project name range columns) old new told told_now result = Lists old new name told told_now result (λ entry. IfLacks old new range (AllByRecursion (IsFields (length columns))) entry told told_now result (lacked_column (layout_in (table_in entry.table)) columns))
Caused (Agg name range column width) old new told told_now result = Lists old new name told told_now result (λ entry. IfLacks old new range (AllByRecursion IsGroup) entry told told_now result (lacked_column (layout_in (table_in entry.table)) (column ∷ [])))
Caused (Join left right range) old new told told_now result = Lists old new left told told_now result (λ entry. Lists old new right told told_now result (λ other. OnlyLooks old new old.notes × ListSays (AllByRecursion IsPair) (EndsPairs range (table_in entry.table) (table_in other.table) old.flash new.flash) told told_now result))
Caused (Load name count step seed) old new told told_now result = Writes told told_now result (IsRefused old new name) ⊎ ((at : ℕ) × (entry : Entry) × IsHere old name at entry × LoadSays old new count step seed at entry told told_now result)
Caused Nothing old new told told_now result = Written told told_now result [] × (new ≡ old)
Caused (Device page block) old new told told_now result = Written told told_now result [] × (new ≡ old)
Caused (TableOf line) old new told told_now result = Written told told_now result [] × (new ≡ old)

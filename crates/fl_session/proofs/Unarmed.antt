-- Where no cut is armed no command says that the power was lost, and only a cut arms one.
use Rattle.std.proofs.Common.{◌≡◌, ℕ, zero, suc, ◌-◌, ◌^◌, ◌<◌, ◌⊎◌, Bool, true, false, inl, inr, Option, Some, None, Result, Ok, Err, IfErr, List, [], ◌∷◌, ◌++◌, length, map, refl, sym, ◌∙◌, ap, subst, ◌==◌, if◌then◌else◌, is_ok, ℤ}
use Rattle.std.specs.List.{AllByRecursion}
use Rattle.fl_base.specs.declared.stream.SinkFailed.{SinkFailed}
use Rattle.fl_flash.specs.Flash.{FlashState, Goes}
use Rattle.fl_flash.specs.declared.flash.FlashFault.TheVariants.{PowerLost, Media}
use Rattle.fl_frame.specs.Causes.{IsUnarmed}
use Rattle.fl_frame.specs.Contents.{contents_of}
use Rattle.fl_frame.proofs.WatchedInTurn.{never-lost}
use Rattle.fl_cursor.specs.Asked.{above_range}
use Rattle.fl_cursor.specs.Cursor.{MayBeBad}
use Rattle.fl_base.specs.declared.types.KeyRange.{KeyRange}
use Rattle.fl_cursor.specs.declared.bookmark.Bookmark.{Bookmark}
use Rattle.fl_machine.specs.Machine as machine
use Rattle.fl_machine.specs.Step.{cost_reply}
use Rattle.fl_model.specs.Row.{Row}
use Rattle.fl_model.proofs.Lists.{each-weaker, each-push}
use Rattle.fl_page.specs.declared.fault.BadPage.{BadPage}
use Rattle.fl_rlc.specs.Table.{table_in}
use Rattle.fl_script.specs.Written.{Written}
use Rattle.fl_store.specs.Replies.{flush_reply, put_reply}
use Rattle.fl_store.specs.declared.tables.BadMount.{BadMount}
use Rattle.fl_store.specs.declared.tables.Entry.{Entry}
use Rattle.fl_table.specs.BlobAt.{has_blobs}
use Rattle.fl_parts.specs.Faults.{MountCausedBy}
use Rattle.fl_table.specs.Look.{layout_in}
use Rattle.fl_table.specs.declared.faults.FlushFault.{FlushFault}
use Rattle.fl_table.specs.declared.faults.FlushFault.TheVariants as flush
use Rattle.fl_parts.specs.declared.mount_fault.MountFault.{MountFault}
use Rattle.fl_parts.specs.declared.mount_fault.MountFault.TheVariants as mount
use Rattle.fl_table.specs.declared.faults.PutRefusal.{PutRefusal}
use Rattle.fl_table.specs.declared.faults.PutRefusal.TheVariants as put
use Rattle.fl_table.specs.declared.table.Table.{Table}
use Rattle.fl_words.specs.Command as command
use Rattle.fl_words.specs.Command.{Command}
use Rattle.fl_words.specs.Reply as reply
use Rattle.fl_words.specs.Reply.{Reply}
use Rattle.fl_queries.proofs.RowLines.{one-text}
use Rattle.fl_session.specs.Answer.{bad_reply, load_replies, mount_reply}
use Rattle.fl_queries.specs.Asked.{lacked_column}
use Rattle.fl_queries.specs.BlobSays.{AnswersBlob, EndsBlob, IsBadNamed, IsBlob, IsBytes, MayBeBadFor}
use Rattle.fl_queries.specs.ListSays.{EndsPairs, EndsRange, mark_on, EndsBy, EndsCounted, EndsNext, EndsScan, PassesNoBad, IsFields, IsGroup, IsPair, IsUnread, ListSays}
use Rattle.fl_queries.specs.LookSays.{LookSays}
use Rattle.fl_session.specs.Caused.{Caused, CloseSays, CostSays, CutSays, FlushFails, FlushSays, GetSays, IfLacks, IsHere, IsPowered, IsRefused, MountSays, OffSays, OnlyLooks, OnTable, OpenSays, PutFails, PutSays, StatSays, State, Writes}
use Rattle.fl_session.specs.CausedEach.{CausedEach}
use Rattle.fl_session.specs.Cost.{cost_of}
use Rattle.fl_session.specs.LoadSays.{LoadFails}
use Rattle.fl_queries.specs.Nexts.{ending_of}
use Rattle.fl_queries.specs.Rising.{AreRising, IsRow}
use Rattle.fl_queries.specs.Rows.{row_reply}
use Rattle.fl_queries.specs.RowsGiven.{AreRows, MovesOver}
use Rattle.fl_session.specs.Unarmed.{IsNoLoss, SaysNoLoss, UncutLosesNoPower, is_cut}
use Rattle.fl_session.specs.declared.notes.Notes.{Notes}

-- ---- replies that are others

-- one reply
once : {E : Type 0} (told told_now : Option (List ℕ)) (result : Result (Unit {0}) E) (Holds : Reply → Type 0) → Writes {E = E} told told_now result Holds → ((said : Reply) → Holds said → said ≡ reply.PowerLost → ⊥) → SaysNoLoss {E = E} told told_now result
once {E} told told_now result Holds w other = record {
  replies = w.reply ∷ [];
  written = subst (λ (bytes : List ℕ). Written {E = E} told told_now result bytes) (sym (one-text w.reply)) w.written;
  none = (other w.reply w.holds, tt);
}

-- none
silent : {E : Type 0} (told told_now : Option (List ℕ)) (result : Result (Unit {0}) E) → Written {E = E} told told_now result [] → SaysNoLoss {E = E} told told_now result
silent told told_now result wrote = record { replies = []; written = wrote; none = tt }

-- lines of a kind
lines-other : (IsLine : Reply → Type 0) (lines : List Reply) → (IsLine reply.PowerLost → ⊥) → AllByRecursion IsLine lines → AllByRecursion IsNoLoss lines
lines-other IsLine lines never are = each-weaker IsLine IsNoLoss (λ line is lost. never (subst IsLine lost is)) lines are

-- lines of rows
row-other : (blobs : Bool) (row : Row) → row_reply blobs row ≡ reply.PowerLost → ⊥
row-other blobs row e = cc

rows-other : (blobs : Bool) (rows : List Row) → AllByRecursion IsNoLoss (map (row_reply blobs) rows)
rows-other blobs [] = tt
rows-other blobs (row ∷ rows) = (row-other blobs row, rows-other blobs rows)

given-other : (blobs : Bool) (mark : Bookmark) (lines : List Reply) → AreRows blobs mark lines → AllByRecursion IsNoLoss lines
given-other blobs mark lines h = subst (λ (ls : List Reply). AllByRecursion IsNoLoss ls) (sym h.lines_are) (rows-other blobs h.rows)

moved-other : (blobs : Bool) (mark new : Bookmark) (lines : List Reply) → MovesOver blobs mark new lines → AllByRecursion IsNoLoss lines
moved-other blobs mark new lines h = given-other blobs mark lines h.are_rows

rising-other : (above : Option ℕ) (lines : List Reply) → AreRising IsRow above lines → AllByRecursion IsNoLoss lines
rising-other above [] h = tt
rising-other above (line ∷ lines) (number, is_row, rises, more) = ((λ is. subst (IsRow number) is is_row), rising-other (Some number) lines more)

listed : {E : Type 0} (AreLines : List Reply → Type 0) (Ends : Bool → ℕ → Reply → Type 0) (told told_now : Option (List ℕ)) (result : Result (Unit {0}) E) → ListSays {E = E} AreLines Ends told told_now result →
    ((lines : List Reply) → AreLines lines → AllByRecursion IsNoLoss lines) → ((taken : Bool) (count : ℕ) (last : Reply) → Ends taken count last → last ≡ reply.PowerLost → ⊥) → SaysNoLoss {E = E} told told_now result
listed AreLines Ends told told_now result h others ends = record {
  replies = h.lines ++ h.last ∷ [];
  written = h.written;
  none = each-push IsNoLoss h.lines h.last (others h.lines h.are_lines) (ends (is_ok result) (length h.lines) h.last h.ends);
}

-- what ends them
end-other : (ending : ℕ → Reply) (most : ℕ) (Sound : Type 0) (IsBad : BadPage → Type 0) (f g : FlashState) → ((count : ℕ) → ending count ≡ reply.PowerLost → ⊥) → (taken : Bool) (count : ℕ) (last : Reply) → EndsBy ending most Sound IsBad f g taken count last → last ≡ reply.PowerLost → ⊥
end-other ending most Sound IsBad f g never taken count last ended is = by_end ended.either
  where
    by_end : ((last ≡ ending count) × (taken ≡ true → count < most → Sound)) ⊎ IsUnread IsBad f g last → ⊥
    by_end (inl (same, sound)) = never count (sym same ∙ is)
    by_end (inr unread) = subst (IsUnread IsBad f g) is unread

count-other : (count : ℕ) → reply.EndCount count ≡ reply.PowerLost → ⊥
count-other count e = cc

next-other : (asked count : ℕ) → ending_of asked count ≡ reply.PowerLost → ⊥
next-other asked count e = by_count (count == asked) e
  where
    by_count : (b : Bool) → (if b then reply.More else reply.CursorEnd) ≡ reply.PowerLost → ⊥
    by_count true k = cc
    by_count false k = cc

blob-other : (Tells : Reply → Type 0) (IsBad IsBadOn : BadPage → Type 0) (f g : FlashState) (taken : Bool) (count : ℕ) (last : Reply) → EndsBlob Tells IsBad IsBadOn f g taken count last → last ≡ reply.PowerLost → ⊥
blob-other Tells IsBad IsBadOn f g taken zero last (inl (blob, tells)) is = subst IsBlob is blob
blob-other Tells IsBad IsBadOn f g taken zero last (inr unread) is = subst (IsUnread IsBad f g) is unread
blob-other Tells IsBad IsBadOn f g taken (suc zero) last unread is = subst (IsUnread IsBadOn f g) is unread
blob-other Tells IsBad IsBadOn f g taken (suc (suc count)) last none is = none

cost-other : (cost : machine.Cost) → cost_reply cost ≡ reply.PowerLost → ⊥
cost-other machine.NothingYet is = cc
cost-other (machine.OfGet reads limit) is = cc
cost-other (machine.OfScan reads) is = cc

stat-other : (said : Reply) (rows pending pages voids programs erases : ℕ) → said ≡ reply.Stat rows pending pages voids programs erases → said ≡ reply.PowerLost → ⊥
stat-other said rows pending pages voids programs erases told is = cc (told, is)

-- a command that is refused
refused-other : (old new : State) (name : List ℕ) (said : Reply) → IsRefused old new name said → said ≡ reply.PowerLost → ⊥
refused-other old new name said (inl (down, told), same) is = cc (told, is)
refused-other old new name said (inr (up, nameless, told), same) is = cc (told, is)

table-other : (old new : State) (name : List ℕ) (Holds : ℕ → Entry → Reply → Type 0) → ((at : ℕ) (entry : Entry) → IsHere old name at entry → (said : Reply) → Holds at entry said → said ≡ reply.PowerLost → ⊥) → (said : Reply) → OnTable old new name Holds said → said ≡ reply.PowerLost → ⊥
table-other old new name Holds other said (inl refused) is = refused-other old new name said refused is
table-other old new name Holds other said (inr (at, entry, here, holds)) is = other at entry here said holds is

-- ---- outcomes, of which a lost power is none

put-other : (Fails : PutRefusal → Type 0) (outcome : Result (Unit {0}) PutRefusal) → (Fails (put.Flash PowerLost) → ⊥) → IfErr outcome Fails → put_reply outcome ≡ reply.PowerLost → ⊥
put-other Fails (Ok done) never fails is = cc
put-other Fails (Err (put.Key last)) never fails is = cc
put-other Fails (Err (put.Columns wanted)) never fails is = cc
put-other Fails (Err (put.Value column)) never fails is = cc
put-other Fails (Err (put.Blob limit)) never fails is = cc
put-other Fails (Err put.Spent) never fails is = cc
put-other Fails (Err put.Stopped) never fails is = cc
put-other Fails (Err (put.Flash Media)) never fails is = cc
put-other Fails (Err (put.Flash PowerLost)) never fails is = never fails

flush-other : (f g : FlashState) (outcome : Result (Unit {0}) FlushFault) → IsUnarmed f → IfErr outcome (FlushFails f g) → flush_reply outcome ≡ reply.PowerLost → ⊥
flush-other f g (Ok done) unarmed fails is = cc
flush-other f g (Err flush.Stopped) unarmed fails is = cc
flush-other f g (Err (flush.Flash Media)) unarmed fails is = cc
flush-other f g (Err (flush.Flash PowerLost)) unarmed fails is = never-lost f g unarmed fails

bad-other : (f g : FlashState) (name : List ℕ) (fault : MountFault) → IsUnarmed f → MountCausedBy f fault g → bad_reply name fault ≡ reply.PowerLost → ⊥
bad-other f g name (mount.Flash PowerLost) unarmed cause is = never-lost f g unarmed cause
bad-other f g name (mount.Flash Media) unarmed cause is = cc
bad-other f g name fault unarmed cause is = cc

mount-other : (f g : FlashState) (outcome : Result (Unit {0}) BadMount) → IsUnarmed f → IfErr outcome (λ bad. MountCausedBy f bad.fault g) → mount_reply outcome ≡ reply.PowerLost → ⊥
mount-other f g (Ok done) unarmed cause is = cc
mount-other f g (Err bad) unarmed cause is = bad-other f g bad.name bad.fault unarmed cause is

many-other : (count : ℕ) → reply.Loaded count ≡ reply.PowerLost → ⊥
many-other count e = cc

loaded-other : (f g : FlashState) (count : ℕ) (outcome : Result (Unit {0}) PutRefusal) → IsUnarmed f → IfErr outcome (LoadFails f g) → AllByRecursion IsNoLoss (load_replies count outcome)
loaded-other f g count (Ok done) unarmed fails = (many-other count, tt)
loaded-other f g count (Err refusal) unarmed fails = (many-other count, (put-other (LoadFails f g) (Err refusal) (never-lost f g unarmed) fails, tt))

-- ---- any command

module _ (E : Type 0) (old new : State) (told told_now : Option (List ℕ)) (result : Result (Unit {0}) E) (none : old.flash.armed ≡ None) where
  -- what it says
  module _ (powered : IsPowered old) where
    on-table : (name : List ℕ) (at : ℕ) (entry : Entry) → IsHere old name at entry → IsUnarmed old.flash
    on-table name at entry here = record { on = powered here.reached.mounted_is; none = none }

    mount-says : (said : Reply) → MountSays old new said → said ≡ reply.PowerLost → ⊥
    mount-says said (inl (up, told_so, same)) is = cc (told_so, is)
    mount-says said (inr all) is = mount-other (record old.flash { is_on = true }) new.flash all.outcome (record { on = refl; none = none }) all.mounts.cause (sym all.said_is ∙ is)

    put-says : (name : List ℕ) (key : ℕ) (values : List ℤ) (blob : Option (List ℕ)) (at : ℕ) (entry : Entry) → IsHere old name at entry → (said : Reply) → PutSays old new key values blob at entry said → said ≡ reply.PowerLost → ⊥
    put-says name key values blob at entry here said says is = put-other (PutFails old new) says.outcome (never-lost old.flash new.flash (on-table name at entry here)) says.fails (sym says.said_is ∙ is)

    flush-says : (name : List ℕ) (at : ℕ) (entry : Entry) → IsHere old name at entry → (said : Reply) → FlushSays old new at entry said → said ≡ reply.PowerLost → ⊥
    flush-says name at entry here said says is = flush-other old.flash new.flash says.outcome (on-table name at entry here) says.fails (sym says.said_is ∙ is)

    close-says : (cursor : ℕ) (said : Reply) → CloseSays old new cursor said → said ≡ reply.PowerLost → ⊥
    close-says cursor said (inl (down, told_so, same)) is = cc (told_so, is)
    close-says cursor said (inr (inl (up, closed, told_so, same))) is = cc (told_so, is)
    close-says cursor said (inr (inr (up, held, told_so, same))) is = cc (told_so, is)

    refused-says : (name : List ℕ) → Writes {E = E} told told_now result (IsRefused old new name) → SaysNoLoss {E = E} told told_now result
    refused-says name w = once told told_now result (IsRefused old new name) w (refused-other old new name)

    row-end : (t : Table 64 64) (Sound : Type 0) (taken : Bool) (count : ℕ) (last : Reply) → EndsCounted Sound (MayBeBad t (contents_of old.flash)) old.flash new.flash taken count last → last ≡ reply.PowerLost → ⊥
    row-end t Sound taken count last h is = end-other reply.EndCount (2 ^ 64 - 1) Sound (MayBeBad t (contents_of old.flash)) old.flash new.flash count-other taken count last h is

    pair-end : (range : KeyRange) (t u : Table 64 64) (taken : Bool) (count : ℕ) (last : Reply) → EndsPairs range t u old.flash new.flash taken count last → last ≡ reply.PowerLost → ⊥
    pair-end range t u taken count last h is = end-other reply.EndCount (2 ^ 64 - 1) (PassesNoBad (mark_on t range None) t old.flash ⊎ PassesNoBad (mark_on u range None) u old.flash) (λ bad. MayBeBad t (contents_of old.flash) bad ⊎ MayBeBad u (contents_of old.flash) bad) old.flash new.flash count-other taken count last h is

    next-end : (asked : ℕ) (mark : Bookmark) (t : Table 64 64) (taken : Bool) (count : ℕ) (last : Reply) → EndsNext asked mark t old.flash new.flash taken count last → last ≡ reply.PowerLost → ⊥
    next-end asked mark t taken count last h is = end-other (ending_of asked) asked (PassesNoBad mark t old.flash) (MayBeBad t (contents_of old.flash)) old.flash new.flash (next-other asked) taken count last h is

    lacks-says : (range : KeyRange) (AreLines : List Reply → Type 0) (entry : Entry) (o : Option ℕ) → ((lines : List Reply) → AreLines lines → AllByRecursion IsNoLoss lines) → IfLacks {E = E} old new range AreLines entry told told_now result o → SaysNoLoss {E = E} told told_now result
    lacks-says range AreLines entry (Some column) others w = once told told_now result (λ said. (said ≡ reply.NoColumn column) × (new ≡ old)) w (λ said h is. cc (h.0, is))
    lacks-says range AreLines entry None others h = listed AreLines (EndsRange range (table_in entry.table) old.flash new.flash) told told_now result h.1 others (row-end (table_in entry.table) (PassesNoBad (mark_on (table_in entry.table) range None) (table_in entry.table) old.flash))

    says : (c : Command) → Caused {E = E} c old new told told_now result → SaysNoLoss {E = E} told told_now result
    says command.Mount w = once told told_now result (MountSays old new) w mount-says
    says command.Off w = once told told_now result (OffSays old new) w (λ said h is. cc (h.0, is))
    says (command.Cut n kind) w = once told told_now result (CutSays old new n kind) w (λ said h is. cc (h.0, is))
    says (command.Put name key values blob) w = once told told_now result (OnTable old new name (PutSays old new key values blob)) w (table-other old new name (PutSays old new key values blob) (put-says name key values blob))
    says (command.Flush name) w = once told told_now result (OnTable old new name (FlushSays old new)) w (table-other old new name (FlushSays old new) (flush-says name))
    says (command.Stat name) w = once told told_now result (OnTable old new name (StatSays old new)) w (table-other old new name (StatSays old new) (λ at entry here said h is. stat-other said _ _ _ _ _ _ h.1 is))
    says command.Cost w = once told told_now result (CostSays old new) w (λ said h is. cost-other (cost_of old.notes.cost) (sym h.0 ∙ is))
    says (command.Open cursor name range span) w = once told told_now result (OnTable old new name (OpenSays old new cursor range span)) w (table-other old new name (OpenSays old new cursor range span) (λ at entry here said h is. cc (h.0, is)))
    says (command.Close cursor) w = once told told_now result (CloseSays old new cursor) w (close-says cursor)
    says (command.Get name key) w =
        once told told_now result (OnTable old new name (GetSays old new key)) w (table-other old new name (GetSays old new key) (λ at entry here said h is. subst (LookSays (table_in entry.table) key old.flash new.flash) is h.0))
    says (command.Blob name key) (inl w) = refused-says name w
    says (command.Blob name key) (inr (at, entry, here, (looks, tells))) =
        listed (AllByRecursion IsBytes) (EndsBlob (AnswersBlob (table_in entry.table) key old.flash) (MayBeBadFor (table_in entry.table) key old.flash) (IsBadNamed (table_in entry.table) key old.flash) old.flash new.flash) told told_now result tells (λ lines are. lines-other IsBytes lines (λ h. h) are) (blob-other (AnswersBlob (table_in entry.table) key old.flash) (MayBeBadFor (table_in entry.table) key old.flash) (IsBadNamed (table_in entry.table) key old.flash) old.flash new.flash)
    says (command.Scan name range span) (inl w) = refused-says name w
    says (command.Scan name range span) (inr (at, entry, here, (noted, tells))) =
        listed (AreRows (has_blobs (table_in entry.table)) (mark_on (table_in entry.table) range span)) (EndsScan (mark_on (table_in entry.table) range span) (table_in entry.table) old.flash new.flash) told told_now result tells
        (given-other (has_blobs (table_in entry.table)) (mark_on (table_in entry.table) range span)) (row-end (table_in entry.table) (PassesNoBad (mark_on (table_in entry.table) range span) (table_in entry.table) old.flash))
    says (command.Next cursor count) (inl (down, w)) = once told told_now result (λ said. (said ≡ reply.NotMounted) × (new ≡ old)) w (λ said h is. cc (h.0, is))
    says (command.Next cursor count) (inr (inl (up, closed, w))) = once told told_now result (λ said. (said ≡ reply.NoCursor) × (new ≡ old)) w (λ said h is. cc (h.0, is))
    says (command.Next cursor count) (inr (inr (up, moves))) =
        listed (MovesOver (has_blobs (table_in moves.entry.table)) moves.held.mark moves.mark) (EndsNext count moves.held.mark (table_in moves.entry.table) old.flash new.flash) told told_now result moves.lists
        (moved-other (has_blobs (table_in moves.entry.table)) moves.held.mark moves.mark) (next-end count moves.held.mark (table_in moves.entry.table))
    says (command.Select name range column op value) (inl w) = refused-says name w
    says (command.Select name range column op value) (inr (at, entry, here, tells)) = lacks-says range (AreRising IsRow (above_range range.low None)) entry (lacked_column (layout_in (table_in entry.table)) (column ∷ [])) (rising-other (above_range range.low None)) tells
    says (command.Project name range columns) (inl w) = refused-says name w
    says (command.Project name range columns) (inr (at, entry, here, tells)) = lacks-says range (AllByRecursion (IsFields (length columns))) entry (lacked_column (layout_in (table_in entry.table)) columns) (λ lines are. lines-other (IsFields (length columns)) lines (λ h. h) are) tells
    says (command.Agg name range column width) (inl w) = refused-says name w
    says (command.Agg name range column width) (inr (at, entry, here, tells)) = lacks-says range (AllByRecursion IsGroup) entry (lacked_column (layout_in (table_in entry.table)) (column ∷ [])) (λ lines are. lines-other IsGroup lines (λ h. h) are) tells
    says (command.Join left right range) (inl w) = refused-says left w
    says (command.Join left right range) (inr (at, entry, here, inl w)) = refused-says right w
    says (command.Join left right range) (inr (at, entry, here, inr (there, other, its, (looks, tells)))) =
        listed (AllByRecursion IsPair) (EndsPairs range (table_in entry.table) (table_in other.table) old.flash new.flash) told told_now result tells (λ lines are. lines-other IsPair lines (λ h. h) are) (pair-end range (table_in entry.table) (table_in other.table))
    says (command.Load name count step seed) (inl w) = refused-says name w
    says (command.Load name count step seed) (inr (at, entry, here, loads)) = record {
      replies = load_replies loads.count loads.outcome;
      written = loads.written;
      none = loaded-other old.flash new.flash loads.count loads.outcome (on-table name at entry here) loads.fails;
    }
    says command.Nothing h = silent told told_now result h.0
    says (command.Device page block) h = silent told told_now result h.0
    says (command.Table line) h = silent told told_now result h.0

  -- what it leaves
  still : new ≡ old → new.flash.armed ≡ None
  still same = ap (λ (s : State). s.flash.armed) same ∙ none

  goes-on : Goes old.flash new.flash → new.flash.armed ≡ None
  goes-on goes = (goes.power none).unarmed

  looked : (notes : Notes) → OnlyLooks old new notes → new.flash.armed ≡ None
  looked notes looks = looks.reads.armed ∙ none

  refused : (name : List ℕ) → Writes {E = E} told told_now result (IsRefused old new name) → new.flash.armed ≡ None
  refused name w = still w.holds.1

  mounted : (said : Reply) → MountSays old new said → new.flash.armed ≡ None
  mounted said (inl (up, told_so, same)) = still same
  mounted said (inr all) = goes-on all.goes

  closed : (cursor : ℕ) (said : Reply) → CloseSays old new cursor said → new.flash.armed ≡ None
  closed cursor said (inl (down, told_so, same)) = still same
  closed cursor said (inr (inl (up, none_open, told_so, same))) = still same
  closed cursor said (inr (inr (up, held, told_so, same))) = ap (λ (s : State). s.flash.armed) same ∙ none

  at-table : (name : List ℕ) (Holds : ℕ → Entry → Reply → Type 0) (said : Reply) → ((at : ℕ) (entry : Entry) → Holds at entry said → new.flash.armed ≡ None) → OnTable old new name Holds said → new.flash.armed ≡ None
  at-table name Holds said leaves (inl same) = still same.1
  at-table name Holds said leaves (inr (at, entry, here, holds)) = leaves at entry holds

  gets : (key : ℕ) (said : Reply) (at : ℕ) (entry : Entry) → GetSays old new key at entry said → new.flash.armed ≡ None
  gets key said at entry (found, few, (limit, looks)) = looked _ looks

  lacking : (range : KeyRange) (AreLines : List Reply → Type 0) (entry : Entry) (o : Option ℕ) → IfLacks {E = E} old new range AreLines entry told told_now result o → new.flash.armed ≡ None
  lacking range AreLines entry (Some column) w = still w.holds.1
  lacking range AreLines entry None h = looked old.notes h.0

  leaves-unarmed : (c : Command) → is_cut c ≡ false → Caused {E = E} c old new told told_now result → new.flash.armed ≡ None
  leaves-unarmed command.Mount uncut w = mounted w.reply w.holds
  leaves-unarmed command.Off uncut w = ap (λ (s : State). s.flash.armed) w.holds.1 ∙ none
  leaves-unarmed (command.Cut n kind) uncut w = absurd (cc uncut)
  leaves-unarmed (command.Put name key values blob) uncut w = at-table name (PutSays old new key values blob) w.reply (λ at entry h. goes-on h.leaves.goes) w.holds
  leaves-unarmed (command.Flush name) uncut w = at-table name (FlushSays old new) w.reply (λ at entry h. goes-on h.leaves.goes) w.holds
  leaves-unarmed (command.Stat name) uncut w = at-table name (StatSays old new) w.reply (λ at entry h. still h.0) w.holds
  leaves-unarmed command.Cost uncut w = still w.holds.1
  leaves-unarmed (command.Open cursor name range span) uncut w = at-table name (OpenSays old new cursor range span) w.reply (λ at entry h. ap (λ (s : State). s.flash.armed) h.1 ∙ none) w.holds
  leaves-unarmed (command.Close cursor) uncut w = closed cursor w.reply w.holds
  leaves-unarmed (command.Get name key) uncut w = at-table name (GetSays old new key) w.reply (gets key w.reply) w.holds
  leaves-unarmed (command.Blob name key) uncut (inl w) = refused name w
  leaves-unarmed (command.Blob name key) uncut (inr (at, entry, here, (looks, tells))) = looked old.notes looks
  leaves-unarmed (command.Scan name range span) uncut (inl w) = refused name w
  leaves-unarmed (command.Scan name range span) uncut (inr (at, entry, here, (noted, tells))) = looked _ noted
  leaves-unarmed (command.Next cursor count) uncut (inl (down, w)) = still w.holds.1
  leaves-unarmed (command.Next cursor count) uncut (inr (inl (up, none_open, w))) = still w.holds.1
  leaves-unarmed (command.Next cursor count) uncut (inr (inr (up, moves))) = looked _ moves.looks
  leaves-unarmed (command.Select name range column op value) uncut (inl w) = refused name w
  leaves-unarmed (command.Select name range column op value) uncut (inr (at, entry, here, h)) = lacking range (AreRising IsRow (above_range range.low None)) entry (lacked_column (layout_in (table_in entry.table)) (column ∷ [])) h
  leaves-unarmed (command.Project name range columns) uncut (inl w) = refused name w
  leaves-unarmed (command.Project name range columns) uncut (inr (at, entry, here, h)) = lacking range (AllByRecursion (IsFields (length columns))) entry (lacked_column (layout_in (table_in entry.table)) columns) h
  leaves-unarmed (command.Agg name range column width) uncut (inl w) = refused name w
  leaves-unarmed (command.Agg name range column width) uncut (inr (at, entry, here, h)) = lacking range (AllByRecursion IsGroup) entry (lacked_column (layout_in (table_in entry.table)) (column ∷ [])) h
  leaves-unarmed (command.Join left right range) uncut (inl w) = refused left w
  leaves-unarmed (command.Join left right range) uncut (inr (at, entry, here, inl w)) = refused right w
  leaves-unarmed (command.Join left right range) uncut (inr (at, entry, here, inr (there, other, its, (looks, tells)))) = looked old.notes looks
  leaves-unarmed (command.Load name count step seed) uncut (inl w) = refused name w
  leaves-unarmed (command.Load name count step seed) uncut (inr (at, entry, here, loads)) = goes-on loads.leaves.goes
  leaves-unarmed command.Nothing uncut h = still h.1
  leaves-unarmed (command.Device page block) uncut h = still h.1
  leaves-unarmed (command.Table line) uncut h = still h.1

-- ---- one after another

each-unarmed : (commands : List Command) (old new : State) (told told_now : Option (List ℕ)) → AllByRecursion (λ (c : Command). is_cut c ≡ false) commands → old.flash.armed ≡ None → CausedEach commands old new told told_now → new.flash.armed ≡ None
each-unarmed [] old new told told_now uncut none h = ap (λ (s : State). s.flash.armed) h.0 ∙ none
each-unarmed (c ∷ commands) old new told told_now uncut none h = each-unarmed commands h.0 new h.1 told_now uncut.1 (leaves-unarmed SinkFailed old h.0 told h.1 (Ok tt) none c uncut.0 h.3) h.4

pub uncut-keeps-power : UncutLosesNoPower
uncut-keeps-power = record {
  unarmed = each-unarmed;
  never = λ c old new told told_now result powered none h. says SinkFailed old new told told_now result none powered c h;
}

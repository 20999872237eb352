-- The replies of a command that lists, over any bytes and on any medium.
use Rattle.std.specs.Prelude.{◌≡◌, ◌⊎◌, ℕ, ◌-◌, ◌^◌, ◌<◌, ◌≤◌, ◌++◌, Bool, true, is_ok, Option, Result, Ok, Err, List, [], ◌∷◌, length, min, None, option_map}
use Rattle.fl_base.specs.Causes.{Appends, AppendsFront}
use Rattle.fl_base.specs.declared.stream.SinkFailed.{SinkFailed}
use Rattle.fl_cursor.specs.Asked.{asked_by}
use Rattle.fl_cursor.specs.Cursor.{IfBad, MayBeBad, table_of}
use Rattle.fl_cursor.specs.Sound.{IsSoundAhead, IsSoundOver}
use Rattle.fl_cursor.specs.declared.bookmark.Bookmark.{Bookmark}
use Rattle.fl_cursor.specs.declared.cursor.Cursor.{Cursor}
use Rattle.fl_flash.specs.Flash.{FlashState}
use Rattle.fl_flash.specs.declared.flash.FlashFault.{FlashFault}
use Rattle.fl_page.specs.Causes.{IsCaused}
use Rattle.fl_frame.specs.Contents.{contents_of}
use Rattle.fl_page.specs.declared.fault.BadPage.{BadPage}
use Rattle.fl_page.specs.declared.fault.ReadFault.TheVariants as fault
use Rattle.fl_script.specs.Written.{Written}
use Rattle.fl_table.specs.declared.table.Table.{Table}
use Rattle.fl_words.specs.Reply as reply
use Rattle.fl_words.specs.Reply.{Reply, text, texts}
use Rattle.fl_base.specs.declared.types.KeyRange.{KeyRange}
use Rattle.fl_base.specs.declared.types.Span.{Span}
use Rattle.fl_table.specs.Look.{last_key_in}
use Rattle.fl_queries.specs.Listed.{SaysFault}
use Rattle.fl_queries.specs.Nexts.{ending_of}
use Rattle.fl_queries.specs.declared.listing.ListFault.{ListFault}
use Rattle.fl_queries.specs.declared.listing.ListFault.TheVariants.{Sink, Read}

-- the line of so many fields, of a group, of a pair
abbrev pub IsFields : ℕ → Reply → Type 0
IsFields count (reply.Fields fields) = length fields ≡ count
IsFields count _ = ⊥

abbrev pub IsGroup : Reply → Type 0
IsGroup (reply.Group group count least greatest sum mean) = Unit {0}
IsGroup _ = ⊥

abbrev pub IsPair : Reply → Type 0
IsPair (reply.Pair key left right) = Unit {0}
IsPair _ = ⊥

-- so many lines were written, of which this holds, and no more than a number
pub record WroteLines (AreLines : List Reply → Type 0) (most : ℕ) (told told_now : Option (List ℕ)) (count : ℕ) : Type 0 where
  pub lines : List Reply
  pub are_lines : AreLines lines
  pub many : length lines ≡ count
  pub upto : count ≤ most
  pub wrote : Appends told told_now (texts lines)

-- .. and the sink failed in one of them
pub record WroteInto (AreLines : List Reply → Type 0) (most : ℕ) (told told_now : Option (List ℕ)) : Type 0 where
  pub lines : List Reply
  pub are_lines : AreLines lines
  pub upto : length lines ≤ most
  pub wrote : AppendsFront told told_now (texts lines)

-- Lines of which this holds were written and counted. Or the sink failed in one of them, or a page behind some of them, fewer than
-- the most, wasn't read.
abbrev pub GivesLines : (List Reply → Type 0) → (BadPage → Type 0) → ℕ → Option (List ℕ) → Option (List ℕ) → Result ℕ ListFault → Type 0
GivesLines AreLines IsBad most told told_now (Ok count) = WroteLines AreLines most told told_now count
GivesLines AreLines IsBad most told told_now (Err (Sink failed)) = WroteInto AreLines most told told_now
GivesLines AreLines IsBad most told told_now (Err (Read fault)) = ((count : ℕ) × (count < most) × WroteLines AreLines most told told_now count) × IfBad IsBad fault

-- what is said behind lines: how many they are, or that a page wasn't read; and nothing more to a sink that failed
abbrev pub SaysEnd : Result ℕ ListFault → Option (List ℕ) → Option (List ℕ) → Result (Unit {0}) SinkFailed → Type 0
SaysEnd (Ok count) told told_now result = Written told told_now result (text (reply.EndCount count))
SaysEnd (Err why) told told_now result = SaysFault why told told_now result

-- Lines of which this holds were written, and behind them one that ends the list, by their number and by whether the sink took them
-- all; or a front of all these where it failed.
pub record ListSays {E : Type 0} (AreLines : List Reply → Type 0) (Ends : Bool → ℕ → Reply → Type 0) (told told_now : Option (List ℕ)) (result : Result (Unit {0}) E) : Type 0 where
  pub lines : List Reply
  pub are_lines : AreLines lines
  pub last : Reply
  pub ends : Ends (is_ok result) (length lines) last
  pub written : Written told told_now result (texts (lines ++ last ∷ []))

-- A page wasn't read: the power was off, or the medium failed in the command; or the page is a bad one.
abbrev pub IsUnread : (BadPage → Type 0) → FlashState → FlashState → Reply → Type 0
IsUnread IsBad old new reply.ReadFault = (e : FlashFault) × IsCaused old (fault.Flash e) new
IsUnread IsBad old new (reply.BadPage number) = (bad : BadPage) × (bad.wanted ≡ number) × IsBad bad
IsUnread IsBad old new _ = ⊥

-- What ends a list of so many lines: what is said of their number, or that a page wasn't read. The former is all of them, so that it
-- is sound, where it was written and they are fewer than the list may have.
pub record EndsBy (ending : ℕ → Reply) (most : ℕ) (Sound : Type 0) (IsBad : BadPage → Type 0) (old new : FlashState) (taken : Bool) (count : ℕ) (last : Reply) : Type 0 where
  pub upto : count ≤ most
  pub either : ((last ≡ ending count) × (taken ≡ true → count < most → Sound)) ⊎ IsUnread IsBad old new last

-- .. whose number is told
abbrev pub EndsCounted : Type 0 → (BadPage → Type 0) → FlashState → FlashState → Bool → ℕ → Reply → Type 0
EndsCounted Sound IsBad = EndsBy reply.EndCount (2 ^ 64 - 1) Sound IsBad

-- no page that a cursor with this mark looks at, from there to the last row, is bad
abbrev pub PassesNoBad : Bookmark → Table 64 64 → FlashState → Type 0
PassesNoBad mark t f = IsSoundOver t (contents_of f) (asked_by mark)

-- what ends the rows that a scan from this mark gives
abbrev pub EndsScan : Bookmark → Table 64 64 → FlashState → FlashState → Bool → ℕ → Reply → Type 0
EndsScan mark t old new = EndsCounted (PassesNoBad mark t old) (MayBeBad t (contents_of old)) old new

-- .. and the pairs of two, of which one comes to its end
abbrev pub EndsOnBoth : Bookmark → Bookmark → Table 64 64 → Table 64 64 → FlashState → FlashState → Bool → ℕ → Reply → Type 0
EndsOnBoth left right t u old new =
    EndsCounted (PassesNoBad left t old ⊎ PassesNoBad right u old) (λ bad. MayBeBad t (contents_of old) bad ⊎ MayBeBad u (contents_of old) bad) old new

-- .. of cursors that have begun
abbrev pub EndsAt : Cursor 64 64 → FlashState → FlashState → Bool → ℕ → Reply → Type 0
EndsAt cursor old new = EndsCounted (IsSoundAhead cursor (contents_of old)) (MayBeBad (table_of cursor) (contents_of old)) old new

abbrev pub EndsAtBoth : Cursor 64 64 → Cursor 64 64 → FlashState → FlashState → Bool → ℕ → Reply → Type 0
EndsAtBoth left right old new =
    EndsCounted (IsSoundAhead left (contents_of old) ⊎ IsSoundAhead right (contents_of old)) (λ bad. MayBeBad (table_of left) (contents_of old) bad ⊎ MayBeBad (table_of right) (contents_of old) bad) old new

-- .. and those that a cursor with this mark gives, where so many were asked for
abbrev pub EndsNext : ℕ → Bookmark → Table 64 64 → FlashState → FlashState → Bool → ℕ → Reply → Type 0
EndsNext asked mark t old new = EndsBy (ending_of asked) asked (PassesNoBad mark t old) (MayBeBad t (contents_of old)) old new

-- before the first of the rows that are asked for, up to the last one that the table has now
abbrev pub mark_on : Table 64 64 → KeyRange → Option Span → Bookmark
mark_on t range span = record { after = None; top = option_map (λ last. min range.high last) (last_key_in t); range = range; span = span }

-- what ends a list of all rows of a range, and one of the pairs of two tables
abbrev pub EndsRange : KeyRange → Table 64 64 → FlashState → FlashState → Bool → ℕ → Reply → Type 0
EndsRange range t = EndsScan (mark_on t range None) t

abbrev pub EndsPairs : KeyRange → Table 64 64 → Table 64 64 → FlashState → FlashState → Bool → ℕ → Reply → Type 0
EndsPairs range t u = EndsOnBoth (mark_on t range None) (mark_on u range None) t u

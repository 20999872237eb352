-- The causes of replies, over any bytes.
use Rattle.std.proofs.Common.{◌≡◌, ℕ, ◌<◌, Bool, true, false, not, inl, inr, Option, None, Some, Result, Ok, Err, IfErr, List, refl, sym, ◌∙◌, ap, subst, ◌↔◌, is_err, OnOk, ℤ, slice_get, is_none}
use Rattle.fl_base.specs.declared.types.KeyRange.{KeyRange}
use Rattle.fl_base.proofs.Appended.{appends-none}
use Rattle.fl_frame.specs.Contents.{OnlyReads}
use Rattle.fl_cursor.specs.declared.bookmark.Bookmark.{Bookmark}
use Rattle.fl_flash.specs.Flash.{FlashState}
use Rattle.fl_script.specs.ReplyView.{reply_text}
use Rattle.fl_script.specs.Written.{Written}
use Rattle.fl_script.specs.declared.reply.Reply as code
use Rattle.fl_table.specs.Causes.{FlushCausedBy, PutCausedBy, put_breaks}
use Rattle.fl_table.specs.declared.faults.FlushFault.{FlushFault}
use Rattle.fl_table.specs.declared.faults.FlushFault.TheVariants as flush
use Rattle.fl_table.specs.declared.faults.PutRefusal.{PutRefusal}
use Rattle.fl_table.specs.declared.faults.PutRefusal.TheVariants as put
use Rattle.fl_table.specs.Refusal.{RefusesAs}
use Rattle.fl_rlc.specs.Refusal.{RefusedSame, put_refusal}
use Rattle.fl_rlc.specs.Table.{is_running, table_in}
use Rattle.fl_table.specs.Look.{layout_in}
use Rattle.fl_rlc.specs.declared.table.LoggedTable.{LoggedTable}
use Rattle.fl_store.specs.MountsOver.{MountsOver}
use Rattle.fl_store.specs.Tables.{entries_with}
use Rattle.fl_store.specs.declared.tables.BadMount.{BadMount}
use Rattle.fl_store.specs.declared.tables.Entry.{Entry}
use Rattle.fl_store.proofs.TablesChanged.{set-same}
use Rattle.fl_words.specs.Command.{Command, Nothing}
use Rattle.fl_words.specs.Reply as reply
use Rattle.fl_words.specs.Reply.{Reply, text}
use Rattle.fl_queries.specs.Asked.{lacked_column}
use Rattle.fl_queries.specs.ListSays.{EndsRange, ListSays}
use Rattle.fl_queries.specs.LookSays.{Says}
use Rattle.fl_queries.specs.Operators.{columns_by, AreLinesBy}
use Rattle.fl_queries.specs.declared.operators.Operator.{Operator}
use Rattle.fl_queries.specs.declared.operators.Operator.TheVariants.{Select, Project, Aggregate}
use Rattle.fl_session.proofs.RunningPuts.{runs-on}
use Rattle.fl_session.specs.Answer.{IsReached, Refusal}
use Rattle.fl_session.specs.Caused.{Caused, State, state_of, Writes, IsRefused, IsHere, OnTable, IfLacks, Lists, OnlyLooks, PutFails, FlushFails, LoadCounts}
use Rattle.fl_session.specs.Notes.{with_cursor}
use Rattle.fl_session.specs.Operated.{command_by}
use Rattle.fl_session.specs.declared.notes.Notes.{Notes}
use Rattle.fl_session.specs.declared.notes.TableCursor.{TableCursor}

-- a command that is refused
pub refusal-says : (s : State) (name : List ℕ) (said : code.Reply) → Refusal s.entries s.mounted name said → Says (reply_text said) (IsRefused s s name)
refusal-says s name code.TheVariants.NotMounted r = record { reply = reply.NotMounted; said_is = refl; holds = (inl (r, refl), refl) }
refusal-says s name code.TheVariants.NoTable r = record { reply = reply.NoTable; said_is = refl; holds = (inr (r.0, r.1, refl), refl) }
refusal-says s name said r = absurd r

pub on-refusal : (s : State) (name : List ℕ) (Holds : ℕ → Entry → Reply → Type 0) (said : code.Reply) → Refusal s.entries s.mounted name said → Says (reply_text said) (OnTable s s name Holds)
on-refusal s name Holds said r = let x = refusal-says s name said r in record { reply = x.reply; said_is = x.said_is; holds = inl x.holds }

-- a reply that was written
pub says-written : (E : Type 0) (told told_now : Option (List ℕ)) (result : Result (Unit {0}) E) (said : List ℕ) (Holds : Reply → Type 0) → Says said Holds → Written told told_now result said → Writes told told_now result Holds
says-written E told told_now result said Holds x wrote = record { reply = x.reply; written = subst (λ (bytes : List ℕ). Written told told_now result bytes) x.said_is wrote; holds = x.holds }

-- a line that is no command
pub caused-nothing : (E : Type 0) (command : Command) (old new : State) (told : Option (List ℕ)) → command ≡ Nothing → new ≡ old → Caused {E = E} command old new told told (Ok tt)
caused-nothing E command old new told is same = subst (λ (x : Command). Caused {E = E} x old new told told (Ok tt)) (sym is) (appends-none told, same)

-- a table that is looked at
pub only-looks : (entries : List Entry) (mounted : Bool) (a b c : Notes) (f g : FlashState) → b ≡ c → OnlyReads f g → OnlyLooks (state_of entries mounted a f) (state_of entries mounted b g) c
only-looks entries mounted a b c f g noted reads = record { entries = refl; mounted = refl; notes_are = noted; reads = reads }

-- other notes alone
pub noted : (entries : List Entry) (mounted : Bool) (a b : Notes) (f : FlashState) → a ≡ b → state_of entries mounted a f ≡ state_of entries mounted b f
noted entries mounted a b f same = ap (λ (notes : Notes). state_of entries mounted notes f) same

pub is-here : (s : State) (name : List ℕ) (at : ℕ) (entry : Entry) → IsReached s.entries s.mounted name at → slice_get s.entries at ≡ Some entry → IsHere s name at entry
is-here s name at entry reached here = record { reached = reached; here = here }

-- an operator was caused where its columns are there, and where one isn't
pub caused-by : {E : Type 0} (operator : Operator) (old new : State) (name : List ℕ) (range : KeyRange) (told told_now : Option (List ℕ)) (result : Result (Unit {0}) E) →
    Lists old new name told told_now result (λ entry. IfLacks old new range (AreLinesBy operator range) entry told told_now result (lacked_column (layout_in (table_in entry.table)) (columns_by operator))) → Caused (command_by operator name range) old new told told_now result
caused-by (Select comparison) old new name range told told_now result h = h
caused-by (Project columns) old new name range told told_now result h = h
caused-by (Aggregate column width) old new name range told told_now result h = h

module _ (E : Type 0) (old new : State) (range : KeyRange) (AreLines : List Reply → Type 0) (entry : Entry) (told told_now : Option (List ℕ)) (result : Result (Unit {0}) E) (o : Option ℕ) where
  pub lacks-says : (column : ℕ) → o ≡ Some column → new ≡ old → Written told told_now result (text (reply.NoColumn column)) → IfLacks old new range AreLines entry told told_now result o
  lacks-says column lacks same wrote = subst (λ (x : Option ℕ). IfLacks old new range AreLines entry told told_now result x) (sym lacks) (record { reply = reply.NoColumn column; written = wrote; holds = (refl, same) })

  pub has-says : o ≡ None → OnlyLooks old new old.notes × ListSays AreLines (EndsRange range (table_in entry.table) old.flash new.flash) told told_now result → IfLacks old new range AreLines entry told told_now result o
  has-says none both = subst (λ (x : Option ℕ). IfLacks old new range AreLines entry told told_now result x) (sym none) both

-- a cursor that isn't open, and one that is
pub closed-as : (cursors : List (Option TableCursor)) (n : ℕ) (o : Option TableCursor) → slice_get cursors n ≡ Some o → is_none o ≡ true → slice_get cursors n ≡ Some None
closed-as cursors n None there none = there
closed-as cursors n (Some held) there none = absurd (cc none)

pub open-as : (cursors : List (Option TableCursor)) (n : ℕ) (o : Option TableCursor) → slice_get cursors n ≡ Some o → is_none o ≡ false → (held : TableCursor) × (slice_get cursors n ≡ Some (Some held))
open-as cursors n None there some = absurd (cc some)
open-as cursors n (Some held) there some = (held, there)

-- the table that is reached
pub reached-entry : (entries : List Entry) (mounted : Bool) (name : List ℕ) (at : ℕ) → IsReached entries mounted name at → (entry : Entry) × (slice_get entries at ≡ Some entry)
reached-entry entries mounted name at r = (r.named.entry, r.named.here)

-- a cursor that was opened
pub opened : (entries : List Entry) (mounted : Bool) (old new : Notes) (f : FlashState) (n at : ℕ) (mark on : Bookmark) → new ≡ with_cursor old n (Some (record { table = at; mark = mark })) → mark ≡ on →
    state_of entries mounted new f ≡ record (state_of entries mounted old f) { notes = with_cursor old n (Some (record { table = at; mark = on })) }
opened entries mounted old new f n at mark on set is =
    noted entries mounted new (with_cursor old n (Some (record { table = at; mark = on }))) f (set ∙ ap (λ (m : Bookmark). with_cursor old n (Some (record { table = at; mark = m }))) is)

-- a state with the same table, flash and notes
pub kept-state : (s : State) (at : ℕ) (entry : Entry) (t : LoggedTable 64 64) (b : Bool) (g : FlashState) → slice_get s.entries at ≡ Some entry → t ≡ entry.table → b ≡ s.mounted → g ≡ s.flash →
    state_of (entries_with s.entries at entry t) b s.notes g ≡ s
kept-state s at entry t b g here same still kept =
    ap (λ (u : LoggedTable 64 64). state_of (entries_with s.entries at entry u) b s.notes g) same
    ∙ (ap (λ (es : List Entry). state_of es b s.notes g) (set-same s.entries at entry here)
    ∙ (ap (λ (c : Bool). state_of s.entries c s.notes g) still ∙ ap (λ (x : FlashState). state_of s.entries s.mounted s.notes x) kept))

-- a mount on the flash of which the power went on
pub mounts-on : (old new : List Entry) (f on g : FlashState) (outcome : Result (Unit {0}) BadMount) → on ≡ f → MountsOver old new on outcome g → MountsOver old new f outcome g
mounts-on old new f on g outcome same h = subst (λ (x : FlashState). MountsOver old new x outcome g) same h

-- a put that fails
put-fails : (s : State) (at : ℕ) (entry : Entry) (t : LoggedTable 64 64) (g : FlashState) (e : PutRefusal) → slice_get s.entries at ≡ Some entry → s.mounted ≡ true → (e ≡ put.Stopped → ⊥) →
    RefusedSame entry.table s.flash e t g → PutCausedBy s.flash e g → PutFails s (state_of (entries_with s.entries at entry t) (not (put_breaks (Err e))) s.notes g) e
put-fails s at entry t g (put.Flash fault) here up runs same cause = cause
put-fails s at entry t g (put.Key last) here up runs same cause = kept-state s at entry t true g here same.0 (sym up) same.1
put-fails s at entry t g (put.Columns count) here up runs same cause = kept-state s at entry t true g here same.0 (sym up) same.1
put-fails s at entry t g (put.Value column) here up runs same cause = kept-state s at entry t true g here same.0 (sym up) same.1
put-fails s at entry t g (put.Blob limit) here up runs same cause = kept-state s at entry t true g here same.0 (sym up) same.1
put-fails s at entry t g put.Spent here up runs same cause = kept-state s at entry t true g here same.0 (sym up) same.1
put-fails s at entry t g put.Stopped here up runs same cause = runs refl

pub put-fails-so : (s : State) (at : ℕ) (entry : Entry) (t : LoggedTable 64 64) (g : FlashState) (key : ℕ) (values : List ℤ) (blob : Option ℕ) (outcome : Result (Unit {0}) PutRefusal) → slice_get s.entries at ≡ Some entry → s.mounted ≡ true → is_running entry.table ≡ true →
    RefusesAs (put_refusal entry.table key values blob) outcome →
    IfErr outcome (λ e. RefusedSame entry.table s.flash e t g) → IfErr outcome (λ e. PutCausedBy s.flash e g) → IfErr outcome (PutFails s (state_of (entries_with s.entries at entry t) (not (put_breaks outcome)) s.notes g))
put-fails-so s at entry t g key values blob (Ok done) here up runs exact same cause = tt
put-fails-so s at entry t g key values blob (Err e) here up runs exact same cause =
    put-fails s at entry t g e here up (λ is. runs-on entry.table key values blob runs (subst (λ (r : PutRefusal). RefusesAs (put_refusal entry.table key values blob) (Err r)) is exact)) same cause

-- a flush that fails
pub flush-fails : (f g : FlashState) (running : Bool) (outcome : Result (Unit {0}) FlushFault) → running ≡ true → ((outcome ≡ Err flush.Stopped) ↔ (running ≡ false)) → IfErr outcome (λ e. FlushCausedBy f e g) → IfErr outcome (FlushFails f g)
flush-fails f g running (Ok done) runs exact cause = tt
flush-fails f g running (Err (flush.Flash fault)) runs exact cause = cause
flush-fails f g running (Err flush.Stopped) runs exact cause = absurd (let off = exact.0 refl in cc (runs, off))

-- a load that stops
pub load-counts : (asked count : ℕ) (outcome : Result (Unit {0}) PutRefusal) → is_err outcome ≡ true → count < asked → LoadCounts asked count outcome
load-counts asked count (Ok done) is below = absurd (cc is)
load-counts asked count (Err e) is below = below

-- .. and one that doesn't
pub when-ok : (P : Type 0) (outcome : Result (Unit {0}) PutRefusal) → is_err outcome ≡ false → OnOk outcome P → P
when-ok P (Ok done) is p = p
when-ok P (Err e) is p = absurd (cc is)

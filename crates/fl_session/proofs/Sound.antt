-- What holds of a session always.
use Rattle.std.proofs.Common.{◌≡◌, ℕ, ◌<◌, ◌⊎◌, inl, inr, Bool, true, false, not, ◌&&◌, Option, Some, Result, Ok, Err, IfErr, List, length, set, refl, sym, ◌∙◌, ap, subst, ◌↔◌, is_ok, OnOk, slice_get, eqb, length-set}
use Rattle.std.proofs.lemmas.Bool.Decides.{eqb_tells}
use Rattle.std.proofs.lemmas.Bool.{false≢true}
use Rattle.fl_base.specs.declared.types.Geometry.{Geometry}
use Rattle.fl_flash.specs.Flash.{FlashState, Goes}
use Rattle.fl_flash.specs.declared.armed.Armed.{Armed}
use Rattle.fl_rlc.specs.Refusal.{RefusedSame}
use Rattle.fl_frame.proofs.CallsInTurn.{goes-on, goes-then, stays-set}
use Rattle.fl_rlc.specs.Table.{LiesOn, is_running}
use Rattle.fl_rlc.specs.declared.table.LoggedTable.{LoggedTable}
use Rattle.fl_table.specs.Causes.{flush_breaks, put_breaks}
use Rattle.fl_table.specs.declared.faults.FlushFault.{FlushFault}
use Rattle.fl_table.specs.declared.faults.FlushFault.TheVariants as flush
use Rattle.fl_table.specs.declared.faults.PutRefusal.{PutRefusal}
use Rattle.fl_table.specs.declared.faults.PutRefusal.TheVariants as put
use Rattle.fl_store.specs.Tables.{AreRunning, LieOn, entries_with}
use Rattle.fl_store.specs.declared.tables.BadMount.{BadMount}
use Rattle.fl_store.specs.declared.tables.Entry.{Entry}
use Rattle.fl_store.proofs.TablesLie.{lie-on, lie-with, running-with}
use Rattle.fl_store.proofs.TablesChanged.{set-here, set-elsewhere}
use Rattle.fl_queries.specs.Room.{AreForgotten, HasRooms}
use Rattle.fl_session.specs.Standing.{IsSound}
use Rattle.fl_queries.specs.declared.buffers.Buffers.{Buffers}
use Rattle.fl_session.specs.declared.notes.Notes.{Notes}
use Rattle.fl_session.specs.declared.notes.TableCursor.{TableCursor}

-- a session after a call of one of its tables
pub sound-with : (entries : List Entry) (at : ℕ) (entry : Entry) (u : LoggedTable 64 64) (f g : FlashState) (buf buf' : Buffers) (mounted now : Bool) (notes : Notes) → slice_get entries at ≡ Some entry → Goes f g → LiesOn u g → mounted ≡ true → (now ≡ true → is_running u ≡ true) → (now ≡ true → g.is_on ≡ true) →
    length buf'.rows.bytes ≡ length buf.rows.bytes → length buf'.index.bytes ≡ length buf.index.bytes →
    (length buf'.right_rows.bytes ≡ length buf.right_rows.bytes) × (length buf'.right_index.bytes ≡ length buf.right_index.bytes) →
    (now ≡ false → AreForgotten buf') → IsSound entries f buf mounted notes → IsSound (entries_with entries at entry u) g buf' now notes
sound-with entries at entry u f g buf buf' mounted now notes here goes own on running power rows index right forgotten s = record {
  lie = lie-with entries at entry u f g here goes s.lie own;
  room = subst (λ (x : Geometry). HasRooms buf' x.page) (sym goes.geometry) (rows ∙ s.room.0, index ∙ s.room.1, right.0 ∙ s.room.2, right.1 ∙ s.room.3);
  running = λ is. running-with entries at entry u here (s.running on) (running is);
  power = power;
  forgotten = forgotten;
  cursors = λ i c e. subst (λ n. c.table < n) (sym (length-set entries at (record { name = entry.name; table = u }))) (s.cursors i c e);
}

-- whether it runs after the call
pub runs-after : (old new breaks said : Bool) → old ≡ true → new ≡ (old && not breaks) → said ≡ breaks → not said ≡ true → new ≡ true
runs-after old new breaks said o e s n = e ∙ (ap (λ b. b && not breaks) o ∙ (ap not (sym s) ∙ n))

-- .. and whether the power is on then: a fault of the flash breaks it off, and any other refusal leaves the flash as it is
pub put-stays : (t u : LoggedTable 64 64) (f g : FlashState) → Goes f g → (outcome : Result (Unit {0}) PutRefusal) → OnOk outcome (f.is_on ≡ true → g.is_on ≡ true) → IfErr outcome (λ e. RefusedSame t f e u g) → put_breaks outcome ≡ false → f.is_on ≡ true → g.is_on ≡ true
put-stays t u f g all (Ok done) power same goes on = power on
put-stays t u f g all (Err (put.Flash fault)) power same goes on = absurd (false≢true (sym goes))
put-stays t u f g all (Err (put.Key last)) power same goes on = ap (λ (x : FlashState). x.is_on) same.1 ∙ on
put-stays t u f g all (Err (put.Columns count)) power same goes on = ap (λ (x : FlashState). x.is_on) same.1 ∙ on
put-stays t u f g all (Err (put.Value column)) power same goes on = ap (λ (x : FlashState). x.is_on) same.1 ∙ on
put-stays t u f g all (Err (put.Blob limit)) power same goes on = ap (λ (x : FlashState). x.is_on) same.1 ∙ on
put-stays t u f g all (Err put.Spent) power same goes on = ap (λ (x : FlashState). x.is_on) same.1 ∙ on
put-stays t u f g all (Err put.Stopped) power same goes on = ap (λ (x : FlashState). x.is_on) same.1 ∙ on

pub flush-stays : (f g : FlashState) (running : Bool) → Goes f g → (outcome : Result (Unit {0}) FlushFault) → running ≡ true → ((outcome ≡ Err flush.Stopped) ↔ (running ≡ false)) → OnOk outcome (f.is_on ≡ true → g.is_on ≡ true) → flush_breaks outcome ≡ false → f.is_on ≡ true → g.is_on ≡ true
flush-stays f g running all (Ok done) runs exact power goes on = power on
flush-stays f g running all (Err (flush.Flash fault)) runs exact power goes on = absurd (false≢true (sym goes))
flush-stays f g running all (Err flush.Stopped) runs exact power goes on = absurd (false≢true (sym (exact.0 refl) ∙ runs))

pub stays-on : (said breaks : Bool) (f g : FlashState) → Goes f g → said ≡ breaks → (breaks ≡ false → f.is_on ≡ true → g.is_on ≡ true) → f.is_on ≡ true → not said ≡ true → g.is_on ≡ true
stays-on true breaks f g all is stays on n = absurd (false≢true n)
stays-on false breaks f g all is stays on n = stays (sym is) on

-- .. and after a mount
when-mounted : (P : Type 0) (outcome : Result (Unit {0}) BadMount) (now : Bool) → now ≡ is_ok outcome → OnOk outcome P → now ≡ true → P
when-mounted P (Ok done) now is h mounts = h
when-mounted P (Err bad) now is h mounts = absurd (false≢true (sym is ∙ mounts))

-- what a mount leaves of the flash, whose power it switches on first
pub goes-mounted : (f on g : FlashState) → on ≡ record f { is_on = true } → Goes on g → Goes f g
goes-mounted f on g up goes = goes-then f on g (subst (λ (x : FlashState). Goes f x) (sym up) (goes-on f)) goes

pub sound-mounted : (entries entries' : List Entry) (f on g : FlashState) (buf buf' : Buffers) (mounted now : Bool) (notes notes' : Notes) (outcome : Result (Unit {0}) BadMount) → on ≡ record f { is_on = true } → Goes on g → LieOn entries' g → now ≡ is_ok outcome →
    OnOk outcome (AreRunning entries') → OnOk outcome (on.is_on ≡ true → g.is_on ≡ true) → length buf'.rows.bytes ≡ length buf.rows.bytes → length buf'.index.bytes ≡ length buf.index.bytes →
    (length buf'.right_rows.bytes ≡ length buf.right_rows.bytes) × (length buf'.right_index.bytes ≡ length buf.right_index.bytes) → (now ≡ false → AreForgotten buf') →
    ((i : ℕ) (c : TableCursor) → slice_get notes'.cursors i ≡ Some (Some c) → ⊥) → IsSound entries f buf mounted notes → IsSound entries' g buf' now notes'
sound-mounted entries entries' f on g buf buf' mounted now notes notes' outcome up goes lie is running power rows index right forgotten closed s = record {
  lie = lie;
  room = subst (λ (x : Geometry). HasRooms buf' x.page) (sym (goes.geometry ∙ ap (λ (x : FlashState). x.geometry) up)) (rows ∙ s.room.0, index ∙ s.room.1, right.0 ∙ s.room.2, right.1 ∙ s.room.3);
  running = when-mounted (AreRunning entries') outcome now is running;
  power = λ mounts. when-mounted (on.is_on ≡ true → g.is_on ≡ true) outcome now is power mounts (ap (λ (x : FlashState). x.is_on) up);
  forgotten = forgotten;
  cursors = λ i c e. absurd (closed i c e);
}

-- .. and after reads, with other buffers
pub sound-read : (entries : List Entry) (f g : FlashState) (buf buf' : Buffers) (mounted : Bool) (notes notes' : Notes) → Goes f g → g.is_on ≡ f.is_on → length buf'.rows.bytes ≡ length buf.rows.bytes → length buf'.index.bytes ≡ length buf.index.bytes →
    (length buf'.right_rows.bytes ≡ length buf.right_rows.bytes) × (length buf'.right_index.bytes ≡ length buf.right_index.bytes) →
    ((i : ℕ) (c : TableCursor) → slice_get notes'.cursors i ≡ Some (Some c) → c.table < length entries) → mounted ≡ true → IsSound entries f buf mounted notes → IsSound entries g buf' mounted notes'
sound-read entries f g buf buf' mounted notes notes' goes still rows index right cursors on s = record {
  lie = lie-on entries f g goes s.lie;
  room = subst (λ (x : Geometry). HasRooms buf' x.page) (sym goes.geometry) (rows ∙ s.room.0, index ∙ s.room.1, right.0 ∙ s.room.2, right.1 ∙ s.room.3);
  running = s.running;
  power = λ is. still ∙ s.power is;
  forgotten = λ off. absurd (false≢true (sym off ∙ on));
  cursors = cursors;
}

pub sound-roomed : (entries : List Entry) (f g : FlashState) (buf buf' : Buffers) (mounted : Bool) (notes : Notes) → Goes f g → g.is_on ≡ f.is_on → HasRooms buf' f.geometry.page → mounted ≡ true → IsSound entries f buf mounted notes → IsSound entries g buf' mounted notes
sound-roomed entries f g buf buf' mounted notes goes still room on s = record {
  lie = lie-on entries f g goes s.lie;
  room = subst (λ (x : Geometry). HasRooms buf' x.page) (sym goes.geometry) room;
  running = s.running;
  power = λ is. still ∙ s.power is;
  forgotten = λ off. absurd (false≢true (sym off ∙ on));
  cursors = s.cursors;
}

-- the cursors that are open, with one that was set
pub cursors-set : (entries : List Entry) (cursors : List (Option TableCursor)) (n : ℕ) (mark : Option TableCursor) → ((i : ℕ) (c : TableCursor) → slice_get cursors i ≡ Some (Some c) → c.table < length entries) →
    ((c : TableCursor) → mark ≡ Some c → c.table < length entries) → (i : ℕ) (c : TableCursor) → slice_get (set cursors n mark) i ≡ Some (Some c) → c.table < length entries
cursors-set entries cursors n mark within own i c e = by-place (eqb_tells n i)
  where
    by-place : ((eqb n i ≡ true) × (n ≡ i)) ⊎ ((eqb n i ≡ false) × (n ≡ i → ⊥)) → c.table < length entries
    by-place (inl is) = own c (set-here cursors n mark (Some c) (subst (λ j. slice_get (set cursors n mark) j ≡ Some (Some c)) (sym is.1) e))
    by-place (inr other) = within i c (sym (set-elsewhere cursors n i mark other.1) ∙ e)

pub sound-off : (entries : List Entry) (f g : FlashState) (buf buf' : Buffers) (mounted : Bool) (notes : Notes) → g ≡ record f { is_on = false } → length buf'.rows.bytes ≡ length buf.rows.bytes → length buf'.index.bytes ≡ length buf.index.bytes →
    (length buf'.right_rows.bytes ≡ length buf.right_rows.bytes) × (length buf'.right_index.bytes ≡ length buf.right_index.bytes) →
    AreForgotten buf' → IsSound entries f buf mounted notes → IsSound entries g buf' false notes
sound-off entries f g buf buf' mounted notes is rows index right forgotten s = rw is (record {
  lie = lie-on entries f (record f { is_on = false }) (stays-set f false f.armed) s.lie;
  room = (rows ∙ s.room.0, index ∙ s.room.1, right.0 ∙ s.room.2, right.1 ∙ s.room.3);
  running = λ on. absurd (false≢true on);
  power = λ on. absurd (false≢true on);
  forgotten = λ off. forgotten;
  cursors = s.cursors;
})

pub sound-cut : (entries : List Entry) (f g : FlashState) (buf : Buffers) (armed : Option Armed) (mounted : Bool) (notes : Notes) → g ≡ record f { armed = armed } → IsSound entries f buf mounted notes → IsSound entries g buf mounted notes
sound-cut entries f g buf armed mounted notes is s = rw is (record {
  lie = lie-on entries f (record f { armed = armed }) (stays-set f f.is_on armed) s.lie;
  room = s.room;
  running = s.running;
  power = s.power;
  forgotten = s.forgotten;
  cursors = s.cursors;
})

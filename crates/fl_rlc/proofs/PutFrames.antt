-- What a put of a table with a log leaves as it was.
use Rattle.std.proofs.Common.{◌≡◌, ℕ, ◌+◌, ◌≤◌, Bool, true, false, is_some, Option, Some, None, Err, List, refl, sym, ◌∙◌, ap, subst, arith}
use Rattle.std.proofs.Math.IntN.{ℤ}
use Rattle.std.proofs.Props.{props}
use Rattle.std.specs.Prelude.{IfSome}
use Rattle.std.specs.Option.{ForSome}
use Rattle.std.proofs.lemmas.Option.{none-some, same_Some}
use Rattle.fl_flash.specs.Flash.{FlashState, StaysWith}
use Rattle.fl_model.specs.Record.{RowLayout, layout_len}
use Rattle.fl_base.specs.declared.types.RingPlace.{RingPlace}
use Rattle.fl_frame.proofs.CallsInTurn.{few-goes}
use Rattle.fl_ring.specs.Place as place
use Rattle.fl_ring.specs.declared.ring.Ring.{Ring}
use Rattle.fl_ring.proofs.Exists.{lies_still}
use Rattle.fl_table.specs.BlobAt.{has_blobs}
use Rattle.fl_table.specs.Causes.{put_breaks}
use Rattle.fl_table.specs.Look.{layout_in}
use Rattle.fl_table.specs.Memory as table_words
use Rattle.fl_parts.specs.Bitmaps.{IsOutside}
use Rattle.fl_parts.proofs.BlobsOfTable.{same-some}
use Rattle.fl_table.specs.Refusal.{or_else, refused_if, RefusesAs, put_refusal as table_refusal}
use Rattle.fl_table.specs.declared.faults.PutRefusal.{PutRefusal}
use Rattle.fl_table.specs.declared.faults.PutRefusal.TheVariants as put
use Rattle.fl_table.specs.declared.table.Table as code
use Rattle.fl_table.proofs.Refusals.{refusal-calm}
use Rattle.fl_rlc.specs.Memory.{is_mounted, page_len, log_shape, LiesOn}
use Rattle.fl_rlc.specs.Refusal.{log_refused, put_refusal, RefusedSame}
use Rattle.fl_rlc.specs.Rows.{StandOutside, AreBegun}
use Rattle.fl_rlc.specs.Table.{AreSameLog}
use Rattle.fl_rlc.specs.declared.log.RecordLog.{RecordLog}
use Rattle.fl_rlc.specs.declared.table.LoggedTable.{LoggedTable}

-- A table with a log is its table and its log: what else it keeps are facts.
pub logged-same : {KNOTS SLOTS : ℕ} (t u : LoggedTable KNOTS SLOTS) → u.table ≡ t.table → u.log ≡ t.log → u ≡ t
logged-same {KNOTS} {SLOTS} t u same same-log = subst (λ x. IsThis x u.log) (sym same) (subst (λ o. IsThis t.table o) (sym same-log) this) u.running u.no_blobs u.room
  where
    Runs : code.Table KNOTS SLOTS → Option RecordLog → Type 0
    Runs x o = ForSome o (λ l. table_words.is_running x ≡ true → is_mounted l ≡ true)

    LacksBlobs : code.Table KNOTS SLOTS → Option RecordLog → Type 0
    LacksBlobs x o = is_some o ≡ true → has_blobs x ≡ false

    HasRoom : code.Table KNOTS SLOTS → Option RecordLog → Type 0
    HasRoom x o = ForSome o (λ l. layout_len (layout_in x) + 24 ≤ page_len l)

    IsThis : code.Table KNOTS SLOTS → Option RecordLog → Type 0
    IsThis x o = (running : Runs x o) (no_blobs : LacksBlobs x o) (room : HasRoom x o) → record { table = x; log = o; running = running; no_blobs = no_blobs; room = room } ≡ t

    this : IsThis t.table t.log
    this = λ running no_blobs room.
        let runs : IsProp (Runs t.table t.log) = hlevel props in
        let lacks : IsProp (LacksBlobs t.table t.log) = hlevel props in
        let has : IsProp (HasRoom t.table t.log) = hlevel props in
        ap (λ k. record { table = t.table; log = t.log; running = k; no_blobs = no_blobs; room = room }) (runs running t.running)
        ∙ (ap (λ k. record { table = t.table; log = t.log; running = t.running; no_blobs = k; room = room }) (lacks no_blobs t.no_blobs)
        ∙ ap (λ k. record { table = t.table; log = t.log; running = t.running; no_blobs = t.no_blobs; room = k }) (has room t.room))

pub log-self : (o : Option RecordLog) → AreSameLog o o
log-self None = tt
log-self (Some l) = record { geometry = refl; place = refl }

-- a log lies on a flash after a call of another
pub log-moved : {Power : Type 0} (l : RecordLog) (f g : FlashState) → StaysWith Power f g → LiesOn l f → LiesOn l g
log-moved l f g goes h = record {
  geometry = goes.geometry ∙ h.geometry;
  within = omega (arith, h.within, goes.blocks);
  few = few-goes f g goes h.few;
  ring = λ ring is. lies_still ring f g (h.ring ring is) goes;
}

pub log-lies : {Power : Type 0} (o : Option RecordLog) (f g : FlashState) → StaysWith Power f g → ForSome o (λ l. LiesOn l f) → ForSome o (λ l. LiesOn l g)
log-lies o f g goes lies = λ l is. log-moved l f g goes (lies l is)

pub blobs-same : {KNOTS SLOTS : ℕ} (t u : code.Table KNOTS SLOTS) → table_words.IsSamePlan t u → has_blobs u ≡ has_blobs t
blobs-same t u same = same-some t.blobs u.blobs same.blobs

-- a row has room in the log's page as before
pub room-same : {KNOTS SLOTS : ℕ} (t u : code.Table KNOTS SLOTS) (a b : Option RecordLog) → table_words.IsSamePlan t u → AreSameLog a b → ForSome a (λ l. layout_len (layout_in t) + 24 ≤ page_len l) → ForSome b (λ l. layout_len (layout_in u) + 24 ≤ page_len l)
room-same t u None None same logs h = λ l is. absurd (none-some l is)
room-same t u None (Some w) same logs h = absurd logs
room-same t u (Some v) None same logs h = absurd logs
room-same t u (Some v) (Some w) same logs h = λ l is.
    subst (λ (x : RecordLog). layout_len (layout_in u) + 24 ≤ page_len x) (same_Some _ _ is)
    (subst (λ (r : RowLayout). layout_len r + 24 ≤ page_len w) (sym same.layout) (let k = h v refl in omega (arith, k, ap (λ g. g.page) logs.geometry)))

-- no refusal is a fault of the flash
pub logged-calm : {KNOTS SLOTS : ℕ} (t : LoggedTable KNOTS SLOTS) (key : ℕ) (values : List ℤ) (blob : Option ℕ) (refusal : PutRefusal) → put_refusal t key values blob ≡ Some refusal → put_breaks (Err refusal) ≡ false
logged-calm t key values blob refusal e = by-first (table_refusal t.table key values blob) refl e
  where
    spent : (b : Bool) → refused_if b put.Spent ≡ Some refusal → put_breaks (Err refusal) ≡ false
    spent true k = subst (λ (r : PutRefusal). put_breaks (Err r) ≡ false) (same_Some _ _ k) refl
    spent false k = cc

    by-log : (o : Option RecordLog) → log_refused o ≡ Some refusal → put_breaks (Err refusal) ≡ false
    by-log None k = cc
    by-log (Some l) k = spent _ k

    by-first : (o : Option PutRefusal) → table_refusal t.table key values blob ≡ o → or_else o (log_refused t.log) ≡ Some refusal → put_breaks (Err refusal) ≡ false
    by-first None is k = by-log t.log k
    by-first (Some r) is k = refusal-calm t.table key values blob refusal (is ∙ k)

pub refused-same : {KNOTS SLOTS : ℕ} (t : LoggedTable KNOTS SLOTS) (f : FlashState) (refusal : PutRefusal) → RefusedSame t f refusal t f
refused-same t f (put.Flash fault) = tt
refused-same t f (put.Key last) = (refl, refl)
refused-same t f (put.Columns wanted) = (refl, refl)
refused-same t f (put.Value column) = (refl, refl)
refused-same t f (put.Blob limit) = (refl, refl)
refused-same t f put.Spent = (refl, refl)
refused-same t f put.Stopped = (refl, refl)

-- an answer that isn't a refusal is a fault of the flash
pub flash-alone : {KNOTS SLOTS : ℕ} (t u : LoggedTable KNOTS SLOTS) (f g : FlashState) (e : PutRefusal) → RefusesAs None (Err e) → RefusedSame t f e u g
flash-alone t u f g (put.Flash fault) h = tt
flash-alone t u f g (put.Key last) h = absurd h
flash-alone t u f g (put.Columns wanted) h = absurd h
flash-alone t u f g (put.Value column) h = absurd h
flash-alone t u f g (put.Blob limit) h = absurd h
flash-alone t u f g put.Spent h = absurd h
flash-alone t u f g put.Stopped h = absurd h

-- a page outside the log's ring stands
pub log-outside : (o : Option RecordLog) (old new : ℕ → List ℕ) (page : ℕ) → StandOutside o old new → IfSome o (λ l. IsOutside (log_shape l) page) → new page ≡ old page
log-outside None old new page h out = h page
log-outside (Some l) old new page h out = h page out

-- there is a log as before
pub some-same : (a b : Option RecordLog) → AreSameLog a b → is_some b ≡ true → is_some a ≡ true
some-same None None same h = h
some-same None (Some w) same h = absurd same
some-same (Some v) None same h = absurd same
some-same (Some v) (Some w) same h = refl

-- a log whose next page has begun anew
pub begun-same : (a b : Option RecordLog) → AreBegun a b → AreSameLog a b
begun-same None b h = subst (λ (o : Option RecordLog). AreSameLog None o) (sym h) tt
begun-same (Some v) None h = absurd h
begun-same (Some v) (Some w) h = h.same

pub begun-lies : (a b : Option RecordLog) (f : FlashState) → AreBegun a b → ForSome a (λ l. LiesOn l f) → ForSome b (λ l. LiesOn l f)
begun-lies None b f h lies = λ l is. absurd (none-some l (sym h ∙ is))
begun-lies (Some v) None f h lies = absurd h
begun-lies (Some v) (Some w) f h lies = λ l is. subst (λ (x : RecordLog). LiesOn x f) (same_Some _ _ is) (moved (lies v refl))
  where
    moved : LiesOn v f → LiesOn w f
    moved k = record {
      geometry = k.geometry ∙ sym h.same.geometry;
      within = subst (λ (p : RingPlace). p.first_block + p.blocks ≤ f.blocks) (sym h.same.place) k.within;
      few = k.few;
      ring = subst (λ (o : Option Ring). ForSome o (λ r. place.LiesOn r f)) (sym h.ring) k.ring;
    }

pub begun-mounted : (a b : Option RecordLog) (B : Type 0) → AreBegun a b → ForSome a (λ l. B → is_mounted l ≡ true) → ForSome b (λ l. B → is_mounted l ≡ true)
begun-mounted None b B h k = λ l is. absurd (none-some l (sym h ∙ is))
begun-mounted (Some v) None B h k = absurd h
begun-mounted (Some v) (Some w) B h k = λ l is up. subst (λ (x : RecordLog). is_mounted x ≡ true) (same_Some _ _ is) (ap (λ (o : Option Ring). is_some o) h.ring ∙ k v refl up)

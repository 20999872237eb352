-- What seals of a table's rings in turn leave of the rings and of their flash.
use Rattle.std.proofs.Common.{◌≡◌, ℕ, ◌+◌, ◌≤◌, true, IsTrue, Option, Some, Result, Ok, Err, OnOk, IfErr, refl, List, length, inl, inr, sym, ◌∙◌, ap, subst, arith}
use Rattle.std.proofs.lemmas.Result.{IfErr-weaker}
use Rattle.fl_flash.specs.Flash.{FlashState, OffChangesNothing, page_at}
use Rattle.fl_flash.specs.declared.flash.FlashFault.{FlashFault}
use Rattle.fl_frame.specs.Causes.{CausedBy}
use Rattle.fl_frame.proofs.CallsInTurn.{goes-same, goes-then}
use Rattle.fl_frame.proofs.WatchedInTurn.{cause-later}
use Rattle.fl_index.proofs.SealAnswers.{seal-on}
use Rattle.fl_index.specs.declared.index.BitmapIndex.{BitmapIndex}
use Rattle.fl_model.specs.Layout.{rows_body}
use Rattle.fl_model.specs.Record.{RowLayout}
use Rattle.fl_model.specs.Row.{Row}
use Rattle.fl_model.specs.Table.{spent_from}
use Rattle.fl_page.specs.Writer.{Gathers}
use Rattle.fl_parts.proofs.BlobsOfTable as blobbing
use Rattle.fl_parts.proofs.CallsOff.{off-then}
use Rattle.fl_parts.proofs.IndexOfTable.{broken-after, lies-goes, made-after}
use Rattle.fl_parts.proofs.Untouched.{on-ok}
use Rattle.fl_parts.specs.Bitmaps as bitmaps
use Rattle.fl_parts.specs.Blobs as variable
use Rattle.fl_ring.proofs.Written.{writes-none, writes-then, writes-wider}
use Rattle.fl_ring.specs.Place.{next_of, shape_of}
use Rattle.fl_ring.specs.Ring as rings
use Rattle.fl_ring.specs.Ring.{Shape}
use Rattle.fl_ring.specs.Sealed.{oldest_goes}
use Rattle.fl_ring.specs.Sealing.{SealCalls}
use Rattle.fl_ring.specs.Written as ring_written
use Rattle.fl_ring.specs.Written.{Writes, MaySealIn, done}
use Rattle.fl_ring.specs.declared.ring.Ring.{Ring}
use Rattle.fl_parts.proofs.Outsides.{stand-outside, var-outside}
use Rattle.fl_parts.specs.Calls.{Changes}
use Rattle.fl_table.specs.Memory.{MaySeal}
use Rattle.fl_table.specs.Mounting.{rings_in, OutsideStands}
use Rattle.fl_table.specs.Sealing.{ReachesRows, SealsBytes, SealsEntries, SealsInTurn, SealsRows}
use Rattle.fl_table.specs.declared.table.Table.{Table}
use Rattle.fl_var.specs.declared.var_data.VarData.{VarData}

-- the pending rows of a table make this body, for the next page of its ring
abbrev pub RowsMake : {KNOTS SLOTS : ℕ} → Table KNOTS SLOTS → Ring → List ℕ → Type 0
RowsMake t ring body = (layout : RowLayout) (rows : List Row) → Gathers layout rows t.writer → body ≡ rows_body (length t.writer.body) layout (next_of ring) t.bitmap rows

-- the seal of the rows was tried
pub reaches-in-turn : (index : Option BitmapIndex) (blobs : Option VarData) (ring : Ring) (body : List ℕ) (old : FlashState) (result : Result (Unit {0}) FlashFault) (listed : Option BitmapIndex) (rest : Option VarData) (now : Ring) (new : FlashState) →
    ReachesRows index blobs ring body old result listed rest now new → SealsInTurn index blobs ring body old result listed rest now new
reaches-in-turn index blobs ring body old (Ok u) listed rest now new h = h
reaches-in-turn index blobs ring body old (Err fault) listed rest now new h = inr (inr h)

-- what changes nothing
pub changes-none : {KNOTS SLOTS : ℕ} {E : Type 0} (t : Table KNOTS SLOTS) (May : ℕ → Type 0) (most : ℕ) (Caused : FlashState → E → FlashState → Type 0) (f : FlashState) (result : Result (Unit {0}) E) → IfErr result (λ e. Caused f e f) → Changes May (OutsideStands t) most Caused f result f
changes-none {KNOTS} {SLOTS} {E} t May most Caused f result cause = record {
  goes = goes-same f;
  power = on result;
  writes = writes-none May most f;
  outside = λ told page rows index blobs. refl;
  reads = refl;
  media_reads = omega arith;
  cause = cause;
}
  where
    on : (result : Result (Unit {0}) E) → OnOk result (f.is_on ≡ true → f.is_on ≡ true)
    on (Ok u) = λ is. is
    on (Err e) = tt

-- a call does what one does in it, with another fault
module _ {D E : Type 0} (May : ℕ → Type 0) (Outside : (ℕ → List ℕ) → (ℕ → List ℕ) → Type 0) (most : ℕ) (Caused : FlashState → D → FlashState → Type 0) (Causes : FlashState → E → FlashState → Type 0) (old new : FlashState) where
  pub changes-failed : (fault : D) (refusal : E) → (Caused old fault new → Causes old refusal new) → Changes May Outside most Caused old (Err fault) new → Changes May Outside most Causes old (Err refusal) new
  changes-failed fault refusal same h = record { goes = h.goes; power = tt; writes = h.writes; outside = h.outside; reads = h.reads; media_reads = h.media_reads; cause = same h.cause }

  pub changes-done : Changes May Outside most Caused old (Ok tt) new → Changes May Outside most Causes old (Ok tt) new
  changes-done h = record { goes = h.goes; power = h.power; writes = h.writes; outside = h.outside; reads = h.reads; media_reads = h.media_reads; cause = tt }

-- what changes fewer pages changes no more of others
changes-wider : (May Might : ℕ → Type 0) (Outside Around : (ℕ → List ℕ) → (ℕ → List ℕ) → Type 0) (most many : ℕ) (old : FlashState) (result : Result (Unit {0}) FlashFault) (new : FlashState) → ((page : ℕ) → May page → Might page) → ((a b : ℕ → List ℕ) → Outside a b → Around a b) → most ≤ many →
    Changes May Outside most CausedBy old result new → Changes Might Around many CausedBy old result new
changes-wider May Might Outside Around most many old result new may around le h = record {
  goes = h.goes;
  power = h.power;
  writes = writes-wider May Might 0 0 most many old new may (omega arith) le h.writes;
  outside = λ told. around (page_at old) (page_at new) (h.outside told);
  reads = h.reads;
  media_reads = omega (arith, le, h.media_reads);
  cause = h.cause;
}

module _ {KNOTS SLOTS : ℕ} (t : Table KNOTS SLOTS) where
  -- one after another
  changes-then : (a b : ℕ) (old mid : FlashState) (result : Result (Unit {0}) FlashFault) (new : FlashState) → Changes (MaySeal t) (OutsideStands t) a CausedBy old (Ok tt) mid → Changes (MaySeal t) (OutsideStands t) b CausedBy mid result new →
      Changes (MaySeal t) (OutsideStands t) (a + b) CausedBy old result new
  changes-then a b old mid result new h k = record {
    goes = goes-then old mid new h.goes k.goes;
    power = on-ok result (mid.is_on ≡ true → new.is_on ≡ true) (old.is_on ≡ true → new.is_on ≡ true) (λ on was. on (h.power was)) k.power;
    writes = writes-then (MaySeal t) 0 a 0 b old mid new h.goes.tells h.writes k.writes;
    outside = λ told page rows index blobs. k.outside (subst IsTrue (sym h.goes.tells) told) page rows index blobs ∙ h.outside told page rows index blobs;
    reads = k.reads ∙ h.reads;
    media_reads = omega (arith, h.media_reads, k.media_reads);
    cause = IfErr-weaker result _ _ (λ e caused. cause-later old mid new h.goes h.power e caused) k.cause;
  }

  entries-change : (old : FlashState) (result : Result (Unit {0}) FlashFault) (now : Option BitmapIndex) (new : FlashState) → SealsEntries t.bitmaps old result now new → Changes (MaySeal t) (OutsideStands t) (bitmaps.rings_of t.bitmaps) CausedBy old result new
  entries-change old result now new h =
      let most = bitmaps.rings_of t.bitmaps in
      changes-wider (bitmaps.MaySeal t.bitmaps) (MaySeal t) (bitmaps.StandOutside t.bitmaps) (OutsideStands t) most most old result new (λ page may. inr (inl may)) (λ a b stands page rows index blobs. stand-outside t.bitmaps a b page stands index) (omega arith) h.flash

  bytes-change : (old : FlashState) (result : Result (Unit {0}) FlashFault) (now : Option VarData) (new : FlashState) → SealsBytes t.blobs old result now new → Changes (MaySeal t) (OutsideStands t) (variable.rings_of t.blobs) CausedBy old result new
  bytes-change old result now new h =
      let most = variable.rings_of t.blobs in
      changes-wider (variable.MaySeal t.blobs) (MaySeal t) (variable.StandOutside t.blobs) (OutsideStands t) most most old result new (λ page may. inr (inr may)) (λ a b stands page rows index blobs. var-outside t.blobs a b page stands blobs) (omega arith) h.flash

module _ {KNOTS SLOTS : ℕ} (t : Table KNOTS SLOTS) (ring : Ring) (has : t.ring ≡ Some ring) (body : List ℕ) where
  rows-write : (old : FlashState) (result : Result (Unit {0}) FlashFault) (now : Ring) (new : FlashState) → SealsRows ring body old result now new → Writes (MaySeal t) (done result) 1 old new
  rows-write old result now new h =
      writes-wider (ring_written.MaySeal ring) (MaySeal t) (done result) (done result) 1 1 old new (λ page may. inl (subst (λ (o : Option Ring). MaySealIn o page) (sym has) may)) (omega arith) (omega arith) h.flash.writes

  rows-change : (old : FlashState) (result : Result (Unit {0}) FlashFault) (now : Ring) (new : FlashState) → SealsRows ring body old result now new → Changes (MaySeal t) (OutsideStands t) 1 CausedBy old result new
  rows-change old result now new h = record {
    goes = h.flash.goes;
    power = on result h.flash.calls;
    writes = writes-wider (MaySeal t) (MaySeal t) (done result) 0 1 1 old new (λ page may. may) (omega arith) (omega arith) (rows-write old result now new h);
    outside = λ told page out index blobs. subst (λ (r : Shape). rings.OutsideStands r (page_at old) (page_at new)) (t.lies ring has) (h.flash.outside told) page out;
    reads = h.flash.reads;
    media_reads = h.flash.media_reads;
    cause = h.flash.cause;
  }
    where
      on : (result : Result (Unit {0}) FlashFault) → SealCalls (shape_of ring) (next_of ring) (oldest_goes ring) body old result new → OnOk result (old.is_on ≡ true → new.is_on ≡ true)
      on (Ok u) calls = λ was. seal-on (shape_of ring) (next_of ring) (oldest_goes ring) body u old new calls
      on (Err e) calls = tt

  module _ (old : FlashState) (listed : Option BitmapIndex) (rest : Option VarData) (now : Ring) (new : FlashState) where
    -- the index and the bytes of blobs first
    front-change : (result : Result (Unit {0}) FlashFault) (h : ReachesRows t.bitmaps t.blobs ring body old result listed rest now new) → Changes (MaySeal t) (OutsideStands t) (bitmaps.rings_of t.bitmaps + variable.rings_of t.blobs) CausedBy old (Ok tt) h.then
    front-change result h =
        changes-then t (bitmaps.rings_of t.bitmaps) (variable.rings_of t.blobs) old h.first (Ok tt) h.then (entries-change t old (Ok tt) listed h.first h.entries) (bytes-change t h.first (Ok tt) rest h.then h.bytes)

    reached-change : (result : Result (Unit {0}) FlashFault) → ReachesRows t.bitmaps t.blobs ring body old result listed rest now new → Changes (MaySeal t) (OutsideStands t) (rings_in t) CausedBy old result new
    reached-change result h = changes-then t (bitmaps.rings_of t.bitmaps + variable.rings_of t.blobs) 1 old h.then result new (front-change result h) (rows-change h.then result now new h.rows)

    fewer : (most : ℕ) (fault : FlashFault) → most ≤ rings_in t → Changes (MaySeal t) (OutsideStands t) most CausedBy old (Err fault) new → Changes (MaySeal t) (OutsideStands t) (rings_in t) CausedBy old (Err fault) new
    fewer most fault le h = changes-wider (MaySeal t) (MaySeal t) (OutsideStands t) (OutsideStands t) most (rings_in t) old (Err fault) new (λ page may. may) (λ a b stands. stands) le h

    pub rings-change : (result : Result (Unit {0}) FlashFault) → SealsInTurn t.bitmaps t.blobs ring body old result listed rest now new → Changes (MaySeal t) (OutsideStands t) (rings_in t) CausedBy old result new
    rings-change (Ok u) h = reached-change (Ok u) h
    rings-change (Err fault) (inl h) = fewer (bitmaps.rings_of t.bitmaps) fault (omega arith) (entries-change t old (Err fault) listed new h.0)
    rings-change (Err fault) (inr (inl h)) = fewer (bitmaps.rings_of t.bitmaps + variable.rings_of t.blobs) fault (omega arith)
        (changes-then t (bitmaps.rings_of t.bitmaps) (variable.rings_of t.blobs) old h.first (Err fault) new (entries-change t old (Ok tt) listed h.first h.entries) (bytes-change t h.first (Err fault) rest new h.bytes))
    rings-change (Err fault) (inr (inr h)) = reached-change (Err fault) h

    -- after an Ok the seal of the rows was whole
    pub rings-write : (h : ReachesRows t.bitmaps t.blobs ring body old (Ok tt) listed rest now new) → Writes (MaySeal t) 1 (rings_in t) old new
    rings-write h =
        let front = front-change (Ok tt) h in
        writes-then (MaySeal t) 0 (bitmaps.rings_of t.bitmaps + variable.rings_of t.blobs) 1 1 old h.then new front.goes.tells front.writes (rows-write h.then (Ok tt) now new h.rows)

    -- with the power off the first call that needs it fails
    reached-off : (result : Result (Unit {0}) FlashFault) → ReachesRows t.bitmaps t.blobs ring body old result listed rest now new → OffChangesNothing old result new
    reached-off result h = off-then {T = Unit {0}} old h.first new tt result h.entries.off (off-then {T = Unit {0}} h.first h.then new tt result h.bytes.off h.rows.flash.off)

    pub rings-off : (result : Result (Unit {0}) FlashFault) → SealsInTurn t.bitmaps t.blobs ring body old result listed rest now new → OffChangesNothing old result new
    rings-off (Ok u) h = reached-off (Ok u) h
    rings-off (Err fault) (inl h) = λ down. let off = h.0.off down in (ap (λ (e : FlashFault). Err e) off.0, off.1)
    rings-off (Err fault) (inr (inl h)) = off-then {T = Unit {0}} old h.first new tt (Err fault) h.entries.off (λ down. let off = h.bytes.off down in (ap (λ (e : FlashFault). Err e) off.0, off.1))
    rings-off (Err fault) (inr (inr h)) = reached-off (Err fault) h

    -- the rings are those that they were, and lie on the flash that is left
    abbrev pub Stay : Type 0
    Stay = bitmaps.AreSamePlan t.bitmaps listed × variable.AreSamePlan t.blobs rest × bitmaps.LieOn listed new × variable.LieOn rest new

    reached-stay : (result : Result (Unit {0}) FlashFault) → ReachesRows t.bitmaps t.blobs ring body old result listed rest now new → Stay
    reached-stay result h = (
      h.entries.same,
      h.bytes.same,
      lies-goes listed h.then new h.rows.flash.goes (lies-goes listed h.first h.then h.bytes.flash.goes h.entries.lies),
      blobbing.lies-goes rest h.then new h.rows.flash.goes h.bytes.lies,
    )

    pub rings-stay : (result : Result (Unit {0}) FlashFault) → variable.LieOn t.blobs old → SealsInTurn t.bitmaps t.blobs ring body old result listed rest now new → Stay
    rings-stay (Ok u) lies h = reached-stay (Ok u) h
    rings-stay (Err fault) lies (inl h) =
        let still = blobbing.lies-goes t.blobs old new h.0.flash.goes lies in
        (h.0.same, subst (variable.AreSamePlan t.blobs) (sym h.1) (blobbing.plan-same t.blobs), h.0.lies, subst (λ (o : Option VarData). variable.LieOn o new) (sym h.1) still)
    rings-stay (Err fault) lies (inr (inl h)) = (h.entries.same, h.bytes.same, lies-goes listed h.first new h.bytes.flash.goes h.entries.lies, h.bytes.lies)
    rings-stay (Err fault) lies (inr (inr h)) = reached-stay (Err fault) h

    -- the index has numbers left
    pub rings-left : (fault : FlashFault) → bitmaps.next_after t.bitmaps ≤ spent_from + 1 → SealsInTurn t.bitmaps t.blobs ring body old (Err fault) listed rest now new → bitmaps.next_after listed ≤ spent_from + 1
    rings-left fault left (inl h) = let k = broken-after listed h.0.broken in omega (arith, k)
    rings-left fault left (inr (inl h)) = omega (arith, made-after t.bitmaps listed h.entries.made, left)
    rings-left fault left (inr (inr h)) = omega (arith, made-after t.bitmaps listed h.entries.made, left)

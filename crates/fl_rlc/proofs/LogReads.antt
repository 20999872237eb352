-- How many reads the mount of a log makes, and where its newest page stands in memory.
use Rattle.std.proofs.Common.{◌≡◌, ℕ, ◌+◌, ◌*◌, ◌≤◌, Bool, true, false, cond, [], Option, Some, None, is_some, Result, Ok, Err, length, refl, sym, ◌∙◌, ap, subst, arith, IsTrue}
use Rattle.std.specs.Prelude.{IfErr, OnOk}
use Rattle.std.proofs.Math.Nat.{mul-le-mul_left, mul-le-mul_right}
use Rattle.fl_flash.specs.Buffer.{BufferState}
use Rattle.fl_flash.specs.Flash.{FlashState, ReadsPage, page_at}
use Rattle.fl_flash.specs.declared.flash.FlashFault.{FlashFault}
use Rattle.fl_frame.specs.Causes.{ReadFails}
use Rattle.fl_frame.proofs.ReadsInTurn.{was_on}
use Rattle.fl_frame.proofs.SingleReads.{read_fails}
use Rattle.fl_model.specs.Record.{Plan}
use Rattle.fl_model.specs.Table.{Table}
use Rattle.fl_ring.specs.Mounting.{search_reads}
use Rattle.fl_ring.specs.Newest.{NewestAmong}
use Rattle.fl_ring.specs.Place.{next_of, oldest_of}
use Rattle.fl_ring.specs.Ring.{Shape, room, place}
use Rattle.fl_ring.specs.declared.newest.NewestPage.{NewestPage}
use Rattle.fl_table.specs.Mounting.{rings_in}
use Rattle.fl_table.specs.declared.table.Table as code
use Rattle.fl_rlc.specs.Joining.{HasNewest}
use Rattle.fl_rlc.specs.Memory.{log_shape, next_in, oldest_in, IsSamePlan}
use Rattle.fl_rlc.specs.Repairing.{Finds}
use Rattle.fl_rlc.specs.Standing.{HasRing}
use Rattle.fl_rlc.specs.declared.log.RecordLog.{RecordLog}
use Rattle.fl_rlc.proofs.JoinedRow.{same-shape}
use Rattle.fl_rlc.proofs.NewestRows.{newest-none, newest-some}
use Rattle.fl_rlc.proofs.SealsInTable.{next-is, oldest-is}

-- the search, the repairs, the read of the newest page, and one read for each ring that is sealed
pub log-reads : (l : RecordLog) → search_reads (log_shape l) + l.geometry.block + 4 ≤ 4 * room (log_shape l)
log-reads l =
    let B = l.place.blocks in
    let P = l.geometry.block in
    let many : 3 * l.geometry.block ≤ l.place.blocks * l.geometry.block = mul-le-mul_right l.geometry.block l.some_blocks in
    let wide : l.place.blocks * 2 ≤ l.place.blocks * l.geometry.block = mul-le-mul_left l.place.blocks l.served.block_least in
    omega (arith, many, wide, l.served.block_least, l.some_blocks)

pub few-rings : {KNOTS SLOTS : ℕ} (t : code.Table KNOTS SLOTS) → rings_in t ≤ 3
few-rings t = by-rings (is_some t.bitmaps) (is_some t.blobs)
  where
    by-rings : (a b : Bool) → (cond a 1 0) + (cond b 1 0) + 1 ≤ 3
    by-rings true true = omega arith
    by-rings true false = omega arith
    by-rings false true = omega arith
    by-rings false false = omega arith

-- ---- the newest page of a log that was found

module _ (l l1 : RecordLog) (f f1 : FlashState) (first : ℕ) (plan : Plan) (table : Table) (same : IsSamePlan l l1) (h : HasRing l1 f1 first plan table) (sizes : (n : ℕ) → length (page_at f1 (place (log_shape l1) n)) ≡ l1.geometry.page)
    (told : IsTrue f.media.tells) where
  module _ (newest : Option NewestPage) (finds : Finds l f newest l1 f1) where
    here : NewestAmong (page_at f1) (log_shape l1) (oldest_in l1) (next_in l1) newest
    here =
        subst (λ (n : ℕ). NewestAmong (page_at f1) (log_shape l1) (oldest_in l1) n newest) (sym (next-is l1 finds.ring finds.ring_is))
        (subst (λ (n : ℕ). NewestAmong (page_at f1) (log_shape l1) n (next_of finds.ring) newest) (sym (oldest-is l1 finds.ring finds.ring_is))
        (subst (λ (r : Shape). NewestAmong (page_at f1) r (oldest_of finds.ring) (next_of finds.ring) newest) (sym (same-shape l l1 same)) (finds.newest_is told)))

    pub found-none : newest ≡ None → table.logged ≡ []
    found-none is = newest-none l1 f1 first plan table h sizes (subst (λ (o : Option NewestPage). NewestAmong (page_at f1) (log_shape l1) (oldest_in l1) (next_in l1) o) is here)

    pub found-some : (page : NewestPage) → newest ≡ Some page → HasNewest l1 f1 plan table page.number
    found-some page is =
        let k = subst (λ (o : Option NewestPage). NewestAmong (page_at f1) (log_shape l1) (oldest_in l1) (next_in l1) o) is here in
        newest-some l1 f1 first plan table h sizes page.number k.within.0 k.within.1 k.committed k.later

-- One read of a page, by how it ends: it has the bytes of the page,
pub read-told : (old new : FlashState) (page at size : ℕ) (result : Result (Unit {0}) FlashFault) (into : BufferState) → page ≡ at → ReadsPage old page size result into new → OnOk result (IsTrue old.media.tells → into.bytes ≡ page_at old at)
read-told old new page at size (Ok done) into same is = λ told. is.bytes told ∙ ap (page_at old) same
read-told old new page at size (Err fault) into same is = tt

-- .. or it failed for one of two causes,
pub read-failed : (old new : FlashState) (page size : ℕ) (result : Result (Unit {0}) FlashFault) (into : BufferState) → ReadsPage old page size result into new → IfErr result (λ e. ReadFails old e new)
read-failed old new page size (Ok done) into is = tt
read-failed old new page size (Err fault) into is = read_fails old new page size fault into is

-- .. and where it didn't fail, the power is on
pub read-powered : (old new : FlashState) (page size : ℕ) (result : Result (Unit {0}) FlashFault) (into : BufferState) → ReadsPage old page size result into new → OnOk result (new.is_on ≡ true)
read-powered old new page size (Ok done) into is = is.power ∙ was_on {T = Unit {0}} old (Ok done) new done is.off refl
read-powered old new page size (Err fault) into is = tt

-- What the mount of the data ring leaves of its table, and the read of the kept pages behind it.
use Rattle.std.proofs.Common.{◌≡◌, ℕ, ◌+◌, Option, refl, sym, ◌∙◌, ap, subst, arith}
use Rattle.fl_base.specs.declared.types.RingPlace.{RingPlace}
use Rattle.fl_find.specs.Index.{error_in}
use Rattle.fl_flash.specs.Flash.{FlashState, page_at}
use Rattle.fl_frame.proofs.CallsInTurn.{goes-then, few-goes}
use Rattle.fl_ring.specs.Mounting.{search_reads, shape_at, HasNumbers}
use Rattle.fl_ring.specs.Repairing.{Beside}
use Rattle.fl_ring.specs.Ring.{Shape, OutsideStands}
use Rattle.fl_ring.specs.declared.ring.Ring.{Ring}
use Rattle.fl_parts.proofs.BlobsOfTable as blobbing
use Rattle.fl_parts.proofs.IndexOfTable.{found-same, none-there}
use Rattle.fl_parts.specs.Bitmaps.{AreRunning, AreSamePlan}
use Rattle.fl_parts.specs.Blobs as variable
use Rattle.fl_parts.specs.Coming.{index_pages_of}
use Rattle.fl_parts.specs.KeptRead.{LeavesKept}
use Rattle.fl_schema.specs.Schema.{layout_of}
use Rattle.fl_var.specs.declared.var_data.VarData.{VarData}
use Rattle.fl_table.proofs.MountCalls.{outside-stands, same-shape}
use Rattle.fl_table.proofs.MountReads.{few-all, few-first}
use Rattle.fl_table.proofs.ReadsKeepTable.{lies-moved}
use Rattle.fl_table.proofs.SealAnswers.{plan-self, same-then}
use Rattle.fl_table.specs.Memory.{IsForgotten, IsSamePlan, IsSameRest, LiesOn}
use Rattle.fl_table.specs.RowsMount.{LeavesRows}
use Rattle.fl_table.specs.declared.table.Table.{Table}

-- a table that differs from one of the same plan in its memory and its index alone
pub same-beside : {KNOTS SLOTS : ℕ} (old mid new : Table KNOTS SLOTS) → IsSamePlan old mid → new.geometry ≡ mid.geometry → layout_of new.schema ≡ layout_of mid.schema → new.place ≡ mid.place → new.buckets ≡ mid.buckets →
    error_in new.index ≡ error_in mid.index → AreSamePlan mid.bitmaps new.bitmaps → variable.AreSamePlan mid.blobs new.blobs → new.blob_limit ≡ mid.blob_limit → IsSamePlan old new
same-beside old mid new same geometry layout place buckets error bitmaps blobs limit =
    same-then old mid new same (record { geometry = geometry; layout = layout; place = place; buckets = buckets; error = error; bitmaps = bitmaps; blobs = blobs; limit = limit })

module _ {KNOTS SLOTS : ℕ} (t : Table KNOTS SLOTS) (old mid : FlashState) (forgotten : IsForgotten t) (lies : LiesOn t old)
    (beside : Beside (shape_at t.place old.geometry) (search_reads (shape_at t.place old.geometry) + old.geometry.block) 1 1 old mid) where
  -- the ring alone was mounted, or refused
  pub leaves-ring : AreRunning t.bitmaps → LeavesRows t old t mid
  leaves-ring running = record {
    goes = beside.goes;
    same = plan-self t;
    still = found-same t.bitmaps;
    blobs = refl;
    lies = lies-moved t old mid beside.goes lies;
    running = running;
    none = (forgotten.none, forgotten.bits, forgotten.ends);
    down = forgotten.down;
    calm = forgotten.calm;
    outside = λ told. subst (λ (r : Shape). OutsideStands r (page_at old) (page_at mid)) (same-shape t t old (plan-self t) lies.geometry) (beside.outside told);
    reads = λ told. few-first t t old mid (plan-self t) lies.geometry beside (index_pages_of t.bitmaps);
    repairs = record { programs = beside.few_programs; erases = beside.few_erases };
  }

  -- .. and then kept pages were read
  pub leaves-read : (now : Table KNOTS SLOTS) (new : FlashState) (ring : Ring) (end : ℕ) → HasNumbers old (shape_at t.place old.geometry) end ring mid →
      LeavesKept t.bitmaps ring mid now.bitmaps new → IsSamePlan t now → IsSameRest t now → LeavesRows t old now new
  leaves-read now new ring end numbers kept same rest =
      let goes = goes-then old mid new beside.goes kept.reads.goes in
      record {
        goes = goes;
        same = same;
        still = kept.still;
        blobs = rest.blobs;
        lies = record {
          geometry = goes.geometry ∙ (lies.geometry ∙ sym same.geometry);
          within = omega (arith, goes.blocks, lies.within, ap (λ (p : RingPlace). p.first_block) same.place, ap (λ (p : RingPlace). p.blocks) same.place);
          few = few-goes old new goes lies.few;
          ring = λ ring is. absurd (none-there now.ring ring (rest.ring ∙ forgotten.down) is);
          bitmaps = kept.lies;
          blobs = subst (λ (o : Option VarData). variable.LieOn o new) (sym rest.blobs) (blobbing.lies-goes t.blobs old new goes lies.blobs);
        };
        running = kept.running;
        none = (ap (λ w. w.count) rest.writer ∙ forgotten.none, rest.bitmap ∙ forgotten.bits, rest.blob_end ∙ forgotten.ends);
        down = rest.ring ∙ forgotten.down;
        calm = rest.stopped ∙ forgotten.calm;
        outside = λ told. outside-stands t t old mid new _ (plan-self t) lies.geometry kept.reads (beside.outside told);
        reads = λ told. few-all t t old mid (plan-self t) lies.geometry beside end (index_pages_of t.bitmaps) ring new numbers kept.reads told;
        repairs = record { programs = omega (arith, beside.few_programs, kept.reads.programs); erases = omega (arith, beside.few_erases, kept.reads.erases) };
      }

-- What the seals of a table's rings change of a flash, one after another.
use Rattle.std.proofs.Common.{◌≡◌, ℕ, ◌+◌, ◌≤◌, IsTrue, Err, Ok, Result, ◌∙◌, sym, true, Option, List, length, inl, inr, ap, subst, arith}
use Rattle.std.proofs.lemmas.Result.{IfErr-weaker}
use Rattle.std.proofs.lemmas.Bool.{cases_lt}
use Rattle.fl_flash.specs.Flash.{FlashState, page_at}
use Rattle.fl_flash.specs.declared.flash.FlashFault.{FlashFault}
use Rattle.fl_frame.proofs.CallsInTurn.{goes-then}
use Rattle.fl_frame.proofs.WatchedInTurn.{cause-later}
use Rattle.fl_frame.specs.Causes.{CausedBy}
use Rattle.fl_model.specs.Record.{layout_len}
use Rattle.fl_ring.specs.Ring.{room}
use Rattle.fl_ring.specs.Written.{Writes}
use Rattle.fl_ring.proofs.Written.{writes-then, writes-wider}
use Rattle.fl_schema.specs.Schema.{layout_of}
use Rattle.fl_parts.proofs.PlacedBlobs.{same}
use Rattle.fl_parts.specs.Blobs as variable
use Rattle.fl_table.specs.Memory.{HasRoom, IsSamePlan, MayPut, MaySeal}
use Rattle.fl_parts.proofs.Outsides.{fill-moved}
use Rattle.fl_parts.proofs.Untouched.{on-ok}
use Rattle.fl_table.proofs.Outsides.{outside-then}
use Rattle.fl_parts.specs.Calls.{Changes}
use Rattle.fl_table.specs.Mounting.{rings_in, OutsideStands}
use Rattle.fl_table.specs.declared.table.Table.{Table}
use Rattle.fl_parts.proofs.BlobsOfTable.{pages-most}

module _ {KNOTS SLOTS : ℕ} (t : Table KNOTS SLOTS) where
  -- a put that seals the page of pending rows, where it is full, ..
  full-writes : (blob : Option (List ℕ)) (least most : ℕ) (f g : FlashState) → (HasRoom t → g ≡ f) → Writes (MaySeal t) least most f g → Writes (MayPut t blob) least most f g
  full-writes blob least most f g quiet h = record {
    programs = h.programs;
    erases = h.erases;
    least_programs = h.least_programs;
    most_programs = h.most_programs;
    most_erases = h.most_erases;
    tries = record { work = h.tries.work; armed = h.tries.armed; stands = stood };
  }
    where
      stood : IsTrue f.media.tells → (page : ℕ) → (MayPut t blob page → ⊥) → page_at g page ≡ page_at f page
      stood told page not = elim (cases_lt (length t.writer.body) (t.writer.end + layout_len (layout_of t.schema))) [
        | inl full ↦ h.tries.stands told page (λ may. not (inl (λ room. absurd (omega (arith, full, room)), may)))
        | inr room ↦ ap (λ (s : FlashState). page_at s page) (quiet room)
      ]

  room-writes : (blob : Option (List ℕ)) (many : ℕ) (f g : FlashState) → (HasRoom t → g ≡ f) → Writes (MaySeal t) 0 (rings_in t) f g → Writes (MayPut t blob) 0 (rings_in t + many) f g
  room-writes blob many f g quiet h =
      writes-wider (MayPut t blob) (MayPut t blob) 0 0 (rings_in t) (rings_in t + many) f g (λ page may. may) (same 0) (let e : rings_in t ≤ rings_in t + many = omega arith in e) (full-writes blob 0 (rings_in t) f g quiet h)

  -- .. and then places a blob
  pub put-writes : (u : Table KNOTS SLOTS) (blob : Option (List ℕ)) (least : ℕ) (f m g : FlashState) → m.media.tells ≡ f.media.tells → variable.AreSamePlan t.blobs u.blobs → (HasRoom t → m ≡ f) → Writes (MaySeal t) least (rings_in t) f m →
      Writes (variable.MayFill blob u.blobs) 0 (variable.pages_for u.blobs blob) m g → Writes (MayPut t blob) least (rings_in t + variable.most_pages t.blobs blob) f g
  put-writes u blob least f m g tells plan quiet first second =
      let all : Writes (MayPut t blob) (least + 0) (rings_in t + variable.most_pages t.blobs blob) f g =
      writes-then (MayPut t blob) least (rings_in t) 0 (variable.most_pages t.blobs blob) f m g tells
      (full-writes blob least (rings_in t) f m quiet first)
      (writes-wider (variable.MayFill blob u.blobs) (MayPut t blob) 0 0 (variable.pages_for u.blobs blob) (variable.most_pages t.blobs blob) m g (λ page may. inr (fill-moved blob t.blobs u.blobs plan page may)) (same 0) (pages-most t.blobs u.blobs blob plan) second) in
      subst (λ n. Writes (MayPut t blob) n (rings_in t + variable.most_pages t.blobs blob) f g) (let e : least + 0 ≡ least = omega arith in e) all

  -- .. so that it does this to the flash, ..
  pub join-changes : (u : Table KNOTS SLOTS) (blob : Option (List ℕ)) (f m : FlashState) (result : Result (Unit {0}) FlashFault) (g : FlashState) → IsSamePlan t u → (HasRoom t → m ≡ f) → Changes (MaySeal t) (OutsideStands t) (rings_in t) CausedBy f (Ok tt) m →
      Changes (variable.MayFill blob u.blobs) (OutsideStands u) (variable.pages_for u.blobs blob) CausedBy m result g → Changes (MayPut t blob) (OutsideStands t) (rings_in t + variable.most_pages t.blobs blob) CausedBy f result g
  join-changes u blob f m result g plan quiet h k = record {
    goes = goes-then f m g h.goes k.goes;
    power = on-ok result (m.is_on ≡ true → g.is_on ≡ true) (f.is_on ≡ true → g.is_on ≡ true) (λ on was. on (h.power was)) k.power;
    writes = put-writes u blob 0 f m g h.goes.tells plan.blobs quiet h.writes k.writes;
    outside = λ told. outside-then t u (page_at f) (page_at m) (page_at g) plan (h.outside told) (k.outside (subst IsTrue (sym h.goes.tells) told));
    reads = k.reads ∙ h.reads;
    media_reads = omega (arith, h.media_reads, k.media_reads, pages-most t.blobs u.blobs blob plan.blobs);
    cause = IfErr-weaker result _ _ (λ e caused. cause-later f m g h.goes h.power e caused) k.cause;
  }

  -- .. or this, where the seal failed
  pub room-changes : (blob : Option (List ℕ)) (f : FlashState) (fault : FlashFault) (g : FlashState) → (HasRoom t → g ≡ f) → Changes (MaySeal t) (OutsideStands t) (rings_in t) CausedBy f (Err fault) g →
      Changes (MayPut t blob) (OutsideStands t) (rings_in t + variable.most_pages t.blobs blob) CausedBy f (Err fault) g
  room-changes blob f fault g quiet h = record {
    goes = h.goes;
    power = tt;
    writes = room-writes blob (variable.most_pages t.blobs blob) f g quiet h.writes;
    outside = h.outside;
    reads = h.reads;
    media_reads = omega (arith, h.media_reads);
    cause = h.cause;
  }

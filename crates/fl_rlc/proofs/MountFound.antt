-- What the mount of a table with a log found, and what it left.
use Rattle.std.proofs.Common.{◌≡◌, ℕ, ◌*◌, Option, Some, None, List, inr, refl, sym, ◌∙◌, ap, subst, arith}
use Rattle.std.specs.Option.{ForSome}
use Rattle.std.specs.Prelude.{IfSome}
use Rattle.std.proofs.lemmas.Option.{same_Some}
use Rattle.fl_base.specs.declared.types.Geometry.{Geometry}
use Rattle.fl_base.specs.declared.types.RingPlace.{RingPlace}
use Rattle.fl_flash.specs.Flash.{FlashState, page_at}
use Rattle.fl_model.specs.Record.{RowLayout}
use Rattle.fl_frame.specs.Reads.{FewReads}
use Rattle.fl_ring.specs.Mounting.{shape_at}
use Rattle.fl_ring.specs.Ring.{Shape, room}
use Rattle.fl_parts.specs.Bitmaps.{IsOutside}
use Rattle.fl_table.specs.Look.{layout_in}
use Rattle.fl_table.specs.Memory as table_words
use Rattle.fl_table.specs.Mounting as mounting
use Rattle.fl_table.specs.declared.counts.Mounted.{Mounted}
use Rattle.fl_parts.specs.declared.mount_fault.MountFault.{MountFault}
use Rattle.fl_table.specs.declared.table.Table.{Table}
use Rattle.fl_parts.proofs.Outsides.{bitmaps-outside, blobs-outside}
use Rattle.fl_rlc.specs.Finding.{FindsLog, RefusesLog, StandBeside}
use Rattle.fl_rlc.specs.Memory.{log_shape, LiesOn}
use Rattle.fl_rlc.specs.Mounting.{FindsPages, FindsBehind, RefusesPages, log_pages, pages_in}
use Rattle.fl_rlc.specs.Table.{mounted_in, OutsideStands}
use Rattle.fl_rlc.specs.declared.log.RecordLog.{RecordLog}
use Rattle.fl_rlc.specs.declared.table.LoggedTable.{LoggedTable}

module _ {KNOTS SLOTS : ℕ} (t : LoggedTable KNOTS SLOTS) (old : FlashState) where
  -- without a log
  pub finds-alone : (found : Mounted) (now : LoggedTable KNOTS SLOTS) (new : FlashState) → t.log ≡ None → now.log ≡ None → mounting.FindsPages t.table old found now.table new → FindsPages t old found now new
  finds-alone found now new is none h = record {
    seen = now.table;
    between = new;
    found = found;
    pages = h;
    behind = subst (λ (o : Option RecordLog). FindsBehind (layout_in t.table) o now.table new found found now.table now.log new) (sym is) (none, refl, refl, refl);
  }

  module _ (l : RecordLog) (is : t.log ≡ Some l) (found : Mounted) (seen : Table KNOTS SLOTS) (between : FlashState) (pages : mounting.FindsPages t.table old found seen between) (same : table_words.IsSamePlan t.table seen) where
    -- with one, which is mounted
    pub finds-behind : (mounted : Mounted) (now : LoggedTable KNOTS SLOTS) (w : RecordLog) (new : FlashState) → now.log ≡ Some w → FindsLog (layout_in seen) l between seen w now.table new → mounted ≡ mounted_in now.table → FindsPages t old mounted now new
    finds-behind mounted now w new now_is h answer = record {
      seen = seen;
      between = between;
      found = found;
      pages = pages;
      behind = subst (λ (o : Option RecordLog). FindsBehind (layout_in t.table) o seen between found mounted now.table now.log new) (sym is)
          (subst (λ (o : Option RecordLog). FindsBehind (layout_in t.table) (Some l) seen between found mounted now.table o new) (sym now_is)
          (subst (λ (r : RowLayout). FindsLog r l between seen w now.table new) same.layout h, answer));
    }

    -- .. and which is refused
    pub refuses-behind : (e : MountFault) (new : FlashState) → RefusesLog (layout_in seen) l between seen e new → RefusesPages t old e new
    refuses-behind e new h = inr (record {
      seen = seen;
      between = between;
      found = found;
      pages = pages;
      log = l;
      log_is = is;
      why = subst (λ (r : RowLayout). RefusesLog r l between seen e new) same.layout h;
    })

  -- the pages beside both stand
  pub outside-both : (l : RecordLog) (is : t.log ≡ Some l) (seen : Table KNOTS SLOTS) (between new : ℕ → List ℕ) → table_words.IsSamePlan t.table seen → mounting.OutsideStands t.table (page_at old) between → StandBeside seen l between new → OutsideStands t (page_at old) new
  outside-both l is seen between new same h k = λ page rows index blobs log.
      k page (subst (λ (r : Shape). IsOutside r page) (sym (ap (λ (p : RingPlace). shape_at p seen.geometry) same.place ∙ ap (λ (g : Geometry). shape_at t.table.place g) (same.geometry))) rows)
      (bitmaps-outside t.table.bitmaps seen.bitmaps page same.bitmaps index) (blobs-outside t.table.blobs seen.blobs page same.blobs blobs)
      (subst (λ (o : Option RecordLog). IfSome o (λ x. IsOutside (log_shape x) page)) is log)
      ∙ h page rows index blobs

  -- the reads of both
  pub few-alone : (new : FlashState) → FewReads (4 * mounting.pages_in t.table) old new → FewReads (4 * pages_in t) old new
  few-alone new h = record { reads = omega (arith, h.reads); media_reads = omega (arith, h.media_reads) }

  pub few-both : (l : RecordLog) (is : t.log ≡ Some l) (between new : FlashState) → FewReads (4 * mounting.pages_in t.table) old between → FewReads (4 * room (log_shape l)) between new → FewReads (4 * pages_in t) old new
  few-both l is between new h k =
      let pages : log_pages t.log ≡ room (log_shape l) = ap log_pages is in
      record { reads = omega (arith, h.reads, k.reads, pages); media_reads = omega (arith, h.media_reads, k.media_reads, pages) }

-- a log that is there lies on a flash
pub log-here : (l : RecordLog) (f : FlashState) → LiesOn l f → ForSome (Some l) (λ x. LiesOn x f)
log-here l f h = λ x is. subst (λ (y : RecordLog). LiesOn y f) (same_Some _ _ is) h

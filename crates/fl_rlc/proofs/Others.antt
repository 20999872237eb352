-- A table with a log among the other tables of an image.
use Rattle.std.proofs.Common.{◌≡◌, ℕ, ◌+◌, ◌*◌, true, Option, Some, None, IfSome, List, refl, sym, ◌∙◌, ap, subst, arith}
use Rattle.std.proofs.Math.Path.{fun_ext}
use Rattle.fl_base.specs.declared.types.Geometry.{Geometry}
use Rattle.fl_flash.specs.Flash.{FlashState, page_at}
use Rattle.fl_index.specs.declared.index.BitmapIndex.{BitmapIndex}
use Rattle.fl_index.specs.Memory as memory
use Rattle.fl_index.proofs.SealEnds.{planned-ring as index-ring}
use Rattle.fl_index.proofs.State.{shape_in as index_shape}
use Rattle.fl_machine.proofs.Logs.{core, fine-lost}
use Rattle.fl_model.specs.Bare.{bare, bare_table}
use Rattle.fl_model.specs.Facts.{is_some_ring}
use Rattle.fl_model.specs.Image.{IsRingImage, HoldsLogged}
use Rattle.fl_model.specs.Record.{Plan, blocks_of, has_log}
use Rattle.fl_model.specs.Ring.{Ring}
use Rattle.fl_model.specs.Table.{Table, LogRing, shape_of, lose, log_pages}
use Rattle.fl_table.specs.BlobAt.{data_in}
use Rattle.fl_parts.specs.Bitmaps.{ArePlanned, IsOutside}
use Rattle.fl_parts.specs.Blobs as variable
use Rattle.fl_parts.specs.Pages as pages
use Rattle.fl_parts.specs.Pages.{bytes_in, place_in}
use Rattle.fl_parts.proofs.Apart.{IsBeside, PagesApart, outside-ring, holds-apart}
use Rattle.fl_table.proofs.Apart.{stands-apart}
use Rattle.fl_parts.proofs.Bare.{bare-table}
use Rattle.fl_table.proofs.SealAnswers.{planned-ring}
use Rattle.fl_parts.proofs.States.{shape_in}
use Rattle.fl_var.specs.Memory.{var_shape}
use Rattle.fl_var.specs.declared.var_data.VarData.{VarData}
use Rattle.fl_rlc.specs.Logged.{Stands, Rests, LogStands}
use Rattle.fl_rlc.specs.Memory.{log_shape, page_in}
use Rattle.fl_rlc.specs.Pages.{IsLogRing}
use Rattle.fl_rlc.specs.Table.{IsLogPlanned, IsPlanned, OutsideStands}
use Rattle.fl_rlc.specs.declared.log.RecordLog.{RecordLog}
use Rattle.fl_rlc.specs.declared.table.LoggedTable.{LoggedTable}
use Rattle.fl_rlc.proofs.Assembled.{bare-same, log-there, rests-of, stands-rest}
use Rattle.fl_rlc.proofs.BareFacts.{bare-facts}
use Rattle.fl_rlc.proofs.Frames.{log-bytes}
use Rattle.fl_rlc.proofs.KeptRecords.{fine-of}

-- one that stands rests without what is in memory
pub logged-rests : {KNOTS SLOTS : ℕ} (t : LoggedTable KNOTS SLOTS) (f : FlashState) (first : ℕ) (plan : Plan) (s : Table) → Stands t f first plan s → Rests f first plan (lose s)
logged-rests t f first plan s h = by-log t.log h.log
  where
    inner : pages.Rests f first (bare plan) (lose (bare_table s))
    inner = stands-rest t.table f first (bare plan) (bare_table s) h.unlogged

    by-log : (o : Option RecordLog) → LogStands o f (first + blocks_of (bare plan)) plan s → Rests f first plan (lose s)
    by-log None alone =
        let same : bare plan ≡ plan = ap (λ (n : ℕ). record plan { log_blocks = n }) (sym alone) in
        let r : pages.Rests f first plan (lose s) = subst (λ (x : Plan). pages.Rests f first x (lose s)) same (subst (λ (x : Table). pages.Rests f first (bare plan) (lose x)) (bare-same plan s alone h.facts) inner) in
        record {
          settled = r.settled;
          pages = r.pages;
          log = subst (λ (o : Option Ring). IfSome o (λ ring. IsRingImage (shape_of plan LogRing) ring (bytes_in (page_at f) first plan LogRing) (HoldsLogged plan (lose s) ring))) (sym (bare-table plan s alone h.facts).0) tt;
        }
    by-log (Some l) k =
        let r = k.0.ring in
        rests-of l f first plan s r.ring r.planned inner r.ring_is r.pages r.logged_some (fine-lost (core s) (fine-of plan s r.ring r.ring_is h.facts))

-- the pages of all its rings stand
module _ (f g : FlashState) (first : ℕ) (plan : Plan) (apart : PagesApart f g first (bare plan)) (same-log : has_log plan ≡ true → (n : ℕ) → page_at g (place_in first plan LogRing n) ≡ page_at f (place_in first plan LogRing n)) where
  same-bytes : has_log plan ≡ true → bytes_in (page_at g) first plan LogRing ≡ bytes_in (page_at f) first plan LogRing
  same-bytes has = fun_ext (λ n. same-log has n)

  pub logged-apart : {KNOTS SLOTS : ℕ} (t : LoggedTable KNOTS SLOTS) (s : Table) → Stands t f first plan s → Stands t g first plan s
  logged-apart t s h = record {
    unlogged = stands-apart f g first (bare plan) apart.rows apart.index apart.var t.table (bare_table s) h.unlogged;
    facts = h.facts;
    log = by-log t.log h.log;
  }
    where
      by-log : (o : Option RecordLog) → LogStands o f (first + blocks_of (bare plan)) plan s → LogStands o g (first + blocks_of (bare plan)) plan s
      by-log None alone = alone
      by-log (Some l) k =
          let r = k.0.ring in
          let same : page_in l g ≡ page_in l f = log-bytes l g first plan r.planned ∙ (same-bytes (log-there l (first + blocks_of (bare plan)) plan r.planned) ∙ sym (log-bytes l f first plan r.planned)) in (
            record {
              ring = record {
                planned = r.planned;
                mounted = r.mounted;
                ring = r.ring;
                ring_is = r.ring_is;
                pages = subst (λ (at : ℕ → List ℕ). IsLogRing plan (log_pages s) r.ring at) (sym same) r.pages;
                logged_some = r.logged_some;
                whole = r.whole;
                clean = r.clean;
                next = r.next;
                oldest_is = r.oldest_is;
              };
              rows = k.0.rows;
            },
            k.1,
          )

  pub logged-rests-apart : (s : Table) → Rests f first plan s → Rests g first plan s
  logged-rests-apart s h =
      let b = holds-apart f g first (bare plan) apart.rows apart.index apart.var (bare_table s) (bare-facts plan s h.settled.facts) (record { rows = h.pages.rows; index = h.pages.index; var = h.pages.var }) in
      record { settled = h.settled; pages = record { rows = b.rows; index = b.index; var = b.var }; log = by-log s.log h.settled.facts.has_rings.2 h.log }
    where
      by-log : (o : Option Ring) → is_some_ring o ≡ has_log plan → IfSome o (λ ring. IsRingImage (shape_of plan LogRing) ring (bytes_in (page_at f) first plan LogRing) (HoldsLogged plan s ring)) →
          IfSome o (λ ring. IsRingImage (shape_of plan LogRing) ring (bytes_in (page_at g) first plan LogRing) (HoldsLogged plan s ring))
      by-log None has i = tt
      by-log (Some ring) has i = subst (λ (at : ℕ → List ℕ). IsRingImage (shape_of plan LogRing) ring at (HoldsLogged plan s ring)) (sym (same-bytes (sym has))) i

-- what its call leaves of the pages outside its blocks
pub logged-beside : {KNOTS SLOTS : ℕ} (t : LoggedTable KNOTS SLOTS) (first : ℕ) (plan : Plan) (old new : ℕ → List ℕ) → IsPlanned t first plan → OutsideStands t old new → (page : ℕ) → IsBeside first plan page → new page ≡ old page
logged-beside t first plan old new planned outside page beside =
    outside page (subst (λ r. IsOutside r page) (sym (planned-ring t.table first (bare plan) planned.table)) (outside-ring first first plan.data_blocks plan (shape_in first (bare plan)) page refl refl (omega arith) (omega arith) beside))
    (by-index t.table.bitmaps planned.table.index) (by-var (data_in t.table) planned.table.var) (by-log t.log planned.log)
  where
    by-index : (bitmaps : Option BitmapIndex) → ArePlanned bitmaps (first + plan.data_blocks) (bare plan) → IfSome bitmaps (λ index. IsOutside (memory.ring_shape index) page)
    by-index None p = tt
    by-index (Some index) p =
        subst (λ r. IsOutside r page) (sym (index-ring index (first + plan.data_blocks) (bare plan) p)) (outside-ring first (first + plan.data_blocks) plan.index_blocks plan (index_shape (first + plan.data_blocks) (bare plan)) page refl refl (omega arith) (omega arith) beside)

    by-var : (blobs : Option VarData) → variable.ArePlanned blobs (first + plan.data_blocks + plan.index_blocks) (bare plan) → IfSome blobs (λ var. IsOutside (var_shape var) page)
    by-var None p = tt
    by-var (Some var) p =
        outside-ring first (first + plan.data_blocks + plan.index_blocks) plan.var_blocks plan (var_shape var) page p.begins (rw (p.planned.blocks, p.planned.geometry) refl) (omega arith) (omega arith) beside

    by-log : (o : Option RecordLog) → IsLogPlanned o (first + blocks_of (bare plan)) plan → IfSome o (λ l. IsOutside (log_shape l) page)
    by-log None p = tt
    by-log (Some l) p =
        let begins : l.place.first_block * l.geometry.block ≡ (first + blocks_of (bare plan)) * plan.geometry.block = ap (λ (b : ℕ). b * l.geometry.block) p.begins ∙ ap (λ (k : Geometry). (first + blocks_of (bare plan)) * k.block) (sym p.geometry) in
        let size : l.place.blocks * l.geometry.block ≡ plan.log_blocks * plan.geometry.block = ap (λ (b : ℕ). b * l.geometry.block) (sym p.blocks) ∙ ap (λ (k : Geometry). plan.log_blocks * k.block) (sym p.geometry) in
        outside-ring first (first + blocks_of (bare plan)) plan.log_blocks plan (log_shape l) page begins size (omega arith) (omega arith) beside

-- A table with a log stands, or rests, where the table without it does and its log does.
use Rattle.std.proofs.Common.{◌≡◌, ℕ, ◌+◌, true, false, Option, Some, IfSome, List, [], refl, sym, ◌∙◌, ap, subst, arith, None, is_some}
use Rattle.std.proofs.lemmas.Bool.{lt-ltb}
use Rattle.fl_flash.specs.Flash.{FlashState, page_at}
use Rattle.fl_model.specs.Bare.{bare, bare_table, log_of, beside}
use Rattle.fl_model.specs.Facts.{IsTable}
use Rattle.fl_model.specs.Image.{IsRingImage, HoldsPage, HoldsLogged}
use Rattle.fl_model.specs.Log.{IsLog}
use Rattle.fl_model.specs.Record.{Plan, blocks_of, has_log, has_var}
use Rattle.fl_model.specs.Ring.{Ring}
use Rattle.fl_model.specs.Table.{Table, Entry, LogRing, shape_of, has_rows, log_pages, lose}
use Rattle.fl_machine.specs.Found.{HasRoom}
use Rattle.fl_machine.proofs.RecordsChange.{Any}
use Rattle.fl_machine.proofs.Logs.{core, IsFine, lost}
use Rattle.fl_machine.proofs.LogTables.{Between, between-fine}
use Rattle.fl_parts.specs.Blobs.{ArePlanned}
use Rattle.fl_parts.specs.Pages as pages
use Rattle.fl_parts.specs.Pages.{bytes_in}
use Rattle.fl_table.specs.Memory as memory
use Rattle.fl_table.specs.Standing as table
use Rattle.fl_table.specs.declared.table.Table as code
use Rattle.fl_var.specs.declared.var_data.VarData.{VarData}
use Rattle.fl_parts.proofs.Bare.{bare-table}
use Rattle.fl_parts.proofs.BlobsOfTable.{planned-none}
use Rattle.fl_parts.proofs.TablePages.{lost-twice}
use Rattle.fl_parts.proofs.Plain.{plain-lose, table-facts, table-parts}
use Rattle.fl_table.proofs.SealAnswers.{planned-shape}
use Rattle.fl_rlc.specs.Logged.{Stands, Rests, LogStands, IsKept}
use Rattle.fl_rlc.specs.Memory.{page_in, IsPlanned}
use Rattle.fl_rlc.specs.Pages.{log_body, IsLogRing}
use Rattle.fl_rlc.specs.Standing as log
use Rattle.fl_rlc.specs.declared.log.RecordLog.{RecordLog}
use Rattle.fl_rlc.specs.declared.table.LoggedTable.{LoggedTable}
use Rattle.fl_rlc.proofs.Frames.{log-bytes}
use Rattle.fl_rlc.proofs.KeptRecords.{log-of, kept-of}
use Rattle.fl_rlc.proofs.LoggedFacts.{LogFacts, table-of}

-- a table with these is the table that has its log beside it
pub beside-itself : (t : Table) → beside (log_of t) (bare_table t) ≡ t
beside-itself t = refl

-- one that has no log is its own bare table
pub bare-same : (plan : Plan) (t : Table) → plan.log_blocks ≡ 0 → IsTable plan t → bare_table t ≡ t
bare-same plan t none facts =
    let b = bare-table plan t none facts in
    ap (λ (o : Option Ring). record t { log = o; logged = []; logged_before = [] }) (sym b.0)
    ∙ (ap (λ (es : List Entry). record t { logged = es; logged_before = [] }) (sym b.1) ∙ ap (λ (ps : List (List Entry)). record t { logged_before = ps }) (sym b.2))

-- the log of a plan
pub log-there : (l : RecordLog) (first : ℕ) (plan : Plan) → IsPlanned l first plan → has_log plan ≡ true
log-there l first plan h = lt-ltb 0 plan.log_blocks (omega (arith, h.blocks, l.some_blocks))

-- .. which has room
pub has-room : {KNOTS SLOTS : ℕ} (t : LoggedTable KNOTS SLOTS) (l : RecordLog) (first : ℕ) (plan : Plan) → t.log ≡ Some l → memory.IsPlanned t.table first (bare plan) → IsPlanned l (first + blocks_of (bare plan)) plan → HasRoom plan
has-room t l first plan t_is planned log-planned =
    let shape = planned-shape t.table first (bare plan) planned in
    record {
      blocks = shape.blocks;
      pages = shape.pages;
      log_blocks = λ some. omega (arith, log-planned.blocks, l.some_blocks);
      no_var = λ some. by-blobs t.table.blobs (t.no_blobs (ap (λ (o : Option RecordLog). is_some o) t_is)) planned.var;
    }
  where
    by-blobs : (o : Option VarData) → is_some o ≡ false → ArePlanned o (first + plan.data_blocks + plan.index_blocks) (bare plan) → has_var plan ≡ false
    by-blobs None e p = planned-none (first + plan.data_blocks + plan.index_blocks) (bare plan) p
    by-blobs (Some v) e p = cc

ring-facts : (l : RecordLog) (first : ℕ) (plan : Plan) (t : Table) (ring : Ring) (at : ℕ → List ℕ) → IsPlanned l first plan → t.log ≡ Some ring → IsLogRing plan (log_pages t) ring at → (has_rows t.log ≡ false → t.logged ≡ []) → IsLog t → LogFacts plan t
ring-facts l first plan t ring at planned is h some logged = record {
  ring = ring;
  ring_is = is;
  has = log-there l first plan planned;
  facts = h.facts;
  number = h.number;
  each = h.each;
  few = h.few;
  fit = h.fit;
  logged_some = some;
  logged = logged;
}

pub stands-kept : {KNOTS SLOTS : ℕ} (t : LoggedTable KNOTS SLOTS) (l : RecordLog) (g : FlashState) (first : ℕ) (plan : Plan) (s : Table) → t.log ≡ Some l → table.Stands t.table g first (bare plan) (bare_table s) →
    log.Stands l g (first + blocks_of (bare plan)) plan s → IsLog s → IsKept s → Stands t g first plan s
stands-kept t l g first plan s t_is inner h logged kept =
    let r = h.ring in
    record {
      unlogged = inner;
      facts = table-of plan s inner.facts (ring-facts l (first + blocks_of (bare plan)) plan s r.ring (page_in l g) r.planned r.ring_is r.pages r.logged_some logged);
      log = subst (λ (o : Option RecordLog). LogStands o g (first + blocks_of (bare plan)) plan s) (sym t_is) (h, kept);
    }

pub stands-of : {KNOTS SLOTS : ℕ} (t : LoggedTable KNOTS SLOTS) (l : RecordLog) (g : FlashState) (first : ℕ) (plan : Plan) (s : Table) → t.log ≡ Some l → table.Stands t.table g first (bare plan) (bare_table s) →
    log.Stands l g (first + blocks_of (bare plan)) plan s → Between Any s → Stands t g first plan s
stands-of t l g first plan s t_is inner h between =
    let r = h.ring in stands-kept t l g first plan s t_is inner h (log-of s r.ring r.ring_is (between-fine s between)) (kept-of s r.ring r.ring_is between)

pub rests-of : (l : RecordLog) (g : FlashState) (first : ℕ) (plan : Plan) (s : Table) (ring : Ring) → IsPlanned l (first + blocks_of (bare plan)) plan → pages.Rests g first (bare plan) (bare_table (lose s)) →
    s.log ≡ Some ring → IsLogRing plan (log_pages s) ring (page_in l g) → (has_rows s.log ≡ false → s.logged ≡ []) → IsFine (lost (core s)) → Rests g first plan (lose s)
rests-of l g first plan s ring planned inner is h some fine = record {
  settled = record {
    facts = table-of plan (lose s) inner.settled.facts (ring-facts l (first + blocks_of (bare plan)) plan (lose s) ring (page_in l g) planned is h some (log-of (lose s) ring is fine));
    lost = ap (beside (log_of s)) inner.settled.lost;
  };
  pages = record { rows = inner.pages.rows; index = inner.pages.index; var = inner.pages.var };
  log = subst (λ (o : Option Ring). IfSome o (λ r. IsRingImage (shape_of plan LogRing) r (bytes_in (page_at g) first plan LogRing) (HoldsLogged plan (lose s) r))) (sym is)
      (subst (λ (at : ℕ → List ℕ). IsRingImage (shape_of plan LogRing) ring at (HoldsPage (log_pages s) (log_body plan) ring)) (log-bytes l g first plan planned) h.image);
}

-- a table without what is in memory rests where it stands
pub stands-rest : {KNOTS SLOTS : ℕ} (t : code.Table KNOTS SLOTS) (f : FlashState) (first : ℕ) (plan : Plan) (s : Table) → table.Stands t f first plan s → pages.Rests f first plan (lose s)
stands-rest t f first plan s stands = record {
  settled = record { facts = table-facts plan (lose s) (plain-lose plan s (table-parts plan s stands.planned.log stands.facts)); lost = lost-twice s };
  pages = stands.pages;
}

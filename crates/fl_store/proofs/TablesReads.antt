-- The reads of a mount of several tables.
use Rattle.std.proofs.Common.{◌≡◌, ℕ, zero, suc, ◌+◌, ◌*◌, ◌≤◌, Bool, true, false, Option, None, Some, List, [], ◌∷◌, take, if◌then◌else◌, refl, sym, ◌∙◌, ap, arith, slice_get, add-mul}
use Rattle.std.proofs.lemmas.List.Sums.{sum_by-take-le}
use Rattle.std.proofs.lemmas.Option.{none-some}
use Rattle.fl_flash.specs.Flash.{FlashState}
use Rattle.fl_index.specs.declared.index.BitmapIndex.{BitmapIndex}
use Rattle.fl_machine.specs.Reads.{most_of_mount, mounts_limit}
use Rattle.fl_model.specs.Bare.{bare}
use Rattle.fl_model.specs.MountLimit.{mount_limit}
use Rattle.fl_model.specs.Record.{Plan, blocks_of}
use Rattle.fl_model.specs.Table as model
use Rattle.fl_model.proofs.Lists.{sum_by-next}
use Rattle.fl_frame.specs.Reads.{FewReads}
use Rattle.fl_parts.specs.Bitmaps.{ArePlanned, room_of}
use Rattle.fl_parts.specs.Blobs as variable
use Rattle.fl_rlc.specs.Mounting.{log_pages, pages_in}
use Rattle.fl_rlc.specs.Table.{IsLogPlanned, IsPlanned}
use Rattle.fl_rlc.specs.declared.log.RecordLog.{RecordLog}
use Rattle.fl_rlc.specs.declared.table.LoggedTable.{LoggedTable}
use Rattle.fl_var.specs.declared.var_data.VarData.{VarData}
use Rattle.fl_store.specs.Tables.{pages_of}
use Rattle.fl_store.specs.declared.tables.Entry.{Entry}

pub reads-more : (entries : List Entry) (i : ℕ) (entry : Entry) (f m n : FlashState) → slice_get entries i ≡ Some entry → m.work.reads ≤ f.work.reads + 4 * pages_of (take i entries) → FewReads (4 * pages_in entry.table) m n →
    n.work.reads ≤ f.work.reads + 4 * pages_of (take (i + 1) entries)
reads-more entries i entry f m n e before few =
    let all : pages_of (take (i + 1) entries) ≡ pages_of (take i entries) + pages_in entry.table = ap (λ k. pages_of (take k entries)) (let s : i + 1 ≡ suc i = omega arith in s) ∙ sum_by-next (λ (e : Entry). pages_in e.table) entries i entry e in
    omega (arith, before, few.reads, all)

pub reads-most : (entries : List Entry) (i : ℕ) (f n : FlashState) → n.work.reads ≤ f.work.reads + 4 * pages_of (take i entries) → n.work.reads ≤ f.work.reads + 4 * pages_of entries
reads-most entries i f n h = omega (arith, h, sum_by-take-le (λ (e : Entry). pages_in e.table) entries i)

-- ---- the pages of a table's rings

index-room : (bitmaps : Option BitmapIndex) (first : ℕ) (plan : Plan) → ArePlanned bitmaps first plan → room_of bitmaps ≤ plan.index_blocks * plan.geometry.block
index-room None first plan h = omega arith
index-room (Some index) first plan h = rw (h.blocks, h.geometry) (omega arith)

var-room : (blobs : Option VarData) (first : ℕ) (plan : Plan) → variable.ArePlanned blobs first plan → variable.room_of blobs ≤ plan.var_blocks * plan.geometry.block
var-room None first plan h = omega arith
var-room (Some var) first plan h = rw (h.planned.blocks, h.planned.geometry) (omega arith)

log-room : (log : Option RecordLog) (first : ℕ) (plan : Plan) → IsLogPlanned log first plan → log_pages log ≤ plan.log_blocks * plan.geometry.block
log-room None first plan h = omega arith
log-room (Some log) first plan h = rw (h.blocks, h.geometry) (omega arith)

pub planned-pages : (t : LoggedTable 64 64) (first : ℕ) (plan : Plan) → IsPlanned t first plan → pages_in t ≤ blocks_of plan * plan.geometry.block
planned-pages t first plan h =
    let rows : t.table.place.blocks * t.table.geometry.block ≡ plan.data_blocks * plan.geometry.block = rw (h.table.blocks, sym h.table.geometry) refl in
    let index = index-room t.table.bitmaps (first + plan.data_blocks) (bare plan) h.table.index in
    let var = var-room t.table.blobs (first + plan.data_blocks + plan.index_blocks) (bare plan) h.table.var in
    let log = log-room t.log (first + blocks_of (bare plan)) plan h.log in
    omega (arith, rows, index, var, log, add-mul plan.data_blocks plan.index_blocks plan.geometry.block, add-mul (plan.data_blocks + plan.index_blocks) plan.var_blocks plan.geometry.block, add-mul (plan.data_blocks + plan.index_blocks + plan.var_blocks) plan.log_blocks plan.geometry.block)

-- ---- the limit by what the tables keep

-- the mounts of one more
mounts-more : (plans : List Plan) (tables : List model.Table) (i : ℕ) (plan : Plan) (table : model.Table) → slice_get plans i ≡ Some plan → slice_get tables i ≡ Some table →
    mounts_limit (take (suc i) plans) tables ≡ mounts_limit (take i plans) tables + most_of_mount plan table
mounts-more [] tables i plan table p t = absurd (none-some plan p)
mounts-more (q ∷ plans) [] i plan table p t = absurd (none-some table t)
mounts-more (q ∷ plans) (x ∷ tables) zero plan table p t =
    let plan_is : q ≡ plan = cc in
    let table_is : x ≡ table = cc in
    omega (arith, ap (λ y. most_of_mount q y) table_is, ap (λ y. most_of_mount y table) plan_is)
mounts-more (q ∷ plans) (x ∷ tables) (suc i) plan table p t = omega (arith, mounts-more plans tables i plan table p t)

-- .. of the first of them
pub mounts-most : (plans : List Plan) (tables : List model.Table) (i : ℕ) → mounts_limit (take i plans) tables ≤ mounts_limit plans tables
mounts-most [] tables zero = omega arith
mounts-most [] tables (suc i) = omega arith
mounts-most (plan ∷ plans) [] zero = omega arith
mounts-most (plan ∷ plans) [] (suc i) = omega arith
mounts-most (plan ∷ plans) (table ∷ tables) zero = omega arith
mounts-most (plan ∷ plans) (table ∷ tables) (suc i) = omega (arith, mounts-most plans tables i)

-- a table's mount, by the limit that it has by its plan
table-limit : (t : LoggedTable 64 64) (first : ℕ) (plan : Plan) (table : model.Table) (m n : FlashState) → IsPlanned t first plan → FewReads (4 * pages_in t) m n →
    (plan.full_index ≡ true → n.work.reads ≤ m.work.reads + mount_limit plan table) → n.work.reads ≤ m.work.reads + most_of_mount plan table
table-limit t first plan table m n planned few full = by_full plan.full_index full
  where
    by_full : (b : Bool) → (b ≡ true → n.work.reads ≤ m.work.reads + mount_limit plan table) → n.work.reads ≤ m.work.reads + (if b then mount_limit plan table else 4 * (blocks_of plan * plan.geometry.block))
    by_full true h = h refl
    by_full false h = omega (arith, few.reads, planned-pages t first plan planned)

pub limit-more : (plans : List Plan) (tables : List model.Table) (i : ℕ) (plan : Plan) (table : model.Table) (t : LoggedTable 64 64) (first : ℕ) (f m n : FlashState) → slice_get plans i ≡ Some plan → slice_get tables i ≡ Some table → IsPlanned t first plan →
    m.work.reads ≤ f.work.reads + mounts_limit (take i plans) tables → FewReads (4 * pages_in t) m n → (plan.full_index ≡ true → n.work.reads ≤ m.work.reads + mount_limit plan table) →
    n.work.reads ≤ f.work.reads + mounts_limit (take (i + 1) plans) tables
limit-more plans tables i plan table t first f m n p e planned before few full =
    let more = ap (λ k. mounts_limit (take k plans) tables) (let s : i + 1 ≡ suc i = omega arith in s) ∙ mounts-more plans tables i plan table p e in
    omega (arith, before, table-limit t first plan table m n planned few full, more)

pub limit-most : (plans : List Plan) (tables : List model.Table) (i : ℕ) (f n : FlashState) → n.work.reads ≤ f.work.reads + mounts_limit (take i plans) tables → n.work.reads ≤ f.work.reads + mounts_limit plans tables
limit-most plans tables i f n h = omega (arith, h, mounts-most plans tables i)

-- The facts of a table, from those without its log and those of its log.
use Rattle.std.proofs.Common.{◌≡◌, ℕ, ◌+◌, ◌-◌, ◌≤◌, true, false, cond, nat_lt, Option, Some, None, IfSome, IsTrue, List, [], map, filter, length, slice_get, sym, ◌∙◌, ap, subst}
use Rattle.std.specs.List.{AllByRecursion}
use Rattle.fl_model.specs.Agrees.{TellPages, TellsAt, is_told, rows_at, BlobsOf}
use Rattle.fl_model.specs.Bare.{bare, bare_table}
use Rattle.fl_model.specs.Content.{ContentPage}
use Rattle.fl_model.specs.Facts.{IsTable, IsContent, IsLogPage, FitsPlan, BlobFits, is_some_ring, counts_in}
use Rattle.fl_model.specs.Index.{IndexEntry}
use Rattle.fl_model.specs.Log.{IsLog}
use Rattle.fl_model.specs.Record.{Plan, has_log, rows_per_page}
use Rattle.fl_model.specs.Ring.{Ring, IsRing}
use Rattle.fl_model.specs.Table.{Table, Entry, RingName, DataRing, IndexRing, VarRing, LogRing, shape_of, ring_of, has_rows, log_pages}
use Rattle.fl_model.proofs.Lists.{each-weaker}

-- what the log's pages say of it
pub record LogFacts (plan : Plan) (table : Table) : Type 0 where
  pub ring : Ring
  pub ring_is : table.log ≡ Some ring
  pub has : has_log plan ≡ true
  pub facts : IsRing (shape_of plan LogRing) ring
  pub number : ring.next + (cond ring.torn 1 0) ≤ 4294967292
  pub each : map (λ rows. length rows) (log_pages table) ≡ filter (nat_lt 0) ring.counts
  pub few : AllByRecursion (λ count. count ≤ rows_per_page plan) ring.counts
  pub fit : AllByRecursion (IsLogPage plan) (log_pages table)
  pub logged_some : has_rows table.log ≡ false → table.logged ≡ []
  pub logged : IsLog table

pub fits : (plan : Plan) (entry : Entry) → FitsPlan (bare plan) entry → FitsPlan plan entry
fits plan entry h = record { key = h.key; as_many = h.as_many; values = h.values; blob = by-blob entry.kept.blob h.blob }
  where
    by-blob : (o : Option (List ℕ)) → BlobFits (bare plan) entry o → BlobFits plan entry o
    by-blob None h = h
    by-blob (Some bytes) h = h

contents : (plan : Plan) (page : ContentPage) → IsContent (bare plan) page → IsContent plan page
contents plan page h = record { some = h.some; most = h.most; length = h.length }

tells : (plan : Plan) (table : Table) (first : ℕ) (entries : List IndexEntry) → TellPages (bare plan) (bare_table table) first entries → TellPages plan table first entries
tells plan table first entries h j n lt at = by-count (slice_get table.rows.counts n) (h j n lt at)
  where
    by-entry : (rows : List Entry) (o : Option IndexEntry) → TellsAt (bare plan) rows o → TellsAt plan rows o
    by-entry rows None h = h
    by-entry rows (Some entry) h = record { bitmap = h.bitmap; full = h.full }

    by-count : (o : Option ℕ) → IfSome o (λ count. IsTrue (is_told (bare plan) count) → TellsAt (bare plan) (rows_at (bare_table table) n count) (slice_get entries j)) →
        IfSome o (λ count. IsTrue (is_told plan count) → TellsAt plan (rows_at table n count) (slice_get entries j))
    by-count None h = tt
    by-count (Some count) h = λ told. by-entry (rows_at table n count) (slice_get entries j) (h told)

blobs-of : (plan : Plan) (table : Table) (o : Option Ring) → IfSome o (BlobsOf (bare plan) (bare_table table)) → IfSome o (BlobsOf plan table)
blobs-of plan table None h = tt
blobs-of plan table (Some ring) h = λ i entry blob e k some stands. let b = h i entry blob e k some stands in record { pages = b.pages; there = b.there; within = b.within; full = b.full; ends = b.ends; stored = b.stored }

pub table-of : (plan : Plan) (table : Table) → IsTable (bare plan) (bare_table table) → LogFacts plan table → IsTable plan table
table-of plan table h l = record {
  rows = h.rows;
  index = h.index;
  var = h.var;
  log = subst (λ (o : Option Ring). IfSome o (IsRing (shape_of plan LogRing))) (sym l.ring_is) l.facts;
  has_rings = (h.has_rings.0, h.has_rings.1, ap is_some_ring l.ring_is ∙ sym l.has);
  index_counts = h.index_counts;
  var_counts = h.var_counts;
  log_counts = subst (λ (o : Option Ring). AllByRecursion (λ count. count ≤ rows_per_page plan) (counts_in o)) (sym l.ring_is) l.few;
  index_each = h.index_each;
  var_each = h.var_each;
  log_each = l.each ∙ ap (λ (o : Option Ring). filter (nat_lt 0) (counts_in o)) (sym l.ring_is);
  index_fit = h.index_fit;
  var_fit = each-weaker (IsContent (bare plan)) (IsContent plan) (contents plan) table.var_pages h.var_fit;
  log_fit = l.fit;
  logged_some = l.logged_some;
  logged = l.logged;
  fit = each-weaker (FitsPlan (bare plan)) (FitsPlan plan) (fits plan) table.entries h.fit;
  counted = h.counted;
  few_pending = h.few_pending;
  few_rows = h.few_rows;
  ascending = h.ascending;
  fill = h.fill;
  waiting = h.waiting;
  firsts = h.firsts;
  listed = h.listed;
  blobs = h.blobs;
  numbers = numbers;
  numbers_pending = h.numbers_pending;
  numbers_listed = h.numbers_listed;
  agrees = record {
    listed = λ k page e. tells plan table page.first page.entries (h.agrees.listed k page e);
    waiting = tells plan table (table.rows.next - length table.waiting) table.waiting h.agrees.waiting;
    blobs = blobs-of plan table table.var h.agrees.blobs;
  };
}
  where
    numbers : (name : RingName) → IfSome (ring_of name table) (λ ring. ring.next + (cond ring.torn 1 0) ≤ 4294967292)
    numbers DataRing = h.numbers DataRing
    numbers IndexRing = h.numbers IndexRing
    numbers VarRing = h.numbers VarRing
    numbers LogRing = subst (λ (o : Option Ring). IfSome o (λ ring. ring.next + (cond ring.torn 1 0) ≤ 4294967292)) (sym l.ring_is) l.number

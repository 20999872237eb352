-- The facts of a table with a log hold of it without its log.
use Rattle.std.proofs.Common.{ℕ, ◌+◌, ◌-◌, ◌≤◌, cond, Option, Some, None, IfSome, IsTrue, inl, List, length, slice_get, refl}
use Rattle.fl_model.specs.Agrees.{TellPages, TellsAt, is_told, rows_at, BlobsOf}
use Rattle.fl_model.specs.Bare.{bare, bare_table}
use Rattle.fl_model.specs.Content.{ContentPage}
use Rattle.fl_model.specs.Facts.{IsTable, IsContent, FitsPlan}
use Rattle.fl_model.specs.Index.{IndexEntry}
use Rattle.fl_model.specs.Record.{Plan}
use Rattle.fl_model.specs.Ring.{Ring}
use Rattle.fl_model.specs.Table.{Table, Entry, RingName, DataRing, IndexRing, VarRing, LogRing, ring_of}
use Rattle.fl_model.proofs.Lists.{each-weaker}
use Rattle.fl_rlc.proofs.TakenRecord.{fits-bare}

pub contents : (plan : Plan) (page : ContentPage) → IsContent plan page → IsContent (bare plan) page
contents plan page h = record { some = h.some; most = h.most; length = h.length }

pub tells : (plan : Plan) (table : Table) (first : ℕ) (entries : List IndexEntry) → TellPages plan table first entries → TellPages (bare plan) (bare_table table) first entries
tells plan table first entries h j n lt at = by-count (slice_get table.rows.counts n) (h j n lt at)
  where
    by-entry : (rows : List Entry) (o : Option IndexEntry) → TellsAt plan rows o → TellsAt (bare plan) rows o
    by-entry rows None h = h
    by-entry rows (Some entry) h = record { bitmap = h.bitmap; full = h.full }

    by-count : (o : Option ℕ) → IfSome o (λ count. IsTrue (is_told plan count) → TellsAt plan (rows_at table n count) (slice_get entries j)) →
        IfSome o (λ count. IsTrue (is_told (bare plan) count) → TellsAt (bare plan) (rows_at (bare_table table) n count) (slice_get entries j))
    by-count None h = tt
    by-count (Some count) h = λ told. by-entry (rows_at table n count) (slice_get entries j) (h told)

blobs-of : (plan : Plan) (table : Table) (o : Option Ring) → IfSome o (BlobsOf plan table) → IfSome o (BlobsOf (bare plan) (bare_table table))
blobs-of plan table None h = tt
blobs-of plan table (Some ring) h = λ i entry blob e k some stands. let b = h i entry blob e k some stands in record { pages = b.pages; there = b.there; within = b.within; full = b.full; ends = b.ends; stored = b.stored }

pub bare-facts : (plan : Plan) (table : Table) → IsTable plan table → IsTable (bare plan) (bare_table table)
bare-facts plan table h = record {
  rows = h.rows;
  index = h.index;
  var = h.var;
  log = tt;
  has_rings = (h.has_rings.0, h.has_rings.1, refl);
  index_counts = h.index_counts;
  var_counts = h.var_counts;
  log_counts = tt;
  index_each = h.index_each;
  var_each = h.var_each;
  log_each = refl;
  index_fit = h.index_fit;
  var_fit = each-weaker (IsContent plan) (IsContent (bare plan)) (contents plan) table.var_pages h.var_fit;
  log_fit = tt;
  logged_some = λ none. refl;
  logged = record { ascending = tt; whole = inl refl; safe = λ some. absurd (some refl) };
  fit = each-weaker (FitsPlan plan) (FitsPlan (bare plan)) (fits-bare plan) table.entries h.fit;
  counted = h.counted;
  few_pending = h.few_pending;
  few_rows = h.few_rows;
  ascending = h.ascending;
  fill = h.fill;
  waiting = h.waiting;
  firsts = h.firsts;
  listed = h.listed;
  blobs = h.blobs;
  numbers = numbers;
  numbers_pending = h.numbers_pending;
  numbers_listed = h.numbers_listed;
  agrees = record {
    listed = λ k page e. tells plan table page.first page.entries (h.agrees.listed k page e);
    waiting = tells plan table (table.rows.next - length table.waiting) table.waiting h.agrees.waiting;
    blobs = blobs-of plan table table.var h.agrees.blobs;
  };
}
  where
    numbers : (name : RingName) → IfSome (ring_of name (bare_table table)) (λ ring. ring.next + (cond ring.torn 1 0) ≤ 4294967292)
    numbers DataRing = h.numbers DataRing
    numbers IndexRing = h.numbers IndexRing
    numbers VarRing = h.numbers VarRing
    numbers LogRing = tt

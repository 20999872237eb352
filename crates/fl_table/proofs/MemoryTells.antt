-- What a table in memory tells of the table of the model for which it stands.
use Rattle.std.proofs.Common.{◌≡◌, ℕ, ◌+◌, ◌-◌, ◌%◌, ◌<◌, ◌≤◌, ◌==◌, false, Option, Some, option_map, unwrap_or, map, length, get_or, sym, ◌∙◌, ap, arith}
use Rattle.std.proofs.lemmas.List.{ext_get_or}
use Rattle.std.proofs.lemmas.List.FromFn.{length-map-range_with_len, get_or-map-range_with_len}
use Rattle.std.proofs.lemmas.Option.{get_or_from_slice_get}
use Rattle.std.specs.List.{slice_get, sum, count_by, range_with_len}
use Rattle.fl_base.proofs.Tests.{none_from}
use Rattle.fl_flash.specs.Flash.{FlashState}
use Rattle.fl_model.specs.Record.{Plan}
use Rattle.fl_model.specs.Ring as rings
use Rattle.fl_model.specs.Table as model
use Rattle.fl_model.proofs.Lists.{slice_get-some}
use Rattle.fl_ring.specs.Place.{next_of, oldest_of}
use Rattle.fl_ring.specs.declared.ring.Ring.{Ring}
use Rattle.fl_table.specs.Look.{oldest_in, rows_noted, kept_counts, counts_in, counts_of, lost_counts}
use Rattle.fl_table.specs.Memory.{is_running, next_in, pending_in}
use Rattle.fl_table.specs.Standing.{Stands}
use Rattle.fl_table.specs.declared.counts.TableCounts.{TableCounts}
use Rattle.fl_table.specs.declared.table.Table.{Table}
use Rattle.fl_table.proofs.SealAnswers.{counts-room, writer-count}

module _ {KNOTS SLOTS : ℕ} (t : Table KNOTS SLOTS) (f : FlashState) (first : ℕ) (plan : Plan) (table : model.Table) (stands : Stands t f first plan table) where
  pub next-is : next_in t ≡ table.rows.next
  next-is = ap (λ (r : Option Ring). unwrap_or (option_map (λ ring. next_of ring) r) 0) stands.memory.ring_is ∙ stands.memory.next

  pub oldest-is : oldest_in t ≡ rings.oldest table.rows
  oldest-is = ap (λ (r : Option Ring). unwrap_or (option_map (λ ring. oldest_of ring) r) 0) stands.memory.ring_is ∙ stands.memory.oldest

  pub pending-is : pending_in t ≡ table.pending
  pending-is = writer-count t f first plan table stands

  -- how many pages are kept
  pub pages-is : next_in t - oldest_in t ≡ length table.rows.counts
  pages-is = omega (arith, next-is, oldest-is, stands.facts.rows.not_negative)

  -- the count at a number, and at a place
  noted-at : (i count : ℕ) → slice_get table.rows.counts i ≡ Some count → rows_noted t (rings.oldest table.rows + i) ≡ count
  noted-at i count e =
      ap (λ n. get_or t.counts.items ((rings.oldest table.rows + i) % n) 0) (t.counts.ok.0 ∙ counts-room t first plan stands.planned) ∙ stands.memory.counts i count e

  pub noted-is : (number : ℕ) → rings.oldest table.rows ≤ number → number < table.rows.next → slice_get table.rows.counts (number - rings.oldest table.rows) ≡ Some (rows_noted t number)
  noted-is number low high =
      let i = number - rings.oldest table.rows in
      let found = slice_get-some table.rows.counts i (omega (arith, low, high, stands.facts.rows.not_negative)) in
      let same : rings.oldest table.rows + i ≡ number = omega (arith, low) in
      found.1 ∙ ap (λ (n : ℕ). Some n) (sym (noted-at i found.0 found.1) ∙ ap (rows_noted t) same)

  pub kept-is : kept_counts t ≡ table.rows.counts
  kept-is =
      let n = next_in t - oldest_in t in
      ext_get_or 0 (kept_counts t) table.rows.counts (length-map-range_with_len (rows_noted t) (oldest_in t) n ∙ pages-is)
      (λ i lt. at i (omega (arith, lt, length-map-range_with_len (rows_noted t) (oldest_in t) n)))
    where
      at : (i : ℕ) → i < next_in t - oldest_in t → get_or (kept_counts t) i 0 ≡ get_or table.rows.counts i 0
      at i lt =
          let found = slice_get-some table.rows.counts i (omega (arith, lt, pages-is)) in
          get_or-map-range_with_len (rows_noted t) (oldest_in t) (next_in t - oldest_in t) i (rings.oldest table.rows + i) 0 lt (omega (arith, oldest-is))
          ∙ (noted-at i found.0 found.1 ∙ sym (get_or_from_slice_get table.rows.counts i found.0 0 found.1))

  pub counts-is : counts_in t ≡ counts_of table
  counts-is =
      let rows : sum (kept_counts t) + pending_in t ≡ length table.entries = omega (arith, ap sum kept-is, pending-is, stands.facts.counted) in
      let voids : count_by (λ count. count == 0) (kept_counts t) ≡ count_by (λ count. count == 0) table.rows.counts = ap (count_by (λ count. count == 0)) kept-is in
      ap (λ (n : ℕ). record { rows = n; pending = pending_in t; pages = next_in t - oldest_in t; voids = count_by (λ count. count == 0) (kept_counts t) }) rows
      ∙ (ap (λ (n : ℕ). record { rows = length table.entries; pending = n; pages = next_in t - oldest_in t; voids = count_by (λ count. count == 0) (kept_counts t) }) pending-is
      ∙ (ap (λ (n : ℕ). record { rows = length table.entries; pending = table.pending; pages = n; voids = count_by (λ count. count == 0) (kept_counts t) }) pages-is
      ∙ ap (λ (n : ℕ). record { rows = length table.entries; pending = table.pending; pages = length table.rows.counts; voids = n }) voids))

-- what was counted over all kept pages
pub counts-told : {KNOTS SLOTS : ℕ} (t : Table KNOTS SLOTS) (counts : TableCounts) (n : ℕ) → n ≡ next_in t - oldest_in t → counts.rows ≡ sum (map (rows_noted t) (range_with_len (oldest_in t) n)) + pending_in t → counts.pending ≡ pending_in t → counts.pages ≡ next_in t - oldest_in t →
    counts.voids ≡ count_by (λ count. count == 0) (map (rows_noted t) (range_with_len (oldest_in t) n)) → counts ≡ counts_in t
counts-told t counts n last rows pending pages voids =
    let with_rows : ℕ → TableCounts = λ k. record { rows = k; pending = counts.pending; pages = counts.pages; voids = counts.voids } in
    let with_pending : ℕ → TableCounts = λ k. record { rows = sum (kept_counts t) + pending_in t; pending = k; pages = counts.pages; voids = counts.voids } in
    let with_pages : ℕ → TableCounts = λ k. record { rows = sum (kept_counts t) + pending_in t; pending = pending_in t; pages = k; voids = counts.voids } in
    let with_voids : ℕ → TableCounts = λ k. record { rows = sum (kept_counts t) + pending_in t; pending = pending_in t; pages = next_in t - oldest_in t; voids = k } in
    ap with_rows (rows ∙ ap (λ k. sum (map (rows_noted t) (range_with_len (oldest_in t) k)) + pending_in t) last)
    ∙ (ap with_pending pending ∙ (ap with_pages pages ∙ ap with_voids (voids ∙ ap (λ k. count_by (λ count. count == 0) (map (rows_noted t) (range_with_len (oldest_in t) k))) last)))

-- what a table with this ring counts
abbrev counts-by : {KNOTS SLOTS : ℕ} → Table KNOTS SLOTS → Option Ring → TableCounts
counts-by t ring =
    let from = unwrap_or (option_map (λ r. oldest_of r) ring) 0 in
    let many = unwrap_or (option_map (λ r. next_of r) ring) 0 - from in
    let counts = map (rows_noted t) (range_with_len from many) in
    record { rows = sum counts + pending_in t; pending = pending_in t; pages = many; voids = count_by (λ count. count == 0) counts }

-- .. and one without a ring
pub counts-lost : {KNOTS SLOTS : ℕ} (t : Table KNOTS SLOTS) → is_running t ≡ false → counts_in t ≡ lost_counts t
counts-lost t e = ap (counts-by t) (none_from t.ring e) ∙ ap (λ (rows : ℕ). record { rows = rows; pending = pending_in t; pages = 0; voids = 0 }) (let z : 0 + pending_in t ≡ pending_in t = omega arith in z)

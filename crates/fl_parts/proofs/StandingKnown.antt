-- Where a flash stands for a table, what a mount knows in the end is the table's.
use Rattle.std.proofs.Common.{◌≡◌, ℕ, ◌+◌, ◌%◌, Some, None, List, length, option_map, ◌∙◌, subst, arith}
use Rattle.std.specs.Prelude.{slice_index}
use Rattle.std.specs.List.{slice_get}
use Rattle.fl_find.specs.Index.{IndexOf}
use Rattle.fl_find.specs.declared.index.KeyIndex.{KeyIndex}
use Rattle.fl_model.specs.Mount.{blob_end}
use Rattle.fl_model.specs.Spline.{points_of, voids_of}
use Rattle.fl_model.specs.Table.{Table, Entry, last_entry}
use Rattle.fl_model.proofs.Lists.{slice_get-short}
use Rattle.fl_parts.specs.ByEntries.{Come}
use Rattle.fl_parts.specs.Knowing.{KnowsWith}
use Rattle.fl_parts.specs.declared.known.Known.{Known}
use Rattle.fl_parts.proofs.KeyOrder.{key-last}
use Rattle.fl_parts.proofs.WaitingPageComes.{knows-all, points-all}
use Rattle.fl_parts.proofs.StandingMount.{IsOf, count-of}
use Rattle.fl_parts.proofs.StandingKeys.{last-known}
use Rattle.fl_parts.proofs.StandingTotals.{are-all}

pub record KnowsTable {KNOTS SLOTS : ℕ} (error : ℕ) (c : Come) (table : Table) (known : Known) (counts : List ℕ) (index : KeyIndex KNOTS SLOTS) : Type 0 where
  pub rows : known.rows ≡ length table.entries
  pub voids : known.voids ≡ voids_of table
  pub last : known.last ≡ option_map (λ (entry : Entry). entry.kept.key) (last_entry table)
  pub blob_end : known.blob_end ≡ blob_end table
  pub points : IndexOf error (points_of table) index
  pub noted : (i count : ℕ) → slice_get table.rows.counts i ≡ Some count → slice_index counts ((c.oldest + i) % length counts) ≡ count

pub knows-table : {KNOTS SLOTS : ℕ} (error : ℕ) (c : Come) (table : Table) (known : Known) (counts : List ℕ) (index : KeyIndex KNOTS SLOTS) → IsOf c table → KnowsWith error c c.index_pages c.pages known counts index → known.newest ≡ None →
    KnowsTable error c table known counts index
knows-table error c table known counts index is knows none =
    let all = knows-all error c c.index_pages c.pages known counts index knows none in
    let totals = are-all c table is in
    record {
      rows = all.counted.rows ∙ totals.rows;
      voids = all.voids ∙ totals.voids;
      last = all.counted.last ∙ (last-known c table is ∙ key-last table.entries);
      blob_end = all.blob_end ∙ totals.end;
      points = subst (λ (points : List (ℕ × ℕ)). IndexOf error points index) totals.points (points-all error c c.index_pages c.pages known counts index knows none);
      noted = λ i count e. all.counted.noted i (omega arith) (omega (arith, slice_get-short table.rows.counts i count e, is.pages)) ∙ count-of c table is i count e;
    }

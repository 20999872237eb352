-- How many pages the rings of a table with a log keep, of the table of the model for which it stands.
use Rattle.std.proofs.Common.{◌≡◌, ℕ, ◌+◌, Option, Some, None, option_map, length, sym, ◌∙◌, ap}
use Rattle.std.specs.Prelude.{nat_lt}
use Rattle.fl_flash.specs.Flash.{FlashState}
use Rattle.fl_model.specs.Bare.{bare, bare_table}
use Rattle.fl_model.specs.Facts.{is_some_ring}
use Rattle.fl_model.specs.Record.{Plan, blocks_of}
use Rattle.fl_model.specs.Ring.{Ring}
use Rattle.fl_model.specs.Table as model
use Rattle.fl_table.specs.Rings as unlogged
use Rattle.fl_table.specs.declared.rings.TableRings.{TableRings}
use Rattle.fl_parts.proofs.RingsKept.{no-ring, kept-length}
use Rattle.fl_table.proofs.RingsKept.{rings-are}
use Rattle.fl_rlc.specs.Logged.{LogStands, Stands}
use Rattle.fl_rlc.specs.Memory.{next_in, oldest_in}
use Rattle.fl_rlc.specs.Rings.{log_pages, rings_in, rings_of}
use Rattle.fl_rlc.specs.declared.log.RecordLog.{RecordLog}
use Rattle.fl_rlc.specs.declared.rings.RingCounts.{RingCounts}
use Rattle.fl_rlc.specs.declared.table.LoggedTable.{LoggedTable}

log-kept : (o : Option RecordLog) (f : FlashState) (first : ℕ) (plan : Plan) (table : model.Table) → is_some_ring table.log ≡ nat_lt 0 plan.log_blocks → LogStands o f first plan table →
    log_pages o ≡ option_map (λ (ring : Ring). length ring.counts) table.log
log-kept None f first plan table has stands = sym (no-ring (λ (ring : Ring). length ring.counts) table.log plan.log_blocks has stands)
log-kept (Some log) f first plan table has stands =
    let s = stands.0.ring in
    ap (λ (n : ℕ). Some n) (kept-length (next_in log) (oldest_in log) s.ring s.pages.facts.not_negative s.next s.oldest_is)
    ∙ sym (ap (option_map (λ (ring : Ring). length ring.counts)) s.ring_is)

abbrev pub of_counts : TableRings → Option ℕ → RingCounts
of_counts rings log = record { table = rings; log = log }

-- what was asked of each ring
pub rings-told : {KNOTS SLOTS : ℕ} (t : LoggedTable KNOTS SLOTS) (rings : TableRings) (log : Option ℕ) → rings ≡ unlogged.rings_in t.table → log ≡ log_pages t.log → of_counts rings log ≡ rings_in t
rings-told t rings log a b = ap (λ (r : TableRings). of_counts r log) a ∙ ap (λ (o : Option ℕ). of_counts (unlogged.rings_in t.table) o) b

pub logged-rings-are : {KNOTS SLOTS : ℕ} (t : LoggedTable KNOTS SLOTS) (f : FlashState) (first : ℕ) (plan : Plan) (table : model.Table) → Stands t f first plan table → rings_in t ≡ rings_of table
logged-rings-are t f first plan table stands =
    ap (λ (r : TableRings). of_counts r (log_pages t.log)) (rings-are t.table f first (bare plan) (bare_table table) stands.unlogged)
    ∙ ap (λ (o : Option ℕ). of_counts (unlogged.rings_of table) o) (log-kept t.log f (first + blocks_of (bare plan)) plan table stands.facts.has_rings.2 stands.log)

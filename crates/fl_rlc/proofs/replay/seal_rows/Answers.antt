use Rattle.std.proofs.Common.{◌≡◌, Bool, true, not, ◌&&◌, Result, Ok, Err, ◌∙◌, ap, subst, sym, pos_of_ne-zero}
use Rattle.fl_table.specs.Causes.{FlushCausedBy, flush_breaks}
use Rattle.fl_table.specs.Outcomes.{FlushEnds}
use Rattle.fl_table.specs.declared.faults.FlushFault.{FlushFault}
use Rattle.fl_table.specs.Memory.{is_running, pending_in}
use Rattle.fl_parts.proofs.Sizes.{table-fits}
use Rattle.std.proofs.lemmas.Bool.{true≢false}
use Rattle.std.proofs.Math.Bool.{and-false}
use Rattle.fl_rlc.proofs.replay.seal_rows.Goals as goal

pub returns-in-Ok-clause-ends : goal.returns-in-Ok-clause-ends
returns-in-Ok-clause-ends g c = λ first plan b rose device watched s. c.in-Ok.ensures.flush first plan b rose device watched s

pub returns-in-Err-Flash-clause-ends : goal.returns-in-Err-Flash-clause-ends
returns-in-Err-Flash-clause-ends g c = λ first plan b rose device watched s.
    subst (λ (e : FlushFault). FlushEnds first plan b rose device (Err e) c.flush.new.self (g.F.Flash.state c.args.flash.now) (g.F.Flash.state c.flush.new.flash)) c.in-Err-Flash.field-0-is (c.in-Err-Flash.ensures.flush first plan b rose device watched s)

pub returns-in-Ok-clause-sealed : goal.returns-in-Ok-clause-sealed
returns-in-Ok-clause-sealed g c = record {
  quiet = λ none. let h = c.in-Ok.ensures.page.quiet c.requires.running none in (h.1, h.2);
  sealed = c.in-Ok.ensures.memory.seals;
  none = c.in-Ok.ensures.memory.none;
  flushed = c.in-Ok.ensures.page.sealed;
}

pub returns-in-Ok-clause-writes : goal.returns-in-Ok-clause-writes
returns-in-Ok-clause-writes g c = c.in-Ok.ensures.flash.writes

pub returns-in-Err-Flash-clause-writes : goal.returns-in-Err-Flash-clause-writes
returns-in-Err-Flash-clause-writes g c = c.in-Err-Flash.ensures.flash.writes

pub returns-in-Err-Flash-clause-some : goal.returns-in-Err-Flash-clause-some
returns-in-Err-Flash-clause-some g c = pos_of_ne-zero {n = pending_in c.args.table.now} (λ none. no c.in-Err-Flash.field-0 (c.in-Err-Flash.ensures.page.quiet c.requires.running none).0)
  where
    no : (e : FlushFault) → ◌≡◌ {A = Result (Unit {0}) FlushFault} (Err e) (Ok tt) → ⊥
    no e k = cc

pub returns-in-Ok-clause-goes : goal.returns-in-Ok-clause-goes
returns-in-Ok-clause-goes g c = c.in-Ok.ensures.flash.goes

pub returns-in-Ok-clause-reads : goal.returns-in-Ok-clause-reads
returns-in-Ok-clause-reads g c = c.in-Ok.ensures.flash.reads

pub returns-in-Ok-clause-media_reads : goal.returns-in-Ok-clause-media_reads
returns-in-Ok-clause-media_reads g c = c.in-Ok.ensures.flash.media_reads

pub returns-in-Ok-clause-outside : goal.returns-in-Ok-clause-outside
returns-in-Ok-clause-outside g c = c.in-Ok.ensures.flash.outside

pub returns-in-Ok-clause-same : goal.returns-in-Ok-clause-same
returns-in-Ok-clause-same g c = c.in-Ok.ensures.table.same

pub returns-in-Ok-clause-lies : goal.returns-in-Ok-clause-lies
returns-in-Ok-clause-lies g c = c.in-Ok.ensures.table.lies

pub returns-in-Err-Flash-clause-goes : goal.returns-in-Err-Flash-clause-goes
returns-in-Err-Flash-clause-goes g c = c.in-Err-Flash.ensures.flash.goes

pub returns-in-Err-Flash-clause-reads : goal.returns-in-Err-Flash-clause-reads
returns-in-Err-Flash-clause-reads g c = c.in-Err-Flash.ensures.flash.reads

pub returns-in-Err-Flash-clause-media_reads : goal.returns-in-Err-Flash-clause-media_reads
returns-in-Err-Flash-clause-media_reads g c = c.in-Err-Flash.ensures.flash.media_reads

pub returns-in-Err-Flash-clause-outside : goal.returns-in-Err-Flash-clause-outside
returns-in-Err-Flash-clause-outside g c = c.in-Err-Flash.ensures.flash.outside

pub returns-in-Err-Flash-clause-same : goal.returns-in-Err-Flash-clause-same
returns-in-Err-Flash-clause-same g c = c.in-Err-Flash.ensures.table.same

pub returns-in-Err-Flash-clause-lies : goal.returns-in-Err-Flash-clause-lies
returns-in-Err-Flash-clause-lies g c = c.in-Err-Flash.ensures.table.lies

pub returns-in-Ok-clause-running : goal.returns-in-Ok-clause-running
returns-in-Ok-clause-running g c = c.in-Ok.ensures.table.running ∙ ap (λ (b : Bool). b && true) c.requires.running

pub returns-in-Ok-clause-calm : goal.returns-in-Ok-clause-calm
returns-in-Ok-clause-calm g c = c.in-Ok.ensures.table.stopped

pub returns-in-Ok-clause-power : goal.returns-in-Ok-clause-power
returns-in-Ok-clause-power g c = c.in-Ok.ensures.flash.power

pub returns-in-Ok-clause-cause : goal.returns-in-Ok-clause-cause
returns-in-Ok-clause-cause g c = tt

pub returns-in-Ok-clause-some : goal.returns-in-Ok-clause-some
returns-in-Ok-clause-some g c = tt

pub returns-in-Err-Flash-clause-calm : goal.returns-in-Err-Flash-clause-calm
returns-in-Err-Flash-clause-calm g c = tt

pub returns-in-Err-Flash-clause-power : goal.returns-in-Err-Flash-clause-power
returns-in-Err-Flash-clause-power g c = tt

pub returns-in-Err-Flash-clause-sealed : goal.returns-in-Err-Flash-clause-sealed
returns-in-Err-Flash-clause-sealed g c = tt

pub returns-in-Err-Flash-clause-running : goal.returns-in-Err-Flash-clause-running
returns-in-Err-Flash-clause-running g c =
    subst (λ (e : FlushFault). is_running c.flush.new.self ≡ (is_running c.args.table.now && not (flush_breaks (Err e)))) c.in-Err-Flash.field-0-is c.in-Err-Flash.ensures.table.running ∙ and-false (is_running c.args.table.now)

pub returns-in-Err-Flash-clause-cause : goal.returns-in-Err-Flash-clause-cause
returns-in-Err-Flash-clause-cause g c =
    subst (λ (e : FlushFault). FlushCausedBy (g.F.Flash.state c.args.flash.now) e (g.F.Flash.state c.flush.new.flash)) c.in-Err-Flash.field-0-is c.in-Err-Flash.ensures.flash.cause

pub flush-requires : goal.flush-requires
flush-requires g c = (table-fits g.row.KNOTS g.row.SLOTS c.args.table.now.few_knots c.args.table.now.few_slots, c.requires.lies)

pub unreachable-requires : goal.unreachable-requires
unreachable-requires g c = true≢false (sym c.requires.running ∙ c.in-Err-Stopped.ensures.exact.0 (ap (λ (e : FlushFault). Err e) c.in-Err-Stopped.field-0-is))

pub unreachable-unreachable : goal.unreachable-unreachable
unreachable-unreachable g c = c.unreachable.type_inv

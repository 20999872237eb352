use Rattle.std.proofs.Common.{◌≡◌, Some, ap, refl, inr, ◌∙◌, slice_get}
use Rattle.fl_flash.specs.declared.flash.Work.{Work}
use Rattle.fl_session.proofs.NamedTable.{reached-here, reached-within}
use Rattle.fl_session.proofs.StatReply.{stat-call, stat-refused}
use Rattle.fl_session.proofs.ReplyCauses.{on-refusal, is-here}
use Rattle.fl_words.specs.Reply as reply
use Rattle.fl_table.specs.declared.counts.TableCounts.{TableCounts}
use Rattle.fl_rlc.specs.Table.{table_in}
use Rattle.fl_table.specs.Look.{counts_in}
use Rattle.fl_table.specs.declared.table.Table.{Table}
use Rattle.fl_session.proofs.session.Session.stat.Goals as goal

pub returns-in-Err-clause-step : goal.returns-in-Err-clause-step
returns-in-Err-clause-step g c = λ config old h. stat-refused config old _ _ _ _ c.args.name c.in-Err.refusal h c.in-Err.ensures

pub index-requires : goal.index-requires
index-requires g c = reached-within c.args.self.now.tables.entries.items _ _ _ c.in-Ok.at c.args.self.now.tables.entries.ok.0 c.in-Ok.ensures

pub returns-clause-step : goal.returns-clause-step
returns-clause-step g c = λ config old h.
    let here : slice_get c.args.self.now.tables.entries.items c.in-Ok.at ≡ Some c.index.result.now = reached-here c.args.self.now.tables.entries.items _ _ c.in-Ok.at c.index.result.now c.in-Ok.ensures c.index.ensures in
    stat-call config old _ c.in-Ok.at c.index.result.now c.table.result.now c.args.name _ _ _ c.counts-counts.result c.work-work.result.programs c.work-work.result.erases h c.in-Ok.ensures here c.table.ensures c.counts-counts.ensures.stands
    (ap (λ (w : Work). w.programs) c.work-work.ensures) (ap (λ (w : Work). w.erases) c.work-work.ensures)

pub returns-in-Err-clause-cause : goal.returns-in-Err-clause-cause
returns-in-Err-clause-cause g c = on-refusal _ c.args.name _ c.in-Err.refusal c.in-Err.ensures

pub returns-clause-cause : goal.returns-clause-cause
returns-clause-cause g c =
    let here : slice_get c.args.self.now.tables.entries.items c.in-Ok.at ≡ Some c.index.result.now = reached-here c.args.self.now.tables.entries.items _ _ c.in-Ok.at c.index.result.now c.in-Ok.ensures c.index.ensures in
    let counts = c.counts-counts.result in
    record {
      reply = reply.Stat counts.rows counts.pending counts.pages counts.voids c.work-work.result.programs c.work-work.result.erases;
      said_is = refl;
      holds = inr (
        c.in-Ok.at,
        c.index.result.now,
        is-here _ c.args.name c.in-Ok.at c.index.result.now c.in-Ok.ensures here,
        (
          refl,
          ap (λ (k : TableCounts). reply.Stat k.rows k.pending k.pages k.voids c.work-work.result.programs c.work-work.result.erases) (c.counts-counts.ensures.exact ∙ ap (λ (t : Table 64 64). counts_in t) c.table.ensures)
              ∙ ap (λ (w : Work). let k = counts_in (table_in c.index.result.now.table) in reply.Stat k.rows k.pending k.pages k.voids w.programs w.erases) c.work-work.ensures,
        ),
      );
    }

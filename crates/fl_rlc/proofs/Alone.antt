-- A table without a log: its calls end as those of the table itself.
use Rattle.std.proofs.Common.{◌≡◌, ℕ, ◌+◌, Option, None, IfSome, sym, ◌∙◌, ap, subst}
use Rattle.std.proofs.lemmas.Option.{none-some}
use Rattle.fl_flash.specs.Flash.{FlashState, page_at}
use Rattle.fl_flash.specs.declared.flash.FlashFault.{FlashFault}
use Rattle.fl_model.specs.Bare.{bare, bare_table}
use Rattle.fl_model.specs.Image.{IsRingImage, HoldsLogged}
use Rattle.fl_model.specs.Record.{Plan, blocks_of}
use Rattle.fl_model.specs.Ring.{Ring}
use Rattle.fl_model.specs.Table.{Table, LogRing, shape_of, lose}
use Rattle.fl_model.specs.Work.{PartProgress}
use Rattle.fl_parts.specs.Failing as failing
use Rattle.fl_table.specs.Outcomes as bare_outcomes
use Rattle.fl_parts.specs.Pages.{bytes_in}
use Rattle.fl_table.specs.Standing as without_log
use Rattle.fl_table.specs.declared.table.Table as code
use Rattle.fl_parts.proofs.Bare.{bare-table}
use Rattle.fl_rlc.specs.Logged.{Stands, LogStands}
use Rattle.fl_rlc.specs.Outcomes.{Finishes, Breaks}
use Rattle.fl_rlc.specs.declared.log.RecordLog.{RecordLog}
use Rattle.fl_rlc.specs.declared.table.LoggedTable.{LoggedTable}
use Rattle.fl_rlc.proofs.Assembled.{bare-same}

-- a plan without a log is its own bare plan
plan-same : (plan : Plan) → plan.log_blocks ≡ 0 → bare plan ≡ plan
plan-same plan none = ap (λ (n : ℕ). record plan { log_blocks = n }) (sym none)

-- what a call does, by the plan and the table
module _ {KNOTS SLOTS : ℕ} (t : LoggedTable KNOTS SLOTS) (f : FlashState) (first : ℕ) (plan : Plan) (table : Table) (h : Stands t f first plan table) (none : plan.log_blocks ≡ 0) (Did : Plan → Table → PartProgress Table → Type 0) where
  table-same : bare_table table ≡ table
  table-same = bare-same plan table none h.facts

  pub alone-finishes : (after : Plan → Table → Table) (now : LoggedTable KNOTS SLOTS) (u : code.Table KNOTS SLOTS) (new : FlashState) → now.table ≡ u → now.log ≡ None →
      bare_outcomes.Finishes first (bare plan) (Did (bare plan) (bare_table table)) (bare_table table) (after (bare plan) (bare_table table)) u f new → Finishes first plan (Did plan table) table (after plan table) now f new
  alone-finishes after now u new u_is l_is p =
      let q : bare_outcomes.Finishes first plan (Did plan table) table (after plan table) u f new =
      subst (λ (x : Table). bare_outcomes.Finishes first plan (Did plan x) x (after plan x) u f new) table-same
      (subst (λ (x : Plan). bare_outcomes.Finishes first x (Did x (bare_table table)) (bare_table table) (after x (bare_table table)) u f new) (plan-same plan none) p) in
      record {
        now = q.now;
        did = q.did;
        whole = q.whole;
        counts = q.counts;
        power = q.power;
        stands = record {
          unlogged = subst (λ (x : code.Table KNOTS SLOTS). without_log.Stands x new first (bare plan) (bare_table (after plan table))) (sym u_is)
              (subst (λ (x : Plan). without_log.Stands u new first x (bare_table (after plan table))) (sym (plan-same plan none))
              (subst (λ (x : Table). without_log.Stands u new first plan x) (sym (bare-same plan (after plan table) none q.stands.facts)) q.stands));
          facts = q.stands.facts;
          log = subst (λ (o : Option RecordLog). LogStands o new (first + blocks_of (bare plan)) plan (after plan table)) (sym l_is) none;
        };
        stand = q.stand;
        log = λ a b e k. absurd (none-some a (sym (bare-table plan table none h.facts).0 ∙ e));
      }

  pub alone-breaks : (fault : FlashFault) (new : FlashState) → failing.Breaks first (bare plan) (Did (bare plan) (bare_table table)) fault new → Breaks first plan (Did plan table) fault new
  alone-breaks fault new p =
      let q : failing.Breaks first plan (Did plan table) fault new =
      subst (λ (x : Table). failing.Breaks first plan (Did plan x) fault new) table-same
      (subst (λ (x : Plan). failing.Breaks first x (Did x (bare_table table)) fault new) (plan-same plan none) p) in
      record {
        now = q.now;
        did = q.did;
        answer = q.answer;
        counts = q.counts;
        rests = record {
          settled = q.rests.settled;
          pages = q.rests.pages;
          log = subst (λ (o : Option Ring). IfSome o (λ r. IsRingImage (shape_of plan LogRing) r (bytes_in (page_at new) first plan LogRing) (HoldsLogged plan (lose q.now.state) r))) (sym (bare-table plan (lose q.now.state) none q.rests.settled.facts).0) tt;
        };
      }

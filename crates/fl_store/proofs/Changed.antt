-- A mounted table of an image that was changed, while those beside it stand.
use Rattle.std.proofs.Common.{◌≡◌, ℕ, true, false, IsTrue, Some, List, map, refl, slice_get}
use Rattle.fl_store.specs.Store.{at_rest}
use Rattle.fl_store.proofs.Risen.{has_risen, mounts-unarmed}
use Rattle.fl_flash.specs.Flash.{FlashState, Goes, page_at}
use Rattle.fl_machine.specs.Step.{all_ready}
use Rattle.fl_model.specs.Mount.{turns_from}
use Rattle.fl_model.specs.Record.{Plan}
use Rattle.fl_model.specs.Table as model
use Rattle.fl_model.specs.Table.{lose}
use Rattle.fl_model.specs.Within.{with_table}
use Rattle.fl_rlc.specs.Logged.{Rests}
use Rattle.fl_rlc.specs.Table.{IsSamePlan, OutsideStands}
use Rattle.fl_rlc.specs.declared.table.LoggedTable.{LoggedTable}
use Rattle.fl_store.specs.Tables.{first_of, entries_with, TablesStand, TablesMounted}
use Rattle.fl_store.specs.declared.tables.Entry.{Entry}
use Rattle.fl_store.proofs.Called.{tables-broken}
use Rattle.fl_store.proofs.TablesChanged.{AtPlace, at-place}
use Rattle.fl_store.specs.Works.{Works}

module _ (plans : List Plan) (tables : List model.Table) (f m : FlashState) (now : List Entry) (at : ℕ) (entry : Entry) (tells : IsTrue m.media.tells) (here : slice_get now at ≡ Some entry) (mt : TablesMounted plans tables (has_risen f m) at_rest now m) where
  abbrev pub ready_tables : List model.Table
  ready_tables = all_ready plans mt.end.tables

  pub own : AtPlace m (λ i. true) plans now ready_tables at entry
  own = at-place m (λ i. true) plans now ready_tables at entry mt.stand here

  pub own-works : Works entry.table m (first_of plans at) own.plan own.table
  own-works = record {
    stands = own.stands.on_flash;
    told = tells;
    power = mt.power;
    device = mt.end.device;
    counts = mt.counts;
    unarmed = mounts-unarmed plans (has_risen f m) (turns_from 0 plans) at_rest tables mt.end refl mt.did;
  }

  module _ (h : FlashState) (u : LoggedTable 64 64) (goes : Goes m h) (same : IsSamePlan entry.table u) (outside : IsTrue m.media.tells → OutsideStands entry.table (page_at m) (page_at h)) (after : model.Table) (rests : Rests h (first_of plans at) own.plan (lose after)) where
    pub holds : TablesStand h (λ i. false) plans (entries_with now at entry u) (map lose (with_table at ready_tables after))
    holds = tables-broken plans ready_tables now at entry own.plan own.table u m h mt.stand here own.plan_is own.table_is goes same (outside tells) after rests

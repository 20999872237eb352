-- Tables that were made for the lines of one configuration: they have the same names and rows.
use Rattle.std.proofs.Common.{◌≡◌, ℕ, Bool, true, false, ◌||◌, not, Some, List, length, refl, sym, ◌∙◌, ap, arith}
use Rattle.std.specs.List.{slice_get}
use Rattle.std.proofs.lemmas.Option.{slice_get_within}
use Rattle.fl_store.proofs.TableByName.{new-named, first-named}
use Rattle.fl_model.specs.Bare.{bare}
use Rattle.fl_model.specs.Record.{Plan, RowLayout, has_log, has_var, row_layout}
use Rattle.fl_model.proofs.Lists.{slice_get-some}
use Rattle.fl_rlc.specs.Table.{table_in}
use Rattle.fl_table.specs.Look.{layout_in}
use Rattle.fl_store.specs.Mounting.{AreSamePlans}
use Rattle.fl_store.specs.Tables.{AreNewTables, IsNamed}
use Rattle.fl_store.specs.declared.tables.Entry.{Entry}
use Rattle.fl_words.specs.Config.{Lines}
use Rattle.fl_ship.specs.Ends.{is_shipped}
use Rattle.fl_ship.specs.Tables.{HaveOneForm}

-- ---- names

-- the first table with a name has the same place in both
pub named-alike : (entries others : List Entry) (lines : Lines) → AreNewTables entries lines → AreNewTables others lines → (name : List ℕ) (at : ℕ) → IsNamed entries name at → IsNamed others name at
named-alike entries others lines made beside name at named =
    let within = slice_get_within entries at named.entry named.here in
    let plan = slice_get-some lines.plans at (omega (arith, within, made.as_many)) in
    let entry = slice_get-some others at (omega (arith, within, made.as_many, beside.as_many)) in
    let own = first-named lines.plans entries (new-named entries lines made) name at named plan.0 plan.1 in
    record {
      entry = entry.0;
      here = entry.1;
      named = sym (beside.each at plan.0 entry.0 plan.1 entry.1).named ∙ own.0;
      first = λ i other lt e k.
          let p = slice_get-some lines.plans i (omega (arith, slice_get_within others i other e, beside.as_many)) in
          own.1 i p.0 lt p.1 ((beside.each i p.0 other p.1 e).named ∙ k);
    }

-- ---- the form of their rows

rowed : (entries : List Entry) (lines : Lines) → AreNewTables entries lines → (at : ℕ) (entry : Entry) (plan : Plan) → slice_get entries at ≡ Some entry → slice_get lines.plans at ≡ Some plan → row_layout (bare plan) ≡ layout_in (table_in entry.table)
rowed entries lines made at entry plan e p = (made.each at plan entry p e).planned.table.layout

no-var : (var log : Bool) → not (var || log) ≡ true → var ≡ false
no-var true log is = absurd (cc is)
no-var false log is = refl

pub one-form : (entries others : List Entry) (lines : Lines) → AreNewTables entries lines → AreNewTables others lines → (at : ℕ) → ((plan : Plan) → slice_get lines.plans at ≡ Some plan → is_shipped plan ≡ true) → HaveOneForm entries others at
one-form entries others lines made beside at shipped source copy e k =
    let plan = slice_get-some lines.plans at (omega (arith, slice_get_within entries at source e, made.as_many)) in
    let own = rowed entries lines made at source plan.0 e plan.1 in
    let other = rowed others lines beside at copy plan.0 k plan.1 in
    (sym own ∙ other, sym (ap (λ (l : RowLayout). l.blobs) other) ∙ no-var (has_var plan.0) (has_log plan.0) (shipped plan.0 plan.1))

-- .. also after a mount
pub form-after : (entries now others others_now : List Entry) (at : ℕ) (source copy : Entry) → HaveOneForm entries others at → length entries ≡ length now → length others ≡ length others_now → AreSamePlans entries now → AreSamePlans others others_now → slice_get now at ≡ Some source → slice_get others_now at ≡ Some copy →
    (layout_in (table_in source.table) ≡ layout_in (table_in copy.table)) × ((layout_in (table_in copy.table)).blobs ≡ false)
form-after entries now others others_now at source copy form many others_many same others_same e k =
    let was = slice_get-some entries at (omega (arith, slice_get_within now at source e, many)) in
    let beside = slice_get-some others at (omega (arith, slice_get_within others_now at copy k, others_many)) in
    let own = (same at was.0 source was.1 e).table.layout in
    let other = (others_same at beside.0 copy beside.1 k).table.layout in
    let is = form was.0 beside.0 was.1 beside.1 in
    (own ∙ (is.0 ∙ sym other), ap (λ (l : RowLayout). l.blobs) other ∙ is.1)

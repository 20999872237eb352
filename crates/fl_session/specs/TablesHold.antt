-- Each table of a state for which a session stands is one of its plan, whose keys have four or eight bytes.
use Rattle.std.proofs.Common.{◌≡◌, ◌<◌, ◌≤◌, ℕ, Bool, true, false, MatchBool, Some, List, ap, subst, sym, arith, slice_get}
use Rattle.std.proofs.lemmas.Option.{slice_get_within}
use Rattle.fl_flash.specs.Flash.{FlashState}
use Rattle.fl_machine.specs.Machine.{Machine}
use Rattle.fl_machine.specs.Small.{AreTables}
use Rattle.fl_model.proofs.Lists.{slice_get-some}
use Rattle.fl_model.specs.Facts.{IsTable}
use Rattle.fl_model.specs.Record.{Config, Plan, RowLayout}
use Rattle.fl_model.specs.Table.{Table}
use Rattle.fl_rlc.specs.Logged.{Rests, Stands}
use Rattle.fl_schema.specs.Form.{key_width}
use Rattle.fl_schema.specs.declared.schema.KeyWidth.{KeyWidth}
use Rattle.fl_schema.specs.declared.schema.KeyWidth.TheVariants.{Four, Eight}
use Rattle.fl_store.specs.Tables.{first_of}
use Rattle.fl_store.specs.declared.tables.Entry.{Entry}
use Rattle.fl_session.specs.Standing.{SessionStands}
use Rattle.fl_session.specs.declared.notes.Notes.{Notes}

-- whether it is mounted or not
table-holds : (mounted : Bool) (entry : Entry) (f : FlashState) (first : ℕ) (plan : Plan) (table : Table) → MatchBool mounted (Stands entry.table f first plan table) (Rests f first plan table) → IsTable plan table
table-holds true entry f first plan table h = h.facts
table-holds false entry f first plan table h = h.settled.facts

pub tables-hold : (config : Config) (entries : List Entry) (f : FlashState) (mounted : Bool) (notes : Notes) (m : Machine) → SessionStands config entries f mounted notes m → AreTables config.plans m.tables
tables-hold config entries f mounted notes m h place plan table p t =
    let entry = slice_get-some entries place (subst (λ n. place < n) (sym h.tables.as_many) (slice_get_within config.plans place plan p)) in
    table-holds mounted entry.0 f (first_of config.plans place) plan table (h.tables.each place plan entry.0 table p entry.1 t).on_flash

eight-bytes : (width : KeyWidth) → key_width width ≤ 8
eight-bytes Four = omega arith
eight-bytes Eight = omega arith

pub keys-fit : (config : Config) (entries : List Entry) (f : FlashState) (mounted : Bool) (notes : Notes) (m : Machine) → SessionStands config entries f mounted notes m → (place : ℕ) (plan : Plan) → slice_get config.plans place ≡ Some plan → plan.key_bytes ≤ 8
keys-fit config entries f mounted notes m h place plan p =
    let within = slice_get_within config.plans place plan p in
    let entry = slice_get-some entries place (subst (λ n. place < n) (sym h.tables.as_many) within) in
    let table = slice_get-some m.tables place (subst (λ n. place < n) (sym h.tables.all) within) in
    let planned = (h.tables.each place plan entry.0 table.0 p entry.1 table.1).planned in
    subst (λ n. n ≤ 8) (sym (ap (λ (l : RowLayout). l.key_bytes) planned.table.layout)) (eight-bytes _)

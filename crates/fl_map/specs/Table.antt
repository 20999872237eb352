-- The map of a table: its rings, and what a check finds.
use Rattle.std.specs.Prelude.{ℕ, Option, Some, None, List}
use Rattle.fl_base.specs.declared.types.RingPlace.{RingPlace}
use Rattle.fl_check.specs.declared.finding.Finding.{Finding}
use Rattle.fl_check.specs.declared.finding.Finding.TheVariants.{Sound, Fault}
use Rattle.fl_check.specs.declared.finding.RingName.{RingName}
use Rattle.fl_check.specs.declared.finding.RingName.TheVariants.{Index, Data, Var, Log}
use Rattle.fl_model.specs.Record.{row_len}
use Rattle.fl_plan.specs.Plan.{plan_of_table}
use Rattle.fl_plan.specs.Refusal.{nameless}
use Rattle.fl_plan.specs.declared.table_config.TableConfig.{TableConfig}
use Rattle.fl_ring.specs.Mounting.{shape_at}
use Rattle.fl_ring.specs.Ring.{room}
use Rattle.fl_map.specs.declared.drawing.Drawing.{Drawing}
use Rattle.fl_map.specs.Drawn.{Drawn, with_ring, with_words}
use Rattle.fl_map.specs.Finding.{title_text, fault_text, fault_page}
use Rattle.fl_map.specs.Pages.{states_to, note_of}

-- the ring of a table at this place, which has rows of so many bytes, if it has rows
abbrev pub with_place : Drawing → List ℕ → TableConfig → (ℕ → List ℕ) → Finding → RingName → Option ℕ → RingPlace → Drawn → Drawn
with_place drawing name config page finding ring row_len place d =
    let r = shape_at place config.geometry in
    with_ring drawing (title_text name ring) (note_of row_len r page (fault_page finding)) (states_to page r.first (room r)) d

-- .. where there is one
abbrev pub with_place_if : Drawing → List ℕ → TableConfig → (ℕ → List ℕ) → Finding → RingName → Option RingPlace → Drawn → Drawn
with_place_if drawing name config page finding ring None d = d
with_place_if drawing name config page finding ring (Some place) d = with_place drawing name config page finding ring None place d

-- the rings of a table: its data, its index, its variable data and its log, whose rows aren't told
abbrev pub with_rings : Drawing → List ℕ → TableConfig → Option RingPlace → (ℕ → List ℕ) → Finding → Drawn → Drawn
with_rings drawing name config log page finding d =
    with_place_if drawing name config page finding Log log
    (with_place_if drawing name config page finding Var config.var
    (with_place_if drawing name config page finding Index config.index
    (with_place drawing name config page finding Data (Some (row_len (plan_of_table nameless config))) config.rows d)))

-- the page that breaks a rule, where one does
abbrev pub with_fault : Drawing → List ℕ → Finding → Drawn → Drawn
with_fault drawing name (Sound rows pages voids) d = d
with_fault drawing name (Fault ring page rule) d = with_words drawing (fault_text name ring page rule) d

abbrev pub with_table : Drawing → List ℕ → TableConfig → Option RingPlace → (ℕ → List ℕ) → Finding → Drawn → Drawn
with_table drawing name config log page finding d = with_fault drawing name finding (with_rings drawing name config log page finding d)

-- What clauses see of groups.
use Rattle.std.specs.Prelude.{◌≡◌, ℕ, Bool, true, false, Result, Ok, Err, Option, Some, None, List, [], ◌∷◌}
use Rattle.fl_model.specs.Row.{Row}
use Rattle.fl_model.specs.Operators as model
use Rattle.fl_page.specs.declared.fault.ReadFault.{ReadFault}
use Rattle.fl_page.specs.declared.fault.ReadFault.TheVariants.{Flash, BadPage}
use Rattle.fl_ops.specs.Columns.{records_of}
use Rattle.fl_ops.specs.declared.group.Group.{Group}
use Rattle.fl_ops.specs.declared.aggregate.Aggregate.{Aggregate}

-- a group, as the model has it
abbrev pub group_in : Group → model.Group
group_in group = record {
  group = group.group;
  count = group.count;
  least = group.least;
  greatest = group.greatest;
  sum = group.sum;
  mean = group.mean;
}

abbrev pub input_of : {R : Type 0} {g : _} → Aggregate R g → R
input_of groups = groups.rows

-- the column and the width
abbrev pub column_in : {R : Type 0} {g : _} → Aggregate R g → ℕ
column_in groups = groups.column

abbrev pub width_of : {R : Type 0} {g : _} → Aggregate R g → ℕ
width_of groups = groups.width

-- the first row of the next group was read already
abbrev pub has_row : {R : Type 0} {g : _} → Aggregate R g → Bool
has_row groups = groups.waiting

-- the rows that are in no group yet: the present one, where it was read already, and those left
abbrev pub ungrouped : Bool → Row → List Row → List Row
ungrouped false present left = left
ungrouped true present left = present ∷ left

-- the groups that these rows make
abbrev pub groups_left : {R : Type 0} {g : _} → Aggregate R g → Row → List Row → List model.Group
groups_left groups present left = model.aggregate (column_in groups) (width_of groups) (records_of (ungrouped (has_row groups) present left))

-- What a step with this result made of the groups left: a group is the first of them, and none comes where none is left.
-- Where they are told no page is bad.
abbrev pub GroupSteps : Result (Option Group) ReadFault → List model.Group → List model.Group → Type 0
GroupSteps (Ok (Some group)) before after = before ≡ group_in group ∷ after
GroupSteps (Ok None) before after = (before ≡ []) × (after ≡ [])
GroupSteps (Err (Flash fault)) before after = Unit {0}
GroupSteps (Err (BadPage bad)) before after = ⊥

-- A step to the next group, from the steps of the rows.
use Rattle.std.proofs.Common.{◌≡◌, ℕ, ◌+◌, ◌-◌, ◌^◌, ◌<◌, ◌≤◌, ◌∙◌, Bool, false, List, [], Err, ap, arith}
use Rattle.fl_model.specs.Row.{Row}
use Rattle.fl_model.specs.Operators.{Group, aggregate}
use Rattle.fl_page.specs.Steps.{Steps}
use Rattle.fl_page.specs.declared.fault.ReadFault.{ReadFault}
use Rattle.fl_page.specs.declared.fault.ReadFault.TheVariants.{Flash, BadPage}
use Rattle.fl_ops.specs.Columns.{records_of}
use Rattle.fl_ops.specs.Groups.{ungrouped, GroupSteps}

-- the rows failed
pub group-fault : (fault : ReadFault) (row : Row) (before after : List Row) (groups groups_after : List Group) → Steps (Err fault) before row after → GroupSteps (Err fault) groups groups_after
group-fault (Flash fault) row before after groups groups_after is = tt
group-fault (BadPage bad) row before after groups groups_after is = is

-- no row makes no group
pub groups-none : (column width : ℕ) (rows : List Row) → rows ≡ [] → aggregate column width (records_of rows) ≡ []
groups-none column width rows none = ap (λ (rows : List Row). aggregate column width (records_of rows)) none

pub ungrouped-none : (waits : Bool) (present : Row) (left : List Row) → waits ≡ false → left ≡ [] → ungrouped waits present left ≡ []
ungrouped-none waits present left stands none = ap (λ (waits : Bool). ungrouped waits present left) stands ∙ none

-- how many rows the group has, where `from` is the least key of the group
pub count-first : (count from key : ℕ) → count ≡ 1 → from ≤ key → count + from ≤ key + 1
count-first count from key one le = omega arith

pub count-some : (more count : ℕ) → more ≡ count + 1 → 1 ≤ more
count-some more count is = omega arith

pub count-more : (more count from next key : ℕ) → more ≡ count + 1 → count + from ≤ next → next ≤ key → more + from ≤ key + 1
count-more more count from next key is few later = omega arith

pub count-small : (count from width next key : ℕ) → count + from ≤ next → next ≤ key → key < from + width → width < 2 ^ 64 → count < 2 ^ 64 - 1
count-small count from width next key few later within wide = omega arith

-- What clauses see of a key join.
use Rattle.std.specs.Prelude.{Bool, List, [], if◌then◌else◌}
use Rattle.fl_model.specs.Record.{Record}
use Rattle.fl_model.specs.Row.{Row}
use Rattle.fl_model.specs.Operators.{key_join}
use Rattle.fl_ops.specs.Columns.{records_of}
use Rattle.fl_ops.specs.declared.join.KeyJoin.{KeyJoin}

abbrev pub left_of : {A B : Type 0} → KeyJoin A B → A
left_of join = join.left

abbrev pub right_of : {A B : Type 0} → KeyJoin A B → B
right_of join = join.right

-- a step said that no pair is left
abbrev pub has_ended : {A B : Type 0} → KeyJoin A B → Bool
has_ended join = join.ended

-- the pairs that these rows make
abbrev pub pairs_left : {A B : Type 0} → KeyJoin A B → List Row → List Row → List (Record × Record)
pairs_left join left right = if has_ended join then [] else key_join (records_of left) (records_of right)

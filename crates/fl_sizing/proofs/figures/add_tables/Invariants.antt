use Rattle.std.proofs.Common.{◌≡◌, ◌++◌, take}
use Rattle.std.specs.List.{flat_map}
use Rattle.fl_sizing.specs.Text.{table_text}
use Rattle.fl_sizing.proofs.figures.add_tables.Given as goal

abbrev pub invariant-loop-i : goal.invariant-loop-i
invariant-loop-i l = l.text.items ≡ l.initial.text.items ++ flat_map (table_text l.interval) (take l.i l.config.plans)

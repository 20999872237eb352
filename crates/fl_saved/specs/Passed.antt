-- The pages that a salvage passes over where nothing is damaged.
use Rattle.std.specs.Prelude.{◌==◌, count_by, if◌then◌else◌}
use Rattle.fl_model.specs.Ring.{Ring}
use Rattle.fl_salvage.specs.declared.passed_over.PassedOver.{PassedOver}

-- the void pages of the data ring, and the next one if it is torn
abbrev pub passed_of : Ring → PassedOver
passed_of ring = record { missing = 0; torn = if ring.torn then 1 else 0; void = count_by (λ count. count == 0) ring.counts; misplaced = 0; unformed = 0 }

-- The range of all keys.
use Rattle.std.specs.Prelude.{◌-◌, ◌^◌}
use Rattle.fl_base.specs.declared.types.KeyRange.{KeyRange}

abbrev pub all_keys : KeyRange
all_keys = record { low = 0; high = 2 ^ 64 - 1 }

-- A count of faults that rose in a part of what was done rose in the whole.
use Rattle.std.proofs.Common.{ℕ, ◌≤◌, arith, le_trans}
use Rattle.fl_base.specs.Causes.{Rose}

pub rose-front : (before mid now : ℕ) → mid ≤ now → Rose before mid → Rose before now
rose-front before mid now later r = le_trans r later

pub rose-back : (before mid now : ℕ) → before ≤ mid → Rose mid now → Rose before now
rose-back before mid now earlier r = omega arith

use Rattle.std.proofs.Common.{◌≡◌, drop}
use Rattle.std.specs.List.{list_all}
use Rattle.fl_csv.specs.Lines.{stands_alone}
use Rattle.fl_csv.proofs.bare.are_alone.Given as goal

-- those before stand alone
abbrev pub invariant-loop-byte : goal.invariant-loop-byte
invariant-loop-byte l = list_all stands_alone l.bytes ≡ list_all stands_alone (drop l.byte-index l.bytes)

use Rattle.std.proofs.Common.{◌≡◌, take}
use Rattle.std.specs.List.{fold}
use Rattle.fl_csv.specs.declared.quotes.Place.TheVariants.{Edge}
use Rattle.fl_csv.specs.Lines.{place_after}
use Rattle.fl_csv.proofs.quotes.is_open.Given as goal

abbrev pub invariant-loop-byte : goal.invariant-loop-byte
invariant-loop-byte l = l.place ≡ fold place_after Edge (take l.byte-index l.text)

use Rattle.std.proofs.Common.{◌≡◌, ◌+◌, ◌*◌, ◌≤◌, ◌++◌, ◌∷◌, length, take}
use Rattle.fl_config.proofs.Texts.{names_in}
use Rattle.fl_config.proofs.header.HeaderText.add_columns.Given as goal

abbrev pub invariant-loop-i : goal.invariant-loop-i
invariant-loop-i l = record {
  text : l.self ≡ l.fn.self ++ 32 ∷ names_in (take l.i l.columns);
  short : length l.self ≤ length l.fn.self + 1 + 4 * l.i;
}

use Rattle.std.proofs.Common.{◌≡◌, ◌+◌, ◌*◌, ◌≤◌, ◌∷◌, ◌++◌, length, take}
use Rattle.std.specs.List.{flat_map}
use Rattle.fl_script.proofs.text_line.TextLine.add_numbers.Given as goal

abbrev pub invariant-loop-n : goal.invariant-loop-n
invariant-loop-n g l = record {
  text : l.self ≡ l.fn.self ++ flat_map (λ n. 32 ∷ g.I.Integer.text n) (take l.n-index l.numbers);
  short : length l.self ≤ length l.fn.self + l.n-index * (g.I.Integer.MAX_STR_LEN + 1);
}

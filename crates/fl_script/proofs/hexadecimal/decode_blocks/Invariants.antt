use Rattle.std.proofs.Common.{◌≡◌, ◌*◌, ◌%◌, length, take, drop}
use Rattle.fl_words.specs.Grammar.{hex_bytes}
use Rattle.fl_script.proofs.Blocks.{behind}
use Rattle.fl_script.proofs.hexadecimal.decode_blocks.Given as goal

abbrev pub invariant-parts : goal.invariant-parts
invariant-parts l =
    (length l.digits ≡ 2 * length l.bytes)
    × (length l.bytes % 16 ≡ 0)
    × (hex_bytes l.digits ≡ behind l.all (take (16 * l.i) l.bytes) (hex_bytes (drop (32 * l.i) l.digits)))

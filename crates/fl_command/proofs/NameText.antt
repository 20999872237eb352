-- Names are text.
use Rattle.std.proofs.Common.{◌≡◌, ℕ, ◌<◌, true, List, [], ◌∷◌, length, slice_index, nat_le, arith}
use Rattle.std.specs.Prelude.{◌&&◌}
use Rattle.std.specs.List.{list_all}
use Rattle.std.specs.Str.{IsAscii, IsUtf8}
use Rattle.std.proofs.lemmas.Bool.{and_parts}
use Rattle.std.proofs.lemmas.Bool.Decides.{nat_tests}
use Rattle.std.proofs.lemmas.Str.{IsUtf8-from_ascii}
use Rattle.std.proofs.lemmas.Str.Ascii.{IsAscii-nil, IsAscii-cons}
use Rattle.fl_base.specs.NameForm.{is_name, is_name_byte, is_small_letter}

byte-ascii : (c : ℕ) → is_name_byte c ≡ true → c < 128
byte-ascii c e = grind (arith, nat_tests, e)

bytes-ascii : (word : List ℕ) → list_all is_name_byte word ≡ true → IsAscii word
bytes-ascii [] e = IsAscii-nil
bytes-ascii (c ∷ cs) e =
    let parts = and_parts (is_name_byte c) (list_all is_name_byte cs) e in
    IsAscii-cons c cs (byte-ascii c parts.0) (bytes-ascii cs parts.1)

pub name-text : (word : List ℕ) → is_name word ≡ true → IsUtf8 word
name-text word e =
    let bytes = and_parts (nat_le 1 (length word) && nat_le (length word) 8 && is_small_letter (slice_index word 0)) (list_all is_name_byte word) e in
    IsUtf8-from_ascii word (bytes-ascii word bytes.1)

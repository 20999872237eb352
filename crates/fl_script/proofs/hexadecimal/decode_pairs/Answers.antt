use Rattle.std.proofs.Common.{◌≡◌, ◌-◌, ◌*◌, ◌%◌, ◌++◌, ◌&&◌, Some, None, length, take, drop, length-drop, length-take, arith, subst, ap, ◌∙◌}
use Rattle.std.specs.Prelude.{MatchBool}
use Rattle.std.proofs.lemmas.List.{take-append-drop, take_all}
use Rattle.fl_words.specs.Grammar.{hex_bytes}
use Rattle.fl_script.proofs.Blocks.{both}
use Rattle.fl_script.proofs.hexadecimal.decode_pairs.Goals as goal

pub returns : goal.returns
returns c =
    let whole = length c.args.bytes.now - length c.args.bytes.now % 16 in
    let digits = c.args.digits.now in
    let others = take (length digits - 2 * whole) (drop (2 * whole) digits) in
    let all : take (2 * whole) digits ++ others ≡ digits =
    ap (λ l. take (2 * whole) digits ++ l) (take_all (length digits - 2 * whole) (drop (2 * whole) digits) (omega (arith, length-drop (2 * whole) digits))) ∙ take-append-drop (2 * whole) digits in
    subst (λ l. MatchBool (c.decode_blocks-front.result && c.decode_rest-back.result) (hex_bytes l ≡ Some (c.decode_blocks-front.new.bytes ++ c.decode_rest-back.new.bytes)) (hex_bytes l ≡ None)) all
    (both whole (take (2 * whole) digits) others c.decode_blocks-front.new.bytes c.decode_rest-back.new.bytes c.decode_blocks-front.result c.decode_rest-back.result
    (omega (arith, length-take (2 * whole) digits, c.requires)) c.decode_blocks-front.ensures c.decode_rest-back.ensures)

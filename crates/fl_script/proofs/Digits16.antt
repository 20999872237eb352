-- The digits of the crate hex are those of the replies.
use Rattle.std.proofs.Common.{◌≡◌, ℕ, zero, suc, ◌/◌, ◌%◌, ◌<◌, List, [], ◌∷◌, ◌++◌, slice_index, take, drop, arith, refl, ap, ◌∙◌, sym}
use Rattle.std.proofs.lemmas.Grind.{flat_map-append}
use Rattle.std.proofs.lemmas.List.{take-append-drop}
use Rattle.hex.specs.Hex.{encode_with, encode_lower, lower_digits}
use Rattle.fl_words.specs.Reply.{hex_digit, hex_text}

digit-is : (n : ℕ) → n < 16 → slice_index lower_digits n ≡ hex_digit n
digit-is zero lt = refl
digit-is (suc zero) lt = refl
digit-is (suc (suc zero)) lt = refl
digit-is (suc (suc (suc zero))) lt = refl
digit-is (suc (suc (suc (suc zero)))) lt = refl
digit-is (suc (suc (suc (suc (suc zero))))) lt = refl
digit-is (suc (suc (suc (suc (suc (suc zero)))))) lt = refl
digit-is (suc (suc (suc (suc (suc (suc (suc zero))))))) lt = refl
digit-is (suc (suc (suc (suc (suc (suc (suc (suc zero)))))))) lt = refl
digit-is (suc (suc (suc (suc (suc (suc (suc (suc (suc zero))))))))) lt = refl
digit-is (suc (suc (suc (suc (suc (suc (suc (suc (suc (suc zero)))))))))) lt = refl
digit-is (suc (suc (suc (suc (suc (suc (suc (suc (suc (suc (suc zero))))))))))) lt = refl
digit-is (suc (suc (suc (suc (suc (suc (suc (suc (suc (suc (suc (suc zero)))))))))))) lt = refl
digit-is (suc (suc (suc (suc (suc (suc (suc (suc (suc (suc (suc (suc (suc zero))))))))))))) lt = refl
digit-is (suc (suc (suc (suc (suc (suc (suc (suc (suc (suc (suc (suc (suc (suc zero)))))))))))))) lt = refl
digit-is (suc (suc (suc (suc (suc (suc (suc (suc (suc (suc (suc (suc (suc (suc (suc zero))))))))))))))) lt = refl
digit-is (suc (suc (suc (suc (suc (suc (suc (suc (suc (suc (suc (suc (suc (suc (suc (suc n)))))))))))))))) lt = absurd (omega arith)

pub encode_lower-is : (bytes : List ℕ) → ((k : ℕ) → slice_index bytes k < 256) → encode_lower bytes ≡ hex_text bytes
unfolding encode_with
encode_lower-is [] small = refl
encode_lower-is (byte ∷ bytes) small =
    let few : byte < 256 = small 0 in
    let high : slice_index lower_digits (byte / 16) ≡ hex_digit (byte / 16) = digit-is (byte / 16) (omega arith) in
    let low : slice_index lower_digits (byte % 16) ≡ hex_digit (byte % 16) = digit-is (byte % 16) (omega arith) in
    let rest : encode_lower bytes ≡ hex_text bytes = encode_lower-is bytes (λ k. small (suc k)) in
    rw high (rw low (rw rest refl))

-- the text of a piece, and of what is behind it
pub hex_text-parts : (n : ℕ) (bytes : List ℕ) → hex_text (take n bytes) ++ hex_text (drop n bytes) ≡ hex_text bytes
hex_text-parts n bytes = sym (flat_map-append (λ x. hex_digit (x / 16) ∷ hex_digit (x % 16) ∷ []) (take n bytes) (drop n bytes)) ∙ ap (λ l. hex_text l) (take-append-drop n bytes)

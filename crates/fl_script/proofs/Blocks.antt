-- The bytes of pairs of hexadecimal digits, many pairs at a time.
use Rattle.std.proofs.Common.{◌≡◌, ℕ, zero, suc, ◌+◌, ◌*◌, ◌%◌, ◌<◌, ◌≤◌, eqb, Bool, true, false, not, ◌&&◌, Option, Some, None, List, [], ◌∷◌, ◌++◌, map, length, take, drop, refl, sym, ap, ◌∙◌, arith}
use Rattle.std.specs.Prelude.{unwrap_or, MatchOption, MatchBool}
use Rattle.std.specs.List.{list_all}
use Rattle.std.proofs.lemmas.List.{append_assoc, append-nil, drop_all, take_all}
use Rattle.std.proofs.lemmas.Option.{none-some}
use Rattle.std.proofs.lemmas.Bool.{ne_eqb, and_parts}
use Rattle.std.proofs.lemmas.Bool.Decides.{nat_tests}
use Rattle.std.proofs.lemmas.Simd.{chunk-drop, length-chunk, take_more_put_chunk}
use Rattle.std.specs.Simd.Lanes.{chunk, put_chunk}
use Rattle.std.proofs.Math.Bool.{and-false, and-true}
use Rattle.fl_words.specs.Grammar.{hex_bytes, hex_value, onto_bytes}
use Rattle.fl_script.specs.Pairs.{pairs_of}

-- the bytes with a front before them, where all that the front is made of were digits
abbrev pub behind : Bool → List ℕ → Option (List ℕ) → Option (List ℕ)
behind true front (Some bytes) = Some (front ++ bytes)
behind true front None = None
behind false front rest = None

-- before the first pair
pub start : (rest : Option (List ℕ)) → rest ≡ behind true [] rest
start (Some bytes) = refl
start None = refl

abbrev pub value_of : ℕ → ℕ
value_of byte = unwrap_or (hex_value byte) 16

-- it is a value
abbrev pub is_value : ℕ → Bool
is_value value = not (eqb value 16)

-- what reading a digit answers
abbrev IsRead : Option ℕ → ℕ → Type 0
IsRead digit value = MatchOption digit (value ≡ 16) (λ v. (value ≡ v) × (v < 16))

is_read : (byte : ℕ) → IsRead (hex_value byte) (value_of byte)
is_read byte = grind (arith, nat_tests)

nothing : (all : Bool) (front : List ℕ) → behind all front None ≡ None
nothing true front = refl
nothing false front = refl

neither : (all b : Bool) (front : List ℕ) (rest : Option (List ℕ)) → b ≡ false → behind (all && b) front rest ≡ None
neither true b front rest e = rw e refl
neither false b front rest e = refl

-- one pair more behind a front
pair : (all : Bool) (h l : Option ℕ) (front : List ℕ) (rest : Option (List ℕ)) → IsRead h (unwrap_or h 16) → IsRead l (unwrap_or l 16) →
    behind all front (onto_bytes h l rest) ≡ behind (all && (is_value (unwrap_or h 16) && is_value (unwrap_or l 16))) (front ++ ((unwrap_or h 16 * 16 % 256 + unwrap_or l 16) % 256 ∷ [])) rest
pair all None l front rest is isl = nothing all front ∙ sym (neither all (false && is_value (unwrap_or l 16)) (front ++ ((16 * 16 % 256 + unwrap_or l 16) % 256 ∷ [])) rest refl)
pair all (Some v) None front rest is isl = nothing all front ∙ sym (neither all (is_value v && false) (front ++ ((v * 16 % 256 + 16) % 256 ∷ [])) rest (and-false (is_value v)))
pair all (Some v) (Some w) front rest is isl =
    let v-is : is_value v ≡ true = ap not (ne_eqb v 16 (λ e. absurd (omega (arith, e, is.1)))) in
    let w-is : is_value w ≡ true = ap not (ne_eqb w 16 (λ e. absurd (omega (arith, e, isl.1)))) in
    let byte : (v * 16 % 256 + w) % 256 ≡ v * 16 + w = omega (arith, is.1, isl.1) in
    rw (v-is, w-is, byte) (whole all rest)
  where
    whole : (all : Bool) (rest : Option (List ℕ)) → behind all front (onto_bytes (Some v) (Some w) rest) ≡ behind (all && true) (front ++ ((v * 16 + w) ∷ [])) rest
    whole true (Some bytes) = ap Some (sym (append_assoc front ((v * 16 + w) ∷ []) bytes))
    whole true None = refl
    whole false rest = refl

and_both : (a b c d : Bool) → (a && (b && c)) && d ≡ a && (b && (c && d))
and_both true true c d = refl
and_both true false c d = refl
and_both false b c d = refl

-- so many pairs more
block : (n : ℕ) (all : Bool) (xs front rest : List ℕ) → length xs ≡ 2 * n →
    behind all front (hex_bytes (xs ++ rest)) ≡ behind (all && list_all is_value (map value_of xs)) (front ++ pairs_of (map value_of xs)) (hex_bytes rest)
block zero all [] front rest long = sym (λ i. behind (and-true all i) (append-nil front i) (hex_bytes rest))
block zero all (x ∷ xs) front rest long = absurd (omega (arith, long))
block (suc n) all [] front rest long = absurd (omega (arith, long))
block (suc n) all (x ∷ []) front rest long = absurd (omega (arith, long))
block (suc n) all (x ∷ y ∷ xs) front rest long =
    let byte = (value_of x * 16 % 256 + value_of y) % 256 in
    pair all (hex_value x) (hex_value y) front (hex_bytes (xs ++ rest)) (is_read x) (is_read y)
    ∙ block n (all && (is_value (value_of x) && is_value (value_of y))) xs (front ++ (byte ∷ [])) rest (omega (arith, long))
    ∙ (λ i. behind (and_both all (is_value (value_of x)) (is_value (value_of y)) (list_all is_value (map value_of xs)) i) (append_assoc front (byte ∷ []) (pairs_of (map value_of xs)) i) (hex_bytes rest))

pairs_len : (n : ℕ) (xs : List ℕ) → length xs ≡ 2 * n → length (pairs_of (map value_of xs)) ≡ n
pairs_len zero [] long = refl
pairs_len zero (x ∷ xs) long = absurd (omega (arith, long))
pairs_len (suc n) [] long = absurd (omega (arith, long))
pairs_len (suc n) (x ∷ []) long = absurd (omega (arith, long))
pairs_len (suc n) (x ∷ y ∷ xs) long = ap suc (pairs_len n xs (omega (arith, long)))

-- the pairs of a vector are written behind those before them
pub step : (digits bytes : List ℕ) (i : ℕ) (all : Bool) → length digits ≡ 2 * length bytes → 16 * i + 16 ≤ length bytes →
    hex_bytes digits ≡ behind all (take (16 * i) bytes) (hex_bytes (drop (32 * i) digits)) →
    hex_bytes digits ≡ behind (all && list_all is_value (map value_of (chunk (32 * i) 32 digits))) (take (16 * (i + 1)) (put_chunk (16 * i) bytes (pairs_of (map value_of (chunk (32 * i) 32 digits))))) (hex_bytes (drop (32 * (i + 1)) digits))
step digits bytes i all size within so_far =
    let xs = chunk (32 * i) 32 digits in
    let long : length xs ≡ 32 = length-chunk (32 * i) 32 digits (omega (arith, size, within)) in
    let put : take (16 * (i + 1)) (put_chunk (16 * i) bytes (pairs_of (map value_of xs))) ≡ take (16 * i) bytes ++ pairs_of (map value_of xs) =
    take_more_put_chunk (16 * i) bytes (pairs_of (map value_of xs)) (16 * (i + 1)) (omega (arith, pairs_len 16 xs long)) (omega (arith, within)) in
    let next : 32 * i + 32 ≡ 32 * (i + 1) = omega arith in
    so_far
    ∙ ap (λ l. behind all (take (16 * i) bytes) (hex_bytes l)) (chunk-drop (32 * i) 32 digits ∙ ap (λ n. xs ++ drop n digits) next)
    ∙ block 16 all xs (take (16 * i) bytes) (drop (32 * (i + 1)) digits) long
    ∙ ap (λ front. behind (all && list_all is_value (map value_of xs)) front (hex_bytes (drop (32 * (i + 1)) digits))) (sym put)

-- after the last block
pub done : (all : Bool) (digits bytes : List ℕ) (i : ℕ) → length digits ≡ 2 * length bytes → 16 * i ≡ length bytes →
    hex_bytes digits ≡ behind all (take (16 * i) bytes) (hex_bytes (drop (32 * i) digits)) → MatchBool all (hex_bytes digits ≡ Some bytes) (hex_bytes digits ≡ None)
done all digits bytes i size at_end h =
    split all (h ∙ rw (take_all (16 * i) bytes (omega (arith, at_end)), drop_all (32 * i) digits (omega (arith, size, at_end))) refl)
  where
    split : (all : Bool) → hex_bytes digits ≡ behind all bytes (Some []) → MatchBool all (hex_bytes digits ≡ Some bytes) (hex_bytes digits ≡ None)
    split true h = h ∙ ap Some (append-nil bytes)
    split false h = h

-- two parts, each of which was read
pub both : (n : ℕ) (xs ys front rest : List ℕ) (all others : Bool) → length xs ≡ 2 * n → MatchBool all (hex_bytes xs ≡ Some front) (hex_bytes xs ≡ None) → MatchBool others (hex_bytes ys ≡ Some rest) (hex_bytes ys ≡ None) →
    MatchBool (all && others) (hex_bytes (xs ++ ys) ≡ Some (front ++ rest)) (hex_bytes (xs ++ ys) ≡ None)
both n xs ys front rest all others long h k =
    let first : hex_bytes xs ≡ behind (list_all is_value (map value_of xs)) (pairs_of (map value_of xs)) (Some []) =
    ap hex_bytes (sym (append-nil xs)) ∙ start (hex_bytes (xs ++ [])) ∙ block n true xs [] [] long in
    let whole = start (hex_bytes (xs ++ ys)) ∙ block n true xs [] ys long in
    cases all others (list_all is_value (map value_of xs)) (pairs_of (map value_of xs)) first whole h k
  where
    cases : (all others among : Bool) (pairs : List ℕ) → hex_bytes xs ≡ behind among pairs (Some []) → hex_bytes (xs ++ ys) ≡ behind among pairs (hex_bytes ys) →
        MatchBool all (hex_bytes xs ≡ Some front) (hex_bytes xs ≡ None) → MatchBool others (hex_bytes ys ≡ Some rest) (hex_bytes ys ≡ None) →
        MatchBool (all && others) (hex_bytes (xs ++ ys) ≡ Some (front ++ rest)) (hex_bytes (xs ++ ys) ≡ None)
    cases true true true pairs first whole h k = whole ∙ ap (behind true pairs) k ∙ ap (λ l. Some (l ++ rest)) (sym (append-nil pairs) ∙ ap (λ bytes. unwrap_or bytes []) (sym first ∙ h))
    cases true false true pairs first whole h k = whole ∙ ap (behind true pairs) k
    cases true others false pairs first whole h k = absurd (none-some front (sym first ∙ h))
    cases false others false pairs first whole h k = whole
    cases false others true pairs first whole h k = absurd (none-some (pairs ++ []) (sym h ∙ first))

-- so many pairs with other digits behind them
front_pairs : (n : ℕ) (xs pad : List ℕ) → length xs ≡ 2 * n → take n (pairs_of (map value_of (xs ++ pad))) ≡ pairs_of (map value_of xs)
front_pairs zero [] pad long = refl
front_pairs zero (x ∷ xs) pad long = absurd (omega (arith, long))
front_pairs (suc n) [] pad long = absurd (omega (arith, long))
front_pairs (suc n) (x ∷ []) pad long = absurd (omega (arith, long))
front_pairs (suc n) (x ∷ y ∷ xs) pad long = ap (λ rest. (value_of x * 16 % 256 + value_of y) % 256 ∷ rest) (front_pairs n xs pad (omega (arith, long)))

-- whether all are digits, with other digits behind them
all_values : (xs pad : List ℕ) → list_all is_value (map value_of pad) ≡ true → list_all is_value (map value_of (xs ++ pad)) ≡ list_all is_value (map value_of xs)
all_values [] pad digits = digits
all_values (x ∷ xs) pad digits = ap (λ rest. is_value (value_of x) && rest) (all_values xs pad digits)

-- pairs that were read with other digits behind them
pub padded : (n : ℕ) (xs pad : List ℕ) → length xs ≡ 2 * n → list_all is_value (map value_of pad) ≡ true →
    MatchBool (list_all is_value (map value_of (xs ++ pad))) (hex_bytes xs ≡ Some (take n (pairs_of (map value_of (xs ++ pad))))) (hex_bytes xs ≡ None)
padded n xs pad long digits =
    let first : hex_bytes xs ≡ behind (list_all is_value (map value_of xs)) (pairs_of (map value_of xs)) (Some []) =
    ap hex_bytes (sym (append-nil xs)) ∙ start (hex_bytes (xs ++ [])) ∙ block n true xs [] [] long in
    rw (all_values xs pad digits, front_pairs n xs pad long) (cases (list_all is_value (map value_of xs)) (pairs_of (map value_of xs)) first)
  where
    cases : (among : Bool) (pairs : List ℕ) → hex_bytes xs ≡ behind among pairs (Some []) → MatchBool among (hex_bytes xs ≡ Some pairs) (hex_bytes xs ≡ None)
    cases true pairs first = first ∙ ap Some (append-nil pairs)
    cases false pairs first = first

-- what is left of digits is digits
pub still_values : (k : ℕ) (xs : List ℕ) → list_all is_value (map value_of xs) ≡ true → list_all is_value (map value_of (drop k xs)) ≡ true
still_values zero xs h = h
still_values (suc k) [] h = refl
still_values (suc k) (x ∷ xs) h = still_values k xs (and_parts (is_value (value_of x)) _ h).1

-- The room that a table line takes in its text: how many bytes it has at most, part by part.
use Rattle.std.proofs.Common.{◌≡◌, ℕ, ◌+◌, ◌≤◌, ◌&&◌, Bool, true, nat_le, IsTrue, List, [], ◌∷◌, ◌++◌, length, slice_index, codes, ap, ◌∙◌, arith, length-append}
use Rattle.std.proofs.lemmas.Bool.{and_parts, leb-true}
use Rattle.std.specs.List.{list_all}
use Rattle.fl_base.specs.NameForm.{is_name, is_small_letter, is_name_byte}

name-short : (name : List ℕ) → IsTrue (is_name name) → length name ≤ 8
name-short name is =
    let fits : Bool = nat_le 1 (length name) && nat_le (length name) 8 in
    let letter = fits && is_small_letter (slice_index name 0) in
    let first = and_parts letter (list_all is_name_byte name) is in
    let second = and_parts fits (is_small_letter (slice_index name 0)) first.0 in
    leb-true (length name) 8 (and_parts (nat_le 1 (length name)) (nat_le (length name) 8) second.0).1

-- the first word and the name behind it
pub behind-name : (old first second name : List ℕ) → first ≡ old ++ codes "table" → IsTrue (is_name name) → second ≡ first ++ 32 ∷ name → length second ≤ length old + 14
behind-name old first second name begins is ends =
    let a = ap length begins ∙ length-append old (codes "table") in
    let b = ap length ends ∙ length-append first (32 ∷ name) in
    let short = name-short name is in
    omega (arith, a, b, short)

-- one more part, or one more number behind a space
pub behind-part : (old used most : ℕ) {before now : ℕ} → now ≤ before + most → before ≤ old + used → now ≤ old + (used + most)
behind-part old used most part line = omega (arith, part, line)

pub behind-number : (old used digits : ℕ) {before now : ℕ} → now ≤ before + digits + 1 → before ≤ old + used → now ≤ old + (used + digits + 1)
behind-number old used digits number line = omega (arith, number, line)

-- there is room for it
pub room-for : (old used most : ℕ) {now room : ℕ} → now ≤ old + used → old + 200 ≤ room → nat_le (used + most) 200 ≡ true → now + most ≤ room
room-for old used most line fits few =
    let few' = leb-true (used + most) 200 few in
    omega (arith, line, fits, few')

pub room-for-number : (old used digits : ℕ) {now room : ℕ} → now ≤ old + used → old + 200 ≤ room → nat_le (used + digits + 1) 200 ≡ true → now + digits + 1 ≤ room
room-for-number old used digits line fits few =
    let few' = leb-true (used + digits + 1) 200 few in
    omega (arith, line, fits, few')

-- the whole line with its end
pub ended : (old line whole : List ℕ) (used : ℕ) → whole ≡ line ++ 10 ∷ [] → length line ≤ length old + used → nat_le (used + 1) 200 ≡ true → length whole ≤ length old + 200
ended old line whole used ends least few =
    let few' = leb-true (used + 1) 200 few in
    let a = ap length ends ∙ length-append line (10 ∷ []) in
    omega (arith, a, least, few')

-- The bytes of a blob in the contents of its pages.
use Rattle.std.proofs.Common.{◌≡◌, ℕ, zero, suc, ◌+◌, ◌-◌, ◌*◌, ◌/◌, ◌%◌, ◌<◌, ◌≤◌, Some, List, [], ◌∷◌, ◌++◌, length, drop, refl, ◌∙◌, ap, arith}
use Rattle.std.proofs.lemmas.List.{length-take-le, length-drop}
use Rattle.std.proofs.lemmas.Nat.{le-div, div-add-mod'}
use Rattle.std.specs.List.{slice_get}
use Rattle.std.proofs.lemmas.Option.{none-some, same_Some}
use Rattle.fl_page.specs.Header.{page_count}
use Rattle.fl_var.specs.Blobs.{contents_from}
use Rattle.fl_var.specs.Content.{content_of}

-- what stands in the first list, and in the second behind it
get-left : (xs ys : List ℕ) (i b : ℕ) → slice_get xs i ≡ Some b → slice_get (xs ++ ys) i ≡ Some b
get-left [] ys i b e = absurd (none-some b e)
get-left (x ∷ xs) ys zero b e = e
get-left (x ∷ xs) ys (suc i) b e = get-left xs ys i b e

get-right : (xs ys : List ℕ) (i b : ℕ) → slice_get ys i ≡ Some b → slice_get (xs ++ ys) (length xs + i) ≡ Some b
get-right [] ys i b e = ap (slice_get ys) (let k : 0 + i ≡ i = omega arith in k) ∙ e
get-right (x ∷ xs) ys i b e = ap (slice_get (x ∷ (xs ++ ys))) (let k : suc (length xs) + i ≡ suc (length xs + i) = omega arith in k) ∙ get-right xs ys i b e

-- a byte of page q, where the pages before it are full
pub contents-at : (image : ℕ → List ℕ) (room : ℕ) (q number n m b : ℕ) → ((j : ℕ) → j < q → length (content_of (image (number + j))) ≡ room) → q < n → slice_get (content_of (image (number + q))) m ≡ Some b →
    slice_get (contents_from image number n) (q * room + m) ≡ Some b
contents-at image room zero number zero m b full lt e = absurd (omega arith)
contents-at image room zero number (suc n) m b full lt e =
    ap (slice_get (content_of (image number) ++ contents_from image (number + 1) n)) (let k : 0 * room + m ≡ m = omega arith in k)
    ∙ get-left (content_of (image number)) (contents_from image (number + 1) n) m b (ap (λ k. slice_get (content_of (image k)) m) (let k : number ≡ number + 0 = omega arith in k) ∙ e)
contents-at image room (suc q) number zero m b full lt e = absurd (omega arith)
contents-at image room (suc q) number (suc n) m b full lt e =
    let first : length (content_of (image number)) ≡ room = ap (λ k. length (content_of (image k))) (let k : number ≡ number + 0 = omega arith in k) ∙ full 0 (omega arith) in
    let at : suc q * room + m ≡ length (content_of (image number)) + (q * room + m) = omega (arith, first, (let k : suc q * room ≡ q * room + room = omega arith in k)) in
    ap (slice_get (content_of (image number) ++ contents_from image (number + 1) n)) at
    ∙ get-right (content_of (image number)) (contents_from image (number + 1) n) (q * room + m) b
    (contents-at image room q (number + 1) n m b
    (λ j less. ap (λ k. length (content_of (image k))) (let k : number + 1 + j ≡ number + suc j = omega arith in k) ∙ full (suc j) (omega arith)) (omega arith)
    (ap (λ k. slice_get (content_of (image k)) m) (let k : number + 1 + q ≡ number + suc q = omega arith in k) ∙ e))

-- a list that has all of another's elements, and no more
pub same-front : (xs ys : List ℕ) → length xs ≤ length ys → ((j b : ℕ) → slice_get ys j ≡ Some b → slice_get xs j ≡ Some b) → xs ≡ ys
same-front [] [] le each = refl
same-front [] (y ∷ ys) le each = absurd (none-some y (each 0 y refl))
same-front (x ∷ xs) [] le each = absurd (omega arith)
same-front (x ∷ xs) (y ∷ ys) le each =
    let same : x ≡ y = same_Some _ _ (each 0 y refl) in
    ap (λ z. z ∷ xs) same ∙ ap (λ zs. y ∷ zs) (same-front xs ys (omega arith) (λ j b e. each (suc j) b e))

-- the content of a page
pub content-size : (page : List ℕ) → page_count page ≤ length page - 16 → length (content_of page) ≡ page_count page
content-size page room = length-take-le (page_count page) (drop 8 page) (omega (arith, room, length-drop 8 page))

-- places of bytes by page
pub place-within : (from len j room : ℕ) → 0 < room → j < len → (from + j) / room ≤ (from + len - 1) / room
place-within from len j room wide lt = le-div ((from + j) / room) (from + len - 1) room wide (omega (arith, div-add-mod' (from + j) room, lt))

pub place-last : (from len j room : ℕ) → 0 < room → j < len → (from + j) / room ≡ (from + len - 1) / room → (from + j) % room ≤ (from + len - 1) % room
place-last from len j room wide lt same =
    let a = div-add-mod' (from + j) room in
    let b = div-add-mod' (from + len - 1) room in
    let c = ap (λ q. q * room) same in
    omega (arith, a, b, c, lt)

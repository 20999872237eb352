-- Numbers of a ring's pages fit their types, and so do sizes.
use Rattle.std.proofs.Common.{◌≡◌, ℕ, ◌+◌, ◌*◌, ◌^◌, ◌<◌, ◌≤◌, arith}
use Rattle.std.proofs.Math.Nat.{mul-le-mul_right, add-mul}

-- what is asked at each call that is given a view of a page
pub view-fits : 56 < 2 ^ 63
view-fits = omega arith

-- a page that has a header has its parts
pub has_marks : {n : ℕ} → 24 ≤ n → 8 ≤ n
has_marks long = omega (arith, long)

pub has_bitmap : {n : ℕ} → 24 ≤ n → 16 ≤ n
has_bitmap long = omega (arith, long)

pub has_header : {n : ℕ} → 64 ≤ n → 24 ≤ n
has_header long = omega (arith, long)

-- the i-th of so many kept pages, and the next one
pub next_small : (i kept first blocks pages : ℕ) → i < kept → kept < blocks * pages → (first + blocks) * pages < 2 ^ 32 → i + 1 < 2 ^ 32
next_small i kept first blocks pages lt few reach = omega (arith, lt, few, add-mul first blocks pages, reach)

pub page_small : {n pages : ℕ} → n < pages → pages ≤ 256 → n + 1 < 2 ^ 32
page_small lt few = omega (arith, lt, few)

pub count_small : {n : ℕ} → n ≤ 256 → n + 1 < 2 ^ 32
count_small few = omega (arith, few)

-- what grows by at most 65535 with each page
pub sum_small : (i : ℕ) {n : ℕ} → n ≤ i * 65535 → i + 1 < 2 ^ 32 → n + 65535 < 2 ^ 64
sum_small i most few = omega (arith, most, few)

pub count_left : {i n : ℕ} → n ≤ i → i + 1 < 2 ^ 32 → n + 1 < 2 ^ 32
count_left most few = omega (arith, most, few)

pub index_small : {i : ℕ} → i + 1 < 2 ^ 32 → i < 2 ^ 64
index_small few = omega (arith, few)

pub offset_small : (i : ℕ) → i + 1 < 2 ^ 32 → i * 8 < 2 ^ 64
offset_small i few = omega (arith, few)

-- the pages of a block are fewer than those of the ring
pub block_within : (n blocks pages : ℕ) → n ≡ pages → 3 ≤ blocks → 2 ≤ pages → n + 1 ≤ blocks * pages
block_within n blocks pages is some two =
    let all : 3 * pages ≤ blocks * pages = mul-le-mul_right pages some in
    omega (arith, is, two, all)

-- the rows of a page and what is before them
pub rows_small : {n size : ℕ} → 16 + n + 8 ≤ size → size < 65536 → n < 2 ^ 64
rows_small fits short = omega (arith, fits, short)

pub end_small : (n : ℕ) {size : ℕ} → 16 + n + 8 ≤ size → size < 65536 → 16 + n < 2 ^ 64
end_small n fits short = omega (arith, fits, short)

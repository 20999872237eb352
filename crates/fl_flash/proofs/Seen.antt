-- Ranges of a page: on the medium and in the room of its block; and blocks.
use Rattle.std.proofs.Common.{◌≡◌, ℕ, ◌+◌, ◌*◌, ◌%◌, ◌^◌, ◌≤◌, ◌<◌, Fits, w64, sym, subst, arith}
use Rattle.std.proofs.Math.Nat.{mod-lt, mul-le-mul_right, mul_assoc}
use Rattle.fl_flash.proofs.Pages.{rows_below, page_within}

pub below_same : (p m n : ℕ) → m ≡ n → p < n → p < m
below_same p m n same lt = subst (λ (k : ℕ). p < k) (sym same) lt

pub within_same : (r m n : ℕ) → m ≡ n → r ≤ n → r ≤ m
within_same r m n same le = subst (λ (k : ℕ). r ≤ k) (sym same) le

pub some_block : (block : ℕ) → 2 ≤ block → 0 < block
some_block block least = omega (arith, least)

pub whole_range : (size : ℕ) → 0 + size ≤ size
whole_range size = omega arith

-- a range of a page lies on the medium
module _ (start size p pages from n total : ℕ) (exists : p < pages) (range : from + n ≤ size) (reach : start + pages * size ≤ total) where
  pub range_within : start + p * size + from + n ≤ total
  range_within = omega (arith, page_within start size p pages total exists reach, range)

  module _ (fits : total < 2 ^ 64) where
    pub rows_fit : Fits w64 (p * size)
    rows_fit = omega (arith, range_within, fits)

    pub begin_fits : Fits w64 (start + p * size)
    begin_fits = omega (arith, range_within, fits)

    pub from_fits : Fits w64 (start + p * size + from)
    from_fits = omega (arith, range_within, fits)

-- .. and in the room of its block
module _ (p block size from n : ℕ) (least : 2 ≤ block) (most : block ≤ 256) (small : size ≤ 4096) (range : from + n ≤ size) where
  in_block : p % block * size + from + n ≤ block * size
  in_block = omega (arith, rows_below (p % block) block size (mod-lt p (some_block block least)), range)

  in_small : p % block * size + from + n ≤ 256 * 4096
  in_small = let le : block * size ≤ 256 * size = mul-le-mul_right size most in omega (arith, in_block, le, small)

  pub rows_small : Fits w64 (p % block * size)
  rows_small = omega (arith, in_small)

  pub from_small : Fits w64 (p % block * size + from)
  from_small = omega (arith, in_small)

  pub end_small : Fits w64 (p % block * size + from + n)
  end_small = omega (arith, in_small)

  pub end_in_room : (room : ℕ) → block * size ≤ room → p % block * size + from + n ≤ room
  end_in_room room le = omega (arith, in_block, le)

-- a block lies on the medium
module _ (start b blocks block size total : ℕ) (exists : b < blocks) (reach : start + blocks * block * size ≤ total) where
  pub block_inside : start + b * (block * size) + block * size ≤ total
  block_inside = omega (arith, mul_assoc blocks block size, rows_below b blocks (block * size) exists, reach)

  module _ (fits : total < 2 ^ 64) where
    pub block_fits : Fits w64 (block * size)
    block_fits = omega (arith, block_inside, fits)

    pub blocks_fit : Fits w64 (b * (block * size))
    blocks_fit = omega (arith, block_inside, fits)

    pub block_begin_fits : Fits w64 (start + b * (block * size))
    block_begin_fits = omega (arith, block_inside, fits)

-- .. and so do its flags among those of all pages
pub flags_within : (b blocks block count : ℕ) → b < blocks → blocks * block ≤ count → b * block + block ≤ count
flags_within b blocks block count exists le = omega (arith, rows_below b blocks block exists, le)

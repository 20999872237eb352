-- Small facts on counts and sizes, over plain variables.
use Rattle.std.proofs.Common.{◌≡◌, ◌⊎◌, inl, ℕ, ◌+◌, ◌-◌, ◌/◌, ◌^◌, ◌<◌, ◌≤◌, ◌==◌, Bool, true, false, if◌then◌else◌, min, IsTrue, Result, Ok, Err, OnOk, refl, ◌∙◌, ap, arith, Fits, w16, div-le_self, List, length, drop, replicate, sym, w32, w64}
use Rattle.std.proofs.lemmas.List.{length-replicate, drop-replicate}
use Rattle.std.proofs.lemmas.Bool.{eqb-true}
use Rattle.fl_flash.specs.Buffer.{BufferState}
use Rattle.fl_flash.specs.Flash.{FlashState, ReadsPage, page_at}
use Rattle.fl_flash.specs.Media.{next_count}
use Rattle.fl_flash.specs.declared.flash.FlashFault.{FlashFault}
use Rattle.fl_frame.proofs.SingleReads.{read_once}

-- none waits
pub none-left : (first waiting : ℕ) → first + waiting < 2 ^ 32 → first + 0 < 2 ^ 32
none-left first waiting left = omega (arith, left)

pub none-after : (n : ℕ) → n < 2 ^ 32 → n + 0 < 2 ^ 32
none-after n left = omega (arith, left)

-- as many as a page has room for
pub few-fit : (waiting size len : ℕ) → waiting ≤ (size - 24) / len → size ≤ 4096 → Fits w16 waiting
few-fit waiting size len few small = let most = div-le_self (size - 24) len in omega (arith, few, most, small)

pub body-large : (len size : ℕ) → len + 8 ≡ size → 64 ≤ size → 16 ≤ len
body-large len size is least = omega (arith, is, least)

-- the sizes of an index in 64 bits
pub blocks-wide : (blocks : ℕ) → blocks ≤ 16384 → Fits w64 blocks
blocks-wide blocks few = omega (arith, few)

pub block-wide : (block : ℕ) → block ≤ 256 → Fits w64 block
block-wide block few = omega (arith, few)

pub page-wide : (size : ℕ) → size ≤ 4096 → Fits w64 size
page-wide size small = omega (arith, small)

pub page-room : (size : ℕ) → 64 ≤ size → 8 ≤ size
page-room size least = omega (arith, least)

-- a new body
pub body-size : (body : List ℕ) (size : ℕ) → body ≡ replicate (size - 8) 255 → 8 ≤ size → length body + 8 ≡ size
body-size body size is room = omega (arith, ap (λ (l : List ℕ). length l) is, length-replicate {A = ℕ} (size - 8) 255, room)

pub body-blank : (body : List ℕ) (n k : ℕ) → body ≡ replicate n 255 → drop k body ≡ replicate (length body - k) 255
body-blank body n k is =
    ap (λ (l : List ℕ). drop k l) is ∙ (drop-replicate k n 255 ∙ ap (λ (m : ℕ). replicate (m - k) 255) (sym (ap (λ (l : List ℕ). length l) is ∙ length-replicate {A = ℕ} n 255)))

pub none-yet : 0 + 0 < 2 ^ 32
none-yet = omega arith

-- one entry more
pub one-left : (first waiting : ℕ) → first + waiting + 1 < 2 ^ 32 → first + (waiting + 1) < 2 ^ 32
one-left first waiting left = omega (arith, left)

pub one-fits : (first waiting : ℕ) → first + waiting + 1 < 2 ^ 32 → Fits w32 (waiting + 1)
one-fits first waiting left = omega (arith, left)

-- the lesser of a page's entries and of the numbers that are left
pub least-few : (capacity rest least most : ℕ) → least ≡ min capacity rest → capacity ≡ most → least ≤ most
least-few capacity rest least most is same = omega (arith, is, same)

pub least-left : (capacity first least : ℕ) → least ≡ min capacity (2 ^ 32 - 1 - first) → first < 2 ^ 32 → first + least < 2 ^ 32
least-left capacity first least is small = omega (arith, is, small)

-- what a page with room keeps
pub still-room : (waiting most then_ else_ : ℕ) → waiting < most → else_ ≡ (if waiting == most then then_ else else_)
still-room waiting most then_ else_ lt = by-test (waiting == most) refl
  where
    by-test : (b : Bool) → (waiting == most) ≡ b → else_ ≡ (if b then then_ else else_)
    by-test true e = let same = eqb-true waiting most e in absurd (omega (arith, same, lt))
    by-test false e = refl

-- a page more of those from one on
pub one-more : (from number after last : ℕ) → from ≤ number → number < after → after ≡ last → number - from + 1 ≤ last - from
one-more from number after last low high same = omega (arith, low, high, same)

-- the fields of what a full entry tells
pub key-within : (at len : ℕ) → at + 14 ≤ len → at + 8 ≤ len
key-within at len room = omega (arith, room)

pub count-within : (at len : ℕ) → at + 14 ≤ len → at + 8 + 2 ≤ len
count-within at len room = omega (arith, room)

pub end-within : (at len : ℕ) → at + 14 ≤ len → at + 10 + 4 ≤ len
end-within at len room = omega (arith, room)

-- what a read that went well says
module _ (X : Type 0) (old new : FlashState) (page size : ℕ) (into : BufferState) where
  pub once-read : (result : Result (Unit {0}) FlashFault) → ReadsPage old page size result into new → OnOk result (X → new.work.reads ≡ next_count old.work.reads)
  once-read (Ok u) is = λ x. read_once old new page size u into is
  once-read (Err e) is = tt

  pub bytes-read : (result : Result (Unit {0}) FlashFault) (at : ℕ) → page ≡ at → ReadsPage old page size result into new → OnOk result (IsTrue old.media.tells → (into.bytes ≡ page_at old at) ⊎ X)
  bytes-read (Ok u) at same is = λ told. inl (is.bytes told ∙ ap (page_at old) same)
  bytes-read (Err e) at same is = tt

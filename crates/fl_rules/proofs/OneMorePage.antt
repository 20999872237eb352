-- The kept pages of a ring, looked at one after another: the reads so far and one more, and what was read.
use Rattle.std.proofs.Common.{◌≡◌, ℕ, ◌+◌, ◌-◌, ◌<◌, ◌≤◌, List, length, IsTrue, sym, ◌∙◌, ap, arith}
use Rattle.fl_base.specs.declared.types.Geometry.{Geometry}
use Rattle.fl_flash.specs.Flash.{FlashState, page_at}
use Rattle.fl_flash.specs.declared.flash.FlashFault.{FlashFault}
use Rattle.fl_frame.specs.Causes.{ReadFails}
use Rattle.fl_frame.specs.Reads.{OnlyReads}
use Rattle.fl_frame.proofs.ReadsInTurn.{looks_by, more_reads, same_page, told_still}
use Rattle.fl_mark.specs.declared.page_state.PageState.{PageState}
use Rattle.fl_ring.specs.declared.ring.Ring.{Ring}
use Rattle.fl_ring.specs.Looking.{state_at}
use Rattle.fl_ring.specs.Place.{shape_of, LiesOn}
use Rattle.fl_ring.proofs.ReadsInTurn.{same_state, fewer_reads}
use Rattle.fl_rules.proofs.LooksChangeNothing.{fails_later}

module _ (a b c : FlashState) (i n : ℕ) (before : OnlyReads a i b) where
  pub one_read : OnlyReads b 1 c → i < n → OnlyReads a n c
  one_read here lt = fewer_reads a c (i + 1) n (more_reads a b c i 1 before here) (omega (arith, lt))

  pub no_read : i < n → OnlyReads a n b
  no_read lt = fewer_reads a b i n before (omega (arith, lt))

  pub read_fails : (e : FlashFault) → ReadFails b e c → ReadFails a e c
  read_fails e fails = fails_later a b c e (looks_by a b i before) fails

  -- what stands at a page that was read
  module _ (p q : ℕ) (same : p ≡ q) (told : IsTrue a.media.tells) where
    pub bytes_read : (bytes : List ℕ) → (IsTrue b.media.tells → bytes ≡ page_at b p) → bytes ≡ page_at a q
    bytes_read bytes is = is (told_still a b i before told) ∙ same_page a b i p before ∙ ap (page_at a) same

    pub state_read : (s : PageState) → (IsTrue b.media.tells → s ≡ state_at b p) → s ≡ state_at a q
    state_read s is = is (told_still a b i before told) ∙ same_state a b i p before ∙ ap (state_at a) same

-- a buffer of the size of a ring's pages has room for a page of its flash
pub look_room : (ring : Ring) (a b : FlashState) (i len : ℕ) → LiesOn ring a → OnlyReads a i b → len ≡ (shape_of ring).size → len ≡ b.geometry.page
look_room ring a b i len lies before room = room ∙ (sym lies.page ∙ ap (λ (x : Geometry). x.page) (sym before.goes.geometry))

-- what was read into it has a header
pub page_long : {size : ℕ} (bytes held : List ℕ) → bytes ≡ held → length held ≡ size → 64 ≤ size → 64 ≤ length bytes
page_long bytes held is room least = let same = ap length is in omega (arith, same, room, least)

pub page_short : {size : ℕ} (bytes held : List ℕ) → bytes ≡ held → length held ≡ size → size ≤ 4096 → length bytes ≤ 4096
page_short bytes held is room most = let same = ap length is in omega (arith, same, room, most)

pub page_brief : {size : ℕ} (bytes held : List ℕ) → bytes ≡ held → length held ≡ size → size ≤ 4096 → length bytes < 65536
page_brief bytes held is room most = let few = page_short bytes held is room most in omega (arith, few)

pub number_long : {size : ℕ} (bytes held : List ℕ) → bytes ≡ held → length held ≡ size → 64 ≤ size → 4 ≤ length bytes
number_long bytes held is room least = let same = ap length is in omega (arith, same, room, least)

pub header_long : {size : ℕ} (bytes held : List ℕ) → bytes ≡ held → length held ≡ size → 64 ≤ size → 24 ≤ length bytes
header_long bytes held is room least = let same = ap length is in omega (arith, same, room, least)

-- bounds that say nothing
pub one_of : (n : ℕ) → 1 ≤ 1 + n
one_of n = omega arith

pub behind : (n : ℕ) → n < n + 1
behind n = omega arith

pub one_behind : (n m : ℕ) → n < m → n < m + 1
one_behind n m lt = omega (arith, lt)

-- the i-th kept page, counted back from the next one
pub some_back : {i kept : ℕ} → i < kept → 1 ≤ kept - i
some_back lt = omega (arith, lt)

pub few_back : (i : ℕ) {kept room : ℕ} → kept < room → kept - i ≤ room
few_back i lt = omega (arith, lt)

-- .. and back from the newest one
pub some_more : (i : ℕ) → 1 ≤ i + 1
some_more i = omega arith

pub more_few : {i kept room : ℕ} → i < kept → kept < room → i + 1 ≤ room
more_few lt few = omega (arith, lt, few)

-- bounds of numbers that are none
pub none_least : {n m : ℕ} → n ≡ 0 → n ≤ m
none_least none = omega (arith, none)

pub none_under : {n m : ℕ} → n ≡ 0 → 2 ≤ m → n < m
none_under none some = omega (arith, none, some)

pub some_of : {m : ℕ} → 2 ≤ m → 0 < m
some_of some = omega (arith, some)

-- What a mount knows of the data pages that it has come to, over any bytes.
use Rattle.std.specs.Prelude.{◌≡◌, ℕ, suc, ◌+◌, ◌-◌, ◌*◌, ◌%◌, ◌<◌, ◌≤◌, max, true, Option, Some, None, IfSome, option_map, List, slice_index, length}
use Rattle.fl_find.specs.Index.{IndexOf}
use Rattle.fl_find.specs.declared.index.KeyIndex.{KeyIndex}
use Rattle.fl_flash.specs.Flash.{FlashState}
use Rattle.fl_index.specs.Page.{full_view}
use Rattle.fl_model.specs.Record.{RowLayout}
use Rattle.fl_model.specs.Table.{first_of}
use Rattle.fl_frame.specs.Reads.{OnlyReads}
use Rattle.fl_parts.specs.ByEntries.{Come, entry, are_void, facts_on, rows_of, voids_of, points_of, end_of, known_after, page_check, first_some, checks_from, mount_fault}
use Rattle.fl_parts.specs.declared.mount_fault.MountFault.{MountFault}
use Rattle.fl_parts.specs.declared.mount_fault.MountFault.TheVariants.{BadPage}
use Rattle.fl_parts.specs.declared.known.Known.{Known}
use Rattle.fl_parts.specs.declared.known.Listed.{Listed}

-- the first fault of the checks that are left when k index pages were read and n data pages were checked
abbrev pub left : Come → ℕ → ℕ → Option MountFault
left t k n = first_some (checks_from t k n (t.index_pages - k))

-- how many rows the kept data pages have is noted, each at its place, from the i-th on up to the n-th
abbrev pub AreNoted : Come → ℕ → ℕ → List ℕ → Type 0
AreNoted t from n counts = (i : ℕ) → from ≤ i → i < n → slice_index counts ((t.oldest + i) % length counts) ≡ (facts_on t (t.oldest + i)).count

-- the first m data pages are counted
pub record AreCounted (t : Come) (m : ℕ) (known : Known) (counts : List ℕ) : Type 0 where
  pub fine : (i : ℕ) → i < m → page_check t i ≡ None
  pub rows : known.rows ≡ rows_of (facts_on t) t.oldest m
  pub last : known.last ≡ known_after t m
  pub noted : AreNoted t 0 m counts

-- Of n data pages all are counted.
pub record KnowsAll (t : Come) (k n : ℕ) (known : Known) (counts : List ℕ) : Type 0 where
  pub counted : AreCounted t n known counts
  pub voids : known.voids ≡ voids_of (facts_on t) t.oldest n
  pub blob_end : known.blob_end ≡ end_of (facts_on t) t.oldest n
  pub fault : known.fault ≡ None
  pub cause : mount_fault t ≡ left t k n

-- The m-th of n data pages is listed, and the newest of them with rows. It isn't counted yet, but all others are.
pub record KnowsAside (t : Come) (k n : ℕ) (listed : Listed) (known : Known) (counts : List ℕ) : Type 0 where
  pub m : ℕ
  pub within : m < n
  pub number_is : listed.number ≡ t.oldest + m
  pub tells : entry t (t.oldest + m) ≡ Some (full_view listed.full)
  pub some : 0 < listed.full.count
  pub newest : are_void t (t.oldest + suc m) (n - suc m) ≡ true
  pub counted : AreCounted t m known counts
  pub noted : AreNoted t (suc m) n counts
  pub voids : known.voids ≡ voids_of (facts_on t) t.oldest m + (n - suc m)
  pub blob_end : known.blob_end ≡ max (end_of (facts_on t) t.oldest m) (end_of (facts_on t) (t.oldest + suc m) (n - suc m))
  pub cause : mount_fault t ≡ first_of (page_check t m) (first_of (option_map (λ bad. BadPage bad) known.fault) (left t k n))

-- what is known when k index pages were read and n data pages were checked
abbrev pub KnowsBy : Option Listed → Come → ℕ → ℕ → Known → List ℕ → Type 0
KnowsBy None t k n known counts = KnowsAll t k n known counts
KnowsBy (Some listed) t k n known counts = KnowsAside t k n listed known counts

abbrev pub Knows : Come → ℕ → ℕ → Known → List ℕ → Type 0
Knows t k n known counts = KnowsBy known.newest t k n known counts

-- how many of n pages are counted
abbrev pub counted_to : Come → ℕ → Option Listed → ℕ
counted_to t n None = n
counted_to t n (Some listed) = listed.number - t.oldest

-- .. and the index of pages has the points of those that are counted
pub record KnowsWith {KNOTS SLOTS : ℕ} (error : ℕ) (t : Come) (k n : ℕ) (known : Known) (counts : List ℕ) (index : KeyIndex KNOTS SLOTS) : Type 0 where
  pub knows : Knows t k n known counts
  pub points : IndexOf error (points_of (facts_on t) t.oldest (counted_to t n known.newest)) index

-- What is kept in memory once all data pages are counted: how many rows each has, how many are void, and where the keys of the others
-- begin.
pub record IsLearned {KNOTS SLOTS : ℕ} (error : ℕ) (t : Come) (voids : ℕ) (counts : List ℕ) (index : KeyIndex KNOTS SLOTS) : Type 0 where
  pub noted : AreNoted t 0 t.pages counts
  pub voids_are : voids ≡ voids_of (facts_on t) t.oldest t.pages
  pub points : IndexOf error (points_of (facts_on t) t.oldest t.pages) index

-- what is known of n kept pages from a number on has small numbers, and the page that waits is one of them
abbrev pub is_waiting : Option Listed → ℕ
is_waiting None = 0
is_waiting (Some listed) = 1

pub record IsWithin (oldest n : ℕ) (known : Known) : Type 0 where
  pub rows : known.rows + is_waiting known.newest * 65536 ≤ n * 65536
  pub voids : known.voids ≤ n
  pub newest : IfSome known.newest (λ listed. (oldest ≤ listed.number) × (listed.number < oldest + n))

-- Pages were only read, no more of them than a number when the page that waits is read too.
pub record ReadsBut (old : FlashState) (n : ℕ) (known : Known) (new : FlashState) : Type 0 where
  pub some : ℕ
  pub reads : OnlyReads old some new
  pub few : some + is_waiting known.newest ≤ n

-- no index page lists a kept data page with these bytes
pub record IsUnlisted (t : Come) (layout : RowLayout) (number : ℕ) (bytes : List ℕ) : Type 0 where
  pub layout_is : t.layout ≡ layout
  pub bytes_are : t.rows number ≡ bytes
  pub none : entry t number ≡ None

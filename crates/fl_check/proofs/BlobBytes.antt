-- The bytes of a blob, as the pages of variable data that it needs have them.
use Rattle.std.proofs.Common.{◌≡◌, ℕ, zero, suc, ◌+◌, ◌/◌, ◌%◌, Option, Some, None, IfSome, List, [], ◌∷◌, length, map, drop, get_or, slice_get, refl, sym, ◌∙◌, ap, arith}
use Rattle.std.specs.List.{AllByRecursion}
use Rattle.std.proofs.lemmas.Option.{none-some}
use Rattle.fl_base.specs.declared.types.BlobRef.{BlobRef}
use Rattle.fl_base.specs.declared.types.RingPlace.{RingPlace}
use Rattle.fl_model.specs.Row.{Row}
use Rattle.fl_model.specs.Table.{Entry}
use Rattle.fl_ring.specs.Ring.{Shape}
use Rattle.fl_rules.specs.References.{numbered, content_room}
use Rattle.fl_rules.specs.declared.numbering.Numbering.{Numbering}
use Rattle.fl_rules.proofs.TablePages.{ReadsAll, entry_by, zeros, zeros-all}

-- so many bytes from the k-th on
abbrev pub bytes_from : (ℕ → ℕ) → ℕ → ℕ → List ℕ
bytes_from byte k zero = []
bytes_from byte k (suc n) = byte k ∷ bytes_from byte (suc k) n

length-from : (byte : ℕ → ℕ) (k n : ℕ) → length (bytes_from byte k n) ≡ n
length-from byte k zero = refl
length-from byte k (suc n) = ap suc (length-from byte (suc k) n)

pub byte-from : (byte : ℕ → ℕ) (k n j b : ℕ) → slice_get (bytes_from byte k n) j ≡ Some b → b ≡ byte (k + j)
byte-from byte k zero j b e = absurd (none-some b e)
byte-from byte k (suc n) zero b e = some e ∙ ap byte (let h : k ≡ k + 0 = omega arith in h)
  where
    some : ◌≡◌ {A = Option ℕ} (Some (byte k)) (Some b) → b ≡ byte k
    some h = cc
byte-from byte k (suc n) (suc j) b e = byte-from byte (suc k) n j b e ∙ ap byte (let h : suc k + j ≡ k + suc j = omega arith in h)

-- the k-th byte of a blob, counted on through full pages
abbrev pub byte_of : (ℕ → List ℕ) → Shape → Numbering → BlobRef → ℕ → ℕ
byte_of page r n at k = get_or (drop 8 (numbered page r n (at.page + (at.offset + k) / content_room r))) ((at.offset + k) % content_room r) 0

-- all of them; of a table that may have no variable data
abbrev pub read_from : (RingPlace → Shape) → (ℕ → List ℕ) → Option RingPlace → Option Numbering → BlobRef → List ℕ
read_from shape page (Some place) (Some n) at = bytes_from (byte_of page (shape place) n at) 0 at.length
read_from shape page (Some place) None at = zeros at
read_from shape page None n at = zeros at

pub reads-all : (shape : RingPlace → Shape) (page : ℕ → List ℕ) (o : Option RingPlace) (n : Option Numbering) → ReadsAll (read_from shape page o n)
reads-all shape page (Some place) (Some n) at = length-from (byte_of page (shape place) n at) 0 at.length
reads-all shape page (Some place) None at = zeros-all at
reads-all shape page None n at = zeros-all at

-- the blob of an entry has the bytes that are read of it
abbrev pub IsReadBy : (BlobRef → List ℕ) → Entry → Type 0
IsReadBy read entry = IfSome entry.kept.blob (λ blob. blob ≡ read (record { page = entry.page; offset = entry.offset; length = length blob }))

module _ (read : BlobRef → List ℕ) (all : ReadsAll read) where
  read-by : (row : Row) → IsReadBy read (entry_by read row)
  read-by row = by_blob row.blob
    where
      by_blob : (o : Option BlobRef) → IsReadBy read (entry_by read (record { key = row.key; values = row.values; blob = o }))
      by_blob None = tt
      by_blob (Some at) =
          let same : at ≡ record { page = at.page; offset = at.offset; length = length (read at) } = ap (λ (n : ℕ). record { page = at.page; offset = at.offset; length = n }) (sym (all at)) in
          ap read same

  pub all-read : (rows : List Row) → AllByRecursion (IsReadBy read) (map (entry_by read) rows)
  all-read [] = tt
  all-read (row ∷ rows) = (read-by row, all-read rows)

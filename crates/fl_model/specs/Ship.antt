-- Shipping: a second table takes the records of a first one that come after its own, and keeps a part of all that the first
-- one ever had.
use Rattle.std.specs.Prelude.{◌≡◌, ℕ, ◌<◌, Bool, true, nat_lt, ◌⊎◌, None, option_map, unwrap_or, List, [], ◌∷◌, ◌++◌, take, drop, map, filter}
use Rattle.std.specs.List.{AllByRecursion, last_or}
use Rattle.fl_model.specs.Record.{Record}
use Rattle.fl_model.specs.Table.{Table}

-- each key is above all before it
abbrev pub Ascends : List Record → Type 0
Ascends [] = Unit {0}
Ascends (item ∷ items) = AllByRecursion (λ other. item.key < other.key) items × Ascends items

-- it stands in the other list without a gap; an empty list does
pub record IsPart (part whole : List Record) : Type 0 where
  pub before : List Record
  pub after : List Record
  pub is : whole ≡ before ++ (part ++ after)

-- .. at its end
pub record IsEnd (part whole : List Record) : Type 0 where
  pub before : List Record
  pub is : whole ≡ before ++ part

abbrev pub records_in : Table → List Record
records_in table = map (λ entry. entry.kept) table.entries

-- the records of a table that come after those of a copy: all of them where the copy has none
abbrev pub comes_after : List Record → Record → Bool
comes_after copy item = unwrap_or (option_map (λ last. nat_lt last.key item.key) (last_or None copy)) true

abbrev pub to_ship : List Record → List Record → List Record
to_ship source copy = filter (comes_after copy) source

-- The copy goes on where the first table still has a record with its last key, or where one of them has none. Else there is a gap.
pub record HasLastOf (source copy : List Record) : Type 0 where
  pub front : List Record
  pub last : Record
  pub others : List Record
  pub found : Record
  pub back : List Record
  pub copy_is : copy ≡ front ++ last ∷ []
  pub source_is : source ≡ others ++ found ∷ back
  pub key : found.key ≡ last.key

abbrev pub MayShip : List Record → List Record → Type 0
MayShip source copy = (source ≡ []) ⊎ ((copy ≡ []) ⊎ HasLastOf source copy)

-- What a copy may keep after records were put into it in order, until its puts or its flush ended or failed, and a mount: it
-- has a front of what it had and was given, without its oldest records.
pub record KeepsOf (held given left : List Record) : Type 0 where
  pub given_up : ℕ
  pub first : ℕ
  pub kept : left ≡ drop given_up (take first (held ++ given))

-- A ship of at most so many records, also one that fails: where there is no gap, a copy that was a part of any list of records
-- with ascending keys, as the first table is, is a part of it.
abbrev pub ShipsParts : Type 0
ShipsParts =
    (source copy left ever : List Record) (count : ℕ) → IsPart source ever → IsPart copy ever → Ascends ever → MayShip source copy →
    KeepsOf copy (take count (to_ship source copy)) left → IsPart left ever

-- two tables, and all that the first one ever had
pub record Shipment : Type 0 where
  pub ever : List Record
  pub source : List Record
  pub copy : List Record

abbrev pub nothing_yet : Shipment
nothing_yet = record { ever = []; source = []; copy = [] }

-- A run of the first table: it writes more records, and gives up its oldest.
pub record SourceRuns (before after : Shipment) : Type 0 where
  pub more : List Record
  pub given_up : ℕ
  pub ever : after.ever ≡ before.ever ++ more
  pub source : after.source ≡ drop given_up (before.source ++ more)
  pub copy : after.copy ≡ before.copy

-- A ship of at most so many records, also one that fails: where there is no gap, the copy may keep some of them.
pub record Ships (before after : Shipment) : Type 0 where
  pub count : ℕ
  pub ever : after.ever ≡ before.ever
  -- the first table is mounted for it
  pub mounted : ℕ
  pub source : after.source ≡ drop mounted before.source
  pub allowed : MayShip after.source before.copy
  pub copy : KeepsOf before.copy (take count (to_ship after.source before.copy)) after.copy

-- A mount of the copy, or a run over it that adds nothing, or a ship that finds a gap.
pub record CopyRests (before after : Shipment) : Type 0 where
  pub ever : after.ever ≡ before.ever
  pub mounted : ℕ
  pub source : after.source ≡ drop mounted before.source
  pub copy : KeepsOf before.copy [] after.copy

abbrev pub ShipmentStep : Shipment → Shipment → Type 0
ShipmentStep before after = SourceRuns before after ⊎ (Ships before after ⊎ CopyRests before after)

abbrev pub Shipments : Shipment → List Shipment → Type 0
Shipments before [] = Unit {0}
Shipments before (after ∷ others) = ShipmentStep before after × Shipments after others

abbrev pub IsWhole : Shipment → Type 0
IsWhole shipment = IsPart shipment.copy shipment.ever

-- Over every list of runs, ships, repeated ships and cuts in which all that the first table ever had has ascending keys, the
-- copy is a part of it.
abbrev pub CopiesAreParts : Type 0
CopiesAreParts =
    (shipments : List Shipment) → Shipments nothing_yet shipments → AllByRecursion (λ shipment. Ascends shipment.ever) shipments → AllByRecursion IsWhole shipments

-- A ship of all that is left leaves the first table's last record in the copy.
abbrev pub ShipsAll : Type 0
ShipsAll =
    (source copy ever : List Record) → IsPart source ever → IsPart copy ever → Ascends ever → (copy ≡ []) ⊎ HasLastOf source copy →
    last_or None (copy ++ to_ship source copy) ≡ last_or None source

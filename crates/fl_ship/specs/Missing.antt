-- Which records of a source a copy doesn't have, and where records between the two may be gone.
use Rattle.std.specs.Prelude.{◌≡◌, ◌⊎◌, ℕ, ◌+◌, ◌-◌, ◌^◌, ◌==◌, Option, None, Some, Result, Ok, Err, List, ◌∷◌, [], ◌++◌, if◌then◌else◌, slice_get}
use Rattle.std.specs.List.{AllByRecursion}
use Rattle.fl_base.specs.declared.types.KeyRange.{KeyRange}
use Rattle.fl_model.specs.Record.{Record}
use Rattle.fl_page.specs.Causes.{IsCaused}
use Rattle.fl_page.specs.declared.fault.ReadFault.{ReadFault}
use Rattle.fl_page.specs.declared.fault.ReadFault.TheVariants as read
use Rattle.fl_flash.specs.Flash.{FlashState}
use Rattle.fl_ship.specs.declared.fault.ShipFault.TheVariants.{Read, Put, Flush}
use Rattle.fl_ship.specs.declared.stop.Stop.{Stop}
use Rattle.fl_ship.specs.declared.stop.Stop.TheVariants.{Gap, Ship}

-- the keys above the last one, all where there is none; none are above the greatest
abbrev pub keys_above : Option ℕ → Option KeyRange
keys_above None = Some (record { low = 0; high = 2 ^ 64 - 1 })
keys_above (Some last) = if last == 2 ^ 64 - 1 then None else Some (record { low = last + 1; high = 2 ^ 64 - 1 })

-- a record has this key
pub record HasKey (items : List Record) (key : ℕ) : Type 0 where
  pub place : ℕ
  pub item : Record
  pub here : slice_get items place ≡ Some item
  pub key_is : item.key ≡ key

-- a source without a record with this key, whose first key is `oldest`
pub record HasNone (source : List Record) (last oldest : ℕ) : Type 0 where
  pub first : Record
  pub behind : List Record
  pub source_is : source ≡ first ∷ behind
  pub oldest_is : first.key ≡ oldest
  pub missing : AllByRecursion (λ item. item.key ≡ last → ⊥) source

-- both have records, and the source has none with the copy's last key
pub record IsGap (source copy : List Record) (last oldest : ℕ) : Type 0 where
  pub others : List Record
  pub final : Record
  pub copy_is : copy ≡ others ++ final ∷ []
  pub last_is : final.key ≡ last
  pub none : HasNone source last oldest

-- a copy with this last key goes on where the source has a record with it, or one of the two has none
abbrev pub FollowsOn : List Record → Option ℕ → Type 0
FollowsOn source None = Unit {0}
FollowsOn source (Some last) = (source ≡ []) ⊎ HasKey source last

-- the first key of these records, where it was found
abbrev pub FirstIs : List Record → Result (Option ℕ) ReadFault → Type 0
FirstIs items (Ok None) = items ≡ []
FirstIs items (Ok (Some key)) = (first : Record) × ((behind : List Record) × (items ≡ first ∷ behind) × (first.key ≡ key))
FirstIs items (Err (read.Flash fault)) = Unit {0}
FirstIs items (Err (read.BadPage bad)) = ⊥

-- it was looked whether it does
abbrev pub LooksForGap : List Record → Option ℕ → Result (Unit {0}) Stop → Type 0
LooksForGap source last (Ok done) = FollowsOn source last
LooksForGap source last (Err (Gap key oldest)) = (last ≡ Some key) × HasNone source key oldest
LooksForGap source last (Err (Ship (Read (read.Flash fault)))) = Unit {0}
LooksForGap source last (Err (Ship (Read (read.BadPage bad)))) = ⊥
LooksForGap source last (Err (Ship (Put refusal))) = ⊥
LooksForGap source last (Err (Ship (Flush fault))) = ⊥

-- why it wasn't, over any bytes
abbrev pub LookCausedBy : FlashState → FlashState → Stop → Type 0
LookCausedBy old new (Gap last oldest) = Unit {0}
LookCausedBy old new (Ship (Read fault)) = IsCaused old fault new
LookCausedBy old new (Ship (Put refusal)) = ⊥
LookCausedBy old new (Ship (Flush fault)) = ⊥

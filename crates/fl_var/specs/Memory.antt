-- What clauses see of a ring of variable data in memory.
use Rattle.std.specs.Prelude.{◌≡◌, ℕ, zero, suc, ◌+◌, ◌-◌, ◌^◌, ◌<◌, ◌≤◌, Bool, ◌==◌, if◌then◌else◌, is_some, option_map, unwrap_or, List, drop}
use Rattle.std.specs.Option.{ForSome}
use Rattle.fl_flash.specs.Flash.{FlashState, pages, page_at}
use Rattle.fl_model.specs.Layout.{committed}
use Rattle.fl_model.specs.Record.{Plan}
use Rattle.fl_ring.specs.Mounting.{shape_at}
use Rattle.fl_ring.specs.Place.{next_of, oldest_of}
use Rattle.fl_ring.specs.Place as place
use Rattle.fl_ring.specs.Ring as ring
use Rattle.fl_ring.specs.Ring.{Shape, is_due_at}
use Rattle.fl_ring.specs.Written.{MaySealIn, sealed_over}
use Rattle.fl_var.specs.Ahead.{AheadBlank}
use Rattle.fl_var.specs.Content.{content_body}
use Rattle.fl_var.specs.WaitingState.{content_in}
use Rattle.fl_var.specs.declared.var_data.VarData.{VarData}

-- the last mount succeeded, and no operation failed since
abbrev pub is_mounted : VarData → Bool
is_mounted v = is_some v.ring

-- the next page number of a mounted ring, and the oldest one that is kept
abbrev pub next_in : VarData → ℕ
next_in v = unwrap_or (option_map (λ r. next_of r) v.ring) 0

abbrev pub oldest_in : VarData → ℕ
oldest_in v = unwrap_or (option_map (λ r. oldest_of r) v.ring) 0

-- the flash pages that the seal of the next page changes
abbrev pub MaySeal : VarData → ℕ → Type 0
MaySeal v = MaySealIn v.ring

-- the bytes that wait for the next page
abbrev pub waiting_in : VarData → List ℕ
waiting_in v = content_in v.waiting

-- the bytes of a page, and how many of them that wait it holds
abbrev pub page_len : VarData → ℕ
page_len v = v.geometry.page

abbrev pub room_in : VarData → ℕ
room_in v = v.geometry.page - 16

-- where the ring stands
abbrev pub var_shape : VarData → Shape
var_shape v = shape_at v.place v.geometry

-- the oldest page that a ring keeps after so many seals: with each its oldest block goes where it has to
abbrev pub oldest_through : Shape → ℕ → ℕ → ℕ → ℕ
oldest_through r next oldest zero = oldest
oldest_through r next oldest (suc n) =
    let before = oldest_through r next oldest n in if is_due_at r (next + suc n) (next + suc n - before) then before + r.per_block else before

abbrev pub oldest_after : VarData → ℕ → ℕ
oldest_after v n = oldest_through (var_shape v) (next_in v) (oldest_in v) n

-- the flash pages of the ring
abbrev pub IsOnRing : VarData → ℕ → Type 0
IsOnRing v page = ((var_shape v).first ≤ page) × (page < (var_shape v).first + ring.room (var_shape v))

-- the flash page for the bytes that wait, and that the body which they make, and the mark of a commit, were programmed over what it held
abbrev pub bytes_page : VarData → ℕ
bytes_page v = ring.place (var_shape v) (next_in v)

abbrev pub BytesPaged : VarData → (ℕ → List ℕ) → (ℕ → List ℕ) → Type 0
BytesPaged v old new = new (bytes_page v) ≡ sealed_over (var_shape v) (content_body (room_in v) (next_in v) (waiting_in v)) (old (bytes_page v))

-- where the oldest block goes with their seal, the block ahead is blank then, but for the pages that may have changed since
abbrev pub BytesAhead : VarData → (ℕ → Type 0) → (ℕ → List ℕ) → Type 0
BytesAhead v Changed new = AheadBlank v.ring Changed new

-- the bytes at the place of a page number
abbrev pub page_in : VarData → FlashState → ℕ → List ℕ
page_in v f number = page_at f (ring.place (var_shape v) number)

-- the same with one page more: the next one, as it would be if it was sealed now
abbrev pub image_in : VarData → FlashState → ℕ → List ℕ
image_in v f number =
    if number == next_in v then committed (content_body (room_in v) number (waiting_in v)) else page_in v f number

-- the content of the page with this number: the next one is in memory, and of another one these are the bytes that were read
abbrev pub present : VarData → ℕ → List ℕ → List ℕ
present v number bytes = if number == next_in v then waiting_in v else drop 8 bytes

-- the variable data of a table of this plan
pub record IsPlanned (v : VarData) (plan : Plan) : Type 0 where
  pub geometry : plan.geometry ≡ v.geometry
  pub blocks : plan.var_blocks ≡ v.place.blocks

-- what no call changes
pub record IsSamePlan (old new : VarData) : Type 0 where
  pub geometry : new.geometry ≡ old.geometry
  pub place : new.place ≡ old.place

-- a flash on which the ring lies
pub record LiesOn (v : VarData) (f : FlashState) : Type 0 where
  pub geometry : f.geometry ≡ v.geometry
  pub within : v.place.first_block + v.place.blocks ≤ f.blocks
  pub few : pages f < 2 ^ 32
  pub ring : ForSome v.ring (λ r. place.LiesOn r f)

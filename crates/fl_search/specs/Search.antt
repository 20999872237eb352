-- The page of a key, among pages whose first keys a function tells.
use Rattle.std.specs.Prelude.{ℕ, zero, suc, ◌+◌, ◌-◌, ◌^◌, ◌<◌, ◌≤◌, ◌≡◌, Bool, true, false, nat_le, Option, Some, None, option_map, unwrap_or, is_none, if◌then◌else◌}

-- a count rose by n, where it ends below the number at which it stays
abbrev pub RoseBy : ℕ → ℕ → ℕ → Type 0
RoseBy n before now = now < 2 ^ 64 - 1 → now ≡ before + n

-- a count rose, or stands at the number at which it stays
abbrev pub RoseSome : ℕ → ℕ → Type 0
RoseSome before now = now < 2 ^ 64 - 1 → before + 1 ≤ now

-- a page isn't void, and its first key is at most the key
abbrev pub starts_by : (ℕ → Option ℕ) → ℕ → ℕ → Bool
starts_by first key n = unwrap_or (option_map (λ x. nat_le x key) (first n)) false

-- the greatest such page from the oldest one to before the end
pub record IsGreatest (first : ℕ → Option ℕ) (oldest end key page : ℕ) : Type 0 where
  pub from : oldest ≤ page
  pub before : page < end
  pub here : starts_by first key page ≡ true
  pub later : (n : ℕ) → page < n → n < end → starts_by first key n ≡ false

abbrev pub IsPageOf : (ℕ → Option ℕ) → ℕ → ℕ → ℕ → Option ℕ → Type 0
IsPageOf first oldest end key None = (n : ℕ) → oldest ≤ n → n < end → starts_by first key n ≡ false
IsPageOf first oldest end key (Some page) = IsGreatest first oldest end key page

-- how many pages there are from the one that is answered to the end, or from the oldest one where none is
abbrev pub looked_at : ℕ → ℕ → Option ℕ → ℕ
looked_at oldest end None = end - oldest
looked_at oldest end (Some page) = end - page

-- the first keys of the pages that aren't void ascend
abbrev pub Ascends : (ℕ → Option ℕ) → ℕ → ℕ → Type 0
Ascends first oldest end = (i j x y : ℕ) → oldest ≤ i → i < j → j < end → first i ≡ Some x → first j ≡ Some y → x < y

-- how many pages from one to before another are void
abbrev pub voids_from : (ℕ → Option ℕ) → ℕ → ℕ → ℕ
voids_from first from zero = 0
voids_from first from (suc n) = (if is_none (first from) then 1 else 0) + voids_from first (from + 1) n

abbrev pub voids_in : (ℕ → Option ℕ) → ℕ → ℕ → ℕ
voids_in first from to = voids_from first from (to - from)

-- the last page that isn't void, and its first key
pub record IsLastAt (first : ℕ → Option ℕ) (oldest end page key : ℕ) : Type 0 where
  pub from : oldest ≤ page
  pub before : page < end
  pub here : first page ≡ Some key
  pub later : (n : ℕ) → page < n → n < end → first n ≡ None

abbrev pub IsLastFull : (ℕ → Option ℕ) → ℕ → ℕ → Option (ℕ × ℕ) → Type 0
IsLastFull first oldest end None = (n : ℕ) → oldest ≤ n → n < end → first n ≡ None
IsLastFull first oldest end (Some last) = IsLastAt first oldest end last.0 last.1

-- the calls that find it
abbrev pub probed : ℕ → ℕ → Option (ℕ × ℕ) → ℕ
probed oldest end None = end - oldest
probed oldest end (Some last) = end - last.0

-- a call for one of the pages from one to before another failed
pub record FailsAmong (Fails : ℕ → Type 0) (oldest end : ℕ) : Type 0 where
  pub number : ℕ
  pub within : (oldest ≤ number) × (number < end)
  pub fails : Fails number

-- .. and, as each of these functions tells, no page behind it begins with at most the key
pub record FailsBelow (Tells : (ℕ → Option ℕ) → Type 0) (Fails : ℕ → Type 0) (oldest end key : ℕ) : Type 0 where
  pub number : ℕ
  pub within : (oldest ≤ number) × (number < end)
  pub fails : Fails number
  pub later : (first : ℕ → Option ℕ) → Tells first → (n : ℕ) → number < n → n < end → starts_by first key n ≡ false

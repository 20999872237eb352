-- What a lookup of an entry says of its calls, where it looks at no index page, and where it looks at one.
use Rattle.std.proofs.Common.{◌≡◌, ℕ, ◌-◌, ◌<◌, ◌≤◌, Bool, ◌&&◌, cond, true, false, Option, Some, None, IfSome, Result, Ok, Err, IfErr, OnOk, refl, ◌∙◌, sym, ap, subst, arith}
use Rattle.std.proofs.Math.Nat.{le_refl}
use Rattle.std.specs.Option.{option_map, unwrap_or}
use Rattle.fl_flash.specs.Buffer.{BufferState}
use Rattle.fl_flash.specs.Flash.{FlashState}
use Rattle.fl_flash.specs.declared.flash.FlashFault.{FlashFault}
use Rattle.fl_page.specs.declared.fault.ReadFault.{ReadFault}
use Rattle.fl_page.specs.declared.fault.ReadFault.TheVariants.{Flash, BadPage}
use Rattle.fl_ring.specs.Place.{next_of, oldest_of}
use Rattle.fl_ring.specs.declared.ring.Ring.{Ring}
use Rattle.fl_index.proofs.Held.{kept-held}
use Rattle.fl_index.specs.declared.index.BitmapIndex.{BitmapIndex}
use Rattle.fl_index.specs.Looking.{looked_at, listing_by, entire, ByMemory, HoldsGood, IsFound, IfUnread, is_kept, IsScanning, ScansOn}
use Rattle.fl_index.specs.Memory.{first_in, first_waiting, found_waiting, is_waiting, listing_from, listing_in, lists, per_page}
use Rattle.fl_index.specs.Page.{page_number, IsGoodPage}
use Rattle.fl_index.specs.declared.page.Found.{Found}

-- the buffer has room for the bytes before the entries
pub header-fits : (size page : ℕ) → size ≡ page → 64 ≤ page → 16 ≤ size
header-fits size page same least = omega arith

-- a page in which an entry was found, or which lists none, is good where it is committed
pub holds-good : (t : BitmapIndex) (page number : ℕ) (buf : BufferState) (result : Result (Option Found) ReadFault) → IsFound entire t page number buf.bytes result → OnOk result (HoldsGood t buf)
holds-good t page number buf (Ok None) is = λ n held committed. absurd (is committed)
holds-good t page number buf (Ok (Some found)) is = λ n held committed. subst (λ m. IsGoodPage (per_page t) m buf.bytes) (sym is.1.number_is ∙ held.number_is) is.1
holds-good t page number buf (Err fault) is = tt

pub some-any : (o : Option ℕ) (P : ℕ → Type 0) → ((n : ℕ) → P n) → IfSome o P
some-any None P all = tt
some-any (Some n) P all = all n

pub some-at : (o : Option ℕ) (P : ℕ → Type 0) (n : ℕ) → o ≡ Some n → P n → IfSome o P
some-at o P n is holds = subst (λ (x : Option ℕ). IfSome x P) (sym is) holds

-- a fault that isn't one of the flash says nothing of those
pub unread-never : (result : Result (Option Found) ReadFault) (P : FlashFault → Type 0) → IfErr result (IfUnread (λ e. ⊥)) → IfErr result (IfUnread P)
unread-never (Ok found) P none = tt
unread-never (Err (Flash fault)) P none = absurd none
unread-never (Err (BadPage bad)) P none = tt

module _ (t : BitmapIndex) (number : ℕ) (buf : BufferState) where
  -- no index page is looked at where the entry waits, or none lists the data page
  pub none-waits : is_waiting t number ≡ true → looked_at t number buf ≡ None
  none-waits waits = ap (λ b. cond b None (listing_by t number buf)) waits

  pub none-listed : is_waiting t number ≡ false → listing_by t number buf ≡ None → looked_at t number buf ≡ None
  none-listed waits none = ap (λ b. cond b None (listing_by t number buf)) waits ∙ none

  -- .. and without a ring in memory there is none
  pub no-ring-in : t.ring ≡ None → listing_in t number ≡ None
  no-ring-in none = ap (λ (o : Option Ring). listing_from (per_page t) (first_in t) number (unwrap_or (option_map (λ r. oldest_of r) o) 0) (unwrap_or (option_map (λ r. next_of r) o) 0 - unwrap_or (option_map (λ r. oldest_of r) o) 0)) none

  pub no-ring-by : t.ring ≡ None → listing_by t number buf ≡ None
  no-ring-by none = by-kept (is_kept t buf) refl
    where
      by-kept : (b : Bool) → is_kept t buf ≡ b → listing_by t number buf ≡ None
      by-kept true is =
          let below = subst (λ n. page_number buf.bytes < n) (ap (λ (o : Option Ring). unwrap_or (option_map (λ r. next_of r) o) 0) none) (kept-held t buf is).kept.1 in
          let no : ⊥ = omega (arith, below) in
          absurd no
      by-kept false is = ap (λ b. cond (b && lists (per_page t) number (first_in t (page_number buf.bytes))) (Some (page_number buf.bytes)) (listing_in t number)) is ∙ no-ring-in none

  pub from-memory : (f : FlashState) (found : Option Found) → found ≡ cond (is_waiting t number) (Some (found_waiting t (number - first_waiting t))) None → ByMemory entire t number f buf (Ok found) f buf
  from-memory f found is = record { answer = ap (λ (o : Option Found). Ok o) is; flash = refl; buffer = refl }

  pub scan-stays : (from : ℕ) (f : FlashState) → IsScanning t number from buf → ScansOn t number from f f buf
  scan-stays from f scanning = record { next = from; scanning = scanning; once = le_refl _; fewer = le_refl _ }

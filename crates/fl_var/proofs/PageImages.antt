-- The pages of variable data by their bytes, and the next one as it would be sealed.
use Rattle.std.proofs.Common.{◌≡◌, ℕ, ◌+◌, ◌-◌, ◌^◌, ◌<◌, ◌≤◌, Bool, true, false, cond, ◌==◌, List, ◌++◌, length, take, drop, replicate, refl, sym, ◌∙◌, ap, subst, arith, length-append}
use Rattle.std.proofs.lemmas.Bool.{eq-eqb, eqb-true}
use Rattle.std.proofs.lemmas.List.{length-take-le, length-replicate, take_at, take-append-le, length-drop}
use Rattle.fl_flash.specs.Flash.{FlashState}
use Rattle.fl_mark.specs.Mark.{state_of_page}
use Rattle.fl_mark.specs.declared.page_state.PageState.TheVariants.{Committed}
use Rattle.fl_model.specs.Layout as layout
use Rattle.fl_model.specs.Layout.{ContentPage, committed}
use Rattle.fl_page.specs.Header.{page_number, page_count}
use Rattle.fl_page.specs.Page.{bad_page}
use Rattle.fl_ring.proofs.Found.{committed_state}
use Rattle.fl_ring.proofs.Images.{committed_is}
use Rattle.fl_schema.proofs.Numbers.{number_of-le}
use Rattle.fl_var.specs.Blobs.{end_fault}
use Rattle.fl_var.specs.Content.{page_with, content_body, content_of, HasContent}
use Rattle.fl_var.specs.Memory.{next_in, waiting_in, room_in, page_in, image_in}
use Rattle.fl_var.specs.declared.var_data.VarData.{VarData}

-- a committed page with this content
module _ (number : ℕ) (p : ContentPage) (small : number < 2 ^ 32) (few : p.used < 65536) where
  pub page-state : state_of_page (committed (layout.content_body number p)) ≡ Committed
  page-state = ap state_of_page (committed_is (layout.content_body number p)) ∙ committed_state (layout.content_body number p)

  pub page-number : page_number (committed (layout.content_body number p)) ≡ number
  page-number = number_of-le 4 number small

  pub page-count : page_count (committed (layout.content_body number p)) ≡ p.used
  page-count = number_of-le 2 p.used few

  pub page-length : length (committed (layout.content_body number p)) ≡ length p.bytes + 16
  page-length = omega (arith, length-append (layout.content_body number p ++ replicate 4 0) (replicate 4 255), length-append (layout.content_body number p) (replicate 4 0))

  pub page-content : p.used ≤ length p.bytes → content_of (committed (layout.content_body number p)) ≡ take p.used p.bytes
  page-content room =
      ap (λ (n : ℕ). take n (p.bytes ++ replicate 4 0 ++ replicate 4 255)) page-count
      ∙ (take-append-le p.used (p.bytes ++ replicate 4 0) (replicate 4 255) (omega (arith, room, length-append p.bytes (replicate 4 0))) ∙ take-append-le p.used p.bytes (replicate 4 0) room)

  pub page-has : 1 ≤ p.used → p.used ≤ length p.bytes → HasContent number (committed (layout.content_body number p))
  page-has some room = record {
    committed = page-state;
    number_is = page-number;
    some = omega (arith, page-count, some);
    room = omega (arith, page-count, page-length, room);
  }

-- the bytes of a page with room for so many
pub filled-length : (room : ℕ) (content : List ℕ) → length content ≤ room → length (page_with room content).bytes ≡ room
filled-length room content fits = omega (arith, length-append content (replicate (room - length content) 255), length-replicate {A = ℕ} (room - length content) 255, fits)

-- the content that waits
pub waiting-length : (v : VarData) → length (waiting_in v) ≡ v.waiting.fill
waiting-length v = length-take-le v.waiting.fill (drop 8 v.waiting.body) (omega (arith, v.room, length-drop 8 v.waiting.body))

pub waiting-room : (v : VarData) → length (waiting_in v) ≤ room_in v
waiting-room v = omega (arith, waiting-length v, v.room, v.page)

pub waiting-few : (v : VarData) → length (waiting_in v) < 65536
waiting-few v = omega (arith, waiting-length v, v.room, v.page, v.served.page_greatest)

-- the image of the next page, and of another
pub image-next : (v : VarData) (f : FlashState) (number : ℕ) → number ≡ next_in v → image_in v f number ≡ committed (content_body (room_in v) number (waiting_in v))
image-next v f number e = ap (λ (b : Bool). cond b (committed (content_body (room_in v) number (waiting_in v))) (page_in v f number)) (eq-eqb number (next_in v) e)

pub image-other : (v : VarData) (f : FlashState) (number : ℕ) → (number ≡ next_in v → ⊥) → image_in v f number ≡ page_in v f number
image-other v f number ne = by_test (number == next_in v) refl
  where
    by_test : (b : Bool) → (number == next_in v) ≡ b → cond b (committed (content_body (room_in v) number (waiting_in v))) (page_in v f number) ≡ page_in v f number
    by_test true e = absurd (ne (eqb-true number (next_in v) e))
    by_test false e = refl

module _ (v : VarData) (f : FlashState) (number : ℕ) (small : number < 2 ^ 32) (is : number ≡ next_in v) where
  abbrev waits : ContentPage
  waits = page_with (room_in v) (waiting_in v)

  room-of : length (waiting_in v) ≤ length (page_with (room_in v) (waiting_in v)).bytes
  room-of = omega (arith, filled-length (room_in v) (waiting_in v) (waiting-room v), waiting-room v)

  pub next-state : state_of_page (image_in v f number) ≡ Committed
  next-state = ap state_of_page (image-next v f number is) ∙ page-state number waits small (waiting-few v)

  pub next-count : page_count (image_in v f number) ≡ length (waiting_in v)
  next-count = ap page_count (image-next v f number is) ∙ page-count number waits small (waiting-few v)

  pub next-number : page_number (image_in v f number) ≡ number
  next-number = ap page_number (image-next v f number is) ∙ page-number number waits small (waiting-few v)

  pub next-content : content_of (image_in v f number) ≡ waiting_in v
  next-content =
      ap content_of (image-next v f number is)
      ∙ (page-content number waits small (waiting-few v) room-of ∙ take_at (waiting_in v) (replicate (room_in v - length (waiting_in v)) 255) (length (waiting_in v)) refl)

  pub next-has : 1 ≤ length (waiting_in v) → HasContent number (image_in v f number)
  next-has some = subst (HasContent number) (sym (image-next v f number is)) (page-has number waits small (waiting-few v) some room-of)

  -- an empty buffer is where all pages end
  pub next-bad : length (waiting_in v) ≡ 0 → (HasContent number (image_in v f number) → ⊥) × (end_fault v ≡ bad_page number (image_in v f number))
  next-bad none = (
    λ h. let k = h.some in absurd (omega (arith, k, next-count, none)),
    ap (λ (n : ℕ). record { wanted = n; found = n; count = length (waiting_in v) }) (sym is)
        ∙ (ap (λ (n : ℕ). record { wanted = number; found = n; count = length (waiting_in v) }) (sym next-number)
        ∙ ap (λ (n : ℕ). record { wanted = number; found = page_number (image_in v f number); count = n }) (sym next-count)),
  )

-- An image that was just made stands for empty tables.
use Rattle.std.proofs.Common.{◌≡◌, ℕ, zero, suc, ◌+◌, ◌-◌, ◌*◌, ◌≤◌, true, None, List, [], ◌∷◌, ◌++◌, length, map, take, drop, replicate, slice_range, sum_by, refl, sym, ◌∙◌, ap, length-append, arith}
use Rattle.std.proofs.Math.Seq.{drop-append-add, take-append_seam}
use Rattle.std.proofs.lemmas.List.{drop-replicate, length-replicate}
use Rattle.fl_flash.specs.Flash.{FlashState, page_at}
use Rattle.fl_machine.specs.Machine.{fresh_tables}
use Rattle.fl_model.specs.Image.{IsTableImage, AreTableImages, medium_len}
use Rattle.fl_model.specs.Layout.{is_blank}
use Rattle.fl_model.specs.Record.{Plan, Config, blocks_of}
use Rattle.fl_model.specs.Table.{fresh_table}
use Rattle.fl_parts.specs.Pages.{place_in}
use Rattle.fl_rlc.proofs.Images.{rests-image, blank-rests}
use Rattle.fl_words.specs.Medium.{IsImage, header}
use Rattle.fl_image.specs.Header.{IsMade}
use Rattle.fl_store.specs.NewImage.{new_image}
use Rattle.fl_store.proofs.HeaderLength.{header-length}

-- a part of the bytes behind the header is blank
blank-take : (m n : ℕ) → is_blank (take m (replicate n 255)) ≡ true
blank-take zero n = refl
blank-take (suc m) zero = refl
blank-take (suc m) (suc n) = blank-take m n

blank-part : (head : List ℕ) (n at end : ℕ) → length head ≤ at → is_blank (slice_range (head ++ replicate n 255) at end) ≡ true
blank-part head n at end behind =
    let k = at - length head in
    let at_is : at ≡ length head + k = omega (arith, behind) in
    let cut : drop at (head ++ replicate n 255) ≡ replicate (n - k) 255 =
    ap (λ m. drop m (head ++ replicate n 255)) at_is ∙ (drop-append-add head (replicate n 255) k ∙ drop-replicate k n 255) in
    ap (λ l. is_blank (take (end - at) l)) cut ∙ blank-take (end - at) (n - k)

module _ (config : Config) (size : length (header config) ≡ 1024) where
  -- a flash over these bytes
  abbrev flash : FlashState
  flash = record {
    geometry = config.geometry;
    blocks = 0;
    start = 1024;
    origin = 0;
    media = record { tells = true; content = new_image config; faults = 0; reads = 0 };
    is_on = true;
    armed = None;
    cuts = 0;
    work = record { reads = 0; programs = 0; erases = 0 };
  }

  blank : (p : ℕ) → is_blank (page_at flash p) ≡ true
  blank p =
      let begin = 1024 + p * config.geometry.page in
      blank-part (header config) (medium_len config - 1024) begin (begin + config.geometry.page) (omega (arith, size))

  one : (place : ℕ) (plan : Plan) → IsTableImage config (new_image config) place plan (fresh_table plan)
  one place plan =
      let first = sum_by blocks_of (take place config.plans) in
      rests-image config place plan (fresh_table plan) flash refl refl (blank-rests flash first plan (λ ring n. blank (place_in first plan ring n)))

  all : (place : ℕ) (plans : List Plan) → AreTableImages config (new_image config) place plans (map fresh_table plans)
  all place [] = tt
  all place (plan ∷ plans) = (one place plan, all (place + 1) plans)

  len : length (new_image config) ≡ medium_len config
  len =
      let least : 1024 ≤ medium_len config = omega arith in
      omega (arith, least, size, length-append (header config) (replicate (medium_len config - 1024) 255), length-replicate {A = ℕ} (medium_len config - 1024) 255)

  pub sized-image : IsImage config (new_image config) (fresh_tables config)
  sized-image = record {
    len = len;
    head = ap (λ (n : ℕ). take n (new_image config)) (sym size) ∙ take-append_seam (header config) (replicate (medium_len config - 1024) 255);
    tables_are = all 0 config.plans;
  }

pub new-image : (config : Config) → IsMade config → IsImage config (new_image config) (fresh_tables config)
new-image config made = sized-image config (header-length made.lines config made.accepted made.makes)

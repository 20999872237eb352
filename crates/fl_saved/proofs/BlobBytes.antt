-- The pages of variable data that an image has hold the bytes of each blob that isn't gone.
use Rattle.std.proofs.Common.{◌≡◌, ◌⊎◌, inl, inr, ℕ, ◌+◌, ◌-◌, ◌*◌, ◌/◌, ◌%◌, ◌<◌, ◌≤◌, true, false, Some, List, length, take, sym, ◌∙◌, ap, subst, arith}
use Rattle.std.proofs.Math.Nat.{mod-add-div', mul-le-mul_right}
use Rattle.std.proofs.lemmas.Bool.{cases_lt}
use Rattle.std.proofs.lemmas.List.{length-take-le}
use Rattle.std.proofs.lemmas.Nat.{mod_below}
use Rattle.fl_model.specs.Agrees.{reach_of, HoldsBlob}
use Rattle.fl_model.specs.Content.{ContentPage}
use Rattle.fl_model.specs.Facts.{IsContent}
use Rattle.fl_model.specs.Record.{Plan, Config, content_per_page, has_var}
use Rattle.fl_model.specs.Ring.{Ring}
use Rattle.fl_model.specs.Table.{Table, Entry}
use Rattle.fl_model.proofs.Lists.{slice_get-short, slice_get-take}
use Rattle.fl_salvage.specs.Blobs.{content_at, content_room}
use Rattle.fl_salvage.specs.Ends.{form_at}
use Rattle.fl_saved.proofs.RingsOfImage.{IsHere, size_is}
use Rattle.fl_saved.proofs.VarPages.{used_of, known-content}
use Rattle.fl_saved.proofs.WholeBlobs.{HoldBytes}

used-length : (plan : Plan) (content : ContentPage) → IsContent plan content → length (take content.used content.bytes) ≡ content.used
used-length plan content is = length-take-le content.used content.bytes (omega (arith, is.most, is.length))

-- a later byte stands on no earlier page
page-before : (room a b : ℕ) → 0 < room → a ≤ b → a / room ≤ b / room
page-before room a b some le = elim (cases_lt (b / room) (a / room)) [
  | inl lt ↦
      let more : (b / room + 1) * room ≤ a / room * room = mul-le-mul_right room (omega (arith, lt)) in
      let below = mod_below b room some in
      let no : ⊥ = omega (arith, more, mod-add-div' a room, mod-add-div' b room, below, le) in
      absurd no
  | inr fine ↦ fine
]

module _ (config : Config) (bytes : List ℕ) (place : ℕ) (plan : Plan) (table : Table) (is : IsHere config bytes place plan table)
    (ring : _) (ring_is : (form_at config.plans place plan).var ≡ Some ring) (has : has_var plan ≡ true)
    (kept : Ring) (kept_is : table.var ≡ Some kept) (clean : kept.dirty ≡ false)
    (entry : Entry) (blob : List ℕ) (holds : HoldsBlob plan table kept entry blob) (within : entry.page + reach_of plan entry blob < kept.next) (some : 0 < length blob) where
  abbrev room : ℕ
  room = content_per_page plan

  some-room : 0 < content_per_page plan
  some-room = let m = is.made in omega (arith, m.page_low)

  page : (j : ℕ) → j ≤ reach_of plan entry blob → (content_at ring bytes (entry.page + j) ≡ Some (used_of (holds.pages j))) × IsContent plan (holds.pages j)
  page j le = known-content config bytes place plan table is ring ring_is has kept kept_is clean (entry.page + j) (holds.pages j) (omega (arith, le, within)) (holds.there j le)

  long : (j : ℕ) → j ≤ reach_of plan entry blob → length (used_of (holds.pages j)) ≡ (holds.pages j).used
  long j le = used-length plan (holds.pages j) (page j le).1

  byte-within : (j : ℕ) → j < length blob → ((entry.offset + j) / content_per_page plan ≤ reach_of plan entry blob) × ((entry.offset + j) % content_per_page plan < (holds.pages ((entry.offset + j) / content_per_page plan)).used)
  byte-within j lt =
      let le : (entry.offset + j) / content_per_page plan ≤ reach_of plan entry blob = page-before (content_per_page plan) (entry.offset + j) (entry.offset + length blob - 1) some-room (omega (arith, lt)) in
      (le, by_page (cases_lt ((entry.offset + j) / content_per_page plan) (reach_of plan entry blob)) le)
    where
      by_page : ((entry.offset + j) / content_per_page plan < reach_of plan entry blob) ⊎ (reach_of plan entry blob ≤ (entry.offset + j) / content_per_page plan) → (entry.offset + j) / content_per_page plan ≤ reach_of plan entry blob
          → (entry.offset + j) % content_per_page plan < (holds.pages ((entry.offset + j) / content_per_page plan)).used
      by_page (inl before) le = let full = holds.full ((entry.offset + j) / content_per_page plan) before in let below = mod_below (entry.offset + j) (content_per_page plan) some-room in omega (arith, full, below)
      by_page (inr last) le =
          let same : (entry.offset + j) / content_per_page plan ≡ reach_of plan entry blob = omega (arith, last, le) in
          let starts : (entry.offset + j) / content_per_page plan * content_per_page plan ≡ reach_of plan entry blob * content_per_page plan = ap (λ n. n * content_per_page plan) same in
          let a = mod-add-div' (entry.offset + j) (content_per_page plan) in
          let b = mod-add-div' (entry.offset + length blob - 1) (content_per_page plan) in
          let end : (entry.offset + length blob - 1) % content_per_page plan < (holds.pages ((entry.offset + j) / content_per_page plan)).used = subst (λ n. (entry.offset + length blob - 1) % content_per_page plan < (holds.pages n).used) (sym same) holds.ends in
          omega (arith, starts, a, b, end, lt)

  held-bytes : HoldBytes (content_at ring bytes) (content_per_page plan) entry.page entry.offset blob
  held-bytes = record {
    held = λ j. used_of (holds.pages j);
    there = λ j le. (page j le).0;
    begins = let e = long 0 (omega arith) in omega (arith, e, holds.within);
    few = λ j le. let e = long j le in let c = (page j le).1 in omega (arith, e, c.most);
    full = λ j lt. long j (omega (arith, lt)) ∙ holds.full j lt;
    ends = let e = long (reach_of plan entry blob) (omega arith) in omega (arith, e, holds.ends);
    stored = λ j byte e.
        let w = byte-within j (slice_get-short blob j byte e) in
        slice_get-take (holds.pages ((entry.offset + j) / content_per_page plan)).used (holds.pages ((entry.offset + j) / content_per_page plan)).bytes ((entry.offset + j) % content_per_page plan) w.1 ∙ holds.stored j byte e;
  }

  room-is : content_per_page plan ≡ content_room ring
  room-is = ap (λ n. n - 16) (sym (size_is config bytes place plan table is ring ring_is has))

  pub blob-held : HoldBytes (content_at ring bytes) (content_room ring) entry.page entry.offset blob
  blob-held = subst (λ r. HoldBytes (content_at ring bytes) r entry.page entry.offset blob) room-is held-bytes

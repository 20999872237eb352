-- A blob of an entry, where its bytes stand and where it is gone.
use Rattle.std.proofs.Common.{◌≡◌, ℕ, zero, suc, ◌+◌, ◌-◌, ◌*◌, ◌/◌, ◌%◌, ◌^◌, ◌<◌, ◌≤◌, Bool, true, false, cond, ◌==◌, ◌&&◌, Option, Some, None, unwrap_or, Result, Err, List, [], length, take, drop, refl, sym, ◌∙◌, ap, subst, arith, inl, inr, ◌⊎◌, length-take, length-drop}
use Rattle.std.specs.Prelude.{option_map, nat_le}
use Rattle.std.specs.List.{slice_get}
use Rattle.std.proofs.lemmas.Bool.{cases_lt, lt-ltb, le-ltb, le-leb, lt-leb, eq-eqb, ne_eqb, false≢true}
use Rattle.std.proofs.lemmas.List.{take_all, nil_from_length}
use Rattle.std.proofs.lemmas.Nat.{div-add-mod', mod_below}
use Rattle.fl_base.specs.declared.types.BlobRef.{BlobRef}
use Rattle.fl_flash.specs.Flash.{FlashState, page_at}
use Rattle.fl_mark.specs.Mark.{state_of_page}
use Rattle.fl_mark.specs.declared.page_state.PageState.TheVariants.{Committed, Void}
use Rattle.fl_mark.proofs.InModel.{model_state}
use Rattle.fl_model.specs.Agrees.{HoldsBlob}
use Rattle.fl_model.specs.Content.{content_page}
use Rattle.fl_model.specs.Facts.{IsContent}
use Rattle.fl_model.specs.Layout.{ContentPage, content_body, committed}
use Rattle.fl_model.specs.Query.{BlobState, Lost, Stands as StandsWith, page_stands, blob_in, blob_of}
use Rattle.fl_model.specs.Record.{Plan, content_per_page}
use Rattle.fl_model.specs.Ring.{Ring, oldest}
use Rattle.fl_model.specs.Table as model
use Rattle.fl_model.specs.Table.{Entry, full_pages}
use Rattle.fl_model.proofs.Lists.{slice_get-short, slice_get-some, slice_get-drop, slice_get-take, each-at, drop_none, take_none}
use Rattle.fl_page.specs.Header.{page_count}
use Rattle.fl_page.specs.declared.fault.BadPage.{BadPage}
use Rattle.fl_page.specs.declared.fault.ReadFault.{ReadFault}
use Rattle.fl_page.specs.declared.fault.ReadFault.TheVariants as fault
use Rattle.fl_ring.specs.Ring.{place}
use Rattle.fl_ring.proofs.Found.{committed_state}
use Rattle.fl_ring.proofs.Images.{committed_is}
use Rattle.fl_var.specs.Blobs.{IsGone, contents_from, contents_in, bytes_of, IsWhole, IsBadFirst}
use Rattle.fl_var.specs.Content.{page_with, content_of, HasContent}
use Rattle.fl_var.specs.Memory.{next_in, waiting_in, room_in, page_in, image_in, var_shape}
use Rattle.fl_var.specs.Reading.{IfBad, NoneBad, Finds}
use Rattle.fl_var.specs.Standing.{Stands}
use Rattle.fl_var.specs.declared.reader.BlobReader.{BlobReader}
use Rattle.fl_var.specs.declared.var_data.VarData.{VarData}
use Rattle.fl_var.proofs.PageImages.{image-other, image-next, page-count, page-content, page-has, filled-length, waiting-room}
use Rattle.fl_var.proofs.Stored.{contents-at, same-front, content-size, place-within, place-last}

-- what is told of an entry's blob
module _ (table : model.Table) (ring : Ring) (entry : Entry) (bytes : List ℕ) (ring_is : table.var ≡ Some ring) (blob_is : entry.kept.blob ≡ Some bytes) where
  told : Bool → Bool → BlobState
  told none stands = cond none (StandsWith []) (cond stands (StandsWith bytes) Lost)

  blob-told : (none stands : Bool) → (length bytes == 0) ≡ none → page_stands ring entry.page ≡ stands → blob_of table entry ≡ cond none (StandsWith []) (cond stands (StandsWith bytes) Lost)
  blob-told none stands e k =
      ap (blob_in table entry) blob_is
      ∙ (ap (λ (b : Bool). cond b (StandsWith []) (cond (unwrap_or (option_map (λ (x : Ring). page_stands x entry.page) table.var) false) (StandsWith bytes) Lost)) e
      ∙ (ap (λ (o : Option Ring). cond none (StandsWith []) (cond (unwrap_or (option_map (λ (x : Ring). page_stands x entry.page) o) false) (StandsWith bytes) Lost)) ring_is
      ∙ ap (λ (b : Bool). cond none (StandsWith []) (cond b (StandsWith bytes) Lost)) k))

  pub blob-lost : 0 < length bytes → page_stands ring entry.page ≡ false → blob_of table entry ≡ Lost
  blob-lost some k = blob-told false false (ne_eqb (length bytes) 0 (λ e. omega (arith, e, some))) k

  pub blob-stands : 0 < length bytes → page_stands ring entry.page ≡ true → blob_of table entry ≡ StandsWith bytes
  blob-stands some k = blob-told false true (ne_eqb (length bytes) 0 (λ e. omega (arith, e, some))) k

  pub blob-empty : length bytes ≡ 0 → blob_of table entry ≡ StandsWith bytes
  blob-empty none = blob-told true (page_stands ring entry.page) (eq-eqb (length bytes) 0 none) refl ∙ ap StandsWith (sym (nil_from_length bytes none))

  -- an empty blob was opened
  pub found-empty : length bytes ≡ 0 → (left : List ℕ) → (blob_of table entry ≡ StandsWith bytes) × (take 0 left ≡ bytes)
  found-empty none left = (blob-empty none, take_none left ∙ sym (nil_from_length bytes none))

module _ (v : VarData) (f : FlashState) (plan : Plan) (table : model.Table) (stands : Stands v f plan table) (sizes : (n : ℕ) → length (page_at f (place (var_shape v) n)) ≡ v.geometry.page) where
  abbrev ring : Ring
  ring = stands.ring.ring

  known : length stands.ring.ring.counts ≤ stands.ring.ring.next
  known = stands.ring.pages.facts.not_negative

  room-is : room_in v ≡ content_per_page plan
  room-is = ap (λ g. g.page - 16) (sym stands.ring.planned.geometry)

  -- a page by its count
  page-commits : (i : ℕ) → slice_get stands.ring.ring.counts i ≡ Some 1 → state_of_page (page_in v f (oldest stands.ring.ring + i)) ≡ Committed
  page-commits i e =
      let h = stands.ring.pages.image.kept i 1 e (omega arith) in
      ap state_of_page (h.bytes ∙ committed_is (content_body (oldest ring + i) h.holds)) ∙ committed_state (content_body (oldest ring + i) h.holds)

  page-voids : (i : ℕ) → slice_get stands.ring.ring.counts i ≡ Some 0 → state_of_page (page_in v f (oldest stands.ring.ring + i)) ≡ Committed → ⊥
  page-voids i e k =
      let n = oldest ring + i in
      let void = (model_state (page_in v f n) (omega (arith, sizes n, v.served.page_least))).void.1 (stands.ring.pages.image.void i e) in
      differ (sym k ∙ void)
    where
      differ : Committed ≡ Void → ⊥
      differ x = cc

  count-at : (i : ℕ) → i < length stands.ring.ring.counts → (slice_get stands.ring.ring.counts i ≡ Some 0) ⊎ (slice_get stands.ring.ring.counts i ≡ Some 1)
  count-at i lt =
      let c = slice_get-some ring.counts i lt in
      elim (each-at (λ count. (count ≡ 0) ⊎ (count ≡ 1)) ring.counts i c.0 stands.ring.pages.counts c.1) [
        | inl e ↦ inl (c.1 ∙ ap (λ n. Some n) e)
        | inr e ↦ inr (c.1 ∙ ap (λ n. Some n) e)
      ]

  -- whether a page stands, by its place
  stands-ahead : (page : ℕ) → stands.ring.ring.next ≤ page → page_stands stands.ring.ring page ≡ true
  stands-ahead page le = ap (λ (b : Bool). cond b true (nat_le (oldest ring) page && unwrap_or (option_map (λ count. count == 1) (slice_get ring.counts (page - oldest ring))) false)) (le-leb ring.next page le)

  stands-behind : (page : ℕ) → page < oldest stands.ring.ring → page_stands stands.ring.ring page ≡ false
  stands-behind page lt =
      ap (λ (b : Bool). cond b true (nat_le (oldest ring) page && unwrap_or (option_map (λ count. count == 1) (slice_get ring.counts (page - oldest ring))) false)) (lt-leb ring.next page (omega (arith, lt)))
      ∙ ap (λ (b : Bool). b && unwrap_or (option_map (λ count. count == 1) (slice_get ring.counts (page - oldest ring))) false) (lt-leb (oldest ring) page lt)

  stands-kept : (page c : ℕ) → page < stands.ring.ring.next → oldest stands.ring.ring ≤ page → slice_get stands.ring.ring.counts (page - oldest stands.ring.ring) ≡ Some c → page_stands stands.ring.ring page ≡ (c == 1)
  stands-kept page c lt le e =
      ap (λ (b : Bool). cond b true (nat_le (oldest ring) page && unwrap_or (option_map (λ count. count == 1) (slice_get ring.counts (page - oldest ring))) false)) (lt-leb ring.next page lt)
      ∙ (ap (λ (b : Bool). b && unwrap_or (option_map (λ count. count == 1) (slice_get ring.counts (page - oldest ring))) false) (le-leb (oldest ring) page le)
      ∙ ap (λ (o : Option ℕ). unwrap_or (option_map (λ count. count == 1) o) false) e)

  pub gone-lost : (at : BlobRef) → IsGone v f at → page_stands stands.ring.ring at.page ≡ false
  gone-lost at gone = elim (cases_lt at.page (oldest ring)) [
    | inl lt ↦ stands-behind at.page lt
    | inr ge ↦
        let i = at.page - oldest ring in
        let here : oldest stands.ring.ring + (at.page - oldest stands.ring.ring) ≡ at.page = omega (arith, ge) in
        elim (count-at (at.page - oldest ring) (omega (arith, ge, gone.sealed, stands.ring.next, known))) [
          | inl none ↦ stands-kept at.page 0 (omega (arith, gone.sealed, stands.ring.next)) ge none
          | inr one ↦ absurd (elim gone.lost [
            | inl lt ↦ omega (arith, lt, ge, stands.ring.oldest_is)
            | inr not ↦ not (ap (λ n. state_of_page (page_in v f n)) (sym here) ∙ page-commits (at.page - oldest ring) one)
          ])
        ]
  ]

  pub kept-stands : (at : BlobRef) → 0 < at.length → (IsGone v f at → ⊥) → page_stands stands.ring.ring at.page ≡ true
  kept-stands at some not_gone = elim (cases_lt at.page ring.next) [
    | inr ge ↦ stands-ahead at.page ge
    | inl lt ↦ elim (cases_lt at.page (oldest ring)) [
      | inl before ↦ absurd (not_gone (record { some = some; sealed = omega (arith, lt, stands.ring.next); lost = inl (omega (arith, before, stands.ring.oldest_is)) }))
      | inr ge ↦
          let here : oldest stands.ring.ring + (at.page - oldest stands.ring.ring) ≡ at.page = omega (arith, ge) in
          elim (count-at (at.page - oldest ring) (omega (arith, ge, lt, known))) [
            | inl none ↦ absurd (not_gone (record {
              some = some;
              sealed = omega (arith, lt, stands.ring.next);
              lost = inr (λ k. page-voids (at.page - oldest ring) none (ap (λ n. state_of_page (page_in v f n)) here ∙ k));
            }))
            | inr one ↦ stands-kept at.page 1 lt ge one
          ]
    ]
  ]

  -- a blob whose bytes stand in the pages and among those that wait
  module _ (at : BlobRef) (bytes : List ℕ) (some : 0 < length bytes) (len_is : at.length ≡ length bytes) (entry : Entry) (page_is : entry.page ≡ at.page) (offset_is : entry.offset ≡ at.offset)
      (holds : HoldsBlob plan table stands.ring.ring entry bytes) where
    abbrev room : ℕ
    room = content_per_page plan

    abbrev last : ℕ
    last = (entry.offset + length bytes - 1) / content_per_page plan

    wide : 0 < content_per_page plan
    wide = omega (arith, room-is, v.served.page_least)

    some-used : (j : ℕ) → j ≤ last → 1 ≤ (holds.pages j).used
    some-used j le = elim (cases_lt j last) [
      | inl lt ↦ omega (arith, holds.full j lt, wide)
      | inr ge ↦
          let same : j ≡ (entry.offset + length bytes - 1) / content_per_page plan = omega (arith, ge, le) in
          let used = ap (λ n. (holds.pages n).used) same in
          omega (arith, used, holds.ends)
    ]

    -- a page of the blob, and its image
    record IsPage (j : ℕ) : Type 0 where
      within : entry.page + j ≤ stands.ring.ring.next
      image : image_in v f (entry.page + j) ≡ committed (content_body (entry.page + j) (holds.pages j))
      good : IsContent plan (holds.pages j)

    some-is : {a b : ContentPage} → Some a ≡ Some b → a ≡ b
    some-is k = cc

    -- what a page before the next one has, where it stands, and what one from there on has
    abbrev here : ℕ → Bool → Option ContentPage
    here j b = cond b (slice_get table.var_pages (full_pages (take (entry.page + j - oldest stands.ring.ring) stands.ring.ring.counts))) None

    abbrev ahead : ℕ → ContentPage
    ahead j = content_page plan (take (content_per_page plan) (drop ((entry.page + j - stands.ring.ring.next) * content_per_page plan) table.buffered))

    page-of : (j : ℕ) → j ≤ last → IsPage j
    page-of j le = elim (cases_lt (entry.page + j) ring.next) [
      | inl lt ↦ sealed lt (page_stands stands.ring.ring (entry.page + j)) refl (sym (ap (λ (b : Bool). cond b (here j (page_stands ring (entry.page + j))) (Some (ahead j))) (lt-ltb (entry.page + j) ring.next lt)) ∙ holds.there j le)
      | inr ge ↦ waiting ge (some-is (sym (ap (λ (b : Bool). cond b (here j (page_stands ring (entry.page + j))) (Some (ahead j))) (le-ltb (entry.page + j) ring.next ge)) ∙ holds.there j le))
    ]
      where
        none : ◌≡◌ {A = Option ContentPage} None (Some (holds.pages j)) → ⊥
        none k = cc

        -- a kept page
        kept : entry.page + j < stands.ring.ring.next → oldest stands.ring.ring ≤ entry.page + j → slice_get stands.ring.ring.counts (entry.page + j - oldest stands.ring.ring) ≡ Some 1 →
            slice_get table.var_pages (full_pages (take (entry.page + j - oldest stands.ring.ring) stands.ring.ring.counts)) ≡ Some (holds.pages j) → IsPage j
        kept lt ge one e =
            let i = entry.page + j - oldest ring in
            let number : oldest stands.ring.ring + (entry.page + j - oldest stands.ring.ring) ≡ entry.page + j = omega (arith, ge) in
            let h = stands.ring.pages.image.kept i 1 one (omega arith) in
            let same : h.holds ≡ holds.pages j = some-is (sym h.is ∙ e) in
            record {
              within = omega (arith, lt);
              image = image-other v f (entry.page + j) (λ k. omega (arith, k, lt, stands.ring.next))
                  ∙ (ap (page_in v f) (sym number) ∙ (h.bytes ∙ (ap (λ n. committed (content_body n h.holds)) number ∙ ap (λ (p : ContentPage). committed (content_body (entry.page + j) p)) same)));
              good = each-at (IsContent plan) table.var_pages (full_pages (take i ring.counts)) (holds.pages j) stands.ring.pages.fit e;
            }

        sealed : entry.page + j < stands.ring.ring.next → (b : Bool) → page_stands stands.ring.ring (entry.page + j) ≡ b → here j (page_stands stands.ring.ring (entry.page + j)) ≡ Some (holds.pages j) → IsPage j
        sealed lt false k e = absurd (none (sym (ap (λ (b : Bool). here j b) k) ∙ e))
        sealed lt true k e = elim (cases_lt (entry.page + j) (oldest ring)) [
          | inl before ↦ absurd (false≢true (sym (stands-behind (entry.page + j) before) ∙ k))
          | inr ge ↦ elim (count-at (entry.page + j - oldest ring) (omega (arith, ge, lt, known))) [
            | inl zero_is ↦ absurd (false≢true (sym (stands-kept (entry.page + j) 0 lt ge zero_is) ∙ k))
            | inr one ↦ kept lt ge one (sym (ap (λ (b : Bool). here j b) k) ∙ e)
          ]
        ]

        -- the next page, or one behind it, for which no byte waits
        waiting : stands.ring.ring.next ≤ entry.page + j → ahead j ≡ holds.pages j → IsPage j
        waiting ge e =
            let d = entry.page + j - ring.next in
            let fill : length table.buffered ≡ length (waiting_in v) = ap length stands.buffered in
            let used : (holds.pages j).used ≡ length (take (content_per_page plan) (drop ((entry.page + j - stands.ring.ring.next) * content_per_page plan) table.buffered)) = ap (λ (p : ContentPage). p.used) (sym e) in
            let size = length-take (content_per_page plan) (drop (d * content_per_page plan) table.buffered) in
            let rest = length-drop (d * content_per_page plan) table.buffered in
            let first : entry.page + j - stands.ring.ring.next ≡ 0 = first_page d (omega (arith, used, size, rest, some-used j le, fill, waiting-room v, room-is)) in
            let number : entry.page + j ≡ next_in v = omega (arith, first, ge, stands.ring.next) in
            let bytes_are : take (content_per_page plan) (drop ((entry.page + j - stands.ring.ring.next) * content_per_page plan) table.buffered) ≡ waiting_in v =
            ap (λ n. take (content_per_page plan) (drop (n * content_per_page plan) table.buffered)) first
            ∙ (ap (take (content_per_page plan)) (ap (λ n. drop n table.buffered) (let z : 0 * content_per_page plan ≡ 0 = omega arith in z) ∙ drop_none table.buffered)
            ∙ (take_all (content_per_page plan) table.buffered (omega (arith, fill, waiting-room v, room-is)) ∙ stands.buffered)) in
            let page : page_with (room_in v) (waiting_in v) ≡ holds.pages j =
            sym (ap (content_page plan) bytes_are ∙ ap (λ n. page_with n (waiting_in v)) (sym room-is)) ∙ e in
            record {
              within = omega (arith, first, ge);
              image = image-next v f (entry.page + j) number ∙ ap (λ (p : ContentPage). committed (content_body (entry.page + j) p)) page;
              good = record {
                some = some-used j le;
                most = omega (arith, ap (λ (p : ContentPage). p.used) page, waiting-room v, room-is);
                length = ap (λ (p : ContentPage). length p.bytes) (sym page) ∙ (filled-length (room_in v) (waiting_in v) (waiting-room v) ∙ room-is);
              };
            }
          where
            -- no page behind the next one has bytes
            first_page : (d : ℕ) → d * content_per_page plan < content_per_page plan → d ≡ 0
            first_page zero lt = refl
            first_page (suc d) lt = let more : suc d * content_per_page plan ≡ d * content_per_page plan + content_per_page plan = omega arith in absurd (omega (arith, more, lt))

    small : (j : ℕ) → j ≤ last → entry.page + j < 2 ^ 32
    small j le = let within = (page-of j le).within in omega (arith, within, stands.ring.pages.number)

    few : (j : ℕ) → j ≤ last → (holds.pages j).used < 65536
    few j le = let most = (page-of j le).good.most in omega (arith, most, room-is, v.served.page_greatest)

    fits : (j : ℕ) → j ≤ last → (holds.pages j).used ≤ length (holds.pages j).bytes
    fits j le = let good = (page-of j le).good in omega (arith, good.most, good.length)

    count : (j : ℕ) (le : j ≤ last) → page_count (image_in v f (entry.page + j)) ≡ (holds.pages j).used
    count j le = ap page_count (page-of j le).image ∙ page-count (entry.page + j) (holds.pages j) (small j le) (few j le)

    content : (j : ℕ) (le : j ≤ last) → content_of (image_in v f (entry.page + j)) ≡ take (holds.pages j).used (holds.pages j).bytes
    content j le = ap content_of (page-of j le).image ∙ page-content (entry.page + j) (holds.pages j) (small j le) (few j le) (fits j le)

    full : (j : ℕ) → j < last → page_count (image_in v f (entry.page + j)) ≡ content_per_page plan
    full j lt = count j (omega (arith, lt)) ∙ holds.full j lt

    has : (j : ℕ) → j ≤ last → HasContent (entry.page + j) (image_in v f (entry.page + j))
    has j le = subst (HasContent (entry.page + j)) (sym (page-of j le).image) (page-has (entry.page + j) (holds.pages j) (small j le) (few j le) (some-used j le) (fits j le))

    whole-here : IsWhole (image_in v f) (next_in v) (content_per_page plan) entry.page entry.offset (length bytes)
    whole-here = record {
      good = λ j le. let within = (page-of j le).within in (omega (arith, within, stands.ring.next), has j le);
      full = λ j lt. full j lt;
      ends = omega (arith, count last (omega arith), holds.ends, div-add-mod' (entry.offset + length bytes - 1) (content_per_page plan), some);
    }

    pub blob-whole : IsWhole (image_in v f) (next_in v) (room_in v) at.page at.offset at.length
    blob-whole =
        subst (λ n. IsWhole (image_in v f) (next_in v) n at.page at.offset at.length) (sym room-is)
        (subst (λ n. IsWhole (image_in v f) (next_in v) (content_per_page plan) n at.offset at.length) page_is
        (subst (λ n. IsWhole (image_in v f) (next_in v) (content_per_page plan) entry.page n at.length) offset_is
        (subst (λ n. IsWhole (image_in v f) (next_in v) (content_per_page plan) entry.page entry.offset n) (sym len_is) whole-here)))

    pub first-within : at.offset < page_count (image_in v f at.page)
    first-within =
        let page : entry.page + 0 ≡ at.page = omega (arith, page_is) in
        let first = ap (λ n. page_count (image_in v f n)) (sym page) ∙ count 0 (omega arith) in
        omega (arith, first, holds.within, offset_is)

    abbrev C : List ℕ
    C = contents_from (image_in v f) entry.page (next_in v + 1 - entry.page)

    bytes-here : take (length bytes) (drop entry.offset (contents_from (image_in v f) entry.page (next_in v + 1 - entry.page))) ≡ bytes
    bytes-here = same-front (take (length bytes) (drop entry.offset C)) bytes (omega (arith, length-take (length bytes) (drop entry.offset C))) each
      where
        each : (j b : ℕ) → slice_get bytes j ≡ Some b → slice_get (take (length bytes) (drop entry.offset (contents_from (image_in v f) entry.page (next_in v + 1 - entry.page)))) j ≡ Some b
        each j b e =
            let lt = slice_get-short bytes j b e in
            let q = (entry.offset + j) / content_per_page plan in
            let m = (entry.offset + j) % content_per_page plan in
            let le = place-within entry.offset (length bytes) j (content_per_page plan) wide lt in
            let inside : (entry.offset + j) % content_per_page plan < (holds.pages ((entry.offset + j) / content_per_page plan)).used = by_page (cases_lt q last) le lt in
            let byte = ap (λ (l : List ℕ). slice_get l m) (content q le) ∙ (slice_get-take (holds.pages q).used (holds.pages q).bytes m inside ∙ holds.stored j b e) in
            let within = (page-of last (omega arith)).within in
            let pages : (entry.offset + j) / content_per_page plan < next_in v + 1 - entry.page = omega (arith, within, stands.ring.next, le) in
            let found = contents-at (image_in v f) (content_per_page plan) q entry.page (next_in v + 1 - entry.page) m b
            (λ i less. content-size (image_in v f (entry.page + i)) (has i (omega (arith, less, le))).room ∙ full i (omega (arith, less, le))) pages byte in
            slice_get-take (length bytes) (drop entry.offset C) j lt ∙ (slice_get-drop entry.offset C j ∙ (ap (slice_get C) (sym (div-add-mod' (entry.offset + j) (content_per_page plan))) ∙ found))
          where
            by_page : ((entry.offset + j) / content_per_page plan < last) ⊎ (last ≤ (entry.offset + j) / content_per_page plan) → (entry.offset + j) / content_per_page plan ≤ last → j < length bytes →
                (entry.offset + j) % content_per_page plan < (holds.pages ((entry.offset + j) / content_per_page plan)).used
            by_page (inl less) le lt = omega (arith, holds.full ((entry.offset + j) / content_per_page plan) less, mod_below (entry.offset + j) (content_per_page plan) wide)
            by_page (inr ge) le lt =
                let same : (entry.offset + j) / content_per_page plan ≡ (entry.offset + length bytes - 1) / content_per_page plan = omega (arith, ge, le) in
                let used = ap (λ n. (holds.pages n).used) same in
                omega (arith, used, holds.ends, place-last entry.offset (length bytes) j (content_per_page plan) wide lt same)

    pub blob-bytes : bytes_of v f at ≡ bytes
    blob-bytes =
        ap (λ n. take n (drop at.offset (contents_in v f at.page))) len_is
        ∙ (ap (λ n. take (length bytes) (drop n (contents_in v f at.page))) (sym offset_is)
        ∙ (ap (λ n. take (length bytes) (drop entry.offset (contents_from (image_in v f) n (next_in v + 1 - n)))) (sym page_is) ∙ bytes-here))

    pub first-good : (e : ReadFault) → IfBad (λ (bad : BadPage). (IsGone v f at → ⊥) × IsBadFirst v f at bad) e → NoneBad {T = Unit {0}} (Err e)
    first-good (fault.Flash e) h = tt
    first-good (fault.BadPage b) h =
        let bad = h.1 in
        let good = blob-whole.good 0 (omega arith) in
        let zero_is : at.page + 0 ≡ at.page = omega arith in
        let le : at.page ≤ next_in v = omega (arith, good.0) in
        let content : HasContent at.page (image_in v f at.page) = subst (λ n. HasContent n (image_in v f n)) zero_is good.1 in
        let behind = (bad.here le).2 content in
        omega (arith, behind, first-within)

-- an entry's blob that is opened
module _ (v : VarData) (f : FlashState) (plan : Plan) (table : model.Table) (stands : Stands v f plan table) (sizes : (n : ℕ) → length (page_at f (place (var_shape v) n)) ≡ v.geometry.page)
    (at : BlobRef) (entry : Entry) (bytes : List ℕ) (blob_is : entry.kept.blob ≡ Some bytes) (at_is : at ≡ record { page = entry.page; offset = entry.offset; length = length bytes }) (some : 1 ≤ at.length)
    (holds : (ring : Ring) → table.var ≡ Some ring → page_stands ring entry.page ≡ true → 0 < length bytes → HoldsBlob plan table ring entry bytes) where
  page_is : entry.page ≡ at.page
  page_is = ap (λ (a : BlobRef). a.page) (sym at_is)

  offset_is : entry.offset ≡ at.offset
  offset_is = ap (λ (a : BlobRef). a.offset) (sym at_is)

  len_is : at.length ≡ length bytes
  len_is = ap (λ (a : BlobRef). a.length) at_is

  some_bytes : 0 < length bytes
  some_bytes = omega (arith, len_is, some)

  held : page_stands stands.ring.ring at.page ≡ true → HoldsBlob plan table stands.ring.ring entry bytes
  held k = holds stands.ring.ring stands.ring.ring_is (ap (page_stands stands.ring.ring) page_is ∙ k) some_bytes

  pub found-none : IsGone v f at → blob_of table entry ≡ Lost
  found-none gone = blob-lost table stands.ring.ring entry bytes stands.ring.ring_is blob_is some_bytes (ap (page_stands stands.ring.ring) page_is ∙ gone-lost v f plan table stands sizes at gone)

  pub found-some : (IsGone v f at → ⊥) → (blob_of table entry ≡ StandsWith bytes) × (bytes_of v f at ≡ bytes) × IsWhole (image_in v f) (next_in v) (room_in v) at.page at.offset at.length
  found-some not_gone =
      let k = kept-stands v f plan table stands sizes at some not_gone in (
        blob-stands table stands.ring.ring entry bytes stands.ring.ring_is blob_is some_bytes (ap (page_stands stands.ring.ring) page_is ∙ k),
        blob-bytes v f plan table stands sizes at bytes some_bytes len_is entry page_is offset_is (held k),
        blob-whole v f plan table stands sizes at bytes some_bytes len_is entry page_is offset_is (held k),
      )

  pub found-err : (result : Result (Option BlobReader) ReadFault) (e : ReadFault) → result ≡ Err e → IfBad (λ (bad : BadPage). (IsGone v f at → ⊥) × IsBadFirst v f at bad) e → Finds table entry bytes f result
  found-err result e is h = subst (Finds table entry bytes f) (sym is) (by_fault e h)
    where
      by_fault : (e : ReadFault) → IfBad (λ (bad : BadPage). (IsGone v f at → ⊥) × IsBadFirst v f at bad) e → Finds table entry bytes f (Err e)
      by_fault (fault.Flash x) h = tt
      by_fault (fault.BadPage b) h =
          let k = kept-stands v f plan table stands sizes at some h.0 in
          first-good v f plan table stands sizes at bytes some_bytes len_is entry page_is offset_is (held k) (fault.BadPage b) h

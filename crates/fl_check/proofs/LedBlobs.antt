-- The blobs of a sound table stand in the model's words, since the rule on references holds.
use Rattle.std.proofs.Common.{◌≡◌, ◌⊎◌, inl, inr, ℕ, suc, ◌+◌, ◌-◌, ◌*◌, ◌/◌, ◌%◌, ◌<◌, ◌≤◌, Bool, true, cond, nat_lt, Option, Some, None, IfSome, option_map, List, [], ◌∷◌, length, map, take, drop, get_or, refl, sym, ◌∙◌, ap, subst, arith, length-drop}
use Rattle.std.specs.List.{slice_get, AllByRecursion}
use Rattle.std.proofs.Math.Nat.{mod-lt}
use Rattle.std.proofs.lemmas.Bool.{lt-ltb, ltb-true}
use Rattle.std.proofs.lemmas.List.{length-take-le, get_or-take}
use Rattle.std.proofs.lemmas.Option.{slice_get-get_or, same_Some}
use Rattle.fl_base.specs.declared.types.BlobRef.{BlobRef}
use Rattle.fl_bitmap.proofs.Values.{div-le-div}
use Rattle.fl_mark.specs.Mark.{state_of_page}
use Rattle.fl_model.specs.Agrees.{HoldsBlob, content_at}
use Rattle.fl_model.specs.Content.{ContentPage, content_page}
use Rattle.fl_model.specs.Query.{page_stands}
use Rattle.fl_model.specs.Record.{Plan, content_per_page}
use Rattle.fl_model.specs.Ring as model
use Rattle.fl_model.specs.Row.{stored_row}
use Rattle.fl_model.specs.Table.{Table, Entry, full_pages}
use Rattle.fl_model.proofs.Lists.{slice_get-some, slice_get-short, each-at}
use Rattle.fl_model.proofs.StandingPages.{stands-kept, kept-stands}
use Rattle.fl_page.specs.Header.{page_count}
use Rattle.fl_ring.specs.Newest.{commits, page_back}
use Rattle.fl_ring.specs.Ring.{Shape, place}
use Rattle.fl_rules.specs.References.{numbered, content_room, IsThere, HoldsPart, Leads, BlobLeads, RowsLead}
use Rattle.fl_check.specs.SoundImages.{LeadsToBlob, BlobsLead}
use Rattle.fl_rules.specs.declared.numbering.Numbering.{Numbering}
use Rattle.fl_check.proofs.BlobBytes.{bytes_from, byte_of, byte-from, IsReadBy}
use Rattle.fl_check.proofs.RingReads.{Follows}

-- where the rows of entries lead, each of them does
pub entries-lead : (page : ℕ → List ℕ) (r : Shape) (v : Numbering) (entries : List Entry) → RowsLead page r v (map stored_row entries) → AllByRecursion (λ entry. BlobLeads page r v (stored_row entry).blob) entries
entries-lead page r v [] leads = tt
entries-lead page r v (entry ∷ entries) leads = (leads 0 (omega arith) (stored_row entry) refl, entries-lead page r v entries (λ i lt row is. leads (suc i) (omega (arith, lt)) row is))

-- the content of a page, by its bytes
abbrev pub content_of : ℕ → List ℕ → ContentPage
content_of room page = record { used = page_count page; bytes = take room (drop 8 page) }

module _ (plan : Plan) (page : ℕ → List ℕ) (r : Shape) (least : ℕ) (table : Table) (ring : model.Ring) (v : Numbering) (follows : Follows page r least ring v) (room_is : content_per_page plan ≡ content_room r) (some_room : 0 < content_room r)
    (sizes : (n : ℕ) → length (page (place r n)) ≡ r.size) (ones : AllByRecursion (λ count. (count ≡ 0) ⊎ (count ≡ 1)) ring.counts)
    (held : (i : ℕ) → slice_get ring.counts i ≡ Some 1 → slice_get table.var_pages (full_pages (take i ring.counts)) ≡ Some (content_of (content_room r) (page (place r (model.oldest ring + i))))) where
  -- ---- a page that a blob needs

  module _ (number : ℕ) (there : IsThere page r v number) where
    before : number < ring.next
    before = let next = follows.next in omega (arith, there.sealed, next)

    kept : model.oldest ring ≤ number
    kept = let many = follows.reads.kept in let next = follows.next in let known = follows.known in omega (arith, there.kept, many, next, known)

    numbered-is : numbered page r v number ≡ page (place r number)
    numbered-is =
        let many = follows.reads.kept in
        let next = follows.next in
        follows.reads.back (v.next - number) (omega (arith, there.sealed)) (omega (arith, there.kept, many))
        ∙ ap (λ (k : ℕ). page (place r k)) (omega (arith, there.sealed, next))

    count-is : slice_get ring.counts (number - model.oldest ring) ≡ Some 1
    count-is = by_count c.0 c.1 (each-at (λ (count : ℕ). (count ≡ 0) ⊎ (count ≡ 1)) ring.counts (number - model.oldest ring) c.0 ones c.1)
      where
        within : number - model.oldest ring < length ring.counts
        within = let b = before in let k = kept in let known = follows.known in omega (arith, b, k, known)

        c : (count : ℕ) × (slice_get ring.counts (number - model.oldest ring) ≡ Some count)
        c = slice_get-some ring.counts (number - model.oldest ring) within

        committed : nat_lt 0 c.0 ≡ true
        committed =
            let many = follows.reads.kept in
            let next = follows.next in
            let known = follows.known in
            sym (follows.reads.committed (number - model.oldest ring) c.0 c.1)
            ∙ ap (λ (k : ℕ). commits (state_of_page (page (page_back r v.marks.at k)))) (let e : v.marks.kept - (number - model.oldest ring) ≡ v.next - number = omega (arith, there.sealed, there.kept, many, next, known) in e)
            ∙ there.committed

        by_count : (count : ℕ) → slice_get ring.counts (number - model.oldest ring) ≡ Some count → (count ≡ 0) ⊎ (count ≡ 1) → slice_get ring.counts (number - model.oldest ring) ≡ Some 1
        by_count count is (inr one) = is ∙ ap (λ (k : ℕ). Some k) one
        by_count count is (inl none) = absurd (let some = ltb-true 0 c.0 committed in let same = same_Some _ _ (sym c.1 ∙ is) in let never : ⊥ = omega (arith, some, same, none) in never)

    content-is : content_at plan table ring number ≡ Some (content_of (content_room r) (numbered page r v number))
    content-is =
        ap (λ (b : Bool). cond b (cond (page_stands ring number) (slice_get table.var_pages (full_pages (take (number - model.oldest ring) ring.counts))) None) (Some (content_page plan (take (content_per_page plan) (drop ((number - ring.next) * content_per_page plan) table.buffered)))))
        (lt-ltb number ring.next before)
        ∙ ap (λ (b : Bool). cond b (slice_get table.var_pages (full_pages (take (number - model.oldest ring) ring.counts))) None) (stands-kept ring number kept count-is)
        ∙ held (number - model.oldest ring) count-is
        ∙ ap (λ (l : List ℕ). Some (content_of (content_room r) l)) (ap (λ (k : ℕ). page (place r k)) (let k = kept in let e : model.oldest ring + (number - model.oldest ring) ≡ number = omega (arith, k) in e) ∙ sym numbered-is)

    long : length (take (content_room r) (drop 8 (numbered page r v number))) ≡ content_room r
    long =
        let all : length (numbered page r v number) ≡ r.size = ap (λ (l : List ℕ). length l) numbered-is ∙ sizes number in
        length-take-le (content_room r) (drop 8 (numbered page r v number)) (omega (arith, all, length-drop 8 (numbered page r v number)))

    -- a byte of its content
    byte-is : (k : ℕ) → k < content_room r → slice_get (take (content_room r) (drop 8 (numbered page r v number))) k ≡ Some (get_or (drop 8 (numbered page r v number)) k 0)
    byte-is k lt =
        slice_get-get_or (take (content_room r) (drop 8 (numbered page r v number))) k 0 (let l = long in omega (arith, lt, l))
        ∙ ap (λ (b : ℕ). Some b) (get_or-take (content_room r) (drop 8 (numbered page r v number)) k 0 lt)

  -- ---- a blob

  module _ (entry : Entry) (blob : List ℕ) (some : 0 < length blob) (leads : Leads page r v (record { page = entry.page; offset = entry.offset; length = length blob }))
      (read : blob ≡ bytes_from (byte_of page r v (record { page = entry.page; offset = entry.offset; length = length blob })) 0 (length blob)) where
    abbrev at : BlobRef
    at = record { page = entry.page; offset = entry.offset; length = length blob }

    abbrev last : ℕ
    last = (entry.offset + length blob - 1) / content_room r

    -- the content of the j-th page
    abbrev content : ℕ → ContentPage
    content j = content_of (content_room r) (numbered page r v (entry.page + j))

    -- its first page stands
    module _ (stands : page_stands ring entry.page ≡ true) where
      first-there : IsThere page r v entry.page
      first-there =
          let next = follows.next in
          let many = follows.reads.kept in
          let known = follows.known in
          let sealed : entry.page < v.next = leads.sealed in
          let is = kept-stands ring entry.page (omega (arith, sealed, next)) stands in
          record {
            sealed = sealed;
            kept = omega (arith, is.0, many, next, known);
            committed =
                ap (λ (k : ℕ). commits (state_of_page (page (page_back r v.marks.at k)))) (let e : v.next - entry.page ≡ v.marks.kept - (entry.page - model.oldest ring) = omega (arith, is.0, sealed, many, next, known) in e)
                ∙ follows.reads.committed (entry.page - model.oldest ring) 1 is.1;
          }

      part : (j : ℕ) → j ≤ last → HoldsPart page r v (record { page = entry.page; offset = entry.offset; length = length blob }) j
      part j le = let within : j < (entry.offset + length blob - 1) / content_room r + 1 = omega (arith, le) in (leads.whole first-there).parts j within

      there : (j : ℕ) → j ≤ last → IsThere page r v (entry.page + j)
      there j le = (part j le).there

      same-room : (k : ℕ) → k / content_per_page plan ≡ k / content_room r
      same-room k = ap (λ (room : ℕ). k / room) room_is

      same-rest : (k : ℕ) → k % content_per_page plan ≡ k % content_room r
      same-rest k = ap (λ (room : ℕ). k % room) room_is

      reach-is : (entry.offset + length blob - 1) / content_per_page plan ≡ last
      reach-is = same-room (entry.offset + length blob - 1)

      byte-stored : (j byte : ℕ) → slice_get blob j ≡ Some byte → slice_get (content ((entry.offset + j) / content_room r)).bytes ((entry.offset + j) % content_room r) ≡ Some byte
      byte-stored j byte is =
          let short = slice_get-short blob j byte is in
          let le : (entry.offset + j) / content_room r ≤ last = div-le-div (entry.offset + j) (entry.offset + length blob - 1) (content_room r) (omega (arith, short)) in
          let here = byte-is (entry.page + (entry.offset + j) / content_room r) (there ((entry.offset + j) / content_room r) le) ((entry.offset + j) % content_room r) (mod-lt (entry.offset + j) some_room) in
          let told : byte ≡ byte_of page r v at (0 + j) = byte-from (byte_of page r v at) 0 (length blob) j byte (sym (ap (λ (l : List ℕ). slice_get l j) read) ∙ is) in
          here ∙ ap (λ (b : ℕ). Some b) (sym (told ∙ ap (byte_of page r v at) (let e : 0 + j ≡ j = omega arith in e)))

      holds : HoldsBlob plan table ring entry blob
      holds = record {
        pages = λ j. content_of (content_room r) (numbered page r v (entry.page + j));
        there = λ j le. content-is (entry.page + j) (there j (let e = reach-is in omega (arith, le, e)));
        within = subst (λ (k : ℕ). entry.offset < page_count (numbered page r v k)) (let e : entry.page ≡ entry.page + 0 = omega arith in e) (leads.whole first-there).begins;
        full = λ j lt.
            let e = reach-is in
            let less : j < (entry.offset + length blob - 1) / content_room r = omega (arith, lt, e) in
            (part j (omega (arith, less))).full less ∙ sym room_is;
        ends =
            let end : (entry.offset + length blob - 1) % content_room r < page_count (numbered page r v (entry.page + last)) = (part last (omega arith)).ends refl in
            subst (λ (k : ℕ). (entry.offset + length blob - 1) % content_per_page plan < page_count (numbered page r v (entry.page + k))) (sym reach-is)
            (subst (λ (k : ℕ). k < page_count (numbered page r v (entry.page + last))) (sym (same-rest (entry.offset + length blob - 1))) end);
        stored = λ j byte is.
            subst (λ (room : ℕ). slice_get (content_of (content_room r) (numbered page r v (entry.page + (entry.offset + j) / room))).bytes ((entry.offset + j) % room) ≡ Some byte) (sym room_is) (byte-stored j byte is);
      }

      reaches : entry.page + (entry.offset + length blob - 1) / content_per_page plan < ring.next
      reaches = let low = (there last (omega arith)).sealed in let next = follows.next in let e = reach-is in omega (arith, low, next, e)

    leads-to : LeadsToBlob plan table ring entry blob
    leads-to = record { written = let next = follows.next in let sealed : entry.page < v.next = leads.sealed in omega (arith, sealed, next); reaches = reaches; holds = holds }

  pub blobs-lead : AllByRecursion (λ entry. BlobLeads page r v (stored_row entry).blob) table.entries → AllByRecursion (IsReadBy (λ at. bytes_from (byte_of page r v at) 0 at.length)) table.entries → BlobsLead plan table ring
  blobs-lead leads reads i entry blob here is some =
      leads-to entry blob some
      (by_blob entry.kept.blob is (each-at (λ (e : Entry). BlobLeads page r v (stored_row e).blob) table.entries i entry leads here))
      (by_read entry.kept.blob is (each-at (IsReadBy (λ (at : BlobRef). bytes_from (byte_of page r v at) 0 at.length)) table.entries i entry reads here))
    where
      by_blob : (o : Option (List ℕ)) → o ≡ Some blob → BlobLeads page r v (option_map (λ (bytes : List ℕ). record { page = entry.page; offset = entry.offset; length = length bytes }) o) → Leads page r v (record { page = entry.page; offset = entry.offset; length = length blob })
      by_blob o same h = (subst (λ (x : Option (List ℕ)). BlobLeads page r v (option_map (λ (bytes : List ℕ). record { page = entry.page; offset = entry.offset; length = length bytes }) x)) same h) some

      by_read : (o : Option (List ℕ)) → o ≡ Some blob → IfSome o (λ bytes. bytes ≡ bytes_from (byte_of page r v (record { page = entry.page; offset = entry.offset; length = length bytes })) 0 (length bytes)) →
          blob ≡ bytes_from (byte_of page r v (record { page = entry.page; offset = entry.offset; length = length blob })) 0 (length blob)
      by_read o same h = subst (λ (x : Option (List ℕ)). IfSome x (λ bytes. bytes ≡ bytes_from (byte_of page r v (record { page = entry.page; offset = entry.offset; length = length bytes })) 0 (length bytes))) same h

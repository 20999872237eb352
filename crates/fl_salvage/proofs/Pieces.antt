-- Bytes of a blob that are joined piece by piece.
use Rattle.std.proofs.Common.{◌≡◌, ℕ, suc, ◌+◌, ◌-◌, ◌<◌, ◌≤◌, true, false, Option, Some, None, List, ◌++◌, length, drop, refl, ap, sym, ◌∙◌, append_assoc, arith}
use Rattle.std.specs.Prelude.{nat_le, ◌==◌, slice_range}
use Rattle.std.proofs.lemmas.Bool.{eq-eqb, le-leb, lt-leb, ne_eqb}
use Rattle.fl_flash.proofs.Pages.{length-slice}
use Rattle.fl_salvage.specs.Blobs.{blob_from, content_at, content_room, joined, piece_in}
use Rattle.fl_salvage.specs.declared.ring.RingPages.{RingPages}

joined-more : (front piece : List ℕ) (found : Option (List ℕ)) → joined front (joined piece found) ≡ joined (front ++ piece) found
joined-more front piece None = refl
joined-more front piece (Some bytes) = ap (λ (l : List ℕ). Some l) (sym (append_assoc front piece bytes))

-- what comes from one page, where there are pages left
step : (content : ℕ → Option (List ℕ)) (room n i number offset left : ℕ) → i < n
    → blob_from content room (n - i) number offset left ≡ piece_in room offset left (content number) (blob_from content room (n - (i + 1)) (number + 1) 0 (left - (room - offset)))
step content room n i number offset left lt =
    let e : n - i ≡ suc (n - (i + 1)) = omega (arith, lt) in
    ap (λ (k : ℕ). blob_from content room k number offset left) e

-- there is no such page
pub piece-none : (content : ℕ → Option (List ℕ)) (room n i number offset left : ℕ) (front : List ℕ) → i < n → content number ≡ None → joined front (blob_from content room (n - i) number offset left) ≡ None
piece-none content room n i number offset left front lt none =
    ap (joined front) (step content room n i number offset left lt ∙ ap (λ (o : Option (List ℕ)). piece_in room offset left o (blob_from content room (n - (i + 1)) (number + 1) 0 (left - (room - offset)))) none)

-- what its content decides
of-content : (content : ℕ → Option (List ℕ)) (room n i number offset left : ℕ) (held : List ℕ) → i < n → content number ≡ Some held
    → blob_from content room (n - i) number offset left ≡ piece_in room offset left (Some held) (blob_from content room (n - (i + 1)) (number + 1) 0 (left - (room - offset)))
of-content content room n i number offset left held lt is =
    step content room n i number offset left lt ∙ ap (λ (o : Option (List ℕ)). piece_in room offset left o (blob_from content room (n - (i + 1)) (number + 1) 0 (left - (room - offset)))) is

-- the piece begins behind it
pub piece-behind : (content : ℕ → Option (List ℕ)) (room n i number offset left : ℕ) (held front : List ℕ) → i < n → content number ≡ Some held → length held ≤ offset
    → joined front (blob_from content room (n - i) number offset left) ≡ None
piece-behind content room n i number offset left held front lt is behind =
    let e = of-content content room n i number offset left held lt is in
    let t : nat_le (length held) offset ≡ true = le-leb (length held) offset behind in
    ap (joined front) (rw t at e)

-- the bytes end on it
pub piece-last : (content : ℕ → Option (List ℕ)) (room n i number offset left : ℕ) (held front : List ℕ) → i < n → content number ≡ Some held → offset < length held → left ≤ length held - offset
    → joined front (blob_from content room (n - i) number offset left) ≡ Some (front ++ slice_range held offset (offset + left))
piece-last content room n i number offset left held front lt is begins ends =
    let e = of-content content room n i number offset left held lt is in
    let f : nat_le (length held) offset ≡ false = lt-leb (length held) offset begins in
    let t : nat_le left (length held - offset) ≡ true = le-leb left (length held - offset) ends in
    ap (joined front) (rw (f, t) at e)

-- they go on, and it isn't full
pub piece-short : (content : ℕ → Option (List ℕ)) (room n i number offset left : ℕ) (held front : List ℕ) → i < n → content number ≡ Some held → offset < length held → length held - offset < left → (length held ≡ room → ⊥)
    → joined front (blob_from content room (n - i) number offset left) ≡ None
piece-short content room n i number offset left held front lt is begins more short =
    let e = of-content content room n i number offset left held lt is in
    let f : nat_le (length held) offset ≡ false = lt-leb (length held) offset begins in
    let g : nat_le left (length held - offset) ≡ false = lt-leb left (length held - offset) more in
    let h : (length held == room) ≡ false = ne_eqb (length held) room short in
    ap (joined front) (rw (f, g, h) at e)

-- .. or it is
pub piece-full : (content : ℕ → Option (List ℕ)) (room n i number offset left : ℕ) (held front : List ℕ) → i < n → content number ≡ Some held → offset < length held → length held - offset < left → length held ≡ room
    → joined front (blob_from content room (n - i) number offset left) ≡ joined (front ++ drop offset held) (blob_from content room (n - (i + 1)) (number + 1) 0 (left - (length held - offset)))
piece-full content room n i number offset left held front lt is begins more full =
    let e = of-content content room n i number offset left held lt is in
    let f : nat_le (length held) offset ≡ false = lt-leb (length held) offset begins in
    let g : nat_le left (length held - offset) ≡ false = lt-leb left (length held - offset) more in
    let t : (length held == room) ≡ true = eq-eqb (length held) room full in
    let next = blob_from content room (n - (i + 1)) (number + 1) 0 (left - (room - offset)) in
    ap (joined front) (rw (f, g, t) at e) ∙ joined-more front (drop offset held) next
    ∙ ap (λ (k : ℕ). joined (front ++ drop offset held) (blob_from content room (n - (i + 1)) (number + 1) 0 (left - (k - offset)))) (sym full)

-- the bytes of a part
pub length-range : (xs : List ℕ) (a n : ℕ) → a + n ≤ length xs → length (slice_range xs a (a + n)) ≡ n
length-range xs a n le =
    let e : a + n - a ≡ n = omega arith in
    length-slice xs a (a + n) (omega arith) le ∙ e

-- a full page is behind, and the next one comes
pub piece-next : (ring : RingPages) (bytes : List ℕ) (n i first offset left len : ℕ) (held front now : List ℕ) → i < n → content_at ring bytes (first + i) ≡ Some held → length held ≡ len → offset < len → len - offset < left → len ≡ content_room ring → now ≡ front ++ drop offset held
    → joined front (blob_from (content_at ring bytes) (content_room ring) (n - i) (first + i) offset left) ≡ joined now (blob_from (content_at ring bytes) (content_room ring) (n - (i + 1)) (first + (i + 1)) 0 (left - (len - offset)))
piece-next ring bytes n i first offset left len held front now lt here many begins more full items =
    let content = content_at ring bytes in
    let room = content_room ring in
    let next : first + i + 1 ≡ first + (i + 1) = omega arith in
    piece-full content room n i (first + i) offset left held front lt here (omega (arith, many, begins)) (omega (arith, many, more)) (many ∙ full)
    ∙ ap (λ (k : ℕ). joined (front ++ drop offset held) (blob_from content room (n - (i + 1)) (first + i + 1) 0 (left - (k - offset)))) many
    ∙ ap (λ (k : ℕ). joined (front ++ drop offset held) (blob_from content room (n - (i + 1)) k 0 (left - (len - offset)))) next
    ∙ ap (λ (l : List ℕ). joined l (blob_from content room (n - (i + 1)) (first + (i + 1)) 0 (left - (len - offset)))) (sym items)

-- A source that is read to its end.
use Rattle.std.proofs.Common.{◌≡◌, ℕ, ◌+◌, ◌-◌, ◌<◌, ◌≤◌, Option, Some, Ok, Err, List, [], ◌++◌, length, take, drop, refl, sym, ◌∙◌, ap, append-nil, arith}
use Rattle.std.proofs.Math.Seq.{take-add, take-append-add}
use Rattle.std.proofs.lemmas.List.{drop-drop, length-append, length-drop, length-take-le, take-append-drop, take-append-le}
use borrow.Rule.Slice.PartMut.{put_mid}
use Rattle.fl_base.specs.Stream.{Reads, TakesFirst}

-- so many bytes of a text were read, and stand at the front of the room
pub record SoFar (text : List ℕ) (left : Option (List ℕ)) (len : ℕ) (room : List ℕ) : Type 0 where
  pub fits : len ≤ length text
  pub here : take len room ≡ take len text
  pub rest : left ≡ Some (drop len text)

-- more of them were read behind those
pub so-far-more : (E : Type 0) (text : List ℕ) (left left_now : Option (List ℕ)) (len count : ℕ) (room part behind now : List ℕ) → SoFar text left len room → len ≤ length room → count ≤ length part → Reads {E = E} left left_now (Ok count) part
    → now ≡ take len room ++ (part ++ behind) → SoFar text left_now (len + count) now
so-far-more E text left left_now len count room part behind now so_far fits few reads is =
    let took : TakesFirst (drop len text) left_now count part = rw so_far.rest at reads in
    let many : length (take len room) ≡ len = length-take-le len room fits in
    let front : take (len + count) (take len room ++ (part ++ behind)) ≡ take len room ++ take count part =
    ap (λ (k : ℕ). take (k + count) (take len room ++ (part ++ behind))) (sym many) ∙ take-append-add (take len room) (part ++ behind) count
    ∙ ap (λ (l : List ℕ). take len room ++ l) (take-append-le count part behind few) in
    record {
      fits = omega (arith, so_far.fits, took.fits, length-drop len text);
      here = ap (take (len + count)) is ∙ front ∙ ap (λ (l : List ℕ). l ++ take count part) so_far.here ∙ ap (λ (l : List ℕ). take len text ++ l) took.bytes ∙ sym (take-add len count text);
      rest = took.rest ∙ ap (λ (l : List ℕ). Some l) (drop-drop count len text);
    }

-- a read at the end takes none
pub so-far-ended : (E : Type 0) (text : List ℕ) (left left_now : Option (List ℕ)) (len : ℕ) (room part : List ℕ) → SoFar text left len room → Reads {E = E} left left_now (Ok 0) part → left_now ≡ Some (drop len text)
so-far-ended E text left left_now len room part so_far reads = let took : TakesFirst (drop len text) left_now 0 part = rw so_far.rest at reads in took.rest

-- .. and so does one that failed
pub so-far-failed : (E : Type 0) (text : List ℕ) (left left_now : Option (List ℕ)) (len : ℕ) (room part : List ℕ) (e : E) → SoFar text left len room → Reads {E = E} left left_now (Err e) part → left_now ≡ Some (drop len text)
so-far-failed E text left left_now len room part e so_far reads = rw so_far.rest at reads

-- .. and none more where the source has ended
pub so-far-all : (E : Type 0) (text : List ℕ) (left left_now : Option (List ℕ)) (len : ℕ) (room part behind now : List ℕ) → SoFar text left len room → len ≤ length room → 0 < length part → Reads {E = E} left left_now (Ok 0) part
    → now ≡ take len room ++ (part ++ behind) → take len now ≡ text
so-far-all E text left left_now len room part behind now so_far fits some reads is =
    let took : TakesFirst (drop len text) left_now 0 part = rw so_far.rest at reads in
    let more = so-far-more E text left left_now len 0 room part behind now so_far fits (omega arith) reads is in
    let same : len + 0 ≡ len = omega arith in
    let none : drop len text ≡ [] = took.end refl some in
    ap (λ (k : ℕ). take k now) (sym same) ∙ more.here ∙ ap (λ (k : ℕ). take k text) same ∙ sym (append-nil (take len text)) ∙ ap (λ (l : List ℕ). take len text ++ l) (sym none) ∙ take-append-drop len text

-- a part that is as long as it was leaves the room as long
pub put-size : (a k n : ℕ) (xs ys : List ℕ) → length ys ≡ k → a + k ≡ n → length xs ≡ n → length (put_mid a k xs ys) ≡ n
put-size a k n xs ys part whole size =
    let front : length (take a xs) ≡ a = length-take-le a xs (omega (arith, whole, size)) in
    let behind : length (drop k (drop a xs)) ≡ 0 = length-drop k (drop a xs) ∙ ap (λ (m : ℕ). m - k) (length-drop a xs) ∙ (let z : length xs - a - k ≡ 0 = omega (arith, whole, size) in z) in
    length-append (take a xs) (ys ++ drop k (drop a xs)) ∙ ap (λ (m : ℕ). length (take a xs) + m) (length-append ys (drop k (drop a xs))) ∙ (let z : length (take a xs) + (length ys + length (drop k (drop a xs))) ≡ n = omega (arith, front, behind, part, whole) in z)

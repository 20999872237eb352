-- The room of a stream of lines.
use Rattle.std.proofs.Common.{◌≡◌, ℕ, suc, true, false, inl, add-one, ◌+◌, ◌-◌, ◌<◌, ◌≤◌, Bool, Option, Some, None, Ok, Err, List, ◌∷◌, ◌++◌, length, take, drop, refl, sym, ◌∙◌, ap, subst, append_assoc, append-nil, length-append, arith}
use Rattle.std.specs.List.{slice_range, copy_within}
use Rattle.std.proofs.lemmas.List.{take-append-drop, take-append-le, take-take, length-take, length-take-le, length-drop}
use Rattle.std.proofs.Math.Seq.{take-append-add, take-length}
use Rattle.std.proofs.Math.Nat.{sub-zero}
use Rattle.fl_base.proofs.Ranges.{take_slice, drop_slice}
use Rattle.fl_base.specs.Stream.{Reads}
use Rattle.std.specs.Prelude.{slice_get}
use Rattle.std.proofs.lemmas.Option.{slice_get_within, get_or_from_slice_get}
use Rattle.std.proofs.Math.Seq.{drop-cons}
use Rattle.fl_lines.specs.declared.lines.LinesFault.TheVariants.{Long}
use Rattle.fl_lines.specs.Stream.{LinesState, Fills, Advances, IsOneLine, after_line}

-- a line at the front of what is ahead
pub line-given : (buf : List ℕ) (from to len most : ℕ) (closed : Bool) → from + (len + 1) ≤ to →
    ◌≡◌ {A = LinesState}
    (record { line = slice_range buf from (from + len); ahead = slice_range buf (from + (len + 1)) to; most = most; closed = closed })
    (record { line = take len (slice_range buf from to); ahead = drop (len + 1) (slice_range buf from to); most = most; closed = closed })
line-given buf from to len most closed h =
    let a : slice_range buf from (from + len) ≡ take len (slice_range buf from to) = sym (take_slice buf from to len (omega arith)) in
    let b : slice_range buf (from + (len + 1)) to ≡ drop (len + 1) (slice_range buf from to) = sym (drop_slice buf from to (len + 1) h) in
    rw (a, b) refl

pub slice-short : (buf : List ℕ) (from to : ℕ) → length (slice_range buf from to) ≤ to - from
slice-short buf from to = omega (arith, length-take (to - from) (drop from buf))

-- the front of a room into which bytes were read
pub front-read : (zs ys post others : List ℕ) (len count most n : ℕ) → length zs ≡ len → count ≤ length ys → n ≡ len + count → n ≤ most →
    slice_range (take most ((zs ++ (ys ++ post)) ++ others)) 0 n ≡ zs ++ take count ys
front-read zs ys post others len count most n size few e fits =
    let whole = (zs ++ (ys ++ post)) ++ others in
    let joined : whole ≡ zs ++ (ys ++ (post ++ others)) = append_assoc zs (ys ++ post) others ∙ ap (λ l. zs ++ l) (append_assoc ys post others) in
    let n_is : n ≡ length zs + count = omega arith in
    ap (λ m. take m (take most whole)) (sub-zero n)
    ∙ (take-take n most whole fits
    ∙ (ap (take n) joined
    ∙ (ap (λ m. take m (zs ++ (ys ++ (post ++ others)))) n_is
    ∙ (take-append-add zs (ys ++ (post ++ others)) count
    ∙ ap (λ l. zs ++ l) (take-append-le count ys (post ++ others) few)))))

-- what was read stands behind what was ahead
pub fills : (E : Type 0) (old new into : List ℕ) (left left_now : Option (List ℕ)) (n : ℕ) → new ≡ old ++ take n into → 0 < length into → Reads {E = E} left left_now (Ok n) into → Fills {E = E} old left (Ok n) new left_now
fills E old new into None left_now n e some h = tt
fills E old new into (Some left) left_now n e some h = (
  drop n left,
  h.rest,
  record {
    split = ap (λ l. old ++ l) (sym (take-append-drop n left)) ∙ (sym (append_assoc old (take n left) (drop n left)) ∙ ap (λ l. l ++ drop n left) (ap (λ t. old ++ t) (sym h.bytes) ∙ sym e));
    end = λ z. (h.end z some, e ∙ (ap (λ m. old ++ take m into) z ∙ append-nil old));
  },
)

-- what was moved to the front of the room
pub copied : (buf : List ℕ) (from to : ℕ) → from ≤ to → to ≤ length buf → take (to - from) (copy_within buf from to 0) ≡ slice_range buf from to
copied buf from to h fits =
    let part = take (to - from) (drop from buf) in
    let size : length part ≡ to - from = length-take-le (to - from) (drop from buf) (omega (arith, length-drop from buf)) in
    take-append-le (to - from) part (drop (0 + (to - from)) buf) (omega arith) ∙ (ap (λ n. take n part) (sym size) ∙ take-length part)

-- a list is parted at one of its elements
pub parted : (xs : List ℕ) (len : ℕ) (x : ℕ) → slice_get xs len ≡ Some x → xs ≡ take len xs ++ x ∷ drop (len + 1) xs
parted xs len x e =
    let within : len < length xs = slice_get_within xs len x e in
    sym (take-append-drop len xs)
    ∙ ap (λ l. take len xs ++ l)
    (drop-cons xs len x within ∙ (ap (λ y. y ∷ drop (suc len) xs) (get_or_from_slice_get xs len x x e) ∙ ap (λ n. x ∷ drop n xs) (sym (add-one len))))

-- a whole line was ahead
pub advances-line : (old mid new : LinesState) (left left_now : Option (List ℕ)) (f f_now len : ℕ) → mid.closed ≡ false → old.closed ≡ false → mid.most ≡ old.most → f ≤ f_now →
    ((l : List ℕ) → left ≡ Some l → (now : List ℕ) × (left_now ≡ Some now) × (old.ahead ++ l ≡ mid.ahead ++ now)) →
    slice_get mid.ahead len ≡ Some 10 → IsOneLine (take len mid.ahead) → length mid.ahead ≤ mid.most → length mid.ahead ≤ 4097 → new ≡ after_line len mid →
    Advances old left f (Ok true) new left_now f_now
advances-line old mid new left left_now f f_now len is_open was_open most later told newline one few small e =
    let within : len < length mid.ahead = slice_get_within mid.ahead len 10 newline in
    let size : length (take len mid.ahead) ≡ len = length-take-le len mid.ahead (omega arith) in
    let new_line : new.line ≡ take len mid.ahead = ap (λ (s : LinesState). s.line) e in
    let new_most : new.most ≡ mid.most - (len + 1) = ap (λ (s : LinesState). s.most) e in
    let new_ahead : new.ahead ≡ drop (len + 1) mid.ahead = ap (λ (s : LinesState). s.ahead) e in
    let count : length new.line ≡ len = ap length new_line ∙ size in
    record {
      later = later;
      failed = λ k. cc;
      shrinks = λ _. omega (arith, new_most, most);
      gives = λ l is ended.
          let t = told l is in (
            t.0,
            t.1,
            inl (record {
              split = t.2 ∙ (ap (λ a. a ++ t.0) (parted mid.ahead len 10 newline)
                  ∙ (append_assoc (take len mid.ahead) (10 ∷ drop (len + 1) mid.ahead) t.0
                  ∙ ap (λ n. n ++ 10 ∷ (drop (len + 1) mid.ahead ++ t.0)) (sym new_line)
                  ∙ ap (λ a. new.line ++ 10 ∷ (a ++ t.0)) (sym new_ahead)));
              one = subst IsOneLine (sym new_line) one;
              fits = omega (arith, count, most);
              most = new_most ∙ (ap (λ m. m - (len + 1)) most ∙ ap (λ n. old.most - (n + 1)) (sym count));
              open_before = was_open;
              open_now = ap (λ (s : LinesState). s.closed) e ∙ is_open;
            }),
            (mid.ahead, t.2, small, omega (arith, few, most)),
          );
    }

-- as many bytes were ahead as are read, and one more came
pub advances-over : (E : Type 0) (s : LinesState) (left left_now : Option (List ℕ)) (f f_now n : ℕ) (into : List ℕ) → length s.ahead ≡ s.most → IsOneLine s.ahead → length s.ahead ≤ 4096 → s.closed ≡ false →
    f ≤ f_now → Reads {E = E} left left_now (Ok n) into → n ≤ length into → length into ≡ 1 → (n ≡ 0 → ⊥) → Advances s left f (Err Long) s left_now f_now
advances-over E s None left_now f f_now n into full one short is_open later reads most size some = record { later = later; failed = λ k. cc; shrinks = λ k. cc; gives = λ l is ended. cc }
advances-over E s (Some left) left_now f f_now n into full one short is_open later reads most size some = record {
  later = later;
  failed = λ k. cc;
  shrinks = λ k. cc;
  gives = λ l is ended.
      let same : l ≡ left = cc in
      rw same (
        drop n left,
        reads.rest,
        (left, record { split = refl; one = one; short = short; fits = omega (arith, full); open_before = is_open }, full, omega (arith, came, length-take n left)),
        (s.ahead ++ take n left, ap (λ r. s.ahead ++ r) (sym (take-append-drop n left)) ∙ sym (append_assoc s.ahead (take n left) (drop n left)), omega (arith, full, came, length-append s.ahead (take n left))),
      );
}
  where
    came : length (take n left) ≡ 1
    came = sym (ap length reads.bytes) ∙ (length-take n into ∙ omega (arith, most, size, some))

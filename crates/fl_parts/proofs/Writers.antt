-- The rows that wait: what a page writer's calls leave behind them.
use Rattle.std.proofs.Common.{◌≡◌, ℕ, ◌+◌, ◌-◌, ◌*◌, ◌<◌, ◌≤◌, List, [], ◌∷◌, ◌++◌, length, take, drop, replicate, refl, sym, ◌∙◌, ap, arith, length-append}
use Rattle.std.proofs.lemmas.List.{drop_at, drop-drop, drop-replicate, length-replicate, replicate-append-replicate, length-take-le}
use Rattle.std.proofs.Math.Nat.{mul-le-mul_left, mul-le-mul_right}
use Rattle.fl_base.specs.Bytes.{splice}
use Rattle.fl_model.specs.Record.{RowLayout, layout_len}
use Rattle.fl_model.specs.Row.{Row}
use Rattle.fl_page.specs.Header.{header_bytes}
use Rattle.fl_page.specs.Writer.{Gathers}
use Rattle.fl_page.specs.WriterState.{WriterState}

-- the bytes behind the rows are blank
abbrev pub IsBlankRest : WriterState → Type 0
IsBlankRest w = drop w.end w.body ≡ replicate (length w.body - w.end) 255

splice_front : (xs front : List ℕ) (n : ℕ) → length front ≤ n → drop n (splice xs 0 front) ≡ drop n xs
splice_front xs front n le =
    let split : drop n (splice xs 0 front) ≡ drop (n - length front) (drop (length front) (splice xs 0 front)) =
    (let e : n ≡ length front + (n - length front) = omega (arith, le) in ap (λ k. drop k (splice xs 0 front)) e) ∙ sym (drop-drop (n - length front) (length front) (splice xs 0 front)) in
    let whole : splice xs 0 front ≡ front ++ drop (0 + length front) xs = none xs in
    split ∙ (ap (drop (n - length front)) (ap (drop (length front)) whole ∙ drop_at front (drop (0 + length front) xs) (length front) refl)
    ∙ (drop-drop (n - length front) (0 + length front) xs ∙ ap (λ k. drop k xs) (let e : 0 + length front + (n - length front) ≡ n = omega (arith, le) in e)))
  where
    none : (ys : List ℕ) → take 0 ys ++ (front ++ drop (0 + length front) ys) ≡ front ++ drop (0 + length front) ys
    none [] = refl
    none (y ∷ ys) = refl

-- the header leaves them
pub rest-finish : (w v : WriterState) (number bitmap : ℕ) → v ≡ record w { body = splice w.body 0 (header_bytes number w.count bitmap) } → length v.body ≡ length w.body → 16 ≤ w.end → IsBlankRest w → IsBlankRest v
rest-finish w v number bitmap is size le rest =
    let end : v.end ≡ w.end = ap (λ (x : WriterState). x.end) is in
    let body : v.body ≡ splice w.body 0 (header_bytes number w.count bitmap) = ap (λ (x : WriterState). x.body) is in
    ap (λ n. drop n v.body) end ∙ (ap (drop w.end) body ∙ (splice_front w.body (header_bytes number w.count bitmap) w.end (omega (arith, le)) ∙ (rest ∙ ap (λ n. replicate n 255) (omega (arith, size, end)))))

-- a writer without rows
pub rest-clear : (w v : WriterState) → v ≡ record { body = splice w.body 16 (replicate (w.end - 16) 255); count = 0; end = 16 } → 16 ≤ w.end → w.end ≤ length w.body → IsBlankRest w → IsBlankRest v
rest-clear w v is le within rest =
    let body : v.body ≡ splice w.body 16 (replicate (w.end - 16) 255) = ap (λ (x : WriterState). x.body) is in
    let end : v.end ≡ 16 = ap (λ (x : WriterState). x.end) is in
    let n : length (replicate {A = ℕ} (w.end - 16) 255) ≡ w.end - 16 = length-replicate {A = ℕ} (w.end - 16) 255 in
    let at : 16 + length (replicate {A = ℕ} (w.end - 16) 255) ≡ w.end = omega (arith, n, le) in
    let more : List ℕ = replicate (w.end - 16) 255 ++ drop (16 + length (replicate {A = ℕ} (w.end - 16) 255)) w.body in
    let all : List ℕ = replicate (w.end - 16 + (length w.body - w.end)) 255 in
    let tail : more ≡ all =
    ap (λ k. replicate (w.end - 16) 255 ++ drop k w.body) at ∙ (ap (λ (xs : List ℕ). replicate (w.end - 16) 255 ++ xs) rest ∙ replicate-append-replicate (w.end - 16) (length w.body - w.end) 255) in
    let many : length all ≡ w.end - 16 + (length w.body - w.end) = length-replicate {A = ℕ} (w.end - 16 + (length w.body - w.end)) 255 in
    let as_many : length more ≡ length all = ap length tail in
    let front : length (take 16 w.body) ≡ 16 = length-take-le 16 w.body (omega (arith, le, within)) in
    let whole : drop 16 v.body ≡ replicate (w.end - 16 + (length w.body - w.end)) 255 =
    ap (drop 16) body ∙ (drop_at (take 16 w.body) more 16 front ∙ tail) in
    let len : length v.body ≡ 16 + (w.end - 16 + (length w.body - w.end)) =
    let split : length (take 16 w.body ++ more) ≡ length (take 16 w.body) + length more = length-append (take 16 w.body) more in
    ap length body ∙ omega (arith, split, front, as_many, many) in
    ap (λ k. drop k v.body) end ∙ (whole ∙ ap (λ k. replicate k 255) (omega (arith, len, end)))

pub gathers-none : (layout : RowLayout) (v : WriterState) → v.count ≡ 0 → v.end ≡ 16 → IsBlankRest v → Gathers layout [] v
gathers-none layout v count end rest = record {
  count = count;
  end = omega (arith, end);
  bytes = ap (λ k. drop k v.body) (sym end) ∙ rest;
  storable = tt;
}

-- a page has fewer rows than bytes
pub few-rows : (count len end size : ℕ) → end ≡ 16 + count * len → end ≤ size → 1 ≤ len → size ≤ 4096 → count < 65536
few-rows count len end size is le some small = let k : count * 1 ≤ count * len = mul-le-mul_left count some in omega (arith, is, le, k, small)

-- a ring has room
pub some-room : (blocks pages : ℕ) → 3 ≤ blocks → 2 ≤ pages → 1 ≤ blocks * pages
some-room blocks pages b p = let k : 3 * pages ≤ blocks * pages = mul-le-mul_right pages b in omega (arith, k, p)

-- one row more
pub rest-push : (w v : WriterState) (row : List ℕ) (len : ℕ) → v ≡ record { body = splice w.body w.end row; count = w.count + 1; end = w.end + len } → length row ≡ len → w.end + len ≤ length w.body → length v.body ≡ length w.body →
    IsBlankRest w → IsBlankRest v
rest-push w v row len is row_len room size rest =
    let body : v.body ≡ splice w.body w.end row = ap (λ (x : WriterState). x.body) is in
    let end : v.end ≡ w.end + len = ap (λ (x : WriterState). x.end) is in
    let tail : List ℕ = drop (w.end + length row) w.body in
    let front : List ℕ = take w.end w.body in
    let at : length front ≡ w.end = length-take-le w.end w.body (omega (arith, room)) in
    let first : drop w.end (front ++ (row ++ tail)) ≡ row ++ tail = drop_at front (row ++ tail) w.end at in
    let second : drop len (row ++ tail) ≡ tail = drop_at row tail len row_len in
    let behind : tail ≡ drop len (drop w.end w.body) = ap (λ n. drop n w.body) (let e : w.end + length row ≡ w.end + len = omega (arith, row_len) in e) ∙ sym (drop-drop len w.end w.body) in
    let blank : tail ≡ replicate (length w.body - w.end - len) 255 = behind ∙ (ap (drop len) rest ∙ drop-replicate len (length w.body - w.end) 255) in
    ap (λ n. drop n v.body) end ∙ (ap (drop (w.end + len)) body ∙ (sym (drop-drop len w.end (splice w.body w.end row)) ∙ (ap (drop len) first ∙ (second ∙ (blank ∙ ap (λ n. replicate n 255) (omega (arith, size, end)))))))

-- where the rows end
pub gathers-end : (layout : RowLayout) (rows : List Row) (w : WriterState) → Gathers layout rows w → w.end ≡ 16 + w.count * layout_len layout
gathers-end layout rows w h = h.end ∙ ap (λ n. 16 + n * layout_len layout) (sym h.count)

-- a writer that has none is blank behind them
pub gathers-blank : (layout : RowLayout) (w : WriterState) → Gathers layout [] w → IsBlankRest w
gathers-blank layout w h = let none : 0 * layout_len layout ≡ 0 = omega arith in let e : w.end ≡ 16 = omega (arith, h.end, none) in ap (λ n. drop n w.body) e ∙ h.bytes

-- the end of the rows goes with their number
pub end-same : (w v : WriterState) (n : ℕ) → v.count ≡ w.count → v.end ≡ w.end → w.end ≡ 16 + w.count * n → v.end ≡ 16 + v.count * n
end-same w v n count end rows = rw count (omega (arith, end, rows))

pub end-none : (w : WriterState) (n : ℕ) → w.count ≡ 0 → w.end ≡ 16 → w.end ≡ 16 + w.count * n
end-none w n count end = rw count (omega (arith, end))

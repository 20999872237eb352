-- The content that waits for its page, step by step.
use Rattle.std.proofs.Common.{◌≡◌, ℕ, ◌+◌, ◌-◌, ◌≤◌, List, ◌++◌, length, take, drop, replicate, sym, ◌∙◌, ap, arith}
use Rattle.std.proofs.lemmas.List.{drop-take, drop-drop, drop-append-le, drop-replicate, drop_at, replicate-append-replicate, length-take-le}
use Rattle.std.proofs.lemmas.Slice.{take-put_mid, drop-put_mid}
use borrow.Rule.Slice.PartMut.{put_mid}

-- bytes that were put behind the content
pub content-put : (page new : List ℕ) (fill n : ℕ) → 8 + fill ≤ length page → n ≡ length new →
    take (fill + n) (drop 8 (put_mid (8 + fill) (8 + fill + n - (8 + fill)) page new)) ≡ take fill (drop 8 page) ++ new
content-put page new fill n room size =
    let whole = put_mid (8 + fill) (8 + fill + n - (8 + fill)) page new in
    let sum : 8 + (fill + n) ≡ 8 + fill + n = omega arith in
    sym (drop-take 8 (fill + n) (put_mid (8 + fill) (8 + fill + n - (8 + fill)) page new))
    ∙ (ap (λ (k : ℕ). drop 8 (take k (put_mid (8 + fill) (8 + fill + n - (8 + fill)) page new))) sum
    ∙ (ap (drop 8) (take-put_mid (8 + fill) (8 + fill + n - (8 + fill)) page new (8 + fill + n) (omega (arith, size)) room)
    ∙ (drop-append-le 8 (take (8 + fill) page) new (omega (arith, length-take-le (8 + fill) page room))
    ∙ ap (λ (l : List ℕ). l ++ new) (drop-take 8 fill page))))

pub blank-put : (page new : List ℕ) (fill n room : ℕ) → 8 + fill ≤ length page → n ≡ length new → room ≡ length page → drop (8 + fill) page ≡ replicate (length page - (8 + fill)) 255 →
    drop (8 + (fill + n)) (put_mid (8 + fill) (8 + fill + n - (8 + fill)) page new) ≡ replicate (room - (8 + (fill + n))) 255
blank-put page new fill n room within size len blank =
    let sum : 8 + (fill + n) ≡ 8 + fill + n = omega arith in
    let left : length page - (8 + fill) - n ≡ room - (8 + (fill + n)) = omega (arith, len) in
    drop-put_mid (8 + fill) (8 + fill + n - (8 + fill)) page new (8 + (fill + n)) (omega arith) within (omega (arith, size))
    ∙ (ap (λ (k : ℕ). drop k page) sum
    ∙ (sym (drop-drop n (8 + fill) page)
    ∙ (ap (drop n) blank
    ∙ (drop-replicate n (length page - (8 + fill)) 255 ∙ ap (λ (k : ℕ). replicate k 255) left))))

-- blank bytes where the content stood
pub blank-clear : (page new : List ℕ) (fill room n : ℕ) → 8 + fill ≤ length page → new ≡ replicate fill 255 → room ≡ length page → n ≡ fill → drop (8 + fill) page ≡ replicate (length page - (8 + fill)) 255 →
    drop (8 + 0) (take 8 page ++ (new ++ drop n (drop 8 page))) ≡ replicate (room - (8 + 0)) 255
blank-clear page new fill room n within is len same blank =
    let left : fill + (length page - (8 + fill)) ≡ room - (8 + 0) = omega (arith, len, within) in
    drop_at (take 8 page) (new ++ drop n (drop 8 page)) 8 (length-take-le 8 page (omega (arith, within)))
    ∙ (ap (λ (k : ℕ). new ++ drop k (drop 8 page)) same
    ∙ (ap (λ (l : List ℕ). l ++ drop fill (drop 8 page)) is
    ∙ (ap (λ (l : List ℕ). replicate fill 255 ++ l) (drop-drop fill 8 page ∙ blank)
    ∙ (replicate-append-replicate fill (length page - (8 + fill)) 255 ∙ ap (λ (k : ℕ). replicate k 255) left))))

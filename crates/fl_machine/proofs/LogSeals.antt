-- A table with a log: what a sealed data page leaves of it, and what is found where it stops then.
use Rattle.std.proofs.Common.{◌≡◌, ℕ, suc, ◌+◌, ◌-◌, ◌*◌, ◌<◌, ◌≤◌, Bool, true, false, cond, nat_lt, Option, Some, None, List, [], ◌∷◌, ◌++◌, length, take, drop, filter, refl, sym, ◌∙◌, ap, subst, arith, ◌⊎◌, inl, inr, length-append, length-drop, length-take, IsTrue}
use Rattle.std.specs.List.{AllByRecursion, last_or, slice_get, sum}
use Rattle.std.specs.Option.{is_some, option_map, unwrap_or}
use Rattle.std.proofs.lemmas.List.Sums.{sum_by_push, sum_by-take-drop, sum_by-take-le}
use Rattle.std.proofs.lemmas.List.{take-append-drop, take-append-le, drop-append-le, append-nil}
use Rattle.std.proofs.lemmas.Bool.{ltb-true, false≢true, le-ltb}
use Rattle.std.proofs.lemmas.Option.{none-some}
use Rattle.fl_model.specs.Ring.{Shape, IsShape, Ring, sealed, extended, is_full}
use Rattle.fl_model.specs.Table.{Entry, is_after}
use Rattle.fl_model.specs.Log.{last_key}
use Rattle.fl_model.proofs.Lists.{drop_none, each-append, each-weaker, each-drop, last_or-append, last_or-is_some, last_or-some}
use Rattle.fl_model.proofs.Sealed.{full-long}
use Rattle.fl_machine.specs.Found.{trimmed}
use Rattle.fl_machine.proofs.Logs.{Core, front_of, rest_of, owed_of, AreAbove, IsThere, Tops, IsFine, IsReady, past_in, lost, RestsAs, filter_none, splits, front-all, rest-length, owed-lost, fine-lost}
use Rattle.fl_machine.proofs.LogStops.{held-pending}

-- a page with this count is sealed in a ring: so many of its pages go
pub record SealsAt (count : ℕ) (a b : Ring) : Type 0 where
  pub gone : ℕ
  pub few : gone ≤ length a.counts
  pub fewer : (gone ≡ 0) ⊎ (gone + 1 ≤ length a.counts)
  pub counts : b.counts ≡ drop gone (a.counts ++ count ∷ [])
  pub next : b.next ≡ a.next + 1
  pub torn : b.torn ≡ false

pub sealed-at : (shape : Shape) (count : ℕ) (ring : Ring) → IsShape shape → SealsAt count ring (sealed shape count ring)
sealed-at shape count ring s = by_test (is_full shape (extended count ring)) (λ e. full-long shape (extended count ring) s e)
  where
    by_test : (b : Bool) → (b ≡ true → 2 * shape.pages ≤ length (ring.counts ++ count ∷ [])) →
        SealsAt count ring (cond b (record (extended count ring) { counts = drop shape.pages (ring.counts ++ count ∷ []); dirty = true }) (extended count ring))
    by_test true long =
        let many = long refl in
        let len = length-append ring.counts (count ∷ []) in
        let two = s.pages in
        record { gone = shape.pages; few = omega (arith, many, len, two); fewer = inr (omega (arith, many, len, two)); counts = refl; next = refl; torn = refl }
    by_test false long = record { gone = 0; few = omega arith; fewer = inl refl; counts = sym (drop_none (ring.counts ++ count ∷ [])); next = refl; torn = refl }

-- what is trimmed by it
pub trimmed-seals : (count : ℕ) (a b : Ring) → (h : SealsAt count a b) → length a.counts ≤ a.next → trimmed a b ≡ sum (take h.gone a.counts)
trimmed-seals count a b h n =
    let len : length b.counts ≡ length a.counts + 1 - h.gone = ap (λ (xs : List ℕ). length xs) h.counts ∙ (length-drop h.gone (a.counts ++ count ∷ []) ∙ ap (λ m. m - h.gone) (length-append a.counts (count ∷ []))) in
    let up : (b.next - length b.counts) - (a.next - length a.counts) ≡ h.gone = omega (arith, len, h.next, h.few, n) in
    ap (λ m. sum (take m a.counts)) up

-- the rows of the pages that go
pub seals-sum : (count gone : ℕ) (counts : List ℕ) → gone ≤ length counts → sum (take gone counts) + sum (drop gone (counts ++ count ∷ [])) ≡ sum counts + count
seals-sum count gone counts few =
    ap (λ (xs : List ℕ). sum xs + sum (drop gone (counts ++ count ∷ []))) (sym (take-append-le gone counts (count ∷ []) few))
    ∙ (sum_by-take-drop (λ (n : ℕ). n) (counts ++ count ∷ []) gone ∙ sum_by_push (λ (n : ℕ). n) counts count)

-- a record that isn't above the last of others
below-last : (xs rest : List Entry) (e : Entry) → 0 < length rest → e.kept.key ≤ last_key rest → is_after (xs ++ rest) e ≡ false
below-last xs [] e some h = absurd (omega (arith, some))
below-last xs (y ∷ ys) e some h = by_last (last_or (Some y) ys) refl (last_or-is_some (Some y) ys refl)
  where
    by_last : (o : Option Entry) → last_or (Some y) ys ≡ o → IsTrue (is_some (last_or (Some y) ys)) → is_after (xs ++ y ∷ ys) e ≡ false
    by_last None q t = absurd (false≢true (subst (λ (p : Option Entry). IsTrue (is_some p)) q t))
    by_last (Some last) q t =
        let key : e.kept.key ≤ last.kept.key = subst (λ (p : Option Entry). e.kept.key ≤ unwrap_or (option_map (λ (x : Entry). x.kept.key) p) 0) q h in
        ap (λ (p : Option Entry). unwrap_or (option_map (λ (x : Entry). nat_lt x.kept.key e.kept.key) p) true) (last_or-append None xs (y ∷ ys) ∙ q) ∙ le-ltb last.kept.key e.kept.key key

-- .. and so has the last of what is left of them where others come behind that are above them
pub last-drop : (n : ℕ) (xs : List Entry) (w : Entry) → last_or None (drop n xs) ≡ Some w → last_or None xs ≡ Some w
last-drop n xs w e = by_rest (drop n xs) refl e
  where
    by_rest : (rest : List Entry) → drop n xs ≡ rest → last_or None rest ≡ Some w → last_or None xs ≡ Some w
    by_rest [] q k = absurd (none-some w k)
    by_rest (y ∷ ys) q k = ap (last_or None) (sym (take-append-drop n xs) ∙ ap (λ (es : List Entry). take n xs ++ es) q) ∙ (last_or-append None (take n xs) (y ∷ ys) ∙ k)

pub is_last : (xs : List Entry) → (xs ≡ []) ⊎ ((w : Entry) × (last_or None xs ≡ Some w))
is_last [] = inl refl
is_last (x ∷ xs) = inr (last_or-some x xs)

pub last-key : (xs : List Entry) (w : Entry) → last_or None xs ≡ Some w → last_key xs ≡ w.kept.key
last-key xs w e = ap (λ (o : Option Entry). unwrap_or (option_map (λ (x : Entry). x.kept.key) o) 0) e

pub tops-drop : (n : ℕ) (xs : List Entry) → Tops xs → Tops (drop n xs)
tops-drop n xs h = by_last (is_last (drop n xs))
  where
    by_last : (drop n xs ≡ []) ⊎ ((w : Entry) × (last_or None (drop n xs) ≡ Some w)) → Tops (drop n xs)
    by_last (inl e) = subst Tops (sym e) tt
    by_last (inr (w, e)) =
        let same : last_key xs ≡ last_key (drop n xs) = last-key xs w (last-drop n xs w e) ∙ sym (last-key (drop n xs) w e) in
        subst (λ (k : ℕ). AllByRecursion (λ e. e.kept.key ≤ k) (drop n xs)) same (each-drop (λ e. e.kept.key ≤ last_key xs) n xs h)

pub tops-above : (xs ys : List Entry) → Tops xs → Tops ys → AreAbove xs ys → Tops (xs ++ ys)
tops-above xs [] h k above = subst Tops (sym (append-nil xs)) h
tops-above xs (y ∷ ys) h k above =
    each-append (λ e. e.kept.key ≤ last_key (xs ++ y ∷ ys)) xs (y ∷ ys)
    (by_last (is_last xs))
    (subst (λ (n : ℕ). AllByRecursion (λ e. e.kept.key ≤ n) (y ∷ ys)) (sym same) k)
  where
    same : last_key (xs ++ y ∷ ys) ≡ last_key (y ∷ ys)
    same = ap (λ (o : Option Entry). unwrap_or (option_map (λ (x : Entry). x.kept.key) o) 0) (last_or-append None xs (y ∷ ys))

    by_last : (xs ≡ []) ⊎ ((w : Entry) × (last_or None xs ≡ Some w)) → AllByRecursion (λ e. e.kept.key ≤ last_key (xs ++ y ∷ ys)) xs
    by_last (inl e) = subst (AllByRecursion (λ e. e.kept.key ≤ last_key (xs ++ y ∷ ys))) (sym e) tt
    by_last (inr (w, e)) =
        let below : w.kept.key < y.kept.key = ltb-true w.kept.key y.kept.key (subst (λ (o : Option Entry). IsTrue (unwrap_or (option_map (λ (l : Entry). nat_lt l.kept.key y.kept.key) o) true)) e above.0) in
        each-weaker (λ e. e.kept.key ≤ last_key xs) (λ e. e.kept.key ≤ last_key (xs ++ y ∷ ys))
        (λ x m. let k0 = k.0 in let key = last-key xs w e in omega (arith, m, below, k0, key, same)) xs h

pub above-drop : (n : ℕ) (others : List Entry) (e : Entry) → IsTrue (is_after others e) → IsTrue (is_after (drop n others) e)
above-drop n others e h = by_last (is_last (drop n others))
  where
    by_last : (drop n others ≡ []) ⊎ ((w : Entry) × (last_or None (drop n others) ≡ Some w)) → IsTrue (is_after (drop n others) e)
    by_last (inl q) = subst (λ (rest : List Entry). IsTrue (is_after rest e)) (sym q) refl
    by_last (inr (w, q)) = subst (λ (o : Option Entry). IsTrue (unwrap_or (option_map (λ (l : Entry). nat_lt l.kept.key e.kept.key) o) true)) (last-drop n others w q ∙ sym q) h

-- .. as it has where their keys ascend
pub ascending-tops : (es : List Entry) → ((i j : ℕ) (a b : Entry) → i < j → slice_get es i ≡ Some a → slice_get es j ≡ Some b → a.kept.key < b.kept.key) → Tops es
ascending-tops [] ascends = tt
ascending-tops (x ∷ []) ascends = (omega arith, tt)
ascending-tops (x ∷ y ∷ es) ascends =
    let rest = ascending-tops (y ∷ es) (λ i j a b less p q. ascends (suc i) (suc j) a b (omega (arith, less)) p q) in
    let less = ascends 0 1 x y (omega arith) refl refl in
    let most = rest.0 in
    (omega (arith, less, most), rest)

tops-part : (n : ℕ) (xs ys : List Entry) → Tops xs → Tops ys → AreAbove xs ys → Tops (drop n xs ++ ys)
tops-part n xs ys h k above =
    tops-above (drop n xs) ys (tops-drop n xs h) k (each-weaker (λ e. IsTrue (is_after xs e)) (λ e. IsTrue (is_after (drop n xs) e)) (λ e t. above-drop n xs e t) ys above)

ready-tops : (c : Core) → IsFine c → IsReady c → Tops (rest_of c)
ready-tops c fine h = subst Tops h.same fine.ascending

-- the pending records become a page: all of them, and those before them that aren't given up, are found
pub record IsMarked (c d : Core) : Type 0 where
  pub gone : ℕ
  pub few : gone ≤ length c.counts
  pub counts : d.counts ≡ drop gone (c.counts ++ c.pending ∷ [])
  pub next : d.next ≡ c.next + 1
  pub torn : d.torn ≡ false
  pub entries : d.entries ≡ drop (sum (take gone c.counts)) c.entries
  pub pending : d.pending ≡ 0
  pub logged : d.logged ≡ c.logged
  pub log : d.log ≡ c.log

-- less than all in data pages go
pub marked-few : (c d : Core) → IsFine c → (h : IsMarked c d) → sum (take h.gone c.counts) ≤ length (front_of c)
marked-few c d fine h =
    let most : sum (take h.gone c.counts) ≤ sum c.counts = sum_by-take-le (λ (n : ℕ). n) c.counts h.gone in
    let len : length (front_of c) ≡ length c.entries - c.pending = length-take (length c.entries - c.pending) c.entries ∙ (omega arith) in
    omega (arith, most, len, fine.counted)

marked-front : (c d : Core) → IsFine c → (h : IsMarked c d) → front_of d ≡ drop (sum (take h.gone c.counts)) (front_of c) ++ rest_of c
marked-front c d fine h =
    let g = sum (take h.gone c.counts) in
    front-all d h.pending ∙ (h.entries ∙ (ap (drop g) (sym (splits c)) ∙ drop-append-le g (front_of c) (rest_of c) (marked-few c d fine h)))

pub marked-owed : (c d : Core) → IsFine c → IsReady c → IsMarked c d → owed_of d ≡ []
marked-owed c d fine ready h =
    let g = sum (take h.gone c.counts) in
    let front = marked-front c d fine h in
    let some : 0 < length (rest_of c) = let n = rest-length c fine in omega (arith, n, ready.some) in
    let key : (e : Entry) → e.kept.key ≤ last_key c.logged → is_after (drop g (front_of c) ++ rest_of c) e ≡ false =
    λ e k. below-last (drop g (front_of c)) (rest_of c) e some (subst (λ (es : List Entry). e.kept.key ≤ last_key es) ready.same k) in
    ap (λ (es : List Entry). filter (λ e. is_after (front_of d) e) es) h.logged
    ∙ (ap (λ (fs : List Entry). filter (λ e. is_after fs e) c.logged) front
    ∙ filter_none (λ e. is_after (drop g (front_of c) ++ rest_of c) e) c.logged (each-weaker (λ e. e.kept.key ≤ last_key c.logged) (λ e. is_after (drop g (front_of c) ++ rest_of c) e ≡ false) key c.logged fine.ascending))

pub marked-fine : (c d : Core) → IsFine c → IsReady c → IsMarked c d → IsFine d
marked-fine c d fine ready h =
    let owed = marked-owed c d fine ready h in
    record {
      counted =
          let len : length d.entries ≡ length c.entries - sum (take h.gone c.counts) = ap (λ (es : List Entry). length es) h.entries ∙ length-drop (sum (take h.gone c.counts)) c.entries in
          let all : sum d.counts ≡ sum (drop h.gone (c.counts ++ c.pending ∷ [])) = ap sum h.counts in
          omega (arith, len, all, seals-sum c.pending h.gone c.counts h.few, fine.counted, h.pending);
      numbered =
          let len : length d.counts ≡ length c.counts + 1 - h.gone = ap (λ (xs : List ℕ). length xs) h.counts ∙ (length-drop h.gone (c.counts ++ c.pending ∷ []) ∙ ap (λ m. m - h.gone) (length-append c.counts (c.pending ∷ []))) in
          omega (arith, len, h.next, fine.numbered);
      has_log = subst (λ (o : Option (List ℕ × Bool)). IsThere o) (sym h.log) fine.has_log;
      greatest = subst Tops (sym (marked-front c d fine h)) (tops-part (sum (take h.gone c.counts)) (front_of c) (rest_of c) fine.greatest (ready-tops c fine ready) ready.above);
      ascending = subst Tops (sym h.logged) fine.ascending;
      whole = inr (owed, h.torn);
      safe = λ some. absurd (some owed);
    }

pub marked-rests : (c d : Core) (g : ℕ) → IsFine c → IsReady c → (h : IsMarked c d) → g ≡ sum (take h.gone c.counts) → RestsAs (past_in c g) (lost d)
marked-rests c d g fine ready h e = record {
  fine = fine-lost d (marked-fine c d fine ready h);
  none = refl;
  found = inl (front-all d h.pending ∙ (h.entries ∙ (ap (λ n. drop n c.entries) (sym e) ∙ ap (drop g) (sym (held-pending c g ready.some)))), owed-lost d ∙ marked-owed c d fine ready h);
}

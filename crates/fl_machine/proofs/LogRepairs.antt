-- A table with a log: what a mount makes void, and what is found then.
use Rattle.std.proofs.Common.{◌≡◌, ℕ, ◌+◌, ◌-◌, ◌<◌, ◌≤◌, Bool, true, false, cond, nat_lt, Option, Some, IfSome, List, [], ◌∷◌, ◌++◌, length, take, drop, filter, refl, sym, ◌∙◌, ap, subst, arith, ◌⊎◌, inl, inr, length-append, length-drop, IsTrue}
use Rattle.std.specs.List.{AllByRecursion, list_any, sum}
use Rattle.std.proofs.lemmas.List.Sums.{sum_by-take-le}
use Rattle.std.proofs.lemmas.List.{drop-append-le, drop-drop, append_assoc}
use Rattle.std.proofs.lemmas.Bool.{true≢false, lt-ltb}
use Rattle.std.proofs.Math.Bool.{or-true}
use Rattle.fl_model.specs.Table.{Entry, is_after}
use Rattle.fl_model.proofs.Lists.{each-weaker, length-filter-le}
use Rattle.fl_machine.specs.Found.{LoggedPast}
use Rattle.fl_machine.proofs.Logs.{Core, front_of, owed_of, IsSafePage, IsThere, Tops, IsFine, IsOwedFound, RestsAs, filter_all, front-all}
use Rattle.fl_machine.proofs.LogSeals.{seals-sum, tops-drop, above-drop}

-- what is found stays so where the same stands, or less at its beginning
pub found-drop : (past : LoggedPast) (c d : Core) (g : ℕ) → g ≤ length c.entries → d.entries ≡ drop g c.entries → owed_of d ≡ owed_of c → IsOwedFound past c →
    IsOwedFound (record past { given_up = past.given_up + g }) d
found-drop past c d g few is owes h = by_case h
  where
    cut : (es : List Entry) → c.entries ≡ drop past.given_up es → d.entries ≡ drop (past.given_up + g) es
    cut es e = is ∙ (ap (drop g) e ∙ drop-drop g past.given_up es)

    cut_more : (es : List Entry) → c.entries ++ owed_of c ≡ drop past.given_up es → d.entries ++ owed_of d ≡ drop (past.given_up + g) es
    cut_more es e =
        ap (λ (os : List Entry). d.entries ++ os) owes ∙ (ap (λ xs. xs ++ owed_of c) is ∙ (sym (drop-append-le g c.entries (owed_of c) few) ∙ (ap (drop g) e ∙ drop-drop g past.given_up es)))

    by_case : IsOwedFound past c → IsOwedFound (record past { given_up = past.given_up + g }) d
    by_case (inl k) = inl (cut past.held k.0, owes ∙ k.1)
    by_case (inr (inl (k, inl e))) = inr (inl (cut (take (length past.held - past.pending) past.held) k, inl (cut_more past.held e)))
    by_case (inr (inl (k, inr e))) = inr (inl (cut (take (length past.held - past.pending) past.held) k, inr (e.0, cut_more (take (length past.held - 1) past.held) e.1)))
    by_case (inr (inr k)) = inr (inr (k.0, cut (take (length past.held - 1) past.held) k.1, owes ∙ k.2))

pub found-same : (past : LoggedPast) (c d : Core) → d.entries ≡ c.entries → owed_of d ≡ owed_of c → IsOwedFound past c → IsOwedFound past d
found-same past c d is owes h = by_case h
  where
    more : d.entries ++ owed_of d ≡ c.entries ++ owed_of c
    more = ap (λ (os : List Entry). d.entries ++ os) owes ∙ ap (λ xs. xs ++ owed_of c) is

    by_case : IsOwedFound past c → IsOwedFound past d
    by_case (inl k) = inl (is ∙ k.0, owes ∙ k.1)
    by_case (inr (inl (k, inl e))) = inr (inl (is ∙ k, inl (more ∙ e)))
    by_case (inr (inl (k, inr e))) = inr (inl (is ∙ k, inr (e.0, more ∙ e.1)))
    by_case (inr (inr k)) = inr (inr (k.0, is ∙ k.1, owes ∙ k.2))

-- the data ring gets its numbers back
pub numbers-fine : (c : Core) (counts : List ℕ) (next : ℕ) (torn : Bool) → counts ≡ c.counts → torn ≡ c.torn → length counts ≤ next → IsFine c → IsFine (record c { counts = counts; next = next; torn = torn })
numbers-fine c counts next torn same t n fine = record {
  counted = ap (λ (xs : List ℕ). sum xs + c.pending) same ∙ fine.counted;
  numbered = n;
  has_log = fine.has_log;
  greatest = fine.greatest;
  ascending = fine.ascending;
  whole = elim fine.whole [ inl e ↦ inl e | inr e ↦ inr (e.0, t ∙ e.1) ];
  safe = fine.safe;
}

-- those that a test keeps whole pass it
pub filter_whole : {X : Type 0} (test : X → Bool) (xs : List X) → filter test xs ≡ xs → AllByRecursion (λ x. IsTrue (test x)) xs
filter_whole test [] h = tt
filter_whole {X} test (x ∷ xs) h = by_test (test x) refl h (λ k. filter_whole test xs k)
  where
    by_test : (b : Bool) → test x ≡ b → cond b (x ∷ filter test xs) (filter test xs) ≡ x ∷ xs → (filter test xs ≡ xs → AllByRecursion (λ x. IsTrue (test x)) xs) → IsTrue (test x) × AllByRecursion (λ x. IsTrue (test x)) xs
    by_test true e h go = (e, go (let tail : filter test xs ≡ xs = cc (h) in tail))
    by_test false e h go = let n : length (filter test xs) ≡ length (x ∷ xs) = ap (λ ys. length ys) h in let few = length-filter-le test xs in absurd (omega (arith, n, few))

-- a torn data page becomes void: entries go with the pages that are given up, and what is owed stays owed
pub record IsVoided (c d : Core) : Type 0 where
  pub gone : ℕ
  pub few : gone ≤ length c.counts
  pub counts : d.counts ≡ drop gone (c.counts ++ 0 ∷ [])
  pub next : d.next ≡ c.next + 1
  pub torn : d.torn ≡ false
  pub entries : d.entries ≡ drop (sum (take gone c.counts)) c.entries
  pub pending : d.pending ≡ c.pending
  pub logged : d.logged ≡ c.logged
  pub log : d.log ≡ c.log

-- all records of the log are owed
abbrev pub IsWhole : Core → Type 0
IsWhole c = owed_of c ≡ c.logged

pub torn-whole : (c : Core) → c.torn ≡ true → IsFine c → IsWhole c
torn-whole c t fine = by_case fine.whole
  where
    by_case : (owed_of c ≡ c.logged) ⊎ ((owed_of c ≡ []) × (c.torn ≡ false)) → IsWhole c
    by_case (inl e) = e
    by_case (inr e) = absurd (true≢false (sym t ∙ e.1))

voided-front : (c d : Core) → c.pending ≡ 0 → (h : IsVoided c d) → front_of d ≡ drop (sum (take h.gone c.counts)) (front_of c)
voided-front c d none h = front-all d (h.pending ∙ none) ∙ (h.entries ∙ ap (drop (sum (take h.gone c.counts))) (sym (front-all c none)))

pub voided-whole : (c d : Core) → c.pending ≡ 0 → IsWhole c → IsVoided c d → owed_of d ≡ c.logged
voided-whole c d none whole h =
    let front = voided-front c d none h in
    ap (λ (es : List Entry). filter (λ e. is_after (front_of d) e) es) h.logged
    ∙ (ap (λ (fs : List Entry). filter (λ e. is_after fs e) c.logged) front
    ∙ filter_all (λ e. is_after (drop (sum (take h.gone c.counts)) (front_of c)) e) c.logged
    (each-weaker (λ e. IsTrue (is_after (front_of c) e)) (λ e. IsTrue (is_after (drop (sum (take h.gone c.counts)) (front_of c)) e)) (λ e k. above-drop (sum (take h.gone c.counts)) (front_of c) e k) c.logged
    (filter_whole (λ e. is_after (front_of c) e) c.logged whole)))

pub voided-fine : (c d : Core) → c.pending ≡ 0 → IsWhole c → IsFine c → IsVoided c d → IsFine d
voided-fine c d none whole fine h =
    let owed = voided-whole c d none whole h in
    record {
      counted =
          let len : length d.entries ≡ length c.entries - sum (take h.gone c.counts) = ap (λ (es : List Entry). length es) h.entries ∙ length-drop (sum (take h.gone c.counts)) c.entries in
          let all : sum d.counts ≡ sum (drop h.gone (c.counts ++ 0 ∷ [])) = ap sum h.counts in
          omega (arith, len, all, seals-sum 0 h.gone c.counts h.few, fine.counted, h.pending, none);
      numbered =
          let len : length d.counts ≡ length c.counts + 1 - h.gone = ap (λ (xs : List ℕ). length xs) h.counts ∙ (length-drop h.gone (c.counts ++ 0 ∷ []) ∙ ap (λ m. m - h.gone) (length-append c.counts (0 ∷ []))) in
          omega (arith, len, h.next, fine.numbered);
      has_log = subst (λ (o : Option (List ℕ × Bool)). IsThere o) (sym h.log) fine.has_log;
      greatest = subst Tops (sym (voided-front c d none h)) (tops-drop (sum (take h.gone c.counts)) (front_of c) fine.greatest);
      ascending = subst Tops (sym h.logged) fine.ascending;
      whole = inl (owed ∙ sym h.logged);
      safe = λ some. subst (λ (o : Option (List ℕ × Bool)). IfSome o IsSafePage) (sym h.log) (fine.safe (λ e. some (owed ∙ (sym whole ∙ e))));
    }

pub voided-rests : (past : LoggedPast) (c d : Core) (g : ℕ) → IsWhole c → RestsAs past c → (h : IsVoided c d) → g ≡ sum (take h.gone c.counts) → RestsAs (record past { given_up = past.given_up + g }) d
voided-rests past c d g whole rests h e = record {
  fine = voided-fine c d rests.none whole rests.fine h;
  none = h.pending ∙ rests.none;
  found =
      found-drop past c d g
      (let most : sum (take h.gone c.counts) ≤ sum c.counts = sum_by-take-le (λ (n : ℕ). n) c.counts h.gone in let all = rests.fine.counted in omega (arith, e, most, all))
      (h.entries ∙ ap (λ n. drop n c.entries) (sym e)) (voided-whole c d rests.none whole h ∙ sym whole) rests.found;
}

-- a torn page of the log becomes void: the page with its records stays while they are owed
abbrev pub log_voided : List ℕ → ℕ → List Entry → Core → Core
log_voided counts gone logged c = record c { logged = logged; log = Some (drop gone (counts ++ 0 ∷ []), false) }

abbrev pub KeepsLogged : List ℕ → List Entry → List Entry → Type 0
KeepsLogged counts before after = ((list_any (nat_lt 0) counts ≡ true) × (after ≡ before)) ⊎ ((list_any (nat_lt 0) counts ≡ false) × (after ≡ []))

pub any-end : (xs : List ℕ) (count : ℕ) (ys : List ℕ) → 0 < count → list_any (nat_lt 0) (xs ++ count ∷ ys) ≡ true
any-end [] count ys h = rw (lt-ltb 0 count h) refl
any-end (x ∷ xs) count ys h = rw (any-end xs count ys h) (or-true (nat_lt 0 x))

pub log-voided-rests : (past : LoggedPast) (c : Core) (counts : List ℕ) (gone : ℕ) (logged : List Entry) → c.log ≡ Some (counts, true) → gone ≤ length counts → (gone ≡ 0) ⊎ (gone + 1 ≤ length counts) →
    KeepsLogged (drop gone (counts ++ 0 ∷ [])) c.logged logged → RestsAs past c → RestsAs past (log_voided counts gone logged c)
log-voided-rests past c counts gone logged is few fewer keeps rests = by_keeps keeps
  where
    d : Core
    d = log_voided counts gone logged c

    -- the log as it is safe
    safe_counts : (owed_of c ≡ [] → ⊥) → (others : List ℕ) × (count : ℕ) × (0 < count) × (counts ≡ others ++ count ∷ [])
    safe_counts some = by_safe (subst (λ (o : Option (List ℕ × Bool)). IfSome o IsSafePage) is (rests.fine.safe some))
      where
        by_safe : IsSafePage (counts, true) → (others : List ℕ) × (count : ℕ) × (0 < count) × (counts ≡ others ++ count ∷ [])
        by_safe (others, count, full, inl e) = (others, count, full, e)
        by_safe (others, count, full, inr e) = absurd (true≢false e.1)

    kept_counts : (others : List ℕ) (count : ℕ) → counts ≡ others ++ count ∷ [] → drop gone (counts ++ 0 ∷ []) ≡ drop gone others ++ count ∷ 0 ∷ []
    kept_counts others count e =
        let len : length counts ≡ length others + 1 = ap (λ (xs : List ℕ). length xs) e ∙ length-append others (count ∷ []) in
        let within : gone ≤ length others = elim fewer [ inl z ↦ omega (arith, z) | inr m ↦ omega (arith, m, len) ] in
        ap (drop gone) (ap (λ xs. xs ++ 0 ∷ []) e ∙ append_assoc others (count ∷ []) (0 ∷ [])) ∙ drop-append-le gone others (count ∷ 0 ∷ []) within

    by_keeps : KeepsLogged (drop gone (counts ++ 0 ∷ [])) c.logged logged → RestsAs past d
    by_keeps (inl k) =
        let owes : owed_of d ≡ owed_of c = ap (λ (es : List Entry). filter (λ e. is_after (front_of c) e) es) k.1 in
        record {
          fine = record {
            counted = rests.fine.counted;
            numbered = rests.fine.numbered;
            has_log = tt;
            greatest = rests.fine.greatest;
            ascending = subst Tops (sym k.1) rests.fine.ascending;
            whole = elim rests.fine.whole [ inl e ↦ inl (owes ∙ (e ∙ sym k.1)) | inr e ↦ inr (owes ∙ e.0, e.1) ];
            safe = λ some. let s = safe_counts (λ e. some (owes ∙ e)) in (drop gone s.0, s.1, s.2, inr (kept_counts s.0 s.1 s.3, refl));
          };
          none = rests.none;
          found = found-same past c d refl owes rests.found;
        }
    by_keeps (inr k) =
        let none_left : owed_of d ≡ [] = ap (λ (es : List Entry). filter (λ e. is_after (front_of c) e) es) k.1 in
        let paid : owed_of c ≡ [] = by_owed (owed_of c) refl in
        record {
          fine = record {
            counted = rests.fine.counted;
            numbered = rests.fine.numbered;
            has_log = tt;
            greatest = rests.fine.greatest;
            ascending = subst Tops (sym k.1) tt;
            whole = inl (none_left ∙ sym k.1);
            safe = λ some. absurd (some none_left);
          };
          none = rests.none;
          found = found-same past c d refl (none_left ∙ sym paid) rests.found;
        }
      where
        by_owed : (es : List Entry) → owed_of c ≡ es → owed_of c ≡ []
        by_owed [] q = q
        by_owed (e ∷ es) q = absurd (true≢false (sym (ap (list_any (nat_lt 0)) (kept_counts s.0 s.1 s.3) ∙ any-end (drop gone s.0) s.1 (0 ∷ []) s.2) ∙ k.0))
          where
            s : (others : List ℕ) × (count : ℕ) × (0 < count) × (counts ≡ others ++ count ∷ [])
            s = safe_counts (λ z. differs (sym q ∙ z))
              where
                differs : e ∷ es ≡ [] → ⊥
                differs z = cc

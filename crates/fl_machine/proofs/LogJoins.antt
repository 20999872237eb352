-- A table with a log: a record joins those that are pending.
use Rattle.std.proofs.Common.{◌≡◌, ℕ, ◌+◌, ◌<◌, ◌≤◌, true, false, nat_lt, Option, Some, None, List, [], ◌∷◌, ◌++◌, length, filter, refl, sym, ◌∙◌, ap, subst, arith, inl, inr, length-append, IsTrue}
use Rattle.std.specs.List.{AllByRecursion, last_or}
use Rattle.std.specs.Option.{is_some, option_map, unwrap_or}
use Rattle.std.proofs.lemmas.List.{append_assoc, nil_from_length}
use Rattle.std.proofs.lemmas.Bool.{ltb-true, ltb-false, false≢true, true≢false, lt-ltb}
use Rattle.fl_model.specs.Table.{Entry, is_after}
use Rattle.fl_model.specs.Log.{last_key}
use Rattle.fl_model.proofs.Lists.{each-push, each-weaker, last_or-back, last_or-is_some}
use Rattle.fl_machine.proofs.Logs.{Core, front_of, rest_of, owed_of, AreAbove, Tops, IsFine, IsIdle, EndsWhole, IsReady, IsJoining, filter_empty, splits, front-is, rest-is, front-all, rest-length}

-- the last of records that are above others, and of which none is greater, is above them
above-last : (others es : List Entry) (n : ℕ) → AreAbove others es → 0 < length es → last_key es < n → (w : Entry) → last_or None others ≡ Some w → w.kept.key < n
above-last others [] n a some less w e = absurd (omega (arith, some))
above-last others (x ∷ xs) n a some less w e = by_last x xs a.0 a.1 less
  where
    first_above : (y : Entry) → IsTrue (is_after others y) → w.kept.key < y.kept.key
    first_above y t = ltb-true w.kept.key y.kept.key (subst (λ (o : Option Entry). IsTrue (unwrap_or (option_map (λ (l : Entry). nat_lt l.kept.key y.kept.key) o) true)) e t)

    by_last : (y : Entry) (zs : List Entry) → IsTrue (is_after others y) → AllByRecursion (λ y. IsTrue (is_after others y)) zs →
        unwrap_or (option_map (λ (y : Entry). y.kept.key) (last_or (Some y) zs)) 0 < n → w.kept.key < n
    by_last y [] t k l = let more = first_above y t in omega (arith, more, l)
    by_last y (z ∷ zs) t k l = by_last z zs k.0 k.1 l

pub after-above : (others : List Entry) (e : Entry) → ((w : Entry) → last_or None others ≡ Some w → w.kept.key < e.kept.key) → IsTrue (is_after others e)
after-above others e h = by_last (last_or None others) refl
  where
    by_last : (o : Option Entry) → last_or None others ≡ o → IsTrue (unwrap_or (option_map (λ (l : Entry). nat_lt l.kept.key e.kept.key) o) true)
    by_last None q = refl
    by_last (Some w) q = lt-ltb w.kept.key e.kept.key (h w q)

-- the records of the log are in data pages: none is above the last entry, whose key is below the new one
paid-below : (c : Core) (new : Entry) → owed_of c ≡ [] → ((w : Entry) → last_or None (front_of c) ≡ Some w → w.kept.key < new.kept.key) → AllByRecursion (λ e. e.kept.key < new.kept.key) c.logged
paid-below c new paid h =
    each-weaker (λ e. is_after (front_of c) e ≡ false) (λ e. e.kept.key < new.kept.key) below c.logged (filter_empty (λ e. is_after (front_of c) e) c.logged paid)
  where
    below : (e : Entry) → is_after (front_of c) e ≡ false → e.kept.key < new.kept.key
    below e k = by_last (last_or None (front_of c)) refl k
      where
        by_last : (o : Option Entry) → last_or None (front_of c) ≡ o → unwrap_or (option_map (λ (l : Entry). nat_lt l.kept.key e.kept.key) o) true ≡ false → e.kept.key < new.kept.key
        by_last None q k = absurd (true≢false k)
        by_last (Some w) q k = let more = ltb-false w.kept.key e.kept.key k in let less = h w q in omega (arith, more, less)

-- a record with a greater key joins
abbrev pub joins : Entry → Core → Core
joins new c = record c { entries = c.entries ++ new ∷ []; pending = c.pending + 1 }

joins-front : (new : Entry) (c : Core) → IsFine c → (front_of (joins new c) ≡ front_of c) × (rest_of (joins new c) ≡ rest_of c ++ new ∷ [])
joins-front new c fine =
    let parts : c.entries ++ new ∷ [] ≡ front_of c ++ (rest_of c ++ new ∷ []) = ap (λ es. es ++ new ∷ []) (sym (splits c)) ∙ append_assoc (front_of c) (rest_of c) (new ∷ []) in
    let len : length (rest_of c ++ new ∷ []) ≡ c.pending + 1 = length-append (rest_of c) (new ∷ []) ∙ ap (λ n. n + 1) (rest-length c fine) in
    (front-is (joins new c) (front_of c) (rest_of c ++ new ∷ []) parts len, rest-is (joins new c) (front_of c) (rest_of c ++ new ∷ []) parts len)

joins-owed : (new : Entry) (c : Core) → IsFine c → owed_of (joins new c) ≡ owed_of c
joins-owed new c fine = ap (λ (es : List Entry). filter (λ e. is_after es e) c.logged) (joins-front new c fine).0

pub joins-fine : (new : Entry) (c : Core) → IsFine c → IsFine (joins new c)
joins-fine new c fine = record {
  counted = omega (arith, fine.counted, length-append c.entries (new ∷ []));
  numbered = fine.numbered;
  has_log = fine.has_log;
  greatest = subst Tops (sym (joins-front new c fine).0) fine.greatest;
  ascending = fine.ascending;
  whole = elim fine.whole [ inl e ↦ inl (joins-owed new c fine ∙ e) | inr e ↦ inr (joins-owed new c fine ∙ e.0, e.1) ];
  safe = λ some. fine.safe (λ e. some (joins-owed new c fine ∙ e));
}

-- it joins pending ones that the log has, or none, where the log has no other record that is owed
pub joins-ready : (new : Entry) (c : Core) → IsFine c → IsReady c → EndsWhole c → ((w : Entry) → last_or None c.entries ≡ Some w → w.kept.key < new.kept.key) → IsJoining (joins new c)
joins-ready new c fine h ends greater = record {
  front = rest_of c;
  new = new;
  is = both.1;
  above = subst (λ (fs : List Entry). AreAbove fs (rest_of c ++ new ∷ [])) (sym both.0) (each-push (λ e. IsTrue (is_after (front_of c) e)) (rest_of c) new h.above (after-above (front_of c) new (above-last (front_of c) (rest_of c) new.kept.key h.above some last_less)));
  least = subst (λ (es : List Entry). AllByRecursion (λ e. e.kept.key < new.kept.key) es) h.same behind;
  behind = behind;
  logged = inl (h.same, (ends.0, ends.1, false, ends.2, ends.3));
}
  where
    both : (front_of (joins new c) ≡ front_of c) × (rest_of (joins new c) ≡ rest_of c ++ new ∷ [])
    both = joins-front new c fine

    some : 0 < length (rest_of c)
    some = let n = rest-length c fine in omega (arith, n, h.some)

    last_same : last_or None c.entries ≡ last_or None (rest_of c)
    last_same = ap (last_or None) (sym (splits c)) ∙ last_or-back None (front_of c) (rest_of c) some

    key_less : (o : Option Entry) → ((w : Entry) → o ≡ Some w → w.kept.key < new.kept.key) → IsTrue (is_some o) → unwrap_or (option_map (λ (y : Entry). y.kept.key) o) 0 < new.kept.key
    key_less None k t = absurd (false≢true t)
    key_less (Some w) k t = k w refl

    is_there : (xs : List Entry) → 0 < length xs → IsTrue (is_some (last_or None xs))
    is_there [] n = absurd (omega (arith, n))
    is_there (x ∷ xs) n = last_or-is_some (Some x) xs refl

    last_less : last_key (rest_of c) < new.kept.key
    last_less = key_less (last_or None (rest_of c)) (λ w e. greater w (last_same ∙ e)) (is_there (rest_of c) some)

    behind : AllByRecursion (λ e. e.kept.key < new.kept.key) c.logged
    behind =
        let less : last_key c.logged < new.kept.key = subst (λ (es : List Entry). last_key es < new.kept.key) (sym h.same) last_less in
        each-weaker (λ e. e.kept.key ≤ last_key c.logged) (λ e. e.kept.key < new.kept.key) (λ e k. omega (arith, k, less)) c.logged fine.ascending

pub joins-idle : (new : Entry) (c : Core) → IsFine c → IsIdle c → owed_of c ≡ [] → ((w : Entry) → last_or None c.entries ≡ Some w → w.kept.key < new.kept.key) → IsJoining (joins new c)
joins-idle new c fine h paid greater = record {
  front = [];
  new = new;
  is = both.1 ∙ ap (λ (es : List Entry). es ++ new ∷ []) empty;
  above = (after-above (front_of (joins new c)) new (λ w e. greater w (ap (last_or None) (sym (both.0 ∙ front-all c h.none)) ∙ e)), tt);
  least = tt;
  behind = paid-below c new paid (λ w e. greater w (ap (last_or None) (sym (front-all c h.none)) ∙ e));
  logged = inr (refl, joins-owed new c fine ∙ paid, h.calm);
}
  where
    both : (front_of (joins new c) ≡ front_of c) × (rest_of (joins new c) ≡ rest_of c ++ new ∷ [])
    both = joins-front new c fine

    empty : rest_of c ≡ []
    empty = nil_from_length (rest_of c) (rest-length c fine ∙ h.none)

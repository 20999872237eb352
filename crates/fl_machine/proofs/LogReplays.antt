-- A table with a log: the records of its newest page that no data page has become a data page.
use Rattle.std.proofs.Common.{◌≡◌, ℕ, ◌+◌, ◌-◌, ◌<◌, Bool, true, false, List, [], ◌++◌, length, take, drop, filter, refl, sym, ◌∙◌, ap, subst, arith, ◌⊎◌, inl, inr, length-append}
use Rattle.std.specs.List.{sum}
use Rattle.std.proofs.lemmas.List.{drop-drop}
use Rattle.fl_model.specs.Table.{Entry, is_after}
use Rattle.fl_machine.specs.Found.{LoggedPast}
use Rattle.fl_machine.proofs.Logs.{Core, front_of, rest_of, owed_of, AreAbove, Tops, IsFine, IsReady, lost, IsOwedFound, RestsAs, front-is, rest-is, front-all, front-lost, owed-lost}
use Rattle.fl_machine.proofs.LogSeals.{IsMarked, marked-owed, marked-fine}
use Rattle.fl_machine.proofs.LogRepairs.{found-same, filter_whole, IsWhole}

-- what is owed becomes pending
abbrev pub replayed : Core → Core
replayed c = record c { entries = c.entries ++ owed_of c; pending = length (owed_of c) }

pub replayed-front : (c : Core) → (front_of (replayed c) ≡ c.entries) × (rest_of (replayed c) ≡ owed_of c)
replayed-front c = (front-is (replayed c) c.entries (owed_of c) refl refl, rest-is (replayed c) c.entries (owed_of c) refl refl)

pub replayed-owed : (c : Core) → c.pending ≡ 0 → owed_of (replayed c) ≡ owed_of c
replayed-owed c none = ap (λ (fs : List Entry). filter (λ e. is_after fs e) c.logged) ((replayed-front c).0 ∙ sym (front-all c none))

pub replayed-fine : (c : Core) → c.pending ≡ 0 → IsFine c → IsFine (replayed c)
replayed-fine c none fine = record {
  counted = omega (arith, fine.counted, none, length-append c.entries (owed_of c));
  numbered = fine.numbered;
  has_log = fine.has_log;
  greatest = subst Tops (front-all c none ∙ sym (replayed-front c).0) fine.greatest;
  ascending = fine.ascending;
  whole = elim fine.whole [ inl e ↦ inl (replayed-owed c none ∙ e) | inr e ↦ inr (replayed-owed c none ∙ e.0, e.1) ];
  safe = λ some. fine.safe (λ e. some (replayed-owed c none ∙ e));
}

pub whole-owed : (c : Core) → IsFine c → 0 < length (owed_of c) → IsWhole c
whole-owed c fine some = by_case fine.whole
  where
    by_case : (owed_of c ≡ c.logged) ⊎ ((owed_of c ≡ []) × (c.torn ≡ false)) → IsWhole c
    by_case (inl e) = e
    by_case (inr e) = let n : length (owed_of c) ≡ 0 = ap (λ (es : List Entry). length es) e.0 in absurd (omega (arith, n, some))

pub replayed-ready : (c : Core) → c.pending ≡ 0 → IsFine c → 0 < length (owed_of c) → IsReady (replayed c)
replayed-ready c none fine some =
    let whole : owed_of c ≡ c.logged = whole-owed c fine some in
    let both = replayed-front c in
    record {
      some = some;
      same = sym whole ∙ sym both.1;
      above = subst (λ (fs : List Entry). AreAbove fs (rest_of (replayed c))) (sym (both.0 ∙ sym (front-all c none)))
          (subst (λ (es : List Entry). AreAbove (front_of c) es) (sym (both.1 ∙ whole)) (filter_whole (λ e. is_after (front_of c) e) c.logged whole));
    }

-- before its page is marked, nothing has changed for the next mount
pub replayed-rests : (past : LoggedPast) (c : Core) (torn : Bool) → RestsAs past c → (torn ≡ true → IsWhole c) → (torn ≡ false → c.torn ≡ false) → RestsAs past (lost (record (replayed c) { torn = torn }))
replayed-rests past c torn rests whole calm =
    let d : Core = lost (record (replayed c) { torn = torn }) in
    let both = replayed-front c in
    let owes : owed_of d ≡ owed_of c = owed-lost (record (replayed c) { torn = torn }) ∙ replayed-owed c rests.none in
    record {
      fine = record {
        counted = let n : length (front_of (replayed c)) ≡ length c.entries = ap (λ (es : List Entry). length es) both.0 in let all = rests.fine.counted in let z = rests.none in omega (arith, n, all, z);
        numbered = rests.fine.numbered;
        has_log = rests.fine.has_log;
        greatest = subst Tops (sym (front-lost (record (replayed c) { torn = torn }) ∙ (both.0 ∙ sym (front-all c rests.none)))) rests.fine.greatest;
        ascending = rests.fine.ascending;
        whole = by_torn torn refl rests.fine.whole owes;
        safe = λ some. rests.fine.safe (λ e. some (owes ∙ e));
      };
      none = refl;
      found = found-same past c d both.0 owes rests.found;
    }
  where
    by_torn : (t : Bool) → torn ≡ t → (owed_of c ≡ c.logged) ⊎ ((owed_of c ≡ []) × (c.torn ≡ false)) → owed_of (lost (record (replayed c) { torn = torn })) ≡ owed_of c →
        let d : Core = lost (record (replayed c) { torn = torn }) in (owed_of d ≡ c.logged) ⊎ ((owed_of d ≡ []) × (torn ≡ false))
    by_torn true e w owes = inl (owes ∙ whole e)
    by_torn false e (inl k) owes = inl (owes ∙ k)
    by_torn false e (inr k) owes = inr (owes ∙ k.0, e)

-- .. and when it is, all that was owed is in data pages
pub replayed-marked : (past : LoggedPast) (c d : Core) (g : ℕ) → RestsAs past c → 0 < length (owed_of c) → (h : IsMarked (replayed c) d) → g ≡ sum (take h.gone c.counts) →
    RestsAs (record past { given_up = past.given_up + g }) d × (owed_of d ≡ [])
replayed-marked past c d g rests some h e =
    let fine = replayed-fine c rests.none rests.fine in
    let ready = replayed-ready c rests.none rests.fine some in
    let paid = marked-owed (replayed c) d fine ready h in
    (record { fine = marked-fine (replayed c) d fine ready h; none = h.pending; found = by_case rests.found paid }, paid)
  where
    cut : (es : List Entry) → c.entries ++ owed_of c ≡ drop past.given_up es → d.entries ≡ drop (past.given_up + g) es
    cut es k = h.entries ∙ (ap (λ n. drop n (c.entries ++ owed_of c)) (sym e) ∙ (ap (drop g) k ∙ drop-drop g past.given_up es))

    nothing : owed_of c ≡ [] → ⊥
    nothing z = let n : length (owed_of c) ≡ 0 = ap (λ (es : List Entry). length es) z in omega (arith, n, some)

    by_case : IsOwedFound past c → owed_of d ≡ [] → IsOwedFound (record past { given_up = past.given_up + g }) d
    by_case (inl k) paid = absurd (nothing k.1)
    by_case (inr (inl (k, inl q))) paid = inl (cut past.held q, paid)
    by_case (inr (inl (k, inr q))) paid = inr (inr (q.0, cut (take (length past.held - 1) past.held) q.1, paid))
    by_case (inr (inr k)) paid = absurd (nothing k.2)

-- A table with a log: what the body and the mark of a page of its log leave of it.
use Rattle.std.proofs.Common.{◌≡◌, ℕ, ◌<◌, ◌≤◌, Bool, true, false, Option, Some, None, IfSome, List, [], ◌∷◌, ◌++◌, refl, sym, ◌∙◌, ap, subst, arith, ◌⊎◌, inl, inr}
use Rattle.std.specs.List.{AllByRecursion}
use Rattle.std.specs.Option.{option_map, unwrap_or}
use Rattle.fl_model.specs.Table.{Entry}
use Rattle.fl_model.specs.Log.{last_key}
use Rattle.fl_model.proofs.Lists.{last_or-push, each-append, each-weaker}
use Rattle.fl_machine.proofs.Logs.{Core, front_of, rest_of, owed_of, AreAbove, IsSafePage, IsThere, Tops, IsFine, EndsFull, IsReady, IsJoining, past_in, lost, RestsAs, splits, rest-length, owed-lost, fine-lost}
use Rattle.fl_machine.proofs.LogStops.{ready-owed, held-pending, owing-pending, owed-found, joining-some}

-- the body of its page
pub begun-fine : (c : Core) (log : Option (List ℕ × Bool)) → log ≡ option_map (λ (l : List ℕ × Bool). (l.0, true)) c.log → IsFine c → IsJoining c → IsFine (record c { log = log })
begun-fine c log e fine h = record {
  counted = fine.counted;
  numbered = fine.numbered;
  has_log = subst (λ (o : Option (List ℕ × Bool)). IsThere o) (sym e) (kept c.log fine.has_log);
  greatest = fine.greatest;
  ascending = fine.ascending;
  whole = fine.whole;
  safe = λ some. subst (λ (o : Option (List ℕ × Bool)). IfSome o IsSafePage) (sym e) (by_case h.logged some);
}
  where
    kept : (o : Option (List ℕ × Bool)) → IsThere o → IsThere (option_map (λ (l : List ℕ × Bool). (l.0, true)) o)
    kept None t = t
    kept (Some l) t = tt

    by_case : ((c.logged ≡ h.front) × EndsFull c) ⊎ ((h.front ≡ []) × (owed_of c ≡ []) × (c.torn ≡ false)) → (owed_of c ≡ [] → ⊥) → IfSome (option_map (λ (l : List ℕ × Bool). (l.0, true)) c.log) IsSafePage
    by_case (inl (same, (others, count, torn, full, is))) some =
        subst (λ (o : Option (List ℕ × Bool)). IfSome (option_map (λ (l : List ℕ × Bool). (l.0, true)) o) IsSafePage) (sym is) (others, count, full, inl refl)
    by_case (inr k) some = absurd (some k.1)

pub begun-joining : (c : Core) (log : Option (List ℕ × Bool)) → log ≡ option_map (λ (l : List ℕ × Bool). (l.0, true)) c.log → IsJoining c → IsJoining (record c { log = log })
begun-joining c log e h = record {
  front = h.front;
  new = h.new;
  is = h.is;
  above = h.above;
  least = h.least;
  behind = h.behind;
  logged = elim h.logged [
    | inl k ↦ inl (k.0, (k.1.0, k.1.1, true, k.1.3, e ∙ ap (option_map (λ (l : List ℕ × Bool). (l.0, true))) k.1.4))
    | inr k ↦ inr k
  ];
}

-- its mark: the log has all that is pending
pub logged-ready : (c : Core) (logged : List Entry) (log : Option (List ℕ × Bool)) (others : List ℕ) → logged ≡ rest_of c → log ≡ Some (others ++ c.pending ∷ [], false) →
    IsFine c → IsJoining c → IsReady (record c { logged = logged; log = log })
logged-ready c logged log others same is fine h = record {
  some = joining-some c fine h;
  same = same;
  above = subst (AreAbove (front_of c)) (sym h.is) h.above;
}

ready-whole : (c : Core) → IsReady c → owed_of c ≡ c.logged
ready-whole c h = ready-owed c h ∙ sym h.same

pub logged-fine : (c : Core) (logged : List Entry) (log : Option (List ℕ × Bool)) (others : List ℕ) → logged ≡ rest_of c → log ≡ Some (others ++ c.pending ∷ [], false) →
    IsFine c → IsJoining c → IsFine (record c { logged = logged; log = log })
logged-fine c logged log others same is fine h = record {
  counted = fine.counted;
  numbered = fine.numbered;
  has_log = subst (λ (o : Option (List ℕ × Bool)). IsThere o) (sym is) tt;
  greatest = fine.greatest;
  ascending = subst Tops (sym (same ∙ h.is)) keys;
  whole = inl (ready-whole (record c { logged = logged; log = log }) (logged-ready c logged log others same is fine h));
  safe = λ some. subst (λ (o : Option (List ℕ × Bool)). IfSome o IsSafePage) (sym is) (others, c.pending, joining-some c fine h, inl refl);
}
  where
    last : last_key (h.front ++ h.new ∷ []) ≡ h.new.kept.key
    last = ap (λ (o : Option Entry). unwrap_or (option_map (λ (e : Entry). e.kept.key) o) 0) (last_or-push None h.front h.new)

    keys : AllByRecursion (λ e. e.kept.key ≤ last_key (h.front ++ h.new ∷ [])) (h.front ++ h.new ∷ [])
    keys =
        each-append (λ e. e.kept.key ≤ last_key (h.front ++ h.new ∷ [])) h.front (h.new ∷ [])
        (each-weaker (λ e. e.kept.key < h.new.kept.key) (λ e. e.kept.key ≤ last_key (h.front ++ h.new ∷ [])) (λ e less. omega (arith, less, last)) h.front h.least)
        (omega (arith, last), tt)

-- where it was done, but the put stopped then
pub logged-rests : (c : Core) (logged : List Entry) (log : Option (List ℕ × Bool)) (others : List ℕ) (g : ℕ) → g ≡ 0 → logged ≡ rest_of c → log ≡ Some (others ++ c.pending ∷ [], false) →
    IsFine c → IsJoining c → RestsAs (past_in c g) (lost (record c { logged = logged; log = log }))
logged-rests c logged log others g gone same is fine h =
    let d : Core = record c { logged = logged; log = log } in
    let ready = logged-ready c logged log others same is fine h in
    let some = joining-some c fine h in
    record {
      fine = fine-lost d (logged-fine c logged log others same is fine h);
      none = refl;
      found =
          owed-found (past_in c g) (lost d) (front_of c) (rest_of c) gone (held-pending c g some ∙ sym (splits c)) (owing-pending c g some ∙ sym (rest-length c fine)) refl
          (owed-lost d ∙ ready-owed d ready);
    }

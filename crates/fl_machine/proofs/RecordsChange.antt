-- What a session makes of the records of a table: some of the oldest go, just those of the pages that go, and new ones come with
-- greater keys. And which of them are sure.
use Rattle.std.proofs.Common.{◌≡◌, ℕ, ◌+◌, ◌-◌, ◌<◌, ◌≤◌, Bool, true, false, cond, not, ◌&&◌, ◌==◌, nat_lt, Option, Some, None, List, [], ◌∷◌, ◌++◌, length, length-append, take, drop, refl, sym, ◌∙◌, ap, subst, arith, ◌⊎◌, inl, inr, length-drop, IsTrue, eq-eqb}
use Rattle.std.specs.List.{AllByRecursion, last_or, sum}
use Rattle.std.specs.Option.{option_map, unwrap_or}
use Rattle.std.proofs.lemmas.Bool.{cases_lt, ltb-true, lt-ltb}
use Rattle.std.proofs.lemmas.List.{append-nil, take-append-le, drop-append-le, drop-drop, drop_all, append_assoc}
use Rattle.std.proofs.lemmas.List.Sums.{sum_by-take-le}
use Rattle.std.proofs.Math.Seq.{drop-append-add}
use Rattle.std.proofs.lemmas.Option.{none-some}
use Rattle.std.proofs.Math.Bool.{and-false}
use Rattle.fl_model.specs.Table.{Entry, is_after}
use Rattle.fl_model.specs.Log.{last_key}
use Rattle.fl_model.proofs.Lists.{each-push, drop_none, take_none, sum_take_more, each-drop, last_or-append}
use Rattle.fl_machine.specs.Keeping.{sure}
use Rattle.fl_machine.proofs.Logs.{Core, front_of, rest_of, owed_of, AreAbove, IsFine, IsReady, IsJoining, past_in, lost, front-all, owed-lost, Tops, splits, rest-length}
use Rattle.fl_machine.proofs.LogStops.{ready-owed, held-pending, owing-pending, unlogged-joining, joining-some, take_seam}
use Rattle.fl_machine.proofs.LogSeals.{tops-above, last-drop, is_last, last-key}
use Rattle.fl_machine.proofs.LogRepairs.{filter_whole}

-- some are left of the oldest, and new ones come above the last
pub record GoesOn (xs ys : List Entry) : Type 0 where
  pub gone : ℕ
  pub new : List Entry
  pub is : ys ≡ drop gone xs ++ new
  pub above : AreAbove xs new

-- .. and never do all go
pub record Adds (xs ys : List Entry) : Type 0 where
  pub goes_on : GoesOn xs ys
  pub lasts : ys ≡ [] → xs ≡ []

pub adds-none : (xs : List Entry) → Adds xs xs
adds-none xs = record { goes_on = record { gone = 0; new = []; is = sym (ap (λ (es : List Entry). es ++ []) (drop_none xs) ∙ append-nil xs); above = tt }; lasts = λ e. e }

-- all records are added to none
pub adds-all : (ys : List Entry) → Adds [] ys
adds-all ys = record { goes_on = record { gone = 0; new = ys; is = refl; above = above ys }; lasts = λ e. refl }
  where
    above : (es : List Entry) → AreAbove [] es
    above [] = tt
    above (e ∷ es) = (refl, above es)

-- fewer of the oldest, and all of them with some of the new
cut-less : (xs ys : List Entry) (n : ℕ) (h : GoesOn xs ys) → n ≤ length (drop h.gone xs) → GoesOn xs (drop n ys)
cut-less xs ys n h le = record {
  gone = h.gone + n;
  new = h.new;
  is = ap (drop n) h.is ∙ (drop-append-le n (drop h.gone xs) h.new le ∙ ap (λ (es : List Entry). es ++ h.new) (drop-drop n h.gone xs));
  above = h.above;
}

cut-more : (xs ys : List Entry) (n : ℕ) (h : GoesOn xs ys) → length (drop h.gone xs) < n → GoesOn xs (drop n ys)
cut-more xs ys n h lt =
    let left = drop h.gone xs in
    let m = n - length left in
    let more : n ≡ length left + m = omega (arith, lt) in
    record {
      gone = length xs;
      new = drop m h.new;
      is =
          ap (drop n) h.is
          ∙ (ap (λ (k : ℕ). drop k (left ++ h.new)) more
          ∙ (drop-append-add left h.new m ∙ ap (λ (es : List Entry). es ++ drop m h.new) (sym (drop_all (length xs) xs (omega arith)))));
      above = each-drop (λ e. IsTrue (is_after xs e)) m h.new h.above;
    }

lasts-less : (xs : List Entry) (n : ℕ) (ys : List Entry) → n < length ys → drop n ys ≡ [] → xs ≡ []
lasts-less xs n ys few e = let l : length (drop n ys) ≡ 0 = ap (λ (es : List Entry). length es) e in absurd (omega (arith, l, few, length-drop n ys))

pub last-behind : (xs ys : List Entry) (w : Entry) → last_or None ys ≡ Some w → last_or None (xs ++ ys) ≡ Some w
last-behind xs [] w e = absurd (none-some w e)
last-behind xs (y ∷ ys) w e = last_or-append None xs (y ∷ ys) ∙ e

last_all : (P : Entry → Type 0) (es : List Entry) (w : Entry) → last_or None es ≡ Some w → AllByRecursion P es → P w
last_all P [] w e h = absurd (none-some w e)
last_all P (x ∷ xs) w e h = from x xs h.0 e h.1
  where
    from : (y : Entry) (zs : List Entry) → P y → last_or (Some y) zs ≡ Some w → AllByRecursion P zs → P w
    from y [] p e h = let same : y ≡ w = cc (e) in subst P same p
    from y (z ∷ zs) p e h = from z zs h.0 e h.1

abbrev pub IsGreatest : Entry → List Entry → Type 0
IsGreatest new es = (w : Entry) → last_or None es ≡ Some w → w.kept.key < new.kept.key

same-last : (es : List Entry) (v w : Entry) → last_or None es ≡ Some v → last_or None es ≡ Some w → v ≡ w
same-last es v w e k = let q : Some v ≡ Some w = sym e ∙ k in cc (q)

-- one that is above those to which they went on is above those from which they did
above-all : (xs ys : List Entry) (new : Entry) → Adds xs ys → IsGreatest new ys → IsTrue (is_after xs new)
above-all xs ys new h greatest = by_last (is_last xs)
  where
    nothing : xs ≡ [] → IsTrue (is_after xs new)
    nothing e = subst (λ (es : List Entry). IsTrue (is_after es new)) (sym e) refl

    by_less : (w : Entry) → last_or None xs ≡ Some w → w.kept.key < new.kept.key → IsTrue (is_after xs new)
    by_less w e less =
        subst (λ (o : Option Entry). IsTrue (unwrap_or (option_map (λ (l : Entry). nat_lt l.kept.key new.kept.key) o) true)) (sym e) (lt-ltb w.kept.key new.kept.key less)

    by_new : (w v : Entry) → last_or None xs ≡ Some w → last_or None ys ≡ Some v → (h.goes_on.new ≡ []) ⊎ ((u : Entry) × (last_or None h.goes_on.new ≡ Some u)) → w.kept.key < new.kept.key
    by_new w v e k (inl none) =
        let left : last_or None (drop h.goes_on.gone xs) ≡ Some v =
        ap (last_or None) (sym (h.goes_on.is ∙ (ap (λ (es : List Entry). drop h.goes_on.gone xs ++ es) none ∙ append-nil (drop h.goes_on.gone xs)))) ∙ k in
        let same = same-last xs v w (last-drop h.goes_on.gone xs v left) e in
        subst (λ (x : Entry). x.kept.key < new.kept.key) same (greatest v k)
    by_new w v e k (inr (u, q)) =
        let last : last_or None ys ≡ Some u = ap (last_or None) h.goes_on.is ∙ last-behind (drop h.goes_on.gone xs) h.goes_on.new u q in
        let above : IsTrue (is_after xs u) = last_all (λ x. IsTrue (is_after xs x)) h.goes_on.new u q h.goes_on.above in
        let more : w.kept.key < u.kept.key = ltb-true w.kept.key u.kept.key (subst (λ (o : Option Entry). IsTrue (unwrap_or (option_map (λ (l : Entry). nat_lt l.kept.key u.kept.key) o) true)) e above) in
        let less = greatest u last in
        omega (arith, more, less)

    by_last : (xs ≡ []) ⊎ ((w : Entry) × (last_or None xs ≡ Some w)) → IsTrue (is_after xs new)
    by_last (inl e) = nothing e
    by_last (inr (w, e)) = elim (is_last ys) [ inl none ↦ nothing (h.lasts none) | inr v ↦ by_less w e (by_new w v.0 e v.1 (is_last h.goes_on.new)) ]

adds-more : (xs ys : List Entry) (new : Entry) → IsGreatest new ys → Adds xs ys → Adds xs (ys ++ new ∷ [])
adds-more xs ys new greatest h =
    let on = h.goes_on in
    record {
      goes_on = record {
        gone = on.gone;
        new = on.new ++ new ∷ [];
        is = ap (λ (es : List Entry). es ++ new ∷ []) on.is ∙ append_assoc (drop on.gone xs) on.new (new ∷ []);
        above = each-push (λ e. IsTrue (is_after xs e)) on.new new on.above (above-all xs ys new h greatest);
      };
      lasts = λ e. absurd (some ys e);
    }
  where
    some : (es : List Entry) → es ++ new ∷ [] ≡ [] → ⊥
    some [] e = cc
    some (x ∷ xs) e = cc

-- ---- how many went

-- the kept data pages of a table, and its sure records
pub record Rows : Type 0 where
  pub next : ℕ
  pub counts : List ℕ
  pub sure : List Entry

abbrev pub first_page : Rows → ℕ
first_page rows = rows.next - length rows.counts

-- how many pages went
abbrev pub pages_gone : Rows → Rows → ℕ
pages_gone start now = first_page now - first_page start

-- only old pages went: exactly their rows did
pub record IsExact (start now : Rows) (new : List Entry) : Type 0 where
  pub more : List ℕ
  pub counts : now.counts ≡ drop (pages_gone start now) start.counts ++ more
  pub size : length now.sure + sum (take (pages_gone start now) start.counts) ≡ length start.sure + length new

pub record GoesFrom (start now : Rows) : Type 0 where
  pub adds : Adds start.sure now.sure
  pub ahead : first_page start ≤ first_page now
  pub exact : sum start.counts ≤ length start.sure → pages_gone start now ≤ length start.counts → IsExact start now adds.goes_on.new

pub from-none : (rows : Rows) → GoesFrom rows rows
unfolding adds-none
from-none rows =
    let zero : pages_gone rows rows ≡ 0 = omega arith in
    record {
      adds = adds-none rows.sure;
      ahead = omega arith;
      exact = λ full few. record {
        more = [];
        counts = sym (ap (λ (n : ℕ). drop n rows.counts ++ []) zero ∙ (append-nil (drop 0 rows.counts) ∙ drop_none rows.counts));
        size = ap (λ (n : ℕ). length rows.sure + sum (take n rows.counts)) zero ∙ ap (λ (cs : List ℕ). length rows.sure + sum cs) (take_none rows.counts);
      };
    }

-- a data page is sealed, and the oldest may go
abbrev pub marked_rows : ℕ → ℕ → Rows → Rows
marked_rows gone count now = record { next = now.next + 1; counts = drop gone (now.counts ++ count ∷ []); sure = drop (sum (take gone now.counts)) now.sure }

-- a record becomes sure
abbrev pub joined_rows : Entry → Rows → Rows
joined_rows new now = record now { sure = now.sure ++ new ∷ [] }

from-less : (start now : Rows) (gone count : ℕ) → gone ≤ length now.counts → length now.counts ≤ now.next → sum (take gone now.counts) < length now.sure → GoesFrom start now → GoesFrom start (marked_rows gone count now)
unfolding cut-less
from-less start now gone count few numbered some h = by_order (cases_lt (length (drop on.gone start.sure)) rows)
  where
    on : GoesOn start.sure now.sure
    on = h.adds.goes_on

    rows : ℕ
    rows = sum (take gone now.counts)

    after : Rows
    after = marked_rows gone count now

    up : first_page after ≡ first_page now + gone
    up = let l = length-drop gone (now.counts ++ count ∷ []) in let m = length-append now.counts (count ∷ []) in omega (arith, l, m, few, numbered)

    pages : pages_gone start after ≡ pages_gone start now + gone
    pages = let a = h.ahead in let u = up in omega (arith, a, u)

    left : length (drop on.gone start.sure) + length on.new ≡ length now.sure
    left = sym (ap (λ (es : List Entry). length es) on.is ∙ length-append (drop on.gone start.sure) on.new)

    -- those that go are of old pages
    of_old : (new : List Entry) → IsExact start now new → pages_gone start now + gone ≤ length start.counts → sum (take (pages_gone start now) start.counts) + rows ≡ sum (take (pages_gone start now + gone) start.counts)
    of_old new e le =
        ap (λ (cs : List ℕ). sum (take (pages_gone start now) start.counts) + sum (take gone cs)) e.counts
        ∙ (ap (λ (cs : List ℕ). sum (take (pages_gone start now) start.counts) + sum cs) (take-append-le gone (drop (pages_gone start now) start.counts) e.more (let l = length-drop (pages_gone start now) start.counts in omega (arith, l, le)))
        ∙ sym (sum_take_more (pages_gone start now) gone start.counts))

    exact_of : (new : List Entry) → IsExact start now new → pages_gone start after ≤ length start.counts → IsExact start after new
    exact_of new e le =
        let old = of_old new e (let p = pages in omega (arith, p, le)) in
        let size = e.size in
        let short = length-drop rows now.sure in
        let there = ap (λ (n : ℕ). sum (take n start.counts)) pages in
        record {
          more = e.more ++ count ∷ [];
          counts =
              ap (λ (cs : List ℕ). drop gone (cs ++ count ∷ [])) e.counts
              ∙ (ap (drop gone) (append_assoc (drop (pages_gone start now) start.counts) e.more (count ∷ []))
              ∙ (drop-append-le gone (drop (pages_gone start now) start.counts) (e.more ++ count ∷ []) (let l = length-drop (pages_gone start now) start.counts in let p = pages in omega (arith, l, p, le))
              ∙ (ap (λ (cs : List ℕ). cs ++ (e.more ++ count ∷ [])) (drop-drop gone (pages_gone start now) start.counts)
              ∙ ap (λ (n : ℕ). drop n start.counts ++ (e.more ++ count ∷ [])) (sym pages))));
          size = omega (arith, old, size, short, there, some);
        }

    fewer : pages_gone start after ≤ length start.counts → pages_gone start now ≤ length start.counts
    fewer le = let p = pages in omega (arith, p, le)

    by_order : (length (drop on.gone start.sure) < rows) ⊎ (rows ≤ length (drop on.gone start.sure)) → GoesFrom start after
    by_order (inr le) = record {
      adds = record { goes_on = cut-less start.sure now.sure rows on le; lasts = lasts-less start.sure rows now.sure some };
      ahead = let a = h.ahead in let u = up in omega (arith, a, u);
      exact = λ full most. exact_of on.new (h.exact full (fewer most)) most;
    }
    by_order (inl lt) = record {
      adds = record { goes_on = cut-more start.sure now.sure rows on lt; lasts = lasts-less start.sure rows now.sure some };
      ahead = let a = h.ahead in let u = up in omega (arith, a, u);
      exact = λ full most.
          let e = h.exact full (fewer most) in
          let old = of_old on.new e (let p = pages in omega (arith, p, most)) in
          let size = e.size in
          let all = left in
          let within = sum_by-take-le (λ (n : ℕ). n) start.counts (pages_gone start now + gone) in
          absurd (omega (arith, old, size, all, within, full, lt));
    }

from-more : (start now : Rows) (new : Entry) → IsGreatest new now.sure → GoesFrom start now → GoesFrom start (joined_rows new now)
unfolding adds-more
from-more start now new greatest h = record {
  adds = adds-more start.sure now.sure new greatest h.adds;
  ahead = h.ahead;
  exact = λ full few.
      let e = h.exact full few in
      record {
        more = e.more;
        counts = e.counts;
        size = let size = e.size in omega (arith, size, length-append now.sure (new ∷ []), length-append h.adds.goes_on.new (new ∷ []));
      };
}

-- what is known of the sure records of a table stays so while data pages are sealed, and while records with greater keys join
pub record IsLasting (Q : Rows → Type 0) : Type 0 where
  pub less : (now : Rows) (gone count : ℕ) → gone ≤ length now.counts → length now.counts ≤ now.next → sum (take gone now.counts) < length now.sure → Q now → Q (marked_rows gone count now)
  pub more : (now : Rows) (new : Entry) → IsGreatest new now.sure → Q now → Q (joined_rows new now)

pub from-last : (start : Rows) → IsLasting (GoesFrom start)
from-last start = record { less = from-less start; more = from-more start }

-- .. where nothing is known of them
abbrev pub Any : Rows → Type 0
Any rows = Adds [] rows.sure

pub any-last : IsLasting Any
any-last = record { less = λ now gone count few numbered some h. adds-all _; more = λ now new greatest h. adds-all _ }

-- ---- which records are sure

abbrev pub sure_in : Core → List Entry
sure_in c = sure (past_in c 0)

-- the pages of a table with these sure records, and with its own
abbrev pub rows_with : Core → List Entry → Rows
rows_with c es = record { next = c.next; counts = c.counts; sure = es }

abbrev pub rows_in : Core → Rows
rows_in c = rows_with c (sure_in c)

all-sure : (c : Core) → (past_in c 0).unlogged ≡ false → sure_in c ≡ (past_in c 0).held
all-sure c e = let held = (past_in c 0).held in ap (λ (u : Bool). cond u (take (length held - 1) held) held) e

-- where nothing is pending, all are, with those of the log
idle-logged : (c : Core) → c.pending ≡ 0 → (past_in c 0).unlogged ≡ false
idle-logged c none =
    ap (λ (z : Bool). not z && not (unwrap_or (option_map (λ (last : Entry). last.kept.key == last_key c.entries) (last_or None c.logged)) false)) (eq-eqb c.pending 0 none)

pub sure-idle : (c : Core) → c.pending ≡ 0 → sure_in c ≡ c.entries ++ owed_of c
sure-idle c none = all-sure c (idle-logged c none) ∙ ap (λ (z : Bool). cond z (c.entries ++ owed_of c) c.entries) (eq-eqb c.pending 0 none)

-- where the log has what is pending, all are
ready-all_logged : (c : Core) → IsFine c → IsReady c → (past_in c 0).unlogged ≡ false
ready-all_logged c fine h = ap (λ (x : Bool). not (c.pending == 0) && not x) (by_last (is_last (rest_of c))) ∙ and-false (not (c.pending == 0))
  where
    by_last : (rest_of c ≡ []) ⊎ ((w : Entry) × (last_or None (rest_of c) ≡ Some w)) → unwrap_or (option_map (λ (last : Entry). last.kept.key == last_key c.entries) (last_or None c.logged)) false ≡ true
    by_last (inl e) =
        let n : length (rest_of c) ≡ 0 = ap (λ (es : List Entry). length es) e in let all = rest-length c fine in let some = h.some in absurd (omega (arith, n, all, some))
    by_last (inr (w, e)) =
        let last : last_or None c.logged ≡ Some w = ap (last_or None) h.same ∙ e in
        let key : last_key c.entries ≡ w.kept.key = last-key c.entries w (ap (last_or None) (sym (splits c)) ∙ last-behind (front_of c) (rest_of c) w e) in
        ap (λ (o : Option Entry). unwrap_or (option_map (λ (l : Entry). l.kept.key == last_key c.entries) o) false) last ∙ eq-eqb w.kept.key (last_key c.entries) (sym key)

pub sure-ready : (c : Core) → IsFine c → IsReady c → sure_in c ≡ c.entries
sure-ready c fine h = all-sure c (ready-all_logged c fine h) ∙ held-pending c 0 h.some

pub all-logged : (c : Core) → IsFine c → (c.pending ≡ 0) ⊎ IsReady c → (past_in c 0).unlogged ≡ false
all-logged c fine (inl none) = idle-logged c none
all-logged c fine (inr h) = ready-all_logged c fine h

-- .. and all but the one that joins, where it doesn't have that yet
pub sure-joining : (c : Core) (es : List Entry) (new : Entry) → IsFine c → IsJoining c → c.entries ≡ es ++ new ∷ [] → sure_in c ≡ es
sure-joining c es new fine h is =
    let held = (past_in c 0).held in
    let some = joining-some c fine h in
    ap (λ (u : Bool). cond u (take (length held - 1) held) held) (unlogged-joining c 0 fine h) ∙ take_seam held es (new ∷ []) 1 (held-pending c 0 some ∙ is) refl

-- .. and they are where the session ends
pub sure-lost : (c : Core) → IsFine c → (c.pending ≡ 0) ⊎ IsReady c → sure_in (lost c) ≡ sure_in c
sure-lost c fine (inl none) =
    sure-idle (lost c) refl ∙ (ap (λ (os : List Entry). front_of c ++ os) (owed-lost c) ∙ (ap (λ (es : List Entry). es ++ owed_of c) (front-all c none) ∙ sym (sure-idle c none)))
sure-lost c fine (inr h) =
    sure-idle (lost c) refl ∙ (ap (λ (os : List Entry). front_of c ++ os) (owed-lost c ∙ ready-owed c h) ∙ (splits c ∙ sym (sure-ready c fine h)))

-- .. and no data page has the same of them
pub pending-lost : (c : Core) → IsFine c → (c.pending ≡ 0) ⊎ IsReady c → (past_in (lost c) 0).pending ≡ (past_in c 0).pending
pending-lost c fine (inl none) = ap (λ (es : List Entry). length es) (owed-lost c) ∙ sym (ap (λ (z : Bool). cond z (length (owed_of c)) c.pending) (eq-eqb c.pending 0 none))
pending-lost c fine (inr h) = ap (λ (es : List Entry). length es) (owed-lost c ∙ ready-owed c h) ∙ (rest-length c fine ∙ sym (owing-pending c 0 h.some))

-- the last of them has the greatest key
pub sure-tops : (c : Core) → IsFine c → (c.pending ≡ 0) ⊎ IsReady c → Tops (sure_in c)
sure-tops c fine (inl none) = subst Tops (sym (sure-idle c none)) (by_whole fine.whole)
  where
    entries : Tops c.entries
    entries = subst Tops (front-all c none) fine.greatest

    by_whole : (owed_of c ≡ c.logged) ⊎ ((owed_of c ≡ []) × (c.torn ≡ false)) → Tops (c.entries ++ owed_of c)
    by_whole (inl e) =
        subst (λ (os : List Entry). Tops (c.entries ++ os)) (sym e)
        (tops-above c.entries c.logged entries fine.ascending (subst (λ (es : List Entry). AreAbove es c.logged) (front-all c none) (filter_whole (λ x. is_after (front_of c) x) c.logged e)))
    by_whole (inr e) = subst Tops (sym (ap (λ (os : List Entry). c.entries ++ os) e.0 ∙ append-nil c.entries)) entries
sure-tops c fine (inr h) =
    subst Tops (splits c ∙ sym (sure-ready c fine h)) (tops-above (front_of c) (rest_of c) fine.greatest (subst Tops h.same fine.ascending) h.above)

-- those in data pages are
pub sure-full : (c : Core) → IsFine c → (c.pending ≡ 0) ⊎ IsReady c → sum c.counts ≤ length (sure_in c)
sure-full c fine (inl none) =
    let same : length (sure_in c) ≡ length (c.entries ++ owed_of c) = ap (λ (es : List Entry). length es) (sure-idle c none) in
    let all = fine.counted in
    omega (arith, same, all, length-append c.entries (owed_of c))
sure-full c fine (inr h) =
    let same : length (sure_in c) ≡ length c.entries = ap (λ (es : List Entry). length es) (sure-ready c fine h) in
    let all = fine.counted in
    omega (arith, same, all)

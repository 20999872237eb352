-- The pages that seals and puts write, operation by operation: what the pages of a table have, wherever one of them fails.
use Rattle.std.proofs.Common.{◌≡◌, ℕ, ◌+◌, ◌-◌, ◌<◌, Bool, true, false, cond, ◌&&◌, ◌==◌, nat_lt, Option, None, Some, List, [], ◌∷◌, ◌++◌, length, map, take, drop, refl, sym, ◌∙◌, ap, subst, arith, length-append, length-drop}
use Rattle.std.specs.List.{AllByRecursion, flat_map, last_or, sum}
use Rattle.std.specs.Option.{option_map}
use Rattle.std.proofs.lemmas.List.{append-nil, append_assoc, drop-append-le, length-map, take-append-drop, take-append-le}
use Rattle.std.proofs.lemmas.List.Concat.{flat_map-append}
use Rattle.std.proofs.Math.Seq.{drop-length, take-length}
use Rattle.std.proofs.lemmas.Option.{none-some}
use Rattle.fl_model.specs.Record.{Record, Plan, entries_per_page, has_index, rows_per_page}
use Rattle.fl_model.specs.Ring.{given_up}
use Rattle.fl_model.specs.Table.{Table, Entry, RingName, DataRing, IndexRing, VarRing, LogRing, after_seal, after_seals, blob_len, fill, join_seals, make_room_seals, put_joined, put_record, refusal_of, seal_buffer, shape_of, start_offset, start_page, table_seals, with_record, with_room}
use Rattle.fl_model.specs.Within.{seals_within}
use Rattle.fl_model.proofs.Sealed.{sealed-next}
use Rattle.fl_model.proofs.ShipWork.{map-append, map-drop}
use Rattle.fl_model.proofs.Lists.{push_not_nil}
use Rattle.fl_machine.proofs.Logs.{Core, core, front_of, rest_of}
use Rattle.fl_machine.proofs.LogOperations.{Goes, data-goes, goes-seals, index-goes, log-goes, var-goes}
use Rattle.fl_machine.proofs.LogTables.{seals_by, takes}
use Rattle.fl_ship.proofs.Lasts.{IsOtherRing, joined-rings, last-drop}
use Rattle.fl_shipped.specs.Growing.{flush_pages, paged_records, put_pages, waiting_records}
use Rattle.fl_shipped.proofs.Orders.{DropsFrom, InOrder, from-drop, from-more, order-push}

abbrev pub records : List Entry → List Record
records es = map (λ (e : Entry). e.kept) es

-- the records of some pages, one after another
abbrev pub joined : List (List Record) → List Record
joined pages = flat_map (λ (page : List Record). page) pages

-- The pages of a table have all that was written at first and the records of these pages, which came since, but for the oldest; and
-- with those that wait these are all, in order.
pub record HasSealed (Bad : Type 0) (start : List Record) (first : ℕ) (done : List (List Record)) (all paged waiting : List Record) (next : ℕ) : Type 0 where
  pub next_is : next ≡ first + length done
  pub kept : DropsFrom (start ++ joined done) paged
  pub all_is : all ≡ (start ++ joined done) ++ waiting
  pub order : InOrder Bad all

abbrev pub SealedIn : Type 0 → List Record → ℕ → List (List Record) → List Record → Core → Type 0
SealedIn Bad start first done all c = HasSealed Bad start first done all (records (front_of c)) (records (rest_of c)) c.next

page-joins : (start : List Record) (done : List (List Record)) (page : List Record) → (start ++ joined done) ++ page ≡ start ++ joined (done ++ page ∷ [])
page-joins start done page =
    append_assoc start (joined done) page
    ∙ ap (λ rs. start ++ rs) (sym (flat_map-append (λ (p : List Record). p) done (page ∷ []) ∙ ap (λ rs. joined done ++ rs) (append-nil page)))

parts : (t : Table) → records t.entries ≡ paged_records t ++ waiting_records t
parts t =
    let n = length t.entries - t.pending in
    ap records (sym (take-append-drop n t.entries)) ∙ map-append (take n t.entries) (drop n t.entries)

-- the records that wait become a page
marked : (Bad : Type 0) (start : List Record) (first : ℕ) (done : List (List Record)) (all : List Record) (plan : Plan) (t : Table) → SealedIn Bad start first done all (core t) →
    SealedIn Bad start first (done ++ waiting_records t ∷ []) all (core (seal_buffer plan DataRing t))
marked Bad start first done all plan t h =
    let page = waiting_records t in
    let k = sum (given_up (shape_of plan DataRing) t.pending t.rows) in
    let left = drop k t.entries in
    let z : length left - 0 ≡ length left = omega arith in
    let kept : take (length left - 0) left ≡ left = ap (λ n. take n left) z ∙ take-length left in
    let none : drop (length left - 0) left ≡ [] = ap (λ n. drop n left) z ∙ drop-length left in
    let whole = page-joins start done page in
    record {
      next_is = (let s = sealed-next (shape_of plan DataRing) t.pending t.rows in let n = h.next_is in let l = length-append done (page ∷ []) in omega (arith, s, n, l));
      kept = subst (λ (rs : List Record). DropsFrom rs (records (take (length left - 0) left))) whole
          (from-drop ((start ++ joined done) ++ page) (paged_records t ++ page) (records (take (length left - 0) left)) k (from-more (start ++ joined done) (paged_records t) page h.kept)
          (ap records kept ∙ (map-drop k t.entries ∙ ap (drop k) (parts t))));
      all_is = h.all_is ∙ (whole ∙ sym (ap (λ (es : List Entry). (start ++ joined (done ++ page ∷ [])) ++ records es) none ∙ append-nil (start ++ joined (done ++ page ∷ []))));
      order = h.order;
    }

-- a record joins those that wait
joins : (Bad : Type 0) (start : List Record) (first : ℕ) (done : List (List Record)) (all : List Record) (plan : Plan) (item : Record) (t : Table) → InOrder Bad (all ++ item ∷ []) → SealedIn Bad start first done all (core t) →
    SealedIn Bad start first done (all ++ item ∷ []) (core (with_record plan item t))
joins Bad start first done all plan item t order h =
    let new : Entry = record { kept = item; page = start_page plan (blob_len item) t; offset = start_offset plan (blob_len item) t } in
    let n = length t.entries - t.pending in
    let l = length-append t.entries (new ∷ []) in
    let m : length (t.entries ++ new ∷ []) - (t.pending + 1) ≡ n = omega (arith, l) in
    let front : take (length (t.entries ++ new ∷ []) - (t.pending + 1)) (t.entries ++ new ∷ []) ≡ take n t.entries = ap (λ k. take k (t.entries ++ new ∷ [])) m ∙ take-append-le n t.entries (new ∷ []) (omega arith) in
    let rest : drop (length (t.entries ++ new ∷ []) - (t.pending + 1)) (t.entries ++ new ∷ []) ≡ drop n t.entries ++ new ∷ [] = ap (λ k. drop k (t.entries ++ new ∷ [])) m ∙ drop-append-le n t.entries (new ∷ []) (omega arith) in
    record {
      next_is = h.next_is;
      kept = subst (λ (es : List Entry). DropsFrom (start ++ joined done) (records es)) (sym front) h.kept;
      all_is =
          ap (λ (rs : List Record). rs ++ item ∷ []) h.all_is
          ∙ (append_assoc (start ++ joined done) (waiting_records t) (item ∷ []) ∙ ap (λ (rs : List Record). (start ++ joined done) ++ rs) (sym (ap records rest ∙ map-append (drop n t.entries) (new ∷ []))));
      order = order;
    }

-- ---- the keys that a table takes

-- what a table has is the end of all that was written and waits
all-end : (Bad : Type 0) (start : List Record) (first : ℕ) (done : List (List Record)) (all : List Record) (t : Table) → SealedIn Bad start first done all (core t) → DropsFrom all (records t.entries)
all-end Bad start first done all t h =
    subst (λ (rs : List Record). DropsFrom rs (records t.entries)) (sym h.all_is)
    (subst (λ (rs : List Record). DropsFrom ((start ++ joined done) ++ waiting_records t) rs) (sym (parts t)) (from-more (start ++ joined done) (paged_records t) (waiting_records t) h.kept))

-- the last of the entries has the last of the records
last-kept : (o : Option Entry) (es : List Entry) → last_or (option_map (λ (w : Entry). w.kept) o) (records es) ≡ option_map (λ (w : Entry). w.kept) (last_or o es)
last-kept o [] = refl
last-kept o (e ∷ es) = last-kept (Some e) es

last-entry : (es : List Entry) (last : Record) → last_or None (records es) ≡ Some last → (w : Entry) × (last_or None es ≡ Some w) × (w.kept ≡ last)
last-entry es last e = by_some (last_or None es) refl (sym (last-kept None es) ∙ e)
  where
    by_some : (o : Option Entry) → last_or None es ≡ o → option_map (λ (w : Entry). w.kept) o ≡ Some last → (w : Entry) × (last_or None es ≡ Some w) × (w.kept ≡ last)
    by_some None q k = absurd (none-some last k)
    by_some (Some w) q k = (w, q, cc (k))

-- a key that isn't refused is above the last, where the table has records
pub order-takes : (Bad : Type 0) (start : List Record) (first : ℕ) (done : List (List Record)) (all : List Record) (plan : Plan) (item : Record) (t : Table) → SealedIn Bad start first done all (core t) → refusal_of plan t item ≡ None →
    (t.entries ≡ [] → InOrder Bad (all ++ item ∷ [])) → InOrder Bad (all ++ item ∷ [])
order-takes Bad start first done all plan item t h ok new = by_entries t.entries refl
  where
    end : DropsFrom all (records t.entries)
    end = all-end Bad start first done all t h

    by_entries : (es : List Entry) → t.entries ≡ es → InOrder Bad (all ++ item ∷ [])
    by_entries [] e = new e
    by_entries (x ∷ xs) e = order-push Bad all item h.order above
      where
        few : end.given_up < length all
        few =
            let l = length-drop end.given_up all in
            let m = ap (λ (rs : List Record). length rs) end.is in
            let n = length-map t.entries (λ (w : Entry). w.kept) in
            let k = ap (λ (es : List Entry). length es) e in
            omega (arith, l, m, n, k)

        above : (last : Record) → last_or None all ≡ Some last → last.key < item.key
        above last q =
            let found = last-entry t.entries last (ap (last_or None) end.is ∙ (last-drop None end.given_up all few ∙ q)) in
            let less = (takes plan t item ok).0 found.0 found.1 in
            let same = ap (λ (r : Record). r.key) found.2 in
            omega (arith, less, same)

-- a put leaves a record
others-entries : (plan : Plan) (rings : List RingName) (t : Table) → AllByRecursion IsOtherRing rings → (after_seals plan rings t).entries ≡ t.entries
others-entries plan [] t o = refl
others-entries plan (DataRing ∷ rings) t o = absurd o.0
others-entries plan (IndexRing ∷ rings) t o = others-entries plan rings (after_seal plan IndexRing t) o.1
others-entries plan (VarRing ∷ rings) t o = others-entries plan rings (after_seal plan VarRing t) o.1
others-entries plan (LogRing ∷ rings) t o = others-entries plan rings (after_seal plan LogRing t) o.1

pub put-some : (plan : Plan) (item : Record) (t : Table) → (put_record plan item t).entries ≡ [] → ⊥
put-some plan item t e =
    let joined = put_joined plan item t in
    push_not_nil (with_room plan t).entries _ (sym (others-entries plan (join_seals plan joined) joined (joined-rings plan joined)) ∙ e)

-- ---- the operations of seals

module _ (Bad : Type 0) (start : List Record) (first : ℕ) (pages : List (List Record)) where
  -- some of the pages are sealed
  pub record IsUnderway (paged waiting : List Record) (next : ℕ) : Type 0 where
    pub done : List (List Record)
    pub others : List (List Record)
    pub all : List Record
    pub split : pages ≡ done ++ others
    pub has : HasSealed Bad start first done all paged waiting next

  -- wherever it stops
  abbrev pub Halts : Core → Core → Type 0
  Halts c d = IsUnderway (records (front_of d)) (records (rest_of d)) d.next

  underway : (done others : List (List Record)) (all paged waiting : List Record) (next : ℕ) → pages ≡ done ++ others → HasSealed Bad start first done all paged waiting next → IsUnderway paged waiting next
  underway done others all paged waiting next e h = record { done = done; others = others; all = all; split = e; has = h }

  -- operations stop well, and this is what they leave
  pub record GoesTo (plan : Plan) (rings : List RingName) (t : Table) (done : List (List Record)) (all : List Record) : Type 0 where
    pub goes : Goes plan Halts (seals_within plan rings t) t
    pub has : SealedIn Bad start first done all (core (after_seals plan rings t))

  data-seal : (plan : Plan) (t : Table) (done others : List (List Record)) (all : List Record) → pages ≡ done ++ (waiting_records t ∷ others) → SealedIn Bad start first done all (core t) →
      GoesTo plan (DataRing ∷ []) t (done ++ waiting_records t ∷ []) all
  data-seal plan t done others all e h =
      let page = waiting_records t in
      let m = marked Bad start first done all plan t h in
      let here = underway done (page ∷ others) all _ _ _ e h in
      let there = underway (done ++ page ∷ []) others all _ _ _ (e ∙ sym (append_assoc done (page ∷ []) others)) m in
      record { goes = goes-seals plan Halts DataRing [] t (data-goes plan Halts t here here here there there) tt; has = m }

  seals-go : (plan : Plan) (t : Table) (z a b : Bool) (done others : List (List Record)) (all : List Record) → pages ≡ done ++ (cond z [] (waiting_records t ∷ []) ++ others) → SealedIn Bad start first done all (core t) →
      GoesTo plan (seals_by z a b) t (done ++ cond z [] (waiting_records t ∷ [])) all
  seals-go plan t true a b done others all e h = record { goes = tt; has = subst (λ (ps : List (List Record)). SealedIn Bad start first ps all (core t)) (sym (append-nil done)) h }
  seals-go plan t false true true done others all e h =
      let here = underway done (waiting_records t ∷ others) all _ _ _ e h in
      let i = after_seal plan IndexRing t in
      let v = after_seal plan VarRing i in
      let d = data-seal plan v done others all e h in
      record {
        goes = goes-seals plan Halts IndexRing (VarRing ∷ DataRing ∷ []) t (index-goes plan Halts t here) (goes-seals plan Halts VarRing (DataRing ∷ []) i (var-goes plan Halts i here) d.goes);
        has = d.has;
      }
  seals-go plan t false true false done others all e h =
      let here = underway done (waiting_records t ∷ others) all _ _ _ e h in
      let d = data-seal plan (after_seal plan IndexRing t) done others all e h in
      record { goes = goes-seals plan Halts IndexRing (DataRing ∷ []) t (index-goes plan Halts t here) d.goes; has = d.has }
  seals-go plan t false false true done others all e h =
      let here = underway done (waiting_records t ∷ others) all _ _ _ e h in
      let d = data-seal plan (after_seal plan VarRing t) done others all e h in
      record { goes = goes-seals plan Halts VarRing (DataRing ∷ []) t (var-goes plan Halts t here) d.goes; has = d.has }
  seals-go plan t false false false done others all e h = data-seal plan t done others all e h

  pub flush-goes : (plan : Plan) (t : Table) (done others : List (List Record)) (all : List Record) → pages ≡ done ++ (flush_pages t ++ others) → SealedIn Bad start first done all (core t) →
      GoesTo plan (table_seals plan t) t (done ++ flush_pages t) all
  flush-goes plan t done others all e h = seals-go plan t (t.pending == 0) (has_index plan && (length t.waiting == entries_per_page plan)) (nat_lt 0 (fill t)) done others all e h

  pub room-goes : (plan : Plan) (t : Table) (done others : List (List Record)) (all : List Record) → pages ≡ done ++ (put_pages plan t ++ others) → SealedIn Bad start first done all (core t) →
      GoesTo plan (make_room_seals plan t) t (done ++ put_pages plan t) all
  room-goes plan t done others all e h = by_full (t.pending == rows_per_page plan) e
    where
      by_full : (full : Bool) → pages ≡ done ++ (cond full (flush_pages t) [] ++ others) → GoesTo plan (cond full (table_seals plan t) []) t (done ++ cond full (flush_pages t) []) all
      by_full true e = flush-goes plan t done others all e h
      by_full false e = record { goes = tt; has = subst (λ (ps : List (List Record)). SealedIn Bad start first ps all (core t)) (sym (append-nil done)) h }

  -- the seals of other rings than the data ring
  other-goes : (plan : Plan) (ring : RingName) (rings : List RingName) (t : Table) (done others : List (List Record)) (all : List Record) → IsOtherRing ring → pages ≡ done ++ others → SealedIn Bad start first done all (core t) →
      (SealedIn Bad start first done all (core (after_seal plan ring t)) → GoesTo plan rings (after_seal plan ring t) done all) → GoesTo plan (ring ∷ rings) t done all
  other-goes plan DataRing rings t done others all o e h go = absurd o
  other-goes plan IndexRing rings t done others all o e h go =
      let g = go h in record { goes = goes-seals plan Halts IndexRing rings t (index-goes plan Halts t (underway done others all _ _ _ e h)) g.goes; has = g.has }
  other-goes plan VarRing rings t done others all o e h go =
      let g = go h in record { goes = goes-seals plan Halts VarRing rings t (var-goes plan Halts t (underway done others all _ _ _ e h)) g.goes; has = g.has }
  other-goes plan LogRing rings t done others all o e h go =
      let here = underway done others all _ _ _ e h in
      let g = go h in
      record { goes = goes-seals plan Halts LogRing rings t (log-goes plan Halts t here here here here here) g.goes; has = g.has }

  others-go : (plan : Plan) (rings : List RingName) (t : Table) (done others : List (List Record)) (all : List Record) → AllByRecursion IsOtherRing rings → pages ≡ done ++ others → SealedIn Bad start first done all (core t) →
      GoesTo plan rings t done all
  others-go plan [] t done others all o e h = record { goes = tt; has = h }
  others-go plan (ring ∷ rings) t done others all o e h = other-goes plan ring rings t done others all o.0 e h (λ g. others-go plan rings (after_seal plan ring t) done others all o.1 e g)

  pub join-goes : (plan : Plan) (t : Table) (done others : List (List Record)) (all : List Record) → pages ≡ done ++ others → SealedIn Bad start first done all (core t) → GoesTo plan (join_seals plan t) t done all
  join-goes plan t done others all e h = others-go plan (join_seals plan t) t done others all (joined-rings plan t) e h

  -- the record has joined
  pub put-joins : (plan : Plan) (item : Record) (t : Table) (done others : List (List Record)) (all : List Record) → pages ≡ done ++ (put_pages plan t ++ others) → InOrder Bad (all ++ item ∷ []) → SealedIn Bad start first done all (core t) →
      SealedIn Bad start first (done ++ put_pages plan t) (all ++ item ∷ []) (core (put_joined plan item t))
  put-joins plan item t done others all e order h = joins Bad start first (done ++ put_pages plan t) all plan item (after_seals plan (make_room_seals plan t) t) order (room-goes plan t done others all e h).has

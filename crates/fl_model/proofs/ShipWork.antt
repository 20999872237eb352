-- What a ship leaves in the copy, however it ends.
use Rattle.std.proofs.Common.{◌≡◌, ℕ, zero, suc, ◌+◌, ◌-◌, ◌<◌, ◌≤◌, Bool, cond, Option, Some, None, List, [], ◌∷◌, ◌++◌, length, map, take, drop, refl, sym, ◌∙◌, ap, subst, arith, ◌⊎◌, inl, inr, MatchOption, length-append}
use Rattle.std.proofs.lemmas.List.{drop-drop, drop-take, take_all, take-append-le, drop-append-le, append-nil, drop_all, append_assoc}
use Rattle.std.proofs.Math.Seq.{take-append_seam, drop-length}
use Rattle.std.proofs.lemmas.Bool.{cases_lt}
use Rattle.fl_base.specs.declared.types.CutKind.{CutKind}
use Rattle.fl_model.specs.Record.{Record, Plan}
use Rattle.fl_model.specs.Table.{Table, Entry, RingName, DataRing, IndexRing, VarRing, LogRing, refusal_of, Refusal, table_seals, make_room_seals, join_seals, put_joined, with_room, after_seal, after_seals, lose}
use Rattle.fl_model.specs.Work.{Kind, Body, Mark, VoidMark, Erase, effect, Ending, AsBefore, AsAfter, Either, Leaves, ending_of, Device, cut_now, counted, PartEnd, Whole, CutIn, FailedIn, PartProgress, PartFirst}
use Rattle.fl_model.specs.Within.{seals_within, effect_within, TablePerforms}
use Rattle.fl_model.specs.Puts.{TablePuts, TablePutGoesOn}
use Rattle.fl_model.specs.Ship.{records_in, KeepsOf}
use Rattle.fl_model.specs.ShipWork.{TableShips, ShipKeeps}
use Rattle.fl_model.proofs.Lists.{drop_none}

-- so many of the first records went
pub record Drops (before after : List Record) : Type 0 where
  pub gone : ℕ
  pub is : after ≡ drop gone before

pub drops-none : (xs : List Record) → Drops xs xs
drops-none xs = record { gone = 0; is = sym (drop_none xs) }

pub drops-trans : (xs ys zs : List Record) → Drops xs ys → Drops ys zs → Drops xs zs
drops-trans xs ys zs h k = record { gone = h.gone + k.gone; is = k.is ∙ (ap (drop k.gone) h.is ∙ drop-drop k.gone h.gone xs) }

pub map-drop : (n : ℕ) (xs : List Entry) → map (λ (e : Entry). e.kept) (drop n xs) ≡ drop n (map (λ (e : Entry). e.kept) xs)
map-drop zero [] = refl
map-drop (suc n) [] = refl
map-drop zero (x ∷ xs) = refl
map-drop (suc n) (x ∷ xs) = map-drop n xs

pub map-take : (n : ℕ) (xs : List Entry) → map (λ (e : Entry). e.kept) (take n xs) ≡ take n (map (λ (e : Entry). e.kept) xs)
map-take zero [] = refl
map-take (suc n) [] = refl
map-take zero (x ∷ xs) = refl
map-take (suc n) (x ∷ xs) = ap (λ ys. x.kept ∷ ys) (map-take n xs)

pub map-append : (xs ys : List Entry) → map (λ (e : Entry). e.kept) (xs ++ ys) ≡ map (λ (e : Entry). e.kept) xs ++ map (λ (e : Entry). e.kept) ys
map-append [] ys = refl
map-append (x ∷ xs) ys = ap (λ zs. x.kept ∷ zs) (map-append xs ys)

-- each operation, and each seal, drops some
pub effect-drops : (plan : Plan) (ring : RingName) (kind : Kind) (t : Table) → Drops (records_in t) (records_in (effect plan ring kind t))
effect-drops plan DataRing Body t = drops-none (records_in t)
effect-drops plan DataRing Mark t = record { gone = _; is = map-drop _ t.entries }
effect-drops plan DataRing VoidMark t = record { gone = _; is = map-drop _ t.entries }
effect-drops plan DataRing Erase t = drops-none (records_in t)
effect-drops plan IndexRing Body t = drops-none (records_in t)
effect-drops plan IndexRing Mark t = drops-none (records_in t)
effect-drops plan IndexRing VoidMark t = drops-none (records_in t)
effect-drops plan IndexRing Erase t = drops-none (records_in t)
effect-drops plan VarRing Body t = drops-none (records_in t)
effect-drops plan VarRing Mark t = drops-none (records_in t)
effect-drops plan VarRing VoidMark t = drops-none (records_in t)
effect-drops plan VarRing Erase t = drops-none (records_in t)
effect-drops plan LogRing Body t = drops-none (records_in t)
effect-drops plan LogRing Mark t = drops-none (records_in t)
effect-drops plan LogRing VoidMark t = drops-none (records_in t)
effect-drops plan LogRing Erase t = drops-none (records_in t)

pub seal-drops : (plan : Plan) (ring : RingName) (t : Table) → Drops (records_in t) (records_in (after_seal plan ring t))
seal-drops plan DataRing t = record { gone = _; is = map-drop _ t.entries }
seal-drops plan IndexRing t = drops-none (records_in t)
seal-drops plan VarRing t = drops-none (records_in t)
seal-drops plan LogRing t = drops-none (records_in t)

pub seals-drop : (plan : Plan) (rings : List RingName) (t : Table) → Drops (records_in t) (records_in (after_seals plan rings t))
seals-drop plan [] t = drops-none (records_in t)
seals-drop plan (ring ∷ rings) t = drops-trans (records_in t) (records_in (after_seal plan ring t)) (records_in (after_seals plan (ring ∷ rings) t)) (seal-drops plan ring t) (seals-drop plan rings (after_seal plan ring t))

pub leaves-drops : (ending : Ending) (before after left : Table) → Drops (records_in before) (records_in after) → Leaves ending before after left → Drops (records_in before) (records_in left)
leaves-drops AsBefore before after left h e = subst (λ (t : Table). Drops (records_in before) (records_in t)) (sym e) (drops-none (records_in before))
leaves-drops AsAfter before after left h e = subst (λ (t : Table). Drops (records_in before) (records_in t)) (sym e) h
leaves-drops Either before after left h (inl e) = subst (λ (t : Table). Drops (records_in before) (records_in t)) (sym e) (drops-none (records_in before))
leaves-drops Either before after left h (inr e) = subst (λ (t : Table). Drops (records_in before) (records_in t)) (sym e) h

-- .. and operations, however they end
pub performs-drops : (plan : Plan) (rose : Bool) (operations : List (RingName × Kind)) (device : Device) (t : Table) (now : PartProgress Table) → TablePerforms plan rose operations device t now → Drops (records_in t) (records_in now.state)
performs-drops plan rose [] device t now h = subst (λ (u : Table). Drops (records_in t) (records_in u)) (sym h.2) (drops-none (records_in t))
performs-drops plan rose (operation ∷ operations) device t now h =
    first (cut_now device) h (λ g. performs-drops plan rose operations (counted operation.1 device) (effect_within plan operation t) now g)
  where
    one : Drops (records_in t) (records_in (effect_within plan operation t))
    one = effect-drops plan operation.0 operation.1 t

    first : (cut : Option CutKind) → PartFirst rose cut operation.1 device t (effect_within plan operation t) now (TablePerforms plan rose operations (counted operation.1 device) (effect_within plan operation t) now) →
        (TablePerforms plan rose operations (counted operation.1 device) (effect_within plan operation t) now → Drops (records_in (effect_within plan operation t)) (records_in now.state)) → Drops (records_in t) (records_in now.state)
    first (Some c) h go = leaves-drops (cond rose Either (ending_of c operation.1)) t (effect_within plan operation t) now.state one h.2
    first None (inl h) go = leaves-drops Either t (effect_within plan operation t) now.state one h.3
    first None (inr h) go = drops-trans (records_in t) (records_in (effect_within plan operation t)) (records_in now.state) one (go h)

-- ---- what is kept of all that was had and given

-- the table has all that was given so far, but for its oldest records
record Has (all here : List Record) : Type 0 where
  gone : ℕ
  few : gone ≤ length all
  is : here ≡ drop gone all

has-drops : (all xs ys : List Record) → Has all xs → Drops xs ys → Has all ys
has-drops all xs ys h k = by_order (cases_lt (length all) (h.gone + k.gone))
  where
    whole : ys ≡ drop (h.gone + k.gone) all
    whole = k.is ∙ (ap (drop k.gone) h.is ∙ drop-drop k.gone h.gone all)

    by_order : (length all < h.gone + k.gone) ⊎ (h.gone + k.gone ≤ length all) → Has all ys
    by_order (inl lt) = record { gone = length all; few = omega arith; is = whole ∙ (drop_all (h.gone + k.gone) all (omega (arith, lt)) ∙ sym (drop-length all)) }
    by_order (inr le) = record { gone = h.gone + k.gone; few = le; is = whole }

has-more : (all xs more : List Record) → Has all xs → Has (all ++ more) (xs ++ more)
has-more all xs more h = record { gone = h.gone; few = (let l = length-append all more in let f = h.few in omega (arith, f, l)); is = ap (λ ys. ys ++ more) h.is ∙ sym (drop-append-le h.gone all more h.few) }

-- where it stops
stops-keep : (held given rest : List Record) (t : Table) → Has (held ++ given) (records_in t) → KeepsOf held (given ++ rest) (records_in (lose t))
stops-keep held given rest t h = by_order (cases_lt (length (held ++ given)) (h.gone + k))
  where
    k : ℕ
    k = length t.entries - t.pending

    all : List Record
    all = held ++ given

    front : records_in (lose t) ≡ drop h.gone (take (h.gone + k) all)
    front = map-take k t.entries ∙ (ap (take k) h.is ∙ sym (drop-take h.gone k all))

    by_order : (length all < h.gone + k) ⊎ (h.gone + k ≤ length all) → KeepsOf held (given ++ rest) (records_in (lose t))
    by_order (inr le) = record { given_up = h.gone; first = h.gone + k; kept = front ∙ ap (drop h.gone) (sym (take-append-le (h.gone + k) all rest le) ∙ ap (take (h.gone + k)) (append_assoc held given rest)) }
    by_order (inl lt) = record {
      given_up = h.gone;
      first = length all;
      kept = front ∙ ap (drop h.gone) (take_all (h.gone + k) all (omega (arith, lt)) ∙ (sym (take-append_seam all rest) ∙ ap (take (length all)) (append_assoc held given rest)));
    }

-- a record joins
joined-has : (plan : Plan) (item : Record) (t : Table) (all : List Record) → Has all (records_in t) → Has (all ++ item ∷ []) (records_in (put_joined plan item t))
joined-has plan item t all h =
    let room = with_room plan t in
    let more = has-more all (records_in room) (item ∷ []) (has-drops all (records_in t) (records_in room) h (seals-drop plan (make_room_seals plan t) t)) in
    record { gone = more.gone; few = more.few; is = map-append room.entries _ ∙ more.is }

ships-keep : (plan : Plan) (rose : Bool) (items : List Record) (device : Device) (t : Table) (now : PartProgress Table) (held given : List Record) → Has (held ++ given) (records_in t) →
    TableShips plan rose items device t now → KeepsOf held (given ++ items) (records_in (lose now.state))
ships-keep plan rose [] device t now held given h did =
    stops-keep held given [] now.state (has-drops (held ++ given) (records_in t) (records_in now.state) h (performs-drops plan rose (seals_within plan (table_seals plan t) t) device t now did))
ships-keep plan rose (item ∷ items) device t now held given h did =
    by_refusal (refusal_of plan t item) did (λ mid g has. ships-keep plan rose items mid.device mid.state now held (given ++ item ∷ []) has g)
  where
    with_item : KeepsOf held ((given ++ item ∷ []) ++ items) (records_in (lose now.state)) → KeepsOf held (given ++ item ∷ items) (records_in (lose now.state))
    with_item k = subst (λ xs. KeepsOf held xs (records_in (lose now.state))) (append_assoc given (item ∷ []) items) k

    -- what a put leaves: all but the record, or with it
    put-has : (mid : PartProgress Table) → TablePuts plan rose item device t mid → Has (held ++ given) (records_in mid.state) ⊎ Has (held ++ (given ++ item ∷ [])) (records_in mid.state)
    put-has mid (seals, put, goes) = by_end seals.end goes
      where
        at_seals : Has (held ++ given) (records_in seals.state)
        at_seals = has-drops (held ++ given) (records_in t) (records_in seals.state) h (performs-drops plan rose (seals_within plan (make_room_seals plan t) t) device t seals put)

        by_end : (o : PartEnd Table) → TablePutGoesOn o seals mid (TablePerforms plan rose (seals_within plan (join_seals plan (put_joined plan item t)) (put_joined plan item t)) seals.device (put_joined plan item t) mid) →
            Has (held ++ given) (records_in mid.state) ⊎ Has (held ++ (given ++ item ∷ [])) (records_in mid.state)
        by_end Whole g =
            let joined = joined-has plan item t (held ++ given) h in
            inr (subst (λ xs. Has xs (records_in mid.state)) (append_assoc held given (item ∷ []))
            (has-drops ((held ++ given) ++ item ∷ []) (records_in (put_joined plan item t)) (records_in mid.state) joined (performs-drops plan rose (seals_within plan (join_seals plan (put_joined plan item t)) (put_joined plan item t)) seals.device (put_joined plan item t) mid g)))
        by_end (CutIn b) g = inl (subst (λ (x : PartProgress Table). Has (held ++ given) (records_in x.state)) (sym g) at_seals)
        by_end (FailedIn b) g = inl (subst (λ (x : PartProgress Table). Has (held ++ given) (records_in x.state)) (sym g) at_seals)

    stops : (mid : PartProgress Table) → Has (held ++ given) (records_in mid.state) ⊎ Has (held ++ (given ++ item ∷ [])) (records_in mid.state) → now ≡ mid → KeepsOf held (given ++ item ∷ items) (records_in (lose now.state))
    stops mid (inl k) e = stops-keep held given (item ∷ items) now.state (subst (λ (x : PartProgress Table). Has (held ++ given) (records_in x.state)) (sym e) k)
    stops mid (inr k) e = with_item (stops-keep held (given ++ item ∷ []) items now.state (subst (λ (x : PartProgress Table). Has (held ++ (given ++ item ∷ [])) (records_in x.state)) (sym e) k))

    goes_on : (mid : PartProgress Table) (o : PartEnd Table) → mid.end ≡ o → TablePuts plan rose item device t mid → TablePutGoesOn o mid now (TableShips plan rose items mid.device mid.state now) →
        ((mid : PartProgress Table) → TableShips plan rose items mid.device mid.state now → Has (held ++ (given ++ item ∷ [])) (records_in mid.state) → KeepsOf held ((given ++ item ∷ []) ++ items) (records_in (lose now.state))) →
        KeepsOf held (given ++ item ∷ items) (records_in (lose now.state))
    goes_on mid Whole q put g go = with_item (go mid g (whole_has put q))
      where
        whole_has : TablePuts plan rose item device t mid → mid.end ≡ Whole → Has (held ++ (given ++ item ∷ [])) (records_in mid.state)
        whole_has (seals, first, goes) w = by_end seals.end refl goes
          where
            by_end : (o : PartEnd Table) → seals.end ≡ o → TablePutGoesOn o seals mid (TablePerforms plan rose (seals_within plan (join_seals plan (put_joined plan item t)) (put_joined plan item t)) seals.device (put_joined plan item t) mid) → Has (held ++ (given ++ item ∷ [])) (records_in mid.state)
            by_end Whole z g =
                subst (λ xs. Has xs (records_in mid.state)) (append_assoc held given (item ∷ []))
                (has-drops ((held ++ given) ++ item ∷ []) (records_in (put_joined plan item t)) (records_in mid.state) (joined-has plan item t (held ++ given) h) (performs-drops plan rose (seals_within plan (join_seals plan (put_joined plan item t)) (put_joined plan item t)) seals.device (put_joined plan item t) mid g))
            by_end (CutIn b) z g = absurd (not_cut (sym z ∙ (ap (λ (x : PartProgress Table). x.end) (sym g) ∙ w)))
              where
                not_cut : CutIn b ≡ Whole → ⊥
                not_cut e = cc
            by_end (FailedIn b) z g = absurd (not_failed (sym z ∙ (ap (λ (x : PartProgress Table). x.end) (sym g) ∙ w)))
              where
                not_failed : FailedIn b ≡ Whole → ⊥
                not_failed e = cc
    goes_on mid (CutIn b) q put g go = stops mid (put-has mid put) g
    goes_on mid (FailedIn b) q put g go = stops mid (put-has mid put) g

    by_refusal : (o : Option Refusal) →
        MatchOption o ((mid : PartProgress Table) × TablePuts plan rose item device t mid × TablePutGoesOn mid.end mid now (TableShips plan rose items mid.device mid.state now)) (λ refusal. now ≡ record { end = Whole; device = device; state = t }) →
        ((mid : PartProgress Table) → TableShips plan rose items mid.device mid.state now → Has (held ++ (given ++ item ∷ [])) (records_in mid.state) → KeepsOf held ((given ++ item ∷ []) ++ items) (records_in (lose now.state))) →
        KeepsOf held (given ++ item ∷ items) (records_in (lose now.state))
    by_refusal (Some refusal) e go = stops-keep held given (item ∷ items) now.state (subst (λ (x : PartProgress Table). Has (held ++ given) (records_in x.state)) (sym e) h)
    by_refusal None (mid, put, g) go = goes_on mid mid.end refl put g go

pub keeps : ShipKeeps
keeps plan rose items device table now did =
    ships-keep plan rose items device table now (records_in table) [] (record { gone = 0; few = omega arith; is = sym (drop_none (records_in table ++ []) ∙ append-nil (records_in table)) }) did

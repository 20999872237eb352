-- What a table keeps of records that are put into it in their order, however that ends.
use Rattle.std.proofs.Common.{◌≡◌, ℕ, suc, ◌+◌, ◌-◌, ◌<◌, ◌≤◌, min, ◌⊎◌, inl, inr, Bool, Some, Ok, Err, List, [], ◌∷◌, ◌++◌, length, take, drop, refl, sym, ◌∙◌, ap, subst, append_assoc, append-nil, arith}
use Rattle.std.specs.List.{slice_get}
use Rattle.std.proofs.lemmas.Bool.{cases_lt}
use Rattle.std.proofs.lemmas.List.{drop_min, drop-take, drop-append-le, length-take, take_at, take_all, take-take, take-append-drop}
use Rattle.fl_model.specs.Puts.{TablePuts, TablePutGoesOn}
use Rattle.fl_model.specs.Record.{Record, Plan}
use Rattle.fl_model.specs.Ship.{KeepsOf, records_in}
use Rattle.fl_model.specs.Table.{Table, put_record, put_joined, with_room, make_room_seals, join_seals, table_seals, lose}
use Rattle.fl_model.specs.Within.{seals_within, TablePerforms}
use Rattle.fl_model.specs.Work.{Device, PartEnd, Whole, CutIn, FailedIn, PartProgress}
use Rattle.fl_model.proofs.ShipWork.{Drops, drops-none, drops-trans, seals-drop, map-take, map-append, performs-drops}
use Rattle.fl_model.proofs.Lists.{drop-at}
use Rattle.fl_flash.specs.declared.flash.FlashFault.TheVariants as flash
use Rattle.fl_table.specs.declared.faults.FlushFault.TheVariants as flush
use Rattle.fl_table.specs.declared.faults.PutRefusal.TheVariants as put
use Rattle.fl_store.specs.Works.{FailsInPut, FailsInFlush}
use Rattle.fl_ship.specs.Puts.{HasPut, ShipsKeep, put_all}
use Rattle.fl_ship.specs.declared.fault.ShipFault.TheVariants.{Read, Put, Flush}

-- ---- lists of which the oldest records went

drops-more : (xs ys more : List Record) → Drops xs ys → Drops (xs ++ more) (ys ++ more)
drops-more xs ys more h =
    record { gone = min h.gone (length xs); is = ap (λ (zs : List Record). zs ++ more) (h.is ∙ sym (drop_min h.gone xs)) ∙ sym (drop-append-le (min h.gone (length xs)) xs more (omega arith)) }

-- records that were had and given, but for the oldest of them, and more was to be given
keeps-front : (held front more left : List Record) → Drops (held ++ front) left → KeepsOf held (front ++ more) left
keeps-front held front more left h = record {
  given_up = h.gone;
  first = length (held ++ front);
  kept = h.is ∙ ap (drop h.gone) (sym (ap (take (length (held ++ front))) (sym (append_assoc held front more)) ∙ take_at (held ++ front) more (length (held ++ front)) refl));
}

-- .. of which a front is kept
keeps-less : (held given left : List Record) (k : ℕ) → KeepsOf held given left → KeepsOf held given (take k left)
keeps-less held given left k h = by-order (cases_lt h.first (h.given_up + k))
  where
    all : List Record
    all = held ++ given

    front : take k left ≡ drop h.given_up (take (h.given_up + k) (take h.first all))
    front = ap (take k) h.kept ∙ sym (drop-take h.given_up k (take h.first all))

    by-order : (h.first < h.given_up + k) ⊎ (h.given_up + k ≤ h.first) → KeepsOf held given (take k left)
    by-order (inl lt) =
        let short = length-take h.first all in
        record { given_up = h.given_up; first = h.first; kept = front ∙ ap (drop h.given_up) (take_all (h.given_up + k) (take h.first all) (omega (arith, short, lt))) }
    by-order (inr le) = record { given_up = h.given_up; first = h.given_up + k; kept = front ∙ ap (drop h.given_up) (take-take (h.given_up + k) h.first all le) }

-- ---- a table

-- what is in memory alone is lost
keeps-lost : (held given : List Record) (t : Table) → KeepsOf held given (records_in t) → KeepsOf held given (records_in (lose t))
keeps-lost held given t h = subst (λ (l : List Record). KeepsOf held given l) (sym (map-take (length t.entries - t.pending) t.entries)) (keeps-less held given (records_in t) (length t.entries - t.pending) h)

drops-joined : (plan : Plan) (item : Record) (t : Table) → Drops (records_in t ++ item ∷ []) (records_in (put_joined plan item t))
drops-joined plan item t =
    let room = with_room plan t in
    let front = drops-more (records_in t) (records_in room) (item ∷ []) (seals-drop plan (make_room_seals plan t) t) in
    record { gone = front.gone; is = map-append room.entries _ ∙ front.is }

drops-put : (plan : Plan) (item : Record) (t : Table) → Drops (records_in t ++ item ∷ []) (records_in (put_record plan item t))
drops-put plan item t =
    let joined = put_joined plan item t in
    drops-trans (records_in t ++ item ∷ []) (records_in joined) (records_in (put_record plan item t)) (drops-joined plan item t) (seals-drop plan (join_seals plan joined) joined)

drops-all : (plan : Plan) (items : List Record) (t : Table) → Drops (records_in t ++ items) (records_in (put_all plan items t))
drops-all plan [] t = subst (λ (l : List Record). Drops l (records_in t)) (sym (append-nil (records_in t))) (drops-none (records_in t))
drops-all plan (item ∷ items) t =
    let first = subst (λ (l : List Record). Drops l (records_in (put_record plan item t) ++ items)) (append_assoc (records_in t) (item ∷ []) items) (drops-more (records_in t ++ item ∷ []) (records_in (put_record plan item t)) items (drops-put plan item t)) in
    drops-trans (records_in t ++ item ∷ items) (records_in (put_record plan item t) ++ items) (records_in (put_all plan items (put_record plan item t))) first (drops-all plan items (put_record plan item t))

-- .. in the put of a record
drops-puts : (plan : Plan) (rose : Bool) (item : Record) (device : Device) (t : Table) (now : PartProgress Table) → TablePuts plan rose item device t now →
    Drops (records_in t) (records_in now.state) ⊎ Drops (records_in t ++ item ∷ []) (records_in now.state)
drops-puts plan rose item device t now (mid, did, goes) = by-end mid.end goes
  where
    joined : Table
    joined = put_joined plan item t

    room : Drops (records_in t) (records_in mid.state)
    room = performs-drops plan rose (seals_within plan (make_room_seals plan t) t) device t mid did

    by-end : (end : PartEnd Table) → TablePutGoesOn end mid now (TablePerforms plan rose (seals_within plan (join_seals plan joined) joined) mid.device joined now) →
        Drops (records_in t) (records_in now.state) ⊎ Drops (records_in t ++ item ∷ []) (records_in now.state)
    by-end Whole others = inr (drops-trans (records_in t ++ item ∷ []) (records_in joined) (records_in now.state) (drops-joined plan item t) (performs-drops plan rose (seals_within plan (join_seals plan joined) joined) mid.device joined now others))
    by-end (CutIn before) same = inl (subst (λ (p : PartProgress Table). Drops (records_in t) (records_in p.state)) (sym same) room)
    by-end (FailedIn before) same = inl (subst (λ (p : PartProgress Table). Drops (records_in t) (records_in p.state)) (sym same) room)

-- ---- however a ship ends

module _ (plan : Plan) (given : List Record) (table : Table) where
  -- so many of the records were put
  drops-some : (n : ℕ) (mid after : Table) → HasPut plan given n table mid → Drops (records_in mid) (records_in after) → Drops (records_in table ++ take n given) (records_in after)
  drops-some n mid after h drops =
      drops-trans (records_in table ++ take n given) (records_in mid) (records_in after) (subst (λ (t : Table). Drops (records_in table ++ take n given) (records_in t)) (sym h.after_is) (drops-all plan (take n given) table)) drops

  pub keeps-some : (n : ℕ) (mid after : Table) → HasPut plan given n table mid → Drops (records_in mid) (records_in after) → KeepsOf (records_in table) given (records_in after)
  keeps-some n mid after h drops =
      subst (λ (l : List Record). KeepsOf (records_in table) l (records_in after)) (take-append-drop n given)
      (keeps-front (records_in table) (take n given) (drop n given) (records_in after) (drops-some n mid after h drops))

  -- .. and then there was one more, of which the put ended somehow
  pub keeps-next : (n : ℕ) (item : Record) (mid : Table) → slice_get given n ≡ Some item → HasPut plan given n table mid → (rose : Bool) (device : Device) (now : PartProgress Table) → TablePuts plan rose item device mid now →
      KeepsOf (records_in table) given (records_in now.state)
  keeps-next n item mid here h rose device now did = by-put (drops-puts plan rose item device mid now did)
    where
      held : List Record
      held = records_in table

      whole : (take n given ++ item ∷ []) ++ drop (suc n) given ≡ given
      whole = append_assoc (take n given) (item ∷ []) (drop (suc n) given) ∙ (ap (λ (l : List Record). take n given ++ l) (sym (drop-at given n item here)) ∙ take-append-drop n given)

      all : Drops (held ++ (take n given ++ item ∷ [])) (records_in mid ++ item ∷ [])
      all = subst (λ (l : List Record). Drops l (records_in mid ++ item ∷ [])) (append_assoc held (take n given) (item ∷ [])) (drops-more (held ++ take n given) (records_in mid) (item ∷ []) (drops-some n mid mid h (drops-none (records_in mid))))

      by-put : Drops (records_in mid) (records_in now.state) ⊎ Drops (records_in mid ++ item ∷ []) (records_in now.state) → KeepsOf held given (records_in now.state)
      by-put (inl drops) = keeps-some n mid now.state h drops
      by-put (inr drops) =
          subst (λ (l : List Record). KeepsOf held l (records_in now.state)) whole
          (keeps-front held (take n given ++ item ∷ []) (drop (suc n) given) (records_in now.state) (drops-trans (held ++ (take n given ++ item ∷ [])) (records_in mid ++ item ∷ []) (records_in now.state) all drops))

  -- the table, and what is left of it without what is in memory alone
  pub both : (after : Table) → KeepsOf (records_in table) given (records_in after) → KeepsOf (records_in table) given (records_in after) × KeepsOf (records_in table) given (records_in (lose after))
  both after k = (k, keeps-lost (records_in table) given after k)

  keeps-broken : (n : ℕ) (item : Record) (mid after : Table) → slice_get given n ≡ Some item → HasPut plan given n table mid → FailsInPut plan item mid after → KeepsOf (records_in table) given (records_in after)
  keeps-broken n item mid after here h fails = subst (λ (t : Table). KeepsOf (records_in table) given (records_in t)) (sym fails.left_is) (keeps-next n item mid here h _ fails.device fails.now fails.did)

  keeps-unflushed : (n : ℕ) (mid after : Table) → HasPut plan given n table mid → FailsInFlush plan mid after → KeepsOf (records_in table) given (records_in after)
  keeps-unflushed n mid after h fails =
      subst (λ (t : Table). KeepsOf (records_in table) given (records_in t)) (sym fails.left_is)
      (keeps-some n mid fails.now.state h (performs-drops plan _ (seals_within plan (table_seals plan mid) mid) fails.device mid fails.now fails.did))

pub ships-keep : ShipsKeep
ships-keep plan given table (Ok n) after (all, (mid, put, is)) =
    both plan given table after (keeps-some plan given table n mid after put (subst (λ (t : Table). Drops (records_in mid) (records_in t)) (sym is) (seals-drop plan (table_seals plan mid) mid)))
ships-keep plan given table (Err (Read fault)) after (n, put) = both plan given table after (keeps-some plan given table n after after put (drops-none (records_in after)))
ships-keep plan given table (Err (Put put.Spent)) after (item, comes, refused) = both plan given table after (keeps-some plan given table comes.n after after comes.has_put (drops-none (records_in after)))
ships-keep plan given table (Err (Put (put.Flash flash.Media))) after (item, (before, comes, accepted, fails)) =
    both plan given table after (keeps-broken plan given table comes.n item before after comes.next comes.has_put fails)
ships-keep plan given table (Err (Put (put.Flash flash.PowerLost))) after none = absurd none
ships-keep plan given table (Err (Put (put.Key last))) after none = absurd none
ships-keep plan given table (Err (Put (put.Columns wanted))) after none = absurd none
ships-keep plan given table (Err (Put (put.Value column))) after none = absurd none
ships-keep plan given table (Err (Put (put.Blob limit))) after none = absurd none
ships-keep plan given table (Err (Put put.Stopped)) after none = absurd none
ships-keep plan given table (Err (Flush (flush.Flash flash.Media))) after (all, put, fails) = both plan given table after (keeps-unflushed plan given table (length given) all after put fails)
ships-keep plan given table (Err (Flush (flush.Flash flash.PowerLost))) after none = absurd none
ships-keep plan given table (Err (Flush flush.Stopped)) after none = absurd none

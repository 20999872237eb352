-- A blob that is placed: a full buffer is sealed first, and then its bytes are written.
use Rattle.std.proofs.Common.{◌≡◌, ℕ, ◌+◌, ◌-◌, ◌*◌, ◌/◌, ◌<◌, ◌≤◌, inl, inr, Bool, true, false, cond, ◌||◌, ◌==◌, Option, Some, unwrap_or, Result, Ok, Err, List, [], ◌∷◌, ◌++◌, length, take, drop, replicate, refl, sym, ◌∙◌, ap, subst, arith, length-append}
use Rattle.std.specs.Prelude.{option_map, OnOk}
use Rattle.std.proofs.lemmas.Bool.{eq-eqb, eqb-true, cases_Bool, ne_eqb, lt-ltb, le-ltb, false≢true}
use Rattle.std.proofs.lemmas.List.{append-nil, drop-drop, drop_at, take_all, take_at, drop_all}
use Rattle.std.proofs.Math.Nat.{div-eq_of_lt, mul-add-div_right}
use Rattle.fl_base.specs.declared.types.BlobRef.{BlobRef}
use Rattle.fl_base.specs.declared.types.Geometry.{Geometry}
use Rattle.fl_flash.specs.Flash.{FlashState, Goes}
use Rattle.fl_flash.specs.declared.flash.FlashFault.{FlashFault}
use Rattle.fl_model.specs.Record.{Record, Plan, content_per_page}
use Rattle.fl_model.specs.Ring.{Ring}
use Rattle.fl_model.specs.Table.{Table, RingName, VarRing, fill, blob_len, after_seals, fill_seals, with_record, start_page, start_offset}
use Rattle.fl_model.specs.Work.{Device}
use Rattle.fl_model.proofs.Lists.{drop_none}
use Rattle.fl_frame.specs.Watched.{IsWatched}
use Rattle.fl_ring.specs.Written.{Writes}
use Rattle.fl_ring.proofs.Written.{writes-wider}
use Rattle.fl_var.specs.Memory.{next_in, oldest_in, oldest_after, waiting_in, room_in, IsOnRing, IsPlanned, IsSamePlan}
use Rattle.fl_var.specs.Placing.{Seals, Breaks, EndsWith, Finishes, PlaceEnds, RestEnds, where_placed, is_full_in, room_seals, rest_seals, pages_placed}
use Rattle.fl_var.specs.Standing.{Stands, HasRing}
use Rattle.fl_var.specs.declared.var_data.VarData.{VarData}
use Rattle.fl_var.proofs.Joins.{has-joined, seals-none, seals-join, breaks-join, breaks-front, buffered-after, replicate-split}
use Rattle.fl_frame.proofs.WatchedInTurn.{watched-then}
use Rattle.fl_var.proofs.OldestKept.{after-then}
use Rattle.fl_var.proofs.Written.{writes-both}
use Rattle.fl_var.proofs.PageImages.{waiting-length, waiting-room}
use Rattle.fl_var.proofs.SealsInTable.{room-planned}

-- the buffer is full where its body is
pub full-same : (v : VarData) → (8 + v.waiting.fill == length v.waiting.body) ≡ is_full_in v
full-same v = by_test (is_full_in v) refl
  where
    by_test : (b : Bool) → is_full_in v ≡ b → (8 + v.waiting.fill == length v.waiting.body) ≡ b
    by_test true e =
        let same : length (waiting_in v) ≡ room_in v = eqb-true (length (waiting_in v)) (room_in v) e in
        eq-eqb (8 + v.waiting.fill) (length v.waiting.body) (omega (arith, same, waiting-length v, v.page, v.served.page_least))
    by_test false e = elim (cases_Bool (8 + v.waiting.fill == length v.waiting.body)) [
      | inl yes_full ↦
          let same : 8 + v.waiting.fill ≡ length v.waiting.body = eqb-true (8 + v.waiting.fill) (length v.waiting.body) yes_full in
          absurd (false≢true (sym e ∙ eq-eqb (length (waiting_in v)) (room_in v) (omega (arith, same, waiting-length v, v.page))))
      | inr not_full ↦ not_full
    ]

-- a full buffer was sealed
pub room-sealed : (plan : Plan) (table : Table) (rose : Bool) (device : Device) (old : VarData) (old_f : FlashState) (full : Bool) (result : Result (Unit {0}) FlashFault) (v : VarData) (new : FlashState) → full ≡ true →
    EndsWith plan (VarRing ∷ []) table rose device old old_f result v new → EndsWith plan (room_seals full) table rose device old old_f result v new
room-sealed plan table rose device old old_f full result v new e ends = subst (λ (b : Bool). EndsWith plan (room_seals b) table rose device old old_f result v new) (sym e) ends

pub room-left : (plan : Plan) (table : Table) (rose : Bool) (device : Device) (v : VarData) (f : FlashState) (full : Bool) → full ≡ false → IsWatched f f rose device → HasRing v f plan table → Seals plan (room_seals full) table rose device v f v f
room-left plan table rose device v f full e watched has =
    subst (λ (b : Bool). Seals plan (room_seals b) table rose device v f v f) (sym e) (seals-none plan table rose device v v f refl (record { geometry = refl; place = refl }) has watched)

-- the bytes of the page that makes room are those in the full buffer
pub room-waits : (v : VarData) (plan : Plan) (buffered rest : List ℕ) → IsPlanned v plan → is_full_in v ≡ true → buffered ≡ waiting_in v ++ rest → take (content_per_page plan) buffered ≡ waiting_in v
room-waits v plan buffered rest planned full e =
    ap (take (content_per_page plan)) e
    ∙ take_at (waiting_in v) rest (content_per_page plan) (eqb-true (length (waiting_in v)) (room_in v) full ∙ sym (room-planned v plan planned))

-- the pages that are sealed for a blob: one that makes room where the buffer is full, and those that its bytes fill then
module _ (v : VarData) (bytes : List ℕ) (some : 1 ≤ length bytes) where
  wide : 0 < room_in v
  wide = omega (arith, v.served.page_least)

  full-size : is_full_in v ≡ true → length (waiting_in v) ≡ room_in v
  full-size e = eqb-true (length (waiting_in v)) (room_in v) e

  abbrev pub pages_then : ℕ
  pages_then = (length (cond (is_full_in v) [] (waiting_in v)) + length bytes - 1) / room_in v

  pub pages-parted : pages_placed v (length bytes) ≡ cond (is_full_in v) 1 0 + (length (cond (is_full_in v) [] (waiting_in v)) + length bytes - 1) / room_in v
  pages-parted = by_full (is_full_in v) refl
    where
      by_full : (b : Bool) → is_full_in v ≡ b → pages_placed v (length bytes) ≡ cond b 1 0 + (length (cond b [] (waiting_in v)) + length bytes - 1) / room_in v
      by_full true e =
          let sum : length (waiting_in v) + length bytes - 1 ≡ 1 * room_in v + (length bytes - 1) = omega (arith, full-size e, some) in
          let none : 0 + length bytes - 1 ≡ length bytes - 1 = omega arith in
          ap (λ n. n / room_in v) sum ∙ (mul-add-div_right wide 1 (length bytes - 1) ∙ ap (λ n. 1 + n / room_in v) (sym none))
      by_full false e = omega arith

  pub full-placed : is_full_in v ≡ true → 1 ≤ pages_placed v (length bytes)
  full-placed e = omega (arith, pages-parted, ap {B = ℕ} (λ (b : Bool). cond b 1 0) e)

  -- a full buffer fills one of them
  pub room-writes : (f g : FlashState) → Writes (IsOnRing v) 0 (cond (is_full_in v) 1 0) f g → Writes (IsOnRing v) 0 (pages_placed v (length bytes)) f g
  room-writes f g h =
      let few : cond (is_full_in v) 1 0 ≤ pages_placed v (length bytes) = omega (arith, pages-parted) in
      writes-wider (IsOnRing v) (IsOnRing v) 0 0 (cond (is_full_in v) 1 0) (pages_placed v (length bytes)) f g (λ page may. may) (omega arith) few h

module _ (v mid : VarData) (bytes : List ℕ) (some : 1 ≤ length bytes) (same : IsSamePlan v mid) (emptied : waiting_in mid ≡ cond (is_full_in v) [] (waiting_in v)) where
  room-mid : room_in mid ≡ room_in v
  room-mid = ap (λ (g : Geometry). g.page - 16) same.geometry

  pages-mid : pages_placed mid (length bytes) ≡ (length (cond (is_full_in v) [] (waiting_in v)) + length bytes - 1) / room_in v
  pages-mid = ap (λ (l : List ℕ). (length l + length bytes - 1) / room_in mid) emptied ∙ ap (λ n. (length (cond (is_full_in v) [] (waiting_in v)) + length bytes - 1) / n) room-mid

  pages-split : pages_placed v (length bytes) ≡ cond (is_full_in v) 1 0 + pages_placed mid (length bytes)
  pages-split = pages-parted v bytes some ∙ ap (λ n. cond (is_full_in v) 1 0 + n) (sym pages-mid)

  -- the seals
  pub writes-split : (f m g : FlashState) → m.media.tells ≡ f.media.tells → Writes (IsOnRing v) 0 (cond (is_full_in v) 1 0) f m → Writes (IsOnRing mid) 0 (pages_placed mid (length bytes)) m g → Writes (IsOnRing v) 0 (pages_placed v (length bytes)) f g
  writes-split f m g tells one more =
      subst (λ n. Writes (IsOnRing v) 0 n f g) (sym pages-split) (writes-both v mid (cond (is_full_in v) 1 0) (pages_placed mid (length bytes)) f m g same tells one more)

  -- the numbers, and the reads of the medium
  pub next-split : (last : ℕ) → next_in mid ≡ cond (is_full_in v) (next_in v + 1) (next_in v) → last ≡ next_in mid + pages_placed mid (length bytes) → last ≡ next_in v + pages_placed v (length bytes)
  next-split last next e = by_full (is_full_in v) next pages-split
    where
      by_full : (b : Bool) → next_in mid ≡ cond b (next_in v + 1) (next_in v) → pages_placed v (length bytes) ≡ cond b 1 0 + pages_placed mid (length bytes) → last ≡ next_in v + pages_placed v (length bytes)
      by_full true n p = omega (arith, e, n, p)
      by_full false n p = omega (arith, e, n, p)

  pub oldest-split : (w : VarData) → next_in mid ≡ cond (is_full_in v) (next_in v + 1) (next_in v) → oldest_in mid ≡ oldest_after v (cond (is_full_in v) 1 0) → oldest_in w ≡ oldest_after mid (pages_placed mid (length bytes)) →
      oldest_in w ≡ oldest_after v (pages_placed v (length bytes))
  oldest-split w next kept more = after-then v mid w (cond (is_full_in v) 1 0) (pages_placed mid (length bytes)) same (by_full (is_full_in v) next) kept more ∙ ap (oldest_after v) (sym pages-split)
    where
      by_full : (b : Bool) → next_in mid ≡ cond b (next_in v + 1) (next_in v) → next_in mid ≡ next_in v + cond b 1 0
      by_full true n = n
      by_full false n = omega (arith, n)

  pub reads-split : (old between new : ℕ) → (is_full_in v ≡ false → between ≡ old) → between ≤ old + 1 → new ≤ between + pages_placed mid (length bytes) → new ≤ old + pages_placed v (length bytes)
  reads-split old between new still one more = by_full (is_full_in v) refl pages-split
    where
      by_full : (b : Bool) → is_full_in v ≡ b → pages_placed v (length bytes) ≡ cond b 1 0 + pages_placed mid (length bytes) → new ≤ old + pages_placed v (length bytes)
      by_full true e p = omega (arith, one, more, p)
      by_full false e p = omega (arith, still e, more, p)

  pub waits-split : (left : List ℕ) → left ≡ drop (pages_placed mid (length bytes) * room_in mid) (waiting_in mid ++ bytes) → left ≡ drop (pages_placed v (length bytes) * room_in v) (waiting_in v ++ bytes)
  waits-split left e =
      let pm = pages_placed mid (length bytes) in
      e
      ∙ (ap (λ n. drop (pm * n) (waiting_in mid ++ bytes)) room-mid
      ∙ (ap (λ (l : List ℕ). drop (pm * room_in v) (l ++ bytes)) emptied
      ∙ (by_full (is_full_in v) refl ∙ ap (λ n. drop (n * room_in v) (waiting_in v ++ bytes)) (sym pages-split))))
    where
      by_full : (b : Bool) → is_full_in v ≡ b → drop (pages_placed mid (length bytes) * room_in v) (cond b [] (waiting_in v) ++ bytes) ≡ drop ((cond b 1 0 + pages_placed mid (length bytes)) * room_in v) (waiting_in v ++ bytes)
      by_full true e =
          let pm = pages_placed mid (length bytes) in
          let more : room_in v + pages_placed mid (length bytes) * room_in v ≡ (1 + pages_placed mid (length bytes)) * room_in v = omega arith in
          ap (drop (pm * room_in v)) (sym (drop_at (waiting_in v) bytes (room_in v) (full-size v bytes some e)))
          ∙ (drop-drop (pm * room_in v) (room_in v) (waiting_in v ++ bytes) ∙ ap (λ n. drop n (waiting_in v ++ bytes)) more)
      by_full false e = ap (λ n. drop (n * room_in v) (waiting_in v ++ bytes)) (let k : pages_placed mid (length bytes) ≡ 0 + pages_placed mid (length bytes) = omega arith in k)

  -- the place, by memory
  pub page-mid : next_in mid ≡ cond (is_full_in v) (next_in v + 1) (next_in v) → (table : Table) (plan : Plan) (f : FlashState) → Stands v f plan table →
      where_placed plan (length bytes) table ≡ record { page = next_in mid; offset = length (waiting_in mid); length = length bytes }
  page-mid next table plan f stands =
      let len = length bytes in
      ap (λ n. record { page = n; offset = start_offset plan len table; length = len }) page_is
      ∙ ap (λ n. record { page = next_in mid; offset = n; length = len }) offset_is
    where
      none : (length bytes == 0) ≡ false
      none = ne_eqb (length bytes) 0 (λ e. omega (arith, e, some))

      full_is : (fill table == content_per_page plan) ≡ is_full_in v
      full_is = ap (λ (l : List ℕ). length l == content_per_page plan) stands.buffered ∙ ap (λ n. length (waiting_in v) == n) (room-planned v plan stands.ring.planned)

      page_is : start_page plan (length bytes) table ≡ next_in mid
      page_is =
          ap (λ (b : Bool). cond b 0 (unwrap_or (option_map (λ (ring : Ring). ring.next) table.var) 0 + cond (fill table == content_per_page plan) 1 0)) none
          ∙ (ap (λ (o : Option Ring). unwrap_or (option_map (λ (ring : Ring). ring.next) o) 0 + cond (fill table == content_per_page plan) 1 0) stands.ring.ring_is
          ∙ (ap (λ (b : Bool). stands.ring.ring.next + cond b 1 0) full_is
          ∙ (ap (λ n. n + cond (is_full_in v) 1 0) (sym stands.ring.next) ∙ (added (is_full_in v) ∙ sym next))))
        where
          added : (b : Bool) → next_in v + cond b 1 0 ≡ cond b (next_in v + 1) (next_in v)
          added true = refl
          added false = omega arith

      offset_is : start_offset plan (length bytes) table ≡ length (waiting_in mid)
      offset_is =
          ap (λ (b : Bool). cond (b || (fill table == content_per_page plan)) 0 (fill table)) none
          ∙ (ap (λ (b : Bool). cond b 0 (fill table)) full_is
          ∙ (ap (λ (l : List ℕ). cond (is_full_in v) 0 (length l)) stands.buffered ∙ (lengths (is_full_in v) ∙ ap length (sym emptied))))
        where
          lengths : (b : Bool) → cond b 0 (length (waiting_in v)) ≡ length (cond b [] (waiting_in v))
          lengths true = refl
          lengths false = refl

-- the bytes of a record's blob joined those that wait
module _ (v : VarData) (f : FlashState) (plan : Plan) (item : Record) (table : Table) (bytes : List ℕ) (stands : Stands v f plan table) (blob_is : item.blob ≡ Some bytes) where
  abbrev joined : Table
  joined = with_record plan item table

  pub joined-has : HasRing v f plan (with_record plan item table)
  joined-has = has-joined v f plan item table stands.ring

  pub joined-bytes : (with_record plan item table).buffered ≡ waiting_in v ++ bytes
  joined-bytes = ap (λ (l : List ℕ). l ++ unwrap_or item.blob []) stands.buffered ∙ ap (λ (o : Option (List ℕ)). waiting_in v ++ unwrap_or o []) blob_is

  pub joined-len : blob_len item ≡ length bytes
  joined-len = ap (λ (o : Option (List ℕ)). unwrap_or (option_map (λ bytes. length bytes) o) 0) blob_is

  pub seals-filled : fill_seals plan (with_record plan item table) ≡ replicate (pages_placed v (length bytes)) VarRing
  seals-filled =
      let room = room-planned v plan stands.ring.planned in
      ap (λ (l : List ℕ). replicate ((length l - 1) / content_per_page plan) VarRing) joined-bytes
      ∙ (ap (λ n. replicate ((n - 1) / content_per_page plan) VarRing) (length-append (waiting_in v) bytes)
      ∙ ap (λ n. replicate ((length (waiting_in v) + length bytes - 1) / n) VarRing) room)

  -- what waits after the pages that they fill
  pub buffered-filled : (after_seals plan (fill_seals plan (with_record plan item table)) (with_record plan item table)).buffered ≡ drop (pages_placed v (length bytes) * room_in v) (waiting_in v ++ bytes)
  buffered-filled =
      let n = pages_placed v (length bytes) in
      ap (λ (xs : List RingName). (after_seals plan xs joined).buffered) seals-filled
      ∙ (buffered-after plan n joined
      ∙ (ap (λ k. drop (n * k) joined.buffered) (room-planned v plan stands.ring.planned) ∙ ap (drop (n * room_in v)) joined-bytes))

  -- one makes room where the buffer is full
  seals-room : (some : 1 ≤ length bytes) → fill_seals plan (with_record plan item table) ≡ room_seals (is_full_in v) ++ replicate (pages_then v bytes some) VarRing
  seals-room some =
      seals-filled
      ∙ (ap (λ n. replicate n VarRing) (pages-parted v bytes some)
      ∙ (sym (replicate-split (cond (is_full_in v) 1 0) (pages_then v bytes some)) ∙ ap (λ (l : List RingName). l ++ replicate (pages_then v bytes some) VarRing) (by_full (is_full_in v))))
    where
      by_full : (b : Bool) → replicate (cond b 1 0) VarRing ≡ room_seals b
      by_full true = refl
      by_full false = refl

  -- .. and could not be sealed
  pub place-breaks_room : 1 ≤ length bytes → (g : FlashState) (rose : Bool) (device : Device) (fault : FlashFault) → Breaks plan (room_seals (is_full_in v)) (with_record plan item table) rose device fault v g →
      Breaks plan (fill_seals plan (with_record plan item table)) (with_record plan item table) rose device fault v g
  place-breaks_room some g rose device fault b =
      subst (λ (xs : List RingName). Breaks plan xs joined rose device fault v g) (sym (seals-room some))
      (breaks-front plan (room_seals (is_full_in v)) (replicate (pages_then v bytes some) VarRing) joined rose device fault v g b)

  module _ (mid : VarData) (some : 1 ≤ length bytes) (same : IsSamePlan v mid) (emptied : waiting_in mid ≡ cond (is_full_in v) [] (waiting_in v)) where
    seals-parted : fill_seals plan (with_record plan item table) ≡ room_seals (is_full_in v) ++ replicate (pages_placed mid (length bytes)) VarRing
    seals-parted = seals-room some ∙ ap (λ n. room_seals (is_full_in v) ++ replicate n VarRing) (sym (pages-mid v mid bytes some same emptied))

    -- what waits where room was made
    pub buffered-room : (after_seals plan (room_seals (is_full_in v)) (with_record plan item table)).buffered ≡ waiting_in mid ++ bytes
    buffered-room = by_full (is_full_in v) refl ∙ ap (λ (l : List ℕ). l ++ bytes) (sym emptied)
      where
        by_full : (b : Bool) → is_full_in v ≡ b → (after_seals plan (room_seals b) (with_record plan item table)).buffered ≡ cond b [] (waiting_in v) ++ bytes
        by_full true e =
            let size : length (waiting_in v) ≡ content_per_page plan = full-size v bytes some e ∙ sym (room-planned v plan stands.ring.planned) in
            ap (drop (content_per_page plan)) joined-bytes ∙ drop_at (waiting_in v) bytes (content_per_page plan) size
        by_full false e = joined-bytes

    module _ (mid_f g : FlashState) (rose : Bool) (device : Device) (watched : IsWatched f g rose device) (first : Goes f mid_f) (a : Seals plan (room_seals (is_full_in v)) (with_record plan item table) rose device v f mid mid_f) where
      pub watched-second : IsWatched mid_f g rose a.now.device
      watched-second = watched-then f mid_f g rose device a.now.device watched first a.power a.counts

      pub place-breaks : (fault : FlashFault) → Breaks plan (replicate (pages_placed mid (length bytes)) VarRing) (after_seals plan (room_seals (is_full_in v)) (with_record plan item table)) rose a.now.device fault mid g →
          Breaks plan (fill_seals plan (with_record plan item table)) (with_record plan item table) rose device fault v g
      place-breaks fault b =
          subst (λ (xs : List RingName). Breaks plan xs joined rose device fault v g) (sym seals-parted)
          (breaks-join plan (room_seals (is_full_in v)) (replicate (pages_placed mid (length bytes)) VarRing) joined rose device v mid f mid_f a fault g same b)

      place-seals : (w : VarData) → Seals plan (replicate (pages_placed mid (length bytes)) VarRing) (after_seals plan (room_seals (is_full_in v)) (with_record plan item table)) rose a.now.device mid mid_f w g →
          Seals plan (fill_seals plan (with_record plan item table)) (with_record plan item table) rose device v f w g
      place-seals w b =
          subst (λ (xs : List RingName). Seals plan xs joined rose device v f w g) (sym seals-parted)
          (seals-join plan (room_seals (is_full_in v)) (replicate (pages_placed mid (length bytes)) VarRing) joined rose device v mid f mid_f a w g b)

      pub placed-whole : (w : VarData) → Seals plan (replicate (pages_placed mid (length bytes)) VarRing) (after_seals plan (room_seals (is_full_in v)) (with_record plan item table)) rose a.now.device mid mid_f w g →
          (at : BlobRef) → at ≡ record { page = next_in mid; offset = length (waiting_in mid); length = length bytes } → next_in mid ≡ cond (is_full_in v) (next_in v + 1) (next_in v) →
          waiting_in w ≡ drop (pages_placed mid (length bytes) * room_in mid) (waiting_in mid ++ bytes) → PlaceEnds plan item table rose device v f (Ok at) w g
      placed-whole w b at at_is next waits = (
        at_is ∙ (sym (page-mid v mid bytes some same emptied next table plan f stands) ∙ ap (λ n. where_placed plan n table) (sym joined-len)),
        record { seals_are = place-seals w b; buffered = buffered-filled ∙ sym (waits-split v mid bytes some same emptied (waiting_in w) waits) },
      )

-- how a blob's placing ended, by the answer
pub place-err : (plan : Plan) (item : Record) (table : Table) (rose : Bool) (device : Device) (old : VarData) (old_f : FlashState) (result : Result BlobRef FlashFault) (v : VarData) (new : FlashState) (fault : FlashFault) → result ≡ Err fault →
    Breaks plan (fill_seals plan (with_record plan item table)) (with_record plan item table) rose device fault old new → PlaceEnds plan item table rose device old old_f result v new
place-err plan item table rose device old old_f result v new fault e b = subst (λ (x : Result BlobRef FlashFault). PlaceEnds plan item table rose device old old_f x v new) (sym e) b

-- no page is filled
none-placed : (v : VarData) → pages_placed v 0 ≡ 0
none-placed v = div-eq_of_lt (omega (arith, waiting-room v, v.served.page_least))

-- the empty blob has no page
pub place-none : (plan : Plan) (item : Record) (table : Table) (rose : Bool) (device : Device) (v : VarData) (f : FlashState) (bytes : List ℕ) → length bytes ≡ 0 → item.blob ≡ Some bytes → IsWatched f f rose device → Stands v f plan table →
    PlaceEnds plan item table rose device v f (Ok (record { page = 0; offset = 0; length = 0 })) v f
place-none plan item table rose device v f (x ∷ xs) e blob_is watched stands = absurd (omega (arith, e))
place-none plan item table rose device v f [] e blob_is watched stands =
    let joined = with_record plan item table in
    let none : fill_seals plan (with_record plan item table) ≡ [] = seals-filled v f plan item table [] stands blob_is ∙ ap (λ n. replicate n VarRing) (none-placed v) in (
      ap (λ n. where_placed plan n table) (sym (joined-len v f plan item table [] stands blob_is)),
      record {
        seals_are = subst (λ (xs : List RingName). Seals plan xs joined rose device v f v f) (sym none)
            (seals-none plan joined rose device v v f refl (record { geometry = refl; place = refl }) (joined-has v f plan item table [] stands blob_is) watched);
        buffered = ap (λ (xs : List RingName). (after_seals plan xs joined).buffered) none ∙ (joined-bytes v f plan item table [] stands blob_is ∙ append-nil (waiting_in v));
      },
    )

-- an empty buffer isn't sealed
pub rest-none : (plan : Plan) (table : Table) (rose : Bool) (device : Device) (v : VarData) (f : FlashState) → length (waiting_in v) ≡ 0 → IsWatched f f rose device → Stands v f plan table →
    Finishes plan (rest_seals table) table rose device v f v f
rest-none plan table rose device v f none watched stands =
    let size : fill table ≡ 0 = ap length stands.buffered ∙ none in
    let idle : rest_seals table ≡ [] = ap (λ (b : Bool). cond b (VarRing ∷ []) []) (le-ltb 0 (fill table) (omega (arith, size))) in
    record {
      seals_are = subst (λ (xs : List RingName). Seals plan xs table rose device v f v f) (sym idle) (seals-none plan table rose device v v f refl (record { geometry = refl; place = refl }) stands.ring watched);
      buffered = ap (λ (xs : List RingName). (after_seals plan xs table).buffered) idle ∙ stands.buffered;
    }

-- the rest was sealed
module _ (plan : Plan) (table : Table) (old : VarData) (old_f : FlashState) (some : 1 ≤ length (waiting_in old)) (stands : Stands old old_f plan table) where
  rest-fits : length table.buffered ≤ content_per_page plan
  rest-fits = omega (arith, ap length stands.buffered, waiting-room old, room-planned old plan stands.ring.planned)

  pub rest-waits : take (content_per_page plan) table.buffered ≡ waiting_in old
  rest-waits = take_all (content_per_page plan) table.buffered rest-fits ∙ stands.buffered

  rest-is : rest_seals table ≡ VarRing ∷ []
  rest-is = ap (λ (b : Bool). cond b (VarRing ∷ []) []) (lt-ltb 0 (fill table) (omega (arith, ap length stands.buffered, some)))

  pub rest-some : (rose : Bool) (device : Device) (result : Result (Unit {0}) FlashFault) (v : VarData) (new : FlashState) → OnOk result (waiting_in v ≡ []) → EndsWith plan (VarRing ∷ []) table rose device old old_f result v new →
      RestEnds plan table rose device old old_f result v new
  rest-some rose device (Ok u) v new empty h = record {
    seals_are = subst (λ (xs : List RingName). Seals plan xs table rose device old old_f v new) (sym rest-is) h;
    buffered = ap (λ (xs : List RingName). (after_seals plan xs table).buffered) rest-is ∙ (drop_all (content_per_page plan) table.buffered rest-fits ∙ sym empty);
  }
  rest-some rose device (Err fault) v new empty h = subst (λ (xs : List RingName). Breaks plan xs table rose device fault old new) (sym rest-is) h

-- a blob for which there is room fills no page
pub room-for : (v : VarData) (len : ℕ) → 1 ≤ len → length (waiting_in v) + len ≤ room_in v → (is_full_in v ≡ false) × (pages_placed v len ≡ 0)
room-for v len some room = (ne_eqb (length (waiting_in v)) (room_in v) (λ e. omega (arith, e, some, room)), div-eq_of_lt (omega (arith, some, room)))

-- the empty blob leaves the bytes that wait
pub waits-none : (v : VarData) (bytes : List ℕ) → length bytes ≡ 0 → waiting_in v ≡ drop (pages_placed v (length bytes) * room_in v) (waiting_in v ++ bytes)
waits-none v (x ∷ xs) e = absurd (omega (arith, e))
waits-none v [] e =
    sym (ap (λ n. drop (n * room_in v) (waiting_in v ++ [])) (none-placed v)
    ∙ (ap (λ n. drop n (waiting_in v ++ [])) (let k : 0 * room_in v ≡ 0 = omega arith in k) ∙ (drop_none (waiting_in v ++ []) ∙ append-nil (waiting_in v))))

pub placed-none : (v : VarData) (len : ℕ) → len ≡ 0 → pages_placed v len ≡ 0
placed-none v len e = ap (pages_placed v) e ∙ none-placed v

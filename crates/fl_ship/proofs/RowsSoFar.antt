-- Rows that are put into the table of a copy one after another, as far as they have come.
use Rattle.std.proofs.Common.{◌≡◌, ℕ, suc, ◌+◌, ◌-◌, ◌<◌, ◌≤◌, Bool, true, IsTrue, Option, Some, None, Result, Ok, Err, List, [], ◌∷◌, ◌++◌, length, take, drop, refl, sym, ◌∙◌, ap, subst, append_assoc, append-nil, length-append, arith}
use Rattle.std.specs.List.{slice_get}
use Rattle.std.proofs.Math.Seq.{take-append-add}
use Rattle.std.proofs.lemmas.List.{map-append, map_push, take_at, take_all, drop_at, length-map, length_push}
use Rattle.std.proofs.lemmas.Bool.{ltb-true}
use Rattle.std.proofs.lemmas.Option.{same_Some}
use Rattle.fl_model.proofs.Lists.{take_none}
use Rattle.fl_store.proofs.Risen.{has_risen, watched}
use Rattle.fl_flash.specs.Flash.{FlashState, Goes}
use Rattle.fl_flash.specs.declared.flash.FlashFault.TheVariants.{PowerLost, Media}
use Rattle.fl_store.specs.Works.{Works}
use Rattle.fl_store.proofs.Failing.{put-work}
use Rattle.fl_store.proofs.Works.{works-broken, works-uncut, works-watched}
use Rattle.fl_model.specs.Puts.{TablePuts}
use Rattle.fl_model.specs.Query.{is_above}
use Rattle.fl_model.specs.Record.{Record, Plan}
use Rattle.fl_model.specs.Row.{Row}
use Rattle.fl_model.specs.Table as model
use Rattle.fl_model.specs.Table.{refusal_of, put_record, lose}
use Rattle.fl_model.specs.Work.{Device, PartEnd, PartProgress, Whole}
use Rattle.fl_model.proofs.PutAmongTables as model_puts
use Rattle.fl_ops.specs.Columns.{record_of, records_of}
use Rattle.fl_page.specs.Steps.{Steps}
use Rattle.fl_page.specs.declared.fault.ReadFault.{ReadFault}
use Rattle.fl_page.specs.declared.fault.ReadFault.TheVariants as read
use Rattle.fl_frame.specs.Device.{SameDevice}
use Rattle.fl_frame.specs.Watched.{IsWatched}
use Rattle.fl_frame.proofs.WatchedInTurn.{watched-first, watched-then}
use Rattle.fl_rlc.specs.Logged.{Rests, Stands}
use Rattle.fl_rlc.specs.Outcomes.{PutEnds}
use Rattle.fl_rlc.specs.Refusal.{RefusedSame}
use Rattle.fl_rlc.specs.declared.table.LoggedTable.{LoggedTable}
use Rattle.fl_parts.specs.Failing.{FaultEnds}
use Rattle.fl_table.specs.declared.faults.PutRefusal.{PutRefusal}
use Rattle.fl_table.specs.declared.faults.PutRefusal.TheVariants as put
use Rattle.fl_store.proofs.TablesChanged.{off-rests}
use Rattle.fl_ship.specs.Puts.{AreAccepted, ComesTo, HasPut, put_all}
use Rattle.fl_ship.specs.Rows.{ArePut, AreTaken, PutCausedBy, PutsWork, RowsPut, RowsWork, WorkEnds, WorksOn}
use Rattle.fl_ship.specs.declared.fault.ShipFault.{ShipFault}
use Rattle.fl_ship.specs.declared.fault.ShipFault.TheVariants.{Read, Put}
use Rattle.fl_ship.proofs.RowsWork.{puts-push, ships-behind, ships-broken, ships-refused, so-far, so-far-is}
use Rattle.fl_ship.proofs.LastFlush.{never}

-- ---- one more record behind others

put_all-push : (plan : Plan) (items : List Record) (item : Record) (table : model.Table) → put_all plan (items ++ item ∷ []) table ≡ put_record plan item (put_all plan items table)
put_all-push plan [] item table = refl
put_all-push plan (first ∷ items) item table = put_all-push plan items item (put_record plan first table)

accepted-push : (plan : Plan) (items : List Record) (item : Record) (table : model.Table) → AreAccepted plan items table → refusal_of plan (put_all plan items table) item ≡ None → AreAccepted plan (items ++ item ∷ []) table
accepted-push plan [] item table accepted own = (own, tt)
accepted-push plan (first ∷ items) item table accepted own = (accepted.0, accepted-push plan items item (put_record plan first table) accepted.1 own)

-- what was put is a front of what was given
has-front : (plan : Plan) (items others : List Record) (n : ℕ) (table : model.Table) → length items ≡ n → AreAccepted plan items table → HasPut plan (items ++ others) n table (put_all plan items table)
has-front plan items others n table many accepted =
    let front : take n (items ++ others) ≡ items = take_at items others n many in
    record {
      few = omega (arith, many, length-append items others);
      accepted = subst (λ (l : List Record). AreAccepted plan l table) (sym front) accepted;
      after_is = ap (λ (l : List Record). put_all plan l table) (sym front);
    }

has-whole : (plan : Plan) (items : List Record) (n : ℕ) (table : model.Table) → length items ≡ n → AreAccepted plan items table → HasPut plan items n table (put_all plan items table)
has-whole plan items n table many accepted = subst (λ (l : List Record). HasPut plan l n table (put_all plan items table)) (append-nil items) (has-front plan items [] n table many accepted)

next-at : (items others : List Record) (item : Record) (n : ℕ) → length items ≡ n → slice_get (items ++ item ∷ others) n ≡ Some item
next-at items others item n many = subst (λ (k : ℕ). slice_get (items ++ item ∷ others) k ≡ Some item) many (here items)
  where
    here : (items : List Record) → slice_get (items ++ item ∷ others) (length items) ≡ Some item
    here [] = refl
    here (first ∷ items) = here items

-- a key above that of the last row is above the last key
pub above-next : (last above : Option ℕ) (key before other : ℕ) → last ≡ Some key → above ≡ Some key → last ≡ Some before → is_above above other ≡ true → before < other
above-next last above key before other last_is above_is before_is more =
    let same : key ≡ before = same_Some key before (sym last_is ∙ before_is) in
    let lt = ltb-true key other (subst (λ (o : Option ℕ). is_above o other ≡ true) above_is more) in
    omega (arith, same, lt)

-- ---- some rows were put, whether a cut is armed or not

pub record SoFar (first : ℕ) (plan : Plan) (table : model.Table) (rose : Bool) (start : Device) (done : List Record) (t : LoggedTable 64 64) (g : FlashState) : Type 0 where
  pub accepted : AreAccepted plan done table
  pub stands : Stands t g first plan (put_all plan done table)
  pub told : IsTrue g.media.tells
  pub power : g.is_on ≡ true
  pub device : Device
  pub counts : SameDevice g device
  pub unarmed : start.armed ≡ None → device.armed ≡ None
  pub did : ArePut plan rose done start table (so-far device (put_all plan done table))

-- .. and those are left
pub record Far (Told : Type 0) (all left : List Row) (n : ℕ) (t : LoggedTable 64 64) (g : FlashState) (u : LoggedTable 64 64) (h : FlashState) : Type 0 where
  pub done : List Row
  pub as_many : length done ≡ n
  pub split : Told → all ≡ done ++ left
  pub puts : (first : ℕ) (plan : Plan) (table : model.Table) (rose : Bool) (device : Device) → IsWatched g h rose device → Stands t g first plan table → SoFar first plan table rose device (records_of done) u h

pub far-none : (Told : Type 0) (all : List Row) (t : LoggedTable 64 64) (g : FlashState) → Far Told all all 0 t g t g
far-none Told all t g = record {
  done = [];
  as_many = refl;
  split = λ told. refl;
  puts = λ first plan table rose device w stands. record { accepted = tt; stands = stands; told = w.told; power = w.on; device = device; counts = w.counts; unarmed = λ none. none; did = refl };
}

module _ (Told : Type 0) (all left : List Row) (n count : ℕ) (t : LoggedTable 64 64) (g : FlashState) (u : LoggedTable 64 64) (h : FlashState) (far : Far Told all left n t g u h) (few : n ≤ count) where
  many : length (records_of far.done) ≡ n
  many = length-map far.done record_of ∙ far.as_many

  -- those that were put, and some more where some are left
  wanted-is : Told → take count (records_of all) ≡ records_of far.done ++ take (count - n) (records_of left)
  wanted-is told =
      ap (take count) (ap records_of (far.split told) ∙ map-append record_of far.done left)
      ∙ (ap (λ (k : ℕ). take k (records_of far.done ++ records_of left)) (let e : count ≡ length (records_of far.done) + (count - n) = omega (arith, many, few) in e)
      ∙ take-append-add (records_of far.done) (records_of left) (count - n))

  wanted-then : Told → records_of far.done ++ drop n (take count (records_of all)) ≡ take count (records_of all)
  wanted-then told =
      ap (λ (l : List Record). records_of far.done ++ drop n l) (wanted-is told)
      ∙ (ap (λ (l : List Record). records_of far.done ++ l) (drop_at (records_of far.done) (take (count - n) (records_of left)) n many) ∙ sym (wanted-is told))

  -- none is left, or as many as were asked for were put
  wanted-end : (left ≡ []) → Told → records_of far.done ≡ take count (records_of all)
  wanted-end none told = sym (wanted-is told ∙ (ap (λ (l : List Row). records_of far.done ++ take (count - n) (records_of l)) none ∙ (ap (λ (l : List Record). records_of far.done ++ l) (take-nil (count - n)) ∙ append-nil (records_of far.done))))
    where
      take-nil : (k : ℕ) → take k (records_of []) ≡ []
      take-nil k = take_all k [] (omega arith)

  wanted-whole : n ≡ count → Told → records_of far.done ≡ take count (records_of all)
  wanted-whole is told = sym (wanted-is told ∙ (ap (λ (k : ℕ). records_of far.done ++ take k (records_of left)) (let e : count - n ≡ 0 = omega (arith, is) in e) ∙ (ap (λ (l : List Record). records_of far.done ++ l) (take_none (records_of left)) ∙ append-nil (records_of far.done))))

  pub number-end : (Told → left ≡ []) → Told → n ≡ length (take count all)
  number-end none told =
      let is : all ≡ far.done = far.split told ∙ (ap (λ (l : List Row). far.done ++ l) (none told) ∙ append-nil far.done) in
      sym (ap (λ (l : List Row). length (take count l)) is ∙ (ap (λ (l : List Row). length l) (take_all count far.done (omega (arith, few, far.as_many))) ∙ far.as_many))

  pub left-behind : Told → left ≡ drop n all
  left-behind told = sym (ap (drop n) (far.split told) ∙ drop_at far.done left n far.as_many)

  -- a read that fails leaves them
  pub taken-behind : (fault : ReadFault) (row : Row) (others : List Row) → (Told → Steps (Err fault) left row others) → n < count → AreTaken Told count all others n
  taken-behind (read.Flash fault) row others steps below = (below, λ told. steps told ∙ left-behind told)
  taken-behind (read.BadPage bad) row others steps below = (below, λ told. absurd (steps told))

  pub unread-behind : (fault : ReadFault) (row : Row) (others : List Row) → (Told → Steps (Err fault) left row others) → n < count → Told → (m : ℕ) × (m < count) × (others ≡ drop m all)
  unread-behind fault row others steps below told = let taken = taken-behind fault row others steps below in (n, taken.0, taken.1 told)

  -- ---- where no cut is armed

  module _ (first : ℕ) (plan : Plan) (table : model.Table) where
    rests-so : {rose : Bool} {start : Device} → SoFar first plan table rose start (records_of far.done) u h → Rests h first plan (lose (put_all plan (records_of far.done) table))
    rests-so so_far = off-rests u h first plan (put_all plan (records_of far.done) table) true so_far.stands

    abbrev far-works : (works : Works t g first plan table) → SoFar first plan table (has_risen g h) works.device (records_of far.done) u h
    far-works works = far.puts first plan table (has_risen g h) works.device (works-watched first plan table t u g h works) works.stands

    abbrev works-so : (works : Works t g first plan table) → Works u h first plan (put_all plan (records_of far.done) table)
    works-so works =
        let so_far = far-works works in
        record { stands = so_far.stands; told = so_far.told; power = so_far.power; device = so_far.device; counts = so_far.counts; unarmed = so_far.unarmed works.unarmed }

    -- all are put
    pub put-all : Works t g first plan table → (Told → records_of far.done ≡ take count (records_of all)) → RowsPut first plan table Told (take count (records_of all)) u h (Ok n)
    put-all works are =
        let so_far = far-works works in
        record {
          given = records_of far.done;
          are = are;
          after = put_all plan (records_of far.done) table;
          puts = (sym many, has-whole plan (records_of far.done) n table many so_far.accepted);
          rests = rests-so so_far;
          works = λ goes. works-so works;
        }

    pub put-end : Works t g first plan table → (Told → left ≡ []) → RowsPut first plan table Told (take count (records_of all)) u h (Ok n)
    put-end works none = put-all works (λ told. wanted-end (none told) told)

    pub put-whole : Works t g first plan table → n ≡ count → RowsPut first plan table Told (take count (records_of all)) u h (Ok count)
    put-whole works is = subst (λ (k : ℕ). RowsPut first plan table Told (take count (records_of all)) u h (Ok k)) is (put-all works (wanted-whole is))

    -- .. or a read failed
    pub put-unread : Works t g first plan table → (fault : ReadFault) → RowsPut first plan table Told (take count (records_of all)) u h (Err (Read fault))
    put-unread works fault =
        let so_far = far-works works in
        record {
          given = records_of far.done ++ drop n (take count (records_of all));
          are = wanted-then;
          after = put_all plan (records_of far.done) table;
          puts = (n, has-front plan (records_of far.done) (drop n (take count (records_of all))) n table many so_far.accepted);
          rests = rests-so so_far;
          works = λ goes. works-so works;
        }

    -- ---- whether one is armed or not

    module _ (Taken : ℕ → Type 0) (rose : Bool) (device : Device) (w : IsWatched g h rose device) (stands : Stands t g first plan table) where
      abbrev so_far : SoFar first plan table rose device (records_of far.done) u h
      so_far = far.puts first plan table rose device w stands

      pub works-so-far : {Did : PartProgress model.Table → Type 0} {result : Result ℕ ShipFault} → Did (so-far so_far.device (put_all plan (records_of far.done) table)) → WorkEnds result Whole h → WorksOn first plan Did u h result
      works-so-far did ends = record {
        now = so-far so_far.device (put_all plan (records_of far.done) table);
        did = did;
        ends = ends;
        counts = so_far.counts;
        rests = rests-so so_far;
        stands = λ whole. so_far.stands;
      }

      -- all are put
      work-all : (Told → records_of far.done ≡ take count (records_of all)) → RowsWork first plan Told (take count (records_of all)) (PutsWork Taken plan rose device table (Ok n)) u h (Ok n)
      work-all are = record { given = records_of far.done; are = are; works = works-so-far (sym many, so_far.did) (refl, so_far.power) }

      pub work-end : (Told → left ≡ []) → RowsWork first plan Told (take count (records_of all)) (PutsWork Taken plan rose device table (Ok n)) u h (Ok n)
      work-end none = work-all (λ told. wanted-end (none told) told)

      pub work-whole : n ≡ count → RowsWork first plan Told (take count (records_of all)) (PutsWork Taken plan rose device table (Ok count)) u h (Ok count)
      work-whole is = subst (λ (k : ℕ). RowsWork first plan Told (take count (records_of all)) (PutsWork Taken plan rose device table (Ok k)) u h (Ok k)) is (work-all (wanted-whole is))

      -- .. or a read failed
      pub work-unread : (fault : ReadFault) → Taken n → RowsWork first plan Told (take count (records_of all)) (PutsWork Taken plan rose device table (Err (Read fault))) u h (Err (Read fault))
      work-unread fault taken =
          let behind = drop n (take count (records_of all)) in
          record {
            given = records_of far.done ++ behind;
            are = wanted-then;
            works = works-so-far (
              n,
              taken,
              (has-front plan (records_of far.done) behind n table many so_far.accepted).few,
              subst (λ (l : List Record). ArePut plan rose l device table (so-far so_far.device (put_all plan (records_of far.done) table))) (sym (take_at (records_of far.done) behind n many)) so_far.did,
            )
                (refl, so_far.power);
          }

  -- ---- the next row

  module _ (row : Row) (others : List Row) (v : LoggedTable 64 64) (k : FlashState) (before : Goes g h) (goes : Goes h k) where
    -- it is put
    pub far-more : (Told → left ≡ row ∷ others) →
        ((first : ℕ) (plan : Plan) (x : model.Table) (rose : Bool) (device : Device) → IsWatched h k rose device → Stands u h first plan x → PutEnds first plan (record_of row) x rose device (Ok tt) v h k) →
        Far Told all others (n + 1) t g v k
    far-more gives ends = record {
      done = far.done ++ row ∷ [];
      as_many = length_push far.done row ∙ ap (λ (m : ℕ). m + 1) far.as_many;
      split = λ told. far.split told ∙ (ap (λ (l : List Row). far.done ++ l) (gives told) ∙ sym (append_assoc far.done (row ∷ []) others));
      puts = λ first plan table rose device w stands. subst (λ (l : List Record). SoFar first plan table rose device l v k) (sym (map_push record_of far.done row)) (one-more first plan table rose device w stands);
    }
      where
        -- what a put that is done leaves
        done-is : (plan : Plan) (x : model.Table) (rose : Bool) (device : Device) (now : PartProgress model.Table) → TablePuts plan rose (record_of row) device x now → now.end ≡ Whole → {y : model.Table} → put_record plan (record_of row) x ≡ y → now ≡ so-far now.device y
        done-is plan x rose device now did whole is = so-far-is now whole (model_puts.put-whole plan rose (record_of row) device x now did whole ∙ is)

        one-more : (first : ℕ) (plan : Plan) (table : model.Table) (rose : Bool) (device : Device) → IsWatched g k rose device → Stands t g first plan table → SoFar first plan table rose device (records_of far.done ++ record_of row ∷ []) v k
        one-more first plan table rose device w stands =
            let so_far = far.puts first plan table rose device (watched-first g h k rose device w goes) stands in
            let x = put_all plan (records_of far.done) table in
            let did = ends first plan x rose so_far.device (watched-then g h k rose device so_far.device w before so_far.power so_far.counts) so_far.stands in
            let now_is = put_all-push plan (records_of far.done) (record_of row) table in
            record {
              accepted = accepted-push plan (records_of far.done) (record_of row) table so_far.accepted did.0;
              stands = subst (λ (y : model.Table). Stands v k first plan y) (sym now_is) did.1.stands;
              told = subst IsTrue (sym goes.tells) so_far.told;
              power = did.1.power;
              device = did.1.now.device;
              counts = did.1.counts;
              unarmed = λ none. (put-work plan (record_of row) x rose so_far.device did.1.now (so_far.unarmed none) did.1.did).unarmed did.1.whole;
              did = puts-push plan rose (records_of far.done) (record_of row) device table (so-far so_far.device x) (so-far did.1.now.device (put_all plan (records_of far.done ++ record_of row ∷ []) table)) so_far.did did.0
                  (subst (λ (p : PartProgress model.Table). TablePuts plan rose (record_of row) so_far.device x p) (done-is plan x rose so_far.device did.1.now did.1.did did.1.whole (sym now_is)) did.1.did) refl;
            }

    -- .. or not
    module _ (gives : Told → left ≡ row ∷ others) (below : n < count) (refusal : PutRefusal) (cause : PutCausedBy h k refusal) (same : RefusedSame u h refusal v k)
        (ends : (first : ℕ) (plan : Plan) (x : model.Table) (rose : Bool) (device : Device) → IsWatched h k rose device → Stands u h first plan x → PutEnds first plan (record_of row) x rose device (Err refusal) v h k)
        (first : ℕ) (plan : Plan) (table : model.Table) where
      abbrev behind : List Record
      behind = record_of row ∷ drop (suc n) (take count (records_of all))

      wanted-next : Told → records_of far.done ++ behind ≡ take count (records_of all)
      wanted-next told =
          let is : take count (records_of all) ≡ records_of far.done ++ record_of row ∷ take (count - n - 1) (records_of others) =
          wanted-is told
          ∙ ap (λ (l : List Record). records_of far.done ++ l) (ap (λ (l : List Row). take (count - n) (records_of l)) (gives told) ∙ ap (λ (m : ℕ). take m (record_of row ∷ records_of others)) (let e : count - n ≡ suc (count - n - 1) = omega (arith, below) in e)) in
          let tail : drop (suc n) (take count (records_of all)) ≡ take (count - n - 1) (records_of others) =
          ap (drop (suc n)) (is ∙ sym (append_assoc (records_of far.done) (record_of row ∷ []) (take (count - n - 1) (records_of others))))
          ∙ drop_at (records_of far.done ++ record_of row ∷ []) (take (count - n - 1) (records_of others)) (suc n) (length_push (records_of far.done) (record_of row) ∙ omega (arith, many)) in
          ap (λ (l : List Record). records_of far.done ++ record_of row ∷ l) tail ∙ sym is

      abbrev x : model.Table
      x = put_all plan (records_of far.done) table

      abbrev comes : {rose : Bool} {start : Device} → SoFar first plan table rose start (records_of far.done) u h → ComesTo plan (records_of far.done ++ behind) table (record_of row) x
      comes so_far = record {
        n = n;
        next = next-at (records_of far.done) (drop (suc n) (take count (records_of all))) (record_of row) n many;
        has_put = has-front plan (records_of far.done) behind n table many so_far.accepted;
      }

      pub put-refused : Works t g first plan table → RowsPut first plan table Told (take count (records_of all)) v k (Err (Put refusal))
      put-refused works = by-refusal refusal cause same (ends first plan x (has_risen h k) so_far.device (watched h k so_far.device so_far.told so_far.power so_far.counts) so_far.stands)
        where
          so_far : SoFar first plan table (has_risen g h) works.device (records_of far.done) u h
          so_far = far-works first plan table works

          mid : Works u h first plan x
          mid = works-so first plan table works

          DidPut : Bool → Device → PartProgress model.Table → Type 0
          DidPut rose device now = TablePuts plan rose (record_of row) device x now

          by-refusal : (refusal : PutRefusal) → PutCausedBy h k refusal → RefusedSame u h refusal v k → PutEnds first plan (record_of row) x (has_risen h k) so_far.device (Err refusal) v h k →
              RowsPut first plan table Told (take count (records_of all)) v k (Err (Put refusal))
          by-refusal put.Spent cause same ends = record {
            given = records_of far.done ++ behind;
            are = wanted-next;
            after = x;
            puts = (record_of row, comes so_far, ends);
            rests = subst (λ (f : FlashState). Rests f first plan (lose x)) (sym same.1) (rests-so first plan table so_far);
            works = λ goes. subst (λ (f : FlashState). Works v f first plan x) (sym same.1) (subst (λ (w : LoggedTable 64 64). Works w h first plan x) (sym same.0) mid);
          }
          by-refusal (put.Flash Media) cause same ends =
              let broken = works-broken first plan x u v h k mid DidPut (put-work plan (record_of row) x) Media ends.1 in
              record {
                given = records_of far.done ++ behind;
                are = wanted-next;
                after = broken.after;
                puts = (record_of row, (x, comes so_far, ends.0, broken.fails));
                rests = broken.rests;
                works = λ goes. absurd (never goes);
              }
          by-refusal (put.Flash PowerLost) cause same ends = absurd (works-uncut first plan x u v h k mid DidPut (put-work plan (record_of row) x) ends.1)
          by-refusal (put.Key last) cause same ends = absurd cause
          by-refusal (put.Columns wanted) cause same ends = absurd cause
          by-refusal (put.Value column) cause same ends = absurd cause
          by-refusal (put.Blob limit) cause same ends = absurd cause
          by-refusal put.Stopped cause same ends = absurd cause

      pub work-refused : (Taken : ℕ → Type 0) (rose : Bool) (device : Device) → IsWatched g k rose device → Stands t g first plan table →
          RowsWork first plan Told (take count (records_of all)) (PutsWork Taken plan rose device table (Err (Put refusal))) v k (Err (Put refusal))
      work-refused Taken rose device w stands = by-refusal refusal cause same (ends first plan x rose so_far.device (watched-then g h k rose device so_far.device w before so_far.power so_far.counts) so_far.stands)
        where
          w-first : IsWatched g h rose device
          w-first = watched-first g h k rose device w goes

          so_far : SoFar first plan table rose device (records_of far.done) u h
          so_far = far.puts first plan table rose device w-first stands

          Refused : (refusal : PutRefusal) → LoggedTable 64 64 → FlashState → Type 0
          Refused refusal v k = RowsWork first plan Told (take count (records_of all)) (PutsWork Taken plan rose device table (Err (Put refusal))) v k (Err (Put refusal))

          by-refusal : (refusal : PutRefusal) → PutCausedBy h k refusal → RefusedSame u h refusal v k → PutEnds first plan (record_of row) x rose so_far.device (Err refusal) v h k → Refused refusal v k
          by-refusal put.Spent cause same ends =
              subst (λ (f : FlashState). Refused put.Spent v f) (sym same.1)
              (subst (λ (l : LoggedTable 64 64). Refused put.Spent l h) (sym same.0) (record {
                given = records_of far.done ++ behind;
                are = wanted-next;
                works = works-so-far first plan table Taken rose device w-first stands (
                  (record_of row, comes so_far, ends),
                  ships-behind plan rose (records_of far.done) behind device table (so-far so_far.device x) (so-far so_far.device x) so_far.did (ships-refused plan rose (record_of row) _ model.Spent so_far.device x ends),
                )
                    (refl, so_far.power);
              }))
          by-refusal (put.Flash fault) cause same ends =
              let b = ends.1 in
              record {
                given = records_of far.done ++ behind;
                are = wanted-next;
                works = record {
                  now = b.now;
                  did = (
                    record {
                      n = n;
                      item = record_of row;
                      few = (comes so_far).has_put.few;
                      next = (comes so_far).next;
                      mid = so-far so_far.device x;
                      before = subst (λ (l : List Record). ArePut plan rose l device table (so-far so_far.device x)) (sym (take_at (records_of far.done) behind n many)) so_far.did;
                      accepted = ends.0;
                      did = b.did;
                    },
                    ships-behind plan rose (records_of far.done) behind device table (so-far so_far.device x) b.now so_far.did (ships-broken plan rose (record_of row) _ so_far.device x b.now fault k ends.0 b.did b.answer),
                  );
                  ends = b.answer;
                  counts = b.counts;
                  rests = b.rests;
                  stands = λ whole. absurd (subst (λ (e : PartEnd model.Table). FaultEnds e fault k) whole b.answer);
                };
              }
          by-refusal (put.Key last) cause same ends = absurd cause
          by-refusal (put.Columns wanted) cause same ends = absurd cause
          by-refusal (put.Value column) cause same ends = absurd cause
          by-refusal (put.Blob limit) cause same ends = absurd cause
          by-refusal put.Stopped cause same ends = absurd cause

-- The work of records that are put one after another, and of the flush behind them, whether a cut is armed or not.
use Rattle.std.proofs.Common.{◌≡◌, ℕ, ◌≤◌, Bool, Option, Some, None, Ok, Err, MatchOption, List, [], ◌∷◌, ◌++◌, length, take, refl, sym, ap, subst, arith}
use Rattle.std.proofs.lemmas.List.{take_all}
use Rattle.fl_model.specs.Puts.{TablePuts, TablePutGoesOn}
use Rattle.fl_model.specs.Record.{Record, Plan}
use Rattle.fl_model.specs.Ship.{KeepsOf, records_in}
use Rattle.fl_model.specs.ShipWork.{TableShips}
use Rattle.fl_model.specs.Table.{Table, Refusal, refusal_of, table_seals}
use Rattle.fl_model.specs.Within.{seals_within}
use Rattle.fl_model.specs.Work.{Device, PartEnd, Whole, CutIn, FailedIn, PartProgress}
use Rattle.fl_model.proofs.PutAmongTables.{put-whole}
use Rattle.fl_model.proofs.ShipWork.{drops-none, performs-drops}
use Rattle.fl_flash.specs.Flash.{FlashState}
use Rattle.fl_flash.specs.declared.flash.FlashFault.{FlashFault}
use Rattle.fl_parts.specs.Failing.{FaultEnds}
use Rattle.fl_table.specs.declared.faults.FlushFault.TheVariants as flush
use Rattle.fl_table.specs.declared.faults.PutRefusal.TheVariants as put
use Rattle.fl_ship.specs.Puts.{AreAccepted, HasPut, put_all}
use Rattle.fl_ship.specs.Rows.{ArePut, EndsInFlush, WorkKeeps}
use Rattle.fl_ship.specs.declared.fault.ShipFault.TheVariants.{Read, Put, Flush}
use Rattle.fl_ship.proofs.KeptRecords.{both, keeps-next, keeps-some}

-- so far, and nothing failed
abbrev pub so-far : Device → Table → PartProgress Table
so-far device table = record { end = Whole; device = device; state = table }

pub so-far-is : (now : PartProgress Table) {table : Table} → now.end ≡ Whole → now.state ≡ table → now ≡ so-far now.device table
so-far-is now {table} whole is =
    subst (λ (e : PartEnd Table). now ≡ record { end = e; device = now.device; state = table }) whole
    (subst (λ (t : Table). now ≡ record { end = now.end; device = now.device; state = t }) is refl)

module _ (plan : Plan) (rose : Bool) where
  -- one more is put behind others
  pub puts-push : (items : List Record) (item : Record) (device : Device) (table : Table) (mid now : PartProgress Table) → ArePut plan rose items device table mid →
      refusal_of plan mid.state item ≡ None → TablePuts plan rose item mid.device mid.state now → now.end ≡ Whole → ArePut plan rose (items ++ item ∷ []) device table now
  puts-push [] item device table mid now is accepted did whole =
      let own : refusal_of plan table item ≡ None = subst (λ (x : PartProgress Table). refusal_of plan x.state item ≡ None) is accepted in
      (own, (now, subst (λ (x : PartProgress Table). TablePuts plan rose item x.device x.state now) is did, whole, so-far-is now whole refl))
  puts-push (first ∷ items) item device table mid now (own, (one, did-one, whole-one, others)) accepted did whole =
      (own, (one, did-one, whole-one, puts-push items item one.device one.state mid now others accepted did whole))

  -- none of them was refused
  pub puts-accepted : (items : List Record) (device : Device) (table : Table) (now : PartProgress Table) → ArePut plan rose items device table now → AreAccepted plan items table
  puts-accepted [] device table now is = tt
  puts-accepted (item ∷ items) device table now (own, (mid, did, whole, others)) =
      (own, subst (λ (t : Table). AreAccepted plan items t) (put-whole plan rose item device table mid did whole) (puts-accepted items mid.device mid.state now others))

  -- .. and this is the table then
  pub puts-all : (items : List Record) (device : Device) (table : Table) (now : PartProgress Table) → ArePut plan rose items device table now → now.state ≡ put_all plan items table
  puts-all [] device table now is = ap (λ (x : PartProgress Table). x.state) is
  puts-all (item ∷ items) device table now (own, (mid, did, whole, others)) =
      subst (λ (t : Table). now.state ≡ put_all plan items t) (put-whole plan rose item device table mid did whole) (puts-all items mid.device mid.state now others)

  -- a ship goes on behind them
  pub ships-behind : (items others : List Record) (device : Device) (table : Table) (mid now : PartProgress Table) → ArePut plan rose items device table mid →
      TableShips plan rose others mid.device mid.state now → TableShips plan rose (items ++ others) device table now
  ships-behind [] others device table mid now is ships = subst (λ (x : PartProgress Table). TableShips plan rose others x.device x.state now) is ships
  ships-behind (item ∷ items) others device table mid now (own, (one, did, whole, more)) ships =
      let rest = ships-behind items others one.device one.state mid now more ships in
      subst (λ (o : Option Refusal). MatchOption o (Goes one) (λ refusal. now ≡ so-far device table)) (sym own)
      (one, did, subst (λ (e : PartEnd Table). TablePutGoesOn e one now (TableShips plan rose (items ++ others) one.device one.state now)) (sym whole) rest)
    where
      Goes : PartProgress Table → Type 0
      Goes one = (mid : PartProgress Table) × TablePuts plan rose item device table mid × TablePutGoesOn mid.end mid now (TableShips plan rose (items ++ others) mid.device mid.state now)

  -- .. which ends with a record that is refused
  pub ships-refused : (item : Record) (items : List Record) (refusal : Refusal) (device : Device) (table : Table) → refusal_of plan table item ≡ Some refusal → TableShips plan rose (item ∷ items) device table (so-far device table)
  ships-refused item items refusal device table is =
      subst (λ (o : Option Refusal). MatchOption o ((mid : PartProgress Table) × TablePuts plan rose item device table mid × TablePutGoesOn mid.end mid (so-far device table) (TableShips plan rose items mid.device mid.state (so-far device table))) (λ refusal. so-far device table ≡ so-far device table))
      (sym is) refl

  -- .. or in the put of one
  pub ships-broken : (item : Record) (items : List Record) (device : Device) (table : Table) (now : PartProgress Table) (fault : FlashFault) (g : FlashState) → refusal_of plan table item ≡ None →
      TablePuts plan rose item device table now → FaultEnds now.end fault g → TableShips plan rose (item ∷ items) device table now
  ships-broken item items device table now fault g accepted did answer =
      subst (λ (o : Option Refusal). MatchOption o ((mid : PartProgress Table) × TablePuts plan rose item device table mid × TablePutGoesOn mid.end mid now (TableShips plan rose items mid.device mid.state now)) (λ refusal. now ≡ so-far device table))
      (sym accepted) (now, did, stops now.end answer)
    where
      stops : (e : PartEnd Table) → FaultEnds e fault g → TablePutGoesOn e now now (TableShips plan rose items now.device now.state now)
      stops Whole none = absurd none
      stops (CutIn before) answer = refl
      stops (FailedIn before) answer = refl

  -- they are those that were put
  pub puts-has : (given : List Record) (n : ℕ) (device : Device) (table : Table) (now : PartProgress Table) → n ≤ length given → ArePut plan rose (take n given) device table now → HasPut plan given n table now.state
  puts-has given n device table now few puts =
      record { few = few; accepted = puts-accepted (take n given) device table now puts; after_is = puts-all (take n given) device table now puts }

  -- all of them, and the flush came last
  flush-keeps : (given : List Record) (device : Device) (table : Table) (now : PartProgress Table) → EndsInFlush plan rose given device table now → KeepsOf (records_in table) given (records_in now.state)
  flush-keeps given device table now h =
      let puts : ArePut plan rose (take (length given) given) device table h.mid = subst (λ (l : List Record). ArePut plan rose l device table h.mid) (sym (take_all (length given) given (omega arith))) h.before in
      keeps-some plan given table (length given) h.mid.state now.state (puts-has given (length given) device table h.mid (omega arith) puts)
      (performs-drops plan rose (seals_within plan (table_seals plan h.mid.state) h.mid.state) h.mid.device h.mid.state now h.did)

-- what is kept, however it ends
pub work-keeps : WorkKeeps
work-keeps plan rose device table (Ok n) given now (number, ends, ships) = both plan given table now.state (flush-keeps plan rose given device table now ends)
work-keeps plan rose device table (Err (Read fault)) given now (n, taken, few, puts) =
    both plan given table now.state (keeps-some plan given table n now.state now.state (puts-has plan rose given n device table now few puts) (drops-none (records_in now.state)))
work-keeps plan rose device table (Err (Put put.Spent)) given now (refused, ships) =
    let comes = refused.1 in
    both plan given table now.state (keeps-some plan given table comes.n now.state now.state comes.has_put (drops-none (records_in now.state)))
work-keeps plan rose device table (Err (Put (put.Flash fault))) given now (ends, ships) =
    both plan given table now.state (keeps-next plan given table ends.n ends.item ends.mid.state ends.next (puts-has plan rose given ends.n device table ends.mid ends.few ends.before) rose ends.mid.device now ends.did)
work-keeps plan rose device table (Err (Put (put.Key last))) given now none = absurd none
work-keeps plan rose device table (Err (Put (put.Columns wanted))) given now none = absurd none
work-keeps plan rose device table (Err (Put (put.Value column))) given now none = absurd none
work-keeps plan rose device table (Err (Put (put.Blob limit))) given now none = absurd none
work-keeps plan rose device table (Err (Put put.Stopped)) given now none = absurd none
work-keeps plan rose device table (Err (Flush (flush.Flash fault))) given now (ends, ships) = both plan given table now.state (flush-keeps plan rose given device table now ends)
work-keeps plan rose device table (Err (Flush flush.Stopped)) given now none = absurd none

-- A ship between two images is two steps of a shipment, however it ends.
use Rattle.std.proofs.Common.{◌≡◌, ℕ, zero, suc, ◌+◌, ◌-◌, Bool, true, false, cond, not, ◌||◌, Some, Result, Ok, Err, List, [], ◌∷◌, ◌++◌, length, map, take, drop, refl, sym, ◌∙◌, ap, subst, arith, ◌⊎◌, inl, inr}
use Rattle.std.specs.List.{slice_get}
use Rattle.std.specs.Option.{option_map}
use Rattle.std.proofs.lemmas.List.{append-nil}
use Rattle.std.proofs.lemmas.Option.{slice_get-map, none-some, same_Some}
use Rattle.std.proofs.Math.Seq.{take-length}
use Rattle.std.proofs.lemmas.Bool.{false≢true}
use Rattle.fl_store.specs.Store.{at_rest}
use Rattle.fl_machine.specs.Machine.{Machine, begins}
use Rattle.fl_machine.specs.Step.{Located, all_ready, located_from}
use Rattle.fl_machine.proofs.LoggedPuts.{IsLocated, located-is}
use Rattle.fl_model.specs.Image.{AreTableImages}
use Rattle.fl_model.specs.Mount.{Mounts, Stopped, Unread, turns_from}
use Rattle.fl_model.specs.Record.{Config, Plan, Record, bytes_equal, has_log, has_var}
use Rattle.fl_model.specs.Ship as model
use Rattle.fl_model.specs.Ship.{CopyRests, KeepsOf, MayShip, records_in, to_ship}
use Rattle.fl_model.specs.Table.{Table, fresh_table, lose}
use Rattle.fl_model.specs.Within.{with_table}
use Rattle.fl_model.proofs.ShipWork.{Drops, drops-none}
use Rattle.fl_model.proofs.Among.{changed_at-there}
use Rattle.fl_page.specs.declared.fault.ReadFault.TheVariants as read
use Rattle.fl_flash.specs.declared.flash.FlashFault.TheVariants as flash
use Rattle.fl_table.specs.declared.faults.FlushFault.TheVariants as flush
use Rattle.fl_table.specs.declared.faults.PutRefusal.TheVariants as put
use Rattle.fl_words.specs.Medium.{IsImage}
use Rattle.fl_ship.specs.Ends.{BothMounted, Bytes, CopyFails, IsBroken, IsCopy, IsGapBetween, IsHalfMade, IsOfForm, IsUnbegun, IsUnread, ShipEnds, ShipsOver, ShipsSo, SourceFails, Told, held_in, is_shipped}
use Rattle.fl_ship.specs.Laws.{AreSteps, ShipsAreSteps, shipment_of}
use Rattle.fl_ship.specs.declared.fault.ShipFault.{ShipFault}
use Rattle.fl_ship.specs.declared.fault.ShipFault.TheVariants.{Flush, Put, Read}
use Rattle.fl_ship.specs.declared.side.Side.TheVariants.{Copy, Source}
use Rattle.fl_ship.specs.declared.status.ShipStatus.{ShipStatus}
use Rattle.fl_ship.specs.declared.status.ShipStatus.TheVariants.{BadImage, Device, Done, Gap, NoMemory, NoTable, NotImage, OtherForm, OutWrite, Spent}
use Rattle.fl_ship.proofs.KeptRecords.{ships-keep}
use Rattle.fl_ship.proofs.MountDrops.{DropsOldest, IsLeft, lose-records, mount-drops, mounted-drops}

-- ---- tables between two runs

-- nothing of them is in memory
images-rest : (config : Config) (bytes : List ℕ) (place : ℕ) (plans : List Plan) (tables : List Table) (k : ℕ) (t : Table) → AreTableImages config bytes place plans tables → slice_get tables k ≡ Some t → t.pending ≡ 0
images-rest config bytes place [] [] k t images e = absurd (none-some t e)
images-rest config bytes place [] (x ∷ tables) k t images e = absurd images
images-rest config bytes place (plan ∷ plans) [] k t images e = absurd images
images-rest config bytes place (plan ∷ plans) (x ∷ tables) zero t images e = ap (λ (u : Table). u.pending) (sym (same_Some x t e)) ∙ ap (λ (u : Table). u.pending) images.0.settled.lost
images-rest config bytes place (plan ∷ plans) (x ∷ tables) (suc k) t images e = images-rest config bytes (place + 1) plans tables k t images.1 e

fresh-rest : (plans : List Plan) (k : ℕ) (t : Table) → slice_get (map fresh_table plans) k ≡ Some t → t.pending ≡ 0
fresh-rest [] k t e = absurd (none-some t e)
fresh-rest (plan ∷ plans) zero t e = ap (λ (u : Table). u.pending) (sym (same_Some (fresh_table plan) t e))
fresh-rest (plan ∷ plans) (suc k) t e = fresh-rest plans k t e

pub copies-rest : (config : Config) (bytes : List ℕ) (copies : List Table) (k : ℕ) (t : Table) → IsCopy config bytes copies → slice_get copies k ≡ Some t → t.pending ≡ 0
copies-rest config bytes copies k t (inl (none, same)) e =
    fresh-rest config.plans k t (sym (ap (λ (machine : Machine). slice_get machine.tables k) same) ∙ e)
copies-rest config bytes copies k t (inr (tables, image, same)) e =
    images-rest config bytes 0 config.plans tables k t image.tables_are (sym (ap (λ (machine : Machine). slice_get machine.tables k) same) ∙ e)

-- the place of a name is one, whatever the tables are
one-place : (start : ℕ) (plans : List Plan) (xs ys : List Table) (name : List ℕ) (a b : Located) → located_from start plans xs name ≡ Some a → located_from start plans ys name ≡ Some b → (b.place ≡ a.place) × (b.plan ≡ a.plan)
one-place start [] xs ys name a b e k = absurd (none-some a e)
one-place start (plan ∷ plans) [] ys name a b e k = absurd (none-some a e)
one-place start (plan ∷ plans) (x ∷ xs) [] name a b e k = absurd (none-some b k)
one-place start (plan ∷ plans) (x ∷ xs) (y ∷ ys) name a b e k = by_name (bytes_equal plan.name name) e k (one-place (start + 1) plans xs ys name a b)
  where
    by_name : (t : Bool) → cond t (Some (record { place = start; plan = plan; table = x })) (located_from (start + 1) plans xs name) ≡ Some a →
        cond t (Some (record { place = start; plan = plan; table = y })) (located_from (start + 1) plans ys name) ≡ Some b →
        (located_from (start + 1) plans xs name ≡ Some a → located_from (start + 1) plans ys name ≡ Some b → (b.place ≡ a.place) × (b.plan ≡ a.plan)) → (b.place ≡ a.place) × (b.plan ≡ a.plan)
    by_name true e k go =
        let p = same_Some (record { place = start; plan = plan; table = x }) a e in
        let q = same_Some (record { place = start; plan = plan; table = y }) b k in
        (ap (λ (l : Located). l.place) (sym q) ∙ ap (λ (l : Located). l.place) p, ap (λ (l : Located). l.plan) (sym q) ∙ ap (λ (l : Located). l.plan) p)
    by_name false e k go = go e k

-- the table of a name, where its place is known
record IsThere (place : ℕ) (plan : Plan) (plans : List Plan) (tables : List Table) (at : Located) : Type 0 where
  there : slice_get tables place ≡ Some at.table
  place_is : at.place ≡ place
  plan_is : at.plan ≡ plan

is-there : (config : Config) (xs ys : List Table) (name : List ℕ) (a b : Located) → located_from 0 config.plans xs name ≡ Some a → located_from 0 config.plans ys name ≡ Some b → IsThere a.place a.plan config.plans ys b
is-there config xs ys name a b e k =
    let one = one-place 0 config.plans xs ys name a b e k in
    let found = located-is config (begins ys) name b k in
    record { there = subst (λ n. slice_get ys n ≡ Some b.table) one.0 found.table; place_is = one.0; plan_is = one.1 }

-- a table that is shipped has no log
pub no-log : (plan : Plan) → is_shipped plan ≡ true → has_log plan ≡ false
no-log plan h = by_tests (has_var plan) (has_log plan) h
  where
    by_tests : (v l : Bool) → not (v || l) ≡ true → l ≡ false
    by_tests true l e = absurd (false≢true e)
    by_tests false true e = absurd (false≢true e)
    by_tests false false e = refl

-- ---- what is left of a table

pub kept-lost : (t : Table) → t.pending ≡ 0 → records_in (lose t) ≡ records_in t
kept-lost t none =
    lose-records t
    ∙ (ap (λ (p : ℕ). take (length (records_in t) - p) (records_in t)) none
    ∙ (ap (λ n. take n (records_in t)) (let e : length (records_in t) - 0 ≡ length (records_in t) = omega arith in e) ∙ take-length (records_in t)))

pub lost-there : (place : ℕ) (tables : List Table) (t : Table) → slice_get tables place ≡ Some t → slice_get (map lose tables) place ≡ Some (lose t)
lost-there place tables t e = slice_get-map lose tables place ∙ ap (option_map lose) e

-- only the oldest of the copy's records went, and of the first table's
rests-drops : (ever source source_now copy left : List Record) → Drops source source_now → Drops copy left → CopyRests (shipment_of ever source copy) (shipment_of ever source_now left)
rests-drops ever source source_now copy left g h = record {
  ever = refl;
  mounted = g.gone;
  source = g.is;
  copy = record { given_up = h.gone; first = length (copy ++ []); kept = h.is ∙ ap (drop h.gone) (sym (take-length (copy ++ []) ∙ append-nil copy)) };
}

module _ (config : Config) (sources copies : List Table) (name : List ℕ) (bytes : Bytes) (place : ℕ) (plan : Plan) (source copy : Table) (ever : List Record) where
  -- the media before a ship
  record Before : Type 0 where
    image : IsImage config bytes.source sources
    copies_are : IsCopy config bytes.copy copies
    located : located_from 0 config.plans sources name ≡ Some (record { place = place; plan = plan; table = source })
    copy_there : slice_get copies place ≡ Some copy

  found : Before → IsLocated config.plans sources (record { place = place; plan = plan; table = source }) place
  found b = located-is config (begins sources) name (record { place = place; plan = plan; table = source }) b.located

  source-rests : Before → source.pending ≡ 0
  source-rests b = images-rest config bytes.source 0 config.plans sources place source b.image.tables_are (found b).table

  copy-rests : Before → copy.pending ≡ 0
  copy-rests b = copies-rest config bytes.copy copies place copy b.copies_are b.copy_there

  abbrev Steps : Type 0
  Steps = AreSteps config place ever source copy bytes

  -- the first table's records after a mount
  source-drops : Before → (y : Table) → DropsOldest source y → Drops (records_in source) (records_in (lose y))
  source-drops b y h = record { gone = h.records.gone; is = kept-lost y (h.pending ∙ source-rests b) ∙ h.records.is }

  -- nothing was done
  unbegun : (told : Told) → Before → IsUnbegun bytes told → Steps
  unbegun told b h = record {
    sources_now = sources;
    copies_now = copies;
    image = subst (λ (content : List ℕ). IsImage config content sources) (sym h.source) b.image;
    copy_image = subst (λ (content : List ℕ). IsCopy config content copies) (sym h.copy) b.copies_are;
    source_now = source;
    copy_now = copy;
    here = (found b).table;
    copy_here = b.copy_there;
    mounted = records_in copy;
    rests = rests-drops ever (records_in source) (records_in source) (records_in copy) (records_in copy) (drops-none (records_in source)) (drops-none (records_in copy));
    ships = inr (rests-drops ever (records_in source) (records_in source) (records_in copy) (records_in copy) (drops-none (records_in source)) (drops-none (records_in copy)));
  }

  -- what becomes of both once they are mounted
  abbrev Leads : Table → Table → Table → Type 0
  Leads y z after =
      model.Ships (shipment_of ever (records_in source) (records_in z)) (shipment_of ever (records_in (lose y)) (records_in (lose after)))
      ⊎ CopyRests (shipment_of ever (records_in source) (records_in z)) (shipment_of ever (records_in (lose y)) (records_in (lose after)))

  both-mounted : (told : Told) (Left : Plan → Table → Table → Table → Type 0) → Before → has_log plan ≡ false → BothMounted config.plans sources copies name told (held_in config bytes) Left →
      ((y z after : Table) → DropsOldest source y → z.pending ≡ 0 → Left plan y z after → Leads y z after) → Steps
  both-mounted told Left b none m leads = record {
    sources_now = map lose (all_ready config.plans m.source.end.tables);
    copies_now = map lose (with_table m.to.place (all_ready config.plans m.copy.end.tables) m.after);
    image = m.holds;
    copy_image = inr (map lose (with_table m.to.place (all_ready config.plans m.copy.end.tables) m.after), m.copy_holds, refl);
    source_now = lose m.from.table;
    copy_now = lose m.after;
    here = lost-there place (all_ready config.plans m.source.end.tables) m.from.table from.there;
    copy_here = lost-there place (with_table m.to.place (all_ready config.plans m.copy.end.tables) m.after) m.after after_there;
    mounted = records_in m.to.table;
    rests = rests-drops ever (records_in source) (records_in source) (records_in copy) (records_in m.to.table) (drops-none (records_in source)) copy_drops.records;
    ships = leads m.from.table m.to.table m.after source_drops (copy_drops.pending ∙ copy-rests b) (subst (λ (q : Plan). Left q m.from.table m.to.table m.after) from.plan_is m.left);
  }
    where
      from : IsThere place plan config.plans (all_ready config.plans m.source.end.tables) m.from
      from = is-there config sources (all_ready config.plans m.source.end.tables) name (record { place = place; plan = plan; table = source }) m.from b.located m.found

      to : IsThere place plan config.plans (all_ready config.plans m.copy.end.tables) m.to
      to = is-there config sources (all_ready config.plans m.copy.end.tables) name (record { place = place; plan = plan; table = source }) m.to b.located m.copy_found

      after_there : slice_get (with_table m.to.place (all_ready config.plans m.copy.end.tables) m.after) place ≡ Some m.after
      after_there =
          ap (λ n. slice_get (with_table n (all_ready config.plans m.copy.end.tables) m.after) place) to.place_is
          ∙ changed_at-there place (λ _. m.after) (all_ready config.plans m.copy.end.tables) m.to.table to.there

      source_drops : DropsOldest source m.from.table
      source_drops =
          let left = mounted-drops config.plans plan place m.source.rose at_rest sources m.source.end source (found b).plan none (found b).table m.source.did in
          subst (λ (t : Table). DropsOldest source t) (same_Some left.table m.from.table (sym left.is ∙ from.there)) left.drops

      copy_drops : DropsOldest copy m.to.table
      copy_drops =
          let left = mounted-drops config.plans plan place m.copy.rose at_rest copies m.copy.end copy (found b).plan none b.copy_there m.copy.did in
          subst (λ (t : Table). DropsOldest copy t) (same_Some left.table m.to.table (sym left.is ∙ to.there)) left.drops

  -- records were shipped
  so-leads : Before → (count : ℕ) (result : Result ℕ ShipFault) (y z after : Table) → DropsOldest source y → ShipsSo count result plan y z after → Leads y z after
  so-leads b count result y z after drops (may, ships) =
      let kept : records_in (lose y) ≡ records_in y = kept-lost y (drops.pending ∙ source-rests b) in
      inl (record {
        count = count;
        ever = refl;
        mounted = drops.records.gone;
        source = kept ∙ drops.records.is;
        allowed = subst (λ (rs : List Record). MayShip rs (records_in z)) (sym kept) may;
        copy = subst (λ (rs : List Record). KeepsOf (records_in z) (take count (to_ship rs (records_in z))) (records_in (lose after))) (sym kept)
            (ships-keep plan (take count (to_ship (records_in y) (records_in z))) z result after ships).1;
      })

  -- .. or the copy is left as it is
  still-leads : Before → (y z after : Table) → DropsOldest source y → z.pending ≡ 0 → after ≡ z → Leads y z after
  still-leads b y z after drops none same =
      inr (rests-drops ever (records_in source) (records_in (lose y)) (records_in z) (records_in (lose after)) (source-drops b y drops)
      (subst (Drops (records_in z)) (sym (ap (λ (t : Table). records_in (lose t)) same ∙ kept-lost z none)) (drops-none (records_in z))))

  -- the mount of one of the media failed
  source-fails : (told : Told) → Before → has_log plan ≡ false → SourceFails config.plans sources copies name told (held_in config bytes) → Steps
  source-fails told b none (fails, copies_held) = record {
    sources_now = map lose fails.end.tables;
    copies_now = copies;
    image = fails.holds;
    copy_image = inr (copies, copies_held, refl);
    source_now = lose left.table;
    copy_now = copy;
    here = lost-there place fails.end.tables left.table left.is;
    copy_here = b.copy_there;
    mounted = records_in copy;
    rests = rests-drops ever (records_in source) (records_in source) (records_in copy) (records_in copy) (drops-none (records_in source)) (drops-none (records_in copy));
    ships = inr (rests-drops ever (records_in source) (records_in (lose left.table)) (records_in copy) (records_in copy) (source-drops b left.table left.drops) (drops-none (records_in copy)));
  }
    where
      by_end : Mounts config.plans fails.rose (turns_from 0 config.plans) at_rest sources (Stopped fails.end) ⊎ Mounts config.plans fails.rose (turns_from 0 config.plans) at_rest sources (Unread fails.end) → IsLeft place source fails.end.tables
      by_end (inl did) = mount-drops config.plans plan place fails.rose at_rest sources (Stopped fails.end) source (found b).plan none (found b).table did
      by_end (inr did) = mount-drops config.plans plan place fails.rose at_rest sources (Unread fails.end) source (found b).plan none (found b).table did

      left : IsLeft place source fails.end.tables
      left = by_end fails.did

  copy-fails : (told : Told) → Before → has_log plan ≡ false → CopyFails config.plans sources copies name told (held_in config bytes) → Steps
  copy-fails told b none c = record {
    sources_now = map lose (all_ready config.plans c.source.end.tables);
    copies_now = map lose c.fails.end.tables;
    image = c.holds;
    copy_image = inr (map lose c.fails.end.tables, c.fails.holds, refl);
    source_now = lose y.table;
    copy_now = lose z.table;
    here = lost-there place (all_ready config.plans c.source.end.tables) y.table y.is;
    copy_here = lost-there place c.fails.end.tables z.table z.is;
    mounted = records_in z.table;
    rests = rests-drops ever (records_in source) (records_in source) (records_in copy) (records_in z.table) (drops-none (records_in source)) z.drops.records;
    ships = still-leads b y.table z.table z.table y.drops (z.drops.pending ∙ copy-rests b) refl;
  }
    where
      y : IsLeft place source (all_ready config.plans c.source.end.tables)
      y = mounted-drops config.plans plan place c.source.rose at_rest sources c.source.end source (found b).plan none (found b).table c.source.did

      by_end : Mounts config.plans c.fails.rose (turns_from 0 config.plans) at_rest copies (Stopped c.fails.end) ⊎ Mounts config.plans c.fails.rose (turns_from 0 config.plans) at_rest copies (Unread c.fails.end) → IsLeft place copy c.fails.end.tables
      by_end (inl did) = mount-drops config.plans plan place c.fails.rose at_rest copies (Stopped c.fails.end) copy (found b).plan none b.copy_there did
      by_end (inr did) = mount-drops config.plans plan place c.fails.rose at_rest copies (Unread c.fails.end) copy (found b).plan none b.copy_there did

      z : IsLeft place copy c.fails.end.tables
      z = by_end c.fails.did

  -- a table of this form has no log
  formed : Before → IsOfForm config sources name true → has_log plan ≡ false
  formed b f =
      let same = same_Some f.at (record { place = place; plan = plan; table = source }) (sym f.found ∙ b.located) in
      no-log plan (sym (ap (λ (l : Located). is_shipped l.plan) same) ∙ f.form)

  ships-over : (count : ℕ) (told : Told) (status : ShipStatus) → Before → ShipsOver config sources copies name count told bytes status → Steps
  ships-over count told (Done shipped) b (form, (m, wrote)) = both-mounted told (ShipsSo count (Ok shipped)) b (formed b form) m (λ y z after d n left. so-leads b count (Ok shipped) y z after d left)
  ships-over count told OutWrite b (form, (shipped, m, wrote)) = both-mounted told (ShipsSo count (Ok shipped)) b (formed b form) m (λ y z after d n left. so-leads b count (Ok shipped) y z after d left)
  ships-over count told (Gap last oldest) b (form, (m, quiet)) = both-mounted told (IsGapBetween last oldest) b (formed b form) m (λ y z after d n left. still-leads b y z after d n left.1)
  ships-over count told Spent b (form, (m, quiet)) = both-mounted told (ShipsSo count (Err (Put put.Spent))) b (formed b form) m (λ y z after d n left. so-leads b count (Err (Put put.Spent)) y z after d left)
  ships-over count told (Device Source) b (form, (rose, quiet, inl fails)) = source-fails told b (formed b form) fails
  ships-over count told (Device Source) b (form, (rose, quiet, inr m)) = both-mounted told (IsUnread count) b (formed b form) m leads
    where
      leads : (y z after : Table) → DropsOldest source y → z.pending ≡ 0 → IsUnread count plan y z after → Leads y z after
      leads y z after d n (inl same) = still-leads b y z after d n same
      leads y z after d n (inr (fault, so)) = so-leads b count (Err (Read (read.Flash fault))) y z after d so
  ships-over count told (Device Copy) b (form, (rose, quiet, inl fails)) = copy-fails told b (formed b form) fails
  ships-over count told (Device Copy) b (form, (rose, quiet, inr m)) = both-mounted told (IsBroken count) b (formed b form) m leads
    where
      leads : (y z after : Table) → DropsOldest source y → z.pending ≡ 0 → IsBroken count plan y z after → Leads y z after
      leads y z after d n (inl so) = so-leads b count (Err (Put (put.Flash flash.Media))) y z after d so
      leads y z after d n (inr so) = so-leads b count (Err (Flush (flush.Flash flash.Media))) y z after d so
  ships-over count told (BadImage side table) b (form, none) = absurd none
  ships-over count told NoMemory b (form, none) = absurd none
  ships-over count told (NotImage side) b (form, none) = absurd none
  ships-over count told NoTable b (form, none) = absurd none
  ships-over count told OtherForm b (form, none) = absurd none

  ships : (count : ℕ) (told : Told) (status : ShipStatus) → Before → ShipEnds config sources copies name count told bytes status → ((status ≡ Device Copy) × IsHalfMade config bytes told) ⊎ Steps
  ships count told (Done shipped) b h = inr (ships-over count told (Done shipped) b h)
  ships count told OutWrite b h = inr (ships-over count told OutWrite b h)
  ships count told NoMemory b h = inr (unbegun told b h)
  ships count told (NotImage side) b h = inr (ships-over count told (NotImage side) b h)
  ships count told (Device Source) b (inl h) = inr (unbegun told b h.1)
  ships count told (Device Source) b (inr h) = inr (ships-over count told (Device Source) b h)
  ships count told (Device Copy) b (inl (rose, inl h)) = inr (unbegun told b h)
  ships count told (Device Copy) b (inl (rose, inr h)) = inl (refl, h)
  ships count told (Device Copy) b (inr h) = inr (ships-over count told (Device Copy) b h)
  ships count told (BadImage side table) b h = inr (ships-over count told (BadImage side table) b h)
  ships count told NoTable b h = absurd (none-some (record { place = place; plan = plan; table = source }) (sym h.0 ∙ b.located))
  ships count told (Gap last oldest) b h = inr (ships-over count told (Gap last oldest) b h)
  ships count told OtherForm b h = inr (unbegun told b h.1)
  ships count told Spent b h = inr (ships-over count told Spent b h)

pub ships-are-steps : ShipsAreSteps
ships-are-steps config sources copies name count told bytes status place plan source copy ever made image copies_are located there h =
    ships config sources copies name bytes place plan source copy ever count told status (record { image = image; copies_are = copies_are; located = located; copy_there = there }) h

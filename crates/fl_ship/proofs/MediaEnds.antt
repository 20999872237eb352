-- How a ship between two media ends, from how one between the flashes on them does.
use Rattle.std.proofs.Common.{ℕ, ◌≤◌, inl, inr, Option, List, sym, ap, subst, arith}
use Rattle.fl_base.specs.Causes.{Rose}
use Rattle.fl_flash.specs.Flash.{FlashState}
use Rattle.fl_flash.specs.Media.{MediaState}
use Rattle.fl_model.specs.Record.{Plan, Config}
use Rattle.fl_model.specs.Table.{Table}
use Rattle.fl_store.specs.Store.{IsOnMedium}
use Rattle.fl_store.specs.declared.tables.Entry.{Entry}
use Rattle.fl_store.proofs.Worked.{Worked, worked-image}
use Rattle.fl_words.specs.Config.{Lines}
use Rattle.fl_ship.specs.Ends.{BothMounted, CopyFails, Holding, MountsAll, SourceFails, TablesShip, Told, held_in}
use Rattle.fl_ship.specs.Media.{bytes_of}
use Rattle.fl_ship.specs.Tables.{standing_on, told_of}
use Rattle.fl_ship.specs.declared.side.Side.TheVariants.{Source, Copy}
use Rattle.fl_ship.specs.declared.status.ShipStatus.{ShipStatus}
use Rattle.fl_ship.specs.declared.status.ShipStatus.TheVariants.{Done, OutWrite, NoMemory, NotImage, Device, BadImage, NoTable, Gap, OtherForm, Spent}

-- ---- what stands at the end in other words, and counts that are taken from an earlier moment on

module _ (plans : List Plan) (sources copies : List Table) (name : List ℕ) (count : ℕ) (told : Told) (a b n : ℕ) (holding stands : Holding) (seen : (ts : List Table) → holding.Source ts → stands.Source ts) (copy_seen : (ts : List Table) → holding.Copy ts → stands.Copy ts)
    (rises : Rose told.source told.source_now → Rose a told.source_now) (copy_rises : Rose told.copy told.copy_now → Rose b told.copy_now) where
  abbrev since : Told
  since = record told { source = a; copy = b; copy_reads = n }

  abbrev mounts-seen : (tables : List Table) (x y z : ℕ) → (Rose y z → Rose x z) → MountsAll plans tables y z → MountsAll plans tables x z
  mounts-seen tables x y z rise h = record { rose = h.rose; risen = λ r. rise (h.risen r); end = h.end; did = h.did }

  both-seen : (Left : Plan → Table → Table → Table → Type 0) → BothMounted plans sources copies name told holding Left → BothMounted plans sources copies name since stands Left
  both-seen Left h = record {
    source = mounts-seen sources a told.source told.source_now rises h.source;
    copy = mounts-seen copies b told.copy told.copy_now copy_rises h.copy;
    from = h.from;
    found = h.found;
    to = h.to;
    copy_found = h.copy_found;
    after = h.after;
    left = h.left;
    holds = seen _ h.holds;
    copy_holds = copy_seen _ h.copy_holds;
  }

  source-seen : SourceFails plans sources copies name told holding → SourceFails plans sources copies name since stands
  source-seen h = (
    record { named = h.0.named; rose = h.0.rose; risen = λ r. rises (h.0.risen r); end = h.0.end; did = h.0.did; holds = seen _ h.0.holds; nothing = h.0.nothing },
    copy_seen copies h.1,
  )

  copy-seen : CopyFails plans sources copies name told holding → CopyFails plans sources copies name since stands
  copy-seen h = record {
    source = mounts-seen sources a told.source told.source_now rises h.source;
    holds = seen _ h.holds;
    fails = record { named = h.fails.named; rose = h.fails.rose; risen = λ r. copy_rises (h.fails.risen r); end = h.fails.end; did = h.fails.did; holds = copy_seen _ h.fails.holds; nothing = h.fails.nothing };
  }

  pub ends-seen : (status : ShipStatus) → TablesShip plans sources copies name count told holding status → TablesShip plans sources copies name count since stands status
  ends-seen (Done shipped) h = (both-seen _ h.0, h.1)
  ends-seen OutWrite h = (h.0, both-seen _ h.1, h.2)
  ends-seen (Gap last oldest) h = (both-seen _ h.0, h.1)
  ends-seen Spent h = (both-seen _ h.0, h.1)
  ends-seen (Device Source) (rose, quiet, inl h) = (rises rose, quiet, inl (source-seen h))
  ends-seen (Device Source) (rose, quiet, inr h) = (rises rose, quiet, inr (both-seen _ h))
  ends-seen (Device Copy) (rose, quiet, inl h) = (copy_rises rose, quiet, inl (copy-seen h))
  ends-seen (Device Copy) (rose, quiet, inr h) = (copy_rises rose, quiet, inr (both-seen _ h))
  ends-seen (BadImage side table) h = absurd h
  ends-seen NoMemory h = absurd h
  ends-seen (NotImage side) h = absurd h
  ends-seen NoTable h = absurd h
  ends-seen OtherForm h = absurd h

-- ---- over the media on which their stores were opened

pub store-ends : (config : Config) (sources copies : List Table) (name : List ℕ) (count : ℕ) (lines : Lines) (old mid new copy copy_mid copy_new : MediaState) (f g a b : FlashState) (told told_now : Option (List ℕ)) (now copies_now : List Entry) (status : ShipStatus) →
    Worked lines mid new f g → Worked lines copy_mid copy_new a b → IsOnMedium config f → IsOnMedium config a → old.faults ≤ mid.faults → copy.faults ≤ copy_mid.faults →
    TablesShip config.plans sources copies name count (told_of f.media g.media a.media b.media told told_now) (standing_on config.plans g now b copies_now) status →
    TablesShip config.plans sources copies name count (told_of old new copy copy_new told told_now) (held_in config (bytes_of old new copy copy_new)) status
store-ends config sources copies name count lines old mid new copy copy_mid copy_new f g a b told told_now now copies_now status from onto on copy_on later copy_later h =
    let here : TablesShip config.plans sources copies name count (told_of f.media new a.media copy_new told told_now) (standing_on config.plans g now b copies_now) status =
    subst (λ (x : MediaState). TablesShip config.plans sources copies name count (told_of f.media new a.media x told told_now) (standing_on config.plans g now b copies_now) status) (sym onto.closed)
    (subst (λ (x : MediaState). TablesShip config.plans sources copies name count (told_of f.media x a.media b.media told told_now) (standing_on config.plans g now b copies_now) status) (sym from.closed) h) in
    ends-seen config.plans sources copies name count (told_of f.media new a.media copy_new told told_now) old.faults copy.faults copy.reads (standing_on config.plans g now b copies_now) (held_in config (bytes_of old new copy copy_new))
    (worked-image lines mid new f g from config on now) (worked-image lines copy_mid copy_new a b onto config copy_on copies_now)
    (λ rose. omega (arith, later, ap (λ (m : MediaState). m.faults) from.opened.media, rose)) (λ rose. omega (arith, copy_later, ap (λ (m : MediaState). m.faults) onto.opened.media, rose)) status here

-- What stores go on to hold.
use Rattle.std.proofs.Common.{true, List}
use Rattle.fl_flash.specs.Flash.{FlashState}
use Rattle.fl_model.specs.Record.{Config}
use Rattle.fl_model.specs.Table as model
use Rattle.fl_frame.specs.Contents.{OnlyReads}
use Rattle.fl_frame.proofs.ContentsInTurn.{OnlyReads-goes}
use Rattle.fl_store.specs.Laws.{StoresHold}
use Rattle.fl_store.specs.Store.{Holds}
use Rattle.fl_store.specs.declared.tables.Entry.{Entry}
use Rattle.fl_store.proofs.TablesOnlyRead.{tables-read}
use Rattle.fl_store.proofs.Unmounted.{off}
use Rattle.fl_store.proofs.Worked.{medium-goes}

pub held-read : (config : Config) (entries : List Entry) (f g : FlashState) (tables : List model.Table) → OnlyReads f g → Holds config entries f true tables → Holds config entries g true tables
held-read config entries f g tables only h = record { medium = medium-goes config f g (OnlyReads-goes f g only) h.medium; stand = tables-read f g only config.plans entries tables h.stand }

pub stores-hold : StoresHold
stores-hold = record {
  reads = held-read;
  rests = λ config entries f tables h. record { medium = h.medium; stand = off f true config.plans entries tables h.stand };
}

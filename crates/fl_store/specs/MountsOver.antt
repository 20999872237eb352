-- What a mount of all tables of an image does, over any bytes and on any medium.
use Rattle.std.specs.Prelude.{◌≡◌, true, IsTrue, Result, OnOk, IfErr, List, length}
use Rattle.fl_flash.specs.Flash.{FlashState, page_at}
use Rattle.fl_parts.specs.Faults.{MountCausedBy}
use Rattle.fl_parts.specs.IndexMount.{FewRepairs}
use Rattle.fl_store.specs.Mounting.{AreSameNames, AreSamePlans, MountsInTurn, OutsideStands, RefusesAt, repairs_of, tried}
use Rattle.fl_store.specs.Tables.{AreRunning, NoneWaits, StopsAt}
use Rattle.fl_store.specs.declared.tables.BadMount.{BadMount}
use Rattle.fl_store.specs.declared.tables.Entry.{Entry}

-- What a mount of tables found, why it failed, what it repaired and what it left alone. No table became another one; where all are
-- mounted, nothing of them waits in memory.
pub record MountsOver (old new : List Entry) (f : FlashState) (outcome : Result (Unit {0}) BadMount) (g : FlashState) : Type 0 where
  pub found : OnOk outcome (IsTrue f.media.tells → MountsInTurn (length old) old new f g)
  pub refused : IfErr outcome (λ bad. IsTrue f.media.tells → RefusesAt old new bad f g)
  pub stops : IfErr outcome (λ bad. StopsAt old new bad)
  pub cause : IfErr outcome (λ bad. MountCausedBy f bad.fault g)
  pub running : OnOk outcome (AreRunning new)
  pub none : OnOk outcome (NoneWaits new)
  pub power : OnOk outcome (f.is_on ≡ true → g.is_on ≡ true)
  pub as_many : length new ≡ length old
  pub names : AreSameNames old new
  pub same : AreSamePlans old new
  pub repairs : FewRepairs (repairs_of (tried outcome old)) f g
  pub outside : IsTrue f.media.tells → OutsideStands (tried outcome old) (page_at f) (page_at g)

use Rattle.std.proofs.Common.{refl}
use Rattle.fl_index.proofs.Memories.{ring-same}
use Rattle.fl_index.proofs.WaitingEntries.{none-in}
use Rattle.fl_index.proofs.index.BitmapIndex.restart.Goals as goal

pub returns-clause-ring : goal.returns-clause-ring
returns-clause-ring c = λ f begin plan table stands.
    ring-same c.args.self.now _ f begin plan table (record { geometry = refl; place = refl; bits = refl; full = refl }) (record { ring = refl; firsts = refl }) stands

pub returns-clause-waits : goal.returns-clause-waits
returns-clause-waits c = record { first_is = refl; count_is = c.requires.none; gathered = none-in _ _ }

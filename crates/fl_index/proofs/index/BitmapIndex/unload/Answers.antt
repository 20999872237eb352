use Rattle.std.proofs.Common.{refl}
use Rattle.fl_index.proofs.LoadedPages.{all-known}
use Rattle.fl_index.proofs.index.BitmapIndex.unload.Goals as goal

pub returns-clause-ring : goal.returns-clause-ring
returns-clause-ring c = λ f first plan table stands. all-known c.args.self.now _ f first plan table (record { geometry = refl; place = refl; bits = refl; full = refl }) refl (λ n. refl) stands

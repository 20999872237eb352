use Rattle.fl_store.proofs.Over.{image-closed, image-lost}
use Rattle.fl_store.proofs.store.Store.close.Goals as goal

pub returns-clause-image : goal.returns-clause-image
returns-clause-image g c = λ configured tables holds. image-closed configured c.args.self.tables.entries.items _ _ tables c.into_media.ensures.state holds

pub returns-clause-lost : goal.returns-clause-lost
returns-clause-lost g c = λ configured tables holds. image-lost configured c.args.self.tables.entries.items _ _ tables c.into_media.ensures.state holds

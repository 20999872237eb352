use Rattle.fl_store.proofs.Images.{lie-medium}
use Rattle.fl_store.proofs.Over.{flash-over, opened-over, origin-over, holds-over}
use Rattle.fl_store.proofs.store.Store.over.Goals as goal

pub returns-clause-holds : goal.returns-clause-holds
returns-clause-holds g c = λ configured tables told makes image.
    holds-over c.args.config.now _ (g.M.Media.state c.args.media.now) c.geometry.result c.blocks-2.result _ c.flash_on-flash.ensures c.geometry.ensures.device c.args.layout.tables.entries.items c.requires.layout.tables configured tables told makes image

pub returns-clause-flash : goal.returns-clause-flash
returns-clause-flash g c = λ geometry device.
    flash-over c.args.config.now _ (g.M.Media.state c.args.media.now) c.geometry.result c.blocks-2.result _ c.flash_on-flash.ensures c.geometry.ensures.device c.blocks-2.ensures.exact geometry device

pub returns-clause-opened : goal.returns-clause-opened
returns-clause-opened g c =
    opened-over c.args.config.now _ (g.M.Media.state c.args.media.now) c.geometry.result c.blocks-2.result _ c.flash_on-flash.ensures c.geometry.ensures.device c.blocks-2.ensures.exact

pub returns-clause-origin : goal.returns-clause-origin
returns-clause-origin g c =
    origin-over c.args.config.now _ (g.M.Media.state c.args.media.now) c.geometry.result c.blocks-2.result _ c.flash_on-flash.ensures c.geometry.ensures.device

pub returns-clause-lie : goal.returns-clause-lie
returns-clause-lie g c =
    lie-medium c.args.layout.tables.entries.items c.args.config.now _ c.geometry.result c.blocks-2.result _ _ _ c.flash_on-flash.ensures c.requires.layout.tables c.geometry.ensures.device c.blocks-2.ensures.exact c.blocks-2.ensures.fits

use Rattle.std.proofs.Common.{refl}
use Rattle.fl_command.specs.Ships.{Ships, sides_of}
use Rattle.fl_command.proofs.shipping.ship.Goals as goal

pub returns : goal.returns
returns g c =
    let old = sides_of (g.M.Media.state c.args.media.now) (g.C.Media.state c.args.copy.now) c.args.out.now (g.K.Sink.written c.args.out.now) (g.K.Sink.faults c.args.out.now) in
    let new = sides_of (g.M.Media.state c.ship_image.new.media) (g.C.Media.state c.ship_image.new.copy) c.ship_image.new.out (g.K.Sink.written c.ship_image.new.out) (g.K.Sink.faults c.ship_image.new.out) in
    let did = c.ship_image.ensures in
    let ships : Ships c.args.job.name c.args.job.count old new c.ship_image.result = record {
      ends = did.ends;
      stands = did.stands;
      copy_stands = did.copy_stands;
      good = did.good;
      good_copy = did.good_copy;
      repairs = did.repairs;
      others = did.others;
      over = did.over;
      fits = did.fits;
      changes = did.changes;
      untouched = did.untouched;
      device = did.device;
      copy_device = did.copy_device;
      write = did.write;
      line = did.line;
      later = did.later;
      keeps = did.keeps;
      copy_keeps = did.copy_keeps;
    } in
    (c.ship_image.result, refl, ships)

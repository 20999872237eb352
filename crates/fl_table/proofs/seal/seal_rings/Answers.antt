use Rattle.std.proofs.Common.{inl, inr, refl}
use Rattle.std.proofs.lemmas.Result.{err_from_is_err_and}
use Rattle.fl_table.proofs.Sealing.{reaches-in-turn}
use Rattle.fl_table.proofs.seal.seal_rings.Goals as goal

pub returns-in_err-make_room : goal.returns-in_err-make_room
returns-in_err-make_room g c =
    let e = c.in_err-make_room.ensures in
    let p = err_from_is_err_and c.from_residual.result c.from_residual.ensures.1 in
    rw (p.1, p.2) (inl (
      record {
        same = e.same;
        lies = e.lies;
        made = e.made;
        broken = e.broken;
        ends = e.ends;
        off = e.off;
        flash = record { goes = e.goes; power = e.power; writes = e.writes; outside = e.outside; reads = e.reads; media_reads = e.media_reads; cause = e.cause };
      },
      refl,
    ))

pub returns-in_err-seal_rest : goal.returns-in_err-seal_rest
returns-in_err-seal_rest g c =
    let e = c.in_ok-make_room.ensures in
    let b = c.in_err-seal_rest.ensures in
    let p = err_from_is_err_and c.from_residual-in_err-seal_rest.result c.from_residual-in_err-seal_rest.ensures.1 in
    rw (p.1, p.2) (inr (inl (record {
      first = g.F.Flash.state c.make_room.new.flash;
      entries = record {
        same = e.same;
        lies = e.lies;
        made = e.made;
        broken = e.broken;
        ends = e.ends;
        off = e.off;
        flash = record { goes = e.goes; power = e.power; writes = e.writes; outside = e.outside; reads = e.reads; media_reads = e.media_reads; cause = e.cause };
      };
      bytes = record {
        same = b.same;
        lies = b.lies;
        running = b.running;
        next = b.next;
        oldest = b.oldest;
        empty = b.empty;
        ends = b.ends;
        page = b.page;
        ahead = b.ahead;
        off = b.off;
        flash = record { goes = b.goes; power = b.power; writes = b.writes; outside = b.outside; reads = b.reads; media_reads = b.media_reads; cause = b.cause };
      };
    })))

pub returns : goal.returns
returns g c =
    let e = c.in_ok-make_room.ensures in
    let b = c.in_ok-seal_rest.ensures in
    reaches-in-turn c.args.bitmaps.now c.args.blobs.now c.args.ring.now c.args.body.now (g.F.Flash.state c.args.flash.now) c.seal.result c.make_room.new.bitmaps c.seal_rest.new.blobs c.seal.new.self (g.F.Flash.state c.seal.new.flash) (record {
      first = g.F.Flash.state c.make_room.new.flash;
      then = g.F.Flash.state c.seal_rest.new.flash;
      reaches = g.met.F.Flash.reaches c.seal_rest.new.flash;
      entries = record {
        same = e.same;
        lies = e.lies;
        made = e.made;
        broken = e.broken;
        ends = e.ends;
        off = e.off;
        flash = record { goes = e.goes; power = e.power; writes = e.writes; outside = e.outside; reads = e.reads; media_reads = e.media_reads; cause = e.cause };
      };
      bytes = record {
        same = b.same;
        lies = b.lies;
        running = b.running;
        next = b.next;
        oldest = b.oldest;
        empty = b.empty;
        ends = b.ends;
        page = b.page;
        ahead = b.ahead;
        off = b.off;
        flash = record { goes = b.goes; power = b.power; writes = b.writes; outside = b.outside; reads = b.reads; media_reads = b.media_reads; cause = b.cause };
      };
      rows = record { seals = c.seal.ensures.seals; memory = c.seal.ensures.memory; flash = c.seal.ensures.flash };
    })

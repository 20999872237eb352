use Rattle.std.proofs.Common.{Option, is_some, sym, ◌∙◌, ap}
use Rattle.std.proofs.lemmas.Bool.{true≢false}
use Rattle.fl_frame.proofs.SingleReads.{one_read}
use Rattle.fl_ring.specs.Ring.{Shape, place}
use Rattle.fl_ring.specs.declared.ring.Ring.{Ring}
use Rattle.fl_ring.proofs.Exists.{lies_exists}
use Rattle.fl_rlc.proofs.LogReads.{read-told, read-failed, read-powered}
use Rattle.fl_rlc.proofs.log.RecordLog.read.Goals as goal

pub unreachable-requires : goal.unreachable-requires
unreachable-requires g c = true≢false (sym c.requires.mounted ∙ ap (λ (o : Option Ring). is_some o) c.in_default.is)

pub unreachable-unreachable : goal.unreachable-unreachable
unreachable-unreachable g c = c.unreachable.type_inv

pub read-requires-clause-exists : goal.read-requires-clause-exists
read-requires-clause-exists g c = lies_exists c.in-Some.ring (g.F.Flash.state c.args.flash.now) c.place_of.result (c.requires.lies.ring c.in-Some.ring c.in-Some.is) c.place_of.ensures.within

pub read-requires-clause-room : goal.read-requires-clause-room
read-requires-clause-room g c = c.requires.room

pub returns-clause-reads : goal.returns-clause-reads
returns-clause-reads g c = one_read _ _ _ _ _ _ c.read.ensures

pub returns-clause-room : goal.returns-clause-room
returns-clause-room g c = c.read.ensures.size_stays

pub returns-clause-page : goal.returns-clause-page
returns-clause-page g c =
    read-told _ _ _ _ _ c.read.result c.read.new.into (c.place_of.ensures.place ∙ ap (λ (r : Shape). place r c.args.number) (c.args.self.now.lies c.in-Some.ring c.in-Some.is)) c.read.ensures

pub returns-clause-fails : goal.returns-clause-fails
returns-clause-fails g c = read-failed _ _ _ _ c.read.result c.read.new.into c.read.ensures

pub returns-clause-power : goal.returns-clause-power
returns-clause-power g c = read-powered _ _ _ _ c.read.result c.read.new.into c.read.ensures

use Rattle.std.proofs.lemmas.Result.{IfErr-weaker}
use Rattle.fl_table.proofs.Finds.{holds-in, holds-pages, lookup-blames, lookup-fails, page-for}
use Rattle.fl_parts.proofs.IndexOfTable.{none-is}
use Rattle.fl_table.proofs.ReadsKeepTable.{lies-read, most-kept}
use Rattle.fl_parts.proofs.Sizes.{index-fits}
use Rattle.fl_table.proofs.Slots.{steps-model}
use Rattle.fl_table.proofs.table.Table.page_of.Goals as goal

pub returns-clause-page : goal.returns-clause-page
returns-clause-page g c = record {
  finds = λ first plan table tells stands.
      let f = g.F.Flash.state c.args.flash.now in
      let holds = holds-pages c.args.self.now f first plan table c.in-Some.ring stands c.requires.lies (g.met.F.Flash.reaches c.args.flash.now) c.in-Some.is tells in
      c.page_of.ensures.found plan table holds stands.points stands.memory.index;
  reads = λ first plan table tells stands pending.
      let f = g.F.Flash.state c.args.flash.now in
      let holds = holds-pages c.args.self.now f first plan table c.in-Some.ring stands c.requires.lies (g.met.F.Flash.reaches c.args.flash.now) c.in-Some.is tells in
      c.page_of.ensures.reads plan table holds stands.points stands.memory.index pending;
  slot = λ first plan table count stands is.
      steps-model c.args.self.now (g.F.Flash.state c.args.flash.now) first plan table c.args.key count _ _ stands is c.page_of.ensures.comparisons;
}

pub returns-clause-kept : goal.returns-clause-kept
returns-clause-kept g c = record {
  answers = λ told.
      let e = c.page_of.ensures in
      page-for c.args.self.now c.in-Some.ring (g.F.Flash.state c.args.flash.now) c.args.key c.in-Some.is c.page_of.result told e.within e.starts e.near e.sound e.far;
  holds =
      holds-in c.args.self.now (g.F.Flash.state c.page_of.new.flash) c.in-Some.ring c.page_of.new.buf c.page_of.result c.in-Some.is c.page_of.ensures.within c.page_of.ensures.holds;
  fails =
      let new = g.F.Flash.state c.page_of.new.flash in
      IfErr-weaker c.page_of.result _ _ (λ e fails. lookup-fails c.args.self.now c.in-Some.ring (g.F.Flash.state c.args.flash.now) e new c.in-Some.is fails) c.page_of.ensures.fails;
  blames = λ covered.
      IfErr-weaker c.page_of.result _ _ (λ e blames. lookup-blames c.args.self.now c.in-Some.ring (g.F.Flash.state c.args.flash.now) c.args.key e c.in-Some.is blames) (c.page_of.ensures.blames covered);
}

pub returns-clause-flash : goal.returns-clause-flash
returns-clause-flash g c = record {
  counts = c.page_of.ensures.looks.reads;
  most = most-kept c.args.self.now (g.F.Flash.state c.args.flash.now) (g.F.Flash.state c.page_of.new.flash) c.in-Some.ring c.in-Some.is c.page_of.ensures.most;
  lies = lies-read c.args.self.now (g.F.Flash.state c.args.flash.now) (g.F.Flash.state c.page_of.new.flash) c.page_of.ensures.looks.reads c.requires.lies;
  room = c.page_of.ensures.room;
  fresh = c.page_of.ensures.fresh;
}

pub returns-clause-steps : goal.returns-clause-steps
returns-clause-steps g c = record {
  later = c.page_of.ensures.later;
  comparisons = c.page_of.ensures.comparisons;
}

pub unreachable-requires : goal.unreachable-requires
unreachable-requires g c = none-is c.args.self.now.ring c.in_default.is c.requires.running

pub unreachable-unreachable : goal.unreachable-unreachable
unreachable-unreachable g c = c.unreachable.type_inv

pub page_of-requires : goal.page_of-requires
page_of-requires g c = (index-fits g.row.KNOTS g.row.SLOTS c.args.self.now.few_knots c.args.self.now.few_slots, (c.requires.lies.ring c.in-Some.ring c.in-Some.is, c.requires.room))

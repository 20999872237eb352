use Rattle.std.proofs.Common.{◌≡◌, Some, arith, slice_get}
use Rattle.std.proofs.lemmas.Option.{slice_get_within, slice_get_read}
use Rattle.fl_model.proofs.Names.{names-same, names-differ}
use Rattle.fl_store.proofs.NamesInTables.{others-more}
use Rattle.fl_store.proofs.tables.Tables.find.Goals as goal

pub returns-then-eq : goal.returns-then-eq
returns-then-eq c =
    let here : slice_get c.args.self.now.entries.items c.loop-at.at ≡ Some c.index.result.now = slice_get_read c.args.self.now.entries.items _ c.loop-at.at c.index.result.now c.args.self.now.entries.ok.0 (omega (arith, c.loop-at-test.true, c.len-at-end.ensures)) c.index.ensures in
    record {
      entry = c.index.result.now;
      here = here;
      named = names-same c.bytes.result.now c.bytes-in-loop-at.result.now c.index.result.now.name c.args.name c.eq.result c.bytes.ensures.same c.bytes-in-loop-at.ensures.same c.eq.ensures c.if-eq.true;
      first = c.loop-at.invariant.others;
    }

pub loop-at-preserved : goal.loop-at-preserved
loop-at-preserved c =
    let here : slice_get c.args.self.now.entries.items c.loop-at.at ≡ Some c.index.result.now = slice_get_read c.args.self.now.entries.items _ c.loop-at.at c.index.result.now c.args.self.now.entries.ok.0 (omega (arith, c.loop-at-test.true, c.len-at-end.ensures)) c.index.ensures in
    record {
      others = others-more c.args.self.now.entries.items c.args.name c.loop-at.at c.index.result.now c.loop-at.invariant.others here
          (names-differ c.bytes.result.now c.bytes-in-loop-at.result.now c.index.result.now.name c.args.name c.eq.result c.bytes.ensures.same c.bytes-in-loop-at.ensures.same c.eq.ensures c.if-eq.false);
    }

pub returns : goal.returns
returns c = λ i other e.
    c.loop-at.invariant.others i other (omega (arith, slice_get_within c.args.self.now.entries.items i other e, c.loop-at-test.false, c.len-at-end.ensures, c.args.self.now.entries.ok.0)) e

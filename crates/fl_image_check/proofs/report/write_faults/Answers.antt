use Rattle.std.proofs.Common.{[], ◌∷◌, ◌++◌}
use Rattle.fl_script.proofs.SinkPieces.{written-err}
use Rattle.fl_check.specs.Faults.{fault_of, ring_faults}
use Rattle.fl_check.specs.declared.finding.RingName.TheVariants.{Index, Data, Var, Log}
use Rattle.fl_rules.specs.declared.rule.Rule.TheVariants.{Entry, Blob}
use Rattle.fl_image_check.proofs.FindingLines.{more, more-front, front-of_all, then-written}
use Rattle.fl_image_check.proofs.report.write_faults.Goals as goal

pub returns-in_err-write_ring-clause-text : goal.returns-in_err-write_ring-clause-text
returns-in_err-write_ring-clause-text g c =
    let name = c.args.name.now in
    let faults = c.args.faults.now in
    let index = ring_faults Index faults.index in
    let rows = ring_faults Data faults.rows in
    let var = ring_faults Var faults.var in
    let log = ring_faults Log faults.log in
    let entry = fault_of Index Entry faults.entry in
    let blob = fault_of Data Blob faults.blob in
    let before = g.K.Sink.written c.args.out.now in
    let at1 = g.K.Sink.written c.write_ring.new.out in
    written-err _ _ _ _ c.from_residual.ensures.0 (front-of_all name before at1 (index) (rows ∷ var ∷ log ∷ entry ∷ blob ∷ []) c.in_err-write_ring.ensures.text)

pub returns-in_err-write_ring-2-clause-text : goal.returns-in_err-write_ring-2-clause-text
returns-in_err-write_ring-2-clause-text g c =
    let name = c.args.name.now in
    let faults = c.args.faults.now in
    let index = ring_faults Index faults.index in
    let rows = ring_faults Data faults.rows in
    let var = ring_faults Var faults.var in
    let log = ring_faults Log faults.log in
    let entry = fault_of Index Entry faults.entry in
    let blob = fault_of Data Blob faults.blob in
    let before = g.K.Sink.written c.args.out.now in
    let at1 = g.K.Sink.written c.write_ring.new.out in
    let at2 = g.K.Sink.written c.write_ring-2.new.out in
    let to1 = c.in_ok-write_ring.ensures.text in
    written-err _ _ _ _ c.from_residual-in_err-write_ring-2.ensures.0 (front-of_all name before at2 (index ++ rows) (var ∷ log ∷ entry ∷ blob ∷ []) (more-front name before at1 at2 (index) rows to1 c.in_err-write_ring-2.ensures.text))

pub returns-in_err-write_ring-3-clause-text : goal.returns-in_err-write_ring-3-clause-text
returns-in_err-write_ring-3-clause-text g c =
    let name = c.args.name.now in
    let faults = c.args.faults.now in
    let index = ring_faults Index faults.index in
    let rows = ring_faults Data faults.rows in
    let var = ring_faults Var faults.var in
    let log = ring_faults Log faults.log in
    let entry = fault_of Index Entry faults.entry in
    let blob = fault_of Data Blob faults.blob in
    let before = g.K.Sink.written c.args.out.now in
    let at1 = g.K.Sink.written c.write_ring.new.out in
    let at2 = g.K.Sink.written c.write_ring-2.new.out in
    let at3 = g.K.Sink.written c.write_ring-3.new.out in
    let to1 = c.in_ok-write_ring.ensures.text in
    let to2 = more name before at1 at2 (index) rows to1 c.in_ok-write_ring-2.ensures.text in
    written-err _ _ _ _ c.from_residual-in_err-write_ring-3.ensures.0 (front-of_all name before at3 (index ++ rows ++ var) (log ∷ entry ∷ blob ∷ []) (more-front name before at2 at3 (index ++ rows) var to2 c.in_err-write_ring-3.ensures.text))

pub returns-in_err-write_ring-4-clause-text : goal.returns-in_err-write_ring-4-clause-text
returns-in_err-write_ring-4-clause-text g c =
    let name = c.args.name.now in
    let faults = c.args.faults.now in
    let index = ring_faults Index faults.index in
    let rows = ring_faults Data faults.rows in
    let var = ring_faults Var faults.var in
    let log = ring_faults Log faults.log in
    let entry = fault_of Index Entry faults.entry in
    let blob = fault_of Data Blob faults.blob in
    let before = g.K.Sink.written c.args.out.now in
    let at1 = g.K.Sink.written c.write_ring.new.out in
    let at2 = g.K.Sink.written c.write_ring-2.new.out in
    let at3 = g.K.Sink.written c.write_ring-3.new.out in
    let at4 = g.K.Sink.written c.write_ring-4.new.out in
    let to1 = c.in_ok-write_ring.ensures.text in
    let to2 = more name before at1 at2 (index) rows to1 c.in_ok-write_ring-2.ensures.text in
    let to3 = more name before at2 at3 (index ++ rows) var to2 c.in_ok-write_ring-3.ensures.text in
    written-err _ _ _ _ c.from_residual-in_err-write_ring-4.ensures.0 (front-of_all name before at4 (index ++ rows ++ var ++ log) (entry ∷ blob ∷ []) (more-front name before at3 at4 (index ++ rows ++ var) log to3 c.in_err-write_ring-4.ensures.text))

pub returns-in_err-write_fault-clause-text : goal.returns-in_err-write_fault-clause-text
returns-in_err-write_fault-clause-text g c =
    let name = c.args.name.now in
    let faults = c.args.faults.now in
    let index = ring_faults Index faults.index in
    let rows = ring_faults Data faults.rows in
    let var = ring_faults Var faults.var in
    let log = ring_faults Log faults.log in
    let entry = fault_of Index Entry faults.entry in
    let blob = fault_of Data Blob faults.blob in
    let before = g.K.Sink.written c.args.out.now in
    let at1 = g.K.Sink.written c.write_ring.new.out in
    let at2 = g.K.Sink.written c.write_ring-2.new.out in
    let at3 = g.K.Sink.written c.write_ring-3.new.out in
    let at4 = g.K.Sink.written c.write_ring-4.new.out in
    let at5 = g.K.Sink.written c.write_fault.new.out in
    let to1 = c.in_ok-write_ring.ensures.text in
    let to2 = more name before at1 at2 (index) rows to1 c.in_ok-write_ring-2.ensures.text in
    let to3 = more name before at2 at3 (index ++ rows) var to2 c.in_ok-write_ring-3.ensures.text in
    let to4 = more name before at3 at4 (index ++ rows ++ var) log to3 c.in_ok-write_ring-4.ensures.text in
    written-err _ _ _ _ c.from_residual-in_err-write_fault.ensures.0 (front-of_all name before at5 (index ++ rows ++ var ++ log ++ entry) (blob ∷ []) (more-front name before at4 at5 (index ++ rows ++ var ++ log) entry to4 c.in_err-write_fault.ensures.text))

pub returns-clause-text : goal.returns-clause-text
returns-clause-text g c =
    let name = c.args.name.now in
    let faults = c.args.faults.now in
    let index = ring_faults Index faults.index in
    let rows = ring_faults Data faults.rows in
    let var = ring_faults Var faults.var in
    let log = ring_faults Log faults.log in
    let entry = fault_of Index Entry faults.entry in
    let blob = fault_of Data Blob faults.blob in
    let before = g.K.Sink.written c.args.out.now in
    let at1 = g.K.Sink.written c.write_ring.new.out in
    let at2 = g.K.Sink.written c.write_ring-2.new.out in
    let at3 = g.K.Sink.written c.write_ring-3.new.out in
    let at4 = g.K.Sink.written c.write_ring-4.new.out in
    let at5 = g.K.Sink.written c.write_fault.new.out in
    let to1 = c.in_ok-write_ring.ensures.text in
    let to2 = more name before at1 at2 (index) rows to1 c.in_ok-write_ring-2.ensures.text in
    let to3 = more name before at2 at3 (index ++ rows) var to2 c.in_ok-write_ring-3.ensures.text in
    let to4 = more name before at3 at4 (index ++ rows ++ var) log to3 c.in_ok-write_ring-4.ensures.text in
    let to5 = more name before at4 at5 (index ++ rows ++ var ++ log) entry to4 c.in_ok-write_fault.ensures.text in
    then-written name before at5 (g.K.Sink.written c.write_fault-2.new.out) c.write_fault-2.result (index ++ rows ++ var ++ log ++ entry) blob to5 c.write_fault-2.ensures.text

use Rattle.std.proofs.Common.{◌++◌}
use Rattle.fl_script.proofs.SinkPieces.{written-err}
use Rattle.fl_check.specs.Faults.{fault_of}
use Rattle.fl_rules.specs.declared.rule.Rule.TheVariants.{Head, State, Number, Body, Keys, Rest}
use Rattle.fl_image_check.proofs.FindingLines.{more, more-front, front-of, then-written}
use Rattle.fl_image_check.proofs.report.write_ring.Goals as goal

pub returns-in_err-write_fault-clause-text : goal.returns-in_err-write_fault-clause-text
returns-in_err-write_fault-clause-text g c =
    let name = c.args.name.now in
    written-err _ _ _ _ c.from_residual.ensures.0
    (front-of name (g.K.Sink.written c.args.out.now) (g.K.Sink.written c.write_fault.new.out) (fault_of c.args.ring Head c.args.faults.now.head ++ fault_of c.args.ring State c.args.faults.now.state ++ fault_of c.args.ring Number c.args.faults.now.number ++ fault_of c.args.ring Body c.args.faults.now.body ++ fault_of c.args.ring Keys c.args.faults.now.keys) (fault_of c.args.ring Rest c.args.faults.now.rest) (front-of name (g.K.Sink.written c.args.out.now) (g.K.Sink.written c.write_fault.new.out) (fault_of c.args.ring Head c.args.faults.now.head ++ fault_of c.args.ring State c.args.faults.now.state ++ fault_of c.args.ring Number c.args.faults.now.number ++ fault_of c.args.ring Body c.args.faults.now.body) (fault_of c.args.ring Keys c.args.faults.now.keys) (front-of name (g.K.Sink.written c.args.out.now) (g.K.Sink.written c.write_fault.new.out) (fault_of c.args.ring Head c.args.faults.now.head ++ fault_of c.args.ring State c.args.faults.now.state ++ fault_of c.args.ring Number c.args.faults.now.number) (fault_of c.args.ring Body c.args.faults.now.body) (front-of name (g.K.Sink.written c.args.out.now) (g.K.Sink.written c.write_fault.new.out) (fault_of c.args.ring Head c.args.faults.now.head ++ fault_of c.args.ring State c.args.faults.now.state) (fault_of c.args.ring Number c.args.faults.now.number) (front-of name (g.K.Sink.written c.args.out.now) (g.K.Sink.written c.write_fault.new.out) (fault_of c.args.ring Head c.args.faults.now.head) (fault_of c.args.ring State c.args.faults.now.state) c.in_err-write_fault.ensures.text)))))

pub returns-in_err-write_fault-2-clause-text : goal.returns-in_err-write_fault-2-clause-text
returns-in_err-write_fault-2-clause-text g c =
    let name = c.args.name.now in
    written-err _ _ _ _ c.from_residual-in_err-write_fault-2.ensures.0
    (front-of name (g.K.Sink.written c.args.out.now) (g.K.Sink.written c.write_fault-2.new.out) (fault_of c.args.ring Head c.args.faults.now.head ++ fault_of c.args.ring State c.args.faults.now.state ++ fault_of c.args.ring Number c.args.faults.now.number ++ fault_of c.args.ring Body c.args.faults.now.body ++ fault_of c.args.ring Keys c.args.faults.now.keys) (fault_of c.args.ring Rest c.args.faults.now.rest) (front-of name (g.K.Sink.written c.args.out.now) (g.K.Sink.written c.write_fault-2.new.out) (fault_of c.args.ring Head c.args.faults.now.head ++ fault_of c.args.ring State c.args.faults.now.state ++ fault_of c.args.ring Number c.args.faults.now.number ++ fault_of c.args.ring Body c.args.faults.now.body) (fault_of c.args.ring Keys c.args.faults.now.keys) (front-of name (g.K.Sink.written c.args.out.now) (g.K.Sink.written c.write_fault-2.new.out) (fault_of c.args.ring Head c.args.faults.now.head ++ fault_of c.args.ring State c.args.faults.now.state ++ fault_of c.args.ring Number c.args.faults.now.number) (fault_of c.args.ring Body c.args.faults.now.body) (front-of name (g.K.Sink.written c.args.out.now) (g.K.Sink.written c.write_fault-2.new.out) (fault_of c.args.ring Head c.args.faults.now.head ++ fault_of c.args.ring State c.args.faults.now.state) (fault_of c.args.ring Number c.args.faults.now.number) (more-front name (g.K.Sink.written c.args.out.now) (g.K.Sink.written c.write_fault.new.out) (g.K.Sink.written c.write_fault-2.new.out) (fault_of c.args.ring Head c.args.faults.now.head) (fault_of c.args.ring State c.args.faults.now.state) c.in_ok-write_fault.ensures.text c.in_err-write_fault-2.ensures.text)))))

pub returns-in_err-write_fault-3-clause-text : goal.returns-in_err-write_fault-3-clause-text
returns-in_err-write_fault-3-clause-text g c =
    let name = c.args.name.now in
    written-err _ _ _ _ c.from_residual-in_err-write_fault-3.ensures.0
    (front-of name (g.K.Sink.written c.args.out.now) (g.K.Sink.written c.write_fault-3.new.out) (fault_of c.args.ring Head c.args.faults.now.head ++ fault_of c.args.ring State c.args.faults.now.state ++ fault_of c.args.ring Number c.args.faults.now.number ++ fault_of c.args.ring Body c.args.faults.now.body ++ fault_of c.args.ring Keys c.args.faults.now.keys) (fault_of c.args.ring Rest c.args.faults.now.rest) (front-of name (g.K.Sink.written c.args.out.now) (g.K.Sink.written c.write_fault-3.new.out) (fault_of c.args.ring Head c.args.faults.now.head ++ fault_of c.args.ring State c.args.faults.now.state ++ fault_of c.args.ring Number c.args.faults.now.number ++ fault_of c.args.ring Body c.args.faults.now.body) (fault_of c.args.ring Keys c.args.faults.now.keys) (front-of name (g.K.Sink.written c.args.out.now) (g.K.Sink.written c.write_fault-3.new.out) (fault_of c.args.ring Head c.args.faults.now.head ++ fault_of c.args.ring State c.args.faults.now.state ++ fault_of c.args.ring Number c.args.faults.now.number) (fault_of c.args.ring Body c.args.faults.now.body) (more-front name (g.K.Sink.written c.args.out.now) (g.K.Sink.written c.write_fault-2.new.out) (g.K.Sink.written c.write_fault-3.new.out) (fault_of c.args.ring Head c.args.faults.now.head ++ fault_of c.args.ring State c.args.faults.now.state) (fault_of c.args.ring Number c.args.faults.now.number) (more name (g.K.Sink.written c.args.out.now) (g.K.Sink.written c.write_fault.new.out) (g.K.Sink.written c.write_fault-2.new.out) (fault_of c.args.ring Head c.args.faults.now.head) (fault_of c.args.ring State c.args.faults.now.state) c.in_ok-write_fault.ensures.text c.in_ok-write_fault-2.ensures.text) c.in_err-write_fault-3.ensures.text))))

pub returns-in_err-write_fault-4-clause-text : goal.returns-in_err-write_fault-4-clause-text
returns-in_err-write_fault-4-clause-text g c =
    let name = c.args.name.now in
    written-err _ _ _ _ c.from_residual-in_err-write_fault-4.ensures.0
    (front-of name (g.K.Sink.written c.args.out.now) (g.K.Sink.written c.write_fault-4.new.out) (fault_of c.args.ring Head c.args.faults.now.head ++ fault_of c.args.ring State c.args.faults.now.state ++ fault_of c.args.ring Number c.args.faults.now.number ++ fault_of c.args.ring Body c.args.faults.now.body ++ fault_of c.args.ring Keys c.args.faults.now.keys) (fault_of c.args.ring Rest c.args.faults.now.rest) (front-of name (g.K.Sink.written c.args.out.now) (g.K.Sink.written c.write_fault-4.new.out) (fault_of c.args.ring Head c.args.faults.now.head ++ fault_of c.args.ring State c.args.faults.now.state ++ fault_of c.args.ring Number c.args.faults.now.number ++ fault_of c.args.ring Body c.args.faults.now.body) (fault_of c.args.ring Keys c.args.faults.now.keys) (more-front name (g.K.Sink.written c.args.out.now) (g.K.Sink.written c.write_fault-3.new.out) (g.K.Sink.written c.write_fault-4.new.out) (fault_of c.args.ring Head c.args.faults.now.head ++ fault_of c.args.ring State c.args.faults.now.state ++ fault_of c.args.ring Number c.args.faults.now.number) (fault_of c.args.ring Body c.args.faults.now.body) (more name (g.K.Sink.written c.args.out.now) (g.K.Sink.written c.write_fault-2.new.out) (g.K.Sink.written c.write_fault-3.new.out) (fault_of c.args.ring Head c.args.faults.now.head ++ fault_of c.args.ring State c.args.faults.now.state) (fault_of c.args.ring Number c.args.faults.now.number) (more name (g.K.Sink.written c.args.out.now) (g.K.Sink.written c.write_fault.new.out) (g.K.Sink.written c.write_fault-2.new.out) (fault_of c.args.ring Head c.args.faults.now.head) (fault_of c.args.ring State c.args.faults.now.state) c.in_ok-write_fault.ensures.text c.in_ok-write_fault-2.ensures.text) c.in_ok-write_fault-3.ensures.text) c.in_err-write_fault-4.ensures.text)))

pub returns-in_err-write_fault-5-clause-text : goal.returns-in_err-write_fault-5-clause-text
returns-in_err-write_fault-5-clause-text g c =
    let name = c.args.name.now in
    written-err _ _ _ _ c.from_residual-in_err-write_fault-5.ensures.0
    (front-of name (g.K.Sink.written c.args.out.now) (g.K.Sink.written c.write_fault-5.new.out) (fault_of c.args.ring Head c.args.faults.now.head ++ fault_of c.args.ring State c.args.faults.now.state ++ fault_of c.args.ring Number c.args.faults.now.number ++ fault_of c.args.ring Body c.args.faults.now.body ++ fault_of c.args.ring Keys c.args.faults.now.keys) (fault_of c.args.ring Rest c.args.faults.now.rest) (more-front name (g.K.Sink.written c.args.out.now) (g.K.Sink.written c.write_fault-4.new.out) (g.K.Sink.written c.write_fault-5.new.out) (fault_of c.args.ring Head c.args.faults.now.head ++ fault_of c.args.ring State c.args.faults.now.state ++ fault_of c.args.ring Number c.args.faults.now.number ++ fault_of c.args.ring Body c.args.faults.now.body) (fault_of c.args.ring Keys c.args.faults.now.keys) (more name (g.K.Sink.written c.args.out.now) (g.K.Sink.written c.write_fault-3.new.out) (g.K.Sink.written c.write_fault-4.new.out) (fault_of c.args.ring Head c.args.faults.now.head ++ fault_of c.args.ring State c.args.faults.now.state ++ fault_of c.args.ring Number c.args.faults.now.number) (fault_of c.args.ring Body c.args.faults.now.body) (more name (g.K.Sink.written c.args.out.now) (g.K.Sink.written c.write_fault-2.new.out) (g.K.Sink.written c.write_fault-3.new.out) (fault_of c.args.ring Head c.args.faults.now.head ++ fault_of c.args.ring State c.args.faults.now.state) (fault_of c.args.ring Number c.args.faults.now.number) (more name (g.K.Sink.written c.args.out.now) (g.K.Sink.written c.write_fault.new.out) (g.K.Sink.written c.write_fault-2.new.out) (fault_of c.args.ring Head c.args.faults.now.head) (fault_of c.args.ring State c.args.faults.now.state) c.in_ok-write_fault.ensures.text c.in_ok-write_fault-2.ensures.text) c.in_ok-write_fault-3.ensures.text) c.in_ok-write_fault-4.ensures.text) c.in_err-write_fault-5.ensures.text))

pub returns-clause-text : goal.returns-clause-text
returns-clause-text g c =
    let name = c.args.name.now in
    then-written name (g.K.Sink.written c.args.out.now) (g.K.Sink.written c.write_fault-5.new.out) (g.K.Sink.written c.write_fault-6.new.out) c.write_fault-6.result (fault_of c.args.ring Head c.args.faults.now.head ++ fault_of c.args.ring State c.args.faults.now.state ++ fault_of c.args.ring Number c.args.faults.now.number ++ fault_of c.args.ring Body c.args.faults.now.body ++ fault_of c.args.ring Keys c.args.faults.now.keys) (fault_of c.args.ring Rest c.args.faults.now.rest) (more name (g.K.Sink.written c.args.out.now) (g.K.Sink.written c.write_fault-4.new.out) (g.K.Sink.written c.write_fault-5.new.out) (fault_of c.args.ring Head c.args.faults.now.head ++ fault_of c.args.ring State c.args.faults.now.state ++ fault_of c.args.ring Number c.args.faults.now.number ++ fault_of c.args.ring Body c.args.faults.now.body) (fault_of c.args.ring Keys c.args.faults.now.keys) (more name (g.K.Sink.written c.args.out.now) (g.K.Sink.written c.write_fault-3.new.out) (g.K.Sink.written c.write_fault-4.new.out) (fault_of c.args.ring Head c.args.faults.now.head ++ fault_of c.args.ring State c.args.faults.now.state ++ fault_of c.args.ring Number c.args.faults.now.number) (fault_of c.args.ring Body c.args.faults.now.body) (more name (g.K.Sink.written c.args.out.now) (g.K.Sink.written c.write_fault-2.new.out) (g.K.Sink.written c.write_fault-3.new.out) (fault_of c.args.ring Head c.args.faults.now.head ++ fault_of c.args.ring State c.args.faults.now.state) (fault_of c.args.ring Number c.args.faults.now.number) (more name (g.K.Sink.written c.args.out.now) (g.K.Sink.written c.write_fault.new.out) (g.K.Sink.written c.write_fault-2.new.out) (fault_of c.args.ring Head c.args.faults.now.head) (fault_of c.args.ring State c.args.faults.now.state) c.in_ok-write_fault.ensures.text c.in_ok-write_fault-2.ensures.text) c.in_ok-write_fault-3.ensures.text) c.in_ok-write_fault-4.ensures.text) c.in_ok-write_fault-5.ensures.text) c.write_fault-6.ensures.text

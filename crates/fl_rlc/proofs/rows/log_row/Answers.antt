use Rattle.std.proofs.Common.{cond, is_some, Option, Some, sym, subst, arith, Bool, refl, ◌∙◌, ap}
use Rattle.fl_ring.specs.Written.{MaySealIn, Writes, done}
use Rattle.fl_ring.specs.declared.ring.Ring.{Ring}
use Rattle.fl_ring.proofs.Written.{writes-none, writes-wider}
use Rattle.fl_flash.specs.Flash.{page_at}
use Rattle.fl_model.specs.Row.{Row}
use Rattle.fl_var.specs.Ahead.{AheadBlank}
use Rattle.fl_rlc.specs.Memory.{MaySeal, LogAhead}
use Rattle.fl_rlc.specs.Paged.{RowLogged}
use Rattle.fl_rlc.specs.Rows.{RowEnds, HaveLogged}
use Rattle.fl_rlc.specs.Table.{MaySealLog, AreSameLog}
use Rattle.fl_rlc.specs.declared.log.RecordLog.{RecordLog}
use Rattle.fl_rlc.proofs.JoinedRow.{joined-ready, joined-logged, seal-moved}
use Rattle.fl_rlc.proofs.Paged.{row-logged}
use Rattle.std.proofs.lemmas.Bool.{true≢false}
use Rattle.fl_frame.proofs.CallsInTurn.{goes-same}
use Rattle.fl_rlc.proofs.MountFound.{log-here}
use Rattle.fl_rlc.proofs.PutFrames.{log-self}
use Rattle.fl_rlc.proofs.rows.log_row.Goals as goal
use Rattle.fl_schema.specs.Schema.{layout_of}
use Rattle.std.specs.Prelude.{None, OnOk, IfSome, IsTrue}

pub returns-in-Some-clause-ends : goal.returns-in-Some-clause-ends
returns-in-Some-clause-ends g c = λ first plan table rose device.
    let f = g.F.Flash.state c.args.flash.now in
    let new = g.F.Flash.state c.seal.new.flash in
    let l = c.in-Some.log in
    let layout = layout_of c.args.schema.now in
    subst (λ (o : Option RecordLog). RowEnds o f first plan table (layout_of c.args.schema.now) (record { key = c.args.key; values = c.args.values.now; blob = None }) rose device c.seal.result (Some c.seal.new.self) new) (sym c.in-Some.is)
    (λ watched joins. seal-moved l c.add.new.self f first plan table rose device c.seal.result c.seal.new.self new c.add.ensures.same
    (c.seal.ensures.ends first plan table rose device watched
    (joined-ready l c.add.new.self f first plan table layout (record { key = c.args.key; values = c.args.values.now; blob = None }) c.add.ensures.same c.add.ensures.ring joins (c.add.ensures.joins joins.rows joins.gathers))))

pub returns-in-Some-clause-logs : goal.returns-in-Some-clause-logs
returns-in-Some-clause-logs g c =
    subst (λ (o : Option RecordLog). OnOk c.seal.result (HaveLogged (layout_of c.args.schema.now) (record { key = c.args.key; values = c.args.values.now; blob = None }) o (Some c.seal.new.self))) (sym c.in-Some.is)
    (joined-logged (layout_of c.args.schema.now) (record { key = c.args.key; values = c.args.values.now; blob = None }) c.in-Some.log c.add.new.self c.seal.new.self c.seal.result c.add.ensures.ring c.add.ensures.joins
    c.seal.ensures.next c.seal.ensures.oldest c.seal.ensures.rows)

pub returns-in-None-clause-writes : goal.returns-in-None-clause-writes
returns-in-None-clause-writes g c = writes-none (MaySealLog c.args.log.now) (cond (is_some c.args.log.now) 1 0) (g.F.Flash.state c.args.flash.now)

pub returns-in-Some-clause-writes : goal.returns-in-Some-clause-writes
returns-in-Some-clause-writes g c =
    let f = g.F.Flash.state c.args.flash.now in
    let new = g.F.Flash.state c.seal.new.flash in
    subst (λ (o : Option RecordLog). Writes (MaySealLog o) 0 (cond (is_some o) 1 0) (g.F.Flash.state c.args.flash.now) (g.F.Flash.state c.seal.new.flash)) (sym c.in-Some.is)
    (writes-wider (MaySeal c.add.new.self) (MaySealLog (Some c.in-Some.log)) (done c.seal.result) 0 1 1 f new (λ page may. subst (λ (r : Option Ring). MaySealIn r page) c.add.ensures.ring may) (omega arith) (omega arith) c.seal.ensures.writes)

pub returns-in-None-clause-ahead : goal.returns-in-None-clause-ahead
returns-in-None-clause-ahead g c = rw c.in-None.is (λ told. tt)

pub returns-in-Some-clause-ahead : goal.returns-in-Some-clause-ahead
returns-in-Some-clause-ahead g c =
    subst (λ (o : Option RecordLog). OnOk c.seal.result (IsTrue (g.F.Flash.state c.args.flash.now).media.tells → IfSome o (λ l. LogAhead l (page_at (g.F.Flash.state c.seal.new.flash))))) (sym c.in-Some.is)
    (subst (λ (r : Option Ring). OnOk c.seal.result (IsTrue (g.F.Flash.state c.args.flash.now).media.tells → AheadBlank r (λ page. ⊥) (page_at (g.F.Flash.state c.seal.new.flash)))) c.add.ensures.ring c.seal.ensures.ahead)

pub returns-in-None-clause-page : goal.returns-in-None-clause-page
returns-in-None-clause-page g c = rw c.in-None.is (λ told. tt)

pub returns-in-Some-clause-page : goal.returns-in-Some-clause-page
returns-in-Some-clause-page g c =
    let f = g.F.Flash.state c.args.flash.now in
    let new = g.F.Flash.state c.seal.new.flash in
    let row : Row = record { key = c.args.key; values = c.args.values.now; blob = None } in
    subst (λ (o : Option RecordLog). OnOk c.seal.result (IsTrue (g.F.Flash.state c.args.flash.now).media.tells → RowLogged (layout_of c.args.schema.now) (record { key = c.args.key; values = c.args.values.now; blob = None }) o (page_at (g.F.Flash.state c.args.flash.now)) (page_at (g.F.Flash.state c.seal.new.flash)))) (sym c.in-Some.is)
    (row-logged (layout_of c.args.schema.now) row c.in-Some.log c.add.new.self c.seal.result f new c.add.ensures.same c.add.ensures.ring c.add.ensures.joins c.seal.ensures.page)

pub add-requires-clause-fits : goal.add-requires-clause-fits
add-requires-clause-fits g c = c.requires.fits

pub add-requires-clause-room : goal.add-requires-clause-room
add-requires-clause-room g c = c.requires.room c.in-Some.log c.in-Some.is

pub seal-requires-clause-mounted : goal.seal-requires-clause-mounted
seal-requires-clause-mounted g c = ap (λ (o : Option Ring). is_some o) c.add.ensures.ring ∙ c.requires.mounted c.in-Some.log c.in-Some.is

pub seal-requires-clause-lies : goal.seal-requires-clause-lies
seal-requires-clause-lies g c = c.add.ensures.lies (g.F.Flash.state c.args.flash.now) (c.requires.lies c.in-Some.log c.in-Some.is)

pub returns-in-None-clause-goes : goal.returns-in-None-clause-goes
returns-in-None-clause-goes g c = goes-same (g.F.Flash.state c.args.flash.now)

pub returns-in-None-clause-same : goal.returns-in-None-clause-same
returns-in-None-clause-same g c = log-self c.args.log.now

pub returns-in-None-clause-lies : goal.returns-in-None-clause-lies
returns-in-None-clause-lies g c = c.requires.lies

pub returns-in-None-clause-mounted : goal.returns-in-None-clause-mounted
returns-in-None-clause-mounted g c = c.requires.mounted

pub returns-in-None-clause-ends : goal.returns-in-None-clause-ends
returns-in-None-clause-ends g c = rw c.in-None.is (λ first plan table rose device. (refl, refl, refl))

pub returns-in-None-clause-logs : goal.returns-in-None-clause-logs
returns-in-None-clause-logs g c = rw c.in-None.is refl

pub returns-in-None-clause-outside : goal.returns-in-None-clause-outside
returns-in-None-clause-outside g c = rw c.in-None.is (λ told page. refl)

pub returns-in-None-clause-reads : goal.returns-in-None-clause-reads
returns-in-None-clause-reads g c = refl

pub returns-in-None-clause-alone : goal.returns-in-None-clause-alone
returns-in-None-clause-alone g c = λ none. (refl, refl)

pub returns-in-None-clause-off : goal.returns-in-None-clause-off
returns-in-None-clause-off g c = λ some. absurd (true≢false (sym some ∙ ap {B = Bool} (λ (o : Option RecordLog). is_some o) c.in-None.is))

pub returns-in-None-clause-power : goal.returns-in-None-clause-power
returns-in-None-clause-power g c = λ on. on

pub returns-in-Some-clause-goes : goal.returns-in-Some-clause-goes
returns-in-Some-clause-goes g c = c.seal.ensures.goes

pub returns-in-Some-clause-same : goal.returns-in-Some-clause-same
returns-in-Some-clause-same g c = subst (λ (o : Option RecordLog). AreSameLog o (Some c.seal.new.self)) (sym c.in-Some.is) (record { geometry = c.seal.ensures.same.geometry ∙ c.add.ensures.same.geometry; place = c.seal.ensures.same.place ∙ c.add.ensures.same.place })

pub returns-in-Some-clause-lies : goal.returns-in-Some-clause-lies
returns-in-Some-clause-lies g c = log-here c.seal.new.self (g.F.Flash.state c.seal.new.flash) c.seal.ensures.lies

pub returns-in-Some-clause-reads : goal.returns-in-Some-clause-reads
returns-in-Some-clause-reads g c = c.seal.ensures.reads

pub returns-in-Some-clause-alone : goal.returns-in-Some-clause-alone
returns-in-Some-clause-alone g c = λ none. absurd (true≢false (sym (ap {B = Bool} (λ (o : Option RecordLog). is_some o) c.in-Some.is) ∙ none))

pub returns-in-Some-clause-off : goal.returns-in-Some-clause-off
returns-in-Some-clause-off g c = λ some. c.seal.ensures.off

pub returns-in-Some-clause-cause : goal.returns-in-Some-clause-cause
returns-in-Some-clause-cause g c = c.seal.ensures.cause

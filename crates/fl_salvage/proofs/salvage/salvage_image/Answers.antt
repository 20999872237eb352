use Rattle.std.proofs.Common.{◌≡◌, inl, inr, Err, List, ℕ, refl, ap, subst, le_refl}
use Rattle.fl_image.specs.declared.status.ToolStatus.{ToolStatus}
use Rattle.fl_image.specs.declared.status.ToolStatus.TheVariants.{Device, InputRead, NoMemory, NoTable, OutWrite}
use Rattle.fl_image.proofs.MediaLooks.{looks-same, looks-then}
use Rattle.fl_model.specs.Record.{Plan}
use Rattle.fl_model.proofs.Lists.{slice_get-some}
use Rattle.std.specs.List.{slice_get}
use Rattle.fl_base.proofs.Appended.{appends-none}
use Rattle.fl_base.proofs.Risen.{rose-back}
use Rattle.fl_salvage.specs.Ends.{AtEnds, form_at}
use Rattle.fl_salvage.specs.Given.{IsOfConfig}
use Rattle.fl_salvage.proofs.MediaOnlyRead.{tells-on}
use Rattle.fl_salvage.proofs.SalvageEnds.{if-some, table-ends, unconfigured-ends}
use Rattle.fl_salvage.proofs.salvage.salvage_image.Goals as goal

memory-device : NoMemory ≡ Device → ⊥
memory-device is = cc

memory-read : NoMemory ≡ InputRead → ⊥
memory-read is = cc

memory-write : NoMemory ≡ OutWrite → ⊥
memory-write is = cc

table-device : NoTable ≡ Device → ⊥
table-device is = cc

table-read : NoTable ≡ InputRead → ⊥
table-read is = cc

table-write : NoTable ≡ OutWrite → ⊥
table-write is = cc

-- there is no memory for a line
pub returns-in_default-clause-ends : goal.returns-in_default-clause-ends
returns-in_default-clause-ends g c = λ tells. rw c.of.ensures (inl (appends-none (g.K.Sink.written c.args.out.now)))

pub returns-in_default-clause-counts : goal.returns-in_default-clause-counts
returns-in_default-clause-counts g c = rw c.of.ensures (inr refl)

pub returns-in_default-clause-device : goal.returns-in_default-clause-device
returns-in_default-clause-device g c = λ is. absurd (memory-device (rw c.of.ensures at is))

pub returns-in_default-clause-read : goal.returns-in_default-clause-read
returns-in_default-clause-read g c = λ is. absurd (memory-read (rw c.of.ensures at is))

pub returns-in_default-clause-write : goal.returns-in_default-clause-write
returns-in_default-clause-write g c = λ is. absurd (memory-write (rw c.of.ensures at is))

pub returns-in_default-clause-later : goal.returns-in_default-clause-later
returns-in_default-clause-later g c = (le_refl (g.S.Source.faults c.args.input.now), le_refl (g.K.Sink.faults c.args.out.now))

pub returns-in_default-clause-looks : goal.returns-in_default-clause-looks
returns-in_default-clause-looks g c = looks-same (g.M.Media.state c.args.media.now)

-- there is no configuration
pub returns-in-Err-clause-ends : goal.returns-in-Err-clause-ends
returns-in-Err-clause-ends g c = λ tells.
    rw c.of-in-Err.ensures (unconfigured-ends (g.M.Media.state c.args.media.now).content (g.S.Source.left c.args.input.now) c.args.name (g.K.Sink.written c.args.out.now) _ c.in-Err.status c.in-Err.ensures.statuses (c.in-Err.ensures.refused tells))

pub returns-in-Err-clause-counts : goal.returns-in-Err-clause-counts
returns-in-Err-clause-counts g c = rw c.of-in-Err.ensures (inr refl)

pub returns-in-Err-clause-device : goal.returns-in-Err-clause-device
returns-in-Err-clause-device g c = λ is. c.in-Err.ensures.device (ap (λ (s : ToolStatus). Err s) (rw c.of-in-Err.ensures at is))

pub returns-in-Err-clause-read : goal.returns-in-Err-clause-read
returns-in-Err-clause-read g c = λ is. c.in-Err.ensures.fails (ap (λ (s : ToolStatus). Err s) (rw c.of-in-Err.ensures at is))

pub returns-in-Err-clause-write : goal.returns-in-Err-clause-write
returns-in-Err-clause-write g c = λ is. absurd (subst IsOfConfig (rw c.of-in-Err.ensures at is) c.in-Err.ensures.statuses)

pub returns-in-Err-clause-later : goal.returns-in-Err-clause-later
returns-in-Err-clause-later g c = (c.in-Err.ensures.later, le_refl (g.K.Sink.faults c.args.out.now))

pub returns-in-Err-clause-looks : goal.returns-in-Err-clause-looks
returns-in-Err-clause-looks g c = c.in-Err.ensures.looks

-- no table has the name
pub returns-in_default-find-clause-ends : goal.returns-in_default-find-clause-ends
returns-in_default-find-clause-ends g c = λ tells. rw c.of-in_default-find.ensures (
  record { lines = c.in-Ok-config_of.config; configured = c.in-Ok-config_of.ensures.configured tells; none = c.in_default-find.ensures.none },
  appends-none (g.K.Sink.written c.args.out.now),
)

pub returns-in_default-find-clause-counts : goal.returns-in_default-find-clause-counts
returns-in_default-find-clause-counts g c = rw c.of-in_default-find.ensures (inr refl)

pub returns-in_default-find-clause-device : goal.returns-in_default-find-clause-device
returns-in_default-find-clause-device g c = λ is. absurd (table-device (rw c.of-in_default-find.ensures at is))

pub returns-in_default-find-clause-read : goal.returns-in_default-find-clause-read
returns-in_default-find-clause-read g c = λ is. absurd (table-read (rw c.of-in_default-find.ensures at is))

pub returns-in_default-find-clause-write : goal.returns-in_default-find-clause-write
returns-in_default-find-clause-write g c = λ is. absurd (table-write (rw c.of-in_default-find.ensures at is))

pub returns-in_default-find-clause-later : goal.returns-in_default-find-clause-later
returns-in_default-find-clause-later g c = (c.in-Ok-config_of.ensures.later, le_refl (g.K.Sink.faults c.args.out.now))

pub returns-in_default-find-clause-looks : goal.returns-in_default-find-clause-looks
returns-in_default-find-clause-looks g c = c.in-Ok-config_of.ensures.looks

-- the table was salvaged
pub returns-clause-ends : goal.returns-clause-ends
returns-clause-ends g c = λ tells.
    let lines = c.in-Ok-config_of.config in
    let looks = c.in-Ok-config_of.ensures.looks in
    let told = g.K.Sink.written c.args.out.now in
    let now = g.K.Sink.written c.salvage_at.new.out in
    let plan = slice_get-some lines.plans c.in-Some.at c.in-Some.ensures.some.0 in
    let ends = subst (λ (bytes : List ℕ). AtEnds (form_at lines.plans c.in-Some.at plan.0) bytes told now c.salvage_at.result.passed_over c.salvage_at.result.status) looks.content
    (c.salvage_at.ensures.ends (tells-on _ _ looks tells) plan.0 plan.1) in
    table-ends (g.M.Media.state c.args.media.now).content (g.S.Source.left c.args.input.now) c.args.name told now c.salvage_at.result.passed_over lines c.in-Some.at plan.0 c.salvage_at.result.status
    (c.in-Ok-config_of.ensures.configured tells) plan.1 (if-some (λ (p : Plan). p.name ≡ c.args.name) (slice_get lines.plans c.in-Some.at) plan.0 plan.1 c.in-Some.ensures.some.1) ends

pub returns-clause-counts : goal.returns-clause-counts
returns-clause-counts g c = c.salvage_at.ensures.counts

pub returns-clause-device : goal.returns-clause-device
returns-clause-device g c = λ is. rose-back _ _ _ c.in-Ok-config_of.ensures.looks.later (c.salvage_at.ensures.device is)

pub returns-clause-read : goal.returns-clause-read
returns-clause-read g c = λ is. absurd (c.salvage_at.ensures.unread is)

pub returns-clause-write : goal.returns-clause-write
returns-clause-write g c = c.salvage_at.ensures.write

pub returns-clause-later : goal.returns-clause-later
returns-clause-later g c = (c.in-Ok-config_of.ensures.later, c.salvage_at.ensures.later)

pub returns-clause-looks : goal.returns-clause-looks
returns-clause-looks g c = looks-then _ _ _ c.in-Ok-config_of.ensures.looks c.salvage_at.ensures.looks

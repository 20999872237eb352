use Rattle.std.proofs.Common.{FitsSigned, rules, refl, sym, le_of_eq}
use Rattle.std.proofs.lemmas.Int.{to_z-of_z}
use Rattle.std.specs.Int.{w64}
use Rattle.fl_base.specs.declared.stream.SinkFailed.{SinkFailed}
use Rattle.fl_frame.proofs.CallsInTurn.{goes-same, stays}
use Rattle.fl_session.proofs.StepsOf.{default-view, executes-nothing}
use Rattle.fl_session.proofs.CommandReplies.{executes-answered}
use Rattle.fl_session.proofs.Operations.{select-by}
use Rattle.fl_session.proofs.MountReads.{executes-mounted}
use Rattle.fl_session.proofs.ReplyCauses.{caused-nothing, says-written}
use Rattle.fl_session.proofs.session.SessionExecutor.execute.Goals as goal
use Rattle.fl_session.proofs.session.SessionExecutor.execute.Goals.{in-Mount, in-Off, in-Cut, in-Put, in-Flush, in-Stat, in-Open, in-Close, in-Cost}

pub returns-in_default : goal.returns-in_default
returns-in_default g c = record {
  cause = caused-nothing SinkFailed _ _ _ _ (default-view c.args.command.now c.args.room.now c.requires.runnable c.in_default.not-Mount c.in_default.not-Off (λ n kind e. c.in_default.not-Cut n kind e)
      (λ name key values blob e. c.in_default.not-Put name key values blob e) (λ name e. c.in_default.not-Flush name e) (λ name e. c.in_default.not-Stat name e) (λ name key e. c.in_default.not-Get name key e) (λ name range span e. c.in_default.not-Scan name range span e)
      (λ name count step seed e. c.in_default.not-Load name count step seed e) (λ cursor name range span e. c.in_default.not-Open cursor name range span e) (λ cursor e. c.in_default.not-Close cursor e) (λ cursor count e. c.in_default.not-Next cursor count e) c.in_default.not-Cost (λ name range column op value e. c.in_default.not-Select name range column op value e) (λ name range columns e. c.in_default.not-Project name range columns e) (λ name range column width e. c.in_default.not-Agg name range column width e) (λ left right range e. c.in_default.not-Join left right range e) (λ name key e. c.in_default.not-Blob name key e)) refl;
  sound = c.requires.sound;
  goes = stays _ _ (goes-same _);
  sink = record { later = le_of_eq refl; failed = tt };
  step = λ config old h.
      executes-nothing SinkFailed config old _ _ _ _ _ _ (default-view c.args.command.now c.args.room.now c.requires.runnable c.in_default.not-Mount c.in_default.not-Off (λ n kind e. c.in_default.not-Cut n kind e)
      (λ name key values blob e. c.in_default.not-Put name key values blob e) (λ name e. c.in_default.not-Flush name e) (λ name e. c.in_default.not-Stat name e) (λ name key e. c.in_default.not-Get name key e) (λ name range span e. c.in_default.not-Scan name range span e)
      (λ name count step seed e. c.in_default.not-Load name count step seed e) (λ cursor name range span e. c.in_default.not-Open cursor name range span e) (λ cursor e. c.in_default.not-Close cursor e) (λ cursor count e. c.in_default.not-Next cursor count e) c.in_default.not-Cost (λ name range column op value e. c.in_default.not-Select name range column op value e) (λ name range columns e. c.in_default.not-Project name range columns e) (λ name range column width e. c.in_default.not-Agg name range column width e) (λ left right range e. c.in_default.not-Join left right range e) (λ name key e. c.in_default.not-Blob name key e)) h;
}

pub returns-clause-step : goal.returns-clause-step
returns-clause-step g c = λ config old h. elim c.match-command.branch [
  | in-Mount w ↦ rw (w.self-is, w.in-Mount.is) (executes-mounted config old _ _ _ _ _ h SinkFailed _ _ _ _ c.write_reply.result (w.mount-reply.ensures.step config old h) (w.mount-reply.ensures.reads h.medium.told) (w.mount-reply.ensures.limit config old h) (rw w.reply-is at c.write_reply.ensures.text))
  | in-Off w ↦ rw (w.self-is, w.in-Off.is) (executes-answered SinkFailed config old _ _ _ _ _ _ _ c.write_reply.result (w.off-reply.ensures.step config old h) (λ moment none. (none, le_of_eq w.off-reply.ensures.reads)) (λ moment none. tt) (rw w.reply-is at c.write_reply.ensures.text))
  | in-Cut w ↦ rw (w.self-is, w.in-Cut.is) (executes-answered SinkFailed config old _ _ _ _ _ _ _ c.write_reply.result (w.cut-reply.ensures.step config old h) (λ moment none. (none, le_of_eq w.cut-reply.ensures.reads)) (λ moment none. tt) (rw w.reply-is at c.write_reply.ensures.text))
  | in-Put w ↦ rw (w.self-is, w.in-Put.is, sym w.as_slice.ensures.value, sym w.blob_in.ensures) (executes-answered SinkFailed config old _ _ _ _ _ _ _ c.write_reply.result (w.put-reply.ensures.step config old h) (λ moment none. (none, le_of_eq w.put-reply.ensures.reads)) (λ moment none. tt) (rw w.reply-is at c.write_reply.ensures.text))
  | in-Flush w ↦ rw (w.self-is, w.in-Flush.is) (executes-answered SinkFailed config old _ _ _ _ _ _ _ c.write_reply.result (w.flush-reply.ensures.step config old h) (λ moment none. (none, le_of_eq w.flush-reply.ensures.reads)) (λ moment none. tt) (rw w.reply-is at c.write_reply.ensures.text))
  | in-Stat w ↦ rw (w.self-is, w.in-Stat.is) (executes-answered SinkFailed config old _ _ _ _ _ _ _ c.write_reply.result (w.stat-reply.ensures.step config old h) (λ moment none. (none, le_of_eq refl)) (λ moment none. tt) (rw w.reply-is at c.write_reply.ensures.text))
  | in-Open w ↦ rw (w.self-is, w.in-Open.is) (executes-answered SinkFailed config old _ _ _ _ _ _ _ c.write_reply.result (w.open-reply.ensures.step config old h) (λ moment none. (none, le_of_eq w.open-reply.ensures.reads)) (λ moment none. tt) (rw w.reply-is at c.write_reply.ensures.text))
  | in-Close w ↦ rw (w.self-is, w.in-Close.is) (executes-answered SinkFailed config old _ _ _ _ _ _ _ c.write_reply.result (w.close-reply.ensures.step config old h) (λ moment none. (none, le_of_eq w.close-reply.ensures.reads)) (λ moment none. tt) (rw w.reply-is at c.write_reply.ensures.text))
  | in-Cost w ↦ rw (w.self-is, w.in-Cost.is) (executes-answered SinkFailed config old _ _ _ _ _ _ _ c.write_reply.result (w.cost-reply.ensures.step config old h) (λ moment none. (none, le_of_eq refl)) (λ moment none. tt) (rw w.reply-is at c.write_reply.ensures.text))
]

pub returns-clause-sound : goal.returns-clause-sound
returns-clause-sound g c = elim c.match-command.branch [
  | in-Mount w ↦ rw w.self-is (w.mount-reply.ensures.sound)
  | in-Off w ↦ rw w.self-is (w.off-reply.ensures.sound)
  | in-Cut w ↦ rw w.self-is (w.cut-reply.ensures.sound)
  | in-Put w ↦ rw w.self-is (w.put-reply.ensures.sound)
  | in-Flush w ↦ rw w.self-is (w.flush-reply.ensures.sound)
  | in-Stat w ↦ rw w.self-is (c.requires.sound)
  | in-Open w ↦ rw w.self-is (w.open-reply.ensures.sound)
  | in-Close w ↦ rw w.self-is (w.close-reply.ensures.sound)
  | in-Cost w ↦ rw w.self-is (c.requires.sound)
]

pub returns-clause-goes : goal.returns-clause-goes
returns-clause-goes g c = elim c.match-command.branch [
  | in-Mount w ↦ rw w.self-is (stays _ _ w.mount-reply.ensures.goes)
  | in-Off w ↦ rw w.self-is (w.off-reply.ensures.goes)
  | in-Cut w ↦ rw w.self-is (w.cut-reply.ensures.goes)
  | in-Put w ↦ rw w.self-is (stays _ _ w.put-reply.ensures.goes)
  | in-Flush w ↦ rw w.self-is (stays _ _ w.flush-reply.ensures.goes)
  | in-Stat w ↦ rw w.self-is (stays _ _ (goes-same _))
  | in-Open w ↦ rw w.self-is (stays _ _ w.open-reply.ensures.goes)
  | in-Close w ↦ rw w.self-is (stays _ _ w.close-reply.ensures.goes)
  | in-Cost w ↦ rw w.self-is (stays _ _ (goes-same _))
]

pub returns-in-Select-clause-step : goal.returns-in-Select-clause-step
returns-in-Select-clause-step g c = λ config old h.
    let fits : FitsSigned w64 c.in-Select.value = search rules in
    rw c.in-Select.is (select-by (to_z-of_z w64 c.in-Select.value fits) (c.operate.ensures.step config old h))

pub returns-in-Project-clause-step : goal.returns-in-Project-clause-step
returns-in-Project-clause-step g c = λ config old h. rw (c.in-Project.is, sym c.as_slice-columns.ensures.value) (c.operate-in-Project.ensures.step config old h)

pub returns-in-Agg-clause-step : goal.returns-in-Agg-clause-step
returns-in-Agg-clause-step g c = λ config old h. rw c.in-Agg.is (c.operate-in-Agg.ensures.step config old h)

pub returns-in-Join-clause-step : goal.returns-in-Join-clause-step
returns-in-Join-clause-step g c = λ config old h. rw c.in-Join.is (c.join.ensures.step config old h)

pub returns-in-Load-clause-step : goal.returns-in-Load-clause-step
returns-in-Load-clause-step g c = λ config old h. rw c.in-Load.is (c.load.ensures.step config old h)

pub returns-in-Blob-clause-step : goal.returns-in-Blob-clause-step
returns-in-Blob-clause-step g c = λ config old h. rw c.in-Blob.is (c.blob.ensures.step config old h)

pub returns-clause-cause : goal.returns-clause-cause
returns-clause-cause g c = elim c.match-command.branch [
  | in-Mount w ↦ rw (w.self-is, w.in-Mount.is) (says-written SinkFailed _ _ c.write_reply.result _ _ w.mount-reply.ensures.cause (rw w.reply-is at c.write_reply.ensures.text))
  | in-Off w ↦ rw (w.self-is, w.in-Off.is) (says-written SinkFailed _ _ c.write_reply.result _ _ w.off-reply.ensures.cause (rw w.reply-is at c.write_reply.ensures.text))
  | in-Cut w ↦ rw (w.self-is, w.in-Cut.is) (says-written SinkFailed _ _ c.write_reply.result _ _ w.cut-reply.ensures.cause (rw w.reply-is at c.write_reply.ensures.text))
  | in-Put w ↦ rw (w.self-is, w.in-Put.is, sym w.as_slice.ensures.value, sym w.blob_in.ensures) (says-written SinkFailed _ _ c.write_reply.result _ _ w.put-reply.ensures.cause (rw w.reply-is at c.write_reply.ensures.text))
  | in-Flush w ↦ rw (w.self-is, w.in-Flush.is) (says-written SinkFailed _ _ c.write_reply.result _ _ w.flush-reply.ensures.cause (rw w.reply-is at c.write_reply.ensures.text))
  | in-Stat w ↦ rw (w.self-is, w.in-Stat.is) (says-written SinkFailed _ _ c.write_reply.result _ _ w.stat-reply.ensures.cause (rw w.reply-is at c.write_reply.ensures.text))
  | in-Open w ↦ rw (w.self-is, w.in-Open.is) (says-written SinkFailed _ _ c.write_reply.result _ _ w.open-reply.ensures.cause (rw w.reply-is at c.write_reply.ensures.text))
  | in-Close w ↦ rw (w.self-is, w.in-Close.is) (says-written SinkFailed _ _ c.write_reply.result _ _ w.close-reply.ensures.cause (rw w.reply-is at c.write_reply.ensures.text))
  | in-Cost w ↦ rw (w.self-is, w.in-Cost.is) (says-written SinkFailed _ _ c.write_reply.result _ _ w.cost-reply.ensures.cause (rw w.reply-is at c.write_reply.ensures.text))
]

pub returns-in-Select-clause-cause : goal.returns-in-Select-clause-cause
returns-in-Select-clause-cause g c = rw c.in-Select.is (c.operate.ensures.cause)

pub returns-in-Project-clause-cause : goal.returns-in-Project-clause-cause
returns-in-Project-clause-cause g c = rw (c.in-Project.is, sym c.as_slice-columns.ensures.value) (c.operate-in-Project.ensures.cause)

pub returns-in-Agg-clause-cause : goal.returns-in-Agg-clause-cause
returns-in-Agg-clause-cause g c = rw c.in-Agg.is (c.operate-in-Agg.ensures.cause)

pub returns-in-Join-clause-cause : goal.returns-in-Join-clause-cause
returns-in-Join-clause-cause g c = rw c.in-Join.is (c.join.ensures.cause)

pub returns-in-Load-clause-cause : goal.returns-in-Load-clause-cause
returns-in-Load-clause-cause g c = rw c.in-Load.is (c.load.ensures.cause)

pub returns-in-Blob-clause-cause : goal.returns-in-Blob-clause-cause
returns-in-Blob-clause-cause g c = rw c.in-Blob.is (c.blob.ensures.cause)

pub returns-in-Get-clause-cause : goal.returns-in-Get-clause-cause
returns-in-Get-clause-cause g c = rw c.in-Get.is (c.get.ensures.cause)

pub returns-in-Scan-clause-cause : goal.returns-in-Scan-clause-cause
returns-in-Scan-clause-cause g c = rw c.in-Scan.is (c.scan.ensures.cause)

pub returns-in-Next-clause-cause : goal.returns-in-Next-clause-cause
returns-in-Next-clause-cause g c = rw c.in-Next.is (c.next.ensures.cause)

pub returns-in-Select-clause-goes : goal.returns-in-Select-clause-goes
returns-in-Select-clause-goes g c = stays _ _ c.operate.ensures.goes

pub returns-in-Project-clause-goes : goal.returns-in-Project-clause-goes
returns-in-Project-clause-goes g c = stays _ _ c.operate-in-Project.ensures.goes

pub returns-in-Agg-clause-goes : goal.returns-in-Agg-clause-goes
returns-in-Agg-clause-goes g c = stays _ _ c.operate-in-Agg.ensures.goes

pub returns-in-Join-clause-goes : goal.returns-in-Join-clause-goes
returns-in-Join-clause-goes g c = stays _ _ c.join.ensures.goes

pub returns-in-Load-clause-goes : goal.returns-in-Load-clause-goes
returns-in-Load-clause-goes g c = stays _ _ c.load.ensures.goes

pub returns-in-Blob-clause-goes : goal.returns-in-Blob-clause-goes
returns-in-Blob-clause-goes g c = stays _ _ c.blob.ensures.goes

pub returns-in-Get-clause-goes : goal.returns-in-Get-clause-goes
returns-in-Get-clause-goes g c = stays _ _ c.get.ensures.goes

pub returns-in-Scan-clause-goes : goal.returns-in-Scan-clause-goes
returns-in-Scan-clause-goes g c = stays _ _ c.scan.ensures.goes

pub returns-in-Next-clause-goes : goal.returns-in-Next-clause-goes
returns-in-Next-clause-goes g c = stays _ _ c.next.ensures.goes

pub returns-in-Select-clause-sound : goal.returns-in-Select-clause-sound
returns-in-Select-clause-sound g c = c.operate.ensures.sound

pub returns-in-Select-clause-sink : goal.returns-in-Select-clause-sink
returns-in-Select-clause-sink g c = c.operate.ensures.sink

pub returns-in-Project-clause-sound : goal.returns-in-Project-clause-sound
returns-in-Project-clause-sound g c = c.operate-in-Project.ensures.sound

pub returns-in-Project-clause-sink : goal.returns-in-Project-clause-sink
returns-in-Project-clause-sink g c = c.operate-in-Project.ensures.sink

pub returns-in-Agg-clause-sound : goal.returns-in-Agg-clause-sound
returns-in-Agg-clause-sound g c = c.operate-in-Agg.ensures.sound

pub returns-in-Agg-clause-sink : goal.returns-in-Agg-clause-sink
returns-in-Agg-clause-sink g c = c.operate-in-Agg.ensures.sink

pub returns-in-Join-clause-sound : goal.returns-in-Join-clause-sound
returns-in-Join-clause-sound g c = c.join.ensures.sound

pub returns-in-Join-clause-sink : goal.returns-in-Join-clause-sink
returns-in-Join-clause-sink g c = c.join.ensures.sink

pub returns-in-Load-clause-sound : goal.returns-in-Load-clause-sound
returns-in-Load-clause-sound g c = c.load.ensures.sound

pub returns-in-Load-clause-sink : goal.returns-in-Load-clause-sink
returns-in-Load-clause-sink g c = c.load.ensures.sink

pub returns-in-Blob-clause-sound : goal.returns-in-Blob-clause-sound
returns-in-Blob-clause-sound g c = c.blob.ensures.sound

pub returns-in-Blob-clause-sink : goal.returns-in-Blob-clause-sink
returns-in-Blob-clause-sink g c = c.blob.ensures.sink

pub returns-in-Get-clause-sound : goal.returns-in-Get-clause-sound
returns-in-Get-clause-sound g c = c.get.ensures.sound

pub returns-in-Get-clause-sink : goal.returns-in-Get-clause-sink
returns-in-Get-clause-sink g c = c.get.ensures.sink

pub returns-in-Scan-clause-sound : goal.returns-in-Scan-clause-sound
returns-in-Scan-clause-sound g c = c.scan.ensures.sound

pub returns-in-Scan-clause-sink : goal.returns-in-Scan-clause-sink
returns-in-Scan-clause-sink g c = c.scan.ensures.sink

pub returns-in-Next-clause-sound : goal.returns-in-Next-clause-sound
returns-in-Next-clause-sound g c = c.next.ensures.sound

pub returns-in-Next-clause-sink : goal.returns-in-Next-clause-sink
returns-in-Next-clause-sink g c = c.next.ensures.sink

pub returns-in-Get-clause-step : goal.returns-in-Get-clause-step
returns-in-Get-clause-step g c = λ config old h. rw c.in-Get.is (c.get.ensures.step config old h)

pub returns-in-Scan-clause-step : goal.returns-in-Scan-clause-step
returns-in-Scan-clause-step g c = λ config old h. rw c.in-Scan.is (c.scan.ensures.step config old h)

pub returns-in-Next-clause-step : goal.returns-in-Next-clause-step
returns-in-Next-clause-step g c = λ config old h. rw c.in-Next.is (c.next.ensures.step config old h)

pub returns-clause-sink : goal.returns-clause-sink
returns-clause-sink g c = c.write_reply.ensures.cause

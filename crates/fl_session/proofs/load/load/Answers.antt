use Rattle.std.proofs.Common.{◌≡◌, ℕ, ◌+◌, true, not, ◌&&◌, IsTrue, refl, ap, sym, ◌∙◌, subst, arith, unwrap_or}
use Rattle.fl_model.specs.Record.{RowLayout}
use Rattle.fl_store.proofs.CallsInTurn.{same-plan, same-on}
use Rattle.fl_session.specs.Load.{StandsBefore, load_key, random_of}
use Rattle.fl_store.proofs.Outsides.{outside-then}
use Rattle.fl_session.proofs.ReplyCauses.{load-counts, when-ok}
use Rattle.fl_session.proofs.LoadsInTurn.{load-ends, load-fails, loads-more, loads-next, random-more}
use Rattle.fl_session.specs.LoadSays.{Loads, random_at}
use Rattle.fl_session.proofs.Sound.{put-stays}
use Rattle.fl_session.proofs.LoadPuts.{LoadedSoFar, loaded-none, loaded-more, ends-next, ends-done, load-finished, load-stopped, rose-risen}
use Rattle.fl_store.proofs.Risen.{has_risen}
use Rattle.fl_session.proofs.LoadLines.{unbroken}
use Rattle.fl_session.proofs.LoadReads.{media-all, media-more}
use Rattle.std.proofs.Math.Bool.{and-true}
use Rattle.fl_base.proofs.Risen.{rose-front, rose-back}
use Rattle.fl_frame.proofs.CallsInTurn.{goes-same, goes-then}
use Rattle.fl_table.specs.Causes.{put_breaks}
use Rattle.fl_table.specs.Look.{last_key_in, layout_in}
use Rattle.fl_table.specs.declared.table.Table.{Table}
use Rattle.fl_rlc.specs.Table.{is_running, rings_in}
use Rattle.fl_rlc.proofs.Written.{apart-reads}
use Rattle.fl_session.proofs.load.load.Goals as goal

pub loop-loaded-init : goal.loop-loaded-init
loop-loaded-init g c = record {
  lies = c.requires.lies;
  running = refl;
  goes = goes-same _;
  power = λ on. on;
  unread = refl;
  media_reads = omega arith;
  makes = subst (λ (t : Table 64 64). StandsBefore (layout_in t).columns c.args.seed 1 c.new-records.result) c.table.ensures c.new-records.ensures.stands;
  step_is = c.new-records.ensures.step;
  random_is = c.new-records.ensures.random;
  puts = (refl, refl);
  same = same-plan c.args.table.now;
  outside = λ told page ring index blobs log. refl;
  so_far = λ config entries at entry asked notes old rose h here is named risen. loaded-none config entries at entry asked notes old _ _ rose _ _ _ _ c.new-records.ensures.random h here is;
}

pub returns-then-is_err-clause-answers : goal.returns-then-is_err-clause-answers
returns-then-is_err-clause-answers g c = λ config entries at entry asked notes old h here is named.
    let f = g.F.Flash.state c.args.flash.now in
    let m = g.F.Flash.state c.loop-loaded.flash in
    let n = g.F.Flash.state c.put-outcome.new.flash in
    let i = c.loop-loaded.invariant in
    let p = c.put-outcome.ensures in
    let so_far = i.so_far config entries at entry asked notes old (has_risen f n) h here is named (λ r. rose-risen f n (rose-front f.media.faults m.media.faults n.media.faults p.flash.goes.faults r)) in
    let key = c.next-record.ensures.key ∙ ap (λ s. load_key (unwrap_or c.last_key.result 0) s (random_of c.loop-loaded.records)) i.step_is in
    let ends = ends-next config entries at entry asked notes old f.media.content _ _ m n (has_risen f n) _ _ _ _ _ here named so_far c.loop-loaded-test.true p.flash.goes p.table.same p.flash.outside c.put-outcome.result _ _ c.last_key.result
    (λ r. rose-risen f n (rose-back f.media.faults m.media.faults n.media.faults i.goes.faults r)) c.table-in-loop-loaded.result.now c.table-in-loop-loaded.ensures c.last_key.ensures.stands key (c.as_slice.ensures.value ∙ c.next-record.ensures.values _ _ _ i.makes) p.put in
    load-stopped config entries at entry asked notes old f.media.content _ _ m n (has_risen f n) _ _ _ _ _ here named so_far c.loop-loaded-test.true p.flash.goes p.table.same p.flash.outside f c.put-outcome.result refl h refl (sym c.is_err.ensures.value ∙ c.if-is_err.true) ends p.memory.refused

pub loop-loaded-preserved : goal.loop-loaded-preserved
loop-loaded-preserved g c =
    let f = g.F.Flash.state c.args.flash.now in
    let m = g.F.Flash.state c.loop-loaded.flash in
    let n = g.F.Flash.state c.put-outcome.new.flash in
    let i = c.loop-loaded.invariant in
    let p = c.put-outcome.ensures in
    let key = c.next-record.ensures.key ∙ ap (λ s. load_key (unwrap_or c.last_key.result 0) s (random_of c.loop-loaded.records)) i.step_is in
    let next_key = c.next-record.ensures.key ∙ (ap (λ s. load_key (unwrap_or c.last_key.result 0) s (random_of c.loop-loaded.records)) i.step_is ∙ (ap (λ r. load_key (unwrap_or c.last_key.result 0) c.args.step r) i.random_is ∙ ap (λ last. load_key (unwrap_or last 0) c.args.step (random_at c.args.seed c.loop-loaded.loaded)) (c.last_key.ensures.exact ∙ ap last_key_in c.table-in-loop-loaded.ensures))) in
    record {
      lies = p.table.lies;
      running = p.table.running ∙ (ap (λ b. is_running c.loop-loaded.table && not b) (unbroken c.put-outcome.result (sym c.is_err.ensures.value ∙ c.if-is_err.false)) ∙ (and-true (is_running c.loop-loaded.table) ∙ i.running));
      goes = goes-then _ _ _ i.goes p.flash.goes;
      power = λ on. when-ok (m.is_on ≡ true → n.is_on ≡ true) c.put-outcome.result (sym c.is_err.ensures.value ∙ c.if-is_err.false) p.flash.power (i.power on);
      unread = p.flash.reads ∙ i.unread;
      media_reads = media-more c.args.table.now c.loop-loaded.table f.media.reads m.media.reads n.media.reads c.loop-loaded.loaded i.same i.media_reads (apart-reads _ _ _ _ p.flash.media_reads);
      makes = subst (λ (l : RowLayout). StandsBefore l.columns c.args.seed (c.loop-loaded.loaded + 1 + 1) c.next-record.new.self) (sym p.table.same.table.layout) (c.next-record.ensures.stands _ _ _ i.makes);
      step_is = c.next-record.ensures.step ∙ i.step_is;
      random_is = random-more c.args.seed c.loop-loaded.loaded _ _ c.next-record.ensures.random i.random_is;
      puts = loads-more c.args.step c.args.seed c.loop-loaded.loaded c.args.table.now c.loop-loaded.table c.put-outcome.new.self f m n i.puts
          (loads-next c.args.step c.args.seed c.loop-loaded.loaded c.loop-loaded.table c.put-outcome.new.self m n c.next-record.result.key _ next_key (c.as_slice.ensures.value ∙ c.next-record.ensures.values _ _ _ i.makes)
          c.put-outcome.result (sym c.is_err.ensures.value ∙ c.if-is_err.false) p.exact p.memory.last p.memory.stores p.memory.logs p.pages.quiet p.flash.power p.pages.log_page p.pages.sealed p.flash.writes p.table.same);
      same = same-on _ _ _ i.same p.table.same;
      outside = λ told. outside-then c.args.table.now c.loop-loaded.table _ _ _ i.same (i.outside told) (p.flash.outside (subst IsTrue (sym i.goes.tells) told));
      so_far = λ config entries at entry asked notes old rose h here is named risen.
          let so_far = i.so_far config entries at entry asked notes old rose h here is named (λ r. risen (rose-front f.media.faults m.media.faults n.media.faults p.flash.goes.faults r)) in
          let ends = ends-next config entries at entry asked notes old f.media.content _ _ m n rose _ _ _ _ _ here named so_far c.loop-loaded-test.true p.flash.goes p.table.same p.flash.outside c.put-outcome.result _ _ c.last_key.result
          (λ r. risen (rose-back f.media.faults m.media.faults n.media.faults i.goes.faults r)) c.table-in-loop-loaded.result.now c.table-in-loop-loaded.ensures c.last_key.ensures.stands key (c.as_slice.ensures.value ∙ c.next-record.ensures.values _ _ _ i.makes) p.put in
          let done = ends-done config entries at entry asked notes old f.media.content _ _ m n rose _ _ _ _ _ here named so_far c.loop-loaded-test.true p.flash.goes p.table.same p.flash.outside c.put-outcome.result (sym c.is_err.ensures.value ∙ c.if-is_err.false) ends in
          subst (λ s. LoadedSoFar config entries at entry asked notes old f.media.content c.put-outcome.new.self n rose c.args.count c.args.step c.args.seed (c.loop-loaded.loaded + 1) s) (sym c.next-record.ensures.random)
          (loaded-more config entries at entry asked notes old f.media.content _ _ m n rose _ _ _ _ _ here named so_far c.loop-loaded-test.true p.flash.goes p.table.same p.flash.outside done);
    }

pub returns-then-is_err-clause-running : goal.returns-then-is_err-clause-running
returns-then-is_err-clause-running g c = c.put-outcome.ensures.table.running ∙ ap (λ b. b && not (put_breaks c.put-outcome.result)) c.loop-loaded.invariant.running

pub returns-clause-running : goal.returns-clause-running
returns-clause-running g c = c.loop-loaded.invariant.running ∙ sym (and-true (is_running c.args.table.now))

pub returns-clause-answers : goal.returns-clause-answers
returns-clause-answers g c = λ config entries at entry asked notes old h here is named.
    let f = g.F.Flash.state c.args.flash.now in
    let m = g.F.Flash.state c.loop-loaded.flash in
    let all : c.loop-loaded.loaded ≡ c.args.count = omega arith in
    load-finished config entries at entry asked notes old _ f m _ _ _ _ _ h here named all (c.loop-loaded.invariant.so_far config entries at entry asked notes old (has_risen f m) h here is named (λ r. rose-risen f m r))

pub returns-then-is_err-clause-counted : goal.returns-then-is_err-clause-counted
returns-then-is_err-clause-counted g c = load-counts _ _ c.put-outcome.result (sym c.is_err.ensures.value ∙ c.if-is_err.true) c.loop-loaded-test.true

pub returns-clause-counted : goal.returns-clause-counted
returns-clause-counted g c = refl

pub returns-then-is_err-clause-puts : goal.returns-then-is_err-clause-puts
returns-then-is_err-clause-puts g c =
    let i = c.loop-loaded.invariant in
    let p = c.put-outcome.ensures in
    let key = c.next-record.ensures.key ∙ (ap (λ s. load_key (unwrap_or c.last_key.result 0) s (random_of c.loop-loaded.records)) i.step_is ∙ (ap (λ r. load_key (unwrap_or c.last_key.result 0) c.args.step r) i.random_is ∙ ap (λ last. load_key (unwrap_or last 0) c.args.step (random_at c.args.seed c.loop-loaded.loaded)) (c.last_key.ensures.exact ∙ ap last_key_in c.table-in-loop-loaded.ensures))) in
    record {
      left = c.loop-loaded.table;
      left_f = g.F.Flash.state c.loop-loaded.flash;
      puts = i.puts;
      ends = load-ends c.args.step c.args.seed c.loop-loaded.loaded c.loop-loaded.table c.put-outcome.new.self _ _ c.next-record.result.key _ key (c.as_slice.ensures.value ∙ c.next-record.ensures.values _ _ _ i.makes)
          c.put-outcome.result (sym c.is_err.ensures.value ∙ c.if-is_err.true) p.exact p.memory.refused p.flash.writes;
    }

pub returns-clause-puts : goal.returns-clause-puts
returns-clause-puts g c =
    let all : c.loop-loaded.loaded ≡ c.args.count = omega arith in
    record {
      left = c.loop-loaded.table;
      left_f = g.F.Flash.state c.loop-loaded.flash;
      puts = subst (λ (n : ℕ). Loads c.args.step c.args.seed n c.args.table.now (g.F.Flash.state c.args.flash.now) c.loop-loaded.table (g.F.Flash.state c.loop-loaded.flash)) all c.loop-loaded.invariant.puts;
      ends = (refl, refl);
    }

pub returns-then-is_err-clause-fails : goal.returns-then-is_err-clause-fails
returns-then-is_err-clause-fails g c = λ runs.
    load-fails c.loop-loaded.table _ _ (g.F.Flash.state c.args.flash.now) (g.F.Flash.state c.loop-loaded.flash) (g.F.Flash.state c.put-outcome.new.flash) c.put-outcome.result (c.loop-loaded.invariant.running ∙ runs) c.put-outcome.ensures.exact c.loop-loaded.invariant.power c.loop-loaded.invariant.goes c.put-outcome.ensures.flash.cause

pub returns-then-is_err-clause-outside : goal.returns-then-is_err-clause-outside
returns-then-is_err-clause-outside g c = λ told.
    let i = c.loop-loaded.invariant in
    outside-then c.args.table.now c.loop-loaded.table _ _ _ i.same (i.outside told) (c.put-outcome.ensures.flash.outside (subst IsTrue (sym i.goes.tells) told))

pub returns-clause-outside : goal.returns-clause-outside
returns-clause-outside g c = c.loop-loaded.invariant.outside

pub returns-then-is_err-clause-goes : goal.returns-then-is_err-clause-goes
returns-then-is_err-clause-goes g c = goes-then _ _ _ c.loop-loaded.invariant.goes c.put-outcome.ensures.flash.goes

pub returns-then-is_err-clause-same : goal.returns-then-is_err-clause-same
returns-then-is_err-clause-same g c = same-on _ _ _ c.loop-loaded.invariant.same c.put-outcome.ensures.table.same

pub returns-clause-power : goal.returns-clause-power
returns-clause-power g c = λ goes. c.loop-loaded.invariant.power

pub returns-then-is_err-clause-power : goal.returns-then-is_err-clause-power
returns-then-is_err-clause-power g c = λ goes on.
    put-stays c.loop-loaded.table c.put-outcome.new.self _ _ c.put-outcome.ensures.flash.goes c.put-outcome.result c.put-outcome.ensures.flash.power c.put-outcome.ensures.memory.refused goes (c.loop-loaded.invariant.power on)

pub returns-then-is_err-clause-media_reads : goal.returns-then-is_err-clause-media_reads
returns-then-is_err-clause-media_reads g c =
    media-more c.args.table.now c.loop-loaded.table (g.F.Flash.state c.args.flash.now).media.reads (g.F.Flash.state c.loop-loaded.flash).media.reads (g.F.Flash.state c.put-outcome.new.flash).media.reads c.loop-loaded.loaded
    c.loop-loaded.invariant.same c.loop-loaded.invariant.media_reads (apart-reads _ _ _ _ c.put-outcome.ensures.flash.media_reads)

pub returns-clause-media_reads : goal.returns-clause-media_reads
returns-clause-media_reads g c =
    let all : c.loop-loaded.loaded ≡ c.args.count = omega arith in
    media-all (rings_in c.args.table.now) (g.F.Flash.state c.args.flash.now).media.reads (g.F.Flash.state c.loop-loaded.flash).media.reads c.loop-loaded.loaded c.args.count all c.loop-loaded.invariant.media_reads

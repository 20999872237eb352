use Rattle.std.proofs.Common.{rules, ◌≡◌, ◌-◌, ◌<◌, ◌≤◌, Err, length, take, drop, refl, sym, ◌∙◌, ap, arith}
use Rattle.std.proofs.lemmas.List.{places}
use Rattle.std.proofs.lemmas.Result.{err_from_is_err_and}
use Rattle.fl_flash.specs.declared.flash.FlashFault.{FlashFault}
use Rattle.fl_frame.proofs.CallsInTurn.{goes-then}
use Rattle.fl_ring.proofs.Written.{writes-fewer}
use Rattle.fl_var.specs.Memory.{room_in, MaySeal}
use Rattle.fl_var.proofs.BufferedBytes.{pages-next, writes-first, writes-next, writes-fail, writes-oldest, writes-waits, writes-quiet, writes-end, writes-off, writes-tried, tried-fail, wrote-on, ok-on, cause-err, lost-on}
use Rattle.fl_var.proofs.PageImages.{waiting-length}
use Rattle.fl_var.proofs.Written.{on-ring}
use Rattle.fl_var.proofs.ByMemory.{plan-then, outside-then, done-err}
use Rattle.fl_var.proofs.var_data.VarData.write.Goals as goal

pub loop-done-init : goal.loop-done-init
loop-done-init g c = (
  writes-first c.args.self.now _ (g.F.Flash.state c.args.flash.now) c.args.bytes.now c.put-done.result refl (record { geometry = refl; place = refl }) c.requires.lies c.requires.mounted c.requires.room c.requires.some
      c.put-done.ensures.count c.put-done.ensures.fill c.put-done.ensures.content,
  refl,
  c.requires.few,
  c.requires.left,
)

pub returns-in_err-seal-clause-ends : goal.returns-in_err-seal-clause-ends
returns-in_err-seal-clause-ends g c =
    let v = c.args.self.now in
    let p = err_from_is_err_and c.from_residual.result c.from_residual.ensures.1 in
    let less : c.loop-done.done < length c.args.bytes.now = search rules in
    let wide : 0 < room_in c.args.self.now = omega (arith, v.served.page_least) in
    writes-fail v c.loop-done.self _ c.seal.new.self (g.F.Flash.state c.args.flash.now) (g.F.Flash.state c.loop-done.flash) (g.F.Flash.state c.seal.new.flash) c.args.bytes.now c.loop-done.done c.in_err-seal.field-0.0
    c.loop-done.invariant.0 less wide c.in_err-seal.ensures.goes c.in_err-seal.ensures.ends c.from_residual.result (p.1 ∙ ap (λ (e : FlashFault). Err e) p.2)

pub returns-in_err-seal-clause-cause : goal.returns-in_err-seal-clause-cause
returns-in_err-seal-clause-cause g c =
    let p = err_from_is_err_and c.from_residual.result c.from_residual.ensures.1 in
    let is = c.loop-done.invariant.0 in
    cause-err (g.F.Flash.state c.args.flash.now) (g.F.Flash.state c.loop-done.flash) (g.F.Flash.state c.seal.new.flash) c.from_residual.result c.in_err-seal.field-0.0 (p.1 ∙ ap (λ (e : FlashFault). Err e) p.2)
    is.goes is.power c.in_err-seal.ensures.cause

pub loop-done-preserved : goal.loop-done-preserved
loop-done-preserved g c =
    let less : c.loop-done.done < length c.args.bytes.now = search rules in
    let rest : length (take (length c.args.bytes.now - c.loop-done.done) (drop c.loop-done.done c.args.bytes.now)) ≡ length c.args.bytes.now - c.loop-done.done = search (rules, places) in
    let e = c.in_ok-seal.ensures in (
      writes-next c.args.self.now c.loop-done.self c.seal.new.self _ (g.F.Flash.state c.args.flash.now) (g.F.Flash.state c.loop-done.flash) (g.F.Flash.state c.seal.new.flash) c.args.bytes.now c.loop-done.done
          c.put-done-in-loop-done.result c.loop-done.invariant.0 less e.goes e.same e.lies e.mounted e.next e.oldest e.empty e.ends e.outside e.reads e.media_reads (on-ring c.loop-done.self (MaySeal c.loop-done.self) 0 1 (g.F.Flash.state c.loop-done.flash) (g.F.Flash.state c.seal.new.flash) e.outside (writes-fewer (MaySeal c.loop-done.self) 1 1 _ _ e.writes)) refl (record { geometry = refl; place = refl }) e.power (ok-on _ _ _ e.off)
          (length (take (length c.args.bytes.now - c.loop-done.done) (drop c.loop-done.done c.args.bytes.now))) rest c.put-done-in-loop-done.ensures.count c.put-done-in-loop-done.ensures.fill c.put-done-in-loop-done.ensures.content,
      refl,
      c.requires.few,
      c.requires.left,
    )

pub loop-done-smaller : goal.loop-done-smaller
loop-done-smaller g c =
    let mid = c.seal.new.self in
    let less : c.loop-done.done < length c.args.bytes.now = search rules in
    let rest : length (take (length c.args.bytes.now - c.loop-done.done) (drop c.loop-done.done c.args.bytes.now)) ≡ length c.args.bytes.now - c.loop-done.done = search (rules, places) in
    let none : c.seal.new.self.waiting.fill ≡ 0 = sym (waiting-length mid) ∙ ap length c.in_ok-seal.ensures.empty in
    omega (arith, less, rest, c.put-done-in-loop-done.ensures.count, none, mid.page, mid.served.page_least)

pub returns-clause-ends : goal.returns-clause-ends
returns-clause-ends g c =
    let all : length c.args.bytes.now ≤ c.loop-done.done = search rules in
    writes-end c.args.self.now c.loop-done.self (g.F.Flash.state c.args.flash.now) (g.F.Flash.state c.loop-done.flash) c.args.bytes.now c.loop-done.done c.loop-done.invariant.0 all

pub returns-clause-power : goal.returns-clause-power
returns-clause-power g c = c.loop-done.invariant.0.power

pub returns-clause-quiet : goal.returns-clause-quiet
returns-clause-quiet g c = λ none.
    let all : length c.args.bytes.now ≤ c.loop-done.done = search rules in
    (refl, writes-quiet c.args.self.now c.loop-done.self (g.F.Flash.state c.args.flash.now) (g.F.Flash.state c.loop-done.flash) c.args.bytes.now c.loop-done.done c.loop-done.invariant.0 all none)

pub returns-clause-oldest : goal.returns-clause-oldest
returns-clause-oldest g c =
    let all : length c.args.bytes.now ≤ c.loop-done.done = search rules in
    writes-oldest c.args.self.now c.loop-done.self (g.F.Flash.state c.args.flash.now) (g.F.Flash.state c.loop-done.flash) c.args.bytes.now c.loop-done.done c.loop-done.invariant.0 all

pub returns-clause-waits : goal.returns-clause-waits
returns-clause-waits g c =
    let all : length c.args.bytes.now ≤ c.loop-done.done = search rules in
    writes-waits c.args.self.now c.loop-done.self (g.F.Flash.state c.args.flash.now) (g.F.Flash.state c.loop-done.flash) c.args.bytes.now c.loop-done.done c.loop-done.invariant.0 all

pub returns-in_err-seal-clause-off : goal.returns-in_err-seal-clause-off
returns-in_err-seal-clause-off g c = λ some.
    let p = err_from_is_err_and c.from_residual.result c.from_residual.ensures.1 in
    writes-off c.args.self.now c.loop-done.self (g.F.Flash.state c.args.flash.now) (g.F.Flash.state c.loop-done.flash) (g.F.Flash.state c.seal.new.flash) c.args.bytes.now c.loop-done.done c.in_err-seal.field-0.0 c.from_residual.result
    c.loop-done.invariant.0 c.in_err-seal.ensures.off (p.1 ∙ ap (λ (e : FlashFault). Err e) p.2)

pub returns-clause-off : goal.returns-clause-off
returns-clause-off g c = λ some down.
    let all : length c.args.bytes.now ≤ c.loop-done.done = search rules in
    absurd (wrote-on c.args.self.now c.loop-done.self (g.F.Flash.state c.args.flash.now) (g.F.Flash.state c.loop-done.flash) c.args.bytes.now c.loop-done.done c.loop-done.invariant.0 all some down)

pub returns-in_err-seal-clause-lost : goal.returns-in_err-seal-clause-lost
returns-in_err-seal-clause-lost g c = λ lost.
    let p = err_from_is_err_and c.from_residual.result c.from_residual.ensures.1 in
    c.in_err-seal.ensures.lost (lost-on (Err c.in_err-seal.field-0.0) c.from_residual.result c.in_err-seal.field-0.0 refl (p.1 ∙ ap (λ (e : FlashFault). Err e) p.2) lost)

pub returns-in_err-seal-clause-goes : goal.returns-in_err-seal-clause-goes
returns-in_err-seal-clause-goes g c = goes-then _ _ _ c.loop-done.invariant.0.goes c.seal.ensures.goes

pub returns-in_err-seal-clause-writes : goal.returns-in_err-seal-clause-writes
returns-in_err-seal-clause-writes g c =
    let less : c.loop-done.done < length c.args.bytes.now = search rules in
    let wide : 0 < room_in c.args.self.now = omega (arith, c.args.self.now.served.page_least) in
    let e = c.in_err-seal.ensures in
    tried-fail c.args.self.now c.loop-done.self (g.F.Flash.state c.args.flash.now) (g.F.Flash.state c.loop-done.flash) (g.F.Flash.state c.seal.new.flash) c.args.bytes.now c.loop-done.done c.loop-done.invariant.0 less wide
    (on-ring c.loop-done.self (MaySeal c.loop-done.self) 0 1 (g.F.Flash.state c.loop-done.flash) (g.F.Flash.state c.seal.new.flash) e.outside e.writes)

pub returns-clause-writes : goal.returns-clause-writes
returns-clause-writes g c =
    let all : length c.args.bytes.now ≤ c.loop-done.done = search rules in
    writes-tried c.args.self.now c.loop-done.self (g.F.Flash.state c.args.flash.now) (g.F.Flash.state c.loop-done.flash) c.args.bytes.now c.loop-done.done c.loop-done.invariant.0 all

pub returns-in_err-seal-clause-media_reads : goal.returns-in_err-seal-clause-media_reads
returns-in_err-seal-clause-media_reads g c =
    let less : c.loop-done.done < length c.args.bytes.now = search rules in
    let wide : 0 < room_in c.args.self.now = omega (arith, c.args.self.now.served.page_least) in
    let is = c.loop-done.invariant.0 in
    omega (arith, c.in_err-seal.ensures.media_reads, is.media_reads, pages-next c.args.self.now c.loop-done.self (g.F.Flash.state c.args.flash.now) (g.F.Flash.state c.loop-done.flash) c.args.bytes.now c.loop-done.done is less wide)

pub returns-in_err-seal-clause-same : goal.returns-in_err-seal-clause-same
returns-in_err-seal-clause-same g c = plan-then c.args.self.now c.loop-done.self c.seal.new.self c.loop-done.invariant.0.same c.seal.ensures.same

pub returns-in_err-seal-clause-lies : goal.returns-in_err-seal-clause-lies
returns-in_err-seal-clause-lies g c = c.seal.ensures.lies

pub returns-in_err-seal-clause-mounted : goal.returns-in_err-seal-clause-mounted
returns-in_err-seal-clause-mounted g c =
    let p = err_from_is_err_and c.from_residual.result c.from_residual.ensures.1 in
    rw p.1 c.in_err-seal.ensures.mounted

pub returns-in_err-seal-clause-next : goal.returns-in_err-seal-clause-next
returns-in_err-seal-clause-next g c =
    let p = err_from_is_err_and c.from_residual.result c.from_residual.ensures.1 in
    rw p.1 tt

pub returns-in_err-seal-clause-oldest : goal.returns-in_err-seal-clause-oldest
returns-in_err-seal-clause-oldest g c =
    let p = err_from_is_err_and c.from_residual.result c.from_residual.ensures.1 in
    rw p.1 tt

pub returns-in_err-seal-clause-power : goal.returns-in_err-seal-clause-power
returns-in_err-seal-clause-power g c =
    let p = err_from_is_err_and c.from_residual.result c.from_residual.ensures.1 in
    rw p.1 tt

pub returns-in_err-seal-clause-waits : goal.returns-in_err-seal-clause-waits
returns-in_err-seal-clause-waits g c =
    let p = err_from_is_err_and c.from_residual.result c.from_residual.ensures.1 in
    rw p.1 tt

pub returns-in_err-seal-clause-outside : goal.returns-in_err-seal-clause-outside
returns-in_err-seal-clause-outside g c = outside-then c.args.self.now c.loop-done.self (g.F.Flash.state c.args.flash.now) (g.F.Flash.state c.loop-done.flash) (g.F.Flash.state c.seal.new.flash) c.loop-done.invariant.0.same c.loop-done.invariant.0.goes c.loop-done.invariant.0.outside c.seal.ensures.outside

pub returns-in_err-seal-clause-reads : goal.returns-in_err-seal-clause-reads
returns-in_err-seal-clause-reads g c = c.seal.ensures.reads ∙ c.loop-done.invariant.0.reads

pub returns-clause-goes : goal.returns-clause-goes
returns-clause-goes g c = c.loop-done.invariant.0.goes

pub returns-clause-same : goal.returns-clause-same
returns-clause-same g c = c.loop-done.invariant.0.same

pub returns-clause-lies : goal.returns-clause-lies
returns-clause-lies g c = c.loop-done.invariant.0.lies

pub returns-clause-mounted : goal.returns-clause-mounted
returns-clause-mounted g c = c.loop-done.invariant.0.mounted

pub returns-clause-outside : goal.returns-clause-outside
returns-clause-outside g c = c.loop-done.invariant.0.outside

pub returns-clause-reads : goal.returns-clause-reads
returns-clause-reads g c = c.loop-done.invariant.0.reads

pub returns-clause-lost : goal.returns-clause-lost
returns-clause-lost g c = λ lost. absurd (done-err tt _ lost)

pub seal-requires-clause-mounted : goal.seal-requires-clause-mounted
seal-requires-clause-mounted g c = c.loop-done.invariant.0.mounted

pub seal-requires-clause-lies : goal.seal-requires-clause-lies
seal-requires-clause-lies g c = c.loop-done.invariant.0.lies

pub seal-requires-clause-some : goal.seal-requires-clause-some
seal-requires-clause-some g c = c.loop-done.invariant.0.some

pub put-done-requires : goal.put-done-requires
put-done-requires g c = record { blank = c.args.self.now.blank }

pub put-done-requires-in-loop-done : goal.put-done-requires-in-loop-done
put-done-requires-in-loop-done g c = record { blank = c.seal.new.self.blank }

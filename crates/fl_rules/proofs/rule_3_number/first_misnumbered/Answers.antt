use Rattle.std.proofs.Common.{◌≡◌, ◌-◌, ◌≤◌, refl, sym, ◌∙◌, ap, arith, ℕ, subst, ◌+◌, ◌*◌, ◌^◌, ◌<◌, le_antisymm}
use Rattle.std.proofs.lemmas.Bool.{false≢true}
use Rattle.std.proofs.lemmas.Result.{err_from_is_err_and}
use Rattle.fl_ring.proofs.Exists.{page_exists}
use Rattle.fl_ring.proofs.ReadsInTurn.{fewer_reads, mark_fits}
use Rattle.fl_flash.specs.Flash.{page_at}
use Rattle.fl_ring.specs.Place.{shape_of}
use Rattle.fl_ring.specs.Looking.{state_at}
use Rattle.fl_ring.specs.Newest.{commits, number_of}
use Rattle.fl_frame.proofs.ReadsInTurn.{more_reads, no_reads}
use Rattle.fl_rules.specs.Marks.{kept_page}
use Rattle.fl_rules.proofs.OneMorePage.{one_read, read_fails, some_back, few_back, no_read, bytes_read, state_read, look_room, number_long}
use Rattle.fl_rules.proofs.OwnNumbers.{all_numbered, one_numbered, its_own, too_low, not_own, own_told}
use Rattle.fl_rules.specs.Claims.{AllBelow}
use Rattle.fl_rules.specs.Numbers.{HasItsNumber}
use Rattle.std.proofs.Math.Nat.{add-mul}
use Rattle.fl_rules.proofs.rule_3_number.first_misnumbered.Goals as goal
use Rattle.fl_rules.proofs.rule_3_number.first_misnumbered.Goals.{then-is_committed+else-from-next, else-is_committed}

wide-sum : (i first blocks pages : ℕ) {wide number wide_back kept : ℕ} → wide ≡ number → number < 2 ^ 32 → wide_back ≡ kept - i → kept < blocks * pages → (first + blocks) * pages < 2 ^ 32 → wide + wide_back < 2 ^ 64
wide-sum i first blocks pages wide_is small back_is few reach = omega (arith, wide_is, small, back_is, few, add-mul first blocks pages, reach)

pub look-requires-clause-exists : goal.look-requires-clause-exists
look-requires-clause-exists g c =
    page_exists c.args.ring.now (g.F.Flash.state c.args.flash.now) (g.F.Flash.state c.loop-i.flash) c.loop-i.i c.page_back-page.result c.requires.lies c.loop-i.invariant.reads c.page_back-page.ensures.within

pub loop-i-init : goal.loop-i-init
loop-i-init g c = record { reads = no_reads (g.F.Flash.state c.args.flash.now); room = c.requires.room; numbered = λ told. all_numbered (page_at (g.F.Flash.state c.args.flash.now)) (shape_of c.args.ring.now) c.args.m c.args.next 0 refl }

pub page_back-page-requires-clause-place : goal.page_back-page-requires-clause-place
page_back-page-requires-clause-place g c = c.requires.within.at

pub page_back-page-requires-clause-some : goal.page_back-page-requires-clause-some
page_back-page-requires-clause-some g c = some_back c.loop-i-test.true

pub page_back-page-requires-clause-few : goal.page_back-page-requires-clause-few
page_back-page-requires-clause-few g c = few_back _ c.requires.within.kept

pub returns-in_err-state-clause-reads : goal.returns-in_err-state-clause-reads
returns-in_err-state-clause-reads g c = one_read (g.F.Flash.state c.args.flash.now) (g.F.Flash.state c.loop-i.flash) (g.F.Flash.state c.look.new.flash) c.loop-i.i c.args.m.kept c.loop-i.invariant.reads c.look.ensures.reads c.loop-i-test.true

pub returns-in_err-state-clause-room : goal.returns-in_err-state-clause-room
returns-in_err-state-clause-room g c = c.look.ensures.room ∙ c.loop-i.invariant.room

pub returns-in_err-state-clause-fails : goal.returns-in_err-state-clause-fails
returns-in_err-state-clause-fails g c =
    let p = err_from_is_err_and c.from_residual.result c.from_residual.ensures.1 in
    rw (p.1, p.2) (read_fails (g.F.Flash.state c.args.flash.now) (g.F.Flash.state c.loop-i.flash) (g.F.Flash.state c.look.new.flash) c.loop-i.i 0 c.loop-i.invariant.reads c.in_err-state.field-0.0 c.in_err-state.ensures.fails)

pub returns-in_err-state-clause-none : goal.returns-in_err-state-clause-none
returns-in_err-state-clause-none g c =
    let p = err_from_is_err_and c.from_residual.result c.from_residual.ensures.1 in
    rw p.1 tt

pub returns-in_err-state-clause-some : goal.returns-in_err-state-clause-some
returns-in_err-state-clause-some g c =
    let p = err_from_is_err_and c.from_residual.result c.from_residual.ensures.1 in
    rw p.1 tt

pub returns-in_err-state-clause-within : goal.returns-in_err-state-clause-within
returns-in_err-state-clause-within g c =
    let p = err_from_is_err_and c.from_residual.result c.from_residual.ensures.1 in
    rw p.1 tt

pub returns-clause-room : goal.returns-clause-room
returns-clause-room g c = c.loop-i.invariant.room

pub returns-clause-some : goal.returns-clause-some
returns-clause-some g c = λ told. tt

pub returns-clause-within : goal.returns-clause-within
returns-clause-within g c = tt

pub returns-clause-fails : goal.returns-clause-fails
returns-clause-fails g c = tt

pub returns-then-next-from-clause-reads : goal.returns-then-next-from-clause-reads
returns-then-next-from-clause-reads g c = no_read (g.F.Flash.state c.args.flash.now) (g.F.Flash.state c.loop-i.flash) (g.F.Flash.state c.loop-i.flash) c.loop-i.i c.args.m.kept c.loop-i.invariant.reads c.loop-i-test.true

pub returns-then-next-from-clause-room : goal.returns-then-next-from-clause-room
returns-then-next-from-clause-room g c = c.loop-i.invariant.room

pub returns-then-next-from-clause-none : goal.returns-then-next-from-clause-none
returns-then-next-from-clause-none g c = λ told. tt

pub returns-then-next-from-clause-within : goal.returns-then-next-from-clause-within
returns-then-next-from-clause-within g c = c.loop-i-test.true

pub returns-then-next-from-clause-fails : goal.returns-then-next-from-clause-fails
returns-then-next-from-clause-fails g c = tt

pub loop-i-preserved : goal.loop-i-preserved
loop-i-preserved g c =
    let f = g.F.Flash.state c.args.flash.now in
    let before = g.F.Flash.state c.loop-i.flash in
    let after = g.F.Flash.state c.look.new.flash in
    let r = shape_of c.args.ring.now in
    let m = c.args.m in
    let i = c.loop-i.i in
    let reads = c.loop-i.invariant.reads in
    let least : m.kept - i ≤ c.args.next = omega (arith, c.if-next-from.false, c.from.ensures) in
    record {
      reads = more_reads f before after i 1 reads c.look.ensures.reads;
      room = c.look.ensures.room ∙ c.loop-i.invariant.room;
      numbered = λ told.
          let state : c.in_ok-state.state ≡ state_at f (kept_page r m i) = state_read f before after i 0 reads c.page_back-page.result (kept_page r m i) c.page_back-page.ensures.page told c.in_ok-state.state c.in_ok-state.ensures.state in
          let bytes : c.look.new.buf.bytes ≡ page_at f (kept_page r m i) = bytes_read f before after i 0 reads c.page_back-page.result (kept_page r m i) c.page_back-page.ensures.page told c.look.new.buf.bytes c.in_ok-state.ensures.bytes in
          one_numbered (page_at f) r m c.args.next i (c.loop-i.invariant.numbered told) least (elim c.if-is_committed.branch [
            | then-is_committed+else-from-next w ↦
                λ commits_here. its_own (w.get_u32-number.ensures ∙ ap number_of (w.bytes.ensures ∙ bytes)) w.from-then-is_committed.ensures w.from-then-is_committed-2.ensures w.if-from-next.false
            | else-is_committed w ↦ λ commits_here. absurd (false≢true (sym w.if-is_committed.false ∙ c.is_committed.ensures ∙ ap commits state ∙ commits_here))
          ]);
    }

pub returns-then-next-from-clause-some : goal.returns-then-next-from-clause-some
returns-then-next-from-clause-some g c = λ told. too_low (page_at (g.F.Flash.state c.args.flash.now)) (shape_of c.args.ring.now) c.args.m c.args.next c.loop-i.i c.loop-i-test.true (c.loop-i.invariant.numbered told)
    (omega (arith, c.if-next-from.true, c.from.ensures))

pub returns-then-from-next-clause-reads : goal.returns-then-from-next-clause-reads
returns-then-from-next-clause-reads g c = one_read (g.F.Flash.state c.args.flash.now) (g.F.Flash.state c.loop-i.flash) (g.F.Flash.state c.look.new.flash) c.loop-i.i c.args.m.kept c.loop-i.invariant.reads c.look.ensures.reads c.loop-i-test.true

pub returns-then-from-next-clause-room : goal.returns-then-from-next-clause-room
returns-then-from-next-clause-room g c = c.look.ensures.room ∙ c.loop-i.invariant.room

pub returns-then-from-next-clause-within : goal.returns-then-from-next-clause-within
returns-then-from-next-clause-within g c = c.loop-i-test.true

pub returns-clause-reads : goal.returns-clause-reads
returns-clause-reads g c = fewer_reads (g.F.Flash.state c.args.flash.now) (g.F.Flash.state c.loop-i.flash) c.loop-i.i c.args.m.kept c.loop-i.invariant.reads c.loop-i.auto.i-end

pub returns-clause-none : goal.returns-clause-none
returns-clause-none g c = λ told. subst (λ (k : ℕ). AllBelow (HasItsNumber (page_at (g.F.Flash.state c.args.flash.now)) (shape_of c.args.ring.now) c.args.m c.args.next) k)
    (le_antisymm c.loop-i.auto.i-end c.loop-i-test.false) (c.loop-i.invariant.numbered told)

pub returns-then-from-next-clause-some : goal.returns-then-from-next-clause-some
returns-then-from-next-clause-some g c =
    let f = g.F.Flash.state c.args.flash.now in
    let before = g.F.Flash.state c.loop-i.flash in
    let after = g.F.Flash.state c.look.new.flash in
    let r = shape_of c.args.ring.now in
    let m = c.args.m in
    let i = c.loop-i.i in
    let reads = c.loop-i.invariant.reads in
    λ told.
    let state : c.in_ok-state.state ≡ state_at f (kept_page r m i) = state_read f before after i 0 reads c.page_back-page.result (kept_page r m i) c.page_back-page.ensures.page told c.in_ok-state.state c.in_ok-state.ensures.state in
    let bytes : c.look.new.buf.bytes ≡ page_at f (kept_page r m i) = bytes_read f before after i 0 reads c.page_back-page.result (kept_page r m i) c.page_back-page.ensures.page told c.look.new.buf.bytes c.in_ok-state.ensures.bytes in
    not_own (page_at f) r m c.args.next i c.loop-i-test.true (c.loop-i.invariant.numbered told) (ap commits (sym state) ∙ sym c.is_committed.ensures ∙ c.if-is_committed.true)
    (λ own. c.if-from-next.true (own_told (c.get_u32-number.ensures ∙ ap number_of (c.bytes.ensures ∙ bytes)) c.from-then-is_committed.ensures c.from-then-is_committed-2.ensures own))

pub look-requires-clause-room : goal.look-requires-clause-room
look-requires-clause-room g c = look_room c.args.ring.now (g.F.Flash.state c.args.flash.now) (g.F.Flash.state c.loop-i.flash) c.loop-i.i _ c.requires.lies c.loop-i.invariant.reads c.loop-i.invariant.room

pub look-requires-clause-size : goal.look-requires-clause-size
look-requires-clause-size g c = mark_fits _ _ c.loop-i.invariant.room c.args.ring.now.served.size

pub overflow_sub-back : goal.overflow_sub-back
overflow_sub-back g c = c.loop-i.auto.i-end

pub get_u32-number-requires : goal.get_u32-number-requires
get_u32-number-requires g c = number_long c.bytes.result.now c.look.new.buf.bytes c.bytes.ensures (c.look.ensures.room ∙ c.loop-i.invariant.room) c.args.ring.now.served.size

pub overflow_add-from : goal.overflow_add-from
overflow_add-from g c = record { fits = wide-sum c.loop-i.i c.args.ring.now.first_block c.args.ring.now.blocks c.args.ring.now.per_block c.from-then-is_committed.ensures c.get_u32-number.type_inv c.from-then-is_committed-2.ensures c.requires.within.kept c.args.ring.now.reach }

use Rattle.std.proofs.Common.{◌≡◌, ℕ, ◌+◌, ◌*◌, ◌%◌, ◌^◌, ◌≤◌, ◌<◌, List, length, slice_range, sym, ◌∙◌, ap, subst, arith, lt_of_lt_of_le}
use Rattle.fl_base.proofs.Ranges.{take_slice}
use Rattle.fl_flash.specs.Flash.{FlashState, begin_of}
use Rattle.fl_flash.specs.declared.media.PairFailed.TheVariants.{First}
use Rattle.fl_flash.specs.Places.{extent}
use Rattle.fl_flash.specs.Programs.{left_at, ProgramsBoth}
use Rattle.fl_flash.proofs.Blocks.{front_of_page}
use Rattle.fl_flash.proofs.PairWrites.{both_after, both_size}
use Rattle.fl_flash.proofs.Pages.{page_within}
use Rattle.fl_flash.proofs.Pairs.{pair_keeps}
use Rattle.fl_flash.proofs.RangeOperations.{look_fails}
use Rattle.fl_flash.proofs.Seen.{below_same, some_block, rows_fit, begin_fits, rows_small, whole_range}
use Rattle.fl_flash.proofs.sim.SimFlash.program_two.Goals as goal

pub program_both-requires-clause-within : goal.program_both-requires-clause-within
program_both-requires-clause-within g c =
    let seen = c.look.new.self in
    let range : length c.args.first.now + length c.args.zeros.now ≤ seen.geometry.page = omega (arith, c.requires.range, ap (λ (f : FlashState). f.geometry.page) c.look.ensures.same) in
    let exists : c.args.page < seen.blocks * seen.geometry.block = omega (arith, c.requires.exists, ap (λ (f : FlashState). f.blocks * f.geometry.block) c.look.ensures.same) in
    omega (arith, range, page_within seen.start seen.geometry.page c.args.page (seen.blocks * seen.geometry.block) _ exists seen.reach)

pub program_both-requires-clause-exact : goal.program_both-requires-clause-exact
program_both-requires-clause-exact g c =
    let seen = c.look.new.self in
    let first = c.args.first.now in
    let begin = seen.start + c.args.page * seen.geometry.page in
    λ exact told.
    subst (λ (k : ℕ). left_at (g.M.Media.state seen.media.now) k first ≡ first) (let e : begin + 0 ≡ begin = omega arith in e) (c.in-Ok.ensures.exact exact told 0 (omega (arith, c.requires.range)))

pub program_both-requires-clause-read : goal.program_both-requires-clause-read
program_both-requires-clause-read g c =
    let seen = c.look.new.self in
    let size = seen.geometry.page in
    let block = c.args.page % seen.geometry.block in
    let n = length c.args.first.now in
    let range : n ≤ size = omega (arith, c.requires.range, ap (λ (f : FlashState). f.geometry.page) c.look.ensures.same) in
    λ fresh told.
    take_slice c.deref_mut.result.now (block * size) (block * size + (n + length c.args.zeros.now)) n (omega arith)
    ∙ ap (λ (l : List ℕ). slice_range l (block * size) (block * size + n)) c.deref_mut.ensures.value
    ∙ front_of_page seen.scratch.items (g.M.Media.state seen.media.now).content seen.start size block c.args.page n (c.in-Ok.ensures.read fresh told) range

pub invariant_of-self-clause-known : goal.invariant_of-self-clause-known
invariant_of-self-clause-known g c =
    let seen = c.look.new.self in
    let range : length c.args.first.now + length c.args.zeros.now ≤ seen.geometry.page = omega (arith, c.requires.range, ap (λ (f : FlashState). f.geometry.page) c.look.ensures.same) in
    let exists : c.args.page < seen.blocks * seen.geometry.block = omega (arith, c.requires.exists, ap (λ (f : FlashState). f.blocks * f.geometry.block) c.look.ensures.same) in
    pair_keeps seen.geometry seen.blocks seen.start (g.M.Media.state seen.media.now) (g.M.Media.state c.program_both.new.media) seen.clean.items c.args.page c.args.first.now c.args.zeros.now c.program_both.result
    exists range seen.reach c.program_both.ensures.both seen.known

pub returns-clause-both : goal.returns-clause-both
returns-clause-both g c =
    let seen = c.look.new.self in
    let old = g.M.Media.state c.args.self.now.media.now in
    let new = g.M.Media.state c.program_both.new.media in
    subst (λ (k : ℕ). ProgramsBoth old k c.args.first.now c.args.zeros.now c.program_both.result new) (ap (λ (f : FlashState). begin_of f c.args.page) c.look.ensures.same)
    (both_after old (g.M.Media.state seen.media.now) new (seen.start + c.args.page * seen.geometry.page) c.args.first.now c.args.zeros.now
    c.look.ensures.looks.tells c.look.ensures.looks.content c.look.ensures.looks.cause.later c.look.ensures.looks.reads c.program_both.result c.program_both.ensures.both c.program_both.ensures.no_read)

pub look-requires : goal.look-requires
look-requires g c = record { exists = c.requires.exists }

pub returns-in-Err-clause-same : goal.returns-in-Err-clause-same
returns-in-Err-clause-same g c = c.look.ensures.same

pub returns-in-Err-clause-both : goal.returns-in-Err-clause-both
returns-in-Err-clause-both g c = record {
  first_failed = look_fails _ _ _ _ _ c.args.first.now c.in-Err.field-0 First c.in-Err.ensures.looks;
  reads = c.look.ensures.looks.reads;
}

pub overflow_mul-at : goal.overflow_mul-at
overflow_mul-at g c =
    let seen = c.look.new.self in
    rows_fit seen.start seen.geometry.page c.args.page (seen.blocks * seen.geometry.block) 0 seen.geometry.page _
    (below_same c.args.page _ _ (ap (λ (f : FlashState). f.blocks * f.geometry.block) c.look.ensures.same) c.requires.exists) (whole_range seen.geometry.page) seen.reach seen.fits

pub overflow_add-at : goal.overflow_add-at
overflow_add-at g c =
    let seen = c.look.new.self in
    begin_fits seen.start seen.geometry.page c.args.page (seen.blocks * seen.geometry.block) 0 seen.geometry.page _
    (below_same c.args.page _ _ (ap (λ (f : FlashState). f.blocks * f.geometry.block) c.look.ensures.same) c.requires.exists) (whole_range seen.geometry.page) seen.reach seen.fits

pub nonzero_rem-begin : goal.nonzero_rem-begin
nonzero_rem-begin g c = some_block _ c.look.new.self.served.block_least

pub overflow_mul-begin : goal.overflow_mul-begin
overflow_mul-begin g c =
    let seen = c.look.new.self in
    rows_small c.args.page _ seen.geometry.page 0 seen.geometry.page seen.served.block_least seen.served.block_greatest seen.served.page_greatest (whole_range seen.geometry.page)

pub index_mut-requires : goal.index_mut-requires
index_mut-requires g c = lt_of_lt_of_le (below_same c.args.page _ _ (ap (λ (f : FlashState). f.blocks * f.geometry.block) c.look.ensures.same) c.requires.exists) c.look.new.self.flags

pub program_both-requires-clause-zeros : goal.program_both-requires-clause-zeros
program_both-requires-clause-zeros g c = c.requires.zeros

pub invariant_of-self-clause-reach : goal.invariant_of-self-clause-reach
invariant_of-self-clause-reach g c =
    let seen = c.look.new.self in
    subst (λ (n : ℕ). seen.start + extent seen.geometry seen.blocks ≤ n) (sym (both_size _ _ _ _ _ _ c.program_both.ensures.both)) seen.reach

pub invariant_of-self-clause-fits : goal.invariant_of-self-clause-fits
invariant_of-self-clause-fits g c = subst (λ (n : ℕ). n < 2 ^ 64) (sym (both_size _ _ _ _ _ _ c.program_both.ensures.both)) c.look.new.self.fits

pub invariant_of-self-clause-served : goal.invariant_of-self-clause-served
invariant_of-self-clause-served g c = c.look.new.self.served

pub invariant_of-self-clause-room : goal.invariant_of-self-clause-room
invariant_of-self-clause-room g c = c.look.new.self.room

pub invariant_of-self-clause-flags : goal.invariant_of-self-clause-flags
invariant_of-self-clause-flags g c = c.look.new.self.flags

pub returns-clause-same : goal.returns-clause-same
returns-clause-same g c = ap (λ (f : FlashState). let x : FlashState = record f { media = g.M.Media.state c.program_both.new.media } in x) c.look.ensures.same

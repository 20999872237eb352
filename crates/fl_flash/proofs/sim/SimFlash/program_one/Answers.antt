use Rattle.std.proofs.Common.{ℕ, ◌+◌, ◌*◌, ◌%◌, ◌^◌, ◌≤◌, ◌<◌, List, length, slice_range, sym, ◌∙◌, ap, subst, arith, lt_of_lt_of_le}
use Rattle.std.proofs.lemmas.Result.{err_from_is_err_and}
use Rattle.fl_flash.specs.Flash.{FlashState, begin_of}
use Rattle.fl_flash.specs.Places.{extent}
use Rattle.fl_flash.specs.Programs.{left_at}
use Rattle.fl_flash.specs.Tear.{front_of, Rewrites}
use Rattle.fl_flash.proofs.Blocks.{range_of_page}
use Rattle.fl_flash.proofs.Clean.{program_keeps}
use Rattle.fl_flash.proofs.RangeOperations.{program_after, reads_after, look_fails}
use Rattle.fl_flash.proofs.Seen.{below_same, within_same, some_block, range_within, rows_fit, begin_fits, from_fits, rows_small, from_small, end_small}
use Rattle.fl_flash.proofs.sim.SimFlash.program_one.Goals as goal

pub look-requires : goal.look-requires
look-requires g c = record { exists = c.requires.exists }

pub returns-in_err-is_exact-clause-same : goal.returns-in_err-is_exact-clause-same
returns-in_err-is_exact-clause-same g c = c.look.ensures.same

pub returns-in_err-is_exact-clause-rewrites : goal.returns-in_err-is_exact-clause-rewrites
returns-in_err-is_exact-clause-rewrites g c =
    let p = err_from_is_err_and c.from_residual.result c.from_residual.ensures.1 in
    rw p.1 (look_fails _ _ _ _ _ c.args.bytes.now c.in_err-is_exact.field-0.0 p.0 c.in_err-is_exact.ensures.looks)

pub returns-in_err-is_exact-clause-reads : goal.returns-in_err-is_exact-clause-reads
returns-in_err-is_exact-clause-reads g c = c.look.ensures.looks.reads

pub overflow_mul-at : goal.overflow_mul-at
overflow_mul-at g c =
    let seen = c.look.new.self in
    rows_fit seen.start seen.geometry.page c.args.page (seen.blocks * seen.geometry.block) c.args.from (length c.args.bytes.now) _
    (below_same c.args.page _ _ (ap (λ (f : FlashState). f.blocks * f.geometry.block) c.look.ensures.same) c.requires.exists) (within_same _ _ _ (ap (λ (f : FlashState). f.geometry.page) c.look.ensures.same) c.requires.range) seen.reach seen.fits

pub overflow_add-at : goal.overflow_add-at
overflow_add-at g c =
    let seen = c.look.new.self in
    begin_fits seen.start seen.geometry.page c.args.page (seen.blocks * seen.geometry.block) c.args.from (length c.args.bytes.now) _
    (below_same c.args.page _ _ (ap (λ (f : FlashState). f.blocks * f.geometry.block) c.look.ensures.same) c.requires.exists) (within_same _ _ _ (ap (λ (f : FlashState). f.geometry.page) c.look.ensures.same) c.requires.range) seen.reach seen.fits

pub overflow_add-at-2 : goal.overflow_add-at-2
overflow_add-at-2 g c =
    let seen = c.look.new.self in
    from_fits seen.start seen.geometry.page c.args.page (seen.blocks * seen.geometry.block) c.args.from (length c.args.bytes.now) _
    (below_same c.args.page _ _ (ap (λ (f : FlashState). f.blocks * f.geometry.block) c.look.ensures.same) c.requires.exists) (within_same _ _ _ (ap (λ (f : FlashState). f.geometry.page) c.look.ensures.same) c.requires.range) seen.reach seen.fits

pub nonzero_rem-begin : goal.nonzero_rem-begin
nonzero_rem-begin g c = some_block _ c.look.new.self.served.block_least

pub overflow_mul-begin : goal.overflow_mul-begin
overflow_mul-begin g c =
    let seen = c.look.new.self in
    rows_small c.args.page _ _ c.args.from (length c.args.bytes.now) seen.served.block_least seen.served.block_greatest seen.served.page_greatest (within_same _ _ _ (ap (λ (f : FlashState). f.geometry.page) c.look.ensures.same) c.requires.range)

pub overflow_add-begin : goal.overflow_add-begin
overflow_add-begin g c =
    let seen = c.look.new.self in
    from_small c.args.page _ _ c.args.from (length c.args.bytes.now) seen.served.block_least seen.served.block_greatest seen.served.page_greatest (within_same _ _ _ (ap (λ (f : FlashState). f.geometry.page) c.look.ensures.same) c.requires.range)

pub overflow_add-begin-2 : goal.overflow_add-begin-2
overflow_add-begin-2 g c =
    let seen = c.look.new.self in
    end_small c.args.page _ _ c.args.from (length c.args.bytes.now) seen.served.block_least seen.served.block_greatest seen.served.page_greatest (within_same _ _ _ (ap (λ (f : FlashState). f.geometry.page) c.look.ensures.same) c.requires.range)

pub index_mut-requires : goal.index_mut-requires
index_mut-requires g c = lt_of_lt_of_le (below_same c.args.page _ _ (ap (λ (f : FlashState). f.blocks * f.geometry.block) c.look.ensures.same) c.requires.exists) c.look.new.self.flags

pub program_on-requires-clause-within : goal.program_on-requires-clause-within
program_on-requires-clause-within g c =
    let seen = c.look.new.self in
    range_within seen.start seen.geometry.page c.args.page (seen.blocks * seen.geometry.block) c.args.from (length c.args.bytes.now) _
    (below_same c.args.page _ _ (ap (λ (f : FlashState). f.blocks * f.geometry.block) c.look.ensures.same) c.requires.exists) (within_same _ _ _ (ap (λ (f : FlashState). f.geometry.page) c.look.ensures.same) c.requires.range) seen.reach

pub program_on-requires-clause-exact : goal.program_on-requires-clause-exact
program_on-requires-clause-exact g c = λ exact told. c.in_ok-is_exact.ensures.exact exact told c.args.from c.requires.range

pub program_on-requires-clause-read : goal.program_on-requires-clause-read
program_on-requires-clause-read g c =
    let seen = c.look.new.self in
    let size = seen.geometry.page in
    let block = c.args.page % seen.geometry.block in
    let from = c.args.from in
    let n = length c.args.bytes.now in
    let range : from + n ≤ size = omega (arith, c.requires.range, ap (λ (f : FlashState). f.geometry.page) c.look.ensures.same) in
    λ fresh told.
    ap (λ (l : List ℕ). slice_range l (block * size + from) (block * size + from + n)) c.deref_mut.ensures.value
    ∙ range_of_page seen.scratch.items (g.M.Media.state seen.media.now).content seen.start size block c.args.page from n (c.in_ok-is_exact.ensures.read fresh told) range

pub invariant_of-self-clause-known : goal.invariant_of-self-clause-known
invariant_of-self-clause-known g c =
    let seen = c.look.new.self in
    let range : c.args.from + length c.args.bytes.now ≤ seen.geometry.page = omega (arith, c.requires.range, ap (λ (f : FlashState). f.geometry.page) c.look.ensures.same) in
    let exists : c.args.page < seen.blocks * seen.geometry.block = omega (arith, c.requires.exists, ap (λ (f : FlashState). f.blocks * f.geometry.block) c.look.ensures.same) in
    program_keeps seen.geometry seen.blocks seen.start (g.M.Media.state seen.media.now) (g.M.Media.state c.program_on.new.media) seen.clean.items c.args.page c.args.from _ exists range seen.reach
    c.program_on.ensures.rewrites.tells c.program_on.ensures.rewrites.torn seen.known

pub invariant_of-self-clause-reach : goal.invariant_of-self-clause-reach
invariant_of-self-clause-reach g c =
    let seen = c.look.new.self in
    subst (λ (n : ℕ). seen.start + extent seen.geometry seen.blocks ≤ n) (sym c.program_on.ensures.rewrites.size) seen.reach

pub invariant_of-self-clause-fits : goal.invariant_of-self-clause-fits
invariant_of-self-clause-fits g c = subst (λ (n : ℕ). n < 2 ^ 64) (sym c.program_on.ensures.rewrites.size) c.look.new.self.fits

pub invariant_of-self-clause-served : goal.invariant_of-self-clause-served
invariant_of-self-clause-served g c = c.look.new.self.served

pub invariant_of-self-clause-room : goal.invariant_of-self-clause-room
invariant_of-self-clause-room g c = c.look.new.self.room

pub invariant_of-self-clause-flags : goal.invariant_of-self-clause-flags
invariant_of-self-clause-flags g c = c.look.new.self.flags

pub returns-clause-same : goal.returns-clause-same
returns-clause-same g c = ap (λ (f : FlashState). let x : FlashState = record f { media = g.M.Media.state c.program_on.new.media } in x) c.look.ensures.same

pub returns-clause-rewrites : goal.returns-clause-rewrites
returns-clause-rewrites g c =
    let seen = c.look.new.self in
    let old = g.M.Media.state c.args.self.now.media.now in
    let new = g.M.Media.state c.program_on.new.media in
    let from = c.args.from in
    let bytes = c.args.bytes.now in
    let tear = c.args.tear in
    subst (λ (k : ℕ). Rewrites old (k + from) (length bytes) (front_of tear (left_at old (k + from) bytes)) c.program_on.result new) (ap (λ (f : FlashState). begin_of f c.args.page) c.look.ensures.same)
    (program_after old (g.M.Media.state seen.media.now) new (seen.start + c.args.page * seen.geometry.page + from) bytes tear _ c.program_on.result c.look.ensures.looks c.program_on.ensures.rewrites)

pub returns-clause-reads : goal.returns-clause-reads
returns-clause-reads g c = reads_after _ _ _ c.args.bytes.now c.look.ensures.looks.reads c.program_on.ensures.no_read

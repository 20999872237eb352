use Rattle.std.proofs.Common.{zero-le, refl}
use Rattle.std.proofs.lemmas.Option.{none-some}
use Rattle.std.proofs.lemmas.Result.{err_from_is_err_and}
use Rattle.fl_index.proofs.Limits.{blocks-wide, page-wide, block-wide, page-room, body-size, body-blank, none-yet}
use Rattle.fl_index.proofs.index.BitmapIndex.plan.Goals as goal

pub returns-in_err-vec-clause-planned : goal.returns-in_err-vec-clause-planned
returns-in_err-vec-clause-planned c =
    let p = err_from_is_err_and c.from_residual.result c.from_residual.ensures.1 in
    rw p.1 tt

pub returns-in_err-vec-clause-entries : goal.returns-in_err-vec-clause-entries
returns-in_err-vec-clause-entries c =
    let p = err_from_is_err_and c.from_residual.result c.from_residual.ensures.1 in
    rw p.1 tt

pub returns-in_err-vec-clause-lies : goal.returns-in_err-vec-clause-lies
returns-in_err-vec-clause-lies c =
    let p = err_from_is_err_and c.from_residual.result c.from_residual.ensures.1 in
    rw p.1 tt

pub returns-in_err-vec-clause-fresh : goal.returns-in_err-vec-clause-fresh
returns-in_err-vec-clause-fresh c =
    let p = err_from_is_err_and c.from_residual.result c.from_residual.ensures.1 in
    rw p.1 tt

pub returns-in_err-vec-2-clause-planned : goal.returns-in_err-vec-2-clause-planned
returns-in_err-vec-2-clause-planned c =
    let p = err_from_is_err_and c.from_residual-in_err-vec-2.result c.from_residual-in_err-vec-2.ensures.1 in
    rw p.1 tt

pub returns-in_err-vec-2-clause-entries : goal.returns-in_err-vec-2-clause-entries
returns-in_err-vec-2-clause-entries c =
    let p = err_from_is_err_and c.from_residual-in_err-vec-2.result c.from_residual-in_err-vec-2.ensures.1 in
    rw p.1 tt

pub returns-in_err-vec-2-clause-lies : goal.returns-in_err-vec-2-clause-lies
returns-in_err-vec-2-clause-lies c =
    let p = err_from_is_err_and c.from_residual-in_err-vec-2.result c.from_residual-in_err-vec-2.ensures.1 in
    rw p.1 tt

pub returns-in_err-vec-2-clause-fresh : goal.returns-in_err-vec-2-clause-fresh
returns-in_err-vec-2-clause-fresh c =
    let p = err_from_is_err_and c.from_residual-in_err-vec-2.result c.from_residual-in_err-vec-2.ensures.1 in
    rw p.1 tt

pub returns-clause-planned : goal.returns-clause-planned
returns-clause-planned c = λ plan geometry blocks bits full. record { geometry = geometry; begins = refl; blocks = blocks; bits = bits; full = full }

pub returns-clause-entries : goal.returns-clause-entries
returns-clause-entries c = refl

pub returns-clause-lies : goal.returns-clause-lies
returns-clause-lies c = λ f geometry within few. record { geometry = geometry; within = within; few = few; ring = λ r has. absurd (none-some r has) }

pub returns-clause-fresh : goal.returns-clause-fresh
returns-clause-fresh c = (refl, refl)

pub overflow_cast-pages : goal.overflow_cast-pages
overflow_cast-pages c = blocks-wide _ c.requires.few

pub overflow_cast-pages-2 : goal.overflow_cast-pages-2
overflow_cast-pages-2 c = block-wide _ c.requires.geometry.block_greatest

pub overflow_cast-geometry : goal.overflow_cast-geometry
overflow_cast-geometry c = page-wide _ c.requires.geometry.page_greatest

pub overflow_sub-geometry : goal.overflow_sub-geometry
overflow_sub-geometry c = page-room _ c.requires.geometry.page_least

pub invariant_of-result : goal.invariant_of-result
invariant_of-result c = record {
  served = c.requires.geometry;
  some_blocks = c.requires.blocks;
  few_blocks = c.requires.few;
  some_bits = c.requires.bits;
  remembered = c.in_ok-vec.ensures.len;
  page = body-size _ _ (c.in_ok-vec-2.ensures.items_if_clones_equal (λ y e. e)) (page-room _ c.requires.geometry.page_least);
  blank_rest = body-blank _ _ _ (c.in_ok-vec-2.ensures.items_if_clones_equal (λ y e. e));
  few = zero-le;
  left = none-yet;
  lies = λ r has. absurd (none-some r has);
}

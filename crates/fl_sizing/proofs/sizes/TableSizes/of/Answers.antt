use Rattle.std.proofs.Common.{refl}
use Rattle.fl_sizing.proofs.sizes.TableSizes.of.Goals as goal

pub returns-clause-exact : goal.returns-clause-exact
returns-clause-exact c = λ label.
    rw (
      c.from.ensures,
      c.row_len.ensures.exact label,
      c.rows_per_page.ensures.exact label,
      c.pages_kept.ensures.exact label,
      c.rows_kept.ensures.exact label,
      c.index_pages.ensures.exact label,
      c.index_blocks.ensures.exact label,
      c.blob_bytes.ensures label,
      c.memory.ensures.exact label,
      c.full_reads.ensures label,
      c.most_reads.ensures label,
    ) refl

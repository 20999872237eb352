use Rattle.std.proofs.Common.{arith, ◌+◌, ℕ, ◌<◌, ◌≤◌, sym, ◌∙◌, ap, subst, ◌*◌, ◌^◌, le-add_right}
use Rattle.std.proofs.lemmas.Result.{err_from_is_err_and}
use Rattle.fl_ring.specs.Place.{shape_of}
use Rattle.fl_frame.proofs.ReadsInTurn.{told_still, looks_by, more_reads}
use Rattle.fl_rules.proofs.Heads.{marks_for, within_for}
use Rattle.fl_ring.proofs.Exists.{lies_still}
use Rattle.fl_ring.proofs.ReadsInTurn.{fewer_reads}
use Rattle.fl_rules.proofs.LooksChangeNothing.{fails_later}
use Rattle.fl_ring.proofs.LooksBack.{ends_small, place_small}
use Rattle.fl_rules.proofs.Results.{same_flash, no_fault}
use Rattle.fl_ring.specs.Head.{counts_full}
use Rattle.fl_rules.specs.Stop.{breach}
use Rattle.fl_rules.specs.declared.rule.Rule.TheVariants.{Head}
use Rattle.fl_flash.specs.Flash.{page_at}
use Rattle.fl_rules.proofs.marks.read_marks.Goals as goal

blocks-some : {blocks : ℕ} → 3 ≤ blocks → 0 < blocks
blocks-some some = omega (arith, some)

first-small : {n most : ℕ} (m : ℕ) → n + m < most → n < most
first-small m lt = omega (arith, lt)

pub returns-clause-marks : goal.returns-clause-marks
returns-clause-marks g c = λ told.
    let ring = c.args.ring.now in
    let f = g.F.Flash.state c.args.flash.now in
    let second = g.F.Flash.state c.scan_blocks.new.flash in
    let reads = c.scan_blocks.ensures.reads in
    let r = shape_of ring in
    marks_for f second r ring.blocks c.in_ok-scan.scan c.heads.result c.head-head.result c.fulls.result c.kept_pages-kept.result c.per_block.result c.in_ok-pages.pages reads
    (blocks-some ring.served.blocks) (c.in_ok-scan.ensures.scanned told) c.heads.ensures c.if-heads-ne1.false c.head-head.ensures c.fulls.ensures c.kept_pages-kept.ensures.pages c.per_block.ensures.pages
    (c.in_ok-pages.ensures.ordered (told_still f second ring.blocks reads told))

pub returns-clause-within : goal.returns-clause-within
returns-clause-within g c =
    let ring = c.args.ring.now in
    within_for (shape_of ring) ring.served c.head-head.result c.in_ok-pages.pages c.per_block.result c.fulls.result c.kept_pages-kept.result (omega (arith, c.head-head.ensures, c.in_ok-scan.ensures.head))
    c.in_ok-pages.ensures.sealed c.in_ok-pages.ensures.within c.per_block.ensures.pages c.kept_pages-kept.ensures.pages c.kept_pages-kept.ensures.within

pub scan_blocks-requires-clause-lies : goal.scan_blocks-requires-clause-lies
scan_blocks-requires-clause-lies g c = c.requires.lies

pub scan_blocks-requires-clause-room : goal.scan_blocks-requires-clause-room
scan_blocks-requires-clause-room g c = c.requires.room

pub returns-in_err-scan-clause-reads : goal.returns-in_err-scan-clause-reads
returns-in_err-scan-clause-reads g c = fewer_reads (g.F.Flash.state c.args.flash.now) (g.F.Flash.state c.scan_blocks.new.flash) c.args.ring.now.blocks (c.args.ring.now.blocks + c.args.ring.now.per_block) c.scan_blocks.ensures.reads (le-add_right c.args.ring.now.blocks c.args.ring.now.per_block)

pub returns-in_err-scan-clause-room : goal.returns-in_err-scan-clause-room
returns-in_err-scan-clause-room g c = c.scan_blocks.ensures.room

pub returns-in_err-scan-clause-marks : goal.returns-in_err-scan-clause-marks
returns-in_err-scan-clause-marks g c =
    let p = err_from_is_err_and c.from_residual.result c.from_residual.ensures.1 in
    rw p.1 tt

pub returns-in_err-scan-clause-within : goal.returns-in_err-scan-clause-within
returns-in_err-scan-clause-within g c =
    let p = err_from_is_err_and c.from_residual.result c.from_residual.ensures.1 in
    rw p.1 tt

pub returns-in_err-scan-clause-broken : goal.returns-in_err-scan-clause-broken
returns-in_err-scan-clause-broken g c =
    let p = err_from_is_err_and c.from_residual.result c.from_residual.ensures.1 in
    rw (p.1, p.2) tt

pub returns-in_err-scan-clause-fails : goal.returns-in_err-scan-clause-fails
returns-in_err-scan-clause-fails g c =
    let p = err_from_is_err_and c.from_residual.result c.from_residual.ensures.1 in
    rw (p.1, p.2) c.in_err-scan.ensures.fails

pub returns-then-heads-ne1-clause-reads : goal.returns-then-heads-ne1-clause-reads
returns-then-heads-ne1-clause-reads g c = fewer_reads (g.F.Flash.state c.args.flash.now) (g.F.Flash.state c.scan_blocks.new.flash) c.args.ring.now.blocks (c.args.ring.now.blocks + c.args.ring.now.per_block) c.scan_blocks.ensures.reads (le-add_right c.args.ring.now.blocks c.args.ring.now.per_block)

pub returns-then-heads-ne1-clause-room : goal.returns-then-heads-ne1-clause-room
returns-then-heads-ne1-clause-room g c = c.scan_blocks.ensures.room

pub read_head-requires-clause-lies : goal.read_head-requires-clause-lies
read_head-requires-clause-lies g c = lies_still c.args.ring.now (g.F.Flash.state c.args.flash.now) (g.F.Flash.state c.scan_blocks.new.flash) c.requires.lies c.scan_blocks.ensures.reads.goes

pub read_head-requires-clause-room : goal.read_head-requires-clause-room
read_head-requires-clause-room g c = c.scan_blocks.ensures.room

pub returns-in_err-pages-clause-reads : goal.returns-in_err-pages-clause-reads
returns-in_err-pages-clause-reads g c = more_reads (g.F.Flash.state c.args.flash.now) (g.F.Flash.state c.scan_blocks.new.flash) (g.F.Flash.state c.read_head.new.flash) c.args.ring.now.blocks c.args.ring.now.per_block c.scan_blocks.ensures.reads c.read_head.ensures.reads

pub returns-in_err-pages-clause-room : goal.returns-in_err-pages-clause-room
returns-in_err-pages-clause-room g c = c.read_head.ensures.room

pub returns-in_err-pages-clause-marks : goal.returns-in_err-pages-clause-marks
returns-in_err-pages-clause-marks g c =
    let p = err_from_is_err_and c.from_residual-in_err-pages.result c.from_residual-in_err-pages.ensures.1 in
    rw p.1 tt

pub returns-in_err-pages-clause-within : goal.returns-in_err-pages-clause-within
returns-in_err-pages-clause-within g c =
    let p = err_from_is_err_and c.from_residual-in_err-pages.result c.from_residual-in_err-pages.ensures.1 in
    rw p.1 tt

pub returns-in_err-pages-clause-broken : goal.returns-in_err-pages-clause-broken
returns-in_err-pages-clause-broken g c =
    let p = err_from_is_err_and c.from_residual-in_err-pages.result c.from_residual-in_err-pages.ensures.1 in
    rw (p.1, p.2) tt

pub returns-in_err-pages-clause-fails : goal.returns-in_err-pages-clause-fails
returns-in_err-pages-clause-fails g c =
    let p = err_from_is_err_and c.from_residual-in_err-pages.result c.from_residual-in_err-pages.ensures.1 in
    rw (p.1, p.2) (fails_later (g.F.Flash.state c.args.flash.now) (g.F.Flash.state c.scan_blocks.new.flash) (g.F.Flash.state c.read_head.new.flash) c.in_err-pages.field-0.0 (looks_by (g.F.Flash.state c.args.flash.now) (g.F.Flash.state c.scan_blocks.new.flash) c.args.ring.now.blocks c.scan_blocks.ensures.reads) c.in_err-pages.ensures.fails)

pub returns-clause-reads : goal.returns-clause-reads
returns-clause-reads g c = more_reads (g.F.Flash.state c.args.flash.now) (g.F.Flash.state c.scan_blocks.new.flash) (g.F.Flash.state c.read_head.new.flash) c.args.ring.now.blocks c.args.ring.now.per_block c.scan_blocks.ensures.reads c.read_head.ensures.reads

pub returns-clause-room : goal.returns-clause-room
returns-clause-room g c = c.read_head.ensures.room

pub heads-requires : goal.heads-requires
heads-requires g c = ends_small c.in_ok-scan.scan.ends c.args.ring.now.first_block c.args.ring.now.blocks c.args.ring.now.per_block c.in_ok-scan.ensures.ends c.args.ring.now.served.blocks c.args.ring.now.served.per_block c.args.ring.now.reach

pub returns-in_err-scan-clause-off : goal.returns-in_err-scan-clause-off
returns-in_err-scan-clause-off g c =
    let p = err_from_is_err_and c.from_residual.result c.from_residual.ensures.1 in
    rw (p.1, p.2) (λ off. let both = c.in_err-scan.ensures.off off in (same_flash both.0, both.1))

pub returns-then-heads-ne1-clause-marks : goal.returns-then-heads-ne1-clause-marks
returns-then-heads-ne1-clause-marks g c = tt

pub returns-then-heads-ne1-clause-within : goal.returns-then-heads-ne1-clause-within
returns-then-heads-ne1-clause-within g c = tt

pub returns-then-heads-ne1-clause-broken : goal.returns-then-heads-ne1-clause-broken
returns-then-heads-ne1-clause-broken g c =
    let ring = c.args.ring.now in
    rw c.broken.ensures (λ told. (
      λ one. c.if-heads-ne1.true (c.heads.ensures (counts_full (shape_of ring) (page_at (g.F.Flash.state c.args.flash.now))) ring.blocks (blocks-some ring.served.blocks) (c.in_ok-scan.ensures.scanned told) ∙ one),
      ap (λ (p : ℕ). breach Head p) c.first_page.ensures,
    ))

pub returns-then-heads-ne1-clause-fails : goal.returns-then-heads-ne1-clause-fails
returns-then-heads-ne1-clause-fails g c = rw c.broken.ensures tt

pub returns-then-heads-ne1-clause-off : goal.returns-then-heads-ne1-clause-off
returns-then-heads-ne1-clause-off g c = λ off. absurd (no_fault (c.in_ok-scan.ensures.off off).0)

pub read_head-requires-clause-head : goal.read_head-requires-clause-head
read_head-requires-clause-head g c = subst (λ (k : ℕ). k < c.args.ring.now.blocks) (sym c.head-head.ensures) c.in_ok-scan.ensures.head

pub returns-in_err-pages-clause-off : goal.returns-in_err-pages-clause-off
returns-in_err-pages-clause-off g c = λ off. absurd (no_fault (c.in_ok-scan.ensures.off off).0)

pub kept_pages-kept-requires-clause-fulls : goal.kept_pages-kept-requires-clause-fulls
kept_pages-kept-requires-clause-fulls g c = subst (λ (k : ℕ). k ≤ c.args.ring.now.blocks) (sym c.fulls.ensures) c.in_ok-scan.ensures.fulls

pub kept_pages-kept-requires-clause-sealed : goal.kept_pages-kept-requires-clause-sealed
kept_pages-kept-requires-clause-sealed g c = c.in_ok-pages.ensures.sealed

pub returns-clause-broken : goal.returns-clause-broken
returns-clause-broken g c = tt

pub returns-clause-fails : goal.returns-clause-fails
returns-clause-fails g c = tt

pub returns-clause-off : goal.returns-clause-off
returns-clause-off g c = λ off. absurd (no_fault (c.in_ok-scan.ensures.off off).0)

pub overflow_mul-result : goal.overflow_mul-result
overflow_mul-result g c =
    let small =
    subst (λ (pages : ℕ). c.head-head.result * pages + c.in_ok-pages.pages.front.sealed < 2 ^ 32) (sym c.per_block.ensures.pages)
    (place_small c.head-head.result c.args.ring.now.first_block c.args.ring.now.blocks c.in_ok-pages.pages.front.sealed c.args.ring.now.per_block (subst (λ (k : ℕ). k < c.args.ring.now.blocks) (sym c.head-head.ensures) c.in_ok-scan.ensures.head) c.in_ok-pages.ensures.sealed c.args.ring.now.reach) in
    record { fits = first-small c.in_ok-pages.pages.front.sealed small }

pub overflow_add-result : goal.overflow_add-result
overflow_add-result g c =
    record {
      fits =
          subst (λ (pages : ℕ). c.head-head.result * pages + c.in_ok-pages.pages.front.sealed < 2 ^ 32) (sym c.per_block.ensures.pages)
          (place_small c.head-head.result c.args.ring.now.first_block c.args.ring.now.blocks c.in_ok-pages.pages.front.sealed c.args.ring.now.per_block (subst (λ (k : ℕ). k < c.args.ring.now.blocks) (sym c.head-head.ensures) c.in_ok-scan.ensures.head) c.in_ok-pages.ensures.sealed c.args.ring.now.reach);
    }

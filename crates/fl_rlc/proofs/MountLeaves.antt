-- What the mount of a table, and the replay of its log, leave of the pages of a flash.
use Rattle.std.proofs.Common.{◌≡◌, ◌⊎◌, ℕ, ◌+◌, ◌*◌, ◌%◌, ◌<◌, ◌≤◌, Bool, true, IsTrue, IsSomeAnd, IfSome, Option, Some, None, List, inl, inr, map, length, refl, sym, ◌∙◌, ap, subst, arith}
use Rattle.std.proofs.Math.Nat.{mod-lt, mul-le-mul_right, add-mul}
use Rattle.std.proofs.lemmas.Bool.{cases_lt, false≢true}
use Rattle.std.proofs.lemmas.Option.{same_Some}
use Rattle.fl_flash.specs.Flash.{FlashState, page_at, blank}
use Rattle.fl_flash.specs.Places.{extent}
use Rattle.fl_index.specs.declared.index.BitmapIndex.{BitmapIndex}
use Rattle.fl_index.proofs.SealEnds as index
use Rattle.fl_model.specs.Bare.{bare, bare_table}
use Rattle.fl_model.specs.Facts.{IsTable, is_some_ring}
use Rattle.fl_model.specs.Image.{IsRingImage, HoldsRows, HoldsEntries}
use Rattle.fl_model.specs.Layout.{is_blank}
use Rattle.fl_model.specs.Mount.{Of, rings_of}
use Rattle.fl_model.specs.Record.{Plan, blocks_of, has_index, has_log}
use Rattle.fl_model.specs.Ring.{Ring, IsRing, IsShape}
use Rattle.fl_model.specs.Table.{Table, RingName, DataRing, IndexRing, shape_of}
use Rattle.fl_model.specs.Within.{TableMounts, TableMounted}
use Rattle.fl_model.specs.Work.{Device, PartProgress}
use Rattle.fl_model.proofs.SomeRing.{some-ring}
use Rattle.fl_ring.specs.Head.{one}
use Rattle.fl_parts.specs.Bitmaps.{ArePlanned}
use Rattle.fl_table.specs.Memory.{IsPlanned}
use Rattle.fl_table.specs.Mounting.{FindsPages}
use Rattle.fl_parts.specs.Pages.{HoldsTable, place_in, bytes_in}
use Rattle.fl_table.specs.declared.counts.Mounted.{Mounted}
use Rattle.fl_table.specs.declared.table.Table as code
use Rattle.fl_parts.proofs.Apart.{some-pages}
use Rattle.fl_parts.proofs.IndexOfTable.{planned-none}
use Rattle.fl_table.proofs.SealAnswers.{planned-shape}
use Rattle.fl_parts.proofs.States.{blank-bytes}
use Rattle.fl_rlc.specs.Left.{IsRepaired, IsReplayed, LeavesPages, ReplayLeaves, IsNextPage}
use Rattle.fl_rlc.proofs.NextAfter.{data-next, index-next}
use Rattle.fl_rlc.proofs.RingFilled.{next-blank}
use Rattle.fl_rlc.proofs.SealedPages.{in-blocks}
use Rattle.fl_rlc.proofs.TableRepairs.{RepairsBlocks, table-found}

module _ {K S : ℕ} (t : code.Table K S) (f between : FlashState) (first : ℕ) (plan : Plan) (planned : IsPlanned t first (bare plan)) (told : IsTrue f.media.tells) (geometry : f.geometry ≡ plan.geometry) (found : Mounted) (seen : code.Table K S)
    (finds : FindsPages t f found seen between) where
  repairs : RepairsBlocks (bare plan) first (blocks_of (bare plan)) f between
  repairs = table-found t seen first (bare plan) f between found planned told geometry finds

  -- it has no log
  pub bare-leaves : plan.log_blocks ≡ 0 → LeavesPages first plan (page_at f) (page_at between)
  bare-leaves none =
      let r = repairs.1 in
      record {
        each = λ page. inl (r.each page);
        before = r.before;
        behind = λ page le. r.behind page (omega (arith, le, ap (λ (b : ℕ). (first + b) * plan.geometry.block) (let k : blocks_of plan ≡ blocks_of (bare plan) = omega (arith, none) in k)));
      }

  -- its log was replayed behind it
  module _ (g : FlashState) (table : Table) (rose : Bool) (device : Device) (now : PartProgress Table) (did : TableMounts (bare plan) rose (map (λ (ring : RingName). Of ring) (rings_of (bare plan))) device (bare_table table) (TableMounted now))
      (facts : IsTable plan table) (pages : HoldsTable (page_at f) first plan table) (after : Table) (rows_same : after.rows ≡ now.state.rows) (index_same : after.index ≡ now.state.index) (has_index_now : is_some_ring now.state.index ≡ has_index plan)
      (leaves : ReplayLeaves first plan after (page_at between) (page_at g)) (logged : has_log plan ≡ true) (reaches : f.start + extent f.geometry f.blocks ≤ length f.media.content) (within : first + blocks_of (bare plan) ≤ f.blocks) where
    shape : IsShape (shape_of plan DataRing)
    shape = planned-shape t first (bare plan) planned

    -- the page that is next in a ring was blank before
    replayed : (ring at blocks : ℕ) (page : ℕ) → first ≤ at → at + blocks ≤ first + plan.data_blocks + plan.index_blocks → 0 < blocks → page ≡ at * plan.geometry.block + ring % (blocks * plan.geometry.block) → is_blank (page_at f page) ≡ true → IsReplayed first plan page (page_at f page)
    replayed ring at blocks page from upto some is empty =
        let small : ring % (blocks * plan.geometry.block) < blocks * plan.geometry.block = mod-lt ring (some-pages blocks plan.geometry.block some shape.pages) in
        let low : first * plan.geometry.block ≤ at * plan.geometry.block = mul-le-mul_right plan.geometry.block from in
        let high : (at + blocks) * plan.geometry.block ≤ (first + plan.data_blocks + plan.index_blocks) * plan.geometry.block = mul-le-mul_right plan.geometry.block upto in
        let lt : page < at * plan.geometry.block + blocks * plan.geometry.block = omega (arith, is, small) in
        record {
          logged = logged;
          from = omega (arith, is, low);
          below = omega (arith, lt, high, add-mul at blocks plan.geometry.block);
          blank = blank-bytes (page_at f page) plan.geometry.page (in-blocks f plan at blocks page reaches geometry (omega (arith, upto, within)) lt) empty;
        }

    data-replayed : (page : ℕ) → page ≡ place_in first plan DataRing after.rows.next → IsReplayed first plan page (page_at f page)
    data-replayed page is =
        let room = plan.data_blocks * plan.geometry.block in
        let some : 0 < plan.data_blocks = omega (arith, shape.blocks) in
        let next = data-next (bare plan) rose (bare_table table) now device (some-pages plan.data_blocks plan.geometry.block some shape.pages) did in
        let here : page ≡ first * plan.geometry.block + (table.rows.next + one table.rows.torn) % (plan.data_blocks * plan.geometry.block) =
        is ∙ ap (λ (r : Ring). first * plan.geometry.block + r.next % room) rows_same ∙ ap (λ (n : ℕ). first * plan.geometry.block + n) next in
        replayed (table.rows.next + one table.rows.torn) first plan.data_blocks page (omega arith) (omega arith) some here
        (subst (λ (p : ℕ). is_blank (page_at f p) ≡ true) (sym here) (next-blank (shape_of plan DataRing) table.rows (bytes_in (page_at f) first plan DataRing) (HoldsRows plan table) shape facts.rows pages.rows))

    index-replayed : (page : ℕ) (r : Ring) → after.index ≡ Some r → page ≡ place_in first plan IndexRing r.next → IsReplayed first plan page (page_at f page)
    index-replayed page r is at = by-index t.bitmaps planned.index (some-ring table.index (facts.has_rings.0 ∙ has))
      where
        has : has_index plan ≡ true
        has = sym has_index_now ∙ ap is_some_ring (sym index_same ∙ is)

        by-index : (o : Option BitmapIndex) → ArePlanned o (first + plan.data_blocks) (bare plan) → (x : Ring) × (table.index ≡ Some x) → IsReplayed first plan page (page_at f page)
        by-index None p x = absurd (false≢true (sym (planned-none (first + plan.data_blocks) (bare plan) p) ∙ has))
        by-index (Some i) p x =
            let room = plan.index_blocks * plan.geometry.block in
            let before = x.0 in
            let index_shape : IsShape (shape_of plan IndexRing) = index.planned-shape i (first + plan.data_blocks) (bare plan) p in
            let some : 0 < plan.index_blocks = omega (arith, index_shape.blocks) in
            let next = index-next (bare plan) rose (bare_table table) now device before (some-pages plan.index_blocks plan.geometry.block some shape.pages) has x.1 did in
            let same : r ≡ next.ring = same_Some _ _ (sym is ∙ (index_same ∙ next.is)) in
            let here : page ≡ (first + plan.data_blocks) * plan.geometry.block + (before.next + one before.torn) % (plan.index_blocks * plan.geometry.block) =
            at ∙ ap (λ (y : Ring). (first + plan.data_blocks) * plan.geometry.block + y.next % room) same ∙ ap (λ (n : ℕ). (first + plan.data_blocks) * plan.geometry.block + n) next.next in
            let facts_in : IsRing (shape_of plan IndexRing) before = subst (λ (o : Option Ring). IfSome o (IsRing (shape_of plan IndexRing))) x.1 facts.index in
            let image = subst (λ (o : Option Ring). IfSome o (λ ring. IsRingImage (shape_of plan IndexRing) ring (bytes_in (page_at f) first plan IndexRing) (HoldsEntries plan table ring))) x.1 pages.index in
            replayed (before.next + one before.torn) (first + plan.data_blocks) plan.index_blocks page (omega arith) (omega arith) some here
            (subst (λ (p : ℕ). is_blank (page_at f p) ≡ true) (sym here) (next-blank (shape_of plan IndexRing) before (bytes_in (page_at f) first plan IndexRing) (HoldsEntries plan table before) index_shape facts_in image))

    next-replayed : (page : ℕ) → IsNextPage first plan after page → IsReplayed first plan page (page_at f page)
    next-replayed page (inl is) = data-replayed page is
    next-replayed page (inr is) = by-ring after.index refl is
      where
        by-ring : (o : Option Ring) → after.index ≡ o → IsSomeAnd o (λ ring. page ≡ place_in first plan IndexRing ring.next) → IsReplayed first plan page (page_at f page)
        by-ring (Some r) e at = index-replayed page r e at
        by-ring None e at = absurd at

    pub mount-leaves : LeavesPages first plan (page_at f) (page_at g)
    mount-leaves =
        let r = repairs.1 in
        let all : (first + blocks_of (bare plan)) * plan.geometry.block ≤ (first + blocks_of plan) * plan.geometry.block = mul-le-mul_right plan.geometry.block (omega arith) in
        let low : first * plan.geometry.block ≤ (first + blocks_of (bare plan)) * plan.geometry.block = mul-le-mul_right plan.geometry.block (omega arith) in
        record {
          each = λ page. by-place page (cases_lt page ((first + blocks_of (bare plan)) * plan.geometry.block));
          before = λ page lt. leaves.before page lt ∙ r.before page lt;
          behind = λ page le. leaves.behind page le ∙ r.behind page (omega (arith, le, all));
        }
      where
        by-left : (page : ℕ) → (page_at g page ≡ page_at between page) ⊎ ((page_at g page ≡ blank plan.geometry.page) ⊎ IsNextPage first plan after page) → IsRepaired plan.geometry.page (page_at f page) (page_at g page) ⊎ IsReplayed first plan page (page_at f page)
        by-left page (inl same) = inl (subst (λ (bytes : List ℕ). IsRepaired plan.geometry.page (page_at f page) bytes) (sym same) (repairs.1.each page))
        by-left page (inr (inl empty)) = inl (inr (inr empty))
        by-left page (inr (inr next)) = inr (next-replayed page next)

        by-place : (page : ℕ) → (page < (first + blocks_of (bare plan)) * plan.geometry.block) ⊎ ((first + blocks_of (bare plan)) * plan.geometry.block ≤ page) → IsRepaired plan.geometry.page (page_at f page) (page_at g page) ⊎ IsReplayed first plan page (page_at f page)
        by-place page (inl lt) = by-left page (leaves.rings page lt)
        by-place page (inr le) = inl (subst (λ (bytes : List ℕ). IsRepaired plan.geometry.page bytes (page_at g page)) (repairs.1.behind page le) (leaves.log page le))

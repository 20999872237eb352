-- What an operation of the flash does beside the ring's pages.
use Rattle.std.proofs.Common.{◌≡◌, ℕ, ◌+◌, ◌*◌, ◌/◌, ◌%◌, ◌≤◌, ◌<◌, Bool, true, false, if◌then◌else◌, List, length, replicate, slice_range, IsTrue, Result, Ok, Err, OnOk, OnErr, inl, inr, sym, ◌∙◌, ap, arith}
use Rattle.std.proofs.Math.Nat.{mod-lt, mul-le-mul_right}
use Rattle.std.proofs.lemmas.Bool.{cases_Bool}
use Rattle.std.proofs.lemmas.Result.{on_ok_weaker, on_err_weaker}
use Rattle.fl_flash.specs.Flash.{FlashState, begin_of, page_at, and_bytes, OthersStand, Programmed, TornProgram, Erased, TornErase, ProgramsPage, ErasesBlock}
use Rattle.fl_flash.specs.Media.{next_count}
use Rattle.fl_flash.specs.declared.flash.FlashFault.{FlashFault}
use Rattle.fl_flash.specs.declared.flash.Work.{Work}
use Rattle.fl_model.specs.Work.{Kind, Device, is_erase}
use Rattle.fl_ring.specs.declared.ring.Ring.{Ring}
use Rattle.fl_ring.specs.Place.{shape_of}
use Rattle.fl_ring.specs.Repairing.{ahead_first}
use Rattle.fl_ring.specs.Ring.{RingState, room, place, OnRing, OutsideStands}
use Rattle.fl_ring.specs.Step.{media_reads_of, Operates, StepEnds}
use Rattle.fl_frame.specs.Watched.{IsWatched}
use Rattle.fl_ring.proofs.BlockAheadIsClean.{ahead_is}
use Rattle.fl_ring.proofs.Devices.{Counts}
use Rattle.fl_ring.proofs.Facts.{two_blocks, sizes}
use Rattle.fl_ring.proofs.Modulo.{more}
use Rattle.fl_ring.proofs.StepEnds.{OneOf, Exact, step_ends}

-- a fact of either outcome
both_ways : {T E P : Type 0} (result : Result T E) → OnOk result P → OnErr result P → P
both_ways (Ok u) ok err = ok
both_ways (Err e) ok err = err

module _ (ring : Ring) (f g : FlashState) (result : Result (Unit {0}) FlashFault) where
  room_some : 0 < room (shape_of ring)
  room_some = omega (arith, ring.served.per_block, sizes (shape_of ring) ring.served, two_blocks (shape_of ring) ring.served)

  module _ (kind : Kind) (plain : is_erase kind ≡ false) (p from n : ℕ) (bytes : List ℕ) (at : p ≡ place (shape_of ring) n) (did : ProgramsPage f p from bytes result g) where
    pub others_by : IsTrue f.media.tells → OthersStand (page_at f) p (page_at g)
    others_by told = both_ways result
        (on_ok_weaker result (λ (x : Programmed (page_at f) p from bytes (page_at g)). x.others) (did.ok told))
        (on_err_weaker result (λ (x : TornProgram (page_at f) p from (length bytes) (page_at g)). x.others) (did.err told))

    counts_by : f.is_on ≡ true → Counts kind f g
    counts_by on = record {
      programs = ap (λ (w : Work). w.programs) (did.counted on) ∙ ap (λ (b : Bool). if b then f.work.programs else next_count f.work.programs) (sym plain);
      erases = ap (λ (w : Work). w.erases) (did.counted on) ∙ ap (λ (b : Bool). if b then next_count f.work.erases else f.work.erases) (sym plain);
    }

    pub operates_program : g.media.reads ≤ f.media.reads + media_reads_of kind → Operates (shape_of ring) kind f result g
    operates_program few = record {
      goes = did.goes;
      outside = λ told q out. others_by told q (λ same.
          let small = mod-lt n room_some in
          elim out [ inl low ↦ omega (arith, low, same, at) | inr high ↦ omega (arith, high, same, at, small) ]);
      cause = did.cause;
      off = did.off;
      reads = elim (cases_Bool f.is_on) [ inl on ↦ ap (λ (w : Work). w.reads) (did.counted on) | inr off ↦ ap (λ (x : FlashState). x.work.reads) (did.off off).1 ];
      media_reads = few;
      programs = λ on. (counts_by on).programs;
      erases = λ on. (counts_by on).erases;
    }

    pub step_program : (before after : RingState) (rose : Bool) (device : Device) → IsWatched f g rose device
        → (Programmed (page_at f) p from bytes (page_at g) → OnRing (shape_of ring) (page_at g) after) → (TornProgram (page_at f) p from (length bytes) (page_at g) → OneOf (shape_of ring) before after g)
        → Exact (shape_of ring) kind before after f g (begin_of f p + from) (and_bytes (slice_range f.media.content (begin_of f p + from) (begin_of f p + from + length bytes)) bytes)
        → StepEnds (shape_of ring) kind before after rose device result g
    step_program before after rose device watched ok any exact =
        step_ends (shape_of ring) kind before after rose device f g watched (begin_of f p + from) (and_bytes (slice_range f.media.content (begin_of f p + from) (begin_of f p + from + length bytes)) bytes) (counts_by watched.on)
        result (did.cut watched.on) did.cause (on_ok_weaker result ok (did.ok watched.told)) (on_err_weaker result any (did.err watched.told)) exact

  module _ (kind : Kind) (erases : is_erase kind ≡ true) (b : ℕ) (block : f.geometry.block ≡ ring.per_block) (at : b ≡ ring.first_block + (ring.next / ring.per_block + 1) % ring.blocks) (did : ErasesBlock f b result g) where
    erase_counts : f.is_on ≡ true → Counts kind f g
    erase_counts on = record {
      programs = ap (λ (w : Work). w.programs) (did.counted on) ∙ ap (λ (x : Bool). if x then f.work.programs else next_count f.work.programs) (sym erases);
      erases = ap (λ (w : Work). w.erases) (did.counted on) ∙ ap (λ (x : Bool). if x then next_count f.work.erases else f.work.erases) (sym erases);
    }

    first_page : b * f.geometry.block ≡ ahead_first (shape_of ring) ring.next
    first_page = ap (λ (k : ℕ). b * k) block ∙ ahead_is ring b at

    last_page : ahead_first (shape_of ring) ring.next + ring.per_block ≤ (shape_of ring).first + room (shape_of ring)
    last_page =
        let x = (ring.next / ring.per_block + 1) % ring.blocks in
        let lt : x < ring.blocks = mod-lt (ring.next / ring.per_block + 1) (omega (arith, ring.served.blocks)) in
        let up : (x + 1) * ring.per_block ≤ ring.blocks * ring.per_block = mul-le-mul_right ring.per_block (omega (arith, lt)) in
        omega (arith, up, more x ring.per_block)

    outside_by : (below : (q : ℕ) → q < b * f.geometry.block → page_at g q ≡ page_at f q) → ((q : ℕ) → b * f.geometry.block + f.geometry.block ≤ q → page_at g q ≡ page_at f q) → OutsideStands (shape_of ring) (page_at f) (page_at g)
    outside_by below above q (inl low) = below q (omega (arith, low, first_page))
    outside_by below above q (inr high) = above q (omega (arith, high, first_page, last_page, block))

    pub operates_erase : Operates (shape_of ring) kind f result g
    operates_erase = record {
      goes = did.goes;
      outside = λ told. both_ways result
          (on_ok_weaker result (λ (x : Erased (page_at f) (b * f.geometry.block) f.geometry.block f.geometry.page (page_at g)). outside_by x.below x.above) (did.ok told))
          (on_err_weaker result (λ (x : TornErase (page_at f) (b * f.geometry.block) f.geometry.block (page_at g)). outside_by x.below x.above) (did.err told));
      cause = did.cause;
      off = did.off;
      reads = elim (cases_Bool f.is_on) [ inl on ↦ ap (λ (w : Work). w.reads) (did.counted on) | inr off ↦ ap (λ (x : FlashState). x.work.reads) (did.off off).1 ];
      media_reads = omega (arith, did.no_reads);
      programs = λ on. (erase_counts on).programs;
      erases = λ on. (erase_counts on).erases;
    }

    pub step_erase : (before after : RingState) (rose : Bool) (device : Device) → IsWatched f g rose device
        → (Erased (page_at f) (b * f.geometry.block) f.geometry.block f.geometry.page (page_at g) → OnRing (shape_of ring) (page_at g) after)
        → (TornErase (page_at f) (b * f.geometry.block) f.geometry.block (page_at g) → OneOf (shape_of ring) before after g)
        → Exact (shape_of ring) kind before after f g (f.start + b * (f.geometry.block * f.geometry.page)) (replicate (f.geometry.block * f.geometry.page) 255)
        → StepEnds (shape_of ring) kind before after rose device result g
    step_erase before after rose device watched ok any exact =
        step_ends (shape_of ring) kind before after rose device f g watched (f.start + b * (f.geometry.block * f.geometry.page)) (replicate (f.geometry.block * f.geometry.page) 255) (erase_counts watched.on)
        result (did.cut watched.on) did.cause (on_ok_weaker result ok (did.ok watched.told)) (on_err_weaker result any (did.err watched.told)) exact

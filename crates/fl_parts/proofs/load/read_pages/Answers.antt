use Rattle.std.proofs.Common.{rules, ◌≡◌, ◌+◌, ◌-◌, ◌<◌, ◌≤◌, ℕ, arith, sym, ◌∙◌, ap, subst, refl}
use Rattle.std.proofs.Math.Nat.{le_refl}
use Rattle.std.proofs.lemmas.Result.{err_from_is_err_and}
use Rattle.fl_flash.specs.Flash.{page_at}
use Rattle.fl_ring.specs.Place.{next_of, oldest_of}
use Rattle.fl_schema.specs.Schema.{layout_of}
use Rattle.fl_parts.specs.KeptSteps.{HasCome, LeavesNoted}
use Rattle.fl_parts.specs.Knowing.{IsUnlisted, KnowsWith}
use Rattle.fl_parts.specs.Reading.{pages_of, GatherUpTo, bitmap_on, full_on, AreGathered}
use Rattle.fl_parts.proofs.FullEntries.{full-read}
use Rattle.fl_parts.proofs.IndexOfTable.{plan-same, plan-then, ring-same, ring-then}
use Rattle.fl_parts.proofs.KeptParts.{come-one, few-come, fails-then, keeps-none, keeps-then, may-still, reads-then, some-places}
use Rattle.fl_parts.proofs.NotedEntries.{gathers-none, gather-first, gather-room, gathers-more, gather-more}
use Rattle.fl_parts.proofs.PagesSeen.{all-seen, none-listed, one-more, unlisted-next}
use Rattle.fl_ring.proofs.Exists.{page_exists}
use Rattle.fl_frame.proofs.ReadsInTurn.{told_still, same_page, none_read}
use Rattle.fl_parts.proofs.Untouched.{no-success}
use Rattle.fl_parts.proofs.load.read_pages.Goals as goal

-- behind the last page there is the next number
at-end : (number from next to : ℕ) → to ≡ next → from ≤ next → to ≤ number → (from ≤ to → number ≤ to) → number ≡ next
at-end number from next to is before past most = let le : from ≤ to = omega (arith, is, before) in omega (arith, is, past, most le)

one-step : (number from : ℕ) → from ≤ number → number - from + 1 ≤ number + 1 - from
one-step number from le = omega (arith, le)

one-page-more : (number from next : ℕ) → from ≤ number → number < next → number - from + 1 ≤ next - from
one-page-more number from next low high = omega (arith, low, high)

one-on : (from number : ℕ) → from ≤ number → from ≤ number + 1
one-on from number le = omega (arith, le)

no-more : (a b c : ℕ) → a ≤ b → b ≤ c → a ≤ c
no-more a b c x y = omega (arith, x, y)

pub loop-number-init : goal.loop-number-init
loop-number-init g c =
    let old = g.F.Flash.state c.args.flash.now in
    let ring = c.args.ring.now in
    let layout = layout_of c.args.schema.now in
    record {
      from = le_refl c.args.from;
      come = c.requires.come;
      newest = le_refl _;
      leaves = record { same = plan-same c.args.bitmaps.now; still = ring-same c.args.bitmaps.now; reads = none_read old _ };
      keeps = keeps-none c.args.counts.now c.args.index.now c.args.buf.now c.requires.may.none;
      gathered = gathers-none c.args.bitmaps.now c.args.from (next_of ring) c.args.from refl c.requires.bitmaps;
      waits = λ told. gather-first layout c.args.bitmaps.now c.args.from (next_of ring) c.args.from (pages_of ring old) refl c.requires.bitmaps;
      knows = λ told few error t is end h. h;
    }

pub read_page-requires : goal.read_page-requires
read_page-requires g c =
    let inv = c.loop-number.invariant in
    let old = g.F.Flash.state c.args.flash.now in
    let flash = g.F.Flash.state c.loop-number.flash in
    let may = may-still c.requires.may inv.leaves.reads inv.keeps in
    let high = subst (λ n. c.loop-number.number < n) c.next_number-number-end.ensures c.loop-number-test.true in
    let small = subst (λ n. n < 4294967296) c.next_number-number-end.ensures c.next_number-number-end.type_inv in
    (search (rules, arith), (may.row, (page_exists c.args.ring.now old flash _ c.place_of-at.result c.requires.may.lies inv.leaves.reads c.place_of-at.ensures.within, (may.room, (some-places may, few-come inv.come high small)))))

pub loop-number-preserved : goal.loop-number-preserved
loop-number-preserved g c =
    let old = g.F.Flash.state c.args.flash.now in
    let flash = g.F.Flash.state c.loop-number.flash in
    let ring = c.args.ring.now in
    let layout = layout_of c.args.schema.now in
    let number = c.loop-number.number in
    let from = c.args.from in
    let inv = c.loop-number.invariant in
    let saw = c.in_ok-page.ensures in
    let page = c.in_ok-page.page in
    let high = subst (λ n. number < n) c.next_number-number-end.ensures c.loop-number-test.true in
    let same : page_at flash c.place_of-at.result ≡ pages_of ring old number = same_page old flash (number - from) c.place_of-at.result inv.leaves.reads ∙ ap (page_at old) c.place_of-at.ensures.place in
    record {
      from = one-on _ _ inv.from;
      come = come-one ring number c.loop-number.known c.read_page.new.known inv.come high (saw.counted.within (oldest_of ring) (number - oldest_of ring) inv.come.within);
      newest = no-more _ _ _ saw.counted.waits inv.newest;
      leaves = record {
        same = plan-then c.args.bitmaps.now c.loop-number.bitmaps c.note_entry.new.bitmaps inv.leaves.same c.note_entry.ensures.same;
        still = ring-then c.args.bitmaps.now c.loop-number.bitmaps c.note_entry.new.bitmaps inv.leaves.still c.note_entry.ensures.still;
        reads = reads-then _ (one-step _ _ inv.from) inv.leaves.reads saw.reads;
      };
      keeps = keeps-then inv.keeps saw.keeps;
      gathered = gathers-more c.args.bitmaps.now c.loop-number.bitmaps c.note_entry.new.bitmaps from (next_of ring) number page.bitmap c.full.result c.requires.bitmaps inv.gathered c.note_entry.ensures.noted;
      waits = λ told.
          let bytes = saw.bytes (told_still old flash (number - from) inv.leaves.reads told) ∙ same in
          gather-more layout c.args.bitmaps.now c.loop-number.bitmaps c.note_entry.new.bitmaps from (next_of ring) number page.bitmap c.full.result (pages_of ring old) c.requires.bitmaps inv.gathered c.note_entry.ensures.noted
          (saw.page.bitmap ∙ ap bitmap_on bytes) (c.full.ensures ∙ (full-read layout c.read_page.new.buf.bytes page.first page.rows page.blob_end saw.page.first saw.page.rows saw.page.blob_end ∙ ap (full_on layout) bytes)) (inv.waits told);
      knows = λ told few error t is end h.
          let next = unlisted-next t number layout ring old c.args.counts.now c.loop-number.counts is inv.come.low high few inv.keeps.size in
          let un : IsUnlisted t layout number (page_at flash c.place_of-at.result) = record { layout_is = is.layout_is; bytes_are = is.rows number ∙ sym same; none = none-listed t from number end inv.from next } in
          one-more error t t.index_pages number c.read_page.new.known c.read_page.new.counts c.read_page.new.index next.at (saw.knows (told_still old flash (number - from) inv.leaves.reads told) error t t.index_pages (number - t.oldest) (inv.knows told few error t is end h) next un).0;
    }

pub note_entry-requires-clause-room : goal.note_entry-requires-clause-room
note_entry-requires-clause-room g c = λ end.
    gather-room c.args.bitmaps.now c.loop-number.bitmaps c.args.from (next_of c.args.ring.now) c.loop-number.number c.requires.bitmaps
    (subst (λ n. c.loop-number.number < n) c.next_number-number-end.ensures c.loop-number-test.true) c.loop-number.invariant.leaves.same c.loop-number.invariant.gathered end

pub returns-in_err-page-clause-knows : goal.returns-in_err-page-clause-knows
returns-in_err-page-clause-knows g c = λ told few error t is end h.
    let p = err_from_is_err_and c.from_residual.result c.from_residual.ensures.1 in
    let old = g.F.Flash.state c.args.flash.now in
    let flash = g.F.Flash.state c.loop-number.flash in
    let ring = c.args.ring.now in
    let layout = layout_of c.args.schema.now in
    let number = c.loop-number.number in
    let from = c.args.from in
    let inv = c.loop-number.invariant in
    let high = subst (λ n. number < n) c.next_number-number-end.ensures c.loop-number-test.true in
    let same : page_at flash c.place_of-at.result ≡ pages_of ring old number = same_page old flash (number - from) c.place_of-at.result inv.leaves.reads ∙ ap (page_at old) c.place_of-at.ensures.place in
    let next = unlisted-next t number layout ring old c.args.counts.now c.loop-number.counts is inv.come.low high few inv.keeps.size in
    let un : IsUnlisted t layout number (page_at flash c.place_of-at.result) = record { layout_is = is.layout_is; bytes_are = is.rows number ∙ sym same; none = none-listed t from number end inv.from next } in
    rw (p.1, p.2) (tt, (c.in_err-page.ensures.knows (told_still old flash (number - from) inv.leaves.reads told) error t t.index_pages (number - t.oldest) (inv.knows told few error t is end h) next un).1)

pub returns-in_err-page-clause-noted : goal.returns-in_err-page-clause-noted
returns-in_err-page-clause-noted g c = no-success _ _ c.from_residual.result c.from_residual.ensures.1

pub returns-in_err-page-clause-leaves : goal.returns-in_err-page-clause-leaves
returns-in_err-page-clause-leaves g c =
    let inv = c.loop-number.invariant in
    let high = subst (λ n. c.loop-number.number < n) c.next_number-number-end.ensures c.loop-number-test.true in
    record { same = inv.leaves.same; still = inv.leaves.still; reads = reads-then _ (one-page-more _ _ _ inv.from high) inv.leaves.reads c.in_err-page.ensures.reads }

pub returns-in_err-page-clause-keeps : goal.returns-in_err-page-clause-keeps
returns-in_err-page-clause-keeps g c = keeps-then c.loop-number.invariant.keeps c.in_err-page.ensures.keeps

pub returns-in_err-page-clause-fails : goal.returns-in_err-page-clause-fails
returns-in_err-page-clause-fails g c =
    let p = err_from_is_err_and c.from_residual.result c.from_residual.ensures.1 in
    rw (p.1, p.2) (fails-then c.loop-number.invariant.leaves.reads c.in_err-page.ensures.fails)

pub returns-clause-knows : goal.returns-clause-knows
returns-clause-knows g c = λ told few error t is end h.
    let last = at-end _ _ _ _ c.next_number-number-end.ensures c.requires.come.high c.loop-number-test.false c.loop-number.auto.number-end in
    (subst (λ n. KnowsWith error t t.index_pages n c.loop-number.known c.loop-number.counts c.loop-number.index) (all-seen t c.loop-number.number (layout_of c.args.schema.now) c.args.ring.now (g.F.Flash.state c.args.flash.now) is last) (c.loop-number.invariant.knows told few error t is end h), tt)

pub returns-clause-noted : goal.returns-clause-noted
returns-clause-noted g c =
    let inv = c.loop-number.invariant in
    let old = g.F.Flash.state c.args.flash.now in
    let ring = c.args.ring.now in
    let last = at-end _ _ _ _ c.next_number-number-end.ensures c.requires.come.high c.loop-number-test.false c.loop-number.auto.number-end in
    record {
      come = subst (λ n. HasCome ring n c.loop-number.known) last inv.come;
      newest = inv.newest;
      gathered = subst (λ n. AreGathered c.args.bitmaps.now n c.loop-number.bitmaps) last inv.gathered;
      waits = λ told. subst (λ n. GatherUpTo (layout_of c.args.schema.now) c.args.bitmaps.now (pages_of ring old) n c.loop-number.bitmaps) last (inv.waits told);
    }

pub returns-clause-leaves : goal.returns-clause-leaves
returns-clause-leaves g c =
    let last = at-end _ _ _ _ c.next_number-number-end.ensures c.requires.come.high c.loop-number-test.false c.loop-number.auto.number-end in
    subst (λ n. LeavesNoted c.args.bitmaps.now (g.F.Flash.state c.args.flash.now) (n - c.args.from) c.loop-number.bitmaps (g.F.Flash.state c.loop-number.flash)) last c.loop-number.invariant.leaves

pub returns-clause-keeps : goal.returns-clause-keeps
returns-clause-keeps g c = c.loop-number.invariant.keeps

pub returns-clause-fails : goal.returns-clause-fails
returns-clause-fails g c = tt

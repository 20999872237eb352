use Rattle.std.proofs.Common.{◌≡◌, ◌+◌, ◌-◌, ◌<◌, ℕ, List, Option, IfSome, length, take, drop, sym, ◌∙◌, ap, subst, arith, ◌≤◌, refl, not-le_of_lt, le_antisymm}
use Rattle.std.proofs.lemmas.Result.{err_from_is_err_and}
use Rattle.fl_page.specs.Header.{page_count}
use Rattle.fl_var.specs.Blobs.{IsWhole, contents_from, AreThere}
use Rattle.fl_var.specs.Content.{content_of, HasContent}
use Rattle.fl_var.specs.Memory.{next_in, room_in, image_in, var_shape, present}
use Rattle.fl_frame.proofs.ReadsInTurn.{same_page, told_still, none_read}
use Rattle.fl_ring.specs.Ring.{place}
use Rattle.fl_mark.specs.Mark.{state_of_page}
use Rattle.fl_var.proofs.PageImages.{image-other}
use Rattle.fl_var.proofs.Chunks.{contents-turned}
use Rattle.fl_var.proofs.Lists.{before-end}
use Rattle.fl_var.proofs.PagesBehind.{there-turned, bad-turned, bad-seen}
use Rattle.fl_var.proofs.Stored.{content-size}
use Rattle.fl_var.proofs.Wholes.{images-same, whole-good, whole-pages, whole-next, none-bad, pages-turned, whole-further}
use Rattle.std.proofs.Math.Nat.{le_refl, le-add_right}
use Rattle.fl_frame.proofs.ContentsInTurn.{OnlyReads-same}
use Rattle.fl_page.specs.Page.{bad_page}
use Rattle.fl_var.specs.Reading.{pages_left}
use Rattle.fl_var.proofs.PageLooks.{page-headed}
use Rattle.fl_var.proofs.Readers.{least, some-left, not-further, present-still, one-more-read, ends-behind, uncommitted-bad, later-bad}
use Rattle.fl_var.proofs.reader.BlobReader.turn.Goals as goal

pub returns-in_err-used-clause-whole : goal.returns-in_err-used-clause-whole
returns-in_err-used-clause-whole g c = λ reads whole.
    let r = c.args.self.now in
    let v = r.var.now in
    let f = g.F.Flash.state c.args.flash.now in
    let h = g.F.Flash.state c.find_content.new.flash in
    let done : page_count (image_in c.args.self.now.var.now (g.F.Flash.state c.args.flash.now) c.args.self.now.page) ≡ c.args.self.now.end =
    sym (reads.used (some-left r.left c.requires.left)) ∙ le_antisymm c.if-self.false r.before in
    let is = whole (some-left r.left c.requires.left) in
    let good = whole-good (image_in v f) (next_in v) (room_in v) r.page r.end r.left is done c.requires.left in
    let p = err_from_is_err_and c.from_residual.result c.from_residual.ensures.1 in (
      rw (p.1, p.2) (none-bad v f (r.page + 1) c.in_err-used.field-0.0 good.1 (c.in_err-used.ensures.bad reads.told)),
      λ some. subst (λ (image : ℕ → List ℕ). IsWhole image (next_in v) (room_in v) r.page r.end r.left) (sym (images-same v f h 1 c.find_content.ensures.reads)) is,
    )

pub returns-in_default-clause-whole : goal.returns-in_default-clause-whole
returns-in_default-clause-whole g c = λ reads whole.
    let r = c.args.self.now in
    let v = r.var.now in
    let f = g.F.Flash.state c.args.flash.now in
    let done : page_count (image_in c.args.self.now.var.now (g.F.Flash.state c.args.flash.now) c.args.self.now.page) ≡ c.args.self.now.end =
    sym (reads.used (some-left r.left c.requires.left)) ∙ le_antisymm c.if-self.false r.before in
    let is = whole (some-left r.left c.requires.left) in
    let good = whole-good (image_in v f) (next_in v) (room_in v) r.page r.end r.left is done c.requires.left in
    let other = c.in_ok-used.ensures.none reads.told c.in_default.is in
    absurd (other.1 (ap state_of_page (sym (image-other v f (r.page + 1) (λ e. omega (arith, e, other.0)))) ∙ good.1.committed))

pub returns-clause-bytes : goal.returns-clause-bytes
returns-clause-bytes g c = λ reads.
    let r = c.args.self.now in
    let v = r.var.now in
    let f = g.F.Flash.state c.args.flash.now in
    let h = g.F.Flash.state c.find_content.new.flash in
    let done : length (content_of (image_in c.args.self.now.var.now (g.F.Flash.state c.args.flash.now) c.args.self.now.page)) ≡ c.args.self.now.end =
    reads.size (some-left r.left c.requires.left) ∙ le_antisymm c.if-self.false r.before in
    ap (λ (image : ℕ → List ℕ). take r.left (drop 0 (contents_from image (r.page + 1) (next_in v + 1 - (r.page + 1))))) (images-same v f h 1 c.find_content.ensures.reads)
    ∙ contents-turned (image_in v f) (next_in v) r.page r.end r.left reads.within done

pub returns-clause-whole : goal.returns-clause-whole
returns-clause-whole g c = λ reads whole.
    let r = c.args.self.now in
    let v = r.var.now in
    let f = g.F.Flash.state c.args.flash.now in
    let h = g.F.Flash.state c.find_content.new.flash in
    let done : page_count (image_in c.args.self.now.var.now (g.F.Flash.state c.args.flash.now) c.args.self.now.page) ≡ c.args.self.now.end =
    sym (reads.used (some-left r.left c.requires.left)) ∙ le_antisymm c.if-self.false r.before in
    let is = whole (some-left r.left c.requires.left) in
    let wide : 0 < room_in c.args.self.now.var.now = omega (arith, v.served.page_least) in (
      tt,
      λ some. subst (λ (image : ℕ → List ℕ). IsWhole image (next_in v) (room_in v) (r.page + 1) 0 r.left) (sym (images-same v f h 1 c.find_content.ensures.reads))
          (whole-next (image_in v f) (next_in v) (room_in v) r.page r.end r.left is done c.requires.left wide),
    )

pub returns-clause-few : goal.returns-clause-few
returns-clause-few g c = λ reads whole.
    let r = c.args.self.now in
    let v = r.var.now in
    let f = g.F.Flash.state c.args.flash.now in
    let done : page_count (image_in c.args.self.now.var.now (g.F.Flash.state c.args.flash.now) c.args.self.now.page) ≡ c.args.self.now.end =
    sym (reads.used (some-left r.left c.requires.left)) ∙ le_antisymm c.if-self.false r.before in
    let is = whole (some-left r.left c.requires.left) in
    let wide : 0 < room_in c.args.self.now.var.now = omega (arith, v.served.page_least) in
    let pages = whole-pages (image_in v f) (next_in v) (room_in v) r.page r.end r.left is done c.requires.left wide in
    pages-turned r.left r.end (room_in v) _ _ c.requires.left pages c.find_content.ensures.reads.reads

pub returns-clause-most : goal.returns-clause-most
returns-clause-most g c = λ reads whole.
    let r = c.args.self.now in
    let v = r.var.now in
    let f = g.F.Flash.state c.args.flash.now in
    let done : page_count (image_in c.args.self.now.var.now (g.F.Flash.state c.args.flash.now) c.args.self.now.page) ≡ c.args.self.now.end =
    sym (reads.used (some-left r.left c.requires.left)) ∙ le_antisymm c.if-self.false r.before in
    let is = whole (some-left r.left c.requires.left) in
    let wide : 0 < room_in c.args.self.now.var.now = omega (arith, v.served.page_least) in
    let pages = whole-pages (image_in v f) (next_in v) (room_in v) r.page r.end r.left is done c.requires.left wide in
    let k = pages-turned r.left r.end (room_in v) _ _ c.requires.left pages c.find_content.ensures.reads.reads in
    omega (arith, k)

pub returns-clause-ready : goal.returns-clause-ready
returns-clause-ready g c = λ reads.
    let r = c.args.self.now in
    let v = r.var.now in
    let f = g.F.Flash.state c.args.flash.now in
    let h = g.F.Flash.state c.find_content.new.flash in
    let looks = c.find_content.ensures.reads in
    let images = images-same v f h 1 looks in
    let good = subst (λ (found : Option ℕ). IfSome found (λ n. HasContent (r.page + 1) (image_in v f (r.page + 1)) × (n ≡ page_count (image_in v f (r.page + 1))))) c.in-Some.is (c.in_ok-used.ensures.good reads.told) in
    record {
      told = told_still f h 1 looks reads.told;
      within = before-end r.page (next_in v) reads.within (λ end. c.if-self-next_number.false (end ∙ sym c.next_number.ensures));
      used = λ left. good.1 ∙ ap (λ (image : ℕ → List ℕ). page_count (image (r.page + 1))) (sym images);
      size = λ left. ap (λ (image : ℕ → List ℕ). length (content_of (image (r.page + 1)))) images ∙ (content-size (image_in v f (r.page + 1)) good.0.room ∙ sym good.1);
      bytes = λ some lt. c.in_ok-used.ensures.holds reads.told lt ∙ sym (same_page f h 1 (place (var_shape v) (r.page + 1)) looks);
    }

pub returns-clause-sound : goal.returns-clause-sound
returns-clause-sound g c = λ reads there some.
    let r = c.args.self.now in
    let v = r.var.now in
    let f = g.F.Flash.state c.args.flash.now in
    let h = g.F.Flash.state c.find_content.new.flash in
    let images = images-same v f h 1 c.find_content.ensures.reads in
    let done : length (content_of (image_in c.args.self.now.var.now (g.F.Flash.state c.args.flash.now) c.args.self.now.page)) ≡ c.args.self.now.end = reads.size some ∙ le_antisymm c.if-self.false r.before in
    let good = subst (λ (found : Option ℕ). IfSome found (λ n. HasContent (r.page + 1) (image_in v f (r.page + 1)) × (n ≡ page_count (image_in v f (r.page + 1))))) c.in-Some.is (c.in_ok-used.ensures.good reads.told) in
    let within = before-end r.page (next_in v) reads.within (λ end. c.if-self-next_number.false (end ∙ sym c.next_number.ensures)) in
    there-turned (image_in v f) (next_in v) r.page r.end r.left done (within, good.0)
    (subst (λ (image : ℕ → List ℕ). AreThere image (next_in v) (r.page + 1) (0 + r.left)) images (there some))

pub returns-clause-ahead : goal.returns-clause-ahead
returns-clause-ahead g c = λ reads bad ahead.
    let r = c.args.self.now in
    let v = r.var.now in
    let f = g.F.Flash.state c.args.flash.now in
    let h = g.F.Flash.state c.find_content.new.flash in
    let done : length (content_of (image_in c.args.self.now.var.now (g.F.Flash.state c.args.flash.now) c.args.self.now.page)) ≡ c.args.self.now.end =
    reads.size (some-left r.left c.requires.left) ∙ le_antisymm c.if-self.false r.before in
    let good = subst (λ (found : Option ℕ). IfSome found (λ n. HasContent (r.page + 1) (image_in v f (r.page + 1)) × (n ≡ page_count (image_in v f (r.page + 1))))) c.in-Some.is (c.in_ok-used.ensures.good reads.told) in
    let within = before-end r.page (next_in v) reads.within (λ end. c.if-self-next_number.false (end ∙ sym c.next_number.ensures)) in
    bad-turned v f r.page r.end r.left bad done (within, good.0) (bad-seen v f h (images-same v f h 1 c.find_content.ensures.reads) (r.page + 1) (0 + r.left) bad ahead)

-- after a failed read the reader is where it was

pub returns-in_err-used-clause-sound : goal.returns-in_err-used-clause-sound
returns-in_err-used-clause-sound g c = λ reads there some.
    let r = c.args.self.now in
    let v = r.var.now in
    let images = images-same v (g.F.Flash.state c.args.flash.now) (g.F.Flash.state c.find_content.new.flash) 1 c.find_content.ensures.reads in
    subst (λ (image : ℕ → List ℕ). AreThere image (next_in v) r.page (r.end + r.left)) images (there some)

pub returns-in_default-clause-sound : goal.returns-in_default-clause-sound
returns-in_default-clause-sound g c = λ reads there some.
    let r = c.args.self.now in
    let v = r.var.now in
    let images = images-same v (g.F.Flash.state c.args.flash.now) (g.F.Flash.state c.find_content.new.flash) 1 c.find_content.ensures.reads in
    subst (λ (image : ℕ → List ℕ). AreThere image (next_in v) r.page (r.end + r.left)) images (there some)

pub returns-in_err-used-clause-ahead : goal.returns-in_err-used-clause-ahead
returns-in_err-used-clause-ahead g c = λ reads bad ahead.
    let r = c.args.self.now in
    let v = r.var.now in
    let f = g.F.Flash.state c.args.flash.now in
    let h = g.F.Flash.state c.find_content.new.flash in
    bad-seen v f h (images-same v f h 1 c.find_content.ensures.reads) r.page (r.end + r.left) bad ahead

pub returns-in_default-clause-ahead : goal.returns-in_default-clause-ahead
returns-in_default-clause-ahead g c = λ reads bad ahead.
    let r = c.args.self.now in
    let v = r.var.now in
    let f = g.F.Flash.state c.args.flash.now in
    let h = g.F.Flash.state c.find_content.new.flash in
    bad-seen v f h (images-same v f h 1 c.find_content.ensures.reads) r.page (r.end + r.left) bad ahead

pub returns-then-self-clause-reads : goal.returns-then-self-clause-reads
returns-then-self-clause-reads g c = none_read (g.F.Flash.state c.args.flash.now) 1

pub returns-then-self-clause-counts : goal.returns-then-self-clause-counts
returns-then-self-clause-counts g c = OnlyReads-same (g.F.Flash.state c.args.flash.now)

pub returns-then-self-clause-data : goal.returns-then-self-clause-data
returns-then-self-clause-data g c = refl

pub returns-then-self-clause-buffer : goal.returns-then-self-clause-buffer
returns-then-self-clause-buffer g c = refl

pub returns-then-self-clause-left : goal.returns-then-self-clause-left
returns-then-self-clause-left g c = refl

pub returns-then-self-clause-lies : goal.returns-then-self-clause-lies
returns-then-self-clause-lies g c = c.requires.lies

pub returns-then-self-clause-empty : goal.returns-then-self-clause-empty
returns-then-self-clause-empty g c = c.requires.empty

pub returns-then-self-clause-ready : goal.returns-then-self-clause-ready
returns-then-self-clause-ready g c = λ reads. reads

pub returns-then-self-clause-bytes : goal.returns-then-self-clause-bytes
returns-then-self-clause-bytes g c = λ reads. refl

pub returns-then-self-clause-most : goal.returns-then-self-clause-most
returns-then-self-clause-most g c = λ reads whole. le-add_right (g.F.Flash.state c.args.flash.now).work.reads (pages_left c.args.self.now)

pub returns-then-self-clause-sound : goal.returns-then-self-clause-sound
returns-then-self-clause-sound g c = λ reads there. there

pub returns-then-self-clause-ahead : goal.returns-then-self-clause-ahead
returns-then-self-clause-ahead g c = λ reads bad ahead. ahead

pub returns-then-self-next_number-clause-reads : goal.returns-then-self-next_number-clause-reads
returns-then-self-next_number-clause-reads g c = none_read (g.F.Flash.state c.args.flash.now) 1

pub returns-then-self-next_number-clause-counts : goal.returns-then-self-next_number-clause-counts
returns-then-self-next_number-clause-counts g c = OnlyReads-same (g.F.Flash.state c.args.flash.now)

pub returns-then-self-next_number-clause-data : goal.returns-then-self-next_number-clause-data
returns-then-self-next_number-clause-data g c = refl

pub returns-then-self-next_number-clause-buffer : goal.returns-then-self-next_number-clause-buffer
returns-then-self-next_number-clause-buffer g c = refl

pub returns-then-self-next_number-clause-left : goal.returns-then-self-next_number-clause-left
returns-then-self-next_number-clause-left g c = refl

pub returns-then-self-next_number-clause-lies : goal.returns-then-self-next_number-clause-lies
returns-then-self-next_number-clause-lies g c = c.requires.lies

pub returns-then-self-next_number-clause-empty : goal.returns-then-self-next_number-clause-empty
returns-then-self-next_number-clause-empty g c = c.requires.empty

pub returns-then-self-next_number-clause-ready : goal.returns-then-self-next_number-clause-ready
returns-then-self-next_number-clause-ready g c = λ reads. reads

pub returns-then-self-next_number-clause-bytes : goal.returns-then-self-next_number-clause-bytes
returns-then-self-next_number-clause-bytes g c = λ reads. refl

pub returns-then-self-next_number-clause-most : goal.returns-then-self-next_number-clause-most
returns-then-self-next_number-clause-most g c = λ reads whole. le-add_right (g.F.Flash.state c.args.flash.now).work.reads (pages_left c.args.self.now)

pub returns-then-self-next_number-clause-sound : goal.returns-then-self-next_number-clause-sound
returns-then-self-next_number-clause-sound g c = λ reads there. there

pub returns-then-self-next_number-clause-ahead : goal.returns-then-self-next_number-clause-ahead
returns-then-self-next_number-clause-ahead g c = λ reads bad ahead. ahead

pub returns-then-self-clause-some : goal.returns-then-self-clause-some
returns-then-self-clause-some g c = c.if-self.true

pub returns-then-self-clause-held : goal.returns-then-self-clause-held
returns-then-self-clause-held g c = λ some. (refl, refl)

pub returns-then-self-clause-whole : goal.returns-then-self-clause-whole
returns-then-self-clause-whole g c = λ reads whole. (tt, whole)

pub returns-then-self-clause-few : goal.returns-then-self-clause-few
returns-then-self-clause-few g c = λ reads whole. le_refl ((g.F.Flash.state c.args.flash.now).work.reads + pages_left c.args.self.now)

pub returns-then-self-next_number-clause-held : goal.returns-then-self-next_number-clause-held
returns-then-self-next_number-clause-held g c = λ some. absurd (not-le_of_lt some c.if-self.false)

pub returns-in_err-used-clause-held : goal.returns-in_err-used-clause-held
returns-in_err-used-clause-held g c = λ some. absurd (not-le_of_lt some c.if-self.false)

pub returns-in_default-clause-held : goal.returns-in_default-clause-held
returns-in_default-clause-held g c = λ some. absurd (not-le_of_lt some c.if-self.false)

pub returns-clause-held : goal.returns-clause-held
returns-clause-held g c = λ some. absurd (not-le_of_lt some c.if-self.false)

pub returns-then-self-next_number-clause-bad : goal.returns-then-self-next_number-clause-bad
returns-then-self-next_number-clause-bad g c = λ told. ends-behind c.args.self.now.var.now (g.F.Flash.state c.args.flash.now) c.args.self.now.page c.end_fault.result (c.if-self-next_number.true ∙ c.next_number.ensures) c.end_fault.ensures

pub returns-then-self-next_number-clause-whole : goal.returns-then-self-next_number-clause-whole
returns-then-self-next_number-clause-whole g c =
    λ reads whole.
    let done : page_count (image_in c.args.self.now.var.now (g.F.Flash.state c.args.flash.now) c.args.self.now.page) ≡ c.args.self.now.end = sym (reads.used (some-left c.args.self.now.left c.requires.left)) ∙ (le_antisymm c.if-self.false c.args.self.now.before) in
    absurd (not-further c.args.self.now.page (next_in c.args.self.now.var.now) (c.if-self-next_number.true ∙ c.next_number.ensures)
    (whole-good (image_in c.args.self.now.var.now (g.F.Flash.state c.args.flash.now)) (next_in c.args.self.now.var.now) (room_in c.args.self.now.var.now) c.args.self.now.page c.args.self.now.end c.args.self.now.left (whole (some-left c.args.self.now.left c.requires.left)) done c.requires.left).0)

pub returns-in_err-used-clause-reads : goal.returns-in_err-used-clause-reads
returns-in_err-used-clause-reads g c = c.find_content.ensures.reads

pub returns-in_err-used-clause-counts : goal.returns-in_err-used-clause-counts
returns-in_err-used-clause-counts g c = c.find_content.ensures.counts

pub returns-in_err-used-clause-data : goal.returns-in_err-used-clause-data
returns-in_err-used-clause-data g c = refl

pub returns-in_err-used-clause-buffer : goal.returns-in_err-used-clause-buffer
returns-in_err-used-clause-buffer g c = refl

pub returns-in_err-used-clause-left : goal.returns-in_err-used-clause-left
returns-in_err-used-clause-left g c = refl

pub returns-in_err-used-clause-lies : goal.returns-in_err-used-clause-lies
returns-in_err-used-clause-lies g c = c.find_content.ensures.lies

pub returns-in_default-clause-reads : goal.returns-in_default-clause-reads
returns-in_default-clause-reads g c = c.find_content.ensures.reads

pub returns-in_default-clause-counts : goal.returns-in_default-clause-counts
returns-in_default-clause-counts g c = c.find_content.ensures.counts

pub returns-in_default-clause-data : goal.returns-in_default-clause-data
returns-in_default-clause-data g c = refl

pub returns-in_default-clause-buffer : goal.returns-in_default-clause-buffer
returns-in_default-clause-buffer g c = refl

pub returns-in_default-clause-left : goal.returns-in_default-clause-left
returns-in_default-clause-left g c = refl

pub returns-in_default-clause-lies : goal.returns-in_default-clause-lies
returns-in_default-clause-lies g c = c.find_content.ensures.lies

pub returns-clause-reads : goal.returns-clause-reads
returns-clause-reads g c = c.find_content.ensures.reads

pub returns-clause-counts : goal.returns-clause-counts
returns-clause-counts g c = c.find_content.ensures.counts

pub returns-clause-data : goal.returns-clause-data
returns-clause-data g c = refl

pub returns-clause-buffer : goal.returns-clause-buffer
returns-clause-buffer g c = refl

pub returns-clause-left : goal.returns-clause-left
returns-clause-left g c = refl

pub returns-clause-lies : goal.returns-clause-lies
returns-clause-lies g c = c.find_content.ensures.lies

pub returns-in_err-used-clause-empty : goal.returns-in_err-used-clause-empty
returns-in_err-used-clause-empty g c = c.requires.empty

pub returns-in_err-used-clause-ready : goal.returns-in_err-used-clause-ready
returns-in_err-used-clause-ready g c =
    λ reads. record {
      told = told_still (g.F.Flash.state c.args.flash.now) (g.F.Flash.state c.find_content.new.flash) 1 c.find_content.ensures.reads reads.told;
      within = reads.within;
      used = λ left. reads.used left ∙ ap (λ (image : ℕ → List ℕ). page_count (image c.args.self.now.page)) (sym (images-same c.args.self.now.var.now (g.F.Flash.state c.args.flash.now) (g.F.Flash.state c.find_content.new.flash) 1 c.find_content.ensures.reads));
      size = λ left. ap (λ (image : ℕ → List ℕ). length (content_of (image c.args.self.now.page))) (images-same c.args.self.now.var.now (g.F.Flash.state c.args.flash.now) (g.F.Flash.state c.find_content.new.flash) 1 c.find_content.ensures.reads) ∙ reads.size left;
      bytes = λ more lt. absurd (not-le_of_lt more c.if-self.false);
    }

pub returns-in_err-used-clause-bytes : goal.returns-in_err-used-clause-bytes
returns-in_err-used-clause-bytes g c = λ reads. ap (λ (image : ℕ → List ℕ). take c.args.self.now.left (drop c.args.self.now.end (contents_from image c.args.self.now.page (next_in c.args.self.now.var.now + 1 - c.args.self.now.page)))) (images-same c.args.self.now.var.now (g.F.Flash.state c.args.flash.now) (g.F.Flash.state c.find_content.new.flash) 1 c.find_content.ensures.reads)

pub returns-in_err-used-clause-most : goal.returns-in_err-used-clause-most
returns-in_err-used-clause-most g c =
    λ reads whole.
    let done : page_count (image_in c.args.self.now.var.now (g.F.Flash.state c.args.flash.now) c.args.self.now.page) ≡ c.args.self.now.end = sym (reads.used (some-left c.args.self.now.left c.requires.left)) ∙ (le_antisymm c.if-self.false c.args.self.now.before) in
    one-more-read c.args.self.now.left c.args.self.now.end (room_in c.args.self.now.var.now) _ _ c.requires.left (whole-further (image_in c.args.self.now.var.now (g.F.Flash.state c.args.flash.now)) (next_in c.args.self.now.var.now) (room_in c.args.self.now.var.now) c.args.self.now.page c.args.self.now.end c.args.self.now.left (whole (some-left c.args.self.now.left c.requires.left)) done c.requires.left) c.find_content.ensures.reads.reads

pub returns-in_default-clause-empty : goal.returns-in_default-clause-empty
returns-in_default-clause-empty g c = c.requires.empty

pub returns-in_default-clause-ready : goal.returns-in_default-clause-ready
returns-in_default-clause-ready g c =
    λ reads. record {
      told = told_still (g.F.Flash.state c.args.flash.now) (g.F.Flash.state c.find_content.new.flash) 1 c.find_content.ensures.reads reads.told;
      within = reads.within;
      used = λ left. reads.used left ∙ ap (λ (image : ℕ → List ℕ). page_count (image c.args.self.now.page)) (sym (images-same c.args.self.now.var.now (g.F.Flash.state c.args.flash.now) (g.F.Flash.state c.find_content.new.flash) 1 c.find_content.ensures.reads));
      size = λ left. ap (λ (image : ℕ → List ℕ). length (content_of (image c.args.self.now.page))) (images-same c.args.self.now.var.now (g.F.Flash.state c.args.flash.now) (g.F.Flash.state c.find_content.new.flash) 1 c.find_content.ensures.reads) ∙ reads.size left;
      bytes = λ more lt. absurd (not-le_of_lt more c.if-self.false);
    }

pub returns-in_default-clause-bytes : goal.returns-in_default-clause-bytes
returns-in_default-clause-bytes g c = λ reads. ap (λ (image : ℕ → List ℕ). take c.args.self.now.left (drop c.args.self.now.end (contents_from image c.args.self.now.page (next_in c.args.self.now.var.now + 1 - c.args.self.now.page)))) (images-same c.args.self.now.var.now (g.F.Flash.state c.args.flash.now) (g.F.Flash.state c.find_content.new.flash) 1 c.find_content.ensures.reads)

pub returns-in_default-clause-most : goal.returns-in_default-clause-most
returns-in_default-clause-most g c =
    λ reads whole.
    let done : page_count (image_in c.args.self.now.var.now (g.F.Flash.state c.args.flash.now) c.args.self.now.page) ≡ c.args.self.now.end = sym (reads.used (some-left c.args.self.now.left c.requires.left)) ∙ (le_antisymm c.if-self.false c.args.self.now.before) in
    one-more-read c.args.self.now.left c.args.self.now.end (room_in c.args.self.now.var.now) _ _ c.requires.left (whole-further (image_in c.args.self.now.var.now (g.F.Flash.state c.args.flash.now)) (next_in c.args.self.now.var.now) (room_in c.args.self.now.var.now) c.args.self.now.page c.args.self.now.end c.args.self.now.left (whole (some-left c.args.self.now.left c.requires.left)) done c.requires.left) c.find_content.ensures.reads.reads

pub returns-in_err-used-clause-some : goal.returns-in_err-used-clause-some
returns-in_err-used-clause-some g c =
    let p = err_from_is_err_and c.from_residual.result c.from_residual.ensures.1 in
    rw p.1 tt

pub returns-in_err-used-clause-few : goal.returns-in_err-used-clause-few
returns-in_err-used-clause-few g c =
    λ reads whole.
    let p = err_from_is_err_and c.from_residual.result c.from_residual.ensures.1 in
    rw p.1 tt

pub returns-in_err-used-clause-fails : goal.returns-in_err-used-clause-fails
returns-in_err-used-clause-fails g c =
    let p = err_from_is_err_and c.from_residual.result c.from_residual.ensures.1 in
    rw (p.1, p.2) c.in_err-used.ensures.fails

pub returns-in_err-used-clause-bad : goal.returns-in_err-used-clause-bad
returns-in_err-used-clause-bad g c =
    λ told.
    let p = err_from_is_err_and c.from_residual.result c.from_residual.ensures.1 in
    rw (p.1, p.2) (later-bad c.args.self.now.var.now (g.F.Flash.state c.args.flash.now) (c.args.self.now.page + 1) c.in_err-used.field-0.0 (before-end c.args.self.now.page (next_in c.args.self.now.var.now) c.args.self.now.known (λ end. c.if-self-next_number.false (end ∙ sym c.next_number.ensures))) (c.in_err-used.ensures.bad told))

pub returns-in_default-clause-bad : goal.returns-in_default-clause-bad
returns-in_default-clause-bad g c = λ told. uncommitted-bad c.args.self.now.var.now (g.F.Flash.state c.args.flash.now) (c.args.self.now.page + 1) c.bad_in.result c.find_content.new.buf.bytes (c.in_ok-used.ensures.none told c.in_default.is) (c.in_ok-used.ensures.uncommitted told c.in_default.is) (c.bad_in.ensures ∙ ap (bad_page (c.args.self.now.page + 1)) c.bytes.ensures)

pub returns-clause-empty : goal.returns-clause-empty
returns-clause-empty g c = refl

pub returns-clause-some : goal.returns-clause-some
returns-clause-some g c =
    let some = rw c.in-Some.is at c.in_ok-used.ensures.some in
    some-left c.in-Some.used some.0

pub find_content-requires-clause-mounted : goal.find_content-requires-clause-mounted
find_content-requires-clause-mounted g c = c.args.self.now.mounted

pub find_content-requires-clause-lies : goal.find_content-requires-clause-lies
find_content-requires-clause-lies g c = c.requires.lies

pub find_content-requires-clause-room : goal.find_content-requires-clause-room
find_content-requires-clause-room g c = c.args.self.now.size

pub find_content-requires-clause-within : goal.find_content-requires-clause-within
find_content-requires-clause-within g c = (before-end c.args.self.now.page (next_in c.args.self.now.var.now) c.args.self.now.known (λ end. c.if-self-next_number.false (end ∙ sym c.next_number.ensures)))

pub invariant_of-self : goal.invariant_of-self
invariant_of-self g c =
    record {
      mounted = c.args.self.now.mounted;
      ordered = c.args.self.now.ordered;
      before = c.args.self.now.before;
      within = present-still c.args.self.now.var.now c.args.self.now.page c.args.self.now.end c.args.self.now.buf.now.bytes c.find_content.new.buf.bytes c.find_content.ensures.room c.args.self.now.within;
      size = c.find_content.ensures.room ∙ c.args.self.now.size;
      known = c.args.self.now.known;
      fits = c.args.self.now.fits;
      all = present-still c.args.self.now.var.now c.args.self.now.page c.args.self.now.used c.args.self.now.buf.now.bytes c.find_content.new.buf.bytes c.find_content.ensures.room c.args.self.now.all;
    }

pub invariant_of-self-in_default : goal.invariant_of-self-in_default
invariant_of-self-in_default g c =
    record {
      mounted = c.args.self.now.mounted;
      ordered = c.args.self.now.ordered;
      before = c.args.self.now.before;
      within = present-still c.args.self.now.var.now c.args.self.now.page c.args.self.now.end c.args.self.now.buf.now.bytes c.find_content.new.buf.bytes c.find_content.ensures.room c.args.self.now.within;
      size = c.find_content.ensures.room ∙ c.args.self.now.size;
      known = c.args.self.now.known;
      fits = c.args.self.now.fits;
      all = present-still c.args.self.now.var.now c.args.self.now.page c.args.self.now.used c.args.self.now.buf.now.bytes c.find_content.new.buf.bytes c.find_content.ensures.room c.args.self.now.all;
    }

pub invariant_of-self-in_default-2 : goal.invariant_of-self-in_default-2
invariant_of-self-in_default-2 g c =
    record {
      mounted = c.args.self.now.mounted;
      ordered = c.args.self.now.ordered;
      before = c.args.self.now.before;
      within = present-still c.args.self.now.var.now c.args.self.now.page c.args.self.now.end c.args.self.now.buf.now.bytes c.find_content.new.buf.bytes c.find_content.ensures.room c.args.self.now.within;
      size = c.find_content.ensures.room ∙ c.args.self.now.size;
      known = c.args.self.now.known;
      fits = c.args.self.now.fits;
      all = present-still c.args.self.now.var.now c.args.self.now.page c.args.self.now.used c.args.self.now.buf.now.bytes c.find_content.new.buf.bytes c.find_content.ensures.room c.args.self.now.all;
    }

pub invariant_of-self-2 : goal.invariant_of-self-2
invariant_of-self-2 g c =
    let some = rw c.in-Some.is at c.in_ok-used.ensures.some in
    record {
      mounted = c.args.self.now.mounted;
      ordered = le_refl 0;
      before = least c.in-Some.used;
      within = least (length (present c.args.self.now.var.now (c.args.self.now.page + 1) c.find_content.new.buf.bytes));
      size = c.find_content.ensures.room ∙ c.args.self.now.size;
      known = (before-end c.args.self.now.page (next_in c.args.self.now.var.now) c.args.self.now.known (λ end. c.if-self-next_number.false (end ∙ sym c.next_number.ensures)));
      fits = some.2;
      all = some.1;
    }

pub bad_in-requires : goal.bad_in-requires
bad_in-requires g c = subst (λ (l : List ℕ). 16 ≤ length l) (sym c.bytes.ensures) (page-headed c.args.self.now.var.now c.find_content.new.buf.bytes (c.find_content.ensures.room ∙ c.args.self.now.size))

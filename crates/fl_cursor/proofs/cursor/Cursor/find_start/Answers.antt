use Rattle.std.proofs.Common.{ℕ, ◌+◌, ◌≤◌, Option, Some, None, IfSome, refl, sym, ◌∙◌, ap, subst, IsTrue}
use Rattle.std.proofs.lemmas.Result.{err_from_is_err_and}
use Rattle.fl_find.specs.Pages.{first_key}
use Rattle.fl_flash.specs.Places.{page_of}
use Rattle.fl_frame.specs.Contents.{Contents, contents_of}
use Rattle.fl_frame.proofs.ContentsInTurn.{OnlyReads-reads, OnlyReads-same}
use Rattle.fl_search.specs.Search.{IsPageOf, RoseSome}
use Rattle.fl_table.specs.Finding.{HoldsKept}
use Rattle.fl_table.specs.Look.{oldest_in, place_of}
use Rattle.fl_table.specs.Memory.{next_in}
use Rattle.fl_cursor.specs.Listed.{rows_on}
use Rattle.fl_cursor.specs.Reads.{most_to_find}
use Rattle.fl_cursor.proofs.LowestPage.{stands-moved, standing-start, few-reads}
use Rattle.fl_cursor.proofs.StartSearch.{start-fails, start-none, start-some}
use Rattle.fl_cursor.proofs.Stood.{standing-tells}
use Rattle.fl_cursor.specs.Sound.{pages_in}
use Rattle.fl_cursor.proofs.Indexed.{told-bytes}
use Rattle.fl_cursor.proofs.SoundPages.{sound-found, sound-oldest}
use Rattle.fl_table.specs.Finding.{IsPageFor}
use Rattle.fl_table.proofs.Finds.{lookup-caused}
use Rattle.fl_parts.proofs.Sizes.{table-fits}
use Rattle.std.proofs.lemmas.Bool.{true≢false}
use Rattle.fl_cursor.specs.Cursor.{is_end, IsPlaced}
use Rattle.fl_cursor.specs.Going.{is_at_pages}
use Rattle.fl_cursor.proofs.Whole.{goes-still}
use Rattle.fl_cursor.proofs.PlacesLeft.{begun-other}
use Rattle.fl_cursor.proofs.Lying.{lies-held, search-bad}
use Rattle.fl_cursor.proofs.cursor.Cursor.find_start.Goals as goal

pub returns-in_err-number-clause-fails : goal.returns-in_err-number-clause-fails
returns-in_err-number-clause-fails g c =
    let f = g.F.Flash.state c.args.flash.now in
    let held = contents_of (g.F.Flash.state c.args.flash.now) in
    let reads = (g.F.Flash.state c.args.flash.now).work.reads in
    let now = (g.F.Flash.state c.page_of.new.flash).work.reads in
    let t = c.args.self.now.table.now in
    let p = err_from_is_err_and c.from_residual.result c.from_residual.ensures.1 in
    rw p.1 (start-fails c.args.self.now c.in-Start.is _ held reads now refl c.page_of.ensures.flash.room (OnlyReads-reads f (g.F.Flash.state c.page_of.new.flash) c.page_of.ensures.flash.counts)
    (λ told. subst (λ k. (g.F.Flash.state c.page_of.new.flash).work.reads ≤ (g.F.Flash.state c.args.flash.now).work.reads + most_to_find c.args.self.now.table.now k) c.lowest-lowest.ensures
    (few-reads t held told.standing c.lowest-lowest.result reads now c.page_of.ensures.flash.most
    (c.page_of.ensures.page.reads told.standing.first told.standing.plan told.standing.table (standing-tells t held told.standing) (stands-moved t f told.standing)))))

pub returns-in_default-2-clause-goes : goal.returns-in_default-2-clause-goes
returns-in_default-2-clause-goes g c =
    let f = g.F.Flash.state c.args.flash.now in
    let held = contents_of (g.F.Flash.state c.args.flash.now) in
    let reads = (g.F.Flash.state c.args.flash.now).work.reads in
    let now = (g.F.Flash.state c.page_of.new.flash).work.reads in
    let t = c.args.self.now.table.now in
    start-none c.args.self.now c.in-Start.is _ held reads now refl c.page_of.ensures.flash.room (OnlyReads-reads f (g.F.Flash.state c.page_of.new.flash) c.page_of.ensures.flash.counts)
    (λ told. subst (λ k. (g.F.Flash.state c.page_of.new.flash).work.reads ≤ (g.F.Flash.state c.args.flash.now).work.reads + most_to_find c.args.self.now.table.now k) c.lowest-lowest.ensures
    (few-reads t held told.standing c.lowest-lowest.result reads now c.page_of.ensures.flash.most
    (c.page_of.ensures.page.reads told.standing.first told.standing.plan told.standing.table (standing-tells t held told.standing) (stands-moved t f told.standing))))
    c.oldest.result c.oldest.ensures.exact c.requires.ordered
    (λ told.
    let finds = c.in_ok-number.ensures.page.finds told.standing.first told.standing.plan told.standing.table (standing-tells t held told.standing) (stands-moved t f told.standing) in
    subst (λ k. IsPageOf (λ n. first_key (rows_on c.args.self.now.table.now (contents_of (g.F.Flash.state c.args.flash.now)) n)) (oldest_in c.args.self.now.table.now) (next_in c.args.self.now.table.now) k None) c.lowest-lowest.ensures
    (subst (λ (page : Option ℕ). IsPageOf (λ n. first_key (rows_on c.args.self.now.table.now (contents_of (g.F.Flash.state c.args.flash.now)) n)) (oldest_in c.args.self.now.table.now) (next_in c.args.self.now.table.now) c.lowest-lowest.result page)
    (sym finds.page_is ∙ c.in_default-2.is) (standing-start t held told.standing c.lowest-lowest.result)))

pub returns-clause-goes : goal.returns-clause-goes
returns-clause-goes g c =
    let f = g.F.Flash.state c.args.flash.now in
    let held = contents_of (g.F.Flash.state c.args.flash.now) in
    let reads = (g.F.Flash.state c.args.flash.now).work.reads in
    let now = (g.F.Flash.state c.page_of.new.flash).work.reads in
    let t = c.args.self.now.table.now in
    let kept : HoldsKept c.args.self.now.table.now (g.F.Flash.state c.page_of.new.flash) c.in-Some.number c.page_of.new.buf =
    subst (λ (page : Option ℕ). IfSome page (λ number. HoldsKept c.args.self.now.table.now (g.F.Flash.state c.page_of.new.flash) number c.page_of.new.buf)) c.in-Some.is c.in_ok-number.ensures.kept.holds in
    start-some c.args.self.now c.in-Start.is _ held reads now refl c.page_of.ensures.flash.room (OnlyReads-reads f (g.F.Flash.state c.page_of.new.flash) c.page_of.ensures.flash.counts)
    (λ told. subst (λ k. (g.F.Flash.state c.page_of.new.flash).work.reads ≤ (g.F.Flash.state c.args.flash.now).work.reads + most_to_find c.args.self.now.table.now k) c.lowest-lowest.ensures
    (few-reads t held told.standing c.lowest-lowest.result reads now c.page_of.ensures.flash.most
    (c.page_of.ensures.page.reads told.standing.first told.standing.plan told.standing.table (standing-tells t held told.standing) (stands-moved t f told.standing))))
    c.in-Some.number kept.kept.0 kept.kept.1 kept.good
    (λ told.
    let finds = c.in_ok-number.ensures.page.finds told.standing.first told.standing.plan told.standing.table (standing-tells t held told.standing) (stands-moved t f told.standing) in
    subst (λ (page : Option ℕ). IfSome page (λ number. RoseSome (g.F.Flash.state c.args.flash.now).work.reads (g.F.Flash.state c.page_of.new.flash).work.reads)) c.in-Some.is finds.some)
    (λ told. kept.bytes (subst (λ (k : Contents). IsTrue k.tells) (sym c.page_of.ensures.flash.counts.contents) (standing-tells t held told.standing))
    ∙ ap (λ (k : Contents). page_of k.bytes k.start k.geometry.page (place_of c.args.self.now.table.now c.in-Some.number)) c.page_of.ensures.flash.counts.contents)
    (λ told.
    let finds = c.in_ok-number.ensures.page.finds told.standing.first told.standing.plan told.standing.table (standing-tells t held told.standing) (stands-moved t f told.standing) in
    subst (λ k. IsPageOf (λ n. first_key (rows_on c.args.self.now.table.now (contents_of (g.F.Flash.state c.args.flash.now)) n)) (oldest_in c.args.self.now.table.now) (next_in c.args.self.now.table.now) k (Some c.in-Some.number)) c.lowest-lowest.ensures
    (subst (λ (page : Option ℕ). IsPageOf (λ n. first_key (rows_on c.args.self.now.table.now (contents_of (g.F.Flash.state c.args.flash.now)) n)) (oldest_in c.args.self.now.table.now) (next_in c.args.self.now.table.now) c.lowest-lowest.result page)
    (sym finds.page_is ∙ c.in-Some.is) (standing-start t held told.standing c.lowest-lowest.result)))

pub returns-in_default-2-clause-sound : goal.returns-in_default-2-clause-sound
returns-in_default-2-clause-sound g c = λ s tells fresh.
    let held = contents_of (g.F.Flash.state c.args.flash.now) in
    sound-oldest c.args.self.now c.in-Start.is held c.lowest-lowest.result c.oldest.result c.lowest-lowest.ensures c.oldest.ensures.exact
    (subst (λ (page : Option ℕ). IsPageFor c.args.self.now.table.now (pages_in (contents_of (g.F.Flash.state c.args.flash.now))) c.lowest-lowest.result page) c.in_default-2.is (c.in_ok-number.ensures.kept.answers tells)) (s tells fresh)

pub returns-clause-sound : goal.returns-clause-sound
returns-clause-sound g c = λ s tells fresh.
    let f = g.F.Flash.state c.args.flash.now in
    let held = contents_of (g.F.Flash.state c.args.flash.now) in
    let kept : HoldsKept c.args.self.now.table.now (g.F.Flash.state c.page_of.new.flash) c.in-Some.number c.page_of.new.buf =
    subst (λ (page : Option ℕ). IfSome page (λ number. HoldsKept c.args.self.now.table.now (g.F.Flash.state c.page_of.new.flash) number c.page_of.new.buf)) c.in-Some.is c.in_ok-number.ensures.kept.holds in
    sound-found c.args.self.now c.in-Start.is held c.lowest-lowest.result c.in-Some.number c.page_of.new.buf.bytes c.lowest-lowest.ensures
    (told-bytes c.args.self.now.table.now c.in-Some.number f (g.F.Flash.state c.page_of.new.flash) c.page_of.new.buf.bytes tells c.page_of.ensures.flash.counts kept.bytes) kept.committed kept.good
    (subst (λ (page : Option ℕ). IsPageFor c.args.self.now.table.now (pages_in (contents_of (g.F.Flash.state c.args.flash.now))) c.lowest-lowest.result page) c.in-Some.is (c.in_ok-number.ensures.kept.answers tells)) (s tells fresh)

pub returns-in_default : goal.returns-in_default
returns-in_default g c =
    record {
      reads_only = OnlyReads-same _;
      cause = tt;
      bad_page = tt;
      here = refl;
      goes = goes-still c.args.self.now (contents_of (g.F.Flash.state c.args.flash.now)) (g.F.Flash.state c.args.flash.now).work.reads;
      fails = tt;
      sound = λ s. s;
      begun = begun-other c.args.self.now.place c.in_default.not-Start;
      stays_ended = λ e. (e, refl, tt);
      behind = λ past. (past, refl, tt);
    }

pub page_of-requires : goal.page_of-requires
page_of-requires g c = (
  table-fits g.row.KNOTS g.row.SLOTS c.args.self.now.table.now.few_knots c.args.self.now.table.now.few_slots,
  (
    subst (IsPlaced c.args.self.now.table.now c.args.self.now.rows_buf.now.bytes) c.in-Start.is c.requires.ready.placed,
    (lies-held c.requires.ready.flash (g.F.Flash.state c.args.flash.now) c.requires.ready.same c.args.self.now.table.now c.requires.ready.lies, c.requires.ready.rows_room),
  ),
)

pub oldest-requires : goal.oldest-requires
oldest-requires g c = table-fits g.row.KNOTS g.row.SLOTS c.args.self.now.table.now.few_knots c.args.self.now.table.now.few_slots

pub returns-in_err-number-clause-reads_only : goal.returns-in_err-number-clause-reads_only
returns-in_err-number-clause-reads_only g c = c.page_of.ensures.flash.counts

pub returns-in_err-number-clause-here : goal.returns-in_err-number-clause-here
returns-in_err-number-clause-here g c = refl

pub returns-in_err-number-clause-begun : goal.returns-in_err-number-clause-begun
returns-in_err-number-clause-begun g c = let p = err_from_is_err_and c.from_residual.result c.from_residual.ensures.1 in rw p.1 tt

pub returns-in_err-number-clause-stays_ended : goal.returns-in_err-number-clause-stays_ended
returns-in_err-number-clause-stays_ended g c = λ e. absurd (true≢false (sym e ∙ ap is_end c.in-Start.is))

pub returns-in_err-number-clause-behind : goal.returns-in_err-number-clause-behind
returns-in_err-number-clause-behind g c = λ past. absurd (true≢false (sym (ap is_at_pages c.in-Start.is) ∙ past))

pub returns-in_default-2-clause-reads_only : goal.returns-in_default-2-clause-reads_only
returns-in_default-2-clause-reads_only g c = c.page_of.ensures.flash.counts

pub returns-in_default-2-clause-here : goal.returns-in_default-2-clause-here
returns-in_default-2-clause-here g c = refl

pub returns-in_default-2-clause-begun : goal.returns-in_default-2-clause-begun
returns-in_default-2-clause-begun g c = refl

pub returns-in_default-2-clause-stays_ended : goal.returns-in_default-2-clause-stays_ended
returns-in_default-2-clause-stays_ended g c = λ e. absurd (true≢false (sym e ∙ ap is_end c.in-Start.is))

pub returns-in_default-2-clause-behind : goal.returns-in_default-2-clause-behind
returns-in_default-2-clause-behind g c = λ past. absurd (true≢false (sym (ap is_at_pages c.in-Start.is) ∙ past))

pub returns-clause-reads_only : goal.returns-clause-reads_only
returns-clause-reads_only g c = c.page_of.ensures.flash.counts

pub returns-clause-here : goal.returns-clause-here
returns-clause-here g c = refl

pub returns-clause-begun : goal.returns-clause-begun
returns-clause-begun g c = refl

pub returns-clause-stays_ended : goal.returns-clause-stays_ended
returns-clause-stays_ended g c = λ e. absurd (true≢false (sym e ∙ ap is_end c.in-Start.is))

pub returns-clause-behind : goal.returns-clause-behind
returns-clause-behind g c = λ past. absurd (true≢false (sym (ap is_at_pages c.in-Start.is) ∙ past))

pub returns-in_err-number-clause-goes : goal.returns-in_err-number-clause-goes
returns-in_err-number-clause-goes g c = let p = err_from_is_err_and c.from_residual.result c.from_residual.ensures.1 in rw p.1 tt

pub returns-in_err-number-clause-sound : goal.returns-in_err-number-clause-sound
returns-in_err-number-clause-sound g c = let p = err_from_is_err_and c.from_residual.result c.from_residual.ensures.1 in rw p.1 tt

pub returns-in_err-number-clause-cause : goal.returns-in_err-number-clause-cause
returns-in_err-number-clause-cause g c = let p = err_from_is_err_and c.from_residual.result c.from_residual.ensures.1 in rw (p.1, p.2) (lookup-caused c.args.self.now.table.now (g.F.Flash.state c.args.flash.now) (g.F.Flash.state c.page_of.new.flash) c.in_err-number.field-0.0 c.in_err-number.ensures.kept.fails)

pub returns-in_err-number-clause-bad_page : goal.returns-in_err-number-clause-bad_page
returns-in_err-number-clause-bad_page g c = let p = err_from_is_err_and c.from_residual.result c.from_residual.ensures.1 in rw (p.1, p.2) (search-bad c.args.self.now.table.now (g.F.Flash.state c.args.flash.now) (g.F.Flash.state c.page_of.new.flash) c.in_err-number.field-0.0 c.in_err-number.ensures.kept.fails)

use Rattle.std.proofs.Common.{◌≡◌, ℕ, ◌+◌, ◌-◌, ◌≤◌, List, length, refl, sym, ◌∙◌, ap, arith, subst, ◌<◌, le_refl}
use Rattle.std.proofs.lemmas.Bool.{true≢false}
use Rattle.fl_flash.specs.Flash.{FlashState, page_at}
use Rattle.fl_frame.specs.Reads.{OnlyReads}
use Rattle.fl_index.specs.Page.{page_first}
use Rattle.fl_ring.specs.Looking.{state_at}
use Rattle.fl_ring.specs.Newest.{commits}
use Rattle.fl_ring.specs.Place.{shape_of}
use Rattle.fl_ring.proofs.Exists.{lies_exists, lies_still}
use Rattle.fl_ring.proofs.Founds.{same_pages}
use Rattle.fl_ring.proofs.ReadsInTurn.{fewer_reads, mark_fits, header_fits}
use Rattle.fl_frame.proofs.ReadsInTurn.{more_reads, told_still}
use Rattle.fl_check.specs.Entries.{over, entries_in, kept_below}
use Rattle.fl_rules.specs.declared.numbering.Numbering.{Numbering}
use Rattle.fl_check.proofs.ListedPages.{one_more, descends, misentered, listing_more, entries_move}
use Rattle.std.proofs.lemmas.Result.{err_from_is_err_and}
use Rattle.fl_rules.proofs.OneMorePage.{one_of, behind, one_behind, read_fails, some_back, few_back}
use Rattle.fl_check.proofs.rule_6_entry.see_listing.Goals as goal

below-kept : {i kept : ℕ} → i < kept → i ≤ kept
below-kept lt = omega (arith, lt)

body-fits : {n size : ℕ} → n ≡ size → 64 ≤ size → 24 ≤ n
body-fits same least = omega (arith, same, least)

pub look-requires-clause-exists : goal.look-requires-clause-exists
look-requires-clause-exists g c = lies_exists c.args.index.now (g.F.Flash.state c.args.flash.now) c.page_back-page.result c.requires.index c.page_back-page.ensures.within

pub returns-then-not-is_committed-clause-some : goal.returns-then-not-is_committed-clause-some
returns-then-not-is_committed-clause-some g c =
    let f = g.F.Flash.state c.args.flash.now in
    λ told seen. one_more (page_at f) (shape_of c.args.index.now) (shape_of c.args.rows.now) (over c.args.l) c.args.i c.args.seen seen
    (λ lists. true≢false (sym lists ∙ ap (λ (p : ℕ). commits (state_at f p)) (sym c.page_back-page.ensures.page) ∙ ap commits (sym (c.in_ok-state.ensures.state told)) ∙ sym c.is_committed.ensures ∙ c.if-not-is_committed.true))

pub returns-then-first-seen-clause-none : goal.returns-then-first-seen-clause-none
returns-then-first-seen-clause-none g c =
    let f = g.F.Flash.state c.args.flash.now in
    λ told seen.
    let first = c.from-first.ensures ∙ c.first_in.ensures ∙ ap page_first (c.bytes-held.ensures ∙ c.in_ok-state.ensures.bytes told ∙ ap (page_at f) c.page_back-page.ensures.page) in
    descends (page_at f) (shape_of c.args.index.now) (shape_of c.args.rows.now) (over c.args.l) c.args.i c.args.seen seen
    (ap (λ (p : ℕ). commits (state_at f p)) (sym c.page_back-page.ensures.page) ∙ ap commits (sym (c.in_ok-state.ensures.state told)) ∙ sym c.is_committed.ensures ∙ c.if-not-is_committed.false)
    c.requires.kept (omega (arith, first, c.if-first-seen.true))

-- the reads of the page and of those that it lists, where it begins behind what was listed
listing-reads : (f mid after : FlashState) (rows : Numbering) (held : List ℕ) (first number many end : ℕ) → OnlyReads f 1 mid → OnlyReads mid (kept_below rows (page_first held + many) - kept_below rows (page_first held)) after →
    first ≡ number → number ≡ page_first held → end ≤ first → OnlyReads f (1 + (rows.marks.kept - kept_below rows end)) after
listing-reads f mid after rows held first number many end one listed is number_is le = fewer_reads f after (1 + _) _ (more_reads f mid after 1 _ one listed) (omega (arith, is, number_is, le))

pub returns-then-not-has-clause-reads : goal.returns-then-not-has-clause-reads
returns-then-not-has-clause-reads g c =
    listing-reads (g.F.Flash.state c.args.flash.now) (g.F.Flash.state c.look.new.flash) (g.F.Flash.state c.has_entries.new.flash) c.args.l.rows c.bytes-held.result.now c.from-first.result c.first_in.result c.entries_in-many.result c.args.seen.end
    c.look.ensures.reads c.has_entries.ensures.reads c.from-first.ensures c.first_in.ensures c.if-first-seen.false

pub returns-in_err-has-clause-reads : goal.returns-in_err-has-clause-reads
returns-in_err-has-clause-reads g c =
    listing-reads (g.F.Flash.state c.args.flash.now) (g.F.Flash.state c.look.new.flash) (g.F.Flash.state c.has_entries.new.flash) c.args.l.rows c.bytes-held.result.now c.from-first.result c.first_in.result c.entries_in-many.result c.args.seen.end
    c.look.ensures.reads c.has_entries.ensures.reads c.from-first.ensures c.first_in.ensures c.if-first-seen.false

pub returns-then-not-has-clause-none : goal.returns-then-not-has-clause-none
returns-then-not-has-clause-none g c =
    let f = g.F.Flash.state c.args.flash.now in
    let mid = g.F.Flash.state c.look.new.flash in
    let index = shape_of c.args.index.now in
    let l = over c.args.l in
    λ told seen.
    misentered (page_at f) index (shape_of c.args.rows.now) l c.args.i c.args.seen seen
    (ap (λ (p : ℕ). commits (state_at f p)) (sym c.page_back-page.ensures.page) ∙ ap commits (sym (c.in_ok-state.ensures.state told)) ∙ sym c.is_committed.ensures ∙ c.if-not-is_committed.false)
    c.requires.kept
    (λ all. c.in_ok-has.ensures.no c.if-not-has.true (told_still f mid 1 c.look.ensures.reads told)
    (entries_move (page_at mid) (page_at f) (shape_of c.args.rows.now) l _ c.bytes-held.result.now (entries_in index.size l.form) c.entries_in-many.result
    (sym (same_pages f mid 1 c.look.ensures.reads)) (sym (c.bytes-held.ensures ∙ c.in_ok-state.ensures.bytes told ∙ ap (page_at f) c.page_back-page.ensures.page))
    (sym (c.entries_in-many.ensures.exact ∙ ap (λ (n : ℕ). entries_in n l.form) (ap length c.bytes-held.ensures ∙ c.look.ensures.room ∙ c.requires.listing))) all))

pub returns-clause-reads : goal.returns-clause-reads
returns-clause-reads g c =
    listing-reads (g.F.Flash.state c.args.flash.now) (g.F.Flash.state c.look.new.flash) (g.F.Flash.state c.has_entries.new.flash) c.args.l.rows c.bytes-held.result.now c.from-first.result c.first_in.result c.entries_in-many.result c.args.seen.end
    c.look.ensures.reads c.has_entries.ensures.reads c.from-first.ensures c.first_in.ensures c.if-first-seen.false

pub returns-clause-few_reads : goal.returns-clause-few_reads
returns-clause-few_reads g c =
    let f = g.F.Flash.state c.args.flash.now in (
      fewer_reads f (g.F.Flash.state c.has_entries.new.flash) (1 + _) _ (more_reads f (g.F.Flash.state c.look.new.flash) (g.F.Flash.state c.has_entries.new.flash) 1 _ c.look.ensures.reads c.has_entries.ensures.reads)
          (omega (arith, c.from-first.ensures, c.from.ensures, c.first_in.ensures, c.if-first-seen.false)),
      omega (arith, c.if-first-seen.false),
    )

pub returns-clause-some : goal.returns-clause-some
returns-clause-some g c =
    let f = g.F.Flash.state c.args.flash.now in
    let mid = g.F.Flash.state c.look.new.flash in
    let index = shape_of c.args.index.now in
    let l = over c.args.l in
    λ told seen.
    let bytes = c.bytes-held.ensures ∙ c.in_ok-state.ensures.bytes told ∙ ap (page_at f) c.page_back-page.ensures.page in
    let first = c.from-first.ensures ∙ c.first_in.ensures ∙ ap page_first bytes in
    let many = c.entries_in-many.ensures.exact ∙ ap (λ (n : ℕ). entries_in n l.form) (ap length c.bytes-held.ensures ∙ c.look.ensures.room ∙ c.requires.listing) in
    listing_more (page_at f) index (shape_of c.args.rows.now) l c.args.i c.args.seen seen
    (ap (λ (p : ℕ). commits (state_at f p)) (sym c.page_back-page.ensures.page) ∙ ap commits (sym (c.in_ok-state.ensures.state told)) ∙ sym c.is_committed.ensures ∙ c.if-not-is_committed.false)
    (record { last = c.args.i; end = c.from-first.result + c.from.result }) refl (omega (arith, first, c.from.ensures, many)) (omega (arith, first, c.if-first-seen.false))
    (entries_move (page_at f) (page_at mid) (shape_of c.args.rows.now) l c.bytes-held.result.now _ c.entries_in-many.result (entries_in index.size l.form)
    (same_pages f mid 1 c.look.ensures.reads) bytes many (c.in_ok-has.ensures.yes c.if-not-has.false (told_still f mid 1 c.look.ensures.reads told)))

pub returns-in_err-state-clause-reads : goal.returns-in_err-state-clause-reads
returns-in_err-state-clause-reads g c = fewer_reads (g.F.Flash.state c.args.flash.now) (g.F.Flash.state c.look.new.flash) 1 (1 + _) c.look.ensures.reads (one_of _)

pub returns-in_err-state-clause-listing : goal.returns-in_err-state-clause-listing
returns-in_err-state-clause-listing g c = c.look.ensures.room ∙ c.requires.listing

pub returns-in_err-state-clause-room : goal.returns-in_err-state-clause-room
returns-in_err-state-clause-room g c = c.requires.room

pub returns-in_err-state-clause-fails : goal.returns-in_err-state-clause-fails
returns-in_err-state-clause-fails g c =
    let p = err_from_is_err_and c.from_residual.result c.from_residual.ensures.1 in
    rw (p.1, p.2) c.in_err-state.ensures.fails

pub returns-in_err-state-clause-few_reads : goal.returns-in_err-state-clause-few_reads
returns-in_err-state-clause-few_reads g c =
    let p = err_from_is_err_and c.from_residual.result c.from_residual.ensures.1 in
    rw p.1 tt

pub returns-in_err-state-clause-none : goal.returns-in_err-state-clause-none
returns-in_err-state-clause-none g c =
    let p = err_from_is_err_and c.from_residual.result c.from_residual.ensures.1 in
    rw p.1 tt

pub returns-in_err-state-clause-some : goal.returns-in_err-state-clause-some
returns-in_err-state-clause-some g c =
    let p = err_from_is_err_and c.from_residual.result c.from_residual.ensures.1 in
    rw p.1 tt

pub returns-in_err-state-clause-last : goal.returns-in_err-state-clause-last
returns-in_err-state-clause-last g c =
    let p = err_from_is_err_and c.from_residual.result c.from_residual.ensures.1 in
    rw p.1 tt

pub returns-then-not-is_committed-clause-reads : goal.returns-then-not-is_committed-clause-reads
returns-then-not-is_committed-clause-reads g c = fewer_reads (g.F.Flash.state c.args.flash.now) (g.F.Flash.state c.look.new.flash) 1 (1 + _) c.look.ensures.reads (one_of _)

pub returns-then-not-is_committed-clause-few_reads : goal.returns-then-not-is_committed-clause-few_reads
returns-then-not-is_committed-clause-few_reads g c = (fewer_reads (g.F.Flash.state c.args.flash.now) (g.F.Flash.state c.look.new.flash) 1 (1 + _) c.look.ensures.reads (one_of _), le_refl _)

pub returns-then-not-is_committed-clause-listing : goal.returns-then-not-is_committed-clause-listing
returns-then-not-is_committed-clause-listing g c = c.look.ensures.room ∙ c.requires.listing

pub returns-then-not-is_committed-clause-room : goal.returns-then-not-is_committed-clause-room
returns-then-not-is_committed-clause-room g c = c.requires.room

pub returns-then-not-is_committed-clause-none : goal.returns-then-not-is_committed-clause-none
returns-then-not-is_committed-clause-none g c = λ told seen. tt

pub returns-then-not-is_committed-clause-last : goal.returns-then-not-is_committed-clause-last
returns-then-not-is_committed-clause-last g c = λ some. one_behind _ _ (c.requires.last some)

pub returns-then-not-is_committed-clause-fails : goal.returns-then-not-is_committed-clause-fails
returns-then-not-is_committed-clause-fails g c = tt

pub returns-then-first-seen-clause-reads : goal.returns-then-first-seen-clause-reads
returns-then-first-seen-clause-reads g c = fewer_reads (g.F.Flash.state c.args.flash.now) (g.F.Flash.state c.look.new.flash) 1 (1 + _) c.look.ensures.reads (one_of _)

pub returns-then-first-seen-clause-few_reads : goal.returns-then-first-seen-clause-few_reads
returns-then-first-seen-clause-few_reads g c = tt

pub returns-then-first-seen-clause-listing : goal.returns-then-first-seen-clause-listing
returns-then-first-seen-clause-listing g c = c.look.ensures.room ∙ c.requires.listing

pub returns-then-first-seen-clause-room : goal.returns-then-first-seen-clause-room
returns-then-first-seen-clause-room g c = c.requires.room

pub returns-then-first-seen-clause-some : goal.returns-then-first-seen-clause-some
returns-then-first-seen-clause-some g c = λ told seen. tt

pub returns-then-first-seen-clause-last : goal.returns-then-first-seen-clause-last
returns-then-first-seen-clause-last g c = tt

pub returns-then-first-seen-clause-fails : goal.returns-then-first-seen-clause-fails
returns-then-first-seen-clause-fails g c = tt

pub returns-in_err-has-clause-listing : goal.returns-in_err-has-clause-listing
returns-in_err-has-clause-listing g c = c.look.ensures.room ∙ c.requires.listing

pub returns-in_err-has-clause-room : goal.returns-in_err-has-clause-room
returns-in_err-has-clause-room g c = c.has_entries.ensures.room

pub returns-in_err-has-clause-fails : goal.returns-in_err-has-clause-fails
returns-in_err-has-clause-fails g c =
    let p = err_from_is_err_and c.from_residual-in_err-has.result c.from_residual-in_err-has.ensures.1 in
    rw (p.1, p.2) (read_fails (g.F.Flash.state c.args.flash.now) (g.F.Flash.state c.look.new.flash) (g.F.Flash.state c.has_entries.new.flash) 1 1 c.look.ensures.reads c.in_err-has.field-0.0 c.in_err-has.ensures.fails)

pub returns-in_err-has-clause-few_reads : goal.returns-in_err-has-clause-few_reads
returns-in_err-has-clause-few_reads g c =
    let p = err_from_is_err_and c.from_residual-in_err-has.result c.from_residual-in_err-has.ensures.1 in
    rw p.1 tt

pub returns-in_err-has-clause-none : goal.returns-in_err-has-clause-none
returns-in_err-has-clause-none g c =
    let p = err_from_is_err_and c.from_residual-in_err-has.result c.from_residual-in_err-has.ensures.1 in
    rw p.1 tt

pub returns-in_err-has-clause-some : goal.returns-in_err-has-clause-some
returns-in_err-has-clause-some g c =
    let p = err_from_is_err_and c.from_residual-in_err-has.result c.from_residual-in_err-has.ensures.1 in
    rw p.1 tt

pub returns-in_err-has-clause-last : goal.returns-in_err-has-clause-last
returns-in_err-has-clause-last g c =
    let p = err_from_is_err_and c.from_residual-in_err-has.result c.from_residual-in_err-has.ensures.1 in
    rw p.1 tt

pub returns-then-not-has-clause-few_reads : goal.returns-then-not-has-clause-few_reads
returns-then-not-has-clause-few_reads g c = tt

pub returns-then-not-has-clause-listing : goal.returns-then-not-has-clause-listing
returns-then-not-has-clause-listing g c = c.look.ensures.room ∙ c.requires.listing

pub returns-then-not-has-clause-room : goal.returns-then-not-has-clause-room
returns-then-not-has-clause-room g c = c.has_entries.ensures.room

pub returns-then-not-has-clause-some : goal.returns-then-not-has-clause-some
returns-then-not-has-clause-some g c = λ told seen. tt

pub returns-then-not-has-clause-last : goal.returns-then-not-has-clause-last
returns-then-not-has-clause-last g c = tt

pub returns-then-not-has-clause-fails : goal.returns-then-not-has-clause-fails
returns-then-not-has-clause-fails g c = tt

pub returns-clause-listing : goal.returns-clause-listing
returns-clause-listing g c = c.look.ensures.room ∙ c.requires.listing

pub returns-clause-room : goal.returns-clause-room
returns-clause-room g c = c.has_entries.ensures.room

pub returns-clause-none : goal.returns-clause-none
returns-clause-none g c = λ told seen. tt

pub returns-clause-last : goal.returns-clause-last
returns-clause-last g c = λ some. behind _

pub returns-clause-fails : goal.returns-clause-fails
returns-clause-fails g c = tt

pub overflow_sub-l : goal.overflow_sub-l
overflow_sub-l g c = below-kept c.requires.kept

pub page_back-page-requires-clause-place : goal.page_back-page-requires-clause-place
page_back-page-requires-clause-place g c = c.requires.index_within.at

pub page_back-page-requires-clause-some : goal.page_back-page-requires-clause-some
page_back-page-requires-clause-some g c = some_back c.requires.kept

pub page_back-page-requires-clause-few : goal.page_back-page-requires-clause-few
page_back-page-requires-clause-few g c = few_back _ c.requires.index_within.kept

pub look-requires-clause-room : goal.look-requires-clause-room
look-requires-clause-room g c = c.requires.listing ∙ sym c.requires.index.page

pub look-requires-clause-size : goal.look-requires-clause-size
look-requires-clause-size g c = mark_fits _ _ c.requires.listing c.args.index.now.served.size

pub first_in-requires : goal.first_in-requires
first_in-requires g c = header_fits _ _ (ap length c.bytes-held.ensures ∙ (c.look.ensures.room ∙ c.requires.listing)) c.args.index.now.served.size

pub entries_in-many-requires-clause-some : goal.entries_in-many-requires-clause-some
entries_in-many-requires-clause-some g c = c.requires.some

pub entries_in-many-requires-clause-few : goal.entries_in-many-requires-clause-few
entries_in-many-requires-clause-few g c = c.requires.few

pub entries_in-many-requires-clause-header : goal.entries_in-many-requires-clause-header
entries_in-many-requires-clause-header g c = body-fits (ap length c.bytes-held.ensures ∙ (c.look.ensures.room ∙ c.requires.listing)) c.args.index.now.served.size

pub entries_in-many-requires-clause-short : goal.entries_in-many-requires-clause-short
entries_in-many-requires-clause-short g c = subst (λ (k : ℕ). k ≤ 4096) (sym (ap length c.bytes-held.ensures ∙ (c.look.ensures.room ∙ c.requires.listing))) c.args.index.now.small_pages

pub has_entries-requires-clause-lies : goal.has_entries-requires-clause-lies
has_entries-requires-clause-lies g c = lies_still c.args.rows.now (g.F.Flash.state c.args.flash.now) (g.F.Flash.state c.look.new.flash) c.requires.rows c.look.ensures.reads.goes

pub has_entries-requires-clause-room : goal.has_entries-requires-clause-room
has_entries-requires-clause-room g c = c.requires.room

pub has_entries-requires-clause-within : goal.has_entries-requires-clause-within
has_entries-requires-clause-within g c = c.requires.rows_within

pub has_entries-requires-clause-some : goal.has_entries-requires-clause-some
has_entries-requires-clause-some g c = c.requires.some

pub has_entries-requires-clause-few : goal.has_entries-requires-clause-few
has_entries-requires-clause-few g c = c.requires.few

pub has_entries-requires-clause-entries : goal.has_entries-requires-clause-entries
has_entries-requires-clause-entries g c = c.entries_in-many.ensures.room

pub has_entries-requires-clause-short : goal.has_entries-requires-clause-short
has_entries-requires-clause-short g c = subst (λ (k : ℕ). k ≤ 4096) (sym (ap length c.bytes-held.ensures ∙ (c.look.ensures.room ∙ c.requires.listing))) c.args.index.now.small_pages

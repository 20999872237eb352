use Rattle.std.proofs.Common.{rules, ◌≡◌, ◌<◌, ◌^◌, true, false, Ok, sym, ◌∙◌, ap, subst, arith, ◌≤◌}
use Rattle.std.specs.Borrow.{Bor}
use Rattle.std.proofs.lemmas.Result.{err_from_is_err_and}
use Rattle.std.proofs.lemmas.Bool.{true≢false}
use Rattle.fl_frame.specs.Contents.{Contents, contents_of}
use Rattle.fl_frame.proofs.ContentsInTurn.{OnlyReads-then}
use Rattle.fl_table.specs.Memory.{next_in}
use Rattle.fl_table.specs.declared.table.Table.{Table}
use Rattle.fl_cursor.specs.Cursor.{is_end, IfBad, MayBeBad, IsReady}
use Rattle.fl_cursor.specs.Going.{Goes, Fails, is_at_pages, pages_left}
use Rattle.fl_cursor.proofs.BehindLastPage.{ends-kept}
use Rattle.fl_cursor.proofs.Whole.{goes-then, fails-then, goes-nowhere, here-after, behind-pages}
use Rattle.fl_cursor.specs.Sound.{IsSoundAhead}
use Rattle.fl_cursor.proofs.SoundPages.{all-sound, end-kept}
use Rattle.fl_page.proofs.ReadsInTurn.{IsCaused-later}
use Rattle.fl_parts.proofs.Sizes.{table-fits}
use Rattle.fl_table.specs.Look.{oldest_in}
use Rattle.fl_cursor.proofs.cursor.Cursor.advance.Goals as goal

pub returns-in_err-find_start-clause-fails : goal.returns-in_err-find_start-clause-fails
returns-in_err-find_start-clause-fails g c =
    let held = contents_of (g.F.Flash.state c.args.flash.now) in
    let reads = (g.F.Flash.state c.args.flash.now).work.reads in
    let p = err_from_is_err_and c.from_residual.result c.from_residual.ensures.1 in
    rw p.1 (fails-then held reads reads (g.F.Flash.state c.find_start.new.flash).work.reads c.args.self.now _ c.find_start.new.self (goes-nowhere c.args.self.now held reads) c.in_err-find_start.ensures.fails)

pub step_in_page-requires : goal.step_in_page-requires
step_in_page-requires g c =
    let held = contents_of (g.F.Flash.state c.args.flash.now) in
    let ready = c.in_ok-find_start.ensures.goes.ready held ((goes-nowhere c.args.self.now held 0).ready held c.requires) in
    (search rules, (ready.placed, (c.in_ok-find_start.ensures.begun, (search (rules, arith), search (rules, arith)))))

pub returns-then-step_in_page-clause-here : goal.returns-then-step_in_page-clause-here
returns-then-step_in_page-clause-here g c = (c.if-step_in_page.ensures.goes (contents_of (g.F.Flash.state c.args.flash.now)) 0).notes.2

pub returns-then-step_in_page-clause-goes : goal.returns-then-step_in_page-clause-goes
returns-then-step_in_page-clause-goes g c =
    let held = contents_of (g.F.Flash.state c.args.flash.now) in
    let reads = (g.F.Flash.state c.args.flash.now).work.reads in
    let mid = (g.F.Flash.state c.find_start.new.flash).work.reads in
    goes-then true held reads mid mid c.args.self.now c.find_start.new.self c.step_in_page.new.self
    (goes-then false held reads reads mid c.args.self.now _ c.find_start.new.self (goes-nowhere c.args.self.now held reads) c.in_ok-find_start.ensures.goes)
    (c.if-step_in_page.ensures.goes held mid)

pub end_of_pages-end-requires : goal.end_of_pages-end-requires
end_of_pages-end-requires g c = (
  search rules,
  c.next_number-next_number.ensures.exact
      ∙ (ap (λ (t : Bor (Table g.row.KNOTS g.row.SLOTS)). next_in t.now) (sym c.in_ok-find_start.ensures.goes.keeps.table)
      ∙ ap (λ (t : Bor (Table g.row.KNOTS g.row.SLOTS)). next_in t.now) (sym (c.if-step_in_page.ensures.goes (contents_of (g.F.Flash.state c.args.flash.now)) 0).keeps.table)),
)

pub loop-self-init : goal.loop-self-init
loop-self-init g c =
    let held = contents_of (g.F.Flash.state c.args.flash.now) in
    let reads = (g.F.Flash.state c.args.flash.now).work.reads in
    let mid = (g.F.Flash.state c.find_start.new.flash).work.reads in
    let small : c.next_number-next_number.result < 2 ^ 32 = search rules in
    let is : c.next_number-next_number.result ≡ next_in c.step_in_page.new.self.table.now =
    c.next_number-next_number.ensures.exact
    ∙ (ap (λ (t : Bor (Table g.row.KNOTS g.row.SLOTS)). next_in t.now) (sym c.in_ok-find_start.ensures.goes.keeps.table)
    ∙ ap (λ (t : Bor (Table g.row.KNOTS g.row.SLOTS)). next_in t.now) (sym (c.if-step_in_page.ensures.goes held mid).keeps.table)) in
    record {
      reads_only = c.find_start.ensures.reads_only;
      goes = goes-then false held reads mid mid c.args.self.now c.find_start.new.self c.step_in_page.new.self
          (goes-then false held reads reads mid c.args.self.now _ c.find_start.new.self (goes-nowhere c.args.self.now held reads) c.in_ok-find_start.ensures.goes)
          (c.if-step_in_page.ensures.goes held mid);
      here = c.if-step_in_page.ensures.place.here ∙ c.find_start.ensures.here;
      begun = c.if-step_in_page.ensures.place.begun;
      outside = c.if-step_in_page.ensures.place.outside;
      ended = λ e. let was = c.in_ok-find_start.ensures.stays_ended e in ((c.if-step_in_page.ensures.place.stays_ended was.0).1, was.1);
      behind = λ past. let was = c.in_ok-find_start.ensures.behind past in ((c.if-step_in_page.ensures.place.behind was.0).1, was.1);
      few = omega (arith, small, is);
      end = search rules;
      end_is = c.end_of_pages-end.ensures.exact;
      sound = λ s. c.in_ok-find_start.ensures.sound (c.if-step_in_page.ensures.sound held s);
    }

pub returns-in_err-read_page-clause-reads_only : goal.returns-in_err-read_page-clause-reads_only
returns-in_err-read_page-clause-reads_only g c = OnlyReads-then _ _ _ c.loop-self.invariant.reads_only c.read_page.ensures.reads_only

pub returns-in_err-read_page-clause-fails : goal.returns-in_err-read_page-clause-fails
returns-in_err-read_page-clause-fails g c =
    let held = contents_of (g.F.Flash.state c.args.flash.now) in
    let p = err_from_is_err_and c.from_residual-in_err-read_page.result c.from_residual-in_err-read_page.ensures.1 in
    rw p.1 (fails-then held (g.F.Flash.state c.args.flash.now).work.reads (g.F.Flash.state c.loop-self.flash).work.reads (g.F.Flash.state c.read_page.new.flash).work.reads c.args.self.now c.loop-self.self c.read_page.new.self c.loop-self.invariant.goes
    (subst (λ (k : Contents). Fails k (g.F.Flash.state c.loop-self.flash).work.reads c.loop-self.self (g.F.Flash.state c.read_page.new.flash).work.reads c.read_page.new.self) c.loop-self.invariant.reads_only.contents c.in_err-read_page.ensures.fails))

pub step_in_page-requires-in-Pages : goal.step_in_page-requires-in-Pages
step_in_page-requires-in-Pages g c =
    let held = contents_of (g.F.Flash.state c.args.flash.now) in
    let ready = c.in_ok-read_page.ensures.goes.ready held (c.loop-self.invariant.goes.ready held c.requires) in (
      search rules,
      (
        ready.placed,
        (
          c.read_page.ensures.begun,
          (
            search (rules, arith),
            subst (λ (t : Bor (Table g.row.KNOTS g.row.SLOTS)). next_in t.now < 2 ^ 32) (sym c.in_ok-read_page.ensures.goes.keeps.table) c.loop-self.invariant.few,
          ),
        ),
      ),
    )

pub returns-then-step_in_page-2-clause-reads_only : goal.returns-then-step_in_page-2-clause-reads_only
returns-then-step_in_page-2-clause-reads_only g c = OnlyReads-then _ _ _ c.loop-self.invariant.reads_only c.read_page.ensures.reads_only

pub returns-then-step_in_page-2-clause-here : goal.returns-then-step_in_page-2-clause-here
returns-then-step_in_page-2-clause-here g c = (c.if-step_in_page-2.ensures.goes (contents_of (g.F.Flash.state c.args.flash.now)) 0).notes.2

pub returns-then-step_in_page-2-clause-goes : goal.returns-then-step_in_page-2-clause-goes
returns-then-step_in_page-2-clause-goes g c =
    let held = contents_of (g.F.Flash.state c.args.flash.now) in
    let reads = (g.F.Flash.state c.args.flash.now).work.reads in
    let mid = (g.F.Flash.state c.loop-self.flash).work.reads in
    let now = (g.F.Flash.state c.read_page.new.flash).work.reads in
    let page = subst (λ (k : Contents). Goes false k (g.F.Flash.state c.loop-self.flash).work.reads c.loop-self.self (g.F.Flash.state c.read_page.new.flash).work.reads c.read_page.new.self) c.loop-self.invariant.reads_only.contents c.in_ok-read_page.ensures.goes in
    goes-then true held reads now now c.args.self.now c.read_page.new.self c.step_in_page-in-Pages.new.self (goes-then false held reads mid now c.args.self.now c.loop-self.self c.read_page.new.self c.loop-self.invariant.goes page)
    (c.if-step_in_page-2.ensures.goes held now)

pub loop-self-smaller : goal.loop-self-smaller
loop-self-smaller g c =
    let held = contents_of (g.F.Flash.state c.args.flash.now) in
    let first = c.in_ok-read_page.ensures.fewer in
    let second = c.step_in_page-in-Pages.ensures.place.fewer in
    let table = c.in_ok-read_page.ensures.goes.keeps.table in
    let table_then = (c.if-step_in_page-2.ensures.goes held 0).keeps.table in
    let same = ap (λ (t : Bor (Table g.row.KNOTS g.row.SLOTS)). pages_left t.now c.step_in_page-in-Pages.new.self.place) table_then in
    let same_first = ap (λ (t : Bor (Table g.row.KNOTS g.row.SLOTS)). pages_left t.now c.step_in_page-in-Pages.new.self.place) table in
    let same_second = ap (λ (t : Bor (Table g.row.KNOTS g.row.SLOTS)). pages_left t.now c.read_page.new.self.place) table in
    omega (arith, first, second, same, same_first, same_second)

pub loop-self-preserved : goal.loop-self-preserved
loop-self-preserved g c =
    let held = contents_of (g.F.Flash.state c.args.flash.now) in
    let reads = (g.F.Flash.state c.args.flash.now).work.reads in
    let mid = (g.F.Flash.state c.loop-self.flash).work.reads in
    let now = (g.F.Flash.state c.read_page.new.flash).work.reads in
    let page = subst (λ (k : Contents). Goes false k (g.F.Flash.state c.loop-self.flash).work.reads c.loop-self.self (g.F.Flash.state c.read_page.new.flash).work.reads c.read_page.new.self) c.loop-self.invariant.reads_only.contents c.in_ok-read_page.ensures.goes in
    let back = subst (λ (k : Contents). IsSoundAhead c.read_page.new.self k → IsSoundAhead c.loop-self.self k) c.loop-self.invariant.reads_only.contents c.in_ok-read_page.ensures.sound in
    record {
      reads_only = OnlyReads-then _ _ _ c.loop-self.invariant.reads_only c.read_page.ensures.reads_only;
      goes = goes-then false held reads now now c.args.self.now c.read_page.new.self c.step_in_page-in-Pages.new.self (goes-then false held reads mid now c.args.self.now c.loop-self.self c.read_page.new.self c.loop-self.invariant.goes page)
          (c.if-step_in_page-2.ensures.goes held now);
      here = c.if-step_in_page-2.ensures.place.here ∙ (c.read_page.ensures.here ∙ c.loop-self.invariant.here);
      begun = c.if-step_in_page-2.ensures.place.begun;
      outside = c.if-step_in_page-2.ensures.place.outside;
      ended = λ e. absurd (true≢false (sym (c.loop-self.invariant.ended e).0 ∙ ap is_end c.in-Pages.is));
      behind = λ past. absurd (true≢false (sym (ap is_at_pages c.in-Pages.is) ∙ (c.loop-self.invariant.behind past).0));
      few = subst (λ (t : Bor (Table g.row.KNOTS g.row.SLOTS)). next_in t.now < 2 ^ 32) (sym (c.if-step_in_page-2.ensures.goes held now).keeps.table)
          (subst (λ (t : Bor (Table g.row.KNOTS g.row.SLOTS)). next_in t.now < 2 ^ 32) (sym page.keeps.table) c.loop-self.invariant.few);
      end = ends-kept c.read_page.new.self c.step_in_page-in-Pages.new.self c.end_of_pages-end.result (c.if-step_in_page-2.ensures.goes held now).keeps (c.if-step_in_page-2.ensures.goes held now).notes
          (ends-kept c.loop-self.self c.read_page.new.self c.end_of_pages-end.result page.keeps page.notes c.loop-self.invariant.end);
      end_is = end-kept c.read_page.new.self c.step_in_page-in-Pages.new.self c.end_of_pages-end.result (c.if-step_in_page-2.ensures.goes held now).keeps (c.if-step_in_page-2.ensures.goes held now).notes
          (end-kept c.loop-self.self c.read_page.new.self c.end_of_pages-end.result page.keeps page.notes c.loop-self.invariant.end_is);
      sound = λ s. c.loop-self.invariant.sound (back (c.if-step_in_page-2.ensures.sound held s));
    }

pub step_pending-requires : goal.step_pending-requires
step_pending-requires g c =
    let held = contents_of (g.F.Flash.state c.args.flash.now) in
    (search rules, ((c.loop-self.invariant.goes.ready held c.requires).placed, behind-pages c.loop-self.self.place c.loop-self.invariant.begun c.loop-self.invariant.outside c.in_default.not-Pages))

pub returns : goal.returns
returns g c =
    let held = contents_of (g.F.Flash.state c.args.flash.now) in
    let reads = (g.F.Flash.state c.args.flash.now).work.reads in
    let mid = (g.F.Flash.state c.loop-self.flash).work.reads in
    let goes = c.step_pending.ensures.goes held (g.F.Flash.state c.loop-self.flash).work.reads in
    record {
      reads_only = c.loop-self.invariant.reads_only;
      cause = tt;
      bad_page = tt;
      here = here-after c.step_pending.result c.loop-self.self c.step_pending.new.self goes.notes c.step_pending.ensures.here c.loop-self.invariant.here;
      goes = goes-then c.step_pending.result held reads mid mid c.args.self.now c.loop-self.self c.step_pending.new.self c.loop-self.invariant.goes goes;
      fails = tt;
      end = c.step_pending.ensures.end;
      sound = λ s. c.loop-self.invariant.sound (c.step_pending.ensures.sound held s);
      all_sound = all-sound c.step_pending.result c.args.self.now c.step_pending.new.self held c.step_pending.ensures.end (λ s. c.loop-self.invariant.sound (c.step_pending.ensures.sound held s));
      stays_ended = λ e. let was = c.loop-self.invariant.ended e in (ap (λ b. Ok b) (c.step_pending.ensures.stays_ended was.0), was.1);
      behind = λ past. (c.step_pending.ensures.behind, (c.loop-self.invariant.behind past).1, tt);
    }

pub returns-then-step_in_page-clause-sound : goal.returns-then-step_in_page-clause-sound
returns-then-step_in_page-clause-sound g c = λ s. c.in_ok-find_start.ensures.sound (c.if-step_in_page.ensures.sound (contents_of (g.F.Flash.state c.args.flash.now)) s)

pub returns-then-step_in_page-2-clause-sound : goal.returns-then-step_in_page-2-clause-sound
returns-then-step_in_page-2-clause-sound g c = λ s.
    let held = contents_of (g.F.Flash.state c.args.flash.now) in
    let back = subst (λ (k : Contents). IsSoundAhead c.read_page.new.self k → IsSoundAhead c.loop-self.self k) c.loop-self.invariant.reads_only.contents c.in_ok-read_page.ensures.sound in
    c.loop-self.invariant.sound (back (c.if-step_in_page-2.ensures.sound held s))

pub returns-then-step_in_page-clause-cause : goal.returns-then-step_in_page-clause-cause
returns-then-step_in_page-clause-cause g c = tt

pub returns-then-step_in_page-clause-bad_page : goal.returns-then-step_in_page-clause-bad_page
returns-then-step_in_page-clause-bad_page g c = tt

pub returns-then-step_in_page-clause-fails : goal.returns-then-step_in_page-clause-fails
returns-then-step_in_page-clause-fails g c = tt

pub returns-then-step_in_page-clause-end : goal.returns-then-step_in_page-clause-end
returns-then-step_in_page-clause-end g c = tt

pub returns-then-step_in_page-clause-all_sound : goal.returns-then-step_in_page-clause-all_sound
returns-then-step_in_page-clause-all_sound g c = tt

pub returns-then-step_in_page-2-clause-cause : goal.returns-then-step_in_page-2-clause-cause
returns-then-step_in_page-2-clause-cause g c = tt

pub returns-then-step_in_page-2-clause-bad_page : goal.returns-then-step_in_page-2-clause-bad_page
returns-then-step_in_page-2-clause-bad_page g c = tt

pub returns-then-step_in_page-2-clause-fails : goal.returns-then-step_in_page-2-clause-fails
returns-then-step_in_page-2-clause-fails g c = tt

pub returns-then-step_in_page-2-clause-end : goal.returns-then-step_in_page-2-clause-end
returns-then-step_in_page-2-clause-end g c = tt

pub returns-then-step_in_page-2-clause-all_sound : goal.returns-then-step_in_page-2-clause-all_sound
returns-then-step_in_page-2-clause-all_sound g c = tt

pub returns-then-step_in_page-clause-reads_only : goal.returns-then-step_in_page-clause-reads_only
returns-then-step_in_page-clause-reads_only g c = c.find_start.ensures.reads_only

pub returns-then-step_in_page-clause-stays_ended : goal.returns-then-step_in_page-clause-stays_ended
returns-then-step_in_page-clause-stays_ended g c = λ e. let was = c.in_ok-find_start.ensures.stays_ended e in absurd (true≢false (c.if-step_in_page.ensures.place.stays_ended was.0).0)

pub returns-then-step_in_page-clause-behind : goal.returns-then-step_in_page-clause-behind
returns-then-step_in_page-clause-behind g c = λ past. let was = c.in_ok-find_start.ensures.behind past in absurd (true≢false (c.if-step_in_page.ensures.place.behind was.0).0)

pub returns-then-step_in_page-2-clause-stays_ended : goal.returns-then-step_in_page-2-clause-stays_ended
returns-then-step_in_page-2-clause-stays_ended g c = λ e. absurd (true≢false (sym (c.loop-self.invariant.ended e).0 ∙ ap is_end c.in-Pages.is))

pub returns-then-step_in_page-2-clause-behind : goal.returns-then-step_in_page-2-clause-behind
returns-then-step_in_page-2-clause-behind g c = λ past. absurd (true≢false (sym (ap is_at_pages c.in-Pages.is) ∙ (c.loop-self.invariant.behind past).0))

pub returns-in_err-find_start-clause-here : goal.returns-in_err-find_start-clause-here
returns-in_err-find_start-clause-here g c = let p = err_from_is_err_and c.from_residual.result c.from_residual.ensures.1 in rw p.1 tt

pub returns-in_err-find_start-clause-goes : goal.returns-in_err-find_start-clause-goes
returns-in_err-find_start-clause-goes g c = let p = err_from_is_err_and c.from_residual.result c.from_residual.ensures.1 in rw p.1 tt

pub returns-in_err-find_start-clause-end : goal.returns-in_err-find_start-clause-end
returns-in_err-find_start-clause-end g c = let p = err_from_is_err_and c.from_residual.result c.from_residual.ensures.1 in rw p.1 tt

pub returns-in_err-find_start-clause-sound : goal.returns-in_err-find_start-clause-sound
returns-in_err-find_start-clause-sound g c = let p = err_from_is_err_and c.from_residual.result c.from_residual.ensures.1 in rw p.1 tt

pub returns-in_err-find_start-clause-all_sound : goal.returns-in_err-find_start-clause-all_sound
returns-in_err-find_start-clause-all_sound g c = let p = err_from_is_err_and c.from_residual.result c.from_residual.ensures.1 in rw p.1 tt

pub returns-in_err-read_page-clause-here : goal.returns-in_err-read_page-clause-here
returns-in_err-read_page-clause-here g c = let p = err_from_is_err_and c.from_residual-in_err-read_page.result c.from_residual-in_err-read_page.ensures.1 in rw p.1 tt

pub returns-in_err-read_page-clause-goes : goal.returns-in_err-read_page-clause-goes
returns-in_err-read_page-clause-goes g c = let p = err_from_is_err_and c.from_residual-in_err-read_page.result c.from_residual-in_err-read_page.ensures.1 in rw p.1 tt

pub returns-in_err-read_page-clause-end : goal.returns-in_err-read_page-clause-end
returns-in_err-read_page-clause-end g c = let p = err_from_is_err_and c.from_residual-in_err-read_page.result c.from_residual-in_err-read_page.ensures.1 in rw p.1 tt

pub returns-in_err-read_page-clause-sound : goal.returns-in_err-read_page-clause-sound
returns-in_err-read_page-clause-sound g c = let p = err_from_is_err_and c.from_residual-in_err-read_page.result c.from_residual-in_err-read_page.ensures.1 in rw p.1 tt

pub returns-in_err-read_page-clause-all_sound : goal.returns-in_err-read_page-clause-all_sound
returns-in_err-read_page-clause-all_sound g c = let p = err_from_is_err_and c.from_residual-in_err-read_page.result c.from_residual-in_err-read_page.ensures.1 in rw p.1 tt

pub returns-in_err-find_start-clause-reads_only : goal.returns-in_err-find_start-clause-reads_only
returns-in_err-find_start-clause-reads_only g c = c.find_start.ensures.reads_only

pub returns-in_err-find_start-clause-cause : goal.returns-in_err-find_start-clause-cause
returns-in_err-find_start-clause-cause g c = let p = err_from_is_err_and c.from_residual.result c.from_residual.ensures.1 in rw (p.1, p.2) c.in_err-find_start.ensures.cause

pub returns-in_err-find_start-clause-bad_page : goal.returns-in_err-find_start-clause-bad_page
returns-in_err-find_start-clause-bad_page g c = let p = err_from_is_err_and c.from_residual.result c.from_residual.ensures.1 in rw (p.1, p.2) c.in_err-find_start.ensures.bad_page

pub returns-in_err-find_start-clause-stays_ended : goal.returns-in_err-find_start-clause-stays_ended
returns-in_err-find_start-clause-stays_ended g c = λ e. absurd (c.in_err-find_start.ensures.stays_ended e).2

pub returns-in_err-find_start-clause-behind : goal.returns-in_err-find_start-clause-behind
returns-in_err-find_start-clause-behind g c = λ past. absurd (c.in_err-find_start.ensures.behind past).2

pub returns-in_err-read_page-clause-stays_ended : goal.returns-in_err-read_page-clause-stays_ended
returns-in_err-read_page-clause-stays_ended g c = λ e. absurd (true≢false (sym (c.loop-self.invariant.ended e).0 ∙ ap is_end c.in-Pages.is))

pub returns-in_err-read_page-clause-behind : goal.returns-in_err-read_page-clause-behind
returns-in_err-read_page-clause-behind g c = λ past. absurd (true≢false (sym (ap is_at_pages c.in-Pages.is) ∙ (c.loop-self.invariant.behind past).0))

pub returns-in_err-read_page-clause-cause : goal.returns-in_err-read_page-clause-cause
returns-in_err-read_page-clause-cause g c = let p = err_from_is_err_and c.from_residual-in_err-read_page.result c.from_residual-in_err-read_page.ensures.1 in rw (p.1, p.2) (IsCaused-later (g.F.Flash.state c.args.flash.now) (g.F.Flash.state c.loop-self.flash) (g.F.Flash.state c.read_page.new.flash) c.in_err-read_page.field-0.0 c.loop-self.invariant.reads_only c.in_err-read_page.ensures.cause)

pub returns-in_err-read_page-clause-bad_page : goal.returns-in_err-read_page-clause-bad_page
returns-in_err-read_page-clause-bad_page g c =
    let p = err_from_is_err_and c.from_residual-in_err-read_page.result c.from_residual-in_err-read_page.ensures.1 in
    rw (p.1, p.2) (subst (λ (k : Contents). IfBad (MayBeBad c.args.self.now.table.now k) c.in_err-read_page.field-0.0) c.loop-self.invariant.reads_only.contents
    (subst (λ (t : Bor (Table g.row.KNOTS g.row.SLOTS)). IfBad (MayBeBad t.now (contents_of (g.F.Flash.state c.loop-self.flash))) c.in_err-read_page.field-0.0) c.loop-self.invariant.goes.keeps.table c.in_err-read_page.ensures.bad_page))

pub next_number-next_number-requires : goal.next_number-next_number-requires
next_number-next_number-requires g c = table-fits g.row.KNOTS g.row.SLOTS c.args.self.now.table.now.few_knots c.args.self.now.table.now.few_slots

pub find_start-requires : goal.find_start-requires
find_start-requires g c =
    let ready = (goes-nowhere c.args.self.now (contents_of (g.F.Flash.state c.args.flash.now)) 0).ready (contents_of (g.F.Flash.state c.args.flash.now)) c.requires in
    (omega arith, (ready, subst (λ n. oldest_in c.args.self.now.table.now ≤ n) c.next_number-next_number.ensures.exact c.next_number-next_number.ensures.ordered))

pub read_page-requires : goal.read_page-requires
read_page-requires g c = (
  omega arith,
  (
    c.loop-self.invariant.goes.ready _ (subst (IsReady c.args.self.now) (sym c.loop-self.invariant.reads_only.contents) c.requires),
    (c.in-Pages.is, (c.loop-self.invariant.end, c.loop-self.invariant.end_is)),
  ),
)

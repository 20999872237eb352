use Rattle.std.proofs.Common.{◌<◌, ◌≤◌, refl, sym, subst}
use Rattle.std.proofs.lemmas.Option.{none-some}
use Rattle.std.proofs.lemmas.Result.{err_from_is_err_and}
use Rattle.fl_frame.proofs.ContentsInTurn.{OnlyReads-same}
use Rattle.fl_frame.proofs.ReadsInTurn.{none_read}
use Rattle.fl_var.proofs.Readers.{gone-before, gone-uncommitted, not-gone, bad-behind, bad-first, bad-short}
use Rattle.fl_var.proofs.var_data.VarData.find_first.Goals as goal

pub returns-then-at-oldest-clause-reads : goal.returns-then-at-oldest-clause-reads
returns-then-at-oldest-clause-reads g c = none_read (g.F.Flash.state c.args.flash.now) 1

pub returns-then-at-oldest-clause-counts : goal.returns-then-at-oldest-clause-counts
returns-then-at-oldest-clause-counts g c = OnlyReads-same (g.F.Flash.state c.args.flash.now)

pub returns-then-at-oldest-clause-pending : goal.returns-then-at-oldest-clause-pending
returns-then-at-oldest-clause-pending g c = λ le. (refl, tt)

pub returns-then-at-oldest-clause-lies : goal.returns-then-at-oldest-clause-lies
returns-then-at-oldest-clause-lies g c = c.requires.lies

pub returns-then-at-oldest-clause-room : goal.returns-then-at-oldest-clause-room
returns-then-at-oldest-clause-room g c = refl

pub returns-then-next_number-at-clause-reads : goal.returns-then-next_number-at-clause-reads
returns-then-next_number-at-clause-reads g c = none_read (g.F.Flash.state c.args.flash.now) 1

pub returns-then-next_number-at-clause-counts : goal.returns-then-next_number-at-clause-counts
returns-then-next_number-at-clause-counts g c = OnlyReads-same (g.F.Flash.state c.args.flash.now)

pub returns-then-next_number-at-clause-pending : goal.returns-then-next_number-at-clause-pending
returns-then-next_number-at-clause-pending g c = λ le. (refl, tt)

pub returns-then-next_number-at-clause-lies : goal.returns-then-next_number-at-clause-lies
returns-then-next_number-at-clause-lies g c = c.requires.lies

pub returns-then-next_number-at-clause-room : goal.returns-then-next_number-at-clause-room
returns-then-next_number-at-clause-room g c = refl

pub returns-then-at-oldest-clause-gone : goal.returns-then-at-oldest-clause-gone
returns-then-at-oldest-clause-gone g c = λ told none. gone-before c.args.self.now (g.F.Flash.state c.args.flash.now) c.args.at c.requires.some (subst (λ n. c.args.at.page < n) c.oldest.ensures.exact c.if-at-oldest.true)

pub returns-then-next_number-at-clause-bad : goal.returns-then-next_number-at-clause-bad
returns-then-next_number-at-clause-bad g c = λ told. bad-behind c.args.self.now (g.F.Flash.state c.args.flash.now) c.args.at c.end_fault.result c.requires.some (subst (λ n. n < c.args.at.page) c.next_number.ensures c.if-next_number-at.true) c.end_fault.ensures

pub returns-in_err-used-clause-reads : goal.returns-in_err-used-clause-reads
returns-in_err-used-clause-reads g c = c.find_content.ensures.reads

pub returns-in_err-used-clause-counts : goal.returns-in_err-used-clause-counts
returns-in_err-used-clause-counts g c = c.find_content.ensures.counts

pub returns-in_err-used-clause-lies : goal.returns-in_err-used-clause-lies
returns-in_err-used-clause-lies g c = c.find_content.ensures.lies

pub returns-in_err-used-clause-room : goal.returns-in_err-used-clause-room
returns-in_err-used-clause-room g c = c.find_content.ensures.room

pub returns-in_default-clause-reads : goal.returns-in_default-clause-reads
returns-in_default-clause-reads g c = c.find_content.ensures.reads

pub returns-in_default-clause-counts : goal.returns-in_default-clause-counts
returns-in_default-clause-counts g c = c.find_content.ensures.counts

pub returns-in_default-clause-lies : goal.returns-in_default-clause-lies
returns-in_default-clause-lies g c = c.find_content.ensures.lies

pub returns-in_default-clause-room : goal.returns-in_default-clause-room
returns-in_default-clause-room g c = c.find_content.ensures.room

pub returns-then-used-at-clause-reads : goal.returns-then-used-at-clause-reads
returns-then-used-at-clause-reads g c = c.find_content.ensures.reads

pub returns-then-used-at-clause-counts : goal.returns-then-used-at-clause-counts
returns-then-used-at-clause-counts g c = c.find_content.ensures.counts

pub returns-then-used-at-clause-lies : goal.returns-then-used-at-clause-lies
returns-then-used-at-clause-lies g c = c.find_content.ensures.lies

pub returns-then-used-at-clause-room : goal.returns-then-used-at-clause-room
returns-then-used-at-clause-room g c = c.find_content.ensures.room

pub returns-clause-reads : goal.returns-clause-reads
returns-clause-reads g c = c.find_content.ensures.reads

pub returns-clause-counts : goal.returns-clause-counts
returns-clause-counts g c = c.find_content.ensures.counts

pub returns-clause-lies : goal.returns-clause-lies
returns-clause-lies g c = c.find_content.ensures.lies

pub returns-clause-room : goal.returns-clause-room
returns-clause-room g c = c.find_content.ensures.room

pub returns-in_err-used-clause-pending : goal.returns-in_err-used-clause-pending
returns-in_err-used-clause-pending g c =
    λ le.
    let p = err_from_is_err_and c.from_residual.result c.from_residual.ensures.1 in
    let h = c.in_err-used.ensures.pending le in
    (h.0, rw (p.1, p.2) h.1)

pub returns-in_default-clause-pending : goal.returns-in_default-clause-pending
returns-in_default-clause-pending g c = λ le. ((c.in_ok-used.ensures.pending le).0, tt)

pub returns-then-used-at-clause-pending : goal.returns-then-used-at-clause-pending
returns-then-used-at-clause-pending g c = λ le. ((c.in_ok-used.ensures.pending le).0, tt)

pub returns-clause-pending : goal.returns-clause-pending
returns-clause-pending g c = λ le. ((c.in_ok-used.ensures.pending le).0, tt)

pub returns-in_err-used-clause-gone : goal.returns-in_err-used-clause-gone
returns-in_err-used-clause-gone g c =
    λ told.
    let p = err_from_is_err_and c.from_residual.result c.from_residual.ensures.1 in
    rw p.1 tt

pub returns-in_err-used-clause-stands : goal.returns-in_err-used-clause-stands
returns-in_err-used-clause-stands g c =
    λ told.
    let p = err_from_is_err_and c.from_residual.result c.from_residual.ensures.1 in
    rw p.1 tt

pub returns-in_err-used-clause-holds : goal.returns-in_err-used-clause-holds
returns-in_err-used-clause-holds g c =
    λ told lt.
    let p = err_from_is_err_and c.from_residual.result c.from_residual.ensures.1 in
    rw p.1 tt

pub returns-in_err-used-clause-within : goal.returns-in_err-used-clause-within
returns-in_err-used-clause-within g c =
    let p = err_from_is_err_and c.from_residual.result c.from_residual.ensures.1 in
    rw p.1 tt

pub returns-in_err-used-clause-fails : goal.returns-in_err-used-clause-fails
returns-in_err-used-clause-fails g c =
    let p = err_from_is_err_and c.from_residual.result c.from_residual.ensures.1 in
    rw (p.1, p.2) c.in_err-used.ensures.fails

pub returns-in_err-used-clause-bad : goal.returns-in_err-used-clause-bad
returns-in_err-used-clause-bad g c =
    λ told.
    let p = err_from_is_err_and c.from_residual.result c.from_residual.ensures.1 in
    rw (p.1, p.2) (bad-first c.args.self.now (g.F.Flash.state c.args.flash.now) c.args.at c.in_err-used.field-0.0 c.requires.some (subst (λ n. n ≤ c.args.at.page) c.oldest.ensures.exact c.if-at-oldest.false) (subst (λ n. c.args.at.page ≤ n) c.next_number.ensures c.if-next_number-at.false) (c.in_err-used.ensures.bad told))

pub returns-in_default-clause-gone : goal.returns-in_default-clause-gone
returns-in_default-clause-gone g c = λ told none. gone-uncommitted c.args.self.now (g.F.Flash.state c.args.flash.now) c.args.at c.requires.some (c.in_ok-used.ensures.none told c.in_default.is)

pub returns-then-used-at-clause-bad : goal.returns-then-used-at-clause-bad
returns-then-used-at-clause-bad g c =
    λ told.
    let good = rw c.in-Some.is at c.in_ok-used.ensures.good told in
    bad-short c.args.self.now (g.F.Flash.state c.args.flash.now) c.args.at c.in-Some.used c.requires.some (subst (λ n. n ≤ c.args.at.page) c.oldest.ensures.exact c.if-at-oldest.false) (subst (λ n. c.args.at.page ≤ n) c.next_number.ensures c.if-next_number-at.false) c.if-used-at.true good

pub returns-clause-gone : goal.returns-clause-gone
returns-clause-gone g c = λ told none. absurd (none-some _ (sym none))

pub returns-clause-stands : goal.returns-clause-stands
returns-clause-stands g c =
    λ told.
    let good = rw c.in-Some.is at c.in_ok-used.ensures.good told in
    (not-gone c.args.self.now (g.F.Flash.state c.args.flash.now) c.args.at (subst (λ n. n ≤ c.args.at.page) c.oldest.ensures.exact c.if-at-oldest.false) good.0.committed, good.1, good.0)

pub returns-clause-holds : goal.returns-clause-holds
returns-clause-holds g c = λ told lt. c.in_ok-used.ensures.holds told lt

pub returns-clause-within : goal.returns-clause-within
returns-clause-within g c =
    let some = rw c.in-Some.is at c.in_ok-used.ensures.some in
    ((subst (λ n. c.args.at.page ≤ n) c.next_number.ensures c.if-next_number-at.false), c.if-used-at.false, some.1, some.2)

pub find_content-requires-clause-mounted : goal.find_content-requires-clause-mounted
find_content-requires-clause-mounted g c = c.requires.mounted

pub find_content-requires-clause-lies : goal.find_content-requires-clause-lies
find_content-requires-clause-lies g c = c.requires.lies

pub find_content-requires-clause-room : goal.find_content-requires-clause-room
find_content-requires-clause-room g c = c.requires.room

pub find_content-requires-clause-within : goal.find_content-requires-clause-within
find_content-requires-clause-within g c = (subst (λ n. c.args.at.page ≤ n) c.next_number.ensures c.if-next_number-at.false)

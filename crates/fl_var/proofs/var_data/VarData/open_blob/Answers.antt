use Rattle.std.proofs.Common.{rules, ◌≡◌, Bool, true, false, Ok, sym, subst, ◌+◌, ◌/◌, ◌≤◌, Some, None, Err, cond, refl, ◌∙◌, ap}
use Rattle.std.proofs.lemmas.Result.{err_from_is_err_and}
use Rattle.fl_var.specs.Reading.{data_of, turned, Finds, pages_left, Opens}
use Rattle.fl_var.specs.Standing.{Stands}
use Rattle.fl_var.specs.declared.var_data.VarData.{VarData}
use Rattle.std.proofs.lemmas.Bool.{false≢true}
use Rattle.fl_var.specs.Memory.{next_in, room_in, LiesOn}
use Rattle.fl_var.proofs.Readers.{same-ok, err-ok}
use Rattle.fl_var.proofs.var_data.VarData.open_blob.Goals as goal

pub returns-in_err-open-clause-finds : goal.returns-in_err-open-clause-finds
returns-in_err-open-clause-finds g c = λ plan table entry bytes told stands blob_is at_is holds.
    let f = g.F.Flash.state c.args.flash.now in
    let same : c.args.self.now ≡ data_of c.reader-reader.result = sym c.reader-reader.ensures.data in
    let p = err_from_is_err_and c.from_residual.result c.from_residual.ensures.1 in
    rw (p.1, p.2) (c.in_err-open.ensures.finds plan table entry bytes told (subst (λ (v : VarData). Stands v f plan table) same stands) blob_is at_is holds)

pub returns-then-not-branch-clause-finds : goal.returns-then-not-branch-clause-finds
returns-then-not-branch-clause-finds g c = λ plan table entry bytes told stands blob_is at_is holds.
    let f = g.F.Flash.state c.args.flash.now in
    let same : c.args.self.now ≡ data_of c.reader-reader.result = sym c.reader-reader.ensures.data in
    let gone : c.in_ok-open.field-0 ≡ false = search rules in
    subst (λ (b : Bool). Finds table entry bytes f (turned (Ok b) c.open.new.self)) gone
    (c.in_ok-open.ensures.finds plan table entry bytes told (subst (λ (v : VarData). Stands v f plan table) same stands) blob_is at_is holds)

pub returns-clause-finds : goal.returns-clause-finds
returns-clause-finds g c = λ plan table entry bytes told stands blob_is at_is holds.
    let f = g.F.Flash.state c.args.flash.now in
    let same : c.args.self.now ≡ data_of c.reader-reader.result = sym c.reader-reader.ensures.data in
    let there : c.in_ok-open.field-0 ≡ true = search rules in
    subst (λ (b : Bool). Finds table entry bytes f (turned (Ok b) c.open.new.self)) there
    (c.in_ok-open.ensures.finds plan table entry bytes told (subst (λ (v : VarData). Stands v f plan table) same stands) blob_is at_is holds)

pub reader-reader-requires-clause-mounted : goal.reader-reader-requires-clause-mounted
reader-reader-requires-clause-mounted g c = c.requires.mounted

pub reader-reader-requires-clause-room : goal.reader-reader-requires-clause-room
reader-reader-requires-clause-room g c = c.requires.room

pub open-requires : goal.open-requires
open-requires g c = record { lies = subst (λ (v : VarData). LiesOn v (g.F.Flash.state c.args.flash.now)) (sym c.reader-reader.ensures.data) c.requires.lies }

pub returns-in_err-open-clause-reads : goal.returns-in_err-open-clause-reads
returns-in_err-open-clause-reads g c = c.open.ensures.reads

pub returns-in_err-open-clause-counts : goal.returns-in_err-open-clause-counts
returns-in_err-open-clause-counts g c = c.open.ensures.counts

pub returns-in_err-open-clause-lies : goal.returns-in_err-open-clause-lies
returns-in_err-open-clause-lies g c = subst (λ (v : VarData). LiesOn v (g.F.Flash.state c.open.new.flash)) (c.open.ensures.data ∙ c.reader-reader.ensures.data) c.open.ensures.lies

pub returns-then-not-branch-clause-reads : goal.returns-then-not-branch-clause-reads
returns-then-not-branch-clause-reads g c = c.open.ensures.reads

pub returns-then-not-branch-clause-counts : goal.returns-then-not-branch-clause-counts
returns-then-not-branch-clause-counts g c = c.open.ensures.counts

pub returns-then-not-branch-clause-lies : goal.returns-then-not-branch-clause-lies
returns-then-not-branch-clause-lies g c = subst (λ (v : VarData). LiesOn v (g.F.Flash.state c.open.new.flash)) (c.open.ensures.data ∙ c.reader-reader.ensures.data) c.open.ensures.lies

pub returns-clause-reads : goal.returns-clause-reads
returns-clause-reads g c = c.open.ensures.reads

pub returns-clause-counts : goal.returns-clause-counts
returns-clause-counts g c = c.open.ensures.counts

pub returns-clause-lies : goal.returns-clause-lies
returns-clause-lies g c = subst (λ (v : VarData). LiesOn v (g.F.Flash.state c.open.new.flash)) (c.open.ensures.data ∙ c.reader-reader.ensures.data) c.open.ensures.lies

pub returns-in_err-open-clause-pending : goal.returns-in_err-open-clause-pending
returns-in_err-open-clause-pending g c =
    λ le.
    let p = err_from_is_err_and c.from_residual.result c.from_residual.ensures.1 in
    let h = c.in_err-open.ensures.pending (subst (λ (v : VarData). next_in v ≤ c.args.at.page) (sym c.reader-reader.ensures.data) le) in
    (h.0, rw (p.1, p.2) (h.1))

pub returns-then-not-branch-clause-pending : goal.returns-then-not-branch-clause-pending
returns-then-not-branch-clause-pending g c = λ le. ((c.open.ensures.pending (subst (λ (v : VarData). next_in v ≤ c.args.at.page) (sym c.reader-reader.ensures.data) le)).0, tt)

pub returns-clause-pending : goal.returns-clause-pending
returns-clause-pending g c = λ le. ((c.open.ensures.pending (subst (λ (v : VarData). next_in v ≤ c.args.at.page) (sym c.reader-reader.ensures.data) le)).0, tt)

pub returns-in_err-open-clause-empty : goal.returns-in_err-open-clause-empty
returns-in_err-open-clause-empty g c = λ none. absurd (err-ok _ (c.in_err-open.ensures.empty none).0)

pub returns-then-not-branch-clause-empty : goal.returns-then-not-branch-clause-empty
returns-then-not-branch-clause-empty g c = λ none. absurd (false≢true (sym c.if-not-branch.true ∙ same-ok (c.in_ok-open.ensures.empty none).0))

pub returns-clause-empty : goal.returns-clause-empty
returns-clause-empty g c = λ none. (refl, refl, (c.in_ok-open.ensures.empty none).1)

pub returns-in_err-open-clause-data : goal.returns-in_err-open-clause-data
returns-in_err-open-clause-data g c =
    let p = err_from_is_err_and c.from_residual.result c.from_residual.ensures.1 in
    rw p.1 tt

pub returns-in_err-open-clause-buffer : goal.returns-in_err-open-clause-buffer
returns-in_err-open-clause-buffer g c =
    let p = err_from_is_err_and c.from_residual.result c.from_residual.ensures.1 in
    rw p.1 tt

pub returns-in_err-open-clause-none : goal.returns-in_err-open-clause-none
returns-in_err-open-clause-none g c =
    let p = err_from_is_err_and c.from_residual.result c.from_residual.ensures.1 in
    rw p.1 tt

pub returns-in_err-open-clause-few : goal.returns-in_err-open-clause-few
returns-in_err-open-clause-few g c =
    let p = err_from_is_err_and c.from_residual.result c.from_residual.ensures.1 in
    rw p.1 tt

pub returns-in_err-open-clause-fails : goal.returns-in_err-open-clause-fails
returns-in_err-open-clause-fails g c =
    let p = err_from_is_err_and c.from_residual.result c.from_residual.ensures.1 in
    rw (p.1, p.2) c.in_err-open.ensures.fails

pub returns-in_err-open-clause-opens : goal.returns-in_err-open-clause-opens
returns-in_err-open-clause-opens g c =
    λ told.
    let p = err_from_is_err_and c.from_residual.result c.from_residual.ensures.1 in
    rw (p.1, p.2) (subst (λ (v : VarData). Opens v (g.F.Flash.state c.args.flash.now) c.args.at (Err c.in_err-open.field-0.0)) c.reader-reader.ensures.data (c.in_err-open.ensures.opens told))

pub returns-then-not-branch-clause-opens : goal.returns-then-not-branch-clause-opens
returns-then-not-branch-clause-opens g c = λ told. subst (λ (v : VarData). Opens v (g.F.Flash.state c.args.flash.now) c.args.at (Ok None)) c.reader-reader.ensures.data (subst (λ (b : Bool). Opens (data_of c.reader-reader.result) (g.F.Flash.state c.args.flash.now) c.args.at (turned (Ok b) c.open.new.self)) c.if-not-branch.true (c.in_ok-open.ensures.opens told))

pub returns-clause-opens : goal.returns-clause-opens
returns-clause-opens g c = λ told. subst (λ (v : VarData). Opens v (g.F.Flash.state c.args.flash.now) c.args.at (Ok (Some c.open.new.self))) c.reader-reader.ensures.data (subst (λ (b : Bool). Opens (data_of c.reader-reader.result) (g.F.Flash.state c.args.flash.now) c.args.at (turned (Ok b) c.open.new.self)) c.if-not-branch.false (c.in_ok-open.ensures.opens told))

pub returns-clause-data : goal.returns-clause-data
returns-clause-data g c = (c.open.ensures.data ∙ c.reader-reader.ensures.data, c.in_ok-open.ensures.left ∙ ap (λ (b : Bool). cond b c.args.at.length 0) c.if-not-branch.false)

pub returns-clause-buffer : goal.returns-clause-buffer
returns-clause-buffer g c = c.open.ensures.buffer ∙ c.reader-reader.ensures.buffer

pub returns-clause-none : goal.returns-clause-none
returns-clause-none g c = c.open.ensures.none

pub returns-clause-few : goal.returns-clause-few
returns-clause-few g c = subst (λ (v : VarData). pages_left c.open.new.self ≤ c.args.at.length / room_in v + 1) c.reader-reader.ensures.data c.open.ensures.few

use Rattle.std.proofs.Common.{◌≡◌, ◌+◌, sym, subst, arith}
use Rattle.std.proofs.lemmas.Result.{IfOk-weaker}
use Rattle.fl_flash.specs.Flash.{page_at}
use Rattle.fl_index.specs.Page.{page_first}
use Rattle.fl_ring.specs.Newest.{page_back}
use Rattle.fl_ring.specs.Place.{shape_of}
use Rattle.fl_check.specs.Entries.{over}
use Rattle.fl_rules.specs.Told.{TellsPage}
use Rattle.fl_check.proofs.ListedPages.{entry_for, told_for, no_entry}
use Rattle.fl_check.proofs.rule_6_entry.is_entry.Goals as goal

pub returns-in-None-clause-yes : goal.returns-in-None-clause-yes
returns-in-None-clause-yes g c =
    let number : c.from.result + c.from-2.result ≡ page_first c.args.listing.now + c.args.j = omega (arith, c.from.ensures, c.from-2.ensures, c.first_in.ensures) in
    λ yes told. no_entry (page_at (g.F.Flash.state c.args.flash.now)) (shape_of c.args.rows.now) (over c.args.l) c.args.listing.now c.args.j
    (λ back some few e. c.in-None.ensures.none back some few (omega (arith, e, number)))

pub returns-in-Some-clause-yes : goal.returns-in-Some-clause-yes
returns-in-Some-clause-yes g c =
    let page = page_at (g.F.Flash.state c.args.flash.now) in
    let rows = shape_of c.args.rows.now in
    let l = over c.args.l in
    let back = c.in-Some.ensures.some in
    IfOk-weaker c.tells_back.result _ _
    (λ is tells yes told. entry_for page rows l c.args.listing.now c.args.j c.in-Some.back (omega (arith, back.2, c.from.ensures, c.from-2.ensures, c.first_in.ensures))
    (subst (TellsPage l.layout (page (page_back rows l.rows.marks.at c.in-Some.back))) c.found_in-entry.ensures (tells yes told)))
    c.tells_back.ensures.yes

pub returns-in-Some-clause-no : goal.returns-in-Some-clause-no
returns-in-Some-clause-no g c =
    let page = page_at (g.F.Flash.state c.args.flash.now) in
    let rows = shape_of c.args.rows.now in
    let l = over c.args.l in
    let back = c.in-Some.ensures.some in
    IfOk-weaker c.tells_back.result _ _
    (λ is tells no told entry. tells no told (subst (TellsPage l.layout (page (page_back rows l.rows.marks.at c.in-Some.back))) (sym c.found_in-entry.ensures)
    (told_for page rows l c.args.listing.now c.args.j c.in-Some.back back.0 back.1 (omega (arith, back.2, c.from.ensures, c.from-2.ensures, c.first_in.ensures)) entry)))
    c.tells_back.ensures.no

pub returns-in-None-clause-room : goal.returns-in-None-clause-room
returns-in-None-clause-room g c = c.requires.room

pub returns-in-None-clause-fails : goal.returns-in-None-clause-fails
returns-in-None-clause-fails g c = tt

pub returns-in-Some-clause-room : goal.returns-in-Some-clause-room
returns-in-Some-clause-room g c = c.tells_back.ensures.room

pub returns-in-Some-clause-fails : goal.returns-in-Some-clause-fails
returns-in-Some-clause-fails g c = c.tells_back.ensures.fails

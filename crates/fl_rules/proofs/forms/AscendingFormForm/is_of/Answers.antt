use Rattle.std.proofs.Common.{rules, None, sym, subst}
use Rattle.std.proofs.lemmas.Bool.{false≢true}
use Rattle.fl_rules.proofs.Rooms.{view-fits, has_header}
use Rattle.fl_page.specs.Steps.{Ascends}
use Rattle.fl_page.specs.View.{page_of, layout_of_page, count_of}
use Rattle.fl_schema.specs.Schema.{layout_of}
use Rattle.fl_rules.proofs.DataPages.{rows_seen}
use Rattle.fl_rules.proofs.forms.AscendingFormForm.is_of.Goals as goal

pub of-requires : goal.of-requires
of-requires g c = (search rules, (view-fits, has_header c.requires.least))

pub keys_ascend-requires : goal.keys_ascend-requires
keys_ascend-requires g c = view-fits

pub returns-in-Ok : goal.returns-in-Ok
returns-in-Ok g c =
    let view = c.in-Ok.view in
    let rows = rows_seen (layout_of c.args.self.now.schema.now) (layout_of_page view) c.args.page.now (page_of view) (count_of view) c.in-Ok.ensures.0 c.in-Ok.ensures.1 c.in-Ok.ensures.2 in
    record {
      exact = (
        λ so. (c.in-Ok.ensures.3, subst (Ascends None) rows (c.keys_ascend.ensures.0 so)),
        λ is. c.keys_ascend.ensures.1 (subst (Ascends None) (sym rows) is.1),
      );
    }

pub returns-in-Err : goal.returns-in-Err
returns-in-Err g c = record { exact = (λ so. absurd (false≢true so), λ is. absurd (c.in-Err.ensures.1 is.0)) }

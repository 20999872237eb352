use Rattle.std.proofs.Common.{ℕ, List, refl}
use Rattle.std.specs.Prelude.{slice_get}
use Rattle.fl_base.specs.Causes.{AppendsFront}
use Rattle.fl_image_check.specs.Report.{is_sound, finding_text}
use Rattle.fl_image_check.proofs.ToldTables.{named}
use Rattle.fl_image_check.proofs.tables.tell_first.Goals as goal

pub returns-in-Err-clause-told : goal.returns-in-Err-clause-told
returns-in-Err-clause-told g c told =
    let found = c.in_ok-finding.finding in (
      is_sound found,
      (record {
        found = found;
        is = c.in_ok-finding.ensures.finding told;
        sound_is = refl;
        text = named (slice_get c.args.config.now.plans c.args.i) c.name.result
            (λ (name : List ℕ). AppendsFront (g.K.Sink.written c.args.out.now) (g.K.Sink.written c.write_finding.new.out) (finding_text name found)) c.name.ensures c.in-Err.ensures.text;
      }),
    )

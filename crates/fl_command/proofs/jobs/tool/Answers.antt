use Rattle.std.proofs.Common.{sym, subst, refl, ap}
use Rattle.fl_import.specs.Taken.{end_of}
use Rattle.fl_command.specs.declared.words.ToolJob.{ToolJob}
use Rattle.fl_command.specs.Ends.{Exports, Imports, ToolEnds, ends_of}
use Rattle.fl_command.specs.declared.exit.Exit.TheVariants.{Job}
use Rattle.fl_command.proofs.jobs.tool.Goals as goal

pub returns-in-Export : goal.returns-in-Export
returns-in-Export g c =
    let old = ends_of (g.M.Media.state c.args.media.now) c.args.input.now (g.S.Source.left c.args.input.now) (g.S.Source.faults c.args.input.now) c.args.out.now (g.K.Sink.written c.args.out.now) (g.K.Sink.faults c.args.out.now) in
    let new = ends_of (g.M.Media.state c.export_image.new.media) c.args.input.now (g.S.Source.left c.args.input.now) (g.S.Source.faults c.args.input.now) c.export_image.new.out (g.K.Sink.written c.export_image.new.out) (g.K.Sink.faults c.export_image.new.out) in
    let did = c.export_image.ensures in
    let end = end_of c.export_image.result in
    let exports : Exports c.in-Export.name c.in-Export.range old new end = record {
      ends = did.ends;
      repairs = did.repairs;
      over = did.over;
      fits = did.fits;
      device = did.device;
      known = did.known;
      untouched = did.untouched;
      changes = did.changes;
      write = did.write;
      plain = refl;
      unread = refl;
      later = did.later;
      keeps = did.keeps;
    } in
    subst (λ (job : ToolJob). ToolEnds job old new (Job c.of-in-Export.result)) (sym c.in-Export.is) (end, ap Job c.of-in-Export.ensures, exports)

pub returns-in-Import : goal.returns-in-Import
returns-in-Import g c =
    let old = ends_of (g.M.Media.state c.args.media.now) c.args.input.now (g.S.Source.left c.args.input.now) (g.S.Source.faults c.args.input.now) c.args.out.now (g.K.Sink.written c.args.out.now) (g.K.Sink.faults c.args.out.now) in
    let new = ends_of (g.M.Media.state c.import_image.new.media) c.import_image.new.input (g.S.Source.left c.import_image.new.input) (g.S.Source.faults c.import_image.new.input) c.import_image.new.out (g.K.Sink.written c.import_image.new.out) (g.K.Sink.faults c.import_image.new.out) in
    let did = c.import_image.ensures in
    let imports : Imports c.in-Import.name c.in-Import.gone old new c.import_image.result = record {
      ends = did.ends;
      repairs = did.repairs;
      over = did.over;
      kept = did.kept;
      form = did.form;
      formed = did.formed;
      fits = did.fits;
      device = did.device;
      known = did.known;
      untouched = did.untouched;
      unread = did.unread;
      changes = did.changes;
      read = did.read;
      write = did.write;
      later = did.later;
      keeps = did.keeps;
    } in
    subst (λ (job : ToolJob). ToolEnds job old new (Job c.import_image.result)) (sym c.in-Import.is) (c.import_image.result, refl, imports)

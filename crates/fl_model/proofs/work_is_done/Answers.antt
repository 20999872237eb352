use Rattle.std.proofs.Common.{◌∙◌}
use Rattle.fl_model.specs.Within.{effect_within, seals_within}
use Rattle.fl_model.proofs.Among.{seals-all_done}
use Rattle.fl_model.proofs.Performs.{performs-whole}
use Rattle.fl_model.proofs.PutAmongTables.{put-whole}
use Rattle.fl_model.proofs.work_is_done.Goals as goal

pub returns : goal.returns
returns c = record {
  seals = λ plan rings rose device table now h whole.
      let w = performs-whole (λ operation. operation.1) (effect_within plan) rose (seals_within plan rings table) device table now h whole in
      (w.0 ∙ seals-all_done plan rings table, w.1);
  put = put-whole;
}

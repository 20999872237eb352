use Rattle.fl_mark.proofs.InModel.{model_state}
use Rattle.fl_mark.proofs.page_state.states_are_the_models.Goals as goal

pub returns : goal.returns
returns c = model_state

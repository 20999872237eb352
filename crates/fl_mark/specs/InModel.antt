-- The states of a page in the words of the store's model.
use Rattle.std.specs.Prelude.{◌≡◌, ◌↔◌, ℕ, List, IsTrue}
use Rattle.fl_model.specs.Layout.{is_blank, is_committed, is_void, IsTornPage}
use Rattle.fl_mark.specs.declared.page_state.PageState.TheVariants.{Blank, Torn, Committed, Void}
use Rattle.fl_mark.specs.Mark.{state_of_page}

-- each state is the one that the model names so
pub record IsModelState (page : List ℕ) : Type 0 where
  pub blank : (state_of_page page ≡ Blank) ↔ IsTrue (is_blank page)
  pub committed : (state_of_page page ≡ Committed) ↔ IsTrue (is_committed page)
  pub void : (state_of_page page ≡ Void) ↔ IsTrue (is_void page)
  pub torn : (state_of_page page ≡ Torn) ↔ IsTornPage page

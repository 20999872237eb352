-- The bytes of a page of variable data.
use Rattle.std.specs.Prelude.{◌≡◌, ℕ, ◌-◌, ◌≤◌, List, length, take, drop}
use Rattle.fl_mark.specs.Mark.{state_of_page}
use Rattle.fl_mark.specs.declared.page_state.PageState.TheVariants.{Committed}
use Rattle.fl_model.specs.Layout as layout
use Rattle.fl_model.specs.Layout.{ContentPage, filled}
use Rattle.fl_page.specs.Header.{page_number, page_count}

-- this content on a page with room for so many bytes, and the body of that page with its number
abbrev pub page_with : ℕ → List ℕ → ContentPage
page_with room content = record { used = length content; bytes = filled room content }

abbrev pub content_body : ℕ → ℕ → List ℕ → List ℕ
content_body room number content = layout.content_body number (page_with room content)

-- the content of a page, as many bytes as the page says to use
abbrev pub content_of : List ℕ → List ℕ
content_of page = take (page_count page) (drop 8 page)

-- a committed page with this number, and from one byte of content on as many as it has room for
pub record HasContent (number : ℕ) (page : List ℕ) : Type 0 where
  pub committed : state_of_page page ≡ Committed
  pub number_is : page_number page ≡ number
  pub some : 1 ≤ page_count page
  pub room : page_count page ≤ length page - 16

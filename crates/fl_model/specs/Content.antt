-- What a page of variable data holds.
use Rattle.std.specs.Prelude.{ℕ, ◌-◌, List, ◌++◌, length, replicate}
use Rattle.fl_model.specs.Record.{Plan, content_per_page}

-- filled up with FF
abbrev pub filled : ℕ → List ℕ → List ℕ
filled len bytes = bytes ++ replicate (len - length bytes) 255

-- the bytes of a page's content, of which so many are used
pub record ContentPage : Type 0 where
  pub used : ℕ
  pub bytes : List ℕ

-- a page of these bytes
abbrev pub content_page : Plan → List ℕ → ContentPage
content_page plan bytes = record { used = length bytes; bytes = filled (content_per_page plan) bytes }

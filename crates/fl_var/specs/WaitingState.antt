-- What contracts see of the content that waits for its page.
use Rattle.std.specs.Prelude.{◌≡◌, ℕ, ◌+◌, ◌-◌, List, length, take, drop, replicate}

-- the bytes of the body, and how many bytes of content there are
pub record WaitingState : Type 0 where
  pub body : List ℕ
  pub fill : ℕ

-- the content, which stands behind a header of eight bytes
abbrev pub content_in : WaitingState → List ℕ
content_in w = take w.fill (drop 8 w.body)

-- the bytes behind it are blank
abbrev pub IsBlankBehind : WaitingState → Type 0
IsBlankBehind w = drop (8 + w.fill) w.body ≡ replicate (length w.body - (8 + w.fill)) 255

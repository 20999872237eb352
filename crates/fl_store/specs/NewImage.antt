-- What a medium holds whose image was made or opened.
use Rattle.std.specs.Prelude.{ℕ, ◌-◌, List, [], ◌∷◌, ◌++◌, replicate}
use Rattle.fl_model.specs.Image.{medium_len}
use Rattle.fl_model.specs.Record.{Config}
use Rattle.fl_words.specs.Medium.{header}

-- the bytes of an image that was just made: its header, and blank pages
abbrev pub new_image : Config → List ℕ
new_image config = header config ++ replicate (medium_len config - 1024) 255

-- what a medium holds once its image is opened, which is made where it was empty
abbrev pub made_image : Config → List ℕ → List ℕ
made_image config [] = new_image config
made_image config (byte ∷ bytes) = byte ∷ bytes

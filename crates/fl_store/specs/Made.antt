-- What the making of an image does to its medium.
use Rattle.std.specs.Prelude.{ℕ, Bool, true, false, Result, Ok, Err, List}
use Rattle.fl_config.specs.Opening.{IsMade, IsFound, Opens}
use Rattle.fl_config.specs.declared.image.ImageRefusal.{ImageRefusal}
use Rattle.fl_flash.specs.Media.{MediaState}

-- An image of this length, which begins with this header, was made on an empty medium; or the medium was one, and is unchanged; or it
-- isn't opened.
abbrev pub MakesImage : ℕ → List ℕ → MediaState → Result Bool ImageRefusal → MediaState → Type 0
MakesImage len head old (Ok true) new = IsMade len head old new
MakesImage len head old (Ok false) new = IsFound len head old new
MakesImage len head old (Err refusal) new = Opens len head old (Err refusal) new

-- Media that are only looked at.
use Rattle.std.proofs.Common.{refl, ◌∙◌, arith}
use Rattle.fl_flash.specs.Media.{MediaState}
use Rattle.fl_image.specs.Image.{OnlyLooksAt}

pub looks-same : (medium : MediaState) → OnlyLooksAt medium medium
looks-same medium = record { tells = refl; content = refl; later = omega arith }

pub looks-then : (a b c : MediaState) → OnlyLooksAt a b → OnlyLooksAt b c → OnlyLooksAt a c
looks-then a b c first second = record { tells = second.tells ∙ first.tells; content = second.content ∙ first.content; later = omega (arith, first.later, second.later) }

-- What stands on a canvas.
use Rattle.fl_map.specs.declared.canvas.Canvas.{Canvas}
use Rattle.fl_map.specs.Drawn.{Drawn}

abbrev pub drawn_of : Canvas → Drawn
drawn_of canvas = record { text = canvas.text.items; top = canvas.top }

use Rattle.std.proofs.Common.{◌≡◌, IsTrue, length}
use Rattle.fl_image.specs.Image.{OnlyLooksAt}
use Rattle.fl_schema.specs.Schema.{layout_of}
use Rattle.fl_salvage.specs.Pages.{AreFew, numbers_at, passed_at}
use Rattle.fl_salvage.proofs.numbers.find_numbers.Given as goal

abbrev pub invariant-loop-place : goal.invariant-loop-place
invariant-loop-place g l = record {
  looks : OnlyLooksAt (g.M.Media.state l.fn.media) (g.M.Media.state l.media);
  room : length l.page ≡ l.ring.size;
  few : AreFew l.place l.passed;
  numbers : IsTrue (g.M.Media.state l.fn.media).tells → l.numbers.items ≡ numbers_at (layout_of l.schema) l.ring (g.M.Media.state l.fn.media).content l.place;
  passed : IsTrue (g.M.Media.state l.fn.media).tells → l.passed ≡ passed_at (layout_of l.schema) l.ring (g.M.Media.state l.fn.media).content l.place;
}

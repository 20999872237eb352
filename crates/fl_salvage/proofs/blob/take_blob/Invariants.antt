use Rattle.std.proofs.Common.{◌≡◌, ◌+◌, ◌-◌, IsTrue, length}
use Rattle.fl_image.specs.Image.{OnlyLooksAt}
use Rattle.fl_salvage.specs.Blobs.{blob_from, content_at, content_room, joined}
use Rattle.fl_salvage.proofs.blob.take_blob.Given as goal

abbrev pub invariant-loop-i : goal.invariant-loop-i
invariant-loop-i g l = record {
  looks : OnlyLooksAt (g.M.Media.state l.fn.media) (g.M.Media.state l.media);
  room : length l.room.page.items ≡ l.ring.size;
  so_far : IsTrue (g.M.Media.state l.fn.media).tells → blob_from (content_at l.ring (g.M.Media.state l.fn.media).content) (content_room l.ring) l.at.length l.at.page l.at.offset l.at.length
      ≡ joined l.room.bytes.items (blob_from (content_at l.ring (g.M.Media.state l.fn.media).content) (content_room l.ring) (l.at.length - l.i) (l.at.page + l.i) l.offset l.left);
}

use Rattle.std.proofs.Common.{◌≡◌, ℕ, ◌+◌, ◌≤◌, ◌++◌, None, Some, List, length, drop, slice_range, sym, ◌∙◌, ap, subst, arith, rules}
use Rattle.std.proofs.lemmas.List.{take_at, take_rest}
use Rattle.fl_salvage.specs.Blobs.{content_at, content_room}
use Rattle.fl_salvage.proofs.MediaOnlyRead.{tells-on, unread-later}
use Rattle.fl_salvage.proofs.Pieces.{length-range, piece-none, piece-behind, piece-last, piece-short, piece-next}
use Rattle.std.proofs.lemmas.Result.{err_from_is_err_and}
use Rattle.fl_image.proofs.MediaLooks.{looks-then}
use Rattle.fl_salvage.proofs.blob.take_blob.Goals as goal

pub returns-in_default-clause-gone : goal.returns-in_default-clause-gone
returns-in_default-clause-gone g c tells =
    let inv = c.loop-i.invariant in
    let bytes = (g.M.Media.state c.args.media.now).content in
    let number : c.from.result + c.from-in-loop-i.result ≡ c.args.at.page + c.loop-i.i = omega (arith, c.from.ensures, c.from-in-loop-i.ensures) in
    let there = rw c.in_default.is at (c.in_ok-len.ensures.content (tells-on _ _ inv.looks tells)) in
    let none : content_at c.args.ring bytes (c.args.at.page + c.loop-i.i) ≡ None =
    subst (λ (k : ℕ). content_at c.args.ring bytes k ≡ None) number (subst (λ (l : List ℕ). content_at c.args.ring l (c.from.result + c.from-in-loop-i.result) ≡ None) inv.looks.content there) in
    inv.so_far tells ∙ piece-none (content_at c.args.ring bytes) (content_room c.args.ring) c.args.at.length c.loop-i.i (c.args.at.page + c.loop-i.i) c.loop-i.offset c.loop-i.left c.loop-i.room.bytes.items (omega (arith, c.loop-i-test.true)) none

pub returns-then-len-offset-clause-gone : goal.returns-then-len-offset-clause-gone
returns-then-len-offset-clause-gone g c tells =
    let inv = c.loop-i.invariant in
    let bytes = (g.M.Media.state c.args.media.now).content in
    let held = slice_range c.deref.result.now 8 (8 + c.in-Some.len) in
    let number : c.from.result + c.from-in-loop-i.result ≡ c.args.at.page + c.loop-i.i = omega (arith, c.from.ensures, c.from-in-loop-i.ensures) in
    let page : c.read_content.new.page ≡ c.deref.result.now =
    sym (c.deref.ensures.value ∙ take_at c.read_content.new.page _ c.loop-i.room.page.len (omega (arith, c.read_content.ensures.room, c.loop-i.invariant.room, c.loop-i.room.page.ok.0))) in
    let there = rw c.in-Some.is at (c.in_ok-len.ensures.content (tells-on _ _ inv.looks tells)) in
    let here : content_at c.args.ring bytes (c.args.at.page + c.loop-i.i) ≡ Some (slice_range c.deref.result.now 8 (8 + c.in-Some.len)) =
    subst (λ (k : ℕ). content_at c.args.ring bytes k ≡ Some held) number (subst (λ (l : List ℕ). content_at c.args.ring l (c.from.result + c.from-in-loop-i.result) ≡ Some held) inv.looks.content
    (subst (λ (p : List ℕ). content_at c.args.ring (g.M.Media.state c.loop-i.media).content (c.from.result + c.from-in-loop-i.result) ≡ Some (slice_range p 8 (8 + c.in-Some.len))) page there)) in
    let within : c.in-Some.len ≤ content_room c.args.ring = rw c.in-Some.is at c.in_ok-len.ensures.within in
    let size : length c.read_content.new.page ≡ c.args.ring.size = c.read_content.ensures.room in
    let many : length held ≡ c.in-Some.len = length-range c.deref.result.now 8 c.in-Some.len (omega (arith, within, size, ap (λ (l : List ℕ). length l) page, c.requires.ring.size)) in
    inv.so_far tells ∙ piece-behind (content_at c.args.ring bytes) (content_room c.args.ring) c.args.at.length c.loop-i.i (c.args.at.page + c.loop-i.i) c.loop-i.offset c.loop-i.left held c.loop-i.room.bytes.items (omega (arith, c.loop-i-test.true)) here
    (omega (arith, many, c.if-len-offset.true))

pub returns-then-left-len-clause-whole : goal.returns-then-left-len-clause-whole
returns-then-left-len-clause-whole g c tells =
    let inv = c.loop-i.invariant in
    let bytes = (g.M.Media.state c.args.media.now).content in
    let held = slice_range c.deref.result.now 8 (8 + c.in-Some.len) in
    let number : c.from.result + c.from-in-loop-i.result ≡ c.args.at.page + c.loop-i.i = omega (arith, c.from.ensures, c.from-in-loop-i.ensures) in
    let page : c.read_content.new.page ≡ c.deref.result.now =
    sym (c.deref.ensures.value ∙ take_at c.read_content.new.page _ c.loop-i.room.page.len (omega (arith, c.read_content.ensures.room, c.loop-i.invariant.room, c.loop-i.room.page.ok.0))) in
    let there = rw c.in-Some.is at (c.in_ok-len.ensures.content (tells-on _ _ inv.looks tells)) in
    let here : content_at c.args.ring bytes (c.args.at.page + c.loop-i.i) ≡ Some (slice_range c.deref.result.now 8 (8 + c.in-Some.len)) =
    subst (λ (k : ℕ). content_at c.args.ring bytes k ≡ Some held) number (subst (λ (l : List ℕ). content_at c.args.ring l (c.from.result + c.from-in-loop-i.result) ≡ Some held) inv.looks.content
    (subst (λ (p : List ℕ). content_at c.args.ring (g.M.Media.state c.loop-i.media).content (c.from.result + c.from-in-loop-i.result) ≡ Some (slice_range p 8 (8 + c.in-Some.len))) page there)) in
    let within : c.in-Some.len ≤ content_room c.args.ring = rw c.in-Some.is at c.in_ok-len.ensures.within in
    let size : length c.read_content.new.page ≡ c.args.ring.size = c.read_content.ensures.room in
    let many : length held ≡ c.in-Some.len = length-range c.deref.result.now 8 c.in-Some.len (omega (arith, within, size, ap (λ (l : List ℕ). length l) page, c.requires.ring.size)) in
    let items : c.extend_from_slice.new.self.items ≡ c.loop-i.room.bytes.items ++ slice_range (slice_range c.deref.result.now 8 (8 + c.in-Some.len)) c.loop-i.offset (c.loop-i.offset + c.loop-i.left) = c.in_ok-extend_from_slice.ensures.items in
    inv.so_far tells ∙ piece-last (content_at c.args.ring bytes) (content_room c.args.ring) c.args.at.length c.loop-i.i (c.args.at.page + c.loop-i.i) c.loop-i.offset c.loop-i.left held c.loop-i.room.bytes.items (omega (arith, c.loop-i-test.true)) here
    (omega (arith, many, c.if-len-offset.false)) (omega (arith, many, c.if-left-len.true)) ∙ ap (λ (l : List ℕ). Some l) (sym items)

pub returns-then-len-full-clause-gone : goal.returns-then-len-full-clause-gone
returns-then-len-full-clause-gone g c tells =
    let inv = c.loop-i.invariant in
    let bytes = (g.M.Media.state c.args.media.now).content in
    let held = slice_range c.deref.result.now 8 (8 + c.in-Some.len) in
    let number : c.from.result + c.from-in-loop-i.result ≡ c.args.at.page + c.loop-i.i = omega (arith, c.from.ensures, c.from-in-loop-i.ensures) in
    let page : c.read_content.new.page ≡ c.deref.result.now =
    sym (c.deref.ensures.value ∙ take_at c.read_content.new.page _ c.loop-i.room.page.len (omega (arith, c.read_content.ensures.room, c.loop-i.invariant.room, c.loop-i.room.page.ok.0))) in
    let there = rw c.in-Some.is at (c.in_ok-len.ensures.content (tells-on _ _ inv.looks tells)) in
    let here : content_at c.args.ring bytes (c.args.at.page + c.loop-i.i) ≡ Some (slice_range c.deref.result.now 8 (8 + c.in-Some.len)) =
    subst (λ (k : ℕ). content_at c.args.ring bytes k ≡ Some held) number (subst (λ (l : List ℕ). content_at c.args.ring l (c.from.result + c.from-in-loop-i.result) ≡ Some held) inv.looks.content
    (subst (λ (p : List ℕ). content_at c.args.ring (g.M.Media.state c.loop-i.media).content (c.from.result + c.from-in-loop-i.result) ≡ Some (slice_range p 8 (8 + c.in-Some.len))) page there)) in
    let within : c.in-Some.len ≤ content_room c.args.ring = rw c.in-Some.is at c.in_ok-len.ensures.within in
    let size : length c.read_content.new.page ≡ c.args.ring.size = c.read_content.ensures.room in
    let many : length held ≡ c.in-Some.len = length-range c.deref.result.now 8 c.in-Some.len (omega (arith, within, size, ap (λ (l : List ℕ). length l) page, c.requires.ring.size)) in
    inv.so_far tells ∙ piece-short (content_at c.args.ring bytes) (content_room c.args.ring) c.args.at.length c.loop-i.i (c.args.at.page + c.loop-i.i) c.loop-i.offset c.loop-i.left held c.loop-i.room.bytes.items (omega (arith, c.loop-i-test.true)) here
    (omega (arith, many, c.if-len-offset.false)) (omega (arith, many, c.if-left-len.false, c.if-len-offset.false)) (λ full. c.if-len-full.true (sym many ∙ full))

pub loop-i-preserved : goal.loop-i-preserved
loop-i-preserved g c =
    let inv = c.loop-i.invariant in
    let bytes = (g.M.Media.state c.args.media.now).content in
    let page : c.read_content.new.page ≡ c.deref.result.now =
    sym (c.deref.ensures.value ∙ take_at c.read_content.new.page _ c.loop-i.room.page.len (omega (arith, c.read_content.ensures.room, c.loop-i.invariant.room, c.loop-i.room.page.ok.0))) in
    record {
      looks = looks-then _ _ _ inv.looks c.read_content.ensures.looks;
      room = search rules;
      so_far = λ tells.
          let held = slice_range c.deref.result.now 8 (8 + c.in-Some.len) in
          let number : c.from.result + c.from-in-loop-i.result ≡ c.args.at.page + c.loop-i.i = omega (arith, c.from.ensures, c.from-in-loop-i.ensures) in
          let there = rw c.in-Some.is at (c.in_ok-len.ensures.content (tells-on _ _ inv.looks tells)) in
          let here : content_at c.args.ring bytes (c.args.at.page + c.loop-i.i) ≡ Some (slice_range c.deref.result.now 8 (8 + c.in-Some.len)) =
          subst (λ (k : ℕ). content_at c.args.ring bytes k ≡ Some held) number (subst (λ (l : List ℕ). content_at c.args.ring l (c.from.result + c.from-in-loop-i.result) ≡ Some held) inv.looks.content
          (subst (λ (p : List ℕ). content_at c.args.ring (g.M.Media.state c.loop-i.media).content (c.from.result + c.from-in-loop-i.result) ≡ Some (slice_range p 8 (8 + c.in-Some.len))) page there)) in
          let within : c.in-Some.len ≤ content_room c.args.ring = rw c.in-Some.is at c.in_ok-len.ensures.within in
          let size : length c.read_content.new.page ≡ c.args.ring.size = c.read_content.ensures.room in
          let many : length held ≡ c.in-Some.len = length-range c.deref.result.now 8 c.in-Some.len (omega (arith, within, size, ap (λ (l : List ℕ). length l) page, c.requires.ring.size)) in
          let items : c.extend_from_slice-in-loop-i.new.self.items ≡ c.loop-i.room.bytes.items ++ drop c.loop-i.offset (slice_range c.deref.result.now 8 (8 + c.in-Some.len)) =
          c.in_ok-extend_from_slice-2.ensures.items ∙ ap (λ (l : List ℕ). c.loop-i.room.bytes.items ++ l) (take_rest (slice_range c.deref.result.now 8 (8 + c.in-Some.len)) c.loop-i.offset) in
          inv.so_far tells ∙ piece-next c.args.ring bytes c.args.at.length c.loop-i.i c.args.at.page c.loop-i.offset c.loop-i.left c.in-Some.len held c.loop-i.room.bytes.items c.extend_from_slice-in-loop-i.new.self.items (omega (arith, c.loop-i-test.true)) here many
          (omega (arith, c.if-len-offset.false)) (omega (arith, c.if-left-len.false, c.if-len-offset.false)) (omega (arith, c.if-len-full.false)) items;
    }

pub read_content-requires-clause-ring : goal.read_content-requires-clause-ring
read_content-requires-clause-ring g c = c.requires.ring

pub returns-in_err-len-clause-looks : goal.returns-in_err-len-clause-looks
returns-in_err-len-clause-looks g c = looks-then _ _ _ c.loop-i.invariant.looks c.read_content.ensures.looks

pub returns-in_err-len-clause-whole : goal.returns-in_err-len-clause-whole
returns-in_err-len-clause-whole g c =
    let p = err_from_is_err_and c.from_residual.result c.from_residual.ensures.1 in
    rw p.1 tt

pub returns-in_err-len-clause-gone : goal.returns-in_err-len-clause-gone
returns-in_err-len-clause-gone g c =
    let p = err_from_is_err_and c.from_residual.result c.from_residual.ensures.1 in
    rw p.1 tt

pub returns-in_err-len-clause-cause : goal.returns-in_err-len-clause-cause
returns-in_err-len-clause-cause g c =
    let p = err_from_is_err_and c.from_residual.result c.from_residual.ensures.1 in
    rw (p.1, p.2) (unread-later (g.M.Media.state c.args.media.now) (g.M.Media.state c.loop-i.media) (g.M.Media.state c.read_content.new.media) c.in_err-len.field-0.0 c.loop-i.invariant.looks c.in_err-len.ensures.cause)

pub returns-in_default-clause-looks : goal.returns-in_default-clause-looks
returns-in_default-clause-looks g c = looks-then _ _ _ c.loop-i.invariant.looks c.read_content.ensures.looks

pub returns-then-len-offset-clause-looks : goal.returns-then-len-offset-clause-looks
returns-then-len-offset-clause-looks g c = looks-then _ _ _ c.loop-i.invariant.looks c.read_content.ensures.looks

pub returns-in_err-extend_from_slice-clause-looks : goal.returns-in_err-extend_from_slice-clause-looks
returns-in_err-extend_from_slice-clause-looks g c = looks-then _ _ _ c.loop-i.invariant.looks c.read_content.ensures.looks

pub returns-in_err-extend_from_slice-clause-whole : goal.returns-in_err-extend_from_slice-clause-whole
returns-in_err-extend_from_slice-clause-whole g c =
    let p = err_from_is_err_and c.from_residual-in_err-extend_from_slice.result c.from_residual-in_err-extend_from_slice.ensures.1 in
    rw p.1 tt

pub returns-in_err-extend_from_slice-clause-gone : goal.returns-in_err-extend_from_slice-clause-gone
returns-in_err-extend_from_slice-clause-gone g c =
    let p = err_from_is_err_and c.from_residual-in_err-extend_from_slice.result c.from_residual-in_err-extend_from_slice.ensures.1 in
    rw p.1 tt

pub returns-in_err-extend_from_slice-clause-cause : goal.returns-in_err-extend_from_slice-clause-cause
returns-in_err-extend_from_slice-clause-cause g c =
    let p = err_from_is_err_and c.from_residual-in_err-extend_from_slice.result c.from_residual-in_err-extend_from_slice.ensures.1 in
    rw (p.1, p.2) tt

pub returns-then-left-len-clause-looks : goal.returns-then-left-len-clause-looks
returns-then-left-len-clause-looks g c = looks-then _ _ _ c.loop-i.invariant.looks c.read_content.ensures.looks

pub returns-then-len-full-clause-looks : goal.returns-then-len-full-clause-looks
returns-then-len-full-clause-looks g c = looks-then _ _ _ c.loop-i.invariant.looks c.read_content.ensures.looks

pub returns-in_err-extend_from_slice-2-clause-looks : goal.returns-in_err-extend_from_slice-2-clause-looks
returns-in_err-extend_from_slice-2-clause-looks g c = looks-then _ _ _ c.loop-i.invariant.looks c.read_content.ensures.looks

pub returns-in_err-extend_from_slice-2-clause-whole : goal.returns-in_err-extend_from_slice-2-clause-whole
returns-in_err-extend_from_slice-2-clause-whole g c =
    let p = err_from_is_err_and c.from_residual-in_err-extend_from_slice-2.result c.from_residual-in_err-extend_from_slice-2.ensures.1 in
    rw p.1 tt

pub returns-in_err-extend_from_slice-2-clause-gone : goal.returns-in_err-extend_from_slice-2-clause-gone
returns-in_err-extend_from_slice-2-clause-gone g c =
    let p = err_from_is_err_and c.from_residual-in_err-extend_from_slice-2.result c.from_residual-in_err-extend_from_slice-2.ensures.1 in
    rw p.1 tt

pub returns-in_err-extend_from_slice-2-clause-cause : goal.returns-in_err-extend_from_slice-2-clause-cause
returns-in_err-extend_from_slice-2-clause-cause g c =
    let p = err_from_is_err_and c.from_residual-in_err-extend_from_slice-2.result c.from_residual-in_err-extend_from_slice-2.ensures.1 in
    rw (p.1, p.2) tt

pub returns-clause-looks : goal.returns-clause-looks
returns-clause-looks g c = c.loop-i.invariant.looks

pub returns-clause-room : goal.returns-clause-room
returns-clause-room g c = c.loop-i.invariant.room

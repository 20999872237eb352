use Rattle.std.proofs.Common.{◌≡◌, ℕ, ◌*◌, ◌/◌, ◌%◌, List, length, IsTrue, sym, ◌∙◌, ap, subst, arith}
use Rattle.std.proofs.lemmas.List.{take_at}
use Rattle.std.proofs.Math.Nat.{mod-lt, div-add-mod'}
use Rattle.fl_flash.specs.Places.{page_of}
use Rattle.fl_flash.specs.Sim.{AreBlank}
use Rattle.fl_flash.proofs.Blocks.{Noted, all_noted, block_within, page_of_read}
use Rattle.fl_flash.proofs.Clean.{any_default, exact_program}
use Rattle.fl_flash.proofs.Pages.{page_within}
use Rattle.fl_flash.proofs.sim.SimFlash.look.Goals as goal

pub returns-then-leaves_its_bytes-clause-exact : goal.returns-then-leaves_its_bytes-clause-exact
returns-then-leaves_its_bytes-clause-exact g c =
    let self = c.args.self.now in
    λ exact told from range.
    exact_program _ self.start self.geometry.page c.args.page from c.args.bytes.now c.index.result.now range
    (page_within self.start self.geometry.page c.args.page (self.blocks * self.geometry.block) _ c.requires.exists self.reach)
    (λ i. omega (arith, c.type_inv.bytes i))
    (λ set. self.known told c.args.page c.requires.exists (any_default self.clean.items c.args.page c.index.result.now (omega (arith, c.requires.exists, self.flags)) c.index.ensures set))
    (sym c.leaves_its_bytes.ensures ∙ c.if-leaves_its_bytes.true)

pub read_to-requires-clause-within : goal.read_to-requires-clause-within
read_to-requires-clause-within g c =
    let self = c.args.self.now in
    block_within self.start c.args.page self.blocks self.geometry.block self.geometry.page _ (omega (arith, self.served.block_least)) c.requires.exists self.reach

pub invariant_of-self-2-clause-known : goal.invariant_of-self-2-clause-known
invariant_of-self-2-clause-known g c =
    let self = c.args.self.now in
    let old = g.M.Media.state self.media.now in
    let new = g.M.Media.state c.read_to.new.media in
    let room = c.read_to.new.room in
    let per = self.geometry.block in
    let size = self.geometry.page in
    let count = self.blocks * per in
    let first = c.args.page / per * per in
    let read = c.in_ok-read_to.ensures.read in
    let whole : length room ≡ self.scratch.len = omega (arith, c.read_to.ensures.size, c.deref_mut.ensures.len) in
    let block : c.deref.result.now ≡ room = c.deref.ensures.value ∙ take_at room _ self.scratch.len whole in
    let noted : Noted self.clean.items first per room size c.note_blanks.new.flags.items =
    subst (λ (l : List ℕ). Noted self.clean.items first per l size c.note_blanks.new.flags.items) block (record { inside = c.note_blanks.ensures.inside; outside = c.note_blanks.ensures.outside }) in
    λ told.
    let t : IsTrue old.tells = sym read.tells ∙ told in
    subst (λ (l : List ℕ). AreBlank c.note_blanks.new.flags.items count (page_of l self.start size) size) (sym read.content)
    (all_noted old.content room self.start size first per count self.clean.items c.note_blanks.new.flags.items (self.known t) noted
    (λ i lt. page_of_read old.content room self.start first per size i lt (read.bytes t) (omega (arith, whole, self.room))))

pub returns-clause-read : goal.returns-clause-read
returns-clause-read g c =
    let self = c.args.self.now in
    let old = g.M.Media.state self.media.now in
    let room = c.read_to.new.room in
    let per = self.geometry.block in
    let size = self.geometry.page in
    let whole : length room ≡ self.scratch.len = omega (arith, c.read_to.ensures.size, c.deref_mut.ensures.len) in
    let read = c.in_ok-read_to.ensures.read in
    λ fresh told.
    let t : IsTrue old.tells = sym read.tells ∙ told in
    ap (λ (l : List ℕ). page_of l 0 size (c.args.page % per)) (take_at room _ self.scratch.len whole)
    ∙ page_of_read old.content room self.start (c.args.page / per * per) per size (c.args.page % per) (mod-lt c.args.page (omega (arith, self.served.block_least))) (read.bytes t) (omega (arith, whole, self.room))
    ∙ ap (λ (k : ℕ). page_of old.content self.start size k) (div-add-mod' c.args.page per)
    ∙ ap (λ (l : List ℕ). page_of l self.start size c.args.page) (sym read.content)

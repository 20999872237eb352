-- What operations that are cut leave of the pages.
use Rattle.std.proofs.Common.{◌≡◌, ℕ, ◌+◌, ◌*◌, ◌≤◌, ◌<◌, List, [], ◌++◌, length, take, drop, replicate, slice_range, sym, ◌∙◌, ap, subst, arith, take-append-drop}
use Rattle.std.proofs.Math.Nat.{mul_assoc}
use Rattle.std.proofs.lemmas.List.{length-take-le, length-replicate, length-drop}
use Rattle.fl_base.specs.Bytes.{splice}
use Rattle.fl_base.specs.declared.types.Geometry.{Geometry}
use Rattle.fl_base.proofs.Ranges.{length-splice, take-splice, drop-splice, slice-splice_inside}
use Rattle.fl_flash.specs.Flash.{FlashState, Goes, begin_of, page_at, pages, and_bytes, programmed, Erased}
use Rattle.fl_flash.specs.Media.{Torn}
use Rattle.fl_flash.specs.Places.{page_of, extent}
use Rattle.fl_flash.proofs.Pages.{rows_below, page_within, part_of_page, length-and_bytes, whole_erase}

abbrev pub Reaches : FlashState → Type 0
Reaches f = f.start + extent f.geometry f.blocks ≤ length f.media.content

-- an operation that wrote nothing left all pages
pub nothing_written : (c : List ℕ) (at : ℕ) → splice c at [] ≡ c
nothing_written c at = ap (λ (k : ℕ). take at c ++ drop k c) (omega arith) ∙ take-append-drop at c

pub same_content : (old new : FlashState) → Goes old new → new.media.content ≡ old.media.content → page_at new ≡ page_at old
same_content old new goes same =
    ap (λ (l : List ℕ). page_of l new.start new.geometry.page) same
    ∙ ap (λ (k : ℕ). page_of old.media.content k new.geometry.page) goes.start
    ∙ ap (λ (g : Geometry). page_of old.media.content old.start g.page) goes.geometry

-- a page of which this was written from `from` on
pub written_page : (old new : FlashState) (p from : ℕ) (front : List ℕ) → Reaches old → p < pages old → from + length front ≤ old.geometry.page → Goes old new
    → new.media.content ≡ splice old.media.content (begin_of old p + from) front → page_at new p ≡ splice (page_at old p) from front
written_page old new p from front reaches exists range goes is =
    let within : begin_of old p + old.geometry.page ≤ length old.media.content = page_within old.start old.geometry.page p (pages old) (length old.media.content) exists reaches in
    ap (λ (n : ℕ). page_of new.media.content n new.geometry.page p) goes.start
    ∙ ap (λ (g : Geometry). page_of new.media.content old.start g.page p) goes.geometry
    ∙ ap (λ (l : List ℕ). slice_range l (begin_of old p) (begin_of old p + old.geometry.page)) is
    ∙ slice-splice_inside old.media.content (begin_of old p) from (begin_of old p + old.geometry.page) front (omega (arith, range)) within

-- what is programmed into a range of a page
pub programs_there : (old : FlashState) (p from : ℕ) (bs : List ℕ) → from + length bs ≤ old.geometry.page
    → and_bytes (slice_range old.media.content (begin_of old p + from) (begin_of old p + from + length bs)) bs ≡ and_bytes (take (length bs) (drop from (page_at old p))) bs
programs_there old p from bs range = ap (λ (l : List ℕ). and_bytes l bs) (part_of_page old.media.content (begin_of old p) old.geometry.page from (length bs) range)

pub length-programs : (page : List ℕ) (from : ℕ) (bs : List ℕ) → from + length bs ≤ length page → length (and_bytes (take (length bs) (drop from page)) bs) ≡ length bs
length-programs page from bs le = length-and_bytes (take (length bs) (drop from page)) bs (length-take-le (length bs) (drop from page) (omega (arith, length-drop from page)))

-- a splice of all that is programmed is the program
pub splice_programmed : (page : List ℕ) (from : ℕ) (bs : List ℕ) → from + length bs ≤ length page → splice page from (and_bytes (take (length bs) (drop from page)) bs) ≡ programmed page from bs
splice_programmed page from bs le = ap (λ (n : ℕ). take from page ++ (and_bytes (take (length bs) (drop from page)) bs ++ drop (from + n) page)) (length-programs page from bs le)

torn_splice : (c : List ℕ) (at n : ℕ) (bs : List ℕ) → length bs ≡ n → at + n ≤ length c → Torn c at n (splice c at bs)
torn_splice c at n bs e le = record {
  before = take-splice c at bs (omega arith);
  after = let d = drop-splice c at bs (omega arith) in subst (λ (k : ℕ). drop (at + k) (splice c at bs) ≡ drop (at + k) c) e d;
  no_shorter = omega (arith, length-splice c at bs (omega arith));
  no_longer = omega (arith, length-splice c at bs (omega arith));
}

-- a block whose erase was cut after its end
pub erased_pages : (old new : FlashState) (b : ℕ) → Reaches old → b < old.blocks → Goes old new
    → new.media.content ≡ splice old.media.content (old.start + b * (old.geometry.block * old.geometry.page)) (replicate (old.geometry.block * old.geometry.page) 255)
    → Erased (page_at old) (b * old.geometry.block) old.geometry.block old.geometry.page (page_at new)
erased_pages old new b reaches exists goes is =
    subst (λ (pg : ℕ → List ℕ). Erased (page_at old) (b * old.geometry.block) old.geometry.block old.geometry.page pg) (sym pages_new)
    (whole_erase old.media.content new.media.content old.start old.geometry.page (b * old.geometry.block) old.geometry.block within at_block
    (subst (λ (l : List ℕ). Torn old.media.content (old.start + b * old.geometry.block * old.geometry.page) (old.geometry.block * old.geometry.page) l) (sym at_block)
    (torn_splice old.media.content (old.start + b * old.geometry.block * old.geometry.page) (old.geometry.block * old.geometry.page) (replicate (old.geometry.block * old.geometry.page) 255)
    (length-replicate (old.geometry.block * old.geometry.page) 255) within)))
  where
    block_at : old.start + b * (old.geometry.block * old.geometry.page) ≡ old.start + b * old.geometry.block * old.geometry.page
    block_at = ap (λ (n : ℕ). old.start + n) (sym (mul_assoc b old.geometry.block old.geometry.page))

    within : old.start + b * old.geometry.block * old.geometry.page + old.geometry.block * old.geometry.page ≤ length old.media.content
    within = omega (arith, reaches, block_at, mul_assoc old.blocks old.geometry.block old.geometry.page, rows_below b old.blocks (old.geometry.block * old.geometry.page) exists)

    at_block : new.media.content ≡ splice old.media.content (old.start + b * old.geometry.block * old.geometry.page) (replicate (old.geometry.block * old.geometry.page) 255)
    at_block = is ∙ ap (λ (n : ℕ). splice old.media.content n (replicate (old.geometry.block * old.geometry.page) 255)) block_at

    pages_new : page_at new ≡ page_of new.media.content old.start old.geometry.page
    pages_new =
        ap (λ (k : ℕ). page_of new.media.content k new.geometry.page) goes.start
        ∙ ap (λ (g : Geometry). page_of new.media.content old.start g.page) goes.geometry

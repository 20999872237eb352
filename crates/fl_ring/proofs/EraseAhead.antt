-- How the erase of the block ahead ends for the ring.
use Rattle.std.proofs.Common.{◌≡◌, ℕ, ◌+◌, ◌*◌, ◌/◌, ◌%◌, ◌<◌, true, false, List, replicate, refl, sym, ◌∙◌, ap, subst}
use Rattle.fl_base.specs.declared.types.CutKind.TheVariants.{Before, After, Half, Noise}
use Rattle.fl_flash.specs.Flash.{FlashState, Goes, page_at, Erased, TornErase}
use Rattle.fl_model.specs.Work.{Erase}
use Rattle.fl_ring.specs.declared.ring.Ring.{Ring}
use Rattle.fl_ring.specs.Place.{shape_of, StandsFor}
use Rattle.fl_ring.specs.Repairing.{ahead_first}
use Rattle.fl_ring.specs.Ring.{RingState, OnRing, erased}
use Rattle.fl_ring.proofs.Added.{erase_done, erase_lost}
use Rattle.fl_ring.proofs.BlockAheadIsClean.{ahead_is}
use Rattle.fl_ring.proofs.CutPages.{Reaches, nothing_written, same_content, erased_pages}
use Rattle.fl_ring.proofs.StepEnds.{OneOf, Exact, either_of}

module _ (ring : Ring) (s : RingState) (f g : FlashState) (b : ℕ) (stands : StandsFor ring s) (size : f.geometry.page ≡ ring.size) (block : f.geometry.block ≡ ring.per_block)
    (at : b ≡ ring.first_block + (ring.next / ring.per_block + 1) % ring.blocks)
    (on : OnRing (shape_of ring) (page_at f) s) (whole : s.torn ≡ false) (waiting : s.dirty ≡ true) where
  first_page : b * ring.per_block ≡ ahead_first (shape_of ring) s.next
  first_page = ahead_is ring b at ∙ ap (λ (k : ℕ). ahead_first (shape_of ring) k) stands.next

  pub erase_ok : Erased (page_at f) (b * f.geometry.block) f.geometry.block f.geometry.page (page_at g) → OnRing (shape_of ring) (page_at g) (erased s)
  erase_ok gone = erase_done (shape_of ring) (page_at f) (page_at g) s ring.served on whole waiting
      (subst (λ (k : ℕ). Erased (page_at f) k ring.per_block ring.size (page_at g)) first_page
      (subst (λ (k : ℕ). Erased (page_at f) (b * k) k ring.size (page_at g)) block
      (subst (λ (z : ℕ). Erased (page_at f) (b * f.geometry.block) f.geometry.block z (page_at g)) size gone)))

  pub erase_any : TornErase (page_at f) (b * f.geometry.block) f.geometry.block (page_at g) → OneOf (shape_of ring) s (erased s) g
  erase_any torn = erase_lost (shape_of ring) (page_at f) (page_at g) s ring.served on whole waiting
      (subst (λ (k : ℕ). TornErase (page_at f) k ring.per_block (page_at g)) first_page
      (subst (λ (k : ℕ). TornErase (page_at f) (b * k) k (page_at g)) block torn))

  module _ (reach : Reaches f) (exists : b < f.blocks) (goes : Goes f g) where
    pub erase_exact : Exact (shape_of ring) Erase s (erased s) f g (f.start + b * (f.geometry.block * f.geometry.page)) (replicate (f.geometry.block * f.geometry.page) 255)
    erase_exact Before is one = (s, refl, subst (λ (pg : ℕ → List ℕ). OnRing (shape_of ring) pg s) (sym (same_content f g goes (is ∙ nothing_written f.media.content (f.start + b * (f.geometry.block * f.geometry.page))))) on)
    erase_exact After is one = (erased s, refl, erase_ok (erased_pages f g b reach exists goes is))
    erase_exact Half is one = either_of (shape_of ring) s (erased s) g one
    erase_exact (Noise seed) is one = either_of (shape_of ring) s (erased s) g one

-- How the program of a commit mark ends for the ring.
use Rattle.std.proofs.Common.{◌≡◌, ℕ, ◌+◌, ◌/◌, ◌≤◌, ◌<◌, true, false, List, [], ◌∷◌, ◌++◌, length, take, drop, slice_range, Some, inl, inr, refl, sym, ◌∙◌, ap, subst, arith}
use Rattle.std.proofs.lemmas.List.{take_at, drop_at, drop-drop}
use Rattle.fl_base.specs.Bytes.{all_are, splice}
use Rattle.fl_base.specs.declared.types.CutKind.TheVariants.{Before, After, Half, Noise}
use Rattle.fl_flash.specs.Flash.{FlashState, Goes, begin_of, page_at, pages, and_bytes, programmed, OthersStand, Programmed, TornProgram, TornPage}
use Rattle.fl_mark.specs.Mark.{state_of_page}
use Rattle.fl_model.specs.Work.{Mark}
use Rattle.fl_ring.specs.declared.ring.Ring.{Ring}
use Rattle.fl_ring.specs.Place.{shape_of}
use Rattle.fl_ring.specs.Ring.{RingState, place, OnRing, blank_end, committed_end, sealed}
use Rattle.fl_ring.proofs.Added.{kept_on, torn_still}
use Rattle.fl_ring.proofs.CutPages.{Reaches, nothing_written, same_content, written_page, programs_there}
use Rattle.fl_ring.proofs.PageBytes.{is_torn, mark_on_body, torn_mark}
use Rattle.fl_ring.proofs.StepEnds.{OneOf, Exact, either_of}

abbrev zeros : List ℕ
zeros = 0 ∷ 0 ∷ 0 ∷ 0 ∷ []

-- two bytes after the body
two_zeros : (body : List ℕ) → splice (body ++ blank_end) (length body) (0 ∷ 0 ∷ []) ≡ body ++ ((0 ∷ 0 ∷ 255 ∷ 255 ∷ []) ++ 255 ∷ 255 ∷ 255 ∷ 255 ∷ [])
two_zeros body =
    ap (λ (l : List ℕ). l ++ ((0 ∷ 0 ∷ []) ++ drop (length body + 2) (body ++ blank_end))) (take_at body blank_end (length body) refl)
    ∙ ap (λ (l : List ℕ). body ++ ((0 ∷ 0 ∷ []) ++ l)) (sym (drop-drop 2 (length body) (body ++ blank_end)) ∙ ap (λ (l : List ℕ). drop 2 l) (drop_at body blank_end (length body) refl))

four_zeros : (body : List ℕ) → splice (body ++ blank_end) (length body) zeros ≡ body ++ committed_end
four_zeros body =
    ap (λ (l : List ℕ). l ++ (zeros ++ drop (length body + 4) (body ++ blank_end))) (take_at body blank_end (length body) refl)
    ∙ ap (λ (l : List ℕ). body ++ (zeros ++ l)) (sym (drop-drop 4 (length body) (body ++ blank_end)) ∙ ap (λ (l : List ℕ). drop 4 l) (drop_at body blank_end (length body) refl))

module _ (ring : Ring) (s : RingState) (body : List ℕ) (f g : FlashState) (p : ℕ) (at : p ≡ place (shape_of ring) s.next) (size : f.geometry.page ≡ ring.size)
    (on : OnRing (shape_of ring) (page_at f) s) (torn : s.torn ≡ true)
    (here : page_at f p ≡ body ++ blank_end) (fits : length body + 8 ≡ ring.size) (begun : all_are 255 body ≡ false) where
  committed : OthersStand (page_at f) p (page_at g) → page_at g p ≡ body ++ committed_end → OnRing (shape_of ring) (page_at g) (sealed (shape_of ring) s body)
  committed others is = kept_on (shape_of ring) (page_at f) (page_at g) s (Some body) ring.served on torn (subst (λ (q : ℕ). OthersStand (page_at f) q (page_at g)) at others) (ap (page_at g) (sym at) ∙ is, fits)

  pub commit_any : TornProgram (page_at f) p (length body) 4 (page_at g) → OneOf (shape_of ring) s (sealed (shape_of ring) s body) g
  commit_any lost = elim (torn_mark body (page_at g p) begun (subst (λ (l : List ℕ). TornPage l (length body) 4 (page_at g p)) here lost.here)) [
    | inl still ↦ inl (torn_still (shape_of ring) (page_at f) (page_at g) s p at ring.served on torn lost.others still)
    | inr is ↦ inr (committed lost.others is)
  ]

  pub commit_ok : Programmed (page_at f) p (length body) zeros (page_at g) → OnRing (shape_of ring) (page_at g) (sealed (shape_of ring) s body)
  commit_ok done = committed done.others (done.here ∙ ap (λ (l : List ℕ). programmed l (length body) zeros) here ∙ mark_on_body body (length body) refl)

  module _ (reach : Reaches f) (exists : p < pages f) (goes : Goes f g) (others : OthersStand (page_at f) p (page_at g)) where
    range : length body + 4 ≤ f.geometry.page
    range = omega (arith, size, fits)

    whole_front : and_bytes (slice_range f.media.content (begin_of f p + length body) (begin_of f p + length body + 4)) zeros ≡ zeros
    whole_front =
        programs_there f p (length body) zeros range
        ∙ ap (λ (l : List ℕ). and_bytes (take 4 (drop (length body) l)) zeros) here
        ∙ ap (λ (l : List ℕ). and_bytes (take 4 l) zeros) (drop_at body blank_end (length body) refl)

    pub commit_exact : Exact (shape_of ring) Mark s (sealed (shape_of ring) s body) f g (begin_of f p + length body) (and_bytes (slice_range f.media.content (begin_of f p + length body) (begin_of f p + length body + 4)) zeros)
    commit_exact Before is one = (s, refl, subst (λ (pg : ℕ → List ℕ). OnRing (shape_of ring) pg s) (sym (same_content f g goes (is ∙ nothing_written f.media.content (begin_of f p + length body)))) on)
    commit_exact After is one = (
      sealed (shape_of ring) s body,
      refl,
      committed others
          (written_page f g p (length body) zeros reach exists range goes (is ∙ ap (λ (l : List ℕ). splice f.media.content (begin_of f p + length body) l) whole_front)
          ∙ ap (λ (l : List ℕ). splice l (length body) zeros) here ∙ four_zeros body),
    )
    commit_exact Half is one = (
      s,
      refl,
      torn_still (shape_of ring) (page_at f) (page_at g) s p at ring.served on torn others
          (ap state_of_page
          (written_page f g p (length body) (0 ∷ 0 ∷ []) reach exists (omega (arith, range)) goes (is ∙ ap (λ (l : List ℕ). splice f.media.content (begin_of f p + length body) (take (length l / 2) l)) whole_front)
          ∙ ap (λ (l : List ℕ). splice l (length body) (0 ∷ 0 ∷ [])) here ∙ two_zeros body)
          ∙ is_torn body (0 ∷ 0 ∷ 255 ∷ 255 ∷ []) begun refl refl),
    )
    commit_exact (Noise seed) is one = either_of (shape_of ring) s (sealed (shape_of ring) s body) g one

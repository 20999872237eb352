-- How the program of a void mark ends for the ring.
use Rattle.std.proofs.Common.{◌≡◌, ℕ, ◌+◌, ◌-◌, ◌/◌, ◌≤◌, ◌<◌, true, List, [], ◌∷◌, length, take, slice_range, None, inl, inr, refl, sym, ◌∙◌, ap, subst, arith}
use Rattle.std.proofs.lemmas.Bool.{MatchBool-at_true}
use Rattle.fl_base.specs.Bytes.{splice}
use Rattle.fl_base.specs.declared.types.CutKind.TheVariants.{Before, After, Half, Noise}
use Rattle.fl_flash.specs.Flash.{FlashState, Goes, begin_of, page_at, pages, and_bytes, OthersStand, Programmed, TornProgram}
use Rattle.fl_mark.specs.Mark.{state_of_page}
use Rattle.fl_mark.specs.declared.page_state.PageState.TheVariants.{Torn, Void}
use Rattle.fl_model.specs.Work.{VoidMark}
use Rattle.fl_ring.specs.declared.ring.Ring.{Ring}
use Rattle.fl_ring.specs.Place.{shape_of}
use Rattle.fl_ring.specs.Ring.{RingState, place, OnRing, voided}
use Rattle.fl_ring.proofs.Added.{kept_on, torn_still}
use Rattle.fl_ring.proofs.CutPages.{Reaches, nothing_written, same_content, written_page, programs_there, splice_programmed}
use Rattle.fl_ring.proofs.Lengths.{page_length}
use Rattle.fl_ring.proofs.StepEnds.{OneOf, Exact, either_of}
use Rattle.fl_ring.proofs.VoidBytes.{void_or_torn, void_programmed, half_void, last_four}

abbrev zeros : List ℕ
zeros = 0 ∷ 0 ∷ 0 ∷ 0 ∷ []

module _ (ring : Ring) (s : RingState) (f g : FlashState) (p : ℕ) (at : p ≡ place (shape_of ring) s.next) (size : f.geometry.page ≡ ring.size) (reach : Reaches f) (exists : p < pages f)
    (on : OnRing (shape_of ring) (page_at f) s) (torn : s.torn ≡ true) where
  old_len : length (page_at f p) ≡ ring.size
  old_len = page_length f p reach exists ∙ size

  long : 8 ≤ ring.size
  long = omega (arith, ring.served.size)

  old_torn : state_of_page (page_at f p) ≡ Torn
  old_torn = ap (λ (q : ℕ). state_of_page (page_at f q)) at ∙ MatchBool-at_true _ _ torn on.head

  void_now : OthersStand (page_at f) p (page_at g) → state_of_page (page_at g p) ≡ Void → OnRing (shape_of ring) (page_at g) (voided (shape_of ring) s)
  void_now others is = kept_on (shape_of ring) (page_at f) (page_at g) s None ring.served on torn (subst (λ (q : ℕ). OthersStand (page_at f) q (page_at g)) at others) (ap (λ (q : ℕ). state_of_page (page_at g q)) (sym at) ∙ is)

  pub void_any : TornProgram (page_at f) p (ring.size - 4) 4 (page_at g) → OneOf (shape_of ring) s (voided (shape_of ring) s) g
  void_any lost = elim (void_or_torn (page_at f p) (page_at g p) ring.size old_len (lost.here.size ∙ old_len) long old_torn lost.here.before) [
    | inl still ↦ inl (torn_still (shape_of ring) (page_at f) (page_at g) s p at ring.served on torn lost.others still)
    | inr is ↦ inr (void_now lost.others is)
  ]

  pub void_ok : Programmed (page_at f) p (ring.size - 4) zeros (page_at g) → OnRing (shape_of ring) (page_at g) (voided (shape_of ring) s)
  void_ok done = void_now done.others (ap state_of_page done.here ∙ void_programmed (page_at f p) ring.size old_len long old_torn)

  module _ (goes : Goes f g) (others : OthersStand (page_at f) p (page_at g)) where
    range : ring.size - 4 + 4 ≤ f.geometry.page
    range = omega (arith, size, long)

    in_page : ring.size - 4 + 4 ≤ length (page_at f p)
    in_page = omega (arith, old_len, long)

    whole_front : and_bytes (slice_range f.media.content (begin_of f p + (ring.size - 4)) (begin_of f p + (ring.size - 4) + 4)) zeros ≡ zeros
    whole_front =
        programs_there f p (ring.size - 4) zeros range
        ∙ ap (λ (l : List ℕ). and_bytes l zeros) (last_four (page_at f p) ring.size old_len long old_torn)

    pub void_exact : Exact (shape_of ring) VoidMark s (voided (shape_of ring) s) f g (begin_of f p + (ring.size - 4)) (and_bytes (slice_range f.media.content (begin_of f p + (ring.size - 4)) (begin_of f p + (ring.size - 4) + 4)) zeros)
    void_exact Before is one = (s, refl, subst (λ (pg : ℕ → List ℕ). OnRing (shape_of ring) pg s) (sym (same_content f g goes (is ∙ nothing_written f.media.content (begin_of f p + (ring.size - 4))))) on)
    void_exact After is one = (
      voided (shape_of ring) s,
      refl,
      void_now others
          (ap state_of_page
          (written_page f g p (ring.size - 4) zeros reach exists range goes (is ∙ ap (λ (l : List ℕ). splice f.media.content (begin_of f p + (ring.size - 4)) l) whole_front)
          ∙ ap (λ (l : List ℕ). splice (page_at f p) (ring.size - 4) l) (sym (ap (λ (l : List ℕ). and_bytes l zeros) (last_four (page_at f p) ring.size old_len long old_torn)))
          ∙ splice_programmed (page_at f p) (ring.size - 4) zeros in_page)
          ∙ void_programmed (page_at f p) ring.size old_len long old_torn),
    )
    void_exact Half is one = (
      voided (shape_of ring) s,
      refl,
      void_now others
          (ap state_of_page
          (written_page f g p (ring.size - 4) (0 ∷ 0 ∷ []) reach exists (omega (arith, range)) goes (is ∙ ap (λ (l : List ℕ). splice f.media.content (begin_of f p + (ring.size - 4)) (take (length l / 2) l)) whole_front))
          ∙ half_void (page_at f p) ring.size old_len long old_torn),
    )
    void_exact (Noise seed) is one = either_of (shape_of ring) s (voided (shape_of ring) s) g one

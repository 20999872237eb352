-- How the program of a body ends for the ring.
use Rattle.std.proofs.Common.{◌≡◌, ℕ, ◌+◌, ◌/◌, ◌^◌, ◌≤◌, ◌<◌, false, List, [], ◌∷◌, ◌++◌, length, take, drop, replicate, get_or, slice_range, inl, inr, refl, sym, ◌∙◌, ap, subst, arith}
use Rattle.std.proofs.lemmas.Bool.{MatchBool-at_false}
use Rattle.std.proofs.lemmas.List.{take-take, take-append-le, take_all, take-replicate, length-take-le}
use Rattle.fl_base.specs.Bytes.{all_are, splice}
use Rattle.fl_base.specs.declared.types.CutKind.TheVariants.{Before, After, Half, Noise}
use Rattle.fl_flash.specs.Flash.{FlashState, Goes, begin_of, page_at, pages, and_bytes, programmed, blank, OthersStand, Programmed, TornProgram, TornPage}
use Rattle.fl_mark.specs.Mark.{state_of_page}
use Rattle.fl_mark.specs.declared.page_state.PageState.TheVariants.{Torn}
use Rattle.fl_model.specs.Work.{Body}
use Rattle.fl_ring.specs.declared.ring.Ring.{Ring}
use Rattle.fl_ring.specs.Newest.{number_of}
use Rattle.fl_ring.specs.Place.{shape_of}
use Rattle.fl_ring.specs.Ring.{RingState, place, OnRing, blank_end, begun}
use Rattle.fl_ring.proofs.CutPages.{Reaches, nothing_written, same_content, written_page, programs_there}
use Rattle.fl_ring.proofs.Numbered.{numbered_begun}
use Rattle.fl_ring.proofs.PageBytes.{and_same, body_programmed, is_torn, torn_body}
use Rattle.fl_ring.proofs.StepEnds.{OneOf, Exact, either_of}
use Rattle.fl_ring.proofs.Steps.{on_page, on_torn, not_blank}

-- the first bytes of a page into which a front of the body was written
first_bytes : (page body : List ℕ) (m : ℕ) → 4 ≤ m → m ≤ length body → take 4 (splice page 0 (take m body)) ≡ take 4 body
first_bytes page body m some le =
    take-append-le 4 (take m body) (drop (0 + length (take m body)) page) (omega (arith, length-take-le m body le)) ∙ take-take 4 m body some

module _ (ring : Ring) (s : RingState) (body : List ℕ) (f g : FlashState) (p : ℕ) (at : p ≡ place (shape_of ring) s.next) (size : f.geometry.page ≡ ring.size)
    (on : OnRing (shape_of ring) (page_at f) s) (whole : s.torn ≡ false) (tidy : s.dirty ≡ false)
    (fits : length body + 8 ≡ ring.size) (bytes : (i : ℕ) → get_or body i 0 < 2 ^ 8) (numbered : number_of body + 1 < 2 ^ 32) where
  blank_page : page_at f p ≡ blank ring.size
  blank_page = ap (page_at f) at ∙ MatchBool-at_false _ _ whole on.head

  long : 56 ≤ length body
  long = omega (arith, fits, ring.served.size)

  shown : take 4 (page_at g p) ≡ take 4 body → all_are 255 (page_at g p) ≡ false
  shown same = numbered_begun body (page_at g p) (omega (arith, long)) numbered same

  torn_page : OthersStand (page_at f) p (page_at g) → state_of_page (page_at g p) ≡ Torn → OnRing (shape_of ring) (page_at g) (begun s)
  torn_page others torn = on_torn (shape_of ring) (page_at f) (page_at g) s ring.served on tidy (subst (λ (q : ℕ). OthersStand (page_at f) q (page_at g)) at others) (ap (λ (q : ℕ). state_of_page (page_at g q)) (sym at) ∙ torn)

  pub begin_any : TornProgram (page_at f) p 0 (length body) (page_at g) → OneOf (shape_of ring) s (begun s) g
  begin_any lost = elim (torn_body (length body) ring.size (page_at g p) fits (subst (λ (l : List ℕ). TornPage l 0 (length body) (page_at g p)) blank_page lost.here)) [
    | inl still ↦ inl (on_page (shape_of ring) (page_at f) (page_at g) s p lost.others (still ∙ sym blank_page) on)
    | inr torn ↦ inr (torn_page lost.others torn)
  ]

  pub begin_bytes : Programmed (page_at f) p 0 body (page_at g) → page_at g p ≡ body ++ blank_end
  begin_bytes done = done.here ∙ ap (λ (l : List ℕ). programmed l 0 body) blank_page ∙ body_programmed ring.size body fits bytes

  -- where the page isn't blank any more, the body was begun
  not_still : all_are 255 (page_at g p) ≡ false → OneOf (shape_of ring) s (begun s) g → OnRing (shape_of ring) (page_at g) (begun s)
  not_still some (inl still) = absurd (not_blank ring.size (page_at g p) some (ap (page_at g) at ∙ MatchBool-at_false _ _ whole still.head))
  not_still some (inr is) = is

  pub begin_ok : Programmed (page_at f) p 0 body (page_at g) → OnRing (shape_of ring) (page_at g) (begun s)
  begin_ok done = torn_page done.others
      (ap state_of_page (begin_bytes done)
      ∙ is_torn body (255 ∷ 255 ∷ 255 ∷ 255 ∷ []) (numbered_begun body body (omega (arith, long)) numbered refl) refl refl)

  module _ (reach : Reaches f) (exists : p < pages f) (goes : Goes f g) where
    range : 0 + length body ≤ f.geometry.page
    range = omega (arith, size, fits)

    whole_front : and_bytes (slice_range f.media.content (begin_of f p + 0) (begin_of f p + 0 + length body)) body ≡ body
    whole_front =
        programs_there f p 0 body range
        ∙ ap (λ (l : List ℕ). and_bytes (take (length body) l) body) blank_page
        ∙ ap (λ (l : List ℕ). and_bytes l body) front_blank
        ∙ and_same body bytes
      where
        front_blank : take (length body) (blank ring.size) ≡ replicate (length body) 255
        front_blank = ap (λ (k : ℕ). take (length body) (replicate k 255)) (sym fits) ∙ take-replicate (length body) (length body + 8) 255 (omega arith)

    front_shows : (m : ℕ) → 4 ≤ m → m ≤ length body → g.media.content ≡ splice f.media.content (begin_of f p + 0) (take m body) → all_are 255 (page_at g p) ≡ false
    front_shows m some le is = shown (ap (λ (l : List ℕ). take 4 l) (written_page f g p 0 (take m body) reach exists (omega (arith, length-take-le m body le, range)) goes is) ∙ first_bytes (page_at f p) body m some le)

    pub begin_exact : Exact (shape_of ring) Body s (begun s) f g (begin_of f p + 0) (and_bytes (slice_range f.media.content (begin_of f p + 0) (begin_of f p + 0 + length body)) body)
    begin_exact Before is one = (s, refl, subst (λ (pg : ℕ → List ℕ). OnRing (shape_of ring) pg s) (sym (same_content f g goes (is ∙ nothing_written f.media.content (begin_of f p + 0)))) on)
    begin_exact After is one = (
      begun s,
      refl,
      not_still (front_shows (length body) (omega (arith, long)) (omega arith) (is ∙ ap (λ (l : List ℕ). splice f.media.content (begin_of f p + 0) l) (whole_front ∙ sym (take_all (length body) body (omega arith))))) one,
    )
    begin_exact Half is one = (
      begun s,
      refl,
      not_still
          (front_shows (length body / 2) (omega (arith, long)) (omega arith)
          (is ∙ ap (λ (l : List ℕ). splice f.media.content (begin_of f p + 0) (take (length l / 2) l)) whole_front)) one,
    )
    begin_exact (Noise seed) is one = either_of (shape_of ring) s (begun s) g one

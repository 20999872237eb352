-- The two programs of a page.
use Rattle.std.proofs.Common.{◌≡◌, inl, inr, ℕ, ◌+◌, ◌-◌, ◌^◌, ◌≤◌, ◌<◌, Bool, true, false, if◌then◌else◌, List, [], ◌∷◌, length, get_or, Result, Ok, Err, IfErr, refl, sym, ◌∙◌, ap, subst, arith}
use Rattle.fl_base.specs.declared.types.Geometry.{Geometry}
use Rattle.fl_flash.specs.Flash.{FlashState, page_at, Goes, HasFlashCause, ProgramsPage, ProgramsPair}
use Rattle.fl_flash.specs.Places.{extent}
use Rattle.fl_flash.specs.declared.flash.FlashFault.{FlashFault}
use Rattle.fl_flash.specs.declared.flash.FlashFault.TheVariants.{PowerLost, Media}
use Rattle.fl_frame.proofs.CallsInTurn.{cut-later, goes-then}
use Rattle.fl_base.specs.Bytes.{all_are}
use Rattle.fl_model.specs.Work.{Device, Body, Mark, Erase, counted}
use Rattle.fl_ring.specs.declared.ring.Ring.{Ring}
use Rattle.fl_frame.specs.Causes.{CausedBy}
use Rattle.fl_ring.specs.Newest.{number_of}
use Rattle.fl_ring.specs.Place.{shape_of, end_of, LiesOn}
use Rattle.fl_ring.specs.Operations.{change}
use Rattle.fl_ring.specs.Ring.{RingState, place, begun, sealed}
use Rattle.fl_ring.specs.Sealing.{IsReady, Seals, SealCalls, BodyEnds, MarkEnds, MarkFollows, BodyLost, SealsPage}
use Rattle.fl_ring.specs.Step.{StepDone, StepEnds}
use Rattle.fl_frame.specs.Watched.{IsWatched}
use Rattle.fl_ring.proofs.Begins.{begin_any, begin_bytes, begin_ok, begin_exact}
use Rattle.fl_ring.proofs.Commits.{commit_any, commit_ok, commit_exact}
use Rattle.fl_ring.proofs.Exists.{lies_exists, lies_still}
use Rattle.fl_ring.proofs.Numbered.{numbered_begun}
use Rattle.fl_ring.proofs.OperationsOutside.{operates_program, step_program, others_by}
use Rattle.fl_ring.proofs.Outcomes.{on_ok_from, ok_at}
use Rattle.fl_ring.proofs.OperationsInTurn.{performed_err, watched_then}
use Rattle.fl_frame.proofs.WatchedInTurn.{watched-first}
use Rattle.fl_ring.proofs.SealSteps.{seals_of, begun_stands, mark_failed}
use Rattle.fl_ring.proofs.Sums.{outside_more}

abbrev pub zeros : List ℕ
zeros = 0 ∷ 0 ∷ 0 ∷ 0 ∷ []

-- a flash that goes on still reaches to its end
still_reaches : (f g : FlashState) → Goes f g → f.start + extent f.geometry f.blocks ≤ length f.media.content → g.start + extent g.geometry g.blocks ≤ length g.media.content
still_reaches f g goes reaches =
    let same : extent g.geometry g.blocks ≡ extent f.geometry f.blocks = ap (λ (x : Geometry). extent x g.blocks) goes.geometry ∙ ap (λ (n : ℕ). extent f.geometry n) goes.blocks in
    omega (arith, reaches, same, goes.start, goes.size)

module _ (ring : Ring) (p : ℕ) (at : p ≡ place (shape_of ring) ring.next) (within : p < end_of ring) where
  module _ (f g : FlashState) (result : Result (Unit {0}) FlashFault) (lies : LiesOn ring f) (reaches : f.start + extent f.geometry f.blocks ≤ length f.media.content) where
    pub body_ends : (body : List ℕ) → length body + 8 ≡ ring.size → ((i : ℕ) → get_or body i 0 < 2 ^ 8) → number_of body + 1 < 2 ^ 32 → ProgramsPage f p 0 body result g → BodyEnds ring body f result g
    body_ends body size bytes numbered did = record {
      operates = operates_program ring f g result Body refl p 0 ring.next body at did did.few_reads;
      programs = subst (λ (q : ℕ). ProgramsPage f q 0 body result g) at did;
      step = λ s rose device ready watched.
          let here = at ∙ ap (λ (n : ℕ). place (shape_of ring) n) ready.stands.next in
          step_program ring f g result Body refl p 0 ring.next body at did s (begun s) rose device watched
          (begin_ok ring s body f g p here lies.page ready.on ready.whole ready.clean size bytes numbered)
          (begin_any ring s body f g p here lies.page ready.on ready.whole ready.clean size bytes numbered)
          (begin_exact ring s body f g p here lies.page ready.on ready.whole ready.clean size bytes numbered reaches (lies_exists ring f p lies within) did.goes);
      page = on_ok_from result (λ u is_ok s told ready.
          let here = at ∙ ap (λ (n : ℕ). place (shape_of ring) n) ready.stands.next in
          ap (page_at g) (sym here) ∙ begin_bytes ring s body f g p here lies.page ready.on ready.whole ready.clean size bytes numbered (ok_at result u is_ok (did.ok told)));
    }

    pub mark_ends : (from : ℕ) → from + 8 ≡ ring.size → ProgramsPage f p from zeros result g → MarkEnds ring f result g
    mark_ends from size did = record {
      operates = operates_program ring f g result Mark refl p from ring.next zeros at did (omega (arith, did.zeros refl));
      programs = subst (λ (q : ℕ). ProgramsPage f q (ring.size - 8) zeros result g) at (subst (λ (n : ℕ). ProgramsPage f p n zeros result g) (omega (arith, size)) did);
      step = λ s body rose device stands on torn here fits shown watched.
          let there = at ∙ ap (λ (n : ℕ). place (shape_of ring) n) stands.next in
          let here_p = ap (page_at f) there ∙ here in
          let behind = subst (λ (n : ℕ). ProgramsPage f p n zeros result g) (omega (arith, size, fits)) did in
          step_program ring f g result Mark refl p (length body) ring.next zeros at behind s (sealed (shape_of ring) s body) rose device watched
          (commit_ok ring s body f g p there lies.page on torn here_p fits shown)
          (commit_any ring s body f g p there lies.page on torn here_p fits shown)
          (commit_exact ring s body f g p there lies.page on torn here_p fits shown reaches (lies_exists ring f p lies within) behind.goes
          (others_by ring f g result Mark refl p (length body) ring.next zeros at behind watched.told));
    }

-- why an operation of a flash failed
pub caused : (f g : FlashState) (result : Result (Unit {0}) FlashFault) → HasFlashCause f result g → IfErr result (λ e. CausedBy f e g)
caused f g (Ok u) cause = tt
caused f g (Err PowerLost) cause = cause.power refl
caused f g (Err Media) cause = cause.media refl

-- .. and one behind an operation that was done
pub caused_then : (f mid g : FlashState) (result : Result (Unit {0}) FlashFault) → Goes f mid → mid.is_on ≡ true → HasFlashCause mid result g → IfErr result (λ e. CausedBy f e g)
caused_then f mid g (Ok u) goes on cause = tt
caused_then f mid g (Err PowerLost) goes on cause = elim (cause.power refl) [
  | inl off ↦ absurd (cc (off, on))
  | inr cut ↦ inr (cut-later f mid g goes cut)
]
caused_then f mid g (Err Media) goes on cause = let rose = cause.media refl in omega (arith, rose, goes.faults)

module _ (ring : Ring) (body : List ℕ) (f g : FlashState) (result : Result (Unit {0}) FlashFault) where
  lost_page : BodyLost ring body f result g → SealsPage ring body f result g
  lost_page lost = record {
    goes = lost.body_first.operates.goes;
    outside = lost.body_first.operates.outside;
    cause = caused f g result lost.body_first.operates.cause;
    off = lost.body_first.operates.off;
    reads = lost.body_first.operates.reads;
    media_reads = lost.body_first.operates.media_reads;
    ends = inr lost;
  }

  marked_page : MarkFollows ring body f result g → SealsPage ring body f result g
  marked_page m =
      let first = m.body_first.operates in
      let second = m.mark_then.operates in
      record {
        goes = goes-then f m.begun g first.goes second.goes;
        outside = outside_more (shape_of ring) f m.begun g first.goes first.outside second.outside;
        cause = caused_then f m.begun g result first.goes first.cause.on second.cause;
        off = λ is_off. absurd (let h = (first.off is_off).0 in cc h);
        reads = second.reads ∙ first.reads;
        media_reads = omega (arith, first.media_reads, second.media_reads);
        ends = inl m;
      }

  pub seals_page : (p : ℕ) → p ≡ place (shape_of ring) ring.next → p < end_of ring → LiesOn ring f → f.start + extent f.geometry f.blocks ≤ length f.media.content
      → length body + 8 ≡ ring.size → ((i : ℕ) → get_or body i 0 < 2 ^ 8) → number_of body + 1 < 2 ^ 32 → ProgramsPair f p body zeros result g → SealsPage ring body f result g
  seals_page p at within lies reaches size bytes numbered did = elim did [
    | inl both ↦
        let first = body_ends ring p at within f both.between (Ok tt) lies reaches body size bytes numbered both.first_done in
        let goes = first.operates.goes in
        marked_page (record {
          begun = both.between;
          body_first = first;
          mark_then = mark_ends ring p at within both.between g result (lies_still ring f both.between lies goes) (still_reaches f both.between goes reaches) (length body) size both.then;
        })
    | inr lost ↦ lost_page (record { fails = lost.fails; body_first = body_ends ring p at within f g result lies reaches body size bytes numbered lost.first_failed })
  ]

-- a page that was sealed
pub marked_of : (ring : Ring) (body : List ℕ) (f g : FlashState) (u : Unit {0}) → SealsPage ring body f (Ok u) g → MarkFollows ring body f (Ok u) g
marked_of ring body f g u page = elim page.ends [ inl m ↦ m | inr lost ↦ absurd (let h = lost.fails in cc h) ]

module _ (ring : Ring) (body : List ℕ) (f g : FlashState) (size : length body + 8 ≡ ring.size) (numbered : number_of body + 1 < 2 ^ 32) (s : RingState) (rose : Bool) (device : Device) (ready : IsReady ring f s) (watched : IsWatched f g rose device) where
  shown : all_are 255 body ≡ false
  shown = numbered_begun body body (omega (arith, size, ring.served.size)) numbered refl

  module _ (result : Result (Unit {0}) FlashFault) (m : MarkFollows ring body f result g) where
    pub first_step : StepDone (shape_of ring) Body (begun s) device m.begun
    first_step = m.body_first.step s rose device ready (watched-first f m.begun g rose device watched m.mark_then.operates.goes)

    pub second_step : StepEnds (shape_of ring) Mark (begun s) (sealed (shape_of ring) (begun s) body) rose (counted Body device) result g
    second_step =
        m.mark_then.step (begun s) body rose (counted Body device) (begun_stands ring s body rose device f ready) first_step.on refl (m.body_first.page s watched.told ready) size shown
        (watched_then (shape_of ring) Body (begun s) f m.begun g rose device watched m.body_first.operates.goes first_step)

  -- a seal that fails before its erase
  pub page_fails : (e : FlashFault) → SealsPage ring body f (Err e) g → Seals s body rose device ring (Err e) ring g
  page_fails e page = elim page.ends [
    | inl m ↦ seals_of s body rose device ring (Err e) ring g (mark_failed ring s body rose device f ready m.begun g (first_step (Err e) m) e (second_step (Err e) m)) tt
    | inr lost ↦
        seals_of s body rose device ring (Err e) ring g
        (performed_err (shape_of ring) (change (shape_of ring) body) rose Body (Mark ∷ (if (sealed (shape_of ring) s body).dirty then Erase ∷ [] else [])) device s e g (lost.body_first.step s rose device ready watched)) tt
  ]

-- its calls
pub calls_failed : (ring : Ring) (body : List ℕ) (f g : FlashState) (due : Bool) (e : FlashFault) → SealsPage ring body f (Err e) g → SealCalls (shape_of ring) ring.next due body f (Err e) g
calls_failed ring body f g due e page = elim page.ends [
  | inl m ↦ inr (inl (record { fails = refl; begun = m.begun; body_first = m.body_first.programs; mark_then = m.mark_then.programs }))
  | inr lost ↦ inr (inr (record { fails = refl; body_first = lost.body_first.programs }))
]

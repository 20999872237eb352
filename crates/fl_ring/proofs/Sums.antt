-- What several operations do beside the ring's pages.
use Rattle.std.proofs.Common.{◌≡◌, Bool, true, false, if◌then◌else◌, IsTrue, Result, Ok, Err, OnOk, refl, sym, ◌∙◌, ap, subst}
use Rattle.fl_flash.specs.Flash.{FlashState, Goes, page_at}
use Rattle.fl_flash.specs.Media.{next_count}
use Rattle.fl_flash.specs.declared.flash.FlashFault.{FlashFault}
use Rattle.fl_model.specs.Work.{Body, Mark, Erase}
use Rattle.fl_ring.specs.Ring.{Shape, OutsideStands}
use Rattle.fl_ring.specs.Sealing.{SealWork}
use Rattle.fl_ring.specs.Step.{Operates}
use Rattle.fl_frame.proofs.ReadsInTurn.{was_on}

pub outside_more : (r : Shape) (a b c : FlashState) → Goes a b → (IsTrue a.media.tells → OutsideStands r (page_at a) (page_at b)) → (IsTrue b.media.tells → OutsideStands r (page_at b) (page_at c))
    → IsTrue a.media.tells → OutsideStands r (page_at a) (page_at c)
outside_more r a b c goes x y told q out = y (subst IsTrue (sym goes.tells) told) q out ∙ x told q out

module _ (r : Shape) (f mid marked : FlashState) (u v : Unit {0}) (first : Operates r Body f (Ok u) mid) (second : Operates r Mark mid (Ok v) marked) where
  on : f.is_on ≡ true
  on = was_on f (Ok u) mid u first.off refl

  two_programs : marked.work.programs ≡ next_count (next_count f.work.programs)
  two_programs = second.programs first.cause.on ∙ ap next_count (first.programs on)

  no_erase : marked.work.erases ≡ f.work.erases
  no_erase = second.erases first.cause.on ∙ first.erases on

  pub work_marked : (due : Bool) → due ≡ false → SealWork f.work due marked.work
  work_marked due e = record { programs = two_programs; erases = no_erase ∙ ap (λ (b : Bool). if b then next_count f.work.erases else f.work.erases) (sym e) }

  pub work_sealed : (new : FlashState) (result : Result (Unit {0}) FlashFault) (due : Bool) → due ≡ true → Operates r Erase marked result new → OnOk result (SealWork f.work due new.work)
  work_sealed new (Err e) due is third = tt
  work_sealed new (Ok w) due is third = record {
    programs = third.programs second.cause.on ∙ two_programs;
    erases = third.erases second.cause.on ∙ ap next_count no_erase ∙ ap (λ (b : Bool). if b then next_count f.work.erases else f.work.erases) (sym is);
  }

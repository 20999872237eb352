-- What calls do beside a ring's pages, one after another.
use Rattle.std.proofs.Common.{ℕ, ◌+◌, ◌≤◌, Result, inl, inr, ap, arith}
use Rattle.std.proofs.lemmas.Bool.{cases_Bool}
use Rattle.fl_flash.specs.Flash.{FlashState}
use Rattle.fl_flash.specs.declared.flash.FlashFault.{FlashFault}
use Rattle.fl_frame.proofs.CallsInTurn.{goes-then}
use Rattle.fl_model.specs.Work.{VoidMark, Erase}
use Rattle.fl_frame.specs.Reads.{OnlyReads}
use Rattle.fl_ring.specs.Repairing.{Beside}
use Rattle.fl_ring.specs.Ring.{Shape}
use Rattle.fl_ring.specs.Step.{Operates}
use Rattle.fl_frame.proofs.ReadsInTurn.{same_page}
use Rattle.fl_ring.proofs.Sums.{outside_more}

pub beside_reads : (r : Shape) (n : ℕ) (a b : FlashState) → OnlyReads a n b → Beside r n 0 0 a b
beside_reads r n a b reads = record {
  goes = reads.goes;
  outside = λ told q out. same_page a b n q reads;
  few_reads = reads.reads;
  media_reads = reads.media_reads;
  few_programs = omega (arith, reads.programs);
  few_erases = omega (arith, reads.erases);
}

pub beside_more : (r : Shape) (n p e m q d : ℕ) (a b c : FlashState) → Beside r n p e a b → Beside r m q d b c → Beside r (n + m) (p + q) (e + d) a c
beside_more r n p e m q d a b c x y = record {
  goes = goes-then a b c x.goes y.goes;
  outside = outside_more r a b c x.goes x.outside y.outside;
  few_reads = omega (arith, x.few_reads, y.few_reads);
  media_reads = omega (arith, x.media_reads, y.media_reads);
  few_programs = omega (arith, x.few_programs, y.few_programs);
  few_erases = omega (arith, x.few_erases, y.few_erases);
}

pub beside_up : (r : Shape) (n p e m q d : ℕ) (a b : FlashState) → n ≤ m → p ≤ q → e ≤ d → Beside r n p e a b → Beside r m q d a b
beside_up r n p e m q d a b le le_p le_e x = record {
  goes = x.goes;
  outside = x.outside;
  few_reads = omega (arith, x.few_reads);
  media_reads = omega (arith, x.media_reads);
  few_programs = omega (arith, x.few_programs);
  few_erases = omega (arith, x.few_erases);
}

module _ (r : Shape) (a b : FlashState) (result : Result (Unit {0}) FlashFault) where
  pub beside_void : Operates r VoidMark a result b → Beside r 0 1 0 a b
  beside_void did = record {
    goes = did.goes;
    outside = did.outside;
    few_reads = omega (arith, did.reads);
    media_reads = omega (arith, did.media_reads);
    few_programs = elim (cases_Bool a.is_on) [ inl on ↦ omega (arith, did.programs on) | inr off ↦ omega (arith, ap (λ (x : FlashState). x.work.programs) (did.off off).1) ];
    few_erases = elim (cases_Bool a.is_on) [ inl on ↦ omega (arith, did.erases on) | inr off ↦ omega (arith, ap (λ (x : FlashState). x.work.erases) (did.off off).1) ];
  }

  pub beside_erase : Operates r Erase a result b → Beside r 0 0 1 a b
  beside_erase did = record {
    goes = did.goes;
    outside = did.outside;
    few_reads = omega (arith, did.reads);
    media_reads = omega (arith, did.media_reads);
    few_programs = elim (cases_Bool a.is_on) [ inl on ↦ omega (arith, did.programs on) | inr off ↦ omega (arith, ap (λ (x : FlashState). x.work.programs) (did.off off).1) ];
    few_erases = elim (cases_Bool a.is_on) [ inl on ↦ omega (arith, did.erases on) | inr off ↦ omega (arith, ap (λ (x : FlashState). x.work.erases) (did.off off).1) ];
  }

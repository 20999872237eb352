use Rattle.std.proofs.Common.{◌≡◌, ℕ, Option, Some, None, Result, Ok, Err, List, refl, sym, ◌∙◌, ap, subst, arith, true, ◌⊎◌, inl, inr}
use Rattle.std.specs.Prelude.{option_map}
use Rattle.std.specs.Borrow.{Bor}
use Rattle.std.proofs.lemmas.Result.{err_from_is_err_and}
use Rattle.fl_base.specs.declared.types.BlobRef.{BlobRef}
use Rattle.fl_flash.specs.declared.flash.FlashFault.{FlashFault}
use Rattle.fl_ring.proofs.Written.{writes-none}
use Rattle.fl_parts.specs.Blobs.{PlaceEndsOf, PlaceEnds, MayFill, pages_for}
use Rattle.fl_parts.proofs.BlobSteps.{place-ok, place-none}
use Rattle.fl_parts.proofs.CallsOff.{off-ok, off-err}
use Rattle.fl_flash.specs.Flash.{FlashState}
use Rattle.fl_parts.proofs.PlacedBlobs.{none-kept, none-placed, one-placed, fill-writes}
use Rattle.fl_parts.proofs.Untouched.{no-success}
use Rattle.fl_parts.proofs.blobs.place.Goals as goal
use Rattle.fl_var.specs.declared.var_data.VarData.{VarData}

pub returns-clause-ends : goal.returns-clause-ends
returns-clause-ends g c = λ first plan table item rose device blob_is.
    let f = g.F.Flash.state c.args.flash.now in
    let h = g.F.Flash.state c.append.new.flash in
    let e = c.in_ok-at.ensures in
    let is : c.args.blobs.now ≡ Some c.in-Some.var = c.in-Some.is in
    let bytes : c.args.blob ≡ Some c.in-Some-blob.bytes = c.in-Some-blob.is in
    let placed = blob_is ∙ ap (option_map (λ (b : Bor (List ℕ)). b.now)) bytes in
    subst (λ (o : Option VarData). PlaceEndsOf o f first plan item table rose device (Ok (Some c.in_ok-at.at)) (Some c.append.new.self) h) (sym is)
    (λ watched stands. place-ok c.in-Some.var c.append.new.self f h first plan table e.same stands rose device item c.in-Some-blob.bytes.now c.in_ok-at.at placed (e.ends plan item table rose device watched stands.in_pages placed))

pub returns-in_err-at-clause-ends : goal.returns-in_err-at-clause-ends
returns-in_err-at-clause-ends g c = λ first plan table item rose device blob_is.
    let f = g.F.Flash.state c.args.flash.now in
    let h = g.F.Flash.state c.append.new.flash in
    let e = c.in_err-at.ensures in
    let is : c.args.blobs.now ≡ Some c.in-Some.var = c.in-Some.is in
    let bytes : c.args.blob ≡ Some c.in-Some-blob.bytes = c.in-Some-blob.is in
    let placed = blob_is ∙ ap (option_map (λ (b : Bor (List ℕ)). b.now)) bytes in
    let p = err_from_is_err_and c.from_residual.result c.from_residual.ensures.1 in
    let answer : Err c.in_err-at.field-0.0 ≡ c.from_residual.result = sym (p.1 ∙ ap (λ (x : FlashFault). Err x) p.2) in
    subst (λ (o : Option VarData). PlaceEndsOf o f first plan item table rose device c.from_residual.result (Some c.append.new.self) h) (sym is)
    (λ watched stands. subst (λ (x : Result (Option BlobRef) FlashFault). PlaceEnds first plan item table rose device c.in-Some.var f x c.append.new.self h) answer
    (e.ends plan item table rose device watched stands.in_pages placed))

pub returns-in_default-blob-clause-ends : goal.returns-in_default-blob-clause-ends
returns-in_default-blob-clause-ends g c = λ first plan table item rose device blob_is.
    let f = g.F.Flash.state c.args.flash.now in
    let is : c.args.blobs.now ≡ Some c.in-Some.var = c.in-Some.is in
    let none : c.args.blob ≡ None = c.in_default-blob.is in
    subst (λ (o : Option VarData). PlaceEndsOf o f first plan item table rose device (Ok None) (Some c.in-Some.var) f) (sym is)
    (λ watched stands. place-none c.in-Some.var f first plan table item rose device (blob_is ∙ ap (option_map (λ (b : Bor (List ℕ)). b.now)) none) watched stands)

pub returns-clause-off : goal.returns-clause-off
returns-clause-off g c = λ some down.
    let blob = option_map (λ (b : Bor (List ℕ)). b.now) c.args.blob in
    let is : c.args.blobs.now ≡ Some c.in-Some.var = c.in-Some.is in
    let bytes : c.args.blob ≡ Some c.in-Some-blob.bytes = c.in-Some-blob.is in
    let pages = ap (λ (o : Option VarData). pages_for o blob) is ∙ ap (λ (b : Option (Bor (List ℕ))). pages_for (Some c.in-Some.var) (option_map (λ (b : Bor (List ℕ)). b.now) b)) bytes in
    absurd (off-ok (g.F.Flash.state c.args.flash.now) (g.F.Flash.state c.append.new.flash) c.in_ok-at.at (c.in_ok-at.ensures.off (omega (arith, some, pages))) down)

pub returns-in_err-at-clause-off : goal.returns-in_err-at-clause-off
returns-in_err-at-clause-off g c = λ some.
    let blob = option_map (λ (b : Bor (List ℕ)). b.now) c.args.blob in
    let is : c.args.blobs.now ≡ Some c.in-Some.var = c.in-Some.is in
    let bytes : c.args.blob ≡ Some c.in-Some-blob.bytes = c.in-Some-blob.is in
    let pages = ap (λ (o : Option VarData). pages_for o blob) is ∙ ap (λ (b : Option (Bor (List ℕ))). pages_for (Some c.in-Some.var) (option_map (λ (b : Bor (List ℕ)). b.now) b)) bytes in
    let p = err_from_is_err_and c.from_residual.result c.from_residual.ensures.1 in
    rw (p.1, p.2) (off-err (g.F.Flash.state c.args.flash.now) (g.F.Flash.state c.append.new.flash) c.in_err-at.field-0.0 (c.in_err-at.ensures.off (omega (arith, some, pages))))

pub returns-in_default-blob-clause-off : goal.returns-in_default-blob-clause-off
returns-in_default-blob-clause-off g c = λ some.
    let blob = option_map (λ (b : Bor (List ℕ)). b.now) c.args.blob in
    let is : c.args.blobs.now ≡ Some c.in-Some.var = c.in-Some.is in
    let none : c.args.blob ≡ None = c.in_default-blob.is in
    let pages = ap (λ (o : Option VarData). pages_for o blob) is ∙ ap (λ (b : Option (Bor (List ℕ))). pages_for (Some c.in-Some.var) (option_map (λ (b : Bor (List ℕ)). b.now) b)) none in
    absurd (omega (arith, some, pages))

pub returns-clause-power : goal.returns-clause-power
returns-clause-power g c = λ on. by-calls on c.in_ok-at.ensures.power
  where
    by-calls : (g.F.Flash.state c.args.flash.now).is_on ≡ true → (g.F.Flash.state c.append.new.flash ≡ g.F.Flash.state c.args.flash.now) ⊎ ((g.F.Flash.state c.append.new.flash).is_on ≡ true) → (g.F.Flash.state c.append.new.flash).is_on ≡ true
    by-calls on (inl same) = ap (λ (f : FlashState). f.is_on) same ∙ on
    by-calls on (inr still) = still

pub returns-in_default-clause-placed : goal.returns-in_default-clause-placed
returns-in_default-clause-placed g c = rw c.in_default.is (none-kept (option_map (λ (b : Bor (List ℕ)). b.now) c.args.blob) None None refl refl)

pub returns-in_default-blob-clause-placed : goal.returns-in_default-blob-clause-placed
returns-in_default-blob-clause-placed g c =
    let none : c.args.blob ≡ None = c.in_default-blob.is in
    none-placed (option_map (λ (b : Bor (List ℕ)). b.now) c.args.blob) c.args.blobs.now (Some c.in-Some.var) (ap (option_map (λ (b : Bor (List ℕ)). b.now)) none) (sym c.in-Some.is)

pub returns-in_err-at-clause-placed : goal.returns-in_err-at-clause-placed
returns-in_err-at-clause-placed g c = no-success _ _ c.from_residual.result c.from_residual.ensures.1

pub returns-clause-placed : goal.returns-clause-placed
returns-clause-placed g c =
    let e = c.in_ok-at.ensures in
    let bytes : c.args.blob ≡ Some c.in-Some-blob.bytes = c.in-Some-blob.is in
    one-placed (option_map (λ (b : Bor (List ℕ)). b.now) c.args.blob) c.args.blobs.now c.in-Some-blob.bytes.now c.in-Some.var c.append.new.self c.in_ok-at.at (ap (option_map (λ (b : Bor (List ℕ)). b.now)) bytes) c.in-Some.is e.reference
    (record { next = e.next; oldest = e.oldest; waits = e.waits })

pub returns-in_default-clause-writes : goal.returns-in_default-clause-writes
returns-in_default-clause-writes g c =
    writes-none (MayFill (option_map (λ (b : Bor (List ℕ)). b.now) c.args.blob) c.args.blobs.now) (pages_for c.args.blobs.now (option_map (λ (b : Bor (List ℕ)). b.now) c.args.blob)) (g.F.Flash.state c.args.flash.now)

pub returns-in_default-blob-clause-writes : goal.returns-in_default-blob-clause-writes
returns-in_default-blob-clause-writes g c =
    writes-none (MayFill (option_map (λ (b : Bor (List ℕ)). b.now) c.args.blob) c.args.blobs.now) (pages_for c.args.blobs.now (option_map (λ (b : Bor (List ℕ)). b.now) c.args.blob)) (g.F.Flash.state c.args.flash.now)

pub returns-in_err-at-clause-writes : goal.returns-in_err-at-clause-writes
returns-in_err-at-clause-writes g c =
    let bytes : c.args.blob ≡ Some c.in-Some-blob.bytes = c.in-Some-blob.is in
    fill-writes (option_map (λ (b : Bor (List ℕ)). b.now) c.args.blob) c.args.blobs.now c.in-Some-blob.bytes.now c.in-Some.var (g.F.Flash.state c.args.flash.now) (g.F.Flash.state c.append.new.flash)
    (ap (option_map (λ (b : Bor (List ℕ)). b.now)) bytes) c.in-Some.is c.in_err-at.ensures.writes

pub returns-clause-writes : goal.returns-clause-writes
returns-clause-writes g c =
    let bytes : c.args.blob ≡ Some c.in-Some-blob.bytes = c.in-Some-blob.is in
    fill-writes (option_map (λ (b : Bor (List ℕ)). b.now) c.args.blob) c.args.blobs.now c.in-Some-blob.bytes.now c.in-Some.var (g.F.Flash.state c.args.flash.now) (g.F.Flash.state c.append.new.flash)
    (ap (option_map (λ (b : Bor (List ℕ)). b.now)) bytes) c.in-Some.is c.in_ok-at.ensures.writes

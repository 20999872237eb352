-- The medium of a copy that is opened: one that was looked at, and one that was made.
use Rattle.std.proofs.Common.{◌≡◌, ℕ, ◌≤◌, ◌⊎◌, inl, inr, IsTrue, Some, Result, Ok, Err, List, [], ◌∷◌, length, take, refl, sym, ◌∙◌, ap, subst}
use Rattle.std.specs.Prelude.{IfErr, OnOk}
use Rattle.std.specs.List.{slice_get}
use Rattle.fl_base.specs.Causes.{Rose}
use Rattle.fl_config.specs.Opening.{Differs, IsBroken, IsFound, IsMade, IsOther}
use Rattle.fl_config.specs.Whole.{is_whole, Makes}
use Rattle.fl_flash.specs.Media.{MediaState}
use Rattle.fl_image.specs.Image.{IsImageOf, OnlyLooksAt}
use Rattle.fl_image.proofs.Made.{made}
use Rattle.fl_model.specs.Image.{medium_len}
use Rattle.fl_model.specs.Record.{Config}
use Rattle.fl_words.specs.Config.{Lines}
use Rattle.fl_words.specs.Medium.{header}
use Rattle.fl_store.specs.NewImage.{made_image}
use Rattle.fl_ship.specs.Media.{OpensCopy}
use Rattle.fl_ship.specs.declared.side.Side.TheVariants.{Source, Copy}
use Rattle.fl_ship.specs.declared.status.ShipStatus.{ShipStatus}
use Rattle.fl_ship.specs.declared.status.ShipStatus.TheVariants.{Done, OutWrite, NoMemory, NotImage, Device, BadImage, NoTable, Gap, OtherForm, Spent}

pub some-bytes : (bytes : List ℕ) (n : ℕ) → n ≡ length bytes → (n ≡ 0 → ⊥) → bytes ≡ [] → ⊥
some-bytes bytes n len some empty = some (len ∙ ap (λ (l : List ℕ). length l) empty)

-- a copy that holds bytes isn't made
pub kept-copy : (config : Config) (bytes : List ℕ) → (bytes ≡ [] → ⊥) → bytes ≡ made_image config bytes
kept-copy config [] some = absurd (some refl)
kept-copy config (byte ∷ bytes) some = refl

-- an opened medium of one configuration
module _ (config : Config) (old new : MediaState) where
  -- it was made, or found so; it failed; or it is another one
  by-end : (P : Result (Unit {0}) ShipStatus → Type 0) → ((done : Unit {0}) → IsMade (medium_len config) (header config) old new → P (Ok done)) → ((done : Unit {0}) → IsFound (medium_len config) (header config) old new → P (Ok done)) →
      (IsBroken (medium_len config) old new → P (Err (Device Copy))) → ((wanted found at : ℕ) → IsOther (medium_len config) (header config) wanted found at old new → P (Err (NotImage Copy))) →
      (result : Result (Unit {0}) ShipStatus) → OpensCopy config old result new → P result
  by-end P made_so found_so broken other (Ok done) (inl h) = made_so done h
  by-end P made_so found_so broken other (Ok done) (inr h) = found_so done h
  by-end P made_so found_so broken other (Err (Device Copy)) h = broken h
  by-end P made_so found_so broken other (Err (NotImage Copy)) h = other h.0 h.1 h.2 h.3
  by-end P made_so found_so broken other (Err (Device Source)) h = absurd h
  by-end P made_so found_so broken other (Err (NotImage Source)) h = absurd h
  by-end P made_so found_so broken other (Err (Done shipped)) h = absurd h
  by-end P made_so found_so broken other (Err OutWrite) h = absurd h
  by-end P made_so found_so broken other (Err NoMemory) h = absurd h
  by-end P made_so found_so broken other (Err (BadImage side table)) h = absurd h
  by-end P made_so found_so broken other (Err NoTable) h = absurd h
  by-end P made_so found_so broken other (Err (Gap last oldest)) h = absurd h
  by-end P made_so found_so broken other (Err OtherForm) h = absurd h
  by-end P made_so found_so broken other (Err Spent) h = absurd h

  opens-tells : (result : Result (Unit {0}) ShipStatus) → OpensCopy config old result new → (new.tells ≡ old.tells) × (old.faults ≤ new.faults)
  opens-tells result opens =
      by-end (λ r. (new.tells ≡ old.tells) × (old.faults ≤ new.faults)) (λ done h. (h.tells, h.later)) (λ done h. (h.tells, h.later)) (λ h. (h.tells, h.later)) (λ wanted found at h. (h.tells, h.later)) result opens

  -- one that holds bytes is unchanged
  opens-same : (result : Result (Unit {0}) ShipStatus) → OpensCopy config old result new → (old.content ≡ [] → ⊥) → new.content ≡ old.content
  opens-same result opens some =
      by-end (λ r. new.content ≡ old.content) (λ done h. absurd (some h.empty)) (λ done h. h.same) (λ h. h.same some) (λ wanted found at h. h.same) result opens

  opens-status : (result : Result (Unit {0}) ShipStatus) → OpensCopy config old result new → IfErr result (λ status. (status ≡ NotImage Copy) ⊎ (status ≡ Device Copy))
  opens-status result opens =
      by-end (λ r. IfErr r (λ status. (status ≡ NotImage Copy) ⊎ (status ≡ Device Copy))) (λ done h. tt) (λ done h. tt) (λ h. inr refl) (λ wanted found at h. inl refl) result opens

  -- an empty one that isn't made failed, and wasn't read
  opens-failed : (result : Result (Unit {0}) ShipStatus) → OpensCopy config old result new → old.content ≡ [] → IfErr result (λ status. (status ≡ Device Copy) × (old.content ≡ []) × (new.reads ≡ old.reads) × Rose old.faults new.faults)
  opens-failed result opens empty =
      by-end (λ r. IfErr r (λ status. (status ≡ Device Copy) × (old.content ≡ []) × (new.reads ≡ old.reads) × Rose old.faults new.faults)) (λ done h. tt) (λ done h. tt) (λ h. (refl, empty, h.unread empty, h.rose))
      (λ wanted found at h. absurd (h.some empty)) result opens

  opens-found : OpensCopy config old (Ok tt) new → (old.content ≡ [] → ⊥) → IsFound (medium_len config) (header config) old new
  opens-found (inl h) some = absurd (some h.empty)
  opens-found (inr h) some = h

  -- a medium of another configuration
  other-medium : {wanted found at : ℕ} → IsOther (medium_len config) (header config) wanted found at old new → IsTrue old.tells → length old.content ≡ medium_len config → take 1024 old.content ≡ header config → ⊥
  other-medium {wanted} {found} {at} h tells size head = by h.other
    where
      one : (a b : ℕ) → Differs (header config) (take 1024 old.content) at a b → a ≡ b
      one a b d = let k : Some a ≡ Some b = sym d.wanted_is ∙ (ap (λ (l : List ℕ). slice_get l at) (sym head) ∙ d.found_is) in cc

      by : ((wanted ≡ medium_len config) × (found ≡ length old.content) × (at ≡ 1024) × (wanted ≡ found → ⊥)) ⊎ ((length old.content ≡ medium_len config) × (IsTrue old.tells → Differs (header config) (take 1024 old.content) at wanted found)) → ⊥
      by (inl l) = l.3 (l.0 ∙ (sym size ∙ sym l.1))
      by (inr d) = (d.1 tells).differ (one wanted found (d.1 tells))

-- ---- the medium of a copy, over all configurations that the lines make

module _ (lines : Lines) (whole : IsTrue (is_whole lines)) (old new : MediaState) (result : Result (Unit {0}) ShipStatus) (opens : (config : Config) → Makes lines config → OpensCopy config old result new) where
  abbrev own : Config
  own = (made lines whole).0

  abbrev opened : OpensCopy own old result new
  opened = opens own (made lines whole).1

  pub looks-at : (old.content ≡ [] → ⊥) → OnlyLooksAt old new
  looks-at some = record {
    tells = (opens-tells own old new result opened).0;
    content = opens-same own old new result opened some;
    later = (opens-tells own old new result opened).1;
  }

  found-in : (r : Result (Unit {0}) ShipStatus) → result ≡ r → r ≡ Ok tt → (old.content ≡ [] → ⊥) → (config : Config) → Makes lines config → IsFound (medium_len config) (header config) old new
  found-in r is done some config makes = opens-found config old new (subst (λ (x : Result (Unit {0}) ShipStatus). OpensCopy config old x new) (is ∙ done) (opens config makes)) some

  pub own-image : (old.content ≡ [] → ⊥) → OnOk result (IsTrue old.tells → (old.content ≡ []) ⊎ IsImageOf old.content lines)
  own-image some = by result refl
    where
      by : (r : Result (Unit {0}) ShipStatus) → result ≡ r → OnOk r (IsTrue old.tells → (old.content ≡ []) ⊎ IsImageOf old.content lines)
      by (Ok done) is = λ tells. inr (record {
        head = record { whole = whole; text = λ config makes. (found-in (Ok done) is refl some config makes).head_is tells };
        size = λ config makes. (found-in (Ok done) is refl some config makes).len_is;
      })
      by (Err status) is = tt

  pub other-image : (old.content ≡ [] → ⊥) → result ≡ Err (NotImage Copy) → IsTrue old.tells → (old.content ≡ [] → ⊥) × (IsImageOf old.content lines → ⊥)
  other-image some is tells =
      let h = subst (λ (x : Result (Unit {0}) ShipStatus). OpensCopy own old x new) is opened in
      (some, λ image. other-medium own old new h.3 tells (image.size own (made lines whole).1) (image.head.text own (made lines whole).1))

  pub broken-copy : result ≡ Err (Device Copy) → Rose old.faults new.faults
  broken-copy is = (subst (λ (x : Result (Unit {0}) ShipStatus). OpensCopy own old x new) is opened).rose

  pub status-in : IfErr result (λ status. (status ≡ NotImage Copy) ⊎ (status ≡ Device Copy))
  status-in = opens-status own old new result opened

  -- an empty one that isn't made failed, and wasn't read
  pub failed-in : old.content ≡ [] → IfErr result (λ status. (status ≡ Device Copy) × (old.content ≡ []) × (new.reads ≡ old.reads) × Rose old.faults new.faults)
  failed-in empty = opens-failed own old new result opened empty

  pub counts-in : (new.tells ≡ old.tells) × (old.faults ≤ new.faults)
  counts-in = opens-tells own old new result opened

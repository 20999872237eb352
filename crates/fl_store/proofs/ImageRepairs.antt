-- The pages of an image are as they were but for what a mount repairs.
use Rattle.std.proofs.Common.{◌≡◌, ℕ, inl, List, sym, ap, subst}
use Rattle.fl_base.specs.declared.types.Geometry.{Geometry}
use Rattle.fl_flash.specs.Flash.{FlashState, page_at}
use Rattle.fl_flash.specs.Places.{page_of}
use Rattle.fl_model.specs.Image.{page_bytes}
use Rattle.fl_model.specs.Record.{Plan, Config}
use Rattle.fl_frame.specs.Contents.{Contents, OnlyReads}
use Rattle.fl_store.specs.Repaired.{IsLeft, AreRepaired, OthersAreRepaired}

-- nothing changed
still-left : (config : Config) (content content_now : List ℕ) → content_now ≡ content → (page : ℕ) → IsLeft config.plans config.geometry page (page_bytes config content page) (page_bytes config content_now page)
still-left config content content_now same page = inl (inl (ap (λ (c : List ℕ). page_bytes config c page) same))

pub still-repaired : (config : Config) (content content_now : List ℕ) → content_now ≡ content → AreRepaired config content content_now
still-repaired config content content_now same page within = still-left config content content_now same page

pub others-still : (config : Config) (name content content_now : List ℕ) → content_now ≡ content → OthersAreRepaired config name content content_now
others-still config name content content_now same page other = still-left config content content_now same page

-- .. before
pub repaired-after : (config : Config) (content mid now : List ℕ) → mid ≡ content → AreRepaired config mid now → AreRepaired config content now
repaired-after config content mid now same h = subst (λ (c : List ℕ). AreRepaired config c now) same h

pub others-after : (config : Config) (name content mid now : List ℕ) → mid ≡ content → OthersAreRepaired config name mid now → OthersAreRepaired config name content now
others-after config name content mid now same h = subst (λ (c : List ℕ). OthersAreRepaired config name c now) same h

-- reads change no page
pub repaired-read : (plans : List Plan) (geometry : Geometry) (page : ℕ) (f g h : FlashState) → OnlyReads g h → IsLeft plans geometry page (page_at f page) (page_at g page) → IsLeft plans geometry page (page_at f page) (page_at h page)
repaired-read plans geometry page f g h only repaired = subst (IsLeft plans geometry page (page_at f page)) (sym (ap (λ (c : Contents). page_of c.bytes c.start c.geometry.page page) only.contents)) repaired

-- The law that puts are kept, tried on runs over one table whose ring gives up nothing: a put that forgets the records before its
-- own doesn't keep them, and one that joins them does.
use Rattle.std.proofs.Common.{◌≡◌, ℕ, Bool, true, false, Some, None, List, [], ◌∷◌, refl, inl, inr}
use Rattle.fl_model.specs.Ring.{fresh}
use Rattle.fl_model.specs.Table.{Table, Entry}
use Rattle.fl_words.specs.Command as command
use Rattle.fl_words.specs.Command.{Command}
use Rattle.fl_words.specs.Reply as reply
use Rattle.fl_machine.specs.Machine.{Machine, begins}
use Rattle.fl_machine.specs.Step.{Moment}
use Rattle.fl_machine.specs.Keeping.{KeepsPuts, standing_at}

abbrev entry : ℕ → Entry
entry key = record { kept = record { key = key; values = []; blob = None }; page = 0; offset = 0 }

-- a table with these entries, so many of them pending, and these in its log
abbrev holding : List Entry → ℕ → List Entry → Table
holding entries pending logged = record {
  entries = entries;
  rows = fresh;
  index = None;
  var = None;
  log = Some fresh;
  index_pages = [];
  var_pages = [];
  logged = logged;
  logged_before = [];
  pending = pending;
  buffered = [];
  waiting = [];
  points = [];
}

abbrev machine : Bool → Table → Machine
machine mounted table = record (begins (table ∷ [])) { mounted = mounted }

abbrev goes_to : Command → Machine → Moment
goes_to c after = record { command = c; rose = false; reads = 0; last = None; replies = reply.Done ∷ []; after = after }

-- a mount, two puts that leave these records, the end of the session, and a mount that finds those of the second put
abbrev two_puts : List Entry → List Entry → ℕ → List Moment
two_puts first second pending =
    goes_to command.Mount (machine true (holding [] 0 []))
    ∷ goes_to (command.Put [] 1 [] None) (machine true (holding first 1 first))
    ∷ goes_to (command.Put [] 2 [] None) (machine true (holding second pending second))
    ∷ goes_to command.Off (machine false (holding [] 0 second))
    ∷ goes_to command.Mount (machine true (holding second 0 second)) ∷ []

abbrev IsKeptBy : List Moment → Type 0
IsKeptBy moments = KeepsPuts 0 (standing_at 0 (holding [] 0 [] ∷ [])) (machine false (holding [] 0 [])) moments

put_joins : IsKeptBy (two_puts (entry 1 ∷ []) (entry 1 ∷ entry 2 ∷ []) 2)
put_joins = (
  λ m. record { all = inl refl; paid = inl refl },
  (
    λ m. absurd (no_put 1 m.mounts),
    (λ m. absurd (no_put 2 m.mounts), (λ m. absurd (no_off m.mounts), (λ m. record { all = inl refl; paid = inl refl }, tt))),
  ),
)
  where
    no_put : (key : ℕ) → command.Put [] key [] None ≡ command.Mount → ⊥
    no_put key e = cc

    no_off : command.Off ≡ command.Mount → ⊥
    no_off e = cc

put_forgets : IsKeptBy (two_puts (entry 1 ∷ []) (entry 2 ∷ []) 1) → ⊥
put_forgets h = elim (h.1.1.1.1.0 (record { mounts = refl; succeeds = refl })).all [ inl e ↦ fewer e | inr e ↦ fewer e ]
  where
    fewer : entry 2 ∷ [] ≡ entry 1 ∷ entry 2 ∷ [] → ⊥
    fewer e = cc

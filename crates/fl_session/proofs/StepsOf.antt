-- The commands of a session, each by its step.
use Rattle.std.proofs.Common.{◌≡◌, ℕ, ◌≤◌, Bool, false, Option, Some, None, Ok, List, [], ◌∷◌, map, refl, sym, ap, subst, arith}
use Rattle.fl_base.specs.declared.types.CutKind.{CutKind}
use Rattle.fl_base.proofs.Appended.{appends-none}
use Rattle.fl_flash.specs.declared.tear.Tear.TheVariants.{Kind}
use Rattle.fl_flash.specs.Flash.{FlashState}
use Rattle.fl_model.specs.Record.{Config}
use Rattle.fl_model.specs.Table.{lose}
use Rattle.fl_words.specs.Command as command
use Rattle.fl_words.specs.Command.{Command}
use Rattle.fl_words.specs.Reply as reply
use Rattle.fl_words.specs.Reply.{Reply, text, texts}
use Rattle.fl_machine.specs.Machine.{Machine, stopped}
use Rattle.fl_script.specs.Written.{Written}
use Rattle.fl_script.specs.declared.command.Command as code
use Rattle.fl_script.specs.CommandView.{command_view}
use Rattle.fl_store.specs.Tables.{first_of}
use Rattle.fl_store.specs.declared.tables.Entry.{Entry}
use Rattle.fl_store.proofs.TablesChanged.{entry-off, tables-become}
use Rattle.fl_session.specs.Answer.{Answers}
use Rattle.fl_session.specs.Runnable.{IsRunnable}
use Rattle.fl_session.specs.Execute.{Executes}
use Rattle.fl_session.specs.declared.notes.Notes.{Notes}
use Rattle.fl_session.specs.Standing.{SessionStands}
use Rattle.fl_session.proofs.CommandReplies.{answers-saying, saying, says}
use Rattle.fl_session.proofs.ExecutedCommand.{executes-by}
use Rattle.fl_session.proofs.Rested.{stays-still}
use Rattle.fl_store.proofs.TablesOnlyRead.{tables-kept}

-- nothing is done
pub executes-nothing : (E : Type 0) (config : Config) (old : Machine) (c : Command) (entries : List Entry) (notes : Notes) (f : FlashState) (mounted : Bool) (told : Option (List ℕ)) → c ≡ command.Nothing → SessionStands config entries f mounted notes old →
    Executes {E = E} config old c (SessionStands config entries f mounted notes) f f told told (Ok tt)
executes-nothing E config old c entries notes f mounted told e s =
    let moment = saying command.Nothing [] old in
    let w : Written {E = E} told told (Ok tt) [] = appends-none told in
    subst (λ x. Executes {E = E} config old x (SessionStands config entries f mounted notes) f f told told (Ok tt)) (sym e)
    (executes-by E config old command.Nothing (SessionStands config entries f mounted notes) f f told told (Ok tt) moment refl (record { replies_are = refl; after_is = refl; last_is = refl }) s
    (stays-still config old moment entries notes f f mounted s refl) (refl, omega arith) tt (λ t. cc) w)

stands-off : (config : Config) (old : Machine) (entries : List Entry) (notes : Notes) (f : FlashState) (mounted : Bool) → SessionStands config entries f mounted notes old → SessionStands config entries (record f { is_on = false }) false notes (stopped old)
stands-off config old entries notes f mounted h = record {
  knots = h.knots;
  medium = record { told = h.medium.told; len = h.medium.len; head = h.medium.head; start = h.medium.start; geometry = h.medium.geometry };
  tables = tables-kept f (record f { is_on = false }) refl refl (λ i. false) config.plans entries (map lose old.tables)
      (tables-become f f (λ i. mounted) (λ i. false) config.plans entries old.tables lose h.tables (λ i plan e x k. entry-off e f mounted (first_of config.plans i) plan x k));
  is_mounted = refl;
  cursors = refl;
  device = record { armed = h.device.armed; programs = h.device.programs; erases = h.device.erases };
  cost_is = h.cost_is;
  power = λ t. cc;
}

pub answers-off : (config : Config) (old : Machine) (entries : List Entry) (notes : Notes) (f g : FlashState) (mounted : Bool) → g ≡ record f { is_on = false } → SessionStands config entries f mounted notes old →
    Answers config old command.Off (SessionStands config entries g false notes) f g (text reply.Done)
answers-off config old entries notes f g mounted is h =
    answers-saying config old command.Off reply.Done (stopped old) entries notes f g false (ap (λ (x : FlashState). x.media.content) is) (says command.Off (reply.Done ∷ []) (stopped old))
    (subst (λ x. SessionStands config entries x false notes (stopped old)) (sym is) (stands-off config old entries notes f mounted h))

-- a cut is armed
abbrev cut_to_come : Machine → ℕ → CutKind → Machine
cut_to_come old n kind = record old { device = record old.device { armed = Some (n, kind) } }

stands-cut : (config : Config) (old : Machine) (entries : List Entry) (notes : Notes) (f : FlashState) (mounted : Bool) (n : ℕ) (kind : CutKind) → 1 ≤ n →
    SessionStands config entries f mounted notes old → SessionStands config entries (record f { armed = Some (record { left = n; tear = Kind kind }) }) mounted notes (cut_to_come old n kind)
stands-cut config old entries notes f mounted n kind counted h = record {
  knots = h.knots;
  medium = record { told = h.medium.told; len = h.medium.len; head = h.medium.head; start = h.medium.start; geometry = h.medium.geometry };
  tables = tables-kept f (record f { armed = Some (record { left = n; tear = Kind kind }) }) refl refl (λ i. mounted) config.plans entries old.tables h.tables;
  is_mounted = h.is_mounted;
  cursors = h.cursors;
  device = record { armed = (kind, refl, counted, refl); programs = h.device.programs; erases = h.device.erases };
  cost_is = h.cost_is;
  power = h.power;
}

pub answers-cut : (config : Config) (old : Machine) (entries : List Entry) (notes : Notes) (f g : FlashState) (mounted : Bool) (n : ℕ) (kind : CutKind) → 1 ≤ n → g ≡ record f { armed = Some (record { left = n; tear = Kind kind }) } →
    SessionStands config entries f mounted notes old → Answers config old (command.Cut n kind) (SessionStands config entries g mounted notes) f g (text reply.Done)
answers-cut config old entries notes f g mounted n kind counted is h =
    answers-saying config old (command.Cut n kind) reply.Done (cut_to_come old n kind) entries notes f g mounted (ap (λ (x : FlashState). x.media.content) is) (says (command.Cut n kind) (reply.Done ∷ []) (cut_to_come old n kind))
    (subst (λ x. SessionStands config entries x mounted notes (cut_to_come old n kind)) (sym is) (stands-cut config old entries notes f mounted n kind counted h))

-- a command that is run and isn't one of the others is nothing
pub default-view : (c : code.Command) (room : List ℕ) → IsRunnable (command_view c room) → (c ≡ code.TheVariants.Mount → ⊥) → (c ≡ code.TheVariants.Off → ⊥) → ((n : ℕ) (kind : CutKind) → c ≡ code.TheVariants.Cut n kind → ⊥) →
    ((name : _) (key : ℕ) (values : _) (blob : Bool) → c ≡ code.TheVariants.Put name key values blob → ⊥) → ((name : _) → c ≡ code.TheVariants.Flush name → ⊥) → ((name : _) → c ≡ code.TheVariants.Stat name → ⊥) → ((name : _) (key : ℕ) → c ≡ code.TheVariants.Get name key → ⊥) → ((name : _) (range : _) (span : _) → c ≡ code.TheVariants.Scan name range span → ⊥) →
    ((name : _) (count step seed : ℕ) → c ≡ code.TheVariants.Load name count step seed → ⊥) → ((cursor : ℕ) (name : _) (range : _) (span : _) → c ≡ code.TheVariants.Open cursor name range span → ⊥) → ((cursor : ℕ) → c ≡ code.TheVariants.Close cursor → ⊥) → ((cursor count : ℕ) → c ≡ code.TheVariants.Next cursor count → ⊥) →
    (c ≡ code.TheVariants.Cost → ⊥) → ((name : _) (range : _) (column : ℕ) (op : _) (value : _) → c ≡ code.TheVariants.Select name range column op value → ⊥) → ((name : _) (range : _) (columns : _) → c ≡ code.TheVariants.Project name range columns → ⊥) → ((name : _) (range : _) (column width : ℕ) → c ≡ code.TheVariants.Agg name range column width → ⊥) →
    ((left right : _) (range : _) → c ≡ code.TheVariants.Join left right range → ⊥) → ((name : _) (key : ℕ) → c ≡ code.TheVariants.Blob name key → ⊥) → command_view c room ≡ command.Nothing
default-view code.TheVariants.Nothing room r m n k p f s t l o u v w q x y z j b = refl
default-view code.TheVariants.Mount room r m n k p f s t l o u v w q x y z j b = absurd (m refl)
default-view code.TheVariants.Off room r m n k p f s t l o u v w q x y z j b = absurd (n refl)
default-view (code.TheVariants.Cut i kind) room r m n k p f s t l o u v w q x y z j b = absurd (k i kind refl)
default-view (code.TheVariants.Put name key values blob) room r m n k p f s t l o u v w q x y z j b = absurd (p name key values blob refl)
default-view (code.TheVariants.Flush name) room r m n k p f s t l o u v w q x y z j b = absurd (f name refl)
default-view (code.TheVariants.Stat name) room r m n k p f s t l o u v w q x y z j b = absurd (s name refl)
default-view (code.TheVariants.Get name key) room r m n k p f s t l o u v w q x y z j b = absurd (t name key refl)
default-view (code.TheVariants.Scan name range span) room r m n k p f s t l o u v w q x y z j b = absurd (l name range span refl)
default-view code.TheVariants.Cost room r m n k p f s t l o u v w q x y z j b = absurd (q refl)
default-view (code.TheVariants.Load name count step seed) room r m n k p f s t l o u v w q x y z j b = absurd (o name count step seed refl)
default-view (code.TheVariants.Open cursor name range span) room r m n k p f s t l o u v w q x y z j b = absurd (u cursor name range span refl)
default-view (code.TheVariants.Close cursor) room r m n k p f s t l o u v w q x y z j b = absurd (v cursor refl)
default-view (code.TheVariants.Next cursor count) room r m n k p f s t l o u v w q x y z j b = absurd (w cursor count refl)
default-view (code.TheVariants.Select name range column op value) room r m n k p f s t l o u v w q x y z j b = absurd (x name range column op value refl)
default-view (code.TheVariants.Project name range columns) room r m n k p f s t l o u v w q x y z j b = absurd (y name range columns refl)
default-view (code.TheVariants.Agg name range column width) room r m n k p f s t l o u v w q x y z j b = absurd (z name range column width refl)
default-view (code.TheVariants.Join left right range) room r m n k p f s t l o u v w q x y z j b = absurd (j left right range refl)
default-view (code.TheVariants.Device page block) room r m n k p f s t l o u v w q x y z j b = absurd (none r.runs)
  where
    none : None ≡ Some (command.Device page block) → ⊥
    none e = cc
default-view (code.TheVariants.Table name key rows index var bits base width error blob full log) room r m n k p f s t l o u v w q x y z j b = absurd (none r.runs)
  where
    none : None ≡ Some (command_view (code.TheVariants.Table name key rows index var bits base width error blob full log) room) → ⊥
    none e = cc
default-view (code.TheVariants.Blob name key) room r m n k p f s t l o u v w q x y z j b = absurd (b name key refl)

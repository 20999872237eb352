-- The reads of a mount, with that of the page that waits.
use Rattle.std.proofs.Common.{◌≡◌, ℕ, ◌+◌, ◌≤◌, Option, Some, None, Result, Ok, Err, ap, arith}
use Rattle.std.specs.Prelude.{IfOk}
use Rattle.fl_flash.specs.Flash.{FlashState}
use Rattle.fl_frame.specs.Reads.{OnlyReads}
use Rattle.fl_frame.proofs.ReadsInTurn.{no_reads, more_reads}
use Rattle.fl_parts.specs.Knowing.{is_waiting, ReadsBut}
use Rattle.fl_parts.specs.declared.known.Known.{Known}
use Rattle.fl_parts.specs.declared.known.Listed.{Listed}

-- one page waits at most
pub waiting-few : (o : Option Listed) → is_waiting o ≤ 1
waiting-few None = omega arith
waiting-few (Some listed) = omega arith

pub none-waits : (o : Option Listed) (n : ℕ) → ◌≡◌ {A = Option Listed} o None → is_waiting o ≤ n
none-waits o n e = omega (arith, ap is_waiting e)

pub spared-none : (f : FlashState) (n : ℕ) (known : Known) → is_waiting known.newest ≤ n → ReadsBut f n known f
spared-none f n known few = record { some = 0; reads = no_reads f; few = omega (arith, few) }

-- so many reads more
pub spared-more : (a b c : FlashState) (n m : ℕ) (old new : Known) → ReadsBut a n old b → ReadsBut b (m + is_waiting old.newest) new c → ReadsBut a (n + m) new c
spared-more a b c n m old new x y = record { some = x.some + y.some; reads = more_reads a b c x.some y.some x.reads y.reads; few = omega (arith, x.few, y.few) }

pub spared-reads : (a b : FlashState) (m : ℕ) (old new : Known) → OnlyReads a m b → is_waiting new.newest ≤ is_waiting old.newest → ReadsBut a (m + is_waiting old.newest) new b
spared-reads a b m old new reads few = record { some = m; reads = reads; few = omega (arith, few) }

pub spared-within : (a b : FlashState) (n m : ℕ) (known : Known) → n ≤ m → ReadsBut a n known b → ReadsBut a m known b
spared-within a b n m known le x = record { some = x.some; reads = x.reads; few = omega (arith, x.few, le) }

-- two facts of a value
pub ok-two : {T E : Type 0} (r : Result T E) (P Q R : T → Type 0) → ((x : T) → P x → Q x → R x) → IfOk r P → IfOk r Q → IfOk r R
ok-two (Ok x) P Q R f p q = f x p q
ok-two (Err e) P Q R f p q = tt

-- Why lines aren't listed to the end, and what is said of it.
use Rattle.std.specs.Prelude.{◌≡◌, ℕ, Bool, false, option_map, unwrap_or, Option, None, Result, Err, List}
use Rattle.std.specs.List.{last_or}
use Rattle.fl_base.specs.declared.stream.SinkFailed.{SinkFailed}
use Rattle.fl_flash.specs.Flash.{FlashState}
use Rattle.fl_page.specs.Causes.{IsCaused}
use Rattle.fl_page.specs.declared.fault.ReadFault.TheVariants.{Flash, BadPage}
use Rattle.fl_words.specs.Reply as words
use Rattle.fl_words.specs.Reply.{text}
use Rattle.fl_machine.specs.Reads.{is_read_fault}
use Rattle.fl_script.specs.Written.{Written}
use Rattle.fl_queries.specs.declared.listing.ListFault.{ListFault}
use Rattle.fl_queries.specs.declared.listing.ListFault.TheVariants.{Sink, Read}

-- a fault of the sink has this cause
abbrev pub IfSink : ListFault → Type 0 → Type 0
IfSink (Sink failed) P = P
IfSink (Read fault) P = Unit {0}

-- .. and one of a read has its own
abbrev pub IfUnread : FlashState → FlashState → ListFault → Type 0
IfUnread old new (Sink failed) = Unit {0}
IfUnread old new (Read fault) = IsCaused old fault new

-- what is said of it: nothing more to a sink that failed
abbrev pub SaysFault : ListFault → Option (List ℕ) → Option (List ℕ) → Result (Unit {0}) SinkFailed → Type 0
SaysFault (Sink failed) told told_now result = (result ≡ Err failed) × (told_now ≡ told)
SaysFault (Read (Flash fault)) told told_now result = Written told told_now result (text words.ReadFault)
SaysFault (Read (BadPage bad)) told told_now result = Written told told_now result (text (words.BadPage bad.wanted))

-- the last of these replies says that a read failed
abbrev pub ends_unread : List words.Reply → Bool
ends_unread replies = unwrap_or (option_map is_read_fault (last_or None replies)) false

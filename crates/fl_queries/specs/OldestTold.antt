-- What is told of the oldest record of a table whose blob isn't gone, over any bytes and on any medium.
use Rattle.std.specs.Prelude.{◌≡◌, ℕ, Option, Result, Ok, Err}
use Rattle.fl_cursor.specs.Cursor.{MayBeBad}
use Rattle.fl_flash.specs.Flash.{FlashState}
use Rattle.fl_flash.specs.declared.flash.FlashFault.{FlashFault}
use Rattle.fl_page.specs.Causes.{IsCaused}
use Rattle.fl_frame.specs.Contents.{contents_of}
use Rattle.fl_page.specs.declared.fault.BadPage.{BadPage}
use Rattle.fl_page.specs.declared.fault.ReadFault.TheVariants as fault
use Rattle.fl_script.specs.declared.reply.Reply.{Reply}
use Rattle.fl_script.specs.declared.reply.Reply.TheVariants as reply
use Rattle.fl_table.specs.declared.table.Table.{Table}

-- A key or that there is none; or why a page wasn't read: the flash failed, or the page is a bad one of the table or its index.
abbrev pub OldestIn : Table 64 64 → FlashState → FlashState → Result (Option ℕ) Reply → Type 0
OldestIn t f g (Ok key) = Unit {0}
OldestIn t f g (Err reply.ReadFault) = (e : FlashFault) × IsCaused f (fault.Flash e) g
OldestIn t f g (Err (reply.BadPage number)) = (bad : BadPage) × (bad.wanted ≡ number) × MayBeBad t (contents_of f) bad
OldestIn t f g (Err said) = ⊥

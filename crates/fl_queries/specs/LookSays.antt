-- The reply to a lookup, over any bytes and on any medium.
use Rattle.std.specs.Prelude.{◌≡◌, ℕ, ◌+◌, ◌-◌, ◌≤◌, true, None, List}
use Rattle.fl_flash.specs.Flash.{FlashState}
use Rattle.fl_flash.specs.declared.flash.FlashFault.{FlashFault}
use Rattle.fl_page.specs.declared.fault.BadPage.{BadPage}
use Rattle.fl_page.specs.declared.fault.ReadFault.TheVariants as fault
use Rattle.fl_table.specs.BlobAt.{has_blobs}
use Rattle.fl_table.specs.Finding.{BlamesFor, IsAnswered, LookupFails, is_covered_in}
use Rattle.fl_table.specs.Look.{oldest_in}
use Rattle.fl_table.specs.Memory.{next_in}
use Rattle.fl_table.specs.declared.table.Table.{Table}
use Rattle.fl_words.specs.Reply as reply
use Rattle.fl_words.specs.Reply.{Reply, text}
use Rattle.fl_queries.specs.Found.{FindsRow}
use Rattle.fl_queries.specs.Rows.{row_reply}

-- these bytes are the text of a reply of which this holds
pub record Says (said : List ℕ) (Holds : Reply → Type 0) : Type 0 where
  pub reply : Reply
  pub said_is : said ≡ text reply
  pub holds : Holds reply

-- The line of a row with the key, which stands where the lookup found it.
abbrev pub TellsRow : Table 64 64 → ℕ → FlashState → Reply → Type 0
TellsRow t key f said = FindsRow t key f (λ row. said ≡ row_reply (has_blobs t) row)

-- The row with the key or that there is none, as the lookup in the table ends; a read fault, or the bad page, only where it
-- fails so. Of a covered key it is the newest bad page before the end of its window, and none from it to there begins with at most the key.
abbrev pub LookSays : Table 64 64 → ℕ → FlashState → FlashState → Reply → Type 0
LookSays t key f g reply.Absent = IsAnswered t f key None
LookSays t key f g (reply.Row k values note) = TellsRow t key f (reply.Row k values note)
LookSays t key f g reply.ReadFault = (e : FlashFault) × LookupFails t f (fault.Flash e) g
LookSays t key f g (reply.BadPage number) = (bad : BadPage) × (bad.wanted ≡ number) × LookupFails t f (fault.BadPage bad) g × (is_covered_in t key ≡ true → BlamesFor t f key (fault.BadPage bad))
LookSays t key f g _ = ⊥

-- a lookup reads no more pages than the table keeps, and one
abbrev pub ReadsFew : Table 64 64 → FlashState → FlashState → Type 0
ReadsFew t f g = g.work.reads ≤ f.work.reads + (next_in t - oldest_in t) + 1

-- The replies to the calls of a table.
use Rattle.std.specs.Prelude.{Result, Ok, Err}
use Rattle.fl_flash.specs.declared.flash.FlashFault.{FlashFault}
use Rattle.fl_flash.specs.declared.flash.FlashFault.TheVariants.{PowerLost, Media}
use Rattle.fl_words.specs.Reply as reply
use Rattle.fl_words.specs.Reply.{Reply}
use Rattle.fl_table.specs.declared.faults.PutRefusal.{PutRefusal}
use Rattle.fl_table.specs.declared.faults.PutRefusal.TheVariants as put
use Rattle.fl_table.specs.declared.faults.FlushFault.{FlushFault}
use Rattle.fl_table.specs.declared.faults.FlushFault.TheVariants as flush

-- the reply to an operation that failed
abbrev pub fault_reply : FlashFault → Reply
fault_reply PowerLost = reply.PowerLost
fault_reply Media = reply.DeviceFault

-- .. to a put, and to a flush
abbrev pub put_reply : Result (Unit {0}) PutRefusal → Reply
put_reply (Ok done) = reply.Done
put_reply (Err (put.Key last)) = reply.RefusedKey last
put_reply (Err (put.Columns wanted)) = reply.RefusedColumns wanted
put_reply (Err (put.Value column)) = reply.RefusedValue column
put_reply (Err (put.Blob limit)) = reply.RefusedBlob limit
put_reply (Err put.Spent) = reply.RefusedSpent
put_reply (Err put.Stopped) = reply.NotMounted
put_reply (Err (put.Flash fault)) = fault_reply fault

abbrev pub flush_reply : Result (Unit {0}) FlushFault → Reply
flush_reply (Ok done) = reply.Done
flush_reply (Err flush.Stopped) = reply.NotMounted
flush_reply (Err (flush.Flash fault)) = fault_reply fault

-- The reply to a lookup.
use Rattle.std.specs.Prelude.{◌≡◌, ◌⊎◌, ℕ, ◌+◌, ◌≤◌, Bool, true, false, IsTrue, is_some, List}
use Rattle.fl_base.specs.Causes.{Rose}
use Rattle.fl_model.specs.Query.{entry_at}
use Rattle.fl_model.specs.Record.{Plan}
use Rattle.fl_model.specs.Spline.{retained, is_covered, is_pending_key, lookup_limit, lookup_reads}
use Rattle.fl_model.specs.Table as model
use Rattle.fl_model.specs.Table.{written}
use Rattle.fl_search.specs.Search.{RoseBy, RoseSome}
use Rattle.fl_words.specs.Reply as words
use Rattle.fl_words.specs.Reply.{text}
use Rattle.fl_machine.specs.Reads.{is_read_fault}
use Rattle.fl_machine.specs.Step.{found_reply}

-- What was said of the record with the key in this table of the model: its row or that there is none, or that a page wasn't
-- read, which is said only where the medium's faults rose.
pub record Looks (plan : Plan) (table : model.Table) (key faults faults_now reads reads_now : ℕ) (said : List ℕ) : Type 0 where
  pub rose : Bool
  pub risen : IsTrue rose → Rose faults faults_now
  pub reply : words.Reply
  pub reply_is : (reply ≡ found_reply plan (entry_at key table.entries)) ⊎ (IsTrue rose × (reply ≡ words.ReadFault))
  pub said_is : said ≡ text reply
  -- how many pages were read
  pub within : reads_now ≤ reads + lookup_limit 64 plan table key
  pub exact : is_read_fault reply ≡ false → is_pending_key table key ≡ false → is_covered (retained 64 plan.error table.points) key ≡ true → RoseBy (lookup_reads 64 plan table key) reads reads_now
  -- a written record takes a read, and so does a read that fails
  pub found : is_read_fault reply ≡ false → IsTrue (is_some (entry_at key (written table))) → RoseSome reads reads_now
  pub failed : IsTrue (is_read_fault reply) → RoseSome reads reads_now

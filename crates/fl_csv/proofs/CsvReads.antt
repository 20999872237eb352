-- What two reads of a line show: no record, one, or more.
use Rattle.std.proofs.Common.{ℕ, Bool, true, false, not, Bor, List, [], ◌∷◌, inl, ◌∙◌}
use Rattle.csv.specs.Reading.{default_config}
use Rattle.csv.specs.declared.parser.State.TheVariants as st
use Rattle.csv.specs.declared.reader.Reader.{Reader}
use Rattle.csv.proofs.ReadFacts.{rows-end, rows-more}
use Rattle.fl_csv.specs.Reads.{Fresh, IsOnly, Took, left_of}
use Rattle.fl_csv.proofs.CsvRecords.{no-record, one-record, two-records, none-of, reached-start}

module _ (a b : Reader (Bor (List ℕ))) (fields : List (List ℕ)) (text : List ℕ) (fresh : Fresh a text) where
  pub none : Took a b false fields → IsOnly false fields text
  none read = no-record text (none-of a.state st.StartRecord text fresh.state (rows-end left_of a b fields default_config text fresh.config fresh.source (read.reads fresh.whole fresh.ready)))

  one : (d : Reader (Bor (List ℕ))) (others : List (List ℕ)) → Took a b true fields → Took b d false others → IsOnly true fields text
  one d others first second =
      let read = first.reads fresh.whole fresh.ready in
      let begun = rows-more left_of a b fields default_config st.StartRecord text text [] fresh.config fresh.source (reached-start a.state text fresh.state) read in
      let end = second.reads (read.3 ∙ fresh.whole) (inl (first.ready fresh.whole)) in
      one-record text fields b.state begun.0 begun.2 (rows-end left_of b d others default_config begun.0 (read.2 ∙ fresh.config) begun.1 end)

  two : (d : Reader (Bor (List ℕ))) (others : List (List ℕ)) → Took a b true fields → Took b d true others → IsOnly false fields text
  two d others first second =
      let read = first.reads fresh.whole fresh.ready in
      let begun = rows-more left_of a b fields default_config st.StartRecord text text [] fresh.config fresh.source (reached-start a.state text fresh.state) read in
      let next = second.reads (read.3 ∙ fresh.whole) (inl (first.ready fresh.whole)) in
      let gone_on = rows-more left_of b d others default_config st.StartRecord text begun.0 (fields ∷ []) (read.2 ∙ fresh.config) begun.1 begun.2 next in
      two-records text fields others d.state gone_on.0 gone_on.2

  pub next : (d : Reader (Bor (List ℕ))) (others : List (List ℕ)) (more : Bool) → Took a b true fields → Took b d more others → IsOnly (not more) fields text
  next d others true first second = two d others first second
  next d others false first second = one d others first second

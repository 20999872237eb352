use Rattle.std.proofs.Common.{◌∙◌, inr}
use Rattle.fl_csv.proofs.row.reader.Goals as goal

pub returns : goal.returns
returns c =
    let fr = c.from_reader.ensures in
    record {
      config = rw (c.flexible.ensures, c.has_headers.ensures) at fr.config ∙ c.new.ensures.config;
      whole = rw (c.flexible.ensures, c.has_headers.ensures) at fr.trim ∙ c.new.ensures.trim;
      ready = inr (inr (rw (c.flexible.ensures, c.has_headers.ensures) at fr.has_headers, fr.headers));
      state = fr.state;
      source = fr.source;
    }

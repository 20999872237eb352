-- What a log's page buffer keeps: the bytes behind its rows are blank.
use Rattle.std.proofs.Common.{◌≡◌, ℕ, ◌-◌, ◌≤◌, length, drop, replicate, ap, arith}
use Rattle.fl_base.specs.Bytes.{splice}
use Rattle.fl_page.specs.WriterState.{WriterState}
use Rattle.fl_page.specs.Header.{header_bytes}
use Rattle.fl_parts.proofs.Writers.{rest-clear, rest-finish}

pub record IsKept (w : WriterState) : Type 0 where
  pub begin : 16 ≤ w.end
  pub room : w.end ≤ length w.body
  pub rest : drop w.end w.body ≡ replicate (length w.body - w.end) 255

-- after it was cleared
pub kept-clear : (w v : WriterState) → v ≡ record { body = splice w.body 16 (replicate (w.end - 16) 255); count = 0; end = 16 } → length v.body ≡ length w.body → IsKept w → IsKept v
kept-clear w v is size h =
    let end : v.end ≡ 16 = ap (λ (x : WriterState). x.end) is in
    record { begin = omega (arith, end); room = omega (arith, end, size, h.begin, h.room); rest = rest-clear w v is h.begin h.room h.rest }

-- .. and its header was written
pub kept-finish : (w v : WriterState) (number bitmap : ℕ) → v ≡ record w { body = splice w.body 0 (header_bytes number w.count bitmap) } → length v.body ≡ length w.body → IsKept w → IsKept v
kept-finish w v number bitmap is size h =
    let end : v.end ≡ w.end = ap (λ (x : WriterState). x.end) is in
    record { begin = omega (arith, end, h.begin); room = omega (arith, end, size, h.room); rest = rest-finish w v number bitmap is size h.begin h.rest }

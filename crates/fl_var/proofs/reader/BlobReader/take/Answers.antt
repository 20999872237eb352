use Rattle.std.proofs.Common.{rules, ◌≡◌, ◌+◌, ◌-◌, ◌^◌, ◌<◌, ◌≤◌, arith}
use Rattle.fl_var.specs.Memory.{next_in, room_in, image_in}
use Rattle.fl_var.proofs.Wholes.{whole-same}
use Rattle.fl_var.proofs.Chunks.{chunk-front}
use Rattle.fl_var.proofs.PagesBehind.{there-taken, bad-taken}
use Rattle.fl_var.proofs.reader.BlobReader.take.Goals as goal

pub returns-clause-bytes : goal.returns-clause-bytes
returns-clause-bytes c = λ f reads.
    let r = c.args.self.now in
    let n = c.min-len.result in
    let small : c.args.self.now.page < 2 ^ 32 = search rules in
    let few : c.min-len.result ≤ c.args.self.now.left = search rules in
    let within : c.args.self.now.end + c.min-len.result ≤ c.args.self.now.used = search rules in
    let same : c.args.self.now.begin ≡ c.args.self.now.end = c.requires.empty in
    chunk-front r.var.now f r.page r.used r.buf.now.bytes small reads.within (reads.used (omega (arith, c.requires.left))) r.all (λ lt. reads.bytes c.requires.some lt) r.begin r.end n r.left same within few

pub returns-clause-whole : goal.returns-clause-whole
returns-clause-whole c = λ f whole some.
    let r = c.args.self.now in
    let n = c.min-len.result in
    let few : c.min-len.result ≤ c.args.self.now.left = search rules in
    whole-same (image_in r.var.now f) (next_in r.var.now) (room_in r.var.now) r.page r.end r.left (r.end + n) (r.left - n) (omega (arith, few)) (whole (omega (arith, c.requires.left)))

pub returns-clause-sound : goal.returns-clause-sound
returns-clause-sound c = λ f reads there some.
    let r = c.args.self.now in
    let n = c.min-len.result in
    let few : c.min-len.result ≤ c.args.self.now.left = search rules in
    let within : c.args.self.now.end + c.min-len.result ≤ c.args.self.now.used = search rules in
    let size = reads.size some in
    there-taken (image_in r.var.now f) (next_in r.var.now) r.page r.end r.left n (omega (arith, within, size)) few there

pub returns-clause-ahead : goal.returns-clause-ahead
returns-clause-ahead c = λ f bad h.
    let r = c.args.self.now in
    let few : c.min-len.result ≤ c.args.self.now.left = search rules in
    bad-taken r.var.now f r.page r.end r.left c.min-len.result bad few h

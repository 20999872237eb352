use Rattle.std.proofs.Common.{◌++◌, codes}
use Rattle.fl_base.proofs.Chains.{more}
use Rattle.fl_map.specs.Svg.{meaning_text}
use Rattle.fl_map.proofs.picture.add_meanings.Goals as goal

pub returns : goal.returns
returns c =
    let l = c.args.text.now.items in
    let blank = meaning_text 24 (codes "b") (codes "blank") in
    let committed = meaning_text 104 (codes "c") (codes "committed") in
    let void = meaning_text 214 (codes "v") (codes "void") in
    let torn = meaning_text 284 (codes "t") (codes "torn") in
    let faulty = meaning_text 354 (codes "f") (codes "breaks a rule") in
    let head = meaning_text 474 (codes "b h") (codes "in the head") in
    let e2 = more l blank committed c.add_meaning.new.text.items c.add_meaning-2.new.text.items c.in_ok-add_meaning.ensures c.in_ok-add_meaning-2.ensures in
    let e3 = more l (blank ++ committed) void c.add_meaning-2.new.text.items c.add_meaning-3.new.text.items e2 c.in_ok-add_meaning-3.ensures in
    let e4 = more l (blank ++ committed ++ void) torn c.add_meaning-3.new.text.items c.add_meaning-4.new.text.items e3 c.in_ok-add_meaning-4.ensures in
    let e5 = more l (blank ++ committed ++ void ++ torn) faulty c.add_meaning-4.new.text.items c.add_meaning-5.new.text.items e4 c.in_ok-add_meaning-5.ensures in
    more l (blank ++ committed ++ void ++ torn ++ faulty) head c.add_meaning-5.new.text.items c.add_meaning-6.new.text.items e5 c.in_ok-add_meaning-6.ensures

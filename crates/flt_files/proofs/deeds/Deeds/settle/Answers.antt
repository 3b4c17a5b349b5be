use Rattle.std.proofs.Common.{◌≡◌, ◌∙◌, ◌-◌, ◌+◌, ap, length, arith}
use Rattle.flt_files.specs.Deeds as spec
use Rattle.flt_files.proofs.Settling.{replaced, was}
use Rattle.flt_files.proofs.deeds.Deeds.settle.Goals as goal

pub returns-then-count-ne0 : goal.returns-then-count-ne0
returns-then-count-ne0 c = λ before deed are.
    let count : (c.len-count.result - 1) + 1 ≡ length c.args.self.now.each.items = omega arith in
    let last : spec.deed_of c.index_mut.result.now ≡ deed =
    ap spec.deed_of c.index_mut.ensures.value ∙ was c.args.self.now.each.items (c.len-count.result - 1) before deed are count _ in
    replaced c.args.self.now.each.items (c.len-count.result - 1) before deed are count _ _
    (ap (λ (d : spec.Deed). spec.deed d.name d.target c.args.act) last)

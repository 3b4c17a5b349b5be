use Rattle.std.proofs.Common.{◌≡◌, ◌+◌, arith}
use Rattle.flt_explain_parts.proofs.drifted.region_at.Goals as goal

pub returns : goal.returns
returns c =
    let first : c.args.start + 0 ≡ c.args.start = omega arith in
    rw first at c.part.ensures

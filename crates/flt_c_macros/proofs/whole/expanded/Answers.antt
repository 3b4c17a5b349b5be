use Rattle.std.proofs.Common.{◌∙◌}
use Rattle.flt_c_macros.proofs.Spellings.{stay_same, taken_back}
use Rattle.flt_c_macros.proofs.whole.expanded.Goals as goal

pub returns-in-Err-clause-stay : goal.returns-in-Err-clause-stay
returns-in-Err-clause-stay c =
    stay_same c.args.spellings.now c.truncate.new.self
    (c.truncate.ensures
    ∙ taken_back c.args.spellings.now c.read_all.new.spellings c.len-count.result c.len-count.ensures.known c.len-count.ensures.len
    c.read_all.ensures.stay)

pub returns-in-Err-clause-kept : goal.returns-in-Err-clause-kept
returns-in-Err-clause-kept c =
    c.truncate.ensures
    ∙ taken_back c.args.spellings.now c.read_all.new.spellings c.len-count.result c.len-count.ensures.known c.len-count.ensures.len
    c.read_all.ensures.stay

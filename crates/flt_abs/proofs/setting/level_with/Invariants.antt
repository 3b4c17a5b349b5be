use Rattle.std.proofs.Common.{◌≡◌, drop}
use Rattle.flt_rules.specs.Held.{level_with}
use Rattle.flt_abs.specs.Setting.{kind_at}
use Rattle.flt_abs.proofs.setting.level_with.Given as goal

abbrev pub invariant-loop-held : goal.invariant-loop-held
invariant-loop-held l = level_with (kind_at l.kinds) l.level (drop l.held-index l.locks) ≡ level_with (kind_at l.kinds) l.fn.entry l.locks

-- What transfer answers where nothing is broken.
use Rattle.std.proofs.Common.{◌≡◌, Option, Some, None, refl}
use Rattle.std.specs.Prelude.{is_none, is_ok}
use Rattle.flt_rules.specs.declared.rule.Rule.{Rule}
use Rattle.flt_abs.specs.Step.{unless_broken}
use Rattle.flt_abs.specs.declared.step.Successors.{Successors}

-- there are successors exactly where no rule is broken
pub ok_where_none : (b : Option Rule) (n : Successors) → is_ok (unless_broken b n) ≡ is_none b
ok_where_none None n = refl
ok_where_none (Some r) n = refl

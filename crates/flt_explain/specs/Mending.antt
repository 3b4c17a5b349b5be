-- What is left of a set where a rule isn't broken by it. This project's own definitions.
use Rattle.std.specs.Prelude.{Bool, true, false, not, ◌&&◌}
use Rattle.flt_rules.specs.declared.rule.Rule.{Rule}
use Rattle.flt_rules.specs.declared.rule.Rule.TheVariants.{R01, R02, R03, R04, R05, R13}
use Rattle.flt_abs.specs.Sets.{StatusSet, ModeSet, DrainingSet}
use Rattle.flt_abs.specs.State.{Status, Null, Held, Stale}

-- the rules that ask for a variable that is held
abbrev pub wants_held : Rule → Bool
wants_held R01 = true
wants_held R04 = true
wants_held R13 = true
wants_held r = false

-- the rules that ask for a variable that isn't held
abbrev pub wants_not_held : Rule → Bool
wants_not_held R02 = true
wants_not_held R03 = true
wants_not_held R05 = true
wants_not_held r = false

-- whether a variable of this status is as a rule asks
abbrev pub is_fine : Rule → Status → Bool
is_fine r Null = not (wants_held r)
is_fine r Held = not (wants_not_held r)
is_fine r Stale = not (wants_held r)

-- what of a set is as a rule asks
abbrev pub mended : Rule → StatusSet → StatusSet
mended r s = record { null = s.null && is_fine r Null; held = s.held && is_fine r Held; stale = s.stale && is_fine r Stale }

-- fast I/O goes, where only an IRP is legal
abbrev pub mended_modes : ModeSet → ModeSet
mended_modes s = record s { fast = false }

-- draining goes, where a call isn't legal in it
abbrev pub mended_draining : DrainingSet → DrainingSet
mended_draining s = record s { yes = false }

use Rattle.std.proofs.Common.{◌≡◌, ◌+◌, ◌≤◌, length}
use Rattle.flt_c_syntax.specs.Tokens.{run}
use Rattle.flt_c_syntax.specs.Types.{stars}
use Rattle.flt_c_syntax.specs.declared.class.Part.TheVariants as parts
use Rattle.flt_c_syntax.proofs.types.stars.Given as goal

abbrev pub decreases-loop-rest : goal.decreases-loop-rest
decreases-loop-rest l = length l.rest

abbrev pub invariant-loop-rest : goal.invariant-loop-rest
invariant-loop-rest l =
    record {
      same : stars (run parts.Star l.fn.tokens) ≡ l.found + stars (run parts.Star l.rest);
      below : l.found + length l.rest ≤ length l.fn.tokens;
    }

use Rattle.std.proofs.Common.{◌≡◌, drop}
use Rattle.std.specs.List.{fold}
use Rattle.flt_explain_hints.specs.Before.{and_then, at_the_beginning, tokens_before}
use Rattle.flt_explain_hints.proofs.before.kinds_before.Given as goal

abbrev pub invariant-loop-other : goal.invariant-loop-other
invariant-loop-other l =
    fold and_then l.before (tokens_before l.token (drop l.other-index l.tokens))
    ≡ fold and_then at_the_beginning (tokens_before l.token l.tokens)

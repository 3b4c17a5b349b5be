use Rattle.std.proofs.Common.{◌≡◌, None, drop}
use Rattle.std.specs.List.{fold}
use Rattle.flt_explain_hints.specs.Before.{tokens_before}
use Rattle.flt_explain_hints.specs.OpenCall.{open_behind}
use Rattle.flt_explain_hints.proofs.open_call.open_before.Given as goal

abbrev pub invariant-loop-other : goal.invariant-loop-other
invariant-loop-other l =
    fold open_behind l.so_far (tokens_before l.token (drop l.other-index l.tokens)) ≡ fold open_behind None (tokens_before l.token l.tokens)

use Rattle.std.proofs.Common.{◌≡◌, ◌++◌, map, drop}
use Rattle.flt_syntax.specs.declared.token.Kind.TheVariants as k
use Rattle.flt_explain_hints.specs.Names.{names_behind}
use Rattle.flt_explain_hints.proofs.names.names_behind.Given as goal

abbrev pub invariant-loop-token : goal.invariant-loop-token
invariant-loop-token l =
    map (λ n. n.now) l.found ++ names_behind l.text l.before (drop l.token-index l.tokens) ≡ names_behind l.text k.End l.tokens

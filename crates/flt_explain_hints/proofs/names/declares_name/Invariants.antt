use Rattle.std.proofs.Common.{◌≡◌, drop}
use Rattle.flt_syntax.specs.declared.token.Kind.TheVariants as k
use Rattle.flt_explain_hints.specs.Names.{is_declared_behind}
use Rattle.flt_explain_hints.proofs.names.declares_name.Given as goal

abbrev pub invariant-loop-token : goal.invariant-loop-token
invariant-loop-token l =
    is_declared_behind l.text l.name l.before (drop l.token-index l.tokens) ≡ is_declared_behind l.text l.name k.End l.tokens

use Rattle.std.proofs.Common.{◌≡◌, ◌++◌, drop}
use Rattle.flt_server_outline.specs.Roles.{marked_from}
use Rattle.flt_server_outline.specs.declared.roles.After.TheVariants.{Anything}
use Rattle.flt_server_outline.proofs.roles.mark_tokens.Given as goal

abbrev pub invariant-loop-token : goal.invariant-loop-token
invariant-loop-token l = l.found ++ marked_from l.before (drop l.token-index l.tokens) ≡ marked_from Anything l.tokens

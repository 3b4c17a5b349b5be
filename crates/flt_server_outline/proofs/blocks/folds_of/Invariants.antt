use Rattle.std.proofs.Common.{◌≡◌, ◌++◌, [], drop}
use Rattle.flt_server_outline.specs.Blocks.{folds_from}
use Rattle.flt_server_outline.proofs.blocks.folds_of.Given as goal

abbrev pub invariant-loop-token : goal.invariant-loop-token
invariant-loop-token l = l.folds ++ folds_from l.opened (drop l.token-index l.tokens) ≡ folds_from [] l.tokens

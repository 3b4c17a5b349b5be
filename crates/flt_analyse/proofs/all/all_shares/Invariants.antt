use Rattle.std.proofs.Common.{◌≡◌, map, Ok}
use Rattle.flt_analyse.proofs.all.all_shares.Given as goal

abbrev pub invariant-shares : goal.invariant-shares
invariant-shares l = l.yielded ≡ map Ok l.shares.items

-- What is gone over in two parts.
use Rattle.std.proofs.lemmas.List.Sums.{fold-append}

pub ruleset fold_steps = (fold-append)

use Rattle.flt_rules.specs.Place.{fits_mode}
use Rattle.std.proofs.Common.{◌≡◌, ◌<◌, ◌&&◌, true, nat_lt, arith}
use Rattle.std.proofs.lemmas.Bool.{and_parts}
use Rattle.flt_stack_crew.proofs.giving.give.Goals as goal

pub arrive-requires-clause-mode : goal.arrive-requires-clause-mode
arrive-requires-clause-mode g c = (and_parts _ _ (rw c.in-Arrive.is at c.requires.command)).0

pub arrive-requires-clause-file : goal.arrive-requires-clause-file
arrive-requires-clause-file g c =
    let few : nat_lt c.in-Arrive.file 1024 ≡ true = (and_parts _ _ (rw c.in-Arrive.is at c.requires.command)).1 in
    grind arith

use Rattle.std.proofs.Common.{◌↔◌, IfSome, IsTrue, None, Option, Some, refl, true}
use Rattle.flt_commands.proofs.host.run.Goals as goal

-- a server ends only where the words ask for one
asked_for : {A : Type 0} (P : Type 0) (ended : Option A) → (IsTrue true ↔ P) → IfSome ended (λ _. P)
asked_for P (Some status) asks = asks.0 refl
asked_for P None asks = tt

pub returns-in-Ok-true-clause-asked : goal.returns-in-Ok-true-clause-asked
returns-in-Ok-true-clause-asked g c =
    rw c.not_executed-execution.ensures.words
    (asked_for _ c.serve_streams-served.result
    (rw c.as_slice.ensures.value at (rw c.in-Ok-true.field-0-test at c.in-Ok-true.ensures)))

use Rattle.flt_c_drift.proofs.Shorter.{short_call}
use Rattle.flt_c_drift.proofs.names.call_of.Goals as goal

pub returns-then-word-lt-SHORTEST_CALL : goal.returns-then-word-lt-SHORTEST_CALL
returns-then-word-lt-SHORTEST_CALL c = short_call c.args.word.now c.if-word-lt-SHORTEST_CALL.true

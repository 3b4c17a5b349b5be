use Rattle.flt_c_drift.proofs.Shorter.{short_lock_call}
use Rattle.flt_c_drift.proofs.names.lock_call_of.Goals as goal

pub returns-then-word-lt-SHORTEST_LOCK_CALL : goal.returns-then-word-lt-SHORTEST_LOCK_CALL
returns-then-word-lt-SHORTEST_LOCK_CALL c = short_lock_call c.args.word.now c.if-word-lt-SHORTEST_LOCK_CALL.true

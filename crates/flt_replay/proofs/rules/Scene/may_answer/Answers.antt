-- The answer is known in its arm, and what `may_hand` says is said of each trace.
use Rattle.flt_replay.proofs.rules.Scene.may_answer.Goals as goal

pub returns-in-CompletesPre : goal.returns-in-CompletesPre
returns-in-CompletesPre c t held = rw c.in-CompletesPre.is (c.may_hand.ensures t)

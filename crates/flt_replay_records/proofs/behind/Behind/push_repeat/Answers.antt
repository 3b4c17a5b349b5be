use Rattle.std.proofs.Common.{refl}
use Rattle.flt_replay_records.proofs.Suspended.{repeat_put}
use Rattle.flt_replay_records.proofs.behind.Behind.push_repeat.Goals as goal

pub returns : goal.returns
returns c = repeat_put _ _ _ _ _ _ _ c.push_reserved.ensures.items c.in_ok-reserve.ensures.items refl c.in_ok-push.ensures.items

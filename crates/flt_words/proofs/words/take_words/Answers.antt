use Rattle.std.proofs.Common.{rules}
use Rattle.flt_words.proofs.Needed.{serves}
use Rattle.flt_words.proofs.Requests.{all_taken, not_taken}
use Rattle.flt_words.proofs.words.take_words.Goals as goal

pub returns-in-Ok : goal.returns-in-Ok
returns-in-Ok c = all_taken _ _ _ c.in_ok-program_for.ensures
    (serves _ _ c.requires.first) c.in-Ok.matches c.in-Ok.ensures.matches c.in-Ok.ensures.kinds
    c.matched.result c.matched.ensures

pub returns-in_ok-usage-in-Err : goal.returns-in_ok-usage-in-Err
returns-in_ok-usage-in-Err c =
    not_taken _ _ _ c.in_ok-program_for.ensures (serves _ _ c.requires.first) c.in-Err.error c.in-Err.ensures.kinds (search rules)

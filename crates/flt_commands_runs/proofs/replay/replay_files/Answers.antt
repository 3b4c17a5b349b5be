use Rattle.std.proofs.Common.{◌≡◌, Err, [], refl, rules}
use Rattle.flt_files.specs.Inputs.{given, unread}
use Rattle.flt_commands_runs.proofs.replay.replay_files.Goals as goal

pub returns-in_err-written : goal.returns-in_err-written
returns-in_err-written g c =
    let fails : c.from_residual.result ≡ Err c.in_err-written.field-0.0 = search rules in
    rw fails ([], unread _ c.in_err-written.ensures.err, refl)

pub returns : goal.returns
returns g c = (
  _,
  given _ c.in_ok-written.ensures.ok (rw c.as_slice.ensures.value at c.replay_texts.ensures.said),
  c.replay_texts.ensures.kept refl,
)

use Rattle.std.proofs.Common.{rules}
use Rattle.flt_commands_explain.proofs.serving.printed_of_unread.Goals as goal

pub returns : goal.returns
returns c = record { file = c.in_ok-file.file; named = c.in_ok-file.ensures; lines = search rules }

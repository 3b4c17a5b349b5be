use Rattle.std.proofs.Common.{sym}
use Rattle.std.proofs.lemmas.Bool.{true≢false}
use Rattle.flt_door.specs.Door.{nothing}
use Rattle.flt_server_session.proofs.outgoing.shown_string.Goals as goal

pub returns : goal.returns
returns c = rw c.new.ensures.bytes (
  nothing,
  λ utf8. absurd (true≢false (sym (c.in-Err.ensures.succeeds
      (rw (c.let_bytes_out.ensures, c.in_ok-bytes.ensures.items, c.as_bytes.ensures.value) utf8)))),
)

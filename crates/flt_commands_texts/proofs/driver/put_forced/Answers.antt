use Rattle.std.proofs.Common.{string_bytes}
use Rattle.flt_files.specs.Attempts.{Wrote}
use Rattle.flt_commands_texts.proofs.Putting.{done_first}
use Rattle.flt_commands_texts.proofs.driver.put_forced.Goals as goal

pub returns-in_ok-rest-in-Ok-clause-done : goal.returns-in_ok-rest-in-Ok-clause-done
returns-in_ok-rest-in-Ok-clause-done g c =
    let done = rw (c.in-Ok.is, c.as_str.ensures.value, c.as_slice-bytes.ensures.value) at c.in_ok-put.ensures.done in
    let grown = rw (c.in-Ok.is, c.as_str.ensures.value, c.as_slice-bytes.ensures.value) at c.in_ok-put.ensures.wrote in
    let source = Wrote (string_bytes c.args.names.now.source) c.args.parts.now.source.items in
    c.in_ok-rest-in-Ok.ensures (g.P.Pictures.done c.args.pictures.now) source (done_first _ _ _ source done grown)

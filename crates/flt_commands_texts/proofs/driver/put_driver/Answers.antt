use Rattle.std.proofs.Common.{string_bytes}
use Rattle.flt_files.specs.Attempts.{Made}
use Rattle.flt_commands_texts.proofs.Putting.{done_first}
use Rattle.flt_commands_texts.proofs.driver.put_driver.Goals as goal

pub returns-in_ok-rest-in-Ok-true-clause-done : goal.returns-in_ok-rest-in-Ok-true-clause-done
returns-in_ok-rest-in-Ok-true-clause-done g c =
    let done = rw (c.in-Ok-true.is, c.in-Ok-true.field-0-test, c.as_str.ensures.value, c.as_slice.ensures.value)
    at c.in_ok-put_new.ensures.done in
    let grown = rw (c.in-Ok-true.is, c.in-Ok-true.field-0-test, c.as_str.ensures.value, c.as_slice.ensures.value)
    at c.in_ok-put_new.ensures.made in
    let source = Made (string_bytes c.args.names.now.source) c.args.parts.now.source.items in
    c.in_ok-rest-in-Ok-true.ensures (g.P.Pictures.done c.args.pictures.now) source (done_first _ _ _ source done grown)

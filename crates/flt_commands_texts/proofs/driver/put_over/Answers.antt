use Rattle.std.proofs.Common.{◌∷◌, [], string_bytes}
use Rattle.flt_files.specs.Attempts.{Failed, Left, Wrote}
use Rattle.flt_commands_texts.proofs.Putting.{done_before, done_first}
use Rattle.flt_commands_texts.proofs.driver.put_over.Goals as goal

pub returns-in_ok-rest-in-Ok-clause-done : goal.returns-in_ok-rest-in-Ok-clause-done
returns-in_ok-rest-in-Ok-clause-done g c =
    let done = rw (c.in-Ok.is, c.as_str.ensures.value, c.as_slice-bytes.ensures.value) at c.in_ok-put_again.ensures.done in
    let grown = rw (c.in-Ok.is, c.as_str.ensures.value, c.as_slice-bytes.ensures.value) at c.in_ok-put_again.ensures.wrote in
    let source = Wrote (string_bytes c.args.names.now.source) c.args.parts.now.source.items in
    λ before left. done_before _ before _ _ (Left (string_bytes c.args.names.now.source)) _ tt left
    (c.in_ok-rest-in-Ok.ensures (g.P.Pictures.done c.args.pictures.now) source (done_first _ _ _ source done grown))

pub returns-in-Err-clause-done : goal.returns-in-Err-clause-done
returns-in-Err-clause-done g c =
    let grown = rw (c.in-Err.is, c.as_str.ensures.value) at c.in_ok-put_again.ensures.failed in
    let source = Failed (string_bytes c.args.names.now.source) in
    λ before left. done_before _ before _ _ (Left (string_bytes c.args.names.now.source)) (source ∷ []) tt left
    (done_first _ _ _ source tt grown)

use Rattle.std.proofs.Common.{◌∷◌, [], string_bytes}
use Rattle.flt_files.specs.Attempts.{Failed, made}
use Rattle.flt_commands_texts.proofs.Putting.{done_more}
use Rattle.flt_commands_texts.proofs.driver.put_rest.Goals as goal

pub returns-in-Ok : goal.returns-in-Ok
returns-in-Ok g c =
    let done = rw (c.in-Ok.is, c.as_str.ensures.value, c.as_slice-bytes.ensures.value) at c.in_ok-is_new.ensures.done in
    let grown = rw (c.in-Ok.is, c.as_str.ensures.value, c.as_slice-bytes.ensures.value) at c.in_ok-is_new.ensures.made in
    λ before source are. c.put_installation.ensures before source (done_more _ _ c.in_ok-is_new.ensures.kept before _ _ (source ∷ [])
    (made c.in-Ok.is_new (string_bytes c.args.names.now.header) c.args.parts.now.header.items) are done grown)

pub returns-in-Err : goal.returns-in-Err
returns-in-Err g c =
    let grown = rw (c.in-Err.is, c.as_str.ensures.value) at c.in_ok-is_new.ensures.failed in
    λ before source are. done_more _ _ c.in_ok-is_new.ensures.kept before _ _ (source ∷ []) (Failed (string_bytes c.args.names.now.header)) are
    tt grown

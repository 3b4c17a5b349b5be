use Rattle.std.proofs.Common.{◌∷◌, [], string_bytes}
use Rattle.flt_files.specs.Attempts.{Failed, made}
use Rattle.flt_commands_texts.proofs.Putting.{done_more}
use Rattle.flt_commands_texts.proofs.driver.put_installation.Goals as goal

pub returns-in-Ok : goal.returns-in-Ok
returns-in-Ok g c =
    let done = rw (c.in-Ok.is, c.as_str.ensures.value, c.as_slice-bytes.ensures.value) at c.in_ok-has_new_installation.ensures.done in
    let grown = rw (c.in-Ok.is, c.as_str.ensures.value, c.as_slice-bytes.ensures.value) at c.in_ok-has_new_installation.ensures.made in
    λ before source are. done_more _ _ c.in_ok-has_new_installation.ensures.kept before _ _
    (source ∷ made c.args.has_new_header (string_bytes c.args.names.now.header) c.args.parts.now.header.items ∷ [])
    (made c.in-Ok.has_new_installation (string_bytes c.args.names.now.installation) c.args.parts.now.installation.items) are done grown

pub returns-in-Err : goal.returns-in-Err
returns-in-Err g c =
    let grown = rw (c.in-Err.is, c.as_str.ensures.value) at c.in_ok-has_new_installation.ensures.failed in
    λ before source are. done_more _ _ c.in_ok-has_new_installation.ensures.kept before _ _
    (source ∷ made c.args.has_new_header (string_bytes c.args.names.now.header) c.args.parts.now.header.items ∷ [])
    (Failed (string_bytes c.args.names.now.installation)) are tt grown

use Rattle.std.proofs.Common.{map, subst}
use Rattle.flt_c_tokens.specs.Tokens.{IsExcess}
use Rattle.flt_c_headers.proofs.Closing.{is_read, places, still_next, tokens_made}
use Rattle.flt_c_headers.proofs.reading.read_header.Goals as goal

pub returns-in-Err : goal.returns-in-Err
returns-in-Err g c =
    subst (λ z. IsExcess c.args.spellings.now z c.in-Err.excess) c.as_slice-bytes.ensures.value (rw c.in-Err.is at c.in_ok-excess.ensures)

pub rebased-requires : goal.rebased-requires
rebased-requires g c =
    let gives = g.I.HeaderFiles.gives c.args.inputs.now in
    let folders = map (λ dir. dir.now) c.args.folders.now in
    let m =
    tokens_made gives folders c.args.spellings.now c.args.headers.now c.args.file.now c.as_slice-name.result.now
    c.as_slice-bytes.result.now c.add_tokens.new.spellings c.new-tokens.result.items c.add_tokens.new.found.items c.as_slice.result.now
    c.in_ok-linked.linked.items c.linked.new.headers c.as_slice-name.ensures.value c.as_slice-bytes.ensures.value c.new-tokens.ensures.items
    (rw c.in_default.is at c.in_ok-excess.ensures) c.as_slice.ensures.value c.in_ok-linked.ensures in
    places gives folders c.args.spellings.now c.args.headers.now c.args.file.now c.add_tokens.new.spellings c.in_ok-linked.linked.items
    c.linked.new.headers m c.as_slice-2.result.now c.requires c.as_slice-2.ensures.value

pub add_tokens-requires-2 : goal.add_tokens-requires-2
add_tokens-requires-2 g c =
    let gives = g.I.HeaderFiles.gives c.args.inputs.now in
    let folders = map (λ dir. dir.now) c.args.folders.now in
    let m =
    tokens_made gives folders c.args.spellings.now c.args.headers.now c.args.file.now c.as_slice-name.result.now
    c.as_slice-bytes.result.now c.add_tokens.new.spellings c.new-tokens.result.items c.add_tokens.new.found.items c.as_slice.result.now
    c.in_ok-linked.linked.items c.linked.new.headers c.as_slice-name.ensures.value c.as_slice-bytes.ensures.value c.new-tokens.ensures.items
    (rw c.in_default.is at c.in_ok-excess.ensures) c.as_slice.ensures.value c.in_ok-linked.ensures in
    still_next gives folders c.args.spellings.now c.args.headers.now c.args.file.now c.add_tokens.new.spellings c.in_ok-linked.linked.items
    c.linked.new.headers m c.requires

pub returns : goal.returns
returns g c =
    let gives = g.I.HeaderFiles.gives c.args.inputs.now in
    let folders = map (λ dir. dir.now) c.args.folders.now in
    let m =
    tokens_made gives folders c.args.spellings.now c.args.headers.now c.args.file.now c.as_slice-name.result.now
    c.as_slice-bytes.result.now c.add_tokens.new.spellings c.new-tokens.result.items c.add_tokens.new.found.items c.as_slice.result.now
    c.in_ok-linked.linked.items c.linked.new.headers c.as_slice-name.ensures.value c.as_slice-bytes.ensures.value c.new-tokens.ensures.items
    (rw c.in_default.is at c.in_ok-excess.ensures) c.as_slice.ensures.value c.in_ok-linked.ensures in
    is_read gives folders c.args.spellings.now c.args.headers.now c.args.file.now c.add_tokens.new.spellings c.in_ok-linked.linked.items
    c.linked.new.headers m c.as_slice-2.result.now c.in_ok-placed.placed.items c.add_tokens-2.new.self c.requires c.as_slice-2.ensures.value
    c.in_ok-placed.ensures c.in_ok-add_tokens.ensures.ok

use Rattle.std.proofs.Common.{inl, map, ◌++◌, ap, ◌∙◌}
use Rattle.flt_c_functions.proofs.Reading.{both_unfit, links_by, unfit_before, unlinked_by}
use Rattle.flt_c_functions.proofs.source.linked.Goals as goal

pub returns-in-Err : goal.returns-in-Err
returns-in-Err g c =
    inl
    (unfit_before c.args.spellings.now (map (λ line. line.items) c.args.lines.now) c.args.file.now c.in-Err.excess
    (rw c.in-Err.is at c.in_ok-excess.ensures))

pub returns-in-Err-2 : goal.returns-in-Err-2
returns-in-Err-2 g c =
    inl
    (both_unfit c.args.spellings.now (map (λ line. line.items) c.args.lines.now) c.args.file.now c.add_lines.new.spellings
    c.add_lines.new.found.items c.in-Err-2.excess (rw (c.in_default.is, c.new-found.ensures.items) at c.in_ok-excess.ensures)
    (rw c.in-Err-2.is at c.in_ok-excess-2.ensures))

pub returns-in-Err-linked : goal.returns-in-Err-linked
returns-in-Err-linked g c =
    unlinked_by
    (g.I.HeaderFiles.gives c.args.inputs.now) (map (λ folder. folder.now) c.args.folders.now) (map (λ line. line.items) c.args.lines.now)
    (record { texts = c.args.spellings.now; headers = c.args.headers.now }) c.args.name.now c.args.file.now c.add_lines.new.spellings
    c.add_tokens.new.spellings c.add_lines.new.found.items c.add_tokens.new.found.items
    (rw (c.in_default.is, c.new-found.ensures.items) at c.in_ok-excess.ensures)
    (rw (c.in_default-2.is, c.new-own.ensures.items) at c.in_ok-excess-2.ensures)
    c.in-Err-linked.excess (rw (c.in-Err-linked.is, c.as_slice.ensures.value) at c.in_ok-linked.ensures.included)

pub returns-in_ok-extend_from_slice-in-Ok : goal.returns-in_ok-extend_from_slice-in-Ok
returns-in_ok-extend_from_slice-in-Ok g c =
    links_by
    (g.I.HeaderFiles.gives c.args.inputs.now) (map (λ folder. folder.now) c.args.folders.now) (map (λ line. line.items) c.args.lines.now)
    (record { texts = c.args.spellings.now; headers = c.args.headers.now }) c.args.name.now c.args.file.now c.add_lines.new.spellings
    c.add_tokens.new.spellings c.add_lines.new.found.items c.add_tokens.new.found.items
    (rw (c.in_default.is, c.new-found.ensures.items) at c.in_ok-excess.ensures)
    (rw (c.in_default-2.is, c.new-own.ensures.items) at c.in_ok-excess-2.ensures)
    c.in-Ok.own.items c.extend_from_slice.new.self.items (record { texts = c.link.new.spellings; headers = c.link.new.headers })
    (rw (c.in-Ok.is, c.as_slice.ensures.value) at c.in_ok-linked.ensures.included)
    (c.in_ok-extend_from_slice-in-Ok.ensures.items ∙ ap (λ us. c.add_lines.new.found.items ++ us) c.as_slice-in-Ok.ensures.value)

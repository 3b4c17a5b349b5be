use Rattle.std.proofs.Common.{◌≡◌, drop, flat_map}
use Rattle.flt_explain_parts.specs.Files.{own_names, with_names}
use Rattle.flt_explain_parts.proofs.file.add_texts.Given as goal

-- with the names of the other texts they are all
abbrev pub invariant-loop-source : goal.invariant-loop-source
invariant-loop-source l =
    with_names l.names.items (flat_map own_names (drop l.source-index l.sources))
    ≡ with_names l.initial.names.items (flat_map own_names l.sources)

use Rattle.std.proofs.Common.{◌∙◌, ap, map, sym}
use Rattle.std.specs.Borrow.{Bor}
use Rattle.std.specs.Prelude.{ℕ, List, [], flat_map}
use Rattle.flt_explain_parts.proofs.Names.{names_append}
use Rattle.flt_explain_parts.specs.Files.{own_names, with_names}
use Rattle.flt_explain_parts.specs.declared.drifted.DriftedFile.{DriftedFile}
use Rattle.flt_explain_parts.proofs.file.names_of.Goals as goal

pub returns : goal.returns
returns c =
    let names = map (λ (f : DriftedFile). f.name) c.args.drifted.now in
    let texts = flat_map own_names c.args.sources.now in
    c.in_ok-add_drifted.ensures
    ∙ ap (λ (so : List (Bor (List ℕ))). with_names so names)
    (c.in_ok-add_texts.ensures ∙ ap (λ (so : List (Bor (List ℕ))). with_names so texts) c.new-names.ensures.items)
    ∙ sym (names_append [] texts names)

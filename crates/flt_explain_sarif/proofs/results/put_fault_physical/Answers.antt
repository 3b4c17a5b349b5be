use Rattle.std.proofs.Common.{ap}
use Rattle.flt_explain_parts.proofs.Adding.{behind, same_added}
use Rattle.flt_explain_sarif.specs.Results.{fault_region}
use Rattle.flt_tree.specs.declared.filter.Position.{Position}
use Rattle.flt_explain_sarif.proofs.results.put_fault_physical.Goals as goal

pub returns : goal.returns
returns c =
    let region = same_added c.in_ok-put_fault_region.ensures.ok
    (ap (λ (at : Position). fault_region c.args.file.now at c.args.found.now) c.place_of.ensures) in
    behind c.in_ok-put_key.ensures.ok
    (behind c.in_ok-open_object.ensures.ok (behind c.in_ok-put_artifact.ensures.ok (behind region c.close_object.ensures)))

use Rattle.flt_explain_parts.proofs.Adding.{behind}
use Rattle.flt_explain_sarif.proofs.results.put_marked_regions.Goals as goal

pub returns-in_ok-put_whole_region-in-Some : goal.returns-in_ok-put_whole_region-in-Some
returns-in_ok-put_whole_region-in-Some c =
    rw c.in-Some.is (behind c.in_ok-put_whole_region-in-Some.ensures.ok c.put_whole_region-in-Some-2.ensures)

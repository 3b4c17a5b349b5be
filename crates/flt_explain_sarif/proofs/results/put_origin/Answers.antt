use Rattle.std.proofs.Common.{List, ℕ}
use Rattle.std.proofs.Math.Path.{subst}
use Rattle.flt_explain_parts.specs.Members.{Adds}
use Rattle.flt_explain_sarif.specs.Results.{marked_location}
use Rattle.flt_explain_sarif.proofs.results.put_origin.Goals as goal

pub returns : goal.returns
returns c =
    subst (λ (words : List ℕ). Adds c.put_marked_location.result c.args.writer.now c.put_marked_location.new.writer
    (marked_location c.args.file.now c.args.maker.now.marks words)) c.in_ok-words.ensures.items c.put_marked_location.ensures

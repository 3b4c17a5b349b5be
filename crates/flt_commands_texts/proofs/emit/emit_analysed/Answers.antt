use Rattle.flt_cert.specs.declared.cert.Cert.TheVariants.{Full}
use Rattle.flt_commands_texts.specs.Emit as spec
use Rattle.flt_commands_texts.proofs.emit.emit_analysed.Goals as goal

pub returns-in-Ok : goal.returns-in-Ok
returns-in-Ok c =
    spec.emits _ (record {
      graph = c.in_ok-graph.graph;
      points = record { filter = c.in_ok-tree.tree.filter; spelled = c.in_ok-tree.ensures.spelled; lowered = c.in_ok-graph.ensures };
      cert = Full c.in-Ok.field-0;
      is_given = tt;
      covers = c.in-Ok.ensures.covers;
      emits = c.in_ok-emit_filter-in-Ok.ensures;
    })

pub returns-in-Err-Refused : goal.returns-in-Err-Refused
returns-in-Err-Refused c =
    rw c.in-Err-Refused.field-0-is (spec.refused c.in-Err-Refused.refusal (record {
      graph = c.in_ok-graph.graph;
      points = record { filter = c.in_ok-tree.tree.filter; spelled = c.in_ok-tree.ensures.spelled; lowered = c.in_ok-graph.ensures };
      none = rw c.in-Err-Refused.field-0-is at c.in-Err-Refused.ensures.none;
      named = rw c.in-Err-Refused.field-0-is at c.in-Err-Refused.ensures.named;
    }))

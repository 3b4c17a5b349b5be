use Rattle.std.proofs.Common.{refl}
use Rattle.flt_commands_texts.specs.Emit as spec
use Rattle.flt_commands_texts.proofs.emit.emit_checked.Goals as goal

pub returns-in-Ok : goal.returns-in-Ok
returns-in-Ok c =
    spec.emits _ (record {
      graph = c.in_ok-graph.graph;
      points = record { filter = c.in_ok-tree.tree.filter; spelled = c.in_ok-tree.ensures.spelled; lowered = c.in_ok-graph.ensures };
      cert = c.in_ok-cert.cert;
      is_given = record { certified = c.in_ok-cert.ensures.certificate; written = c.in_ok-cert.ensures.spelled };
      covers = c.in-Ok.ensures.accepted.0 refl;
      emits = c.in_ok-emit_filter-in-Ok.ensures;
    })

pub returns : goal.returns
returns c =
    spec.refused _ (record {
      graph = c.in_ok-graph.graph;
      points = record { filter = c.in_ok-tree.tree.filter; spelled = c.in_ok-tree.ensures.spelled; lowered = c.in_ok-graph.ensures };
      cert = c.in_ok-cert.cert;
      certified = c.in_ok-cert.ensures.certificate;
      written = c.in_ok-cert.ensures.spelled;
      decided = c.in-Err.ensures.refused;
    })

use Rattle.std.proofs.Common.{◌≡◌, []}
use Rattle.flt_cert.specs.declared.cert.Cert.TheVariants.{Full}
use Rattle.flt_files.specs.Attempts.{Does}
use Rattle.flt_commands_texts.specs.Emit as spec
use Rattle.flt_commands_texts.proofs.Putting.{put_of}
use Rattle.flt_commands_texts.proofs.emit_into.write_analysed.Goals as goal

pub returns-in-Ok-clause-said : goal.returns-in-Ok-clause-said
returns-in-Ok-clause-said g c =
    spec.emits _ (record {
      graph = c.in_ok-graph.graph;
      points = record { filter = c.in_ok-tree.tree.filter; spelled = c.in_ok-tree.ensures.spelled; lowered = c.in_ok-graph.ensures };
      cert = Full c.in-Ok.field-0;
      is_given = tt;
      covers = c.in-Ok.ensures.covers;
      emits = c.in_ok-write_filter-in-Ok.ensures.writes;
    })

pub returns-in-Ok-clause-put : goal.returns-in-Ok-clause-put
returns-in-Ok-clause-put g c =
    put_of (g.P.Pictures.written c.write_filter.new.pictures)
    (Does (c.write_filter.new.pictures ≡ c.args.pictures.now) (g.P.Pictures.done c.args.pictures.now)
    (g.P.Pictures.done c.write_filter.new.pictures)) c.args.folder.now c.args.text.now [] c.in_ok-graph.graph
    (record { filter = c.in_ok-tree.tree.filter; spelled = c.in_ok-tree.ensures.spelled; lowered = c.in_ok-graph.ensures })
    c.in_ok-write_filter-in-Ok.field-0
    c.in_ok-write_filter-in-Ok.ensures.put

pub returns-in-Err-Refused-clause-said : goal.returns-in-Err-Refused-clause-said
returns-in-Err-Refused-clause-said g c =
    rw c.in-Err-Refused.field-0-is (spec.refused c.in-Err-Refused.refusal (record {
      graph = c.in_ok-graph.graph;
      points = record { filter = c.in_ok-tree.tree.filter; spelled = c.in_ok-tree.ensures.spelled; lowered = c.in_ok-graph.ensures };
      none = rw c.in-Err-Refused.field-0-is at c.in-Err-Refused.ensures.none;
      named = rw c.in-Err-Refused.field-0-is at c.in-Err-Refused.ensures.named;
    }))

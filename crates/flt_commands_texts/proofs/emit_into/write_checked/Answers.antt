use Rattle.std.proofs.Common.{◌≡◌, ◌∷◌, [], refl}
use Rattle.flt_files.specs.Attempts.{Does}
use Rattle.flt_commands_texts.specs.Emit as spec
use Rattle.flt_commands_texts.proofs.Putting.{put_of}
use Rattle.flt_commands_texts.proofs.emit_into.write_checked.Goals as goal

pub returns-in-Ok-clause-said : goal.returns-in-Ok-clause-said
returns-in-Ok-clause-said g c =
    spec.emits _ (record {
      graph = c.in_ok-graph.graph;
      points = record { filter = c.in_ok-tree.tree.filter; spelled = c.in_ok-tree.ensures.spelled; lowered = c.in_ok-graph.ensures };
      cert = c.in_ok-cert.cert;
      is_given = record { certified = c.in_ok-cert.ensures.certificate; written = c.in_ok-cert.ensures.spelled };
      covers = c.in-Ok.ensures.accepted.0 refl;
      emits = c.in_ok-write_filter-in-Ok.ensures.writes;
    })

pub returns-in-Ok-clause-put : goal.returns-in-Ok-clause-put
returns-in-Ok-clause-put g c =
    put_of (g.P.Pictures.written c.write_filter.new.pictures)
    (Does (c.write_filter.new.pictures ≡ c.args.pictures.now) (g.P.Pictures.done c.args.pictures.now)
    (g.P.Pictures.done c.write_filter.new.pictures)) c.args.folder.now c.args.text.now (c.args.certificate.now ∷ []) c.in_ok-graph.graph
    (record { filter = c.in_ok-tree.tree.filter; spelled = c.in_ok-tree.ensures.spelled; lowered = c.in_ok-graph.ensures })
    c.in_ok-write_filter-in-Ok.field-0
    c.in_ok-write_filter-in-Ok.ensures.put

pub returns-clause-said : goal.returns-clause-said
returns-clause-said g c =
    spec.refused _ (record {
      graph = c.in_ok-graph.graph;
      points = record { filter = c.in_ok-tree.tree.filter; spelled = c.in_ok-tree.ensures.spelled; lowered = c.in_ok-graph.ensures };
      cert = c.in_ok-cert.cert;
      certified = c.in_ok-cert.ensures.certificate;
      written = c.in_ok-cert.ensures.spelled;
      decided = c.in-Err.ensures.refused;
    })

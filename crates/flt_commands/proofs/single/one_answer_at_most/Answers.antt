use Rattle.std.proofs.Common.{◌≡◌}
use Rattle.flt_commands.proofs.OneAnswer.{let_out_once, lists_as, said_once}
use Rattle.flt_files.specs.Attempts.{Does}
use Rattle.flt_commands.proofs.single.one_answer_at_most.Goals as goal

pub returns : goal.returns
returns g c =
    let checked = c.one_check_at_most.ensures in
    let analysed = c.one_analysis_at_most.ensures in
    let thinned = c.one_thin_at_most.ensures in
    let replayed = c.one_verdict_at_most.ensures in
    let listed = c.one_listing_at_most.ensures in
    let nowhere = c.fails_exactly_where_nothing_is_spelled.ensures.nowhere in
    record {
      one = λ inputs before pictures past others shown showing request a b has once. let_out_once checked analysed thinned replayed nowhere
          (g.I.Inputs.gives inputs) (g.P.Pictures.written pictures) (g.P.Pictures.written others)
          (Does (pictures ≡ before) (g.P.Pictures.done before) (g.P.Pictures.done pictures))
          (Does (others ≡ past) (g.P.Pictures.done past) (g.P.Pictures.done others)) shown showing request a b has once
          (listed inputs once);
      said = λ inputs shown showing request codes others texts more a b has once. said_once checked analysed thinned replayed nowhere
          (g.I.Inputs.gives inputs) shown showing request codes others texts more a b has once
          (lists_as (g.I.Inputs.gives inputs) (listed inputs once) request);
    }

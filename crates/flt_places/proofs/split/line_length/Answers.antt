use Rattle.std.proofs.Common.{length, ap, ◌∙◌, ◌==◌}
use Rattle.std.specs.Option.{unwrap_or}
use Rattle.flt_places.proofs.Cuts.{first_or_end}
use Rattle.flt_places.proofs.split.line_length.Goals as goal

pub returns-clause-value : goal.returns-clause-value
returns-clause-value c =
    c.unwrap_or.ensures ∙ (ap (λ o. unwrap_or o (length c.args.text.now)) c.line_feed.ensures ∙ first_or_end (λ b. b == 10) c.args.text.now)

use Rattle.std.proofs.Common.{◌∙◌, ap}
use Rattle.clap.proofs.WalkLemmas.{first_value-rows}
use Rattle.clap.specs.Matches.{found_of}
use Rattle.flt_words.specs.Values.{written_by}
use Rattle.flt_words.proofs.values.written_of.Goals as goal

pub returns : goal.returns
returns c = c.written_by.ensures ∙ ap written_by (c.get_str.ensures ∙ first_value-rows (found_of c.args.matches.now) c.args.id.now)

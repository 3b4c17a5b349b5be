use Rattle.std.proofs.Common.{◌∙◌}
use Rattle.flt_words.proofs.PagedNames.{each_has_page}
use Rattle.flt_words.proofs.commands.have_pages.Goals as goal

pub returns-in-len1-up : goal.returns-in-len1-up
returns-in-len1-up c = c.all_have_pages.ensures ∙ each_has_page c.args.names.now c.in-len1-up.len_at_least

use Rattle.flt_print.proofs.SpelledWords.{each_is_one_kind}
use Rattle.flt_print.proofs.vocabulary.each_word_is_one_kind.Goals as goal

pub returns : goal.returns
returns c = each_is_one_kind

use Rattle.std.proofs.lemmas.List.Splits.{join_with_byte-slice_split}
use Rattle.flt_explain_html.proofs.Reading.{all_plain, all_read}
use Rattle.flt_explain_html.proofs.words.rows_are_the_print.Goals as goal

pub returns-clause-rows : goal.returns-clause-rows
returns-clause-rows c = join_with_byte-slice_split 10

pub returns-clause-words : goal.returns-clause-words
returns-clause-words c = all_read

pub returns-clause-plain : goal.returns-clause-plain
returns-clause-plain c = all_plain

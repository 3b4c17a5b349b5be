use Rattle.std.proofs.Common.{◌∙◌, ap, string_bytes}
use Rattle.std.specs.Str.{bytes_eq}
use Rattle.flt_words.proofs.Beginning.{begin_if_equal}
use Rattle.flt_words.proofs.words.begins_with.Goals as goal

pub returns-in-len1-up : goal.returns-in-len1-up
returns-in-len1-up c =
    begin_if_equal string_bytes c.args.words.now c.args.word.now c.first-item.result c.eq.result c.in-len1-up.len_at_least c.first-item.is
    (c.eq.ensures ∙ ap (λ bytes. bytes_eq bytes c.args.word.now) c.as_str.ensures.value)

use Rattle.std.proofs.Common.{◌∙◌}
use Rattle.flt_c_tokens.proofs.Spelling.{taken_back}
use Rattle.flt_c_tokens.proofs.lexer.tokens.Goals as goal

pub returns-in-Ok-Err-clause-read : goal.returns-in-Ok-Err-clause-read
returns-in-Ok-Err-clause-read c = (
  c.truncate.ensures
      ∙ taken_back c.args.spellings.now c.read.new.spellings c.len-count.result c.len-count.ensures.known c.len-count.ensures.len
      c.read.ensures.begins,
  rw c.in-Ok-Err.field-0-is at c.in-Ok-Err.ensures.read,
)

pub returns-in-Err-clause-kept : goal.returns-in-Err-clause-kept
returns-in-Err-clause-kept c =
    c.truncate-in-Err.ensures
    ∙ taken_back c.args.spellings.now c.read.new.spellings c.len-count.result c.len-count.ensures.known c.len-count.ensures.len
    c.read.ensures.begins

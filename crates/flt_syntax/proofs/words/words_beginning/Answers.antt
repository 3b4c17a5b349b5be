use Rattle.std.proofs.Common.{refl}
use Rattle.flt_syntax.proofs.words.words_beginning.Goals as goal

pub returns-in-83 : goal.returns-in-83
returns-in-83 c rest = rw c.in-83.is refl

pub returns-in-70 : goal.returns-in-70
returns-in-70 c rest = rw c.in-70.is refl

pub returns-in-75 : goal.returns-in-75
returns-in-75 c rest = rw c.in-75.is refl

pub returns-in-82 : goal.returns-in-82
returns-in-82 c rest = rw c.in-82.is refl

pub returns-in-69 : goal.returns-in-69
returns-in-69 c rest = rw c.in-69.is refl

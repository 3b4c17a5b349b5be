use Rattle.std.proofs.Common.{◌≡◌, ◌++◌, drop}
use Rattle.flt_c_functions.specs.Texts.{more_tokens}
use Rattle.flt_c_functions.proofs.text.put_more_tokens.Given as goal

abbrev pub invariant-loop-token : goal.invariant-loop-token
invariant-loop-token l =
    l.fn.out.items ++ more_tokens l.fn.spellings l.fn.tokens ≡ l.out.items ++ more_tokens l.fn.spellings (drop l.token-index l.fn.tokens)

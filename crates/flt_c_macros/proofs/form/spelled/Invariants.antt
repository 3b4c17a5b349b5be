use Rattle.std.proofs.Common.{◌≡◌, drop}
use Rattle.flt_c_macros.specs.Forms.{front_of, joined}
use Rattle.flt_c_macros.proofs.form.spelled.Given as goal

abbrev pub invariant-loop-token : goal.invariant-loop-token
invariant-loop-token l =
    joined l.spellings (front_of l.fn.form) l.line ≡ joined l.spellings l.text (drop l.token-index l.line)

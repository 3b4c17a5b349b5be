-- Where the visit and the status are fit for handing, what is left to ask is what the word and the place say.
use Rattle.std.proofs.Common.{arith}
use Rattle.std.proofs.lemmas.Grind.{common_steps}
use Rattle.flt_replay.proofs.rules.Scene.may_hand.Goals as goal

pub returns-then-is_for_handing : goal.returns-then-is_for_handing
returns-then-is_for_handing c t =
    grind (arith, common_steps, c.is_for_handing.ensures, c.if-is_for_handing.true, c.word.ensures, c.fits_word.ensures t)

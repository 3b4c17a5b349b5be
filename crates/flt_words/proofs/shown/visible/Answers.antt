use Rattle.std.proofs.Common.{sym, ◌∙◌, append_assoc, append-nil}
use Rattle.std.proofs.lemmas.Str.{IsUtf8-past_char}
use Rattle.flt_words.proofs.Letters.{visible_nothing, visible_step}
use Rattle.flt_words.proofs.shown.visible.Goals as goal

pub loop-letter-preserved : goal.loop-letter-preserved
loop-letter-preserved c =
    let held = c.loop-letter.invariant in
    let parts = c.in-Some.ensures.steps.0 in
    let step = visible_step _ _ c.in-Some.letter held.0 parts in
    (IsUtf8-past_char _ _ c.in-Some.letter held.0 parts, rw (c.in_ok-put.ensures, append_assoc) (rw step at held.1))

pub returns : goal.returns
returns c = sym (append-nil _) ∙ rw (visible_nothing _ c.in-None.ensures.steps.0.0) at c.loop-letter.invariant.1

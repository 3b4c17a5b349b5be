use Rattle.std.proofs.Common.{ap, map}
use Rattle.flt_c_tokens.proofs.Spelling.{words_first}
use Rattle.flt_c_tokens.proofs.spellings.known_texts.Goals as goal

pub loop-rest-init : goal.loop-rest-init
loop-rest-init c =
    words_first (λ e. e.0.now) (λ e. e.1) c.vocabulary-rest.result.now (map (λ t. t.items) c.new-texts.result.keys)
    (ap (map (λ t. t.items)) c.new-texts.ensures.empty) c.vocabulary-rest.ensures

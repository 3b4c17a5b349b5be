use Rattle.std.proofs.Common.{◌≡◌, length, map}
use Rattle.flt_c_tokens.specs.Vocabulary.{known_words}
use Rattle.flt_c_tokens.proofs.Spelling.{with_all}
use Rattle.flt_c_tokens.proofs.spellings.known_texts.Given as goal

abbrev pub invariant-loop-rest : goal.invariant-loop-rest
invariant-loop-rest l = with_all (map (λ t. t.items) l.texts.keys) (map (λ e. e.0.now) l.rest) ≡ known_words

abbrev pub decreases-loop-rest : goal.decreases-loop-rest
decreases-loop-rest l = length l.rest

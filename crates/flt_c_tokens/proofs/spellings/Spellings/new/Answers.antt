use Rattle.std.proofs.Common.{[], length, sym, ap, ◌∙◌, ◌≡◌, arith}
use Rattle.std.proofs.lemmas.List.{append-nil, length-map}
use Rattle.flt_c_tokens.specs.Vocabulary.{known_words}
use Rattle.flt_c_tokens.proofs.Spelling.{words_fit}
use Rattle.flt_c_tokens.proofs.spellings.Spellings.new.Goals as goal

pub invariant_of-result : goal.invariant_of-result
invariant_of-result c =
    let keys = c.in_ok-texts.texts.keys in
    let long : length keys ≡ length known_words = sym (length-map keys (λ t. t.items)) ∙ ap length c.in_ok-texts.ensures in
    (record { more = []; parts = c.in_ok-texts.ensures ∙ sym (append-nil known_words) }, omega (arith, words_fit))

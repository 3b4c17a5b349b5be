use Rattle.std.proofs.Common.{sym, ◌∙◌, arith}
use Rattle.std.proofs.Math.Nat.{max-eq_left, max-eq_right}
use Rattle.flt_c_tokens.proofs.Spelling.{words_count}
use Rattle.flt_c_tokens.proofs.spellings.with_words.Goals as goal

pub returns-then-count-words : goal.returns-then-count-words
returns-then-count-words c =
    let words = words_count (λ e. e.0.now) (λ e. e.1) c.vocabulary-words.result.now c.vocabulary-words.ensures in
    words ∙ sym (max-eq_right (omega (arith, words, c.if-count-words.true)))

pub returns-else-count-words : goal.returns-else-count-words
returns-else-count-words c =
    let words = words_count (λ e. e.0.now) (λ e. e.1) c.vocabulary-words.result.now c.vocabulary-words.ensures in
    sym (max-eq_left (omega (arith, words, c.if-count-words.false)))

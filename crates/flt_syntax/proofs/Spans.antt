-- Where the tokens stand that were read.
use Rattle.std.proofs.Common.{◌≡◌, ◌-◌, ◌≤◌, [], ◌∷◌, length, slice_index_or, ap, ◌∙◌, arith}
use Rattle.std.proofs.lemmas.Grind.{get_or_head, get_or_tail}
use Rattle.flt_syntax.specs.Cursor.{Input, last}
use Rattle.flt_syntax.specs.declared.token.Token.{Token}

-- the last token of a list, by its number
pub last_at : (d t : Token) (i : Input) → 1 ≤ length i → slice_index_or i (length i - 1) d ≡ last t i
last_at d t [] some = absurd (omega arith)
last_at d t (u ∷ []) some = get_or_head u [] (length (u ∷ []) - 1) d (omega arith)
last_at d t (u ∷ v ∷ i) some =
    let fewer : length (u ∷ v ∷ i) - 1 - 1 ≡ length (v ∷ i) - 1 = omega arith in
    get_or_tail u (v ∷ i) (length (u ∷ v ∷ i) - 1) d (omega arith) ∙ ap (λ n. slice_index_or (v ∷ i) n d) fewer
    ∙ last_at d u (v ∷ i) (omega arith)

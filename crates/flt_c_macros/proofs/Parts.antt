-- Parts of tokens.
use Rattle.std.proofs.Common.{◌≡◌, ℕ, suc, ◌+◌, ◌-◌, ◌<◌, ◌≤◌, List, [], ◌∷◌, ◌++◌, length, take, drop, get_or}
use Rattle.std.proofs.Common.{refl, ap, ◌∙◌, arith, length-drop}
use Rattle.std.specs.Prelude.{slice_range}
use Rattle.std.proofs.Math.Seq.{take-suc}
use Rattle.std.proofs.lemmas.List.{get_or-drop}
use Rattle.flt_c_tokens.specs.declared.token.Token.{Token}

-- one token more
pub range_more : (tokens : List Token) (start i : ℕ) (t : Token) → start ≤ i → i < length tokens →
    slice_range tokens start (i + 1) ≡ slice_range tokens start i ++ get_or tokens i t ∷ []
range_more tokens start i t within some =
    let e : i + 1 - start ≡ suc (i - start) = omega arith in
    let back : start + (i - start) ≡ i = omega arith in
    let less : i - start < length (drop start tokens) = omega (arith, length-drop start tokens) in
    rw e (take-suc (drop start tokens) (i - start) t less
    ∙ ap (λ u. take (i - start) (drop start tokens) ++ u ∷ [])
    (get_or-drop start tokens (i - start) t ∙ ap (λ m. get_or tokens m t) back))

pub range_none : (tokens : List Token) (i : ℕ) → slice_range tokens i i ≡ []
range_none tokens i = let e : i - i ≡ 0 = omega arith in rw e refl

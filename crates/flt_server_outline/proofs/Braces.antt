-- Braces that are open, the innermost last.
use Rattle.std.proofs.Common.{◌≡◌, ◌∷◌, ◌++◌, ◌∙◌, [], List, Option, Some, None, MatchOption, ap, sym, refl}
use Rattle.flt_server_outline.specs.Blocks.{innermost, others}
use Rattle.flt_syntax.specs.declared.token.Token.{Token}

innermost_push : (ts : List Token) (t : Token) → innermost (ts ++ t ∷ []) ≡ Some t
innermost_push [] t = refl
innermost_push (a ∷ []) t = refl
innermost_push (a ∷ b ∷ ts) t = innermost_push (b ∷ ts) t

others_push : (ts : List Token) (t : Token) → others (ts ++ t ∷ []) ≡ ts
others_push [] t = refl
others_push (a ∷ []) t = refl
others_push (a ∷ b ∷ ts) t = ap (λ us. a ∷ us) (others_push (b ∷ ts) t)

-- the innermost is taken
pub taken : (old new : List Token) (found : Option Token) →
    MatchOption found ((old ≡ []) × (new ≡ [])) (λ last. old ≡ new ++ last ∷ []) → (found ≡ innermost old) × (new ≡ others old)
taken old new None is = (sym (ap innermost is.0), is.1 ∙ sym (ap others is.0))
taken old new (Some t) is = (sym (ap innermost is ∙ innermost_push new t), sym (ap others is ∙ others_push new t))

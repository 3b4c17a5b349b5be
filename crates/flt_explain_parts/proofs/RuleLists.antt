-- Rules of a document, one behind the other.
use Rattle.std.proofs.Common.{◌≡◌, ℕ, suc, ◌+◌, ◌<◌, List, [], ◌∷◌, ◌++◌, length, take, get_or}
use Rattle.std.proofs.Common.{refl, ap, sym, ◌∙◌, append_assoc, append-nil, arith}
use Rattle.std.proofs.Math.Seq.{take-suc}
use Rattle.json.specs.Token.{Token}
use Rattle.flt_explain_parts.specs.Rules.{AreRules, IsRule}
use Rattle.flt_explain_parts.specs.declared.rules.ResultKind.{ResultKind}

-- one rule more
rules_push : (rs : List ResultKind) (r : ResultKind) (tokens part : List Token) →
    AreRules rs tokens → IsRule r part → AreRules (rs ++ r ∷ []) (tokens ++ part)
rules_push [] r tokens part same is = (part, [], is, refl, ap (λ ts. ts ++ part) same ∙ sym (append-nil part))
rules_push (t ∷ rs) r tokens part (first, rest, is_first, are, both) is = (
  first,
  rest ++ part,
  is_first,
  rules_push rs r rest part are is,
  ap (λ ts. ts ++ part) both ∙ append_assoc first rest part,
)

module _ (all : List ResultKind) (i : ℕ) (d : ResultKind) (within : i < length all) where
  one_rule_more : take (i + 1) all ≡ take i all ++ get_or all i d ∷ []
  one_rule_more =
      let next : take (suc i) all ≡ take i all ++ get_or all i d ∷ [] = take-suc all i d within in
      let same : i + 1 ≡ suc i = omega arith in
      rw (same, next) refl

  -- the rules so far and the next one
  pub one_more_ruled : (tokens part : List Token) → AreRules (take i all) tokens → IsRule (get_or all i d) part →
      AreRules (take (i + 1) all) (tokens ++ part)
  one_more_ruled tokens part are is = rw one_rule_more (rules_push (take i all) (get_or all i d) tokens part are is)

-- The tokens of a file without its end.
use Rattle.std.proofs.Common.{◌≡◌, ◌≤◌, List, ◌++◌, length, map, ap, subst, ◌∙◌}
use Rattle.flt_c_tokens.specs.Bytes.{Text}
use Rattle.flt_c_tokens.specs.Spelled.{max_spellings}
use Rattle.flt_c_tokens.specs.Tokens.{AreTokens, max_file, numbered, tokens}
use Rattle.flt_c_tokens.specs.declared.token.Token.{Token}
use Rattle.flt_c_headers.specs.Files.{Adds, but_last, tokens_after}

-- what is added of a text of which these are the tokens
pub added : (known : List Text) (z : Text) (before : List Token) (next : List Text) (ts us vs after : List Token) → length z ≤ max_file →
    AreTokens known next z ts → length next ≤ max_spellings → us ≡ ts → vs ≡ but_last us → after ≡ before ++ vs →
    Adds known z before next after
unfolding tokens_after
added known z before next ts us vs after small a few eu ev ea =
    record {
      fits = record { small = small; few = subst (λ xs. length xs ≤ max_spellings) a.spelled few };
      texts = a.spelled;
      tokens =
          ea
          ∙ (ap (λ xs. before ++ xs) (ev ∙ ap but_last (eu ∙ a.read))
          ∙ ap (λ xs. before ++ but_last (map (numbered xs) (tokens z))) a.spelled);
    }

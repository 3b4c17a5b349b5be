-- The results of several texts, one behind the other.
use Rattle.std.proofs.Common.{◌≡◌, ℕ, ◌+◌, ◌<◌, List, [], ◌∷◌, ◌++◌, length, take, get_or}
use Rattle.std.proofs.Common.{max, refl, ap, sym, ◌∙◌, append_assoc, append-nil, arith}
use Rattle.std.specs.Borrow.{Bor}
use Rattle.json.specs.Token.{Token}
use Rattle.flt_explain_texts.specs.declared.sources.Source.{Source}
use Rattle.flt_explain_warning_details.specs.declared.options.WarningOptions.{WarningOptions}
use Rattle.flt_explain_parts.proofs.Texts.{counted_before, max_assoc, next_number, none_or, one_source_more}
use Rattle.flt_explain_sarif.specs.Sarif as sarif

module _ (options : WarningOptions) (names : List (Bor (List ℕ))) (runs : ℕ → ℕ → List Token) where
  -- the results of one text more
  results_push : (number at : ℕ) (ss : List Source) (s : Source) (tokens part : List Token) (status own : ℕ) → at ≡ number + length ss →
      sarif.AreResults options names runs number ss tokens status → sarif.IsPart options names (runs at) s part own →
      sarif.AreResults options names runs number (ss ++ s ∷ []) (tokens ++ part) (max status own)
  results_push number at [] s tokens part status own is_at (same, none) is =
      let first : at ≡ number = omega (arith, is_at) in (
        part,
        [],
        own,
        0,
        rw first at is,
        (refl, refl),
        ap (λ ts. ts ++ part) same ∙ sym (append-nil part),
        none_or own _ none,
      )
  results_push number at (t ∷ ss) s tokens part status own is_at (first, rest, one, others, is_first, are, both, greatest) is = (
    first,
    rest ++ part,
    one,
    max others own,
    is_first,
    results_push (number + 1) at ss s rest part others own (next_number number (length ss) at is_at) are is,
    ap (λ ts. ts ++ part) both ∙ append_assoc first rest part,
    ap (λ n. max n own) greatest ∙ max_assoc one others own,
  )

module _ (all : List Source) (i : ℕ) (d : Source) (within : i < length all) where
  -- the results of the texts so far and of the next one
  pub one_more_shown : (options : WarningOptions) (names : List (Bor (List ℕ))) (runs : ℕ → ℕ → List Token) (tokens part : List Token)
      (status own greatest : ℕ) → sarif.AreResults options names runs 0 (take i all) tokens status →
      sarif.IsPart options names (runs i) (get_or all i d) part own → greatest ≡ max status own →
      sarif.AreResults options names runs 0 (take (i + 1) all) (tokens ++ part) greatest
  one_more_shown options names runs tokens part status own greatest are part_is most =
      rw (one_source_more all i d within, most)
      (results_push options names runs 0 i (take i all) (get_or all i d) tokens part status own (counted_before all i d within) are part_is)

-- The lines of several texts, one behind the other.
use Rattle.std.proofs.Common.{◌≡◌, ℕ, ◌+◌, ◌<◌, List, [], ◌∷◌, ◌++◌, length, take, get_or}
use Rattle.std.proofs.Common.{max, refl, ap, ◌∙◌, arith}
use Rattle.json.specs.Token.{Token}
use Rattle.flt_explain_texts.specs.declared.sources.Source.{Source}
use Rattle.flt_explain_warning_details.specs.declared.options.WarningOptions.{WarningOptions}
use Rattle.flt_explain_parts.proofs.Texts.{counted_before, max_assoc, next_number, none_or, one_source_more}
use Rattle.flt_explain_forms.specs.Lines as lines
use Rattle.flt_explain_forms.specs.declared.as_lines.Style.{Style}

module _ (style : Style) (options : WarningOptions) (runs : ℕ → ℕ → List Token) where
  -- the lines of one text more
  lines_push : (number at : ℕ) (ss : List Source) (s : Source) (before printed part : List ℕ) (status own : ℕ) → at ≡ number + length ss →
      lines.AreLinesFrom style options runs number ss before printed status → lines.IsPart style options (runs at) s part own →
      lines.AreLinesFrom style options runs number (ss ++ s ∷ []) before (printed ++ part) (max status own)
  lines_push number at [] s before printed part status own is_at (same, none) is =
      let first : at ≡ number = omega (arith, is_at) in
      (part, own, 0, rw first at is, (ap (λ bytes. bytes ++ part) same, refl), none_or own _ none)
  lines_push number at (t ∷ ss) s before printed part status own is_at (first, one, others, is_first, are, greatest) is = (
    first,
    one,
    max others own,
    is_first,
    lines_push (number + 1) at ss s (before ++ first) printed part others own (next_number number (length ss) at is_at) are is,
    ap (λ n. max n own) greatest ∙ max_assoc one others own,
  )

module _ (all : List Source) (i : ℕ) (d : Source) (within : i < length all) where
  -- the lines of the texts so far and of the next one
  pub one_more_told : (style : Style) (options : WarningOptions) (runs : ℕ → ℕ → List Token) (before printed part after : List ℕ)
      (status own greatest : ℕ) → lines.AreLinesFrom style options runs 0 (take i all) before printed status →
      lines.IsPart style options (runs i) (get_or all i d) part own → after ≡ printed ++ part → greatest ≡ max status own →
      lines.AreLinesFrom style options runs 0 (take (i + 1) all) before after greatest
  one_more_told style options runs before printed part after status own greatest are part_is added most =
      rw (one_source_more all i d within, added, most)
      (lines_push style options runs 0 i (take i all) (get_or all i d) before printed part status own (counted_before all i d within) are part_is)

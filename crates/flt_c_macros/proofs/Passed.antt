-- Tokens that are met one after another.
use Rattle.std.proofs.Common.{◌≡◌, ℕ, suc, ◌+◌, ◌<◌, ◌≤◌, Bool, true, false, List, [], ◌∷◌, ◌++◌, length, drop, get_or}
use Rattle.std.proofs.Common.{refl, sym, ap, ◌∙◌, Ok, Err, drop-cons, add-one}
use Rattle.std.specs.Prelude.{slice_range}
use Rattle.flt_c_tokens.specs.declared.token.Kind.TheVariants as k
use Rattle.flt_c_tokens.specs.declared.token.Token.{Token}
use Rattle.flt_c_macros.specs.Kinds.{same_kind}
use Rattle.flt_c_macros.specs.States.{World}
use Rattle.flt_c_macros.specs.Whole.{Beginning, Entry, part_read, ends, beginning, read}
use Rattle.flt_c_macros.proofs.Parts.{range_more, range_none}

-- the token at a place, and those behind it
at_item : (tokens : List Token) (i : ℕ) (t : Token) → i < length tokens → t ≡ get_or tokens i t → drop i tokens ≡ t ∷ drop (i + 1) tokens
at_item tokens i t some is =
    drop-cons tokens i t some ∙ (ap (λ u. u ∷ drop (suc i) tokens) (sym is) ∙ ap (λ n. t ∷ drop n tokens) (sym (add-one i)))

more_item : (tokens : List Token) (start i : ℕ) (t : Token) → start ≤ i → i < length tokens → t ≡ get_or tokens i t →
    slice_range tokens start i ++ t ∷ [] ≡ slice_range tokens start (i + 1)
more_item tokens start i t within some is =
    ap (λ u. slice_range tokens start i ++ u ∷ []) is ∙ sym (range_more tokens start i t within some)

module _ (kept : List Bool) (enter : Entry) (at : Beginning) (tokens : List Token) (start i : ℕ) (t : Token) (w : World) (within : start ≤ i)
    (some : i < length tokens) (is : t ≡ get_or tokens i t) (more : same_kind t.kind k.End ≡ false) where
  -- a token of the same part
  pub goes_on : ends at t ≡ false →
      read kept enter at (slice_range tokens start i) (drop i tokens) w
      ≡ read kept enter at (slice_range tokens start (i + 1)) (drop (i + 1) tokens) w
  goes_on same =
      rw (at_item tokens i t some is, more, same)
      (ap (λ p. read kept enter at p (drop (i + 1) tokens) w) (more_item tokens start i t within some is))

  -- a token that ends the part
  pub begins : (v : World) → ends at t ≡ true → part_read kept enter at (slice_range tokens start i) (drop (i + 1) tokens) w ≡ Ok v →
      read kept enter at (slice_range tokens start i) (drop i tokens) w
      ≡ read kept enter (beginning t) (slice_range tokens (i + 1) (i + 1)) (drop (i + 1) tokens) v
  begins v over done =
      rw (at_item tokens i t some is, more, over, done)
      (ap (λ p. read kept enter (beginning t) p (drop (i + 1) tokens) v) (sym (range_none tokens (i + 1))))

  -- a part for which there would be too many spellings
  pub fails : (place : ℕ × ℕ) → ends at t ≡ true → part_read kept enter at (slice_range tokens start i) (drop (i + 1) tokens) w ≡ Err place →
      read kept enter at (slice_range tokens start i) (drop i tokens) w ≡ Err place
  fails place over done = rw (at_item tokens i t some is, more, over, done) refl

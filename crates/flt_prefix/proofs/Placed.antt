-- The place that the parser has for a token is the one that is counted in the text.
use Rattle.std.proofs.Common.{◌≡◌, refl, sym, ◌∙◌, ap, subst, arith, ℕ, zero, suc, ◌+◌, ◌-◌, Bool}
use Rattle.std.proofs.Common.{true, false, List, [], ◌∷◌, ◌++◌, length, append_assoc, length-append}
use Rattle.std.specs.List.{All}
use Rattle.std.specs.Prelude.{not, ◌==◌}
use Rattle.std.proofs.lemmas.List.Elements.{All-cons}
use Rattle.std.proofs.Math.Seq.{take-append_seam}
use Rattle.flt_places.specs.Places.{behind, place_in}
use Rattle.flt_syntax.specs.Lex.{past, is_blank, is_fault, token, tokens, tokens_from}
use Rattle.flt_syntax.specs.declared.token.Token.{Token}
use Rattle.flt_tree.specs.Names.{Text}
use Rattle.flt_tree.specs.declared.filter.Position.{Position}
use Rattle.flt_prefix.specs.Placed.{IsPlacedIn, TokensArePlaced}

abbrev begin : Position
begin = record { line = 1; column = 1 }

behind_more : (at : Position) (xs ys : Text) → behind at (xs ++ ys) ≡ behind (behind at xs) ys
behind_more at [] ys = refl
behind_more at (x ∷ xs) ys = behind_more (past x at) xs ys

-- what was read of a text, with the place of the byte behind it
record IsRead (text front z : Text) (last : ℕ) (at : Position) (offset : ℕ) : Type 0 where
  pub whole : text ≡ front ++ z
  pub place : past last at ≡ behind begin front
  pub many : offset ≡ length front

one_more : (text front z : Text) (b last offset : ℕ) (at : Position) → IsRead text front (b ∷ z) last at offset →
    IsRead text (front ++ b ∷ []) z b (past last at) (offset + 1)
one_more text front z b last offset at r = record {
  whole = r.whole ∙ sym (append_assoc front (b ∷ []) z);
  place = ap (past b) r.place ∙ sym (behind_more begin front (b ∷ []));
  many = ap (λ n. n + 1) r.many ∙ sym (length-append front (b ∷ []));
}

here : (text front z : Text) (last offset : ℕ) (at : Position) → IsRead text front z last at offset → past last at ≡ place_in text offset
here text front z last offset at r =
    rw (r.whole, r.many, take-append_seam front z) r.place

-- the token at the front of what is left
abbrev first : Text → ℕ → Position → ℕ → Token
first z last at offset = record { word = (token z).0; position = past last at; start = offset; end = offset + (token z).1 }

placed : (text : Text) (left : ℕ) (comment : Bool) (last : ℕ) (at : Position) (offset : ℕ) (front z : Text) →
    IsRead text front z last at offset → All (IsPlacedIn text) (tokens_from left comment last at offset z)
placed text left comment last at offset front [] r =
    All-cons (IsPlacedIn text) _ [] (λ h. absurd (h refl)) (λ k d less. absurd (omega (arith, less)))
placed text (suc left) comment last at offset front (b ∷ z) r =
    placed text left comment b (past last at) (offset + 1) (front ++ b ∷ []) z (one_more text front z b last offset at r)
placed text zero true last at offset front (b ∷ z) r =
    placed text zero (not (b == 10)) b (past last at) (offset + 1) (front ++ b ∷ []) z (one_more text front z b last offset at r)
placed text zero false last at offset front (b ∷ z) r =
    go (b == 35) refl (is_blank b) refl (is_fault (token (b ∷ z)).0.kind) refl
    (λ left comment. placed text left comment b (past last at) (offset + 1) (front ++ b ∷ []) z (one_more text front z b last offset at r))
  where
    go : (x : Bool) → (b == 35) ≡ x → (y : Bool) → is_blank b ≡ y → (f : Bool) → is_fault (token (b ∷ z)).0.kind ≡ f →
        ((left : ℕ) (comment : Bool) → All (IsPlacedIn text) (tokens_from left comment b (past last at) (offset + 1) z)) →
        All (IsPlacedIn text) (tokens_from zero false last at offset (b ∷ z))
    go true e y e2 f e3 others = rw e (others zero true)
    go false e true e2 f e3 others = rw (e, e2) (others zero false)
    go false e false e2 true e3 others =
        let same : tokens_from zero false last at offset (b ∷ z) ≡ first (b ∷ z) last at offset ∷ [] = rw (e, e2, e3) refl in
        subst (All (IsPlacedIn text)) (sym same)
        (All-cons (IsPlacedIn text) _ [] (λ h. here text front (b ∷ z) last offset at r) (λ k d less. absurd (omega (arith, less))))
    go false e false e2 false e3 others =
        let rest : List Token = tokens_from ((token (b ∷ z)).1 - 1) false b (past last at) (offset + 1) z in
        let same : tokens_from zero false last at offset (b ∷ z) ≡ first (b ∷ z) last at offset ∷ rest = rw (e, e2, e3) refl in
        subst (All (IsPlacedIn text)) (sym same)
        (All-cons (IsPlacedIn text) _ rest (λ h. here text front (b ∷ z) last offset at r) (others ((token (b ∷ z)).1 - 1) false))

-- the parser's place for each token is the one that is counted
pub tokens_are_placed : TokensArePlaced
unfolding tokens
tokens_are_placed text =
    placed text zero false 0 (record { line = 1; column = 0 }) 0 [] text (record { whole = refl; place = refl; many = refl })

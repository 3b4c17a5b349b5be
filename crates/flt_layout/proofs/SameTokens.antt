-- The tokens of a text are those among its items, apart from places.
use Rattle.std.proofs.Common.{◌≡◌, ℕ, zero, suc, ◌+◌, ◌-◌, Bool, true, false, min, List, [], ◌∷◌, ◌++◌}
use Rattle.std.proofs.Common.{length, take, drop, map, refl, sym, ap, subst, ◌∙◌, arith, append_assoc}
use Rattle.std.proofs.Math.Seq.{drop-append_seam}
use Rattle.std.proofs.lemmas.List.{length-append}
use Rattle.std.specs.Prelude.{◌==◌, not, if◌then◌else◌}
use Rattle.flt_tree.specs.Names.{Text}
use Rattle.flt_tree.specs.declared.filter.Position.{Position}
use Rattle.flt_syntax.specs.Cursor.{Input, bytes_of}
use Rattle.flt_syntax.specs.Lex.{past, one_column_on, word, is_blank, is_fault, token, tokens_from, tokens}
use Rattle.flt_syntax.specs.declared.token.Kind.TheVariants as k
use Rattle.flt_syntax.specs.declared.token.Token.{Token}
use Rattle.flt_layout.specs.Items.{Item, moved, items_from, items}
use Rattle.flt_layout.specs.Laws.{word_and_bytes, words_among, TokensAreItems, KeepsTokens, KeepsItems}
use Rattle.flt_layout.specs.Layout.{start, laid_out}
use Rattle.flt_layout.specs.declared.space.Space.{Space}
use Rattle.flt_layout.specs.declared.space.Space.TheVariants as space
use Rattle.flt_layout.proofs.Settled.{same_words}

-- ---- the bytes of a token

take_more : (b n m : ℕ) (z : Text) → m ≡ suc n → take m (b ∷ z) ≡ b ∷ take n z
take_more b n m z e = ap (λ i. take i (b ∷ z)) e

take_none : (n : ℕ) (z : Text) → z ≡ [] → take n z ≡ []
take_none n z e = subst (λ z. take n z ≡ []) (sym e) (none n)
  where
    none : (n : ℕ) → take {A = ℕ} n [] ≡ []
    none zero = refl
    none (suc n) = refl

take_min : (z : Text) (n : ℕ) → take (min n (length z)) z ≡ take n z
take_min [] n = take_none (min n 0) [] refl ∙ sym (take_none n [] refl)
take_min (b ∷ z) zero = let e : min 0 (suc (length z)) ≡ 0 = omega arith in ap (λ i. take i (b ∷ z)) e
take_min (b ∷ z) (suc n) =
    let e : min (suc n) (suc (length z)) ≡ suc (min n (length z)) = omega arith in
    take_more b (min n (length z)) _ z e ∙ ap (λ i. b ∷ i) (take_min z n)

end_is : (a n m : ℕ) → min (a + n) (a + m) ≡ a + min n m
end_is a n m = omega arith

before_end : (a b : ℕ) → min a (a + b) ≡ a
before_end a b = omega arith

less_pre : (a b : ℕ) → a + b - a ≡ b
less_pre a b = omega arith

-- the bytes of a token that stands behind others
front_bytes : (text pre z : Text) (t : Token) (n : ℕ) → text ≡ pre ++ z → t.start ≡ length pre → t.end ≡ length pre + n →
    bytes_of text t ≡ take n z
front_bytes text pre z t n e s h =
    rw (s, h, e, length-append pre z, end_is (length pre) n (length z), before_end (length pre) (min n (length z)))
    (ap (λ m. take m (drop (length pre) (pre ++ z))) (less_pre (length pre) (min n (length z)))
    ∙ ap (take (min n (length z))) (drop-append_seam pre z) ∙ take_min z n)

-- ---- tokens and items

either : {X : Type 0} (c : Bool) (i j : Input) (is js : List Item) (F : Input → X) (G : List Item → X) →
    (c ≡ true → F i ≡ G is) → (c ≡ false → F j ≡ G js) → F (if c then i else j) ≡ G (if c then is else js)
either true i j is js F G p q = p refl
either false i j is js F G p q = q refl

ends : (text : Text) (x : Bool) (i : Input) (is : List Item) → map (word_and_bytes text) i ≡ words_among false is →
    map (word_and_bytes text) (if x then [] else i) ≡ words_among x (if x then [] else is)
ends text true i is e = refl
ends text false i is e = e

one_on : (pre : Text) (b off : ℕ) → off ≡ length pre → off + 1 ≡ length (pre ++ b ∷ [])
one_on pre b off e = omega (arith, length-append pre (b ∷ []), e)

further : (text pre z : Text) (b : ℕ) → text ≡ pre ++ b ∷ z → text ≡ (pre ++ b ∷ []) ++ z
further text pre z b e = e ∙ sym (append_assoc pre (b ∷ []) z)

plus_none : (n : ℕ) → n ≡ n + 0
plus_none n = omega arith

along : (text pre z : Text) (left : ℕ) (inside : Bool) (x : Space) (last : ℕ) (at : Position) (off : ℕ) → text ≡ pre ++ z →
    off ≡ length pre →
    map (word_and_bytes text) (tokens_from left inside last at off z) ≡ words_among false (items_from left inside x z)
along text pre [] left inside x last at off e h =
    ap (λ w. (word k.End, w) ∷ [])
    (front_bytes text pre [] (record {
      word = word k.End;
      position = one_column_on at;
      start = off;
      end =
          off;
    }) 0 e h (h ∙ plus_none (length pre)))
along text pre (b ∷ z) (suc left) inside x last at off e h =
    along text (pre ++ b ∷ []) z left inside x b (past last at) (off + 1) (further text pre z b e) (one_on pre b off h)
along text pre (b ∷ z) zero true x last at off e h =
    along text (pre ++ b ∷ []) z zero (not (b == 10)) (moved b x) b (past last at) (off + 1) (further text pre z b e) (one_on pre b off h)
along text pre (b ∷ z) zero false x last at off e h =
    let on = λ (left : ℕ) (inside : Bool) (x : Space). along text (pre ++ b ∷ []) z left inside x b (past last at) (off + 1)
    (further text pre z b e) (one_on pre b off h) in
    let t = token (b ∷ z) in
    either (b == 35) _ _ _ _ (map (word_and_bytes text)) (words_among false) (λ _. on zero true space.Beside)
    (λ _. either (is_blank b) _ _ _ _ (map (word_and_bytes text)) (words_among false) (λ _. on zero false (moved b x))
    (λ _. ap (λ w. (t.0, w) ∷ map (word_and_bytes text) (if is_fault t.0.kind then [] else tokens_from (t.1 - 1) false b (past last at)
    (off + 1) z))
    (front_bytes text pre (b ∷ z) (record {
      word = t.0;
      position = past last at;
      start = off;
      end =
          off + t.1;
    }) t.1 e h (ap (λ n. n + t.1) h))
    ∙ ap (λ i. (t.0, take t.1 (b ∷ z)) ∷ i) (ends text (is_fault t.0.kind) _ _ (on (t.1 - 1) false space.Beside))))

-- the tokens of a text are those among its items
pub tokens_are_items : TokensAreItems
unfolding tokens items
tokens_are_items z = along z [] z zero false space.First 0 (record { line = 1; column = 0 }) 0 refl refl

-- a layout has the tokens of its text
pub keeps_tokens : KeepsItems → TokensAreItems → KeepsTokens
keeps_tokens kept same z =
    same (laid_out z) ∙ ap (words_among false) (kept z) ∙ same_words false start (items z) ∙ sym (same z)

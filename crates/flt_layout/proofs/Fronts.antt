-- What is read at the front of a text is read there again where a blank or a line feed stands behind it.
use Rattle.std.proofs.Common.{◌≡◌, ℕ, suc, ◌+◌, Bool, true, false, [], ◌∷◌, ◌++◌, length, take, refl, sym, ap, subst, ◌∙◌, arith}
use Rattle.std.proofs.Math.Seq.{take-append_seam}
use Rattle.std.proofs.lemmas.Bool.{eqb-true, lt-ltb, and_parts, and_from, and_right, false≢true}
use Rattle.std.specs.Char.{is_ascii_digit}
use Rattle.std.specs.List.{list_all, prefix_len}
use Rattle.std.specs.Prelude.{◌==◌, ◌&&◌, nat_lt, slice_index, if◌then◌else◌}
use Rattle.flt_tree.specs.Names.{Text, is_word}
use Rattle.flt_syntax.specs.Lex.{word, is_blank, keyword, number, run, pair_or, token}
use Rattle.flt_syntax.specs.Written.{Gap, blank, feed}
use Rattle.flt_syntax.specs.declared.token.Kind.{Kind}
use Rattle.flt_syntax.specs.declared.token.Kind.TheVariants as k
use Rattle.flt_syntax.specs.declared.token.Word.{Word}

-- a text that is read as one token, or one fault, where a blank or a line feed stands behind it
pub data IsWord : Word → Text → Type 0 where
  whole : {c : ℕ} {w : Text} {v : Word} → (c == 35) ≡ false → is_blank c ≡ false →
      ((b : ℕ) (z : Text) → Gap b → token (c ∷ (w ++ b ∷ z)) ≡ (v, suc (length w))) → IsWord v (c ∷ w)

-- ---- a run of letters, digits and `_`

other_by : (c d : ℕ) (x : Bool) → (c == d) ≡ x → is_word c ≡ true → is_word d ≡ false → x ≡ false
other_by c d true e h l = absurd (false≢true (sym l ∙ ap is_word (sym (eqb-true c d e)) ∙ h))
other_by c d false e h l = refl

other : (c d : ℕ) → is_word c ≡ true → is_word d ≡ false → (c == d) ≡ false
other c d = other_by c d (c == d) refl

run_front : (w z : Text) (b : ℕ) → list_all is_word w ≡ true → Gap b → prefix_len is_word (w ++ b ∷ z) ≡ length w
run_front [] z _ e blank = refl
run_front [] z _ e feed = refl
run_front (c ∷ w) z b e g =
    let p = and_parts (is_word c) (list_all is_word w) e in
    let h : 1 + length w ≡ suc (length w) = omega arith in
    rw (p.0, run_front w z b p.1 g, h) refl

run_by : (z : Text) (end : ℕ) (front : Text) → prefix_len is_word z ≡ end → take end z ≡ front →
    run z ≡ (if is_ascii_digit (slice_index z 0) then number front else keyword front, end)
unfolding run
run_by z end front e h = rw (e, h) refl

token_run : (c : ℕ) (y : Text) → is_word c ≡ true → token (c ∷ y) ≡ run (c ∷ y)
unfolding token
token_run c y e =
    rw (
      other c 123 e refl,
      other c 125 e refl,
      other c 60 e refl,
      other c 43 e refl,
      other c 45 e refl,
      other c 61 e refl,
      other c 33 e refl,
      e,
    ) refl

token_word : (c b : ℕ) (w z : Text) → is_word c ≡ true → list_all is_word w ≡ true → Gap b →
    token (c ∷ (w ++ b ∷ z)) ≡ (if is_ascii_digit c then number (c ∷ w) else keyword (c ∷ w), suc (length w))
token_word c b w z e h g =
    token_run c (w ++ b ∷ z) e
    ∙ run_by (c ∷ (w ++ b ∷ z)) (suc (length w)) (c ∷ w) (run_front (c ∷ w) z b (and_from (is_word c) (list_all is_word w) e h) g)
    (take-append_seam (c ∷ w) (b ∷ z))

one_longer : (b : ℕ) (z : Text) → is_word b ≡ true → prefix_len is_word (b ∷ z) ≡ suc (prefix_len is_word z)
one_longer b z e = let h : 1 + prefix_len is_word z ≡ suc (prefix_len is_word z) = omega arith in rw (e, h) refl

none_there : (b : ℕ) (z : Text) → is_word b ≡ false → prefix_len is_word (b ∷ z) ≡ 0
none_there b z e = rw e refl

run_is : (b : ℕ) (z : Text) → is_word b ≡ true → take (prefix_len is_word (b ∷ z)) (b ∷ z) ≡ b ∷ take (prefix_len is_word z) z
run_is b z e = ap (λ n. take n (b ∷ z)) (one_longer b z e)

words_if : (b : ℕ) (z : Text) (x : Bool) → is_word b ≡ x → list_all is_word (take (prefix_len is_word z) z) ≡ true →
    list_all is_word (take (prefix_len is_word (b ∷ z)) (b ∷ z)) ≡ true
words_if b z true e h = ap (list_all is_word) (run_is b z e) ∙ and_from (is_word b) _ e h
words_if b z false e h = ap (λ n. list_all is_word (take n (b ∷ z))) (none_there b z e)

-- the run at the front of a text has letters, digits and `_` only
run_words : (z : Text) → list_all is_word (take (prefix_len is_word z) z) ≡ true
run_words [] = refl
run_words (b ∷ z) = words_if b z (is_word b) refl (run_words z)

-- ---- tokens

-- what is read at the front of a text, with its length
abbrev IsFront : Text → Word × ℕ → Type 0
IsFront z p = IsWord p.0 (take p.1 z)

either : (z : Text) (c : Bool) (p q : Word × ℕ) → (c ≡ true → IsFront z p) → (c ≡ false → IsFront z q) → IsFront z (if c then p else q)
either z true p q f g = f refl
either z false p q f g = g refl

-- what a run is read as
run_word : (b : ℕ) (z : Text) → (b == 35) ≡ false → is_blank b ≡ false → is_word b ≡ true → IsFront (b ∷ z) (run (b ∷ z))
run_word b z e h l =
    let w = take (prefix_len is_word z) z in
    let r : run (b ∷ z) ≡ (if is_ascii_digit b then number (b ∷ w) else keyword (b ∷ w), prefix_len is_word (b ∷ z)) =
    run_by (b ∷ z) (prefix_len is_word (b ∷ z)) (b ∷ w) refl (run_is b z l) in
    subst (IsFront (b ∷ z)) (sym r)
    (subst (IsWord (if is_ascii_digit b then number (b ∷ w) else keyword (b ∷ w))) (sym (run_is b z l))
    (whole e h (λ g y gap. token_word b g w y l (run_words z) gap)))

-- a symbol of one byte
one : (b : ℕ) (z : Text) (kd : Kind) → (b == 35) ≡ false → is_blank b ≡ false →
    ((g : ℕ) (y : Text) → Gap g → token (b ∷ (g ∷ y)) ≡ (word kd, 1)) → IsFront (b ∷ z) (word kd, 1)
one b z kd e h f = whole e h f

alone : (pair one : Kind) (c b : ℕ) (z : Text) → Gap b → pair_or pair one (c ∷ b ∷ z) ≡ (word one, 1)
unfolding pair_or
alone pair one c _ z blank = rw (and_right (nat_lt 1 (length (c ∷ 32 ∷ z))) false refl) refl
alone pair one c _ z feed = rw (and_right (nat_lt 1 (length (c ∷ 10 ∷ z))) false refl) refl

both : (pair one : Kind) (c d : ℕ) (z : Text) → (d == 61) ≡ true → pair_or pair one (c ∷ d ∷ z) ≡ (word pair, 2)
unfolding pair_or
both pair one c d z h =
    let e : nat_lt 1 (length (c ∷ d ∷ z)) ≡ true = lt-ltb 1 (suc (suc (length z))) (omega arith) in
    rw (e, h) refl

-- what `=` or `!` begins, given that what begins with the byte is read so
pair_word : (b : ℕ) (z : Text) (pair one : Kind) → (b == 35) ≡ false → is_blank b ≡ false →
    ((y : Text) → token (b ∷ y) ≡ pair_or pair one (b ∷ y)) → IsFront (b ∷ z) (pair_or pair one (b ∷ z))
unfolding pair_or
pair_word b [] pair one e h f = whole e h (λ g y gap. f (g ∷ y) ∙ alone pair one b g y gap)
pair_word b (d ∷ z) pair one e h f =
    either (b ∷ d ∷ z) (nat_lt 1 (length (b ∷ d ∷ z)) && slice_index (b ∷ d ∷ z) 1 == 61) (word pair, 2) (word one, 1)
    (λ l. whole e h (λ g y gap. f (d ∷ (g ∷ y))
    ∙ both pair one b d (g ∷ y) (and_parts (nat_lt 1 (length (b ∷ d ∷ z))) (slice_index (b ∷ d ∷ z) 1 == 61) l).1))
    (λ _. whole e h (λ g y gap. f (g ∷ y) ∙ alone pair one b g y gap))

-- what is read at the front of a text is a token or a fault by itself
pub token_word_is : (b : ℕ) (z : Text) → (b == 35) ≡ false → is_blank b ≡ false → IsWord (token (b ∷ z)).0 (take (token (b ∷ z)).1 (b ∷ z))
unfolding token
token_word_is b z e h =
    either (b ∷ z) (b == 123) _ _ (λ a1. one b z k.OpenBrace e h (λ g y gap. rw a1 refl)) (λ a1.
    either (b ∷ z) (b == 125) _ _ (λ a2. one b z k.CloseBrace e h (λ g y gap. rw (a1, a2) refl)) (λ a2.
    either (b ∷ z) (b == 60) _ _ (λ a3. one b z k.Less e h (λ g y gap. rw (a1, a2, a3) refl)) (λ a3.
    either (b ∷ z) (b == 43) _ _ (λ a4. one b z k.Plus e h (λ g y gap. rw (a1, a2, a3, a4) refl)) (λ a4.
    either (b ∷ z) (b == 45) _ _ (λ a5. one b z k.Minus e h (λ g y gap. rw (a1, a2, a3, a4, a5) refl)) (λ a5.
    either (b ∷ z) (b == 61) _ _ (λ a6. pair_word b z k.Equal k.Assign e h (λ y. rw (a1, a2, a3, a4, a5, a6) refl)) (λ a6.
    either (b ∷ z) (b == 33) _ _ (λ a7. pair_word b z k.NotEqual k.Stray e h (λ y. rw (a1, a2, a3, a4, a5, a6, a7) refl)) (λ a7.
    either (b ∷ z) (is_word b) _ _ (λ a8. run_word b z e h a8)
    (λ a8. one b z k.Stray e h (λ g y gap. rw (a1, a2, a3, a4, a5, a6, a7, a8) refl)))))))))

-- Words with blanks behind them are read back one by one.
use Rattle.std.proofs.Common.{◌≡◌, ℕ, zero, suc, ◌+◌, ◌-◌, ◌≤◌, false, min, List, [], ◌∷◌, ◌++◌}
use Rattle.std.proofs.Common.{length, take, drop, refl, sym, ap, subst, ◌∙◌, arith, append_assoc}
use Rattle.std.proofs.Math.Seq.{take-append_seam, drop-append_seam}
use Rattle.std.proofs.lemmas.List.{length-append}
use Rattle.std.specs.Prelude.{◌==◌, slice_range}
use Rattle.flt_syntax.specs.Cursor.{Input, bytes_of}
use Rattle.flt_syntax.specs.Lex.{past, is_blank, is_fault, token, tokens_from, tokens}
use Rattle.flt_syntax.specs.Written.{Gap, blank, feed, piece, Written, done, gap, said, told, tell, Lexed, ReadsBackWords}
use Rattle.flt_syntax.specs.declared.token.Token.{Token}
use Rattle.flt_syntax.specs.declared.token.Word.{Word}
use Rattle.flt_tree.specs.Names.{Text}
use Rattle.flt_tree.specs.declared.filter.Position.{Position}

-- ---- one word

suc_less : (n : ℕ) → suc n - 1 ≡ n
suc_less n = omega arith

first : (c : ℕ) (w y : Text) (v : Word) (last : ℕ) (at : Position) (off : ℕ) → (c == 35) ≡ false → is_blank c ≡ false →
    token (c ∷ (w ++ y)) ≡ (v, suc (length w)) → is_fault v.kind ≡ false →
    tokens_from zero false last at off (c ∷ (w ++ y))
    ≡ record { word = v; position = past last at; start = off; end = off + suc (length w) }
    ∷ tokens_from (length w) false c (past last at) (off + 1) (w ++ y)
first c w y v last at off e1 e2 e3 e4 = rw (e1, e2, e3, e4, suc_less (length w)) refl

pub record Rest (w y : Text) (last : ℕ) (at : Position) (off : ℕ) : Type 0 where
  then_last : ℕ
  then_at : Position
  same : tokens_from (length w) false last at off (w ++ y) ≡ tokens_from zero false then_last then_at (off + length w) y

plus_none : (n : ℕ) → n + 0 ≡ n
plus_none n = omega arith

plus_more : (n m : ℕ) → n + 1 + m ≡ n + suc m
plus_more n m = omega arith

skip : (w y : Text) (last : ℕ) (at : Position) (off : ℕ) → Rest w y last at off
skip [] y last at off =
    record { then_last = last; then_at = at; same = ap (λ n. tokens_from zero false last at n y) (sym (plus_none off)) }
skip (c ∷ w) y last at off =
    let r = skip w y c (past last at) (off + 1) in
    record {
      then_last = r.then_last;
      then_at = r.then_at;
      same = r.same ∙ ap (λ n. tokens_from zero false r.then_last r.then_at n y) (plus_more off (length w));
    }

min_left : (a b : ℕ) → a ≤ b → min a b ≡ a
min_left a b h = omega arith

within : (pre w y : Text) → length pre + length w ≤ length (pre ++ (w ++ y))
within pre w y = omega (arith, length-append pre (w ++ y), length-append w y)

less_pre : (a b : ℕ) → a + b - a ≡ b
less_pre a b = omega arith

before_end : (a b : ℕ) → min a (a + b) ≡ a
before_end a b = omega arith

cut : (pre w y : Text) → slice_range (pre ++ (w ++ y)) (length pre) (length pre + length w) ≡ w
cut pre w y =
    ap (λ n. take n (drop (length pre) (pre ++ (w ++ y)))) (less_pre (length pre) (length w))
    ∙ ap (take (length w)) (drop-append_seam pre (w ++ y)) ∙ take-append_seam w y

-- the bytes of a word that stands behind others
pub bytes : (text pre w y : Text) (t : Token) → text ≡ pre ++ (w ++ y) → t.start ≡ length pre → t.end ≡ length pre + length w →
    bytes_of text t ≡ w
bytes text pre w y t e s n =
    rw (s, n, e, min_left _ _ (within pre w y), before_end (length pre) (length w)) (cut pre w y)

-- ---- a whole text

-- one byte more lies behind the front of a text
pub one_on : (pre : Text) (b off : ℕ) → off ≡ length pre → off + 1 ≡ length (pre ++ b ∷ [])
one_on pre b off e = omega (arith, length-append pre (b ∷ []))

some_on : (pre w : Text) (b off : ℕ) → off ≡ length pre → off + length w + 1 ≡ length (pre ++ (w ++ b ∷ []))
some_on pre w b off e = omega (arith, length-append pre (w ++ b ∷ []), length-append w (b ∷ []))

gap_read : (b : ℕ) (z : Text) (last : ℕ) (at : Position) (off : ℕ) → Gap b →
    tokens_from zero false last at off (b ∷ z) ≡ tokens_from zero false b (past last at) (off + 1) z
gap_read _ z last at off blank = refl
gap_read _ z last at off feed = refl

along : (text : Text) (ws : List Text) (vs : List Word) (i j : Input) → i ≡ j → Lexed text ws vs j → Lexed text ws vs i
along text ws vs i j e r = subst (Lexed text ws vs) (sym e) r

-- one byte of a gap belongs to the front of the text
pub lexed_gap : (text pre z : Text) (b : ℕ) → text ≡ pre ++ b ∷ z → text ≡ (pre ++ b ∷ []) ++ z
lexed_gap text pre z b e = e ∙ sym (append_assoc pre (b ∷ []) z)

lexed_word : (text pre w z : Text) (b : ℕ) → text ≡ pre ++ (w ++ b ∷ z) → text ≡ (pre ++ (w ++ b ∷ [])) ++ z
lexed_word text pre w z b e = e ∙ simp append_assoc

one_more : {text : Text} {ws : List Text} {vs : List Word} {i : Input} (w : Text) (v : Word) (t : Token) → t.word ≡ v →
    bytes_of text t ≡ w →
    Lexed text ws vs i → Lexed text (w ∷ ws) (v ∷ vs) (t ∷ i)
one_more w v t e h r = record { rest = r.rest; ends = r.ends; tells = tell e h r.tells }

lexes : (text pre z : Text) (ws : List Text) (vs : List Word) → Written ws vs z → text ≡ pre ++ z →
    (last : ℕ) (at : Position) (off : ℕ) → off ≡ length pre →
    Lexed text ws vs (tokens_from zero false last at off z)
lexes text pre _ _ _ done e last at off h = record { rest = _; ends = refl; tells = told }
lexes text pre _ ws vs (gap {b} {z = z} g r) e last at off h =
    along text ws vs _ _ (gap_read b z last at off g)
    (lexes text (pre ++ b ∷ []) z ws vs r (lexed_gap text pre z b e) b (past last at) (off + 1) (one_on pre b off h))
lexes text pre _ _ _ (said {b = b} {ws} {vs} {z} (piece {c} {w} {v} e1 e2 e3 e4) g r) e last at off h =
    let s = skip w (b ∷ z) c (past last at) (off + 1) in
    let t : Token = record { word = v; position = past last at; start = off; end = off + suc (length w) } in
    along text ((c ∷ w) ∷ ws) (v ∷ vs) _ _
    (first c w (b ∷ z) v last at off e1 e2 (e3 b z g) e4
    ∙ ap (λ i. t ∷ i) (s.same ∙ gap_read b z s.then_last s.then_at (off + 1 + length w) g))
    (one_more (c ∷ w) v t refl (bytes text pre (c ∷ w) (b ∷ z) t e h (ap (λ n. n + suc (length w)) h))
    (lexes text (pre ++ ((c ∷ w) ++ b ∷ [])) z ws vs r (lexed_word text pre (c ∷ w) z b e) b (past s.then_last s.then_at)
    (off + 1 + length w + 1)
    (ap (λ n. n + 1) (plus_more off (length w)) ∙ some_on pre (c ∷ w) b off h)))

-- words with gaps behind them are read back one by one
pub reads_back : ReadsBackWords
unfolding tokens
reads_back text ws vs w = lexes text [] text ws vs w refl 0 (record { line = 1; column = 0 }) 0 refl

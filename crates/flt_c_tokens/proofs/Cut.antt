-- What the loop over a file keeps: the tokens found so far, and those of the rest, are the tokens of the file.
use Rattle.std.proofs.Common.{◌≡◌, ℕ, suc, ◌+◌, ◌-◌, ◌≤◌, ◌<◌, ◌^◌, Bool, true, false}
use Rattle.std.proofs.Common.{List, [], ◌∷◌, ◌++◌, length, take, drop, get_or, map}
use Rattle.std.proofs.Common.{refl, sym, ap, subst, ◌∙◌, arith, append_assoc}
use Rattle.std.proofs.lemmas.Grind.{common_steps}
use Rattle.std.proofs.lemmas.List.{append-nil}
use Rattle.std.specs.Prelude.{◌==◌, nat_lt, if◌then◌else◌, Some}
use Rattle.flt_c_tokens.specs.Bytes.{Text}
use Rattle.flt_c_tokens.specs.Fronts.{front}
use Rattle.flt_c_tokens.specs.Spelled.{IsNumbered, Knows, has_text, number_of, with_text}
use Rattle.flt_c_tokens.specs.Tokens.{Adds, AreTokens, IsExcess, IsFull, Lexeme, behind, first, kind_by_number, lexeme}
use Rattle.flt_c_tokens.specs.Tokens.{lexemes, lexemes_at_end, lexemes_from, lexemes_of, line_end, line_end_at}
use Rattle.flt_c_tokens.specs.Tokens.{max_file, numbered, numbered_on, past, spelled_kind, token_at}
use Rattle.flt_c_tokens.specs.Tokens.{tokens, tokens_at_end, with_texts, word_here}
use Rattle.flt_c_tokens.specs.Vocabulary.{kind_at, known_words, word_kind}
use Rattle.flt_c_tokens.specs.declared.piece.Part.{Part}
use Rattle.flt_c_tokens.specs.declared.piece.Part.TheVariants.{Blank, Feed, Sign, Word}
use Rattle.flt_c_tokens.specs.declared.piece.Piece.{Piece}
use Rattle.flt_c_tokens.specs.declared.reading.Reading.{Reading}
use Rattle.flt_c_tokens.specs.declared.token.Kind.{Kind}
use Rattle.flt_c_tokens.specs.declared.token.Kind.TheVariants as k
use Rattle.flt_c_tokens.specs.declared.token.Token.{Token}
use Rattle.flt_c_tokens.specs.declared.lexer.Excess.{Excess}
use Rattle.flt_c_tokens.specs.declared.lexer.Excess.TheVariants.{LargeFile, TooManySpellings}
use Rattle.flt_c_tokens.proofs.Spelling.{GoesOn, first_part, knows_more, numbered_at_last, numbers_of_more, texts_go_on, texts_of_more}

-- ---- what has no spelling

-- the empty text is its first
pub no_text : (known : List Text) → Knows known → with_text known [] ≡ known
unfolding with_text known_words
no_text known r = rw r.parts refl

pub no_number : (known : List Text) → Knows known → number_of known [] ≡ 0
unfolding number_of known_words
no_number known r = rw r.parts refl

-- ---- one token more

pub nothing_adds : (known next : List Text) (ts us : List Token) → next ≡ known → us ≡ ts → Adds known next [] ts us
nothing_adds known next ts us e h = (e, h ∙ sym (append-nil ts))

-- a sign has the number of the empty text
numbered_sign : (known : List Text) (at : Reading) (kind : Kind) → Knows known → numbered known (lexeme at kind []) ≡ token_at at kind 0
numbered_sign known at kind r = ap (token_at at kind) (no_number known r)

pub sign_adds : (known next : List Text) (ts us : List Token) (at : Reading) (kind : Kind) → Knows known → next ≡ known →
    us ≡ ts ++ token_at at kind 0 ∷ [] → Adds known next (lexeme at kind [] ∷ []) ts us
sign_adds known next ts us at kind r e h = (
  e ∙ sym (no_text known r),
  h ∙ ap (λ t. ts ++ t ∷ [])
      (sym (ap (λ n. numbered n (lexeme at kind [])) (no_text known r) ∙ numbered_sign known at kind r)),
)

-- a line feed
pub feed_adds : (known next : List Text) (ts us : List Token) (at : Reading) → Knows known → next ≡ known → us ≡ ts ++ line_end_at at →
    Adds known next (line_end at) ts us
feed_adds known next ts us at r e h = by at.in_directive h
  where
    by : (b : Bool) → us ≡ ts ++ (if b then token_at at k.LineEnd 0 ∷ [] else []) →
        Adds known next (if b then lexeme at k.LineEnd [] ∷ [] else []) ts us
    by true q = sign_adds known next ts us at k.LineEnd r e q
    by false q = (e, q)

-- a piece, by its part
pub part_adds : (known next : List Text) (ts us : List Token) (at : Reading) (piece : Piece) (part : Part) (z : Text) → piece.part ≡ part →
    Adds known next (lexemes_of at part (take piece.length z)) ts us → Adds known next (lexemes at piece z) ts us
unfolding lexemes
part_adds known next ts us at piece part z e a = subst (λ p. Adds known next (lexemes_of at p (take piece.length z)) ts us) (sym e) a

pub word_piece : (at : Reading) (piece : Piece) (kind : Kind) (z : Text) → piece.part ≡ Word kind →
    word_here at kind (take piece.length z) ≡ lexemes at piece z
unfolding lexemes
word_piece at piece kind z e = ap (λ p. lexemes_of at p (take piece.length z)) (sym e)

-- a word's number tells its kind
same_kind_by : (kind : Kind) (n : ℕ) (w : Text) → kind_at n ≡ word_kind w → kind_by_number kind n ≡ spelled_kind kind w
same_kind_by k.Name n w e = e
same_kind_by _ n w e = refl

pub word_adds : (known next : List Text) (ts us : List Token) (at : Reading) (kind : Kind) (w : Text) (n : ℕ) →
    IsNumbered known w (Some n) next → us ≡ ts ++ token_at at (kind_by_number kind n) n ∷ [] →
    Adds known next (lexeme at (spelled_kind kind w) w ∷ []) ts us
word_adds known next ts us at kind w n i h = (
  i.0,
  h ∙ ap (λ q. ts ++ token_at at q n ∷ []) (same_kind_by kind n w i.2)
      ∙ ap (λ m. ts ++ token_at at (spelled_kind kind w) m ∷ []) (i.1 ∙ ap (λ t. number_of t w) i.0),
)

-- the tokens at the end of a file
end_adds : (known : List Text) (at : Reading) → Knows known →
    (with_texts known (lexemes_at_end at) ≡ known) × (numbered_on known (lexemes_at_end at) ≡ tokens_at_end at)
end_adds known at r = by at.in_directive
  where
    end_here : (x : List Text) → x ≡ known → numbered_on x (lexeme at k.End [] ∷ []) ≡ token_at at k.End 0 ∷ []
    end_here x e =
        ap (λ (n : List Text). numbered_on n (lexeme at k.End [] ∷ [])) e
        ∙ ap (λ n. numbered n (lexeme at k.End []) ∷ []) (no_text known r) ∙ ap (λ t. t ∷ []) (numbered_sign known at k.End r)

    by : (b : Bool) → (with_texts known ((if b then lexeme at k.LineEnd [] ∷ [] else []) ++ lexeme at k.End [] ∷ []) ≡ known)
        × (numbered_on known ((if b then lexeme at k.LineEnd [] ∷ [] else []) ++ lexeme at k.End [] ∷ [])
        ≡ (if b then token_at at k.LineEnd 0 ∷ [] else []) ++ token_at at k.End 0 ∷ [])
    by true = (
      ap (λ n. with_text n []) (no_text known r) ∙ no_text known r,
      ap (λ t. t ∷ numbered_on (with_text known []) (lexeme at k.End [] ∷ []))
          (ap (λ n. numbered n (lexeme at k.LineEnd [])) (no_text known r) ∙ numbered_sign known at k.LineEnd r)
          ∙ ap (λ ts. token_at at k.LineEnd 0 ∷ ts) (end_here (with_text known []) (no_text known r)),
    )
    by false = (no_text known r, end_here known refl)

-- ---- the loop

-- reading has come here: the table and the tokens so far are those of the tokens before, and the others are still to come
pub record IsCut (file : Text) (old known : List Text) (found : List Token) (at : Reading) (rest : Text) : Type 0 where
  pub before : List Lexeme
  pub parts : tokens file ≡ before ++ lexemes_from at rest
  pub met : known ≡ with_texts old before
  pub numbers : found ≡ numbered_on old before
  pub words : Knows known
  pub start : at.start + length rest ≡ length file
  pub line : at.line ≤ at.start + 1
  pub column : at.column ≤ at.start + 1

pub begin_cut : (file : Text) (old : List Text) (found : List Token) (at : Reading) → Knows old → found ≡ [] → at ≡ first →
    IsCut file old old found at file
unfolding tokens first
begin_cut file old found at r e h =
    record {
      before = [];
      parts = ap (λ a. lexemes_from a file) (sym h);
      met = refl;
      numbers = e;
      words = r;
      start = rw h (omega arith);
      line = rw h (omega arith);
      column = rw h (omega arith);
    }

-- a table that reading left goes on from the one that it began with
pub still_there : (file rest : Text) (old known next : List Text) (found : List Token) (at : Reading) → IsCut file old known found at rest →
    next ≡ known → take (length old) next ≡ old
still_there file rest old known next found at c e =
    ap (take (length old)) e ∙ first_part old known (subst (GoesOn old) (sym c.met) (texts_go_on old c.before))

-- the places after a byte
past_start : (b : ℕ) (at : Reading) → (past b at).start ≡ at.start + 1
unfolding past
past_start b at = refl

past_line : (b : ℕ) (at : Reading) → at.line ≤ at.start + 1 → (past b at).line ≤ (past b at).start + 1
unfolding past
past_line b at h = by (b == 10)
  where
    by : (x : Bool) → (if x then at.line + 1 else at.line) ≤ at.start + 1 + 1
    by true = omega arith
    by false = omega arith

past_column : (b : ℕ) (at : Reading) → at.column ≤ at.start + 1 → (past b at).column ≤ (past b at).start + 1
unfolding past
past_column b at h = by (b == 10)
  where
    by : (x : Bool) → (if x then 1 else at.column + 1) ≤ at.start + 1 + 1
    by true = omega arith
    by false = omega arith

-- what a slice has behind its first byte
all_of : (z : Text) → take (length z) z ≡ z
all_of [] = refl
all_of (b ∷ z) = ap (λ t. b ∷ t) (all_of z)

behind_first : (b : ℕ) (z : Text) → take (length (b ∷ z) - 1) (drop 1 (b ∷ z)) ≡ z
behind_first b z = let e : suc (length z) - 1 ≡ length z = omega arith in ap (λ n. take n z) e ∙ all_of z

-- one byte more of a piece
skipped : (file z : Text) (b : ℕ) (old known : List Text) (found : List Token) (at : Reading) → IsCut file old known found at (b ∷ z) →
    0 < at.left → IsCut file old known found (past b at) z
skipped file z b old known found at c left =
    let e : nat_lt 0 at.left ≡ true = grind (arith, common_steps) in
    let same : lexemes_from at (b ∷ z) ≡ lexemes_from (past b at) z = rw e refl in
    record {
      before = c.before;
      parts = c.parts ∙ ap (λ xs. c.before ++ xs) same;
      met = c.met;
      numbers = c.numbers;
      words = c.words;
      start = let h = past_start b at in omega (arith, c.start);
      line = past_line b at c.line;
      column = past_column b at c.column;
    }

pub skip_step : (file rest : Text) (old known : List Text) (found : List Token) (at next : Reading) → IsCut file old known found at rest →
    0 < at.left → 1 ≤ length rest → next ≡ past (get_or rest 0 0) at →
    IsCut file old known found next (take (length rest - 1) (drop 1 rest))
skip_step file [] old known found at next c left some e = absurd (omega arith)
skip_step file (b ∷ z) old known found at next c left some e =
    subst (IsCut file old known found next) (sym (behind_first b z))
    (subst (λ a. IsCut file old known found a z) (sym e) (skipped file z b old known found at c left))

-- a piece keeps the place
behind_places : (at : Reading) (part : Part) (n : ℕ) →
    let next = behind at (record { part = part; length = n }) in
    (next.start ≡ at.start) × (next.line ≡ at.line) × (next.column ≡ at.column)
unfolding behind
behind_places at Blank n = (refl, refl, refl)
behind_places at Feed n = (refl, refl, refl)
behind_places at (Sign kind) n = (refl, refl, refl)
behind_places at (Word kind) n = (refl, refl, refl)

-- a piece that begins here, and its first byte
pieced : (file z : Text) (b : ℕ) (old known next : List Text) (found more : List Token) (at : Reading) (piece : Piece) →
    IsCut file old known found at (b ∷ z) → at.left ≡ 0 → piece ≡ front at.is_glued at.last (b ∷ z) →
    Adds known next (lexemes at piece (b ∷ z)) found more → IsCut file old next more (past b (behind at piece)) z
pieced file z b old known next found more at piece c left p a =
    let e : nat_lt 0 at.left ≡ false = rw left refl in
    let xs = lexemes at piece (b ∷ z) in
    let q = behind_places at piece.part piece.length in
    let same : lexemes_from at (b ∷ z) ≡ xs ++ lexemes_from (past b (behind at piece)) z =
    rw e (ap (λ w. lexemes at w (b ∷ z) ++ lexemes_from (past b (behind at w)) z) (sym p)) in
    record {
      before = c.before ++ xs;
      parts =
          c.parts ∙ ap (λ ys. c.before ++ ys) same
          ∙ sym (append_assoc c.before xs (lexemes_from (past b (behind at piece)) z));
      met = a.0 ∙ ap (λ ts. with_texts ts xs) c.met ∙ sym (texts_of_more old c.before xs);
      numbers =
          a.1 ∙ ap (λ ts. ts ++ numbered_on known xs) c.numbers
          ∙ ap (λ ts. numbered_on old c.before ++ numbered_on ts xs) c.met ∙ sym (numbers_of_more old c.before xs);
      words = knows_more c.words (subst (GoesOn known) (sym a.0) (texts_go_on known xs));
      start = let h = past_start b (behind at piece) in omega (arith, c.start, q.0);
      line = past_line b (behind at piece) (omega (arith, c.line, q.0, q.1));
      column = past_column b (behind at piece) (omega (arith, c.column, q.0, q.2));
    }

pub piece_step : (file rest : Text) (old known next : List Text) (found more : List Token) (at after now : Reading) (piece : Piece) →
    IsCut file old known found at rest → at.left ≤ 0 → 1 ≤ length rest → piece ≡ front at.is_glued at.last rest →
    Adds known next (lexemes at piece rest) found more → after ≡ behind at piece → now ≡ past (get_or rest 0 0) after →
    IsCut file old next more now (take (length rest - 1) (drop 1 rest))
piece_step file [] old known next found more at after now piece c left some p a e h = absurd (omega arith)
piece_step file (b ∷ z) old known next found more at after now piece c left some p a e h =
    let none : at.left ≡ 0 = omega arith in
    subst (IsCut file old next more now) (sym (behind_first b z))
    (subst (λ r. IsCut file old next more r z) (sym (h ∙ ap (past b) e)) (pieced file z b old known next found more at piece c none p a))

-- the places after a piece are within a file
pub fits_after : (file rest : Text) (old known : List Text) (found : List Token) (at after : Reading) (piece : Piece) →
    IsCut file old known found at rest → length file ≤ max_file → after ≡ behind at piece →
    (after.start < 2 ^ 31) × (after.line < 2 ^ 31) × (after.column < 2 ^ 31)
fits_after file rest old known found at after piece c small e =
    let q = behind_places at piece.part piece.length in
    rw e (omega (arith, c.start, q.0), omega (arith, c.start, c.line, q.1), omega (arith, c.start, c.column, q.2))

-- the table is full at a word
full_here : (file : Text) (old known : List Text) (before xs rest : List Lexeme) (excess : Excess) → tokens file ≡ before ++ (xs ++ rest) →
    known ≡ with_texts old before → length file ≤ max_file → IsFull known xs excess → IsExcess old file excess
full_here file old known before [] rest excess e m small f = absurd f
full_here file old known before (x ∷ xs) rest LargeFile e m small f = absurd f
full_here file old known before (x ∷ xs) rest (TooManySpellings line column) e m small f = (
  small,
  record {
    before = before;
    word = x;
    after = xs ++ rest;
    parts = e;
    full = ap length (sym m) ∙ f.0;
    unknown = ap (λ ts. has_text ts x.text) (sym m) ∙ f.1;
    same_line = f.2;
    same_column = f.3;
  },
)

pub full_at : (file rest : Text) (old known : List Text) (found : List Token) (at : Reading) (piece : Piece) (excess : Excess) →
    IsCut file old known found at rest → at.left ≤ 0 → 1 ≤ length rest → piece ≡ front at.is_glued at.last rest →
    length file ≤ max_file → IsFull known (lexemes at piece rest) excess → IsExcess old file excess
full_at file [] old known found at piece excess c left some p small f = absurd (omega arith)
full_at file (b ∷ z) old known found at piece excess c left some p small f =
    let none : at.left ≡ 0 = omega arith in
    let e : nat_lt 0 at.left ≡ false = rw none refl in
    let xs = lexemes at piece (b ∷ z) in
    let same : lexemes_from at (b ∷ z) ≡ xs ++ lexemes_from (past b (behind at piece)) z =
    rw e (ap (λ w. lexemes at w (b ∷ z) ++ lexemes_from (past b (behind at w)) z) (sym p)) in
    full_here file old known c.before xs (lexemes_from (past b (behind at piece)) z) excess
    (c.parts ∙ ap (λ ys. c.before ++ ys) same) c.met small f

-- the end of the file
pub end_cut : (file rest : Text) (old known : List Text) (found more : List Token) (at : Reading) → IsCut file old known found at rest →
    length rest < 1 → more ≡ found ++ tokens_at_end at → AreTokens old known file more
end_cut file (b ∷ z) old known found more at c none h = absurd (omega arith)
end_cut file [] old known found more at c none h =
    let xs = lexemes_at_end at in
    let ends = end_adds known at c.words in
    let spelled : known ≡ with_texts old (tokens file) =
    sym ends.0 ∙ ap (λ ts. with_texts ts xs) c.met ∙ sym (texts_of_more old c.before xs) ∙ ap (with_texts old) (sym c.parts) in
    record {
      spelled = spelled;
      read =
          h ∙ ap (λ ts. found ++ ts) (sym ends.1) ∙ ap (λ ts. ts ++ numbered_on known xs) c.numbers
          ∙ ap (λ ts. numbered_on old c.before ++ numbered_on ts xs) c.met ∙ sym (numbers_of_more old c.before xs)
          ∙ ap (numbered_on old) (sym c.parts) ∙ numbered_at_last old (tokens file)
          ∙ ap (λ ts. map (numbered ts) (tokens file)) (sym spelled);
    }

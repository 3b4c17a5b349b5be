-- Texts of words with blanks or line feeds between them, and the law that they are read back word by word.
use Rattle.std.specs.Prelude.{◌≡◌, ◌==◌, ℕ, suc, false, List, [], ◌∷◌, ◌++◌, length}
use Rattle.flt_syntax.specs.Cursor.{Input, kind, bytes_of}
use Rattle.flt_syntax.specs.Lex.{is_blank, is_fault, token, tokens}
use Rattle.flt_syntax.specs.declared.token.Kind.TheVariants as k
use Rattle.flt_syntax.specs.declared.token.Token.{Token}
use Rattle.flt_syntax.specs.declared.token.Word.{Word}
use Rattle.flt_tree.specs.Names.{Text}

-- what may stand behind a word
pub data Gap : ℕ → Type 0 where
  blank : Gap 32
  feed : Gap 10

-- a text that is read as one word, where a blank or line feed follows
pub data Piece : Text → Word → Type 0 where
  piece : {c : ℕ} {w : Text} {v : Word} → (c == 35) ≡ false → is_blank c ≡ false →
      ((b : ℕ) (z : Text) → Gap b → token (c ∷ (w ++ b ∷ z)) ≡ (v, suc (length w))) → is_fault v.kind ≡ false → Piece (c ∷ w) v

-- texts, each of which is read as the word at its place
pub data Pieces : List Text → List Word → Type 0 where
  none : Pieces [] []
  more : {w : Text} {v : Word} {ws : List Text} {vs : List Word} → Piece w v → Pieces ws vs → Pieces (w ∷ ws) (v ∷ vs)

-- a text that consists of pieces, with blanks and line feeds between them
pub data Written : List Text → List Word → Text → Type 0 where
  done : Written [] [] []
  gap : {b : ℕ} {ws : List Text} {vs : List Word} {z : Text} → Gap b → Written ws vs z → Written ws vs (b ∷ z)
  said : {w : Text} {v : Word} {b : ℕ} {ws : List Text} {vs : List Word} {z : Text} →
      Piece w v → Gap b → Written ws vs z → Written (w ∷ ws) (v ∷ vs) (w ++ b ∷ z)

-- the tokens of i up to o are the pieces
pub data Tells (text : Text) : List Text → List Word → Input → Input → Type 0 where
  told : {i : Input} → Tells text [] [] i i
  tell : {w : Text} {v : Word} {ws : List Text} {vs : List Word} {t : Token} {i o : Input} →
      t.word ≡ v → bytes_of text t ≡ w → Tells text ws vs i o → Tells text (w ∷ ws) (v ∷ vs) (t ∷ i) o

-- the tokens are the pieces, and then the end
pub record Lexed (text : Text) (ws : List Text) (vs : List Word) (i : Input) : Type 0 where
  pub rest : Input
  pub ends : kind rest ≡ k.End
  pub tells : Tells text ws vs i rest

-- a text that consists of pieces has their tokens
abbrev pub ReadsBackWords : Type 0
ReadsBackWords = (text : Text) (ws : List Text) (vs : List Word) → Written ws vs text → Lexed text ws vs (tokens text)

-- The grammar of single tokens. A relation `X i x o` says that the tokens of i, up to where o goes on, spell x.
use Rattle.std.specs.Prelude.{◌≡◌, ℕ, true, ◌∷◌, Option, Some, None}
use Rattle.flt_syntax.specs.Cursor.{Input, is_word, bytes_of}
use Rattle.flt_tree.specs.Names.{Text}
use Rattle.flt_syntax.specs.Tables.{context_variable_of}
use Rattle.flt_syntax.specs.declared.token.Kind.{Kind}
use Rattle.flt_syntax.specs.declared.token.Kind.TheVariants as k
use Rattle.flt_syntax.specs.declared.token.Token.{Token}
use Rattle.flt_tree.specs.declared.variable.ContextVariable.{ContextVariable}

-- a token of the kind
pub data Next : Kind → Input → Input → Type 0 where
  next : {kind : Kind} {t : Token} {o : Input} → t.word.kind ≡ kind → Next kind (t ∷ o) o

-- a token that a table of words gives a meaning
pub data Meant {A : Type 0} (table : Kind → Option A) : Input → A → Input → Type 0 where
  meant : {t : Token} {o : Input} {a : A} → table t.word.kind ≡ Some a → Meant table (t ∷ o) a o

-- NAME, which any word is: its bytes in the text
pub data NameAt (text : Text) : Input → Text → Input → Type 0 where
  name : {t : Token} {o : Input} → is_word t.word.kind ≡ true → NameAt text (t ∷ o) (bytes_of text t) o

-- NUMBER: its value
pub data NumberAt : Input → ℕ → Input → Type 0 where
  number : {t : Token} {o : Input} → t.word.kind ≡ k.Number → NumberAt (t ∷ o) t.word.value o

-- C
abbrev pub ContextAt : Input → ContextVariable → Input → Type 0
ContextAt = Meant context_variable_of

-- nothing, or a word and C
pub data OptionalAt (word : Kind) : Input → Option ContextVariable → Input → Type 0 where
  without : {i : Input} → OptionalAt word i None i
  behind : {i j o : Input} {c : ContextVariable} → Next word i j → ContextAt j c o → OptionalAt word i (Some c) o

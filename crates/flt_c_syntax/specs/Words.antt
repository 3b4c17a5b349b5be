-- Tokens of a kind, as the grammar has them.
use Rattle.std.specs.Prelude.{◌≡◌, ℕ, ◌∷◌, Option, Some}
use Rattle.flt_c_tokens.specs.declared.token.Kind.{Kind}
use Rattle.flt_c_tokens.specs.declared.token.Token.{Token}
use Rattle.flt_c_syntax.specs.Tokens.{Input}

-- a token of the kind
pub data Next : Kind → Input → Input → Type 0 where
  next : {kind : Kind} {t : Token} {o : Input} → t.kind ≡ kind → Next kind (t ∷ o) o

-- a token of the kind, with its word
pub data WordAt : Kind → Input → ℕ → Input → Type 0 where
  word : {kind : Kind} {t : Token} {o : Input} → t.kind ≡ kind → WordAt kind (t ∷ o) t.word o

-- a token that stands for a value
pub data Meant {A : Type 0} (table : Kind → Option A) : Input → A → Input → Type 0 where
  meant : {t : Token} {o : Input} {a : A} → table t.kind ≡ Some a → Meant table (t ∷ o) a o

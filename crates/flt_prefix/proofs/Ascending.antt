-- Tokens stand one behind the other.
use Rattle.std.proofs.Common.{inl, inr, ℕ, zero, suc, ◌+◌, ◌-◌, Bool, true, false, not, [], ◌∷◌, refl, ◌∙◌, arith}
use Rattle.std.specs.Prelude.{if◌then◌else◌, ◌==◌}
use Rattle.flt_syntax.specs.Cursor.{Input}
use Rattle.flt_syntax.specs.Lex.{past, one_column_on, is_blank, is_fault, token, tokens_from, tokens}
use Rattle.flt_syntax.specs.declared.token.Token.{Token}
use Rattle.flt_tree.specs.Names.{Text}
use Rattle.flt_tree.specs.declared.filter.Position.{Position}
use Rattle.flt_prefix.specs.Shown.{IsBefore}

-- a place before those of all tokens
abbrev pub AllBehind : Position → Input → Type 0
AllBehind at [] = Unit {0}
AllBehind at (t ∷ i) = IsBefore at t.position × AllBehind at i

-- each token stands before those that follow it
abbrev pub Ascend : Input → Type 0
Ascend [] = Unit {0}
Ascend (t ∷ i) = AllBehind t.position i × Ascend i

before_again : (a b c : Position) → IsBefore a b → IsBefore b c → IsBefore a c
before_again a b c (inl h) (inl l) = inl (omega (arith, h, l))
before_again a b c (inl h) (inr l) = let e = l.0 in inl (omega (arith, h, e))
before_again a b c (inr h) (inl l) = let e = h.0 in inl (omega (arith, e, l))
before_again a b c (inr h) (inr l) = let x = h.1 in let y = l.1 in inr (h.0 ∙ l.0, omega (arith, x, y))

past_by : (at : Position) (b : Bool) →
    IsBefore at (if b then record { line = at.line + 1; column = 1 } else record { line = at.line; column = at.column + 1 })
past_by at true = inl (omega arith)
past_by at false = inr (refl, omega arith)

before_past : (b : ℕ) (at : Position) → IsBefore at (past b at)
before_past b at = past_by at (b == 10)

before_end : (at : Position) → IsBefore at (one_column_on at)
before_end at = inr (refl, omega arith)

-- tokens that stand behind a place, in order
abbrev Good : Position → Input → Type 0
Good at i = AllBehind at i × Ascend i

all_behind : (a b : Position) (i : Input) → IsBefore a b → AllBehind b i → AllBehind a i
all_behind a b [] h all = tt
all_behind a b (t ∷ i) h all = (before_again a b t.position h all.0, all_behind a b i h all.1)

behind_too : (a b : Position) (i : Input) → IsBefore a b → Good b i → Good a i
behind_too a b i h g = (all_behind a b i h g.0, g.1)

one_token : (at : Position) (t : Token) (i : Input) → IsBefore at t.position → Good t.position i → Good at (t ∷ i)
one_token at t i h g = ((h, all_behind at t.position i h g.0), (g.0, g.1))

either_way : (at : Position) (i j : Input) (b : Bool) → Good at i → Good at j → Good at (if b then i else j)
either_way at i j true g h = g
either_way at i j false g h = h

from_here : (left : ℕ) (comment : Bool) (last : ℕ) (at : Position) (offset : ℕ) (z : Text) →
    Good at (tokens_from left comment last at offset z)
from_here left comment last at offset [] = ((before_end at, tt), (tt, tt))
from_here (suc left) comment last at offset (b ∷ z) =
    behind_too at (past last at) _ (before_past last at) (from_here left comment b (past last at) (offset + 1) z)
from_here zero true last at offset (b ∷ z) =
    behind_too at (past last at) _ (before_past last at) (from_here zero (not (b == 10)) b (past last at) (offset + 1) z)
from_here zero false last at offset (b ∷ z) =
    either_way at _ _ (b == 35)
    (behind_too at (past last at) _ (before_past last at) (from_here zero true b (past last at) (offset + 1) z))
    (either_way at _ _ (is_blank b)
    (behind_too at (past last at) _ (before_past last at) (from_here zero false b (past last at) (offset + 1) z))
    (let t = token (b ∷ z) in
    one_token at (record { word = t.0; position = past last at; start = offset; end = offset + t.1 }) _ (before_past last at)
    (either_way (past last at) [] _ (is_fault t.0.kind) (tt, tt) (from_here (t.1 - 1) false b (past last at) (offset + 1) z))))

-- the tokens of a text
pub ascends : (text : Text) → Ascend (tokens text)
unfolding tokens
ascends text = (from_here zero false 0 (record { line = 1; column = 0 }) 0 text).1

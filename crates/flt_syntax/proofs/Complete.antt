-- What is spelled is read: tokens.
use Rattle.std.proofs.Common.{◌≡◌, ℕ, ◌≤◌, ◌<◌, Bool, true, false, ◌∷◌, length, Ok, refl, sym, ap, ◌∙◌, rules, arith}
use Rattle.std.specs.Prelude.{Option, Some, None, is_some, ◌&&◌, ◌||◌}
use Rattle.std.proofs.lemmas.Bool.{le-leb}
use denote.Enum.Bare.{true_same, false_same}
use Rattle.flt_syntax.specs.contracts.token.Kind.{the_type}
use Rattle.flt_syntax.specs.declared.token.Kind.{Kind}
use Rattle.flt_syntax.specs.declared.token.Kind.TheVariants as k
use Rattle.flt_syntax.specs.declared.token.Token.{Token}
use Rattle.flt_syntax.specs.declared.fault.SyntaxFault.{SyntaxFault}
use Rattle.flt_tree.specs.declared.variable.ContextVariable.{ContextVariable}
use Rattle.flt_tree.specs.Names.{Text}
use Rattle.flt_syntax.specs.Lex.{same_kind}
use Rattle.flt_syntax.specs.Words as words
use Rattle.flt_syntax.specs.Words.{Next, Meant, NameAt, NumberAt, ContextAt, OptionalAt}
use Rattle.flt_syntax.specs.Operand.{context_variable, context_variable_of, number_variable_of, removed_variable_of}
use Rattle.flt_syntax.specs.Scope.{spelled}
use Rattle.flt_syntax.specs.Cursor.{Input, Outcome, and_then, kind, next, unknown, sees, eat, expect, name, number_within, known_or}
use Rattle.flt_syntax.proofs.TokenKinds.{differ}

-- reading two parts, where the first is read
pub then_again : {A B : Type 0} {o : Outcome A} {x : A × Input} {r : Outcome B} (f : A × Input → Outcome B) → o ≡ Ok x → f x ≡ r →
    and_then o f ≡ r
then_again f e h = ap (λ o. and_then o f) e ∙ h

-- ---- tokens

-- the kind of a token
pub kind_is : {kd : Kind} {i o : Input} → Next kd i o → kind i ≡ kd
kind_is (words.next e) = e

-- what is left behind it
pub rest_is : {kd : Kind} {i o : Input} → Next kd i o → next i ≡ o
rest_is (words.next e) = refl

-- what is left behind a word of a table
pub left_is : {A : Type 0} {table : Kind → Option A} {i o : Input} {a : A} → Meant table i a o → next i ≡ o
left_is (words.meant e) = refl

-- what the word means
pub means : {A : Type 0} {table : Kind → Option A} {i o : Input} {a : A} → Meant table i a o → table (kind i) ≡ Some a
means (words.meant e) = e

-- a token of the kind is seen
pub sees_it : {kd : Kind} {i o : Input} → Next kd i o → sees kd i ≡ true
unfolding same_kind
sees_it {kd = kd} (words.next {t = t} e) = true_same the_type t.word.kind kd e

-- a token of a kind: what is spelled and over is read
pub expect_again : {kd : Kind} {i o : Input} → Next kd i o → expect kd i ≡ Ok (tt, o)
unfolding expect
expect_again n = rw (sees_it n, rest_is n) refl

-- a token that may be left out: what is spelled and over is read
pub eat_again : {kd : Kind} {i o : Input} → Next kd i o → eat kd i ≡ Ok (true, o)
unfolding eat
eat_again n = rw (sees_it n, rest_is n) refl

-- a token of another kind stays
pub eat_none : (kd : Kind) (i : Input) → sees kd i ≡ false → eat kd i ≡ Ok (false, i)
unfolding eat
eat_none kd i e = rw e refl

-- a name of a table: what is spelled and over is read
pub known_again : {A : Type 0} {table : Kind → Option A} {i o : Input} {a : A} (f : SyntaxFault) → Meant table i a o →
    known_or f (table (kind i)) i ≡ Ok (a, o)
known_again f (words.meant {t = t} {o = o} e) = ap (λ m. known_or f m (t ∷ o)) e

-- C: what is spelled and over is read
pub context_again : {i o : Input} {c : ContextVariable} → ContextAt i c o → context_variable i ≡ Ok (c, o)
unfolding context_variable
context_again {i = i} p = known_again (unknown i) p

-- NAME: what is spelled and over is read
pub spelled_again : {text name : Text} {i o : Input} → NameAt text i name o → spelled text i ≡ Ok (name, o)
unfolding spelled name
spelled_again (words.name {t = t} {o = o} e) = rw e refl

-- a number is seen
pub sees_number : (t : Token) (o : Input) → t.word.kind ≡ k.Number → sees k.Number (t ∷ o) ≡ true
unfolding same_kind
sees_number t o e = true_same the_type t.word.kind k.Number e

number_seen : {n : ℕ} {i o : Input} → NumberAt i n o → sees k.Number i ≡ true
number_seen (words.number {t = t} {o = o} e) = sees_number t o e

-- NUMBER between two bounds: what is spelled and over is read
pub within_again : {n : ℕ} {i o : Input} (low high : ℕ) → NumberAt i n o → low ≤ n → n ≤ high → number_within low high i ≡ Ok (n, o)
unfolding number_within
within_again low high (words.number {t = t} {o = o} e) h l = rw (sees_number t o e, le-leb _ _ h, le-leb _ _ l) refl

-- ---- tests of kinds that no kind passes both of

-- two kinds that some test tells apart
pub apart : (f : Kind → Bool) (a b : Kind) → f a ≡ false → f b ≡ true → same_kind a b ≡ false
unfolding same_kind
apart f a b e h = false_same the_type (search rules) a b (λ same. differ (sym e ∙ ap f same ∙ h))

-- what passes one test fails another
pub other : (f g : Kind → Bool) (a : Kind) → (f a && g a) ≡ false → f a ≡ true → g a ≡ false
other f g a e h = sym (ap (λ b. b && g a) h) ∙ e

-- where neither holds, not the first
pub left_false : (a b : Bool) → (a || b) ≡ false → a ≡ false
left_false true b e = elim (differ (sym e)) [ ]
left_false false b e = refl

-- where neither holds, not the second
pub right_false : (a b : Bool) → (a || b) ≡ false → b ≡ false
right_false true b e = elim (differ (sym e)) [ ]
right_false false b e = e

-- nothing is there
pub none_of : {A : Type 0} (m : Option A) → is_some m ≡ false → m ≡ None
none_of None e = refl
none_of (Some a) e = elim (differ (sym e)) [ ]

-- something is there
pub some_of : {A : Type 0} {m : Option A} {a : A} → m ≡ Some a → is_some m ≡ true
some_of e = ap is_some e

-- variables of numbers
abbrev pub is_number : Kind → Bool
is_number kind = is_some (number_variable_of kind)

-- variables of contexts
abbrev pub is_context : Kind → Bool
is_context kind = is_some (context_variable_of kind)

-- variables of removed operations
abbrev pub is_removed : Kind → Bool
is_removed kind = is_some (removed_variable_of kind)

-- by cases: each kind is tried
pub context_number : (a : Kind) → (is_context a && is_number a) ≡ false
context_number k.OpenBrace = refl
context_number _ = refl

-- the same of N and C
pub number_context : (a : Kind) → (is_number a && is_context a) ≡ false
number_context k.OpenBrace = refl
number_context _ = refl

-- the same of O and N
pub removed_number : (a : Kind) → (is_removed a && is_number a) ≡ false
removed_number k.OpenBrace = refl
removed_number _ = refl

-- the same of N and O
pub number_removed : (a : Kind) → (is_number a && is_removed a) ≡ false
number_removed k.OpenBrace = refl
number_removed _ = refl

-- the same of O and C
pub removed_context : (a : Kind) → (is_removed a && is_context a) ≡ false
removed_context k.OpenBrace = refl
removed_context _ = refl

-- ---- each takes a token

-- a token of a kind: fewer tokens are left behind it
pub next_less : {kd : Kind} {i o : Input} → Next kd i o → length o < length i
next_less (words.next e) = omega arith

-- a word of a table: fewer tokens are left behind it
pub meant_less : {A : Type 0} {table : Kind → Option A} {i o : Input} {a : A} → Meant table i a o → length o < length i
meant_less (words.meant e) = omega arith

-- NAME: fewer tokens are left behind it
pub name_less : {text name : Text} {i o : Input} → NameAt text i name o → length o < length i
name_less (words.name e) = omega arith

-- NUMBER: fewer tokens are left behind it
pub number_less : {n : ℕ} {i o : Input} → NumberAt i n o → length o < length i
number_less (words.number e) = omega arith

-- a word and C, or nothing: fewer tokens are left behind it
pub optional_less : {kd : Kind} {i o : Input} {c : Option ContextVariable} → OptionalAt kd i c o → length o ≤ length i
optional_less words.without = omega arith
optional_less (words.behind n p) = omega (arith, next_less n, meant_less p)

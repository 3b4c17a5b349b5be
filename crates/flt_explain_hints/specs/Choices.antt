-- What may stand in a place of a text. This project's own program.
use Rattle.std.specs.Prelude.{◌≡◌, ◌↔◌, ◌==◌, Bool, true, not, ◌&&◌, List, [], ◌∷◌, ◌++◌, codes, length, map}
use Rattle.std.specs.List.{filter, list_any}
use Rattle.flt_syntax.specs.Lex.{same_kind}
use Rattle.flt_syntax.specs.Vocabulary.{vocabulary}
use Rattle.flt_syntax.specs.declared.token.Kind.{Kind}
use Rattle.flt_syntax.specs.declared.token.Kind.TheVariants as k
use Rattle.flt_tree.specs.Names.{Text}
use Rattle.flt_explain_hints.specs.Names.{IsNew, declared_names}
use Rattle.flt_explain_hints.specs.Trial.{Gap, MayStand, may_stand}
use Rattle.flt_explain_hints.specs.declared.choices.Choices.{Choices}
use Rattle.flt_explain_hints.specs.declared.choices.ExpectedWord.{ExpectedWord}

-- the symbols of the language, each with its kind
abbrev pub symbols : List (Text × Kind)
symbols =
    (codes "{", k.OpenBrace) ∷
    (codes "}", k.CloseBrace) ∷
    (codes "=", k.Assign) ∷
    (codes "==", k.Equal) ∷
    (codes "!=", k.NotEqual) ∷
    (codes "<", k.Less) ∷
    (codes "+", k.Plus) ∷
    (codes "-", k.Minus) ∷ []

-- those of a table that are read in a place
unfoldable pub possible : Gap → List (Text × Kind) → List (Text × Kind)
possible gap table = filter (λ e. may_stand gap e.0) table

-- those of some names that are read in a place
unfoldable pub possible_names : Gap → List Text → List Text
possible_names gap names = filter (may_stand gap) names

-- a word as the table has it
abbrev pub entry_of : ExpectedWord → Text × Kind
entry_of e = (e.word.now, e.kind)

-- whether a word or symbol of a kind may stand there
unfoldable pub takes : Choices → Kind → Bool
takes c kind = list_any (λ e. same_kind e.kind kind) c.expected

-- whether nothing may stand there
unfoldable pub are_none : Choices → Bool
are_none c = length c.expected == 0 && (not c.takes_number && (not c.takes_name && length c.names == 0))

-- the number that is tried for all: each limit allows it
abbrev pub one : Text
one = codes "1"

-- those of some entries whose words may stand in a place, in their order
pub data ArePossible (gap : Gap) {A : Type 0} (word : A → Text) : List A → List A → Type 0 where
  none : ArePossible gap word [] []
  may : {e : A} {all some : List A} → MayStand gap (word e) → ArePossible gap word all some → ArePossible gap word (e ∷ all) (e ∷ some)
  may_not : {e : A} {all some : List A} → (MayStand gap (word e) → ⊥) → ArePossible gap word all some →
      ArePossible gap word (e ∷ all) some

-- whether a name may stand in a place of a text, by one that is new to the text
pub record TakesName (text : Text) (gap : Gap) (b : Bool) : Type 0 where
  pub name : Text
  pub new : IsNew text name
  pub taken : (b ≡ true) ↔ MayStand gap name

-- each word and symbol of the language that may stand in a place, and no other; whether the number 1 may, and a new name; and each name
-- that the text declares and that may, and no other
pub record AreChoices (text : Text) (gap : Gap) (c : Choices) : Type 0 where
  pub expected : ArePossible gap (λ e. e.0) (vocabulary ++ symbols) (map entry_of c.expected)
  pub number : (c.takes_number ≡ true) ↔ MayStand gap one
  pub name : TakesName text gap c.takes_name
  pub names : ArePossible gap (λ n. n) (declared_names text) (map (λ n. n.now) c.names)

-- The grammar of statements. Each constructor is a production. As in expressions, a part that may be repeated is repeated as often as it
-- can be, and a part that may be missing is there where it can be.
use Rattle.std.specs.Prelude.{◌≡◌, ℕ, suc, Bool, true, false, not, ◌&&◌, List, [], ◌∷◌, Option, Some, None}
use Rattle.flt_c_tokens.specs.declared.token.Kind.{Kind}
use Rattle.flt_c_tokens.specs.declared.token.Kind.TheVariants as k
use Rattle.flt_c_syntax.specs.ExpressionGrammar.{SeparatorAt, RoleAt, ArgumentsAt}
use Rattle.flt_c_syntax.specs.Groups.{behind_group, behind_semicolon, follows_specifier, begins_declaration, begins_name_label}
use Rattle.flt_c_syntax.specs.Groups.{begins_leave, is_macro, is_macro_loop, ends_list, begins_label_by, begins_expression}
use Rattle.flt_c_syntax.specs.Tokens.{Input, kind, place, next, sees, run, behind}
use Rattle.flt_c_syntax.specs.Types.{stars}
use Rattle.flt_c_syntax.specs.Words.{Next, WordAt}
use Rattle.flt_c_syntax.specs.declared.class.Class.{Class}
use Rattle.flt_c_syntax.specs.declared.class.Nest.{Nest}
use Rattle.flt_c_syntax.specs.declared.class.Nest.TheVariants as nests
use Rattle.flt_c_syntax.specs.declared.class.Part.TheVariants as parts
use Rattle.flt_c_syntax.specs.declared.class.Role.TheVariants as roles
use Rattle.flt_c_syntax.specs.declared.tree.Branch.{Branch}
use Rattle.flt_c_syntax.specs.declared.tree.Branch.TheVariants as branches
use Rattle.flt_c_syntax.specs.declared.tree.Declarator.{Declarator}
use Rattle.flt_c_syntax.specs.declared.tree.Expression.{Expression}
use Rattle.flt_c_syntax.specs.declared.tree.Form.{Form}
use Rattle.flt_c_syntax.specs.declared.tree.Form.TheVariants as forms
use Rattle.flt_c_syntax.specs.declared.tree.Place.{Place}
use Rattle.flt_c_syntax.specs.declared.tree.Specifier.{Specifier}
use Rattle.flt_c_syntax.specs.declared.tree.Specifier.TheVariants as specifiers
use Rattle.flt_c_syntax.specs.declared.tree.Statement.{Statement}
use Rattle.flt_c_syntax.specs.declared.tree.Statement.TheVariants as made

-- what is left behind a group in brackets
abbrev pub GroupAt : Input → Input → Type 0
GroupAt i o = behind_group i ≡ Some o

-- ---- declarations

-- what ends the words before declarators
abbrev pub ends_specifiers_by : Kind → Input → Bool
ends_specifiers_by k.TypeWord i = false
ends_specifiers_by k.Qualifier i = false
ends_specifiers_by k.Struct i = false
ends_specifiers_by k.Attribute i = false
ends_specifiers_by k.OpenBrace i = false
ends_specifiers_by k.Name i = not (follows_specifier (kind i))
ends_specifiers_by _ i = true

-- a word of a type; a name before another word or a star; an attribute or members, with their group
pub data SpecifierAt : Input → Specifier → Input → Type 0 where
  type_word : {w : ℕ} {i o : Input} → WordAt k.TypeWord i w o → SpecifierAt i (specifiers.Word w) o
  qualifier : {w : ℕ} {i o : Input} → WordAt k.Qualifier i w o → SpecifierAt i (specifiers.Word w) o
  struct : {w : ℕ} {i o : Input} → WordAt k.Struct i w o → SpecifierAt i (specifiers.Word w) o
  name : {w : ℕ} {i o : Input} → follows_specifier (kind (next i)) ≡ true → WordAt k.Name i w o → SpecifierAt i (specifiers.Word w) o
  attribute : {w : ℕ} {i a o : Input} → WordAt k.Attribute i w a → GroupAt a o → SpecifierAt i (specifiers.Attribute w) o
  members : {i o : Input} → kind i ≡ k.OpenBrace → GroupAt i o → SpecifierAt i specifiers.Members o

pub data SpecifiersAt : Input → List Specifier → Input → Type 0 where
  no_specifier : {i : Input} → ends_specifiers_by (kind i) (next i) ≡ true → SpecifiersAt i [] i
  one_specifier : {i j o : Input} {x : Specifier} {xs : List Specifier} → SpecifierAt i x j → SpecifiersAt j xs o →
      SpecifiersAt i (x ∷ xs) o

-- { "[" .. "]" }
pub data BoundsAt : Input → Input → Type 0 where
  no_bound : {i : Input} → sees k.OpenBracket i ≡ false → BoundsAt i i
  one_bound : {i j o : Input} → sees k.OpenBracket i ≡ true → GroupAt i j → BoundsAt j o → BoundsAt i o

-- what stands behind a declared name
pub data FormAt : Input → Form → Input → Type 0 where
  prototype : {i o : Input} → sees k.OpenParen i ≡ true → GroupAt i o → FormAt i forms.Prototype o
  array : {i o : Input} → sees k.OpenParen i ≡ false → sees k.OpenBracket i ≡ true → BoundsAt i o → FormAt i forms.Array o
  plain : {i : Input} → sees k.OpenParen i ≡ false → sees k.OpenBracket i ≡ false → FormAt i forms.Plain i

-- stars NAME form | stars "(" stars NAME ")" group; what stands behind stars
pub data DeclaredAt : Input → Place × (ℕ × (ℕ × Form)) → Input → Type 0 where
  declared : {w : ℕ} {i a o : Input} {f : Form} → sees k.OpenParen (behind parts.Star i) ≡ false →
      WordAt k.Name (behind parts.Star i) w a → FormAt a f o →
      DeclaredAt i (place (behind parts.Star i), (stars (run parts.Star i), (w, f))) o
  pointer : {w : ℕ} {i a b c o : Input} → Next k.OpenParen (behind parts.Star i) a → WordAt k.Name (behind parts.Star a) w b →
      Next k.CloseParen b c → GroupAt c o →
      DeclaredAt i (place (behind parts.Star a), (stars (run parts.Star a), (w, forms.FunctionPointer))) o

-- [ "=" value ]
pub data FirstValueAt (known : List Class) (d : ℕ) : Input → Option Expression → Input → Type 0 where
  no_value : {i : Input} → sees k.Assign i ≡ false → FirstValueAt known d i None i
  one_value : {i a o : Input} {e : Expression} → Next k.Assign i a → RoleAt known d roles.Value a e o → FirstValueAt known d i (Some e) o

pub data DeclaratorAt (known : List Class) (d : ℕ) : Input → Declarator → Input → Type 0 where
  declarator : {i a o : Input} {x : Place × (ℕ × (ℕ × Form))} {v : Option Expression} → DeclaredAt i x a → FirstValueAt known d a v o →
      DeclaratorAt known d i (record { place = x.0; stars = x.1.0; name = x.1.1.0; form = x.1.1.1; value = v }) o

pub data DeclaratorsAt (known : List Class) (d : ℕ) : Input → List Declarator → Input → Type 0 where
  no_declarator : {i : Input} → sees k.Semicolon i ≡ true → DeclaratorsAt known d i [] i
  one_declarator : {i a b o : Input} {x : Declarator} {xs : List Declarator} → sees k.Semicolon i ≡ false → DeclaratorAt known d i x a →
      SeparatorAt k.Semicolon a b → DeclaratorsAt known d b xs o → DeclaratorsAt known d i (x ∷ xs) o

-- { specifier } [ declarator { "," declarator } ] ";", at a place
pub data DeclarationAt (known : List Class) (d : ℕ) : Input → Statement → Input → Type 0 where
  declaration : {i a b o : Input} {ws : List Specifier} {xs : List Declarator} → SpecifiersAt i ws a → DeclaratorsAt known d a xs b →
      Next k.Semicolon b o → DeclarationAt known d i (made.Declaration (place i) ws xs) o

-- ---- parts with expressions

-- "(" expr ")"
pub data TestedAt (known : List Class) (d : ℕ) : Input → Expression → Input → Type 0 where
  tested : {i a b o : Input} {e : Expression} → Next k.OpenParen i a → RoleAt known d roles.Whole a e b → Next k.CloseParen b o →
      TestedAt known d i e o

-- [ expr ], and the token behind it
pub data OptionalAt (known : List Class) (d : ℕ) (close : Kind) : Input → Option Expression → Input → Type 0 where
  without : {i o : Input} → Next close i o → OptionalAt known d close i None o
  with_one : {i a o : Input} {e : Expression} → sees close i ≡ false → RoleAt known d roles.Whole i e a → Next close a o →
      OptionalAt known d close i (Some e) o

-- what is done first in a `for`
pub data FirstAt (known : List Class) (d : ℕ) : Input → List Statement → Input → Type 0 where
  declares : {i o : Input} {s : Statement} → begins_declaration i ≡ true → DeclarationAt known d i s o → FirstAt known d i (s ∷ []) o
  nothing : {i o : Input} → begins_declaration i ≡ false → Next k.Semicolon i o → FirstAt known d i [] o
  expresses : {i a o : Input} {e : Expression} → begins_declaration i ≡ false → sees k.Semicolon i ≡ false →
      RoleAt known d roles.Whole i e a → Next k.Semicolon a o → FirstAt known d i (made.Expression (place i) e ∷ []) o

-- [ "..." last ]
pub data LastAt (known : List Class) (d : ℕ) : Input → Option Expression → Input → Type 0 where
  no_last : {i : Input} → sees k.Ellipsis i ≡ false → LastAt known d i None i
  one_last : {i a o : Input} {e : Expression} → Next k.Ellipsis i a → RoleAt known d roles.Argument a e o → LastAt known d i (Some e) o

-- "(" arguments ")"
pub data CalledAt (known : List Class) (d : ℕ) : Input → List Expression → Input → Type 0 where
  called : {i a b o : Input} {es : List Expression} → Next k.OpenParen i a → ArgumentsAt known d a es b → Next k.CloseParen b o →
      CalledAt known d i es o

-- ---- statements

-- `NestAt known d n i ss o`: the tokens of i up to o spell the statements ss, as a body or as a branch. In it blocks and brackets nest at
-- most d deep, itself counted; in the others at most d deep inside it.
mutual
  pub data NestAt (known : List Class) : ℕ → Nest → Input → List Statement → Input → Type 0 where
    -- "{" { statement } "}"
    block : {d : ℕ} {i a b o : Input} {ss : List Statement} → Next k.OpenBrace i a → StatementsAt known d a ss b → Next k.CloseBrace b o →
        NestAt known (suc d) nests.Body i ss o
    single : {d : ℕ} {i o : Input} {s : Statement} → sees k.OpenBrace i ≡ false → begins_label_by (kind i) i ≡ false →
        StatementAt known d i s o → NestAt known (suc d) nests.Body i (s ∷ []) o
    branch : {d : ℕ} {i o : Input} {ss : List Statement} → StatementsAt known d i ss o → NestAt known (suc d) nests.Branch i ss o

  -- { statement }
  pub data StatementsAt (known : List Class) : ℕ → Input → List Statement → Input → Type 0 where
    no_statement : {d : ℕ} {i : Input} → ends_list (kind i) ≡ true → StatementsAt known d i [] i
    one_statement : {d : ℕ} {i j o : Input} {s : Statement} {ss : List Statement} → ends_list (kind i) ≡ false → StatementAt known d i s j →
        StatementsAt known d j ss o → StatementsAt known d i (s ∷ ss) o

  pub data StatementAt (known : List Class) : ℕ → Input → Statement → Input → Type 0 where
    empty : {d : ℕ} {i o : Input} → Next k.Semicolon i o → StatementAt known d i (made.Empty (place i)) o
    block_statement : {d : ℕ} {i o : Input} {ss : List Statement} → kind i ≡ k.OpenBrace → NestAt known d nests.Body i ss o →
        StatementAt known d i (made.Block (place i) ss) o
    -- NAME ":"
    label : {d w : ℕ} {i a o : Input} → begins_name_label i ≡ true → WordAt k.Name i w a → Next k.Colon a o →
        StatementAt known d i (made.Label (place i) w) o
    -- "leave" ";"
    leave_name : {d w : ℕ} {i a o : Input} → begins_name_label i ≡ false → begins_leave i ≡ true → WordAt k.Name i w a →
        Next k.Semicolon a o → StatementAt known d i (made.Leave (place i)) o
    declares_here : {d : ℕ} {i o : Input} {s : Statement} → begins_name_label i ≡ false → begins_leave i ≡ false →
        begins_declaration i ≡ true → DeclarationAt known d i s o → StatementAt known d i s o
    -- NAME "(" arguments ")" body
    macro_loop : {d w : ℕ} {i a b o : Input} {es : List Expression} {ss : List Statement} → begins_name_label i ≡ false →
        begins_leave i ≡ false → begins_declaration i ≡ false → is_macro_loop i ≡ true → WordAt k.Name i w a → CalledAt known d a es b →
        NestAt known d nests.Body b ss o → StatementAt known d i (made.Loop (place i) w es ss) o
    -- NAME "(" arguments ")"
    macro : {d w : ℕ} {i a o : Input} {es : List Expression} → begins_name_label i ≡ false → begins_leave i ≡ false →
        begins_declaration i ≡ false → is_macro_loop i ≡ false → is_macro i ≡ true → WordAt k.Name i w a → CalledAt known d a es o →
        StatementAt known d i (made.Macro (place i) w es) o
    -- expr ";"
    expresses_name : {d : ℕ} {i a o : Input} {e : Expression} → kind i ≡ k.Name → begins_name_label i ≡ false → begins_leave i ≡ false →
        begins_declaration i ≡ false → is_macro_loop i ≡ false → is_macro i ≡ false → RoleAt known d roles.Whole i e a →
        Next k.Semicolon a o → StatementAt known d i (made.Expression (place i) e) o
    expresses_here : {d : ℕ} {i a o : Input} {e : Expression} → begins_expression (kind i) ≡ true → RoleAt known d roles.Whole i e a →
        Next k.Semicolon a o → StatementAt known d i (made.Expression (place i) e) o
    -- "if" "(" expr ")" body { "else" "if" "(" expr ")" body } [ "else" body ]
    choice : {d : ℕ} {i a b c f o : Input} {e : Expression} {ss os : List Statement} {bs : List Branch} → Next k.If i a →
        TestedAt known d a e b → NestAt known d nests.Body b ss c → ElseIfsAt known d c bs f → OtherwiseAt known d f os o →
        StatementAt known d i (made.If (place i) (branches.If e ss ∷ bs) os) o
    -- "while" "(" expr ")" body
    while_loop : {d : ℕ} {i a b o : Input} {e : Expression} {ss : List Statement} → Next k.While i a → TestedAt known d a e b →
        NestAt known d nests.Body b ss o → StatementAt known d i (made.While (place i) e ss) o
    -- "do" body "while" "(" expr ")" ";"
    do_loop : {d : ℕ} {i a b c f o : Input} {e : Expression} {ss : List Statement} → Next k.Do i a → NestAt known d nests.Body a ss b →
        Next k.While b c → TestedAt known d c e f → Next k.Semicolon f o → StatementAt known d i (made.Do (place i) ss e) o
    -- "for" "(" first [ expr ] ";" [ expr ] ")" body
    for_loop : {d : ℕ} {i a b c f g o : Input} {fs ss : List Statement} {x y : Option Expression} → Next k.For i a → Next k.OpenParen a b →
        FirstAt known d b fs c → OptionalAt known d k.Semicolon c x f → OptionalAt known d k.CloseParen f y g →
        NestAt known d nests.Body g ss o → StatementAt known d i (made.For (place i) fs x y ss) o
    -- "switch" "(" expr ")" body
    switch : {d : ℕ} {i a b o : Input} {e : Expression} {ss : List Statement} → Next k.Switch i a → TestedAt known d a e b →
        NestAt known d nests.Body b ss o → StatementAt known d i (made.Switch (place i) e ss) o
    -- "case" first [ "..." last ] ":"
    case : {d : ℕ} {i a b c o : Input} {e : Expression} {l : Option Expression} → Next k.Case i a → RoleAt known d roles.Argument a e b →
        LastAt known d b l c → Next k.Colon c o → StatementAt known d i (made.Case (place i) e l) o
    default : {d : ℕ} {i a o : Input} → Next k.Default i a → Next k.Colon a o → StatementAt known d i (made.Default (place i)) o
    goto : {d w : ℕ} {i a b o : Input} → Next k.Goto i a → WordAt k.Name a w b → Next k.Semicolon b o →
        StatementAt known d i (made.Goto (place i) w) o
    return : {d : ℕ} {i a o : Input} {e : Option Expression} → Next k.Return i a → OptionalAt known d k.Semicolon a e o →
        StatementAt known d i (made.Return (place i) e) o
    break : {d : ℕ} {i a o : Input} → Next k.Break i a → Next k.Semicolon a o → StatementAt known d i (made.Break (place i)) o
    continue : {d : ℕ} {i a o : Input} → Next k.Continue i a → Next k.Semicolon a o → StatementAt known d i (made.Continue (place i)) o
    leave : {d : ℕ} {i a o : Input} → Next k.Leave i a → Next k.Semicolon a o → StatementAt known d i (made.Leave (place i)) o
    -- "__try" body "__finally" body
    finally : {d : ℕ} {i a b c o : Input} {ss hs : List Statement} → Next k.Try i a → NestAt known d nests.Body a ss b →
        Next k.Finally b c → NestAt known d nests.Body c hs o → StatementAt known d i (made.Finally (place i) ss hs) o
    -- "__try" body "__except" "(" expr ")" body
    except : {d : ℕ} {i a b c f o : Input} {e : Expression} {ss hs : List Statement} → Next k.Try i a → NestAt known d nests.Body a ss b →
        Next k.Except b c → TestedAt known d c e f → NestAt known d nests.Body f hs o →
        StatementAt known d i (made.Except (place i) ss e hs) o
    -- "typedef" .. ";"
    typedef : {d : ℕ} {i o : Input} → kind i ≡ k.Typedef → behind_semicolon i ≡ Some o → StatementAt known d i (made.Typedef (place i)) o
    -- "__declspec" "(" .. ")"
    attribute_here : {d w : ℕ} {i a o : Input} → WordAt k.Attribute i w a → GroupAt a o →
        StatementAt known d i (made.Attribute (place i) w) o
    -- a group of #if, whose branches are whole statements
    directed : {d w : ℕ} {i a b c o : Input} {ss : List Statement} {bs : List Branch} → WordAt k.GroupIf i w a →
        NestAt known d nests.Branch a ss b → ElseBranchesAt known d b bs c → Next k.GroupEnd c o →
        StatementAt known d i (made.Group (place i) (branches.Directive w ss ∷ bs)) o

  -- { "else" "if" "(" expr ")" body }
  pub data ElseIfsAt (known : List Class) : ℕ → Input → List Branch → Input → Type 0 where
    no_else_if : {d : ℕ} {i : Input} → (sees k.Else i && sees k.If (next i)) ≡ false → ElseIfsAt known d i [] i
    one_else_if : {d : ℕ} {i a b c j o : Input} {e : Expression} {ss : List Statement} {bs : List Branch} → Next k.Else i a →
        Next k.If a b → TestedAt known d b e c → NestAt known d nests.Body c ss j → ElseIfsAt known d j bs o →
        ElseIfsAt known d i (branches.If e ss ∷ bs) o

  -- [ "else" body ]
  pub data OtherwiseAt (known : List Class) : ℕ → Input → List Statement → Input → Type 0 where
    no_otherwise : {d : ℕ} {i : Input} → sees k.Else i ≡ false → OtherwiseAt known d i [] i
    one_otherwise : {d : ℕ} {i a o : Input} {ss : List Statement} → Next k.Else i a → NestAt known d nests.Body a ss o →
        OtherwiseAt known d i ss o

  -- { GROUP_ELSE { statement } }
  pub data ElseBranchesAt (known : List Class) : ℕ → Input → List Branch → Input → Type 0 where
    no_branch : {d : ℕ} {i : Input} → sees k.GroupElse i ≡ false → ElseBranchesAt known d i [] i
    one_branch : {d w : ℕ} {i a j o : Input} {ss : List Statement} {bs : List Branch} → WordAt k.GroupElse i w a →
        NestAt known d nests.Branch a ss j → ElseBranchesAt known d j bs o → ElseBranchesAt known d i (branches.Directive w ss ∷ bs) o

-- a block, and the end
pub data BodyAt (known : List Class) (d : ℕ) : Input → List Statement → Type 0 where
  body : {i o : Input} {ss : List Statement} → sees k.OpenBrace i ≡ true → NestAt known d nests.Body i ss o → kind o ≡ k.End →
      BodyAt known d i ss

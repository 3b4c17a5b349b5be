-- The grammar of expressions. Each constructor is a production. A part that may be repeated is repeated as often as it can be, which a
-- premise at the end of each repetition says.
use Rattle.std.specs.Prelude.{◌≡◌, ℕ, zero, suc, true, false, ◌==◌, List, [], ◌∷◌, Option, Some, None}
use Rattle.flt_c_tokens.specs.declared.token.Kind.{Kind}
use Rattle.flt_c_tokens.specs.declared.token.Kind.TheVariants as k
use Rattle.flt_c_syntax.specs.Made.{prefixed, suffixed, linked}
use Rattle.flt_c_syntax.specs.Operators.{level_of, assignment_level, whole_level, operator_of, prefix_of, begins_suffix, begins_designator}
use Rattle.flt_c_syntax.specs.Tokens.{Input, kind, place, sees, run, behind, words}
use Rattle.flt_c_syntax.specs.Types.{TypeAt, is_literal, is_type_argument, begins_text, begins_prefix}
use Rattle.flt_c_syntax.specs.Words.{Next, WordAt, Meant}
use Rattle.flt_c_syntax.specs.declared.class.Class.{Class}
use Rattle.flt_c_syntax.specs.declared.class.Part.TheVariants as parts
use Rattle.flt_c_syntax.specs.declared.class.Role.{Role}
use Rattle.flt_c_syntax.specs.declared.class.Role.TheVariants as roles
use Rattle.flt_c_syntax.specs.declared.tree.Designator.{Designator}
use Rattle.flt_c_syntax.specs.declared.tree.Designator.TheVariants as designators
use Rattle.flt_c_syntax.specs.declared.tree.Expression.{Expression}
use Rattle.flt_c_syntax.specs.declared.tree.Expression.TheVariants as made
use Rattle.flt_c_syntax.specs.declared.tree.Initialiser.{Initialiser}
use Rattle.flt_c_syntax.specs.declared.tree.Initialiser.TheVariants.{Plain, Designated}
use Rattle.flt_c_syntax.specs.declared.tree.Link.{Link}
use Rattle.flt_c_syntax.specs.declared.tree.Link.TheVariants.{Operated, Choice}
use Rattle.flt_c_syntax.specs.declared.tree.Operator.{Operator}
use Rattle.flt_c_syntax.specs.declared.tree.Prefix.{Prefix}
use Rattle.flt_c_syntax.specs.declared.tree.Prefix.TheVariants as prefixes
use Rattle.flt_c_syntax.specs.declared.tree.Suffix.{Suffix}
use Rattle.flt_c_syntax.specs.declared.tree.Suffix.TheVariants as suffixes
use Rattle.flt_c_syntax.specs.declared.tree.TypeName.{TypeName}

-- a sign | "sizeof", unless of a type in brackets | "(" type ")", where that is a cast
pub data PrefixAt (known : List Class) : Input → Prefix → Input → Type 0 where
  sign : {i o : Input} {p : Prefix} → Meant prefix_of i p o → PrefixAt known i p o
  size_of : {i o : Input} → begins_prefix known i ≡ true → Next k.Sizeof i o → PrefixAt known i prefixes.SizeOf o
  cast : {i a b o : Input} {t : TypeName} → begins_prefix known i ≡ true →
      Next k.OpenParen i a → TypeAt a t b → Next k.CloseParen b o → PrefixAt known i (prefixes.Cast t) o

-- { prefix }
pub data PrefixesAt (known : List Class) : Input → List Prefix → Input → Type 0 where
  no_prefix : {i : Input} → begins_prefix known i ≡ false → PrefixesAt known i [] i
  one_prefix : {i j o : Input} {p : Prefix} {ps : List Prefix} → PrefixAt known i p j → PrefixesAt known j ps o →
      PrefixesAt known i (p ∷ ps) o

-- a comma, or the closing bracket, which stays
pub data SeparatorAt (close : Kind) : Input → Input → Type 0 where
  comma : {i o : Input} → Next k.Comma i o → SeparatorAt close i o
  closed : {i : Input} → sees k.Comma i ≡ false → sees close i ≡ true → SeparatorAt close i i

-- `RoleAt known d r i e o`: the tokens of i up to o spell the expression e as one of the role r. In it brackets nest at most d deep, itself
-- counted; in the others at most d deep inside it.
mutual
  pub data RoleAt (known : List Class) : ℕ → Role → Input → Expression → Input → Type 0 where
    whole : {d : ℕ} {i o : Input} {e : Expression} → LevelAt known d whole_level i e o → RoleAt known (suc d) roles.Whole i e o
    argument : {d : ℕ} {i o : Input} {e : Expression} → is_type_argument i ≡ false → LevelAt known d assignment_level i e o →
        RoleAt known (suc d) roles.Argument i e o
    type_argument : {d : ℕ} {i o : Input} {t : TypeName} → is_type_argument i ≡ true → TypeAt i t o →
        RoleAt known (suc d) roles.Argument i (made.Type (place i) t) o
    value : {d : ℕ} {i o : Input} {e : Expression} → sees k.OpenBrace i ≡ false → LevelAt known d assignment_level i e o →
        RoleAt known (suc d) roles.Value i e o
    value_braces : {d : ℕ} {i o : Input} {xs : List Initialiser} → BracesAt known d i xs o →
        RoleAt known (suc d) roles.Value i (made.Braces (place i) xs) o

  -- operands with operators of the level between them; the lowest level is an operand
  pub data LevelAt (known : List Class) : ℕ → ℕ → Input → Expression → Input → Type 0 where
    -- { prefix } primary { suffix }
    operand : {d : ℕ} {i j l o : Input} {ps : List Prefix} {e : Expression} {ss : List Suffix} →
        PrefixesAt known i ps j → PrimaryAt known d j e l → SuffixesAt known d l ss o →
        LevelAt known d zero i (prefixed (place i) ps (suffixed (place j) e ss)) o
    operands : {d n : ℕ} {i j o : Input} {e : Expression} {ls : List Link} →
        LevelAt known d n i e j → LinksAt known d n j ls o → LevelAt known d (suc n) i (linked (place i) e ls) o

  -- { operator operand }
  pub data LinksAt (known : List Class) : ℕ → ℕ → Input → List Link → Input → Type 0 where
    no_link : {d n : ℕ} {i : Input} → (level_of (kind i) == suc n) ≡ false → LinksAt known d n i [] i
    one_link : {d n : ℕ} {i j o : Input} {l : Link} {ls : List Link} → LinkAt known d n i l j → LinksAt known d n j ls o →
        LinksAt known d n i (l ∷ ls) o

  pub data LinkAt (known : List Class) : ℕ → ℕ → Input → Link → Input → Type 0 where
    operated : {d n : ℕ} {i j o : Input} {op : Operator} {e : Expression} → (level_of (kind i) == suc n) ≡ true →
        Meant operator_of i op j → LevelAt known d n j e o → LinkAt known d n i (Operated op e) o
    -- "?" [ expr ] ":" operand
    choice : {d n : ℕ} {i a b c o : Input} {m : Option Expression} {e : Expression} → (level_of (kind i) == suc n) ≡ true →
        Next k.Question i a → MiddleAt known d a m b → Next k.Colon b c → LevelAt known d n c e o →
        LinkAt known d n i (Choice m e) o

  pub data MiddleAt (known : List Class) : ℕ → Input → Option Expression → Input → Type 0 where
    no_middle : {d : ℕ} {i : Input} → sees k.Colon i ≡ true → MiddleAt known d i None i
    one_middle : {d : ℕ} {i o : Input} {e : Expression} → sees k.Colon i ≡ false → RoleAt known d roles.Whole i e o →
        MiddleAt known d i (Some e) o

  pub data PrimaryAt (known : List Class) : ℕ → Input → Expression → Input → Type 0 where
    name : {d w : ℕ} {i o : Input} → begins_text i ≡ false → WordAt k.Name i w o → PrimaryAt known d i (made.Name (place i) w) o
    number : {d w : ℕ} {i o : Input} → WordAt k.Number i w o → PrimaryAt known d i (made.Number (place i) w) o
    character : {d w : ℕ} {i o : Input} → WordAt k.Character i w o → PrimaryAt known d i (made.Character (place i) w) o
    -- strings, and names among them
    text : {d : ℕ} {i : Input} → begins_text i ≡ true →
        PrimaryAt known d i (made.Text (place i) (words (run parts.Text i))) (behind parts.Text i)
    -- "(" expr ")"
    brackets : {d : ℕ} {i a b o : Input} {e : Expression} → Next k.OpenParen i a → is_literal a ≡ false → sees k.OpenBrace a ≡ false →
        RoleAt known d roles.Whole a e b → Next k.CloseParen b o → PrimaryAt known d i e o
    -- "(" type ")" braces
    compound : {d : ℕ} {i a b c o : Input} {t : TypeName} {xs : List Initialiser} → Next k.OpenParen i a → is_literal a ≡ true →
        TypeAt a t b → Next k.CloseParen b c → BracesAt known d c xs o → PrimaryAt known d i (made.Compound (place i) t xs) o
    -- "sizeof" "(" type ")"
    measured : {d : ℕ} {i a b c o : Input} {t : TypeName} → Next k.Sizeof i a → Next k.OpenParen a b → TypeAt b t c →
        Next k.CloseParen c o → PrimaryAt known d i (made.SizeOf (place i) t) o
    -- "static_cast" "<" type ">" "(" expr ")"
    named_cast : {d : ℕ} {i a b c f g h o : Input} {t : TypeName} {e : Expression} → Next k.Cast i a → Next k.Less a b → TypeAt b t c →
        Next k.Greater c f → Next k.OpenParen f g → RoleAt known d roles.Whole g e h → Next k.CloseParen h o →
        PrimaryAt known d i (made.Prefixed (place i) (prefixes.Cast t ∷ []) e) o

  -- { suffix }
  pub data SuffixesAt (known : List Class) : ℕ → Input → List Suffix → Input → Type 0 where
    no_suffix : {d : ℕ} {i : Input} → begins_suffix (kind i) ≡ false → SuffixesAt known d i [] i
    one_suffix : {d : ℕ} {i j o : Input} {s : Suffix} {ss : List Suffix} → SuffixAt known d i s j → SuffixesAt known d j ss o →
        SuffixesAt known d i (s ∷ ss) o

  pub data SuffixAt (known : List Class) : ℕ → Input → Suffix → Input → Type 0 where
    -- "(" [ argument { "," argument } [ "," ] ] ")"
    call : {d : ℕ} {i a b o : Input} {es : List Expression} → Next k.OpenParen i a → ArgumentsAt known d a es b →
        Next k.CloseParen b o → SuffixAt known d i (suffixes.Call es) o
    -- "[" expr "]"
    index : {d : ℕ} {i a b o : Input} {e : Expression} → Next k.OpenBracket i a → RoleAt known d roles.Whole a e b →
        Next k.CloseBracket b o → SuffixAt known d i (suffixes.Index e) o
    member : {d w : ℕ} {i a o : Input} → Next k.Dot i a → WordAt k.Name a w o → SuffixAt known d i (suffixes.Member w) o
    arrow : {d w : ℕ} {i a o : Input} → Next k.Arrow i a → WordAt k.Name a w o → SuffixAt known d i (suffixes.Arrow w) o
    scope : {d w : ℕ} {i a o : Input} → Next k.DoubleColon i a → WordAt k.Name a w o → SuffixAt known d i (suffixes.Scope w) o
    increment : {d : ℕ} {i o : Input} → Next k.Increment i o → SuffixAt known d i suffixes.Increment o
    decrement : {d : ℕ} {i o : Input} → Next k.Decrement i o → SuffixAt known d i suffixes.Decrement o

  -- what stands in the brackets of a call
  pub data ArgumentsAt (known : List Class) : ℕ → Input → List Expression → Input → Type 0 where
    no_argument : {d : ℕ} {i : Input} → sees k.CloseParen i ≡ true → ArgumentsAt known d i [] i
    one_argument : {d : ℕ} {i a b o : Input} {e : Expression} {es : List Expression} → sees k.CloseParen i ≡ false →
        RoleAt known d roles.Argument i e a → SeparatorAt k.CloseParen a b → ArgumentsAt known d b es o →
        ArgumentsAt known d i (e ∷ es) o

  -- "{" [ initialiser { "," initialiser } [ "," ] ] "}"
  pub data BracesAt (known : List Class) : ℕ → Input → List Initialiser → Input → Type 0 where
    braces : {d : ℕ} {i a b o : Input} {xs : List Initialiser} → Next k.OpenBrace i a → InitialisersAt known d a xs b →
        Next k.CloseBrace b o → BracesAt known d i xs o

  pub data InitialisersAt (known : List Class) : ℕ → Input → List Initialiser → Input → Type 0 where
    no_initialiser : {d : ℕ} {i : Input} → sees k.CloseBrace i ≡ true → InitialisersAt known d i [] i
    one_initialiser : {d : ℕ} {i a b o : Input} {x : Initialiser} {xs : List Initialiser} → sees k.CloseBrace i ≡ false →
        InitialiserAt known d i x a → SeparatorAt k.CloseBrace a b → InitialisersAt known d b xs o →
        InitialisersAt known d i (x ∷ xs) o

  pub data InitialiserAt (known : List Class) : ℕ → Input → Initialiser → Input → Type 0 where
    plain : {d : ℕ} {i o : Input} {e : Expression} → begins_designator (kind i) ≡ false → RoleAt known d roles.Value i e o →
        InitialiserAt known d i (Plain e) o
    -- designator { designator } "=" value
    designated : {d : ℕ} {i a b o : Input} {ds : List Designator} {e : Expression} → begins_designator (kind i) ≡ true →
        DesignatorsAt known d i ds a → Next k.Assign a b → RoleAt known d roles.Value b e o →
        InitialiserAt known d i (Designated ds e) o

  -- { designator }
  pub data DesignatorsAt (known : List Class) : ℕ → Input → List Designator → Input → Type 0 where
    no_designator : {d : ℕ} {i : Input} → begins_designator (kind i) ≡ false → DesignatorsAt known d i [] i
    one_designator : {d : ℕ} {i j o : Input} {x : Designator} {xs : List Designator} → DesignatorAt known d i x j →
        DesignatorsAt known d j xs o → DesignatorsAt known d i (x ∷ xs) o

  -- "." NAME | "[" expr "]"
  pub data DesignatorAt (known : List Class) : ℕ → Input → Designator → Input → Type 0 where
    member_of : {d w : ℕ} {i a o : Input} → Next k.Dot i a → WordAt k.Name a w o → DesignatorAt known d i (designators.Member w) o
    index_of : {d : ℕ} {i a b o : Input} {e : Expression} → Next k.OpenBracket i a → RoleAt known d roles.Whole a e b →
        Next k.CloseBracket b o → DesignatorAt known d i (designators.Index e) o

-- Each part of an expression takes a token.
use Rattle.std.proofs.Common.{ℕ, ◌≤◌, ◌<◌, List, length, arith}
use Rattle.std.specs.Prelude.{Option}
use Rattle.flt_c_syntax.specs.ExpressionGrammar as g
use Rattle.flt_c_syntax.specs.ExpressionGrammar.{PrefixAt, PrefixesAt, RoleAt, LevelAt, LinksAt, LinkAt, MiddleAt, PrimaryAt, SuffixesAt}
use Rattle.flt_c_syntax.specs.ExpressionGrammar.{SuffixAt, ArgumentsAt, BracesAt, InitialisersAt, InitialiserAt, DesignatorsAt}
use Rattle.flt_c_syntax.specs.ExpressionGrammar.{DesignatorAt}
use Rattle.flt_c_syntax.specs.Tokens.{Input}
use Rattle.flt_c_syntax.specs.declared.class.Class.{Class}
use Rattle.flt_c_syntax.specs.declared.class.Role.{Role}
use Rattle.flt_c_syntax.specs.declared.tree.Designator.{Designator}
use Rattle.flt_c_syntax.specs.declared.tree.Expression.{Expression}
use Rattle.flt_c_syntax.specs.declared.tree.Initialiser.{Initialiser}
use Rattle.flt_c_syntax.specs.declared.tree.Link.{Link}
use Rattle.flt_c_syntax.specs.declared.tree.Prefix.{Prefix}
use Rattle.flt_c_syntax.specs.declared.tree.Suffix.{Suffix}
use Rattle.flt_c_syntax.proofs.Again.{type_less, text_less, separator_less}
use Rattle.flt_c_syntax.proofs.TokenKinds.{next_less, word_less, meant_less}

pub prefix_less : {known : List Class} {i o : Input} {p : Prefix} → PrefixAt known i p o → length o < length i
prefix_less (g.sign m) = meant_less m
prefix_less (g.size_of b n) = next_less n
prefix_less (g.cast b n p m) = omega (arith, next_less n, type_less p, next_less m)

prefixes_less : {known : List Class} {i o : Input} {ps : List Prefix} → PrefixesAt known i ps o → length o ≤ length i
prefixes_less (g.no_prefix e) = omega arith
prefixes_less (g.one_prefix p q) = omega (arith, prefix_less p, prefixes_less q)

mutual
  pub role_less : {known : List Class} {d : ℕ} {r : Role} {i o : Input} {e : Expression} → RoleAt known d r i e o → length o < length i
  role_less (g.whole p) = level_less p
  role_less (g.argument h p) = level_less p
  role_less (g.type_argument h p) = type_less p
  role_less (g.value h p) = level_less p
  role_less (g.value_braces p) = braces_less p

  pub level_less : {known : List Class} {d n : ℕ} {i o : Input} {e : Expression} → LevelAt known d n i e o → length o < length i
  level_less (g.operand p q s) = omega (arith, prefixes_less p, primary_less q, suffixes_less s)
  level_less (g.operands p q) = omega (arith, level_less p, links_less q)

  links_less : {known : List Class} {d n : ℕ} {i o : Input} {ls : List Link} → LinksAt known d n i ls o → length o ≤ length i
  links_less (g.no_link e) = omega arith
  links_less (g.one_link p q) = omega (arith, link_less p, links_less q)

  pub link_less : {known : List Class} {d n : ℕ} {i o : Input} {l : Link} → LinkAt known d n i l o → length o < length i
  link_less (g.operated h m p) = omega (arith, meant_less m, level_less p)
  link_less (g.choice h n p m q) = omega (arith, next_less n, middle_less p, next_less m, level_less q)

  middle_less : {known : List Class} {d : ℕ} {i o : Input} {m : Option Expression} → MiddleAt known d i m o → length o ≤ length i
  middle_less (g.no_middle e) = omega arith
  middle_less (g.one_middle h p) = omega (arith, role_less p)

  primary_less : {known : List Class} {d : ℕ} {i o : Input} {e : Expression} → PrimaryAt known d i e o → length o < length i
  primary_less (g.name b p) = word_less p
  primary_less (g.number p) = word_less p
  primary_less (g.character p) = word_less p
  primary_less (g.text {i = i} e) = text_less i e
  primary_less (g.brackets n l s p m) = omega (arith, next_less n, role_less p, next_less m)
  primary_less (g.compound n l p m q) = omega (arith, next_less n, type_less p, next_less m, braces_less q)
  primary_less (g.measured n m p q) = omega (arith, next_less n, next_less m, type_less p, next_less q)
  primary_less (g.named_cast n m p q s t u) =
      omega (arith, next_less n, next_less m, type_less p, next_less q, next_less s, role_less t, next_less u)

  suffixes_less : {known : List Class} {d : ℕ} {i o : Input} {ss : List Suffix} → SuffixesAt known d i ss o → length o ≤ length i
  suffixes_less (g.no_suffix e) = omega arith
  suffixes_less (g.one_suffix p q) = omega (arith, suffix_less p, suffixes_less q)

  pub suffix_less : {known : List Class} {d : ℕ} {i o : Input} {s : Suffix} → SuffixAt known d i s o → length o < length i
  suffix_less (g.call n p m) = omega (arith, next_less n, arguments_less p, next_less m)
  suffix_less (g.index n p m) = omega (arith, next_less n, role_less p, next_less m)
  suffix_less (g.member n p) = omega (arith, next_less n, word_less p)
  suffix_less (g.arrow n p) = omega (arith, next_less n, word_less p)
  suffix_less (g.scope n p) = omega (arith, next_less n, word_less p)
  suffix_less (g.increment n) = next_less n
  suffix_less (g.decrement n) = next_less n

  pub arguments_less : {known : List Class} {d : ℕ} {i o : Input} {es : List Expression} → ArgumentsAt known d i es o → length o ≤ length i
  arguments_less (g.no_argument e) = omega arith
  arguments_less (g.one_argument h p s q) = omega (arith, role_less p, separator_less s, arguments_less q)

  pub braces_less : {known : List Class} {d : ℕ} {i o : Input} {xs : List Initialiser} → BracesAt known d i xs o → length o < length i
  braces_less (g.braces n p m) = omega (arith, next_less n, initialisers_less p, next_less m)

  initialisers_less : {known : List Class} {d : ℕ} {i o : Input} {xs : List Initialiser} → InitialisersAt known d i xs o →
      length o ≤ length i
  initialisers_less (g.no_initialiser e) = omega arith
  initialisers_less (g.one_initialiser h p s q) = omega (arith, initialiser_less p, separator_less s, initialisers_less q)

  pub initialiser_less : {known : List Class} {d : ℕ} {i o : Input} {x : Initialiser} → InitialiserAt known d i x o → length o < length i
  initialiser_less (g.plain h p) = role_less p
  initialiser_less (g.designated h p n q) = omega (arith, designators_less p, next_less n, role_less q)

  designators_less : {known : List Class} {d : ℕ} {i o : Input} {xs : List Designator} → DesignatorsAt known d i xs o →
      length o ≤ length i
  designators_less (g.no_designator e) = omega arith
  designators_less (g.one_designator p q) = omega (arith, designator_less p, designators_less q)

  pub designator_less : {known : List Class} {d : ℕ} {i o : Input} {x : Designator} → DesignatorAt known d i x o → length o < length i
  designator_less (g.member_of n p) = omega (arith, next_less n, word_less p)
  designator_less (g.index_of n p m) = omega (arith, next_less n, role_less p, next_less m)

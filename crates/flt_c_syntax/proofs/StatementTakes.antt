-- Each part of a statement takes a token.
use Rattle.std.proofs.Common.{ℕ, ◌≤◌, ◌<◌, List, length, arith}
use Rattle.std.specs.Prelude.{Option}
use Rattle.flt_c_tokens.specs.declared.token.Kind.{Kind}
use Rattle.flt_c_syntax.specs.StatementGrammar as g
use Rattle.flt_c_syntax.specs.StatementGrammar.{SpecifierAt, SpecifiersAt, BoundsAt, FormAt, DeclaredAt, FirstValueAt, DeclaratorAt}
use Rattle.flt_c_syntax.specs.StatementGrammar.{DeclaratorsAt, DeclarationAt, TestedAt, OptionalAt, FirstAt, LastAt, CalledAt, NestAt}
use Rattle.flt_c_syntax.specs.StatementGrammar.{StatementsAt, StatementAt, ElseIfsAt, OtherwiseAt, ElseBranchesAt}
use Rattle.flt_c_syntax.specs.Tokens.{Input}
use Rattle.flt_c_syntax.specs.declared.class.Class.{Class}
use Rattle.flt_c_syntax.specs.declared.class.Nest.{Nest}
use Rattle.flt_c_syntax.specs.declared.class.Nest.TheVariants as nests
use Rattle.flt_c_syntax.specs.declared.class.Part.TheVariants as parts
use Rattle.flt_c_syntax.specs.declared.tree.Branch.{Branch}
use Rattle.flt_c_syntax.specs.declared.tree.Declarator.{Declarator}
use Rattle.flt_c_syntax.specs.declared.tree.Expression.{Expression}
use Rattle.flt_c_syntax.specs.declared.tree.Form.{Form}
use Rattle.flt_c_syntax.specs.declared.tree.Place.{Place}
use Rattle.flt_c_syntax.specs.declared.tree.Specifier.{Specifier}
use Rattle.flt_c_syntax.specs.declared.tree.Statement.{Statement}
use Rattle.flt_c_syntax.proofs.Again.{separator_less, behind_less}
use Rattle.flt_c_syntax.proofs.ExpressionTakes.{role_less, arguments_less}
use Rattle.flt_c_syntax.proofs.Groups.{group_less, semicolon_less}
use Rattle.flt_c_syntax.proofs.TokenKinds.{next_less, word_less}

pub specifier_less : {i o : Input} {x : Specifier} → SpecifierAt i x o → length o < length i
specifier_less (g.type_word p) = word_less p
specifier_less (g.qualifier p) = word_less p
specifier_less (g.struct p) = word_less p
specifier_less (g.name e p) = word_less p
specifier_less (g.attribute p n) = omega (arith, word_less p, group_less _ _ n)
specifier_less (g.members e n) = group_less _ _ n

specifiers_less : {i o : Input} {xs : List Specifier} → SpecifiersAt i xs o → length o ≤ length i
specifiers_less (g.no_specifier e) = omega arith
specifiers_less (g.one_specifier p q) = omega (arith, specifier_less p, specifiers_less q)

bounds_less : {i o : Input} → BoundsAt i o → length o ≤ length i
bounds_less (g.no_bound e) = omega arith
bounds_less (g.one_bound e n p) = omega (arith, group_less _ _ n, bounds_less p)

form_less : {i o : Input} {f : Form} → FormAt i f o → length o ≤ length i
form_less (g.prototype e n) = omega (arith, group_less _ _ n)
form_less (g.array e h p) = bounds_less p
form_less (g.plain e h) = omega arith

declared_less : {i o : Input} {x : Place × (ℕ × (ℕ × Form))} → DeclaredAt i x o → length o < length i
declared_less (g.declared {i = i} e p q) = omega (arith, behind_less parts.Star i, word_less p, form_less q)
declared_less (g.pointer {i = i} {a = a} n p m q) =
    omega (arith, behind_less parts.Star i, next_less n, behind_less parts.Star a, word_less p, next_less m, group_less _ _ q)

first_value_less : {known : List Class} {d : ℕ} {i o : Input} {v : Option Expression} → FirstValueAt known d i v o → length o ≤ length i
first_value_less (g.no_value e) = omega arith
first_value_less (g.one_value n p) = omega (arith, next_less n, role_less p)

pub declarator_less : {known : List Class} {d : ℕ} {i o : Input} {x : Declarator} → DeclaratorAt known d i x o → length o < length i
declarator_less (g.declarator p q) = omega (arith, declared_less p, first_value_less q)

declarators_less : {known : List Class} {d : ℕ} {i o : Input} {xs : List Declarator} → DeclaratorsAt known d i xs o → length o ≤ length i
declarators_less (g.no_declarator e) = omega arith
declarators_less (g.one_declarator e p s q) = omega (arith, declarator_less p, separator_less s, declarators_less q)

declaration_less : {known : List Class} {d : ℕ} {i o : Input} {s : Statement} → DeclarationAt known d i s o → length o < length i
declaration_less (g.declaration p q n) = omega (arith, specifiers_less p, declarators_less q, next_less n)

pub tested_less : {known : List Class} {d : ℕ} {i o : Input} {e : Expression} → TestedAt known d i e o → length o < length i
tested_less (g.tested n p m) = omega (arith, next_less n, role_less p, next_less m)

optional_less : {known : List Class} {d : ℕ} {close : Kind} {i o : Input} {e : Option Expression} → OptionalAt known d close i e o →
    length o < length i
optional_less (g.without n) = next_less n
optional_less (g.with_one e p n) = omega (arith, role_less p, next_less n)

first_less : {known : List Class} {d : ℕ} {i o : Input} {ss : List Statement} → FirstAt known d i ss o → length o < length i
first_less (g.declares e p) = declaration_less p
first_less (g.nothing e n) = next_less n
first_less (g.expresses e h p n) = omega (arith, role_less p, next_less n)

last_less : {known : List Class} {d : ℕ} {i o : Input} {l : Option Expression} → LastAt known d i l o → length o ≤ length i
last_less (g.no_last e) = omega arith
last_less (g.one_last n p) = omega (arith, next_less n, role_less p)

called_less : {known : List Class} {d : ℕ} {i o : Input} {es : List Expression} → CalledAt known d i es o → length o < length i
called_less (g.called n p m) = omega (arith, next_less n, arguments_less p, next_less m)

mutual
  pub nest_less : {known : List Class} {d : ℕ} {n : Nest} {i o : Input} {ss : List Statement} → NestAt known d n i ss o →
      length o ≤ length i
  nest_less (g.block n p m) = omega (arith, next_less n, statements_less p, next_less m)
  nest_less (g.single e h p) = omega (arith, statement_less p)
  nest_less (g.branch p) = statements_less p

  -- a body takes a token
  pub body_less : {known : List Class} {d : ℕ} {i o : Input} {ss : List Statement} → NestAt known d nests.Body i ss o → length o < length i
  body_less (g.block n p m) = omega (arith, next_less n, statements_less p, next_less m)
  body_less (g.single e h p) = statement_less p

  statements_less : {known : List Class} {d : ℕ} {i o : Input} {ss : List Statement} → StatementsAt known d i ss o → length o ≤ length i
  statements_less (g.no_statement e) = omega arith
  statements_less (g.one_statement e p q) = omega (arith, statement_less p, statements_less q)

  pub statement_less : {known : List Class} {d : ℕ} {i o : Input} {s : Statement} → StatementAt known d i s o → length o < length i
  statement_less (g.empty n) = next_less n
  statement_less (g.block_statement e p) = body_less p
  statement_less (g.label e p n) = omega (arith, word_less p, next_less n)
  statement_less (g.leave_name e h p n) = omega (arith, word_less p, next_less n)
  statement_less (g.declares_here a b c p) = declaration_less p
  statement_less (g.macro_loop a b c e p q r) = omega (arith, word_less p, called_less q, body_less r)
  statement_less (g.macro a b c e h p q) = omega (arith, word_less p, called_less q)
  statement_less (g.expresses_name a b c e h l p n) = omega (arith, role_less p, next_less n)
  statement_less (g.expresses_here e p n) = omega (arith, role_less p, next_less n)
  statement_less (g.choice n p q r s) = omega (arith, next_less n, tested_less p, body_less q, else_ifs_less r, otherwise_less s)
  statement_less (g.while_loop n p q) = omega (arith, next_less n, tested_less p, body_less q)
  statement_less (g.do_loop n p m q l) = omega (arith, next_less n, body_less p, next_less m, tested_less q, next_less l)
  statement_less (g.for_loop n m p q r s) =
      omega (arith, next_less n, next_less m, first_less p, optional_less q, optional_less r, body_less s)
  statement_less (g.switch n p q) = omega (arith, next_less n, tested_less p, body_less q)
  statement_less (g.case n p q m) = omega (arith, next_less n, role_less p, last_less q, next_less m)
  statement_less (g.default n m) = omega (arith, next_less n, next_less m)
  statement_less (g.goto n p m) = omega (arith, next_less n, word_less p, next_less m)
  statement_less (g.return n p) = omega (arith, next_less n, optional_less p)
  statement_less (g.break n m) = omega (arith, next_less n, next_less m)
  statement_less (g.continue n m) = omega (arith, next_less n, next_less m)
  statement_less (g.leave n m) = omega (arith, next_less n, next_less m)
  statement_less (g.finally n p m q) = omega (arith, next_less n, body_less p, next_less m, body_less q)
  statement_less (g.except n p m q r) = omega (arith, next_less n, body_less p, next_less m, tested_less q, body_less r)
  statement_less (g.typedef e n) = semicolon_less _ _ n
  statement_less (g.attribute_here p n) = omega (arith, word_less p, group_less _ _ n)
  statement_less (g.directed n p q m) = omega (arith, word_less n, nest_less p, else_branches_less q, next_less m)

  else_ifs_less : {known : List Class} {d : ℕ} {i o : Input} {bs : List Branch} → ElseIfsAt known d i bs o → length o ≤ length i
  else_ifs_less (g.no_else_if e) = omega arith
  else_ifs_less (g.one_else_if n m p q r) = omega (arith, next_less n, next_less m, tested_less p, body_less q, else_ifs_less r)

  otherwise_less : {known : List Class} {d : ℕ} {i o : Input} {ss : List Statement} → OtherwiseAt known d i ss o → length o ≤ length i
  otherwise_less (g.no_otherwise e) = omega arith
  otherwise_less (g.one_otherwise n p) = omega (arith, next_less n, body_less p)

  else_branches_less : {known : List Class} {d : ℕ} {i o : Input} {bs : List Branch} → ElseBranchesAt known d i bs o →
      length o ≤ length i
  else_branches_less (g.no_branch e) = omega arith
  else_branches_less (g.one_branch n p q) = omega (arith, word_less n, nest_less p, else_branches_less q)

-- What is spelled so is read: declarations and statements.
use Rattle.std.proofs.Common.{◌≡◌, ℕ, zero, suc, ◌<◌, Bool, true, false, List, length, Ok, refl, sym, ap, ◌∙◌, arith}
use Rattle.std.specs.Prelude.{Option, Some, None, if◌then◌else◌, not}
use Rattle.flt_c_tokens.specs.declared.token.Kind.{Kind}
use Rattle.flt_c_tokens.specs.declared.token.Kind.TheVariants as k
use Rattle.flt_c_syntax.specs.Cursor.{Parser, ◌<$>◌, eat, expect, word}
use Rattle.flt_c_syntax.specs.Expression.{expression}
use Rattle.flt_c_syntax.specs.Groups.{behind_semicolon, follows_specifier, begins_declaration, begins_declaration_by}
use Rattle.flt_c_syntax.specs.Groups.{begins_name_label, begins_leave, begins_expression}
use Rattle.flt_c_syntax.specs.Statement.{skipped, group, up_to_semicolon, specifier_by, specifier, bounds_from, bounds, form, declared}
use Rattle.flt_c_syntax.specs.Statement.{first_value, next_declarator, declaration, tested, optional, first, last, expressed, arguments}
use Rattle.flt_c_syntax.specs.Statement.{case, else_if, otherwise, choice, counting, repetition, handler_by, guarded, else_branch}
use Rattle.flt_c_syntax.specs.Statement.{directed, named, statement_by, statement, next_statement, body, nested_as, nested, max_depth}
use Rattle.flt_c_syntax.specs.Statement.{function_body, end, function_pointer, plainly_declared, plain_statement_by, plain_named}
use Rattle.flt_c_syntax.specs.StatementGrammar as g
use Rattle.flt_c_syntax.specs.StatementGrammar.{GroupAt, ends_specifiers_by, SpecifierAt, SpecifiersAt, BoundsAt, FormAt, DeclaredAt}
use Rattle.flt_c_syntax.specs.StatementGrammar.{FirstValueAt, DeclaratorsAt, DeclarationAt, TestedAt, OptionalAt, FirstAt}
use Rattle.flt_c_syntax.specs.StatementGrammar.{LastAt, CalledAt, NestAt, StatementsAt, StatementAt, ElseIfsAt, OtherwiseAt}
use Rattle.flt_c_syntax.specs.StatementGrammar.{ElseBranchesAt, BodyAt}
use Rattle.flt_c_syntax.specs.ExpressionGrammar.{RoleAt}
use Rattle.flt_c_syntax.specs.Tokens.{Input, kind, place, next, same_kind, sees, behind}
use Rattle.flt_c_syntax.specs.Words.{Next}
use Rattle.flt_c_syntax.specs.declared.class.Class.{Class}
use Rattle.flt_c_syntax.specs.declared.class.Nest.{Nest}
use Rattle.flt_c_syntax.specs.declared.class.Nest.TheVariants as nests
use Rattle.flt_c_syntax.specs.declared.class.Part.TheVariants as parts
use Rattle.flt_c_syntax.specs.declared.class.Role.{Role}
use Rattle.flt_c_syntax.specs.declared.class.Role.TheVariants as roles
use Rattle.flt_c_syntax.specs.declared.tree.Branch.{Branch}
use Rattle.flt_c_syntax.specs.declared.tree.Declarator.{Declarator}
use Rattle.flt_c_syntax.specs.declared.tree.Expression.{Expression}
use Rattle.flt_c_syntax.specs.declared.tree.Form.{Form}
use Rattle.flt_c_syntax.specs.declared.tree.Place.{Place}
use Rattle.flt_c_syntax.specs.declared.tree.Specifier.{Specifier}
use Rattle.flt_c_syntax.specs.declared.tree.Specifier.TheVariants as specifiers
use Rattle.flt_c_syntax.specs.declared.tree.Statement.{Statement}
use Rattle.flt_c_syntax.specs.declared.tree.Statement.TheVariants as made
use Rattle.flt_c_syntax.proofs.Again.{then_again, expect_again, word_again, separator_again, Steps, stops, goes, many_again, separator_less}
use Rattle.flt_c_syntax.proofs.ExpressionComplete.{expression_again, arguments_steps}
use Rattle.flt_c_syntax.proofs.Groups.{group_less}
use Rattle.flt_c_syntax.proofs.StatementTakes.{specifier_less, declarator_less, tested_less, nest_less, body_less, statement_less}
use Rattle.flt_c_syntax.proofs.TokenKinds.{differ, kind_is, rest_is, sees_it, word_kind_is, word_rest_is, sees_word, next_less, word_less}

-- ---- tokens and groups

eat_again : {kd : Kind} {i o : Input} → Next kd i o → eat kd i ≡ Ok (true, o)
unfolding eat
eat_again n = rw (sees_it n, rest_is n) refl

eat_none : (kd : Kind) (i : Input) → sees kd i ≡ false → eat kd i ≡ Ok (false, i)
unfolding eat
eat_none kd i e = rw e refl

group_again : (i o : Input) → GroupAt i o → group i ≡ Ok (tt, o)
unfolding group
group_again i o e = ap (λ m. skipped m i) e

semicolon_again : (i o : Input) → behind_semicolon i ≡ Some o → up_to_semicolon i ≡ Ok (tt, o)
unfolding up_to_semicolon
semicolon_again i o e = ap (λ m. skipped m i) e

-- ---- declarations

specifier_at : (kd : Kind) (i : Input) → kind i ≡ kd → specifier i ≡ specifier_by kd i
unfolding specifier
specifier_at kd i e = ap (λ x. specifier_by x i) e

specifier_again : {i o : Input} {x : Specifier} → SpecifierAt i x o → specifier i ≡ Ok (Some x, o)
specifier_again {i = i} (g.type_word p) = specifier_at k.TypeWord i (word_kind_is p) ∙ then_again _ (word_again p) refl
specifier_again {i = i} (g.qualifier p) = specifier_at k.Qualifier i (word_kind_is p) ∙ then_again _ (word_again p) refl
specifier_again {i = i} (g.struct p) = specifier_at k.Struct i (word_kind_is p) ∙ then_again _ (word_again p) refl
specifier_again {i = i} (g.name e p) = specifier_at k.Name i (word_kind_is p) ∙ rw e (then_again _ (word_again p) refl)
specifier_again {i = i} (g.attribute p n) =
    specifier_at k.Attribute i (word_kind_is p) ∙ then_again _ (word_again p) (then_again _ (group_again _ _ n) refl)
specifier_again {i = i} (g.members e n) = specifier_at k.OpenBrace i e ∙ then_again _ (group_again _ _ n) refl

name_ends : (i : Input) (b : Bool) → follows_specifier (kind (next i)) ≡ b → not b ≡ true →
    (if b then ((λ w. Some (specifiers.Word w)) <$> word k.Name) i else Ok (None, i)) ≡ Ok (None, i)
name_ends i true e h = elim (differ h) [ ]
name_ends i false e h = refl

no_specifier_by : (i : Input) (kd : Kind) → ends_specifiers_by kd (next i) ≡ true → specifier_by kd i ≡ Ok (None, i)
no_specifier_by i k.TypeWord e = elim (differ e) [ ]
no_specifier_by i k.Qualifier e = elim (differ e) [ ]
no_specifier_by i k.Struct e = elim (differ e) [ ]
no_specifier_by i k.Attribute e = elim (differ e) [ ]
no_specifier_by i k.OpenBrace e = elim (differ e) [ ]
no_specifier_by i k.Name e = name_ends i (follows_specifier (kind (next i))) refl e
no_specifier_by i kd e = refl

specifiers_steps : {i o : Input} {xs : List Specifier} → SpecifiersAt i xs o → Steps specifier i xs o
unfolding specifier
specifiers_steps (g.no_specifier {i = i} e) = stops (no_specifier_by i (kind i) e)
specifiers_steps (g.one_specifier p q) = goes (specifier_again p) (specifier_less p) (specifiers_steps q)

bounds_from_again : {i o : Input} → BoundsAt i o → (n : ℕ) → length i < n → bounds_from n i ≡ Ok (tt, o)
unfolding bounds_from
bounds_from_again p zero h = absurd (omega arith)
bounds_from_again (g.no_bound e) (suc n) h = rw e refl
bounds_from_again (g.one_bound e m p) (suc n) h =
    rw e (then_again _ (group_again _ _ m) (bounds_from_again p n (omega (arith, group_less _ _ m))))

form_again : {i o : Input} {f : Form} → FormAt i f o → form i ≡ Ok (f, o)
unfolding form bounds
form_again (g.prototype e n) = rw e (then_again _ (group_again _ _ n) refl)
form_again {i = i} (g.array e h p) = rw (e, h) (then_again _ (bounds_from_again p (suc (length i)) (omega arith)) refl)
form_again (g.plain e h) = rw (e, h) refl

declared_again : {i o : Input} {x : Place × (ℕ × (ℕ × Form))} → DeclaredAt i x o → declared i ≡ Ok (x, o)
unfolding declared function_pointer plainly_declared
declared_again (g.declared {i = i} e p q) =
    then_again _ (eat_none k.OpenParen (behind parts.Star i) e) (then_again _ (word_again p) (then_again _ (form_again q) refl))
declared_again (g.pointer n p m q) =
    then_again _ (eat_again n) (then_again _ (word_again p) (then_again _ (expect_again m) (then_again _ (group_again _ _ q) refl)))

module _ (known : List Class) (d : ℕ) where
  inside : {r : Role} {i o : Input} {e : Expression} → RoleAt known d r i e o → expression known d r i ≡ Ok (e, o)
  inside p = expression_again known d _ _ _ _ p

  first_value_again : {i o : Input} {v : Option Expression} → FirstValueAt known d i v o → first_value known d i ≡ Ok (v, o)
  unfolding first_value
  first_value_again (g.no_value {i = i} e) = then_again _ (eat_none k.Assign i e) refl
  first_value_again (g.one_value n p) = then_again _ (eat_again n) (then_again _ (inside p) refl)

  declarators_steps : {i o : Input} {xs : List Declarator} → DeclaratorsAt known d i xs o → Steps (next_declarator known d) i xs o
  unfolding next_declarator
  declarators_steps (g.no_declarator e) = stops (rw e refl)
  declarators_steps (g.one_declarator e (g.declarator p q) s r) =
      goes (rw e (then_again _ (then_again _ (declared_again p) (then_again _ (first_value_again q) refl))
      (then_again _ (separator_again s) refl)))
      (omega (arith, declarator_less {known = known} {d = d} (g.declarator p q), separator_less s)) (declarators_steps r)

  declaration_again : {i o : Input} {s : Statement} → DeclarationAt known d i s o → declaration known d (place i) i ≡ Ok (s, o)
  unfolding declaration
  declaration_again (g.declaration p q n) =
      then_again _ (many_again (specifiers_steps p)) (then_again _ (many_again (declarators_steps q)) (then_again _ (expect_again n) refl))

  tested_again : {i o : Input} {e : Expression} → TestedAt known d i e o → tested known d i ≡ Ok (e, o)
  unfolding tested
  tested_again (g.tested n p m) = then_again _ (expect_again n) (then_again _ (inside p) (then_again _ (expect_again m) refl))

  optional_again : {close : Kind} {i o : Input} {e : Option Expression} → OptionalAt known d close i e o →
      optional known d close i ≡ Ok (e, o)
  unfolding optional
  optional_again (g.without n) = rw (sees_it n, rest_is n) refl
  optional_again (g.with_one e p n) = rw e (then_again _ (inside p) (then_again _ (expect_again n) refl))

  first_again : {i o : Input} {ss : List Statement} → FirstAt known d i ss o → first known d i ≡ Ok (ss, o)
  unfolding first
  first_again (g.declares e p) = rw e (then_again _ (declaration_again p) refl)
  first_again (g.nothing e n) = rw (e, sees_it n, rest_is n) refl
  first_again (g.expresses e h p n) = rw (e, h) (then_again _ (inside p) (then_again _ (expect_again n) refl))

  last_again : {i o : Input} {l : Option Expression} → LastAt known d i l o → last known d i ≡ Ok (l, o)
  unfolding last
  last_again (g.no_last {i = i} e) = then_again _ (eat_none k.Ellipsis i e) refl
  last_again (g.one_last n p) = then_again _ (eat_again n) (then_again _ (inside p) refl)

  called_again : {i o : Input} {es : List Expression} → CalledAt known d i es o → arguments known d i ≡ Ok (es, o)
  unfolding arguments
  called_again (g.called n p m) =
      then_again _ (expect_again n) (then_again _ (many_again (arguments_steps known d (expression_again known d) p))
      (then_again _ (expect_again m) refl))

-- ---- statements

declares_at : (known : List Class) (d : ℕ) (inner : Nest → Parser (List Statement)) (i : Input) (kd : Kind) → begins_name_label i ≡ false →
    begins_leave i ≡ false → begins_declaration i ≡ true → kind i ≡ kd →
    statement_by known d inner (place i) kd i ≡ declaration known d (place i) i
unfolding plain_statement_by named plain_named begins_declaration
declares_at known d inner i k.Name a b c e = rw (a, b, c) refl
declares_at known d inner i k.TypeWord a b c e = refl
declares_at known d inner i k.Qualifier a b c e = refl
declares_at known d inner i k.Struct a b c e = refl
declares_at known d inner i kd a b c e = elim (differ (ap (λ x. begins_declaration_by x (next i)) (sym e) ∙ c)) [ ]

expresses_at : (known : List Class) (d : ℕ) (inner : Nest → Parser (List Statement)) (i : Input) (kd : Kind) → begins_expression kd ≡ true →
    statement_by known d inner (place i) kd i ≡ expressed known d (place i) i
unfolding plain_statement_by
expresses_at known d inner i k.Name e = elim (differ e) [ ]
expresses_at known d inner i k.Semicolon e = elim (differ e) [ ]
expresses_at known d inner i k.OpenBrace e = elim (differ e) [ ]
expresses_at known d inner i k.If e = elim (differ e) [ ]
expresses_at known d inner i k.While e = elim (differ e) [ ]
expresses_at known d inner i k.Do e = elim (differ e) [ ]
expresses_at known d inner i k.For e = elim (differ e) [ ]
expresses_at known d inner i k.Switch e = elim (differ e) [ ]
expresses_at known d inner i k.Case e = elim (differ e) [ ]
expresses_at known d inner i k.Default e = elim (differ e) [ ]
expresses_at known d inner i k.Goto e = elim (differ e) [ ]
expresses_at known d inner i k.Return e = elim (differ e) [ ]
expresses_at known d inner i k.Break e = elim (differ e) [ ]
expresses_at known d inner i k.Continue e = elim (differ e) [ ]
expresses_at known d inner i k.Leave e = elim (differ e) [ ]
expresses_at known d inner i k.Try e = elim (differ e) [ ]
expresses_at known d inner i k.Typedef e = elim (differ e) [ ]
expresses_at known d inner i k.Attribute e = elim (differ e) [ ]
expresses_at known d inner i k.GroupIf e = elim (differ e) [ ]
expresses_at known d inner i k.TypeWord e = elim (differ e) [ ]
expresses_at known d inner i k.Qualifier e = elim (differ e) [ ]
expresses_at known d inner i k.Struct e = elim (differ e) [ ]
expresses_at known d inner i kd e = refl

module _ (known : List Class) (d : ℕ)
    (inner : (n : Nest) (i o : Input) (ss : List Statement) → NestAt known d n i ss o → nested known d n i ≡ Ok (ss, o)) where
  nested_inside : {n : Nest} {i o : Input} {ss : List Statement} → NestAt known d n i ss o → nested known d n i ≡ Ok (ss, o)
  nested_inside p = inner _ _ _ _ p

  else_ifs_steps : {i o : Input} {bs : List Branch} → ElseIfsAt known d i bs o → Steps (else_if known d (nested known d)) i bs o
  unfolding else_if
  else_ifs_steps (g.no_else_if e) = stops (rw e refl)
  else_ifs_steps (g.one_else_if n m p q r) =
      goes (rw (sees_it n, rest_is n, sees_it m, rest_is m) (then_again _ (tested_again known d p) (then_again _ (nested_inside q) refl)))
      (omega (arith, next_less n, next_less m, tested_less p, body_less q)) (else_ifs_steps r)

  otherwise_again : {i o : Input} {ss : List Statement} → OtherwiseAt known d i ss o → otherwise known d (nested known d) i ≡ Ok (ss, o)
  unfolding otherwise
  otherwise_again (g.no_otherwise {i = i} e) = then_again _ (eat_none k.Else i e) refl
  otherwise_again (g.one_otherwise n p) = then_again _ (eat_again n) (nested_inside p)

  else_branches_steps : {i o : Input} {bs : List Branch} → ElseBranchesAt known d i bs o →
      Steps (else_branch known d (nested known d)) i bs o
  unfolding else_branch
  else_branches_steps (g.no_branch e) = stops (rw e refl)
  else_branches_steps (g.one_branch n p q) =
      goes (rw (sees_word n) (then_again _ (word_again n) (then_again _ (nested_inside p) refl)))
      (omega (arith, word_less n, nest_less p)) (else_branches_steps q)

  -- what is read at a token of the kind
  at_kind : (kd : Kind) (i : Input) → kind i ≡ kd →
      statement known d (nested known d) i ≡ statement_by known d (nested known d) (place i) kd i
  unfolding statement
  at_kind kd i e = ap (λ x. statement_by known d (nested known d) (place i) x i) e

  at_next : {kd : Kind} {i a : Input} → Next kd i a →
      statement known d (nested known d) i ≡ statement_by known d (nested known d) (place i) kd i
  at_next {kd = kd} {i = i} n = at_kind kd i (kind_is n)

  expressed_again : {i a o : Input} {e : Expression} → RoleAt known d roles.Whole i e a → Next k.Semicolon a o →
      expressed known d (place i) i ≡ Ok (made.Expression (place i) e, o)
  unfolding expressed
  expressed_again p n = then_again _ (inside known d p) (then_again _ (expect_again n) refl)

  statement_again : {i o : Input} {s : Statement} → StatementAt known d i s o → statement known d (nested known d) i ≡ Ok (s, o)
  unfolding plain_statement_by named plain_named choice counting repetition case guarded directed
  statement_again {i = i} (g.empty n) = at_next n ∙ ap (λ x. Ok (made.Empty (place i), x)) (rest_is n)
  statement_again {i = i} (g.block_statement e p) = at_kind k.OpenBrace i e ∙ then_again _ (nested_inside p) refl
  statement_again {i = i} (g.label e p n) =
      at_kind k.Name i (word_kind_is p) ∙ rw e (then_again _ (word_again p) (then_again _ (expect_again n) refl))
  statement_again {i = i} (g.leave_name e h p n) =
      at_kind k.Name i (word_kind_is p) ∙ rw (e, h) (then_again _ (ap (expect k.Semicolon) (word_rest_is p) ∙ expect_again n) refl)
  statement_again {i = i} (g.declares_here a b c p) =
      at_kind (kind i) i refl ∙ declares_at known d (nested known d) i (kind i) a b c refl ∙ declaration_again known d p
  statement_again {i = i} (g.macro_loop a b c e p q r) =
      at_kind k.Name i (word_kind_is p) ∙ rw (a, b, c, e) (then_again _ (word_again p) (then_again _ (called_again known d q)
      (then_again _ (nested_inside r) refl)))
  statement_again {i = i} (g.macro a b c e h p q) =
      at_kind k.Name i (word_kind_is p) ∙ rw (a, b, c, e, h) (then_again _ (word_again p) (then_again _ (called_again known d q) refl))
  statement_again {i = i} (g.expresses_name f a b c e h p n) = at_kind k.Name i f ∙ rw (a, b, c, e, h) (expressed_again p n)
  statement_again {i = i} (g.expresses_here e p n) =
      at_kind (kind i) i refl ∙ expresses_at known d (nested known d) i (kind i) e ∙ expressed_again p n
  statement_again (g.choice n p q r s) =
      at_next n ∙ then_again _ (ap (tested known d) (rest_is n) ∙ tested_again known d p) (then_again _ (nested_inside q)
      (then_again _ (many_again (else_ifs_steps r)) (then_again _ (otherwise_again s) refl)))
  statement_again (g.while_loop n p q) =
      at_next n ∙ then_again _ (ap (tested known d) (rest_is n) ∙ tested_again known d p) (then_again _ (nested_inside q) refl)
  statement_again (g.do_loop n p m q l) =
      at_next n ∙ then_again _ (ap (nested known d nests.Body) (rest_is n) ∙ nested_inside p) (then_again _ (expect_again m)
      (then_again _ (tested_again known d q) (then_again _ (expect_again l) refl)))
  statement_again (g.for_loop n m p q r s) =
      at_next n ∙ then_again _ (ap (expect k.OpenParen) (rest_is n) ∙ expect_again m) (then_again _ (first_again known d p)
      (then_again _ (optional_again known d q) (then_again _ (optional_again known d r) (then_again _ (nested_inside s) refl))))
  statement_again (g.switch n p q) =
      at_next n ∙ then_again _ (ap (tested known d) (rest_is n) ∙ tested_again known d p) (then_again _ (nested_inside q) refl)
  statement_again (g.case n p q m) =
      at_next n ∙ then_again _ (ap (expression known d roles.Argument) (rest_is n) ∙ inside known d p) (then_again _ (last_again known d q)
      (then_again _ (expect_again m) refl))
  statement_again (g.default n m) = at_next n ∙ then_again _ (ap (expect k.Colon) (rest_is n) ∙ expect_again m) refl
  statement_again (g.goto n p m) =
      at_next n ∙ then_again _ (ap (word k.Name) (rest_is n) ∙ word_again p) (then_again _ (expect_again m) refl)
  statement_again (g.return n p) =
      at_next n ∙ then_again _ (ap (optional known d k.Semicolon) (rest_is n) ∙ optional_again known d p) refl
  statement_again (g.break n m) = at_next n ∙ then_again _ (ap (expect k.Semicolon) (rest_is n) ∙ expect_again m) refl
  statement_again (g.continue n m) = at_next n ∙ then_again _ (ap (expect k.Semicolon) (rest_is n) ∙ expect_again m) refl
  statement_again (g.leave n m) = at_next n ∙ then_again _ (ap (expect k.Semicolon) (rest_is n) ∙ expect_again m) refl
  statement_again {i = i} (g.finally {b = b} {ss = ss} n p m q) =
      at_next n ∙ then_again _ (ap (nested known d nests.Body) (rest_is n) ∙ nested_inside p)
      (ap (λ x. handler_by known d (nested known d) (place i) ss x b) (kind_is m)
      ∙ then_again _ (ap (nested known d nests.Body) (rest_is m) ∙ nested_inside q) refl)
  statement_again {i = i} (g.except {b = b} {ss = ss} n p m q r) =
      at_next n ∙ then_again _ (ap (nested known d nests.Body) (rest_is n) ∙ nested_inside p)
      (ap (λ x. handler_by known d (nested known d) (place i) ss x b) (kind_is m)
      ∙ then_again _ (ap (tested known d) (rest_is m) ∙ tested_again known d q) (then_again _ (nested_inside r) refl))
  statement_again {i = i} (g.typedef e n) = at_kind k.Typedef i e ∙ then_again _ (semicolon_again _ _ n) refl
  statement_again {i = i} (g.attribute_here p n) =
      at_kind k.Attribute i (word_kind_is p) ∙ then_again _ (word_again p) (then_again _ (group_again _ _ n) refl)
  statement_again {i = i} (g.directed n p q m) =
      at_kind k.GroupIf i (word_kind_is n) ∙ then_again _ (word_again n) (then_again _ (nested_inside p)
      (then_again _ (many_again (else_branches_steps q)) (then_again _ (expect_again m) refl)))

  statements_steps : {i o : Input} {ss : List Statement} → StatementsAt known d i ss o →
      Steps (next_statement known d (nested known d)) i ss o
  unfolding next_statement
  statements_steps (g.no_statement e) = stops (rw e refl)
  statements_steps (g.one_statement e p q) = goes (rw e (then_again _ (statement_again p) refl)) (statement_less p) (statements_steps q)

  nested_as_again : (n : Nest) (i o : Input) (ss : List Statement) → NestAt known (suc d) n i ss o →
      nested_as known d (nested known d) n i ≡ Ok (ss, o)
  unfolding body
  nested_as_again n i o ss (g.block m p l) =
      rw (sees_it m) (then_again _ (expect_again m) (then_again _ (many_again (statements_steps p)) (then_again _ (expect_again l) refl)))
  nested_as_again n i o ss (g.single e h p) = rw (e, h) (then_again _ (statement_again p) refl)
  nested_as_again n i o ss (g.branch p) = many_again (statements_steps p)

-- statements that are spelled are read
pub nested_again : (known : List Class) (d : ℕ) (n : Nest) (i o : Input) (ss : List Statement) → NestAt known d n i ss o →
    nested known d n i ≡ Ok (ss, o)
unfolding nested
nested_again known zero n i o ss p = elim p [ ]
nested_again known (suc d) n i o ss p = nested_as_again known d (nested_again known d) n i o ss p

end_again : (o : Input) → kind o ≡ k.End → end o ≡ Ok (tt, o)
unfolding end same_kind
end_again o h = rw h refl

-- a body that is spelled is read
pub body_again : (known : List Class) (i : Input) (ss : List Statement) → BodyAt known max_depth i ss →
    (o : Input) × (function_body known i ≡ Ok (ss, o))
unfolding function_body
body_again known i ss (g.body {o = o} e p h) =
    (o, rw e (then_again _ (nested_again known max_depth nests.Body i o ss p) (then_again _ (end_again o h) refl)))

-- What is spelled so is read: expressions.
use Rattle.std.proofs.Common.{◌≡◌, ℕ, zero, suc, true, false, List, Ok, refl, sym, ap, ◌∙◌, arith}
use Rattle.std.specs.Prelude.{Option, Some, None, is_some}
use Rattle.flt_c_tokens.specs.declared.token.Kind.{Kind}
use Rattle.flt_c_tokens.specs.declared.token.Kind.TheVariants as k
use Rattle.flt_c_syntax.specs.Cursor.{word, many}
use Rattle.flt_c_syntax.specs.Expression.{type_name, sign_by, prefix_by, prefix, designator_by, designator, initialiser, next_initialiser}
use Rattle.flt_c_syntax.specs.Expression.{braces, next_argument, suffix_by, suffix, bracketed, named_cast, measured, primary_by, primary}
use Rattle.flt_c_syntax.specs.Expression.{unary, middle, link, level, argument, value, expression_as, expression, texts}
use Rattle.flt_c_syntax.specs.ExpressionGrammar as g
use Rattle.flt_c_syntax.specs.ExpressionGrammar.{PrefixAt, PrefixesAt, RoleAt, LevelAt, LinksAt, LinkAt, MiddleAt, PrimaryAt, SuffixesAt}
use Rattle.flt_c_syntax.specs.ExpressionGrammar.{SuffixAt, ArgumentsAt, BracesAt, InitialisersAt, InitialiserAt, DesignatorsAt}
use Rattle.flt_c_syntax.specs.ExpressionGrammar.{DesignatorAt}
use Rattle.flt_c_syntax.specs.Operators.{operator_of, prefix_of, begins_suffix, begins_designator}
use Rattle.flt_c_syntax.specs.Tokens.{Input, kind, place, next, same_kind, sees}
use Rattle.flt_c_syntax.specs.Types.{begins_text, begins_prefix, begins_prefix_by}
use Rattle.flt_c_syntax.specs.Words.{Next}
use Rattle.flt_c_syntax.specs.declared.class.Class.{Class}
use Rattle.flt_c_syntax.specs.declared.class.Role.{Role}
use Rattle.flt_c_syntax.specs.declared.class.Role.TheVariants as roles
use Rattle.flt_c_syntax.specs.declared.tree.Designator.{Designator}
use Rattle.flt_c_syntax.specs.declared.tree.Expression.{Expression}
use Rattle.flt_c_syntax.specs.declared.tree.Initialiser.{Initialiser}
use Rattle.flt_c_syntax.specs.declared.tree.Link.{Link}
use Rattle.flt_c_syntax.specs.declared.tree.Prefix.{Prefix}
use Rattle.flt_c_syntax.specs.declared.tree.Prefix.TheVariants as prefixes
use Rattle.flt_c_syntax.specs.declared.tree.Suffix.{Suffix}
use Rattle.flt_c_syntax.specs.declared.tree.Suffix.TheVariants as suffixes
use Rattle.flt_c_syntax.proofs.Again.{then_again, expect_again, word_again, separator_again, type_again, no_text, Steps, stops, goes}
use Rattle.flt_c_syntax.proofs.Again.{many_again, separator_less}
use Rattle.flt_c_syntax.proofs.ExpressionTakes.{prefix_less, role_less, link_less, suffix_less, initialiser_less, designator_less}
use Rattle.flt_c_syntax.proofs.TokenKinds.{differ, none_some, kind_is, rest_is, sees_it, word_kind_is, means, left_is}

-- ---- prefixes

sign_by_again : (i o : Input) (kd : Kind) (p : Prefix) → kind i ≡ kd → prefix_of kd ≡ Some p → next i ≡ o → prefix_by kd i ≡ Ok (p, o)
sign_by_again i o k.OpenParen p h e l = elim (none_some p e) [ ]
sign_by_again i o k.Sizeof p h e l = elim (none_some p e) [ ]
sign_by_again i o kd p h e l = ap (λ m. sign_by m i) e ∙ ap (λ x. Ok (p, x)) l

sign_begins : (known : List Class) (i : Input) (kd : Kind) (p : Prefix) → prefix_of kd ≡ Some p → begins_prefix_by known kd i ≡ true
sign_begins known i k.OpenParen p e = elim (none_some p e) [ ]
sign_begins known i k.Sizeof p e = elim (none_some p e) [ ]
sign_begins known i kd p e = ap is_some e

prefix_begins : {known : List Class} {i o : Input} {p : Prefix} → PrefixAt known i p o → begins_prefix known i ≡ true
unfolding begins_prefix
prefix_begins {known = known} {i = i} (g.sign {p = p} m) = sign_begins known (next i) (kind i) p (means m)
prefix_begins (g.size_of b n) = b
prefix_begins (g.cast b n p m) = b

prefix_here_again : {known : List Class} {i o : Input} {p : Prefix} → PrefixAt known i p o → prefix_by (kind i) i ≡ Ok (p, o)
prefix_here_again {i = i} {o = o} (g.sign {p = p} m) = sign_by_again i o (kind i) p refl (means m) (left_is m)
prefix_here_again {i = i} (g.size_of b n) = ap (λ x. prefix_by x i) (kind_is n) ∙ ap (λ x. Ok (prefixes.SizeOf, x)) (rest_is n)
prefix_here_again {i = i} (g.cast b n p m) =
    ap (λ x. prefix_by x i) (kind_is n) ∙ then_again _ (ap type_name (rest_is n) ∙ type_again p) (then_again _ (expect_again m) refl)

prefix_again : {known : List Class} {i o : Input} {p : Prefix} → PrefixAt known i p o → prefix known i ≡ Ok (Some p, o)
unfolding prefix
prefix_again p = rw (prefix_begins p) (then_again _ (prefix_here_again p) refl)

no_prefix_again : (known : List Class) (i : Input) → begins_prefix known i ≡ false → prefix known i ≡ Ok (None, i)
unfolding prefix
no_prefix_again known i e = rw e refl

prefixes_steps : {known : List Class} {i o : Input} {ps : List Prefix} → PrefixesAt known i ps o → Steps (prefix known) i ps o
prefixes_steps {known = known} (g.no_prefix {i = i} e) = stops (no_prefix_again known i e)
prefixes_steps (g.one_prefix p q) = goes (prefix_again p) (prefix_less p) (prefixes_steps q)

-- ---- expressions, by those inside brackets

module _ (known : List Class) (d : ℕ) (inner : (r : Role) (i o : Input) (e : Expression) → RoleAt known d r i e o →
    expression known d r i ≡ Ok (e, o)) where
  inside : {r : Role} {i o : Input} {e : Expression} → RoleAt known d r i e o → expression known d r i ≡ Ok (e, o)
  inside p = inner _ _ _ _ p

  designator_again : {i o : Input} {x : Designator} → DesignatorAt known d i x o → designator known (expression known d) i ≡ Ok (Some x, o)
  unfolding designator
  designator_again {i = i} (g.member_of n p) =
      ap (λ x. designator_by known (expression known d) x i) (kind_is n) ∙ then_again _ (ap (word k.Name) (rest_is n) ∙ word_again p) refl
  designator_again {i = i} (g.index_of n p m) =
      ap (λ x. designator_by known (expression known d) x i) (kind_is n)
      ∙ then_again _ (ap (expression known d roles.Whole) (rest_is n) ∙ inside p) (then_again _ (expect_again m) refl)

  no_designator_by : (i : Input) (kd : Kind) → begins_designator kd ≡ false → designator_by known (expression known d) kd i ≡ Ok (None, i)
  no_designator_by i k.Dot e = elim (differ (sym e)) [ ]
  no_designator_by i k.OpenBracket e = elim (differ (sym e)) [ ]
  no_designator_by i kd e = refl

  designators_steps : {i o : Input} {xs : List Designator} → DesignatorsAt known d i xs o →
      Steps (designator known (expression known d)) i xs o
  unfolding designator
  designators_steps (g.no_designator {i = i} e) = stops (no_designator_by i (kind i) e)
  designators_steps (g.one_designator p q) = goes (designator_again p) (designator_less p) (designators_steps q)

  initialiser_again : {i o : Input} {x : Initialiser} → InitialiserAt known d i x o → initialiser known (expression known d) i ≡ Ok (x, o)
  unfolding initialiser
  initialiser_again (g.plain h p) = rw h (then_again _ (inside p) refl)
  initialiser_again (g.designated h p n q) =
      rw h (then_again _ (many_again (designators_steps p)) (then_again _ (expect_again n) (then_again _ (inside q) refl)))

  initialisers_steps : {i o : Input} {xs : List Initialiser} → InitialisersAt known d i xs o →
      Steps (next_initialiser known (expression known d)) i xs o
  unfolding next_initialiser
  initialisers_steps (g.no_initialiser e) = stops (rw e refl)
  initialisers_steps (g.one_initialiser h p s q) =
      goes (rw h (then_again _ (initialiser_again p) (then_again _ (separator_again s) refl)))
      (omega (arith, initialiser_less p, separator_less s)) (initialisers_steps q)

  braces_again : {i o : Input} {xs : List Initialiser} → BracesAt known d i xs o → braces known (expression known d) i ≡ Ok (xs, o)
  unfolding braces
  braces_again (g.braces n p m) =
      then_again _ (expect_again n) (then_again _ (many_again (initialisers_steps p)) (then_again _ (expect_again m) refl))

  pub arguments_steps : {i o : Input} {es : List Expression} → ArgumentsAt known d i es o →
      Steps (next_argument known (expression known d)) i es o
  unfolding next_argument
  arguments_steps (g.no_argument e) = stops (rw e refl)
  arguments_steps (g.one_argument h p s q) =
      goes (rw h (then_again _ (inside p) (then_again _ (separator_again s) refl)))
      (omega (arith, role_less p, separator_less s)) (arguments_steps q)

  -- what is read at a token of the kind
  suffix_at : {kd : Kind} {i a : Input} → Next kd i a → suffix known (expression known d) i ≡ suffix_by known (expression known d) kd i
  unfolding suffix
  suffix_at {i = i} n = ap (λ x. suffix_by known (expression known d) x i) (kind_is n)

  suffix_again : {i o : Input} {s : Suffix} → SuffixAt known d i s o → suffix known (expression known d) i ≡ Ok (Some s, o)
  suffix_again (g.call n p m) =
      suffix_at n ∙ then_again _ (ap (many (next_argument known (expression known d))) (rest_is n) ∙ many_again (arguments_steps p))
      (then_again _ (expect_again m) refl)
  suffix_again (g.index n p m) =
      suffix_at n ∙ then_again _ (ap (expression known d roles.Whole) (rest_is n) ∙ inside p) (then_again _ (expect_again m) refl)
  suffix_again (g.member n p) = suffix_at n ∙ then_again _ (ap (word k.Name) (rest_is n) ∙ word_again p) refl
  suffix_again (g.arrow n p) = suffix_at n ∙ then_again _ (ap (word k.Name) (rest_is n) ∙ word_again p) refl
  suffix_again (g.scope n p) = suffix_at n ∙ then_again _ (ap (word k.Name) (rest_is n) ∙ word_again p) refl
  suffix_again (g.increment n) = suffix_at n ∙ ap (λ x. Ok (Some suffixes.Increment, x)) (rest_is n)
  suffix_again (g.decrement n) = suffix_at n ∙ ap (λ x. Ok (Some suffixes.Decrement, x)) (rest_is n)

  no_suffix_by : (i : Input) (kd : Kind) → begins_suffix kd ≡ false → suffix_by known (expression known d) kd i ≡ Ok (None, i)
  no_suffix_by i k.OpenParen e = elim (differ (sym e)) [ ]
  no_suffix_by i k.OpenBracket e = elim (differ (sym e)) [ ]
  no_suffix_by i k.Dot e = elim (differ (sym e)) [ ]
  no_suffix_by i k.Arrow e = elim (differ (sym e)) [ ]
  no_suffix_by i k.DoubleColon e = elim (differ (sym e)) [ ]
  no_suffix_by i k.Increment e = elim (differ (sym e)) [ ]
  no_suffix_by i k.Decrement e = elim (differ (sym e)) [ ]
  no_suffix_by i kd e = refl

  suffixes_steps : {i o : Input} {ss : List Suffix} → SuffixesAt known d i ss o → Steps (suffix known (expression known d)) i ss o
  unfolding suffix
  suffixes_steps (g.no_suffix {i = i} e) = stops (no_suffix_by i (kind i) e)
  suffixes_steps (g.one_suffix p q) = goes (suffix_again p) (suffix_less p) (suffixes_steps q)

  -- an operand that is no text, at a token of the kind
  primary_at : (kd : Kind) (i : Input) → begins_text i ≡ false → kind i ≡ kd →
      primary known (expression known d) i ≡ primary_by known (expression known d) (place i) kd i
  unfolding primary
  primary_at kd i b e = rw b (ap (λ x. primary_by known (expression known d) (place i) x i) e)

  primary_again : {i o : Input} {e : Expression} → PrimaryAt known d i e o → primary known (expression known d) i ≡ Ok (e, o)
  unfolding primary texts bracketed named_cast measured same_kind
  primary_again {i = i} (g.name b p) = primary_at k.Name i b (word_kind_is p) ∙ then_again _ (word_again p) refl
  primary_again {i = i} (g.number p) =
      primary_at k.Number i (no_text k.Number i (word_kind_is p) refl refl) (word_kind_is p) ∙ then_again _ (word_again p) refl
  primary_again {i = i} (g.character p) =
      primary_at k.Character i (no_text k.Character i (word_kind_is p) refl refl) (word_kind_is p) ∙ then_again _ (word_again p) refl
  primary_again (g.text e) = rw e refl
  primary_again {i = i} (g.brackets n l s p m) =
      primary_at k.OpenParen i (no_text k.OpenParen i (kind_is n) refl refl) (kind_is n)
      ∙ ap (bracketed known (expression known d) (place i)) (rest_is n)
      ∙ rw (l, s) (then_again _ (inside p) (then_again _ (expect_again m) refl))
  primary_again {i = i} (g.compound n l p m q) =
      primary_at k.OpenParen i (no_text k.OpenParen i (kind_is n) refl refl) (kind_is n)
      ∙ ap (bracketed known (expression known d) (place i)) (rest_is n)
      ∙ rw l (then_again _ (type_again p) (then_again _ (expect_again m) (then_again _ (braces_again q) refl)))
  primary_again {i = i} (g.measured n m p q) =
      primary_at k.Sizeof i (no_text k.Sizeof i (kind_is n) refl refl) (kind_is n)
      ∙ ap (measured (place i)) (rest_is n)
      ∙ then_again _ (expect_again m) (then_again _ (type_again p) (then_again _ (expect_again q) refl))
  primary_again {i = i} (g.named_cast n m p q s t u) =
      primary_at k.Cast i (no_text k.Cast i (kind_is n) refl refl) (kind_is n)
      ∙ ap (named_cast known (expression known d) (place i)) (rest_is n)
      ∙ then_again _ (expect_again m) (then_again _ (type_again p) (then_again _ (expect_again q) (then_again _ (expect_again s)
      (then_again _ (inside t) (then_again _ (expect_again u) refl)))))

  middle_again : {i o : Input} {m : Option Expression} → MiddleAt known d i m o → middle known (expression known d) i ≡ Ok (m, o)
  unfolding middle
  middle_again (g.no_middle e) = rw e refl
  middle_again (g.one_middle h p) = rw h (then_again _ (inside p) refl)

  mutual
    unfolding level unary link

    pub level_again : {n : ℕ} {i o : Input} {e : Expression} → LevelAt known d n i e o → level known (expression known d) n i ≡ Ok (e, o)
    level_again (g.operand p q s) =
        then_again _ (many_again (prefixes_steps p)) (then_again _ (primary_again q) (then_again _ (many_again (suffixes_steps s)) refl))
    level_again (g.operands p q) = then_again _ (level_again p) (then_again _ (many_again (links_steps q)) refl)

    link_again : {n : ℕ} {i o : Input} {l : Link} → LinkAt known d n i l o →
        link known (expression known d) (suc n) (level known (expression known d) n) i ≡ Ok (Some l, o)
    link_again {n = n} (g.operated h m p) =
        rw (h, means m) (then_again _ (then_again _ (ap (level known (expression known d) n) (left_is m) ∙ level_again p) refl) refl)
    link_again (g.choice h q p s r) =
        rw (h, ap operator_of (kind_is q)) (then_again _ (then_again _ (expect_again q) (then_again _ (middle_again p)
        (then_again _ (expect_again s)
        (then_again _ (level_again r) refl)))) refl)

    links_steps : {n : ℕ} {i o : Input} {ls : List Link} → LinksAt known d n i ls o →
        Steps (link known (expression known d) (suc n) (level known (expression known d) n)) i ls o
    links_steps (g.no_link e) = stops (rw e refl)
    links_steps (g.one_link p q) = goes (link_again p) (link_less p) (links_steps q)

  role_again : (r : Role) (i o : Input) (e : Expression) → RoleAt known (suc d) r i e o →
      expression_as known (expression known d) r i ≡ Ok (e, o)
  unfolding argument value
  role_again r i o e (g.whole p) = level_again p
  role_again r i o e (g.argument h p) = rw h (level_again p)
  role_again r i o e (g.type_argument h p) = rw h (then_again _ (type_again p) refl)
  role_again r i o e (g.value h p) = rw h (level_again p)
  role_again r i o e (g.value_braces p) = rw (begins p) (then_again _ (braces_again p) refl)
    where
      begins : {xs : List Initialiser} {j : Input} → BracesAt known d i xs j → sees k.OpenBrace i ≡ true
      begins (g.braces n q m) = sees_it n

-- an expression that is spelled is read
pub expression_again : (known : List Class) (d : ℕ) (r : Role) (i o : Input) (e : Expression) → RoleAt known d r i e o →
    expression known d r i ≡ Ok (e, o)
unfolding expression
expression_again known zero r i o e p = elim p [ ]
expression_again known (suc d) r i o e p = role_again known d (expression_again known d) r i o e p

-- A comment is read back as itself where a line feed follows it.
use Rattle.std.proofs.Common.{◌≡◌, ℕ, zero, Bool, true, false, [], ◌∷◌, ◌++◌, refl, sym, ap, subst, ◌∙◌}
use Rattle.std.proofs.lemmas.Bool.{eqb-true}
use Rattle.std.specs.Prelude.{◌==◌, ◌&&◌, not, if◌then◌else◌}
use Rattle.flt_tree.specs.Names.{Text}
use Rattle.flt_syntax.specs.Lex.{is_blank}
use Rattle.flt_layout.specs.Items.{fed, is_none, before, comment, items_from}
use Rattle.flt_layout.specs.declared.space.Space.TheVariants as space

-- a text that is read as a comment where a line feed follows
pub data IsComment : Text → Type 0 where
  one_line : {c : Text} → ((y : Text) → comment (35 ∷ (c ++ 10 ∷ y)) ≡ 35 ∷ c) →
      ((y : Text) → items_from zero true space.Beside (c ++ 10 ∷ y) ≡ items_from zero false space.Below y) → IsComment (35 ∷ c)

before_same : (b : ℕ) (z : Text) → (is_blank b && is_none z) ≡ false → before b z ≡ b ∷ z
before_same b z e = rw e refl

comment_on : (b : ℕ) (z : Text) → (b == 10) ≡ false → comment (b ∷ z) ≡ before b (comment z)
unfolding comment
comment_on b z e = rw e refl

comment_fed : (y : Text) → comment (10 ∷ y) ≡ []
unfolding comment
comment_fed y = refl

along_last : (P : Text → Type 0) (b : ℕ) (c : Text) (x : Bool) → (is_blank b && is_none c) ≡ x → P [] → (before b c ≡ b ∷ c → P (b ∷ c)) →
    P (if x then [] else b ∷ c)
along_last P b c true e none more = none
along_last P b c false e none more = more (before_same b c e)

along_one : (P : Text → Type 0) (b : ℕ) (c : Text) (x : Bool) → (b == 10) ≡ x → P [] →
    ((b == 10) ≡ false → P (before b c)) → P (if x then [] else before b c)
along_one P b c true e none more = none
along_one P b c false e none more = more e

-- what is true of no bytes, and of a byte before others that it is true of, is true of a comment's bytes
along_comment : (P : Text → Type 0) → P [] → ((b : ℕ) (c : Text) → (b == 10) ≡ false → before b c ≡ b ∷ c → P c → P (b ∷ c)) →
    (z : Text) → P (comment z)
unfolding comment
along_comment P none more [] = none
along_comment P none more (b ∷ z) =
    let p = along_comment P none more z in
    along_one P b (comment z) (b == 10) refl none (λ e.
    along_last P b (comment z) (is_blank b && is_none (comment z)) refl none (λ h. more b (comment z) e h p))

again : (y z : Text) → comment (comment z ++ 10 ∷ y) ≡ comment z
again y =
    along_comment (λ c. comment (c ++ 10 ∷ y) ≡ c) (comment_fed y)
    (λ b c e h p. comment_on b (c ++ 10 ∷ y) e ∙ (ap (before b) p ∙ h))

inside_on : (b : ℕ) (z : Text) → (b == 10) ≡ false → items_from zero true space.Beside (b ∷ z) ≡ items_from zero true space.Beside z
inside_on b z e = ap (λ x. items_from zero (not x) (if x then fed space.Beside else space.Beside) z) e

over : (y z : Text) → items_from zero true space.Beside (comment z ++ 10 ∷ y) ≡ items_from zero false space.Below y
over y =
    along_comment (λ c. items_from zero true space.Beside (c ++ 10 ∷ y) ≡ items_from zero false space.Below y) refl
    (λ b c e h p. inside_on b (c ++ 10 ∷ y) e ∙ p)

begun : (z : Text) → comment (35 ∷ z) ≡ 35 ∷ comment z
begun z = comment_on 35 z refl

comment_is : (z : Text) → IsComment (35 ∷ comment z)
comment_is z = one_line (λ y. begun (comment z ++ 10 ∷ y) ∙ ap (λ c. 35 ∷ c) (again y z)) (λ y. over y z)

-- the comment at the front of a text is read as itself
pub is_comment : (b : ℕ) (z : Text) → (b == 35) ≡ true → IsComment (comment (b ∷ z))
is_comment b z e = subst (λ c. IsComment (comment (c ∷ z))) (sym (eqb-true b 35 e)) (subst IsComment (sym (begun z)) (comment_is z))

-- What is read behind what was read before, on a stack of which a part is the list that is read.
use Rattle.std.proofs.Common.{◌≡◌, ℕ, zero, suc, ◌≤◌, false, List, [], ◌∷◌, ◌++◌, length, length-append}
use Rattle.std.proofs.Common.{take, drop, Ok, Err, refl, sym, ap, ◌∙◌, arith}
use Rattle.flt_syntax.specs.Cursor.{Input, Outcome, Parser, and_then, ◌>>=◌, sees, onto}
use Rattle.flt_syntax.specs.Scope.{Scope}
use Rattle.flt_syntax.specs.Statement.{statement, statements_from}
use Rattle.flt_syntax.specs.declared.fault.SyntaxFault.{SyntaxFault}
use Rattle.flt_syntax.specs.declared.token.Kind.TheVariants as k
use Rattle.flt_tree.specs.declared.filter.Statement.{Statement}

drop_onto : {A : Type 0} (at : ℕ) (stack : List A) (x : A) → at ≤ length stack → drop at (stack ++ x ∷ []) ≡ drop at stack ++ x ∷ []
drop_onto zero stack x fits = refl
drop_onto (suc at) [] x fits = absurd (omega arith)
drop_onto (suc at) (y ∷ stack) x fits = drop_onto at stack x (omega (arith, fits))

take_onto : {A : Type 0} (at : ℕ) (stack : List A) (x : A) → at ≤ length stack → take at (stack ++ x ∷ []) ≡ take at stack
take_onto zero stack x fits = refl
take_onto (suc at) [] x fits = absurd (omega arith)
take_onto (suc at) (y ∷ stack) x fits = ap (λ xs. y ∷ xs) (take_onto at stack x (omega (arith, fits)))

same_pair : {A : Type 0} (p q : A × Input) (r : Outcome A) → r ≡ Ok p → r ≡ Ok q → p ≡ q
same_pair p q r e h = cc

no_fault : {A : Type 0} (a : A) (i : Input) (f : SyntaxFault) (r : Outcome A) → r ≡ Ok (a, i) → r ≡ Err f → ⊥
no_fault a i f r e h = cc

-- what was read, where the stack has it on top
record Added {A : Type 0} (p : Parser A) (stack more : List A) (i new : Input) : Type 0 where
  item : A
  read : p i ≡ Ok (item, new)
  is : more ≡ stack ++ item ∷ []

added : {A : Type 0} (p : Parser A) (stack more : List A) (i new : Input) → onto stack p i ≡ Ok (more, new) → Added p stack more i new
added {A} p stack more i new e = by (p i) refl
  where
    put : Outcome A → Outcome (List A)
    put r = and_then r (λ q. Ok (stack ++ q.0 ∷ [], q.1))

    by : (r : Outcome A) → p i ≡ r → Added p stack more i new
    by (Ok q) h =
        let both : (stack ++ q.0 ∷ [], q.1) ≡ (more, new) = same_pair _ _ (onto stack p i) (ap put h) e in
        record {
          item = q.0;
          read = h ∙ ap (λ j. Ok (q.0, j)) (ap (λ (x : List A × Input). x.1) both);
          is = sym (ap (λ (x : List A × Input). x.0) both);
        }
    by (Err f) h = elim (no_fault more new f (onto stack p i) e (ap put h)) [ ]

-- what goes on from a part of the stack
one_more : {A B : Type 0} (p : Parser A) (g : List A → Parser B) (at : ℕ) (stack more : List A) (i new : Input) →
    at ≤ length stack → onto stack p i ≡ Ok (more, new) →
    (p >>= (λ x. g (drop at stack ++ x ∷ []))) i ≡ g (drop at more) new
one_more p g at stack more i new fits e =
    let a = added p stack more i new e in
    ap (λ r. and_then r (λ q. g (drop at stack ++ q.0 ∷ []) q.1)) a.read
    ∙ ap (λ xs. g xs new) (sym (ap (drop at) a.is ∙ drop_onto at stack a.item fits))

-- what stands below that part
pub below_more : {A : Type 0} (p : Parser A) (at : ℕ) (stack more : List A) (i new : Input) → at ≤ length stack →
    onto stack p i ≡ Ok (more, new) → take at more ≡ take at stack
below_more p at stack more i new fits e =
    let a = added p stack more i new e in ap (take at) a.is ∙ take_onto at stack a.item fits

-- what is read onto a stack leaves at least what was on it before
pub fits_more : {A : Type 0} (p : Parser A) (at : ℕ) (stack more : List A) (i new : Input) → at ≤ length stack →
    onto stack p i ≡ Ok (more, new) → at ≤ length more
fits_more p at stack more i new fits e =
    let a = added p stack more i new e in omega (arith, fits, ap length a.is, length-append stack (a.item ∷ []))

-- a turn of reading statements, which puts one onto the stack
pub turn_on : (scope : Scope) (inner : ℕ → Parser (List Statement)) (n repeats at : ℕ) (stack more : List Statement) (i new : Input) →
    sees k.CloseBrace i ≡ false → at ≤ length stack → onto stack (statement scope inner repeats) i ≡ Ok (more, new) →
    statements_from scope inner (suc n) repeats (drop at stack) i ≡ statements_from scope inner n repeats (drop at more) new
unfolding statements_from
turn_on scope inner n repeats at stack more i new e fits h =
    rw e (one_more (statement scope inner repeats) (statements_from scope inner n repeats) at stack more i new fits h)

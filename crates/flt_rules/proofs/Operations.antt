-- Laws of operations: what holds of all holds of each, and operations that are the same are equal.
use Rattle.std.proofs.Common.{◌≡◌, ℕ, zero, suc, Bool, true, false, List, [], ◌∷◌, refl, sym, ap, subst, ◌∙◌}
use Rattle.std.proofs.lemmas.Bool.{and_parts, and_from, eqb-true, eq-eqb}
use Rattle.std.specs.List.{list_all}
use Rattle.std.specs.Prelude.{get_or}
use Rattle.flt_rules.specs.Place.{all_operations, operation_number, same_operation}
use Rattle.flt_rules.specs.declared.place.Operation.{Operation}
use Rattle.flt_rules.specs.declared.place.Operation.TheVariants.{Create, Read, Write, Cleanup}

-- what holds of all of a list, and of what is taken past its end, holds at each place
at_place : (test : Operation → Bool) (past : Operation) → test past ≡ true → (xs : List Operation) → list_all test xs ≡ true → (n : ℕ) →
    test (get_or xs n past) ≡ true
at_place test past last [] h n = last
at_place test past last (x ∷ xs) h zero = (and_parts (test x) (list_all test xs) h).0
at_place test past last (x ∷ xs) h (suc n) = at_place test past last xs (and_parts (test x) (list_all test xs) h).1 n

-- each operation is in the list of all, at its number
pub listed : (kind : Operation) → get_or all_operations (operation_number kind) Create ≡ kind
listed Create = refl
listed Read = refl
listed Write = refl
listed Cleanup = refl

-- what holds of all operations holds of each
pub of_each : (test : Operation → Bool) → list_all test all_operations ≡ true → (kind : Operation) → test kind ≡ true
of_each test h kind = subst (λ o. test o ≡ true) (listed kind)
    (at_place test Create (and_parts (test Create) _ h).0 all_operations h (operation_number kind))

-- what holds of each operation holds of all
pub of_all : (test : Operation → Bool) → ((kind : Operation) → test kind ≡ true) → list_all test all_operations ≡ true
of_all test h = all all_operations
  where
    all : (xs : List Operation) → list_all test xs ≡ true
    all [] = refl
    all (x ∷ xs) = and_from (test x) (list_all test xs) (h x) (all xs)

-- an operation is the same as itself
pub same_itself : (kind : Operation) → same_operation kind kind ≡ true
same_itself kind = eq-eqb (operation_number kind) (operation_number kind) refl

-- operations that are the same are equal
pub same_is : (a b : Operation) → same_operation a b ≡ true → a ≡ b
same_is a b h = sym (listed a) ∙ ap (λ n. get_or all_operations n Create) (eqb-true (operation_number a) (operation_number b) h) ∙ listed b

-- two operations are the same both ways round
pub same_turned : (a b : Operation) → same_operation a b ≡ true → same_operation b a ≡ true
same_turned a b h = ap (λ o. same_operation o a) (sym (same_is a b h)) ∙ same_itself a

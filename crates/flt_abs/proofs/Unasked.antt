-- A call that hands over no status doesn't ask which callbacks are registered, and no test does.
use Rattle.std.proofs.Common.{◌≡◌, Bool, true, false, List, [], ◌∷◌, Option, Some, None, refl, ap, cond, ◌∙◌}
use Rattle.std.specs.Prelude.{not, ◌||◌, ◌&&◌, find}
use Rattle.flt_rules.specs.declared.columns.Row.{Row}
use Rattle.flt_rules.specs.declared.place.Mode.TheVariants.{Irp}
use Rattle.flt_rules.specs.declared.rule.Rule.{Rule}
use Rattle.flt_rules.specs.declared.rule.Rule.TheVariants.{R01, R02, R03, R04, R05, R06, R07, R08, R09, R10, R11, R12, R13, R14, R15}
use Rattle.flt_graph.specs.declared.instruction.Invocation.{Invocation}
use Rattle.flt_tree.specs.declared.filter.Test.{Test}
use Rattle.flt_tree.specs.declared.filter.Test.TheVariants as test
use Rattle.flt_abs.specs.Breaks.{is_mode_alone, hands_illegally, row_breaks, test_breaks, rules}
use Rattle.flt_abs.specs.Setting.{unregistered}
use Rattle.flt_abs.specs.State.{State}
use Rattle.flt_abs.specs.declared.setting.Setting.{Setting}

unasked : (asked p q : Bool) → asked ≡ false → (asked && p) ≡ (asked && q)
unasked true p q e = cc
unasked false p q e = refl

same_breaks : (r : Row) (s : Setting) (x : State) (c : Invocation) (rule : Rule) → r.needs.status ≡ false →
    row_breaks r (unregistered s) x c rule ≡ row_breaks r s x c rule
same_breaks r s x c R01 e = refl
same_breaks r s x c R02 e = refl
same_breaks r s x c R03 e = refl
same_breaks r s x c R04 e = refl
same_breaks r s x c R05 e = refl
same_breaks r s x c R06 e =
    ap (λ b. (r.needs.irp && not (is_mode_alone x.modes Irp)) || b)
    (unasked r.needs.status (hands_illegally (unregistered s) c) (hands_illegally s c) e)
same_breaks r s x c R07 e = refl
same_breaks r s x c R08 e = refl
same_breaks r s x c R09 e = refl
same_breaks r s x c R10 e = refl
same_breaks r s x c R11 e = refl
same_breaks r s x c R12 e = refl
same_breaks r s x c R13 e = refl
same_breaks r s x c R14 e = refl
same_breaks r s x c R15 e = refl

same_found : (p q : Rule → Bool) (rs : List Rule) → ((r : Rule) → p r ≡ q r) → find p rs ≡ find q rs
same_found p q [] f = refl
same_found p q (r ∷ rs) f =
    ap (λ b. cond b (Some r) (find p rs)) (f r) ∙ ap (λ o. cond (q r) (Some r) o) (same_found p q rs f)

-- a call that hands over no status breaks the same rule first, whichever callbacks are registered
pub same_least : (r : Row) (s : Setting) (x : State) (c : Invocation) → r.needs.status ≡ false →
    find (row_breaks r (unregistered s) x c) rules ≡ find (row_breaks r s x c) rules
same_least r s x c e = same_found (row_breaks r (unregistered s) x c) (row_breaks r s x c) rules (λ rule. same_breaks r s x c rule e)

pub same_least_of_test : (s : Setting) (x : State) (t : Test) →
    find (test_breaks (unregistered s) x t) rules ≡ find (test_breaks s x t) rules
same_least_of_test s x (test.ContextIsSome variable) = refl
same_least_of_test s x (test.OperationIsSome variable) = refl
same_least_of_test s x (test.Equal variable atom) = refl
same_least_of_test s x (test.Less variable atom) = refl
same_least_of_test s x test.IsIrp = refl
same_least_of_test s x test.IsDraining = refl

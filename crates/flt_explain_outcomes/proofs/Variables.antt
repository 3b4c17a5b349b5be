-- Variables of contexts and their places.
use Rattle.std.proofs.Common.{◌≡◌, ℕ, zero, suc, sym, ap, refl, ◌∙◌}
use Rattle.flt_tree.specs.Variable.{context_place}
use Rattle.flt_tree.specs.declared.variable.ContextVariable.{ContextVariable}
use Rattle.flt_tree.specs.declared.variable.ContextVariable.TheVariants.{C0, C1, C2, C3, C4, C5, C6, C7, Arg}

-- the variable at a place
variable_at : ℕ → ContextVariable
variable_at zero = C0
variable_at (suc zero) = C1
variable_at (suc (suc zero)) = C2
variable_at (suc (suc (suc zero))) = C3
variable_at (suc (suc (suc (suc zero)))) = C4
variable_at (suc (suc (suc (suc (suc zero))))) = C5
variable_at (suc (suc (suc (suc (suc (suc zero)))))) = C6
variable_at (suc (suc (suc (suc (suc (suc (suc zero))))))) = C7
variable_at _ = Arg

at_place : (v : ContextVariable) → variable_at (context_place v) ≡ v
unfolding variable_at
at_place C0 = refl
at_place C1 = refl
at_place C2 = refl
at_place C3 = refl
at_place C4 = refl
at_place C5 = refl
at_place C6 = refl
at_place C7 = refl
at_place Arg = refl

-- at one place there is one variable
pub place_same : (v w : ContextVariable) → context_place v ≡ context_place w → v ≡ w
place_same v w same = sym (at_place v) ∙ (ap variable_at same ∙ at_place w)

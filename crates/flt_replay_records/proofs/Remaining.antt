-- One part more, and one turn less.
use Rattle.std.proofs.Common.{◌≡◌, ℕ, zero, suc, ◌-◌, ◌<◌, List, [], ◌∷◌, ◌++◌, length, refl, sym, ap, ◌∙◌, arith, sub-one}
use Rattle.flt_model.specs.LocalSteps.{turns_left}
use Rattle.flt_tree.specs.declared.filter.Span.{Span}
use Rattle.flt_tree.specs.declared.filter.Statement.{Statement}
use Rattle.flt_tree.specs.declared.filter.Statement.TheVariants as tree
use Rattle.flt_replay_records.specs.Rest.{statements_of, before, remaining, others}
use Rattle.flt_replay_records.specs.declared.rest.Part.{Part}

-- one more part comes before all others
pub before_push : (others : List Statement) (parts : List Part) (p : Part) →
    before others (parts ++ p ∷ []) ≡ statements_of p ++ before others parts
unfolding before
before_push others [] p = refl
before_push others (q ∷ parts) p = before_push (statements_of q ++ others) parts p

-- one turn of a `repeat` is its body, and then the turns that are left
pub turn_left : (span : Span) (turns : ℕ) (body others : List Statement) → (turns ≡ 0 → ⊥) →
    turns_left span turns body others ≡ body ++ tree.Repeat span (turns - 1) body ∷ others
turn_left span zero body others h = absurd (h refl)
turn_left span (suc n) body others h = rw sub-one refl

-- ---- short lists

nothing : (l : List Statement) → length l < 1 → l ≡ []
nothing [] h = refl
nothing (x ∷ l) h = absurd (omega arith)

-- ---- the last part is taken out, where nothing is left of the blocks

module _ (here outer now : List Statement) (old new : List Part) (small : length here < 1) (none : length outer < 1)
    (is : remaining here outer old ≡ now) where
  behind : before [] old ≡ now
  behind = ap (λ (l : List Statement). l ++ before [] old) (sym (nothing outer none))
      ∙ ap (λ (l : List Statement). l ++ (outer ++ before [] old)) (sym (nothing here small)) ∙ is

  -- what remains is the last part's statements, and then the parts before it
  pub taken_out : (p : Part) → old ≡ new ++ p ∷ [] → now ≡ statements_of p ++ before [] new
  taken_out p e = sym behind ∙ ap (before []) e ∙ before_push [] new p

  -- what remains is the same where the last part's statements are gone on with
  pub goes_on_with : (p : Part) → old ≡ new ++ p ∷ [] → remaining (statements_of p) outer new ≡ now
  goes_on_with p e =
      ap (λ (l : List Statement). statements_of p ++ (l ++ before [] new)) (nothing outer none) ∙ sym (taken_out p e)

  -- a turn of the last part is what remains
  pub turn_out : (p : Part) → old ≡ new ++ p ∷ [] → now ≡ statements_of p ++ remaining here outer new
  turn_out p e =
      taken_out p e ∙ ap (λ (l : List Statement). statements_of p ++ (l ++ before [] new)) (sym (nothing outer none))
      ∙ ap (λ (l : List Statement). statements_of p ++ (l ++ (outer ++ before [] new))) (sym (nothing here small))

  -- where no part is left, nothing remains
  pub none_left : old ≡ [] → new ≡ [] → (now ≡ []) × (remaining here outer new ≡ [])
  unfolding before
  none_left o n = (sym behind ∙ ap (before []) o, rw (nothing here small, nothing outer none, n) refl)

-- ---- the first statement, which stays

-- a list that begins with a statement is this statement and the others
pub first_of : (now rest : List Statement) (s : Statement) → now ≡ s ∷ rest → now ≡ s ∷ others now
first_of now rest s e = e ∙ ap (λ (l : List Statement). s ∷ l) (sym (ap others e))

-- The step that is found made a fact last.
use Rattle.std.proofs.Common.{◌≡◌, ℕ, Bool, true, false, List, [], ◌∷◌, ◌++◌, ap, sym, subst, refl, ◌∙◌, append-nil, append_assoc}
use Rattle.std.specs.Prelude.{not, if◌then◌else◌}
use Rattle.std.proofs.lemmas.Bool.{and_parts, true≢false}
use Rattle.std.proofs.lemmas.List.Folds.{list_all-append}
use Rattle.flt_graph.specs.declared.graph.Graph.{Graph}
use Rattle.flt_explain_origins.specs.declared.answer.Step.{Step}
use Rattle.flt_explain_origins.specs.Origins.{HasNone, IsLast, are_unmade, is_made_by, is_origin, last_cause, since}
use Rattle.flt_explain_origins.specs.declared.facts.Fact.{Fact}
use Rattle.flt_explain_origins.specs.declared.origin.Cause.{Cause}
use Rattle.flt_explain_origins.specs.declared.origin.Cause.TheVariants as cause

module _ (g : Graph) (k : ℕ) (f : Fact) where
  -- ---- what made it last is found

  unmade_step : (c : Cause) (later steps : List Step) (s : Step) (b : Bool) → is_made_by g k f s ≡ b → not (is_made_by g k f s) ≡ true →
      (last_cause g k f c steps ≡ c) × (since g k f later steps ≡ later) →
      (last_cause g k f (if b then cause.Made s else c) steps ≡ c) × (since g k f (if b then steps else later) steps ≡ later)
  unmade_step c later steps s true e none h = absurd (true≢false (sym none ∙ ap not e))
  unmade_step c later steps s false e none h = h

  -- steps that make nothing change nothing
  unmade : (c : Cause) (later steps : List Step) → are_unmade g k f steps ≡ true →
      (last_cause g k f c steps ≡ c) × (since g k f later steps ≡ later)
  unmade c later [] h = (refl, refl)
  unmade c later (s ∷ steps) h =
      let parts = and_parts (not (is_made_by g k f s)) (are_unmade g k f steps) h in
      unmade_step c later steps s (is_made_by g k f s) refl parts.0 (unmade c later steps parts.1)

  hidden_here : (c : Cause) (before : List Step) (s : Step) (later : List Step) (b : Bool) → b ≡ true → are_unmade g k f later ≡ true →
      (last_cause g k f (if b then cause.Made s else c) later ≡ cause.Made s) × (since g k f (if b then later else before) later ≡ later)
  hidden_here c before s later true e none = unmade (cause.Made s) later later none
  hidden_here c before s later false e none = absurd (true≢false (sym e))

  -- a step that makes it hides those before
  hidden : (c : Cause) (before front : List Step) (s : Step) (later : List Step) →
      is_made_by g k f s ≡ true → are_unmade g k f later ≡ true →
      (last_cause g k f c (front ++ s ∷ later) ≡ cause.Made s) × (since g k f before (front ++ s ∷ later) ≡ later)
  hidden c before [] s later made none = hidden_here c before s later (is_made_by g k f s) made none
  hidden c before (x ∷ front) s later made none =
      hidden (if is_made_by g k f x then cause.Made x else c)
      (if is_made_by g k f x then front ++ s ∷ later else before) front s later made none

  only : (steps : List Step) (c : Cause) (later : List Step) → IsLast g k f steps c later →
      (last_cause g k f cause.Entry steps ≡ c) × (since g k f steps steps ≡ later)
  only steps cause.Entry later h = let found = unmade cause.Entry steps steps h.1 in (found.0, found.1 ∙ sym h.0)
  only steps (cause.Made s) later h =
      let found = hidden cause.Entry (h.0 ++ s ∷ later) h.0 s later h.2 h.3 in
      subst (λ (all : List Step). (last_cause g k f cause.Entry all ≡ cause.Made s) × (since g k f all all ≡ later)) (sym h.1) found

  -- where what is found is no origin, nothing that made the fact last is
  pub has_none : (steps : List Step) (p : ℕ) → is_origin g k f p (last_cause g k f cause.Entry steps) (since g k f steps steps) ≡ false →
      HasNone g k f steps p
  has_none steps p wrong c later h =
      let same = only steps c later h in
      sym (ap (λ (x : Cause). is_origin g k f p x (since g k f steps steps)) same.0
      ∙ ap (is_origin g k f p c) same.1) ∙ wrong

  -- ---- what is found made it last

  -- what made it last of the steps so far
  abbrev SoFar : List Step → List Step → Cause → List Step → List Step → Type 0
  SoFar all before cause.Entry later rest = (later ≡ all) × (are_unmade g k f before ≡ true)
  SoFar all before (cause.Made s) later rest =
      (front : List Step) × (since_then : List Step) × (all ≡ front ++ s ∷ later) × (later ≡ since_then ++ rest)
      × (is_made_by g k f s ≡ true) × (are_unmade g k f since_then ≡ true)

  one_more : (steps : List Step) (s : Step) → are_unmade g k f steps ≡ true → is_made_by g k f s ≡ false →
      are_unmade g k f (steps ++ s ∷ []) ≡ true
  one_more steps s h e = list_all-append (λ x. not (is_made_by g k f x)) steps (s ∷ []) ∙ rw (h, e) refl

  kept : (all before : List Step) (c : Cause) (later : List Step) (s : Step) (rest : List Step) → is_made_by g k f s ≡ false →
      SoFar all before c later (s ∷ rest) → SoFar all (before ++ s ∷ []) c later rest
  kept all before cause.Entry later s rest e h = (h.0, one_more before s h.1 e)
  kept all before (cause.Made x) later s rest e h =
      (h.0, h.1 ++ s ∷ [], h.2, h.3 ∙ sym (append_assoc h.1 (s ∷ []) rest), h.4, one_more h.1 s h.5 e)

  at_end : (all before : List Step) (c : Cause) (later : List Step) →
      all ≡ before ++ [] → SoFar all before c later [] → IsLast g k f all c later
  at_end all before cause.Entry later e h = (h.0, subst (λ (x : List Step). are_unmade g k f x ≡ true) (sym (e ∙ append-nil before)) h.1)
  at_end all before (cause.Made s) later e h =
      (h.0, h.2, h.4, subst (λ (x : List Step). are_unmade g k f x ≡ true) (sym (h.3 ∙ append-nil h.1)) h.5)

  by_made : (all : List Step) (c : Cause) (later rest : List Step) (s : Step) (b : Bool) → is_made_by g k f s ≡ b →
      (is_made_by g k f s ≡ true → IsLast g k f all (last_cause g k f (cause.Made s) rest) (since g k f rest rest)) →
      (is_made_by g k f s ≡ false → IsLast g k f all (last_cause g k f c rest) (since g k f later rest)) →
      IsLast g k f all (last_cause g k f (if b then cause.Made s else c) rest) (since g k f (if b then rest else later) rest)
  by_made all c later rest s true e made other = made e
  by_made all c later rest s false e made other = other e

  along : (all before : List Step) (c : Cause) (later rest : List Step) → all ≡ before ++ rest → SoFar all before c later rest →
      IsLast g k f all (last_cause g k f c rest) (since g k f later rest)
  along all before c later [] e h = at_end all before c later e h
  along all before c later (s ∷ rest) e h =
      let on : all ≡ (before ++ s ∷ []) ++ rest = e ∙ sym (append_assoc before (s ∷ []) rest) in
      by_made all c later rest s (is_made_by g k f s) refl
      (λ made. along all (before ++ s ∷ []) (cause.Made s) rest rest on (before, [], e, refl, made, refl))
      (λ made. along all (before ++ s ∷ []) c later rest on (kept all before c later s rest made h))

  -- what is found on a way made the fact last
  pub is_last : (steps : List Step) → IsLast g k f steps (last_cause g k f cause.Entry steps) (since g k f steps steps)
  is_last steps = along steps [] cause.Entry steps steps refl (refl, refl)

  -- the same of a cause and steps that are known to be those
  pub last_at : (steps later : List Step) (c : Cause) → c ≡ last_cause g k f cause.Entry steps → later ≡ since g k f steps steps →
      IsLast g k f steps c later
  last_at steps later c e h =
      subst (λ (x : Cause). IsLast g k f steps x later) (sym e)
      (subst (λ (x : List Step). IsLast g k f steps (last_cause g k f cause.Entry steps) x) (sym h) (is_last steps))

  -- where the last step that made a fact isn't an origin at a point, the steps have none there
  pub none_at : (steps later : List Step) (p : ℕ) (c : Cause) (b : Bool) → c ≡ last_cause g k f cause.Entry steps →
      later ≡ since g k f steps steps → b ≡ is_origin g k f p c later → b ≡ false → HasNone g k f steps p
  none_at steps later p c b e h same wrong =
      has_none steps p (sym (ap (λ (x : Cause). is_origin g k f p x later) e
      ∙ ap (is_origin g k f p (last_cause g k f cause.Entry steps)) h) ∙ sym same ∙ wrong)

-- What an instruction says of the statements that remain where it stands.
use Rattle.std.proofs.Common.{◌≡◌, ℕ, Bool, true, false, List, [], ◌∷◌, Option, Some, None, slice_get, refl, sym, ap, ◌∙◌, subst, inl, inr}
use Rattle.flt_tree.specs.declared.filter.Callback.{Callback}
use Rattle.flt_tree.specs.declared.filter.Condition.TheVariants as condition
use Rattle.flt_tree.specs.declared.filter.Filter.{Filter}
use Rattle.flt_tree.specs.declared.filter.Statement.{Statement, out-Statement}
use Rattle.flt_tree.specs.declared.filter.Statement.TheOpen.{Statement-F}
use Rattle.flt_graph.specs.Graph.{callback_at, instruction_at}
use Rattle.flt_graph.specs.Lowering.{IsLowered}
use Rattle.flt_graph.specs.Points.{instruction_of, IsLeftOf, remaining, remaining_of, successor}
use Rattle.flt_graph.specs.Turns.{StandsWith, StandsAtWith, HasLeft, turns_after}
use Rattle.flt_graph.specs.declared.graph.Graph.{Graph}
use Rattle.flt_graph.specs.declared.graph.Point.{Point}
use Rattle.flt_graph.specs.declared.instruction.Instruction.{Instruction}
use Rattle.flt_graph.specs.declared.instruction.Instruction.TheVariants as instruction
use Rattle.flt_model.specs.Program.{body_of}
use Rattle.flt_machine_frames.proofs.Missing.{nothing_stands, end_at}
use Rattle.flt_machine_frames.proofs.Stepping.{Laws}
use Rattle.flt_machine_frames.specs.Firsts.{IsInstructionOf, Remains}
use Rattle.flt_machine_frames.specs.declared.standing.Standing.{Standing}

-- the statements that remain after an outcome stand where an instruction leads
abbrev Leads : List Callback → Standing → Instruction → (Bool → Option (List Statement)) → Type 0
Leads cs s i list =
    (outcome : Bool) → StandsAtWith (body_of (slice_get cs s.callback)) (successor i outcome) (turns_after i s.point outcome s.turns)
    (list outcome)

-- what remains by the instruction of a text
module _ (cs : List Callback) (s : Standing) (first : Statement) (later : List Statement) (after : ℕ) where
  abbrev RemainsAt : Statement-F Statement → Statement-F Statement → Type 0
  RemainsAt layer text =
      Leads cs s (instruction_of cs text s.point after) (remaining_of layer later) →
      HasLeft s.point s.turns (instruction_of cs text s.point after) layer →
      Remains cs s (first ∷ later) (instruction_of cs text s.point after)

  -- of a text that is the statement itself
  same_text : (layer text : Statement-F Statement) → text ≡ layer → RemainsAt layer layer → RemainsAt layer text
  same_text layer text is known = subst (λ (x : Statement-F Statement). RemainsAt layer x) (sym is) known

  remains_of : (layer text : Statement-F Statement) → out-Statement first ≡ layer → IsLeftOf layer text → RemainsAt layer text
  remains_of (Statement-F.Act span a) text is left =
      same_text (Statement-F.Act span a) text left
      (λ leads counted. record { span = span; first = first; later = later; rest_is = refl; text = is; on = leads true })
  remains_of (Statement-F.Call span call) text is left =
      same_text (Statement-F.Call span call) text left (λ leads counted. inl (record {
        span = span;
        call = call;
        first = first;
        later = later;
        rest_is = refl;
        text = is;
        made_is = refl;
        same = refl;
        on = leads true;
      }))
  remains_of (Statement-F.Return span status) text is left =
      same_text (Statement-F.Return span status) text left
      (λ leads counted. record { span = span; first = first; later = later; rest_is = refl; text = is })
  remains_of (Statement-F.If span (condition.Test t) granted refused) text is left =
      same_text (Statement-F.If span (condition.Test t) granted refused) text left (λ leads counted. record {
        span = span;
        granted_block = granted;
        refused_block = refused;
        first = first;
        later = later;
        rest_is = refl;
        text = is;
        granted_on = leads true;
        refused_on = leads false;
      })
  remains_of (Statement-F.If span (condition.Succeeds call) granted refused) text is left =
      same_text (Statement-F.If span (condition.Succeeds call) granted refused) text left (λ leads counted. inr (record {
        span = span;
        call = call;
        granted_block = granted;
        refused_block = refused;
        first = first;
        later = later;
        rest_is = refl;
        text = is;
        made_is = refl;
        granted_on = leads true;
        refused_on = leads false;
      }))
  remains_of (Statement-F.Repeat span turns block) text is left =
      subst (λ (x : Statement-F Statement). RemainsAt (Statement-F.Repeat span turns block) x) (sym left.1.1) (λ leads counted. record {
        span = span;
        block = block;
        first = first;
        later = later;
        rest_is = refl;
        text = is ∙ ap (λ (n : ℕ). Statement-F.Repeat span n block) counted;
      })

module _ (laws : Laws) (f : Filter) (g : Graph) (lowered : IsLowered f g) (s : Standing) where
  abbrev Here : Instruction
  Here = instruction_at g s.callback s.point

  -- ---- in a callback that is there

  module _ (c : Callback) (there : slice_get f.callbacks s.callback ≡ Some c) where
    first_within : (list : List Statement) → StandsWith c.body s.point s.turns list → IsInstructionOf f.callbacks s list Here
    first_within [] h =
        ap (λ (p : Point). p.instruction)
        (laws.first f.callbacks c (callback_at g s.callback) s.point [] (laws.each f g s.callback c lowered there) h.stands)
    first_within (first ∷ later) h =
        let is = laws.first f.callbacks c (callback_at g s.callback) s.point (first ∷ later) (laws.each f g s.callback c lowered there)
        h.stands in
        (is.0, (is.1.0, (is.1.1.0, ap (λ (p : Point). p.instruction) is.1.1.1)))

    next_within : (list : List Statement) → StandsWith c.body s.point s.turns list → Leads f.callbacks s Here (remaining list)
    next_within list h outcome =
        subst (λ (o : Option Callback). StandsAtWith (body_of o) (successor Here outcome) (turns_after Here s.point outcome s.turns)
        (remaining list outcome)) (sym there)
        (laws.next f.callbacks c (callback_at g s.callback) s.point s.turns list outcome (laws.each f g s.callback c lowered there) h)

    told_within : (list : List Statement) → StandsWith c.body s.point s.turns list → Remains f.callbacks s list Here
    told_within [] h = subst (λ (i : Instruction). Remains f.callbacks s [] i) (sym (first_within [] h)) refl
    told_within (first ∷ later) h =
        let is = first_within (first ∷ later) h in
        subst (λ (i : Instruction). Leads f.callbacks s i (remaining (first ∷ later)) → HasLeft s.point s.turns i (out-Statement first) →
        Remains f.callbacks s (first ∷ later) i) (sym is.1.1.1)
        (remains_of f.callbacks s first later is.1.0 (out-Statement first) is.0 refl is.1.1.0) (next_within (first ∷ later) h)
        (laws.left f.callbacks c (callback_at g s.callback) s.point s.turns first later (laws.each f g s.callback c lowered there) h)

  -- ---- in any callback

  -- where a callback isn't there
  module _ (missing : slice_get f.callbacks s.callback ≡ None) (list : List Statement) (nothing : list ≡ []) where
    ends : Here ≡ instruction.End
    ends = end_at f g s.callback s.point lowered missing

    first_missing : IsInstructionOf f.callbacks s list Here
    first_missing = subst (λ (l : List Statement). IsInstructionOf f.callbacks s l Here) (sym nothing) ends

    next_missing : Leads f.callbacks s Here (remaining list)
    next_missing =
        subst (λ (i : Instruction). Leads f.callbacks s i (remaining list)) (sym ends)
        (subst (λ (l : List Statement). Leads f.callbacks s instruction.End (remaining l)) (sym nothing) (λ outcome. tt))

    told_missing : Remains f.callbacks s list Here
    told_missing = subst (λ (i : Instruction). Remains f.callbacks s list i) (sym ends) nothing

  module _ (list : List Statement) (h : StandsWith (body_of (slice_get f.callbacks s.callback)) s.point s.turns list) where
    -- the instruction at the point is that of the first statement
    pub first_is : IsInstructionOf f.callbacks s list Here
    first_is = by (slice_get f.callbacks s.callback) refl h
      where
        by : (o : Option Callback) → slice_get f.callbacks s.callback ≡ o → StandsWith (body_of o) s.point s.turns list →
            IsInstructionOf f.callbacks s list Here
        by (Some c) there stands = first_within c there list stands
        by None missing stands = first_missing missing list (nothing_stands stands.stands)

    -- what remains after an outcome stands where the instruction leads
    pub next_is : Leads f.callbacks s Here (remaining list)
    next_is = by (slice_get f.callbacks s.callback) refl h
      where
        by : (o : Option Callback) → slice_get f.callbacks s.callback ≡ o → StandsWith (body_of o) s.point s.turns list →
            Leads f.callbacks s Here (remaining list)
        by (Some c) there stands = next_within c there list stands
        by None missing stands = next_missing missing list (nothing_stands stands.stands)

    -- the instruction tells which statement remains first
    pub told_is : Remains f.callbacks s list Here
    told_is = by (slice_get f.callbacks s.callback) refl h
      where
        by : (o : Option Callback) → slice_get f.callbacks s.callback ≡ o → StandsWith (body_of o) s.point s.turns list →
            Remains f.callbacks s list Here
        by (Some c) there stands = told_within c there list stands
        by None missing stands = told_missing missing list (nothing_stands stands.stands)

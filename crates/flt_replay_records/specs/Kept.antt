-- What an activation keeps beside the blocks in which it stands.
use Rattle.std.specs.Prelude.{ℕ, Bool, List, [], ◌∷◌, Option, None, replicate}
use Rattle.flt_rules.specs.declared.held.HeldLock.{HeldLock}
use Rattle.flt_replay_records.specs.declared.kept.Few.{Few}
use Rattle.flt_replay_records.specs.declared.kept.Form.{Form}
use Rattle.flt_replay_records.specs.declared.kept.Form.TheVariants as form
use Rattle.flt_replay_records.specs.declared.kept.ActivationRest.{ActivationRest}
use Rattle.flt_replay_records.specs.declared.rest.Part.{Part}
use Rattle.flt_replay_records.specs.Behind.{parts}

-- what is gone on with behind two blocks, the variables, the locks, and whether it ended
pub record Contents : Type 0 where
  pub after : List Part
  pub numbers : List ℕ
  pub contexts : List (Option ℕ)
  pub operations : List (Option ℕ)
  pub locks : List HeldLock
  pub ended : Bool

-- c0 to c7 and arg
abbrev pub few_contexts : Few → List (Option ℕ)
few_contexts few = few.c0 ∷ few.c1 ∷ None ∷ None ∷ None ∷ None ∷ None ∷ None ∷ few.arg ∷ []

-- o0 to o3 and data
abbrev pub few_operations : Few → List (Option ℕ)
few_operations few = few.o0 ∷ None ∷ None ∷ None ∷ few.data ∷ []

-- no more than these
abbrev pub few_alone : Bool → Few → Contents
few_alone ended few = record {
  after = [];
  numbers = replicate 8 0;
  contexts = few_contexts few;
  operations = few_operations few;
  locks = [];
  ended = ended;
}

abbrev pub contents_of : Form → Contents
contents_of (form.Few ended few) = few_alone ended few
contents_of (form.All ended all) = record {
  after = parts all.value.after;
  numbers = all.value.numbers;
  contexts = all.value.contexts;
  operations = all.value.operations;
  locks = all.value.locks;
  ended = ended;
}

abbrev pub contents : ActivationRest → Contents
contents kept = contents_of kept.form

-- there is memory for all
abbrev pub IsAll : Form → Type 0
IsAll (form.Few ended few) = ⊥
IsAll (form.All ended all) = Unit {0}

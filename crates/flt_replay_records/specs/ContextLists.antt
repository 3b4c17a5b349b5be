-- What lists that stand apart say of contexts.
use Rattle.std.specs.Prelude.{ℕ, List, [], ◌∷◌, Option, None}
use Rattle.flt_model.specs.declared.parts.Link.{Link}
use Rattle.flt_model.specs.World.{Context}
use Rattle.flt_replay_records.specs.declared.context_list.Allocation.{Allocation}

-- nobody allocated it
abbrev pub no_one : Allocation
no_one = record { owner = 0; references = 0 }

abbrev pub context_from : Allocation → ℕ → Option Link → Context
context_from a value link = record { owner = a.owner; references = a.references; value = value; link = link }

-- who allocated each and its references, with its value and its link; what is past the end of these two is 0 and none
unfoldable pub contexts_of : List Allocation → List ℕ → List (Option Link) → List Context
contexts_of [] values links = []
contexts_of (a ∷ rest) [] [] = context_from a 0 None ∷ contexts_of rest [] []
contexts_of (a ∷ rest) [] (l ∷ links) = context_from a 0 l ∷ contexts_of rest [] links
contexts_of (a ∷ rest) (v ∷ values) [] = context_from a v None ∷ contexts_of rest values []
contexts_of (a ∷ rest) (v ∷ values) (l ∷ links) = context_from a v l ∷ contexts_of rest values links

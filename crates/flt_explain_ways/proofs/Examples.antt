-- A callback with a way to what is found, and one without: the definitions, tried.
use Rattle.std.proofs.Common.{◌≡◌, true, false, List, [], ◌∷◌, Some, refl}
use Rattle.flt_rules.specs.declared.place.Mode.TheVariants.{Irp}
use Rattle.flt_rules.specs.declared.place.Place.TheVariants.{Generic}
use Rattle.flt_rules.specs.declared.rule.Rule.TheVariants.{R01, R02}
use Rattle.flt_tree.specs.Filter.{no_span}
use Rattle.flt_tree.specs.declared.filter.Action.TheVariants.{ReadValue}
use Rattle.flt_tree.specs.declared.filter.FallibleCall.TheVariants.{AllocateContext}
use Rattle.flt_tree.specs.declared.filter.Test.TheVariants.{ContextIsSome}
use Rattle.flt_tree.specs.declared.variable.ContextVariable.TheVariants.{C0}
use Rattle.flt_tree.specs.declared.variable.NumberVariable.TheVariants.{N0}
use Rattle.flt_graph.specs.declared.graph.Graph.{Graph}
use Rattle.flt_graph.specs.declared.graph.Point.{Point}
use Rattle.flt_graph.specs.declared.instruction.Instruction.{Instruction}
use Rattle.flt_graph.specs.declared.instruction.Instruction.TheVariants as instruction
use Rattle.flt_graph.specs.declared.instruction.ResolvedCall.TheVariants as resolved
use Rattle.flt_abs.specs.Entry.{entry}
use Rattle.flt_abs.specs.State.{Status, Null, Held, Situation}
use Rattle.flt_explain.specs.declared.finding.Finding.{Finding}
use Rattle.flt_explain.specs.declared.finding.Subject.TheVariants as about
use Rattle.flt_explain_ways.specs.NoWay.{NoWay, is_checked, is_ruled_out}
use Rattle.flt_explain_origins.specs.Ways.{moment}
use Rattle.flt_explain_origins.specs.declared.answer.Way.{Way}
use Rattle.flt_explain_ways.specs.declared.cover.Cover.{Cover}

abbrev pub point : Instruction → Point
point i = record { span = no_span; instruction = i }

abbrev pub graph : List Point → Graph
graph points = record { locks = []; callbacks = record { place = Generic; points = points } ∷ [] }

-- ---- a context is allocated, and held at the end

abbrev pub leaking : Graph
leaking = graph
    (point (instruction.Call (resolved.Fallible (AllocateContext C0)) 1 1) ∷ point instruction.End ∷ [])

abbrev pub leak : Finding
leak = record { callback = 0; point = 1; line = 1; rule = R02; subject = about.Context C0 }

abbrev pub at_entry : Status → Situation
at_entry first = record {
  contexts = first ∷ Null ∷ Null ∷ Null ∷ Null ∷ Null ∷ Null ∷ Null ∷ Null ∷ [];
  operations = Null ∷ Null ∷ Null ∷ Null ∷ Null ∷ [];
  mode = Irp;
  draining = false;
  locks = [];
}

abbrev pub to_leak : Way
to_leak = record {
  start = at_entry Null;
  steps = record { point = 0; granted = true; gives = true } ∷ [];
  end = moment 1 (at_entry Held);
}

-- there is a way, so that there is none isn't so
pub leak_has_a_way : NoWay leaking leak → ⊥
leak_has_a_way none =
    none true to_leak
    (record {
      way = record { starts = record { contexts = refl; operations = refl; mode = refl; draining = refl; locks = refl }; leads = refl };
      there = refl;
      found = refl;
    })

-- ---- a context that isn't there is read where it is

abbrev pub guarded : Graph
guarded = graph
    (point (instruction.Test (ContextIsSome C0) 1 2) ∷ point (instruction.Act (ReadValue N0 C0) 2) ∷ point instruction.End ∷ [])

abbrev pub reading : Finding
reading = record { callback = 0; point = 1; line = 1; rule = R01; subject = about.Context C0 }

-- what may be so at the entry, at points 0 and 2
abbrev pub unread : Cover
unread = record {
  callback = 0;
  locks = true;
  members =
      record { point = 0; state = entry Generic; granted = 0; refused = 1 } ∷
      record { point = 2; state = entry Generic; granted = 0; refused = 0 } ∷ [];
}

-- no step leads out of it, and it rules out each way
pub reading_is_ruled_out : is_ruled_out guarded reading (Some unread) (Some (is_checked guarded unread)) ≡ true
reading_is_ruled_out = refl

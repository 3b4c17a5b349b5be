-- One accepted filter, so that the theorems say something: it queues reads and lets a worker complete them, takes two locks in their order
-- in its pre callback of writes, and hands a context to its post callback.
use Rattle.std.specs.Prelude.{ℕ, List, [], ◌∷◌, map, Option, Some, None}
use Rattle.flt_rules.specs.Held.{held}
use Rattle.flt_rules.specs.declared.call.LockKind.TheVariants.{Push}
use Rattle.flt_rules.specs.declared.call.LockNumber.TheVariants.{L0, L1}
use Rattle.flt_rules.specs.declared.held.Access.TheVariants.{Exclusive}
use Rattle.flt_rules.specs.declared.held.HeldLock.{HeldLock}
use Rattle.flt_rules.specs.declared.place.Operation.TheVariants.{Read, Write}
use Rattle.flt_rules.specs.declared.place.Place.TheVariants as place
use Rattle.flt_rules.specs.declared.status.FinalStatus.TheVariants as final
use Rattle.flt_tree.specs.Registered.{numbered}
use Rattle.flt_tree.specs.declared.filter.Callback.{Callback}
use Rattle.flt_tree.specs.declared.filter.FallibleCall.{FallibleCall}
use Rattle.flt_tree.specs.declared.filter.FallibleCall.TheVariants as fallible
use Rattle.flt_tree.specs.declared.filter.Filter.{Filter}
use Rattle.flt_tree.specs.declared.filter.Head.TheVariants as head
use Rattle.flt_tree.specs.declared.filter.PlainCall.{PlainCall}
use Rattle.flt_tree.specs.declared.filter.PlainCall.TheVariants as plain
use Rattle.flt_tree.specs.declared.filter.Routine.{Routine}
use Rattle.flt_tree.specs.declared.filter.Status.{Status}
use Rattle.flt_tree.specs.declared.filter.Status.TheVariants as status
use Rattle.flt_tree.specs.declared.filter.Test.{Test}
use Rattle.flt_tree.specs.declared.filter.Test.TheVariants as test
use Rattle.flt_tree.specs.declared.variable.ContextVariable.TheVariants.{C0, Arg}
use Rattle.flt_tree.specs.declared.variable.OperationVariable.TheVariants.{Data, Removed}
use Rattle.flt_tree.specs.declared.variable.RemovedVariable.TheVariants.{O0}
use Rattle.flt_model.specs.WorkedParts.{call, return, if_call, if_test, release_if, corner, here, on, routine, cleans_up}
use Rattle.flt_abs.specs.Sets.{ModeSet, DrainingSet, statuses, either_mode, either_draining, irp_alone, fast_alone, no_alone, yes_alone}
use Rattle.flt_abs.specs.State.{State}
use Rattle.flt_graph.specs.declared.graph.Graph.{Graph}
use Rattle.flt_graph.specs.declared.graph.Point.{Point}
use Rattle.flt_graph.specs.declared.instruction.Instruction.{Instruction}
use Rattle.flt_graph.specs.declared.instruction.Instruction.TheVariants as instruction
use Rattle.flt_graph.specs.declared.instruction.ResolvedCall.TheVariants as resolved
use Rattle.flt_cert.specs.Format.{Certificate}

-- ---- the filter

-- a read that can wait is queued, and a worker is asked for
abbrev pub reads : Callback
reads = on (head.Pre Read)
    (if_test test.IsIrp
    (if_call (fallible.InsertIo None)
    (if_call (fallible.QueueGenericWorkItem (routine 119) None) [] [] ∷ return status.Pending ∷ []) []
    ∷ []) []
    ∷ return status.NoCallback ∷ [])

-- a write takes two locks, and hands a new context to its post callback, if it gets one
abbrev pub writes : Callback
writes = on (head.Pre Write)
    (call (plain.AcquireLock Push L0)
    ∷ call (plain.AcquireLock Push L1)
    ∷ call (plain.ReleaseLock Push L1)
    ∷ call (plain.ReleaseLock Push L0)
    ∷ if_call (fallible.AllocateContext C0) (return (status.WithCallback (Some C0)) ∷ []) []
    ∷ return status.NoCallback ∷ [])

-- the worker takes a read out of the queue and lets it go on
abbrev pub works : Callback
works = on (head.Generic (119 ∷ []))
    (release_if Arg
    ∷ if_call (fallible.RemoveNextIo O0 C0)
    (release_if C0 ∷ call (plain.CompletePendedPreOperation (Removed O0) status.NoCallback) ∷ []) []
    ∷ [])

-- a read that is cancelled while it waits ends
abbrev pub cancels : Callback
cancels = on head.Canceled
    (release_if Arg ∷ call (plain.CompletePendedPreOperation Data (status.Complete final.Cancelled)) ∷ [])

abbrev pub worked : Filter
worked = record {
  name = 102 ∷ [];
  altitude = 100;
  locks = record { kind = Push; name = 108 ∷ [] } ∷ record { kind = Push; name = 109 ∷ [] } ∷ [];
  queue = Some corner;
  callbacks = reads ∷ writes ∷ cleans_up Write ∷ works ∷ cancels ∷ [];
}

-- ---- its graph, callback by callback: the points of the statements in their order, and the end

abbrev pub point : Instruction → Point
point i = record { span = here; instruction = i }

abbrev pub asks : FallibleCall Routine → ℕ → ℕ → Point
asks c granted refused = point (instruction.Call (resolved.Fallible (numbered worked.callbacks c)) granted refused)

abbrev pub does : PlainCall → ℕ → Point
does c next = point (instruction.Call (resolved.Plain c) next next)

abbrev pub tests : Test → ℕ → ℕ → Point
tests t holds fails = point (instruction.Test t holds fails)

abbrev pub returns_with : Status → Point
returns_with st = point (instruction.Return (Some st))

abbrev pub worked_graph : Graph
worked_graph = record {
  locks = Push ∷ Push ∷ [];
  callbacks =
      record {
        place = place.Pre Read;
        points = tests test.IsIrp 1 4 ∷ asks (fallible.InsertIo None) 2 4
            ∷ asks (fallible.QueueGenericWorkItem (routine 119) None) 3 3 ∷ returns_with status.Pending
            ∷ returns_with status.NoCallback ∷ point instruction.End ∷ [];
      }
      ∷ record {
        place = place.Pre Write;
        points = does (plain.AcquireLock Push L0) 1 ∷ does (plain.AcquireLock Push L1) 2 ∷ does (plain.ReleaseLock Push L1) 3
            ∷ does (plain.ReleaseLock Push L0) 4 ∷ asks (fallible.AllocateContext C0) 5 6
            ∷ returns_with (status.WithCallback (Some C0)) ∷ returns_with status.NoCallback ∷ point instruction.End ∷ [];
      }
      ∷ record {
        place = place.Post Write;
        points = tests (test.ContextIsSome Arg) 1 2 ∷ does (plain.ReleaseContext Arg) 2 ∷ returns_with status.FinishedProcessing
            ∷ point instruction.End ∷ [];
      }
      ∷ record {
        place = place.Generic;
        points = tests (test.ContextIsSome Arg) 1 2 ∷ does (plain.ReleaseContext Arg) 2
            ∷ asks (fallible.RemoveNextIo O0 C0) 3 6 ∷ tests (test.ContextIsSome C0) 4 5 ∷ does (plain.ReleaseContext C0) 5
            ∷ does (plain.CompletePendedPreOperation (Removed O0) status.NoCallback) 6 ∷ point instruction.End ∷ [];
      }
      ∷ record {
        place = place.Canceled;
        points = tests (test.ContextIsSome Arg) 1 2 ∷ does (plain.ReleaseContext Arg) 2
            ∷ does (plain.CompletePendedPreOperation Data (status.Complete final.Cancelled)) 3 ∷ point instruction.End ∷ [];
      }
      ∷ [];
}

-- ---- its certificate: in each state a digit for each variable, as a certificate's text has it

-- what may be so of c0 and arg, and of o0 and data; the other variables are NULL
abbrev pub state : ℕ → ℕ → ℕ → ℕ → ModeSet → DrainingSet → List HeldLock → Option State
state c0 arg o0 data_ modes draining locks = Some (record {
  contexts = map statuses (c0 ∷ 1 ∷ 1 ∷ 1 ∷ 1 ∷ 1 ∷ 1 ∷ 1 ∷ arg ∷ []);
  operations = map statuses (o0 ∷ 1 ∷ 1 ∷ 1 ∷ data_ ∷ []);
  modes = modes;
  draining = draining;
  locks = locks;
})

abbrev pub either_way : ModeSet
either_way = either_mode irp_alone fast_alone

abbrev pub maybe_draining : DrainingSet
maybe_draining = either_draining no_alone yes_alone

abbrev pub certificate : Certificate
certificate =
    (state 1 1 1 2 either_way no_alone []
    ∷ state 1 1 1 2 irp_alone no_alone []
    ∷ state 1 1 1 4 irp_alone no_alone []
    ∷ state 1 1 1 4 irp_alone no_alone []
    ∷ state 1 1 1 2 either_way no_alone []
    ∷ None ∷ [])
    ∷ (state 1 1 1 2 either_way no_alone []
    ∷ state 1 1 1 2 either_way no_alone (held L0 Exclusive ∷ [])
    ∷ state 1 1 1 2 either_way no_alone (held L0 Exclusive ∷ held L1 Exclusive ∷ [])
    ∷ state 1 1 1 2 either_way no_alone (held L0 Exclusive ∷ [])
    ∷ state 1 1 1 2 either_way no_alone []
    ∷ state 2 1 1 2 either_way no_alone []
    ∷ state 1 1 1 2 either_way no_alone []
    ∷ None ∷ [])
    ∷ (state 1 3 1 2 either_way maybe_draining []
    ∷ state 1 2 1 2 either_way maybe_draining []
    ∷ state 1 5 1 2 either_way maybe_draining []
    ∷ None ∷ [])
    ∷ (state 1 3 1 1 irp_alone no_alone []
    ∷ state 1 2 1 1 irp_alone no_alone []
    ∷ state 1 5 1 1 irp_alone no_alone []
    ∷ state 3 5 2 1 irp_alone no_alone []
    ∷ state 2 5 2 1 irp_alone no_alone []
    ∷ state 5 5 2 1 irp_alone no_alone []
    ∷ state 5 5 5 1 irp_alone no_alone [] ∷ [])
    ∷ (state 1 3 1 2 irp_alone no_alone []
    ∷ state 1 2 1 2 irp_alone no_alone []
    ∷ state 1 5 1 2 irp_alone no_alone []
    ∷ state 1 5 1 4 irp_alone no_alone [] ∷ [])
    ∷ []

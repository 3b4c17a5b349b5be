use Rattle.std.proofs.Common.{refl, take}
use Rattle.flt_model.specs.Program.{filters_of}
use Rattle.flt_stack.proofs.Files.{first_of_all, refused_first, stops_at}
use Rattle.flt_stack.specs.Lowered.{AreCovered, IsFirstRefusal}
use Rattle.flt_stack.specs.declared.fault.LoadFault.TheVariants as fault
use Rattle.flt_stack.proofs.loading.first_fault.Goals as goal

pub returns-in-Some : goal.returns-in-Some
returns-in-Some c =
    let read = c.args.filters.now in
    let first : IsFirstRefusal read.graphs.items read.certificates.items c.in-Some.file c.in-Some.refusal =
    rw (c.as_slice.ensures.value, c.as_slice-2.ensures.value) at c.in-Some.ensures.refused in
    record {
      stops = λ files stops. first_of_all stops.number files (fault.Refused c.in-Some.file c.in-Some.refusal)
          (refused_first (take stops.number files) (filters_of read.trees.items) read.graphs.items read.certificates.items c.in-Some.file
          c.in-Some.refusal stops.before first);
      memory = λ is. absurd (c.in_default.not-OutOfMemory is);
    }

pub returns-in-None : goal.returns-in-None
returns-in-None c =
    let read = c.args.filters.now in
    let covered : AreCovered read.graphs.items read.certificates.items =
    rw (c.as_slice.ensures.value, c.as_slice-2.ensures.value) at (c.in-None.ensures.covered.0 refl) in
    record {
      stops = λ files stops. stops_at files (filters_of read.trees.items) read.graphs.items read.certificates.items c.args.fault stops
          covered;
      memory = λ is. is;
    }

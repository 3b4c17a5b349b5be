-- The trees that were read are well-formed.
use Rattle.std.specs.List.{All}
use Rattle.flt_model.specs.Program.{filters_of}
use Rattle.flt_tree.specs.WellFormed.{IsWellFormed}
use Rattle.flt_tests.proofs.scene.trees_of.Given as goal

abbrev pub invariant-loop-text : goal.invariant-loop-text
invariant-loop-text l = All IsWellFormed (filters_of l.trees.items)

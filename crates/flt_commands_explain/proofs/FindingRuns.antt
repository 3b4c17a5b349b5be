-- The trees of texts, and the runs of findings, one after the other.
use Rattle.std.proofs.Common.{◌≡◌, ℕ, suc, ◌+◌, ◌<◌, List, [], ◌∷◌, ◌++◌, MatchOption}
use Rattle.std.proofs.Common.{None, Option, Some, length, take, get_or, refl, arith}
use Rattle.std.proofs.Math.Path.{subst}
use Rattle.std.proofs.Math.Seq.{take-suc}
use Rattle.std.proofs.lemmas.Grind.{common_steps}
use Rattle.flt_explain_texts.specs.declared.sources.Source.{Source}
use Rattle.flt_explain_flows.specs.declared.finding_run.FindingRun.{FindingRun}
use Rattle.flt_explain_flows.specs.Flows.{IsFlow}
use Rattle.flt_explain_flows.specs.Running.{run_of}
use Rattle.flt_explain_flows.specs.declared.flows.Flow.{Flow}
use Rattle.flt_model.specs.Program.{by_altitude, filters_of}
use Rattle.flt_explain_outcomes.specs.Noted.{own_of}
use Rattle.flt_explain_outcomes.specs.declared.noted.Note.{Note}
use Rattle.flt_explain_outcomes.specs.Noted.{own_files}
use Rattle.flt_places.specs.declared.files.Files.{Files}
use Rattle.flt_search.specs.declared.judging.BreakingJournal.{BreakingJournal}
use Rattle.flt_tree.specs.declared.tree.Tree.{Tree}
use Rattle.flt_commands_explain.specs.FindingRuns as spec
use Rattle.flt_commands_explain.specs.FindingRuns.{AreRunsOf, AreTrees, IsAdded, IsNext, IsOneMore, run_by}

module _ (all : List Source) (i : ℕ) (d : Source) (within : i < length all) where
  one_source_more : take (i + 1) all ≡ take i all ++ get_or all i d ∷ []
  one_source_more =
      let next : take (suc i) all ≡ take i all ++ get_or all i d ∷ [] = take-suc all i d within in
      let same : i + 1 ≡ suc i = omega arith in
      rw (same, next) refl

  -- so many texts are before it
  counted_before : i ≡ length (take i all)
  counted_before = grind (arith, common_steps)

  -- the trees of the texts so far and of the next one
  pub one_more_parsed : (trees more : List Tree) (files further : List Files) (numbers others : List ℕ) →
      AreTrees (take i all) trees files numbers → IsOneMore i (get_or all i d) trees files numbers more further others →
      AreTrees (take (i + 1) all) more further others
  one_more_parsed trees more files further numbers others are is =
      rw one_source_more
      (spec.one_more are (subst (λ n. IsOneMore n (get_or all i d) trees files numbers more further others) counted_before is))

module _ (trees : List Tree) (files : List Files) (numbers : List ℕ) (all : List Note) (i : ℕ) (one : Note) (within : i < length all)
    (is : one ≡ get_or all i one) where
  one_note : take (i + 1) all ≡ take i all ++ one ∷ []
  one_note =
      let next : take (suc i) all ≡ take i all ++ get_or all i one ∷ [] = take-suc all i one within in
      let same : i + 1 ≡ suc i = omega arith in
      rw (same, next, ← is) refl

  -- the runs of the findings so far and of the next one
  pub one_more_run : (runs after : List FindingRun) → AreRunsOf trees files numbers (take i all) runs →
      IsNext trees files numbers one runs after → AreRunsOf trees files numbers (take (i + 1) all) after
  one_more_run runs after are next = rw one_note (spec.one_note_more one are next)

-- what is found of the run of a finding whose outcome is this: its flow, or that its journal is no run
module _ (trees : List Tree) (files : List Files) (numbers : List ℕ) (n : Note)
    (b : BreakingJournal) (runs : List FindingRun) (own : List Tree)
    (own_file : List Files) (found : Option Flow) (same : own ≡ own_of trees n.filter n.scheduled)
    (named : own_file ≡ own_files files n.filter n.scheduled)
    (is : MatchOption found (run_of (by_altitude (filters_of own)) b.journal ≡ None) (IsFlow own own_file b.journal)) where
  -- then nothing is added
  pub none_added : found ≡ None → IsAdded trees files numbers n b runs runs
  none_added none = spec.no_flow (rw same at (rw none at is))

  -- then the run with this flow is added
  pub run_added : (f : Flow) (run : FindingRun) (after : List FindingRun) → found ≡ Some f → run ≡ run_by numbers n b f →
      after ≡ runs ++ run ∷ [] → IsAdded trees files numbers n b runs after
  run_added f run after some by more = rw (more, by) (spec.flow (rw (same, named) at (rw some at is)))

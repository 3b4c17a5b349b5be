-- A run of a stack on what is loaded.
use Rattle.std.proofs.Common.{◌≡◌, List, None, Result, Ok, Err, IfOk, sym, subst}
use Rattle.std.specs.Prelude.{◌↔◌}
use Rattle.flt_stack_crew.specs.Running.{IsDriven, IsEnded}
use Rattle.flt_stack_crew.specs.declared.running.DrivenRun.{DrivenRun}
use Rattle.flt_model.specs.Expansion.{IsCleanRun, verdict}
use Rattle.flt_model.specs.Program.{by_altitude}
use Rattle.flt_model.specs.Runs.{breaks}
use Rattle.flt_model.specs.Steps.{Transition}
use Rattle.flt_model.specs.declared.moves.JournalEntry.{JournalEntry}
use Rattle.flt_model.specs.declared.verdict.Verdict.TheVariants.{Legal}
use Rattle.flt_stack_script.specs.ScriptText.{Commands}
use Rattle.flt_tree.specs.declared.filter.Filter.{Filter}

module _ (loaded trees : List Filter) (named : loaded ≡ trees) (ordered : by_altitude loaded ≡ loaded)
    (unbroken : (transitions : List Transition) → breaks loaded transitions ≡ None)
    (law : (filters : List Filter) (entries : List JournalEntry) → (verdict filters entries ≡ Legal) ↔ IsCleanRun filters entries) where
  -- what ends as it should was driven on what is loaded, of which nothing is broken
  pub driven : {E : Type 0} (commands : Commands) (result : Result DrivenRun E) →
      IfOk result (λ d. IsCleanRun trees d.journal) → IfOk result (λ d. IsEnded commands d.journal d.made d.ending) →
      IfOk result (λ d. IsDriven loaded commands d.journal d.made d.ending)
  driven commands (Ok d) clean ended =
      let here : IsCleanRun loaded d.journal = subst (λ filters. IsCleanRun filters d.journal) (sym named) clean in
      record {
        ordered = ordered;
        unbroken = unbroken;
        clean = here;
        legal = (law loaded d.journal).1 here;
        ended = ended;
      }
  driven commands (Err e) clean ended = tt

-- where what ends so is known of any commands, it is known of these
pub ended_by : {E : Type 0} (commands : Commands) (result : Result DrivenRun E) (Q : Commands → Type 0) → Q commands →
    IfOk result (λ d. (any : Commands) → Q any → IsEnded any d.journal d.made d.ending) →
    IfOk result (λ d. IsEnded commands d.journal d.made d.ending)
ended_by commands (Ok d) Q q ended = ended commands q
ended_by commands (Err e) Q q ended = tt

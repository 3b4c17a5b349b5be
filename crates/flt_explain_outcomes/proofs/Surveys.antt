-- What a survey shows of a finding.
use Rattle.std.proofs.Common.{◌≡◌, Bool, true, false, List, [], ◌∷◌, ◌++◌, All, refl, subst, sym}
use Rattle.std.proofs.lemmas.List.Elements.{All-push}
use Rattle.std.specs.Prelude.{◌||◌, not, IsTrue}
use Rattle.flt_graph.specs.declared.graph.Graph.{Graph}
use Rattle.flt_explain.specs.declared.finding.Finding.{Finding}
use Rattle.flt_explain_outcomes.specs.Possible.{is_some}
use Rattle.flt_explain_outcomes.specs.Reach.{at, followed, Holds, IsSurveyed, IsNeverStarted}
use Rattle.flt_explain_outcomes.specs.Unset.{nothing_unset}
use Rattle.flt_explain_outcomes.specs.declared.outlook.StateSurvey.{StateSurvey}
use Rattle.flt_explain_outcomes.specs.declared.unset.Unset.{Unset}

-- where there is no anchor, there are none
none_unset : (u : Unset) → (u.stream || u.instance) ≡ false → u ≡ nothing_unset
none_unset u h = by u.stream u.instance h
  where
    by : (s i : Bool) → (s || i) ≡ false → record { stream = s; instance = i } ≡ nothing_unset
    by true i h = absurd (cc)
    by false true h = absurd (cc)
    by false false h = refl

-- one survey more
pub one_more : (g : Graph) (old new : List StateSurvey) (s : StateSurvey) → new ≡ old ++ s ∷ [] → All (IsSurveyed g) old → IsSurveyed g s →
    All (IsSurveyed g) new
one_more g old new s more are is = subst (All (IsSurveyed g)) (sym more) (All-push (IsSurveyed g) old s are is)

-- what is true where it is negated is false
pub off : (b : Bool) → IsTrue (not b) → b ≡ false
off true h = absurd (cc)
off false h = refl

-- nothing starts a callback whose first point isn't reached
pub unstarted : (g : Graph) (s : StateSurvey) (f : Finding) → IsSurveyed g s → (s.unset.stream || s.unset.instance) ≡ false →
    s.variable ≡ followed f.subject → is_some (at s.rows f.callback 0) ≡ false → IsNeverStarted g f
unstarted g s f surveyed none same empty = record {
  reach = s.rows;
  holds = subst (λ v. Holds g nothing_unset v s.rows) same
      (subst (λ u. Holds g u s.variable s.rows) (none_unset s.unset none) surveyed.holds);
  unstarted = empty;
}

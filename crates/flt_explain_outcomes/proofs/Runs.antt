-- What comes of findings in runs, with one more callback and without it.
use Rattle.std.proofs.Common.{◌≡◌, ◌<◌, ℕ, zero, suc, Bool, false, List, [], ◌∷◌, ◌++◌, Option}
use Rattle.std.proofs.Common.{Some, None, IfSome, refl, sym, ap, arith, subst, ◌∙◌, ◌+◌}
use Rattle.std.proofs.Common.{All, append_assoc, drop, get_or, length, length-drop, reverse, slice_get, string_bytes, take}
use Rattle.std.specs.Prelude.{◌≢◌}
use Rattle.std.proofs.lemmas.List.{drop_more, reverse-append, take_more}
use Rattle.std.proofs.lemmas.Slice.Zip.{AllZip-long}
use Rattle.flt_explain_texts.specs.Reports.{IsJudged}
use Rattle.flt_explain_texts.specs.declared.judged.TextJudgement.{TextJudgement}
use Rattle.flt_explain_texts.specs.declared.judged.TextJudgement.TheVariants.{Unread, Known as Found}
use Rattle.flt_explain_outcomes.specs.declared.setters.Setter.{Setter}
use Rattle.std.specs.Prelude.{Contains}
use Rattle.std.specs.List.{AllZip}
use Rattle.std.proofs.lemmas.List.Elements.{All-nil, All-cons, All-head, All-tail}
use Rattle.flt_tree.specs.Names.{Text}
use Rattle.flt_tree.specs.declared.filter.Callback.{Callback}
use Rattle.flt_tree.specs.declared.filter.Filter.{Filter}
use Rattle.flt_tree.specs.declared.tree.Tree.{Tree}
use Rattle.flt_graph.specs.declared.graph.Graph.{Graph}
use Rattle.flt_explain.specs.declared.finding.Finding.{Finding}
use Rattle.flt_explain_ways.specs.Reported.{numbers_of}
use Rattle.flt_explain_ways.specs.declared.reported.ReportedFinding.{ReportedFinding}
use Rattle.flt_search.specs.Found.{IsFound}
use Rattle.flt_search.specs.declared.judging.BreakingJournal.{BreakingJournal}
use Rattle.flt_explain_outcomes.specs.Schedules.{AreOutcomes, IsSchedule, IsScheduled, only}
use Rattle.flt_explain_outcomes.specs.Violations.{violations_of}
use Rattle.flt_explain_outcomes.specs.declared.schedules.Outcome.{Outcome}
use Rattle.flt_explain_outcomes.specs.declared.schedules.Schedule.{Schedule}
use Rattle.flt_explain_outcomes.specs.declared.schedules.Schedule.TheVariants.{Breaks}
use Rattle.flt_explain_outcomes.specs.declared.schedules.JointOutcome.{JointOutcome}
use Rattle.flt_explain_outcomes.specs.declared.schedules.JointOutcome.TheVariants.{Together, Alone}
use Rattle.flt_explain_outcomes.specs.declared.schedules.Suspect.{Suspect}
use Rattle.flt_explain_outcomes.specs.Again.{IsAgainBy, IsAlone, IsOutcomeAgain, IsOutcomeOf as IsOutcomeIn}
use Rattle.flt_explain_outcomes.specs.Again.{IsSetting, IsSuspectAgain}
use Rattle.flt_explain_outcomes.specs.Setters.{GoesOn, IsOfJudged, IsSetter, ended, line_ends}
use Rattle.flt_model.specs.declared.verdict.Violation.{Violation}
use Rattle.flt_explain_outcomes.specs.Noted.{IsAgain, IsAlso, IsBrokenBy, IsNear, own_of, schedule_of}
use Rattle.flt_explain_outcomes.specs.declared.noted.Note.{Note}
use Rattle.flt_explain_outcomes.specs.Noting.{IsOutcomeOf, IsSuspectOf}
use Rattle.flt_explain_outcomes.specs.declared.again.Setting.{Setting}
use Rattle.flt_explain_outcomes.specs.declared.noted.SetterOutcome.{SetterOutcome}
use Rattle.flt_explain_outcomes.specs.declared.noted.SetterOutcome.TheVariants.{Runs, RunsNowhere}
use Rattle.flt_explain_outcomes.specs.declared.noting.ParsedText.{ParsedText}

-- what comes of suspects is what comes of the findings that are reported
pub outcomes_of : (is_stack : Bool) (trees : List Tree) (k : ParsedText) (g : Graph) (reported : List ReportedFinding)
    (found : List Suspect)
    (all : List Outcome) →
    g ≡ k.graph.now → AllZip (IsSuspectOf k.found.now) reported found → AreOutcomes is_stack trees k.place g found all →
    AllZip (IsOutcomeOf is_stack trees k) reported all
outcomes_of is_stack trees k g [] [] [] same suspects are = tt
outcomes_of is_stack trees k g [] [] (o ∷ all) same suspects are = absurd are
outcomes_of is_stack trees k g [] (s ∷ found) all same suspects are = absurd suspects
outcomes_of is_stack trees k g (r ∷ reported) [] all same suspects are = absurd suspects
outcomes_of is_stack trees k g (r ∷ reported) (s ∷ found) [] same suspects are = absurd are
outcomes_of is_stack trees k g (r ∷ reported) (s ∷ found) (o ∷ all) same suspects are =
    let first : IsOutcomeOf is_stack trees k r o = record {
      number = are.0.number ∙ suspects.0.number;
      finding = s.finding;
      numbered = suspects.0.is;
      scheduled = subst (λ h. IsScheduled is_stack trees k.place h s.finding o.scheduled) same are.0.scheduled;
    } in
    (first, outcomes_of is_stack trees k g reported found all same suspects.1 are.1)

-- where no stack is asked for, what comes of a finding is known of runs of its filter alone
pub alone_without_stack : (trees : List Tree) (n : ℕ) (g : Graph) (f : Finding) (s : JointOutcome) → IsScheduled false trees n g f s →
    own_of trees n s ≡ only trees n
alone_without_stack trees n g f (Alone a) is = refl
alone_without_stack trees n g f (Together a) is = absurd (cc is.1.asked)

found_by : (p : List Filter) (cs : List Callback) (g : Graph) (f : Finding) (a : Schedule) (b : BreakingJournal) →
    IsSchedule p cs g f a → a ≡ Breaks b →
    IsFound p (violations_of f.rule) b
found_by p cs g f a b is same = (subst (λ x. IsSchedule p cs g f x) same is).0

-- in runs of one filter alone
found_alone : (tree : Tree) (g : Graph) (f : Finding) (s : JointOutcome) (b : BreakingJournal) →
    IsScheduled false (tree ∷ []) 0 g f s → schedule_of s ≡ Breaks b →
    IsFound (tree.filter ∷ []) (violations_of f.rule) b
found_alone tree g f (Together a) b is same = found_by (tree.filter ∷ []) _ g f a b is.0 same
found_alone tree g f (Alone a) b is same = found_by (tree.filter ∷ []) _ g f a b is same

same_finding : (found : List Finding) (n : ℕ) (f h : Finding) → slice_get found n ≡ Some f → slice_get found n ≡ Some h → f ≡ h
same_finding found n f h one other = cc

outcome_again : (tree : Tree) (g : Graph) (found : List Finding) (s : Suspect) (o : Outcome) →
    IsSuspectAgain found s → o.number ≡ s.number →
    IsScheduled false (tree ∷ []) 0 g s.finding o.scheduled → IsOutcomeAgain (tree ∷ []) found o
outcome_again tree g found s o suspect number scheduled =
    λ f b numbered breaks.
    let same : suspect.finding ≡ f = same_finding found s.number suspect.finding f suspect.numbered
    (subst (λ n. slice_get found n ≡ Some f) number numbered) in
    subst (λ r. IsFound (tree.filter ∷ []) (violations_of r) b) (suspect.rule ∙ ap (λ (h : Finding). h.rule) same)
    (found_alone tree g s.finding o.scheduled b scheduled breaks)

each_again : (tree : Tree) (g : Graph) (found : List Finding) (suspects : List Suspect) (all : List Outcome) →
    All (IsSuspectAgain found) suspects → AreOutcomes false (tree ∷ []) 0 g suspects all → All (IsOutcomeAgain (tree ∷ []) found) all
each_again tree g found [] [] those are = All-nil (IsOutcomeAgain (tree ∷ []) found)
each_again tree g found [] (o ∷ all) those are = absurd are
each_again tree g found (s ∷ suspects) [] those are = absurd are
each_again tree g found (s ∷ suspects) (o ∷ all) those are =
    All-cons (IsOutcomeAgain (tree ∷ []) found) o all
    (outcome_again tree g found s o (All-head (IsSuspectAgain found) s suspects those) are.0.number are.0.scheduled)
    (each_again tree g found suspects all (All-tail (IsSuspectAgain found) s suspects those) are.1)

-- what comes of findings in runs of the text with one more callback
pub outcomes_again : (trees : List Tree) (g : Graph) (found : List Finding) (suspects : List Suspect) (all : List Outcome) → IsAlone trees →
    All (IsSuspectAgain found) suspects → AreOutcomes false trees 0 g suspects all → All (IsOutcomeAgain trees found) all
outcomes_again trees g found suspects all alone those are =
    subst (λ ts. All (IsOutcomeAgain ts found) all) (sym alone.is)
    (each_again alone.tree g found suspects all those (subst (λ ts. AreOutcomes false ts 0 g suspects all) alone.is are))

all_at : (P : Outcome → Type 0) (all : List Outcome) (n : ℕ) (o : Outcome) → All P all → slice_get all n ≡ Some o → P o
all_at P [] n o each at = absurd (cc at)
all_at P (x ∷ all) zero o each at = let same : x ≡ o = cc in subst P same (All-head P x all each)
all_at P (x ∷ all) (suc n) o each at = all_at P all n o (All-tail P x all each) at

-- what comes of a finding there
pub again_is : (text : Text) (found : List Finding) (s : Setting) (number : ℕ) (o : Outcome) (a : SetterOutcome) → IsSetting text found s →
    IsOutcomeIn s number o → IsAgainBy o a → (f : Finding) → slice_get found number ≡ Some f → IsAgain text f a
again_is text found s number o RunsNowhere setting its by f numbered = tt
again_is text found s number o (Runs b) setting its by f numbered =
    record {
      setter = s.setter;
      is = setting.setter;
      found = all_at (IsOutcomeAgain s.setter.trees found) s.outcomes.items its.place o setting.outcomes its.at f b
          (subst (λ n. slice_get found n ≡ Some f) (sym its.same) numbered) by;
    }

-- what the run of an earlier note at the same point breaks too
pub also_is : (trees : List Tree) (place : ℕ) (found : List Finding) (earlier : List Note) (finding : Finding) (number : ℕ) (n : Note)
    (o : Option Violation) → slice_get earlier number ≡ Some n → IsNear place found finding n →
    IfSome o (λ v. IsBrokenBy trees n v × Contains (violations_of finding.rule) v) → IfSome o (IsAlso trees place found earlier finding)
also_is trees place found earlier finding number n None noted near both = tt
also_is trees place found earlier finding number n (Some v) noted near both =
    record { number = number; note = n; noted = noted; near = near; broken = both.0; prevented = both.1 }

-- what is looked for among two lists, place by place
pub zip_more : {A B : Type 0} (R : A → B → Type 0) (xs : List A) (ys : List B) (x : A) (y : B) → AllZip R xs ys → R x y →
    AllZip R (xs ++ x ∷ []) (ys ++ y ∷ [])
zip_more R [] [] x y are is = (is, tt)
zip_more R [] (b ∷ ys) x y are is = absurd are
zip_more R (a ∷ xs) [] x y are is = absurd are
zip_more R (a ∷ xs) (b ∷ ys) x y are is = (are.0, zip_more R xs ys x y are.1 is)

-- what stands behind the last finding that is reported
abbrev pub unreported : ReportedFinding
unreported = record { number = 0; is_behind = false }

-- one more finding has its suspect
pub suspects_more : (found : List Finding) (reported : List ReportedFinding) (i : ℕ) (r : ReportedFinding) (old new : List Suspect)
    (s : Suspect) →
    i < length reported → r ≡ get_or reported i r → AllZip (IsSuspectOf found) (take i reported) old → IsSuspectOf found r s →
    new ≡ old ++ s ∷ [] → AllZip (IsSuspectOf found) (take (i + 1) reported) new
suspects_more found reported i r old new s h is are it added =
    let more : take (i + 1) reported ≡ take i reported ++ r ∷ [] =
    take_more reported i r h ∙ ap (λ x. take i reported ++ x ∷ []) (sym is) in
    rw (more, added) (zip_more (IsSuspectOf found) (take i reported) old r s are it)

-- what is there has a number below the count
pub get_within : (found : List Finding) (n : ℕ) (f : Finding) → slice_get found n ≡ Some f → n < length found
get_within [] n f is = absurd (cc is)
get_within (x ∷ found) zero f is = omega arith
get_within (x ∷ found) (suc n) f is = let more = get_within found n f is in omega (arith, more)

-- a text that goes on
pub goes_more : (text whole new more : Text) → GoesOn text whole → new ≡ whole ++ more → GoesOn text new
goes_more text whole new more on added = record {
  more = on.more ++ more;
  is = added ∙ ap (λ z. z ++ more) on.is ∙ append_assoc text on.more more;
}

-- a setter that is found where the text goes on with what is added, at the line after its end, is one of this text
pub setter_is : (text whole : Text) (added : List ℕ) (line : ℕ) (judged : TextJudgement) (s : Option Setter) → GoesOn text whole →
    whole ≡ ended text ++ added → line ≡ line_ends (ended text) + 1 → IsJudged whole judged → IfSome s (IsOfJudged judged) →
    IfSome s (λ s. (string_bytes s.added ≡ added) × (s.line ≡ line)) → IfSome s (IsSetter text)
setter_is text whole added line judged None on ends counted is of same = tt
setter_is text whole added line (Unread fault) (Some s) on ends counted is of same = absurd of
setter_is text whole added line (Found tree graph found) (Some s) on ends counted is of same = record {
  whole = whole;
  on = on;
  added = rw same.0 ends;
  line = same.1 ∙ counted;
  tree = tree;
  alone = of;
  spelled = is.spelled;
}

-- something came of each finding that is reported
pub some_left : (is_stack : Bool) (trees : List Tree) (k : ParsedText) (reported : List ReportedFinding) (i : ℕ) (all : List Outcome) →
    i < length reported →
    AllZip (IsOutcomeOf is_stack trees k) (drop i reported) (reverse all) → all ≢ []
some_left is_stack trees k reported i [] h are none =
    let long = AllZip-long (IsOutcomeOf is_stack trees k) (drop i reported) [] are in
    let left = length-drop i reported in omega (arith, h, long, left)
some_left is_stack trees k reported i (o ∷ all) h are none = cc

-- the last outcome that is left is that of the next one
pub next_outcome : (is_stack : Bool) (trees : List Tree) (k : ParsedText) (reported : List ReportedFinding) (i : ℕ) (r : ReportedFinding)
    (old rest : List Outcome) (o : Outcome) →
    i < length reported → r ≡ get_or reported i r → AllZip (IsOutcomeOf is_stack trees k) (drop i reported) (reverse old) →
    old ≡ rest ++ o ∷ [] →
    IsOutcomeOf is_stack trees k r o × AllZip (IsOutcomeOf is_stack trees k) (drop (i + 1) reported) (reverse rest)
next_outcome is_stack trees k reported i r old rest o h is are last =
    let front : drop i reported ≡ r ∷ drop (i + 1) reported =
    drop_more reported i r h ∙ ap (λ x. x ∷ drop (i + 1) reported) (sym is) in
    let back : reverse old ≡ o ∷ reverse rest = ap reverse last ∙ reverse-append rest (o ∷ []) in
    subst (λ os. AllZip (IsOutcomeOf is_stack trees k) (r ∷ drop (i + 1) reported) os) back
    (subst (λ rs. AllZip (IsOutcomeOf is_stack trees k) rs (reverse old)) front are)

-- the numbers of findings that are reported
pub within_all : (count : ℕ) (reported : List ReportedFinding) → All (λ n. n < count) (numbers_of reported) →
    All (λ (r : ReportedFinding). r.number < count) reported
within_all count [] all = All-nil (λ (r : ReportedFinding). r.number < count)
within_all count (r ∷ reported) all =
    All-cons (λ (r : ReportedFinding). r.number < count) r reported
    (All-head (λ n. n < count) r.number (numbers_of reported) all)
    (within_all count reported (All-tail (λ n. n < count) r.number (numbers_of reported) all))

-- What is answered of findings, one by one.
use Rattle.std.proofs.Common.{◌≡◌, ◌<◌, ◌+◌, ℕ, zero, suc, Bool, List, [], ◌∷◌, ◌++◌, Some, None, Option, IfOk}
use Rattle.std.proofs.Common.{IfSome, Result, Ok, Err, length, take, get_or, slice_get, arith, subst}
use Rattle.std.specs.List.{AllZip}
use Rattle.std.specs.declared.alloc.AllocError.{AllocError}
use Rattle.flt_tree.specs.declared.filter.Filter.{Filter}
use Rattle.flt_tree.specs.declared.tree.Tree.{Tree}
use Rattle.flt_model.specs.Program.{filters_of}
use Rattle.flt_search.specs.Found.{AreAnswers, IsAnswer}
use Rattle.flt_search.specs.declared.answering.Answer.{Answer}
use Rattle.flt_search.specs.declared.answering.Answer.TheVariants.{Breaks, NotWithin, Cut}
use Rattle.flt_search.specs.declared.goal.Goal.{Goal}
use Rattle.flt_search.specs.declared.judging.BreakingJournal.{BreakingJournal}
use Rattle.flt_explain.specs.declared.finding.Finding.{Finding}
use Rattle.flt_explain.specs.declared.finding.Subject.TheVariants.{Context}
use Rattle.flt_rules.specs.declared.rule.Rule.TheVariants.{R01}
use Rattle.flt_tree.specs.declared.variable.ContextVariable.TheVariants.{C0}
use Rattle.std.specs.Borrow.{Bor}
use Rattle.flt_explain_outcomes.specs.Schedules.{AreFound, AreTogether, IsFoundBy, IsFoundFor, IsGoalFor, IsTogetherBy, IsTogetherFor, MayMeet}
use Rattle.flt_explain_outcomes.specs.declared.schedules.Suspect.{Suspect}

-- what answers what is looked for, answers the finding
found_for : (p : List Filter) (s : Suspect) (goal : Goal) (a : Answer) → IsGoalFor s goal → IsAnswer p goal a → IsFoundFor p s.finding a
found_for p s goal (Breaks b) meant is = record { verdict = is.verdict; last = is.last; meant = meant b.violation is.meant }
found_for p s goal NotWithin meant is = tt
found_for p s goal Cut meant is = tt

all_found : (p : List Filter) (found : List Suspect) (goals : List Goal) (answers : List Answer) → AllZip IsGoalFor found goals →
    AllZip (IsAnswer p) goals answers → AllZip (λ (s : Suspect) a. IsFoundFor p s.finding a) found answers
all_found p [] [] [] meant are = tt
all_found p [] [] (a ∷ answers) meant are = absurd are
all_found p [] (goal ∷ goals) answers meant are = absurd meant
all_found p (s ∷ found) [] answers meant are = absurd meant
all_found p (s ∷ found) (goal ∷ goals) [] meant are = absurd are
all_found p (s ∷ found) (goal ∷ goals) (a ∷ answers) meant are =
    (found_for p s goal a meant.0 are.0, all_found p found goals answers meant.1 are.1)

-- each of two lists that hold one by one: what the second has where the first has something
zipped_at : {A B : Type 0} (R : A → B → Type 0) (xs : List A) (ys : List B) (k : ℕ) (x : A) → AllZip R xs ys → slice_get xs k ≡ Some x →
    IfSome (slice_get ys k) (R x)
zipped_at R [] ys k x all e = absurd (cc)
zipped_at R (a ∷ xs) [] k x all e = absurd all
zipped_at R (a ∷ xs) (b ∷ ys) zero x all e = let same : a ≡ x = cc in subst (λ z. R z b) same all.0
zipped_at R (a ∷ xs) (b ∷ ys) (suc k) x all e = zipped_at R xs ys k x all.1 e

-- answers for the goals of findings are answers for the findings
pub found_by : {V : Type 0} (items : V → List Answer) (p : List Filter) (found : List Suspect) (goals seen : List Goal)
    (r : Result V AllocError) →
    seen ≡ goals → AllZip IsGoalFor found goals → IfOk r (λ a. AreAnswers p seen (items a)) → IfOk r (λ a. AreFound p found (items a))
found_by items p found goals seen (Ok a) same meant are =
    λ k s is. zipped_at (λ (s : Suspect) a. IsFoundFor p s.finding a) found (items a) k s
    (all_found p found goals (items a) meant (subst (λ gs. AllZip (IsAnswer p) gs (items a)) same are)) is
found_by items p found goals seen (Err e) same meant are = tt

-- what runs of all filters have, where those may meet
together_for : (is_stack : Bool) (trees : List Tree) (n : ℕ) (s : Suspect) (a : Answer) → MayMeet is_stack trees n →
    IsFoundFor (filters_of trees) s.finding a →
    IsTogetherFor is_stack trees n s.finding a
together_for is_stack trees n s (Breaks b) may is = (is, may)
together_for is_stack trees n s NotWithin may is = tt
together_for is_stack trees n s Cut may is = tt

each_together : (is_stack : Bool) (trees : List Tree) (n : ℕ) (s : Suspect) (o : Option Answer) →
    MayMeet is_stack trees n → IfSome o (IsFoundFor (filters_of trees) s.finding) →
    IfSome o (IsTogetherFor is_stack trees n s.finding)
each_together is_stack trees n s (Some b) may has = together_for is_stack trees n s b may has
each_together is_stack trees n s None may has = tt

-- answers for findings of filters that may meet are answers for them together
pub together_by : {V : Type 0} (items : V → List Answer) (is_stack : Bool) (trees : List Tree) (n : ℕ) (found : List Suspect)
    (r : Result V AllocError) →
    MayMeet is_stack trees n →
    IfOk r (λ a. AreFound (filters_of trees) found (items a)) → IfOk r (λ a. AreTogether is_stack trees n found (items a))
together_by items is_stack trees n found (Ok a) may are =
    λ k s is. each_together is_stack trees n s (slice_get (items a) k) may (are k s is)
together_by items is_stack trees n found (Err e) may are = tt

found_of : (is_stack : Bool) (trees : List Tree) (n : ℕ) (f : Finding) (a : Answer) → IsTogetherFor is_stack trees n f a →
    IsFoundFor (filters_of trees) f a
found_of is_stack trees n f (Breaks b) is = is.0
found_of is_stack trees n f NotWithin is = tt
found_of is_stack trees n f Cut is = tt

-- what runs of all filters have is a run of them
pub together_found : (is_stack : Bool) (trees : List Tree) (n : ℕ) (f : Finding) (a : Option (Bor Answer)) →
    IsTogetherBy is_stack trees n f a → IsFoundBy (filters_of trees) f a
together_found is_stack trees n f (Some b) is = found_of is_stack trees n f b.now is
together_found is_stack trees n f None is = tt

may_of : (is_stack : Bool) (trees : List Tree) (n : ℕ) (f : Finding) (a : Answer) (b : BreakingJournal) →
    a ≡ Breaks b → IsTogetherFor is_stack trees n f a → MayMeet is_stack trees n
may_of is_stack trees n f a b is together = (subst (IsTogetherFor is_stack trees n f) is together).1

-- and they may meet then
pub together_meets : (is_stack : Bool) (trees : List Tree) (n : ℕ) (f : Finding) (a : Option (Bor Answer)) (o : Bor Answer)
    (b : BreakingJournal) →
    a ≡ Some o → o.now ≡ Breaks b →
    IsTogetherBy is_stack trees n f a → MayMeet is_stack trees n
together_meets is_stack trees n f a o b there is together = may_of is_stack trees n f o.now b is (subst (IsTogetherBy is_stack trees n f)
    there together)

-- what stands behind the last one
abbrev pub nothing : Suspect
nothing = record { number = 0; finding = record { callback = 0; point = 0; line = 0; rule = R01; subject = Context C0 } }

-- one more
step : {A B : Type 0} (R : A → B → Type 0) (xs : List A) (ys : List B) (i : ℕ) (x : A) (y : B) → i < length xs → x ≡ get_or xs i x →
    AllZip R (take i xs) ys → R x y → AllZip R (take (suc i) xs) (ys ++ y ∷ [])
step R [] ys i x y less is all new = elim less [ ]
step R (z ∷ xs) [] zero x y less is all new = (subst (λ z. R z y) is new, tt)
step R (z ∷ xs) (w ∷ ys) zero x y less is all new = absurd all
step R (z ∷ xs) [] (suc i) x y less is all new = absurd all
step R (z ∷ xs) (w ∷ ys) (suc i) x y less is all new = (all.0, step R xs ys i x y (omega (arith, less)) is all.1 new)

-- one more pair is in a relation with those before it
pub one_more : {A B : Type 0} (R : A → B → Type 0) (xs : List A) (ys more : List B) (i : ℕ) (x : A) (y : B) →
    i < length xs → x ≡ get_or xs i x →
    AllZip R (take i xs) ys → R x y → more ≡ ys ++ y ∷ [] → AllZip R (take (i + 1) xs) more
one_more R xs ys more i x y less is all new after =
    let next : i + 1 ≡ suc i = omega arith in
    rw (next, after) (step R xs ys i x y less is all new)

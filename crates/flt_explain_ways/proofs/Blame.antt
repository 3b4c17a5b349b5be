-- What is found in a state is broken there, and by what it is about.
use Rattle.std.proofs.Common.{◌≡◌, ℕ, Bool, true, false, List, [], ◌∷◌, map, ap, sym, subst, refl, ◌∙◌}
use Rattle.std.specs.Prelude.{◌==◌, ◌||◌, if◌then◌else◌, cond}
use Rattle.std.specs.List.{list_any}
use Rattle.std.proofs.lemmas.Bool.{and_parts, and_from, eqb-true}
use Rattle.std.proofs.lemmas.List.Folds.{list_any-append}
use Rattle.flt_rules.specs.Rule.{number}
use Rattle.flt_rules.specs.declared.call.LockNumber.TheVariants.{L0, L1, L2, L3, L4, L5, L6, L7}
use Rattle.flt_rules.specs.declared.rule.Rule.{Rule}
use Rattle.flt_rules.specs.declared.rule.Rule.TheVariants.{R01, R02, R03, R04, R05, R06, R07, R08, R09, R10, R11, R12, R13, R14, R15}
use Rattle.flt_tree.specs.declared.variable.ContextVariable.TheVariants.{C0, C1, C2, C3, C4, C5, C6, C7, Arg}
use Rattle.flt_tree.specs.declared.variable.OperationVariable.TheVariants.{Removed, Data}
use Rattle.flt_tree.specs.declared.variable.RemovedVariable.TheVariants.{O0, O1, O2, O3}
use Rattle.flt_graph.specs.Graph.{place_at, instruction_at}
use Rattle.flt_graph.specs.declared.graph.Graph.{Graph}
use Rattle.flt_abs.specs.Breaks.{breaks, rules}
use Rattle.flt_abs.specs.Setting.{setting_of}
use Rattle.flt_abs.specs.State.{State}
use Rattle.flt_explain.specs.About.{is_about}
use Rattle.flt_explain.specs.Faults.{fault, itself, or_itself, blamed, faults_of, faults_of_all, faults_at}
use Rattle.flt_explain.specs.Subjects.{place, operands}
use Rattle.flt_explain.specs.declared.finding.Finding.{Finding}
use Rattle.flt_explain.specs.declared.finding.Fault.{Fault}
use Rattle.flt_explain.specs.declared.finding.Subject.{Subject}
use Rattle.flt_explain.specs.declared.finding.Subject.TheVariants as about
use Rattle.flt_explain_ways.specs.NoWay.{is_itself, may_break}
use Rattle.flt_explain_origins.specs.Ways.{is_fault_of, is_among}

-- ---- numbers and places tell rules and subjects apart

rule_at : ℕ → Rule
rule_at n =
    if n == 1 then R01 else if n == 2 then R02 else if n == 3 then R03 else if n == 4 then R04 else if n == 5 then R05
    else if n == 6 then R06 else if n == 7 then R07 else if n == 8 then R08 else if n == 9 then R09 else if n == 10 then R10
    else if n == 11 then R11 else if n == 12 then R12 else if n == 13 then R13 else if n == 14 then R14 else R15

rule_back : (r : Rule) → rule_at (number r) ≡ r
unfolding rule_at
rule_back R01 = refl
rule_back R02 = refl
rule_back R03 = refl
rule_back R04 = refl
rule_back R05 = refl
rule_back R06 = refl
rule_back R07 = refl
rule_back R08 = refl
rule_back R09 = refl
rule_back R10 = refl
rule_back R11 = refl
rule_back R12 = refl
rule_back R13 = refl
rule_back R14 = refl
rule_back R15 = refl

one_rule : (a b : Rule) → (number a == number b) ≡ true → a ≡ b
one_rule a b h = sym (rule_back a) ∙ ap rule_at (eqb-true (number a) (number b) h) ∙ rule_back b

subject_at : ℕ → Subject
subject_at n =
    if n == 0 then about.Context C0 else if n == 1 then about.Context C1 else if n == 2 then about.Context C2
    else if n == 3 then about.Context C3 else if n == 4 then about.Context C4 else if n == 5 then about.Context C5
    else if n == 6 then about.Context C6 else if n == 7 then about.Context C7 else if n == 8 then about.Context Arg
    else if n == 9 then about.Operation (Removed O0) else if n == 10 then about.Operation (Removed O1)
    else if n == 11 then about.Operation (Removed O2) else if n == 12 then about.Operation (Removed O3)
    else if n == 13 then about.Operation Data else if n == 14 then about.Mode else if n == 15 then about.Draining
    else if n == 16 then about.Lock L0 else if n == 17 then about.Lock L1 else if n == 18 then about.Lock L2
    else if n == 19 then about.Lock L3 else if n == 20 then about.Lock L4 else if n == 21 then about.Lock L5
    else if n == 22 then about.Lock L6 else if n == 23 then about.Lock L7 else if n == 24 then about.Call else about.Status

subject_back : (u : Subject) → subject_at (place u) ≡ u
unfolding subject_at
subject_back (about.Context C0) = refl
subject_back (about.Context C1) = refl
subject_back (about.Context C2) = refl
subject_back (about.Context C3) = refl
subject_back (about.Context C4) = refl
subject_back (about.Context C5) = refl
subject_back (about.Context C6) = refl
subject_back (about.Context C7) = refl
subject_back (about.Context Arg) = refl
subject_back (about.Operation (Removed O0)) = refl
subject_back (about.Operation (Removed O1)) = refl
subject_back (about.Operation (Removed O2)) = refl
subject_back (about.Operation (Removed O3)) = refl
subject_back (about.Operation Data) = refl
subject_back about.Mode = refl
subject_back about.Draining = refl
subject_back (about.Lock L0) = refl
subject_back (about.Lock L1) = refl
subject_back (about.Lock L2) = refl
subject_back (about.Lock L3) = refl
subject_back (about.Lock L4) = refl
subject_back (about.Lock L5) = refl
subject_back (about.Lock L6) = refl
subject_back (about.Lock L7) = refl
subject_back about.Call = refl
subject_back about.Status = refl

one_subject : (a b : Subject) → (place a == place b) ≡ true → a ≡ b
one_subject a b h = sym (subject_back a) ∙ ap subject_at (eqb-true (place a) (place b) h) ∙ subject_back b

-- ---- lists

either : {A : Type 0} (a b : Bool) → (a || b) ≡ true → (a ≡ true → A) → (b ≡ true → A) → A
either true b h f g = f refl
either false b h f g = g h

-- one of some is the one that is meant
one_among : (r : Rule) (us : List Subject) (f : Finding) → is_among (map (fault r) us) f ≡ true →
    ((number r == number f.rule) ≡ true) × (list_any (λ (u : Subject). place u == place f.subject) us ≡ true)
one_among r [] f h = cc
one_among r (u ∷ us) f h =
    either (is_fault_of f (fault r u)) (is_among (map (fault r) us) f) h
    (λ here. let parts = and_parts (number r == number f.rule) (place u == place f.subject) here in (parts.0, first _ _ parts.1))
    (λ later. let rest = one_among r us f later in (rest.0, second _ _ rest.1))
  where
    first : (a b : Bool) → a ≡ true → (a || b) ≡ true
    first true b e = refl
    first false b e = cc

    second : (a b : Bool) → b ≡ true → (a || b) ≡ true
    second true b e = refl
    second false b e = e

-- ---- what is found

module _ (g : Graph) (f : Finding) (x : State) where
  -- whether the point's rule is about a subject, and those of some that it is about
  abbrev to : Rule → Subject → Bool
  to r u = is_about (place_at g f.callback) x (instruction_at g f.callback f.point) r u

  abbrev those : Rule → List Subject → List Subject
  those r us = blamed (place_at g f.callback) x (instruction_at g f.callback f.point) r us

  -- what is meant is to blame, among those that are; or it is the call or the status itself
  blamed_one : (r : Rule) (us : List Subject) →
      list_any (λ (u : Subject). place u == place f.subject) (those r us) ≡ true →
      to r f.subject ≡ true
  blamed_one r [] h = cc
  blamed_one r (u ∷ us) h = one (to r u) refl (blamed_one r us) h
    where
      one : (b : Bool) → to r u ≡ b →
          (list_any (λ (u : Subject). place u == place f.subject) (those r us)
          ≡ true → to r f.subject ≡ true) →
          list_any (λ (u : Subject). place u == place f.subject)
          (cond b (u ∷ those r us)
          (those r us)) ≡ true →
          to r f.subject ≡ true
      one true e later h =
          either (place u == place f.subject) _ h
          (λ here. subst (λ u. to r u ≡ true) (one_subject u f.subject here) e)
          later
      one false e later h = later h

  itself_one : (r : Rule) → is_itself (itself r) ≡ true
  itself_one R06 = refl
  itself_one R15 = refl
  itself_one r = refl

  to_blame : (r : Rule) (us : List Subject) →
      list_any (λ (u : Subject). place u == place f.subject) (or_itself r us) ≡ true →
      (list_any (λ (u : Subject). place u == place f.subject) us ≡ true →
      to r f.subject ≡ true) →
      (is_itself f.subject || to r f.subject) ≡ true
  to_blame r [] h by =
      either (place (itself r) == place f.subject) false h
      (λ here. left_is _ _ (subst (λ u. is_itself u ≡ true) (one_subject (itself r) f.subject here) (itself_one r)))
      (λ no. cc)
    where
      left_is : (a b : Bool) → a ≡ true → (a || b) ≡ true
      left_is true b e = refl
      left_is false b e = cc
  to_blame r (u ∷ us) h by = right_is _ _ (by h)
    where
      right_is : (a b : Bool) → b ≡ true → (a || b) ≡ true
      right_is true b e = refl
      right_is false b e = e

  found_by : (r : Rule) → is_among (faults_of g f.callback f.point x operands r) f ≡ true → may_break g f x ≡ true
  found_by r h = by (breaks (setting_of g f.callback x) x (instruction_at g f.callback f.point) r) refl h
    where
      by : (b : Bool) → breaks (setting_of g f.callback x) x (instruction_at g f.callback f.point) r ≡ b →
          is_among (if b then map (fault r) (or_itself r (those r operands)) else []) f
          ≡ true → may_break g f x ≡ true
      by true e h =
          let us = those r operands in
          let one = one_among r (or_itself r us) f h in
          let same : r ≡ f.rule = one_rule r f.rule one.0 in
          let broken : breaks (setting_of g f.callback x) x (instruction_at g f.callback f.point) f.rule ≡ true =
          subst (λ r. breaks (setting_of g f.callback x) x (instruction_at g f.callback f.point) r ≡ true) same e in
          let blame = to_blame r us one.1 (blamed_one r operands) in
          and_from _ _ broken
          (subst (λ r. (is_itself f.subject || to r f.subject) ≡ true) same blame)
      by false e h = cc

  found_in_all : (rs : List Rule) → is_among (faults_of_all g f.callback f.point x operands rs) f ≡ true → may_break g f x ≡ true
  found_in_all [] h = cc
  found_in_all (r ∷ rs) h =
      either (is_among (faults_of g f.callback f.point x operands r) f) (is_among (faults_of_all g f.callback f.point x operands rs) f)
      (sym (list_any-append (λ (h : Fault). is_fault_of f h) (faults_of g f.callback f.point x operands r)
      (faults_of_all g f.callback f.point x operands rs)) ∙ h)
      (λ here. found_by r here) (λ later. found_in_all rs later)

  -- what is found in a state may break its rule there, by what it is about
  pub found_breaks : is_among (faults_at g f.callback f.point x) f ≡ true → may_break g f x ≡ true
  found_breaks h = found_in_all rules h

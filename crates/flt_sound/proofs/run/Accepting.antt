-- The worked filter is accepted: it is well-formed, and its certificate has no fault at any point of its graph.
use Rattle.std.proofs.Common.{◌≡◌, ℕ, zero, suc, ◌<◌, Bool, true, false, List, [], ◌∷◌, Option}
use Rattle.std.proofs.Common.{Some, None, refl, ap, sym, subst, ◌∙◌, arith, inl, inr, lit≤}
use Rattle.std.specs.Prelude.{◌&&◌, not, is_none, slice_index_or, IsTrue}
use Rattle.std.proofs.lemmas.Bool.{and_parts, cases_eq}
use Rattle.flt_tree.specs.WellFormed as fine
use Rattle.flt_tree.specs.WellFormed.{IsWellFormed, IsPlain, IsStatement, AreCallbacks}
use Rattle.flt_tree.specs.declared.filter.Callback.{Callback}
use Rattle.flt_tree.specs.declared.filter.Filter.{Filter}
use Rattle.flt_tree.specs.declared.filter.Head.{Head}
use Rattle.flt_tree.specs.declared.filter.Statement.{Statement, out-Statement}
use Rattle.flt_tree.specs.declared.filter.Statement.TheFolds.{map-Statement, fold_out-Statement, para-Statement, para-roll-Statement}
use Rattle.flt_tree.specs.declared.filter.Statement.TheViews.{roll-out-Statement}
use Rattle.flt_graph.specs.Codes.{Code, code_step, statement_code, block_code}
use Rattle.flt_graph.specs.Graph.{instruction_at, points_at}
use Rattle.flt_graph.specs.Lowering.{IsLowered, graph_of}
use Rattle.flt_graph.specs.declared.graph.Graph.{Graph}
use Rattle.flt_cert.specs.Format.{Certificate, is_certificate}
use Rattle.flt_check.specs.Checker.{IsFaultless, differs, point_fault}
use Rattle.flt_check.specs.Covering.{Covers, state_at}
use Rattle.flt_abs.specs.State.{State}
use Rattle.flt_model.specs.WorkedParts.{computed, release_if}
use Rattle.flt_rules.specs.declared.call.LockKind.TheVariants.{Push}
use Rattle.flt_rules.specs.declared.call.LockNumber.TheVariants.{L0, L1}
use Rattle.flt_tree.specs.Measures.{are_small, points_of, points_step, cost_of, cost_step}
use Rattle.flt_tree.specs.Declarations.{same_lock_kind, AreWhole, statement_finds, finds_step}
use Rattle.flt_tree.specs.declared.filter.Lock.{Lock}
use Rattle.flt_tree.specs.declared.filter.PlainCall.TheVariants as plain
use Rattle.flt_tree.specs.declared.variable.ContextVariable.{ContextVariable}
use Rattle.flt_tree.specs.declared.variable.ContextVariable.TheVariants.{C0, Arg}
use Rattle.flt_order.specs.Order.{taken_by}
use Rattle.flt_sound.specs.Progress.{IsOrderly}
use Rattle.flt_sound.specs.Soundness.{IsAccepted, AreAccepted}
use Rattle.flt_sound.proofs.points.Placed.{callback_within, reached_within}
use Rattle.flt_sound.proofs.progress.Ordering.{keeps_order, kept_order, order_by}
use Rattle.flt_sound.specs.Worked.{worked, worked_graph, certificate}

-- ---- it is well-formed

module _ {locks : List Lock} {d r : ℕ} where
  -- a block with a choice in front, and one with a plain call
  releases : (c : ContextVariable) → IsStatement locks true (suc d) r (release_if c)
  releases c = fine.choice tt (fine.block (fine.go_on (fine.call tt) fine.empty)) fine.no_else

first_declared : IsPlain worked.locks (plain.AcquireLock Push L0)
unfolding same_lock_kind
first_declared = (refl, refl)

second_declared : IsPlain worked.locks (plain.AcquireLock Push L1)
unfolding same_lock_kind
second_declared = (refl, refl)

bodies : AreCallbacks worked.locks true worked.callbacks
bodies = (
  tt,
  fine.go_on
      (fine.choice tt
      (fine.block (fine.go_on
      (fine.choice refl
      (fine.block (fine.go_on (fine.choice refl (fine.block fine.empty) fine.no_else) (fine.go_on fine.return fine.empty)))
      fine.no_else) fine.empty)) fine.no_else)
      (fine.go_on fine.return fine.empty),
  (
    tt,
    fine.go_on (fine.call first_declared)
        (fine.go_on (fine.call second_declared)
        (fine.go_on (fine.call second_declared)
        (fine.go_on (fine.call first_declared)
        (fine.go_on (fine.choice tt (fine.block (fine.go_on fine.return fine.empty)) fine.no_else) (fine.go_on fine.return fine.empty))))),
    (
      tt,
      fine.go_on (releases Arg) (fine.go_on fine.return fine.empty),
      (
        refl,
        fine.go_on (releases Arg)
            (fine.go_on (fine.choice refl (fine.block (fine.go_on (releases C0) (fine.go_on (fine.call tt) fine.empty)))
            fine.no_else) fine.empty),
        (tt, fine.go_on (releases Arg) (fine.go_on (fine.call tt) fine.empty), tt),
      ),
    ),
  ),
)

points_out : (s : Statement) → points_of s ≡ points_step (map-Statement Statement ℕ points_of (out-Statement s))
points_out s = fold_out-Statement ℕ points_step s

cost_out : (s : Statement) → cost_of s ≡ cost_step (map-Statement Statement ℕ cost_of (out-Statement s))
cost_out s = fold_out-Statement ℕ cost_step s

finds_out : (cs : List Callback) (from : Head) (s : Statement) →
    statement_finds cs from s ≡ finds_step cs from (map-Statement Statement Bool (statement_finds cs from) (out-Statement s))
finds_out cs from s = fold_out-Statement Bool (finds_step cs from) s

small : IsTrue (are_small worked)
unfolding computed
small = simp (points_out, cost_out)

whole : AreWhole worked.callbacks worked.callbacks
unfolding computed
whole = (refl, simp finds_out, (refl, simp finds_out, (refl, simp finds_out, (refl, simp finds_out, (refl, simp finds_out, tt)))))

well_formed : IsWellFormed worked
well_formed = record {
  name = refl;
  lock_names = refl;
  low = lit≤ tt;
  high = lit≤ tt;
  few_locks = lit≤ tt;
  new_locks = (refl, (refl, tt));
  some_callbacks = lit≤ tt;
  few_callbacks = lit≤ tt;
  new_callbacks = (refl, (refl, (refl, (refl, (refl, tt)))));
  bodies = bodies;
  small = small;
  served = refl;
  whole = whole;
}

-- ---- its graph

code_out : (cs : List Callback) (s : Statement) (at after : ℕ) →
    statement_code cs s at after ≡ code_step cs
    (map-Statement Statement (Statement × Code) (λ y. (y, statement_code cs y)) (out-Statement s)) at after
unfolding statement_code
code_out cs s at after =
    ap (λ (code : Code). code at after)
    (ap (para-Statement Code (code_step cs)) (sym (roll-out-Statement s)) ∙ para-roll-Statement Code (code_step cs) (out-Statement s))

graph_is : graph_of worked ≡ worked_graph
unfolding computed block_code
graph_is = simp (code_out, points_out)

lowered : ((f : Filter) → IsLowered f (graph_of f)) → IsLowered worked worked_graph
lowered have = subst (λ (g : Graph). IsLowered worked g) graph_is (have worked)

-- ---- its certificate covers its graph

-- a test holds of each number below one
abbrev all_below : ℕ → (ℕ → Bool) → Bool
all_below zero test = true
all_below (suc n) test = test n && all_below n test

below_holds : (n : ℕ) (test : ℕ → Bool) → all_below n test ≡ true → (k : ℕ) → k < n → test k ≡ true
below_holds zero test h k low = absurd (omega arith)
below_holds (suc n) test h k low =
    let parts = and_parts (test n) (all_below n test) h in
    elim (cases_eq k n) [ inl same ↦ rw same parts.0 | inr other ↦ below_holds n test parts.1 k (omega arith) ]

is_none_none : {A : Type 0} (o : Option A) → is_none o ≡ true → o ≡ None
is_none_none None e = refl
is_none_none (Some x) e = cc

not_true : (b : Bool) → not b ≡ true → b ≡ false
not_true true e = cc
not_true false e = refl

no_faults : all_below 5 (λ c. all_below (points_at worked_graph c) (λ p. is_none (point_fault worked_graph certificate c p))) ≡ true
unfolding computed
no_faults = refl

none_differs : all_below 5 (λ c. not (differs worked_graph certificate c)) ≡ true
none_differs = refl

faultless : IsFaultless worked_graph certificate
faultless = record {
  counts = record {
    callbacks = lit≤ tt;
    points = λ c low. not_true (differs worked_graph certificate c)
        (below_holds 5 (λ c. not (differs worked_graph certificate c)) none_differs c low);
  };
  points = λ c low p within.
      is_none_none (point_fault worked_graph certificate c p)
      (below_holds (points_at worked_graph c) (λ p. is_none (point_fault worked_graph certificate c p))
      (below_holds 5 (λ c. all_below (points_at worked_graph c) (λ p. is_none (point_fault worked_graph certificate c p)))
      no_faults c low) p within);
}

is_certificate_there : IsTrue (is_certificate certificate)
is_certificate_there = refl

-- from the laws of the crates that make graphs and check certificates
pub worked_accepted : ((f : Filter) → IsLowered f (graph_of f)) →
    ((g : Graph) (k : Certificate) → IsTrue (is_certificate k) → IsFaultless g k → Covers g k) → IsAccepted worked
worked_accepted have cover = record {
  graph = worked_graph;
  cert = certificate;
  well_formed = well_formed;
  lowered = lowered have;
  covers = cover worked_graph certificate is_certificate_there faultless;
}

-- ---- it takes its locks in an order, that of their places

ordered_all : all_below 5 (λ c. all_below (points_at worked_graph c) (λ p.
    keeps_order (λ n. n) (state_at certificate c p) (taken_by (instruction_at worked_graph c p)))) ≡ true
unfolding computed
ordered_all = refl

-- as many points as the certificate has
count_all : Covers worked_graph certificate → (c p : ℕ) (x : State) → state_at certificate c p ≡ Some x →
    (c < 5) × (p < points_at worked_graph c)
count_all cov c p x e =
    let callback = callback_within certificate c p x e in
    let point = reached_within (slice_index_or certificate c []) p x e in
    (callback, omega (arith, point, cov.points c callback))

-- so it is orderly
pub worked_orderly : ((f : Filter) → IsLowered f (graph_of f)) →
    ((g : Graph) (k : Certificate) → IsTrue (is_certificate k) → IsFaultless g k → Covers g k) → IsOrderly worked
unfolding worked_accepted
worked_orderly have cover = record {
  accepted = worked_accepted have cover;
  ordered = order_by worked_graph certificate (λ n. n) (λ c p x l e t.
      let there = count_all (worked_accepted have cover).covers c p x e in
      kept_order (λ n. n) (state_at certificate c p) (taken_by (instruction_at worked_graph c p)) x l e t
      (below_holds (points_at worked_graph c) (λ p. keeps_order (λ n. n) (state_at certificate c p)
      (taken_by (instruction_at worked_graph c p)))
      (below_holds 5 (λ c. all_below (points_at worked_graph c) (λ p. keeps_order (λ n. n) (state_at certificate c p)
      (taken_by (instruction_at worked_graph c p)))) ordered_all c there.0) p there.1));
}

-- alone it makes a list of accepted filters
pub alone_accepted : (f : Filter) → IsAccepted f → AreAccepted (f ∷ [])
alone_accepted f one zero d below = one
alone_accepted f one (suc k) d below = absurd (omega arith)

-- What is left of a sweep over points and callbacks for contexts that others may have, after one more.
use Rattle.std.proofs.Common.{◌≡◌, ℕ, suc, ◌+◌, ◌-◌, ◌<◌, ◌≤◌, Bool, List, ◌++◌, sym, ap, ◌∙◌, append_assoc, append-nil, arith}
use Rattle.std.specs.Prelude.{option_to_list}
use Rattle.flt_graph.specs.declared.graph.Graph.{Graph}
use Rattle.flt_explain_warnings.specs.Shared.{begun, begun_from, use_at, used_from, uses_in, uses_from}
use Rattle.flt_explain_warnings.specs.Warning.{site}
use Rattle.flt_explain_warnings.specs.declared.shared.HandedOver.{HandedOver}
use Rattle.flt_explain_warnings.specs.declared.shared.SharedUse.{SharedUse}
use Rattle.flt_explain_warnings.specs.declared.shared.Sharing.{Sharing}

-- a point whose marks are set leaves one less
pub one_begun : (g : Graph) (callback : ℕ) (s : Sharing) (i end : ℕ) (marks more : List Bool) → i < end →
    more ≡ begun g callback s i marks →
    begun_from g callback s (i + 1) (end - (i + 1)) more ≡ begun_from g callback s i (end - i) marks
unfolding begun_from
one_begun g callback s i end marks more h e =
    let less : end - i ≡ suc (end - (i + 1)) = omega arith in
    ap (λ xs. begun_from g callback s (i + 1) (end - (i + 1)) xs) e ∙ ap (λ n. begun_from g callback s i n marks) (sym less)

-- where no point is left nothing changes
pub none_begun : (g : Graph) (callback : ℕ) (s : Sharing) (i end : ℕ) (marks : List Bool) → end ≤ i →
    begun_from g callback s i (end - i) marks ≡ marks
unfolding begun_from
none_begun g callback s i end marks h =
    let none : end - i ≡ 0 = omega arith in ap (λ n. begun_from g callback s i n marks) none

-- the use at a point goes before those at the points after it
pub one_used : (g : Graph) (callback : ℕ) (s : Sharing) (marks : List Bool) (i end : ℕ) (us more : List SharedUse) → i < end →
    more ≡ us ++ option_to_list (use_at g s marks (site callback i)) →
    more ++ used_from g callback s marks (i + 1) (end - (i + 1)) ≡ us ++ used_from g callback s marks i (end - i)
unfolding used_from
one_used g callback s marks i end us more h e =
    let less : end - i ≡ suc (end - (i + 1)) = omega arith in
    ap (λ xs. xs ++ used_from g callback s marks (i + 1) (end - (i + 1))) e
    ∙ append_assoc us (option_to_list (use_at g s marks (site callback i))) (used_from g callback s marks (i + 1) (end - (i + 1)))
    ∙ ap (λ n. us ++ used_from g callback s marks i n) (sym less)

-- where no point is left nothing comes
pub none_used : (g : Graph) (callback : ℕ) (s : Sharing) (marks : List Bool) (i end : ℕ) (us : List SharedUse) → end ≤ i →
    us ++ used_from g callback s marks i (end - i) ≡ us
unfolding used_from
none_used g callback s marks i end us h =
    let none : end - i ≡ 0 = omega arith in ap (λ n. us ++ used_from g callback s marks i n) none ∙ append-nil us

-- the uses in a callback go before those in the callbacks after it
pub one_more : (g : Graph) (handed : HandedOver) (i end : ℕ) (us more : List SharedUse) → i < end →
    more ≡ us ++ uses_in g handed i →
    more ++ uses_from g handed (i + 1) (end - (i + 1)) ≡ us ++ uses_from g handed i (end - i)
unfolding uses_from
one_more g handed i end us more h e =
    let less : end - i ≡ suc (end - (i + 1)) = omega arith in
    ap (λ xs. xs ++ uses_from g handed (i + 1) (end - (i + 1))) e
    ∙ append_assoc us (uses_in g handed i) (uses_from g handed (i + 1) (end - (i + 1)))
    ∙ ap (λ n. us ++ uses_from g handed i n) (sym less)

-- where no callback is left nothing comes
pub no_more : (g : Graph) (handed : HandedOver) (i end : ℕ) (us : List SharedUse) → end ≤ i →
    us ++ uses_from g handed i (end - i) ≡ us
unfolding uses_from
no_more g handed i end us h =
    let none : end - i ≡ 0 = omega arith in ap (λ n. us ++ uses_from g handed i n) none ∙ append-nil us

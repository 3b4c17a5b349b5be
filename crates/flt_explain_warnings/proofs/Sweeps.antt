-- What is left of a sweep over points and over callbacks, after one more.
use Rattle.std.proofs.Common.{◌≡◌, ℕ, suc, ◌+◌, ◌-◌, ◌<◌, ◌≤◌, List, ◌++◌, sym, ap, ◌∙◌, append_assoc, append-nil, arith}
use Rattle.flt_graph.specs.declared.graph.Graph.{Graph}
use Rattle.flt_cert.specs.Format.{Certificate}
use Rattle.flt_explain_warnings.specs.Warning.{site}
use Rattle.flt_explain_warnings.specs.Warnings.{warned_at, warned_from, warned_in, warned_in_from}
use Rattle.flt_explain_warnings.specs.declared.shared.SharedUse.{SharedUse}
use Rattle.flt_explain_warnings.specs.declared.warning.Kind.{Kind}
use Rattle.flt_explain_warnings.specs.declared.warning.Warning.{Warning}

-- the warnings of a point go before those of the points behind it
pub one_point : (g : Graph) (k : Certificate) (us : List SharedUse) (kind : Kind) (callback i end : ℕ) (ws more : List Warning) → i < end →
    more ≡ ws ++ warned_at g k us kind (site callback i) →
    more ++ warned_from g k us kind callback (i + 1) (end - (i + 1)) ≡ ws ++ warned_from g k us kind callback i (end - i)
unfolding warned_from
one_point g k us kind callback i end ws more h e =
    let less : end - i ≡ suc (end - (i + 1)) = omega arith in
    ap (λ xs. xs ++ warned_from g k us kind callback (i + 1) (end - (i + 1))) e
    ∙ append_assoc ws (warned_at g k us kind (site callback i)) (warned_from g k us kind callback (i + 1) (end - (i + 1)))
    ∙ ap (λ n. ws ++ warned_from g k us kind callback i n) (sym less)

-- where no point is left nothing comes
pub no_point : (g : Graph) (k : Certificate) (us : List SharedUse) (kind : Kind) (callback i end : ℕ) (ws : List Warning) → end ≤ i →
    ws ++ warned_from g k us kind callback i (end - i) ≡ ws
unfolding warned_from
no_point g k us kind callback i end ws h =
    let none : end - i ≡ 0 = omega arith in ap (λ n. ws ++ warned_from g k us kind callback i n) none ∙ append-nil ws

-- the warnings of a callback go before those of the callbacks behind it
pub one_callback : (g : Graph) (k : Certificate) (us : List SharedUse) (kind : Kind) (i end : ℕ) (ws more : List Warning) → i < end →
    more ≡ ws ++ warned_in g k us kind i →
    more ++ warned_in_from g k us kind (i + 1) (end - (i + 1)) ≡ ws ++ warned_in_from g k us kind i (end - i)
unfolding warned_in_from
one_callback g k us kind i end ws more h e =
    let less : end - i ≡ suc (end - (i + 1)) = omega arith in
    ap (λ xs. xs ++ warned_in_from g k us kind (i + 1) (end - (i + 1))) e
    ∙ append_assoc ws (warned_in g k us kind i) (warned_in_from g k us kind (i + 1) (end - (i + 1)))
    ∙ ap (λ n. ws ++ warned_in_from g k us kind i n) (sym less)

-- where no callback is left nothing comes
pub no_callback : (g : Graph) (k : Certificate) (us : List SharedUse) (kind : Kind) (i end : ℕ) (ws : List Warning) → end ≤ i →
    ws ++ warned_in_from g k us kind i (end - i) ≡ ws
unfolding warned_in_from
no_callback g k us kind i end ws h =
    let none : end - i ≡ 0 = omega arith in ap (λ n. ws ++ warned_in_from g k us kind i n) none ∙ append-nil ws

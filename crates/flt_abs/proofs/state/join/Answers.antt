use Rattle.std.proofs.Common.{rules, ◌≡◌, subst, sym}
use Rattle.std.specs.Prelude.{IsTrue}
use Rattle.flt_abs.proofs.Order.{join_means, join_proper}
use Rattle.flt_abs.specs.State.{State, state_of, join_of, is_proper, IsJoin}
use Rattle.flt_abs.proofs.state.join.Goals as goal

pub invariant_of-result : goal.invariant_of-result
invariant_of-result c =
    let same : state_of c.unite.new.into c.unite-2.new.into c.union.result c.union-2.result c.copied.result
    ≡ join_of (state_of c.a.inside.contexts c.a.inside.operations c.a.inside.modes c.a.inside.draining c.a.inside.locks)
    (state_of c.b.inside.contexts c.b.inside.operations c.b.inside.modes c.b.inside.draining c.b.inside.locks) = cc in
    let P : State → Type 0 = λ s. IsTrue (is_proper s) in
    subst P (sym same) (join_proper
    (state_of c.a.inside.contexts c.a.inside.operations c.a.inside.modes c.a.inside.draining c.a.inside.locks)
    (state_of c.b.inside.contexts c.b.inside.operations c.b.inside.modes c.b.inside.draining c.b.inside.locks) c.a.invariant)

pub returns-clause-meaning : goal.returns-clause-meaning
returns-clause-meaning c =
    let P : State → Type 0 = λ s. IsTrue (is_proper s) in
    let left : IsTrue (is_proper c.args.a.now) = subst P c.a.view_is c.a.invariant in
    let right : IsTrue (is_proper c.args.b.now) = subst P c.b.view_is c.b.invariant in
    let same : state_of c.unite.new.into c.unite-2.new.into c.union.result c.union-2.result c.copied.result
    ≡ join_of c.args.a.now c.args.b.now = cc in
    let Q : State → Type 0 = λ s. IsJoin c.args.a.now c.args.b.now s in
    let inside : c.a.inside.locks ≡ c.b.inside.locks = c.is_same.ensures.meaning.0 (search rules) in
    let locks : c.args.a.now.locks ≡ c.args.b.now.locks = cc in
    subst Q (sym same) (join_means _ _ left right locks)

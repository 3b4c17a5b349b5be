-- Each kind of step keeps the rule.
use Rattle.std.proofs.Common.{◌≡◌, ℕ, zero, suc, ◌+◌, List, [], ◌∷◌, ◌++◌, set, refl, sym, ap, arith}
use mathlib.Core.Option.{some, some-ne-none, some-injective}
use lib.ListN.{get_elem?}
use Rattle.crossbeam_deque.specs.Tasks.{Pushes, Takes, Pops, Admits}
use Rattle.flt_model.specs.declared.subject.Subject.{Subject}
use Rattle.flt_pool.specs.Hands.{newcomer}
use Rattle.flt_pool.specs.Rule.{weigh, weigh_put, weigh_taken, Balanced, HasPut, HasTaken}
use Rattle.flt_pool.specs.declared.hand.Hand.{Hand}

weigh-append : (h : Subject → ℕ) (xs ys : List Subject) → weigh h (xs ++ ys) ≡ weigh h xs + weigh h ys
weigh-append h [] ys = omega arith
weigh-append h (x ∷ xs) ys = omega (arith, weigh-append h xs ys)

-- where one hand becomes another, the sums change by what it had and what it has
put_set : (h : Subject → ℕ) (views : List Hand) (port : ℕ) (v w : Hand) → get_elem? views port ≡ some v
    → weigh_put h (set views port w) + weigh h v.put ≡ weigh_put h views + weigh h w.put
put_set h [] port v w at = absurd (some-ne-none v (sym at))
put_set h (u ∷ us) zero v w at =
    let e : weigh h u.put ≡ weigh h v.put = ap (λ (x : Hand). weigh h x.put) (some-injective u v at) in omega arith
put_set h (u ∷ us) (suc port) v w at = omega (arith, put_set h us port v w at)

taken_set : (h : Subject → ℕ) (views : List Hand) (port : ℕ) (v w : Hand) → get_elem? views port ≡ some v
    → weigh_taken h (set views port w) + weigh h v.taken ≡ weigh_taken h views + weigh h w.taken
taken_set h [] port v w at = absurd (some-ne-none v (sym at))
taken_set h (u ∷ us) zero v w at =
    let e : weigh h u.taken ≡ weigh h v.taken = ap (λ (x : Hand). weigh h x.taken) (some-injective u v at) in omega arith
taken_set h (u ∷ us) (suc port) v w at = omega (arith, taken_set h us port v w at)

-- a newcomer adds nothing
put_snoc : (h : Subject → ℕ) (views : List Hand) → weigh_put h (views ++ newcomer ∷ []) ≡ weigh_put h views
put_snoc h [] = omega arith
put_snoc h (u ∷ us) = omega (arith, put_snoc h us)

taken_snoc : (h : Subject → ℕ) (views : List Hand) → weigh_taken h (views ++ newcomer ∷ []) ≡ weigh_taken h views
taken_snoc h [] = omega arith
taken_snoc h (u ∷ us) = omega (arith, taken_snoc h us)

-- the rule holds at the start
pub begins : Balanced [] (newcomer ∷ [])
begins h = refl

-- a pass may come
pub admits : Admits Balanced newcomer
admits items views b h = omega (arith, put_snoc h views, taken_snoc h views, b h)

-- tickets may be put
pub puts : (port : ℕ) (v : Hand) (xs : List Subject) → Pushes Balanced port v xs (HasPut v xs)
puts port v xs items views b at = let w : Hand = record { put = v.put ++ xs; taken = v.taken } in (
  w,
  (λ h. omega (arith, put_set h views port v w at, taken_set h views port v w at, b h, weigh-append h v.put xs, weigh-append h items xs)),
  refl,
)

-- a ticket may be taken at the front
pub takes : (port : ℕ) (v : Hand) → Takes Balanced port v 1 (HasTaken v)
takes port v xs items views _ _ b at = let w : Hand = record { put = v.put; taken = v.taken ++ xs } in (
  w,
  (λ h. omega (arith, put_set h views port v w at, taken_set h views port v w at, b h, weigh-append h v.taken xs, weigh-append h xs items)),
  refl,
)

-- a ticket may be taken at the back, which no deque here does
pub pops : (port : ℕ) (v : Hand) → Pops Balanced port v (HasTaken v)
pops port v x items views b at = let w : Hand = record { put = v.put; taken = v.taken ++ x ∷ [] } in (
  w,
  (λ h. omega (
    arith,
    put_set h views port v w at,
    taken_set h views port v w at,
    b h,
    weigh-append h v.taken (x ∷ []),
    weigh-append h items (x ∷ []),
  )),
  refl,
)

use Rattle.std.proofs.Common.{◌≡◌, ◌+◌, ◌≤◌, ℕ, Bool, [], ◌∷◌, All, Contains, length, map, take, refl, ap, subst, arith}
use Rattle.std.proofs.lemmas.List.{take_all}
use Rattle.std.proofs.lemmas.List.Elements.{All-push}
use Rattle.std.specs.Prelude.{if◌then◌else◌}
use Rattle.flt_stack_core.specs.Receipts.{receipt, receipts_in, together}
use Rattle.flt_stack_core.proofs.Agreement.{all_none}
use Rattle.flt_stack_core.proofs.Entries.{arrivals, count_more, held_more, is_of_journal, one_arrival_more}
use Rattle.flt_stack_core.proofs.agreeing.count_held.Goals as goal
use Rattle.flt_stack_core.proofs.agreeing.count_held.Goals.{else-is_arrival, in-Some+else-not-is_held, in_default, then-is_arrival}

pub returns-then-not-is_held-clause-none : goal.returns-then-not-is_held-clause-none
returns-then-not-is_held-clause-none g c = λ none.
    let s = c.in-Some.sought in
    let r = receipt s.number s.entry s.answer in (
      r,
      is_of_journal c.args.entries.now c.loop-number.number _ (omega arith) c.loop-number.arrived r c.loop-number.invariant.arrived
          c.in-Some.ensures,
      λ held. absurd (let e = c.if-not-is_held.ensures.1 held in cc),
    )

pub loop-number-preserved : goal.loop-number-preserved
loop-number-preserved g c =
    let held = together (map g.S.HoldsReceipts.held c.args.seats.now) in
    let es = c.args.entries.now in
    let k = c.loop-number.number in
    let i = c.loop-number.invariant in
    let receipts : (c.match-of.count ≡ length (receipts_in (take (k + 1) es))) × (c.match-of.count ≤ k + 1)
    × All (Contains held) (receipts_in (take (k + 1) es)) =
    elim c.match-of.branch [
      | in-Some+else-not-is_held w ↦ (
          let s = w.in-Some.sought in
          let r = receipt s.number s.entry s.answer in
          let is = w.in-Some.ensures in
          let more = count_more es k _ (omega arith) c.loop-number.arrived i.arrived (r ∷ []) is in (
            omega (arith, w.count-is, i.count, more),
            omega (arith, w.count-is, i.few),
            held_more es k _ (omega arith) c.loop-number.arrived i.arrived (r ∷ []) is held i.held
                (All-push (Contains held) [] r (all_none (Contains held)) (w.if-not-is_held.ensures.0 refl)),
          )
          )
      | in_default w ↦ (
          let is = w.in_default.ensures in
          let more = count_more es k _ (omega arith) c.loop-number.arrived i.arrived [] is in (
            omega (arith, w.count-is, i.count, more),
            omega (arith, w.count-is, i.few),
            held_more es k _ (omega arith) c.loop-number.arrived i.arrived [] is held i.held (all_none (Contains held)),
          )
          )
    ] in
    let more = one_arrival_more es k _ (omega arith) c.loop-number.arrived i.arrived c.is_arrival.result c.is_arrival.ensures in
    let arrived : (c.if-is_arrival.arrived ≡ arrivals (take (k + 1) es)) × (c.if-is_arrival.arrived ≤ k + 1) =
    elim c.if-is_arrival.branch [
      | then-is_arrival w ↦ (
        omega (arith, w.arrived-is, more, ap {B = ℕ} (λ (x : Bool). if x then 1 else 0) w.if-is_arrival.true),
        omega (arith, w.arrived-is, i.few_arrived),
      )
      | else-is_arrival w ↦ (
        omega (arith, w.arrived-is, more, ap {B = ℕ} (λ (x : Bool). if x then 1 else 0) w.if-is_arrival.false),
        omega (arith, w.arrived-is, i.few_arrived),
      )
    ] in
    record { arrived = arrived.0; few_arrived = arrived.1; count = receipts.0; few = receipts.1; held = receipts.2 }

pub returns-clause-held : goal.returns-clause-held
returns-clause-held g c =
    subst (λ es. All (Contains (together (map g.S.HoldsReceipts.held c.args.seats.now))) (receipts_in es))
    (take_all c.loop-number.number c.args.entries.now (omega arith)) c.loop-number.invariant.held

-- Every history leaves each serial balanced.
use Rattle.std.proofs.Common.{◌≡◌, ℕ, zero, suc, ◌+◌, ◌%◌, ◌<◌, List, [], ◌∷◌, ◌++◌, length, set, refl, sym, ap, ◌∙◌, subst, arith}
use Rattle.std.specs.Int.{bit_at}
use mathlib.Core.Option.{some, some-injective, some-ne-none}
use mathlib.Core.Logic.{dite}
use native.Mathlib.Decide.{ℕ_discrete}
use lib.ListN.{get_elem?}
use Rattle.flt_cancel.proofs.Histories.{word_count}
use Rattle.flt_cancel.proofs.Lists.{at_place}
use Rattle.flt_cancel.proofs.Present.{at_start, after_ask, after_another_ask, after_collection, elsewhere, in_word}
use Rattle.flt_cancel.proofs.Serials.{times-append, times_one_same, times_one_other, times_here, times_elsewhere}
use Rattle.flt_cancel.specs.Laws.{times, times_asked, times_collected, IsBalanced, NoneIsInvented}
use Rattle.flt_cancel.specs.Serials.{word_of, present, serials}
use Rattle.flt_cancel.specs.Steps.{newcomer, having_asked, having_collected, view_at, words_after, views_after, IsHistory}
use Rattle.flt_cancel.specs.declared.seat.View.{View}
use Rattle.flt_cancel.specs.declared.step.Step.{Step}
use Rattle.flt_cancel.specs.declared.step.Step.TheVariants.{Split, Ask, Collect}

-- ---- the totals after a change of one view

asked_set : (x : ℕ) (views : List View) (id : ℕ) (v w : View) → get_elem? views id ≡ some v →
    times_asked x (set views id w) + times x v.asked ≡ times_asked x views + times x w.asked
asked_set x [] id v w at = absurd (some-ne-none v (sym at))
asked_set x (u ∷ us) zero v w at = let e : times x u.asked ≡ times x v.asked =
    ap (λ (t : View). times x t.asked) (some-injective u v at) in omega arith
asked_set x (u ∷ us) (suc id) v w at = omega (arith, asked_set x us id v w at)

collected_set : (x : ℕ) (views : List View) (id : ℕ) (v w : View) → get_elem? views id ≡ some v →
    times_collected x (set views id w) + times x v.collected ≡ times_collected x views + times x w.collected
collected_set x [] id v w at = absurd (some-ne-none v (sym at))
collected_set x (u ∷ us) zero v w at = let e : times x u.collected ≡ times x v.collected =
    ap (λ (t : View). times x t.collected) (some-injective u v at) in omega arith
collected_set x (u ∷ us) (suc id) v w at = omega (arith, collected_set x us id v w at)

asked_snoc : (x : ℕ) (views : List View) → times_asked x (views ++ newcomer ∷ []) ≡ times_asked x views
asked_snoc x [] = refl
asked_snoc x (u ∷ us) = omega (arith, asked_snoc x us)

collected_snoc : (x : ℕ) (views : List View) → times_collected x (views ++ newcomer ∷ []) ≡ times_collected x views
collected_snoc x [] = refl
collected_snoc x (u ∷ us) = omega (arith, collected_snoc x us)

-- ---- the steps

balanced : (steps : List Step) (x : ℕ) → IsHistory steps → IsBalanced x (words_after steps) (views_after steps)
balanced [] x h = let clear = at_start x in (omega (arith, clear), λ some_asked. absurd (omega (arith, some_asked)))
balanced (Split ∷ earlier) x h =
    let b = balanced earlier x h.1 in let most = b.0 in
    let a = asked_snoc x (views_after earlier) in
    let c = collected_snoc x (views_after earlier) in
    (omega (arith, a, c, most), λ some_asked. let least = b.1 (omega (arith, a, some_asked)) in omega (arith, c, least))
balanced (Ask by serial ∷ earlier) x h =
    let words : List ℕ = words_after earlier in let views : List View = views_after earlier in
    let b = balanced earlier x h.1 in let most = b.0 in
    let there_is = h.0.0 in let lt = h.0.1 in
    let v : View = view_at views by in
    let w : View = having_asked (Ask by serial ∷ earlier) serial v in
    let at : get_elem? views by ≡ some v = at_place views by newcomer there_is in
    let a = asked_set x views by v w at in
    let c = collected_set x views by v w at in
    let t = times-append x v.asked (serial ∷ []) in
    let in_words : word_of serial < length words = omega (arith, word_count earlier, lt) in
    dite
    (ℕ_discrete x serial)
    (λ e.
    let once = times_one_same x serial e in
    let p : present (words_after (Ask by serial ∷ earlier)) x ≡ 1 = ap (present (words_after (Ask by serial ∷ earlier))) e
    ∙ after_ask words serial in_words in
    (omega (arith, a, c, t, once, p, most), λ some_asked. omega (arith, p)))
    (λ ne.
    let never = times_one_other x serial ne in
    let p = after_another_ask words serial x in_words ne in (
      omega (arith, a, c, t, never, p, most),
      λ some_asked. let least = b.1 (omega (arith, a, t, never, some_asked)) in
          omega (arith, c, p, least),
    ))
balanced (Collect by word found ∷ earlier) x h =
    let words : List ℕ = words_after earlier in let views : List View = views_after earlier in
    let b = balanced earlier x h.1 in let most = b.0 in
    let there_is = h.0.0 in let lt = h.0.1 in
    let v : View = view_at views by in
    let w : View = having_collected (Collect by word found ∷ earlier) word found v in
    let at : get_elem? views by ≡ some v = at_place views by newcomer there_is in
    let a = asked_set x views by v w at in
    let c = collected_set x views by v w at in
    let t = times-append x v.collected (serials word found) in
    let in_words : word < length words = omega (arith, word_count earlier, lt) in
    dite
    (ℕ_discrete (word_of x) word)
    (λ e.
    let p = after_collection words word x in_words e in
    let was : present words x ≡ bit_at found (x % 64) = in_word words word x e ∙ ap (λ (n : ℕ). bit_at n (x % 64)) (sym h.0.2) in
    let got = times_here word found x e in (
      omega (arith, a, c, t, p, was, got, most),
      λ some_asked. let least = b.1 (omega (arith, a, some_asked)) in
          omega (arith, c, t, p, was, got, least),
    ))
    (λ ne.
    let p = elsewhere words word 0 x ne in
    let got = times_elsewhere word found x ne in (
      omega (arith, a, c, t, p, got, most),
      λ some_asked. let least = b.1 (omega (arith, a, some_asked)) in
          omega (arith, c, t, p, got, least),
    ))

-- no serial is collected that wasn't asked
pub none_invented : NoneIsInvented
none_invented pads kept serial =
    subst (λ (words : List ℕ). IsBalanced serial words pads.views) (sym kept.2)
    (subst (λ (views : List View). IsBalanced serial (words_after kept.0) views) (sym kept.3) (balanced kept.0 serial kept.1))

-- What histories leave: how long the lists are, what a seat has seen, and that what was collected was asked.
use Rattle.std.proofs.Common.{◌≡◌, ◌⊎◌, ℕ, zero, suc, ◌+◌, ◌*◌, ◌%◌, ◌<◌, ◌≤◌, ◌==◌, eq-eqb, ne_eqb, Bool, List}
use Rattle.std.proofs.Common.{[], ◌∷◌, ◌++◌, length, All, refl, sym, ap, ◌∙◌, subst, inl, inr, ⊎_elim, arith}
use Rattle.std.specs.Prelude.{if◌then◌else◌}
use Rattle.std.specs.Int.{bit_at}
use Rattle.std.proofs.lemmas.List.{length-set, length-replicate, length-append}
use Rattle.std.proofs.lemmas.List.Elements.{All-nil, All-cons, All-append}
use mathlib.Core.Option.{some, some-ne-none}
use mathlib.Core.Logic.{dite}
use native.Mathlib.Decide.{ℕ_discrete}
use lib.ListN.{get_elem?}
use Rattle.atomic_table.proofs.Lists.{at_set}
use Rattle.flt_cancel.proofs.Lists.{at_snoc_place}
use Rattle.flt_cancel.proofs.Present.{at_start, after_ask, after_another_ask, after_collection, elsewhere, in_word}
use Rattle.flt_cancel.specs.Laws.{IsCollected, HasSeen, OneHistory}
use Rattle.flt_cancel.specs.Serials.{word_of, IsPresent, serials_below, serials}
use Rattle.flt_cancel.specs.Steps.{newcomer, words_after, views_after, IsHistory, IsBy, WasAsked}
use Rattle.flt_cancel.specs.declared.seat.View.{View}
use Rattle.flt_cancel.specs.declared.step.Step.{Step}
use Rattle.flt_cancel.specs.declared.step.Step.TheVariants.{Split, Ask, Collect}

-- there are 1024 words after any history
pub word_count : (steps : List Step) → length (words_after steps) ≡ 1024
word_count [] = length-replicate {A = ℕ} 1024 0
word_count (Split ∷ earlier) = word_count earlier
word_count (Ask by serial ∷ earlier) = length-set (words_after earlier) _ _ ∙ word_count earlier
word_count (Collect by word found ∷ earlier) = length-set (words_after earlier) word 0 ∙ word_count earlier

-- ---- what a seat has seen

-- a seat that isn't there yet has made no step
not_yet : (steps : List Step) (by : ℕ) → IsHistory steps → length (views_after steps) ≤ by → All (λ step. IsBy by step → ⊥) steps
not_yet [] by h far = All-nil (λ step. IsBy by step → ⊥)
not_yet (Split ∷ earlier) by h far =
    let long : length (views_after earlier ++ newcomer ∷ []) ≡ length (views_after earlier) + 1 =
    length-append (views_after earlier) (newcomer ∷ []) in
    All-cons (λ step. IsBy by step → ⊥) Split earlier (λ never. never) (not_yet earlier by h.1 (omega (arith, long, far)))
not_yet (Ask seat serial ∷ earlier) by h far =
    let long : length (views_after (Ask seat serial ∷ earlier)) ≡ length (views_after earlier) =
    length-set (views_after earlier) seat _ in let lt = h.0.0 in
    All-cons (λ step. IsBy by step → ⊥) (Ask seat serial) earlier (λ (e : seat ≡ by). omega (arith, long, far, lt, e))
    (not_yet earlier by h.1 (omega (arith, long, far)))
not_yet (Collect seat word found ∷ earlier) by h far =
    let long : length (views_after (Collect seat word found ∷ earlier)) ≡ length (views_after earlier) =
    length-set (views_after earlier) seat _ in let lt = h.0.0 in
    All-cons (λ step. IsBy by step → ⊥) (Collect seat word found) earlier (λ (e : seat ≡ by). omega (arith, long, far, lt, e))
    (not_yet earlier by h.1 (omega (arith, long, far)))

one_more : (step : Step) (steps : List Step) (by : ℕ) (v : View) → (IsBy by step → ⊥) → HasSeen steps by v → HasSeen (step ∷ steps) by v
one_more step steps by v other s = (step ∷ s.0, ap (λ (l : List Step). step ∷ l) s.1, All-cons (λ one. IsBy by one → ⊥) step s.0 other s.2)

just_now : (steps : List Step) (by : ℕ) (v w : View) → w.seen ≡ steps → w ≡ v → HasSeen steps by v
just_now steps by v w e same = ([], sym e ∙ ap (λ (u : View). u.seen) same, All-nil (λ step. IsBy by step → ⊥))

nothing_after : (steps : List Step) → steps ++ [] ≡ steps
nothing_after [] = refl
nothing_after (step ∷ steps) = ap (λ (l : List Step). step ∷ l) (nothing_after steps)

fresh : (steps : List Step) (by : ℕ) (v : View) → newcomer ≡ v → All (λ step. IsBy by step → ⊥) steps → HasSeen steps by v
fresh steps by v e none = (steps, sym (ap (λ (l : List Step). steps ++ l) (sym (ap (λ (u : View). u.seen) e)) ∙ nothing_after steps), none)

-- what a seat has seen is what its view says
pub seen : (steps : List Step) (by : ℕ) (v : View) → IsHistory steps → get_elem? (views_after steps) by ≡ some v → HasSeen steps by v
seen [] by v h at = ⊎_elim
    (λ (was : get_elem? [] by ≡ some v). absurd (some-ne-none v (sym was)))
    (λ (t : (newcomer ≡ v) × (0 ≤ by)). fresh [] by v t.0 (All-nil (λ step. IsBy by step → ⊥)))
    (at_snoc_place [] newcomer v by at)
seen (Split ∷ earlier) by v h at = ⊎_elim
    (λ (was : get_elem? (views_after earlier) by ≡ some v). one_more Split earlier by v (λ never. never) (seen earlier by v h.1 was))
    (λ (t : (newcomer ≡ v) × (length (views_after earlier) ≤ by)). fresh (Split ∷ earlier) by v t.0
    (All-cons (λ step. IsBy by step → ⊥) Split earlier (λ never. never) (not_yet earlier by h.1 t.1)))
    (at_snoc_place (views_after earlier) newcomer v by at)
seen (Ask seat serial ∷ earlier) by v h at = ⊎_elim
    (λ t. just_now (Ask seat serial ∷ earlier) by v _ refl t.1)
    (λ t. let ne = t.0 in one_more (Ask seat serial) earlier by v (λ (e : seat ≡ by). ne (sym e)) (seen earlier by v h.1 t.1))
    (at_set (views_after earlier) seat by _ v at)
seen (Collect seat word found ∷ earlier) by v h at = ⊎_elim
    (λ t. just_now (Collect seat word found ∷ earlier) by v _ refl t.1)
    (λ t. let ne = t.0 in one_more (Collect seat word found) earlier by v (λ (e : seat ≡ by). ne (sym e)) (seen earlier by v h.1 t.1))
    (at_set (views_after earlier) seat by _ v at)

-- between any two steps there is one list of steps, and what each seat has seen is where it begins
pub one_history : OneHistory
one_history pads kept = (
  kept.0,
  kept.1,
  kept.2,
  λ by v at. seen kept.0 by v kept.1 (ap (λ (views : List View). get_elem? views by) (sym kept.3) ∙ at),
)

-- ---- what is present was asked

asked_before : (step : Step) (steps : List Step) (serial : ℕ) → WasAsked serial steps → WasAsked serial (step ∷ steps)
asked_before step steps serial t = (t.0, (suc t.1.0, (let lt = t.1.1 in omega (arith, lt)), t.1.2))

pub was_asked : (steps : List Step) (serial : ℕ) → IsHistory steps → IsPresent (words_after steps) serial → WasAsked serial steps
was_asked [] serial h set_bit = let clear = at_start serial in absurd (omega (arith, set_bit, clear))
was_asked (Split ∷ earlier) serial h set_bit = asked_before Split earlier serial (was_asked earlier serial h.1 set_bit)
was_asked (Ask by x ∷ earlier) serial h set_bit = dite
    (ℕ_discrete serial x)
    (λ e. (by, (zero, omega arith, ap (Ask by) (sym e))))
    (λ ne. let lt = h.0.1 in asked_before (Ask by x) earlier serial
    (was_asked earlier serial h.1 (sym (after_another_ask (words_after earlier) x serial
    (omega (arith, word_count earlier, lt)) ne) ∙ set_bit)))
was_asked (Collect by word found ∷ earlier) serial h set_bit = dite
    (ℕ_discrete (word_of serial) word)
    (λ e. let lt = h.0.1 in let clear =
    after_collection (words_after earlier) word serial (omega (arith, word_count earlier, lt)) e in absurd (omega (arith, set_bit, clear)))
    (λ ne. asked_before (Collect by word found) earlier serial
    (was_asked earlier serial h.1 (sym (elsewhere (words_after earlier) word 0 serial ne) ∙ set_bit)))

-- what a step collects was asked before it
pub collected_was_asked : (by word found : ℕ) (earlier : List Step) → IsHistory (Collect by word found ∷ earlier) →
    All (λ serial. WasAsked serial (Collect by word found ∷ earlier)) (serials word found)
collected_was_asked by word found earlier h = each 64 (omega arith)
  where
    P : ℕ → Type 0
    P serial = WasAsked serial (Collect by word found ∷ earlier)

    one : (k : ℕ) → k < 64 → bit_at found k ≡ 1 → P (64 * word + k)
    one k lt set_bit =
        let in_it : word_of (64 * word + k) ≡ word = omega arith in
        let place : (64 * word + k) % 64 ≡ k = omega arith in
        asked_before (Collect by word found) earlier (64 * word + k) (was_asked earlier (64 * word + k) h.1
        (in_word (words_after earlier) word (64 * word + k) in_it ∙ ap (λ (n : ℕ). bit_at n ((64 * word + k) % 64)) (sym h.0.2)
        ∙ ap (bit_at found) place ∙ set_bit))

    each : (k : ℕ) → k ≤ 64 → All P (serials_below k word found)
    each zero le = All-nil P
    each (suc k) le = All-append P (serials_below k word found) (if bit_at found k == 1 then (64 * word + k) ∷ [] else [])
        (each k (omega arith)) (dite
        (ℕ_discrete (bit_at found k) 1)
        (λ e. subst (λ (b : Bool). All P (if b then (64 * word + k) ∷ [] else [])) (sym (eq-eqb (bit_at found k) 1 e))
        (All-cons P (64 * word + k) [] (one k (omega arith) e) (All-nil P)))
        (λ ne. subst (λ (b : Bool). All P (if b then (64 * word + k) ∷ [] else [])) (sym (ne_eqb (bit_at found k) 1 ne)) (All-nil P)))

-- ---- an ask is answered

collected_before : (step : Step) (steps : List Step) (serial : ℕ) → IsCollected serial steps → IsCollected serial (step ∷ steps)
collected_before step steps serial t = (t.0, t.1, (suc t.2.0, (let lt = t.2.1 in omega (arith, lt)), t.2.2), t.3)

-- what was asked is collected later or present still
pub answered : (later earlier : List Step) (by serial : ℕ) → IsHistory (later ++ Ask by serial ∷ earlier) →
    IsCollected serial later ⊎ IsPresent (words_after (later ++ Ask by serial ∷ earlier)) serial
answered [] earlier by serial h = let lt = h.0.1 in inr (after_ask (words_after earlier) serial (omega (arith, word_count earlier, lt)))
answered (Split ∷ later) earlier by serial h =
    ⊎_elim (λ t. inl (collected_before Split later serial t)) (λ p. inr p) (answered later earlier by serial h.1)
answered (Ask seat x ∷ later) earlier by serial h =
    let so_far : List Step = later ++ Ask by serial ∷ earlier in
    let lt = h.0.1 in
    let in_words : word_of x < length (words_after so_far) = omega (arith, word_count so_far, lt) in
    ⊎_elim
    (λ t. inl (collected_before (Ask seat x) later serial t))
    (λ p. inr (dite
    (ℕ_discrete serial x)
    (λ e. subst (λ (y : ℕ). IsPresent (words_after (Ask seat x ∷ so_far)) y) (sym e) (after_ask (words_after so_far) x in_words))
    (λ ne. after_another_ask (words_after so_far) x serial in_words ne ∙ p)))
    (answered later earlier by serial h.1)
answered (Collect seat word found ∷ later) earlier by serial h =
    let so_far : List Step = later ++ Ask by serial ∷ earlier in
    ⊎_elim
    (λ t. inl (collected_before (Collect seat word found) later serial t))
    (λ p. dite
    (ℕ_discrete (word_of serial) word)
    (λ e. inl (
      seat,
      found,
      (zero, omega arith, ap (λ (i : ℕ). Collect seat i found) (sym e)),
      ap (λ (n : ℕ). bit_at n (serial % 64)) h.0.2 ∙ sym (in_word (words_after so_far) word serial e) ∙ p,
    ))
    (λ ne. inr (elsewhere (words_after so_far) word 0 serial ne ∙ p)))
    (answered later earlier by serial h.1)

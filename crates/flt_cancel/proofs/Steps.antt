-- The three kinds of step keep the rule, and tell their seat what they do.
use Rattle.std.proofs.Common.{◌≡◌, ℕ, ◌<◌, List, [], ◌∷◌, ◌++◌, replicate, set, All, refl, sym, ap, ◌∙◌, subst, arith}
use Rattle.std.specs.Prelude.{slice_index, bit_or}
use mathlib.Core.Option.{some, none}
use lib.ListN.{get_elem?}
use Rattle.atomic_table.specs.Table.{Me, step, keeps, Allows, Splits}
use Rattle.atomic_table.proofs.Lists.{set_again}
use Rattle.flt_cancel.proofs.Histories.{seen, word_count, collected_was_asked}
use Rattle.flt_cancel.proofs.Lists.{there, read}
use Rattle.flt_cancel.proofs.Present.{same_serial, after_ask}
use Rattle.flt_cancel.specs.Laws.{HasSeen}
use Rattle.flt_cancel.specs.Rule.{Kept, HasAsked, Asked, Collected}
use Rattle.flt_cancel.specs.Serials.{word_of, mask_of, serials, IsPresent}
use Rattle.flt_cancel.specs.Steps.{newcomer, having_asked, having_collected, view_at, words_after, views_after, IsHistory, IsNext, WasAsked}
use Rattle.flt_cancel.specs.declared.seat.View.{View}
use Rattle.flt_cancel.specs.declared.step.Step.{Step}
use Rattle.flt_cancel.specs.declared.step.Step.TheVariants.{Split, Ask, Collect}
use Rattle.flt_rules.specs.Limits.{max_operations}

-- the rule at the start
pub begins : (words : List ℕ) → words ≡ replicate 1024 0 → Kept (record { words = words; homes = []; views = newcomer ∷ [] })
begins words e = ([], tt, e, refl)

-- a seat may ask for a serial, and then has asked for it
pub asks : (slots id x : ℕ) (me : Me ℕ View) → x < max_operations →
    Allows Kept slots id me (word_of x) (λ n. bit_or n (mask_of x)) (Asked (step slots (word_of x) (mask_of x) 0 none) me)
asks slots id x me lt s kept size at fits =
    let steps : List Step = kept.0 in
    let h : IsHistory steps = kept.1 in
    let at_now : get_elem? (views_after steps) id ≡ some me.0 = ap (λ (vs : List View). get_elem? vs id) (sym kept.3) ∙ at in
    let past : HasSeen steps id me.0 = seen steps id me.0 h at_now in
    let now : List Step = Ask id x ∷ steps in
    let history : IsHistory now = ((there (views_after steps) id me.0 at_now, lt), h) in
    let w : View = having_asked now x me.0 in
    let mine : view_at (views_after steps) id ≡ me.0 = read (views_after steps) id me.0 newcomer at_now in (
      w,
      keeps,
      tt,
      (
        now,
        history,
        ap (λ (ws : List ℕ). set ws (word_of x) (bit_or (slice_index ws (word_of x)) (mask_of x))) kept.2,
        ap (λ (vs : List View). set vs id w) kept.3 ∙ ap (λ (v : View). set (views_after steps) id (having_asked now x v)) (sym mine),
      ),
      λ serial same_word same_mask. subst (λ (y : ℕ). HasAsked y me.0 w) (same_serial x serial same_word same_mask)
          (refl, refl, (id, (history, past.0, ap (λ (l : List Step). Ask id x ∷ l) past.1, past.2))),
    )

-- a seat may collect a word, and then has collected it
pub collects : (slots id i : ℕ) (me : Me ℕ View) → i < 1024 → Allows Kept slots id me i (λ _. 0) (Collected (step slots i 0 0 none) me)
collects slots id i me lt s kept size at fits =
    let steps : List Step = kept.0 in
    let h : IsHistory steps = kept.1 in
    let found : ℕ = slice_index s.words i in
    let at_now : get_elem? (views_after steps) id ≡ some me.0 = ap (λ (vs : List View). get_elem? vs id) (sym kept.3) ∙ at in
    let past : HasSeen steps id me.0 = seen steps id me.0 h at_now in
    let now : List Step = Collect id i found ∷ steps in
    let history : IsHistory now = ((there (views_after steps) id me.0 at_now, lt, ap (λ (ws : List ℕ). slice_index ws i) kept.2), h) in
    let w : View = having_collected now i found me.0 in
    let mine : view_at (views_after steps) id ≡ me.0 = read (views_after steps) id me.0 newcomer at_now in (
      w,
      keeps,
      tt,
      (
        now,
        history,
        ap (λ (ws : List ℕ). set ws i 0) kept.2,
        ap (λ (vs : List View). set vs id w) kept.3
            ∙ ap (λ (v : View). set (views_after steps) id (having_collected now i found v)) (sym mine),
      ),
      (refl, refl, (id, (history, past.0, ap (λ (l : List Step). Collect id i found ∷ l) past.1, past.2))),
    )

-- a newcomer's seat may be split off
pub splits : (id : ℕ) (v : View) → Splits Kept id v v newcomer
splits id v s kept at = (
  Split ∷ kept.0,
  (tt, kept.1),
  kept.2,
  ap (λ (vs : List View). vs ++ newcomer ∷ []) (set_again s.views id v at ∙ kept.3),
)

-- ---- what a seat knows after its step

-- a serial is present after it was asked
pub asked_is_present : (by serial : ℕ) (before after : List Step) → IsNext by (Ask by serial) before after →
    IsPresent (words_after after) serial
asked_is_present by serial before after next =
    let earlier : List Step = next.1 ++ before in
    let h : IsHistory (Ask by serial ∷ earlier) = subst IsHistory next.2 next.0 in
    let lt = h.0.1 in
    subst (λ (l : List Step). IsPresent (words_after l) serial) (sym next.2)
    (after_ask (words_after earlier) serial (omega (arith, word_count earlier, lt)))

-- the serials that were collected were asked before
pub collected_were_asked : (by word found : ℕ) (before after : List Step) → IsNext by (Collect by word found) before after →
    All (λ serial. WasAsked serial after) (serials word found)
collected_were_asked by word found before after next =
    subst (λ (l : List Step). All (λ serial. WasAsked serial l) (serials word found)) (sym next.2)
    (collected_was_asked by word found (next.1 ++ before) (subst IsHistory next.2 next.0))

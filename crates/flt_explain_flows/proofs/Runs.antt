-- Entries, one after another.
use Rattle.std.proofs.Common.{◌≡◌, ◌<◌, ◌≤◌, ◌+◌, ℕ, suc, List, [], ◌∷◌, ◌++◌, Option, Some, None, option_map, add-one}
use Rattle.std.proofs.Common.{append-nil, append_assoc, ap, drop, get_or, length, refl, subst, sym, ◌∙◌}
use Rattle.std.proofs.Math.Seq.{drop-cons}
use Rattle.std.proofs.lemmas.List.{drop_all}
use Rattle.flt_tree.specs.declared.filter.Filter.{Filter}
use Rattle.flt_model.specs.declared.moves.JournalEntry.{JournalEntry}
use Rattle.flt_explain_flows.specs.Running.{Entered, Goes, IsEntered, Stops, entry_of, ran_by, ran_from, with_first}
use Rattle.flt_explain_flows.specs.declared.running.Active.{Active}
use Rattle.flt_explain_flows.specs.declared.running.Course.{Course}
use Rattle.flt_explain_flows.specs.declared.running.Run.{Run}
use Rattle.flt_explain_flows.specs.declared.running.EntryActivation.{EntryActivation}

-- what is kept of entries, after what is kept of others before them
abbrev pub with_before : List EntryActivation → Run → Run
with_before all run = record run { taken = all ++ run.taken }

-- the same, if the entries are enabled
abbrev pub ran_after : List EntryActivation → Option Run → Option Run
ran_after all ran = option_map (with_before all) ran

kept_of : (all : List EntryActivation) (taken : EntryActivation) (ran : Option Run) →
    ran_after all (option_map (with_first taken) ran) ≡ ran_after (all ++ taken ∷ []) ran
kept_of all taken None = refl
kept_of all taken (Some run) =
    ap (λ (xs : List EntryActivation). Some (let kept : Run = record run { taken = xs } in kept))
    (sym (append_assoc all (taken ∷ []) run.taken))

kept_none : (all : List EntryActivation) (actives : List Active) →
    ran_after all (Some (record { taken = []; actives = actives })) ≡ Some (record { taken = all; actives = actives })
kept_none all actives = ap (λ (xs : List EntryActivation). Some (let kept : Run = record { taken = xs; actives = actives } in kept))
    (append-nil all)

module _ (p : List Filter) where
  -- an entry, before others
  entered_on : (s : Course) (e : JournalEntry) (es : List JournalEntry) (entered : Entered) → entry_of p s e ≡ entered →
      ran_from p s (e ∷ es) ≡ ran_by entered (λ after. ran_from p after es)
  unfolding ran_from
  entered_on s e es entered is = ap (λ (x : Entered). ran_by x (λ after. ran_from p after es)) is

  -- no entry
  entered_none : (s : Course) → ran_from p s [] ≡ Some (record { taken = []; actives = s.actives })
  unfolding ran_from
  entered_none s = refl

  -- the next entry is made
  made_next : (s after : Course) (all : List EntryActivation) (taken : EntryActivation) (whole : Option Run) (es : List JournalEntry)
      (place : ℕ) (d : JournalEntry) →
      place < length es → entry_of p s (get_or es place d) ≡ Goes taken after → ran_after all (ran_from p s (drop place es)) ≡ whole →
      ran_after (all ++ taken ∷ []) (ran_from p after (drop (place + 1) es)) ≡ whole
  made_next s after all taken whole es place d within is so =
      sym (kept_of all taken (ran_from p after (drop (place + 1) es)))
      ∙ ap (λ (k : ℕ). ran_after all (option_map (with_first taken) (ran_from p after (drop k es)))) (add-one place)
      ∙ ap (ran_after all) (sym (entered_on s (get_or es place d) (drop (suc place) es) (Goes taken after) is))
      ∙ ap (λ (ws : List JournalEntry). ran_after all (ran_from p s ws)) (sym (drop-cons es place d within)) ∙ so

  -- the next entry isn't enabled
  stopped_next : (s : Course) (all : List EntryActivation) (whole : Option Run) (es : List JournalEntry) (place : ℕ) (d : JournalEntry) →
      place < length es → entry_of p s (get_or es place d) ≡ Stops → ran_after all (ran_from p s (drop place es)) ≡ whole → whole ≡ None
  stopped_next s all whole es place d within is so =
      sym so ∙ ap (λ (ws : List JournalEntry). ran_after all (ran_from p s ws)) (drop-cons es place d within)
      ∙ ap (ran_after all) (entered_on s (get_or es place d) (drop (suc place) es) Stops is)

  -- the same, where the entries are lent
  pub ran_on : (s after : Course) (all grown : List EntryActivation) (found : Option EntryActivation)
      (taken : EntryActivation) (whole : Option Run)
      (lent es : List JournalEntry) (place : ℕ) (d : JournalEntry) → lent ≡ es → place < length lent →
      IsEntered found after (entry_of p s (get_or lent place d)) → found ≡ Some taken → grown ≡ all ++ taken ∷ [] →
      ran_after all (ran_from p s (drop place es)) ≡ whole → ran_after grown (ran_from p after (drop (place + 1) es)) ≡ whole
  ran_on s after all grown found taken whole lent es place d same within entered is longer so =
      let is_taken : entry_of p s (get_or lent place d) ≡ Goes taken after =
      subst (λ (f : Option EntryActivation). IsEntered f after (entry_of p s (get_or lent place d))) is entered in
      let P : List JournalEntry → Type 0 = λ ws. place < length ws → entry_of p s (get_or ws place d) ≡ Goes taken after →
      ran_after (all ++ taken ∷ []) (ran_from p after (drop (place + 1) es)) ≡ whole in
      ap (λ (ts : List EntryActivation). ran_after ts (ran_from p after (drop (place + 1) es))) longer
      ∙ subst P (sym same) (λ w e. made_next s after all taken whole es place d w e so) within is_taken

  -- where an entry can't be made, there is no run of all
  pub ran_nowhere : (s after : Course) (all : List EntryActivation) (found : Option EntryActivation) (whole : Option Run)
      (lent es : List JournalEntry) (place : ℕ)
      (d : JournalEntry) → lent ≡ es → place < length lent → IsEntered found after (entry_of p s (get_or lent place d)) → found ≡ None →
      ran_after all (ran_from p s (drop place es)) ≡ whole → whole ≡ None
  ran_nowhere s after all found whole lent es place d same within entered is so =
      let is_stopped : entry_of p s (get_or lent place d) ≡ Stops =
      subst (λ (f : Option EntryActivation). IsEntered f after (entry_of p s (get_or lent place d))) is entered in
      let P : List JournalEntry → Type 0 = λ ws. place < length ws → entry_of p s (get_or ws place d) ≡ Stops → whole ≡ None in
      subst P (sym same) (λ w e. stopped_next s all whole es place d w e so) within is_stopped

  -- no entry comes next
  pub ran_all : (s : Course) (all : List EntryActivation) (whole : Option Run) (es : List JournalEntry) (place : ℕ) → length es ≤ place →
      ran_after all (ran_from p s (drop place es)) ≡ whole → whole ≡ Some (record { taken = all; actives = s.actives })
  ran_all s all whole es place past so =
      sym so ∙ ap (λ (ws : List JournalEntry). ran_after all (ran_from p s ws)) (drop_all place es past)
      ∙ ap (ran_after all) (entered_none s) ∙ kept_none all s.actives

-- One more entry is told.
use Rattle.std.proofs.Common.{◌≡◌, ◌<◌, ◌≤◌, ◌+◌, ℕ, Bool, true, false, List, [], ◌∷◌, ◌++◌, Option, Some, None, add-one}
use Rattle.std.proofs.Common.{append-nil, append_assoc, ap, drop, get_or, length, map, refl, subst, sym, ◌∙◌}
use Rattle.std.proofs.Math.Seq.{drop-cons}
use Rattle.std.specs.Prelude.{Err, Ok, OnOk, Result}
use Rattle.std.proofs.lemmas.List.{drop_all, map-append}
use Rattle.flt_tree.specs.declared.filter.Filter.{Filter}
use Rattle.flt_model.specs.declared.moves.JournalEntry.{JournalEntry}
use Rattle.flt_model.specs.declared.verdict.Verdict.{Verdict}
use Rattle.flt_explain_timeline.specs.Course.{Entered, Goes, Stops, aside, ending, ending_if, ends_at, entry_of, followed}
use Rattle.flt_explain_timeline.specs.Course.{next_refused, next_told, not_enabled, refused_by, refused_from, told_from}
use Rattle.flt_explain_timeline.specs.Tellings.{AreToldBy, told_by}
use Rattle.flt_explain_timeline.specs.declared.course.Progress.{Progress}
use Rattle.flt_explain_timeline.specs.declared.refusal.Refusal.{Refusal}
use Rattle.flt_explain_timeline.specs.declared.running.Scene.{Scene}
use Rattle.flt_explain_timeline.specs.declared.running.DescribedEntry.{DescribedEntry}
use Rattle.flt_explain_timeline.specs.declared.telling.Telling.{Telling}
use Rattle.flt_explain_timeline.specs.declared.telling.Who.{Who}
use Rattle.flt_explain_timeline.specs.declared.tellings.Tellings.{Tellings}

-- ---- what is told of it, and of those after it

module _ (p : List Filter) (v : Verdict) (number : ℕ) where
  told_going : (old : Progress) (s : Scene) (e : JournalEntry) (es : List JournalEntry) → old.is_over ≡ false →
      next_told p v old number s (e ∷ es)
      ≡ followed e old.alive es (ends_at v number) (entry_of p s e) (λ bits after. told_from p v (number + 1) bits after es)
  unfolding told_from
  told_going old s e es going = rw going refl

  refused_going : (old : Progress) (s : Scene) (e : JournalEntry) (es : List JournalEntry) → old.is_over ≡ false →
      next_refused p v old number s (e ∷ es) ≡ refused_by (ends_at v number) (entry_of p s e)
      (λ after. refused_from p v (number + 1) after es)
  unfolding refused_from
  refused_going old s e es going = rw going refl

  told_made : (ends : Bool) (here : DescribedEntry) (after : Scene) (e : JournalEntry)
      (es : List JournalEntry) (alive : ℕ) (why : Option Refusal) →
      ending_if ends here ∷ next_told p v (record { is_over = ends; alive = here.telling.alive; refusal = why }) (number + 1) after es
      ≡ followed e alive es ends (Goes here after) (λ bits w. told_from p v (number + 1) bits w es)
  told_made true here after e es alive why = refl
  told_made false here after e es alive why = refl

  refused_made : (ends : Bool) (here : DescribedEntry) (after : Scene) (es : List JournalEntry) (alive : ℕ) →
      next_refused p v (record { is_over = ends; alive = alive; refusal = None }) (number + 1) after es
      ≡ refused_by ends (Goes here after) (λ w. refused_from p v (number + 1) w es)
  refused_made true here after es alive = refl
  refused_made false here after es alive = refl

  -- it was made
  pub told_goes : (old new : Progress) (s after : Scene) (e : JournalEntry) (es : List JournalEntry) (here : DescribedEntry) →
      old.is_over ≡ false →
      entry_of p s e ≡ Goes here after →
      new ≡ record { is_over = ends_at v number; alive = here.telling.alive; refusal = None } →
      ending_if (ends_at v number) here ∷ next_told p v new (number + 1) after es ≡ next_told p v old number s (e ∷ es)
  told_goes old new s after e es here going is changed =
      ap (λ (n : Progress). ending_if (ends_at v number) here ∷ next_told p v n (number + 1) after es) changed
      ∙ told_made (ends_at v number) here after e es old.alive None
      ∙ ap (λ (x : Entered). followed e old.alive es (ends_at v number) x (λ bits w. told_from p v (number + 1) bits w es)) (sym is)
      ∙ sym (told_going old s e es going)

  -- where an entry can be made, the first refusal is looked for after it
  pub refused_goes : (old new : Progress) (s after : Scene) (e : JournalEntry) (es : List JournalEntry) (here : DescribedEntry) →
      old.is_over ≡ false → entry_of p s e ≡ Goes here after →
      new ≡ record { is_over = ends_at v number; alive = here.telling.alive; refusal = None } →
      next_refused p v new (number + 1) after es ≡ next_refused p v old number s (e ∷ es)
  refused_goes old new s after e es here going is changed =
      ap (λ (n : Progress). next_refused p v n (number + 1) after es) changed
      ∙ refused_made (ends_at v number) here after es here.telling.alive
      ∙ ap (λ (x : Entered). refused_by (ends_at v number) x (λ w. refused_from p v (number + 1) w es)) (sym is)
      ∙ sym (refused_going old s e es going)

  -- it isn't enabled
  pub told_stops : (old new : Progress) (s after : Scene) (e : JournalEntry) (es : List JournalEntry) (why : Refusal) →
      old.is_over ≡ false →
      entry_of p s e ≡ Stops why → new ≡ record { is_over = true; alive = old.alive; refusal = Some why } →
      ending (aside old.alive (not_enabled e)) ∷ next_told p v new (number + 1) after es ≡ next_told p v old number s (e ∷ es)
  told_stops old new s after e es why going is changed =
      ap (λ (n : Progress). ending (aside old.alive (not_enabled e)) ∷ next_told p v n (number + 1) after es) changed
      ∙ ap (λ (x : Entered). followed e old.alive es (ends_at v number) x (λ bits w. told_from p v (number + 1) bits w es)) (sym is)
      ∙ sym (told_going old s e es going)

  -- the first entry that can't be made is the first refusal
  pub refused_stops : (old new : Progress) (s after : Scene) (e : JournalEntry) (es : List JournalEntry) (why : Refusal) →
      old.is_over ≡ false → entry_of p s e ≡ Stops why → new ≡ record { is_over = true; alive = old.alive; refusal = Some why } →
      next_refused p v new (number + 1) after es ≡ next_refused p v old number s (e ∷ es)
  refused_stops old new s after e es why going is changed =
      ap (λ (n : Progress). next_refused p v n (number + 1) after es) changed
      ∙ ap (λ (x : Entered). refused_by (ends_at v number) x (λ w. refused_from p v (number + 1) w es)) (sym is)
      ∙ sym (refused_going old s e es going)

-- ---- what is told is numbered

-- what was told by numbers still is
still : (f g : ℕ → Option Telling) (told : List ℕ) (heres : List DescribedEntry) → ((n : ℕ) (t : Telling) → f n ≡ Some t → g n ≡ Some t) →
    map f told ≡ map (λ (here : DescribedEntry). Some here.telling) heres →
    map g told ≡ map (λ (here : DescribedEntry). Some here.telling) heres
still f g [] [] kept e = refl
still f g [] (here ∷ heres) kept e = absurd (cc)
still f g (n ∷ told) [] kept e = absurd (cc)
still f g (n ∷ told) (here ∷ heres) kept e =
    let first : f n ≡ Some here.telling = cc in
    let rest : map f told ≡ map (λ (h : DescribedEntry). Some h.telling) heres = cc in
    rw (kept n here.telling first, still f g told heres kept rest) refl

-- one more entry
pub one_more : (old new : Tellings) (told grown : List ℕ) (whos more : List Who) (number : ℕ)
    (here : DescribedEntry) (heres : List DescribedEntry) →
    AreToldBy old told whos heres → ((n : ℕ) (t : Telling) → told_by old n ≡ Some t → told_by new n ≡ Some t) →
    told_by new number ≡ Some here.telling → grown ≡ told ++ number ∷ [] → more ≡ whos ++ here.who ∷ [] →
    AreToldBy new grown more (heres ++ here ∷ [])
one_more old new told grown whos more number here heres so_far kept is longer wider = record {
  each =
      let a : map (told_by new) told ≡ map (λ (h : DescribedEntry). Some h.telling) heres =
      still (told_by old) (told_by new) told heres kept so_far.each in
      rw (longer, map-append, map-append, a, is) refl;
  on = rw (wider, so_far.on, map-append) refl;
}

-- ---- all entries

-- what is told of one more entry, and what comes next
pub told_on : (f g : ℕ → List JournalEntry →
    List DescribedEntry) (so_far all : List DescribedEntry) (here : DescribedEntry) (es : List JournalEntry)
    (number place : ℕ) (d : JournalEntry) →
    place < length es → number ≡ place → ((ws : List JournalEntry) → here ∷ f (number + 1) ws ≡ g number (get_or es place d ∷ ws)) →
    so_far ++ g place (drop place es) ≡ all → (so_far ++ here ∷ []) ++ f (place + 1) (drop (place + 1) es) ≡ all
told_on f g so_far all here es number place d within at step so =
    append_assoc so_far (here ∷ []) (f (place + 1) (drop (place + 1) es))
    ∙ ap (λ z. so_far ++ z)
    (ap (λ n. here ∷ f (n + 1) (drop (place + 1) es)) (sym at) ∙ step (drop (place + 1) es)
    ∙ ap (λ n. g n (get_or es place d ∷ drop (place + 1) es)) at
    ∙ ap (λ k. g place (get_or es place d ∷ drop k es)) (add-one place) ∙ ap (g place) (sym (drop-cons es place d within)))
    ∙ so

-- the same of why the last one isn't enabled
pub refused_on : (f g : ℕ → List JournalEntry → Option Refusal) (all : Option Refusal) (es : List JournalEntry)
    (number place : ℕ) (d : JournalEntry) →
    place < length es → number ≡ place → ((ws : List JournalEntry) → f (number + 1) ws ≡ g number (get_or es place d ∷ ws)) →
    g place (drop place es) ≡ all → f (place + 1) (drop (place + 1) es) ≡ all
refused_on f g all es number place d within at step so =
    ap (λ n. f (n + 1) (drop (place + 1) es)) (sym at) ∙ step (drop (place + 1) es)
    ∙ ap (λ n. g n (get_or es place d ∷ drop (place + 1) es)) at
    ∙ ap (λ k. g place (get_or es place d ∷ drop k es)) (add-one place) ∙ ap (g place) (sym (drop-cons es place d within)) ∙ so

-- the same, where the entries are lent
pub told_on_lent : (f g : ℕ → List JournalEntry → List DescribedEntry) (so_far all : List DescribedEntry) (here : DescribedEntry)
    (lent es : List JournalEntry) (number place : ℕ)
    (d : JournalEntry) → lent ≡ es → place < length lent → number ≡ place →
    ((ws : List JournalEntry) → here ∷ f (number + 1) ws ≡ g number (get_or lent place d ∷ ws)) → so_far ++ g place (drop place es) ≡ all →
    (so_far ++ here ∷ []) ++ f (place + 1) (drop (place + 1) es) ≡ all
told_on_lent f g so_far all here lent es number place d same within at step so =
    let P : List JournalEntry → Type 0 = λ xs. place < length xs →
    ((ws : List JournalEntry) → here ∷ f (number + 1) ws ≡ g number (get_or xs place d ∷ ws)) →
    (so_far ++ here ∷ []) ++ f (place + 1) (drop (place + 1) es) ≡ all in
    subst P (sym same) (λ w s. told_on f g so_far all here es number place d w at s so) within step

-- one more entry of a borrowed list is looked at
pub refused_on_lent : (f g : ℕ → List JournalEntry → Option Refusal) (all : Option Refusal) (lent es : List JournalEntry) (number place : ℕ)
    (d : JournalEntry) → lent ≡ es → place < length lent → number ≡ place →
    ((ws : List JournalEntry) → f (number + 1) ws ≡ g number (get_or lent place d ∷ ws)) → g place (drop place es) ≡ all →
    f (place + 1) (drop (place + 1) es) ≡ all
refused_on_lent f g all lent es number place d same within at step so =
    let P : List JournalEntry → Type 0 = λ xs. place < length xs →
    ((ws : List JournalEntry) → f (number + 1) ws ≡ g number (get_or xs place d ∷ ws)) → f (place + 1) (drop (place + 1) es) ≡ all in
    subst P (sym same) (λ w s. refused_on f g all es number place d w at s so) within step

module _ (p : List Filter) (v : Verdict) where
  none_told : (over : Bool) (progress : Progress) (number : ℕ) (s : Scene) →
      progress.is_over ≡ over → next_told p v progress number s [] ≡ []
  unfolding told_from
  none_told true progress number s e = rw e refl
  none_told false progress number s e = rw e refl

  none_refused : (over : Bool) (progress : Progress) (number : ℕ) (s : Scene) → progress.is_over ≡ over →
      (over ≡ false → progress.refusal ≡ None) → next_refused p v progress number s [] ≡ progress.refusal
  unfolding refused_from
  none_refused true progress number s e nothing = rw e refl
  none_refused false progress number s e nothing = rw (e, nothing refl) refl

  -- no entry comes next
  pub told_all : (so_far all : List DescribedEntry) (progress : Progress) (number place : ℕ) (s : Scene) (es : List JournalEntry) →
      length es ≤ place →
      so_far ++ next_told p v progress number s (drop place es) ≡ all → so_far ≡ all
  told_all so_far all progress number place s es past so =
      sym (append-nil so_far)
      ∙ ap (λ z. so_far ++ z) (sym (none_told progress.is_over progress number s refl))
      ∙ ap (λ (rest : List JournalEntry). so_far ++ next_told p v progress number s rest) (sym (drop_all place es past)) ∙ so

  -- after all entries the first refusal is the one that was found
  pub refused_all : (all : Option Refusal) (progress : Progress) (number place : ℕ) (s : Scene) (es : List JournalEntry) →
      length es ≤ place →
      (progress.is_over ≡ false → progress.refusal ≡ None) →
      next_refused p v progress number s (drop place es) ≡ all → progress.refusal ≡ all
  refused_all all progress number place s es past nothing so =
      sym (none_refused progress.is_over progress number s refl nothing)
      ∙ ap (λ (rest : List JournalEntry). next_refused p v progress number s rest) (sym (drop_all place es past)) ∙ so

-- one more entry, where its last part is there
pub one_added : {E : Type 0} (r : Result (Unit {0}) E) (old new : Tellings) (told grown : List ℕ) (whos more : List Who)
    (number : ℕ) (here : DescribedEntry) →
    ((n : ℕ) (t : Telling) → told_by old n ≡ Some t → told_by new n ≡ Some t) → told_by new number ≡ Some here.telling →
    grown ≡ told ++ number ∷ [] → OnOk r (more ≡ whos ++ here.who ∷ []) →
    OnOk r ((heres : List DescribedEntry) → AreToldBy old told whos heres → AreToldBy new grown more (heres ++ here ∷ []))
one_added (Ok u) old new told grown whos more number here kept is longer wider =
    λ heres so_far. one_more old new told grown whos more number here heres so_far kept is longer wider
one_added (Err u) old new told grown whos more number here kept is longer wider = wider

-- A queue's entries by their tickets: which are left, where one comes or is taken out, and which stands first.
use Rattle.std.proofs.Common.{◌≡◌, ℕ, zero, suc, ◌+◌, ◌<◌, ◌≤◌, Bool, true, false, ◌==◌, nat_lt, nat_eq, List}
use Rattle.std.proofs.Common.{[], ◌∷◌, ◌++◌, ◌⊎◌, inl, inr, ◌||◌, if◌then◌else◌, Option, Some, None, is_some}
use Rattle.std.proofs.Common.{find, map, take, length, get_or, set, ⊎_elim, refl, sym, ap, subst, ◌∙◌, arith}
use Rattle.std.proofs.lemmas.Bool.{eqb-true, ltb-false, ltb-true, lt-ltb, cases_eq, cases_lt, cases_order}
use Rattle.std.proofs.lemmas.Bool.Decides.{nat_tests}
use Rattle.std.proofs.lemmas.List.{append-nil, map-append, get_or_append_left, get_or_push, get_or_past}
use Rattle.std.proofs.lemmas.List.{take_all, take_more, take-append-le, length-set, length_push}
use Rattle.std.proofs.lemmas.List.Folds.{list_any-append}
use Rattle.std.specs.List.{list_any}
use Rattle.std.specs.Option.{MatchOption}
use Rattle.flt_model.specs.Trace.{one_if}
use Rattle.flt_model.specs.Violations.{in_queue}
use Rattle.flt_model.specs.declared.parts.Entry.{Entry}
use Rattle.flt_replay_records.proofs.Queues.CountWaiting.{in_none, in_push, in_cons}
use Rattle.flt_replay_records.proofs.Queues.QueueMiddle.{first_passes, first_fails}
use Rattle.flt_replay_records.specs.Counts.{count}
use Rattle.flt_replay_records.specs.Tickets.{present, has_visit, stands, is_before, is_of, without_first, lesser, AreTickets, IsLeast}

-- ---- what is left

pub present_append : (xs ys : List (Option Entry)) → present (xs ++ ys) ≡ present xs ++ present ys
present_append [] ys = refl
present_append (None ∷ xs) ys = present_append xs ys
present_append (Some e ∷ xs) ys = ap (λ (l : List Entry). e ∷ l) (present_append xs ys)

-- one entry more
pub present_push : (xs : List (Option Entry)) (e : Entry) → present (xs ++ Some e ∷ []) ≡ present xs ++ e ∷ []
present_push xs e = present_append xs (Some e ∷ [])

-- where all entries before the front are gone and the front is the end, none is left
pub nothing_left : (es : List (Option Entry)) (front : ℕ) → present (take front es) ≡ [] → front ≡ length es → present es ≡ []
nothing_left es front h e = ap present (sym (take_all front es (omega arith))) ∙ h

-- where an entry stands, something is left
pub something_left : (es : List (Option Entry)) (t : ℕ) → is_some (get_or es t None) ≡ true → present es ≡ [] → ⊥
something_left [] t h k = absurd (cc)
something_left (None ∷ es) zero h k = absurd (cc)
something_left (None ∷ es) (suc t) h k = something_left es t h k
something_left (Some e ∷ es) t h k = absurd (cc)

-- the entries up to one ticket more
pub taken_on : (es : List (Option Entry)) (t : ℕ) → t < length es → get_or es t None ≡ None →
    present (take (t + 1) es) ≡ present (take t es)
taken_on es t l h =
    ap present (take_more es t None l ∙ ap (λ (o : Option Entry). take t es ++ o ∷ []) h) ∙ present_append (take t es) (None ∷ [])
    ∙ append-nil (present (take t es))

-- the visits of the entries up to one ticket more
pub listed_on : (es : List (Option Entry)) (t : ℕ) (vs : List ℕ) → t < length es →
    vs ≡ map (λ (e : Entry). e.visit) (present (take t es)) →
    vs ++ map (λ (e : Entry). e.visit) (present (get_or es t None ∷ [])) ≡ map (λ (e : Entry). e.visit) (present (take (t + 1) es))
listed_on es t vs l is =
    ap (λ (xs : List ℕ). xs ++ map (λ (e : Entry). e.visit) (present (get_or es t None ∷ []))) is
    ∙ sym (map-append (λ (e : Entry). e.visit) (present (take t es)) (present (get_or es t None ∷ [])))
    ∙ ap (map (λ (e : Entry). e.visit)) (sym (present_append (take t es) (get_or es t None ∷ [])))
    ∙ ap (λ (xs : List (Option Entry)). map (λ (e : Entry). e.visit) (present xs)) (sym (take_more es t None l))

-- ---- visits that have no entries

false_where_absurd : (b : Bool) → (b ≡ true → ⊥) → b ≡ false
false_where_absurd true h = absurd (h refl)
false_where_absurd false h = refl

same_number : (v : ℕ) → (v == v) ≡ true
same_number v = grind (arith, nat_tests)

one_for : (v : ℕ) (e : Entry) → (e.visit == v) ≡ true → one_if e.visit v ≡ 1
unfolding one_if
one_for v e h = rw h refl

none_stands : (v : ℕ) (es : List (Option Entry)) (t : ℕ) → in_queue v (present es) ≡ 0 → has_visit v (get_or es t None) ≡ false
none_stands v [] t h = refl
none_stands v (None ∷ es) zero h = refl
none_stands v (None ∷ es) (suc t) h = none_stands v es t h
none_stands v (Some e ∷ es) zero h =
    false_where_absurd (e.visit == v) (λ is. let one = one_for v e is in let c = in_cons v e (present es) in absurd (omega arith))
none_stands v (Some e ∷ es) (suc t) h = none_stands v es t (let c = in_cons v e (present es) in omega arith)

none_for : (v : ℕ) (e : Entry) → (e.visit == v) ≡ false → one_if e.visit v ≡ 0
unfolding one_if
none_for v e h = rw h refl

-- a visit that isn't counted in a queue stands at no ticket
pub not_counted : (v : ℕ) (es : List (Option Entry)) → in_queue v (present es) ≡ 0 → (t : ℕ) → stands es v t ≡ false
unfolding stands
not_counted v es h t = none_stands v es t h

starts_later : (es : List (Option Entry)) (starts : List (Option ℕ)) (v start : ℕ) →
    ((u t : ℕ) → is_before t (get_or starts u None) ≡ true → stands es u t ≡ false) → Some start ≡ get_or starts v None →
    (t : ℕ) → t < start → stands es v t ≡ false
starts_later es starts v start later is t l = later v t (rw (← is) (lt-ltb t start l))

-- no entry of the visit stands before the first that was found
pub first_found : (es : List (Option Entry)) (starts : List (Option ℕ)) (v start n : ℕ) →
    ((u t : ℕ) → is_before t (get_or starts u None) ≡ true → stands es u t ≡ false) → Some start ≡ get_or starts v None →
    ((t : ℕ) → start ≤ t → t < n → stands es v t ≡ false) → (t : ℕ) → t < n → stands es v t ≡ false
first_found es starts v start n later is none t l =
    ⊎_elim (λ (k : t < start). starts_later es starts v start later is t k) (λ (k : start ≤ t). none t k l) (cases_lt t start)

-- a visit that stands nowhere from its start on stands nowhere
pub first_nowhere : (es : List (Option Entry)) (starts : List (Option ℕ)) (v start : ℕ) →
    ((u t : ℕ) → is_before t (get_or starts u None) ≡ true → stands es u t ≡ false) → Some start ≡ get_or starts v None →
    ((t : ℕ) → start ≤ t → t < length es → stands es v t ≡ false) → (t : ℕ) → stands es v t ≡ false
unfolding stands
first_nowhere es starts v start later is none t =
    ⊎_elim (λ (k : t < length es). first_found es starts v start (length es) later is none t k)
    (λ (k : length es ≤ t). ap (has_visit v) (get_or_past es t None k)) (cases_lt t (length es))

-- before the first entry
pub no_tickets : (es : List (Option Entry)) (starts : List (Option ℕ)) (counts : List ℕ) → es ≡ [] → ((v : ℕ) → count counts v ≡ 0) →
    AreTickets es 0 starts counts
unfolding stands
no_tickets es starts counts none zeros = record {
  within = omega arith;
  taken = refl;
  first = λ l. absurd (let e = ap length none in omega arith);
  counted = λ v. rw none (zeros v ∙ sym (in_none v));
  later = λ v t h. rw none refl;
}

-- ---- the first that passes a test

module _ (p : Entry → Bool) where
  nowhere : (es : List (Option Entry)) → ((k : ℕ) (y : Entry) → get_or es k None ≡ Some y → p y ≡ false) → find p (present es) ≡ None
  nowhere [] h = refl
  nowhere (None ∷ es) h = nowhere es (λ k y is. h (suc k) y is)
  nowhere (Some e ∷ es) h = (first_fails p e (present es) (h 0 e refl)).0 ∙ nowhere es (λ k y is. h (suc k) y is)

  taken : (es : List (Option Entry)) (t : ℕ) (e : Entry) → get_or es t None ≡ Some e → p e ≡ true →
      ((k : ℕ) (y : Entry) → k < t → get_or es k None ≡ Some y → p y ≡ false) →
      (find p (present es) ≡ Some e) × (present (set es t None) ≡ without_first p (present es))
  taken [] t e is h before = absurd (cc)
  taken (None ∷ es) zero e is h before = absurd (cc)
  taken (None ∷ es) (suc t) e is h before = taken es t e is h (λ k y l found. before (suc k) y (omega arith) found)
  taken (Some x ∷ es) zero e is h before =
      let it : x ≡ e = cc in
      let f = first_passes p x (present es) (ap p it ∙ h) in
      (f.0 ∙ is, f.1)
  taken (Some x ∷ es) (suc t) e is h before =
      let f = first_fails p x (present es) (before 0 x (omega arith) refl) in
      let r = taken es t e is h (λ k y l found. before (suc k) y (omega arith) found) in
      (f.0 ∙ r.0, ap (λ (l : List Entry). x ∷ l) r.1 ∙ f.1)

stands_there : (es : List (Option Entry)) (k : ℕ) (y : Entry) → get_or es k None ≡ Some y → stands es y.visit k ≡ true
unfolding stands
stands_there es k y is = ap (has_visit y.visit) is ∙ same_number y.visit

visit_there : (es : List (Option Entry)) (v k : ℕ) (y : Entry) → get_or es k None ≡ Some y → stands es v k ≡ true → y.visit ≡ v
unfolding stands
visit_there es v k y is h = eqb-true y.visit v (ap (has_visit v) (sym is) ∙ h)

-- where no visit of a list has a ticket, none of its entries is found
pub none_of : (es : List (Option Entry)) (vs : List ℕ) → IsLeast es vs None → find (is_of vs) (present es) ≡ None
none_of es vs h =
    nowhere (is_of vs) es
    (λ k y is. false_where_absurd (is_of vs y) (λ a. let t = stands_there es k y is in let f = h y.visit k a in cc))

-- the entry with the least ticket is the one that is found, and taking it out leaves the others
pub taken_of : (es : List (Option Entry)) (vs : List ℕ) (n : ℕ) → IsLeast es vs (Some n) → (e : Entry) → get_or es n None ≡ Some e →
    (find (is_of vs) (present es) ≡ Some e) × (present (set es n None) ≡ without_first (is_of vs) (present es))
taken_of es vs n h e is =
    let visit : e.visit ≡ h.0.0 = visit_there es h.0.0 n e is h.0.1.1 in
    taken (is_of vs) es n e is (rw visit h.0.1.0)
    (λ k y less found. false_where_absurd (is_of vs y) (λ a. let t = stands_there es k y found in let f = h.1 y.visit k a less in cc))

-- the least ticket has an entry
pub not_missing : (es : List (Option Entry)) (vs : List ℕ) (n : ℕ) → IsLeast es vs (Some n) → get_or es n None ≡ None → ⊥
unfolding stands
not_missing es vs n h is = let t = ap (has_visit h.0.0) (sym is) ∙ h.0.1.1 in absurd (cc)

-- the front entry
pub taken_front : (es : List (Option Entry)) (t : ℕ) (e : Entry) → present (take t es) ≡ [] → get_or es t None ≡ Some e →
    present es ≡ e ∷ present (set es t None)
taken_front [] t e h is = absurd (cc)
taken_front (None ∷ es) zero e h is = absurd (cc)
taken_front (None ∷ es) (suc t) e h is = taken_front es t e h is
taken_front (Some x ∷ es) zero e h is = let it : x ≡ e = cc in ap (λ (y : Entry). y ∷ present es) it
taken_front (Some x ∷ es) (suc t) e h is = absurd (cc)

-- ---- the tickets after that

-- one entry less of its visit
less_of : (v : ℕ) (es : List (Option Entry)) (t : ℕ) (e : Entry) → get_or es t None ≡ Some e →
    in_queue v (present es) ≡ one_if e.visit v + in_queue v (present (set es t None))
less_of v [] t e is = absurd (cc)
less_of v (None ∷ es) zero e is = absurd (cc)
less_of v (None ∷ es) (suc t) e is = less_of v es t e is
less_of v (Some x ∷ es) zero e is = let it : x ≡ e = cc in
    in_cons v x (present es) ∙ ap (λ (y : Entry). one_if y.visit v + in_queue v (present es)) it
less_of v (Some x ∷ es) (suc t) e is =
    let r = less_of v es t e is in
    let a = in_cons v x (present es) in
    let b = in_cons v x (present (set es t None)) in
    omega arith

-- its visit counts
pub counted_there : (es : List (Option Entry)) (front : ℕ) (starts : List (Option ℕ)) (counts : List ℕ) (t : ℕ) (e : Entry) →
    AreTickets es front starts counts → get_or es t None ≡ Some e → 0 < count counts e.visit
counted_there es front starts counts t e are is =
    let less = less_of e.visit es t e is in
    let one = one_for e.visit e (same_number e.visit) in
    let c = are.counted e.visit in
    omega arith

still_taken : (es : List (Option Entry)) (t front : ℕ) → present (take front es) ≡ [] → present (take front (set es t None)) ≡ []
still_taken [] t front h = h
still_taken (x ∷ es) t zero h = refl
still_taken (None ∷ es) zero (suc front) h = h
still_taken (None ∷ es) (suc t) (suc front) h = still_taken es t front h
still_taken (Some e ∷ es) t (suc front) h = absurd (cc)

still_none : (v k t : ℕ) (es : List (Option Entry)) →
    has_visit v (get_or es k None) ≡ false → has_visit v (get_or (set es t None) k None) ≡ false
still_none v k t [] h = refl
still_none v zero zero (x ∷ es) h = refl
still_none v (suc k) zero (x ∷ es) h = h
still_none v zero (suc t) (x ∷ es) h = h
still_none v (suc k) (suc t) (x ∷ es) h = still_none v k t es h

-- tickets where an entry is taken out
pub tickets_without : (es new : List (Option Entry)) (front now : ℕ) (starts : List (Option ℕ)) (counts less : List ℕ) (t : ℕ) (e : Entry) →
    AreTickets es front starts counts → get_or es t None ≡ Some e → new ≡ set es t None →
    (0 < count counts e.visit → (v : ℕ) → count counts v ≡ count less v + one_if e.visit v) →
    (front ≤ length new → now ≤ length new) → (present (take front new) ≡ [] → present (take now new) ≡ []) →
    (now < length new → is_some (get_or new now None) ≡ true) → AreTickets new now starts less
unfolding stands
tickets_without es new front now starts counts less t e are is removed taken_one within rest first = record {
  within = within (let l = ap length removed in let k = length-set es t None in let w = are.within in omega arith);
  taken = rest (rw removed (still_taken es t front are.taken));
  first = first;
  counted = λ v.
      let m = taken_one (counted_there es front starts counts t e are is) v in
      let l = less_of v es t e is in
      let c = are.counted v in
      rw removed (omega arith);
  later = λ v k before. rw removed (still_none v k t es (are.later v k before));
}

-- ---- one entry more

module _ (es : List (Option Entry)) (e : Entry) where
  abbrev more : List (Option Entry)
  more = es ++ Some e ∷ []

  before_it : (v t : ℕ) → t < length es → stands more v t ≡ stands es v t
  unfolding stands
  before_it v t l = ap (has_visit v) (get_or_append_left es (Some e ∷ []) None t l)

  at_it : (v t : ℕ) → t ≡ length es → stands more v t ≡ (e.visit == v)
  unfolding stands
  at_it v t d = ap (has_visit v) (get_or_push es (Some e) None t (sym d))

  past_it : (v t : ℕ) → length es < t → stands more v t ≡ false
  unfolding stands
  past_it v t l = ap (has_visit v) (get_or_past more t None (let k = length_push es (Some e) in omega arith))

  front_there : (front : ℕ) → (front < length es → is_some (get_or es front None) ≡ true) → front < length more →
      is_some (get_or more front None) ≡ true
  front_there front first l =
      ⊎_elim (λ (k : front < length es). ap is_some (get_or_append_left es (Some e ∷ []) None front k) ∙ first k)
      (λ (k : length es ≤ front). ap is_some (get_or_push es (Some e) None front (let m = length_push es (Some e) in omega arith)))
      (cases_lt front (length es))

  -- tickets where an entry comes last
  pub tickets_with : (front : ℕ) (starts now : List (Option ℕ)) (counts added : List ℕ) → AreTickets es front starts counts →
      ((v : ℕ) → count added v ≡ count counts v + one_if e.visit v) →
      ((v t : ℕ) → is_before t (get_or now v None) ≡ true → stands more v t ≡ false) → AreTickets more front now added
  tickets_with front starts now counts added are counted_more later = record {
    within = let l = length_push es (Some e) in let w = are.within in omega arith;
    taken = ap present (take-append-le front es (Some e ∷ []) are.within) ∙ are.taken;
    first = front_there front are.first;
    counted = λ v.
        let m = counted_more v in
        let c = are.counted v in
        let p = ap (in_queue v) (present_push es e) ∙ in_push v (present es) e in
        omega arith;
    later = later;
  }

  by_place : (v t : ℕ) → (t < length es → stands es v t ≡ false) → (t ≡ length es → (e.visit == v) ≡ false) →
      stands more v t ≡ false
  by_place v t before here =
      ⊎_elim (λ (d : t ≡ length es). at_it v t d ∙ here d)
      (λ (d : (t < length es) ⊎ (length es < t)). ⊎_elim (λ (l : t < length es). before_it v t l ∙ before l) (past_it v t) d)
      (cases_order t (length es))

  later_by : (starts : List (Option ℕ)) → ((v t : ℕ) → is_before t (get_or starts v None) ≡ true → stands es v t ≡ false) →
      ((t : ℕ) → stands es e.visit t ≡ false) → (v t : ℕ) (b : Bool) → (e.visit == v) ≡ b →
      is_before t (if b then Some (length es) else get_or starts v None) ≡ true → stands more v t ≡ false
  later_by starts later none v t true is h =
      by_place v t (λ l. subst (λ (u : ℕ). stands es u t ≡ false) (eqb-true e.visit v is) (none t))
      (λ d. absurd (let l = ltb-true t (length es) h in omega arith))
  later_by starts later none v t false is h = by_place v t (λ l. later v t h) (λ d. is)

  -- a visit that had no entry begins with this one
  pub later_set : (starts now : List (Option ℕ)) → ((v t : ℕ) → is_before t (get_or starts v None) ≡ true → stands es v t ≡ false) →
      ((t : ℕ) → stands es e.visit t ≡ false) →
      ((v : ℕ) → get_or now v None ≡ (if e.visit == v then Some (length es) else get_or starts v None)) →
      (v t : ℕ) → is_before t (get_or now v None) ≡ true → stands more v t ≡ false
  later_set starts now later none is v t h = later_by starts later none v t (e.visit == v) refl (rw (is v) at h)

still_before : (k t : ℕ) (start : Option ℕ) → k < t → is_before t start ≡ true → is_before k start ≡ true
still_before k t None l h = refl
still_before k t (Some s) l h = let m = ltb-true t s h in lt-ltb k s (omega arith)

none_in : (v : ℕ) (es : List (Option Entry)) → ((t : ℕ) → has_visit v (get_or es t None) ≡ false) → in_queue v (present es) ≡ 0
none_in v [] h = in_none v
none_in v (None ∷ es) h = none_in v es (λ t. h (suc t))
none_in v (Some e ∷ es) h =
    let rest = none_in v es (λ t. h (suc t)) in let c = in_cons v e (present es) in let z = none_for v e (h 0) in omega arith

-- a visit that has an entry already begins where it did
pub later_kept : (es : List (Option Entry)) (e : Entry) (front : ℕ) (starts : List (Option ℕ)) (counts : List ℕ) →
    AreTickets es front starts counts → (count counts e.visit ≡ 0 → ⊥) →
    (v t : ℕ) → is_before t (get_or starts v None) ≡ true → stands (es ++ Some e ∷ []) v t ≡ false
unfolding stands
later_kept es e front starts counts are some v t h =
    by_place es e v t (λ l. are.later v t h)
    (λ d. false_where_absurd (e.visit == v) (λ is.
    let none : in_queue v (present es) ≡ 0 = none_in v es (λ k. ⊎_elim
    (λ (l : k < length es). are.later v k (still_before k t (get_or starts v None) (omega arith) h))
    (λ (l : length es ≤ k). ap (has_visit v) (get_or_past es k None l)) (cases_lt k (length es))) in
    some (ap (count counts) (eqb-true e.visit v is) ∙ are.counted v ∙ none)))

-- ---- where the entries of a visit are looked for

module _ (es : List (Option Entry)) (e : Entry) (front : ℕ) (starts now : List (Option ℕ)) (counts : List ℕ)
    (are : AreTickets es front starts counts)
    (begun : count counts e.visit ≡ 0 → (v : ℕ) → get_or now v None ≡ (if e.visit == v then Some (length es) else get_or starts v None))
    (kept : (count counts e.visit ≡ 0 → ⊥) → now ≡ starts) where
  -- an entry that comes last is at no ticket before its visit's start
  pub later_begun : (v t : ℕ) → is_before t (get_or now v None) ≡ true → stands (es ++ Some e ∷ []) v t ≡ false
  later_begun =
      ⊎_elim (λ (z : count counts e.visit ≡ 0).
      later_set es e starts now are.later (not_counted e.visit es (sym (are.counted e.visit) ∙ z)) (begun z))
      (λ (ne : count counts e.visit ≡ 0 → ⊥). rw (kept ne) (later_kept es e front starts counts are ne))
      (cases_eq (count counts e.visit) 0)

  same_by : ((t : ℕ) → stands es e.visit t ≡ false) → (v t : ℕ) (b : Bool) → (e.visit == v) ≡ b →
      is_before t (if b then Some (length es) else get_or starts v None) ≡ true → stands es v t ≡ false
  same_by none v t true is h = subst (λ (u : ℕ). stands es u t ≡ false) (eqb-true e.visit v is) (none t)
  same_by none v t false is h = are.later v t h

  -- tickets where a visit's start is noted, and its entry hasn't come yet
  pub tickets_begun : AreTickets es front now counts
  tickets_begun = record {
    within = are.within;
    taken = are.taken;
    first = are.first;
    counted = are.counted;
    later =
        ⊎_elim (λ (z : count counts e.visit ≡ 0). λ v t h.
        same_by (not_counted e.visit es (sym (are.counted e.visit) ∙ z)) v t (e.visit == v) refl (rw (begun z v) at h))
        (λ (ne : count counts e.visit ≡ 0 → ⊥). rw (kept ne) are.later)
        (cases_eq (count counts e.visit) 0);
  }

-- ---- the least ticket of one visit more

either : (a b : Bool) → (a || b) ≡ true → (a ≡ true) ⊎ (b ≡ true)
either true b h = inl refl
either false b h = inr h

same_visit : (u v : ℕ) → (nat_eq u v || false) ≡ true → u ≡ v
same_visit u v h = grind (arith, nat_tests)

member : (u v : ℕ) (vs : List ℕ) → list_any (nat_eq u) (vs ++ v ∷ []) ≡ true → (list_any (nat_eq u) vs ≡ true) ⊎ (u ≡ v)
member u v vs h =
    ⊎_elim (λ (a : list_any (nat_eq u) vs ≡ true). inl a) (λ (b : (nat_eq u v || false) ≡ true). inr (same_visit u v b))
    (either (list_any (nat_eq u) vs) (nat_eq u v || false) (sym (list_any-append (nat_eq u) vs (v ∷ [])) ∙ h))

or_right : (a b : Bool) → b ≡ true → (a || b) ≡ true
or_right true b h = refl
or_right false b h = h

or_left : (a b : Bool) → a ≡ true → (a || b) ≡ true
or_left a b h = rw h refl

last_in : (v : ℕ) (vs : List ℕ) → list_any (nat_eq v) (vs ++ v ∷ []) ≡ true
last_in v vs =
    list_any-append (nat_eq v) vs (v ∷ []) ∙ or_right (list_any (nat_eq v) vs) (nat_eq v v || false) (grind (arith, nat_tests))

still_in : (u v : ℕ) (vs : List ℕ) → list_any (nat_eq u) vs ≡ true → list_any (nat_eq u) (vs ++ v ∷ []) ≡ true
still_in u v vs h = list_any-append (nat_eq u) vs (v ∷ []) ∙ or_left (list_any (nat_eq u) vs) (nat_eq u v || false) h

module _ (es : List (Option Entry)) (vs : List ℕ) (v : ℕ) where
  none_before : (n : ℕ) → ((u t : ℕ) → list_any (nat_eq u) vs ≡ true → t < n → stands es u t ≡ false) →
      ((t : ℕ) → t < n → stands es v t ≡ false) →
      (u t : ℕ) → list_any (nat_eq u) (vs ++ v ∷ []) ≡ true → t < n → stands es u t ≡ false
  none_before n h k u t m l =
      ⊎_elim (λ (a : list_any (nat_eq u) vs ≡ true). h u t a l)
      (λ (d : u ≡ v). ap (λ (w : ℕ). stands es w t) d ∙ k t l) (member u v vs m)

  the_lesser : (m n : ℕ) (b : Bool) → nat_lt m n ≡ b → IsLeast es vs (Some m) → stands es v n ≡ true →
      ((t : ℕ) → t < n → stands es v t ≡ false) → IsLeast es (vs ++ v ∷ []) (Some (if b then m else n))
  the_lesser m n true e h is k = (
    (h.0.0, (still_in h.0.0 v vs h.0.1.0, h.0.1.1)),
    none_before m h.1 (λ t l. k t (let j = ltb-true m n e in omega arith)),
  )
  the_lesser m n false e h is k = (
    (v, (last_in v vs, is)),
    none_before n (λ u t a l. h.1 u t a (let j = ltb-false m n e in omega arith)) k,
  )

  -- the least ticket with one visit more is the lesser of the two
  pub least_on : (least first : Option ℕ) → IsLeast es vs least → MatchOption first ((t : ℕ) → stands es v t ≡ false)
      (λ n. (stands es v n ≡ true) × ((t : ℕ) → t < n → stands es v t ≡ false)) → IsLeast es (vs ++ v ∷ []) (lesser least first)
  least_on None None h k = λ u t m. ⊎_elim (λ (a : list_any (nat_eq u) vs ≡ true). h u t a)
      (λ (d : u ≡ v). ap (λ (w : ℕ). stands es w t) d ∙ k t) (member u v vs m)
  least_on None (Some n) h k = ((v, (last_in v vs, k.0)), none_before n (λ u t a l. h u t a) k.1)
  least_on (Some m) None h k = ((h.0.0, (still_in h.0.0 v vs h.0.1.0, h.0.1.1)), none_before m h.1 (λ t l. k t))
  least_on (Some m) (Some n) h k = the_lesser m n (nat_lt m n) refl h k.0 k.1

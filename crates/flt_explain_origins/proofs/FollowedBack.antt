-- What a search finds is followed back to what made it so.
use Rattle.std.proofs.Common.{◌≡◌, ◌==◌, ◌<◌, ◌+◌, ℕ, zero, suc, Bool, true, false, List, [], ◌∷◌, ◌++◌, Option}
use Rattle.std.proofs.Common.{Some, None, IfSome, slice_get, reverse, arith, ap, sym, subst, refl, ◌∙◌}
use Rattle.std.specs.Prelude.{not, ◌&&◌, ◌||◌, if◌then◌else◌}
use Rattle.std.proofs.lemmas.Bool.{and_parts, and_from, eqb-true, eq-eqb}
use Rattle.std.proofs.lemmas.List.{reverse-append}
use Rattle.flt_graph.specs.Graph.{instruction_at}
use Rattle.flt_graph.specs.Points.{successor}
use Rattle.flt_graph.specs.declared.graph.Graph.{Graph}
use Rattle.flt_explain_origins.specs.Facts.{makes, keeps}
use Rattle.flt_explain_origins.specs.Origins.{is_kept, leads, is_made_by, are_unmade, is_outcome}
use Rattle.flt_explain_origins.specs.Origins.{is_step_from, path_end, IsOrigin, IsOnPath, origin}
use Rattle.flt_explain_origins.specs.Search.{IsStepTo, IsArrival, AreArrivals, IsFound, IsTraced}
use Rattle.flt_explain_origins.specs.declared.origin.Cause.TheVariants as cause
use Rattle.flt_explain_origins.specs.declared.facts.Fact.{Fact}
use Rattle.flt_explain_origins.specs.declared.origin.Origin.{Origin}
use Rattle.flt_explain_origins.specs.declared.path.ReachedPoint.{ReachedPoint}
use Rattle.flt_explain_origins.specs.declared.path.Search.{Search}
use Rattle.flt_explain_origins.specs.declared.answer.Step.{Step}
use Rattle.flt_explain_origins.proofs.Searched.{keeps_outcome}

made_or_kept : (m so keep : Bool) → (m || (so && keep)) ≡ true → m ≡ false → (so ≡ true) × (keep ≡ true)
made_or_kept true so keep h e = absurd (cc)
made_or_kept false so keep h e = and_parts so keep h

module _ (g : Graph) (k : ℕ) (f : Fact) where
  -- ---- paths

  passed_on : (p q : ℕ) (front more : List Step) → path_end g k (Some p) front ≡ Some q →
      path_end g k (Some p) (front ++ more) ≡ path_end g k (Some q) more
  passed_on p q [] more e = ap (λ o. path_end g k o more) e
  passed_on p q (s ∷ front) more e = by (λ to e. passed_on to q front more e) (is_step_from g k p s) e where
    to_next : ((to : ℕ) → path_end g k (Some to) front ≡ Some q → path_end g k (Some to) (front ++ more) ≡ path_end g k (Some q) more) →
        (o : Option ℕ) → path_end g k o front ≡ Some q → path_end g k o (front ++ more) ≡ path_end g k (Some q) more
    to_next again (Some to) e = again to e
    to_next again None e = nothing front e where
      nothing : (rest : List Step) → path_end g k None rest ≡ Some q → path_end g k None (rest ++ more) ≡ path_end g k (Some q) more
      nothing [] e = absurd (cc)
      nothing (r ∷ rest) e = absurd (cc)

    by : ((to : ℕ) → path_end g k (Some to) front ≡ Some q → path_end g k (Some to) (front ++ more) ≡ path_end g k (Some q) more) →
        (b : Bool) → (if b then path_end g k (successor (instruction_at g k s.point) s.granted) front else None) ≡ Some q →
        (if b then path_end g k (successor (instruction_at g k s.point) s.granted) (front ++ more) else None) ≡ path_end g k (Some q) more
    by again true e = to_next again (successor (instruction_at g k s.point) s.granted) e
    by again false e = absurd (cc)

  one_step : (p q : ℕ) (s : Step) → s.point ≡ p → is_outcome (instruction_at g k s.point) s.granted ≡ true →
      successor (instruction_at g k s.point) s.granted ≡ Some q → (more : List Step) →
      path_end g k (Some p) (s ∷ more) ≡ path_end g k (Some q) more
  one_step p q s at outcome led more =
      ap (λ (b : Bool). if b then path_end g k (successor (instruction_at g k s.point) s.granted) more else None)
      (and_from (s.point == p) (is_outcome (instruction_at g k s.point) s.granted) (eq-eqb s.point p at) outcome)
      ∙ ap (λ o. path_end g k o more) led

  -- steps that keep a fact are a path
  kept_path : (q p : ℕ) (steps : List Step) → leads g k f (Some q) steps ≡ Some p → path_end g k (Some q) steps ≡ Some p
  kept_path q p [] e = e
  kept_path q p (s ∷ steps) e = by (λ to e. kept_path to p steps e) (is_kept g k f q s) refl e where
    to_next : ((to : ℕ) → leads g k f (Some to) steps ≡ Some p → path_end g k (Some to) steps ≡ Some p) →
        (o : Option ℕ) → leads g k f o steps ≡ Some p → path_end g k o steps ≡ Some p
    to_next again (Some to) e = again to e
    to_next again None e = nothing steps e where
      nothing : (rest : List Step) → leads g k f None rest ≡ Some p → path_end g k None rest ≡ Some p
      nothing [] e = absurd (cc)
      nothing (r ∷ rest) e = absurd (cc)

    by : ((to : ℕ) → leads g k f (Some to) steps ≡ Some p → path_end g k (Some to) steps ≡ Some p) → (b : Bool) → is_kept g k f q s ≡ b →
        (if b then leads g k f (successor (instruction_at g k s.point) s.granted) steps else None) ≡ Some p →
        path_end g k (Some q) (s ∷ steps) ≡ Some p
    by again true is e =
        let parts = and_parts (s.point == q) (keeps (instruction_at g k s.point) s.granted f) is in
        ap (λ (b : Bool). if b then path_end g k (successor (instruction_at g k s.point) s.granted) steps else None)
        (and_from (s.point == q) (is_outcome (instruction_at g k s.point) s.granted) parts.0
        (keeps_outcome (instruction_at g k s.point) s.granted f parts.1))
        ∙ to_next again (successor (instruction_at g k s.point) s.granted) e
    by again false is e = absurd (cc)

  -- ---- what is reached lies on a path

  module _ (found : List ReachedPoint) (all : AreArrivals g k f found) where
    abbrev IsPath : ℕ → Type 0
    IsPath p = (steps : List Step) × (path_end g k (Some 0) steps ≡ Some p)

    path_by : (n : ℕ) (r : ReachedPoint) (a : Option (ℕ × Step)) → IsArrival g k f found n r a →
        ((m : ℕ) (from : ReachedPoint) → m < n → slice_get found m ≡ Some from → IsPath from.point) → IsPath r.point
    path_by n r None h before = ([], ap Some (sym h.0))
    path_by n r (Some a) h before =
        let front = before a.0 h.from h.before h.there in (
          front.0 ++ a.1 ∷ [],
          passed_on 0 h.from.point front.0 (a.1 ∷ []) front.1 ∙ one_step h.from.point r.point a.1 h.point h.outcome h.leads [],
        )

    path_below : (bound n : ℕ) (r : ReachedPoint) → n < bound → slice_get found n ≡ Some r → IsPath r.point
    path_below zero n r less there = absurd (omega arith)
    path_below (suc bound) n r less there =
        path_by n r r.arrival (all n r there) (λ m from before at. path_below bound m from (omega (arith, less, before)) at)

    -- ---- back to what made it

    module _ (p n : ℕ) (later : List Step) (h : IsTraced g k f found p n later) where
      arrival : IsArrival g k f found n h.one h.one.arrival
      arrival = all n h.one h.there

      module _ (r : ReachedPoint) (there : slice_get found n ≡ Some r) where
        same : h.one ≡ r
        same = let a = h.there in cc

        stepped : (m : ℕ) (s : Step) → r.arrival ≡ Some (m, s) → IsStepTo g k f found n h.one m s
        stepped m s is =
            let same_arrival : h.one.arrival ≡ Some (m, s) = ap (λ (x : ReachedPoint). x.arrival) same ∙ is in
            subst (λ a. IsArrival g k f found n h.one a) same_arrival arrival

        -- one step before, which doesn't make it
        pub traced_back : (m : ℕ) (s : Step) (more : List Step) →
            r.arrival ≡ Some (m, s) → is_made_by g k f s ≡ false → more ≡ later ++ s ∷ [] →
            IsTraced g k f found p m more
        traced_back m s more is unmade is_more =
            let by = stepped m s is in
            let so = made_or_kept (is_made_by g k f s) by.from.is_so (keeps (instruction_at g k s.point) s.granted f) (by.so h.so) unmade in
            let turned : reverse more ≡ s ∷ reverse later = ap reverse is_more ∙ reverse-append later (s ∷ []) in
            record {
              one = by.from;
              there = by.there;
              so = so.0;
              kept = ap (leads g k f (Some by.from.point)) turned
                  ∙ ap (λ (b : Bool). if b then leads g k f (successor (instruction_at g k s.point) s.granted) (reverse later) else None)
                  (and_from (s.point == by.from.point) (keeps (instruction_at g k s.point) s.granted f)
                  (eq-eqb s.point by.from.point by.point) so.1)
                  ∙ ap (λ o. leads g k f o (reverse later)) by.leads ∙ h.kept;
              unmade = ap (are_unmade g k f) turned
                  ∙ and_from (not (is_made_by g k f s)) (are_unmade g k f (reverse later)) (ap not unmade) h.unmade;
            }

        pub comes_before : (m : ℕ) (s : Step) → r.arrival ≡ Some (m, s) → m < n
        comes_before m s is = (stepped m s is).before

        -- the step that makes it
        pub made_origin : (m : ℕ) (s : Step) (o : Origin) →
            r.arrival ≡ Some (m, s) → is_made_by g k f s ≡ true → o ≡ origin f (cause.Made s) (reverse later) →
            IsOrigin g k f p o × IsOnPath g k f p o
        made_origin m s o is made at = subst (λ (o : Origin). IsOrigin g k f p o × IsOnPath g k f p o) (sym at) both where
          both : IsOrigin g k f p (origin f (cause.Made s) (reverse later)) × IsOnPath g k f p (origin f (cause.Made s) (reverse later))
          both =
              let by = stepped m s is in
              let front = path_below n m by.from by.before by.there in (
                record { about = refl; made = made; path = ap (λ o. leads g k f o (reverse later)) by.leads ∙ h.kept },
                (
                  front.0 ++ s ∷ reverse later,
                  passed_on 0 by.from.point front.0 (s ∷ reverse later) front.1
                      ∙ one_step by.from.point h.one.point s by.point by.outcome by.leads (reverse later)
                      ∙ kept_path h.one.point p (reverse later) h.kept,
                  (front.0, refl, made, h.unmade),
                ),
              )

        -- or the entry
        pub entry_origin : (o : Origin) → r.arrival ≡ None → o ≡ origin f cause.Entry (reverse later) →
            IsOrigin g k f p o × IsOnPath g k f p o
        entry_origin o is at = subst (λ (o : Origin). IsOrigin g k f p o × IsOnPath g k f p o) (sym at) both where
          both : IsOrigin g k f p (origin f cause.Entry (reverse later)) × IsOnPath g k f p (origin f cause.Entry (reverse later))
          both =
              let no_arrival : h.one.arrival ≡ None = ap (λ (x : ReachedPoint). x.arrival) same ∙ is in
              let by = subst (λ a. IsArrival g k f found n h.one a) no_arrival arrival in
              let kept : leads g k f (Some 0) (reverse later) ≡ Some p =
              ap (λ q. leads g k f (Some q) (reverse later)) (sym by.0) ∙ h.kept in (
                record { about = refl; made = by.1 h.so; path = kept },
                (reverse later, kept_path 0 p (reverse later) kept, (refl, h.unmade)),
              )

  -- a step comes from a point that is reached before
  pub arrival_before : (found : List ReachedPoint) (n m : ℕ) (r : ReachedPoint) (s : Step) →
      AreArrivals g k f found → slice_get found n ≡ Some r →
      r.arrival ≡ Some (m, s) → m < n
  arrival_before found n m r s all there is = by (subst (λ a. IsArrival g k f found n r a) is (all n r there)) where
    by : IsStepTo g k f found n r m s → m < n
    by h = h.before

  -- what isn't reached isn't followed back
  pub nothing_traced : (found : List ReachedPoint) (p n : ℕ) (later : List Step) (o : Origin) →
      slice_get found n ≡ None → IsTraced g k f found p n later →
      IsOrigin g k f p o × IsOnPath g k f p o
  nothing_traced found p n later o none h = let there = h.there in absurd (cc)

  -- where the search ends the fact is so
  pub found_traced : (o : Option ℕ) (n p : ℕ) (x : Search) → IfSome o (IsFound g k f p x) → o ≡ Some n → IsTraced g k f x.found p n []
  found_traced None n p x h is = absurd (cc)
  found_traced (Some m) n p x h is = subst (λ i. IsTraced g k f x.found p i []) same here where
    same : m ≡ n
    same = cc

    here : IsTraced g k f x.found p m []
    here =
        let parts = and_parts (h.one.point == p) h.one.is_so h.sought in
        record { one = h.one; there = h.there; so = parts.1; kept = ap Some (eqb-true h.one.point p parts.0); unmade = refl }

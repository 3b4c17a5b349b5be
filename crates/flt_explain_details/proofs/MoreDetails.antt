-- One finding more is told.
use Rattle.std.proofs.Common.{◌⊎◌, inl, inr, ◌≡◌, ◌<◌, ◌≤◌, ◌+◌, ℕ, zero, suc, List, [], ◌∷◌, ◌++◌, Some, IfSome}
use Rattle.std.proofs.Common.{length, take, get_or, slice_get, arith, subst, sym, refl, ap, ◌∙◌, length-append}
use Rattle.std.specs.List.{AllZip}
use Rattle.std.proofs.lemmas.List.{length-take-le, take_all}
use Rattle.std.proofs.lemmas.Option.{slice_get_read}
use Rattle.std.proofs.lemmas.Slice.Zip.{AllZip-long}
use Rattle.flt_explain.specs.declared.finding.Finding.{Finding}
use Rattle.flt_graph.specs.declared.graph.Graph.{Graph}
use Rattle.flt_places.specs.declared.files.Files.{Files}
use Rattle.flt_tree.specs.Names.{Text}
use Rattle.flt_tree.specs.declared.filter.Filter.{Filter}
use Rattle.flt_explain_details.specs.Alike.{AreLike, IsLike}
use Rattle.flt_explain_details.specs.Stages.{AreDetails, AreDetailsBy, IsDetail}
use Rattle.flt_explain_ways.specs.Tracing.{AreTraces, IsShown}
use Rattle.flt_explain_details.specs.declared.study.Detail.{Detail}
use Rattle.flt_explain_origins.specs.declared.trace.FindingTrace.{FindingTrace}
use Rattle.flt_explain_ways.specs.declared.tracing.Traces.{Traces}

more_zip : {A B : Type 0} (R : A → B → Type 0) (xs : List A) (ys : List B) (i : ℕ) (x : A) (y : B) → i < length xs → x ≡ get_or xs i x →
    AllZip R (take i xs) ys → R x y → AllZip R (take (suc i) xs) (ys ++ y ∷ [])
more_zip R [] ys i x y less is all new = elim less [ ]
more_zip R (z ∷ xs) [] zero x y less is all new = (subst (λ z. R z y) is new, tt)
more_zip R (z ∷ xs) (w ∷ ys) zero x y less is all new = absurd all
more_zip R (z ∷ xs) [] (suc i) x y less is all new = absurd all
more_zip R (z ∷ xs) (w ∷ ys) (suc i) x y less is all new = (all.0, more_zip R xs ys i x y (omega (arith, less)) is all.1 new)

-- one more of two lists, place by place
pub one_more : {A B : Type 0} (R : A → B → Type 0) (xs : List A) (ys more : List B) (i : ℕ) (x : A) (y : B) → i < length xs →
    x ≡ get_or xs i x → AllZip R (take i xs) ys → R x y → more ≡ ys ++ y ∷ [] → AllZip R (take (i + 1) xs) more
one_more R xs ys more i x y less is all new after =
    let next : i + 1 ≡ suc i = omega arith in
    rw (next, after) (more_zip R xs ys i x y less is all new)

-- what stands in a list with one more
at_push : {A : Type 0} (xs : List A) (y z : A) (k : ℕ) → slice_get (xs ++ y ∷ []) k ≡ Some z →
    (slice_get xs k ≡ Some z) ⊎ ((k ≡ length xs) × (y ≡ z))
at_push [] y z zero is = inr (refl, cc)
at_push [] y z (suc k) is = absurd (cc)
at_push (x ∷ xs) y z zero is = inl is
at_push (x ∷ xs) y z (suc k) is = shifted (at_push xs y z k is) where
  shifted : (slice_get xs k ≡ Some z) ⊎ ((k ≡ length xs) × (y ≡ z)) → (slice_get xs k ≡ Some z) ⊎ ((suc k ≡ suc (length xs)) × (y ≡ z))
  shifted (inl there) = inl there
  shifted (inr (last, same)) = inr (ap suc last, same)

the_same : {A : Type 0} (xs : List A) (n k : ℕ) (x y : A) → slice_get xs n ≡ Some x → k ≡ n → slice_get xs k ≡ Some y → x ≡ y
the_same xs n k x y is at there = let here = subst (λ m. slice_get xs m ≡ Some y) at there in cc

-- the next finding, by what shows it
pub one_detail_more : (files : Files) (lines text : Text) (f : Filter) (g : Graph)
    (found : List Finding) (shown : List FindingTrace) (n : ℕ)
    (e : Finding)
    (s : FindingTrace) (d : Detail) (all more : List Detail) →
    lines ≡ text → n ≡ length all → slice_get found n ≡ Some e → slice_get shown n ≡ Some s →
    AreDetailsBy files text f g found shown all → IsDetail files lines f g e s d → more ≡ all ++ d ∷ [] → AreDetailsBy files text f g found
    shown more
one_detail_more files lines text f g found shown n e s d all more same long is_one is_shown kept new after k e' s' d' finding_is shown_is
    detail_is =
    choose (at_push all d d' k (subst (λ ds. slice_get ds k ≡ Some d') after detail_is)) where
      choose : (slice_get all k ≡ Some d') ⊎ ((k ≡ length all) × (d ≡ d')) → IsDetail files text f g e' s' d'
      choose (inl there) = kept k e' s' d' finding_is shown_is there
      choose (inr (last, here)) =
          let at : k ≡ n = last ∙ sym long in
          subst (λ (t : Text). IsDetail files t f g e' s' d') same
          (subst (λ (x : Detail). IsDetail files lines f g e' s' x) here
          (subst (λ (x : FindingTrace). IsDetail files lines f g e' x d) (the_same shown n k s s' is_shown at shown_is)
          (subst (λ (x : Finding). IsDetail files lines f g x s d) (the_same found n k e e' is_one at finding_is) new)))

-- one more detail is like an earlier one, or like none
pub one_like_more : (found : List Finding) (all more : List Detail) (d : Detail) (n : ℕ) → n ≡ length all → more ≡ all ++ d ∷ [] →
    IfSome d.route.like (IsLike found n) → AreLike found all → AreLike found more
one_like_more found all more d n long after own kept k e is =
    choose (at_push all d e k (subst (λ ds. slice_get ds k ≡ Some e) after is)) where
      choose : (slice_get all k ≡ Some e) ⊎ ((k ≡ length all) × (d ≡ e)) → IfSome e.route.like (IsLike found k)
      choose (inl there) = kept k e there
      choose (inr (last, same)) =
          let here : n ≡ k = cc in
          subst (λ m. IfSome e.route.like (IsLike found m)) here (subst (λ (f : Detail). IfSome f.route.like (IsLike found n)) same own)

-- ---- how many there are

-- as many findings are shown as there are
pub as_many : (g : Graph) (found : List Finding) (t : Traces) → AreTraces g found t → length t.shown ≡ length found
as_many g found t h = AllZip-long (IsShown g) found t.shown h.each

-- the finding at the next number is the next one
pub found_at : (found : List Finding) (i n m : ℕ) (e : Finding) → i < length found → e ≡ get_or found i e → n ≡ m →
    m ≡ length (take i found) → slice_get found n ≡ Some e
found_at found i n m e less is at long =
    let short = length-take-le i found (omega (arith, less)) in
    let same : i ≡ n = omega (arith, short, at, long) in
    subst (λ k. slice_get found k ≡ Some e) same (slice_get_read found (length found) i e refl less is)

-- the number of a finding is within those that are shown
pub number_within : (found : List Finding) (shown : ℕ) (i n m : ℕ) → shown ≡ length found → i < length found → n ≡ m →
    m ≡ length (take i found) → n < shown
number_within found shown i n m many less at long =
    let short = length-take-le i found (omega (arith, less)) in omega (arith, short, many, less, at, long)

-- one more detail is one more of the findings
pub one_longer : (found : List Finding) (i : ℕ) (all more : List Detail) (d : Detail) → i < length found →
    length all ≡ length (take i found) → more ≡ all ++ d ∷ [] → length more ≡ length (take (i + 1) found)
one_longer found i all more d less long after =
    let short = length-take-le i found (omega (arith, less)) in
    let next = length-take-le (i + 1) found (omega (arith, less)) in
    let longer = ap length after in
    let parts = length-append all (d ∷ []) in
    let one : length (d ∷ []) ≡ 1 = refl in omega (arith, short, next, longer, parts, one, long)

-- where all findings have been told, their details are
pub all_details : (files : Files) (text : Text) (f : Filter) (g : Graph) (found : List Finding) (t : Traces) (i : ℕ) (all : List Detail) →
    AreTraces g found t → length found ≤ i → length all ≡ length (take i found) →
    AreDetailsBy files text f g found t.shown all → AreLike found all →
    AreDetails files text f g found all
all_details files text f g found t i all traced end long each like =
    record { traces = t; shown = traced; long = long ∙ ap length (take_all i found end); each = each; like = like }

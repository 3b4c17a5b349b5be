-- Graphs and the certificates beside them, one by one.
use Rattle.std.proofs.Common.{◌≡◌, ℕ, zero, suc, ◌+◌, ◌<◌, ◌≤◌, List, [], ◌∷◌, length, get_or, take, Some, sym, subst, ap, arith}
use Rattle.std.proofs.lemmas.List.{take_all, take_more}
use Rattle.std.proofs.lemmas.List.Elements.{All-cons, All-head, All-nil, All-tail}
use Rattle.std.proofs.lemmas.Option.{slice_get-get_or}
use Rattle.std.proofs.lemmas.Slice.Zip.{all_zipped_more}
use Rattle.std.specs.List.{All, AllZip}
use Rattle.std.specs.Prelude.{◌↔◌, slice_get}
use Rattle.flt_tree.specs.WellFormed.{IsWellFormed}
use Rattle.flt_tree.specs.declared.filter.Filter.{Filter}
use Rattle.flt_graph.specs.Lowering.{IsLowered}
use Rattle.flt_graph.specs.declared.graph.Graph.{Graph}
use Rattle.flt_cert.specs.declared.cert.Cert.{Cert}
use Rattle.flt_check.specs.Accepting.{CertCovers, IsCertFault, full_of}
use Rattle.flt_check.specs.Covering.{Covers}
use Rattle.flt_rules.specs.declared.refusal.Refusal.{Refusal}
use Rattle.flt_machine_frames.specs.Loading.{AreGraphsOfFilters}
use Rattle.flt_sound.specs.Progress.{AreOrderly, IsOrderly}
use Rattle.flt_sound.specs.Soundness.{IsAccepted, AreAccepted}
use Rattle.flt_stack.proofs.Leasts.{orderly_by}
use Rattle.flt_stack.specs.Lowered.{AreCovered, IsFirstRefusal}
use Rattle.flt_stack.specs.Ordering.{IsOrdered}

-- ---- two lists, one by one

-- what holds of each two holds of those at a number
pub both_at : {A B : Type 0} (R : A → B → Type 0) (xs : List A) (ys : List B) (i : ℕ) (x d : A) (y e : B) → AllZip R xs ys →
    i < length xs → x ≡ get_or xs i d → y ≡ get_or ys i e → R x y
both_at R [] ys i x d y e all h first second = absurd (omega (arith, h))
both_at R (a ∷ xs) [] i x d y e all h first second = absurd all
both_at R (a ∷ xs) (b ∷ ys) zero x d y e all h first second =
    subst (λ u. R u y) (sym first) (subst (R a) (sym second) all.0)
both_at R (a ∷ xs) (b ∷ ys) (suc i) x d y e all h first second =
    both_at R xs ys i x d y e all.1 (omega (arith, h)) first second

-- there are as many of both
pub as_many : {A B : Type 0} (R : A → B → Type 0) (xs : List A) (ys : List B) → AllZip R xs ys → length ys ≡ length xs
as_many R [] [] all = λ i. 0
as_many R [] (b ∷ ys) all = absurd all
as_many R (a ∷ xs) [] all = absurd all
as_many R (a ∷ xs) (b ∷ ys) all = ap suc (as_many R xs ys all.1)

-- what holds of the first so many of both, and of the next two, holds of one more
pub both_more : {A B : Type 0} (R : A → B → Type 0) (xs : List A) (ys : List B) (i : ℕ) (x d : A) (y e : B) →
    AllZip R (take i xs) (take i ys) → i < length xs → length ys ≡ length xs → x ≡ get_or xs i d → y ≡ get_or ys i e → R x y →
    AllZip R (take (i + 1) xs) (take (i + 1) ys)
both_more R xs ys i x d y e all h many first second one =
    let here : R (get_or xs i d) (get_or ys i e) = subst (λ u. R u (get_or ys i e)) first (subst (R x) second one) in
    rw (take_more xs i d h, take_more ys i e (omega (arith, h, many)))
    (all_zipped_more R (take i xs) (take i ys) (get_or xs i d) (get_or ys i e) all here)

-- the first so many are all
pub both_all : {A B : Type 0} (R : A → B → Type 0) (xs : List A) (ys : List B) (i : ℕ) → AllZip R (take i xs) (take i ys) →
    length xs ≤ i → length ys ≡ length xs → AllZip R xs ys
both_all R xs ys i all h many = rw (take_all i xs h, take_all i ys (omega (arith, h, many))) at all

-- ---- refusals

module _ (graphs : List Graph) (certs : List Cert) (i : ℕ) (graph d : Graph) (cert e : Cert) (h : i < length graphs)
    (many : length certs ≡ length graphs) (first : graph ≡ get_or graphs i d) (second : cert ≡ get_or certs i e) where
  -- the first refusal is that at the number up to which all are covered
  pub refusal_at : (r : Refusal) → AreCovered (take i graphs) (take i certs) → IsCertFault graph cert r →
      IsFirstRefusal graphs certs i r
  refusal_at r before refused = record {
    graph = graph;
    certificate = cert;
    its_graph = subst (λ g. slice_get graphs i ≡ Some g) (sym first) (slice_get-get_or graphs i d h);
    its_certificate = subst (λ c. slice_get certs i ≡ Some c) (sym second) (slice_get-get_or certs i e (omega (arith, h, many)));
    before = before;
    refused = refused;
  }

-- ---- filters

-- filters whose graphs are covered are accepted: by the full certificates for which those beside them stand
pub all_accepted : ((g : Graph) (c : Cert) → CertCovers g c → Covers g (full_of g c)) → (filters : List Filter) (graphs : List Graph)
    (certs : List Cert) → AreGraphsOfFilters filters graphs → AreCovered graphs certs → AreAccepted filters
all_accepted fills [] [] certs lowered covered = All-nil IsAccepted
all_accepted fills [] (g ∷ graphs) certs lowered covered = absurd lowered
all_accepted fills (f ∷ filters) [] certs lowered covered = absurd lowered
all_accepted fills (f ∷ filters) (g ∷ graphs) [] lowered covered = absurd covered
all_accepted fills (f ∷ filters) (g ∷ graphs) (c ∷ certs) lowered covered =
    All-cons IsAccepted f filters (record {
      graph = g;
      cert = full_of g c;
      well_formed = lowered.0.well_formed;
      lowered = lowered.0.lowered;
      covers = fills g c covered.0;
    }) (all_accepted fills filters graphs certs lowered.1 covered.1)

-- filters take their locks in an order exactly where all their graphs say so
pub all_orderly : ((f : Filter) (g h : Graph) → IsWellFormed f → IsLowered f g → IsLowered f h → g ≡ h) → (filters : List Filter)
    (graphs : List Graph) → AreGraphsOfFilters filters graphs → (All IsOrdered graphs ↔ AreOrderly filters)
all_orderly one [] [] lowered = (λ all. All-nil IsOrderly, λ all. All-nil IsOrdered)
all_orderly one [] (g ∷ graphs) lowered = absurd lowered
all_orderly one (f ∷ filters) [] lowered = absurd lowered
all_orderly one (f ∷ filters) (g ∷ graphs) lowered =
    let this = orderly_by one f g lowered.0.well_formed lowered.0.lowered in
    let those = all_orderly one filters graphs lowered.1 in (
      λ all. All-cons IsOrderly f filters (this.0 (All-head IsOrdered g graphs all)) (those.0 (All-tail IsOrdered g graphs all)),
      λ all. All-cons IsOrdered g graphs (this.1 (All-head IsOrderly f filters all)) (those.1 (All-tail IsOrderly f filters all)),
    )

-- The analyser's answers, beside the filters whose points they are for.
use Rattle.std.proofs.Common.{◌≡◌, ℕ, zero, suc, ◌<◌, List, [], ◌∷◌, Some, Result, Ok}
use Rattle.std.proofs.Common.{Err, get_or, length, map, take, refl, sym, subst, ap, ◌∙◌}
use Rattle.std.proofs.lemmas.List.{map-id}
use Rattle.std.proofs.lemmas.Option.{slice_get_read}
use Rattle.std.proofs.lemmas.Slice.Zip.{AllZip-long}
use Rattle.std.specs.List.{AllZip}
use Rattle.std.specs.Prelude.{IsTrue, slice_get}
use Rattle.flt_analyse.specs.All.{IsAnswer}
use Rattle.flt_cert.specs.Format.{Certificate, full_spelling, is_certificate}
use Rattle.flt_cert.specs.Spelling.{is_cert}
use Rattle.flt_cert.specs.declared.cert.Cert.{Cert}
use Rattle.flt_check.specs.Accepting.{CertCovers, full_of}
use Rattle.flt_check.specs.Covering.{Covers}
use Rattle.flt_stack_prepare.specs.Certified.{IsFirstErr, IsGiven, StopsAt}
use Rattle.flt_stack_prepare.specs.Texts.{FiltersFail, HaveCertificates, IsFirstRefused, IsRefused}
use Rattle.flt_stack_prepare.specs.declared.fault.RunFault.{RunFault}
use Rattle.flt_stack_prepare.specs.declared.fault.RunFault.TheVariants as fault
use Rattle.flt_machine_frames.specs.Loading.{AreGraphsOfFilters}
use Rattle.flt_rules.specs.declared.refusal.Refusal.{Refusal}
use Rattle.flt_graph.specs.Lowering.{IsLowered}
use Rattle.flt_graph.specs.declared.graph.Graph.{Graph}
use Rattle.flt_model.specs.Streams.{Text}
use Rattle.flt_stack.specs.Lowered.{AreCertificates, AreCovered}
use Rattle.flt_syntax.specs.Spelling.{Spells}
use Rattle.flt_syntax.specs.Texts.{AreSpelled}
use Rattle.flt_tree.specs.WellFormed.{IsWellFormed}
use Rattle.flt_tree.specs.declared.filter.Filter.{Filter}

-- ---- what is covered

-- where the answers are certificates, each covers the graph of its turn
pub all_covered : (graphs : List Graph) (answers : List (Result Certificate Refusal)) (certs : List Cert) →
    AllZip IsAnswer graphs answers → AllZip IsGiven answers certs → AreCovered graphs certs
all_covered [] [] [] answered given = tt
all_covered [] [] (c ∷ certs) answered given = absurd given
all_covered [] (a ∷ answers) certs answered given = absurd answered
all_covered (g ∷ graphs) [] certs answered given = absurd answered
all_covered (g ∷ graphs) (a ∷ answers) [] answered given = absurd given
all_covered (g ∷ graphs) (Err f ∷ answers) (c ∷ certs) answered given = absurd given.0
all_covered (g ∷ graphs) (Ok k ∷ answers) (c ∷ certs) answered given =
    (subst (CertCovers g) (sym given.0.0) answered.0.0, all_covered graphs answers certs answered.1 given.1)

-- and is one
pub all_certified : (graphs : List Graph) (answers : List (Result Certificate Refusal)) (certs : List Cert) →
    AllZip IsAnswer graphs answers → AllZip IsGiven answers certs → AreCertificates graphs certs
all_certified [] [] [] answered given = tt
all_certified [] [] (c ∷ certs) answered given = absurd given
all_certified [] (a ∷ answers) certs answered given = absurd answered
all_certified (g ∷ graphs) [] certs answered given = absurd answered
all_certified (g ∷ graphs) (a ∷ answers) [] answered given = absurd given
all_certified (g ∷ graphs) (Err f ∷ answers) (c ∷ certs) answered given = absurd given.0
all_certified (g ∷ graphs) (Ok k ∷ answers) (c ∷ certs) answered given =
    (subst (λ (d : Cert). IsTrue (is_cert d)) (sym given.0.0) given.0.1, all_certified graphs answers certs answered.1 given.1)

-- what covers the filters' graphs has a spelling for each
pub have_certificates : ((g : Graph) (c : Cert) → IsTrue (is_cert c) → IsTrue (is_certificate (full_of g c))) →
    ((g : Graph) (c : Cert) → CertCovers g c → Covers g (full_of g c)) → (filters : List Filter) (graphs : List Graph)
    (certs : List Cert) → AllZip IsLowered filters graphs → AreCovered graphs certs → AreCertificates graphs certs →
    (bytes : List Text) × HaveCertificates filters bytes
have_certificates fills covers [] [] certs lowered covered certified = ([], tt)
have_certificates fills covers [] (g ∷ graphs) certs lowered covered certified = absurd lowered
have_certificates fills covers (f ∷ filters) [] certs lowered covered certified = absurd lowered
have_certificates fills covers (f ∷ filters) (g ∷ graphs) [] lowered covered certified = absurd covered
have_certificates fills covers (f ∷ filters) (g ∷ graphs) (c ∷ certs) lowered covered certified =
    let rest = have_certificates fills covers filters graphs certs lowered.1 covered.1 certified.1 in (
      full_spelling (full_of g c) ∷ rest.0,
      (
        record {
          graph = g;
          lowered = lowered.0;
          certificate = full_of g c;
          certified = fills g c certified.0;
          covers = covers g c covered.0;
          written = refl;
        },
        rest.1,
      ),
    )

-- graphs of filters that texts spell are those of filters that are loaded
pub all_lowered : ((text : Text) (f : Filter) → Spells text f → IsWellFormed f) → (texts : List Text) (filters : List Filter)
    (graphs : List Graph) → AreSpelled texts filters → AllZip IsLowered filters graphs → AreGraphsOfFilters filters graphs
all_lowered fine [] [] [] spelled lowered = tt
all_lowered fine [] [] (g ∷ graphs) spelled lowered = absurd lowered
all_lowered fine [] (f ∷ filters) graphs spelled lowered = absurd spelled
all_lowered fine (t ∷ texts) [] graphs spelled lowered = absurd spelled
all_lowered fine (t ∷ texts) (f ∷ filters) [] spelled lowered = absurd lowered
all_lowered fine (t ∷ texts) (f ∷ filters) (g ∷ graphs) spelled lowered =
    (record { well_formed = fine t f spelled.0; lowered = lowered.0 }, all_lowered fine texts filters graphs spelled.1 lowered.1)

-- ---- what is refused

-- the answer behind certificates is the first refusal, where it is one
pub first_err : (answers yielded : List (Result Certificate Refusal)) (certs : List Cert) (number : ℕ)
    (answer : Result Certificate Refusal) (f : Refusal) → AllZip IsGiven yielded certs → number ≡ length certs →
    map (λ a. a) yielded ≡ take (length yielded) answers →
    (length yielded < length answers) × (answer ≡ get_or answers (length yielded) answer) → answer ≡ Err f → IsFirstErr answers number f
first_err answers yielded certs number answer f given counted so_far turn is =
    let place : number ≡ length yielded = counted ∙ AllZip-long IsGiven yielded certs given in
    record {
      certificates = certs;
      given = rw place (subst (λ l. AllZip IsGiven l certs) (sym (map-id yielded) ∙ so_far) given);
      there = rw place (slice_get_read answers (length answers) (length yielded) answer refl turn.0 turn.1 ∙ ap Some is);
    }

-- the first refusal of the answers is that of the filters
refused_first : (filters : List Filter) (graphs : List Graph) (answers : List (Result Certificate Refusal)) (number : ℕ) (f : Refusal)
    (certs : List Cert) → AllZip IsLowered filters graphs → AllZip IsAnswer graphs answers →
    AllZip IsGiven (take number answers) certs → slice_get answers number ≡ Some (Err f) → IsFirstRefused filters number f
refused_first [] [] [] number f certs lowered answered given there = absurd (cc)
refused_first [] [] (a ∷ answers) number f certs lowered answered given there = absurd answered
refused_first [] (g ∷ graphs) answers number f certs lowered answered given there = absurd lowered
refused_first (e ∷ filters) [] answers number f certs lowered answered given there = absurd lowered
refused_first (e ∷ filters) (g ∷ graphs) [] number f certs lowered answered given there = absurd (cc)
refused_first (e ∷ filters) (g ∷ graphs) (Ok k ∷ answers) zero f certs lowered answered given there = absurd (cc)
refused_first (e ∷ filters) (g ∷ graphs) (Err h ∷ answers) zero f certs lowered answered given there =
    let same : h ≡ f = cc in
    record {
      before = [];
      filter = e;
      after = filters;
      parts = refl;
      certificates = [];
      covered = tt;
      counted = refl;
      refused = subst (IsRefused e) same (record { graph = g; lowered = lowered.0; none = answered.0.0; named = answered.0.1 });
    }
refused_first (e ∷ filters) (g ∷ graphs) (a ∷ answers) (suc number) f [] lowered answered given there = absurd given
refused_first (e ∷ filters) (g ∷ graphs) (Err h ∷ answers) (suc number) f (c ∷ certs) lowered answered given there = absurd given.0
refused_first (e ∷ filters) (g ∷ graphs) (Ok k ∷ answers) (suc number) f (c ∷ certs) lowered answered given there =
    let rest = refused_first filters graphs answers number f certs lowered.1 answered.1 given.1 there in
    record {
      before = e ∷ rest.before;
      filter = rest.filter;
      after = rest.after;
      parts = ap (λ (l : List Filter). e ∷ l) rest.parts;
      certificates = full_spelling k ∷ rest.certificates;
      covered = (
        record {
          graph = g;
          lowered = lowered.0;
          certificate = k;
          certified = given.0.1;
          covers = answered.0.0;
          written = refl;
        },
        rest.covered,
      );
      counted = ap suc rest.counted;
      refused = rest.refused;
    }

-- where the answers stop, the filters fail
pub filters_fail : (filters : List Filter) (graphs : List Graph) (answers : List (Result Certificate Refusal)) (e : RunFault) →
    AllZip IsLowered filters graphs → AllZip IsAnswer graphs answers → StopsAt answers e → FiltersFail filters e
filters_fail filters graphs answers (fault.Refused number f) lowered answered stops =
    refused_first filters graphs answers number f stops.certificates lowered answered stops.given stops.there
filters_fail filters graphs answers fault.OutOfMemory lowered answered stops = tt
filters_fail filters graphs answers fault.Count lowered answered stops = absurd stops
filters_fail filters graphs answers (fault.Syntax number f) lowered answered stops = absurd stops
filters_fail filters graphs answers (fault.Script line) lowered answered stops = absurd stops
filters_fail filters graphs answers (fault.Altitude number) lowered answered stops = absurd stops

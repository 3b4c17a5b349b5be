-- A file that is accepted isn't refused: its text spells one filter, which has one graph, and its bytes spell one certificate.
use Rattle.std.proofs.Common.{◌≡◌, ℕ, ◌<◌, List, [], ◌∷◌, Result, Ok, Err, IfErr, inl}
use Rattle.std.proofs.Common.{inr, length, get_or, refl, sym, ap, subst, ◌∙◌, arith}
use Rattle.std.proofs.lemmas.List.{length-append, get_or_append_left, get_or_at}
use Rattle.std.proofs.lemmas.Option.{get_or_from_slice_get, slice_get_within}
use Rattle.std.specs.Prelude.{IsTrue, MatchResult}
use Rattle.flt_tree.specs.Names.{Text}
use Rattle.flt_syntax.specs.Spelling.{Spells, SpellsAtMostOne}
use Rattle.flt_tree.specs.WellFormed.{IsWellFormed}
use Rattle.flt_tree.specs.declared.filter.Filter.{Filter}
use Rattle.flt_graph.specs.Lowering.{IsLowered}
use Rattle.flt_graph.specs.declared.graph.Graph.{Graph}
use Rattle.flt_cert.specs.Spelling.{is_cert, spelling}
use Rattle.flt_cert.specs.declared.cert.Cert.{Cert}
use Rattle.flt_check.specs.Accepting.{CertCovers}
use Rattle.flt_model.specs.Program.{HasDistinctAltitudes, IsRepeated, by_altitude}
use Rattle.flt_stack.proofs.Files.{all_accepted, as_many_read, refused_first}
use Rattle.flt_stack.specs.Loading.{File, Answers, IsAcceptedFile, AreAcceptedFiles, AreReadFiles, IsCount, IsReadFile, max_files}
use Rattle.flt_stack.specs.Lowered as lowered
use Rattle.flt_stack.specs.Lowered.{AreCovered, IsAltitudeFault}
use Rattle.flt_stack.specs.declared.fault.LoadFault.{LoadFault}
use Rattle.flt_stack.specs.declared.fault.LoadFault.TheVariants as fault

module _ (fine : (text : Text) (f : Filter) → Spells text f → IsWellFormed f) (spells_one : SpellsAtMostOne)
    (one_graph : (f : Filter) (g h : Graph) → IsWellFormed f → IsLowered f g → IsLowered f h → g ≡ h)
    (one_cert : (c d : Cert) → IsTrue (is_cert c) → IsTrue (is_cert d) → spelling c ≡ spelling d → c ≡ d) where
  -- what a file is read to is what it was accepted with
  covered_again : (file : File) (f e : Filter) (g : Graph) (c : Cert) → IsReadFile file f g c → IsAcceptedFile file e →
      (f ≡ e) × CertCovers g c
  covered_again file f e g c read x =
      let filters : f ≡ e = spells_one file.text f e read.spelled x.spelled in
      let here : IsLowered e g = subst (λ (y : Filter). IsLowered y g) filters read.lowered in
      let graphs : x.graph ≡ g = one_graph e x.graph g (fine file.text e x.spelled) x.lowered here in
      let certs : x.certificate ≡ c = one_cert x.certificate c x.certified read.certified (sym x.written ∙ read.written) in
      (filters, subst (λ (k : Cert). CertCovers g k) certs (subst (λ (h : Graph). CertCovers h x.certificate) graphs x.covers))

  -- so all files that are accepted are read to filters that are covered
  pub all_covered : (files : List File) (fs es : List Filter) (gs : List Graph) (ks : List Cert) → AreReadFiles files fs gs ks →
      AreAcceptedFiles files es → (fs ≡ es) × AreCovered gs ks
  all_covered [] [] [] [] [] all also = (refl, tt)
  all_covered [] [] [] [] (l ∷ ks) all also = absurd all
  all_covered [] [] [] (h ∷ gs) ks all also = absurd all
  all_covered [] [] (e ∷ es) gs ks all also = absurd also
  all_covered [] (f ∷ fs) es gs ks all also = absurd all
  all_covered (y ∷ files) [] es gs ks all also = absurd all
  all_covered (y ∷ files) (f ∷ fs) [] gs ks all also = absurd also
  all_covered (y ∷ files) (f ∷ fs) (e ∷ es) [] ks all also = absurd all
  all_covered (y ∷ files) (f ∷ fs) (e ∷ es) (h ∷ gs) [] all also = absurd all
  all_covered (y ∷ files) (f ∷ fs) (e ∷ es) (h ∷ gs) (l ∷ ks) all also =
      let first = covered_again y f e h l all.0 also.0 in
      let others = all_covered files fs es gs ks all.1 also.1 in
      (ap (λ (x : Filter). x ∷ fs) first.0 ∙ ap (λ (rest : List Filter). e ∷ rest) others.0, (first.1, others.1))

-- filters whose altitudes differ have none repeated
pub none_repeated : (filters : List Filter) (n : ℕ) → HasDistinctAltitudes filters → IsRepeated filters n → ⊥
none_repeated filters n distinct r =
    let at = r.earlier.0 in
    let within : at < length r.before = slice_get_within r.before at r.earlier.1 r.earlier.2 in
    let place : length r.before < length filters = omega (arith, ap length r.parts, length-append r.before (r.filter ∷ r.after)) in
    let one : get_or filters at r.filter ≡ r.earlier.1 =
    ap (λ (l : List Filter). get_or l at r.filter) r.parts
    ∙ (get_or_append_left r.before (r.filter ∷ r.after) r.filter at within
    ∙ get_or_from_slice_get r.before at r.earlier.1 r.filter r.earlier.2) in
    let other : get_or filters (length r.before) r.filter ≡ r.filter =
    ap (λ (l : List Filter). get_or l (length r.before) r.filter) r.parts
    ∙ get_or_at r.before r.filter r.after r.filter (length r.before) refl in
    distinct at (length r.before) r.filter within place
    (ap (λ (f : Filter). f.altitude) one ∙ (r.earlier.3 ∙ sym (ap (λ (f : Filter). f.altitude) other)))

-- ---- what is answered

module _ (files : List File) (fs : List Filter) (gs : List Graph) (ks : List Cert) (read : AreReadFiles files fs gs ks) where
  many : length fs ≡ length files
  many = (as_many_read files fs gs ks read).filters

  -- what is answered of what files were read to is what is answered of the files
  pub read_answers : (r : Result (List Filter) LoadFault) → lowered.Answers fs gs ks r → Answers files r
  read_answers (Ok loaded) a = record {
    counted = subst IsCount many a.counted;
    filters = fs;
    accepted = all_accepted files fs gs ks read a.covered;
    distinct = a.distinct;
    ordered = a.ordered;
  }
  read_answers (Err fault.Count) (inl none) = inl (sym many ∙ none)
  read_answers (Err fault.Count) (inr more) = inr (subst (λ n. max_files < n) many more)
  read_answers (Err (fault.Refused n r)) a = (subst IsCount many a.0, refused_first files fs gs ks n r read a.1)
  read_answers (Err (fault.Altitude n)) a = (
    subst IsCount many a.0,
    record { filters = fs; accepted = all_accepted files fs gs ks read a.1.0; repeated = a.1.1 },
  )
  read_answers (Err fault.OutOfMemory) a = tt
  read_answers (Err (fault.Syntax n f)) a = absurd a
  read_answers (Err (fault.Cert n f)) a = absurd a

  -- and files that are accepted, of different altitudes, are loaded
  pub read_loads : (filters : List Filter) (r : Result (List Filter) LoadFault) → fs ≡ filters → HasDistinctAltitudes filters →
      lowered.Answers fs gs ks r → IfErr r (IsAltitudeFault fs) →
      MatchResult r (λ loaded. loaded ≡ by_altitude filters) (λ e. e ≡ fault.OutOfMemory)
  read_loads filters (Ok loaded) same distinct a accepts = a.ordered ∙ ap by_altitude same
  read_loads filters (Err (fault.Altitude n)) same distinct a repeated =
      absurd (none_repeated filters n distinct (subst (λ (l : List Filter). IsRepeated l n) same repeated))
  read_loads filters (Err fault.OutOfMemory) same distinct a accepts = refl
  read_loads filters (Err fault.Count) same distinct a accepts = absurd accepts
  read_loads filters (Err (fault.Refused n r)) same distinct a accepts = absurd accepts
  read_loads filters (Err (fault.Syntax n f)) same distinct a accepts = absurd accepts
  read_loads filters (Err (fault.Cert n f)) same distinct a accepts = absurd accepts

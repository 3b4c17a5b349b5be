-- Files that are read one by one: one more is read, or the first that can't be, or isn't accepted, has its fault.
use Rattle.std.proofs.Common.{◌≡◌, ℕ, zero, suc, ◌+◌, ◌<◌, List, [], ◌∷◌, ◌++◌, length}
use Rattle.std.proofs.Common.{get_or, map, min, take, Some, refl, ap, ◌∙◌, subst, arith}
use Rattle.std.proofs.lemmas.List.{length-take, map_more, map_push, take-map, take-take}
use Rattle.std.proofs.lemmas.Option.{slice_get-get_or, slice_get-map, slice_get_within}
use Rattle.std.specs.List.{AllZip}
use Rattle.std.specs.Prelude.{option_map, slice_get}
use Rattle.flt_tree.specs.Names.{Text}
use Rattle.flt_tree.specs.WellFormed.{IsWellFormed}
use Rattle.flt_tree.specs.declared.filter.Filter.{Filter}
use Rattle.flt_tree.specs.declared.tree.Tree.{Tree}
use Rattle.flt_syntax.specs.Spelling.{Spells}
use Rattle.flt_graph.specs.declared.graph.Graph.{Graph}
use Rattle.flt_cert.specs.declared.cert.Cert.{Cert}
use Rattle.flt_rules.specs.declared.refusal.Refusal.{Refusal}
use Rattle.flt_machine_frames.specs.Loading.{AreGraphsOfFilters}
use Rattle.flt_model.specs.Program.{filters_of}
use Rattle.flt_stack.specs.Loading.{File, IsAcceptedFile, AreAcceptedFiles, AreReadFiles, CannotRead}
use Rattle.flt_stack.specs.Loading.{IsFirstFault, IsReadFile, StopsAt, StopsReading}
use Rattle.flt_stack.specs.Lowered.{AreCertificates, AreCovered, IsFirstRefusal}
use Rattle.flt_stack.specs.declared.fault.LoadFault.{LoadFault}
use Rattle.flt_stack.specs.declared.fault.LoadFault.TheVariants as fault

-- ---- lists

-- what stands in the first so many stands in all
slice_get_taken : {A : Type 0} (m : ℕ) (xs : List A) (n : ℕ) (x : A) → slice_get (take m xs) n ≡ Some x → slice_get xs n ≡ Some x
slice_get_taken zero xs n x e = absurd (cc)
slice_get_taken (suc m) [] n x e = absurd (cc)
slice_get_taken (suc m) (a ∷ xs) zero x e = e
slice_get_taken (suc m) (a ∷ xs) (suc n) x e = slice_get_taken m xs n x e

-- the first so many of the first so many, where something stands behind them
taken_again : {A : Type 0} (m n : ℕ) (xs : List A) (x : A) → slice_get (take m xs) n ≡ Some x → take n (take m xs) ≡ take n xs
taken_again m n xs x e =
    let within : n < length (take m xs) = slice_get_within (take m xs) n x e in
    let long : length (take m xs) ≡ min m (length xs) = length-take m xs in
    take-take n m xs (omega (arith, within, long))

-- ---- files that are read

-- one more
read_more : (files : List File) (fs : List Filter) (gs : List Graph) (ks : List Cert) (x : File) (f : Filter) (g : Graph) (k : Cert) →
    AreReadFiles files fs gs ks → IsReadFile x f g k →
    AreReadFiles (files ++ x ∷ []) (fs ++ f ∷ []) (gs ++ g ∷ []) (ks ++ k ∷ [])
read_more [] [] [] [] x f g k all one = (one, tt)
read_more [] [] [] (l ∷ ks) x f g k all one = absurd all
read_more [] [] (h ∷ gs) ks x f g k all one = absurd all
read_more [] (e ∷ fs) gs ks x f g k all one = absurd all
read_more (y ∷ files) [] gs ks x f g k all one = absurd all
read_more (y ∷ files) (e ∷ fs) [] ks x f g k all one = absurd all
read_more (y ∷ files) (e ∷ fs) (h ∷ gs) [] x f g k all one = absurd all
read_more (y ∷ files) (e ∷ fs) (h ∷ gs) (l ∷ ks) x f g k all one = (all.0, read_more files fs gs ks x f g k all.1 one)

-- what the file of a number was read to
record IsReadAt (files : List File) (n : ℕ) (g : Graph) (k : Cert) : Type 0 where
  file : File
  filter : Filter
  there : slice_get files n ≡ Some file
  read : IsReadFile file filter g k

read_at : (files : List File) (fs : List Filter) (gs : List Graph) (ks : List Cert) (n : ℕ) (g : Graph) (k : Cert) →
    AreReadFiles files fs gs ks → slice_get gs n ≡ Some g → slice_get ks n ≡ Some k → IsReadAt files n g k
read_at [] [] [] [] n g k all first second = absurd (cc)
read_at [] [] [] (l ∷ ks) n g k all first second = absurd all
read_at [] [] (h ∷ gs) ks n g k all first second = absurd all
read_at [] (e ∷ fs) gs ks n g k all first second = absurd all
read_at (y ∷ files) [] gs ks n g k all first second = absurd all
read_at (y ∷ files) (e ∷ fs) [] ks n g k all first second = absurd all
read_at (y ∷ files) (e ∷ fs) (h ∷ gs) [] n g k all first second = absurd all
read_at (y ∷ files) (e ∷ fs) (h ∷ gs) (l ∷ ks) zero g k all first second =
    let graphs : h ≡ g = cc in
    let certs : l ≡ k = cc in
    record {
      file = y;
      filter = e;
      there = refl;
      read = subst (λ c. IsReadFile y e g c) certs (subst (λ i. IsReadFile y e i l) graphs all.0);
    }
read_at (y ∷ files) (e ∷ fs) (h ∷ gs) (l ∷ ks) (suc n) g k all first second =
    let rest = read_at files fs gs ks n g k all.1 first second in
    record { file = rest.file; filter = rest.filter; there = rest.there; read = rest.read }

-- the first so many files
read_first : (n : ℕ) (files : List File) (fs : List Filter) (gs : List Graph) (ks : List Cert) → AreReadFiles files fs gs ks →
    AreReadFiles (take n files) (take n fs) (take n gs) (take n ks)
read_first zero files fs gs ks all = tt
read_first (suc n) [] [] [] [] all = tt
read_first (suc n) [] [] [] (l ∷ ks) all = absurd all
read_first (suc n) [] [] (h ∷ gs) ks all = absurd all
read_first (suc n) [] (e ∷ fs) gs ks all = absurd all
read_first (suc n) (y ∷ files) [] gs ks all = absurd all
read_first (suc n) (y ∷ files) (e ∷ fs) [] ks all = absurd all
read_first (suc n) (y ∷ files) (e ∷ fs) (h ∷ gs) [] all = absurd all
read_first (suc n) (y ∷ files) (e ∷ fs) (h ∷ gs) (l ∷ ks) all = (all.0, read_first n files fs gs ks all.1)

-- each file is read to one filter, one graph and one certificate
pub record AreAsMany (files : List File) (fs : List Filter) (gs : List Graph) (ks : List Cert) : Type 0 where
  pub filters : length fs ≡ length files
  pub certificates : length ks ≡ length gs

pub as_many_read : (files : List File) (fs : List Filter) (gs : List Graph) (ks : List Cert) → AreReadFiles files fs gs ks →
    AreAsMany files fs gs ks
as_many_read [] [] [] [] all = record { filters = refl; certificates = refl }
as_many_read [] [] [] (l ∷ ks) all = absurd all
as_many_read [] [] (h ∷ gs) ks all = absurd all
as_many_read [] (e ∷ fs) gs ks all = absurd all
as_many_read (y ∷ files) [] gs ks all = absurd all
as_many_read (y ∷ files) (e ∷ fs) [] ks all = absurd all
as_many_read (y ∷ files) (e ∷ fs) (h ∷ gs) [] all = absurd all
as_many_read (y ∷ files) (e ∷ fs) (h ∷ gs) (l ∷ ks) all =
    let rest = as_many_read files fs gs ks all.1 in
    record { filters = ap suc rest.filters; certificates = ap suc rest.certificates }

-- the graphs are those of the filters
pub all_lowered : ((text : Text) (f : Filter) → Spells text f → IsWellFormed f) → (files : List File) (fs : List Filter)
    (gs : List Graph) (ks : List Cert) → AreReadFiles files fs gs ks → AreGraphsOfFilters fs gs
all_lowered fine [] [] [] [] all = tt
all_lowered fine [] [] [] (l ∷ ks) all = absurd all
all_lowered fine [] [] (h ∷ gs) ks all = absurd all
all_lowered fine [] (e ∷ fs) gs ks all = absurd all
all_lowered fine (y ∷ files) [] gs ks all = absurd all
all_lowered fine (y ∷ files) (e ∷ fs) [] ks all = absurd all
all_lowered fine (y ∷ files) (e ∷ fs) (h ∷ gs) [] all = absurd all
all_lowered fine (y ∷ files) (e ∷ fs) (h ∷ gs) (l ∷ ks) all =
    (record { well_formed = fine y.text e all.0.spelled; lowered = all.0.lowered }, all_lowered fine files fs gs ks all.1)

-- and each has its certificate
pub all_certified : (files : List File) (fs : List Filter) (gs : List Graph) (ks : List Cert) → AreReadFiles files fs gs ks →
    AreCertificates gs ks
all_certified [] [] [] [] all = tt
all_certified [] [] [] (l ∷ ks) all = absurd all
all_certified [] [] (h ∷ gs) ks all = absurd all
all_certified [] (e ∷ fs) gs ks all = absurd all
all_certified (y ∷ files) [] gs ks all = absurd all
all_certified (y ∷ files) (e ∷ fs) [] ks all = absurd all
all_certified (y ∷ files) (e ∷ fs) (h ∷ gs) [] all = absurd all
all_certified (y ∷ files) (e ∷ fs) (h ∷ gs) (l ∷ ks) all = (all.0.certified, all_certified files fs gs ks all.1)

-- files whose graphs are covered are accepted
pub all_accepted : (files : List File) (fs : List Filter) (gs : List Graph) (ks : List Cert) → AreReadFiles files fs gs ks →
    AreCovered gs ks → AreAcceptedFiles files fs
all_accepted [] [] [] [] all covered = tt
all_accepted [] [] [] (l ∷ ks) all covered = absurd all
all_accepted [] [] (h ∷ gs) ks all covered = absurd all
all_accepted [] (e ∷ fs) gs ks all covered = absurd all
all_accepted (y ∷ files) [] gs ks all covered = absurd all
all_accepted (y ∷ files) (e ∷ fs) [] ks all covered = absurd all
all_accepted (y ∷ files) (e ∷ fs) (h ∷ gs) [] all covered = absurd all
all_accepted (y ∷ files) (e ∷ fs) (h ∷ gs) (l ∷ ks) all covered =
    let here = all.0 in (
      record {
        spelled = here.spelled;
        graph = h;
        lowered = here.lowered;
        certificate = l;
        certified = here.certified;
        written = here.written;
        covers = covered.0;
      },
      all_accepted files fs gs ks all.1 covered.1,
    )

-- ---- faults

-- the first refusal is the fault of the files, where they are read
pub refused_first : (files : List File) (fs : List Filter) (gs : List Graph) (ks : List Cert) (n : ℕ) (r : Refusal) →
    AreReadFiles files fs gs ks → IsFirstRefusal gs ks n r → IsFirstFault files (fault.Refused n r)
refused_first files fs gs ks n r all first =
    let at = read_at files fs gs ks n first.graph first.certificate all first.its_graph first.its_certificate in
    record {
      number = n;
      file = at.file;
      there = at.there;
      before = take n fs;
      accepted = all_accepted (take n files) (take n fs) (take n gs) (take n ks) (read_first n files fs gs ks all) first.before;
      wrong = (
        refl,
        record {
          filter = at.filter;
          spelled = at.read.spelled;
          graph = first.graph;
          lowered = at.read.lowered;
          certificate = first.certificate;
          certified = at.read.certified;
          written = at.read.written;
          refused = first.refused;
        },
      );
    }

-- the fault of the first so many files is that of all
pub first_of_all : (m : ℕ) (files : List File) (f : LoadFault) → IsFirstFault (take m files) f → IsFirstFault files f
first_of_all m files f first = record {
  number = first.number;
  file = first.file;
  there = slice_get_taken m files first.number first.file first.there;
  before = first.before;
  accepted = subst (λ l. AreAcceptedFiles l first.before) (taken_again m first.number files first.file first.there) first.accepted;
  wrong = first.wrong;
}

-- where reading stops, and all files before are accepted, the fault is that of all files
pub stops_at : (files : List File) (fs : List Filter) (gs : List Graph) (ks : List Cert) (f : LoadFault) →
    StopsReading files fs gs ks f → AreCovered gs ks → StopsAt files f
stops_at files fs gs ks (fault.Syntax n f) stops covered = record {
  number = stops.number;
  file = stops.file;
  there = stops.there;
  before = fs;
  accepted = all_accepted (take stops.number files) fs gs ks stops.before covered;
  wrong = stops.wrong;
}
stops_at files fs gs ks (fault.Cert n f) stops covered = record {
  number = stops.number;
  file = stops.file;
  there = stops.there;
  before = fs;
  accepted = all_accepted (take stops.number files) fs gs ks stops.before covered;
  wrong = stops.wrong;
}
stops_at files fs gs ks fault.OutOfMemory stops covered = tt
stops_at files fs gs ks fault.Count stops covered = absurd stops.wrong
stops_at files fs gs ks (fault.Refused n r) stops covered = absurd stops.wrong
stops_at files fs gs ks (fault.Altitude n) stops covered = absurd stops.wrong

-- ---- each file of a list that is gone through

-- each of two lists that hold one by one: what the second has where the first has something
zipped_at : {A B : Type 0} (R : A → B → Type 0) (xs : List A) (ys : List B) (i : ℕ) (x : A) → AllZip R xs ys →
    slice_get xs i ≡ Some x → (y : B) × R x y
zipped_at R [] ys i x all e = absurd (cc)
zipped_at R (a ∷ xs) [] i x all e = absurd all
zipped_at R (a ∷ xs) (b ∷ ys) zero x all e = let same : a ≡ x = cc in (b, subst (λ z. R z b) same all.0)
zipped_at R (a ∷ xs) (b ∷ ys) (suc i) x all e = zipped_at R xs ys i x all.1 e

module _ {A : Type 0} (as_file : A → File) (items : List A) (i : ℕ) (d : A) (below : i < length items) where
  there : slice_get (map as_file items) i ≡ Some (as_file (get_or items i d))
  there = slice_get-map as_file items i ∙ ap (option_map as_file) (slice_get-get_or items i d below)

  -- one more file is read
  pub one_more_read : (trees more_trees : List Tree) (gs more_gs : List Graph) (ks more_ks : List Cert) (tree : Tree) (g : Graph)
      (k : Cert) → AreReadFiles (map as_file (take i items)) (filters_of trees) gs ks →
      IsReadFile (as_file (get_or items i d)) tree.filter g k → more_trees ≡ trees ++ tree ∷ [] → more_gs ≡ gs ++ g ∷ [] →
      more_ks ≡ ks ++ k ∷ [] → AreReadFiles (map as_file (take (i + 1) items)) (filters_of more_trees) more_gs more_ks
  one_more_read trees more_trees gs more_gs ks more_ks tree g k all one first second third =
      let files : map as_file (take (i + 1) items) ≡ map as_file (take i items) ++ as_file (get_or items i d) ∷ [] =
      map_more as_file items i d below in
      let filters : filters_of more_trees ≡ filters_of trees ++ tree.filter ∷ [] = ap filters_of first
      ∙ map_push (λ (t : Tree). t.filter) trees tree in
      rw (files, filters, second, third)
      (read_more (map as_file (take i items)) (filters_of trees) gs ks (as_file (get_or items i d)) tree.filter g k all one)

  -- it can't be read, for this fault
  pub stops_reading : (fs : List Filter) (gs : List Graph) (ks : List Cert) (f : LoadFault) →
      AreReadFiles (map as_file (take i items)) fs gs ks → CannotRead i (as_file (get_or items i d)) f →
      StopsReading (map as_file items) fs gs ks f
  stops_reading fs gs ks f all wrong = record {
    number = i;
    file = as_file (get_or items i d);
    there = there;
    before = rw (take-map as_file i items) all;
    wrong = wrong;
  }

  -- or memory runs out once it is
  pub memory_stops : (fs : List Filter) (gs : List Graph) (ks : List Cert) (f : Filter) (g : Graph) (k : Cert) →
      AreReadFiles (map as_file (take i items)) fs gs ks → IsReadFile (as_file (get_or items i d)) f g k →
      StopsReading (map as_file items) fs gs ks fault.OutOfMemory
  memory_stops fs gs ks f g k all one = stops_reading fs gs ks fault.OutOfMemory all tt

  -- where all files are accepted, this one is
  pub accepted_here : (filters : List Filter) → AreAcceptedFiles (map as_file items) filters → (f : Filter)
      × IsAcceptedFile (as_file (get_or items i d)) f
  accepted_here filters all = zipped_at IsAcceptedFile (map as_file items) filters i (as_file (get_or items i d)) all there

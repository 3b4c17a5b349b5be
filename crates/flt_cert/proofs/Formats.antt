-- Certificates of either format: the first line says in which one a text is read.
use Rattle.std.proofs.Common.{◌≡◌, ◌<◌, ◌≤◌, ℕ, suc, Bool, true, false, List, [], ◌∷◌}
use Rattle.std.proofs.Common.{◌++◌, take, get_or, refl, sym, ap, arith, ◌∙◌, inl, inr}
use Rattle.std.specs.Prelude.{◌⊎◌, Option, Some, None, is_some, IsTrue}
use Rattle.std.proofs.lemmas.Bool.{cases_order}
use Rattle.std.proofs.lemmas.List.{take-take}
use Rattle.flt_cert.specs.declared.cert.Cert.{Cert}
use Rattle.flt_cert.specs.declared.cert.Cert.TheVariants as variant
use Rattle.flt_cert.specs.declared.fault.CertFault.{CertFault}
use Rattle.flt_cert.specs.declared.fault.CertFault.TheVariants.{Line, OutOfMemory}
use Rattle.flt_cert.specs.Text.{Text, lines_of, after}
use Rattle.flt_cert.specs.Format.{Certificate, is_certificate, first_line, full_lines_for, full_spelling, joined, IsFirstFullFault}
use Rattle.flt_cert.specs.Reading.{start, certificate, IsFullFaultOf}
use Rattle.flt_cert.specs.Thin.{Thin, is_thin}
use Rattle.flt_cert.specs.ThinFormat.{first_thin_line, thin_lines_for, thin_spelling, IsFirstThinFault}
use Rattle.flt_cert.specs.ThinReading.{thin_certificate, IsThinFaultOf}
use Rattle.flt_cert.specs.Spelling.{is_cert, lines_for, spelling, Agree, IsFirstFault, IsFaultOf}
use Rattle.flt_cert.proofs.FieldLaws.{after_takes, after_again}
use Rattle.flt_cert.proofs.Sound.{joined_lines}
use Rattle.flt_cert.proofs.Complete as full
use Rattle.flt_cert.proofs.ThinComplete as thin
use Rattle.flt_cert.proofs.FirstFault as full_reads
use Rattle.flt_cert.proofs.ThinFirstFault as thin_reads

-- ---- the first line

abbrev pub begins_thin : Text → Bool
begins_thin text = is_some (after first_thin_line text)

-- the first lines of the two formats differ
apart : first_line ≡ first_thin_line → ⊥
apart h = let wrong : false ≡ true = ap begins_thin h in cc

-- a text that a full certificate spells doesn't begin as a thin one
pub full_begins : (text : Text) (k : Certificate) → text ≡ full_spelling k → begins_thin text ≡ false
full_begins text k h = ap begins_thin h

-- one that a thin certificate spells does
pub thin_begins : (text : Text) (t : Thin) → text ≡ thin_spelling t → begins_thin text ≡ true
thin_begins text t h = ap begins_thin h

-- where a text begins so, that is its first line
begun_line : (text : Text) → begins_thin text ≡ true → take 1 (lines_of text) ≡ first_thin_line ∷ []
begun_line text h = go (after first_thin_line text) refl h
  where
    go : (rest : Option Text) → after first_thin_line text ≡ rest → is_some rest ≡ true → take 1 (lines_of text) ≡ first_thin_line ∷ []
    go None e h = cc
    go (Some rest) e h = ap (λ (z : Text). take 1 (lines_of z)) (after_takes first_thin_line text rest e)

-- and where that is its first line, it begins so
line_begun : (text : Text) → take 1 (lines_of text) ≡ first_thin_line ∷ [] → begins_thin text ≡ true
line_begun text h = go (lines_of text) (joined_lines text) h
  where
    go : (lines : List Text) → joined lines ≡ text → take 1 lines ≡ first_thin_line ∷ [] → begins_thin text ≡ true
    go [] e h = cc
    go (line ∷ lines) e h =
        let same : line ≡ first_thin_line = cc in
        ap begins_thin (sym e) ∙ (ap (λ (z : Text). begins_thin (z ++ joined lines)) same
        ∙ ap is_some (after_again first_thin_line (joined lines)))

-- what agrees up to a line agrees up to an earlier one
fewer : (m n : ℕ) (text : Text) (c : Cert) → m ≤ n → Agree n text c → Agree m text c
fewer m n text c h agree = sym (take-take m n (lines_of text) h) ∙ (ap (take m) agree ∙ take-take m n (lines_for c) h)

-- ---- faults of one format are faults of both

-- a text that begins as a thin certificate agrees with no full one
pub thin_fault : (text : Text) (n : ℕ) → begins_thin text ≡ true → IsFirstThinFault text n → IsFirstFault text n
thin_fault text n h f = record {
  before = f.before;
  next = f.next;
  whose = variant.Thin f.whose;
  certificate = f.thin;
  begun = f.begun;
  stopped = stopped;
}
  where
    stopped : (c : Cert) → IsTrue (is_cert c) → Agree n text c → ⊥
    stopped (variant.Thin t) good agree = f.stopped t good agree
    stopped (variant.Full k) good agree =
        let some : 1 ≤ n = (let e = f.next in omega arith) in
        let lines : first_line ∷ [] ≡ first_thin_line ∷ [] = sym (fewer 1 n text (variant.Full k) some agree) ∙ begun_line text h in
        apart (ap (λ (z : List Text). get_or z 0 []) lines)

-- any other agrees with no thin one
pub full_fault : (text : Text) (n : ℕ) → begins_thin text ≡ false → IsFirstFullFault text n → IsFirstFault text n
full_fault text n h f = record {
  before = f.before;
  next = f.next;
  whose = variant.Full f.whose;
  certificate = f.certificate;
  begun = f.begun;
  stopped = stopped;
}
  where
    stopped : (c : Cert) → IsTrue (is_cert c) → Agree n text c → ⊥
    stopped (variant.Full k) good agree = f.stopped k good agree
    stopped (variant.Thin t) good agree =
        let some : 1 ≤ n = (let e = f.next in omega arith) in
        let begun : begins_thin text ≡ true = line_begun text (fewer 1 n text (variant.Thin t) some agree) in
        cc

-- the same of what was answered
pub thin_fault_of : (text : Text) (e : CertFault) → begins_thin text ≡ true → IsThinFaultOf text e → IsFaultOf text e
thin_fault_of text OutOfMemory h f = tt
thin_fault_of text (Line n) h f = thin_fault text n h f

-- a fault of a text in format 1 is a fault of a text in either format
pub full_fault_of : (text : Text) (e : CertFault) → begins_thin text ≡ false → IsFullFaultOf text e → IsFaultOf text e
full_fault_of text OutOfMemory h f = tt
full_fault_of text (Line n) h f = full_fault text n h f

-- ---- one spelling and one fault

-- the lines of a spelling
lines_spelled : (c : Cert) → lines_of (spelling c) ≡ lines_for c
lines_spelled (variant.Full k) = full.lines_spelled k
lines_spelled (variant.Thin t) = thin.lines_spelled t

full_once : (k l : Certificate) → IsTrue (is_certificate k) → IsTrue (is_certificate l) → full_spelling k ≡ full_spelling l → k ≡ l
full_once k l good fine same =
    let read = full.lines_read (full_spelling k) k good (full.lines_spelled k) in
    full_reads.is_read (full_spelling k) k read.0 read.1 l fine same

thin_once : (s t : Thin) → IsTrue (is_thin s) → IsTrue (is_thin t) → thin_spelling s ≡ thin_spelling t → s ≡ t
thin_once s t good fine same =
    let read = thin.lines_read (thin_spelling s) s good (thin.lines_spelled s) in
    thin_reads.is_read (thin_spelling s) s read.0 read.1 t fine same

-- certificates with one spelling are one
pub spelled_once : (c d : Cert) → IsTrue (is_cert c) → IsTrue (is_cert d) → spelling c ≡ spelling d → c ≡ d
spelled_once (variant.Full k) (variant.Full l) good fine same = ap variant.Full (full_once k l good fine same)
spelled_once (variant.Thin s) (variant.Thin t) good fine same = ap variant.Thin (thin_once s t good fine same)
spelled_once (variant.Full k) (variant.Thin t) good fine same =
    let wrong : false ≡ true = ap begins_thin same in cc
spelled_once (variant.Thin s) (variant.Full l) good fine same =
    let wrong : true ≡ false = ap begins_thin same in cc

not_before : (text : Text) (m n : ℕ) → m < n → IsFirstFault text m → IsFirstFault text n → ⊥
not_before text m n below f g =
    let least : m ≤ g.before = (let e = g.next in omega arith) in
    f.stopped g.whose g.certificate (fewer m g.before text g.whose least g.begun)

-- two first faults of a text are one
pub fault_once : (text : Text) (m n : ℕ) → IsFirstFault text m → IsFirstFault text n → m ≡ n
fault_once text m n f g = by_order (cases_order m n)
  where
    by_order : ((m ≡ n) ⊎ ((m < n) ⊎ (n < m))) → m ≡ n
    by_order (inl e) = e
    by_order (inr (inl l)) = absurd (not_before text m n l f g)
    by_order (inr (inr l)) = absurd (not_before text n m l g f)

-- the text of a certificate has no fault
pub no_fault : (c : Cert) (n : ℕ) → IsTrue (is_cert c) → IsFirstFault (spelling c) n → ⊥
no_fault c n good f = f.stopped c good (ap (take n) (lines_spelled c))

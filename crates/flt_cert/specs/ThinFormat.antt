-- The spelling of thin certificates: format 2. This project's own format.
use Rattle.std.specs.Prelude.{◌≡◌, ℕ, suc, List, [], ◌∷◌, ◌++◌, length, take, codes, Some, None, IsTrue}
use Rattle.flt_cert.specs.Text.{Text, lines_of}
use Rattle.flt_cert.specs.Format.{point_line, callback_line, last_line, joined}
use Rattle.flt_cert.specs.Thin.{Slot, Thin, is_thin}

-- ---- their lines

-- a line for each point that is given; the first of the slots has a number
abbrev pub slot_lines : ℕ → List Slot → List Text
slot_lines p [] = []
slot_lines p (Some point ∷ slots) = point_line p point ∷ slot_lines (suc p) slots
slot_lines p (None ∷ slots) = slot_lines (suc p) slots

-- the lines of one callback: its number and how many points it has, then those that are given
abbrev pub one_thin_callback : ℕ → List Slot → List Text
one_thin_callback k slots = callback_line k (length slots) ∷ slot_lines 0 slots

-- the lines of callbacks, the first of which has a number
abbrev pub thin_callback_lines : ℕ → Thin → List Text
thin_callback_lines k [] = []
thin_callback_lines k (slots ∷ t) = one_thin_callback k slots ++ thin_callback_lines (suc k) t

abbrev pub first_thin_line : Text
first_thin_line = codes "fltcert 2" ++ 10 ∷ []

-- the lines of a thin certificate
abbrev pub thin_lines_for : Thin → List Text
thin_lines_for t = first_thin_line ∷ (thin_callback_lines 0 t ++ last_line ∷ [])

-- the one spelling of a thin certificate
abbrev pub thin_spelling : Thin → Text
thin_spelling t = joined (thin_lines_for t)

-- ---- texts that are no thin certificate

-- the first lines of a text, up to a number, are those of a thin certificate
abbrev pub AgreeThin : ℕ → Text → Thin → Type 0
AgreeThin n text t = take n (lines_of text) ≡ take n (thin_lines_for t)

-- the first malformed line, counted from 1: the lines before it are the first of some thin certificate, and
-- with it they are those of none; a missing line counts
pub record IsFirstThinFault (text : Text) (n : ℕ) : Type 0 where
  pub before : ℕ
  pub next : n ≡ suc before
  pub whose : Thin
  pub thin : IsTrue (is_thin whose)
  pub begun : AgreeThin before text whose
  pub stopped : (t : Thin) → IsTrue (is_thin t) → AgreeThin n text t → ⊥

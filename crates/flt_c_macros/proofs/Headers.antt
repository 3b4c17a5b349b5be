-- Headers that are read at a depth.
use Rattle.std.proofs.Common.{◌≡◌, ℕ, zero, suc, ◌-◌, ◌<◌, Bool, true, false, List, [], Ok, refl, sym, ap, ◌∙◌, arith}
use Rattle.std.specs.Prelude.{Some, None, slice_get}
use Rattle.flt_c_tokens.specs.declared.token.Token.{Token}
use Rattle.flt_c_macros.specs.declared.note.NoteKind.TheVariants as note
use Rattle.flt_c_macros.specs.declared.state.State.{State}
use Rattle.flt_c_macros.specs.States.{World, noted, was_read, with_header}
use Rattle.flt_c_macros.specs.Whole.{entered, header_read, opened_header, read}

less_one : (n : ℕ) → n ≡ suc n - 1
less_one n = omega arith

module _ (kept : List Bool) (headers : List (List Token)) (at : Token) (n : ℕ) (w : World) where
  -- a header that was read is passed over
  pub read_before : (depth : ℕ) → was_read n w.1 ≡ true → entered kept headers depth at n w ≡ Ok w
  unfolding entered
  read_before zero is = rw is refl
  read_before (suc depth) is = rw is refl

  -- one without tokens is noted
  pub no_tokens : (depth : ℕ) → was_read n w.1 ≡ false → slice_get headers n ≡ None →
      entered kept headers depth at n w ≡ Ok (w.0, noted note.Header at w.1)
  unfolding entered
  no_tokens zero new none = rw new refl
  no_tokens (suc depth) new none = rw (new, none) refl

  -- and one within too many others
  pub too_deep : (tokens : List Token) → was_read n w.1 ≡ false → slice_get headers n ≡ Some tokens →
      entered kept headers 0 at n w ≡ Ok (w.0, noted note.Header at w.1)
  unfolding entered
  too_deep tokens new some = rw new refl

  -- another is read
  pub goes_in : (depth : ℕ) (tokens : List Token) → was_read n w.1 ≡ false → slice_get headers n ≡ Some tokens → 0 < depth →
      entered kept headers depth at n w ≡ read kept (entered kept headers (depth - 1)) None [] tokens (w.0, with_header n w.1)
  unfolding entered
  goes_in zero tokens new some deep = absurd (omega (arith, deep))
  goes_in (suc depth) tokens new some deep =
      rw (new, some) (ap (λ d. read kept (entered kept headers d) None [] tokens (w.0, with_header n w.1)) (less_one depth))

  -- the code does so
  pub enters : (depth : ℕ) (tokens read_tokens : List Token) (mid : State) → was_read n w.1 ≡ false → slice_get headers n ≡ Some tokens →
      0 < depth → mid ≡ with_header n w.1 → read_tokens ≡ tokens →
      read kept (entered kept headers (depth - 1)) None [] read_tokens (w.0, mid) ≡ entered kept headers depth at n w
  enters depth tokens read_tokens mid new some deep is same =
      ap (λ s. read kept (entered kept headers (depth - 1)) None [] read_tokens (w.0, s)) is
      ∙ (ap (λ ts. read kept (entered kept headers (depth - 1)) None [] ts (w.0, with_header n w.1)) same
      ∙ sym (goes_in depth tokens new some deep))

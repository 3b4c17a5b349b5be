-- How a ledger follows which activations go on.
use Rattle.std.proofs.Common.{◌≡◌, ◌≢◌, ◌⊎◌, ⊎_elim, subst, ℕ, ◌+◌, ◌<◌, ◌≤◌, Bool, true, false, List}
use Rattle.std.proofs.Common.{[], ◌∷◌, ◌++◌, ap, sym, refl, ◌∙◌, arith, length, get_or, take}
use Rattle.std.proofs.Math.ListN.{set}
use Rattle.std.proofs.Common.{inl, inr}
use Rattle.std.proofs.lemmas.Bool.{both_ways, cases_eq, cases_lt, lt-ltb, le-ltb, eq-eqb, ne_eqb, eqb-true, or_cases}
use Rattle.std.proofs.lemmas.List.{get_or-set_other, get_or-set_same, get_or_past, length-set}
use Rattle.std.proofs.lemmas.Grind.{take_at_read}
use Rattle.std.proofs.lemmas.List.Folds.{list_any-append}
use Rattle.std.specs.Prelude.{not, ◌&&◌, ◌||◌, ◌==◌, if◌then◌else◌}
use Rattle.flt_model.specs.declared.event.Event.{Event}
use Rattle.flt_model.specs.declared.event.Event.TheVariants as event
use Rattle.flt_replay.specs.Apart.{is_end_of, ends_in}
use Rattle.flt_replay.specs.Rows.{count_of}
use Rattle.flt_replay_records.specs.Counts.{occurs}
use Rattle.flt_replay.specs.Ledger.{Tally, Stopped, Halted, Started, Joined}

-- ---- an activation more

-- an activation that is new, and is counted as going on, joins the ledger
pub joined_one : (n : ℕ) (old new : Tally) → length old.running < n → Started old new → Joined n old new
joined_one n old new l s = record {
  only = s.only ∙ ap (λ (b : Bool). record old {
    running = (if b then old.running ++ true ∷ [] else old.running);
    holders = new.holders;
  }) (sym (lt-ltb (length old.running) n l));
  counted = s.counted;
}

-- where no activation is new, the ledger stays as it is
pub joined_none : (n : ℕ) (c : Tally) → n ≤ length c.running → Joined n c c
joined_none n c l = record {
  only = ap (λ (b : Bool). record c { running = (if b then c.running ++ true ∷ [] else c.running) }) (sym (le-ltb (length c.running) n l));
  counted = λ k. k;
}

-- ---- activations that end

or_false : (b : Bool) → (b || false) ≡ b
or_false true = refl
or_false false = refl

and_kept : (b : Bool) → b ≡ (b && not false)
and_kept true = refl
and_kept false = refl

set_false : (ons : List Bool) (a : ℕ) → get_or (set ons a false) a false ≡ false
set_false ons a =
    ⊎_elim (λ (l : a < length ons). get_or-set_same ons a false false l)
    (λ (l : length ons ≤ a). get_or_past (set ons a false) a false (omega (arith, length-set ons a false)))
    (cases_lt a (length ons))

and_not : (b c : Bool) → c ≡ true → (b && not c) ≡ false
and_not true c h = ap not h
and_not false c h = refl

and_still : (b c : Bool) → c ≡ false → b ≡ (b && not c)
and_still b c h = and_kept b ∙ ap (λ (d : Bool). b && not d) (sym h)

ended_flag : (ons : List Bool) (a b : ℕ) → get_or (set ons a false) b false ≡ (get_or ons b false && not (ends_in b (event.End a ∷ [])))
ended_flag ons a b =
    ⊎_elim (λ (e : a ≡ b).
    subst (λ (n : ℕ). get_or (set ons a false) n false ≡ (get_or ons n false && not (ends_in n (event.End a ∷ [])))) e
    (set_false ons a ∙ sym (and_not (get_or ons a false) (a == a || false) (or_false (a == a) ∙ eq-eqb a a refl))))
    (λ (ne : a ≢ b).
    get_or-set_other ons a b false false (λ e. ne (sym e))
    ∙ and_still (get_or ons b false) (a == b || false) (or_false (a == b) ∙ ne_eqb a b ne))
    (cases_eq a b)

module _ (a : ℕ) (old new : Tally) (was now : List ℕ) (s : Stopped a old new was now) where
  running_of : new.running ≡ set old.running a false
  running_of = ap (λ (d : Tally). d.running) s.only

  pub halted_end : Halted (event.End a ∷ []) old new was now
  halted_end = record {
    only = s.only ∙ ap (λ (ons : List Bool). record old { running = ons; holders = new.holders }) (sym running_of);
    counted = s.counted;
    listed = s.listed;
    released = λ b v h z. subst (λ (n : ℕ). count_of old.visits n v ≡ 0) (eqb-true a b (sym (or_false (a == b)) ∙ h)) (s.released v z);
    size = ap length running_of ∙ length-set old.running a false;
    flags = λ b. ap (λ ons. get_or ons b false) running_of ∙ ended_flag old.running a b;
  }

pub never_ends : (e : Event) → ((a : ℕ) → e ≡ event.End a → ⊥) → (b : ℕ) → ends_in b (e ∷ []) ≡ false
never_ends (event.End a) h b = absurd (h a refl)
never_ends (event.Gain a o) h b = refl
never_ends (event.Lose a o) h b = refl
never_ends (event.Free x) h b = refl
never_ends (event.Settle v) h b = refl
never_ends (event.Call a j) h b = refl
never_ends (event.Status a j) h b = refl
never_ends (event.Lock a j) h b = refl
never_ends (event.Unlock a j) h b = refl
never_ends (event.Use a j) h b = refl
never_ends (event.Empty a) h b = refl

-- events in which nobody ends leave the ledger and the list of visits as they are
pub still : (es : List Event) (c : Tally) (was : List ℕ) → ((b : ℕ) → ends_in b es ≡ false) → Halted es c c was was
still es c was h = record {
  only = refl;
  counted = λ k. k;
  listed = λ v z. z;
  released = λ b v e z. absurd (both_ways (ends_in b es) (h b) e);
  size = refl;
  flags = λ b. and_still (get_or c.running b false) (ends_in b es) (h b);
}

-- one more that isn't an end
pub none_more : (events : List Event) (i : ℕ) (d : Event) → i < length events → ((a : ℕ) → ends_in a (take i events) ≡ false) →
    ((a : ℕ) → ends_in a (get_or events i d ∷ []) ≡ false) → (a : ℕ) → ends_in a (take (i + 1) events) ≡ false
none_more events i d l so_far here a =
    ap (ends_in a) (take_at_read events i d l).1 ∙ list_any-append (is_end_of a) (take i events) (get_or events i d ∷ [])
    ∙ rw (so_far a, here a) refl

pub halted_other : (e : Event) (c : Tally) (was : List ℕ) → ((a : ℕ) → e ≡ event.End a → ⊥) → Halted (e ∷ []) c c was was
halted_other e c was h = still (e ∷ []) c was (never_ends e h)

pub halted_none : (c : Tally) (was : List ℕ) → Halted [] c c was was
halted_none c was = still [] c was (λ b. refl)

and_nor : (b c d : Bool) → ((b && not c) && not d) ≡ (b && not (c || d))
and_nor true true d = refl
and_nor true false d = refl
and_nor false c d = refl

module _ (es fs : List Event) (old mid new : Tally) (was now later : List ℕ) (h : Halted es old mid was now)
    (k : Halted fs mid new now later) where
  ends_both : (a : ℕ) → ends_in a (es ++ fs) ≡ (ends_in a es || ends_in a fs)
  ends_both a = list_any-append (is_end_of a) es fs

  released_by : (a v : ℕ) → occurs v later ≡ 0 → (ends_in a es ≡ true) ⊎ (ends_in a fs ≡ true) → count_of old.visits a v ≡ 0
  released_by a v z (inl e) = h.released a v e (k.listed v z)
  released_by a v z (inr e) = sym (ap (λ (d : Tally). count_of d.visits a v) h.only) ∙ k.released a v e z

  -- a ledger that follows events and then others follows them all
  pub halted_both : Halted (es ++ fs) old new was later
  halted_both = record {
    only = k.only ∙ ap (λ (d : Tally). record d { running = new.running; holders = new.holders }) h.only;
    counted = λ c. k.counted (h.counted c);
    listed = λ v z. h.listed v (k.listed v z);
    released = λ a v e z. released_by a v z (or_cases (ends_in a es) (ends_in a fs) (sym (ends_both a) ∙ e));
    size = k.size ∙ h.size;
    flags = λ a.
        k.flags a ∙ ap (λ (b : Bool). b && not (ends_in a fs)) (h.flags a)
        ∙ and_nor (get_or old.running a false) (ends_in a es) (ends_in a fs)
        ∙ ap (λ (b : Bool). get_or old.running a false && not b) (sym (ends_both a));
  }

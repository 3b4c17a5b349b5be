-- What the last entry breaks besides the least violation, after entries that break nothing.
use Rattle.std.specs.Prelude.{IfOk, IfSome}
use Rattle.std.proofs.Common.{◌≡◌, ◌<◌, ◌-◌, ◌+◌, ℕ, zero, suc, Bool, List, [], ◌∷◌, ◌++◌, Option, Some, None}
use Rattle.std.proofs.Common.{Result, Ok, Err, replicate, take, get_or, length, refl, sym, ◌∙◌, subst, arith}
use Rattle.std.proofs.lemmas.List.{append-nil}
use Rattle.flt_tree.specs.declared.filter.Filter.{Filter}
use Rattle.flt_model.specs.declared.event.Event.{Event}
use Rattle.flt_model.specs.declared.moves.JournalEntry.{JournalEntry}
use Rattle.flt_model.specs.declared.verdict.Violation.{Violation}
use Rattle.flt_model.specs.Expansion.{Course, Reaches, Stops, Fails, course, go_on, entry_course, expansion}
use Rattle.flt_model.specs.Runs.{Moment, start}
use Rattle.flt_model.specs.Steps.{Local, Board}
use Rattle.flt_model.specs.World.{World}
use Rattle.flt_replay.specs.Judging.{IsJudgedBy}
use Rattle.flt_replay.specs.Lesser.{moment_after, moment_by, BreaksRule, EndsBy}
use Rattle.flt_replay.specs.Monitoring.{ComesTo}
use Rattle.flt_replay.specs.declared.monitor.Course.TheVariants as code
use Rattle.flt_replay.specs.declared.monitor.Monitor.{Monitor}
use Rattle.flt_model.specs.Program.{by_altitude}
use Rattle.std.specs.declared.alloc.AllocError.{AllocError}
use Rattle.flt_replay.proofs.Judging.Courses.{go_on_more}

-- one entry more, behind those that lead to a moment
pub one_more : (p : List Filter) (a m r : Moment) (es : List JournalEntry) (n : ℕ) (d : JournalEntry) → n < length es →
    moment_after p a (take n es) ≡ Some m → entry_course p m (expansion (get_or es n d)) ≡ Reaches r →
    moment_after p a (take (n + 1) es) ≡ Some r
one_more p a m r [] n d h is e = absurd (omega (arith, h))
one_more p a m r (x ∷ es) zero d h is e =
    let same : m ≡ a = cc in
    let here : entry_course p a (expansion x) ≡ Reaches r = subst (λ b. entry_course p b (expansion x) ≡ Reaches r) same e in
    rw here refl
one_more p a m r (x ∷ es) (suc n) d h is e =
    by (λ b led. one_more p b m r es n d (omega (arith, h)) led e) (entry_course p a (expansion x)) refl
  where
    by : ((b : Moment) → moment_after p b (take n es) ≡ Some m → moment_after p b (take (n + 1) es) ≡ Some r) → (k : Course) →
        entry_course p a (expansion x) ≡ k → moment_after p a (take (suc n + 1) (x ∷ es)) ≡ Some r
    by more (Reaches b) same =
        let next : suc n + 1 ≡ suc (n + 1) = omega arith in
        rw (next, same) (more b (rw same at is))
    by more Stops same = let none : None ≡ Some m = rw same at is in absurd (cc)
    by more (Fails v) same = let none : None ≡ Some m = rw same at is in absurd (cc)

-- an entry that doesn't lead on, behind those that lead to a moment: all of them lead nowhere
pub stops_at : (p : List Filter) (a m : Moment) (es : List JournalEntry) (n : ℕ) (d : JournalEntry) → n < length es →
    moment_after p a (take n es) ≡ Some m →
    ((f : Moment → Option Moment) → moment_by (entry_course p m (expansion (get_or es n d))) f ≡ None) →
    moment_after p a es ≡ None
stops_at p a m [] n d h is none = absurd (omega (arith, h))
stops_at p a m (x ∷ es) zero d h is none =
    let same : m ≡ a = cc in
    subst (λ b. moment_by (entry_course p b (expansion x)) (λ r. moment_after p r es) ≡ None) same (none (λ r. moment_after p r es))
stops_at p a m (x ∷ es) (suc n) d h is none =
    by (λ b led. stops_at p b m es n d (omega (arith, h)) led none) (entry_course p a (expansion x)) refl
  where
    by : ((b : Moment) → moment_after p b (take n es) ≡ Some m → moment_after p b es ≡ None) → (k : Course) →
        entry_course p a (expansion x) ≡ k → moment_after p a (x ∷ es) ≡ None
    by more (Reaches b) same = rw same (more b (rw same at is))
    by more Stops same = rw same refl
    by more (Fails v) same = rw same refl

-- where the monitor stops, nothing is reached
pub stopped : (monitor : Monitor) (k : Course) → ComesTo code.Stops monitor k → (f : Moment → Option Moment) → moment_by k f ≡ None
stopped monitor Stops comes f = refl
stopped monitor (Reaches m) comes f = absurd comes
stopped monitor (Fails v) comes f = absurd comes

-- where it finds something broken, too
pub broken_off : (monitor : Monitor) (v : Violation) (k : Course) → ComesTo (code.Fails v) monitor k →
    (f : Moment → Option Moment) → moment_by k f ≡ None
broken_off monitor v (Fails u) comes f = refl
broken_off monitor v (Reaches m) comes f = absurd comes
broken_off monitor v Stops comes f = absurd comes

-- steps that nobody sees, and one that is judged
pub ends_by : (p : List Filter) (m on : Moment) (a steps : ℕ) (grant : Bool) (w : World) (events : List Event) (rule : Option Violation)
    (v : Violation) → (steps ≡ 0 → ⊥) → course p m (replicate (steps - 1) (Local a) ++ []) ≡ Reaches on →
    IsJudgedBy p on (Board a grant) w events rule → rule ≡ Some v → EndsBy p m (go_on a steps grant) v
ends_by p m on a steps grant w events rule v some led judged is = record {
  before = replicate (steps - 1) (Local a);
  last = Board a grant;
  are = go_on_more a steps grant some;
  moment = on;
  reached = subst (λ xs. course p m xs ≡ Reaches on) (append-nil (replicate (steps - 1) (Local a))) led;
  step = judged.step;
  is = judged.follows.is;
  broken = sym judged.least ∙ is;
}

-- what is said of each violation that there is
pub of_some : (r : Option Violation) (P : Violation → Type 0) → ((v : Violation) → r ≡ Some v → P v) → IfSome r P
of_some None P f = tt
of_some (Some v) P f = f v refl

-- what holds of a violation holds of it in other words
pub some_in_other_words : (P Q : Violation → Type 0) (r : Option Violation) → ((v : Violation) → P v → Q v) → IfSome r P → IfSome r Q
some_in_other_words P Q None f h = tt
some_in_other_words P Q (Some v) f h = f v h

-- what breaks a rule behind entries of a stack breaks it behind those of its filters
pub breaks_rule : (filters p : List Filter) (entries before : List JournalEntry) (last : JournalEntry)
    (r : Result (Option Violation) AllocError) →
    p ≡ by_altitude filters → entries ≡ before ++ last ∷ [] →
    IfOk r (λ o. IfSome o (λ v. (m : Moment) × (moment_after p (start p) before ≡ Some m) × EndsBy p m (expansion last) v)) →
    IfOk r (λ o. IfSome o (BreaksRule filters entries))
breaks_rule filters p entries before last (Ok (Some v)) same are (m, led, ends) = record {
  before = before;
  last = last;
  are = are;
  moment = m;
  reached = subst (λ q. moment_after q (start q) before ≡ Some m) same led;
  broken = subst (λ q. EndsBy q m (expansion last) v) same ends;
}
breaks_rule filters p entries before last (Ok None) same are is = tt
breaks_rule filters p entries before last (Err e) same are is = tt

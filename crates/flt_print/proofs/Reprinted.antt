-- The canonical text of a well-formed filter spells it, and no other filter.
use Rattle.std.proofs.Common.{◌≡◌, ◌≤◌, [], length, sym, ap, subst, ◌∙◌}
use Rattle.std.specs.Prelude.{IsTrue}
use Rattle.flt_syntax.specs.Grammar.{FileAt}
use Rattle.flt_syntax.specs.Lex.{tokens}
use Rattle.flt_rules.specs.Limits.{max_text, max_altitude, max_locks, max_callbacks}
use Rattle.flt_print.specs.Line.{lines_text}
use Rattle.flt_print.specs.Printing.{filter_lines, canonical_text}
use Rattle.flt_print.specs.Reprinting.{without_places, ParsesAgain, PrintAndParse, PrintsAtMostOne}
use Rattle.flt_syntax.specs.Spelling.{Spells, SpelledIsWellFormed, SpellsAtMostOne}
use Rattle.flt_syntax.specs.Written.{ReadsBackWords}
use Rattle.flt_tree.specs.Declarations.{AreNewLocks}
use Rattle.flt_tree.specs.WellFormed.{IsWellFormed}
use Rattle.flt_tree.specs.declared.filter.Filter.{Filter}
use Rattle.flt_print.proofs.Alike.{AlikeFilter, no_callback}
use Rattle.flt_print.proofs.LaidOut.{laid_out}
use Rattle.flt_print.proofs.SaidFiles.{says_filter}
use Rattle.flt_print.proofs.SameMeaning.{small_callbacks, new_alike, length_alike, served_alike, whole_alike, places_alike}

-- the filter that the canonical text spells by the grammar
Found : Filter → Type 0
Found f = (h : Filter) × FileAt (canonical_text f) (tokens (canonical_text f)) h × AlikeFilter f h

found : ReadsBackWords → (f : Filter) → IsWellFormed f → Found f
unfolding Found canonical_text
found law f w =
    let text = lines_text (filter_lines f) in
    let s = says_filter text f w in
    let l = law text _ s.vs (laid_out (filter_lines f) s.vs s.pieces) in
    s.reads (tokens text) l.rest l.tells l.ends

spells : (f h : Filter) → IsWellFormed f → length (canonical_text f) ≤ max_text →
    FileAt (canonical_text f) (tokens (canonical_text f)) h → AlikeFilter f h →
    Spells (canonical_text f) h
spells f h w short read a =
    record {
      short = short;
      grammar = read;
      low = subst (λ n. 1 ≤ n) a.altitude w.low;
      high = subst (λ n. n ≤ max_altitude) a.altitude w.high;
      few_locks = subst (λ ls. length ls ≤ max_locks) a.locks w.few_locks;
      new_locks = subst (AreNewLocks []) a.locks w.new_locks;
      few_callbacks = subst (λ n. n ≤ max_callbacks) (length_alike a.callbacks) w.few_callbacks;
      new_callbacks = new_alike [] [] f.callbacks h.callbacks no_callback a.callbacks w.new_callbacks;
      small = subst IsTrue (small_callbacks f.callbacks h.callbacks a.callbacks) w.small;
      served = served_alike f.queue h.queue f.callbacks h.callbacks a.queue a.callbacks w.served;
      whole = whole_alike f.callbacks h.callbacks f.callbacks h.callbacks a.callbacks a.callbacks w.whole;
    }

-- where all words read back, the canonical text of a well-formed filter spells it, apart from places
pub parses_again : ReadsBackWords → ParsesAgain
unfolding Found
parses_again law f w short =
    let r = found law f w in
    (r.0, spells f r.0 w short r.1 r.2, sym (places_alike f r.0 r.2))

-- where what is spelled is well-formed, what a text spells is spelled by its canonical text too, apart from places
pub prints_and_parses : SpelledIsWellFormed → ParsesAgain → PrintAndParse
prints_and_parses fine again text f s = again f (fine text f s)

-- where a text spells one filter at most, filters with one canonical text differ in places alone
pub prints_at_most_one : SpellsAtMostOne → ParsesAgain → PrintsAtMostOne
prints_at_most_one only_one again f g v w short e =
    let r = again f v short in
    let s = again g w (subst (λ z. length z ≤ max_text) e short) in
    let h : r.0 ≡ s.0 = only_one (canonical_text f) r.0 s.0 r.1 (subst (λ z. Spells z s.0) (sym e) s.1) in
    sym r.2 ∙ ap without_places h ∙ s.2

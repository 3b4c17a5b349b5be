-- What went out of what is asked for.
use Rattle.std.proofs.Common.{◌≡◌, ◌∙◌, ℕ, Bool, true, false, List, [], ◌∷◌, ◌++◌, Option, Some, None}
use Rattle.std.proofs.Common.{ap, arith, drop, length, refl, sym, take, take-append-drop}
use Rattle.std.proofs.lemmas.List.{length-append}
use Rattle.std.proofs.Math.Path.{subst}
use Rattle.std.proofs.KnownBytes.{Appends-nil, Appends-trans}
use Rattle.std.specs.Io.KnownBytes.{Appends}
use Rattle.flt_commands.specs.Commands.{AllIsShown, HoldsBack, IsLetOut, gives_bytes, out_of}
use Rattle.flt_commands.specs.Commands.{IsCutShort as IsCutShortFor}
use Rattle.flt_commands.specs.declared.report.Report.{Report}
use Rattle.flt_commands_explain.proofs.Sent.{cut_short}
use Rattle.flt_commands_explain.specs.Allowed.{options_of}
use Rattle.flt_commands_explain.specs.Explain.{search_of}
use Rattle.flt_door.proofs.Lines.{at_door_length, first_out}
use Rattle.flt_door.specs.Door.{AreShown, at_door}
use Rattle.flt_door.specs.Lines.{Shows}
use Rattle.flt_files.specs.Inputs.{Giving, Text}
use Rattle.flt_words.specs.Request.{Asked, Check, Analyse, Thin, Run, Replay, Show, Explain}
use Rattle.flt_words.specs.declared.request.FormatMode.TheVariants.{Print}
use Rattle.flt_words.specs.Request.{Extract, Format, Pages, Emit, EmitInto, Compare, Functions, Serve}

-- where the user's bytes are asked for, nothing goes out before the end
gives_at_end : (request : Option Asked) → gives_bytes request ≡ true → HoldsBack request
gives_at_end (Some (Extract of_map files)) gives = tt
gives_at_end (Some (Format Print files)) gives = tt
gives_at_end (Some (Emit part file cert)) gives = tt
gives_at_end (Some (Explain form colour search journal warnings is_c files)) gives = absurd (cc gives)
gives_at_end _ gives = absurd (cc gives)

nothing_first : (bytes : Text) (sent : ℕ) → length (at_door (take sent bytes)) ≡ 0 → drop sent bytes ≡ bytes
nothing_first bytes sent none =
    ap (λ z. z ++ drop sent bytes) (sym (length_zero (take sent bytes) (sym (at_door_length (take sent bytes)) ∙ none)))
    ∙ take-append-drop sent bytes
  where
    length_zero : (z : Text) → length z ≡ 0 → z ≡ []
    length_zero [] few = refl
    length_zero (b ∷ z) few = absurd (omega (arith, few))

no_bytes_more : (xs z : Text) → xs ≡ xs ++ z → length z ≡ 0
no_bytes_more xs z same = omega (arith, ap length same, length-append xs z)

-- bytes of the user go out whole at the end
whole_sent : (old between new : Option Text) (sent : ℕ) (bytes : Text) → between ≡ old → Shows old between (take sent bytes) →
    Appends between new (drop sent bytes) → Appends old new bytes
whole_sent None between new sent bytes same first rest = tt
whole_sent (Some xs) between new sent bytes same first rest =
    let added : Appends (Some xs) (Some xs) (at_door (take sent bytes)) = rw same at first.out in
    subst (Appends (Some xs) new) (nothing_first bytes sent (no_bytes_more xs (at_door (take sent bytes)) added))
    (rw same at rest)

-- other bytes go out at the door: first lines before the end, and then the rest
shown_sent : (old between new : Option Text) (sent : ℕ) (bytes : Text) → Shows old between (take sent bytes) →
    Appends between new (drop sent (at_door bytes)) → Appends old new (at_door bytes)
shown_sent old between new sent bytes first rest =
    subst (Appends old new)
    (ap (λ z. z ++ drop sent (at_door bytes)) (first_out bytes sent first.lines) ∙ take-append-drop sent (at_door bytes))
    (Appends-trans old between new (at_door (take sent bytes)) (drop sent (at_door bytes)) first.out rest)

sent_by : (gives : Bool) (old between new : Option Text) (sent : ℕ) (bytes : Text) → (gives ≡ true → between ≡ old) →
    Shows old between (take sent bytes) → Appends between new (drop sent (out_of gives bytes)) → Appends old new (out_of gives bytes)
sent_by true old between new sent bytes held first rest = whole_sent old between new sent bytes (held refl) first rest
sent_by false old between new sent bytes held first rest = shown_sent old between new sent bytes first rest

-- what went out before the end, and the rest, are all that goes out
pub rest_sent : {O : Type 0} (taken : O → Option Text) (old between new : O) (request : Option Asked) (own report : Report) →
    (HoldsBack request → between ≡ old) → Shows (taken old) (taken between) (take own.sent own.output.items) →
    IsLetOut (gives_bytes request) own report → report.sent ≡ own.sent →
    Appends (taken between) (taken new) (drop report.sent report.output.items) → Appends (taken old) (taken new) report.output.items
rest_sent taken old between new request own report held first out sent rest =
    rw out.output
    (sent_by (gives_bytes request) (taken old) (taken between) (taken new) own.sent own.output.items
    (λ gives. ap taken (held (gives_at_end request gives))) first (rw (sent, out.output) at rest))

-- all that goes out is shown
pub all_shown_of : ((z : Text) → AreShown (at_door z)) → (request : Option Asked) (own report : Report) →
    IsLetOut (gives_bytes request) own report → AllIsShown request report
all_shown_of law request own report is = record {
  output = λ none. subst AreShown (sym (is.output ∙ ap (λ b. out_of b own.output.items) none)) (law own.output.items);
  remark = subst AreShown (sym is.remark) (law own.remark.items);
}

-- nothing is remarked where there was nothing
pub quiet_out : (gives : Bool) (own report : Report) → IsLetOut gives own report → own.remark.items ≡ [] → report.remark.items ≡ []
quiet_out gives own report is none = is.remark ∙ ap at_door none

-- where nothing went out, nothing is cut short, whatever is asked for
pub cut_short_for : (gives : Giving) (request : Option Asked) (old : Option Text) → IsCutShortFor gives request old old
cut_short_for gives None old = Appends-nil old
cut_short_for gives (Some (Check file cert)) old = Appends-nil old
cut_short_for gives (Some (Analyse file)) old = Appends-nil old
cut_short_for gives (Some (Thin file cert)) old = Appends-nil old
cut_short_for gives (Some (Run workers quiet script files)) old = Appends-nil old
cut_short_for gives (Some (Replay journal files)) old = Appends-nil old
cut_short_for gives (Some (Show timeline picture journal files)) old = Appends-nil old
cut_short_for gives (Some (Explain form colour search journal warnings is_c files)) old =
    cut_short gives is_c form (options_of warnings) (search_of search) warnings.allowed files old
cut_short_for gives (Some (Extract of_map files)) old = Appends-nil old
cut_short_for gives (Some (Format mode files)) old = Appends-nil old
cut_short_for gives (Some (Pages names)) old = Appends-nil old
cut_short_for gives (Some (Emit part file cert)) old = Appends-nil old
cut_short_for gives (Some (EmitInto folder is_forced file cert)) old = Appends-nil old
cut_short_for gives (Some (Compare files)) old = Appends-nil old
cut_short_for gives (Some (Functions defined undefined folders files)) old = Appends-nil old
cut_short_for gives (Some Serve) old = Appends-nil old

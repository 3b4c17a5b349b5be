-- Where each return is one of its place, a filter is read back apart from its places.
use Rattle.std.proofs.Common.{◌≡◌, ℕ, Bool, true, List, [], ◌∷◌, map, refl, sym, ap, ◌∙◌}
use Rattle.std.proofs.lemmas.Bool.{false≢true, and_parts}
use Rattle.std.specs.Prelude.{Option, Some, None, option_map}
use Rattle.std.specs.List.{list_all}
use Rattle.flt_rules.specs.declared.place.Place.{Place}
use Rattle.flt_rules.specs.declared.place.Place.TheVariants as place
use Rattle.flt_tree.specs.Filter.{head_place, no_span}
use Rattle.flt_tree.specs.WellFormed as w
use Rattle.flt_tree.specs.WellFormed.{IsStatement, IsElse, IsBlock, AreStatements, AreCallbacks}
use Rattle.flt_tree.specs.declared.filter.Callback.{Callback}
use Rattle.flt_tree.specs.declared.filter.Lock.{Lock}
use Rattle.flt_tree.specs.declared.filter.Position.{Position}
use Rattle.flt_tree.specs.declared.filter.Statement.{Statement}
use Rattle.flt_tree.specs.declared.filter.Statement.TheOpen.{Statement-F}
use Rattle.flt_tree.specs.declared.filter.Statement.TheVariants.{Act, Call, Return, If, Repeat, rolls-Act, rolls-Call}
use Rattle.flt_tree.specs.declared.filter.Statement.TheVariants.{rolls-Return, rolls-If, rolls-Repeat}
use Rattle.flt_tree.specs.declared.filter.Status.{Status}
use Rattle.flt_print.specs.Reprinting.{nowhere, condition_without, step_without, statement_without, callback_without}
use Rattle.flt_emit_read.specs.AsRead.{returned, fits_return, fits_step, statement_fits, callback_fits}
use Rattle.flt_emit_read.specs.AsRead.{step_as_read, statement_as_read, callback_as_read}
use Rattle.flt_emit_read.specs.Laws.{ReadsBack, ReadsBackWhole, SaysOneFilter}
use Rattle.flt_emit_read.specs.Sources.{read_back}
use Rattle.flt_emit_read.proofs.Nested.{folded}

same_return : (at : Place) (s : Option Status) → fits_return at s ≡ true → returned at s ≡ s
same_return (place.Pre op) None h = absurd (false≢true h)
same_return (place.Pre op) (Some s) h = refl
same_return (place.Post op) None h = absurd (false≢true h)
same_return (place.Post op) (Some s) h = refl
same_return place.Canceled None h = refl
same_return place.Canceled (Some s) h = absurd (false≢true h)
same_return place.DeferredPre None h = refl
same_return place.DeferredPre (Some s) h = absurd (false≢true h)
same_return place.DeferredPost None h = refl
same_return place.DeferredPost (Some s) h = absurd (false≢true h)
same_return place.Generic None h = refl
same_return place.Generic (Some s) h = absurd (false≢true h)

module _ (locks : List Lock) (queue : Bool) (at : Place) where
  abbrev pub all_fit : List Statement → Bool
  all_fit ss = list_all (λ b. b) (map (statement_fits at) ss)

  mutual
    same_statement : {d r : ℕ} {s : Statement} → IsStatement locks queue d r s → statement_fits at s ≡ true →
        statement_as_read at s ≡ statement_without s
    same_statement (w.act {at = span} {a = a} ok) h =
        folded Statement (step_as_read at) (Act span a) (Statement-F.Act span a) (rolls-Act span a)
        ∙ sym (folded Statement step_without (Act span a) (Statement-F.Act span a) (rolls-Act span a))
    same_statement (w.call {at = span} {c = c} ok) h =
        folded Statement (step_as_read at) (Call span c) (Statement-F.Call span c) (rolls-Call span c)
        ∙ sym (folded Statement step_without (Call span c) (Statement-F.Call span c) (rolls-Call span c))
    same_statement (w.return {at = span} {s = s}) h =
        folded Statement (step_as_read at) (Return span s) (Statement-F.Return span s) (rolls-Return span s)
        ∙ ap (λ t. Return no_span t) (same_return at s
        (sym (folded Bool (fits_step at) (Return span s) (Statement-F.Return span s) (rolls-Return span s)) ∙ h))
        ∙ sym (folded Statement step_without (Return span s) (Statement-F.Return span s) (rolls-Return span s))
    same_statement (w.choice {at = span} {c = c} {granted = g} {refused = e} ok gs es) h =
        let both = and_parts (all_fit g) (all_fit e)
        (sym (folded Bool (fits_step at) (If span c g e) (Statement-F.If span c g e) (rolls-If span c g e)) ∙ h) in
        folded Statement (step_as_read at) (If span c g e) (Statement-F.If span c g e) (rolls-If span c g e)
        ∙ ap (λ l. If no_span (condition_without c) l (map (statement_as_read at) e)) (same_block gs both.0)
        ∙ ap (λ l. If no_span (condition_without c) (map statement_without g) l) (same_else es both.1)
        ∙ sym (folded Statement step_without (If span c g e) (Statement-F.If span c g e) (rolls-If span c g e))
    same_statement (w.repeat {at = span} {n = n} {body = b} few bs) h =
        folded Statement (step_as_read at) (Repeat span n b) (Statement-F.Repeat span n b) (rolls-Repeat span n b)
        ∙ ap (λ l. Repeat no_span n l) (same_block bs
        (sym (folded Bool (fits_step at) (Repeat span n b) (Statement-F.Repeat span n b) (rolls-Repeat span n b)) ∙ h))
        ∙ sym (folded Statement step_without (Repeat span n b) (Statement-F.Repeat span n b) (rolls-Repeat span n b))

    same_else : {d r : ℕ} {ss : List Statement} → IsElse locks queue d r ss → all_fit ss ≡ true →
        map (statement_as_read at) ss ≡ map statement_without ss
    same_else w.no_else h = refl
    same_else (w.some_else b) h = same_block b h

    same_block : {d r : ℕ} {ss : List Statement} → IsBlock locks queue d r ss → all_fit ss ≡ true →
        map (statement_as_read at) ss ≡ map statement_without ss
    same_block (w.block ss) h = same_statements ss h

    same_statements : {d r : ℕ} {ss : List Statement} → AreStatements locks queue d r ss → all_fit ss ≡ true →
        map (statement_as_read at) ss ≡ map statement_without ss
    same_statements w.empty h = refl
    same_statements (w.go_on {s = s} {ss = ss} one more) h =
        let both = and_parts (statement_fits at s) (all_fit ss) h in
        ap (λ x. x ∷ map (statement_as_read at) ss) (same_statement one both.0)
        ∙ ap (λ l. statement_without s ∷ l) (same_statements more both.1)

same_callbacks : (locks : List Lock) (queue : Bool) (cs : List Callback) → AreCallbacks locks queue cs → list_all callback_fits cs ≡ true →
    map callback_as_read cs ≡ map callback_without cs
same_callbacks locks queue [] ok h = refl
same_callbacks locks queue (c ∷ cs) ok h =
    let both = and_parts (callback_fits c) (list_all callback_fits cs) h in
    ap (λ (b : List Statement). record { head = c.head; position = nowhere; span = no_span; body = b; end = no_span }
    ∷ map callback_as_read cs) (same_statements locks queue (head_place c.head) ok.1 both.0)
    ∙ ap (λ l. callback_without c ∷ l) (same_callbacks locks queue cs ok.2 both.1)

-- where a filter is read back, it is read back apart from its places
pub reads_back_whole : ReadsBack → ReadsBackWhole
reads_back_whole law instances f ok h =
    law instances f ok
    ∙ ap (λ (cs : List Callback). Some (record {
      name = f.name;
      altitude = f.altitude;
      locks = f.locks;
      queue = option_map (λ (at : Position). nowhere) f.queue;
      callbacks = cs;
    })) (same_callbacks f.locks _ f.callbacks ok.bodies h)

-- where filters are read back, a source says one filter at most
pub says_one_filter : ReadsBack → SaysOneFilter
says_one_filter law here there f g ok also same =
    some_inside (sym (law here f ok) ∙ ap read_back same ∙ law there g also)
  where
    some_inside : {A : Type 0} {x y : A} → Some x ≡ Some y → x ≡ y
    some_inside h = cc

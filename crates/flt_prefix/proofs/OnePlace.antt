-- Both halves of the law at one place of the text: a fault E03 stands at a token, since the end of a text is never passed.
use Rattle.std.proofs.Common.{◌≡◌, inl, inr, ℕ, zero, suc, ◌+◌, ◌-◌, Bool, true, false}
use Rattle.std.proofs.Common.{not, [], ◌∷◌, ◌++◌, refl, sym, ap, subst, ◌∙◌, arith}
use Rattle.std.specs.Prelude.{if◌then◌else◌, ◌==◌}
use Rattle.flt_syntax.specs.Cursor.{Input, front, next, fault, fault_at}
use Rattle.flt_syntax.specs.Lex.{past, is_blank, is_fault, token, tokens_from, tokens}
use Rattle.flt_syntax.specs.FileFails.{FileFails}
use Rattle.flt_syntax.specs.TextFails.{ReadFailsNowhere}
use Rattle.flt_syntax.specs.declared.fault.FaultKind.TheVariants.{E03}
use Rattle.flt_syntax.specs.declared.fault.SyntaxFault.{SyntaxFault}
use Rattle.flt_syntax.specs.declared.token.Kind.{Kind}
use Rattle.flt_syntax.specs.declared.token.Kind.TheVariants as k
use Rattle.flt_syntax.specs.declared.token.Token.{Token}
use Rattle.flt_tree.specs.Names.{Text}
use Rattle.flt_tree.specs.declared.filter.Position.{Position}
use Rattle.flt_prefix.specs.Prefix.{is_of_token, AsksNoLock, AnyFileAt, Cuts, ViablePrefix}
use Rattle.flt_prefix.specs.Shown.{IsBefore, place}
use Rattle.flt_prefix.proofs.Ascending.{AllBehind, Ascend, ascends}
use Rattle.flt_prefix.proofs.Detached.{passable, AllPassed}
use Rattle.flt_prefix.proofs.Stuck.{Stuck}
use Rattle.flt_prefix.proofs.StuckFiles.{file_stuck}
use Rattle.flt_prefix.proofs.Finishes.{Finishes, a_token}
use Rattle.flt_prefix.proofs.FinishesFiles.{FileTo, file_fin}
use Rattle.flt_prefix.proofs.Prefixes.{met, three_four}

differ : false ≡ true → ⊥
differ e = cc

-- ---- the end of a text is never passed

no_end : AllPassed (a_token k.End ∷ []) → ⊥
no_end h = differ h.0

either_way : (i j : Input) (b : Bool) → (AllPassed i → ⊥) → (AllPassed j → ⊥) → AllPassed (if b then i else j) → ⊥
either_way i j true g h p = g p
either_way i j false g h p = h p

no_fault : (a : Kind) → is_fault a ≡ true → passable a ≡ true → ⊥
no_fault k.Stray e h = differ h
no_fault k.Malformed e h = differ h
no_fault _ e h = differ e

by_fault : (a : Kind) (i : Input) (b : Bool) → is_fault a ≡ b → passable a ≡ true → (AllPassed i → ⊥) → AllPassed (if b then [] else i) → ⊥
by_fault a i true e h g p = no_fault a e h
by_fault a i false e h g p = g p

not_all : (left : ℕ) (comment : Bool) (last : ℕ) (at : Position) (offset : ℕ) (z : Text) →
    AllPassed (tokens_from left comment last at offset z) → ⊥
not_all left comment last at offset [] h = differ h.0
not_all (suc left) comment last at offset (b ∷ z) h = not_all left comment b (past last at) (offset + 1) z h
not_all zero true last at offset (b ∷ z) h = not_all zero (not (b == 10)) b (past last at) (offset + 1) z h
not_all zero false last at offset (b ∷ z) h =
    either_way _ _ (b == 35) (not_all zero true b (past last at) (offset + 1) z)
    (either_way _ _ (is_blank b) (not_all zero false b (past last at) (offset + 1) z)
    (λ p.
    let t = token (b ∷ z) in
    by_fault t.0.kind _ (is_fault t.0.kind) refl p.0 (not_all (t.1 - 1) false b (past last at) (offset + 1) z) p.1)) h

not_whole : (text : Text) → AllPassed (tokens text) → ⊥
unfolding tokens
not_whole text h = not_all zero false 0 (record { line = 1; column = 0 }) 0 text h

-- the fault is at the first of what is left, which is there
record AtToken (i : Input) (f : SyntaxFault) (before rest : Input) : Type 0 where
  token : Token
  more : Input
  parts : i ≡ before ++ token ∷ more
  first : front rest ≡ token
  place : f ≡ fault E03 token.position

nothing : (i : Input) → i ++ [] ≡ i
nothing [] = refl
nothing (t ∷ i) = ap (λ j. t ∷ j) (nothing i)

at_token : (text : Text) (f : SyntaxFault) (before rest : Input) → tokens text ≡ before ++ rest → AllPassed before → f ≡ fault_at E03 rest →
    AtToken (tokens text) f before rest
at_token text f before [] e h p = elim (not_whole text (subst AllPassed (sym (e ∙ nothing before)) h)) [ ]
at_token text f before (t ∷ rest) e h p = record { token = t; more = rest; parts = e; first = refl; place = p }

-- ---- a place is that of one token

not_itself : (a b : Position) → IsBefore a b → a ≡ b → ⊥
not_itself a b (inl h) e = let l = ap (λ (p : Position). p.line) e in absurd (omega (arith, h, l))
not_itself a b (inr h) e = let l = ap (λ (p : Position). p.column) e in let x = h.1 in absurd (omega (arith, x, l))

in_tail : (at : Position) (before : Input) (t : Token) (rest : Input) → AllBehind at (before ++ t ∷ rest) → IsBefore at t.position
in_tail at [] t rest h = h.0
in_tail at (u ∷ before) t rest h = in_tail at before t rest h.1

same_split : (a b : Input) (t u : Token) (r s : Input) → Ascend (a ++ t ∷ r) → a ++ t ∷ r ≡ b ++ u ∷ s → t.position ≡ u.position → a ≡ b
same_split [] [] t u r s h e at = refl
same_split [] (v ∷ b) t u r s h e at =
    elim (not_itself t.position u.position
    (in_tail t.position b u s (subst (AllBehind t.position) (ap next e) h.0)) at) [ ]
same_split (v ∷ a) [] t u r s h e at =
    elim (not_itself v.position t.position (in_tail v.position a t r h.0)
    (ap (λ (x : Token). x.position) (ap front e) ∙ sym at)) [ ]
same_split (v ∷ a) (w ∷ b) t u r s h e at =
    ap (λ x. x ∷ a) (ap front e) ∙ ap (λ x. w ∷ x) (same_split a b t u r s h.1 (ap next e) at)

same_place : (t u : Token) → fault E03 t.position ≡ fault E03 u.position → t.position ≡ u.position
same_place t u e = ap place e

-- what stands before the fault is the same
one_before : (text : Text) (f : SyntaxFault) (a b r s : Input) → AtToken (tokens text) f a r → AtToken (tokens text) f b s → a ≡ b
one_before text f a b r s x y =
    same_split a b x.token y.token x.more y.more (subst Ascend x.parts (ascends text)) (sym x.parts ∙ y.parts)
    (same_place x.token y.token (sym x.place ∙ y.place))

-- ---- the law

begun : (text : Text) (f : SyntaxFault) (before rest : Input) → AtToken (tokens text) f before rest →
    Finishes (FileTo text) (tokens text) f → (finish : Input) × AnyFileAt text (before ++ finish)
begun text f before rest x w =
    let same = one_before text f w.before before w.rest rest (at_token text f w.before w.rest w.parts w.passed w.place) x in
    let ended = a_token k.End ∷ [] in
    (w.finish ++ ended, subst (λ b. AnyFileAt text (b ++ (w.finish ++ ended))) same ((w.spells ended).1 refl))

cut_at : ReadFailsNowhere → (text : Text) (f : SyntaxFault) (v : Stuck (FileFails text) (tokens text) f) →
    AtToken (tokens text) f v.before v.rest → (AsksNoLock (tokens text) f → Finishes (FileTo text) (tokens text) f) →
    Cuts text (tokens text) f
cut_at law text f v x w = record {
  before = v.before;
  token = x.token;
  rest = x.more;
  parts = x.parts;
  place = x.place;
  none = λ z filter r. law text (v.before ++ x.token ∷ z) filter f r (v.again (x.token ∷ z) (sym x.first));
  begins = λ g. begun text f v.before v.rest x (w g);
}

cut_by : ReadFailsNowhere → (text : Text) (f : SyntaxFault) → f.kind ≡ E03 → Stuck (FileFails text) (tokens text) f →
    (AsksNoLock (tokens text) f → Finishes (FileTo text) (tokens text) f) → Cuts text (tokens text) f
cut_by law text f e v w =
    cut_at law text f v (at_token text f v.before v.rest v.parts v.passed (v.place ∙ ap (λ k. fault_at k v.rest) e)) w

-- the law
pub viable_prefix : ReadFailsNowhere → ViablePrefix
viable_prefix law text f h e =
    let m = met h (ap is_of_token e) (λ x. three_four (sym e ∙ x)) in
    cut_by law text f e (file_stuck m (ap is_of_token e)) (λ g. file_fin g m e)

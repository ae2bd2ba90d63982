-- What the candidates of phis and instructions are.
use Rattle.std.proofs.Common.{◌≡◌, ℕ, Bool, true, false, ◌&&◌, ◌||◌, ◌==◌, if◌then◌else◌, List, [], ◌∷◌, ◌++◌, Option, Some, None, ◌⊎◌, inl, inr, refl, sym, ap, ◌∙◌, subst}
use Rattle.std.specs.Prelude.{not}
use Rattle.std.proofs.lemmas.Bool.{and_parts, or_cases, eqb-true}
use Rattle.ir_tree.specs.declared.instr.Incoming.{Incoming}
use Rattle.ir_tree.specs.declared.instr.Phi.{Phi}
use Rattle.ir_tree.specs.declared.operand.Operand.{Operand}
use Rattle.ir_tree.specs.declared.operand.Operand.TheVariants.{Local, Null, Number as Constant, Poison as PoisonOf, Symbol as Named}
use Rattle.ir_tree.specs.declared.operand.Reg.{Reg}
use Rattle.ir_tree.specs.declared.operand.Reg.TheVariants.{Int, Ptr}
use Rattle.ir_tree.specs.declared.operand.Symbol.{Symbol}
use Rattle.ir_meaning.specs.Execute.{reg_eq}
use Rattle.ir_tree.specs.Symbols.{symbol_eq}
use Rattle.ir_meaning.specs.Table.{rule, same}
use Rattle.ir_meaning.specs.Facts.{Facts, is_local, is_phi, is_phi_operand, edge_operand}
use Rattle.ir_tree.proofs.Symbols.{symbol_true}
use Rattle.ir_meaning.proofs.Rules.Tabled.{table_right}
use Rattle.ir_facts.specs.Candidates.{first_other, other_than, paired, phi_source, sole_beside, sole_source, source_beside, takes_only}
use Rattle.fact_sources.specs.Membership.{is_member}
use Rattle.ir_facts.specs.SourceLaws.{IsLineSource, IsPhiSource, LineSourcesRight, PhiSourcesRight}

-- ---- operands that are one

reg_true : (r s : Reg) → reg_eq r s ≡ true → r ≡ s
reg_true (Int v) (Int w) e = ap (λ (n : ℕ). Int n) (eqb-true v w e)
reg_true (Int v) Ptr e = absurd (cc e)
reg_true Ptr (Int w) e = absurd (cc e)
reg_true Ptr Ptr e = refl

pub same_true : (a b : Operand) → same a b ≡ true → a ≡ b
same_true (Local x) (Local y) e = ap (λ (n : ℕ). Local n) (eqb-true x y e)
same_true (Constant v a) (Constant w b) e =
    let parts = and_parts (v == w) (a == b) e in
    ap (λ (n : ℕ). Constant n a) (eqb-true v w parts.0) ∙ ap (λ (n : ℕ). Constant w n) (eqb-true a b parts.1)
same_true Null Null e = refl
same_true (PoisonOf r) (PoisonOf s) e = ap (λ (t : Reg). PoisonOf t) (reg_true r s e)
same_true (Named s i) (Named t j) e =
    let parts = and_parts (symbol_eq s t) (i == j) e in
    ap (λ (x : Symbol). Named x i) (symbol_true s t parts.0) ∙ ap (λ (n : ℕ). Named t n) (eqb-true i j parts.1)
same_true (Local x) (Constant w b) e = absurd (cc e)
same_true (Local x) Null e = absurd (cc e)
same_true (Local x) (PoisonOf reg) e = absurd (cc e)
same_true (Local x) (Named t j) e = absurd (cc e)
same_true (Constant v a) (Local y) e = absurd (cc e)
same_true (Constant v a) Null e = absurd (cc e)
same_true (Constant v a) (PoisonOf reg) e = absurd (cc e)
same_true (Constant v a) (Named t j) e = absurd (cc e)
same_true Null (Local y) e = absurd (cc e)
same_true Null (Constant w b) e = absurd (cc e)
same_true Null (PoisonOf reg) e = absurd (cc e)
same_true Null (Named t j) e = absurd (cc e)
same_true (Named s i) (Local y) e = absurd (cc e)
same_true (Named s i) (Constant w b) e = absurd (cc e)
same_true (Named s i) Null e = absurd (cc e)
same_true (Named s i) (PoisonOf reg) e = absurd (cc e)
same_true (PoisonOf reg) (Local y) e = absurd (cc e)
same_true (PoisonOf reg) (Constant w b) e = absurd (cc e)
same_true (PoisonOf reg) Null e = absurd (cc e)
same_true (PoisonOf reg) (Named t j) e = absurd (cc e)

pub own_local : (x : ℕ) (o : Operand) → is_local x o ≡ true → o ≡ Local x
own_local x (Local y) e = ap (λ (n : ℕ). Local n) (eqb-true y x e)
own_local x (Constant w b) e = absurd (cc e)
own_local x Null e = absurd (cc e)
own_local x (PoisonOf reg) e = absurd (cc e)
own_local x (Named s i) e = absurd (cc e)

-- ---- phis

pub another : (x : ℕ) (es : List Incoming) (v : Operand) → first_other x es ≡ Some v → is_local x v ≡ false
another x [] v e = absurd (cc e)
another x (d ∷ es) v e = by (is_local x d.value) refl e (λ e'. another x es v e')
  where
    by : (b : Bool) → is_local x d.value ≡ b → (if b then first_other x es else Some d.value) ≡ Some v → (first_other x es ≡ Some v → is_local x v ≡ false) →
        is_local x v ≡ false
    by true q e' later = later e'
    by false q e' later =
        let is : d.value ≡ v = cc e' in
        subst (λ (o : Operand). is_local x o ≡ false) is q

each_entry : (x : ℕ) (v : Operand) (es : List Incoming) → takes_only x v es ≡ true → (from : ℕ) (o : Operand) → edge_operand from es ≡ Some o → (o ≡ v) ⊎ (o ≡ Local x)
each_entry x v [] h from o e = absurd (cc e)
each_entry x v (d ∷ es) h from o e = by (d.from == from) e (λ h' e'. each_entry x v es h' from o e')
  where
    parts : ((is_local x d.value || same v d.value) ≡ true) × (takes_only x v es ≡ true)
    parts = and_parts (is_local x d.value || same v d.value) (takes_only x v es) h

    here : (is_local x d.value ≡ true) ⊎ (same v d.value ≡ true) → d.value ≡ o → (o ≡ v) ⊎ (o ≡ Local x)
    here (inl t) is = inr (sym is ∙ own_local x d.value t)
    here (inr t) is = inl (sym is ∙ sym (same_true v d.value t))

    by : (b : Bool) → (if b then Some d.value else edge_operand from es) ≡ Some o →
        (takes_only x v es ≡ true → edge_operand from es ≡ Some o → (o ≡ v) ⊎ (o ≡ Local x)) → (o ≡ v) ⊎ (o ≡ Local x)
    by true e' later = here (or_cases (is_local x d.value) (same v d.value) parts.0) (cc e')
    by false e' later = later parts.1 e'

pub not_true : (b : Bool) → not b ≡ true → b ≡ false
not_true false e = refl
not_true true e = absurd (cc e)

pub phi_sources_right : PhiSourcesRight
phi_sources_right ps p v e = by (first_other p.local p.incoming) refl e
  where
    chosen : (u : Operand) (b : Bool) → (takes_only p.local u p.incoming && not (is_phi_operand u ps)) ≡ b → first_other p.local p.incoming ≡ Some u →
        (if b then Some u else None) ≡ Some v → IsPhiSource ps p v
    chosen u true q first e' =
        let parts = and_parts (takes_only p.local u p.incoming) (not (is_phi_operand u ps)) q in
        let is : u ≡ v = cc e' in
        subst (λ (o : Operand). IsPhiSource ps p o) is (record {
          other = another p.local p.incoming u first;
          outside = not_true (is_phi_operand u ps) parts.1;
          entries = each_entry p.local u p.incoming parts.0;
        })
    chosen u false q first e' = absurd (cc e')

    by : (o : Option Operand) → first_other p.local p.incoming ≡ o → sole_source ps p.local p.incoming o ≡ Some v → IsPhiSource ps p v
    by None q e' = absurd (cc e')
    by (Some u) q e' = chosen u (takes_only p.local u p.incoming && not (is_phi_operand u ps)) refl q e'

-- by the set of the block's phis
member_is : (among : ℕ → Bool) (ps : List Phi) → ((x : ℕ) → among x ≡ is_phi x ps) → (o : Operand) → is_member among o ≡ is_phi_operand o ps
member_is among ps h (Local x) = h x
member_is among ps h (Constant w b) = refl
member_is among ps h Null = refl
member_is among ps h (PoisonOf reg) = refl
member_is among ps h (Named s i) = refl

sole_is : (among : ℕ → Bool) (ps : List Phi) → ((x : ℕ) → among x ≡ is_phi x ps) → (x : ℕ) (es : List Incoming) (o : Option Operand) → sole_beside among x es o ≡ sole_source ps x es o
sole_is among ps h x es None = refl
sole_is among ps h x es (Some v) = ap (λ (b : Bool). if takes_only x v es && not b then Some v else None) (member_is among ps h v)

source_is : (among : ℕ → Bool) (ps : List Phi) → ((x : ℕ) → among x ≡ is_phi x ps) → (p : Phi) → source_beside among p ≡ phi_source ps p
source_is among ps h p = sole_is among ps h p.local p.incoming (first_other p.local p.incoming)

pub of_block : (among : ℕ → Bool) (ps : List Phi) → ((x : ℕ) → among x ≡ is_phi x ps) → (p : Phi) (old new : Facts) → new ≡ old ++ paired p.local (source_beside among p)
    → new ≡ old ++ paired p.local (phi_source ps p)
of_block among ps h p old new e = e ∙ ap (λ (o : Option Operand). old ++ paired p.local o) (source_is among ps h p)

-- ---- instructions

pub line_sources_right : LineSourcesRight
line_sources_right x i v e = by (rule i) refl e
  where
    chosen : (u : Operand) (b : Bool) → is_local x u ≡ b → rule i ≡ Some u → (if b then None else Some u) ≡ Some v → IsLineSource x i v
    chosen u true q row e' = absurd (cc e')
    chosen u false q row e' =
        let right = table_right i u row in
        let is : u ≡ v = cc e' in
        subst (λ (o : Operand). IsLineSource x i o) is (record { other = q; sometimes = right.0; always = right.1 })

    by : (o : Option Operand) → rule i ≡ o → other_than x o ≡ Some v → IsLineSource x i v
    by None q e' = absurd (cc e')
    by (Some u) q e' = chosen u (is_local x u) refl q e'

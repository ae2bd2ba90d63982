-- A phi's candidate is the one operand that it takes beside its own value.
use Rattle.std.proofs.Common.{◌≡◌, ℕ, zero, suc, Bool, true, false, ◌&&◌, ◌||◌, ◌==◌, if◌then◌else◌, List, [], ◌∷◌, map, Option, Some, None, ◌⊎◌, inl, inr, refl, sym, ap, ◌∙◌, subst, arith}
use Rattle.std.specs.Prelude.{not, All, Contains}
use Rattle.std.proofs.lemmas.Bool.{and_parts, eq-eqb, or_cases}
use Rattle.std.proofs.lemmas.List.Elements.{All-cons, All-head, All-nil, All-tail, Contains-append_cases, Contains-append_right}
use Rattle.ir_tree.specs.declared.instr.Incoming.{Incoming}
use Rattle.ir_tree.specs.declared.instr.Phi.{Phi}
use Rattle.ir_tree.specs.declared.operand.Operand.{Operand}
use Rattle.ir_tree.specs.declared.operand.Operand.TheVariants.{Local, Null, Number as Constant, Poison as PoisonOf, Symbol as Named}
use Rattle.ir_tree.specs.declared.operand.Reg.{Reg}
use Rattle.ir_tree.specs.declared.operand.Reg.TheVariants.{Int, Ptr}
use Rattle.ir_meaning.specs.Execute.{reg_eq}
use Rattle.ir_tree.specs.Symbols.{symbol_eq}
use Rattle.ir_meaning.specs.Table.{same}
use Rattle.ir_meaning.specs.Facts.{is_local, is_phi_operand}
use Rattle.ir_tree.proofs.Symbols.{symbol_same}
use Rattle.ir_facts.specs.Candidates.{first_other, phi_source, sole_source, takes_only}
use Rattle.ir_facts.specs.SourceLaws.{IsSoleOperand, PhiSourcesAreSole}
use Rattle.ir_facts.proofs.Standing.{another, not_true, own_local, same_true}

abbrev operands : List Incoming → List Operand
operands es = map (λ e. e.value) es

-- this operand or the local itself
abbrev IsEither : ℕ → Operand → Operand → Type 0
IsEither x v o = (o ≡ v) ⊎ (o ≡ Local x)

reg_same : (r : Reg) → reg_eq r r ≡ true
reg_same (Int w) = eq-eqb w w refl
reg_same Ptr = refl

both_true : (a b : Bool) → a ≡ true → b ≡ true → (a && b) ≡ true
both_true true b e f = f
both_true false b e f = absurd (cc e)

one_true : (a b : Bool) → (a ≡ true) ⊎ (b ≡ true) → (a || b) ≡ true
one_true true b h = refl
one_true false b (inl e) = absurd (cc e)
one_true false b (inr e) = e

same_self : (o : Operand) → same o o ≡ true
same_self (Local x) = eq-eqb x x refl
same_self (Constant w b) = both_true (w == w) (b == b) (eq-eqb w w refl) (eq-eqb b b refl)
same_self Null = refl
same_self (PoisonOf reg) = reg_same reg
same_self (Named s i) = both_true (symbol_eq s s) (i == i) (symbol_same s s refl) (eq-eqb i i refl)

is_own : (x : ℕ) (o : Operand) → o ≡ Local x → is_local x o ≡ true
is_own x o e = ap (is_local x) e ∙ eq-eqb x x refl

no_local : (x : ℕ) (o : Operand) → (o ≡ Local x → ⊥) → is_local x o ≡ false
no_local x o ne = by (is_local x o) refl
  where
    by : (b : Bool) → is_local x o ≡ b → b ≡ false
    by true q = absurd (ne (own_local x o q))
    by false q = refl

here_or_there : (o v : Operand) (os : List Operand) → Contains (o ∷ os) v → (o ≡ v) ⊎ Contains os v
here_or_there o v os h = elim (Contains-append_cases (o ∷ []) os v h) [ inl a ↦ inl (only a) | inr b ↦ inr b ]
  where
    only : Contains (o ∷ []) v → o ≡ v
    only (zero, lt, e) = e
    only (suc k, lt, e) = absurd (omega (arith, lt))

-- ---- from the computation

first_taken : (x : ℕ) (es : List Incoming) (v : Operand) → first_other x es ≡ Some v → Contains (operands es) v
first_taken x [] v e = absurd (cc e)
first_taken x (d ∷ es) v e = by (is_local x d.value) e (first_taken x es v)
  where
    by : (b : Bool) → (if b then first_other x es else Some d.value) ≡ Some v → (first_other x es ≡ Some v → Contains (operands es) v) → Contains (d.value ∷ operands es) v
    by true e' more = Contains-append_right (d.value ∷ []) (operands es) v (more e')
    by false e' more = let is : d.value ≡ v = cc e' in (0, omega arith, is)

all_either : (x : ℕ) (v : Operand) (es : List Incoming) → takes_only x v es ≡ true → All (IsEither x v) (operands es)
all_either x v [] h = All-nil (IsEither x v)
all_either x v (d ∷ es) h =
    let parts = and_parts (is_local x d.value || same v d.value) (takes_only x v es) h in
    All-cons (IsEither x v) d.value (operands es) (here (or_cases (is_local x d.value) (same v d.value) parts.0)) (all_either x v es parts.1)
  where
    here : (is_local x d.value ≡ true) ⊎ (same v d.value ≡ true) → IsEither x v d.value
    here (inl t) = inr (own_local x d.value t)
    here (inr t) = inl (sym (same_true v d.value t))

sole_from : (ps : List Phi) (p : Phi) (v : Operand) → phi_source ps p ≡ Some v → IsSoleOperand ps p v
sole_from ps p v e = by (first_other p.local p.incoming) refl e
  where
    chosen : (u : Operand) (b : Bool) → (takes_only p.local u p.incoming && not (is_phi_operand u ps)) ≡ b → first_other p.local p.incoming ≡ Some u →
        (if b then Some u else None) ≡ Some v → IsSoleOperand ps p v
    chosen u true q first e' =
        let parts = and_parts (takes_only p.local u p.incoming) (not (is_phi_operand u ps)) q in
        let is : u ≡ v = cc e' in
        subst (λ (o : Operand). IsSoleOperand ps p o) is (record {
          taken = first_taken p.local p.incoming u first;
          alone = all_either p.local u p.incoming parts.0;
          other = λ own. cc (sym (another p.local p.incoming u first), is_own p.local u own);
          outside = not_true (is_phi_operand u ps) parts.1;
        })
    chosen u false q first e' = absurd (cc e')

    by : (o : Option Operand) → first_other p.local p.incoming ≡ o → sole_source ps p.local p.incoming o ≡ Some v → IsSoleOperand ps p v
    by None q e' = absurd (cc e')
    by (Some u) q e' = chosen u (takes_only p.local u p.incoming && not (is_phi_operand u ps)) refl q e'

-- ---- and to it

first_is : (x : ℕ) (v : Operand) (es : List Incoming) → (v ≡ Local x → ⊥) → Contains (operands es) v → All (IsEither x v) (operands es) → first_other x es ≡ Some v
first_is x v [] ne h all = absurd (none h)
  where
    none : Contains (operands []) v → ⊥
    none (k, lt, e) = absurd (omega (arith, lt))
first_is x v (d ∷ es) ne h all =
    by (All-head (IsEither x v) d.value (operands es) all) (here_or_there d.value v (operands es) h)
    (λ h'. first_is x v es ne h' (All-tail (IsEither x v) d.value (operands es) all))
  where
    by : IsEither x v d.value → (d.value ≡ v) ⊎ Contains (operands es) v → (Contains (operands es) v → first_other x es ≡ Some v)
        → (if is_local x d.value then first_other x es else Some d.value) ≡ Some v
    by (inl is) t more = ap (λ (b : Bool). if b then first_other x es else Some d.value) (ap (is_local x) is ∙ no_local x v ne) ∙ ap (λ (o : Operand). Some o) is
    by (inr own) (inl is) more = absurd (ne (sym is ∙ own))
    by (inr own) (inr h') more = ap (λ (b : Bool). if b then first_other x es else Some d.value) (is_own x d.value own) ∙ more h'

only_taken : (x : ℕ) (v : Operand) (es : List Incoming) → All (IsEither x v) (operands es) → takes_only x v es ≡ true
only_taken x v [] all = refl
only_taken x v (d ∷ es) all =
    both_true (is_local x d.value || same v d.value) (takes_only x v es) (here (All-head (IsEither x v) d.value (operands es) all))
    (only_taken x v es (All-tail (IsEither x v) d.value (operands es) all))
  where
    here : IsEither x v d.value → (is_local x d.value || same v d.value) ≡ true
    here (inl is) = one_true (is_local x d.value) (same v d.value) (inr (ap (same v) is ∙ same_self v))
    here (inr own) = one_true (is_local x d.value) (same v d.value) (inl (is_own x d.value own))

sole_to : (ps : List Phi) (p : Phi) (v : Operand) → IsSoleOperand ps p v → phi_source ps p ≡ Some v
sole_to ps p v sole =
    ap (sole_source ps p.local p.incoming) (first_is p.local v p.incoming sole.other sole.taken sole.alone)
    ∙ ap (λ (b : Bool). if b then Some v else None)
    (both_true (takes_only p.local v p.incoming) (not (is_phi_operand v ps)) (only_taken p.local v p.incoming sole.alone) (ap not sole.outside))

pub are_sole : PhiSourcesAreSole
are_sole ps p v = (sole_from ps p v, sole_to ps p v)

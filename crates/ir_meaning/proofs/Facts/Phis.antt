-- Facts over an edge, and phis whose entries are replaced.
use Rattle.std.proofs.Common.{◌≡◌, ℕ, Bool, true, false, ◌||◌, ◌==◌, if◌then◌else◌, List, [], ◌∷◌, Option, Some, None, ◌⊎◌, inl, inr, refl, sym, ap, ◌∙◌, subst}
use Rattle.std.proofs.lemmas.Bool.{cases_eq, ne_eqb}
use Rattle.ir_tree.specs.declared.instr.Incoming.{Incoming}
use Rattle.ir_tree.specs.declared.instr.Phi.{Phi}
use Rattle.ir_tree.specs.declared.operand.Operand.{Operand}
use Rattle.ir_tree.specs.declared.operand.Operand.TheVariants.{Local, Number as Constant, Null, Poison as PoisonOf, Symbol as Named}
use Rattle.ir_meaning.specs.Act.{incoming_value, phis_bound}
use Rattle.ir_meaning.specs.Frame.{Locals, Signature, look_up, value_of}
use Rattle.ir_meaning.specs.Relate.{Pairing, Agrees}
use Rattle.ir_meaning.specs.declared.value.Value.{Value}
use Rattle.ir_meaning.specs.declared.value.Value.TheVariants.{Poison}
use Rattle.ir_meaning.specs.Facts.{Facts, replaced, edges_replaced, phis_replaced, Stands, Has, is_phi, is_phi_operand, edge_operand, phi_operand, EntryIs, EdgeFacts, EdgesRead, PhisRead}
use Rattle.ir_meaning.proofs.Alike.Values.{LocalsAgree, Names, if_agrees, value_of_agrees}
use Rattle.ir_meaning.proofs.Facts.Standing.{stands_agree, AllHold, has_holds, operand_stands, or_parts}

-- ---- phis

pub phi_none : (sig : Signature) (ls : Locals) (from : ℕ) (x : ℕ) (ps : List Phi) (after : Locals) → is_phi x ps ≡ false →
    look_up (phis_bound sig ls from ps after) x ≡ look_up after x
phi_none sig ls from x [] after e = refl
phi_none sig ls from x (p ∷ ps) after e =
    let o = or_parts (p.local == x) (is_phi x ps) e in
    ap (λ (b : Bool). if b then incoming_value sig ls from p.incoming else look_up (phis_bound sig ls from ps after) x) o.0
    ∙ phi_none sig ls from x ps after o.1

pub operand_none : (sig : Signature) (ls : Locals) (from : ℕ) (v : Operand) (ps : List Phi) (after : Locals) → is_phi_operand v ps ≡ false →
    value_of sig (phis_bound sig ls from ps after) v ≡ value_of sig after v
operand_none sig ls from (Local x) ps after e = phi_none sig ls from x ps after e
operand_none sig ls from (Constant w bits) ps after e = refl
operand_none sig ls from Null ps after e = refl
operand_none sig ls from (PoisonOf reg) ps after e = refl
operand_none sig ls from (Named s o) ps after e = refl

pub value_or_poison : Signature → Locals → Option Operand → Value
value_or_poison sig ls None = Poison
value_or_poison sig ls (Some o) = value_of sig ls o

pub edge_is : (sig : Signature) (ls : Locals) (from : ℕ) (es : List Incoming) → incoming_value sig ls from es ≡ value_or_poison sig ls
    (edge_operand from es)
unfolding value_or_poison
edge_is sig ls from [] = refl
edge_is sig ls from (e ∷ es) = by (e.from == from) (edge_is sig ls from es)
  where
    by : (b : Bool) → incoming_value sig ls from es ≡ value_or_poison sig ls (edge_operand from es) →
        (if b then value_of sig ls e.value else incoming_value sig ls from es) ≡ value_or_poison sig ls
        (if b then Some e.value else edge_operand from es)
    by true rest = refl
    by false rest = rest

pub phi_is : (sig : Signature) (ls : Locals) (from x : ℕ) (ps : List Phi) (after : Locals) → is_phi x ps ≡ true →
    look_up (phis_bound sig ls from ps after) x ≡ value_or_poison sig ls (phi_operand x from ps)
phi_is sig ls from x [] after e = absurd (cc e)
phi_is sig ls from x (p ∷ ps) after e = by (p.local == x) e (λ e'. phi_is sig ls from x ps after e')
  where
    by : (b : Bool) → (b || is_phi x ps) ≡ true → (is_phi x ps ≡ true → look_up (phis_bound sig ls from ps after) x ≡ value_or_poison sig
        ls (phi_operand x from ps)) → (if b then incoming_value sig ls from p.incoming else look_up (phis_bound sig ls from ps after)
        x) ≡ value_or_poison sig ls (if b then edge_operand from p.incoming else phi_operand x from ps)
    by true e' go = edge_is sig ls from p.incoming
    by false e' go = go e'

pub phi_value : (sig : Signature) (ls : Locals) (from x : ℕ) (ps : List Phi) (after : Locals) (o : Operand) → is_phi x ps ≡ true →
    phi_operand x from ps ≡ Some o → look_up (phis_bound sig ls from ps after) x ≡ value_of sig ls o
unfolding value_or_poison
phi_value sig ls from x ps after o e q = phi_is sig ls from x ps after e ∙ ap (λ (y : Option Operand). value_or_poison sig ls y) q

pub entry_stands : (sig : Signature) (ls : Locals) (end : Facts) (x : ℕ) (v : Operand) → AllHold sig ls end → (o : Option Operand) →
    EntryIs end x v o → Stands (value_of sig ls v) (value_or_poison sig ls o)
unfolding value_or_poison
entry_stands sig ls end x v h None k = inl refl
entry_stands sig ls end x v h (Some e) (inl k) = inr (ap (λ (o : Operand). value_of sig ls o) (sym k))
entry_stands sig ls end x v h (Some e) (inr k) = subst (λ (o : Operand). Stands (value_of sig ls v) (value_of sig ls o)) (sym k.0)
    (has_holds sig ls end x v h k.1)

-- the facts at the start of a block hold behind its phis
pub edge_facts_hold : (sig : Signature) (ls : Locals) (end : Facts) → AllHold sig ls end → (from : ℕ) (ps : List Phi) (fs : Facts) →
    EdgeFacts end from ps fs → AllHold sig (phis_bound sig ls from ps ls) fs
edge_facts_hold sig ls end h from ps [] k = tt
edge_facts_hold sig ls end h from ps ((x, v) ∷ fs) k =
    (by k.1, edge_facts_hold sig ls end h from ps fs k.2)
  where
    v_is : value_of sig (phis_bound sig ls from ps ls) v ≡ value_of sig ls v
    v_is = operand_none sig ls from v ps ls k.0

    by : ((is_phi x ps ≡ false) × Has end x v) ⊎ ((is_phi x ps ≡ true) × EntryIs end x v (phi_operand x from ps)) →
        Stands (value_of sig (phis_bound sig ls from ps ls) v) (look_up (phis_bound sig ls from ps ls) x)
    by (inl y) =
        let s = has_holds sig ls end x v h y.1 in
        let s' = subst (λ (z : Value). Stands z (look_up ls x)) (sym v_is) s in
        subst (λ (z : Value). Stands (value_of sig (phis_bound sig ls from ps ls) v) z) (sym (phi_none sig ls from x ps ls y.0)) s'
    by (inr y) =
        let s = entry_stands sig ls end x v h (phi_operand x from ps) y.1 in
        let s' = subst (λ (z : Value). Stands z (value_or_poison sig ls (phi_operand x from ps))) (sym v_is) s in
        subst (λ (z : Value). Stands (value_of sig (phis_bound sig ls from ps ls) v) z) (sym (phi_is sig ls from x ps ls y.0)) s'

pub edge_replaced_agrees : (sig : Signature) (w : Pairing) (n : ℕ) → Names sig w n → (keeps : ℕ → Bool) (ls rs : Locals) →
    LocalsAgree keeps w n ls rs → (ends : ℕ → Facts) (from : ℕ) → AllHold sig rs (ends from) → (es : List Incoming) →
    EdgesRead keeps ends es → Agrees w n (incoming_value sig ls from (edges_replaced ends es)) (incoming_value sig rs from es)
edge_replaced_agrees sig w n c keeps ls rs h ends from facts [] k = tt
edge_replaced_agrees sig w n c keeps ls rs h ends from facts (e ∷ es) k = by (cases_eq e.from from) (edge_replaced_agrees sig w n c keeps
    ls rs h ends from facts es k.1)
  where
    by : (e.from ≡ from) ⊎ (e.from ≡ from → ⊥) → Agrees w n (incoming_value sig ls from (edges_replaced ends es))
        (incoming_value sig rs from es) → Agrees w n (incoming_value sig ls from (edges_replaced ends (e ∷ es)))
        (incoming_value sig rs from (e ∷ es))
    by (inl same) rest =
        let facts' = subst (λ (i : ℕ). AllHold sig rs (ends i)) (sym same) facts in
        let a = stands_agree w n (value_of sig ls (replaced (ends e.from) e.value)) (value_of sig rs (replaced (ends e.from) e.value))
        (value_of sig rs e.value) (value_of_agrees sig w n c keeps ls rs h (replaced (ends e.from) e.value) k.0)
        (operand_stands sig rs (ends e.from) facts' e.value) in
        if_agrees w n (e.from == from) (value_of sig ls (replaced (ends e.from) e.value))
        (incoming_value sig ls from (edges_replaced ends es)) (value_of sig rs e.value) (incoming_value sig rs from es) a rest
    by (inr ne) rest =
        let f = ne_eqb e.from from ne in
        subst (λ (b : Bool). Agrees w n (if b then value_of sig ls (replaced (ends e.from) e.value) else incoming_value sig ls from
        (edges_replaced ends es)) (if b then value_of sig rs e.value else incoming_value sig rs from es)) (sym f) rest

pub phis_replaced_agree : (sig : Signature) (w : Pairing) (n : ℕ) → Names sig w n → (keeps : ℕ → Bool) (ls rs : Locals) →
    LocalsAgree keeps w n ls rs → (ends : ℕ → Facts) (from : ℕ) → AllHold sig rs (ends from) → (ps : List Phi) → PhisRead keeps ends ps →
    (ls' rs' : Locals) → LocalsAgree keeps w n ls' rs' → LocalsAgree keeps w n (phis_bound sig ls from (phis_replaced ends ps) ls')
    (phis_bound sig rs from ps rs')
phis_replaced_agree sig w n c keeps ls rs h ends from facts [] k ls' rs' h' = h'
phis_replaced_agree sig w n c keeps ls rs h ends from facts (p ∷ ps) k ls' rs' h' =
    λ y kept. if_agrees w n (p.local == y) (incoming_value sig ls from (edges_replaced ends p.incoming))
    (look_up (phis_bound sig ls from (phis_replaced ends ps) ls') y) (incoming_value sig rs from p.incoming)
    (look_up (phis_bound sig rs from ps rs') y) (edge_replaced_agrees sig w n c keeps ls rs h ends from facts p.incoming k.0)
    (phis_replaced_agree sig w n c keeps ls rs h ends from facts ps k.1 ls' rs' h' y kept)

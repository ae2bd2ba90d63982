-- Values of the callee's operands, phis and terminators in the function that it is inlined into.
use Rattle.std.proofs.Common.{◌≡◌, ℕ, zero, suc, ◌+◌, ◌<◌, ◌≤◌, ℤ, Bool, true, false, ◌==◌, if◌then◌else◌, List, [], ◌∷◌, Option, Some, None, ◌⊎◌, inl, inr, refl, sym, ap, ◌∙◌, subst, arith, map}
use Rattle.std.proofs.lemmas.Bool.{cases_eq, ne_eqb, eq-eqb, eqb-true, ltb-true}
use Rattle.ir_tree.specs.declared.block.Block.{Block}
use Rattle.ir_tree.specs.declared.block.Case.{Case}
use Rattle.ir_tree.specs.declared.block.Terminator.{Terminator}
use Rattle.ir_tree.specs.declared.block.Terminator.TheVariants.{Return, Jump, Branch, Switch, Unreachable}
use Rattle.ir_tree.specs.declared.function.Param.{Param}
use Rattle.ir_tree.specs.declared.instr.Incoming.{Incoming}
use Rattle.ir_tree.specs.declared.instr.Instr.{Instr}
use Rattle.ir_tree.specs.declared.instr.Instr.TheVariants.{Binary, Icmp, Cast, Select, Freeze, Alloca, Load, Store, Address, Call, Phi as StrayPhi}
use Rattle.ir_tree.specs.declared.instr.Phi.{Phi}
use Rattle.ir_tree.specs.declared.operand.Argument.{Argument}
use Rattle.ir_tree.specs.declared.operand.Operand.{Operand}
use Rattle.ir_tree.specs.declared.operand.Operand.TheVariants.{Local, Number as Constant, Null, Poison as PoisonOf, Symbol as Named}
use Rattle.ir_tree.specs.declared.operand.Reg.{Reg}
use Rattle.ir_tree.specs.Edited.{argument_edited, with_operands}
use Rattle.ir_meaning.specs.Operate.{bits_of}
use Rattle.ir_meaning.specs.Act.{incoming_value, phis_bound, find_block, case_target, side, Exit, Leaves, Leads', Stuck, by_bits, by_value, exit_of, params_bound}
use Rattle.ir_meaning.specs.Execute.{evaluate, ToAddress, ToCall}
use Rattle.ir_meaning.specs.Frame.{Locals, Signature, look_up, bind, value_of, regs_of, values_of, indices_of, index_of, cons_index}
use Rattle.ir_meaning.specs.Relate.{Pairing, Agrees, AnswersAgree}
use Rattle.ir_meaning.specs.declared.value.Value.{Value}
use Rattle.ir_meaning.specs.Inline.{Site, argument_of, or_moved, moved, local_moved, edges_moved, phis_moved, cases_moved, end_moved, return_edge, return_edges, renamed, edges_renamed, phis_renamed, below, EdgesBelow, PhisBelow, IsNoParameter, PhisSparing}
use Rattle.ir_meaning.proofs.Alike.Effects.{OperandsAgree}
use Rattle.ir_meaning.proofs.Alike.Keeping.{more}
use Rattle.ir_meaning.proofs.Alike.Values.{LocalsAgree, IsKept, AllKept, EachAgrees, Names, NoneOrSame, bits_agree, if_agrees, value_of_agrees}

-- ---- values

pub each_of : (f : Operand → Operand) (value : Operand → Value) (args : List Argument) → values_of value (map (argument_edited f) args) ≡ values_of
    (λ o. value (f o)) args
each_of f value [] = refl
each_of f value (a ∷ more) = ap (λ (vs : List Value). value (f a.operand) ∷ vs) (each_of f value more)

pub regs_same : (f : Operand → Operand) (args : List Argument) → regs_of (map (argument_edited f) args) ≡ regs_of args
regs_same f [] = refl
regs_same f (a ∷ more) = ap (λ (rs : List Reg). a.reg ∷ rs) (regs_same f more)

pub indices_same : (f : Operand → Operand) (value : Operand → Value) (args : List Argument) → indices_of value (map (argument_edited f) args) ≡ indices_of
    (λ o. value (f o)) args
indices_same f value [] = refl
indices_same f value (a ∷ more) = ap (λ (o : Option (List ℤ)). cons_index (index_of a.reg (value (f a.operand))) o)
    (indices_same f value more)

-- to evaluate with changed operands is to evaluate with their values
pub evaluate_with : (f : Operand → Operand) (value : Operand → Value) (i : Instr) → evaluate value (with_operands f i) ≡ evaluate
    (λ o. value (f o)) i
evaluate_with f value (Binary op flags w l r) = refl
evaluate_with f value (Icmp p reg l r) = refl
evaluate_with f value (Cast op from o to) = refl
evaluate_with f value (Select c t e) = refl
evaluate_with f value (Freeze w o) = refl
evaluate_with f value (Alloca shape align) = refl
evaluate_with f value (Load reg o align) = refl
evaluate_with f value (Store reg o d align) = refl
evaluate_with f value (Address inbounds shape o is) = ap (λ (x : Option (List ℤ)). ToAddress inbounds shape (value (f o)) x)
    (indices_same f value is)
evaluate_with f value (Call result c args) = ap (λ (rs : List Reg). ToCall result rs (values_of value (map (argument_edited f) args)) (value (f c)))
    (regs_same f args) ∙ ap (λ (vs : List Value). ToCall result (regs_of args) vs (value (f c))) (each_of f value args)
evaluate_with f value (StrayPhi reg es) = refl

pub each_all : (w : Pairing) (n : ℕ) (a b : Operand → Value) → ((o : Operand) → Agrees w n (a o) (b o)) → (args : List Argument) →
    EachAgrees w n a b args
each_all w n a b h [] = tt
each_all w n a b h (x ∷ more) = (h x.operand, each_all w n a b h more)

pub operands_all : (w : Pairing) (n : ℕ) (a b : Operand → Value) → ((o : Operand) → Agrees w n (a o) (b o)) → (i : Instr) →
    OperandsAgree w n a b i
operands_all w n a b h (Binary op flags k l r) = (h l, h r)
operands_all w n a b h (Icmp p reg l r) = (h l, h r)
operands_all w n a b h (Cast op from o to) = h o
operands_all w n a b h (Select c t e) = (h c, h t.operand, h e.operand)
operands_all w n a b h (Freeze k o) = h o
operands_all w n a b h (Alloca shape align) = tt
operands_all w n a b h (Load reg o align) = h o
operands_all w n a b h (Store reg o d align) = (h o, h d)
operands_all w n a b h (Address inbounds shape o is) = (h o, each_all w n a b h is)
operands_all w n a b h (Call result c args) = (h c, each_all w n a b h args)
operands_all w n a b h (StrayPhi reg es) = tt

-- each local of the callee agrees with what stands for it
abbrev pub CalleeAgrees : Signature → Site → Pairing → ℕ → Locals → Locals → Type 0
CalleeAgrees sig t w n ls cs = (x : ℕ) → Agrees w n (value_of sig ls (moved t (Local x))) (look_up cs x)

pub value_moved : (sig : Signature) (t : Site) (w : Pairing) (n : ℕ) → Names sig w n → (ls cs : Locals) → CalleeAgrees sig t w n ls cs →
    (o : Operand) → Agrees w n (value_of sig ls (moved t o)) (value_of sig cs o)
value_moved sig t w n c ls cs h (Local x) = h x
value_moved sig t w n c ls cs h (Constant k bits) = refl
value_moved sig t w n c ls cs h Null = (tt, refl)
value_moved sig t w n c ls cs h (PoisonOf reg) = tt
value_moved sig t w n c ls cs h (Named s o) = value_of_agrees sig w n c (λ x. true) [] [] (λ x k. tt) (Named s o) tt

-- a moved local beside an operand of the caller
pub skip_moved : (sig : Signature) (by x : ℕ) (v : Value) (ls : Locals) (o : Operand) → IsKept (below by) o →
    value_of sig ((x + by, v) ∷ ls) o ≡ value_of sig ls o
skip_moved sig by x v ls (Local y) k =
    let lt = ltb-true y by k in
    ap (λ (b : Bool). if b then v else look_up ls y) (ne_eqb (x + by) y (omega arith))
skip_moved sig by x v ls (Constant w bits) k = refl
skip_moved sig by x v ls Null k = refl
skip_moved sig by x v ls (PoisonOf reg) k = refl
skip_moved sig by x v ls (Named s o) k = refl

pub argument_kept : (by : ℕ) (ps : List Param) (args : List Argument) (x : ℕ) (o : Operand) → AllKept (below by) args →
    argument_of ps args x ≡ Some o → IsKept (below by) o
argument_kept by [] args x o k e = absurd (cc e)
argument_kept by (p ∷ ps) [] x o k e = absurd (cc e)
argument_kept by (p ∷ ps) (a ∷ more) x o k e = pick' (p.local == x) e (λ e'. argument_kept by ps more x o k.1 e')
  where
    pick' : (v : Bool) → (if v then Some a.operand else argument_of ps more x) ≡ Some o → (argument_of ps more x ≡ Some o →
        IsKept (below by) o) → IsKept (below by) o
    pick' true e' go = let is : a.operand ≡ o = cc e' in subst (λ (y : Operand). IsKept (below by) y) is k.0
    pick' false e' go = go e'

-- one more local of the callee on both sides
pub callee_bound : (sig : Signature) (t : Site) (w : Pairing) (n : ℕ) → AllKept (below t.by) t.arguments → (ls cs ls' cs' : Locals) →
    (y : ℕ) (v u : Value) → argument_of t.body.params t.arguments y ≡ None → Agrees w n v u → CalleeAgrees sig t w n ls' cs' →
    CalleeAgrees sig t w n ((y + t.by, v) ∷ ls') ((y, u) ∷ cs')
callee_bound sig t w n kept ls cs ls' cs' y v u none a h x = by (argument_of t.body.params t.arguments x) refl
  where
    at_param : (o : Operand) → argument_of t.body.params t.arguments x ≡ Some o → (y ≡ x) ⊎ (y ≡ x → ⊥) →
        Agrees w n (value_of sig ((y + t.by, v) ∷ ls') o) (look_up ((y, u) ∷ cs') x)
    at_param o e (inl same) = let e' = ap (λ (i : ℕ). argument_of t.body.params t.arguments i) same in absurd (cc (e, none, e'))
    at_param o e (inr other) =
        let k = argument_kept t.by t.body.params t.arguments x o kept e in
        let old = subst (λ (q : Option Operand). Agrees w n (value_of sig ls' (or_moved t.by x q)) (look_up cs' x)) e (h x) in
        let old' = subst (λ (z : Value). Agrees w n z (look_up cs' x)) (sym (skip_moved sig t.by y v ls' o k)) old in
        subst (λ (b : Bool). Agrees w n (value_of sig ((y + t.by, v) ∷ ls') o) (if b then u else look_up cs' x)) (sym (ne_eqb y x other))
        old'

    at_local : argument_of t.body.params t.arguments x ≡ None → (y ≡ x) ⊎ (y ≡ x → ⊥) →
        Agrees w n (look_up ((y + t.by, v) ∷ ls') (x + t.by)) (look_up ((y, u) ∷ cs') x)
    at_local e (inl same) =
        let yes1 = eq-eqb (y + t.by) (x + t.by) (omega arith) in
        let yes2 = eq-eqb y x same in
        subst (λ (b : Bool). Agrees w n (if b then v else look_up ls' (x + t.by)) (look_up ((y, u) ∷ cs') x)) (sym yes1)
        (subst (λ (b : Bool). Agrees w n v (if b then u else look_up cs' x)) (sym yes2) a)
    at_local e (inr other) =
        let no1 = ne_eqb (y + t.by) (x + t.by) (λ s. other (omega (arith, s))) in
        let no2 = ne_eqb y x other in
        let old = subst (λ (q : Option Operand). Agrees w n (value_of sig ls' (or_moved t.by x q)) (look_up cs' x)) e (h x) in
        subst (λ (b : Bool). Agrees w n (if b then v else look_up ls' (x + t.by)) (look_up ((y, u) ∷ cs') x)) (sym no1)
        (subst (λ (b : Bool). Agrees w n (look_up ls' (x + t.by)) (if b then u else look_up cs' x)) (sym no2) old)

    by : (q : Option Operand) → argument_of t.body.params t.arguments x ≡ q →
        Agrees w n (value_of sig ((y + t.by, v) ∷ ls') (or_moved t.by x (argument_of t.body.params t.arguments x)))
        (look_up ((y, u) ∷ cs') x)
    by None e = subst (λ (q : Option Operand). Agrees w n (value_of sig ((y + t.by, v) ∷ ls') (or_moved t.by x q))
        (look_up ((y, u) ∷ cs') x)) (sym e) (at_local e (cases_eq y x))
    by (Some o) e = subst (λ (q : Option Operand). Agrees w n (value_of sig ((y + t.by, v) ∷ ls') (or_moved t.by x q))
        (look_up ((y, u) ∷ cs') x)) (sym e) (at_param o e (cases_eq y x))

-- and in a binding
pub callee_binds : (sig : Signature) (t : Site) (w : Pairing) (n : ℕ) → AllKept (below t.by) t.arguments → (local : Option ℕ) →
    IsNoParameter t local → (v u : Option Value) → AnswersAgree w n v u → (ls cs : Locals) → CalleeAgrees sig t w n ls cs →
    CalleeAgrees sig t w n (bind (local_moved t.by local) v ls) (bind local u cs)
callee_binds sig t w n kept None sp v u a ls cs h = h
callee_binds sig t w n kept (Some y) sp None None a ls cs h = h
callee_binds sig t w n kept (Some y) sp (Some v) (Some u) a ls cs h = callee_bound sig t w n kept ls cs ls cs y v u sp a h
callee_binds sig t w n kept (Some y) sp None (Some u) a ls cs h = absurd a
callee_binds sig t w n kept (Some y) sp (Some v) None a ls cs h = absurd a

-- the caller's locals don't change
pub caller_bound : (by : ℕ) (w : Pairing) (n : ℕ) (x : ℕ) (v : Value) (ls bs : Locals) → LocalsAgree (below by) w n ls bs →
    LocalsAgree (below by) w n ((x + by, v) ∷ ls) bs
caller_bound by w n x v ls bs h y kept =
    let lt = ltb-true y by kept in
    subst (λ (b : Bool). Agrees w n (if b then v else look_up ls y) (look_up bs y)) (sym (ne_eqb (x + by) y (omega arith))) (h y kept)

pub caller_binds : (by : ℕ) (w : Pairing) (n : ℕ) (local : Option ℕ) (v : Option Value) (ls bs : Locals) → LocalsAgree (below by) w n ls bs →
    LocalsAgree (below by) w n (bind (local_moved by local) v ls) bs
caller_binds by w n None v ls bs h = h
caller_binds by w n (Some x) None ls bs h = h
caller_binds by w n (Some x) (Some v) ls bs h = caller_bound by w n x v ls bs h

-- the parameters at the entry
pub params_stand : (sig : Signature) (w : Pairing) (n : ℕ) → Names sig w n → (by : ℕ) (ls bs : Locals) → LocalsAgree (below by) w n ls bs →
    (ps : List Param) (args : List Argument) → AllKept (below by) args → (x : ℕ) →
    Agrees w n (value_of sig ls (or_moved by x (argument_of ps args x))) (look_up (params_bound ps (values_of (value_of sig bs) args)) x)
params_stand sig w n c by ls bs h [] args k x = tt
params_stand sig w n c by ls bs h (p ∷ ps) [] k x = tt
params_stand sig w n c by ls bs h (p ∷ ps) (a ∷ more) k x = pick' (p.local == x) (params_stand sig w n c by ls bs h ps more k.1 x)
  where
    pick' : (v : Bool) → Agrees w n (value_of sig ls (or_moved by x (argument_of ps more x)))
        (look_up (params_bound ps (values_of (value_of sig bs) more)) x) →
        Agrees w n (value_of sig ls (or_moved by x (if v then Some a.operand else argument_of ps more x)))
        (if v then value_of sig bs a.operand else look_up (params_bound ps (values_of (value_of sig bs) more)) x)
    pick' true rest = value_of_agrees sig w n c (below by) ls bs h a.operand k.0
    pick' false rest = rest

-- ---- phis

pub test_moved : (by a b : ℕ) → ((a + by) == (b + by)) ≡ (a == b)
test_moved by a b = cases (cases_eq a b)
  where
    cases : (a ≡ b) ⊎ (a ≡ b → ⊥) → ((a + by) == (b + by)) ≡ (a == b)
    cases (inl e) = eq-eqb (a + by) (b + by) (omega arith) ∙ sym (eq-eqb a b e)
    cases (inr ne) = ne_eqb (a + by) (b + by) (λ s. ne (omega (arith, s))) ∙ sym (ne_eqb a b ne)

pub edge_moved : (sig : Signature) (t : Site) (w : Pairing) (n : ℕ) → Names sig w n → (ls cs : Locals) → CalleeAgrees sig t w n ls cs →
    (from : ℕ) (es : List Incoming) → Agrees w n (incoming_value sig ls (from + t.by) (edges_moved t es)) (incoming_value sig cs from es)
edge_moved sig t w n c ls cs h from [] = tt
edge_moved sig t w n c ls cs h from (e ∷ es) =
    let both = if_agrees w n (e.from == from) (value_of sig ls (moved t e.value)) (incoming_value sig ls (from + t.by) (edges_moved t es))
    (value_of sig cs e.value) (incoming_value sig cs from es) (value_moved sig t w n c ls cs h e.value)
    (edge_moved sig t w n c ls cs h from es) in
    subst (λ (b : Bool). Agrees w n (if b then value_of sig ls (moved t e.value) else incoming_value sig ls (from + t.by)
    (edges_moved t es)) (incoming_value sig cs from (e ∷ es))) (sym (test_moved t.by e.from from)) both

pub phis_callee : (sig : Signature) (t : Site) (w : Pairing) (n : ℕ) → Names sig w n → AllKept (below t.by) t.arguments → (ls cs : Locals) →
    CalleeAgrees sig t w n ls cs → (from : ℕ) (ps : List Phi) → PhisSparing t ps → (ls' cs' : Locals) → CalleeAgrees sig t w n ls' cs' →
    CalleeAgrees sig t w n (phis_bound sig ls (from + t.by) (phis_moved t ps) ls') (phis_bound sig cs from ps cs')
phis_callee sig t w n c kept ls cs h from [] sp ls' cs' h' = h'
phis_callee sig t w n c kept ls cs h from (p ∷ ps) sp ls' cs' h' =
    callee_bound sig t w n kept ls cs (phis_bound sig ls (from + t.by) (phis_moved t ps) ls') (phis_bound sig cs from ps cs') p.local
    (incoming_value sig ls (from + t.by) (edges_moved t p.incoming)) (incoming_value sig cs from p.incoming) sp.0
    (edge_moved sig t w n c ls cs h from p.incoming) (phis_callee sig t w n c kept ls cs h from ps sp.1 ls' cs' h')

pub phis_caller : (sig : Signature) (t : Site) (w : Pairing) (n : ℕ) (ls : Locals) (from : ℕ) (ps : List Phi) (ls' bs : Locals) →
    LocalsAgree (below t.by) w n ls' bs → LocalsAgree (below t.by) w n (phis_bound sig ls from (phis_moved t ps) ls') bs
phis_caller sig t w n ls from [] ls' bs h = h
phis_caller sig t w n ls from (p ∷ ps) ls' bs h =
    caller_bound t.by w n p.local (incoming_value sig ls from (edges_moved t p.incoming)) (phis_bound sig ls from (phis_moved t ps) ls') bs
    (phis_caller sig t w n ls from ps ls' bs h)

-- renamed predecessors
pub test_renamed : (t : Site) → t.by ≤ t.join → (a b : ℕ) → a < t.by → b < t.by → (renamed t a == renamed t b) ≡ (a == b)
test_renamed t j a b la lb = cases (a == t.block) refl (b == t.block) refl
  where
    cases : (v : Bool) → (a == t.block) ≡ v → (w : Bool) → (b == t.block) ≡ w →
        ((if v then t.join else a) == (if w then t.join else b)) ≡ (a == b)
    cases true e true f = eq-eqb t.join t.join refl ∙ sym (eq-eqb a b (eqb-true a t.block e ∙ sym (eqb-true b t.block f)))
    cases true e false f = ne_eqb t.join b (omega arith) ∙ sym (ne_eqb a b (λ s. let q = ap (λ (i : ℕ). i == t.block) s in
        absurd (cc (e, f, q))))
    cases false e true f = ne_eqb a t.join (omega arith) ∙ sym (ne_eqb a b (λ s. let q = ap (λ (i : ℕ). i == t.block) s in
        absurd (cc (e, f, q))))
    cases false e false f = refl

pub edge_renamed : (sig : Signature) (t : Site) → t.by ≤ t.join → (w : Pairing) (n : ℕ) → Names sig w n → (ls bs : Locals) →
    LocalsAgree (below t.by) w n ls bs → (from : ℕ) → from < t.by → (es : List Incoming) → EdgesBelow t.by es →
    Agrees w n (incoming_value sig ls (renamed t from) (edges_renamed t es)) (incoming_value sig bs from es)
edge_renamed sig t j w n c ls bs h from lf [] k = tt
edge_renamed sig t j w n c ls bs h from lf (e ∷ es) k =
    let both = if_agrees w n (e.from == from) (value_of sig ls e.value) (incoming_value sig ls (renamed t from) (edges_renamed t es))
    (value_of sig bs e.value) (incoming_value sig bs from es) (value_of_agrees sig w n c (below t.by) ls bs h e.value k.1)
    (edge_renamed sig t j w n c ls bs h from lf es k.2) in
    subst (λ (b : Bool). Agrees w n (if b then value_of sig ls e.value else incoming_value sig ls (renamed t from) (edges_renamed t es))
    (incoming_value sig bs from (e ∷ es))) (sym (test_renamed t j e.from from k.0 lf)) both

pub phis_outside : (sig : Signature) (t : Site) → t.by ≤ t.join → (w : Pairing) (n : ℕ) → Names sig w n → (ls bs : Locals) →
    LocalsAgree (below t.by) w n ls bs → (from : ℕ) → from < t.by → (ps : List Phi) → PhisBelow t.by ps → (ls' bs' : Locals) →
    LocalsAgree (below t.by) w n ls' bs' → LocalsAgree (below t.by) w n (phis_bound sig ls (renamed t from) (phis_renamed t ps) ls')
    (phis_bound sig bs from ps bs')
phis_outside sig t j w n c ls bs h from lf [] k ls' bs' h' = h'
phis_outside sig t j w n c ls bs h from lf (p ∷ ps) k ls' bs' h' =
    λ y kept. if_agrees w n (p.local == y) (incoming_value sig ls (renamed t from) (edges_renamed t p.incoming))
    (look_up (phis_bound sig ls (renamed t from) (phis_renamed t ps) ls') y) (incoming_value sig bs from p.incoming)
    (look_up (phis_bound sig bs from ps bs') y) (edge_renamed sig t j w n c ls bs h from lf p.incoming k.0)
    (phis_outside sig t j w n c ls bs h from lf ps k.1 ls' bs' h' y kept)

pub edge_skipped : (sig : Signature) (t : Site) (ls : Locals) (m n : ℕ) (es : List Incoming) → (m ≡ n → ⊥) → (u : Terminator) →
    incoming_value sig ls (n + t.by) (return_edge t m u es) ≡ incoming_value sig ls (n + t.by) es
edge_skipped sig t ls m n es ne (Return (Some a)) = ap (λ (v : Bool). if v then value_of sig ls (moved t a.operand) else incoming_value sig
    ls (n + t.by) es) (ne_eqb (m + t.by) (n + t.by) (λ s. ne (omega (arith, s))))
edge_skipped sig t ls m n es ne (Return None) = refl
edge_skipped sig t ls m n es ne (Jump target) = refl
edge_skipped sig t ls m n es ne (Branch c y z) = refl
edge_skipped sig t ls m n es ne (Switch w o d cs) = refl
edge_skipped sig t ls m n es ne Unreachable = refl

-- the value that the join takes on the edge of a return
pub return_value : (sig : Signature) (t : Site) (ls : Locals) (bs : List Block) (n : ℕ) (x : Block) (a : Argument) → find_block bs n ≡ Some x →
    x.end ≡ Return (Some a) → incoming_value sig ls (n + t.by) (return_edges t bs) ≡ value_of sig ls (moved t a.operand)
return_value sig t ls [] n x a e f = absurd (cc e)
return_value sig t ls (b ∷ bs) n x a e f = by (cases_eq b.number n) e (λ e'. return_value sig t ls bs n x a e' f)
  where
    by : (b.number ≡ n) ⊎ (b.number ≡ n → ⊥) → (if b.number == n then Some b else find_block bs n) ≡ Some x →
        (find_block bs n ≡ Some x → incoming_value sig ls (n + t.by) (return_edges t bs) ≡ value_of sig ls (moved t a.operand)) →
        incoming_value sig ls (n + t.by) (return_edge t b.number b.end (return_edges t bs)) ≡ value_of sig ls (moved t a.operand)
    by (inl same) e' go =
        let yes1 = eq-eqb b.number n same in
        let yes2 = eq-eqb (b.number + t.by) (n + t.by) (omega arith) in
        let is : Some b ≡ Some x = sym (ap (λ (v : Bool). if v then Some b else find_block bs n) yes1) ∙ e' in
        let is' : b ≡ x = cc is in
        let ends : b.end ≡ Return (Some a) = ap (λ (y : Block). y.end) is' ∙ f in
        ap (λ (u : Terminator). incoming_value sig ls (n + t.by) (return_edge t b.number u (return_edges t bs))) ends
        ∙ ap (λ (v : Bool). if v then value_of sig ls (moved t a.operand) else incoming_value sig ls (n + t.by) (return_edges t bs))
        yes2
    by (inr other) e' go = edge_skipped sig t ls b.number n (return_edges t bs) other b.end
        ∙ go (sym (ap (λ (v : Bool). if v then Some b else find_block bs n) (ne_eqb b.number n other)) ∙ e')

-- ---- targets of moved terminators

pub side_moved : (by a b n : ℕ) → side (a + by) (b + by) n ≡ side a b n + by
side_moved by a b zero = refl
side_moved by a b (suc n) = refl

pub cases_target : (by : ℕ) (cs : List Case) (d n : ℕ) → case_target (cases_moved by cs) (d + by) n ≡ case_target cs d n + by
cases_target by [] d n = refl
cases_target by (c ∷ cs) d n = pick' (c.bits == n) (cases_target by cs d n)
  where
    pick' : (v : Bool) → case_target (cases_moved by cs) (d + by) n ≡ case_target cs d n + by →
        (if v then c.target + by else case_target (cases_moved by cs) (d + by) n) ≡ (if v then c.target else case_target cs d n) + by
    pick' true rest = refl
    pick' false rest = rest

-- where a terminator of the callee leads, on both sides
abbrev pub MovedExit : Site → Exit → Exit → Type 0
MovedExit t x (Stuck cause) = Unit {0}
MovedExit t (Leads' m) (Leads' n) = m ≡ n + t.by
MovedExit t (Leads' m) (Leaves v) = m ≡ t.join
MovedExit t _ _ = ⊥

pub value_exit : (t : Site) (w : Pairing) (n k : ℕ) (f g : ℕ → ℕ) → ((i : ℕ) → f i ≡ g i + t.by) → (v u : Value) → Agrees w n v u →
    MovedExit t (by_value k f v) (by_value k g u)
value_exit t w n k f g h v u e = by (bits_of k v) (bits_of k u) (bits_agree w n k v u e)
  where
    by : (a b : Option ℕ) → NoneOrSame a b → MovedExit t (by_bits f a) (by_bits g b)
    by a None same = tt
    by (Some a) (Some b) (inr same) = let is : a ≡ b = cc same in h a ∙ ap (λ (i : ℕ). g i + t.by) is
    by None (Some b) (inr same) = absurd (cc same)
    by a (Some b) (inl none) = absurd (cc none)

pub moved_exit : (t : Site) (w : Pairing) (n : ℕ) (a b : Operand → Value) → ((o : Operand) → Agrees w n (a (moved t o)) (b o)) →
    (e : Terminator) → MovedExit t (exit_of a (end_moved t e)) (exit_of b e)
moved_exit t w n a b h (Return argument) = refl
moved_exit t w n a b h (Jump target) = refl
moved_exit t w n a b h (Branch c y x) = value_exit t w n 1 (side (y + t.by) (x + t.by)) (side y x) (side_moved t.by y x) (a (moved t c))
    (b c) (h c)
moved_exit t w n a b h (Switch k o d cs) = value_exit t w n k (case_target (cases_moved t.by cs) (d + t.by)) (case_target cs d)
    (cases_target t.by cs d) (a (moved t o)) (b o) (h o)
moved_exit t w n a b h Unreachable = tt

-- What is computed of agreed values agrees.
use Rattle.std.proofs.Common.{◌≡◌, ℕ, zero, suc, ◌-◌, ◌%◌, ◌^◌, ◌<◌, ◌≤◌, ℤ, Bool, true, false, ◌&&◌, ◌||◌, ◌==◌, nat_lt, if◌then◌else◌, List, [], ◌∷◌, Option, Some, None, ◌⊎◌, inl, inr, refl, sym, ap, ◌∙◌, subst, arith, mod-eq_of_lt}
use Rattle.std.proofs.lemmas.Bool.{ltb-true}
use Rattle.ir_tree.specs.declared.instr.BinaryOp.{BinaryOp}
use Rattle.ir_tree.specs.declared.instr.CastOp.{CastOp}
use Rattle.ir_tree.specs.declared.instr.Flags.{Flags}
use Rattle.ir_tree.specs.declared.instr.Predicate.{Predicate}
use Rattle.ir_tree.specs.declared.operand.Argument.{Argument}
use Rattle.ir_tree.specs.declared.operand.Operand.{Operand}
use Rattle.ir_tree.specs.declared.operand.Operand.TheVariants.{Local, Number as Constant, Null, Poison as PoisonOf, Symbol as Named}
use Rattle.ir_tree.specs.declared.operand.Reg.{Reg}
use Rattle.ir_tree.specs.declared.operand.Reg.TheVariants.{Int, Ptr}
use Rattle.ir_tree.specs.declared.operand.Symbol.{Symbol}
use Rattle.ir_meaning.specs.Frame.{Locals, SymbolKind, AFunction, AVariable, AHost, Missing, Signature, look_up, named, value_of, values_of, signed_of, index_of, cons_index, indices_of}
use Rattle.ir_meaning.specs.Operate.{Answer, Is, Never, Unwritten, number_or_poison, bits_of, plain_bits, division_bits, binary, bit, compared_bits, compared, cast_bits, cast, selected_bits, selected, frozen_bits, frozen}
use Rattle.ir_meaning.specs.Pointers.{chosen}
use Rattle.ir_meaning.specs.Relate.{Pairing, Agrees, AllAgree}
use Rattle.ir_meaning.specs.Arithmetic.{arithmetic, is_division, may_break, breaks, division_cause}
use Rattle.ir_tree.specs.declared.cause.Cause.{Cause}
use Rattle.ir_meaning.specs.declared.value.Value.{Value}
use Rattle.ir_meaning.specs.declared.value.Value.TheVariants.{Number, Pointer, Poison}
pub use Rattle.ir_meaning.specs.Needed.{IsKept, AllKept}

-- the locals that are asked for have agreed values
abbrev pub LocalsAgree : (ℕ → Bool) → Pairing → ℕ → Locals → Locals → Type 0
LocalsAgree keeps w n ls rs = (x : ℕ) → keeps x ≡ true → Agrees w n (look_up ls x) (look_up rs x)

-- the first answer may be given for the second
abbrev pub AnswerAgrees : Pairing → ℕ → Answer → Answer → Type 0
AnswerAgrees w n a (Never cause) = Unit {0}
AnswerAgrees w n a Unwritten = Unit {0}
AnswerAgrees w n (Is v) (Is u) = Agrees w n v u
AnswerAgrees w n _ _ = ⊥

-- the g variables stand for themselves, and a symbol names no other
pub record Names (sig : Signature) (w : Pairing) (n : ℕ) : Type 0 where
  pub count : ℕ
  pub few : count ≤ n
  pub stay : (l : ℕ) → l < count → w l ≡ l
  pub formed : (s : Symbol) (k : ℕ) → sig.kind s ≡ AVariable k → k < count

-- ---- choices

pub if_agrees : (w : Pairing) (n : ℕ) (b : Bool) (v v' u u' : Value) → Agrees w n v u → Agrees w n v' u' →
    Agrees w n (if b then v else v') (if b then u else u')
if_agrees w n true v v' u u' a b = a
if_agrees w n false v v' u u' a b = b

pub if_answers : (w : Pairing) (n : ℕ) (b : Bool) (v v' u u' : Answer) → AnswerAgrees w n v u → AnswerAgrees w n v' u' →
    AnswerAgrees w n (if b then v else v') (if b then u else u')
if_answers w n true v v' u u' a b = a
if_answers w n false v v' u u' a b = b

-- the right one is defined only where the left one is
pub if_defined : (w : Pairing) (n : ℕ) (l r : Bool) (a b : Answer) (why why' : Cause) → (r ≡ true → l ≡ true) →
    AnswerAgrees w n a b → AnswerAgrees w n (if l then a else Never why) (if r then b else Never why')
if_defined w n l false a b why why' h x = tt
if_defined w n true true a b why why' h x = x
if_defined w n false true a b why why' h x = absurd (cc (h refl))

-- ---- operands

named_agrees : (sig : Signature) (w : Pairing) (n : ℕ) → Names sig w n → (s : Symbol) (o : ℕ) (kind : SymbolKind) →
    sig.kind s ≡ kind → Agrees w n (named kind s o) (named kind s o)
named_agrees sig w n c s o (AFunction params result) e = (refl, refl)
named_agrees sig w n c s o (AVariable k) e = let lt = c.formed s k e in ((omega (arith, c.few), c.stay k lt), refl)
named_agrees sig w n c s o (AHost host) e = (refl, refl)
named_agrees sig w n c s o Missing e = tt

pub value_of_agrees : (sig : Signature) (w : Pairing) (n : ℕ) → Names sig w n → (keeps : ℕ → Bool) (ls rs : Locals) →
    LocalsAgree keeps w n ls rs → (o : Operand) → IsKept keeps o → Agrees w n (value_of sig ls o) (value_of sig rs o)
value_of_agrees sig w n c keeps ls rs h (Local x) k = h x k
value_of_agrees sig w n c keeps ls rs h (Constant width bits) k = refl
value_of_agrees sig w n c keeps ls rs h Null k = (tt, refl)
value_of_agrees sig w n c keeps ls rs h (PoisonOf reg) k = tt
value_of_agrees sig w n c keeps ls rs h (Named s o) k = named_agrees sig w n c s o (sig.kind s) refl

-- operands with two values each
abbrev pub Valuation : Type 0
Valuation = Operand → Value

abbrev pub EachAgrees : Pairing → ℕ → Valuation → Valuation → List Argument → Type 0
EachAgrees w n value value' [] = Unit {0}
EachAgrees w n value value' (a ∷ more) = Agrees w n (value a.operand) (value' a.operand) × EachAgrees w n value value' more

pub values_of_agree : (w : Pairing) (n : ℕ) (value value' : Valuation) (args : List Argument) →
    EachAgrees w n value value' args → AllAgree w n (values_of value args) (values_of value' args)
values_of_agree w n value value' [] h = tt
values_of_agree w n value value' (a ∷ more) h = (h.0, values_of_agree w n value value' more h.1)

pub each_agrees : (sig : Signature) (w : Pairing) (n : ℕ) → Names sig w n → (keeps : ℕ → Bool) (ls rs : Locals) →
    LocalsAgree keeps w n ls rs → (args : List Argument) → AllKept keeps args →
    EachAgrees w n (value_of sig ls) (value_of sig rs) args
each_agrees sig w n c keeps ls rs h [] k = tt
each_agrees sig w n c keeps ls rs h (a ∷ more) k =
    (value_of_agrees sig w n c keeps ls rs h a.operand k.0, each_agrees sig w n c keeps ls rs h more k.1)

-- none on the right, or the same
abbrev pub NoneOrSame : {X : Type 0} → Option X → Option X → Type 0
NoneOrSame l r = (r ≡ None) ⊎ (l ≡ r)

pub bits_agree : (w : Pairing) (n k : ℕ) (v u : Value) → Agrees w n v u → NoneOrSame (bits_of k v) (bits_of k u)
bits_agree w n k v Poison a = inl refl
bits_agree w n k v (Pointer y j) a = inl refl
bits_agree w n k (Number l) (Number m) a = inr (ap (λ (i : ℕ). bits_of k (Number i)) a)
bits_agree w n k Poison (Number m) a = absurd a
bits_agree w n k (Pointer x i) (Number m) a = absurd a

signed_agrees : (k : ℕ) (a b : Option ℕ) → NoneOrSame a b → NoneOrSame (signed_of k a) (signed_of k b)
signed_agrees k a None h = inl refl
signed_agrees k a (Some n) (inl h) = absurd (cc h)
signed_agrees k a (Some n) (inr h) = inr (ap (signed_of k) h)

index_agrees : (w : Pairing) (n : ℕ) (reg : Reg) (v u : Value) → Agrees w n v u → NoneOrSame (index_of reg v) (index_of reg u)
index_agrees w n Ptr v u a = inl refl
index_agrees w n (Int k) v u a = signed_agrees k (bits_of k v) (bits_of k u) (bits_agree w n k v u a)

cons_agrees : (a b : Option ℤ) (as' bs : Option (List ℤ)) → NoneOrSame a b → NoneOrSame as' bs →
    NoneOrSame (cons_index a as') (cons_index b bs)
cons_agrees a None as' bs x y = inl refl
cons_agrees a (Some i) as' None x y = inl refl
cons_agrees a (Some i) as' (Some is) (inl x) y = absurd (cc x)
cons_agrees a (Some i) as' (Some is) (inr x) (inl y) = absurd (cc y)
cons_agrees a (Some i) as' (Some is) (inr x) (inr y) =
    inr (ap (λ (o : Option ℤ). cons_index o as') x ∙ ap (λ (o : Option (List ℤ)). cons_index (Some i) o) y)

pub indices_agree : (w : Pairing) (n : ℕ) (value value' : Valuation) (args : List Argument) → EachAgrees w n value value' args →
    NoneOrSame (indices_of value args) (indices_of value' args)
indices_agree w n value value' [] h = inr refl
indices_agree w n value value' (a ∷ more) h =
    cons_agrees _ _ _ _ (index_agrees w n a.reg _ _ h.0) (indices_agree w n value value' more h.1)

-- ---- operations

number_or_poison_same : (w : Pairing) (n : ℕ) (o : Option ℕ) → Agrees w n (number_or_poison o) (number_or_poison o)
number_or_poison_same w n None = tt
number_or_poison_same w n (Some k) = refl

plain_agrees : (w : Pairing) (n : ℕ) (op : BinaryOp) (f : Flags) (k : ℕ) (a b a' b' : Option ℕ) → NoneOrSame a a' →
    NoneOrSame b b' → Agrees w n (plain_bits op f k a b) (plain_bits op f k a' b')
plain_agrees w n op f k a b None b' x y = tt
plain_agrees w n op f k a b (Some i) None x y = tt
plain_agrees w n op f k a b (Some i) (Some j) (inl x) y = absurd (cc x)
plain_agrees w n op f k a b (Some i) (Some j) (inr x) (inl y) = absurd (cc y)
plain_agrees w n op f k a b (Some i) (Some j) (inr x) (inr y) =
    subst (λ (o : Option ℕ). Agrees w n (plain_bits op f k o b) (plain_bits op f k (Some i) (Some j))) (sym x)
    (subst (λ (o : Option ℕ). Agrees w n (plain_bits op f k (Some i) o) (plain_bits op f k (Some i) (Some j))) (sym y)
    (number_or_poison_same w n (arithmetic op f k i j)))

-- a number, or nothing where it breaks
by_number : (w : Pairing) (n : ℕ) (b : Bool) (o : Option ℕ) (why : Cause) →
    AnswerAgrees w n (if b then Never why else Is (number_or_poison o)) (if b then Never why else Is (number_or_poison o))
by_number w n true o why = tt
by_number w n false o why = number_or_poison_same w n o

by_poison : (w : Pairing) (n : ℕ) (may b : Bool) (v : Value) (why : Cause) →
    AnswerAgrees w n (if may && b then Never why else Is v) (if may then Never why else Is Poison)
by_poison w n true b v why = tt
by_poison w n false b v why = tt

both_poison : (w : Pairing) (n : ℕ) (may : Bool) (why : Cause) →
    AnswerAgrees w n (if may then Never why else Is Poison) (if may then Never why else Is Poison)
both_poison w n true why = tt
both_poison w n false why = tt

-- the same divisor; the dividend is the same, or poison on the right
dividend_agrees : (w : Pairing) (n : ℕ) (op : BinaryOp) (f : Flags) (k : ℕ) (a a' : Option ℕ) (j : ℕ) → NoneOrSame a a' →
    AnswerAgrees w n (division_bits op f k a (Some j)) (division_bits op f k a' (Some j))
dividend_agrees w n op f k None None j x = both_poison w n (may_break op k j) (division_cause j)
dividend_agrees w n op f k (Some i) None j x = by_poison w n (may_break op k j) ((j == 0) || (i == 2 ^ (k - 1)))
    (number_or_poison (arithmetic op f k i j)) (division_cause j)
dividend_agrees w n op f k a (Some i) j (inl x) = absurd (cc x)
dividend_agrees w n op f k a (Some i) j (inr x) =
    subst (λ (o : Option ℕ). AnswerAgrees w n (division_bits op f k o (Some j)) (division_bits op f k (Some i) (Some j)))
    (sym x) (by_number w n (breaks op k i j) (arithmetic op f k i j) (division_cause j))

division_agrees : (w : Pairing) (n : ℕ) (op : BinaryOp) (f : Flags) (k : ℕ) (a b a' b' : Option ℕ) → NoneOrSame a a' →
    NoneOrSame b b' → AnswerAgrees w n (division_bits op f k a b) (division_bits op f k a' b')
division_agrees w n op f k a b a' None x y = tt
division_agrees w n op f k a b a' (Some j) x (inl y) = absurd (cc y)
division_agrees w n op f k a b a' (Some j) x (inr y) =
    subst (λ (o : Option ℕ). AnswerAgrees w n (division_bits op f k a o) (division_bits op f k a' (Some j))) (sym y)
    (dividend_agrees w n op f k a a' j x)

pub binary_agrees : (w : Pairing) (n : ℕ) (op : BinaryOp) (f : Flags) (k : ℕ) (v u v' u' : Value) → Agrees w n v v' →
    Agrees w n u u' → AnswerAgrees w n (binary op f k v u) (binary op f k v' u')
binary_agrees w n op f k v u v' u' x y =
    let a = bits_agree w n k v v' x in
    let b = bits_agree w n k u u' y in
    if_answers w n (is_division op) (division_bits op f k (bits_of k v) (bits_of k u))
    (Is (plain_bits op f k (bits_of k v) (bits_of k u))) (division_bits op f k (bits_of k v') (bits_of k u'))
    (Is (plain_bits op f k (bits_of k v') (bits_of k u')))
    (division_agrees w n op f k (bits_of k v) (bits_of k u) (bits_of k v') (bits_of k u') a b)
    (plain_agrees w n op f k (bits_of k v) (bits_of k u) (bits_of k v') (bits_of k u') a b)

compared_bits_agree : (w : Pairing) (n : ℕ) (p : Predicate) (k : ℕ) (a b a' b' : Option ℕ) → NoneOrSame a a' → NoneOrSame b b' →
    Agrees w n (compared_bits p k a b) (compared_bits p k a' b')
compared_bits_agree w n p k a b None b' x y = tt
compared_bits_agree w n p k a b (Some i) None x y = tt
compared_bits_agree w n p k a b (Some i) (Some j) (inl x) y = absurd (cc x)
compared_bits_agree w n p k a b (Some i) (Some j) (inr x) (inl y) = absurd (cc y)
compared_bits_agree w n p k a b (Some i) (Some j) (inr x) (inr y) =
    subst (λ (o : Option ℕ). Agrees w n (compared_bits p k o b) (compared_bits p k (Some i) (Some j))) (sym x)
    (subst (λ (o : Option ℕ). Agrees w n (compared_bits p k (Some i) o) (compared_bits p k (Some i) (Some j))) (sym y) refl)

pub compared_agrees : (w : Pairing) (n : ℕ) (p : Predicate) (k : ℕ) (v u v' u' : Value) → Agrees w n v v' → Agrees w n u u' →
    Agrees w n (compared p k v u) (compared p k v' u')
compared_agrees w n p k v u v' u' x y =
    compared_bits_agree w n p k (bits_of k v) (bits_of k u) (bits_of k v') (bits_of k u') (bits_agree w n k v v' x)
    (bits_agree w n k u u' y)

cast_bits_agree : (w : Pairing) (n : ℕ) (op : CastOp) (from to : ℕ) (a a' : Option ℕ) → NoneOrSame a a' →
    Agrees w n (cast_bits op from to a) (cast_bits op from to a')
cast_bits_agree w n op from to a None x = tt
cast_bits_agree w n op from to a (Some i) (inl x) = absurd (cc x)
cast_bits_agree w n op from to a (Some i) (inr x) =
    subst (λ (o : Option ℕ). Agrees w n (cast_bits op from to o) (cast_bits op from to (Some i))) (sym x) refl

pub cast_agrees : (w : Pairing) (n : ℕ) (op : CastOp) (from to : Reg) (v v' : Value) → Agrees w n v v' →
    Agrees w n (cast op from to v) (cast op from to v')
cast_agrees w n op (Int from) (Int to) v v' x = cast_bits_agree w n op from to (bits_of from v) (bits_of from v')
    (bits_agree w n from v v' x)
cast_agrees w n op (Int from) Ptr v v' x = tt
cast_agrees w n op Ptr to v v' x = tt

selected_bits_agree : (w : Pairing) (n : ℕ) (a a' : Option ℕ) (v u v' u' : Value) → NoneOrSame a a' → Agrees w n v v' →
    Agrees w n u u' → Agrees w n (selected_bits a v u) (selected_bits a' v' u')
selected_bits_agree w n a None v u v' u' e x y = tt
selected_bits_agree w n a (Some i) v u v' u' (inl e) x y = absurd (cc e)
selected_bits_agree w n a (Some zero) v u v' u' (inr e) x y = subst (λ (o : Option ℕ). Agrees w n (selected_bits o v u) u') (sym e) y
selected_bits_agree w n a (Some (suc i)) v u v' u' (inr e) x y = subst (λ (o : Option ℕ). Agrees w n (selected_bits o v u) v') (sym e) x

pub selected_agrees : (w : Pairing) (n : ℕ) (c c' v u v' u' : Value) → Agrees w n c c' → Agrees w n v v' → Agrees w n u u' →
    Agrees w n (selected c v u) (selected c' v' u')
selected_agrees w n c c' v u v' u' e x y = selected_bits_agree w n (bits_of 1 c) (bits_of 1 c') v u v' u' (bits_agree w n 1 c c' e) x y

-- ---- free choices

-- a number of the width is below 2 ^ width
bits_small : (k : ℕ) (v : Value) (m : ℕ) → bits_of k v ≡ Some m → m < 2 ^ k
bits_small k Poison m e = absurd (cc e)
bits_small k (Pointer x i) m e = absurd (cc e)
bits_small k (Number l) m e = by (nat_lt l (2 ^ k)) refl e
  where
    by : (b : Bool) → nat_lt l (2 ^ k) ≡ b → (if b then Some l else None) ≡ Some m → m < 2 ^ k
    by true q e' = let is : l ≡ m = cc e' in let lt = ltb-true l (2 ^ k) q in omega arith
    by false q e' = absurd (cc e')

frozen_bits_agree : (w : Pairing) (n k choice : ℕ) (a a' : Option ℕ) → ((m : ℕ) → a ≡ Some m → m < 2 ^ k) → NoneOrSame a a' →
    (choice' : ℕ) × Agrees w n (frozen_bits k choice a) (frozen_bits k choice' a')
frozen_bits_agree w n k choice None None small x = (choice, refl)
frozen_bits_agree w n k choice (Some m) None small x = (m, sym (mod-eq_of_lt (small m refl)))
frozen_bits_agree w n k choice a (Some i) small (inl x) = absurd (cc x)
frozen_bits_agree w n k choice a (Some i) small (inr x) =
    (choice, subst (λ (o : Option ℕ). Agrees w n (frozen_bits k choice o) (Number i)) (sym x) refl)

pub frozen_agrees : (w : Pairing) (n : ℕ) (reg : Reg) (choice : ℕ) (v v' : Value) → Agrees w n v v' →
    (choice' : ℕ) × Agrees w n (frozen reg choice v) (frozen reg choice' v')
frozen_agrees w n Ptr choice v v' x = (choice, tt)
frozen_agrees w n (Int k) choice v v' x = frozen_bits_agree w n k choice (bits_of k v) (bits_of k v') (bits_small k v)
    (bits_agree w n k v v' x)

bit_mod : (b : Bool) → (if b then 1 else 0) ≡ (if b then 1 else 0) % 2
bit_mod true = refl
bit_mod false = refl

pub chosen_agrees : (w : Pairing) (n choice : ℕ) (l r : Option Bool) → NoneOrSame l r →
    (choice' : ℕ) × Agrees w n (chosen l choice) (chosen r choice')
chosen_agrees w n choice None None h = (choice, refl)
chosen_agrees w n choice (Some b) None h = (if b then 1 else 0, bit_mod b)
chosen_agrees w n choice l (Some b) (inl h) = absurd (cc h)
chosen_agrees w n choice l (Some b) (inr h) = (choice, subst (λ (o : Option Bool). Agrees w n (chosen o choice) (bit b)) (sym h) refl)

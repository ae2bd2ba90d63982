-- What is found under a name is a root of the program, and each root is found.
use Rattle.std.proofs.Common.{◌≡◌, inl, inr, ℕ, ◌<◌, Bool, true, false, if◌then◌else◌, List, [], ◌∷◌, length, slice_get, Option, Some, None, refl, sym, ap, subst, ◌∙◌, arith}
use Rattle.std.specs.Prelude.{All}
use Rattle.std.proofs.lemmas.List.Elements.{All-cons, All-head, All-nil, All-tail}
use Rattle.ir_tree.specs.Rules.{IsInteger}
use Rattle.ir_tree.specs.declared.block.Block.{Block}
use Rattle.ir_tree.specs.declared.function.Function.{Function as MeantFunction}
use Rattle.ir_tree.specs.declared.function.Param.{Param}
use Rattle.ir_tree.specs.declared.module.GlobalValue.{GlobalValue}
use Rattle.ir_tree.specs.declared.module.GlobalValue.TheVariants as global
use Rattle.ir_tree.specs.declared.operand.Reg.{Reg}
use Rattle.ir_tree.specs.declared.operand.Reg.TheVariants.{Int, Ptr}
use Rattle.ir_tree.specs.declared.operand.Symbol.{Symbol}
use Rattle.ir_meaning.specs.Frame.{AFunction, AHost, AVariable, SymbolKind, Missing}
use Rattle.ir_machine.specs.declared.scalar.Base.{Base}
use Rattle.ir_machine.specs.declared.scalar.Base.TheVariants as base
use Rattle.ir_interp.specs.Calls.{IsKind}
use Rattle.ir_interp.specs.declared.callee.Entity.{Entity}
use Rattle.ir_interp.specs.declared.callee.Entity.TheVariants as entity
use Rattle.ir_meaning.specs.Programs.{body_of, defined_blocks, kind_of, regs_of, shared, symbol_of}
use Rattle.ir_interp.specs.Code.{function_in, locals_of}
use Rattle.ir_interp.specs.Steps.{CanBegin}
use Rattle.ir_interp.specs.declared.code.Function.{Function}
use Rattle.machine_code.specs.Addresses.{base_in}
use Rattle.machine_code.specs.Blocks.{IsFunctionFor}
use Rattle.machine_code.specs.Lowered.{IsMadeOf}
use Rattle.machine_code.specs.Tables.{base_of, bytes_of, kind_at, number_at}
use Rattle.machine_code.specs.Programs.{IsBodyFor, IsBodyOf, IsEntityFor}
use Rattle.machine_code.specs.Roots.{IsRoot, are_integers, index_in, integers_of, only_integers}
use Rattle.machine_code.specs.declared.code.Lowered.{Lowered}
use Rattle.machine_code.proofs.Zips.{zip_beside, zip_got}

-- ---- types

integers_yes : (ps : List Param) → are_integers (regs_of ps) ≡ true → All (λ (p : Param). IsInteger p.reg) ps
integers_yes [] e = All-nil (λ (p : Param). IsInteger p.reg)
integers_yes (p ∷ ps) e = by p.reg refl e (integers_yes ps) where
  by : (r : Reg) → p.reg ≡ r → are_integers (r ∷ regs_of ps) ≡ true → (are_integers (regs_of ps) ≡ true → All (λ (x : Param). IsInteger x.reg) ps) → All (λ (x : Param). IsInteger x.reg) (p ∷ ps)
  by (Int w) f h rest = All-cons (λ (x : Param). IsInteger x.reg) p ps (subst (λ (r : Reg). IsInteger r) (sym f) tt) (rest h)
  by Ptr f h rest = absurd (cc h)

integers_no : (ps : List Param) → All (λ (p : Param). IsInteger p.reg) ps → are_integers (regs_of ps) ≡ true
integers_no [] h = refl
integers_no (p ∷ ps) h = by p.reg (All-head (λ (x : Param). IsInteger x.reg) p ps h) (integers_no ps (All-tail (λ (x : Param). IsInteger x.reg) p ps h)) where
  by : (r : Reg) → IsInteger r → are_integers (regs_of ps) ≡ true → are_integers (r ∷ regs_of ps) ≡ true
  by (Int w) j rest = rest
  by Ptr j rest = absurd j

integers_got : (regs types : List Reg) → Some types ≡ only_integers regs → (are_integers regs ≡ true) × (regs ≡ types)
integers_got regs types h = by (are_integers regs) refl h where
  by : (b : Bool) → are_integers regs ≡ b → Some types ≡ (if b then Some regs else None) → (are_integers regs ≡ true) × (regs ≡ types)
  by true e f = let same : types ≡ regs = cc f in (e, sym same)
  by false e f = absurd (cc f)

integers_are : (regs : List Reg) → are_integers regs ≡ true → only_integers regs ≡ Some regs
integers_are regs h = ap (λ (b : Bool). if b then Some regs else None) h

long_locals : (ps : List Param) → length (locals_of ps) ≡ length ps
long_locals [] = refl
long_locals (p ∷ ps) = omega (arith, long_locals ps)

pub long_types : (ps : List Param) → length (regs_of ps) ≡ length ps
long_types [] = refl
long_types (p ∷ ps) = omega (arith, long_types ps)

-- ---- indices

index_based : (k i : ℕ) (kind : SymbolKind) (size : ℕ) → base_of k kind size ≡ Some (base.Function i) → k ≡ i
index_based k i (AFunction params result) size e = cc e
index_based k i (AHost host) size e = cc e
index_based k i (AVariable n) size e = absurd (cc e)
index_based k i Missing size e = absurd (cc e)

function_base : (o : Option Base) (i : ℕ) → Some i ≡ index_in o → o ≡ Some (base.Function i)
function_base None i e = absurd (cc e)
function_base (Some base.Null) i e = absurd (cc e)
function_base (Some (base.Function k)) i e = let same : i ≡ k = cc e in ap (λ (j : ℕ). Some (base.Function j)) (sym same)
function_base (Some (base.Block h)) i e = absurd (cc e)

some_code : (o : Option (Option Function)) (f : Function) → Some f ≡ function_in o → o ≡ Some (Some f)
some_code None f e = absurd (cc e)
some_code (Some None) f e = absurd (cc e)
some_code (Some (Some g)) f e = let same : f ≡ g = cc e in ap (λ (x : Function). Some (Some x)) (sym same)

some_entity : (o : Option Entity) (types : List Reg) → Some types ≡ integers_of o → (e : Entity) × ((o ≡ Some e) × (Some types ≡ integers_of (Some e)))
some_entity None types h = absurd (cc h)
some_entity (Some e) types h = (e, (refl, h))

-- ---- a function that is defined

kind_defined : (n : ℕ) (f : MeantFunction) → 0 < length (defined_blocks f) → kind_at n (global.Function f) ≡ AFunction (regs_of f.params) f.result
kind_defined n f l = by (defined_blocks f) l where
  by : (bs : List Block) → 0 < length bs → kind_of true f.symbol (body_of bs f) ≡ AFunction (regs_of f.params) f.result
  by [] h = absurd (omega (arith, h))
  by (b ∷ bs) h = refl

kind_known : (x : Entity) (n : ℕ) (f : MeantFunction) → 0 < length (defined_blocks f) → IsKind x (kind_at n (global.Function f)) → IsKind x (AFunction (regs_of f.params) f.result)
kind_known x n f l k = subst (λ (z : SymbolKind). IsKind x z) (kind_defined n f l) k

made_code : (l : Lowered) (g : GlobalValue) (f : Function) → IsBodyFor l.addresses g (Some f) → (m : MeantFunction) × ((g ≡ global.Function m) × ((0 < length (defined_blocks m)) × IsFunctionFor l.addresses m f))
made_code l (global.Variable v) f k = absurd (cc k)
made_code l (global.Function m) f k = by (defined_blocks m) refl k where
  by : (bs : List Block) → defined_blocks m ≡ bs → IsBodyOf l.addresses m bs (Some f) → (x : MeantFunction) × ((global.Function m ≡ global.Function x) × ((0 < length (defined_blocks x)) × IsFunctionFor l.addresses x f))
  by [] e j = absurd (cc j)
  by (b ∷ bs) e j = (m, (refl, (omega (arith, ap (λ (xs : List Block). length xs) e), j)))

body_code : (l : Lowered) (m : MeantFunction) (bs : List Block) → 0 < length bs → (o : Option Function) → IsBodyOf l.addresses m bs o → (f : Function) × ((o ≡ Some f) × IsFunctionFor l.addresses m f)
body_code l m [] j o c = absurd (omega (arith, j))
body_code l m (b ∷ bs) j None c = absurd c
body_code l m (b ∷ bs) j (Some f) c = (f, (refl, c))

integers_all : (m : MeantFunction) (e : Entity) → IsKind e (AFunction (regs_of m.params) m.result) → integers_of (Some e) ≡ only_integers (regs_of m.params)
integers_all m (entity.Function params result) k = let same : regs_of m.params ≡ params.items = cc k in ap (λ (rs : List Reg). only_integers rs) (sym same)
integers_all m (entity.Host h) k = absurd (cc k)
integers_all m entity.Other k = absurd (other k) where
  other : IsKind entity.Other (AFunction (regs_of m.params) m.result) → ⊥
  other (inl e) = cc e
  other (inr e) = cc e.1

-- ---- roots

pub is_root : (gs : List GlobalValue) (l : Lowered) (name : List ℕ) (i : ℕ) (types : List Reg) → IsMadeOf gs l → Some i ≡ index_in (base_in l.addresses (shared name)) →
    Some types ≡ integers_of (slice_get l.code.entities.items i) → CanBegin l.code i (length types) → IsRoot gs name i types
is_root gs l name i types h at integers (f, (code, count)) =
    let d = h.table.only (shared name) (base.Function i) (function_base (base_in l.addresses (shared name)) i at) in
    let k = index_based d.index i (kind_at (number_at 0 gs d.index) d.value) (bytes_of d.value) d.base in
    let here : slice_get gs i ≡ Some d.value = ap (λ (j : ℕ). slice_get gs j) (sym k) ∙ d.there in
    let body = zip_got (IsBodyFor l.addresses) gs l.code.functions.items i d.value (Some f) h.bodies here (some_code (slice_get l.code.functions.items i) f (sym code)) in
    let m = made_code l d.value f body in
    let e = some_entity (slice_get l.code.entities.items i) types integers in
    let kind = zip_got IsEntityFor gs l.code.entities.items i d.value e.0 h.entities here e.1.0 (number_at 0 gs i) in
    let defined : kind_at (number_at 0 gs i) d.value ≡ AFunction (regs_of m.0.params) m.0.result = ap (λ (x : GlobalValue). kind_at (number_at 0 gs i) x) m.1.0 ∙ kind_defined (number_at 0 gs i) m.0 m.1.1.0 in
    let is : IsKind e.0 (AFunction (regs_of m.0.params) m.0.result) = subst (λ (x : SymbolKind). IsKind e.0 x) defined kind in
    let found = integers_got (regs_of m.0.params) types (e.1.1 ∙ integers_all m.0 e.0 is) in
    record {
      function = m.0;
      there = here ∙ ap Some m.1.0;
      named = sym (ap (λ (x : GlobalValue). symbol_of x) m.1.0) ∙ d.symbol;
      defined = m.1.1.0;
      integers = integers_yes m.0.params found.0;
      typed = found.1;
    }

module _ (gs : List GlobalValue) (l : Lowered) (name : List ℕ) (i : ℕ) (types : List Reg) (h : IsMadeOf gs l) (r : IsRoot gs name i types) where
  there : slice_get gs i ≡ Some (global.Function r.function)
  there = r.there

  pub root_indexed : index_in (base_in l.addresses (shared name)) ≡ Some i
  root_indexed =
      ap (λ (o : Option Base). index_in o)
      (sym (ap (λ (s : Symbol). base_in l.addresses s) r.named) ∙ h.table.found i (global.Function r.function) there
      ∙ ap (λ (k : SymbolKind). base_of i k 0) (kind_defined (number_at 0 gs i) r.function r.defined))

  pub root_integers : integers_of (slice_get l.code.entities.items i) ≡ Some types
  root_integers =
      let e = zip_beside IsEntityFor gs l.code.entities.items i (global.Function r.function) h.entities there in
      let is = kind_known e.0 (number_at 0 gs i) r.function r.defined (e.1.1 (number_at 0 gs i)) in
      ap (λ (o : Option Entity). integers_of o) e.1.0 ∙ integers_all r.function e.0 is ∙ integers_are (regs_of r.function.params) (integers_no r.function.params r.integers) ∙ ap Some r.typed

  pub root_begins : CanBegin l.code i (length types)
  root_begins =
      let o = zip_beside (IsBodyFor l.addresses) gs l.code.functions.items i (global.Function r.function) h.bodies there in
      let f = body_code l r.function (defined_blocks r.function) r.defined o.0 o.1.1 in
      let count = ap (λ (xs : List ℕ). length xs) f.1.1.params ∙ long_locals r.function.params ∙ sym (long_types r.function.params) ∙ ap (λ (xs : List Reg). length xs) r.typed in
      (f.0, (ap (λ (x : Option (Option Function)). function_in x) o.1.0 ∙ f.1.0, count))

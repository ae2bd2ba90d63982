-- A program under other names runs in lockstep.
use Rattle.std.proofs.Common.{◌≡◌, ℕ, zero, suc, ◌<◌, ◌≤◌, ℤ, Bool, true, false, ◌&&◌, ◌==◌, if◌then◌else◌, List, [], ◌∷◌, ◌++◌, map, option_map, Option, Some, None, slice_get, ◌⊎◌, inl, inr, refl, sym, ap, ◌∙◌, subst, arith, append-nil}
use Rattle.std.proofs.lemmas.Bool.{cases_lt}
use Rattle.std.proofs.lemmas.Option.{slice_get_past}
use Rattle.ir_tree.specs.declared.block.Block.{Block}
use Rattle.ir_tree.specs.declared.block.Terminator.{Terminator}
use Rattle.ir_tree.specs.declared.block.Terminator.TheVariants.{Return, Jump, Branch, Switch, Unreachable}
use Rattle.ir_tree.specs.declared.function.Function.{Function}
use Rattle.ir_tree.specs.declared.function.Param.{Param}
use Rattle.ir_tree.specs.declared.instr.Incoming.{Incoming}
use Rattle.ir_tree.specs.declared.instr.Instr.{Instr}
use Rattle.ir_tree.specs.declared.instr.Instr.TheVariants.{Binary, Icmp, Cast, Select, Freeze, Alloca, Load, Store, Address, Call, Phi as StrayPhi}
use Rattle.ir_tree.specs.declared.instr.Line.{Line}
use Rattle.ir_tree.specs.declared.instr.Phi.{Phi}
use Rattle.ir_tree.specs.declared.instr.Predicate.{Predicate}
use Rattle.ir_tree.specs.declared.operand.Argument.{Argument}
use Rattle.ir_tree.specs.declared.operand.Operand.{Operand}
use Rattle.ir_tree.specs.declared.operand.Operand.TheVariants.{Local, Number as Constant, Null, Poison as PoisonOf, Symbol as Named}
use Rattle.ir_tree.specs.declared.operand.Reg.{Reg}
use Rattle.ir_tree.specs.declared.operand.Reg.TheVariants.{Int, Ptr}
use Rattle.ir_tree.specs.declared.operand.Symbol.{Symbol}
use Rattle.ir_meaning.specs.Access.{store_cause, load, store}
use Rattle.ir_meaning.specs.Act.{Act, Goes, Calls, Gives, Breaks, with_slot, apply, incoming_value, phis_bound, find_block, enters_block, jumps, case_target, side, Exit, Leaves, Leads', Stuck, by_bits, by_value, exit_of, exits, act, params_bound, enter_at, enter, resume}
use Rattle.ir_meaning.specs.Address.{address_of}
use Rattle.ir_meaning.specs.Execute.{regs_eq, result_eq, host_params, Task, ToBinary, ToCompare, ToCast, ToSelect, ToFreeze, ToReserve, ToLoad, ToStore, ToAddress, ToCall, ToPoison, evaluate, Effect, Went, Asked, Broke, gives, stores, compares, gets_char, puts_bits, puts_char, calls_host, calls_kind, calls_value, execute}
use Rattle.ir_meaning.specs.Fault.{Fault, Undefined, Uninit}
use Rattle.ir_meaning.specs.Frame.{Locals, Frame, Host, PutChar, GetChar, SymbolKind, AFunction, AVariable, AHost, Missing, Signature, look_up, bind, named, value_of, values_of, signed_of, index_of, cons_index, indices_of, regs_of}
use Rattle.ir_meaning.specs.Memory.{Memory, fresh, kill}
use Rattle.ir_meaning.specs.Operate.{Answer, Is, Never, Unwritten, binary, bits_of, cast, selected, frozen}
use Rattle.ir_meaning.specs.Program.{Program, State, Next, On, Done, Broken, Failure, place_of, Took, back, go_in, advance, step}
use Rattle.ir_meaning.specs.Refine.{Naming, SameCell, MayStandFor, AnswerMayStandFor, SameEnding, Matched, RefinesFrom}
use Rattle.ir_meaning.specs.Run.{Ending, Running, Returned, Failed, Ran, run_on, run, start_of}
use Rattle.ir_meaning.specs.declared.event.Event.{Event}
use Rattle.ir_tree.specs.declared.cause.Cause.{Cause}
use Rattle.ir_meaning.specs.declared.fault.Place.{Place}
use Rattle.ir_tree.specs.declared.cause.Cause.TheVariants.{UnreachableReached, CallOfNoFunction, CallOfAnotherType, PoisonArgument}
use Rattle.ir_meaning.specs.declared.value.Base.TheVariants.{Nowhere, Code, Cell}
use Rattle.ir_meaning.specs.declared.value.Value.{Value}
use Rattle.ir_meaning.specs.declared.value.Value.TheVariants.{Number, Pointer, Poison}
use Rattle.ir_meaning.specs.Rename.{operand_under, line_under, edge_under, phi_under, end_under, block_under, FunctionUnder, CodeUnder, cell_under, cells_under, kind_under, IsRenamed, RenamedRefines}
use Rattle.ir_meaning.proofs.Alike.Answering.{act_at_line, act_at_end}
use Rattle.ir_meaning.proofs.Inlining.Values.{evaluate_with}
use Rattle.ir_meaning.proofs.Names.Moved.{Right, value_under, answer_under, cell_variable, cell_slot, bits_same, binary_under, compared_under, cast_under, selected_under, frozen_under, MemoryUnder, load_under, MaybeUnder, store_under, cell_next, more_under, kill_under, address_under, pointers_under}

-- ---- values of operands

abbrev pub locals_under : Naming → Locals → Locals
locals_under t [] = []
locals_under t ((x, v) ∷ ls) = (x, value_under t v) ∷ locals_under t ls

abbrev pub maybe_value : Naming → Option Value → Option Value
maybe_value t o = option_map (value_under t) o

-- each symbol is there what it is here
abbrev pub KindsUnder : Naming → Signature → Signature → Type 0
KindsUnder t sig sig' = (s : Symbol) → sig'.kind (t.symbol s) ≡ kind_under t (sig.kind s)

if_under : (t : Naming) (b : Bool) (v u : Value) → (if b then value_under t v else value_under t u) ≡ value_under t (if b then v else u)
if_under t true v u = refl
if_under t false v u = refl

look_under : (t : Naming) (ls : Locals) (x : ℕ) → look_up (locals_under t ls) x ≡ value_under t (look_up ls x)
look_under t [] x = refl
look_under t ((y, v) ∷ ls) x =
    ap (λ (u : Value). if y == x then value_under t v else u) (look_under t ls x) ∙ if_under t (y == x) v (look_up ls x)

named_under : (t : Naming) (k : SymbolKind) (s : Symbol) (o : ℕ) → named (kind_under t k) (t.symbol s) o ≡ value_under t (named k s o)
named_under t (AFunction params result) s o = refl
named_under t (AVariable number) s o = refl
named_under t (AHost host) s o = refl
named_under t Missing s o = refl

operand_same : (t : Naming) (sig sig' : Signature) → KindsUnder t sig sig' → (ls : Locals) (o : Operand) →
    value_of sig' (locals_under t ls) (operand_under t o) ≡ value_under t (value_of sig ls o)
operand_same t sig sig' k ls (Local x) = look_under t ls x
operand_same t sig sig' k ls (Constant w bits) = refl
operand_same t sig sig' k ls Null = refl
operand_same t sig sig' k ls (PoisonOf reg) = refl
operand_same t sig sig' k ls (Named s o) = ap (λ (x : SymbolKind). named x (t.symbol s) o) (k s) ∙ named_under t (sig.kind s) s o

-- ---- tasks

abbrev pub task_under : Naming → Task → Task
task_under t (ToBinary op f w v u) = ToBinary op f w (value_under t v) (value_under t u)
task_under t (ToCompare p reg v u) = ToCompare p reg (value_under t v) (value_under t u)
task_under t (ToCast op from to v) = ToCast op from to (value_under t v)
task_under t (ToSelect c v u) = ToSelect (value_under t c) (value_under t v) (value_under t u)
task_under t (ToFreeze w v) = ToFreeze w (value_under t v)
task_under t (ToReserve size align) = ToReserve size align
task_under t (ToLoad reg v align) = ToLoad reg (value_under t v) align
task_under t (ToStore reg v u align) = ToStore reg (value_under t v) (value_under t u) align
task_under t (ToAddress inbounds shape v is) = ToAddress inbounds shape (value_under t v) is
task_under t (ToCall result regs vs c) = ToCall result regs (map (value_under t) vs) (value_under t c)
task_under t ToPoison = ToPoison

-- the second valuation gives what the first gives, under the other names
abbrev pub ValuesUnder : Naming → (Operand → Value) → (Operand → Value) → Type 0
ValuesUnder t a b = (o : Operand) → b o ≡ value_under t (a o)

index_same : (t : Naming) (reg : Reg) (v : Value) → index_of reg (value_under t v) ≡ index_of reg v
index_same t (Int w) v = ap (signed_of w) (bits_same t w v)
index_same t Ptr v = refl

indices_same : (t : Naming) (a b : Operand → Value) → ValuesUnder t a b → (args : List Argument) → indices_of b args ≡ indices_of a args
indices_same t a b h [] = refl
indices_same t a b h (x ∷ args) =
    ap (λ (v : Value). cons_index (index_of x.reg v) (indices_of b args)) (h x.operand)
    ∙ ap (λ (i : Option ℤ). cons_index i (indices_of b args)) (index_same t x.reg (a x.operand))
    ∙ ap (λ (is : Option (List ℤ)). cons_index (index_of x.reg (a x.operand)) is) (indices_same t a b h args)

values_same : (t : Naming) (a b : Operand → Value) → ValuesUnder t a b → (args : List Argument) →
    values_of b args ≡ map (value_under t) (values_of a args)
values_same t a b h [] = refl
values_same t a b h (x ∷ args) =
    ap (λ (v : Value). v ∷ values_of b args) (h x.operand)
    ∙ ap (λ (vs : List Value). value_under t (a x.operand) ∷ vs) (values_same t a b h args)

evaluate_same : (t : Naming) (a b : Operand → Value) → ValuesUnder t a b → (i : Instr) → evaluate b i ≡ task_under t (evaluate a i)
evaluate_same t a b h (Binary op f w l r) = ap (λ (v : Value). ToBinary op f w v (b r)) (h l)
    ∙ ap (λ (v : Value). ToBinary op f w (value_under t (a l)) v) (h r)
evaluate_same t a b h (Icmp p reg l r) = ap (λ (v : Value). ToCompare p reg v (b r)) (h l)
    ∙ ap (λ (v : Value). ToCompare p reg (value_under t (a l)) v) (h r)
evaluate_same t a b h (Cast op from o to) = ap (λ (v : Value). ToCast op from to v) (h o)
evaluate_same t a b h (Select c l r) =
    ap (λ (v : Value). ToSelect v (b l.operand) (b r.operand)) (h c)
    ∙ ap (λ (v : Value). ToSelect (value_under t (a c)) v (b r.operand)) (h l.operand)
    ∙ ap (λ (v : Value). ToSelect (value_under t (a c)) (value_under t (a l.operand)) v) (h r.operand)
evaluate_same t a b h (Freeze w o) = ap (λ (v : Value). ToFreeze w v) (h o)
evaluate_same t a b h (Alloca shape align) = refl
evaluate_same t a b h (Load reg o align) = ap (λ (v : Value). ToLoad reg v align) (h o)
evaluate_same t a b h (Store reg o d align) = ap (λ (v : Value). ToStore reg v (b d) align) (h o)
    ∙ ap (λ (v : Value). ToStore reg (value_under t (a o)) v align) (h d)
evaluate_same t a b h (Address inbounds shape o is) =
    ap (λ (v : Value). ToAddress inbounds shape v (indices_of b is)) (h o)
    ∙ ap (λ (x : Option (List ℤ)). ToAddress inbounds shape (value_under t (a o)) x) (indices_same t a b h is)
evaluate_same t a b h (Call result c args) =
    ap (λ (vs : List Value). ToCall result (regs_of args) vs (b c)) (values_same t a b h args)
    ∙ ap (λ (v : Value). ToCall result (regs_of args) (map (value_under t) (values_of a args)) v) (h c)
evaluate_same t a b h (StrayPhi reg es) = refl

-- ---- effects

-- the second effect is the first under the other names
abbrev pub EffectUnder : Naming → Effect → Effect → Type 0
EffectUnder t (Went v slot m place es) y = (m' : Memory) ×
    (y ≡ Went (maybe_value t v) (option_map (cell_under t) slot) m' place es) × MemoryUnder t m m'
EffectUnder t (Asked s vs) y = y ≡ Asked (t.symbol s) (map (value_under t) vs)
EffectUnder t (Broke why) y = (other : Fault) × (y ≡ Broke other)

gives_same : (t : Naming) (m m' : Memory) → MemoryUnder t m m' → (place : ℕ) (x : Answer) →
    EffectUnder t (gives m place x) (gives m' place (answer_under t x))
gives_same t m m' h place (Is v) = (m', refl, h)
gives_same t m m' h place (Never why) = (Undefined why, refl)
gives_same t m m' h place Unwritten = (Uninit, refl)

gives_under : (t : Naming) (m m' : Memory) → MemoryUnder t m m' → (place : ℕ) (x y : Answer) → y ≡ answer_under t x →
    EffectUnder t (gives m place x) (gives m' place y)
gives_under t m m' h place x y e = subst (λ (z : Answer). EffectUnder t (gives m place x) (gives m' place z)) (sym e)
    (gives_same t m m' h place x)

is_under : (t : Naming) (m m' : Memory) → MemoryUnder t m m' → (place : ℕ) (v u : Value) → u ≡ value_under t v →
    EffectUnder t (gives m place (Is v)) (gives m' place (Is u))
is_under t m m' h place v u e = gives_under t m m' h place (Is v) (Is u) (ap (λ (x : Value). Is x) e)

stores_under : (t : Naming) (place : ℕ) (why why' : Cause) (o o' : Option Memory) → MaybeUnder t o o' →
    EffectUnder t (stores place why o) (stores place why' o')
stores_under t place why why' None o' e = (Undefined why', ap (stores place why') e)
stores_under t place why why' (Some m) o' x = (x.0, ap (stores place why') x.1, x.2)

compares_under : (t : Naming) → Right t → (m m' : Memory) → MemoryUnder t m m' →
    (choice : ℕ) (p : Predicate) (reg : Reg) (v u : Value) →
    compares m' choice p reg (value_under t v) (value_under t u) ≡ value_under t (compares m choice p reg v u)
compares_under t r m m' h choice p (Int w) v u = compared_under t p w v u
compares_under t r m m' h choice p Ptr v u = pointers_under t r m m' h p v u choice

if_effect : (t : Naming) (b : Bool) (x y : Effect) (why : Fault) → EffectUnder t x y →
    EffectUnder t (if b then x else Broke why) (if b then y else Broke why)
if_effect t true x y why h = h
if_effect t false x y why h = (why, refl)

gets_under : (t : Naming) (m m' : Memory) → MemoryUnder t m m' → (place : ℕ) (o : Option ℕ) →
    EffectUnder t (gets_char m place o) (gets_char m' place o)
gets_under t m m' h place (Some byte) = (m', refl, h)
gets_under t m m' h place None = (m', refl, h)

puts_under : (t : Naming) (m m' : Memory) → MemoryUnder t m m' → (place : ℕ) (vs : List Value) →
    EffectUnder t (puts_char m place vs) (puts_char m' place (map (value_under t) vs))
puts_under t m m' h place [] = (Undefined PoisonArgument, refl)
puts_under t m m' h place (v ∷ []) = subst (λ (o : Option ℕ). EffectUnder t (puts_bits m place (bits_of 32 v)) (puts_bits m' place o)) (sym (bits_same t 32 v)) (by (bits_of 32 v))
  where
    by : (o : Option ℕ) → EffectUnder t (puts_bits m place o) (puts_bits m' place o)
    by (Some n) = (m', refl, h)
    by None = (Undefined PoisonArgument, refl)
puts_under t m m' h place (u ∷ v ∷ vs) = (Undefined PoisonArgument, refl)

host_under : (t : Naming) (m m' : Memory) → MemoryUnder t m m' → (host : Host) (input : List ℕ) (place : ℕ) (vs : List Value) →
    EffectUnder t (calls_host host input m place vs) (calls_host host input m' place (map (value_under t) vs))
host_under t m m' h PutChar input place vs = puts_under t m m' h place vs
host_under t m m' h GetChar input place vs = gets_under t m m' h place (slice_get input place)

calls_under : (t : Naming) (m m' : Memory) → MemoryUnder t m m' →
    (k : SymbolKind) (s : Symbol) (input : List ℕ) (place : ℕ) (result : Option Reg) (regs : List Reg) (vs : List Value) →
    EffectUnder t (calls_kind k s input m place result regs vs)
    (calls_kind (kind_under t k) (t.symbol s) input m' place result regs (map (value_under t) vs))
calls_under t m m' h (AFunction params result') s input place result regs vs =
    if_effect t (regs_eq params regs && result_eq result' result) (Asked s vs) (Asked (t.symbol s) (map (value_under t) vs))
    (Undefined CallOfAnotherType) refl
calls_under t m m' h (AHost host) s input place result regs vs =
    if_effect t (regs_eq (host_params host) regs && result_eq (Some (Int 32)) result) (calls_host host input m place vs)
    (calls_host host input m' place (map (value_under t) vs)) (Undefined CallOfAnotherType)
    (host_under t m m' h host input place vs)
calls_under t m m' h (AVariable number) s input place result regs vs = (Undefined CallOfNoFunction, refl)
calls_under t m m' h Missing s input place result regs vs = (Undefined CallOfNoFunction, refl)

call_under : (t : Naming) (sig sig' : Signature) → KindsUnder t sig sig' → (m m' : Memory) → MemoryUnder t m m' →
    (input : List ℕ) (place : ℕ) (result : Option Reg) (regs : List Reg) (vs : List Value) (c : Value) →
    EffectUnder t (calls_value sig input m place result regs vs c)
    (calls_value sig' input m' place result regs (map (value_under t) vs) (value_under t c))
call_under t sig sig' k m m' h input place result regs vs (Pointer (Code s) zero) =
    subst (λ (x : SymbolKind). EffectUnder t (calls_kind (sig.kind s) s input m place result regs vs)
    (calls_kind x (t.symbol s) input m' place result regs (map (value_under t) vs))) (sym (k s))
    (calls_under t m m' h (sig.kind s) s input place result regs vs)
call_under t sig sig' k m m' h input place result regs vs (Pointer (Code s) (suc o)) = (Undefined CallOfNoFunction, refl)
call_under t sig sig' k m m' h input place result regs vs (Pointer Nowhere o) = (Undefined CallOfNoFunction, refl)
call_under t sig sig' k m m' h input place result regs vs (Pointer (Cell l) o) = (Undefined CallOfNoFunction, refl)
call_under t sig sig' k m m' h input place result regs vs (Number n) = (Undefined CallOfNoFunction, refl)
call_under t sig sig' k m m' h input place result regs vs Poison = (Undefined CallOfNoFunction, refl)

-- the one lemma over the instruction set
execute_under : (t : Naming) → Right t → (sig sig' : Signature) → KindsUnder t sig sig' → (m m' : Memory) → MemoryUnder t m m' →
    (input : List ℕ) (place choice : ℕ) (x : Task) →
    EffectUnder t (execute sig input m place choice x) (execute sig' input m' place choice (task_under t x))
execute_under t r sig sig' k m m' h input place choice (ToBinary op f w v u) =
    gives_under t m m' h place (binary op f w v u) (binary op f w (value_under t v) (value_under t u)) (binary_under t op f w v u)
execute_under t r sig sig' k m m' h input place choice (ToCompare p reg v u) =
    is_under t m m' h place (compares m choice p reg v u) (compares m' choice p reg (value_under t v) (value_under t u))
    (compares_under t r m m' h choice p reg v u)
execute_under t r sig sig' k m m' h input place choice (ToCast op from to v) =
    is_under t m m' h place (cast op from to v) (cast op from to (value_under t v)) (cast_under t op from to v)
execute_under t r sig sig' k m m' h input place choice (ToSelect c v u) =
    is_under t m m' h place (selected c v u) (selected (value_under t c) (value_under t v) (value_under t u)) (selected_under t c v u)
execute_under t r sig sig' k m m' h input place choice (ToFreeze w v) =
    is_under t m m' h place (frozen w choice v) (frozen w choice (value_under t v)) (frozen_under t w choice v)
execute_under t r sig sig' k m m' h input place choice (ToReserve size align) =
    let m'' = m' ++ fresh size align ∷ [] in (
      m'',
      ap (λ (i : ℕ). Went (Some (Pointer (Cell i) 0)) (Some i) m'' place []) (sym (cell_next t m m' h)),
      more_under t r m m' h size align,
    )
execute_under t r sig sig' k m m' h input place choice (ToLoad reg v align) =
    gives_under t m m' h place (load m reg v align) (load m' reg (value_under t v) align) (load_under t r m m' h reg v align)
execute_under t r sig sig' k m m' h input place choice (ToStore reg v u align) =
    stores_under t place (store_cause m reg u) (store_cause m' reg (value_under t u)) (store m reg v u align)
    (store m' reg (value_under t v) (value_under t u) align) (store_under t r m m' h reg v u align)
execute_under t r sig sig' k m m' h input place choice (ToAddress inbounds shape v is) =
    is_under t m m' h place (address_of m inbounds shape v is) (address_of m' inbounds shape (value_under t v) is)
    (address_under t m m' h inbounds shape v is)
execute_under t r sig sig' k m m' h input place choice (ToCall result regs vs c) =
    call_under t sig sig' k m m' h input place result regs vs c
execute_under t r sig sig' k m m' h input place choice ToPoison = is_under t m m' h place Poison Poison refl

-- ---- frames

pub record FrameUnder (t : Naming) (a b : Frame) : Type 0 where
  pub function : FunctionUnder t a.function b.function
  pub block : b.block ≡ a.block
  pub rest : b.rest ≡ map (line_under t) a.rest
  pub end : b.end ≡ end_under t a.end
  pub locals : b.locals ≡ locals_under t a.locals
  pub slots : b.slots ≡ map (cell_under t) a.slots
  pub awaits : b.awaits ≡ a.awaits

-- the second does what the first does, under the other names
abbrev pub ActUnder : Naming → Act → Act → Type 0
ActUnder t (Goes a m place es) y = (b : Frame) × (m' : Memory) × (y ≡ Goes b m' place es) × FrameUnder t a b × MemoryUnder t m m'
ActUnder t (Calls s vs a) y = (b : Frame) × (y ≡ Calls (t.symbol s) (map (value_under t) vs) b) × FrameUnder t a b
ActUnder t (Gives v m) y = (m' : Memory) × (y ≡ Gives (maybe_value t v) m') × MemoryUnder t m m'
ActUnder t (Breaks why) y = (other : Fault) × (y ≡ Breaks other)

bind_under : (t : Naming) (o : Option ℕ) (v : Option Value) (ls : Locals) →
    bind o (maybe_value t v) (locals_under t ls) ≡ locals_under t (bind o v ls)
bind_under t None v ls = refl
bind_under t (Some x) None ls = refl
bind_under t (Some x) (Some v) ls = refl

slot_under : (t : Naming) (o : Option ℕ) (ks : List ℕ) →
    with_slot (option_map (cell_under t) o) (map (cell_under t) ks) ≡ map (cell_under t) (with_slot o ks)
slot_under t None ks = refl
slot_under t (Some k) ks = refl

apply_under : (t : Naming) (a b : Frame) → FrameUnder t a b → (local : Option ℕ) (x y : Effect) → EffectUnder t x y →
    ActUnder t (apply a local x) (apply b local y)
apply_under t a b f local (Went v slot m place es) y h =
    let slot' = option_map (cell_under t) slot in
    let b' : Frame = record b { locals = bind local (maybe_value t v) b.locals; slots = with_slot slot' b.slots } in (
      b',
      h.0,
      ap (apply b local) h.1,
      record {
        function = f.function;
        block = f.block;
        rest = f.rest;
        end = f.end;
        locals = ap (bind local (maybe_value t v)) f.locals ∙ bind_under t local v a.locals;
        slots = ap (with_slot slot') f.slots ∙ slot_under t slot a.slots;
        awaits = f.awaits;
      },
      h.2,
    )
apply_under t a b f local (Asked s vs) y h =
    let b' : Frame = record b { awaits = local } in (
      b',
      ap (apply b local) h,
      record {
        function = f.function;
        block = f.block;
        rest = f.rest;
        end = f.end;
        locals = f.locals;
        slots = f.slots;
        awaits = refl;
      },
    )
apply_under t a b f local (Broke why) y h = (h.0, ap (apply b local) h.1)

-- ---- jumps

edge_same : (t : Naming) (sig sig' : Signature) → KindsUnder t sig sig' → (ls : Locals) (from : ℕ) (es : List Incoming) →
    incoming_value sig' (locals_under t ls) from (map (edge_under t) es) ≡ value_under t (incoming_value sig ls from es)
edge_same t sig sig' k ls from [] = refl
edge_same t sig sig' k ls from (e ∷ es) =
    ap (λ (v : Value). if e.from == from then v else incoming_value sig' (locals_under t ls) from (map (edge_under t) es))
    (operand_same t sig sig' k ls e.value)
    ∙ ap (λ (v : Value). if e.from == from then value_under t (value_of sig ls e.value) else v) (edge_same t sig sig' k ls from es)
    ∙ if_under t (e.from == from) (value_of sig ls e.value) (incoming_value sig ls from es)

phis_same : (t : Naming) (sig sig' : Signature) → KindsUnder t sig sig' →
    (ls : Locals) (from : ℕ) (ps : List Phi) (after : Locals) →
    phis_bound sig' (locals_under t ls) from (map (phi_under t) ps) (locals_under t after) ≡ locals_under t
    (phis_bound sig ls from ps after)
phis_same t sig sig' k ls from [] after = refl
phis_same t sig sig' k ls from (x ∷ ps) after =
    ap (λ (v : Value). (x.local, v) ∷ phis_bound sig' (locals_under t ls) from (map (phi_under t) ps) (locals_under t after))
    (edge_same t sig sig' k ls from x.incoming)
    ∙ ap (λ (l : Locals). (x.local, value_under t (incoming_value sig ls from x.incoming)) ∷ l) (phis_same t sig sig' k ls from ps after)

find_if : (t : Naming) (b : Bool) (x : Block) (o : Option Block) →
    (if b then Some (block_under t x) else option_map (block_under t) o) ≡ option_map (block_under t) (if b then Some x else o)
find_if t true x o = refl
find_if t false x o = refl

find_under : (t : Naming) (bs : List Block) (n : ℕ) → find_block (map (block_under t) bs) n ≡ option_map (block_under t) (find_block bs n)
find_under t [] n = refl
find_under t (b ∷ bs) n =
    ap (λ (o : Option Block). if b.number == n then Some (block_under t b) else o) (find_under t bs n)
    ∙ find_if t (b.number == n) b (find_block bs n)

enters_under : (t : Naming) (sig sig' : Signature) → KindsUnder t sig sig' → (m m' : Memory) → MemoryUnder t m m' →
    (a b : Frame) → FrameUnder t a b → (place : ℕ) (o : Option Block) →
    ActUnder t (enters_block sig a m place o) (enters_block sig' b m' place (option_map (block_under t) o))
enters_under t sig sig' k m m' h a b f place None = (Undefined UnreachableReached, refl)
enters_under t sig sig' k m m' h a b f place (Some x) =
    let ps = map (phi_under t) x.phis in
    let b' : Frame = record b {
      block = x.number;
      rest = map (line_under t) x.lines;
      end = end_under t x.end;
      locals = phis_bound sig' b.locals b.block ps b.locals;
    } in (
      b',
      m',
      refl,
      record {
        function = f.function;
        block = refl;
        rest = refl;
        end = refl;
        locals = ap (λ (l : Locals). phis_bound sig' l b.block ps l) f.locals
            ∙ ap (λ (n : ℕ). phis_bound sig' (locals_under t a.locals) n ps (locals_under t a.locals)) f.block
            ∙ phis_same t sig sig' k a.locals a.block x.phis a.locals;
        slots = f.slots;
        awaits = f.awaits;
      },
      h,
    )

jumps_under : (t : Naming) (sig sig' : Signature) → KindsUnder t sig sig' → (m m' : Memory) → MemoryUnder t m m' →
    (a b : Frame) → FrameUnder t a b → (place target : ℕ) → ActUnder t (jumps sig a m place target) (jumps sig' b m' place target)
jumps_under t sig sig' k m m' h a b f place target =
    let e : find_block b.function.blocks target ≡ option_map (block_under t) (find_block a.function.blocks target) =
    ap (λ (l : List Block). find_block l target) f.function.blocks ∙ find_under t a.function.blocks target in
    subst (λ (o : Option Block). ActUnder t (jumps sig a m place target) (enters_block sig' b m' place o)) (sym e)
    (enters_under t sig sig' k m m' h a b f place (find_block a.function.blocks target))

-- ---- terminators

abbrev pub exit_under : Naming → Exit → Exit
exit_under t (Leaves v) = Leaves (maybe_value t v)
exit_under t (Leads' target) = Leads' target
exit_under t (Stuck cause) = Stuck cause

by_value_under : (t : Naming) (w : ℕ) (target : ℕ → ℕ) (v : Value) → by_value w target (value_under t v) ≡ exit_under t (by_value w target v)
by_value_under t w target v = ap (by_bits target) (bits_same t w v) ∙ by (bits_of w v)
  where
    by : (o : Option ℕ) → by_bits target o ≡ exit_under t (by_bits target o)
    by None = refl
    by (Some n) = refl

exit_same : (t : Naming) (a b : Operand → Value) → ((o : Operand) → b (operand_under t o) ≡ value_under t (a o)) →
    (e : Terminator) → exit_of b (end_under t e) ≡ exit_under t (exit_of a e)
exit_same t a b h (Return None) = refl
exit_same t a b h (Return (Some x)) = ap (λ (v : Value). Leaves (Some v)) (h x.operand)
exit_same t a b h (Jump target) = refl
exit_same t a b h (Branch c yes' no') = ap (by_value 1 (side yes' no')) (h c) ∙ by_value_under t 1 (side yes' no') (a c)
exit_same t a b h (Switch w o default cases) = ap (by_value w (case_target cases default)) (h o)
    ∙ by_value_under t w (case_target cases default) (a o)
exit_same t a b h Unreachable = refl

exits_under : (t : Naming) → Right t → (sig sig' : Signature) → KindsUnder t sig sig' → (m m' : Memory) → MemoryUnder t m m' →
    (a b : Frame) → FrameUnder t a b → (place : ℕ) (x : Exit) →
    ActUnder t (exits sig a m place x) (exits sig' b m' place (exit_under t x))
exits_under t r sig sig' k m m' h a b f place (Leaves v) =
    (kill (map (cell_under t) a.slots) m', ap (λ (l : List ℕ). Gives (maybe_value t v) (kill l m')) f.slots, kill_under t r a.slots m m' h)
exits_under t r sig sig' k m m' h a b f place (Leads' target) = jumps_under t sig sig' k m m' h a b f place target
exits_under t r sig sig' k m m' h a b f place (Stuck cause) = (Undefined cause, refl)

-- ---- a frame's step

values_here : (t : Naming) (sig sig' : Signature) → KindsUnder t sig sig' → (a b : Frame) → FrameUnder t a b → (o : Operand) →
    value_of sig' b.locals (operand_under t o) ≡ value_under t (value_of sig a.locals o)
values_here t sig sig' k a b f o = ap (λ (l : Locals). value_of sig' l (operand_under t o)) f.locals ∙ operand_same t sig sig' k a.locals o

act_rest : (t : Naming) → Right t → (sig sig' : Signature) → KindsUnder t sig sig' → (m m' : Memory) → MemoryUnder t m m' →
    (a b : Frame) → FrameUnder t a b → (input : List ℕ) (place choice : ℕ) (rest : List Line) → a.rest ≡ rest →
    ActUnder t (act sig input a m place choice) (act sig' input b m' place choice)
act_rest t r sig sig' k m m' h a b f input place choice [] e =
    let e' : b.rest ≡ [] = f.rest ∙ ap (map (line_under t)) e in
    let x : exit_of (value_of sig' b.locals) b.end ≡ exit_under t (exit_of (value_of sig a.locals) a.end) =
    ap (exit_of (value_of sig' b.locals)) f.end ∙ exit_same t (value_of sig a.locals) (value_of sig' b.locals)
    (values_here t sig sig' k a b f) a.end in
    let y = exits_under t r sig sig' k m m' h a b f place (exit_of (value_of sig a.locals) a.end) in
    let y' = subst (λ (z : Exit). ActUnder t (exits sig a m place (exit_of (value_of sig a.locals) a.end))
    (exits sig' b m' place z)) (sym x) y in
    let y'' = subst (λ (z : Act). ActUnder t z (exits sig' b m' place (exit_of (value_of sig' b.locals) b.end)))
    (sym (act_at_end sig input a m place choice e)) y' in
    subst (λ (z : Act). ActUnder t (act sig input a m place choice) z) (sym (act_at_end sig' input b m' place choice e')) y''
act_rest t r sig sig' k m m' h a b f input place choice (line ∷ rest) e =
    let line' = line_under t line in
    let rest' = map (line_under t) rest in
    let e' : b.rest ≡ line' ∷ rest' = f.rest ∙ ap (map (line_under t)) e in
    let task = evaluate (value_of sig a.locals) line.instr in
    let x : evaluate (value_of sig' b.locals) line'.instr ≡ task_under t task =
    evaluate_with (operand_under t) (value_of sig' b.locals) line.instr
    ∙ evaluate_same t (value_of sig a.locals) (λ o. value_of sig' b.locals (operand_under t o))
    (values_here t sig sig' k a b f) line.instr in
    let a' : Frame = record a { rest = rest } in
    let b' : Frame = record b { rest = rest' } in
    let f' : FrameUnder t a' b' = record {
      function = f.function;
      block = f.block;
      rest = refl;
      end = f.end;
      locals = f.locals;
      slots = f.slots;
      awaits = f.awaits;
    } in
    let y = apply_under t a' b' f' line.local (execute sig input m place choice task)
    (execute sig' input m' place choice (task_under t task)) (execute_under t r sig sig' k m m' h input place choice task) in
    let y' = subst (λ (z : Task). ActUnder t (apply a' line.local (execute sig input m place choice task))
    (apply b' line.local (execute sig' input m' place choice z))) (sym x) y in
    let y'' = subst (λ (z : Act). ActUnder t z (apply b' line.local
    (execute sig' input m' place choice (evaluate (value_of sig' b.locals) line'.instr))))
    (sym (act_at_line sig input a m place choice line rest e)) y' in
    subst (λ (z : Act). ActUnder t (act sig input a m place choice) z) (sym (act_at_line sig' input b m' place choice line' rest' e')) y''

-- ---- entering and going on

params_under : (t : Naming) (ps : List Param) (vs : List Value) →
    params_bound ps (map (value_under t) vs) ≡ locals_under t (params_bound ps vs)
params_under t [] vs = refl
params_under t (x ∷ ps) [] = refl
params_under t (x ∷ ps) (v ∷ vs) = ap (λ (l : Locals). (x.local, value_under t v) ∷ l) (params_under t ps vs)

enter_at_under : (t : Naming) (f g : Function) → FunctionUnder t f g → (bs : List Block) (ls ls' : Locals) →
    ls' ≡ locals_under t ls → FrameUnder t (enter_at f bs ls) (enter_at g (map (block_under t) bs) ls')
enter_at_under t f g h [] ls ls' e = record { function = h; block = refl; rest = refl; end = refl; locals = e; slots = refl; awaits = refl }
enter_at_under t f g h (b ∷ bs) ls ls' e = record {
  function = h;
  block = refl;
  rest = refl;
  end = refl;
  locals = e;
  slots = refl;
  awaits = refl;
}

enter_under : (t : Naming) (f g : Function) → FunctionUnder t f g → (vs : List Value) →
    FrameUnder t (enter f vs) (enter g (map (value_under t) vs))
unfolding enter
enter_under t f g h vs =
    let vs' = map (value_under t) vs in
    let e : params_bound g.params vs' ≡ locals_under t (params_bound f.params vs) =
    ap (λ (ps : List Param). params_bound ps vs') h.params ∙ params_under t f.params vs in
    subst (λ (bs : List Block). FrameUnder t (enter_at f f.blocks (params_bound f.params vs))
    (enter_at g bs (params_bound g.params vs'))) (sym h.blocks)
    (enter_at_under t f g h f.blocks (params_bound f.params vs) (params_bound g.params vs') e)

resume_under : (t : Naming) (a b : Frame) → FrameUnder t a b → (v : Option Value) → FrameUnder t (resume a v) (resume b (maybe_value t v))
unfolding resume
resume_under t a b f v = record {
  function = f.function;
  block = f.block;
  rest = f.rest;
  end = f.end;
  locals = ap (λ (o : Option ℕ). bind o (maybe_value t v) b.locals) f.awaits ∙ ap (bind a.awaits (maybe_value t v)) f.locals
      ∙ bind_under t a.awaits v a.locals;
  slots = f.slots;
  awaits = refl;
}

-- ---- states and runs

abbrev pub FramesUnder : Naming → List Frame → List Frame → Type 0
FramesUnder t [] bs = bs ≡ []
FramesUnder t (a ∷ as') bs = (b : Frame) × (bs' : List Frame) × (bs ≡ b ∷ bs') × FrameUnder t a b × FramesUnder t as' bs'

pub record StateUnder (t : Naming) (s s' : State) : Type 0 where
  pub top : FrameUnder t s.top s'.top
  pub below : FramesUnder t s.below s'.below
  pub memory : MemoryUnder t s.memory s'.memory
  pub place : s'.place ≡ s.place

abbrev pub NextUnder : Naming → Next → Next → Type 0
NextUnder t (On s) y = (s' : State) × (y ≡ On s') × StateUnder t s s'
NextUnder t (Done v m place) y = (m' : Memory) × (y ≡ Done (maybe_value t v) m' place)
NextUnder t (Broken failure) y = (other : Failure) × (y ≡ Broken other)

-- the same is shown, and then it goes on alike
pub record TookUnder (t : Naming) (x y : Took) : Type 0 where
  pub events : y.events ≡ x.events
  pub next : NextUnder t x.next y.next

back_under : (t : Naming) (below below' : List Frame) → FramesUnder t below below' → (v : Option Value) (m m' : Memory) →
    MemoryUnder t m m' → (place : ℕ) → NextUnder t (back below v m place) (back below' (maybe_value t v) m' place)
back_under t [] below' f v m m' h place = (m', ap (λ (bs : List Frame). back bs (maybe_value t v) m' place) f)
back_under t (a ∷ as') below' f v m m' h place =
    let s' : State = record { top = resume f.0 (maybe_value t v); below = f.1; memory = m'; place = place } in (
      s',
      ap (λ (bs : List Frame). back bs (maybe_value t v) m' place) f.2,
      record { top = resume_under t a f.0 f.3 v; below = f.4; memory = h; place = refl },
    )

go_in_under : (t : Naming) (at at' : Place) (o o' : Option Function) → CodeUnder t o o' →
    (vs : List Value) (below below' : List Frame) → FramesUnder t below below' → (m m' : Memory) → MemoryUnder t m m' →
    (place : ℕ) → NextUnder t (go_in at o vs below m place) (go_in at' o' (map (value_under t) vs) below' m' place)
go_in_under t at at' None None c vs below below' f m m' h place = (record { why = Undefined CallOfNoFunction; at = at' }, refl)
go_in_under t at at' (Some x) (Some y) c vs below below' f m m' h place =
    let s' : State = record { top = enter y (map (value_under t) vs); below = below'; memory = m'; place = place } in
    (s', refl, record { top = enter_under t x y c vs; below = f; memory = h; place = refl })
go_in_under t at at' None (Some y) c vs below below' f m m' h place = absurd c
go_in_under t at at' (Some x) None c vs below below' f m m' h place = absurd c

advance_under : (t : Naming) (q p : Program) → IsRenamed t q p → (at at' : Place) (below below' : List Frame) →
    FramesUnder t below below' → (m m' : Memory) → MemoryUnder t m m' → (place : ℕ) (x y : Act) → ActUnder t x y →
    TookUnder t (advance q at below m place x) (advance p at' below' m' place y)
advance_under t q p r at at' below below' f m m' h place (Goes a n place' es) y c =
    let s' : State = record { top = c.0; below = below'; memory = c.1; place = place' } in
    subst (λ (z : Act). TookUnder t (advance q at below m place (Goes a n place' es)) (advance p at' below' m' place z))
    (sym c.2) (record { events = refl; next = (s', refl, record { top = c.3; below = f; memory = c.4; place = refl }) })
advance_under t q p r at at' below below' f m m' h place (Calls s vs a) y c =
    subst (λ (z : Act). TookUnder t (advance q at below m place (Calls s vs a)) (advance p at' below' m' place z)) (sym c.1)
    (record {
      events = refl;
      next = go_in_under t at at' (q.code s) (p.code (t.symbol s)) (r.code s) vs (a ∷ below)
          (c.0 ∷ below') (c.0, below', refl, c.2, f) m m' h place;
    })
advance_under t q p r at at' below below' f m m' h place (Gives v n) y c =
    subst (λ (z : Act). TookUnder t (advance q at below m place (Gives v n)) (advance p at' below' m' place z)) (sym c.1)
    (record { events = refl; next = back_under t below below' f v n c.0 c.2 place })
advance_under t q p r at at' below below' f m m' h place (Breaks why) y c =
    subst (λ (z : Act). TookUnder t (advance q at below m place (Breaks why)) (advance p at' below' m' place z)) (sym c.1)
    (record { events = refl; next = (record { why = c.0; at = at' }, refl) })

right_of : (t : Naming) (q p : Program) → IsRenamed t q p → Right t
right_of t q p r = record { symbols = r.symbols; within = r.within; one_to_one = r.one_to_one }

step_under : (t : Naming) (q p : Program) → IsRenamed t q p → (input : List ℕ) (s s' : State) → StateUnder t s s' →
    (choice : ℕ) → TookUnder t (step q input s choice) (step p input s' choice)
step_under t q p r input s s' h choice =
    let x = act_rest t (right_of t q p r) q.signature p.signature r.kinds s.memory s'.memory h.memory s.top s'.top h.top input
    s.place choice s.top.rest refl in
    let y = advance_under t q p r (place_of s.top) (place_of s'.top) s.below s'.below h.below s.memory s'.memory h.memory
    s.place (act q.signature input s.top s.memory s.place choice) (act p.signature input s'.top s'.memory s.place choice) x in
    subst (λ (n : ℕ). TookUnder t (step q input s choice)
    (advance p (place_of s'.top) s'.below s'.memory n (act p.signature input s'.top s'.memory n choice))) (sym h.place) y

-- the same ending, but for the names of what is returned, and for where and why it fails
abbrev pub EndingUnder : Naming → Ending → Ending → Type 0
EndingUnder t Running y = y ≡ Running
EndingUnder t (Returned v) y = y ≡ Returned (maybe_value t v)
EndingUnder t (Failed failure) y = (other : Failure) × (y ≡ Failed other)

-- the second run is the first, but for the names of what is returned
pub record RanUnder (t : Naming) (x y : Ran) : Type 0 where
  pub steps : y.steps ≡ x.steps
  pub trace : y.trace ≡ x.trace
  pub ending : EndingUnder t x.ending y.ending

run_on_under : (t : Naming) (go go' : State → Ran) → ((s s' : State) → StateUnder t s s' → RanUnder t (go s) (go' s')) →
    (shown : List Event) (x y : Next) → NextUnder t x y → RanUnder t (run_on go shown x) (run_on go' shown y)
run_on_under t go go' h shown (On s) y c =
    let x = h s c.0 c.2 in
    subst (λ (z : Next). RanUnder t (run_on go shown (On s)) (run_on go' shown z)) (sym c.1)
    (record { steps = ap (λ (k : ℕ). suc k) x.steps; trace = ap (λ (l : List Event). shown ++ l) x.trace; ending = x.ending })
run_on_under t go go' h shown (Done v m place) y c =
    subst (λ (z : Next). RanUnder t (run_on go shown (Done v m place)) (run_on go' shown z)) (sym c.1)
    (record { steps = refl; trace = refl; ending = refl })
run_on_under t go go' h shown (Broken why) y c =
    subst (λ (z : Next). RanUnder t (run_on go shown (Broken why)) (run_on go' shown z)) (sym c.1)
    (record { steps = refl; trace = refl; ending = (c.0, refl) })

pub run_under : (t : Naming) (q p : Program) → IsRenamed t q p → (input choices : List ℕ) (s s' : State) → StateUnder t s s' →
    RanUnder t (run q input choices s) (run p input choices s')
run_under t q p r input [] s s' h = record { steps = refl; trace = refl; ending = refl }
run_under t q p r input (choice ∷ choices) s s' h =
    let x = step_under t q p r input s s' h choice in
    let y = run_on_under t (run q input choices) (run p input choices) (λ a b c. run_under t q p r input choices a b c)
    (step q input s choice).events (step q input s choice).next (step p input s' choice).next x.next in
    subst (λ (es : List Event). RanUnder t (run q input (choice ∷ choices) s)
    (run_on (run p input choices) es (step p input s' choice).next)) (sym x.events) y

-- ---- refining

pub cell_stands : (t : Naming) (l : ℕ) → SameCell t l (cell_under t l)
cell_stands t l = by (cases_lt l t.count)
  where
    by : (l < t.count) ⊎ (t.count ≤ l) → SameCell t l (cell_under t l)
    by (inl lt) = inl (lt, sym (cell_variable t l lt))
    by (inr le) = let x = cell_slot t l le in inr (le, omega (arith, x))

value_stands : (t : Naming) (v : Value) → MayStandFor t v (value_under t v)
value_stands t (Number n) = refl
value_stands t (Pointer Nowhere i) = (tt, refl)
value_stands t (Pointer (Code s) i) = (refl, refl)
value_stands t (Pointer (Cell l) i) = (cell_stands t l, refl)
value_stands t Poison = tt

answer_stands : (t : Naming) (v : Option Value) → AnswerMayStandFor t v (maybe_value t v)
answer_stands t None = tt
answer_stands t (Some v) = value_stands t v

matched_under : (t : Naming) (p : Program) (input choices : List ℕ) (s : State) (ran : Ran) →
    RanUnder t ran (run p input choices s) → (e : Ending) → ran.ending ≡ e → Matched t p input s ran
matched_under t p input choices s ran h (Failed why) e =
    let x = subst (λ (z : Ending). EndingUnder t z (run p input choices s).ending) e h.ending in
    inl (record {
      choices = choices;
      failure = x.0;
      ends = x.1;
      later = [];
      front = sym h.trace
          ∙ sym (append-nil (run p input choices s).trace);
    })
matched_under t p input choices s ran h Running e =
    let x : (run p input choices s).ending ≡ Running = subst (λ (z : Ending). EndingUnder t z (run p input choices s).ending) e h.ending in
    inr (record {
      choices = choices;
      steps = omega (arith, h.steps);
      trace = h.trace;
      ending = subst (λ (z : Ending). SameEnding t ran.ending z) (sym x)
          (subst (λ (z : Ending). SameEnding t z Running) (sym e) tt);
    })
matched_under t p input choices s ran h (Returned v) e =
    let x : (run p input choices s).ending ≡ Returned (maybe_value t v) =
    subst (λ (z : Ending). EndingUnder t z (run p input choices s).ending) e h.ending in
    inr (record {
      choices = choices;
      steps = omega (arith, h.steps);
      trace = h.trace;
      ending = subst (λ (z : Ending). SameEnding t ran.ending z) (sym x)
          (subst (λ (z : Ending). SameEnding t z (Returned (maybe_value t v))) (sym e) (answer_stands t v));
    })

opening_under : (t : Naming) (q p : Program) → IsRenamed t q p → MemoryUnder t q.opening p.opening
opening_under t q p r = record {
  variables = omega (arith, r.count);
  sizes = omega (arith, r.count, r.count');
  blocks = λ l. by l (cases_lt l t.count);
}
  where
    by : (l : ℕ) → (l < t.count) ⊎ (t.count ≤ l) → slice_get p.opening (cell_under t l) ≡ option_map (cells_under t) (slice_get q.opening l)
    by l (inl lt) = ap (slice_get p.opening) (cell_variable t l lt) ∙ r.opening l lt
    by l (inr le) =
        let x = cell_slot t l le in
        slice_get_past p.opening (cell_under t l) (omega (arith, x, r.count', le))
        ∙ sym (ap (option_map (cells_under t)) (slice_get_past q.opening l (omega (arith, r.count, le))))

integers_stay : (t : Naming) (ns : List ℕ) → map (value_under t) (map Number ns) ≡ map Number ns
integers_stay t [] = refl
integers_stay t (n ∷ ns) = ap (λ (l : List Value). Number n ∷ l) (integers_stay t ns)

-- from a function with integer arguments the two runs are alike
pub ran_from : (t : Naming) (q p : Program) → IsRenamed t q p → (ns : List ℕ) (f g : Function) → FunctionUnder t f g →
    (input choices : List ℕ) → RanUnder t (run q input choices
    (record { top = enter f (map Number ns); below = []; memory = q.opening; place = 0 }))
    (run p input choices (record { top = enter g (map Number ns); below = []; memory = p.opening; place = 0 }))
ran_from t q p r ns f g c input choices =
    let s : State = record { top = enter f (map Number ns); below = []; memory = q.opening; place = 0 } in
    let s' : State = record { top = enter g (map Number ns); below = []; memory = p.opening; place = 0 } in
    let top = subst (λ (vs : List Value). FrameUnder t (enter f (map Number ns)) (enter g vs)) (integers_stay t ns)
    (enter_under t f g c (map Number ns)) in
    let h : StateUnder t s s' = record { top = top; below = refl; memory = opening_under t q p r; place = refl } in
    run_under t q p r input choices s s' h

from_start : (t : Naming) (q p : Program) → IsRenamed t q p → (ns : List ℕ) (o o' : Option Function) → CodeUnder t o o' →
    RefinesFrom t q p (start_of o (map Number ns) q.opening) (start_of o' (map Number ns) p.opening)
from_start t q p r ns None None c = tt
from_start t q p r ns (Some f) (Some g) c = λ input choices.
    let s : State = record { top = enter f (map Number ns); below = []; memory = q.opening; place = 0 } in
    let s' : State = record { top = enter g (map Number ns); below = []; memory = p.opening; place = 0 } in
    matched_under t p input choices s' (run q input choices s) (ran_from t q p r ns f g c input choices) (run q input choices s).ending refl
from_start t q p r ns None (Some g) c = absurd c
from_start t q p r ns (Some f) None c = absurd c

pub renamed_all : RenamedRefines
renamed_all t q p r IsRoot root is arguments = from_start t q p r arguments (q.code root) (p.code (t.symbol root)) (r.code root)

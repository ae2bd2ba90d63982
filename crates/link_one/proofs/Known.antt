-- Where a definition names what is kept alone, all that it names stands in a list under its new name.
use Rattle.std.proofs.Common.{◌≡◌, ℕ, suc, true, false, Bool, cond, List, [], ◌∷◌, ◌++◌, map, All, Option, Some, None, option_map, append-nil, sym, subst}
use Rattle.std.proofs.lemmas.List.Elements.{All-append, All-cons, All-nil, All-push}
use Rattle.std.specs.List.{Contains}
use Rattle.ir_tree.specs.Initials.{Initial, plain, zeros, bytes, elements, members, Initials, no_initials, initial}
use Rattle.ir_tree.specs.Items.{phi_item, line_item, end_item, lines_from, block_items, items_from, items, reads, phi_reads, taken_as, end_reads, typed}
use Rattle.ir_tree.specs.Linkages.{defines}
use Rattle.ir_tree.specs.Wholes.{GlobalKnown, IsKnown, ItemKnown, all_operands, init_operands, initial_operands}
use Rattle.ir_tree.specs.declared.block.Block.{Block}
use Rattle.ir_tree.specs.declared.block.Terminator.{Terminator}
use Rattle.ir_tree.specs.declared.block.Terminator.TheVariants.{Branch, Jump, Return, Switch, Unreachable}
use Rattle.ir_tree.specs.declared.instr.Incoming.{Incoming}
use Rattle.ir_tree.specs.declared.instr.Instr.{Instr}
use Rattle.ir_tree.specs.declared.instr.Instr.TheVariants.{Address, Alloca, Binary, Call, Cast, Freeze, Icmp, Load, Phi as StrayPhi, Select, Store}
use Rattle.ir_tree.specs.declared.instr.Line.{Line}
use Rattle.ir_tree.specs.declared.instr.Phi.{Phi}
use Rattle.ir_tree.specs.declared.module.GlobalValue.{GlobalValue}
use Rattle.ir_tree.specs.declared.module.GlobalValue.TheVariants as global
use Rattle.ir_tree.specs.declared.operand.Argument.{Argument}
use Rattle.ir_tree.specs.declared.operand.Operand.{Operand}
use Rattle.ir_tree.specs.declared.operand.Operand.TheVariants.{Local, Number as Constant, Null, Poison as PoisonOf, Symbol as Named}
use Rattle.ir_tree.specs.declared.operand.Reg.{Reg}
use Rattle.ir_tree.specs.declared.operand.Reg.TheVariants.{Int, Ptr}
use Rattle.ir_tree.specs.declared.operand.Symbol.{Symbol}
use Rattle.ir_tree.specs.Edited.{argument_edited, with_operands}
use Rattle.ir_meaning.specs.Refine.{Naming}
use Rattle.ir_meaning.specs.Rename.{ArgumentsName, BlocksName, EdgesName, EndNames, InstrNames, LinesName, OperandNames, PhisName, block_under, edge_under, end_under, line_under, operand_under, phi_under}
use Rattle.ir_meaning.specs.Programs.{Body, Definition, Storage, body_of, defined, storage_of}
use Rattle.merge_meaning.specs.Globals.{InitialNames, InitialsName, function_under, global_under, initial_under, initials_under}
use Rattle.merge_meaning.specs.Linked.{DefinitionNames}
use Rattle.merge_meaning.proofs.Looked.{some_is}

-- each kept symbol stands in the list under its new name
abbrev pub AreThere : Naming → (Symbol → Bool) → List Symbol → Type 0
AreThere t keeps known = (s : Symbol) → keeps s ≡ true → Contains known (t.symbol s)

abbrev AreKnown : List Symbol → List Argument → Type 0
AreKnown known args = All (λ a. IsKnown known a.operand) args

operand_known : (t : Naming) (keeps : Symbol → Bool) (known : List Symbol) → AreThere t keeps known → (o : Operand) → OperandNames keeps o → IsKnown known (operand_under t o)
operand_known t keeps known there (Local x) h = tt
operand_known t keeps known there (Constant w bits) h = tt
operand_known t keeps known there Null h = tt
operand_known t keeps known there (PoisonOf reg) h = tt
operand_known t keeps known there (Named s offset) h = there s h

-- ---- bodies

module _ (t : Naming) (keeps : Symbol → Bool) (known : List Symbol) (there : AreThere t keeps known) where
  no_more : AreKnown known []
  no_more = All-nil (λ (a : Argument). IsKnown known a.operand)

  one_more : (reg : Reg) (o : Operand) (more : List Argument) → OperandNames keeps o → AreKnown known more → AreKnown known (typed reg (operand_under t o) ∷ more)
  one_more reg o more h rest =
      All-cons (λ (a : Argument). IsKnown known a.operand) (typed reg (operand_under t o)) more (operand_known t keeps known there o h) rest

  just : (reg : Reg) (o : Operand) → OperandNames keeps o → AreKnown known (typed reg (operand_under t o) ∷ [])
  just reg o h = one_more reg o [] h no_more

  arguments_known : (args : List Argument) → ArgumentsName keeps args → AreKnown known (map (argument_edited (operand_under t)) args)
  arguments_known [] h = no_more
  arguments_known (a ∷ more) h = one_more a.reg a.operand (map (argument_edited (operand_under t)) more) h.0 (arguments_known more h.1)

  edges_known : (reg : Reg) (es : List Incoming) → EdgesName keeps es → AreKnown known (taken_as reg (map (edge_under t) es))
  edges_known reg [] h = no_more
  edges_known reg (e ∷ es) h = one_more reg e.value (taken_as reg (map (edge_under t) es)) h.0 (edges_known reg es h.1)

  -- an operand and a list of arguments
  leading : (o : Operand) (args : List Argument) → OperandNames keeps o → ArgumentsName keeps args
      → AreKnown known ((typed Ptr (operand_under t o) ∷ map (argument_edited (operand_under t)) args) ++ [])
  leading o args h k =
      subst (λ (l : List Argument). AreKnown known l) (sym (append-nil (typed Ptr (operand_under t o) ∷ map (argument_edited (operand_under t)) args)))
      (one_more Ptr o (map (argument_edited (operand_under t)) args) h (arguments_known args k))

  instr_known : (i : Instr) → InstrNames keeps i → AreKnown known (reads (with_operands (operand_under t) i) ++ phi_reads (with_operands (operand_under t) i))
  instr_known (Binary op flags w l r) h = one_more (Int w) l (typed (Int w) (operand_under t r) ∷ []) h.0 (just (Int w) r h.1)
  instr_known (Icmp p reg l r) h = one_more reg l (typed reg (operand_under t r) ∷ []) h.0 (just reg r h.1)
  instr_known (Cast op from o to) h = just from o h
  instr_known (Select c l r) h =
      one_more (Int 1) c (argument_edited (operand_under t) l ∷ argument_edited (operand_under t) r ∷ []) h.0
      (one_more l.reg l.operand (argument_edited (operand_under t) r ∷ []) h.1 (just r.reg r.operand h.2))
  instr_known (Freeze reg o) h = just reg o h
  instr_known (Alloca shape align) h = no_more
  instr_known (Load reg o align) h = just Ptr o h
  instr_known (Store reg o d align) h = one_more reg o (typed Ptr (operand_under t d) ∷ []) h.0 (just Ptr d h.1)
  instr_known (Address inbounds shape o is) h = leading o is h.0 h.1
  instr_known (Call result c args) h = leading c args h.0 h.1
  instr_known (StrayPhi reg es) h = edges_known reg es h

  lines_known : (b k : ℕ) (ls : List Line) → LinesName keeps ls → All (ItemKnown known) (lines_from b k (map (line_under t) ls))
  lines_known b k [] h = All-nil (ItemKnown known)
  lines_known b k (l ∷ ls) h =
      All-cons (ItemKnown known) (line_item b k (line_under t l)) (lines_from b (suc k) (map (line_under t) ls)) (instr_known l.instr h.0) (lines_known b (suc k) ls h.1)

  phis_known : (b : ℕ) (ps : List Phi) → PhisName keeps ps → All (ItemKnown known) (map (phi_item b) (map (phi_under t) ps))
  phis_known b [] h = All-nil (ItemKnown known)
  phis_known b (x ∷ ps) h =
      All-cons (ItemKnown known) (phi_item b (phi_under t x)) (map (phi_item b) (map (phi_under t) ps)) (edges_known x.reg x.incoming h.0) (phis_known b ps h.1)

  end_known : (e : Terminator) → EndNames keeps e → AreKnown known (end_reads (end_under t e))
  end_known (Return None) h = no_more
  end_known (Return (Some a)) h = just a.reg a.operand h
  end_known (Jump target) h = no_more
  end_known (Branch c yes' no') h = just (Int 1) c h
  end_known (Switch w o default cases) h = just (Int w) o h
  end_known Unreachable h = no_more

  blocks_known : (b : ℕ) (bs : List Block) → BlocksName keeps bs → All (ItemKnown known) (items_from b (map (block_under t) bs))
  blocks_known b [] h = All-nil (ItemKnown known)
  blocks_known b (block ∷ bs) h =
      All-append (ItemKnown known) (block_items b (block_under t block)) (items_from (suc b) (map (block_under t) bs))
      (All-append (ItemKnown known) (map (phi_item b) (map (phi_under t) block.phis)) (lines_from b 0 (map (line_under t) block.lines) ++ end_item b (end_under t block.end) ∷ [])
      (phis_known b block.phis h.0)
      (All-push (ItemKnown known) (lines_from b 0 (map (line_under t) block.lines)) (end_item b (end_under t block.end)) (lines_known b 0 block.lines h.1) (end_known block.end h.2)))
      (blocks_known (suc b) bs h.3)

-- ---- initialisers

mutual
  initial_known : (t : Naming) (keeps : Symbol → Bool) (known : List Symbol) → AreThere t keeps known → (v : Initial) → InitialNames keeps v
      → All (IsKnown known) (initial_operands (initial_under t v))
  initial_known t keeps known there (plain o) h = All-cons (IsKnown known) (operand_under t o) [] (operand_known t keeps known there o h) (All-nil (IsKnown known))
  initial_known t keeps known there zeros h = All-nil (IsKnown known)
  initial_known t keeps known there (bytes text) h = All-nil (IsKnown known)
  initial_known t keeps known there (elements parts) h = initials_known t keeps known there parts h
  initial_known t keeps known there (members packed parts) h = initials_known t keeps known there parts h

  initials_known : (t : Naming) (keeps : Symbol → Bool) (known : List Symbol) → AreThere t keeps known → (vs : Initials) → InitialsName keeps vs
      → All (IsKnown known) (all_operands (initials_under t vs))
  initials_known t keeps known there no_initials h = All-nil (IsKnown known)
  initials_known t keeps known there (initial f v vs) h =
      All-append (IsKnown known) (initial_operands (initial_under t v)) (all_operands (initials_under t vs)) (initial_known t keeps known there v h.0) (initials_known t keeps known there vs h.1)

-- ---- definitions

pub global_known : (t : Naming) (keeps : Symbol → Bool) (known : List Symbol) → AreThere t keeps known → (n : ℕ) (g : GlobalValue) (d : Definition) → defined n g ≡ Some d
    → DefinitionNames keeps (Some d) → GlobalKnown known (global_under t g)
global_known t keeps known there n (global.Function f) d e h = by (defines f.linkage) e
  where
    of : (bs : List Block) → body_of bs f ≡ Some d → All (ItemKnown known) (items (function_under t f))
    of [] e = absurd (cc e)
    of (b ∷ bs) e = blocks_known t keeps known there 0 f.blocks (subst (λ (x : Definition). DefinitionNames keeps (Some x)) (sym (some_is (Body f) d e)) h)

    by : (counts : Bool) → body_of (cond counts f.blocks []) f ≡ Some d → All (ItemKnown known) (items (function_under t f))
    by true e = of f.blocks e
    by false e = absurd (cc e)
global_known t keeps known there n (global.Variable v) d e h = by (defines v.linkage) e
  where
    of : (init : Option Initial) → storage_of init n v ≡ Some d → All (IsKnown known) (init_operands (option_map (initial_under t) init))
    of None e = absurd (cc e)
    of (Some init) e = initial_known t keeps known there init (subst (λ (x : Definition). DefinitionNames keeps (Some x)) (sym (some_is (Storage n v init) d e)) h)

    by : (counts : Bool) → storage_of (cond counts v.init None) n v ≡ Some d → All (IsKnown known) (init_operands (option_map (initial_under t) v.init))
    by true e = of v.init e
    by false e = absurd (cc e)

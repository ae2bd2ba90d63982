-- Where each operand of a definition names what is kept, under other names, so does the definition.
use Rattle.std.proofs.Common.{◌≡◌, ◌⊎◌, inl, inr, ℕ, suc, true, false, Bool, cond, List, [], ◌∷◌, ◌++◌, map, All, Option, Some, None, option_map, append-nil, refl, sym, subst}
use Rattle.std.proofs.lemmas.List.Elements.{All-contains, Contains-append_left, Contains-append_right, Contains-push}
use Rattle.std.specs.List.{Contains}
use Rattle.ir_tree.specs.Linkages.{defines}
use Rattle.ir_tree.specs.Initials.{Initial, plain, zeros, bytes, elements, members, Initials, no_initials, initial}
use Rattle.ir_tree.specs.Items.{Item, phi_item, line_item, end_item, lines_from, block_items, items_from, items, operands, reads, phi_reads, taken_as, end_reads, typed}
use Rattle.ir_tree.specs.Wholes.{GlobalKnown, IsKnown, ItemKnown, all_operands, init_operands, initial_operands}
use Rattle.ir_tree.specs.declared.block.Block.{Block}
use Rattle.ir_tree.specs.declared.block.Terminator.{Terminator}
use Rattle.ir_tree.specs.declared.block.Terminator.TheVariants.{Branch, Jump, Return, Switch, Unreachable}
use Rattle.ir_tree.specs.declared.instr.Incoming.{Incoming}
use Rattle.ir_tree.specs.declared.instr.Instr.{Instr}
use Rattle.ir_tree.specs.declared.instr.Instr.TheVariants.{Address, Alloca, Binary, Call, Cast, Freeze, Icmp, Load, Phi as StrayPhi, Select, Store}
use Rattle.ir_tree.specs.declared.instr.Line.{Line}
use Rattle.ir_tree.specs.declared.instr.Phi.{Phi}
use Rattle.ir_tree.specs.declared.module.GlobalValue.{GlobalValue}
use Rattle.ir_tree.specs.declared.module.GlobalValue.TheVariants as global
use Rattle.ir_tree.specs.declared.operand.Argument.{Argument}
use Rattle.ir_tree.specs.declared.operand.Operand.{Operand}
use Rattle.ir_tree.specs.declared.operand.Operand.TheVariants.{Local, Number as Constant, Null, Poison as PoisonOf, Symbol as Named}
use Rattle.ir_tree.specs.declared.operand.Reg.{Reg}
use Rattle.ir_tree.specs.declared.operand.Reg.TheVariants.{Int, Ptr}
use Rattle.ir_tree.specs.declared.operand.Symbol.{Symbol}
use Rattle.ir_tree.specs.Edited.{argument_edited, with_operands}
use Rattle.ir_summary.specs.References.{all_named, global_names, named}
use Rattle.ir_meaning.specs.Refine.{Naming}
use Rattle.ir_meaning.specs.Rename.{ArgumentsName, BlocksName, EdgesName, EndNames, InstrNames, LinesName, OperandNames, PhisName, block_under, edge_under, end_under, line_under, operand_under, phi_under}
use Rattle.ir_meaning.specs.Programs.{body_of, defined, shared, storage_of}
use Rattle.merge_meaning.specs.Globals.{InitialNames, InitialsName, function_under, global_under, initial_under, initials_under, variable_under}
use Rattle.merge_meaning.specs.Linked.{DefinitionNames}
use Rattle.merge_meaning.proofs.Prevailing.{symbol_by_parts}
use Rattle.merge_meaning.proofs.Standing.{first, first_or_later, in_joined, later, nothing}

-- the operand names a kept symbol under the other names, if it names one
abbrev pub IsKept : Naming → (Symbol → Bool) → Operand → Type 0
IsKept t keeps o = OperandNames keeps (operand_under t o)

abbrev pub AreKept : Naming → (Symbol → Bool) → List Argument → Type 0
AreKept t keeps args = (a : Argument) → Contains args a → IsKept t keeps a.operand

-- ---- bodies

module _ (t : Naming) (keeps : Symbol → Bool) where
  front : (a : Argument) (more : List Argument) → AreKept t keeps (a ∷ more) → IsKept t keeps a.operand
  front a more h = h a (first a more)

  others : (a : Argument) (more : List Argument) → AreKept t keeps (a ∷ more) → AreKept t keeps more
  others a more h = λ b k. h b (later a b more k)

  two : (a b : Argument) → AreKept t keeps (a ∷ b ∷ []) → IsKept t keeps a.operand × IsKept t keeps b.operand
  two a b h = (front a (b ∷ []) h, front b [] (others a (b ∷ []) h))

  arguments_name : (args : List Argument) → AreKept t keeps args → ArgumentsName keeps (map (argument_edited (operand_under t)) args)
  arguments_name [] h = tt
  arguments_name (a ∷ more) h = (front a more h, arguments_name more (others a more h))

  edges_name : (reg : Reg) (es : List Incoming) → AreKept t keeps (taken_as reg es) → EdgesName keeps (map (edge_under t) es)
  edges_name reg [] h = tt
  edges_name reg (e ∷ es) h = (front (typed reg e.value) (taken_as reg es) h, edges_name reg es (others (typed reg e.value) (taken_as reg es) h))

  -- an operand and a list of arguments
  leading : (a : Argument) (more : List Argument) → AreKept t keeps ((a ∷ more) ++ []) → IsKept t keeps a.operand × ArgumentsName keeps (map (argument_edited (operand_under t)) more)
  leading a more h =
      let all : AreKept t keeps (a ∷ more) = subst (λ (l : List Argument). AreKept t keeps l) (append-nil (a ∷ more)) h in
      (front a more all, arguments_name more (others a more all))

  instr_names : (i : Instr) → AreKept t keeps (reads i ++ phi_reads i) → InstrNames keeps (with_operands (operand_under t) i)
  instr_names (Binary op flags w l r) h = two (typed (Int w) l) (typed (Int w) r) h
  instr_names (Icmp p reg l r) h = two (typed reg l) (typed reg r) h
  instr_names (Cast op from o to) h = front (typed from o) [] h
  instr_names (Select c l r) h = let arms = two l r (others (typed (Int 1) c) (l ∷ r ∷ []) h) in (front (typed (Int 1) c) (l ∷ r ∷ []) h, arms.0, arms.1)
  instr_names (Freeze reg o) h = front (typed reg o) [] h
  instr_names (Alloca shape align) h = tt
  instr_names (Load reg o align) h = front (typed Ptr o) [] h
  instr_names (Store reg o d align) h = two (typed reg o) (typed Ptr d) h
  instr_names (Address inbounds shape o is) h = leading (typed Ptr o) is h
  instr_names (Call result c args) h = leading (typed Ptr c) args h
  instr_names (StrayPhi reg es) h = edges_name reg es h

  lines_name : (b k : ℕ) (ls : List Line) → ((item : Item) → Contains (lines_from b k ls) item → AreKept t keeps (operands item)) → LinesName keeps (map (line_under t) ls)
  lines_name b k [] h = tt
  lines_name b k (l ∷ ls) h = (
    instr_names l.instr (h (line_item b k l) (first (line_item b k l) (lines_from b (suc k) ls))),
    lines_name b (suc k) ls (λ item c. h item (later (line_item b k l) item (lines_from b (suc k) ls) c)),
  )

  phis_name : (b : ℕ) (ps : List Phi) → ((item : Item) → Contains (map (phi_item b) ps) item → AreKept t keeps (operands item)) → PhisName keeps (map (phi_under t) ps)
  phis_name b [] h = tt
  phis_name b (x ∷ ps) h = (
    edges_name x.reg x.incoming (h (phi_item b x) (first (phi_item b x) (map (phi_item b) ps))),
    phis_name b ps (λ item c. h item (later (phi_item b x) item (map (phi_item b) ps) c)),
  )

  end_names : (e : Terminator) → AreKept t keeps (end_reads e) → EndNames keeps (end_under t e)
  end_names (Return None) h = tt
  end_names (Return (Some a)) h = front a [] h
  end_names (Jump target) h = tt
  end_names (Branch c yes' no') h = front (typed (Int 1) c) [] h
  end_names (Switch w o default cases) h = front (typed (Int w) o) [] h
  end_names Unreachable h = tt

  blocks_name : (b : ℕ) (bs : List Block) → ((item : Item) → Contains (items_from b bs) item → AreKept t keeps (operands item)) → BlocksName keeps (map (block_under t) bs)
  blocks_name b [] h = tt
  blocks_name b (block ∷ bs) h = (
    phis_name b block.phis (λ item c. here item (Contains-append_left (map (phi_item b) block.phis) (lines_from b 0 block.lines ++ end_item b block.end ∷ []) item c)),
    lines_name b 0 block.lines (λ item c. here item (behind item (Contains-append_left (lines_from b 0 block.lines) (end_item b block.end ∷ []) item c))),
    end_names block.end (here (end_item b block.end) (behind (end_item b block.end) (Contains-push (lines_from b 0 block.lines) (end_item b block.end)))),
    blocks_name (suc b) bs (λ item c. h item (Contains-append_right (block_items b block) (items_from (suc b) bs) item c)),
  )
    where
      behind : (item : Item) → Contains (lines_from b 0 block.lines ++ end_item b block.end ∷ []) item → Contains (block_items b block) item
      behind item c = Contains-append_right (map (phi_item b) block.phis) (lines_from b 0 block.lines ++ end_item b block.end ∷ []) item c

      here : (item : Item) → Contains (block_items b block) item → AreKept t keeps (operands item)
      here item c = h item (Contains-append_left (block_items b block) (items_from (suc b) bs) item c)

-- ---- initialisers

mutual
  initial_names : (t : Naming) (keeps : Symbol → Bool) (v : Initial) → ((o : Operand) → Contains (initial_operands v) o → IsKept t keeps o) → InitialNames keeps (initial_under t v)
  initial_names t keeps (plain o) h = h o (first o [])
  initial_names t keeps zeros h = tt
  initial_names t keeps (bytes text) h = tt
  initial_names t keeps (elements parts) h = initials_name t keeps parts h
  initial_names t keeps (members packed parts) h = initials_name t keeps parts h

  initials_name : (t : Naming) (keeps : Symbol → Bool) (vs : Initials) → ((o : Operand) → Contains (all_operands vs) o → IsKept t keeps o) → InitialsName keeps (initials_under t vs)
  initials_name t keeps no_initials h = tt
  initials_name t keeps (initial f v vs) h = (
    initial_names t keeps v (λ o c. h o (Contains-append_left (initial_operands v) (all_operands vs) o c)),
    initials_name t keeps vs (λ o c. h o (Contains-append_right (initial_operands v) (all_operands vs) o c)),
  )

-- ---- definitions

-- all operands of a global value do so
abbrev pub GlobalKept : Naming → (Symbol → Bool) → GlobalValue → Type 0
GlobalKept t keeps (global.Variable v) = (o : Operand) → Contains (init_operands v.init) o → IsKept t keeps o
GlobalKept t keeps (global.Function f) = (item : Item) → Contains (items f) item → AreKept t keeps (operands item)

pub definition_names : (t : Naming) (keeps : Symbol → Bool) (n : ℕ) (g : GlobalValue) → GlobalKept t keeps g → DefinitionNames keeps (defined n (global_under t g))
definition_names t keeps n (global.Function f) h = by (defines f.linkage) f.blocks (blocks_name t keeps 0 f.blocks h)
  where
    by : (counts : Bool) (bs : List Block) → BlocksName keeps (map (block_under t) f.blocks) → DefinitionNames keeps (body_of (cond counts (map (block_under t) bs) []) (function_under t f))
    by false bs h = tt
    by true [] h = tt
    by true (b ∷ bs) h = h
definition_names t keeps n (global.Variable v) h = by (defines v.linkage) v.init h
  where
    by : (counts : Bool) (init : Option Initial) → ((o : Operand) → Contains (init_operands init) o → IsKept t keeps o)
        → DefinitionNames keeps (storage_of (cond counts (option_map (initial_under t) init) None) n (variable_under t v))
    by false init h = tt
    by true None h = tt
    by true (Some init) h = initial_names t keeps init h

-- ---- by what a global value names

pub in_named : (args : List Argument) (a : Argument) (name : List ℕ) → Contains args a → Contains (named a.operand) name → Contains (all_named args) name
in_named [] a name c d = absurd (nothing a c)
in_named (x ∷ args) a name c d = by (first_or_later x a args c) (λ rest. in_named args a name rest d)
  where
    by : (x ≡ a) ⊎ Contains args a → (Contains args a → Contains (all_named args) name) → Contains (named x.operand ++ all_named args) name
    by (inl same) rest = Contains-append_left (named x.operand) (all_named args) name (subst (λ (z : Argument). Contains (named z.operand) name) (sym same) d)
    by (inr more) rest = Contains-append_right (named x.operand) (all_named args) name (rest more)

module _ (t : Naming) (keeps : Symbol → Bool) (known : List Symbol) (homeless : All (λ s. s.home ≡ None) known) where
  operand_kept : (o : Operand) → IsKnown known o → ((name : List ℕ) → Contains (named o) name → keeps (t.symbol (shared name)) ≡ true) → IsKept t keeps o
  operand_kept (Local x) k h = tt
  operand_kept (Constant w bits) k h = tt
  operand_kept Null k h = tt
  operand_kept (PoisonOf reg) k h = tt
  operand_kept (Named s offset) k h =
      let home : s.home ≡ None = All-contains (λ (u : Symbol). u.home ≡ None) known s homeless k in
      subst (λ (u : Symbol). keeps (t.symbol u) ≡ true) (symbol_by_parts (shared s.name) s (sym home) refl) (h s.name (first s.name []))

  pub global_kept : (g : GlobalValue) → GlobalKnown known g → ((name : List ℕ) → Contains (global_names g) name → keeps (t.symbol (shared name)) ≡ true) → GlobalKept t keeps g
  global_kept (global.Variable v) k h = λ o c.
      operand_kept o (All-contains (λ (x : Operand). IsKnown known x) (init_operands v.init) o k c) (λ name d. h name (in_joined named (init_operands v.init) o name c d))
  global_kept (global.Function f) k h = λ item c a d.
      operand_kept a.operand
      (All-contains (λ (x : Argument). IsKnown known x.operand) (operands item) a (All-contains (λ (x : Item). ItemKnown known x) (items f) item k c) d)
      (λ name e. h name (in_joined (λ (x : Item). all_named (operands x)) (items f) item name c (in_named (operands item) a name d e)))

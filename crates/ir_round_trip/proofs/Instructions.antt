-- Printed instructions and terminators resolve to themselves.
use Rattle.std.proofs.Common.{◌≡◌, ℕ, Bool, Option, Some, None, Ok, List, [], ◌∷◌, map, refl, ap, ◌∙◌}
use Rattle.std.specs.List.{AllByRecursion as Each}
use Rattle.ir_parse_names.specs.Bodies.{allocated, align_or, reg_align, instr_in, case_in, end_in, argument_in, incoming_in}
use Rattle.ir_parse_names.specs.Resolving.{each}
use Rattle.ir_parse_names.specs.Types.{Types, expanded}
use Rattle.ir_parse_names.specs.declared.locals.Sort.{Sort}
use Rattle.ir_parse_names.specs.declared.locals.Sort.TheVariants.{Block}
use Rattle.ir_parse_parts.specs.declared.raw.Argument as raw_argument
use Rattle.ir_parse_parts.specs.declared.raw.Case as raw_case
use Rattle.ir_parse_parts.specs.declared.raw.Instr as raw_instr
use Rattle.ir_parse_parts.specs.declared.raw.Instr.TheVariants as ri
use Rattle.ir_parse_parts.specs.declared.raw.Terminator as raw_end
use Rattle.ir_parse_parts.specs.declared.raw.Terminator.TheVariants as re
use Rattle.ir_parse_parts.specs.declared.shape.Typed.{Typed}
use Rattle.ir_tree.specs.Flow.{successors}
use Rattle.ir_tree.specs.Forms.{Form}
use Rattle.ir_tree.specs.Items.{reads, taken}
use Rattle.ir_tree.specs.Layout.{align}
use Rattle.ir_tree.specs.declared.block.Case.{Case}
use Rattle.ir_tree.specs.declared.block.Terminator.{Terminator}
use Rattle.ir_tree.specs.declared.block.Terminator.TheVariants.{Return, Jump, Branch, Switch, Unreachable}
use Rattle.ir_tree.specs.declared.instr.Incoming.{Incoming}
use Rattle.ir_tree.specs.declared.instr.Instr.{Instr}
use Rattle.ir_tree.specs.declared.instr.Instr.TheVariants.{Binary, Icmp, Cast, Select, Freeze, Alloca, Load, Store, Address, Call, Phi}
use Rattle.ir_tree.specs.declared.operand.Argument.{Argument}
use Rattle.ir_tree.specs.declared.operand.Reg.{Reg}
use Rattle.ir_tree.specs.declared.operand.Reg.TheVariants.{Int, Ptr}
use Rattle.ir_round_trip.specs.Printed.{IsInstruction}
use Rattle.ir_round_trip.specs.Readable.{InstructionReadable}
use Rattle.ir_round_trip.proofs.Binds.{bound, each_of}
use Rattle.ir_round_trip.proofs.PrintedOperands.{operand_again, argument_again, target_again, incoming_again, EntryKnown}
use Rattle.ir_round_trip.proofs.Shapes.{shape_again}
use Rattle.ir_round_trip.proofs.Uses.{known_with}
use Rattle.ir_round_trip.specs.PrintedKnown.{IsDefinedAs, ArgumentKnown, EndKnown}
use Rattle.ir_round_trip.specs.PartsPrinted.{Paired, IsArgument, IsIncoming, IsCase, IsTerminator}
use Rattle.ir_round_trip.specs.PartsReadable.{ArgumentReadable, IncomingReadable, CaseReadable, EntriesReadable, TerminatorReadable}

-- both of two
abbrev Both : {A : Type 0} → (A → Type 0) → (A → Type 0) → A → Type 0
Both P Q a = P a × Q a

both_each : {A : Type 0} (P Q : A → Type 0) (xs : List A) → Each P xs → Each Q xs → Each (Both P Q) xs
both_each P Q [] p q = tt
both_each P Q (x ∷ xs) p q = ((p.0, q.0), both_each P Q xs p.1 q.1)

module _ (types : Types) (ss : List Sort) where
  arguments_again : (as' : List Argument) (bs : List raw_argument.Argument) → Each ArgumentReadable as' → Each (ArgumentKnown ss) as' → Paired IsArgument as' bs → each (argument_in types (known_with ss)) bs ≡ Ok as'
  arguments_again as' bs h k p = each_of (argument_in types (known_with ss)) IsArgument (Both ArgumentReadable (ArgumentKnown ss)) (λ a b c i. argument_again types ss a b c.0 c.1 i) as' bs (both_each ArgumentReadable (ArgumentKnown ss) as' h k) p

  -- one shape
  alloca_again : (typed : Typed) (f : Form) (count : ℕ) → count ≡ 1 → expanded types typed ≡ Ok f → allocated types typed count ≡ Ok f
  alloca_again typed f count one e = ap (allocated types typed) one ∙ e

  aligned_again : (default n : ℕ) (a : Option ℕ) → a ≡ Some n → align_or default a ≡ n
  aligned_again default n a e = ap (align_or default) e

  pub instr_again : (i : Instr) (j : raw_instr.Instr) → InstructionReadable i → Each (ArgumentKnown ss) (reads i) → Each (EntryKnown types ss) (taken i) → IsInstruction i j → instr_in types (known_with ss) j ≡ Ok i
  instr_again (Binary op flags w x y) (ri.Binary o f v l r) h k t p =
      bound _ (operand_again types ss (Int w) x l h.2 k.0 p.3) (bound _ (operand_again types ss (Int w) y r h.3 k.1.0 p.4)
      (ap (λ a. Ok (Binary a f v x y)) p.0 ∙ ap (λ a. Ok (Binary op a v x y)) p.1 ∙ ap (λ (a : ℕ). Ok (Binary op flags a x y)) p.2))
  instr_again (Icmp predicate reg x y) (ri.Icmp q g l r) h k t p =
      bound _ (operand_again types ss reg x l h.1 k.0 p.2) (bound _ (operand_again types ss reg y r h.2 k.1.0 p.3)
      (ap (λ a. Ok (Icmp a g x y)) p.0 ∙ ap (λ (a : Reg). Ok (Icmp predicate a x y)) p.1))
  instr_again (Cast op from x to) (ri.Cast o g v u) h k t p =
      bound _ (operand_again types ss from x v h.1 k.0 p.2)
      (ap (λ a. Ok (Cast a g x u)) p.0 ∙ ap (λ (a : Reg). Ok (Cast op a x u)) p.1 ∙ ap (λ (a : Reg). Ok (Cast op from x a)) p.3)
  instr_again (Select c x y) (ri.Select d a b) h k t p =
      bound _ (operand_again types ss (Int 1) c d h.0 k.0 p.0) (bound _ (argument_again types ss x a h.1 k.1.0 p.1) (bound _ (argument_again types ss y b h.2 k.1.1.0 p.2) refl))
  instr_again (Freeze reg x) (ri.Freeze g v) h k t p =
      bound _ (operand_again types ss reg x v h.1 k.0 p.1) (ap (λ (a : Reg). Ok (Freeze a x)) p.0)
  instr_again (Alloca f n) (ri.Alloca typed count a) h k t p =
      bound _ (alloca_again typed f count p.1 (shape_again types typed f h.0.shape p.0)) (ap (λ (m : ℕ). Ok (Alloca f m)) (aligned_again (align f) n a p.2))
  instr_again (Load reg address n) (ri.Load g x a) h k t p =
      bound _ (operand_again types ss Ptr address x h.1 k.0 p.1)
      (ap (λ (m : ℕ). Ok (Load g address m)) (aligned_again (reg_align g) n a p.2) ∙ ap (λ (r : Reg). Ok (Load r address n)) p.0)
  instr_again (Store reg x address n) (ri.Store g v y a) h k t p =
      bound _ (operand_again types ss reg x v h.1 k.0 p.1) (bound _ (operand_again types ss Ptr address y h.2 k.1.0 p.2)
      (ap (λ (m : ℕ). Ok (Store g x address m)) (aligned_again (reg_align g) n a p.3) ∙ ap (λ (r : Reg). Ok (Store r x address n)) p.0))
  instr_again (Address inbounds f base is) (ri.Address b typed x js) h k t p =
      bound _ (shape_again types typed f h.0.shape p.1) (bound _ (operand_again types ss Ptr base x h.1 k.0 p.2) (bound _ (arguments_again is js h.2 k.1 p.3)
      (ap (λ (c : Bool). Ok (Address c f base is)) p.0)))
  instr_again (Call result callee arguments) (ri.Call r f as') h k t p =
      bound _ (operand_again types ss Ptr callee f h.1 k.0 p.1) (bound _ (arguments_again arguments as' h.2 k.1 p.2) (ap (λ (o : Option Reg). Ok (Call o callee arguments)) p.0))
  instr_again (Phi reg edges) (ri.Phi g is) h k t p =
      bound _ (each_of (incoming_in types (known_with ss)) IsIncoming (Both (IncomingReadable reg) (EntryKnown types ss)) (λ e r c i. incoming_again types ss reg e r c.0 c.1 i) edges is (both_each (IncomingReadable reg) (EntryKnown types ss) edges (entries edges h.1) t) p.1) (ap (λ (r : Reg). Ok (Phi r edges)) p.0)
    where
      entries : (es : List Incoming) → EntriesReadable reg es → Each (IncomingReadable reg) es
      entries [] h = absurd h
      entries (e ∷ es) h = h
  instr_again i j h k t p = absurd p

  -- ---- terminators

  case_again : (c : Case) (r : raw_case.Case) → CaseReadable c → IsDefinedAs ss Block c.target → IsCase c r → case_in (known_with ss) r ≡ Ok c
  case_again c r h k p =
      bound _ (target_again types ss c.target r.target h.target k p.3)
      (ap (λ (a : Reg). Ok (record { reg = a; width = r.width; bits = r.bits; target = c.target })) p.0 ∙ ap (λ (a : ℕ). Ok (record { reg = c.reg; width = a; bits = r.bits; target = c.target })) p.1 ∙ ap (λ (a : ℕ). Ok (record { reg = c.reg; width = c.width; bits = a; target = c.target })) p.2)

  cases_again : (cs : List Case) (rs : List raw_case.Case) → Each CaseReadable cs → Each (IsDefinedAs ss Block) (map (λ c. c.target) cs) → Paired IsCase cs rs → each (case_in (known_with ss)) rs ≡ Ok cs
  cases_again [] [] h k p = refl
  cases_again [] (r ∷ rs) h k p = absurd p
  cases_again (c ∷ cs) [] h k p = absurd p
  cases_again (c ∷ cs) (r ∷ rs) h k p = bound _ (case_again c r h.0 k.0 p.0) (bound _ (cases_again cs rs h.1 k.1 p.1) refl)

  pub end_again : (t : Terminator) (r : raw_end.Terminator) → TerminatorReadable t → EndKnown ss t → IsTerminator t r → end_in types (known_with ss) r ≡ Ok t
  end_again (Return None) (re.Return None) h k p = refl
  end_again (Return (Some a)) (re.Return (Some b)) h k p = bound _ (argument_again types ss a b h k.operands.0 p) refl
  end_again (Jump n) (re.Jump name) h k p = bound _ (target_again types ss n name h k.targets.0 p) refl
  end_again (Branch c x y) (re.Branch d a b) h k p =
      bound _ (operand_again types ss (Int 1) c d h.0 k.operands.0 p.0) (bound _ (target_again types ss x a h.1 k.targets.0 p.1) (bound _ (target_again types ss y b h.2 k.targets.1.0 p.2) refl))
  end_again (Switch w x default cs) (re.Switch v y d rs) h k p =
      bound _ (operand_again types ss (Int w) x y h.1 k.operands.0 p.1) (bound _ (target_again types ss default d h.2 k.targets.0 p.2) (bound _ (cases_again cs rs h.3 k.targets.1 p.3)
      (ap (λ (a : ℕ). Ok (Switch a x default cs)) p.0)))
  end_again Unreachable re.Unreachable h k p = refl
  end_again t r h k p = absurd p

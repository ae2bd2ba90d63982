-- What a function under other numbers has: items, operands, locals, types, edges.
use Rattle.std.proofs.Common.{◌≡◌, ℕ, suc, nat_eq, ◌||◌, true, List, [], ◌∷◌, ◌++◌, Option, Some, None, map, option_map, refl, sym, ◌∙◌, ap, arith, if◌then◌else◌}
use Rattle.std.specs.Prelude.{slice_get, flat_map, filter_map}
use Rattle.std.proofs.lemmas.Bool.Decides.{nat_tests}
use Rattle.std.proofs.lemmas.List.{map-append}
use Rattle.std.proofs.lemmas.Option.{slice_get-map}
use Rattle.ir_tree.specs.Flow.{definitions, edges, holds, leading, leading_to, locals, parameters, phi_locals, repeated, results, successors}
use Rattle.ir_tree.specs.Formed.{numbers}
use Rattle.ir_tree.specs.Items.{Item, phi_item, line_item, end_item, block_items, end_reads, entries, items, items_from, lines_from, operands, phi_reads, reads, taken, taken_as, typed}
use Rattle.ir_tree.specs.Rules.{Typing, block_typings, line_typing, place, result_type, type_of, typing, typings}
use Rattle.ir_tree.specs.declared.block.Block.{Block}
use Rattle.ir_tree.specs.declared.block.Terminator.{Terminator}
use Rattle.ir_tree.specs.declared.block.Terminator.TheVariants.{Branch, Jump, Return, Switch, Unreachable}
use Rattle.ir_tree.specs.declared.function.Function.{Function}
use Rattle.ir_tree.specs.declared.instr.Incoming.{Incoming}
use Rattle.ir_tree.specs.declared.instr.Instr.{Instr}
use Rattle.ir_tree.specs.declared.instr.Instr.TheVariants as kind
use Rattle.ir_tree.specs.declared.instr.Line.{Line}
use Rattle.ir_tree.specs.declared.instr.Phi.{Phi}
use Rattle.ir_tree.specs.declared.operand.Argument.{Argument}
use Rattle.ir_tree.specs.declared.operand.Operand.{Operand}
use Rattle.ir_tree.specs.declared.operand.Operand.TheVariants as operand
use Rattle.ir_tree.specs.declared.operand.Reg.{Reg}
use Rattle.ir_tree.specs.Edited.{argument_edited, block_edited, case_edited, end_edited, incoming_edited, instr_edited, line_edited, operand_renamed, param_edited, phi_edited, renamed}
use Rattle.ir_edit.specs.OneToOne.{IsOneToOne}
use Rattle.ir_edit.proofs.Squares.{filter_square, flat_square, map_square, same_test}

abbrev pub operand_under : (ℕ → ℕ) → Operand → Operand
operand_under new = operand_renamed new

abbrev pub argument_under : (ℕ → ℕ) → Argument → Argument
argument_under new = argument_edited (operand_renamed new)

abbrev pub entry_under : (ℕ → ℕ) → Incoming → Incoming
entry_under new = incoming_edited new (operand_renamed new)

abbrev pub instr_under : (ℕ → ℕ) → Instr → Instr
instr_under new = instr_edited new (operand_renamed new)

abbrev pub line_under : (ℕ → ℕ) → Line → Line
line_under new = line_edited new (operand_renamed new)

abbrev pub phi_under : (ℕ → ℕ) → Phi → Phi
phi_under new = phi_edited new (operand_renamed new)

abbrev pub end_under : (ℕ → ℕ) → Terminator → Terminator
end_under new = end_edited new (operand_renamed new)

abbrev pub block_under : (ℕ → ℕ) → Block → Block
block_under new = block_edited new (operand_renamed new)

abbrev pub item_under : (ℕ → ℕ) → Item → Item
item_under new (phi_item b phi) = phi_item b (phi_under new phi)
item_under new (line_item b k l) = line_item b k (line_under new l)
item_under new (end_item b t) = end_item b (end_under new t)

module _ (new : ℕ → ℕ) where
  -- ---- items

  lines_under : (b k : ℕ) (ls : List Line) → lines_from b k (map (line_under new) ls) ≡ map (item_under new) (lines_from b k ls)
  lines_under b k [] = refl
  lines_under b k (l ∷ ls) = ap (λ (is : List Item). line_item b k (line_under new l) ∷ is) (lines_under b (suc k) ls)

  block_items_under : (b : ℕ) (block : Block) → block_items b (block_under new block) ≡ map (item_under new) (block_items b block)
  block_items_under b block =
      (λ i. map_square (phi_under new) (phi_item b) (item_under new) (phi_item b) (λ p. refl) block.phis i ++ (lines_under b 0 block.lines i ++ end_item b (end_under new block.end) ∷ []))
      ∙ ap (λ (is : List Item). map (item_under new) (map (phi_item b) block.phis) ++ is) (sym (map-append (item_under new) (lines_from b 0 block.lines) (end_item b block.end ∷ [])))
      ∙ sym (map-append (item_under new) (map (phi_item b) block.phis) (lines_from b 0 block.lines ++ end_item b block.end ∷ []))

  items_from_under : (b : ℕ) (bs : List Block) → items_from b (map (block_under new) bs) ≡ map (item_under new) (items_from b bs)
  items_from_under b [] = refl
  items_from_under b (block ∷ bs) =
      (λ i. block_items_under b block i ++ items_from_under (suc b) bs i) ∙ sym (map-append (item_under new) (block_items b block) (items_from (suc b) bs))

  pub items_under : (f : Function) → items (renamed new f) ≡ map (item_under new) (items f)
  items_under f = items_from_under 0 f.blocks

  -- ---- what items read

  taken_under : (reg : Reg) (es : List Incoming) → taken_as reg (map (entry_under new) es) ≡ map (argument_under new) (taken_as reg es)
  taken_under reg es = map_square (entry_under new) (λ e. typed reg e.value) (argument_under new) (λ e. typed reg e.value) (λ e. refl) es

  pub reads_under : (i : Instr) → reads (instr_under new i) ≡ map (argument_under new) (reads i)
  reads_under (kind.Binary op flags width left right) = refl
  reads_under (kind.Icmp predicate reg left right) = refl
  reads_under (kind.Cast op from value to) = refl
  reads_under (kind.Select condition if_true if_false) = refl
  reads_under (kind.Freeze reg value) = refl
  reads_under (kind.Alloca shape align) = refl
  reads_under (kind.Load reg address align) = refl
  reads_under (kind.Store reg value address align) = refl
  reads_under (kind.Address inbounds shape base indices) = refl
  reads_under (kind.Call result callee arguments) = refl
  reads_under (kind.Phi reg incoming) = refl

  phi_reads_under : (i : Instr) → phi_reads (instr_under new i) ≡ map (argument_under new) (phi_reads i)
  phi_reads_under (kind.Binary op flags width left right) = refl
  phi_reads_under (kind.Icmp predicate reg left right) = refl
  phi_reads_under (kind.Cast op from value to) = refl
  phi_reads_under (kind.Select condition if_true if_false) = refl
  phi_reads_under (kind.Freeze reg value) = refl
  phi_reads_under (kind.Alloca shape align) = refl
  phi_reads_under (kind.Load reg address align) = refl
  phi_reads_under (kind.Store reg value address align) = refl
  phi_reads_under (kind.Address inbounds shape base indices) = refl
  phi_reads_under (kind.Call result callee arguments) = refl
  phi_reads_under (kind.Phi reg incoming) = taken_under reg incoming

  pub end_reads_under : (t : Terminator) → end_reads (end_under new t) ≡ map (argument_under new) (end_reads t)
  end_reads_under (Return None) = refl
  end_reads_under (Return (Some a)) = refl
  end_reads_under (Jump target) = refl
  end_reads_under (Branch condition if_true if_false) = refl
  end_reads_under (Switch width value default cases) = refl
  end_reads_under Unreachable = refl

  pub operands_under : (item : Item) → operands (item_under new item) ≡ map (argument_under new) (operands item)
  operands_under (phi_item b phi) = taken_under phi.reg phi.incoming
  operands_under (line_item b k l) = (λ i. reads_under l.instr i ++ phi_reads_under l.instr i) ∙ sym (map-append (argument_under new) (reads l.instr) (phi_reads l.instr))
  operands_under (end_item b t) = end_reads_under t

  taken_from_under : (i : Instr) → taken (instr_under new i) ≡ map (entry_under new) (taken i)
  taken_from_under (kind.Binary op flags width left right) = refl
  taken_from_under (kind.Icmp predicate reg left right) = refl
  taken_from_under (kind.Cast op from value to) = refl
  taken_from_under (kind.Select condition if_true if_false) = refl
  taken_from_under (kind.Freeze reg value) = refl
  taken_from_under (kind.Alloca shape align) = refl
  taken_from_under (kind.Load reg address align) = refl
  taken_from_under (kind.Store reg value address align) = refl
  taken_from_under (kind.Address inbounds shape base indices) = refl
  taken_from_under (kind.Call result callee arguments) = refl
  taken_from_under (kind.Phi reg incoming) = refl

  pub entries_under : (item : Item) → entries (item_under new item) ≡ map (entry_under new) (entries item)
  entries_under (phi_item b phi) = refl
  entries_under (line_item b k l) = taken_from_under l.instr
  entries_under (end_item b t) = refl

  pub targets_under : (t : Terminator) → successors (end_under new t) ≡ map new (successors t)
  targets_under (Return argument) = refl
  targets_under (Jump target) = refl
  targets_under (Branch condition if_true if_false) = refl
  targets_under (Switch width value default cases) =
      ap (λ (l : List ℕ). new default ∷ l) (map_square (case_edited new) (λ c. c.target) new (λ c. c.target) (λ c. refl) cases)
  targets_under Unreachable = refl

  -- ---- what it defines

  pub parameters_under : (f : Function) → parameters (renamed new f) ≡ map new (parameters f)
  parameters_under f = map_square (param_edited new) (λ p. p.local) new (λ p. p.local) (λ p. refl) f.params

  pub phi_locals_under : (b : Block) → phi_locals (block_under new b) ≡ map new (phi_locals b)
  phi_locals_under b = map_square (phi_under new) (λ p. p.local) new (λ p. p.local) (λ p. refl) b.phis

  pub results_under : (ls : List Line) → results (map (line_under new) ls) ≡ map new (results ls)
  results_under ls = filter_square (line_under new) (λ l. l.local) new (λ l. l.local) (λ l. refl) ls

  pub definitions_under : (b : Block) → definitions (block_under new b) ≡ map new (definitions b)
  definitions_under b = (λ i. phi_locals_under b i ++ results_under b.lines i) ∙ sym (map-append new (phi_locals b) (results b.lines))

  pub locals_under : (f : Function) → locals (renamed new f) ≡ map new (locals f)
  locals_under f =
      (λ i. parameters_under f i ++ flat_square (block_under new) definitions new definitions definitions_under f.blocks i)
      ∙ sym (map-append new (parameters f) (flat_map definitions f.blocks))

  pub numbers_under : (f : Function) → numbers (renamed new f) ≡ map new (numbers f)
  numbers_under f = map_square (block_under new) (λ b. b.number) new (λ b. b.number) (λ b. refl) f.blocks

  abbrev typing_under : Typing → Typing
  typing_under t = (new t.0, t.1)

  result_type_under : (i : Instr) → result_type (instr_under new i) ≡ result_type i
  result_type_under (kind.Binary op flags width left right) = refl
  result_type_under (kind.Icmp predicate reg left right) = refl
  result_type_under (kind.Cast op from value to) = refl
  result_type_under (kind.Select condition if_true if_false) = refl
  result_type_under (kind.Freeze reg value) = refl
  result_type_under (kind.Alloca shape align) = refl
  result_type_under (kind.Load reg address align) = refl
  result_type_under (kind.Store reg value address align) = refl
  result_type_under (kind.Address inbounds shape base indices) = refl
  result_type_under (kind.Call result callee arguments) = refl
  result_type_under (kind.Phi reg incoming) = refl

  named_under : (local : Option ℕ) (a b : Option Reg) → a ≡ b → option_map (λ x. (x, a)) (option_map new local) ≡ option_map typing_under (option_map (λ x. (x, b)) local)
  named_under None a b e = refl
  named_under (Some x) a b e = ap (λ (o : Option Reg). Some (new x, o)) e

  block_typings_under : (b : Block) → block_typings (block_under new b) ≡ map typing_under (block_typings b)
  block_typings_under b =
      (λ i. map_square (phi_under new) (λ p. (p.local, Some p.reg)) typing_under (λ p. (p.local, Some p.reg)) (λ p. refl) b.phis i
      ++ filter_square (line_under new) line_typing typing_under line_typing (λ l. named_under l.local (result_type (instr_under new l.instr)) (result_type l.instr) (result_type_under l.instr)) b.lines i)
      ∙ sym (map-append typing_under (map (λ p. (p.local, Some p.reg)) b.phis) (filter_map line_typing b.lines))

  typings_under : (f : Function) → typings (renamed new f) ≡ map typing_under (typings f)
  typings_under f =
      (λ i. map_square (param_edited new) (λ p. (p.local, Some p.reg)) typing_under (λ p. (p.local, Some p.reg)) (λ p. refl) f.params i
      ++ flat_square (block_under new) block_typings typing_under block_typings block_typings_under f.blocks i)
      ∙ sym (map-append typing_under (map (λ p. (p.local, Some p.reg)) f.params) (flat_map block_typings f.blocks))

  -- ---- numbers stay apart

  module _ (apart : IsOneToOne new) where
    same_number : (x y : ℕ) → nat_eq x y ≡ true → x ≡ y
    same_number x y h = grind (arith, nat_tests)

    tests_true : (x y : ℕ) → x ≡ y → nat_eq x y ≡ true
    tests_true x y h = grind (arith, nat_tests)

    pub eq_under : (x y : ℕ) → nat_eq (new x) (new y) ≡ nat_eq x y
    eq_under x y =
        same_test (nat_eq (new x) (new y)) (nat_eq x y)
        (λ h. tests_true x y (apart x y (same_number (new x) (new y) h))) (λ h. tests_true (new x) (new y) (ap new (same_number x y h)))

    pub holds_under : (xs : List ℕ) (x : ℕ) → holds (map new xs) (new x) ≡ holds xs x
    holds_under [] x = refl
    holds_under (y ∷ ys) x = λ i. eq_under x y i || holds_under ys x i

    typing_found : (ts : List Typing) (x : ℕ) → typing (map typing_under ts) (new x) ≡ typing ts x
    typing_found [] x = refl
    typing_found (t ∷ ts) x = λ i. if eq_under t.0 x i then t.1 else typing_found ts x i

    pub type_under : (f : Function) (o : Operand) → type_of (renamed new f) (operand_under new o) ≡ type_of f o
    type_under f (operand.Local x) = ap (λ (ts : List Typing). typing ts (new x)) (typings_under f) ∙ typing_found (typings f) x
    type_under f (operand.Number width bits) = refl
    type_under f operand.Null = refl
    type_under f (operand.Poison reg) = refl
    type_under f (operand.Symbol symbol offset) = refl

    pub place_under : (bs : List Block) (n : ℕ) → place (map (block_under new) bs) (new n) ≡ place bs n
    place_under [] n = refl
    place_under (b ∷ bs) n = λ i. if eq_under b.number n i then 0 else suc (place_under bs n i)

    repeated_under : (p n : ℕ) (ts : List ℕ) → repeated p (new n) (map new ts) ≡ repeated p n ts
    repeated_under p n [] = refl
    repeated_under p n (t ∷ ts) = λ i. if eq_under t n i then p ∷ repeated_under p n ts i else repeated_under p n ts i

    leading_under : (n p : ℕ) (bs : List Block) → leading (new n) p (map (block_under new) bs) ≡ leading n p bs
    leading_under n p [] = refl
    leading_under n p (b ∷ bs) = λ i. (ap (repeated p (new n)) (targets_under b.end) ∙ repeated_under p n (successors b.end)) i ++ leading_under n (suc p) bs i

    leading_to_under : (bs : List Block) (o : Option Block) → leading_to (map (block_under new) bs) (option_map (block_under new) o) ≡ leading_to bs o
    leading_to_under bs None = refl
    leading_to_under bs (Some b) = leading_under b.number 0 bs

    pub edges_under : (f : Function) (b : ℕ) → edges (renamed new f) b ≡ edges f b
    edges_under f b = ap (leading_to (map (block_under new) f.blocks)) (slice_get-map (block_under new) f.blocks b) ∙ leading_to_under f.blocks (slice_get f.blocks b)

-- A verified module numbered anew is verified.
use Rattle.std.proofs.Common.{◌≡◌, ℕ, suc, List, [], ◌∷◌, ◌++◌, append_assoc, Some, None, map, refl, sym, ap, subst, ◌∙◌}
use Rattle.std.specs.List.{AllByRecursion as Each}
use Rattle.std.specs.Prelude.{All}
use Rattle.std.proofs.lemmas.List.{map-append}
use Rattle.std.proofs.lemmas.List.Elements.{All-from_recursion, All-map, recursion_from_All}
use Rattle.ir_tree.specs.Edited.{argument_edited, block_edited, end_edited, incoming_edited, instr_edited, line_edited, operand_renamed, phi_edited, renamed}
use Rattle.ir_edit.specs.Numbered.{new_number, numbers_of}
use Rattle.ir_edit.specs.Sounds.{TextOrderIsSound}
use Rattle.ir_tree.specs.Formed.{Distinct}
use Rattle.ir_tree.specs.Items.{Item, phi_item, line_item, end_item, end_reads, items, items_from, lines_from, operands, phi_reads, reads, taken_as}
use Rattle.ir_tree.specs.Wholes.{GlobalFormed, GlobalKnown, GlobalSound, IsKnown, IsVerified, ItemKnown, global_symbol, symbols}
use Rattle.ir_tree.specs.declared.block.Block.{Block}
use Rattle.ir_tree.specs.declared.block.Terminator.{Terminator}
use Rattle.ir_tree.specs.declared.block.Terminator.TheVariants.{Branch, Jump, Return, Switch, Unreachable}
use Rattle.ir_tree.specs.declared.function.Function.{Function}
use Rattle.ir_tree.specs.declared.instr.Incoming.{Incoming}
use Rattle.ir_tree.specs.declared.instr.Instr.{Instr}
use Rattle.ir_tree.specs.declared.instr.Instr.TheVariants as kind
use Rattle.ir_tree.specs.declared.instr.Line.{Line}
use Rattle.ir_tree.specs.declared.instr.Phi.{Phi}
use Rattle.ir_tree.specs.declared.module.GlobalValue.{GlobalValue}
use Rattle.ir_tree.specs.declared.module.GlobalValue.TheVariants as globals
use Rattle.ir_tree.specs.declared.module.Module.{Module}
use Rattle.ir_tree.specs.declared.operand.Argument.{Argument}
use Rattle.ir_tree.specs.declared.operand.Operand.{Operand}
use Rattle.ir_tree.specs.declared.operand.Operand.TheVariants as operand
use Rattle.ir_tree.specs.declared.operand.Reg.{Reg}
use Rattle.ir_tree.specs.declared.operand.Symbol.{Symbol}
use Rattle.ir_round_trip.specs.Anew.{numbered_anew, value_anew}

-- ---- what holds of each element

pub all_then : {X : Type 0} (P Q : X → Type 0) (xs : List X) → ((x : X) → P x → Q x) → All P xs → All Q xs
all_then P Q xs f h = λ k d less. f _ (h k d less)

all_with : {X : Type 0} (P Q R : X → Type 0) (xs : List X) → ((x : X) → P x → Q x → R x) → All P xs → All Q xs → All R xs
all_with P Q R xs f h g = λ k d less. f _ (h k d less) (g k d less)

-- ---- what holds of each item, and of each operand

abbrev pub argument_anew : (ℕ → ℕ) → Argument → Argument
argument_anew new = argument_edited (operand_renamed new)

abbrev pub item_anew : (ℕ → ℕ) → Item → Item
item_anew new (phi_item b phi) = phi_item b (phi_edited new (operand_renamed new) phi)
item_anew new (line_item b k l) = line_item b k (line_edited new (operand_renamed new) l)
item_anew new (end_item b t) = end_item b (end_edited new (operand_renamed new) t)

module _ (new : ℕ → ℕ) (P Q : Item → Type 0) (each : (item : Item) → P item → Q (item_anew new item)) where
  phis_anew : (b : ℕ) (ps : List Phi) (more : List Item) (more' : List Item) → (Each P more → Each Q more') → Each P (map (phi_item b) ps ++ more) → Each Q (map (phi_item b) (map (phi_edited new (operand_renamed new)) ps) ++ more')
  phis_anew b [] more more' behind h = behind h
  phis_anew b (p ∷ ps) more more' behind h = (each (phi_item b p) h.0, phis_anew b ps more more' behind h.1)

  lines_anew : (b k : ℕ) (ls : List Line) (end : Terminator) (more more' : List Item) → (Each P more → Each Q more')
      → Each P ((lines_from b k ls ++ end_item b end ∷ []) ++ more) → Each Q ((lines_from b k (map (line_edited new (operand_renamed new)) ls) ++ end_item b (end_edited new (operand_renamed new) end) ∷ []) ++ more')
  lines_anew b k [] end more more' behind h = (each (end_item b end) h.0, behind h.1)
  lines_anew b k (l ∷ ls) end more more' behind h = (each (line_item b k l) h.0, lines_anew b (suc k) ls end more more' behind h.1)

  blocks_anew : (b : ℕ) (bs : List Block) → Each P (items_from b bs) → Each Q (items_from b (map (block_edited new (operand_renamed new)) bs))
  blocks_anew b [] h = tt
  blocks_anew b (block ∷ bs) h =
      let phis : List Item = map (phi_item b) block.phis in
      let phis' : List Item = map (phi_item b) (map (phi_edited new (operand_renamed new)) block.phis) in
      let rest : List Item = lines_from b 0 block.lines ++ end_item b block.end ∷ [] in
      let rest' : List Item = lines_from b 0 (map (line_edited new (operand_renamed new)) block.lines) ++ end_item b (end_edited new (operand_renamed new) block.end) ∷ [] in
      let more = items_from (suc b) bs in
      let more' = items_from (suc b) (map (block_edited new (operand_renamed new)) bs) in
      subst (Each Q) (sym (append_assoc phis' rest' more'))
      (phis_anew b block.phis (rest ++ more) (rest' ++ more') (lines_anew b 0 block.lines block.end more more' (blocks_anew (suc b) bs)) (subst (Each P) (append_assoc phis rest more) h))

  pub items_anew : (f : Function) → All P (items f) → All Q (items (renamed new f))
  items_anew f h = All-from_recursion Q (items (renamed new f)) (blocks_anew 0 f.blocks (recursion_from_All P (items f) h))

module _ (new : ℕ → ℕ) where
  taken_anew : (reg : Reg) (es : List Incoming) → taken_as reg (map (incoming_edited new (operand_renamed new)) es) ≡ map (argument_anew new) (taken_as reg es)
  taken_anew reg [] = refl
  taken_anew reg (e ∷ es) = ap (λ (l : List Argument). argument_anew new (record { reg = reg; operand = e.value }) ∷ l) (taken_anew reg es)

  reads_anew : (i : Instr) → reads (instr_edited new (operand_renamed new) i) ≡ map (argument_anew new) (reads i)
  reads_anew (kind.Binary op flags width left right) = refl
  reads_anew (kind.Icmp predicate reg left right) = refl
  reads_anew (kind.Cast op from value to) = refl
  reads_anew (kind.Select condition if_true if_false) = refl
  reads_anew (kind.Freeze reg value) = refl
  reads_anew (kind.Alloca shape align) = refl
  reads_anew (kind.Load reg address align) = refl
  reads_anew (kind.Store reg value address align) = refl
  reads_anew (kind.Address inbounds shape base indices) = refl
  reads_anew (kind.Call result callee arguments) = refl
  reads_anew (kind.Phi reg incoming) = refl

  phi_reads_anew : (i : Instr) → phi_reads (instr_edited new (operand_renamed new) i) ≡ map (argument_anew new) (phi_reads i)
  phi_reads_anew (kind.Binary op flags width left right) = refl
  phi_reads_anew (kind.Icmp predicate reg left right) = refl
  phi_reads_anew (kind.Cast op from value to) = refl
  phi_reads_anew (kind.Select condition if_true if_false) = refl
  phi_reads_anew (kind.Freeze reg value) = refl
  phi_reads_anew (kind.Alloca shape align) = refl
  phi_reads_anew (kind.Load reg address align) = refl
  phi_reads_anew (kind.Store reg value address align) = refl
  phi_reads_anew (kind.Address inbounds shape base indices) = refl
  phi_reads_anew (kind.Call result callee arguments) = refl
  phi_reads_anew (kind.Phi reg incoming) = taken_anew reg incoming

  end_reads_anew : (t : Terminator) → end_reads (end_edited new (operand_renamed new) t) ≡ map (argument_anew new) (end_reads t)
  end_reads_anew (Return None) = refl
  end_reads_anew (Return (Some a)) = refl
  end_reads_anew (Jump target) = refl
  end_reads_anew (Branch condition if_true if_false) = refl
  end_reads_anew (Switch width value default cases) = refl
  end_reads_anew Unreachable = refl

  same_operands : (item : Item) → operands (item_anew new item) ≡ map (argument_anew new) (operands item)
  same_operands (phi_item b phi) = taken_anew phi.reg phi.incoming
  same_operands (line_item b k l) = (λ i. reads_anew l.instr i ++ phi_reads_anew l.instr i) ∙ sym (map-append (argument_anew new) (reads l.instr) (phi_reads l.instr))
  same_operands (end_item b t) = end_reads_anew t

  pub operands_anew : (item : Item) (P Q : Argument → Type 0) → ((a : Argument) → P a → Q (argument_anew new a)) → All P (operands item) → All Q (operands (item_anew new item))
  operands_anew item P Q g h = subst (All Q) (sym (same_operands item)) (All-map Q (argument_anew new) (operands item) (all_then P (λ a. Q (argument_anew new a)) (operands item) g h))

known_anew : (new : ℕ → ℕ) (known : List Symbol) (x : Operand) → IsKnown known x → IsKnown known (operand_renamed new x)
known_anew new known (operand.Symbol symbol offset) k = k
known_anew new known (operand.Local n) k = tt
known_anew new known (operand.Number w bits) k = tt
known_anew new known operand.Null k = tt
known_anew new known (operand.Poison reg) k = tt

-- ---- globals

symbol_anew : (g : GlobalValue) → global_symbol (value_anew g) ≡ global_symbol g
symbol_anew (globals.Variable v) = refl
symbol_anew (globals.Function f) = refl

pub symbols_anew : (gs : List GlobalValue) → symbols (map value_anew gs) ≡ symbols gs
symbols_anew [] = refl
symbols_anew (g ∷ gs) = λ i. symbol_anew g i ∷ symbols_anew gs i

module _ (sound : TextOrderIsSound) where
  sound_anew : (g : GlobalValue) → GlobalSound g → GlobalSound (value_anew g)
  sound_anew (globals.Variable v) s = s
  sound_anew (globals.Function f) s = sound f s

  formed_anew : (g : GlobalValue) → GlobalFormed g → GlobalSound g → GlobalFormed (value_anew g)
  formed_anew (globals.Variable v) h s = h
  formed_anew (globals.Function f) h s = (sound f s).formed

  value_known : (known : List Symbol) (g : GlobalValue) → GlobalKnown known g → GlobalKnown known (value_anew g)
  value_known known (globals.Variable v) k = k
  value_known known (globals.Function f) k =
      let new = new_number (numbers_of f) in
      items_anew new (ItemKnown known) (ItemKnown known)
      (λ item h. operands_anew new item (λ a. IsKnown known a.operand) (λ a. IsKnown known a.operand) (λ a. known_anew new known a.operand) h) f k

  pub verified_anew : (m : Module) → IsVerified m → IsVerified (numbered_anew m)
  verified_anew m v =
      let gs = m.globals in let same = symbols_anew gs in
      record {
        whole = record {
          formed = All-map GlobalFormed value_anew gs (all_with GlobalFormed GlobalSound (λ g. GlobalFormed (value_anew g)) gs formed_anew v.whole.formed v.sound);
          once = subst Distinct (sym same) v.whole.once;
          homeless = subst (All (λ (s : Symbol). s.home ≡ None)) (sym same) v.whole.homeless;
          known = subst (λ (known : List Symbol). All (GlobalKnown known) (map value_anew gs)) (sym same) (All-map (GlobalKnown (symbols gs)) value_anew gs (all_then (GlobalKnown (symbols gs)) (λ g. GlobalKnown (symbols gs) (value_anew g)) gs (value_known (symbols gs)) v.whole.known));
        };
        sound = All-map GlobalSound value_anew gs (all_then GlobalSound (λ g. GlobalSound (value_anew g)) gs sound_anew v.sound);
      }

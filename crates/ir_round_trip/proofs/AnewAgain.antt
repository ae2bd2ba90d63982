-- What is printed of a verified module that was numbered anew is read as it.
use Rattle.std.proofs.Common.{◌≡◌, ℕ, ◌≤◌, List, [], ◌∷◌, map, refl, sym, subst, arith}
use Rattle.std.specs.List.{AllByRecursion as Each}
use Rattle.std.proofs.lemmas.List.{length-append, length-map}
use Rattle.std.proofs.lemmas.List.Elements.{recursion_from_All}
use Rattle.ir_tree.specs.Edited.{block_edited, incoming_edited, instr_edited, line_edited, operand_renamed, param_edited, phi_edited}
use Rattle.ir_edit.specs.Numbered.{in_text_order, new_number, numbers_of}
use Rattle.ir_edit.specs.Sounds.{TextOrderIsSound}
use Rattle.ir_tree.specs.Items.{Item, phi_item, line_item, end_item}
use Rattle.ir_tree.specs.Wholes.{GlobalFormed}
use Rattle.ir_tree.specs.declared.block.Block.{Block}
use Rattle.ir_tree.specs.declared.function.Function.{Function}
use Rattle.ir_tree.specs.declared.instr.Incoming.{Incoming}
use Rattle.ir_tree.specs.declared.instr.Instr.{Instr}
use Rattle.ir_tree.specs.declared.instr.Instr.TheVariants as kind
use Rattle.ir_tree.specs.declared.module.GlobalValue.{GlobalValue}
use Rattle.ir_tree.specs.declared.module.GlobalValue.TheVariants as globals
use Rattle.ir_tree.specs.declared.module.Module.{Module}
use Rattle.ir_tree.specs.declared.operand.Operand.{Operand}
use Rattle.ir_tree.specs.declared.operand.Operand.TheVariants as operand
use Rattle.ir_round_trip.specs.Bodies.{instructions, phi_as_line}
use Rattle.ir_round_trip.specs.Anew.{numbered_anew, value_anew}
use Rattle.ir_round_trip.specs.Laws.{NumberedAnewIsRead, TextOrderIsNumbered, VerifiedIsRead}
use Rattle.ir_round_trip.specs.Numbered.{LocalsNumbered, StringsAreBytes}
use Rattle.ir_round_trip.specs.Within.{FunctionWithin, HasEntry, InstrWithin, ItemWithin, KindWithin, ModuleWithin, NameWithin, OffsetFits, ValueWithin}
use Rattle.ir_round_trip.proofs.Anew.{item_anew, items_anew, operands_anew, symbols_anew, verified_anew}

module _ (new : ℕ → ℕ) where
  offset_fits : (x : Operand) → OffsetFits x → OffsetFits (operand_renamed new x)
  offset_fits (operand.Symbol symbol offset) h = h
  offset_fits (operand.Local n) h = tt
  offset_fits (operand.Number w bits) h = tt
  offset_fits operand.Null h = tt
  offset_fits (operand.Poison reg) h = tt

  has_entry : (es : List Incoming) → HasEntry es → HasEntry (map (incoming_edited new (operand_renamed new)) es)
  has_entry [] h = absurd h
  has_entry (e ∷ es) h = tt

  instr_within : (i : Instr) → InstrWithin i → InstrWithin (instr_edited new (operand_renamed new) i)
  instr_within (kind.Binary op flags width left right) h = tt
  instr_within (kind.Icmp predicate reg left right) h = tt
  instr_within (kind.Cast op from value to) h = tt
  instr_within (kind.Select condition if_true if_false) h = tt
  instr_within (kind.Freeze reg value) h = tt
  instr_within (kind.Alloca shape align) h = h
  instr_within (kind.Load reg address align) h = tt
  instr_within (kind.Store reg value address align) h = tt
  instr_within (kind.Address inbounds shape base indices) h = h
  instr_within (kind.Call result callee arguments) h = tt
  instr_within (kind.Phi reg incoming) h = has_entry incoming h

  kind_within : (item : Item) → KindWithin item → KindWithin (item_anew new item)
  kind_within (phi_item b phi) h = has_entry phi.incoming h
  kind_within (line_item b k l) h = instr_within l.instr h
  kind_within (end_item b t) h = tt

  item_within : (item : Item) → ItemWithin item → ItemWithin (item_anew new item)
  item_within item h = record {
    offsets = operands_anew new item (λ a. OffsetFits a.operand) (λ a. OffsetFits a.operand) (λ a. offset_fits a.operand) h.offsets;
    kind = kind_within item h.kind;
  }

  -- as many instructions as before
  same_many : (bs : List Block) → instructions (map (block_edited new (operand_renamed new)) bs) ≡ instructions bs
  same_many [] = refl
  same_many (b ∷ bs) =
      let phis = length-append (map phi_as_line b.phis) b.lines in
      let phis' = length-append (map phi_as_line (map (phi_edited new (operand_renamed new)) b.phis)) (map (line_edited new (operand_renamed new)) b.lines) in
      let a = length-map b.phis phi_as_line in
      let c = length-map (map (phi_edited new (operand_renamed new)) b.phis) phi_as_line in
      let d = length-map b.phis (phi_edited new (operand_renamed new)) in
      let e = length-map b.lines (line_edited new (operand_renamed new)) in
      let rest = same_many bs in
      omega (arith, phis, phis', a, c, d, e, rest)

as_few : (n m k : ℕ) → m ≡ n → n ≤ k → m ≤ k
as_few n m k e h = omega (arith, e, h)

function_within : (f : Function) → FunctionWithin f → FunctionWithin (in_text_order f)
function_within f h =
    let new = new_number (numbers_of f) in
    let params = length-map f.params (param_edited new) in
    let blocks = length-map f.blocks (block_edited new (operand_renamed new)) in
    record {
      few_parameters = as_few _ _ _ params h.few_parameters;
      few_blocks = as_few _ _ _ blocks h.few_blocks;
      few_instructions = as_few _ _ _ (same_many new f.blocks) h.few_instructions;
      items = items_anew new ItemWithin ItemWithin (item_within new) f h.items;
    }

value_within : (g : GlobalValue) → ValueWithin g → ValueWithin (value_anew g)
value_within (globals.Variable v) h = h
value_within (globals.Function f) h = function_within f h

each_anew : (P Q : GlobalValue → Type 0) → ((g : GlobalValue) → P g → Q (value_anew g)) → (gs : List GlobalValue) → Each P gs → Each Q (map value_anew gs)
each_anew P Q one [] h = tt
each_anew P Q one (g ∷ gs) h = (one g h.0, each_anew P Q one gs h.1)

within_anew : (m : Module) → ModuleWithin m → ModuleWithin (numbered_anew m)
within_anew m w = record {
  layout = w.layout;
  names = subst (Each NameWithin) (sym (symbols_anew m.globals)) w.names;
  values = each_anew ValueWithin ValueWithin value_within m.globals w.values;
  few = as_few _ _ _ (length-map m.globals value_anew) w.few;
}

strings_anew : (g : GlobalValue) → StringsAreBytes g → StringsAreBytes (value_anew g)
strings_anew (globals.Variable v) h = h
strings_anew (globals.Function f) h = tt

locals_anew : TextOrderIsNumbered → (g : GlobalValue) → GlobalFormed g → LocalsNumbered (value_anew g)
locals_anew numbered (globals.Variable v) h = tt
locals_anew numbered (globals.Function f) h = numbered f h

pub anew_again : TextOrderIsSound → TextOrderIsNumbered → VerifiedIsRead → NumberedAnewIsRead
anew_again sound numbered read m v strings triple w =
    read (numbered_anew m) (verified_anew sound m v)
    (record {
      strings = each_anew StringsAreBytes StringsAreBytes strings_anew m.globals strings;
      locals = each_anew GlobalFormed LocalsNumbered (locals_anew numbered) m.globals (recursion_from_All GlobalFormed m.globals v.whole.formed);
      triple = triple;
    })
    (within_anew m w)

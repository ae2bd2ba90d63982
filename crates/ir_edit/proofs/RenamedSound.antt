-- A sound function is sound under other numbers, one to one.
use Rattle.std.proofs.Common.{◌≡◌, ℕ, ◌+◌, nat_eq, true, List, [], ◌∷◌, ◌++◌, Option, Some, None, map, option_map, refl, sym, ◌∙◌, ap, subst, arith}
use Rattle.std.specs.Prelude.{All, IsSome, count_by, slice_get}
use Rattle.std.proofs.lemmas.List.{map-append}
use Rattle.std.proofs.lemmas.List.Elements.{All-map}
use Rattle.std.proofs.lemmas.Option.{slice_get-map}
use Rattle.ir_tree.specs.Forms.{Form, int, pointer, array, structure}
use Rattle.ir_tree.specs.Flow.{holds, locals, successors}
use Rattle.ir_tree.specs.Formed.{ArgumentFormed, CaseFormed, CasesFormed, Distinct, Formed, InstrFormed, IsBlock, IsReg, ItemFormed, KindFormed, OperandFormed, ResultFormed, numbers}
use Rattle.ir_tree.specs.Items.{Item, phi_item, line_item, end_item, end_reads, entries, items, operands, phi_reads, reads, taken_as, typed}
use Rattle.ir_tree.specs.Rules.{CaseHas, CasesDiffer, EndDiffers, EndTypes, EntriesThere, Follow, HasEdges, HasType, IndicesFollow, IsNoPhi, IsThere, IsThereAtEnd, Keeps, KindTypes, LeavesEntry, LineCasts, LineFollows, LineOnEdges, LineTypes, OnEdges, ReadsThere, Sound, StandsRight, place}
use Rattle.ir_tree.specs.declared.block.Block.{Block}
use Rattle.ir_tree.specs.declared.block.Case.{Case}
use Rattle.ir_tree.specs.declared.block.Terminator.{Terminator}
use Rattle.ir_tree.specs.declared.block.Terminator.TheVariants.{Branch, Jump, Return, Switch, Unreachable}
use Rattle.ir_tree.specs.declared.function.Function.{Function}
use Rattle.ir_tree.specs.declared.instr.Incoming.{Incoming}
use Rattle.ir_tree.specs.declared.instr.Instr.{Instr}
use Rattle.ir_tree.specs.declared.instr.Instr.TheVariants as kind
use Rattle.ir_tree.specs.declared.operand.Argument.{Argument}
use Rattle.ir_tree.specs.declared.operand.Operand.{Operand}
use Rattle.ir_tree.specs.declared.operand.Operand.TheVariants as operand
use Rattle.ir_tree.specs.declared.operand.Reg.{Reg}
use Rattle.ir_tree.specs.declared.rule.Rule.{Rule}
use Rattle.ir_tree.specs.declared.rule.Rule.TheVariants.{TypeMismatch, NotAvailable, PhiEdges, PhiPlace, EntryBranch, Index, Cast, CaseTwice}
use Rattle.ir_tree.specs.Edited.{case_edited, param_edited, renamed}
use Rattle.ir_edit.specs.Numbered.{new_number, numbers_of}
use Rattle.ir_edit.specs.OneToOne.{IsOneToOne}
use Rattle.ir_edit.specs.Sounds.{ShiftedIsSound, TextOrderIsSound}
use Rattle.ir_edit.proofs.Apart.{is_one_to_one}
use Rattle.ir_edit.proofs.RenamedParts.{argument_under, block_under, edges_under, end_reads_under, end_under, entries_under, entry_under, holds_under, instr_under, item_under, items_under, locals_under, numbers_under, operand_under, operands_under, place_under, reads_under, targets_under, type_under}
use Rattle.ir_edit.proofs.RenamedPaths.{available_at_end_under, available_at_under}
use Rattle.ir_edit.proofs.Squares.{all_along, all_front, all_then, all_unmapped, all_with, count_square, counted}

-- an element of a list of changed ones is a changed one
abbrev IsChanged : {A B : Type 0} → (A → B) → List A → ℕ → B → Type 0
IsChanged {A} f xs i y = (x : A) × (slice_get xs i ≡ Some x) × (f x ≡ y)

of_option : {A B : Type 0} (f : A → B) (o : Option A) (y : B) → option_map f o ≡ Some y → (x : A) × (o ≡ Some x) × (f x ≡ y)
of_option f None y e = absurd cc
of_option f (Some x) y e = (x, refl, cc e)

changed : {A B : Type 0} (f : A → B) (xs : List A) (i : ℕ) (y : B) → slice_get (map f xs) i ≡ Some y → IsChanged f xs i y
changed f xs i y e = of_option f (slice_get xs i) y (sym (slice_get-map f xs i) ∙ e)

distinct_under : (new : ℕ → ℕ) → IsOneToOne new → (xs : List ℕ) → Distinct xs → Distinct (map new xs)
distinct_under new apart xs distinct i j y at_i at_j = by (changed new xs i y at_i) (changed new xs j y at_j)
  where
    by : IsChanged new xs i y → IsChanged new xs j y → i ≡ j
    by (x, x_at, x_is) (z, z_at, z_is) = distinct i j x x_at (z_at ∙ ap (λ (n : ℕ). Some n) (apart z x (z_is ∙ sym x_is)))

some_still : (new : ℕ → ℕ) (o : Option ℕ) → IsSome o → IsSome (option_map new o)
some_still new None h = h
some_still new (Some x) h = h

none_still : (new : ℕ → ℕ) (o : Option ℕ) → o ≡ None → option_map new o ≡ None
none_still new o e = ap (option_map new) e

no_blocks : (new : ℕ → ℕ) (bs : List Block) → map (block_under new) bs ≡ [] → bs ≡ []
no_blocks new [] e = refl
no_blocks new (b ∷ bs) e = absurd cc

module _ (new : ℕ → ℕ) (apart : IsOneToOne new) (f : Function) where
  -- ---- formed

  local_under : (x : ℕ) → holds (locals f) x ≡ true → holds (locals (renamed new f)) (new x) ≡ true
  local_under x h = ap (λ (l : List ℕ). holds l (new x)) (locals_under new f) ∙ holds_under new apart (locals f) x ∙ h

  block_there : (n : ℕ) → IsBlock f n → IsBlock (renamed new f) (new n)
  block_there n h = ap (λ (l : List ℕ). holds l (new n)) (numbers_under new f) ∙ holds_under new apart (numbers f) n ∙ h

  operand_formed : (o : Operand) → OperandFormed f o → OperandFormed (renamed new f) (operand_under new o)
  operand_formed (operand.Local x) h = local_under x h
  operand_formed (operand.Number width bits) h = h
  operand_formed operand.Null h = h
  operand_formed (operand.Poison reg) h = h
  operand_formed (operand.Symbol symbol offset) h = h

  argument_formed : (a : Argument) → ArgumentFormed f a → ArgumentFormed (renamed new f) (argument_under new a)
  argument_formed a h = (h.0, operand_formed a.operand h.1)

  instr_formed : (i : Instr) → InstrFormed i → InstrFormed (instr_under new i)
  instr_formed (kind.Binary op flags width left right) h = h
  instr_formed (kind.Icmp predicate reg left right) h = h
  instr_formed (kind.Cast op from value to) h = h
  instr_formed (kind.Select condition if_true if_false) h = h
  instr_formed (kind.Freeze reg value) h = h
  instr_formed (kind.Alloca shape align) h = h
  instr_formed (kind.Load reg address align) h = h
  instr_formed (kind.Store reg value address align) h = h
  instr_formed (kind.Address inbounds shape base indices) h = h
  instr_formed (kind.Call result callee arguments) h = h
  instr_formed (kind.Phi reg incoming) h = h

  result_formed : (i : Instr) (local : Option ℕ) → ResultFormed i local → ResultFormed (instr_under new i) (option_map new local)
  result_formed (kind.Binary op flags width left right) local h = some_still new local h
  result_formed (kind.Icmp predicate reg left right) local h = some_still new local h
  result_formed (kind.Cast op from value to) local h = some_still new local h
  result_formed (kind.Select condition if_true if_false) local h = some_still new local h
  result_formed (kind.Freeze reg value) local h = some_still new local h
  result_formed (kind.Alloca shape align) local h = some_still new local h
  result_formed (kind.Load reg address align) local h = some_still new local h
  result_formed (kind.Store reg value address align) local h = none_still new local h
  result_formed (kind.Address inbounds shape base indices) local h = some_still new local h
  result_formed (kind.Call None callee arguments) local h = tt
  result_formed (kind.Call (Some reg) callee arguments) local h = some_still new local h
  result_formed (kind.Phi reg incoming) local h = some_still new local h

  cases_formed : (t : Terminator) → CasesFormed t → CasesFormed (end_under new t)
  cases_formed (Return argument) h = tt
  cases_formed (Jump target) h = tt
  cases_formed (Branch condition if_true if_false) h = tt
  cases_formed (Switch width value default cases) h = All-map CaseFormed (case_edited new) cases h
  cases_formed Unreachable h = tt

  -- what holds of each target of a terminator
  targets_all : (P Q : ℕ → Type 0) (t : Terminator) → ((n : ℕ) → P n → Q (new n)) → All P (successors t) → All Q (successors (end_under new t))
  targets_all P Q t f h = all_along Q (map new (successors t)) (successors (end_under new t)) (sym (targets_under new t)) (All-map Q new (successors t) (all_then P (λ n. Q (new n)) (successors t) f h))

  kind_formed : (item : Item) → KindFormed f item → KindFormed (renamed new f) (item_under new item)
  kind_formed (phi_item b phi) h = h
  kind_formed (line_item b k l) h = (instr_formed l.instr h.0, result_formed l.instr l.local h.1)
  kind_formed (end_item b t) h = (cases_formed t h.0, targets_all (IsBlock f) (IsBlock (renamed new f)) t block_there h.1)

  operands_all : (P Q : Argument → Type 0) (item : Item) → ((a : Argument) → P a → Q (argument_under new a)) → All P (operands item) → All Q (operands (item_under new item))
  operands_all P Q item g h =
      all_along Q (map (argument_under new) (operands item)) (operands (item_under new item)) (sym (operands_under new item))
      (All-map Q (argument_under new) (operands item) (all_then P (λ a. Q (argument_under new a)) (operands item) g h))

  entries_all : (P Q : Incoming → Type 0) (item : Item) → ((e : Incoming) → P e → Q (entry_under new e)) → All P (entries item) → All Q (entries (item_under new item))
  entries_all P Q item g h =
      all_along Q (map (entry_under new) (entries item)) (entries (item_under new item)) (sym (entries_under new item))
      (All-map Q (entry_under new) (entries item) (all_then P (λ e. Q (entry_under new e)) (entries item) g h))

  item_formed : (item : Item) → ItemFormed f item → ItemFormed (renamed new f) (item_under new item)
  item_formed item h = record {
    operands = operands_all (ArgumentFormed f) (ArgumentFormed (renamed new f)) item argument_formed h.operands;
    sources = entries_all (λ e. IsBlock f e.from) (λ e. IsBlock (renamed new f) e.from) item (λ e. block_there e.from) h.sources;
    kind = kind_formed item h.kind;
  }

  items_all : (P Q : Item → Type 0) → ((item : Item) → P item → Q (item_under new item)) → All P (items f) → All Q (items (renamed new f))
  items_all P Q g h =
      all_along Q (map (item_under new) (items f)) (items (renamed new f)) (sym (items_under new f))
      (All-map Q (item_under new) (items f) (all_then P (λ item. Q (item_under new item)) (items f) g h))

  formed_under : Formed f → Formed (renamed new f)
  formed_under h = record {
    result = h.result;
    params = All-map (λ p. IsReg p.reg) (param_edited new) f.params h.params;
    once =
        subst Distinct (sym ((λ i. locals_under new f i ++ numbers_under new f i) ∙ sym (map-append new (locals f) (numbers f))))
        (distinct_under new apart (locals f ++ numbers f) h.once);
    items = items_all (ItemFormed f) (ItemFormed (renamed new f)) item_formed h.items;
    declared = λ none. h.declared (no_blocks new f.blocks none);
  }

  -- ---- 1

  has_type : (a : Argument) → HasType f a → HasType (renamed new f) (argument_under new a)
  has_type a h = type_under new apart f a.operand ∙ h

  line_types : (local : Option ℕ) (i : Instr) → LineTypes local i → LineTypes (option_map new local) (instr_under new i)
  line_types local (kind.Binary op flags width left right) h = tt
  line_types local (kind.Icmp predicate reg left right) h = tt
  line_types local (kind.Cast op from value to) h = tt
  line_types local (kind.Select condition if_true if_false) h = h
  line_types local (kind.Freeze reg value) h = tt
  line_types local (kind.Alloca shape align) h = tt
  line_types local (kind.Load reg address align) h = tt
  line_types local (kind.Store reg value address align) h = tt
  line_types local (kind.Address inbounds shape base indices) h = tt
  line_types local (kind.Call None callee arguments) h = none_still new local h
  line_types local (kind.Call (Some reg) callee arguments) h = tt
  line_types local (kind.Phi reg incoming) h = tt

  end_types : (t : Terminator) → EndTypes f t → EndTypes (renamed new f) (end_under new t)
  end_types (Return None) h = h
  end_types (Return (Some a)) h = h
  end_types (Jump target) h = tt
  end_types (Branch condition if_true if_false) h = tt
  end_types (Switch width value default cases) h = All-map (CaseHas width) (case_edited new) cases h
  end_types Unreachable h = tt

  kind_types : (item : Item) → KindTypes f item → KindTypes (renamed new f) (item_under new item)
  kind_types (phi_item b phi) h = tt
  kind_types (line_item b k l) h = line_types l.local l.instr h
  kind_types (end_item b t) h = end_types t h

  -- ---- 2

  there_under : (b k : ℕ) (o : Operand) → OperandFormed f o → IsThere f b k o → IsThere (renamed new f) b k (operand_under new o)
  there_under b k (operand.Local x) formed h = available_at_under new apart f b k x formed h
  there_under b k (operand.Number width bits) formed h = tt
  there_under b k operand.Null formed h = tt
  there_under b k (operand.Poison reg) formed h = tt
  there_under b k (operand.Symbol symbol offset) formed h = tt

  at_end_under : (b : ℕ) (o : Operand) → OperandFormed f o → IsThereAtEnd f b o → IsThereAtEnd (renamed new f) b (operand_under new o)
  at_end_under b (operand.Local x) formed h = available_at_end_under new apart f b x formed h
  at_end_under b (operand.Number width bits) formed h = tt
  at_end_under b operand.Null formed h = tt
  at_end_under b (operand.Poison reg) formed h = tt
  at_end_under b (operand.Symbol symbol offset) formed h = tt

  -- each argument of a list is there, as each is formed
  arguments_there : (P Q : Argument → Type 0) (as' bs : List Argument) → bs ≡ map (argument_under new) as' → ((a : Argument) → ArgumentFormed f a → P a → Q (argument_under new a))
      → All (ArgumentFormed f) as' → All P as' → All Q bs
  arguments_there P Q as' bs is g formed h =
      all_along Q (map (argument_under new) as') bs (sym is) (All-map Q (argument_under new) as' (all_with (ArgumentFormed f) P (λ a. Q (argument_under new a)) as' g formed h))

  reads_there : (item : Item) → All (ArgumentFormed f) (operands item) → ReadsThere f item → ReadsThere (renamed new f) (item_under new item)
  reads_there (phi_item b phi) formed h = tt
  reads_there (line_item b k l) formed h =
      arguments_there (λ a. IsThere f b k a.operand) (λ a. IsThere (renamed new f) b k a.operand) (reads l.instr) (reads (instr_under new l.instr)) (reads_under new l.instr)
      (λ a ok there. there_under b k a.operand ok.1 there) (all_front (ArgumentFormed f) (reads l.instr) (phi_reads l.instr) formed) h
  reads_there (end_item b t) formed h =
      arguments_there (λ a. IsThereAtEnd f b a.operand) (λ a. IsThereAtEnd (renamed new f) b a.operand) (end_reads t) (end_reads (end_under new t)) (end_reads_under new t)
      (λ a ok there. at_end_under b a.operand ok.1 there) formed h

  taken_formed : (reg : Reg) (es : List Incoming) → All (ArgumentFormed f) (taken_as reg es) → All (λ e. OperandFormed f e.value) es
  taken_formed reg es h = all_then (λ e. ArgumentFormed f (typed reg e.value)) (λ e. OperandFormed f e.value) es (λ e ok. ok.1) (all_unmapped (ArgumentFormed f) (λ e. typed reg e.value) es h)

  none_all : (P : Incoming → Type 0) → All P []
  none_all P = λ k d lt. absurd (omega (arith, lt))

  entries_formed : (item : Item) → All (ArgumentFormed f) (operands item) → All (λ e. OperandFormed f e.value) (entries item)
  entries_formed (phi_item b phi) h = taken_formed phi.reg phi.incoming h
  entries_formed (line_item b k l) h = by l.instr h
    where
      by : (i : Instr) → All (ArgumentFormed f) (reads i ++ phi_reads i) → All (λ e. OperandFormed f e.value) (entries (line_item b k (record { local = l.local; instr = i })))
      by (kind.Phi reg incoming) h = taken_formed reg incoming h
      by (kind.Binary op flags width left right) h = none_all (λ e. OperandFormed f e.value)
      by (kind.Icmp predicate reg left right) h = none_all (λ e. OperandFormed f e.value)
      by (kind.Cast op from value to) h = none_all (λ e. OperandFormed f e.value)
      by (kind.Select condition if_true if_false) h = none_all (λ e. OperandFormed f e.value)
      by (kind.Freeze reg value) h = none_all (λ e. OperandFormed f e.value)
      by (kind.Alloca shape align) h = none_all (λ e. OperandFormed f e.value)
      by (kind.Load reg address align) h = none_all (λ e. OperandFormed f e.value)
      by (kind.Store reg value address align) h = none_all (λ e. OperandFormed f e.value)
      by (kind.Address inbounds shape base indices) h = none_all (λ e. OperandFormed f e.value)
      by (kind.Call result callee arguments) h = none_all (λ e. OperandFormed f e.value)
  entries_formed (end_item b t) h = none_all (λ e. OperandFormed f e.value)

  entry_there : (e : Incoming) → OperandFormed f e.value → IsThereAtEnd f (place f.blocks e.from) e.value
      → IsThereAtEnd (renamed new f) (place (renamed new f).blocks (new e.from)) (operand_under new e.value)
  entry_there e formed h =
      subst (λ (b : ℕ). IsThereAtEnd (renamed new f) b (operand_under new e.value)) (sym (place_under new apart f.blocks e.from)) (at_end_under (place f.blocks e.from) e.value formed h)

  entries_there : (item : Item) → All (ArgumentFormed f) (operands item) → EntriesThere f item → EntriesThere (renamed new f) (item_under new item)
  entries_there item formed h =
      all_along (λ e. IsThereAtEnd (renamed new f) (place (renamed new f).blocks e.from) e.value) (map (entry_under new) (entries item)) (entries (item_under new item)) (sym (entries_under new item))
      (All-map (λ e. IsThereAtEnd (renamed new f) (place (renamed new f).blocks e.from) e.value) (entry_under new) (entries item)
      (all_with (λ e. OperandFormed f e.value) (λ e. IsThereAtEnd f (place f.blocks e.from) e.value)
      (λ e. IsThereAtEnd (renamed new f) (place (renamed new f).blocks (new e.from)) (operand_under new e.value)) (entries item) entry_there (entries_formed item formed) h))

  -- ---- 3 and 4

  on_edges : (b : ℕ) (es : List Incoming) → OnEdges f b es → OnEdges (renamed new f) b (map (entry_under new) es)
  on_edges b es h = record {
    each = λ p.
        count_square (entry_under new) (λ e. nat_eq (place (renamed new f).blocks e.from) p) es
        ∙ counted (λ e. nat_eq (place (renamed new f).blocks (new e.from)) p) (λ e. nat_eq (place f.blocks e.from) p) (λ e. ap (λ (q : ℕ). nat_eq q p) (place_under new apart f.blocks e.from)) es
        ∙ h.each p
        ∙ ap (count_by (λ q. nat_eq q p)) (sym (edges_under new apart f b));
    equal = λ i j e d at_i at_j same. by i j e d same (changed (entry_under new) es i e at_i) (changed (entry_under new) es j d at_j);
  }
    where
      by : (i j : ℕ) (e d : Incoming) → e.from ≡ d.from → IsChanged (entry_under new) es i e → IsChanged (entry_under new) es j d → e.value ≡ d.value
      by i j e d same (x, x_at, x_is) (y, y_at, y_is) =
          ap (λ (z : Incoming). z.value) (sym x_is)
          ∙ ap (operand_under new) (h.equal i j x y x_at y_at (apart x.from y.from (ap (λ (z : Incoming). z.from) x_is ∙ same ∙ ap (λ (z : Incoming). z.from) (sym y_is))))
          ∙ ap (λ (z : Incoming). z.value) y_is

  line_on_edges : (b : ℕ) (i : Instr) → LineOnEdges f b i → LineOnEdges (renamed new f) b (instr_under new i)
  line_on_edges b (kind.Binary op flags width left right) h = tt
  line_on_edges b (kind.Icmp predicate reg left right) h = tt
  line_on_edges b (kind.Cast op from value to) h = tt
  line_on_edges b (kind.Select condition if_true if_false) h = tt
  line_on_edges b (kind.Freeze reg value) h = tt
  line_on_edges b (kind.Alloca shape align) h = tt
  line_on_edges b (kind.Load reg address align) h = tt
  line_on_edges b (kind.Store reg value address align) h = tt
  line_on_edges b (kind.Address inbounds shape base indices) h = tt
  line_on_edges b (kind.Call result callee arguments) h = tt
  line_on_edges b (kind.Phi reg incoming) h = on_edges b incoming h

  has_edges : (item : Item) → HasEdges f item → HasEdges (renamed new f) (item_under new item)
  has_edges (phi_item b phi) h = on_edges b phi.incoming h
  has_edges (line_item b k l) h = line_on_edges b l.instr h
  has_edges (end_item b t) h = tt

  no_phi : (i : Instr) → IsNoPhi i → IsNoPhi (instr_under new i)
  no_phi (kind.Binary op flags width left right) h = tt
  no_phi (kind.Icmp predicate reg left right) h = tt
  no_phi (kind.Cast op from value to) h = tt
  no_phi (kind.Select condition if_true if_false) h = tt
  no_phi (kind.Freeze reg value) h = tt
  no_phi (kind.Alloca shape align) h = tt
  no_phi (kind.Load reg address align) h = tt
  no_phi (kind.Store reg value address align) h = tt
  no_phi (kind.Address inbounds shape base indices) h = tt
  no_phi (kind.Call result callee arguments) h = tt
  no_phi (kind.Phi reg incoming) h = h

  stands_right : (item : Item) → StandsRight item → StandsRight (item_under new item)
  stands_right (phi_item b phi) h = h
  stands_right (line_item b k l) h = no_phi l.instr h
  stands_right (end_item b t) h = tt

  -- ---- 5 to 8

  leaves_entry : (item : Item) → LeavesEntry f item → LeavesEntry (renamed new f) (item_under new item)
  leaves_entry (phi_item b phi) h = tt
  leaves_entry (line_item b k l) h = tt
  leaves_entry (end_item b t) h =
      targets_all (λ n. place f.blocks n ≡ 0 → ⊥) (λ n. place (renamed new f).blocks n ≡ 0 → ⊥) t (λ n away here. away (sym (place_under new apart f.blocks n) ∙ here)) h

  follow : (form : Form) (as' : List Argument) → Follow form as' → Follow form (map (argument_under new) as')
  follow form [] h = tt
  follow (int w) (a ∷ more) h = h
  follow pointer (a ∷ more) h = h
  follow (array n of) (a ∷ more) h = (h.0, follow of more h.1)
  follow (structure packed parts) (a ∷ more) (k, form, is, part, rest) = (k, form, ap (argument_under new) is, part, follow form more rest)

  indices_follow : (form : Form) (as' : List Argument) → IndicesFollow form as' → IndicesFollow form (map (argument_under new) as')
  indices_follow form [] h = tt
  indices_follow form (a ∷ more) h = (h.0, follow form more h.1)

  line_follows : (i : Instr) → LineFollows i → LineFollows (instr_under new i)
  line_follows (kind.Binary op flags width left right) h = tt
  line_follows (kind.Icmp predicate reg left right) h = tt
  line_follows (kind.Cast op from value to) h = tt
  line_follows (kind.Select condition if_true if_false) h = tt
  line_follows (kind.Freeze reg value) h = tt
  line_follows (kind.Alloca shape align) h = tt
  line_follows (kind.Load reg address align) h = tt
  line_follows (kind.Store reg value address align) h = tt
  line_follows (kind.Address inbounds shape base indices) h = indices_follow shape indices h
  line_follows (kind.Call result callee arguments) h = tt
  line_follows (kind.Phi reg incoming) h = tt

  line_casts : (i : Instr) → LineCasts i → LineCasts (instr_under new i)
  line_casts (kind.Binary op flags width left right) h = tt
  line_casts (kind.Icmp predicate reg left right) h = h
  line_casts (kind.Cast op from value to) h = h
  line_casts (kind.Select condition if_true if_false) h = tt
  line_casts (kind.Freeze reg value) h = h
  line_casts (kind.Alloca shape align) h = tt
  line_casts (kind.Load reg address align) h = tt
  line_casts (kind.Store reg value address align) h = tt
  line_casts (kind.Address inbounds shape base indices) h = tt
  line_casts (kind.Call result callee arguments) h = tt
  line_casts (kind.Phi reg incoming) h = tt

  cases_differ : (cs : List Case) → CasesDiffer cs → CasesDiffer (map (case_edited new) cs)
  cases_differ cs h i j c d at_i at_j same = by (changed (case_edited new) cs i c at_i) (changed (case_edited new) cs j d at_j)
    where
      by : IsChanged (case_edited new) cs i c → IsChanged (case_edited new) cs j d → i ≡ j
      by (x, x_at, x_is) (y, y_at, y_is) = h i j x y x_at y_at (ap (λ (z : Case). z.bits) x_is ∙ same ∙ ap (λ (z : Case). z.bits) (sym y_is))

  end_differs : (t : Terminator) → EndDiffers t → EndDiffers (end_under new t)
  end_differs (Return argument) h = tt
  end_differs (Jump target) h = tt
  end_differs (Branch condition if_true if_false) h = tt
  end_differs (Switch width value default cases) h = cases_differ cases h
  end_differs Unreachable h = tt

  -- ---- all of them

  keeps_under : (rule : Rule) (item : Item) → ItemFormed f item → Keeps f rule item → Keeps (renamed new f) rule (item_under new item)
  keeps_under TypeMismatch item formed h = (operands_all (HasType f) (HasType (renamed new f)) item has_type h.0, kind_types item h.1)
  keeps_under NotAvailable item formed h = (reads_there item formed.operands h.0, entries_there item formed.operands h.1)
  keeps_under PhiEdges item formed h = has_edges item h
  keeps_under PhiPlace item formed h = stands_right item h
  keeps_under EntryBranch item formed h = leaves_entry item h
  keeps_under Index (phi_item b phi) formed h = tt
  keeps_under Index (line_item b k l) formed h = line_follows l.instr h
  keeps_under Index (end_item b t) formed h = tt
  keeps_under Cast (phi_item b phi) formed h = tt
  keeps_under Cast (line_item b k l) formed h = line_casts l.instr h
  keeps_under Cast (end_item b t) formed h = tt
  keeps_under CaseTwice (phi_item b phi) formed h = tt
  keeps_under CaseTwice (line_item b k l) formed h = tt
  keeps_under CaseTwice (end_item b t) formed h = end_differs t h

  pub sound_under : Sound f → Sound (renamed new f)
  sound_under h = record {
    formed = formed_under h.formed;
    rules = λ rule.
        all_along (Keeps (renamed new f) rule) (map (item_under new) (items f)) (items (renamed new f)) (sym (items_under new f))
        (All-map (Keeps (renamed new f) rule) (item_under new) (items f)
        (all_with (ItemFormed f) (Keeps f rule) (λ item. Keeps (renamed new f) rule (item_under new item)) (items f) (keeps_under rule) h.formed.items (h.rules rule)));
  }

pub text_order_sound : TextOrderIsSound
text_order_sound f h = sound_under (new_number (numbers_of f)) (is_one_to_one (numbers_of f)) f h

pub shifted_sound : ShiftedIsSound
shifted_sound by f h = sound_under (λ x. x + by) (λ x y e. omega (arith, e)) f h

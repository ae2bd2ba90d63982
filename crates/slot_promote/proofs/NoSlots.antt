-- A function without slots stays.
use Rattle.std.proofs.Common.{◌≡◌, ℕ, suc, Bool, false, List, [], ◌∷◌, ◌++◌, length, Option, Some, None, refl, sym, ◌∙◌, ap, arith, if◌then◌else◌}
use Rattle.ir_tree.specs.Flow.{edges}
use Rattle.ir_tree.specs.declared.block.Block.{Block}
use Rattle.ir_tree.specs.declared.function.Function.{Function}
use Rattle.ir_tree.specs.declared.instr.Instr.{Instr}
use Rattle.ir_tree.specs.declared.instr.Instr.TheVariants.{Address, Alloca, Binary, Call, Cast, Freeze, Icmp, Load, Phi as StrayPhi, Select, Store}
use Rattle.ir_tree.specs.declared.instr.Line.{Line}
use Rattle.ir_tree.specs.declared.operand.Operand.{Operand}
use Rattle.ir_tree.specs.declared.operand.Operand.TheVariants.{Local, Null, Number, Poison, Symbol}
use Rattle.ir_meaning.specs.Promote.{Current}
use Rattle.slot_promote.specs.Promoted.{End, blocks_with, end_at, first_at, new_phis, next_number, promoted_function, promoted_with}
use Rattle.promotable_slots.specs.Slots.{promoted_slots}
use Rattle.slot_promote.specs.Values.{at_start, behind_line, goes, instr_with, is_slot, load_with, local_goes, without_slots}
use Rattle.slot_promote.specs.declared.slots.SlotRank.{SlotRank}
use Rattle.promotable_slots.specs.declared.slots.Slot.{Slot}

abbrev none : ℕ → Option SlotRank
none x = None

no_local : (local : Option ℕ) → local_goes none local ≡ false
no_local None = refl
no_local (Some x) = refl

no_slot : (o : Operand) → is_slot none o ≡ false
no_slot (Local x) = refl
no_slot (Number w n) = refl
no_slot Null = refl
no_slot (Poison reg) = refl
no_slot (Symbol s offset) = refl

stays : (local : Option ℕ) (i : Instr) → goes none local i ≡ false
stays local (Binary op flags w l r) = refl
stays local (Icmp p reg l r) = refl
stays local (Cast op from o to) = refl
stays local (Select c t f) = refl
stays local (Freeze reg o) = refl
stays local (Alloca shape align) = no_local local
stays local (Load reg o align) = refl
stays local (Store reg o d align) = no_slot d
stays local (Address inbounds shape o is) = refl
stays local (Call result o args) = refl
stays local (StrayPhi reg es) = refl

same_load : (c : Current) (load : Instr) (o : Operand) → load_with none c load o ≡ load
same_load c load (Local x) = refl
same_load c load (Number w n) = refl
same_load c load Null = refl
same_load c load (Poison reg) = refl
same_load c load (Symbol s offset) = refl

same_instr : (c : Current) (i : Instr) → instr_with none c i ≡ i
same_instr c (Binary op flags w l r) = refl
same_instr c (Icmp p reg l r) = refl
same_instr c (Cast op from o to) = refl
same_instr c (Select t a b) = refl
same_instr c (Freeze reg o) = refl
same_instr c (Alloca shape align) = refl
same_instr c (Load reg o align) = same_load c (Load reg o align) o
same_instr c (Store reg o d align) = refl
same_instr c (Address inbounds shape o is) = refl
same_instr c (Call result o args) = refl
same_instr c (StrayPhi reg es) = refl

same_lines : (c : Current) (ls : List Line) → without_slots none c ls ≡ ls
same_lines c [] = refl
same_lines c (l ∷ ls) =
    ap (λ (b : Bool). if b then without_slots none (behind_line none l c) ls else record { local = l.local; instr = instr_with none c l.instr } ∷ without_slots none (behind_line none l c) ls) (stays l.local l.instr)
    ∙ (λ i. record { local = l.local; instr = same_instr c l.instr i } ∷ same_lines (behind_line none l c) ls i)

no_phis : (ends : ℕ → End) (from : List ℕ) (first : Option ℕ) → new_phis ends from first [] ≡ []
no_phis ends from None = refl
no_phis ends from (Some n) = refl

same_blocks : (ends : ℕ → End) (from : ℕ → List ℕ) (first : ℕ → Option ℕ) (p : ℕ) (bs : List Block) → blocks_with none [] ends from first p bs ≡ bs
same_blocks ends from first p [] = refl
same_blocks ends from first p (b ∷ bs) =
    λ i. record b { phis = no_phis ends (from p) (first p) i ++ b.phis; lines = same_lines (at_start none (first p)) b.lines i } ∷ same_blocks ends from first (suc p) bs i

pub none_of : (ss : List Slot) → length ss ≡ 0 → ss ≡ []
none_of [] h = refl
none_of (s ∷ ss) h = absurd (omega (arith, h))

pub no_slots : (f : Function) → promoted_slots f ≡ [] → f ≡ promoted_function f
no_slots f h =
    sym (ap (λ (ss : List Slot). promoted_with f ss (next_number f)) h ∙ ap (λ (bs : List Block). record f { blocks = bs }) (same_blocks (end_at f [] (next_number f)) (edges f) (first_at f [] (next_number f)) 0 f.blocks))

-- The rules at an item, from what the checks found.
use Rattle.std.proofs.Common.{◌≡◌, ℕ, zero, suc, ◌<◌, Bool, true, false, List, [], ◌∷◌, ◌++◌, length, sym, subst, arith, ◌↔◌, inl, inr}
use Rattle.std.specs.Prelude.{nat_eq, if◌then◌else◌, ◌||◌, All, map, slice_get}
use Rattle.std.proofs.lemmas.Bool.{cases_eq}
use Rattle.std.proofs.lemmas.List.Elements.{All-nil, All-cons, All-head, All-tail, All-map}
use Rattle.ir_tree.specs.declared.block.Block.{Block}
use Rattle.ir_tree.specs.declared.function.Function.{Function}
use Rattle.ir_tree.specs.declared.instr.Incoming.{Incoming}
use Rattle.ir_tree.specs.declared.instr.Instr.{Instr}
use Rattle.ir_tree.specs.declared.instr.Instr.TheVariants as kind
use Rattle.ir_tree.specs.declared.operand.Operand.{Operand}
use Rattle.ir_tree.specs.declared.operand.Operand.TheVariants as operand
use Rattle.ir_tree.specs.declared.operand.Reg.{Reg}
use Rattle.ir_tree.specs.Flow.{holds, AvailableAt, line_count}
use Rattle.ir_tree.specs.Formed.{OperandFormed, ArgumentFormed}
use Rattle.ir_tree.specs.Items.{typed, taken, taken_as, phi_reads}
use Rattle.ir_tree.specs.Rules.{place, IsThere, IsThereAtEnd, OnEdges, LineOnEdges, IsNoPhi}
use Rattle.ir_verify.proofs.Alls.{all_unmap}

-- ---- lists

pub all_left : {X : Type 0} (P : X → Type 0) (xs ys : List X) → All P (xs ++ ys) → All P xs
all_left P [] ys h = All-nil P
all_left P (x ∷ xs) ys h = All-cons P x xs (All-head P x (xs ++ ys) h) (all_left P xs ys (All-tail P x (xs ++ ys) h))

pub all_right : {X : Type 0} (P : X → Type 0) (xs ys : List X) → All P (xs ++ ys) → All P ys
all_right P [] ys h = h
all_right P (x ∷ xs) ys h = all_right P xs ys (All-tail P x (xs ++ ys) h)

-- ---- entries

-- a block that is there has a place
pub placed : (bs : List Block) (n : ℕ) → holds (map (λ b. b.number) bs) n ≡ true → place bs n < length bs
placed [] n h = absurd (cc h)
placed (b ∷ bs) n h = elim (cases_eq b.number n) [
  | inl q ↦ (let t : nat_eq b.number n ≡ true = grind arith in subst (λ (v : Bool). (if v then zero else suc (place bs n)) < suc (length bs)) (sym t) (omega arith))
  | inr q ↦ (let t : nat_eq b.number n ≡ false = grind arith in
      let s : nat_eq n b.number ≡ false = grind arith in
      let more : holds (map (λ b. b.number) bs) n ≡ true = subst (λ (v : Bool). (v || holds (map (λ b. b.number) bs) n) ≡ true) s h in
      let again = placed bs n more in
      subst (λ (v : Bool). (if v then zero else suc (place bs n)) < suc (length bs)) (sym t) (omega (arith, again)))
]

-- the values of entries are formed, as they are among the operands
pub values_formed : (f : Function) (reg : Reg) (es : List Incoming) → All (ArgumentFormed f) (taken_as reg es) → All (λ e. OperandFormed f e.value) es
values_formed f reg es r k d l = (all_unmap (ArgumentFormed f) (λ e. typed reg e.value) es r k d l).1

pub taken_formed : (f : Function) (i : Instr) → All (ArgumentFormed f) (phi_reads i) → All (λ e. OperandFormed f e.value) (taken i)
taken_formed f (kind.Phi reg incoming) r = values_formed f reg incoming r
taken_formed f _ r = All-nil (λ (e : Incoming). OperandFormed f e.value)

-- at the end of a block, behind its last line
pub end_is : (f : Function) (b n : ℕ) (o : Operand) → n ≡ line_count (slice_get f.blocks b) → IsThere f b n o ↔ IsThereAtEnd f b o
end_is f b n (operand.Local x) e = (λ h. subst (λ (k : ℕ). AvailableAt f b k x) e h, λ h. subst (λ (k : ℕ). AvailableAt f b k x) (sym e) h)
end_is f b n (operand.Number w bits) e = (λ t. tt, λ t. tt)
end_is f b n operand.Null e = (λ t. tt, λ t. tt)
end_is f b n (operand.Poison reg) e = (λ t. tt, λ t. tt)
end_is f b n (operand.Symbol symbol offset) e = (λ t. tt, λ t. tt)

-- ---- phis among the lines

pub no_phi_edges : (f : Function) (b : ℕ) (i : Instr) → IsNoPhi i → LineOnEdges f b i
no_phi_edges f b (kind.Phi reg incoming) h = absurd h
no_phi_edges f b _ h = tt

pub phi_edges : (f : Function) (b : ℕ) (i : Instr) → (IsNoPhi i → ⊥) → LineOnEdges f b i ↔ OnEdges f b (taken i)
phi_edges f b (kind.Phi reg incoming) h = (λ e. e, λ e. e)
phi_edges f b _ h = absurd (h tt)

-- ---- targets of a switch

pub switch_targets : {X : Type 0} (P : ℕ → Type 0) (f : X → ℕ) (n : ℕ) (xs : List X) → P n → All (λ x. P (f x)) xs ↔ All P (n ∷ map f xs)
switch_targets P f n xs p = (λ h. All-cons P n (map f xs) p (All-map P f xs h), λ h. all_unmap P f xs (All-tail P n (map f xs) h))

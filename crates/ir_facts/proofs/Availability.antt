-- Where a function is covered, each operand is available where it is read.
use Rattle.std.proofs.Common.{◌≡◌, ℕ, suc, ◌+◌, nat_eq, ◌||◌, inl, inr, Bool, true, false, List, [], ◌∷◌, ◌++◌, Option, Some, None, map, take, get_or, refl, sym, ◌∙◌, ap, subst, arith}
use Rattle.std.specs.Prelude.{All, slice_get}
use Rattle.std.proofs.lemmas.Bool.{or_cases}
use Rattle.std.proofs.lemmas.List.Elements.{All-append, All-cons}
use Rattle.std.proofs.lemmas.List.Folds.{list_any-append}
use Rattle.ir_tree.specs.Flow.{AvailableAt, defined_before, holds, line_count, phi_locals, results}
use Rattle.ir_tree.specs.Items.{Item, phi_item, line_item, end_item, block_items, end_reads, items, items_from, lines_from, reads, taken, typed}
use Rattle.ir_tree.specs.Rules.{EntriesThere, IsNoPhi, IsThere, IsThereAtEnd, ReadsThere, place}
use Rattle.ir_tree.specs.declared.block.Block.{Block}
use Rattle.ir_tree.specs.declared.block.Terminator.{Terminator}
use Rattle.ir_tree.specs.declared.block.Terminator.TheVariants.{Branch, Jump, Return, Switch, Unreachable}
use Rattle.ir_tree.specs.declared.function.Function.{Function}
use Rattle.ir_tree.specs.declared.instr.Incoming.{Incoming}
use Rattle.ir_tree.specs.declared.instr.Instr.{Instr}
use Rattle.ir_tree.specs.declared.instr.Instr.TheVariants.{Address, Alloca, Binary, Call, Cast, Freeze, Icmp, Load, Phi as StrayPhi, Select, Store}
use Rattle.ir_tree.specs.declared.instr.Line.{Line}
use Rattle.ir_tree.specs.declared.instr.Phi.{Phi}
use Rattle.ir_tree.specs.declared.operand.Argument.{Argument}
use Rattle.ir_tree.specs.declared.operand.Operand.{Operand}
use Rattle.ir_tree.specs.declared.operand.Operand.TheVariants.{Local, Null, Number as Constant, Poison as PoisonOf, Symbol as Named}
use Rattle.ir_tree.specs.declared.operand.Reg.TheVariants.{Int, Ptr}
use Rattle.ir_meaning.specs.Needed.{AllKept, EndReads, IsKept, UsesKept}
use Rattle.ir_facts.proofs.Blocks.{find_at}
use Rattle.ir_facts.proofs.Covering.{at_end_is}
use Rattle.ir_facts.proofs.Covers.{Covers, EdgesCovered, LinesCovered, PhisCovered, TakenAt, behind, behind_is, closing, opening, with_named}

pub none_all : {X : Type 0} (P : X → Type 0) → All P []
none_all P = λ k d lt. absurd (omega (arith, lt))

pub all_then : {X : Type 0} (P Q : X → Type 0) (xs : List X) → ((x : X) → P x → Q x) → All P xs → All Q xs
all_then P Q xs f h = λ k d lt. f (get_or xs k d) (h k d lt)

-- ---- what is read

module _ (s : ℕ → Bool) where
  abbrev Kept : Argument → Type 0
  Kept a = IsKept s a.operand

  kept_each : (as' : List Argument) → AllKept s as' → All Kept as'
  kept_each [] h = none_all Kept
  kept_each (a ∷ more) h = All-cons Kept a more h.0 (kept_each more h.1)

  pub kept_reads : (i : Instr) → UsesKept s i → All Kept (reads i)
  kept_reads (Binary op flags w l r) h = kept_each (typed (Int w) l ∷ typed (Int w) r ∷ []) (h.0, (h.1, tt))
  kept_reads (Icmp p reg l r) h = kept_each (typed reg l ∷ typed reg r ∷ []) (h.0, (h.1, tt))
  kept_reads (Cast op from o to) h = kept_each (typed from o ∷ []) (h, tt)
  kept_reads (Select c a b) h = kept_each (typed (Int 1) c ∷ a ∷ b ∷ []) (h.0, (h.1, (h.2, tt)))
  kept_reads (Freeze reg o) h = kept_each (typed reg o ∷ []) (h, tt)
  kept_reads (Alloca shape align) h = none_all Kept
  kept_reads (Load reg o align) h = kept_each (typed Ptr o ∷ []) (h, tt)
  kept_reads (Store reg o d align) h = kept_each (typed reg o ∷ typed Ptr d ∷ []) (h.0, (h.1, tt))
  kept_reads (Address inbounds shape o is) h = kept_each (typed Ptr o ∷ is) h
  kept_reads (Call result o args) h = kept_each (typed Ptr o ∷ args) h
  kept_reads (StrayPhi reg es) h = none_all Kept

  pub kept_end : (t : Terminator) → EndReads s t → All Kept (end_reads t)
  kept_end (Return None) h = none_all Kept
  kept_end (Return (Some a)) h = kept_each (a ∷ []) (h, tt)
  kept_end (Jump target) h = none_all Kept
  kept_end (Branch c yes' no') h = kept_each (typed (Int 1) c ∷ []) (h, tt)
  kept_end (Switch w o default cases) h = kept_each (typed (Int w) o ∷ []) (h, tt)
  kept_end Unreachable h = none_all Kept

module _ (r : ℕ → ℕ → Bool) (f : Function) (cov : Covers r f) where
  abbrev pub There : Item → Type 0
  There item = ReadsThere f item × EntriesThere f item

  abbrev TakenThere : Incoming → Type 0
  TakenThere e = IsThereAtEnd f (place f.blocks e.from) e.value

  -- ---- one use

  local_there : (p k x : ℕ) → (r p x || defined_before (slice_get f.blocks p) k x) ≡ true → AvailableAt f p k x
  local_there p k x h =
      elim (or_cases (r p x) (defined_before (slice_get f.blocks p) k x) h) [
        | inl a ↦ inl (r, cov.justified, a)
        | inr d ↦ inr d
      ]

  use_there : (p k : ℕ) (s : ℕ → Bool) → ((x : ℕ) → s x ≡ true → (r p x || defined_before (slice_get f.blocks p) k x) ≡ true) → (o : Operand) → IsKept s o → IsThere f p k o
  use_there p k s at' (Local x) h = local_there p k x (at' x h)
  use_there p k s at' (Constant w n) h = tt
  use_there p k s at' Null h = tt
  use_there p k s at' (PoisonOf reg) h = tt
  use_there p k s at' (Named t i) h = tt

  end_there : (p : ℕ) (b : Block) → slice_get f.blocks p ≡ Some b → (o : Operand) → IsKept (closing r p b) o → IsThereAtEnd f p o
  end_there p b e (Local x) h = local_there p (line_count (slice_get f.blocks p)) x (at_end_is f r p b e x ∙ h)
  end_there p b e (Constant w n) h = tt
  end_there p b e Null h = tt
  end_there p b e (PoisonOf reg) h = tt
  end_there p b e (Named t i) h = tt

  -- ---- lines

  nothing_taken : (i : Instr) → IsNoPhi i → All TakenThere (taken i)
  nothing_taken (Binary op flags w l r') h = none_all TakenThere
  nothing_taken (Icmp p reg l r') h = none_all TakenThere
  nothing_taken (Cast op from o to) h = none_all TakenThere
  nothing_taken (Select c a b) h = none_all TakenThere
  nothing_taken (Freeze reg o) h = none_all TakenThere
  nothing_taken (Alloca shape align) h = none_all TakenThere
  nothing_taken (Load reg o align) h = none_all TakenThere
  nothing_taken (Store reg o d align) h = none_all TakenThere
  nothing_taken (Address inbounds shape o is) h = none_all TakenThere
  nothing_taken (Call result o args) h = none_all TakenThere
  nothing_taken (StrayPhi reg es) h = absurd h

  lines_there : (p : ℕ) (ls : List Line) (k : ℕ) (s : ℕ → Bool) → ((j x : ℕ) → behind s (take j ls) x ≡ true → (r p x || defined_before (slice_get f.blocks p) (k + j) x) ≡ true)
      → LinesCovered s ls → All There (lines_from p k ls)
  lines_there p [] k s at' h = none_all There
  lines_there p (l ∷ ls) k s at' h =
      let here : k ≡ k + 0 = omega arith in
      All-cons There (line_item p k l) (lines_from p (suc k) ls) (
        all_then (λ a. IsKept s a.operand) (λ a. IsThere f p k a.operand) (reads l.instr)
            (λ a. use_there p k s (λ x g. ap (λ (i : ℕ). r p x || defined_before (slice_get f.blocks p) i x) here ∙ at' 0 x g) a.operand) (kept_reads s l.instr h.1),
        nothing_taken l.instr h.0,
      )
      (lines_there p ls (suc k) (with_named s l.local)
      (λ j x g. let next : suc k + j ≡ k + suc j = omega arith in ap (λ (i : ℕ). r p x || defined_before (slice_get f.blocks p) i x) next ∙ at' (suc j) x g) h.2)

  -- ---- phis

  entry_there : (e : Incoming) → TakenAt r f e.from e.value → TakenThere e
  entry_there e t =
      let at' : place f.blocks e.from ≡ t.place = ap (place f.blocks) (sym t.number) ∙ (find_at f cov.once t.place t.block t.found).1 in
      subst (λ (p : ℕ). IsThereAtEnd f p e.value) (sym at') (end_there t.place t.block t.found e.value t.kept)

  edges_there : (es : List Incoming) → EdgesCovered r f es → All TakenThere es
  edges_there [] h = none_all TakenThere
  edges_there (e ∷ es) h = All-cons TakenThere e es (entry_there e h.0) (edges_there es h.1)

  phis_there : (p : ℕ) (ps : List Phi) → PhisCovered r f ps → All There (map (phi_item p) ps)
  phis_there p [] h = none_all There
  phis_there p (q ∷ ps) h = All-cons There (phi_item p q) (map (phi_item p) ps) (tt, edges_there q.incoming h.0) (phis_there p ps h.1)

  -- ---- blocks

  block_there : (p : ℕ) (b : Block) → slice_get f.blocks p ≡ Some b → All There (block_items p b)
  block_there p b e =
      let c = cov.blocks p b e in
      All-append There (map (phi_item p) b.phis) (lines_from p 0 b.lines ++ end_item p b.end ∷ []) (phis_there p b.phis c.phis)
      (All-append There (lines_from p 0 b.lines) (end_item p b.end ∷ []) (lines_there p b.lines 0 (opening r p b) open_at c.lines)
      (All-cons There (end_item p b.end) [] (
        all_then (λ a. IsKept (closing r p b) a.operand) (λ a. IsThereAtEnd f p a.operand) (end_reads b.end) (λ a. end_there p b e a.operand) (kept_end (closing r p b) b.end c.end),
        none_all TakenThere,
      ) (none_all There)))
    where
      moved : (s t u : Bool) → (s || (t || u)) ≡ ((s || t) || u)
      moved true t u = refl
      moved false t u = refl

      open_at : (j x : ℕ) → behind (opening r p b) (take j b.lines) x ≡ true → (r p x || defined_before (slice_get f.blocks p) (0 + j) x) ≡ true
      open_at j x g =
          let here : 0 + j ≡ j = omega arith in
          ap (λ (i : ℕ). r p x || defined_before (slice_get f.blocks p) i x) here
          ∙ ap (λ (o : Option Block). r p x || defined_before o j x) e
          ∙ ap (λ (v : Bool). r p x || v) (list_any-append (nat_eq x) (phi_locals b) (results (take j b.lines)))
          ∙ moved (r p x) (holds (phi_locals b) x) (holds (results (take j b.lines)) x)
          ∙ sym (behind_is (opening r p b) (take j b.lines) x)
          ∙ g

  blocks_there : (k : ℕ) (bs : List Block) → ((i : ℕ) (b : Block) → slice_get bs i ≡ Some b → All There (block_items (k + i) b)) → All There (items_from k bs)
  blocks_there k [] each = none_all There
  blocks_there k (b ∷ bs) each =
      let here : k + 0 ≡ k = omega arith in
      All-append There (block_items k b) (items_from (suc k) bs) (subst (λ (j : ℕ). All There (block_items j b)) here (each 0 b refl))
      (blocks_there (suc k) bs (λ i d e. let next : k + suc i ≡ suc k + i = omega arith in subst (λ (j : ℕ). All There (block_items j d)) next (each (suc i) d e)))

  pub all_there : All There (items f)
  all_there = blocks_there 0 f.blocks (λ i b e. let here : i ≡ 0 + i = omega arith in subst (λ (j : ℕ). All There (block_items j b)) here (block_there i b e))

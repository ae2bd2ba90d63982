-- A sound function with its decided terminators as jumps is better in every program.
use Rattle.std.proofs.Common.{◌≡◌, ℕ, zero, suc, ◌+◌, ◌≤◌, ◌<◌, nat_eq, Bool, true, false, List, [], ◌∷◌, ◌++◌, Option, Some, None, map, option_map, ◌⊎◌, inl, inr, refl, sym, ◌∙◌, ap, subst, arith, if◌then◌else◌, append-nil}
use Rattle.std.specs.Prelude.{All, nat_le, nat_lt, ◌^◌, slice_get}
use Rattle.std.proofs.lemmas.Bool.{eqb-true, eq-eqb, leb-false}
use Rattle.std.proofs.lemmas.List.Elements.{All-head, All-tail}
use Rattle.ir_tree.specs.Flow.{successors}
use Rattle.ir_tree.specs.Formed.{Distinct}
use Rattle.ir_tree.specs.Items.{phi_item}
use Rattle.ir_tree.specs.Rules.{Keeps, OnEdges, Sound}
use Rattle.ir_tree.specs.declared.block.Block.{Block}
use Rattle.ir_tree.specs.declared.block.Case.{Case}
use Rattle.ir_tree.specs.declared.block.Terminator.{Terminator}
use Rattle.ir_tree.specs.declared.block.Terminator.TheVariants.{Branch, Jump, Return, Switch, Unreachable}
use Rattle.ir_tree.specs.declared.function.Function.{Function}
use Rattle.ir_tree.specs.declared.instr.Incoming.{Incoming}
use Rattle.ir_tree.specs.declared.instr.Line.{Line}
use Rattle.ir_tree.specs.declared.instr.Phi.{Phi}
use Rattle.ir_tree.specs.declared.operand.Operand.{Operand}
use Rattle.ir_tree.specs.declared.operand.Operand.TheVariants.{Local, Null, Number as Constant, Poison as PoisonOf, Symbol as Named}
use Rattle.ir_tree.specs.declared.rule.Rule.TheVariants.{PhiEdges}
use Rattle.ir_meaning.specs.Act.{Leads', by_bits, by_value, case_target, exit_of, find_block, incoming_value, phis_bound, side}
use Rattle.ir_meaning.specs.Frame.{Locals, Signature, value_of}
use Rattle.ir_meaning.specs.Near.{BetterThan}
use Rattle.ir_meaning.specs.Operate.{bits_of}
use Rattle.ir_meaning.specs.Program.{Program}
use Rattle.ir_meaning.specs.declared.value.Value.{Value}
use Rattle.ir_meaning.specs.declared.value.Value.TheVariants.{Number}
use Rattle.ir_meaning.specs.Formed.{IsFormed}
use Rattle.ir_meaning.specs.Reshape.{IsShape, IsStuck, Layout, LeavesAlike, Spot, laid, spot_of}
use Rattle.ir_meaning.proofs.Alike.Itself.{same_better}
use Rattle.ir_meaning.proofs.Blocks.Reshaped.{reshaped_is_better}
use Rattle.ir_meaning.specs.Counted.{sources, times}
use Rattle.ir_meaning.proofs.Counting.{numbers_in}
use Rattle.ir_meaning.proofs.Entries.{apart, entries_of, phis_on_edges}
use Rattle.ir_meaning.proofs.Exits.{end_in, end_of, exit_among, found_at, number_found}
use Rattle.branch_simplify.specs.Decided.{branch_target, constant, jump_or, lost, straight, switch_target}
use Rattle.branch_simplify.specs.Laws.{SimplifiedIsBetter}
use Rattle.branch_simplify.specs.Simplified.{entries_left, lost_into, phi_left, simplified}
use Rattle.branch_simplify.proofs.Counting.{edges_stay, lost_from}
use Rattle.branch_simplify.proofs.Kept.{step}

-- ---- where terminators lead

-- what a terminator does when it is straight, unless it is undefined
abbrev DoesAlike : (Operand → Value) → Terminator → Type 0
DoesAlike value t = IsStuck (exit_of value t) ⊎ (exit_of value (straight t) ≡ exit_of value t)

one_side : (v : Value) (t f : ℕ) → t ≡ f → IsStuck (by_value 1 (side t f) v) ⊎ (Leads' t ≡ by_value 1 (side t f) v)
one_side v t f e = by (bits_of 1 v)
  where
    by : (o : Option ℕ) → IsStuck (by_bits (side t f) o) ⊎ (Leads' t ≡ by_bits (side t f) o)
    by (Some zero) = inr (ap Leads' e)
    by (Some (suc n)) = inr refl
    by None = inl tt

no_case : (w : ℕ) (v : Value) (d : ℕ) → IsStuck (by_value w (case_target [] d) v) ⊎ (Leads' d ≡ by_value w (case_target [] d) v)
no_case w v d = by (bits_of w v)
  where
    by : (o : Option ℕ) → IsStuck (by_bits (case_target [] d) o) ⊎ (Leads' d ≡ by_bits (case_target [] d) o)
    by (Some n) = inr refl
    by None = inl tt

-- a constant that is a number of the width, and else it is undefined
of_constant : (w : ℕ) (target : ℕ → ℕ) (n : ℕ) → IsStuck (by_value w target (Number n)) ⊎ (Leads' (target n) ≡ by_value w target (Number n))
of_constant w target n = by (nat_lt n (2 ^ w))
  where
    by : (b : Bool) → IsStuck (by_bits target (if b then Some n else None)) ⊎ (Leads' (target n) ≡ by_bits target (if b then Some n else None))
    by true = inr refl
    by false = inl tt

same_targets : (value : Operand → Value) (c : Operand) (t f : ℕ) → constant c ≡ None → DoesAlike value (Branch c t f)
same_targets value c t f open' = subst (λ (o : Option ℕ). IsStuck (exit_of value (Branch c t f)) ⊎ (exit_of value (jump_or (branch_target o t f) (Branch c t f)) ≡ exit_of value (Branch c t f))) (sym open') (by (nat_eq t f) refl)
  where
    by : (b : Bool) → nat_eq t f ≡ b → IsStuck (exit_of value (Branch c t f)) ⊎ (exit_of value (jump_or (if b then Some t else None) (Branch c t f)) ≡ exit_of value (Branch c t f))
    by true e = one_side (value c) t f (eqb-true t f e)
    by false e = inr refl

without_cases : (value : Operand → Value) (w : ℕ) (v : Operand) (d : ℕ) (cs : List Case) → constant v ≡ None → DoesAlike value (Switch w v d cs)
without_cases value w v d [] open' =
    subst (λ (o : Option ℕ). IsStuck (exit_of value (Switch w v d [])) ⊎ (exit_of value (jump_or (switch_target o d []) (Switch w v d [])) ≡ exit_of value (Switch w v d []))) (sym open') (no_case w (value v) d)
without_cases value w v d (c ∷ cs) open' =
    subst (λ (o : Option ℕ). IsStuck (exit_of value (Switch w v d (c ∷ cs))) ⊎ (exit_of value (jump_or (switch_target o d (c ∷ cs)) (Switch w v d (c ∷ cs))) ≡ exit_of value (Switch w v d (c ∷ cs)))) (sym open') (inr refl)

does_alike : (sig : Signature) (locals : Locals) (t : Terminator) → DoesAlike (value_of sig locals) t
does_alike sig locals (Return argument) = inr refl
does_alike sig locals (Jump t) = inr refl
does_alike sig locals (Branch (Constant w bits) t f) = of_constant 1 (side t f) bits
does_alike sig locals (Branch (Local x) t f) = same_targets (value_of sig locals) (Local x) t f refl
does_alike sig locals (Branch Null t f) = same_targets (value_of sig locals) Null t f refl
does_alike sig locals (Branch (PoisonOf reg) t f) = same_targets (value_of sig locals) (PoisonOf reg) t f refl
does_alike sig locals (Branch (Named s o) t f) = same_targets (value_of sig locals) (Named s o) t f refl
does_alike sig locals (Switch w (Constant k bits) d cs) = of_constant w (case_target cs d) bits
does_alike sig locals (Switch w (Local x) d cs) = without_cases (value_of sig locals) w (Local x) d cs refl
does_alike sig locals (Switch w Null d cs) = without_cases (value_of sig locals) w Null d cs refl
does_alike sig locals (Switch w (PoisonOf reg) d cs) = without_cases (value_of sig locals) w (PoisonOf reg) d cs refl
does_alike sig locals (Switch w (Named s o) d cs) = without_cases (value_of sig locals) w (Named s o) d cs refl
does_alike sig locals Unreachable = inr refl

-- ---- phi entries

-- a block that has more entries than edges are lost keeps its first
first_stays : (sig : Signature) (locals : Locals) (lost : ℕ → ℕ) (n : ℕ) (es : List Incoming) → lost n < times n (sources es)
    → incoming_value sig locals n (entries_left lost es) ≡ incoming_value sig locals n es
first_stays sig locals lost n [] lt = absurd (omega (arith, lt))
first_stays sig locals lost n (e ∷ es) lt = by (nat_eq e.from n) (nat_le (lost e.from) (times e.from (sources es))) refl refl lt (first_stays sig locals lost n es)
  where
    by : (t u : Bool) → nat_eq e.from n ≡ t → nat_le (lost e.from) (times e.from (sources es)) ≡ u → lost n < (if t then suc (times n (sources es)) else times n (sources es))
        → (lost n < times n (sources es) → incoming_value sig locals n (entries_left lost es) ≡ incoming_value sig locals n es)
        → incoming_value sig locals n (if u then e ∷ entries_left lost es else entries_left lost es) ≡ (if t then value_of sig locals e.value else incoming_value sig locals n es)
    by true true x y h go = ap (λ (b : Bool). if b then value_of sig locals e.value else incoming_value sig locals n (entries_left lost es)) x
    by true false x y h go =
        let lt : times n (sources es) < lost n = subst (λ (i : ℕ). times i (sources es) < lost i) (eqb-true e.from n x) (leb-false (lost e.from) (times e.from (sources es)) y) in
        absurd (omega (arith, h, lt))
    by false true x y h go = ap (λ (b : Bool). if b then value_of sig locals e.value else incoming_value sig locals n (entries_left lost es)) x ∙ go h
    by false false x y h go = go h

-- ---- blocks

module _ (f : Function) (sound : Sound f) where
  found_step : (bs : List Block) (n : ℕ) → find_block (map (step f) bs) n ≡ option_map (step f) (find_block bs n)
  found_step [] n = refl
  found_step (b ∷ bs) n = by (nat_eq b.number n) (found_step bs n)
    where
      by : (t : Bool) → find_block (map (step f) bs) n ≡ option_map (step f) (find_block bs n)
          → (if t then Some (step f b) else find_block (map (step f) bs) n) ≡ option_map (step f) (if t then Some b else find_block bs n)
      by true h = refl
      by false h = h

  abbrev layout : Layout
  layout = record { home = λ n. n; tail = λ n. []; final = λ n. straight (end_in f.blocks n); own = λ n. end_in f.blocks n; fuel = λ n. 0 }

  starts : (b : Block) → end_in f.blocks b.number ≡ b.end → laid layout 0 (spot_of (step f b)) (spot_of b)
  starts b e = (refl, sym (append-nil b.lines), ap straight (sym e), sym e, refl)

  -- the phis of a block take the same on an edge that stays
  phis_alike : (sig : Signature) (locals : Locals) (i j : ℕ) (from y : Block) → slice_get f.blocks i ≡ Some from → slice_get f.blocks j ≡ Some y
      → 1 ≤ times y.number (successors (straight from.end)) → (ps : List Phi) → All (Keeps f PhiEdges) (map (phi_item j) ps)
      → phis_bound sig locals from.number (map (phi_left (λ n. times n (lost_into y.number f.blocks))) ps) locals ≡ phis_bound sig locals from.number ps locals
  phis_alike sig locals i j from y at_i at_j stays [] h = refl
  phis_alike sig locals i j from y at_i at_j stays (p ∷ ps) h =
      let edges : OnEdges f j p.incoming = All-head (Keeps f PhiEdges) (phi_item j p) (map (phi_item j) ps) h in
      let d : Distinct (numbers_in f.blocks) = apart f sound.formed in
      let many : times from.number (sources p.incoming) ≡ times y.number (successors from.end) = entries_of f d j y at_j i from at_i p.incoming edges in
      let gone : times from.number (lost_into y.number f.blocks) ≡ times y.number (lost from.end) = lost_from y.number f.blocks d i from at_i in
      let all : times y.number (successors (straight from.end)) + times y.number (lost from.end) ≡ times y.number (successors from.end) = edges_stay y.number from.end in
      let lt : times from.number (lost_into y.number f.blocks) < times from.number (sources p.incoming) = omega (arith, many, gone, all, stays) in
      (λ k.
      (p.local, first_stays sig locals (λ n. times n (lost_into y.number f.blocks)) from.number p.incoming lt k)
      ∷ phis_alike sig locals i j from y at_i at_j stays ps (All-tail (Keeps f PhiEdges) (phi_item j p) (map (phi_item j) ps) h) k)

  abbrev Enters : Signature → Locals → Spot → Spot → ℕ → Block → Type 0
  Enters sig locals a b n y = (x : Block) × (find_block (simplified f).blocks n ≡ Some x)
      × (phis_bound sig locals a.block x.phis locals ≡ phis_bound sig locals b.block y.phis locals) × laid layout 0 (spot_of x) (spot_of y)

  enters : (sig : Signature) (locals : Locals) (a b : Spot) → a.block ≡ b.block → a.end ≡ straight b.end → b.end ≡ end_in f.blocks b.block
      → exit_of (value_of sig locals) a.end ≡ exit_of (value_of sig locals) b.end
      → (n : ℕ) (y : Block) → exit_of (value_of sig locals) b.end ≡ Leads' n → find_block f.blocks n ≡ Some y → Enters sig locals a b n y
  enters sig locals a b same first_end second_end alike n y leads at_n = by (find_block f.blocks b.block) refl
    where
      number : y.number ≡ n
      number = number_found f.blocks n y at_n

      by : (o : Option Block) → find_block f.blocks b.block ≡ o → Enters sig locals a b n y
      by None e =
          let stuck : exit_of (value_of sig locals) Unreachable ≡ Leads' n = sym (ap (exit_of (value_of sig locals)) (second_end ∙ ap end_of e)) ∙ leads in
          absurd (cc stuck)
      by (Some from) e =
          let from_number : from.number ≡ b.block = number_found f.blocks b.block from e in
          let ends : b.end ≡ from.end = second_end ∙ ap end_of e in
          let place : (i : ℕ) × (slice_get f.blocks i ≡ Some from) = found_at f.blocks b.block from e in
          let other : (j : ℕ) × (slice_get f.blocks j ≡ Some y) = found_at f.blocks n y at_n in
          let some : 1 ≤ times n (successors a.end) = exit_among (value_of sig locals) a.end n (alike ∙ leads) in
          let stays : 1 ≤ times y.number (successors (straight from.end)) =
          subst (λ (m : ℕ). 1 ≤ times m (successors (straight from.end))) (sym number) (subst (λ (t : Terminator). 1 ≤ times n (successors t)) (first_end ∙ ap straight ends) some) in (
            step f y,
            found_step f.blocks n ∙ ap (option_map (step f)) at_n,
            ap (λ (m : ℕ). phis_bound sig locals m (step f y).phis locals) (same ∙ sym from_number)
                ∙ phis_alike sig locals place.0 other.0 from y place.1 other.1 stays y.phis (phis_on_edges f sound other.0 y other.1)
                ∙ ap (λ (m : ℕ). phis_bound sig locals m y.phis locals) from_number,
            starts y (ap (end_in f.blocks) number ∙ ap end_of at_n),
          )

  ends : (k : ℕ) (a b : Spot) → laid layout k a b → b.rest ≡ [] → (sig : Signature) (locals : Locals)
      → IsStuck (exit_of (value_of sig locals) b.end) ⊎ LeavesAlike (laid layout) 0 (simplified f) f a b sig locals
  ends k a b w e sig locals = by (does_alike sig locals b.end)
    where
      first_end : a.end ≡ straight b.end
      first_end = w.2 ∙ ap straight (sym w.3)

      by : DoesAlike (value_of sig locals) b.end → IsStuck (exit_of (value_of sig locals) b.end) ⊎ LeavesAlike (laid layout) 0 (simplified f) f a b sig locals
      by (inl stuck) = inl stuck
      by (inr same) =
          let alike : exit_of (value_of sig locals) a.end ≡ exit_of (value_of sig locals) b.end = ap (exit_of (value_of sig locals)) first_end ∙ same in
          inr (record { exit = alike; next = λ n y leads at_n. enters sig locals a b w.0 first_end w.3 alike n y leads at_n })

  shape : (x : Block) (xs : List Block) → f.blocks ≡ x ∷ xs → IsShape (laid layout) 0 (simplified f) f
  shape x xs is = record {
    line = λ k a b l rest w e. (rest ++ [], w.1 ∙ ap (λ (r : List Line). r ++ []) e, (w.0, refl, w.2, w.3, w.4));
    last = λ k a b w e. inr (w.1 ∙ ap (λ (r : List Line). r ++ []) e, λ sig locals. ends k a b w e sig locals);
    params = refl;
    entry = (
      step f x,
      x,
      map (step f) xs,
      xs,
      ap (map (step f)) is,
      is,
      starts x (ap (λ (bs : List Block). end_in bs x.number) is ∙ ap (λ (t : Bool). end_of (if t then Some x else find_block xs x.number)) (eq-eqb x.number x.number refl)),
    );
  }

  better : (p : Program) → IsFormed p → BetterThan p 1 (simplified f) f
  better p formed = by f.blocks refl
    where
      by : (bs : List Block) → f.blocks ≡ bs → BetterThan p 1 (simplified f) f
      by [] e =
          let same : simplified f ≡ f = ap (λ (l : List Block). record f { blocks = l }) (ap (map (step f)) e ∙ sym e) in
          subst (λ (g : Function). BetterThan p 1 g f) (sym same) (same_better p formed f)
      by (x ∷ xs) e = reshaped_is_better p formed layout 0 (simplified f) f (shape x xs e)

pub is_better : SimplifiedIsBetter
is_better f sound p formed = better f sound p formed

-- What inlining gives uses no other symbols than the function and the callee do.
use Rattle.std.proofs.Common.{◌≡◌, ℕ, suc, ◌+◌, ◌⊎◌, inl, inr, List, [], ◌∷◌, ◌++◌, Option, Some, None, map, length, refl, sym, ◌∙◌, ap, subst, arith}
use Rattle.std.specs.Prelude.{All, slice_get}
use Rattle.std.proofs.lemmas.List.{map-append}
use Rattle.std.proofs.lemmas.List.Elements.{All-cons, All-head, All-map, All-nil, All-tail, All-weaker}
use Rattle.std.proofs.lemmas.Option.{get_or_from_slice_get, slice_get_within}
use Rattle.ir_tree.specs.Items.{phi_item, line_item, end_item, block_items, end_reads, items, lines_from, operands, phi_reads, reads, taken_as, typed}
use Rattle.ir_tree.specs.Wholes.{IsKnown, ItemKnown}
use Rattle.ir_tree.specs.declared.block.Block.{Block}
use Rattle.ir_tree.specs.declared.block.Terminator.{Terminator}
use Rattle.ir_tree.specs.declared.block.Terminator.TheVariants.{Branch, Jump, Return, Switch, Unreachable}
use Rattle.ir_tree.specs.declared.instr.Incoming.{Incoming}
use Rattle.ir_tree.specs.declared.instr.Instr.{Instr}
use Rattle.ir_tree.specs.declared.instr.Instr.TheVariants as kind
use Rattle.ir_tree.specs.declared.instr.Line.{Line}
use Rattle.ir_tree.specs.declared.instr.Phi.{Phi}
use Rattle.ir_tree.specs.declared.operand.Argument.{Argument}
use Rattle.ir_tree.specs.declared.operand.Operand.{Operand}
use Rattle.ir_tree.specs.declared.operand.Operand.TheVariants as operand
use Rattle.ir_tree.specs.declared.operand.Reg.{Reg}
use Rattle.ir_tree.specs.declared.operand.Reg.TheVariants.{Ptr}
use Rattle.ir_tree.specs.declared.operand.Symbol.{Symbol}
use Rattle.ir_tree.specs.Edited.{argument_edited, end_edited, incoming_edited, instr_edited, line_edited}
use Rattle.ir_edit.specs.Substituted.{or_local, replacement}
use Rattle.ir_meaning.proofs.Everywhere.{all_front}
use Rattle.inline_site.specs.Copies.{bound}
use Rattle.inline_site.specs.Inlined.{block_named, end_leading, result_phis, return_entries}
use Rattle.inline_site.proofs.EditedItems.{end_reads_edited, reads_edited}
use Rattle.inline_site.proofs.MovedItems.{InBlock, at_items, in_block, items_at, lines_back, lines_front, of_block}
use Rattle.inline_site.proofs.MovedOperands.{IsBound, bound_some, inner_fixed}
use Rattle.inline_site.proofs.Places.{Goes, Inlining, Stands, Stays, behind, copied_with, first, inner, inner_op, made, new, outer, outer_phi, result_phi, second, standing, was_back, was_front, was_here}
use Rattle.inline_site.proofs.Returned.{IsReturned, returned}

-- ---- edited items

entries_edited : (number : ℕ → ℕ) (op : Operand → Operand) (reg : Reg) (es : List Incoming) → taken_as reg (map (incoming_edited number op) es) ≡ map (argument_edited op) (taken_as reg es)
entries_edited number op reg [] = refl
entries_edited number op reg (e ∷ es) = ap (λ (l : List Argument). typed reg (op e.value) ∷ l) (entries_edited number op reg es)

phi_reads_edited : (number : ℕ → ℕ) (op : Operand → Operand) (i : Instr) → phi_reads (instr_edited number op i) ≡ map (argument_edited op) (phi_reads i)
phi_reads_edited number op (kind.Phi reg incoming) = entries_edited number op reg incoming
phi_reads_edited number op _ = refl

module _ (known : List Symbol) where
  abbrev Knows : Argument → Type 0
  Knows a = IsKnown known a.operand

  module _ (number : ℕ → ℕ) (op : Operand → Operand) (step : (o : Operand) → IsKnown known o → IsKnown known (op o)) where
    arguments_known : (as' bs : List Argument) → bs ≡ map (argument_edited op) as' → All Knows as' → All Knows bs
    arguments_known as' bs is h = subst (All Knows) (sym is) (All-map Knows (argument_edited op) as' (All-weaker Knows (λ a. Knows (argument_edited op a)) (λ a. step a.operand) as' h))

    line_known : (i k j n : ℕ) (l : Line) → ItemKnown known (line_item i k l) → ItemKnown known (line_item j n (line_edited number op l))
    line_known i k j n l h =
        arguments_known (reads l.instr ++ phi_reads l.instr) (operands (line_item j n (line_edited number op l)))
        ((λ m. reads_edited number op l.instr m ++ phi_reads_edited number op l.instr m) ∙ sym (map-append (argument_edited op) (reads l.instr) (phi_reads l.instr))) h

    lines_known : (i k j n : ℕ) (ls : List Line) → All (ItemKnown known) (lines_from i k ls) → All (ItemKnown known) (lines_from j n (map (line_edited number op) ls))
    lines_known i k j n [] h = All-nil (ItemKnown known)
    lines_known i k j n (l ∷ ls) h =
        All-cons (ItemKnown known) (line_item j n (line_edited number op l)) (lines_from j (suc n) (map (line_edited number op) ls))
        (line_known i k j n l (All-head (ItemKnown known) (line_item i k l) (lines_from i (suc k) ls) h)) (lines_known i (suc k) j (suc n) ls (All-tail (ItemKnown known) (line_item i k l) (lines_from i (suc k) ls) h))

    end_known : (i j : ℕ) (t : Terminator) → ItemKnown known (end_item i t) → ItemKnown known (end_item j (end_edited number op t))
    end_known i j t h = arguments_known (end_reads t) (end_reads (end_edited number op t)) (end_reads_edited number op t) h

    phi_known : (block : ℕ → ℕ) (i j local : ℕ) (p : Phi) → ItemKnown known (phi_item i p) → ItemKnown known (phi_item j (record { local = local; reg = p.reg; incoming = map (incoming_edited block op) p.incoming }))
    phi_known block i j local p h = arguments_known (taken_as p.reg p.incoming) (taken_as p.reg (map (incoming_edited block op) p.incoming)) (entries_edited block op p.reg p.incoming) h

    phis_known : (block : ℕ → ℕ) (name : ℕ → ℕ) (i j : ℕ) (ps : List Phi) → All (ItemKnown known) (map (phi_item i) ps)
        → All (ItemKnown known) (map (phi_item j) (map (λ p. record { local = name p.local; reg = p.reg; incoming = map (incoming_edited block op) p.incoming }) ps))
    phis_known block name i j [] h = All-nil (ItemKnown known)
    phis_known block name i j (p ∷ ps) h =
        All-cons (ItemKnown known) (phi_item j (record { local = name p.local; reg = p.reg; incoming = map (incoming_edited block op) p.incoming }))
        (map (phi_item j) (map (λ (q : Phi). record { local = name q.local; reg = q.reg; incoming = map (incoming_edited block op) q.incoming }) ps))
        (phi_known block i j (name p.local) p (All-head (ItemKnown known) (phi_item i p) (map (phi_item i) ps) h)) (phis_known block name i j ps (All-tail (ItemKnown known) (phi_item i p) (map (phi_item i) ps) h))

  module _ (z : Inlining) (f_known : All (ItemKnown known) (items z.f)) (callee_known : All (ItemKnown known) (items z.callee)) where
    abbrev n : ℕ
    n = length z.s.front

    abbrev m : ℕ
    m = length z.callee.blocks

    was : (i : ℕ) (b : Block) → slice_get z.f.blocks i ≡ Some b → InBlock (ItemKnown known) i b
    was i b at = in_block (ItemKnown known) i b (subst (λ (k : ℕ). All (ItemKnown known) (block_items k b)) (omega arith) (items_at (ItemKnown known) 0 z.f.blocks f_known i b at))

    callee_was : (j : ℕ) (d : Block) → slice_get z.callee.blocks j ≡ Some d → InBlock (ItemKnown known) j d
    callee_was j d at = in_block (ItemKnown known) j d (subst (λ (k : ℕ). All (ItemKnown known) (block_items k d)) (omega arith) (items_at (ItemKnown known) 0 z.callee.blocks callee_known j d at))

    here_lines : All (ItemKnown known) (lines_from n 0 (z.s.before ++ z.s.call ∷ z.s.after))
    here_lines = subst (λ (ls : List Line). All (ItemKnown known) (lines_from n 0 ls)) z.lines (was n z.s.block (was_here z)).lines

    -- ---- operands

    outer_known : (o : Operand) → IsKnown known o → IsKnown known (z.op o)
    outer_known (operand.Local y) h = by (z.locals y)
      where
        by : Stays z.op z.s.call.local (result_phi z) y ⊎ Goes z.op z.s.call.local z.callee.result y → IsKnown known (z.op (operand.Local y))
        by (inl s) = subst (IsKnown known) (sym s.0) tt
        by (inr (r, is, local, result)) = subst (IsKnown known) (sym is) tt
    outer_known (operand.Number width bits) h = subst (IsKnown known) (sym (z.fixed (operand.Number width bits) tt)) h
    outer_known operand.Null h = subst (IsKnown known) (sym (z.fixed operand.Null tt)) h
    outer_known (operand.Poison r) h = subst (IsKnown known) (sym (z.fixed (operand.Poison r) tt)) h
    outer_known (operand.Symbol symbol offset) h = subst (IsKnown known) (sym (z.fixed (operand.Symbol symbol offset) tt)) h

    arguments_were : All Knows z.arguments
    arguments_were =
        let rest : All (ItemKnown known) (lines_from n (0 + length z.s.before) (z.s.call ∷ z.s.after)) = lines_back (ItemKnown known) n 0 z.s.before (z.s.call ∷ z.s.after) here_lines in
        let line : All Knows (reads z.s.call.instr ++ phi_reads z.s.call.instr) = All-head (ItemKnown known) (line_item n (0 + length z.s.before) z.s.call) (lines_from n (suc (0 + length z.s.before)) z.s.after) rest in
        All-tail Knows (typed Ptr (operand.Symbol z.callee.symbol 0)) z.arguments (subst (λ (i : Instr). All Knows (reads i)) z.call.direct (all_front Knows (reads z.s.call.instr) (phi_reads z.s.call.instr) line))

    inner_known : (o : Operand) → IsKnown known o → IsKnown known (inner_op z o)
    inner_known (operand.Local y) h = by (replacement (bound z.callee.params z.arguments) y) refl
      where
        argument : (o : Operand) → IsBound z.callee.params z.arguments y o → IsKnown known o
        argument o b =
            subst (IsKnown known) b.operand
            (subst Knows (get_or_from_slice_get z.arguments b.argument_in.0 b.argument b.argument b.argument_in.1) (arguments_were b.argument_in.0 b.argument (slice_get_within z.arguments b.argument_in.0 b.argument b.argument_in.1)))

        by : (v : Option Operand) → replacement (bound z.callee.params z.arguments) y ≡ v → IsKnown known (z.op (or_local v (new z y)))
        by None is = outer_known (operand.Local (new z y)) tt
        by (Some o) is = outer_known o (argument o (bound_some z.callee.params z.arguments y o z.call.typed is))
    inner_known (operand.Number width bits) h = subst (IsKnown known) (sym (inner_fixed z (operand.Number width bits) tt)) h
    inner_known operand.Null h = subst (IsKnown known) (sym (inner_fixed z operand.Null tt)) h
    inner_known (operand.Poison r) h = subst (IsKnown known) (sym (inner_fixed z (operand.Poison r) tt)) h
    inner_known (operand.Symbol symbol offset) h = subst (IsKnown known) (sym (inner_fixed z (operand.Symbol symbol offset) tt)) h

    -- ---- blocks

    outer_phis : (i j : ℕ) (b : Block) → slice_get z.f.blocks i ≡ Some b → All (ItemKnown known) (map (phi_item j) (map (outer_phi z) b.phis))
    outer_phis i j b at = phis_known (λ x. x) z.op outer_known (block_named z.s.block.number (behind z)) (λ x. x) i j b.phis (was i b at).phis

    outer_block : (i q : ℕ) (b : Block) → slice_get z.f.blocks i ≡ Some b → All (ItemKnown known) (block_items q (outer z b))
    outer_block i q b at = of_block (ItemKnown known) q (outer z b) (record {
      phis = outer_phis i q b at;
      lines = lines_known (λ x. x) z.op outer_known i 0 q 0 b.lines (was i b at).lines;
      end = end_known (λ x. x) z.op outer_known i q b.end (was i b at).end;
    })

    first_block : All (ItemKnown known) (block_items n (first z))
    first_block = of_block (ItemKnown known) n (first z) (record {
      phis = outer_phis n n z.s.block (was_here z);
      lines = lines_known (λ x. x) z.op outer_known n 0 n 0 z.s.before (lines_front (ItemKnown known) n 0 z.s.before (z.s.call ∷ z.s.after) here_lines);
      end = All-nil Knows;
    })

    inner_block : (j : ℕ) (d : Block) → slice_get z.callee.blocks j ≡ Some d → All (ItemKnown known) (block_items (n + suc j) (inner z d))
    inner_block j d at = of_block (ItemKnown known) (n + suc j) (inner z d) (record {
      phis = phis_known (new z) (inner_op z) inner_known (new z) (new z) j (n + suc j) d.phis (callee_was j d at).phis;
      lines = lines_known (new z) (inner_op z) inner_known j 0 (n + suc j) 0 d.lines (callee_was j d at).lines;
      end = by d.end (callee_was j d at).end;
    })
      where
        by : (t : Terminator) → ItemKnown known (end_item j t) → ItemKnown known (end_item (n + suc j) (end_leading (behind z) (end_edited (new z) (inner_op z) t)))
        by (Return a) h = All-nil Knows
        by (Jump target) h = end_known (new z) (inner_op z) inner_known j (n + suc j) (Jump target) h
        by (Branch condition if_true if_false) h = end_known (new z) (inner_op z) inner_known j (n + suc j) (Branch condition if_true if_false) h
        by (Switch width value default cases) h = end_known (new z) (inner_op z) inner_known j (n + suc j) (Switch width value default cases) h
        by Unreachable h = end_known (new z) (inner_op z) inner_known j (n + suc j) Unreachable h

    -- what is returned
    value_known : (e : Incoming) → IsReturned (new z) (inner_op z) z.callee.blocks e → IsKnown known e.value
    value_known e (j, d, a, at, end, is) =
        let was_end : All Knows (end_reads (Return (Some a))) = subst (λ (t : Terminator). All Knows (end_reads t)) end (callee_was j d at).end in
        subst (λ (x : Incoming). IsKnown known x.value) (sym is) (inner_known a.operand (All-head Knows a [] was_end))

    values_known : (reg : Reg) (es : List Incoming) → ((k : ℕ) (e : Incoming) → slice_get es k ≡ Some e → IsKnown known e.value) → All Knows (taken_as reg es)
    values_known reg [] h = All-nil Knows
    values_known reg (e ∷ es) h = All-cons Knows (typed reg e.value) (taken_as reg es) (h 0 e refl) (values_known reg es (λ k x at. h (suc k) x at))

    results_known : (l : Option ℕ) (r : Option Reg) (es : List Incoming) → ((k : ℕ) (e : Incoming) → slice_get es k ≡ Some e → IsKnown known e.value) → All (ItemKnown known) (map (phi_item (n + suc m)) (result_phis l r es))
    results_known None r es h = All-nil (ItemKnown known)
    results_known (Some x) None es h = All-nil (ItemKnown known)
    results_known (Some x) (Some reg) [] h = All-nil (ItemKnown known)
    results_known (Some x) (Some reg) (e ∷ es) h = All-cons (ItemKnown known) (phi_item (n + suc m) (record { local = x; reg = reg; incoming = e ∷ es })) [] (values_known reg (e ∷ es) h) (All-nil (ItemKnown known))

    second_block : All (ItemKnown known) (block_items (n + suc m) (second z))
    second_block = of_block (ItemKnown known) (n + suc m) (second z) (record {
      phis = results_known z.s.call.local z.callee.result (return_entries (copied_with z.op z.f z.callee z.arguments)) (λ k e at. value_known e (returned (new z) (inner_op z) z.callee.blocks e (k, at)));
      lines = lines_known (λ x. x) z.op outer_known n (suc (0 + length z.s.before)) (n + suc m) 0 z.s.after
          (All-tail (ItemKnown known) (line_item n (0 + length z.s.before) z.s.call) (lines_from n (suc (0 + length z.s.before)) z.s.after) (lines_back (ItemKnown known) n 0 z.s.before (z.s.call ∷ z.s.after) here_lines));
      end = end_known (λ x. x) z.op outer_known n (n + suc m) z.s.block.end (was n z.s.block (was_here z)).end;
    })

    block_known : (q : ℕ) (c : Block) → Stands z q c → All (ItemKnown known) (block_items q c)
    block_known q c (inl (b, at, is)) = subst (λ (x : Block). All (ItemKnown known) (block_items q x)) (sym is) (outer_block q q b (was_front z q b at))
    block_known q c (inr (inl (at, is))) = subst (λ (k : ℕ). All (ItemKnown known) (block_items k c)) (sym at) (subst (λ (x : Block). All (ItemKnown known) (block_items n x)) (sym is) first_block)
    block_known q c (inr (inr (inl (j, d, q_is, at, is)))) =
        subst (λ (k : ℕ). All (ItemKnown known) (block_items k c)) (sym q_is) (subst (λ (x : Block). All (ItemKnown known) (block_items (n + suc j) x)) (sym is) (inner_block j d at))
    block_known q c (inr (inr (inr (inl (at, is))))) =
        subst (λ (k : ℕ). All (ItemKnown known) (block_items k c)) (sym at) (subst (λ (x : Block). All (ItemKnown known) (block_items (n + suc m) x)) (sym is) second_block)
    block_known q c (inr (inr (inr (inr (k, b, q_is, at, is))))) =
        subst (λ (x : Block). All (ItemKnown known) (block_items q x)) (sym is) (outer_block (n + suc k) q b (was_back z k b at))

    pub made_known : All (ItemKnown known) (items (made z))
    made_known = at_items (ItemKnown known) 0 (made z).blocks (λ q c at. subst (λ (k : ℕ). All (ItemKnown known) (block_items k c)) (omega arith) (block_known q c (standing z q c at)))

-- What inlining gives is sound, block by block.
use Rattle.std.proofs.Common.{◌≡◌, ℕ, suc, ◌+◌, ◌<◌, ◌≤◌, ◌⊎◌, inl, inr, List, [], ◌∷◌, ◌++◌, Option, Some, None, map, length, refl, sym, ◌∙◌, ap, subst, arith}
use Rattle.std.specs.Prelude.{All, slice_get}
use Rattle.std.proofs.lemmas.List.Elements.{All-cons, All-head, All-map, All-nil, All-tail, All-weaker}
use Rattle.ir_tree.specs.Flow.{locals, successors}
use Rattle.ir_tree.specs.Formed.{ArgumentFormed, Distinct, IsBlock, IsResult, numbers}
use Rattle.ir_tree.specs.Items.{phi_item, line_item, end_item, block_items, items, lines_from, typed}
use Rattle.ir_tree.specs.Rules.{EndTypes, HasType, IsThere, IsThereAtEnd, Keeps, Sound, place}
use Rattle.ir_tree.specs.declared.block.Block.{Block}
use Rattle.ir_tree.specs.declared.block.Terminator.{Terminator}
use Rattle.ir_tree.specs.declared.block.Terminator.TheVariants.{Branch, Jump, Return, Switch, Unreachable}
use Rattle.ir_tree.specs.declared.function.Function.{Function}
use Rattle.ir_tree.specs.declared.instr.Incoming.{Incoming}
use Rattle.ir_tree.specs.declared.instr.Line.{Line}
use Rattle.ir_tree.specs.declared.instr.Phi.{Phi}
use Rattle.ir_tree.specs.declared.operand.Argument.{Argument}
use Rattle.ir_tree.specs.declared.operand.Reg.{Reg}
use Rattle.ir_tree.specs.declared.rule.Rule.{Rule}
use Rattle.ir_tree.specs.declared.rule.Rule.TheVariants.{TypeMismatch, NotAvailable, PhiEdges, PhiPlace, EntryBranch, Index, Cast, CaseTwice}
use Rattle.ir_tree.specs.Edited.{argument_edited, end_edited, phi_edited}
use Rattle.ir_meaning.specs.Counted.{times}
use Rattle.ir_meaning.proofs.Counting.{numbers_in}
use Rattle.ir_meaning.proofs.Entries.{apart, distinct_back}
use Rattle.inline_site.specs.Copies.{first_free}
use Rattle.inline_site.specs.Inlined.{block_named, end_leading, entry_of, result_phis, return_entries}
use Rattle.inline_site.proofs.CarriedOn.{copy_there, end_there, first_there, inner_end, inner_there, line_there, second_there}
use Rattle.inline_site.proofs.Copied.{copied_apart}
use Rattle.inline_site.proofs.EditedItems.{cases_have}
use Rattle.inline_site.proofs.Fresh.{behind_past, distinct, new_not_behind, new_past}
use Rattle.inline_site.proofs.Leading.{block_below, copied_targets, entry_block, entry_is, first_targets, inner_leads, inner_targets, items_right, named_cases, number_there, old_targets, outer_leads, outer_targets, places_differ, times_other, was_place, callee_place}
use Rattle.inline_site.proofs.MovedEdges.{BlockOf, Leads, block_of, on_edges_moved}
use Rattle.inline_site.proofs.MovedItems.{Given, InBlock, IsRight, at_items, end_now, in_block, lines_back, lines_front, lines_now, of_block, phi_now}
use Rattle.inline_site.proofs.MovedOperands.{const_at, const_at_end, inner_fixed, inner_given, outer_given}
use Rattle.inline_site.proofs.Places.{Finishes, InCopy, Inlining, IsFirst, Stands, Starts, behind, by_end, copied_with, copy_at, finish_back, finish_front, finish_here, finishing, first, first_at, inner, inner_op, made, new, outer, outer_phi, second, second_at, standing, start_back, start_front, start_here, was_here}
use Rattle.inline_site.proofs.Returned.{IsReturned, each_returned, result_edges, return_has}

module _ (z : Inlining) where
  abbrev g : Function
  g = made z

  abbrev n : ℕ
  n = length z.s.front

  abbrev m : ℕ
  m = length z.callee.blocks

  differ : Distinct (numbers_in (made z).blocks)
  differ = distinct_back (locals (made z)) (numbers (made z)) (distinct z)

  was : (i : ℕ) (b : Block) → slice_get z.f.blocks i ≡ Some b → InBlock (IsRight z.f) i b
  was i b at = in_block (IsRight z.f) i b (items_right z.f z.sound i b at)

  callee_was : (j : ℕ) (d : Block) → slice_get z.callee.blocks j ≡ Some d → InBlock (IsRight z.callee) j d
  callee_was j d at = in_block (IsRight z.callee) j d (items_right z.callee z.sound' j d at)

  -- ---- the caller's operands

  end_given : (i : ℕ) (b : Block) (q : ℕ) (c : Block) → Finishes z i b q c → (a : Argument) → Given z.f (IsThereAtEnd z.f i) a → Given g (IsThereAtEnd g q) (argument_edited z.op a)
  end_given i b q c s = outer_given z (IsThereAtEnd z.f i) (IsThereAtEnd g q) (λ y stays there h. end_there z y stays there i b q c s h) (const_at_end g q)

  line_given : (i : ℕ) (b : Block) (q : ℕ) → Starts z i b q (outer z b) → (k : ℕ) (a : Argument) → Given z.f (IsThere z.f i k) a → Given g (IsThere g q k) (argument_edited z.op a)
  line_given i b q s k = outer_given z (IsThere z.f i k) (IsThere g q k) (λ y stays there h. line_there z y stays there i b q s k h) (const_at g q k)

  first_given : (k : ℕ) → k ≤ length z.s.before → (a : Argument) → Given z.f (IsThere z.f n k) a → Given g (IsThere g n k) (argument_edited z.op a)
  first_given k le = outer_given z (IsThere z.f n k) (IsThere g n k) (λ y stays there h. first_there z y stays there k le h) (const_at g n k)

  second_given : (k : ℕ) (a : Argument) → Given z.f (IsThere z.f n (length z.s.before + suc k)) a → Given g (IsThere g (n + suc m) k) (argument_edited z.op a)
  second_given k = outer_given z (IsThere z.f n (length z.s.before + suc k)) (IsThere g (n + suc m) k) (λ y stays there h. second_there z y stays there k h) (const_at g (n + suc m) k)

  -- ---- the callee's operands

  copied_line : (j : ℕ) (d : Block) → slice_get z.callee.blocks j ≡ Some d → (k : ℕ) (a : Argument) → Given z.callee (IsThere z.callee j k) a → Given g (IsThere g (n + suc j) k) (argument_edited (inner_op z) a)
  copied_line j d at k =
      inner_given z (IsThere z.callee j k) (IsThere g (n + suc j) k) (λ y none there h. inner_there z y none there j d at k h)
      (λ y stays there h. inl (copy_there z y stays there h j d at)) (const_at g (n + suc j) k)

  copied_end : (j : ℕ) (d : Block) → slice_get z.callee.blocks j ≡ Some d → (a : Argument) → Given z.callee (IsThereAtEnd z.callee j) a → Given g (IsThereAtEnd g (n + suc j)) (argument_edited (inner_op z) a)
  copied_end j d at =
      inner_given z (IsThereAtEnd z.callee j) (IsThereAtEnd g (n + suc j)) (λ y none there h. inner_end z y none there j d at h)
      (λ y stays there h. inl (copy_there z y stays there h j d at)) (const_at_end g (n + suc j))

  -- ---- phis of the caller

  abbrev named : ℕ → ℕ
  named = block_named z.s.block.number (behind z)

  abbrev Cases : ℕ → Type 0
  Cases x = ((x ≡ z.s.block.number) × (block_named z.s.block.number (behind z) x ≡ behind z)) ⊎ ((x ≡ z.s.block.number → ⊥) × (block_named z.s.block.number (behind z) x ≡ x))

  cases_of : (x : ℕ) → Cases x
  cases_of x = named_cases z.s.block.number (behind z) x

  -- a name of the caller's blocks is no new number of the callee's
  named_not_new : (x y : ℕ) → IsBlock z.f x → IsBlock z.callee y → block_named z.s.block.number (behind z) x ≡ new z y → ⊥
  named_not_new x y x_there y_there e = by (cases_of x)
    where
      by : Cases x → ⊥
      by (inl k) = new_not_behind z y (block_below z.callee y y_there) (sym e ∙ k.1)
      by (inr k) =
          let same : x ≡ new z y = sym k.1 ∙ e in
          let lt : x < first_free z.f = block_below z.f x x_there in
          let past : first_free z.f ≤ new z y = new_past z y in
          omega (arith, same, lt, past)

  named_apart : (x y : ℕ) → IsBlock z.f x → IsBlock z.f y → block_named z.s.block.number (behind z) x ≡ block_named z.s.block.number (behind z) y → x ≡ y
  named_apart x y x_there y_there e = by (cases_of x) (cases_of y)
    where
      past : first_free z.f ≤ behind z
      past = behind_past z

      by : Cases x → Cases y → x ≡ y
      by (inl k) (inl l) = k.0 ∙ sym l.0
      by (inl k) (inr l) =
          let same : behind z ≡ y = sym k.1 ∙ e ∙ l.1 in
          let lt : y < first_free z.f = block_below z.f y y_there in
          absurd (omega (arith, same, lt, past))
      by (inr k) (inl l) =
          let same : x ≡ behind z = sym k.1 ∙ e ∙ l.1 in
          let lt : x < first_free z.f = block_below z.f x x_there in
          absurd (omega (arith, same, lt, past))
      by (inr k) (inr l) = sym k.1 ∙ e ∙ l.1

  named_not_block : (x : ℕ) → IsBlock z.f x → block_named z.s.block.number (behind z) x ≡ z.s.block.number → ⊥
  named_not_block x there e = by (cases_of x)
    where
      by : Cases x → ⊥
      by (inl k) =
          let same : behind z ≡ z.s.block.number = sym k.1 ∙ e in
          let lt : z.s.block.number < first_free z.f = block_below z.f z.s.block.number (number_there z.f n z.s.block (was_here z)) in
          let past : first_free z.f ≤ behind z = behind_past z in
          omega (arith, same, lt, past)
      by (inr k) = k.0 (sym k.1 ∙ e)

  named_there : (x : ℕ) → IsBlock z.f x → IsBlock g (block_named z.s.block.number (behind z) x)
  named_there x there = from (block_of z.f x there)
    where
      from : BlockOf z.f x → IsBlock g (block_named z.s.block.number (behind z) x)
      from (i, b, at, is) = by (finishing z i b at)
        where
          by : (q : ℕ) × (c : Block) × Finishes z i b q c → IsBlock g (block_named z.s.block.number (behind z) x)
          by (q, c, s) = subst (λ (k : ℕ). IsBlock g k) (s.number ∙ ap named is) (number_there g q c s.now)

  -- an entry of the caller's
  entry_given : (reg : Reg) (e : Incoming) → IsBlock z.f e.from × Given z.f (IsThereAtEnd z.f (place z.f.blocks e.from)) (typed reg e.value)
      → IsBlock g (block_named z.s.block.number (behind z) e.from) × Given g (IsThereAtEnd g (place g.blocks (block_named z.s.block.number (behind z) e.from))) (typed reg (z.op e.value))
  entry_given reg e h = (named_there e.from h.0, from (block_of z.f e.from h.0))
    where
      from : BlockOf z.f e.from → Given g (IsThereAtEnd g (place g.blocks (block_named z.s.block.number (behind z) e.from))) (typed reg (z.op e.value))
      from (i, b, at, is) = by (finishing z i b at)
        where
          by : (q : ℕ) × (c : Block) × Finishes z i b q c → Given g (IsThereAtEnd g (place g.blocks (block_named z.s.block.number (behind z) e.from))) (typed reg (z.op e.value))
          by (q, c, s) =
              let old : place z.f.blocks e.from ≡ i = ap (place z.f.blocks) (sym is) ∙ was_place z i b at in
              let now : place g.blocks (named e.from) ≡ q = ap (place g.blocks) (sym (s.number ∙ ap named is)) ∙ places_differ z q c s.now in
              subst (λ (k : ℕ). Given g (IsThereAtEnd g k) (typed reg (z.op e.value))) (sym now)
              (end_given i b q c s (typed reg e.value) (subst (λ (k : ℕ). Given z.f (IsThereAtEnd z.f k) (typed reg e.value)) old h.1))

  -- where edges come from that lead to a block of the caller
  leads_to : (i : ℕ) (b : Block) (p : ℕ) (a : Block) → Starts z i b p a → (q : ℕ) (c : Block) → slice_get g.blocks q ≡ Some c → Leads z.f (block_named z.s.block.number (behind z)) b.number a.number c
  leads_to i b p a s q c at = by (by_end z q c at)
    where
      lt : b.number < first_free z.f
      lt = block_below z.f b.number (number_there z.f i b s.old)

      by : ((r : ℕ) × (o : Block) × Finishes z r o q c) ⊎ (IsFirst z q c ⊎ InCopy z q c) → Leads z.f (block_named z.s.block.number (behind z)) b.number a.number c
      by (inl (r, o, t)) = inl (r, o, t.old, t.number, (λ k. times (s.number k) (successors (t.end k))) ∙ ap (times b.number) (outer_targets z o.end))
      by (inr (inl (q_is, c_is))) =
          inr ((λ x there e. named_not_block x there (e ∙ ap (λ (y : Block). y.number) c_is)), (λ k. times (s.number k) (successors (c_is k).end)) ∙ first_targets z b.number lt)
      by (inr (inr (j, d, q_is, at_j, c_is))) =
          inr ((λ x there e. named_not_new x d.number there (number_there z.callee j d at_j) (e ∙ ap (λ (y : Block). y.number) c_is)), (λ k. times (s.number k) (successors (c_is k).end)) ∙ inner_targets z d b.number lt)

  start_phi : (i : ℕ) (b : Block) (q : ℕ) (c : Block) → Starts z i b q c → (p : Phi) → IsRight z.f (phi_item i p) → IsRight g (phi_item q (outer_phi z p))
  start_phi i b q c s p h =
      phi_now z.f g (λ x. x) z.op z.fixed named i q p p.local (entry_given p.reg) (λ e. h.1 PhiPlace (still e s.moved))
      (on_edges_moved z.f g (apart z.f z.sound.formed) differ named z.op named_apart named_there i q b c s.old s.now (leads_to i b q c s) p.incoming h.0.sources (h.1 PhiEdges)) h
    where
      still : q ≡ 0 → ((q ≡ i) × (i ≤ n)) ⊎ ((q ≡ i + suc m) × (n < i)) → i ≡ 0
      still e (inl k) = sym k.0 ∙ e
      still e (inr k) = absurd (omega (arith, e, k.0))

  start_phis : (i : ℕ) (b : Block) (q : ℕ) (c : Block) → Starts z i b q c → (ps : List Phi) → All (IsRight z.f) (map (phi_item i) ps) → All (IsRight g) (map (phi_item q) (map (outer_phi z) ps))
  start_phis i b q c s [] h = All-nil (IsRight g)
  start_phis i b q c s (p ∷ ps) h =
      All-cons (IsRight g) (phi_item q (outer_phi z p)) (map (phi_item q) (map (outer_phi z) ps)) (start_phi i b q c s p (All-head (IsRight z.f) (phi_item i p) (map (phi_item i) ps) h))
      (start_phis i b q c s ps (All-tail (IsRight z.f) (phi_item i p) (map (phi_item i) ps) h))

  -- ---- terminators of the caller

  end_types : (t : Terminator) → EndTypes z.f t → EndTypes g (end_edited (λ x. x) z.op t)
  end_types (Return None) h = h
  end_types (Return (Some a)) h = h
  end_types (Jump target) h = tt
  end_types (Branch condition if_true if_false) h = tt
  end_types (Switch width value default cases) h = cases_have (λ x. x) z.op width cases h
  end_types Unreachable h = tt

  finish_end : (i : ℕ) (b : Block) (q : ℕ) (c : Block) → Finishes z i b q c → IsRight g (end_item q (end_edited (λ x. x) z.op b.end))
  finish_end i b q c s =
      let h : IsRight z.f (end_item i b.end) = (was i b s.old).end in
      end_now z.f g (λ x. x) z.op z.fixed i q b.end (end_given i b q c s) (outer_leads z) (end_types b.end (h.1 TypeMismatch).1) h

  -- a jump to a block that isn't the entry
  jump_right : (q x : ℕ) → IsBlock g x × (place g.blocks x ≡ 0 → ⊥) → IsRight g (end_item q (Jump x))
  jump_right q x h = (
    record {
      operands = All-nil (ArgumentFormed g);
      sources = All-nil (λ e. IsBlock g e.from);
      kind = (tt, All-cons (IsBlock g) x [] h.0 (All-nil (IsBlock g)));
    },
    keeps,
  )
    where
      keeps : (rule : Rule) → Keeps g rule (end_item q (Jump x))
      keeps TypeMismatch = (All-nil (HasType g), tt)
      keeps NotAvailable = (All-nil (λ a. IsThereAtEnd g q a.operand), All-nil (λ e. IsThereAtEnd g (place g.blocks e.from) e.value))
      keeps PhiEdges = tt
      keeps PhiPlace = tt
      keeps EntryBranch = All-cons (λ y. place g.blocks y ≡ 0 → ⊥) x [] h.1 (All-nil (λ y. place g.blocks y ≡ 0 → ⊥))
      keeps Index = tt
      keeps Cast = tt
      keeps CaseTwice = tt

  -- ---- the caller's blocks

  outer_right : (i : ℕ) (b : Block) (q : ℕ) → Starts z i b q (outer z b) → Finishes z i b q (outer z b) → All (IsRight g) (block_items q (outer z b))
  outer_right i b q s t = of_block (IsRight g) q (outer z b) (record {
    phis = start_phis i b q (outer z b) s b.phis (was i b s.old).phis;
    lines = lines_now z.f g (λ x. x) z.op z.fixed i 0 q 0 b.lines (λ k lt a h. line_given i b q s (0 + k) a h) (was i b s.old).lines;
    end = finish_end i b q (outer z b) t;
  })

  here_lines : All (IsRight z.f) (lines_from n 0 (z.s.before ++ z.s.call ∷ z.s.after))
  here_lines = subst (λ (ls : List Line). All (IsRight z.f) (lines_from n 0 ls)) z.lines (was n z.s.block (was_here z)).lines

  first_right : All (IsRight g) (block_items n (first z))
  first_right = of_block (IsRight g) n (first z) (record {
    phis = start_phis n z.s.block n (first z) (start_here z) z.s.block.phis (was n z.s.block (was_here z)).phis;
    lines = lines_now z.f g (λ x. x) z.op z.fixed n 0 n 0 z.s.before (λ k lt a h. first_given (0 + k) (omega (arith, lt)) a h) (lines_front (IsRight z.f) n 0 z.s.before (z.s.call ∷ z.s.after) here_lines);
    end = subst (λ (x : ℕ). IsRight g (end_item n (Jump x))) (sym (entry_is z (entry_block z).0 (entry_block z).1))
        (jump_right n (new z (entry_block z).0.number) (inner_leads z (entry_block z).0.number (number_there z.callee 0 (entry_block z).0 (entry_block z).1)));
  })

  -- ---- the copy

  copied_entry : (reg : Reg) (e : Incoming) → IsBlock z.callee e.from × Given z.callee (IsThereAtEnd z.callee (place z.callee.blocks e.from)) (typed reg e.value)
      → IsBlock g (new z e.from) × Given g (IsThereAtEnd g (place g.blocks (new z e.from))) (typed reg (inner_op z e.value))
  copied_entry reg e h = ((inner_leads z e.from h.0).0, from (block_of z.callee e.from h.0))
    where
      from : BlockOf z.callee e.from → Given g (IsThereAtEnd g (place g.blocks (new z e.from))) (typed reg (inner_op z e.value))
      from (j, d, at, is) =
          let old : place z.callee.blocks e.from ≡ j = ap (place z.callee.blocks) (sym is) ∙ callee_place z j d at in
          let now : place g.blocks (new z e.from) ≡ n + suc j = ap (λ (x : ℕ). place g.blocks (new z x)) (sym is) ∙ places_differ z (n + suc j) (inner z d) (copy_at z j d at) in
          subst (λ (k : ℕ). Given g (IsThereAtEnd g k) (typed reg (inner_op z e.value))) (sym now)
          (copied_end j d at (typed reg e.value) (subst (λ (k : ℕ). Given z.callee (IsThereAtEnd z.callee k) (typed reg e.value)) old h.1))

  leads_in : (j : ℕ) (d : Block) → slice_get z.callee.blocks j ≡ Some d → (j ≡ 0 → ⊥) → (q : ℕ) (c : Block) → slice_get g.blocks q ≡ Some c → Leads z.callee (new z) d.number (new z d.number) c
  leads_in j d at other q c at_q = by (by_end z q c at_q)
    where
      by : ((r : ℕ) × (o : Block) × Finishes z r o q c) ⊎ (IsFirst z q c ⊎ InCopy z q c) → Leads z.callee (new z) d.number (new z d.number) c
      by (inl (r, o, t)) =
          inr (
            (λ x there e. named_not_new o.number x (number_there z.f r o t.old) there (sym (e ∙ t.number))),
            (λ k. times (new z d.number) (successors (t.end k))) ∙ ap (times (new z d.number)) (outer_targets z o.end) ∙ old_targets z r o t.old (new z d.number) (new_past z d.number),
          )
      by (inr (inl (q_is, c_is))) =
          inr ((λ x there e. new_not_block x (e ∙ ap (λ (y : Block). y.number) c_is)), (λ k. times (new z d.number) (successors (c_is k).end)) ∙ not_entry)
        where
          new_not_block : (x : ℕ) → new z x ≡ z.s.block.number → ⊥
          new_not_block x same =
              let lt : z.s.block.number < first_free z.f = block_below z.f z.s.block.number (number_there z.f n z.s.block (was_here z)) in
              let past : first_free z.f ≤ new z x = new_past z x in
              omega (arith, same, lt, past)

          not_entry : times (new z d.number) (successors (first z).end) ≡ 0
          not_entry = times_other (new z d.number) (entry_of (copied_with z.op z.f z.callee z.arguments)) (λ e.
              let same : d.number ≡ (entry_block z).0.number = copied_apart (first_free z.f) z.callee d.number (entry_block z).0.number (sym e ∙ entry_is z (entry_block z).0 (entry_block z).1) in
              other (sym (callee_place z j d at) ∙ ap (place z.callee.blocks) same ∙ callee_place z 0 (entry_block z).0 (entry_block z).1))
      by (inr (inr (r, o, q_is, at_r, c_is))) =
          inl (r, o, at_r, ap (λ (y : Block). y.number) c_is, (λ k. times (new z d.number) (successors (c_is k).end)) ∙ copied_targets z o d.number (block_below z.callee d.number (number_there z.callee j d at)))

  copied_phi : (j : ℕ) (d : Block) → slice_get z.callee.blocks j ≡ Some d → (p : Phi) → IsRight z.callee (phi_item j p) → IsRight g (phi_item (n + suc j) (phi_edited (new z) (inner_op z) p))
  copied_phi j d at p h =
      phi_now z.callee g (new z) (inner_op z) (inner_fixed z) (new z) j (n + suc j) p (new z p.local) (copied_entry p.reg) (λ e. omega (arith, e))
      (on_edges_moved z.callee g (apart z.callee z.sound'.formed) differ (new z) (inner_op z) (λ x y x_there y_there e. copied_apart (first_free z.f) z.callee x y e) (λ x there. (inner_leads z x there).0)
      j (n + suc j) d (inner z d) at (copy_at z j d at) (leads_in j d at (h.1 PhiPlace)) p.incoming h.0.sources (h.1 PhiEdges)) h

  copied_phis : (j : ℕ) (d : Block) → slice_get z.callee.blocks j ≡ Some d → (ps : List Phi) → All (IsRight z.callee) (map (phi_item j) ps) → All (IsRight g) (map (phi_item (n + suc j)) (map (phi_edited (new z) (inner_op z)) ps))
  copied_phis j d at [] h = All-nil (IsRight g)
  copied_phis j d at (p ∷ ps) h =
      All-cons (IsRight g) (phi_item (n + suc j) (phi_edited (new z) (inner_op z) p)) (map (phi_item (n + suc j)) (map (phi_edited (new z) (inner_op z)) ps))
      (copied_phi j d at p (All-head (IsRight z.callee) (phi_item j p) (map (phi_item j) ps) h)) (copied_phis j d at ps (All-tail (IsRight z.callee) (phi_item j p) (map (phi_item j) ps) h))

  behind_leads : IsBlock g (behind z) × (place g.blocks (behind z) ≡ 0 → ⊥)
  behind_leads = (
    number_there g (n + suc m) (second z) (second_at z),
    λ here. let e : n + suc m ≡ 0 = sym (places_differ z (n + suc m) (second z) (second_at z)) ∙ here in omega (arith, e),
  )

  copied_terminator : (j : ℕ) (d : Block) → slice_get z.callee.blocks j ≡ Some d → (t : Terminator) → d.end ≡ t → IsRight g (end_item (n + suc j) (end_leading (behind z) (end_edited (new z) (inner_op z) t)))
  copied_terminator j d at t is = by t (subst (λ (u : Terminator). IsRight z.callee (end_item j u)) is (callee_was j d at).end)
    where
      step : (u : Terminator) → EndTypes g (end_edited (new z) (inner_op z) u) → IsRight z.callee (end_item j u) → IsRight g (end_item (n + suc j) (end_edited (new z) (inner_op z) u))
      step u types h = end_now z.callee g (new z) (inner_op z) (inner_fixed z) j (n + suc j) u (copied_end j d at) (λ x k. inner_leads z x k.0) types h

      by : (u : Terminator) → IsRight z.callee (end_item j u) → IsRight g (end_item (n + suc j) (end_leading (behind z) (end_edited (new z) (inner_op z) u)))
      by (Return a) h = jump_right (n + suc j) (behind z) behind_leads
      by (Jump target) h = step (Jump target) tt h
      by (Branch condition if_true if_false) h = step (Branch condition if_true if_false) tt h
      by (Switch width value default cases) h = step (Switch width value default cases) (cases_have (new z) (inner_op z) width cases (h.1 TypeMismatch).1) h
      by Unreachable h = step Unreachable tt h

  inner_right : (j : ℕ) (d : Block) → slice_get z.callee.blocks j ≡ Some d → All (IsRight g) (block_items (n + suc j) (inner z d))
  inner_right j d at = of_block (IsRight g) (n + suc j) (inner z d) (record {
    phis = copied_phis j d at d.phis (callee_was j d at).phis;
    lines = lines_now z.callee g (new z) (inner_op z) (inner_fixed z) j 0 (n + suc j) 0 d.lines (λ k lt a h. copied_line j d at (0 + k) a h) (callee_was j d at).lines;
    end = copied_terminator j d at d.end refl;
  })

  -- ---- behind the call

  abbrev back : List Incoming
  back = return_entries (copied_with z.op z.f z.callee z.arguments)

  module _ (reg : Reg) (result : z.callee.result ≡ Some reg) where
    abbrev Takes : Incoming → Type 0
    Takes e = IsBlock g e.from × Given g (IsThereAtEnd g (place g.blocks e.from)) (typed reg e.value)

    value_given : (e : Incoming) → IsReturned (new z) (inner_op z) z.callee.blocks e → Takes e
    value_given e (j, d, a, at, end, is) =
        let was_end : IsRight z.callee (end_item j (Return (Some a))) = subst (λ (u : Terminator). IsRight z.callee (end_item j u)) end (callee_was j d at).end in
        let old : Given z.callee (IsThereAtEnd z.callee j) a =
        (All-head (ArgumentFormed z.callee) a [] was_end.0.operands, All-head (HasType z.callee) a [] (was_end.1 TypeMismatch).0, All-head (λ b. IsThereAtEnd z.callee j b.operand) a [] (was_end.1 NotAvailable).0) in
        let now : Given g (IsThereAtEnd g (n + suc j)) (argument_edited (inner_op z) a) = copied_end j d at a old in
        let reg_is : a.reg ≡ reg = return_has z reg result j d at a end in
        let place_is' : place g.blocks (new z d.number) ≡ n + suc j = places_differ z (n + suc j) (inner z d) (copy_at z j d at) in
        subst Takes (sym is) (
          number_there g (n + suc j) (inner z d) (copy_at z j d at),
          subst (λ (k : ℕ). Given g (IsThereAtEnd g k) (typed reg (inner_op z a.operand))) (sym place_is') (subst (λ (r : Reg). Given g (IsThereAtEnd g (n + suc j)) (typed r (inner_op z a.operand))) reg_is now),
        )

    takes : All Takes (return_entries (copied_with z.op z.f z.callee z.arguments))
    takes = All-weaker (IsReturned (new z) (inner_op z) z.callee.blocks) Takes value_given (return_entries (copied_with z.op z.f z.callee z.arguments)) (each_returned z reg result)

    result_right : (x : ℕ) → IsRight g (phi_item (n + suc m) (record { local = x; reg = reg; incoming = return_entries (copied_with z.op z.f z.callee z.arguments) }))
    result_right x = (
      record {
        operands = All-map (ArgumentFormed g) (λ e. typed reg e.value) back (All-weaker Takes (λ e. ArgumentFormed g (typed reg e.value)) (λ e t. t.1.0) back takes);
        sources = All-weaker Takes (λ e. IsBlock g e.from) (λ e t. t.0) back takes;
        kind = subst IsResult result z.sound'.formed.result;
      },
      keeps,
    )
      where
        keeps : (rule : Rule) → Keeps g rule (phi_item (n + suc m) (record { local = x; reg = reg; incoming = return_entries (copied_with z.op z.f z.callee z.arguments) }))
        keeps TypeMismatch = (All-map (HasType g) (λ e. typed reg e.value) back (All-weaker Takes (λ e. HasType g (typed reg e.value)) (λ e t. t.1.1) back takes), tt)
        keeps NotAvailable = (tt, All-weaker Takes (λ e. IsThereAtEnd g (place g.blocks e.from) e.value) (λ e t. t.1.2) back takes)
        keeps PhiEdges = result_edges z reg result
        keeps PhiPlace = λ e. omega (arith, e)
        keeps EntryBranch = tt
        keeps Index = tt
        keeps Cast = tt
        keeps CaseTwice = tt

  results_right : (l : Option ℕ) (r : Option Reg) → z.callee.result ≡ r → (es : List Incoming) → return_entries (copied_with z.op z.f z.callee z.arguments) ≡ es → All (IsRight g) (map (phi_item (n + suc m)) (result_phis l r es))
  results_right None r is es e = All-nil (IsRight g)
  results_right (Some x) None is es e = All-nil (IsRight g)
  results_right (Some x) (Some reg) is [] e = All-nil (IsRight g)
  results_right (Some x) (Some reg) is (a ∷ es) e =
      All-cons (IsRight g) (phi_item (n + suc m) (record { local = x; reg = reg; incoming = a ∷ es })) []
      (subst (λ (l : List Incoming). IsRight g (phi_item (n + suc m) (record { local = x; reg = reg; incoming = l }))) e (result_right reg is x)) (All-nil (IsRight g))

  second_right : All (IsRight g) (block_items (n + suc m) (second z))
  second_right = of_block (IsRight g) (n + suc m) (second z) (record {
    phis = results_right z.s.call.local z.callee.result refl (return_entries (copied_with z.op z.f z.callee z.arguments)) refl;
    lines = lines_now z.f g (λ x. x) z.op z.fixed n (suc (0 + length z.s.before)) (n + suc m) 0 z.s.after line
        (All-tail (IsRight z.f) (line_item n (0 + length z.s.before) z.s.call) (lines_from n (suc (0 + length z.s.before)) z.s.after) (lines_back (IsRight z.f) n 0 z.s.before (z.s.call ∷ z.s.after) here_lines));
    end = finish_end n z.s.block (n + suc m) (second z) (finish_here z);
  })
    where
      line : (k : ℕ) → k < length z.s.after → (a : Argument) → Given z.f (IsThere z.f n (suc (0 + length z.s.before) + k)) a → Given g (IsThere g (n + suc m) (0 + k)) (argument_edited z.op a)
      line k lt a h =
          let here : suc (0 + length z.s.before) + k ≡ length z.s.before + suc (0 + k) = omega arith in
          second_given (0 + k) a (subst (λ (p : ℕ). Given z.f (IsThere z.f n p) a) here h)

  -- ---- all

  block_right : (q : ℕ) (c : Block) → Stands z q c → All (IsRight g) (block_items q c)
  block_right q c (inl (b, at, is)) = subst (λ (x : Block). All (IsRight g) (block_items q x)) (sym is) (outer_right q b q (start_front z q b at) (finish_front z q b at))
  block_right q c (inr (inl (at, is))) = subst (λ (k : ℕ). All (IsRight g) (block_items k c)) (sym at) (subst (λ (x : Block). All (IsRight g) (block_items n x)) (sym is) first_right)
  block_right q c (inr (inr (inl (j, d, q_is, at, is)))) =
      subst (λ (k : ℕ). All (IsRight g) (block_items k c)) (sym q_is) (subst (λ (x : Block). All (IsRight g) (block_items (n + suc j) x)) (sym is) (inner_right j d at))
  block_right q c (inr (inr (inr (inl (at, is))))) = subst (λ (k : ℕ). All (IsRight g) (block_items k c)) (sym at) (subst (λ (x : Block). All (IsRight g) (block_items (n + suc m) x)) (sym is) second_right)
  block_right q c (inr (inr (inr (inr (k, b, q_is, at, is))))) =
      subst (λ (p : ℕ). All (IsRight g) (block_items p c)) (sym q_is)
      (subst (λ (x : Block). All (IsRight g) (block_items (n + suc (m + suc k)) x)) (sym is) (outer_right (n + suc k) b (n + suc (m + suc k)) (start_back z k b at) (finish_back z k b at)))

  all_right : All (IsRight g) (items g)
  all_right = at_items (IsRight g) 0 g.blocks (λ q c at. subst (λ (k : ℕ). All (IsRight g) (block_items k c)) (omega arith) (block_right q c (standing z q c at)))

  some_block : g.blocks ≡ [] → ⊥
  some_block none = let clash : Some (first z) ≡ None = sym (first_at z) ∙ ap (λ (bs : List Block). slice_get bs n) none in cc clash

  pub made_sound : Sound (made z)
  made_sound = record {
    formed = record {
      result = z.sound.formed.result;
      params = z.sound.formed.params;
      once = distinct z;
      items = λ k d lt. (all_right k d lt).0;
      declared = λ none. absurd (some_block none);
    };
    rules = λ rule. λ k d lt. (all_right k d lt).1 rule;
  }

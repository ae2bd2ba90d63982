-- Locals of the caller and of the callee have their types in what inlining gives.
use Rattle.std.proofs.Common.{◌≡◌, ℕ, zero, suc, ◌+◌, ◌⊎◌, inl, inr, List, [], ◌∷◌, Option, Some, None, map, option_map, length, refl, sym, ◌∙◌, ap, subst}
use Rattle.std.specs.Prelude.{slice_get, flat_map, filter_map}
use Rattle.std.proofs.lemmas.Option.{same_Some, some_pair_parts}
use Rattle.ir_tree.specs.Rules.{Typing, block_typings, line_typing, result_type, typings}
use Rattle.ir_tree.specs.declared.block.Block.{Block}
use Rattle.ir_tree.specs.declared.instr.Incoming.{Incoming}
use Rattle.ir_tree.specs.declared.instr.Line.{Line}
use Rattle.ir_tree.specs.declared.instr.Phi.{Phi}
use Rattle.ir_tree.specs.declared.operand.Operand.{Operand}
use Rattle.ir_tree.specs.declared.operand.Reg.{Reg}
use Rattle.ir_tree.specs.Edited.{line_edited, phi_edited}
use Rattle.inline_site.specs.Inlined.{result_phis, return_entries}
use Rattle.inline_site.proofs.EditedItems.{result_edited}
use Rattle.inline_site.proofs.Elements.{In, chosen_in, flat_in, in_back, in_chosen, in_either, in_flat, in_front, in_map, in_mapped}
use Rattle.inline_site.proofs.Places.{Inlining, Stays, Stood, back_at, copied_with, copy_at, first, first_at, front_at, inner, inner_op, made, new, outer, outer_lines, outer_phi, result_phi, second, second_at, stood, was_here}
use Rattle.inline_site.proofs.TypedLocals.{HasTyping, typed_param, typed_phi}

-- ---- a line's typing

line_typing_edited : (number : ℕ → ℕ) (op : Operand → Operand) (l : Line) (y : ℕ) (r : Reg) → line_typing l ≡ Some (y, Some r) → line_typing (line_edited number op l) ≡ Some (number y, Some r)
line_typing_edited number op l y r h = ap (λ (t : Option Reg). option_map (λ x. (x, t)) (option_map number l.local)) (result_edited number op l.instr) ∙ by l.local h
  where
    by : (o : Option ℕ) → option_map {U = Typing} (λ x. (x, result_type l.instr)) o ≡ Some (y, Some r) → option_map {U = Typing} (λ x. (x, result_type l.instr)) (option_map number o) ≡ Some (number y, Some r)
    by None e = absurd cc
    by (Some x) e = ap (option_map {T = Typing} {U = Typing} (λ t. (number t.0, t.1))) e

result_typed : (y : ℕ) (r : Reg) (l : Option ℕ) (result : Option Reg) (es : List Incoming) → l ≡ Some y → result ≡ Some r → (result_phis l result es ≡ [] → ⊥) → HasTyping y r (map typed_phi (result_phis l result es))
result_typed y r None result es e g some = absurd cc
result_typed y r (Some x) None es e g some = absurd (some refl)
result_typed y r (Some x) (Some reg) [] e g some = absurd (some refl)
result_typed y r (Some x) (Some reg) (a ∷ es) e g some = (0, (λ i. Some (same_Some x y e i, g i)))

module _ (z : Inlining) where
  in_made : (q : ℕ) (c : Block) → slice_get (made z).blocks q ≡ Some c → (y : ℕ) (r : Reg) → HasTyping y r (block_typings c) → HasTyping y r (typings (made z))
  in_made q c at y r there =
      in_back {X = Typing} (y, Some r) (map typed_param z.f.params) (flat_map block_typings (made z).blocks) (flat_in block_typings c (made z).blocks (y, Some r) (q, at) there)

  phi_typed : (ps : List Phi) (y : ℕ) (r : Reg) → HasTyping y r (map typed_phi ps) → HasTyping y r (map typed_phi (map (outer_phi z) ps))
  phi_typed ps y r there = by (in_map {Y = Typing} typed_phi ps (y, Some r) there)
    where
      by : (p : Phi) × In p ps × (typed_phi p ≡ (y, Some r)) → HasTyping y r (map typed_phi (map (outer_phi z) ps))
      by (p, at, is) = subst (λ (t : Typing). In t (map typed_phi (map (outer_phi z) ps))) is (in_mapped typed_phi (outer_phi z p) (map (outer_phi z) ps) (in_mapped (outer_phi z) p ps at))

  lines_typed : (ls : List Line) (l : Line) (y : ℕ) (r : Reg) → In l ls → line_typing l ≡ Some (y, Some r) → HasTyping y r (filter_map line_typing (outer_lines z ls))
  lines_typed ls l y r at is =
      chosen_in line_typing (line_edited (λ x. x) z.op l) (outer_lines z ls) (y, Some r) (in_mapped (line_edited (λ x. x) z.op) l ls at) (line_typing_edited (λ x. x) z.op l y r is)

  -- a block that is whole
  outer_typed : (b : Block) (y : ℕ) (r : Reg) → HasTyping y r (block_typings b) → HasTyping y r (block_typings (outer z b))
  outer_typed b y r there = by (in_either {X = Typing} (y, Some r) (map typed_phi b.phis) (filter_map line_typing b.lines) there)
    where
      line : (l : Line) × In l b.lines × (line_typing l ≡ Some (y, Some r)) → HasTyping y r (block_typings (outer z b))
      line (l, at, is) = in_back {X = Typing} (y, Some r) (map typed_phi (outer z b).phis) (filter_map line_typing (outer z b).lines) (lines_typed b.lines l y r at is)

      by : HasTyping y r (map typed_phi b.phis) ⊎ HasTyping y r (filter_map line_typing b.lines) → HasTyping y r (block_typings (outer z b))
      by (inl h) = in_front {X = Typing} (y, Some r) (map typed_phi (outer z b).phis) (filter_map line_typing (outer z b).lines) (phi_typed b.phis y r h)
      by (inr h) = line (in_chosen line_typing b.lines (y, Some r) h)

  -- the block of the call
  module _ (y : ℕ) (r : Reg) (stays : Stays z.op z.s.call.local (result_phi z) y) (result : result_type z.s.call.instr ≡ z.callee.result) where
    in_first : HasTyping y r (block_typings (first z)) → HasTyping y r (typings (made z))
    in_first h = in_made (length z.s.front) (first z) (first_at z) y r h

    in_second : HasTyping y r (block_typings (second z)) → HasTyping y r (typings (made z))
    in_second h = in_made (length z.s.front + suc (length z.callee.blocks)) (second z) (second_at z) y r h

    called : line_typing z.s.call ≡ Some (y, Some r) → HasTyping y r (typings (made z))
    called h =
        in_second (in_front {X = Typing} (y, Some r) (map typed_phi (result_phi z)) (filter_map line_typing (second z).lines)
        (result_typed y r z.s.call.local z.callee.result (return_entries (copied_with z.op z.f z.callee z.arguments)) (local z.s.call.local h) (sym result ∙ reg z.s.call.local h) (stays.1 (local z.s.call.local h))))
      where
        local : (o : Option ℕ) → option_map {U = Typing} (λ x. (x, result_type z.s.call.instr)) o ≡ Some (y, Some r) → o ≡ Some y
        local None e = absurd cc
        local (Some x) e = ap (option_map {T = Typing} {U = ℕ} (λ t. t.0)) e

        reg : (o : Option ℕ) → option_map {U = Typing} (λ x. (x, result_type z.s.call.instr)) o ≡ Some (y, Some r) → result_type z.s.call.instr ≡ Some r
        reg None e = absurd cc
        reg (Some x) e = (some_pair_parts x y (result_type z.s.call.instr) (Some r) e).1

    here_typed : HasTyping y r (block_typings z.s.block) → HasTyping y r (typings (made z))
    here_typed there = by (in_either {X = Typing} (y, Some r) (map typed_phi z.s.block.phis) (filter_map line_typing z.s.block.lines) there)
      where
        behind_call' : (l : Line) → In l (z.s.call ∷ z.s.after) → line_typing l ≡ Some (y, Some r) → HasTyping y r (typings (made z))
        behind_call' l (zero, e) is = let same : z.s.call ≡ l = cc e in called (ap line_typing same ∙ is)
        behind_call' l (suc i, e) is = in_second (in_back {X = Typing} (y, Some r) (map typed_phi (result_phi z)) (filter_map line_typing (second z).lines) (lines_typed z.s.after l y r (i, e) is))

        side : (l : Line) → line_typing l ≡ Some (y, Some r) → In l z.s.before ⊎ In l (z.s.call ∷ z.s.after) → HasTyping y r (typings (made z))
        side l is (inl at) = in_first (in_back {X = Typing} (y, Some r) (map typed_phi (first z).phis) (filter_map line_typing (first z).lines) (lines_typed z.s.before l y r at is))
        side l is (inr at) = behind_call' l at is

        line : (l : Line) × In l z.s.block.lines × (line_typing l ≡ Some (y, Some r)) → HasTyping y r (typings (made z))
        line (l, at, is) = side l is (in_either l z.s.before (z.s.call ∷ z.s.after) (subst (λ (ls : List Line). In l ls) z.lines at))

        by : HasTyping y r (map typed_phi z.s.block.phis) ⊎ HasTyping y r (filter_map line_typing z.s.block.lines) → HasTyping y r (typings (made z))
        by (inl h) = in_first (in_front {X = Typing} (y, Some r) (map typed_phi (first z).phis) (filter_map line_typing (first z).lines) (phi_typed z.s.block.phis y r h))
        by (inr h) = line (in_chosen line_typing z.s.block.lines (y, Some r) h)

    -- a local of the caller
    pub caller_typed : HasTyping y r (typings z.f) → HasTyping y r (typings (made z))
    caller_typed there = by (in_either {X = Typing} (y, Some r) (map typed_param z.f.params) (flat_map block_typings z.f.blocks) there)
      where
        at_block : (i : ℕ) (b : Block) → HasTyping y r (block_typings b) → Stood z i b → HasTyping y r (typings (made z))
        at_block i b h (inl at) = in_made i (outer z b) (front_at z i b at) y r (outer_typed b y r h)
        at_block i b h (inr (inl (is, b_is))) = here_typed (subst (λ (x : Block). HasTyping y r (block_typings x)) b_is h)
        at_block i b h (inr (inr (k, is, at))) =
            in_made (length z.s.front + suc (length z.callee.blocks + suc k)) (outer z b) (back_at z k b at) y r (outer_typed b y r h)

        block : (b : Block) × In b z.f.blocks × HasTyping y r (block_typings b) → HasTyping y r (typings (made z))
        block (b, (i, at), h) = at_block i b h (stood z i b at)

        by : HasTyping y r (map typed_param z.f.params) ⊎ HasTyping y r (flat_map block_typings z.f.blocks) → HasTyping y r (typings (made z))
        by (inl h) = in_front {X = Typing} (y, Some r) (map typed_param z.f.params) (flat_map block_typings (made z).blocks) h
        by (inr h) = block (in_flat block_typings z.f.blocks (y, Some r) h)

  -- the call's result
  pub call_typing : (y : ℕ) (r : Reg) → z.s.call.local ≡ Some y → result_type z.s.call.instr ≡ Some r → HasTyping y r (typings z.f)
  call_typing y r local result =
      in_back {X = Typing} (y, Some r) (map typed_param z.f.params) (flat_map block_typings z.f.blocks)
      (flat_in block_typings z.s.block z.f.blocks (y, Some r) (length z.s.front, was_here z)
      (in_back {X = Typing} (y, Some r) (map typed_phi z.s.block.phis) (filter_map line_typing z.s.block.lines)
      (chosen_in line_typing z.s.call z.s.block.lines (y, Some r) (subst (λ (ls : List Line). In z.s.call ls) (sym z.lines) (in_back z.s.call z.s.before (z.s.call ∷ z.s.after) (0, refl)))
      (λ i. option_map {U = Typing} (λ x. (x, result i)) (local i)))))

  -- a local of the callee that a block defines
  pub callee_typed : (y : ℕ) (r : Reg) → HasTyping y r (flat_map block_typings z.callee.blocks) → HasTyping (new z y) r (typings (made z))
  callee_typed y r there = block (in_flat block_typings z.callee.blocks (y, Some r) there)
    where
      in_copy : (j : ℕ) (d : Block) → slice_get z.callee.blocks j ≡ Some d → HasTyping (new z y) r (block_typings (inner z d)) → HasTyping (new z y) r (typings (made z))
      in_copy j d at h = in_made (length z.s.front + suc j) (inner z d) (copy_at z j d at) (new z y) r h

      phi : (j : ℕ) (d : Block) → slice_get z.callee.blocks j ≡ Some d → (p : Phi) × In p d.phis × (typed_phi p ≡ (y, Some r)) → HasTyping (new z y) r (typings (made z))
      phi j d at (p, p_at, is) =
          in_copy j d at (in_front {X = Typing} (new z y, Some r) (map typed_phi (inner z d).phis) (filter_map line_typing (inner z d).lines)
          (subst (λ (t : Typing). In t (map typed_phi (inner z d).phis)) (λ i. (new z (is i).0, (is i).1))
          (in_mapped typed_phi (phi_edited (new z) (inner_op z) p) (inner z d).phis (in_mapped (phi_edited (new z) (inner_op z)) p d.phis p_at))))

      line : (j : ℕ) (d : Block) → slice_get z.callee.blocks j ≡ Some d → (l : Line) × In l d.lines × (line_typing l ≡ Some (y, Some r)) → HasTyping (new z y) r (typings (made z))
      line j d at (l, l_at, is) =
          in_copy j d at (in_back {X = Typing} (new z y, Some r) (map typed_phi (inner z d).phis) (filter_map line_typing (inner z d).lines)
          (chosen_in line_typing (line_edited (new z) (inner_op z) l) (inner z d).lines (new z y, Some r) (in_mapped (line_edited (new z) (inner_op z)) l d.lines l_at) (line_typing_edited (new z) (inner_op z) l y r is)))

      side : (j : ℕ) (d : Block) → slice_get z.callee.blocks j ≡ Some d → HasTyping y r (map typed_phi d.phis) ⊎ HasTyping y r (filter_map line_typing d.lines) → HasTyping (new z y) r (typings (made z))
      side j d at (inl h) = phi j d at (in_map {Y = Typing} typed_phi d.phis (y, Some r) h)
      side j d at (inr h) = line j d at (in_chosen line_typing d.lines (y, Some r) h)

      block : (d : Block) × In d z.callee.blocks × HasTyping y r (block_typings d) → HasTyping (new z y) r (typings (made z))
      block (d, (j, at), h) = side j d at (in_either {X = Typing} (y, Some r) (map typed_phi d.phis) (filter_map line_typing d.lines) h)

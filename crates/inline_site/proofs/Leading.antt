-- Where the terminators lead of what inlining gives.
use Rattle.std.proofs.Common.{◌≡◌, ℕ, zero, suc, ◌+◌, ◌<◌, ◌≤◌, ◌⊎◌, inl, inr, Bool, List, [], ◌∷◌, ◌++◌, Some, map, length, refl, sym, ◌∙◌, ap, subst, arith, map-id, if◌then◌else◌}
use Rattle.std.specs.Prelude.{All, slice_get}
use Rattle.std.proofs.lemmas.Bool.{cases_eq, eq-eqb, ne_eqb}
use Rattle.std.proofs.lemmas.List.Elements.{All-head}
use Rattle.ir_tree.specs.Flow.{locals, successors}
use Rattle.ir_tree.specs.Formed.{IsBlock, numbers}
use Rattle.ir_tree.specs.Items.{block_items, items, line_item, lines_from}
use Rattle.ir_tree.specs.Rules.{Sound, place}
use Rattle.ir_tree.specs.declared.block.Block.{Block}
use Rattle.ir_tree.specs.declared.block.Terminator.{Terminator}
use Rattle.ir_tree.specs.declared.block.Terminator.TheVariants.{Branch, Jump, Return, Switch, Unreachable}
use Rattle.ir_tree.specs.declared.function.Function.{Function}
use Rattle.ir_tree.specs.declared.instr.Line.{Line}
use Rattle.ir_tree.specs.declared.operand.Operand.{Operand}
use Rattle.ir_tree.specs.Edited.{block_edited, end_edited}
use Rattle.ir_meaning.specs.Counted.{times}
use Rattle.ir_meaning.proofs.Counting.{number_at, place_is}
use Rattle.ir_meaning.proofs.Entries.{apart, distinct_back}
use Rattle.ir_meaning.proofs.Everywhere.{all_among}
use Rattle.inline_site.specs.Copies.{first_free}
use Rattle.inline_site.specs.Inlined.{block_named, end_leading, entry_of}
use Rattle.inline_site.proofs.Copied.{copied_apart}
use Rattle.inline_site.specs.Sites.{Site}
use Rattle.inline_site.proofs.EditedItems.{targets_edited}
use Rattle.inline_site.proofs.Elements.{at_back}
use Rattle.inline_site.proofs.Fresh.{behind_past, distinct, new_not_behind, new_past, number_below}
use Rattle.inline_site.proofs.MovedEdges.{block_of, BlockOf}
use Rattle.inline_site.proofs.MovedItems.{InBlock, IsRight, in_block, items_at, lines_back}
use Rattle.inline_site.proofs.Numbered.{holds_in, in_holds, same_under}
use Rattle.inline_site.proofs.Places.{Inlining, Starts, behind, copied_with, copy_at, first, inner, inner_op, made, new, starting}

times_new : (number : ℕ → ℕ) → ((x y : ℕ) → number x ≡ number y → x ≡ y) → (x : ℕ) (ts : List ℕ) → times (number x) (map number ts) ≡ times x ts
times_new number one x [] = refl
times_new number one x (t ∷ ts) = λ i. if same_under number one t x i then suc (times_new number one x ts i) else times_new number one x ts i

times_none : (number : ℕ → ℕ) (x : ℕ) → ((y : ℕ) → number y ≡ x → ⊥) → (ts : List ℕ) → times x (map number ts) ≡ 0
times_none number x differ [] = refl
times_none number x differ (t ∷ ts) = ap (λ (b : Bool). if b then suc (times x (map number ts)) else times x (map number ts)) (ne_eqb (number t) x (differ t)) ∙ times_none number x differ ts

pub times_other : (x t : ℕ) → (t ≡ x → ⊥) → times x (t ∷ []) ≡ 0
times_other x t differ = ap (λ (b : Bool). if b then suc (times x []) else times x []) (ne_eqb t x differ)

-- a copied terminator leads where it led, and a return leads behind the call
leads_inner : (number : ℕ → ℕ) (op : Operand → Operand) (last : ℕ) (t : Terminator)
    → (successors (end_leading last (end_edited number op t)) ≡ map number (successors t)) ⊎ ((successors (end_leading last (end_edited number op t)) ≡ last ∷ []) × (successors t ≡ []))
leads_inner number op last (Return a) = inr (refl, refl)
leads_inner number op last (Jump target) = inl refl
leads_inner number op last (Branch condition if_true if_false) = inl refl
leads_inner number op last (Switch width value default cases) = inl (targets_edited number op (Switch width value default cases))
leads_inner number op last Unreachable = inl refl

-- the items of a block of a sound function
pub items_right : (h : Function) → Sound h → (i : ℕ) (b : Block) → slice_get h.blocks i ≡ Some b → All (IsRight h) (block_items i b)
items_right h sound i b at =
    let all : All (IsRight h) (items h) = λ k d lt. (sound.formed.items k d lt, (λ rule. sound.rules rule k d lt)) in
    subst (λ (n : ℕ). All (IsRight h) (block_items n b)) (omega arith) (items_at (IsRight h) 0 h.blocks all i b at)

-- the instruction at a site
pub call_line_right : (h : Function) → Sound h → (s : Site) → h.blocks ≡ s.front ++ s.block ∷ s.back → s.block.lines ≡ s.before ++ s.call ∷ s.after → IsRight h (line_item (length s.front) (length s.before) s.call)
call_line_right h sound s blocks lines =
    let first_one : length s.front ≡ length s.front + 0 = omega arith in
    let at : slice_get h.blocks (length s.front) ≡ Some s.block = (λ i. slice_get (blocks i) (first_one i)) ∙ at_back s.front (s.block ∷ s.back) 0 in
    let block : InBlock (IsRight h) (length s.front) s.block = in_block (IsRight h) (length s.front) s.block (items_right h sound (length s.front) s.block at) in
    let all : All (IsRight h) (lines_from (length s.front) 0 (s.before ++ s.call ∷ s.after)) = subst (λ (ls : List Line). All (IsRight h) (lines_from (length s.front) 0 ls)) lines block.lines in
    let rest : All (IsRight h) (lines_from (length s.front) (0 + length s.before) (s.call ∷ s.after)) = lines_back (IsRight h) (length s.front) 0 s.before (s.call ∷ s.after) all in
    let last : IsRight h (line_item (length s.front) (0 + length s.before) s.call) = All-head (IsRight h) (line_item (length s.front) (0 + length s.before) s.call) (lines_from (length s.front) (suc (0 + length s.before)) s.after) rest in
    let same : 0 + length s.before ≡ length s.before = omega arith in
    subst (λ (k : ℕ). IsRight h (line_item (length s.front) k s.call)) same last

-- the successors of its terminators are blocks
pub targets_right : (h : Function) → Sound h → (i : ℕ) (b : Block) → slice_get h.blocks i ≡ Some b → (x : ℕ) → 1 ≤ times x (successors b.end) → IsBlock h x
targets_right h sound i b at x some = all_among (IsBlock h) x (successors b.end) (in_block (IsRight h) i b (items_right h sound i b at)).end.0.kind.1 some

pub number_there : (h : Function) (i : ℕ) (b : Block) → slice_get h.blocks i ≡ Some b → IsBlock h b.number
number_there h i b at = holds_in b.number (numbers h) (i, number_at h.blocks i b at)

pub block_below : (h : Function) (x : ℕ) → IsBlock h x → x < first_free h
block_below h x there = number_below h x (in_holds x (numbers h) there)

-- the block of the call is named by the one behind it, others by themselves
pub named_cases : (block last x : ℕ) → ((x ≡ block) × (block_named block last x ≡ last)) ⊎ ((x ≡ block → ⊥) × (block_named block last x ≡ x))
named_cases block last x = by (cases_eq x block)
  where
    by : (x ≡ block) ⊎ (x ≡ block → ⊥) → ((x ≡ block) × (block_named block last x ≡ last)) ⊎ ((x ≡ block → ⊥) × (block_named block last x ≡ x))
    by (inl e) = inl (e, ap (λ (b : Bool). if b then last else x) (eq-eqb x block e))
    by (inr e) = inr (e, ap (λ (b : Bool). if b then last else x) (ne_eqb x block e))

module _ (z : Inlining) where
  -- ---- terminators

  pub outer_targets : (t : Terminator) → successors (end_edited (λ x. x) z.op t) ≡ successors t
  outer_targets t = targets_edited (λ x. x) z.op t ∙ map-id (successors t)

  -- the callee's entry is the copy's
  pub entry_is : (d : Block) → slice_get z.callee.blocks 0 ≡ Some d → entry_of (copied_with z.op z.f z.callee z.arguments) ≡ new z d.number
  entry_is d at = by z.callee.blocks at
    where
      by : (bs : List Block) → slice_get bs 0 ≡ Some d → entry_of (map (block_edited (new z) (inner_op z)) bs) ≡ new z d.number
      by [] e = absurd cc
      by (b ∷ bs) e = let same : b ≡ d = cc e in ap (λ (c : Block). new z c.number) same

  pub entry_block : (d : Block) × (slice_get z.callee.blocks 0 ≡ Some d)
  entry_block = by z.callee.blocks z.some
    where
      by : (bs : List Block) → (bs ≡ [] → ⊥) → (d : Block) × (slice_get bs 0 ≡ Some d)
      by [] some = absurd (some refl)
      by (b ∷ bs) some = (b, refl)

  entry_past : first_free z.f ≤ entry_of (copied_with z.op z.f z.callee z.arguments)
  entry_past =
      let is : entry_of (copied_with z.op z.f z.callee z.arguments) ≡ new z entry_block.0.number = entry_is entry_block.0 entry_block.1 in
      let past : first_free z.f ≤ new z entry_block.0.number = new_past z entry_block.0.number in
      omega (arith, is, past)

  -- the caller's terminators lead to none of the new numbers
  pub old_targets : (i : ℕ) (b : Block) → slice_get z.f.blocks i ≡ Some b → (x : ℕ) → first_free z.f ≤ x → times x (successors b.end) ≡ 0
  old_targets i b at x past = by (times x (successors b.end)) refl
    where
      by : (k : ℕ) → times x (successors b.end) ≡ k → k ≡ 0
      by zero e = refl
      by (suc k) e = let lt : x < first_free z.f = block_below z.f x (targets_right z.f z.sound i b at x (omega (arith, e))) in absurd (omega (arith, lt, past))

  pub first_targets : (x : ℕ) → x < first_free z.f → times x (successors (first z).end) ≡ 0
  first_targets x lt = times_other x (entry_of (copied_with z.op z.f z.callee z.arguments)) (λ e. let past : first_free z.f ≤ entry_of (copied_with z.op z.f z.callee z.arguments) = entry_past in omega (arith, e, lt, past))

  pub first_not_behind : times (behind z) (successors (first z).end) ≡ 0
  first_not_behind =
      times_other (behind z) (entry_of (copied_with z.op z.f z.callee z.arguments))
      (λ e. new_not_behind z entry_block.0.number (block_below z.callee entry_block.0.number (number_there z.callee 0 entry_block.0 entry_block.1)) (sym (entry_is entry_block.0 entry_block.1) ∙ e))

  -- the copy's terminators lead to none of the caller's blocks
  pub inner_targets : (d : Block) (x : ℕ) → x < first_free z.f → times x (successors (inner z d).end) ≡ 0
  inner_targets d x lt = by (leads_inner (new z) (inner_op z) (behind z) d.end)
    where
      by : (successors (inner z d).end ≡ map (new z) (successors d.end)) ⊎ ((successors (inner z d).end ≡ behind z ∷ []) × (successors d.end ≡ [])) → times x (successors (inner z d).end) ≡ 0
      by (inl e) = ap (times x) e ∙ times_none (new z) x (λ y s. let past : first_free z.f ≤ new z y = new_past z y in omega (arith, s, lt, past)) (successors d.end)
      by (inr e) = ap (times x) e.0 ∙ times_other x (behind z) (λ s. let past : first_free z.f ≤ behind z = behind_past z in omega (arith, s, lt, past))

  -- and to those of the copy as the callee's do to its own
  pub copied_targets : (d : Block) (x : ℕ) → x < first_free z.callee → times (new z x) (successors (inner z d).end) ≡ times x (successors d.end)
  copied_targets d x lt = by (leads_inner (new z) (inner_op z) (behind z) d.end)
    where
      by : (successors (inner z d).end ≡ map (new z) (successors d.end)) ⊎ ((successors (inner z d).end ≡ behind z ∷ []) × (successors d.end ≡ [])) → times (new z x) (successors (inner z d).end) ≡ times x (successors d.end)
      by (inl e) = ap (times (new z x)) e ∙ times_new (new z) (copied_apart (first_free z.f) z.callee) x (successors d.end)
      by (inr e) = ap (times (new z x)) e.0 ∙ times_other (new z x) (behind z) (λ s. new_not_behind z x lt (sym s)) ∙ sym (ap (times x) e.1)

  -- ---- blocks by their numbers

  pub places_differ : (q : ℕ) (c : Block) → slice_get (made z).blocks q ≡ Some c → place (made z).blocks c.number ≡ q
  places_differ q c at = place_is (made z).blocks (distinct_back (locals (made z)) (numbers (made z)) (distinct z)) q c at

  pub was_place : (i : ℕ) (b : Block) → slice_get z.f.blocks i ≡ Some b → place z.f.blocks b.number ≡ i
  was_place i b at = place_is z.f.blocks (apart z.f z.sound.formed) i b at

  pub callee_place : (j : ℕ) (d : Block) → slice_get z.callee.blocks j ≡ Some d → place z.callee.blocks d.number ≡ j
  callee_place j d at = place_is z.callee.blocks (apart z.callee z.sound'.formed) j d at

  -- a block to which the caller may lead, it may still
  pub outer_leads : (x : ℕ) → IsBlock z.f x × (place z.f.blocks x ≡ 0 → ⊥) → IsBlock (made z) x × (place (made z).blocks x ≡ 0 → ⊥)
  outer_leads x h = from (block_of z.f x h.0)
    where
      from : BlockOf z.f x → IsBlock (made z) x × (place (made z).blocks x ≡ 0 → ⊥)
      from (i, b, at, is) = by (starting z i b at)
        where
          by : (q : ℕ) × (c : Block) × Starts z i b q c → IsBlock (made z) x × (place (made z).blocks x ≡ 0 → ⊥)
          by (q, c, s) =
              let name : c.number ≡ x = s.number ∙ is in (
                subst (λ (n : ℕ). IsBlock (made z) n) name (number_there (made z) q c s.now),
                λ here. h.1 (ap (place z.f.blocks) (sym is) ∙ was_place i b at ∙ first_still (sym (places_differ q c s.now) ∙ ap (place (made z).blocks) name ∙ here) s.moved),
              )
            where
              first_still : q ≡ 0 → ((q ≡ i) × (i ≤ length z.s.front)) ⊎ ((q ≡ i + suc (length z.callee.blocks)) × (length z.s.front < i)) → i ≡ 0
              first_still zero' (inl e) = sym e.0 ∙ zero'
              first_still zero' (inr e) = absurd (omega (arith, zero', e.0))

  pub inner_leads : (x : ℕ) → IsBlock z.callee x → IsBlock (made z) (new z x) × (place (made z).blocks (new z x) ≡ 0 → ⊥)
  inner_leads x there = from (block_of z.callee x there)
    where
      from : BlockOf z.callee x → IsBlock (made z) (new z x) × (place (made z).blocks (new z x) ≡ 0 → ⊥)
      from (j, d, at, is) = (
        subst (λ (n : ℕ). IsBlock (made z) (new z n)) is (number_there (made z) (length z.s.front + suc j) (inner z d) (copy_at z j d at)),
        λ here.
            let e : length z.s.front + suc j ≡ 0 = sym (places_differ (length z.s.front + suc j) (inner z d) (copy_at z j d at)) ∙ ap (λ (n : ℕ). place (made z).blocks (new z n)) is ∙ here in
            omega (arith, e),
      )

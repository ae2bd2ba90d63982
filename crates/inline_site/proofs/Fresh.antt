-- The numbers of the copy are new to the caller, and each number stands once in what inlining gives.
use Rattle.std.proofs.Common.{◌≡◌, ℕ, zero, suc, ◌+◌, ◌<◌, ◌≤◌, nat_eq, ◌⊎◌, inl, inr, Bool, true, false, List, [], ◌∷◌, ◌++◌, Option, Some, None, map, option_map, refl, sym, ◌∙◌, ap, arith, append_assoc, if◌then◌else◌}
use Rattle.std.specs.Prelude.{flat_map}
use Rattle.std.proofs.lemmas.Bool.{cases_lt, eqb-true, ne_eqb}
use Rattle.std.proofs.lemmas.List.{map-append}
use Rattle.ir_tree.specs.Flow.{definitions, locals, parameters}
use Rattle.ir_tree.specs.Formed.{Distinct, Formed, numbers}
use Rattle.ir_tree.specs.declared.block.Block.{Block}
use Rattle.ir_tree.specs.declared.function.Function.{Function}
use Rattle.ir_tree.specs.declared.instr.Incoming.{Incoming}
use Rattle.ir_tree.specs.declared.instr.Line.{Line}
use Rattle.ir_tree.specs.declared.instr.Phi.{Phi}
use Rattle.ir_tree.specs.declared.operand.Operand.{Operand}
use Rattle.ir_tree.specs.declared.operand.Reg.{Reg}
use Rattle.ir_tree.specs.Edited.{line_edited, phi_edited}
use Rattle.ir_edit.specs.Numbered.{block_numbers, blocks_numbers, line_numbers, local_number, numbers_of, param_numbers, phi_numbers}
use Rattle.ir_edit.proofs.Tally.{tally, tally_both}
use Rattle.inline_site.specs.Copies.{added, first_free}
use Rattle.inline_site.specs.Inlined.{result_phis, return_entries}
use Rattle.inline_site.proofs.Copied.{copied_apart}
use Rattle.inline_site.proofs.Elements.{In}
use Rattle.inline_site.proofs.Numbered.{distinct_by, in_tally, is_new, once_under}
use Rattle.inline_site.proofs.Once.{below_room, once_each}
use Rattle.inline_site.proofs.Places.{Inlining, behind, copied_with, first, inner, inner_op, made, new, outer, outer_phi, second}
use Rattle.ir_edit.proofs.Counting.{blocks_tally, params_are}

-- ---- the numbers of a function

total : (h : Function) (x : ℕ) → tally x (locals h) + tally x (numbers h) ≡ tally x (param_numbers h.params) + tally x (blocks_numbers h.blocks)
total h x =
    let both : tally x (locals h) ≡ tally x (parameters h) + tally x (flat_map definitions h.blocks) = tally_both x (parameters h) (flat_map definitions h.blocks) in
    let blocks : tally x (blocks_numbers h.blocks) ≡ tally x (flat_map definitions h.blocks) + tally x (numbers h) = blocks_tally x h.blocks in
    let params : tally x (param_numbers h.params) ≡ tally x (parameters h) = ap (tally x) (params_are h.params) in
    omega (arith, both, blocks, params)

below_free : (h : Function) (x : ℕ) → 1 ≤ tally x (param_numbers h.params) + tally x (blocks_numbers h.blocks) → x < first_free h
below_free h x some =
    let both : tally x (numbers_of h) ≡ tally x (param_numbers h.params) + tally x (blocks_numbers h.blocks) = tally_both x (param_numbers h.params) (blocks_numbers h.blocks) in
    below_room x (numbers_of h) (omega (arith, both, some))

pub local_below : (h : Function) (x : ℕ) → In x (locals h) → x < first_free h
local_below h x there = let some : 1 ≤ tally x (locals h) = in_tally x (locals h) there in let all = total h x in below_free h x (omega (arith, some, all))

pub number_below : (h : Function) (x : ℕ) → In x (numbers h) → x < first_free h
number_below h x there = let some : 1 ≤ tally x (numbers h) = in_tally x (numbers h) there in let all = total h x in below_free h x (omega (arith, some, all))

-- each number of a formed function stands once
once_all : (h : Function) → Formed h → (x : ℕ) → tally x (param_numbers h.params) + tally x (blocks_numbers h.blocks) ≤ 1
once_all h formed x =
    let each = once_each h formed x in
    let blocks : tally x (blocks_numbers h.blocks) ≡ tally x (flat_map definitions h.blocks) + tally x (numbers h) = blocks_tally x h.blocks in
    omega (arith, each, blocks)

once_added : (h : Function) → Formed h → (x : ℕ) → tally x (added h) ≤ 1
once_added h formed x = by (nat_eq x (first_free h)) refl
  where
    both : tally x (added h) ≡ tally x (blocks_numbers h.blocks) + tally x (first_free h ∷ [])
    both = tally_both x (blocks_numbers h.blocks) (first_free h ∷ [])

    most : tally x (param_numbers h.params) + tally x (blocks_numbers h.blocks) ≤ 1
    most = once_all h formed x

    none : x ≡ first_free h → (k : ℕ) → tally x (blocks_numbers h.blocks) ≡ k → k ≡ 0
    none is zero e = refl
    none is (suc k) e = let lt : x < first_free h = below_free h x (omega (arith, e)) in absurd (omega (arith, lt, is))

    by : (b : Bool) → nat_eq x (first_free h) ≡ b → tally x (added h) ≤ 1
    by true e =
        let last : tally x (first_free h ∷ []) ≡ 1 = ap (λ (t : Bool). (if t then 1 else 0) + 0) e in
        let zero' : tally x (blocks_numbers h.blocks) ≡ 0 = none (eqb-true x (first_free h) e) (tally x (blocks_numbers h.blocks)) refl in
        omega (arith, both, last, zero')
    by false e =
        let last : tally x (first_free h ∷ []) ≡ 0 = ap (λ (t : Bool). (if t then 1 else 0) + 0) e in
        omega (arith, both, last, most)

-- ---- the numbers of blocks

pub numbers_both : (as' bs : List Block) → blocks_numbers (as' ++ bs) ≡ blocks_numbers as' ++ blocks_numbers bs
numbers_both [] bs = refl
numbers_both (a ∷ as') bs = ap (λ (l : List ℕ). block_numbers a ++ l) (numbers_both as' bs) ∙ sym (append_assoc (block_numbers a) (blocks_numbers as') (blocks_numbers bs))

pub line_numbers_same : (op : Operand → Operand) (ls : List Line) → line_numbers (map (line_edited (λ x. x) op) ls) ≡ line_numbers ls
line_numbers_same op [] = refl
line_numbers_same op (l ∷ ls) = λ i. by l.local i ++ line_numbers_same op ls i
  where
    by : (o : Option ℕ) → local_number (option_map (λ x. x) o) ≡ local_number o
    by None = refl
    by (Some x) = refl

pub line_numbers_new : (number : ℕ → ℕ) (op : Operand → Operand) (ls : List Line) → line_numbers (map (line_edited number op) ls) ≡ map number (line_numbers ls)
line_numbers_new number op [] = refl
line_numbers_new number op (l ∷ ls) = (λ i. by l.local i ++ line_numbers_new number op ls i) ∙ sym (map-append number (local_number l.local) (line_numbers ls))
  where
    by : (o : Option ℕ) → local_number (option_map number o) ≡ map number (local_number o)
    by None = refl
    by (Some x) = refl

pub phi_numbers_new : (number : ℕ → ℕ) (op : Operand → Operand) (ps : List Phi) → phi_numbers (map (phi_edited number op) ps) ≡ map number (phi_numbers ps)
phi_numbers_new number op [] = refl
phi_numbers_new number op (p ∷ ps) = ap (λ (l : List ℕ). number p.local ∷ l) (phi_numbers_new number op ps)

result_once : (x : ℕ) (l : Option ℕ) (r : Option Reg) (es : List Incoming) → tally x (phi_numbers (result_phis l r es)) ≤ tally x (local_number l)
result_once x None r es = omega arith
result_once x (Some y) None es = omega arith
result_once x (Some y) (Some reg) [] = omega arith
result_once x (Some y) (Some reg) (e ∷ es) = omega arith

lines_parts : (xs : List Line) (l : Line) (ys : List Line) (x : ℕ) → tally x (line_numbers (xs ++ l ∷ ys)) ≡ tally x (line_numbers xs) + (tally x (local_number l.local) + tally x (line_numbers ys))
lines_parts [] l ys x = let both : tally x (local_number l.local ++ line_numbers ys) ≡ tally x (local_number l.local) + tally x (line_numbers ys) = tally_both x (local_number l.local) (line_numbers ys) in omega (arith, both)
lines_parts (k ∷ xs) l ys x =
    let more : tally x (line_numbers (xs ++ l ∷ ys)) ≡ tally x (line_numbers xs) + (tally x (local_number l.local) + tally x (line_numbers ys)) = lines_parts xs l ys x in
    let left : tally x (local_number k.local ++ line_numbers (xs ++ l ∷ ys)) ≡ tally x (local_number k.local) + tally x (line_numbers (xs ++ l ∷ ys)) = tally_both x (local_number k.local) (line_numbers (xs ++ l ∷ ys)) in
    let right : tally x (local_number k.local ++ line_numbers xs) ≡ tally x (local_number k.local) + tally x (line_numbers xs) = tally_both x (local_number k.local) (line_numbers xs) in
    omega (arith, more, left, right)

-- of a block
one_block : (x number : ℕ) (ps : List Phi) (ls : List Line) (b : Block) → b.number ≡ number → b.phis ≡ ps → b.lines ≡ ls
    → tally x (block_numbers b) ≡ (if nat_eq x number then 1 else 0) + (tally x (phi_numbers ps) + tally x (line_numbers ls))
unfolding block_numbers
one_block x number ps ls b number_is phis_are lines_are =
    let both : tally x (phi_numbers b.phis ++ line_numbers b.lines) ≡ tally x (phi_numbers b.phis) + tally x (line_numbers b.lines) = tally_both x (phi_numbers b.phis) (line_numbers b.lines) in
    let all : tally x (b.number ∷ (phi_numbers b.phis ++ line_numbers b.lines)) ≡ (if nat_eq x b.number then 1 else 0) + (tally x (phi_numbers b.phis) + tally x (line_numbers b.lines)) = omega (arith, both) in
    all ∙ (λ i. (if nat_eq x (number_is i) then 1 else 0) + (tally x (phi_numbers (phis_are i)) + tally x (line_numbers (lines_are i))))

module _ (z : Inlining) where
  -- ---- new numbers

  pub new_past : (x : ℕ) → first_free z.f ≤ new z x
  new_past x = omega arith

  pub behind_past : first_free z.f ≤ behind z
  behind_past = omega arith

  pub new_not_behind : (x : ℕ) → x < first_free z.callee → new z x ≡ behind z → ⊥
  new_not_behind x lt e = let same : x ≡ first_free z.callee = copied_apart (first_free z.f) z.callee x (first_free z.callee) e in omega (arith, lt, same)

  -- ---- each once

  phi_numbers_same : (ps : List Phi) → phi_numbers (map (outer_phi z) ps) ≡ phi_numbers ps
  phi_numbers_same [] = refl
  phi_numbers_same (p ∷ ps) = ap (λ (l : List ℕ). p.local ∷ l) (phi_numbers_same ps)

  outer_numbers : (bs : List Block) → blocks_numbers (map (outer z) bs) ≡ blocks_numbers bs
  unfolding block_numbers
  outer_numbers [] = refl
  outer_numbers (b ∷ bs) = λ i. (b.number ∷ (phi_numbers_same b.phis i ++ line_numbers_same z.op b.lines i)) ++ outer_numbers bs i

  inner_numbers : (bs : List Block) → blocks_numbers (map (inner z) bs) ≡ map (new z) (blocks_numbers bs)
  unfolding block_numbers
  inner_numbers [] = refl
  inner_numbers (b ∷ bs) =
      (λ i. (new z b.number ∷ (phi_numbers_new (new z) (inner_op z) b.phis i ++ line_numbers_new (new z) (inner_op z) b.lines i)) ++ inner_numbers bs i)
      ∙ (λ i. (new z b.number ∷ sym (map-append (new z) (phi_numbers b.phis) (line_numbers b.lines)) i) ++ map (new z) (blocks_numbers bs))
      ∙ sym (map-append (new z) (b.number ∷ (phi_numbers b.phis ++ line_numbers b.lines)) (blocks_numbers bs))

  -- the two halves have what the block has, and one number more
  halves : (x : ℕ) → tally x (block_numbers (first z)) + tally x (block_numbers (second z)) ≤ tally x (block_numbers z.s.block) + (if nat_eq x (behind z) then 1 else 0)
  halves x =
      let one : tally x (block_numbers (first z)) ≡ (if nat_eq x z.s.block.number then 1 else 0) + (tally x (phi_numbers z.s.block.phis) + tally x (line_numbers z.s.before)) =
      one_block x z.s.block.number (first z).phis (first z).lines (first z) refl refl refl
      ∙ (λ i. (if nat_eq x z.s.block.number then 1 else 0) + (tally x (phi_numbers_same z.s.block.phis i) + tally x (line_numbers_same z.op z.s.before i))) in
      let two : tally x (block_numbers (second z)) ≡ (if nat_eq x (behind z) then 1 else 0) + (tally x (phi_numbers (second z).phis) + tally x (line_numbers z.s.after)) =
      one_block x (behind z) (second z).phis (second z).lines (second z) refl refl refl
      ∙ (λ i. (if nat_eq x (behind z) then 1 else 0) + (tally x (phi_numbers (second z).phis) + tally x (line_numbers_same z.op z.s.after i))) in
      let old : tally x (block_numbers z.s.block) ≡ (if nat_eq x z.s.block.number then 1 else 0) + (tally x (phi_numbers z.s.block.phis) + tally x (line_numbers (z.s.before ++ z.s.call ∷ z.s.after))) =
      one_block x z.s.block.number z.s.block.phis (z.s.before ++ z.s.call ∷ z.s.after) z.s.block refl refl z.lines in
      let parts = lines_parts z.s.before z.s.call z.s.after x in
      let result : tally x (phi_numbers (second z).phis) ≤ tally x (local_number z.s.call.local) = result_once x z.s.call.local z.callee.result (return_entries (copied_with z.op z.f z.callee z.arguments)) in
      omega (arith, one, two, old, parts, result)

  made_blocks : (x : ℕ) → tally x (blocks_numbers (made z).blocks)
      ≡ tally x (blocks_numbers z.s.front) + (tally x (block_numbers (first z)) + (tally x (map (new z) (blocks_numbers z.callee.blocks)) + (tally x (block_numbers (second z)) + tally x (blocks_numbers z.s.back))))
  made_blocks x =
      let a = tally_both x (blocks_numbers (map (outer z) z.s.front)) (blocks_numbers (first z ∷ (map (inner z) z.callee.blocks ++ second z ∷ map (outer z) z.s.back))) in
      let b = tally_both x (block_numbers (first z)) (blocks_numbers (map (inner z) z.callee.blocks ++ second z ∷ map (outer z) z.s.back)) in
      let c = tally_both x (blocks_numbers (map (inner z) z.callee.blocks)) (blocks_numbers (second z ∷ map (outer z) z.s.back)) in
      let d = tally_both x (block_numbers (second z)) (blocks_numbers (map (outer z) z.s.back)) in
      let split : tally x (blocks_numbers (made z).blocks) ≡ tally x (blocks_numbers (map (outer z) z.s.front) ++ blocks_numbers (first z ∷ (map (inner z) z.callee.blocks ++ second z ∷ map (outer z) z.s.back))) =
      ap (tally x) (numbers_both (map (outer z) z.s.front) (first z ∷ (map (inner z) z.callee.blocks ++ second z ∷ map (outer z) z.s.back))) in
      let more : tally x (blocks_numbers (map (inner z) z.callee.blocks ++ second z ∷ map (outer z) z.s.back)) ≡ tally x (blocks_numbers (map (inner z) z.callee.blocks) ++ blocks_numbers (second z ∷ map (outer z) z.s.back)) =
      ap (tally x) (numbers_both (map (inner z) z.callee.blocks) (second z ∷ map (outer z) z.s.back)) in
      let front : tally x (blocks_numbers (map (outer z) z.s.front)) ≡ tally x (blocks_numbers z.s.front) = ap (tally x) (outer_numbers z.s.front) in
      let back : tally x (blocks_numbers (map (outer z) z.s.back)) ≡ tally x (blocks_numbers z.s.back) = ap (tally x) (outer_numbers z.s.back) in
      let copy : tally x (blocks_numbers (map (inner z) z.callee.blocks)) ≡ tally x (map (new z) (blocks_numbers z.callee.blocks)) = ap (tally x) (inner_numbers z.callee.blocks) in
      omega (arith, a, b, c, d, split, more, front, back, copy)

  old_blocks : (x : ℕ) → tally x (blocks_numbers z.f.blocks) ≡ tally x (blocks_numbers z.s.front) + (tally x (block_numbers z.s.block) + tally x (blocks_numbers z.s.back))
  old_blocks x =
      let split : tally x (blocks_numbers z.f.blocks) ≡ tally x (blocks_numbers z.s.front ++ blocks_numbers (z.s.block ∷ z.s.back)) = ap (λ (bs : List Block). tally x (blocks_numbers bs)) z.blocks ∙ ap (tally x) (numbers_both z.s.front (z.s.block ∷ z.s.back)) in
      let a = tally_both x (blocks_numbers z.s.front) (blocks_numbers (z.s.block ∷ z.s.back)) in
      let b = tally_both x (block_numbers z.s.block) (blocks_numbers z.s.back) in
      omega (arith, split, a, b)

  -- a number of the copy, and the one behind it
  copied_once : (x : ℕ) → tally x (map (new z) (blocks_numbers z.callee.blocks)) + (if nat_eq x (behind z) then 1 else 0) ≤ 1
  copied_once x =
      let all : tally x (map (new z) (added z.callee)) ≤ 1 = once_under (new z) (copied_apart (first_free z.f) z.callee) (added z.callee) (once_added z.callee z.sound'.formed) x in
      let split : tally x (map (new z) (added z.callee)) ≡ tally x (map (new z) (blocks_numbers z.callee.blocks) ++ behind z ∷ []) = ap (tally x) (map-append (new z) (blocks_numbers z.callee.blocks) (first_free z.callee ∷ [])) in
      let both = tally_both x (map (new z) (blocks_numbers z.callee.blocks)) (behind z ∷ []) in
      omega (arith, all, split, both)

  abbrev given : Bool → ℕ
  given b = if b then 1 else 0

  none_copied : (x : ℕ) → x < first_free z.f → tally x (map (new z) (blocks_numbers z.callee.blocks)) + (if nat_eq x (behind z) then 1 else 0) ≡ 0
  none_copied x lt =
      let test : (if nat_eq x (behind z) then 1 else 0) ≡ 0 = ap (λ (b : Bool). given b) (ne_eqb x (behind z) (λ e. let past : first_free z.f ≤ behind z = behind_past in omega (arith, e, lt, past))) in
      let copy : tally x (map (new z) (blocks_numbers z.callee.blocks)) ≡ 0 = by (tally x (map (new z) (blocks_numbers z.callee.blocks))) refl in
      omega (arith, test, copy)
    where
      of : (y : ℕ) × (x ≡ new z y) → ⊥
      of (y, is) = let past : first_free z.f ≤ new z y = new_past y in omega (arith, past, is, lt)

      by : (k : ℕ) → tally x (map (new z) (blocks_numbers z.callee.blocks)) ≡ k → k ≡ 0
      by zero e = refl
      by (suc k) e = absurd (of (is_new (new z) (copied_apart (first_free z.f) z.callee) x (blocks_numbers z.callee.blocks) (omega (arith, e))))

  none_old : (x : ℕ) → first_free z.f ≤ x → tally x (param_numbers z.f.params) + tally x (blocks_numbers z.f.blocks) ≡ 0
  none_old x past = by (tally x (param_numbers z.f.params) + tally x (blocks_numbers z.f.blocks)) refl
    where
      by : (k : ℕ) → tally x (param_numbers z.f.params) + tally x (blocks_numbers z.f.blocks) ≡ k → k ≡ 0
      by zero e = refl
      by (suc k) e = let lt : x < first_free z.f = below_free z.f x (omega (arith, e)) in absurd (omega (arith, lt, past))

  pub once : (x : ℕ) → tally x (locals (made z)) + tally x (numbers (made z)) ≤ 1
  once x = by (cases_lt x (first_free z.f))
    where
      all : tally x (locals (made z)) + tally x (numbers (made z)) ≡ tally x (param_numbers z.f.params) + tally x (blocks_numbers (made z).blocks)
      all = total (made z) x

      by : (x < first_free z.f) ⊎ (first_free z.f ≤ x) → tally x (locals (made z)) + tally x (numbers (made z)) ≤ 1
      by (inl lt) =
          let a = made_blocks x in let b = old_blocks x in let c = halves x in let d = none_copied x lt in let e = once_all z.f z.sound.formed x in
          omega (arith, all, a, b, c, d, e)
      by (inr past) =
          let a = made_blocks x in let b = old_blocks x in let c = halves x in let d = copied_once x in let e = none_old x past in
          omega (arith, all, a, b, c, d, e)

  pub distinct : Distinct (locals (made z) ++ numbers (made z))
  distinct = distinct_by (locals (made z) ++ numbers (made z)) (λ x.
      let both : tally x (locals (made z) ++ numbers (made z)) ≡ tally x (locals (made z)) + tally x (numbers (made z)) = tally_both x (locals (made z)) (numbers (made z)) in
      let most : tally x (locals (made z)) + tally x (numbers (made z)) ≤ 1 = once x in
      omega (arith, both, most))

  pub local_once : (x : ℕ) → tally x (locals (made z)) ≤ 1
  local_once x = let most : tally x (locals (made z)) + tally x (numbers (made z)) ≤ 1 = once x in omega (arith, most)

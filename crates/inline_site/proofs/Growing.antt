-- What inlining gives uses the numbers up to the one behind the call.
use Rattle.std.proofs.Common.{◌≡◌, ℕ, suc, ◌+◌, ◌<◌, ◌≤◌, max, ◌==◌, nat_eq, Bool, true, false, List, [], ◌∷◌, ◌++◌, Option, Some, None, map, length, refl, sym, ◌∙◌, ap, arith, map-id, if◌then◌else◌}
use Rattle.std.proofs.lemmas.Bool.{eq-eqb, eqb-true}
use Rattle.std.proofs.lemmas.List.{length-append, map-append}
use Rattle.ir_tree.specs.Flow.{room}
use Rattle.ir_tree.specs.declared.block.Block.{Block}
use Rattle.ir_tree.specs.declared.function.Function.{Function}
use Rattle.ir_tree.specs.declared.instr.Incoming.{Incoming}
use Rattle.ir_tree.specs.declared.instr.Line.{Line}
use Rattle.ir_tree.specs.declared.instr.Phi.{Phi}
use Rattle.ir_tree.specs.declared.operand.Argument.{Argument}
use Rattle.ir_tree.specs.declared.operand.Operand.{Operand}
use Rattle.ir_tree.specs.declared.operand.Operand.TheVariants as operand
use Rattle.ir_tree.specs.declared.operand.Reg.{Reg}
use Rattle.ir_tree.specs.Edited.{block_edited}
use Rattle.ir_edit.specs.Numbered.{block_numbers, blocks_numbers, later_or, line_numbers, local_number, new_number, numbers_of, or_behind, param_numbers, phi_numbers, place_from}
use Rattle.ir_edit.specs.Substituted.{operand_replaced, replacement}
use Rattle.ir_edit.proofs.Tally.{tally, tally_both, tally_same}
use Rattle.inline_site.specs.Copies.{added, behind_call, copied, copied_number, copied_operand, first_free}
use Rattle.inline_site.specs.Inlined.{after_call, before_call, inlined, leading_to, named, phi_named, result_given, result_phis, return_entries, spliced}
use Rattle.inline_site.specs.Sites.{Site}
use Rattle.inline_site.proofs.Copied.{behind_is}
use Rattle.inline_site.proofs.Fresh.{line_numbers_new, numbers_both, phi_numbers_new}
use Rattle.inline_site.proofs.Rooms.{block_room, room_both}

-- ---- its numbers

bounded : (n : ℕ) (ys : List ℕ) (x k : ℕ) → place_from n ys x ≡ Some k → k < n + length ys
bounded n [] x k e = absurd cc
bounded n (y ∷ ys) x k e = by (place_from (n + 1) ys x) refl e (bounded (n + 1) ys x)
  where
    here : (b : Bool) → (if b then Some n else None) ≡ Some k → n ≡ k
    here true e = cc e
    here false e = absurd cc

    by : (o : Option ℕ) → place_from (n + 1) ys x ≡ o → later_or o (if (y == x) then Some n else None) ≡ Some k → ((j : ℕ) → place_from (n + 1) ys x ≡ Some j → j < (n + 1) + length ys) → k < n + length (y ∷ ys)
    by (Some j) is e more = let lt : k < (n + 1) + length ys = more k (is ∙ e) in omega (arith, lt)
    by None is e more = let same : n ≡ k = here (y == x) e in omega (arith, same)

absent : (n : ℕ) (ys : List ℕ) (x : ℕ) → place_from n ys x ≡ None → tally x ys ≡ 0
absent n [] x e = refl
absent n (y ∷ ys) x e = by (place_from (n + 1) ys x) refl e (absent (n + 1) ys x)
  where
    here : (b : Bool) → nat_eq x y ≡ b → (if (y == x) then Some n else None) ≡ None → ◌≡◌ {A = ℕ} (if b then 1 else 0) 0
    here true is e = let clash : Some n ≡ None = ap (λ (t : Bool). if t then Some n else None) (sym (eq-eqb y x (sym (eqb-true x y is)))) ∙ e in absurd (cc clash)
    here false is e = refl

    by : (o : Option ℕ) → place_from (n + 1) ys x ≡ o → later_or o (if (y == x) then Some n else None) ≡ None → (place_from (n + 1) ys x ≡ None → tally x ys ≡ 0) → (if nat_eq x y then 1 else 0) + tally x ys ≡ 0
    by (Some j) is e more = absurd (cc e)
    by None is e more = let one : ◌≡◌ {A = ℕ} (if nat_eq x y then 1 else 0) 0 = here (nat_eq x y) refl e in let rest : tally x ys ≡ 0 = more is in omega (arith, one, rest)

within : (ys : List ℕ) (x : ℕ) → 1 ≤ tally x ys → new_number ys x < length ys
unfolding new_number
within ys x some = by (place_from 0 ys x) refl
  where
    by : (o : Option ℕ) → place_from 0 ys x ≡ o → or_behind o (x + length ys) < length ys
    by (Some k) e = let lt : k < 0 + length ys = bounded 0 ys x k e in omega (arith, lt)
    by None e = let none : tally x ys ≡ 0 = absent 0 ys x e in absurd (omega (arith, none, some))

room_under : (number : ℕ → ℕ) (k : ℕ) (xs : List ℕ) → ((x : ℕ) → 1 ≤ tally x xs → number x < k) → room (map number xs) ≤ k
room_under number k [] h = omega arith
room_under number k (x ∷ xs) h =
    let more : room (map number xs) ≤ k = room_under number k xs (λ y some. h y (omega (arith, some))) in
    let one : 1 ≤ (if nat_eq x x then 1 else 0) = tally_same x x refl in
    let lt : number x < k = h x (omega (arith, one)) in
    omega (arith, more, lt)

-- the copy's numbers end before the one behind the call, and with it
copied_room : (free : ℕ) (callee : Function) → room (map (copied_number free callee) (blocks_numbers callee.blocks)) ≤ behind_call free callee + 1
copied_room free callee = room_under (copied_number free callee) (behind_call free callee + 1) (blocks_numbers callee.blocks) (λ x some.
    let both : tally x (added callee) ≡ tally x (blocks_numbers callee.blocks) + tally x (first_free callee ∷ []) = tally_both x (blocks_numbers callee.blocks) (first_free callee ∷ []) in
    let lt : new_number (added callee) x < length (added callee) = within (added callee) x (omega (arith, both, some)) in
    let many : length (added callee) ≡ length (blocks_numbers callee.blocks) + length (first_free callee ∷ []) = length-append (blocks_numbers callee.blocks) (first_free callee ∷ []) in
    let last : behind_call free callee ≡ length (blocks_numbers callee.blocks) + free = behind_is free callee in
    omega (arith, lt, many, last))

named_numbers : (block last : ℕ) (bs : List Block) → blocks_numbers (map (named block last) bs) ≡ blocks_numbers bs
unfolding block_numbers
named_numbers block last [] = refl
named_numbers block last (b ∷ bs) = λ i. (b.number ∷ (phis b.phis i ++ line_numbers b.lines)) ++ named_numbers block last bs i
  where
    phis : (ps : List Phi) → phi_numbers (map (phi_named block last) ps) ≡ phi_numbers ps
    phis [] = refl
    phis (p ∷ ps) = ap (λ (l : List ℕ). p.local ∷ l) (phis ps)

leading_numbers : (last : ℕ) (bs : List Block) → blocks_numbers (map (leading_to last) bs) ≡ blocks_numbers bs
unfolding block_numbers
leading_numbers last [] = refl
leading_numbers last (b ∷ bs) = ap (λ (l : List ℕ). (b.number ∷ (phi_numbers b.phis ++ line_numbers b.lines)) ++ l) (leading_numbers last bs)

copied_numbers : (number : ℕ → ℕ) (op : Operand → Operand) (bs : List Block) → blocks_numbers (map (block_edited number op) bs) ≡ map number (blocks_numbers bs)
unfolding block_numbers
copied_numbers number op [] = refl
copied_numbers number op (b ∷ bs) =
    (λ i. (number b.number ∷ (phi_numbers_new number op b.phis i ++ line_numbers_new number op b.lines i)) ++ copied_numbers number op bs i)
    ∙ (λ i. (number b.number ∷ sym (map-append number (phi_numbers b.phis) (line_numbers b.lines)) i) ++ map number (blocks_numbers bs))
    ∙ sym (map-append number (b.number ∷ (phi_numbers b.phis ++ line_numbers b.lines)) (blocks_numbers bs))

result_numbers : (l : Option ℕ) (r : Option Reg) (es : List Incoming) (f : Function) → numbers_of (result_given l r es f) ≡ numbers_of f
result_numbers None r es f = refl
result_numbers (Some x) None es f = refl
result_numbers (Some x) (Some reg) (e ∷ es) f = refl
result_numbers (Some x) (Some reg) [] f =
    λ i. param_numbers (map-id f.params i) ++ (copied_numbers (λ y. y) (operand_replaced (replacement ((x, operand.Poison reg) ∷ []))) f.blocks ∙ map-id (blocks_numbers f.blocks)) i

result_room : (l : Option ℕ) (r : Option Reg) (es : List Incoming) → room (phi_numbers (result_phis l r es)) ≤ room (local_number l)
result_room None r es = omega arith
result_room (Some y) None es = omega arith
result_room (Some y) (Some reg) [] = omega arith
result_room (Some y) (Some reg) (e ∷ es) = omega arith

lines_room : (xs : List Line) (l : Line) (ys : List Line) → room (line_numbers (xs ++ l ∷ ys)) ≡ max (room (line_numbers xs)) (max (room (local_number l.local)) (room (line_numbers ys)))
lines_room [] l ys = let both : room (local_number l.local ++ line_numbers ys) ≡ max (room (local_number l.local)) (room (line_numbers ys)) = room_both (local_number l.local) (line_numbers ys) in omega (arith, both)
lines_room (k ∷ xs) l ys =
    let more : room (line_numbers (xs ++ l ∷ ys)) ≡ max (room (line_numbers xs)) (max (room (local_number l.local)) (room (line_numbers ys))) = lines_room xs l ys in
    let left : room (local_number k.local ++ line_numbers (xs ++ l ∷ ys)) ≡ max (room (local_number k.local)) (room (line_numbers (xs ++ l ∷ ys))) = room_both (local_number k.local) (line_numbers (xs ++ l ∷ ys)) in
    let right : room (local_number k.local ++ line_numbers xs) ≡ max (room (local_number k.local)) (room (line_numbers xs)) = room_both (local_number k.local) (line_numbers xs) in
    omega (arith, more, left, right)

module _ (f callee : Function) (s : Site) (as' : List Argument) (blocks : f.blocks ≡ s.front ++ s.block ∷ s.back) (lines : s.block.lines ≡ s.before ++ s.call ∷ s.after) where
  abbrev last : ℕ
  last = behind_call (first_free f) callee

  abbrev inside : List Block
  inside = copied (first_free f) callee as'

  abbrev before : Block
  before = before_call s (behind_call (first_free f) callee) (copied (first_free f) callee as')

  abbrev after : Block
  after = after_call s callee.result (behind_call (first_free f) callee) (copied (first_free f) callee as')

  phis_same : (ps : List Phi) → phi_numbers (map (phi_named s.block.number last) ps) ≡ phi_numbers ps
  phis_same [] = refl
  phis_same (p ∷ ps) = ap (λ (l : List ℕ). p.local ∷ l) (phis_same ps)

  old_room : first_free f ≡ max (room (param_numbers f.params)) (max (room (blocks_numbers s.front)) (max (room (block_numbers s.block)) (room (blocks_numbers s.back))))
  old_room =
      let all : first_free f ≡ max (room (param_numbers f.params)) (room (blocks_numbers f.blocks)) = room_both (param_numbers f.params) (blocks_numbers f.blocks) in
      let split : room (blocks_numbers f.blocks) ≡ room (blocks_numbers s.front ++ blocks_numbers (s.block ∷ s.back)) = ap (λ (bs : List Block). room (blocks_numbers bs)) blocks ∙ ap room (numbers_both s.front (s.block ∷ s.back)) in
      let one : room (blocks_numbers s.front ++ blocks_numbers (s.block ∷ s.back)) ≡ max (room (blocks_numbers s.front)) (room (blocks_numbers (s.block ∷ s.back))) = room_both (blocks_numbers s.front) (blocks_numbers (s.block ∷ s.back)) in
      let two : room (blocks_numbers (s.block ∷ s.back)) ≡ max (room (block_numbers s.block)) (room (blocks_numbers s.back)) = room_both (block_numbers s.block) (blocks_numbers s.back) in
      omega (arith, all, split, one, two)

  halves_bounds : (room (block_numbers before) ≤ room (block_numbers s.block)) × (suc last ≤ room (block_numbers after)) × (room (block_numbers after) ≤ max (suc last) (room (block_numbers s.block)))
  halves_bounds = (
    omega (arith, old, one, parts),
    omega (arith, two),
    omega (arith, old, two, parts, result),
  )
    where
      old : room (block_numbers s.block) ≡ max (suc s.block.number) (max (room (phi_numbers s.block.phis)) (room (line_numbers (s.before ++ s.call ∷ s.after))))
      old = block_room s.block ∙ ap (λ (ls : List Line). max (suc s.block.number) (max (room (phi_numbers s.block.phis)) (room (line_numbers ls)))) lines

      one : room (block_numbers before) ≡ max (suc s.block.number) (max (room (phi_numbers s.block.phis)) (room (line_numbers s.before)))
      one = block_room before ∙ ap (λ (l : List ℕ). max (suc s.block.number) (max (room l) (room (line_numbers s.before)))) (phis_same s.block.phis)

      two : room (block_numbers after) ≡ max (suc last) (max (room (phi_numbers (result_phis s.call.local callee.result (return_entries inside)))) (room (line_numbers s.after)))
      two = block_room after

      parts : room (line_numbers (s.before ++ s.call ∷ s.after)) ≡ max (room (line_numbers s.before)) (max (room (local_number s.call.local)) (room (line_numbers s.after)))
      parts = lines_room s.before s.call s.after

      result : room (phi_numbers (result_phis s.call.local callee.result (return_entries inside))) ≤ room (local_number s.call.local)
      result = result_room s.call.local callee.result (return_entries inside)

  abbrev name' : Block → Block
  name' = named s.block.number (behind_call (first_free f) callee)

  abbrev tail : List Block
  tail = map (leading_to (behind_call (first_free f) callee)) (copied (first_free f) callee as') ++ after ∷ map (named s.block.number (behind_call (first_free f) callee)) s.back

  pub grown : first_free (inlined s callee as' f) ≡ last + 1
  grown = ap room (result_numbers s.call.local callee.result (return_entries inside) (spliced s callee.result last inside f)) ∙ all
    where
      all : first_free (spliced s callee.result last inside f) ≡ last + 1
      all =
          let a : first_free (spliced s callee.result last inside f) ≡ max (room (param_numbers f.params)) (room (blocks_numbers (map name' s.front ++ before ∷ tail))) = room_both (param_numbers f.params) (blocks_numbers (map name' s.front ++ before ∷ tail)) in
          let b : room (blocks_numbers (map name' s.front ++ before ∷ tail)) ≡ room (blocks_numbers (map name' s.front) ++ blocks_numbers (before ∷ tail)) = ap room (numbers_both (map name' s.front) (before ∷ tail)) in
          let c : room (blocks_numbers (map name' s.front) ++ blocks_numbers (before ∷ tail)) ≡ max (room (blocks_numbers (map name' s.front))) (room (blocks_numbers (before ∷ tail))) = room_both (blocks_numbers (map name' s.front)) (blocks_numbers (before ∷ tail)) in
          let d : room (blocks_numbers (before ∷ tail)) ≡ max (room (block_numbers before)) (room (blocks_numbers tail)) = room_both (block_numbers before) (blocks_numbers tail) in
          let e : room (blocks_numbers tail) ≡ room (blocks_numbers (map (leading_to last) inside) ++ blocks_numbers (after ∷ map name' s.back)) = ap room (numbers_both (map (leading_to last) inside) (after ∷ map name' s.back)) in
          let g : room (blocks_numbers (map (leading_to last) inside) ++ blocks_numbers (after ∷ map name' s.back)) ≡ max (room (blocks_numbers (map (leading_to last) inside))) (room (blocks_numbers (after ∷ map name' s.back))) = room_both (blocks_numbers (map (leading_to last) inside)) (blocks_numbers (after ∷ map name' s.back)) in
          let h : room (blocks_numbers (after ∷ map name' s.back)) ≡ max (room (block_numbers after)) (room (blocks_numbers (map name' s.back))) = room_both (block_numbers after) (blocks_numbers (map name' s.back)) in
          let front : room (blocks_numbers (map name' s.front)) ≡ room (blocks_numbers s.front) = ap room (named_numbers s.block.number last s.front) in
          let back : room (blocks_numbers (map name' s.back)) ≡ room (blocks_numbers s.back) = ap room (named_numbers s.block.number last s.back) in
          let copy' : room (blocks_numbers (map (leading_to last) inside)) ≡ room (map (copied_number (first_free f) callee) (blocks_numbers callee.blocks)) =
          ap room (leading_numbers last inside ∙ copied_numbers (copied_number (first_free f) callee) (copied_operand (first_free f) callee as') callee.blocks) in
          let within' : room (map (copied_number (first_free f) callee) (blocks_numbers callee.blocks)) ≤ last + 1 = copied_room (first_free f) callee in
          let old = old_room in
          let halves = halves_bounds in
          let past : last ≡ length (blocks_numbers callee.blocks) + first_free f = behind_is (first_free f) callee in
          omega (arith, a, b, c, d, e, g, h, front, back, copy', within', old, halves.0, halves.1, halves.2, past)

  -- what stands in the function is below its first free number
  block_old : room (block_numbers s.block) ≡ max (suc s.block.number) (max (room (phi_numbers s.block.phis)) (room (line_numbers (s.before ++ s.call ∷ s.after))))
  block_old = block_room s.block ∙ ap (λ (ls : List Line). max (suc s.block.number) (max (room (phi_numbers s.block.phis)) (room (line_numbers ls)))) lines

  pub old_number : s.block.number < first_free f
  old_number = omega (arith, old_room, block_old)

  pub old_local : (x : ℕ) → s.call.local ≡ Some x → x < first_free f
  old_local x e =
      let parts : room (line_numbers (s.before ++ s.call ∷ s.after)) ≡ max (room (line_numbers s.before)) (max (room (local_number s.call.local)) (room (line_numbers s.after))) = lines_room s.before s.call s.after in
      let here : room (local_number s.call.local) ≡ room (local_number (Some x)) = ap (λ (l : Option ℕ). room (local_number l)) e in
      omega (arith, old_room, block_old, parts, here)

-- A function that was numbered in the order of its text is numbered along its text.
use Rattle.std.proofs.Common.{◌≡◌, ℕ, suc, ◌+◌, Option, Some, None, option_map, List, [], ◌∷◌, ◌++◌, map, slice_get, refl, sym, ap, subst, ◌∙◌, arith}
use Rattle.std.proofs.lemmas.List.{map-append}
use Rattle.std.proofs.lemmas.Option.{slice_get-map}
use Rattle.ir_tree.specs.Edited.{block_edited, line_edited, operand_renamed, param_edited, phi_edited, renamed}
use Rattle.ir_edit.specs.InOrder.{TextOrderCounts}
use Rattle.ir_edit.specs.Numbered.{block_numbers, blocks_numbers, in_text_order, line_numbers, local_number, new_number, numbers_of, param_numbers, phi_numbers}
use Rattle.ir_tree.specs.Formed.{Formed}
use Rattle.ir_tree.specs.declared.block.Block.{Block}
use Rattle.ir_tree.specs.declared.function.Function.{Function}
use Rattle.ir_tree.specs.declared.function.Param.{Param}
use Rattle.ir_tree.specs.declared.instr.Line.{Line}
use Rattle.ir_tree.specs.declared.instr.Phi.{Phi}
use Rattle.ir_round_trip.specs.Bodies.{phi_as_line, stated}
use Rattle.ir_round_trip.specs.Sorts.{BlocksFollow, IsNumbered, LinesFollow, ParamsFollow, past, past_lines, past_params}

-- ---- the numbers of a function under other numbers

module _ (new : ℕ → ℕ) where
  params_under : (ps : List Param) → param_numbers (map (param_edited new) ps) ≡ map new (param_numbers ps)
  params_under [] = refl
  params_under (p ∷ ps) = ap (λ (l : List ℕ). new p.local ∷ l) (params_under ps)

  phis_under : (ps : List Phi) → phi_numbers (map (phi_edited new (operand_renamed new)) ps) ≡ map new (phi_numbers ps)
  phis_under [] = refl
  phis_under (p ∷ ps) = ap (λ (l : List ℕ). new p.local ∷ l) (phis_under ps)

  local_under : (o : Option ℕ) → local_number (option_map new o) ≡ map new (local_number o)
  local_under None = refl
  local_under (Some x) = refl

  lines_under : (ls : List Line) → line_numbers (map (line_edited new (operand_renamed new)) ls) ≡ map new (line_numbers ls)
  lines_under [] = refl
  lines_under (l ∷ ls) = (λ i. local_under l.local i ++ lines_under ls i) ∙ sym (map-append new (local_number l.local) (line_numbers ls))

  block_under : (b : Block) → block_numbers (block_edited new (operand_renamed new) b) ≡ map new (block_numbers b)
  unfolding block_numbers
  block_under b = ap (λ (l : List ℕ). new b.number ∷ l) ((λ i. phis_under b.phis i ++ lines_under b.lines i) ∙ sym (map-append new (phi_numbers b.phis) (line_numbers b.lines)))

  blocks_under : (bs : List Block) → blocks_numbers (map (block_edited new (operand_renamed new)) bs) ≡ map new (blocks_numbers bs)
  blocks_under [] = refl
  blocks_under (b ∷ bs) = (λ i. block_under b i ++ blocks_under bs i) ∙ sym (map-append new (block_numbers b) (blocks_numbers bs))

  numbers_under : (f : Function) → numbers_of (renamed new f) ≡ map new (numbers_of f)
  numbers_under f = (λ i. params_under f.params i ++ blocks_under f.blocks i) ∙ sym (map-append new (param_numbers f.params) (blocks_numbers f.blocks))

-- ---- numbers that count

-- they are n and those behind it
abbrev Rises : ℕ → List ℕ → Type 0
Rises n [] = Unit {0}
Rises n (x ∷ xs) = (x ≡ n) × Rises (n + 1) xs

rises : (n : ℕ) (xs : List ℕ) → ((i x : ℕ) → slice_get xs i ≡ Some x → x ≡ n + i) → Rises n xs
rises n [] h = tt
rises n (x ∷ xs) h =
    let here : x ≡ n + 0 = h 0 x refl in
    (omega (arith, here), rises (n + 1) xs (λ i y e. let there : y ≡ n + suc i = h (suc i) y e in omega (arith, there)))

params_rise : (n : ℕ) (ps : List Param) (rest : List ℕ) → Rises n (param_numbers ps ++ rest) → ParamsFollow n ps × Rises (past_params n ps) rest
params_rise n [] rest h = (tt, h)
params_rise n (p ∷ ps) rest h = let more = params_rise (n + 1) ps rest h.1 in ((h.0, more.0), more.1)

lines_rise : (n : ℕ) (ls : List Line) (rest : List ℕ) → Rises n (line_numbers ls ++ rest) → LinesFollow n ls × Rises (past_lines n ls) rest
lines_rise n [] rest h = (tt, h)
lines_rise n (l ∷ ls) rest h = by l.local (λ k g. lines_rise k ls rest g) h
  where
    by : (o : Option ℕ) → ((k : ℕ) → Rises k (line_numbers ls ++ rest) → LinesFollow k ls × Rises (past_lines k ls) rest) → Rises n ((local_number o ++ line_numbers ls) ++ rest)
        → LinesFollow n (record { local = o; instr = l.instr } ∷ ls) × Rises (past_lines (past n o) ls) rest
    by None go k = let more = go n k in ((tt, more.0), more.1)
    by (Some x) go k = let more = go (n + 1) k.1 in ((k.0, more.0), more.1)

stated_numbers : (ps : List Phi) (ls : List Line) → line_numbers (map phi_as_line ps ++ ls) ≡ phi_numbers ps ++ line_numbers ls
stated_numbers [] ls = refl
stated_numbers (p ∷ ps) ls = ap (λ (l : List ℕ). p.local ∷ l) (stated_numbers ps ls)

blocks_rise : (n : ℕ) (bs : List Block) → Rises n (blocks_numbers bs) → BlocksFollow n bs
unfolding block_numbers
blocks_rise n [] h = tt
blocks_rise n (b ∷ bs) h =
    let more = lines_rise (n + 1) (stated b) (blocks_numbers bs) (subst (λ (l : List ℕ). Rises (n + 1) (l ++ blocks_numbers bs)) (sym (stated_numbers b.phis b.lines)) h.1) in
    ((h.0, more.0), blocks_rise (past_lines (n + 1) (stated b)) bs more.1)

-- ---- functions

counted : TextOrderCounts → (f : Function) → Formed f → (i y : ℕ) → slice_get (numbers_of (in_text_order f)) i ≡ Some y → y ≡ i
counted counts f formed i y e = by (slice_get (numbers_of f) i) refl
  where
    same : slice_get (numbers_of (in_text_order f)) i ≡ option_map (new_number (numbers_of f)) (slice_get (numbers_of f) i)
    same = ap (λ (l : List ℕ). slice_get l i) (numbers_under (new_number (numbers_of f)) f) ∙ slice_get-map (new_number (numbers_of f)) (numbers_of f) i

    by : (o : Option ℕ) → slice_get (numbers_of f) i ≡ o → y ≡ i
    by (Some x) at = let both : Some y ≡ Some i = sym e ∙ counts f formed i x at in cc both
    by None at = let none : Some y ≡ None = sym e ∙ same ∙ ap (option_map (new_number (numbers_of f))) at in absurd (cc none)

pub text_order_is_numbered : TextOrderCounts → (f : Function) → Formed f → IsNumbered (in_text_order f)
text_order_is_numbered counts f formed =
    let g = in_text_order f in
    let all = rises 0 (numbers_of g) (λ i y e. let at : y ≡ i = counted counts f formed i y e in omega (arith, at)) in
    let parts = params_rise 0 g.params (blocks_numbers g.blocks) all in
    (parts.0, blocks_rise (past_params 0 g.params) g.blocks parts.1)

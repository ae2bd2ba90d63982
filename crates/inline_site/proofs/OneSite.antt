-- One site stands at a place, and one call at a site: so what inlining gives is one function.
use Rattle.std.proofs.Common.{◌≡◌, ℕ, ◌+◌, ◌≤◌, List, [], ◌∷◌, ◌++◌, length, sym, ◌∙◌, ap, ap₂, refl, arith}
use Rattle.ir_tree.specs.declared.block.Block.{Block}
use Rattle.ir_tree.specs.declared.function.Function.{Function}
use Rattle.ir_tree.specs.declared.instr.Instr.{Instr}
use Rattle.ir_tree.specs.declared.instr.Instr.TheVariants.{Call}
use Rattle.ir_tree.specs.declared.instr.Line.{Line}
use Rattle.ir_tree.specs.declared.operand.Argument.{Argument}
use Rattle.ir_tree.specs.declared.operand.Operand.TheVariants.{Symbol as Named}
use Rattle.ir_meaning.specs.Program.{counted}
use Rattle.inline_site.specs.Inlined.{inlined}
use Rattle.inline_site.specs.Laws.{InlinedIsOne}
use Rattle.inline_site.specs.Sites.{IsCallOf, Site, StandsAt, counted_in}
use Rattle.inline_site.proofs.Standing.{within}

-- ---- lists about one of their elements

same_lines : (before before' after after' : List Line) (call call' : Line) → before ++ call ∷ after ≡ before' ++ call' ∷ after' → length before ≡ length before'
    → (before ≡ before') × (call ≡ call') × (after ≡ after')
same_lines [] [] after after' call call' e many = (refl, cc e, cc e)
same_lines [] (x ∷ before') after after' call call' e many = absurd (omega (arith, many))
same_lines (x ∷ before) [] after after' call call' e many = absurd (omega (arith, many))
same_lines (x ∷ before) (y ∷ before') after after' call call' e many =
    let rest = same_lines before before' after after' call call' (cc e) (omega (arith, many)) in
    let first : x ≡ y = cc e in
    ((λ i. first i ∷ rest.0 i), rest.1, rest.2)

-- two blocks up to which one place reaches are one
same_blocks : (front front' back back' : List Block) (b c : Block) (k l : ℕ) → front ++ b ∷ back ≡ front' ++ c ∷ back' → counted_in front + k ≡ counted_in front' + l
    → 1 ≤ k → k ≤ counted b → 1 ≤ l → l ≤ counted c → (front ≡ front') × (b ≡ c) × (back ≡ back')
same_blocks [] [] back back' b c k l e place some most some' most' = (refl, cc e, cc e)
same_blocks [] (y ∷ front') back back' b c k l e place some most some' most' =
    let same : b ≡ y = cc e in
    let many : counted b ≡ counted y = ap counted same in
    absurd (omega (arith, place, most, many, some'))
same_blocks (x ∷ front) [] back back' b c k l e place some most some' most' =
    let same : x ≡ c = cc e in
    let many : counted x ≡ counted c = ap counted same in
    absurd (omega (arith, place, most', many, some))
same_blocks (x ∷ front) (y ∷ front') back back' b c k l e place some most some' most' =
    let first : x ≡ y = cc e in
    let many : counted x ≡ counted y = ap counted first in
    let rest = same_blocks front front' back back' b c k l (cc e) (omega (arith, place, many)) some most some' most' in
    ((λ i. first i ∷ rest.0 i), rest.1, rest.2)

-- ---- the site

pub one_site : (bs : List Block) (place : ℕ) (s t : Site) → StandsAt bs place s → StandsAt bs place t → s ≡ t
one_site bs place s t h g = λ i. record { front = blocks.0 i; block = blocks.1 i; back = blocks.2 i; before = lines.0 i; call = lines.1 i; after = lines.2 i }
  where
    in_s : length s.before + 1 ≤ length s.block.lines
    in_s = within s.block s.before s.after s.call h.lines

    in_t : length t.before + 1 ≤ length t.block.lines
    in_t = within t.block t.before t.after t.call g.lines

    blocks : (s.front ≡ t.front) × (s.block ≡ t.block) × (s.back ≡ t.back)
    blocks =
        let place_s : place ≡ counted_in s.front + (length s.block.phis + (length s.before + 1)) = h.counts in
        let place_t : place ≡ counted_in t.front + (length t.block.phis + (length t.before + 1)) = g.counts in
        same_blocks s.front t.front s.back t.back s.block t.block (length s.block.phis + (length s.before + 1)) (length t.block.phis + (length t.before + 1)) (sym h.blocks ∙ g.blocks)
        (omega (arith, place_s, place_t)) (omega arith) (omega (arith, in_s)) (omega arith) (omega (arith, in_t))

    lines : (s.before ≡ t.before) × (s.call ≡ t.call) × (s.after ≡ t.after)
    lines =
        let place_s : place ≡ counted_in s.front + (length s.block.phis + (length s.before + 1)) = h.counts in
        let place_t : place ≡ counted_in t.front + (length t.block.phis + (length t.before + 1)) = g.counts in
        let fronts : counted_in s.front ≡ counted_in t.front = ap counted_in blocks.0 in
        let phis : length s.block.phis ≡ length t.block.phis = ap (λ (b : Block). length b.phis) blocks.1 in
        same_lines s.before t.before s.after t.after s.call t.call (sym h.lines ∙ ap (λ (b : Block). b.lines) blocks.1 ∙ g.lines) (omega (arith, place_s, place_t, fronts, phis))

-- ---- the call

one_call : (callee : Function) (instr instr' : Instr) (as' bs : List Argument) → instr ≡ instr' → IsCallOf callee instr as' → IsCallOf callee instr' bs → as' ≡ bs
one_call callee instr instr' as' bs e a b =
    let same : Call callee.result (Named callee.symbol 0) as' ≡ Call callee.result (Named callee.symbol 0) bs = sym a.direct ∙ e ∙ b.direct in
    cc same

pub is_one : InlinedIsOne
is_one f callee g h place (some, s, as', stands, call, is) (some', t, bs, stands', call', is') =
    let site : s ≡ t = one_site f.blocks place s t stands stands' in
    let arguments : as' ≡ bs = one_call callee s.call.instr t.call.instr as' bs (ap (λ (u : Site). u.call.instr) site) call call' in
    is ∙ ap₂ (λ (u : Site) (l : List Argument). inlined u callee l f) site arguments ∙ sym is'

-- The callee of a call that takes a body, and the places of calls.
use Rattle.std.proofs.Common.{◌≡◌, ◌∙◌, ◌≤◌, ◌+◌, ℕ, List, [], ◌∷◌, ◌++◌, Option, Some, None, ap, sym, arith, length}
use Rattle.ir_tree.specs.declared.block.Block.{Block}
use Rattle.ir_tree.specs.declared.function.Function.{Function}
use Rattle.ir_tree.specs.declared.instr.Instr.{Instr}
use Rattle.ir_tree.specs.declared.operand.Symbol.{Symbol}
use Rattle.ir_meaning.specs.Program.{counted}
use Rattle.inline_site.specs.Sites.{Site, StandsAt, counted_in}
use Rattle.inline_site.proofs.Standing.{within}
use Rattle.back_end.specs.Inlinable.{callee_of}
use Rattle.back_end.specs.Walk.{Takes}

-- ---- the callee

pub none_called : (bodies : List ℕ → Option Function) (symbol : Symbol) (room : ℕ) (instr : Instr) (c : Function) → callee_of instr ≡ None → Takes bodies symbol room instr c → ⊥
none_called bodies symbol room instr c none takes = let clash : None ≡ Some c.symbol = sym none ∙ ap callee_of takes.call.direct in cc clash

pub named_callee : (bodies : List ℕ → Option Function) (symbol : Symbol) (room : ℕ) (instr : Instr) (s : Symbol) (c : Function) → callee_of instr ≡ Some s → Takes bodies symbol room instr c
    → bodies s.name ≡ Some c
named_callee bodies symbol room instr s c is takes =
    let same : Some s ≡ Some c.symbol = sym is ∙ ap callee_of takes.call.direct in
    let symbol' : s ≡ c.symbol = cc same in
    ap (λ (t : Symbol). bodies t.name) symbol' ∙ takes.body

-- the one that is found
pub one_callee : (bodies : List ℕ → Option Function) (symbol : Symbol) (room : ℕ) (instr : Instr) (s : Symbol) (c d : Function) → callee_of instr ≡ Some s → bodies s.name ≡ Some c
    → Takes bodies symbol room instr d → d ≡ c
one_callee bodies symbol room instr s c d is found takes = let same : Some d ≡ Some c = sym (named_callee bodies symbol room instr s d is takes) ∙ found in cc same

-- ---- places

pub counted_both : (xs ys : List Block) (b : Block) → counted_in (xs ++ b ∷ ys) ≡ counted_in xs + (counted b + counted_in ys)
counted_both [] ys b = omega arith
counted_both (x ∷ xs) ys b = let rest : counted_in (xs ++ b ∷ ys) ≡ counted_in xs + (counted b + counted_in ys) = counted_both xs ys b in omega (arith, rest)

-- an instruction stands among the phis, instructions and terminators
pub place_within : (bs : List Block) (place : ℕ) (s : Site) → StandsAt bs place s → place ≤ counted_in bs
place_within bs place s h =
    let all : counted_in bs ≡ counted_in (s.front ++ s.block ∷ s.back) = ap counted_in h.blocks in
    let both : counted_in (s.front ++ s.block ∷ s.back) ≡ counted_in s.front + (counted s.block + counted_in s.back) = counted_both s.front s.back s.block in
    let line : length s.before + 1 ≤ length s.block.lines = within s.block s.before s.after s.call h.lines in
    let here : place ≡ counted_in s.front + (length s.block.phis + (length s.before + 1)) = h.counts in
    omega (arith, all, both, line, here)

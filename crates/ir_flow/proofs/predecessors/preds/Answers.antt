use Rattle.std.proofs.Common.{◌≡◌, ◌∙◌, ◌<◌, ◌^◌, ℕ, List, length, map, get_or, ap, subst, arith}
use Rattle.std.proofs.lemmas.Result.{IfOk-weaker}
use Rattle.ir_tree.specs.declared.block.Block.{Block}
use Rattle.ir_tree.specs.Flow.{successors}
use Rattle.ir_flow.specs.Graph.{row, IsInverse}
use Rattle.ir_flow.specs.OfFunction.{IsGraphOf}
use Rattle.ir_flow.proofs.GraphOf.{graph_of}
use Rattle.ir_flow.proofs.predecessors.preds.Goals as goal

pub returns : goal.returns
returns c =
    let blocks : List Block = c.args.function.now.blocks in
    let numbers : List ℕ = c.in_ok-numbers.numbers.items in
    let given : c.as_slice-blocks.result.now ≡ blocks = c.as_slice-blocks.ensures in
    let limit : ℕ = c.limit_of-limit.result in
    let is : numbers ≡ map (λ b. b.number) blocks = c.in_ok-numbers.ensures ∙ ap (map (λ (b : Block). b.number)) given in
    let below : (k : ℕ) → k < length numbers → get_or numbers k 0 < limit = subst (λ (ns : List ℕ). (k : ℕ) → k < length ns → get_or ns k 0 < limit) c.deref.ensures.value c.limit_of-limit.ensures in
    let targeted = c.in_ok-target_numbers.ensures ∙ ap (map (λ (b : Block). successors b.end)) given in
    let short : length blocks < 2 ^ 32 = omega (arith, ap length given) in
    IfOk-weaker c.picked.result _ (λ e. IsGraphOf c.args.function.now e)
    (λ e made. graph_of c.args.function.now numbers c.in_ok-by_number.by_number e limit is below
    (subst (λ (g : List (List ℕ)). IsInverse g limit c.in_ok-by_number.by_number) targeted c.in_ok-by_number.ensures)
    (made ∙ ap (map (row c.in_ok-by_number.by_number)) c.deref-2.ensures.value) short)
    c.picked.ensures

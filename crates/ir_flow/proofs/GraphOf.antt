-- Rows that are gathered by number are a function's predecessor edges.
use Rattle.std.proofs.Common.{◌≡◌, ℕ, zero, suc, ◌<◌, ◌^◌, List, [], ◌∷◌, ◌++◌, length, map, get_or, Some, refl, sym, ap, ◌∙◌, arith}
use Rattle.std.specs.Prelude.{slice_get}
use Rattle.std.proofs.lemmas.List.{get_or-map, length-map}
use Rattle.std.proofs.lemmas.Option.{get_or_from_slice_get}
use Rattle.ir_tree.specs.declared.block.Block.{Block}
use Rattle.ir_tree.specs.declared.function.Function.{Function}
use Rattle.ir_tree.specs.Flow.{successors, repeated, leading, leading_to}
use Rattle.ir_flow.specs.Graph.{row, gathered, IsInverse}
use Rattle.ir_flow.specs.OfFunction.{IsGraphOf}

pub gathered-leading : (k p : ℕ) (bs : List Block) → gathered k p (map (λ b. successors b.end) bs) ≡ leading k p bs
gathered-leading k p [] = refl
gathered-leading k p (b ∷ bs) = ap (λ xs. repeated p k (successors b.end) ++ xs) (gathered-leading k (suc p) bs)

some_at : {X : Type 0} (xs : List X) (b : ℕ) → b < length xs → (x : X) × (slice_get xs b ≡ Some x)
some_at [] b h = absurd (omega arith)
some_at (x ∷ xs) zero h = (x, refl)
some_at (x ∷ xs) (suc b) h = let k : b < length xs = omega arith in some_at xs b k

pub graph_of : (f : Function) (numbers : List ℕ) (turned graph : List (List ℕ)) (limit : ℕ) → numbers ≡ map (λ b. b.number) f.blocks
    → ((k : ℕ) → k < length numbers → get_or numbers k 0 < limit) → IsInverse (map (λ b. successors b.end) f.blocks) limit turned
    → graph ≡ map (row turned) numbers → length f.blocks < 2 ^ 32 → IsGraphOf f graph
graph_of f numbers turned graph limit is below inverse made short =
    let count : length numbers ≡ length f.blocks = ap length is ∙ length-map f.blocks _ in
    let long : length graph ≡ length f.blocks = ap length made ∙ length-map numbers (row turned) ∙ count in
    record {
      long = long;
      short = omega arith;
      same = λ b h.
          let found = some_at f.blocks b h in
          let block : Block = found.0 in
          let inside : b < length numbers = omega arith in
          let number : get_or numbers b 0 ≡ block.number =
          ap (λ xs. get_or xs b 0) is ∙ get_or-map (λ (x : Block). x.number) f.blocks b block 0 h ∙ ap (λ (x : Block). x.number) (get_or_from_slice_get f.blocks b block block found.1) in
          ap (λ g. row g b) made
          ∙ get_or-map (row turned) numbers b 0 [] inside
          ∙ inverse.1 (get_or numbers b 0) (below b inside)
          ∙ gathered-leading (get_or numbers b 0) 0 f.blocks
          ∙ ap (λ n. leading n 0 f.blocks) number
          ∙ sym (ap (leading_to f.blocks) found.1);
    }

-- How often a number stands in a list, and the blocks that phi entries name.
use Rattle.std.specs.Prelude.{ℕ, suc, nat_eq, if◌then◌else◌, List, [], ◌∷◌, map}
use Rattle.ir_tree.specs.declared.instr.Incoming.{Incoming}

abbrev pub times : ℕ → List ℕ → ℕ
times n [] = 0
times n (x ∷ xs) = if nat_eq x n then suc (times n xs) else times n xs

abbrev pub sources : List Incoming → List ℕ
sources es = map (λ e. e.from) es

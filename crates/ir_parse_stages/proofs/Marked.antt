-- The graph of type names.
use Rattle.std.proofs.Common.{◌≡◌, refl, sym, ap, ◌∙◌, ℕ, zero, suc, ◌+◌, ◌<◌, List, [], ◌∷◌, ◌++◌, length, drop, arith, append_assoc}
use Rattle.ir_parse_names.specs.TypeNames.{places, uses_in, graph_from}
use Rattle.ir_parse_names.specs.Types.{Types, shape_at}
use Rattle.ir_parse_names.specs.Walks.{Graph}

rows : (all types : Types) (p : ℕ) → p < length types → graph_from all (drop p types) ≡ places all (uses_in (shape_at types p)) ∷ graph_from all (drop (suc p) types)
rows all [] p lt = absurd (omega (arith, lt))
rows all (d ∷ ds) zero lt = refl
rows all (d ∷ ds) (suc p) lt = rows all ds p (omega (arith, lt))

-- one more row
pub row_more : (types : Types) (p : ℕ) (now next whole : Graph) (row : List ℕ) → p < length types → row ≡ places types (uses_in (shape_at types p)) → next ≡ now ++ row ∷ []
    → now ++ graph_from types (drop p types) ≡ whole → next ++ graph_from types (drop (p + 1) types) ≡ whole
row_more types p now next whole row lt is e h =
    let one : suc p ≡ p + 1 = omega arith in
    let left = graph_from types (drop (p + 1) types) in
    ap (λ g. g ++ left) e ∙ append_assoc now (row ∷ []) left ∙ ap (λ (r : List ℕ). now ++ (r ∷ left)) is
    ∙ ap (λ (g : Graph). now ++ g) (sym (rows types types p lt ∙ ap (λ k. places types (uses_in (shape_at types p)) ∷ graph_from types (drop k types)) one)) ∙ h

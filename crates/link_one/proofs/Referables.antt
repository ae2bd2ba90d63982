-- The names by which others may refer to values, one value further.
use Rattle.std.proofs.Common.{◌≡◌, ◌∙◌, not, ℕ, Bor, Bool, true, false, cond, List, [], ◌∷◌, ◌++◌, ap, refl, filter, map}
use Rattle.std.proofs.lemmas.List.{map-append}
use Rattle.ir_tree.specs.Linkages.{is_local}
use Rattle.ir_tree.specs.declared.module.GlobalValue.{GlobalValue}
use Rattle.ir_meaning.specs.Programs.{symbol_of}
use Rattle.importer.specs.Tables.{values}
use Rattle.importer.proofs.Gathering.{Joins}
use Rattle.link_one.specs.Units.{linkage_in, shown}

shown_append : (xs ys : List GlobalValue) → shown (xs ++ ys) ≡ (shown xs ++ shown ys)
shown_append [] ys = refl
shown_append (x ∷ xs) ys = by (not (is_local (linkage_in x))) (shown_append xs ys)
  where
    by : (b : Bool) → shown (xs ++ ys) ≡ (shown xs ++ shown ys)
        → map (λ g. (symbol_of g).name) (cond b (x ∷ filter (λ g. not (is_local (linkage_in g))) (xs ++ ys)) (filter (λ g. not (is_local (linkage_in g))) (xs ++ ys)))
        ≡ (map (λ g. (symbol_of g).name) (cond b (x ∷ filter (λ g. not (is_local (linkage_in g))) xs) (filter (λ g. not (is_local (linkage_in g))) xs)) ++ shown ys)
    by true e = ap (λ (l : List (List ℕ)). (symbol_of x).name ∷ l) e
    by false e = e

-- so of borrowed values
pub shown_of_values : Joins (λ (gs : List (Bor GlobalValue)). shown (values gs))
shown_of_values xs ys = ap shown (map-append (λ (g : Bor GlobalValue). g.now) xs ys) ∙ shown_append (values xs) (values ys)

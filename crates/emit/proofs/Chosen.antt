-- Pieces by their marks.
use Rattle.std.proofs.Common.{◌≡◌, Bool, true, false, cond, if◌then◌else◌, List, [], ◌∷◌, ◌++◌, length, map, filter, get_or, refl, ap}
use Rattle.lto_task.specs.declared.piece.Piece.{Piece}
use Rattle.emit.specs.Strips.{chosen}

-- one piece further
pub chosen_more : (ps : List Piece) (marks : List Bool) (p : Piece)
    → chosen (ps ++ p ∷ []) marks ≡ chosen ps marks ++ (if get_or marks (length ps) false then p ∷ [] else [])
chosen_more [] [] p = refl
chosen_more [] (mark ∷ marks) p = by mark marks
  where
    by : (b : Bool) (ms : List Bool) → chosen (p ∷ []) (b ∷ ms) ≡ (if b then p ∷ [] else [])
    by true ms = refl
    by false ms = refl
chosen_more (q ∷ ps) [] p = refl
chosen_more (q ∷ ps) (mark ∷ marks) p = by mark (chosen_more ps marks p)
  where
    by : (b : Bool) → chosen (ps ++ p ∷ []) marks ≡ chosen ps marks ++ (if get_or marks (length ps) false then p ∷ [] else [])
        → cond b (q ∷ chosen (ps ++ p ∷ []) marks) (chosen (ps ++ p ∷ []) marks) ≡ cond b (q ∷ chosen ps marks) (chosen ps marks) ++ (if get_or marks (length ps) false then p ∷ [] else [])
    by true e = ap (λ (l : List Piece). q ∷ l) e
    by false e = e

-- marks by a test choose what passes it
pub chosen_passes : (p : Piece → Bool) (ps : List Piece) → chosen ps (map p ps) ≡ filter p ps
chosen_passes p [] = refl
chosen_passes p (q ∷ ps) = by (p q) (chosen_passes p ps)
  where
    by : (b : Bool) → chosen ps (map p ps) ≡ filter p ps → cond b (q ∷ chosen ps (map p ps)) (chosen ps (map p ps)) ≡ cond b (q ∷ filter p ps) (filter p ps)
    by true e = ap (λ (l : List Piece). q ∷ l) e
    by false e = e

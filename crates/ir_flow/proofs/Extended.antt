-- Rows over a flat list that grows.
use Rattle.std.proofs.Common.{◌≡◌, ℕ, suc, subst, ◌-◌, ◌<◌, ◌≤◌, List, [], ◌∷◌, ◌++◌, length, take, drop, map, get_or, refl, sym, ap, ◌∙◌, arith, length-append, length-drop}
use Rattle.std.proofs.lemmas.List.{drop-append-le, take-append-le, drop_at, take_all, map_push, get_or-map, get_or_default}
use Rattle.std.proofs.lemmas.List.Elements.{All-head, All-tail, All-weaker, All-push, All-map}
use Rattle.ir_flow.specs.declared.graph.Extent.{Extent}
use Rattle.ir_flow.specs.Extents.{rows_of, AreWithin}
use Rattle.ir_flow.specs.Graph.{row}

abbrev Within : ℕ → Extent → Type 0
Within n r = (r.start ≤ r.end) × (r.end ≤ n)

range-more : (flat more : List ℕ) (s e : ℕ) → s ≤ e → e ≤ length flat → take (e - s) (drop s (flat ++ more)) ≡ take (e - s) (drop s flat)
range-more flat more s e h k =
    let first : s ≤ length flat = omega arith in
    let rest : e - s ≤ length (drop s flat) = omega (arith, length-drop s flat) in
    ap (take (e - s)) (drop-append-le s flat more first) ∙ take-append-le (e - s) (drop s flat) more rest

pub rows-more : (flat more : List ℕ) (rows : List Extent) → AreWithin (length flat) rows → rows_of (flat ++ more) rows ≡ rows_of flat rows
rows-more flat more [] w = refl
rows-more flat more (r ∷ rs) w =
    let h = All-head (Within (length flat)) r rs w in
    ap (λ xs. xs ∷ rows_of (flat ++ more) rs) (range-more flat more r.start r.end h.0 h.1)
    ∙ ap (λ xss. take (r.end - r.start) (drop r.start flat) ∷ xss) (rows-more flat more rs (All-tail (Within (length flat)) r rs w))

pub within-more : (flat more : List ℕ) (rows : List Extent) → AreWithin (length flat) rows → AreWithin (length (flat ++ more)) rows
within-more flat more rows w =
    All-weaker (Within (length flat)) (Within (length (flat ++ more))) (λ r h. (h.0, omega (arith, h.1, length-append flat more))) rows w

pub within-push : (flat more : List ℕ) (rows : List Extent) (r : Extent) → r.start ≡ length flat → r.end ≡ length (flat ++ more) → AreWithin (length flat) rows → AreWithin (length (flat ++ more)) (rows ++ r ∷ [])
within-push flat more rows r s e w =
    All-push (Within (length (flat ++ more))) rows r (within-more flat more rows w) (omega (arith, s, e, length-append flat more), omega (arith, e))

pub rows-push : (flat more : List ℕ) (rows : List Extent) (r : Extent) → r.start ≡ length flat → r.end ≡ length (flat ++ more) → AreWithin (length flat) rows → rows_of (flat ++ more) (rows ++ r ∷ []) ≡ rows_of flat rows ++ more ∷ []
rows-push flat more rows r s e w =
    let all : length more ≤ r.end - r.start = omega (arith, s, e, length-append flat more) in
    map_push (λ (x : Extent). take (x.end - x.start) (drop x.start (flat ++ more))) rows r
    ∙ ap (λ xss. xss ++ take (r.end - r.start) (drop r.start (flat ++ more)) ∷ []) (rows-more flat more rows w)
    ∙ ap (λ xs. rows_of flat rows ++ take (r.end - r.start) xs ∷ []) (drop_at flat more r.start (sym s))
    ∙ ap (λ xs. rows_of flat rows ++ xs ∷ []) (take_all (r.end - r.start) more all)

pub row_is : (flat : List ℕ) (rows : List Extent) (k : ℕ) (r : Extent) → k < length rows → r ≡ get_or rows k r → row (rows_of flat rows) k ≡ take (r.end - r.start) (drop r.start flat)
row_is flat rows k r h e =
    get_or-map (λ (x : Extent). take (x.end - x.start) (drop x.start flat)) rows k r [] h
    ∙ ap (λ (x : Extent). take (x.end - x.start) (drop x.start flat)) (sym e)

-- rows that are picked by place stand inside too, and are the rows at these places
pub picked-within : (n : ℕ) (rows : List Extent) (places : List ℕ) (d : Extent) → AreWithin n rows → ((k : ℕ) → k < length places → get_or places k 0 < length rows) → AreWithin n (map (λ k. get_or rows k d) places)
picked-within n rows places d w below =
    All-map (Within n) (λ k. get_or rows k d) places
    (λ k e h. w (get_or places k e) d (subst (λ (x : ℕ). x < length rows) (get_or_default places k 0 e h) (below k h)))

pub picked-rows : (flat : List ℕ) (rows : List Extent) (places : List ℕ) (d : Extent) → ((k : ℕ) → k < length places → get_or places k 0 < length rows) → rows_of flat (map (λ k. get_or rows k d) places) ≡ map (row (rows_of flat rows)) places
picked-rows flat rows [] d below = refl
picked-rows flat rows (p ∷ ps) d below =
    let first : p < length rows = below 0 (omega arith) in
    ap (λ (xs : List ℕ). xs ∷ rows_of flat (map (λ k. get_or rows k d) ps)) (sym (get_or-map (λ (x : Extent). take (x.end - x.start) (drop x.start flat)) rows p d [] first))
    ∙ ap (λ (xss : List (List ℕ)). row (rows_of flat rows) p ∷ xss) (picked-rows flat rows ps d (λ k h. below (suc k) (omega arith)))

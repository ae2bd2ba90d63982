use Rattle.std.proofs.Common.{◌≡◌, ◌∙◌, ◌<◌, ◌++◌, ◌∷◌, [], ℕ, List, length, map, take, get_or, ap, sym, subst, arith}
use Rattle.std.proofs.lemmas.List.{get_or_read, map_more, take_all, length-map}
use Rattle.ir_flow.specs.declared.graph.Extent.{Extent}
use Rattle.ir_flow.specs.Extents.{AreWithin, rows_of}
use Rattle.ir_flow.specs.Graph.{row}
use Rattle.ir_flow.proofs.Extended.{picked-within, picked-rows}
use Rattle.ir_flow.proofs.graph.Edges.picked.Goals as goal

pub loop-place-preserved : goal.loop-place-preserved
loop-place-preserved c d =
    let rows : List Extent = c.self.inside.rows.items in
    let places : List ℕ = c.args.places.now in
    let i : ℕ = c.loop-place.place-index in
    let k : ℕ = get_or places i 0 in
    let inside : i < length places = omega arith in
    let long : length rows ≡ length c.args.self = sym (length-map rows _) ∙ ap length c.self.view_is in
    let below : k < length rows = omega (arith, long, c.requires i inside) in
    let read : c.index.result.now ≡ get_or rows k d = get_or_read rows k c.index.result.now below c.index.ensures d in
    c.in_ok-push.ensures.items
    ∙ ap (λ (xs : List Extent). xs ++ c.index.result.now ∷ []) (c.loop-place.invariant d)
    ∙ ap (λ (x : Extent). map (λ j. get_or rows j d) (take i places) ++ x ∷ []) read
    ∙ sym (map_more (λ j. get_or rows j d) places i 0 inside)

pub invariant_of-result : goal.invariant_of-result
invariant_of-result c =
    let rows : List Extent = c.self.inside.rows.items in
    let places : List ℕ = c.args.places.now in
    let d : Extent = record { start = 0; end = 0 } in
    let all : take c.loop-place.place-index places ≡ places = take_all c.loop-place.place-index places (omega arith) in
    let long : length rows ≡ length c.args.self = sym (length-map rows _) ∙ ap length c.self.view_is in
    let made : c.loop-place.picked.items ≡ map (λ j. get_or rows j d) places = c.loop-place.invariant d ∙ ap (map (λ j. get_or rows j d)) all in
    subst (λ (rs : List Extent). AreWithin (length c.self.inside.flat.items) rs) (sym made)
    (picked-within (length c.self.inside.flat.items) rows places d c.self.invariant (λ k h. omega (arith, long, c.requires k h)))

pub returns : goal.returns
returns c =
    let rows : List Extent = c.self.inside.rows.items in
    let flat : List ℕ = c.self.inside.flat.items in
    let places : List ℕ = c.args.places.now in
    let d : Extent = record { start = 0; end = 0 } in
    let all : take c.loop-place.place-index places ≡ places = take_all c.loop-place.place-index places (omega arith) in
    let long : length rows ≡ length c.args.self = sym (length-map rows _) ∙ ap length c.self.view_is in
    let made : c.loop-place.picked.items ≡ map (λ j. get_or rows j d) places = c.loop-place.invariant d ∙ ap (map (λ j. get_or rows j d)) all in
    ap (rows_of flat) made ∙ picked-rows flat rows places d (λ k h. omega (arith, long, c.requires k h)) ∙ ap (λ (g : List (List ℕ)). map (row g) places) c.self.view_is

use Rattle.std.proofs.Common.{◌≡◌, ◌∙◌, ◌++◌, ◌∷◌, [], ℕ, List, length, ap, arith}
use Rattle.ir_flow.specs.declared.graph.Extent.{Extent}
use Rattle.ir_flow.specs.Extents.{rows_of}
use Rattle.ir_flow.proofs.Extended.{rows-push}
use Rattle.ir_flow.proofs.graph.Edges.push.Goals as goal

pub returns : goal.returns
returns c =
    let rows : List Extent = c.self.inside.rows.items in
    let flat : List ℕ = c.self.inside.flat.items in
    let more : List ℕ = c.args.row.now in
    let r : Extent = record { start = c.len-start.result; end = c.len-end.result } in
    let flats : c.extend_from_slice.new.self.items ≡ flat ++ more = c.in_ok-extend_from_slice.ensures.items in
    let start : r.start ≡ length flat = omega (arith, c.self.inside.flat.ok) in
    let end : r.end ≡ length (flat ++ more) = omega (arith, c.extend_from_slice.new.self.ok, ap length flats) in
    ap (λ (fs : List ℕ). rows_of fs c.push.new.self.items) flats
    ∙ ap (rows_of (flat ++ more)) c.in_ok-push.ensures.items
    ∙ rows-push flat more rows r start end c.self.invariant
    ∙ ap (λ (g : List (List ℕ)). g ++ more ∷ []) c.self.view_is

use Rattle.std.proofs.Common.{List, Vec, ℕ, [], get_or, sym, ap, ◌∙◌, arith, length}
use Rattle.std.proofs.lemmas.List.{get_or-map}
use Rattle.std.specs.declared.alloc.Global.{Global}
use Rattle.ir_parse_stages.proofs.graph.Graph.next.Goals as goal

pub returns-in-Some : goal.returns-in-Some
returns-in-Some c =
    c.deref-in-Some.ensures.value
    ∙ ap (λ (row : Vec ℕ Global). row.items) (c.in-Some.ensures.lookup.1 ∙ ap (λ (rows : List (Vec ℕ Global)). get_or rows c.args.place c.in-Some.row.now) c.deref.ensures.value)
    ∙ sym (get_or-map (λ (row : Vec ℕ Global). row.items) c.self.inside.rows.items c.args.place c.in-Some.row.now [] (omega (arith, c.in-Some.ensures.lookup.3.0, ap length c.deref.ensures.value)))
    ∙ ap (λ (graph : List (List ℕ)). get_or graph c.args.place []) c.self.view_is

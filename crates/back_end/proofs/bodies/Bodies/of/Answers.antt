use Rattle.std.proofs.Common.{◌≡◌, ◌∙◌, ℕ, List, None, ap, map, rules, subst, sym}
use Rattle.ir_tree.specs.declared.module.GlobalValue.{GlobalValue}
use Rattle.back_end.specs.Inlinable.{AreSound, bodies_of, or_else}
use Rattle.back_end.specs.Walking.{named}
use Rattle.back_end.proofs.Offered.{are_sound}
use Rattle.back_end.proofs.Table.{or_else_none}
use Rattle.back_end.proofs.bodies.Bodies.of.Goals as goal

pub returns-clause-bodies : goal.returns-clause-bodies
returns-clause-bodies c =
    let gs : List GlobalValue = map (λ g. g.now) c.args.globals.now in
    let none : (name : List ℕ) → named c.new-table.result name ≡ None = λ name. search rules in
    let found : (name : List ℕ) → named c.note_all.new.table name ≡ bodies_of c.args.limit gs name =
    λ name.
    c.in_ok-note_all.ensures name ∙ ap (or_else (bodies_of c.args.limit gs name)) (none name)
    ∙ or_else_none (bodies_of c.args.limit gs name) in
    λ i. λ name. found name i

pub returns-clause-sound : goal.returns-clause-sound
returns-clause-sound c = λ all. subst AreSound (sym (returns-clause-bodies c)) (are_sound c.args.limit (map (λ g. g.now) c.args.globals.now) all)

use Rattle.std.proofs.Common.{◌∙◌, ◌+◌, ◌++◌, ◌∷◌, [], ℕ, List, length, ap, append_assoc, arith, subst, sym}
use Rattle.std.specs.List.{flat_map}
use Rattle.std.specs.Prelude.{All}
use Rattle.std.proofs.lemmas.List.{append-nil, length_push}
use Rattle.std.proofs.lemmas.List.Concat.{flat_map-append}
use Rattle.std.proofs.lemmas.List.Elements.{All-push}
use Rattle.ir_tree.specs.Names.{AllBytes}
use Rattle.lto_task.specs.Units.{name_line}
use Rattle.lto_task.proofs.Headings.{next_name}
use Rattle.lto_task.proofs.taking_apart.Reader.names.Goals as goal

pub returns-in-None : goal.returns-in-None
returns-in-None c = λ ns more all count is.
    let next =
    next_name c.loop.names c.loop.self.rest.now ns more c.loop.invariant.bytes all (omega (arith, count, c.loop.invariant.count, c.loop-test.true)) (sym c.loop.invariant.read ∙ is) in
    (rw c.in-None.is at c.in_ok-name.ensures) next.0 next.1 next.2 next.3

pub loop-preserved : goal.loop-preserved
loop-preserved c =
    let named = rw c.in-Some.is at c.in_ok-name.ensures in
    let names : List (List ℕ) = c.loop.names in
    let rest : List ℕ = c.name_line.new.self.rest.now in
    record {
      bytes = subst (All AllBytes) (sym c.in_ok-push-in-Some.ensures.ok) (All-push AllBytes names c.in-Some.name c.loop.invariant.bytes named.0);
      count = ap (λ (ns : List (List ℕ)). length ns) c.in_ok-push-in-Some.ensures.ok ∙ length_push names c.in-Some.name ∙ ap (λ (n : ℕ). n + 1) c.loop.invariant.count;
      read =
          c.loop.invariant.read ∙ ap (λ (l : List ℕ). flat_map name_line names ++ l) named.1 ∙ sym (append_assoc (flat_map name_line names) (name_line c.in-Some.name) rest)
          ∙ ap (λ (l : List ℕ). (flat_map name_line names ++ l) ++ rest) (sym (append-nil (name_line c.in-Some.name)))
          ∙ ap (λ (l : List ℕ). l ++ rest) (sym (flat_map-append name_line names (c.in-Some.name ∷ [])))
          ∙ ap (λ (ns : List (List ℕ)). flat_map name_line ns ++ rest) (sym c.in_ok-push-in-Some.ensures.ok);
    }

use Rattle.std.proofs.Common.{◌∙◌, ◌-◌, ap, take, [], ◌++◌, List, ℕ, nat_eq}
use Rattle.std.specs.HashSet.{contains}
use Rattle.dead_code.specs.Lists.{list_in, total}
use Rattle.dead_code.specs.Readers.{read_for}
use Rattle.dead_code.proofs.Measures.{shorter}
use Rattle.dead_code.proofs.Working.{one_kept, finished}
use Rattle.dead_code.proofs.worklist.kept.Goals as goal

pub loop-local-smaller : goal.loop-local-smaller
loop-local-smaller c =
    shorter c.loop-local.work.items c.pop.new.self.items c.append.new.self.items c.take-read.result.items (total c.loop-local.by_definition) (total c.take-read.new.self) c.in-Some.local c.in-Some.ensures.items c.in_ok-append.ensures.items c.take-read.ensures.fewer

pub loop-local-preserved : goal.loop-local-preserved
loop-local-preserved c =
    one_kept c.args.readers.by_effects.items (read_for c.args.readers)
    (contains nat_eq c.loop-local.kept) (contains nat_eq c.insert.new.self)
    (list_in c.loop-local.by_definition) (list_in c.take-read.new.self)
    c.loop-local.work.items c.pop.new.self.items c.append.new.self.items c.in-Some.local
    c.in-Some.ensures.items (c.in_ok-append.ensures.items ∙ ap (λ (row : List ℕ). c.pop.new.self.items ++ row) c.take-read.ensures.list)
    c.in_ok-insert.ensures.updates.0 c.take-read.ensures.left
    c.loop-local.invariant

pub returns : goal.returns
returns c =
    finished c.args.readers.by_effects.items (read_for c.args.readers)
    (contains nat_eq c.loop-local.kept) (list_in c.loop-local.by_definition) c.loop-local.work.items
    (c.in_default.ensures.items ∙ ap (λ (l : List ℕ). l ++ []) (c.in_default.ensures.rest ∙ ap (λ (n : ℕ). take (n - 1) c.loop-local.work.items) c.in_default.ensures.cases.0))
    c.loop-local.invariant

use Rattle.std.proofs.Common.{◌∙◌, ◌++◌, ◌∷◌, [], ap, sym, cond, ℕ, Option, arith}
use Rattle.combined_index.specs.Entries.{is_module}
use Rattle.combined_index.specs.Brought.{row}
use Rattle.combined_index.proofs.Filled.{row_put}
use Rattle.combined_index.proofs.lists.put.Goals as goal

pub returns-in_ok-push-clause-put : goal.returns-in_ok-push-clause-put
returns-in_ok-push-clause-put c = λ i lt.
    row_put c.args.lists.now.items c.in-Some.home c.args.number i c.index_mut.result.now c.push.new.self (omega (arith, c.if-home-len.true, c.len.ensures)) c.index_mut.ensures.value c.in_ok-push.ensures.items
    ∙ ap (λ (home : Option ℕ). row c.args.lists.now.items i ++ cond (is_module i home) (c.args.number ∷ []) []) (sym c.in-Some.is)

use Rattle.std.proofs.Common.{◌≡◌, [], ◌∷◌, ◌++◌, subst}
use Rattle.std.specs.Prelude.{OnOk}
use Rattle.ir_parse_operands.proofs.listing.Listing.put.Goals as goal

pub returns-clause-put : goal.returns-clause-put
returns-clause-put c =
    let list = c.args.self.now in
    subst (λ n. OnOk c.push.result (c.push.new.list.items ≡ list.lines.items ++ record { name = n; instr = c.args.instr; line = list.line } ∷ [])) c.take-name.ensures.value c.push.ensures.pushed

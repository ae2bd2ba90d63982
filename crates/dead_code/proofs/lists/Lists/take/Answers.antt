use Rattle.std.proofs.Common.{◌≡◌, ◌<◌, ◌≤◌, ◌∙◌, length, sym, ap, arith}
use Rattle.dead_code.specs.Lists.{list_in}
use Rattle.dead_code.proofs.Tables.{fewer, got, none_behind, nothing_taken}
use Rattle.dead_code.proofs.lists.Lists.take.Goals as goal

pub returns-then-place-len-clause-fewer : goal.returns-then-place-len-clause-fewer
returns-then-place-len-clause-fewer c =
    let rows = c.args.self.now.rows.items in
    let lt : c.args.number < length rows = omega (arith, c.if-place-len.true, c.len.ensures) in
    let list : c.replace.result.items ≡ list_in c.args.self.now c.args.number = ap (λ v. v.items) (c.replace.ensures.value ∙ c.index_mut.ensures.value) ∙ got rows c.args.number _ lt in
    let all = fewer rows c.args.number c.replace.new.dest lt (ap (λ v. v.items) c.replace.ensures.after ∙ c.new.ensures.items) in
    let long : length c.replace.result.items ≡ length (list_in c.args.self.now c.args.number) = ap length list in
    omega (arith, all, long)

pub returns-clause-list : goal.returns-clause-list
returns-clause-list c =
    let le : length c.args.self.now.rows.items ≤ c.args.number = omega (arith, c.if-place-len.false, c.len.ensures) in
    c.new-2.ensures.items ∙ sym (none_behind c.args.self.now.rows.items c.args.number le)

pub returns-clause-left : goal.returns-clause-left
returns-clause-left c = λ n.
    let le : length c.args.self.now.rows.items ≤ c.args.number = omega (arith, c.if-place-len.false, c.len.ensures) in
    nothing_taken c.args.self.now.rows.items c.args.number n le

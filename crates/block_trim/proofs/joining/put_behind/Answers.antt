use Rattle.std.proofs.Common.{◌≡◌, ◌∙◌, ◌++◌, ◌+◌, ◌≤◌, Bool, true, false, nat_eq, cond, Some, Option, ap, arith, if◌then◌else◌}
use Rattle.std.specs.Prelude.{is_some}
use Rattle.std.specs.HashMap.{get, hash_map_len}
use Rattle.block_trim.specs.declared.joining.Content.{Content}
use Rattle.block_trim.proofs.Loops.{two_steps}
use Rattle.block_trim.proofs.joining.put_behind.Goals as goal

at_most_one : (b : Bool) → (if b then 0 else 1) ≤ 1
at_most_one true = omega arith
at_most_one false = omega arith

pub returns-in_ok-insert : goal.returns-in_ok-insert
returns-in_ok-insert c = λ a there.
    let was : Some c.in-Some.content ≡ Some a = c.in-Some.ensures.value ∙ there in
    let was_is : c.in-Some.content ≡ a = cc was in
    let one : hash_map_len c.remove.new.self + 1 ≡ hash_map_len c.args.contents.now = c.in-Some.ensures.len in
    let two = c.in_ok-insert.ensures.len in
    let three = at_most_one (is_some c.in_ok-insert.field-0) in
    record {
      content = c.in_ok-whole.whole;
      lines = c.in_ok-whole.ensures.0 ∙ ap (λ (x : Content). x.lines ++ c.args.gone.lines) was_is;
      end = c.in_ok-whole.ensures.1;
      as_many = omega (arith, one, two, three);
      left = λ n.
          c.in_ok-insert.ensures.updates.0 n
          ∙ ap (λ (o : Option Content). cond (nat_eq c.args.number n) (Some c.in_ok-whole.whole) o) (c.in-Some.ensures.updates.0 n)
          ∙ two_steps (nat_eq c.args.number n) (Some c.in_ok-whole.whole) (get nat_eq c.args.contents.now n);
    }

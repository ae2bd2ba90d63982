use Rattle.std.proofs.Common.{◌≡◌, ◌∙◌, ◌++◌, ◌+◌, Bool, nat_eq, cond, None, Some, Option, refl, sym, ap, arith, if◌then◌else◌}
use Rattle.std.specs.HashMap.{get, hash_map_len}
use Rattle.std.proofs.lemmas.Bool.{ne_eqb}
use Rattle.block_trim.specs.declared.joining.Content.{Content}
use Rattle.block_trim.proofs.Loops.{one_step}
use Rattle.block_trim.proofs.joining.Joining.join.Goals as goal

pub returns-in_ok-push : goal.returns-in_ok-push
returns-in_ok-push c = λ a b apart first_left second_left.
    let gone : Some c.in-Some.gone ≡ Some b = c.in-Some.ensures.value ∙ second_left in
    let gone_is : c.in-Some.gone ≡ b = cc gone in
    let there : get nat_eq c.remove.new.self c.args.first ≡ Some a =
    c.in-Some.ensures.updates.0 c.args.first
    ∙ ap (λ (t : Bool). cond t None (get nat_eq c.args.self.now.contents c.args.first)) (ne_eqb c.args.second c.args.first (λ s. apart (sym s))) ∙ first_left in
    let grown = c.in_ok-put_behind.ensures a there in
    let one : hash_map_len c.remove.new.self + 1 ≡ hash_map_len c.args.self.now.contents = c.in-Some.ensures.len in
    record {
      candidates = refl;
      joins = c.in_ok-push.ensures.items;
      content = grown.content;
      lines = grown.lines ∙ ap (λ (x : Content). a.lines ++ x.lines) gone_is;
      end = grown.end ∙ ap (λ (x : Content). x.end) gone_is;
      fewer = omega (arith, one, grown.as_many);
      left = λ n.
          grown.left n
          ∙ ap (λ (o : Option Content). if nat_eq c.args.first n then Some grown.content else o) (c.in-Some.ensures.updates.0 n)
          ∙ one_step (nat_eq c.args.first n) (nat_eq c.args.second n) (Some grown.content) (get nat_eq c.args.self.now.contents n);
    }

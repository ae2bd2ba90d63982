use Rattle.std.proofs.Common.{◌≡◌, ◌<◌, ◌++◌, ◌∷◌, [], ℕ, List, length, get_or, set, Option, Some, None, cond, nat_eq, sym, subst, arith}
use Rattle.std.proofs.lemmas.List.{get_or_read}
use Rattle.ir_flow.specs.declared.chains.Link.{Link}
use Rattle.ir_flow.specs.Chained.{AreChains, IsLinked}
use Rattle.ir_flow.proofs.ChainLaws.{chains-put, linked-put}
use Rattle.ir_flow.proofs.chains.Chains.put.Goals as goal

pub returns-in_ok-push-clause-lists : goal.returns-in_ok-push-clause-lists
returns-in_ok-push-clause-lists c lists all =
    let links : List Link = c.args.self.now.links.items in
    let heads : List (Option ℕ) = c.args.self.now.heads.items in
    let key : ℕ = c.args.key in
    let next : Option ℕ = c.index-next.result.now in
    let inside : key < length heads = omega (arith, c.args.self.now.heads.ok) in
    let read : next ≡ get_or heads key None = get_or_read heads key next inside c.index-next.ensures None in
    let count : c.len-link.result ≡ length links = omega (arith, c.args.self.now.links.ok) in
    let grown : c.push.new.self.items ≡ links ++ record { value = c.args.value; next = next } ∷ [] = c.in_ok-push.ensures.items in
    subst (λ (ls : List Link). AreChains ls (set heads key (Some c.len-link.result)) (λ k. cond (nat_eq key k) (c.args.value ∷ lists k) (lists k))) (sym grown)
    (subst (λ (n : ℕ). AreChains (links ++ record { value = c.args.value; next = next } ∷ []) (set heads key (Some n)) (λ k. cond (nat_eq key k) (c.args.value ∷ lists k) (lists k))) (sym count)
    (chains-put links heads lists key c.args.value next inside read all))

pub invariant_of-self-then-key-len : goal.invariant_of-self-then-key-len
invariant_of-self-then-key-len c =
    let links : List Link = c.args.self.now.links.items in
    let heads : List (Option ℕ) = c.args.self.now.heads.items in
    let key : ℕ = c.args.key in
    let next : Option ℕ = c.index-next.result.now in
    let inside : key < length heads = omega (arith, c.args.self.now.heads.ok) in
    let read : next ≡ get_or heads key None = get_or_read heads key next inside c.index-next.ensures None in
    let count : c.len-link.result ≡ length links = omega (arith, c.args.self.now.links.ok) in
    let grown : c.push.new.self.items ≡ links ++ record { value = c.args.value; next = next } ∷ [] = c.in_ok-push.ensures.items in
    record {
      linked =
          subst (λ (ls : List Link). IsLinked ls (set heads key (Some c.len-link.result))) (sym grown)
          (subst (λ (n : ℕ). IsLinked (links ++ record { value = c.args.value; next = next } ∷ []) (set heads key (Some n))) (sym count) (linked-put links heads key c.args.value next inside read c.args.self.now.linked));
    }

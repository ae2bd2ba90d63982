use Rattle.std.proofs.Common.{◌≡◌, refl, ℕ, Global, ◌+◌, ◌++◌, Vec, drop, sym, ap, ◌∙◌}
use Rattle.ir_facts.specs.Clear.{keys_among}
use Rattle.ir_facts.proofs.Walking.{key_passed, key_pushed}
use Rattle.fact_sources.proofs.Stepping.{cut_at, walked}
use Rattle.ir_facts.proofs.scopes.push_keys.Goals.{then-is_among+in_ok-push, else-is_among}
use Rattle.ir_facts.proofs.scopes.push_keys.Goals as goal

pub loop-pair-preserved : goal.loop-pair-preserved
loop-pair-preserved g c =
    let among = g.L.Locals.members c.args.among.now in
    let found = c.args.found.now in
    let i = c.loop-pair.pair-index in
    let pair = c.pair-item.result in
    let old = c.loop-pair.keys.items in
    let cut = cut_at found i pair c.loop-pair-test.true c.pair-item.is in
    let one : c.if-is_among.keys.items ++ keys_among among (drop (i + 1) found) ≡ old ++ keys_among among (drop i found) = elim c.if-is_among.branch [
      | then-is_among+in_ok-push w ↦
          key_pushed among pair (drop (i + 1) found) (drop i found) old w.push.new.self.items c.if-is_among.keys.items cut (sym c.is_among.ensures ∙ w.if-is_among.true)
          (ap (λ (v : Vec ℕ Global). v.items) w.keys-is) w.in_ok-push.ensures.items
      | else-is_among w ↦
          key_passed among pair (drop (i + 1) found) (drop i found) old c.if-is_among.keys.items cut (sym c.is_among.ensures ∙ w.if-is_among.false)
          (ap (λ (v : Vec ℕ Global). v.items) w.keys-is)
    ] in
    one ∙ c.loop-pair.invariant

pub returns : goal.returns
returns g c =
    walked (keys_among (g.L.Locals.members c.args.among.now)) c.args.found.now c.loop-pair.pair-index c.loop-pair.keys.items refl c.loop-pair-test.false
    ∙ c.loop-pair.invariant
